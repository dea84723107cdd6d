use Rattle.std.proofs.Common.{[], length, get_or, ap, ◌∙◌, arith}
use Rattle.std.specs.List.{slice_range}
use Rattle.asn1_schema_order.proofs.Spans.{has_span, within_at, cut_at}
use Rattle.asn1_schema_order.proofs.encodings.Encodings.get.Goals as goal

pub index-span-requires : goal.index-span-requires
index-span-requires c = omega (arith, has_span c.self.inside.octets.items c.self.inside.spans.items c.args.self.now c.args.index c.self.view_is c.requires, c.self.inside.spans.ok.0)

pub slice_bounds-result-count : goal.slice_bounds-result-count
slice_bounds-result-count c =
    let spans = c.self.inside.spans.items in
    let there = has_span c.self.inside.octets.items spans c.args.self.now c.args.index c.self.view_is c.requires in
    (within_at (length c.self.inside.octets.items) spans c.args.index c.index-span.result.now c.index-span.result.now c.self.invariant there c.index-span.ensures).0

pub slice_bounds-result-start : goal.slice_bounds-result-start
slice_bounds-result-start c =
    let spans = c.self.inside.spans.items in
    let there = has_span c.self.inside.octets.items spans c.args.self.now c.args.index c.self.view_is c.requires in
    (within_at (length c.self.inside.octets.items) spans c.args.index c.index-span.result.now c.index-span.result.now c.self.invariant there c.index-span.ensures).0

pub slice_bounds-result-end : goal.slice_bounds-result-end
slice_bounds-result-end c =
    let spans = c.self.inside.spans.items in
    let there = has_span c.self.inside.octets.items spans c.args.self.now c.args.index c.self.view_is c.requires in
    let end = (within_at (length c.self.inside.octets.items) spans c.args.index c.index-span.result.now c.index-span.result.now c.self.invariant there c.index-span.ensures).1 in
    omega (arith, end, ap length c.deref.ensures.value)

pub returns : goal.returns
returns c =
    let spans = c.self.inside.spans.items in
    let there = has_span c.self.inside.octets.items spans c.args.self.now c.args.index c.self.view_is c.requires in
    let span = c.index-span.result.now in
    ap (λ l. slice_range l span.from span.to) c.deref.ensures.value ∙ cut_at c.self.inside.octets.items spans c.args.index span span [] there c.index-span.ensures
    ∙ ap (λ l. get_or l c.args.index []) c.self.view_is
