use Rattle.std.proofs.Common.{◌≤◌, length, map, ap, refl, ◌∙◌, arith}
use Rattle.std.proofs.lemmas.List.{take_all}
use Rattle.per_codec_writing.proofs.Ordered.{form_at, within_at, entries_within, in_order_of_bits, next_of}
use Rattle.per_codec_writing.proofs.members.in_order.Goals as goal

pub get-requires : goal.get-requires
get-requires c =
    let ts = c.args.members.now in
    let within = entries_within ts c.in_ok-encodings.encodings c.in_ok-entries.entries.items c.in_ok-encodings.ensures c.in_ok-entries.ensures in
    within_at ts c.deref-entry-items.result.now c.loop-entry.entry-index _ _ (rw c.deref-entry-items.ensures.value within) c.loop-entry-test.true refl

pub loop-entry-preserved : goal.loop-entry-preserved
loop-entry-preserved c =
    let at = c.loop-entry in
    next_of c.args.members.now c.deref-entry-items.result.now at.ordered.items c.push.new.self.items at.entry-index _ _ c.get.result
    c.loop-entry-test.true at.invariant refl c.get.ensures c.in_ok-push.ensures.items

pub returns : goal.returns
returns c =
    let es = c.deref-entry-items.result.now in
    let all : length es ≤ c.loop-entry.entry-index = omega (arith, c.loop-entry-test.false) in
    in_order_of_bits c.args.members.now c.in_ok-encodings.encodings c.in_ok-entries.entries.items c.in_ok-encodings.ensures c.in_ok-entries.ensures c.loop-entry.ordered.items
    (c.loop-entry.invariant ∙ ap (map (form_at c.args.members.now)) (take_all c.loop-entry.entry-index es all ∙ c.deref-entry-items.ensures.value))
