use Rattle.std.proofs.Common.{false, Some, ap, arith, sym, ◌<◌, ◌^◌, ◌∙◌, length}
use Rattle.asn1_model.specs.Per
use Rattle.asn1_schema_constraints.specs.Bounds.{members_of}
use Rattle.asn1_schema_constraints.specs.Terms.{size_of}
use Rattle.per_codec_writing.specs.Writing.{place}
use Rattle.per_codec_writing.specs.Members.{view_forms}
use Rattle.per_codec_writing.proofs.PaddingFieldLists.{adds_same}
use Rattle.per_codec_writing.proofs.Adding.{raised}
use Rattle.per_codec_writing.proofs.HeadingForms.{members_sized}
use Rattle.per_codec_writing.proofs.Ordered.{bag_field_list, length-members}
use Rattle.per_codec_rules.specs.Variants.{is_aligned}
use Rattle.per_codec_writing.proofs.bag.push_bag.Goals as goal

pub returns-in_err-push_sized : goal.returns-in_err-push_sized
returns-in_err-push_sized c =
    let vs = c.as_slice-units.result.now in
    let al = is_aligned c.args.variant in
    let z = size_of c.args.sizes in
    let p = place c.args.output.now in
    let fits : length (view_forms vs) < 2 ^ 64 = omega (arith, length-members vs, c.as_slice-units.ensures.len, c.in_ok-ordered.ordered.small) in
    let same = bag_field_list c.args.members.now vs (λ us. Per.sized al z (members_of c.args.held) (λ c. false) us) p
    (c.in_ok-ordered.ensures ∙ ap (λ ms. Some (view_forms ms)) (sym c.as_slice-units.ensures.value)) ∙ members_sized al z c.args.held false (view_forms vs) p fits in
    raised _ _ _ _ _ c.from_residual-in_err-push_sized.ensures.1 (λ n. same ∙ n) c.in_err-push_sized.ensures

pub returns : goal.returns
returns c =
    let vs = c.as_slice-units.result.now in
    let al = is_aligned c.args.variant in
    let z = size_of c.args.sizes in
    let old = c.args.output.now in
    let fits : length (view_forms vs) < 2 ^ 64 = omega (arith, length-members vs, c.as_slice-units.ensures.len, c.in_ok-ordered.ordered.small) in
    let same = bag_field_list c.args.members.now vs (λ us. Per.sized al z (members_of c.args.held) (λ c. false) us) (place old)
    (c.in_ok-ordered.ensures ∙ ap (λ ms. Some (view_forms ms)) (sym c.as_slice-units.ensures.value)) ∙ members_sized al z c.args.held false (view_forms vs) (place old) fits in
    adds_same _ _ old c.push_sized.new.output same c.in_ok-push_sized.ensures
