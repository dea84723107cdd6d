use Rattle.std.proofs.Common.{ap, ◌∙◌, refl}
use Rattle.asn1_schema_constraints.specs.Bounds.{members_of}
use Rattle.asn1_schema_constraints.specs.Terms.{sizes_of}
use Rattle.oer_codec_encoder.specs.declared.frame.Bag.{Bag}
use Rattle.asn1_schema_laws.specs.Records.{bag_begins}
use Rattle.oer_codec_encoder.specs.Holding.{Cannot}
use Rattle.oer_codec_encoder.proofs.Refusals.{no_text, passed_on}
use Rattle.oer_codec_encoder.proofs.BagScopes.{does_begin_bag, no_begin_bag}
use Rattle.asn1_values_bits.proofs.Refused.{though_refused}
use Rattle.oer_codec_writing.proofs.Fronts.{begins_text}
use Rattle.oer_codec_encoder.proofs.EarlierOctets.{keeps_behind}
use Rattle.oer_codec_encoder.proofs.bags.begin_bag.Goals as goal

pub returns-in_err-push_count-clause-step : goal.returns-in_err-push_count-clause-step
returns-in_err-push_count-clause-step c =
    let z = sizes_of c.args.constraints.now.size in
    let h = members_of c.args.held in
    let fs = c.args.frames.now in
    let o = c.args.octets.now.items in
    passed_on _ (Cannot (bag_begins z h c.args.count) fs o) _ _ c.from_residual.ensures.0 c.from_residual.ensures.1
    (no_text (bag_begins z h c.args.count) _ fs o c.in_err-push_count.field-0.0 (no_begin_bag z h c.args.count) c.in_err-push_count.ensures.text)

pub set_aside-requires : goal.set_aside-requires
set_aside-requires c = (c.in_ok-boxed.boxed, c.args.frames.now, c.in_ok-open.ensures.ok)

pub returns-clause-step : goal.returns-clause-step
returns-clause-step c =
    let outer = c.push_count.new.octets in
    let held = c.in_ok-boxed.ensures.ok in
    let t = c.set_aside.ensures c.in_ok-boxed.boxed c.args.frames.now c.in_ok-open.ensures.ok in
    does_begin_bag c.args.frames.now c.set_aside.new.self c.args.octets.now.items outer.items c.set_aside.new.octets.items
    (sizes_of c.args.constraints.now.size) (members_of c.args.held) c.args.count outer t.0 c.in_ok-push_count.ensures.text refl
    (ap (λ v. v.items) t.3 ∙ ap (λ (b : Bag). b.outer.items) held ∙ c.new.ensures.items) (t.2 ∙ ap (λ (b : Bag). record b { outer = outer }) held) t.1

pub returns-in_err-push_count-clause-kept : goal.returns-in_err-push_count-clause-kept
returns-in_err-push_count-clause-kept c = though_refused _ (keeps_behind _ _ _ _ refl c.in_err-push_count.ensures.kept)

pub returns-in_err-boxed-clause-kept : goal.returns-in_err-boxed-clause-kept
returns-in_err-boxed-clause-kept c = though_refused _ (keeps_behind _ _ _ _ refl (begins_text _ c.args.octets.now.items c.push_count.new.octets.items c.in_ok-push_count.ensures.text))

pub returns-in_err-open-clause-kept : goal.returns-in_err-open-clause-kept
returns-in_err-open-clause-kept c =
    though_refused _ (keeps_behind _ _ _ _ c.in_err-open.ensures.kept (begins_text _ c.args.octets.now.items c.push_count.new.octets.items c.in_ok-push_count.ensures.text))
