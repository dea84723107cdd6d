use Rattle.std.proofs.Common.{rules, ℕ, Vec, Global, ◌≡◌, ◌∷◌, MatchResult, Some, reverse, refl, subst, sym, ◌∙◌, ap}
use Rattle.std.specs.Box.{with_value}
use Rattle.asn1_model.specs.Versions.{Begins}
use Rattle.asn1_schema_scopes.specs.Stacks.{stacked}
use Rattle.oer_codec_encoder.specs.declared.frame.Bag.{Bag as BagFrame}
use Rattle.oer_codec_encoder.specs.declared.frame.Frame.TheVariants.{Members, Bag}
use Rattle.oer_codec_encoder.specs.Frames.{NoMember}
use Rattle.oer_codec_encoder.specs.Holding.{NextOfBag}
use Rattle.oer_codec_encoder.proofs.Going.{bag_goes_on}
use Rattle.oer_codec_encoder.proofs.Scopes.{does_whether_further}
use Rattle.asn1_values_bits.proofs.Refused.{though_refused}
use Rattle.asn1_values_identifiers.proofs.Begins.{begins_same}
use Rattle.oer_codec_encoder.proofs.EarlierOctets.{keeps_bag, keeps_members, keeps_same}
use Rattle.std.proofs.lemmas.Result.{on_err_weaker}
use Rattle.oer_codec_encoder.proofs.frames.encode_other_further.Goals as goal

pub returns-clause-step : goal.returns-clause-step
returns-clause-step c =
    let f = c.in-Some-Members in
    let due = c.count_member.new.due in
    let s = c.others.inside in
    let at : s.innermost ≡ Some (Members f.due) = cc in
    let old : c.args.others.now ≡ Members f.due ∷ reverse s.outer.items = sym c.others.view_is ∙ ap (λ i. stacked i s.outer.items) at in
    let counted = c.in_ok-count_member-in-Some-Members.ensures in
    does_whether_further c.args.others.now (reverse s.outer.items) _ f.due due c.args.octets.now.items c.args.more old counted.0 counted.1 refl

pub returns-in_err-count_member-in-Some-Members-clause-kept : goal.returns-in_err-count_member-in-Some-Members-clause-kept
returns-in_err-count_member-in-Some-Members-clause-kept c =
    let f = c.in-Some-Members in
    let due = c.count_member.new.due in
    let s = c.others.inside in
    let at : s.innermost ≡ Some (Members f.due) = cc in
    let old : c.args.others.now ≡ Members f.due ∷ reverse s.outer.items = sym c.others.view_is ∙ ap (λ i. stacked i s.outer.items) at in
    though_refused _ (keeps_members c.args.others.now (reverse s.outer.items) _ f.due due c.args.octets.now.items old refl)

pub returns-in-Some-Bag-clause-step : goal.returns-in-Some-Bag-clause-step
returns-in-Some-Bag-clause-step c =
    let f = c.in-Some-Bag in
    let more = c.args.more in
    let o = c.args.octets.now.items in
    let next = with_value f.bag c.next_of_bag.new.bag in
    let p = c.next_of_bag.new.octets.items in
    let s = c.others.inside in
    let at : s.innermost ≡ Some (Bag f.bag) = cc in
    let old : c.args.others.now ≡ Bag f.bag ∷ reverse s.outer.items = sym c.others.view_is ∙ ap (λ i. stacked i s.outer.items) at in
    let goes : MatchResult c.next_of_bag.result (λ _. NextOfBag more f.bag.value o next.value p) (NoMember more f.bag.value.due) =
    subst (λ (b : BagFrame). MatchResult c.next_of_bag.result (λ _. NextOfBag more b o next.value p) (NoMember more b.due)) c.deref_mut.ensures.value c.next_of_bag.ensures.step in
    bag_goes_on more c.args.others.now (reverse s.outer.items) _ f.bag next o p c.next_of_bag.result old goes refl

pub returns-in-Some-Bag-clause-kept : goal.returns-in-Some-Bag-clause-kept
returns-in-Some-Bag-clause-kept c =
    let f = c.in-Some-Bag in
    let o = c.args.octets.now.items in
    let next = with_value f.bag c.next_of_bag.new.bag in
    let s = c.others.inside in
    let at : s.innermost ≡ Some (Bag f.bag) = cc in
    let old : c.args.others.now ≡ Bag f.bag ∷ reverse s.outer.items = sym c.others.view_is ∙ ap (λ i. stacked i s.outer.items) at in
    let p = c.next_of_bag.new.octets.items in
    let same : c.next_of_bag.new.bag.outer ≡ c.deref_mut.result.now.outer → Begins f.bag.value.outer.items next.value.outer.items = λ e.
    begins_same f.bag.value.outer.items next.value.outer.items (ap (λ (v : Vec ℕ Global). v.items) e ∙ ap (λ (b : BagFrame). b.outer.items) c.deref_mut.ensures.value) in
    on_err_weaker c.next_of_bag.result (λ e. keeps_bag c.args.others.now (reverse s.outer.items) _ f.bag next o p old refl (same e)) c.next_of_bag.ensures.kept

pub returns-in_default-clause-kept : goal.returns-in_default-clause-kept
returns-in_default-clause-kept c = keeps_same _ _ _ _ (search rules) refl
