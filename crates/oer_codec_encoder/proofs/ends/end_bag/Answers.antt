use Rattle.std.proofs.Common.{◌∷◌, [], ◌++◌, Vec, Global, ℕ, ap, refl, subst, sym, ◌∙◌, arith}
use Rattle.asn1_values_bits.proofs.Refused.{though_refused}
use Rattle.asn1_values_identifiers.proofs.Begins.{begins_same}
use Rattle.oer_codec_writing.specs.Writing.{Adds}
use Rattle.oer_codec_encoder.proofs.BagScopes.{bag_text, ends_with_open, ends_without}
use Rattle.oer_codec_encoder.proofs.ends.end_bag.Goals as goal

pub returns-then-bag-gt0-clause-kept : goal.returns-then-bag-gt0-clause-kept
returns-then-bag-gt0-clause-kept c = begins_same _ _ refl

pub returns-in_default-clause-step : goal.returns-in_default-clause-step
returns-in_default-clause-step c = ends_without c.args.bag.now c.args.octets.now.items c.exchange.new.octets.items (omega (arith, c.if-bag-gt0.false))
    (sym c.take.ensures.value ∙ c.in_default.is) (ap (λ v. v.items) c.exchange.ensures.octets)

pub returns-in_err-push_members-clause-kept : goal.returns-in_err-push_members-clause-kept
returns-in_err-push_members-clause-kept c = though_refused _ c.in_err-push_members.ensures.kept

pub returns-clause-step : goal.returns-clause-step
returns-clause-step c =
    let b = c.args.bag.now in
    let last = c.as_slice.result.now in
    let ms = c.in-Some.members in
    ends_with_open b c.args.octets.now.items c.exchange-2.new.octets.items b.outer.items last ms (omega (arith, c.if-bag-gt0.false))
    (sym c.take.ensures.value ∙ c.in-Some.is) c.as_slice.ensures.value refl
    (subst (λ (v : Vec ℕ Global). Adds (bag_text (ms ++ last ∷ [])) b.outer.items v.items) (sym c.exchange-2.ensures.octets) c.in_ok-push_members.ensures.text)
