-- The results of encoding, by the octets that their encoder holds.
use Rattle.std.proofs.Common.{◌≡◌, ℕ, ◌<◌, ◌≤◌, ◌^◌, ltb, suc, Bool, true, false, cond, List, length, Option, Some}
use Rattle.std.proofs.Common.{None, option_and_then, Result, Ok, Err, Vec, Global, IfOk, IfErr, MatchResult, refl, sym}
use Rattle.std.proofs.Common.{◌∙◌, ap, subst, arith}
use Rattle.std.proofs.lemmas.Bool.{le-leb, leb-true}
use Rattle.asn1_model.specs.Schema.{Schema}
use Rattle.asn1_model.specs.Value.{Value}
use Rattle.asn1_model.specs.Rules.{Rules, of_moderate_length}
use Rattle.asn1_schema_faults.specs.declared.EncodeError.{EncodeError}
use Rattle.asn1_schema_faults.specs.declared.EncodeError.TheVariants.{TooLongValue}
use Rattle.asn1_schema_encode.specs.Written.{IsWrittenIn, HasTextIn, NotWrittenIn}

-- the limit on the length of an encoding
pub short_enough : (w : List ℕ) → length w < 2 ^ 60 → of_moderate_length w ≡ Some w
short_enough w h = ap (λ b. cond b (Some w) None) (le-leb (suc (length w)) (2 ^ 60) h)

pub too_long : (w : List ℕ) → 2 ^ 60 ≤ length w → of_moderate_length w ≡ None
too_long w h = go (ltb (length w) (2 ^ 60)) refl
  where
    go : (b : Bool) → ltb (length w) (2 ^ 60) ≡ b → of_moderate_length w ≡ None
    go false e = ap (λ b. cond b (Some w) None) e
    go true e = let l = leb-true (suc (length w)) (2 ^ 60) e in absurd (omega (arith, h, l))

-- the result: the octets, or that they are too many
abbrev pub Kept : List ℕ → Result (Vec ℕ Global) EncodeError → Type 0
Kept w r = MatchResult r (λ kept. (kept.items ≡ w) × (length w < 2 ^ 60)) (λ e. (e ≡ TooLongValue) × (2 ^ 60 ≤ length w))

module _ (rules : List Rules) (schema : ℕ → Schema) (v : Value) (o : Option (List ℕ)) (w : List ℕ) where
  pub encoded : (r : Result (Vec ℕ Global) EncodeError) → IsWrittenIn rules schema v (option_and_then of_moderate_length o) → o
      ≡ Some w → Kept w r → IfOk r (λ octets. IsWrittenIn rules schema v (Some octets.items))
  encoded (Ok kept) h e k = subst (IsWrittenIn rules schema v) (ap (option_and_then of_moderate_length) e ∙ short_enough w k.1 ∙ ap Some (sym k.0)) h
  encoded (Err x) h e k = tt

  pub not_encoded : (r : Result (Vec ℕ Global) EncodeError) → IsWrittenIn rules schema v (option_and_then of_moderate_length o) →
      HasTextIn rules schema v o → o ≡ Some w → Kept w r → IfErr r (NotWrittenIn rules schema v)
  not_encoded (Ok kept) h t e k = tt
  not_encoded (Err x) h t e k = record {
    none = λ n. subst (IsWrittenIn rules schema v) (ap (option_and_then of_moderate_length) e ∙ too_long w k.1) h;
    long = λ _. record { text = w; has = subst (HasTextIn rules schema v) e t; beyond = k.1 };
    bare = λ n m. absurd (m k.0);
  }
