-- The innermost frame, changed in place.
use Rattle.std.proofs.Common.{◌≡◌, Bool, List, ◌∷◌, reverse, Option, Some, Result, Ok, Err, MatchResult, ap, subst, sym, ◌∙◌}
use Rattle.asn1_schema_scopes.specs.Stacks.{stacked}
use Rattle.asn1_schema_errors.specs.declared.EncodeError.{EncodeError}
use Rattle.asn1_schema_errors.specs.declared.EncodeError.TheVariants.{OutOfMemory}
use Rattle.asn1_schema_laws.specs.Records.{Record, ends}
use Rattle.per_codec_packing.specs.Packed.{Packed}
use Rattle.per_codec_encoder.specs.declared.frame.Frame.{Frame}
use Rattle.per_codec_encoder.specs.Holding.{Does, Cannot}

pub innermost_is : (fs outer : List Frame) (t : Option Frame) (f : Frame) → stacked t outer ≡ fs → t ≡ Some f → fs ≡ f ∷ reverse outer
innermost_is fs outer t f a e = sym a ∙ ap (λ u. stacked u outer) e

-- what was done to the innermost frame, whatever encloses it, was done to all
pub done_within : (al : Bool) (x : Record) (rest : List Frame) (f g : Frame) (o p : Packed) (r : Result (Unit {0}) EncodeError) (fs : List Frame) → fs ≡ f ∷ rest
    → MatchResult r (λ _. (ks : List Frame) → Does al x (f ∷ ks) o (g ∷ ks) p) (λ e. (ks : List Frame) → Cannot al x (f ∷ ks) o e)
    → MatchResult r (λ _. Does al x fs o (g ∷ rest) p) (Cannot al x fs o)
done_within al x rest f g o p (Ok u) fs a m = subst (λ k. Does al x k o (g ∷ rest) p) (sym a) (m rest)
done_within al x rest f g o p (Err e) fs a m = subst (λ k. Cannot al x k o e) (sym a) (m rest)

pub around_is : (fs rest : List Frame) (f g : Frame) → fs ≡ f ∷ rest → f ≡ g → fs ≡ g ∷ rest
around_is fs rest f g a b = a ∙ ap (λ x. x ∷ rest) b

-- what ends the innermost frame, whatever encloses it, leaves what encloses it
module _ (al : Bool) (fs rest : List Frame) (f g : Frame) (o p : Packed) (a : fs ≡ f ∷ rest) (b : f ≡ g) where
  pub ended_within : (r : Result (Unit {0}) EncodeError)
      → MatchResult r (λ _. (ks : List Frame) → Does al ends (g ∷ ks) o ks p) (λ e. (ks : List Frame) → Cannot al ends (g ∷ ks) o e)
      → MatchResult r (λ _. Does al ends fs o rest p) (Cannot al ends fs o)
  ended_within (Ok u) m = subst (λ k. Does al ends k o rest p) (sym (around_is fs rest f g a b)) (m rest)
  ended_within (Err e) m = subst (λ k. Cannot al ends k o e) (sym (around_is fs rest f g a b)) (m rest)

  pub ended_unless_full : (r : Result (Unit {0}) EncodeError)
      → MatchResult r (λ _. (ks : List Frame) → Does al ends (g ∷ ks) o ks p) (λ e. e ≡ OutOfMemory)
      → MatchResult r (λ _. Does al ends fs o rest p) (Cannot al ends fs o)
  ended_unless_full (Ok u) m = subst (λ k. Does al ends k o rest p) (sym (around_is fs rest f g a b)) (m rest)
  ended_unless_full (Err e) m = subst (Cannot al ends fs o) (sym m) tt
