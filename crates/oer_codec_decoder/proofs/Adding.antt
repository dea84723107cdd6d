-- How octets begin with additions, and their presence bits.
use Rattle.std.proofs.Common.{◌≡◌, ℕ, zero, suc, ◌<◌, Bool, true, false, List, [], ◌∷◌, drop, refl, sym, ◌∙◌, subst, arith}
use Rattle.asn1_model.specs.Oer
use Rattle.asn1_schema_errors.specs.declared.DecodeError.{DecodeError}
use Rattle.asn1_schema_errors.specs.declared.DecodeError.TheVariants.{AlreadyFailed}
use Rattle.oer_codec_reading.specs.Fronts.{Misses}
use Rattle.oer_codec_reading.specs.Skipping.{SkipsNone}
use Rattle.oer_codec_reading.proofs.Fronts.{missed, not_before}
use Rattle.oer_codec_reading.proofs.Skipping.{as_stands}
use Rattle.oer_codec_laws.specs.Takes.{Scope, added, State, Opens, NextAddition, Skips, Ends}
use Rattle.asn1_schema_reading_laws.specs.PresenceBits.{first_bits}
use Rattle.oer_codec_decoder.specs.Refusals.{NoAdditions, NotFinished, NotOpened}
use Rattle.oer_codec_decoder.specs.Scopes.{NextPresent}

-- ---- the start of additions
pub no_bitmap : (free : Oer.Freedom → Bool) (n : ℕ) (os : List ℕ) (m : Bool) (e : DecodeError) → m ≡ true → Misses free Oer.counted_bits os e → NoAdditions free m n os e
no_bitmap free n os false e f h = cc f
no_bitmap free n os true e f h =
    record { none = λ i k b t. missed free Oer.counted_bits os e h i t.0 b.0 (as_stands free (Oer.counted_bits t.0) os b.0 t.2); fresh = not_before free Oer.counted_bits os e h }

-- ---- open types
pub not_opened : (free : Oer.Freedom → Bool) (os : List ℕ) (e : DecodeError) → Misses free Oer.counted os e → NotOpened free os e
not_opened free os e h = record { none = λ i k b t. missed free Oer.counted os e h i b.0 t.0 (as_stands free (Oer.counted b.0) os t.0 t.1); fresh = not_before free Oer.counted os e h }

-- ---- the next addition

-- whether the next addition is present is its presence bit
pub none_next : (free : Oer.Freedom → Bool) (w : Bool) (os : List ℕ) (k : List Scope) (b : State) → ((v : Bool) (after : List Scope) → NextPresent v k after → ⊥) → NextAddition free w os k b → ⊥
none_next free w os (added (true ∷ ms) us ∷ k) b none t = none true (added ms us ∷ k) (refl, refl)
none_next free w os (added (false ∷ ms) us ∷ k) b none t = none false (added ms us ∷ k) (refl, refl)
none_next free w os [] b none t = t
none_next free w os (s ∷ k) b none t = absurd t

pub none_opened : (free : Oer.Freedom → Bool) (v w : Bool) (os : List ℕ) (k after : List Scope) (b : State) → v ≡ true → NextPresent v k after →
    ((b : State) → Opens free os after b → ⊥) → NextAddition free w os k b → ⊥
none_opened free v w os (added (true ∷ ms) us ∷ k) after b e n none t = none b (subst (λ s. Opens free os s b) (sym n.1) t.1)
none_opened free v w os (added (false ∷ ms) us ∷ k) after b e n none t = let f : true ≡ false = sym e ∙ n.0 in cc f
none_opened free v w os [] after b e n none t = absurd n
none_opened free v w os (s ∷ k) after b e n none t = absurd n

-- ---- the end
pub skipped : (free : Oer.Freedom → Bool) (n : ℕ) (bs : List Bool) (os rest : List ℕ) (k : List Scope) → n ≡ 0 → Skips free bs os rest →
    Ends free os (added (first_bits n bs) (drop n bs) ∷ k) (rest, k)
skipped free zero bs os rest k e s = (s, refl)
skipped free (suc n) bs os rest k e s = cc e

pub not_skipped : (free : Oer.Freedom → Bool) (n : ℕ) (bs : List Bool) (os : List ℕ) (e : DecodeError) → n ≡ 0 → SkipsNone free bs os e → NotFinished free (added (first_bits n bs) (drop n bs)) os e
not_skipped free zero bs os e z h = record { none = λ i k b t. h.none i b.0 t.0; fresh = h.fresh }
not_skipped free (suc n) bs os e z h = cc z

pub still_due : (free : Oer.Freedom → Bool) (n : ℕ) (bs : List Bool) (os : List ℕ) (e : DecodeError) → 0 < n → ¬ (e ≡ AlreadyFailed) → NotFinished free (added (first_bits n bs) (drop n bs)) os e
still_due free zero bs os e h f = absurd (omega (arith, h))
still_due free (suc n) [] os e h f = record { none = λ i k b t. t; fresh = f }
still_due free (suc n) (c ∷ bs) os e h f = record { none = λ i k b t. t; fresh = f }
