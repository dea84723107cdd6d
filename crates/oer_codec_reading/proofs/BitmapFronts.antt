-- Octets that begin with a presence bitmap.
use Rattle.std.proofs.Common.{◌≡◌, ℕ, ◌+◌, ◌/◌, ◌%◌, ◌^◌, ◌<◌, ◌==◌, Bool, false, inl, List, [], ◌∷◌, ◌++◌, drop}
use Rattle.std.proofs.Common.{length, replicate, Some, None, slice_get, refl, sym, ap, ◌∙◌, subst, arith, append_assoc}
use Rattle.std.proofs.Math.Nat.{mod-eq_of_lt}
use Rattle.std.proofs.lemmas.Bool.{eqb-true}
use Rattle.asn1_model.specs.Form.{Reads}
use Rattle.asn1_model.specs.Numbers.{binary, missing}
use Rattle.asn1_model.specs.Oer.{Freedom, any_unused_bits, bit_string_form, bits_form, counted_bits, empty_bit_string, length_form}
use Rattle.asn1_schema_errors.specs.declared.DecodeError.{DecodeError}
use Rattle.asn1_values_bits.proofs.Binary.{low_zeros}
use Rattle.oer_codec_laws.proofs.Anywhere.{Anywhere, moves_exactly, moves_if, moves_varied}
use Rattle.oer_codec_reading.specs.declared.rules.EncodingRules.{EncodingRules}
use Rattle.oer_codec_reading.specs.Bits.{bits_in}
use Rattle.oer_codec_reading.specs.Fronts.{freedoms, Stands, NoneStands, Misses}
use Rattle.oer_codec_reading.proofs.Fronts.{if_front, misses_also, varied_stands}
use Rattle.oer_codec_reading.proofs.LengthFronts.{length_one}
use Rattle.oer_codec_reading.proofs.BitStringFronts.{wrong_bits}

-- the first bit, and those after it
pub first_and_others : (bs : List Bool) (b : Bool) → slice_get bs 0 ≡ Some b → bs ≡ b ∷ drop 1 bs
first_and_others [] b e = cc
first_and_others (c ∷ bs) b e = let f : c ≡ b = cc in ap (λ x. x ∷ bs) f

pub no_first : (bs : List Bool) → slice_get bs 0 ≡ None → bs ≡ []
no_first [] e = refl
no_first (b ∷ bs) e = cc

-- a number with no bit set
pub zero_bits : (w n : ℕ) (bs : List Bool) → n < 2 ^ w → binary w n ≡ bs → bs ≡ replicate w false → n ≡ 0
zero_bits w n bs h e f = let z : n % 2 ^ w ≡ 0 = low_zeros w n (e ∙ f) in sym (mod-eq_of_lt h) ∙ z

-- the number of octets of bits after their length determinant
abbrev octets_of : ℕ → ℕ
octets_of n = (n + 7) / 8 + 1

counted_length : (free : Freedom → Bool) (bs : List Bool) (w rest : List ℕ) → Stands free (counted_bits bs) w rest → (mid : List ℕ) × Stands free (length_form (octets_of (length bs))) w mid
unfolding Reads counted_bits
counted_length free bs w rest h = let u = h.2 in (u.1 ++ rest, (u.0, sym (append_assoc u.0 u.1 rest) ∙ ap (λ c. c ++ rest) u.4 ∙ h.1, u.2))

-- bits have one text at each position
bits_move : (free : Freedom → Bool) (bs : List Bool) → Anywhere free (bits_form bs)
unfolding bits_form
bits_move free bs = moves_varied free {c = any_unused_bits} (λ unused. moves_if free _ (moves_exactly free _))

counted_stands : (free : Freedom → Bool) (bs : List Bool) (w mid rest : List ℕ) →
    Stands free (length_form (octets_of (length bs))) w (missing (length bs) ∷ mid) → Stands free (bits_form bs) mid rest → Stands free (counted_bits bs) w rest
unfolding Reads counted_bits
counted_stands free bs w mid rest l b =
    let m = missing (length bs) in
    let t : (l.0 ++ (m ∷ b.0)) ++ rest ≡ w = append_assoc l.0 (m ∷ b.0) rest ∙ ap (λ c. l.0 ++ (m ∷ c)) b.1 ∙ l.1 in
    (l.0 ++ (m ∷ b.0), t, (l.0, m ∷ b.0, l.2, (m ∷ [], b.0, refl, (bits_move free bs).moved 0 _ b.0 b.2, refl), refl))

as_string : (free : Freedom → Bool) (bs : List Bool) (w rest : List ℕ) → Stands free (counted_bits bs) w rest → Stands free (bit_string_form false bs) w rest
unfolding bit_string_form
as_string free bs w rest h = varied_stands free empty_bit_string false false _ w rest (inl refl) h

module _ (r : EncodingRules) where
  -- without a string of bits there is no bitmap
  pub no_bitmap : (w : List ℕ) → NoneStands (freedoms r) (bit_string_form false) w → NoneStands (freedoms r) counted_bits w
  no_bitmap w none bs rest h = none bs rest (as_string (freedoms r) bs w rest h)

  pub no_length : (w : List ℕ) → NoneStands (freedoms r) length_form w → NoneStands (freedoms r) counted_bits w
  no_length w none bs rest h = let c = counted_length (freedoms r) bs w rest h in none (octets_of (length bs)) c.0 c.1

  pub empty_length : (w mid : List ℕ) (n : ℕ) → n ≡ 0 → Stands (freedoms r) (length_form n) w mid → NoneStands (freedoms r) counted_bits w
  empty_length w mid n z h bs rest s =
      let c = counted_length (freedoms r) bs w rest s in
      let o = (length_one (freedoms r) n (octets_of (length bs)) w mid c.0 h c.1).0 in
      absurd (omega (arith, z, o))

  some_bits : (w mid rest : List ℕ) (n u k : ℕ) (bs : List Bool) → Stands (freedoms r) (length_form n) w (u ∷ mid) → octets_of k ≡ n → missing k ≡ u →
      Stands (freedoms r) (bits_in k bs) mid rest → Stands (freedoms r) (counted_bits bs) w rest
  some_bits w mid rest n u k bs h e f s =
      let i = if_front (freedoms r) (length bs == k) (bits_form bs) mid rest s in
      let l : length bs ≡ k = eqb-true _ _ i.0 in
      let a : n ≡ octets_of (length bs) = sym e ∙ ap octets_of (sym l) in
      let b : u ≡ missing (length bs) = sym f ∙ ap missing (sym l) in
      counted_stands (freedoms r) bs w mid rest (subst (λ x. Stands (freedoms r) (length_form x) w (missing (length bs) ∷ mid)) a
      (subst (λ x. Stands (freedoms r) (length_form n) w (x ∷ mid)) b h)) i.1

  pub bitmap_read : (bs : List Bool) (w mid new rest : List ℕ) (n u k : ℕ) → mid ≡ u ∷ new → (k + 7) / 8 + 1 ≡ n → missing k ≡ u →
      Stands (freedoms r) (length_form n) w mid → Stands (freedoms r) (bits_in k bs) new rest → Stands (freedoms r) (counted_bits bs) w rest
  bitmap_read bs w mid new rest n u k e f g h s = some_bits w new rest n u k bs (subst (λ m. Stands (freedoms r) (length_form n) w m) e h) f g s

  pub bitmap_refused : (x : DecodeError) (w mid new : List ℕ) (n u k : ℕ) → (n ≡ 0 → ⊥) → mid ≡ u ∷ new → (k + 7) / 8 + 1 ≡ n → missing k ≡ u →
      Stands (freedoms r) (length_form n) w mid → Misses (freedoms r) (bits_in k) new x → Misses (freedoms r) counted_bits w x
  bitmap_refused x w mid new n u k z e f g h m = misses_also (freedoms r) (bits_in k) counted_bits new w x (λ none. no_bitmap w (wrong_bits r w mid new n u k z e f g h none)) m
