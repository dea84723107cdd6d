-- Bits that begin with octets after a length determinant, as units of eight bits.
use Rattle.std.proofs.Common.{◌≡◌, ℕ, zero, suc, ◌*◌, ◌/◌, ◌%◌, ◌==◌, Bool, true, false, List, [], ◌∷◌, ◌++◌, length}
use Rattle.std.proofs.Common.{replicate, refl, ap, sym, ◌∙◌, subst, arith, length-append, Fits, w8, get_or, append-nil}
use Rattle.std.proofs.lemmas.Bool.{eqb-true, eq-eqb, and_from, lt-ltb}
use Rattle.asn1_model.specs.Numbers.{binary, missing, octet_bits, packed}
use Rattle.asn1_model.specs.Strings.{is_octet}
use Rattle.std.specs.List.{list_all}
use Rattle.asn1_model.specs.Form.{exactly}
use Rattle.asn1_model.specs.Per
use Rattle.asn1_laws_values.proofs.Octets.{packed_octets}
use Rattle.asn1_values_bits.specs.Octets.{padded}
use Rattle.per_codec_laws.specs.Takes.{Position, Front}
use Rattle.per_codec_laws.proofs.Fronts.{if_in, if_out}
use Rattle.per_codec_reading.specs.Fronts.{NoneStands}
use Rattle.per_codec_reading.specs.Units.{Units, units_of, counted_units}

-- ---- octets
pub fits_octets : (os : List ℕ) → ((i : ℕ) → Fits w8 (get_or os i 0)) → list_all is_octet os ≡ true
fits_octets [] h = refl
fits_octets (o ∷ os) h = and_from _ _ (lt-ltb o 256 (h zero).fits) (fits_octets os (λ i. h (suc i)))

pub whole_padded : (bs : List Bool) → length bs % 8 ≡ 0 → padded bs ≡ bs
whole_padded bs h = let m : missing (length bs) ≡ 0 = omega arith in ap (λ k. bs ++ replicate k false) m ∙ append-nil bs

pub packed_small : (bs : List Bool) → length bs % 8 ≡ 0 → list_all is_octet (packed (padded bs)) ≡ true
packed_small bs h =
    let e = whole_padded bs h in
    let k : length (padded bs) ≡ 8 * (length bs / 8) = ap length e ∙ omega arith in
    packed_octets (length bs / 8) (padded bs) k

pub length-octet_bits : (os : List ℕ) → length (octet_bits os) ≡ length os * 8
length-octet_bits [] = refl
length-octet_bits (o ∷ os) = let i = length-octet_bits os in length-append (binary 8 o) (octet_bits os) ∙ omega arith

pub octet_pieces : (os : List ℕ) → units_of 8 (length os) (octet_bits os) ≡ Per.octet_units os
octet_pieces [] = refl
octet_pieces (o ∷ os) = ap (λ us. exactly (binary 8 o) ∷ us) (octet_pieces os)

module _ (free : Per.Freedom → Bool) where
  -- Units of a width have this number of bits.
  pub counted_size : (al : Bool) (w n : ℕ) (bs : List Bool) (a b : Position) → Front free (counted_units al w (n, bs)) a b → length bs ≡ n * w
  counted_size al w n bs a b f = eqb-true _ _ (if_out free (length bs == n * w) _ a b f).0

  pub octets_front : (al : Bool) (us : Units) (os : List ℕ) (a b : Position) → Front free (counted_units al 8 us) a b → list_all is_octet os ≡ true →
      octet_bits os ≡ us.1 → Front free (Per.counted_octets al os) a b
  unfolding Per.counted_octets
  octets_front al us os a b f s e =
      let i = if_out free (length us.1 == us.0 * 8) _ a b f in
      let n = eqb-true _ _ i.0 in
      let l = length-octet_bits os in
      let m = ap length e in
      let k : us.0 ≡ length os = omega arith in
      let q : units_of 8 us.0 us.1 ≡ Per.octet_units os = ap (λ j. units_of 8 j us.1) k ∙ ap (units_of 8 (length os)) (sym e) ∙ octet_pieces os in
      if_in free (list_all is_octet os) _ a b s (subst (λ x. Front free (Per.counted al x) a b) q i.1)

  pub no_octets : (al : Bool) (a : Position) → NoneStands free (counted_units al 8) a → NoneStands free (Per.counted_octets al) a
  unfolding Per.counted_octets
  no_octets al a n os b f =
      let i = if_out free (list_all is_octet os) _ a b f in
      n (length os, octet_bits os) b (if_in free (length (octet_bits os) == length os * 8) _ a b (eq-eqb _ _ (length-octet_bits os))
      (subst (λ x. Front free (Per.counted al x) a b) (sym (octet_pieces os)) i.1))
