-- How many bits a length determinant counts.
use Rattle.std.proofs.Common.{◌≡◌, ◌<◌, ℕ, ◌+◌, ◌*◌, ltb, Bool, true, false, cond, List, [], ◌∷◌, ◌++◌, length, map, refl, ap, sym, ◌∙◌, length-append, suc, subst, arith}
use Rattle.std.proofs.lemmas.List.{length-map}
use Rattle.asn1_model.specs.Numbers.{binary}
use Rattle.asn1_model.specs.Form.{exactly, joined, only_if, Reads}
use Rattle.asn1_model.specs.Per
use Rattle.asn1_laws_fronts.proofs.Fronts.{agree_first, agree_if_right, agree_varied_right}
use Rattle.asn1_laws_fronts.proofs.PerNumbers.{Alike, at_octet_alike, bits_apart, short_length_alike, length-binary}
use Rattle.per_codec_laws.specs.Takes.{Position, Front}
use Rattle.per_codec_laws.proofs.Next.{same_fronts}
use Rattle.per_codec_laws.proofs.Fronts.{of_nothing, if_out, split, varied_out}
use Rattle.per_codec_longer_laws.specs.Laws.{LengthsAreLacking}
use Rattle.per_codec_longer_laws.proofs.Behind.{front_more}

module _ (free : Per.Freedom → Bool) where
  -- a prefix has as many bits as its form
  long : (l : List Bool) (p rest : Position) → Front free (exactly l) p rest → length l + length (rest.1) ≡ length (p.1)
  unfolding Reads
  long l p rest f =
      let t : length l ≡ length f.text = ap (λ (i : List Bool). length i) f.has_form in
      let m : length (f.text ++ rest.1) ≡ length f.text + length (rest.1) = length-append f.text rest.1 in
      let n : length (f.text ++ rest.1) ≡ length (p.1) = ap (λ (i : List Bool). length i) f.in_front in
      omega arith

  -- units of one width
  units_long : {X : Type 0} (f : X → List Bool) (u : ℕ) → ((x : X) → length (f x) ≡ u) → (xs : List X) (p rest : Position) →
      Front free (joined (map (λ x. exactly (f x)) xs)) p rest → length xs * u + length (rest.1) ≡ length (p.1)
  units_long f u h [] p rest g = let e : length (rest.1) ≡ length (p.1) = ap (λ (q : Position). length (q.1)) (of_nothing free p rest g) in omega arith
  units_long f u h (x ∷ xs) p rest g =
      let z = split free (exactly (f x)) (joined (map (λ x. exactly (f x)) xs)) p rest g in
      let a = long (f x) p z.0 z.1 in
      let b = units_long f u h xs z.0 rest z.2 in
      let c = h x in
      let d : suc (length xs) * u ≡ u + length xs * u = omega arith in
      omega arith

  apart_from_last : (m n : ℕ) (b : Bool) → Alike free (exactly (true ∷ true ∷ binary 6 m))
      (cond b (only_if (ltb n 16384) (exactly (true ∷ false ∷ binary 14 n))) (only_if (ltb n 128) (exactly (false ∷ binary 7 n)))) ⊥
  apart_from_last m n true = agree_if_right free (ltb n 16384) {x = exactly (true ∷ true ∷ binary 6 m)} {y = exactly (true ∷ false ∷ binary 14 n)} (λ h. agree_first free (λ e. bits_apart free))
  apart_from_last m n false = agree_if_right free (ltb n 128) {x = exactly (true ∷ true ∷ binary 6 m)} {y = exactly (false ∷ binary 7 n)} (λ h. bits_apart free)

  fragment_or_last : (al : Bool) (m n : ℕ) → Alike free (Per.at_octet al (exactly (true ∷ true ∷ binary 6 m))) (Per.short_length al n) ⊥
  unfolding Per.short_length
  fragment_or_last al m n = at_octet_alike free al (agree_varied_right free (λ b. apart_from_last m n b))

  module _ (al : Bool) (n : ℕ) (p behind : Position) (f : Front free (Per.short_length al n) p behind) where
    -- after a length determinant come all its units
    all_units : (us : List Per.BitForm) (rest : Position) (ms : List ℕ) → Front free (Per.fragments al ms us) p rest → (n ≡ length us) × Front free (joined us) behind rest
    unfolding Per.fragments
    all_units us rest [] g =
        let z = split free (Per.short_length al (length us)) (joined us) p rest g in
        let q = same_fronts free (short_length_alike free al n (length us)) p behind z.0 f z.1 in
        (q.0, subst (λ a. Front free (joined us) a rest) (sym q.1) z.2)
    all_units us rest (m ∷ ms) g =
        let i = if_out free _ _ p rest g in
        let z = split free (Per.at_octet al (exactly (true ∷ true ∷ binary 6 m))) _ p rest i.1 in
        absurd (same_fronts free (fragment_or_last al m n) p z.0 behind z.1 f).0

    abbrev units : {X : Type 0} → (X → List Bool) → List X → List Per.BitForm
    units h xs = map (λ x. exactly (h x)) xs

    counted_long : {X : Type 0} (h : X → List Bool) (u : ℕ) → ((x : X) → length (h x) ≡ u) → (xs : List X) (rest : Position) →
        Front free (Per.counted al (units h xs)) p rest → length xs * u + length (rest.1) ≡ length (behind.1)
    unfolding Per.counted
    counted_long h u k xs rest g =
        let z = varied_out free {c = Per.other_fragments} (λ ms. Per.fragments al ms (units h xs)) p rest g in
        units_long h u k xs behind rest (all_units (units h xs) rest z.0 z.2).1

    counted_many : {X : Type 0} (h : X → List Bool) (xs : List X) (rest : Position) → Front free (Per.counted al (units h xs)) p rest → n ≡ length (units h xs)
    unfolding Per.counted
    counted_many h xs rest g =
        let z = varied_out free {c = Per.other_fragments} (λ ms. Per.fragments al ms (units h xs)) p rest g in
        (all_units (units h xs) rest z.0 z.2).0

    lacks : {X : Type 0} (h : X → List Bool) (u : ℕ) → ((x : X) → length (h x) ≡ u) → (xs : List X) (rest : Position) → length (behind.1) < n * u → Front free (Per.counted al (units h xs)) p rest → ⊥
    lacks h u k xs rest l g =
        let a = counted_long h u k xs rest g in
        let b : n ≡ length xs = counted_many h xs rest g ∙ length-map xs (λ x. exactly (h x)) in
        let c : n * u ≡ length xs * u = ap (λ i. i * u) b in
        omega arith

pub lengths : LengthsAreLacking
lengths al free n p behind f e rest =
    let g = front_more free e (Per.short_length al n) [] p behind f in
    let l : length (behind.1 ++ e) ≡ length (behind.1) + length e = length-append behind.1 e in (
      λ ts h k. lacks free al n (p.0, p.1 ++ e) (behind.0, behind.1 ++ e) g (binary 8) 8 (length-binary 8) ts rest (omega arith) k,
      λ bs h k. lacks free al n (p.0, p.1 ++ e) (behind.0, behind.1 ++ e) g (λ b. b ∷ []) 1 (λ b. refl) bs rest (omega arith) k,
    )
