-- The bits with which a number in octets begins, after its length determinant.
use Rattle.asn1_model.specs.Schema.{wide_range}
use Rattle.std.proofs.Common.{◌≡◌, ℕ, zero, suc, ◌^◌, ◌≤◌, ◌<◌, leb, ltb, ◌==◌, ◌+◌, ◌*◌, not, ◌&&◌, ◌||◌, ℤ, Bool}
use Rattle.std.proofs.Common.{true, false, IsTrue, ◌⊎◌, inl, inr, List, [], ◌∷◌, length, refl, sym, ap, ◌∙◌, subst}
use Rattle.std.proofs.Common.{arith}
use Rattle.std.proofs.lemmas.Bool.{false≢true, leb-true, le-leb, ltb-true, lt-ltb, and_parts, and_from, eqb-true, eqb-false, cases_lt}
use Rattle.std.proofs.Math.Nat.{pow-le-pow_right}
use Rattle.asn1_model.specs.Numbers.{digits, complement, octet_width, least_octets, signed_octets, is_within}
use Rattle.asn1_model.specs.Form.{only_if}
use Rattle.asn1_model.specs.Strings.{is_octet}
use Rattle.std.specs.List.{list_all}
use Rattle.asn1_model.specs.Per
use Rattle.asn1_values_natives.specs.Octets.{unsigned_number, signed_number, is_padded}
use Rattle.asn1_values_natives.proofs.OctetLaws.{AreOctets, unsigned-lt, length-digits, octets-digits, unsigned-digits, digits-unsigned}
use Rattle.asn1_values_natives.proofs.TwosComplement.{signed_octets-least, signed_octets-fewest, complement-back, signed-complement, plain-fits, length-complement, written-fewest}
use Rattle.asn1_values_integers.proofs.KindLaws.{unsigned-written}
use Rattle.asn1_values_natives.proofs.Widths.{octets-least, octet_width-octets, signed_octets-plain}
use Rattle.asn1_laws_fronts.proofs.PerNumbers.{counted_octets_alike}
use Rattle.per_codec_laws.specs.Takes.{Position, Front}
use Rattle.per_codec_laws.proofs.Fronts.{varied_in, varied_out, if_in, if_out}
use Rattle.per_codec_laws.proofs.Next.{same_fronts}
use Rattle.per_codec_reading.specs.Fronts.{NoneStands}
use Rattle.per_codec_reading.proofs.Fronts.{or_free, free_or}
use Rattle.per_codec_reading_values.specs.Integers.{has_spare, number_octets, offset_form, is_offset, in_128_bits}

-- ---- octets as numbers
are_octets : (os : List ℕ) → list_all is_octet os ≡ true → AreOctets os
are_octets [] h = tt
are_octets (o ∷ os) h = let p = and_parts (is_octet o) (list_all is_octet os) h in (ltb-true o 256 p.0, are_octets os p.1)

least_positive : (v : ℤ) → 1 ≤ signed_octets v
least_positive v = let e = signed_octets-plain v in omega (arith, e)

signed_back : (k : ℕ) (v : ℤ) → signed_octets v ≤ k → signed_number (complement k v) ≡ v
signed_back zero v h = let l = least_positive v in absurd (omega arith)
signed_back (suc k) v h = signed-complement k v (plain-fits v k (omega arith))

least_signed : (os : List ℕ) → AreOctets os → 0 < length os → signed_octets (signed_number os) ≤ length os
least_signed [] a l = absurd (omega arith)
least_signed (o ∷ os) a l = signed_octets-least o os a

least_unsigned : (os : List ℕ) → AreOctets os → 0 < length os → least_octets (unsigned_number os) ≤ length os
least_unsigned os a l = let d = octets-least (unsigned_number os) (length os) (octet_width (unsigned_number os)) (octet_width-octets (unsigned_number os)) (unsigned-lt os a) in omega (arith, d, l)

unsigned_back : (k n : ℕ) → octet_width n ≤ k → unsigned_number (digits 256 k n) ≡ n
unsigned_back k n h =
    let p : 256 ^ octet_width n ≤ 256 ^ k = pow-le-pow_right (omega arith) h in
    let b = (octet_width-octets n).below in
    unsigned-digits k n (omega (arith, p, b))

-- octets are fewest if the first is not redundant
fewest_signed : (os : List ℕ) → AreOctets os → 0 < length os → is_padded os ≡ false → signed_octets (signed_number os) ≡ length os
fewest_signed [] a l e = absurd (omega arith)
fewest_signed (o ∷ os) a l e = signed_octets-fewest o os a e

width_of : (os : List ℕ) → AreOctets os → octet_width (unsigned_number os) ≤ length os
width_of os a = octets-least (unsigned_number os) (length os) (octet_width (unsigned_number os)) (octet_width-octets (unsigned_number os)) (unsigned-lt os a)

not_spare : (os : List ℕ) → AreOctets os → length os ≡ least_octets (unsigned_number os) → has_spare false os ≡ false
not_spare [] a e = refl
not_spare (x ∷ []) a e = refl
not_spare (x ∷ b ∷ os) a e = go (x == 0) refl
  where
    go : (t : Bool) → (x == 0) ≡ t → t ≡ false
    go false d = refl
    go true d =
        let z : x ≡ 0 = eqb-true x 0 d in
        let r : x * 256 ^ length (b ∷ os) + unsigned_number (b ∷ os) ≡ unsigned_number (b ∷ os) = ap (λ y. y * 256 ^ length (b ∷ os) + unsigned_number (b ∷ os)) z ∙ omega arith in
        let f : octet_width (unsigned_number (x ∷ b ∷ os)) ≤ length (b ∷ os) = subst (λ n. octet_width n ≤ length (b ∷ os)) (sym r) (width_of (b ∷ os) a.1) in
        absurd (omega (arith, e, f))

shortest_of : (os : List ℕ) → AreOctets os → 0 < length os → has_spare false os ≡ false → length os ≡ least_octets (unsigned_number os)
shortest_of [] a l e = absurd (omega arith)
shortest_of (x ∷ []) a l e = let d = width_of (x ∷ []) a in omega (arith, d)
shortest_of (x ∷ b ∷ os) a l e =
    let p : 1 ≤ x = elim (cases_lt 0 x) [ inl g ↦ g | inr g ↦ absurd (eqb-false x 0 e (omega arith)) ] in
    ap length (unsigned-written x (b ∷ os) a p) ∙ length-digits (least_octets (unsigned_number (x ∷ b ∷ os))) (unsigned_number (x ∷ b ∷ os))

pub some_octets : (os : List ℕ) → false ≡ (length os == 0) → 0 < length os
some_octets [] e = cc
some_octets (o ∷ os) e = omega arith

is_not : (b : Bool) → not b ≡ true → b ≡ false
is_not true e = absurd (false≢true e)
is_not false e = refl

module _ (free : Per.Freedom → Bool) where
  octets_of : (al : Bool) (os : List ℕ) (a b : Position) → Front free (Per.counted_octets al os) a b → AreOctets os
  unfolding Per.counted_octets
  octets_of al os a b f = are_octets os (if_out free (list_all is_octet os) _ a b f).0

  abbrev any : Bool
  any = free Per.longer_number

  -- ---- the octets
  pub octets_read : (sign al : Bool) (os : List ℕ) (a b : Position) → 0 < length os → (any || not (has_spare sign os)) ≡ true →
      Front free (Per.counted_octets al os) a b → Front free (number_octets any sign al os) a b
  octets_read sign al os a b l h f = if_in free (ltb 0 (length os) && (any || not (has_spare sign os))) _ a b (and_from _ _ (lt-ltb 0 (length os) l) h) f

  octets_parts : (sign al : Bool) (os : List ℕ) (a b : Position) → Front free (number_octets any sign al os) a b → (0 < length os) ×
      ((any || not (has_spare sign os)) ≡ true) × Front free (Per.counted_octets al os) a b
  octets_parts sign al os a b f =
      let i = if_out free (ltb 0 (length os) && (any || not (has_spare sign os))) _ a b f in
      let p = and_parts (ltb 0 (length os)) (any || not (has_spare sign os)) i.0 in
      (ltb-true 0 (length os) p.0, p.1, i.1)

  octets_told : (sign al : Bool) (os : List ℕ) (a b : Position) → Front free (number_octets any sign al os) a b → (0 < length os) × Front free (Per.counted_octets al os) a b
  octets_told sign al os a b f = let p = octets_parts sign al os a b f in (p.0, p.2)

  pub none_counted : (sign al : Bool) (a : Position) → NoneStands free (Per.counted_octets al) a → NoneStands free (number_octets any sign al) a
  none_counted sign al a n os b f = n os b (octets_told sign al os a b f).1

  pub no_octets : (sign al : Bool) (os : List ℕ) (a b : Position) → length os ≡ 0 → Front free (Per.counted_octets al os) a b → NoneStands free (number_octets any sign al) a
  no_octets sign al os a b l f ps c g =
      let t = octets_told sign al ps a c g in
      let e : os ≡ ps = (same_fronts free (counted_octets_alike free al os ps) a b c f t.1).0 in
      let m : length os ≡ length ps = ap length e in
      let n = t.0 in
      omega arith

  -- octets that the reader does not accept
  pub spare_octets : (sign al : Bool) (os : List ℕ) (a b : Position) → (any || not (has_spare sign os)) ≡ false →
      Front free (Per.counted_octets al os) a b → NoneStands free (number_octets any sign al) a
  spare_octets sign al os a b h f ps c g =
      let t = octets_parts sign al ps a c g in
      let e : os ≡ ps = (same_fronts free (counted_octets_alike free al os ps) a b c f t.2).0 in
      false≢true (sym h ∙ ap (λ l. any || not (has_spare sign l)) e ∙ t.1)

  octets_same : (sign al : Bool) (os ps : List ℕ) (a b c : Position) → Front free (number_octets any sign al os) a b → Front free (number_octets any sign al ps) a c → os ≡ ps
  octets_same sign al os ps a b c f g = (same_fronts free (counted_octets_alike free al os ps) a b c (octets_told sign al os a b f).1 (octets_told sign al ps a c g).1).0

  -- ---- with a sign
  signed_read : (al : Bool) (os : List ℕ) (a b : Position) → Front free (number_octets any true al os) a b → Front free (Per.unconstrained al (signed_number os)) a b
  unfolding Per.unconstrained
  signed_read al os a b f =
      let i = octets_told true al os a b f in
      let o = octets_of al os a b i.1 in
      let v = signed_number os in
      let t : (length os ≡ signed_octets v) ⊎ IsTrue any = elim (or_free any (not (is_padded os)) (octets_parts true al os a b f).1)
      [ inl e ↦ inl (sym (fewest_signed os o i.0 (is_not (is_padded os) e))) | inr e ↦ inr e ] in
      varied_in free (λ k. only_if (leb (signed_octets v) k) (Per.counted_octets al (complement k v))) (length os) t a b
      (if_in free (leb (signed_octets v) (length os)) _ a b (le-leb (signed_octets v) (length os) (least_signed os o i.0))
      (subst (λ l. Front free (Per.counted_octets al l) a b) (sym (complement-back os o i.0)) i.1))

  signed_told : (al : Bool) (v : ℤ) (a b : Position) → Front free (Per.unconstrained al v) a b → (os : List ℕ) × (signed_number os ≡ v) × Front free (number_octets any true al os) a b
  unfolding Per.unconstrained
  signed_told al v a b f =
      let q = varied_out free (λ k. only_if (leb (signed_octets v) k) (Per.counted_octets al (complement k v))) a b f in
      let i = if_out free (leb (signed_octets v) q.0) _ a b q.2 in
      let l = leb-true (signed_octets v) q.0 i.0 in
      let p = least_positive v in
      let n = length-complement q.0 v in
      let own : (not (is_padded (complement q.0 v)) ≡ true) ⊎ IsTrue any = elim q.1 [ inl e ↦ inl (ap not (ap (λ k. is_padded (complement k v)) e ∙ written-fewest v)) | inr e ↦ inr e ] in
      (complement q.0 v, signed_back q.0 v l, octets_read true al (complement q.0 v) a b (omega arith) (free_or any (not (is_padded (complement q.0 v))) own) i.1)

  pub unconstrained_read : (al : Bool) (v : ℤ) (os : List ℕ) (a b : Position) → v ≡ signed_number os →
      is_within wide_range (signed_number os) ≡ true → Front free (number_octets any true al os) a b → Front free (in_128_bits (Per.unconstrained al) v) a b
  unconstrained_read al v os a b e w f = subst (λ z. Front free (in_128_bits (Per.unconstrained al) z) a b) (sym e)
      (if_in free (is_within wide_range (signed_number os)) _ a b w (signed_read al os a b f))

  -- the same for a number of any size
  pub number_read : (al : Bool) (v : ℤ) (os : List ℕ) (a b : Position) → v ≡ signed_number os → Front free (number_octets any true al os) a b → Front free (Per.unconstrained al v) a b
  number_read al v os a b e f = subst (λ z. Front free (Per.unconstrained al z) a b) (sym e) (signed_read al os a b f)

  pub none_signed : (al : Bool) (a : Position) → NoneStands free (number_octets any true al) a → NoneStands free (Per.unconstrained al) a
  none_signed al a n v b f = let t = signed_told al v a b f in n t.0 b t.2

  pub signed_same : (al : Bool) (v : ℤ) (os : List ℕ) (a b c : Position) → Front free (number_octets any true al os) a b → Front free (Per.unconstrained al v) a c → v ≡ signed_number os
  signed_same al v os a b c f g = let t = signed_told al v a c g in sym t.1 ∙ ap signed_number (octets_same true al t.0 os a c b t.2 f)

  pub no_unconstrained : (al : Bool) (a : Position) → NoneStands free (number_octets any true al) a → NoneStands free (in_128_bits (Per.unconstrained al)) a
  no_unconstrained al a n v b f = none_signed al a n v b (if_out free (is_within wide_range v) _ a b f).1

  pub unconstrained_outside : (al : Bool) (os : List ℕ) (a b : Position) → is_within wide_range (signed_number os) ≡ false →
      Front free (number_octets any true al os) a b → NoneStands free (in_128_bits (Per.unconstrained al)) a
  unconstrained_outside al os a b w f v c g =
      let i = if_out free (is_within wide_range v) _ a c g in
      false≢true (sym w ∙ ap (is_within wide_range) (sym (signed_same al v os a b c f i.1)) ∙ i.0)

  -- ---- without a sign
  pub offset_read : (al : Bool) (n : ℕ) (os : List ℕ) (a b : Position) → n ≡ unsigned_number os → is_offset (unsigned_number os) ≡ true →
      Front free (number_octets any false al os) a b → Front free (offset_form al n) a b
  unfolding Per.semi_constrained
  offset_read al n os a b e w f =
      let i = octets_told false al os a b f in
      let o = octets_of al os a b i.1 in
      let m = unsigned_number os in
      let t : (length os ≡ least_octets m) ⊎ IsTrue any = elim (or_free any (not (has_spare false os)) (octets_parts false al os a b f).1)
      [ inl d ↦ inl (shortest_of os o i.0 (is_not (has_spare false os) d)) | inr d ↦ inr d ] in
      subst (λ z. Front free (offset_form al z) a b) (sym e)
      (if_in free (is_offset m) _ a b w (varied_in free (λ k. only_if (leb (least_octets m) k) (Per.counted_octets al (digits 256 k m))) (length os) t a b
      (if_in free (leb (least_octets m) (length os)) _ a b (le-leb (least_octets m) (length os) (least_unsigned os o i.0))
      (subst (λ l. Front free (Per.counted_octets al l) a b) (sym (digits-unsigned os o)) i.1))))

  unsigned_told : (al : Bool) (n : ℕ) (a b : Position) → Front free (Per.semi_constrained al n) a b → (os : List ℕ) × (unsigned_number os ≡ n) × Front free (number_octets any false al os) a b
  unfolding Per.semi_constrained
  unsigned_told al n a b f =
      let q = varied_out free (λ k. only_if (leb (least_octets n) k) (Per.counted_octets al (digits 256 k n))) a b f in
      let i = if_out free (leb (least_octets n) q.0) _ a b q.2 in
      let l = leb-true (least_octets n) q.0 i.0 in
      let m = length-digits q.0 n in
      let u = unsigned_back q.0 n (omega arith) in
      let own : (not (has_spare false (digits 256 q.0 n)) ≡ true) ⊎ IsTrue any =
      elim q.1 [ inl e ↦ inl (ap not (not_spare (digits 256 q.0 n) (octets-digits q.0 n) (m ∙ e ∙ ap least_octets (sym u)))) | inr e ↦ inr e ] in
      (digits 256 q.0 n, u, octets_read false al (digits 256 q.0 n) a b (omega arith) (free_or any (not (has_spare false (digits 256 q.0 n))) own) i.1)

  pub no_offset : (al : Bool) (a : Position) → NoneStands free (number_octets any false al) a → NoneStands free (offset_form al) a
  no_offset al a n m b f = let t = unsigned_told al m a b (if_out free (is_offset m) _ a b f).1 in n t.0 b t.2

  pub offset_outside : (al : Bool) (os : List ℕ) (a b : Position) → is_offset (unsigned_number os) ≡ false → Front free (number_octets any false al os) a b → NoneStands free (offset_form al) a
  offset_outside al os a b w f m c g =
      let i = if_out free (is_offset m) _ a c g in
      let t = unsigned_told al m a c i.1 in
      let e : m ≡ unsigned_number os = sym t.1 ∙ ap unsigned_number (octets_same false al t.0 os a c b t.2 f) in
      false≢true (sym w ∙ ap is_offset (sym e) ∙ i.0)
