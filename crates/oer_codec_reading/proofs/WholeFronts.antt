-- Octets that begin with an INTEGER.
use Rattle.std.proofs.Common.{◌≡◌, ℕ, zero, suc, ◌+◌, ◌*◌, ◌^◌, ◌≤◌, ◌<◌, ◌==◌, leb, ltb, not, ℤ, pos, negsuc, Bool}
use Rattle.std.proofs.Common.{true, false, ◌||◌, ◌⊎◌, inl, inr, Option, Some, None, List, [], ◌∷◌, ◌++◌, length, refl}
use Rattle.std.proofs.Common.{sym, ap, ◌∙◌, subst, arith}
use Rattle.std.specs.Prelude.{is_some, IfSome}
use Rattle.std.proofs.lemmas.Bool.{false≢true, leb-true, le-leb, ltb-true, eqb-true, or_cases, cases_lt, eqb-false}
use Rattle.asn1_model.specs.Numbers.{digits, complement, octet_width, least_octets, signed_octets}
use Rattle.asn1_model.specs.Form.{Reads, exactly, only_if}
use Rattle.asn1_model.specs.Oer.{Freedom, signed, unsigned, counted, longer_number}
use Rattle.asn1_values_natives.specs.Octets.{unsigned_number, signed_number, own_number, is_padded}
use Rattle.asn1_values_natives.proofs.OctetLaws.{AreOctets, unsigned-lt, length-digits, octets-digits, unsigned-digits, digits-unsigned}
use Rattle.asn1_values_natives.proofs.TwosComplement.{signed_octets-least, signed_octets-fewest, complement-signed, signed-complement, plain-fits, octets-complement, length-complement, written-fewest}
use Rattle.asn1_values_integers.proofs.KindLaws.{unsigned-written}
use Rattle.asn1_values_natives.proofs.Widths.{octets-least, octet_width-octets, signed_octets-plain}
use Rattle.oer_codec_reading.specs.declared.rules.EncodingRules.{EncodingRules}
use Rattle.oer_codec_reading.specs.Fronts.{freedoms, is_basic, Stands, NoneStands}
use Rattle.oer_codec_reading.specs.Sized.{sized}
use Rattle.oer_codec_reading.specs.Integers.{count_in, number_in, has_spare}
use Rattle.oer_codec_reading.proofs.Freedoms.{longer_number_is_basic}
use Rattle.oer_codec_reading.proofs.Fronts.{exactly_stands, exactly_front, if_stands, if_front, varied_stands, varied_front}
use Rattle.oer_codec_reading.proofs.LengthFronts.{octets_hold, are_octets}
use Rattle.oer_codec_reading.proofs.SizedFronts.{of_size, behind_number, sized_one, sized_octets, sized_text, sized_counted}

-- ---- octets as numbers

least_positive : (v : ℤ) → 1 ≤ signed_octets v
least_positive v = let e = signed_octets-plain v in omega (arith, e)

-- a number's octets
signed_back : (k : ℕ) (v : ℤ) → signed_octets v ≤ k → signed_number (complement k v) ≡ v
signed_back zero v h = let l = least_positive v in absurd (omega arith)
signed_back (suc k) v h = signed-complement k v (plain-fits v k (omega arith))

-- the octets of their number
complement_of : (os : List ℕ) → AreOctets os → 0 < length os → (signed_octets (signed_number os) ≤ length os) × (complement (length os) (signed_number os) ≡ os)
complement_of [] a l = absurd (omega arith)
complement_of (o ∷ os) a l = (signed_octets-least o os a, complement-signed o os a)

pub width_at_most : (n k : ℕ) → n < 256 ^ k → octet_width n ≤ k
width_at_most n k h = octets-least n k (octet_width n) (octet_width-octets n) h

digits_of : (os : List ℕ) → AreOctets os → (octet_width (unsigned_number os) ≤ length os) × (digits 256 (length os) (unsigned_number os) ≡ os)
digits_of os a = (width_at_most (unsigned_number os) (length os) (unsigned-lt os a), digits-unsigned os a)

-- none of the fewest octets of a number is redundant
fewest_signed : (os : List ℕ) → AreOctets os → 0 < length os → is_padded os ≡ false → signed_octets (signed_number os) ≡ length os
fewest_signed [] a l e = absurd (omega arith)
fewest_signed (o ∷ os) a l e = signed_octets-fewest o os a e

zero_front : (b : ℕ) (os : List ℕ) → AreOctets (b ∷ os) → octet_width (0 * 256 ^ length (b ∷ os) + unsigned_number (b ∷ os)) ≤ length (b ∷ os)
zero_front b os a = let e : 0 * 256 ^ length (b ∷ os) + unsigned_number (b ∷ os) ≡ unsigned_number (b ∷ os) = omega arith in
    subst (λ n. octet_width n ≤ length (b ∷ os)) (sym e) (digits_of (b ∷ os) a).0

not_spare : (os : List ℕ) → AreOctets os → length os ≡ least_octets (unsigned_number os) → has_spare false os ≡ false
not_spare [] a e = refl
not_spare (x ∷ []) a e = refl
not_spare (x ∷ b ∷ os) a e = go (x == 0) refl
  where
    go : (t : Bool) → (x == 0) ≡ t → t ≡ false
    go true d =
        let z : x ≡ 0 = eqb-true x 0 d in
        let w = zero_front b os (a.1) in
        let f : octet_width (unsigned_number (x ∷ b ∷ os)) ≤ length (b ∷ os) = subst (λ y. octet_width (y * 256 ^ length (b ∷ os) + unsigned_number (b ∷ os)) ≤ length (b ∷ os)) (sym z) w in
        absurd (omega (arith, e, f))
    go false d = refl

least_of : (os : List ℕ) → AreOctets os → 0 < length os → (least_octets (unsigned_number os) ≤ length os)
least_of os a l = let d = (digits_of os a).0 in omega (arith, d, l)

shortest_of : (os : List ℕ) → AreOctets os → 0 < length os → has_spare false os ≡ false → length os ≡ least_octets (unsigned_number os)
shortest_of [] a l e = absurd (omega arith)
shortest_of (x ∷ []) a l e = let d = (digits_of (x ∷ []) a).0 in omega (arith, d)
shortest_of (x ∷ b ∷ os) a l e =
    let p : 1 ≤ x = elim (cases_lt 0 x) [ inl g ↦ g | inr g ↦ absurd (eqb-false x 0 e (omega arith)) ] in
    ap length (unsigned-written x (b ∷ os) a p) ∙ length-digits (least_octets (unsigned_number (x ∷ b ∷ os))) (unsigned_number (x ∷ b ∷ os))

-- the octets begin with those of a number
pub record Contents (free : Freedom → Bool) (sign : Bool) (width : Option ℕ) (v : ℤ) (w rest : List ℕ) : Type 0 where
  pub octets : List ℕ
  pub stand : Stands free (sized width octets) w rest
  pub number : own_number sign octets ≡ v
  pub some : width ≡ None → 0 < length octets
  pub shortest : width ≡ None → (has_spare sign octets ≡ false) ⊎ (free longer_number ≡ true)

module _ (free : Freedom → Bool) where
  signed_front : (v : ℤ) (w rest : List ℕ) → Stands free (signed v) w rest → Contents free true None v w rest
  unfolding signed
  signed_front v w rest h =
      let f = varied_front free longer_number (signed_octets v) (λ k. only_if (leb (signed_octets v) k) (counted (complement k v))) w rest h in
      let i = if_front free (leb (signed_octets v) f.0) (counted (complement f.0 v)) w rest f.2 in
      let l : signed_octets v ≤ f.0 = leb-true _ _ i.0 in
      record {
        octets = complement f.0 v;
        stand = behind_number free None (complement f.0 v) w rest refl i.1;
        number = signed_back f.0 v l;
        some = λ _. let p = least_positive v in let q = length-complement f.0 v in omega (arith, p, q, l);
        shortest = λ _. elim f.1 [ inl e ↦ inl (ap (λ k. is_padded (complement k v)) e ∙ written-fewest v) | inr t ↦ inr t ];
      }

  unsigned_front : (n : ℕ) (w rest : List ℕ) → Stands free (unsigned n) w rest → Contents free false None (pos n) w rest
  unfolding unsigned
  unsigned_front n w rest h =
      let f = varied_front free longer_number (least_octets n) (λ k. only_if (leb (least_octets n) k) (counted (digits 256 k n))) w rest h in
      let i = if_front free (leb (least_octets n) f.0) (counted (digits 256 f.0 n)) w rest f.2 in
      let l : least_octets n ≤ f.0 = leb-true _ _ i.0 in
      let u : unsigned_number (digits 256 f.0 n) ≡ n = unsigned-digits f.0 n (octets_hold n f.0 (omega arith)) in
      let d = length-digits f.0 n in
      record {
        octets = digits 256 f.0 n;
        stand = behind_number free None (digits 256 f.0 n) w rest refl i.1;
        number = ap pos u;
        some = λ _. omega (arith, d, l);
        shortest = λ _. elim f.1 [ inl e ↦ inl (not_spare (digits 256 f.0 n) (octets-digits f.0 n) (d ∙ e ∙ ap least_octets (sym u))) | inr t ↦ inr t ];
      }

  fixed_front : (sign : Bool) (k : ℕ) (v : ℤ) (os w rest : List ℕ) → AreOctets os → length os ≡ k → own_number sign os ≡ v → os ++ rest ≡ w → Contents free sign (Some k) v w rest
  fixed_front sign k v os w rest a l n e = record { octets = os; stand = of_size free (Some k) k os w rest refl a l e; number = n; some = λ z. cc; shortest = λ z. cc }

  pub number_front : (sign : Bool) (width : Option ℕ) (v : ℤ) (w rest : List ℕ) → Stands free (number_in sign width v) w rest → Contents free sign width v w rest
  unfolding number_in Reads
  number_front true None v w rest h = signed_front v w rest h
  number_front true (Some k) v w rest h =
      let i = if_front free (leb (signed_octets v) k) (exactly (complement k v)) w rest h in
      fixed_front true k v (complement k v) w rest (octets-complement k v) (length-complement k v) (signed_back k v (leb-true _ _ i.0)) (exactly_front free (complement k v) w rest i.1)
  number_front false None (pos n) w rest h = unsigned_front n w rest h
  number_front false None (negsuc n) w rest h = absurd h.2
  number_front false (Some k) (pos n) w rest h =
      let i = if_front free (leb (octet_width n) k) (exactly (digits 256 k n)) w rest h in
      fixed_front false k (pos n) (digits 256 k n) w rest (octets-digits k n) (length-digits k n)
      (ap pos (unsigned-digits k n (octets_hold n k (leb-true _ _ i.0)))) (exactly_front free (digits 256 k n) w rest i.1)
  number_front false (Some k) (negsuc n) w rest h = let i = if_front free (leb (octet_width n) k) _ w rest h in absurd i.1.2

  -- The octets begin with at most one number.
  pub number_one : (sign : Bool) (width : Option ℕ) (u v : ℤ) (w r s : List ℕ) → Stands free (number_in sign width u) w r → Stands free (number_in sign width v) w s → (u ≡ v) × (r ≡ s)
  number_one sign width u v w r s x y =
      let a = number_front sign width u w r x in
      let b = number_front sign width v w s y in
      let o = sized_one free width a.octets b.octets w r s a.stand b.stand in
      (sym a.number ∙ ap (own_number sign) o.0 ∙ b.number, o.1)

  signed_stands : (os w rest : List ℕ) → AreOctets os → 0 < length os → Stands free (counted os) w rest →
      (is_padded os ≡ false) ⊎ (free longer_number ≡ true) → Stands free (signed (signed_number os)) w rest
  unfolding signed
  signed_stands os w rest a l h p =
      let v : ℤ = signed_number os in
      let c = complement_of os a l in
      varied_stands free longer_number (signed_octets v) (length os) (λ k. only_if (leb (signed_octets v) k) (counted (complement k v))) w rest
      (elim p [ inl e ↦ inl (sym (fewest_signed os a l e)) | inr t ↦ inr t ])
      (if_stands free (leb (signed_octets v) (length os)) (counted (complement (length os) v)) w rest (le-leb _ _ c.0) (subst (λ x. Stands free (counted x) w rest) (sym c.1) h))

  unsigned_stands : (os w rest : List ℕ) → AreOctets os → 0 < length os → Stands free (counted os) w rest →
      (has_spare false os ≡ false) ⊎ (free longer_number ≡ true) → Stands free (unsigned (unsigned_number os)) w rest
  unfolding unsigned
  unsigned_stands os w rest a l h p =
      let n : ℕ = unsigned_number os in
      let c = digits_of os a in
      varied_stands free longer_number (least_octets n) (length os) (λ k. only_if (leb (least_octets n) k) (counted (digits 256 k n))) w rest
      (elim p [ inl e ↦ inl (shortest_of os a l e) | inr t ↦ inr t ])
      (if_stands free (leb (least_octets n) (length os)) (counted (digits 256 (length os) n)) w rest (le-leb _ _ (least_of os a l)) (subst (λ x. Stands free (counted x) w rest) (sym c.1) h))

  pub number_stands : (sign : Bool) (width : Option ℕ) (os w rest : List ℕ) → 0 < length os → Stands free (sized width os) w rest →
      (width ≡ None → (has_spare sign os ≡ false) ⊎ (free longer_number ≡ true)) → Stands free (number_in sign width (own_number sign os)) w rest
  unfolding number_in
  number_stands true None os w rest l h p = signed_stands os w rest (are_octets os (sized_octets free None os w rest h)) l (sized_counted free os w rest h) (p refl)
  number_stands false None os w rest l h p = unsigned_stands os w rest (are_octets os (sized_octets free None os w rest h)) l (sized_counted free os w rest h) (p refl)
  number_stands true (Some k) os w rest l h p =
      let a = are_octets os (sized_octets free (Some k) os w rest h) in
      let t = sized_text free k os w rest h in
      let c = complement_of os a l in
      let e : complement k (signed_number os) ≡ os = ap (λ j. complement j (signed_number os)) (sym t.0) ∙ c.1 in
      if_stands free (leb (signed_octets (signed_number os)) k) (exactly (complement k (signed_number os))) w rest
      (le-leb _ _ (subst (λ j. signed_octets (signed_number os) ≤ j) t.0 c.0)) (exactly_stands free (complement k (signed_number os)) w rest (ap (λ x. x ++ rest) e ∙ t.1))
  number_stands false (Some k) os w rest l h p =
      let a = are_octets os (sized_octets free (Some k) os w rest h) in
      let t = sized_text free k os w rest h in
      let c = digits_of os a in
      let e : digits 256 k (unsigned_number os) ≡ os = ap (λ j. digits 256 j (unsigned_number os)) (sym t.0) ∙ c.1 in
      if_stands free (leb (octet_width (unsigned_number os)) k) (exactly (digits 256 k (unsigned_number os))) w rest
      (le-leb _ _ (subst (λ j. octet_width (unsigned_number os) ≤ j) t.0 c.0)) (exactly_stands free (digits 256 k (unsigned_number os)) w rest (ap (λ x. x ++ rest) e ∙ t.1))

-- ---- what read_number returns

pub some_octets : (os : List ℕ) → false ≡ (length os == 0) → 0 < length os
some_octets [] e = cc
some_octets (o ∷ os) e = omega arith

module _ (r : EncodingRules) (sign : Bool) (width : Option ℕ) (w : List ℕ) where
  pub no_octets : NoneStands (freedoms r) (sized width) w → NoneStands (freedoms r) (number_in sign width) w
  no_octets n v rest h = let f = number_front (freedoms r) sign width v w rest h in n f.octets rest f.stand

  pub empty_octets : (os mid : List ℕ) → IfSome width (λ k. 1 ≤ k) → Stands (freedoms r) (sized width os) w mid → true ≡ (length os == 0) → NoneStands (freedoms r) (number_in sign width) w
  empty_octets os mid q h e v rest s =
      let f = number_front (freedoms r) sign width v w rest s in
      let o = sized_one (freedoms r) width os f.octets w mid rest h f.stand in
      let n : length os ≡ 0 = eqb-true (length os) 0 (sym e) in go width refl (ap length (sym o.0) ∙ n) f.some q h
    where
      go : (t : Option ℕ) → width ≡ t → length (number_front (freedoms r) sign width v w rest s).octets ≡ 0 →
          (width ≡ None → 0 < length (number_front (freedoms r) sign width v w rest s).octets) → IfSome t (λ k. 1 ≤ k) → Stands (freedoms r) (sized t os) w mid → ⊥
      go None i l p q h = let x = p i in absurd (omega (arith, l, x))
      go (Some k) i l p q h = let x = (sized_text (freedoms r) k os w mid h).0 in let n : length os ≡ 0 = eqb-true (length os) 0 (sym e) in absurd (omega (arith, x, q, n))

  taken : (os : List ℕ) → (is_some width || is_basic r || not (has_spare sign os)) ≡ true → width ≡ None → (has_spare sign os ≡ false) ⊎ (freedoms r longer_number ≡ true)
  taken os b e = elim (or_cases (is_basic r) (not (has_spare sign os)) (ap (λ t. is_some t || is_basic r || not (has_spare sign os)) (sym e) ∙ b)) [
    | inl t ↦ inr (longer_number_is_basic r ∙ t)
    | inr t ↦ inl (is_not' (has_spare sign os) t)
  ]
    where
      is_not' : (x : Bool) → not x ≡ true → x ≡ false
      is_not' true e = cc
      is_not' false e = refl

  pub number_read : (os rest : List ℕ) → 0 < length os → Stands (freedoms r) (sized width os) w rest →
      (is_some width || is_basic r || not (has_spare sign os)) ≡ true → Stands (freedoms r) (number_in sign width (own_number sign os)) w rest
  number_read os rest l h b = number_stands (freedoms r) sign width os w rest l h (taken os b)

  pub not_taken : (os mid : List ℕ) → Stands (freedoms r) (sized width os) w mid → (is_some width || is_basic r || not (has_spare sign os)) ≡ false → NoneStands (freedoms r) (number_in sign width) w
  not_taken os mid h b v rest s =
      let f = number_front (freedoms r) sign width v w rest s in
      let o = sized_one (freedoms r) width os f.octets w mid rest h f.stand in
      let p = parts (is_some width) (is_basic r) (has_spare sign os) b in
      let n : width ≡ None = none_of width p.0 in
      elim (f.shortest n) [
        | inl e ↦ false≢true (sym e ∙ ap (has_spare sign) (sym o.0) ∙ p.2)
        | inr t ↦ false≢true (sym p.1 ∙ sym (longer_number_is_basic r) ∙ t)
      ]
    where
      parts : (a b c : Bool) → (a || b || not c) ≡ false → (a ≡ false) × (b ≡ false) × (c ≡ true)
      parts true b c e = cc
      parts false true c e = cc
      parts false false true e = (refl, refl, refl)
      parts false false false e = cc

      none_of : (o : Option ℕ) → is_some o ≡ false → o ≡ None
      none_of None e = refl
      none_of (Some k) e = cc

-- ---- counts

module _ (r : EncodingRules) (w : List ℕ) where
  count_is : (n : ℕ) (rest : List ℕ) → Stands (freedoms r) (unsigned n) w rest → Stands (freedoms r) (number_in false None (pos n)) w rest
  unfolding number_in
  count_is n rest h = h

  pub count_read : (n : ℕ) (os rest : List ℕ) → n ≡ unsigned_number os → Stands (freedoms r) (number_in false None (pos (unsigned_number os))) w rest → Stands (freedoms r) (unsigned n) w rest
  unfolding number_in
  count_read n os rest e h = subst (λ m. Stands (freedoms r) (unsigned m) w rest) (sym e) h

  pub no_count : NoneStands (freedoms r) (number_in false None) w → NoneStands (freedoms r) count_in w
  no_count h n rest s = h (pos n) rest (count_is n rest (if_front (freedoms r) (ltb n (2 ^ 64)) (unsigned n) w rest s).1)

  pub count_past : (os mid : List ℕ) → 2 ^ 64 ≤ unsigned_number os → Stands (freedoms r) (number_in false None (pos (unsigned_number os))) w mid → NoneStands (freedoms r) count_in w
  count_past os mid l h n rest s =
      let f = if_front (freedoms r) (ltb n (2 ^ 64)) (unsigned n) w rest s in
      let o = number_one (freedoms r) false None (pos (unsigned_number os)) (pos n) w mid rest h (count_is n rest f.1) in
      let e : unsigned_number os ≡ n = let x = o.0 in cc in
      let m = ltb-true _ _ f.0 in
      absurd (omega (arith, e, m, l))
