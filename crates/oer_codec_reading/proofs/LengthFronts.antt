-- Octets that begin with a length determinant, or with octets after one.
use Rattle.std.proofs.Common.{◌≡◌, ℕ, ◌+◌, ◌^◌, ◌≤◌, ◌<◌, ◌==◌, leb, ltb, cond, Bool, true, false, ◌&&◌, ◌||◌, ◌⊎◌, inl}
use Rattle.std.proofs.Common.{inr, Option, Some, None, List, [], ◌∷◌, ◌++◌, length, refl, sym, ap, ◌∙◌, subst, arith}
use Rattle.std.proofs.Common.{length-append}
use Rattle.std.proofs.lemmas.Bool.{false≢true, le-leb, lt-ltb, ltb-true, leb-true, eqb-true, eq-eqb, ltb-false, or_cases, and_parts}
use Rattle.std.proofs.Math.Bool.{or-true}
use Rattle.std.proofs.Math.Nat.{pow-le-pow_right}
use Rattle.asn1_model.specs.Form.{exactly, only_if}
use Rattle.asn1_model.specs.Numbers.{digits, octet_width}
use Rattle.asn1_model.specs.Strings.{is_octet}
use Rattle.std.specs.List.{list_all}
use Rattle.asn1_model.specs.Oer.{Freedom, OctetForm, length_form, long_length, longer_length, counted}
use Rattle.asn1_values_natives.specs.Octets.{unsigned_number}
use Rattle.asn1_values_natives.proofs.OctetLaws.{AreOctets, unsigned-lt, length-digits, unsigned-digits, digits-unsigned}
use Rattle.asn1_values_natives.proofs.Widths.{octets-least, octet_width-octets}
use Rattle.oer_codec_reading.specs.declared.rules.EncodingRules.{EncodingRules}
use Rattle.oer_codec_reading.specs.Fronts.{freedoms, is_basic, Stands, NoneStands}
use Rattle.oer_codec_reading.proofs.Fronts.{fronts_equal, exactly_stands, exactly_front, if_stands, if_front, varied_stands, varied_front, followed_stands, followed_front}
use Rattle.oer_codec_reading.proofs.Freedoms.{longer_length_is_basic, and_true}

abbrev some_length : ℕ → Option ℕ → OctetForm
some_length n o = elim o [ None ↦ only_if (ltb n 128) (exactly (n ∷ [])) | Some k ↦ long_length n k ]

-- how many octets a length needs in the long form, if one octet does not hold it
abbrev pub shortest : ℕ → Option ℕ
shortest n = cond (ltb n 128) None (Some (octet_width n))

-- the octets begin with a length determinant in the long form
pub record Long (free : Freedom → Bool) (n k : ℕ) (os rest : List ℕ) : Type 0 where
  pub some : 1 ≤ k
  pub most : k ≤ 127
  pub enough : octet_width n ≤ k
  pub text : (128 + k) ∷ (digits 256 k n ++ rest) ≡ os
  pub may : (Some k ≡ shortest n) ⊎ (free longer_length ≡ true)

module _ (free : Freedom → Bool) where
  pub length_front : (n : ℕ) (os rest : List ℕ) → Stands free (length_form n) os rest → (n < 2 ^ 64) × (((n < 128) × (n ∷ rest ≡ os)) ⊎ ((k : ℕ) × Long free n k os rest))
  unfolding length_form
  length_front n os rest h =
      let i = if_front free (ltb n (2 ^ 64)) _ os rest h in
      let v = varied_front free longer_length (shortest n) (some_length n) os rest i.1 in
      (ltb-true _ _ i.0, go v.0 v.1 v.2)
    where
      go : (o : Option ℕ) → (o ≡ shortest n) ⊎ (free longer_length ≡ true) → Stands free (some_length n o) os rest → ((n < 128) × (n ∷ rest ≡ os)) ⊎ ((k : ℕ) × Long free n k os rest)
      go None a s = let i = if_front free (ltb n 128) (exactly (n ∷ [])) os rest s in inl (ltb-true _ _ i.0, exactly_front free (n ∷ []) os rest i.1)
      go (Some k) a s =
          let i = if_front free (leb 1 k && leb k 127 && leb (octet_width n) k) (exactly ((128 + k) ∷ digits 256 k n)) os rest s in
          let p = and_parts (leb 1 k && leb k 127) (leb (octet_width n) k) i.0 in
          let q = and_parts (leb 1 k) (leb k 127) p.0 in
          inr (k, record { some = leb-true _ _ q.0; most = leb-true _ _ q.1; enough = leb-true _ _ p.1; text = exactly_front free ((128 + k) ∷ digits 256 k n) os rest i.1; may = a })

  pub short_stands : (n : ℕ) (os new : List ℕ) → os ≡ n ∷ new → n < 128 → Stands free (length_form n) os new
  unfolding length_form
  short_stands n os new e l =
      let c : shortest n ≡ None = ap (λ t. cond t None (Some (octet_width n))) (lt-ltb n 128 l) in
      if_stands free (ltb n (2 ^ 64)) _ os new (lt-ltb _ _ (omega arith))
      (varied_stands free longer_length (shortest n) None (some_length n) os new (inl (sym c))
      (if_stands free (ltb n 128) (exactly (n ∷ [])) os new (lt-ltb n 128 l) (exactly_stands free (n ∷ []) os new (sym e))))

  pub long_stands : (n k : ℕ) (os new : List ℕ) → n < 2 ^ 64 → Long free n k os new → Stands free (length_form n) os new
  unfolding length_form
  long_stands n k os new l h =
      if_stands free (ltb n (2 ^ 64)) _ os new (lt-ltb _ _ l)
      (varied_stands free longer_length (shortest n) (Some k) (some_length n) os new h.may
      (if_stands free (leb 1 k && leb k 127 && leb (octet_width n) k) (exactly ((128 + k) ∷ digits 256 k n)) os new
      (and_true _ _ (and_true _ _ (le-leb 1 k h.some) (le-leb k 127 h.most)) (le-leb _ _ h.enough)) (exactly_stands free ((128 + k) ∷ digits 256 k n) os new h.text)))

-- ---- the errors of a length determinant

pub octets_hold : (n k : ℕ) → octet_width n ≤ k → n < 256 ^ k
octets_hold n k h =
    let p : 256 ^ octet_width n ≤ 256 ^ k = pow-le-pow_right (omega arith) h in
    let b = (octet_width-octets n).below in
    omega (arith, p, b)

long_of : (free : Freedom → Bool) (n k : ℕ) (w rest : List ℕ) → 1 ≤ k → Stands free (length_form n) ((128 + k) ∷ w) rest → (n < 2 ^ 64) × Long free n k ((128 + k) ∷ w) rest
long_of free n k w rest l h =
    let f = length_front free n ((128 + k) ∷ w) rest h in (
      f.0,
      elim f.1 [
        | inl s ↦ absurd (let e : n ≡ 128 + k = let x = s.1 in cc in let m = s.0 in omega arith)
        | inr g ↦ let e : g.0 ≡ k = (let x : 128 + g.0 ≡ 128 + k = let y = g.1.text in cc in omega arith) in subst (λ j. Long free n j ((128 + k) ∷ w) rest) e g.1
      ],
    )

same_digits : (k n : ℕ) (o rest new : List ℕ) → AreOctets o → octet_width n ≤ k → length o ≡ k → digits 256 k n ++ rest ≡ o ++ new → (n ≡ unsigned_number o) × (rest ≡ new)
same_digits k n o rest new a l e h =
    let f = fronts_equal (digits 256 k n) o rest new (length-digits k n ∙ sym e) h in
    let m = octets_hold n k l in
    (sym (unsigned-digits k n m) ∙ ap unsigned_number f.0, f.1)

-- ---- what read_long_length returns

pub few_octets : (r : EncodingRules) (k : ℕ) (w : List ℕ) → 1 ≤ k → length w < k → NoneStands (freedoms r) length_form ((128 + k) ∷ w)
few_octets r k w s l n rest h =
    let f = long_of (freedoms r) n k w rest s h in
    let e : digits 256 k n ++ rest ≡ w = let t = f.1.text in cc in
    let m = length-append (digits 256 k n) rest in
    let d = length-digits k n in
    let q = ap length e in
    absurd (omega (arith, m, d, q, l))

pub past_64_bits : (r : EncodingRules) (k : ℕ) (o new w : List ℕ) → 1 ≤ k → AreOctets o → length o ≡ k → o ++ new ≡ w → 2 ^ 64 ≤ unsigned_number o → NoneStands (freedoms r) length_form ((128 + k) ∷ w)
past_64_bits r k o new w s a e d l n rest h =
    let f = long_of (freedoms r) n k w rest s h in
    let t : digits 256 k n ++ rest ≡ o ++ new = (let t = f.1.text in cc) ∙ sym d in
    let q = same_digits k n o rest new a f.1.enough e t in
    let z = q.0 in
    absurd (omega (arith, f.0, l, z))

is_long : (n k : ℕ) (t : Bool) → ltb n 128 ≡ t → Some k ≡ cond t None (Some (octet_width n)) → (leb 128 n && (octet_width n == k)) ≡ true
is_long n k true e h = cc
is_long n k false e h = let i : octet_width n ≡ k = cc in and_true _ _ (le-leb 128 n (ltb-false n 128 e)) (eq-eqb (octet_width n) k i)

taken : (x y : Bool) → x ≡ y → (n m k : ℕ) → n ≡ m → (Some k ≡ shortest n) ⊎ (x ≡ true) → (y || (leb 128 m && (octet_width m == k))) ≡ true
taken x y e n m k z (inr t) = ap (λ b. b || (leb 128 m && (octet_width m == k))) (sym e ∙ t)
taken x y e n m k z (inl t) = ap (λ j. y || (leb 128 j && (octet_width j == k))) (sym z) ∙ ap (λ b. y || b) (is_long n k (ltb n 128) refl t) ∙ or-true y

pub not_shortest : (r : EncodingRules) (k m : ℕ) (o new w : List ℕ) → 1 ≤ k → AreOctets o → length o ≡ k → o ++ new ≡ w → m ≡ unsigned_number o →
    (is_basic r || (leb 128 m && (octet_width m == k))) ≡ false → NoneStands (freedoms r) length_form ((128 + k) ∷ w)
not_shortest r k m o new w s a e d u b n rest h =
    let f = long_of (freedoms r) n k w rest s h in
    let t : digits 256 k n ++ rest ≡ o ++ new = (let t = f.1.text in cc) ∙ sym d in
    let q = same_digits k n o rest new a f.1.enough e t in
    let z : n ≡ m = q.0 ∙ sym u in
    false≢true (sym b ∙ taken (freedoms r longer_length) (is_basic r) (longer_length_is_basic r) n m k z f.1.may)

may_be_long : (n k : ℕ) (t : Bool) → ltb n 128 ≡ t → (leb 128 n && (octet_width n == k)) ≡ true → Some k ≡ cond t None (Some (octet_width n))
may_be_long n k true e h = let p = and_parts (leb 128 n) (octet_width n == k) h in let a = leb-true 128 n p.0 in let b = ltb-true n 128 e in absurd (omega arith)
may_be_long n k false e h = let p = and_parts (leb 128 n) (octet_width n == k) h in ap Some (sym (eqb-true (octet_width n) k p.1))

pub read_long : (r : EncodingRules) (k m : ℕ) (o new w : List ℕ) → 1 ≤ k → k ≤ 127 → AreOctets o → length o ≡ k → o ++ new ≡ w →
    m ≡ unsigned_number o → m < 2 ^ 64 → (is_basic r || (leb 128 m && (octet_width m == k))) ≡ true → Stands (freedoms r) (length_form m) ((128 + k) ∷ w) new
read_long r k m o new w s f a e d u l b =
    let g : digits 256 k m ≡ o = ap (λ j. digits 256 j m) (sym e) ∙ ap (digits 256 (length o)) u ∙ digits-unsigned o a in
    let x : m < 256 ^ k = let y = unsigned-lt o a in subst (λ j. m < 256 ^ j) e (subst (λ j. j < 256 ^ length o) (sym u) y) in
    let h : octet_width m ≤ k = octets-least m k (octet_width m) (octet_width-octets m) x in
    let t : (128 + k) ∷ (digits 256 k m ++ new) ≡ (128 + k) ∷ w = ap (λ i. (128 + k) ∷ (i ++ new)) g ∙ ap (λ i. (128 + k) ∷ i) d in
    long_stands (freedoms r) m k ((128 + k) ∷ w) new l
    (record { some = s; most = f; enough = h; text = t; may = elim (or_cases (is_basic r) _ b) [ inl y ↦ inr (longer_length_is_basic r ∙ y) | inr y ↦ inl (may_be_long m k (ltb m 128) refl y) ] })

-- ---- one length determinant

-- The octets begin with at most one length determinant.
pub length_one : (free : Freedom → Bool) (n m : ℕ) (os r s : List ℕ) → Stands free (length_form n) os r → Stands free (length_form m) os s → (n ≡ m) × (r ≡ s)
length_one free n m os r s x y = go (length_front free n os r x).1 (length_front free m os s y).1
  where
    go : ((n < 128) × (n ∷ r ≡ os)) ⊎ ((k : ℕ) × Long free n k os r) → ((m < 128) × (m ∷ s ≡ os)) ⊎ ((k : ℕ) × Long free m k os s) → (n ≡ m) × (r ≡ s)
    go (inl a) (inl b) = let p = a.1 in let q = b.1 in (cc, cc)
    go (inl a) (inr (k, b)) = let p : n ≡ 128 + k = (let u = a.1 in let v = b.text in cc) in let q = a.0 in absurd (omega arith)
    go (inr (k, a)) (inl b) = let p : m ≡ 128 + k = (let u = b.1 in let v = a.text in cc) in let q = b.0 in absurd (omega arith)
    go (inr (k, a)) (inr (j, b)) =
        let p : 128 + k ≡ 128 + j = (let u = a.text in let v = b.text in cc) in
        let q : k ≡ j = omega arith in
        let e : digits 256 k n ++ r ≡ digits 256 j m ++ s = (let u = a.text in let v = b.text in cc) in
        let f = fronts_equal (digits 256 k n) (digits 256 j m) r s (length-digits k n ∙ q ∙ sym (length-digits j m)) e in
        let g : n ≡ m = sym (unsigned-digits k n (octets_hold n k a.enough)) ∙ ap unsigned_number f.0 ∙ unsigned-digits j m (octets_hold m j b.enough) in
        (g, f.1)

-- ---- octets after a length determinant

pub each_octet : (os : List ℕ) → AreOctets os → list_all is_octet os ≡ true
each_octet [] h = refl
each_octet (o ∷ os) h = and_true _ _ (lt-ltb o 256 h.0) (each_octet os h.1)

pub are_octets : (os : List ℕ) → list_all is_octet os ≡ true → AreOctets os
are_octets [] e = tt
are_octets (o ∷ os) e = let p = and_parts (is_octet o) (list_all is_octet os) e in (ltb-true o 256 p.0, are_octets os p.1)

module _ (free : Freedom → Bool) where
  pub counted_stands : (os w rest : List ℕ) → list_all is_octet os ≡ true → Stands free (length_form (length os)) w (os ++ rest) → Stands free (counted os) w rest
  unfolding counted
  counted_stands os w rest e h = if_stands free (list_all is_octet os) _ w rest e (followed_stands free (length_form (length os)) os w rest h)

  pub counted_front : (os w rest : List ℕ) → Stands free (counted os) w rest → (list_all is_octet os ≡ true) × Stands free (length_form (length os)) w (os ++ rest)
  unfolding counted
  counted_front os w rest h = let i = if_front free (list_all is_octet os) _ w rest h in (i.0, followed_front free (length_form (length os)) os w rest i.1)

  -- The octets begin with at most one list of octets after its length determinant.
  pub counted_one : (a b w r s : List ℕ) → Stands free (counted a) w r → Stands free (counted b) w s → (a ≡ b) × (r ≡ s)
  counted_one a b w r s x y =
      let f = counted_front a w r x in
      let g = counted_front b w s y in
      let o = length_one free (length a) (length b) w (a ++ r) (b ++ s) f.1 g.1 in
      fronts_equal a b r s o.0 o.1

  pub no_length : (w : List ℕ) → NoneStands free length_form w → NoneStands free counted w
  no_length w h os rest s = h (length os) (os ++ rest) (counted_front os w rest s).1

  pub few_counted : (n : ℕ) (w mid : List ℕ) → Stands free (length_form n) w mid → length mid < n → NoneStands free counted w
  few_counted n w mid h l os rest s =
      let o = length_one free n (length os) w mid (os ++ rest) h (counted_front os w rest s).1 in
      let a = length-append os rest in
      let x = o.0 in
      let y = ap length o.1 in
      absurd (omega (arith, a, x, y, l))

  pub read_counted : (n : ℕ) (os w mid rest : List ℕ) → AreOctets os → Stands free (length_form n) w mid → os ++ rest ≡ mid → length os ≡ n → Stands free (counted os) w rest
  read_counted n os w mid rest a h e l = counted_stands os w rest (each_octet os a)
      (subst (λ j. Stands free (length_form j) w (os ++ rest)) (sym l) (subst (λ m. Stands free (length_form n) w m) (sym e) h))

-- ---- the errors of the first octet of a length determinant

pub no_octets : (free : Freedom → Bool) (w : List ℕ) → w ≡ [] → NoneStands free length_form w
no_octets free w e n rest h = elim (length_front free n w rest h).1 [
  | inl a ↦ let x : n ∷ rest ≡ [] = a.1 ∙ e in cc
  | inr b ↦ let x : (128 + b.0) ∷ (digits 256 b.0 n ++ rest) ≡ [] = b.1.text ∙ e in cc
]

pub no_number : (free : Freedom → Bool) (o : ℕ) (w new : List ℕ) → w ≡ o ∷ new → o ≡ 128 → NoneStands free length_form w
no_number free o w new e z n rest h = elim (length_front free n w rest h).1 [
  | inl a ↦ let x : n ∷ rest ≡ o ∷ new = a.1 ∙ e in let y : n ≡ o = cc in let l = a.0 in absurd (omega arith)
  | inr b ↦ let x : (128 + b.0) ∷ (digits 256 b.0 n ++ rest) ≡ o ∷ new = b.1.text ∙ e in let y : 128 + b.0 ≡ o = cc in let l = b.1.some in absurd (omega arith)
]
