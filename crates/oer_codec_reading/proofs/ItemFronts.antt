-- Octets that begin with an enumeration value.
use Rattle.std.proofs.Common.{◌≡◌, ℕ, ◌+◌, ◌-◌, ◌*◌, ◌^◌, ◌<◌, ◌≤◌, ltb, leb, ℤ, pos, negsuc, Bool, true, false, cond}
use Rattle.std.proofs.Common.{IsTrue, ◌&&◌, ◌⊎◌, inl, inr, List, [], ◌∷◌, ◌++◌, length, take, Option, Some, None, refl}
use Rattle.std.proofs.Common.{ap, sym, ◌∙◌, subst, arith, length-append}
use Rattle.std.proofs.lemmas.Bool.{false≢true, le-leb, lt-ltb, leb-true, ltb-true, ltb-false, and_parts}
use Rattle.asn1_model.specs.Numbers.{complement, signed_octets}
use Rattle.asn1_model.specs.Form.{exactly, Reads}
use Rattle.asn1_model.specs.Oer.{Freedom, OctetForm, longer_item, long_item, short_item, item_octets, item_form}
use Rattle.asn1_values_natives.specs.Octets.{is_padded, plain, signed_number}
use Rattle.asn1_values_natives.proofs.OctetLaws.{AreOctets, pow_pos256, signed-low, signed-high}
use Rattle.asn1_values_natives.proofs.TwosComplement.{complement-back, length-complement, plain-large, signed-back, signed_octets-fewest, signed_octets-least, written-fewest}
use Rattle.asn1_values_natives.proofs.Widths.{signed_octets-plain}
use Rattle.oer_codec_reading.specs.declared.rules.EncodingRules.{EncodingRules}
use Rattle.oer_codec_reading.specs.declared.rules.EncodingRules.TheVariants.{Oer, Coer}
use Rattle.oer_codec_reading.specs.Fronts.{freedoms, is_basic, Stands, NoneStands}
use Rattle.oer_codec_reading.proofs.Freedoms.{and_true}
use Rattle.oer_codec_reading.proofs.Fronts.{fronts_equal, exactly_stands, exactly_front, if_stands, if_front, varied_stands, varied_front}
use Rattle.oer_codec_reading.specs.Items.{is_longer}

longer_item_is_basic : (r : EncodingRules) → freedoms r longer_item ≡ is_basic r
longer_item_is_basic Oer = refl
longer_item_is_basic Coer = refl

abbrev some_item : ℤ → Option ℕ → OctetForm
some_item v o = elim o [ None ↦ short_item v | Some k ↦ long_item k v ]

-- The octets begin with an enumeration value in the long form.
record Long (free : Freedom → Bool) (v : ℤ) (k : ℕ) (os rest : List ℕ) : Type 0 where
  pub enough : signed_octets v ≤ k
  pub most : k ≤ 127
  pub text : (128 + k) ∷ (complement k v ++ rest) ≡ os
  pub may : (Some k ≡ item_octets v) ⊎ (free longer_item ≡ true)

abbrev Short : ℤ → List ℕ → List ℕ → Type 0
Short v os rest = (n : ℕ) × (v ≡ pos n) × (n < 128) × (n ∷ rest ≡ os)

module _ (free : Freedom → Bool) where
  short_front : (v : ℤ) (os rest : List ℕ) → Stands free (short_item v) os rest → Short v os rest
  unfolding Reads
  short_front (pos n) os rest h = let i = if_front free (ltb n 128) (exactly (n ∷ [])) os rest h in (n, refl, ltb-true _ _ i.0, exactly_front free (n ∷ []) os rest i.1)
  short_front (negsuc n) os rest h = absurd h.2

  item_front : (v : ℤ) (os rest : List ℕ) → Stands free (item_form v) os rest → Short v os rest ⊎ ((k : ℕ) × Long free v k os rest)
  unfolding item_form
  item_front v os rest h = let w = varied_front free longer_item (item_octets v) (some_item v) os rest h in go w.0 w.1 w.2
    where
      go : (o : Option ℕ) → (o ≡ item_octets v) ⊎ IsTrue (free longer_item) → Stands free (some_item v o) os rest → Short v os rest ⊎ ((k : ℕ) × Long free v k os rest)
      go None a s = inl (short_front v os rest s)
      go (Some k) a s =
          let i = if_front free (leb (signed_octets v) k && leb k 127) (exactly ((128 + k) ∷ complement k v)) os rest s in
          let p = and_parts (leb (signed_octets v) k) (leb k 127) i.0 in
          inr (k, record { enough = leb-true _ _ p.0; most = leb-true _ _ p.1; text = exactly_front free ((128 + k) ∷ complement k v) os rest i.1; may = a })

  short_stands : (n : ℕ) (os rest : List ℕ) → n < 128 → n ∷ rest ≡ os → Stands free (item_form (pos n)) os rest
  unfolding item_form
  short_stands n os rest l e =
      let c : item_octets (pos n) ≡ None = ap (λ t. cond t None (Some (signed_octets (pos n)))) (lt-ltb n 128 l) in
      varied_stands free longer_item (item_octets (pos n)) None (some_item (pos n)) os rest (inl (sym c))
      (if_stands free (ltb n 128) (exactly (n ∷ [])) os rest (lt-ltb n 128 l) (exactly_stands free (n ∷ []) os rest e))

  long_stands : (v : ℤ) (k : ℕ) (os rest : List ℕ) → Long free v k os rest → Stands free (item_form v) os rest
  unfolding item_form
  long_stands v k os rest h =
      varied_stands free longer_item (item_octets v) (Some k) (some_item v) os rest h.may
      (if_stands free (leb (signed_octets v) k && leb k 127) (exactly ((128 + k) ∷ complement k v)) os rest
      (and_true _ _ (le-leb _ _ h.enough) (le-leb _ _ h.most)) (exactly_stands free ((128 + k) ∷ complement k v) os rest h.text))

-- ---- which octets are the fewest

one_low : (o : ℕ) → o < 128 → signed_number (o ∷ []) ≡ pos o
one_low o l = let e : o * 256 ^ 0 + 0 ≡ o = omega arith in signed-low o [] l ∙ ap pos e

item_low : (o : ℕ) → o < 128 → item_octets (pos o) ≡ None
item_low o l = ap (λ t. cond t None (Some (signed_octets (pos o)))) (lt-ltb o 128 l)

none_some : (k : ℕ) → None ≡ Some k → ⊥
none_some k e = cc e

not_longer : (os : List ℕ) (v : ℤ) (k : ℕ) → signed_number os ≡ v → is_padded os ≡ false → Some k ≡ item_octets v → is_longer os ≡ false
not_longer [] v k n p e = p
not_longer (o ∷ []) v k n p e = go (ltb o 128) refl
  where
    go : (t : Bool) → ltb o 128 ≡ t → t ≡ false
    go true d = let l = ltb-true o 128 d in absurd (none_some k (sym (item_low o l) ∙ ap item_octets (sym (one_low o l) ∙ n) ∙ sym e))
    go false d = refl
not_longer (a ∷ b ∷ os) v k n p e = p

some_octets : (v : ℤ) (k : ℕ) → Some k ≡ item_octets v → k ≡ signed_octets v
some_octets (pos n) k e = go (ltb n 128) e
  where
    go : (t : Bool) → Some k ≡ cond t None (Some (signed_octets (pos n))) → k ≡ signed_octets (pos n)
    go true e = absurd (none_some k (sym e))
    go false e = cc e
some_octets (negsuc n) k e = cc e

fewest_item : (v : ℤ) (k : ℕ) → Some k ≡ item_octets v → is_longer (complement k v) ≡ false
fewest_item v k e =
    let f = some_octets v k e in
    not_longer (complement k v) v k (ap (λ j. signed_number (complement j v)) f ∙ signed-back v) (ap (λ j. is_padded (complement j v)) f ∙ written-fewest v) e

wide_item : (v : ℤ) → 128 ≤ plain v → Some (signed_octets v) ≡ item_octets v
wide_item (pos n) l = let f : ltb n 128 ≡ false = grind arith in ap (λ t. cond t None (Some (signed_octets (pos n)))) (sym f)
wide_item (negsuc n) l = refl

one_high : (o : ℕ) → 128 ≤ o → o < 256 → Some 1 ≡ item_octets (signed_number (o ∷ []))
one_high o l m =
    let e = signed-high o [] l (m, tt) in
    let f : signed_octets (signed_number (o ∷ [])) ≡ 1 = signed_octets-fewest o [] (m, tt) refl in
    let h : item_octets (signed_number (o ∷ [])) ≡ Some (signed_octets (signed_number (o ∷ []))) = ap item_octets e ∙ ap (λ v. Some (signed_octets v)) (sym e) in
    ap Some (sym f) ∙ sym h

shortest_item : (os : List ℕ) → AreOctets os → 0 < length os → is_longer os ≡ false → Some (length os) ≡ item_octets (signed_number os)
shortest_item [] a l e = absurd (omega arith)
shortest_item (o ∷ []) a l e = let h = ltb-false o 128 e in one_high o h a.0
shortest_item (x ∷ y ∷ os) a l e =
    let p = plain-large x y os a e in
    let q = pow_pos256 (length os) in
    let h : 128 ≤ plain (signed_number (x ∷ y ∷ os)) = omega (arith, p, q) in
    ap Some (sym (signed_octets-fewest x (y ∷ os) a e)) ∙ wide_item (signed_number (x ∷ y ∷ os)) h

-- ---- what read_item returns

pub no_octet : (free : Freedom → Bool) (os : List ℕ) → os ≡ [] → NoneStands free item_form os
no_octet free os e v rest h = elim (item_front free v os rest h) [
  | inl a ↦ let x : a.0 ∷ rest ≡ [] = a.3 ∙ e in cc
  | inr b ↦ let x : (128 + b.0) ∷ (complement b.0 v ++ rest) ≡ [] = b.1.text ∙ e in cc
]

pub short_read : (free : Freedom → Bool) (o : ℕ) (ws os new : List ℕ) → ws ≡ os → os ≡ o ∷ new → o < 128 → Stands free (item_form (signed_number (take 1 ws))) os new
short_read free o ws os new e f l =
    let t : take 1 ws ≡ o ∷ [] = ap (take 1) (e ∙ f) in
    subst (λ v. Stands free (item_form v) os new) (sym (ap signed_number t ∙ one_low o l)) (short_stands free o os new l (sym f))

-- after an octet of 128 or more
record Behind (free : Freedom → Bool) (v : ℤ) (k : ℕ) (mid rest : List ℕ) : Type 0 where
  pub enough : signed_octets v ≤ k
  pub text : complement k v ++ rest ≡ mid
  pub may : (Some k ≡ item_octets v) ⊎ (free longer_item ≡ true)

item_behind : (free : Freedom → Bool) (v : ℤ) (o k : ℕ) (os mid rest : List ℕ) → os ≡ o ∷ mid → 128 + k ≡ o → Stands free (item_form v) os rest → Behind free v k mid rest
item_behind free v o k os mid rest e l h = elim (item_front free v os rest h) [
  | inl a ↦
      let x : a.0 ∷ rest ≡ o ∷ mid = a.3 ∙ e in
      let y : a.0 ≡ o = cc in
      let m = a.2 in
      absurd (omega (arith, y, m, l))
  | inr b ↦
      let x : (128 + b.0) ∷ (complement b.0 v ++ rest) ≡ o ∷ mid = b.1.text ∙ e in
      let y : 128 + b.0 ≡ o = cc in
      let z : b.0 ≡ k = omega (arith, y, l) in
      let t : complement b.0 v ++ rest ≡ mid = cc in
      record {
        enough = subst (λ j. signed_octets v ≤ j) z b.1.enough;
        text = ap (λ j. complement j v ++ rest) (sym z) ∙ t;
        may =
            subst (λ j. (Some j ≡ item_octets v) ⊎ (free longer_item ≡ true)) z b.1.may;
      }
]

pub no_octets : (free : Freedom → Bool) (o : ℕ) (os mid : List ℕ) → os ≡ o ∷ mid → o ≡ 128 → NoneStands free item_form os
no_octets free o os mid e z v rest h =
    let b = item_behind free v o 0 os mid rest e (sym z) h in
    let l = b.enough in
    let p = signed_octets-plain v in
    omega (arith, l, p)

pub few_octets : (free : Freedom → Bool) (o : ℕ) (os mid : List ℕ) → os ≡ o ∷ mid → 128 ≤ o → length mid < o - 128 → NoneStands free item_form os
few_octets free o os mid e l s v rest h =
    let b = item_behind free v o (o - 128) os mid rest e (omega arith) h in
    let x = length-append (complement (o - 128) v) rest in
    let y = ap length b.text in
    let z = length-complement (o - 128) v in
    omega (arith, x, y, z, s)

pub longer_octets : (r : EncodingRules) (o : ℕ) (os mid new w : List ℕ) → os ≡ o ∷ mid → 128 ≤ o → w ++ new ≡ mid → length w ≡ o - 128 →
    is_longer w ≡ true → is_basic r ≡ false → NoneStands (freedoms r) item_form os
longer_octets r o os mid new w e l f n g b v rest h =
    let i = item_behind (freedoms r) v o (o - 128) os mid rest e (omega arith) h in
    let q = (fronts_equal (complement (o - 128) v) w rest new (length-complement (o - 128) v ∙ sym n) (i.text ∙ sym f)).0 in
    elim i.may [
      | inl m ↦ false≢true (sym (fewest_item v (o - 128) m) ∙ ap is_longer q ∙ g)
      | inr m ↦ false≢true (sym b ∙ sym (longer_item_is_basic r) ∙ m)
    ]

least_item : (os : List ℕ) → AreOctets os → 0 < length os → signed_octets (signed_number os) ≤ length os
least_item [] a l = absurd (omega arith)
least_item (o ∷ os) a l = signed_octets-least o os a

pub item_read : (r : EncodingRules) (o : ℕ) (os mid new w : List ℕ) → os ≡ o ∷ mid → 128 ≤ o → ¬ (o ≡ 128) → o < 256 → w ++ new ≡ mid →
    length w ≡ o - 128 → AreOctets w → (is_basic r ≡ true) ⊎ (is_longer w ≡ false) → Stands (freedoms r) (item_form (signed_number w)) os new
item_read r o os mid new w e l d s f n a b =
    let p : 0 < length w = omega (arith, n, l, d) in
    let k : 128 + length w ≡ o = omega (arith, n, l) in
    long_stands (freedoms r) (signed_number w) (length w) os new (record {
      enough = least_item w a p;
      most = omega (arith, k, s);
      text = ap (λ x. (128 + length w) ∷ (x ++ new)) (complement-back w a p) ∙ ap (λ x. x ∷ (w ++ new)) k ∙ ap (λ x. o ∷ x) f ∙ sym e;
      may = elim b [ inl t ↦ inr (longer_item_is_basic r ∙ t) | inr t ↦ inl (shortest_item w a p t) ];
    })
