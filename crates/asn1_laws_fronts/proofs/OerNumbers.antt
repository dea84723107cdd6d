-- Prefixes of numbers and length determinants of the octet rules.
use Rattle.std.specs.Prelude.{ℤ, pos, negsuc, max}
use Rattle.std.proofs.Common.{◌≡◌, ℕ, ◌+◌, ◌^◌, ◌<◌, ◌≤◌, ltb, leb, not, lit<, Bool, true, false, cond, ◌&&◌, ◌||◌, List, [], ◌∷◌, length, Option, Some, None, refl, ap, sym, ◌∙◌, subst, arith}
use Rattle.std.proofs.lemmas.Bool.{ltb-true, leb-true, and_parts}
use Rattle.asn1_model.specs.Schema.{Range, Bounds}
use Rattle.asn1_model.specs.Numbers.{digits, octet_width, least_octets, signed_octets, complement, is_at_most, is_within, fits_128}
use Rattle.asn1_model.specs.Form.{exactly, only_if}
use Rattle.asn1_model.specs.Normal.{is_bounded}
use Rattle.asn1_model.specs.Strings.{is_octet}
use Rattle.std.specs.List.{list_all}
use Rattle.asn1_model.specs.Oer
use Rattle.asn1_laws_values.proofs.Numbers.{FitsIn, length-digits, length-complement, digits_equal, complement_equal, octets_hold, signed_hold, at_most_pos, at_most_negsuc, not_below}
use Rattle.asn1_laws_fronts.proofs.Fronts.{Agree, agree_exactly, agree_refused, agree_with_refused, agree_map}
use Rattle.asn1_laws_fronts.proofs.Fronts.{agree_both, agree_varied, agree_if, agree_if_left, agree_if_right}
use Rattle.asn1_laws_fronts.proofs.Fronts.{agree_first, agree_nothing}
use Rattle.std.specs.Option.{option_map_or}

abbrev pub OctetsAlike : (Oer.Freedom → Bool) → Oer.OctetForm → Oer.OctetForm → Type 0 → Type 0
OctetsAlike free x y P = Agree {F = Oer.Freedom} {D = Oer.Detail} {A = ℕ} free x y P

-- equal digits, however many they are
pub digits_same : (k j n m : ℕ) → octet_width n ≤ k → octet_width m ≤ j → digits 256 k n ≡ digits 256 j m → n ≡ m
digits_same k j n m h i e =
    let l : k ≡ j = sym (length-digits 256 k n) ∙ ap length e ∙ length-digits 256 j m in
    let a : n < 256 ^ k = octets_hold k n h in
    let b : m < 256 ^ k = octets_hold k m (omega arith) in
    digits_equal 256 k n m (lit< tt) a b (e ∙ ap (λ x. digits 256 x m) (sym l))

pub complements_same : (k j : ℕ) (v w : ℤ) → signed_octets v ≤ k → signed_octets w ≤ j → complement k v ≡ complement j w → v ≡ w
complements_same k j v w h i e =
    let l : k ≡ j = sym (length-complement k v) ∙ ap length e ∙ length-complement j w in
    let a = signed_hold k v h in
    let b = signed_hold k w (omega arith) in
    complement_equal k v w a.0 a.1 b.1 (e ∙ ap (λ x. complement x w) (sym l))

same_count : (k j : ℕ) → 128 + k ≡ 128 + j → k ≡ j
same_count k j e = omega arith

-- the octets of a fixed form
some_octets : (k j : ℕ) (a b c d : Bool) → cond a (Some 1) (cond b (Some 2) (cond c (Some 4) (cond d (Some 8) None))) ≡ Some j →
    (a ≡ true → k ≤ 1) → (b ≡ true → k ≤ 2) → (c ≡ true → k ≤ 4) → (d ≡ true → k ≤ 8) → k ≤ j
some_octets k j true b c d e f g h i = let q : 1 ≡ j = cc in subst (λ x. k ≤ x) q (f refl)
some_octets k j false true c d e f g h i = let q : 2 ≡ j = cc in subst (λ x. k ≤ x) q (g refl)
some_octets k j false false true d e f g h i = let q : 4 ≡ j = cc in subst (λ x. k ≤ x) q (h refl)
some_octets k j false false false true e f g h i = let q : 8 ≡ j = cc in subst (λ x. k ≤ x) q (i refl)
some_octets k j false false false false e f g h i = cc

fixed_hold : (k j : ℕ) → Oer.fixed_octets k ≡ Some j → k ≤ j
fixed_hold k j e = some_octets k j (leb k 1) (leb k 2) (leb k 4) (leb k 8) e (leb-true k 1) (leb-true k 2) (leb-true k 4) (leb-true k 8)

module _ (free : Oer.Freedom → Bool) where
  -- ---- length determinants, and octets after them
  long_length_alike : (n m k j : ℕ) → OctetsAlike free (Oer.long_length n k) (Oer.long_length m j) (n ≡ m)
  long_length_alike n m k j = agree_if free (leb 1 k && leb k 127 && leb (octet_width n) k) (leb 1 j && leb j 127 && leb (octet_width m) j) _ _ (λ h i.
      let a : octet_width n ≤ k = leb-true _ _ ((and_parts _ _ h).1) in
      let b : octet_width m ≤ j = leb-true _ _ ((and_parts _ _ i).1) in
      agree_first free (λ e.
      let l : k ≡ j = same_count k j e in
      agree_map free (λ f. digits_same k j n m a b f) (agree_exactly free (digits 256 k n) (digits 256 j m) (length-digits 256 k n ∙ l ∙ sym (length-digits 256 j m)))))

  abbrev some_length : ℕ → Option ℕ → Oer.OctetForm
  some_length n o = elim o [ None ↦ only_if (ltb n 128) (exactly (n ∷ [])) | Some k ↦ Oer.long_length n k ]

  short_and_long : (n m k : ℕ) → n < 128 → OctetsAlike free (exactly (n ∷ [])) (Oer.long_length m k) (n ≡ m)
  short_and_long n m k h = agree_if_right free
      (leb 1 k && leb k 127 && leb (octet_width m) k) {x = exactly (n ∷ [])} {y = exactly ((128 + k) ∷ digits 256 k m)} (λ i. agree_first free (λ e. absurd (omega arith)))

  long_and_short : (n m k : ℕ) → m < 128 → OctetsAlike free (Oer.long_length n k) (exactly (m ∷ [])) (n ≡ m)
  long_and_short n m k h = agree_if_left free
      (leb 1 k && leb k 127 && leb (octet_width n) k) {x = exactly ((128 + k) ∷ digits 256 k n)} {y = exactly (m ∷ [])} (λ i. agree_first free (λ e. absurd (omega arith)))

  some_lengths_alike : (n m : ℕ) (o q : Option ℕ) → OctetsAlike free (some_length n o) (some_length m q) (n ≡ m)
  some_lengths_alike n m None None = agree_if free (ltb n 128) (ltb m 128) _ _ (λ h i. agree_first free (λ e. agree_map free (λ u. e) (agree_nothing free)))
  some_lengths_alike n m None (Some j) = agree_if_left free (ltb n 128) {x = exactly (n ∷ [])} {y = Oer.long_length m j} (λ h. short_and_long n m j (ltb-true _ _ h))
  some_lengths_alike n m (Some k) None = agree_if_right free (ltb m 128) {x = Oer.long_length n k} {y = exactly (m ∷ [])} (λ h. long_and_short n m k (ltb-true _ _ h))
  some_lengths_alike n m (Some k) (Some j) = long_length_alike n m k j

  pub length_alike : (n m : ℕ) → OctetsAlike free (Oer.length_form n) (Oer.length_form m) (n ≡ m)
  unfolding Oer.length_form
  length_alike n m = agree_if free (ltb n (2 ^ 64)) (ltb m (2 ^ 64)) _ _ (λ h i. agree_varied free (λ o q. some_lengths_alike n m o q))

  pub counted_alike : (os ps : List ℕ) → OctetsAlike free (Oer.counted os) (Oer.counted ps) (os ≡ ps)
  unfolding Oer.counted
  counted_alike os ps = agree_if free (list_all is_octet os) (list_all is_octet ps) _ _
      (λ h i. agree_map free (λ q. q.1) (agree_both free (length_alike (length os) (length ps)) (λ e. agree_exactly free os ps e)))

  -- ---- numbers
  pub signed_alike : (v w : ℤ) → OctetsAlike free (Oer.signed v) (Oer.signed w) (v ≡ w)
  unfolding Oer.signed
  signed_alike v w = agree_varied free (λ k j. agree_if free (leb (signed_octets v) k) (leb (signed_octets w) j) _ _
      (λ h i. agree_map free (λ e. complements_same k j v w (leb-true _ _ h) (leb-true _ _ i) e) (counted_alike (complement k v) (complement j w))))

  pub unsigned_alike : (n m : ℕ) → OctetsAlike free (Oer.unsigned n) (Oer.unsigned m) (n ≡ m)
  unfolding Oer.unsigned
  unsigned_alike n m = agree_varied free (λ k j. agree_if free (leb (least_octets n) k) (leb (least_octets m) j) _ _ (λ h i.
      let a : least_octets n ≤ k = leb-true _ _ h in
      let b : least_octets m ≤ j = leb-true _ _ i in
      agree_map free (λ e. digits_same k j n m (omega arith) (omega arith) e) (counted_alike (digits 256 k n) (digits 256 j m))))

  fixed_natural : (k n m : ℕ) → n < 256 ^ k → m < 256 ^ k → OctetsAlike free (exactly (digits 256 k n)) (exactly (digits 256 k m)) (pos n ≡ pos m)
  fixed_natural k n m h i = agree_map free (λ e. ap pos (digits_equal 256 k n m (lit< tt) h i e)) (agree_exactly free _ _ (length-digits 256 k n ∙ sym (length-digits 256 k m)))

  natural_alike : (high : ℕ) (o : Option ℕ) (v w : ℤ) → ((k : ℕ) → o ≡ Some k → octet_width high ≤ k) → is_at_most v (pos high)
      ≡ true → is_at_most w (pos high) ≡ true → OctetsAlike free (Oer.natural_form o v) (Oer.natural_form o w) (v ≡ w)
  natural_alike high (Some k) (pos n) (pos m) h i j =
      let f = h k refl in
      let a = at_most_pos n high i in
      let b = at_most_pos m high j in
      let c = octets_hold k high f in
      fixed_natural k n m (omega arith) (omega arith)
  natural_alike high None (pos n) (pos m) h i j = agree_map free (λ e. ap pos e) (unsigned_alike n m)
  natural_alike high (Some k) (negsuc n) w h i j = agree_refused free _ _
  natural_alike high None (negsuc n) w h i j = agree_refused free _ _
  natural_alike high (Some k) (pos n) (negsuc m) h i j = agree_with_refused free _ _
  natural_alike high None (pos n) (negsuc m) h i j = agree_with_refused free _ _

  unbounded_alike : (v w : ℤ) → OctetsAlike free (Oer.natural_form None v) (Oer.natural_form None w) (v ≡ w)
  unbounded_alike (pos n) (pos m) = agree_map free (λ e. ap pos e) (unsigned_alike n m)
  unbounded_alike (negsuc n) w = agree_refused free _ _
  unbounded_alike (pos n) (negsuc m) = agree_with_refused free _ _

  -- what is between a negative bound and another fits if these do
  between_fits : (k low : ℕ) (high v : ℤ) → FitsIn k (negsuc low) → FitsIn k high → is_at_most (negsuc low) v ≡ true → is_at_most v high ≡ true → FitsIn k v
  between_fits k low (pos h) (pos n) f g i j = let a = at_most_pos n h j in omega arith
  between_fits k low (negsuc h) (pos n) f g i j = absurd (not_below n h j)
  between_fits k low high (negsuc n) f g i j = let a = at_most_negsuc low n i in omega arith

  fixed_signed : (k low : ℕ) (high v w : ℤ) → max (signed_octets (negsuc low)) (signed_octets high) ≤ k → is_at_most (negsuc low) v
      ≡ true → is_at_most v high ≡ true → is_at_most (negsuc low) w ≡ true → is_at_most w high ≡ true → OctetsAlike free (exactly (complement k v)) (exactly (complement k w)) (v ≡ w)
  fixed_signed k low high v w h i j l m =
      let a = signed_hold k (negsuc low) (omega arith) in
      let b = signed_hold k high (omega arith) in
      agree_map free (λ e. complement_equal k v w a.0 (between_fits k low high v a.1 b.1 i j)
      (between_fits k low high w a.1 b.1 l m) e) (agree_exactly free _ _ (length-complement k v ∙ sym (length-complement k w)))

  signed_form_alike : (o : Option ℕ) (low : ℕ) (high v w : ℤ) →
      ((k : ℕ) → o ≡ Some k → max (signed_octets (negsuc low)) (signed_octets high) ≤ k) → is_at_most (negsuc low) v ≡ true →
      is_at_most v high ≡ true → is_at_most (negsuc low) w ≡ true → is_at_most w high ≡ true → OctetsAlike free (Oer.signed_form o v) (Oer.signed_form o w) (v ≡ w)
  signed_form_alike (Some k) low high v w h i j l m = fixed_signed k low high v w (h k refl) i j l m
  signed_form_alike None low high v w h i j l m = signed_alike v w

  bounded_alike : (low high : Option ℤ) (v w : ℤ) → option_map_or (λ x. is_at_most x v) low true ≡ true →
      option_map_or (λ x. is_at_most v x) high true ≡ true → option_map_or (λ x. is_at_most x w) low true ≡ true →
      option_map_or (λ x. is_at_most w x) high true ≡ true → OctetsAlike free (Oer.bounded low high v) (Oer.bounded low high w) (v ≡ w)
  unfolding Oer.bounded
  bounded_alike (Some (pos low)) (Some (pos high)) v w h i j k = natural_alike high (Oer.fixed_octets (octet_width high)) v w (λ n e. fixed_hold _ n e) i k
  bounded_alike (Some (pos low)) (Some (negsuc high)) v w h i j k = unbounded_alike v w
  bounded_alike (Some (pos low)) None v w h i j k = unbounded_alike v w
  bounded_alike (Some (negsuc low)) (Some high) v w h i j k =
      signed_form_alike (Oer.fixed_octets (max (signed_octets (negsuc low)) (signed_octets high))) low high v w (λ n e. fixed_hold _ n e) h i j k
  bounded_alike (Some (negsuc low)) None v w h i j k = signed_alike v w
  bounded_alike None high v w h i j k = signed_alike v w

  either_alike : (e : Bool) (b : Bounds) (v w : ℤ) →
      OctetsAlike free (cond e (Oer.signed v) (only_if (is_within b.range v) (Oer.bounded b.range.low b.range.high v)))
      (cond e (Oer.signed w) (only_if (is_within b.range w) (Oer.bounded b.range.low b.range.high w))) (v ≡ w)
  either_alike true b v w = signed_alike v w
  either_alike false b v w = agree_if free (is_within b.range v) (is_within b.range w) _ _ (λ h i.
      let h' = and_parts _ _ h in
      let i' = and_parts _ _ i in
      bounded_alike b.range.low b.range.high v w h'.0 h'.1 i'.0 i'.1)

  pub integer_alike : (b : Bounds) (held : Range) (v w : ℤ) → OctetsAlike free (Oer.integer_form b held v) (Oer.integer_form b held w) (v ≡ w)
  unfolding Oer.integer_form
  integer_alike b held v w = agree_if free (is_within held v && (not (is_bounded b) || fits_128 v))
      (is_within held w && (not (is_bounded b) || fits_128 w)) _ _ (λ h i. either_alike b.extensible b v w)
