-- Prefixes of sized units, small numbers, items, bitmaps and open types of the packed rules.
use Rattle.std.specs.Prelude.{ℤ}
use Rattle.std.proofs.Common.{◌≡◌, ℕ, zero, suc, ◌+◌, ◌-◌, ◌*◌, ◌/◌, ◌≤◌, ◌==◌, ltb, Bool, true, false, cond, ◌&&◌}
use Rattle.std.proofs.Common.{List, [], ◌∷◌, ◌++◌, length, map, flat_map, Option, Some, None, option_map, refl, ap, sym}
use Rattle.std.proofs.Common.{◌∙◌, subst, length-append, arith}
use Rattle.std.proofs.lemmas.Bool.{ltb-true, leb-true, eqb-true, and_parts}
use Rattle.asn1_model.specs.Value.{same_number}
use Rattle.asn1_model.specs.Schema.{Counts, Size}
use Rattle.asn1_model.specs.Numbers.{binary, missing, by_eights, is_count_within}
use Rattle.asn1_model.specs.Form.{exactly, both, only_if, joined, Reads}
use Rattle.std.specs.Prelude.{is_some}
use Rattle.asn1_model.specs.Rules.{octet_bits}
use Rattle.asn1_model.specs.Strings.{is_octet}
use Rattle.std.specs.List.{list_all}
use Rattle.asn1_model.specs.Normal.{item_place}
use Rattle.asn1_model.specs.Oer.{packed}
use Rattle.asn1_model.specs.Per
use Rattle.asn1_model.proofs.Forms.{map_parts}
use Rattle.asn1_laws_values.proofs.Octets.{packed_back, packed_octets, eights_units}
use Rattle.asn1_laws_values.proofs.Leaves.{numbers_equal}
use Rattle.asn1_laws_fronts.proofs.Fronts.{Pairwise, agree_exactly, agree_refused, agree_with_refused, agree_map}
use Rattle.asn1_laws_fronts.proofs.Fronts.{agree_both, agree_both_apart, agree_varied, agree_if, agree_if_left}
use Rattle.asn1_laws_fronts.proofs.Fronts.{agree_if_right, agree_first, agree_nothing}
use Rattle.asn1_laws_fronts.proofs.PerNumbers.{Alike, at_octet_alike, binary_alike, bits_apart, bits_apart'}
use Rattle.asn1_laws_fronts.proofs.PerNumbers.{length_of_map, joined_alike, counted_alike, octet_units_alike}
use Rattle.asn1_laws_fronts.proofs.PerNumbers.{octets_again, semi_alike, constrained_alike, with_extension_bit_alike}
use Rattle.asn1_laws_fronts.proofs.Complete.{complete_alike}

-- ---- units of a size
module _ (free : Per.Freedom → Bool) (X : Type 0) (R : X → X → Type 0) (f : X → Per.BitForm) (one : (x y : X) → Alike free (f x) (f y) (R x y)) where
  by_count : (al : Bool) (c : Counts) (high : ℕ) (has_padding has_padding' : Counts → Bool) (xs ys : List X) →
      (length xs ≡ length ys → has_padding c ≡ has_padding' c) → c.low ≤ length xs → c.low ≤ length ys →
      Alike free (both (Per.constrained al (high - c.low) (length (map f xs) - c.low))
      (Per.at_octet (al && has_padding c) (joined (map f xs))))
      (both (Per.constrained al (high - c.low) (length (map f ys) - c.low)) (Per.at_octet (al && has_padding' c) (joined (map f ys)))) (Pairwise R xs ys)
  by_count al c high has_padding has_padding' xs ys w h k =
      let n = length_of_map f xs in
      let m = length_of_map f ys in
      agree_map free (λ q. q.1) (agree_both free (constrained_alike free al (high - c.low) (length (map f xs) - c.low) (length (map f ys) - c.low)) (λ q.
      let l : length xs ≡ length ys = omega arith in
      subst (λ t. Alike free (Per.at_octet (al && has_padding c) (joined (map f xs))) (Per.at_octet (al && t) (joined (map f ys)))
      (Pairwise R xs ys)) (w l) (at_octet_alike free (al && has_padding c) (joined_alike free X R f one xs ys l))))

  root_cases : (t : Bool) (al : Bool) (c : Counts) (high : ℕ) (has_padding has_padding' : Counts → Bool) (xs ys : List X) →
      (length xs ≡ length ys → has_padding c ≡ has_padding' c) → c.low ≤ length xs → c.low ≤ length ys →
      Alike free (cond t (both (Per.constrained al (high - c.low) (length (map f xs) - c.low))
      (Per.at_octet (al && has_padding c) (joined (map f xs)))) (Per.counted al (map f xs)))
      (cond t (both (Per.constrained al (high - c.low) (length (map f ys) - c.low)) (Per.at_octet (al && has_padding' c) (joined (map f ys)))) (Per.counted al (map f ys))) (Pairwise R xs ys)
  root_cases true al c high has_padding has_padding' xs ys w h k = by_count al c high has_padding has_padding' xs ys w h k
  root_cases false al c high has_padding has_padding' xs ys w h k = counted_alike free X R f one al xs ys

  root_alike : (al : Bool) (c : Counts) (high : Option ℕ) (has_padding has_padding' : Counts → Bool) (xs ys : List X) →
      (length xs ≡ length ys → has_padding c ≡ has_padding' c) → c.low ≤ length xs → c.low ≤ length ys →
      Alike free (Per.sized_root al c high has_padding (map f xs)) (Per.sized_root al c high has_padding' (map f ys)) (Pairwise R xs ys)
  unfolding Per.sized_root
  root_alike al c None has_padding has_padding' xs ys w h k = counted_alike free X R f one al xs ys
  root_alike al c (Some high) has_padding has_padding' xs ys w h k = root_cases (ltb high 65536) al c high has_padding has_padding' xs ys w h k

  at_least_low : (c : Counts) (xs : List X) → is_count_within c (length (map f xs)) ≡ true → c.low ≤ length xs
  at_least_low c xs e = let b = leb-true c.low (length (map f xs)) ((and_parts _ _ e).0) in let n = length_of_map f xs in omega arith

  pub sized_alike : (al : Bool) (z : Size) (held : Counts) (has_padding has_padding' : Counts → Bool) (xs ys : List X) →
      (length xs ≡ length ys → has_padding z.counts ≡ has_padding' z.counts) → Alike free (Per.sized al z held has_padding (map f xs)) (Per.sized al z held has_padding' (map f ys)) (Pairwise R xs ys)
  unfolding Per.sized
  sized_alike al z held has_padding has_padding' xs ys w =
      agree_if free (is_count_within held (length (map f xs))) (is_count_within held (length (map f ys))) _ _
      (λ i j. with_extension_bit_alike free z.extensible (is_count_within z.counts (length (map f xs)))
      (is_count_within z.counts (length (map f ys))) _ _ _ _ (Pairwise R xs ys)
      (λ h k. root_alike al z.counts z.counts.high has_padding has_padding' xs ys w (at_least_low z.counts xs h) (at_least_low z.counts ys k)) (counted_alike free X R f one al xs ys))

-- ---- small numbers, items and bitmaps
bits_then : (free : Per.Freedom → Bool) (x : Per.BitForm) (m : List Bool) (P : Type 0) → Alike free (both (exactly (true ∷ [])) x) (exactly (false ∷ m)) P
unfolding Reads
bits_then free x m P = record {
  fronts = λ p a b r s u v e.
      let h : true ∷ (u.1 ++ r) ≡ false ∷ (m ++ s) = ap (λ c. (c ++ u.1) ++ r) u.2 ∙ ap (λ c. c ++ r) u.4 ∙ e ∙ ap (λ c. c ++ s) (sym v) in
      cc;
}

then_bits : (free : Per.Freedom → Bool) (x : Per.BitForm) (m : List Bool) (P : Type 0) → Alike free (exactly (false ∷ m)) (both (exactly (true ∷ [])) x) P
unfolding Reads
then_bits free x m P = record {
  fronts = λ p a b r s v u e.
      let h : true ∷ (u.1 ++ s) ≡ false ∷ (m ++ r) = ap (λ c. (c ++ u.1) ++ s) u.2 ∙ ap (λ c. c ++ s) u.4 ∙ sym e ∙ ap (λ c. c ++ r) (sym v) in
      cc;
}

pub items_equal : (ds : List ℤ) (v w : ℤ) (i : ℕ) → item_place v ds ≡ Some i → item_place w ds ≡ Some i → v ≡ w
items_equal [] v w i e f = cc
items_equal (d ∷ ds) v w i e f = go (same_number v d) (same_number w d) refl refl e f i (λ j g h. items_equal ds v w j g h)
  where
    go : (s t : Bool) → same_number v d ≡ s → same_number w d ≡ t → cond s (Some zero) (option_map suc (item_place v ds)) ≡ Some i →
        cond t (Some zero) (option_map suc (item_place w ds)) ≡ Some i → ℕ → ((j : ℕ) → item_place v ds ≡ Some j → item_place w ds ≡ Some j → v ≡ w) → v ≡ w
    go true true p q e f n k = numbers_equal v d p ∙ sym (numbers_equal w d q)
    go true false p q e f n k = let a = map_parts (item_place w ds) suc i f in let b : zero ≡ i = cc in let c = a.2 in absurd (omega arith)
    go false true p q e f n k = let a = map_parts (item_place v ds) suc i e in let b : zero ≡ i = cc in let c = a.2 in absurd (omega arith)
    go false false p q e f n k =
        let a = map_parts (item_place v ds) suc i e in
        let b = map_parts (item_place w ds) suc i f in
        let c : a.0 ≡ b.0 = let x = a.2 in let y = b.2 in omega arith in
        k a.0 a.1 (b.1 ∙ ap Some (sym c))

module _ (free : Per.Freedom → Bool) where
  small_cases : (al : Bool) (n m : ℕ) (s t : Bool) →
      Alike free (cond s (both (exactly (true ∷ [])) (Per.semi_constrained al n))
      (only_if (ltb n 64) (exactly (false ∷ binary 6 n)))) (cond t (both (exactly (true ∷ [])) (Per.semi_constrained al m)) (only_if (ltb m 64) (exactly (false ∷ binary 6 m)))) (n ≡ m)
  small_cases al n m true true = agree_map free (λ q. q.1) (agree_both free (agree_exactly free _ _ refl) (λ e. semi_alike free al n m))
  small_cases al n m true false = agree_if_right free (ltb m 64) {x = both (exactly (true ∷ [])) (Per.semi_constrained al n)} {y = exactly (false ∷ binary 6 m)} (λ h. bits_then free _ _ _)
  small_cases al n m false true = agree_if_left free (ltb n 64) {x = exactly (false ∷ binary 6 n)} {y = both (exactly (true ∷ [])) (Per.semi_constrained al m)} (λ h. then_bits free _ _ _)
  small_cases al n m false false = agree_if free (ltb n 64) (ltb m 64) _ _ (λ h k. agree_first free (λ e. binary_alike free 6 n m (ltb-true _ _ h) (ltb-true _ _ k)))

  pub small_alike : (al : Bool) (n m : ℕ) → Alike free (Per.normally_small al n) (Per.normally_small al m) (n ≡ m)
  unfolding Per.normally_small
  small_alike al n m = agree_varied free (λ s t. small_cases al n m s t)

  -- the bits of a bitmap
  Flagged : Type 0
  Flagged = Option Per.BitForm

  abbrev same_flag : Option Per.BitForm → Option Per.BitForm → Type 0
  same_flag a b = is_some a ≡ is_some b

  flag_alike : (a b : Option Per.BitForm) → Alike free (Per.flag a) (Per.flag b) (same_flag a b)
  flag_alike a b = agree_first free (λ e. agree_map free (λ u. e) (agree_nothing free))

  flags_equal : (xs ys : List (Option Per.BitForm)) → Pairwise same_flag xs ys → map (λ a. is_some a) xs ≡ map (λ a. is_some a) ys
  flags_equal [] [] h = refl
  flags_equal [] (y ∷ ys) h = absurd h
  flags_equal (x ∷ xs) [] h = absurd h
  flags_equal (x ∷ xs) (y ∷ ys) h = let a = h.0 in let b = flags_equal xs ys h.1 in cc

  abbrev few_short : List (Option Per.BitForm) → Per.BitForm
  few_short xs = only_if (Per.is_from_1_to_64 (length (map Per.flag xs))) (both (exactly (false ∷ binary 6 (length (map Per.flag xs) - 1))) (joined (map Per.flag xs)))

  abbrev few_long : Bool → List (Option Per.BitForm) → Per.BitForm
  few_long al xs = both (exactly (true ∷ [])) (Per.counted al (map Per.flag xs))

  shorts_alike : (xs ys : List (Option Per.BitForm)) → Alike free (few_short xs) (few_short ys) (Pairwise same_flag xs ys)
  shorts_alike xs ys = agree_if free (Per.is_from_1_to_64 (length (map Per.flag xs))) (Per.is_from_1_to_64 (length (map Per.flag ys))) _ _ (λ h k.
      let n = length_of_map Per.flag xs in
      let m = length_of_map Per.flag ys in
      let h' = and_parts _ _ h in
      let k' = and_parts _ _ k in
      let a : 1 ≤ length (map Per.flag xs) = leb-true _ _ h'.0 in
      let b : length (map Per.flag xs) ≤ 64 = leb-true _ _ h'.1 in
      let c : 1 ≤ length (map Per.flag ys) = leb-true _ _ k'.0 in
      let d : length (map Per.flag ys) ≤ 64 = leb-true _ _ k'.1 in
      agree_map free (λ q. q.1) (agree_both free
      (agree_first free (λ e. binary_alike free 6 (length (map Per.flag xs) - 1) (length (map Per.flag ys) - 1) (omega arith)
      (omega arith))) (λ e. joined_alike free (Option Per.BitForm) same_flag Per.flag flag_alike xs ys (let f = e in omega arith))))

  few_cases : (al : Bool) (xs ys : List (Option Per.BitForm)) (s t : Bool) → Alike free (cond s (few_long al xs) (few_short xs)) (cond t (few_long al ys) (few_short ys)) (Pairwise same_flag xs ys)
  few_cases al xs ys true true = agree_map free (λ q. q.1) (agree_both free (agree_exactly free _ _ refl) (λ e. counted_alike free (Option Per.BitForm) same_flag Per.flag flag_alike al xs ys))
  few_cases al xs ys true false = agree_if_right free
      (Per.is_from_1_to_64 (length (map Per.flag
      ys))) {x = few_long al xs} {y = both (exactly (false ∷ binary 6 (length (map Per.flag ys) - 1))) (joined (map Per.flag ys))}
      (λ h. agree_both_apart free (agree_first free (λ e. absurd (bit_differs e))))
    where
      bit_differs : true ≡ false → ⊥
      bit_differs e = cc
  few_cases al xs ys false true = agree_if_left free
      (Per.is_from_1_to_64 (length (map Per.flag
      xs))) {x = both (exactly (false ∷ binary 6 (length (map Per.flag xs) - 1))) (joined (map Per.flag xs))} {y = few_long al ys}
      (λ h. agree_both_apart free (agree_first free (λ e. absurd (bit_differs e))))
    where
      bit_differs : false ≡ true → ⊥
      bit_differs e = cc
  few_cases al xs ys false false = shorts_alike xs ys

  pub bitmap_alike : (al : Bool) (xs ys : List (Option Per.BitForm)) →
      Alike free (Per.normally_few al (map Per.flag xs)) (Per.normally_few al (map Per.flag ys)) (map (λ a. is_some a) xs ≡ map (λ a. is_some a) ys)
  unfolding Per.normally_few
  bitmap_alike al xs ys = agree_map free (λ h. flags_equal xs ys h) (agree_varied free (λ s t. few_cases al xs ys s t))

  -- ---- enumerations
  presence_bits_alike : (e : Bool) (a : Bool) → Alike free (Per.extension_bit_of e a) (Per.extension_bit_of e a) (Unit {0})
  presence_bits_alike false a = agree_nothing free
  presence_bits_alike true a = agree_map free (λ e. tt) (agree_exactly free (a ∷ []) (a ∷ []) refl)

  pub behind_extension_bit : (e : Bool) (a : Bool) (x y : Per.BitForm) (P : Type 0) → Alike free x y P → Alike free (both (Per.extension_bit_of e a) x) (both (Per.extension_bit_of e a) y) P
  behind_extension_bit e a x y P h = agree_map free (λ q. q.1) (agree_both free (presence_bits_alike e a) (λ u. h))

  pub root_or_added : (x y : Per.BitForm) (P : Type 0) → Alike free (both (exactly (false ∷ [])) x) (both (exactly (true ∷ [])) y) P
  root_or_added x y P = agree_both_apart free (bits_apart' free)

  pub added_or_root : (x y : Per.BitForm) (P : Type 0) → Alike free (both (exactly (true ∷ [])) x) (both (exactly (false ∷ [])) y) P
  added_or_root x y P = agree_both_apart free (bits_apart free)

  abbrev Place : List ℤ → ℤ → Option ℕ → Type 0
  Place ds v o = item_place v ds ≡ o

  item_cases : (al : Bool) (roots adds : List ℤ) (v w : ℤ) (e : Bool) (i j k l : Option ℕ) → Place roots v i → Place adds v j →
      Place roots w k → Place adds w l → Alike free (Per.item_form al (length roots) e i j) (Per.item_form al (length roots) e k l) (v ≡ w)
  unfolding Per.item_form
  item_cases al roots adds v w e (Some i) j (Some k) l p q r s =
      agree_map free (λ h. items_equal roots v w i p (r ∙ ap Some (sym h))) (behind_extension_bit e false _ _ _ (constrained_alike free al (length roots - 1) i k))
  item_cases al roots adds v w false (Some i) j None l p q r s = agree_with_refused free _ _
  item_cases al roots adds v w true (Some i) j None None p q r s = agree_with_refused free _ _
  item_cases al roots adds v w true (Some i) j None (Some l) p q r s = root_or_added _ _ _
  item_cases al roots adds v w false None j k l p q r s = agree_refused free _ _
  item_cases al roots adds v w true None None k l p q r s = agree_refused free _ _
  item_cases al roots adds v w true None (Some j) (Some k) l p q r s = added_or_root _ _ _
  item_cases al roots adds v w true None (Some j) None None p q r s = agree_with_refused free _ _
  item_cases al roots adds v w true None (Some j) None (Some l) p q r s =
      agree_map free (λ u. items_equal adds v w j q (s ∙ ap Some (sym u.1))) (agree_both free (agree_exactly free _ _ refl) (λ u. small_alike al j l))

  pub items_alike : (al : Bool) (roots adds : List ℤ) (e : Bool) (v w : ℤ) →
      Alike free (Per.item_form al (length roots) e (item_place v roots) (item_place v adds)) (Per.item_form al (length roots) e (item_place w roots) (item_place w adds)) (v ≡ w)
  items_alike al roots adds e v w = item_cases al roots adds v w e _ _ _ _ refl refl refl refl

-- ---- open types
module _ (free : Per.Freedom → Bool) where
  padding_long : (n p : ℕ) (a : List Bool) → Reads free (Per.padding n) p a → length a ≡ n
  unfolding Per.padding Reads
  padding_long n p a r = go (length r.0 == n) refl r.2
    where
      go : (t : Bool) → (length r.0 == n) ≡ t → Reads free (only_if {F = Per.Freedom} {D = Per.Detail} t (exactly r.0)) p a → length a ≡ n
      go true e h = ap length (sym h) ∙ eqb-true _ _ e
      go false e h = absurd h

  padded_whole : (w a : List Bool) (p : ℕ) → Reads free (Per.padded w) p a → (k : ℕ) × (length a ≡ 8 * k)
  unfolding Per.padded Reads
  padded_whole [] a p r = (1, ap length (sym r))
  padded_whole (b ∷ w) a p r =
      let n = length (b ∷ w) in
      let f : length r.1 ≡ missing (length (b ∷ w)) = padding_long (missing (length (b ∷ w))) (p + length r.0) r.1 r.3 in
      let h : length r.0 ≡ length (b ∷ w) = ap length (sym r.2) in
      let l : length a ≡ length r.0 + length r.1 = ap length (sym r.4) ∙ length-append r.0 r.1 in
      ((length (b ∷ w) + 7) / 8, whole (length a) (length (b ∷ w)) (l ∙ ap (λ x. x + length r.1) h ∙ ap (λ x. length (b ∷ w) + x) f))
    where
      whole : (m n : ℕ) → m ≡ n + missing n → m ≡ 8 * ((n + 7) / 8)
      whole m n e = omega arith

  pub complete_whole : (x : Per.BitForm) (a : List Bool) (p : ℕ) → Reads free (Per.complete x) p a → (k : ℕ) × (length a ≡ 8 * k)
  unfolding Per.complete Reads
  complete_whole x a p r = padded_whole r.0 a p r.2

  eights_alike : (al : Bool) (v w : List Bool) (k j : ℕ) → length v ≡ 8 * k → length w ≡ 8 * j →
      Alike free (Per.counted al (map (λ o. exactly o) (by_eights v))) (Per.counted al (map (λ o. exactly o) (by_eights w))) (v ≡ w)
  eights_alike al v w k j h i =
      let e : map (λ o. exactly o) (by_eights v) ≡ Per.octet_units (packed v) = eights_units k v h in
      let f : map (λ o. exactly o) (by_eights w) ≡ Per.octet_units (packed w) = eights_units j w i in
      let P : List Per.BitForm → List Per.BitForm → Type 0 = λ us vs. Alike free (Per.counted al us) (Per.counted al vs) (v ≡ w) in
      let back : packed v ≡ packed w → v ≡ w = λ q. sym (packed_back k v h) ∙ ap octet_bits q ∙ packed_back j w i in
      let base : P (Per.octet_units (packed v)) (Per.octet_units (packed w)) =
      agree_map free (λ q. back (octets_again _ _ (packed_octets k v h) (packed_octets j w i) q)) (octet_units_alike free al (packed v) (packed w)) in
      subst (λ us. P us (map (λ o. exactly o) (by_eights w))) (sym e) (subst (λ vs. P (Per.octet_units (packed v)) vs) (sym f) base)

  octets_long : (os : List ℕ) → length (flat_map (binary 8) os) ≡ 8 * length os
  octets_long [] = refl
  octets_long (o ∷ os) = let i = octets_long os in length-append (binary 8 o) (flat_map (binary 8) os) ∙ omega arith

  pub joined_long : (v : List Bool) (more : List ℕ) (k : ℕ) → length v ≡ 8 * k → length (v ++ flat_map (binary 8) more) ≡ 8 * (k + length more)
  joined_long v more k h = let a = octets_long more in length-append v (flat_map (binary 8) more) ∙ omega arith

  pub when_read : (t : Bool) (x : Per.BitForm) (p : ℕ) (a : List Bool) → Reads free (only_if t x) p a → Reads free x p a
  unfolding Reads
  when_read true x p a r = r
  when_read false x p a r = absurd r

  pub open_alike : (al : Bool) (x y : Per.BitForm) (P : Type 0) → Alike free x y P → Alike free (Per.open_type al x) (Per.open_type al y) P
  unfolding Per.open_type Reads
  open_alike al x y P h = record {
    fronts = λ p a b r s f g e.
        let c = complete_whole x f.0 0 f.1 in
        let d = complete_whole y g.0 0 g.1 in
        let m : List ℕ = f.2.0 in
        let n : List ℕ = g.2.0 in
        let i = when_read (list_all is_octet m) _ p a f.2.2 in
        let j = when_read (list_all is_octet n) _ p b g.2.2 in
        let q = (eights_alike al (f.0 ++ flat_map (binary 8) m) (g.0 ++ flat_map (binary 8) n) _ _ (joined_long f.0 m c.0 c.1) (joined_long g.0 n d.0 d.1)).fronts p a b r s i j e in
        let u = (complete_alike free x y P h).fronts 0 f.0 g.0 (flat_map (binary 8) m) (flat_map (binary 8) n) f.1 g.1 q.1 in
        (q.0, u.1);
  }
