-- The indices of tags and of items in tables.
use Rattle.std.proofs.Common.{◌≡◌, ℕ, zero, suc, ◌+◌, ◌-◌, ◌^◌, ◌<◌, ltb, ℤ, pos, negsuc, ◌-ℤ◌, Bool, true, false, cond}
use Rattle.std.proofs.Common.{List, [], ◌∷◌, ◌++◌, length, map, take, get_or, Option, Some, None, option_map, refl, ap}
use Rattle.std.proofs.Common.{sym, ◌∙◌, arith}
use Rattle.std.proofs.lemmas.List.{take_more, map-append}
use Rattle.std.proofs.lemmas.Bool.{and_parts, eqb-true, lt-ltb, lt-leb}
use Rattle.std.proofs.Common.{w64, to_z, of_z}
use Rattle.std.proofs.lemmas.Int.{ints, to_z-of_z}
use Rattle.asn1_model.specs.Lawful.{tag_same}
use Rattle.asn1_model.specs.Numbers.{is_within}
use Rattle.asn1_values_natives.specs.Octets.{plain, signed_number, unsigned_number}
use Rattle.asn1_values_natives.specs.Ranges.{whole_range}
use Rattle.asn1_values_natives.proofs.RangeLaws.{at_most}
use Rattle.oer_codec_reading.proofs.Freedoms.{and_true}
use Rattle.asn1_model.specs.Schema.{Tag}
use Rattle.asn1_model.specs.Normal.{item_index}
use Rattle.asn1_model.specs.Value.{same_number}
use Rattle.std.specs.List.{list_all}
use Rattle.oer_codec_laws.specs.Takes.{tag_place}
use Rattle.oer_codec_laws.proofs.Next.{same_tag}
use Rattle.oer_codec_reading.specs.Tags.{is_in_32_bits}
use Rattle.oer_codec_reading.specs.Items.{native_of}

-- nothing is found
none_first : (b : Bool) (o : Option ℕ) → cond b (Some zero) (option_map suc o) ≡ None → (b ≡ false) × (o ≡ None)
none_first true o e = cc e
none_first false None e = (refl, refl)
none_first false (Some i) e = cc e

-- ---- items
item_none : (v : ℤ) (ds : List ℤ) (d : ℤ) → item_index v ds ≡ None → same_number v d ≡ false → item_index v (ds ++ d ∷ []) ≡ None
item_none v [] d e f = ap (λ b. cond b (Some zero) None) f
item_none v (c ∷ ds) d e f =
    let p = none_first (same_number v c) (item_index v ds) e in
    ap (λ b. cond b (Some zero) (option_map suc (item_index v (ds ++ d ∷ [])))) p.0 ∙ ap (option_map suc) (item_none v ds d p.1 f)

pub items_more : {X : Type 0} (f : X → ℤ) (v : ℤ) (xs : List X) (i : ℕ) (x : X) → i < length xs → x ≡ get_or xs i x →
    item_index v (map f (take i xs)) ≡ None → same_number v (f x) ≡ false → item_index v (map f (take (i + 1) xs)) ≡ None
items_more f v xs i x l e g h =
    ap (λ ys. item_index v (map f ys)) (take_more xs i x l)
    ∙ ap (λ y. item_index v (map f (take i xs ++ y ∷ []))) (sym e)
    ∙ ap (item_index v) (map-append f (take i xs) (x ∷ []))
    ∙ item_none v (map f (take i xs)) (f x) g h

same_numbers : (v w : ℤ) → same_number v w ≡ true → v ≡ w
same_numbers (pos a) (pos b) e = ap pos (eqb-true a b e)
same_numbers (negsuc a) (negsuc b) e = ap negsuc (eqb-true a b e)
same_numbers (pos a) (negsuc b) e = cc e
same_numbers (negsuc a) (pos b) e = cc e

-- what fits in 64 bits is native
in_native : (d : ℤ) → plain d < 2 ^ 63 → is_within (whole_range (2 ^ 63 - 1)) d ≡ true
in_native (pos n) l = and_true _ _ (at_most (negsuc (2 ^ 63 - 1)) (pos n) (omega (arith, ints))) (at_most (pos n) (pos (2 ^ 63 - 1)) (omega (arith, ints, l)))
in_native (negsuc n) l = and_true _ _ (at_most (negsuc (2 ^ 63 - 1)) (negsuc n) (omega (arith, ints, l))) (at_most (negsuc n) (pos (2 ^ 63 - 1)) (omega (arith, ints)))

pub another_number : (v d : ℤ) (n : Option ℤ) → n ≡ native_of v → plain d < 2 ^ 63 → (n ≡ Some (to_z w64 (of_z w64 d)) → ⊥) → same_number v d ≡ false
another_number v d n e l none = go (same_number v d) refl
  where
    go : (t : Bool) → same_number v d ≡ t → t ≡ false
    go false f = refl
    go true f =
        let q : v ≡ d = same_numbers v d f in
        let r : native_of v ≡ Some v = ap (λ b. cond b (Some v) None) (ap (is_within (whole_range (2 ^ 63 - 1))) q ∙ in_native d l) in
        absurd (none (e ∙ r ∙ ap Some (q ∙ sym (to_z-of_z w64 d (record { sfits = l })))))

-- a single octet below 128
pub small_item : (os : List ℕ) → length os ≡ 1 → get_or os 0 0 < 128 → Some (pos (get_or os 0 0)) ≡ native_of (signed_number os)
small_item [] h l = absurd (omega arith)
small_item (o ∷ []) h l =
    let same : signed_number (o ∷ []) ≡ pos o = ap (λ b. pos (unsigned_number (o ∷ [])) -ℤ pos (cond b 256 0)) (lt-leb 128 o l) ∙ (omega (arith, ints)) in
    sym (ap native_of same ∙ ap (λ b. cond b (Some (pos o)) None) (in_native (pos o) (omega arith)))
small_item (o ∷ p ∷ os) h l = absurd (omega arith)

-- ---- numbers of 32 bits
each_more : (us : List Tag) (u : Tag) → list_all is_in_32_bits us ≡ true → is_in_32_bits u ≡ true → list_all is_in_32_bits (us ++ u ∷ []) ≡ true
each_more [] u e f = and_true _ _ f refl
each_more (v ∷ us) u e f = let p = and_parts (is_in_32_bits v) (list_all is_in_32_bits us) e in and_true _ _ p.0 (each_more us u p.1 f)

pub numbers_more : {X : Type 0} (f : X → Tag) (xs : List X) (i : ℕ) (d : X) (n : ℕ) → i < length xs → n ≡ (f (get_or xs i d)).number → n < 2 ^ 32 →
    list_all is_in_32_bits (map f (take i xs)) ≡ true → list_all is_in_32_bits (map f (take (i + 1) xs)) ≡ true
numbers_more f xs i d n l e s g =
    ap (λ ys. list_all is_in_32_bits (map f ys)) (take_more xs i d l)
    ∙ ap (list_all is_in_32_bits) (map-append f (take i xs) (get_or xs i d ∷ []))
    ∙ each_more (map f (take i xs)) (f (get_or xs i d)) g (ap (λ k. ltb k (2 ^ 32)) (sym e) ∙ lt-ltb n (2 ^ 32) s)

-- a tag that has an index in a table is one of its tags
pub place_fits : (t : Tag) (us : List Tag) (i : ℕ) → list_all is_in_32_bits us ≡ true → tag_place t us ≡ Some i → is_in_32_bits t ≡ true
place_fits t [] i a e = cc e
place_fits t (u ∷ us) i a e = go (tag_same t u) refl (tag_place t us) refl (λ j f. place_fits t us j ((and_parts (is_in_32_bits u) (list_all is_in_32_bits us) a).1) f)
  where
    go : (b : Bool) → tag_same t u ≡ b → (o : Option ℕ) → tag_place t us ≡ o → ((j : ℕ) → tag_place t us ≡ Some j → is_in_32_bits t ≡ true) → is_in_32_bits t ≡ true
    go true b o f further = ap is_in_32_bits (same_tag t u b) ∙ (and_parts (is_in_32_bits u) (list_all is_in_32_bits us) a).0
    go false b None f further = let g : None ≡ Some i = sym (ap (λ c. cond c (Some zero) (option_map suc (tag_place t us))) b ∙ ap (option_map suc) f) ∙ e in cc g
    go false b (Some j) f further = further j f

-- and its index is one of the table's
pub place_below : (t : Tag) (us : List Tag) (i : ℕ) → tag_place t us ≡ Some i → i < length us
place_below t [] i e = cc e
place_below t (u ∷ us) i e = go (tag_same t u) refl (tag_place t us) refl (λ j f. place_below t us j f)
  where
    go : (b : Bool) → tag_same t u ≡ b → (o : Option ℕ) → tag_place t us ≡ o → ((j : ℕ) → tag_place t us ≡ Some j → j < length us) → i < suc (length us)
    go true b o f further =
        let g : Some zero ≡ Some i = sym (ap (λ c. cond c (Some zero) (option_map suc (tag_place t us))) b) ∙ e in
        let h : zero ≡ i = cc g in
        omega (arith, h)
    go false b None f further = let g : None ≡ Some i = sym (ap (λ c. cond c (Some zero) (option_map suc (tag_place t us))) b ∙ ap (option_map suc) f) ∙ e in cc g
    go false b (Some j) f further =
        let g : Some (suc j) ≡ Some i = sym (ap (λ c. cond c (Some zero) (option_map suc (tag_place t us))) b ∙ ap (option_map suc) f) ∙ e in
        let h : suc j ≡ i = cc g in
        let l = further j f in
        omega (arith, h, l)
