-- Equality of SET OF values, by the counts of equal elements.
use Rattle.std.proofs.Common.{◌≡◌, ◌∙◌, refl, sym, ap, ℕ, zero, suc, ◌+◌, ◌<◌, ◌==◌, max, Bool, true, false, ◌&&◌, ◌||◌, arith, List, [], ◌∷◌, length, map, ◌⊎◌, inl, inr, not, is_some, Option, Some, None}
use Rattle.std.proofs.lemmas.Bool.{and_parts, and_from, eqb-true, eq-eqb}
use Rattle.std.proofs.Math.Bool.{and-false}
use Rattle.asn1_model.specs.Value.{members, bag, fields, chosen, same_truth}
use Rattle.asn1_model.specs.Value.{Value, Values, no_more, member, values_of, are_all, same, same_bag, same_members, same_parts, Parts, end, depth, depth_of_members}
use Rattle.asn1_laws_values.proofs.Bags.{counted_same}
use Rattle.asn1_laws_values.proofs.Counts.{count, one_if, both_true, counts_alike}
use Rattle.asn1_laws_values.proofs.Same.{same_self, same_turned, same_chained, below}
use Rattle.asn1_table_nodes.specs.Sameness.{is_among, are_among, is_same_part}
use Rattle.asn1_table_nodes.specs.Values.{part_of, parts_of, value_of}
use Rattle.asn1_table_nodes.specs.declared.events.DefaultValue.{DefaultValue}
use Rattle.asn1_table_nodes.proofs.Values.{with_part}

-- of each of some elements there are as many in one as in the other
abbrev pub counts_agree : Values → Values → Values → Bool
counts_agree us vs ws = are_all (λ u. count (λ x. same u x) vs == count (λ x. same u x) ws) us

or_right : (a b : Bool) → b ≡ true → (a || b) ≡ true
or_right true b h = refl
or_right false b h = h

-- equal values have equal counts
alike : (t u : Value) → same t u ≡ true → (x : Value) → same t x ≡ same u x
alike t u e x = both_true (same t x) (same u x) (λ h. same_chained u t x (same_turned t u e) h) (λ h. same_chained t u x e h)

count_alike : (t u : Value) → same t u ≡ true → (xs : Values) → count (λ x. same t x) xs ≡ count (λ x. same u x) xs
count_alike t u e no_more = refl
count_alike t u e (member x xs) =
    let a : one_if (same t x) ≡ one_if (same u x) = ap one_if (alike t u e x) in
    let b = count_alike t u e xs in
    omega (arith, a, b)

-- one that is counted is found
found : (f test : Value → Bool) (vs : Values) → 0 < count f vs → are_all test vs ≡ true → (u : Value) × (f u ≡ true) × (test u ≡ true)
found f test no_more h e = absurd (omega (arith, h))
found f test (member v vs) h e = go (f v) refl h (λ k. found f test vs k (and_parts (test v) (are_all test vs) e).1)
  where
    go : (b : Bool) → f v ≡ b → 0 < one_if b + count f vs → (0 < count f vs → (u : Value) × (f u ≡ true) × (test u ≡ true)) → (u : Value) × (f u ≡ true) × (test u ≡ true)
    go true q k j = (v, q, (and_parts (test v) (are_all test vs) e).0)
    go false q k j = j (omega (arith, k))

among_counts : (t w : Value) (vs : Values) → same t w ≡ true → is_among vs w ≡ true → 0 < count (λ x. same t x) vs
among_counts t w no_more e h = absurd (let z : false ≡ true = h in cc)
among_counts t w (member v vs) e h = go (same v w) refl h (λ k. among_counts t w vs e k)
  where
    go : (b : Bool) → same v w ≡ b → (b || is_among vs w) ≡ true → (is_among vs w ≡ true → 0 < count (λ x. same t x) vs) → 0 < one_if (same t v) + count (λ x. same t x) vs
    go true q k j = let a : one_if (same t v) ≡ 1 = ap one_if (same_chained t w v e (same_turned v w q)) in omega (arith, a)
    go false q k j = let a = j k in omega (arith, a)

counted_among : (w : Value) (vs : Values) → 0 < count (λ x. same w x) vs → is_among vs w ≡ true
counted_among w no_more h = absurd (omega (arith, h))
counted_among w (member v vs) h = go (same w v) refl h (λ k. counted_among w vs k)
  where
    go : (b : Bool) → same w v ≡ b → 0 < one_if b + count (λ x. same w x) vs → (0 < count (λ x. same w x) vs → is_among vs w ≡ true) → (same v w || is_among vs w) ≡ true
    go true q k j = ap (λ c. c || is_among vs w) (same_turned w v q)
    go false q k j = or_right (same v w) (is_among vs w) (j (omega (arith, k)))

-- counts that agree are the same for each value
covered : (vs ws : Values) → counts_agree vs vs ws ≡ true → are_among vs ws ≡ true → (t : Value) → count (λ x. same t x) vs ≡ count (λ x. same t x) ws
covered vs ws e h t = go (count (λ x. same t x) vs) (count (λ x. same t x) ws) refl refl
  where
    go : (n m : ℕ) → count (λ x. same t x) vs ≡ n → count (λ x. same t x) ws ≡ m → n ≡ m
    go zero zero p q = refl
    go zero (suc m) p q =
        let u = found (λ x. same t x) (λ w. is_among vs w) ws (omega (arith, q)) h in
        let k = among_counts t u.0 vs u.1 u.2 in
        absurd (omega (arith, p, k))
    go (suc n) m p q =
        let u = found (λ x. same t x) (λ v. count (λ x. same v x) vs == count (λ x. same v x) ws) vs (omega (arith, p)) e in
        let a = count_alike t u.0 u.1 vs in
        let b = count_alike t u.0 u.1 ws in
        let c = eqb-true (count (λ x. same u.0 x) vs) (count (λ x. same u.0 x) ws) u.2 in
        omega (arith, p, q, a, b, c)

bag_counts : (vs ws : Values) → same_bag vs ws ≡ true → (t : Value) → count (λ x. same t x) vs ≡ count (λ x. same t x) ws
bag_counts vs ws e t =
    let n = max (depth_of_members vs) (max (depth_of_members ws) (depth t)) + 1 in
    counts_alike n (below n) same_self vs ws (omega arith) (omega arith) e t (omega arith)

all_true : (test : Value → Bool) (vs : Values) → ((v : Value) → test v ≡ true) → are_all test vs ≡ true
all_true test no_more h = refl
all_true test (member v vs) h = and_from _ _ (h v) (all_true test vs h)

all_counted : (test : Value → Bool) (us : Values) → ((w : Value) → 0 < count (λ x. same w x) us → test w ≡ true) → are_all test us ≡ true
all_counted test no_more h = refl
all_counted test (member u us) h =
    let a : one_if (same u u) ≡ 1 = ap one_if (same_self u) in
    and_from _ _ (h u (omega (arith, a))) (all_counted test us (λ w k. h w (omega (arith, k))))

agreed : (vs ws : Values) → same_bag vs ws ≡ true → counts_agree vs vs ws ≡ true
agreed vs ws e = all_true _ vs (λ v. eq-eqb _ _ (bag_counts vs ws e v))

pub matched : (vs ws : Values) → same_bag vs ws ≡ true → are_among vs ws ≡ true
matched vs ws e = all_counted (λ w. is_among vs w) ws (λ w k. counted_among w vs (let a = bag_counts vs ws e w in omega (arith, a, k)))

pub bag_is : (vs ws : Values) → counts_agree vs vs ws ≡ true → are_among vs ws ≡ same_bag vs ws
bag_is vs ws e = both_true (are_among vs ws) (same_bag vs ws) (λ h. counted_same vs ws (covered vs ws e h)) (λ h. matched vs ws h)

pub no_bag : (vs ws : Values) → counts_agree vs vs ws ≡ false → same_bag vs ws ≡ false
no_bag vs ws e = go (same_bag vs ws) refl
  where
    go : (b : Bool) → same_bag vs ws ≡ b → b ≡ false
    go false q = refl
    go true q = sym (agreed vs ws q) ∙ e

-- ---- one by one

values_apart : (vs ws : List Value) → (length vs ≡ length ws → ⊥) → same_members (values_of vs) (values_of ws) ≡ false
unfolding same_members
values_apart [] [] n = absurd (n refl)
values_apart [] (w ∷ ws) n = refl
values_apart (v ∷ vs) [] n = refl
values_apart (v ∷ vs) (w ∷ ws) n = ap (λ b. same v w && b) (values_apart vs ws (λ e. n (ap suc e))) ∙ and-false (same v w)

parts_differ : (os us : List (Option Value)) → (length os ≡ length us → ⊥) → same_parts (parts_of os) (parts_of us) ≡ false
unfolding same_parts
parts_differ [] [] n = absurd (n refl)
parts_differ [] (None ∷ us) n = refl
parts_differ [] (Some w ∷ us) n = refl
parts_differ (None ∷ os) [] n = refl
parts_differ (Some v ∷ os) [] n = refl
parts_differ (None ∷ os) (None ∷ us) n = parts_differ os us (λ e. n (ap suc e))
parts_differ (None ∷ os) (Some w ∷ us) n = refl
parts_differ (Some v ∷ os) (None ∷ us) n = refl
parts_differ (Some v ∷ os) (Some w ∷ us) n = ap (λ b. same v w && b) (parts_differ os us (λ e. n (ap suc e))) ∙ and-false (same v w)

count_of : {A B : Type 0} (f : A → B) (xs : List A) → length (map f xs) ≡ length xs
count_of f [] = refl
count_of f (x ∷ xs) = ap suc (count_of f xs)

pub lengths_apart : (us vs : List DefaultValue) → (length us ≡ length vs → ⊥) → same_members (values_of (map value_of us)) (values_of (map value_of vs)) ≡ false
lengths_apart us vs n = values_apart (map value_of us) (map value_of vs) (λ e. n (sym (count_of value_of us) ∙ e ∙ count_of value_of vs))

pub parts_apart : (us vs : List (Option DefaultValue)) → (length us ≡ length vs → ⊥) → same_parts (parts_of (map part_of us)) (parts_of (map part_of vs)) ≡ false
parts_apart us vs n = parts_differ (map part_of us) (map part_of vs) (λ e. n (sym (count_of part_of us) ∙ e ∙ count_of part_of vs))

members_step : (v w : Value) (vs ws : Values) → same_members (member v vs) (member w ws) ≡ (same v w && same_members vs ws)
unfolding same_members
members_step v w vs ws = refl

parts_step : (o u : Option Value) (ps qs : Parts) → same_parts (with_part o ps) (with_part u qs) ≡ (is_same_part o u && same_parts ps qs)
unfolding same_parts
parts_step None None ps qs = refl
parts_step None (Some w) ps qs = refl
parts_step (Some v) None ps qs = refl
parts_step (Some v) (Some w) ps qs = refl

members_over : same_members no_more no_more ≡ true
unfolding same_members
members_over = refl

parts_over : same_parts end end ≡ true
unfolding same_parts
parts_over = refl

-- ---- of each kind

pub both_are : (d e : DefaultValue) (v w : Value) → value_of d ≡ v → value_of e ≡ w → same (value_of d) (value_of e) ≡ same v w
both_are d e v w p q = ap (λ x. same x (value_of e)) p ∙ ap (λ x. same v x) q

pub lists_same : (vs ws : Values) → same (members vs) (members ws) ≡ same_members vs ws
unfolding same
lists_same vs ws = refl

pub bags_same : (vs ws : Values) → same (bag vs) (bag ws) ≡ same_bag vs ws
unfolding same
bags_same vs ws = refl

pub fields_same : (ps qs rs ss : Parts) → same (fields ps qs) (fields rs ss) ≡ (same_parts ps rs && same_parts qs ss)
unfolding same
fields_same ps qs rs ss = refl

pub choices_same : (a b : Bool) (i j : ℕ) (v w : Value) → same (chosen a i v) (chosen b j w) ≡ (same_truth a b && (i == j) && same v w)
unfolding same
choices_same a b i j v w = refl

pub unequal_eqb : (a b : ℕ) → (a ≡ b → ⊥) → (a == b) ≡ false
unequal_eqb a b n = go (a == b) refl
  where
    go : (x : Bool) → (a == b) ≡ x → x ≡ false
    go true q = absurd (n (eqb-true a b q))
    go false q = refl

-- ---- steps along lists

-- of a walk over both
pub members_next : (d e : DefaultValue) (ds es us vs : List DefaultValue) (b : Bool) → us ≡ d ∷ ds → vs ≡ e ∷ es → b ≡ same (value_of d) (value_of e) →
    same_members (values_of (map value_of us)) (values_of (map value_of vs)) ≡ (b && same_members (values_of (map value_of ds)) (values_of (map value_of es)))
members_next d e ds es us vs b p q k =
    ap (λ xs. same_members (values_of (map value_of xs)) (values_of (map value_of vs))) p ∙ ap (λ ys. same_members (values_of (map value_of (d ∷ ds))) (values_of (map value_of ys))) q
    ∙ members_step (value_of d) (value_of e) (values_of (map value_of ds)) (values_of (map value_of es))
    ∙ ap (λ x. x && same_members (values_of (map value_of ds)) (values_of (map value_of es))) (sym k)

with_parts : (o : Option DefaultValue) (os : List (Option DefaultValue)) → parts_of (map part_of (o ∷ os)) ≡ with_part (part_of o) (parts_of (map part_of os))
with_parts None os = refl
with_parts (Some d) os = refl

pub parts_next : (o u : Option DefaultValue) (os us xs ys : List (Option DefaultValue)) (b : Bool) → xs ≡ o ∷ os → ys ≡ u ∷ us → b ≡ is_same_part (part_of o) (part_of u) →
    same_parts (parts_of (map part_of xs)) (parts_of (map part_of ys)) ≡ (b && same_parts (parts_of (map part_of os)) (parts_of (map part_of us)))
parts_next o u os us xs ys b p q k =
    ap (λ zs. same_parts (parts_of (map part_of zs)) (parts_of (map part_of ys))) p ∙ ap (λ zs. same_parts (parts_of (map part_of (o ∷ os))) (parts_of (map part_of zs))) q
    ∙ ap (λ z. same_parts z (parts_of (map part_of (u ∷ us)))) (with_parts o os) ∙ ap (λ z. same_parts (with_part (part_of o) (parts_of (map part_of os))) z) (with_parts u us)
    ∙ parts_step (part_of o) (part_of u) (parts_of (map part_of os)) (parts_of (map part_of us))
    ∙ ap (λ x. x && same_parts (parts_of (map part_of os)) (parts_of (map part_of us))) (sym k)

pub lists_over : (us vs : List DefaultValue) → length us ≡ length vs → (length us ≡ 0) ⊎ (length vs ≡ 0) → same_members (values_of (map value_of us)) (values_of (map value_of vs)) ≡ true
lists_over [] [] n h = members_over
lists_over [] (v ∷ vs) n h = absurd (omega (arith, n))
lists_over (u ∷ us) vs n (inl h) = absurd (omega (arith, h))
lists_over (u ∷ us) vs n (inr h) = absurd (omega (arith, n, h))

pub all_over : (xs ys : List (Option DefaultValue)) → length xs ≡ length ys → (length xs ≡ 0) ⊎ (length ys ≡ 0) → same_parts (parts_of (map part_of xs)) (parts_of (map part_of ys)) ≡ true
all_over [] [] n h = parts_over
all_over [] (y ∷ ys) n h = absurd (omega (arith, n))
all_over (x ∷ xs) ys n (inl h) = absurd (omega (arith, h))
all_over (x ∷ xs) ys n (inr h) = absurd (omega (arith, n, h))

pub none_same : (u : Option DefaultValue) (b : Bool) → is_some u ≡ not b → b ≡ is_same_part None (part_of u)
none_same None true e = refl
none_same None false e = cc
none_same (Some d) true e = cc
none_same (Some d) false e = refl
