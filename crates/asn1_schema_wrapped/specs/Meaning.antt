-- SET OF values are equal exactly if what they mean is.
use Rattle.std.proofs.Common.{◌≡◌, ℕ, suc, Bool, true, false, cond, List, [], ◌∷◌, length, Option, Some, None}
use Rattle.std.proofs.Common.{option_map, refl, sym, ap, ◌∙◌, arith}
use Rattle.std.specs.Prelude.{not}
use Rattle.std.specs.Cmp.{IsPartialEquivalence, per_alike}
use Rattle.asn1_model.specs.Value.{Value, bag, member, same, same_bag, taken_out}
use Rattle.asn1_schema_laws.specs.Parts.{values_of}
use Rattle.asn1_schema_laws.proofs.Same.{same_self}
use Rattle.asn1_schema_wrapped.specs.Equality.{times, same_items, same_length, all_alike, same_by_counts}
use Rattle.std.specs.Option.{option_map_or}

-- A list without the first element that is equal to this one, if there is one.
abbrev pub without : {A : Type 0} → (A → A → Bool) → A → List A → Option (List A)
without e x [] = None
without e x (y ∷ ys) = cond (e x y) (Some ys) (option_map (λ zs. y ∷ zs) (without e x ys))

both_ways : (a b : Bool) → (a ≡ true → b ≡ true) → (b ≡ true → a ≡ true) → a ≡ b
both_ways true b f g = sym (f refl)
both_ways false true f g = g refl
both_ways false false f g = refl

taken_one : {A : Type 0} (f : A → Value) (y : A) (ys : List A) (b : Bool) (o : Option (List A))
    → cond b (Some (values_of f ys)) (option_map (λ ws. member (f y) ws) (option_map (λ zs. values_of f zs) o))
    ≡ option_map (λ zs. values_of f zs) (cond b (Some ys) (option_map (λ zs. y ∷ zs) o))
taken_one f y ys true o = refl
taken_one f y ys false None = refl
taken_one f y ys false (Some zs) = refl

module _ {A : Type 0} {e : A → A → Bool} (f : A → Value) (h : (x y : A) → e x y ≡ same (f x) (f y)) where
  taken_as : (x : A) (ys : List A) → taken_out (λ w. same (f x) w) (values_of f ys)
      ≡ option_map (λ zs. values_of f zs) (without e x ys)
  taken_as x [] = refl
  taken_as x (y ∷ ys) = rw (sym (h x y), taken_as x ys) (taken_one f y ys (e x y) (without e x ys))

-- what is left if one is taken out
add_once : (b c : Bool) (k : ℕ) → cond b (suc (cond c (suc k) k)) (cond c (suc k) k)
    ≡ cond c (suc (cond b (suc k) k)) (cond b (suc k) k)
add_once true true k = refl
add_once true false k = refl
add_once false true k = refl
add_once false false k = refl

pub taken_off : (b : Bool) (j k : ℕ) → cond b (suc j) j ≡ cond b (suc k) k → j ≡ k
taken_off true j k q = omega (arith, q)
taken_off false j k q = q

unturned : (b : Bool) → not b ≡ false → b ≡ true
unturned true q = refl
unturned false q = absurd (let k : true ≡ false = q in cc)

module _ {A : Type 0} {e : A → A → Bool} (p : IsPartialEquivalence e) where
  pub left_counts : (x : A) (ys zs : List A) → without e x ys ≡ Some zs → (length ys ≡ suc (length zs))
      × ((w : A) → times e w ys ≡ cond (e w x) (suc (times e w zs)) (times e w zs))
  left_counts x [] zs q = absurd (let k : None ≡ Some zs = q in cc)
  left_counts x (y ∷ ys) zs q =
      let step : (b : Bool) (o : Option (List A)) → e x y ≡ b → without e x ys ≡ o
      → cond b (Some ys) (option_map (λ us. y ∷ us) o) ≡ Some zs → (suc (length ys) ≡ suc (length zs))
      × ((w : A) → times e w (y ∷ ys) ≡ cond (e w x) (suc (times e w zs)) (times e w zs)) =
      λ b o. elim b as (λ b. e x y ≡ b → without e x ys ≡ o → cond b (Some ys) (option_map (λ us. y ∷ us) o) ≡ Some zs
      → (suc (length ys) ≡ suc (length zs)) × ((w : A) → times e w (y ∷ ys)
      ≡ cond (e w x) (suc (times e w zs)) (times e w zs))) [
        | true ↦ λ i j k.
            let l : ys ≡ zs = cc k in (
              ap (λ us. suc (length us)) l,
              λ w. let m : e w y ≡ e w x = p.symm w y ∙ sym (per_alike p x y w i)
                  ∙ p.symm x w in rw (m, l) refl,
            )
        | false ↦ elim o as (λ o. e x y ≡ false → without e x ys ≡ o → option_map (λ us. y ∷ us) o ≡ Some zs
            → (suc (length ys) ≡ suc (length zs)) × ((w : A) → times e w (y ∷ ys)
            ≡ cond (e w x) (suc (times e w zs)) (times e w zs))) [
              | None ↦ λ i j k. absurd (let l : None ≡ Some zs = k in cc)
              | Some us ↦ λ i j k.
                  let l : y ∷ us ≡ zs = cc k in
                  let r = left_counts x ys us j in (
                    ap suc r.0 ∙ ap (λ vs. suc (length vs)) l,
                    λ w. rw (sym l, r.1 w)
                        (add_once (e w y) (e w x) (times e w us)),
                  )
            ]
      ] in
      step (e x y) (without e x ys) refl refl q

  pub none_left : (x : A) (ys : List A) → without e x ys ≡ None → times e x ys ≡ 0
  none_left x [] q = refl
  none_left x (y ∷ ys) q =
      let step : (b : Bool) (o : Option (List A)) → without e x ys ≡ o
      → cond b (Some ys) (option_map (λ us. y ∷ us) o) ≡ None → cond b (suc (times e x ys)) (times e x ys) ≡ 0 =
      λ b o. elim b as (λ b. without e x ys ≡ o → cond b (Some ys) (option_map (λ us. y ∷ us) o) ≡ None
      → cond b (suc (times e x ys)) (times e x ys) ≡ 0) [
        | true ↦ λ j k. absurd (let l : Some ys ≡ None = k in cc)
        | false ↦ elim o as (λ o. without e x ys ≡ o → option_map (λ us. y ∷ us) o ≡ None → times e x ys ≡ 0) [
          | None ↦ λ j k. none_left x ys j
          | Some us ↦ λ j k. absurd (let l : Some (y ∷ us) ≡ None = k in cc)
        ]
      ] in
      step (e x y) (without e x ys) refl q

  -- Equal first elements change nothing.
  pub alike_front : (x y : A) → e x y ≡ true → (xs ys : List A)
      → same_items e (x ∷ xs) (y ∷ ys) ≡ same_items e xs ys
  alike_front x y q xs ys =
      let m : (w : A) → e w y ≡ e w x = λ w. p.symm w y ∙ sym (per_alike p x y w q) ∙ p.symm x w in
      both_ways (same_items e (x ∷ xs) (y ∷ ys)) (same_items e xs ys)
      (λ s. same_by_counts e xs ys (let l = same_length e (x ∷ xs) (y ∷ ys) s in omega (arith, l))
      (λ w. taken_off (e w x) (times e w xs) (times e w ys) (all_alike p (x ∷ xs) (y ∷ ys) s w
      ∙ ap (λ b. cond b (suc (times e w ys)) (times e w ys)) (m w))))
      (λ s. same_by_counts e (x ∷ xs) (y ∷ ys) (ap suc (same_length e xs ys s))
      (λ w. ap (λ n. cond (e w x) (suc n) n) (all_alike p xs ys s w)
      ∙ ap (λ b. cond b (suc (times e w ys)) (times e w ys)) (sym (m w))))

  pub alike_behind : {xs ys us vs : List A} (x y : A) → xs ≡ x ∷ us → ys ≡ y ∷ vs → not (e x y) ≡ false
      → same_items e us vs ≡ same_items e xs ys
  alike_behind {xs = xs} {us = us} {vs = vs} x y i j q =
      let q' : e x y ≡ true = unturned (e x y) q in
      sym (alike_front x y q' us vs) ∙ ap (λ zs. same_items e zs (y ∷ vs)) (sym i)
      ∙ ap (λ zs. same_items e xs zs) (sym j)

  module _ (f : A → Value) (h : (x y : A) → e x y ≡ same (f x) (f y)) where
    itself : (x : A) → e x x ≡ true
    itself x = h x x ∙ same_self (f x)

    pub same_there : (xs ys : List A) → same_items e xs ys ≡ true → same_bag (values_of f xs) (values_of f ys) ≡ true
    unfolding same_bag
    same_there [] [] q = refl
    same_there [] (y ∷ ys) q = absurd (let l = same_length e [] (y ∷ ys) q in omega (arith, l))
    same_there (x ∷ xs) ys q =
        let l = same_length e (x ∷ xs) ys q in
        let t = all_alike p (x ∷ xs) ys q in
        let step : (o : Option (List A)) → without e x ys ≡ o
        → option_map_or (λ rest. same_bag (values_of f xs) rest) (option_map (λ zs. values_of f zs) o) false ≡ true =
        λ o. elim o as (λ o. without e x ys ≡ o → option_map_or
        (λ rest. same_bag (values_of f xs) rest) (option_map (λ zs. values_of f zs) o) false ≡ true) [
          | None ↦ λ k. absurd (let a = none_left x ys k in let b : suc (times e x xs)
              ≡ times e x ys = rw (itself x) at (t x) in omega (arith, a, b))
          | Some zs ↦ λ k.
              let r = left_counts x ys zs k in
              same_there xs zs (same_by_counts e xs zs (let a = r.0 in omega (arith, a, l))
              (λ w. taken_off (e w x) (times e w xs) (times e w zs) (t w ∙ r.1 w)))
        ] in
        rw (taken_as f h x ys) (step (without e x ys) refl)

    pub same_here : (xs ys : List A) → same_bag (values_of f xs) (values_of f ys) ≡ true → same_items e xs ys ≡ true
    unfolding same_bag
    same_here [] [] q = refl
    same_here [] (y ∷ ys) q = absurd (let l : false ≡ true = q in cc)
    same_here (x ∷ xs) ys q =
        let step : (o : Option (List A)) → without e x ys ≡ o
        → option_map_or (λ rest. same_bag (values_of f xs) rest) (option_map (λ zs. values_of f zs) o) false ≡ true
        → same_items e (x ∷ xs) ys ≡ true =
        λ o. elim o as (λ o. without e x ys ≡ o → option_map_or
        (λ rest. same_bag (values_of f xs) rest) (option_map (λ zs. values_of f zs) o) false ≡ true
        → same_items e (x ∷ xs) ys ≡ true) [
          | None ↦ λ k u. absurd (let l : false ≡ true = u in cc)
          | Some zs ↦ λ k u.
              let r = left_counts x ys zs k in
              let i = same_here xs zs u in
              let t = all_alike p xs zs i in
              same_by_counts e (x ∷ xs) ys (ap suc (same_length e xs zs i) ∙ sym r.0)
              (λ w. ap (λ n. cond (e w x) (suc n) n) (t w) ∙ sym (r.1 w))
        ] in
        step (without e x ys) refl (rw (taken_as f h x ys) at q)

    -- Two lists have the same elements exactly if the SET OF values that they mean are equal.
    pub bags_agree : (xs ys : List A) → same_items e xs ys ≡ same (bag (values_of f xs)) (bag (values_of f ys))
    unfolding same
    bags_agree xs ys = both_ways (same_items e xs ys) (same_bag (values_of f xs) (values_of f ys)) (same_there xs ys)
        (same_here xs ys)
