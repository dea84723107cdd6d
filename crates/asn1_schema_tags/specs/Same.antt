-- Equality of trees of tags is an equivalence.
use Rattle.std.proofs.Common.{◌≡◌, ◌∙◌, refl, sym, ap, subst, ℕ, ◌==◌, eqb-true, eq-eqb, Bool, true, false, ◌&&◌}
use Rattle.std.specs.Cmp.{IsEquivalence}
use Rattle.asn1_model.specs.Schema.{Tag as ModelTag}
use Rattle.asn1_model.specs.Lawful.{tag_same}
use Rattle.asn1_schema_tags.specs.Plain.{Plain, own, one_of, Plains, no_more, further, plain, is_same, are_same}
use Rattle.asn1_schema_tags.specs.Plain.{same_tree}

-- A type that distinguishes true from false.
pub truth : Bool → Type 0
truth true = Unit {0}
truth false = ⊥

-- False is not true.
pub differ : {A : Type 0} → false ≡ true → A
unfolding truth
differ e = absurd (subst truth (sym e) tt)

-- If a conjunction is true, so are both sides.
both_true : (p q : Bool) → (p && q) ≡ true → (p ≡ true) × (q ≡ true)
both_true true q e = (refl, e)
both_true false q e = differ e

-- Tags for which `tag_same` is true are equal.
pub tag_is : (t u : ModelTag) → tag_same t u ≡ true → t ≡ u
tag_is t u e =
    let both = both_true (t.class == u.class) (t.number == u.number) e in
    ap (λ (k : ℕ). let r : ModelTag = record { class = k; number = t.number } in r) (eqb-true t.class u.class both.0)
    ∙ ap (λ (k : ℕ). let r : ModelTag = record { class = u.class; number = k } in r) (eqb-true t.number u.number both.1)

-- A tag is the same as itself.
tag_itself : (t : ModelTag) → tag_same t t ≡ true
tag_itself t = ap (λ b. b && (t.number == t.number)) (eq-eqb t.class t.class refl) ∙ eq-eqb t.number t.number refl

mutual
  unfolding is_same

  -- Trees for which `is_same` is true are equal.
  same_is : (x y : Plain) → is_same x y ≡ true → x ≡ y
  same_is (own t) (own u) e = ap own (tag_is t u e)
  same_is (own t) (one_of ys) e = differ e
  same_is (one_of xs) (own u) e = differ e
  same_is (one_of xs) (one_of ys) e = ap one_of (same_are xs ys e)

  same_are : (xs ys : Plains) → are_same xs ys ≡ true → xs ≡ ys
  same_are no_more no_more e = refl
  same_are no_more (further y ys) e = differ e
  same_are (further x xs) no_more e = differ e
  same_are (further x xs) (further y ys) e =
      let parts = both_true (is_same x y) (are_same xs ys) e in
      ap (λ t. further t xs) (same_is x y parts.0) ∙ ap (further y) (same_are xs ys parts.1)

mutual
  unfolding is_same

  -- A tree is the same as itself.
  same_itself : (x : Plain) → is_same x x ≡ true
  same_itself (own t) = tag_itself t
  same_itself (one_of xs) = are_themselves xs

  are_themselves : (xs : Plains) → are_same xs xs ≡ true
  are_themselves no_more = refl
  are_themselves (further x xs) = ap (λ b. b && are_same xs xs) (same_itself x) ∙ are_themselves xs

-- `is_same` is symmetric.
same_back : (x y : Plain) → is_same x y ≡ true → is_same y x ≡ true
same_back x y e = ap (λ z. is_same z x) (sym (same_is x y e)) ∙ same_itself x

-- The order of the arguments of `is_same` does not matter.
same_flips : (x y : Plain) → is_same x y ≡ is_same y x
same_flips x y = go (is_same x y) (is_same y x) refl refl where
  go : (a b : Bool) → is_same x y ≡ a → is_same y x ≡ b → a ≡ b
  go true b e f = sym (same_back x y e) ∙ f
  go false true e f = sym e ∙ same_back y x f
  go false false e f = refl

-- Equality of trees of tags is an equivalence.
pub same_tree_equiv : IsEquivalence same_tree
same_tree_equiv = record {
  refl = λ t. same_itself (plain t);
  symm = λ s t. same_flips (plain s) (plain t);
  congr = λ s t u e. ap (λ x. is_same x (plain u)) (same_is (plain s) (plain t) e);
}
