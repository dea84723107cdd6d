-- Defaults that are reduced are in normal form, however deep their types are unfolded, and others are not.
use Rattle.std.proofs.Common.{◌≡◌, ◌∙◌, refl, ap, ℕ, zero, suc, ◌<◌, ◌≤◌, Bool, true, false, not, cond, ◌&&◌, ◌||◌, List, [], ◌∷◌, length, Option, Some, None, slice_get, ◌⊎◌, inl, inr, arith}
use Rattle.std.specs.Option.{option_map, option_map_or}
use Rattle.std.proofs.lemmas.Bool.{and_parts, and_from, cases_lt}
use Rattle.std.proofs.lemmas.Option.{slice_get_past}
use Rattle.std.proofs.Math.Bool.{and-false}
use Rattle.asn1_model.specs.Schema as model
use Rattle.asn1_model.specs.Schema.{required, optional, by_default, group, Components, no_component, component}
use Rattle.asn1_model.specs.Value.{Value, members, bag, fields, chosen, Values, no_more, member, map_members, Parts, end, absent, present, are_all, are_absent, same}
use Rattle.asn1_model.specs.Normal.{normal, normal_parts, normal_alternative, is_default_by, is_empty_group, is_at_default, is_group_left_out}
use Rattle.asn1_model.specs.Tidy.{is_normal, are_normal, is_normal_alternative, has_normal_default, is_tidy, are_tidy, are_tidy_alternatives}
use Rattle.asn1_laws_values.proofs.Normal.{normal_same}
use Rattle.asn1_laws_values.proofs.Normals.{tells_normal}
use Rattle.asn1_table_nodes.specs.declared.nodes.Alternative.{Alternative}
use Rattle.asn1_table_nodes.specs.declared.nodes.Component.{Component}
use Rattle.asn1_table_nodes.specs.declared.nodes.TypeNode.{TypeNode}
use Rattle.asn1_table_nodes.specs.declared.nodes.TypeNode.TheVariants as node
use Rattle.asn1_table_nodes.specs.Defaults.{AtSome}
use Rattle.asn1_table_nodes.specs.Meaning.{type_of, type_at, components_of, alternatives_of, presence_of}
use Rattle.asn1_table_nodes.specs.Reduced.{is_reduced, are_reduced, have_reduced, is_left_out, is_own_default, is_without, is_group_without}
use Rattle.asn1_table_nodes.specs.Reduced.{is_reduced_by, has_reduced_default, have_reduced_defaults, has_reduced_defaults}
use Rattle.asn1_table_types.specs.Tables.{AreTidy, IsUntidy}
use Rattle.asn1_table_nodes.proofs.Deciding.{first_fails}

not_either : (a b : Bool) → not (a || b) ≡ true → (a ≡ false) × (b ≡ false)
not_either false false e = (refl, refl)
not_either false true e = absurd (let z : false ≡ true = e in cc)
not_either true b e = absurd (let z : false ≡ true = e in cc)

neither : (a b : Bool) → a ≡ false → b ≡ false → (a || b) ≡ false
neither a b e f = ap (λ c. c || b) e ∙ f

true_false : {A : Type 0} → true ≡ false → A
true_false e = cc

-- a group with no component there is one without components
without_as : (cs : Components) (v : Value) → is_empty_group (group cs) v ≡ is_without v
without_as cs v = elim v as (λ v. is_empty_group (group cs) v ≡ is_without v) [ fields ps qs ↦ refl | _ ↦ refl ]

no_group : (ns : List TypeNode) (n : ℕ) (u : Option TypeNode) (v : Value) → is_group_without u v ≡ false → is_empty_group (type_of ns n u) v ≡ false
no_group ns zero (Some (node.Group cs)) v e = refl
no_group ns (suc n) (Some (node.Group cs)) v e = without_as (components_of (λ i. type_at ns n i) cs.items) v ∙ e
no_group ns zero u v e = refl
no_group ns (suc n) u v e = refl

module _ (ns : List TypeNode) (given : (i : ℕ) → has_reduced_defaults ns (slice_get ns i) ≡ true) where
  abbrev IsKept : ℕ → Type 0
  IsKept n = (o : Option TypeNode) (v : Value) → has_reduced_defaults ns o ≡ true → is_reduced ns o v ≡ true → normal (type_of ns n o) v ≡ v

  members_kept : (n : ℕ) → IsKept n → (i : ℕ) (vs : Values) → are_reduced ns (slice_get ns i) vs ≡ true → map_members (λ v. normal (type_at ns n i) v) vs ≡ vs
  unfolding are_reduced
  members_kept n h i no_more k = refl
  members_kept n h i (member v vs) k =
      let p = and_parts (is_reduced ns (slice_get ns i) v) (are_reduced ns (slice_get ns i) vs) k in
      ap (λ w. member w (map_members (λ v. normal (type_at ns n i) v) vs)) (h (slice_get ns i) v (given i) p.0) ∙ ap (λ ws. member v ws) (members_kept n h i vs p.1)

  own_default : (n : ℕ) → IsKept n → (i : ℕ) (o : model.Presence) (v : Value) → is_reduced_by ns (slice_get ns i) o ≡ true → is_own_default o v ≡ false →
      is_default_by (λ d. normal (type_at ns n i) d) o v ≡ false
  own_default n h i required v k e = refl
  own_default n h i optional v k e = refl
  own_default n h i (by_default d) v k e = ap (λ w. same v w) (h (slice_get ns i) d (given i) k) ∙ e

  parts_kept : (n : ℕ) → IsKept n → (cs : List Component) (ps : Parts) → have_reduced_defaults ns cs ≡ true → have_reduced ns cs ps ≡ true →
      normal_parts (components_of (λ i. type_at ns n i) cs) ps ≡ ps
  unfolding normal_parts have_reduced
  parts_kept n h [] ps d k = refl
  parts_kept n h (c ∷ cs) end d k = refl
  parts_kept n h (c ∷ cs) (absent ps) d k = ap absent (parts_kept n h cs ps (and_parts (has_reduced_default ns c) (have_reduced_defaults ns cs) d).1 k)
  parts_kept n h (c ∷ cs) (present v ps) d k =
      let s = type_at ns n c.place in
      let o = presence_of c.presence in
      let f = components_of (λ i. type_at ns n i) cs in
      let b = and_parts (has_reduced_default ns c) (have_reduced_defaults ns cs) d in
      let p = and_parts (not (is_left_out ns c v) && is_reduced ns (slice_get ns c.place) v) (have_reduced ns cs ps) k in
      let q = and_parts (not (is_left_out ns c v)) (is_reduced ns (slice_get ns c.place) v) p.0 in
      let a = not_either (is_own_default o v) (is_group_without (slice_get ns c.place) v) q.0 in
      let l = neither (is_default_by (λ d. normal s d) o v) (is_empty_group s v) (own_default n h c.place o v b.0 a.0) (no_group ns n (slice_get ns c.place) v a.1) in
      ap (λ w. cond (is_default_by (λ d. normal s d) o w || is_empty_group s w) (absent (normal_parts f ps)) (present w (normal_parts f ps))) (h (slice_get ns c.place) v (given c.place) q.1)
      ∙ ap (λ b. cond b (absent (normal_parts f ps)) (present v (normal_parts f ps))) l ∙ ap (λ qs. present v qs) (parts_kept n h cs ps b.1 p.1)

  alternative_kept : (n : ℕ) → IsKept n → (xs : List Alternative) (i : ℕ) (v : Value) →
      option_map_or (λ p. is_reduced ns (slice_get ns p) v) (option_map (λ (a : Alternative). a.place) (slice_get xs i)) true ≡ true →
      normal_alternative (alternatives_of (λ i. type_at ns n i) xs) i v ≡ v
  unfolding normal_alternative
  alternative_kept n h [] i v k = refl
  alternative_kept n h (x ∷ xs) zero v k = h (slice_get ns x.place) v (given x.place) k
  alternative_kept n h (x ∷ xs) (suc i) v k = alternative_kept n h xs i v k

  kept_below : IsKept zero
  unfolding normal
  kept_below o v d k = shallow o v
    where
      shallow : (o : Option TypeNode) (v : Value) → normal (type_of ns zero o) v ≡ v
      shallow None v = refl
      shallow (Some x) v = elim x as (λ x. normal (type_of ns zero (Some x)) v ≡ v) [ node.Boolean ↦ refl | _ ↦ refl ]

  kept_above : (n : ℕ) → IsKept n → IsKept (suc n)
  unfolding normal is_reduced
  kept_above n h (Some (node.SequenceOf z i)) (members vs) d k = ap members (members_kept n h i vs k)
  kept_above n h (Some (node.SetOf z i)) (bag vs) d k = ap bag (members_kept n h i vs k)
  kept_above n h (Some (node.Choice t)) (chosen false i v) d k = ap (λ w. chosen false i w) (alternative_kept n h t.root.items i v k)
  kept_above n h (Some (node.Choice t)) (chosen true i v) d k = ap (λ w. chosen true i w) (alternative_kept n h t.additions.items i v k)
  kept_above n h (Some (node.Sequence t)) (fields ps qs) d k =
      let a = and_parts (have_reduced_defaults ns t.root.items) (have_reduced_defaults ns t.additions.items) d in
      let b = and_parts (have_reduced ns t.root.items ps) (have_reduced ns t.additions.items qs) k in
      ap (λ x. fields x (normal_parts (components_of (λ i. type_at ns n i) t.additions.items) qs)) (parts_kept n h t.root.items ps a.0 b.0)
      ∙ ap (λ x. fields ps x) (parts_kept n h t.additions.items qs a.1 b.1)
  kept_above n h (Some (node.Set t)) (fields ps qs) d k =
      let a = and_parts (have_reduced_defaults ns t.root.items) (have_reduced_defaults ns t.additions.items) d in
      let b = and_parts (have_reduced ns t.root.items ps) (have_reduced ns t.additions.items qs) k in
      ap (λ x. fields x (normal_parts (components_of (λ i. type_at ns n i) t.additions.items) qs)) (parts_kept n h t.root.items ps a.0 b.0)
      ∙ ap (λ x. fields ps x) (parts_kept n h t.additions.items qs a.1 b.1)
  kept_above n h (Some (node.Group cs)) (fields ps qs) d k =
      let a = and_parts (have_reduced_defaults ns cs.items) (have_reduced_defaults ns []) d in
      let b = and_parts (have_reduced ns cs.items ps) (have_reduced ns [] qs) k in
      ap (λ x. fields x qs) (parts_kept n h cs.items ps a.0 b.0)
  kept_above n h o v d k = refl

  pub kept : (n : ℕ) → IsKept n
  kept zero = kept_below
  kept (suc n) = kept_above n (kept n)

  default_normal : (n : ℕ) (i : ℕ) (o : model.Presence) → is_reduced_by ns (slice_get ns i) o ≡ true → has_normal_default (type_at ns n i) o ≡ true
  default_normal n i required k = refl
  default_normal n i optional k = refl
  default_normal n i (by_default d) k = tells_normal (type_at ns n i) d (kept n (slice_get ns i) d (given i) k)

  parts_tidy : (n : ℕ) → ((i : ℕ) → is_tidy (type_at ns n i) ≡ true) → (cs : List Component) → have_reduced_defaults ns cs ≡ true → are_tidy (components_of (λ i. type_at ns n i) cs) ≡ true
  unfolding are_tidy
  parts_tidy n h [] d = refl
  parts_tidy n h (c ∷ cs) d =
      let b = and_parts (has_reduced_default ns c) (have_reduced_defaults ns cs) d in
      and_from _ _ (and_from _ _ (default_normal n c.place (presence_of c.presence) b.0) (h c.place)) (parts_tidy n h cs b.1)

  others_tidy : (n : ℕ) → ((i : ℕ) → is_tidy (type_at ns n i) ≡ true) → (xs : List Alternative) → are_tidy_alternatives (alternatives_of (λ i. type_at ns n i) xs) ≡ true
  unfolding are_tidy_alternatives
  others_tidy n h [] = refl
  others_tidy n h (x ∷ xs) = and_from _ _ (h x.place) (others_tidy n h xs)

  tidy_above : (n : ℕ) → ((i : ℕ) → is_tidy (type_at ns n i) ≡ true) → (o : Option TypeNode) → has_reduced_defaults ns o ≡ true → is_tidy (type_of ns (suc n) o) ≡ true
  unfolding is_tidy
  tidy_above n h (Some (node.SequenceOf z i)) d = h i
  tidy_above n h (Some (node.SetOf z i)) d = h i
  tidy_above n h (Some (node.Sequence t)) d =
      let a = and_parts (have_reduced_defaults ns t.root.items) (have_reduced_defaults ns t.additions.items) d in
      and_from _ _ (parts_tidy n h t.root.items a.0) (parts_tidy n h t.additions.items a.1)
  tidy_above n h (Some (node.Set t)) d =
      let a = and_parts (have_reduced_defaults ns t.root.items) (have_reduced_defaults ns t.additions.items) d in
      and_from _ _ (parts_tidy n h t.root.items a.0) (parts_tidy n h t.additions.items a.1)
  tidy_above n h (Some (node.Group cs)) d = parts_tidy n h cs.items (and_parts (have_reduced_defaults ns cs.items) (have_reduced_defaults ns []) d).0
  tidy_above n h (Some (node.Choice t)) d = and_from _ _ (others_tidy n h t.root.items) (others_tidy n h t.additions.items)
  tidy_above n h o d = refl

  tidy_below : (o : Option TypeNode) → is_tidy (type_of ns zero o) ≡ true
  unfolding is_tidy
  tidy_below None = refl
  tidy_below (Some x) = elim x as (λ x. is_tidy (type_of ns zero (Some x)) ≡ true) [ node.Boolean ↦ refl | _ ↦ refl ]

  pub all_tidy : AreTidy ns
  all_tidy zero i = tidy_below (slice_get ns i)
  all_tidy (suc n) i = tidy_above n (all_tidy n) (slice_get ns i) (given i)

-- ---- what is not reduced

second_fails : (f g : ℕ → Bool) → AtSome g false → AtSome (λ n. f n && g n) false
second_fails f g h = record { levels = h.levels; told = ap (λ x. f h.levels && x) h.told ∙ and-false (f h.levels) }

both_fail : (f g : ℕ → Bool) (a b : Bool) → (a && b) ≡ false → (a ≡ false → AtSome f false) → (b ≡ false → AtSome g false) → AtSome (λ n. f n && g n) false
both_fail f g true b e h k = second_fails f g (k e)
both_fail f g false b e h k = first_fails f g (h refl)

further_down : (f g : ℕ → Bool) → ((n : ℕ) → f (suc n) ≡ g n) → AtSome g false → AtSome f false
further_down f g s h = record { levels = suc h.levels; told = s h.levels ∙ h.told }

absent_still : (cs : Components) (ps : Parts) → are_absent ps ≡ true → are_absent (normal_parts cs ps) ≡ true
unfolding normal_parts
absent_still (component t o s cs) (absent ps) e = absent_still cs ps e
absent_still (component t o s cs) (present v ps) e = absurd (let z : false ≡ true = e in cc)
absent_still (component t o s cs) end e = e
absent_still no_component ps e = e

module _ (ns : List TypeNode) where
  group_left_out : (u : Option TypeNode) (v : Value) → is_group_without u v ≡ true → is_group_left_out (type_of ns 1 u) v ≡ true
  unfolding normal
  group_left_out (Some (node.Group cs)) (fields ps qs) e = absent_still (components_of (λ i. type_at ns 0 i) cs.items) ps e
  group_left_out (Some (node.Group cs)) v e = absurd (let z : false ≡ true = e in cc)
  group_left_out u v e = absurd (let z : false ≡ true = e in cc)

  left_out_found : (u : Option TypeNode) (o : model.Presence) (v : Value) (a b : Bool) → is_own_default o v ≡ a → is_group_without u v ≡ b → (a || b) ≡ true →
      AtSome (λ n. not (is_at_default o (type_of ns n u) v) && not (is_group_left_out (type_of ns n u) v)) false
  left_out_found u o v true b p q e = record { levels = 1; told = ap (λ x. not x && not (is_group_left_out (type_of ns 1 u) v)) (at_default o p) }
    where
      at_default : (o : model.Presence) → is_own_default o v ≡ true → is_at_default o (type_of ns 1 u) v ≡ true
      at_default required e = absurd (let z : false ≡ true = e in cc)
      at_default optional e = absurd (let z : false ≡ true = e in cc)
      at_default (by_default d) e = normal_same (type_of ns 1 u) v d e
  left_out_found u o v false true p q e = record { levels = 1; told = ap (λ x. not (is_at_default o (type_of ns 1 u) v) && not x) (group_left_out u v q) ∙ and-false (not (is_at_default o (type_of ns 1 u) v)) }
  left_out_found u o v false false p q e = absurd (let z : false ≡ true = e in cc)

  left_out_fails : (c : Component) (v : Value) → not (is_left_out ns c v) ≡ false →
      AtSome (λ n. not (is_at_default (presence_of c.presence) (type_at ns n c.place) v) && not (is_group_left_out (type_at ns n c.place) v)) false
  left_out_fails c v e = go (is_left_out ns c v) refl e
    where
      go : (b : Bool) → is_left_out ns c v ≡ b → not b ≡ false →
          AtSome (λ n. not (is_at_default (presence_of c.presence) (type_at ns n c.place) v) && not (is_group_left_out (type_at ns n c.place) v)) false
      go true q k = left_out_found (slice_get ns c.place) (presence_of c.presence) v (is_own_default (presence_of c.presence) v) (is_group_without (slice_get ns c.place) v) refl refl q
      go false q k = true_false k

  first_of : (a : Bool) → (a && true) ≡ false → a ≡ false
  first_of true e = e
  first_of false e = refl

  alternative_unreduced : (xs : List Alternative) (i : ℕ) (v : Value) → ((u : Option TypeNode) → is_reduced ns u v ≡ false → AtSome (λ n. is_normal (type_of ns n u) v) false) →
      option_map_or (λ p. is_reduced ns (slice_get ns p) v) (option_map (λ (a : Alternative). a.place) (slice_get xs i)) true ≡ false →
      AtSome (λ n. is_normal_alternative (alternatives_of (λ i. type_at ns n i) xs) i v) false
  unfolding is_normal_alternative
  alternative_unreduced [] i v h e = true_false e
  alternative_unreduced (x ∷ xs) zero v h e = h (slice_get ns x.place) e
  alternative_unreduced (x ∷ xs) (suc i) v h e = alternative_unreduced xs i v h e

  mutual
    unfolding is_reduced are_reduced have_reduced is_normal are_normal

    unreduced : (o : Option TypeNode) (v : Value) → is_reduced ns o v ≡ false → AtSome (λ n. is_normal (type_of ns n o) v) false
    unreduced None v e = true_false e
    unreduced (Some (node.SequenceOf z i)) (members vs) e =
        further_down (λ n. is_normal (type_of ns n (Some (node.SequenceOf z i))) (members vs)) (λ n. are_all (λ v. is_normal (type_at ns n i) v) vs) (λ n. refl) (unreduced_members (slice_get ns i) vs e)
    unreduced (Some x) (members vs) e = true_false e
    unreduced (Some (node.SetOf z i)) (bag vs) e =
        further_down (λ n. is_normal (type_of ns n (Some (node.SetOf z i))) (bag vs)) (λ n. are_all (λ v. is_normal (type_at ns n i) v) vs) (λ n. refl) (unreduced_members (slice_get ns i) vs e)
    unreduced (Some x) (bag vs) e = true_false e
    unreduced (Some (node.Choice t)) (chosen false i v) e =
        further_down (λ n. is_normal (type_of ns n (Some (node.Choice t))) (chosen false i v)) (λ n. is_normal_alternative (alternatives_of (λ i. type_at ns n i) t.root.items) i v) (λ n. refl)
        (alternative_unreduced t.root.items i v (λ u k. unreduced u v k) e)
    unreduced (Some (node.Choice t)) (chosen true i v) e =
        further_down (λ n. is_normal (type_of ns n (Some (node.Choice t))) (chosen true i v)) (λ n. is_normal_alternative (alternatives_of (λ i. type_at ns n i) t.additions.items) i v) (λ n. refl)
        (alternative_unreduced t.additions.items i v (λ u k. unreduced u v k) e)
    unreduced (Some x) (chosen false i v) e = true_false e
    unreduced (Some x) (chosen true i v) e = true_false e
    unreduced (Some (node.Sequence t)) (fields ps qs) e =
        further_down (λ n. is_normal (type_of ns n (Some (node.Sequence t))) (fields ps qs))
        (λ n. are_normal (components_of (λ i. type_at ns n i) t.root.items) ps && are_normal (components_of (λ i. type_at ns n i) t.additions.items) qs) (λ n. refl)
        (both_fail (λ n. are_normal (components_of (λ i. type_at ns n i) t.root.items) ps) (λ n. are_normal (components_of (λ i. type_at ns n i) t.additions.items) qs) _ _ e
        (unreduced_parts t.root.items ps) (unreduced_parts t.additions.items qs))
    unreduced (Some (node.Set t)) (fields ps qs) e =
        further_down (λ n. is_normal (type_of ns n (Some (node.Set t))) (fields ps qs))
        (λ n. are_normal (components_of (λ i. type_at ns n i) t.root.items) ps && are_normal (components_of (λ i. type_at ns n i) t.additions.items) qs) (λ n. refl)
        (both_fail (λ n. are_normal (components_of (λ i. type_at ns n i) t.root.items) ps) (λ n. are_normal (components_of (λ i. type_at ns n i) t.additions.items) qs) _ _ e
        (unreduced_parts t.root.items ps) (unreduced_parts t.additions.items qs))
    unreduced (Some (node.Group cs)) (fields ps qs) e =
        further_down (λ n. is_normal (type_of ns n (Some (node.Group cs))) (fields ps qs)) (λ n. are_normal (components_of (λ i. type_at ns n i) cs.items) ps) (λ n. refl)
        (unreduced_parts cs.items ps (first_of (have_reduced ns cs.items ps) e))
    unreduced (Some x) (fields ps qs) e = true_false e
    unreduced (Some x) v e = true_false e

    unreduced_members : (o : Option TypeNode) (vs : Values) → are_reduced ns o vs ≡ false → AtSome (λ n. are_all (λ v. is_normal (type_of ns n o) v) vs) false
    unreduced_members o no_more e = true_false e
    unreduced_members o (member v vs) e =
        both_fail (λ n. is_normal (type_of ns n o) v) (λ n. are_all (λ v. is_normal (type_of ns n o) v) vs) _ _ e (unreduced o v) (unreduced_members o vs)

    unreduced_parts : (cs : List Component) (ps : Parts) → have_reduced ns cs ps ≡ false → AtSome (λ n. are_normal (components_of (λ i. type_at ns n i) cs) ps) false
    unreduced_parts [] ps e = true_false e
    unreduced_parts (c ∷ cs) end e = true_false e
    unreduced_parts (c ∷ cs) (absent ps) e = unreduced_parts cs ps e
    unreduced_parts (c ∷ cs) (present v ps) e =
        let f = λ (n : ℕ). not (is_at_default (presence_of c.presence) (type_at ns n c.place) v) && not (is_group_left_out (type_at ns n c.place) v) in
        let g = λ (n : ℕ). is_normal (type_at ns n c.place) v in
        let h = λ (n : ℕ). are_normal (components_of (λ i. type_at ns n i) cs) ps in
        both_fail (λ n. f n && g n) h (not (is_left_out ns c v) && is_reduced ns (slice_get ns c.place) v) (have_reduced ns cs ps) e
        (λ k. both_fail f g _ _ k (left_out_fails c v) (unreduced (slice_get ns c.place) v)) (unreduced_parts cs ps)

  default_fails : (i : ℕ) (o : model.Presence) → is_reduced_by ns (slice_get ns i) o ≡ false → AtSome (λ n. has_normal_default (type_at ns n i) o) false
  default_fails i required e = true_false e
  default_fails i optional e = true_false e
  default_fails i (by_default d) e = unreduced (slice_get ns i) d e

  defaults_fail : (cs : List Component) → have_reduced_defaults ns cs ≡ false → AtSome (λ n. are_tidy (components_of (λ i. type_at ns n i) cs)) false
  unfolding are_tidy
  defaults_fail [] e = true_false e
  defaults_fail (c ∷ cs) e =
      let f = λ (n : ℕ). has_normal_default (type_at ns n c.place) (presence_of c.presence) in
      let g = λ (n : ℕ). is_tidy (type_at ns n c.place) in
      let h = λ (n : ℕ). are_tidy (components_of (λ i. type_at ns n i) cs) in
      both_fail (λ n. f n && g n) h (has_reduced_default ns c) (have_reduced_defaults ns cs) e (λ k. first_fails f g (default_fails c.place (presence_of c.presence) k)) (defaults_fail cs)

  untidy_at : (o : Option TypeNode) → has_reduced_defaults ns o ≡ false → AtSome (λ n. is_tidy (type_of ns n o)) false
  unfolding is_tidy
  untidy_at (Some (node.Sequence t)) e =
      further_down (λ n. is_tidy (type_of ns n (Some (node.Sequence t))))
      (λ n. are_tidy (components_of (λ i. type_at ns n i) t.root.items) && are_tidy (components_of (λ i. type_at ns n i) t.additions.items)) (λ n. refl)
      (both_fail (λ n. are_tidy (components_of (λ i. type_at ns n i) t.root.items)) (λ n. are_tidy (components_of (λ i. type_at ns n i) t.additions.items)) _ _ e
      (defaults_fail t.root.items) (defaults_fail t.additions.items))
  untidy_at (Some (node.Set t)) e =
      further_down (λ n. is_tidy (type_of ns n (Some (node.Set t))))
      (λ n. are_tidy (components_of (λ i. type_at ns n i) t.root.items) && are_tidy (components_of (λ i. type_at ns n i) t.additions.items)) (λ n. refl)
      (both_fail (λ n. are_tidy (components_of (λ i. type_at ns n i) t.root.items)) (λ n. are_tidy (components_of (λ i. type_at ns n i) t.additions.items)) _ _ e
      (defaults_fail t.root.items) (defaults_fail t.additions.items))
  untidy_at (Some (node.Group cs)) e =
      further_down (λ n. is_tidy (type_of ns n (Some (node.Group cs)))) (λ n. are_tidy (components_of (λ i. type_at ns n i) cs.items)) (λ n. refl)
      (defaults_fail cs.items (first_of (have_reduced_defaults ns cs.items) e))
  untidy_at o e = true_false e

  -- a default that is not reduced is the fault of its type
  pub refused_untidy : (i : ℕ) → i < length ns → (x : TypeNode) → slice_get ns i ≡ Some x → has_reduced_defaults ns (Some x) ≡ false → IsUntidy ns i
  refused_untidy i h x q e =
      let a = untidy_at (Some x) e in
      record { levels = a.levels; there = h; untidy = ap (λ o. is_tidy (type_of ns a.levels o)) q ∙ a.told }

-- ---- along lists

pub reduced_everywhere : (ns : List TypeNode) (n : ℕ) → length ns ≤ n → ((i : ℕ) → i < n → has_reduced_defaults ns (slice_get ns i) ≡ true) → (i : ℕ) → has_reduced_defaults ns (slice_get ns i) ≡ true
reduced_everywhere ns n h reduced i = go (cases_lt i n) where
  go : (i < n) ⊎ (n ≤ i) → has_reduced_defaults ns (slice_get ns i) ≡ true
  go (inl l) = reduced i l
  go (inr l) = ap (λ o. has_reduced_defaults ns o) (slice_get_past ns i (omega (arith, h, l)))
