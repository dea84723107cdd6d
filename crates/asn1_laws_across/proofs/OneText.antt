-- Equal values have the same canonical encoding, in each rule whose forms are composed of its pieces.
use Rattle.std.proofs.Common.{◌≡◌, ℕ, zero, suc, ◌==◌, not, Bool, true, false, cond, ◌&&◌, List, [], ◌∷◌, map, Option, Some, None, option_map, refl, ap, sym, ◌∙◌, subst}
use Rattle.std.proofs.lemmas.Bool.{and_parts, eqb-true}
use Rattle.asn1_model.specs.Value.{Value, truth, nothing, number, item, bit_list, octet_list, text, arcs, members, bag}
use Rattle.asn1_model.specs.Value.{fields, chosen, Values, no_more, member, Parts, end, absent, present, each, same}
use Rattle.asn1_model.specs.Value.{same_truth, same_members, same_bag, same_parts}
use Rattle.asn1_model.specs.Schema.{Tag, Counts, Size, Presence, Schema, sequence_of, set_of, sequence, set, group}
use Rattle.asn1_model.specs.Schema.{choice, Components, no_component, component, Alternatives, no_alternative}
use Rattle.asn1_model.specs.Schema.{alternative}
use Rattle.asn1_model.specs.Lawful.{is_lawful, are_lawful, are_lawful_alternatives}
use Rattle.asn1_model.specs.Normal.{normal, is_at_default, is_group_left_out, presence_bits, is_required, alternative_count, spelled}
use Rattle.asn1_model.specs.Form.{exactly, refused, varied, only_if, Bitmap, is_any_present, covered_by, own_bitmap}
use Rattle.asn1_model.specs.Form.{stands_before, Freedom, Detail, default_spelled_out, empty_group, other_order}
use Rattle.asn1_model.specs.Form.{other_bitmap, empty_bitmap}
use Rattle.asn1_model.proofs.Forms.{map_parts}
use Rattle.asn1_laws_values.proofs.Composition.{FormOf, Pieces, IsComposed, component_forms, addition_forms}
use Rattle.asn1_laws_values.proofs.Composition.{with_additions, by_bits, bitmapped, sequence_form, fields_form}
use Rattle.asn1_laws_values.proofs.Composition.{alternative_form, in_any_order}
use Rattle.asn1_laws_values.proofs.Listed.{EachComponent, EachAlternative, listed, each_is_map, order_map, arranged_maps}
use Rattle.asn1_laws_values.proofs.Leaves.{truths_equal, numbers_equal, bits_equal, naturals_equal}
use Rattle.asn1_laws_values.proofs.Bags.{EachSame, bag_matched}
use Rattle.asn1_laws_values.proofs.Normal.{normal_same, default_tests, group_tests}
use Rattle.asn1_laws_across.specs.OrderLaws.{IsTotalOrder}
use Rattle.asn1_laws_across.proofs.Orders.{lists_ordered, sorted, HaveKeys, EachAlike, sorted_alike, arranged_sorted}
use Rattle.asn1_laws_across.proofs.Bags.{arranged_keys}
use Rattle.asn1_laws_across.proofs.Gives.{Gives, gives_same, gives_equal, gives_refused, gives_both, gives_varied}
use Rattle.asn1_laws_across.proofs.Gives.{gives_if, gives_cond, gives_given, EachGives, gives_joined, EachSlot}
use Rattle.asn1_laws_across.proofs.Gives.{slots_flags, slots_any, slots_present, slots_own, covered_slots}
use Rattle.asn1_laws_across.proofs.Gives.{presence_bits_same}

unless : {X : Type 0} (r : Bool) (o : Option X) (x : X) → cond r None o ≡ Some x → (r ≡ false) × (o ≡ Some x)
unless true o x e = cc
unless false o x e = (refl, e)

unless_not : {X : Type 0} (r : Bool) (o : Option X) → r ≡ false → cond r None o ≡ o
unless_not true o e = cc
unless_not false o e = refl

some_same : {X : Type 0} {x y : X} → Some x ≡ Some y → x ≡ y
some_same e = cc

-- Where pieces are put around two forms, and the first has a canonical encoding, the second has the same.
abbrev pub Passes : {A : Type 0} → (FormOf A → FormOf A) → Type 0
Passes {A} f = (x y : FormOf A) → Gives {F = Freedom} {D = Detail} {A = A} x y → Gives {F = Freedom} {D = Detail} {A = A} (f x) (f y)

pub record AreGiven {A : Type 0} (R : Pieces A) : Type 0 where
  pub ordered : IsTotalOrder R.less
  pub lists : (z : Size) (c : Counts) (us vs : List (FormOf A)) → EachGives {F = Freedom} {D = Detail} {A = A} us vs →
      Gives (R.list_form z c us) (R.list_form z c vs)
  pub open_types : Passes R.open_type
  pub tagged : (a : Bool) (t : Tag) → Passes (R.tagged a t)
  pub roots : (e : Bool) (k i : ℕ) → Passes (R.root_form e k i)
  pub added : (i : ℕ) → Passes (R.added_form i)
  pub keys : (x y : FormOf A) (k : List A) → Gives {F = Freedom} {D = Detail} {A = A} x y → R.key x ≡ Some k → R.key y ≡ Some k
  pub one_key : (s : Schema) (v w : Value) (k : List A) → is_lawful s ≡ true → R.key (R.form s v) ≡ Some k →
      R.key (R.form s w) ≡ Some k → same v w ≡ true

module _ {A : Type 0} (R : Pieces A) (composed : IsComposed R) (given_so : AreGiven R) where
  abbrev F : Type 0
  F = FormOf A

  abbrev Same : F → F → Type 0
  Same x y = Gives {F = Freedom} {D = Detail} {A = A} x y

  abbrev Added : Type 0
  Added = List (Option F)

  same_between : {x x' y y' : F} → x ≡ x' → Same x' y' → y ≡ y' → Same x y
  same_between {x' = x'} {y = y} e h f = subst (λ z. Same z y) (sym e) (subst (λ z. Same x' z) (sym f) h)

  tests_give : (a b c d : Bool) (x y : F) → a ≡ c → b ≡ d → Same x y →
      Same (cond a (varied default_spelled_out false (λ t. only_if t x)) (cond b (varied empty_group false (λ t. only_if t x)) x))
      (cond c (varied default_spelled_out false (λ t. only_if t y)) (cond d (varied empty_group false (λ t. only_if t y)) y))
  tests_give a b c d x y e f h = rw (e, f)
      (gives_cond c _ _ _ _ (gives_varied {c = default_spelled_out} {c' = default_spelled_out} (gives_same refused))
      (gives_cond d _ _ _ _ (gives_varied {c = empty_group} {c' = empty_group} (gives_same refused)) h))

  spelled_gives : (o : Presence) (s : Schema) (v w : Value) (x y : F) → same v w ≡ true → Same x y → Same (spelled o s v x) (spelled o s w y)
  unfolding spelled
  spelled_gives o s v w x y e h =
      let n = normal_same s v w e in
      tests_give (is_at_default o s v) (is_group_left_out s v) (is_at_default o s w) (is_group_left_out s w) x y
      (default_tests (λ d. normal s d) o (normal s v) (normal s w) n) (group_tests s (normal s v) (normal s w) n) h

  abbrev pub OneText : Schema → Type 0
  OneText s = (v w : Value) → same v w ≡ true → Same (R.form s v) (R.form s w)

  -- ---- elements
  each_gives : (s : Schema) → OneText s → (vs ws : Values) → same_members vs ws ≡ true → EachGives (each (λ v. R.form s v) vs) (each (λ v. R.form s v) ws)
  unfolding same_members
  each_gives s h no_more no_more e = tt
  each_gives s h no_more (member w ws) e = cc
  each_gives s h (member v vs) no_more e = cc
  each_gives s h (member v vs) (member w ws) e = let p = and_parts _ _ e in (h v w p.0, each_gives s h vs ws p.1)

  abbrev Ordered : Type 0
  Ordered = IsTotalOrder (stands_before R.less)

  ordered : Ordered
  ordered = lists_ordered A R.less given_so.ordered

  abbrev Keys : List F → List (List A) → Type 0
  Keys xs ks = HaveKeys (List A) (stands_before R.less) ordered F R.key xs ks

  abbrev OneKey : List F → List F → Type 0
  OneKey xs ys = EachAlike (List A) (stands_before R.less) ordered F R.key xs ys

  keys_same : (s : Schema) → OneText s → (vs ws : List Value) (ks : List (List A)) → EachSame vs ws → Keys (map (λ v. R.form s v) vs) ks → Keys (map (λ v. R.form s v) ws) ks
  keys_same s h [] [] ks e k = k
  keys_same s h [] (w ∷ ws) ks e k = absurd e
  keys_same s h (v ∷ vs) [] ks e k = absurd e
  keys_same s h (v ∷ vs) (w ∷ ws) [] e k = absurd k
  keys_same s h (v ∷ vs) (w ∷ ws) (l ∷ ks) e k = (given_so.keys _ _ l (h v w e.0) k.0, keys_same s h vs ws ks e.1 k.1)

  -- elements with the same complete encoding are equal
  one_key : (s : Schema) → is_lawful s ≡ true → OneText s → (vs ws : List Value) →
      OneKey (map (λ v. R.form s v) vs) (map (λ v. R.form s v) ws) → EachGives (map (λ v. R.form s v) vs) (map (λ v. R.form s v) ws)
  one_key s l h [] [] k = tt
  one_key s l h [] (w ∷ ws) k = absurd k
  one_key s l h (v ∷ vs) [] k = absurd k
  one_key s l h (v ∷ vs) (w ∷ ws) k =
      let a = k.0.1 in
      let b = k.0.2 in
      (h v w (given_so.one_key s v w k.0.0 l a b), one_key s l h vs ws k.1)

  bag_gives : (z : Size) (held : Counts) (s : Schema) → is_lawful s ≡ true → OneText s → (vs ws : Values) → same_bag vs ws ≡ true →
      Same (in_any_order R (each (λ v. R.form s v) vs) (R.list_form z held)) (in_any_order R (each (λ v. R.form s v) ws) (R.list_form z held))
  bag_gives z held s l h vs ws e =
      let f : Value → F = λ v. R.form s v in
      let m = bag_matched vs ws e in
      let pairs : (ks : List (List A)) → Keys (map f (listed vs)) ks → (ls : List (List A)) × Keys (map f (listed ws)) ls
      × (sorted (List A) (stands_before R.less) ordered ks ≡ sorted (List A) (stands_before R.less) ordered ls) = λ ks k.
      let a = keys_same s h (listed vs) m.1 ks m.3 k in
      let b = arranged_keys (List A) (stands_before R.less) ordered F R.key m.0 (map f (listed ws)) (map f m.1) ks (arranged_maps f m.0 (listed ws) m.1 m.2) a in
      (b.0, b.1, sym (arranged_sorted (List A) (stands_before R.less) ordered m.0 b.0 ks b.2)) in
      rw (each_is_map (λ v. R.form s v) vs, each_is_map (λ v. R.form s v) ws) (gives_varied {c = other_order} {c' = other_order} (gives_given _ _ _ _ (λ us g.
      let t = sorted_alike (List A) (stands_before R.less) ordered F R.key (map f (listed vs)) (map f (listed ws)) us pairs g in
      let c = order_map f R.key (stands_before R.less) None (listed vs) us g in
      let d = order_map f R.key (stands_before R.less) None (listed ws) t.0 t.1 in
      let n : OneKey (map f c.1) (map f d.1) = subst (λ x. OneKey x (map f d.1)) (sym c.3) (subst (λ x. OneKey us x) (sym d.3) t.2) in
      let o : EachGives us t.0 = subst (λ x. EachGives x t.0) c.3 (subst (λ x. EachGives (map f c.1) x) d.3 (one_key s l h c.1 d.1 n)) in
      (t.0, t.1, given_so.lists z held us t.0 o))))

  -- a value of another kind than the type's
  unwritten : (s : Schema) (v : Value) (y : F) → R.form s v ≡ refused → Same (R.form s v) y
  unwritten s v y e = subst (λ z. Same z y) (sym e) (gives_refused y)

  -- ---- components and additions
  components_give : (cs : Components) (ps qs : Parts) → EachComponent (λ o s. OneText s) cs → same_parts ps qs ≡ true →
      Same (component_forms R cs ps) (component_forms R cs qs)
  unfolding same_parts
  components_give no_component end end h e = gives_same (exactly [])
  components_give no_component end (absent qs) h e = cc
  components_give no_component end (present w qs) h e = cc
  components_give no_component (absent ps) qs h e = gives_refused _
  components_give no_component (present v ps) qs h e = gives_refused _
  components_give (component t o s cs) end qs h e = gives_refused _
  components_give (component t o s cs) (absent ps) end h e = cc
  components_give (component t o s cs) (absent ps) (absent qs) h e =
      gives_cond (is_required o) refused refused _ _ (gives_same refused) (components_give cs ps qs h.1 e)
  components_give (component t o s cs) (absent ps) (present w qs) h e = cc
  components_give (component t o s cs) (present v ps) end h e = cc
  components_give (component t o s cs) (present v ps) (absent qs) h e = cc
  components_give (component t o s cs) (present v ps) (present w qs) h e =
      let p = and_parts _ _ e in
      gives_both (spelled_gives o s v w _ _ p.0 (h.0 v w p.0)) (components_give cs ps qs h.1 p.1)

  abbrev Open : Presence → Schema → Value → F
  Open o s v = spelled o s v (R.open_type (R.form s v))

  additions_give : (cs : Components) (ps qs : Parts) (xs : Added) → EachComponent (λ o s. OneText s) cs → same_parts ps qs ≡ true →
      addition_forms R cs ps ≡ Some xs → (ys : Added) × (addition_forms R cs qs ≡ Some ys) × EachSlot xs ys
  unfolding same_parts
  additions_give no_component end end xs h e f = ([], refl, subst (λ l. EachSlot l []) (some_same f) tt)
  additions_give no_component end (absent qs) xs h e f = cc
  additions_give no_component end (present w qs) xs h e f = cc
  additions_give no_component (absent ps) qs xs h e f = cc
  additions_give no_component (present v ps) qs xs h e f = cc
  additions_give (component t o s cs) end qs xs h e f = cc
  additions_give (component t o s cs) (absent ps) end xs h e f = cc
  additions_give (component t o s cs) (absent ps) (absent qs) xs h e f =
      let cons : Added → Added = λ zs. None ∷ zs in
      let u = unless (is_required o) _ _ f in
      let a = map_parts (addition_forms R cs ps) cons xs u.1 in
      let i = additions_give cs ps qs a.0 h.1 e a.1 in
      (None ∷ i.0, unless_not (is_required o) _ u.0 ∙ ap (λ z. option_map cons z) i.1, subst (λ l. EachSlot l (None ∷ i.0)) a.2 i.2)
  additions_give (component t o s cs) (absent ps) (present w qs) xs h e f = cc
  additions_give (component t o s cs) (present v ps) end xs h e f = cc
  additions_give (component t o s cs) (present v ps) (absent qs) xs h e f = cc
  additions_give (component t o s cs) (present v ps) (present w qs) xs h e f =
      let p = and_parts _ _ e in
      let a = map_parts (addition_forms R cs ps) (λ zs. Some (Open o s v) ∷ zs) xs f in
      let i = additions_give cs ps qs a.0 h.1 p.1 a.1 in
      let first = spelled_gives o s v w _ _ p.0 (given_so.open_types _ _ (h.0 v w p.0)) in
      let others = ap (λ z. option_map (λ zs. Some (Open o s w) ∷ zs) z) i.1 in
      (Some (Open o s w) ∷ i.0, others, subst (λ l. EachSlot l (Some (Open o s w) ∷ i.0)) a.2 (first, i.2))

  -- with or without a bitmap
  all_give : (ms : List Bool) (x y : F) (xs ys : Added) → Same x y → EachSlot xs ys → Same (with_additions R ms x xs) (with_additions R ms y ys)
  all_give ms x y xs ys h k =
      let bits = gives_equal _ _ (composed.same_bitmap xs ys (slots_flags xs ys k)) in
      gives_both (gives_same (R.preamble (true ∷ ms))) (gives_both h (gives_both bits (gives_joined _ _ (slots_present xs ys k))))

  by_bits_give : (ms : List Bool) (x y : F) (xs ys : Added) (t : Bool) → Same x y → EachSlot xs ys → Same (by_bits R ms x xs t) (by_bits R ms y ys t)
  by_bits_give ms x y xs ys t h k =
      gives_cond t _ _ _ _ (all_give ms x y xs ys h k) (gives_varied {c = empty_bitmap} {c' = empty_bitmap} (gives_same refused))

  bitmapped_gives : (ms : List Bool) (x y : F) (xs ys : Added) (b : Option Bitmap) → Same x y → EachSlot xs ys →
      Same (bitmapped R ms x xs b) (bitmapped R ms y ys b)
  bitmapped_gives ms x y xs ys None h k =
      let e = slots_any xs ys k in
      rw e (gives_if (not (is_any_present ys)) _ _ (gives_both (gives_same (R.preamble (false ∷ ms))) h))
  bitmapped_gives ms x y xs ys (Some b) h k = gives_given (covered_by R.counted b xs) (covered_by R.counted b ys) _ _ (λ all e.
      let q = covered_slots R.counted b xs ys all k e in
      let s = by_bits_give ms x y all q.0 (is_any_present all) h q.2 in
      (q.0, q.1, subst (λ t. Same (by_bits R ms x all (is_any_present all)) (by_bits R ms y q.0 t)) (slots_any all q.0 q.2) s))

  tables_give : (e : Bool) (ms : List Bool) (x y : F) (xs ys : Added) → Same x y → EachSlot xs ys →
      Same (sequence_form R e ms x xs) (sequence_form R e ms y ys)
  tables_give false ms x y [] [] h k = gives_both (gives_same (R.preamble ms)) h
  tables_give false ms x y [] (b ∷ ys) h k = absurd k
  tables_give false ms x y (a ∷ xs) ys h k = gives_refused _
  tables_give true ms x y xs ys h k =
      let o = slots_own xs ys k in
      rw o (gives_varied {c = other_bitmap} {c' = other_bitmap} (bitmapped_gives ms x y xs ys (own_bitmap ys) h k))

  fields_give : (cs : Components) (e : Bool) (adds : Components) → EachComponent (λ o s. OneText s) cs → EachComponent (λ o s. OneText s) adds →
      (ps qs rs ss : Parts) → same_parts ps rs ≡ true → same_parts qs ss ≡ true → Same (fields_form R cs e adds ps qs) (fields_form R cs e adds rs ss)
  fields_give cs e adds h k ps qs rs ss f g =
      let m = presence_bits_same cs ps rs f in
      rw m (gives_given _ _ _ _ (λ xs i.
      let a = additions_give adds qs ss xs k g i in
      (a.0, a.1, tables_give e (presence_bits cs rs) _ _ xs a.0 (components_give cs ps rs h f) a.2)))

  -- ---- choices
  alternative_gives : (added : Bool) (others : Alternatives) (i j : ℕ) (v w : Value) → EachAlternative OneText others → i ≡ j →
      same v w ≡ true → Same (alternative_form R added others i v) (alternative_form R added others j w)
  alternative_gives added others i j v w h q f =
      subst (λ n. Same (alternative_form R added others i v) (alternative_form R added others n w)) q (at_one others i h)
    where
      at_one : (others : Alternatives) (i : ℕ) → EachAlternative OneText others →
          Same (alternative_form R added others i v) (alternative_form R added others i w)
      at_one no_alternative i h = gives_refused _
      at_one (alternative t s others) zero h = given_so.tagged added t _ _ (h.0 v w f)
      at_one (alternative t s others) (suc i) h = at_one others i h.1

  choice_gives : (roots : Alternatives) (e : Bool) (adds : Alternatives) → EachAlternative OneText roots → EachAlternative OneText adds →
      OneText (choice roots e adds)
  unfolding same
  choice_gives roots e adds h k (chosen false i v) (chosen false j w) f =
      let p = and_parts (same_truth false false && (i == j)) (same v w) f in
      let q : i ≡ j = eqb-true i j ((and_parts (same_truth false false) (i == j) p.0).1) in
      let n = alternative_count roots in
      let x = alternative_form R false roots j w in
      let s = given_so.roots e n i _ _ (alternative_gives false roots i j v w h q p.1) in
      let s' = subst (λ m. Same (R.root_form e n i (alternative_form R false roots i v)) (R.root_form e n m x)) q s in
      same_between (composed.roots roots e adds i v) s' (composed.roots roots e adds j w)
  choice_gives roots true adds h k (chosen true i v) (chosen true j w) f =
      let p = and_parts (same_truth true true && (i == j)) (same v w) f in
      let q : i ≡ j = eqb-true i j ((and_parts (same_truth true true) (i == j) p.0).1) in
      let x = alternative_form R true adds j w in
      let s = given_so.added i _ _ (alternative_gives true adds i j v w k q p.1) in
      let s' = subst (λ m. Same (R.added_form i (alternative_form R true adds i v)) (R.added_form m x)) q s in
      same_between (composed.added roots adds i v) s' (composed.added roots adds j w)
  choice_gives roots false adds h k (chosen true i v) w f =
      unwritten (choice roots false adds) (chosen true i v) _ (composed.only (choice roots false adds) (chosen true i v))
  choice_gives roots true adds h k (chosen true i v) w f = cc
  choice_gives roots e adds h k (chosen false i v) w f = cc
  choice_gives roots e adds h k v w f = unwritten (choice roots e adds) v _ (composed.only (choice roots e adds) v)

  equal_gives : (s : Schema) (v w : Value) → v ≡ w → Same (R.form s v) (R.form s w)
  equal_gives s v w e = gives_equal _ _ (ap (R.form s) e)

  mutual
    unfolding is_lawful are_lawful are_lawful_alternatives same same_members same_parts

    pub one_text : (s : Schema) → is_lawful s ≡ true → OneText s
    one_text s l (truth a) (truth b) e = equal_gives s _ _ (ap truth (truths_equal a b e))
    one_text s l nothing nothing e = equal_gives s _ _ refl
    one_text s l (number a) (number b) e = equal_gives s _ _ (ap number (numbers_equal a b e))
    one_text s l (item a) (item b) e = equal_gives s _ _ (ap item (numbers_equal a b e))
    one_text s l (bit_list a) (bit_list b) e = equal_gives s _ _ (ap bit_list (bits_equal a b e))
    one_text s l (octet_list a) (octet_list b) e = equal_gives s _ _ (ap octet_list (naturals_equal a b e))
    one_text s l (text a) (text b) e = equal_gives s _ _ (ap text (naturals_equal a b e))
    one_text s l (arcs a) (arcs b) e = equal_gives s _ _ (ap arcs (naturals_equal a b e))
    one_text (sequence_of z c s) l (members vs) (members ws) e =
        let k = given_so.lists z c _ _ (each_gives s (one_text s ((and_parts _ _ l).1)) vs ws e) in
        same_between (composed.lists z c s vs) k (composed.lists z c s ws)
    one_text s l (members vs) (members ws) e = unwritten s (members vs) _ (composed.only s (members vs))
    one_text (set_of z c s) l (bag vs) (bag ws) e =
        let k = bag_gives z c s ((and_parts _ _ l).1) (one_text s ((and_parts _ _ l).1)) vs ws e in
        same_between (composed.bags z c s vs) k (composed.bags z c s ws)
    one_text s l (bag vs) (bag ws) e = unwritten s (bag vs) _ (composed.only s (bag vs))
    one_text (sequence cs x adds) l (fields ps qs) (fields rs ss) f =
        let p = and_parts _ _ f in
        let roots = each_component cs ((and_parts _ _ ((and_parts _ _ l).0)).1) in
        let k = fields_give cs x adds roots (each_component adds ((and_parts _ _ l).1)) ps qs rs ss p.0 p.1 in
        same_between (composed.sequences cs x adds ps qs) k (composed.sequences cs x adds rs ss)
    one_text (set cs x adds) l (fields ps qs) (fields rs ss) f =
        let p = and_parts _ _ f in
        let roots = each_component cs ((and_parts _ _ ((and_parts _ _ l).0)).1) in
        let k = fields_give cs x adds roots (each_component adds ((and_parts _ _ l).1)) ps qs rs ss p.0 p.1 in
        same_between (composed.sets cs x adds ps qs) k (composed.sets cs x adds rs ss)
    one_text (group cs) l (fields ps end) (fields rs end) f =
        let p = and_parts _ _ f in
        let m = presence_bits_same cs ps rs p.0 in
        let k = components_give cs ps rs (each_component cs ((and_parts _ _ l).1)) p.0 in
        same_between (composed.groups cs ps) (gives_both (gives_equal _ _ (ap (λ l. R.preamble l) m)) k) (composed.groups cs rs)
    one_text (group cs) l (fields ps end) (fields rs (absent ss)) f = let p = and_parts (same_parts ps rs) false f in cc
    one_text (group cs) l (fields ps end) (fields rs (present w ss)) f = let p = and_parts (same_parts ps rs) false f in cc
    one_text s l (fields ps qs) (fields rs ss) f = unwritten s (fields ps qs) _ (composed.only s (fields ps qs))
    one_text (choice roots x adds) l (chosen a i v) (chosen b j w) f =
        let first = each_alternative roots ((and_parts _ _ ((and_parts _ _ l).0)).1) in
        choice_gives roots x adds first (each_alternative adds ((and_parts _ _ l).1)) (chosen a i v) (chosen b j w) f
    one_text s l (chosen a i v) (chosen b j w) f = unwritten s (chosen a i v) _ (composed.only s (chosen a i v))
    one_text s l v w e = cc

    each_component : (cs : Components) → are_lawful cs ≡ true → EachComponent (λ o s. OneText s) cs
    each_component no_component h = tt
    each_component (component t o s cs) h = (one_text s ((and_parts _ _ ((and_parts _ _ h).0)).1), each_component cs ((and_parts _ _ h).1))

    each_alternative : (others : Alternatives) → are_lawful_alternatives others ≡ true → EachAlternative OneText others
    each_alternative no_alternative h = tt
    each_alternative (alternative t s others) h =
        (one_text s ((and_parts _ _ ((and_parts _ _ h).0)).1), each_alternative others ((and_parts _ _ h).1))
