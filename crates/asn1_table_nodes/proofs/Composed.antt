-- Values of defaults: of which types of a table they are.
use Rattle.std.proofs.Common.{◌≡◌, ◌∙◌, refl, sym, ap, ℕ, zero, suc, ◌<◌, ◌≤◌, ◌+◌, ◌^◌, ◌-◌, Bool, true, false, not, cond, ◌&&◌, ◌||◌, List, [], ◌∷◌}
use Rattle.std.proofs.Common.{map, drop, get_or, length, is_some, Option, Some, None, option_map, slice_get, arith}
use Rattle.std.specs.Option.{option_map_or}
use Rattle.std.specs.List.{list_all}
use Rattle.std.proofs.lemmas.Bool.{le-leb}
use Rattle.std.proofs.Math.Bool.{and-false}
use Rattle.std.proofs.lemmas.List.{drop_more, drop_all}
use Rattle.std.proofs.lemmas.Option.{slice_get_past}
use Rattle.asn1_model.specs.Value.{Value, Values, truth, nothing, number, item, bit_list, octet_list, text, arcs, members, bag, fields, chosen}
use Rattle.asn1_model.specs.Value.{no_more, member, Parts, end, absent, present, are_all, values_of}
use Rattle.asn1_model.specs.Schema.{Schema}
use Rattle.asn1_model.specs.Lawful.{is_of, are_of, is_of_alternative, member_count}
use Rattle.asn1_model.specs.Normal.{item_index, is_required}
use Rattle.asn1_model.specs.Strings.{is_octet}
use Rattle.asn1_table_nodes.specs.declared.events.DefaultValue.{DefaultValue}
use Rattle.asn1_table_nodes.specs.declared.nodes.Alternative.{Alternative}
use Rattle.asn1_table_nodes.specs.declared.nodes.AlternativeTable.{AlternativeTable}
use Rattle.asn1_table_nodes.specs.declared.nodes.Component.{Component}
use Rattle.asn1_table_nodes.specs.declared.nodes.TypeNode.{TypeNode}
use Rattle.asn1_table_nodes.specs.declared.nodes.TypeNode.TheVariants as node
use Rattle.asn1_table_nodes.specs.Defaults.{Decides, elements_place, bag_place, chosen_place, place_in, has_type, have_type, have_parts, is_part, is_held, is_in}
use Rattle.asn1_table_nodes.specs.Listed.{root_in, additions_in}
use Rattle.asn1_table_nodes.specs.Meaning.{type_of, type_at, alternatives_of, components_of, presence_of}
use Rattle.asn1_table_nodes.specs.Values.{value_of, part_of, parts_of}
use Rattle.asn1_table_nodes.proofs.Deciding.{decides_below, decides_by, constant, both_decide, kept_decides}
use Rattle.asn1_table_nodes.proofs.Scalars.{placed, any_size, text_held}

-- the elements of a vector are held
counted : (ds : List DefaultValue) → member_count (values_of (map value_of ds)) ≡ length ds
counted [] = refl
counted (d ∷ ds) = ap suc (counted ds)

held : (ds : List DefaultValue) → length ds < 2 ^ 64 → is_held (values_of (map value_of ds)) ≡ true
held ds h =
    let n = member_count (values_of (map value_of ds)) in
    let k : n < 2 ^ 64 = omega (arith, h, counted ds) in
    rw (le-leb 0 n (omega arith), le-leb n (2 ^ 64 - 1) (omega (arith, k))) refl

some_is : {i j : ℕ} → Some i ≡ Some j → i ≡ j
some_is e = cc

some_none : {i : ℕ} {A : Type 0} → Some i ≡ None → A
some_none e = cc

-- ---- CHOICE

alternative_there : (f : ℕ → Schema) (xs : List Alternative) (i p : ℕ) (v : Value) → option_map (λ (a : Alternative). a.place) (slice_get xs i) ≡ Some p →
    is_of_alternative (alternatives_of f xs) i v ≡ is_of (f p) v
unfolding is_of_alternative
alternative_there f [] i p v e = some_none (sym e)
alternative_there f (x ∷ xs) zero p v e = ap (λ k. is_of (f k) v) (some_is e)
alternative_there f (x ∷ xs) (suc i) p v e = alternative_there f xs i p v e

no_alternative_there : (f : ℕ → Schema) (xs : List Alternative) (i : ℕ) (v : Value) → option_map (λ (a : Alternative). a.place) (slice_get xs i) ≡ None →
    is_of_alternative (alternatives_of f xs) i v ≡ false
unfolding is_of_alternative
no_alternative_there f [] i v e = refl
no_alternative_there f (x ∷ xs) zero v e = some_none e
no_alternative_there f (x ∷ xs) (suc i) v e = no_alternative_there f xs i v e

added_there : (f : ℕ → Schema) (extensible : Bool) (xs : List Alternative) (i p : ℕ) (v : Value) → cond extensible (option_map (λ (a : Alternative). a.place) (slice_get xs i)) None ≡ Some p →
    (extensible && is_of_alternative (alternatives_of f xs) i v) ≡ is_of (f p) v
added_there f true xs i p v e = alternative_there f xs i p v e
added_there f false xs i p v e = some_none (sym e)

none_added : (f : ℕ → Schema) (extensible : Bool) (xs : List Alternative) (i : ℕ) (v : Value) → cond extensible (option_map (λ (a : Alternative). a.place) (slice_get xs i)) None ≡ None →
    (extensible && is_of_alternative (alternatives_of f xs) i v) ≡ false
none_added f true xs i v e = no_alternative_there f xs i v e
none_added f false xs i v e = refl

in_choice : (ns : List TypeNode) (n : ℕ) (t : AlternativeTable) (b : Bool) (i p : ℕ) (v : Value) → place_in b i t ≡ Some p →
    is_of (type_of ns (suc n) (Some (node.Choice t))) (chosen b i v) ≡ is_of (type_at ns n p) v
unfolding is_of
in_choice ns n t false i p v e = alternative_there (λ k. type_at ns n k) t.root.items i p v e
in_choice ns n t true i p v e = added_there (λ k. type_at ns n k) t.is_extensible t.additions.items i p v e

not_in_choice : (ns : List TypeNode) (n : ℕ) (t : AlternativeTable) (b : Bool) (i : ℕ) (v : Value) → place_in b i t ≡ None → is_of (type_of ns (suc n) (Some (node.Choice t))) (chosen b i v) ≡ false
unfolding is_of
not_in_choice ns n t false i v e = no_alternative_there (λ k. type_at ns n k) t.root.items i v e
not_in_choice ns n t true i v e = none_added (λ k. type_at ns n k) t.is_extensible t.additions.items i v e

choice_decides : (ns : List TypeNode) (t : AlternativeTable) (b : Bool) (i : ℕ) (v : Value) → ((p : ℕ) → Decides (λ n. is_of (type_at ns n p) v) (has_type ns (slice_get ns p) v)) →
    Decides (λ n. is_of (type_of ns n (Some (node.Choice t))) (chosen b i v)) (option_map_or (λ p. has_type ns (slice_get ns p) v) (place_in b i t) false)
unfolding is_of
choice_decides ns t b i v h = go (place_in b i t) refl where
  go : (o : Option ℕ) → place_in b i t ≡ o → Decides (λ n. is_of (type_of ns n (Some (node.Choice t))) (chosen b i v)) (option_map_or (λ p. has_type ns (slice_get ns p) v) o false)
  go None e = record { levels = 1; told = not_in_choice ns 0 t b i v e }
  go (Some p) e = decides_below (λ n. is_of (type_of ns n (Some (node.Choice t))) (chosen b i v)) (λ n. is_of (type_at ns n p) v) (has_type ns (slice_get ns p) v) refl
      (λ n. in_choice ns n t b i p v e) (h p)

-- ---- a value, however deep its type is unfolded

mutual
  unfolding is_of has_type have_type are_of have_parts

  pub type_decides : (ns : List TypeNode) (o : Option TypeNode) (v : Value) → Decides (λ n. is_of (type_of ns n o) v) (has_type ns o v)
  type_decides ns None v = λ n. refl
  type_decides ns (Some node.Boolean) (truth b) = λ n. refl
  type_decides ns (Some node.Null) nothing = λ n. refl
  type_decides ns (Some (node.Integer l)) (number v) = constant _
  type_decides ns (Some (node.Enumerated t)) (item v) =
      decides_by (λ n. is_of (type_of ns n (Some (node.Enumerated t))) (item v)) (λ n. has_type ns (Some (node.Enumerated t)) (item v)) _
      (λ n. ap (λ b. b || (t.is_extensible && is_some (item_index v t.additions.items))) (placed v t.root.items)
      ∙ ap (λ b. is_in v t.root.items || (t.is_extensible && b)) (placed v t.additions.items))
      (constant _)
  type_decides ns (Some (node.BitString z)) (bit_list bs) =
      decides_by (λ n. is_of (type_of ns n (Some (node.BitString z))) (bit_list bs)) (λ n. has_type ns (Some (node.BitString z)) (bit_list bs)) _ (λ n. any_size z (length bs)) (constant _)
  type_decides ns (Some (node.OctetString z)) (octet_list os) =
      decides_by (λ n. is_of (type_of ns n (Some (node.OctetString z))) (octet_list os)) (λ n. has_type ns (Some (node.OctetString z)) (octet_list os)) _
      (λ n. ap (λ b. list_all is_octet os && b) (any_size z (length os))) (constant _)
  type_decides ns (Some (node.CharacterString t)) (text cs) =
      decides_by (λ n. is_of (type_of ns n (Some (node.CharacterString t))) (text cs)) (λ n. has_type ns (Some (node.CharacterString t)) (text cs)) _ (λ n. text_held t cs) (constant _)
  type_decides ns (Some node.ObjectIdentifier) (arcs xs) = constant _
  type_decides ns (Some (node.SequenceOf z i)) (members vs) =
      decides_below (λ n. is_of (type_of ns n (Some (node.SequenceOf z i))) (members vs)) (λ n. is_held vs && are_all (λ v. is_of (type_of ns n (slice_get ns i)) v) vs) _ refl (λ n. refl)
      (kept_decides (is_held vs) (λ n. are_all (λ v. is_of (type_of ns n (slice_get ns i)) v) vs) _ (types_decide ns (slice_get ns i) vs))
  type_decides ns (Some (node.SetOf z i)) (bag vs) =
      decides_below (λ n. is_of (type_of ns n (Some (node.SetOf z i))) (bag vs)) (λ n. is_held vs && are_all (λ v. is_of (type_of ns n (slice_get ns i)) v) vs) _ refl (λ n. refl)
      (kept_decides (is_held vs) (λ n. are_all (λ v. is_of (type_of ns n (slice_get ns i)) v) vs) _ (types_decide ns (slice_get ns i) vs))
  type_decides ns (Some (node.Choice t)) (chosen b i v) = choice_decides ns t b i v (λ p. type_decides ns (slice_get ns p) v)
  type_decides ns (Some (node.Sequence t)) (fields ps qs) =
      decides_below (λ n. is_of (type_of ns n (Some (node.Sequence t))) (fields ps qs))
      (λ n. are_of (components_of (λ i. type_of ns n (slice_get ns i)) t.root.items) ps && are_of (components_of (λ i. type_of ns n (slice_get ns i)) t.additions.items) qs) _ refl (λ n. refl)
      (both_decide (λ n. are_of (components_of (λ i. type_of ns n (slice_get ns i)) t.root.items) ps) (λ n. are_of (components_of (λ i. type_of ns n (slice_get ns i)) t.additions.items) qs) _ _
      (parts_decide ns t.root.items ps) (parts_decide ns t.additions.items qs))
  type_decides ns (Some (node.Set t)) (fields ps qs) =
      decides_below (λ n. is_of (type_of ns n (Some (node.Set t))) (fields ps qs))
      (λ n. are_of (components_of (λ i. type_of ns n (slice_get ns i)) t.root.items) ps && are_of (components_of (λ i. type_of ns n (slice_get ns i)) t.additions.items) qs) _ refl (λ n. refl)
      (both_decide (λ n. are_of (components_of (λ i. type_of ns n (slice_get ns i)) t.root.items) ps) (λ n. are_of (components_of (λ i. type_of ns n (slice_get ns i)) t.additions.items) qs) _ _
      (parts_decide ns t.root.items ps) (parts_decide ns t.additions.items qs))
  type_decides ns (Some (node.Group cs)) (fields ps end) =
      decides_below (λ n. is_of (type_of ns n (Some (node.Group cs))) (fields ps end)) (λ n. are_of (components_of (λ i. type_of ns n (slice_get ns i)) cs.items) ps) _ refl (λ n. refl)
      (parts_decide ns cs.items ps)
  type_decides ns (Some x) (truth b) = record { levels = 1; told = refl }
  type_decides ns (Some x) nothing = record { levels = 1; told = refl }
  type_decides ns (Some x) (number v) = record { levels = 1; told = refl }
  type_decides ns (Some x) (item v) = record { levels = 1; told = refl }
  type_decides ns (Some x) (bit_list bs) = record { levels = 1; told = refl }
  type_decides ns (Some x) (octet_list os) = record { levels = 1; told = refl }
  type_decides ns (Some x) (text cs) = record { levels = 1; told = refl }
  type_decides ns (Some x) (arcs xs) = record { levels = 1; told = refl }
  type_decides ns (Some x) (members vs) = record { levels = 1; told = refl }
  type_decides ns (Some x) (bag vs) = record { levels = 1; told = refl }
  type_decides ns (Some x) (chosen b i v) = record { levels = 1; told = refl }
  type_decides ns (Some x) (fields ps end) = record { levels = 1; told = refl }
  type_decides ns (Some x) (fields ps (absent qs)) = record { levels = 1; told = refl }
  type_decides ns (Some x) (fields ps (present v qs)) = record { levels = 1; told = refl }

  types_decide : (ns : List TypeNode) (o : Option TypeNode) (vs : Values) → Decides (λ n. are_all (λ v. is_of (type_of ns n o) v) vs) (have_type ns o vs)
  types_decide ns o no_more = λ n. refl
  types_decide ns o (member v vs) =
      both_decide (λ n. is_of (type_of ns n o) v) (λ n. are_all (λ w. is_of (type_of ns n o) w) vs) _ _ (type_decides ns o v) (types_decide ns o vs)

  parts_decide : (ns : List TypeNode) (cs : List Component) (ps : Parts) → Decides (λ n. are_of (components_of (λ i. type_of ns n (slice_get ns i)) cs) ps) (have_parts ns cs ps)
  parts_decide ns [] end = λ n. refl
  parts_decide ns [] (absent ps) = record { levels = 0; told = refl }
  parts_decide ns [] (present v ps) = record { levels = 0; told = refl }
  parts_decide ns (c ∷ cs) end = record { levels = 0; told = refl }
  parts_decide ns (c ∷ cs) (absent ps) =
      kept_decides (not (is_required (presence_of c.presence))) (λ n. are_of (components_of (λ i. type_of ns n (slice_get ns i)) cs) ps) _ (parts_decide ns cs ps)
  parts_decide ns (c ∷ cs) (present v ps) =
      both_decide (λ n. is_of (type_of ns n (slice_get ns c.place)) v) (λ n. are_of (components_of (λ i. type_of ns n (slice_get ns i)) cs) ps) _ _
      (type_decides ns (slice_get ns c.place) v) (parts_decide ns cs ps)

-- ---- types without such values

pub no_sequence : (ns : List TypeNode) (x : TypeNode) (vs : Values) → elements_place x ≡ None → has_type ns (Some x) (members vs) ≡ false
unfolding has_type
no_sequence ns (node.SequenceOf z j) vs e = some_none e
no_sequence ns x vs e = refl

pub sequence_typed : (ns : List TypeNode) (x : TypeNode) (i : ℕ) (ds : List DefaultValue) → elements_place x ≡ Some i → length ds < 2 ^ 64 →
    has_type ns (Some x) (members (values_of (map value_of ds))) ≡ have_type ns (slice_get ns i) (values_of (map value_of ds))
unfolding has_type
sequence_typed ns (node.SequenceOf z j) i ds e h = ap (λ b. b && have_type ns (slice_get ns j) (values_of (map value_of ds))) (held ds h)
    ∙ ap (λ k. have_type ns (slice_get ns k) (values_of (map value_of ds))) (some_is e)
sequence_typed ns x i vs e h = some_none (sym e)

pub no_bag : (ns : List TypeNode) (x : TypeNode) (vs : Values) → bag_place x ≡ None → has_type ns (Some x) (bag vs) ≡ false
unfolding has_type
no_bag ns (node.SetOf z j) vs e = some_none e
no_bag ns x vs e = refl

pub bag_typed : (ns : List TypeNode) (x : TypeNode) (i : ℕ) (ds : List DefaultValue) → bag_place x ≡ Some i → length ds < 2 ^ 64 →
    has_type ns (Some x) (bag (values_of (map value_of ds))) ≡ have_type ns (slice_get ns i) (values_of (map value_of ds))
unfolding has_type
bag_typed ns (node.SetOf z j) i ds e h = ap (λ b. b && have_type ns (slice_get ns j) (values_of (map value_of ds))) (held ds h)
    ∙ ap (λ k. have_type ns (slice_get ns k) (values_of (map value_of ds))) (some_is e)
bag_typed ns x i vs e h = some_none (sym e)

pub no_choice : (ns : List TypeNode) (x : TypeNode) (b : Bool) (i : ℕ) (v : Value) → chosen_place b i x ≡ None → has_type ns (Some x) (chosen b i v) ≡ false
unfolding has_type
no_choice ns (node.Choice t) b i v e = ap (λ o. option_map_or (λ p. has_type ns (slice_get ns p) v) o false) e
no_choice ns x b i v e = refl

pub choice_typed : (ns : List TypeNode) (x : TypeNode) (b : Bool) (i p : ℕ) (v : Value) → chosen_place b i x ≡ Some p → has_type ns (Some x) (chosen b i v) ≡ has_type ns (slice_get ns p) v
unfolding has_type
choice_typed ns (node.Choice t) b i p v e = ap (λ o. option_map_or (λ q. has_type ns (slice_get ns q) v) o false) e
choice_typed ns x b i p v e = some_none (sym e)

-- outside a table anything is of the type
pub outside : (ns : List TypeNode) (i : ℕ) (v : Value) → length ns ≤ i → has_type ns (slice_get ns i) v ≡ true
unfolding has_type
outside ns i v h = ap (λ o. has_type ns o v) (slice_get_past ns i h)

-- of a list that goes on, and of one that has ended
pub typed_next : (ns : List TypeNode) (o : Option TypeNode) (ds : List DefaultValue) (i : ℕ) (d : DefaultValue) → i < length ds → d ≡ get_or ds i d →
    have_type ns o (values_of (map value_of (drop i ds))) ≡ (has_type ns o (value_of d) && have_type ns o (values_of (map value_of (drop (i + 1) ds))))
unfolding have_type
typed_next ns o ds i d h e =
    ap (λ xs. have_type ns o (values_of (map value_of xs))) (drop_more ds i d h) ∙ ap (λ x. has_type ns o (value_of x) && have_type ns o (values_of (map value_of (drop (i + 1) ds)))) (sym e)

pub typed_end : (ns : List TypeNode) (o : Option TypeNode) (ds : List DefaultValue) (i : ℕ) → length ds ≤ i → have_type ns o (values_of (map value_of (drop i ds))) ≡ true
unfolding have_type
typed_end ns o ds i h = ap (λ xs. have_type ns o (values_of (map value_of xs))) (drop_all i ds h)

-- ---- parts

none_there : {X A : Type 0} {x : X} → Some x ≡ None → A
none_there e = cc

there_is : {X : Type 0} {x y : X} → Some x ≡ Some y → x ≡ y
there_is e = cc

true_after : (a : Bool) → (a && true) ≡ a
true_after true = refl
true_after false = refl

pub no_parts : (ns : List TypeNode) (x : TypeNode) (ps qs : Parts) → root_in x ≡ None → has_type ns (Some x) (fields ps qs) ≡ false
unfolding has_type
no_parts ns (node.Sequence t) ps qs e = none_there e
no_parts ns (node.Set t) ps qs e = none_there e
no_parts ns (node.Group cs) ps qs e = none_there e
no_parts ns x ps end e = refl
no_parts ns x ps (absent qs) e = refl
no_parts ns x ps (present v qs) e = refl

pub parts_typed : (ns : List TypeNode) (x : TypeNode) (cs : List Component) (ps qs : Parts) → root_in x ≡ Some cs →
    has_type ns (Some x) (fields ps qs) ≡ (have_parts ns cs ps && have_parts ns (additions_in x) qs)
unfolding has_type have_parts
parts_typed ns (node.Sequence t) cs ps qs e = ap (λ ds. have_parts ns ds ps && have_parts ns t.additions.items qs) (there_is e)
parts_typed ns (node.Set t) cs ps qs e = ap (λ ds. have_parts ns ds ps && have_parts ns t.additions.items qs) (there_is e)
parts_typed ns (node.Group ds) cs ps end e = ap (λ ds. have_parts ns ds ps) (there_is e) ∙ sym (true_after (have_parts ns cs ps))
parts_typed ns (node.Group ds) cs ps (absent qs) e = sym (and-false (have_parts ns cs ps))
parts_typed ns (node.Group ds) cs ps (present v qs) e = sym (and-false (have_parts ns cs ps))
parts_typed ns x cs ps end e = none_there (sym e)
parts_typed ns x cs ps (absent qs) e = none_there (sym e)
parts_typed ns x cs ps (present v qs) e = none_there (sym e)

pub parts_short : (ns : List TypeNode) (cs : List Component) (os : List (Option DefaultValue)) → (length cs ≡ length os → ⊥) → have_parts ns cs (parts_of (map part_of os)) ≡ false
unfolding have_parts
parts_short ns [] [] n = absurd (n refl)
parts_short ns [] (None ∷ os) n = refl
parts_short ns [] (Some d ∷ os) n = refl
parts_short ns (c ∷ cs) [] n = refl
parts_short ns (c ∷ cs) (None ∷ os) n = ap (λ b. not (is_required (presence_of c.presence)) && b) (parts_short ns cs os (λ e. n (ap suc e))) ∙ and-false (not (is_required (presence_of c.presence)))
parts_short ns (c ∷ cs) (Some d ∷ os) n = ap (λ b. has_type ns (slice_get ns c.place) (value_of d) && b) (parts_short ns cs os (λ e. n (ap suc e)))
    ∙ and-false (has_type ns (slice_get ns c.place) (value_of d))

part_step : (ns : List TypeNode) (c : Component) (cs : List Component) (o : Option DefaultValue) (os : List (Option DefaultValue)) →
    have_parts ns (c ∷ cs) (parts_of (map part_of (o ∷ os))) ≡ (is_part ns c (part_of o) && have_parts ns cs (parts_of (map part_of os)))
unfolding have_parts
part_step ns c cs None os = refl
part_step ns c cs (Some d) os = refl

pub parts_over : (ns : List TypeNode) (cs : List Component) (os : List (Option DefaultValue)) → length cs ≡ length os → length cs ≡ 0 → have_parts ns cs (parts_of (map part_of os)) ≡ true
unfolding have_parts
parts_over ns [] [] n e = refl
parts_over ns [] (o ∷ os) n e = absurd (omega (arith, n))
parts_over ns (c ∷ cs) os n e = absurd (omega (arith, e))

-- one step of a walk over both
pub part_next : (ns : List TypeNode) (c : Component) (cs ds : List Component) (o : Option DefaultValue) (os us : List (Option DefaultValue)) (b : Bool) → ds ≡ c ∷ cs → us ≡ o ∷ os → b ≡ is_part ns c (part_of o) →
    have_parts ns ds (parts_of (map part_of us)) ≡ (b && have_parts ns cs (parts_of (map part_of os)))
part_next ns c cs ds o os us b e f q =
    ap (λ xs. have_parts ns xs (parts_of (map part_of us))) e ∙ ap (λ ys. have_parts ns (c ∷ cs) (parts_of (map part_of ys))) f ∙ part_step ns c cs o os
    ∙ ap (λ x. x && have_parts ns cs (parts_of (map part_of os))) (sym q)

pub lengths_next : {A B : Type 0} (x : A) (xs us : List A) (y : B) (ys vs : List B) → us ≡ x ∷ xs → vs ≡ y ∷ ys → length us ≡ length vs → length xs ≡ length ys
lengths_next x xs us y ys vs e f n =
    let p : length us ≡ suc (length xs) = ap (λ ws. length ws) e in
    let q : length vs ≡ suc (length ys) = ap (λ ws. length ws) f in
    omega (arith, n, p, q)
