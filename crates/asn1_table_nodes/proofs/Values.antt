-- The values of defaults, by what they are.
use Rattle.std.proofs.Common.{◌≡◌, ◌∙◌, refl, sym, ap, subst, ℕ, ◌+◌, ◌<◌, ◌≤◌, Bool, false, List, [], ◌∷◌, Option, Some, None, map, drop, get_or, length}
use Rattle.std.proofs.lemmas.List.{drop_more, drop_all}
use Rattle.asn1_model.specs.Value.{Value, truth, nothing, number, item, bit_list, octet_list, text, arcs, members, bag, chosen, fields, Values, no_more, member, values_of, Parts, end, absent, present, same}
use Rattle.asn1_table_nodes.specs.declared.events.DefaultValue.{DefaultValue}
use Rattle.asn1_table_nodes.specs.declared.events.DefaultValue.TheFolds.{fold-roll-DefaultValue, ind-DefaultValue, map-DefaultValue}
use Rattle.asn1_table_nodes.specs.declared.events.DefaultValue.TheOpen as opened
use Rattle.asn1_table_nodes.specs.declared.events.DefaultValue.TheViews.{roll-DefaultValue}
use Rattle.asn1_table_nodes.specs.declared.events.DefaultValue.TheShapes.{former-DefaultValue-Components-0-at-1}
use Rattle.asn1_table_nodes.specs.declared.events.DefaultValue.TheVariants.{Simple, SequenceOf, SetOf, Choice, Components, rolls-Simple, rolls-SequenceOf, rolls-SetOf, rolls-Choice, rolls-Components}
use Rattle.asn1_table_nodes.specs.declared.events.Event.{Event}
use Rattle.asn1_table_nodes.specs.declared.events.Event.TheVariants as event
use Rattle.asn1_table_nodes.specs.Values.{scalar_of, value_step, value_of, part_of, parts_of}

pub simple_value : (e : Event) → value_of (Simple e) ≡ scalar_of e
simple_value e = ap value_of (sym (rolls-Simple e)) ∙ fold-roll-DefaultValue Value value_step _

pub sequence_value : (vs : _) → value_of (SequenceOf vs) ≡ members (values_of (map value_of vs.items))
sequence_value vs = ap value_of (sym (rolls-SequenceOf vs)) ∙ fold-roll-DefaultValue Value value_step _

pub bag_value : (vs : _) → value_of (SetOf vs) ≡ bag (values_of (map value_of vs.items))
bag_value vs = ap value_of (sym (rolls-SetOf vs)) ∙ fold-roll-DefaultValue Value value_step _

pub choice_value : (c : _) (v : _) → value_of (Choice c v) ≡ chosen c.added c.place (value_of v.value)
choice_value c v = ap value_of (sym (rolls-Choice c v)) ∙ fold-roll-DefaultValue Value value_step _

each_alike : (os : List (Option DefaultValue)) → parts_of (map (former-DefaultValue-Components-0-at-1.map DefaultValue Value value_of) os) ≡ parts_of (map part_of os)
each_alike [] = refl
each_alike (None ∷ os) = ap absent (each_alike os)
each_alike (Some d ∷ os) = ap (λ ps. present (value_of d) ps) (each_alike os)

fields_alike : (ps rs qs ss : Parts) → ps ≡ rs → qs ≡ ss → fields ps qs ≡ fields rs ss
fields_alike ps rs qs ss e f = ap (λ x. fields x qs) e ∙ ap (λ x. fields rs x) f

pub parts_value : (ps : _) (qs : _) → value_of (Components ps qs) ≡ fields (parts_of (map part_of ps.items)) (parts_of (map part_of qs.items))
parts_value ps qs = ap value_of (sym (rolls-Components ps qs)) ∙ fold-roll-DefaultValue Value value_step _ ∙ fields_alike _ _ _ _ (each_alike ps.items) (each_alike qs.items)

-- ---- what a default is

pub data Seen (d : DefaultValue) : Type 0 where
  simple : (e : _) → d ≡ Simple e → Seen d
  sequence : (vs : _) → d ≡ SequenceOf vs → Seen d
  set : (vs : _) → d ≡ SetOf vs → Seen d
  choice : (c : _) (v : _) → d ≡ Choice c v → Seen d
  parts : (ps : _) (qs : _) → d ≡ Components ps qs → Seen d

pub seen : (d : DefaultValue) → Seen d
seen = ind-DefaultValue (λ d. Seen d) (λ x y is. subst (λ z. Seen (roll-DefaultValue z)) is
    (elim y as (λ y. Seen (roll-DefaultValue (map-DefaultValue _ _ (λ e. e.0) y))) [
      | opened.Simple e ↦ simple _ (rolls-Simple _)
      | opened.SequenceOf ds ↦ sequence _ (rolls-SequenceOf _)
      | opened.SetOf ds ↦ set _ (rolls-SetOf _)
      | opened.Choice c d ↦ choice _ _ (rolls-Choice _ _)
      | opened.Components ps qs ↦ parts _ _ (rolls-Components _ _)
    ]))

pub data Shape : Type 0 where
  scalar : Shape
  list_shape : Shape
  bag_shape : Shape
  choice_shape : Shape
  parts_shape : Shape

abbrev pub shape_of : Value → Shape
shape_of (members vs) = list_shape
shape_of (bag vs) = bag_shape
shape_of (chosen b i v) = choice_shape
shape_of (fields ps qs) = parts_shape
shape_of v = scalar

pub simple_shape : (e : Event) → shape_of (scalar_of e) ≡ scalar
simple_shape e = elim e as (λ e. shape_of (scalar_of e) ≡ scalar) [ event.Nothing ↦ refl | _ ↦ refl ]

-- values of different shapes differ
pub apart : (v w : Value) → (shape_of v ≡ shape_of w → ⊥) → same v w ≡ false
unfolding same
apart (members vs) (members ws) n = absurd (n refl)
apart (bag vs) (bag ws) n = absurd (n refl)
apart (chosen b i v) (chosen c j w) n = absurd (n refl)
apart (fields ps qs) (fields rs ss) n = absurd (n refl)
apart (truth a) (truth b) n = absurd (n refl)
apart nothing nothing n = absurd (n refl)
apart (number a) (number b) n = absurd (n refl)
apart (item a) (item b) n = absurd (n refl)
apart (bit_list a) (bit_list b) n = absurd (n refl)
apart (octet_list a) (octet_list b) n = absurd (n refl)
apart (text a) (text b) n = absurd (n refl)
apart (arcs a) (arcs b) n = absurd (n refl)
apart v w n = refl

-- ---- what is left of a list

abbrev pub with_part : Option Value → Parts → Parts
with_part None ps = absent ps
with_part (Some v) ps = present v ps

with_parts : (o : Option DefaultValue) (os : List (Option DefaultValue)) → parts_of (map part_of (o ∷ os)) ≡ with_part (part_of o) (parts_of (map part_of os))
with_parts None os = refl
with_parts (Some d) os = refl

pub values_next : (ds : List DefaultValue) (i : ℕ) (d : DefaultValue) → i < length ds → d ≡ get_or ds i d →
    values_of (map value_of (drop i ds)) ≡ member (value_of d) (values_of (map value_of (drop (i + 1) ds)))
values_next ds i d h e = ap (λ xs. values_of (map value_of xs)) (drop_more ds i d h) ∙ ap (λ x. member (value_of x) (values_of (map value_of (drop (i + 1) ds)))) (sym e)

pub values_end : (ds : List DefaultValue) (i : ℕ) → length ds ≤ i → values_of (map value_of (drop i ds)) ≡ no_more
values_end ds i h = ap (λ xs. values_of (map value_of xs)) (drop_all i ds h)

pub parts_next : (os : List (Option DefaultValue)) (i : ℕ) (o : Option DefaultValue) → i < length os → o ≡ get_or os i o →
    parts_of (map part_of (drop i os)) ≡ with_part (part_of o) (parts_of (map part_of (drop (i + 1) os)))
parts_next os i o h e = ap (λ xs. parts_of (map part_of xs)) (drop_more os i o h) ∙ with_parts (get_or os i o) (drop (i + 1) os)
    ∙ ap (λ x. with_part (part_of x) (parts_of (map part_of (drop (i + 1) os)))) (sym e)

pub parts_end : (os : List (Option DefaultValue)) (i : ℕ) → length os ≤ i → parts_of (map part_of (drop i os)) ≡ end
parts_end os i h = ap (λ xs. parts_of (map part_of xs)) (drop_all i os h)

-- ---- defaults of other kinds are not the same

pub not_simple : (e : Event) (d : DefaultValue) → ((x : _) → d ≡ Simple x → ⊥) → same (scalar_of e) (value_of d) ≡ false
not_simple e d n = apart (scalar_of e) (value_of d) (λ q. go (seen d) (sym (simple_shape e) ∙ q))
  where
    go : Seen d → scalar ≡ shape_of (value_of d) → ⊥
    go (simple x p) q = n x p
    go (sequence vs p) q = let z : scalar ≡ list_shape = q ∙ ap (λ d. shape_of (value_of d)) p ∙ ap shape_of (sequence_value vs) in cc
    go (set vs p) q = let z : scalar ≡ bag_shape = q ∙ ap (λ d. shape_of (value_of d)) p ∙ ap shape_of (bag_value vs) in cc
    go (choice c v p) q = let z : scalar ≡ choice_shape = q ∙ ap (λ d. shape_of (value_of d)) p ∙ ap shape_of (choice_value c v) in cc
    go (parts ps qs p) q = let z : scalar ≡ parts_shape = q ∙ ap (λ d. shape_of (value_of d)) p ∙ ap shape_of (parts_value ps qs) in cc

pub not_sequence : (vs : Values) (d : DefaultValue) → ((x : _) → d ≡ SequenceOf x → ⊥) → same (members vs) (value_of d) ≡ false
not_sequence vs d n = apart (members vs) (value_of d) (go (seen d))
  where
    go : Seen d → list_shape ≡ shape_of (value_of d) → ⊥
    go (simple x p) q = let z : list_shape ≡ scalar = q ∙ ap (λ d. shape_of (value_of d)) p ∙ ap shape_of (simple_value x) ∙ simple_shape x in cc
    go (sequence us p) q = n us p
    go (set us p) q = let z : list_shape ≡ bag_shape = q ∙ ap (λ d. shape_of (value_of d)) p ∙ ap shape_of (bag_value us) in cc
    go (choice c v p) q = let z : list_shape ≡ choice_shape = q ∙ ap (λ d. shape_of (value_of d)) p ∙ ap shape_of (choice_value c v) in cc
    go (parts ps qs p) q = let z : list_shape ≡ parts_shape = q ∙ ap (λ d. shape_of (value_of d)) p ∙ ap shape_of (parts_value ps qs) in cc

pub not_set : (vs : Values) (d : DefaultValue) → ((x : _) → d ≡ SetOf x → ⊥) → same (bag vs) (value_of d) ≡ false
not_set vs d n = apart (bag vs) (value_of d) (go (seen d))
  where
    go : Seen d → bag_shape ≡ shape_of (value_of d) → ⊥
    go (simple x p) q = let z : bag_shape ≡ scalar = q ∙ ap (λ d. shape_of (value_of d)) p ∙ ap shape_of (simple_value x) ∙ simple_shape x in cc
    go (sequence us p) q = let z : bag_shape ≡ list_shape = q ∙ ap (λ d. shape_of (value_of d)) p ∙ ap shape_of (sequence_value us) in cc
    go (set us p) q = n us p
    go (choice c v p) q = let z : bag_shape ≡ choice_shape = q ∙ ap (λ d. shape_of (value_of d)) p ∙ ap shape_of (choice_value c v) in cc
    go (parts ps qs p) q = let z : bag_shape ≡ parts_shape = q ∙ ap (λ d. shape_of (value_of d)) p ∙ ap shape_of (parts_value ps qs) in cc

pub not_choice : (b : Bool) (i : ℕ) (w : Value) (d : DefaultValue) → ((x : _) (y : _) → d ≡ Choice x y → ⊥) → same (chosen b i w) (value_of d) ≡ false
not_choice b i w d n = apart (chosen b i w) (value_of d) (go (seen d))
  where
    go : Seen d → choice_shape ≡ shape_of (value_of d) → ⊥
    go (simple x p) q = let z : choice_shape ≡ scalar = q ∙ ap (λ d. shape_of (value_of d)) p ∙ ap shape_of (simple_value x) ∙ simple_shape x in cc
    go (sequence us p) q = let z : choice_shape ≡ list_shape = q ∙ ap (λ d. shape_of (value_of d)) p ∙ ap shape_of (sequence_value us) in cc
    go (set us p) q = let z : choice_shape ≡ bag_shape = q ∙ ap (λ d. shape_of (value_of d)) p ∙ ap shape_of (bag_value us) in cc
    go (choice c v p) q = n c v p
    go (parts ps qs p) q = let z : choice_shape ≡ parts_shape = q ∙ ap (λ d. shape_of (value_of d)) p ∙ ap shape_of (parts_value ps qs) in cc

pub not_parts : (rs ss : Parts) (d : DefaultValue) → ((x : _) (y : _) → d ≡ Components x y → ⊥) → same (fields rs ss) (value_of d) ≡ false
not_parts rs ss d n = apart (fields rs ss) (value_of d) (go (seen d))
  where
    go : Seen d → parts_shape ≡ shape_of (value_of d) → ⊥
    go (simple x p) q = let z : parts_shape ≡ scalar = q ∙ ap (λ d. shape_of (value_of d)) p ∙ ap shape_of (simple_value x) ∙ simple_shape x in cc
    go (sequence us p) q = let z : parts_shape ≡ list_shape = q ∙ ap (λ d. shape_of (value_of d)) p ∙ ap shape_of (sequence_value us) in cc
    go (set us p) q = let z : parts_shape ≡ bag_shape = q ∙ ap (λ d. shape_of (value_of d)) p ∙ ap shape_of (bag_value us) in cc
    go (choice c v p) q = let z : parts_shape ≡ choice_shape = q ∙ ap (λ d. shape_of (value_of d)) p ∙ ap shape_of (choice_value c v) in cc
    go (parts ps qs p) q = n ps qs p
