-- Steps of the walks that find whether defaults are reduced.
use Rattle.std.proofs.Common.{◌≡◌, ◌∙◌, refl, sym, ap, ℕ, ◌+◌, ◌<◌, ◌≤◌, Bool, true, false, ◌&&◌, List, [], ◌∷◌, map, drop, get_or, length, Option, Some, None, slice_get, is_some, Vec, Global, ◌⊎◌, inl, inr, arith}
use Rattle.std.specs.Option.{option_map_or}
use Rattle.std.proofs.lemmas.List.{drop_more}
use Rattle.std.proofs.lemmas.Option.{slice_get_past}
use Rattle.asn1_model.specs.Value.{Value, members, bag, fields, chosen, Values, no_more, member, Parts, are_absent}
use Rattle.asn1_table_nodes.specs.declared.events.DefaultValue.{DefaultValue}
use Rattle.asn1_table_nodes.specs.declared.nodes.Component.{Component}
use Rattle.asn1_table_nodes.specs.declared.nodes.TypeNode.{TypeNode}
use Rattle.asn1_table_nodes.specs.Defaults.{elements_place, bag_place}
use Rattle.asn1_table_nodes.specs.Listed.{additions_in, root_in}
use Rattle.asn1_table_nodes.specs.Reduced.{is_reduced, are_reduced, have_reduced, is_without, is_reduced_part, alternative_place}
use Rattle.asn1_table_nodes.specs.Values.{scalar_of, value_of, part_of, parts_of}
use Rattle.asn1_table_nodes.specs.declared.events.DefaultValue.TheVariants.{Components as WithParts}
use Rattle.asn1_table_nodes.specs.declared.events.Event.{Event}
use Rattle.asn1_table_nodes.specs.declared.events.Event.TheVariants as event
use Rattle.asn1_table_nodes.proofs.Values.{Seen, simple, sequence, set, choice, parts, seen, simple_value, sequence_value, bag_value, choice_value, parts_value}

pub outside_reduced : (ns : List TypeNode) (i : ℕ) (v : Value) → length ns ≤ i → is_reduced ns (slice_get ns i) v ≡ true
unfolding is_reduced
outside_reduced ns i v h = ap (λ o. is_reduced ns o v) (slice_get_past ns i h)

reduced_step : (ns : List TypeNode) (c : Component) (cs : List Component) (o : Option DefaultValue) (os : List (Option DefaultValue)) →
    have_reduced ns (c ∷ cs) (parts_of (map part_of (o ∷ os))) ≡ (is_reduced_part ns c (part_of o) && have_reduced ns cs (parts_of (map part_of os)))
unfolding have_reduced
reduced_step ns c cs None os = refl
reduced_step ns c cs (Some d) os = refl

-- one step of a walk over both
pub reduced_next : (ns : List TypeNode) (c : Component) (cs ds : List Component) (o : Option DefaultValue) (os us : List (Option DefaultValue)) (b : Bool) → ds ≡ c ∷ cs → us ≡ o ∷ os →
    b ≡ is_reduced_part ns c (part_of o) → have_reduced ns ds (parts_of (map part_of us)) ≡ (b && have_reduced ns cs (parts_of (map part_of os)))
reduced_next ns c cs ds o os us b e f q =
    ap (λ xs. have_reduced ns xs (parts_of (map part_of us))) e ∙ ap (λ ys. have_reduced ns (c ∷ cs) (parts_of (map part_of ys))) f ∙ reduced_step ns c cs o os
    ∙ ap (λ x. x && have_reduced ns cs (parts_of (map part_of os))) (sym q)

pub reduced_over : (ns : List TypeNode) (cs : List Component) (os : List (Option DefaultValue)) → (length cs ≡ 0) ⊎ (length os ≡ 0) → have_reduced ns cs (parts_of (map part_of os)) ≡ true
unfolding have_reduced
reduced_over ns [] os h = refl
reduced_over ns (c ∷ cs) [] h = refl
reduced_over ns (c ∷ cs) (o ∷ os) (inl h) = absurd (omega (arith, h))
reduced_over ns (c ∷ cs) (o ∷ os) (inr h) = absurd (omega (arith, h))

pub elements_reduced : (ns : List TypeNode) (x : TypeNode) (vs : Values) (o : Option ℕ) → elements_place x ≡ o → is_reduced ns (Some x) (members vs) ≡ option_map_or (λ i. are_reduced ns (slice_get ns i) vs) o true
unfolding is_reduced
elements_reduced ns x vs o e = ap (λ p. option_map_or (λ i. are_reduced ns (slice_get ns i) vs) p true) e

pub bag_reduced : (ns : List TypeNode) (x : TypeNode) (vs : Values) (o : Option ℕ) → bag_place x ≡ o → is_reduced ns (Some x) (bag vs) ≡ option_map_or (λ i. are_reduced ns (slice_get ns i) vs) o true
unfolding is_reduced
bag_reduced ns x vs o e = ap (λ p. option_map_or (λ i. are_reduced ns (slice_get ns i) vs) p true) e

pub choice_reduced : (ns : List TypeNode) (x : TypeNode) (b : Bool) (i : ℕ) (v : Value) (o : Option ℕ) → alternative_place b i x ≡ o →
    is_reduced ns (Some x) (chosen b i v) ≡ option_map_or (λ p. is_reduced ns (slice_get ns p) v) o true
unfolding is_reduced
choice_reduced ns x b i v o e = ap (λ p. option_map_or (λ q. is_reduced ns (slice_get ns q) v) p true) e

pub parts_reduced : (ns : List TypeNode) (x : TypeNode) (ps qs : Parts) (o : Option (List Component)) → root_in x ≡ o →
    is_reduced ns (Some x) (fields ps qs) ≡ option_map_or (λ cs. have_reduced ns cs ps && have_reduced ns (additions_in x) qs) o true
unfolding is_reduced
parts_reduced ns x ps qs o e = ap (λ p. option_map_or (λ cs. have_reduced ns cs ps && have_reduced ns (additions_in x) qs) p true) e

pub members_next : (ns : List TypeNode) (o : Option TypeNode) (v : Value) (vs : Values) → are_reduced ns o (member v vs) ≡ (is_reduced ns o v && are_reduced ns o vs)
unfolding are_reduced
members_next ns o v vs = refl

pub members_over : (ns : List TypeNode) (o : Option TypeNode) → are_reduced ns o no_more ≡ true
unfolding are_reduced
members_over ns o = refl

pub scalar_reduced : (ns : List TypeNode) (x : TypeNode) (e : Event) → is_reduced ns (Some x) (scalar_of e) ≡ true
unfolding is_reduced
scalar_reduced ns x e = elim e as (λ e. is_reduced ns (Some x) (scalar_of e) ≡ true) [ event.Nothing ↦ refl | _ ↦ refl ]

-- no component is there
scalar_without : (e : Event) → is_without (scalar_of e) ≡ false
scalar_without e = elim e as (λ e. is_without (scalar_of e) ≡ false) [ event.Nothing ↦ refl | _ ↦ refl ]

pub others_without : (d : DefaultValue) → ((ps : _) (qs : _) → d ≡ WithParts ps qs → ⊥) → is_without (value_of d) ≡ false
others_without d n = go (seen d)
  where
    go : Seen d → is_without (value_of d) ≡ false
    go (simple e q) = ap (λ d. is_without (value_of d)) q ∙ ap is_without (simple_value e) ∙ scalar_without e
    go (sequence vs q) = ap (λ d. is_without (value_of d)) q ∙ ap is_without (sequence_value vs)
    go (set vs q) = ap (λ d. is_without (value_of d)) q ∙ ap is_without (bag_value vs)
    go (choice c v q) = ap (λ d. is_without (value_of d)) q ∙ ap is_without (choice_value c v)
    go (parts ps qs q) = absurd (n ps qs q)

pub parts_without : (r a : Vec (Option DefaultValue) Global) → is_without (value_of (WithParts r a)) ≡ are_absent (parts_of (map part_of r.items))
parts_without r a = ap is_without (parts_value r a)

pub one_there : (os : List (Option DefaultValue)) (i : ℕ) (o : Option DefaultValue) → i < length os → o ≡ get_or os i o → is_some o ≡ true → are_absent (parts_of (map part_of (drop i os))) ≡ false
one_there os i o h e k = ap (λ xs. are_absent (parts_of (map part_of xs))) (drop_more os i o h) ∙ ap (λ x. are_absent (parts_of (map part_of (x ∷ drop (i + 1) os)))) (sym e) ∙ go o k
  where
    go : (x : Option DefaultValue) → is_some x ≡ true → are_absent (parts_of (map part_of (x ∷ drop (i + 1) os))) ≡ false
    go (Some d) q = refl
    go None q = absurd (let z : false ≡ true = q in cc)

pub none_there : (os : List (Option DefaultValue)) (i : ℕ) (o : Option DefaultValue) → i < length os → o ≡ get_or os i o → is_some o ≡ false →
    are_absent (parts_of (map part_of (drop i os))) ≡ are_absent (parts_of (map part_of (drop (i + 1) os)))
none_there os i o h e k = ap (λ xs. are_absent (parts_of (map part_of xs))) (drop_more os i o h) ∙ ap (λ x. are_absent (parts_of (map part_of (x ∷ drop (i + 1) os)))) (sym e) ∙ go o k
  where
    go : (x : Option DefaultValue) → is_some x ≡ false → are_absent (parts_of (map part_of (x ∷ drop (i + 1) os))) ≡ are_absent (parts_of (map part_of (drop (i + 1) os)))
    go (Some d) q = absurd (let z : true ≡ false = q in cc)
    go None q = refl
