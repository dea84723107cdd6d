-- What the records of a value say of a group: whether nothing of it is left.
use Rattle.std.proofs.Common.{◌≡◌, ◌∙◌, refl, sym, ap, subst, drop, ℕ, zero, suc, Bool, true, false, List, [], ◌∷◌, ◌++◌, Vec, Global, Option, Some, slice_get, append_assoc, length}
use Rattle.std.proofs.Common.{◌==◌, arith, ne_eqb}
use Rattle.std.specs.Prelude.{◌&&◌}
use Rattle.std.specs.List.{list_all}
use Rattle.asn1_model.specs.Value.{Value, fields, Parts, end, absent, present, are_absent}
use Rattle.asn1_model.specs.Schema.{Schema, group, Components, no_component, component}
use Rattle.asn1_model.specs.Lawful.{is_lawful}
use Rattle.asn1_model.specs.Normal.{normal, normal_parts, is_required, is_group_left_out}
use Rattle.asn1_schema_laws.specs.Records.{Record, group_begins, ends}
use Rattle.asn1_schema_laws.specs.Presents.{presents, root_records, optional_count, noted, with_presence_bit, Fits, PartsFit}
use Rattle.asn1_table_laws.proofs.Normal.{normal_fits}
use Rattle.asn1_table_nodes.specs.Meaning.{type_of, type_at, components_of}
use Rattle.asn1_table_types.specs.Tables.{AreLawful}
use Rattle.asn1_table_nodes.specs.declared.nodes.Component.{Component}
use Rattle.asn1_table_nodes.specs.declared.nodes.TypeNode.{TypeNode}
use Rattle.asn1_table_nodes.specs.declared.nodes.TypeNode.TheVariants as node
use Rattle.asn1_table_tape.specs.declared.tape.Event.{Event}
use Rattle.asn1_table_tape.specs.Records.{records_of}
use Rattle.asn1_table_tape.specs.Values.{is_absence}
use Rattle.asn1_table_tape.proofs.Shapes.{is_off, off_of, single, begun, shape}

all_off : (ns : List TypeNode) (es : List Event) → list_all is_absence es ≡ list_all is_off (records_of ns es)
all_off ns [] = refl
all_off ns (e ∷ es) = rw (off_of ns e) (ap (λ b. is_absence e && b) (all_off ns es))

-- a component that is there begins with another record
present_first : (s : Schema) (v : Value) (rest : List Record) → Fits s v → list_all is_off (presents s v ++ rest) ≡ false
present_first s v rest f = elim (shape s v f) [
  | single r q p o b ↦ ap (λ rs. list_all is_off (rs ++ rest)) q ∙ ap (λ b. b && list_all is_off rest) o
  | begun r qs q p o b n ↦ ap (λ rs. list_all is_off (rs ++ rest)) q ∙ ap (λ b. b && list_all is_off (qs ++ rest)) o
]

off_parts : (cs : Components) (ps : Parts) → PartsFit cs ps → list_all is_off (root_records cs ps (ends ∷ [])) ≡ are_absent ps
unfolding PartsFit root_records is_off
off_parts no_component end f = refl
off_parts no_component (absent ps) f = absurd f
off_parts no_component (present v ps) f = absurd f
off_parts (component t o s cs) end f = absurd f
off_parts (component t o s cs) (absent ps) f = rw f.0 (off_parts cs ps f.1)
off_parts (component t o s cs) (present v ps) f = by_case (is_required o)
  where
    by_case : (b : Bool) → list_all is_off (with_presence_bit b (presents s v ++ noted o s v) ++ root_records cs ps (ends ∷ [])) ≡ false
    by_case true = ap (λ rs. list_all is_off rs) (append_assoc (presents s v) (noted o s v) (root_records cs ps (ends ∷ [])))
        ∙ present_first s v (noted o s v ++ root_records cs ps (ends ∷ [])) f.0
    by_case false = refl

-- the records of a group: its beginning, then those of its components
group_records : (cs : Components) (v : Value) (rs : List Record) → Fits (group cs) v → is_lawful (group cs) ≡ true → rs ≡ presents (group cs) (normal (group cs) v) →
    (k : ℕ) × (qs : List Record) × (rs ≡ group_begins k ∷ qs) × (list_all is_off qs ≡ is_group_left_out (group cs) v)
unfolding presents Fits normal is_off
group_records cs v rs = elim v as (λ v. Fits (group cs) v → is_lawful (group cs) ≡ true → rs ≡ presents (group cs) (normal (group cs) v) →
    (k : ℕ) × (qs : List Record) × (rs ≡ group_begins k ∷ qs) × (list_all is_off qs ≡ is_group_left_out (group cs) v)) [
      | fields ps qs ↦ λ f l e.
          let g : Fits (group cs) (normal (group cs) (fields ps qs)) = normal_fits (group cs) (fields ps qs) l f in
          let q : rs ≡ presents (group cs) (fields (normal_parts cs ps) end) = e ∙ ap (λ qs. presents (group cs) (fields (normal_parts cs ps) qs)) f.1 in
          (optional_count cs, root_records cs (normal_parts cs ps) (ends ∷ []), q, off_parts cs (normal_parts cs ps) g.0)
      | _ ↦ λ f. absurd f
    ]

module _ (ns : List TypeNode) where
  none_begins : (k : ℕ) (qs : List Record) → records_of ns [] ≡ group_begins k ∷ qs → ⊥
  none_begins k qs e = cc

  -- there is a record, and after it only those of components that are absent exactly if nothing is left
  group_found : (es : List Event) (cs : Components) (v : Value) → Fits (group cs) v → is_lawful (group cs) ≡ true → records_of ns es ≡ presents (group cs) (normal (group cs) v) →
      (list_all is_absence (drop 1 es) ≡ is_group_left_out (group cs) v) × ((length es == 0) ≡ false)
  group_found [] cs v f l e = let q = group_records cs v [] f l e in absurd (none_begins q.0 q.1 q.2)
  group_found (x ∷ es) cs v f l e =
      let q = group_records cs v (records_of ns (x ∷ es)) f l e in
      let r : records_of ns es ≡ q.1 = ap (λ rs. drop 1 rs) q.2 in
      (all_off ns es ∙ ap (λ rs. list_all is_off rs) r ∙ q.3, ne_eqb (length (x ∷ es)) 0 (λ h. omega (arith, h)))

  -- the same of the type at an index
  module _ (es : List Event) (cs : Vec Component Global) where
    in_group : (n : ℕ) (v : Value) → is_lawful (type_of ns n (Some (node.Group cs))) ≡ true → Fits (type_of ns n (Some (node.Group cs))) v →
        records_of ns es ≡ presents (type_of ns n (Some (node.Group cs))) (normal (type_of ns n (Some (node.Group cs))) v) →
        (list_all is_absence (drop 1 es) ≡ is_group_left_out (type_of ns n (Some (node.Group cs))) v) × ((length es == 0) ≡ false)
    unfolding Fits
    in_group zero v l f e = absurd f
    in_group (suc n) v l f e = group_found es (components_of (λ i. type_at ns n i) cs.items) v f l e

    pub group_at : (index : ℕ) → slice_get ns index ≡ Some (node.Group cs) → AreLawful ns → (n : ℕ) (v : Value) → Fits (type_at ns n index) v →
        records_of ns es ≡ presents (type_at ns n index) (normal (type_at ns n index) v) →
        (list_all is_absence (drop 1 es) ≡ is_group_left_out (type_at ns n index) v) × ((length es == 0) ≡ false)
    group_at index q lawful n v f e = subst (λ (o : Option TypeNode). is_lawful (type_of ns n o) ≡ true → Fits (type_of ns n o) v → records_of ns es ≡ presents (type_of ns n o)
        (normal (type_of ns n o) v) →
        (list_all is_absence (drop 1 es) ≡ is_group_left_out (type_of ns n o) v) × ((length es == 0) ≡ false)) (sym q) (in_group n v) (lawful n index) f e
