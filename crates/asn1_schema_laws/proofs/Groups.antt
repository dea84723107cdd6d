-- Groups of additions: their types, and their values as additions (X.680 25.1).
use Rattle.std.proofs.Common.{◌≡◌, ℕ, ◌≤◌, ◌+◌, zero, suc, Bool, true, false, ◌++◌, append-nil, [], Option, Some, None, refl, sym, ◌∙◌, ap, arith}
use Rattle.std.specs.Prelude.{◌||◌, ◌&&◌, not, max}
use Rattle.std.proofs.lemmas.Bool.{and_parts}
use Rattle.asn1_model.specs.Value.{fields, Parts, end, absent, present, are_absent, depth, depth_of_parts}
use Rattle.asn1_model.specs.Schema.{optional, sequence, group, Components}
use Rattle.asn1_model.specs.Normal.{normal, normal_parts}
use Rattle.asn1_model.specs.Tidy.{is_tidy, are_tidy}
use Rattle.asn1_model.specs.Lawful.{is_lawful, are_lawful, is_group, is_optional, are_no_components, are_distinct}
use Rattle.asn1_model.specs.Lawful.{tag_same, component_tags, is_sequence_table, are_tags, are_tags_of}
use Rattle.asn1_model.specs.Lawful.{are_groups_in_place}
use Rattle.asn1_schema_laws.specs.Presents.{left_out, there, Fits, PartsFit}
use Rattle.asn1_schema_laws.specs.Tables.{Fields, no_field, field, Table, components_at, field_tags, scope, sequence_type, IsValue}
use Rattle.asn1_schema_laws.proofs.Beginnings.{tags_of_cut, tags_of_group}
use Rattle.asn1_schema_laws.proofs.Values.{tags_at}
use Rattle.asn1_schema_laws.specs.Parts.{part_unless, normal_part}
use Rattle.asn1_schema_laws.specs.Typed.{IsPart}
use Rattle.asn1_schema_laws.specs.Additions.{IsAddition, group_type, IsGroup, group_part}

pub no_part : (n : ℕ) (qs : Parts) → PartsFit (components_at n no_field) qs → qs ≡ end
unfolding components_at PartsFit
no_part n end f = refl
no_part n (absent qs) f = absurd f
no_part n (present v qs) f = absurd f

some_component : (n : ℕ) (fs : Fields) → are_tags (field_tags fs) ≡ true → are_no_components (components_at n fs) ≡ false
unfolding components_at
some_component n no_field e = let z : false ≡ true = e in cc
some_component n (field t o s fs) e = refl

no_tags : (n : ℕ) → component_tags (components_at n no_field) ≡ []
unfolding components_at
no_tags n = refl

-- a group has what a well-formed SEQUENCE without additions has
lawful_group : (cs : Components) (e : Bool) (adds : Components) → are_no_components cs ≡ false → component_tags adds ≡ [] → is_lawful (sequence cs e adds) ≡ true → is_lawful (group cs) ≡ true
unfolding is_lawful
lawful_group cs e adds some none h =
    let a = and_parts (is_sequence_table cs e adds && are_lawful cs) (are_lawful adds) h in
    let i = and_parts (is_sequence_table cs e adds) (are_lawful cs) a.0 in
    let f : Bool = e || are_no_components adds in
    let g : Bool = are_distinct tag_same (component_tags cs ++ component_tags adds) in
    let b = and_parts (f && g && (are_groups_in_place false cs)) (are_groups_in_place true adds) i.0 in
    let d = and_parts (f && g) (are_groups_in_place false cs) b.0 in
    let c = and_parts f g d.0 in
    let j : are_distinct tag_same (component_tags cs) ≡ true = ap (λ xs. are_distinct tag_same xs) (sym (append-nil (component_tags cs)) ∙ ap (λ ys. component_tags cs ++ ys) (sym none)) ∙ c.1 in
    rw (some, j, d.1, i.1) refl

module _ {t : Table} (g : IsGroup t) where
  -- the components of a sequence as an addition
  pub group_addition : ((n : ℕ) → is_lawful (sequence_type t n) ≡ true) → ((n : ℕ) → is_tidy (sequence_type t n) ≡ true) → IsAddition (field_tags t.root) optional (group_type t)
  unfolding group_type sequence_type scope is_lawful is_tidy
  group_addition h k = record {
    tagged = λ n. elim n as (λ n. are_tags_of (field_tags t.root) (group_type t n)
        ≡ true) [ zero ↦ tags_of_cut (field_tags t.root) g.tagged | suc m ↦ tags_of_group (field_tags t.root) (components_at m t.root) (tags_at m t.root) g.tagged ];
    lawful = λ n. elim n as (λ n. is_lawful (group_type t n)
        ≡ true) [
          | zero ↦ refl
          | suc m ↦ lawful_group (components_at m t.root) t.extensible (components_at m t.additions)
              (some_component m t.root g.tagged) (ap (λ fs. component_tags (components_at m fs)) g.no_additions ∙ no_tags m) (h (suc m))
        ];
    tidy = λ n. elim n as (λ n. is_tidy (group_type t n) ≡ true) [ zero ↦ refl | suc m ↦ (and_parts (are_tidy (components_at m t.root)) (are_tidy (components_at m t.additions)) (k (suc m))).0 ];
    optional_group = λ n. elim n as (λ n. (not (is_group (group_type t n)) || is_optional optional) ≡ true) [ zero ↦ refl | suc m ↦ refl ];
  }

  module _ {ps : Parts} (h : IsValue (sequence_type t) (fields ps end)) where
    root_fits : (n : ℕ) → depth (fields ps end) ≤ suc n → PartsFit (components_at n t.root) ps
    unfolding sequence_type scope Fits
    root_fits n le = (h.fits (suc n) le).0

    root_normal : (n : ℕ) → normal_parts (components_at n t.root) ps ≡ ps
    unfolding sequence_type scope normal
    root_normal n = let i : fields (normal_parts (components_at n t.root) ps) (normal_parts (components_at n t.additions) end) ≡ fields ps end = h.normal (suc n) in cc

    group_there : are_absent ps ≡ false → IsPart optional (group_type t) (there (fields ps end))
    unfolding group_type scope Fits normal depth
    group_there k = record {
      fits = λ n. elim n as (λ n. depth (fields ps end) ≤ n → Fits (group_type t n) (fields ps end)) [
        | zero ↦ λ le. absurd (let z : max (depth_of_parts ps) (depth_of_parts end) + 1 ≤ 0 = le in omega arith)
        | suc m ↦ λ le. (root_fits m le, refl)
      ];
      normal = λ n. elim n as (λ n. normal_part optional (group_type t n) (there (fields ps end)) ≡ there (fields ps end)) [ zero ↦ refl | suc m ↦ rw (root_normal m, k) refl ];
    }

    -- a group that is present, as an addition
    pub group_kept : (b : Bool) → are_absent ps ≡ b → IsPart optional (group_type t) (part_unless b (fields ps end))
    group_kept true k = record { fits = λ n le. refl; normal = λ n. refl }
    group_kept false k = group_there k

pub group_absent : (t : Table) → IsPart optional (group_type t) left_out
group_absent t = record { fits = λ n le. refl; normal = λ n. refl }

pub group_valued : {A : Type 0} {t : Table} (parts : A → Parts) (x : Option A) → IsGroup t →
    ((y : A) → IsValue (sequence_type t) (fields (parts y) end)) → IsPart optional (group_type t) (group_part parts x)
group_valued {t = t} parts None g h = group_absent t
group_valued parts (Some y) g h = group_kept g (h y) (are_absent (parts y)) refl
