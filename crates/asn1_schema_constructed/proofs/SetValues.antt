-- SET: its types and values.
use Rattle.std.proofs.Common.{◌≡◌, ℕ, ◌≤◌, ◌+◌, zero, suc, true, false, List, [], ◌∷◌, ◌++◌, refl, ◌∙◌, ap, arith}
use Rattle.std.specs.Prelude.{max}
use Rattle.std.proofs.Math.Nat.{le-max_left, le-max_right}
use Rattle.asn1_model.specs.Value.{fields, Parts, depth, depth_of_parts}
use Rattle.asn1_model.specs.Schema.{Tag, set}
use Rattle.asn1_model.specs.Normal.{normal, normal_parts}
use Rattle.asn1_model.specs.Tidy.{is_tidy}
use Rattle.asn1_model.specs.Lawful.{is_lawful, is_group, are_distinct, are_ascending, tag_same, tag_less, smallest, component_places}
use Rattle.asn1_schema_laws.specs.Presents.{Fits}
use Rattle.asn1_schema_laws.specs.Tables.{Fields, no_field, field, Table, components_at, field_tags, scope, is_one_tag, IsType, IsValue}
use Rattle.asn1_schema_laws.proofs.Beginnings.{tags_of_one}
use Rattle.asn1_schema_laws.specs.Typed.{AreTypes, AreValues}
use Rattle.asn1_schema_laws.proofs.Values.{tags_at}
use Rattle.asn1_schema_constructed.specs.Sets.{set_type, field_places}

places_at : (n : ℕ) (fs : Fields) → component_places (components_at n fs) ≡ field_places fs
unfolding components_at
places_at n no_field = refl
places_at n (field [] o s fs) = places_at n fs
places_at n (field (t ∷ ts) o s fs) = ap (λ us. smallest t ts ∷ us) (places_at n fs)

set_is_no_group : (t : Table) (n : ℕ) → is_group (set_type t n) ≡ false
unfolding scope
set_is_no_group t zero = refl
set_is_no_group t (suc m) = refl

pub type_set : {ts : List Tag} (t : Table) → is_one_tag ts ≡ true → AreTypes t → are_distinct tag_same (field_tags t.root ++ field_tags t.additions)
    ≡ true → are_ascending tag_less (field_places t.root) ≡ true → IsType ts (set_type t)
unfolding scope is_lawful is_tidy
type_set {ts} t e h d a = record {
  tagged = λ n. tags_of_one ts (set_type t n) (set_is_no_group t n) e;
  lawful = λ n. elim n as (λ n. is_lawful (scope n (λ m. set (components_at m t.root) t.extensible (components_at m t.additions))) ≡ true)
      [ zero ↦ refl | suc m ↦ rw (h.extensible m, tags_at m t.root, tags_at m t.additions, d, h.no_group m, h.optional_groups m, places_at m t.root, a, h.lawful m) (h.lawful_additions m) ];
  tidy = λ n. elim n as (λ n. is_tidy (scope n (λ m. set (components_at m t.root) t.extensible (components_at m t.additions))) ≡ true) [ zero ↦ refl | suc m ↦ rw (h.tidy m) (h.tidy_additions m) ];
  no_group = λ n. elim n as (λ n. is_group (scope n (λ m. set (components_at m t.root) t.extensible (components_at m t.additions))) ≡ false) [ zero ↦ refl | suc m ↦ refl ];
}

pub value_set : (t : Table) {ps qs : Parts} → AreValues t ps qs → IsValue (set_type t) (fields ps qs)
unfolding scope normal depth Fits
value_set t {ps} {qs} h = record {
  fits = λ n. elim n as (λ n. depth (fields ps qs) ≤ n → Fits (scope n (λ m. set (components_at m t.root) t.extensible (components_at m t.additions))) (fields ps qs)) [
    | zero ↦ λ le. absurd (let z : max (depth_of_parts ps) (depth_of_parts qs) + 1 ≤ 0 = le in omega arith)
    | suc m ↦ λ le.
        let k : max (depth_of_parts ps) (depth_of_parts qs) + 1 ≤ suc m = le in
        let a : depth_of_parts ps ≤ max (depth_of_parts ps) (depth_of_parts qs) = le-max_left _ _ in
        let b : depth_of_parts qs ≤ max (depth_of_parts ps) (depth_of_parts qs) = le-max_right _ _ in
        (h.fits m (let z : depth_of_parts ps ≤ m = omega arith in z), h.fits_added m (let z : depth_of_parts qs ≤ m = omega arith in z))
  ];
  normal = λ n. elim n as (λ n. normal (scope n (λ m. set (components_at m t.root) t.extensible (components_at m t.additions))) (fields ps qs)
      ≡ fields ps qs) [ zero ↦ refl | suc m ↦ ap (λ xs. fields xs (normal_parts (components_at m t.additions) qs)) (h.normal m) ∙ ap (λ xs. fields ps xs) (h.normal_added m) ];
}
