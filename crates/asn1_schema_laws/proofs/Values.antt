-- Types and values built from those of their parts.
use Rattle.std.proofs.Common.{◌≡◌, ℕ, ◌≤◌, ◌+◌, zero, suc, Bool, true, false, cond, List, ◌++◌, Option, Some, None, refl, sym, ◌∙◌, ap, arith}
use Rattle.std.specs.Prelude.{◌||◌, max}
use Rattle.std.proofs.lemmas.Bool.{and_parts}
use Rattle.std.proofs.Math.Nat.{le-max_left, le-max_right}
use Rattle.asn1_model.specs.Value.{Value, fields, Parts, end, depth, depth_of_parts, same, absent, present}
use Rattle.asn1_model.specs.Schema.{Tag, Presence, required, optional, by_default, Schema, sequence, group, Components, component}
use Rattle.asn1_model.specs.Normal.{normal, normal_parts, is_empty_group, is_at_default, is_group_left_out}
use Rattle.asn1_model.specs.Tidy.{has_normal_default, is_tidy, are_tidy}
use Rattle.asn1_model.specs.Lawful.{is_lawful, are_lawful, has_typed_default, is_group, are_distinct, tag_same, component_tags}
use Rattle.asn1_schema_laws.specs.Presents.{Part, left_out, there, with_part, Fits, PartFits, PartsFit}
use Rattle.asn1_schema_laws.specs.Tables.{Fields, no_field, field, Table, no_table, with_field, components_at, field_tags, scope, sequence_type, is_one_tag, IsType, IsValue}
use Rattle.asn1_schema_laws.proofs.Beginnings.{tags_of_one}
use Rattle.asn1_schema_laws.specs.Parts.{part_of, part_unless, normal_part}
use Rattle.asn1_schema_laws.specs.Typed.{AreTypes, HasDefault, part_depth, IsPart, AreValues}

pub not_empty : (s : Schema) (v : Value) → is_group s ≡ false → is_empty_group s v ≡ false
not_empty (group cs) v e = absurd (let z : true ≡ false = e in cc)
not_empty s v e = refl

pub no_types : AreTypes no_table
unfolding components_at are_lawful are_tidy
no_types = record { lawful = λ n. refl; tidy = λ n. refl; no_group = λ n. refl; lawful_additions = λ n. refl; tidy_additions = λ n. refl; optional_groups = λ n. refl; extensible = λ n. refl }

pub more_types : (ts : List Tag) (o : Presence) {s : ℕ → Schema} {t : Table} → HasDefault o s → IsType ts s → AreTypes t → AreTypes (with_field ts o s t)
unfolding components_at are_lawful are_tidy
more_types ts o {s} {t} d h k = record {
  lawful = λ n. let p = and_parts (has_typed_default (s n) o) (has_normal_default (s n) o) (d n) in rw (h.tagged n, p.0, h.lawful n) (k.lawful n);
  tidy = λ n. let p = and_parts (has_typed_default (s n) o) (has_normal_default (s n) o) (d n) in rw (p.1, h.tidy n) (k.tidy n);
  no_group = λ n. rw (h.no_group n) (k.no_group n);
  lawful_additions = k.lawful_additions;
  tidy_additions = k.tidy_additions;
  optional_groups = k.optional_groups;
  extensible = k.extensible;
}

pub no_values : AreValues no_table end end
unfolding components_at PartsFit normal_parts
no_values = record { fits = λ n le. tt; fits_added = λ n le. tt; normal = λ n. refl; normal_added = λ n. refl }

-- a part before the others
kept_part : (b : Bool) (w : Value) (ps : Parts) → cond b (absent ps) (present w ps) ≡ with_part (cond b left_out (there w)) ps
kept_part true w ps = refl
kept_part false w ps = refl

pub normal_field : (ts : List Tag) (o : Presence) (s : Schema) (cs : Components) (x : Part) (ps : Parts) →
    normal_parts (component ts o s cs) (with_part x ps) ≡ with_part (normal_part o s x) (normal_parts cs ps)
unfolding normal_parts
normal_field ts o s cs left_out ps = refl
normal_field ts o s cs (there v) ps = kept_part (is_at_default o s v || is_group_left_out s v) (normal s v) (normal_parts cs ps)

pub fits_field : (ts : List Tag) (o : Presence) (s : Schema) (cs : Components) (x : Part) (ps : Parts) → PartFits (λ v. Fits s v) o x → PartsFit cs ps → PartsFit (component ts o s cs) (with_part x ps)
unfolding PartsFit
fits_field ts o s cs left_out ps f g = (f, g)
fits_field ts o s cs (there v) ps f g = (f, g)

pub depth_field : (x : Part) (ps : Parts) (n : ℕ) → depth_of_parts (with_part x ps) ≤ n → (part_depth x ≤ n) × (depth_of_parts ps ≤ n)
unfolding depth_of_parts
depth_field left_out ps n h = ((let z : 0 ≤ n = omega arith in z), h)
depth_field (there v) ps n h =
    let a : depth v ≤ max (depth v) (depth_of_parts ps) = le-max_left _ _ in
    let b : depth_of_parts ps ≤ max (depth v) (depth_of_parts ps) = le-max_right _ _ in
    let k : max (depth v) (depth_of_parts ps) ≤ n = h in
    ((let z : depth v ≤ n = omega arith in z), (let z : depth_of_parts ps ≤ n = omega arith in z))

pub more_values : (ts : List Tag) {o : Presence} {s : ℕ → Schema} {t : Table} {x : Part} {ps qs : Parts} → IsPart o s x → AreValues t ps qs → AreValues (with_field ts o s t) (with_part x ps) qs
unfolding components_at
more_values ts {o} {s} {t} {x} {ps} {qs} h k = record {
  fits = λ n le. let d = depth_field x ps n le in fits_field ts o (s n) (components_at n t.root) x ps (h.fits n d.0) (k.fits n d.1);
  fits_added = k.fits_added;
  normal = λ n. normal_field ts o (s n) (components_at n t.root) x ps ∙ ap (λ y. with_part y (normal_parts (components_at n t.root) ps)) (h.normal n) ∙ ap (λ rs. with_part x rs) (k.normal n);
  normal_added = k.normal_added;
}

-- a value that is present, and not left out as its default
kept_there : {ts : List Tag} (o : Presence) (s : ℕ → Schema) (v : Value) → IsType ts s → IsValue s v → ((n : ℕ) → is_at_default o (s n) v ≡ false) → (n : ℕ) → normal_part o (s n) (there v) ≡ there v
kept_there o s v t h d n =
    let e : is_group_left_out (s n) v ≡ false = not_empty (s n) (normal (s n) v) (t.no_group n) in
    rw (d n, e) (ap there (h.normal n))

pub part_required : {ts : List Tag} {s : ℕ → Schema} {v : Value} → IsType ts s → IsValue s v → IsPart required s (there v)
part_required {ts} {s} {v} t h = record { fits = h.fits; normal = kept_there required s v t h (λ n. refl) }

pub part_optional : {ts : List Tag} {A : Type 0} (f : A → Value) {s : ℕ → Schema} (x : Option A) → IsType ts s → ((y : A) → IsValue s (f y)) → IsPart optional s (part_of f x)
part_optional f None t h = record { fits = λ n le. refl; normal = λ n. refl }
part_optional f {s} (Some y) t h = record { fits = (h y).fits; normal = kept_there optional s (f y) t (h y) (λ n. refl) }

pub part_default : {ts : List Tag} {s : ℕ → Schema} {v d : Value} (b : Bool) → IsType ts s → IsValue s v → IsValue s d → b ≡ same v d → IsPart (by_default d) s (part_unless b v)
part_default true t h k e = record { fits = λ n le. refl; normal = λ n. refl }
part_default {s = s} {v} {d} false t h k e = record { fits = h.fits; normal = kept_there (by_default d) s v t h (λ n. rw (h.normal n, k.normal n) (sym e)) }

-- a SEQUENCE
pub tags_at : (n : ℕ) (fs : Fields) → component_tags (components_at n fs) ≡ field_tags fs
unfolding components_at
tags_at n no_field = refl
tags_at n (field t o s fs) = ap (λ us. t ++ us) (tags_at n fs)

sequence_is_no_group : (t : Table) (n : ℕ) → is_group (sequence_type t n) ≡ false
unfolding sequence_type scope
sequence_is_no_group t zero = refl
sequence_is_no_group t (suc m) = refl

pub type_sequence : {ts : List Tag} (t : Table) → is_one_tag ts ≡ true → AreTypes t → are_distinct tag_same (field_tags t.root ++ field_tags t.additions) ≡ true → IsType ts (sequence_type t)
unfolding sequence_type scope is_lawful is_tidy
type_sequence {ts} t e h d = record {
  tagged = λ n. tags_of_one ts (sequence_type t n) (sequence_is_no_group t n) e;
  lawful = λ n. elim n as (λ n. is_lawful (scope n
      (λ m. sequence (components_at m t.root) t.extensible (components_at m t.additions)))
      ≡ true) [ zero ↦ refl | suc m ↦ rw (h.extensible m, tags_at m t.root, tags_at m t.additions, d, h.no_group m, h.optional_groups m, h.lawful m) (h.lawful_additions m) ];
  tidy = λ n. elim n as (λ n. is_tidy (scope n (λ m. sequence (components_at m t.root) t.extensible (components_at m t.additions)))
      ≡ true) [ zero ↦ refl | suc m ↦ rw (h.tidy m) (h.tidy_additions m) ];
  no_group = λ n. elim n as (λ n. is_group (scope n (λ m. sequence (components_at m t.root) t.extensible (components_at m t.additions))) ≡ false) [ zero ↦ refl | suc m ↦ refl ];
}

pub value_sequence : (t : Table) {ps qs : Parts} → AreValues t ps qs → IsValue (sequence_type t) (fields ps qs)
unfolding sequence_type scope normal depth Fits
value_sequence t {ps} {qs} h = record {
  fits = λ n. elim n as (λ n. depth (fields ps qs) ≤ n → Fits (scope n (λ m. sequence (components_at m t.root) t.extensible (components_at m t.additions))) (fields ps qs)) [
    | zero ↦ λ le. absurd (let z : max (depth_of_parts ps) (depth_of_parts qs) + 1 ≤ 0 = le in omega arith)
    | suc m ↦ λ le.
        let k : max (depth_of_parts ps) (depth_of_parts qs) + 1 ≤ suc m = le in
        let a : depth_of_parts ps ≤ max (depth_of_parts ps) (depth_of_parts qs) = le-max_left _ _ in
        let b : depth_of_parts qs ≤ max (depth_of_parts ps) (depth_of_parts qs) = le-max_right _ _ in
        (h.fits m (let z : depth_of_parts ps ≤ m = omega arith in z), h.fits_added m (let z : depth_of_parts qs ≤ m = omega arith in z))
  ];
  normal = λ n. elim n as (λ n. normal (scope n (λ m. sequence (components_at m t.root) t.extensible (components_at m t.additions)))
      (fields ps qs) ≡ fields ps qs) [ zero ↦ refl | suc m ↦ ap (λ xs. fields xs (normal_parts (components_at m t.additions) qs)) (h.normal m) ∙ ap (λ xs. fields ps xs) (h.normal_added m) ];
}
