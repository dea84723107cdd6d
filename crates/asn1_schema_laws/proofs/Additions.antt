-- Types and values of additions, built from those of their parts.
use Rattle.std.proofs.Common.{ℕ, List, refl, ◌∙◌, ap}
use Rattle.std.proofs.lemmas.Bool.{and_parts}
use Rattle.asn1_model.specs.Value.{Parts, end}
use Rattle.asn1_model.specs.Schema.{Tag, Presence, Schema}
use Rattle.asn1_model.specs.Normal.{normal_parts}
use Rattle.asn1_model.specs.Tidy.{has_normal_default, are_tidy}
use Rattle.asn1_model.specs.Lawful.{are_lawful, has_typed_default}
use Rattle.asn1_schema_laws.specs.Presents.{Part, with_part, PartsFit}
use Rattle.asn1_schema_laws.specs.Tables.{Fields, no_field, field, components_at, IsType}
use Rattle.asn1_schema_laws.specs.Typed.{AreTypes, AreValues, HasDefault, IsPart}
use Rattle.asn1_schema_laws.proofs.Values.{normal_field, fits_field, depth_field}
use Rattle.asn1_schema_laws.specs.Additions.{extensible_table, IsAddition, AreAdditionTypes, AreAdditionValues}

-- ---- types

-- a type that is not a group is allowed, whatever its presence
pub as_addition : {ts : List Tag} {s : ℕ → Schema} (o : Presence) → IsType ts s → IsAddition ts o s
as_addition o h = record { tagged = h.tagged; lawful = h.lawful; tidy = h.tidy; optional_group = λ n. rw (h.no_group n) refl }

pub no_addition_types : AreAdditionTypes no_field
unfolding components_at are_lawful are_tidy
no_addition_types = record { lawful = λ n. refl; tidy = λ n. refl; optional_groups = λ n. refl }

pub more_addition_types : (ts : List Tag) (o : Presence) {s : ℕ → Schema} {fs : Fields} → HasDefault o s → IsAddition ts o s → AreAdditionTypes fs → AreAdditionTypes (field ts o s fs)
unfolding components_at are_lawful are_tidy
more_addition_types ts o {s} {fs} d h k = record {
  lawful = λ n. let p = and_parts (has_typed_default (s n) o) (has_normal_default (s n) o) (d n) in rw (h.tagged n, p.0, h.lawful n) (k.lawful n);
  tidy = λ n. let p = and_parts (has_typed_default (s n) o) (has_normal_default (s n) o) (d n) in rw (p.1, h.tidy n) (k.tidy n);
  optional_groups = λ n. rw (h.optional_group n) (k.optional_groups n);
}

pub extensible_types : {fs : Fields} → AreAdditionTypes fs → AreTypes (extensible_table fs)
unfolding components_at are_lawful are_tidy
extensible_types h = record {
  lawful = λ n. refl;
  tidy = λ n. refl;
  no_group = λ n. refl;
  lawful_additions =
      h.lawful;
  tidy_additions = h.tidy;
  optional_groups = h.optional_groups;
  extensible = λ n. refl;
}

-- ---- values

pub no_addition_values : AreAdditionValues no_field end
unfolding components_at PartsFit normal_parts
no_addition_values = record { fits = λ n le. tt; normal = λ n. refl }

pub more_addition_values : (ts : List Tag) {o : Presence} {s : ℕ → Schema} {fs : Fields} {x : Part} {qs : Parts} → IsPart o s x →
    AreAdditionValues fs qs → AreAdditionValues (field ts o s fs) (with_part x qs)
unfolding components_at
more_addition_values ts {o} {s} {fs} {x} {qs} h k = record {
  fits = λ n le. let d = depth_field x qs n le in fits_field ts o (s n) (components_at n fs) x qs (h.fits n d.0) (k.fits n d.1);
  normal = λ n. normal_field ts o (s n) (components_at n fs) x qs ∙ ap (λ y. with_part y (normal_parts (components_at n fs) qs)) (h.normal n) ∙ ap (λ rs. with_part x rs) (k.normal n);
}

pub extensible_values : {fs : Fields} {qs : Parts} → AreAdditionValues fs qs → AreValues (extensible_table fs) end qs
unfolding components_at PartsFit normal_parts
extensible_values h = record { fits = λ n le. tt; fits_added = h.fits; normal = λ n. refl; normal_added = h.normal }
