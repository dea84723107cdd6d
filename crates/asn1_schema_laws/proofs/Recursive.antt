-- Recursive types, and their values.
use Rattle.std.proofs.Common.{◌≡◌, ℕ, zero, suc, true, List, ◌++◌, Some, refl}
use Rattle.asn1_model.specs.Value.{Value}
use Rattle.asn1_model.specs.Schema.{Tag, Schema, cut, optional}
use Rattle.asn1_model.specs.Tidy.{is_tidy}
use Rattle.asn1_model.specs.Lawful.{is_lawful, are_distinct, tag_same}
use Rattle.asn1_schema_laws.specs.Presents.{left_out, there}
use Rattle.asn1_schema_laws.specs.Tables.{Table, field_tags, is_one_tag, IsType, IsValue}
use Rattle.asn1_schema_laws.proofs.Beginnings.{tags_of_one}
use Rattle.asn1_schema_laws.specs.Typed.{AreTypes, IsPart}
use Rattle.asn1_schema_laws.specs.Recursive.{recursive_sequence}
use Rattle.asn1_schema_laws.proofs.Values.{type_sequence, part_optional}

cut_type : {ts : List Tag} → is_one_tag ts ≡ true → IsType ts (λ _. cut)
unfolding is_lawful is_tidy
cut_type {ts} e = record { tagged = λ n. tags_of_one ts cut refl e; lawful = λ n. refl; tidy = λ n. refl; no_group = λ n. refl }

-- a type at one number of levels
pub type_at : {ts : List Tag} {s : ℕ → Schema} → IsType ts s → (n : ℕ) → IsType ts (λ _. s n)
type_at h n = record { tagged = λ m. h.tagged n; lawful = λ m. h.lawful n; tidy = λ m. h.tidy n; no_group = λ m. h.no_group n }

module _ {ts : List Tag} (f : (ℕ → Schema) → Table) (e : is_one_tag ts ≡ true) (h : (s : ℕ → Schema) → IsType ts s → AreTypes (f s))
    (d : (s : ℕ → Schema) → are_distinct tag_same (field_tags (f s).root ++ field_tags (f s).additions) ≡ true) where
  each_level : (n : ℕ) → IsType ts (λ _. recursive_sequence f n)
  unfolding recursive_sequence
  each_level zero = cut_type e
  each_level (suc n) = type_at (type_sequence (f (λ _. recursive_sequence f n)) e (h (λ _. recursive_sequence f n) (each_level n)) (d (λ _. recursive_sequence f n))) (suc n)

  pub recursive_type : IsType ts (recursive_sequence f)
  recursive_type = record { tagged = λ n. (each_level n).tagged n; lawful = λ n. (each_level n).lawful n; tidy = λ n. (each_level n).tidy n; no_group = λ n. (each_level n).no_group n }

-- another form of the same type
pub value_as : (s t : ℕ → Schema) {v : Value} → ((n : ℕ) → t n ≡ s n) → IsValue s v → IsValue t v
value_as s t {v} e h = record {
  fits = λ n le. rw e (h.fits n le);
  normal = λ n. rw e (h.normal n);
}

-- a component that may be absent
pub part_absent : (s : ℕ → Schema) → IsPart optional s left_out
part_absent s = record { fits = λ n le. refl; normal = λ n. refl }

pub part_there : {ts : List Tag} {s : ℕ → Schema} {v : Value} → IsType ts s → IsValue s v → IsPart optional s (there v)
part_there {ts} {s} {v} t h = part_optional (λ (u : Unit {0}). v) (Some tt) t (λ u. h)
