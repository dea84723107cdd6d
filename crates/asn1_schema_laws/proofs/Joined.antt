-- How the records of components are put together, for encoders and decoders.
use Rattle.std.proofs.Common.{◌≡◌, ℕ, Bool, true, false, cond, List, [], ◌∷◌, ◌++◌, append-nil, refl, subst, sym, ◌∙◌, ap, Result, Ok, Err}
use Rattle.std.specs.Result.{IfErr, IsErrAnd}
use Rattle.asn1_model.specs.Value.{Value, Parts, same}
use Rattle.asn1_model.specs.Schema.{Tag, Presence, required, optional, by_default, Schema}
use Rattle.asn1_model.specs.Normal.{is_at_default, is_group_left_out}
use Rattle.asn1_model.specs.Normal.{is_required}
use Rattle.asn1_schema_laws.specs.Records.{presence_bit}
use Rattle.asn1_schema_laws.specs.Presents.{Part, left_out, there, with_part, presents, part_records, noted, root_records, optional_count, Fits, PartFits, PartsFit}
use Rattle.asn1_schema_laws.specs.Tables.{Fields, no_field, field, Table, with_field, components_at, optional_field_count, IsValue}
use Rattle.asn1_schema_laws.specs.Parts.{tail_records, TailFits}

-- what a `?` passes on
pub raised : {T E : Type 0} (P : E → Type 0) (x : E) (r : Result T E) → IsErrAnd r (λ y. y ≡ x) → P x → IfErr r P
raised P x (Ok v) h p = tt
raised P x (Err y) h p = subst P (sym h) p

-- whether a component is present
abbrev pub is_there : Part → Bool
is_there left_out = false
is_there (there v) = true

pub optional_fields_at : (n : ℕ) (fs : Fields) → optional_count (components_at n fs) ≡ optional_field_count fs
unfolding components_at
optional_fields_at n no_field = refl
optional_fields_at n (field ts o s fs) = rw (optional_fields_at n fs) refl

-- nothing is noted after what the normal form keeps
pub nothing_noted : (o : Presence) (s : Schema) (v : Value) → is_group_left_out s v ≡ false → is_at_default o s v ≡ false → noted o s v ≡ []
nothing_noted o s v g d = rw (d, g) refl

-- a component before the others
pub tail_field : (n : ℕ) (ts : List Tag) (o : Presence) (s : ℕ → Schema) (t : Table) (x : Part) (ps qs : Parts) →
    tail_records n (with_field ts o s t) (with_part x ps) qs ≡ part_records (λ v. presents (s n) v) o (s n) x ++ tail_records n t ps qs
unfolding components_at root_records
tail_field n ts o s t left_out ps qs = refl
tail_field n ts o s t (there v) ps qs = refl

pub tail_fits : (n : ℕ) (ts : List Tag) (o : Presence) (s : ℕ → Schema) (t : Table) (x : Part) (ps qs : Parts) →
    TailFits n (with_field ts o s t) (with_part x ps) qs → PartFits (λ v. Fits (s n) v) o x × TailFits n t ps qs
unfolding components_at PartsFit
tail_fits n ts o s t left_out ps qs f = (f.0.0, (f.0.1, f.1))
tail_fits n ts o s t (there v) ps qs f = (f.0.0, (f.0.1, f.1))

-- a component that is present and has nothing noted after it
pub there_records : (o : Presence) (s : Schema) (v : Value) → noted o s v ≡ [] → part_records (λ w. presents s w) o s (there v) ≡ cond (is_required o) (presents s v) (presence_bit true ∷ presents s v)
there_records required s v e = rw e (append-nil (presents s v))
there_records optional s v e = rw e (ap (λ rs. presence_bit true ∷ rs) (append-nil (presents s v)))
there_records (by_default d) s v e = rw e (ap (λ rs. presence_bit true ∷ rs) (append-nil (presents s v)))

-- a value after its extension marker
pub present_records : (o : Presence) (s : Schema) (v : Value) → is_required o ≡ false → noted o s v ≡ [] → part_records (λ w. presents s w) o s (there v) ≡ presence_bit true ∷ presents s v
present_records o s v r e = there_records o s v e ∙ rw r refl

-- a value that is not equal to its default
pub not_default : {s : ℕ → Schema} {v d : Value} → IsValue s v → IsValue s d → same v d ≡ false → (n : ℕ) → is_at_default (by_default d) (s n) v ≡ false
not_default h k e n = rw (h.normal n, k.normal n) e
