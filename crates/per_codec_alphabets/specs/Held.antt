-- What an effective permitted alphabet stores.
use Rattle.std.specs.Prelude.{◌≡◌, ◌<◌, ◌≤◌, ◌^◌, ℕ, Bool, ltb, List, Option}
use Rattle.asn1_model.specs.Schema.{StringKind}
use Rattle.asn1_model.specs.Strings.{Run, how_many, largest, permitted}
use Rattle.asn1_schema_constraints.specs.Terms.{alphabet_of}
use Rattle.asn1_schema_constraints.specs.declared.extensions.Extensible.{Extensible}
use Rattle.asn1_schema_constraints.specs.declared.extensions.PermittedAlphabet.{PermittedAlphabet}
use Rattle.per_codec_alphabets.specs.Codes.{runs_of}
use Rattle.per_codec_alphabets.specs.declared.alphabet.Runs.{Runs}
use Rattle.per_codec_alphabets.specs.declared.alphabet.Runs.TheVariants.{Own, Single, InPlace, Apart}

-- The runs, of a type or under a constraint.
abbrev pub held_runs : Runs → List Run
held_runs (Own rs) = runs_of rs.now
held_runs (Single rs) = runs_of rs
held_runs (InPlace rs) = runs_of rs
held_runs (Apart rs) = runs_of rs.items

-- The characters that a constraint leaves in a kind of string (X.680 51.7).
abbrev pub permitted_by : StringKind → Option (Extensible PermittedAlphabet) → List Run
permitted_by k constraint = permitted k (alphabet_of constraint)

-- Runs of fewer than 2 to the 64 characters, and codes of at most 64 bits.
pub record IsCoded (runs : List Run) (code_bits : ℕ) (is_by_number : Bool) : Type 0 where
  pub few : how_many runs < 2 ^ 64
  pub narrow : code_bits ≤ 64
  pub by_number : is_by_number ≡ ltb (largest runs) (2 ^ code_bits)
