-- The integers in recursive types: the type INTEGER without constraints, which is well-formed.
use Rattle.std.specs.Prelude.{ℕ, refl, false, [], ◌∷◌, None}
use Rattle.asn1_schema.specs.Author.{IsType, Schema, integer}
use Rattle.asn1_schema.proofs.Author.{integer_type}

-- INTEGER, at any number of levels.
abbrev pub whole_number : ℕ → Schema
whole_number n = integer (record { range = record { low = None; high = None }; extensible = false })
    (record { low = None; high = None })

pub number_typed : IsType (record { class = 0; number = 2 } ∷ []) whole_number
number_typed = integer_type _ _ refl refl refl
