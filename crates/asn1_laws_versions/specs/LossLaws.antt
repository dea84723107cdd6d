-- Laws of what is lost of a value if the older version of its type reads it.
use Rattle.std.specs.Prelude.{◌≡◌, IsTrue, Some}
use Rattle.asn1_model.specs.Value.{Value, depth}
use Rattle.asn1_model.specs.Schema.{Schema}
use Rattle.asn1_model.specs.Lawful.{IsLawful, is_of}
use Rattle.asn1_model.specs.Normal.{normal}
use Rattle.asn1_model.specs.Versions.{Extends, drop, IsClash}
use Rattle.asn1_laws_versions.specs.Losses.{LeavesDefault, seen_depth}

-- If a value can be reduced to what the older version knows, the result conflicts with the normal form exactly if a
-- component that the older version knows, and that in the normal form is inside nothing the older version lacks, is
-- left at its default. So a group that the loss leaves empty contained such a component.
abbrev pub ClashIsDefaultLeft : Type 0
ClashIsDefaultLeft =
    (old new : Schema) (v w : Value) → IsLawful new → Extends old new → IsTrue (is_of new v) → drop old new v ≡ Some w
    → (IsClash old new v → LeavesDefault old new (normal new v))
    × (LeavesDefault old new (normal new v) → IsClash old new v)

-- If a value can be reduced to what the older version knows, the result has as many nested levels as the normal form,
-- not counting those inside what the older version lacks.
abbrev pub DroppedNestsAsSeen : Type 0
DroppedNestsAsSeen =
    (old new : Schema) (v w : Value) → drop old new v ≡ Some w → depth w ≡ seen_depth old new (normal new v)
