-- What the steps of a builder keep.
use Rattle.std.specs.Prelude.{◌≡◌}
use Rattle.asn1_table_building.specs.declared.pushing.TapeBuilder.{TapeBuilder}

-- The builder is still one of a value of the same type of the same table.
abbrev pub IsSameType : TapeBuilder → TapeBuilder → Type 0
IsSameType old new = (new.types ≡ old.types) × (new.place ≡ old.place)
