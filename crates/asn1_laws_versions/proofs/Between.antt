-- What one version of a type reads of what the other writes.
use Rattle.std.specs.Prelude.{◌≡◌, ℕ, true, List, Some}
use Rattle.asn1_model.specs.Value.{Value}
use Rattle.asn1_model.specs.Schema.{Schema}
use Rattle.asn1_model.specs.Normal.{normal}
use Rattle.asn1_model.specs.Tidy.{is_normal}
use Rattle.asn1_model.specs.Rules.{Rules, canonical, IsEncoding}
use Rattle.asn1_model.specs.Versions.{Extends, drop, grow}

-- What the newer version of a type writes, the older one reads as the value without what the older one lacks.
abbrev pub OlderReads : Rules → Type 0
OlderReads r = (old new : Schema) (v u : Value) (w : List ℕ) → Extends old new → drop old new v ≡ Some u → canonical r new v ≡ Some w → IsEncoding r old u w

-- In the strict rules it does so if the loss has left nothing at its default.
abbrev pub OlderReadsNormal : Rules → Type 0
OlderReadsNormal r = (old new : Schema) (v u : Value) (w : List ℕ) → Extends old new → drop old new v ≡ Some u → is_normal old u ≡ true → canonical r new v ≡ Some w → IsEncoding r old u w

-- What the older version of a type writes, the newer one reads as the same value, with what only the newer one has
-- absent.
abbrev pub NewerReads : Rules → Type 0
NewerReads r = (old new : Schema) (u v : Value) (w : List ℕ) → Extends old new → grow old new (normal old u) ≡ Some v → canonical r old u ≡ Some w → IsEncoding r new v w

abbrev pub NewerReadsNormal : Rules → Type 0
NewerReadsNormal r = (old new : Schema) (u v : Value) (w : List ℕ) → Extends old new → grow old new (normal old u) ≡ Some v → is_normal new v ≡ true → canonical r old u ≡ Some w → IsEncoding r new v w
