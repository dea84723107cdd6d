-- What is said of a message.
use Rattle.std.specs.Prelude.{◌≡◌, ◌-◌, ℕ, List, length}
use Rattle.asn1_model.specs.Rules.{Rules}
use Rattle.asn1_model.specs.Schema.{Schema}
use Rattle.asn1_schema_laws.specs.Records.{Record}
use Rattle.asn1_table_walker.specs.Fronts.{TellsOnto}
use Rattle.asn1_table_locating.specs.declared.locating.Located.{Located}
use Rattle.asn1_table_locating.specs.declared.locating.Located.TheVariants as located
use Rattle.asn1_table_locating.specs.declared.locating.Refused.{Refused}

-- The octets before this index are a message of a value of the type.
pub record EndsAt (r : Rules) (s : Schema) (input : List ℕ) (end : ℕ) : Type 0 where
  pub records : List Record
  pub rest : List ℕ
  pub told : TellsOnto r s records input rest
  pub ends : end ≡ length input - length rest

-- What holds of the end of a message that is read.
abbrev pub IfRead : Located → (ℕ → Type 0) → Type 0
IfRead (located.Read n) p = p n
IfRead (located.Refused r) p = Unit {0}

-- What holds of a refusal.
abbrev pub IfRefused : Located → (Refused → Type 0) → Type 0
IfRefused (located.Read n) p = Unit {0}
IfRefused (located.Refused r) p = p r
