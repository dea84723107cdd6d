-- Of which value events are the records.
use Rattle.std.specs.Prelude.{◌≡◌, true, false, List, [], map}
use Rattle.asn1_model.specs.Value.{Value}
use Rattle.asn1_model.specs.Schema.{Schema}
use Rattle.asn1_model.specs.Lawful.{is_of}
use Rattle.asn1_schema_errors.specs.declared.CodecKind.TheVariants.{Oer}
use Rattle.asn1_schema_laws.specs.Chains.{Chain}
use Rattle.asn1_schema_laws.specs.Presents.{presents, Fits}
use Rattle.asn1_schema_laws.specs.Tables.{IsValue}
use Rattle.asn1_schema_records.specs.Kept.{kept}
use Rattle.asn1_schema_records.specs.Taken.{Left, Takes}
use Rattle.asn1_table_building.specs.declared.errors.BuildError.{BuildError}
use Rattle.asn1_table_building.specs.declared.errors.BuildError.TheVariants.{OutOfMemory}
use Rattle.asn1_table_tape.specs.Records.{records_of}
use Rattle.asn1_table_tape.specs.declared.tape.Event.{Event}
use Rattle.asn1_table_nodes.specs.declared.nodes.TypeNode.{TypeNode}

-- A decoder of the records of some events, as the plain codec keeps them, that has taken none: it finds a number with
-- its bounds, a string with its size and an item by its number, at most 128 nested levels, and any count of elements
-- for a list.
abbrev pub begun : List TypeNode → List Event → Left
begun ns es = record { records = map kept (records_of ns es); levels = 128; most = 128; failed = false; rules = Oer }

-- Events are the records of a value of this form: such a decoder reads them, and none is left.
pub record AreOf (ns : List TypeNode) (s : Schema) (es : List Event) (v : Value) : Type 0 where
  pub fits : Fits s v
  pub after : Left
  pub read : Chain Takes (presents s v) (begun ns es) after
  pub none_left : after.records ≡ []

-- A tape lists the records of a value of the type (X.680), in normal form.
pub record IsTapeOf (ns : List TypeNode) (s : Schema) (tape : List Event) : Type 0 where
  pub value : Value
  pub is_value : IsValue (λ _. s) value
  pub is_of_type : is_of s value ≡ true
  pub kept : records_of ns tape ≡ presents s value

-- The value of such a tape has these events as its records.
pub record IsBuilt (ns : List TypeNode) (s : Schema) (es tape : List Event) : Type 0 where
  pub built : IsTapeOf ns s tape
  pub given : AreOf ns s es built.value

-- Why no tape is built: memory ran out, or the events are the records of no value of the type.
pub record NotBuilt (ns : List TypeNode) (s : Schema) (es : List Event) (x : BuildError) : Type 0 where
  pub none : ¬ (x ≡ OutOfMemory) → (v : Value) → AreOf ns s es v → is_of s v ≡ true → ⊥
