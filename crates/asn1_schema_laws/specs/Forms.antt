-- SEQUENCE and SEQUENCE OF, whose parts are in order, and SET and SET OF, whose parts are in any order.
use Rattle.std.specs.Prelude.{ℕ, Bool}
use Rattle.asn1_model.specs.Schema.{Schema, set}
use Rattle.asn1_schema_laws.specs.Records.{Record, Question, sequence_begins, set_begins, asks_sequence, asks_set}
use Rattle.asn1_schema_laws.specs.Tables.{Table, scope, components_at, sequence_type}

-- Which type has the components or elements.
pub data Form : Type 0 where
  -- SEQUENCE (X.680 25) or SEQUENCE OF (X.680 26)
  sequence_form : Form
  -- SET (X.680 27) or SET OF (X.680 28)
  set_form : Form

-- The type of these components, in their order.
abbrev pub constructed_type : Form → Table → ℕ → Schema
constructed_type sequence_form t n = sequence_type t n
constructed_type set_form t n = scope n (λ m. set (components_at m t.root) t.extensible (components_at m t.additions))

-- The record with which it begins, and the question of a decoder for it.
abbrev pub begins : Form → Bool → ℕ → Record
begins sequence_form e n = sequence_begins e n
begins set_form e n = set_begins e n

abbrev pub asks : Form → Bool → ℕ → Question
asks sequence_form e n = asks_sequence e n
asks set_form e n = asks_set e n
