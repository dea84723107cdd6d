-- The bridge: the records of a value add its canonical bits, and are refused exactly if it has none.
use Rattle.std.specs.Prelude.{◌≡◌, ◌↔◌, ℕ, Bool, List, [], ◌++◌, Option, Some, None, option_map, option_and_then}
use Rattle.asn1_model.specs.Schema.{Schema}
use Rattle.asn1_model.specs.Value.{Value}
use Rattle.asn1_model.specs.Numbers.{packed}
use Rattle.asn1_model.specs.Form.{written}
use Rattle.asn1_model.specs.Per
use Rattle.asn1_model.specs.Rules.{per}
use Rattle.asn1_schema_laws.specs.Records.{Record}
use Rattle.asn1_schema_laws.specs.Presents.{presents}
use Rattle.asn1_schema_laws.specs.Chains.{Chain}
use Rattle.per_codec_packing.specs.FieldLists.{FieldList, as_field_list, plain, field_list_at, as_form}
use Rattle.per_codec_encoder.specs.Steps.{Scope, State, Step, position, runs}

-- The records of a value add its field-list to each state, and whatever follows goes on from there.
abbrev pub BridgesAt : Bool → Schema → Value → Type 0
BridgesAt al s v = (os : FieldList) (k : List Scope) (rest : List Record)
    → runs al (presents s v ++ rest) (os, k) ≡ option_and_then (λ w. runs al rest (os ++ w, k))
    (field_list_at (Per.form al s v) (position (os, k)))

-- They do in both variants.
abbrev pub Bridges : Schema → Type 0
Bridges s = (al : Bool) (v : Value) → BridgesAt al s v

-- They do for every type.
abbrev pub EveryTypeBridges : Type 0
EveryTypeBridges = (s : Schema) → Bridges s

-- The field-list of a value at a known position is that of the definitions, bit by bit. The field-list at an unknown
-- position determines it at each position.
abbrev pub FieldListsAreWritten : Type 0
FieldListsAreWritten = (al : Bool) (s : Schema) (v : Value) (p : ℕ)
    → (field_list_at (Per.form al s v) (Some p) ≡ option_map as_field_list (written (Per.form al s v) p))
    × (written (Per.form al s v) p
    ≡ option_and_then (λ t. written (as_form t) p) (field_list_at (Per.form al s v) None))

-- A chain of steps by the records of a value adds exactly its field-list.
abbrev pub ChainsAddTheFieldLists : Type 0
ChainsAddTheFieldLists = (al : Bool) (s : Schema) (v : Value) (os : FieldList) (k : List Scope) (new : State)
    → Chain (Step al) (presents s v) (os, k) new
    ↔ ((w : FieldList) × (field_list_at (Per.form al s v) (position (os, k)) ≡ Some w) × (new ≡ (os ++ w, k)))

-- The bits of the state after a whole value, padded to octets (X.691 11.1).
abbrev pub octets_of : State → Option (List ℕ)
octets_of s = option_and_then (λ w. option_map packed (written (Per.padded w) 0)) (plain s.0)

-- A message from the records: nothing is held before them.
abbrev pub MessagesAreTheirs : Type 0
MessagesAreTheirs = (al : Bool) (s : Schema) (v : Value)
    → option_and_then octets_of (runs al (presents s v) ([], [])) ≡ per al s v
