-- How much more input, in octets or bits, a failed decoder needs at least: laws of the states of a decoder.
use Rattle.std.specs.Prelude.{◌≡◌, ℕ, Bool, true, false, ◌++◌}
use Rattle.asn1_model.specs.Value.{Value, Values}
use Rattle.asn1_model.specs.Schema.{Size, Counts, Schema}
use Rattle.asn1_model.specs.Lawful.{IsLawful}
use Rattle.asn1_schema_laws.specs.Records.{Record, list_begins, bag_begins, further}
use Rattle.asn1_schema_laws.specs.Presents.{presents, member_records, Fits}
use Rattle.asn1_schema_laws.specs.Chains.{Chain}

-- Whether the number of elements of SEQUENCE OF and SET OF that are still to come stays the same across a record.
abbrev pub keeps_members : Record → Bool
keeps_members (list_begins z h n) = false
keeps_members (bag_begins z h n) = false
keeps_members (further v) = false
keeps_members r = true

-- `few old failed a` says that a is old with more input appended, but less than the decoder in the state failed needs
-- at least. By this law a record that is next in old is next in a too, and the same holds for the states after it.
abbrev pub CarriesRecords : {S : Type 0} → (S → Record → S → Type 0) → (S → S → S → Type 0) → Type 0
CarriesRecords {S} step few = (r : Record) (a b failed c : S) → keeps_members r ≡ true → step a r b → few a failed c
    → (d : S) × step c r d × few b failed d

-- The same for all the records of a value.
abbrev pub CarriesValues : {S : Type 0} → (S → Record → S → Type 0) → (S → S → S → Type 0) → Type 0
CarriesValues {S} step few = (s : Schema) (v : Value) (a b failed c : S) → Chain step (presents s v) a b
    → few a failed c → (d : S) × Chain step (presents s v) c d × few b failed d

-- `few` is as above. `within old failed a` says the same inside a SEQUENCE OF or SET OF, for which the failed decoder
-- needs at least one octet or bit more for each element that is still to come.
pub record CarriesMembers {S : Type 0} (step : S → Record → S → Type 0) (few within : S → S → S → Type 0) : Type 0
  where
    -- the start of a SEQUENCE OF or SET OF
    pub list : (z : Size) (h : Counts) (n : ℕ) (a b failed c : S) → step a (list_begins z h n) b → few a failed c
        → (d : S) × step c (list_begins z h n) d × within b failed d
    pub bag : (z : Size) (h : Counts) (n : ℕ) (a b failed c : S) → step a (bag_begins z h n) b → few a failed c
        → (d : S) × step c (bag_begins z h n) d × within b failed d
    -- one more element, and its value
    pub coming : (a b failed c : S) → step a (further true) b → within a failed c → (d : S) × step c (further true) d
    pub member : (s : Schema) (v : Value) (a m b failed c : S) → step a (further true) m → Chain step (presents s v) m b
        → within a failed c
        → (d : S) × (e : S) × step c (further true) d × Chain step (presents s v) d e × within b failed e
    -- no more elements
    pub last : (a b failed c : S) → step a (further false) b → within a failed c
        → (d : S) × step c (further false) d × few b failed d
    -- if the input ends before it says whether there is one more element
    pub asked : (a failed : S) → ((c : S) → few a failed c → (v : Bool) (d : S) → step c (further v) d → ⊥)
        → (c : S) → within a failed c → (v : Bool) (d : S) → step c (further v) d → ⊥
    -- if the input ends within an element, it lacks the elements after that too
    pub stuck : (s : Schema) → IsLawful s → (a b failed : S) → step a (further true) b
        → ((c : S) → few b failed c → (v : Value) (d : S) → Fits s v → Chain step (presents s v) c d → ⊥)
        → (c d : S) → within a failed c → step c (further true) d → (v : Value) (vs : Values) (e : S) → Fits s v
        → Chain step (presents s v ++ member_records (λ w. presents s w) vs) d e → ⊥

-- No more input than the failed decoder had: the weakest statement that a decoder can make.
abbrev pub AtOnce : {S : Type 0} → S → S → S → Type 0
AtOnce old failed a = a ≡ old

-- A decoder can make this statement if at most one record is next in each state.
abbrev pub CarriesAtOnce : {S : Type 0} → (S → Record → S → Type 0) → Type 0
CarriesAtOnce step = CarriesRecords step AtOnce × CarriesValues step AtOnce × CarriesMembers step AtOnce AtOnce
