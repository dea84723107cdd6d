-- How the state of a codec changes.
use Rattle.std.specs.Prelude.{◌≡◌, List, [], ◌∷◌}
use Rattle.asn1_schema_laws.specs.Records.{Record, question, told}

-- The state changes from old to new by these records, one after another.
abbrev pub Chain : {S : Type 0} → (S → Record → S → Type 0) → List Record → S → S → Type 0
Chain step [] old new = new ≡ old
Chain step (r ∷ rs) old new = (mid : _) × step old r mid × Chain step rs mid new

-- A law of encoders: at most one state follows a record.
abbrev pub OneAfter : {S : Type 0} → (S → Record → S → Type 0) → Type 0
OneAfter {S} step = (a : S) (r : Record) (b c : S) → step a r b → step a r c → b ≡ c

-- A law of decoders: of the records that answer a question, at most one comes next, apart from what `told` omits, and
-- one state follows it.
abbrev pub OneRecord : {S : Type 0} → (S → Record → S → Type 0) → Type 0
OneRecord {S} step = (a : S) (r s : Record) (b c : S) → question r ≡ question s → step a r b → step a s c
    → (told r ≡ told s) × (b ≡ c)

-- A law of both: a state that follows a record has not failed.
abbrev pub GoesOn : {S : Type 0} → (S → Record → S → Type 0) → (S → Type 0) → Type 0
GoesOn {S} step has_failed = (a : S) (r : Record) (b : S) → step a r b → has_failed b → ⊥
