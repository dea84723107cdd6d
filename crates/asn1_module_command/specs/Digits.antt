-- Octets as hexadecimal digits, in the input and in the output.
use Rattle.std.specs.Prelude.{◌≡◌, ◌≢◌, ◌⊎◌, ℕ, List, Bool, [], ◌∷◌, ◌++◌, Ok, Some, false, filter, not, true}
use Rattle.std.specs.Char.{is_ascii_whitespace}
use Rattle.std.specs.Io.KnownBytes.{Appends, Keeps}
use Rattle.hex.specs.Hex.{decode_of, encode_upper}
use Rattle.asn1_relay_command.specs.Runs.{IsAllRead, Known}
use Rattle.asn1_relay_command.specs.declared.fault.Fault.TheVariants as fault
use Rattle.asn1_relay_core.specs.Ends.{BeginsToAppend}
use Rattle.asn1_module_command.specs.declared.errors.CommandError.{CommandError}
use Rattle.asn1_module_command.specs.declared.errors.CommandError.TheVariants as error

-- a text is the pairs of digits of octets, with white space anywhere
abbrev pub AreDigitsOf : List ℕ → List ℕ → Type 0
AreDigitsOf text octets = decode_of (filter (λ c. not (is_ascii_whitespace c)) text) ≡ Ok octets

-- a text is the digits of no octets
abbrev pub AreNoDigits : List ℕ → Type 0
AreNoDigits text = (octets : List ℕ) → AreDigitsOf text octets → ⊥

-- the line of the digits of octets
abbrev pub digit_line : List ℕ → List ℕ
digit_line octets = encode_upper octets ++ (10 ∷ [])

-- everything was read, which is a text of the digits of these octets
pub record AreReadAsDigits (unread unread' : Known) (octets : List ℕ) : Type 0 where
  pub text : List ℕ
  pub read : IsAllRead unread unread' text
  pub digits : AreDigitsOf text octets

-- everything was read, which is these octets, or a text of their digits
abbrev pub IsReadIn : Bool → Known → Known → List ℕ → Type 0
IsReadIn false unread unread' octets = IsAllRead unread unread' octets
IsReadIn true unread unread' octets = AreReadAsDigits unread unread' octets

-- these octets were written, or the line of their digits
abbrev pub IsWrittenIn : Bool → Known → Known → List ℕ → Type 0
IsWrittenIn false held held' octets = Appends held held' octets
IsWrittenIn true held held' octets = Appends held held' (digit_line octets)

-- this was done with octets in the place of the line of their digits, which was written
pub record WritesDigits (Does : Known → Known → Known → Known → Type 0) (unread unread' held held' : Known)
    : Type 0 where
  pub octets : List ℕ
  pub does : Does unread unread' (Some []) (Some octets)
  pub wrote : Appends held held' (digit_line octets)

-- this was done with octets in the place of a text of their digits, which was read
pub record TakesDigits (Does : Known → Known → Known → Known → Type 0) (unread unread' held held' : Known)
    : Type 0 where
  pub message : List ℕ
  pub read : AreReadAsDigits unread unread' message
  pub rest : Known
  pub does : Does (Some message) rest held held'

-- ---- errors

-- an error stops the decoding of a text: memory ran out, or it is the digits of no octets
abbrev pub StopsDecoding : List ℕ → CommandError → Type 0
StopsDecoding text (error.Fault fault.OutOfMemory) = Unit {0}
StopsDecoding text error.NotHexadecimal = AreNoDigits text
StopsDecoding text e = ⊥

-- everything was read, which is a text of the digits of no octets
pub record IsMisread (unread unread' : Known) : Type 0 where
  pub text : List ℕ
  pub read : IsAllRead unread unread' text
  pub no_digits : AreNoDigits text

-- an error stops the reading of octets, or of a text of their digits: the reader failed, memory ran out, or everything
-- was read and is no such text
abbrev pub StopsReading : Bool → Known → Known → CommandError → Type 0
StopsReading in_digits unread unread' (error.Fault fault.ReadFailed) = Unit {0}
StopsReading in_digits unread unread' (error.Fault fault.OutOfMemory) = Unit {0}
StopsReading true unread unread' error.NotHexadecimal = IsMisread unread unread'
StopsReading in_digits unread unread' e = ⊥

-- an error stops the writing of octets, or of the line of their digits: the writer failed, or there was no memory for
-- the line, of which nothing was written
abbrev pub StopsWriting : Bool → Known → Known → List ℕ → CommandError → Type 0
StopsWriting false held held' octets (error.Fault fault.WriteFailed) = BeginsToAppend held held' octets
StopsWriting true held held' octets (error.Fault fault.WriteFailed) = BeginsToAppend held held' (digit_line octets)
StopsWriting true held held' octets (error.Fault fault.OutOfMemory) = Keeps held held'
StopsWriting in_digits held held' octets e = ⊥

-- everything was read, as octets or as their digits, and an error stops what is done with them
pub record StopsAfterAll (in_digits : Bool) (Stops : List ℕ → Known → Known → CommandError → Type 0)
    (unread unread' held held' : Known) (e : CommandError) : Type 0 where
  pub message : List ℕ
  pub read : IsReadIn in_digits unread unread' message
  pub stops : Stops message held held' e

-- an error stops the reading, with nothing written, or what is done with what was read
abbrev pub StopsFromReading : Bool → (List ℕ → Known → Known → CommandError → Type 0) → Known → Known → Known → Known
    → CommandError → Type 0
StopsFromReading in_digits Stops unread unread' held held' e =
    (StopsReading in_digits unread unread' e × Keeps held held')
    ⊎ StopsAfterAll in_digits Stops unread unread' held held' e

-- octets, if there are any, were written as the line of their digits
abbrev pub AreWrittenAsDigits : Known → Known → List ℕ → Type 0
AreWrittenAsDigits held held' [] = Keeps held held'
AreWrittenAsDigits held held' (first ∷ rest) = Appends held held' (digit_line (first ∷ rest))

-- an error stops what is done with octets in the place of the line of their digits, and those before it were written
pub record StopsBeforeLine (Stops : Known → Known → Known → Known → CommandError → Type 0)
    (unread unread' held held' : Known) (e : CommandError) : Type 0 where
  pub octets : List ℕ
  pub stops : Stops unread unread' (Some []) (Some octets) e
  pub wrote : AreWrittenAsDigits held held' octets

-- some error stops this, after at least one octet
pub record LeavesSome (Stops : Known → Known → Known → Known → CommandError → Type 0) (unread unread' : Known)
    (octets : List ℕ) : Type 0 where
  pub some : octets ≢ []
  pub reason : CommandError
  pub stops : Stops unread unread' (Some []) (Some octets) reason

-- all was done with octets in the place of the line of their digits, or some error stopped it, and an error stops that
-- line
pub record StopsInLine (Does : Known → Known → Known → Known → Type 0)
    (Stops : Known → Known → Known → Known → CommandError → Type 0) (unread unread' held held' : Known)
    (e : CommandError) : Type 0 where
  pub octets : List ℕ
  pub made : Does unread unread' (Some []) (Some octets) ⊎ LeavesSome Stops unread unread' octets
  pub stops : StopsWriting true held held' octets e

-- an error stops what is done with octets in the place of the line of their digits, or the line
abbrev pub StopsDigits : (Known → Known → Known → Known → Type 0)
    → (Known → Known → Known → Known → CommandError → Type 0) → Known → Known → Known → Known → CommandError → Type 0
StopsDigits Does Stops unread unread' held held' e =
    StopsBeforeLine Stops unread unread' held held' e ⊎ StopsInLine Does Stops unread unread' held held' e

-- an error stops this, with these octets in the place of the input
pub record StopsOnOctets (Stops : Known → Known → Known → Known → CommandError → Type 0) (message : List ℕ)
    (held held' : Known) (e : CommandError) : Type 0 where
  pub rest : Known
  pub stops : Stops (Some message) rest held held' e
