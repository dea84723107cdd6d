-- What a check of a message does with its reader and its writer.
use Rattle.std.specs.Prelude.{◌≡◌, ◌≢◌, ℕ, List, [], ◌∷◌, ◌++◌, Option, Some, None, codes, slice_get, take}
use Rattle.std.specs.Io.KnownBytes.{Appends, Keeps}
use Rattle.asn1_model.specs.Schema.{Schema}
use Rattle.asn1_relay_command.specs.Runs.{BecomesAs, IsRefusedAs, Known}
use Rattle.asn1_relay_command.specs.declared.fault.Fault.TheVariants as fault
use Rattle.asn1_relay_core.specs.Ends.{BeginsToAppend}
use Rattle.asn1_relay_core.specs.Recoding.{answered}
use Rattle.asn1_relay_core.specs.declared.codec.Codec.{Codec}
use Rattle.asn1_module_command.specs.Digits.{IsReadIn, StopsFromReading}
use Rattle.asn1_module_command.specs.declared.errors.CommandError.{CommandError}
use Rattle.asn1_module_command.specs.declared.errors.CommandError.TheVariants as error
use Rattle.asn1_module_order.specs.declared.order.Check.{Check}

-- in its own rules a message becomes itself: it is the canonical encoding of its value
abbrev pub IsCanonical : Schema → Codec → List ℕ → Type 0
IsCanonical s rules message = BecomesAs s rules rules message (answered message)

-- it becomes other octets, which differ from this one on
pub record DiffersFrom (s : Schema) (rules : Codec) (message : List ℕ) (i : ℕ) : Type 0 where
  pub canonical : List ℕ
  pub becomes : BecomesAs s rules rules message (answered canonical)
  pub before : take i message ≡ take i canonical
  pub differs : slice_get message i ≢ slice_get canonical i

-- the octet from which on a message is not canonical, if that is the error
abbrev pub difference_in : CommandError → Option ℕ
difference_in (error.NotCanonical i) = Some i
difference_in (error.NotStrict i refused) = Some i
difference_in e = None

-- why a message is not canonical: it is no encoding, or its value has no canonical one, or it differs from it
abbrev pub IsNotCanonical : Schema → Codec → List ℕ → CommandError → Type 0
IsNotCanonical s rules message (error.NotCanonical i) = DiffersFrom s rules message i
IsNotCanonical s rules message (error.NotStrict i refused) = DiffersFrom s rules message i
IsNotCanonical s rules message (error.Fault f) = IsRefusedAs s rules rules message f
IsNotCanonical s rules message (error.Located f place) = IsRefusedAs s rules rules message f
IsNotCanonical s rules message e = ⊥

-- what the program says of a canonical message
abbrev pub canonical_line : List ℕ
canonical_line = codes "canonical" ++ (10 ∷ [])

-- a message is canonical, and that was said
pub record IsSaid (s : Schema) (rules : Codec) (message : List ℕ) (held held' : Known) : Type 0 where
  pub canonical : IsCanonical s rules message
  pub said : Appends held held' canonical_line

-- an error stops this: the writer failed, or the message is not canonical, and nothing was said
abbrev pub StopsSaying : Schema → Codec → List ℕ → Known → Known → CommandError → Type 0
StopsSaying s rules message held held' (error.Fault fault.WriteFailed) =
    IsCanonical s rules message × BeginsToAppend held held' canonical_line
StopsSaying s rules message held held' e = IsNotCanonical s rules message e × Keeps held held'

-- what was requested is done: everything was read, as octets or as their digits, which is a canonical message, and that
-- was said
pub record HasChecked (c : Check) (s : Schema) (unread unread' held held' : Known) : Type 0 where
  pub message : List ℕ
  pub read : IsReadIn c.is_hexadecimal unread unread' message
  pub said : IsSaid s c.rules message held held'

-- an error stops the reading, with nothing said, or what is said of the message
abbrev pub StopsChecking : Check → Schema → Known → Known → Known → Known → CommandError → Type 0
StopsChecking c s unread unread' held held' e =
    StopsFromReading c.is_hexadecimal (StopsSaying s c.rules) unread unread' held held' e
