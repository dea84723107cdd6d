-- What a run did that translated one message.
use Rattle.std.proofs.Common.{OnOk, IfErr, MatchResult, ◌≡◌, ℕ, List, Option, Result, Ok, Err, sym, subst}
use Rattle.std.specs.Io.KnownBytes.{Appends}
use Rattle.asn1_relay_core.specs.Ends.{BeginsToAppend}
use Rattle.asn1_relay_command.specs.Runs.{IsCutOff, HasWritten}
use Rattle.asn1_relay_command.specs.declared.fault.Fault.{Fault}
use Rattle.asn1_relay_command.specs.declared.fault.Fault.TheVariants as fault

pub answer_written : {A : Type 0} (IsRight : List ℕ → Type 0) (Stops : Fault → Type 0) (held held' : Option (List ℕ)) (octets : List ℕ) (r : Result A Fault) → IsRight octets
    → OnOk r (Appends held held' octets) → IfErr r (λ f. f ≡ fault.WriteFailed) → BeginsToAppend held held' octets → (IsCutOff IsRight held held' → Stops fault.WriteFailed)
    → MatchResult r (λ _. HasWritten IsRight held held') Stops
answer_written IsRight Stops held held' octets (Ok x) right ok failed begun stops = record { octets = octets; right = right; wrote = ok }
answer_written IsRight Stops held held' octets (Err f) right ok failed begun stops = subst Stops (sym failed) (stops (record { octets = octets; right = right; began = begun }))
