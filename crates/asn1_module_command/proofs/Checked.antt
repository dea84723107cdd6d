-- What a check does with its input, of what it says of the octets that were read.
use Rattle.std.proofs.Common.{◌≡◌, inr, ℕ, List, MatchResult, Result, Ok, Err, subst}
use Rattle.asn1_model.specs.Schema.{Schema}
use Rattle.asn1_relay_command.specs.Runs.{Known}
use Rattle.asn1_module_command.specs.Checks.{HasChecked, IsSaid, StopsChecking, StopsSaying}
use Rattle.asn1_module_command.specs.Digits.{IsReadIn}
use Rattle.asn1_module_command.specs.declared.errors.CommandError.{CommandError}
use Rattle.asn1_module_order.specs.declared.order.Check.{Check}

pub checked : (s : Schema) (check : Check) (lent message : List ℕ) (unread unread' held held' : Known) → lent ≡ message → IsReadIn check.is_hexadecimal unread unread' message →
    {T : Type 0} (r : Result T CommandError) → MatchResult r (λ _. IsSaid s check.rules lent held held') (StopsSaying s check.rules lent held held') →
    MatchResult r (λ _. HasChecked check s unread unread' held held') (StopsChecking check s unread unread' held held')
checked s check lent message unread unread' held held' same read (Ok x) said =
    record { message = message; read = read; said = subst (λ m. IsSaid s check.rules m held held') same said }
checked s check lent message unread unread' held held' same read (Err e) stops =
    inr (record { message = message; read = read; stops = subst (λ m. StopsSaying s check.rules m held held' e) same stops })
