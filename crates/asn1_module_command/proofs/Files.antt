-- What is done with the given streams, or with files in their place.
use Rattle.std.proofs.Common.{◌≡◌, ◌⊎◌, inl, inr, Option, Some}
use Rattle.asn1_relay_command.specs.Runs.{IsUntouched, Known}
use Rattle.asn1_module_command.specs.Runs.{HasFailed, HasStopped, Through}
use Rattle.asn1_module_order.specs.Orders.{Request, request_of}
use Rattle.asn1_module_order.specs.declared.order.Order.{Order}

-- what stops an order stops the line that asks for it
pub stopped : (asked : Option Request) (o : Order) (unread unread' held held' : Known) → asked ≡ Some (request_of o)
    → IsUntouched unread unread' held held' ⊎ Through o (HasFailed o) unread unread' held held' → HasStopped asked unread unread' held held'
stopped asked o unread unread' held held' asks (inl x) = inl x
stopped asked o unread unread' held held' asks (inr x) = inr (record { order = o; asks = asks; holds = x })
