-- What holds of the type of a table holds of the type of some table.
use Rattle.std.proofs.Common.{MatchResult, Result, Ok, Err}
use Rattle.asn1_model.specs.Schema.{Schema}
use Rattle.asn1_notation_types.specs.declared.tables.Table.{Table}
use Rattle.asn1_relay_command.specs.Runs.{Known}
use Rattle.asn1_module_order.specs.declared.order.Route.{Route}
use Rattle.asn1_module_command.specs.Runs.{HasRouted, OfType, OfTypes, StopsOnRoute, StopsSending, schema_in}
use Rattle.asn1_module_command.specs.declared.errors.CommandError.{CommandError}
use Rattle.asn1_module_command.specs.declared.errors.Stop.{Stop}
use Rattle.asn1_module_command.specs.declared.errors.Stop.TheVariants as stop

pub of_type : (table : Table) (Done : Schema → Type 0) (Stops : CommandError → Schema → Type 0) {T : Type 0} (r : Result T CommandError) → MatchResult r (λ _. Done (schema_in table)) (λ e. Stops e (schema_in table))
    → MatchResult r (λ _. OfType Done) (λ e. OfType (Stops e))
of_type table Done Stops (Ok x) holds = record { table = table; holds = holds }
of_type table Done Stops (Err e) holds = record { table = table; holds = holds }

-- the same of two tables
pub of_types : (older newer : Table) (r : Route) (unread unread' held held' : Known) {T : Type 0} (result : Result T Stop)
    → MatchResult result (λ _. HasRouted r (schema_in older) (schema_in newer) unread unread' held held')
    (StopsSending r (schema_in older) (schema_in newer) unread unread' held held')
    → MatchResult result (λ _. OfTypes (λ old new. HasRouted r old new unread unread' held held')) (StopsOnRoute r unread unread' held held')
of_types older newer r unread unread' held held' (Ok x) holds = record { older = older; newer = newer; holds = holds }
of_types older newer r unread unread' held held' (Err (stop.Module e)) holds = holds.1
of_types older newer r unread unread' held held' (Err (stop.Command e)) holds = record { older = older; newer = newer; holds = holds }
