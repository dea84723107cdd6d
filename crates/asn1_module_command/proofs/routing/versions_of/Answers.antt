use Rattle.std.proofs.Common.{ℕ, ap₂}
use Rattle.asn1_table_nodes.specs.Meaning.{type_at}
use Rattle.asn1_table_types.specs.declared.tables.Types.{Types}
use Rattle.asn1_module_command.proofs.routing.versions_of.Goals as goal

pub returns-in-Ok-clause-older : goal.returns-in-Ok-clause-older
returns-in-Ok-clause-older c = ap₂ (λ (t : Types) (place : ℕ). type_at t.nodes.items 128 place) c.in-Ok.ensures.older c.in-Ok.ensures.old_place

pub returns-in-Ok-clause-newer : goal.returns-in-Ok-clause-newer
returns-in-Ok-clause-newer c = ap₂ (λ (t : Types) (place : ℕ). type_at t.nodes.items 128 place) c.in-Ok.ensures.newer c.in-Ok.ensures.new_place
