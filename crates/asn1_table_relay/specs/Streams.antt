-- What a relay of messages of a type of a table holds.
use Rattle.std.specs.Prelude.{ℕ, List}
use Rattle.asn1_relay_core.specs.Relaying.{Relaying}
use Rattle.asn1_table_nodes.specs.declared.nodes.TypeNode.{TypeNode}

-- The types of the table, the index of the type, and what any relay holds.
pub record TableRelaying : Type 0 where
  pub nodes : List TypeNode
  pub place : ℕ
  pub relaying : Relaying
