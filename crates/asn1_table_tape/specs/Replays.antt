-- Which records of a tape are written, and why they are not.
use Rattle.std.specs.Prelude.{◌≡◌, List}
use Rattle.asn1_schema_errors.specs.declared.EncodeError.{EncodeError}
use Rattle.asn1_schema_errors.specs.declared.EncodeError.TheVariants.{OutOfMemory}
use Rattle.asn1_schema_laws.specs.Records.{Record}
use Rattle.asn1_schema_laws.specs.Chains.{Chain}
use Rattle.asn1_table_nodes.specs.declared.nodes.TypeNode.{TypeNode}
use Rattle.asn1_table_tape.specs.Records.{records_of}
use Rattle.asn1_table_tape.specs.declared.tape.Event.{Event}

-- Memory ran out, or no state follows the records.
pub record CannotChain {S : Type 0} (step : S → Record → S → Type 0) (rs : List Record) (old : S) (x : EncodeError) :
    Type 0 where
  pub none : ¬ (x ≡ OutOfMemory) → (new : S) → Chain step rs old new → ⊥

-- Those before the rest are written: what completes the rest completes all, and all are next only where the rest is.
pub record Replayed {S : Type 0} (step : S → Record → S → Type 0) (ns : List TypeNode) (all rest : List Event)
    (old new : S) : Type 0 where
  pub done : (c : S) → Chain step (records_of ns rest) new c → Chain step (records_of ns all) old c
  pub left : (c : S) → Chain step (records_of ns all) old c → Chain step (records_of ns rest) new c
