-- A state that has failed after an addition was read had failed before it.
use Rattle.std.proofs.Common.{ℕ}
use Rattle.asn1_model.specs.Schema.{Presence, Schema}
use Rattle.asn1_schema_laws.specs.Records.{Record}
use Rattle.asn1_schema_laws.specs.Presents.{Part}
use Rattle.asn1_schema_laws.specs.Chains.{GoesOn}
use Rattle.asn1_schema_laws.proofs.Chains.{failed_before}
use Rattle.asn1_schema_authored.specs.Reads.{ReadsAddition}

pub failed_addition : {S : Type 0} {step : S → Record → S → Type 0} {has_failed : S → Type 0} → GoesOn step has_failed →
    {o : Presence} {s : ℕ → Schema} {n : ℕ} {x : Part} {a b : S} → ReadsAddition step o s n x a b → has_failed b → has_failed a
failed_addition law {a = a} {b = b} r f = failed_before law _ a b r.chain f
