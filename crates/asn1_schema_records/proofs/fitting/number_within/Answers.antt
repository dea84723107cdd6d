use Rattle.std.proofs.Common.{◌≡◌, sym, ◌∙◌, true, rules}
use Rattle.asn1_schema_records.proofs.Numbers.{not_empty}
use Rattle.asn1_schema_records.proofs.NumbersRead.{held_by, not_held_by, long_by}
use Rattle.asn1_schema_constraints.specs.Terms.{admits_whole}
use Rattle.asn1_values_natives.proofs.TwosComplement.{signed-back}
use Rattle.asn1_values_natives.specs.Octets.{signed_octets_of}
use Rattle.asn1_schema_records.proofs.fitting.number_within.Goals as goal

pub returns-in-Ok-clause-value : goal.returns-in-Ok-clause-value
returns-in-Ok-clause-value g c = search (signed-back, rules)

pub returns-in-Ok-clause-held : goal.returns-in-Ok-clause-held
returns-in-Ok-clause-held g c =
    let s : c.as_slice.result.now ≡ signed_octets_of c.args.number.now = search rules in
    held_by c.try_from_signed_bytes.result _ _ _ s (λ e. cc) c.try_from_signed_bytes.ensures.overflow.1

pub returns-in-Err-Memory-clause-refused : goal.returns-in-Err-Memory-clause-refused
returns-in-Err-Memory-clause-refused g c =
    let s : c.as_slice.result.now ≡ signed_octets_of c.args.number.now = search rules in
    long_by c.try_from_signed_bytes.result _ _ s (cc) c.try_from_signed_bytes.ensures.memory

pub returns-in-Err-Overflow-clause-refused : goal.returns-in-Err-Overflow-clause-refused
returns-in-Err-Overflow-clause-refused g c =
    let s : c.as_slice.result.now ≡ signed_octets_of c.args.number.now = search rules in
    let a : admits_whole c.args.constraints.now.value c.args.number.now ≡ true = sym c.is_admitted.ensures ∙ c.if-not-is_admitted.false in
    (a, not_held_by c.try_from_signed_bytes.result _ _ _ s (cc) c.try_from_signed_bytes.ensures.overflow.0)

pub returns-in-Err-Empty-clause-refused : goal.returns-in-Err-Empty-clause-refused
returns-in-Err-Empty-clause-refused g c =
    let s : c.as_slice.result.now ≡ signed_octets_of c.args.number.now = search rules in
    absurd (not_empty _ _ s (c.try_from_signed_bytes.ensures.empty.0 (cc)))
