use Rattle.std.proofs.Common.{rules}
use Rattle.asn1_schema_laws.proofs.Joined.{raised}
use Rattle.asn1_schema_authored.proofs.Writing.{writes_more, cannot_more, cannot_more_here}
use Rattle.asn1_schema_laws.proofs.Values.{part_optional}
use Rattle.asn1_schema_authored.proofs.Going.{failed_before_addition}
use Rattle.asn1_schema_encode.proofs.Going.{passed}
use Rattle.asn1_relay_vectors_types.proofs.written.AddedOptionalComponentWriteAdditions.write_additions.Goals as goal

pub returns-in_err-encode_extension_addition-clause-only : goal.returns-in_err-encode_extension_addition-clause-only
returns-in_err-encode_extension_addition-clause-only g c = raised _ _ _ c.from_residual.ensures.1 (cannot_more_here _ _ _ c.in_err-encode_extension_addition.ensures.only)

pub returns-in_err-write_additions-clause-only : goal.returns-in_err-write_additions-clause-only
returns-in_err-write_additions-clause-only g c = let one = g.met.E.Encoder.one_after in
    raised _ _ _ c.from_residual-in_err-write_additions.ensures.1 (cannot_more one _ c.in_ok-encode_extension_addition.ensures.ok c.in_err-write_additions.ensures.only)

pub returns-clause-ok : goal.returns-clause-ok
returns-clause-ok g c = writes_more _ c.in_ok-encode_extension_addition.ensures.ok c.in_ok-write_additions.ensures.ok

pub returns-in_err-write_additions-clause-call : goal.returns-in_err-write_additions-clause-call
returns-in_err-write_additions-clause-call g c =
    record {
      failed = search rules;
      front = search rules;
      already = search rules;
      after = let law = g.met.E.Encoder.goes_on in
          passed c.from_residual-in_err-write_additions.ensures.1 (λ e.
          failed_before_addition law (part_optional g.T.Described.meaning _ g.T.Described.typed g.T.Described.valued)
          c.in_ok-encode_extension_addition.ensures.ok (c.in_err-write_additions.ensures.call.after e));
    }
