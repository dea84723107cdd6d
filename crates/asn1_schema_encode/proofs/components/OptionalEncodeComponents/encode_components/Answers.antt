use Rattle.std.proofs.Common.{rules}
use Rattle.asn1_schema_laws.proofs.Joined.{raised}
use Rattle.asn1_schema_encode.proofs.Going.{passed, failed_before_part}
use Rattle.asn1_schema_laws.proofs.Values.{part_optional}
use Rattle.asn1_schema_encode.proofs.Writing.{writes_field, cannot_field, cannot_field_here}
use Rattle.asn1_schema_encode.proofs.components.OptionalEncodeComponents.encode_components.Goals as goal

pub returns-in_err-encode_optional-clause-only : goal.returns-in_err-encode_optional-clause-only
returns-in_err-encode_optional-clause-only g c = raised _ _ _ c.from_residual.ensures.1 (cannot_field_here _ _ _ _ c.in_err-encode_optional.ensures.only)

pub returns-in_err-encode_components-clause-only : goal.returns-in_err-encode_components-clause-only
returns-in_err-encode_components-clause-only g c = let one = g.met.E.Encoder.one_after in
    raised _ _ _ c.from_residual-in_err-encode_components.ensures.1 (cannot_field one _ c.in_ok-encode_optional.ensures.ok c.in_err-encode_components.ensures.only)

pub returns-clause-ok : goal.returns-clause-ok
returns-clause-ok g c = writes_field _ c.in_ok-encode_optional.ensures.ok c.in_ok-encode_components.ensures.ok

pub returns-in_err-encode_components-clause-call : goal.returns-in_err-encode_components-clause-call
returns-in_err-encode_components-clause-call g c =
    record {
      failed = search rules;
      front = search rules;
      already = search rules;
      after = let law = g.met.E.Encoder.goes_on in
          passed c.from_residual-in_err-encode_components.ensures.1
          (λ e. failed_before_part law (part_optional g.T.Described.meaning _ g.T.Described.typed g.T.Described.valued)
          c.in_ok-encode_optional.ensures.ok (c.in_err-encode_components.ensures.call.after e));
    }
