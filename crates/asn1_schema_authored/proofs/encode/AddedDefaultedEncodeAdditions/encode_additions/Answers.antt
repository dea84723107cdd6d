use Rattle.std.proofs.Common.{rules}
use Rattle.asn1_schema_laws.proofs.Joined.{raised}
use Rattle.asn1_schema_authored.proofs.Writing.{writes_more, cannot_more, cannot_more_here}
use Rattle.std.proofs.Common.{refl}
use Rattle.asn1_schema_laws.proofs.Values.{part_default}
use Rattle.asn1_schema_encode.proofs.Going.{passed}
use Rattle.asn1_schema_authored.proofs.Going.{failed_before_addition}
use Rattle.asn1_schema_authored.proofs.encode.AddedDefaultedEncodeAdditions.encode_additions.Goals as goal

pub returns-in_err-encode_extension_addition_with_default-clause-only : goal.returns-in_err-encode_extension_addition_with_default-clause-only
returns-in_err-encode_extension_addition_with_default-clause-only g c = raised _ _ _ c.from_residual.ensures.1 (cannot_more_here _ _ _ c.in_err-encode_extension_addition_with_default.ensures.only)

pub returns-in_err-encode_additions-clause-only : goal.returns-in_err-encode_additions-clause-only
returns-in_err-encode_additions-clause-only g c = let one = g.met.E.Encoder.one_after in
    raised _ _ _ c.from_residual-in_err-encode_additions.ensures.1 (cannot_more one _ c.in_ok-encode_extension_addition_with_default.ensures.ok c.in_err-encode_additions.ensures.only)

pub returns-clause-ok : goal.returns-clause-ok
returns-clause-ok g c = writes_more _ c.in_ok-encode_extension_addition_with_default.ensures.ok c.in_ok-encode_additions.ensures.ok

pub returns-in_err-encode_additions-clause-call : goal.returns-in_err-encode_additions-clause-call
returns-in_err-encode_additions-clause-call g c =
    record {
      failed = search rules;
      front = search rules;
      already = search rules;
      after = let law = g.met.E.Encoder.goes_on in
          passed c.from_residual-in_err-encode_additions.ensures.1 (λ e.
          failed_before_addition law (part_default _ g.T.Described.typed (g.T.Described.valued _) g.met.V.DefaultOf.lawful.is_value refl)
          c.in_ok-encode_extension_addition_with_default.ensures.ok (c.in_err-encode_additions.ensures.call.after e));
    }
