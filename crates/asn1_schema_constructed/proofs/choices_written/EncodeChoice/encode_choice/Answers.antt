use Rattle.std.proofs.Common.{rules}
use Rattle.asn1_schema_laws.proofs.Joined.{raised}
use Rattle.asn1_schema_constraints.specs.Terms.{meant}
use Rattle.asn1_schema_constructed.proofs.ChoiceWriting.{writes_begun, cannot_begun, cannot_begun_here, cannot_begun_end, failed_before_chosen}
use Rattle.asn1_schema_encode.proofs.Going.{passed}
use Rattle.asn1_schema_constructed.proofs.choices_written.EncodeChoice.encode_choice.Goals as goal

pub returns-in_err-begin_alternative-clause-only : goal.returns-in_err-begin_alternative-clause-only
returns-in_err-begin_alternative-clause-only g c = let t = g.met.T in
    raised _ _ _ c.from_residual.ensures.1 (cannot_begun_here _ _ (t.Alternatives.is_of _) _ (t.Choice.means _) (rw c.chosen.ensures at c.in_err-begin_alternative.ensures.only))

pub returns-in_err-write_chosen-clause-only : goal.returns-in_err-write_chosen-clause-only
returns-in_err-write_chosen-clause-only g c = let one = g.met.Self.Encoder.one_after in let t = g.met.T in
    raised _ _ _ c.from_residual-in_err-write_chosen.ensures.1 (cannot_begun _ _ (t.Alternatives.is_of _) _ (t.Choice.means _) one
    (rw c.chosen.ensures at c.in_ok-begin_alternative.ensures.ok) c.in_err-write_chosen.ensures.only)

pub returns-in_err-end-clause-only : goal.returns-in_err-end-clause-only
returns-in_err-end-clause-only g c = let one = g.met.Self.Encoder.one_after in let t = g.met.T in
    raised _ _ _ c.from_residual-in_err-end.ensures.1 (cannot_begun_end _ _ (t.Alternatives.is_of _) _ (t.Choice.means _) one
    (rw c.chosen.ensures at c.in_ok-begin_alternative.ensures.ok) c.in_ok-write_chosen.ensures.ok c.in_err-end.ensures.only)

pub returns-clause-ok : goal.returns-clause-ok
returns-clause-ok g c = let t = g.met.T in writes_begun _ _ (t.Alternatives.is_of _) _ (t.Choice.means _)
    (rw c.chosen.ensures at c.in_ok-begin_alternative.ensures.ok) c.in_ok-write_chosen.ensures.ok c.in_ok-end.ensures.ok

pub returns-in_err-end-clause-call : goal.returns-in_err-end-clause-call
returns-in_err-end-clause-call g c =
    record {
      failed = search rules;
      front = search rules;
      already = search rules;
      after = let law = g.met.Self.Encoder.goes_on in
          let t = g.met.T in
          let before = failed_before_chosen law _ (t.Alternatives.is_of (meant c.args.constraints.now)) _ (t.Choice.means _)
          (g.T.Described.valued_under (meant c.args.constraints.now) _) c.in_ok-write_chosen.ensures.ok in
          passed c.from_residual-in_err-end.ensures.1 (λ e. absurd (law _ _ _ c.in_ok-begin_alternative.ensures.ok (before (c.in_err-end.ensures.call.after e))));
    }
