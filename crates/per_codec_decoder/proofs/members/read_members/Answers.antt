use Rattle.std.proofs.Common.{sym}
use Rattle.asn1_schema_laws.proofs.Joined.{raised}
use Rattle.per_codec_reading.specs.Fronts.{freedoms, is_aligned}
use Rattle.asn1_schema_constraints.specs.Bounds.{members_of}
use Rattle.asn1_schema_constraints.specs.Terms.{size_of}
use Rattle.per_codec_reading.proofs.Fronts.{ok_also, err_also}
use Rattle.per_codec_decoder.proofs.Counting.{no_heading, numbered, not_so_many, headed_by, no_list_determinant}
use Rattle.per_codec_decoder.proofs.members.read_members.Goals as goal

pub returns-in_err-heading-clause-only : goal.returns-in_err-heading-clause-only
returns-in_err-heading-clause-only c = raised _ _ _ c.from_residual.ensures.1
    (no_heading (freedoms c.args.rules) (is_aligned c.args.rules) (size_of c.args.sizes) (members_of c.args.held) c.args.cursor.now _ c.in_err-heading.ensures.only)

pub returns-then-not-is_admitted-clause-only : goal.returns-then-not-is_admitted-clause-only
returns-then-not-is_admitted-clause-only c = not_so_many (freedoms c.args.rules) (is_aligned c.args.rules) (size_of c.args.sizes)
    (members_of c.args.held) c.in_ok-heading.heading c.in-Constrained.due c.args.cursor.now c.read_heading.new.cursor _ c.in-Constrained.is
    c.if-not-is_admitted.ensures.members c.in_ok-heading.ensures.ok

pub returns-else-not-is_admitted-clause-ok : goal.returns-else-not-is_admitted-clause-ok
returns-else-not-is_admitted-clause-ok c = numbered (freedoms c.args.rules) (is_aligned c.args.rules) (size_of c.args.sizes) (members_of c.args.held)
    c.in_ok-heading.heading c.in-Constrained.due c.args.cursor.now c.read_heading.new.cursor c.in-Constrained.is (sym c.if-not-is_admitted.ensures.members) c.in_ok-heading.ensures.ok

pub returns-in-General-clause-ok : goal.returns-in-General-clause-ok
returns-in-General-clause-ok c =
    ok_also c.behind.result (λ m g. headed_by (freedoms c.args.rules) (is_aligned c.args.rules) (size_of c.args.sizes) (members_of c.args.held)
    c.in_ok-heading.heading c.in-General.length m.due m.tally c.args.cursor.now c.read_heading.new.cursor c.in-General.is c.in_ok-heading.ensures.ok
    (λ p front. g p c.read_heading.new.cursor front)) c.behind.ensures.ok

pub returns-in-General-clause-only : goal.returns-in-General-clause-only
returns-in-General-clause-only c =
    err_also c.behind.result (λ e g. no_list_determinant (freedoms c.args.rules) (is_aligned c.args.rules) (size_of c.args.sizes)
    (members_of c.args.held) c.in_ok-heading.heading c.in-General.length c.args.cursor.now c.read_heading.new.cursor e c.in-General.is
    c.in_ok-heading.ensures.ok (λ p front. g p c.read_heading.new.cursor front)) c.behind.ensures.only
