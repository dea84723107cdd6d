use Rattle.std.proofs.Common.{◌∙◌, sym}
use Rattle.asn1_schema_laws.proofs.Joined.{raised}
use Rattle.per_codec_reading.specs.Fronts.{freedoms, to_octet}
use Rattle.per_codec_reading.proofs.Closing.{padding_passed, padding_missing, zero_octet, no_octet, other_octet}
use Rattle.per_codec_reading.proofs.Fronts.{missed}
use Rattle.per_codec_reading.proofs.completion.read_completion.Goals as goal

pub returns-in_err-take_number-clause-only : goal.returns-in_err-take_number-clause-only
returns-in_err-take_number-clause-only c = raised _ _ _ c.from_residual.ensures.1
    (λ b. no_octet (freedoms c.args.rules) c.args.cursor.now.0 c.args.cursor.now b (sym c.position.ensures ∙ c.if-position-eq0.true) c.in_err-take_number.ensures.short.1)

pub returns-then-branch-ne0-clause-only : goal.returns-then-branch-ne0-clause-only
returns-then-branch-ne0-clause-only c = λ b. other_octet (freedoms c.args.rules) c.in_ok-take_number.field-0 c.args.cursor.now.0 c.args.cursor.now
    c.take_number.new.self b (sym c.position.ensures ∙ c.if-position-eq0.true) c.if-branch-ne0.true c.in_ok-take_number.ensures.fits c.in_ok-take_number.ensures.digits

pub returns-then-position-eq0-clause-ok : goal.returns-then-position-eq0-clause-ok
returns-then-position-eq0-clause-ok c = zero_octet (freedoms c.args.rules) c.in_ok-take_number.field-0 c.args.cursor.now.0 c.args.cursor.now
    c.take_number.new.self (sym c.position.ensures ∙ c.if-position-eq0.true) c.if-branch-ne0.false c.in_ok-take_number.ensures.digits

pub returns-in_err-skip_padding-clause-only : goal.returns-in_err-skip_padding-clause-only
returns-in_err-skip_padding-clause-only c =
    let free = freedoms c.args.rules in
    let a = c.args.cursor.now in
    raised _ _ _ c.from_residual-in_err-skip_padding.ensures.1 (padding_missing free a (λ z. c.if-position-eq0.false (c.position.ensures ∙ z))
    (λ b f. missed free (λ (u : Unit {0}). to_octet) a _ c.in_err-skip_padding.ensures.only c.in_err-skip_padding.ensures.no_memory tt b f))

pub returns-clause-ok : goal.returns-clause-ok
returns-clause-ok c = padding_passed (freedoms c.args.rules) c.args.cursor.now c.skip_padding.new.cursor (λ z. c.if-position-eq0.false (c.position.ensures ∙ z)) c.in_ok-skip_padding.ensures.ok
