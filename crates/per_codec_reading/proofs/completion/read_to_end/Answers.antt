use Rattle.std.proofs.Common.{◌≡◌, ◌∙◌, ◌%◌, ◌||◌, ◌==◌, false, true, inl, length, ap, sym, subst}
use Rattle.std.proofs.lemmas.Bool.{eq-eqb}
use Rattle.asn1_model.specs.Per
use Rattle.asn1_schema_laws.proofs.Joined.{raised}
use Rattle.per_codec_reading.specs.Fronts.{freedoms}
use Rattle.per_codec_reading.proofs.Fronts.{free_or}
use Rattle.per_codec_reading.proofs.Closing.{closes, no_completion, no_octets_left, surplus_octets}
use Rattle.per_codec_reading.proofs.completion.read_to_end.Goals as goal

pub returns-in_err-read_completion-clause-only : goal.returns-in_err-read_completion-clause-only
returns-in_err-read_completion-clause-only c = raised _ _ _ c.from_residual.ensures.1 (no_completion (freedoms c.args.rules) c.args.cursor.now c.in_err-read_completion.ensures.only)

pub returns-then-left-eq0-clause-ok : goal.returns-then-left-eq0-clause-ok
returns-then-left-eq0-clause-ok c =
    let none : length c.read_completion.new.cursor.1 ≡ 0 = sym c.len-left.ensures ∙ c.if-left-eq0.true in
    closes (freedoms c.args.rules) c.args.cursor.now c.read_completion.new.cursor c.in_ok-read_completion.ensures.ok (ap (λ n. n % 8) none)
    (free_or (freedoms c.args.rules Per.octets_behind) (length c.read_completion.new.cursor.1 == 0) (inl (eq-eqb (length c.read_completion.new.cursor.1) 0 none)))

pub returns-then-left-ne0-clause-only : goal.returns-then-left-ne0-clause-only
returns-then-left-ne0-clause-only c = no_octets_left (freedoms c.args.rules) c.args.cursor.now c.read_completion.new.cursor
    c.in_ok-read_completion.ensures.ok (λ e. c.if-left-ne0.true (ap (λ n. n % 8) c.len-left.ensures ∙ e))

pub returns-then-not-may_be_left-clause-only : goal.returns-then-not-may_be_left-clause-only
returns-then-not-may_be_left-clause-only c = surplus_octets (freedoms c.args.rules) c.args.cursor.now c.read_completion.new.cursor
    c.in_ok-read_completion.ensures.ok (subst (λ n. (freedoms c.args.rules Per.octets_behind || n == 0) ≡ false) c.len-left.ensures (sym c.if-not-may_be_left.ensures))

pub returns-clause-ok : goal.returns-clause-ok
returns-clause-ok c = closes (freedoms c.args.rules) c.args.cursor.now c.read_completion.new.cursor c.in_ok-read_completion.ensures.ok
    (sym (ap (λ n. n % 8) c.len-left.ensures) ∙ c.if-left-ne0.false) (subst (λ n. (freedoms c.args.rules Per.octets_behind || n == 0) ≡ true) c.len-left.ensures (sym c.if-not-may_be_left.ensures))
