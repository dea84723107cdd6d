use Rattle.std.proofs.Common.{inl, inr}
use Rattle.asn1_schema_laws.proofs.Joined.{raised}
use Rattle.oer_codec_reading.specs.Fronts.{freedoms}
use Rattle.oer_codec_reading.proofs.Freedoms.{not_is, is_not}
use Rattle.oer_codec_reading.proofs.Fronts.{none_misses}
use Rattle.oer_codec_reading.proofs.TagFronts.{no_octet, low_tag, high_tag, no_groups, not_needed}
use Rattle.oer_codec_reading.proofs.tags.read_tag.Goals as goal
use Rattle.oer_codec_reading.proofs.tags.read_tag.Goals.{else-value-lt63-via-then-value-lt63+else-is_coer, else-value-lt63-via-else-value-lt63}

pub returns-in_err-first-clause-only : goal.returns-in_err-first-clause-only
returns-in_err-first-clause-only c =
    let q = c.in_err-first.ensures.none in
    raised _ _ _ c.from_residual.ensures.1 (rw q.0 (no_octet c.args.rules c.args.cursor.now q.1))

pub returns-then-low-lt63-clause-ok : goal.returns-then-low-lt63-clause-ok
returns-then-low-lt63-clause-ok c = low_tag c.args.rules _ c.in_ok-first.first c.args.cursor.now c.take_octet.new.self c.in_ok-first.ensures.octet.0
    c.from_u8-class.ensures c.from.ensures c.if-low-lt63.true

pub returns-in_err-value-clause-only : goal.returns-in_err-value-clause-only
returns-in_err-value-clause-only c = raised _ _ _ c.from_residual-in_err-value.ensures.1
    (none_misses (freedoms c.args.rules) _ c.args.cursor.now _ c.in_err-value.ensures.fresh
    (no_groups c.args.rules c.in_ok-first.first c.args.cursor.now c.take_octet.new.self c.in_ok-first.ensures.octet.0 c.if-low-lt63.false c.in_err-value.ensures.only))

pub returns-then-is_coer-clause-only : goal.returns-then-is_coer-clause-only
returns-then-is_coer-clause-only c = not_needed c.args.rules c.in_ok-first.first c.in_ok-value.value c.args.cursor.now c.take_octet.new.self
    c.read_groups.new.cursor c.in_ok-first.ensures.octet.0 c.if-low-lt63.false c.in_ok-value.ensures.ok c.if-value-lt63.true (not_is c.if-is_coer.ensures)

pub returns-clause-ok : goal.returns-clause-ok
returns-clause-ok c =
    high_tag c.args.rules _ c.in_ok-first.first c.args.cursor.now c.take_octet.new.self c.read_groups.new.cursor c.in_ok-first.ensures.octet.0
    c.from_u8-class.ensures c.if-low-lt63.false c.in_ok-value.ensures.ok
    (elim c.else-value-lt63.branch [
      | else-value-lt63-via-then-value-lt63+else-is_coer w ↦ inr (is_not w.if-is_coer.ensures)
      | else-value-lt63-via-else-value-lt63 w ↦ inl w.if-value-lt63.false
    ])
