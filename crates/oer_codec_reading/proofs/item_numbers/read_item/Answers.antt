use Rattle.std.proofs.Common.{sym, inl, inr}
use Rattle.asn1_schema_laws.proofs.Joined.{raised}
use Rattle.oer_codec_reading.specs.Fronts.{freedoms}
use Rattle.oer_codec_reading.proofs.Freedoms.{not_is, is_not}
use Rattle.oer_codec_reading.proofs.ItemFronts.{no_octet, short_read, no_octets, few_octets, longer_octets, item_read}
use Rattle.oer_codec_reading.proofs.item_numbers.read_item.Goals as goal
use Rattle.oer_codec_reading.proofs.item_numbers.read_item.Goals.{else-is_coer-via-then-is_coer+else-is_longer_item, else-is_coer-via-else-is_coer}

pub returns-in_err-first-clause-only : goal.returns-in_err-first-clause-only
returns-in_err-first-clause-only c =
    let q = c.in_err-first.ensures.none in
    raised _ _ _ c.from_residual.ensures.1 (rw q.0 (no_octet (freedoms c.args.rules) c.args.cursor.now q.1))

pub returns-then-first-lt128-clause-ok : goal.returns-then-first-lt128-clause-ok
returns-then-first-lt128-clause-ok c = short_read (freedoms c.args.rules) c.in_ok-first.first c.remaining-ahead.result.now c.args.cursor.now
    c.take_octet.new.self c.remaining-ahead.ensures c.in_ok-first.ensures.octet.0 c.if-first-lt128.true

pub returns-then-first-clause-only : goal.returns-then-first-clause-only
returns-then-first-clause-only c = no_octets (freedoms c.args.rules) c.in_ok-first.first c.args.cursor.now c.take_octet.new.self c.in_ok-first.ensures.octet.0 c.if-first.true

pub returns-in_err-octets-clause-only : goal.returns-in_err-octets-clause-only
returns-in_err-octets-clause-only c =
    let q = c.in_err-octets.ensures.short in
    raised _ _ _ c.from_residual-in_err-octets.ensures.1
    (rw q.0 (few_octets (freedoms c.args.rules) c.in_ok-first.first c.args.cursor.now c.take_octet.new.self c.in_ok-first.ensures.octet.0 c.if-first-lt128.false q.1))

pub returns-then-is_longer_item-clause-only : goal.returns-then-is_longer_item-clause-only
returns-then-is_longer_item-clause-only c = longer_octets c.args.rules c.in_ok-first.first c.args.cursor.now c.take_octet.new.self c.take.new.self
    c.in_ok-octets.octets.now c.in_ok-first.ensures.octet.0 c.if-first-lt128.false c.in_ok-octets.ensures.octets c.in_ok-octets.ensures.count
    (sym c.if-is_longer_item.ensures) (not_is c.if-is_coer.ensures)

pub returns-clause-ok : goal.returns-clause-ok
returns-clause-ok c =
    item_read c.args.rules c.in_ok-first.first c.args.cursor.now c.take_octet.new.self c.take.new.self c.in_ok-octets.octets.now
    c.in_ok-first.ensures.octet.0 c.if-first-lt128.false c.if-first.false c.in_ok-first.ensures.octet.1 c.in_ok-octets.ensures.octets c.in_ok-octets.ensures.count c.in_ok-octets.ensures.small
    (elim c.else-is_coer.branch [
      | else-is_coer-via-then-is_coer+else-is_longer_item w ↦ inr (sym w.if-is_longer_item.ensures)
      | else-is_coer-via-else-is_coer w ↦ inl (is_not w.if-is_coer.ensures)
    ])
