use Rattle.std.proofs.Common.{refl, arith}
use Rattle.per_codec_additions.proofs.KeptSlots.{keeps_shared, keeps_in_place}
use Rattle.per_codec_additions.proofs.slots.keep.Goals as goal

pub returns-then-bytes-gt-PLACE_OCTETS-clause-kept : goal.returns-then-bytes-gt-PLACE_OCTETS-clause-kept
returns-then-bytes-gt-PLACE_OCTETS-clause-kept c =
    let bytes = c.as_bytes-bytes in
    keeps_shared bytes.result.now c.len-bits.result c.args.contents.now bytes.ensures.octets bytes.ensures.bits c.len-bits.ensures
    c.args.shared.now.items c.extend_from_slice.new.self.items c.len-from.result c.len.result c.in_ok-extend_from_slice.ensures.items
    (omega (arith, c.len-from.ensures, c.args.shared.now.ok.0)) (omega (arith, c.len.ensures, c.extend_from_slice.new.self.ok.0)) (omega (arith, c.if-bytes-gt-PLACE_OCTETS.true))

pub returns-clause-kept : goal.returns-clause-kept
returns-clause-kept c =
    let bytes = c.as_bytes-bytes in
    keeps_in_place bytes.result.now c.len-bits.result c.args.contents.now bytes.ensures.octets bytes.ensures.bits c.len-bits.ensures
    c.args.shared.now.items _ c.copy_from_slice.new.self c.max.result c.copy_from_slice.ensures.after refl c.max.ensures c.if-bytes-gt-PLACE_OCTETS.false
