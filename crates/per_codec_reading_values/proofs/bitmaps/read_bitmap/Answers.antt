use Rattle.std.proofs.Common.{◌≡◌, ◌||◌, true, false, sym, subst}
use Rattle.asn1_model.specs.Per
use Rattle.asn1_schema_reading_laws.specs.PresenceBits.{is_any_set}
use Rattle.asn1_schema_laws.proofs.Joined.{raised}
use Rattle.per_codec_reading.specs.Fronts.{freedoms, is_aligned}
use Rattle.per_codec_reading_values.specs.Fields.{few_form}
use Rattle.per_codec_reading_values.proofs.SetBits.{bitmap_accepted, bitmap_refused, bitmap_missed}
use Rattle.per_codec_reading.proofs.Fronts.{missed}
use Rattle.per_codec_reading_values.proofs.bitmaps.read_bitmap.Goals as goal

pub returns-in_err-bitmap-clause-only : goal.returns-in_err-bitmap-clause-only
returns-in_err-bitmap-clause-only c =
    let free = freedoms c.args.rules in
    let al = is_aligned c.args.rules in
    let a = c.args.place.now.place in
    raised _ _ _ c.from_residual.ensures.1 (bitmap_missed free al c.args.is_extended a _ c.if-not-is_extended.false (missed free (few_form al) a _ c.in_err-bitmap.ensures.only))

pub returns-then-not-is_accepted-clause-only : goal.returns-then-not-is_accepted-clause-only
returns-then-not-is_accepted-clause-only c =
    let free = freedoms c.args.rules in
    let al = is_aligned c.args.rules in
    let t = subst (λ bs. (free Per.empty_bitmap || is_any_set bs) ≡ false) c.bits.ensures (sym c.if-not-is_accepted.ensures) in
    bitmap_refused free al c.args.is_extended c.in_ok-bitmap.bitmap.place.1 c.args.place.now.place c.take_field.new.self.place _ c.if-not-is_extended.false t c.in_ok-bitmap.ensures.ok

pub returns-clause-ok : goal.returns-clause-ok
returns-clause-ok c =
    let free = freedoms c.args.rules in
    let al = is_aligned c.args.rules in
    let t = subst (λ bs. (free Per.empty_bitmap || is_any_set bs) ≡ true) c.bits.ensures (sym c.if-not-is_accepted.ensures) in
    bitmap_accepted free al c.args.is_extended c.in_ok-bitmap.bitmap.place.1 c.args.place.now.place c.take_field.new.self.place c.if-not-is_extended.false t c.in_ok-bitmap.ensures.ok
