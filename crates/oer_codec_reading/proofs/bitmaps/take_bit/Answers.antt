use Rattle.std.proofs.Common.{◌∙◌, ◌∷◌, ap, refl, sym}
use Rattle.asn1_values_bits.specs.BitStr.{bits_of}
use Rattle.oer_codec_reading.proofs.BitmapFronts.{first_and_others, no_first}
use Rattle.oer_codec_reading.proofs.bitmaps.take_bit.Goals as goal

pub returns-clause-some : goal.returns-clause-some
returns-clause-some c = first_and_others (bits_of c.args.bits.now) c.in-Some.first (sym c.get.ensures ∙ c.in-Some.is) ∙ ap (λ bs. c.in-Some.first ∷ bs) (sym c.split_at.ensures.rest)

pub returns-in_default-clause-none : goal.returns-in_default-clause-none
returns-in_default-clause-none c = (no_first (bits_of c.args.bits.now) (sym c.get.ensures ∙ c.in_default.is), refl)
