use Rattle.std.proofs.Common.{refl, ap, sym, ◌∙◌}
use Rattle.asn1_values_bits.specs.BitStr.{bits_of}
use Rattle.per_codec_laws.specs.Takes.{Position}
use Rattle.per_codec_reading.proofs.BitsAt.{no_bit_at}
use Rattle.per_codec_reading.proofs.cursor.Cursor.take_bit.Goals as goal

pub returns-in_default-clause-short : goal.returns-in_default-clause-short
returns-in_default-clause-short c = (refl, ap (λ (p : Position). p.1) (sym c.self.view_is) ∙ no_bit_at (bits_of c.self.inside.unread) 0 (sym c.get.ensures ∙ c.in_default.is))
