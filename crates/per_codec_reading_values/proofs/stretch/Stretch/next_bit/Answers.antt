use Rattle.std.proofs.Common.{◌∙◌, ap, sym, slice_get}
use Rattle.per_codec_reading.specs.Runs.{bits_in}
use Rattle.per_codec_reading.proofs.BitsAt.{bit_at, no_bit_at}
use Rattle.per_codec_reading_values.specs.Stretches.{Stretched}
use Rattle.per_codec_reading_values.proofs.stretch.Stretch.next_bit.Goals as goal

pub returns-clause-some : goal.returns-clause-some
returns-clause-some c = ap (λ (s : Stretched). s.place.1) (sym c.self.view_is) ∙
    bit_at (bits_in c.self.inside.bits) c.self.inside.position c.in-Some.bit (ap (λ bs. slice_get bs c.self.inside.position) (sym c.lent-bits.ensures) ∙ sym c.get.ensures ∙ c.in-Some.is)

pub returns-in_default-clause-none : goal.returns-in_default-clause-none
returns-in_default-clause-none c = ap (λ (s : Stretched). s.place.1) (sym c.self.view_is) ∙
    no_bit_at (bits_in c.self.inside.bits) c.self.inside.position (ap (λ bs. slice_get bs c.self.inside.position) (sym c.lent-bits.ensures) ∙ sym c.get.ensures ∙ c.in_default.is)
