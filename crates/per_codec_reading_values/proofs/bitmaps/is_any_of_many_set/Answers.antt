use Rattle.std.proofs.Common.{◌∙◌, refl, sym}
use Rattle.std.proofs.lemmas.Bool.{false≢true}
use Rattle.asn1_values_bits.specs.BitStr.{bits_of}
use Rattle.per_codec_reading_values.proofs.SetBits.{zero_front, set_front}
use Rattle.per_codec_reading_values.proofs.bitmaps.is_any_of_many_set.Goals as goal

pub loop-rest-preserved : goal.loop-rest-preserved
loop-rest-preserved c = zero_front _ (bits_of c.loop-rest.rest) _ _ c.split_at.ensures.front c.split_at.ensures.rest (c.if-not-are_zero.ensures.0 refl) ∙ c.loop-rest.invariant

pub returns-then-not-are_zero : goal.returns-then-not-are_zero
returns-then-not-are_zero c = sym (set_front _ (bits_of c.loop-rest.rest) _ c.split_at.ensures.front (λ z. false≢true (c.if-not-are_zero.ensures.1 z))) ∙ c.loop-rest.invariant
