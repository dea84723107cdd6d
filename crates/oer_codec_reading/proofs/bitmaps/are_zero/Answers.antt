use Rattle.std.proofs.Common.{◌≡◌, ◌==◌, ◌^◌, ◌<◌, ℕ, List, Bool, IsTrue, sym, ◌∙◌, ap, refl, length, take, subst}
use Rattle.std.proofs.Math.Seq.{take-length}
use Rattle.std.proofs.lemmas.Bool.{eqb-true}
use Rattle.asn1_model.specs.Numbers.{binary}
use Rattle.asn1_values_bits.specs.BitStr.{bits_of}
use Rattle.asn1_values_bits.proofs.Binary.{binary_zero}
use Rattle.oer_codec_reading.proofs.BitmapFronts.{zero_bits}
use Rattle.oer_codec_reading.proofs.bitmaps.are_zero.Goals as goal

pub returns : goal.returns
returns c =
    let bs : List Bool = bits_of c.args.bits in
    let n : ℕ = c.first_number.result in
    let d : binary (length bs) n ≡ bs = subst (λ k. binary k n ≡ take k bs) c.len.ensures c.first_number.ensures.digits ∙ take-length bs in
    let f : n < 2 ^ length bs = subst (λ k. n < 2 ^ k) c.len.ensures c.first_number.ensures.fits in (
      λ h. sym d ∙ ap (binary (length bs)) (eqb-true n 0 h) ∙ binary_zero (length bs),
      λ h. subst (λ k. IsTrue (k == 0)) (sym (zero_bits (length bs) n bs f d h)) refl,
    )
