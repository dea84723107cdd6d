use Rattle.std.proofs.Common.{◌≡◌, [], ◌∷◌, ◌++◌, true, false, ap, sym, ◌∙◌}
use Rattle.asn1_model.specs.Numbers.{packed}
use Rattle.asn1_values_bits.specs.Octets.{padded}
use Rattle.per_codec_encoder.proofs.Octets.{of_none, of_some}
use Rattle.per_codec_encoder.proofs.encoder.message.Goals as goal

pub returns-then-is_empty : goal.returns-then-is_empty
returns-then-is_empty c =
    let none = c.is_empty.ensures.0 c.if-is_empty.true in
    of_none c.args.bits c.push.new.self.items none (c.in_ok-push.ensures.items ∙ ap (λ l. l ++ 0 ∷ []) (c.into_vec-octets.ensures.octets ∙ ap (λ b. packed (padded b)) none))

pub returns : goal.returns
returns c = of_some c.args.bits c.into_vec.result.items (λ e. let t : true ≡ false = sym (c.is_empty.ensures.1 e) ∙ c.if-is_empty.false in cc) c.into_vec.ensures.octets
