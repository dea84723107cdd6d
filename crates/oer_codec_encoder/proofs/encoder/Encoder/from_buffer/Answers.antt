use Rattle.std.proofs.Common.{false, ap, subst, sym, ◌∙◌, arith}
use Rattle.oer_codec_encoder.specs.EarlierOctets.{Stands}
use Rattle.oer_codec_encoder.proofs.Stepped.{holding, holding_at_first, stands_at_first}
use Rattle.oer_codec_encoder.proofs.encoder.Encoder.from_buffer.Goals as goal

pub invariant_of-result : goal.invariant_of-result
invariant_of-result c _ =
    let o = c.args.output.now.items in
    let n = c.len-start.result in
    subst (λ fs. Stands fs o n) (sym c.new.ensures) (stands_at_first o n (omega (arith, c.len-start.ensures, c.args.output.now.ok.0)))

pub returns : goal.returns
returns c =
    let o = c.args.output.now.items in
    let n = c.len-start.result in
    ap (λ fs. holding fs o false n) c.new.ensures ∙ holding_at_first o n (c.len-start.ensures ∙ c.args.output.now.ok.0)
