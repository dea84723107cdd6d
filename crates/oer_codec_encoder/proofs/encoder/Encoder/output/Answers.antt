use Rattle.std.proofs.Common.{ap, subst, sym, ◌∙◌, arith}
use Rattle.oer_codec_encoder.specs.EarlierOctets.{Stands}
use Rattle.oer_codec_encoder.specs.Holding.{shown}
use Rattle.oer_codec_encoder.specs.Stepping.{Written}
use Rattle.oer_codec_encoder.proofs.Scopes.{nothing_open}
use Rattle.oer_codec_encoder.proofs.Stepped.{stands_at_first}
use Rattle.oer_codec_encoder.proofs.encoder.Encoder.output.Goals as goal

pub returns-clause-octets : goal.returns-clause-octets
returns-clause-octets c f n =
    let fs = c.self.inside.frames in
    let o = c.self.inside.output.now.items in
    let ready = ap (λ (w : Written). w.failed) c.self.view_is ∙ f in
    let state = ap (λ (w : Written). w.state) c.self.view_is in
    ap (λ v. v.items) c.replace.ensures.value ∙ nothing_open fs o (shown fs o) (c.self.invariant ready).holds (ap (λ s. s.1) state ∙ n) ∙ ap (λ s. s.0) state

pub invariant_of-self : goal.invariant_of-self
invariant_of-self c _ = subst (λ fs. Stands fs c.replace.new.dest.items 0) (sym c.clear.ensures) (stands_at_first c.replace.new.dest.items 0 (omega arith))
