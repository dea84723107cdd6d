use Rattle.std.proofs.Common.{refl}
use Rattle.oer_codec_decoder.proofs.Counting.{due_comes}
use Rattle.oer_codec_decoder.proofs.scopes.Scopes.next_member.Goals as goal

pub invariant_of-self : goal.invariant_of-self
invariant_of-self c _ = c.self.invariant c.if-self-gt0.true

pub returns-then-self-gt0-clause-some : goal.returns-then-self-gt0-clause-some
returns-then-self-gt0-clause-some c os =
    let i = c.self.inside in
    let l = c.self.invariant c.if-self-gt0.true in
    due_comes i.due _ c.args.self.now i.nested l.0 os c.self.view_is l.1 c.if-self-gt0.true refl
