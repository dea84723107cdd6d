use Rattle.std.proofs.Common.{◌-◌, ◌≤◌, length, take, drop, subst, sym, arith}
use Rattle.std.specs.Io.KnownBytes.{Appends, WriteAppends}
use Rattle.std.proofs.KnownBytes.{Appends-kept}
use Rattle.asn1_relay_core.proofs.Known.{begins_before, begins_with, more_written, none_left, still_within}
use Rattle.asn1_relay_core.proofs.standard.write_octets.Goals as goal
use Rattle.asn1_relay_core.proofs.standard.write_octets.Goals.{in-Ok, in-Err}

pub loop-preserved : goal.loop-preserved
loop-preserved g c =
    elim c.match-write.branch [
      | in-Ok w ↦ record {
        some = still_within c.args.octets.now c.loop.count w.in-Ok.more c.match-write.count w.count-is c.loop.invariant.some w.in-Ok.ensures.bound;
        first = λ e. absurd (c.if-count-octets.false (none_left c.args.octets.now c.loop.count e c.loop.invariant.some));
        took = more_written _ _ _ c.args.octets.now c.loop.count w.in-Ok.more c.match-write.count w.count-is c.loop.invariant.took w.in-Ok.ensures.bytes;
      }
      | in-Err w ↦ record {
        some = subst (λ k. k ≤ length c.args.octets.now) (sym w.count-is) c.loop.invariant.some;
        first = λ e. absurd (c.if-count-octets.false (none_left c.args.octets.now c.loop.count e c.loop.invariant.some));
        took = subst (λ k. Appends (g.W.Write.contents c.args.writer.now) (g.W.Write.contents c.write.new.self) (take k c.args.octets.now))
            (sym w.count-is) (Appends-kept _ _ _ _ c.loop.invariant.took w.in-Err.ensures.bytes);
      }
    ]

pub returns-in-Ok-eq0-clause-begins : goal.returns-in-Ok-eq0-clause-begins
returns-in-Ok-eq0-clause-begins g c =
    let wrote = subst (λ r. WriteAppends (g.W.Write.contents c.loop.writer) (g.W.Write.contents c.write.new.self) r
    (take (length c.args.octets.now - c.loop.count) (drop c.loop.count c.args.octets.now))) c.in-Ok-eq0.is c.write.ensures.bytes in
    begins_before _ _ _ c.args.octets.now _ c.loop.count c.in-Ok-eq0.field-0 c.in-Ok-eq0.field-0-test c.loop.invariant.took wrote

pub returns-in-Err-2-clause-begins : goal.returns-in-Err-2-clause-begins
returns-in-Err-2-clause-begins g c = begins_with _ _ c.args.octets.now c.loop.count (Appends-kept _ _ _ _ c.loop.invariant.took c.in-Err-2.ensures.bytes)

pub returns-clause-begins : goal.returns-clause-begins
returns-clause-begins g c = begins_with _ _ c.args.octets.now c.loop.count c.loop.invariant.took

pub returns-clause-nothing : goal.returns-clause-nothing
returns-clause-nothing g c = λ e. let n = c.loop.invariant.first e in let m = c.loop-test.false in let no : ⊥ = omega arith in absurd no
