use Rattle.std.proofs.Common.{◌%◌, ◌<◌, arith, ap, ◌∙◌}
use Rattle.asn1_values_natives.specs.Octets.{sign_free}
use Rattle.asn1_values_natives.proofs.OctetLaws.{digit-more, rest-more}
use Rattle.asn1_values_natives.proofs.octets.last_octets.Goals as goal
use Rattle.std.proofs.Math.ListN.{length-set}

pub loop-done-preserved : goal.loop-done-preserved
loop-done-preserved c =
    let i : c.loop-done.done < 17 = omega arith in
    let d = c.without_sign.ensures ∙ ap (λ x. sign_free c.args.negative (x % 256)) c.loop-done.invariant.rest in
    record {
      rest = rest-more c.args.number c.loop-done.done c.loop-done.rest c.loop-done.invariant.rest;
      last = digit-more c.args.negative c.loop-done.octets c.loop-done.done c.args.number c.without_sign.result i c.loop-done.invariant.size c.loop-done.invariant.last d;
      size = length-set _ _ _ ∙ c.loop-done.invariant.size;
    }
