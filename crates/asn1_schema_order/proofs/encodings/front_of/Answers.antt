use Rattle.std.proofs.Common.{◌+◌, ◌-◌, ◌/◌, ◌<◌, take, ap, ◌∙◌, arith}
use Rattle.std.proofs.lemmas.List.{take_all, length-take}
use Rattle.asn1_schema_order.specs.LeadingOctets.{leading}
use Rattle.asn1_schema_order.proofs.Leading.{worth_next, with_next, room, octets_take, leading_front}
use Rattle.asn1_schema_order.proofs.encodings.front_of.Goals as goal

pub overflow_mul-front : goal.overflow_mul-front
overflow_mul-front c =
    let first = take c.min.result c.args.octets.now in
    let i : c.loop-octet.octet-index < 8 = omega (arith, c.loop-octet-test.true, c.min.ensures, length-take c.min.result c.args.octets.now) in
    let r = room first c.loop-octet.octet-index c.loop-octet.front c.loop-octet.weight c.from.result
    (octets_take c.min.result c.args.octets.now (λ j. (c.type_inv.octets j).fits)) i c.loop-octet-test.true c.loop-octet.invariant.value c.loop-octet.invariant.weight c.from.ensures in
    omega (arith, r)

pub overflow_add-front : goal.overflow_add-front
overflow_add-front c =
    let first = take c.min.result c.args.octets.now in
    let i : c.loop-octet.octet-index < 8 = omega (arith, c.loop-octet-test.true, c.min.ensures, length-take c.min.result c.args.octets.now) in
    let r = room first c.loop-octet.octet-index c.loop-octet.front c.loop-octet.weight c.from.result
    (octets_take c.min.result c.args.octets.now (λ j. (c.type_inv.octets j).fits)) i c.loop-octet-test.true c.loop-octet.invariant.value c.loop-octet.invariant.weight c.from.ensures in
    omega (arith, r)

pub loop-octet-preserved : goal.loop-octet-preserved
loop-octet-preserved c =
    let first = take c.min.result c.args.octets.now in
    let i : c.loop-octet.octet-index < 8 = omega (arith, c.loop-octet-test.true, c.min.ensures, length-take c.min.result c.args.octets.now) in
    record {
      value = with_next first c.loop-octet.octet-index c.loop-octet.front c.loop-octet.weight c.from.result i c.loop-octet-test.true
          c.loop-octet.invariant.value c.loop-octet.invariant.weight c.from.ensures;
      weight = ap (λ w. w / 256) c.loop-octet.invariant.weight ∙ worth_next (8 - c.loop-octet.octet-index) (8 - (c.loop-octet.octet-index + 1)) (omega (arith, i));
    }

pub returns : goal.returns
returns c =
    c.loop-octet.invariant.value ∙ ap (leading 8) (take_all c.loop-octet.octet-index (take c.min.result c.args.octets.now) c.loop-octet-test.false)
    ∙ leading_front 8 c.min.result c.args.octets.now (λ h. omega (arith, h, c.min.ensures))
