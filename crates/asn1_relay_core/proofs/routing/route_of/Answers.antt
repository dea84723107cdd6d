use Rattle.std.proofs.Common.{◌+◌, ◌≤◌, length, Some, refl, arith}
use Rattle.asn1_schema_laws.proofs.Joined.{raised}
use Rattle.asn1_relay_core.specs.Routing.{arrived, outcome_of}
use Rattle.asn1_relay_core.proofs.Outcomes.{some_hop, nothing_passed, all_passed, next_passed, refused_there, is_reached, only_outcome}
use Rattle.asn1_relay_core.proofs.routing.route_of.Goals as goal

pub returns-in_err-octets-clause-right : goal.returns-in_err-octets-clause-right
returns-in_err-octets-clause-right g c =
    let old = g.Old.MessageSchema.schema c.args.older.now 128 in
    let new = g.New.MessageSchema.schema c.args.newer.now 128 in
    refused_there old new c.args.from c.args.hops.now c.args.input.now c.args.from c.args.input.now 0 (some_hop c.args.hops.now c.requires)
    (nothing_passed old new c.args.from c.args.hops.now c.args.input.now) c.args.input.now refl c.from_residual.result c.in_err-octets.field-0.0
    c.from_residual.ensures.1 c.in_err-octets.ensures.named c.in_err-octets.ensures.right

pub returns-in_err-octets-clause-exact : goal.returns-in_err-octets-clause-exact
returns-in_err-octets-clause-exact g c =
    let old = g.Old.MessageSchema.schema c.args.older.now 128 in
    let new = g.New.MessageSchema.schema c.args.newer.now 128 in
    let k = g.met.Old.MessageType.lawful c.args.older.now in
    let l = g.met.New.MessageType.lawful c.args.newer.now in
    only_outcome old new c.args.from c.args.hops.now c.args.input.now k l (outcome_of c.from_residual.result) (returns-in_err-octets-clause-right g c)

pub returns-in_err-octets-2-clause-right : goal.returns-in_err-octets-2-clause-right
returns-in_err-octets-2-clause-right g c =
    let old = g.Old.MessageSchema.schema c.args.older.now 128 in
    let new = g.New.MessageSchema.schema c.args.newer.now 128 in
    refused_there old new c.args.from c.args.hops.now c.args.input.now c.loop-place.rules c.loop-place.octets.items c.loop-place.place
    c.loop-place-test.true c.loop-place.invariant.1 c.as_slice.result.now c.as_slice.ensures.value c.from_residual-in_err-octets-2.result
    c.in_err-octets-2.field-0.0 c.from_residual-in_err-octets-2.ensures.1 c.in_err-octets-2.ensures.named c.in_err-octets-2.ensures.right

pub returns-in_err-octets-2-clause-exact : goal.returns-in_err-octets-2-clause-exact
returns-in_err-octets-2-clause-exact g c =
    let old = g.Old.MessageSchema.schema c.args.older.now 128 in
    let new = g.New.MessageSchema.schema c.args.newer.now 128 in
    let k = g.met.Old.MessageType.lawful c.args.older.now in
    let l = g.met.New.MessageType.lawful c.args.newer.now in
    only_outcome old new c.args.from c.args.hops.now c.args.input.now k l (outcome_of c.from_residual-in_err-octets-2.result) (returns-in_err-octets-2-clause-right g c)

pub returns-in_err-octets-2-clause-reached : goal.returns-in_err-octets-2-clause-reached
returns-in_err-octets-2-clause-reached g c =
    let old = g.Old.MessageSchema.schema c.args.older.now 128 in
    let new = g.New.MessageSchema.schema c.args.newer.now 128 in
    raised _ _ _ c.from_residual-in_err-octets-2.ensures.1 (is_reached old new c.args.from c.args.hops.now c.args.input.now c.loop-place.rules
    c.loop-place.octets.items c.loop-place.place c.loop-place-test.true c.loop-place.invariant.1 c.as_slice.result.now c.as_slice.ensures.value
    c.in_err-octets-2.field-0.0 c.in_err-octets-2.ensures.named)

pub loop-place-preserved : goal.loop-place-preserved
loop-place-preserved g c =
    let old = g.Old.MessageSchema.schema c.args.older.now 128 in
    let new = g.New.MessageSchema.schema c.args.newer.now 128 in
    let within : c.loop-place.place + 1 ≤ length c.args.hops.now = omega arith in (
      within,
      next_passed old new c.args.from c.args.hops.now c.args.input.now c.loop-place.rules c.loop-place.octets.items c.loop-place.place
          c.loop-place-test.true c.loop-place.invariant.1 c.as_slice.result.now c.as_slice.ensures.value c.in_ok-octets-2.octets.items c.in_ok-octets-2.ensures.right,
    )

pub returns-clause-right : goal.returns-clause-right
returns-clause-right g c =
    let old = g.Old.MessageSchema.schema c.args.older.now 128 in
    let new = g.New.MessageSchema.schema c.args.newer.now 128 in
    all_passed old new c.args.from c.args.hops.now c.args.input.now c.loop-place.rules c.loop-place.octets.items c.loop-place.place c.loop-place-test.false c.loop-place.invariant.1

pub returns-clause-exact : goal.returns-clause-exact
returns-clause-exact g c =
    let old = g.Old.MessageSchema.schema c.args.older.now 128 in
    let new = g.New.MessageSchema.schema c.args.newer.now 128 in
    let k = g.met.Old.MessageType.lawful c.args.older.now in
    let l = g.met.New.MessageType.lawful c.args.newer.now in
    only_outcome old new c.args.from c.args.hops.now c.args.input.now k l (Some (arrived c.loop-place.octets.items)) (returns-clause-right g c)
