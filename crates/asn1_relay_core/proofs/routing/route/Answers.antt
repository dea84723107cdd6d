use Rattle.asn1_relay_core.specs.Coding.{rules_of}
use Rattle.asn1_relay_core.specs.Routing.{hops_of, outcome_of}
use Rattle.asn1_relay_core.proofs.Outcomes.{some_model_hop}
use Rattle.asn1_relay_core.proofs.Canonical.{is_told, only_told}
use Rattle.asn1_relay_core.proofs.routing.route.Goals as goal

pub returns-clause-told : goal.returns-clause-told
returns-clause-told g c = λ n v h.
    let k = g.Old.Described.typed.lawful in
    let l = g.New.Described.typed.lawful in
    let x = g.met.New.Extends in
    is_told g.Old.Described.schema g.New.Described.schema k l g.Old.Described.typed.tidy g.New.Described.typed.tidy x.extends x.old_unfolds x.unfolds
    (rules_of c.args.from) (hops_of c.args.hops.now) c.args.input.now (some_model_hop c.args.hops.now c.requires) n v h (outcome_of c.route_of.result) c.route_of.ensures.right

pub returns-clause-only_told : goal.returns-clause-only_told
returns-clause-only_told g c = λ n v o h p.
    let k = g.Old.Described.typed.lawful in
    let l = g.New.Described.typed.lawful in
    let x = g.met.New.Extends in
    only_told g.Old.Described.schema g.New.Described.schema k l g.Old.Described.typed.tidy g.New.Described.typed.tidy x.extends x.old_unfolds
    x.unfolds (rules_of c.args.from) (hops_of c.args.hops.now) c.args.input.now (some_model_hop c.args.hops.now c.requires) n v h
    (outcome_of c.route_of.result) c.route_of.ensures.right o p
