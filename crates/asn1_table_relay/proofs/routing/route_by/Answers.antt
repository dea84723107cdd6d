use Rattle.asn1_relay_core.specs.Coding.{rules_of}
use Rattle.asn1_relay_core.specs.Routing.{hops_of, outcome_of}
use Rattle.asn1_relay_core.proofs.Outcomes.{some_model_hop}
use Rattle.asn1_relay_core.proofs.Canonical.{is_told, only_told}
use Rattle.asn1_table_relay.specs.Schemas.{older_of, newer_of}
use Rattle.asn1_table_relay.proofs.Known.{old_lawful, new_lawful, old_tidy, new_tidy, extends, old_unfolds, new_unfolds}
use Rattle.asn1_table_relay.proofs.routing.route_by.Goals as goal

pub returns-clause-told : goal.returns-clause-told
returns-clause-told c = λ n u h.
    let v = c.args.versions.now in
    is_told (older_of v) (newer_of v) (old_lawful v) (new_lawful v) (old_tidy v) (new_tidy v) (extends v c.requires.newer) (old_unfolds v) (new_unfolds v)
    (rules_of c.args.from) (hops_of c.args.hops.now) c.args.input.now (some_model_hop c.args.hops.now c.requires.some) n u h
    (outcome_of c.route_of.result) c.route_of.ensures.right

pub returns-clause-only_told : goal.returns-clause-only_told
returns-clause-only_told c = λ n u o h p.
    let v = c.args.versions.now in
    only_told (older_of v) (newer_of v) (old_lawful v) (new_lawful v) (old_tidy v) (new_tidy v) (extends v c.requires.newer) (old_unfolds v) (new_unfolds v)
    (rules_of c.args.from) (hops_of c.args.hops.now) c.args.input.now (some_model_hop c.args.hops.now c.requires.some) n u h
    (outcome_of c.route_of.result) c.route_of.ensures.right o p
