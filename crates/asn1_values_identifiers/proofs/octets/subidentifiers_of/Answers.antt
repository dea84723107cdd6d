use Rattle.std.proofs.Common.{◌≡◌, ◌≤◌, length, true, subst}
use Rattle.std.specs.Prelude.{IfSome, IfNone}
use Rattle.asn1_model.specs.Strings.{identifier_octets, is_identifier}
use Rattle.asn1_values_identifiers.specs.Groups.{contents}
use Rattle.asn1_values_identifiers.proofs.octets.subidentifiers_of.Goals as goal

pub returns-clause-octets : goal.returns-clause-octets
returns-clause-octets c = subst (λ ns. IfSome c.split_arcs.result (λ p. identifier_octets ns ≡ contents p.0 p.1.now)) c.as_slice.ensures.value c.split_arcs.ensures.octets

pub returns-clause-identifier : goal.returns-clause-identifier
returns-clause-identifier c = subst (λ ns. IfSome c.split_arcs.result (λ _. is_identifier ns ≡ true)) c.as_slice.ensures.value c.split_arcs.ensures.identifier

pub returns-clause-several : goal.returns-clause-several
returns-clause-several c = subst (λ ns. IfSome c.split_arcs.result (λ _. 2 ≤ length ns)) c.as_slice.ensures.value c.split_arcs.ensures.several

pub returns-clause-none : goal.returns-clause-none
returns-clause-none c = subst (λ ns. IfNone c.split_arcs.result (length ns ≡ 1)) c.as_slice.ensures.value c.split_arcs.ensures.none
