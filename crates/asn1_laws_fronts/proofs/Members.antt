-- Elements that are equal in pairs.
use Rattle.std.proofs.Common.{◌≡◌, true, refl}
use Rattle.std.proofs.lemmas.Bool.{and_from}
use Rattle.asn1_model.specs.Value.{Values, no_more, member, same, same_members}
use Rattle.asn1_laws_values.proofs.Listed.{listed}
use Rattle.asn1_laws_fronts.proofs.Fronts.{Pairwise}

pub members_same : (vs ws : Values) → Pairwise (λ v w. same v w ≡ true) (listed vs) (listed ws) → same_members vs ws ≡ true
unfolding same_members
members_same no_more no_more h = refl
members_same no_more (member w ws) h = absurd h
members_same (member v vs) no_more h = absurd h
members_same (member v vs) (member w ws) h = and_from _ _ h.0 (members_same vs ws h.1)
