use Rattle.std.proofs.Common.{refl}
use Rattle.asn1_model.specs.Value.{same, same_members, same_bag, same_parts}
use Rattle.asn1_model.specs.Normal.{normal, normal_parts, normal_alternative}
use Rattle.asn1_model.specs.Tidy.{is_normal, are_normal, is_normal_alternative, is_tidy, are_tidy, are_tidy_alternatives}
use Rattle.asn1_laws_values.specs.Tidied.{tidied, tidied_each, tidied_alternatives}
use Rattle.asn1_laws_values.proofs.unfolding_laws.tidy_rows.Goals as goal

pub returns : goal.returns
unfolding normal normal_parts normal_alternative is_normal are_normal is_normal_alternative same same_members same_bag
    same_parts tidied tidied_each tidied_alternatives is_tidy are_tidy are_tidy_alternatives
returns c = (refl, refl, refl)
