use Rattle.std.proofs.Common.{refl}
use Rattle.asn1_model.specs.Value.{same, same_members, same_bag, same_parts}
use Rattle.asn1_model.specs.Normal.{normal, normal_parts, normal_alternative}
use Rattle.asn1_schema_laws.specs.Presents.{presents, root_records, added_records, chosen_records}
use Rattle.asn1_schema_laws.proofs.record_laws.addition_rows.Goals as goal

pub returns : goal.returns
unfolding presents root_records added_records chosen_records normal normal_parts normal_alternative same same_members same_bag same_parts
returns c = (refl, refl, refl, refl)
