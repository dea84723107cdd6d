use Rattle.std.proofs.Common.{sym, subst}
use Rattle.asn1_laws_values.proofs.Carried.{tidied_extends}
use Rattle.asn1_laws_values.proofs.unfolding_laws.tidied_keeps_versions.Goals as goal

pub returns : goal.returns
returns c = λ s t. (λ h. subst (λ x. x) (sym (tidied_extends s t)) h, λ h. subst (λ x. x) (tidied_extends s t) h)
