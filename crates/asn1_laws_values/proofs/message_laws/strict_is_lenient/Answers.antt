use Rattle.std.proofs.Common.{refl}
use Rattle.asn1_model.specs.Rules.{IsEncoding}
use Rattle.asn1_model.proofs.Forms.{widens}
use Rattle.asn1_laws_values.proofs.message_laws.strict_is_lenient.Goals as goal

pub returns : goal.returns
unfolding IsEncoding
returns c = λ s v w. (λ r. (r.0, widens _ _ _ _ _ (λ c h. refl) r.1), λ r. (r.0, widens _ _ _ _ _ (λ c h. refl) r.1), λ r. (r.0, widens _ _ _ _ _ (λ c h. refl) r.1))
