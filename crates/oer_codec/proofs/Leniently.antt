-- What COER may answer, OER may answer, and nothing else.
use Rattle.std.proofs.Common.{◌≡◌, ◌⊎◌, ℕ, List, inl, inr, refl}
use Rattle.asn1_model.specs.Value.{Value}
use Rattle.asn1_model.specs.Schema.{Schema}
use Rattle.asn1_model.specs.Rules.{oer, coer, IsEncoding}
use Rattle.asn1_model.proofs.Forms.{widens}
use Rattle.asn1_laws_fronts.proofs.OctetForms.{one_front_oer}
use Rattle.asn1_schema_errors.specs.declared.DecodeError.{DecodeError}
use Rattle.asn1_schema_errors.specs.declared.DecodeError.TheVariants.{OutOfMemory}
use Rattle.asn1_schema_decode.proofs.Once.{one_message}
use Rattle.oer_codec.specs.Messages.{StrictIsToldLeniently, NothingElseIsToldLeniently, StrictIsRefusedForMemory}

encoded_too : (s : Schema) (v : Value) (w : List ℕ) → IsEncoding coer s v w → IsEncoding oer s v w
unfolding IsEncoding
encoded_too s v w r = (r.0, widens _ _ _ _ _ (λ c h. refl) r.1)

pub told_too : StrictIsToldLeniently
told_too schema v input rest t = record {
  raw = t.raw;
  message = record {
    message = t.message.message;
    in_front = t.message.in_front;
    encoding = encoded_too (schema 128) t.raw t.message.message t.message.encoding;
    levels = t.message.levels;
  };
  means = t.means;
}

pub told_alone : NothingElseIsToldLeniently
told_alone schema v w input x y lawful t u =
    one_message oer one_front_oer schema v w input x y lawful (told_too schema v input x t) u

is_memory : (e : DecodeError) → (e ≡ OutOfMemory) ⊎ ¬ (e ≡ OutOfMemory)
is_memory OutOfMemory = inl refl
is_memory e = inr (λ h. cc)

pub for_memory : StrictIsRefusedForMemory
for_memory schema v input rest e t n = told (is_memory e)
  where
    told : (e ≡ OutOfMemory) ⊎ ¬ (e ≡ OutOfMemory) → e ≡ OutOfMemory
    told (inl m) = m
    told (inr m) = let u = told_too schema v input rest t in absurd (n.none m u.raw rest u.message)
