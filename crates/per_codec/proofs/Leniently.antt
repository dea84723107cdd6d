-- What strict rules may answer, the lenient ones may answer, and nothing else.
use Rattle.std.proofs.Common.{◌≡◌, ◌⊎◌, ℕ, List, inl, inr, refl}
use Rattle.asn1_model.specs.Value.{Value}
use Rattle.asn1_model.specs.Schema.{Schema}
use Rattle.asn1_model.specs.Rules.{Rules, uper, aper, uper_strict, aper_strict, IsEncoding}
use Rattle.asn1_model.proofs.Forms.{widens}
use Rattle.asn1_laws_fronts.specs.Laws.{OneFrontIn}
use Rattle.asn1_schema_errors.specs.declared.DecodeError.{DecodeError}
use Rattle.asn1_schema_errors.specs.declared.DecodeError.TheVariants.{OutOfMemory}
use Rattle.asn1_schema_decode.proofs.Once.{one_message}
use Rattle.per_codec.specs.Messages.{IsToldToo, IsToldAlone, IsRefusedForMemory}

abbrev pub Widens : Rules → Rules → Type 0
Widens strict wide = (s : Schema) (v : Value) (w : List ℕ) → IsEncoding strict s v w → IsEncoding wide s v w

pub uper_widens : Widens uper_strict uper
unfolding IsEncoding
uper_widens s v w r = (r.0, widens _ _ _ _ _ (λ c h. refl) r.1)

pub aper_widens : Widens aper_strict aper
unfolding IsEncoding
aper_widens s v w r = (r.0, widens _ _ _ _ _ (λ c h. refl) r.1)

pub told_too : (strict wide : Rules) → Widens strict wide → IsToldToo strict wide
told_too strict wide h schema v input rest t = record {
  raw = t.raw;
  message = record {
    message = t.message.message;
    in_front = t.message.in_front;
    encoding = h (schema 128) t.raw t.message.message t.message.encoding;
    levels = t.message.levels;
  };
  means = t.means;
}

pub told_alone : (strict wide : Rules) → Widens strict wide → OneFrontIn wide → IsToldAlone strict wide
told_alone strict wide h one schema v w input x y lawful t u =
    one_message wide one schema v w input x y lawful (told_too strict wide h schema v input x t) u

is_memory : (e : DecodeError) → (e ≡ OutOfMemory) ⊎ ¬ (e ≡ OutOfMemory)
is_memory OutOfMemory = inl refl
is_memory e = inr (λ h. cc)

pub for_memory : (strict wide : Rules) → Widens strict wide → IsRefusedForMemory strict wide
for_memory strict wide h schema v input rest e t n = told (is_memory e)
  where
    told : (e ≡ OutOfMemory) ⊎ ¬ (e ≡ OutOfMemory) → e ≡ OutOfMemory
    told (inl m) = m
    told (inr m) = let u = told_too strict wide h schema v input rest t in absurd (n.none m u.raw rest u.message)
