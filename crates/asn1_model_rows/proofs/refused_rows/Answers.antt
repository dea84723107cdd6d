use Rattle.std.specs.Prelude.{◌≡◌, ℕ, ◌==◌, true, false, List}
use Rattle.std.proofs.Common.{refl}
use Rattle.asn1_model.specs.Value.{Value, same_truth}
use Rattle.asn1_model.specs.Schema.{Schema}
use Rattle.asn1_model.specs.Form.{written}
use Rattle.asn1_model.specs.Rules.{IsEncoding, uper, aper, uper_strict, aper_strict, oer, coer, lenient, strict_per, strict_oer, octet_bits}
use Rattle.asn1_model.specs.Per
use Rattle.asn1_model.specs.Oer
use Rattle.asn1_model.proofs.OnValues.{on_values}
use Rattle.asn1_model_rows.proofs.Plain.{is_plain, is_text, bits_not_read, octets_not_read}
use Rattle.asn1_model_rows.proofs.refused_rows.Goals as goal

-- an encoding of a value whose form is plain is the canonical one, in each set of rules
by_coer : (s : Schema) (v : Value) (w : List ℕ) → IsEncoding coer s v w → is_plain strict_oer (Oer.form s v) 0 ≡ true → is_text ◌==◌ (written (Oer.form s v) 0) w ≡ false → ⊥
unfolding IsEncoding
by_coer s v w r h n = octets_not_read strict_oer (Oer.form s v) w h n r.1

by_oer : (s : Schema) (v : Value) (w : List ℕ) → IsEncoding oer s v w → is_plain lenient (Oer.form s v) 0 ≡ true → is_text ◌==◌ (written (Oer.form s v) 0) w ≡ false → ⊥
unfolding IsEncoding
by_oer s v w r h n = octets_not_read lenient (Oer.form s v) w h n r.1

by_uper : (s : Schema) (v : Value) (w : List ℕ) → IsEncoding uper s v w → is_plain lenient (Per.message false s v) 0 ≡ true →
    is_text same_truth (written (Per.message false s v) 0) (octet_bits w) ≡ false → ⊥
unfolding IsEncoding
by_uper s v w r h n = bits_not_read lenient (Per.message false s v) (octet_bits w) h n r.1

by_aper : (s : Schema) (v : Value) (w : List ℕ) → IsEncoding aper s v w → is_plain lenient (Per.message true s v) 0 ≡ true →
    is_text same_truth (written (Per.message true s v) 0) (octet_bits w) ≡ false → ⊥
unfolding IsEncoding
by_aper s v w r h n = bits_not_read lenient (Per.message true s v) (octet_bits w) h n r.1

by_uper_strict : (s : Schema) (v : Value) (w : List ℕ) → IsEncoding uper_strict s v w → is_plain strict_per (Per.message false s v) 0 ≡ true →
    is_text same_truth (written (Per.message false s v) 0) (octet_bits w) ≡ false → ⊥
unfolding IsEncoding
by_uper_strict s v w r h n = bits_not_read strict_per (Per.message false s v) (octet_bits w) h n r.1

by_aper_strict : (s : Schema) (v : Value) (w : List ℕ) → IsEncoding aper_strict s v w → is_plain strict_per (Per.message true s v) 0 ≡ true →
    is_text same_truth (written (Per.message true s v) 0) (octet_bits w) ≡ false → ⊥
unfolding IsEncoding
by_aper_strict s v w r h n = bits_not_read strict_per (Per.message true s v) (octet_bits w) h n r.1

pub returns : goal.returns
unfolding on_values is_plain
returns c = (
  (λ r. by_coer _ _ _ r refl refl),
  (λ r. by_coer _ _ _ r refl refl),
  (λ r. by_coer _ _ _ r refl refl),
  (λ r. by_coer _ _ _ r refl refl),
  (λ r. by_coer _ _ _ r refl refl),
  (λ r. by_coer _ _ _ r refl refl),
  (λ r. by_coer _ _ _ r refl refl),
  (λ r. by_coer _ _ _ r refl refl),
  (λ r. by_coer _ _ _ r refl refl),
  (λ r. by_coer _ _ _ r refl refl),
  (λ r. by_coer _ _ _ r refl refl),
  (λ r. by_coer _ _ _ r refl refl),
  (λ r. by_coer _ _ _ r refl refl),
  (λ r. by_coer _ _ _ r refl refl),
  (λ r. by_coer _ _ _ r refl refl),
  (λ r. by_uper_strict _ _ _ r refl refl),
  (λ r. by_oer _ _ _ r refl refl),
  (λ r. by_coer _ _ _ r refl refl),
  (λ r. by_oer _ _ _ r refl refl),
  (λ r. by_uper _ _ _ r refl refl),
  (λ r. by_aper _ _ _ r refl refl),
  (λ r. by_uper _ _ _ r refl refl),
  (λ r. by_aper _ _ _ r refl refl),
  (λ r. by_oer _ _ _ r refl refl),
  (λ r. by_oer _ _ _ r refl refl),
  (λ r. by_oer _ _ _ r refl refl),
  (λ r. by_oer _ _ _ r refl refl),
  (λ r. by_oer _ _ _ r refl refl),
  (λ r. by_oer _ _ _ r refl refl),
  (λ r. by_oer _ _ _ r refl refl),
  (λ r. by_oer _ _ _ r refl refl),
  (λ r. by_uper _ _ _ r refl refl),
  (λ r. by_oer _ _ _ r refl refl),
  (λ r. by_uper _ _ _ r refl refl),
  (λ r. by_uper _ _ _ r refl refl),
  (λ r. by_uper_strict _ _ _ r refl refl),
  (λ r. by_uper_strict _ _ _ r refl refl),
  (λ r. by_aper_strict _ _ _ r refl refl),
  (λ r. by_uper_strict _ _ _ r refl refl),
  (λ r. by_uper_strict _ _ _ r refl refl),
  (λ r. by_uper_strict _ _ _ r refl refl),
  (λ r. by_uper_strict _ _ _ r refl refl),
  (λ r. by_aper_strict _ _ _ r refl refl),
  (λ r. by_uper_strict _ _ _ r refl refl),
  (λ r. by_uper_strict _ _ _ r refl refl),
  (λ r. by_uper_strict _ _ _ r refl refl),
)
