use Rattle.std.specs.Prelude.{true, false, [], ◌∷◌}
use Rattle.std.proofs.Common.{refl}
use Rattle.asn1_model.specs.Value.{Value, truth, nothing}
use Rattle.asn1_model.specs.Schema.{boolean, null}
use Rattle.asn1_model.specs.Rules.{IsEncoding, uper, aper, oer, coer, lenient, strict_oer, octet_bits}
use Rattle.asn1_model.specs.Per
use Rattle.asn1_model.specs.Oer
use Rattle.asn1_model.proofs.OnValues.{on_values}
use Rattle.asn1_model_rows.proofs.Plain.{is_plain, bits_not_read, octets_not_read}
use Rattle.asn1_model_rows.proofs.no_value_rows.Goals as goal

five : (v : Value) → IsEncoding coer boolean v (0x05 ∷ []) → ⊥
unfolding on_values IsEncoding is_plain
five (truth true) r = octets_not_read strict_oer (Oer.form boolean (truth true)) (0x05 ∷ []) refl refl r.1
five (truth false) r = octets_not_read strict_oer (Oer.form boolean (truth false)) (0x05 ∷ []) refl refl r.1
five v r = octets_not_read strict_oer (Oer.form boolean v) (0x05 ∷ []) refl refl r.1

two : (v : Value) → IsEncoding coer boolean v (0xFF ∷ 0xFF ∷ []) → ⊥
unfolding on_values IsEncoding is_plain
two (truth true) r = octets_not_read strict_oer (Oer.form boolean (truth true)) (0xFF ∷ 0xFF ∷ []) refl refl r.1
two (truth false) r = octets_not_read strict_oer (Oer.form boolean (truth false)) (0xFF ∷ 0xFF ∷ []) refl refl r.1
two v r = octets_not_read strict_oer (Oer.form boolean v) (0xFF ∷ 0xFF ∷ []) refl refl r.1

one_octet : (v : Value) → IsEncoding oer null v (0x00 ∷ []) → ⊥
unfolding on_values IsEncoding is_plain
one_octet nothing r = octets_not_read lenient (Oer.form null nothing) (0x00 ∷ []) refl refl r.1
one_octet v r = octets_not_read lenient (Oer.form null v) (0x00 ∷ []) refl refl r.1

not_zero : (v : Value) → IsEncoding uper null v (0x01 ∷ []) → ⊥
unfolding on_values IsEncoding is_plain
not_zero nothing r = bits_not_read lenient (Per.message false null nothing) (octet_bits (0x01 ∷ [])) refl refl r.1
not_zero v r = bits_not_read lenient (Per.message false null v) (octet_bits (0x01 ∷ [])) refl refl r.1

no_octet : (v : Value) → IsEncoding aper null v [] → ⊥
unfolding on_values IsEncoding is_plain
no_octet nothing r = bits_not_read lenient (Per.message true null nothing) (octet_bits []) refl refl r.1
no_octet v r = bits_not_read lenient (Per.message true null v) (octet_bits []) refl refl r.1

pub returns : goal.returns
returns c = (five, two, one_octet, not_zero, no_octet)
