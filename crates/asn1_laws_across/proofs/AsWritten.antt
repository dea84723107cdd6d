-- Encodings that a strict reader accepts exactly as they would be written.
use Rattle.std.specs.Prelude.{◌≡◌, ◌⊎◌, ℕ, ◌+◌, ◌^◌, ◌<◌, Bool, true, false, IsTrue, List, ◌++◌, length}
use Rattle.asn1_model.specs.Value.{Value}
use Rattle.asn1_model.specs.Schema.{Schema}
use Rattle.asn1_model.specs.Form.{Form, exactly, refused, both, placed, varied, within, written}
use Rattle.asn1_model.specs.Rules.{Rules, uper, aper, uper_strict, aper_strict, octet_bits, strict_per, strict_oer}
use Rattle.asn1_model.specs.Per
use Rattle.asn1_model.specs.Oer

-- Symbols from a position on have the form, for a reader with these freedoms, where each detail that it meets writes
-- what the canonical one writes.
unfoldable pub ReadsAsWritten : {F : Type 0} {D : F → Type 0} {A : Type 0} → (F → Bool) → Form F D A → ℕ → List A → Type 0
ReadsAsWritten free (exactly l) p w = l ≡ w
ReadsAsWritten free refused p w = ⊥
ReadsAsWritten {A = A} free (both x y) p w = (a : List A) × (b : List A) × (ReadsAsWritten free x p a) × (ReadsAsWritten free y (p + length a) b) × (a ++ b ≡ w)
ReadsAsWritten free (placed f) p w = ReadsAsWritten free (f p) p w
ReadsAsWritten {D = D} free (varied c d f) p w = (e : D c) × ((e ≡ d) ⊎ (IsTrue (free c) × (written (f e) p ≡ written (f d) p))) × ReadsAsWritten free (f e) p w
ReadsAsWritten {A = A} free (within x f) p w = (a : List A) × (ReadsAsWritten free x 0 a) × (ReadsAsWritten free (f a) p w)

-- All of the octets are one encoding of the value for the strict reader of these rules, where each detail that it
-- meets writes what the canonical one writes.
unfoldable pub IsEncodingAsWritten : Rules → Schema → Value → List ℕ → Type 0
IsEncodingAsWritten uper s v w = (length w < 2 ^ 60) × ReadsAsWritten strict_per (Per.message false s v) 0 (octet_bits w)
IsEncodingAsWritten uper_strict s v w = (length w < 2 ^ 60) × ReadsAsWritten strict_per (Per.message false s v) 0 (octet_bits w)
IsEncodingAsWritten aper s v w = (length w < 2 ^ 60) × ReadsAsWritten strict_per (Per.message true s v) 0 (octet_bits w)
IsEncodingAsWritten aper_strict s v w = (length w < 2 ^ 60) × ReadsAsWritten strict_per (Per.message true s v) 0 (octet_bits w)
IsEncodingAsWritten r s v w = (length w < 2 ^ 60) × ReadsAsWritten strict_oer (Oer.form s v) 0 w
