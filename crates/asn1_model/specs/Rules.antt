-- Six sets of encoding rules: what is written in each, and what each reader accepts.
use Rattle.std.specs.Prelude.{ℕ, ◌^◌, ◌<◌, ltb, Bool, true, false, cond, List, length, Option, Some, None, option_map}
use Rattle.std.specs.Prelude.{option_and_then}
use Rattle.asn1_model.specs.Value.{Value}
use Rattle.asn1_model.specs.Schema.{Schema}
pub use Rattle.asn1_model.specs.Numbers.{octet_bits}
use Rattle.asn1_model.specs.Numbers.{packed}
use Rattle.asn1_model.specs.Normal.{normal}
use Rattle.asn1_model.specs.Form.{Freedom, empty_bitmap, other_bitmap, other_order, written, Reads}
use Rattle.asn1_model.specs.Per
use Rattle.asn1_model.specs.Oer

-- Unaligned and aligned PER, each with a lenient and a strict reader (X.691), OER, and canonical OER (X.696). OER is
-- written as COER.
pub data Rules : Type 0 where
  uper : Rules
  aper : Rules
  uper_strict : Rules
  aper_strict : Rules
  oer : Rules
  coer : Rules

-- The freedoms of the readers of UPER, APER and OER: all, by this project's choice.
abbrev pub lenient : {F : Type 0} → F → Bool
lenient c = true

-- The freedoms of the strict readers of PER: wider and narrower bitmaps, and SET OF in any order.
abbrev pub strict_per : Freedom → Bool
strict_per other_bitmap = true
strict_per other_order = true
strict_per c = false

-- The freedoms of the reader of COER: those of strict PER, and bitmaps with no bit set.
abbrev pub strict_oer : Freedom → Bool
strict_oer empty_bitmap = true
strict_oer c = strict_per c

-- The canonical PER message of a value as given, in octets, before the limit on its length (X.691 11.1).
unfoldable pub per : Bool → Schema → Value → Option (List ℕ)
per aligned s v = option_map packed (written (Per.message aligned s v) 0)

-- The canonical OER octets of a value as given (X.696).
unfoldable pub octet_encoding : Schema → Value → Option (List ℕ)
octet_encoding s v = written (Oer.form s v) 0

-- The canonical octets of a value as given, in each set of rules.
unfoldable pub encoding : Rules → Schema → Value → Option (List ℕ)
encoding uper s v = per false s v
encoding uper_strict s v = per false s v
encoding aper s v = per true s v
encoding aper_strict s v = per true s v
encoding r s v = octet_encoding s v

-- An encoding has fewer than 2 ^ 60 octets, by this project's choice.
abbrev pub of_moderate_length : List ℕ → Option (List ℕ)
of_moderate_length w = cond (ltb (length w) (2 ^ 60)) (Some w) None

-- What every encoder writes: the encoding of the normal form.
unfoldable pub canonical : Rules → Schema → Value → Option (List ℕ)
canonical r s v = option_and_then of_moderate_length (encoding r s (normal s v))

-- All of the octets are one encoding of the value for the reader of these rules. A component is present in the value
-- exactly if it is encoded, so the value has as many nested levels as are read.
unfoldable pub IsEncoding : Rules → Schema → Value → List ℕ → Type 0
IsEncoding uper s v w = (length w < 2 ^ 60) × Reads lenient (Per.message false s v) 0 (octet_bits w)
IsEncoding aper s v w = (length w < 2 ^ 60) × Reads lenient (Per.message true s v) 0 (octet_bits w)
IsEncoding uper_strict s v w = (length w < 2 ^ 60) × Reads strict_per (Per.message false s v) 0 (octet_bits w)
IsEncoding aper_strict s v w = (length w < 2 ^ 60) × Reads strict_per (Per.message true s v) 0 (octet_bits w)
IsEncoding oer s v w = (length w < 2 ^ 60) × Reads lenient (Oer.form s v) 0 w
IsEncoding coer s v w = (length w < 2 ^ 60) × Reads strict_oer (Oer.form s v) 0 w
