-- What precedes the components of a SEQUENCE (X.696 16.2).
use Rattle.std.specs.Prelude.{◌≡◌, ℕ, Bool, false, List, ◌++◌, length, replicate}
use Rattle.asn1_model.specs.Numbers.{packed, missing}
use Rattle.std.specs.Prelude.{is_some}
use Rattle.oer_codec_laws.specs.Takes.{Scope, components}
use Rattle.asn1_schema_reading_laws.specs.PresenceBits.{preamble_bits}

-- The octets begin with bits, and unused bits of zero up to a whole number of octets.
abbrev pub WithUnusedBits : List Bool → List ℕ → List ℕ → Type 0
WithUnusedBits bs os rest = (w : List ℕ) × (packed (bs ++ replicate (missing (length bs)) false) ≡ w) × (w ++ rest ≡ os)

-- The extension bit, if there is one, and a number of presence bits, before further bits, and the scope that they open.
abbrev pub HasBits : Bool → ℕ → Scope → List Bool → List Bool → Type 0
HasBits e n (components x ms) bs more = (is_some x ≡ e) × (length ms ≡ n) × (preamble_bits x ms ++ more ≡ bs)
HasBits e n s bs more = ⊥

-- The preamble of a SEQUENCE with or without an extension marker and with a number of components that may be absent,
-- and the scope that it opens.
abbrev pub HasPreamble : Bool → ℕ → Scope → List ℕ → List ℕ → Type 0
HasPreamble e n (components x ms) os rest = (is_some x ≡ e) × (length ms ≡ n)
    × WithUnusedBits (preamble_bits x ms) os rest
HasPreamble e n s os rest = ⊥
