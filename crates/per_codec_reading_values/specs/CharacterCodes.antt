-- Characters whose codes are some bits (X.691 30.5).
use Rattle.std.specs.Prelude.{◌≡◌, ◌⊎◌, ℕ, ◌^◌, ◌<◌, Bool, true, List, length, flat_map, Some}
use Rattle.asn1_model.specs.Schema.{StringKind}
use Rattle.std.specs.List.{list_all}
use Rattle.asn1_schema_errors.specs.declared.DecodeError.{DecodeError}
use Rattle.asn1_schema_errors.specs.declared.DecodeError.TheVariants.{OutOfMemory}
use Rattle.asn1_values_alphabets.specs.Permitted.{permits_all}
use Rattle.per_codec_alphabets.specs.Codes.{Coded, code_of, has_code, text_of}

-- Permitted characters whose codes in sequence are these bits.
pub record Spells (k : StringKind) (a : Coded) (cs : List ℕ) (w : List Bool) : Type 0 where
  pub permitted : permits_all k cs ≡ true
  pub coded : list_all (has_code a) cs ≡ true
  pub spelled : flat_map (text_of a) cs ≡ w

-- No characters of this number have these codes.
abbrev pub Stuck : StringKind → Coded → ℕ → List Bool → Type 0
Stuck k a n w = (cs : List ℕ) → length cs ≡ n → Spells k a cs w → ⊥

-- Each code fits in its bits.
pub record IsFitting (a : Coded) : Type 0 where
  pub fits : (c code : ℕ) → code_of a c ≡ Some code → code < 2 ^ a.code_bits

-- Why characters with these codes are refused: memory ran out, or there are none, if each code fits.
abbrev pub IsRefused : StringKind → Coded → ℕ → List Bool → DecodeError → Type 0
IsRefused k a n w e = (e ≡ OutOfMemory) ⊎ (IsFitting a → Stuck k a n w)
