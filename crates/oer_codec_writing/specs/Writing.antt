-- What a writer of octets did: it appended a text, or there is no text, or memory ran out.
use Rattle.std.specs.Prelude.{◌≡◌, ℕ, ◌+◌, ◌/◌, List, [], ◌∷◌, ◌++◌, Option, Some, None, option_map}
use Rattle.asn1_model.specs.Form.{exactly, both}
use Rattle.asn1_model.specs.Numbers.{missing}
use Rattle.asn1_model.specs.Oer
use Rattle.asn1_schema_errors.specs.declared.EncodeError.{EncodeError}
use Rattle.asn1_schema_errors.specs.declared.EncodeError.TheVariants.{AlreadyFailed, OutOfMemory}

-- What precedes `n` bits if the size is not fixed: the length of what follows, and the number of unused bits (X.696
-- 13).
abbrev pub bits_heading : ℕ → Oer.OctetForm
bits_heading n = both (Oer.length_form ((n + 7) / 8 + 1)) (exactly (missing n ∷ []))

-- The text follows what was there before.
abbrev pub Adds : Option (List ℕ) → List ℕ → List ℕ → Type 0
Adds text old new = option_map (λ w. old ++ w) text ≡ Some new

-- Why no text was added: memory ran out, or there is no text. A writer does not know of earlier errors.
abbrev pub Refuses : Option (List ℕ) → EncodeError → Type 0
Refuses text OutOfMemory = Unit {0}
Refuses text AlreadyFailed = ⊥
Refuses text e = text ≡ None
