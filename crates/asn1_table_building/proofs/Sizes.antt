-- Sizes and arcs.
use Rattle.std.proofs.Common.{◌≡◌, ◌∙◌, sym, String, Global, string_bytes, ap, ℕ, true, false, ◌&&◌, ◌||◌, List, [], ◌∷◌, length, refl, arith}
use Rattle.std.proofs.lemmas.Bool.{le-leb}
use Rattle.asn1_model.specs.Numbers.{admits, is_count_within}
use Rattle.asn1_model.specs.Schema.{Size, any_count}
use Rattle.asn1_model.specs.Strings.{is_identifier}
use Rattle.std.proofs.lemmas.Str.{is_utf8-from_IsUtf8, IsUtf8-string_bytes}
use Rattle.std.proofs.lemmas.Bool.{and_from}
use Rattle.asn1_table_building.specs.Admitted.{is_text_of}
use Rattle.asn1_table_tape.specs.Strings.{kind_in, text_of}
use Rattle.asn1_table_tape.specs.declared.strings.CharacterString.{CharacterString}
use Rattle.asn1_table_tape.specs.declared.strings.CharacterString.TheVariants.{Utf8}

-- a string of any length is held
pub any_length : (n : ℕ) → is_count_within any_count n ≡ true
any_length n = ap (λ b. b && true) (le-leb 0 n (omega arith))

pub any_size : (z : Size) (n : ℕ) → admits z any_count n ≡ (z.extensible || is_count_within z.counts n)
any_size z n = ap (λ b. b && (z.extensible || is_count_within z.counts n)) (any_length n)

pub one_arc : (ns : List ℕ) → length ns ≡ 1 → is_identifier ns ≡ false
one_arc [] e = refl
one_arc (a ∷ []) e = refl
one_arc (a ∷ b ∷ ns) e = absurd (omega (arith, e))

-- a UTF8String is one of its type, whatever its size
pub utf8_inside : (z : Size) (x : CharacterString) (s : String Global) → x ≡ Utf8 s → true ≡ is_text_of z (kind_in x) (text_of x)
utf8_inside z x s e = sym (ap (λ t. is_text_of z (kind_in t) (text_of t)) e
    ∙ and_from _ _ (and_from _ _ (is_utf8-from_IsUtf8 (string_bytes s) (IsUtf8-string_bytes s)) (any_length (length (string_bytes s)))) refl)
