-- How a character string is kept.
use Rattle.std.specs.Str.{is_utf8, chars}
use Rattle.std.specs.Char.{encode_utf8}
use Rattle.asn1_model.specs.Schema.{any_alphabet}
use Rattle.std.proofs.Common.{◌≡◌, ℕ, true, false, List, [], ◌∷◌, ◌++◌, refl, sym, ◌∙◌, ap}
use Rattle.asn1_model.specs.Schema.{Counts, Size, Alphabet, StringKind, utf8, visible, any_count}
use Rattle.asn1_model.specs.Strings.{may_hold}
use Rattle.asn1_schema_laws.specs.Records.{Record, characters}
use Rattle.asn1_schema_records.specs.Kept.{Written, Puts, kept, kept_kind}
use Rattle.asn1_values_alphabets.specs.Permitted.{permits_all}

-- UTF8String has no alphabet of single octets
pub kind_kept : (t : StringKind) → ((cs : List ℕ) → may_hold t cs ≡ permits_all t cs) → kept_kind t ≡ visible
unfolding is_utf8 chars encode_utf8
kind_kept utf8 law = let e : false ≡ true = law (195 ∷ []) in cc
kind_kept t law = refl

pub puts_characters : (a b : Written) (t : StringKind) → ((cs : List ℕ) → may_hold t cs ≡ permits_all t cs) → {y z : Size} (l : Alphabet) (h : Counts) {cs ds : List ℕ} → y ≡ z → cs ≡ ds
    → (a.failed ≡ false) × (b ≡ record { records = a.records ++ characters visible y any_alphabet any_count cs ∷ []; failed = false; rules = a.rules })
    → Puts a (characters t z l h ds) b
puts_characters a b t law {y} {z} l h {cs} {ds} d e p =
    let f : characters visible y any_alphabet any_count cs ≡ kept (characters t z l h ds) =
    ap (λ (s : StringKind). characters s y any_alphabet any_count cs) (sym (kind_kept t law)) ∙
    (ap (λ (u : Size). characters (kept_kind t) u any_alphabet any_count cs) d ∙ ap (λ (xs : List ℕ). characters (kept_kind t) z any_alphabet any_count xs) e) in
    (p.0, p.1 ∙ ap (λ (r : Record). let w : Written = record { records = a.records ++ r ∷ []; failed = false; rules = a.rules } in w) f)
