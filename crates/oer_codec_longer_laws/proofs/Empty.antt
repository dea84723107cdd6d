-- Values that take no octets in one state take none in every state.
use Rattle.std.proofs.Common.{◌≡◌, inl, inr, ◌≤◌, ℕ, ◌+◌, Bool, List, [], ◌∷◌, ◌++◌, length, refl, ap, length-append, arith}
use Rattle.std.proofs.lemmas.Bool.{cases_lt}
use Rattle.asn1_model.specs.Oer
use Rattle.oer_codec_laws.specs.Takes.{Front}
use Rattle.oer_codec_laws.proofs.Whole.{records_read, forms_show}
use Rattle.oer_codec_longer_laws.specs.Laws.{EmptyEverywhere, TakesSome}

-- a list without elements
no_text : (t : List ℕ) → length t ≡ 0 → t ≡ []
no_text [] q = refl
no_text (x ∷ t) q = absurd (omega arith)

-- a prefix that takes nothing can precede any octets
empty_front : (free : Oer.Freedom → Bool) (x : Oer.OctetForm) (os rest : List ℕ) → Front free x os rest → length os ≤ length rest → (here : List ℕ) → Front free x here here
empty_front free x os rest f h here =
    let l : length (f.text ++ rest) ≡ length f.text + length rest = length-append f.text rest in
    let m : length (f.text ++ rest) ≡ length os = ap (λ (i : List ℕ). length i) f.in_front in
    let n : f.text ≡ [] = no_text f.text (omega arith) in
    record { text = f.text; has_form = f.has_form; in_front = ap (λ t. t ++ here) n }

pub empty : EmptyEverywhere
empty free s v a b c other order l q h =
    let f = records_read free s v a b other order q in
    forms_show free s v c c other l (empty_front free (Oer.form s v) a.0 b.0 f.0 h c.0, refl)

pub some : TakesSome
some free s c other order l none v a b q =
    elim (cases_lt (length (b.0)) (length (a.0))) [ inl h ↦ h | inr h ↦ let z = empty free s v a b c other order l q h in absurd (none z.0 c z.2) ]
