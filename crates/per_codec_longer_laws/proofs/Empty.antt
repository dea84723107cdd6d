-- Values that take no bits at one position take none at every position.
use Rattle.std.proofs.Common.{◌≡◌, inl, inr, ◌≤◌, ◌+◌, Bool, List, [], ◌∷◌, ◌++◌, length, refl, ap, subst, length-append, arith}
use Rattle.std.proofs.lemmas.Bool.{cases_lt}
use Rattle.asn1_model.specs.Form.{Reads}
use Rattle.asn1_model.specs.Per
use Rattle.per_codec_laws.specs.Takes.{Position, Front}
use Rattle.per_codec_laws.proofs.Whole.{records_read, forms_show}
use Rattle.per_codec_longer_laws.specs.Laws.{EmptyEverywhere, TakesSome}
use Rattle.per_codec_longer_laws.proofs.Steady.{Steady, steady_form}

-- a list without elements
no_text : (t : List Bool) → length t ≡ 0 → t ≡ []
no_text [] q = refl
no_text (x ∷ t) q = absurd (omega arith)

-- a prefix that takes nothing can precede any bits at every position
empty_front : (free : Per.Freedom → Bool) (x : Per.BitForm) → Steady free x → (p rest : Position) → Front free x p rest → length (p.1) ≤ length (rest.1) → (here : Position) → Front free x here here
empty_front free x s p rest f h here =
    let l : length (f.text ++ rest.1) ≡ length f.text + length (rest.1) = length-append f.text rest.1 in
    let m : length (f.text ++ rest.1) ≡ length (p.1) = ap (λ (i : List Bool). length i) f.in_front in
    let n : f.text ≡ [] = no_text f.text (omega arith) in
    record { text = []; has_form = s.steady p.0 here.0 (subst (λ t. Reads free x p.0 t) n f.has_form); in_front = refl; moved = omega arith }

pub empty : EmptyEverywhere
empty al free s v a b c other order l q h =
    let f = records_read al free s v a b other order q in
    forms_show al free s v c c other l (empty_front free (Per.form al s v) (steady_form free al s v) a.0 b.0 f.0 h c.0, refl)

pub some : TakesSome
some al free s c other order l none v a b q =
    elim (cases_lt (length (b.0.1)) (length (a.0.1))) [ inl h ↦ h | inr h ↦ let z = empty al free s v a b c other order l q h in absurd (none z.0 c z.2) ]
