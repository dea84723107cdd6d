-- What is wrong with a part is wrong with the whole.
use Rattle.std.proofs.Common.{◌≡◌, ◌∙◌, sym, ap, subst, ℕ, Bool, true, Result, Ok, Err, IfErr}
use Rattle.std.specs.Result.{IsErrAnd}
use Rattle.asn1_table_types.specs.declared.faults.Flaw.{Flaw}
use Rattle.asn1_table_types.specs.declared.faults.Refusal.{Refusal}
use Rattle.asn1_table_types.specs.declared.faults.Refusal.TheVariants.{Flawed, NoMemory}
use Rattle.asn1_table_nodes.specs.Defaults.{AtSome}
use Rattle.asn1_table_types.specs.Tables.{IsDue, IsDueAt}

pub due_more : (P Q : Flaw → Bool) (r : Refusal) → ((f : Flaw) → P f ≡ true → Q f ≡ true) → IsDue P r → IsDue Q r
due_more P Q (Flawed f) m d = m f d
due_more P Q NoMemory m d = tt

-- a refusal that is passed on
pub raised : {T : Type 0} (P Q : Flaw → Bool) (x : Refusal) (r : Result T Refusal) → IsErrAnd r (λ y. y ≡ x) → ((f : Flaw) → P f ≡ true → Q f ≡ true) → IsDue P x → IfErr r (λ y. IsDue Q y)
raised P Q x (Ok v) h m d = absurd h
raised P Q x (Err y) h m d = due_more P Q y m (let D : Refusal → Type 0 = λ z. IsDue P z in subst D (sym h) d)

-- the same of what is said of two values, which have another name
pub raised_of : {A B T : Type 0} (P : A → B → Flaw → Bool) {a b : A} {c d : B} (x : Refusal) (r : Result T Refusal) → a ≡ b → c ≡ d →
    IsErrAnd r (λ y. y ≡ x) → IsDue (P a c) x → IfErr r (λ y. IsDue (P b d) y)
raised_of P {a = a} {b = b} {c = c} {d = d} x r e h k l =
    let m : (f : Flaw) → P a c f ≡ true → P b d f ≡ true = λ f p. ap (λ z. P z d f) (sym e) ∙ ap (λ z. P a z f) (sym h) ∙ p in
    raised (P a c) (P b d) x r k m l

pub holds_of : {A B : Type 0} (P : A → B → Bool) {a b : A} {c d : B} → a ≡ b → c ≡ d → P a c ≡ true → P b d ≡ true
holds_of P {a = a} {d = d} e h p = ap (λ z. P z d) (sym e) ∙ ap (λ z. P a z) (sym h) ∙ p

-- a refusal of one type at two levels, or of a flaw at some number of them
pub raised_at : {T : Type 0} (P : ℕ → Flaw → Bool) (x : Refusal) (r : Result T Refusal) → IsErrAnd r (λ y. y ≡ x) → IsDue (P 2) x → IfErr r (λ y. IsDueAt P y)
raised_at P x (Ok v) h d = absurd h
raised_at P x (Err y) h d = go y (let D : Refusal → Type 0 = λ z. IsDue (P 2) z in subst D (sym h) d) where
  go : (y : Refusal) → IsDue (P 2) y → IsDueAt P y
  go (Flawed f) d = record { levels = 2; told = d }
  go NoMemory d = tt

pub raised_flaw : {T : Type 0} (P : ℕ → Flaw → Bool) (f : Flaw) (r : Result T Refusal) → IsErrAnd r (λ y. y ≡ Flawed f) → AtSome (λ n. P n f) true → IfErr r (λ y. IsDueAt P y)
raised_flaw P f (Ok v) h d = absurd h
raised_flaw P f (Err y) h d = let D : Refusal → Type 0 = λ z. IsDueAt P z in subst D (sym h) d
