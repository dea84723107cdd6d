-- The pairs that a check lists are of parts of what it compares.
use Rattle.std.proofs.Common.{◌≡◌, ℕ, zero, suc, ◌<◌, ◌≤◌, ◌⊎◌, inl, inr, List, [], ◌∷◌, length, get_or, Some, slice_get, sym, subst, ap, ◌∙◌, refl, arith, Result, Ok, Err}
use Rattle.std.specs.Result.{IfErr, IsErrAnd}
use Rattle.asn1_table_nodes.specs.declared.nodes.Alternative.{Alternative}
use Rattle.asn1_table_nodes.specs.declared.nodes.Component.{Component}
use Rattle.asn1_table_nodes.specs.declared.nodes.TypeNode.{TypeNode}
use Rattle.asn1_table_extending.specs.Differing.{IsRefusedAt}
use Rattle.asn1_table_extending.specs.Leading.{AddsOnly, AlternativeParts, BothParts, ComponentParts, IsRefused, Lead, LeadIn}
use Rattle.asn1_table_extending.specs.Matching.{IsListed}
use Rattle.asn1_table_extending.specs.declared.differences.ExtendingError.{ExtendingError}
use Rattle.asn1_table_extending.specs.declared.differences.ExtendingError.TheVariants.{NotExtended, OutOfMemory}
use Rattle.asn1_table_extending.specs.declared.pairs.Pair.{Pair}

pub adds_none : (P : ℕ → ℕ → Type 0) (ps : List Pair) → AddsOnly P ps ps
adds_none P ps = λ i j h. inl h

pub adds_more : (P Q R : ℕ → ℕ → Type 0) (ps qs rs : List Pair) → AddsOnly P ps qs → AddsOnly Q qs rs → ((i j : ℕ) → P i j → R i j) → ((i j : ℕ) → Q i j → R i j) → AddsOnly R ps rs
adds_more P Q R ps qs rs a b f g = λ i j h. go i j (b i j h) where
  first : (i j : ℕ) → IsListed ps i j ⊎ P i j → IsListed ps i j ⊎ R i j
  first i j (inl h) = inl h
  first i j (inr h) = inr (f i j h)

  go : (i j : ℕ) → IsListed qs i j ⊎ Q i j → IsListed ps i j ⊎ R i j
  go i j (inl h) = first i j (a i j h)
  go i j (inr h) = inr (g i j h)

pub component_parts_at : (xs ys us vs : List Component) (i j : ℕ) → xs ≡ us → ys ≡ vs → ComponentParts xs ys i j → ComponentParts us vs i j
component_parts_at xs ys us vs i j e f m =
    let P : List Component → Type 0 = λ zs. ComponentParts zs ys i j in
    let Q : List Component → Type 0 = λ zs. ComponentParts us zs i j in
    subst Q f (subst P e m)

pub alternative_parts_at : (xs ys us vs : List Alternative) (i j : ℕ) → xs ≡ us → ys ≡ vs → AlternativeParts xs ys i j → AlternativeParts us vs i j
alternative_parts_at xs ys us vs i j e f m =
    let P : List Alternative → Type 0 = λ zs. AlternativeParts zs ys i j in
    let Q : List Alternative → Type 0 = λ zs. AlternativeParts us zs i j in
    subst Q f (subst P e m)

-- all listed pairs are led to, and so are those of the parts of one of them
pub led_more : (ns ms : List TypeNode) (i j : ℕ) (ps qs : List Pair) (p : Pair) → ((k l : ℕ) → IsListed ps k l → Lead ns ms i j k l) → IsListed ps p.older p.newer →
    AddsOnly (BothParts (slice_get ns p.older) (slice_get ms p.newer)) ps qs → (k l : ℕ) → IsListed qs k l → Lead ns ms i j k l
led_more ns ms i j ps qs p led here a k l h = go (a k l h) where
  go : IsListed ps k l ⊎ BothParts (slice_get ns p.older) (slice_get ms p.newer) k l → Lead ns ms i j k l
  go (inl m) = led k l m
  go (inr m) = let to = led p.older p.newer here in record { steps = suc to.steps; path = (p.older, p.newer, to.path, m) }

pub led_first : (ns ms : List TypeNode) (i j : ℕ) (ps : List Pair) (p : Pair) → ps ≡ p ∷ [] → p.older ≡ i → p.newer ≡ j → (k l : ℕ) → IsListed ps k l → Lead ns ms i j k l
led_first ns ms i j ps p e a b k l h =
    let q : Pair = record { older = k; newer = l } in
    let m : IsListed (p ∷ []) k l = subst (λ us. IsListed us k l) e h in
    let s : p ≡ q = only m.0 m.1 m.2 in
    record { steps = zero; path = (sym a ∙ ap (λ x. x.older) s, sym b ∙ ap (λ x. x.newer) s) }
  where
    only : (n : ℕ) → n < 1 → get_or (p ∷ []) n (record { older = k; newer = l }) ≡ (record { older = k; newer = l }) → p ≡ (record { older = k; newer = l })
    only zero c d = d
    only (suc n) c d = absurd (omega (arith, c))

pub first_listed : (ps : List Pair) (p : Pair) → ps ≡ p ∷ [] → IsListed ps p.older p.newer
first_listed ps p e = let Q : List Pair → Type 0 = λ us. IsListed us p.older p.newer in subst Q (sym e) (zero, omega arith, refl)

pub at_index : (ps : List Pair) (n : ℕ) (p : Pair) → n < length ps → p ≡ get_or ps n p → IsListed ps p.older p.newer
at_index ps n p l e = (n, l, sym e)

pub refused_passed : {T : Type 0} (ns ms : List TypeNode) (i j : ℕ) (p : Pair) (e : ExtendingError) (r : Result T ExtendingError) → Lead ns ms i j p.older p.newer →
    IsErrAnd r (λ y. y ≡ e) → IsRefusedAt ns ms p e → IfErr r (λ y. IsRefused ns ms i j y)
refused_passed ns ms i j p e (Ok v) t h m = absurd h
refused_passed ns ms i j p e (Err y) t h m = go y (subst (IsRefusedAt ns ms p) (sym h) m) where
  go : (y : ExtendingError) → IsRefusedAt ns ms p y → IsRefused ns ms i j y
  go (NotExtended newer older d) m =
      let P : ℕ → Type 0 = λ k. Lead ns ms i j k p.newer in
      let Q : ℕ → Type 0 = λ l. Lead ns ms i j older l in
      (subst Q (sym m.1) (subst P (sym m.0) t), m.2)
  go OutOfMemory m = tt
