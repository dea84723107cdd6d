-- Chains over joined lists.
use Rattle.std.proofs.Common.{◌≡◌, List, [], ◌∷◌, ◌++◌, refl, subst, sym, ◌∙◌}
use Rattle.asn1_schema_laws.specs.Records.{Record}
use Rattle.asn1_schema_laws.specs.Chains.{Chain, OneAfter, GoesOn}

pub chain_append : {S : Type 0} (step : S → Record → S → Type 0) (xs ys : List Record) (a b c : S) → Chain step xs a b → Chain step ys b c → Chain step (xs ++ ys) a c
chain_append step [] ys a b c p q = let P : _ → Type 0 = λ s. Chain step ys s c in subst P p q
chain_append step (x ∷ xs) ys a b c p q = (p.0, p.1, chain_append step xs ys p.0 b c p.2 q)

pub chain_split : {S : Type 0} (step : S → Record → S → Type 0) (xs ys : List Record) (a c : S) → Chain step (xs ++ ys) a c → (b : S) × Chain step xs a b × Chain step ys b c
chain_split step [] ys a c p = (a, refl, p)
chain_split step (x ∷ xs) ys a c p = let q = chain_split step xs ys p.0 c p.2 in (q.0, (p.0, p.1, q.1), q.2)

pub chain_one : {S : Type 0} (step : S → Record → S → Type 0) → OneAfter step → (xs : List Record) (a b c : S) → Chain step xs a b → Chain step xs a c → b ≡ c
chain_one step one [] a b c p q = p ∙ sym q
chain_one step one (x ∷ xs) a b c p q =
    let e = one a x p.0 q.0 p.1 q.1 in
    let P : _ → Type 0 = λ s. Chain step xs s b in
    chain_one step one xs q.0 b c (subst P e p.2) q.2

-- what is read of a chain so far precedes the rest
pub chain_rest : {S : Type 0} (step : S → Record → S → Type 0) → OneAfter step → (xs ys : List Record) (a b c : S) → Chain step xs a b → Chain step (xs ++ ys) a c → Chain step ys b c
chain_rest step one xs ys a b c p q =
    let t = chain_split step xs ys a c q in
    let P : _ → Type 0 = λ s. Chain step ys s c in
    subst P (chain_one step one xs a t.0 b t.1 p) t.2

-- if no state that follows a record has failed, a state that has failed after records had failed before them
pub failed_before : {S : Type 0} {step : S → Record → S → Type 0} {has_failed : S → Type 0} → GoesOn step has_failed → (rs : List Record) (a b : S) → Chain step rs a b → has_failed b → has_failed a
failed_before {has_failed} law [] a b p f = subst has_failed p f
failed_before law (r ∷ rs) a b p f = absurd (law a r p.0 p.1 (failed_before law rs p.0 b p.2 f))
