-- Octets after all that is held, and prefixes that do not reach into them.
use Rattle.std.proofs.Common.{◌≡◌, ◌≤◌, ℕ, ◌+◌, Bool, true, false, List, [], ◌∷◌, ◌++◌, length, refl, ap, sym, ◌∙◌, subst, append_assoc, length-append, append-nil, cond, arith}
use Rattle.asn1_model.specs.Oer
use Rattle.oer_codec_laws.specs.Takes.{State, Scope, components, added, open_type, members, alternative, Front}
use Rattle.oer_codec_laws.proofs.Next.{state_same}
use Rattle.oer_codec_longer_laws.specs.More.{is_within, octets_with, scopes_with, with_more, octets_behind}

-- what follows a prefix that does not reach into the last part of a list
pub left_behind : (t r os e : List ℕ) → t ++ r ≡ os ++ e → length e ≤ length r → (rest : List ℕ) × (r ≡ rest ++ e) × (t ++ rest ≡ os)
left_behind [] r os e q h = (os, q, refl)
left_behind (x ∷ t) r [] e q h =
    let l : length (x ∷ (t ++ r)) ≡ length e = ap (λ (l : List ℕ). length l) q in
    let m : length (t ++ r) ≡ length t + length r = length-append t r in
    absurd (omega arith)
left_behind (x ∷ t) r (y ∷ os) e q h =
    let p : t ++ r ≡ os ++ e = cc q in
    let i : x ≡ y = cc q in
    let z = left_behind t r os e p h in
    (z.0, z.1, ap (λ l. x ∷ l) z.2 ∙ ap (λ n. n ∷ os) i)

-- ---- states
pub octets_front : (e : List ℕ) (k : List Scope) (t rest : List ℕ) → octets_with e k (t ++ rest) ≡ t ++ octets_with e k rest
octets_front e k t rest = by_case (is_within k)
  where
    by_case : (b : Bool) → cond b (t ++ rest) ((t ++ rest) ++ e) ≡ t ++ cond b rest (rest ++ e)
    by_case true = refl
    by_case false = append_assoc t rest e

-- scopes with octets appended are within an open type exactly if they were before
within_with : (e : List ℕ) (k : List Scope) → is_within (scopes_with e k) ≡ is_within k
within_with e [] = refl
within_with e (open_type rest ∷ k) = refl
within_with e (s ∷ k) = within_with e k

octets_twice : (e f : List ℕ) (k : List Scope) (os : List ℕ) → octets_with (e ++ f) k os ≡ octets_with f (scopes_with e k) (octets_with e k os)
octets_twice e f k os = by_case (is_within k) ∙ ap (λ b. cond b (octets_with e k os) (octets_with e k os ++ f)) (sym (within_with e k))
  where
    by_case : (b : Bool) → cond b os (os ++ (e ++ f)) ≡ cond b (cond b os (os ++ e)) (cond b os (os ++ e) ++ f)
    by_case true = refl
    by_case false = sym (append_assoc os e f)

scopes_twice : (e f : List ℕ) (k : List Scope) → scopes_with (e ++ f) k ≡ scopes_with f (scopes_with e k)
scopes_twice e f [] = refl
scopes_twice e f (open_type rest ∷ k) =
    ap (λ r. open_type r ∷ scopes_with (e ++ f) k) (octets_twice e f k rest) ∙ ap (λ l. open_type (octets_with f (scopes_with e k) (octets_with e k rest)) ∷ l) (scopes_twice e f k)
scopes_twice e f (components x ms ∷ k) = ap (λ l. components x ms ∷ l) (scopes_twice e f k)
scopes_twice e f (added ms us ∷ k) = ap (λ l. added ms us ∷ l) (scopes_twice e f k)
scopes_twice e f (members n ∷ k) = ap (λ l. members n ∷ l) (scopes_twice e f k)
scopes_twice e f (alternative ∷ k) = ap (λ l. alternative ∷ l) (scopes_twice e f k)

pub more_twice : (e f : List ℕ) (a : State) → with_more (e ++ f) a ≡ with_more f (with_more e a)
more_twice e f a = state_same (with_more (e ++ f) a) (with_more f (with_more e a)) (octets_twice e f a.1 a.0) (scopes_twice e f a.1)

octets_none : (k : List Scope) (os : List ℕ) → octets_with [] k os ≡ os
octets_none k os = by_case (is_within k)
  where
    by_case : (b : Bool) → cond b os (os ++ []) ≡ os
    by_case true = refl
    by_case false = append-nil os

scopes_none : (k : List Scope) → scopes_with [] k ≡ k
scopes_none [] = refl
scopes_none (open_type rest ∷ k) = ap (λ r. open_type r ∷ scopes_with [] k) (octets_none k rest) ∙ ap (λ l. open_type rest ∷ l) (scopes_none k)
scopes_none (components x ms ∷ k) = ap (λ l. components x ms ∷ l) (scopes_none k)
scopes_none (added ms us ∷ k) = ap (λ l. added ms us ∷ l) (scopes_none k)
scopes_none (members n ∷ k) = ap (λ l. members n ∷ l) (scopes_none k)
scopes_none (alternative ∷ k) = ap (λ l. alternative ∷ l) (scopes_none k)

pub more_none : (a : State) → with_more [] a ≡ a
more_none a = state_same (with_more [] a) a (octets_none a.1 a.0) (scopes_none a.1)

-- outside all open types, the octets that are left are those to which others are appended
pub outside : (e : List ℕ) (k : List Scope) (os : List ℕ) → is_within k ≡ false → octets_behind os (scopes_with e k) ≡ os
outside e [] os q = refl
outside e (open_type rest ∷ k) os q = cc
outside e (s ∷ k) os q = outside e k os q

pub behind_less : (k : List Scope) (rest os : List ℕ) → length rest ≤ length os → length (octets_behind rest k) ≤ length (octets_behind os k)
behind_less [] rest os h = h
behind_less (open_type r ∷ k) rest os h = omega arith
behind_less (s ∷ k) rest os h = behind_less k rest os h

module _ (free : Oer.Freedom → Bool) where
  pub front_less : (x : Oer.OctetForm) (k : List Scope) (os rest : List ℕ) → Front free x os rest → length (octets_behind rest k) ≤ length (octets_behind os k)
  front_less x k os rest f =
      let l : length (f.text ++ rest) ≡ length f.text + length rest = length-append f.text rest in
      let m : length (f.text ++ rest) ≡ length os = ap (λ (l : List ℕ). length l) f.in_front in
      behind_less k rest os (omega arith)

  module _ (e : List ℕ) where
    pub front_more : (x : Oer.OctetForm) (k : List Scope) (os rest : List ℕ) → Front free x os rest → Front free x (octets_with e k os) (octets_with e k rest)
    front_more x k os rest f = record { text = f.text; has_form = f.has_form; in_front = sym (octets_front e k f.text rest) ∙ ap (λ l. octets_with e k l) f.in_front }

    abbrev pub FrontBack : Oer.OctetForm → List Scope → List ℕ → List ℕ → Type 0
    FrontBack x k os r = (rest : List ℕ) × (r ≡ octets_with e k rest) × Front free x os rest

    pub front_back : (x : Oer.OctetForm) (k : List Scope) (os r : List ℕ) → Front free x (octets_with e k os) r → length e ≤ length (octets_behind r (scopes_with e k)) → FrontBack x k os r
    front_back x k os r f h = by_case (is_within k) refl f
      where
        by_case : (b : Bool) → is_within k ≡ b → Front free x (cond b os (os ++ e)) r → (rest : List ℕ) × (r ≡ cond b rest (rest ++ e)) × Front free x os rest
        by_case true q f = (r, refl, f)
        by_case false q f =
            let z = left_behind f.text r os e f.in_front (subst (λ l. length e ≤ length l) (outside e k r q) h) in
            (z.0, z.1, record { text = f.text; has_form = f.has_form; in_front = z.2 })
