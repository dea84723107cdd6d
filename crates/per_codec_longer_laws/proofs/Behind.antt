-- Bits after all that is held, and prefixes that do not reach into them.
use Rattle.std.proofs.Common.{◌≡◌, ◌≤◌, ◌+◌, Bool, true, false, List, [], ◌∷◌, ◌++◌, length, refl, ap, sym, ◌∙◌, subst, append_assoc, length-append, append-nil, cond, arith}
use Rattle.asn1_model.specs.Per
use Rattle.per_codec_laws.specs.Takes.{Position, State, Scope, components, added, open_type, members, alternative, Front}
use Rattle.per_codec_laws.proofs.Next.{place_same, state_same}
use Rattle.per_codec_longer_laws.specs.More.{is_within, place_with, scopes_with, with_more, bits_behind}

-- what follows a prefix that does not reach into the last part of a list
pub left_behind : (t r os e : List Bool) → t ++ r ≡ os ++ e → length e ≤ length r → (rest : List Bool) × (r ≡ rest ++ e) × (t ++ rest ≡ os)
left_behind [] r os e q h = (os, q, refl)
left_behind (x ∷ t) r [] e q h =
    let l : length (x ∷ (t ++ r)) ≡ length e = ap (λ (l : List Bool). length l) q in
    let m : length (t ++ r) ≡ length t + length r = length-append t r in
    absurd (omega arith)
left_behind (x ∷ t) r (y ∷ os) e q h =
    let p : t ++ r ≡ os ++ e = cc q in
    let i : x ≡ y = cc q in
    let z = left_behind t r os e p h in
    (z.0, z.1, ap (λ l. x ∷ l) z.2 ∙ ap (λ n. n ∷ os) i)

-- ---- states
pub place_front : (e : List Bool) (k : List Scope) (t rest : List Bool) (p : Position) → t ++ rest ≡ p.1 → t ++ (place_with e k (p.0, rest)).1 ≡ (place_with e k p).1
place_front e k t rest p q = by_case (is_within k)
  where
    by_case : (b : Bool) → t ++ cond b rest (rest ++ e) ≡ cond b p.1 (p.1 ++ e)
    by_case true = q
    by_case false = sym (append_assoc t rest e) ∙ ap (λ l. l ++ e) q

-- scopes with bits appended are within an open type exactly if they were before
within_with : (e : List Bool) (k : List Scope) → is_within (scopes_with e k) ≡ is_within k
within_with e [] = refl
within_with e (open_type rest ∷ k) = refl
within_with e (s ∷ k) = within_with e k

place_twice : (e f : List Bool) (k : List Scope) (p : Position) → place_with (e ++ f) k p ≡ place_with f (scopes_with e k) (place_with e k p)
place_twice e f k p =
    let b : List Bool = (place_with e k p).1 in
    place_same (place_with (e ++ f) k p) (place_with f (scopes_with e k) (place_with e k p)) refl (by_case (is_within k) ∙ ap (λ w. cond w b (b ++ f)) (sym (within_with e k)))
  where
    by_case : (b : Bool) → cond b p.1 (p.1 ++ (e ++ f)) ≡ cond b (cond b p.1 (p.1 ++ e)) (cond b p.1 (p.1 ++ e) ++ f)
    by_case true = refl
    by_case false = sym (append_assoc p.1 e f)

scopes_twice : (e f : List Bool) (k : List Scope) → scopes_with (e ++ f) k ≡ scopes_with f (scopes_with e k)
scopes_twice e f [] = refl
scopes_twice e f (open_type rest ∷ k) =
    ap (λ r. open_type r ∷ scopes_with (e ++ f) k) (place_twice e f k rest) ∙ ap (λ l. open_type (place_with f (scopes_with e k) (place_with e k rest)) ∷ l) (scopes_twice e f k)
scopes_twice e f (components x ms ∷ k) = ap (λ l. components x ms ∷ l) (scopes_twice e f k)
scopes_twice e f (added ms us ∷ k) = ap (λ l. added ms us ∷ l) (scopes_twice e f k)
scopes_twice e f (members n t ∷ k) = ap (λ l. members n t ∷ l) (scopes_twice e f k)
scopes_twice e f (alternative ∷ k) = ap (λ l. alternative ∷ l) (scopes_twice e f k)

pub more_twice : (e f : List Bool) (a : State) → with_more (e ++ f) a ≡ with_more f (with_more e a)
more_twice e f a = state_same (with_more (e ++ f) a) (with_more f (with_more e a)) (place_twice e f a.1 a.0) (scopes_twice e f a.1)

place_none : (k : List Scope) (p : Position) → place_with [] k p ≡ p
place_none k p = place_same (place_with [] k p) p refl (by_case (is_within k))
  where
    by_case : (b : Bool) → cond b p.1 (p.1 ++ []) ≡ p.1
    by_case true = refl
    by_case false = append-nil p.1

scopes_none : (k : List Scope) → scopes_with [] k ≡ k
scopes_none [] = refl
scopes_none (open_type rest ∷ k) = ap (λ r. open_type r ∷ scopes_with [] k) (place_none k rest) ∙ ap (λ l. open_type rest ∷ l) (scopes_none k)
scopes_none (components x ms ∷ k) = ap (λ l. components x ms ∷ l) (scopes_none k)
scopes_none (added ms us ∷ k) = ap (λ l. added ms us ∷ l) (scopes_none k)
scopes_none (members n t ∷ k) = ap (λ l. members n t ∷ l) (scopes_none k)
scopes_none (alternative ∷ k) = ap (λ l. alternative ∷ l) (scopes_none k)

pub more_none : (a : State) → with_more [] a ≡ a
more_none a = state_same (with_more [] a) a (place_none a.1 a.0) (scopes_none a.1)

-- outside all open types, the bits that are left are those to which others are appended
pub outside : (e : List Bool) (k : List Scope) (p : Position) → is_within k ≡ false → bits_behind p (scopes_with e k) ≡ p.1
outside e [] p q = refl
outside e (open_type rest ∷ k) p q = cc
outside e (s ∷ k) p q = outside e k p q

pub behind_less : (k : List Scope) (rest p : Position) → length (rest.1) ≤ length (p.1) → length (bits_behind rest k) ≤ length (bits_behind p k)
behind_less [] rest p h = h
behind_less (open_type r ∷ k) rest p h = omega arith
behind_less (s ∷ k) rest p h = behind_less k rest p h

module _ (free : Per.Freedom → Bool) where
  pub front_less : (x : Per.BitForm) (k : List Scope) (p rest : Position) → Front free x p rest → length (bits_behind rest k) ≤ length (bits_behind p k)
  front_less x k p rest f =
      let l : length (f.text ++ rest.1) ≡ length f.text + length (rest.1) = length-append f.text rest.1 in
      let m : length (f.text ++ rest.1) ≡ length (p.1) = ap (λ (l : List Bool). length l) f.in_front in
      behind_less k rest p (omega arith)

  module _ (e : List Bool) where
    pub front_more : (x : Per.BitForm) (k : List Scope) (p rest : Position) → Front free x p rest → Front free x (place_with e k p) (place_with e k rest)
    front_more x k p rest f = record { text = f.text; has_form = f.has_form; in_front = place_front e k f.text rest.1 p f.in_front; moved = f.moved }

    pub front_back : (x : Per.BitForm) (k : List Scope) (p r : Position) → Front free x (place_with e k p) r →
        length e ≤ length (bits_behind r (scopes_with e k)) → (rest : Position) × (r ≡ place_with e k rest) × Front free x p rest
    front_back x k p r f h = by_case (is_within k) refl f
      where
        by_case : (b : Bool) → is_within k ≡ b → Front free x (p.0, cond b p.1 (p.1 ++ e)) r → (rest : Position) × (r ≡ (rest.0, cond b rest.1 (rest.1 ++ e))) × Front free x p rest
        by_case true q f = (r, refl, f)
        by_case false q f =
            let z = left_behind f.text r.1 p.1 e f.in_front (subst (λ l. length e ≤ length l) (outside e k r q) h) in
            let y : (r.0, r.1) ≡ (r.0, z.0 ++ e) = ap (λ l. (r.0, l)) z.1 in
            ((r.0, z.0), y, record { text = f.text; has_form = f.has_form; in_front = z.2; moved = f.moved })
