-- Whole identifiers: their octets and their arcs.
use Rattle.std.proofs.Common.{◌≡◌, ℕ, zero, suc, ◌+◌, ◌-◌, ◌*◌, ◌/◌, ◌^◌, ◌<◌, ◌≤◌, ◌==◌, ltb, leb, ◌&&◌, ◌||◌, Bool}
use Rattle.std.proofs.Common.{true, false, List, [], ◌∷◌, ◌++◌, flat_map, drop, Option, Some, None, Result, Ok, Err}
use Rattle.std.proofs.Common.{length, slice_index_or, refl, ap, sym, ◌∙◌, arith, ◌⊎◌, inl, inr, subst, Fits, w8, w32}
use Rattle.std.proofs.lemmas.Bool.{and_parts}
use Rattle.asn1_model.specs.Strings.{groups_of_seven, identifier_octets, is_identifier, is_octet}
use Rattle.std.specs.List.{list_all}
use Rattle.asn1_values_identifiers.specs.declared.fault.IdentifierError.{IdentifierError}
use Rattle.asn1_values_identifiers.specs.Identifiers.{subidentifiers, in_front, ended, begun_number, is_padding, is_valid, first_arc, second_arc, arcs_from, arcs_of}
use Rattle.asn1_values_identifiers.proofs.Readings.{judged, below, not_below, below_true, below_false, group_read, groups_read, wrote, Wrote, after_octet}

and_join : (a b : Bool) → a ≡ true → b ≡ true → (a && b) ≡ true
and_join a b e f = grind arith

-- each number of a list of 32 bits
pub each_below : (xs : List ℕ) → ((i : ℕ) → Fits w32 (slice_index_or xs i 0)) → list_all (λ n. ltb n (2 ^ 32)) xs ≡ true
each_below [] h = refl
each_below (x ∷ xs) h = and_join _ _ (below_true x (2 ^ 32) (omega (arith, h 0))) (each_below xs (λ i. h (suc i)))

pub each_octet : (xs : List ℕ) → ((i : ℕ) → Fits w8 (slice_index_or xs i 0)) → list_all is_octet xs ≡ true
each_octet [] h = refl
each_octet (x ∷ xs) h = and_join _ _ (below_true x 256 (omega (arith, h 0))) (each_octet xs (λ i. h (suc i)))

-- valid arcs of 32 bits, at least two, have octets
pub valid_identifier : (xs : List ℕ) → is_valid xs ≡ true → 2 ≤ length xs → list_all (λ n. ltb n (2 ^ 32)) xs ≡ true → is_identifier xs ≡ true
valid_identifier [] v l h = absurd (omega arith)
valid_identifier (a ∷ []) v l h = absurd (omega arith)
valid_identifier (a ∷ b ∷ rest) v l h = and_join _ _ v ((and_parts _ _ h).1)

pub identifier_valid : (xs : List ℕ) → is_identifier xs ≡ true → is_valid xs ≡ true
identifier_valid [] h = h
identifier_valid (a ∷ []) h = absurd (no h)
  where
    no : false ≡ true → ⊥
    no e = cc
identifier_valid (a ∷ b ∷ rest) h = (and_parts _ _ h).0

pub identifier_split : (xs : List ℕ) → 2 ≤ length xs → identifier_octets xs ≡ groups_of_seven (slice_index_or xs 0 0 * 40 + slice_index_or xs 1 0) ++ flat_map groups_of_seven (drop 2 xs)
identifier_split [] l = absurd (omega arith)
identifier_split (a ∷ []) l = absurd (omega arith)
identifier_split (a ∷ b ∷ rest) l = let e : 40 * a + b ≡ a * 40 + b = omega arith in ap (λ n. groups_of_seven n ++ flat_map groups_of_seven rest) e

-- ---- the first two arcs

pub first_small : (n : ℕ) → n < 80 → first_arc n ≡ n / 40
first_small n h = ap (λ (t : Bool). elim t as (λ _. ℕ) [ true ↦ n / 40 | false ↦ 2 ]) (below_true n 80 h)

pub first_large : (n : ℕ) → 80 ≤ n → first_arc n ≡ 2
first_large n h = ap (λ (t : Bool). elim t as (λ _. ℕ) [ true ↦ n / 40 | false ↦ 2 ]) (below_false n 80 h)

is_first : (a b : ℕ) → (leb a 2 && (a == 2 || ltb b 40)) ≡ true → ((a ≡ 2) ⊎ ((a < 2) × (b < 40)))
is_first a b h = grind arith

first_back : (a b : ℕ) → (leb a 2 && (a == 2 || ltb b 40)) ≡ true → first_arc (40 * a + b) ≡ a
first_back a b h = elim (is_first a b h) [
  | inl e ↦ first_large (40 * a + b) (omega arith) ∙ sym e
  | inr p ↦ let q : (40 * a + b) / 40 ≡ a =
      split_40 a b p.1 in first_small (40 * a + b) (small a b p.0 p.1) ∙ q
]
  where
    small : (a b : ℕ) → a < 2 → b < 40 → 40 * a + b < 80
    small a b h k = omega arith

    split_40 : (a b : ℕ) → b < 40 → (40 * a + b) / 40 ≡ a
    split_40 a b h = omega arith

second_back : (a b : ℕ) → first_arc (40 * a + b) ≡ a → second_arc (40 * a + b) ≡ b
second_back a b e = let m : 40 * a + b - 40 * a ≡ b = omega arith in ap (λ k. 40 * a + b - 40 * k) e ∙ m

shared_small : (a b : ℕ) → (leb a 2 && (a == 2 || ltb b 40)) ≡ true → b < 2 ^ 32 → 40 * a + b < 2 ^ 32 + 80
shared_small a b h k = elim (is_first a b h) [ inl e ↦ omega arith | inr p ↦ let f : a < 2 = p.0 in omega arith ]

-- an identifier's octets read back
pub identifier_read : (xs : List ℕ) → is_identifier xs ≡ true → arcs_of (identifier_octets xs) ≡ Ok xs
identifier_read [] h = absurd (never h)
  where
    never : false ≡ true → ⊥
    never e = cc
identifier_read (a ∷ []) h = absurd (never h)
  where
    never : false ≡ true → ⊥
    never e = cc
identifier_read (a ∷ b ∷ rest) h =
    let v : (leb a 2 && (a == 2 || ltb b 40)) ≡ true = (and_parts _ _ h).0 in
    let bs : list_all (λ n. ltb n (2 ^ 32)) (b ∷ rest) ≡ true = (and_parts _ _ h).1 in
    let n = 40 * a + b in
    let lt : n < 2 ^ 32 + 80 = shared_small a b v (below b (2 ^ 32) ((and_parts _ _ bs).0)) in
    let f = first_back a b v in
    ap arcs_from (group_read (2 ^ 32 + 80) n (flat_map groups_of_seven rest) lt)
    ∙ ap (λ (r : Result (List ℕ) IdentifierError). arcs_from (in_front n r)) (groups_read rest ((and_parts _ _ bs).1))
    ∙ ap (λ k. Ok (k ∷ second_arc n ∷ rest)) f ∙ ap (λ k. Ok (a ∷ k ∷ rest)) (second_back a b f)

-- ---- what is read is an identifier

-- numbers below their limits
abbrev Within : ℕ → Result (List ℕ) IdentifierError → Type 0
Within limit (Ok []) = Unit {0}
Within limit (Ok (n ∷ ns)) = (n < limit) × (list_all (λ m. ltb m (2 ^ 32)) ns ≡ true)
Within limit (Err e) = Unit {0}

each_within : (ns : List ℕ) → Within (2 ^ 32) (Ok ns) → list_all (λ m. ltb m (2 ^ 32)) ns ≡ true
each_within [] w = refl
each_within (n ∷ ns) w = and_join _ _ (below_true n (2 ^ 32) w.0) w.1

within_ended : (limit n : ℕ) (r : Result (List ℕ) IdentifierError) → Within (2 ^ 32) r → Within limit (ended limit n r)
within_ended limit n r w = go (ltb n limit) refl r w
  where
    go : (t : Bool) → ltb n limit ≡ t → (r : Result (List ℕ) IdentifierError) → Within (2 ^ 32) r → Within limit (judged n r t)
    go true e (Ok ns) v = (below n limit e, each_within ns v)
    go true e (Err f) v = tt
    go false e r v = tt

pub within : (limit : ℕ) (begun : Option ℕ) (os : List ℕ) → Within limit (subidentifiers limit begun os)
within limit None [] = tt
within limit (Some n) [] = tt
within limit begun (o ∷ os) = go (is_padding begun o) (ltb o 128) (within (2 ^ 32) None os) (λ n. within limit (Some n) os)
  where
    go : (t u : Bool) → Within (2 ^ 32) (subidentifiers (2 ^ 32) None os) → ((n : ℕ) → Within limit (subidentifiers limit (Some n) os)) → Within limit (after_octet limit begun o os t u)
    go true u w r = tt
    go false true w r = within_ended limit (begun_number begun * 128 + o) _ w
    go false false w r = r (begun_number begun * 128 + (o - 128))

-- a first number's arcs
first_whole : (n : ℕ) → 40 * first_arc n + second_arc n ≡ n
first_whole n = go (ltb n 80) refl
  where
    go : (t : Bool) → ltb n 80 ≡ t → 40 * first_arc n + second_arc n ≡ n
    go true e = let f = first_small n (below n 80 e) in let m : 40 * (n / 40) + (n - 40 * (n / 40)) ≡ n = omega arith in ap (λ k. 40 * k + (n - 40 * k)) f ∙ m
    go false e = let ge : 80 ≤ n = not_below n 80 e in let f = first_large n ge in let m : 40 * 2 + (n - 40 * 2) ≡ n = omega arith in ap (λ k. 40 * k + (n - 40 * k)) f ∙ m

abbrev are_first : ℕ → ℕ → Bool
are_first a b = leb a 2 && (a == 2 || ltb b 40)

large_first : (b : ℕ) → are_first 2 b ≡ true
large_first b = refl

small_first : (a b : ℕ) → a < 2 → b < 40 → are_first a b ≡ true
small_first zero b h k = below_true b 40 k
small_first (suc zero) b h k = below_true b 40 k
small_first (suc (suc a)) b h k = absurd (omega arith)

first_valid : (n : ℕ) → are_first (first_arc n) (second_arc n) ≡ true
first_valid n = go (ltb n 80) refl
  where
    go : (t : Bool) → ltb n 80 ≡ t → are_first (first_arc n) (second_arc n) ≡ true
    go true e =
        let lt : n < 80 = below n 80 e in
        let q : n - 40 * (n / 40) < 40 = omega arith in
        ap (λ k. are_first k (n - 40 * k)) (first_small n lt) ∙ small_first (n / 40) (n - 40 * (n / 40)) (omega arith) q
    go false e = ap (λ k. are_first k (n - 40 * k)) (first_large n (not_below n 80 e)) ∙ large_first (n - 40 * 2)

second_small : (n : ℕ) → n < 2 ^ 32 + 80 → second_arc n < 2 ^ 32
second_small n h = go (ltb n 80) refl
  where
    go : (t : Bool) → ltb n 80 ≡ t → second_arc n < 2 ^ 32
    go true e = let lt : n < 80 = below n 80 e in omega arith
    go false e = let f = first_large n (not_below n 80 e) in omega arith

-- what the arcs that are read imply for the octets
pub record IsWritten (os xs : List ℕ) : Type 0 where
  pub octets : identifier_octets xs ≡ os
  pub identifier : is_identifier xs ≡ true

written_first : (os ns : List ℕ) (n : ℕ) → Wrote None os (Ok (n ∷ ns)) → Within (2 ^ 32 + 80) (Ok (n ∷ ns)) → IsWritten os (first_arc n ∷ second_arc n ∷ ns)
written_first os ns n w b = record {
  octets = ap (λ k. groups_of_seven k ++ flat_map groups_of_seven ns) (first_whole n) ∙ sym w;
  identifier = and_join _ _ (first_valid n) (and_join _ _ (below_true (second_arc n) (2 ^ 32) (second_small n b.0)) b.1);
}

written_from : (os xs : List ℕ) (r : Result (List ℕ) IdentifierError) → Wrote None os r → Within (2 ^ 32 + 80) r → arcs_from r ≡ Ok xs → IsWritten os xs
written_from os xs (Ok (n ∷ ns)) w b e = let x : (first_arc n ∷ second_arc n ∷ ns) ≡ xs = cc in let P : List ℕ → Type 0 = λ l. IsWritten os l in subst P x (written_first os ns n w b)
written_from os xs (Ok []) w b e = cc
written_from os xs (Err f) w b e = cc

pub read_written : (os xs : List ℕ) → list_all is_octet os ≡ true → arcs_of os ≡ Ok xs → IsWritten os xs
read_written os xs h e = written_from os xs (subidentifiers (2 ^ 32 + 80) None os) (wrote (2 ^ 32 + 80) None os tt h) (within (2 ^ 32 + 80) None os) e
