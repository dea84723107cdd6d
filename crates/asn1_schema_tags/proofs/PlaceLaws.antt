-- The index of a tag among the leaves of trees.
use Rattle.std.proofs.Common.{◌≡◌, ◌∙◌, refl, sym, ap, ℕ, zero, suc, ◌+◌, ◌-◌, ◌≤◌, ◌<◌, List, [], ◌∷◌, ◌++◌, Bool}
use Rattle.std.proofs.Common.{true, false, not, cond, ◌&&◌, Option, Some, None, option_map, length, length-append, drop}
use Rattle.std.proofs.Common.{get_or, slice_get, arith, eq-eqb, eqb-true, ◌==◌, ◌^◌, ltb, lt-ltb, IfSome, IsTrue, rules}
use Rattle.std.specs.List.{position_from}
use Rattle.std.proofs.lemmas.Option.{slice_get_within}
use Rattle.asn1_model.specs.Schema.{Tag as ModelTag}
use Rattle.asn1_model.specs.Lawful.{tag_same}
use Rattle.std.specs.List.{list_all}
use Rattle.asn1_schema_tags.specs.Trees.{leaves, leaves_of, are_unique, place_of, counted}
use Rattle.asn1_schema_tags.specs.Tags.{tag_of}
use Rattle.asn1_schema_tags.specs.declared.tags.Tag.{Tag}
use Rattle.asn1_schema_tags.specs.declared.trees.TagTree.{TagTree}
use Rattle.asn1_schema_tags.proofs.TreeLaws.{leaves_at}

-- the first of two results that exists
abbrev pub either : Option ℕ → Option ℕ → Option ℕ
either (Some k) o = Some k
either None o = o

-- a search in two lists joined
position_from-append : (p : ModelTag → Bool) (n : ℕ) (xs ys : List ModelTag) → position_from p n (xs ++ ys) ≡ either (position_from p n xs) (position_from p (n + length xs) ys)
position_from-append p n [] ys = let e : n ≡ n + 0 = omega arith in ap (λ k. position_from p k ys) e
position_from-append p n (x ∷ xs) ys =
    let e : n + 1 + length xs ≡ n + length (x ∷ xs) = omega arith in
    elim (p x) as (λ b. cond b (Some n) (position_from p (n + 1) (xs ++ ys)) ≡ either (cond b (Some n) (position_from p (n + 1) xs)) (position_from p (n + length (x ∷ xs)) ys))
    [ true ↦ refl | false ↦ position_from-append p (n + 1) xs ys ∙ ap (λ k. either (position_from p (n + 1) xs) (position_from p k ys)) e ]

-- a search that counts from a later number
position_from-shift : (p : ModelTag → Bool) (n m : ℕ) (xs : List ModelTag) → position_from p (n + m) xs ≡ option_map (λ k. n + k) (position_from p m xs)
position_from-shift p n m [] = refl
position_from-shift p n m (x ∷ xs) =
    let e : n + m + 1 ≡ n + (m + 1) = omega arith in
    elim (p x) as (λ b. cond b (Some (n + m)) (position_from p (n + m + 1) xs) ≡ option_map (λ k. n + k) (cond b (Some m) (position_from p (m + 1) xs)))
    [ true ↦ refl | false ↦ ap (λ k. position_from p k xs) e ∙ position_from-shift p n (m + 1) xs ]

-- the same from 0
position_from_zero : (p : ModelTag → Bool) (n : ℕ) (xs : List ModelTag) → position_from p n xs ≡ option_map (λ k. n + k) (position_from p 0 xs)
position_from_zero p n xs = let e : n ≡ n + 0 = omega arith in ap (λ k. position_from p k xs) e ∙ position_from-shift p n 0 xs

-- the index of a tag in two lists joined
pub place_of_joined : (ts us : List ModelTag) (t : ModelTag) → place_of (ts ++ us) t ≡ either (place_of ts t) (option_map (λ k. length ts + k) (place_of us t))
place_of_joined ts us t =
    let e : 0 + length ts ≡ length ts = omega arith in
    position_from-append (tag_same t) 0 ts us
    ∙ (ap (λ k. either (place_of ts t) (position_from (tag_same t) k us)) e ∙ ap (either (place_of ts t)) (position_from_zero (tag_same t) (length ts) us))

-- the step where the tag is in the tree
pub place_found : (t : ModelTag) (b k : ℕ) (nodes : List TagTree) (i : ℕ) (d : TagTree) → i < length nodes → d ≡ get_or nodes i d → place_of (leaves d) t ≡ Some k
    → position_from (tag_same t) b (leaves_of (drop i nodes)) ≡ Some (b + k)
place_found t b k nodes i d h is e =
    let rest = leaves_of (drop (i + 1) nodes) in
    ap (position_from (tag_same t) b) (leaves_at nodes i d h is)
    ∙ (position_from-append (tag_same t) b (leaves d) rest
    ∙ ap (λ o. either o (position_from (tag_same t) (b + length (leaves d)) rest)) (position_from_zero (tag_same t) b (leaves d) ∙ ap (option_map (λ j. b + j)) e))

-- the step where it does not
pub place_passed : (t : ModelTag) (b : ℕ) (nodes : List TagTree) (i : ℕ) (d : TagTree) → i < length nodes → d ≡ get_or nodes i d → place_of (leaves d) t ≡ None
    → position_from (tag_same t) b (leaves_of (drop i nodes)) ≡ position_from (tag_same t) (b + length (leaves d)) (leaves_of (drop (i + 1) nodes))
place_passed t b nodes i d h is e =
    let rest = leaves_of (drop (i + 1) nodes) in
    ap (position_from (tag_same t) b) (leaves_at nodes i d h is)
    ∙ (position_from-append (tag_same t) b (leaves d) rest
    ∙ ap (λ o. either o (position_from (tag_same t) (b + length (leaves d)) rest)) (position_from_zero (tag_same t) b (leaves d) ∙ ap (option_map (λ j. b + j)) e))

-- the number of leaves from an index on
pub length_step : (nodes : List TagTree) (i : ℕ) (d : TagTree) → i < length nodes → d ≡ get_or nodes i d
    → length (leaves_of (drop i nodes)) ≡ length (leaves d) + length (leaves_of (drop (i + 1) nodes))
length_step nodes i d h is = ap length (leaves_at nodes i d h is) ∙ length-append (leaves d) (leaves_of (drop (i + 1) nodes))

-- an element of the first of two lists joined
slice_get-append-some : (xs ys : List ModelTag) (n : ℕ) (v : ModelTag) → slice_get xs n ≡ Some v → slice_get (xs ++ ys) n ≡ Some v
slice_get-append-some [] ys n v e = cc
slice_get-append-some (x ∷ xs) ys zero v e = e
slice_get-append-some (x ∷ xs) ys (suc n) v e = slice_get-append-some xs ys n v e

-- past the first of two lists joined
slice_get-append-none : (xs ys : List ModelTag) (n : ℕ) → slice_get xs n ≡ None → slice_get (xs ++ ys) n ≡ slice_get ys (n - length xs)
slice_get-append-none [] ys n e = let z : n ≡ n - 0 = omega arith in ap (slice_get ys) z
slice_get-append-none (x ∷ xs) ys zero e = cc
slice_get-append-none (x ∷ xs) ys (suc n) e = let z : n - length xs ≡ suc n - length (x ∷ xs) = omega arith in slice_get-append-none xs ys n e ∙ ap (slice_get ys) z

-- no element means that the list is not longer
pub length_le_of_none : (xs : List ModelTag) (n : ℕ) → slice_get xs n ≡ None → length xs ≤ n
length_le_of_none [] n e = omega arith
length_le_of_none (x ∷ xs) zero e = cc
length_le_of_none (x ∷ xs) (suc n) e = omega (arith, length_le_of_none xs n e)

-- the step where the leaf is in the tree
pub tag_found : (nodes : List TagTree) (i n : ℕ) (d : TagTree) (v : ModelTag) → i < length nodes → d ≡ get_or nodes i d → slice_get (leaves d) n ≡ Some v
    → slice_get (leaves_of (drop i nodes)) n ≡ Some v
tag_found nodes i n d v h is e = ap (λ xs. slice_get xs n) (leaves_at nodes i d h is) ∙ slice_get-append-some (leaves d) (leaves_of (drop (i + 1) nodes)) n v e

-- the step where it does not
pub tag_passed : (nodes : List TagTree) (i n : ℕ) (d : TagTree) → i < length nodes → d ≡ get_or nodes i d → slice_get (leaves d) n ≡ None
    → slice_get (leaves_of (drop i nodes)) n ≡ slice_get (leaves_of (drop (i + 1) nodes)) (n - length (leaves d))
tag_passed nodes i n d h is e = ap (λ xs. slice_get xs n) (leaves_at nodes i d h is) ∙ slice_get-append-none (leaves d) (leaves_of (drop (i + 1) nodes)) n e

-- two booleans that are both true
both_true : (a b : Bool) → (a && b) ≡ true → (a ≡ true) × (b ≡ true)
both_true true b e = (refl, e)
both_true false b e = cc

-- the same tag
tag_same_is : (t u : ModelTag) → tag_same t u ≡ true → t ≡ u
tag_same_is t u e =
    let both = both_true (t.class == u.class) (t.number == u.number) e in
    let classes : t.class ≡ u.class = eqb-true t.class u.class both.0 in
    let numbers : t.number ≡ u.number = eqb-true t.number u.number both.1 in
    ap (λ (k : ℕ). let r : ModelTag = record { class = k; number = t.number } in r) classes ∙ ap (λ (k : ℕ). let r : ModelTag = record { class = u.class; number = k } in r) numbers

-- a tag is the same as itself
tag_same_itself : (t : ModelTag) → tag_same t t ≡ true
tag_same_itself t =
    ap (λ b. b && (t.number == t.number)) (eq-eqb t.class t.class refl) ∙ eq-eqb t.number t.number refl

-- `tag_same` is symmetric where it is false
tag_same_flip : (t u : ModelTag) → tag_same t u ≡ false → tag_same u t ≡ false
tag_same_flip t u e = go (tag_same u t) refl where
  go : (b : Bool) → tag_same u t ≡ b → tag_same u t ≡ false
  go false is = is
  go true is =
      let same : u ≡ t = tag_same_is u t is in
      let e' : tag_same t t ≡ false = ap (tag_same t) (sym same) ∙ e in
      let e'' : true ≡ false = sym (tag_same_itself t) ∙ e' in cc

-- the number in an option raised by one
raised_by : (n : ℕ) (o : Option ℕ) (k : ℕ) → option_map (λ j. n + j) o ≡ Some k → (j : ℕ) × (o ≡ Some j) × (n + j ≡ k)
raised_by n None k e = cc
raised_by n (Some j) k e = (j, refl, cc)

-- one step of the next lemma, by what the first element is
place_back_step : (x t : ModelTag) (xs : List ModelTag) (k : ℕ) → ((j : ℕ) → place_of xs t ≡ Some j → slice_get xs j ≡ Some t)
    → (b : Bool) → tag_same t x ≡ b → cond b (Some 0) (position_from (tag_same t) 1 xs) ≡ Some k → slice_get (x ∷ xs) k ≡ Some t
place_back_step x t xs k further true is h =
    let zeroth : 0 ≡ k = cc in
    ap (slice_get (x ∷ xs)) (sym zeroth) ∙ ap (λ (y : ModelTag). Some y) (sym (tag_same_is t x is))
place_back_step x t xs k further false is h =
    let r = raised_by 1 (place_of xs t) k (sym (position_from_zero (tag_same t) 1 xs) ∙ h) in
    let next : suc r.0 ≡ k = omega (arith, r.2) in
    ap (slice_get (x ∷ xs)) (sym next) ∙ further r.0 r.1

-- the tag is at its index
pub place_back : (xs : List ModelTag) (t : ModelTag) (k : ℕ) → place_of xs t ≡ Some k → slice_get xs k ≡ Some t
place_back [] t k e = cc
place_back (x ∷ xs) t k e = place_back_step x t xs k (λ j h. place_back xs t j h) (tag_same t x) refl e

-- an index is one of the list
pub place_within : (xs : List ModelTag) (t : ModelTag) (k : ℕ) → place_of xs t ≡ Some k → k < length xs
place_within xs t k e = slice_get_within xs k t (place_back xs t k e)

-- an element passes a test that each element passes
each_passes : (p : ModelTag → Bool) (xs : List ModelTag) (n : ℕ) (t : ModelTag) → list_all p xs ≡ true → slice_get xs n ≡ Some t → p t ≡ true
each_passes p [] n t a e = cc
each_passes p (x ∷ xs) zero t a e =
    let same : x ≡ t = cc in ap p (sym same) ∙ (both_true (p x) (list_all p xs) a).0
each_passes p (x ∷ xs) (suc n) t a e = each_passes p xs n t (both_true (p x) (list_all p xs) a).1 e

-- a test that is not passed
not_true : (b : Bool) → not b ≡ true → b ≡ false
not_true true e = cc
not_true false e = refl

-- if all tags are distinct, the index of the tag at an index is that index
pub tag_back : (xs : List ModelTag) (n : ℕ) (t : ModelTag) → are_unique xs ≡ true → slice_get xs n ≡ Some t → place_of xs t ≡ Some n
tag_back [] n t u e = cc
tag_back (x ∷ xs) zero t u e =
    let same : x ≡ t = cc in
    let first : tag_same t x ≡ true = ap (tag_same t) same ∙ tag_same_itself t in
    ap (λ b. cond b (Some 0) (position_from (tag_same t) 1 xs)) first
tag_back (x ∷ xs) (suc n) t u e =
    let parts = both_true (list_all (λ y. not (tag_same x y)) xs) (are_unique xs) u in
    let other : tag_same x t ≡ false = not_true (tag_same x t) (each_passes (λ y. not (tag_same x y)) xs n t parts.0 e) in
    ap (λ b. cond b (Some 0) (position_from (tag_same t) 1 xs)) (tag_same_flip x t other)
    ∙ (position_from_zero (tag_same t) 1 xs ∙ (ap (option_map (λ j. 1 + j)) (tag_back xs n t parts.1 e) ∙ ap (λ (k : ℕ). Some k) (let s : 1 + n ≡ suc n = omega arith in s)))

-- a count that fits is the number counted
pub counted_is : (n k : ℕ) → counted n ≡ Some k → n ≡ k
counted_is n k e = go (ltb n (2 ^ 64)) e where
  go : (b : Bool) → cond b (Some n) None ≡ Some k → n ≡ k
  go true h = cc
  go false h = cc

-- a number of 64 bits is counted
pub counted_fits : (n : ℕ) → n < 2 ^ 64 → counted n ≡ Some n
counted_fits n h = ap (λ b. cond b (Some n) None) (lt-ltb n (2 ^ 64) h)

-- the same of an answer
pub found_back : (xs : List ModelTag) (t : ModelTag) (o : Option ℕ) → o ≡ place_of xs t → IfSome o (λ p. slice_get xs p ≡ Some t)
found_back xs t None e = tt
found_back xs t (Some k) e = place_back xs t k (sym e)

-- the same of an answer
pub read_back : (xs : List ModelTag) (n : ℕ) (o : Option Tag) → IsTrue (are_unique xs) → option_map tag_of o ≡ slice_get xs n → IfSome o (λ t. place_of xs (tag_of t) ≡ Some n)
read_back xs n None u e = tt
read_back xs n (Some t) u e = tag_back xs n (tag_of t) (search rules) (sym e)
