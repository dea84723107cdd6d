-- Lists of distinct tags.
use Rattle.std.proofs.Common.{◌≡◌, ◌∙◌, refl, sym, ap, ℕ, zero, suc, Bool, true, false, not, ◌&&◌, ◌==◌, eqb-true, eq-eqb, List, [], ◌∷◌, Some, slice_get, arith}
use Rattle.asn1_model.specs.Schema.{Tag}
use Rattle.asn1_model.specs.Lawful.{tag_same, are_distinct}
use Rattle.std.specs.List.{list_all}
use Rattle.asn1_laws_values.specs.Places.{StandOnce, Twice}

-- two booleans that are both true
both_true : (a b : Bool) → (a && b) ≡ true → (a ≡ true) × (b ≡ true)
both_true true b e = (refl, e)
both_true false b e = cc

-- the same tag
tag_same_is : (t u : Tag) → tag_same t u ≡ true → t ≡ u
tag_same_is t u e =
    let both = both_true (t.class == u.class) (t.number == u.number) e in
    let classes : t.class ≡ u.class = eqb-true t.class u.class both.0 in
    let numbers : t.number ≡ u.number = eqb-true t.number u.number both.1 in
    ap (λ (k : ℕ). let r : Tag = record { class = k; number = t.number } in r) classes ∙ ap (λ (k : ℕ). let r : Tag = record { class = u.class; number = k } in r) numbers

-- a tag is the same as itself
tag_same_itself : (t : Tag) → tag_same t t ≡ true
tag_same_itself t =
    ap (λ b. b && (t.number == t.number)) (eq-eqb t.class t.class refl) ∙ eq-eqb t.number t.number refl

-- an element passes a test that each element passes
each_passes : (p : Tag → Bool) (xs : List Tag) (n : ℕ) (t : Tag) → list_all p xs ≡ true → slice_get xs n ≡ Some t → p t ≡ true
each_passes p [] n t a e = cc
each_passes p (x ∷ xs) zero t a e =
    let same : x ≡ t = cc in ap p (sym same) ∙ (both_true (p x) (list_all p xs) a).0
each_passes p (x ∷ xs) (suc n) t a e = each_passes p xs n t (both_true (p x) (list_all p xs) a).1 e

-- a tag that differs from each other one is none of them
apart : (x : Tag) (xs : List Tag) (n : ℕ) (t : Tag) → list_all (λ y. not (tag_same x y)) xs ≡ true → slice_get xs n ≡ Some t → x ≡ t → ⊥
apart x xs n t a e same =
    let passed : not (tag_same x t) ≡ true = each_passes (λ y. not (tag_same x y)) xs n t a e in
    let itself : tag_same x t ≡ true = ap (tag_same x) (sym same) ∙ tag_same_itself x in
    let false_is : false ≡ true = ap not (sym itself) ∙ passed in cc

-- if the test passes no tag occurs twice
pub stand_once : (ts : List Tag) → are_distinct tag_same ts ≡ true → StandOnce ts
stand_once [] u i j t e f = cc
stand_once (x ∷ xs) u zero zero t e f = refl
stand_once (x ∷ xs) u zero (suc j) t e f =
    absurd (apart x xs j t (both_true (list_all (λ y. not (tag_same x y)) xs) (are_distinct tag_same xs) u).0 f cc)
stand_once (x ∷ xs) u (suc i) zero t e f =
    absurd (apart x xs i t (both_true (list_all (λ y. not (tag_same x y)) xs) (are_distinct tag_same xs) u).0 e cc)
stand_once (x ∷ xs) u (suc i) (suc j) t e f =
    ap suc (stand_once xs (both_true (list_all (λ y. not (tag_same x y)) xs) (are_distinct tag_same xs) u).1 i j t e f)

-- one position further
one_further : (x y : Tag) (ys : List Tag) → (n : ℕ) × (slice_get ys n ≡ Some x) → (n : ℕ) × (slice_get (y ∷ ys) n ≡ Some x)
one_further x y ys (n, h) = (suc n, h)

found_step : (x y : Tag) (ys : List Tag) → (list_all (λ y. not (tag_same x y)) ys ≡ false → (n : ℕ) × (slice_get ys n ≡ Some x))
    → (b : Bool) → tag_same x y ≡ b → (not b && list_all (λ y. not (tag_same x y)) ys) ≡ false → (n : ℕ) × (slice_get (y ∷ ys) n ≡ Some x)
found_step x y ys further true is e = (0, ap (λ (z : Tag). Some z) (sym (tag_same_is x y is)))
found_step x y ys further false is e = one_further x y ys (further e)

-- if not each element differs from a tag, one is that tag
found : (x : Tag) (xs : List Tag) → list_all (λ y. not (tag_same x y)) xs ≡ false → (n : ℕ) × (slice_get xs n ≡ Some x)
found x [] e = cc
found x (y ∷ ys) e = found_step x y ys (λ h. found x ys h) (tag_same x y) refl e

met : (x : Tag) (xs : List Tag) → (n : ℕ) × (slice_get xs n ≡ Some x) → Twice (x ∷ xs)
met x xs (n, h) = record { tag = x; first = 0; second = suc n; apart = omega arith; here = refl; again = h }

later : (x : Tag) (xs : List Tag) → Twice xs → Twice (x ∷ xs)
later x xs w = record { tag = w.tag; first = suc w.first; second = suc w.second; apart = omega (arith, w.apart); here = w.here; again = w.again }

twice_step : (x : Tag) (xs : List Tag) → (are_distinct tag_same xs ≡ false → Twice xs)
    → (b : Bool) → list_all (λ y. not (tag_same x y)) xs ≡ b → (b && are_distinct tag_same xs) ≡ false → Twice (x ∷ xs)
twice_step x xs further true is e = later x xs (further e)
twice_step x xs further false is e = met x xs (found x xs is)

-- if the test fails, one occurs twice
pub stands_twice : (ts : List Tag) → are_distinct tag_same ts ≡ false → Twice ts
stands_twice [] e = cc
stands_twice (x ∷ xs) e = twice_step x xs (λ h. stands_twice xs h) (list_all (λ y. not (tag_same x y)) xs) refl e
