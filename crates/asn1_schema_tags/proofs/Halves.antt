-- Binary search in an ascending table.
use Rattle.std.proofs.Common.{◌≡◌, ◌∙◌, refl, sym, ap, ℕ, zero, suc, ◌+◌, ◌-◌, ◌/◌, ◌^◌, ◌≤◌, ◌<◌, ◌==◌, ltb, List, [], ◌∷◌, Bool, true, false, cond, ◌&&◌, Some, None, length, slice_get, arith}
use Rattle.std.proofs.Math.Nat.{pow-suc, pow-zero}
use Rattle.std.proofs.lemmas.Bool.{eqb-true, eqb-false, ltb-true, ltb-false}
use Rattle.std.proofs.lemmas.Option.{slice_get_within}
use Rattle.std.proofs.lemmas.Bool.Decides.{nat_tests}
use Rattle.asn1_model.specs.Schema.{Tag as ModelTag}
use Rattle.asn1_model.specs.Lawful.{tag_less, tag_same}
use Rattle.asn1_model.specs.Numbers.{width, places_up_to}
use Rattle.asn1_schema_tags.specs.Tags.{tag_of}
use Rattle.asn1_schema_tags.specs.Places.{Probed, ascends, looked_up}
use Rattle.asn1_schema_tags.specs.declared.probes.TagPlace.{TagPlace}

-- Tags that differ are not the same.
less_differs : (t u : ModelTag) → tag_less t u ≡ true → tag_same t u ≡ false
less_differs t u p = grind (arith, nat_tests)

-- Nor with the arguments exchanged.
less_differs_back : (t u : ModelTag) → tag_less t u ≡ true → tag_same u t ≡ false
less_differs_back t u p = grind (arith, nat_tests)

less_through : (t u v : ModelTag) → tag_less t u ≡ true → tag_less u v ≡ true → tag_less t v ≡ true
less_through t u v p q = grind (arith, nat_tests)

-- The first of two tests that both hold.
pub left : (p q : Bool) → (p && q) ≡ true → p ≡ true
left true q e = refl
left false q e = e

pub right : (p q : Bool) → (p && q) ≡ true → q ≡ true
right true q e = e
right false q e = cc

-- The rest of an ascending table after its first tag ascends.
behind : (p : TagPlace) (ps : List TagPlace) → ascends (p ∷ ps) ≡ true → ascends ps ≡ true
behind p [] e = refl
behind p (q ∷ ps) e = right (tag_less (tag_of p.tag) (tag_of q.tag)) (ascends (q ∷ ps)) e

-- The first tag is less than each later one.
before : (p : TagPlace) (ps : List TagPlace) → ascends (p ∷ ps) ≡ true → (k : ℕ) (r : TagPlace) → slice_get ps k ≡ Some r
    → tag_less (tag_of p.tag) (tag_of r.tag) ≡ true
before p [] e k r f = cc
before p (q ∷ ps) e zero r f =
    let first = left (tag_less (tag_of p.tag) (tag_of q.tag)) (ascends (q ∷ ps)) e in
    let is : q ≡ r = cc in
    sym (ap (λ (x : TagPlace). tag_less (tag_of p.tag) (tag_of x.tag)) is) ∙ first
before p (q ∷ ps) e (suc k) r f =
    less_through (tag_of p.tag) (tag_of q.tag) (tag_of r.tag)
    (left (tag_less (tag_of p.tag) (tag_of q.tag)) (ascends (q ∷ ps)) e)
    (before q ps (behind p (q ∷ ps) e) k r f)

-- Of two tags of an ascending table the earlier is less than the later.
in_turn : (ps : List TagPlace) (k m : ℕ) (r q : TagPlace) → ascends ps ≡ true → k < m → slice_get ps k ≡ Some r → slice_get ps m ≡ Some q
    → tag_less (tag_of r.tag) (tag_of q.tag) ≡ true
in_turn [] k m r q e l f g = cc
in_turn (p ∷ ps) zero zero r q e l f g = absurd (omega arith)
in_turn (p ∷ ps) (suc k) zero r q e l f g = absurd (omega arith)
in_turn (p ∷ ps) zero (suc m) r q e l f g =
    let is : p ≡ r = cc in
    sym (ap (λ (x : TagPlace). tag_less (tag_of x.tag) (tag_of q.tag)) is) ∙ before p ps e m q g
in_turn (p ∷ ps) (suc k) (suc m) r q e l f g = in_turn ps k m r q (behind p ps e) (omega arith) f g

-- All tags before an index are less than this one.
abbrev pub AllBefore : List TagPlace → ModelTag → ℕ → Type 0
AllBefore ps t low = (k : ℕ) (r : TagPlace) → slice_get ps k ≡ Some r → k < low → tag_less (tag_of r.tag) t ≡ true

-- All tags from an index on are greater than this one.
abbrev pub AllBehind : List TagPlace → ModelTag → ℕ → Type 0
AllBehind ps t high = (k : ℕ) (r : TagPlace) → slice_get ps k ≡ Some r → high ≤ k → tag_less t (tag_of r.tag) ≡ true

pub before_none : (ps : List TagPlace) (t : ModelTag) → AllBefore ps t 0
before_none ps t k r f l = absurd (omega arith)

pub behind_all : (ps : List TagPlace) (t : ModelTag) (n : ℕ) → n ≡ length ps → AllBehind ps t n
behind_all ps t n e k r f l = let w = slice_get_within ps k r f in absurd (omega arith)

-- The tag at an index is less than this one, and so are all before it.
pub before_more : (ps : List TagPlace) (t : ModelTag) (m : ℕ) (q : TagPlace) → ascends ps ≡ true → slice_get ps m ≡ Some q → tag_less (tag_of q.tag) t ≡ true
    → AllBefore ps t (m + 1)
before_more ps t m q e g h k r f l = go (k == m) refl where
  go : (b : Bool) → (k == m) ≡ b → tag_less (tag_of r.tag) t ≡ true
  go true c =
      let at : k ≡ m = eqb-true k m c in
      let is : r ≡ q = let both : Some r ≡ Some q = sym f ∙ (ap (slice_get ps) at ∙ g) in cc in
      ap (λ (x : TagPlace). tag_less (tag_of x.tag) t) is ∙ h
  go false c =
      let less : k < m = let apart : k ≡ m → ⊥ = eqb-false k m c in grind arith in
      less_through (tag_of r.tag) (tag_of q.tag) t (in_turn ps k m r q e less f g) h

-- The tag at an index is greater than this one, and so are all after it.
pub behind_more : (ps : List TagPlace) (t : ModelTag) (m : ℕ) (q : TagPlace) → ascends ps ≡ true → slice_get ps m ≡ Some q → tag_less t (tag_of q.tag) ≡ true
    → AllBehind ps t m
behind_more ps t m q e g h k r f l = go (k == m) refl where
  go : (b : Bool) → (k == m) ≡ b → tag_less t (tag_of r.tag) ≡ true
  go true c =
      let at : k ≡ m = eqb-true k m c in
      let is : r ≡ q = let both : Some r ≡ Some q = sym f ∙ (ap (slice_get ps) at ∙ g) in cc in
      ap (λ (x : TagPlace). tag_less t (tag_of x.tag)) is ∙ h
  go false c =
      let less : m < k = let apart : k ≡ m → ⊥ = eqb-false k m c in grind arith in
      less_through t (tag_of q.tag) (tag_of r.tag) h (in_turn ps m k q r e less g f)

-- A tag that is in no entry is not found.
pub none_there : (ps : List TagPlace) (t : ModelTag) → ((k : ℕ) (r : TagPlace) → slice_get ps k ≡ Some r → tag_same t (tag_of r.tag) ≡ false) → looked_up ps t ≡ None
none_there [] t h = refl
none_there (p ∷ ps) t h =
    ap (λ b. cond b (Some p.place) (looked_up ps t)) (h 0 p refl) ∙ none_there ps t (λ k r f. h (suc k) r f)

-- A tag that is greater than all before an index and less than all from it on is not there.
pub between : (ps : List TagPlace) (t : ModelTag) (low high : ℕ) → high ≤ low → AllBefore ps t low → AllBehind ps t high → looked_up ps t ≡ None
between ps t low high h a b = none_there ps t each where
  each : (k : ℕ) (r : TagPlace) → slice_get ps k ≡ Some r → tag_same t (tag_of r.tag) ≡ false
  each k r f = go (ltb k low) refl where
    go : (c : Bool) → ltb k low ≡ c → tag_same t (tag_of r.tag) ≡ false
    go true e = less_differs_back (tag_of r.tag) t (a k r f (ltb-true k low e))
    go false e = less_differs t (tag_of r.tag) (b k r f (let past : low ≤ k = ltb-false k low e in omega (arith, past, h)))

-- The tag at an index has that entry.
pub just_there : (ps : List TagPlace) (k : ℕ) (r : TagPlace) (t : ModelTag) → ascends ps ≡ true → slice_get ps k ≡ Some r
    → tag_of r.tag ≡ t → looked_up ps t ≡ Some r.place
just_there [] k r t e f h = cc
just_there (p ∷ ps) zero r t e f h =
    let is : p ≡ r = cc in
    let same : tag_same t (tag_of p.tag) ≡ true = grind (arith, nat_tests) in
    ap (λ b. cond b (Some p.place) (looked_up ps t)) same ∙ ap (λ (x : TagPlace). Some x.place) is
just_there (p ∷ ps) (suc k) r t e f h =
    let less : tag_less (tag_of p.tag) t ≡ true = ap (tag_less (tag_of p.tag)) (sym h) ∙ before p ps e k r f in
    ap (λ b. cond b (Some p.place) (looked_up ps t)) (less_differs_back (tag_of p.tag) t less)
    ∙ just_there ps k r t (behind p ps e) f h

-- A number above 0 has one digit more than its half.
digit : (f n : ℕ) → places_up_to (suc f) 2 (suc n) ≡ suc (places_up_to f 2 (suc n / 2))
unfolding places_up_to
digit f n = let e : (suc n == 0) ≡ false = grind (arith, nat_tests) in ap (λ b. elim b [ true ↦ 0 | false ↦ suc (places_up_to f 2 (suc n / 2)) ]) e

none_of_zero : (f : ℕ) → places_up_to f 2 0 ≡ 0
unfolding places_up_to
none_of_zero zero = refl
none_of_zero (suc f) = refl

none_left : (n : ℕ) → places_up_to 0 2 n ≡ 0
unfolding places_up_to
none_left n = refl

-- Of two numbers the smaller has at most as many digits.
no_more_digits : (f g m n : ℕ) → m ≤ n → n ≤ g → places_up_to f 2 m ≤ places_up_to g 2 n
no_more_digits zero g m n h i = let e = none_left m in omega (arith, e)
no_more_digits (suc f) g zero n h i = let e = none_of_zero (suc f) in omega (arith, e)
no_more_digits (suc f) zero (suc m) n h i = absurd (omega arith)
no_more_digits (suc f) (suc g) (suc m) zero h i = absurd (omega arith)
no_more_digits (suc f) (suc g) (suc m) (suc n) h i =
    let more = no_more_digits f g (suc m / 2) (suc n / 2) (omega (arith, h)) (omega (arith, i)) in
    let a = digit f m in
    let b = digit g n in
    omega (arith, more, a, b)

-- Half of a number has one digit less.
pub half_width : (n m : ℕ) → 0 < n → m ≤ n / 2 → width m + 1 ≤ width n
half_width zero m h i = absurd (omega arith)
half_width (suc n) m h i =
    let more = no_more_digits m n m (suc n / 2) i (omega arith) in
    let a = digit n n in
    omega (arith, more, a)

-- A number of 64 bits has at most 64 digits.
few_digits : (f n k : ℕ) → n < 2 ^ k → places_up_to f 2 n ≤ k
few_digits zero n k h = let e = none_left n in omega (arith, e)
few_digits (suc f) zero k h = let e = none_of_zero (suc f) in omega (arith, e)
few_digits (suc f) (suc n) zero h = let one = pow-zero 2 in absurd (omega arith)
few_digits (suc f) (suc n) (suc k) h =
    let twice = pow-suc 2 k in
    let less = few_digits f (suc n / 2) k (omega arith) in
    let a = digit f n in
    omega (arith, less, a)

pub width_64 : (n : ℕ) → n < 2 ^ 64 → width n ≤ 64
width_64 n h = few_digits n n 64 h

-- An index within a table has an entry.
pub entry : (ps : List TagPlace) (k : ℕ) → k < length ps → (r : TagPlace) × (slice_get ps k ≡ Some r)
entry [] k h = absurd (omega arith)
entry (p ∷ ps) zero h = (p, refl)
entry (p ∷ ps) (suc k) h = entry ps k (omega (arith, h))

-- What is known while a tag is looked up from one index to another: the table is unchanged, the tag is at none of the
-- other indices, and enough comparisons are left for these.
pub record Sought (ps : List TagPlace) (t : ModelTag) (now : Probed) (low high : ℕ) : Type 0 where
  pub table : now.places ≡ ps
  pub ordered : low ≤ high
  pub within : high ≤ length ps
  pub before : AllBefore ps t low
  pub behind : AllBehind ps t high
  pub few : now.count + width (high - low) ≤ width (length ps)

pub at_first : (ps : List TagPlace) (t : ModelTag) (now : Probed) (n : ℕ) → now.places ≡ ps → now.count ≡ 0 → n ≡ length ps → Sought ps t now 0 n
at_first ps t now n e z l = record {
  table = e;
  ordered = omega arith;
  within = omega (arith, l);
  before = before_none ps t;
  behind = behind_all ps t n l;
  few = let w : width (n - 0) ≡ width (length ps) = ap width (let k : n - 0 ≡ length ps = omega (arith, l) in k) in omega (arith, z, w);
}

-- How far the middle of some indices is from the first.
abbrev pub middle : ℕ → ℕ → ℕ
middle low high = low + (high - low) / 2

-- The search goes on after the middle.
pub upper_half : (ps : List TagPlace) (t : ModelTag) (old now : Probed) (low high : ℕ) (r : TagPlace) → ascends ps ≡ true → Sought ps t old low high → low < high
    → now.places ≡ old.places → now.count ≡ old.count + 1 → slice_get ps (middle low high) ≡ Some r → tag_less (tag_of r.tag) t ≡ true
    → Sought ps t now (middle low high + 1) high
upper_half ps t old now low high r e s l p n f h = record {
  table = p ∙ s.table;
  ordered = omega arith;
  within = s.within;
  before = before_more ps t (middle low high) r e f h;
  behind = s.behind;
  few =
      let less = half_width (high - low) (high - (middle low high + 1)) (omega arith) (omega arith) in
      omega (arith, less, n, s.few);
}

-- The search goes on before the middle.
pub lower_half : (ps : List TagPlace) (t : ModelTag) (old now : Probed) (low high : ℕ) (r : TagPlace) → ascends ps ≡ true → Sought ps t old low high → low < high
    → now.places ≡ old.places → now.count ≡ old.count + 1 → slice_get ps (middle low high) ≡ Some r → tag_less t (tag_of r.tag) ≡ true
    → Sought ps t now low (middle low high)
lower_half ps t old now low high r e s l p n f h = record {
  table = p ∙ s.table;
  ordered = omega arith;
  within = omega (arith, s.within);
  before = s.before;
  behind = behind_more ps t (middle low high) r e f h;
  few =
      let less = half_width (high - low) (middle low high - low) (omega arith) (omega arith) in
      omega (arith, less, n, s.few);
}
