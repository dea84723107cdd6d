-- What bounds of integers, and of counts, both admit.
use Rattle.std.proofs.Common.{◌≡◌, ◌∙◌, refl, sym, ap, ℕ, ℤ, pos, negsuc, ◌-ℤ◌, ◌≤ℤ◌, ◌<ℤ◌, leb, Bool, true, false, cond, ◌&&◌, Option, Some, None, unwrap_or, IfSome, arith}
use Rattle.std.proofs.lemmas.Int.{ints}
use Rattle.std.proofs.lemmas.Bool.{leb-true, leb-false, le-leb}
use Rattle.asn1_model.specs.Numbers.{is_at_most}
use Rattle.asn1_schema_constraints.specs.declared.bounds.Bounded.{Bounded}
use Rattle.asn1_schema_constraints.specs.Bounds.{lower, upper, later, earlier, meet, is_inverted, common, admits_number, admits_count, are_admitting}
use Rattle.asn1_schema_constraints.proofs.Orders.{at_most}
use Rattle.asn1_schema_constraints.proofs.Meets.{IsOrder, is_above, is_below, meet_admits, lower_meet, upper_meet, inverted_admits, straight_admits}
use Rattle.std.specs.Option.{option_map_or}

-- ---- the two orders

from_zero : (d : ℤ) → elim d as (λ _. Bool) [ pos n ↦ true | negsuc n ↦ false ] ≡ true → pos 0 ≤ℤ d
from_zero (pos n) h = omega (arith, ints)
from_zero (negsuc n) h = cc

to_zero : (d : ℤ) → elim d as (λ _. Bool) [ pos n ↦ true | negsuc n ↦ false ] ≡ false → d <ℤ pos 0
to_zero (pos n) h = cc
to_zero (negsuc n) h = omega (arith, ints)

pub told_at_most : (a b : ℤ) → is_at_most a b ≡ true → a ≤ℤ b
told_at_most a b h = let d = from_zero (b -ℤ a) h in omega (arith, ints, d)

told_above : (a b : ℤ) → is_at_most a b ≡ false → b <ℤ a
told_above a b h = let d = to_zero (b -ℤ a) h in omega (arith, ints, d)

pub number_order : IsOrder is_at_most
number_order = record {
  total = λ a b h. at_most b a (let d = told_above a b h in omega (arith, ints, d));
  chained = λ a b c h k. at_most a c (let d = told_at_most a b h in let e = told_at_most b c k in omega (arith, ints, d, e));
  equal = λ a b h k. let d = told_at_most a b h in let e = told_at_most b a k in omega (arith, ints, d, e);
}

pub count_order : IsOrder leb
count_order = record {
  total = λ a b h. le-leb b a (let d = leb-false a b h in omega (arith, d));
  chained = λ a b c h k. le-leb a c (let d = leb-true a b h in let e = leb-true b c k in omega (arith, d, e));
  equal = λ a b h k. let d = leb-true a b h in let e = leb-true b a k in omega (arith, d, e);
}

-- ---- what is admitted, by the ends

pub from_is : (low : Option ℤ) (v : ℤ) → option_map_or (λ x. is_at_most x v) low true ≡ is_above is_at_most low v
from_is None v = refl
from_is (Some a) v = refl

pub to_is : (high : Option ℤ) (v : ℤ) → option_map_or (λ x. is_at_most v x) high true ≡ is_below is_at_most high v
to_is None v = refl
to_is (Some a) v = refl

-- what bounds of numbers admit is between their ends
number_ends : (b : Bounded ℤ) (v : ℤ) → admits_number b v ≡ (is_above is_at_most (lower b) v && is_below is_at_most (upper b) v)
number_ends b v = ap (λ t. t && (option_map_or (λ x. is_at_most v x) (upper b) true)) (from_is (lower b) v) ∙ ap (λ t. is_above is_at_most (lower b) v && t) (to_is (upper b) v)

count_from_is : (low : Option ℕ) (n : ℕ) → leb (unwrap_or low 0) n ≡ is_above leb low n
count_from_is None n = le-leb 0 n (omega arith)
count_from_is (Some a) n = refl

count_to_is : (high : Option ℕ) (n : ℕ) → option_map_or (λ x. leb n x) high true ≡ is_below leb high n
count_to_is None n = refl
count_to_is (Some a) n = refl

-- what bounds of counts admit is between their ends
count_ends : (b : Bounded ℕ) (n : ℕ) → admits_count b n ≡ (is_above leb (lower b) n && is_below leb (upper b) n)
count_ends b n = ap (λ t. t && (option_map_or (λ x. leb n x) (upper b) true)) (count_from_is (lower b) n) ∙ ap (λ t. is_above leb (lower b) n && t) (count_to_is (upper b) n)

-- two booleans by two equations
pub both_by : {p p' q q' : Bool} → p ≡ p' → q ≡ q' → (p && q) ≡ (p' && q')
both_by {p} {p'} {q} {q'} e f = ap (λ t. t && q) e ∙ ap (λ t. p' && t) f

-- the intersection of two bounds of numbers admits what both do
pub number_meet_admits : (a b : Bounded ℤ) (v : ℤ) → admits_number (meet is_at_most a b) v ≡ (admits_number a v && admits_number b v)
number_meet_admits a b v = number_ends (meet is_at_most a b) v
    ∙ (meet_admits is_at_most number_order a b v ∙ sym (both_by (number_ends a v) (number_ends b v)))

-- the intersection of two bounds of counts admits what both do
pub count_meet_admits : (a b : Bounded ℕ) (n : ℕ) → admits_count (meet leb a b) n ≡ (admits_count a n && admits_count b n)
count_meet_admits a b n = count_ends (meet leb a b) n
    ∙ (meet_admits leb count_order a b n ∙ sym (both_by (count_ends a n) (count_ends b n)))

-- ---- the same where there may be nothing in common

-- the ends of an intersection are those that are compared
pub inverted_meet : {X : Type 0} (le : X → X → Bool) → IsOrder le → (a b : Bounded X) (t : Bool)
    → is_inverted le (later le (lower a) (lower b)) (earlier le (upper a) (upper b)) ≡ t → is_inverted le (lower (meet le a b)) (upper (meet le a b)) ≡ t
inverted_meet le o a b t e = ap (λ low. is_inverted le low (upper (meet le a b))) (lower_meet le a b)
    ∙ (ap (is_inverted le (later le (lower a) (lower b))) (upper_meet le o a b) ∙ e)

pub number_common_admits : (a b : Bounded ℤ) (v : ℤ) → are_admitting admits_number (common is_at_most a b) v ≡ (admits_number a v && admits_number b v)
number_common_admits a b v = go (is_inverted is_at_most (later is_at_most (lower a) (lower b)) (earlier is_at_most (upper a) (upper b))) refl where
  go : (t : Bool) → is_inverted is_at_most (later is_at_most (lower a) (lower b)) (earlier is_at_most (upper a) (upper b)) ≡ t
      → are_admitting admits_number (cond t None (Some (meet is_at_most a b))) v ≡ (admits_number a v && admits_number b v)
  go true e = sym (inverted_admits is_at_most number_order (lower (meet is_at_most a b)) (upper (meet is_at_most a b)) v (inverted_meet is_at_most number_order a b true e))
      ∙ (sym (number_ends (meet is_at_most a b) v) ∙ number_meet_admits a b v)
  go false e = number_meet_admits a b v

pub count_common_admits : (a b : Bounded ℕ) (n : ℕ) → are_admitting admits_count (common leb a b) n ≡ (admits_count a n && admits_count b n)
count_common_admits a b n = go (is_inverted leb (later leb (lower a) (lower b)) (earlier leb (upper a) (upper b))) refl where
  go : (t : Bool) → is_inverted leb (later leb (lower a) (lower b)) (earlier leb (upper a) (upper b)) ≡ t
      → are_admitting admits_count (cond t None (Some (meet leb a b))) n ≡ (admits_count a n && admits_count b n)
  go true e = sym (inverted_admits leb count_order (lower (meet leb a b)) (upper (meet leb a b)) n (inverted_meet leb count_order a b true e))
      ∙ (sym (count_ends (meet leb a b) n) ∙ count_meet_admits a b n)
  go false e = count_meet_admits a b n

-- the result admits some number
pub number_common_some : (a b : Bounded ℤ) → IfSome (common is_at_most a b) (λ r. (v : ℤ) × (admits_number r v ≡ true))
number_common_some a b = go (is_inverted is_at_most (later is_at_most (lower a) (lower b)) (earlier is_at_most (upper a) (upper b))) refl where
  go : (t : Bool) → is_inverted is_at_most (later is_at_most (lower a) (lower b)) (earlier is_at_most (upper a) (upper b)) ≡ t
      → IfSome (cond t None (Some (meet is_at_most a b))) (λ r. (v : ℤ) × (admits_number r v ≡ true))
  go true e = tt
  go false e = let w = straight_admits is_at_most number_order (pos 0) (lower (meet is_at_most a b)) (upper (meet is_at_most a b)) (inverted_meet is_at_most number_order a b false e)
      in (w.0, number_ends (meet is_at_most a b) w.0 ∙ w.1)

-- the result admits some count
pub count_common_some : (a b : Bounded ℕ) → IfSome (common leb a b) (λ r. (n : ℕ) × (admits_count r n ≡ true))
count_common_some a b = go (is_inverted leb (later leb (lower a) (lower b)) (earlier leb (upper a) (upper b))) refl where
  go : (t : Bool) → is_inverted leb (later leb (lower a) (lower b)) (earlier leb (upper a) (upper b)) ≡ t
      → IfSome (cond t None (Some (meet leb a b))) (λ r. (n : ℕ) × (admits_count r n ≡ true))
  go true e = tt
  go false e = let w = straight_admits leb count_order 0 (lower (meet leb a b)) (upper (meet leb a b)) (inverted_meet leb count_order a b false e)
      in (w.0, count_ends (meet leb a b) w.0 ∙ w.1)
