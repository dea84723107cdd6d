-- Numbers of native types: their differences, and their order.
use Rattle.std.proofs.Common.{◌≡◌, ◌∙◌, refl, sym, ℕ, ℤ, pos, negsuc, ◌-ℤ◌, ◌≤ℤ◌, ◌<◌, ◌≤◌, ◌-◌, ◌^◌, Bool, true, false, cond, ◌&&◌, Option, Some, None, IfSome, leb, arith}
use Rattle.std.proofs.lemmas.Int.{ints}
use Rattle.std.proofs.lemmas.Bool.{leb-true, leb-false}
use Rattle.std.proofs.lemmas.Nat.{pow_below}
use Rattle.std.specs.Option.{option_map, option_map_or}
use Rattle.asn1_model.specs.Numbers.{is_at_most, is_within}
use Rattle.asn1_values_natives.specs.Ranges.{range_of, greatest_of, whole_range}
use Rattle.asn1_schema_constraints.specs.declared.bounds.Bounded.{Bounded}
use Rattle.asn1_schema_constraints.specs.Bounds.{lower, upper, later, earlier, meet, is_inverted, common, at_most_by, admits_by, are_admitting}
use Rattle.asn1_schema_constraints.proofs.Orders.{at_most}
use Rattle.asn1_schema_constraints.proofs.Meets.{IsOrder, is_above, is_below, meet_admits, inverted_admits, straight_admits, differ, both_true}
use Rattle.asn1_schema_constraints.proofs.Common.{number_order, told_at_most, both_by, inverted_meet}

-- ---- the order by numbers

pub native_order : {X : Type 0} (number : X → ℤ) → ((x y : X) → number x ≡ number y → x ≡ y) → IsOrder (at_most_by number)
native_order number injective = record {
  total = λ a b h. number_order.total (number a) (number b) h;
  chained = λ a b c h k. number_order.chained (number a) (number b) (number c) h k;
  equal = λ a b h k. injective a b (number_order.equal (number a) (number b) h k);
}

from_is : {X : Type 0} (number : X → ℤ) (low : Option X) (v : X) → option_map_or (λ x. is_at_most x (number v)) (option_map number low) true ≡ is_above (at_most_by number) low v
from_is number None v = refl
from_is number (Some a) v = refl

to_is : {X : Type 0} (number : X → ℤ) (high : Option X) (v : X) → option_map_or (λ x. is_at_most (number v) x) (option_map number high) true ≡ is_below (at_most_by number) high v
to_is number None v = refl
to_is number (Some a) v = refl

-- what bounds admit is between their ends
ends : {X : Type 0} (number : X → ℤ) (b : Bounded X) (v : X) → admits_by number b v ≡ (is_above (at_most_by number) (lower b) v && is_below (at_most_by number) (upper b) v)
ends number b v = both_by (from_is number (lower b) v) (to_is number (upper b) v)

meet_admits_by : {X : Type 0} (number : X → ℤ) → IsOrder (at_most_by number) → (a b : Bounded X) (v : X) →
    admits_by number (meet (at_most_by number) a b) v ≡ (admits_by number a v && admits_by number b v)
meet_admits_by number o a b v = ends number (meet (at_most_by number) a b) v
    ∙ (meet_admits (at_most_by number) o a b v ∙ sym (both_by (ends number a v) (ends number b v)))

pub common_admits : {X : Type 0} (number : X → ℤ) → IsOrder (at_most_by number) → (a b : Bounded X) (v : X) →
    are_admitting (admits_by number) (common (at_most_by number) a b) v ≡ (admits_by number a v && admits_by number b v)
common_admits {X} number o a b v = go (is_inverted le (later le (lower a) (lower b)) (earlier le (upper a) (upper b))) refl where
  le : X → X → Bool
  le = at_most_by number

  go : (t : Bool) → is_inverted le (later le (lower a) (lower b)) (earlier le (upper a) (upper b)) ≡ t
      → are_admitting (admits_by number) (cond t None (Some (meet le a b))) v ≡ (admits_by number a v && admits_by number b v)
  go true e = sym (inverted_admits le o (lower (meet le a b)) (upper (meet le a b)) v (inverted_meet le o a b true e))
      ∙ (sym (ends number (meet le a b) v) ∙ meet_admits_by number o a b v)
  go false e = meet_admits_by number o a b v

-- the result admits some value
pub common_some : {X : Type 0} (number : X → ℤ) → IsOrder (at_most_by number) → X → (a b : Bounded X) → IfSome (common (at_most_by number) a b) (λ r. (v : X) × (admits_by number r v ≡ true))
common_some {X} number o x a b = go (is_inverted le (later le (lower a) (lower b)) (earlier le (upper a) (upper b))) refl where
  le : X → X → Bool
  le = at_most_by number

  go : (t : Bool) → is_inverted le (later le (lower a) (lower b)) (earlier le (upper a) (upper b)) ≡ t
      → IfSome (cond t None (Some (meet le a b))) (λ r. (v : X) × (admits_by number r v ≡ true))
  go true e = tt
  go false e =
      let s = straight_admits le o x (lower (meet le a b)) (upper (meet le a b)) (inverted_meet le o a b false e) in
      (s.0, ends number (meet le a b) s.0 ∙ s.1)

-- ---- what 129 bits hold

within : (low high : ℤ) (z : ℤ) → low ≤ℤ z → z ≤ℤ high → (is_at_most low z && is_at_most z high) ≡ true
within low high z h k = both_by (at_most low z h) (at_most z high k)

held_wide : (s : Bool) (g : ℕ) (z : ℤ) → g < 2 ^ 128 → is_within (range_of s g) z ≡ true → is_within (whole_range (2 ^ 128 - 1)) z ≡ true
held_wide false g z h k =
    let b = both_true (is_at_most (pos 0) z) (is_at_most z (pos g)) k in
    let low = told_at_most (pos 0) z b.0 in
    let high = told_at_most z (pos g) b.1 in
    within (negsuc (2 ^ 128 - 1)) (pos (2 ^ 128 - 1)) z (omega (arith, ints, low, high, h)) (omega (arith, ints, low, high, h))
held_wide true g z h k =
    let b = both_true (is_at_most (negsuc g) z) (is_at_most z (pos g)) k in
    let low = told_at_most (negsuc g) z b.0 in
    let high = told_at_most z (pos g) b.1 in
    within (negsuc (2 ^ 128 - 1)) (pos (2 ^ 128 - 1)) z (omega (arith, ints, low, high, h)) (omega (arith, ints, low, high, h))

-- what 129 bits do not hold, no native type holds
pub past_wide : (s : Bool) (g : ℕ) (z : ℤ) → g < 2 ^ 128 → is_within (whole_range (2 ^ 128 - 1)) z ≡ false → is_within (range_of s g) z ≡ false
past_wide s g z h e = go (is_within (range_of s g) z) refl where
  go : (t : Bool) → is_within (range_of s g) z ≡ t → t ≡ false
  go false k = refl
  go true k = differ (sym e ∙ held_wide s g z h k)

at_most_half : (i : ℕ) → i ≤ 127 → 2 ^ i ≤ 2 ^ 127
at_most_half i h = go (leb i 126) refl where
  go : (t : Bool) → leb i 126 ≡ t → 2 ^ i ≤ 2 ^ 127
  go true e = let less = leb-true i 126 e in let k = pow_below i 127 (omega (arith, less)) in omega (arith, k)
  go false e = let more = leb-false i 126 e in let same : i ≡ 127 = omega (arith, more, h) in rw same (omega arith)

-- the numbers of a native type are no further apart than 129 bits hold
pub spread : (s : Bool) (bits g : ℕ) (x y : ℤ) → bits ≤ 128 → g < 2 ^ 128 → g ≡ greatest_of s bits → is_within (range_of s g) x ≡ true → is_within (range_of s g) y ≡ true
    → is_within (whole_range (2 ^ 128 - 1)) (y -ℤ x) ≡ true
spread false bits g x y n h e k l =
    let b = both_true (is_at_most (pos 0) x) (is_at_most x (pos g)) k in
    let d = both_true (is_at_most (pos 0) y) (is_at_most y (pos g)) l in
    let low = told_at_most (pos 0) x b.0 in
    let high = told_at_most x (pos g) b.1 in
    let least = told_at_most (pos 0) y d.0 in
    let most = told_at_most y (pos g) d.1 in
    within (negsuc (2 ^ 128 - 1)) (pos (2 ^ 128 - 1)) (y -ℤ x) (omega (arith, ints, low, high, least, most, h)) (omega (arith, ints, low, high, least, most, h))
spread true bits g x y n h e k l =
    let b = both_true (is_at_most (negsuc g) x) (is_at_most x (pos g)) k in
    let d = both_true (is_at_most (negsuc g) y) (is_at_most y (pos g)) l in
    let low = told_at_most (negsuc g) x b.0 in
    let high = told_at_most x (pos g) b.1 in
    let least = told_at_most (negsuc g) y d.0 in
    let most = told_at_most y (pos g) d.1 in
    let few = at_most_half (bits - 1) (omega (arith, n)) in
    within (negsuc (2 ^ 128 - 1)) (pos (2 ^ 128 - 1)) (y -ℤ x) (omega (arith, ints, low, high, least, most, few, e)) (omega (arith, ints, low, high, least, most, few, e))
