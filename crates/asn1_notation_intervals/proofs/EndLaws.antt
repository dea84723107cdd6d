-- Laws of the ends of intervals.
use Rattle.std.proofs.Common.{◌≡◌, ℤ, Bool, true, false, cond, ◌&&◌, ◌||◌, Option, Some, None, refl, ap, sym, ◌∙◌, arith}
use Rattle.std.specs.Prelude.{int_le, int_lt}
use Rattle.std.proofs.lemmas.Int.{ints}
use Rattle.asn1_notation_intervals.specs.Ends.{are_in_order, begins_by, earlier_high, ends_first, is_before, is_from, is_to, later_high, later_low}

-- ---- numbers

le_refl : (z : ℤ) → int_le z z ≡ true
le_refl z = grind (arith, ints)

below_above : (h l z : ℤ) → int_lt h l ≡ true → int_le l z ≡ true → int_le z h ≡ false
below_above h l z p q = grind (arith, ints)

above_both : (a b z : ℤ) → int_le (cond (int_le a b) b a) z ≡ (int_le a z && int_le b z)
above_both a b z = grind (arith, ints)

below_both : (a b z : ℤ) → int_le z (cond (int_le a b) a b) ≡ (int_le z a && int_le z b)
below_both a b z = grind (arith, ints)

before_later_number : (h a b : ℤ) → int_lt h (cond (int_le a b) b a) ≡ (int_lt h a || int_lt h b)
before_later_number h a b = grind (arith, ints)

earlier_before_number : (x y l : ℤ) → int_lt (cond (int_le x y) x y) l ≡ (int_lt x l || int_lt y l)
earlier_before_number x y l = grind (arith, ints)

first_above : (x y z : ℤ) → int_lt x y ≡ true → int_le z y ≡ false → int_le z x ≡ false
first_above x y z p q = grind (arith, ints)

last_above : (x y z : ℤ) → int_lt x y ≡ false → int_le z x ≡ false → int_le z y ≡ false
last_above x y z p q = grind (arith, ints)

before_through : (h a x c : ℤ) → int_lt h a ≡ true → int_le a x ≡ true → int_lt x c ≡ true → int_lt h c ≡ true
before_through h a x c p q r = grind (arith, ints)

le_trans_number : (a b c : ℤ) → int_le a b ≡ true → int_le b c ≡ true → int_le a c ≡ true
le_trans_number a b c p q = grind (arith, ints)

before_then_number : (h a b : ℤ) → int_lt h a ≡ true → int_le a b ≡ true → int_lt h b ≡ true
before_then_number h a b p q = grind (arith, ints)

reach_number : (p q l h z : ℤ) → int_le p l ≡ true → int_lt q l ≡ false → int_le p q ≡ true → (int_le p z && int_le z (cond (int_le q h) h q)) ≡ ((int_le p z && int_le z q) || (int_le l z && int_le z h))
reach_number p q l h z a b c = grind (arith, ints)

-- the same, where the second interval has no upper end
reach_up_number : (p q l z : ℤ) → int_le p l ≡ true → int_lt q l ≡ false → int_le p z ≡ ((int_le p z && int_le z q) || int_le l z)
reach_up_number p q l z a b = grind (arith, ints)

-- the same, where the first has no lower end
reach_down_number : (q l h z : ℤ) → int_lt q l ≡ false → int_le z (cond (int_le q h) h q) ≡ (int_le z q || (int_le l z && int_le z h))
reach_down_number q l h z a = grind (arith, ints)

reach_all_number : (q l z : ℤ) → int_lt q l ≡ false → true ≡ (int_le z q || int_le l z)
reach_all_number q l z a = grind (arith, ints)

reach_in_order : (p q h : ℤ) → int_le p q ≡ true → int_le p (cond (int_le q h) h q) ≡ true
reach_in_order p q h a = grind (arith, ints)

and_true : (b : Bool) → (b && true) ≡ b
and_true true = refl
and_true false = refl

or_true : (b : Bool) → (b || true) ≡ true
or_true true = refl
or_true false = refl

or_false : (b : Bool) → (b || false) ≡ b
or_false true = refl
or_false false = refl

-- ---- ends

pub from_later : (a b : Option ℤ) (z : ℤ) → is_from (later_low a b) z ≡ (is_from a z && is_from b z)
from_later (Some a) (Some b) z = above_both a b z
from_later (Some a) None z = sym (and_true (int_le a z))
from_later None (Some b) z = refl
from_later None None z = refl

pub to_earlier : (a b : Option ℤ) (z : ℤ) → is_to (earlier_high a b) z ≡ (is_to a z && is_to b z)
to_earlier (Some a) (Some b) z = below_both a b z
to_earlier (Some a) None z = sym (and_true (int_le z a))
to_earlier None (Some b) z = refl
to_earlier None None z = refl

pub before_later : (h a b : Option ℤ) → is_before h (later_low a b) ≡ (is_before h a || is_before h b)
before_later (Some h) (Some a) (Some b) = before_later_number h a b
before_later (Some h) (Some a) None = sym (or_false (int_lt h a))
before_later (Some h) None (Some b) = refl
before_later (Some h) None None = refl
before_later None (Some a) (Some b) = refl
before_later None (Some a) None = refl
before_later None None (Some b) = refl
before_later None None None = refl

pub earlier_before : (x y l : Option ℤ) → is_before (earlier_high x y) l ≡ (is_before x l || is_before y l)
earlier_before (Some x) (Some y) (Some l) = earlier_before_number x y l
earlier_before (Some x) (Some y) None = refl
earlier_before (Some x) None (Some l) = sym (or_false (int_lt x l))
earlier_before (Some x) None None = refl
earlier_before None (Some y) (Some l) = refl
earlier_before None (Some y) None = refl
earlier_before None None (Some l) = refl
earlier_before None None None = refl

-- What begins after an upper end is above it.
pub above_end : (h l : Option ℤ) (z : ℤ) → is_before h l ≡ true → is_from l z ≡ true → is_to h z ≡ false
above_end (Some h) (Some l) z p q = below_above h l z p q
above_end (Some h) None z p q = absurd (cc)
above_end None (Some l) z p q = absurd (cc)
above_end None None z p q = absurd (cc)

pub above_first : (x y : Option ℤ) (z : ℤ) → ends_first x y ≡ true → is_to y z ≡ false → is_to x z ≡ false
above_first (Some x) (Some y) z p q = first_above x y z p q
above_first (Some x) None z p q = absurd (cc)
above_first None (Some y) z p q = absurd (cc)
above_first None None z p q = absurd (cc)

pub above_last : (x y : Option ℤ) (z : ℤ) → ends_first x y ≡ false → is_to x z ≡ false → is_to y z ≡ false
above_last (Some x) (Some y) z p q = last_above x y z p q
above_last (Some x) None z p q = absurd (cc)
above_last None (Some y) z p q = absurd (cc)
above_last None None z p q = absurd (cc)

-- What ends before an interval begins ends before what comes after that interval.
pub through : (h a x c : Option ℤ) → is_before h a ≡ true → are_in_order a x ≡ true → is_before x c ≡ true → is_before h c ≡ true
through (Some h) (Some a) (Some x) (Some c) p q r = before_through h a x c p q r
through (Some h) (Some a) (Some x) None p q r = absurd (cc)
through (Some h) (Some a) None (Some c) p q r = absurd (cc)
through (Some h) (Some a) None None p q r = absurd (cc)
through (Some h) None x c p q r = absurd (cc)
through None (Some a) x c p q r = absurd (cc)
through None None x c p q r = absurd (cc)

pub begins_then : (a b c : Option ℤ) → begins_by a b ≡ true → begins_by b c ≡ true → begins_by a c ≡ true
begins_then None b c p q = refl
begins_then (Some a) (Some b) (Some c) p q = le_trans_number a b c p q
begins_then (Some a) (Some b) None p q = absurd (cc)
begins_then (Some a) None c p q = absurd (cc)

pub before_then : (h a b : Option ℤ) → is_before h a ≡ true → begins_by a b ≡ true → is_before h b ≡ true
before_then (Some h) (Some a) (Some b) p q = before_then_number h a b p q
before_then (Some h) (Some a) None p q = absurd (cc)
before_then (Some h) None b p q = absurd (cc)
before_then None (Some a) b p q = absurd (cc)
before_then None None b p q = absurd (cc)

pub begins_itself : (a : Option ℤ) → begins_by a a ≡ true
begins_itself None = refl
begins_itself (Some a) = le_refl a

-- Two intervals that overlap, the second not beginning before the first, are one that reaches to the later end.
pub reach : (p q l h : Option ℤ) (z : ℤ) → begins_by p l ≡ true → is_before q l ≡ false → are_in_order p q ≡ true → (is_from p z && is_to (later_high q h) z) ≡ ((is_from p z && is_to q z) || (is_from l z && is_to h z))
reach (Some p) (Some q) (Some l) (Some h) z a b c = reach_number p q l h z a b c
reach (Some p) (Some q) (Some l) None z a b c =
    and_true (int_le p z) ∙ reach_up_number p q l z a b ∙ ap (λ t. (int_le p z && int_le z q) || t) (sym (and_true (int_le l z)))
reach (Some p) (Some q) None h z a b c = absurd (cc)
reach (Some p) None (Some l) (Some h) z a b c = only_upper p l z h a
  where
    only_upper : (p l z h : ℤ) → int_le p l ≡ true → (int_le p z && true) ≡ ((int_le p z && true) || (int_le l z && int_le z h))
    only_upper p l z h a = grind (arith, ints)
reach (Some p) None (Some l) None z a b c = both_open p l z a
  where
    both_open : (p l z : ℤ) → int_le p l ≡ true → (int_le p z && true) ≡ ((int_le p z && true) || (int_le l z && true))
    both_open p l z a = grind (arith, ints)
reach (Some p) None None h z a b c = absurd (cc)
reach None (Some q) (Some l) (Some h) z a b c = reach_down_number q l h z b
reach None (Some q) (Some l) None z a b c = reach_all_number q l z b ∙ ap (λ t. int_le z q || t) (sym (and_true (int_le l z)))
reach None (Some q) None (Some h) z a b c = below_either q h z
  where
    below_either : (q h z : ℤ) → int_le z (cond (int_le q h) h q) ≡ (int_le z q || int_le z h)
    below_either q h z = grind (arith, ints)
reach None (Some q) None None z a b c = sym (or_true (int_le z q))
reach None None l h z a b c = refl

pub reach_order : (p q h : Option ℤ) → are_in_order p q ≡ true → are_in_order p (later_high q h) ≡ true
reach_order (Some p) (Some q) (Some h) a = reach_in_order p q h a
reach_order (Some p) (Some q) None a = refl
reach_order (Some p) None h a = refl
reach_order None (Some q) (Some h) a = refl
reach_order None (Some q) None a = refl
reach_order None None h a = refl
