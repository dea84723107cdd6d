-- The least and the greatest number of intervals that ascend.
use Rattle.std.proofs.Common.{◌≡◌, ℕ, zero, suc, ◌-◌, ◌<◌, ℤ, Bool, true, false, cond, ◌&&◌, ◌||◌, List, [], ◌∷◌, length, get_or, Option, Some, None, refl, arith}
use Rattle.std.specs.Prelude.{int_le, pos, ◌≤ℤ◌}
use Rattle.std.specs.List.{list_all}
use Rattle.std.proofs.lemmas.Bool.{and_parts, and_from}
use Rattle.std.proofs.lemmas.Int.{ints}
use Rattle.asn1_notation_intervals.specs.declared.intervals.Interval.{Interval}
use Rattle.asn1_notation_intervals.specs.Ends.{are_in_order, is_before, is_between, is_from, is_to}
use Rattle.asn1_notation_intervals.specs.Sets.{IsGreatest, IsLeast, ascend, is_in}
use Rattle.asn1_notation_intervals.proofs.MeetLaws.{above_those, ascend-parts}

-- ---- numbers

le_itself : (a : ℤ) → int_le a a ≡ true
le_itself a = grind (arith, ints)

le_fact : (a b : ℤ) → int_le a b ≡ true → a ≤ℤ b
le_fact a b h = grind (arith, ints)

at_or_below : (z : ℤ) → z ≤ℤ z
at_or_below z = grind (arith, ints)

past_end : (low high z : ℤ) → int_le low high ≡ true → int_le z high ≡ false → int_le low z ≡ true
past_end low high z a b = grind (arith, ints)

within_end : (z k h : ℤ) → int_le z k ≡ true → int_le h k ≡ false → z ≤ℤ h
within_end z k h a b = grind (arith, ints)

lesser : (z h : ℤ) → (cond (int_le z h) z h ≤ℤ z) × (int_le (cond (int_le z h) z h) h ≡ true)
lesser z h = (first z h, second z h)
  where
    first : (z h : ℤ) → cond (int_le z h) z h ≤ℤ z
    first z h = grind (arith, ints)

    second : (z h : ℤ) → int_le (cond (int_le z h) z h) h ≡ true
    second z h = grind (arith, ints)

greater : (z l : ℤ) → (z ≤ℤ cond (int_le z l) l z) × (int_le l (cond (int_le z l) l z) ≡ true)
greater z l = (first z l, second z l)
  where
    first : (z l : ℤ) → z ≤ℤ cond (int_le z l) l z
    first z l = grind (arith, ints)

    second : (z l : ℤ) → int_le l (cond (int_le z l) l z) ≡ true
    second z l = grind (arith, ints)

or_from_left : (a b : Bool) → a ≡ true → (a || b) ≡ true
or_from_left true b h = refl
or_from_left false b h = absurd (cc)

or_from_right : (a b : Bool) → b ≡ true → (a || b) ≡ true
or_from_right true b h = refl
or_from_right false b h = h

either : (a b c : Bool) → (a ≡ true → c ≡ true) → (b ≡ true → c ≡ true) → (a || b) ≡ true → c ≡ true
either true b c f g h = f refl
either false b c f g h = g h

-- ---- the first interval

past_its_end : (low high : Option ℤ) (z : ℤ) → are_in_order low high ≡ true → is_to high z ≡ false → is_from low z ≡ true
past_its_end (Some low) (Some high) z a b = past_end low high z a b
past_its_end (Some low) None z a b = absurd (cc)
past_its_end None high z a b = refl

from_first : (x : Interval) (rest : List Interval) (z : ℤ) → ascend (x ∷ rest) ≡ true → is_in (x ∷ rest) z ≡ true → is_from x.low z ≡ true
from_first x rest z a =
    let p = ascend-parts x rest a in
    either (is_between x z) (is_in rest z) (is_from x.low z)
    (λ h. (and_parts (is_from x.low z) (is_to x.high z) h).0)
    (λ h. past_its_end x.low x.high z p.number (above_those x.high rest z p.later h))

low_is_in : (low : ℤ) (high : Option ℤ) → are_in_order (Some low) high ≡ true → (int_le low low && is_to high low) ≡ true
low_is_in low (Some high) h = and_from (int_le low low) (int_le low high) (le_itself low) h
low_is_in low None h = and_from (int_le low low) true (le_itself low) refl

down_in : (high : Option ℤ) (z : ℤ) → (y : ℤ) × (y ≤ℤ z) × (is_to high y ≡ true)
down_in None z = (z, at_or_below z, refl)
down_in (Some h) z = (cond (int_le z h) z h, (lesser z h).0, (lesser z h).1)

least_of : (low high : Option ℤ) (rest : List Interval) → ascend (record { low = low; high = high } ∷ rest) ≡ true → IsLeast (record { low = low; high = high } ∷ rest) low
least_of (Some low) high rest a =
    let x : Interval = record { low = Some low; high = high } in
    (or_from_left (is_between x low) (is_in rest low) (low_is_in low high (ascend-parts x rest a).number), λ z h. le_fact low z (from_first x rest z a h))
least_of None high rest a = λ z.
    let x : Interval = record { low = None; high = high } in
    let d = down_in high z in
    (d.0, d.1, or_from_left (is_between x d.0) (is_in rest d.0) d.2)

-- The lower end of the first interval is the least number.
pub least_at : (x : Interval) (rest : List Interval) → ascend (x ∷ rest) ≡ true → IsLeast (x ∷ rest) x.low
least_at x rest a = least_of x.low x.high rest a

-- ---- the last interval

high_is_in : (low : Option ℤ) (high : ℤ) → are_in_order low (Some high) ≡ true → (is_from low high && int_le high high) ≡ true
high_is_in (Some low) high h = and_from (int_le low high) (int_le high high) h (le_itself high)
high_is_in None high h = le_itself high

up_in : (low : Option ℤ) (z : ℤ) → (y : ℤ) × (z ≤ℤ y) × (is_from low y ≡ true)
up_in None z = (z, at_or_below z, refl)
up_in (Some l) z = (cond (int_le z l) l z, (greater z l).0, (greater z l).1)

to_alone : (x : Interval) (z : ℤ) → is_in (x ∷ []) z ≡ true → is_to x.high z ≡ true
to_alone x z h = either (is_between x z) false (is_to x.high z) (λ e. (and_parts (is_from x.low z) (is_to x.high z) e).1) (λ e. absurd (cc)) h

alone : (low high : Option ℤ) → are_in_order low high ≡ true → IsGreatest (record { low = low; high = high } ∷ []) high
alone low (Some high) a =
    let x : Interval = record { low = low; high = Some high } in
    (or_from_left (is_between x high) false (high_is_in low high a), λ z h. le_fact z high (to_alone x z h))
alone low None a = λ z.
    let x : Interval = record { low = low; high = None } in
    let u = up_in low z in
    (u.0, u.1, or_from_left (is_between x u.0) false (and_from (is_from low u.0) true u.2 refl))

below_next : (high : Option ℤ) (z h : ℤ) → is_to high z ≡ true → is_to high h ≡ false → z ≤ℤ h
below_next (Some k) z h a b = within_end z k h a b
below_next None z h a b = absurd (cc)

-- The greatest number of all intervals but the first is that of all.
grown : (x : Interval) (rest : List Interval) (end : Option ℤ) → list_all (λ j. is_before x.high j.low) rest ≡ true → IsGreatest rest end → IsGreatest (x ∷ rest) end
grown x rest (Some h) a g = (or_from_right (is_between x h) (is_in rest h) g.0, λ z m. all z (is_between x z) refl m)
  where
    all : (z : ℤ) (b : Bool) → is_between x z ≡ b → (b || is_in rest z) ≡ true → z ≤ℤ h
    all z true e m = below_next x.high z h (and_parts (is_from x.low z) (is_to x.high z) e).1 (above_those x.high rest h a g.0)
    all z false e m = g.1 z m
grown x rest None a g = λ z. let y = g z in (y.0, y.1, or_from_right (is_between x y.0) (is_in rest y.0) y.2)

-- The upper end of the last interval is the greatest number.
pub greatest_at : (x : Interval) (rest : List Interval) (n : ℕ) (d : Interval) → suc n ≡ length (x ∷ rest) → ascend (x ∷ rest) ≡ true → IsGreatest (x ∷ rest) (get_or (x ∷ rest) n d).high
greatest_at x [] zero d e a = alone x.low x.high (ascend-parts x [] a).number
greatest_at x [] (suc n) d e a = absurd (omega arith)
greatest_at x (y ∷ ys) zero d e a = absurd (omega arith)
greatest_at x (y ∷ ys) (suc n) d e a =
    let p = ascend-parts x (y ∷ ys) a in
    grown x (y ∷ ys) (get_or (y ∷ ys) n d).high p.later (greatest_at y ys n d (omega arith) p.rest)

-- There is a number in the first interval.
pub number_at : (x : Interval) (rest : List Interval) → ascend (x ∷ rest) ≡ true → (z : ℤ) × (is_in (x ∷ rest) z ≡ true)
number_at x rest a = of x.low x.high (ascend-parts x rest a).number
  where
    of : (low high : Option ℤ) → are_in_order low high ≡ true → (z : ℤ) × (((is_from low z && is_to high z) || is_in rest z) ≡ true)
    of (Some low) high h = (low, or_from_left (int_le low low && is_to high low) (is_in rest low) (low_is_in low high h))
    of None (Some high) h = (high, or_from_left (int_le high high) (is_in rest high) (le_itself high))
    of None None h = (pos 0, refl)

-- The ends of the first and of the last interval, by their indices.
pub hull_of : (xs : List Interval) (d e : Interval) → 0 < length xs → ascend xs ≡ true → IsLeast xs (get_or xs 0 d).low × IsGreatest xs (get_or xs (length xs - 1) e).high
hull_of [] d e h a = absurd (omega arith)
hull_of (x ∷ rest) d e h a = (least_at x rest a, greatest_at x rest (length (x ∷ rest) - 1) e (omega arith) a)

pub number_of : (xs : List Interval) → 0 < length xs → ascend xs ≡ true → (z : ℤ) × (is_in xs z ≡ true)
number_of [] h a = absurd (omega arith)
number_of (x ∷ rest) h a = number_at x rest a
