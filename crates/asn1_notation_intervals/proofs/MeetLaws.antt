-- Laws of what two ascending lists of intervals have in common.
use Rattle.std.proofs.Common.{◌≡◌, ℕ, ◌+◌, ◌<◌, ◌≤◌, ℤ, Bool, true, false, cond, ◌&&◌, ◌||◌, List, [], ◌∷◌, ◌++◌, length, get_or, drop, Option, Some, None, refl, ap, sym, subst, ◌∙◌, arith}
use Rattle.std.specs.Prelude.{int_le}
use Rattle.std.specs.List.{list_all}
use Rattle.std.proofs.lemmas.Int.{ints}
use Rattle.std.proofs.lemmas.Bool.{and_parts, and_from}
use Rattle.std.proofs.lemmas.List.{drop_all, drop_more}
use Rattle.std.proofs.lemmas.List.Folds.{list_all-append, list_any-append}
use Rattle.asn1_notation_intervals.specs.declared.intervals.Interval.{Interval}
use Rattle.asn1_notation_intervals.specs.Ends.{are_in_order, ends_first, has_number, is_before, is_between, is_from, is_to, meet_of}
use Rattle.asn1_notation_intervals.specs.Sets.{ascend, is_in}
use Rattle.asn1_notation_intervals.proofs.EndLaws.{above_end, above_first, above_last, before_later, earlier_before, from_later, through, to_earlier}

-- ---- tests

shuffle_left : (o a b c d : Bool) → (a && d) ≡ false → (o || ((a || c) && (b || d))) ≡ ((o || (a && b)) || (c && (b || d)))
shuffle_left true a b c d h = refl
shuffle_left false true true c d h = refl
shuffle_left false true false c true h = absurd (cc)
shuffle_left false true false true false h = refl
shuffle_left false true false false false h = refl
shuffle_left false false b c d h = refl

shuffle_right : (o a b c d : Bool) → (c && b) ≡ false → (o || ((a || c) && (b || d))) ≡ ((o || (a && b)) || ((a || c) && d))
shuffle_right true a b c d h = refl
shuffle_right false true true c d h = refl
shuffle_right false true false c d h = refl
shuffle_right false false true true d h = absurd (cc)
shuffle_right false false true false d h = refl
shuffle_right false false false c d h = refl

no_meet : (o x : Bool) → x ≡ false → o ≡ (o || x)
no_meet true x h = refl
no_meet false x h = sym h

swap_middle : (a b c d : Bool) → ((a && b) && (c && d)) ≡ ((a && c) && (b && d))
swap_middle true true c d = refl
swap_middle true false true d = refl
swap_middle true false false d = refl
swap_middle false b c d = refl

and_false : (a : Bool) → (a && false) ≡ false
and_false true = refl
and_false false = refl

or_false : (b : Bool) → (b || false) ≡ b
or_false true = refl
or_false false = refl

all_then : (p q : Interval → Bool) (is : List Interval) → ((i : Interval) → p i ≡ true → q i ≡ true) → list_all p is ≡ true → list_all q is ≡ true
all_then p q [] f h = refl
all_then p q (i ∷ is) f h =
    let both = and_parts (p i) (list_all p is) h in
    and_from (q i) (list_all q is) (f i both.0) (all_then p q is f both.1)

either : (a b c : Bool) → (a ≡ true → c ≡ true) → (b ≡ true → c ≡ true) → (a || b) ≡ true → c ≡ true
either true b c f g h = f refl
either false b c f g h = g h

or_left : (a b : Bool) → a ≡ true → (a || b) ≡ true
or_left true b h = refl
or_left false b h = absurd (cc)

or_right : (a b : Bool) → b ≡ true → (a || b) ≡ true
or_right true b h = refl
or_right false b h = h

-- ---- one interval

pub between_meet : (i j : Interval) (z : ℤ) → is_between (meet_of i j) z ≡ (is_between i z && is_between j z)
between_meet i j z =
    ap (λ b. b && is_to (meet_of i j).high z) (from_later i.low j.low z)
    ∙ ap (λ b. (is_from i.low z && is_from j.low z) && b) (to_earlier i.high j.high z)
    ∙ swap_middle (is_from i.low z) (is_from j.low z) (is_to i.high z) (is_to j.high z)

-- What is in none of an interval's upper part is not in it.
above_is_out : (i : Interval) (z : ℤ) → is_to i.high z ≡ false → is_between i z ≡ false
above_is_out i z h = ap (λ b. is_from i.low z && b) h ∙ and_false (is_from i.low z)

-- ---- what comes after an interval

-- Numbers of intervals that begin after an end are above it.
pub above_those : (h : Option ℤ) (is : List Interval) (z : ℤ) → list_all (λ j. is_before h j.low) is ≡ true → is_in is z ≡ true → is_to h z ≡ false
above_those h [] z p q = absurd (cc)
above_those h (j ∷ is) z p q = go (is_between j z) refl (above_those h is z (and_parts (is_before h j.low) (list_all (λ j. is_before h j.low) is) p).1) q
  where
    parts : (is_before h j.low ≡ true) × (list_all (λ j. is_before h j.low) is ≡ true)
    parts = and_parts (is_before h j.low) (list_all (λ j. is_before h j.low) is) p

    go : (b : Bool) → is_between j z ≡ b → (is_in is z ≡ true → is_to h z ≡ false) → (b || is_in is z) ≡ true → is_to h z ≡ false
    go true e later r = above_end h j.low z parts.0 (and_parts (is_from j.low z) (is_to j.high z) e).0
    go false e later r = later r

pub record Ascends (i : Interval) (is : List Interval) : Type 0 where
  pub number : has_number i ≡ true
  pub later : list_all (λ j. is_before i.high j.low) is ≡ true
  pub rest : ascend is ≡ true

pub ascend-parts : (i : Interval) (is : List Interval) → ascend (i ∷ is) ≡ true → Ascends i is
ascend-parts i is h =
    let outer = and_parts (has_number i && list_all (λ j. is_before i.high j.low) is) (ascend is) h in
    let inner = and_parts (has_number i) (list_all (λ j. is_before i.high j.low) is) outer.0 in
    record { number = inner.0; later = inner.1; rest = outer.1 }

-- ---- ascending lists grow at the end

pub ascend-push : (is : List Interval) (n : Interval) → ascend is ≡ true → list_all (λ i. is_before i.high n.low) is ≡ true → has_number n ≡ true → ascend (is ++ n ∷ []) ≡ true
ascend-push [] n a b c = and_from (has_number n && true) true (and_from (has_number n) true c refl) refl
ascend-push (i ∷ is) n a b c =
    let p = ascend-parts i is a in
    let q = and_parts (is_before i.high n.low) (list_all (λ j. is_before j.high n.low) is) b in
    let later : list_all (λ j. is_before i.high j.low) (is ++ n ∷ []) ≡ true =
    list_all-append (λ j. is_before i.high j.low) is (n ∷ []) ∙ and_from _ _ p.later (and_from (is_before i.high n.low) true q.0 refl) in
    and_from _ _ (and_from (has_number i) _ p.number later) (ascend-push is n p.rest q.1 c)

-- ---- the state of the loop

-- What has been found ends before what is still to come in both.
abbrev pub end_below : List Interval → List Interval → List Interval → Bool
end_below both (a ∷ ls) (b ∷ rs) = list_all (λ c. is_before c.high a.low || is_before c.high b.low) both
end_below both [] rs = true
end_below both (a ∷ ls) [] = true

pub record IsMeeting (one other both ls rs : List Interval) : Type 0 where
  pub exact : (z : ℤ) → (is_in one z && is_in other z) ≡ (is_in both z || (is_in ls z && is_in rs z))
  pub left : ascend ls ≡ true
  pub right : ascend rs ≡ true
  pub order : ascend both ≡ true
  pub below : end_below both ls rs ≡ true

pub meeting_begins : (one other : List Interval) → ascend one ≡ true → ascend other ≡ true → IsMeeting one other [] one other
meeting_begins one other p q = record { exact = λ z. refl; left = p; right = q; order = refl; below = nothing_below one other }
  where
    nothing_below : (ls rs : List Interval) → end_below [] ls rs ≡ true
    nothing_below (a ∷ ls) (b ∷ rs) = refl
    nothing_below [] rs = refl
    nothing_below (a ∷ ls) [] = refl

-- What is found, with what two intervals have in common.
abbrev pub with_meet : List Interval → Interval → Interval → List Interval
with_meet both a b = cond (has_number (meet_of a b)) (both ++ meet_of a b ∷ []) both

no_number_between : (low high z : ℤ) → int_le low high ≡ false → (int_le low z && int_le z high) ≡ false
no_number_between low high z h = grind (arith, ints)

pub empty_is_out : (low high : Option ℤ) (z : ℤ) → are_in_order low high ≡ false → (is_from low z && is_to high z) ≡ false
empty_is_out (Some low) (Some high) z h = no_number_between low high z h
empty_is_out (Some low) None z h = absurd (cc)
empty_is_out None (Some high) z h = absurd (cc)
empty_is_out None None z h = absurd (cc)

in_with_meet : (both : List Interval) (a b : Interval) (z : ℤ) → is_in (with_meet both a b) z ≡ (is_in both z || (is_between a z && is_between b z))
in_with_meet both a b z = go (has_number (meet_of a b)) refl
  where
    go : (c : Bool) → has_number (meet_of a b) ≡ c → is_in (cond c (both ++ meet_of a b ∷ []) both) z ≡ (is_in both z || (is_between a z && is_between b z))
    go true e =
        list_any-append (λ i. is_between i z) both (meet_of a b ∷ [])
        ∙ ap (λ t. is_in both z || t) (or_false (is_between (meet_of a b) z) ∙ between_meet a b z)
    go false e =
        no_meet (is_in both z) (is_between a z && is_between b z)
        (sym (between_meet a b z) ∙ empty_is_out (meet_of a b).low (meet_of a b).high z e)

ascend-with_meet : (both : List Interval) (a b : Interval) → ascend both ≡ true → list_all (λ c. is_before c.high a.low || is_before c.high b.low) both ≡ true → ascend (with_meet both a b) ≡ true
ascend-with_meet both a b p q = go (has_number (meet_of a b)) refl
  where
    before_meet : list_all (λ c. is_before c.high (meet_of a b).low) both ≡ true
    before_meet =
        all_then (λ c. is_before c.high a.low || is_before c.high b.low) (λ c. is_before c.high (meet_of a b).low) both
        (λ c h. before_later c.high a.low b.low ∙ h) q

    go : (c : Bool) → has_number (meet_of a b) ≡ c → ascend (cond c (both ++ meet_of a b ∷ []) both) ≡ true
    go true e = ascend-push both (meet_of a b) p before_meet e
    go false e = p

-- ---- a step over the interval of the first list

-- What has been found, and what is found now, ends before what comes after an interval.
abbrev EndBelow : List Interval → Interval → Interval → Type 0
EndBelow both a b = list_all (λ c. is_before c.high a.low || is_before c.high b.low) both ≡ true

all-with_meet : (p : Interval → Bool) (both : List Interval) (a b : Interval) → list_all p both ≡ true → p (meet_of a b) ≡ true → list_all p (with_meet both a b) ≡ true
all-with_meet p both a b h m = go (has_number (meet_of a b))
  where
    go : (c : Bool) → list_all p (cond c (both ++ meet_of a b ∷ []) both) ≡ true
    go true = list_all-append p both (meet_of a b ∷ []) ∙ and_from (list_all p both) (p (meet_of a b) && true) h (and_from (p (meet_of a b)) true m refl)
    go false = h

below_left : (both : List Interval) (a b n : Interval) → has_number a ≡ true → is_before a.high n.low ≡ true → EndBelow both a b → EndBelow (with_meet both a b) n b
below_left both a b n k h q =
    all-with_meet (λ c. is_before c.high n.low || is_before c.high b.low) both a b
    (all_then (λ c. is_before c.high a.low || is_before c.high b.low) (λ c. is_before c.high n.low || is_before c.high b.low) both
    (λ c. either (is_before c.high a.low) (is_before c.high b.low) (is_before c.high n.low || is_before c.high b.low)
    (λ e. or_left (is_before c.high n.low) (is_before c.high b.low) (through c.high a.low a.high n.low e k h))
    (or_right (is_before c.high n.low) (is_before c.high b.low)))
    q)
    (or_left (is_before (meet_of a b).high n.low) (is_before (meet_of a b).high b.low)
    (earlier_before a.high b.high n.low ∙ or_left (is_before a.high n.low) (is_before b.high n.low) h))

below_right : (both : List Interval) (a b n : Interval) → has_number b ≡ true → is_before b.high n.low ≡ true → EndBelow both a b → EndBelow (with_meet both a b) a n
below_right both a b n k h q =
    all-with_meet (λ c. is_before c.high a.low || is_before c.high n.low) both a b
    (all_then (λ c. is_before c.high a.low || is_before c.high b.low) (λ c. is_before c.high a.low || is_before c.high n.low) both
    (λ c. either (is_before c.high a.low) (is_before c.high b.low) (is_before c.high a.low || is_before c.high n.low)
    (or_left (is_before c.high a.low) (is_before c.high n.low))
    (λ e. or_right (is_before c.high a.low) (is_before c.high n.low) (through c.high b.low b.high n.low e k h)))
    q)
    (or_right (is_before (meet_of a b).high a.low) (is_before (meet_of a b).high n.low)
    (earlier_before a.high b.high n.low ∙ or_right (is_before a.high n.low) (is_before b.high n.low) h))

-- An interval that ends first has nothing in common with what comes after the other.
apart : (a b : Interval) (rs : List Interval) (z : ℤ) → (is_to b.high z ≡ false → is_to a.high z ≡ false) → list_all (λ j. is_before b.high j.low) rs ≡ true → (is_between a z && is_in rs z) ≡ false
apart a b rs z over h = go (is_in rs z) refl
  where
    go : (c : Bool) → is_in rs z ≡ c → (is_between a z && c) ≡ false
    go true e = ap (λ t. t && true) (above_is_out a z (over (above_those b.high rs z h e)))
    go false e = and_false (is_between a z)

and_swap : (a b : Bool) → (a && b) ≡ (b && a)
and_swap true true = refl
and_swap true false = refl
and_swap false true = refl
and_swap false false = refl

module _ (one other both : List Interval) (a b : Interval) (ls rs : List Interval) (s : IsMeeting one other both (a ∷ ls) (b ∷ rs)) where
  pub step_left : ends_first a.high b.high ≡ true → IsMeeting one other (with_meet both a b) ls (b ∷ rs)
  step_left h =
      let p = ascend-parts a ls s.left in
      let q = ascend-parts b rs s.right in
      record {
        exact = λ z.
            s.exact z
            ∙ shuffle_left (is_in both z) (is_between a z) (is_between b z) (is_in ls z) (is_in rs z) (apart a b rs z (above_first a.high b.high z h) q.later)
            ∙ ap (λ t. t || (is_in ls z && (is_between b z || is_in rs z))) (sym (in_with_meet both a b z));
        left = p.rest;
        right = s.right;
        order = ascend-with_meet both a b s.order s.below;
        below = next ls p.later;
      }
    where
      next : (ls : List Interval) → list_all (λ j. is_before a.high j.low) ls ≡ true → end_below (with_meet both a b) ls (b ∷ rs) ≡ true
      next [] h = refl
      next (n ∷ ns) h = below_left both a b n (ascend-parts a ls s.left).number (and_parts (is_before a.high n.low) (list_all (λ j. is_before a.high j.low) ns) h).0 s.below

  pub step_right : ends_first a.high b.high ≡ false → IsMeeting one other (with_meet both a b) (a ∷ ls) rs
  step_right h =
      let p = ascend-parts a ls s.left in
      let q = ascend-parts b rs s.right in
      record {
        exact = λ z.
            s.exact z
            ∙ shuffle_right (is_in both z) (is_between a z) (is_between b z) (is_in ls z) (is_in rs z) (and_swap (is_in ls z) (is_between b z) ∙ apart b a ls z (above_last a.high b.high z h) p.later)
            ∙ ap (λ t. t || ((is_between a z || is_in ls z) && is_in rs z)) (sym (in_with_meet both a b z));
        left = s.left;
        right = q.rest;
        order = ascend-with_meet both a b s.order s.below;
        below = next rs q.later;
      }
    where
      next : (rs : List Interval) → list_all (λ j. is_before b.high j.low) rs ≡ true → end_below (with_meet both a b) (a ∷ ls) rs ≡ true
      next [] h = refl
      next (n ∷ ns) h = below_right both a b n (ascend-parts b rs s.right).number (and_parts (is_before b.high n.low) (list_all (λ j. is_before b.high j.low) ns) h).0 s.below

-- ---- the end of a list

pub met_left : (one other both rs : List Interval) → IsMeeting one other both [] rs → (z : ℤ) → is_in both z ≡ (is_in one z && is_in other z)
met_left one other both rs s z = sym (s.exact z ∙ or_false (is_in both z))

pub met_right : (one other both ls : List Interval) → IsMeeting one other both ls [] → (z : ℤ) → is_in both z ≡ (is_in one z && is_in other z)
met_right one other both ls s z = sym (s.exact z ∙ ap (λ t. is_in both z || t) (and_false (is_in ls z)) ∙ or_false (is_in both z))

-- ---- the same by the indices of the loop

module _ (one other both more : List Interval) (i j : ℕ) (a b d e : Interval) (left : i < length one) (right : j < length other) (is_a : a ≡ get_or one i d) (is_b : b ≡ get_or other j e) (grows : more ≡ with_meet both a b) (s : IsMeeting one other both (drop i one) (drop j other)) where
  here_left : drop i one ≡ a ∷ drop (i + 1) one
  here_left = drop_more one i d left ∙ ap (λ x. x ∷ drop (i + 1) one) (sym is_a)

  here_right : drop j other ≡ b ∷ drop (j + 1) other
  here_right = drop_more other j e right ∙ ap (λ x. x ∷ drop (j + 1) other) (sym is_b)

  opened : IsMeeting one other both (a ∷ drop (i + 1) one) (b ∷ drop (j + 1) other)
  opened =
      subst (λ l. IsMeeting one other both (a ∷ drop (i + 1) one) l) here_right
      (subst (λ l. IsMeeting one other both l (drop j other)) here_left s)

  pub left_step : ends_first a.high b.high ≡ true → IsMeeting one other more (drop (i + 1) one) (drop j other)
  left_step h =
      subst (λ l. IsMeeting one other l (drop (i + 1) one) (drop j other)) (sym grows)
      (subst (λ l. IsMeeting one other (with_meet both a b) (drop (i + 1) one) l) (sym here_right)
      (step_left one other both a b (drop (i + 1) one) (drop (j + 1) other) opened h))

  pub right_step : ends_first a.high b.high ≡ false → IsMeeting one other more (drop i one) (drop (j + 1) other)
  right_step h =
      subst (λ l. IsMeeting one other l (drop i one) (drop (j + 1) other)) (sym grows)
      (subst (λ l. IsMeeting one other (with_meet both a b) l (drop (j + 1) other)) (sym here_left)
      (step_right one other both a b (drop (i + 1) one) (drop (j + 1) other) opened h))

pub left_end : (one other both : List Interval) (i j : ℕ) → length one ≤ i → IsMeeting one other both (drop i one) (drop j other) → (z : ℤ) → is_in both z ≡ (is_in one z && is_in other z)
left_end one other both i j h s =
    met_left one other both (drop j other) (subst (λ l. IsMeeting one other both l (drop j other)) (drop_all i one h) s)

pub right_end : (one other both : List Interval) (i j : ℕ) → length other ≤ j → IsMeeting one other both (drop i one) (drop j other) → (z : ℤ) → is_in both z ≡ (is_in one z && is_in other z)
right_end one other both i j h s =
    met_right one other both (drop i one) (subst (λ l. IsMeeting one other both (drop i one) l) (drop_all j other h) s)
