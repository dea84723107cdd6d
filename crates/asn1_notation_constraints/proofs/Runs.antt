-- Laws of runs of characters.
use Rattle.std.proofs.Common.{◌≡◌, ℕ, zero, suc, ◌+◌, ◌-◌, ◌<◌, ◌≤◌, ◌^◌, ℤ, pos, negsuc, Bool, true, false, cond, ◌&&◌, ◌||◌, List, [], ◌∷◌, ◌++◌, length, get_or, take, drop, Option, Some, None, refl, ap, sym, subst, ◌∙◌, arith}
use Rattle.std.specs.Prelude.{int_le, int_lt}
use Rattle.std.specs.Int.{int_gap}
use Rattle.std.specs.List.{list_all, range_with_len}
use Rattle.std.specs.Ordering.{int_eq}
use Rattle.std.proofs.lemmas.Bool.{and_from, and_parts}
use Rattle.std.proofs.lemmas.Bool.Decides.{Decides-int_eq}
use Rattle.std.proofs.lemmas.Int.{ints}
use Rattle.std.proofs.lemmas.List.{take-append-drop, take_all, take_more}
use Rattle.std.proofs.lemmas.List.Folds.{list_any-append, list_any_at, list_any_more}
use Rattle.std.proofs.lemmas.List.Sums.{sum_by-append}
use Rattle.asn1_notation_intervals.specs.declared.intervals.Interval.{Interval}
use Rattle.asn1_notation_intervals.specs.Ends.{are_in_order, has_number, is_before, is_between, is_from, is_to}
use Rattle.asn1_notation_intervals.specs.Sets.{ascend, is_in}
use Rattle.asn1_notation_constraints.specs.Alphabets.{AreCharacters, are_character_ends, count_of, is_among, is_character, span_between}

-- ---- a run

before_first : (f : ℕ) (z : ℤ) → false ≡ (int_le (pos f) z && int_lt z (pos (f + 0)))
before_first f z = grind (arith, ints)

at_first : (f n : ℕ) → true ≡ (int_le (pos f) (pos f) && int_lt (pos f) (pos (f + suc n)))
at_first f n = grind (arith, ints)

past_first : (f n : ℕ) (z : ℤ) → (pos f ≡ z → ⊥) → (int_le (pos (f + 1)) z && int_lt z (pos ((f + 1) + n))) ≡ (int_le (pos f) z && int_lt z (pos (f + suc n)))
past_first f n z h = grind (arith, ints)

first_or_later : (f n : ℕ) (z : ℤ) (b : Bool) → (b ≡ true → pos f ≡ z) → (pos f ≡ z → b ≡ true) → (b || (int_le (pos (f + 1)) z && int_lt z (pos ((f + 1) + n)))) ≡ (int_le (pos f) z && int_lt z (pos (f + suc n)))
first_or_later f n z true g h = subst (λ y. true ≡ (int_le (pos f) y && int_lt y (pos (f + suc n)))) (g refl) (at_first f n)
first_or_later f n z false g h = past_first f n z (λ e. apart (h e))
  where
    apart : false ≡ true → ⊥
    apart e = absurd (cc)

in_run : (f n : ℕ) (z : ℤ) → is_among (range_with_len f n) z ≡ (int_le (pos f) z && int_lt z (pos (f + n)))
in_run f zero z = before_first f z
in_run f (suc n) z =
    ap (λ b. int_eq (pos f) z || b) (in_run (f + 1) n z)
    ∙ first_or_later f n z (int_eq (pos f) z) (Decides-int_eq (pos f) z).0 (Decides-int_eq (pos f) z).1

up_to_last : (f l : ℕ) (z : ℤ) → f ≤ l → (int_le (pos f) z && int_lt z (pos (f + (l - f + 1)))) ≡ (int_le (pos f) z && int_le z (pos l))
up_to_last f l z h = grind (arith, ints)

-- The numbers of an interval are the characters from its first to its last.
run_is : (i : Interval) (f l : ℕ) (z : ℤ) → i.low ≡ Some (pos f) → i.high ≡ Some (pos l) → f ≤ l → is_among (range_with_len f (l - f + 1)) z ≡ is_between i z
run_is i f l z a b h =
    in_run f (l - f + 1) z
    ∙ up_to_last f l z h
    ∙ ap (λ e. is_from e z && int_le z (pos l)) (sym a)
    ∙ ap (λ e. is_from i.low z && is_to e z) (sym b)

gap_is : (f l : ℕ) → f ≤ l → int_gap (pos f) (pos l) + 1 ≡ l - f + 1
gap_is f l h = omega (arith, ints)

span_is : (i : Interval) (f l : ℕ) → i.low ≡ Some (pos f) → i.high ≡ Some (pos l) → f ≤ l → span_between i.low i.high ≡ l - f + 1
span_is i f l a b h = ap (λ e. span_between e i.high) a ∙ ap (λ e. span_between (Some (pos f)) e) b ∙ gap_is f l h

pub run_more : (f n : ℕ) → range_with_len f (n + 1) ≡ range_with_len f n ++ (f + n) ∷ []
run_more f zero = subst (λ k. range_with_len f k ≡ (f + 0) ∷ []) (sym (after_zero zero)) (ap (λ k. k ∷ []) (plus_zero f))
  where
    after_zero : (n : ℕ) → n + 1 ≡ suc n
    after_zero n = omega arith

    plus_zero : (a : ℕ) → a ≡ a + 0
    plus_zero a = omega arith
run_more f (suc n) =
    ap (range_with_len f) (next (suc n))
    ∙ ap (λ l. f ∷ l) (sym (ap (range_with_len (f + 1)) (next n)) ∙ run_more (f + 1) n ∙ ap (λ k. range_with_len (f + 1) n ++ k ∷ []) (shift f n))
  where
    next : (n : ℕ) → n + 1 ≡ suc n
    next n = omega arith

    shift : (a n : ℕ) → (a + 1) + n ≡ a + suc n
    shift a n = omega arith

length_run : (f n : ℕ) → length (range_with_len f n) ≡ n
length_run f zero = refl
length_run f (suc n) = ap (λ k. suc k) (length_run (f + 1) n)

length_joined : (xs ys : List ℕ) → length (xs ++ ys) ≡ length xs + length ys
length_joined [] ys = omega arith
length_joined (x ∷ xs) ys = grown (length (xs ++ ys)) (length xs) (length ys) (length_joined xs ys)
  where
    grown : (a b c : ℕ) → a ≡ b + c → suc a ≡ suc b + c
    grown a b c h = omega arith

count_more : (s : List Interval) (k : ℕ) (i : Interval) → k < length s → i ≡ get_or s k i → count_of (take (k + 1) s) ≡ count_of (take k s) + span_between i.low i.high
count_more s k i l e =
    ap count_of (take_more s k i l ∙ ap (λ j. take k s ++ j ∷ []) (sym e))
    ∙ sum_by-append (λ j. span_between j.low j.high) (take k s) (i ∷ [])
    ∙ ap (λ n. count_of (take k s) + n) (one (span_between i.low i.high))
  where
    one : (n : ℕ) → 0 + n ≡ n
    one n = omega arith

-- ---- the loop

pub characters_first : (s : List Interval) (most : ℕ) → AreCharacters (take 0 s) most []
characters_first s most = record { members = λ z. refl; count = refl; few = omega arith }

pub characters_more : (s : List Interval) (k most : ℕ) (cs more : List ℕ) (i : Interval) (f l : ℕ) → AreCharacters (take k s) most cs → k < length s → i ≡ get_or s k i → i.low ≡ Some (pos f) → i.high ≡ Some (pos l) → f ≤ l → more ≡ cs ++ range_with_len f (l - f + 1) → l - f + 1 ≤ most - length cs → AreCharacters (take (k + 1) s) most more
characters_more s k most cs more i f l a lt e low high up is_more fits = record {
  members = λ z.
      list_any_more (λ j. is_between j z) s k i lt
      ∙ ap (λ j. is_in (take k s) z || is_between j z) (sym e)
      ∙ ap (λ b. b || is_between i z) (a.members z)
      ∙ ap (λ b. is_among cs z || b) (sym (run_is i f l z low high up))
      ∙ sym (list_any-append (λ c. int_eq (pos c) z) cs (range_with_len f (l - f + 1)))
      ∙ ap (λ m. is_among m z) (sym is_more);
  count =
      ap length is_more
      ∙ length_joined cs (range_with_len f (l - f + 1))
      ∙ ap (λ n. length cs + n) (length_run f (l - f + 1) ∙ sym (span_is i f l low high up))
      ∙ ap (λ n. n + span_between i.low i.high) a.count
      ∙ sym (count_more s k i lt e);
  few = within (length more) (length cs) (l - f + 1) most (ap length is_more ∙ length_joined cs (range_with_len f (l - f + 1)) ∙ ap (λ n. length cs + n) (length_run f (l - f + 1))) fits a.few;
}
  where
    within : (m n d most : ℕ) → m ≡ n + d → d ≤ most - n → n ≤ most → m ≤ most
    within m n d most e h k = omega arith

pub characters_last : (s : List Interval) (k most : ℕ) (cs : List ℕ) → length s ≤ k → AreCharacters (take k s) most cs → AreCharacters s most cs
characters_last s k most cs h a = subst (λ l. AreCharacters l most cs) (take_all k s h) a

-- ---- errors

count_part : (k : ℕ) (s : List Interval) → count_of (take k s) ≤ count_of s
count_part k s = subst (λ l. count_of (take k s) ≤ count_of l) (take-append-drop k s) (part (take k s) (drop k s))
  where
    part : (xs ys : List Interval) → count_of xs ≤ count_of (xs ++ ys)
    part xs ys = omega (arith, sum_by-append (λ (j : Interval). span_between j.low j.high) xs ys)

pub too_many : (s : List Interval) (k most : ℕ) (cs : List ℕ) (i : Interval) (f l : ℕ) → AreCharacters (take k s) most cs → k < length s → i ≡ get_or s k i → i.low ≡ Some (pos f) → i.high ≡ Some (pos l) → f ≤ l → most - length cs < l - f + 1 → most < count_of s
too_many s k most cs i f l a lt e low high up more =
    over (count_of s) (count_of (take (k + 1) s)) (count_of (take k s)) (span_between i.low i.high) (l - f + 1) (length cs) most
    (count_part (k + 1) s) (count_more s k i lt e) (span_is i f l low high up) a.count a.few more
  where
    over : (all now before span d n most : ℕ) → now ≤ all → now ≡ before + span → span ≡ d → n ≡ before → n ≤ most → most - n < d → most < all
    over all now before span d n most p q r t u v = omega arith

-- A number of an interval whose ends are no characters is none.
low_is_none : (l : ℤ) → int_le l l ≡ true
low_is_none l = grind (arith, ints)

below_zero : (h : ℤ) → (int_le (cond (int_le h (negsuc 0)) h (negsuc 0)) h ≡ true) × ((int_le (pos 0) (cond (int_le h (negsuc 0)) h (negsuc 0)) && int_lt (cond (int_le h (negsuc 0)) h (negsuc 0)) (pos (2 ^ 32))) ≡ false)
below_zero h = (one h, two h)
  where
    one : (h : ℤ) → int_le (cond (int_le h (negsuc 0)) h (negsuc 0)) h ≡ true
    one h = grind (arith, ints)

    two : (h : ℤ) → (int_le (pos 0) (cond (int_le h (negsuc 0)) h (negsuc 0)) && int_lt (cond (int_le h (negsuc 0)) h (negsuc 0)) (pos (2 ^ 32))) ≡ false
    two h = grind (arith, ints)

above_all : (l : ℤ) → (int_le l (cond (int_le l (pos (2 ^ 32))) (pos (2 ^ 32)) l) ≡ true) × ((int_le (pos 0) (cond (int_le l (pos (2 ^ 32))) (pos (2 ^ 32)) l) && int_lt (cond (int_le l (pos (2 ^ 32))) (pos (2 ^ 32)) l) (pos (2 ^ 32))) ≡ false)
above_all l = (one l, two l)
  where
    one : (l : ℤ) → int_le l (cond (int_le l (pos (2 ^ 32))) (pos (2 ^ 32)) l) ≡ true
    one l = grind (arith, ints)

    two : (l : ℤ) → (int_le (pos 0) (cond (int_le l (pos (2 ^ 32))) (pos (2 ^ 32)) l) && int_lt (cond (int_le l (pos (2 ^ 32))) (pos (2 ^ 32)) l) (pos (2 ^ 32))) ≡ false
    two l = grind (arith, ints)

one_of_both : (a b : Bool) → (a && b) ≡ false → a ≡ true → b ≡ false
one_of_both true b h e = h
one_of_both false b h e = absurd (cc)

no_character_between : (low high : Option ℤ) → are_in_order low high ≡ true → are_character_ends low high ≡ false → (z : ℤ) × ((is_from low z && is_to high z) ≡ true) × (is_character z ≡ false)
no_character_between (Some l) (Some h) o e = at (is_character l) refl
  where
    at : (b : Bool) → is_character l ≡ b → (z : ℤ) × ((int_le l z && int_le z h) ≡ true) × (is_character z ≡ false)
    at true p = (h, and_from (int_le l h) (int_le h h) o (low_is_none h), one_of_both (is_character l) (is_character h) e p)
    at false p = (l, and_from (int_le l l) (int_le l h) (low_is_none l) o, p)
no_character_between (Some l) None o e = (cond (int_le l (pos (2 ^ 32))) (pos (2 ^ 32)) l, and_from (int_le l (cond (int_le l (pos (2 ^ 32))) (pos (2 ^ 32)) l)) true (above_all l).0 refl, (above_all l).1)
no_character_between None (Some h) o e = (cond (int_le h (negsuc 0)) h (negsuc 0), (below_zero h).0, (below_zero h).1)
no_character_between None None o e = (negsuc 0, refl, refl)

pub no_character : (s : List Interval) (k : ℕ) (i : Interval) → k < length s → i ≡ get_or s k i → has_number i ≡ true → are_character_ends i.low i.high ≡ false → (z : ℤ) × (is_in s z ≡ true) × (is_character z ≡ false)
no_character s k i l e o h =
    let n = no_character_between i.low i.high o h in
    (n.0, list_any_at (λ j. is_between j n.0) s k i l (ap (λ j. is_between j n.0) (sym e) ∙ n.1), n.2)

-- ---- an interval of a set has a number

pub number_read : (s : List Interval) (k : ℕ) (d : Interval) → ascend s ≡ true → k < length s → has_number (get_or s k d) ≡ true
number_read [] k d a l = absurd (omega arith)
number_read (i ∷ is) zero d a l = (and_parts (has_number i) (list_all (λ j. is_before i.high j.low) is) (and_parts (has_number i && list_all (λ j. is_before i.high j.low) is) (ascend is) a).0).0
number_read (i ∷ is) (suc k) d a l = number_read is k d (and_parts (has_number i && list_all (λ j. is_before i.high j.low) is) (ascend is) a).1 (omega arith)

in_order : (f l : ℕ) → int_le (pos f) (pos l) ≡ true → f ≤ l
in_order f l h = grind (arith, ints)

pub ends_in_order : (i : Interval) (f l : ℕ) → has_number i ≡ true → i.low ≡ Some (pos f) → i.high ≡ Some (pos l) → f ≤ l
ends_in_order i f l h a b = in_order f l (ap (λ e. are_in_order e (Some (pos l))) (sym a) ∙ ap (λ e. are_in_order i.low e) (sym b) ∙ h)
