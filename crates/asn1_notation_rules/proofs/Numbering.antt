-- Laws of the numbers of items.
use Rattle.std.proofs.Common.{◌≡◌, ℕ, zero, suc, ◌+◌, ◌<◌, ℤ, pos, ◌+ℤ◌, Bool, true, false, ◌||◌, List, [], ◌∷◌, ◌++◌, length, get_or, take, Option, Some, None, refl, ap, sym, subst, ◌∙◌, arith}
use Rattle.std.specs.Prelude.{◌≤ℤ◌, ◌<ℤ◌, is_some, slice_get}
use Rattle.std.specs.Ordering.{int_eq}
use Rattle.std.proofs.lemmas.Int.{by_lt_z, ints}
use Rattle.std.proofs.lemmas.Bool.Decides.{Decides-int_eq}
use Rattle.std.proofs.lemmas.List.{append-nil, append_assoc, take_more}
use Rattle.std.proofs.lemmas.List.Folds.{list_any-append}
use Rattle.std.proofs.lemmas.Option.{slice_get-get_or}
use Rattle.asn1_notation_rules.specs.declared.enumerations.ItemFlaw.{ItemFlaw}
use Rattle.asn1_notation_rules.specs.declared.enumerations.ItemFlaw.TheVariants.{NotAscending, Twice}
use Rattle.asn1_notation_rules.specs.declared.enumerations.ItemError.TheVariants.{Flawed}
use Rattle.asn1_notation_rules.specs.Enumerations.{AreNumbered, IsAddedFlaw, IsFull, IsLowestFree, IsNextFree, IsNumberingError, IsRootFlaw, IsRootNumber, given_in, has_number, is_above, last_of}

-- ---- items, one after another

pub numbered_more : (R : List ℤ → Option ℤ → ℤ → Type 0) (before : List ℤ) (is : List (Option ℤ)) (ns : List ℤ) (i : Option ℤ) (n : ℤ) → AreNumbered R before is ns → R (before ++ ns) i n → AreNumbered R before (is ++ i ∷ []) (ns ++ n ∷ [])
numbered_more R before [] [] i n h r = (subst (λ b. R b i n) (append-nil before) r, tt)
numbered_more R before (j ∷ is) (m ∷ ns) i n h r = (h.0, numbered_more R (before ++ m ∷ []) is ns i n h.1 (subst (λ b. R b i n) (sym (append_assoc before (m ∷ []) ns)) r))
numbered_more R before [] (m ∷ ns) i n h r = absurd h
numbered_more R before (j ∷ is) [] i n h r = absurd h

pub numbered_step : (R : List ℤ → Option ℤ → ℤ → Type 0) (is : List (Option ℤ)) (k : ℕ) (ns : List ℤ) (i : Option ℤ) (n : ℤ) → AreNumbered R [] (take k is) ns → k < length is → i ≡ get_or is k i → R ns i n → AreNumbered R [] (take (k + 1) is) (ns ++ n ∷ [])
numbered_step R is k ns i n h l e r =
    let more : take k is ++ i ∷ [] ≡ take (k + 1) is = ap (λ j. take k is ++ j ∷ []) e ∙ sym (take_more is k i l) in
    subst (λ l. AreNumbered R [] l (ns ++ n ∷ [])) more (numbered_more R [] (take k is) ns i n h r)

pub numbered_error : (R : List ℤ → Option ℤ → ℤ → Type 0) (F : List ℤ → Option ℤ → ItemFlaw → Type 0) (is : List (Option ℤ)) (k : ℕ) (ns : List ℤ) (i : Option ℤ) (f : ItemFlaw) → AreNumbered R [] (take k is) ns → k < length is → i ≡ get_or is k i → F ns i f → IsNumberingError R F is (Flawed k f)
numbered_error R F is k ns i f h l e r = (ns, h, (i, slice_get-get_or is k i l ∙ ap (λ j. Some j) (sym e), r))

-- ---- numbers that are taken

or_false : (b : Bool) → (b || false) ≡ b
or_false true = refl
or_false false = refl

or_left : (a b : Bool) → a ≡ true → (a || b) ≡ true
or_left true b h = refl
or_left false b h = absurd (cc)

or_right : (a b : Bool) → b ≡ true → (a || b) ≡ true
or_right true b h = refl
or_right false b h = h

or_none : (a b : Bool) → a ≡ false → b ≡ false → (a || b) ≡ false
or_none true b h k = absurd (cc)
or_none false b h k = k

or_second : (a b : Bool) → (a || b) ≡ true → a ≡ false → b ≡ true
or_second true b h k = absurd (cc)
or_second false b h k = h

or_nothing : (a b : Bool) → (a || b) ≡ false → (a ≡ false) × (b ≡ false)
or_nothing true b h = absurd (cc)
or_nothing false b h = (refl, h)

same_number : (n : ℤ) → int_eq n n ≡ true
same_number n = (Decides-int_eq n n).1 refl

other_number : (n m : ℤ) → n <ℤ m → int_eq n m ≡ false
other_number n m h = go (int_eq n m) refl
  where
    never : (n m : ℤ) → n <ℤ m → n ≡ m → ⊥
    never n m h e = omega (arith, ints)

    go : (b : Bool) → int_eq n m ≡ b → int_eq n m ≡ false
    go true e = absurd (never n m h ((Decides-int_eq n m).0 e))
    go false e = e

pub has-push : (ns : List ℤ) (n m : ℤ) → has_number (ns ++ n ∷ []) m ≡ (has_number ns m || int_eq n m)
has-push ns n m = list_any-append (λ k. int_eq k m) ns (n ∷ []) ∙ ap (λ b. has_number ns m || b) (or_false (int_eq n m))

-- What an item is given is among what all are given.
given_at : (is : List (Option ℤ)) (k : ℕ) (m : ℤ) → slice_get is k ≡ Some (Some m) → has_number (given_in is) m ≡ true
given_at [] k m h = absurd (cc)
given_at (None ∷ is) zero m h = absurd (cc)
given_at (Some n ∷ is) zero m h =
    let e : n ≡ m = cc in
    or_left (int_eq n m) (has_number (given_in is) m) (subst (λ k. int_eq n k ≡ true) e (same_number n))
given_at (None ∷ is) (suc k) m h = given_at is k m h
given_at (Some n ∷ is) (suc k) m h = or_right (int_eq n m) (has_number (given_in is) m) (given_at is k m h)

pub given_has : (is : List (Option ℤ)) (k : ℕ) (i : Option ℤ) (m : ℤ) → k < length is → i ≡ get_or is k i → i ≡ Some m → has_number (given_in is) m ≡ true
given_has is k i m l e h = given_at is k m (slice_get-get_or is k i l ∙ ap (λ j. Some j) (sym e ∙ h))

pub given-more : (is : List (Option ℤ)) (i : Option ℤ) → given_in (is ++ i ∷ []) ≡ given_in is ++ given_in (i ∷ [])
given-more [] None = refl
given-more [] (Some n) = refl
given-more (None ∷ is) i = given-more is i
given-more (Some n ∷ is) i = ap (λ l. n ∷ l) (given-more is i)

given_step : (is : List (Option ℤ)) (k : ℕ) (i : Option ℤ) (given : List ℤ) → given ≡ given_in (take k is) → k < length is → i ≡ get_or is k i → given ++ given_in (i ∷ []) ≡ given_in (take (k + 1) is)
given_step is k i given h l e =
    ap (λ g. g ++ given_in (i ∷ [])) h
    ∙ sym (given-more (take k is) i)
    ∙ ap given_in (ap (λ j. take k is ++ j ∷ []) e ∙ sym (take_more is k i l))

pub given_none : (is : List (Option ℤ)) (k : ℕ) (i : Option ℤ) (given : List ℤ) → given ≡ given_in (take k is) → k < length is → i ≡ get_or is k i → i ≡ None → given ≡ given_in (take (k + 1) is)
given_none is k i given h l e n =
    sym (append-nil given)
    ∙ ap (λ j. given ++ given_in (j ∷ [])) (sym n)
    ∙ given_step is k i given h l e

pub given_some : (is : List (Option ℤ)) (k : ℕ) (i : Option ℤ) (given : List ℤ) (m : ℤ) → given ≡ given_in (take k is) → k < length is → i ≡ get_or is k i → i ≡ Some m → given ++ m ∷ [] ≡ given_in (take (k + 1) is)
given_some is k i given m h l e n =
    ap (λ j. given ++ given_in (j ∷ [])) (sym n)
    ∙ given_step is k i given h l e

-- ---- the flaws of an item

pub root_twice : (given before : List ℤ) (i : Option ℤ) (m : ℤ) → i ≡ Some m → has_number before m ≡ true → IsRootFlaw given before i Twice
root_twice given before i m e h = subst (λ j. IsRootFlaw given before j Twice) (sym e) h

pub added_twice : (root before : List ℤ) (i : Option ℤ) (m : ℤ) → i ≡ Some m → has_number root m ≡ true → IsAddedFlaw root before i Twice
added_twice root before i m e h = subst (λ j. IsAddedFlaw root before j Twice) (sym e) h

pub added_not_above : (root before : List ℤ) (i : Option ℤ) (m : ℤ) (l : Option ℤ) (b : Bool) → i ≡ Some m → has_number root m ≡ false → l ≡ last_of before → b ≡ is_above l m → b ≡ false → IsAddedFlaw root before i NotAscending
added_not_above root before i m l b e h q r t =
    subst (λ j. IsAddedFlaw root before j NotAscending) (sym e) (h, ap (λ o. is_above o m) (sym q) ∙ sym r ∙ t)

-- ---- the number from which the search goes on

pub next_first : (given : List ℤ) → IsNextFree given [] (pos 0)
next_first given = record {
  from_zero = at_zero;
  below = λ m h k. absurd (none_between m h k);
  above = λ m h k. refl;
}
  where
    at_zero : pos 0 ≤ℤ pos 0
    at_zero = grind (arith, ints)

    none_between : (m : ℤ) → pos 0 ≤ℤ m → m <ℤ pos 0 → ⊥
    none_between m h k = omega (arith, ints)

clash : true ≡ false → ⊥
clash e = absurd (cc)

-- A number that is taken is no number that is not.
is_other : (given : List ℤ) (m k : ℤ) → has_number given m ≡ true → has_number given k ≡ false → int_eq m k ≡ false
is_other given m k g h = at (int_eq m k) refl
  where
    at : (b : Bool) → int_eq m k ≡ b → int_eq m k ≡ false
    at true e = absurd (clash (sym (subst (λ j. has_number given j ≡ true) ((Decides-int_eq m k).0 e) g) ∙ h))
    at false e = e

-- A number that is taken in one of two ways stays so where one more is.
stays : (given before : List ℤ) (n k : ℤ) → (has_number given k || has_number before k) ≡ true → (has_number given k || has_number (before ++ n ∷ []) k) ≡ true
stays given before n k h = go (has_number given k) h
  where
    go : (b : Bool) → (b || has_number before k) ≡ true → (b || has_number (before ++ n ∷ []) k) ≡ true
    go true h = refl
    go false h = has-push before n k ∙ or_left (has_number before k) (int_eq n k) h

-- A root item is given a number.
pub next_given : (given before : List ℤ) (next m : ℤ) → has_number given m ≡ true → IsNextFree given before next → IsNextFree given (before ++ m ∷ []) next
next_given given before next m g s = record {
  from_zero = s.from_zero;
  below = λ k h l. stays given before m k (s.below k h l);
  above = λ k h l. has-push before m k ∙ or_none (has_number before k) (int_eq m k) (s.above k h l) (differs k l);
}
  where
    differs : (k : ℤ) → has_number given k ≡ false → int_eq m k ≡ false
    differs k h = is_other given m k g h

-- A root item gets the lowest number that is free.
pub next_got : (given before : List ℤ) (next n : ℤ) → IsLowestFree (λ m. has_number given m || has_number before m) (pos 0) n → IsNextFree given before next → IsNextFree given (before ++ n ∷ []) (n +ℤ pos 1)
next_got given before next n f s = record {
  from_zero = above_zero n f.not_below;
  below = λ k h l. by_lt_z k n (λ b. stays given before n k (f.lowest k h b)) (λ b. taken k (level n k b l));
  above = λ k h l.
      has-push before n k
      ∙ or_none (has_number before k) (int_eq n k)
      (s.above k (beyond n next k not_before h) l)
      (other_number n k (next_above n k h));
}
  where
    above_zero : (n : ℤ) → pos 0 ≤ℤ n → pos 0 ≤ℤ (n +ℤ pos 1)
    above_zero n h = omega (arith, ints)

    level : (n k : ℤ) → n ≤ℤ k → k <ℤ (n +ℤ pos 1) → n ≡ k
    level n k a b = omega (arith, ints)

    next_above : (n k : ℤ) → (n +ℤ pos 1) ≤ℤ k → n <ℤ k
    next_above n k a = omega (arith, ints)

    beyond : (n next k : ℤ) → next ≤ℤ n → (n +ℤ pos 1) ≤ℤ k → next ≤ℤ k
    beyond n next k a b = omega (arith, ints)

    taken : (k : ℤ) → n ≡ k → (has_number given k || has_number (before ++ n ∷ []) k) ≡ true
    taken k e =
        or_right (has_number given k) (has_number (before ++ n ∷ []) k)
        (has-push before n k ∙ or_right (has_number before k) (int_eq n k) (subst (λ j. int_eq n j ≡ true) e (same_number n)))

    not_before : next ≤ℤ n
    not_before = by_lt_z n next (λ b. absurd (clash (sym (s.below n f.not_below b) ∙ f.free))) (λ b. b)

-- The lowest number from there on that none is given is the lowest that is free at all.
pub free_from : (given before : List ℤ) (next n : ℤ) → IsNextFree given before next → IsLowestFree (has_number given) next n → IsLowestFree (λ m. has_number given m || has_number before m) (pos 0) n
free_from given before next n s f = record {
  not_below = trans (pos 0) next n s.from_zero f.not_below;
  free = or_none (has_number given n) (has_number before n) f.free (s.above n f.not_below f.free);
  lowest = λ m h l. by_lt_z m next (λ b. s.below m h b) (λ b. or_left (has_number given m) (has_number before m) (f.lowest m b l));
}
  where
    trans : (a b c : ℤ) → a ≤ℤ b → b ≤ℤ c → a ≤ℤ c
    trans a b c p q = omega (arith, ints)

pub full_from : (given before : List ℤ) (next : ℤ) → IsNextFree given before next → IsFull (has_number given) next → IsFull (λ m. has_number given m || has_number before m) (pos 0)
full_from given before next s f = λ m h l. by_lt_z m next (λ b. s.below m h b) (λ b. or_left (has_number given m) (has_number before m) (f m b l))

pub next_none : (given before : List ℤ) (i : Option ℤ) (n next : ℤ) → is_some i ≡ false → IsRootNumber given before i n → IsNextFree given before next → IsNextFree given (before ++ n ∷ []) (n +ℤ pos 1)
next_none given before None n next h r s = next_got given before next n r s
next_none given before (Some m) n next h r s = absurd (cc)

pub next_some : (is : List (Option ℤ)) (k : ℕ) (before : List ℤ) (i : Option ℤ) (n next : ℤ) → k < length is → i ≡ get_or is k i → is_some i ≡ true → IsRootNumber (given_in is) before i n → IsNextFree (given_in is) before next → IsNextFree (given_in is) (before ++ n ∷ []) next
next_some is k before None n next l e h r s = absurd (cc)
next_some is k before (Some m) n next l e h r s =
    subst (λ j. IsNextFree (given_in is) (before ++ j ∷ []) next) (sym r.0)
    (next_given (given_in is) before next m (given_has is k (Some m) m l e refl) s)

-- ---- the search

pub search_more : (taken : ℤ → Bool) (from n : ℤ) → ((m : ℤ) → from ≤ℤ m → m <ℤ n → taken m ≡ true) → taken n ≡ true → (m : ℤ) → from ≤ℤ m → m <ℤ (n +ℤ pos 1) → taken m ≡ true
search_more taken from n all here m h l = by_lt_z m n (λ b. all m h b) (λ b. subst (λ k. taken k ≡ true) (level n m b l) here)
  where
    level : (n k : ℤ) → n ≤ℤ k → k <ℤ (n +ℤ pos 1) → n ≡ k
    level n k a b = omega (arith, ints)
