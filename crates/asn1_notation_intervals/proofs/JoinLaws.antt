-- Laws of intervals that are put in order and joined.
use Rattle.std.proofs.Common.{◌≡◌, ℕ, ◌+◌, ◌<◌, ◌≤◌, ℤ, Bool, true, false, ◌&&◌, ◌||◌, List, [], ◌∷◌, ◌++◌, length, get_or, take, Option, refl, ap, sym, subst, ◌∙◌, arith}
use Rattle.std.specs.List.{list_all}
use Rattle.std.proofs.lemmas.Bool.{and_parts, and_from}
use Rattle.std.proofs.lemmas.List.{get_or_default, take_all}
use Rattle.std.proofs.lemmas.List.Folds.{list_all-append, list_any-append, list_any_more}
use Rattle.asn1_notation_intervals.specs.declared.intervals.Interval.{Interval}
use Rattle.asn1_notation_intervals.specs.Ends.{begins_by, has_number, is_before, is_between, reach_of}
use Rattle.asn1_notation_intervals.specs.Order.{LowsAscend, begin_by}
use Rattle.asn1_notation_intervals.specs.Sets.{ascend, is_in}
use Rattle.asn1_notation_intervals.proofs.EndLaws.{before_then, begins_itself, begins_then, reach, reach_order}
use Rattle.asn1_notation_intervals.proofs.MeetLaws.{ascend-parts, ascend-push, empty_is_out}

or_false : (b : Bool) → (b || false) ≡ b
or_false true = refl
or_false false = refl

or_assoc : (a b c : Bool) → (a || (b || c)) ≡ ((a || b) || c)
or_assoc true b c = refl
or_assoc false b c = refl

all_then : (p q : Interval → Bool) (is : List Interval) → ((i : Interval) → p i ≡ true → q i ≡ true) → list_all p is ≡ true → list_all q is ≡ true
all_then p q [] f h = refl
all_then p q (i ∷ is) f h =
    let both = and_parts (p i) (list_all p is) h in
    and_from (q i) (list_all q is) (f i both.0) (all_then p q is f both.1)

-- An interval is in a list before a lower end where it is not after it.
pub begin_then : (is : List Interval) (a b : Option ℤ) → begin_by is a ≡ true → begins_by a b ≡ true → begin_by is b ≡ true
begin_then is a b h k = all_then (λ i. begins_by i.low a) (λ i. begins_by i.low b) is (λ i e. begins_then i.low a b e k) h

-- ---- a list of intervals that ascend, and one more

in_push : (is : List Interval) (n : Interval) (z : ℤ) → is_in (is ++ n ∷ []) z ≡ (is_in is z || is_between n z)
in_push is n z = list_any-append (λ i. is_between i z) is (n ∷ []) ∙ ap (λ t. is_in is z || t) (or_false (is_between n z))

all_push : (p : Interval → Bool) (is : List Interval) (n : Interval) → list_all p is ≡ true → p n ≡ true → list_all p (is ++ n ∷ []) ≡ true
all_push p is n h k = list_all-append p is (n ∷ []) ∙ and_from (list_all p is) (p n && true) h (and_from (p n) true k refl)

pub record Pushed (is : List Interval) (last : Interval) : Type 0 where
  pub rest : ascend is ≡ true
  pub earlier : list_all (λ i. is_before i.high last.low) is ≡ true
  pub number : has_number last ≡ true

-- What a list that ascends says of its last interval.
pub pushed-parts : (is : List Interval) (last : Interval) → ascend (is ++ last ∷ []) ≡ true → Pushed is last
pushed-parts [] last h =
    record { rest = refl; earlier = refl; number = (ascend-parts last [] h).number }
pushed-parts (i ∷ is) last h =
    let p = ascend-parts i (is ++ last ∷ []) h in
    let q = pushed-parts is last p.rest in
    let all = and_parts (list_all (λ j. is_before i.high j.low) is) (is_before i.high last.low && true) (sym (list_all-append (λ j. is_before i.high j.low) is (last ∷ [])) ∙ p.later) in
    let here = and_parts (is_before i.high last.low) true all.1 in
    record {
      rest = and_from (has_number i && list_all (λ j. is_before i.high j.low) is) (ascend is) (and_from (has_number i) (list_all (λ j. is_before i.high j.low) is) p.number all.0) q.rest;
      earlier = and_from (is_before i.high last.low) (list_all (λ j. is_before j.high last.low) is) here.0 q.earlier;
      number = q.number;
    }

pub begin-parts : (is : List Interval) (last : Interval) (low : Option ℤ) → begin_by (is ++ last ∷ []) low ≡ true → (begin_by is low ≡ true) × (begins_by last.low low ≡ true)
begin-parts is last low h =
    let all = and_parts (begin_by is low) (begins_by last.low low && true) (sym (list_all-append (λ i. begins_by i.low low) is (last ∷ [])) ∙ h) in
    (all.0, (and_parts (begins_by last.low low) true all.1).0)

pub record Joins (old new : List Interval) (next : Interval) : Type 0 where
  pub exact : (z : ℤ) → is_in new z ≡ (is_in old z || is_between next z)
  pub ascending : ascend new ≡ true
  pub begin : begin_by new next.low ≡ true

pub joins_first : (next : Interval) → has_number next ≡ true → Joins [] (next ∷ []) next
joins_first next h = record {
  exact = λ z. or_false (is_between next z);
  ascending = and_from (has_number next && true) true (and_from (has_number next) true h refl) refl;
  begin = and_from (begins_by next.low next.low) true (begins_itself next.low) refl;
}

pub joins_apart : (is : List Interval) (last next : Interval) → ascend (is ++ last ∷ []) ≡ true → begin_by (is ++ last ∷ []) next.low ≡ true → has_number next ≡ true → is_before last.high next.low ≡ true → Joins (is ++ last ∷ []) ((is ++ last ∷ []) ++ next ∷ []) next
joins_apart is last next a b n e =
    let p = pushed-parts is last a in
    let q = begin-parts is last next.low b in
    let before : list_all (λ i. is_before i.high next.low) is ≡ true =
    all_then (λ i. is_before i.high last.low) (λ i. is_before i.high next.low) is (λ i h. before_then i.high last.low next.low h q.1) p.earlier in
    record {
      exact = in_push (is ++ last ∷ []) next;
      ascending = ascend-push (is ++ last ∷ []) next a (all_push (λ i. is_before i.high next.low) is last before e) n;
      begin = all_push (λ i. begins_by i.low next.low) (is ++ last ∷ []) next b (begins_itself next.low);
    }

pub joins_reaching : (is : List Interval) (last next : Interval) → ascend (is ++ last ∷ []) ≡ true → begin_by (is ++ last ∷ []) next.low ≡ true → is_before last.high next.low ≡ false → Joins (is ++ last ∷ []) (is ++ reach_of last next ∷ []) next
joins_reaching is last next a b e =
    let p = pushed-parts is last a in
    let q = begin-parts is last next.low b in
    record {
      exact = λ z.
          in_push is (reach_of last next) z
          ∙ ap (λ t. is_in is z || t) (reach last.low last.high next.low next.high z q.1 e p.number)
          ∙ or_assoc (is_in is z) (is_between last z) (is_between next z)
          ∙ ap (λ t. t || is_between next z) (sym (in_push is last z));
      ascending = ascend-push is (reach_of last next) p.rest p.earlier (reach_order last.low last.high next.high p.number);
      begin = all_push (λ i. begins_by i.low next.low) is (reach_of last next) q.0 q.1;
    }

-- ---- the loop

pub record IsJoined (ordered joined : List Interval) (k : ℕ) : Type 0 where
  pub exact : (z : ℤ) → is_in joined z ≡ is_in (take k ordered) z
  pub ascending : ascend joined ≡ true
  pub begin : (d : Interval) → k < length ordered → begin_by joined (get_or ordered k d).low ≡ true

pub joined_begins : (ordered : List Interval) → IsJoined ordered [] 0
joined_begins ordered = record { exact = λ z. refl; ascending = refl; begin = λ d h. refl }

begin_next : (ordered more : List Interval) (k : ℕ) (x : Interval) → LowsAscend ordered → begin_by more x.low ≡ true → x ≡ get_or ordered k x → (d : Interval) → k + 1 < length ordered → begin_by more (get_or ordered (k + 1) d).low ≡ true
begin_next ordered more k x up h is d l =
    let here : get_or ordered k d ≡ x = get_or_any ordered k d x (omega arith) ∙ sym is in
    begin_then more x.low (get_or ordered (k + 1) d).low h (subst (λ y. begins_by y.low (get_or ordered (k + 1) d).low ≡ true) here (up k d l))
  where
    get_or_any : (xs : List Interval) (k : ℕ) (d e : Interval) → k < length xs → get_or xs k d ≡ get_or xs k e
    get_or_any xs k d e h = get_or_default xs k d e h

pub joined_more : (ordered joined more : List Interval) (k : ℕ) (x : Interval) → LowsAscend ordered → IsJoined ordered joined k → k < length ordered → x ≡ get_or ordered k x → Joins joined more x → IsJoined ordered more (k + 1)
joined_more ordered joined more k x up s l is j = record {
  exact = λ z.
      j.exact z
      ∙ ap (λ t. t || is_between x z) (s.exact z)
      ∙ ap (λ y. is_in (take k ordered) z || is_between y z) is
      ∙ sym (list_any_more (λ i. is_between i z) ordered k x l);
  ascending = j.ascending;
  begin = begin_next ordered more k x up j.begin is;
}

no_more : (o x : Bool) → x ≡ false → o ≡ (o || x)
no_more true x h = refl
no_more false x h = sym h

pub joined_same : (ordered joined : List Interval) (k : ℕ) (x : Interval) → LowsAscend ordered → IsJoined ordered joined k → k < length ordered → x ≡ get_or ordered k x → has_number x ≡ false → IsJoined ordered joined (k + 1)
joined_same ordered joined k x up s l is none = record {
  exact = λ z.
      s.exact z
      ∙ no_more (is_in (take k ordered) z) (is_between x z) (empty_is_out x.low x.high z none)
      ∙ ap (λ y. is_in (take k ordered) z || is_between y z) is
      ∙ sym (list_any_more (λ i. is_between i z) ordered k x l);
  ascending = s.ascending;
  begin = begin_next ordered joined k x up (subst (λ y. begin_by joined y.low ≡ true) (sym is) (s.begin x l)) is;
}

pub joined_ends : (ordered joined : List Interval) (k : ℕ) → length ordered ≤ k → IsJoined ordered joined k → (z : ℤ) → is_in joined z ≡ is_in ordered z
joined_ends ordered joined k h s z = s.exact z ∙ ap (λ l. is_in l z) (take_all k ordered h)
