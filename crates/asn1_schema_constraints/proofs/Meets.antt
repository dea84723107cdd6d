-- The intersection of two bounds, over any order decided by a test.
use Rattle.std.proofs.Common.{◌≡◌, ◌∙◌, refl, sym, ap, Bool, true, false, not, cond, ◌&&◌, Option, Some, None}
use Rattle.asn1_schema_constraints.specs.declared.bounds.Bounded.{Bounded}
use Rattle.asn1_schema_constraints.specs.Bounds.{lower, upper, later, earlier, between, meet, is_inverted}

-- A test that decides a total order.
pub record IsOrder {X : Type 0} (le : X → X → Bool) : Type 0 where
  pub total : (a b : X) → le a b ≡ false → le b a ≡ true
  pub chained : (a b c : X) → le a b ≡ true → le b c ≡ true → le a c ≡ true
  pub equal : (a b : X) → le a b ≡ true → le b a ≡ true → a ≡ b

-- booleans, the second of which determines the first
and_right : (p q : Bool) → (q ≡ true → p ≡ true) → q ≡ (p && q)
and_right true q f = refl
and_right false true f = sym (f refl)
and_right false false f = refl

-- the same with the arguments exchanged
and_left : (p q : Bool) → (p ≡ true → q ≡ true) → p ≡ (p && q)
and_left true q f = sym (f refl)
and_left false q f = refl

-- false is not true
pub differ : {A : Type 0} → false ≡ true → A
differ e = cc

-- two booleans that are true
pub both_true : (p q : Bool) → (p && q) ≡ true → (p ≡ true) × (q ≡ true)
both_true true q e = (refl, e)
both_true false q e = differ e

-- the middle two of four are exchanged
pub regroup : (a b c d : Bool) → ((a && b) && (c && d)) ≡ ((a && c) && (b && d))
regroup true true c d = refl
regroup true false true d = refl
regroup true false false d = refl
regroup false b c d = refl

-- ---- what ends admit

-- Whether a value is at least a bound, if there is one.
abbrev pub is_above : {X : Type 0} → (X → X → Bool) → Option X → X → Bool
is_above le None v = true
is_above le (Some a) v = le a v

-- Whether a value is at most a bound, if there is one.
abbrev pub is_below : {X : Type 0} → (X → X → Bool) → Option X → X → Bool
is_below le None v = true
is_below le (Some a) v = le v a

-- the greater of two lower bounds admits what both do
pub later_admits : {X : Type 0} (le : X → X → Bool) → IsOrder le → (a b : Option X) (v : X) → is_above le (later le a b) v ≡ (is_above le a v && is_above le b v)
later_admits le o (Some a) (Some b) v = go (le a b) refl where
  go : (t : Bool) → le a b ≡ t → le (cond t b a) v ≡ (le a v && le b v)
  go true e = and_right (le a v) (le b v) (λ h. o.chained a b v e h)
  go false e = and_left (le a v) (le b v) (λ h. o.chained b a v (o.total a b e) h)
later_admits le o (Some a) None v = and_left (le a v) true (λ h. refl)
later_admits le o None b v = refl

-- the lesser of two upper bounds admits what both do
pub earlier_admits : {X : Type 0} (le : X → X → Bool) → IsOrder le → (a b : Option X) (v : X) → is_below le (earlier le a b) v ≡ (is_below le a v && is_below le b v)
earlier_admits le o (Some a) (Some b) v = go (le a b) refl where
  go : (t : Bool) → le a b ≡ t → le v (cond t a b) ≡ (le v a && le v b)
  go true e = and_left (le v a) (le v b) (λ h. o.chained v a b h e)
  go false e = and_right (le v a) (le v b) (λ h. o.chained v b a h (o.total a b e))
earlier_admits le o (Some a) None v = and_left (le v a) true (λ h. refl)
earlier_admits le o None b v = refl

-- ---- the ends of what is between two ends

pub lower_between : {X : Type 0} (le : X → X → Bool) (low high : Option X) → lower (between le low high) ≡ low
lower_between le (Some a) (Some b) = go (le a b && le b a) where
  go : (t : Bool) → lower (cond t (Bounded.Single a) (Bounded.Range (Some a) (Some b))) ≡ Some a
  go true = refl
  go false = refl
lower_between le (Some a) None = refl
lower_between le None (Some b) = refl
lower_between le None None = refl

pub upper_between : {X : Type 0} (le : X → X → Bool) → IsOrder le → (low high : Option X) → upper (between le low high) ≡ high
upper_between le o (Some a) (Some b) = go (le a b && le b a) refl where
  go : (t : Bool) → (le a b && le b a) ≡ t → upper (cond t (Bounded.Single a) (Bounded.Range (Some a) (Some b))) ≡ Some b
  go true e = let parts = both_true (le a b) (le b a) e in ap (λ x. Some x) (o.equal a b parts.0 parts.1)
  go false e = refl
upper_between le o (Some a) None = refl
upper_between le o None (Some b) = refl
upper_between le o None None = refl

-- ---- the order of the bounds does not matter

pub later_commutes : {X : Type 0} (le : X → X → Bool) → IsOrder le → (a b : Option X) → later le a b ≡ later le b a
later_commutes le o (Some a) (Some b) = ap (λ x. Some x) (go (le a b) (le b a) refl refl) where
  go : (t u : Bool) → le a b ≡ t → le b a ≡ u → cond t b a ≡ cond u a b
  go true true e f = o.equal b a f e
  go true false e f = refl
  go false true e f = refl
  go false false e f = differ (sym f ∙ o.total a b e)
later_commutes le o (Some a) None = refl
later_commutes le o None (Some b) = refl
later_commutes le o None None = refl

pub earlier_commutes : {X : Type 0} (le : X → X → Bool) → IsOrder le → (a b : Option X) → earlier le a b ≡ earlier le b a
earlier_commutes le o (Some a) (Some b) = ap (λ x. Some x) (go (le a b) (le b a) refl refl) where
  go : (t u : Bool) → le a b ≡ t → le b a ≡ u → cond t a b ≡ cond u b a
  go true true e f = o.equal a b e f
  go true false e f = refl
  go false true e f = refl
  go false false e f = differ (sym f ∙ o.total a b e)
earlier_commutes le o (Some a) None = refl
earlier_commutes le o None (Some b) = refl
earlier_commutes le o None None = refl

-- ---- nor does how three are grouped

-- where the test fails twice, it holds from the last to the first
backwards : {X : Type 0} (le : X → X → Bool) → IsOrder le → (a b c : X) → le a b ≡ false → le b c ≡ false → le c a ≡ true
backwards le o a b c e f = o.chained c b a (o.total b c f) (o.total a b e)

pub later_groups : {X : Type 0} (le : X → X → Bool) → IsOrder le → (a b c : Option X) → later le (later le a b) c ≡ later le a (later le b c)
later_groups le o (Some a) (Some b) (Some c) = ap (λ x. Some x) (go (le a b) (le b c) refl refl) where
  last : (t : Bool) → le a c ≡ t → le a b ≡ false → le b c ≡ false → cond t c a ≡ a
  last true h e f = o.equal c a (backwards le o a b c e f) h
  last false h e f = refl

  go : (t u : Bool) → le a b ≡ t → le b c ≡ u → cond (le (cond t b a) c) c (cond t b a) ≡ cond (le a (cond u c b)) (cond u c b) a
  go true true e f = ap (λ t. cond t c b) f ∙ ap (λ t. cond t c a) (sym (o.chained a b c e f))
  go true false e f = ap (λ t. cond t c b) f ∙ ap (λ t. cond t b a) (sym e)
  go false true e f = refl
  go false false e f = last (le a c) refl e f ∙ ap (λ t. cond t b a) (sym e)
later_groups le o (Some a) (Some b) None = refl
later_groups le o (Some a) None c = refl
later_groups le o None b c = refl

pub earlier_groups : {X : Type 0} (le : X → X → Bool) → IsOrder le → (a b c : Option X) → earlier le (earlier le a b) c ≡ earlier le a (earlier le b c)
earlier_groups le o (Some a) (Some b) (Some c) = ap (λ x. Some x) (go (le a b) (le b c) refl refl) where
  last : (t : Bool) → le a c ≡ t → le a b ≡ false → le b c ≡ false → c ≡ cond t a c
  last true h e f = o.equal c a (backwards le o a b c e f) h
  last false h e f = refl

  go : (t u : Bool) → le a b ≡ t → le b c ≡ u → cond (le (cond t a b) c) (cond t a b) c ≡ cond (le a (cond u b c)) a (cond u b c)
  go true true e f = ap (λ t. cond t a c) (o.chained a b c e f) ∙ ap (λ t. cond t a b) (sym e)
  go true false e f = refl
  go false true e f = ap (λ t. cond t b c) f ∙ ap (λ t. cond t a b) (sym e)
  go false false e f = ap (λ t. cond t b c) f ∙ last (le a c) refl e f
earlier_groups le o (Some a) (Some b) None = refl
earlier_groups le o (Some a) None c = refl
earlier_groups le o None b c = refl

-- ---- both bounds together

pub meet_commutes : {X : Type 0} (le : X → X → Bool) → IsOrder le → (a b : Bounded X) → meet le a b ≡ meet le b a
meet_commutes le o a b =
    ap (λ low. between le low (earlier le (upper a) (upper b))) (later_commutes le o (lower a) (lower b))
    ∙ ap (between le (later le (lower b) (lower a))) (earlier_commutes le o (upper a) (upper b))

pub lower_meet : {X : Type 0} (le : X → X → Bool) (a b : Bounded X) → lower (meet le a b) ≡ later le (lower a) (lower b)
lower_meet le a b = lower_between le (later le (lower a) (lower b)) (earlier le (upper a) (upper b))

pub upper_meet : {X : Type 0} (le : X → X → Bool) → IsOrder le → (a b : Bounded X) → upper (meet le a b) ≡ earlier le (upper a) (upper b)
upper_meet le o a b = upper_between le o (later le (lower a) (lower b)) (earlier le (upper a) (upper b))

pub meet_groups : {X : Type 0} (le : X → X → Bool) → IsOrder le → (a b c : Bounded X) → meet le (meet le a b) c ≡ meet le a (meet le b c)
meet_groups le o a b c =
    ap (λ low. between le low (earlier le (upper (meet le a b)) (upper c)))
    (ap (λ x. later le x (lower c)) (lower_meet le a b) ∙ (later_groups le o (lower a) (lower b) (lower c) ∙ ap (later le (lower a)) (sym (lower_meet le b c))))
    ∙ ap (between le (later le (lower a) (lower (meet le b c))))
    (ap (λ x. earlier le x (upper c)) (upper_meet le o a b) ∙ (earlier_groups le o (upper a) (upper b) (upper c) ∙ ap (earlier le (upper a)) (sym (upper_meet le o b c))))

-- what both bounds admit
pub meet_admits : {X : Type 0} (le : X → X → Bool) → IsOrder le → (a b : Bounded X) (v : X)
    → (is_above le (lower (meet le a b)) v && is_below le (upper (meet le a b)) v)
    ≡ ((is_above le (lower a) v && is_below le (upper a) v) && (is_above le (lower b) v && is_below le (upper b) v))
meet_admits le o a b v =
    ap (λ t. t && is_below le (upper (meet le a b)) v) (ap (λ x. is_above le x v) (lower_meet le a b) ∙ later_admits le o (lower a) (lower b) v)
    ∙ (ap (λ t. (is_above le (lower a) v && is_above le (lower b) v) && t) (ap (λ x. is_below le x v) (upper_meet le o a b) ∙ earlier_admits le o (upper a) (upper b) v)
    ∙ regroup (is_above le (lower a) v) (is_above le (lower b) v) (is_below le (upper a) v) (is_below le (upper b) v))

-- ---- what is common to both, if anything is

-- a value is at most itself
itself : {X : Type 0} (le : X → X → Bool) → IsOrder le → (a : X) → le a a ≡ true
itself le o a = go (le a a) refl where
  go : (t : Bool) → le a a ≡ t → t ≡ true
  go true e = refl
  go false e = sym e ∙ o.total a a e

-- a start above the end admits nothing
pub inverted_admits : {X : Type 0} (le : X → X → Bool) → IsOrder le → (low high : Option X) (v : X) → is_inverted le low high ≡ true
    → (is_above le low v && is_below le high v) ≡ false
inverted_admits le o (Some a) (Some b) v i = go (le a v) (le v b) (le a b) refl refl refl where
  go : (s t u : Bool) → le a v ≡ s → le v b ≡ t → le a b ≡ u → (s && t) ≡ false
  go false t u e f g = refl
  go true false u e f g = refl
  go true true true e f g = differ (sym (ap not g) ∙ i)
  go true true false e f g = sym (o.chained a v b e f) ∙ g
inverted_admits le o (Some a) None v i = differ i
inverted_admits le o None high v i = differ i

-- a start not above the end admits something
pub straight_admits : {X : Type 0} (le : X → X → Bool) → IsOrder le → X → (low high : Option X) → is_inverted le low high ≡ false
    → (v : X) × ((is_above le low v && is_below le high v) ≡ true)
straight_admits le o x (Some a) (Some b) i = (a, ap (λ t. t && le a b) (itself le o a) ∙ go (le a b) i) where
  go : (t : Bool) → not t ≡ false → t ≡ true
  go true e = refl
  go false e = differ (sym e)
straight_admits le o x (Some a) None i = (a, ap (λ t. t && true) (itself le o a))
straight_admits le o x None (Some b) i = (b, itself le o b)
straight_admits le o x None None i = (x, refl)
