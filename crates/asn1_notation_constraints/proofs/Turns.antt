-- Laws of a table whose parts are gone through in turn.
use Rattle.std.proofs.Common.{◌≡◌, ℕ, zero, suc, ◌+◌, ◌-◌, ◌<◌, ◌≤◌, ℤ, Bool, true, false, ◌||◌, ltb, List, [], ◌∷◌, ◌++◌, length, get_or, take, map, Some, refl, ap, sym, subst, ◌∙◌, arith}
use Rattle.std.specs.Prelude.{slice_get}
use Rattle.std.specs.List.{list_all, list_any}
use Rattle.std.proofs.Math.ListN.{get_or-map}
use Rattle.std.proofs.lemmas.Bool.{and_from, ltb-true}
use Rattle.std.proofs.lemmas.Bool.Decides.{nat_tests}
use Rattle.std.proofs.lemmas.List.{get_or_default, take_more}
use Rattle.std.proofs.lemmas.List.Folds.{list_all_at, list_all_more, list_any_at, list_any_more}
use Rattle.std.proofs.lemmas.Option.{get_or_from_slice_get, slice_get-get_or}
use Rattle.asn1_notation_intervals.specs.Sets.{is_in}
use Rattle.asn1_notation_constraints.specs.declared.constraints.ConstraintTerm.{ConstraintTerm}
use Rattle.asn1_notation_constraints.specs.declared.constraints.Visible.{Visible}
use Rattle.asn1_notation_constraints.specs.Constraints.{AreInPlace, IsMissing, Sight, admits, are_below, at, each_in_turn, ends_extensible, refers_back, sight, sight_at, sight_of, unseen}

-- ---- one part more

map_push : {X Y : Type 0} (g : Y → X) (ys : List Y) (y : Y) → map g (ys ++ y ∷ []) ≡ map g ys ++ g y ∷ []
map_push g [] y = refl
map_push g (x ∷ ys) y = ap (λ l. g x ∷ l) (map_push g ys y)

length_map : {X Y : Type 0} (g : Y → X) (ys : List Y) → length (map g ys) ≡ length ys
length_map g [] = refl
length_map g (y ∷ ys) = ap (λ n. suc n) (length_map g ys)

turn_push : {X : Type 0} (f : List X → ConstraintTerm → X) (said : List X) (ts : List ConstraintTerm) (t : ConstraintTerm) → each_in_turn f said (ts ++ t ∷ []) ≡ each_in_turn f said ts ++ f (each_in_turn f said ts) t ∷ []
turn_push f said [] t = refl
turn_push f said (u ∷ ts) t = turn_push f (said ++ f said u ∷ []) ts t

turn_more : {X Y : Type 0} (f : List X → ConstraintTerm → X) (g : Y → X) (ts : List ConstraintTerm) (k : ℕ) (t : ConstraintTerm) (parts : List Y) (part : Y) → map g parts ≡ each_in_turn f [] (take k ts) → k < length ts → t ≡ get_or ts k t → g part ≡ f (map g parts) t → map g (parts ++ part ∷ []) ≡ each_in_turn f [] (take (k + 1) ts)
turn_more f g ts k t parts part h l e p =
    map_push g parts part
    ∙ ap (λ x. map g parts ++ x ∷ []) p
    ∙ ap (λ m. m ++ f m t ∷ []) h
    ∙ sym (turn_push f [] (take k ts) t)
    ∙ ap (each_in_turn f []) (ap (λ u. take k ts ++ u ∷ []) e ∙ sym (take_more ts k t l))

-- The parts of a table up to an index.
pub record AreSeen (ts : List ConstraintTerm) (parts : List Visible) (k : ℕ) : Type 0 where
  pub numbers : (z : ℤ) → map (λ p. is_in p.numbers z) parts ≡ each_in_turn (admits z) [] (take k ts)
  pub seen : map sight_of parts ≡ each_in_turn sight [] (take k ts)
  pub count : length parts ≡ k
  pub in_place : AreInPlace ts k

pub seen_first : (ts : List ConstraintTerm) → AreSeen ts [] 0
seen_first ts = record { numbers = λ z. refl; seen = refl; count = refl; in_place = λ k t h e. absurd (omega arith) }

length_push : (parts : List Visible) (part : Visible) (k : ℕ) → length parts ≡ k → length (parts ++ part ∷ []) ≡ k + 1
length_push [] part k h = omega arith
length_push (p ∷ parts) part k h = grown (length parts) (length (parts ++ part ∷ [])) k h (length_push parts part (length parts) refl)
  where
    grown : (n m k : ℕ) → suc n ≡ k → m ≡ n + 1 → suc m ≡ k + 1
    grown n m k h e = omega arith

last : (j k : ℕ) → j < k + 1 → ltb j k ≡ false → k ≡ j
last j k h e = grind (arith, nat_tests)

in_place_more : (ts : List ConstraintTerm) (k : ℕ) (t : ConstraintTerm) → AreInPlace ts k → t ≡ get_or ts k t → refers_back k t ≡ true → AreInPlace ts (k + 1)
in_place_more ts k t all e r = λ j u h f. at j u h f (ltb j k) refl
  where
    at : (j : ℕ) (u : ConstraintTerm) → j < k + 1 → slice_get ts j ≡ Some u → (b : Bool) → ltb j k ≡ b → refers_back j u ≡ true
    at j u h f true b = all j u (ltb-true j k b) f
    at j u h f false b =
        let same : k ≡ j = last j k h b in
        let here : t ≡ u = e ∙ ap (λ i. get_or ts i t) same ∙ get_or_from_slice_get ts j u t f in
        subst (λ i. refers_back i u ≡ true) same (subst (λ w. refers_back k w ≡ true) here r)

pub seen_more : (ts : List ConstraintTerm) (parts : List Visible) (k : ℕ) (t : ConstraintTerm) (part : Visible) → AreSeen ts parts k → k < length ts → t ≡ get_or ts k t → refers_back k t ≡ true → ((z : ℤ) → is_in part.numbers z ≡ admits z (map (λ p. is_in p.numbers z) parts) t) → sight_of part ≡ sight (map sight_of parts) t → AreSeen ts (parts ++ part ∷ []) (k + 1)
seen_more ts parts k t part s l e r n v = record {
  numbers = λ z. turn_more (admits z) (λ (p : Visible). is_in p.numbers z) ts k t parts part (s.numbers z) l e (n z);
  seen = turn_more sight sight_of ts k t parts part s.seen l e v;
  count = length_push parts part k s.count;
  in_place = in_place_more ts k t s.in_place e r;
}

-- ---- parts by their indices

at_read : {Y : Type 0} (g : Visible → Y) (parts : List Visible) (i : ℕ) (p : Visible) (none : Y) → i < length parts → p ≡ get_or parts i p → get_or (map g parts) i none ≡ g p
at_read g parts i p none l e =
    get_or_default (map g parts) i none (g p) (subst (λ n. i < n) (sym (length_map g parts)) l)
    ∙ get_or-map g parts i p
    ∙ ap g (sym e)

pub admits_read : (z : ℤ) (parts : List Visible) (i : ℕ) (p : Visible) → i < length parts → p ≡ get_or parts i p → at (map (λ p. is_in p.numbers z) parts) i ≡ is_in p.numbers z
admits_read z parts i p l e = at_read (λ (p : Visible). is_in p.numbers z) parts i p false l e

pub sight_read : (parts : List Visible) (i : ℕ) (p : Visible) → i < length parts → p ≡ get_or parts i p → sight_at (map sight_of parts) i ≡ sight_of p
sight_read parts i p l e = at_read sight_of parts i p unseen l e

-- An index of a part is below the count.
pub below_read : (n : ℕ) (is : List ℕ) (k : ℕ) (i : ℕ) → are_below n is ≡ true → k < length is → i ≡ get_or is k i → i < n
below_read n is k i h l e = go (ltb i n) refl
  where
    clash : true ≡ false → ⊥
    clash e = absurd (cc)

    go : (b : Bool) → ltb i n ≡ b → i < n
    go true t = ltb-true i n t
    go false t = absurd (clash (sym h ∙ list_all_at (λ j. ltb j n) is k i l (ap (λ j. ltb j n) (sym e) ∙ t)))

-- ---- loops over indices

pub all_more : (p : ℕ → Bool) (is : List ℕ) (k i : ℕ) → k < length is → i ≡ get_or is k i → list_all p (take k is) ≡ true → p i ≡ true → list_all p (take (k + 1) is) ≡ true
all_more p is k i l e h t = list_all_more p is k i l ∙ and_from (list_all p (take k is)) (p (get_or is k i)) h (ap p (sym e) ∙ t)

pub all_fails : (p : ℕ → Bool) (is : List ℕ) (k i : ℕ) → k < length is → i ≡ get_or is k i → p i ≡ false → list_all p is ≡ false
all_fails p is k i l e t = list_all_at p is k i l (ap p (sym e) ∙ t)

none_both : (a b : Bool) → a ≡ false → b ≡ false → (a || b) ≡ false
none_both true b h k = absurd (cc)
none_both false b h k = k

pub none_more : (p : ℕ → Bool) (is : List ℕ) (k i : ℕ) → k < length is → i ≡ get_or is k i → list_any p (take k is) ≡ false → p i ≡ false → list_any p (take (k + 1) is) ≡ false
none_more p is k i l e h t = list_any_more p is k i l ∙ none_both (list_any p (take k is)) (p (get_or is k i)) h (ap p (sym e) ∙ t)

pub any_found : (p : ℕ → Bool) (is : List ℕ) (k i : ℕ) → k < length is → i ≡ get_or is k i → p i ≡ true → list_any p is ≡ true
any_found p is k i l e t = list_any_at p is k i l (ap p (sym e) ∙ t)

pub missing_at : (n : ℕ) (is : List ℕ) (k i : ℕ) → k < length is → i ≡ get_or is k i → are_below n (take k is) ≡ true → n ≤ i → IsMissing n is k
missing_at n is k i l e h b = (h, (i, slice_get-get_or is k i l ∙ ap (λ j. Some j) (sym e), not_below i n b))
  where
    not_below : (i n : ℕ) → n ≤ i → ltb i n ≡ false
    not_below i n h = grind (arith, nat_tests)

-- ---- the last constraint

ends_at : (seen : List Sight) (cs : List ℕ) (n d : ℕ) → suc n ≡ length cs → ends_extensible seen cs ≡ (sight_at seen (get_or cs n d)).is_extensible
ends_at seen [] n d e = absurd (omega arith)
ends_at seen (c ∷ []) zero d e = refl
ends_at seen (c ∷ []) (suc n) d e = absurd (omega arith)
ends_at seen (c ∷ x ∷ cs) zero d e = absurd (omega arith)
ends_at seen (c ∷ x ∷ cs) (suc n) d e = ends_at seen (x ∷ cs) n d (omega arith)

pub last_read : (parts : List Visible) (cs : List ℕ) (p : Visible) → are_below (length parts) cs ≡ true → 0 < length cs → p ≡ get_or parts (get_or cs (length cs - 1) 0) p → (get_or parts (get_or cs (length cs - 1) 0) p).is_extensible ≡ ends_extensible (map sight_of parts) cs
last_read parts cs p h l e =
    let i = get_or cs (length cs - 1) 0 in
    let inside : length cs - 1 < length cs = omega arith in
    let below = below_read (length parts) cs (length cs - 1) i h inside (get_or_default cs (length cs - 1) 0 i inside) in
    ap (λ (q : Visible). q.is_extensible) (sym e)
    ∙ ap (λ (s : Sight). s.is_extensible) (sym (sight_read parts i p below e))
    ∙ sym (ends_at (map sight_of parts) cs (length cs - 1) 0 (omega arith))
