-- The characters of runs, one by one.
use Rattle.std.proofs.Common.{◌≡◌, ◌⊎◌, ℕ, zero, suc, ◌+◌, ◌-◌, ◌<◌, ◌≤◌, leb, ltb, Bool, true, false, cond, ◌&&◌, List}
use Rattle.std.proofs.Common.{[], ◌∷◌, ◌++◌, length, filter, drop, get_or, slice_set, take, Option, Some, option_map}
use Rattle.std.proofs.Common.{refl, ap, sym, ◌∙◌, subst, inl, inr, append_assoc, length-append, length-drop, ◌==◌}
use Rattle.std.proofs.Common.{arith}
use Rattle.std.specs.List.{All, Contains, range_with_len, sum_by}
use Rattle.std.specs.List.Sorted.{IsPermutation}
use Rattle.std.proofs.lemmas.Bool.{leb-true, leb-false, ltb-true, ltb-false, and_parts}
use Rattle.std.proofs.lemmas.List.{append-nil, get_or-take, length-set, length-take-le, take_at, take_more, take_more_set}
use Rattle.std.proofs.lemmas.List.Elements.{All-push, All-get_or, All-head, All-tail, Contains-append_left, Contains-append_right, Contains-append_cases}
use Rattle.std.proofs.lemmas.List.FromFn.{length-range_with_len}
use Rattle.std.proofs.lemmas.List.Sorted.{sum_by-IsPermutation, All-permutation, length_permutation}
use Rattle.std.proofs.lemmas.List.Sums.{sum_by-cons}
use Rattle.asn1_model.specs.Lawful.{are_ascending}
use Rattle.asn1_model.specs.Strings.{Run, run, how_many, largest, place_of, is_in_run, put_in, sorted}
use Rattle.asn1_model.proofs.Ascending.{at_front, behind_front, front_or_behind, none_in, in_front, same_ascending, order_ascends, order_has, order_only}
use Rattle.per_codec_alphabets.proofs.Places.{runs_behind, more_map, none_added, map_end, largest_end}
use Rattle.per_codec_alphabets.specs.Codes.{run_of, runs_of, singles, SameCharacters}
use Rattle.per_codec_alphabets.specs.Listed.{each_of, all_of, begin_from, AreFew, HasSome}
use Rattle.per_codec_alphabets.specs.declared.runs.CharacterRun.{CharacterRun}

-- ---- consecutive numbers
pub counted_end : (a n : ℕ) → range_with_len a (suc n) ≡ range_with_len a n ++ (a + n) ∷ []
counted_end a zero = ap (λ d. d ∷ []) (omega arith)
counted_end a (suc n) =
    let e : a + 1 + n ≡ a + suc n = omega arith in
    ap (λ l. a ∷ l) (counted_end (a + 1) n ∙ ap (λ d. range_with_len (a + 1) n ++ d ∷ []) e)

counted_has : (a n d : ℕ) → a ≤ d → d < a + n → Contains (range_with_len a n) d
counted_has a zero d l h = absurd (omega arith)
counted_has a (suc n) d l h = step (leb (a + 1) d) refl (λ k. counted_has (a + 1) n d k (omega arith))
  where
    step : (b : Bool) → leb (a + 1) d ≡ b → (a + 1 ≤ d → Contains (range_with_len (a + 1) n) d) → Contains (a ∷ range_with_len (a + 1) n) d
    step true e k = behind_front a (range_with_len (a + 1) n) d (k (leb-true (a + 1) d e))
    step false e k = let f = leb-false (a + 1) d e in let g : a ≡ d = omega arith in subst (λ x. Contains (a ∷ range_with_len (a + 1) n) x) g (at_front a (range_with_len (a + 1) n))

counted_only : (a n d : ℕ) → Contains (range_with_len a n) d → (a ≤ d) × (d < a + n)
counted_only a zero d h = none_in d h
counted_only a (suc n) d h = step (front_or_behind a (range_with_len (a + 1) n) d h) (counted_only (a + 1) n d)
  where
    step : (d ≡ a) ⊎ Contains (range_with_len (a + 1) n) d → (Contains (range_with_len (a + 1) n) d → (a + 1 ≤ d) × (d < a + 1 + n)) → (a ≤ d) × (d < a + suc n)
    step (inl p) k = (omega arith, omega arith)
    step (inr p) k = let q = k p in let r = q.0 in let s = q.1 in (omega arith, omega arith)

counted_ascends : (a n : ℕ) (l : List ℕ) → are_ascending ltb l ≡ true → ((d : ℕ) → Contains l d → a + n ≤ d) →
    (are_ascending ltb (range_with_len a n ++ l) ≡ true) × ((d : ℕ) → Contains (range_with_len a n ++ l) d → a ≤ d)
counted_ascends a zero l h f = (h, λ d i. let k = f d i in omega (arith, k))
counted_ascends a (suc n) l h f =
    let rest = range_with_len (a + 1) n ++ l in
    let i = counted_ascends (a + 1) n l h (λ d k. let m = f d k in omega (arith, m)) in
    (in_front a rest (λ d k. let m = i.1 d k in omega (arith, m)) i.0, λ d k. first d (i.1 d) (front_or_behind a rest d k))
  where
    first : (d : ℕ) → (Contains (range_with_len (a + 1) n ++ l) d → a + 1 ≤ d) → (d ≡ a) ⊎ Contains (range_with_len (a + 1) n ++ l) d → a ≤ d
    first d g (inl p) = omega arith
    first d g (inr p) = let m = g p in omega (arith, m)

-- ---- one more character
all_end : (rs : List Run) (r : Run) → all_of (rs ++ r ∷ []) ≡ all_of rs ++ each_of r
all_end [] r = append-nil (each_of r)
all_end (s ∷ rs) r = ap (λ l. each_of s ++ l) (all_end rs r) ∙ sym (append_assoc (each_of s) (all_of rs) (each_of r))

-- as a run of one
pub one_single : (xs : List CharacterRun) (s : CharacterRun) (c : ℕ) → s.first ≡ c → s.last ≡ c → all_of (runs_of (xs ++ s ∷ [])) ≡ all_of (runs_of xs) ++ c ∷ []
one_single xs s c f g =
    let one : s.last + 1 - s.first ≡ 1 = omega arith in
    let e : each_of (run_of s) ≡ c ∷ [] = ap (λ n. range_with_len s.first n) one ∙ ap (λ d. d ∷ []) f in
    ap all_of (runs_behind xs (s ∷ [])) ∙ all_end (runs_of xs) (run_of s) ∙ ap (λ l. all_of (runs_of xs) ++ l) e

-- after the last of a run
pub one_longer : (xs : List CharacterRun) (r s : CharacterRun) (c : ℕ) → r.last + 1 ≡ c → r.first ≤ r.last → s.first ≡ r.first → s.last ≡ c →
    all_of (runs_of (xs ++ s ∷ [])) ≡ all_of (runs_of (xs ++ r ∷ [])) ++ c ∷ []
one_longer xs r s c e l f g =
    let many : s.last + 1 - s.first ≡ suc (r.last + 1 - r.first) = omega arith in
    let end : r.first + (r.last + 1 - r.first) ≡ c = omega arith in
    let longer : each_of (run_of s) ≡ each_of (run_of r) ++ c ∷ [] = ap (λ n. range_with_len s.first n) many ∙
    ap (λ a. range_with_len a (suc (r.last + 1 - r.first))) f ∙ counted_end r.first (r.last + 1 - r.first) ∙ ap (λ d. each_of (run_of r) ++ d ∷ []) end in
    ap all_of (runs_behind xs (s ∷ [])) ∙ all_end (runs_of xs) (run_of s) ∙ ap (λ l. all_of (runs_of xs) ++ l) longer
    ∙ sym (append_assoc (all_of (runs_of xs)) (each_of (run_of r)) (c ∷ []))
    ∙ ap (λ l. l ++ c ∷ []) (sym (ap all_of (runs_behind xs (r ∷ [])) ∙ all_end (runs_of xs) (run_of r)))

-- ---- runs and their characters are the same
how_many_singles : (cs : List ℕ) → how_many (singles cs) ≡ length cs
how_many_singles [] = refl
how_many_singles (c ∷ cs) = let i = how_many_singles cs in omega (arith, i)

many_all : (rs : List Run) → how_many rs ≡ length (all_of rs)
many_all [] = refl
many_all (r ∷ rs) =
    let n = length-range_with_len r.first (r.last + 1 - r.first) in
    let m = length-append (each_of r) (all_of rs) in
    let i = many_all rs in
    omega (arith, n, m, i)

largest_front : (xs : List ℕ) (d : ℕ) (ys : List ℕ) → largest (singles (xs ++ d ∷ ys)) ≡ largest (singles (d ∷ ys))
largest_front [] d ys = refl
largest_front (x ∷ []) d ys = refl
largest_front (x ∷ y ∷ xs) d ys = largest_front (y ∷ xs) d ys

-- the last character of a run that is not empty
last_one : (a b : ℕ) → a ≤ b → largest (singles (range_with_len a (b + 1 - a))) ≡ b
last_one a b l =
    let n : b + 1 - a ≡ suc (b - a) = omega arith in
    let e : a + (b - a) ≡ b = omega arith in
    ap (λ m. largest (singles (range_with_len a m))) n ∙ ap (λ l. largest (singles l)) (counted_end a (b - a)) ∙
    ap largest (map_end (range_with_len a (b - a)) (a + (b - a))) ∙ largest_end (singles (range_with_len a (b - a))) (run (a + (b - a)) (a + (b - a))) ∙ e

largest_all : (rs : List CharacterRun) → All HasSome rs → largest (runs_of rs) ≡ largest (singles (all_of (runs_of rs)))
largest_all [] h = refl
largest_all (r ∷ []) h = sym (last_one r.first r.last (All-head HasSome r [] h)) ∙ ap (λ l. largest (singles l)) (sym (append-nil (each_of (run_of r))))
largest_all (r ∷ s ∷ rs) h =
    let t = All-tail HasSome r (s ∷ rs) h in
    let l : s.first ≤ s.last = All-head HasSome s rs t in
    let n : s.last + 1 - s.first ≡ suc (s.last - s.first) = omega arith in
    let e : all_of (runs_of (s ∷ rs)) ≡ s.first ∷ (range_with_len (s.first + 1) (s.last - s.first) ++ all_of (runs_of rs)) = ap (λ m. range_with_len s.first m ++ all_of (runs_of rs)) n in
    largest_all (s ∷ rs) t ∙ ap (λ l. largest (singles l)) e
    ∙ sym (largest_front (each_of (run_of r)) s.first (range_with_len (s.first + 1) (s.last - s.first) ++ all_of (runs_of rs)))
    ∙ ap (λ l. largest (singles (each_of (run_of r) ++ l))) (sym e)

-- the index of a character after consecutive numbers
place_counted : (c a n : ℕ) (l : List ℕ) → place_of c (singles (range_with_len a n ++ l)) ≡ cond (leb a c && ltb c (a + n)) (Some (c - a)) (option_map (λ j. n + j) (place_of c (singles l)))
place_counted c a zero l = go (leb a c) (ltb c (a + 0)) refl refl
  where
    go : (x y : Bool) → leb a c ≡ x → ltb c (a + 0) ≡ y → place_of c (singles l) ≡ cond (x && y) (Some (c - a)) (option_map (λ j. 0 + j) (place_of c (singles l)))
    go true true e f = let p = leb-true a c e in let q = ltb-true c (a + 0) f in absurd (omega (arith, p, q))
    go true false e f = none_added (place_of c (singles l))
    go false y e f = none_added (place_of c (singles l))
place_counted c a (suc n) l =
    ap (λ p. cond (leb a c && leb c a) (Some (c - a)) (option_map (λ i. a + 1 - a + i) p)) (place_counted c (a + 1) n l)
    ∙ go (leb a c) (leb c a) (leb (a + 1) c) (ltb c (a + 1 + n)) (ltb c (a + suc n)) refl refl refl refl refl
  where
    q : Option ℕ
    q = place_of c (singles l)

    behind : option_map (λ i. a + 1 - a + i) (option_map (λ j. n + j) q) ≡ option_map (λ j. suc n + j) q
    behind = let e : a + 1 - a + n ≡ suc n = omega arith in more_map (a + 1 - a) n q ∙ ap (λ m. option_map (λ j. m + j) q) e

    go : (x y z t u : Bool) → leb a c ≡ x → leb c a ≡ y → leb (a + 1) c ≡ z → ltb c (a + 1 + n) ≡ t → ltb c (a + suc n) ≡ u →
        cond (x && y) (Some (c - a)) (option_map (λ i. a + 1 - a + i) (cond (z && t) (Some (c - (a + 1))) (option_map (λ j. n + j) q))) ≡ cond (x && u) (Some (c - a)) (option_map (λ j. suc n + j) q)
    go true true z t true d e f g h = refl
    go true true z t false d e f g h = let p = leb-true c a e in let r = ltb-false c (a + suc n) h in absurd (omega (arith, p, r))
    go true false true true true d e f g h = let p = leb-true (a + 1) c f in ap Some (omega (arith, p))
    go true false true true false d e f g h = let p = ltb-true c (a + 1 + n) g in let r = ltb-false c (a + suc n) h in absurd (omega (arith, p, r))
    go true false true false true d e f g h = let p = ltb-false c (a + 1 + n) g in let r = ltb-true c (a + suc n) h in absurd (omega (arith, p, r))
    go true false true false false d e f g h = behind
    go true false false t u d e f g h = let p = leb-false c a e in let r = leb-false (a + 1) c f in absurd (omega (arith, p, r))
    go false y true t u d e f g h = let p = leb-false a c d in let r = leb-true (a + 1) c f in absurd (omega (arith, p, r))
    go false y false t u d e f g h = behind

place_run : (c : ℕ) (r : Run) (p : Option ℕ) → cond (leb r.first c && ltb c (r.first + (r.last + 1 - r.first))) (Some (c - r.first)) p ≡ cond (is_in_run c r) (Some (c - r.first)) p
place_run c r p = go (leb r.first c) (ltb c (r.first + (r.last + 1 - r.first))) (leb c r.last) refl refl refl
  where
    go : (x y z : Bool) → leb r.first c ≡ x → ltb c (r.first + (r.last + 1 - r.first)) ≡ y → leb c r.last ≡ z → cond (x && y) (Some (c - r.first)) p ≡ cond (x && z) (Some (c - r.first)) p
    go true true true e f g = refl
    go true true false e f g = let l = leb-true r.first c e in let m = ltb-true c _ f in let n = leb-false c r.last g in absurd (omega (arith, l, m, n))
    go true false true e f g = let l = leb-true r.first c e in let m = ltb-false c _ f in let n = leb-true c r.last g in absurd (omega (arith, l, m, n))
    go true false false e f g = refl
    go false y z e f g = refl

place_all : (c : ℕ) (rs : List Run) → place_of c rs ≡ place_of c (singles (all_of rs))
place_all c [] = refl
place_all c (r ∷ rs) =
    ap (λ p. cond (is_in_run c r) (Some (c - r.first)) (option_map (λ i. r.last + 1 - r.first + i) p)) (place_all c rs)
    ∙ sym (place_counted c r.first (r.last + 1 - r.first) (all_of rs) ∙ place_run c r (option_map (λ j. r.last + 1 - r.first + j) (place_of c (singles (all_of rs)))))

pub same_listed : (rs : List CharacterRun) → All HasSome rs → SameCharacters (runs_of rs) (singles (all_of (runs_of rs)))
same_listed rs h = record {
  many = many_all (runs_of rs) ∙ sym (how_many_singles (all_of (runs_of rs)));
  greatest = largest_all rs h;
  places = λ c. place_all c (runs_of rs);
}

-- ---- runs that are apart
all_ascend : (n : ℕ) (rs : List CharacterRun) → All HasSome rs → begin_from n (runs_of rs) ≡ true → (are_ascending ltb (all_of (runs_of rs)) ≡ true) ×
    ((d : ℕ) → Contains (all_of (runs_of rs)) d → n ≤ d)
all_ascend n [] h b = (refl, λ d i. none_in d i)
all_ascend n (r ∷ rs) h b =
    let p = and_parts _ _ b in
    let l = leb-true n r.first p.0 in
    let m : r.first ≤ r.last = All-head HasSome r rs h in
    let i = all_ascend (r.last + 1) rs (All-tail HasSome r rs h) p.1 in
    let k = counted_ascends r.first (r.last + 1 - r.first) (all_of (runs_of rs)) i.0 (λ d j. let o = i.1 d j in omega (arith, o, m)) in
    (k.0, λ d j. let o = k.1 d j in omega (arith, o, l))

abbrev has_it : ℕ → CharacterRun → ℕ
has_it d r = cond (is_in_run d (run_of r)) 1 0

all_counts : (d : ℕ) (rs : List CharacterRun) → Contains (all_of (runs_of rs)) d → 0 < sum_by (has_it d) rs
all_counts d [] h = none_in d h
all_counts d (r ∷ rs) h = subst (λ n. 0 < n) (sym (sum_by-cons (has_it d) r rs))
    (step (leb r.first d) (leb d r.last) refl refl (Contains-append_cases (each_of (run_of r)) (all_of (runs_of rs)) d h) (all_counts d rs))
  where
    step : (x y : Bool) → leb r.first d ≡ x → leb d r.last ≡ y → Contains (each_of (run_of r)) d ⊎ Contains (all_of (runs_of rs)) d →
        (Contains (all_of (runs_of rs)) d → 0 < sum_by (has_it d) rs) → 0 < cond (x && y) 1 0 + sum_by (has_it d) rs
    step true true e f i k = omega arith
    step true false e f (inl i) k = let p = (counted_only r.first (r.last + 1 - r.first) d i).1 in let q = leb-false d r.last f in let m = leb-true r.first d e in absurd (omega (arith, p, q, m))
    step true false e f (inr i) k = let m = k i in omega (arith, m)
    step false y e f (inl i) k = let p = (counted_only r.first (r.last + 1 - r.first) d i).0 in let q = leb-false r.first d e in absurd (omega (arith, p, q))
    step false y e f (inr i) k = let m = k i in omega (arith, m)

count_in_all : (d : ℕ) (rs : List CharacterRun) → 0 < sum_by (has_it d) rs → Contains (all_of (runs_of rs)) d
count_in_all d [] h = absurd (omega arith)
count_in_all d (r ∷ rs) h = step (leb r.first d) (leb d r.last) refl refl (subst (λ n. 0 < n) (sum_by-cons (has_it d) r rs) h) (count_in_all d rs)
  where
    behind : Contains (all_of (runs_of rs)) d → Contains (all_of (runs_of (r ∷ rs))) d
    behind i = Contains-append_right (each_of (run_of r)) (all_of (runs_of rs)) d i

    step : (x y : Bool) → leb r.first d ≡ x → leb d r.last ≡ y → 0 < cond (x && y) 1 0 + sum_by (has_it d) rs →
        (0 < sum_by (has_it d) rs → Contains (all_of (runs_of rs)) d) → Contains (all_of (runs_of (r ∷ rs))) d
    step true true e f i k = let p = leb-true r.first d e in let q = leb-true d r.last f in
        Contains-append_left (each_of (run_of r)) (all_of (runs_of rs)) d (counted_has r.first (r.last + 1 - r.first) d p (omega (arith, p, q)))
    step true false e f i k = behind (k (omega (arith, i)))
    step false y e f i k = behind (k (omega (arith, i)))

-- disjoint runs in another order have the same characters in ascending order
pub put_apart : (rs ss : List CharacterRun) → IsPermutation rs ss → All HasSome ss → begin_from 0 (runs_of ss) ≡ true → all_of (runs_of ss) ≡ sorted (all_of (runs_of rs))
put_apart rs ss p h b =
    let up = (all_ascend 0 ss h b).0 in
    let xs = all_of (runs_of rs) in
    let ys = all_of (runs_of ss) in
    let same : (d : ℕ) → sum_by (has_it d) ss ≡ sum_by (has_it d) rs = λ d. sum_by-IsPermutation (has_it d) rs ss p in
    same_ascending ys (sorted xs) up (order_ascends xs)
    (λ d i. order_has xs d (count_in_all d rs (subst (λ n. 0 < n) (same d) (all_counts d ss i))))
    (λ d i. count_in_all d ss (subst (λ n. 0 < n) (sym (same d)) (all_counts d rs (order_only xs d i))))

pub same_in_order : (rs ss : List CharacterRun) → IsPermutation rs ss → All HasSome ss → begin_from 0 (runs_of ss) ≡ true → SameCharacters (runs_of ss) (singles (sorted (all_of (runs_of rs))))
same_in_order rs ss p h b = subst (λ l. SameCharacters (runs_of ss) (singles l)) (put_apart rs ss p h b) (same_listed ss h)

-- ---- how many there are
put_long : (c : ℕ) (ds : List ℕ) → length (put_in c ds) ≤ suc (length ds)
put_long c [] = omega arith
put_long c (d ∷ ds) = step (ltb c d) (c == d) (put_long c ds)
  where
    step : (x y : Bool) → length (put_in c ds) ≤ suc (length ds) → length (cond x (c ∷ d ∷ ds) (cond y (d ∷ ds) (d ∷ put_in c ds))) ≤ suc (suc (length ds))
    step true y h = omega arith
    step false true h = omega arith
    step false false h = omega (arith, h)

sorted_long : (cs : List ℕ) → length (sorted cs) ≤ length cs
sorted_long [] = omega arith
sorted_long (c ∷ cs) = let p = put_long c (sorted cs) in let i = sorted_long cs in omega (arith, p, i)

filter_long : (test : ℕ → Bool) (cs : List ℕ) → length (filter test cs) ≤ length cs
filter_long test [] = omega arith
filter_long test (c ∷ cs) = step (test c) (filter_long test cs)
  where
    step : (x : Bool) → length (filter test cs) ≤ length cs → length (cond x (c ∷ filter test cs) (filter test cs)) ≤ suc (length cs)
    step true h = omega (arith, h)
    step false h = omega (arith, h)

pub few_sorted : (test : ℕ → Bool) (cs : List ℕ) (rs : List Run) → SameCharacters rs (singles (sorted (filter test cs))) → how_many rs ≤ length cs
few_sorted test cs rs k =
    let m = k.many in
    let n = how_many_singles (sorted (filter test cs)) in
    let s = sorted_long (filter test cs) in
    let f = filter_long test cs in
    omega (arith, m, n, s, f)

-- ---- runs in the first positions of an array

-- a character after the last of them
pub end_longer : (rs : List CharacterRun) (n c : ℕ) (d s : CharacterRun) → 0 < n → n ≤ length rs → All HasSome (take n rs) →
    (get_or rs (n - 1) d).last + 1 ≡ c → s.first ≡ (get_or rs (n - 1) d).first → s.last ≡ c → all_of (runs_of (take n (slice_set rs (n - 1) s))) ≡ all_of (runs_of (take n rs)) ++ c ∷ []
end_longer rs n c d s some within h follows f g =
    let m : ℕ = n - 1 in
    let e : m + 1 ≡ n = omega arith in
    let inside : m < length rs = omega arith in
    let below : m < n = omega arith in
    let r : CharacterRun = get_or rs m d in
    let x : take n (slice_set rs m s) ≡ take m rs ++ s ∷ [] = ap (λ k. take k (slice_set rs m s)) (sym e) ∙ take_more_set rs m s inside in
    let y : take n rs ≡ take m rs ++ r ∷ [] = ap (λ k. take k rs) (sym e) ∙ take_more rs m d inside in
    let long = length-take-le n rs within in
    let has : HasSome r = subst HasSome (get_or-take n rs m d below) (All-get_or HasSome (take n rs) m d (omega (arith, long, below)) h) in
    ap (λ l. all_of (runs_of l)) x ∙ one_longer (take m rs) r s c follows has f g ∙ ap (λ l. all_of (runs_of l) ++ c ∷ []) (sym y)

-- a run of one character after them
pub end_single : (rs : List CharacterRun) (n c : ℕ) (s : CharacterRun) → n < length rs → s.first ≡ c → s.last ≡ c →
    all_of (runs_of (take (n + 1) (slice_set rs n s))) ≡ all_of (runs_of (take n rs)) ++ c ∷ []
end_single rs n c s h f g = ap (λ l. all_of (runs_of l)) (take_more_set rs n s h) ∙ one_single (take n rs) s c f g

pub more_few : (rs : List CharacterRun) (n : ℕ) (s : CharacterRun) → n < 8 → HasSome s → AreFew rs n → AreFew (slice_set rs n s) (n + 1)
more_few rs n s h p a =
    let within : n < length rs = omega (arith, h, a.eight) in
    record {
      within = omega (arith, h);
      eight = length-set rs n s ∙ a.eight;
      some = subst (All HasSome) (sym (take_more_set rs n s within)) (All-push HasSome (take n rs) s a.some p);
    }

-- the first of them in another order
pub front_kept : (rs ns : List CharacterRun) (n : ℕ) → n ≤ length rs → IsPermutation (take n rs) ns → take n (ns ++ drop n rs) ≡ ns
front_kept rs ns n h p = take_at ns (drop n rs) n (length_permutation (take n rs) ns p ∙ length-take-le n rs h)

pub front_few : (rs ns : List CharacterRun) (n : ℕ) → AreFew rs n → IsPermutation (take n rs) ns → AreFew (ns ++ drop n rs) n
front_few rs ns n h p =
    let within : n ≤ length rs = omega (arith, h.within, h.eight) in
    let behind = length-drop n rs in
    let long = length-append ns (drop n rs) in
    let all : length ns ≡ n = length_permutation (take n rs) ns p ∙ length-take-le n rs within in
    record {
      within = h.within;
      eight = omega (arith, long, all, behind, h.within, h.eight);
      some = subst (All HasSome) (sym (front_kept rs ns n within p)) (All-permutation HasSome (take n rs) ns p h.some);
    }
