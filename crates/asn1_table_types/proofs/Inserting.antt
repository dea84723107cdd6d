-- A new tag, inserted into an ascending table of tags.
use Rattle.std.proofs.Common.{◌≡◌, ◌∙◌, refl, sym, ap, ℕ, zero, suc, ◌+◌, ◌≤◌, ◌<◌, List, [], ◌∷◌, ◌++◌, Bool, true, false, not, cond, ◌&&◌, Some, None, length, map, get_or, slice_get, arith}
use Rattle.std.proofs.Common.{length-append, eq-eqb, take, drop, append_assoc, subst}
use Rattle.std.proofs.Math.Seq.{take-suc}
use Rattle.std.proofs.lemmas.List.{map-append}
use Rattle.asn1_schema_tags.specs.declared.tags.Tag.{Tag}
use Rattle.std.specs.List.{insert, list_all, position_from}
use Rattle.std.specs.List.Sorted.{IsPartitionedBy}
use Rattle.std.proofs.lemmas.Bool.{and_from}
use Rattle.std.proofs.lemmas.Bool.Decides.{nat_tests}
use Rattle.std.proofs.lemmas.List.Folds.{list_all-append}
use Rattle.std.proofs.lemmas.List.Edits.{length-insert}
use Rattle.std.proofs.lemmas.Option.{slice_get-get_or}
use Rattle.asn1_model.specs.Schema.{Tag as ModelTag}
use Rattle.asn1_model.specs.Lawful.{are_distinct, tag_less, tag_same}
use Rattle.asn1_schema_tags.specs.Tags.{tag_of}
use Rattle.asn1_schema_tags.specs.Trees.{place_of}
use Rattle.asn1_schema_tags.specs.Places.{ascends, looked_up, stands_at, is_tag_there, is_place_there, are_listed}
use Rattle.asn1_schema_tags.specs.declared.probes.TagPlace.{TagPlace}
use Rattle.asn1_schema_tags.proofs.Halves.{left, right, before_more}
use Rattle.asn1_schema_tags.proofs.PlainLookUp.{same_as_search}
use Rattle.asn1_schema_tags.proofs.TableSteps.{listed_in_turn}
use Rattle.asn1_table_types.specs.Choices.{Lists}

-- ---- tags

same_itself : (t : ModelTag) → tag_same t t ≡ true
same_itself t = grind (arith, nat_tests)

same_flips : (t u : ModelTag) → tag_same t u ≡ false → tag_same u t ≡ false
same_flips t u e = grind (arith, nat_tests)

-- of two tags that differ, one is less
greater : (t u : ModelTag) → tag_same u t ≡ false → tag_less t u ≡ false → tag_less u t ≡ true
greater t u e f = grind (arith, nat_tests)

untrue : {b : Bool} → not b ≡ true → b ≡ false
untrue {b = true} e = cc
untrue {b = false} e = refl

-- ---- the table with an entry more

-- a tag that is not found differs from the first one, and is not found after it
other_first : (q : TagPlace) (qs : List TagPlace) (t : ModelTag) → looked_up (q ∷ qs) t ≡ None → (tag_same t (tag_of q.tag) ≡ false) × (looked_up qs t ≡ None)
other_first q qs t e = go (tag_same t (tag_of q.tag)) refl e where
  go : (b : Bool) → tag_same t (tag_of q.tag) ≡ b → cond b (Some q.place) (looked_up qs t) ≡ None → (tag_same t (tag_of q.tag) ≡ false) × (looked_up qs t ≡ None)
  go true is h = cc
  go false is h = (is, h)

module _ (p : TagPlace) where
  -- the other tags are found as before
  others_found : (qs : List TagPlace) (k : ℕ) (u : ModelTag) → tag_same u (tag_of p.tag) ≡ false → looked_up (insert qs k p) u ≡ looked_up qs u
  others_found [] zero u e = ap (λ b. cond b (Some p.place) None) e
  others_found [] (suc k) u e = ap (λ b. cond b (Some p.place) None) e
  others_found (q ∷ qs) zero u e = ap (λ b. cond b (Some p.place) (looked_up (q ∷ qs) u)) e
  others_found (q ∷ qs) (suc k) u e = ap (λ o. cond (tag_same u (tag_of q.tag)) (Some q.place) o) (others_found qs k u e)

  -- and so are the listed ones
  others_listed : (qs : List TagPlace) (k n : ℕ) (us : List ModelTag) → position_from (tag_same (tag_of p.tag)) n us ≡ None → are_listed qs n us ≡ true → are_listed (insert qs k p) n us ≡ true
  others_listed qs k n [] e h = refl
  others_listed qs k n (u ∷ us) e h = go (tag_same (tag_of p.tag) u) refl e (λ f g. others_listed qs k (n + 1) us f g) where
    go : (b : Bool) → tag_same (tag_of p.tag) u ≡ b → cond b (Some n) (position_from (tag_same (tag_of p.tag)) (n + 1) us) ≡ None
        → (position_from (tag_same (tag_of p.tag)) (n + 1) us ≡ None → are_listed qs (n + 1) us ≡ true → are_listed (insert qs k p) (n + 1) us ≡ true)
        → are_listed (insert qs k p) n (u ∷ us) ≡ true
    go true is f r = cc
    go false is f r =
        and_from _ _
        (ap (λ o. is_place_there o n) (others_found qs k u (same_flips (tag_of p.tag) u is)) ∙ left (is_place_there (looked_up qs u) n) (are_listed qs (n + 1) us) h)
        (r f (right (is_place_there (looked_up qs u) n) (are_listed qs (n + 1) us) h))

  -- the new one is found
  itself_found : (qs : List TagPlace) (k : ℕ) → looked_up qs (tag_of p.tag) ≡ None → looked_up (insert qs k p) (tag_of p.tag) ≡ Some p.place
  itself_found [] zero e = ap (λ b. cond b (Some p.place) None) (same_itself (tag_of p.tag))
  itself_found [] (suc k) e = ap (λ b. cond b (Some p.place) None) (same_itself (tag_of p.tag))
  itself_found (q ∷ qs) zero e = ap (λ b. cond b (Some p.place) (looked_up (q ∷ qs) (tag_of p.tag))) (same_itself (tag_of p.tag))
  itself_found (q ∷ qs) (suc k) e =
      let o = other_first q qs (tag_of p.tag) e in
      ap (λ b. cond b (Some q.place) (looked_up (insert qs k p) (tag_of p.tag))) o.0 ∙ itself_found qs k o.1

  -- what each entry passes, and the new one
  all_pass : (test : TagPlace → Bool) (qs : List TagPlace) (k : ℕ) → test p ≡ true → list_all test qs ≡ true → list_all test (insert qs k p) ≡ true
  all_pass test [] zero e h = and_from _ _ e refl
  all_pass test [] (suc k) e h = and_from _ _ e refl
  all_pass test (q ∷ qs) zero e h = and_from _ _ e h
  all_pass test (q ∷ qs) (suc k) e h =
      and_from _ _ (left (test q) (list_all test qs) h) (all_pass test qs k e (right (test q) (list_all test qs) h))

  -- the tags before an index are less than the new one, and those from it on are not
  Before : List TagPlace → ℕ → Type 0
  Before qs k = (j : ℕ) (d : TagPlace) → 0 ≤ j → j < k → tag_less (tag_of (get_or qs j d).tag) (tag_of p.tag) ≡ true

  After : List TagPlace → ℕ → Type 0
  After qs k = (j : ℕ) (d : TagPlace) → k ≤ j → j < length qs → tag_less (tag_of (get_or qs j d).tag) (tag_of p.tag) ≡ false

  still_ascends : (qs : List TagPlace) (k : ℕ) → looked_up qs (tag_of p.tag) ≡ None → Before qs k → After qs k → k ≤ length qs → ascends qs ≡ true → ascends (insert qs k p) ≡ true
  unfolding Before After
  still_ascends [] zero e b a l h = refl
  still_ascends [] (suc k) e b a l h = refl
  still_ascends (q ∷ qs) zero e b a l h = and_from _ _ (greater (tag_of q.tag) (tag_of p.tag) (other_first q qs (tag_of p.tag) e).0 (a 0 q (omega arith) (omega arith))) h
  still_ascends (q ∷ []) (suc zero) e b a l h = and_from _ _ (b 0 q (omega arith) (omega arith)) refl
  still_ascends (q ∷ []) (suc (suc k)) e b a l h = absurd (omega (arith, l))
  still_ascends (q ∷ r ∷ rs) (suc zero) e b a l h =
      and_from _ _ (b 0 q (omega arith) (omega arith))
      (still_ascends (r ∷ rs) zero (other_first q (r ∷ rs) (tag_of p.tag) e).1 (λ j d m n. absurd (omega (arith, n)))
      (λ j d m n. a (suc j) d (omega arith) (omega (arith, n))) (omega arith) (right (tag_less (tag_of q.tag) (tag_of r.tag)) (ascends (r ∷ rs)) h))
  still_ascends (q ∷ r ∷ rs) (suc (suc k)) e b a l h =
      and_from _ _ (left (tag_less (tag_of q.tag) (tag_of r.tag)) (ascends (r ∷ rs)) h)
      (still_ascends (r ∷ rs) (suc k) (other_first q (r ∷ rs) (tag_of p.tag) e).1 (λ j d m n. b (suc j) d (omega arith) (omega (arith, n)))
      (λ j d m n. a (suc j) d (omega (arith, m)) (omega (arith, n))) (omega (arith, l)) (right (tag_less (tag_of q.tag) (tag_of r.tag)) (ascends (r ∷ rs)) h))

-- ---- the tags with one more

-- what stands at an index stands there before further tags
there_before : (ts us : List ModelTag) (i : ℕ) (t : ModelTag) → is_tag_there (slice_get ts i) t ≡ true → is_tag_there (slice_get (ts ++ us) i) t ≡ true
there_before [] us i t e = cc
there_before (v ∷ ts) us zero t e = e
there_before (v ∷ ts) us (suc i) t e = there_before ts us i t e

stand_before : (ts us : List ModelTag) (qs : List TagPlace) → list_all (stands_at ts) qs ≡ true → list_all (stands_at (ts ++ us)) qs ≡ true
stand_before ts us [] e = refl
stand_before ts us (q ∷ qs) e =
    and_from _ _ (there_before ts us q.place (tag_of q.tag) (left (stands_at ts q) (list_all (stands_at ts) qs) e))
    (stand_before ts us qs (right (stands_at ts q) (list_all (stands_at ts) qs) e))

last_there : (ts : List ModelTag) (t : ModelTag) → is_tag_there (slice_get (ts ++ t ∷ []) (length ts)) t ≡ true
last_there [] t = same_itself t
last_there (v ∷ ts) t = last_there ts t

-- one of some tags passes what all of them pass
passes_within : (test : ModelTag → Bool) (ts : List ModelTag) (t : ModelTag) (us : List ModelTag) → list_all test (ts ++ t ∷ us) ≡ true → test t ≡ true
passes_within test [] t us h = left (test t) (list_all test us) h
passes_within test (v ∷ ts) t us h = passes_within test ts t us (right (test v) (list_all test (ts ++ t ∷ us)) h)

-- a tag that occurs once is not found before
absent_from : (n : ℕ) (ts : List ModelTag) (t : ModelTag) (us : List ModelTag) → are_distinct tag_same (ts ++ t ∷ us) ≡ true → position_from (tag_same t) n ts ≡ None
absent_from n [] t us e = refl
absent_from n (v ∷ ts) t us e =
    let differs : tag_same v t ≡ false = untrue (passes_within (λ y. not (tag_same v y)) ts t us (left (list_all (λ y. not (tag_same v y)) (ts ++ t ∷ us)) (are_distinct tag_same (ts ++ t ∷ us)) e)) in
    ap (λ b. cond b (Some n) (position_from (tag_same t) (n + 1) ts)) (same_flips v t differs)
    ∙ absent_from (n + 1) ts t us (right (list_all (λ y. not (tag_same v y)) (ts ++ t ∷ us)) (are_distinct tag_same (ts ++ t ∷ us)) e)

pub absent_before : (ts : List ModelTag) (t : ModelTag) (us : List ModelTag) → are_distinct tag_same (ts ++ t ∷ us) ≡ true → place_of ts t ≡ None
absent_before ts t us e = absent_from 0 ts t us e

-- ---- together

pub one_more : (qs : List TagPlace) (ts : List ModelTag) (k : ℕ) (p : TagPlace) → Lists qs ts → place_of ts (tag_of p.tag) ≡ None → p.place ≡ length qs → k ≤ length qs
    → ((j : ℕ) (d : TagPlace) → 0 ≤ j → j < k → tag_less (tag_of (get_or qs j d).tag) (tag_of p.tag) ≡ true)
    → ((j : ℕ) (d : TagPlace) → k ≤ j → j < length qs → tag_less (tag_of (get_or qs j d).tag) (tag_of p.tag) ≡ false)
    → Lists (insert qs k p) (ts ++ tag_of p.tag ∷ [])
unfolding Before After
one_more qs ts k p l e n h b a =
    let t : ModelTag = tag_of p.tag in
    let new : looked_up qs t ≡ None = same_as_search qs t ts l.0 ∙ e in
    let both : (ascends qs && list_all (stands_at ts) qs) ≡ true = left (ascends qs && list_all (stands_at ts) qs) (are_listed qs 0 ts) l.0 in
    let listed : are_listed qs 0 ts ≡ true = right (ascends qs && list_all (stands_at ts) qs) (are_listed qs 0 ts) l.0 in
    let up : ascends (insert qs k p) ≡ true = still_ascends p qs k new b a h (left (ascends qs) (list_all (stands_at ts) qs) both) in
    let here : stands_at (ts ++ t ∷ []) p ≡ true = ap (λ i. is_tag_there (slice_get (ts ++ t ∷ []) i) t) (n ∙ l.1) ∙ last_there ts t in
    let stand : list_all (stands_at (ts ++ t ∷ [])) (insert qs k p) ≡ true = all_pass p (stands_at (ts ++ t ∷ [])) qs k here
    (stand_before ts (t ∷ []) qs (right (ascends qs) (list_all (stands_at ts) qs) both)) in
    let index : p.place ≡ 0 + length ts = omega (arith, n, l.1) in
    let found : is_place_there (looked_up (insert qs k p) t) (0 + length ts) ≡ true = ap (λ o. is_place_there o (0 + length ts)) (itself_found p qs k new ∙ ap Some index) ∙ eq-eqb (0 + length ts)
    (0 + length ts) refl in
    let all : are_listed (insert qs k p) 0 (ts ++ t ∷ []) ≡ true = listed_in_turn (insert qs k p) 0 ts (t ∷ []) ∙ and_from _ _ (others_listed p qs k 0 ts e listed) (and_from _ _ found refl) in
    (and_from _ _ (and_from _ _ up stand) all, length-insert qs k p h ∙ let s : length qs + 1 ≡ length (ts ++ t ∷ []) = omega (arith, l.1, length-append ts (t ∷ [])) in s)

-- a search for the place of a tag: the entries that are less come first
pub parted : (qs : List TagPlace) (t : ModelTag) → ascends qs ≡ true → IsPartitionedBy (λ q. tag_less (tag_of q.tag) t) qs
parted qs t e i j d l m h =
    let there : slice_get qs j ≡ Some (get_or qs j d) = slice_get-get_or qs j d m in
    let within : i < length qs = omega (arith, l, m) in
    before_more qs t j (get_or qs j d) e there h i (get_or qs i d) (slice_get-get_or qs i d within) (omega (arith, l))

pub ascends_of : (qs : List TagPlace) (ts : List ModelTag) → Lists qs ts → ascends qs ≡ true
ascends_of qs ts l =
    left (ascends qs) (list_all (stands_at ts) qs) (left (ascends qs && list_all (stands_at ts) qs) (are_listed qs 0 ts) l.0)

-- tags in three parts: those before an index, the one there, and those after it
in_parts : (xs : List Tag) (i : ℕ) (d : Tag) → i < length xs → map tag_of xs ≡ map tag_of (take i xs) ++ tag_of (get_or xs i d) ∷ map tag_of (drop (suc i) xs)
in_parts [] i d h = absurd (omega (arith, h))
in_parts (x ∷ xs) zero d h = refl
in_parts (x ∷ xs) (suc i) d h = ap (λ ts. tag_of x ∷ ts) (in_parts xs i d (omega (arith, h)))

one_longer : (xs : List Tag) (i : ℕ) (d : Tag) → i < length xs → map tag_of (take (i + 1) xs) ≡ map tag_of (take i xs) ++ tag_of (get_or xs i d) ∷ []
one_longer xs i d h =
    let s : i + 1 ≡ suc i = omega arith in
    ap (λ k. map tag_of (take k xs)) s ∙ ap (map tag_of) (take-suc xs i d h) ∙ map-append tag_of (take i xs) (get_or xs i d ∷ [])

-- the step of a loop over tags that are inserted one after another
pub inserted_at : (ps qs : List TagPlace) (ts : List ModelTag) (xs : List Tag) (i : ℕ) (d : Tag) → i < length xs → are_distinct tag_same (ts ++ map tag_of xs) ≡ true
    → Lists ps (ts ++ map tag_of (take i xs))
    → ((us : List ModelTag) → Lists ps us → place_of us (tag_of (get_or xs i d)) ≡ None → Lists qs (us ++ tag_of (get_or xs i d) ∷ []))
    → Lists qs (ts ++ map tag_of (take (i + 1) xs))
inserted_at ps qs ts xs i d h e l more =
    let x : ModelTag = tag_of (get_or xs i d) in
    let front : List ModelTag = ts ++ map tag_of (take i xs) in
    let back : List ModelTag = map tag_of (drop (suc i) xs) in
    let parts : ts ++ map tag_of xs ≡ front ++ x ∷ back = ap (λ us. ts ++ us) (in_parts xs i d h) ∙ sym (append_assoc ts (map tag_of (take i xs)) (x ∷ back)) in
    let new : place_of front x ≡ None = absent_before front x back (sym (ap (λ us. are_distinct tag_same us) parts) ∙ e) in
    let longer : front ++ x ∷ [] ≡ ts ++ map tag_of (take (i + 1) xs) = append_assoc ts (map tag_of (take i xs)) (x ∷ []) ∙ sym (ap (λ us. ts ++ us) (one_longer xs i d h)) in
    subst (λ (us : List ModelTag). Lists qs us) longer (more front l new)

pub none_listed : (ps : List TagPlace) → ps ≡ [] → Lists ps []
none_listed ps e = subst (λ (qs : List TagPlace). Lists qs []) (sym e) (refl, refl)

-- the first of some distinct tags are distinct
pub first_part : (ts us : List ModelTag) → are_distinct tag_same (ts ++ us) ≡ true → are_distinct tag_same ts ≡ true
first_part [] us e = refl
first_part (t ∷ ts) us e =
    let test : ModelTag → Bool = λ y. not (tag_same t y) in
    and_from _ _ (left (list_all test ts) (list_all test us) (sym (list_all-append test ts us) ∙ left (list_all test (ts ++ us)) (are_distinct tag_same (ts ++ us)) e))
    (first_part ts us (right (list_all test (ts ++ us)) (are_distinct tag_same (ts ++ us)) e))
