-- SET OF values whose elements are equal in some order.
use Rattle.std.proofs.Common.{◌≡◌, ℕ, zero, suc, ◌+◌, max, Bool, true, false, cond, List, [], ◌∷◌, Some, option_map, refl, ap, sym, ◌∙◌, arith}
use Rattle.asn1_model.specs.Value.{Value, bag, Values, no_more, member, values_of, same, same_bag, taken_out, depth, depth_of_members}
use Rattle.asn1_model.specs.Form.{pick, arranged}
use Rattle.asn1_model.proofs.Forms.{map_parts}
use Rattle.asn1_laws_values.proofs.Arranged.{arranged_parts}
use Rattle.asn1_laws_values.proofs.Listed.{listed}
use Rattle.asn1_laws_values.proofs.Counts.{one_if, count, alike_counted, tests_alike, rest_parts}
use Rattle.asn1_laws_values.proofs.Same.{same_self, below}

-- in pairs
abbrev pub EachSame : List Value → List Value → Type 0
EachSame [] [] = Unit {0}
EachSame (v ∷ vs) (w ∷ ws) = (same v w ≡ true) × EachSame vs ws
EachSame vs ws = ⊥

some_same : {X : Type 0} {x y : X} → Some x ≡ Some y → x ≡ y
some_same e = cc

pick_counts : (g : Value → Bool) (i : ℕ) (vs rest : List Value) (v : Value) → pick i vs ≡ Some (v, rest) → count g (values_of vs) ≡ one_if (g v) + count g (values_of rest)
pick_counts g i [] rest v e = cc
pick_counts g zero (x ∷ vs) rest v e =
    let p : Value × List Value = (x, vs) in
    let q : Value × List Value = (v, rest) in
    let f : p ≡ q = some_same e in
    ap (λ (r : Value × List Value). one_if (g r.0) + count g (values_of r.1)) f
pick_counts g (suc i) (x ∷ vs) rest v e =
    let q = map_parts (pick i vs) (λ (p : Value × List Value). (p.0, x ∷ p.1)) (v, rest) e in
    let a : q.0.0 ≡ v = ap (λ (p : Value × List Value). p.0) q.2 in
    let b : x ∷ q.0.1 ≡ rest = ap (λ (p : Value × List Value). p.1) q.2 in
    let r = pick_counts g i vs q.0.1 q.0.0 q.1 in
    let c : one_if (g q.0.0) ≡ one_if (g v) = ap (λ y. one_if (g y)) a in
    let d : one_if (g x) + count g (values_of q.0.1) ≡ count g (values_of rest) = ap (λ l. count g (values_of l)) b in
    omega arith

pub arranged_counts : (g : Value → Bool) (is : List ℕ) (vs ws : List Value) → arranged is vs ≡ Some ws → count g (values_of vs) ≡ count g (values_of ws)
arranged_counts g [] [] ws e = let h : [] ≡ ws = cc in ap (λ l. count g (values_of l)) h
arranged_counts g [] (v ∷ vs) ws e = cc
arranged_counts g (i ∷ is) vs ws e =
    let q = arranged_parts i is vs ws e in
    let a = pick_counts g i vs q.1 q.0 q.3 in
    let b = arranged_counts g is q.1 q.2 q.4 in
    let c : one_if (g q.0) + count g (values_of q.2) ≡ count g (values_of ws) = ap (λ l. count g (values_of l)) q.5 in
    omega arith

paired_counts : (t : Value) (vs ws : List Value) → EachSame vs ws → count (λ x. same t x) (values_of vs) ≡ count (λ x. same t x) (values_of ws)
paired_counts t [] [] h = refl
paired_counts t [] (w ∷ ws) h = absurd h
paired_counts t (v ∷ vs) [] h = absurd h
paired_counts t (v ∷ vs) (w ∷ ws) h =
    let q = below (max (depth t) (max (depth v) (depth w)) + 1) in
    let a : same t v ≡ same t w = tests_alike q t v w (omega arith) (omega arith) (omega arith) h.0 in
    let b : one_if (same t v) ≡ one_if (same t w) = ap one_if a in
    let c = paired_counts t vs ws h.1 in
    omega arith

pub counted_same : (vs ws : Values) → ((t : Value) → count (λ x. same t x) vs ≡ count (λ x. same t x) ws) → same_bag vs ws ≡ true
counted_same vs ws h = let n = max (depth_of_members vs) (depth_of_members ws) + 1 in alike_counted n (below n) same_self vs ws (omega arith) (omega arith) (λ t k. h t)

-- equality in pairs, in some order of both
pub bags_same : (is js : List ℕ) (vs ws us zs : List Value) → arranged is vs ≡ Some us → arranged js ws ≡ Some zs → EachSame us zs → same (bag (values_of vs)) (bag (values_of ws)) ≡ true
unfolding same
bags_same is js vs ws us zs e f h = counted_same (values_of vs) (values_of ws) (λ t. arranged_counts (λ x. same t x) is vs us e
    ∙ paired_counts t us zs h ∙ sym (arranged_counts (λ x. same t x) js ws zs f))

pub arranged_same : (is : List ℕ) (vs ws : List Value) → arranged is vs ≡ Some ws → same (bag (values_of vs)) (bag (values_of ws)) ≡ true
unfolding same
arranged_same is vs ws e = counted_same (values_of vs) (values_of ws) (λ t. arranged_counts (λ x. same t x) is vs ws e)

-- and equal SET OF values are so in some order
taken_pick : (f : Value → Bool) (ws rest : Values) → taken_out f ws ≡ Some rest → (i : ℕ) × (u : Value) × (f u ≡ true) × (pick i (listed ws) ≡ Some (u, listed rest))
taken_pick f no_more rest e = cc
taken_pick f (member w ws) rest e = go (f w) refl e (λ us h. taken_pick f ws us h)
  where
    go : (t : Bool) → f w ≡ t → cond t (Some ws) (option_map (λ us. member w us) (taken_out f ws)) ≡ Some rest →
        ((us : Values) → taken_out f ws ≡ Some us →
        (i : ℕ) × (u : Value) × (f u ≡ true) × (pick i (listed ws) ≡ Some (u, listed us))) → (i : ℕ) × (u : Value) × (f u ≡ true) × (pick i (w ∷ listed ws) ≡ Some (u, listed rest))
    go true q h k = (zero, w, q, ap (λ us. Some (w, listed us)) (some_same h))
    go false q h k =
        let p = map_parts (taken_out f ws) (λ us. member w us) rest h in
        let r = k p.0 p.1 in
        (suc r.0, r.1, r.2, ap (λ o. option_map (λ (e : Value × List Value). (e.0, w ∷ e.1)) o) r.3 ∙ ap (λ us. Some (r.1, listed us)) p.2)

arranged_next : (i : ℕ) (is : List ℕ) (ws rest us : List Value) (u : Value) → pick i ws ≡ Some (u, rest) → arranged is rest ≡ Some us → arranged (i ∷ is) ws ≡ Some (u ∷ us)
arranged_next i is ws rest us u e f = rw (e, f) refl

pub bag_matched : (vs ws : Values) → same_bag vs ws ≡ true → (is : List ℕ) × (us : List Value) × (arranged is (listed ws) ≡ Some us) × EachSame (listed vs) us
unfolding same_bag
bag_matched no_more no_more e = ([], [], refl, tt)
bag_matched no_more (member w ws) e = cc
bag_matched (member v vs) ws e =
    let p = rest_parts (taken_out (λ w. same v w) ws) (λ rest. same_bag vs rest) e in
    let q = taken_pick (λ w. same v w) ws p.0 p.1 in
    let r = bag_matched vs p.0 p.2 in
    (q.0 ∷ r.0, q.1 ∷ r.1, arranged_next q.0 r.0 (listed ws) (listed p.0) r.1 q.1 q.3 r.2, (q.2, r.3))

pub matched_same : (is : List ℕ) (vs ws us : List Value) → arranged is ws ≡ Some us → EachSame vs us → same (bag (values_of vs)) (bag (values_of ws)) ≡ true
unfolding same
matched_same is vs ws us e h = counted_same (values_of vs) (values_of ws) (λ t. paired_counts t vs us h ∙ sym (arranged_counts (λ x. same t x) is ws us e))
