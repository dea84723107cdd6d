-- SET OF values by the number of their elements that pass each test.
use Rattle.std.proofs.Common.{◌≡◌, ℕ, ◌+◌, ◌<◌, ◌≤◌, Bool, true, false, cond, Option, Some, None, option_map, refl, ap, sym, subst, arith}
use Rattle.asn1_model.specs.Value.{Value, Values, no_more, member, same, same_bag, taken_out, depth, depth_of_members}
use Rattle.asn1_model.proofs.Forms.{map_parts}
use Rattle.std.specs.Option.{option_map_or}

-- one if it passes
abbrev pub one_if : Bool → ℕ
one_if b = cond b 1 0

abbrev pub count : (Value → Bool) → Values → ℕ
count f no_more = 0
count f (member v vs) = one_if (f v) + count f vs

-- what is taken out of a SET OF
pub record Taken (f : Value → Bool) (ws rest : Values) : Type 0 where
  pub taken : Value
  pub passes : f taken ≡ true
  pub counts : (g : Value → Bool) → count g ws ≡ one_if (g taken) + count g rest
  pub shallow : depth taken ≤ depth_of_members ws
  pub others_shallow : depth_of_members rest ≤ depth_of_members ws

taken_later : (f : Value → Bool) (w : Value) (ws rest : Values) → Taken f ws rest → Taken f (member w ws) (member w rest)
unfolding depth depth_of_members
taken_later f w ws rest t = record {
  taken = t.taken;
  passes = t.passes;
  counts = λ g. let c = t.counts g in omega arith;
  shallow = let s = t.shallow in omega arith;
  others_shallow = let s = t.others_shallow in omega arith;
}

taken_first : (f : Value → Bool) (w : Value) (ws : Values) → f w ≡ true → Taken f (member w ws) ws
unfolding depth depth_of_members
taken_first f w ws e = record {
  taken = w;
  passes = e;
  counts = λ g. refl;
  shallow = omega arith;
  others_shallow = omega arith;
}

some_same : {X : Type 0} {x y : X} → Some x ≡ Some y → x ≡ y
some_same e = cc

pub taken_parts : (f : Value → Bool) (ws rest : Values) → taken_out f ws ≡ Some rest → Taken f ws rest
taken_parts f no_more rest e = cc
taken_parts f (member w ws) rest e = go (f w) refl e (λ us h. taken_parts f ws us h)
  where
    go : (t : Bool) → f w ≡ t → cond t (Some ws) (option_map (λ us. member w us) (taken_out f ws)) ≡ Some rest → ((us : Values) → taken_out f ws ≡ Some us → Taken f ws us) → Taken f (member w ws) rest
    go true q h i = subst (λ us. Taken f (member w ws) us) (some_same h) (taken_first f w ws q)
    go false q h i =
        let p = map_parts (taken_out f ws) (λ us. member w us) rest h in
        subst (λ us. Taken f (member w ws) us) p.2 (taken_later f w ws p.0 (i p.0 p.1))

-- if one passes, one is taken out
pub taken_there : (f : Value → Bool) (ws : Values) → 0 < count f ws → (rest : Values) × (taken_out f ws ≡ Some rest)
taken_there f no_more h = absurd (omega arith)
taken_there f (member w ws) h = go (f w) h (λ k. taken_there f ws k)
  where
    go : (t : Bool) → 0 < one_if t + count f ws → (0 < count f ws → (rest : Values) × (taken_out f ws ≡ Some rest)) →
        (rest : Values) × (cond t (Some ws) (option_map (λ us. member w us) (taken_out f ws)) ≡ Some rest)
    go true k j = (ws, refl)
    go false k j = let i = j (omega arith) in (member w i.0, ap (λ o. option_map (λ us. member w us) o) i.1)

-- equality is an equivalence below a depth
pub record EquivalentBelow (n : ℕ) : Type 0 where
  pub turned : (v w : Value) → depth v < n → depth w < n → same v w ≡ true → same w v ≡ true
  pub chained : (u v w : Value) → depth u < n → depth v < n → depth w < n → same u v ≡ true → same v w ≡ true → same u w ≡ true

pub both_true : (a b : Bool) → (a ≡ true → b ≡ true) → (b ≡ true → a ≡ true) → a ≡ b
both_true true b h k = sym (h refl)
both_true false true h k = k refl
both_true false false h k = refl

-- equal values pass the same tests of equality
pub tests_alike : {n : ℕ} (q : EquivalentBelow n) (t v w : Value) → depth t < n → depth v < n → depth w < n → same v w ≡ true → same t v ≡ same t w
tests_alike q t v w h i j e = both_true (same t v) (same t w) (λ f. q.chained t v w h i j f e) (λ f. q.chained t w v h j i f (q.turned v w i j e))

pub rest_parts : (o : Option Values) (f : Values → Bool) → option_map_or f o false ≡ true → (vs : Values) × (o ≡ Some vs) × (f vs ≡ true)
rest_parts None f e = cc
rest_parts (Some vs) f e = (vs, refl, e)

module _ (n : ℕ) (q : EquivalentBelow n) (every : (v : Value) → same v v ≡ true) where
  pub counts_alike : (vs ws : Values) → depth_of_members vs < n → depth_of_members ws < n → same_bag vs ws ≡ true → (t : Value) → depth t < n → count (λ x. same t x) vs ≡ count (λ x. same t x) ws
  unfolding same_bag depth_of_members
  counts_alike no_more no_more h i e t j = refl
  counts_alike no_more (member w ws) h i e t j = cc
  counts_alike (member v vs) ws h i e t j =
      let p = rest_parts (taken_out (λ w. same v w) ws) (λ rest. same_bag vs rest) e in
      let k = taken_parts (λ w. same v w) ws p.0 p.1 in
      let s = k.shallow in
      let o = k.others_shallow in
      let r = counts_alike vs p.0 (omega arith) (omega arith) p.2 t j in
      let a : same t v ≡ same t k.taken = tests_alike q t v k.taken j (omega arith) (omega arith) k.passes in
      let c = k.counts (λ x. same t x) in
      let b : one_if (same t v) ≡ one_if (same t k.taken) = ap one_if a in
      omega arith

  pub alike_counted : (vs ws : Values) → depth_of_members vs < n → depth_of_members ws < n → ((t : Value) → depth t < n → count (λ x. same t x) vs ≡ count (λ x. same t x) ws) → same_bag vs ws ≡ true
  unfolding same_bag depth_of_members
  alike_counted no_more no_more h i c = refl
  alike_counted no_more (member w ws) h i c =
      let e : one_if (same w w) ≡ 1 = ap one_if (every w) in
      let f = c w (omega arith) in
      absurd (omega arith)
  alike_counted (member v vs) ws h i c =
      let e : one_if (same v v) ≡ 1 = ap one_if (every v) in
      let f = c v (omega arith) in
      let t = taken_there (λ w. same v w) ws (omega arith) in
      let k = taken_parts (λ w. same v w) ws t.0 t.1 in
      let s = k.shallow in
      let o = k.others_shallow in
      let rest : (t' : Value) → depth t' < n → count (λ x. same t' x) vs ≡ count (λ x. same t' x) t.0 = λ u j.
      let a : same u v ≡ same u k.taken = tests_alike q u v k.taken j (omega arith) (omega arith) k.passes in
      let b : one_if (same u v) ≡ one_if (same u k.taken) = ap one_if a in
      let d = k.counts (λ x. same u x) in
      let g = c u j in
      omega arith in
      let r = alike_counted vs t.0 (omega arith) (omega arith) rest in
      let g = t.1 in
      rw g r
