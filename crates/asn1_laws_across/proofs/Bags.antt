-- The keys of elements in another order.
use Rattle.std.proofs.Common.{◌≡◌, ℕ, zero, suc, Bool, List, [], ◌∷◌, Option, Some, option_map, refl, ap, sym, ◌∙◌, subst}
use Rattle.asn1_model.specs.Form.{pick, arranged}
use Rattle.asn1_model.proofs.Forms.{map_parts}
use Rattle.asn1_laws_values.proofs.Arranged.{arranged_parts}
use Rattle.asn1_laws_across.specs.OrderLaws.{IsTotalOrder}
use Rattle.asn1_laws_across.proofs.Orders as ordering

module _ (A : Type 0) (less : A → A → Bool) (o : IsTotalOrder less) (X : Type 0) (key : X → Option A) where
  abbrev Keys : List X → List A → Type 0
  Keys xs ks = ordering.HaveKeys A less o X key xs ks

  some_same : {Y : Type 0} {x y : Y} → Some x ≡ Some y → x ≡ y
  some_same e = cc

  picked_keys : (i : ℕ) (xs rest : List X) (x : X) (k : A) (ks : List A) → pick i xs ≡ Some (x, rest) → key x ≡ Some k → Keys rest ks → (ls : List A) × Keys xs ls × (pick i ls ≡ Some (k, ks))
  picked_keys i [] rest x k ks e f h = cc
  picked_keys zero (y ∷ xs) rest x k ks e f h =
      let p : X × List X = (y, xs) in
      let q : X × List X = (x, rest) in
      let g : p ≡ q = some_same e in
      (k ∷ ks, (ap (λ (r : X × List X). key r.0) g ∙ f, subst (λ l. Keys l ks) (sym (ap (λ (r : X × List X). r.1) g)) h), refl)
  picked_keys (suc i) (y ∷ xs) rest x k ks e f h =
      let q = map_parts (pick i xs) (λ (p : X × List X). (p.0, y ∷ p.1)) (x, rest) e in
      let a : q.0.0 ≡ x = ap (λ (p : X × List X). p.0) q.2 in
      let b : y ∷ q.0.1 ≡ rest = ap (λ (p : X × List X). p.1) q.2 in
      go q.0.1 q.0.0 q.1 (ap key a ∙ f) ks (subst (λ l. Keys l ks) (sym b) h) (λ ms g. picked_keys i xs q.0.1 q.0.0 k ms q.1 (ap key a ∙ f) g)
    where
      go : (us : List X) (u : X) → pick i xs ≡ Some (u, us) → key u ≡ Some k → (ks : List A) → Keys (y ∷ us) ks →
          ((ms : List A) → Keys us ms → (ls : List A) × Keys xs ls × (pick i ls ≡ Some (k, ms))) → (ls : List A) × Keys (y ∷ xs) ls × (pick (suc i) ls ≡ Some (k, ks))
      go us u e f [] h r = absurd h
      go us u e f (m ∷ ms) h r = let s = r ms h.1 in (m ∷ s.0, (h.0, s.1), ap (λ o. option_map (λ (p : A × List A). (p.0, m ∷ p.1)) o) s.2)

  again : (i : ℕ) (is : List ℕ) (ls rest ks : List A) (k : A) → pick i ls ≡ Some (k, rest) → arranged is rest ≡ Some ks → arranged (i ∷ is) ls ≡ Some (k ∷ ks)
  again i is ls rest ks k e f = rw (e, f) refl

  -- an arrangement of elements is one of their keys
  pub arranged_keys : (is : List ℕ) (xs us : List X) (ks : List A) → arranged is xs ≡ Some us → Keys us ks → (ls : List A) × Keys xs ls × (arranged is ls ≡ Some ks)
  arranged_keys [] [] us ks e h = none ks (subst (λ l. Keys l ks) (sym (some_same e)) h)
    where
      none : (ks : List A) → Keys [] ks → (ls : List A) × Keys [] ls × (arranged [] ls ≡ Some ks)
      none [] h = ([], tt, refl)
      none (k ∷ ks) h = absurd h
  arranged_keys [] (x ∷ xs) us ks e h = cc
  arranged_keys (i ∷ is) xs us ks e h =
      let q = arranged_parts i is xs us e in
      more q.0 q.1 q.2 q.3 ks (subst (λ l. Keys l ks) (sym q.5) h) (λ ms g. arranged_keys is q.1 q.2 ms q.4 g)
    where
      more : (x : X) (rest ys : List X) → pick i xs ≡ Some (x, rest) → (ks : List A) → Keys (x ∷ ys) ks →
          ((ms : List A) → Keys ys ms → (ls : List A) × Keys rest ls × (arranged is ls ≡ Some ms)) → (ls : List A) × Keys xs ls × (arranged (i ∷ is) ls ≡ Some ks)
      more x rest ys e [] h r = absurd h
      more x rest ys e (k ∷ ks) h r =
          let s = r ks h.1 in
          let t = picked_keys i xs rest x k s.0 e h.0 s.1 in
          (t.0, t.1, again i is t.0 s.0 ks k t.2 s.2)
