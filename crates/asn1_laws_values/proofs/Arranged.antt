-- Sorting is an arrangement, and forms that cover each other one by one do so in any arrangement.
use Rattle.std.proofs.Common.{◌≡◌, ℕ, zero, suc, Bool, true, false, cond, List, [], ◌∷◌, map, Option, Some, option_map, refl, ap, ◌∙◌, subst}
use Rattle.asn1_model.specs.Form.{Form, put_in_place, with_keys, ascending, pick, arranged}
use Rattle.asn1_model.proofs.Forms.{chain_parts, map_parts}
use Rattle.asn1_laws_values.proofs.Covers.{Covers, CoversEach}

-- an arrangement that begins: what is picked first, and the arrangement of the others
pub arranged_parts : {X : Type 0} (i : ℕ) (is : List ℕ) (xs : List X) (zs : List X) → arranged (i ∷ is) xs ≡ Some zs →
    (x : X) × (rest : List X) × (ys : List X) × (pick i xs ≡ Some (x, rest)) × (arranged is rest ≡ Some ys) × (x ∷ ys ≡ zs)
arranged_parts {X} i is xs zs e =
    let q = chain_parts (pick i xs) (λ (p : X × List X). option_map (λ ys. p.0 ∷ ys) (arranged is (p.1))) zs e in
    let r = map_parts (arranged is (q.0.1)) (λ ys. q.0.0 ∷ ys) zs q.2 in
    (q.0.0, q.0.1, r.0, q.1, r.1, r.2)

arranged_again : {X : Type 0} (i : ℕ) (is : List ℕ) (xs rest ys : List X) (x : X) → pick i xs ≡ Some (x, rest) → arranged is rest ≡ Some ys → arranged (i ∷ is) xs ≡ Some (x ∷ ys)
arranged_again i is xs rest ys x e f = rw (e, f) refl

in_place : {K X : Type 0} (before : K → K → Bool) (k : K) (x : X) (f : K × X) (fs : List (K × X)) (xs : List X) (js is : List ℕ)
    (b : Bool) → arranged js (x ∷ xs) ≡ Some (f.1 ∷ map (λ e. e.1) (put_in_place before (k, x) fs)) → arranged is xs
    ≡ Some (f.1 ∷ map (λ e. e.1) fs) → (ks : List ℕ) × (arranged ks (x ∷ xs) ≡ Some (map (λ e. e.1) (cond b (f ∷ put_in_place before (k, x) fs) ((k, x) ∷ f ∷ fs))))
in_place before k x f fs xs js is true g h = (js, g)
in_place before k x f fs xs js is false g h = (zero ∷ is, arranged_again zero is (x ∷ xs) xs _ x refl h)

-- one more element, inserted
insert_code : {K X : Type 0} (before : K → K → Bool) (k : K) (x : X) (is : List ℕ) (xs : List X) (es : List (K × X)) →
    arranged is xs ≡ Some (map (λ e. e.1) es) → (js : List ℕ) × (arranged js (x ∷ xs) ≡ Some (map (λ e. e.1) (put_in_place before (k, x) es)))
insert_code before k x [] [] [] h = (zero ∷ [], refl)
insert_code before k x [] [] (f ∷ fs) h = cc
insert_code before k x [] (y ∷ xs) es h = cc
insert_code before k x (i ∷ is) xs [] h = let q = arranged_parts i is xs [] h in cc
insert_code {K} {X} before k x (i ∷ is) xs (f ∷ fs) h =
    let q = arranged_parts i is xs (f.1 ∷ map (λ e. e.1) fs) h in
    let hx : q.0 ≡ f.1 = cc in
    let hr : q.2 ≡ map (λ e. e.1) fs = cc in
    let r = insert_code before k x is q.1 fs (q.4 ∙ ap Some hr) in
    let g : pick (suc i) (x ∷ xs) ≡ Some (f.1, x ∷ q.1) = ap (λ o. option_map (λ (e : X × List X). (e.0, x ∷ e.1)) o) (q.3 ∙ ap (λ y. Some (y, q.1)) hx) in
    in_place before k x f fs xs (suc i ∷ r.0) (i ∷ is) (before (f.0) k) (arranged_again (suc i) r.0 (x ∷ xs) (x ∷ q.1) _ (f.1) g r.1) h

pub sorted_code : {K X : Type 0} (key : X → Option K) (before : K → K → Bool) (xs : List X) (es : List (K × X)) →
    with_keys key before xs ≡ Some es → (is : List ℕ) × (arranged is xs ≡ Some (map (λ e. e.1) es))
sorted_code key before [] [] h = ([], refl)
sorted_code key before [] (e ∷ es) h = cc
sorted_code {K} {X} key before (x ∷ xs) es h =
    let q = chain_parts (key x) (λ k. option_map (λ es. put_in_place before (k, x) es) (with_keys key before xs)) es h in
    let r = map_parts (with_keys key before xs) (λ es. put_in_place before (q.0, x) es) es q.2 in
    let c = sorted_code key before xs r.0 r.1 in
    let d = insert_code before q.0 x c.0 xs r.0 c.1 in
    (d.0, d.1 ∙ ap (λ (es : List (K × X)). Some (map (λ e. e.1) es)) r.2)

pub ascending_code : {K X : Type 0} (key : X → Option K) (before : K → K → Bool) (xs zs : List X) → ascending key before xs ≡ Some zs → (is : List ℕ) × (arranged is xs ≡ Some zs)
ascending_code {K} {X} key before xs zs h =
    let q = map_parts (with_keys key before xs) (λ (es : List (K × X)). map (λ e. e.1) es) zs h in
    let c = sorted_code key before xs q.0 q.1 in
    (c.0, c.1 ∙ ap Some q.2)

pub some_parts : {X : Type 0} {x y : X} → Some x ≡ Some y → x ≡ y
some_parts e = cc

-- ---- forms that cover each other
module _ {F : Type 0} {D : F → Type 0} {A : Type 0} (free : F → Bool) where
  covers_pick : (i : ℕ) (xs ys : List (Form F D A)) (x : Form F D A) (rest : List (Form F D A)) → CoversEach free xs ys → pick i xs
      ≡ Some (x, rest) → (y : Form F D A) × (more : List (Form F D A)) × (pick i ys ≡ Some (y, more)) × Covers free x y × CoversEach free rest more
  covers_pick i [] ys x rest h e = cc
  covers_pick i (z ∷ xs) [] x rest h e = absurd h
  covers_pick zero (z ∷ xs) (y ∷ ys) x rest h e =
      let u : Form F D A × List (Form F D A) = (z, xs) in
      let v : Form F D A × List (Form F D A) = (x, rest) in
      let g : u ≡ v = some_parts e in
      let a : z ≡ x = ap (λ (p : Form F D A × List (Form F D A)). p.0) g in
      let b : xs ≡ rest = ap (λ (p : Form F D A × List (Form F D A)). p.1) g in
      (y, ys, refl, subst (λ z. Covers free z y) a h.0, subst (λ l. CoversEach free l ys) b h.1)
  covers_pick (suc i) (z ∷ xs) (y ∷ ys) x rest h e =
      let q = map_parts (pick i xs) (λ (p : Form F D A × List (Form F D A)). (p.0, z ∷ p.1)) (x, rest) e in
      let a : q.0.0 ≡ x = ap (λ (p : Form F D A × List (Form F D A)). p.0) q.2 in
      let b : z ∷ q.0.1 ≡ rest = ap (λ (p : Form F D A × List (Form F D A)). p.1) q.2 in
      let r = covers_pick i xs ys q.0.0 q.0.1 h.1 q.1 in
      (r.0, y ∷ r.1, ap (λ o. option_map (λ (p : Form F D A × List (Form F D A)). (p.0, y ∷ p.1)) o) r.2, subst (λ z. Covers free z r.0) a r.3, subst (λ l. CoversEach free l (y ∷ r.1)) b (h.0, r.4))

  pub covers_arranged : (is : List ℕ) (xs ys zs : List (Form F D A)) → CoversEach free xs ys → arranged is xs ≡ Some zs → (us : List (Form F D A)) × (arranged is ys ≡ Some us) × CoversEach free zs us
  covers_arranged [] [] [] zs h e = let a : [] ≡ zs = cc in ([], refl, subst (λ l. CoversEach free l []) a tt)
  covers_arranged [] [] (y ∷ ys) zs h e = absurd h
  covers_arranged [] (x ∷ xs) ys zs h e = cc
  covers_arranged (i ∷ is) xs ys zs h e =
      let q = arranged_parts i is xs zs e in
      let r = covers_pick i xs ys q.0 q.1 h q.3 in
      let s = covers_arranged is q.1 r.1 q.2 r.4 q.4 in
      (r.0 ∷ s.0, arranged_again i is ys r.1 s.0 r.0 r.2 s.1, subst (λ l. CoversEach free l (r.0 ∷ s.0)) q.5 (r.3, s.2))
