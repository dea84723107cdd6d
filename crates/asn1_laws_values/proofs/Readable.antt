-- If some encoding is read of a form, some encodings are read of its parts.
use Rattle.std.proofs.Common.{◌≡◌, ℕ, zero, suc, ◌+◌, ltb, not, Bool, true, false, cond, ◌&&◌, ◌||◌, ◌==◌, IsTrue, List}
use Rattle.std.proofs.Common.{[], ◌∷◌, ◌++◌, length, take, drop, map, Option, Some, None, option_map, refl, ap, sym}
use Rattle.std.proofs.Common.{◌∙◌, subst, inl, inr, ◌⊎◌}
use Rattle.std.proofs.lemmas.Bool.{and_parts}
use Rattle.asn1_model.specs.Form.{Form, refused, both, placed, varied, within, Reads, only_if, given, joined, pick, arranged, in_order, ascending, Bitmap, is_any_present, present_ones, covered_by}
use Rattle.asn1_laws_values.proofs.Arranged.{ascending_code, arranged_parts}
use Rattle.asn1_model.proofs.Forms.{map_parts}
use Rattle.asn1_laws_values.proofs.Messages.{some_parts}

pub record IsRead {F : Type 0} {D : F → Type 0} {A : Type 0} (free : F → Bool) (x : Form F D A) : Type 0 where
  pub position : ℕ
  pub content : List A
  pub reads : Reads free x position content

cond_some : {X : Type 0} (b : Bool) (x y : X) → cond b (Some x) None ≡ Some y → (b ≡ true) × (x ≡ y)
cond_some true x y e = (refl, some_parts e)
cond_some false x y e = cc

kept_case : {X : Type 0} (b : Bool) (f : X → Bool) (d e : X) → f d ≡ false → (IsTrue b → ⊥) → (e ≡ d) ⊎ IsTrue b → f e ≡ true → ⊥
kept_case b f d e h n (inl q) t = let u : false ≡ true = sym h ∙ ap f (sym q) ∙ t in cc
kept_case b f d e h n (inr q) t = n q

no_any : (t : Bool) → not t ≡ true → t ≡ false
no_any true e = sym e
no_any false e = refl

module _ {F : Type 0} {D : F → Type 0} {A : Type 0} (free : F → Bool) where
  pub read_refused : IsRead {F = F} {D = D} {A = A} free refused → ⊥
  unfolding Reads
  read_refused r = r.reads

  pub read_both : {x y : Form F D A} → IsRead free (both x y) → IsRead free x × IsRead free y
  unfolding Reads
  read_both r = (record { position = r.position; content = r.reads.0; reads = r.reads.2 }, record { position = r.position + length r.reads.0; content = r.reads.1; reads = r.reads.3 })

  pub read_placed : {f : ℕ → Form F D A} → IsRead free (placed f) → (p : ℕ) × IsRead free (f p)
  unfolding Reads
  read_placed r = (r.position, record { position = r.position; content = r.content; reads = r.reads })

  pub read_varied : {c : F} {d : D c} {f : D c → Form F D A} → IsRead free (varied c d f) → (e : D c) × ((e ≡ d) ⊎ IsTrue (free c)) × IsRead free (f e)
  unfolding Reads
  read_varied r = (r.reads.0, r.reads.1, record { position = r.position; content = r.content; reads = r.reads.2 })

  pub read_within : {x : Form F D A} {f : List A → Form F D A} → IsRead free (within x f) → IsRead free x × ((w : List A) × IsRead free (f w))
  unfolding Reads
  read_within r = (record { position = 0; content = r.reads.0; reads = r.reads.1 }, (r.reads.0, record { position = r.position; content = r.content; reads = r.reads.2 }))

  pub read_if : (b : Bool) {x : Form F D A} → IsRead free (only_if b x) → (b ≡ true) × IsRead free x
  read_if true r = (refl, r)
  read_if false r = absurd (read_refused r)

  pub read_given : {X : Type 0} (o : Option X) {f : X → Form F D A} → IsRead free (given o f) → (z : X) × (o ≡ Some z) × IsRead free (f z)
  read_given None r = absurd (read_refused r)
  read_given (Some z) r = (z, refl, r)

  pub read_cond : (b : Bool) {x y : Form F D A} → IsRead free (cond b x y) → IsRead free x ⊎ IsRead free y
  read_cond true r = inl r
  read_cond false r = inr r

  -- what is encoded without the freedom
  pub read_kept : {c : F} (x : Form F D A) (f : D c → Bool) (d : D c) → f d ≡ false → (IsTrue (free c) → ⊥) → IsRead free (varied c d (λ e. only_if (f e) x)) → ⊥
  read_kept x f d h n r = let q = read_varied r in kept_case (free _) f d q.0 h n q.1 ((read_if (f q.0) q.2).0)

  abbrev pub AllRead : List (Form F D A) → Type 0
  AllRead [] = Unit {0}
  AllRead (x ∷ xs) = IsRead free x × AllRead xs

  pub read_joined : (xs : List (Form F D A)) → IsRead free (joined xs) → AllRead xs
  read_joined [] r = tt
  read_joined (x ∷ xs) r = let q = read_both r in (q.0, read_joined xs q.1)

  pub all_joined : (k : ℕ) (xs : List (Form F D A)) → AllRead (take k xs) → AllRead (drop k xs) → AllRead xs
  all_joined zero xs h i = i
  all_joined (suc k) [] h i = tt
  all_joined (suc k) (x ∷ xs) h i = (h.0, all_joined k xs h.1 i)

  all_picked : (i : ℕ) (xs : List (Form F D A)) (x : Form F D A) (rest : List (Form F D A)) → pick i xs ≡ Some (x, rest) → IsRead free x → AllRead rest → AllRead xs
  all_picked i [] x rest e h k = tt
  all_picked zero (z ∷ xs) x rest e h k =
      let u : Form F D A × List (Form F D A) = (z, xs) in
      let v : Form F D A × List (Form F D A) = (x, rest) in
      let g : u ≡ v = some_parts e in
      (subst (λ z. IsRead free z) (sym (ap (λ (p : Form F D A × List (Form F D A)). p.0) g)) h, subst (λ l. AllRead l) (sym (ap (λ (p : Form F D A × List (Form F D A)). p.1) g)) k)
  all_picked (suc i) (z ∷ xs) x rest e h k =
      let q = map_parts (pick i xs) (λ (p : Form F D A × List (Form F D A)). (p.0, z ∷ p.1)) (x, rest) e in
      let n : AllRead (z ∷ q.0.1) = subst (λ l. AllRead l) (sym (ap (λ (p : Form F D A × List (Form F D A)). p.1) q.2)) k in
      (n.0, all_picked i xs q.0.0 q.0.1 q.1 (subst (λ z. IsRead free z) (sym (ap (λ (p : Form F D A × List (Form F D A)). p.0) q.2)) h) n.1)

  pub all_arranged : (is : List ℕ) (xs zs : List (Form F D A)) → arranged is xs ≡ Some zs → AllRead zs → AllRead xs
  all_arranged [] [] zs e h = tt
  all_arranged [] (x ∷ xs) zs e h = cc
  all_arranged (i ∷ is) xs zs e h =
      let q = arranged_parts i is xs zs e in
      let n : AllRead (q.0 ∷ q.2) = subst (λ l. AllRead l) (sym q.5) h in
      all_picked i xs q.0 q.1 q.3 n.0 (all_arranged is q.1 q.2 q.4 n.1)

  pub all_in_order : {K : Type 0} (key : Form F D A → Option K) (before : K → K → Bool) (o : Option (List ℕ))
      (xs zs : List (Form F D A)) → in_order (ascending key before xs) o xs ≡ Some zs → AllRead zs → AllRead xs
  all_in_order key before None xs zs e h = let c = ascending_code key before xs zs e in all_arranged c.0 xs zs c.1 h
  all_in_order key before (Some is) xs zs e h = all_arranged is xs zs e h

  -- ---- additions
  pub none_present : (xs : List (Option (Form F D A))) → is_any_present xs ≡ false → AllRead (present_ones xs)
  none_present [] e = tt
  none_present (None ∷ xs) e = none_present xs e
  none_present (Some x ∷ xs) e = cc

  first_present : (k : ℕ) (xs rest : List (Option (Form F D A))) → is_any_present (drop k xs) ≡ false → AllRead (present_ones (take k xs ++ rest)) → AllRead (present_ones xs)
  first_present zero xs rest e h = none_present xs e
  first_present (suc k) [] rest e h = tt
  first_present (suc k) (None ∷ xs) rest e h = first_present k xs rest e h
  first_present (suc k) (Some x ∷ xs) rest e h = (h.0, first_present k xs rest e h.1)

  pub covered_present : (unknown : List ℕ → Form F D A) (b : Bitmap) (xs all : List (Option (Form F D A))) → covered_by unknown b xs ≡ Some all → AllRead (present_ones all) → AllRead (present_ones xs)
  covered_present unknown b xs all e h =
      let q = cond_some (not (is_any_present (drop b.covered xs)) && (ltb (length xs) (b.covered + 1) || length b.further == 0)) (take b.covered xs ++ map (option_map unknown) b.further) all e in
      first_present b.covered xs (map (option_map unknown) b.further) (no_any (is_any_present (drop b.covered xs)) ((and_parts _ _ q.0).0)) (subst (λ l. AllRead (present_ones l)) (sym q.1) h)
