-- Forms of which a reader accepts only the canonical encoding.
use Rattle.std.proofs.Common.{◌≡◌, ℕ, zero, suc, ◌+◌, Bool, true, false, cond, IsTrue, List, [], ◌∷◌, length, take, drop, map, Option, Some, None, ◌⊎◌, inl, inr, refl, ap, subst}
use Rattle.asn1_model.specs.Form.{Form, exactly, refused, both, placed, varied, within, written, Reads, only_if, given, joined}

pub record Rigid {F : Type 0} {D : F → Type 0} {A : Type 0} (free : F → Bool) (x : Form F D A) : Type 0 where
  pub only : (p : ℕ) (w : List A) → Reads free x p w → written x p ≡ Some w

module _ {F : Type 0} {D : F → Type 0} {A : Type 0} (free : F → Bool) where
  pub rigid_exactly : (l : List A) → Rigid {F = F} {D = D} free (exactly l)
  unfolding Reads written
  rigid_exactly l = record { only = λ p w r. ap Some r }

  pub rigid_refused : Rigid {F = F} {D = D} {A = A} free refused
  unfolding Reads
  rigid_refused = record { only = λ p w r. absurd r }

  pub rigid_both : {x y : Form F D A} → Rigid free x → Rigid free y → Rigid free (both x y)
  unfolding Reads written
  rigid_both {x} {y} h k = record {
    only = λ p w r.
        let a = h.only p r.0 r.2 in
        let b = k.only (p + length r.0) r.1 r.3 in
        rw (a, b, r.4) refl;
  }

  pub rigid_placed : {f : ℕ → Form F D A} → ((p : ℕ) → Rigid free (f p)) → Rigid free (placed f)
  unfolding Reads written
  rigid_placed h = record { only = λ p w r. (h p).only p w r }

  pub rigid_varied : {c : F} {d : D c} {f : D c → Form F D A} → free c ≡ false → Rigid free (f d) → Rigid free (varied c d f)
  unfolding Reads written
  rigid_varied {c} {d} {f} e h = record {
    only = λ p w r.
        let s : (r.0 ≡ d) ⊎ IsTrue false = subst (λ b. (r.0 ≡ d) ⊎ IsTrue b) e r.1 in
        h.only p w (subst (λ z. Reads free (f z) p w) (canonical_one s) r.2);
  }
    where
      canonical_one : {P : Type 0} → P ⊎ IsTrue false → P
      canonical_one (inl e) = e
      canonical_one (inr h) = let e : false ≡ true = h in cc

  pub rigid_within : {x : Form F D A} {f : List A → Form F D A} → Rigid free x → ((a : List A) → Rigid free (f a)) → Rigid free (within x f)
  unfolding Reads written
  rigid_within {x} {f} h k = record {
    only = λ p w r.
        let a = h.only 0 r.0 r.1 in
        let b = (k r.0).only p w r.2 in
        rw (a, b) refl;
  }

  pub rigid_cond : (b : Bool) {x y : Form F D A} → Rigid free x → Rigid free y → Rigid free (cond b x y)
  rigid_cond true h k = h
  rigid_cond false h k = k

  pub rigid_if : (b : Bool) {x : Form F D A} → Rigid free x → Rigid free (only_if b x)
  rigid_if true h = h
  rigid_if false {x} h = rigid_refused

  pub rigid_given : {X : Type 0} (o : Option X) {f : X → Form F D A} → ((x : X) → Rigid free (f x)) → Rigid free (given o f)
  rigid_given None {f} h = rigid_refused
  rigid_given (Some x) h = h x

  -- ---- lists of forms
  pub data AllRigid : List (Form F D A) → Type 0 where
    none : AllRigid []
    more : (x : Form F D A) (xs : List (Form F D A)) → Rigid free x → AllRigid xs → AllRigid (x ∷ xs)

  pub rigid_joined : {xs : List (Form F D A)} → AllRigid xs → Rigid free (joined xs)
  rigid_joined none = rigid_exactly []
  rigid_joined (more x xs h hs) = rigid_both h (rigid_joined hs)

  pub rigid_take : (n : ℕ) {xs : List (Form F D A)} → AllRigid xs → AllRigid (take n xs)
  rigid_take zero h = none
  rigid_take (suc n) none = none
  rigid_take (suc n) (more x xs h hs) = more x (take n xs) h (rigid_take n hs)

  pub rigid_drop : (n : ℕ) {xs : List (Form F D A)} → AllRigid xs → AllRigid (drop n xs)
  rigid_drop zero h = h
  rigid_drop (suc n) none = none
  rigid_drop (suc n) (more x xs h hs) = rigid_drop n hs

  pub rigid_map : {X : Type 0} (f : X → Form F D A) → ((x : X) → Rigid free (f x)) → (xs : List X) → AllRigid (map f xs)
  rigid_map f h [] = none
  rigid_map f h (x ∷ xs) = more (f x) (map f xs) (h x) (rigid_map f h xs)
