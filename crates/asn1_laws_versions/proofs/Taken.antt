-- A form as it is read, or only as it is written: what is known of either is put together by the same rules.
use Rattle.std.proofs.Common.{◌≡◌, ℕ, Bool, true, false, List, Option, Some, None, refl, ap}
use Rattle.asn1_model.specs.Form.{Form, exactly, refused, both, placed, varied, written, Reads, only_if, given}
use Rattle.asn1_laws_values.proofs.Covers.{Covers, covers_same, covers_both}
use Rattle.asn1_laws_fronts.proofs.Fronts.{Agree, agree_refused, agree_with_refused, agree_both, agree_varied_left}

given_text : (F : Type 0) (D : F → Type 0) (A : Type 0) (free : F → Bool) (o : Option (List A)) (p : ℕ) (a : List A) → Reads free (given {F = F} {D = D} o (λ w. exactly w)) p a → o ≡ Some a
unfolding Reads
given_text F D A free None p a r = absurd r
given_text F D A free (Some w) p a r = ap Some r

text_given : (F : Type 0) (D : F → Type 0) (A : Type 0) (free : F → Bool) (o : Option (List A)) (p : ℕ) (a : List A) → o ≡ Some a → Reads free (given {F = F} {D = D} o (λ w. exactly w)) p a
unfolding Reads
text_given F D A free None p a e = cc
text_given F D A free (Some w) p a e = cc

differs : {X : Type 0} → false ≡ true → X
differs e = cc

module _ {F : Type 0} {D : F → Type 0} {A : Type 0} (free : F → Bool) where
  abbrev pub as_written : Form F D A → Form F D A
  as_written x = placed (λ p. given (written x p) (λ w. exactly w))

  -- as it is read, or as it is written
  abbrev pub taken : Bool → Form F D A → Form F D A
  taken false x = x
  taken true x = as_written x

  pub text_of : (x : Form F D A) (p : ℕ) (a : List A) → Reads free (as_written x) p a → written x p ≡ Some a
  unfolding Reads
  text_of x p a r = given_text F D A free (written x p) p a r

  pub of_text : (x : Form F D A) (p : ℕ) (a : List A) → written x p ≡ Some a → Reads free (as_written x) p a
  unfolding Reads
  of_text x p a e = text_given F D A free (written x p) p a e

  pub covers_written : (x : Form F D A) → Covers free x (as_written x)
  covers_written x = record { reads = λ p w e. of_text x p w e }

  -- what covers it is read instead
  pub agree_written : (x z y : Form F D A) (P : Type 0) → Covers free x z → Agree free z y P → Agree free (as_written x) y P
  agree_written x z y P c h = record { fronts = λ p a b r s u v e. h.fronts p a b r s (c.reads p a (text_of x p a u)) v e }

  pub taken_same : (m : Bool) (x y : Form F D A) (P : Type 0) → Agree free x y P → Agree free (taken m x) y P
  taken_same false x y P h = h
  taken_same true x y P h = agree_written x x y P (covers_same free x) h

  pub taken_both : (m : Bool) (x x' y y' : Form F D A) (P Q : Type 0) → Agree free (taken m x) x' P → (P → Agree free (taken m y) y' Q) → Agree free (taken m (both x y)) (both x' y') (P × Q)
  taken_both false x x' y y' P Q h k = agree_both free h k
  taken_both true x x' y y' P Q h k = agree_written (both x y) (both (as_written x) (as_written y)) (both x' y') (P × Q) (covers_both free (covers_written x) (covers_written y)) (agree_both free h k)

  pub taken_refused : (m : Bool) (y : Form F D A) (P : Type 0) → Agree free (taken m refused) y P
  unfolding written
  taken_refused false y P = agree_refused free y P
  taken_refused true y P = record { fronts = λ p a b r s u v e. let q : None ≡ Some a = text_of refused p a u in cc }

  pub taken_if : (m b : Bool) (x y : Form F D A) (P : Type 0) → (b ≡ true → Agree free (taken m x) y P) → Agree free (taken m (only_if b x)) y P
  taken_if m true x y P h = h refl
  taken_if m false x y P h = taken_refused m y P

  pub taken_given : {X : Type 0} (m : Bool) (o : Option X) (f : X → Form F D A) (y : Form F D A) (P : Type 0) →
      ((z : X) → o ≡ Some z → Agree free (taken m (f z)) y P) → Agree free (taken m (given o f)) y P
  taken_given m None f y P h = taken_refused m y P
  taken_given m (Some z) f y P h = h z refl

  -- as it is written, its detail is the canonical one
  pub taken_varied : (m : Bool) (c : F) (d : D c) (f : D c → Form F D A) (y : Form F D A) (P : Type 0) →
      ((e : D c) → (m ≡ true → e ≡ d) → Agree free (taken m (f e)) y P) → Agree free (taken m (varied c d f)) y P
  unfolding written
  taken_varied false c d f y P h = agree_varied_left free (λ e. h e (λ q. differs q))
  taken_varied true c d f y P h = record { fronts = λ p a b r s u v e. (h d (λ q. refl)).fronts p a b r s (of_text (f d) p a (text_of (varied c d f) p a u)) v e }

  pub right_given : {Z : Type 0} (o : Option Z) (f : Z → Form F D A) (x : Form F D A) (P : Type 0) → ((z : Z) → o ≡ Some z → Agree free x (f z) P) → Agree free x (given o f) P
  right_given None f x P h = agree_with_refused free x P
  right_given (Some z) f x P h = h z refl
