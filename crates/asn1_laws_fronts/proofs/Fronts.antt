-- Two forms that agree: of octets or bits, at most one prefix has both forms, and then a fact holds.
use Rattle.std.proofs.Common.{◌≡◌, ℕ, ◌+◌, Bool, true, false, List, [], ◌∷◌, ◌++◌, length, Option, Some, None, refl, ap, sym, ◌∙◌, subst, append_assoc, arith}
use Rattle.std.proofs.lemmas.List.{append_cancel_left}
use Rattle.asn1_model.specs.Form.{Form, exactly, refused, both, placed, varied, Reads, only_if, given}

pub record Agree {F : Type 0} {D : F → Type 0} {A : Type 0} (free : F → Bool) (x y : Form F D A) (P : Type 0) : Type 0 where
  pub fronts : (p : ℕ) (a b r s : List A) → Reads free x p a → Reads free y p b → a ++ r ≡ b ++ s → (a ≡ b) × P

-- prefixes of equal length are equal
pub fronts_equal : {A : Type 0} (a b r s : List A) → length a ≡ length b → a ++ r ≡ b ++ s → a ≡ b
fronts_equal [] [] r s l e = refl
fronts_equal [] (y ∷ b) r s l e = absurd (omega arith)
fronts_equal (x ∷ a) [] r s l e = absurd (omega arith)
fronts_equal (x ∷ a) (y ∷ b) r s l e =
    let h : x ≡ y = cc in
    let t : a ++ r ≡ b ++ s = cc in
    let q = fronts_equal a b r s (omega arith) t in
    cc

module _ {F : Type 0} {D : F → Type 0} {A : Type 0} (free : F → Bool) where
  pub agree_exactly : (l m : List A) → length l ≡ length m → Agree {F = F} {D = D} free (exactly l) (exactly m) (l ≡ m)
  unfolding Reads
  agree_exactly l m h = record {
    fronts = λ p a b r s x y e.
        let n : length a ≡ length b = ap length (sym x) ∙ h ∙ ap length y in
        let q = fronts_equal a b r s n e in
        (q, x ∙ q ∙ sym y);
  }

  pub agree_refused : (y : Form F D A) (P : Type 0) → Agree free refused y P
  unfolding Reads
  agree_refused y P = record { fronts = λ p a b r s x z e. absurd x }

  pub agree_with_refused : (x : Form F D A) (P : Type 0) → Agree free x refused P
  unfolding Reads
  agree_with_refused x P = record { fronts = λ p a b r s y z e. absurd z }

  pub agree_map : {x y : Form F D A} {P Q : Type 0} → (P → Q) → Agree free x y P → Agree free x y Q
  agree_map f h = record { fronts = λ p a b r s x y e. let q = h.fronts p a b r s x y e in (q.0, f q.1) }

  -- the second parts need agree only where the first ones do
  pub agree_both : {x x' y y' : Form F D A} {P Q : Type 0} → Agree free x x' P → (P → Agree free y y' Q) → Agree free (both x y) (both x' y') (P × Q)
  unfolding Reads
  agree_both {x} {x'} {y} {y'} {P} {Q} h k = record {
    fronts = λ p a b r s u v e.
        let first : u.0 ++ (u.1 ++ r) ≡ v.0 ++ (v.1 ++ s) = sym (append_assoc u.0 u.1 r) ∙ ap (λ l. l ++ r) u.4 ∙ e ∙ ap (λ l. l ++ s) (sym v.4) ∙ append_assoc v.0 v.1 s in
        let f = h.fronts p u.0 v.0 (u.1 ++ r) (v.1 ++ s) u.2 v.2 first in
        let second : u.1 ++ r ≡ v.1 ++ s = append_cancel_left u.0 _ _ (first ∙ ap (λ l. l ++ (v.1 ++ s)) (sym f.0)) in
        let w : Reads free y' (p + length u.0) v.1 = subst (λ l. Reads free y' (p + length l) v.1) (sym f.0) v.3 in
        let g = (k f.1).fronts (p + length u.0) u.1 v.1 r s u.3 w second in
        (sym u.4 ∙ ap (λ l. l ++ u.1) f.0 ∙ ap (λ l. v.0 ++ l) g.0 ∙ v.4, (f.1, g.1));
  }

  pub agree_placed : {f f' : ℕ → Form F D A} {P : Type 0} → ((p : ℕ) → Agree free (f p) (f' p) P) → Agree free (placed f) (placed f') P
  unfolding Reads
  agree_placed h = record { fronts = λ p a b r s x y e. (h p).fronts p a b r s x y e }

  -- whatever the details are
  pub agree_varied : {c c' : F} {d : D c} {d' : D c'} {f : D c → Form F D A} {f' : D c' → Form F D A} {P : Type 0} →
      ((e : D c) (e' : D c') → Agree free (f e) (f' e') P) → Agree free (varied c d f) (varied c' d' f') P
  unfolding Reads
  agree_varied h = record { fronts = λ p a b r s x y e. (h x.0 y.0).fronts p a b r s x.2 y.2 e }

  pub agree_varied_left : {c : F} {d : D c} {f : D c → Form F D A} {y : Form F D A} {P : Type 0} → ((e : D c) → Agree free (f e) y P) → Agree free (varied c d f) y P
  unfolding Reads
  agree_varied_left h = record { fronts = λ p a b r s x y e. (h x.0).fronts p a b r s x.2 y e }

  pub agree_varied_right : {c : F} {d : D c} {f : D c → Form F D A} {x : Form F D A} {P : Type 0} → ((e : D c) → Agree free x (f e) P) → Agree free x (varied c d f) P
  unfolding Reads
  agree_varied_right h = record { fronts = λ p a b r s x y e. (h y.0).fronts p a b r s x y.2 e }

  pub agree_if_left : (b : Bool) {x y : Form F D A} {P : Type 0} → (b ≡ true → Agree free x y P) → Agree free (only_if b x) y P
  agree_if_left true h = h refl
  agree_if_left false {x} {y} {P} h = agree_refused y P

  pub agree_if_right : (b : Bool) {x y : Form F D A} {P : Type 0} → (b ≡ true → Agree free x y P) → Agree free x (only_if b y) P
  agree_if_right true h = h refl
  agree_if_right false {x} {y} {P} h = agree_with_refused x P

  pub agree_if : (b c : Bool) (x y : Form F D A) {P : Type 0} → (b ≡ true → c ≡ true → Agree free x y P) → Agree free (only_if b x) (only_if c y) P
  agree_if true true x y h = h refl refl
  agree_if true false x y {P} h = agree_with_refused x P
  agree_if false c x y {P} h = agree_refused (only_if c y) P

  pub agree_given : {X Y : Type 0} (o : Option X) (q : Option Y) (f : X → Form F D A) (g : Y → Form F D A) {P : Type 0} →
      ((x : X) (y : Y) → o ≡ Some x → q ≡ Some y → Agree free (f x) (g y) P) → Agree free (given o f) (given q g) P
  agree_given None q f g {P} h = agree_refused (given q g) P
  agree_given (Some x) None f g {P} h = agree_with_refused (f x) P
  agree_given (Some x) (Some y) f g h = h x y refl refl

  -- the first symbols distinguish them, or what follows agrees
  pub agree_first : {x y : A} {l m : List A} {P : Type 0} → (x ≡ y → Agree {F = F} {D = D} free (exactly l) (exactly m) P) → Agree {F = F} {D = D} free (exactly (x ∷ l)) (exactly (y ∷ m)) P
  unfolding Reads
  agree_first {x} {y} {l} {m} k = record {
    fronts = λ p a b r s u v e.
        let h : x ∷ (l ++ r) ≡ y ∷ (m ++ s) = ap (λ c. c ++ r) u ∙ e ∙ ap (λ c. c ++ s) (sym v) in
        let first : x ≡ y = cc in
        let rest : l ++ r ≡ m ++ s = cc in
        let q = (k first).fronts p l m r s refl refl rest in
        let t = q.0 in
        let w : x ∷ l ≡ y ∷ m = cc in
        (sym u ∙ w ∙ v, q.1);
  }

  -- forms that agree on no fact are disjoint
  pub agree_apart : {x y : Form F D A} {P : Type 0} → Agree free x y ⊥ → Agree free x y P
  agree_apart h = agree_map (λ e. absurd e) h

  -- the first parts distinguish them
  pub agree_both_apart : {x x' y y' : Form F D A} {P : Type 0} → Agree free x x' ⊥ → Agree free (both x y) (both x' y') P
  agree_both_apart {P = P} h = agree_map (λ (q : ⊥ × P). absurd (q.0)) (agree_both h (λ e. absurd e))

  pub agree_nothing : Agree {F = F} {D = D} {A = A} free (exactly []) (exactly []) (Unit {0})
  agree_nothing = agree_map (λ e. tt) (agree_exactly [] [] refl)

  -- encodings of a prefix-free code
  pub agree_code : {l m : List A} {P : Type 0} → ((r s : List A) → l ++ r ≡ m ++ s → (l ≡ m) × P) → Agree {F = F} {D = D} free (exactly l) (exactly m) P
  unfolding Reads
  agree_code {l} {m} h = record {
    fronts = λ p a b r s u v e.
        let q = h r s (ap (λ c. c ++ r) u ∙ e ∙ ap (λ c. c ++ s) (sym v)) in
        (sym u ∙ q.0 ∙ v, q.1);
  }

  pub agree_turned : {x y : Form F D A} {P : Type 0} → Agree free x y P → Agree free y x P
  agree_turned h = record { fronts = λ p a b r s u v e. let q = h.fronts p b a s r v u (sym e) in (sym q.0, q.1) }

-- elements in pairs for which a relation holds
abbrev pub Pairwise : {X : Type 0} → (X → X → Type 0) → List X → List X → Type 0
Pairwise R [] [] = Unit {0}
Pairwise R (x ∷ xs) (y ∷ ys) = R x y × Pairwise R xs ys
Pairwise R xs ys = ⊥
