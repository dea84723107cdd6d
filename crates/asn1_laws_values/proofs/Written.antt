-- Which forms have a canonical encoding: the rules by which such facts are derived.
use Rattle.std.proofs.Common.{◌≡◌, ℕ, ◌+◌, Bool, true, false, ◌&&◌, List, ◌++◌, length, Option, Some, None, option_map, option_and_then, refl, ap, ◌∙◌}
use Rattle.asn1_model.specs.Form.{Form, exactly, refused, both, placed, varied, within, written, only_if}
use Rattle.std.specs.Prelude.{is_some}

-- it has one from every position, or from none
pub record Written {F : Type 0} {D : F → Type 0} {A : Type 0} (x : Form F D A) (b : Bool) : Type 0 where
  pub there : (p : ℕ) → is_some (written x p) ≡ b

pub and_true : (b : Bool) → (b && true) ≡ b
and_true true = refl
and_true false = refl

mapped : {X Y : Type 0} (k : X → Y) (o : Option X) → is_some (option_map k o) ≡ is_some o
mapped k None = refl
mapped k (Some x) = refl

chained : {X Y : Type 0} (k : X → Option Y) (o : Option X) (b c : Bool) → is_some o ≡ b → ((x : X) → is_some (k x) ≡ c) → is_some (option_and_then k o) ≡ (b && c)
chained k None b c e f = ap (λ t. t && c) e
chained k (Some x) b c e f = f x ∙ ap (λ t. t && c) e

module _ {F : Type 0} {D : F → Type 0} {A : Type 0} where
  pub written_exactly : (l : List A) → Written {F = F} {D = D} (exactly l) true
  unfolding written
  written_exactly l = record { there = λ p. refl }

  pub written_refused : Written {F = F} {D = D} {A = A} refused false
  unfolding written
  written_refused = record { there = λ p. refl }

  pub written_as : {x : Form F D A} {b c : Bool} → b ≡ c → Written x b → Written x c
  written_as e h = record { there = λ p. h.there p ∙ e }

  pub written_both : {x y : Form F D A} {b c : Bool} → Written x b → Written y c → Written (both x y) (b && c)
  unfolding written
  written_both {x} {y} {b} {c} h k = record {
    there =
        λ p. chained (λ a. option_map (λ d. a ++ d) (written y (p + length a))) (written x p) b c (h.there p) (λ a. mapped (λ d. a ++ d) (written y (p + length a)) ∙ k.there (p + length a));
  }

  pub written_placed : {f : ℕ → Form F D A} {b : Bool} → ((p : ℕ) → Written (f p) b) → Written (placed f) b
  unfolding written
  written_placed h = record { there = λ p. (h p).there p }

  pub written_varied : {c : F} {d : D c} {f : D c → Form F D A} {b : Bool} → Written (f d) b → Written (varied c d f) b
  unfolding written
  written_varied h = record { there = λ p. h.there p }

  pub written_within : {x : Form F D A} {f : List A → Form F D A} {b : Bool} → Written x b → ((w : List A) → Written (f w) true) → Written (within x f) b
  unfolding written
  written_within {x} {f} {b} h k = record { there = λ p. chained (λ w. written (f w) p) (written x 0) b true (h.there 0) (λ w. (k w).there p) ∙ and_true b }

  pub written_if : (t : Bool) (x : Form F D A) (b : Bool) → (t ≡ true → Written x b) → Written (only_if t x) (t && b)
  written_if true x b h = h refl
  written_if false x b h = written_refused

  pub written_when : (t : Bool) (x : Form F D A) (b : Bool) → t ≡ true → Written x b → Written (only_if t x) b
  written_when true x b e h = h
  written_when false x b e h = cc
