-- What one form writes, another reads: the rules by which such facts are derived.
use Rattle.std.proofs.Common.{◌≡◌, ℕ, zero, suc, ◌+◌, Bool, true, false, cond, IsTrue, List, [], ◌∷◌, ◌++◌, length, take, drop, Some, option_map, refl, ap, subst, ◌⊎◌}
use Rattle.asn1_model.specs.Form.{Form, refused, both, placed, varied, within, written, Reads, only_if, joined}
use Rattle.asn1_model.proofs.Forms.{widens, reads_written, chain_parts, map_parts}
use Rattle.asn1_laws_values.specs.MessageLaws.{canonically}

pub record Covers {F : Type 0} {D : F → Type 0} {A : Type 0} (free : F → Bool) (x y : Form F D A) : Type 0 where
  pub reads : (p : ℕ) (w : List A) → written x p ≡ Some w → Reads free y p w

from_false : (b : Bool) → IsTrue false → IsTrue b
from_false b h = let e : false ≡ true = h in cc

module _ {F : Type 0} {D : F → Type 0} {A : Type 0} (free : F → Bool) where
  pub covers_same : (x : Form F D A) → Covers free x x
  covers_same x = record { reads = λ p w e. widens canonically free x p w (λ c h. from_false (free c) h) (reads_written x p w e) }

  pub covers_eq : {x y : Form F D A} → x ≡ y → Covers free x y
  covers_eq {x} {y} e = subst (λ z. Covers free x z) e (covers_same x)

  pub covers_refused : (y : Form F D A) → Covers free refused y
  unfolding written
  covers_refused y = record { reads = λ p w e. cc }

  pub covers_both : {x x' y y' : Form F D A} → Covers free x x' → Covers free y y' → Covers free (both x y) (both x' y')
  unfolding written Reads
  covers_both {x} {x'} {y} {y'} h k = record {
    reads = λ p w e.
        let q = chain_parts (written x p) (λ a. option_map (λ b. a ++ b) (written y (p + length a))) w e in
        let s = map_parts (written y (p + length q.0)) (λ b. q.0 ++ b) w q.2 in
        (q.0, s.0, h.reads p q.0 q.1, k.reads (p + length q.0) s.0 s.1, s.2);
  }

  pub covers_placed : {f f' : ℕ → Form F D A} → ((p : ℕ) → Covers free (f p) (f' p)) → Covers free (placed f) (placed f')
  unfolding written Reads
  covers_placed h = record { reads = λ p w e. (h p).reads p w e }

  -- the reader has the freedom, or its canonical detail is the one
  pub covers_varied : {c c' : F} {d : D c} {d' : D c'} {f : D c → Form F D A} {f' : D c' → Form F D A} (e' : D c') →
      ((e' ≡ d') ⊎ IsTrue (free c')) → Covers free (f d) (f' e') → Covers free (varied c d f) (varied c' d' f')
  unfolding written Reads
  covers_varied e' m h = record { reads = λ p w e. (e', m, h.reads p w e) }

  pub covers_within : {x x' : Form F D A} {f f' : List A → Form F D A} → Covers free x x' → ((w : List A) → Covers free (f w) (f' w)) → Covers free (within x f) (within x' f')
  unfolding written Reads
  covers_within {x} {x'} {f} {f'} h k = record {
    reads = λ p w e.
        let q = chain_parts (written x 0) (λ a. written (f a) p) w e in
        (q.0, h.reads 0 q.0 q.1, (k q.0).reads p w q.2);
  }

  pub covers_if : (b : Bool) {x y : Form F D A} → (IsTrue b → Covers free x y) → Covers free (only_if b x) (only_if b y)
  covers_if true h = h refl
  covers_if false h = covers_refused refused

  pub covers_cond : (b : Bool) {x x' y y' : Form F D A} → Covers free x x' → Covers free y y' → Covers free (cond b x y) (cond b x' y')
  covers_cond true h k = h
  covers_cond false h k = k

  -- one by one
  abbrev pub CoversEach : List (Form F D A) → List (Form F D A) → Type 0
  CoversEach [] [] = Unit {0}
  CoversEach (x ∷ xs) (y ∷ ys) = Covers free x y × CoversEach xs ys
  CoversEach xs ys = ⊥

  pub each_length : (xs ys : List (Form F D A)) → CoversEach xs ys → length xs ≡ length ys
  each_length [] [] h = refl
  each_length [] (y ∷ ys) h = absurd h
  each_length (x ∷ xs) [] h = absurd h
  each_length (x ∷ xs) (y ∷ ys) h = ap suc (each_length xs ys h.1)

  pub covers_joined : (xs ys : List (Form F D A)) → CoversEach xs ys → Covers free (joined xs) (joined ys)
  covers_joined [] [] h = covers_same (joined [])
  covers_joined [] (y ∷ ys) h = absurd h
  covers_joined (x ∷ xs) [] h = absurd h
  covers_joined (x ∷ xs) (y ∷ ys) h = covers_both h.0 (covers_joined xs ys h.1)

  pub each_take : (n : ℕ) (xs ys : List (Form F D A)) → CoversEach xs ys → CoversEach (take n xs) (take n ys)
  each_take zero xs ys h = tt
  each_take (suc n) [] [] h = tt
  each_take (suc n) [] (y ∷ ys) h = absurd h
  each_take (suc n) (x ∷ xs) [] h = absurd h
  each_take (suc n) (x ∷ xs) (y ∷ ys) h = (h.0, each_take n xs ys h.1)

  pub each_drop : (n : ℕ) (xs ys : List (Form F D A)) → CoversEach xs ys → CoversEach (drop n xs) (drop n ys)
  each_drop zero xs ys h = h
  each_drop (suc n) [] [] h = tt
  each_drop (suc n) [] (y ∷ ys) h = absurd h
  each_drop (suc n) (x ∷ xs) [] h = absurd h
  each_drop (suc n) (x ∷ xs) (y ∷ ys) h = each_drop n xs ys h.1
