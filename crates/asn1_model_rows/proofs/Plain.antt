-- Forms with a canonical encoding in which a reader meets none of its freedoms: it accepts only that encoding.
use Rattle.std.proofs.Common.{◌≡◌, ℕ, ◌+◌, ◌==◌, [], ◌∷◌, Bool, true, false, not, ◌&&◌, IsTrue, List, length, Option, Some, None, refl, ap, inl, inr}
use Rattle.std.proofs.Common.{subst, ◌⊎◌}
use Rattle.std.proofs.lemmas.Bool.{eq-eqb}
use Rattle.asn1_model.specs.Value.{same_truth}
use Rattle.asn1_model.specs.Form.{Form, exactly, refused, both, placed, varied, within, written, Reads}
use lib.Pointwise.{pointwise}

abbrev pub if_some : {X : Type 0} → Option X → (X → Bool) → Bool
if_some None f = true
if_some (Some x) f = f x

unfoldable pub is_plain : {F : Type 0} {D : F → Type 0} {A : Type 0} → (F → Bool) → Form F D A → ℕ → Bool
is_plain free (exactly l) p = true
is_plain free refused p = true
is_plain free (both x y) p = is_plain free x p && if_some (written x p) (λ a. is_plain free y (p + length a))
is_plain free (placed f) p = is_plain free (f p) p
is_plain free (varied c d f) p = not (free c) && is_plain free (f d) p
is_plain free (within x f) p = is_plain free x 0 && if_some (written x 0) (λ a. is_plain free (f a) p)

first_holds : (a b : Bool) → a && b ≡ true → a ≡ true
first_holds true b h = refl
first_holds false b h = h

second_holds : (a b : Bool) → a && b ≡ true → b ≡ true
second_holds true b h = h
second_holds false b h = cc

only_left : {P : Type 0} (b : Bool) → not b ≡ true → P ⊎ IsTrue b → P
only_left b h (inl e) = e
only_left true h (inr q) = cc
only_left false h (inr q) = let e : false ≡ true = q in cc

pub plain_reads : {F : Type 0} {D : F → Type 0} {A : Type 0} (free : F → Bool) (x : Form F D A) (p : ℕ) (w : List A) → is_plain free x p ≡ true → Reads free x p w → written x p ≡ Some w
unfolding Reads written is_plain
plain_reads free (exactly l) p w h r = ap Some r
plain_reads free refused p w h r = absurd r
plain_reads free (both x y) p w h r =
    let e1 = plain_reads free x p r.0 (first_holds _ _ h) r.2 in
    let h2 = subst (λ o. if_some o (λ a. is_plain free y (p + length a)) ≡ true) e1 (second_holds (is_plain free x p) _ h) in
    let e2 = plain_reads free y (p + length r.0) r.1 h2 r.3 in
    rw (e1, e2, r.4) refl
plain_reads free (placed f) p w h r = plain_reads free (f p) p w h r
plain_reads free (varied c d f) p w h r =
    let q = subst (λ e. Reads free (f e) p w) (only_left (free c) (first_holds _ _ h) (r.1)) (r.2) in
    plain_reads free (f d) p w (second_holds (not (free c)) _ h) q
plain_reads free (within x f) p w h r =
    let e1 = plain_reads free x 0 r.0 (first_holds _ _ h) r.1 in
    let h2 = subst (λ o. if_some o (λ a. is_plain free (f a) p) ≡ true) e1 (second_holds (is_plain free x 0) _ h) in
    let e2 = plain_reads free (f r.0) p w h2 r.2 in
    rw (e1, e2) refl

-- ---- encodings compared by computation

same_bits : (bs : List Bool) → pointwise same_truth bs bs ≡ true
same_bits [] = refl
same_bits (true ∷ bs) = same_bits bs
same_bits (false ∷ bs) = same_bits bs

same_octets : (os : List ℕ) → pointwise ◌==◌ os os ≡ true
same_octets [] = refl
same_octets (o ∷ os) = rw (eq-eqb o o refl) (same_octets os)

abbrev pub is_text : {A : Type 0} → (A → A → Bool) → Option (List A) → List A → Bool
is_text same None w = false
is_text same (Some l) w = pointwise same l w

-- so an encoding other than the canonical one is not read
not_read : {F : Type 0} {D : F → Type 0} {A : Type 0} (same : A → A → Bool) (h : (l : List A) → pointwise same l l ≡ true) (free : F → Bool)
    (x : Form F D A) (w : List A) → is_plain free x 0 ≡ true → is_text same (written x 0) w ≡ false → Reads free x 0 w → ⊥
not_read same h free x w p n r = let e : is_text same (written x 0) w ≡ true = rw (plain_reads free x 0 w p r) (h w) in let q : false ≡ true = subst (λ b. b ≡ true) n e in cc

pub bits_not_read : {F : Type 0} {D : F → Type 0} (free : F → Bool) (x : Form F D Bool) (w : List Bool) → is_plain free x 0 ≡ true → is_text same_truth (written x 0) w ≡ false → Reads free x 0 w → ⊥
bits_not_read free x w p n r = not_read same_truth same_bits free x w p n r

pub octets_not_read : {F : Type 0} {D : F → Type 0} (free : F → Bool) (x : Form F D ℕ) (w : List ℕ) → is_plain free x 0 ≡ true → is_text ◌==◌ (written x 0) w ≡ false → Reads free x 0 w → ⊥
octets_not_read free x w p n r = not_read ◌==◌ same_octets free x w p n r
