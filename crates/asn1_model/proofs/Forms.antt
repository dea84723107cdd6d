-- The laws of forms, by recursion over a form.
use Rattle.std.specs.Prelude.{unwrap_or}
use Rattle.std.proofs.Common.{◌≡◌, ℕ, ◌+◌, Bool, true, false, IsTrue, List, ◌++◌, length, Option, Some, None, option_map, option_and_then, refl, ap}
use Rattle.std.proofs.Common.{inl, inr, subst, ◌⊎◌}
use Rattle.asn1_model.specs.Form.{Form, exactly, refused, both, placed, varied, within, written, Reads}

wider : {P Q : Type 0} (E : Type 0) → E ⊎ P → (P → Q) → E ⊎ Q
wider E (inl e) h = inl e
wider E (inr q) h = inr (h q)

pub widens : {F : Type 0} {D : F → Type 0} {A : Type 0} (few more : F → Bool) (x : Form F D A) (p : ℕ) (w : List A) → ((c : F) → IsTrue (few c) → IsTrue (more c)) → Reads few x p w → Reads more x p w
unfolding Reads
widens few more (exactly l) p w h r = r
widens few more refused p w h r = r
widens few more (both x y) p w h r = (r.0, r.1, widens few more x p r.0 h r.2, widens few more y (p + length r.0) r.1 h r.3, r.4)
widens few more (placed f) p w h r = widens few more (f p) p w h r
widens few more (varied c d f) p w h r = (r.0, wider (r.0 ≡ d) (r.1) (h c), widens few more (f r.0) p w h r.2)
widens few more (within x f) p w h r = (r.0, widens few more x 0 r.0 h r.1, widens few more (f r.0) p w h r.2)

the_only : {P : Type 0} → P ⊎ IsTrue false → P
the_only (inl e) = e
the_only (inr q) = let h : false ≡ true = q in cc

pub writes_read : {F : Type 0} {D : F → Type 0} {A : Type 0} (x : Form F D A) (p : ℕ) (w : List A) → Reads (λ c. false) x p w → written x p ≡ Some w
unfolding Reads written
writes_read (exactly l) p w r = ap Some r
writes_read refused p w r = absurd r
writes_read (both x y) p w r = let e1 = writes_read x p r.0 r.2 in let e2 = writes_read y (p + length r.0) r.1 r.3 in rw (e1, e2, r.4) refl
writes_read (placed f) p w r = writes_read (f p) p w r
writes_read (varied c d f) p w r = subst (λ e. written (f e) p ≡ Some w) (the_only (r.1)) (writes_read (f r.0) p w r.2)
writes_read (within x f) p w r = let e1 = writes_read x 0 r.0 r.1 in let e2 = writes_read (f r.0) p w r.2 in rw (e1, e2) refl

-- where a chain of two steps gives something, so do the steps
pub chain_parts : {X Y : Type 0} (o : Option X) (k : X → Option Y) (y : Y) → option_and_then k o ≡ Some y → (x : X) × (o ≡ Some x) × (k x ≡ Some y)
chain_parts None k y e = cc
chain_parts (Some x) k y e = (x, refl, e)

pub map_parts : {X Y : Type 0} (o : Option X) (k : X → Y) (y : Y) → option_map k o ≡ Some y → (x : X) × (o ≡ Some x) × (k x ≡ y)
map_parts None k y e = cc
map_parts (Some x) k y e = (x, refl, cc)

pub reads_written : {F : Type 0} {D : F → Type 0} {A : Type 0} (x : Form F D A) (p : ℕ) (w : List A) → written x p ≡ Some w → Reads (λ c. false) x p w
unfolding Reads written
reads_written (exactly l) p w e = cc
reads_written refused p w e = cc
reads_written (both x y) p w e =
    let q = chain_parts (written x p) (λ a. option_map (λ b. a ++ b) (written y (p + length a))) w e in
    let s = map_parts (written y (p + length q.0)) (λ b. q.0 ++ b) w q.2 in
    (q.0, s.0, reads_written x p q.0 q.1, reads_written y (p + length q.0) s.0 s.1, s.2)
reads_written (placed f) p w e = reads_written (f p) p w e
reads_written (varied c d f) p w e = (d, inl refl, reads_written (f d) p w e)
reads_written (within x f) p w e =
    let q = chain_parts (written x 0) (λ a. written (f a) p) w e in
    (q.0, reads_written x 0 q.0 q.1, reads_written (f q.0) p w q.2)

-- the detail that is chosen is the canonical one, or chosen freely
by_choice : {X : Type 0} {P : Type 0} (o : Option X) (d : X) → ((e : X) → o ≡ Some e → P) → (unwrap_or o d ≡ d) ⊎ P
by_choice None d h = inl refl
by_choice (Some e) d h = inr (h e refl)

-- An encoding that a reader may meet: the choice gives the detail at each freedom and position if it is not the
-- canonical one.
unfoldable pub written_by : {F : Type 0} {D : F → Type 0} {A : Type 0} → ((c : F) → ℕ → Option (D c)) → Form F D A → ℕ → Option (List A)
written_by choice (exactly l) p = Some l
written_by choice refused p = None
written_by choice (both x y) p = option_and_then (λ a. option_map (λ b. a ++ b) (written_by choice y (p + length a))) (written_by choice x p)
written_by choice (placed f) p = written_by choice (f p) p
written_by choice (varied c d f) p = written_by choice (f (unwrap_or (choice c p) d)) p
written_by choice (within x f) p = option_and_then (λ w. written_by choice (f w) p) (written_by choice x 0)

-- a reader reads what is written by choices that it is free to accept
pub reads_written_by : {F : Type 0} {D : F → Type 0} {A : Type 0} (free : F → Bool) (choice : (c : F) → ℕ → Option (D c)) (x : Form F D A) (p : ℕ)
    (w : List A) → ((c : F) (p : ℕ) (d : D c) → choice c p ≡ Some d → IsTrue (free c)) → written_by choice x p ≡ Some w → Reads free x p w
unfolding Reads written_by
reads_written_by free choice (exactly l) p w h e = cc
reads_written_by free choice refused p w h e = cc
reads_written_by free choice (both x y) p w h e =
    let q = chain_parts (written_by choice x p) (λ a. option_map (λ b. a ++ b) (written_by choice y (p + length a))) w e in
    let s = map_parts (written_by choice y (p + length q.0)) (λ b. q.0 ++ b) w q.2 in
    (q.0, s.0, reads_written_by free choice x p q.0 h q.1, reads_written_by free choice y (p + length q.0) s.0 h s.1, s.2)
reads_written_by free choice (placed f) p w h e = reads_written_by free choice (f p) p w h e
reads_written_by free choice (varied c d f) p w h e = (unwrap_or (choice c p) d, by_choice (choice c p) d (h c p), reads_written_by free choice (f (unwrap_or (choice c p) d)) p w h e)
reads_written_by free choice (within x f) p w h e =
    let q = chain_parts (written_by choice x 0) (λ a. written_by choice (f a) p) w e in
    (q.0, reads_written_by free choice x 0 q.0 h q.1, reads_written_by free choice (f q.0) p w h q.2)
