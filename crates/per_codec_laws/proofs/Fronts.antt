-- Compositions of forms at the start of the bits, and what is noted after a component.
use Rattle.std.proofs.Common.{◌≡◌, ◌⊎◌, inl, inr, ◌↔◌, ℕ, ◌+◌, ◌<◌, ltb, Bool, true, false, cond, IsTrue, List, [], ◌∷◌}
use Rattle.std.proofs.Common.{◌++◌, length, Option, Some, None, refl, ap, sym, ◌∙◌, subst, append_assoc, length-append}
use Rattle.std.proofs.Common.{arith}
use Rattle.std.proofs.lemmas.Bool.{ltb-true}
use Rattle.asn1_model.specs.Value.{Value}
use Rattle.asn1_model.specs.Schema.{Presence, Schema}
use Rattle.asn1_model.specs.Normal.{is_at_default, is_group_left_out}
use Rattle.asn1_model.specs.Numbers.{binary}
use Rattle.asn1_model.specs.Form.{exactly, refused, both, varied, Reads, only_if, given}
use Rattle.asn1_model.specs.Per
use Rattle.asn1_schema_laws.specs.Records.{Record, mismatch}
use Rattle.asn1_schema_laws.specs.Presents.{presents}
use Rattle.asn1_schema_laws.specs.Chains.{Chain}
use Rattle.asn1_schema_laws.proofs.Chains.{chain_split, chain_append}
use Rattle.per_codec_laws.specs.Takes.{Position, State, Scope, Front, Found, Takes}
use Rattle.per_codec_laws.specs.Laws.{Bridges}
use Rattle.asn1_schema_reading_laws.proofs.Alike.{Like, like_itself, noted_by, noted_same}
use Rattle.per_codec_laws.proofs.Next.{place_same, state_same}

-- the records of a value are found if the bits have its form
abbrev pub Finds : Bool → (Per.Freedom → Bool) → Schema → Type 0
Finds al free s = (v : Value) (a b : State) → Chain (Takes al free) (presents s v) a b → Found free (Per.form al s v) a b

-- and if bits have its form, the records are found of a value like it
abbrev pub Shows : Bool → (Per.Freedom → Bool) → Schema → Type 0
Shows al free s = (v : Value) (a b : State) → Found free (Per.form al s v) a b → (w : Value) × Like s v w × Chain (Takes al free) (presents s w) a b

-- if both are about the very value
pub by_itself : (al : Bool) (free : Per.Freedom → Bool) (s : Schema) → ((v : Value) → Bridges al free s v) → Finds al free s × Shows al free s
by_itself al free s h = (λ v a b c. (h v a b).0 c, λ v a b f. (v, like_itself s v, (h v a b).1 f))

-- the form that belongs to what is noted after a component
abbrev pub spelled_by : Bool → Bool → Per.BitForm → Per.BitForm
spelled_by d g x = cond d (varied Per.default_spelled_out false (λ b. only_if b x)) (cond g (varied Per.empty_group false (λ b. only_if b x)) x)

module _ (free : Per.Freedom → Bool) where
  -- ---- forms
  pub nothing_front : (a : Position) → Front free (exactly []) a a
  unfolding Reads
  nothing_front a = record { text = []; has_form = refl; in_front = refl; moved = omega arith }

  pub of_nothing : (a b : Position) → Front free (exactly []) a b → b ≡ a
  unfolding Reads
  of_nothing a b f =
      let l : 0 ≡ length f.text = ap length f.has_form in
      let m = f.moved in
      let e : b.0 ≡ a.0 = omega arith in
      place_same b a e (ap (λ l. l ++ b.1) f.has_form ∙ f.in_front)

  pub of_refused : (a b : Position) → Front free refused a b → ⊥
  unfolding Reads
  of_refused a b f = f.has_form

  pub split : (x y : Per.BitForm) (a b : Position) → Front free (both x y) a b → (mid : Position) × Front free x a mid × Front free y mid b
  unfolding Reads
  split x y a b f =
      let r = f.has_form in
      let l : length r.0 + length r.1 ≡ length f.text = sym (length-append r.0 r.1) ∙ ap length r.4 in
      let m : a.0 + length f.text ≡ b.0 = f.moved in (
        (a.0 + length r.0, r.1 ++ b.1),
        record { text = r.0; has_form = r.2; in_front = sym (append_assoc r.0 r.1 b.1) ∙ ap (λ l. l ++ b.1) r.4 ∙ f.in_front; moved = refl },
        record { text = r.1; has_form = r.3; in_front = refl; moved = omega arith },
      )

  pub join : (x y : Per.BitForm) (a mid b : Position) → Front free x a mid → Front free y mid b → Front free (both x y) a b
  unfolding Reads
  join x y a mid b f g =
      let l : length (f.text ++ g.text) ≡ length f.text + length g.text = length-append f.text g.text in
      let m : a.0 + length f.text ≡ mid.0 = f.moved in
      let n : mid.0 + length g.text ≡ b.0 = g.moved in
      record {
        text = f.text ++ g.text;
        has_form = (f.text, g.text, f.has_form, subst (λ p. Reads free y p g.text) (sym f.moved) g.has_form, refl);
        in_front = append_assoc f.text g.text b.1 ∙ ap (λ l. f.text ++ l) g.in_front ∙ f.in_front;
        moved = omega arith;
      }

  pub varied_in : {c : Per.Freedom} {d : Per.Detail c} (f : Per.Detail c → Per.BitForm) (e : Per.Detail c) → (e ≡ d) ⊎ IsTrue (free c) →
      (a b : Position) → Front free (f e) a b → Front free (varied c d f) a b
  unfolding Reads
  varied_in f e t a b x = record { text = x.text; has_form = (e, t, x.has_form); in_front = x.in_front; moved = x.moved }

  pub varied_out : {c : Per.Freedom} {d : Per.Detail c} (f : Per.Detail c → Per.BitForm) (a b : Position) → Front free (varied c d f) a b →
      (e : Per.Detail c) × ((e ≡ d) ⊎ IsTrue (free c)) × Front free (f e) a b
  unfolding Reads
  varied_out f a b x = let r = x.has_form in (r.0, r.1, record { text = x.text; has_form = r.2; in_front = x.in_front; moved = x.moved })

  pub given_in : {X : Type 0} (o : Option X) (f : X → Per.BitForm) (x : X) → o ≡ Some x → (a b : Position) → Front free (f x) a b → Front free (given o f) a b
  given_in o f x e a b t = rw e t

  pub given_out : {X : Type 0} (o : Option X) (f : X → Per.BitForm) (a b : Position) → Front free (given o f) a b → (x : X) × (o ≡ Some x) × Front free (f x) a b
  given_out None f a b t = absurd (of_refused a b t)
  given_out (Some x) f a b t = (x, refl, t)

  pub if_out : (t : Bool) (x : Per.BitForm) (a b : Position) → Front free (only_if t x) a b → (t ≡ true) × Front free x a b
  if_out true x a b f = (refl, f)
  if_out false x a b f = absurd (of_refused a b f)

  pub if_in : (t : Bool) (x : Per.BitForm) (a b : Position) → t ≡ true → Front free x a b → Front free (only_if t x) a b
  if_in true x a b e f = f
  if_in false x a b e f = cc

  -- a last length is below 16384
  abbrev last_form : Bool → ℕ → Per.BitForm
  last_form long n = cond long (only_if (ltb n 16384) (exactly (true ∷ false ∷ binary 14 n))) (only_if (ltb n 128) (exactly (false ∷ binary 7 n)))

  last_bound : (long : Bool) (n : ℕ) (a b : Position) → Front free (last_form long n) a b → n < 16384
  last_bound true n a b f = ltb-true n 16384 (if_out (ltb n 16384) _ a b f).0
  last_bound false n a b f = let l = ltb-true n 128 (if_out (ltb n 128) _ a b f).0 in omega arith

  pub short_bound : (al : Bool) (n : ℕ) (a b : Position) → Front free (Per.short_length al n) a b → n < 16384
  unfolding Per.short_length Per.at_octet
  short_bound false n a b f = let v = varied_out {c = Per.two_octet_length} (λ long. last_form long n) a b f in last_bound v.0 n a b v.2
  short_bound true n a b f =
      let s = split _ _ a b f in
      let v = varied_out {c = Per.two_octet_length} (λ long. last_form long n) s.0 b s.2 in
      last_bound v.0 n s.0 b v.2

  -- what only a freedom allows
  pub let_through : (c : Per.Freedom) (e : Bool) (x : Per.BitForm) (p : ℕ) (w : List Bool) → ((e ≡ false) ⊎ IsTrue (free c)) → Reads free (only_if e x) p w → IsTrue (free c) × Reads free x p w
  unfolding Reads
  let_through c true x p w (inl d) r = cc
  let_through c true x p w (inr t) r = (t, r)
  let_through c false x p w d r = absurd r

  module _ (al : Bool) where
    abbrev pub Step : State → Record → State → Type 0
    Step a r b = Takes al free a r b

    -- ---- records
    pub single : (x : Per.BitForm) (r : Record) → ((a b : State) → Takes al free a r b → Found free x a b) →
        ((a b : State) → Found free x a b → Takes al free a r b) → (a b : State) → Chain Step (r ∷ []) a b ↔ Found free x a b
    single x r f g a b = (λ c. f a b (subst (λ m. Takes al free a r m) (sym c.2) c.1), λ t. (b, g a b t, refl))

    pub none : (a b : State) → Chain Step (mismatch ∷ []) a b ↔ Found free refused a b
    none a b = (λ c. absurd c.1, λ t. absurd (of_refused a.0 b.0 t.0))

    -- the same from a state that is known by its parts
    pub from_state : (rs : List Record) (a b : State) (p : Position) (k : List Scope) → a ≡ (p, k) → Chain Step rs a b → Chain Step rs (p, k) b
    from_state rs a b p k e c = subst (λ s. Chain Step rs s b) e c

    pub from_scopes : (rs : List Record) (a b : State) (k : List Scope) → a.1 ≡ k → Chain Step rs a b → Chain Step rs (a.0, k) b
    from_scopes rs a b k e c = from_state rs a b a.0 k (state_same a (a.0, k) refl e) c

    -- ---- what is noted after a component
    pub noted_in : (d g : Bool) (x : Per.BitForm) (a m b : State) → Found free x a m → Chain Step (noted_by d g) m b → Found free (spelled_by d g x) a b
    unfolding Reads
    noted_in true g x a m b f c = subst (λ s. Found free (spelled_by true g x) a s) (sym (c.2 ∙ c.1.1))
        (record { text = f.0.text; has_form = (true, inr c.1.0, f.0.has_form); in_front = f.0.in_front; moved = f.0.moved }, f.1)
    noted_in false true x a m b f c = subst (λ s. Found free (spelled_by false true x) a s) (sym (c.2 ∙ c.1.1))
        (record { text = f.0.text; has_form = (true, inr c.1.0, f.0.has_form); in_front = f.0.in_front; moved = f.0.moved }, f.1)
    noted_in false false x a m b f c = subst (λ s. Found free x a s) (sym c) f

    pub noted_out : (d g : Bool) (x : Per.BitForm) (a b : State) → Found free (spelled_by d g x) a b → Found free x a b × Chain Step (noted_by d g) b b
    unfolding Reads
    noted_out true g x a b f =
        let r = f.0.has_form in
        let t = let_through Per.default_spelled_out r.0 x a.0.0 f.0.text r.1 r.2 in
        ((record { text = f.0.text; has_form = t.1; in_front = f.0.in_front; moved = f.0.moved }, f.1), (b, (t.0, refl), refl))
    noted_out false true x a b f =
        let r = f.0.has_form in
        let t = let_through Per.empty_group r.0 x a.0.0 f.0.text r.1 r.2 in
        ((record { text = f.0.text; has_form = t.1; in_front = f.0.in_front; moved = f.0.moved }, f.1), (b, (t.0, refl), refl))
    noted_out false false x a b f = (f, refl)

    -- a component that is present, and what is noted after it
    pub there_in : (s : Schema) (v : Value) → Finds al free s → (d g : Bool) (a b : State) → Chain Step (presents s v ++ noted_by d g) a b → Found free (spelled_by d g (Per.form al s v)) a b
    there_in s v h d g a b c =
        let q = chain_split Step (presents s v) (noted_by d g) a b c in
        noted_in d g (Per.form al s v) a q.0 b (h v a q.0 q.1) q.2

    pub there_out : (s : Schema) → Shows al free s → (o : Presence) (v : Value) (a b : State) →
        Found free (spelled_by (is_at_default o s v) (is_group_left_out s v) (Per.form al s v)) a b → (w : Value) × Like s v w ×
        Chain Step (presents s w ++ noted_by (is_at_default o s w) (is_group_left_out s w)) a b
    there_out s h o v a b f =
        let q = noted_out (is_at_default o s v) (is_group_left_out s v) (Per.form al s v) a b f in
        let r = h v a b q.0 in
        let c : Chain Step (noted_by (is_at_default o s r.0) (is_group_left_out s r.0)) b b = subst (λ l. Chain Step l b b) (noted_same o s v r.0 r.1.0) q.1 in
        (r.0, r.1, chain_append Step (presents s r.0) (noted_by (is_at_default o s r.0) (is_group_left_out s r.0)) a b b r.2 c)
