-- Compositions of forms at the start of the octets, and what is noted after a component.
use Rattle.std.proofs.Common.{◌≡◌, ◌⊎◌, inl, inr, ◌↔◌, ℕ, ◌+◌, Bool, true, false, cond, IsTrue, List, [], ◌∷◌, ◌++◌, length, Option, Some, None, refl, ap, sym, ◌∙◌, subst, append_assoc}
use Rattle.asn1_model.specs.Value.{Value}
use Rattle.asn1_model.specs.Normal.{is_at_default, is_group_left_out}
use Rattle.asn1_model.specs.Schema.{Presence, Schema}
use Rattle.asn1_model.specs.Form.{exactly, refused, both, varied, Reads, only_if, given}
use Rattle.asn1_model.specs.Oer
use Rattle.asn1_laws_values.proofs.Same.{same_self}
use Rattle.asn1_schema_laws.specs.Records.{Record, mismatch}
use Rattle.asn1_schema_laws.specs.Presents.{presents}
use Rattle.asn1_schema_laws.specs.Chains.{Chain}
use Rattle.asn1_schema_laws.proofs.Chains.{chain_split, chain_append}
use Rattle.oer_codec_laws.specs.Takes.{State, Scope, Front, Found, Takes}
use Rattle.oer_codec_laws.specs.Laws.{Bridges}
use Rattle.asn1_schema_reading_laws.proofs.Alike.{Like, noted_by, noted_same}
use Rattle.oer_codec_laws.proofs.Next.{state_same}
use Rattle.oer_codec_laws.proofs.Anywhere.{Moves}

-- the form of a component by what is noted after it
abbrev pub spelled_by : Bool → Bool → Oer.OctetForm → Oer.OctetForm
spelled_by d g x = cond d (varied Oer.default_spelled_out false (λ b. only_if b x)) (cond g (varied Oer.empty_group false (λ b. only_if b x)) x)

-- the records of a value are found if the octets have its form
abbrev pub Finds : (Oer.Freedom → Bool) → Schema → Type 0
Finds free s = (v : Value) (a b : State) → Chain (Takes free) (presents s v) a b → Found free (Oer.form s v) a b

-- and if octets have its form, the records are found of a value like it
abbrev pub Shows : (Oer.Freedom → Bool) → Schema → Type 0
Shows free s = (v : Value) (a b : State) → Found free (Oer.form s v) a b → (w : Value) × Like s v w × Chain (Takes free) (presents s w) a b

-- if both are about the very value
pub by_itself : (free : Oer.Freedom → Bool) (s : Schema) → ((v : Value) → Bridges free s v) → Finds free s × Shows free s
by_itself free s h = (λ v a b c. (h v a b).0 c, λ v a b f. (v, (same_self v, λ e. refl), (h v a b).1 f))

module _ (free : Oer.Freedom → Bool) where
  abbrev pub Step : State → Record → State → Type 0
  Step a r b = Takes free a r b

  -- ---- forms
  pub nothing_front : (os : List ℕ) → Front free (exactly []) os os
  unfolding Reads
  nothing_front os = record { text = []; has_form = refl; in_front = refl }

  pub of_nothing : (os rest : List ℕ) → Front free (exactly []) os rest → rest ≡ os
  unfolding Reads
  of_nothing os rest f = ap (λ l. l ++ rest) f.has_form ∙ f.in_front

  pub of_refused : (os rest : List ℕ) → Front free refused os rest → ⊥
  unfolding Reads
  of_refused os rest f = f.has_form

  pub split : (x y : Oer.OctetForm) → Moves free y → (os rest : List ℕ) → Front free (both x y) os rest → (mid : List ℕ) × Front free x os mid × Front free y mid rest
  unfolding Reads
  split x y h os rest f =
      let r = f.has_form in (
        r.1 ++ rest,
        record { text = r.0; has_form = r.2; in_front = sym (append_assoc r.0 r.1 rest) ∙ ap (λ l. l ++ rest) r.4 ∙ f.in_front },
        record { text = r.1; has_form = h.moved (0 + length r.0) 0 r.1 r.3; in_front = refl },
      )

  pub join : (x y : Oer.OctetForm) → Moves free y → (os mid rest : List ℕ) → Front free x os mid → Front free y mid rest → Front free (both x y) os rest
  unfolding Reads
  join x y h os mid rest f g = record {
    text = f.text ++ g.text;
    has_form = (f.text, g.text, f.has_form, h.moved 0 (0 + length f.text) g.text g.has_form, refl);
    in_front = append_assoc f.text g.text rest ∙ ap (λ l. f.text ++ l) g.in_front ∙ f.in_front;
  }

  pub varied_in : {c : Oer.Freedom} {d : Oer.Detail c} (f : Oer.Detail c → Oer.OctetForm) (e : Oer.Detail c) → IsTrue (free c) → (os rest : List ℕ) →
      Front free (f e) os rest → Front free (varied c d f) os rest
  unfolding Reads
  varied_in f e t os rest x = record { text = x.text; has_form = (e, inr t, x.has_form); in_front = x.in_front }

  pub varied_out : {c : Oer.Freedom} {d : Oer.Detail c} (f : Oer.Detail c → Oer.OctetForm) (os rest : List ℕ) → Front free (varied c d f) os rest → (e : Oer.Detail c) × Front free (f e) os rest
  unfolding Reads
  varied_out f os rest x = let r = x.has_form in (r.0, record { text = x.text; has_form = r.2; in_front = x.in_front })

  pub given_in : {X : Type 0} (o : Option X) (f : X → Oer.OctetForm) (x : X) → o ≡ Some x → (os rest : List ℕ) → Front free (f x) os rest → Front free (given o f) os rest
  given_in o f x e os rest t = rw e t

  pub given_out : {X : Type 0} (o : Option X) (f : X → Oer.OctetForm) (os rest : List ℕ) → Front free (given o f) os rest → (x : X) × (o ≡ Some x) × Front free (f x) os rest
  given_out None f os rest t = absurd (of_refused os rest t)
  given_out (Some x) f os rest t = (x, refl, t)

  pub if_out : (t : Bool) (x : Oer.OctetForm) (os rest : List ℕ) → Front free (only_if t x) os rest → (t ≡ true) × Front free x os rest
  if_out true x os rest f = (refl, f)
  if_out false x os rest f = absurd (of_refused os rest f)

  pub if_in : (t : Bool) (x : Oer.OctetForm) (os rest : List ℕ) → t ≡ true → Front free x os rest → Front free (only_if t x) os rest
  if_in true x os rest e f = f
  if_in false x os rest e f = cc

  -- what only a freedom allows
  pub let_through : (c : Oer.Freedom) (e : Bool) (x : Oer.OctetForm) (p : ℕ) (w : List ℕ) → ((e ≡ false) ⊎ IsTrue (free c)) → Reads free (only_if e x) p w → IsTrue (free c) × Reads free x p w
  unfolding Reads
  let_through c true x p w (inl d) r = cc
  let_through c true x p w (inr t) r = (t, r)
  let_through c false x p w d r = absurd r

  -- ---- records
  pub single : (x : Oer.OctetForm) (r : Record) → ((a b : State) → Takes free a r b → Found free x a b) →
      ((a b : State) → Found free x a b → Takes free a r b) → (a b : State) → Chain Step (r ∷ []) a b ↔ Found free x a b
  single x r f g a b = (λ c. f a b (subst (λ m. Takes free a r m) (sym c.2) c.1), λ t. (b, g a b t, refl))

  pub mismatched : (rs : List Record) (a b : State) → Chain Step (mismatch ∷ rs) a b → ⊥
  mismatched rs a b c = c.1

  pub none : (a b : State) → Chain Step (mismatch ∷ []) a b ↔ Found free refused a b
  none a b = (λ c. absurd c.1, λ t. absurd (of_refused a.0 b.0 t.0))

  -- the same from a state that is known by its parts
  pub from_state : (rs : List Record) (a b : State) (os : List ℕ) (k : List Scope) → a ≡ (os, k) → Chain Step rs a b → Chain Step rs (os, k) b
  from_state rs a b os k e c = subst (λ s. Chain Step rs s b) e c

  pub from_scopes : (rs : List Record) (a b : State) (k : List Scope) → a.1 ≡ k → Chain Step rs a b → Chain Step rs (a.0, k) b
  from_scopes rs a b k e c = from_state rs a b a.0 k (state_same a (a.0, k) refl e) c

  -- ---- what is noted after a component
  pub noted_in : (d g : Bool) (x : Oer.OctetForm) (a m b : State) → Found free x a m → Chain Step (noted_by d g) m b → Found free (spelled_by d g x) a b
  unfolding Reads
  noted_in true g x a m b f c = subst (λ s. Found free (spelled_by true g x) a s) (sym (c.2 ∙ c.1.1))
      (record { text = f.0.text; has_form = (true, inr c.1.0, f.0.has_form); in_front = f.0.in_front }, f.1)
  noted_in false true x a m b f c = subst (λ s. Found free (spelled_by false true x) a s) (sym (c.2 ∙ c.1.1))
      (record { text = f.0.text; has_form = (true, inr c.1.0, f.0.has_form); in_front = f.0.in_front }, f.1)
  noted_in false false x a m b f c = subst (λ s. Found free x a s) (sym c) f

  pub noted_out : (d g : Bool) (x : Oer.OctetForm) (a b : State) → Found free (spelled_by d g x) a b → Found free x a b × Chain Step (noted_by d g) b b
  unfolding Reads
  noted_out true g x a b f =
      let r = f.0.has_form in
      let t = let_through Oer.default_spelled_out r.0 x 0 f.0.text r.1 r.2 in
      ((record { text = f.0.text; has_form = t.1; in_front = f.0.in_front }, f.1), (b, (t.0, refl), refl))
  noted_out false true x a b f =
      let r = f.0.has_form in
      let t = let_through Oer.empty_group r.0 x 0 f.0.text r.1 r.2 in
      ((record { text = f.0.text; has_form = t.1; in_front = f.0.in_front }, f.1), (b, (t.0, refl), refl))
  noted_out false false x a b f = (f, refl)

  -- a component that is present, and what is noted after it
  pub there_in : (s : Schema) (v : Value) → Finds free s → (d g : Bool) (a b : State) → Chain Step (presents s v ++ noted_by d g) a b → Found free (spelled_by d g (Oer.form s v)) a b
  there_in s v h d g a b c =
      let q = chain_split Step (presents s v) (noted_by d g) a b c in
      noted_in d g (Oer.form s v) a q.0 b (h v a q.0 q.1) q.2

  pub there_out : (s : Schema) → Shows free s → (o : Presence) (v : Value) (a b : State) →
      Found free (spelled_by (is_at_default o s v) (is_group_left_out s v) (Oer.form s v)) a b → (w : Value) × Like s v w ×
      Chain Step (presents s w ++ noted_by (is_at_default o s w) (is_group_left_out s w)) a b
  there_out s h o v a b f =
      let q = noted_out (is_at_default o s v) (is_group_left_out s v) (Oer.form s v) a b f in
      let r = h v a b q.0 in
      let c : Chain Step (noted_by (is_at_default o s r.0) (is_group_left_out s r.0)) b b = subst (λ l. Chain Step l b b) (noted_same o s v r.0 r.1.0) q.1 in
      (r.0, r.1, chain_append Step (presents s r.0) (noted_by (is_at_default o s r.0) (is_group_left_out s r.0)) a b b r.2 c)
