-- Sequences, sets and groups, as a reader finds them: the preamble and the root, and additions after a bitmap.
use Rattle.std.proofs.Common.{◌≡◌, ◌⊎◌, ℕ, Bool, true, false, cond, IsTrue, List, [], ◌∷◌, ◌++◌, map, Option, Some, None, option_map, refl, ap, sym, ◌∙◌, subst}
use Rattle.std.proofs.lemmas.List.{append-nil}
use Rattle.asn1_model.specs.Value.{Value, Parts, end, absent, present}
use Rattle.asn1_model.specs.Schema.{Presence, Schema, Components, no_component, component}
use Rattle.asn1_model.specs.Normal.{is_at_default, is_group_left_out}
use Rattle.asn1_model.specs.Normal.{is_required, presence_bits}
use Rattle.asn1_model.specs.Form.{exactly, both, joined, present_ones, Reads}
use Rattle.std.specs.Prelude.{is_some}
use Rattle.asn1_model.specs.Oer
use Rattle.asn1_model.proofs.Forms.{map_parts}
use Rattle.asn1_schema_reading_laws.proofs.PresenceBits.{presence_bits_count}
use Rattle.asn1_schema_laws.specs.Records.{Record, addition, addition_ends, ends, mismatch}
use Rattle.asn1_schema_laws.specs.Presents.{presents, root_records, added_records, optional_count}
use Rattle.asn1_schema_laws.specs.Chains.{Chain}
use Rattle.asn1_schema_laws.proofs.Chains.{chain_split, chain_append}
use Rattle.oer_codec_laws.specs.Takes.{State, Scope, components, added, open_type, Front, Found, Begins, Opens, Closes, AdditionEnds, Skips}
use Rattle.asn1_schema_reading_laws.specs.PresenceBits.{preamble_bits}
use Rattle.oer_codec_laws.proofs.Next.{state_same}
use Rattle.oer_codec_laws.proofs.Anywhere.{Moves, AllMove, components_move, additions_move, joined_moves}
use Rattle.asn1_schema_reading_laws.proofs.Alike.{Like, LikeParts, parts_self, like_present, like_absent, noted_by, noted_same}
use Rattle.oer_codec_laws.proofs.Fronts.{Finds, Shows, Step, nothing_front, of_nothing, split, join, from_state, from_scopes, spelled_by, noted_in, noted_out}
use Rattle.oer_codec_laws.proofs.Parts.{EachFinds, EachShows, root_in, root_out}

module _ (free : Oer.Freedom → Bool) where
  -- ---- the preamble and the root
  abbrev pub Opened : Bool → Components → Parts → List Record → State → State → Type 0
  Opened e cs ps rs a b = (x : Option Bool) × (more : List Bool) × (os : List ℕ) × (mid : List ℕ) × (is_some x ≡ e) ×
      Front free (Oer.preamble (preamble_bits x (presence_bits cs ps ++ more))) a.0 os × Front free (Oer.component_forms cs ps) os mid × Chain (Step free) rs (mid, components x more ∷ a.1) b

  pub begun_in : (e : Bool) (cs : Components) → EachFinds free cs → (ps : Parts) (rs : List Record) (a m b : State) →
      Begins free e (optional_count cs) a m → Chain (Step free) (root_records cs ps rs) m b → Opened e cs ps rs a b
  begun_in e cs h ps rs a m b t c =
      let r = root_in free cs h ps rs t.0 a.1 b t.1 m.0 (from_scopes free (root_records cs ps rs) m b (components t.0 t.1 ∷ a.1) t.5 c) in
      (t.0, r.1, m.0, r.0, t.2, subst (λ l. Front free (Oer.preamble (preamble_bits t.0 l)) a.0 m.0) r.2 t.4, r.3, r.4)

  -- the root, of components that are like these
  abbrev pub Closed : Bool → Components → Parts → List Record → State → State → Type 0
  Closed e cs ps rs a b = (qs : Parts) × (m : State) × LikeParts cs ps qs × Begins free e (optional_count cs) a m × Chain (Step free) (root_records cs qs rs) m b

  pub begun_out : (e : Bool) (cs : Components) → EachShows free cs →
      (ps : Parts) (rs : List Record) (a b : State) (x : Option Bool) (os mid : List ℕ) → is_some x ≡ e →
      Front free (Oer.preamble (preamble_bits x (presence_bits cs ps))) a.0 os → Front free (Oer.component_forms cs ps) os mid →
      Chain (Step free) rs (mid, components x [] ∷ a.1) b → Closed e cs ps rs a b
  begun_out e cs h ps rs a b x os mid i f g c =
      let r = root_out free cs h ps rs x [] os mid a.1 b g c in
      let ms : List Bool = presence_bits cs r.0 in
      let d : Chain (Step free) (root_records cs r.0 rs) (os, components x ms ∷ a.1) b = subst (λ l. Chain (Step free) (root_records cs r.0 rs) (os, components x l ∷ a.1) b) (append-nil ms) r.3 in
      let f' : Front free (Oer.preamble (preamble_bits x ms)) a.0 os = subst (λ l. Front free (Oer.preamble (preamble_bits x l)) a.0 os) (sym r.2) f in
      (r.0, (os, components x ms ∷ a.1), r.1, (x, ms, i, presence_bits_count cs r.0, f', refl), d)

  -- ---- without an extension marker
  closed_in : (x : Option Bool) (more : List Bool) (mid : List ℕ) (k : List Scope) (b : State) → is_some x ≡ false →
      Chain (Step free) (ends ∷ []) (mid, components x more ∷ k) b → (x ≡ None) × (more ≡ []) × (b ≡ (mid, k))
  closed_in None [] mid k b e c = (refl, refl, c.2 ∙ c.1)
  closed_in None (z ∷ zs) mid k b e c = absurd c.1
  closed_in (Some y) more mid k b e c = cc

  abbrev Plain : Components → Parts → Oer.OctetForm
  Plain cs ps = both (Oer.preamble (presence_bits cs ps)) (Oer.component_forms cs ps)

  pub plain_in : (cs : Components) → EachFinds free cs → (ps : Parts) (a m b : State) → Begins free false (optional_count cs) a m →
      Chain (Step free) (root_records cs ps (ends ∷ [])) m b → Found free (Plain cs ps) a b
  plain_in cs h ps a m b t c =
      let o = begun_in false cs h ps (ends ∷ []) a m b t c in
      let e = closed_in o.0 o.1 o.3 a.1 b o.4 o.7 in
      let f : Front free (Oer.preamble (presence_bits cs ps ++ [])) a.0 o.2 =
      subst (λ l. Front free (Oer.preamble (presence_bits cs ps ++ l)) a.0 o.2) e.1 (subst (λ x. Front free (Oer.preamble (preamble_bits x (presence_bits cs ps ++ o.1))) a.0 o.2) e.0 o.5) in
      let g : Front free (Oer.preamble (presence_bits cs ps)) a.0 o.2 = subst (λ l. Front free (Oer.preamble l) a.0 o.2) (append-nil (presence_bits cs ps)) f in
      subst (λ s. Found free (Plain cs ps) a s) (sym e.2) (join free (Oer.preamble (presence_bits cs ps)) (Oer.component_forms cs ps) (components_move free cs ps) a.0 o.2 o.3 g o.6, refl)

  pub plain_out : (cs : Components) → EachShows free cs → (ps : Parts) (a b : State) → Found free (Plain cs ps) a b → Closed false cs ps (ends ∷ []) a b
  plain_out cs h ps a b f =
      let q = split free (Oer.preamble (presence_bits cs ps)) (Oer.component_forms cs ps) (components_move free cs ps) a.0 b.0 f.0 in
      begun_out false cs h ps (ends ∷ []) a b None q.0 b.0 refl q.1 q.2 (b, state_same b (b.0, a.1) refl f.1, refl)

  -- ---- open types
  pub open_in : (x : Oer.OctetForm) (os rest inner left : List ℕ) → Front free (Oer.counted inner) os rest → Front free x inner left →
      (left ≡ []) ⊎ IsTrue (free Oer.octets_behind) → Front free (Oer.open_type x) os rest
  unfolding Oer.open_type Reads
  open_in x os rest inner left f g t =
      record { text = f.text; has_form = (g.text, g.has_form, (left, t, subst (λ l. Reads free (Oer.counted l) 0 f.text) (sym g.in_front) f.has_form)); in_front = f.in_front }

  pub open_out : (x : Oer.OctetForm) (os rest : List ℕ) → Front free (Oer.open_type x) os rest → (inner : List ℕ) × (left : List ℕ) ×
      Front free (Oer.counted inner) os rest × Front free x inner left × ((left ≡ []) ⊎ IsTrue (free Oer.octets_behind))
  unfolding Oer.open_type Reads
  open_out x os rest f =
      let r = f.has_form in
      (r.0 ++ r.2.0, r.2.0, record { text = f.text; has_form = r.2.2; in_front = f.in_front }, record { text = r.0; has_form = r.1; in_front = refl }, r.2.1)

  -- ---- additions
  -- what is read of additions: those of these bits, and unknown ones
  abbrev pub AddRead : Option (List (Option Oer.OctetForm)) → List Bool → List Bool → List ℕ → List Scope → State → Type 0
  AddRead o ms us os k b = (xs : List (Option Oer.OctetForm)) × (mid : List ℕ) × (o ≡ Some xs) × (map (λ a. is_some a) xs ≡ ms) ×
      Front free (joined (present_ones xs)) os mid × Skips free us mid b.0 × (b.1 ≡ k)

  abbrev Adds : Option (List (Option Oer.OctetForm)) → List Record → List Bool → List Scope → State → Type 0
  Adds o tail us k b = (ms : List Bool) (os : List ℕ) → Chain (Step free) tail (os, added ms us ∷ k) b → AddRead o ms us os k b

  nothing_added : (rs : List Record) (us : List Bool) (k : List Scope) (b : State) → Adds None (mismatch ∷ rs) us k b
  nothing_added rs us k b ms os c = absurd c.1

  joined_move : (o : Option (List (Option Oer.OctetForm))) → AllMove free o → (xs : List (Option Oer.OctetForm)) → o ≡ Some xs → Moves free (joined (present_ones xs))
  joined_move o h xs e = let t : AllMove free (Some xs) = subst (λ p. AllMove free p) e h in joined_moves free xs t

  abbrev Opening : Schema → Value → Bool → Bool → Oer.OctetForm
  Opening s v d g = spelled_by d g (Oer.open_type (Oer.form s v))

  abbrev Its : Schema → Value → Bool → Bool → List Record
  Its s v d g = presents s v ++ (addition_ends ∷ noted_by d g)

  -- an addition that is present, from its first octet to the last one after it
  one_in : (s : Schema) (v : Value) → Finds free s → (d g : Bool) (os : List ℕ) (ms us : List Bool) (k : List Scope) (m n : State) →
      Opens free os (added ms us ∷ k) m → Chain (Step free) (Its s v d g) m n → Found free (Opening s v d g) (os, added ms us ∷ k) n
  one_in s v h d g os ms us k m n opens c =
      let rest : List ℕ = opens.0 in
      let p = chain_split (Step free) (presents s v) (addition_ends ∷ noted_by d g) m n c in
      let j : State = p.0 in
      let f = h v m j p.1 in
      let l : State = p.2.0 in
      let closes : Closes free j.0 rest (added ms us ∷ k) l = subst (λ x. AdditionEnds free j.0 x l) (f.1 ∙ opens.2) p.2.1 in
      let w : Front free (Oer.open_type (Oer.form s v)) os rest = open_in (Oer.form s v) os rest m.0 j.0 opens.1 f.0 closes.0 in
      let z : Found free (Oer.open_type (Oer.form s v)) (os, added ms us ∷ k) l = subst (λ x. Found free (Oer.open_type (Oer.form s v)) (os, added ms us ∷ k) x) (sym closes.1) (w, refl) in
      noted_in free d g (Oer.open_type (Oer.form s v)) (os, added ms us ∷ k) l n z p.2.2

  there : (s : Schema) (v : Value) → Finds free s → (d g : Bool) (o : Option (List (Option Oer.OctetForm))) → AllMove free o →
      (tail : List Record) (us : List Bool) (k : List Scope) (b : State) → Adds o tail us k b → Adds (option_map (λ xs. Some (Opening s v d g) ∷ xs) o) ((addition true ∷ Its s v d g) ++ tail) us k b
  there s v h d g o moves tail us k b others [] os c = absurd c.1
  there s v h d g o moves tail us k b others (false ∷ ms) os c = let e = c.1.0 in cc
  there s v h d g o moves tail us k b others (true ∷ ms) os c =
      let q = chain_split (Step free) (Its s v d g) tail c.0 b c.2 in
      let y = one_in s v h d g os ms us k c.0 q.0 c.1.1 q.1 in
      let r = others ms q.0.0 (from_scopes free tail q.0 b (added ms us ∷ k) y.1 q.2) in (
        Some (Opening s v d g) ∷ r.0,
        r.1,
        ap (option_map (λ xs. Some (Opening s v d g) ∷ xs)) r.2,
        ap (λ x. true ∷ x) r.3,
        join free (Opening s v d g)
            (joined (present_ones r.0)) (joined_move o moves r.0 r.2) os q.0.0 r.1 y.0 r.4,
        r.5,
        r.6,
      )

  left_out : (o : Option (List (Option Oer.OctetForm))) (tail : List Record) (us : List Bool) (k : List Scope) (b : State) → Adds o tail us k b →
      Adds (option_map (λ xs. None ∷ xs) o) (addition false ∷ tail) us k b
  left_out o tail us k b others [] os c = absurd c.1
  left_out o tail us k b others (true ∷ ms) os c = let e = c.1.0 in cc
  left_out o tail us k b others (false ∷ ms) os c =
      let r = others ms os (from_state free tail c.0 b os (added ms us ∷ k) c.1.1 c.2) in
      (None ∷ r.0, r.1, ap (option_map (λ xs. None ∷ xs)) r.2, ap (λ x. false ∷ x) r.3, r.4, r.5, r.6)

  maybe_left_out : (q : Bool) (o : Option (List (Option Oer.OctetForm))) (tail : List Record) (us : List Bool) (k : List Scope) (b : State) →
      Adds o tail us k b → Adds (cond q None (option_map (λ xs. None ∷ xs) o)) (cond q (mismatch ∷ []) (addition false ∷ []) ++ tail) us k b
  maybe_left_out true o tail us k b others = nothing_added tail us k b
  maybe_left_out false o tail us k b others = left_out o tail us k b others

  all_added : (us : List Bool) (k : List Scope) (b : State) → Adds (Some []) (ends ∷ []) us k b
  all_added us k b (z ∷ ms) os c = absurd c.1
  all_added us k b [] os c =
      let m : State = c.0 in
      let e : b ≡ m = c.2 in
      ([], os, refl, refl, nothing_front free os, subst (λ (s : State). Skips free us os s.0) (sym e) c.1.0, ap (λ (s : State). s.1) e ∙ c.1.1)

  pub added_in : (cs : Components) → EachFinds free cs → (qs : Parts) (us : List Bool) (k : List Scope) (b : State) → Adds (Oer.addition_forms cs qs) (added_records cs qs) us k b
  unfolding added_records Oer.addition_forms Oer.spelled
  added_in no_component h end us k b = all_added us k b
  added_in no_component h (absent qs) us k b = nothing_added [] us k b
  added_in no_component h (present v qs) us k b = nothing_added [] us k b
  added_in (component t o s cs) h (present v qs) us k b = there s v h.0 (is_at_default o s v) (is_group_left_out s v) (Oer.addition_forms cs qs)
      (additions_move free cs qs) (added_records cs qs) us k b (added_in cs h.1 qs us k b)
  added_in (component t o s cs) h (absent qs) us k b = maybe_left_out (is_required o) (Oer.addition_forms cs qs) (added_records cs qs) us k b (added_in cs h.1 qs us k b)
  added_in (component t o s cs) h end us k b = nothing_added [] us k b

  -- and back
  abbrev pub AddOut : Components → Parts → List Bool → List Bool → List ℕ → List Scope → State → Type 0
  AddOut cs qs ms us os k b = (rs : Parts) × LikeParts cs qs rs × Chain (Step free) (added_records cs rs) (os, added ms us ∷ k) b

  abbrev OneOut : Presence → Schema → Value → List ℕ → List ℕ → List Scope → Type 0
  OneOut o s v os rest k = (w : Value) × (m : State) × Like s v w × Opens free os k m × Chain (Step free) (Its s w (is_at_default o s w) (is_group_left_out s w)) m (rest, k)

  one_out : (s : Schema) → Shows free s → (o : Presence) (v : Value) (os rest : List ℕ) (ms us : List Bool) (k : List Scope) →
      Front free (Opening s v (is_at_default o s v) (is_group_left_out s v)) os rest → OneOut o s v os rest (added ms us ∷ k)
  one_out s h o v os rest ms us k f =
      let here : State = (os, added ms us ∷ k) in
      let after : State = (rest, added ms us ∷ k) in
      let w = noted_out free (is_at_default o s v) (is_group_left_out s v) (Oer.open_type (Oer.form s v)) here after (f, refl) in
      let z = open_out (Oer.form s v) os rest w.0.0 in
      let m : State = (z.0, open_type rest ∷ added ms us ∷ k) in
      let j : State = (z.1, open_type rest ∷ added ms us ∷ k) in
      let r = h v m j (z.3, refl) in
      let c : Chain (Step free) (noted_by (is_at_default o s r.0) (is_group_left_out s r.0)) after after = subst (λ l. Chain (Step free) l after after) (noted_same o s v r.0 r.1.0) w.1 in
      (r.0, m, r.1, (rest, z.2, refl), chain_append (Step free) (presents s r.0) (addition_ends ∷ noted_by (is_at_default o s r.0) (is_group_left_out s r.0)) m j after r.2 (after, (z.4, refl), c))

  -- the first of the additions' flags
  first_flag : (x : Option Oer.OctetForm) (o : Option (List (Option Oer.OctetForm))) (ms us : List Bool) (os : List ℕ) (k : List Scope) (b : State) →
      AddRead (option_map (λ xs. x ∷ xs) o) ms us os k b → (ys : List (Option Oer.OctetForm)) × (o ≡ Some ys) ×
      (ms ≡ is_some x ∷ map (λ a. is_some a) ys) × (mid : List ℕ) × Front free (joined (present_ones (x ∷ ys))) os mid × Skips free us mid b.0 × (b.1 ≡ k)
  first_flag x o ms us os k b r =
      let t = map_parts o (λ xs. x ∷ xs) r.0 r.2 in
      (t.0, t.1, sym (ap (λ xs. map (λ a. is_some a) xs) t.2 ∙ r.3), r.1, subst (λ xs. Front free (joined (present_ones xs)) os r.1) (sym t.2) r.4, r.5, r.6)

  -- unless it is required, an addition may be absent
  unless_required : (q : Bool) (o : Option (List (Option Oer.OctetForm))) (xs : List (Option Oer.OctetForm)) → cond q None o ≡ Some xs → (q ≡ false) × (o ≡ Some xs)
  unless_required true o xs e = cc
  unless_required false o xs e = (refl, e)

  back_absent : (q : Bool) → q ≡ false → (tail : List Record) (ms us : List Bool) (os : List ℕ) (k : List Scope) (b : State) →
      Chain (Step free) tail (os, added ms us ∷ k) b → Chain (Step free) (cond q (mismatch ∷ []) (addition false ∷ []) ++ tail) (os, added (false ∷ ms) us ∷ k) b
  back_absent true e tail ms us os k b c = cc
  back_absent false e tail ms us os k b c = ((os, added ms us ∷ k), (refl, refl), c)

  pub added_out : (cs : Components) → EachShows free cs → (qs : Parts) (ms us : List Bool) (os : List ℕ) (k : List Scope) (b : State) →
      AddRead (Oer.addition_forms cs qs) ms us os k b → AddOut cs qs ms us os k b
  unfolding added_records Oer.addition_forms Oer.spelled
  added_out no_component h end ms us os k b r =
      let e : r.0 ≡ [] = cc r.2 in
      let f : Front free (exactly []) os r.1 = subst (λ xs. Front free (joined (present_ones xs)) os r.1) e r.4 in
      let g : [] ≡ ms = ap (λ xs. map (λ a. is_some a) xs) (sym e) ∙ r.3 in
      (end, (parts_self end, λ q. refl), subst (λ l. Chain (Step free) (ends ∷ []) (os, added l us ∷ k) b) g (b, (subst (λ l. Skips free us l b.0) (of_nothing free os r.1 f) r.5, r.6), refl))
  added_out no_component h (absent qs) ms us os k b r = cc r.2
  added_out no_component h (present v qs) ms us os k b r = cc r.2
  added_out (component t o s cs) h (present v qs) ms us os k b r =
      let x : Oer.OctetForm = Opening s v (is_at_default o s v) (is_group_left_out s v) in
      let p = first_flag (Some x) (Oer.addition_forms cs qs) ms us os k b r in
      let ns : List Bool = map (λ a. is_some a) p.0 in
      let q = split free x (joined (present_ones p.0)) (joined_move (Oer.addition_forms cs qs) (additions_move free cs qs) p.0 p.1) os p.3 p.4 in
      let w = one_out s h.0 o v os q.0 ns us k q.1 in
      let others = added_out cs h.1 qs ns us q.0 k b (p.0, p.3, p.1, refl, q.2, p.5, p.6) in
      let its : List Record = Its s w.0 (is_at_default o s w.0) (is_group_left_out s w.0) in
      let c : Chain (Step free) (its ++ added_records cs others.0) w.1 b = chain_append (Step free) its (added_records cs others.0) w.1 (q.0, added ns us ∷ k) b w.4 others.2 in (
        present w.0 others.0,
        like_present t o s cs v w.0 qs others.0 w.2 others.1,
        subst
            (λ l. Chain (Step free) ((addition true ∷ its) ++ added_records cs others.0) (os, added l us ∷ k) b) (sym p.2) (w.1, (refl, w.3), c),
      )
  added_out (component t o s cs) h (absent qs) ms us os k b r =
      let z = unless_required (is_required o) (option_map (λ xs. None ∷ xs) (Oer.addition_forms cs qs)) r.0 r.2 in
      let p = first_flag None (Oer.addition_forms cs qs) ms us os k b (r.0, r.1, z.1, r.3, r.4, r.5, r.6) in
      let ns : List Bool = map (λ a. is_some a) p.0 in
      let others = added_out cs h.1 qs ns us os k b (p.0, p.3, p.1, refl, p.4, p.5, p.6) in
      let tail : List Record = added_records cs others.0 in (
        absent others.0,
        like_absent t o s cs qs others.0 others.1,
        subst
            (λ l. Chain (Step free) (cond (is_required o) (mismatch ∷ []) (addition false ∷ []) ++ tail) (os, added l us ∷ k) b) (sym p.2) (back_absent (is_required o) z.0 tail ns us os k b others.2),
      )
  added_out (component t o s cs) h end ms us os k b r = cc r.2
