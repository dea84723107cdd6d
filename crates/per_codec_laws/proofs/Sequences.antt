-- Sequences, sets and groups, as a reader finds them: the preamble and the root, and additions after a bitmap.
use Rattle.std.proofs.Common.{◌≡◌, ℕ, Bool, true, false, cond, List, [], ◌∷◌, ◌++◌, map, Option, Some, None, option_map, refl, ap, sym, ◌∙◌, subst}
use Rattle.std.proofs.lemmas.List.{append-nil}
use Rattle.asn1_model.specs.Value.{Value, Parts, end, absent, present}
use Rattle.asn1_model.specs.Schema.{Presence, Schema, Components, no_component, component}
use Rattle.asn1_model.specs.Normal.{is_at_default, is_group_left_out}
use Rattle.asn1_model.specs.Numbers.{octet_bits}
use Rattle.asn1_model.specs.Normal.{is_required, presence_bits}
use Rattle.asn1_model.specs.Form.{exactly, both, joined, present_ones}
use Rattle.std.specs.Prelude.{is_some}
use Rattle.asn1_model.specs.Per
use Rattle.asn1_model.proofs.Forms.{map_parts}
use Rattle.asn1_schema_laws.specs.Records.{Record, addition, addition_ends, ends, mismatch}
use Rattle.asn1_schema_laws.specs.Presents.{presents, root_records, added_records, optional_count}
use Rattle.asn1_schema_laws.specs.Chains.{Chain}
use Rattle.asn1_schema_laws.proofs.Chains.{chain_split, chain_append}
use Rattle.asn1_schema_reading_laws.specs.PresenceBits.{preamble_bits}
use Rattle.asn1_schema_reading_laws.proofs.PresenceBits.{presence_bits_count}
use Rattle.per_codec_laws.specs.Takes.{Position, State, Scope, components, added, open_type, Front, Found, Begins, Opens, Closes, AdditionEnds, Skips}
use Rattle.asn1_schema_reading_laws.proofs.Alike.{Like, LikeParts, parts_self, like_present, like_absent, noted_by, noted_same}
use Rattle.per_codec_laws.proofs.Next.{state_same}
use Rattle.per_codec_laws.proofs.Fronts.{Finds, Shows, Step, nothing_front, of_nothing, split, join, from_state, from_scopes, spelled_by, noted_in, noted_out}
use Rattle.per_codec_laws.proofs.Opened.{open_in, open_out}
use Rattle.per_codec_laws.proofs.Parts.{EachFinds, EachShows, root_in, root_out}

module _ (free : Per.Freedom → Bool) (al : Bool) where
  -- ---- the preamble and the root
  abbrev pub Opened : Bool → Components → Parts → List Record → State → State → Type 0
  Opened e cs ps rs a b = (x : Option Bool) × (more : List Bool) × (start : Position) × (mid : Position) × (is_some x ≡ e) ×
      Front free (exactly (preamble_bits x (presence_bits cs ps ++ more))) a.0 start × Front free (Per.component_forms al cs ps) start mid × Chain (Step free al) rs (mid, components x more ∷ a.1) b

  pub begun_in : (e : Bool) (cs : Components) → EachFinds al free cs → (ps : Parts) (rs : List Record) (a m b : State) →
      Begins free e (optional_count cs) a m → Chain (Step free al) (root_records cs ps rs) m b → Opened e cs ps rs a b
  begun_in e cs h ps rs a m b t c =
      let r = root_in free al cs h ps rs t.0 a.1 b t.1 m.0 (from_scopes free al (root_records cs ps rs) m b (components t.0 t.1 ∷ a.1) t.5 c) in
      (t.0, r.1, m.0, r.0, t.2, subst (λ l. Front free (exactly (preamble_bits t.0 l)) a.0 m.0) r.2 t.4, r.3, r.4)

  -- the root, of components that are like these
  abbrev pub Closed : Bool → Components → Parts → List Record → State → State → Type 0
  Closed e cs ps rs a b = (qs : Parts) × (m : State) × LikeParts cs ps qs × Begins free e (optional_count cs) a m × Chain (Step free al) (root_records cs qs rs) m b

  pub begun_out : (e : Bool) (cs : Components) → EachShows al free cs →
      (ps : Parts) (rs : List Record) (a b : State) (x : Option Bool) (start mid : Position) → is_some x ≡ e →
      Front free (exactly (preamble_bits x (presence_bits cs ps))) a.0 start → Front free (Per.component_forms al cs ps) start mid →
      Chain (Step free al) rs (mid, components x [] ∷ a.1) b → Closed e cs ps rs a b
  begun_out e cs h ps rs a b x start mid i f g c =
      let r = root_out free al cs h ps rs x [] start mid a.1 b g c in
      let ms : List Bool = presence_bits cs r.0 in
      let d : Chain (Step free al) (root_records cs r.0 rs) (start, components x ms ∷ a.1) b =
      subst (λ l. Chain (Step free al) (root_records cs r.0 rs) (start, components x l ∷ a.1) b) (append-nil ms) r.3 in
      let f' : Front free (exactly (preamble_bits x ms)) a.0 start = subst (λ l. Front free (exactly (preamble_bits x l)) a.0 start) (sym r.2) f in
      (r.0, (start, components x ms ∷ a.1), r.1, (x, ms, i, presence_bits_count cs r.0, f', refl), d)

  -- ---- without an extension bit
  closed_in : (x : Option Bool) (more : List Bool) (mid : Position) (k : List Scope) (b : State) → is_some x ≡ false →
      Chain (Step free al) (ends ∷ []) (mid, components x more ∷ k) b → (x ≡ None) × (more ≡ []) × (b ≡ (mid, k))
  closed_in None [] mid k b e c = (refl, refl, c.2 ∙ c.1)
  closed_in None (z ∷ zs) mid k b e c = absurd c.1
  closed_in (Some y) more mid k b e c = cc

  abbrev Plain : Components → Parts → Per.BitForm
  Plain cs ps = both (exactly (presence_bits cs ps)) (Per.component_forms al cs ps)

  pub plain_in : (cs : Components) → EachFinds al free cs → (ps : Parts) (a m b : State) → Begins free false (optional_count cs) a m →
      Chain (Step free al) (root_records cs ps (ends ∷ [])) m b → Found free (Plain cs ps) a b
  plain_in cs h ps a m b t c =
      let o = begun_in false cs h ps (ends ∷ []) a m b t c in
      let e = closed_in o.0 o.1 o.3 a.1 b o.4 o.7 in
      let f : Front free (exactly (presence_bits cs ps ++ [])) a.0 o.2 =
      subst (λ l. Front free (exactly (presence_bits cs ps ++ l)) a.0 o.2) e.1 (subst (λ x. Front free (exactly (preamble_bits x (presence_bits cs ps ++ o.1))) a.0 o.2) e.0 o.5) in
      let g : Front free (exactly (presence_bits cs ps)) a.0 o.2 = subst (λ l. Front free (exactly l) a.0 o.2) (append-nil (presence_bits cs ps)) f in
      subst (λ s. Found free (Plain cs ps) a s) (sym e.2) (join free (exactly (presence_bits cs ps)) (Per.component_forms al cs ps) a.0 o.2 o.3 g o.6, refl)

  pub plain_out : (cs : Components) → EachShows al free cs → (ps : Parts) (a b : State) → Found free (Plain cs ps) a b → Closed false cs ps (ends ∷ []) a b
  plain_out cs h ps a b f =
      let q = split free (exactly (presence_bits cs ps)) (Per.component_forms al cs ps) a.0 b.0 f.0 in
      begun_out false cs h ps (ends ∷ []) a b None q.0 b.0 refl q.1 q.2 (b, state_same b (b.0, a.1) refl f.1, refl)

  -- ---- additions
  -- what is read of additions: those of these bits, and unknown ones
  abbrev pub AddRead : Option (List (Option Per.BitForm)) → List Bool → List Bool → Position → List Scope → State → Type 0
  AddRead o ms us start k b = (xs : List (Option Per.BitForm)) × (mid : Position) × (o ≡ Some xs) × (map (λ a. is_some a) xs ≡ ms) ×
      Front free (joined (present_ones xs)) start mid × Skips al free us mid b.0 × (b.1 ≡ k)

  abbrev Adds : Option (List (Option Per.BitForm)) → List Record → List Bool → List Scope → State → Type 0
  Adds o tail us k b = (ms : List Bool) (start : Position) → Chain (Step free al) tail (start, added ms us ∷ k) b → AddRead o ms us start k b

  nothing_added : (rs : List Record) (us : List Bool) (k : List Scope) (b : State) → Adds None (mismatch ∷ rs) us k b
  nothing_added rs us k b ms start c = absurd c.1

  abbrev Opening : Schema → Value → Bool → Bool → Per.BitForm
  Opening s v d g = spelled_by d g (Per.open_type al (Per.form al s v))

  abbrev Its : Schema → Value → Bool → Bool → List Record
  Its s v d g = presents s v ++ (addition_ends ∷ noted_by d g)

  -- an addition that is present, from its first bit to the last one after it
  one_in : (s : Schema) (v : Value) → Finds al free s → (d g : Bool) (start : Position) (ms us : List Bool) (k : List Scope) (m n : State) →
      Opens al free start (added ms us ∷ k) m → Chain (Step free al) (Its s v d g) m n → Found free (Opening s v d g) (start, added ms us ∷ k) n
  one_in s v h d g start ms us k m n opens c =
      let os : List ℕ = opens.0 in
      let rest : Position = opens.1 in
      let here : State = ((0, octet_bits os), open_type rest ∷ added ms us ∷ k) in
      let p = chain_split (Step free al) (presents s v) (addition_ends ∷ noted_by d g) here n (from_state free al (Its s v d g) m n (0, octet_bits os) (open_type rest ∷ added ms us ∷ k) opens.3 c) in
      let j : State = p.0 in
      let f = h v here j p.1 in
      let l : State = p.2.0 in
      let closes : Closes free j.0 rest (added ms us ∷ k) l = subst (λ x. AdditionEnds free j.0 x l) f.1 p.2.1 in
      let w : Front free (Per.open_type al (Per.form al s v)) start rest = open_in free al (Per.form al s v) start rest j.0 os (added ms us ∷ k) l opens.2 f.0 closes in
      let z : Found free (Per.open_type al (Per.form al s v)) (start, added ms us ∷ k) l =
      subst (λ x. Found free (Per.open_type al (Per.form al s v)) (start, added ms us ∷ k) x) (sym closes.6) (w, refl) in
      noted_in free al d g (Per.open_type al (Per.form al s v)) (start, added ms us ∷ k) l n z p.2.2

  there : (s : Schema) (v : Value) → Finds al free s → (d g : Bool) (o : Option (List (Option Per.BitForm))) (tail : List Record) (us : List Bool)
      (k : List Scope) (b : State) → Adds o tail us k b → Adds (option_map (λ xs. Some (Opening s v d g) ∷ xs) o) ((addition true ∷ Its s v d g) ++ tail) us k b
  there s v h d g o tail us k b others [] start c = absurd c.1
  there s v h d g o tail us k b others (false ∷ ms) start c = let e = c.1.0 in cc
  there s v h d g o tail us k b others (true ∷ ms) start c =
      let q = chain_split (Step free al) (Its s v d g) tail c.0 b c.2 in
      let y = one_in s v h d g start ms us k c.0 q.0 c.1.1 q.1 in
      let r = others ms q.0.0 (from_scopes free al tail q.0 b (added ms us ∷ k) y.1 q.2) in (
        Some (Opening s v d g) ∷ r.0,
        r.1,
        ap (option_map (λ xs. Some (Opening s v d g) ∷ xs)) r.2,
        ap (λ x. true ∷ x) r.3,
        join free (Opening s v d g)
            (joined (present_ones r.0)) start q.0.0 r.1 y.0 r.4,
        r.5,
        r.6,
      )

  left_out : (o : Option (List (Option Per.BitForm))) (tail : List Record) (us : List Bool) (k : List Scope) (b : State) → Adds o tail us k b →
      Adds (option_map (λ xs. None ∷ xs) o) (addition false ∷ tail) us k b
  left_out o tail us k b others [] start c = absurd c.1
  left_out o tail us k b others (true ∷ ms) start c = let e = c.1.0 in cc
  left_out o tail us k b others (false ∷ ms) start c =
      let r = others ms start (from_state free al tail c.0 b start (added ms us ∷ k) c.1.1 c.2) in
      (None ∷ r.0, r.1, ap (option_map (λ xs. None ∷ xs)) r.2, ap (λ x. false ∷ x) r.3, r.4, r.5, r.6)

  maybe_left_out : (q : Bool) (o : Option (List (Option Per.BitForm))) (tail : List Record) (us : List Bool) (k : List Scope) (b : State) →
      Adds o tail us k b → Adds (cond q None (option_map (λ xs. None ∷ xs) o)) (cond q (mismatch ∷ []) (addition false ∷ []) ++ tail) us k b
  maybe_left_out true o tail us k b others = nothing_added tail us k b
  maybe_left_out false o tail us k b others = left_out o tail us k b others

  all_added : (us : List Bool) (k : List Scope) (b : State) → Adds (Some []) (ends ∷ []) us k b
  all_added us k b (z ∷ ms) start c = absurd c.1
  all_added us k b [] start c =
      let m : State = c.0 in
      let e : b ≡ m = c.2 in
      ([], start, refl, refl, nothing_front free start, subst (λ (s : State). Skips al free us start s.0) (sym e) c.1.0, ap (λ (s : State). s.1) e ∙ c.1.1)

  pub added_in : (cs : Components) → EachFinds al free cs → (qs : Parts) (us : List Bool) (k : List Scope) (b : State) → Adds (Per.addition_forms al cs qs) (added_records cs qs) us k b
  unfolding added_records Per.addition_forms Per.spelled
  added_in no_component h end us k b = all_added us k b
  added_in no_component h (absent qs) us k b = nothing_added [] us k b
  added_in no_component h (present v qs) us k b = nothing_added [] us k b
  added_in (component t o s cs) h (present v qs) us k b = there s v h.0 (is_at_default o s v) (is_group_left_out s v) (Per.addition_forms al cs qs)
      (added_records cs qs) us k b (added_in cs h.1 qs us k b)
  added_in (component t o s cs) h (absent qs) us k b = maybe_left_out (is_required o) (Per.addition_forms al cs qs) (added_records cs qs) us k b (added_in cs h.1 qs us k b)
  added_in (component t o s cs) h end us k b = nothing_added [] us k b

  -- and back, for additions that are like these
  abbrev pub AddOut : Components → Parts → List Bool → List Bool → Position → List Scope → State → Type 0
  AddOut cs qs ms us start k b = (rs : Parts) × LikeParts cs qs rs × Chain (Step free al) (added_records cs rs) (start, added ms us ∷ k) b

  abbrev OneOut : Presence → Schema → Value → Position → Position → List Scope → Type 0
  OneOut o s v start rest k = (w : Value) × (m : State) × Like s v w × Opens al free start k m × Chain (Step free al) (Its s w (is_at_default o s w) (is_group_left_out s w)) m (rest, k)

  one_out : (s : Schema) → Shows al free s → (o : Presence) (v : Value) (start rest : Position) (ms us : List Bool) (k : List Scope) →
      Front free (Opening s v (is_at_default o s v) (is_group_left_out s v)) start rest → OneOut o s v start rest (added ms us ∷ k)
  one_out s h o v start rest ms us k f =
      let here : State = (start, added ms us ∷ k) in
      let after : State = (rest, added ms us ∷ k) in
      let w = noted_out free al (is_at_default o s v) (is_group_left_out s v) (Per.open_type al (Per.form al s v)) here after (f, refl) in
      let z = open_out free al (Per.form al s v) start rest w.0.0 in
      let m : State = ((0, octet_bits z.0), open_type rest ∷ added ms us ∷ k) in
      let j : State = (z.1, open_type rest ∷ added ms us ∷ k) in
      let r = h v m j (z.3, refl) in
      let c : Chain (Step free al) (noted_by (is_at_default o s r.0) (is_group_left_out s r.0)) after after = subst (λ l. Chain (Step free al) l after after) (noted_same o s v r.0 r.1.0) w.1 in (
        r.0,
        m,
        r.1,
        (z.0, rest, z.2, refl),
        chain_append (Step free al) (presents s r.0)
            (addition_ends ∷ noted_by (is_at_default o s r.0) (is_group_left_out s r.0)) m j after r.2 (after, z.4 (added ms us ∷ k), c),
      )

  -- the first of the additions' flags
  first_flag : (x : Option Per.BitForm) (o : Option (List (Option Per.BitForm))) (ms us : List Bool) (start : Position) (k : List Scope) (b : State) →
      AddRead (option_map (λ xs. x ∷ xs) o) ms us start k b → (ys : List (Option Per.BitForm)) × (o ≡ Some ys) ×
      (ms ≡ is_some x ∷ map (λ a. is_some a) ys) × (mid : Position) × Front free (joined (present_ones (x ∷ ys))) start mid × Skips al free us mid b.0 × (b.1 ≡ k)
  first_flag x o ms us start k b r =
      let t = map_parts o (λ xs. x ∷ xs) r.0 r.2 in
      (t.0, t.1, sym (ap (λ xs. map (λ a. is_some a) xs) t.2 ∙ r.3), r.1, subst (λ xs. Front free (joined (present_ones xs)) start r.1) (sym t.2) r.4, r.5, r.6)

  -- unless it is required, an addition may be absent
  unless_required : (q : Bool) (o : Option (List (Option Per.BitForm))) (xs : List (Option Per.BitForm)) → cond q None o ≡ Some xs → (q ≡ false) × (o ≡ Some xs)
  unless_required true o xs e = cc
  unless_required false o xs e = (refl, e)

  back_absent : (q : Bool) → q ≡ false → (tail : List Record) (ms us : List Bool) (start : Position) (k : List Scope) (b : State) →
      Chain (Step free al) tail (start, added ms us ∷ k) b → Chain (Step free al) (cond q (mismatch ∷ []) (addition false ∷ []) ++ tail) (start, added (false ∷ ms) us ∷ k) b
  back_absent true e tail ms us start k b c = cc
  back_absent false e tail ms us start k b c = ((start, added ms us ∷ k), (refl, refl), c)

  pub added_out : (cs : Components) → EachShows al free cs → (qs : Parts) (ms us : List Bool) (start : Position) (k : List Scope) (b : State) →
      AddRead (Per.addition_forms al cs qs) ms us start k b → AddOut cs qs ms us start k b
  unfolding added_records Per.addition_forms Per.spelled
  added_out no_component h end ms us start k b r =
      let e : r.0 ≡ [] = cc r.2 in
      let f : Front free (exactly []) start r.1 = subst (λ xs. Front free (joined (present_ones xs)) start r.1) e r.4 in
      let g : [] ≡ ms = ap (λ xs. map (λ a. is_some a) xs) (sym e) ∙ r.3 in (
        end,
        (parts_self end, λ q. refl),
        subst (λ l. Chain (Step free al) (ends ∷ []) (start, added l us ∷ k) b) g
            (b, (subst (λ l. Skips al free us l b.0) (of_nothing free start r.1 f) r.5, r.6), refl),
      )
  added_out no_component h (absent qs) ms us start k b r = cc r.2
  added_out no_component h (present v qs) ms us start k b r = cc r.2
  added_out (component t o s cs) h (present v qs) ms us start k b r =
      let x : Per.BitForm = Opening s v (is_at_default o s v) (is_group_left_out s v) in
      let p = first_flag (Some x) (Per.addition_forms al cs qs) ms us start k b r in
      let ns : List Bool = map (λ a. is_some a) p.0 in
      let q = split free x (joined (present_ones p.0)) start p.3 p.4 in
      let w = one_out s h.0 o v start q.0 ns us k q.1 in
      let others = added_out cs h.1 qs ns us q.0 k b (p.0, p.3, p.1, refl, q.2, p.5, p.6) in
      let its : List Record = Its s w.0 (is_at_default o s w.0) (is_group_left_out s w.0) in
      let c : Chain (Step free al) (its ++ added_records cs others.0) w.1 b = chain_append (Step free al) its (added_records cs others.0) w.1 (q.0, added ns us ∷ k) b w.4 others.2 in (
        present w.0 others.0,
        like_present t o s cs v w.0 qs others.0 w.2 others.1,
        subst
            (λ l. Chain (Step free al) ((addition true ∷ its) ++ added_records cs others.0) (start, added l us ∷ k) b) (sym p.2) (w.1, (refl, w.3), c),
      )
  added_out (component t o s cs) h (absent qs) ms us start k b r =
      let z = unless_required (is_required o) (option_map (λ xs. None ∷ xs) (Per.addition_forms al cs qs)) r.0 r.2 in
      let p = first_flag None (Per.addition_forms al cs qs) ms us start k b (r.0, r.1, z.1, r.3, r.4, r.5, r.6) in
      let ns : List Bool = map (λ a. is_some a) p.0 in
      let others = added_out cs h.1 qs ns us start k b (p.0, p.3, p.1, refl, p.4, p.5, p.6) in
      let tail : List Record = added_records cs others.0 in (
        absent others.0,
        like_absent t o s cs qs others.0 others.1,
        subst
            (λ l. Chain (Step free al) (cond (is_required o) (mismatch ∷ []) (addition false ∷ []) ++ tail) (start, added l us ∷ k) b) (sym p.2)
            (back_absent (is_required o) z.0 tail ns us start k b others.2),
      )
  added_out (component t o s cs) h end ms us start k b r = cc r.2
