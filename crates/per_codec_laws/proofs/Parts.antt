-- The records of scalars and of root components, as a reader finds them.
use Rattle.std.proofs.Common.{◌≡◌, ℤ, Bool, true, false, cond, List, [], ◌∷◌, ◌++◌, Option, refl, ap, sym, ◌∙◌, subst}
use Rattle.asn1_model.specs.Value.{Value, truth, nothing, number, item, bit_list, octet_list, text, arcs, Parts, end, absent, present}
use Rattle.asn1_model.specs.Schema.{Range, Bounds, Counts, Size, StringKind, Alphabet, Schema, boolean, null, integer}
use Rattle.asn1_model.specs.Schema.{enumerated, bit_string, octet_string, character_string, object_identifier}
use Rattle.asn1_model.specs.Schema.{Components, no_component, component}
use Rattle.asn1_model.specs.Normal.{is_at_default, is_group_left_out}
use Rattle.asn1_model.specs.Normal.{is_required, presence_bit_unless, presence_bits}
use Rattle.asn1_model.specs.Form.{refused, both}
use Rattle.asn1_model.specs.Per
use Rattle.asn1_laws_values.proofs.Listed.{EachComponent}
use Rattle.asn1_schema_laws.specs.Records.{Record, flag, nil, whole, one_of, bits, octets, characters, identifier, presence_bit, mismatch}
use Rattle.asn1_schema_laws.specs.Presents.{presents, root_records, with_presence_bit}
use Rattle.asn1_schema_laws.specs.Chains.{Chain}
use Rattle.asn1_schema_laws.proofs.Chains.{chain_split, chain_append}
use Rattle.per_codec_laws.specs.Takes.{Position, State, Scope, components, Front}
use Rattle.per_codec_laws.specs.Laws.{Bridges}
use Rattle.asn1_schema_reading_laws.proofs.Alike.{LikeParts, parts_self, like_present, like_absent, noted_by}
use Rattle.per_codec_laws.proofs.Fronts.{Finds, Shows, Step, nothing_front, of_nothing, of_refused, split, join, single, none, from_state, from_scopes, spelled_by, there_in, there_out}

abbrev AllBridge : Bool → (Per.Freedom → Bool) → Schema → Type 0
AllBridge al free s = (v : Value) → Bridges al free s v

abbrev pub EachFinds : Bool → (Per.Freedom → Bool) → Components → Type 0
EachFinds al free cs = EachComponent (λ o s. Finds al free s) cs

abbrev pub EachShows : Bool → (Per.Freedom → Bool) → Components → Type 0
EachShows al free cs = EachComponent (λ o s. Shows al free s) cs

module _ (free : Per.Freedom → Bool) (al : Bool) where
  -- ---- scalars
  pub booleans : AllBridge al free boolean
  unfolding presents Per.form
  booleans (truth v) = single free al _ (flag v) (λ a b t. t) (λ a b t. t)
  booleans v = none free al

  pub nulls : AllBridge al free null
  unfolding presents Per.form
  nulls nothing = single free al _ nil (λ a b t. t) (λ a b t. t)
  nulls v = none free al

  pub integers : (z : Bounds) (h : Range) → AllBridge al free (integer z h)
  unfolding presents Per.form
  integers z h (number v) = single free al _ (whole z h v) (λ a b t. t) (λ a b t. t)
  integers z h v = none free al

  pub items : (roots : List ℤ) (e : Bool) (adds : List ℤ) → AllBridge al free (enumerated roots e adds)
  unfolding presents Per.form
  items roots e adds (item v) = single free al _ (one_of roots e adds v) (λ a b t. t) (λ a b t. t)
  items roots e adds v = none free al

  pub bit_strings : (z : Size) (h : Counts) → AllBridge al free (bit_string z h)
  unfolding presents Per.form
  bit_strings z h (bit_list v) = single free al _ (bits z h v) (λ a b t. t) (λ a b t. t)
  bit_strings z h v = none free al

  pub octet_strings : (z : Size) (h : Counts) → AllBridge al free (octet_string z h)
  unfolding presents Per.form
  octet_strings z h (octet_list v) = single free al _ (octets z h v) (λ a b t. t) (λ a b t. t)
  octet_strings z h v = none free al

  pub identifiers : AllBridge al free object_identifier
  unfolding presents Per.form
  identifiers (arcs v) = single free al _ (identifier v) (λ a b t. t) (λ a b t. t)
  identifiers v = none free al

  pub strings : (k : StringKind) (z : Size) (l : Alphabet) (h : Counts) → AllBridge al free (character_string k z l h)
  unfolding presents Per.form
  strings k z l h (text v) = single free al _ (characters k z l h v) (λ a b t. t) (λ a b t. t)
  strings k z l h v = none free al

  -- ---- components
  -- what is read of root components: these presence bits, bits of this form, and then the records after them
  abbrev RootRead : List Bool → Per.BitForm → List Record → Option Bool → List Bool → Position → List Scope → State → Type 0
  RootRead bs y rs x ms start k b = (mid : Position) × (more : List Bool) × (ms ≡ bs ++ more) × Front free y start mid × Chain (Step free al) rs (mid, components x more ∷ k) b

  -- a chain that reads this, from any position and presence bits
  abbrev Goes : List Bool → Per.BitForm → List Record → List Record → Option Bool → List Scope → State → Type 0
  Goes bs y rs tail x k b = (ms : List Bool) (start : Position) → Chain (Step free al) tail (start, components x ms ∷ k) b → RootRead bs y rs x ms start k b

  behind_it : (s : Schema) (v : Value) → Finds al free s → (d g : Bool) (bs : List Bool) (y : Per.BitForm) →
      (rs tail : List Record) (x : Option Bool) (k : List Scope) (b : State) → Goes bs y rs tail x k b →
      Goes bs (both (spelled_by d g (Per.form al s v)) y) rs ((presents s v ++ noted_by d g) ++ tail) x k b
  behind_it s v h d g bs y rs tail x k b others ms start c =
      let q = chain_split (Step free al) (presents s v ++ noted_by d g) tail (start, components x ms ∷ k) b c in
      let f = there_in free al s v h d g (start, components x ms ∷ k) q.0 q.1 in
      let r = others ms q.0.0 (from_scopes free al tail q.0 b (components x ms ∷ k) f.1 q.2) in
      (r.0, r.1, r.2, join free (spelled_by d g (Per.form al s v)) y start q.0.0 r.0 f.0 r.3, r.4)

  -- a presence bit
  behind_presence_bit : (t : Bool) (bs : List Bool) (y : Per.BitForm) (rs tail : List Record) (x : Option Bool) (k : List Scope) (b : State) →
      Goes bs y rs tail x k b → Goes (t ∷ bs) y rs (presence_bit t ∷ tail) x k b
  behind_presence_bit t bs y rs tail x k b others [] start c = absurd c.1
  behind_presence_bit t bs y rs tail x k b others (m ∷ ms) start c =
      let r = others ms start (from_state free al tail c.0 b start (components x ms ∷ k) c.1.1 c.2) in
      (r.0, r.1, ap (λ n. n ∷ ms) (sym c.1.0) ∙ ap (λ l. t ∷ l) r.2, r.3, r.4)

  one_there : (q : Bool) (s : Schema) (v : Value) → Finds al free s → (d g : Bool) (bs : List Bool) (y : Per.BitForm) →
      (rs tail : List Record) (x : Option Bool) (k : List Scope) (b : State) → Goes bs y rs tail x k b →
      Goes (presence_bit_unless q true bs) (both (spelled_by d g (Per.form al s v)) y) rs (with_presence_bit q (presents s v ++ noted_by d g) ++ tail) x k b
  one_there true s v h d g bs y rs tail x k b others = behind_it s v h d g bs y rs tail x k b others
  one_there false s v h d g bs y rs tail x k b others = behind_presence_bit true bs _ rs _ x k b (behind_it s v h d g bs y rs tail x k b others)

  nothing_there : (bs : List Bool) (y : Per.BitForm) (rs more : List Record) (x : Option Bool) (k : List Scope) (b : State) → Goes bs y rs (mismatch ∷ more) x k b
  nothing_there bs y rs more x k b ms start c = absurd c.1

  one_absent : (q : Bool) (bs : List Bool) (y : Per.BitForm) (rs tail : List Record) (x : Option Bool) (k : List Scope) (b : State) →
      Goes bs y rs tail x k b → Goes (presence_bit_unless q false bs) (cond q refused y) rs (cond q (mismatch ∷ []) (presence_bit false ∷ []) ++ tail) x k b
  one_absent true bs y rs tail x k b others = nothing_there bs refused rs tail x k b
  one_absent false bs y rs tail x k b others = behind_presence_bit false bs y rs tail x k b others

  pub root_in : (cs : Components) → EachFinds al free cs → (ps : Parts) (rs : List Record) (x : Option Bool) (k : List Scope) (b : State) →
      Goes (presence_bits cs ps) (Per.component_forms al cs ps) rs (root_records cs ps rs) x k b
  unfolding root_records Per.component_forms Per.spelled
  root_in no_component h end rs x k b = λ ms start c. (start, ms, refl, nothing_front free start, c)
  root_in no_component h (absent ps) rs x k b = nothing_there [] refused rs [] x k b
  root_in no_component h (present v ps) rs x k b = nothing_there [] refused rs [] x k b
  root_in (component t o s cs) h (present v ps) rs x k b = one_there (is_required o) s v h.0 (is_at_default o s v) (is_group_left_out s v)
      (presence_bits cs ps) (Per.component_forms al cs ps) rs (root_records cs ps rs) x k b (root_in cs h.1 ps rs x k b)
  root_in (component t o s cs) h (absent ps) rs x k b = one_absent (is_required o) (presence_bits cs ps) (Per.component_forms al cs ps) rs (root_records cs ps rs) x k b (root_in cs h.1 ps rs x k b)
  root_in (component t o s cs) h end rs x k b = nothing_there _ refused rs [] x k b

  -- and back, for components that are like these
  abbrev RootOut : Components → Parts → List Record → Option Bool → List Bool → Position → List Scope → State → Type 0
  RootOut cs ps rs x more start k b = (qs : Parts) × LikeParts cs ps qs × (presence_bits cs qs ≡ presence_bits cs ps) ×
      Chain (Step free al) (root_records cs qs rs) (start, components x (presence_bits cs qs ++ more) ∷ k) b

  presence_bit_out : (q : Bool) (rs tail : List Record) (x : Option Bool) (bs more : List Bool) (start : Position) (k : List Scope) (b : State) →
      Chain (Step free al) (rs ++ tail) (start, components x (bs ++ more) ∷ k) b →
      Chain (Step free al) (with_presence_bit q rs ++ tail) (start, components x (presence_bit_unless q true bs ++ more) ∷ k) b
  presence_bit_out true rs tail x bs more start k b c = c
  presence_bit_out false rs tail x bs more start k b c = ((start, components x (bs ++ more) ∷ k), (refl, refl), c)

  unless_refused : (q : Bool) (y : Per.BitForm) (start mid : Position) → Front free (cond q refused y) start mid → (q ≡ false) × Front free y start mid
  unless_refused true y start mid f = absurd (of_refused free start mid f)
  unless_refused false y start mid f = (refl, f)

  absent_out : (q : Bool) → q ≡ false → (tail : List Record) (x : Option Bool) (bs more : List Bool) (start : Position) (k : List Scope) (b : State) →
      Chain (Step free al) tail (start, components x (bs ++ more) ∷ k) b →
      Chain (Step free al) (cond q (mismatch ∷ []) (presence_bit false ∷ []) ++ tail) (start, components x (presence_bit_unless q false bs ++ more) ∷ k) b
  absent_out true e tail x bs more start k b c = cc
  absent_out false e tail x bs more start k b c = ((start, components x (bs ++ more) ∷ k), (refl, refl), c)

  pub root_out : (cs : Components) → EachShows al free cs → (ps : Parts) (rs : List Record) (x : Option Bool) (more : List Bool)
      (start mid : Position) (k : List Scope) (b : State) → Front free (Per.component_forms al cs ps) start mid →
      Chain (Step free al) rs (mid, components x more ∷ k) b → RootOut cs ps rs x more start k b
  unfolding root_records Per.component_forms Per.spelled
  root_out no_component h end rs x more start mid k b f c = (end, (parts_self end, λ e. refl), refl, subst (λ l. Chain (Step free al) rs (l, components x more ∷ k) b) (of_nothing free start mid f) c)
  root_out no_component h (absent ps) rs x more start mid k b f c = absurd (of_refused free start mid f)
  root_out no_component h (present v ps) rs x more start mid k b f c = absurd (of_refused free start mid f)
  root_out (component t o s cs) h (present v ps) rs x more start mid k b f c =
      let q = split free (spelled_by (is_at_default o s v) (is_group_left_out s v) (Per.form al s v)) (Per.component_forms al cs ps) start mid f in
      let r = root_out cs h.1 ps rs x more q.0 mid k b q.2 c in
      let here : State = (start, components x (presence_bits cs r.0 ++ more) ∷ k) in
      let there : State = (q.0, components x (presence_bits cs r.0 ++ more) ∷ k) in
      let w = there_out free al s h.0 o v here there (q.1, refl) in
      let its : List Record = presents s w.0 ++ noted_by (is_at_default o s w.0) (is_group_left_out s w.0) in (
        present w.0 r.0,
        like_present t o s cs v w.0 ps r.0 w.1 r.1,
        ap (λ l. presence_bit_unless (is_required o) true l) r.2,
        presence_bit_out
            (is_required o) its (root_records cs r.0 rs) x (presence_bits cs r.0) more start k b (chain_append (Step free al) its (root_records cs r.0 rs) here there b w.2 r.3),
      )
  root_out (component t o s cs) h (absent ps) rs x more start mid k b f c =
      let d = unless_refused (is_required o) (Per.component_forms al cs ps) start mid f in
      let r = root_out cs h.1 ps rs x more start mid k b d.1 c in (
        absent r.0,
        like_absent t o s cs ps r.0 r.1,
        ap (λ l. presence_bit_unless (is_required o) false l) r.2,
        absent_out (is_required o) d.0
            (root_records cs r.0 rs) x (presence_bits cs r.0) more start k b r.3,
      )
  root_out (component t o s cs) h end rs x more start mid k b f c = absurd (of_refused free start mid f)
