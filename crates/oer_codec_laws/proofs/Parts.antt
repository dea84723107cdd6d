-- The records of scalars, elements and components, as a reader finds them.
use Rattle.std.proofs.Common.{◌≡◌, ℕ, ℤ, zero, suc, ltb, Bool, true, false, cond, IsTrue, List, [], ◌∷◌, ◌++◌, length, replicate, Option, Some, refl, ap, sym, ◌∙◌, subst}
use Rattle.asn1_model.specs.Value.{Value, truth, nothing, number, item, bit_list, octet_list, text, arcs}
use Rattle.asn1_model.specs.Value.{members as in_list, bag, Values, no_more, member, Parts, end, absent, present, each}
use Rattle.asn1_model.specs.Value.{values_of, same}
use Rattle.asn1_model.specs.Schema.{Range, Bounds, Counts, Size, StringKind, Alphabet, Schema, boolean, null, integer}
use Rattle.asn1_model.specs.Schema.{enumerated, bit_string, octet_string, character_string, object_identifier}
use Rattle.asn1_model.specs.Schema.{sequence_of, set_of, Components, no_component, component}
use Rattle.asn1_model.specs.Normal.{is_at_default, is_group_left_out}
use Rattle.asn1_model.specs.Numbers.{is_count_within}
use Rattle.asn1_model.specs.Normal.{is_required, presence_bit_unless, presence_bits}
use Rattle.asn1_model.specs.Form.{refused, both, given, joined, exactly, in_order, arranged, ascending, stands_before, written}
use Rattle.asn1_model.specs.Oer
use Rattle.asn1_laws_values.proofs.Listed.{EachComponent}
use Rattle.asn1_schema_laws.specs.Records.{Record, flag, nil, whole, one_of, bits, octets, characters, identifier, presence_bit, ends, mismatch}
use Rattle.asn1_model.specs.Lawful.{member_count}
use Rattle.asn1_schema_laws.specs.Presents.{presents, member_records, root_records, with_presence_bit}
use Rattle.asn1_schema_laws.specs.Chains.{Chain}
use Rattle.asn1_schema_laws.proofs.Chains.{chain_split, chain_append}
use Rattle.oer_codec_laws.specs.Takes.{State, Scope, components, members, Front, Found, ListBegins}
use Rattle.oer_codec_laws.specs.Laws.{Bridges}
use Rattle.oer_codec_laws.proofs.Next.{state_same}
use Rattle.oer_codec_laws.proofs.Anywhere.{Moves, form_moves, components_move, all_move}
use Rattle.asn1_schema_reading_laws.proofs.Alike.{LikeParts, LikeMembers, parts_self, like_present, like_absent}
use Rattle.asn1_schema_reading_laws.proofs.Alike.{no_members, like_members, list_same, in_place, bag_like, Arranged}
use Rattle.asn1_schema_reading_laws.proofs.Alike.{Ordered, reordered, noted_by}
use Rattle.oer_codec_laws.proofs.Fronts.{Finds, Shows, Step, nothing_front, of_nothing, of_refused, split, join}
use Rattle.oer_codec_laws.proofs.Fronts.{varied_in, varied_out, given_in, given_out, if_out, single, none, from_state}
use Rattle.oer_codec_laws.proofs.Fronts.{from_scopes, spelled_by, there_in, there_out}

abbrev AllBridge : (Oer.Freedom → Bool) → Schema → Type 0
AllBridge free s = (v : Value) → Bridges free s v

abbrev pub EachFinds : (Oer.Freedom → Bool) → Components → Type 0
EachFinds free cs = EachComponent (λ o s. Finds free s) cs

abbrev pub EachShows : (Oer.Freedom → Bool) → Components → Type 0
EachShows free cs = EachComponent (λ o s. Shows free s) cs

module _ (free : Oer.Freedom → Bool) where
  -- ---- scalars
  pub booleans : AllBridge free boolean
  unfolding presents Oer.form
  booleans (truth true) = single free _ (flag true) (λ a b t. t) (λ a b t. t)
  booleans (truth false) = single free _ (flag false) (λ a b t. t) (λ a b t. t)
  booleans v = none free

  pub nulls : AllBridge free null
  unfolding presents Oer.form
  nulls nothing = single free _ nil (λ a b t. t) (λ a b t. t)
  nulls v = none free

  pub integers : (z : Bounds) (h : Range) → AllBridge free (integer z h)
  unfolding presents Oer.form
  integers z h (number v) = single free _ (whole z h v) (λ a b t. t) (λ a b t. t)
  integers z h v = none free

  pub items : (roots : List ℤ) (e : Bool) (adds : List ℤ) → AllBridge free (enumerated roots e adds)
  unfolding presents Oer.form
  items roots e adds (item v) = single free _ (one_of roots e adds v) (λ a b t. t) (λ a b t. t)
  items roots e adds v = none free

  pub bit_strings : (z : Size) (h : Counts) → AllBridge free (bit_string z h)
  unfolding presents Oer.form
  bit_strings z h (bit_list v) = single free _ (bits z h v) (λ a b t. t) (λ a b t. t)
  bit_strings z h v = none free

  pub octet_strings : (z : Size) (h : Counts) → AllBridge free (octet_string z h)
  unfolding presents Oer.form
  octet_strings z h (octet_list v) = single free _ (octets z h v) (λ a b t. t) (λ a b t. t)
  octet_strings z h v = none free

  pub strings : (k : StringKind) (z : Size) (l : Alphabet) (h : Counts) → AllBridge free (character_string k z l h)
  unfolding presents Oer.form
  strings k z l h (text v) = single free _ (characters k z l h v) (λ a b t. t) (λ a b t. t)
  strings k z l h v = none free

  pub identifiers : AllBridge free object_identifier
  unfolding presents Oer.form
  identifiers (arcs v) = single free _ (identifier v) (λ a b t. t) (λ a b t. t)
  identifiers v = none free

  -- ---- elements
  each_long : {X : Type 0} (f : Value → X) (vs : Values) → length (each f vs) ≡ member_count vs
  each_long f no_more = refl
  each_long f (member v vs) = ap suc (each_long f vs)

  abbrev Joined : Schema → Values → Oer.OctetForm
  Joined s vs = joined (each (λ v. Oer.form s v) vs)

  joined_values : (s : Schema) (vs : Values) → Moves free (Joined s vs)
  joined_values s vs = all_move free (λ v. Oer.form s v) (λ v. form_moves free s v) vs

  members_in : (s : Schema) → Finds free s → (vs : Values) (j : ℕ) (os : List ℕ) (k : List Scope) (b : State) →
      Chain (Step free) (member_records (λ v. presents s v) vs) (os, members j ∷ k) b → (j ≡ member_count vs) × Front free (Joined s vs) os b.0 × (b.1 ≡ k)
  members_in s h no_more zero os k b c =
      let t = from_state free (ends ∷ []) c.0 b os (members zero ∷ k) c.1.1 c.2 in
      let e : b ≡ (os, k) = t.2 ∙ t.1 in
      (refl, subst (λ l. Front free (exactly []) os l) (sym (ap (λ (s : State). s.0) e)) (nothing_front free os), ap (λ (s : State). s.1) e)
  members_in s h no_more (suc j) os k b c = let e = c.1.0 in cc
  members_in s h (member v vs) zero os k b c = let e = c.1.0 in cc
  members_in s h (member v vs) (suc j) os k b c =
      let t = from_state free (presents s v ++ member_records (λ w. presents s w) vs) c.0 b os (members j ∷ k) c.1.1 c.2 in
      let q = chain_split (Step free) (presents s v) (member_records (λ w. presents s w) vs) (os, members j ∷ k) b t in
      let f = h v (os, members j ∷ k) q.0 q.1 in
      let r = members_in s h vs j q.0.0 k b (from_scopes free (member_records (λ w. presents s w) vs) q.0 b (members j ∷ k) f.1 q.2) in
      (ap suc r.0, join free (Oer.form s v) (Joined s vs) (joined_values s vs) os q.0.0 b.0 f.0 r.1, r.2)

  members_out : (s : Schema) → Shows free s → (vs : Values) (os : List ℕ) (k : List Scope) (b : State) → Front free (Joined s vs) os b.0 → b.1 ≡ k →
      (ws : Values) × LikeMembers s vs ws × (member_count ws ≡ member_count vs) × Chain (Step free) (member_records (λ v. presents s v) ws) (os, members (member_count ws) ∷ k) b
  members_out s h no_more os k b f e = (no_more, (no_members, λ q. refl), refl, ((os, members 0 ∷ k), (refl, refl), (b, state_same b (os, k) (of_nothing free os b.0 f) e, refl)))
  members_out s h (member v vs) os k b f e =
      let q = split free (Oer.form s v) (Joined s vs) (joined_values s vs) os b.0 f in
      let r = members_out s h vs q.0 k b q.2 e in
      let here : State = (os, members (member_count r.0) ∷ k) in
      let there : State = (q.0, members (member_count r.0) ∷ k) in
      let w = h v here there (q.1, refl) in
      (member w.0 r.0, like_members s v w.0 vs r.0 w.1 r.1, ap suc r.2, (here, (refl, refl), chain_append (Step free) (presents s w.0) (member_records (λ x. presents s x) r.0) here there b w.2 r.3))

  counted_in : (h : Counts) (s : Schema) → Finds free s → (vs : Values) (a m b : State) → ListBegins free h (member_count vs) a m →
      Chain (Step free) (member_records (λ v. presents s v) vs) m b → Found free (Oer.members_form h (each (λ v. Oer.form s v) vs)) a b
  unfolding Oer.members_form
  counted_in h s finds vs a m b t c =
      let r = members_in s finds vs t.0 m.0 a.1 b (from_scopes free (member_records (λ v. presents s v) vs) m b (members t.0 ∷ a.1) t.4 c) in
      let n : length (each (λ v. Oer.form s v) vs) ≡ member_count vs = each_long (λ v. Oer.form s v) vs in
      let f : Front free (Oer.unsigned (member_count vs)) a.0 m.0 = subst (λ i. Front free (Oer.unsigned i) a.0 m.0) r.0 t.3 in
      let g : Front free (both (Oer.unsigned (member_count vs)) (Joined s vs)) a.0 b.0 = join free (Oer.unsigned (member_count vs)) (Joined s vs) (joined_values s vs) a.0 m.0 b.0 f r.1 in
      (rw (n, t.1) g, r.2)

  abbrev CountedOut : Counts → Schema → Values → State → State → Type 0
  CountedOut h s vs a b = (ws : Values) × (m : State) × LikeMembers s vs ws × ListBegins free h (member_count ws) a m × Chain (Step free) (member_records (λ v. presents s v) ws) m b

  counted_out : (h : Counts) (s : Schema) → Shows free s → (vs : Values) (a b : State) → Found free (Oer.members_form h (each (λ v. Oer.form s v) vs)) a b → CountedOut h s vs a b
  unfolding Oer.members_form
  counted_out h s shows vs a b f =
      let n : length (each (λ v. Oer.form s v) vs) ≡ member_count vs = each_long (λ v. Oer.form s v) vs in
      let t = if_out free (is_count_within h (member_count vs)) (both (Oer.unsigned (member_count vs)) (Joined s vs)) a.0 b.0 (rw (sym n) f.0) in
      let q = split free (Oer.unsigned (member_count vs)) (Joined s vs) (joined_values s vs) a.0 b.0 t.1 in
      let r = members_out s shows vs q.0 a.1 b q.2 f.1 in
      let e : is_count_within h (member_count r.0) ≡ true = ap (λ i. is_count_within h i) r.2 ∙ t.0 in
      let g : Front free (Oer.unsigned (member_count r.0)) a.0 q.0 = subst (λ i. Front free (Oer.unsigned i) a.0 q.0) (sym r.2) q.1 in
      (r.0, (q.0, members (member_count r.0) ∷ a.1), r.1, (member_count r.0, e, e, g, refl), r.3)

  -- ---- SEQUENCE OF
  pub list_finds : (z : Size) (h : Counts) (s : Schema) → Finds free s → Finds free (sequence_of z h s)
  unfolding presents Oer.form
  list_finds z h s finds (in_list vs) a b c = counted_in h s finds vs a c.0 b c.1 c.2
  list_finds z h s finds v a b c = (none free a b).0 c

  pub list_shows : (z : Size) (h : Counts) (s : Schema) → Shows free s → Shows free (sequence_of z h s)
  unfolding presents Oer.form
  list_shows z h s shows (in_list vs) a b f = let r = counted_out h s shows vs a b f in (in_list r.0, (list_same vs r.0 r.2.0, λ e. ap in_list (r.2.1 e)), (r.1, r.3, r.4))
  list_shows z h s shows v a b f = absurd (of_refused free a.0 b.0 f.0)

  -- ---- SET OF
  pub bag_finds : IsTrue (free Oer.other_order) → (z : Size) (h : Counts) (s : Schema) → Finds free s → Finds free (set_of z h s)
  unfolding presents Oer.form Oer.in_any_order
  bag_finds order z h s finds (bag vs) a b c =
      let xs : List Oer.OctetForm = each (λ v. Oer.form s v) vs in
      let f = counted_in h s finds vs a c.0 b c.1 c.2 in
      let up : Option (List Oer.OctetForm) = ascending (λ x. written x 0) (stands_before ltb) xs in (
        varied_in free {c = Oer.other_order} (λ o. given (in_order up o xs) (Oer.members_form h)) (Some (replicate (length xs) 0)) order a.0 b.0
            (given_in free (arranged (replicate (length xs) 0) xs) (Oer.members_form h) xs (in_place xs) a.0 b.0 f.0),
        f.1,
      )
  bag_finds order z h s finds v a b c = (none free a b).0 c

  ordered_out : (h : Counts) (s : Schema) → Shows free s → (vs : Values) (ys : List Oer.OctetForm) (a b : State) →
      Arranged (λ v. Oer.form s v) vs ys → Found free (Oer.members_form h ys) a b → (ws : Values) × (m : State) × (same (bag vs) (bag ws) ≡ true) ×
      ListBegins free h (member_count ws) a m × Chain (Step free) (member_records (λ v. presents s v) ws) m b
  ordered_out h s shows vs ys a b r f =
      let g : Found free (Oer.members_form h (each (λ v. Oer.form s v) (values_of r.1))) a b = subst (λ l. Found free (Oer.members_form h l) a b) (sym r.3) f in
      let t = counted_out h s shows (values_of r.1) a b g in
      (t.0, t.1, bag_like vs t.0 r.0 r.1 r.2 t.2.0, t.3, t.4)

  pub bag_shows : (z : Size) (h : Counts) (s : Schema) → Shows free s → Shows free (set_of z h s)
  unfolding presents Oer.form Oer.in_any_order
  bag_shows z h s shows (bag vs) a b f =
      let t = varied_out free {c = Oer.other_order} (λ o. given (Ordered (λ x. written x 0) (stands_before ltb) (each (λ v. Oer.form s v) vs) o) (Oer.members_form h)) a.0 b.0 f.0 in
      let q = given_out free (Ordered (λ x. written x 0) (stands_before ltb) (each (λ v. Oer.form s v) vs) t.0) (Oer.members_form h) a.0 b.0 t.1 in
      let r = ordered_out h s shows vs q.0 a b (reordered (λ v. Oer.form s v) (λ x. written x 0) (stands_before ltb) vs t.0 q.0 q.1) (q.2, f.1) in
      (bag r.0, (r.2, λ d. cc d), (r.1, r.3, r.4))
  bag_shows z h s shows v a b f = absurd (of_refused free a.0 b.0 f.0)

  -- ---- components
  -- what is read of root components: these presence bits, octets of this form, and then the records after them
  abbrev pub RootRead : List Bool → Oer.OctetForm → List Record → Option Bool → List Bool → List ℕ → List Scope → State → Type 0
  RootRead bs y rs x ms os k b = (mid : List ℕ) × (more : List Bool) × (ms ≡ bs ++ more) × Front free y os mid × Chain (Step free) rs (mid, components x more ∷ k) b

  -- a chain that reads this, from any octets and presence bits
  abbrev Goes : List Bool → Oer.OctetForm → List Record → List Record → Option Bool → List Scope → State → Type 0
  Goes bs y rs tail x k b = (ms : List Bool) (os : List ℕ) → Chain (Step free) tail (os, components x ms ∷ k) b → RootRead bs y rs x ms os k b

  behind_it : (s : Schema) (v : Value) → Finds free s → (d g : Bool) (bs : List Bool) (y : Oer.OctetForm) → Moves free y →
      (rs tail : List Record) (x : Option Bool) (k : List Scope) (b : State) → Goes bs y rs tail x k b →
      Goes bs (both (spelled_by d g (Oer.form s v)) y) rs ((presents s v ++ noted_by d g) ++ tail) x k b
  behind_it s v h d g bs y moves rs tail x k b others ms os c =
      let q = chain_split (Step free) (presents s v ++ noted_by d g) tail (os, components x ms ∷ k) b c in
      let f = there_in free s v h d g (os, components x ms ∷ k) q.0 q.1 in
      let r = others ms q.0.0 (from_scopes free tail q.0 b (components x ms ∷ k) f.1 q.2) in
      (r.0, r.1, r.2, join free (spelled_by d g (Oer.form s v)) y moves os q.0.0 r.0 f.0 r.3, r.4)

  -- a presence bit
  behind_presence_bit : (t : Bool) (bs : List Bool) (y : Oer.OctetForm) (rs tail : List Record) (x : Option Bool) (k : List Scope) (b : State) →
      Goes bs y rs tail x k b → Goes (t ∷ bs) y rs (presence_bit t ∷ tail) x k b
  behind_presence_bit t bs y rs tail x k b others [] os c = absurd c.1
  behind_presence_bit t bs y rs tail x k b others (m ∷ ms) os c =
      let r = others ms os (from_state free tail c.0 b os (components x ms ∷ k) c.1.1 c.2) in
      (r.0, r.1, ap (λ n. n ∷ ms) (sym c.1.0) ∙ ap (λ l. t ∷ l) r.2, r.3, r.4)

  one_there : (q : Bool) (s : Schema) (v : Value) → Finds free s → (d g : Bool) (bs : List Bool) (y : Oer.OctetForm) → Moves free y →
      (rs tail : List Record) (x : Option Bool) (k : List Scope) (b : State) → Goes bs y rs tail x k b →
      Goes (presence_bit_unless q true bs) (both (spelled_by d g (Oer.form s v)) y) rs (with_presence_bit q (presents s v ++ noted_by d g) ++ tail) x k b
  one_there true s v h d g bs y moves rs tail x k b others = behind_it s v h d g bs y moves rs tail x k b others
  one_there false s v h d g bs y moves rs tail x k b others = behind_presence_bit true bs _ rs _ x k b (behind_it s v h d g bs y moves rs tail x k b others)

  nothing_there : (bs : List Bool) (y : Oer.OctetForm) (rs more : List Record) (x : Option Bool) (k : List Scope) (b : State) → Goes bs y rs (mismatch ∷ more) x k b
  nothing_there bs y rs more x k b ms os c = absurd c.1

  one_absent : (q : Bool) (bs : List Bool) (y : Oer.OctetForm) (rs tail : List Record) (x : Option Bool) (k : List Scope) (b : State) →
      Goes bs y rs tail x k b → Goes (presence_bit_unless q false bs) (cond q refused y) rs (cond q (mismatch ∷ []) (presence_bit false ∷ []) ++ tail) x k b
  one_absent true bs y rs tail x k b others = nothing_there bs refused rs tail x k b
  one_absent false bs y rs tail x k b others = behind_presence_bit false bs y rs tail x k b others

  pub root_in : (cs : Components) → EachFinds free cs → (ps : Parts) (rs : List Record) (x : Option Bool) (k : List Scope) (b : State) →
      Goes (presence_bits cs ps) (Oer.component_forms cs ps) rs (root_records cs ps rs) x k b
  unfolding root_records Oer.component_forms Oer.spelled
  root_in no_component h end rs x k b = λ ms os c. (os, ms, refl, nothing_front free os, c)
  root_in no_component h (absent ps) rs x k b = nothing_there [] refused rs [] x k b
  root_in no_component h (present v ps) rs x k b = nothing_there [] refused rs [] x k b
  root_in (component t o s cs) h (present v ps) rs x k b = one_there (is_required o) s v h.0 (is_at_default o s v) (is_group_left_out s v)
      (presence_bits cs ps) (Oer.component_forms cs ps) (components_move free cs ps) rs (root_records cs ps rs) x k b (root_in cs h.1 ps rs x k b)
  root_in (component t o s cs) h (absent ps) rs x k b = one_absent (is_required o) (presence_bits cs ps) (Oer.component_forms cs ps) rs (root_records cs ps rs) x k b (root_in cs h.1 ps rs x k b)
  root_in (component t o s cs) h end rs x k b = nothing_there _ refused rs [] x k b

  -- and back
  abbrev RootOut : Components → Parts → List Record → Option Bool → List Bool → List ℕ → List Scope → State → Type 0
  RootOut cs ps rs x more os k b = (qs : Parts) × LikeParts cs ps qs × (presence_bits cs qs ≡ presence_bits cs ps) ×
      Chain (Step free) (root_records cs qs rs) (os, components x (presence_bits cs qs ++ more) ∷ k) b

  presence_bit_out : (q : Bool) (rs tail : List Record) (x : Option Bool) (bs more : List Bool) (os : List ℕ) (k : List Scope) (b : State) →
      Chain (Step free) (rs ++ tail) (os, components x (bs ++ more) ∷ k) b → Chain (Step free) (with_presence_bit q rs ++ tail) (os, components x (presence_bit_unless q true bs ++ more) ∷ k) b
  presence_bit_out true rs tail x bs more os k b c = c
  presence_bit_out false rs tail x bs more os k b c = ((os, components x (bs ++ more) ∷ k), (refl, refl), c)

  pub root_out : (cs : Components) → EachShows free cs → (ps : Parts) (rs : List Record) (x : Option Bool) (more : List Bool) (os mid : List ℕ)
      (k : List Scope) (b : State) → Front free (Oer.component_forms cs ps) os mid → Chain (Step free) rs (mid, components x more ∷ k) b → RootOut cs ps rs x more os k b
  unfolding root_records Oer.component_forms Oer.spelled
  root_out no_component h end rs x more os mid k b f c = (end, (parts_self end, λ e. refl), refl, subst (λ l. Chain (Step free) rs (l, components x more ∷ k) b) (of_nothing free os mid f) c)
  root_out no_component h (absent ps) rs x more os mid k b f c = absurd (of_refused free os mid f)
  root_out no_component h (present v ps) rs x more os mid k b f c = absurd (of_refused free os mid f)
  root_out (component t o s cs) h (present v ps) rs x more os mid k b f c =
      let q = split free (spelled_by (is_at_default o s v) (is_group_left_out s v) (Oer.form s v)) (Oer.component_forms cs ps) (components_move free cs ps) os mid f in
      let r = root_out cs h.1 ps rs x more q.0 mid k b q.2 c in
      let here : State = (os, components x (presence_bits cs r.0 ++ more) ∷ k) in
      let there : State = (q.0, components x (presence_bits cs r.0 ++ more) ∷ k) in
      let w = there_out free s h.0 o v here there (q.1, refl) in
      let its : List Record = presents s w.0 ++ noted_by (is_at_default o s w.0) (is_group_left_out s w.0) in (
        present w.0 r.0,
        like_present t o s cs v w.0 ps r.0 w.1 r.1,
        ap (λ l. presence_bit_unless (is_required o) true l) r.2,
        presence_bit_out
            (is_required o) its (root_records cs r.0 rs) x (presence_bits cs r.0) more os k b (chain_append (Step free) its (root_records cs r.0 rs) here there b w.2 r.3),
      )
  root_out (component t o s cs) h (absent ps) rs x more os mid k b f c =
      let d = left_in (is_required o) (Oer.component_forms cs ps) os mid f in
      let r = root_out cs h.1 ps rs x more os mid k b d.1 c in (
        absent r.0,
        like_absent t o s cs ps r.0 r.1,
        ap (λ l. presence_bit_unless (is_required o) false l) r.2,
        left_back (is_required o) d.0
            (root_records cs r.0 rs) x (presence_bits cs r.0) more os k b r.3,
      )
    where
      left_in : (q : Bool) (y : Oer.OctetForm) (os mid : List ℕ) → Front free (cond q refused y) os mid → (q ≡ false) × Front free y os mid
      left_in true y os mid f = absurd (of_refused free os mid f)
      left_in false y os mid f = (refl, f)

      left_back : (q : Bool) → q ≡ false → (tail : List Record) (x : Option Bool) (bs more : List Bool) (os : List ℕ) (k : List Scope) (b : State) →
          Chain (Step free) tail (os, components x (bs ++ more) ∷ k) b →
          Chain (Step free) (cond q (mismatch ∷ []) (presence_bit false ∷ []) ++ tail) (os, components x (presence_bit_unless q false bs ++ more) ∷ k) b
      left_back true e tail x bs more os k b c = cc
      left_back false e tail x bs more os k b c = ((os, components x (bs ++ more) ∷ k), (refl, refl), c)
  root_out (component t o s cs) h end rs x more os mid k b f c = absurd (of_refused free os mid f)
