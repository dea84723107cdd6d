-- What the records of a value say of a default: whether it is the value.
use Rattle.std.proofs.Common.{◌≡◌, ◌∙◌, refl, sym, ap, subst, drop, ℕ, zero, suc, Bool, true, false, cond, List, [], ◌∷◌, ◌++◌, Option, Some, None, append_assoc, arith}
use Rattle.std.specs.Prelude.{◌&&◌, ◌||◌, ◌==◌, ◌+◌, not, is_some, option_and_then}
use Rattle.std.specs.Option.{option_map_or, option_or}
use Rattle.std.proofs.lemmas.Bool.{and_parts, and_from, eqb-true}
use Rattle.std.proofs.lemmas.List.{append-nil}
use Rattle.asn1_model.specs.Value.{Value, truth, nothing, number, item, bit_list, octet_list, text, arcs, members, bag, fields, chosen, Values, no_more, member}
use Rattle.asn1_model.specs.Value.{are_all, same, same_members, same_bag, same_parts, same_truth, taken_out, Parts as Fields, end, absent, present}
use Rattle.asn1_model.specs.Schema.{Tag, Presence, Schema, cut, sequence_of, set_of, sequence, set, group, choice, Components, no_component, component, Alternatives, no_alternative, alternative}
use Rattle.asn1_model.specs.Lawful.{is_of, are_of, is_of_alternative, is_lawful, alternative_tags, are_no_components, member_count}
use Rattle.asn1_model.specs.Normal.{normal, is_required, is_at_default, is_group_left_out}
use Rattle.asn1_model.specs.Tidy.{is_normal, are_normal, is_normal_alternative}
use Rattle.asn1_laws_values.proofs.Counts.{both_true, count, one_if, rest_parts, taken_parts}
use Rattle.asn1_laws_values.proofs.Normal.{normal_stays}
use Rattle.asn1_laws_values.proofs.Normals.{normal_normal}
use Rattle.asn1_laws_values.proofs.Same.{same_turned}
use Rattle.asn1_schema_laws.specs.Records.{Record, list_begins, bag_begins, choice_begins, further, sequence_begins, set_begins, group_begins, presence_bit, additions_begin, addition, addition_ends, is_default, is_empty, mismatch, ends}
use Rattle.asn1_schema_laws.specs.Presents.{presents, member_records, chosen_records, root_records, added_records, behind_root as after_root, with_presence_bit, noted, optional_count, component_count, Fits, AllFit, PartsFit, ChosenFits}
use Rattle.asn1_table_laws.proofs.Normal.{normal_fits}
use Rattle.asn1_table_nodes.specs.Sameness.{is_among, are_among}
use Rattle.asn1_table_nodes.proofs.EqualBags.{bag_is, counts_agree, matched, no_bag}
use Rattle.asn1_table_nodes.specs.declared.nodes.TypeNode.{TypeNode}
use Rattle.asn1_table_tape.specs.declared.defaults.Mark.{Mark}
use Rattle.asn1_table_tape.specs.declared.defaults.Mark.TheVariants.{Opens, More, Picks, Parts, Present, Additions, Added, AddedEnds, Closes}
use Rattle.asn1_table_tape.specs.declared.tape.Event.{Event}
use Rattle.asn1_table_tape.specs.declared.tape.Event.TheVariants as event
use Rattle.asn1_table_tape.specs.Records.{record_of, records_of}
use Rattle.asn1_table_tape.specs.Values.{is_scalar, has_mark, behind_event, behind_value, behind_members, behind_any, behind_each, behind_bag, behind_root, behind_added, count_on, counts_on, past}
use Rattle.asn1_table_tape.proofs.Shapes as shapes
use Rattle.asn1_table_tape.proofs.Shapes.{payload, payload_of, opens, more, picks, parts, there, additions, added, added_ends, closes, mark, mark_in, mark_of, is_bit, is_single, single, begun, shape}

true_false : {A : Type 0} → true ≡ false → A
true_false e = cc

false_true : {A : Type 0} → false ≡ true → A
false_true e = cc

-- ---- what a record says

unfoldable passes : Mark → shapes.Mark → Bool
passes Opens opens = true
passes (More b) (more c) = same_truth c b
passes (Picks c) (picks b i) = same_truth b c.added && (i == c.place)
passes Parts parts = true
passes (Present b) (there c) = same_truth c b
passes Additions additions = true
passes (Added b) (added c) = same_truth c b
passes AddedEnds added_ends = true
passes Closes closes = true
passes m n = false

mark_as : (m : Mark) (e : Event) → has_mark m e ≡ passes m (mark_in e)
unfolding passes mark_in
mark_as Opens e = elim e as (λ e. has_mark Opens e ≡ passes Opens (mark_in e)) [ event.ListBegins i n ↦ refl | _ ↦ refl ]
mark_as (More b) e = elim e as (λ e. has_mark (More b) e ≡ passes (More b) (mark_in e)) [ event.Further c ↦ refl | _ ↦ refl ]
mark_as (Picks c) e = elim e as (λ e. has_mark (Picks c) e ≡ passes (Picks c) (mark_in e)) [ event.ChoiceBegins i d ↦ refl | _ ↦ refl ]
mark_as Parts e = elim e as (λ e. has_mark Parts e ≡ passes Parts (mark_in e)) [ event.SequenceBegins x n ↦ refl | event.SetBegins x n ↦ refl | event.GroupBegins n ↦ refl | _ ↦ refl ]
mark_as (Present b) e = elim e as (λ e. has_mark (Present b) e ≡ passes (Present b) (mark_in e)) [ event.PresenceBit c ↦ refl | _ ↦ refl ]
mark_as Additions e = elim e as (λ e. has_mark Additions e ≡ passes Additions (mark_in e)) [ event.AdditionsBegin n ↦ refl | _ ↦ refl ]
mark_as (Added b) e = elim e as (λ e. has_mark (Added b) e ≡ passes (Added b) (mark_in e)) [ event.Addition c ↦ refl | _ ↦ refl ]
mark_as AddedEnds e = elim e as (λ e. has_mark AddedEnds e ≡ passes AddedEnds (mark_in e)) [ event.AdditionEnds ↦ refl | _ ↦ refl ]
mark_as Closes e = elim e as (λ e. has_mark Closes e ≡ passes Closes (mark_in e)) [ event.Ends ↦ refl | _ ↦ refl ]

abbrev says : Value → Option Value → Bool
says d o = option_map_or (λ w. same w d) o false

-- a value with parts is none without them
apart : (w d : Value) → is_single w ≡ false → is_single d ≡ true → same w d ≡ false
unfolding same
apart (truth b) d e k = true_false e
apart nothing d e k = true_false e
apart (number n) d e k = true_false e
apart (item n) d e k = true_false e
apart (bit_list bs) d e k = true_false e
apart (octet_list os) d e k = true_false e
apart (text cs) d e k = true_false e
apart (arcs ns) d e k = true_false e
apart w (members vs) e k = false_true k
apart w (bag vs) e k = false_true k
apart w (fields ps qs) e k = false_true k
apart w (chosen b i v) e k = false_true k
apart w d e k = refl

-- the type of a chosen alternative, and of another value of it
chosen_typed : (cs : Alternatives) (i : ℕ) (w v : Value) → ChosenFits cs i w → is_normal_alternative cs i w ≡ true → is_of_alternative cs i v ≡ true →
    (t : Schema) × Fits t w × (is_normal t w ≡ true) × (is_of t v ≡ true) × (chosen_records cs i w ≡ presents t w ++ (ends ∷ []))
unfolding ChosenFits chosen_records is_of_alternative is_normal_alternative
chosen_typed no_alternative i w v f n e = absurd f
chosen_typed (alternative t s cs) zero w v f n e = (s, f, n, e, refl)
chosen_typed (alternative t s cs) (suc i) w v f n e = chosen_typed cs i w v f n e

turned : (v w : Value) → same v w ≡ same w v
turned v w = both_true (same v w) (same w v) (λ e. same_turned v w e) (λ e. same_turned w v e)

-- as many elements
size_as : (vs : Values) → count (λ x. true) vs ≡ member_count vs
size_as no_more = refl
size_as (member v vs) = let a = size_as vs in omega (arith, a)

same_counts : (vs ws : Values) → same_bag vs ws ≡ true → member_count ws ≡ member_count vs
unfolding same_bag
same_counts no_more no_more e = refl
same_counts no_more (member w ws) e = cc
same_counts (member v vs) ws e =
    let p = rest_parts (taken_out (λ w. same v w) ws) (λ rest. same_bag vs rest) e in
    let k = taken_parts (λ w. same v w) ws p.0 p.1 in
    let c = k.counts (λ x. true) in
    let r = same_counts vs p.0 p.2 in
    omega (arith, c, r, size_as ws, size_as p.0)

none_left : (a b : Bool) → (a || not b) ≡ false → b ≡ true
none_left false true e = refl
none_left false false e = sym e
none_left true b e = true_false e

not_true : (b : Bool) → not b ≡ true → b ≡ false
not_true false e = refl
not_true true e = false_true e

truth_same : (b : Bool) → same_truth b b ≡ true
truth_same true = refl
truth_same false = refl

and_false : (a : Bool) → (a && false) ≡ false
and_false true = refl
and_false false = refl

-- what is found: the value, and the records after it; or another
data Found (ns : List TypeNode) (rs : List Record) (equal : Bool) (found : Option (List Event)) : Type 0 where
  passed : (os : List Event) → records_of ns os ≡ rs → equal ≡ true → found ≡ Some os → Found ns rs equal found
  missed : equal ≡ false → found ≡ None → Found ns rs equal found

-- the end of a CHOICE, after its value
abbrev after_choice : Value → Option (List Event) → Option (List Event)
after_choice v o = option_and_then (λ rest. option_and_then (λ others. behind_event (has_mark Closes) others) (behind_value v rest)) o

module _ (ns : List TypeNode) where
  -- ---- the events of records
  marked : (e : Event) (r : Record) → record_of ns e ≡ r → mark_in e ≡ mark r
  marked e r h = sym (mark_of ns e) ∙ ap mark h

  parted : (es : List Event) (r : Record) (rs : List Record) → records_of ns es ≡ r ∷ rs → (e : Event) × (os : List Event) × (es ≡ e ∷ os) × (record_of ns e ≡ r) × (records_of ns os ≡ rs)
  parted [] r rs h = absurd (let z : [] ≡ r ∷ rs = h in cc)
  parted (e ∷ os) r rs h =
      let q : record_of ns e ∷ records_of ns os ≡ r ∷ rs = h in
      let k : record_of ns e ≡ r = cc in
      (e, os, refl, k, ap (λ xs. drop 1 xs) q)

  first : (m : Mark) (es : List Event) (r : Record) (rs : List Record) → records_of ns es ≡ r ∷ rs →
      (os : List Event) × (records_of ns os ≡ rs) × (behind_event (has_mark m) es ≡ cond (passes m (mark r)) (Some os) None)
  first m es r rs q =
      let a = parted es r rs q in
      (a.1, a.4, ap (λ xs. behind_event (has_mark m) xs) a.2 ∙ ap (λ b. cond b (Some a.1) None) (mark_as m a.0 ∙ ap (λ n. passes m n) (marked a.0 r a.3)))

  first_scalar : (d : Value) (es : List Event) (r : Record) (rs : List Record) → records_of ns es ≡ r ∷ rs →
      (os : List Event) × (records_of ns os ≡ rs) × (behind_event (is_scalar d) es ≡ cond (says d (payload r)) (Some os) None)
  first_scalar d es r rs q =
      let a = parted es r rs q in
      (a.1, a.4, ap (λ xs. behind_event (is_scalar d) xs) a.2 ∙ ap (λ b. cond b (Some a.1) None) (ap (says d) (sym (payload_of ns a.0) ∙ ap payload a.3)))

  found_by : (rs : List Record) (a b : Bool) (x y : Option (List Event)) → a ≡ b → x ≡ y → Found ns rs b y → Found ns rs a x
  found_by rs a b x y e h (passed os q k l) = passed os q (e ∙ k) (h ∙ l)
  found_by rs a b x y e h (missed k l) = missed (e ∙ k) (h ∙ l)

  found_if : (rs : List Record) (os : List Event) (b : Bool) → records_of ns os ≡ rs → Found ns rs b (cond b (Some os) None)
  found_if rs os true q = passed os q refl refl
  found_if rs os false q = missed refl refl

  -- ---- values without parts
  scalar_found : (d : Value) (s : Schema) (w : Value) (es : List Event) (rs : List Record) → is_single d ≡ true → Fits s w → records_of ns es ≡ presents s w ++ rs →
      Found ns rs (same w d) (behind_event (is_scalar d) es)
  scalar_found d s w es rs k f q = elim (shape s w f) [
    | single r e p o b ↦
        let a = first_scalar d es r rs (q ∙ ap (λ xs. xs ++ rs) e) in
        found_by rs _ _ _ _ refl (a.2 ∙ ap (λ o. cond (says d o) (Some a.0) None) p) (found_if rs a.0 (same w d) a.1)
    | begun r qs e p o b n ↦
        let a = first_scalar d es r (qs ++ rs) (q ∙ ap (λ xs. xs ++ rs) e) in
        missed (apart w d n k) (a.2 ∙ ap (λ o. cond (says d o) (Some a.0) None) p)
  ]

  -- ---- lists
  abbrev FindsMembers : Schema → Values → Type 0
  FindsMembers t ds = (ws : Values) (es : List Event) (rs : List Record) → AllFit (λ v. Fits t v) ws → are_all (λ v. is_normal t v) ws ≡ true →
      records_of ns es ≡ member_records (λ v. presents t v) ws ++ rs → Found ns rs (same_members ws ds) (behind_members ds es)

  abbrev FindsValue : Schema → Value → Type 0
  FindsValue t d = (w : Value) (es : List Event) (rs : List Record) → Fits t w → is_normal t w ≡ true → records_of ns es ≡ presents t w ++ rs → Found ns rs (same w d) (behind_value d es)

  no_member_found : (t : Schema) (ws : Values) (es : List Event) (rs : List Record) → AllFit (λ v. Fits t v) ws → records_of ns es ≡ member_records (λ v. presents t v) ws ++ rs →
      Found ns rs (same_members ws no_more) (behind_members no_more es)
  unfolding same_members behind_members passes mark
  no_member_found t no_more es rs f q =
      let a = first (More false) es (further false) (ends ∷ rs) q in
      let b = first Closes a.0 ends rs a.1 in
      passed b.0 b.1 refl (ap (λ o. option_and_then (λ rest. behind_event (has_mark Closes) rest) o) a.2 ∙ b.2)
  no_member_found t (member w ws) es rs f q =
      let a = first (More false) es (further true) ((presents t w ++ member_records (λ v. presents t v) ws) ++ rs) q in
      missed refl (ap (λ o. option_and_then (λ rest. behind_event (has_mark Closes) rest) o) a.2)

  member_found : (t : Schema) (d : Value) (ds : Values) → FindsValue t d → FindsMembers t ds → FindsMembers t (member d ds)
  unfolding same_members behind_members passes mark
  member_found t d ds one others no_more es rs f n q =
      let a = first (More true) es (further false) (ends ∷ rs) q in
      missed refl (ap (λ o. option_and_then (λ rest. behind_members ds rest) (option_and_then (λ rest. behind_value d rest) o)) a.2)
  member_found t d ds one others (member w ws) es rs f n q =
      let tail = member_records (λ v. presents t v) ws in
      let k = and_parts (is_normal t w) (are_all (λ v. is_normal t v) ws) n in
      let a = first (More true) es (further true) ((presents t w ++ tail) ++ rs) q in
      let at : behind_members (member d ds) es ≡ option_and_then (λ rest. behind_members ds rest) (behind_value d a.0) =
      ap (λ o. option_and_then (λ rest. behind_members ds rest) (option_and_then (λ rest. behind_value d rest) o)) a.2 in
      elim (one w a.0 (tail ++ rs) f.0 k.0 (a.1 ∙ append_assoc (presents t w) tail rs)) [
        | passed os l e h ↦ found_by rs _ _ _ _ (ap (λ b. b && same_members ws ds) e) (at ∙ ap (λ o. option_and_then (λ rest. behind_members ds rest) o) h) (others ws os rs f.1 k.1 l)
        | missed e h ↦ missed (ap (λ b. b && same_members ws ds) e) (at ∙ ap (λ o. option_and_then (λ rest. behind_members ds rest) o) h)
      ]

  list_found : (r : Record) (t : Schema) (ws ds : Values) (es : List Event) (rs : List Record) → mark r ≡ opens → FindsMembers t ds → AllFit (λ v. Fits t v) ws → are_all (λ v. is_normal t v) ws ≡ true →
      records_of ns es ≡ r ∷ (member_records (λ v. presents t v) ws ++ rs) →
      Found ns rs (same_members ws ds) (option_and_then (λ rest. behind_members ds rest) (behind_event (has_mark Opens) es))
  unfolding passes
  list_found r t ws ds es rs m h f n q =
      let a = first Opens es r (member_records (λ v. presents t v) ws ++ rs) q in
      found_by rs _ _ _ _ refl (ap (λ o. option_and_then (λ rest. behind_members ds rest) o) (a.2 ∙ ap (λ n. cond (passes Opens n) (Some a.0) None) m)) (h ws a.0 rs f n a.1)

  -- ---- SET OF
  abbrev FindsEach : Schema → Values → Type 0
  FindsEach t no_more = Unit {0}
  FindsEach t (member d ds) = FindsValue t d × FindsEach t ds

  any_found : (t : Schema) (ds : Values) → FindsEach t ds → (w : Value) (es : List Event) (rs : List Record) → Fits t w → is_normal t w ≡ true → records_of ns es ≡ presents t w ++ rs →
      Found ns rs (is_among ds w) (behind_any ds es)
  unfolding behind_any
  any_found t no_more h w es rs f n q = missed refl refl
  any_found t (member d ds) h w es rs f n q = elim (h.0 w es rs f n q) [
    | passed os l e g ↦ passed os l (ap (λ b. b || is_among ds w) (turned d w ∙ e)) (ap (λ o. option_or o (behind_any ds es)) g)
    | missed e g ↦ found_by rs _ _ _ _ (ap (λ b. b || is_among ds w) (turned d w ∙ e)) (ap (λ o. option_or o (behind_any ds es)) g) (any_found t ds h.1 w es rs f n q)
  ]

  -- as many elements, each of which is among the others, or not
  data Each (ds ws : Values) (n : ℕ) (rs : List Record) (found : Option (List Event)) : Type 0 where
    all : (os : List Event) → records_of ns os ≡ rs → member_count ws ≡ n → are_among ds ws ≡ true → found ≡ Some os → Each ds ws n rs found
    none : found ≡ None → (member_count ws ≡ n → are_among ds ws ≡ true → ⊥) → Each ds ws n rs found

  each_next : (ds ws : Values) (w : Value) (n : ℕ) (rs : List Record) (os : List Event) (found : Option (List Event)) → is_among ds w ≡ true → found ≡ behind_each n (λ r. behind_any ds r) os →
      Each ds ws n rs (behind_each n (λ r. behind_any ds r) os) → Each ds (member w ws) (suc n) rs found
  each_next ds ws w n rs os found e g (all us l c m k) = all us l (ap suc c) (and_from _ _ e m) (g ∙ k)
  each_next ds ws w n rs os found e g (none k u) = none (g ∙ k) (λ c m. u (omega (arith, c)) (and_parts (is_among ds w) (are_among ds ws) m).1)

  each_found : (t : Schema) (ds : Values) → FindsEach t ds → (n : ℕ) (ws : Values) (es : List Event) (rs : List Record) → AllFit (λ v. Fits t v) ws → are_all (λ v. is_normal t v) ws ≡ true →
      records_of ns es ≡ member_records (λ v. presents t v) ws ++ rs → Each ds ws n rs (behind_each n (λ r. behind_any ds r) es)
  unfolding passes mark
  each_found t ds h zero no_more es rs f n q =
      let a = first (More false) es (further false) (ends ∷ rs) q in
      let b = first Closes a.0 ends rs a.1 in
      all b.0 b.1 refl refl (ap (λ o. option_and_then (λ rest. behind_event (has_mark Closes) rest) o) a.2 ∙ b.2)
  each_found t ds h zero (member w ws) es rs f n q =
      let a = first (More false) es (further true) ((presents t w ++ member_records (λ v. presents t v) ws) ++ rs) q in
      none (ap (λ o. option_and_then (λ rest. behind_event (has_mark Closes) rest) o) a.2) (λ e k. absurd (omega (arith, e)))
  each_found t ds h (suc n) no_more es rs f l q =
      let a = first (More true) es (further false) (ends ∷ rs) q in
      none (ap (λ o. option_and_then (λ rest. behind_each n (λ r. behind_any ds r) rest) (option_and_then (λ rest. behind_any ds rest) o)) a.2) (λ e k. absurd (omega (arith, e)))
  each_found t ds h (suc n) (member w ws) es rs f l q =
      let tail = member_records (λ v. presents t v) ws in
      let k = and_parts (is_normal t w) (are_all (λ v. is_normal t v) ws) l in
      let a = first (More true) es (further true) ((presents t w ++ tail) ++ rs) q in
      let at : behind_each (suc n) (λ r. behind_any ds r) es ≡ option_and_then (λ rest. behind_each n (λ r. behind_any ds r) rest) (behind_any ds a.0) =
      ap (λ o. option_and_then (λ rest. behind_each n (λ r. behind_any ds r) rest) (option_and_then (λ rest. behind_any ds rest) o)) a.2 in
      elim (any_found t ds h w a.0 (tail ++ rs) f.0 k.0 (a.1 ∙ append_assoc (presents t w) tail rs)) [
        | passed os m e g ↦ each_next ds ws w n rs os (behind_each (suc n) (λ r. behind_any ds r) es) e (at ∙ ap (λ o. option_and_then (λ rest. behind_each n (λ r. behind_any ds r) rest) o) g)
            (each_found t ds h n ws os rs f.1 k.1 m)
        | missed e g ↦ none (at ∙ ap (λ o. option_and_then (λ rest. behind_each n (λ r. behind_any ds r) rest) o) g)
            (λ c m. false_true (sym e ∙ (and_parts (is_among ds w) (are_among ds ws) m).0))
      ]

  some_found : (rs : List Record) (equal : Bool) (found : Option (List Event)) → Found ns rs equal found → is_some found ≡ equal
  some_found rs equal found (passed os l e g) = ap is_some g ∙ sym e
  some_found rs equal found (missed e g) = ap is_some g ∙ sym e

  -- as many elements pass a test as are equal to a value
  count_found : (t : Schema) (ds : Values) → FindsEach t ds → (d : Value) → FindsValue t d → (n : ℕ) (ws : Values) (es : List Event) (rs : List Record) → AllFit (λ v. Fits t v) ws →
      are_all (λ v. is_normal t v) ws ≡ true → records_of ns es ≡ member_records (λ v. presents t v) ws ++ rs → member_count ws ≡ n → are_among ds ws ≡ true →
      count_on n (λ r. behind_any ds r) (λ r. is_some (behind_value d r)) es ≡ count (λ x. same d x) ws
  unfolding passes mark
  count_found t ds h d one zero no_more es rs f l q c m = refl
  count_found t ds h d one zero (member w ws) es rs f l q c m = absurd (omega (arith, c))
  count_found t ds h d one (suc n) no_more es rs f l q c m = absurd (omega (arith, c))
  count_found t ds h d one (suc n) (member w ws) es rs f l q c m =
      let tail = member_records (λ v. presents t v) ws in
      let any : List Event → Option (List Event) = λ r. behind_any ds r in
      let test : List Event → Bool = λ r. is_some (behind_value d r) in
      let k = and_parts (is_normal t w) (are_all (λ v. is_normal t v) ws) l in
      let o = and_parts (is_among ds w) (are_among ds ws) m in
      let a = first (More true) es (further true) ((presents t w ++ tail) ++ rs) q in
      let p = a.1 ∙ append_assoc (presents t w) tail rs in
      let tested : test a.0 ≡ same d w = some_found (tail ++ rs) (same w d) (behind_value d a.0) (one w a.0 (tail ++ rs) f.0 k.0 p) ∙ turned w d in
      let at : count_on (suc n) any test es ≡ one_if (same d w) + option_map_or (λ others. count_on n any test others) (any a.0) 0 =
      ap (λ o. option_map_or (λ rest. one_if (test rest) + option_map_or (λ others. count_on n any test others) (any rest) 0) o 0) a.2
      ∙ ap (λ b. one_if b + option_map_or (λ others. count_on n any test others) (any a.0) 0) tested in
      elim (any_found t ds h w a.0 (tail ++ rs) f.0 k.0 p) [
        | passed os g e r ↦ at ∙ ap (λ o. one_if (same d w) + option_map_or (λ others. count_on n any test others) o 0) r
            ∙ ap (λ x. one_if (same d w) + x) (count_found t ds h d one n ws os rs f.1 k.1 g (omega (arith, c)) o.1)
        | missed e r ↦ false_true (sym e ∙ o.0)
      ]

  counts_found : (t : Schema) (ds : Values) → FindsEach t ds → (us : Values) → FindsEach t us → (n : ℕ) (ws : Values) (es : List Event) (rs : List Record) → AllFit (λ v. Fits t v) ws →
      are_all (λ v. is_normal t v) ws ≡ true → records_of ns es ≡ member_records (λ v. presents t v) ws ++ rs → member_count ws ≡ n → are_among ds ws ≡ true →
      counts_on us ds n (λ r. behind_any ds r) es ≡ counts_agree us ds ws
  unfolding counts_on
  counts_found t ds h no_more k n ws es rs f l q c m = refl
  counts_found t ds h (member u us) k n ws es rs f l q c m =
      ap (λ x. (count (λ x. same u x) ds == x) && counts_on us ds n (λ r. behind_any ds r) es) (count_found t ds h u k.0 n ws es rs f l q c m)
      ∙ ap (λ b. (count (λ x. same u x) ds == count (λ x. same u x) ws) && b) (counts_found t ds h us k.1 n ws es rs f l q c m)

  bag_turned : (ws ds : Values) → same_bag ws ds ≡ same_bag ds ws
  unfolding same
  bag_turned ws ds = turned (bag ws) (bag ds)

  bag_end : (ds ws : Values) (es : List Event) (rs : List Record) → Each ds ws (member_count ds) rs (behind_each (member_count ds) (λ r. behind_any ds r) es) →
      (member_count ws ≡ member_count ds → are_among ds ws ≡ true → counts_on ds ds (member_count ds) (λ r. behind_any ds r) es ≡ counts_agree ds ds ws) →
      Found ns rs (same_bag ws ds) (behind_bag ds es)
  bag_end ds ws es rs (none k u) h =
      missed (bag_turned ws ds ∙ no_same (same_bag ds ws) refl) (either_none (counts_on ds ds (member_count ds) (λ r. behind_any ds r) es) (behind_each (member_count ds) (λ r. behind_any ds r) es) k)
    where
      no_same : (b : Bool) → same_bag ds ws ≡ b → b ≡ false
      no_same false e = refl
      no_same true e = absurd (u (same_counts ds ws e) (matched ds ws e))

      either_none : (b : Bool) (o : Option (List Event)) → o ≡ None → cond b o None ≡ None
      either_none true o e = e
      either_none false o e = refl
  bag_end ds ws es rs (all os l c m k) h = by_counts (counts_agree ds ds ws) refl
    where
      by_counts : (b : Bool) → counts_agree ds ds ws ≡ b → Found ns rs (same_bag ws ds) (behind_bag ds es)
      by_counts true e = passed os l (bag_turned ws ds ∙ sym (bag_is ds ws e) ∙ m)
          (ap (λ b. cond b (behind_each (member_count ds) (λ r. behind_any ds r) es) None) (h c m ∙ e) ∙ k)
      by_counts false e = missed (bag_turned ws ds ∙ no_bag ds ws e) (ap (λ b. cond b (behind_each (member_count ds) (λ r. behind_any ds r) es) None) (h c m ∙ e))

  sequence_found : (ds : Values) (s : Schema) → ((t : Schema) → are_all (λ v. is_of t v) ds ≡ true → FindsMembers t ds) → is_of s (members ds) ≡ true → FindsValue s (members ds)
  unfolding is_of is_normal Fits presents same behind_value mark
  sequence_found ds s h i w es rs = elim s as (λ s. is_of s (members ds) ≡ true → Fits s w → is_normal s w ≡ true → records_of ns es ≡ presents s w ++ rs →
      Found ns rs (same w (members ds)) (behind_value (members ds) es)) [
        | sequence_of z c t ↦ elim w as (λ w. is_of (sequence_of z c t) (members ds) ≡ true → Fits (sequence_of z c t) w → is_normal (sequence_of z c t) w ≡ true →
            records_of ns es ≡ presents (sequence_of z c t) w ++ rs → Found ns rs (same w (members ds)) (behind_value (members ds) es)) [
              | members ws ↦ λ i f n q. list_found (list_begins z c (member_count ws)) t ws ds es rs refl (h t (and_parts _ (are_all (λ v. is_of t v) ds) i).1) f n q
              | _ ↦ λ i f. absurd f
            ]
        | cut ↦ λ i f. absurd f
        | _ ↦ λ i. false_true i
      ] i

  bag_found : (ds : Values) (s : Schema) → ((t : Schema) → are_all (λ v. is_of t v) ds ≡ true → FindsEach t ds) → is_of s (bag ds) ≡ true → FindsValue s (bag ds)
  unfolding is_of is_normal Fits presents same behind_value passes mark
  bag_found ds s h i w es rs = elim s as (λ s. is_of s (bag ds) ≡ true → Fits s w → is_normal s w ≡ true → records_of ns es ≡ presents s w ++ rs → Found ns rs (same w (bag ds)) (behind_value (bag ds) es)) [
    | set_of z c t ↦ elim w as (λ w. is_of (set_of z c t) (bag ds) ≡ true → Fits (set_of z c t) w → is_normal (set_of z c t) w ≡ true → records_of ns es ≡ presents (set_of z c t) w ++ rs →
        Found ns rs (same w (bag ds)) (behind_value (bag ds) es)) [
          | bag ws ↦ λ i f n q.
              let k = h t (and_parts _ (are_all (λ v. is_of t v) ds) i).1 in
              let a = first Opens es (bag_begins z c (member_count ws)) (member_records (λ v. presents t v) ws ++ rs) q in
              found_by rs _ _ _ _ refl (ap (λ o. option_and_then (λ rest. behind_bag ds rest) o) a.2)
              (bag_end ds ws a.0 rs (each_found t ds k (member_count ds) ws a.0 rs f n a.1) (λ c m. counts_found t ds k ds k (member_count ds) ws a.0 rs f n a.1 c m))
          | _ ↦ λ i f. absurd f
        ]
    | cut ↦ λ i f. absurd f
    | _ ↦ λ i. false_true i
  ] i

  -- ---- CHOICE
  picked_found : (cs : Alternatives) (b : Bool) (i j : ℕ) (v w : Value) (r : Record) (es : List Event) (rs : List Record) → ((t : Schema) → is_of t v ≡ true → FindsValue t v) → mark r ≡ picks b j →
      ChosenFits cs j w → is_normal_alternative cs j w ≡ true → is_of_alternative cs i v ≡ true → records_of ns es ≡ r ∷ (chosen_records cs j w ++ rs) →
      Found ns rs ((same_truth b b && (j == i)) && same w v) (behind_value (chosen b i v) es)
  unfolding behind_value passes mark
  picked_found cs b i j v w r es rs inner m f n t q = by_case (j == i) refl
    where
      begins : (os : List Event) × (records_of ns os ≡ chosen_records cs j w ++ rs) ×
          (behind_event (has_mark (Picks (record { added = b; place = i }))) es ≡ cond (passes (Picks (record { added = b; place = i })) (mark r)) (Some os) None)
      begins = first (Picks (record { added = b; place = i })) es r (chosen_records cs j w ++ rs) q

      chosen_one : (c : Bool) → (j == i) ≡ c → behind_event (has_mark (Picks (record { added = b; place = i }))) es ≡ cond c (Some begins.0) None
      chosen_one c e = begins.2 ∙ ap (λ n. cond (passes (Picks (record { added = b; place = i })) n) (Some begins.0) None) m
          ∙ ap (λ a. cond (a && (j == i)) (Some begins.0) None) (truth_same b) ∙ ap (λ a. cond a (Some begins.0) None) e

      equal : (c : Bool) → (j == i) ≡ c → ((same_truth b b && (j == i)) && same w v) ≡ (c && same w v)
      equal c e = ap (λ a. (a && (j == i)) && same w v) (truth_same b) ∙ ap (λ a. a && same w v) e

      by_case : (c : Bool) → (j == i) ≡ c → Found ns rs ((same_truth b b && (j == i)) && same w v) (after_choice v (behind_event (has_mark (Picks (record { added = b; place = i }))) es))
      by_case false e = missed (equal false e) (ap (after_choice v) (chosen_one false e))
      by_case true e =
          let it = chosen_typed cs i w v (subst (λ (k : ℕ). ChosenFits cs k w) (eqb-true j i e) f) (subst (λ (k : ℕ). is_normal_alternative cs k w ≡ true) (eqb-true j i e) n) t in
          let at : chosen_records cs j w ++ rs ≡ presents it.0 w ++ (ends ∷ rs) =
          ap (λ k. chosen_records cs k w ++ rs) (eqb-true j i e) ∙ ap (λ xs. xs ++ rs) it.4 ∙ append_assoc (presents it.0 w) (ends ∷ []) rs in
          elim (inner it.0 it.3 w begins.0 (ends ∷ rs) it.1 it.2 (begins.1 ∙ at)) [
            | passed os k h l ↦
                let a = first Closes os ends rs k in
                passed a.0 a.1 (equal true e ∙ h) (ap (after_choice v) (chosen_one true e) ∙ ap (λ o. option_and_then (λ others. behind_event (has_mark Closes) others) o) l ∙ a.2)
            | missed h l ↦ missed (equal true e ∙ h) (ap (after_choice v) (chosen_one true e) ∙ ap (λ o. option_and_then (λ others. behind_event (has_mark Closes) others) o) l)
          ]

  -- an alternative of the other kind
  other_found : (b c : Bool) (i j : ℕ) (v w : Value) (r : Record) (es : List Event) (qs rs : List Record) → same_truth c b ≡ false → mark r ≡ picks c j → records_of ns es ≡ r ∷ qs →
      Found ns rs ((same_truth c b && (j == i)) && same w v) (behind_value (chosen b i v) es)
  unfolding behind_value passes
  other_found b c i j v w r es qs rs d m q =
      let a = first (Picks (record { added = b; place = i })) es r qs q in
      missed (ap (λ x. (x && (j == i)) && same w v) d)
      (ap (λ o. option_and_then (λ rest. option_and_then (λ others. behind_event (has_mark Closes) others) (behind_value v rest)) o)
      (a.2 ∙ ap (λ n. cond (passes (Picks (record { added = b; place = i })) n) (Some a.0) None) m ∙ ap (λ x. cond (x && (j == i)) (Some a.0) None) d))

  choice_found : (b : Bool) (i : ℕ) (v : Value) (s : Schema) → ((t : Schema) → is_of t v ≡ true → FindsValue t v) → is_of s (chosen b i v) ≡ true → FindsValue s (chosen b i v)
  unfolding is_of is_normal Fits presents same mark
  choice_found b i v s inner t w es rs = elim s as (λ s. is_of s (chosen b i v) ≡ true → Fits s w → is_normal s w ≡ true → records_of ns es ≡ presents s w ++ rs →
      Found ns rs (same w (chosen b i v)) (behind_value (chosen b i v) es)) [
        | choice cs x adds ↦ elim w as (λ w. is_of (choice cs x adds) (chosen b i v) ≡ true → Fits (choice cs x adds) w → is_normal (choice cs x adds) w ≡ true →
            records_of ns es ≡ presents (choice cs x adds) w ++ rs → Found ns rs (same w (chosen b i v)) (behind_value (chosen b i v) es)) [
              | chosen c j u ↦ by_both cs x adds b c j u
              | _ ↦ λ t f. absurd f
            ]
        | cut ↦ λ t f. absurd f
        | _ ↦ λ t. false_true t
      ] t
    where
      by_both : (cs : Alternatives) (x : Bool) (adds : Alternatives) (b c : Bool) (j : ℕ) (u : Value) → is_of (choice cs x adds) (chosen b i v) ≡ true → Fits (choice cs x adds) (chosen c j u) →
          is_normal (choice cs x adds) (chosen c j u) ≡ true → records_of ns es ≡ presents (choice cs x adds) (chosen c j u) ++ rs →
          Found ns rs (same (chosen c j u) (chosen b i v)) (behind_value (chosen b i v) es)
      by_both cs x adds false false j u t f n q = picked_found cs false i j v u (choice_begins (alternative_tags cs) x (alternative_tags adds) false j) es rs inner refl f n t q
      by_both cs x adds true true j u t f n q =
          picked_found adds true i j v u (choice_begins (alternative_tags cs) x (alternative_tags adds) true j) es rs inner refl f n (and_parts x (is_of_alternative adds i v) t).1 q
      by_both cs x adds true false j u t f n q = other_found true false i j v u (choice_begins (alternative_tags cs) x (alternative_tags adds) false j) es _ rs refl refl q
      by_both cs x adds false true j u t f n q = other_found false true i j v u (choice_begins (alternative_tags cs) x (alternative_tags adds) true j) es _ rs refl refl q

  -- ---- components
  passed_over : (m : Mark) (es : List Event) (r : Record) (rs : List Record) → records_of ns es ≡ r ∷ rs → passes m (mark r) ≡ true → records_of ns (past (has_mark m) es) ≡ rs
  passed_over m es r rs q p =
      let a = parted es r rs q in
      ap (λ xs. records_of ns (past (has_mark m) xs)) a.2
      ∙ ap (λ b. records_of ns (cond b a.1 (a.0 ∷ a.1))) (mark_as m a.0 ∙ ap (λ n. passes m n) (marked a.0 r a.3) ∙ p) ∙ a.4

  left_there : (m : Mark) (es : List Event) (r : Record) (rs : List Record) → records_of ns es ≡ r ∷ rs → passes m (mark r) ≡ false → past (has_mark m) es ≡ es
  left_there m es r rs q p =
      let a = parted es r rs q in
      ap (λ xs. past (has_mark m) xs) a.2 ∙ ap (λ b. cond b a.1 (a.0 ∷ a.1)) (mark_as m a.0 ∙ ap (λ n. passes m n) (marked a.0 r a.3) ∙ p) ∙ sym a.2

  -- no value begins with a presence bit
  no_bit : (r : Record) → is_bit r ≡ false → passes (Present true) (mark r) ≡ false
  unfolding is_bit mark passes
  no_bit r = elim r as (λ r. is_bit r ≡ false → passes (Present true) (mark r) ≡ false) [ presence_bit b ↦ λ e. true_false e | is_empty ↦ λ e. refl | _ ↦ λ e. refl ]

  value_stays : (s : Schema) (w : Value) (es : List Event) (rs : List Record) → Fits s w → records_of ns es ≡ presents s w ++ rs → past (has_mark (Present true)) es ≡ es
  value_stays s w es rs f q = elim (shape s w f) [
    | single r e p o b ↦ left_there (Present true) es r rs (q ∙ ap (λ xs. xs ++ rs) e) (no_bit r b)
    | begun r qs e p o b n ↦ left_there (Present true) es r (qs ++ rs) (q ∙ ap (λ xs. xs ++ rs) e) (no_bit r b)
  ]

  absent_missed : (d : Value) (es : List Event) (rs : List Record) → records_of ns es ≡ presence_bit false ∷ rs → behind_value d es ≡ None
  unfolding behind_value passes mark payload
  absent_missed (members ds) es rs q = let a = first Opens es (presence_bit false) rs q in ap (λ o. option_and_then (λ rest. behind_members ds rest) o) a.2
  absent_missed (bag ds) es rs q = let a = first Opens es (presence_bit false) rs q in ap (λ o. option_and_then (λ rest. behind_bag ds rest) o) a.2
  absent_missed (chosen b i v) es rs q =
      let a = first (Picks (record { added = b; place = i })) es (presence_bit false) rs q in
      ap (λ o. option_and_then (λ rest. option_and_then (λ others. behind_event (has_mark Closes) others) (behind_value v rest)) o) a.2
  absent_missed (fields ps qs) es rs q =
      let a = first Parts es (presence_bit false) rs q in
      ap (λ o. option_and_then (λ rest. option_and_then (λ others. behind_added qs (past (has_mark Additions) others)) (behind_root ps rest)) o) a.2
  absent_missed (truth b) es rs q = (first_scalar (truth b) es (presence_bit false) rs q).2
  absent_missed nothing es rs q = (first_scalar nothing es (presence_bit false) rs q).2
  absent_missed (number n) es rs q = (first_scalar (number n) es (presence_bit false) rs q).2
  absent_missed (item n) es rs q = (first_scalar (item n) es (presence_bit false) rs q).2
  absent_missed (bit_list bs) es rs q = (first_scalar (bit_list bs) es (presence_bit false) rs q).2
  absent_missed (octet_list os) es rs q = (first_scalar (octet_list os) es (presence_bit false) rs q).2
  absent_missed (text cs) es rs q = (first_scalar (text cs) es (presence_bit false) rs q).2
  absent_missed (arcs xs) es rs q = (first_scalar (arcs xs) es (presence_bit false) rs q).2

  -- of a normal component nothing is noted
  normal_part : (o : Presence) (s : Schema) (w : Value) (rest : Bool) → (((not (is_at_default o s w) && not (is_group_left_out s w)) && is_normal s w) && rest) ≡ true →
      (noted o s w ≡ []) × (is_normal s w ≡ true) × (rest ≡ true)
  normal_part o s w rest e =
      let a = and_parts ((not (is_at_default o s w) && not (is_group_left_out s w)) && is_normal s w) rest e in
      let b = and_parts (not (is_at_default o s w) && not (is_group_left_out s w)) (is_normal s w) a.0 in
      let c = and_parts (not (is_at_default o s w)) (not (is_group_left_out s w)) b.0 in
      (nothing_noted (is_at_default o s w) (is_group_left_out s w) c.0 c.1, b.1, a.1)
    where
      nothing_noted : (x y : Bool) → not x ≡ true → not y ≡ true → cond x (is_default ∷ []) (cond y (is_empty ∷ []) []) ≡ []
      nothing_noted true y e f = false_true e
      nothing_noted false true e f = false_true f
      nothing_noted false false e f = refl

  abbrev FindsRoot : Components → Fields → Type 0
  FindsRoot cs ds = (ws : Fields) (es : List Event) (rs : List Record) → PartsFit cs ws → are_normal cs ws ≡ true → records_of ns es ≡ root_records cs ws rs → Found ns rs (same_parts ws ds) (behind_root ds es)

  abbrev FindsAdded : Components → Fields → Type 0
  FindsAdded cs ds = (ws : Fields) (es : List Event) (rs : List Record) → PartsFit cs ws → are_normal cs ws ≡ true → records_of ns es ≡ added_records cs ws ++ rs →
      Found ns rs (same_parts ws ds) (behind_added ds es)

  root_end_found : FindsRoot no_component end
  unfolding PartsFit root_records same_parts behind_root
  root_end_found end es rs f n q = passed es q refl refl
  root_end_found (absent ws) es rs f n q = absurd f
  root_end_found (present w ws) es rs f n q = absurd f

  root_absent_found : (t : List Tag) (o : Presence) (s : Schema) (cs : Components) (ds : Fields) → is_required o ≡ false → FindsRoot cs ds → FindsRoot (component t o s cs) (absent ds)
  unfolding PartsFit root_records are_normal same_parts behind_root passes mark
  root_absent_found t o s cs ds m h end es rs f n q = absurd f
  root_absent_found t o s cs ds m h (absent ws) es rs f n q =
      let a = first (Present false) es (presence_bit false) (root_records cs ws rs) (q ∙ ap (λ b. cond b (mismatch ∷ []) (presence_bit false ∷ []) ++ root_records cs ws rs) m) in
      found_by rs _ _ _ _ refl (ap (λ o. option_and_then (λ rest. behind_root ds rest) o) a.2) (h ws a.0 rs f.1 n a.1)
  root_absent_found t o s cs ds m h (present w ws) es rs f n q =
      let a = first (Present false) es (presence_bit true) ((presents s w ++ noted o s w) ++ root_records cs ws rs)
      (q ∙ ap (λ b. with_presence_bit b (presents s w ++ noted o s w) ++ root_records cs ws rs) m) in
      missed refl (ap (λ o. option_and_then (λ rest. behind_root ds rest) o) a.2)

  root_present_found : (t : List Tag) (o : Presence) (s : Schema) (cs : Components) (d : Value) (ds : Fields) → FindsValue s d → FindsRoot cs ds → FindsRoot (component t o s cs) (present d ds)
  unfolding PartsFit root_records are_normal same_parts behind_root passes mark
  root_present_found t o s cs d ds one h end es rs f n q = absurd f
  root_present_found t o s cs d ds one h (absent ws) es rs f n q =
      let p = q ∙ ap (λ b. cond b (mismatch ∷ []) (presence_bit false ∷ []) ++ root_records cs ws rs) f.0 in
      let e = left_there (Present true) es (presence_bit false) (root_records cs ws rs) p refl in
      missed refl (ap (λ x. option_and_then (λ rest. behind_root ds rest) (behind_value d x)) e ∙ ap (λ o. option_and_then (λ rest. behind_root ds rest) o) (absent_missed d es (root_records cs ws rs) p))
  root_present_found t o s cs d ds one h (present w ws) es rs f n q =
      let k = normal_part o s w (are_normal cs ws) n in
      let rest = root_records cs ws rs in
      let p : records_of ns es ≡ with_presence_bit (is_required o) (presents s w) ++ rest = q ∙ ap (λ xs. with_presence_bit (is_required o) (presents s w ++ xs) ++ rest) k.0
      ∙ ap (λ xs. with_presence_bit (is_required o) xs ++ rest) (append-nil (presents s w)) in
      let there_are : records_of ns (past (has_mark (Present true)) es) ≡ presents s w ++ rest = by_bit (is_required o) p in
      elim (one w (past (has_mark (Present true)) es) rest f.0 k.1 there_are) [
        | passed os l e g ↦ found_by rs _ _ _ _ (ap (λ b. b && same_parts ws ds) e) (ap (λ o. option_and_then (λ rest. behind_root ds rest) o) g) (h ws os rs f.1 k.2 l)
        | missed e g ↦ missed (ap (λ b. b && same_parts ws ds) e) (ap (λ o. option_and_then (λ rest. behind_root ds rest) o) g)
      ]
    where
      by_bit : (b : Bool) → records_of ns es ≡ with_presence_bit b (presents s w) ++ root_records cs ws rs → records_of ns (past (has_mark (Present true)) es) ≡ presents s w ++ root_records cs ws rs
      by_bit true e = ap (λ xs. records_of ns xs) (value_stays s w es (root_records cs ws rs) f.0 e) ∙ e
      by_bit false e = passed_over (Present true) es (presence_bit true) (presents s w ++ root_records cs ws rs) e refl

  added_end_found : FindsAdded no_component end
  unfolding PartsFit added_records same_parts behind_added passes mark
  added_end_found end es rs f n q = let a = first Closes es ends rs q in passed a.0 a.1 refl a.2
  added_end_found (absent ws) es rs f n q = absurd f
  added_end_found (present w ws) es rs f n q = absurd f

  added_absent_found : (t : List Tag) (o : Presence) (s : Schema) (cs : Components) (ds : Fields) → is_required o ≡ false → FindsAdded cs ds → FindsAdded (component t o s cs) (absent ds)
  unfolding PartsFit added_records are_normal same_parts behind_added passes mark
  added_absent_found t o s cs ds m h end es rs f n q = absurd f
  added_absent_found t o s cs ds m h (absent ws) es rs f n q =
      let a = first (Added false) es (addition false) (added_records cs ws ++ rs) (q ∙ ap (λ b. (cond b (mismatch ∷ []) (addition false ∷ []) ++ added_records cs ws) ++ rs) m) in
      found_by rs _ _ _ _ refl (ap (λ o. option_and_then (λ rest. behind_added ds rest) o) a.2) (h ws a.0 rs f.1 n a.1)
  added_absent_found t o s cs ds m h (present w ws) es rs f n q =
      let a = first (Added false) es (addition true) (((presents s w ++ (addition_ends ∷ noted o s w)) ++ added_records cs ws) ++ rs) q in
      missed refl (ap (λ o. option_and_then (λ rest. behind_added ds rest) o) a.2)

  added_present_found : (t : List Tag) (o : Presence) (s : Schema) (cs : Components) (d : Value) (ds : Fields) → FindsValue s d → FindsAdded cs ds → FindsAdded (component t o s cs) (present d ds)
  unfolding PartsFit added_records are_normal same_parts behind_added passes mark
  added_present_found t o s cs d ds one h end es rs f n q = absurd f
  added_present_found t o s cs d ds one h (absent ws) es rs f n q =
      let a = first (Added true) es (addition false) (added_records cs ws ++ rs) (q ∙ ap (λ b. (cond b (mismatch ∷ []) (addition false ∷ []) ++ added_records cs ws) ++ rs) f.0) in
      missed refl (ap (λ o. option_and_then (λ rest. behind_added ds rest) (option_and_then (λ rest. behind_event (has_mark AddedEnds) rest) (option_and_then (λ rest. behind_value d rest) o))) a.2)
  added_present_found t o s cs d ds one h (present w ws) es rs f n q =
      let k = normal_part o s w (are_normal cs ws) n in
      let rest = added_records cs ws ++ rs in
      let after : Option (List Event) → Option (List Event) = λ o. option_and_then (λ rest. behind_added ds rest) (option_and_then (λ rest. behind_event (has_mark AddedEnds) rest) o) in
      let a = first (Added true) es (addition true) (((presents s w ++ (addition_ends ∷ noted o s w)) ++ added_records cs ws) ++ rs) q in
      let p : records_of ns a.0 ≡ presents s w ++ (addition_ends ∷ rest) = a.1 ∙ ap (λ xs. ((presents s w ++ (addition_ends ∷ xs)) ++ added_records cs ws) ++ rs) k.0
      ∙ append_assoc (presents s w ++ (addition_ends ∷ [])) (added_records cs ws) rs ∙ append_assoc (presents s w) (addition_ends ∷ []) rest in
      elim (one w a.0 (addition_ends ∷ rest) f.0 k.1 p) [
        | passed os l e g ↦
            let b = first AddedEnds os addition_ends rest l in
            found_by rs _ _ _ _ (ap (λ x. x && same_parts ws ds) e)
            (ap (λ o. after (option_and_then (λ rest. behind_value d rest) o)) a.2 ∙ ap after g ∙ ap (λ o. option_and_then (λ rest. behind_added ds rest) o) b.2)
            (h ws b.0 rs f.1 k.2 b.1)
        | missed e g ↦ missed (ap (λ x. x && same_parts ws ds) e) (ap (λ o. after (option_and_then (λ rest. behind_value d rest) o)) a.2 ∙ ap after g)
      ]

  -- what follows the root components is as it is
  root_then : (cs : Components) (ws : Fields) (xs ys : List Record) → PartsFit cs ws → root_records cs ws xs ++ ys ≡ root_records cs ws (xs ++ ys)
  unfolding PartsFit root_records
  root_then no_component end xs ys f = refl
  root_then no_component (absent ws) xs ys f = absurd f
  root_then no_component (present w ws) xs ys f = absurd f
  root_then (component t o s cs) end xs ys f = absurd f
  root_then (component t o s cs) (absent ws) xs ys f =
      append_assoc (cond (is_required o) (mismatch ∷ []) (presence_bit false ∷ [])) (root_records cs ws xs) ys
      ∙ ap (λ zs. cond (is_required o) (mismatch ∷ []) (presence_bit false ∷ []) ++ zs) (root_then cs ws xs ys f.1)
  root_then (component t o s cs) (present w ws) xs ys f =
      append_assoc (with_presence_bit (is_required o) (presents s w ++ noted o s w)) (root_records cs ws xs) ys
      ∙ ap (λ zs. with_presence_bit (is_required o) (presents s w ++ noted o s w) ++ zs) (root_then cs ws xs ys f.1)

  plain_found : (adds : Components) (ws ds : Fields) (es : List Event) (rs : List Record) → FindsAdded adds ds → PartsFit adds ws → are_normal adds ws ≡ true → are_no_components adds ≡ true →
      records_of ns es ≡ added_records adds ws ++ rs → Found ns rs (same_parts ws ds) (behind_added ds (past (has_mark Additions) es))
  unfolding PartsFit added_records passes mark
  plain_found no_component end ds es rs h f n c e = found_by rs _ _ _ _ refl (ap (λ xs. behind_added ds xs) (left_there Additions es ends rs e refl)) (h end es rs f n e)
  plain_found no_component (absent ws) ds es rs h f n c e = absurd f
  plain_found no_component (present w ws) ds es rs h f n c e = absurd f
  plain_found (component t o s cs) ws ds es rs h f n c e = false_true c

  -- the additions, after their beginning if there is one
  additions_found : (x : Bool) (adds : Components) (ws ds : Fields) (es : List Event) (rs : List Record) → FindsAdded adds ds → PartsFit adds ws → are_normal adds ws ≡ true →
      records_of ns es ≡ after_root x adds (added_records adds ws) ++ rs → Found ns rs (same_parts ws ds) (behind_added ds (past (has_mark Additions) es))
  unfolding passes mark
  additions_found x adds ws ds es rs h f n q = by_case (x || not (are_no_components adds)) refl q
    where
      by_case : (b : Bool) → (x || not (are_no_components adds)) ≡ b → records_of ns es ≡ cond b (additions_begin (component_count adds) ∷ added_records adds ws) (added_records adds ws) ++ rs →
          Found ns rs (same_parts ws ds) (behind_added ds (past (has_mark Additions) es))
      by_case true c e = h ws (past (has_mark Additions) es) rs f n (passed_over Additions es (additions_begin (component_count adds)) (added_records adds ws ++ rs) e refl)
      by_case false c e = plain_found adds ws ds es rs h f n (none_left x (are_no_components adds) c) e

  fields_found : (r : Record) (cs adds : Components) (x : Bool) (ps qs ds us : Fields) (es : List Event) (rs : List Record) → mark r ≡ parts → FindsRoot cs ds → FindsAdded adds us →
      PartsFit cs ps → PartsFit adds qs → are_normal cs ps ≡ true → are_normal adds qs ≡ true →
      records_of ns es ≡ r ∷ (root_records cs ps (after_root x adds (added_records adds qs)) ++ rs) →
      Found ns rs (same_parts ps ds && same_parts qs us) (behind_value (fields ds us) es)
  unfolding behind_value passes
  fields_found r cs adds x ps qs ds us es rs m h k f g n l q =
      let tail = after_root x adds (added_records adds qs) in
      let next : Option (List Event) → Option (List Event) = λ o. option_and_then (λ others. behind_added us (past (has_mark Additions) others)) o in
      let a = first Parts es r (root_records cs ps tail ++ rs) q in
      let at : behind_value (fields ds us) es ≡ next (behind_root ds a.0) =
      ap (λ o. option_and_then (λ rest. next (behind_root ds rest)) o) (a.2 ∙ ap (λ z. cond (passes Parts z) (Some a.0) None) m) in
      elim (h ps a.0 (tail ++ rs) f n (a.1 ∙ root_then cs ps tail rs f)) [
        | passed os p e y ↦ found_by rs _ _ _ _ (ap (λ b. b && same_parts qs us) e) (at ∙ ap next y) (additions_found x adds qs us os rs k g l p)
        | missed e y ↦ missed (ap (λ b. b && same_parts qs us) e) (at ∙ ap next y)
      ]

  group_found : (cs : Components) (ds us : Fields) → ((cs : Components) → are_of cs ds ≡ true → FindsRoot cs ds) → is_of (group cs) (fields ds us) ≡ true → FindsValue (group cs) (fields ds us)
  unfolding is_of Fits PartsFit is_normal are_normal presents added_records same mark
  group_found cs ds (absent us) h i w es rs f n q = false_true i
  group_found cs ds (present v us) h i w es rs f n q = false_true i
  group_found cs ds end h i (fields ps end) es rs f n q =
      fields_found (group_begins (optional_count cs)) cs no_component false ps end ds end es rs refl (h cs i) added_end_found f.0 tt n refl q
  group_found cs ds end h i (fields ps (absent qs)) es rs f n q = absurd (let z : absent qs ≡ end = f.1 in cc)
  group_found cs ds end h i (fields ps (present v qs)) es rs f n q = absurd (let z : present v qs ≡ end = f.1 in cc)
  group_found cs ds end h i w es rs f n q = absurd f

  parts_value_found : (ds us : Fields) (s : Schema) → ((cs : Components) → are_of cs ds ≡ true → FindsRoot cs ds) → ((cs : Components) → are_of cs us ≡ true → FindsAdded cs us) →
      is_of s (fields ds us) ≡ true → FindsValue s (fields ds us)
  unfolding is_of Fits is_normal presents same mark
  parts_value_found ds us s h k i w es rs = elim s as (λ s. is_of s (fields ds us) ≡ true → Fits s w → is_normal s w ≡ true → records_of ns es ≡ presents s w ++ rs →
      Found ns rs (same w (fields ds us)) (behind_value (fields ds us) es)) [
        | sequence cs x adds ↦ elim w as (λ w. is_of (sequence cs x adds) (fields ds us) ≡ true → Fits (sequence cs x adds) w → is_normal (sequence cs x adds) w ≡ true →
            records_of ns es ≡ presents (sequence cs x adds) w ++ rs → Found ns rs (same w (fields ds us)) (behind_value (fields ds us) es)) [
              | fields ps qs ↦ λ i f n q.
                  let a = and_parts (are_of cs ds) (are_of adds us) i in
                  let b = and_parts (are_normal cs ps) (are_normal adds qs) n in
                  fields_found (sequence_begins x (optional_count cs)) cs adds x ps qs ds us es rs refl (h cs a.0) (k adds a.1) f.0 f.1 b.0 b.1 q
              | _ ↦ λ i f. absurd f
            ]
        | set cs x adds ↦ elim w as (λ w. is_of (set cs x adds) (fields ds us) ≡ true → Fits (set cs x adds) w → is_normal (set cs x adds) w ≡ true →
            records_of ns es ≡ presents (set cs x adds) w ++ rs → Found ns rs (same w (fields ds us)) (behind_value (fields ds us) es)) [
              | fields ps qs ↦ λ i f n q.
                  let a = and_parts (are_of cs ds) (are_of adds us) i in
                  let b = and_parts (are_normal cs ps) (are_normal adds qs) n in
                  fields_found (set_begins x (optional_count cs)) cs adds x ps qs ds us es rs refl (h cs a.0) (k adds a.1) f.0 f.1 b.0 b.1 q
              | _ ↦ λ i f. absurd f
            ]
        | group cs ↦ λ i f n q. group_found cs ds us h i w es rs f n q
        | cut ↦ λ i f. absurd f
        | _ ↦ λ i. other_type i
      ] i
    where
      other_type : {A : Type 0} → false ≡ true → A
      other_type e = false_true e

  -- ---- each value
  mutual
    unfolding is_of are_of behind_value

    value_found : (d : Value) (s : Schema) → is_of s d ≡ true → FindsValue s d
    value_found (truth b) s i = λ w es rs f n q. scalar_found (truth b) s w es rs refl f q
    value_found nothing s i = λ w es rs f n q. scalar_found nothing s w es rs refl f q
    value_found (number m) s i = λ w es rs f n q. scalar_found (number m) s w es rs refl f q
    value_found (item m) s i = λ w es rs f n q. scalar_found (item m) s w es rs refl f q
    value_found (bit_list bs) s i = λ w es rs f n q. scalar_found (bit_list bs) s w es rs refl f q
    value_found (octet_list os) s i = λ w es rs f n q. scalar_found (octet_list os) s w es rs refl f q
    value_found (text cs) s i = λ w es rs f n q. scalar_found (text cs) s w es rs refl f q
    value_found (arcs xs) s i = λ w es rs f n q. scalar_found (arcs xs) s w es rs refl f q
    value_found (members ds) s i = sequence_found ds s (λ t e. members_found ds t e) i
    value_found (bag ds) s i = bag_found ds s (λ t e. each_one ds t e) i
    value_found (chosen b j v) s i = choice_found b j v s (λ t e. value_found v t e) i
    value_found (fields ds us) s i = parts_value_found ds us s (λ cs e. root_found ds cs e) (λ cs e. added_found us cs e) i

    members_found : (ds : Values) (t : Schema) → are_all (λ v. is_of t v) ds ≡ true → FindsMembers t ds
    members_found no_more t e = λ ws es rs f n q. no_member_found t ws es rs f q
    members_found (member d ds) t e =
        let o = and_parts (is_of t d) (are_all (λ v. is_of t v) ds) e in
        member_found t d ds (value_found d t o.0) (members_found ds t o.1)

    each_one : (ds : Values) (t : Schema) → are_all (λ v. is_of t v) ds ≡ true → FindsEach t ds
    each_one no_more t e = tt
    each_one (member d ds) t e =
        let o = and_parts (is_of t d) (are_all (λ v. is_of t v) ds) e in
        (value_found d t o.0, each_one ds t o.1)

    root_found : (ds : Fields) (cs : Components) → are_of cs ds ≡ true → FindsRoot cs ds
    root_found end no_component e = root_end_found
    root_found end (component t o s cs) e = false_true e
    root_found (absent ds) no_component e = false_true e
    root_found (absent ds) (component t o s cs) e =
        let a = and_parts (not (is_required o)) (are_of cs ds) e in
        root_absent_found t o s cs ds (not_true (is_required o) a.0) (root_found ds cs a.1)
    root_found (present d ds) no_component e = false_true e
    root_found (present d ds) (component t o s cs) e =
        let a = and_parts (is_of s d) (are_of cs ds) e in
        root_present_found t o s cs d ds (value_found d s a.0) (root_found ds cs a.1)

    added_found : (ds : Fields) (cs : Components) → are_of cs ds ≡ true → FindsAdded cs ds
    added_found end no_component e = added_end_found
    added_found end (component t o s cs) e = false_true e
    added_found (absent ds) no_component e = false_true e
    added_found (absent ds) (component t o s cs) e =
        let a = and_parts (not (is_required o)) (are_of cs ds) e in
        added_absent_found t o s cs ds (not_true (is_required o) a.0) (added_found ds cs a.1)
    added_found (present d ds) no_component e = false_true e
    added_found (present d ds) (component t o s cs) e =
        let a = and_parts (is_of s d) (are_of cs ds) e in
        added_present_found t o s cs d ds (value_found d s a.0) (added_found ds cs a.1)

  pub default_found : (s : Schema) (v : Value) (d : Value) (es : List Event) → is_of s d ≡ true → is_normal s d ≡ true → is_lawful s ≡ true → Fits s v → records_of ns es ≡ presents s (normal s v) →
      is_some (behind_value d es) ≡ same (normal s v) (normal s d)
  default_found s v d es t k l f e =
      let q : records_of ns es ≡ presents s (normal s v) ++ [] = e ∙ sym (append-nil (presents s (normal s v))) in
      some_found [] (same (normal s v) d) (behind_value d es) (value_found d s t (normal s v) es [] (normal_fits s v l f) (normal_normal s v) q)
      ∙ ap (λ w. same (normal s v) w) (sym (normal_stays s d k))
