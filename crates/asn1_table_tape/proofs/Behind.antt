-- The records after a value, step by step.
use Rattle.std.proofs.Common.{◌≡◌, ◌∙◌, refl, sym, ap, ℕ, zero, suc, ◌+◌, ◌-◌, ◌==◌, ◌<◌, ◌≤◌, Bool, true, false, cond, ◌&&◌, List, [], ◌∷◌, map, drop, get_or, length, is_some, slice_get, Option, Some, None, Bor, arith}
use Rattle.std.specs.Prelude.{option_and_then}
use Rattle.std.specs.Option.{option_copied, option_map_or, option_or}
use Rattle.std.proofs.lemmas.List.{drop_more, drop_all}
use Rattle.asn1_laws_values.proofs.Counts.{count, one_if}
use Rattle.asn1_model.specs.Lawful.{member_count}
use Rattle.asn1_model.specs.Value.{Value, Values, members, bag, fields, chosen, values_of, Parts as Fields, absent, present, same}
use Rattle.asn1_schema_tags.specs.declared.chosen.Chosen.{Chosen}
use Rattle.asn1_table_nodes.specs.Values.{scalar_of, value_of, part_of, parts_of}
use Rattle.asn1_table_nodes.proofs.Values.{with_part, values_next, values_end, parts_next, parts_end}
use Rattle.asn1_table_nodes.specs.declared.events.DefaultValue.{DefaultValue}
use Rattle.asn1_table_nodes.specs.declared.events.Event.{Event as Scalar}
use Rattle.asn1_table_nodes.specs.declared.events.Event.TheVariants as scalar
use Rattle.asn1_table_tape.specs.declared.defaults.Mark.TheVariants.{Opens, More, Picks, Parts, Present, Additions, Added, Closes}
use Rattle.asn1_table_tape.specs.declared.tape.Event.{Event}
use Rattle.asn1_table_tape.specs.Values.{is_scalar, has_mark, behind_event, past, behind_value, behind_members, behind_any, behind_each, behind_root, behind_added, behind_addition, behind_bag, behind_nth, count_alike, count_on, counts_on}

-- the first record
pub event_behind : (test : Event → Bool) (es : List Event) (e : Event) (os : List Event) → es ≡ e ∷ os → test e ≡ true → behind_event test es ≡ Some os
event_behind test es e os h t = ap (λ xs. behind_event test xs) h ∙ ap (λ b. cond b (Some os) None) t

pub event_missed : (test : Event → Bool) (es : List Event) (e : Event) (os : List Event) → es ≡ e ∷ os → test e ≡ false → behind_event test es ≡ None
event_missed test es e os h t = ap (λ xs. behind_event test xs) h ∙ ap (λ b. cond b (Some os) None) t

pub no_event : (test : Event → Bool) (es : List Event) → length es ≡ 0 → behind_event test es ≡ None
no_event test [] h = refl
no_event test (e ∷ es) h = absurd (omega (arith, h))

-- a value without parts
pub scalar_behind : (d : Scalar) (es : List Event) → behind_value (scalar_of d) es ≡ behind_event (is_scalar (scalar_of d)) es
unfolding behind_value
scalar_behind d es = elim d as (λ d. behind_value (scalar_of d) es ≡ behind_event (is_scalar (scalar_of d)) es) [ scalar.Nothing ↦ refl | _ ↦ refl ]

-- after the beginning of a value with parts
pub sequence_behind : (vs : Values) (es : List Event) → behind_value (members vs) es ≡ option_and_then (λ rest. behind_members vs rest) (behind_event (has_mark Opens) es)
unfolding behind_value
sequence_behind vs es = refl

pub bag_behind : (vs : Values) (es : List Event) → behind_value (bag vs) es ≡ option_and_then (λ rest. behind_bag vs rest) (behind_event (has_mark Opens) es)
unfolding behind_value
bag_behind vs es = refl

pub choice_behind : (c : Chosen) (v : Value) (es : List Event) → behind_value (chosen c.added c.place v) es
    ≡ option_and_then (λ rest. option_and_then (λ others. behind_event (has_mark Closes) others) (behind_value v rest)) (behind_event (has_mark (Picks c)) es)
unfolding behind_value
choice_behind c v es = refl

pub fields_behind : (ps qs : Fields) (es : List Event) → behind_value (fields ps qs) es
    ≡ option_and_then (λ rest. option_and_then (λ others. behind_added qs (past (has_mark Additions) others)) (behind_root ps rest)) (behind_event (has_mark Parts) es)
unfolding behind_value
fields_behind ps qs es = refl

-- the next element of a list, and its end
pub members_next : (ds : List DefaultValue) (i : ℕ) (d : DefaultValue) (es : List Event) → i < length ds → d ≡ get_or ds i d →
    behind_members (values_of (map value_of (drop i ds))) es
    ≡ option_and_then (λ rest. behind_members (values_of (map value_of (drop (i + 1) ds))) rest)
    (option_and_then (λ rest. behind_value (value_of d) rest) (behind_event (has_mark (More true)) es))
unfolding behind_members
members_next ds i d es h e = ap (λ vs. behind_members vs es) (values_next ds i d h e)

pub members_end : (ds : List DefaultValue) (i : ℕ) (es : List Event) → length ds ≤ i →
    behind_members (values_of (map value_of (drop i ds))) es ≡ option_and_then (λ rest. behind_event (has_mark Closes) rest) (behind_event (has_mark (More false)) es)
unfolding behind_members
members_end ds i es h = ap (λ vs. behind_members vs es) (values_end ds i h)

-- the first value with which the records begin
pub any_next : (ds : List DefaultValue) (i : ℕ) (d : DefaultValue) (es : List Event) → i < length ds → d ≡ get_or ds i d →
    behind_any (values_of (map value_of (drop i ds))) es ≡ option_or (behind_value (value_of d) es) (behind_any (values_of (map value_of (drop (i + 1) ds))) es)
unfolding behind_any
any_next ds i d es h e = ap (λ vs. behind_any vs es) (values_next ds i d h e)

pub any_end : (ds : List DefaultValue) (i : ℕ) (es : List Event) → length ds ≤ i → behind_any (values_of (map value_of (drop i ds))) es ≡ None
unfolding behind_any
any_end ds i es h = ap (λ vs. behind_any vs es) (values_end ds i h)

-- root components, and additions
pub root_next : (ps : List (Option DefaultValue)) (i : ℕ) (p : Option DefaultValue) (es : List Event) → i < length ps → p ≡ get_or ps i p →
    behind_root (parts_of (map part_of (drop i ps))) es ≡ behind_root (with_part (part_of p) (parts_of (map part_of (drop (i + 1) ps)))) es
root_next ps i p es h e = ap (λ x. behind_root x es) (parts_next ps i p h e)

pub root_absent : (ps : Fields) (es : List Event) → behind_root (absent ps) es ≡ option_and_then (λ rest. behind_root ps rest) (behind_event (has_mark (Present false)) es)
unfolding behind_root
root_absent ps es = refl

pub root_present : (v : Value) (ps : Fields) (es : List Event) → behind_root (present v ps) es ≡ option_and_then (λ rest. behind_root ps rest) (behind_value v (past (has_mark (Present true)) es))
unfolding behind_root
root_present v ps es = refl

pub root_end : (ps : List (Option DefaultValue)) (i : ℕ) (es : List Event) → length ps ≤ i → behind_root (parts_of (map part_of (drop i ps))) es ≡ Some es
unfolding behind_root
root_end ps i es h = ap (λ x. behind_root x es) (parts_end ps i h)

pub added_next : (ps : List (Option DefaultValue)) (i : ℕ) (p : Option DefaultValue) (es : List Event) → i < length ps → p ≡ get_or ps i p →
    behind_added (parts_of (map part_of (drop i ps))) es ≡ behind_added (with_part (part_of p) (parts_of (map part_of (drop (i + 1) ps)))) es
added_next ps i p es h e = ap (λ x. behind_added x es) (parts_next ps i p h e)

pub added_absent : (ps : Fields) (es : List Event) → behind_added (absent ps) es ≡ option_and_then (λ rest. behind_added ps rest) (behind_event (has_mark (Added false)) es)
unfolding behind_added
added_absent ps es = refl

pub added_present : (v : Value) (ps : Fields) (es : List Event) → behind_added (present v ps) es ≡ option_and_then (λ rest. behind_added ps rest) (behind_addition v es)
unfolding behind_added
added_present v ps es = refl

pub added_end : (ps : List (Option DefaultValue)) (i : ℕ) (es : List Event) → length ps ≤ i → behind_added (parts_of (map part_of (drop i ps))) es ≡ behind_event (has_mark Closes) es
unfolding behind_added
added_end ps i es h = ap (λ x. behind_added x es) (parts_end ps i h)

-- ---- the elements of a SET OF

pub counted : (ds : List DefaultValue) → member_count (values_of (map value_of ds)) ≡ length ds
counted [] = refl
counted (d ∷ ds) = ap suc (counted ds)

-- the value at an index
pub record At (ds : List DefaultValue) (i : ℕ) : Type 0 where
  pub value : DefaultValue
  pub rest : drop i ds ≡ value ∷ drop (i + 1) ds
  pub nth : (r : List Event) → behind_nth ds i r ≡ behind_value (value_of value) r
  pub got : slice_get ds i ≡ Some value

later : (i : ℕ) → suc (i + 1) ≡ suc i + 1
later i = omega arith

pub at_index : (ds : List DefaultValue) (i : ℕ) → i < length ds → At ds i
at_index [] i h = absurd (omega (arith, h))
at_index (d ∷ ds) zero h = record { value = d; rest = refl; nth = λ r. refl; got = refl }
at_index (d ∷ ds) (suc i) h =
    let a = at_index ds i (omega (arith, h)) in
    record { value = a.value; rest = a.rest ∙ ap (λ k. a.value ∷ drop k (d ∷ ds)) (later i); nth = a.nth; got = a.got }

pub count_by : (n : ℕ) (any : List Event → Option (List Event)) (f g : List Event → Bool) → ((r : List Event) → f r ≡ g r) → (es : List Event) → count_on n any f es ≡ count_on n any g es
count_by zero any f g h es = refl
count_by (suc n) any f g h es = go (behind_event (has_mark (More true)) es) (λ others. count_by n any f g h others)
  where
    inner : (rest : List Event) (o : Option (List Event)) → ((others : List Event) → count_on n any f others ≡ count_on n any g others) →
        one_if (f rest) + option_map_or (λ others. count_on n any f others) o 0 ≡ one_if (g rest) + option_map_or (λ others. count_on n any g others) o 0
    inner rest None k = ap (λ b. one_if b + 0) (h rest)
    inner rest (Some others) k = ap (λ b. one_if b + count_on n any f others) (h rest) ∙ ap (λ m. one_if (g rest) + m) (k others)

    go : (o : Option (List Event)) → ((others : List Event) → count_on n any f others ≡ count_on n any g others) → option_map_or (λ rest. one_if (f rest) + option_map_or (λ others. count_on n any f others) (any rest) 0) o 0
        ≡ option_map_or (λ rest. one_if (g rest) + option_map_or (λ others. count_on n any g others) (any rest) 0) o 0
    go None k = refl
    go (Some rest) k = inner rest (any rest) k

pub counts_next : (ds es : List DefaultValue) (i n : ℕ) (any : List Event → Option (List Event)) (xs : List Event) (a : At ds i) →
    counts_on (values_of (map value_of (drop i ds))) (values_of (map value_of es)) n any xs
    ≡ ((count (λ x. same (value_of a.value) x) (values_of (map value_of es)) == count_on n any (λ r. is_some (behind_nth ds i r)) xs)
    && counts_on (values_of (map value_of (drop (i + 1) ds))) (values_of (map value_of es)) n any xs)
unfolding counts_on
counts_next ds es i n any xs a =
    ap (λ us. counts_on (values_of (map value_of us)) (values_of (map value_of es)) n any xs) a.rest
    ∙ ap (λ k. (count (λ x. same (value_of a.value) x) (values_of (map value_of es)) == k) && counts_on (values_of (map value_of (drop (i + 1) ds))) (values_of (map value_of es)) n any xs)
    (count_by n any (λ r. is_some (behind_value (value_of a.value) r)) (λ r. is_some (behind_nth ds i r)) (λ r. ap is_some (sym (a.nth r))) xs)

pub counts_over : (ds : List DefaultValue) (ws : Values) (i n : ℕ) (any : List Event → Option (List Event)) (xs : List Event) → length ds ≤ i → counts_on (values_of (map value_of (drop i ds))) ws n any xs ≡ true
unfolding counts_on
counts_over ds ws i n any xs h = ap (λ us. counts_on us ws n any xs) (values_end ds i h)

pub alike_at : (ds : List DefaultValue) (i : ℕ) (a : At ds i) → count_alike ds i ≡ count (λ x. same (value_of a.value) x) (values_of (map value_of ds))
alike_at ds i a = ap (λ o. option_map_or (λ d. count (λ x. same (value_of d) x) (values_of (map value_of ds))) o 0) a.got

pub counted_step : (v : Value) (ds : List DefaultValue) (i : ℕ) (d : DefaultValue) → i < length ds → d ≡ get_or ds i d →
    count (λ x. same v x) (values_of (map value_of (drop i ds))) ≡ one_if (same v (value_of d)) + count (λ x. same v x) (values_of (map value_of (drop (i + 1) ds)))
counted_step v ds i d h e = ap (λ us. count (λ x. same v x) us) (values_next ds i d h e)

pub each_step : (n : ℕ) (any : List Event → Option (List Event)) (es : List Event) → 0 < n →
    behind_each n any es ≡ option_and_then (λ rest. behind_each (n - 1) any rest) (option_and_then (λ rest. any rest) (behind_event (has_mark (More true)) es))
each_step zero any es h = absurd (omega (arith, h))
each_step (suc n) any es h = ap (λ k. option_and_then (λ rest. behind_each k any rest) (option_and_then (λ rest. any rest) (behind_event (has_mark (More true)) es))) (before n)
  where
    before : (n : ℕ) → n ≡ suc n - 1
    before n = omega arith

pub each_end : (n : ℕ) (any : List Event → Option (List Event)) (es : List Event) → n ≡ 0 →
    behind_each n any es ≡ option_and_then (λ rest. behind_event (has_mark Closes) rest) (behind_event (has_mark (More false)) es)
each_end zero any es h = refl
each_end (suc n) any es h = absurd (omega (arith, h))

pub count_step : (n : ℕ) (any : List Event → Option (List Event)) (test : List Event → Bool) (es : List Event) → 0 < n →
    count_on n any test es ≡ option_map_or (λ rest. one_if (test rest) + option_map_or (λ others. count_on (n - 1) any test others) (any rest) 0) (behind_event (has_mark (More true)) es) 0
count_step zero any test es h = absurd (omega (arith, h))
count_step (suc n) any test es h =
    ap (λ k. option_map_or (λ rest. one_if (test rest) + option_map_or (λ others. count_on k any test others) (any rest) 0) (behind_event (has_mark (More true)) es) 0) (before n)
  where
    before : (n : ℕ) → n ≡ suc n - 1
    before n = omega arith

pub count_end : (n : ℕ) (any : List Event → Option (List Event)) (test : List Event → Bool) (es : List Event) → n ≡ 0 → count_on n any test es ≡ 0
count_end zero any test es h = refl
count_end (suc n) any test es h = absurd (omega (arith, h))

-- the value at an index of what is left of a list
pub nth_here : (ds : List DefaultValue) (i b : ℕ) (d : DefaultValue) (es : List Event) → i < length ds → d ≡ get_or ds i d → b ≡ 0 → behind_nth (drop i ds) b es ≡ behind_value (value_of d) es
nth_here ds i b d es h e z = ap (λ xs. behind_nth xs b es) (drop_more ds i d h) ∙ ap (λ k. behind_nth (get_or ds i d ∷ drop (i + 1) ds) k es) z ∙ ap (λ x. behind_value (value_of x) es) (sym e)

pub nth_later : (ds : List DefaultValue) (i b : ℕ) (d : DefaultValue) (es : List Event) → i < length ds → (b ≡ 0 → ⊥) → behind_nth (drop i ds) b es ≡ behind_nth (drop (i + 1) ds) (b - 1) es
nth_later ds i zero d es h n = absurd (n refl)
nth_later ds i (suc b) d es h n = ap (λ xs. behind_nth xs (suc b) es) (drop_more ds i d h) ∙ ap (λ k. behind_nth (drop (i + 1) ds) k es) (before b)
  where
    before : (b : ℕ) → b ≡ suc b - 1
    before b = omega arith

pub nth_over : (ds : List DefaultValue) (i b : ℕ) (es : List Event) → length ds ≤ i → behind_nth (drop i ds) b es ≡ None
nth_over ds i b es h = ap (λ xs. behind_nth xs b es) (drop_all i ds h)

-- one component, present or absent
abbrev pub root_one : Option DefaultValue → List Event → Option (List Event)
root_one None es = behind_event (has_mark (Present false)) es
root_one (Some d) es = behind_value (value_of d) (past (has_mark (Present true)) es)

pub root_step : (p : Option DefaultValue) (ps : Fields) (es : List Event) (o : Option (List Event)) → root_one p es ≡ o →
    behind_root (with_part (part_of p) ps) es ≡ option_and_then (λ rest. behind_root ps rest) o
root_step None ps es o e = root_absent ps es ∙ ap (λ x. option_and_then (λ rest. behind_root ps rest) x) e
root_step (Some d) ps es o e = root_present (value_of d) ps es ∙ ap (λ x. option_and_then (λ rest. behind_root ps rest) x) e

abbrev pub added_one : Option DefaultValue → List Event → Option (List Event)
added_one None es = behind_event (has_mark (Added false)) es
added_one (Some d) es = behind_addition (value_of d) es

pub added_step : (p : Option DefaultValue) (ps : Fields) (es : List Event) (o : Option (List Event)) → added_one p es ≡ o →
    behind_added (with_part (part_of p) ps) es ≡ option_and_then (λ rest. behind_added ps rest) o
added_step None ps es o e = added_absent ps es ∙ ap (λ x. option_and_then (λ rest. behind_added ps rest) x) e
added_step (Some d) ps es o e = added_present (value_of d) ps es ∙ ap (λ x. option_and_then (λ rest. behind_added ps rest) x) e

pub some_copied : {A : Type 0} (o : Option (Bor A)) → is_some (option_copied o) ≡ is_some o
some_copied None = refl
some_copied (Some x) = refl

pub at_most_one : (b : Bool) → one_if b ≤ 1
at_most_one true = omega arith
at_most_one false = omega arith
