-- The values that are kept as one record, and the records after a value.
use Rattle.std.specs.Prelude.{ℕ, zero, suc, ◌+◌, ◌==◌, Bool, true, false, cond, not, ◌&&◌, List, [], ◌∷◌, Option, Some}
use Rattle.std.specs.Prelude.{None, is_some, map, option_and_then, slice_get}
use Rattle.std.specs.Option.{option_map_or, option_or}
use Rattle.asn1_laws_values.proofs.Counts.{count, one_if}
use Rattle.asn1_model.specs.Lawful.{member_count}
use Rattle.asn1_model.specs.Value.{Value, truth, nothing, number, item, bit_list, octet_list, text, arcs, members, bag}
use Rattle.asn1_model.specs.Value.{fields, chosen, Values, no_more, member, Parts as Fields, end, absent, present, same, same_truth, values_of}
use Rattle.asn1_table_nodes.specs.Values.{value_of}
use Rattle.asn1_table_nodes.specs.declared.events.DefaultValue.{DefaultValue}
use Rattle.asn1_table_tape.specs.Strings.{text_of}
use Rattle.asn1_table_tape.specs.declared.defaults.Mark.{Mark}
use Rattle.asn1_table_tape.specs.declared.defaults.Mark.TheVariants.{Opens, More, Picks, Parts, Present}
use Rattle.asn1_table_tape.specs.declared.defaults.Mark.TheVariants.{Additions, Added, AddedEnds, Closes}
use Rattle.asn1_table_tape.specs.declared.tape.Event.{Event}
use Rattle.asn1_table_tape.specs.declared.tape.Event.TheVariants.{Flag, Nil, Number, Item, Bits, Octets, Text, Arcs}
use Rattle.asn1_table_tape.specs.declared.tape.Event.TheVariants.{PresenceBit, Ends, ListBegins, Further}
use Rattle.asn1_table_tape.specs.declared.tape.Event.TheVariants.{ChoiceBegins, SequenceBegins, SetBegins}
use Rattle.asn1_table_tape.specs.declared.tape.Event.TheVariants.{GroupBegins, AdditionsBegin, Addition, AdditionEnds}

-- The value of a record, if it is one.
abbrev pub value_in : Event → Option Value
value_in (Flag b) = Some (truth b)
value_in Nil = Some nothing
value_in (Number i v) = Some (number v)
value_in (Item i v) = Some (item v)
value_in (Bits i bs) = Some (bit_list bs)
value_in (Octets i os) = Some (octet_list os)
value_in (Text i x) = Some (text (text_of x))
value_in (Arcs ns) = Some (arcs ns)
value_in e = None

-- A record is this value without parts.
abbrev pub is_scalar : Value → Event → Bool
is_scalar v e = option_map_or (λ w. same w v) (value_in e) false

-- A record says this.
abbrev pub has_mark : Mark → Event → Bool
has_mark Opens (ListBegins i n) = true
has_mark (More b) (Further c) = same_truth c b
has_mark (Picks c) (ChoiceBegins i d) = same_truth d.added c.added && (d.place == c.place)
has_mark Parts (SequenceBegins e n) = true
has_mark Parts (SetBegins e n) = true
has_mark Parts (GroupBegins n) = true
has_mark (Present b) (PresenceBit c) = same_truth c b
has_mark Additions (AdditionsBegin n) = true
has_mark (Added b) (Addition c) = same_truth c b
has_mark AddedEnds AdditionEnds = true
has_mark Closes Ends = true
has_mark m e = false

-- The records after the first, if that passes.
abbrev pub behind_event : (Event → Bool) → List Event → Option (List Event)
behind_event test [] = None
behind_event test (e ∷ es) = cond (test e) (Some es) None

-- The records without the first, if that passes.
abbrev pub past : (Event → Bool) → List Event → List Event
past test [] = []
past test (e ∷ es) = cond (test e) es (e ∷ es)

-- The records after the rest of a list, with as many elements as this, each of which passes.
abbrev pub behind_each : ℕ → (List Event → Option (List Event)) → List Event → Option (List Event)
behind_each zero any es =
    option_and_then (λ rest. behind_event (has_mark Closes) rest) (behind_event (has_mark (More false)) es)
behind_each (suc n) any es = option_and_then (λ rest. behind_each n any rest)
    (option_and_then (λ rest. any rest) (behind_event (has_mark (More true)) es))

-- How many of these elements pass a test.
abbrev pub count_on : ℕ → (List Event → Option (List Event)) → (List Event → Bool) → List Event → ℕ
count_on zero any test es = 0
count_on (suc n) any test es = option_map_or
    (λ rest. one_if (test rest) + option_map_or (λ others. count_on n any test others) (any rest) 0)
    (behind_event (has_mark (More true)) es) 0

unfoldable mutual
  -- The records after this value, if they begin with it.
  pub behind_value : Value → List Event → Option (List Event)
  behind_value (members vs) es = option_and_then (λ rest. behind_members vs rest) (behind_event (has_mark Opens) es)
  behind_value (bag vs) es = option_and_then
      (λ rest. cond (counts_on vs vs (member_count vs) (λ r. behind_any vs r) rest)
      (behind_each (member_count vs) (λ r. behind_any vs r) rest) None)
      (behind_event (has_mark Opens) es)
  behind_value (chosen b i v) es = option_and_then
      (λ rest. option_and_then (λ others. behind_event (has_mark Closes) others) (behind_value v rest))
      (behind_event (has_mark (Picks (record { added = b; place = i }))) es)
  behind_value (fields ps qs) es = option_and_then
      (λ rest. option_and_then (λ others. behind_added qs (past (has_mark Additions) others)) (behind_root ps rest))
      (behind_event (has_mark Parts) es)
  behind_value v es = behind_event (is_scalar v) es

  -- The records after the rest of a list, with these elements.
  pub behind_members : Values → List Event → Option (List Event)
  behind_members no_more es =
      option_and_then (λ rest. behind_event (has_mark Closes) rest) (behind_event (has_mark (More false)) es)
  behind_members (member v vs) es = option_and_then (λ rest. behind_members vs rest)
      (option_and_then (λ rest. behind_value v rest) (behind_event (has_mark (More true)) es))

  -- The records after the first of these values with which they begin.
  pub behind_any : Values → List Event → Option (List Event)
  behind_any no_more es = None
  behind_any (member v vs) es = option_or (behind_value v es) (behind_any vs es)

  -- Among the elements of a SET OF there are as many that are one of these values as among some others.
  pub counts_on : Values → Values → ℕ → (List Event → Option (List Event)) → List Event → Bool
  counts_on no_more ds n any es = true
  counts_on (member v vs) ds n any es =
      (count (λ x. same v x) ds == count_on n any (λ r. is_some (behind_value v r)) es) && counts_on vs ds n any es

  -- The records after these root components.
  pub behind_root : Fields → List Event → Option (List Event)
  behind_root end es = Some es
  behind_root (absent ps) es =
      option_and_then (λ rest. behind_root ps rest) (behind_event (has_mark (Present false)) es)
  behind_root (present v ps) es =
      option_and_then (λ rest. behind_root ps rest) (behind_value v (past (has_mark (Present true)) es))

  -- The records after these additions and the end.
  pub behind_added : Fields → List Event → Option (List Event)
  behind_added end es = behind_event (has_mark Closes) es
  behind_added (absent qs) es =
      option_and_then (λ rest. behind_added qs rest) (behind_event (has_mark (Added false)) es)
  behind_added (present v qs) es = option_and_then (λ rest. behind_added qs rest)
      (option_and_then (λ rest. behind_event (has_mark AddedEnds) rest)
      (option_and_then (λ rest. behind_value v rest) (behind_event (has_mark (Added true)) es)))

-- The records after the rest of a SET OF with these elements in any order (X.680 28).
abbrev pub behind_bag : Values → List Event → Option (List Event)
behind_bag vs es = cond (counts_on vs vs (member_count vs) (λ r. behind_any vs r) es)
    (behind_each (member_count vs) (λ r. behind_any vs r) es) None

-- The records after an addition with this value.
abbrev pub behind_addition : Value → List Event → Option (List Event)
behind_addition v es = option_and_then (λ rest. behind_event (has_mark AddedEnds) rest)
    (option_and_then (λ rest. behind_value v rest) (behind_event (has_mark (Added true)) es))

-- The records after the value at an index.
abbrev pub behind_nth : List DefaultValue → ℕ → List Event → Option (List Event)
behind_nth [] i es = None
behind_nth (d ∷ ds) zero es = behind_value (value_of d) es
behind_nth (d ∷ ds) (suc i) es = behind_nth ds i es

-- How many values are the same as the one at an index.
abbrev pub count_alike : List DefaultValue → ℕ → ℕ
count_alike ds i =
    option_map_or (λ d. count (λ x. same (value_of d) x) (values_of (map value_of ds))) (slice_get ds i) 0

-- A record says that a component is absent, or is the end.
abbrev pub is_absence : Event → Bool
is_absence (PresenceBit b) = not b
is_absence Ends = true
is_absence e = false
