-- The records of a value are within their constraints exactly if it is a value of its type.
use Rattle.std.proofs.Common.{◌≡◌, ◌∙◌, refl, ap, ℕ, zero, suc, Bool, true, false, cond, List, [], ◌∷◌, ◌++◌}
use Rattle.std.specs.Prelude.{◌&&◌, ◌||◌, not}
use Rattle.std.specs.List.{list_all}
use Rattle.std.proofs.lemmas.List.Folds.{list_all-append}
use Rattle.asn1_model.specs.Value.{Value, truth, nothing, number, item, bit_list, octet_list, text, arcs, members, bag, fields, chosen, Values, no_more, member, Parts, end, absent, present, are_all}
use Rattle.asn1_model.specs.Schema.{Presence, Schema, boolean, null, integer, enumerated, bit_string, octet_string, character_string, object_identifier, sequence_of, set_of}
use Rattle.asn1_model.specs.Schema.{sequence, set, group, choice, Components, no_component, component, Alternatives, no_alternative, alternative}
use Rattle.asn1_model.specs.Normal.{is_at_default, is_group_left_out, is_required}
use Rattle.asn1_model.specs.Numbers.{is_count_within}
use Rattle.asn1_model.specs.Lawful.{is_of, are_of, is_of_alternative, member_count, are_no_components}
use Rattle.asn1_schema_laws.specs.Records.{Record, presence_bit, addition, addition_ends, additions_begin, is_default, is_empty, ends, mismatch}
use Rattle.asn1_schema_laws.specs.Presents.{presents, root_records, added_records, chosen_records, member_records, part_records, addition_records, noted, with_presence_bit}
use Rattle.asn1_schema_laws.specs.Presents.{component_count, there, left_out, Fits, PartsFit, ChosenFits, AllFit}
use Rattle.asn1_table_building.specs.Admitted.{is_admitted}

abbrev all : List Record → Bool
all rs = list_all is_admitted rs

-- a conjunction with true
and_true : (b : Bool) → (b && true) ≡ b
and_true true = refl
and_true false = refl

and_three : (a b c : Bool) → (a && (b && c)) ≡ ((a && b) && c)
and_three true b c = refl
and_three false b c = refl

both : {a b c d : Bool} → a ≡ b → c ≡ d → (a && c) ≡ (b && d)
both {a} {b} {c} {d} e f = ap (λ x. x && c) e ∙ ap (λ x. b && x) f

-- what is noted
noted_all : (a b : Bool) → all (cond a (is_default ∷ []) (cond b (is_empty ∷ []) [])) ≡ true
noted_all true b = refl
noted_all false true = refl
noted_all false false = refl

-- a presence bit
bit_all : (b : Bool) (rs : List Record) → all (with_presence_bit b rs) ≡ all rs
bit_all true rs = refl
bit_all false rs = refl

-- additions begin
begin_all : (b : Bool) (cs : Components) (rs : List Record) → all (cond b (additions_begin (component_count cs) ∷ rs) rs) ≡ all rs
begin_all true cs rs = refl
begin_all false cs rs = refl

members_all : (fit : Value → Type 0) (f : Value → List Record) (is : Value → Bool) → ((v : Value) → fit v → all (f v) ≡ is v) → (vs : Values) → AllFit fit vs →
    all (member_records f vs) ≡ are_all is vs
members_all fit f is h no_more g = refl
members_all fit f is h (member v vs) g = list_all-append is_admitted (f v) (member_records f vs) ∙ both (h v g.0) (members_all fit f is h vs g.1)

-- the value of a component, and what is noted of it
valued_all : (o : Presence) (s : Schema) (v : Value) (rs : List Record) (is : Bool) → all rs ≡ is → all (rs ++ noted o s v) ≡ is
valued_all o s v rs is h = list_all-append is_admitted rs (noted o s v) ∙ both h (noted_all (is_at_default o s v) (is_group_left_out s v)) ∙ and_true is

there_all : (o : Presence) (s : Schema) (f : Value → List Record) (v : Value) (is : Bool) → all (f v) ≡ is → all (part_records f o s (there v)) ≡ is
there_all o s f v is h = bit_all (is_required o) (f v ++ noted o s v) ∙ valued_all o s v (f v) is h

added_all : (o : Presence) (s : Schema) (f : Value → List Record) (v : Value) (is : Bool) → all (f v) ≡ is → all (addition_records f o s (there v)) ≡ is
added_all o s f v is h =
    list_all-append is_admitted (f v) (addition_ends ∷ noted o s v)
    ∙ both h (noted_all (is_at_default o s v) (is_group_left_out s v)) ∙ and_true is

-- what is absent
absent_all : (b : Bool) → b ≡ false → all (cond b (mismatch ∷ []) (presence_bit false ∷ [])) ≡ not b
absent_all true e = let h : true ≡ false = e in cc
absent_all false e = refl

left_all : (b : Bool) → b ≡ false → all (cond b (mismatch ∷ []) (addition false ∷ [])) ≡ not b
left_all true e = let h : true ≡ false = e in cc
left_all false e = refl

mutual
  unfolding presents root_records added_records chosen_records Fits PartsFit ChosenFits is_of are_of is_of_alternative

  pub value_all : (s : Schema) (v : Value) → Fits s v → all (presents s v) ≡ is_of s v
  value_all boolean (truth b) f = refl
  value_all null nothing f = refl
  value_all (integer b h) (number v) f = and_true _
  value_all (enumerated roots e adds) (item v) f = and_true _
  value_all (bit_string z h) (bit_list bs) f = and_true _
  value_all (octet_string z h) (octet_list os) f = and_true _
  value_all (character_string k z a h) (text cs) f = and_true _
  value_all object_identifier (arcs ns) f = and_true _
  value_all (sequence_of z h s) (members vs) f =
      ap (λ x. is_count_within h (member_count vs) && x) (members_all (λ v. Fits s v) (λ v. presents s v) (λ v. is_of s v) (value_all s) vs f)
  value_all (set_of z h s) (bag vs) f =
      ap (λ x. is_count_within h (member_count vs) && x) (members_all (λ v. Fits s v) (λ v. presents s v) (λ v. is_of s v) (value_all s) vs f)
  value_all (sequence cs e adds) (fields ps qs) f =
      root_all cs ps _ f.0 ∙ ap (λ x. are_of cs ps && x) (begin_all (e || not (are_no_components adds)) adds (added_records adds qs) ∙ additions_all adds qs f.1)
  value_all (set cs e adds) (fields ps qs) f =
      root_all cs ps _ f.0 ∙ ap (λ x. are_of cs ps && x) (begin_all (e || not (are_no_components adds)) adds (added_records adds qs) ∙ additions_all adds qs f.1)
  value_all (group cs) (fields ps end) f = root_all cs ps (ends ∷ []) f.0 ∙ and_true (are_of cs ps)
  value_all (group cs) (fields ps (absent qs)) f = let h : absent qs ≡ end = f.1 in cc
  value_all (group cs) (fields ps (present v qs)) f = let h : present v qs ≡ end = f.1 in cc
  value_all (choice roots e adds) (chosen false i v) f = alternative_all roots i v f
  value_all (choice roots e adds) (chosen true i v) f = ap (λ x. e && x) (alternative_all adds i v f)
  value_all s v f = absurd f

  root_all : (cs : Components) (ps : Parts) (rest : List Record) → PartsFit cs ps → all (root_records cs ps rest) ≡ (are_of cs ps && all rest)
  root_all no_component end rest f = refl
  root_all (component t o s cs) (present v ps) rest f =
      list_all-append is_admitted (part_records (λ w. presents s w) o s (there v)) (root_records cs ps rest)
      ∙ both (there_all o s (λ w. presents s w) v (is_of s v) (value_all s v f.0)) (root_all cs ps rest f.1)
      ∙ and_three (is_of s v) (are_of cs ps) (all rest)
  root_all (component t o s cs) (absent ps) rest f =
      list_all-append is_admitted (part_records (λ w. presents s w) o s left_out) (root_records cs ps rest)
      ∙ both (absent_all (is_required o) f.0) (root_all cs ps rest f.1)
      ∙ and_three (not (is_required o)) (are_of cs ps) (all rest)
  root_all cs ps rest f = absurd f

  additions_all : (cs : Components) (ps : Parts) → PartsFit cs ps → all (added_records cs ps) ≡ are_of cs ps
  additions_all no_component end f = refl
  additions_all (component t o s cs) (present v ps) f =
      list_all-append is_admitted (addition_records (λ w. presents s w) o s (there v)) (added_records cs ps)
      ∙ both (added_all o s (λ w. presents s w) v (is_of s v) (value_all s v f.0)) (additions_all cs ps f.1)
  additions_all (component t o s cs) (absent ps) f =
      list_all-append is_admitted (addition_records (λ w. presents s w) o s left_out) (added_records cs ps)
      ∙ both (left_all (is_required o) f.0) (additions_all cs ps f.1)
  additions_all cs ps f = absurd f

  alternative_all : (cs : Alternatives) (i : ℕ) (v : Value) → ChosenFits cs i v → all (chosen_records cs i v) ≡ is_of_alternative cs i v
  alternative_all (alternative t s cs) zero v f = list_all-append is_admitted (presents s v) (ends ∷ []) ∙ and_true (all (presents s v)) ∙ value_all s v f
  alternative_all (alternative t s cs) (suc i) v f = alternative_all cs i v f
  alternative_all no_alternative i v f = absurd f
