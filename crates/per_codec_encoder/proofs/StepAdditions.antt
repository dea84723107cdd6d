-- Additions: each is an open type after the bitmap, and its bits are kept apart.
use Rattle.std.proofs.Common.{◌≡◌, ℕ, suc, ◌+◌, ltb, take, drop, arith, Bool, true, false, cond, List, [], ◌∷◌, ◌++◌}
use Rattle.std.proofs.Common.{length, map, flat_map, Option, Some, None, option_map, option_and_then, refl, ap, sym}
use Rattle.std.proofs.Common.{◌∙◌, append_assoc}
use Rattle.std.proofs.lemmas.List.{append-nil}
use Rattle.std.proofs.lemmas.Bool.{lt-ltb}
use Rattle.asn1_model.specs.Value.{Value, fields, Parts, end, absent, present}
use Rattle.asn1_model.specs.Schema.{Tag, Presence, Schema, sequence, set, Components, no_component, component}
use Rattle.asn1_model.specs.Normal.{is_at_default, is_group_left_out}
use Rattle.asn1_model.specs.Normal.{is_required, presence_bits}
use Rattle.asn1_model.specs.Numbers.{binary, by_eights}
use Rattle.asn1_model.specs.Strings.{is_octet}
use Rattle.std.specs.List.{list_all}
use Rattle.asn1_model.specs.Form.{exactly, both, varied, only_if, given, joined, is_any_present, present_ones, covered_by, written}
use Rattle.asn1_model.specs.Per
use Rattle.asn1_schema_laws.specs.Records.{Record, additions_begin, addition, addition_ends, mismatch}
use Rattle.asn1_schema_laws.specs.Presents.{presents, added_records, component_count, optional_count}
use Rattle.per_codec_packing.specs.FieldLists.{FieldList, as_field_list, on, field_list_at}
use Rattle.per_codec_encoder.specs.Steps.{Scope, components, added, open_type, State, position, opened, extended_field_list, runs}
use Rattle.per_codec_encoder.specs.Ties.{BridgesAt, Bridges}
use Rattle.per_codec_packing.proofs.Formed.{chain_same, none_behind, in_turn, known, plain_field_list, length-field_list}
use Rattle.per_codec_encoder.proofs.Bridge.{one_field_list}
use Rattle.per_codec_encoder.proofs.StepSequences.{EachBridges, noted_by, spelled_by, root, presence_bits_count, preamble_place, plain_sequences}

-- the field-lists of the additions, each from position 0, if all that are present have one
unfoldable field_lists_of : Bool → Components → Parts → Option (List (Option (List Bool)))
field_lists_of al no_component end = Some []
field_lists_of al (component t o s cs) (present v ps) = option_and_then (λ w. option_map (λ us. Some w ∷ us) (field_lists_of al cs ps)) (written (Per.spelled o s v (Per.form al s v)) 0)
field_lists_of al (component t o s cs) (absent ps) = cond (is_required o) None (option_map (λ us. None ∷ us) (field_lists_of al cs ps))
field_lists_of al cs ps = None

-- ---- the records keep these field-lists

-- the rest of the additions, after those that were given
abbrev Rest : Bool → Components → Type 0
Rest al cs = (qs : Parts) (ms : List Bool) (r : FieldList) (slots : List (Option (List Bool))) (front : FieldList) (k : List Scope)
    (rest : List Record) → runs al (added_records cs qs ++ rest) ([], added (component_count cs) ms r slots front ∷ k)
    ≡ option_and_then (λ us. option_and_then (λ w. runs al rest (front ++ w, k)) (extended_field_list al ms r (slots ++ us) (position (front, k)))) (field_lists_of al cs qs)

one_slot : (u : Option (List Bool)) (slots : List (Option (List Bool))) (f : List (Option (List Bool)) → Option State)
    (o : Option (List (Option (List Bool)))) → option_and_then (λ us. f ((slots ++ u ∷ []) ++ us)) o ≡ option_and_then (λ us. f (slots ++ us)) (option_map (λ us. u ∷ us) o)
one_slot u slots f None = refl
one_slot u slots f (Some us) = ap f (append_assoc slots (u ∷ []) us)

slot_by_slot : (slots : List (Option (List Bool))) (f : List (Option (List Bool)) → Option State) (o : Option (List (Option (List Bool))))
    (c : Option (List Bool)) → option_and_then (λ w. option_and_then (λ us. f ((slots ++ Some w ∷ []) ++ us)) o) c
    ≡ option_and_then (λ us. f (slots ++ us)) (option_and_then (λ w. option_map (λ us. Some w ∷ us) o) c)
slot_by_slot slots f o None = refl
slot_by_slot slots f o (Some w) = one_slot (Some w) slots f o

one_added : (al : Bool) (s : Schema) (v : Value) → BridgesAt al s v →
    (d g : Bool) (n : ℕ) (ms : List Bool) (r : FieldList) (slots : List (Option (List Bool))) (front : FieldList) (k : List Scope)
    (rest : List Record) → runs al ((presents s v ++ (addition_ends ∷ noted_by d g)) ++ rest) ([], open_type [] ∷ added n ms r slots front ∷ k)
    ≡ option_and_then (λ w. runs al rest ([], added n ms r (slots ++ Some w ∷ []) front ∷ k)) (written (spelled_by d g (Per.form al s v)) 0)
unfolding written
one_added al s v h d g n ms r slots front k rest =
    ap (λ l. runs al l ([], open_type [] ∷ added n ms r slots front ∷ k)) (append_assoc (presents s v) (addition_ends ∷ noted_by d g) rest)
    ∙ h [] (open_type [] ∷ added n ms r slots front ∷ k) (addition_ends ∷ (noted_by d g ++ rest))
    ∙ ap (option_and_then (λ w. runs al (addition_ends ∷ (noted_by d g ++ rest)) (w, open_type [] ∷ added n ms r slots front ∷ k))) (known (Per.form al s v) 0)
    ∙ kept (noted_by d g ++ rest) (written (Per.form al s v) 0)
    ∙ noted d g
  where
    kept : (more : List Record) (o : Option (List Bool)) → option_and_then
        (λ w. runs al (addition_ends ∷ more) (w, open_type [] ∷ added n ms r slots front ∷ k)) (option_map as_field_list o)
        ≡ option_and_then (λ w. runs al more ([], added n ms r (slots ++ Some w ∷ []) front ∷ k)) o
    kept more None = refl
    kept more (Some w) = ap (λ o. option_and_then (λ m. runs al more m) (option_map {U = State} (λ w. ([], added n ms r (slots ++ Some w ∷ []) front ∷ k)) o)) (plain_field_list w)

    noted : (d g : Bool) → option_and_then (λ w. runs al (noted_by d g ++ rest) ([], added n ms r (slots ++ Some w ∷ []) front ∷ k))
        (written (Per.form al s v) 0) ≡ option_and_then (λ w. runs al rest ([], added n ms r (slots ++ Some w ∷ []) front ∷ k)) (written (spelled_by d g (Per.form al s v)) 0)
    noted true g = none_behind (written (Per.form al s v) 0)
    noted false true = none_behind (written (Per.form al s v) 0)
    noted false false = refl

one_left_out : (al q : Bool) (cs : Components) → Rest al cs →
    (qs : Parts) (ms : List Bool) (r : FieldList) (slots : List (Option (List Bool))) (front : FieldList) (k : List Scope) (rest : List Record) →
    runs al ((cond q (mismatch ∷ []) (addition false ∷ []) ++ added_records cs qs) ++ rest)
    ([], added (suc (component_count cs)) ms r slots front ∷ k) ≡
    option_and_then (λ us. option_and_then (λ w. runs al rest (front ++ w, k)) (extended_field_list al ms r (slots ++ us) (position (front, k))))
    (cond q None (option_map (λ us. None ∷ us) (field_lists_of al cs qs)))
one_left_out al true cs others qs ms r slots front k rest = refl
one_left_out al false cs others qs ms r slots front k rest = others qs ms r (slots ++ None ∷ []) front k rest ∙
    one_slot None slots (λ us. option_and_then (λ w. runs al rest (front ++ w, k)) (extended_field_list al ms r us (position (front, k)))) (field_lists_of al cs qs)

-- the additions, and the end
rest_of : (al : Bool) (cs : Components) → EachBridges cs → Rest al cs
unfolding added_records field_lists_of Per.spelled
rest_of al no_component h end ms r slots front k rest = one_field_list al (extended_field_list al ms r slots (position (front, k))) front k rest ∙
    ap (λ l. option_and_then (λ w. runs al rest (front ++ w, k)) (extended_field_list al ms r l (position (front, k)))) (sym (append-nil slots))
rest_of al no_component h qs ms r slots front k rest = refl
rest_of al (component t o s cs) h (present v qs) ms r slots front k rest =
    ap (λ l. runs al l ([], open_type [] ∷ added (component_count cs) ms r slots front ∷ k))
    (append_assoc (presents s v ++ (addition_ends ∷ noted_by (is_at_default o s v) (is_group_left_out s v))) (added_records cs qs) rest)
    ∙ one_added al s v (h.0 al v) (is_at_default o s v) (is_group_left_out s v) (component_count cs) ms r slots front k (added_records cs qs ++ rest)
    ∙ chain_same (written (Per.spelled o s v (Per.form al s v)) 0) _
    (λ u. option_and_then (λ us. option_and_then (λ w. runs al rest (front ++ w, k))
    (extended_field_list al ms r ((slots ++ Some u ∷ []) ++ us) (position (front, k)))) (field_lists_of al cs qs)) (λ u. rest_of al cs h.1 qs ms r (slots ++ Some u ∷ []) front k rest)
    ∙ slot_by_slot slots (λ us. option_and_then (λ w. runs al rest (front ++ w, k)) (extended_field_list al ms r us (position (front, k))))
    (field_lists_of al cs qs) (written (Per.spelled o s v (Per.form al s v)) 0)
rest_of al (component t o s cs) h (absent qs) ms r slots front k rest = one_left_out al (is_required o) cs (rest_of al cs h.1) qs ms r slots front k rest
rest_of al (component t o s cs) h end ms r slots front k rest = refl

-- ---- the forms of the additions have them as their field-lists

-- an open type is that of its field-list
pub open_field_list : (al : Bool) (x : Per.BitForm) (q : Option ℕ) → field_list_at (Per.open_type al x) q ≡ option_and_then (λ w. field_list_at (Per.open_type al (exactly w)) q) (written x 0)
unfolding written field_list_at Per.open_type Per.complete
open_field_list al x q = go (written x 0)
  where
    go : (o : Option (List Bool)) →
        option_and_then (λ w. field_list_at
        (varied Per.octets_behind []
        (λ more. only_if (list_all is_octet more) (Per.counted al (map (λ o. exactly o) (by_eights (w ++ flat_map (binary 8) more)))))) q)
        (option_and_then (λ w. written (Per.padded w) 0) o) ≡ option_and_then (λ w. field_list_at (Per.open_type al (exactly w)) q) o
    go None = refl
    go (Some w) = refl

spelled_open : (d g al : Bool) (x : Per.BitForm) (q : Option ℕ) → field_list_at (spelled_by d g (Per.open_type al x)) q
    ≡ option_and_then (λ w. field_list_at (Per.open_type al (exactly w)) q) (written (spelled_by d g x) 0)
unfolding written field_list_at
spelled_open true g al x q = refl
spelled_open false true al x q = refl
spelled_open false false al x q = open_field_list al x q

abbrev as_forms : Bool → List (Option (List Bool)) → List (Option Per.BitForm)
as_forms al us = map (opened al) us

-- what the forms of additions have in common with those of their field-lists
record Alike (al : Bool) (xs : List (Option Per.BitForm)) (us : List (Option (List Bool))) : Type 0 where
  any : is_any_present xs ≡ is_any_present us
  bits : map Per.flag xs ≡ map Per.flag (as_forms al us)
  field_list : (q : Option ℕ) → field_list_at (joined (present_ones xs)) q ≡ field_list_at (joined (present_ones (as_forms al us))) q

-- if an addition has no field-list, all of them together have none
record Lost (xs : List (Option Per.BitForm)) : Type 0 where
  any : is_any_present xs ≡ true
  field_list : (q : Option ℕ) → field_list_at (joined (present_ones xs)) q ≡ None

abbrev Matches : Bool → Option (List (Option Per.BitForm)) → Option (List (Option (List Bool))) → Type 0
Matches al None None = Unit {0}
Matches al None (Some us) = ⊥
Matches al (Some xs) None = Lost xs
Matches al (Some xs) (Some us) = Alike al xs us

match_absent : (al : Bool) (o : Option (List (Option Per.BitForm))) (u : Option (List (Option (List Bool)))) → Matches al o u →
    Matches al (option_map (λ xs. None ∷ xs) o) (option_map (λ us. None ∷ us) u)
match_absent al None None h = tt
match_absent al None (Some us) h = h
match_absent al (Some xs) None h = record { any = h.any; field_list = h.field_list }
match_absent al (Some xs) (Some us) h = record { any = h.any; bits = ap (λ l. exactly (false ∷ []) ∷ l) h.bits; field_list = h.field_list }

match_unless : (al t : Bool) (o : Option (List (Option Per.BitForm))) (u : Option (List (Option (List Bool)))) → Matches al o u →
    Matches al (cond t None (option_map (λ xs. None ∷ xs) o)) (cond t None (option_map (λ us. None ∷ us) u))
match_unless al true o u h = tt
match_unless al false o u h = match_absent al o u h

match_present : (al : Bool) (x : Per.BitForm) (w : Option (List Bool)) (o : Option (List (Option Per.BitForm)))
    (u : Option (List (Option (List Bool)))) →
    ((q : Option ℕ) → field_list_at x q ≡ option_and_then (λ c. field_list_at (Per.open_type al (exactly c)) q) w) → Matches al o u →
    Matches al (option_map (λ xs. Some x ∷ xs) o) (option_and_then (λ c. option_map (λ us. Some c ∷ us) u) w)
unfolding field_list_at
match_present al x None None None e h = tt
match_present al x None None (Some us) e h = absurd h
match_present al x None (Some xs) u e h = record { any = refl; field_list = λ q. ap (option_and_then (λ a. option_map (λ b. a ++ b) (field_list_at (joined (present_ones xs)) (on q a)))) (e q) }
match_present al x (Some c) None None e h = tt
match_present al x (Some c) None (Some us) e h = h
match_present al x (Some c) (Some xs) None e h =
    record {
      any = refl;
      field_list = λ q. chain_same (field_list_at x q)
          (λ a. option_map (λ b. a ++ b) (field_list_at (joined (present_ones xs)) (on q a))) (λ a. None)
          (λ a. ap (option_map (λ b. a ++ b)) (h.field_list (on q a))) ∙ none_behind (field_list_at x q);
    }
match_present al x (Some c) (Some xs) (Some us) e h = record {
  any = refl;
  bits = ap (λ l. exactly (true ∷ []) ∷ l) h.bits;
  field_list = λ q.
      ap (option_and_then (λ a. option_map (λ b. a ++ b) (field_list_at (joined (present_ones xs)) (on q a)))) (e q)
      ∙ chain_same (field_list_at (Per.open_type al (exactly c)) q)
      (λ a. option_map (λ b. a ++ b) (field_list_at (joined (present_ones xs)) (on q a)))
      (λ a. option_map (λ b. a ++ b) (field_list_at (joined (present_ones (as_forms al us))) (on q a))) (λ a. ap (option_map (λ b. a ++ b)) (h.field_list (on q a)));
}

matching : (al : Bool) (cs : Components) (ps : Parts) → Matches al (Per.addition_forms al cs ps) (field_lists_of al cs ps)
unfolding Per.addition_forms field_lists_of Per.spelled written field_list_at
matching al no_component end = record { any = refl; bits = refl; field_list = λ p. refl }
matching al no_component ps = tt
matching al (component t o s cs) (present v ps) = match_present al (Per.spelled o s v (Per.open_type al (Per.form al s v)))
    (written (Per.spelled o s v (Per.form al s v)) 0) (Per.addition_forms al cs ps) (field_lists_of al cs ps)
    (λ p. spelled_open (is_at_default o s v) (is_group_left_out s v) al (Per.form al s v) p) (matching al cs ps)
matching al (component t o s cs) (absent ps) = match_unless al (is_required o) (Per.addition_forms al cs ps) (field_lists_of al cs ps) (matching al cs ps)
matching al (component t o s cs) end = tt

-- ---- the form of the whole, around the root's bits and these field-lists

drop_all : {X : Type 0} (xs : List X) → drop (length xs) xs ≡ []
drop_all [] = refl
drop_all (x ∷ xs) = drop_all xs

take_all : {X : Type 0} (xs : List X) → take (length xs) xs ≡ xs
take_all [] = refl
take_all (x ∷ xs) = ap (λ l. x ∷ l) (take_all xs)

all_covered : {X : Type 0} (unknown : List ℕ → X) (xs : List (Option X)) → covered_by unknown (record { covered = length xs; further = [] }) xs ≡ Some xs
all_covered unknown xs =
    let d = drop_all xs in
    let t = take_all xs in
    let l : ltb (length xs) (length xs + 1) ≡ true = lt-ltb _ _ (omega arith) in
    rw (d, l, t) (ap Some (append-nil xs))

abbrev pub by_presence : Bool → List Bool → Per.BitForm → List (Option Per.BitForm) → Bool → Per.BitForm
by_presence al ms x xs t = cond t (Per.with_additions al ms x xs) (both (exactly (false ∷ ms)) x)

pub own : (al : Bool) (ms : List Bool) (x : Per.BitForm) (xs : List (Option Per.BitForm)) (q : Option ℕ) →
    field_list_at (Per.sequence_form al true ms x xs) q ≡ field_list_at (by_presence al ms x xs (is_any_present xs)) q
unfolding field_list_at Per.sequence_form Per.bitmapped
own al ms x xs q = go (is_any_present xs) refl
  where
    go : (t : Bool) → is_any_present xs ≡ t →
        field_list_at (Per.bitmapped al ms x xs (cond t (Some (record { covered = length xs; further = [] })) None)) q ≡ field_list_at (by_presence al ms x xs t) q
    go false e = rw e refl
    go true e = let c = all_covered (λ os. Per.counted_octets al os) xs in rw (c, e) refl

-- where the root begins
abbrev root_index : List Bool → Option ℕ → Option ℕ
root_index ms q = on q (as_field_list (true ∷ ms))

module _ (al : Bool) (ms : List Bool) (x : Per.BitForm) (q : Option ℕ) where
  additions_alike : (xs : List (Option Per.BitForm)) (us : List (Option (List Bool))) → Alike al xs us → (p : Option ℕ) →
      field_list_at (Per.additions al xs) p ≡ field_list_at (Per.additions al (as_forms al us)) p
  unfolding field_list_at Per.additions
  additions_alike xs us h p =
      ap (λ l. field_list_at (both (Per.normally_few al l) (joined (present_ones xs))) p) h.bits
      ∙ chain_same (field_list_at (Per.normally_few al (map Per.flag (as_forms al us))) p) (λ a.
      option_map (λ b. a ++ b) (field_list_at (joined (present_ones xs)) (on p a)))
      (λ a. option_map (λ b. a ++ b) (field_list_at (joined (present_ones (as_forms al us))) (on p a))) (λ a. ap (option_map (λ b. a ++ b)) (h.field_list (on p a)))

  -- with the root's field-list in place of its form
  root_known : (xs : List (Option Per.BitForm)) (us : List (Option (List Bool))) → Alike al xs us → (t : Bool) → is_any_present us ≡ t →
      (o : Option FieldList) → field_list_at x (root_index ms q) ≡ o → option_and_then (λ r. extended_field_list al ms r us q) o ≡ field_list_at (by_presence al ms x xs t) q
  unfolding field_list_at Per.with_additions
  root_known xs us h true c o e = go o ∙
      sym (ap (λ o. option_map (λ b. as_field_list (true ∷ ms) ++ b) (option_and_then (λ a. option_map (λ b. a ++ b) (field_list_at (Per.additions al xs) (on (root_index ms q) a))) o)) e)
    where
      grouped : (r : FieldList) (o : Option FieldList) → option_map (λ w. as_field_list (true ∷ ms) ++ (r ++ w)) o ≡ option_map (λ b. as_field_list (true ∷ ms) ++ b) (option_map (λ b. r ++ b) o)
      grouped r None = refl
      grouped r (Some w) = refl

      go : (o : Option FieldList) → option_and_then (λ r. extended_field_list al ms r us q) o ≡ option_map (λ b. as_field_list (true ∷ ms) ++ b)
          (option_and_then (λ a. option_map (λ b. a ++ b) (field_list_at (Per.additions al xs) (on (root_index ms q) a))) o)
      go None = refl
      go (Some r) =
          ap (λ t. cond t (option_map (λ w. as_field_list (true ∷ ms) ++ (r ++ w))
          (field_list_at (Per.additions al (as_forms al us)) (on (root_index ms q) r))) (Some (as_field_list (false ∷ ms) ++ r))) c
          ∙ grouped r (field_list_at (Per.additions al (as_forms al us)) (on (root_index ms q) r))
          ∙ ap (λ o. option_map (λ b. as_field_list (true ∷ ms) ++ b) (option_map (λ b. r ++ b) o)) (sym (additions_alike xs us h (on (root_index ms q) r)))
  root_known xs us h false c o e = go o ∙ sym (ap (option_map (λ b. as_field_list (false ∷ ms) ++ b)) e)
    where
      go : (o : Option FieldList) → option_and_then (λ r. extended_field_list al ms r us q) o ≡ option_map (λ b. as_field_list (false ∷ ms) ++ b) o
      go None = refl
      go (Some r) = ap (λ t. cond t
          (option_map (λ w. as_field_list (true ∷ ms) ++ (r ++ w)) (field_list_at (Per.additions al (as_forms al us)) (on (root_index ms q) r))) (Some (as_field_list (false ∷ ms) ++ r))) c

  alike_field_lists : (xs : List (Option Per.BitForm)) (us : List (Option (List Bool))) → Alike al xs us →
      option_and_then (λ r. extended_field_list al ms r us q) (field_list_at x (root_index ms q)) ≡ field_list_at (Per.sequence_form al true ms x xs) q
  alike_field_lists xs us h = root_known xs us h (is_any_present xs) (sym h.any) (field_list_at x (root_index ms q)) refl ∙ sym (own al ms x xs q)

  lost_field_list : (xs : List (Option Per.BitForm)) → Lost xs → field_list_at (Per.sequence_form al true ms x xs) q ≡ None
  unfolding field_list_at Per.with_additions Per.additions
  lost_field_list xs h =
      own al ms x xs q ∙ ap (λ t. field_list_at (by_presence al ms x xs t) q) h.any
      ∙ ap (option_map (λ b. as_field_list (true ∷ ms) ++ b)) (chain_same (field_list_at x (root_index ms q))
      (λ a. option_map (λ b. a ++ b) (field_list_at (Per.additions al xs) (on (root_index ms q) a))) (λ a. None)
      (λ a. ap (option_map (λ b. a ++ b)) (none (on (root_index ms q) a))) ∙ none_behind (field_list_at x (root_index ms q)))
    where
      none : (p : Option ℕ) → field_list_at (Per.additions al xs) p ≡ None
      none p = chain_same (field_list_at (Per.normally_few al (map Per.flag xs)) p)
          (λ a. option_map (λ b. a ++ b) (field_list_at (joined (present_ones xs)) (on p a))) (λ a. None)
          (λ a. ap (option_map (λ b. a ++ b)) (h.field_list (on p a))) ∙ none_behind (field_list_at (Per.normally_few al (map Per.flag xs)) p)

  by_field_lists : (f : FieldList → Option State) (o : Option (List (Option Per.BitForm))) (u : Option (List (Option (List Bool)))) → Matches al o u →
      option_and_then (λ r. option_and_then (λ us. option_and_then f (extended_field_list al ms r us q)) u) (field_list_at x (root_index ms q))
      ≡ option_and_then f (field_list_at (given o (Per.sequence_form al true ms x)) q)
  unfolding field_list_at
  by_field_lists f None None h = none_behind (field_list_at x (root_index ms q))
  by_field_lists f None (Some us) h = absurd h
  by_field_lists f (Some xs) None h = none_behind (field_list_at x (root_index ms q)) ∙ ap (option_and_then f) (sym (lost_field_list xs h))
  by_field_lists f (Some xs) (Some us) h = sym (in_turn (field_list_at x (root_index ms q)) (λ r. extended_field_list al ms r us q) f) ∙ ap (option_and_then f) (alike_field_lists xs us h)

-- ---- SEQUENCE and SET

extended_sequences : (cs adds : Components) → EachBridges cs → EachBridges adds → Bridges (sequence cs true adds)
unfolding presents Per.form field_list_at
extended_sequences cs adds h ha al (fields ps qs) os k rest =
    root al true cs h ps [] os [] k (additions_begin (component_count adds) ∷ added_records adds qs) rest
    ∙ ap (λ n. option_and_then (λ r. runs al ((additions_begin (component_count adds) ∷ added_records adds qs) ++ rest)
    (r, components true 0 (presence_bits cs ps) os ∷ k)) (field_list_at (Per.component_forms al cs ps) n)) place
    ∙ chain_same (field_list_at (Per.component_forms al cs ps) (root_index (presence_bits cs ps) (position (os, k)))) _
    (λ r. option_and_then (λ us. option_and_then (λ w. runs al rest (os ++ w, k))
    (extended_field_list al (presence_bits cs ps) r us (position (os, k)))) (field_lists_of al adds qs)) (λ r. rest_of al adds ha qs (presence_bits cs ps) r [] os k rest)
    ∙ by_field_lists al (presence_bits cs ps) (Per.component_forms al cs ps) (position (os, k)) (λ w. runs al rest (os ++ w, k))
    (Per.addition_forms al adds qs) (field_lists_of al adds qs) (matching al adds qs)
  where
    place : position ([], components true (optional_count cs) [] os ∷ k) ≡ root_index (presence_bits cs ps) (position (os, k))
    place = preamble_place true (optional_count cs) os k (as_field_list (true ∷ presence_bits cs ps))
        (let c = presence_bits_count cs ps in let t = length-field_list (presence_bits cs ps) in omega arith)
extended_sequences cs adds h ha al v os k rest = refl

-- additions without an extension bit, which no well-formed type has, have no field-list
not_extended : (al : Bool) (ms : List Bool) (x : Per.BitForm) (p : Option ℕ) (t : List Tag) (o : Presence) (s : Schema) (cs : Components)
    (qs : Parts) → field_list_at (given (Per.addition_forms al (component t o s cs) qs) (Per.sequence_form al false ms x)) p ≡ None
unfolding field_list_at Per.addition_forms Per.sequence_form
not_extended al ms x p t o s cs end = refl
not_extended al ms x p t o s cs (absent qs) = by_test (is_required o) (Per.addition_forms al cs qs)
  where
    by_test : (r : Bool) (l : Option (List (Option Per.BitForm))) → field_list_at (given (cond r None (option_map (λ xs. None ∷ xs) l)) (Per.sequence_form al false ms x)) p ≡ None
    by_test true l = refl
    by_test false None = refl
    by_test false (Some xs) = refl
not_extended al ms x p t o s cs (present v qs) = go (Per.addition_forms al cs qs)
  where
    go : (l : Option (List (Option Per.BitForm))) → field_list_at
        (given (option_map (λ xs. Some (Per.spelled o s v (Per.open_type al (Per.form al s v))) ∷ xs) l) (Per.sequence_form al false ms x)) p ≡ None
    go None = refl
    go (Some xs) = refl

unmarked_sequences : (cs : Components) (t : List Tag) (o : Presence) (s : Schema) (adds : Components) → EachBridges cs → Bridges (sequence cs false (component t o s adds))
unfolding presents Per.form field_list_at
unmarked_sequences cs t o s adds h al (fields ps qs) os k rest =
    root al false cs h ps [] os [] k (additions_begin (suc (component_count adds)) ∷ added_records (component t o s adds) qs) rest
    ∙ none_behind (field_list_at (Per.component_forms al cs ps) (position ([], components false (optional_count cs) [] os ∷ k)))
    ∙ ap (option_and_then (λ w. runs al rest (os ++ w, k))) (sym (not_extended al (presence_bits cs ps) (Per.component_forms al cs ps) (position (os, k)) t o s adds qs))
unmarked_sequences cs t o s adds h al v os k rest = refl

pub sequences : (cs : Components) (e : Bool) (adds : Components) → EachBridges cs → EachBridges adds → Bridges (sequence cs e adds)
sequences cs false no_component h ha = plain_sequences cs h
sequences cs false (component t o s adds) h ha = unmarked_sequences cs t o s adds h
sequences cs true adds h ha = extended_sequences cs adds h ha

-- a SET is written as a SEQUENCE of its components in the order of their tags
pub sets : (cs : Components) (e : Bool) (adds : Components) → EachBridges cs → EachBridges adds → Bridges (set cs e adds)
unfolding presents Per.form field_list_at
sets cs e adds h ha al (fields ps qs) os k rest = sequences cs e adds h ha al (fields ps qs) os k rest
sets cs e adds h ha al v os k rest = refl
