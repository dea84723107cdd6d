-- A value whose records note nothing is its own normal form.
use Rattle.std.proofs.Common.{◌≡◌, ◌∙◌, refl, sym, ap, ℕ, zero, suc, Bool, true, false, cond, List, [], ◌∷◌, ◌++◌}
use Rattle.std.specs.Prelude.{◌||◌, not}
use Rattle.std.specs.List.{list_all}
use Rattle.std.proofs.lemmas.Bool.{and_parts}
use Rattle.std.proofs.lemmas.List.Folds.{list_all-append}
use Rattle.asn1_model.specs.Value.{Value, members, bag, fields, chosen, Values, no_more, member, Parts, end, absent, present, map_members}
use Rattle.asn1_model.specs.Schema.{Schema, sequence_of, set_of}
use Rattle.asn1_model.specs.Schema.{sequence, set, group, choice, Components, no_component, component, Alternatives, no_alternative, alternative}
use Rattle.asn1_model.specs.Normal.{normal, normal_parts, normal_alternative, is_at_default, is_group_left_out, is_required}
use Rattle.asn1_model.specs.Lawful.{are_no_components}
use Rattle.asn1_schema_laws.specs.Records.{Record, addition_ends, additions_begin, is_default, is_empty, ends}
use Rattle.asn1_schema_laws.specs.Presents.{presents, root_records, added_records, chosen_records, member_records, part_records, addition_records, noted, with_presence_bit}
use Rattle.asn1_schema_laws.specs.Presents.{component_count, there, left_out, Fits, PartsFit, ChosenFits, AllFit}

-- a record notes nothing of the one before it
abbrev pub is_stated : Record → Bool
is_stated is_default = false
is_stated is_empty = false
is_stated r = true

abbrev all : List Record → Bool
all rs = list_all is_stated rs

split : (xs ys : List Record) → all (xs ++ ys) ≡ true → (all xs ≡ true) × (all ys ≡ true)
split xs ys h = and_parts (all xs) (all ys) (sym (list_all-append is_stated xs ys) ∙ h)

noted_none : (a b : Bool) → all (cond a (is_default ∷ []) (cond b (is_empty ∷ []) [])) ≡ true → (a || b) ≡ false
noted_none true b h = sym h
noted_none false true h = sym h
noted_none false false h = refl

bit_none : (b : Bool) (rs : List Record) → all (with_presence_bit b rs) ≡ true → all rs ≡ true
bit_none true rs h = h
bit_none false rs h = h

begin_none : (b : Bool) (cs : Components) (rs : List Record) → all (cond b (additions_begin (component_count cs) ∷ rs) rs) ≡ true → all rs ≡ true
begin_none true cs rs h = h
begin_none false cs rs h = h

members_none : (fit : Value → Type 0) (f : Value → List Record) (g : Value → Value) → ((v : Value) → fit v → all (f v) ≡ true → g v ≡ v) → (vs : Values) → AllFit fit vs →
    all (member_records f vs) ≡ true → map_members g vs ≡ vs
members_none fit f g h no_more k e = refl
members_none fit f g h (member v vs) k e =
    let p = split (f v) (member_records f vs) e in
    ap (λ w. member w (map_members g vs)) (h v k.0 p.0) ∙ ap (member v) (members_none fit f g h vs k.1 p.1)

kept_part : (b : Bool) (v w : Value) (ps qs : Parts) → b ≡ false → w ≡ v → qs ≡ ps → cond b (absent qs) (present w qs) ≡ present v ps
kept_part true v w ps qs e f g = let h : true ≡ false = e in cc
kept_part false v w ps qs e f g = ap (λ x. present x qs) f ∙ ap (present v) g

mutual
  unfolding presents root_records added_records chosen_records Fits PartsFit ChosenFits normal normal_parts normal_alternative

  pub normal_itself : (s : Schema) (v : Value) → Fits s v → all (presents s v) ≡ true → normal s v ≡ v
  normal_itself (sequence_of z h s) (members vs) f e = ap members (members_none (λ v. Fits s v) (λ v. presents s v) (λ v. normal s v) (normal_itself s) vs f e)
  normal_itself (set_of z h s) (bag vs) f e = ap bag (members_none (λ v. Fits s v) (λ v. presents s v) (λ v. normal s v) (normal_itself s) vs f e)
  normal_itself (sequence cs e adds) (fields ps qs) f k =
      let r = root_itself cs ps _ f.0 k in
      ap (λ x. fields x (normal_parts adds qs)) r.0 ∙ ap (fields ps) (added_itself adds qs f.1 (begin_none (e || not (are_no_components adds)) adds (added_records adds qs) r.1))
  normal_itself (set cs e adds) (fields ps qs) f k =
      let r = root_itself cs ps _ f.0 k in
      ap (λ x. fields x (normal_parts adds qs)) r.0 ∙ ap (fields ps) (added_itself adds qs f.1 (begin_none (e || not (are_no_components adds)) adds (added_records adds qs) r.1))
  normal_itself (group cs) (fields ps end) f k = ap (λ x. fields x end) (root_itself cs ps (ends ∷ []) f.0 k).0
  normal_itself (group cs) (fields ps (absent qs)) f k = let h : absent qs ≡ end = f.1 in cc
  normal_itself (group cs) (fields ps (present v qs)) f k = let h : present v qs ≡ end = f.1 in cc
  normal_itself (choice roots e adds) (chosen false i v) f k = ap (λ w. chosen false i w) (alternative_itself roots i v f k)
  normal_itself (choice roots e adds) (chosen true i v) f k = ap (λ w. chosen true i w) (alternative_itself adds i v f k)
  normal_itself s v f k = refl

  root_itself : (cs : Components) (ps : Parts) (rest : List Record) → PartsFit cs ps → all (root_records cs ps rest) ≡ true → (normal_parts cs ps ≡ ps) × (all rest ≡ true)
  root_itself no_component end rest f k = (refl, k)
  root_itself (component t o s cs) (present v ps) rest f k =
      let p = split (part_records (λ w. presents s w) o s (there v)) (root_records cs ps rest) k in
      let q = split (presents s v) (noted o s v) (bit_none (is_required o) (presents s v ++ noted o s v) p.0) in
      let r = root_itself cs ps rest f.1 p.1 in (
        kept_part (is_at_default o s v || is_group_left_out s v) v (normal s v) ps (normal_parts cs ps) (noted_none (is_at_default o s v) (is_group_left_out s v) q.1)
            (normal_itself s v f.0 q.0) r.0,
        r.1,
      )
  root_itself (component t o s cs) (absent ps) rest f k =
      let p = split (part_records (λ w. presents s w) o s left_out) (root_records cs ps rest) k in
      let r = root_itself cs ps rest f.1 p.1 in
      (ap absent r.0, r.1)
  root_itself cs ps rest f k = absurd f

  added_itself : (cs : Components) (ps : Parts) → PartsFit cs ps → all (added_records cs ps) ≡ true → normal_parts cs ps ≡ ps
  added_itself no_component end f k = refl
  added_itself (component t o s cs) (present v ps) f k =
      let p = split (addition_records (λ w. presents s w) o s (there v)) (added_records cs ps) k in
      let q = split (presents s v) (addition_ends ∷ noted o s v) p.0 in
      kept_part (is_at_default o s v || is_group_left_out s v) v (normal s v) ps (normal_parts cs ps) (noted_none (is_at_default o s v) (is_group_left_out s v) q.1)
      (normal_itself s v f.0 q.0) (added_itself cs ps f.1 p.1)
  added_itself (component t o s cs) (absent ps) f k = ap absent (added_itself cs ps f.1 (split (addition_records (λ w. presents s w) o s left_out) (added_records cs ps) k).1)
  added_itself cs ps f k = absurd f

  alternative_itself : (cs : Alternatives) (i : ℕ) (v : Value) → ChosenFits cs i v → all (chosen_records cs i v) ≡ true → normal_alternative cs i v ≡ v
  alternative_itself (alternative t s cs) zero v f k = normal_itself s v f (split (presents s v) (ends ∷ []) k).0
  alternative_itself (alternative t s cs) (suc i) v f k = alternative_itself cs i v f k
  alternative_itself no_alternative i v f k = absurd f
