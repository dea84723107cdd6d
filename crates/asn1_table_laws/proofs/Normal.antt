-- A normal form is its own normal form, and has the form of its type.
use Rattle.std.proofs.Common.{◌≡◌, ◌∙◌, refl, sym, ap, ℕ, zero, suc, Bool, true, false, cond, List, ◌++◌}
use Rattle.std.specs.Prelude.{◌&&◌, ◌||◌, not}
use Rattle.std.proofs.lemmas.Bool.{and_parts}
use Rattle.asn1_model.specs.Value.{Value, members, bag, fields, chosen, Values, no_more, member, Parts, end, absent, present, map_members}
use Rattle.asn1_model.specs.Schema.{Tag, Presence, required, optional, by_default, Schema, sequence_of, set_of}
use Rattle.asn1_model.specs.Schema.{sequence, set, group, choice, Components, no_component, component, Alternatives}
use Rattle.asn1_model.specs.Schema.{no_alternative, alternative}
use Rattle.asn1_model.specs.Normal.{normal, normal_parts, normal_alternative, is_default_by, is_empty_group, is_required, is_at_default, is_group_left_out}
use Rattle.asn1_model.specs.Lawful.{is_lawful, are_lawful, are_lawful_alternatives, are_groups_in_place, is_group}
use Rattle.asn1_model.specs.Lawful.{is_optional, is_sequence_table, are_counts, are_no_components, are_distinct}
use Rattle.asn1_model.specs.Lawful.{tag_same, component_tags, component_places, are_ascending, tag_less, are_tags_of}
use Rattle.asn1_model.specs.Lawful.{has_typed_default, alternative_tags, is_empty, is_tag}
use Rattle.asn1_schema_laws.specs.Presents.{Fits, PartsFit, ChosenFits, AllFit}

-- ---- twice

each_twice : (f : Value → Value) → ((v : Value) → f (f v) ≡ f v) → (vs : Values) → map_members f (map_members f vs) ≡ map_members f vs
each_twice f h no_more = refl
each_twice f h (member v vs) = ap (λ w. member w (map_members f (map_members f vs))) (h v) ∙ ap (member (f v)) (each_twice f h vs)

left : Presence → Schema → Value → Bool
left o s w = is_default_by (λ d. normal s d) o w || is_empty_group s w

part_twice : (t : List Tag) (o : Presence) (s : Schema) (cs : Components) (w : Value) (qs : Parts) (b : Bool) → left o s w ≡ b → normal s w ≡ w → normal_parts cs qs ≡ qs →
    normal_parts (component t o s cs) (cond b (absent qs) (present w qs)) ≡ cond b (absent qs) (present w qs)
unfolding left normal_parts
part_twice t o s cs w qs true k e h = ap absent h
part_twice t o s cs w qs false k e h = rw e (rw k (ap (present w) h))

mutual
  unfolding normal normal_parts normal_alternative left

  pub normal_twice : (s : Schema) (v : Value) → normal s (normal s v) ≡ normal s v
  normal_twice (sequence_of z h s) (members vs) = ap members (each_twice (λ v. normal s v) (normal_twice s) vs)
  normal_twice (set_of z h s) (bag vs) = ap bag (each_twice (λ v. normal s v) (normal_twice s) vs)
  normal_twice (sequence cs e adds) (fields ps qs) = ap (λ x. fields x (normal_parts adds (normal_parts adds qs))) (parts_twice cs ps)
      ∙ ap (λ x. fields (normal_parts cs ps) x) (parts_twice adds qs)
  normal_twice (set cs e adds) (fields ps qs) = ap (λ x. fields x (normal_parts adds (normal_parts adds qs))) (parts_twice cs ps) ∙ ap (λ x. fields (normal_parts cs ps) x) (parts_twice adds qs)
  normal_twice (group cs) (fields ps qs) = ap (λ x. fields x qs) (parts_twice cs ps)
  normal_twice (choice roots e adds) (chosen false i v) = ap (λ w. chosen false i w) (alternative_twice roots i v)
  normal_twice (choice roots e adds) (chosen true i v) = ap (λ w. chosen true i w) (alternative_twice adds i v)
  normal_twice s v = refl

  parts_twice : (cs : Components) (ps : Parts) → normal_parts cs (normal_parts cs ps) ≡ normal_parts cs ps
  parts_twice no_component ps = refl
  parts_twice (component t o s cs) end = refl
  parts_twice (component t o s cs) (absent ps) = ap absent (parts_twice cs ps)
  parts_twice (component t o s cs) (present v ps) = part_twice t o s cs (normal s v) (normal_parts cs ps) (left o s (normal s v)) refl (normal_twice s v) (parts_twice cs ps)

  alternative_twice : (cs : Alternatives) (i : ℕ) (v : Value) → normal_alternative cs i (normal_alternative cs i v) ≡ normal_alternative cs i v
  alternative_twice no_alternative i v = refl
  alternative_twice (alternative t s cs) zero v = normal_twice s v
  alternative_twice (alternative t s cs) (suc i) v = alternative_twice cs i v

-- ---- of the type

each_fits : (fit : Value → Type 0) (f : Value → Value) → ((v : Value) → fit v → fit (f v)) → (vs : Values) → AllFit fit vs → AllFit fit (map_members f vs)
each_fits fit f h no_more g = tt
each_fits fit f h (member v vs) g = (h v g.0, each_fits fit f h vs g.1)

-- what the normal form leaves out is not required
not_both : (a b : Bool) → (a || b) ≡ true → a ≡ false → b ≡ true
not_both true b e f = absurd (let z : true ≡ false = f in cc)
not_both false b e f = e

a_group : (s : Schema) (w : Value) → is_empty_group s w ≡ true → is_group s ≡ true
a_group (group cs) w e = refl
a_group s w e = e

placed : (added : Bool) (o : Presence) (g : Bool) → cond added (not g || is_optional o) (not g) ≡ true → g ≡ true → is_required o ≡ false
placed true required true e f = sym e
placed true optional true e f = refl
placed true (by_default d) true e f = refl
placed true o false e f = absurd (let z : false ≡ true = f in cc)
placed false o true e f = absurd (let z : false ≡ true = e in cc)
placed false o false e f = absurd (let z : false ≡ true = f in cc)

not_required : (added : Bool) (o : Presence) (s : Schema) (w : Value) → cond added (not (is_group s) || is_optional o) (not (is_group s)) ≡ true → left o s w ≡ true → is_required o ≡ false
unfolding left
not_required added required s w g e = placed added required (is_group s) g (a_group s w e)
not_required added optional s w g e = refl
not_required added (by_default d) s w g e = refl

pub not_required_there : (o : Presence) (s : Schema) (v : Value) → (not (is_group s) || is_optional o) ≡ true → (is_at_default o s v || is_group_left_out s v) ≡ true → is_required o ≡ false
unfolding left
not_required_there o s v g e = not_required true o s (normal s v) g e

part_fits : (t : List Tag) (o : Presence) (s : Schema) (cs : Components) (w : Value) (qs : Parts) (b : Bool) → (b ≡ true → is_required o ≡ false) → Fits s w → PartsFit cs qs →
    PartsFit (component t o s cs) (cond b (absent qs) (present w qs))
unfolding PartsFit
part_fits t o s cs w qs true r f g = (r refl, g)
part_fits t o s cs w qs false r f g = (f, g)

mutual
  unfolding normal normal_parts normal_alternative left Fits PartsFit ChosenFits is_lawful are_lawful are_lawful_alternatives

  pub normal_fits : (s : Schema) (v : Value) → is_lawful s ≡ true → Fits s v → Fits s (normal s v)
  normal_fits (sequence_of z h s) (members vs) l f = each_fits (λ v. Fits s v) (λ v. normal s v)
      (λ v g. normal_fits s v (and_parts (are_counts z.counts && are_counts h && not (is_group s)) (is_lawful s) l).1 g) vs f
  normal_fits (set_of z h s) (bag vs) l f = each_fits (λ v. Fits s v) (λ v. normal s v) (λ v g. normal_fits s v
      (and_parts (are_counts z.counts && are_counts h && not (is_group s)) (is_lawful s) l).1 g) vs f
  normal_fits (sequence cs e adds) (fields ps qs) l f =
      let a = and_parts (is_sequence_table cs e adds && are_lawful cs) (are_lawful adds) l in
      let b = and_parts (is_sequence_table cs e adds) (are_lawful cs) a.0 in
      let c = and_parts ((e || are_no_components adds) && are_distinct tag_same (component_tags cs ++ component_tags adds) && are_groups_in_place false cs) (are_groups_in_place true adds) b.0 in
      let d = and_parts ((e || are_no_components adds) && are_distinct tag_same (component_tags cs ++ component_tags adds)) (are_groups_in_place false cs) c.0 in
      (parts_fit cs ps false b.1 d.1 f.0, parts_fit adds qs true a.1 c.1 f.1)
  normal_fits (set cs e adds) (fields ps qs) l f =
      let a = and_parts (is_sequence_table cs e adds && are_ascending tag_less (component_places cs) && are_lawful cs) (are_lawful adds) l in
      let k = and_parts (is_sequence_table cs e adds && are_ascending tag_less (component_places cs)) (are_lawful cs) a.0 in
      let b = and_parts (is_sequence_table cs e adds) (are_ascending tag_less (component_places cs)) k.0 in
      let c = and_parts ((e || are_no_components adds) && are_distinct tag_same (component_tags cs ++ component_tags adds) && are_groups_in_place false cs) (are_groups_in_place true adds) b.0 in
      let d = and_parts ((e || are_no_components adds) && are_distinct tag_same (component_tags cs ++ component_tags adds)) (are_groups_in_place false cs) c.0 in
      (parts_fit cs ps false k.1 d.1 f.0, parts_fit adds qs true a.1 c.1 f.1)
  normal_fits (group cs) (fields ps qs) l f =
      let a = and_parts (not (are_no_components cs) && are_distinct tag_same (component_tags cs) && are_groups_in_place false cs) (are_lawful cs) l in
      let b = and_parts (not (are_no_components cs) && are_distinct tag_same (component_tags cs)) (are_groups_in_place false cs) a.0 in
      (parts_fit cs ps false a.1 b.1 f.0, f.1)
  normal_fits (choice roots e adds) (chosen false i v) l f =
      let a = and_parts (not (is_empty (alternative_tags roots)) && (e || is_empty (alternative_tags adds)) && are_ascending tag_less (alternative_tags roots) && are_distinct tag_same
      (alternative_tags roots ++ alternative_tags adds) && are_lawful_alternatives roots) (are_lawful_alternatives adds) l in
      let b = and_parts (not (is_empty (alternative_tags roots)) && (e || is_empty (alternative_tags adds)) && are_ascending tag_less (alternative_tags roots) && are_distinct tag_same
      (alternative_tags roots ++ alternative_tags adds)) (are_lawful_alternatives roots) a.0 in
      chosen_fits roots i v b.1 f
  normal_fits (choice roots e adds) (chosen true i v) l f =
      let a = and_parts (not (is_empty (alternative_tags roots)) && (e || is_empty (alternative_tags adds)) && are_ascending tag_less (alternative_tags roots) && are_distinct tag_same
      (alternative_tags roots ++ alternative_tags adds) && are_lawful_alternatives roots) (are_lawful_alternatives adds) l in
      chosen_fits adds i v a.1 f
  normal_fits s v l f = f

  parts_fit : (cs : Components) (ps : Parts) (added : Bool) → are_lawful cs ≡ true → are_groups_in_place added cs ≡ true → PartsFit cs ps → PartsFit cs (normal_parts cs ps)
  parts_fit no_component ps added l g f = f
  parts_fit (component t o s cs) end added l g f = f
  parts_fit (component t o s cs) (absent ps) added l g f =
      let a = and_parts (are_tags_of t s && has_typed_default s o && is_lawful s) (are_lawful cs) l in
      let b = and_parts (cond added (not (is_group s) || is_optional o) (not (is_group s))) (are_groups_in_place added cs) g in
      (f.0, parts_fit cs ps added a.1 b.1 f.1)
  parts_fit (component t o s cs) (present v ps) added l g f =
      let a = and_parts (are_tags_of t s && has_typed_default s o && is_lawful s) (are_lawful cs) l in
      let d = and_parts (are_tags_of t s && has_typed_default s o) (is_lawful s) a.0 in
      let b = and_parts (cond added (not (is_group s) || is_optional o) (not (is_group s))) (are_groups_in_place added cs) g in
      part_fits t o s cs (normal s v) (normal_parts cs ps) (left o s (normal s v)) (λ e. not_required added o s (normal s v) b.0 e) (normal_fits s v d.1 f.0) (parts_fit cs ps added a.1 b.1 f.1)

  chosen_fits : (cs : Alternatives) (i : ℕ) (v : Value) → are_lawful_alternatives cs ≡ true → ChosenFits cs i v → ChosenFits cs i (normal_alternative cs i v)
  chosen_fits no_alternative i v l f = f
  chosen_fits (alternative t s cs) zero v l f =
      let a = and_parts (is_tag t && not (is_group s) && is_lawful s) (are_lawful_alternatives cs) l in
      let b = and_parts (is_tag t && not (is_group s)) (is_lawful s) a.0 in
      normal_fits s v b.1 f
  chosen_fits (alternative t s cs) (suc i) v l f =
      let a = and_parts (is_tag t && not (is_group s) && is_lawful s) (are_lawful_alternatives cs) l in
      chosen_fits cs i v a.1 f
