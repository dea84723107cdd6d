-- What a reader accepts, in each rule whose forms are composed of its pieces: of a form, its parts; a value of the type;
-- and without the freedoms of what may be left out a value in normal form.
use Rattle.std.specs.Prelude.{ℤ, is_some}
use Rattle.std.proofs.Common.{◌≡◌, ℕ, zero, suc, not, Bool, true, false, cond, ◌&&◌, ◌||◌, IsTrue, List, [], ◌∷◌, length, Option, Some, None, refl, sym, ◌∙◌, subst}
use Rattle.asn1_model.specs.Value.{Value, item, members, bag, fields, chosen, Values, no_more, member, Parts, end, absent, present, each, are_all}
use Rattle.asn1_model.specs.Schema.{Tag, Counts, Size, Presence, Schema, enumerated, sequence_of, set_of, sequence, set}
use Rattle.asn1_model.specs.Schema.{group, choice, Components, no_component, component, Alternatives, no_alternative}
use Rattle.asn1_model.specs.Schema.{alternative}
use Rattle.asn1_model.specs.Normal.{is_at_default, is_group_left_out, presence_bits, is_required, alternative_count, item_place, spelled}
use Rattle.asn1_model.specs.Tidy.{is_normal, are_normal, is_normal_alternative}
use Rattle.asn1_model.specs.Lawful.{is_of, are_of, is_of_alternative}
use Rattle.asn1_model.specs.Numbers.{is_count_within}
use Rattle.asn1_model.specs.Form.{refused, varied, only_if, in_order, ascending, stands_before, Bitmap, is_any_present, present_ones, covered_by, Freedom, Detail, default_spelled_out, empty_group}
use Rattle.asn1_model.proofs.Forms.{map_parts}
use Rattle.asn1_laws_values.proofs.Composition.{FormOf, Pieces, IsComposed, component_forms, addition_forms}
use Rattle.asn1_laws_values.proofs.Composition.{with_additions, by_bits, bitmapped, sequence_form, fields_form}
use Rattle.asn1_laws_values.proofs.Composition.{alternative_form, in_any_order}
use Rattle.asn1_laws_values.proofs.Readable.{IsRead, read_refused, read_both, read_varied, read_if, read_given, read_kept, AllRead, read_joined, all_in_order, none_present, covered_present}
use Rattle.asn1_laws_values.proofs.Lengths.{order_length, each_length, two_true, unless, not_any}

-- Whether a type has no parts.
abbrev pub is_leaf : Schema → Bool
is_leaf (enumerated roots e adds) = false
is_leaf (sequence_of z c s) = false
is_leaf (set_of z c s) = false
is_leaf (sequence cs e adds) = false
is_leaf (set cs e adds) = false
is_leaf (group cs) = false
is_leaf (choice roots e adds) = false
is_leaf s = true

-- What is read of a rule's pieces is read of their parts.
pub record ArePassed {A : Type 0} (R : Pieces A) (free : Freedom → Bool) : Type 0 where
  pub leaves : (s : Schema) (v : Value) → is_leaf s ≡ true → IsRead free (R.form s v) → is_of s v ≡ true
  pub items : (n : ℤ) (k : ℕ) (e : Bool) (o p : Option ℕ) → IsRead free (R.item_form n k e o p) →
      (is_some o || (e && is_some p)) ≡ true
  pub counts : (z : Size) (c : Counts) (xs : List (FormOf A)) → IsRead free (R.list_form z c xs) → is_count_within c (length xs) ≡ true
  pub lists : (z : Size) (c : Counts) (xs : List (FormOf A)) → IsRead free (R.list_form z c xs) → AllRead free xs
  pub open_types : (x : FormOf A) → IsRead free (R.open_type x) → IsRead free x
  pub tagged : (a : Bool) (t : Tag) (x : FormOf A) → IsRead free (R.tagged a t x) → IsRead free x
  pub roots : (e : Bool) (k i : ℕ) (x : FormOf A) → IsRead free (R.root_form e k i x) → IsRead free x
  pub added : (i : ℕ) (x : FormOf A) → IsRead free (R.added_form i x) → IsRead free x

four_true : (a b c d : Bool) → a ≡ false → b ≡ false → c ≡ true → d ≡ true → (not a && not b && c && d) ≡ true
four_true a b c d h i j k = rw (h, i, j, k) refl

module _ {A : Type 0} (R : Pieces A) (composed : IsComposed R) (free : Freedom → Bool) (passed : ArePassed R free) where
  abbrev F : Type 0
  F = FormOf A

  abbrev Read : F → Type 0
  Read x = IsRead {F = Freedom} {D = Detail} {A = A} free x

  abbrev ReadEach : List F → Type 0
  ReadEach xs = AllRead {F = Freedom} {D = Detail} {A = A} free xs

  abbrev Added : Type 0
  Added = List (Option F)

  read_as : (x y : F) → x ≡ y → Read x → Read y
  read_as x y e r = subst (λ z. Read z) e r

  -- a value of another kind than the type's is not read
  unread : (s : Schema) (v : Value) → R.form s v ≡ refused → Read (R.form s v) → ⊥
  unread s v e r = read_refused free (read_as (R.form s v) refused e r)

  -- ---- the root and the additions of a sequence
  additions_read : (ms : List Bool) (root : F) (xs : Added) → Read (with_additions R ms root xs) → Read root × ReadEach (present_ones xs)
  additions_read ms root xs r =
      let q = read_both free r in
      let p = read_both free q.1 in
      (p.0, read_joined free _ ((read_both free p.1).1))

  by_bits_read : (ms : List Bool) (root : F) (xs : Added) (t : Bool) → Read (by_bits R ms root xs t) → Read (with_additions R ms root xs)
  by_bits_read ms root xs true r = r
  by_bits_read ms root xs false r = let q = read_varied free r in (read_if free q.0 q.2).1

  bitmapped_read : (ms : List Bool) (root : F) (xs : Added) (o : Option Bitmap) → Read (bitmapped R ms root xs o) →
      Read root × ReadEach (present_ones xs)
  bitmapped_read ms root xs None r =
      let q = read_if free (not (is_any_present xs)) r in
      ((read_both free q.1).1, none_present free xs (not_any _ q.0))
  bitmapped_read ms root xs (Some b) r =
      let q = read_given free (covered_by R.counted b xs) r in
      let p = additions_read ms root q.0 (by_bits_read ms root q.0 (is_any_present q.0) q.2) in
      (p.0, covered_present free R.counted b xs q.0 q.1 p.1)

  sequence_read : (e : Bool) (ms : List Bool) (root : F) (xs : Added) → Read (sequence_form R e ms root xs) →
      Read root × ReadEach (present_ones xs)
  sequence_read false ms root [] r = ((read_both free r).1, tt)
  sequence_read false ms root (x ∷ xs) r = absurd (read_refused free r)
  sequence_read true ms root xs r = let q = read_varied free r in bitmapped_read ms root xs q.0 q.2

  fields_read : (cs : Components) (e : Bool) (adds : Components) (ps qs : Parts) → Read (fields_form R cs e adds ps qs) →
      Read (component_forms R cs ps) × ((xs : Added) × (addition_forms R adds qs ≡ Some xs) × ReadEach (present_ones xs))
  fields_read cs e adds ps qs r =
      let q = read_given free (addition_forms R adds qs) r in
      let p = sequence_read e (presence_bits cs ps) (component_forms R cs ps) q.0 q.2 in
      (p.0, (q.0, q.1, p.1))

  -- ---- elements
  order_read : (xs : List F) (f : List F → F) → Read (in_any_order R xs f) →
      (us : List F) × (length us ≡ length xs) × Read (f us) × (ReadEach us → ReadEach xs)
  order_read xs f r =
      let before = stands_before R.less in
      let q = read_varied free r in
      let p = read_given free (in_order (ascending R.key before xs) q.0 xs) q.2 in
      (p.0, order_length R.key before q.0 xs p.0 p.1, p.2, all_in_order free R.key before q.0 xs p.0 p.1)

  values_read : (f : Value → F) (test : Value → Bool) (vs : Values) → ((v : Value) → Read (f v) → test v ≡ true) → ReadEach (each f vs) →
      are_all test vs ≡ true
  values_read f test no_more h r = refl
  values_read f test (member v vs) h r = two_true _ _ (h v r.0) (values_read f test vs h r.1)

  -- ---- a component
  spelled_tests : (a b : Bool) (x : F) →
      Read (cond a (varied default_spelled_out false (λ t. only_if t x)) (cond b (varied empty_group false (λ t. only_if t x)) x)) →
      Read x
  spelled_tests true b x r = let q = read_varied free r in (read_if free q.0 q.2).1
  spelled_tests false true x r = let q = read_varied free r in (read_if free q.0 q.2).1
  spelled_tests false false x r = r

  spelled_read : (o : Presence) (s : Schema) (v : Value) (x : F) → Read (spelled o s v x) → Read x
  unfolding spelled
  spelled_read o s v x r = spelled_tests (is_at_default o s v) (is_group_left_out s v) x r

  absent_read : (b : Bool) (x : F) → Read (cond b refused x) → (not b ≡ true) × Read x
  absent_read true x r = absurd (read_refused free r)
  absent_read false x r = (refl, r)

  abbrev Spelled : Presence → Schema → Value → F
  Spelled o s v = spelled o s v (R.open_type (R.form s v))

  -- the additions, one absent or present and the others
  addition_absent : (t : List Tag) (o : Presence) (s : Schema) (cs : Components) (ps : Parts) (xs : Added) →
      addition_forms R (component t o s cs) (absent ps) ≡ Some xs → ReadEach (present_ones xs) →
      (not (is_required o) ≡ true) × ((ys : Added) × (addition_forms R cs ps ≡ Some ys) × ReadEach (present_ones ys))
  addition_absent t o s cs ps xs e r =
      let u = unless (is_required o) _ _ e in
      let q = map_parts (addition_forms R cs ps) (λ (as_ : Added). None ∷ as_) xs u.1 in
      (u.0, (q.0, q.1, subst (λ l. ReadEach (present_ones l)) (sym q.2) r))

  addition_present : (t : List Tag) (o : Presence) (s : Schema) (cs : Components) (v : Value) (ps : Parts) (xs : Added) →
      addition_forms R (component t o s cs) (present v ps) ≡ Some xs → ReadEach (present_ones xs) →
      Read (Spelled o s v) × ((ys : Added) × (addition_forms R cs ps ≡ Some ys) × ReadEach (present_ones ys))
  addition_present t o s cs v ps xs e r =
      let q = map_parts (addition_forms R cs ps) (λ (as_ : Added). Some (Spelled o s v) ∷ as_) xs e in
      let n : Read (Spelled o s v) × ReadEach (present_ones q.0) = subst (λ l. ReadEach (present_ones l)) (sym q.2) r in
      (n.0, (q.0, q.1, n.1))

  -- ---- a value of the type
  mutual
    unfolding is_of are_of is_of_alternative

    pub read_of : (s : Schema) (v : Value) → Read (R.form s v) → is_of s v ≡ true
    read_of (enumerated roots e adds) (item v) r =
        passed.items v (length roots) e (item_place v roots) (item_place v adds) (read_as _ _ (composed.items roots e adds v) r)
    read_of (enumerated roots e adds) v r = absurd (unread (enumerated roots e adds) v (composed.only (enumerated roots e adds) v) r)
    read_of (sequence_of z c s) (members vs) r =
        let f : Value → F = λ v. R.form s v in
        let q = read_as _ _ (composed.lists z c s vs) r in
        let n = subst (λ n. is_count_within c n ≡ true) (each_length f vs) (passed.counts z c (each f vs) q) in
        two_true _ _ n (values_read f (λ v. is_of s v) vs (λ v r. read_of s v r) (passed.lists z c (each f vs) q))
    read_of (sequence_of z c s) v r = absurd (unread (sequence_of z c s) v (composed.only (sequence_of z c s) v) r)
    read_of (set_of z c s) (bag vs) r =
        let f : Value → F = λ v. R.form s v in
        let q = order_read (each f vs) (R.list_form z c) (read_as _ _ (composed.bags z c s vs) r) in
        let n = subst (λ n. is_count_within c n ≡ true) (q.1 ∙ each_length f vs) (passed.counts z c q.0 q.2) in
        two_true _ _ n (values_read f (λ v. is_of s v) vs (λ v r. read_of s v r) (q.3 (passed.lists z c q.0 q.2)))
    read_of (set_of z c s) v r = absurd (unread (set_of z c s) v (composed.only (set_of z c s) v) r)
    read_of (sequence cs e adds) (fields ps qs) r =
        let q = fields_read cs e adds ps qs (read_as _ _ (composed.sequences cs e adds ps qs) r) in
        two_true _ _ (components_of cs ps q.0) (additions_of adds qs q.1.0 q.1.1 q.1.2)
    read_of (sequence cs e adds) v r = absurd (unread (sequence cs e adds) v (composed.only (sequence cs e adds) v) r)
    read_of (set cs e adds) (fields ps qs) r =
        let q = fields_read cs e adds ps qs (read_as _ _ (composed.sets cs e adds ps qs) r) in
        two_true _ _ (components_of cs ps q.0) (additions_of adds qs q.1.0 q.1.1 q.1.2)
    read_of (set cs e adds) v r = absurd (unread (set cs e adds) v (composed.only (set cs e adds) v) r)
    read_of (group cs) (fields ps end) r = components_of cs ps ((read_both free (read_as _ _ (composed.groups cs ps) r)).1)
    read_of (group cs) v r = absurd (unread (group cs) v (composed.only (group cs) v) r)
    read_of (choice roots e adds) (chosen false i v) r =
        alternative_of false roots i v (passed.roots e (alternative_count roots) i _ (read_as _ _ (composed.roots roots e adds i v) r))
    read_of (choice roots true adds) (chosen true i v) r =
        alternative_of true adds i v (passed.added i _ (read_as _ _ (composed.added roots adds i v) r))
    read_of (choice roots e adds) v r = absurd (unread (choice roots e adds) v (composed.only (choice roots e adds) v) r)
    read_of s v r = passed.leaves s v refl r

    components_of : (cs : Components) (ps : Parts) → Read (component_forms R cs ps) → are_of cs ps ≡ true
    components_of no_component end r = refl
    components_of (component t o s cs) (absent ps) r =
        let q = absent_read (is_required o) (component_forms R cs ps) r in
        two_true _ _ q.0 (components_of cs ps q.1)
    components_of (component t o s cs) (present v ps) r =
        let q = read_both free r in
        two_true _ _ (read_of s v (spelled_read o s v (R.form s v) q.0)) (components_of cs ps q.1)
    components_of cs ps r = absurd (read_refused free r)

    additions_of : (cs : Components) (ps : Parts) (xs : Added) → addition_forms R cs ps ≡ Some xs → ReadEach (present_ones xs) →
        are_of cs ps ≡ true
    additions_of no_component end xs e r = refl
    additions_of (component t o s cs) (absent ps) xs e r =
        let q = addition_absent t o s cs ps xs e r in
        two_true _ _ q.0 (additions_of cs ps q.1.0 q.1.1 q.1.2)
    additions_of (component t o s cs) (present v ps) xs e r =
        let q = addition_present t o s cs v ps xs e r in
        let first = read_of s v (passed.open_types (R.form s v) (spelled_read o s v (R.open_type (R.form s v)) q.0)) in
        two_true _ _ first (additions_of cs ps q.1.0 q.1.1 q.1.2)
    additions_of cs ps xs e r = cc

    alternative_of : (added : Bool) (others : Alternatives) (i : ℕ) (v : Value) → Read (alternative_form R added others i v) →
        is_of_alternative others i v ≡ true
    alternative_of added (alternative t s others) zero v r = read_of s v (passed.tagged added t _ r)
    alternative_of added (alternative t s others) (suc i) v r = alternative_of added others i v r
    alternative_of added no_alternative i v r = absurd (read_refused free r)

  -- ---- a value in normal form, without the freedoms of what may be left out
  module _ (no_default : IsTrue (free default_spelled_out) → ⊥) (no_group : IsTrue (free empty_group) → ⊥) where
    kept_tests : (a b : Bool) (x : F) →
        Read (cond a (varied default_spelled_out false (λ t. only_if t x)) (cond b (varied empty_group false (λ t. only_if t x)) x)) →
        (a ≡ false) × (b ≡ false) × Read x
    kept_tests true b x r = absurd (read_kept free x (λ t. t) false refl no_default r)
    kept_tests false true x r = absurd (read_kept free x (λ t. t) false refl no_group r)
    kept_tests false false x r = (refl, refl, r)

    kept_read : (o : Presence) (s : Schema) (v : Value) (x : F) → Read (spelled o s v x) →
        (is_at_default o s v ≡ false) × (is_group_left_out s v ≡ false) × Read x
    unfolding spelled
    kept_read o s v x r = kept_tests (is_at_default o s v) (is_group_left_out s v) x r

    mutual
      unfolding is_normal are_normal is_normal_alternative

      pub read_normal : (s : Schema) (v : Value) → Read (R.form s v) → is_normal s v ≡ true
      read_normal (sequence_of z c s) (members vs) r =
          let f : Value → F = λ v. R.form s v in
          let q = passed.lists z c (each f vs) (read_as _ _ (composed.lists z c s vs) r) in
          values_read f (λ v. is_normal s v) vs (λ v r. read_normal s v r) q
      read_normal (sequence_of z c s) v r = refl
      read_normal (set_of z c s) (bag vs) r =
          let f : Value → F = λ v. R.form s v in
          let q = order_read (each f vs) (R.list_form z c) (read_as _ _ (composed.bags z c s vs) r) in
          values_read f (λ v. is_normal s v) vs (λ v r. read_normal s v r) (q.3 (passed.lists z c q.0 q.2))
      read_normal (set_of z c s) v r = refl
      read_normal (sequence cs e adds) (fields ps qs) r =
          let q = fields_read cs e adds ps qs (read_as _ _ (composed.sequences cs e adds ps qs) r) in
          two_true _ _ (components_normal cs ps q.0) (additions_normal adds qs q.1.0 q.1.1 q.1.2)
      read_normal (sequence cs e adds) v r = refl
      read_normal (set cs e adds) (fields ps qs) r =
          let q = fields_read cs e adds ps qs (read_as _ _ (composed.sets cs e adds ps qs) r) in
          two_true _ _ (components_normal cs ps q.0) (additions_normal adds qs q.1.0 q.1.1 q.1.2)
      read_normal (set cs e adds) v r = refl
      read_normal (group cs) (fields ps end) r = components_normal cs ps ((read_both free (read_as _ _ (composed.groups cs ps) r)).1)
      read_normal (group cs) v r = absurd (unread (group cs) v (composed.only (group cs) v) r)
      read_normal (choice roots e adds) (chosen false i v) r =
          alternative_normal false roots i v (passed.roots e (alternative_count roots) i _ (read_as _ _ (composed.roots roots e adds i v) r))
      read_normal (choice roots true adds) (chosen true i v) r =
          alternative_normal true adds i v (passed.added i _ (read_as _ _ (composed.added roots adds i v) r))
      read_normal (choice roots false adds) (chosen true i v) r =
          absurd (unread (choice roots false adds) (chosen true i v) (composed.only (choice roots false adds) (chosen true i v)) r)
      read_normal (choice roots e adds) v r = refl
      read_normal s v r = refl

      components_normal : (cs : Components) (ps : Parts) → Read (component_forms R cs ps) → are_normal cs ps ≡ true
      components_normal no_component ps r = refl
      components_normal (component t o s cs) end r = refl
      components_normal (component t o s cs) (absent ps) r = components_normal cs ps ((absent_read (is_required o) _ r).1)
      components_normal (component t o s cs) (present v ps) r =
          let q = read_both free r in
          let p = kept_read o s v (R.form s v) q.0 in
          four_true _ _ _ _ p.0 p.1 (read_normal s v p.2) (components_normal cs ps q.1)

      additions_normal : (cs : Components) (ps : Parts) (xs : Added) → addition_forms R cs ps ≡ Some xs → ReadEach (present_ones xs) →
          are_normal cs ps ≡ true
      additions_normal no_component ps xs e r = refl
      additions_normal (component t o s cs) end xs e r = refl
      additions_normal (component t o s cs) (absent ps) xs e r =
          let q = addition_absent t o s cs ps xs e r in
          additions_normal cs ps q.1.0 q.1.1 q.1.2
      additions_normal (component t o s cs) (present v ps) xs e r =
          let q = addition_present t o s cs v ps xs e r in
          let p = kept_read o s v (R.open_type (R.form s v)) q.0 in
          four_true _ _ _ _ p.0 p.1 (read_normal s v (passed.open_types (R.form s v) p.2)) (additions_normal cs ps q.1.0 q.1.1 q.1.2)

      alternative_normal : (added : Bool) (others : Alternatives) (i : ℕ) (v : Value) → Read (alternative_form R added others i v) →
          is_normal_alternative others i v ≡ true
      alternative_normal added (alternative t s others) zero v r = read_normal s v (passed.tagged added t _ r)
      alternative_normal added (alternative t s others) (suc i) v r = alternative_normal added others i v r
      alternative_normal added no_alternative i v r = refl

pub not_free : IsTrue false → ⊥
not_free h = let e : false ≡ true = h in cc
