-- What both versions of a type read of the beginning of one encoding can be carried over, in each rule whose forms are
-- composed of its pieces.
use Rattle.std.specs.Prelude.{ℤ}
use Rattle.std.proofs.Common.{◌≡◌, ℕ, Bool, true, false, cond, List, [], ◌∷◌, length, map, Option, Some, None, refl, sym, ◌∙◌, subst}
use Rattle.std.proofs.lemmas.Bool.{and_parts}
use Rattle.asn1_model.specs.Value.{Value, item, members, bag, fields, Values, Parts, end}
use Rattle.asn1_model.specs.Schema.{Counts, Size, Presence, Schema, cut, boolean, null, integer, enumerated, bit_string}
use Rattle.asn1_model.specs.Schema.{octet_string, character_string, object_identifier, sequence_of, set_of, sequence}
use Rattle.asn1_model.specs.Schema.{set, group, choice, Components, no_component, component, Alternatives}
use Rattle.asn1_model.specs.Schema.{no_alternative, alternative}
use Rattle.asn1_model.specs.Lawful.{is_lawful, are_lawful, are_lawful_alternatives}
use Rattle.asn1_model.specs.Normal.{is_at_default, is_group_left_out, presence_bits, spelled}
use Rattle.asn1_model.specs.Form.{varied, only_if, own_bitmap, stands_before}
use Rattle.asn1_model.specs.Form.{refused, Freedom, Detail, default_spelled_out, empty_group, other_bitmap, other_order}
use Rattle.asn1_model.specs.Form.{empty_bitmap}
use Rattle.asn1_model.specs.Versions.{carried, Begins, Extends, ExtendsEach, ExtendsAlternatives}
use Rattle.asn1_laws_values.proofs.Listed.{listed, each_is_map, order_map}
use Rattle.asn1_laws_fronts.proofs.Fronts.{Pairwise, agree_with_refused, agree_map}
use Rattle.asn1_laws_fronts.proofs.Fronts.{agree_varied_right}
use Rattle.asn1_laws_fronts.proofs.Fronts.{agree_turned, Agree}
use Rattle.asn1_laws_versions.proofs.Taken.{as_written, taken, covers_written, agree_written, taken_same, taken_both, taken_refused, taken_if, taken_given, taken_varied, right_given}
use Rattle.asn1_laws_versions.proofs.Parts as parts
use Rattle.asn1_laws_versions.proofs.Parts.{There, there_map, there_both, Carried, PartsCarried, EachPair, pair_map, presence_bits_meet}
use Rattle.asn1_laws_versions.proofs.Members.{Both, Related, each_arranged, each_first, each_second, members_carried}
use Rattle.asn1_laws_versions.proofs.Members.{bags_carried, older, newer, related_pairs, form_of, older_forms}
use Rattle.asn1_laws_versions.proofs.Members.{newer_forms, related_alike, each_written, EachPairOf}
use Rattle.asn1_laws_versions.proofs.Members.{fields_carried, set_carried, group_carried}
use Rattle.asn1_laws_fronts.proofs.Spelled.{tests_right}
use Rattle.asn1_laws_fronts.proofs.Whole.{AreAlike, one_way, added, shown_is, shown, Added, added_is, hidden, hidden_left, hidden_right, bitmapped_is}
use Rattle.asn1_laws_values.proofs.Composition.{FormOf, Pieces, IsComposed, component_forms, addition_forms, bitmapped, sequence_form, fields_form, in_any_order}
use Rattle.asn1_laws_versions.proofs.Covered.{AreCovered}

-- What is read of the older version's form, as it is read or as it is written, and of the newer one's.
abbrev pub WayIn : {A : Type 0} → Pieces A → (Freedom → Bool) → Bool → Schema → Schema → Type 0
WayIn {A} R free m s s' =
    (x v : Value) → Agree {F = Freedom} {D = Detail} {A = A} free (taken free m (R.form s x)) (R.form s' v) (Carried m s s' x v)

-- What a rule's own pieces tell of two versions.
pub record AreMet {A : Type 0} (R : Pieces A) (free : Freedom → Bool) (m : Bool) : Type 0 where
  pub octets : (os : List ℕ) (x : FormOf A) → Agree {F = Freedom} {D = Detail} {A = A} free (R.counted os) (R.open_type x) (Unit {0})
  pub items : (roots adds adds' : List ℤ) (e : Bool) → Begins adds adds' → (n k : ℤ) →
      Agree {F = Freedom} {D = Detail} {A = A} free (taken free m (R.form (enumerated roots e adds) (item n))) (R.form (enumerated roots e adds') (item k))
      (Carried m (enumerated roots e adds) (enumerated roots e adds') (item n) (item k))
  pub choices : (roots roots' : Alternatives) (e : Bool) (adds adds' : Alternatives) → ExtendsAlternatives false roots roots' →
      ExtendsAlternatives e adds adds' → EachPairOf (λ s s'. WayIn R free m s s') roots roots' →
      EachPairOf (λ s s'. WayIn R free m s s') adds adds' → is_lawful (choice roots' e adds') ≡ true →
      WayIn R free m (choice roots e adds) (choice roots' e adds')

module _ {A : Type 0} (R : Pieces A) (free : Freedom → Bool) (alike : AreAlike R free) (covered : AreCovered R) where
  pub open_meets_in : (m : Bool) (x y : FormOf A) (P : Type 0) → Agree {F = Freedom} {D = Detail} {A = A} free (taken free m x) y P →
      Agree {F = Freedom} {D = Detail} {A = A} free (taken free m (R.open_type x)) (R.open_type y) P
  open_meets_in false x y P h = alike.open_types x y P h
  open_meets_in true x y P h =
      let c = covered.keeps_open free _ _ (covers_written free x) in
      agree_written free (R.open_type x) (R.open_type (as_written free x)) (R.open_type y) P c (alike.open_types (as_written free x) y P h)

module _ {A : Type 0} (R : Pieces A) (composed : IsComposed R) (free : Freedom → Bool) (alike : AreAlike R free) (covered : AreCovered R) (m : Bool) (met : AreMet R free m) where
  abbrev F : Type 0
  F = FormOf A

  abbrev Alike : F → F → Type 0 → Type 0
  Alike x y P = Agree {F = Freedom} {D = Detail} {A = A} free x y P

  abbrev MetIn : Bool → F → F → Type 0 → Type 0
  MetIn m x y P = Alike (taken free m x) y P

  abbrev Met : F → F → Type 0 → Type 0
  Met x y P = MetIn m x y P

  abbrev Way : Schema → Schema → Type 0
  Way s s' = WayIn R free m s s'

  abbrev Once : Schema → Type 0
  Once s = (x y : Value) → Alike (R.form s x) (R.form s y) (Unit {0})

  met_between : {x x' y y' : F} {P : Type 0} → x ≡ x' → y ≡ y' → Met x' y' P → Met x y P
  met_between {x' = x'} {y = y} {P = P} e f h = subst (λ z. Met z y P) (sym e) (subst (λ z. Met x' z P) (sym f) h)

  -- a value of another kind than the type's
  unwritten : (s : Schema) (v : Value) (y : F) (P : Type 0) → R.form s v ≡ refused → Met (R.form s v) y P
  unwritten s v y P e = subst (λ z. Met z y P) (sym e) (taken_refused free m y P)

  with_unwritten : (x : F) (s : Schema) (w : Value) (P : Type 0) → R.form s w ≡ refused → Met x (R.form s w) P
  with_unwritten x s w P e = subst (λ z. Met x z P) (sym e) (agree_with_refused free _ P)

  -- ---- components and open types
  abbrev tests : Bool → Bool → F → F
  tests a b x =
      cond a (varied default_spelled_out false (λ t. only_if t x)) (cond b (varied empty_group false (λ t. only_if t x)) x)

  tests_left : (a b : Bool) (x y : F) (P : Type 0) → Met x y P → Met (tests a b x) y P
  tests_left true b x y P h =
      taken_varied free m default_spelled_out false (λ t. only_if t x) y P (λ t q. taken_if free m t x y P (λ e. h))
  tests_left false true x y P h =
      taken_varied free m empty_group false (λ t. only_if t x) y P (λ t q. taken_if free m t x y P (λ e. h))
  tests_left false false x y P h = h

  spelled_meets : (o o' : Presence) (s s' : Schema) (v w : Value) (x y : F) (P : Type 0) → Met x y P → Met (spelled o s v x) (spelled o' s' w y) P
  unfolding spelled
  spelled_meets o o' s s' v w x y P h =
      let k = tests_right free (is_at_default o' s' w) (is_group_left_out s' w) _ y P h in
      tests_left (is_at_default o s v) (is_group_left_out s v) x _ P k

  open_meets : (x y : F) (P : Type 0) → Met x y P → Met (R.open_type x) (R.open_type y) P
  open_meets x y P h = open_meets_in R free alike covered m x y P h

  unknown_added : (o : Presence) (s : Schema) (v : Value) (os : List ℕ) → Alike (R.counted os) (spelled o s v (R.open_type (R.form s v))) (Unit {0})
  unfolding spelled
  unknown_added o s v os = tests_right free (is_at_default o s v) (is_group_left_out s v) _ _ _ (met.octets os _)

  -- ---- elements
  lists_meet : (z : Size) (c : Counts) (g h : Value → F) (P : Value → Value → Type 0) → ((x y : Value) → Alike (g x) (g y) (Unit {0})) →
      ((x y : Value) → Alike (h x) (h y) (Unit {0})) → ((x y : Value) → Alike (g x) (h y) (P x y)) → (us ys : List Value) →
      Alike (R.list_form z c (map g us)) (R.list_form z c (map h ys)) (Pairwise P us ys)
  lists_meet z c g h P i j k us ys =
      let f = form_of Freedom Detail A free g h in
      let b = related_alike Freedom Detail A free g h P i j k in
      let base = alike.lists Both (λ a b. Related P a b) f b z c (older us) (newer ys) in
      let both = agree_map free (λ q. related_pairs P us ys q) base in
      subst (λ l. Alike (R.list_form z c l) (R.list_form z c (map h ys)) (Pairwise P us ys)) (older_forms Freedom Detail A free g h us)
      (subst (λ l. Alike (R.list_form z c (map f (older us))) (R.list_form z c l) (Pairwise P us ys)) (newer_forms Freedom Detail A free g h ys) both)

  sized_meet_in : (m : Bool) (z : Size) (c : Counts) (g h : Value → F) (P : Value → Value → Type 0) → ((x y : Value) → Alike (g x) (g y) (Unit {0})) →
      ((x y : Value) → Alike (h x) (h y) (Unit {0})) → ((x y : Value) → MetIn m (g x) (h y) (P x y)) → (us ys : List Value) →
      MetIn m (R.list_form z c (map g us)) (R.list_form z c (map h ys)) (Pairwise P us ys)
  sized_meet_in false z c g h P i j k us ys = lists_meet z c g h P i j k us ys
  sized_meet_in true z c g h P i j k us ys =
      let w : Value → F = λ x. as_written free (g x) in
      let once = λ (x y : Value). taken_same free true _ _ _ (agree_turned free (taken_same free true _ _ _ (i y x))) in
      let c' = covered.keeps_list free z c (map g us) (map w us) (each_written Freedom Detail A free g us) in
      agree_written free _ _ _ _ c' (lists_meet z c w h P once j k us ys)

  sized_meet : (z : Size) (c : Counts) (g h : Value → F) (P : Value → Value → Type 0) → ((x y : Value) → Alike (g x) (g y) (Unit {0})) →
      ((x y : Value) → Alike (h x) (h y) (Unit {0})) → ((x y : Value) → Met (g x) (h y) (P x y)) → (us ys : List Value) →
      Met (R.list_form z c (map g us)) (R.list_form z c (map h ys)) (Pairwise P us ys)
  sized_meet z c g h P i j k us ys = sized_meet_in m z c g h P i j k us ys

  list_way : (z : Size) (c : Counts) (s s' : Schema) → Once s → Once s' → Way s s' → Way (sequence_of z c s) (sequence_of z c s')
  list_way z c s s' i j k (members us) (members vs) =
      let g : Value → F = λ v. R.form s v in
      let h : Value → F = λ v. R.form s' v in
      let P : Value → Value → Type 0 = λ x v. Carried m s s' x v in
      let done : Pairwise P (listed us) (listed vs) → Carried m (sequence_of z c s) (sequence_of z c s') (members us) (members vs) = λ q.
      members_carried m z z c c s s' us vs (each_second P _ (listed us) (listed vs) (λ x v r. r.0) q)
      (λ t. each_first P _ (listed us) (listed vs) (λ x v r. r.1 t) q) in
      let n = agree_map free done (sized_meet z c g h P i j k (listed us) (listed vs)) in
      met_between (composed.lists z c s us) (composed.lists z c s' vs) (rw (each_is_map g us, each_is_map h vs) n)
  list_way z c s s' i j k (members us) v = with_unwritten _ (sequence_of z c s') v _ (composed.only (sequence_of z c s') v)
  list_way z c s s' i j k x v = unwritten (sequence_of z c s) x _ _ (composed.only (sequence_of z c s) x)

  bag_forms : (z : Size) (c : Counts) (s s' : Schema) → Once s → Once s' → Way s s' → (us vs : Values) →
      Met (in_any_order R (map (λ v. R.form s v) (listed us)) (R.list_form z c)) (in_any_order R (map (λ v. R.form s' v) (listed vs)) (R.list_form z c))
      (Carried m (set_of z c s) (set_of z c s') (bag us) (bag vs))
  bag_forms z c s s' i j k us vs =
      let before = stands_before R.less in
      let P : Value → Value → Type 0 = λ x v. Carried m s s' x v in
      let C : Type 0 = Carried m (set_of z c s) (set_of z c s') (bag us) (bag vs) in
      let f : Value → F = λ v. R.form s v in
      let g : Value → F = λ v. R.form s' v in
      taken_varied free m other_order None _ _ _ (λ o t. taken_given free m _ _ _ _ (λ xs e. agree_varied_right free (λ q. right_given free _ _ _ _ (λ ys d.
      let a = order_map f R.key before o (listed us) xs e in
      let b = order_map g R.key before q (listed vs) ys d in
      let done : Pairwise P a.1 b.1 → C = λ p.
      bags_carried m z z c c s s' us vs (each_arranged _ b.0 (listed vs) b.1 b.2 (each_second P _ a.1 b.1 (λ x v r. r.0) p))
      (λ t. each_arranged _ a.0 (listed us) a.1 a.2 (each_first P _ a.1 b.1 (λ x v r. r.1 t) p)) in
      let n = agree_map free done (sized_meet z c f g P i j k a.1 b.1) in
      subst (λ l. Met (R.list_form z c l) (R.list_form z c ys) C) a.3 (subst (λ l. Met (R.list_form z c (map f a.1)) (R.list_form z c l) C) b.3 n)))))

  bag_way : (z : Size) (c : Counts) (s s' : Schema) → Once s → Once s' → Way s s' → Way (set_of z c s) (set_of z c s')
  bag_way z c s s' i j k (bag us) (bag vs) =
      let n = bag_forms z c s s' i j k us vs in
      met_between (composed.bags z c s us) (composed.bags z c s' vs) (rw (each_is_map (λ v. R.form s v) us, each_is_map (λ v. R.form s' v) vs) n)
  bag_way z c s s' i j k (bag us) v = with_unwritten _ (set_of z c s') v _ (composed.only (set_of z c s') v)
  bag_way z c s s' i j k x v = unwritten (set_of z c s) x _ _ (composed.only (set_of z c s) x)

  -- ---- components and additions
  abbrev Ways : Components → Components → Type 0
  Ways cs cs' = EachPair (λ o s o' s'. Way s s') cs cs'

  components_way : (cs cs' : Components) (ps qs : Parts) → ExtendsEach false cs cs' → Ways cs cs' → presence_bits cs ps ≡ presence_bits cs' qs →
      Met (component_forms R cs ps) (component_forms R cs' qs) (PartsCarried m cs cs' ps qs)
  components_way cs cs' ps qs h k e =
      let each = pair_map cs cs' (λ o s o' s' w x v. spelled_meets o o' s s' x v _ _ _ (w x v)) k in
      let n = parts.components_meet Freedom Detail A free m (shown R composed free alike) cs cs' ps qs h each e in
      met_between (sym (shown_is R composed free alike cs ps)) (sym (shown_is R composed free alike cs' qs)) n

  hidden_taken : (x y : F) (P : Type 0) → Met x y P → Met (hidden R composed free alike x) y P
  hidden_taken x y P h = taken_varied free m empty_bitmap false (λ e. only_if e x) y P (λ t q. taken_if free m t x y P (λ e. h))

  module _ (ms ns : List Bool) (long : length ms ≡ length ns) (x y : F) (P : Type 0) (roots_meet : ms ≡ ns → Met x y P)
      (adds adds' : Components) (qs ss : Parts) (e : Bool) (h : ExtendsEach e adds adds') (k : Ways adds adds') where
    abbrev Own : Presence → Schema → Value → F
    Own = added R composed free alike

    tables_way : (b : Bool) (xs ys : List (Option F)) → Added R composed free alike adds qs ≡ Some xs → Added R composed free alike adds' ss ≡ Some ys →
        Met (sequence_form R b ms x xs) (sequence_form R b ns y ys) (P × PartsCarried m adds adds' qs ss)
    tables_way false [] [] f g =
        let none = parts.none_meet Freedom Detail A free m R.counted alike.counted Own unknown_added e adds adds' qs ss [] [] h f g refl refl in
        let done = parts.weaken Freedom Detail A free m R.counted alike.counted Own unknown_added e adds adds' qs ss none in
        agree_map free (λ q. (q.1, done)) (taken_both free m _ _ x y _ _ (taken_same free m _ _ _ (alike.preambles ms ns long)) roots_meet)
    tables_way false [] (b ∷ ys) f g = agree_with_refused free _ _
    tables_way false (a ∷ xs) ys f g = taken_refused free m _ _
    tables_way true xs ys f g =
        taken_varied free m other_bitmap (own_bitmap xs) (λ b. bitmapped R ms x xs b) _ _ (λ b q. agree_varied_right free {c = other_bitmap} (λ c.
        let each = pair_map adds adds' (λ o s o' s' w x v. spelled_meets o o' s s' x v _ _ _ (open_meets _ _ _ (w x v))) k in
        let n = parts.bitmapped_meet Freedom Detail A free m R.counted alike.counted Own unknown_added R.preamble alike.preambles R.bitmap alike.bitmaps
        (hidden R composed free alike) (hidden_left R composed free alike) (hidden_right R composed free alike) hidden_taken
        ms ns long x y P roots_meet e adds adds' qs ss xs ys h each f g b c q in
        met_between (sym (bitmapped_is R composed free alike ms x xs b)) (sym (bitmapped_is R composed free alike ns y ys c)) n))

  fields_way : (cs cs' : Components) (e : Bool) (adds adds' : Components) → ExtendsEach false cs cs' → ExtendsEach e adds adds' → Ways cs cs' →
      Ways adds adds' → (ps qs rs ss : Parts) → Met (fields_form R cs e adds ps qs) (fields_form R cs' e adds' rs ss)
      (PartsCarried m cs cs' ps rs × PartsCarried m adds adds' qs ss)
  fields_way cs cs' e adds adds' h i k l ps qs rs ss =
      taken_given free m (addition_forms R adds qs) _ _ _ (λ xs f. right_given free (addition_forms R adds' ss) _ _ _ (λ ys g.
      let long = presence_bits_meet cs cs' ps rs h in
      let roots = λ (n : presence_bits cs ps ≡ presence_bits cs' rs). components_way cs cs' ps rs h k n in
      tables_way (presence_bits cs ps) (presence_bits cs' rs) long _ _ _ roots adds adds' qs ss e i l e xs ys
      (added_is R composed free alike adds qs ∙ f) (added_is R composed free alike adds' ss ∙ g)))

  sequence_way : (cs cs' : Components) (e : Bool) (adds adds' : Components) → ExtendsEach false cs cs' → ExtendsEach e adds adds' → Ways cs cs' →
      Ways adds adds' → Way (sequence cs e adds) (sequence cs' e adds')
  sequence_way cs cs' e adds adds' h i k l (fields ps qs) (fields rs ss) =
      let n = agree_map free (λ q. fields_carried m cs cs' e e adds adds' ps qs rs ss q) (fields_way cs cs' e adds adds' h i k l ps qs rs ss) in
      met_between (composed.sequences cs e adds ps qs) (composed.sequences cs' e adds' rs ss) n
  sequence_way cs cs' e adds adds' h i k l (fields ps qs) v = with_unwritten _ (sequence cs' e adds') v _ (composed.only (sequence cs' e adds') v)
  sequence_way cs cs' e adds adds' h i k l x v = unwritten (sequence cs e adds) x _ _ (composed.only (sequence cs e adds) x)

  set_way : (cs cs' : Components) (e : Bool) (adds adds' : Components) → ExtendsEach false cs cs' → ExtendsEach e adds adds' → Ways cs cs' →
      Ways adds adds' → Way (set cs e adds) (set cs' e adds')
  set_way cs cs' e adds adds' h i k l (fields ps qs) (fields rs ss) =
      let n = agree_map free (λ q. set_carried m cs cs' e e adds adds' ps qs rs ss q) (fields_way cs cs' e adds adds' h i k l ps qs rs ss) in
      met_between (composed.sets cs e adds ps qs) (composed.sets cs' e adds' rs ss) n
  set_way cs cs' e adds adds' h i k l (fields ps qs) v = with_unwritten _ (set cs' e adds') v _ (composed.only (set cs' e adds') v)
  set_way cs cs' e adds adds' h i k l x v = unwritten (set cs e adds) x _ _ (composed.only (set cs e adds) x)

  group_way : (cs cs' : Components) → ExtendsEach false cs cs' → Ways cs cs' → Way (group cs) (group cs')
  group_way cs cs' h k (fields ps end) (fields rs end) =
      let bits = alike.preambles (presence_bits cs ps) (presence_bits cs' rs) (presence_bits_meet cs cs' ps rs h) in
      let n = taken_both free m _ _ _ _ _ _ (taken_same free m _ _ _ bits) (λ n. components_way cs cs' ps rs h k n) in
      met_between (composed.groups cs ps) (composed.groups cs' rs) (agree_map free (λ q. group_carried m cs cs' ps rs q.1) n)
  group_way cs cs' h k (fields ps end) v = with_unwritten _ (group cs') v _ (composed.only (group cs') v)
  group_way cs cs' h k x v = unwritten (group cs) x _ _ (composed.only (group cs) x)

  enumerated_way : (roots adds adds' : List ℤ) (e : Bool) → Begins adds adds' → Way (enumerated roots e adds) (enumerated roots e adds')
  enumerated_way roots adds adds' e h (item n) (item k) = met.items roots adds adds' e h n k
  enumerated_way roots adds adds' e h (item n) v = with_unwritten _ (enumerated roots e adds') v _ (composed.only (enumerated roots e adds') v)
  enumerated_way roots adds adds' e h x v = unwritten (enumerated roots e adds) x _ _ (composed.only (enumerated roots e adds) x)

  -- ---- the kinds
  once : (s : Schema) → is_lawful s ≡ true → Once s
  once s l x y = agree_map free (λ q. tt) (one_way R composed free alike s l x y)

  kind_way : (s s' : Schema) → s ≡ s' → is_lawful s ≡ true → ((x v : Value) → Carried m s s' x v) → Way s s'
  kind_way s s' e l c x v = agree_map free (λ q. c x v) (subst (λ s'. Met (R.form s x) (R.form s' v) (Unit {0})) e (taken_same free m _ _ _ (once s l x v)))

  mutual
    unfolding Extends ExtendsEach ExtendsAlternatives is_lawful are_lawful are_lawful_alternatives carried

    pub way : (s s' : Schema) → Extends s s' → is_lawful s ≡ true → is_lawful s' ≡ true → Way s s'
    way boolean boolean h l l' = kind_way boolean boolean refl l (λ x v. ((v, refl), λ q. (x, refl)))
    way null null h l l' = kind_way null null refl l (λ x v. ((v, refl), λ q. (x, refl)))
    way object_identifier object_identifier h l l' = kind_way object_identifier object_identifier refl l (λ x v. ((v, refl), λ q. (x, refl)))
    way cut cut h l l' = kind_way cut cut refl l (λ x v. ((v, refl), λ q. (x, refl)))
    way (integer b c) (integer b' c') h l l' = kind_way (integer b c) (integer b' c') (let x = h.0 in let y = h.1 in cc) l (λ x v. ((v, refl), λ q. (x, refl)))
    way (bit_string z c) (bit_string z' c') h l l' = kind_way (bit_string z c) (bit_string z' c') (let x = h.0 in let y = h.1 in cc) l (λ x v. ((v, refl), λ q. (x, refl)))
    way (octet_string z c) (octet_string z' c') h l l' = kind_way (octet_string z c) (octet_string z' c') (let x = h.0 in let y = h.1 in cc) l (λ x v. ((v, refl), λ q. (x, refl)))
    way (character_string k z a c) (character_string k' z' a' c') h l l' =
        kind_way (character_string k z a c) (character_string k' z' a' c') (let x = h.0 in let y = h.1 in let w = h.2 in let q = h.3 in cc) l (λ x v. ((v, refl), λ q. (x, refl)))
    way (enumerated roots e adds) (enumerated roots' e' adds') h l l' =
        subst (λ roots'. Way (enumerated roots e adds) (enumerated roots' e' adds')) h.0
        (subst (λ e'. Way (enumerated roots e adds) (enumerated roots e' adds')) h.1 (enumerated_way roots adds adds' e h.2))
    way (sequence_of z c s) (sequence_of z' c' s') h l l' =
        let i = (and_parts _ _ l).1 in
        let j = (and_parts _ _ l').1 in
        subst (λ z'. Way (sequence_of z c s) (sequence_of z' c' s')) h.0 (subst (λ c'. Way (sequence_of z c s) (sequence_of z c' s')) h.1 (list_way z c s s' (once s i) (once s' j) (way s s' h.2 i j)))
    way (set_of z c s) (set_of z' c' s') h l l' =
        let i = (and_parts _ _ l).1 in
        let j = (and_parts _ _ l').1 in
        subst (λ z'. Way (set_of z c s) (set_of z' c' s')) h.0 (subst (λ c'. Way (set_of z c s) (set_of z c' s')) h.1 (bag_way z c s s' (once s i) (once s' j) (way s s' h.2 i j)))
    way (sequence cs e adds) (sequence cs' e' adds') h l l' =
        subst (λ e'. Way (sequence cs e adds) (sequence cs' e' adds')) h.1
        (sequence_way cs cs' e adds adds' h.0 h.2
        (components_ways false cs cs' h.0 ((and_parts _ _ ((and_parts _ _ l).0)).1) ((and_parts _ _ ((and_parts _ _ l').0)).1))
        (components_ways e adds adds' h.2 ((and_parts _ _ l).1) ((and_parts _ _ l').1)))
    way (set cs e adds) (set cs' e' adds') h l l' =
        subst (λ e'. Way (set cs e adds) (set cs' e' adds')) h.1
        (set_way cs cs' e adds adds' h.0 h.2 (components_ways false cs cs' h.0 ((and_parts _ _ ((and_parts _ _ l).0)).1)
        ((and_parts _ _ ((and_parts _ _ l').0)).1)) (components_ways e adds adds' h.2 ((and_parts _ _ l).1) ((and_parts _ _ l').1)))
    way (group cs) (group cs') h l l' = group_way cs cs' h (components_ways false cs cs' h ((and_parts _ _ l).1) ((and_parts _ _ l').1))
    way (choice roots e adds) (choice roots' e' adds') h l l' =
        let first = alternatives_ways false roots roots' h.0 ((and_parts _ _ ((and_parts _ _ l).0)).1) ((and_parts _ _ ((and_parts _ _ l').0)).1) in
        let others = alternatives_ways e adds adds' h.2 ((and_parts _ _ l).1) ((and_parts _ _ l').1) in
        let lawful = subst (λ e'. is_lawful (choice roots' e' adds') ≡ true) (sym h.1) l' in
        subst (λ e'. Way (choice roots e adds) (choice roots' e' adds')) h.1 (met.choices roots roots' e adds adds' h.0 h.2 first others lawful)
    way s s' h l l' = absurd h

    components_ways : (more : Bool) (cs cs' : Components) → ExtendsEach more cs cs' → are_lawful cs ≡ true → are_lawful cs' ≡ true → Ways cs cs'
    components_ways more no_component cs' h l l' = tt
    components_ways more (component t o s cs) no_component h l l' = absurd h
    components_ways more (component t o s cs) (component t' o' s' cs') h l l' =
        (way s s' h.2 ((and_parts _ _ ((and_parts _ _ l).0)).1) ((and_parts _ _ ((and_parts _ _ l').0)).1), components_ways more cs cs' h.3 ((and_parts _ _ l).1) ((and_parts _ _ l').1))

    alternatives_ways : (more : Bool) (others others' : Alternatives) → ExtendsAlternatives more others others' →
        are_lawful_alternatives others ≡ true → are_lawful_alternatives others' ≡ true → EachPairOf (λ s s'. Way s s') others others'
    alternatives_ways more no_alternative others' h l l' = tt
    alternatives_ways more (alternative t s others) no_alternative h l l' = absurd h
    alternatives_ways more (alternative t s others) (alternative t' s' others') h l l' =
        (way s s' h.1 ((and_parts _ _ ((and_parts _ _ l).0)).1) ((and_parts _ _ ((and_parts _ _ l').0)).1), alternatives_ways more others others' h.2 ((and_parts _ _ l).1) ((and_parts _ _ l').1))
