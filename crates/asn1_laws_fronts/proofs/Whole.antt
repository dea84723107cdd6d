-- Prefixes of all forms, in each rule whose forms are composed of its pieces.
use Rattle.std.specs.Prelude.{is_some}
use Rattle.std.proofs.Common.{◌≡◌, Bool, true, false, cond, ◌∷◌, List, [], ℕ, length, map, Option, Some, None, option_map, ap, sym, ◌∙◌, refl, subst}
use Rattle.std.proofs.lemmas.Bool.{and_parts, and_from}
use Rattle.asn1_model.specs.Value.{Value, members, bag, fields, Values, Parts, end, absent, present, each, values_of, same, same_members, same_parts}
use Rattle.asn1_model.specs.Schema.{Counts, Size, Presence, Schema, sequence_of, set_of, sequence, set, group, choice, Components, no_component, component, Alternatives, no_alternative, alternative}
use Rattle.asn1_model.specs.Lawful.{is_lawful, are_lawful, are_lawful_alternatives}
use Rattle.asn1_model.specs.Normal.{presence_bits, is_required, spelled}
use Rattle.asn1_model.specs.Form.{refused, both, varied, only_if, Bitmap, stands_before, Freedom, Detail, other_bitmap, empty_bitmap}
use Rattle.asn1_laws_values.proofs.Composition.{FormOf, Pieces, IsComposed, component_forms, addition_forms, bitmapped, sequence_form, fields_form, in_any_order}
use Rattle.asn1_laws_values.proofs.Bags.{EachSame, bags_same}
use Rattle.asn1_laws_values.proofs.Listed.{EachComponent, EachAlternative, component_map, listed, each_is_map, listed_again, order_map}
use Rattle.asn1_laws_fronts.proofs.Fronts.{Agree, Pairwise, agree_refused, agree_with_refused, agree_map, agree_both}
use Rattle.asn1_laws_fronts.proofs.Fronts.{agree_varied, agree_varied_left, agree_varied_right, agree_if_left}
use Rattle.asn1_laws_fronts.proofs.Fronts.{agree_if_right, agree_given}
use Rattle.asn1_laws_fronts.proofs.Spelled.{spelled_alike, presence_bits_long}
use Rattle.asn1_laws_fronts.proofs.Members.{members_same}
use Rattle.asn1_laws_fronts.proofs.Additions as adding

pairs_same : (vs ws : List Value) → Pairwise (λ v w. same v w ≡ true) vs ws → EachSame vs ws
pairs_same [] [] h = tt
pairs_same [] (w ∷ ws) h = absurd h
pairs_same (v ∷ vs) [] h = absurd h
pairs_same (v ∷ vs) (w ∷ ws) h = (h.0, pairs_same vs ws h.1)

members_are : (vs ws : Values) → same_members vs ws ≡ true → same (members vs) (members ws) ≡ true
unfolding same
members_are vs ws e = e

fields_are : (ps qs rs ss : Parts) → same_parts ps rs ≡ true → same_parts qs ss ≡ true → same (fields ps qs) (fields rs ss) ≡ true
unfolding same
fields_are ps qs rs ss e f = and_from _ _ e f

group_same : (ps rs : Parts) → same_parts ps rs ≡ true → same (fields ps end) (fields rs end) ≡ true
unfolding same same_parts
group_same ps rs e = and_from _ _ e refl

-- Whether a type has neither elements nor components nor alternatives.
abbrev pub is_single : Schema → Bool
is_single (sequence_of z c s) = false
is_single (set_of z c s) = false
is_single (sequence cs e adds) = false
is_single (set cs e adds) = false
is_single (group cs) = false
is_single (choice roots e adds) = false
is_single s = true

-- Of two values, of which what is encoded begins alike, both are the same.
abbrev pub OneWayIn : {A : Type 0} → Pieces A → (Freedom → Bool) → Schema → Type 0
OneWayIn {A} R free s =
    (v w : Value) → Agree {F = Freedom} {D = Detail} {A = A} free (R.form s v) (R.form s w) (same v w ≡ true)

-- What a rule's pieces are made of is determined by how they begin.
pub record AreAlike {A : Type 0} (R : Pieces A) (free : Freedom → Bool) : Type 1 where
  pub counted : (os ps : List ℕ) → Agree {F = Freedom} {D = Detail} {A = A} free (R.counted os) (R.counted ps) (os ≡ ps)
  pub preambles : (ms ns : List Bool) → length ms ≡ length ns →
      Agree {F = Freedom} {D = Detail} {A = A} free (R.preamble ms) (R.preamble ns) (ms ≡ ns)
  pub bitmaps : (xs ys : List (Option (FormOf A))) →
      Agree {F = Freedom} {D = Detail} {A = A} free (R.bitmap xs) (R.bitmap ys) (map (λ a. is_some a) xs ≡ map (λ a. is_some a) ys)
  pub lists : (X : Type 0) (P : X → X → Type 0) (f : X → FormOf A) →
      ((x y : X) → Agree {F = Freedom} {D = Detail} {A = A} free (f x) (f y) (P x y)) → (z : Size) (c : Counts) (xs ys : List X) →
      Agree {F = Freedom} {D = Detail} {A = A} free (R.list_form z c (map f xs)) (R.list_form z c (map f ys)) (Pairwise P xs ys)
  pub open_types : (x y : FormOf A) (P : Type 0) → Agree {F = Freedom} {D = Detail} {A = A} free x y P →
      Agree {F = Freedom} {D = Detail} {A = A} free (R.open_type x) (R.open_type y) P
  pub leaves : (s : Schema) → is_single s ≡ true → OneWayIn R free s
  pub choices : (roots : Alternatives) (e : Bool) (adds : Alternatives) → is_lawful (choice roots e adds) ≡ true →
      EachAlternative (λ s. OneWayIn R free s) roots → EachAlternative (λ s. OneWayIn R free s) adds → OneWayIn R free (choice roots e adds)

module _ {A : Type 0} (R : Pieces A) (composed : IsComposed R) (free : Freedom → Bool) (alike : AreAlike R free) where
  abbrev F : Type 0
  F = FormOf A

  abbrev Alike : F → F → Type 0 → Type 0
  Alike x y P = Agree {F = Freedom} {D = Detail} {A = A} free x y P

  abbrev Way : Schema → Type 0
  Way s = (v w : Value) → Alike (R.form s v) (R.form s w) (same v w ≡ true)

  alike_between : {x x' y y' : F} {P : Type 0} → x ≡ x' → y ≡ y' → Alike x' y' P → Alike x y P
  alike_between {x' = x'} {y = y} {P = P} e f h = subst (λ z. Alike z y P) (sym e) (subst (λ z. Alike x' z P) (sym f) h)

  -- a value of another kind than the type's
  unwritten : (s : Schema) (v : Value) (y : F) (P : Type 0) → R.form s v ≡ refused → Alike (R.form s v) y P
  unwritten s v y P e = subst (λ z. Alike z y P) (sym e) (agree_refused free y P)

  with_unwritten : (x : F) (s : Schema) (w : Value) (P : Type 0) → R.form s w ≡ refused → Alike x (R.form s w) P
  with_unwritten x s w P e = subst (λ z. Alike x z P) (sym e) (agree_with_refused free x P)

  -- ---- SEQUENCE OF and SET OF
  list_alike : (z : Size) (c : Counts) (s : Schema) → Way s → (vs ws : Values) →
      Alike (R.list_form z c (each (λ v. R.form s v) vs)) (R.list_form z c (each (λ v. R.form s v) ws)) (same_members vs ws ≡ true)
  list_alike z c s h vs ws =
      let f : Value → F = λ v. R.form s v in
      let k = alike.lists Value (λ v w. same v w ≡ true) f h z c (listed vs) (listed ws) in
      rw (each_is_map f vs, each_is_map f ws) (agree_map free (λ q. members_same vs ws q) k)

  bag_alike : (z : Size) (c : Counts) (s : Schema) → Way s → (vs ws : Values) →
      Alike (in_any_order R (each (λ v. R.form s v) vs) (R.list_form z c)) (in_any_order R (each (λ v. R.form s v) ws) (R.list_form z c))
      (same (bag vs) (bag ws) ≡ true)
  bag_alike z c s h vs ws =
      let f : Value → F = λ v. R.form s v in
      let P : Type 0 = same (bag vs) (bag ws) ≡ true in
      let before = stands_before R.less in
      rw (each_is_map f vs, each_is_map f ws) (agree_varied free (λ o q. agree_given free _ _ _ _ (λ us zs e g.
      let a = order_map f R.key before o (listed vs) us e in
      let b = order_map f R.key before q (listed ws) zs g in
      let done : Pairwise (λ v w. same v w ≡ true) a.1 b.1 → P = λ p.
      let k = bags_same a.0 b.0 (listed vs) (listed ws) a.1 b.1 a.2 b.2 (pairs_same a.1 b.1 p) in
      let k' = subst (λ x. same (bag (values_of (listed vs))) (bag x) ≡ true) (listed_again ws) k in
      subst (λ x. same (bag x) (bag ws) ≡ true) (listed_again vs) k' in
      let k = agree_map free done (alike.lists Value (λ v w. same v w ≡ true) f h z c a.1 b.1) in
      subst (λ l. Alike (R.list_form z c l) (R.list_form z c zs) P) a.3 (subst (λ l. Alike (R.list_form z c (map f a.1)) (R.list_form z c l) P) b.3 k))))

  -- ---- components and additions
  abbrev pub shown : Presence → Schema → Value → F
  shown o s v = spelled o s v (R.form s v)

  abbrev pub added : Presence → Schema → Value → F
  added o s v = spelled o s v (R.open_type (R.form s v))

  abbrev pub Shown : Components → Parts → F
  Shown cs ps = adding.components_of Freedom Detail A free shown cs ps

  pub shown_is : (cs : Components) (ps : Parts) → Shown cs ps ≡ component_forms R cs ps
  shown_is no_component end = refl
  shown_is no_component (absent ps) = refl
  shown_is no_component (present v ps) = refl
  shown_is (component t o s cs) end = refl
  shown_is (component t o s cs) (absent ps) = ap (λ x. cond (is_required o) refused x) (shown_is cs ps)
  shown_is (component t o s cs) (present v ps) = ap (λ x. both (shown o s v) x) (shown_is cs ps)

  components_alike : (cs : Components) (ps qs : Parts) → EachComponent (λ o s. Way s) cs → presence_bits cs ps ≡ presence_bits cs qs →
      Alike (component_forms R cs ps) (component_forms R cs qs) (same_parts ps qs ≡ true)
  components_alike cs ps qs h m =
      let each_shown = component_map cs (λ o s k v w. spelled_alike free o s v w _ _ _ (k v w)) h in
      let k = adding.components_alike Freedom Detail A free shown cs ps qs each_shown m in
      alike_between (sym (shown_is cs ps)) (sym (shown_is cs qs)) k

  abbrev pub Added : Components → Parts → Option (List (Option F))
  Added cs ps = adding.additions_of Freedom Detail A free R.counted alike.counted added cs ps

  pub added_is : (cs : Components) (ps : Parts) → Added cs ps ≡ addition_forms R cs ps
  added_is no_component end = refl
  added_is no_component (absent ps) = refl
  added_is no_component (present v ps) = refl
  added_is (component t o s cs) end = refl
  added_is (component t o s cs) (absent ps) = ap (λ x. cond (is_required o) None (option_map (λ xs. None ∷ xs) x)) (added_is cs ps)
  added_is (component t o s cs) (present v ps) = ap (λ x. option_map (λ xs. Some (added o s v) ∷ xs) x) (added_is cs ps)

  abbrev pub hidden : F → F
  hidden x = varied empty_bitmap false (λ e. only_if e x)

  pub hidden_left : (x y : F) (P : Type 0) → Alike x y P → Alike (hidden x) y P
  hidden_left x y P h = agree_varied_left free {c = empty_bitmap} (λ t. agree_if_left free t {x = x} {y = y} (λ e. h))

  pub hidden_right : (x y : F) (P : Type 0) → Alike x y P → Alike x (hidden y) P
  hidden_right x y P h = agree_varied_right free {c = empty_bitmap} (λ t. agree_if_right free t {x = x} {y = y} (λ e. h))

  abbrev pub Bitmapped : List Bool → F → List (Option F) → Option Bitmap → F
  Bitmapped ms root xs b = adding.bitmapped Freedom Detail A free R.counted alike.counted added R.preamble alike.preambles R.bitmap alike.bitmaps
      hidden hidden_left hidden_right ms root xs b

  pub bitmapped_is : (ms : List Bool) (root : F) (xs : List (Option F)) (b : Option Bitmap) → Bitmapped ms root xs b ≡ bitmapped R ms root xs b
  bitmapped_is ms root xs None = refl
  bitmapped_is ms root xs (Some b) = refl

  module _ (ms ns : List Bool) (long : length ms ≡ length ns) (x y : F) (P : Type 0) (roots_alike : ms ≡ ns → Alike x y P)
      (adds : Components) (qs ss : Parts) (each_way : EachComponent (λ o s. Way s) adds) where
    abbrev Q : Type 0
    Q = P × (same_parts qs ss ≡ true)

    tables_alike : (e : Bool) (xs ys : List (Option F)) → Added adds qs ≡ Some xs → Added adds ss ≡ Some ys →
        Alike (sequence_form R e ms x xs) (sequence_form R e ns y ys) Q
    tables_alike false [] [] f g =
        let none = adding.none_same Freedom Detail A free R.counted alike.counted added adds qs ss [] [] f g refl refl in
        agree_map free (λ q. (q.1, none)) (agree_both free (alike.preambles ms ns long) roots_alike)
    tables_alike false [] (b ∷ ys) f g = agree_with_refused free _ _
    tables_alike false (a ∷ xs) ys f g = agree_refused free _ _
    tables_alike true xs ys f g = agree_varied free {c = other_bitmap} {c' = other_bitmap} (λ b c.
        let each_added = component_map adds (λ o s k v w. spelled_alike free o s v w _ _ _ (alike.open_types _ _ _ (k v w))) each_way in
        let k = adding.bitmapped_alike Freedom Detail A free R.counted alike.counted added R.preamble alike.preambles R.bitmap alike.bitmaps
        hidden hidden_left hidden_right ms ns long x y P roots_alike adds qs ss xs ys b c each_added f g in
        alike_between (sym (bitmapped_is ms x xs b)) (sym (bitmapped_is ns y ys c)) k)

  fields_alike : (cs : Components) (e : Bool) (adds : Components) → EachComponent (λ o s. Way s) cs → EachComponent (λ o s. Way s) adds →
      (ps qs rs ss : Parts) → Alike (fields_form R cs e adds ps qs) (fields_form R cs e adds rs ss) (same (fields ps qs) (fields rs ss) ≡ true)
  fields_alike cs e adds h k ps qs rs ss = agree_given free (addition_forms R adds qs) (addition_forms R adds ss) _ _ (λ xs ys f g.
      let long = presence_bits_long cs ps rs in
      let roots = λ (m : presence_bits cs ps ≡ presence_bits cs rs). components_alike cs ps rs h m in
      let tables = tables_alike (presence_bits cs ps) (presence_bits cs rs) long _ _ _ roots adds qs ss k e xs ys (added_is adds qs ∙ f) (added_is adds ss ∙ g) in
      agree_map free (λ q. fields_are ps qs rs ss q.0 q.1) tables)

  group_alike : (cs : Components) → EachComponent (λ o s. Way s) cs → (ps rs : Parts) →
      Alike (both (R.preamble (presence_bits cs ps)) (component_forms R cs ps)) (both (R.preamble (presence_bits cs rs)) (component_forms R cs rs))
      (same (fields ps end) (fields rs end) ≡ true)
  group_alike cs h ps rs =
      let bits = alike.preambles (presence_bits cs ps) (presence_bits cs rs) (presence_bits_long cs ps rs) in
      agree_map free (λ q. group_same ps rs q.1) (agree_both free bits (λ m. components_alike cs ps rs h m))

  mutual
    unfolding is_lawful are_lawful are_lawful_alternatives

    pub one_way : (s : Schema) → is_lawful s ≡ true → OneWayIn R free s
    one_way (sequence_of z c s) h (members v) (members w) =
        let k = list_alike z c s (one_way s ((and_parts _ _ h).1)) v w in
        alike_between (composed.lists z c s v) (composed.lists z c s w) (agree_map free (λ e. members_are v w e) k)
    one_way (sequence_of z c s) h (members v) w = with_unwritten _ (sequence_of z c s) w _ (composed.only (sequence_of z c s) w)
    one_way (sequence_of z c s) h v w = unwritten (sequence_of z c s) v _ _ (composed.only (sequence_of z c s) v)
    one_way (set_of z c s) h (bag v) (bag w) =
        alike_between (composed.bags z c s v) (composed.bags z c s w) (bag_alike z c s (one_way s ((and_parts _ _ h).1)) v w)
    one_way (set_of z c s) h (bag v) w = with_unwritten _ (set_of z c s) w _ (composed.only (set_of z c s) w)
    one_way (set_of z c s) h v w = unwritten (set_of z c s) v _ _ (composed.only (set_of z c s) v)
    one_way (sequence cs e adds) h (fields ps qs) (fields rs ss) =
        let roots = each_component cs ((and_parts _ _ ((and_parts _ _ h).0)).1) in
        let k = fields_alike cs e adds roots (each_component adds ((and_parts _ _ h).1)) ps qs rs ss in
        alike_between (composed.sequences cs e adds ps qs) (composed.sequences cs e adds rs ss) k
    one_way (sequence cs e adds) h (fields ps qs) w = with_unwritten _ (sequence cs e adds) w _ (composed.only (sequence cs e adds) w)
    one_way (sequence cs e adds) h v w = unwritten (sequence cs e adds) v _ _ (composed.only (sequence cs e adds) v)
    one_way (set cs e adds) h (fields ps qs) (fields rs ss) =
        let roots = each_component cs ((and_parts _ _ ((and_parts _ _ h).0)).1) in
        let k = fields_alike cs e adds roots (each_component adds ((and_parts _ _ h).1)) ps qs rs ss in
        alike_between (composed.sets cs e adds ps qs) (composed.sets cs e adds rs ss) k
    one_way (set cs e adds) h (fields ps qs) w = with_unwritten _ (set cs e adds) w _ (composed.only (set cs e adds) w)
    one_way (set cs e adds) h v w = unwritten (set cs e adds) v _ _ (composed.only (set cs e adds) v)
    one_way (group cs) h (fields ps end) (fields rs end) =
        alike_between (composed.groups cs ps) (composed.groups cs rs) (group_alike cs (each_component cs ((and_parts _ _ h).1)) ps rs)
    one_way (group cs) h (fields ps end) w = with_unwritten _ (group cs) w _ (composed.only (group cs) w)
    one_way (group cs) h v w = unwritten (group cs) v _ _ (composed.only (group cs) v)
    one_way (choice roots e adds) h v w =
        let first = each_alternative roots ((and_parts _ _ ((and_parts _ _ h).0)).1) in
        alike.choices roots e adds h first (each_alternative adds ((and_parts _ _ h).1)) v w
    one_way s h v w = alike.leaves s refl v w

    each_component : (cs : Components) → are_lawful cs ≡ true → EachComponent (λ o s. Way s) cs
    each_component no_component h = tt
    each_component (component t o s cs) h = (one_way s ((and_parts _ _ ((and_parts _ _ h).0)).1), each_component cs ((and_parts _ _ h).1))

    each_alternative : (others : Alternatives) → are_lawful_alternatives others ≡ true → EachAlternative (λ s. OneWayIn R free s) others
    each_alternative no_alternative h = tt
    each_alternative (alternative t s others) h =
        (one_way s ((and_parts _ _ ((and_parts _ _ h).0)).1), each_alternative others ((and_parts _ _ h).1))
