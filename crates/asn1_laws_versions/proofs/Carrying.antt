-- What one version of a type writes, the other reads, in each rule whose forms are composed as `Composition` says: the
-- older version without the parts that it lacks, the newer one with its further parts absent.
use Rattle.std.specs.Prelude.{ℤ, is_some}
use Rattle.std.proofs.Common.{◌≡◌, ℕ, zero, suc, not, Bool, true, false, cond, ◌&&◌, ◌||◌, IsTrue, List, [], ◌∷◌, ◌++◌}
use Rattle.std.proofs.Common.{length, take, drop, map, Option, Some, None, option_map, refl, ap, sym, ◌∙◌, inl, inr}
use Rattle.std.proofs.Common.{subst, ◌⊎◌}
use Rattle.std.proofs.lemmas.List.{append-nil}
use Rattle.std.proofs.lemmas.Bool.{and_parts}
use Rattle.asn1_model.specs.Value.{Value, item, members, bag, fields, chosen, Values, no_more, member, Parts, end, absent, present, each, are_all}
use Rattle.asn1_model.specs.Schema.{Tag, Counts, Size, Presence, Schema, cut, boolean, null, integer, enumerated}
use Rattle.asn1_model.specs.Schema.{bit_string, octet_string, character_string, object_identifier, sequence_of, set_of}
use Rattle.asn1_model.specs.Schema.{sequence, set, group, choice, Components, no_component, component, Alternatives}
use Rattle.asn1_model.specs.Schema.{no_alternative, alternative}
use Rattle.asn1_model.specs.Normal.{is_at_default, is_group_left_out, presence_bits, is_required, alternative_count, item_place, spelled}
use Rattle.asn1_model.specs.Tidy.{is_normal, are_normal, is_normal_alternative}
use Rattle.asn1_model.specs.Form.{refused, both, varied, written, Reads, only_if, given, ascending, arranged, Bitmap}
use Rattle.asn1_model.specs.Form.{is_any_present, present_ones, covered_by, own_bitmap, stands_before, Freedom, Detail}
use Rattle.asn1_model.specs.Form.{default_spelled_out, empty_group, other_bitmap, other_order}
use Rattle.asn1_model.specs.Versions.{carried, grow, carried_parts, carried_alternative, all_absent, map_each, Begins, Extends, ExtendsEach, ExtendsAlternatives}
use Rattle.asn1_model.proofs.Forms.{chain_parts, map_parts}
use Rattle.asn1_laws_values.proofs.Covers.{Covers, CoversEach, covers_same, covers_eq, covers_refused, covers_both, covers_varied, covers_joined}
use Rattle.asn1_laws_values.proofs.Messages.{some_parts}
use Rattle.asn1_laws_values.proofs.Arranged.{ascending_code, covers_arranged}
use Rattle.asn1_laws_values.proofs.Composition.{FormOf, Pieces, IsComposed, component_forms, addition_forms}
use Rattle.asn1_laws_values.proofs.Composition.{with_additions, by_bits, bitmapped, sequence_form, fields_form}
use Rattle.asn1_laws_values.proofs.Composition.{alternative_form, in_any_order}
use Rattle.asn1_laws_versions.proofs.Extending.{both_parts_parts}
use Rattle.asn1_laws_versions.proofs.Covered.{AreCovered}
use Rattle.asn1_laws_versions.proofs.Keeping.{kept_required, bits_kept, count_kept, place_begins, item_known, unless_required, absent_parts, covered_all, narrow, not_true}

module _ {A : Type 0} (R : Pieces A) (composed : IsComposed R) (covered : AreCovered R) (free : Freedom → Bool) (wide : IsTrue (free other_bitmap)) (mixed : IsTrue (free other_order)) where
  abbrev F : Type 0
  F = FormOf A

  abbrev Sim : F → F → Type 0
  Sim x y = Covers {F = Freedom} {D = Detail} {A = A} free x y

  abbrev SimEach : List F → List F → Type 0
  SimEach xs ys = CoversEach {F = Freedom} {D = Detail} {A = A} free xs ys

  sim_same : {x y : F} → x ≡ y → Sim x y
  sim_same e = covers_eq free e

  sim_itself : (x : F) → Sim x x
  sim_itself x = covers_same free x

  sim_refused : (y : F) → Sim refused y
  sim_refused y = covers_refused free y

  sim_both : {x x' y y' : F} → Sim x x' → Sim y y' → Sim (both x y) (both x' y')
  sim_both h k = covers_both free h k

  sim_between : {x x' y y' : F} → x ≡ x' → Sim x' y' → y' ≡ y → Sim x y
  sim_between {x' = x'} {y = y} e h f = subst (λ z. Sim z y) (sym e) (subst (λ z. Sim x' z) f h)

  -- ---- SET OF
  abbrev SimAll : (List F → F) → Type 0
  SimAll f = (us vs : List F) → SimEach us vs → Sim (f us) (f vs)

  abbrev up : List F → Option (List F)
  up xs = ascending R.key (stands_before R.less) xs

  sim_sorted : (xs ys : List F) (f : List F → F) (o : Option (List F)) → up xs ≡ o → SimEach xs ys → SimAll f →
      Sim (given o f) (in_any_order R ys f)
  unfolding Reads
  sim_sorted xs ys f None e h k = sim_refused (in_any_order R ys f)
  sim_sorted xs ys f (Some us) e h k =
      let c = ascending_code R.key (stands_before R.less) xs us e in
      let a = covers_arranged free c.0 xs ys us h c.1 in
      let g : given (arranged c.0 ys) f ≡ f a.0 = ap (λ (o : Option (List F)). given o f) a.1 in
      let s : Sim (f us) (given (arranged c.0 ys) f) = subst (λ z. Sim (f us) z) (sym g) (k us a.0 a.2) in
      record { reads = λ p w t. (Some c.0, inr mixed, s.reads p w t) }

  order_written : (xs : List F) (f : List F → F) (p : ℕ) (w : List A) →
      written (in_any_order R xs f) p ≡ Some w → written (given (up xs) f) p ≡ Some w
  unfolding written
  order_written xs f p w e = e

  sim_order : (xs ys : List F) (f : List F → F) → SimEach xs ys → SimAll f → Sim (in_any_order R xs f) (in_any_order R ys f)
  sim_order xs ys f h k =
      let s = sim_sorted xs ys f (up xs) refl h k in
      record { reads = λ p w e. s.reads p w (order_written xs f p w e) }

  -- ---- components that are present
  never_written : {x : F} (y : F) → ((p : ℕ) → written x p ≡ None) → Sim x y
  never_written y h = record { reads = λ p w e. let n = h p in cc }

  abbrev by_tests : Bool → Bool → F → F
  by_tests a b x =
      cond a (varied default_spelled_out false (λ t. only_if t x)) (cond b (varied empty_group false (λ t. only_if t x)) x)

  spelled_left_cases : (a b : Bool) (x y : F) → Sim x y → Sim (by_tests a b x) y
  unfolding written
  spelled_left_cases true b x y h = never_written y (λ p. refl)
  spelled_left_cases false true x y h = never_written y (λ p. refl)
  spelled_left_cases false false x y h = h

  abbrev Accepts : Type 0
  Accepts = IsTrue (free default_spelled_out) × IsTrue (free empty_group)

  -- what may be encoded: all, for a reader with that freedom, and else what is not left out
  abbrev MaySpell : Bool → Bool → Type 0
  MaySpell a b = Accepts ⊎ ((a ≡ false) × (b ≡ false))

  -- either the reader accepts what is encoded, or the test says that nothing is
  abbrev Loose : Bool → Type 0
  Loose t = Accepts ⊎ (t ≡ true)

  loose_first : (a b : Bool) → Loose (a && b) → Loose a
  loose_first a b (inl m) = inl m
  loose_first a b (inr e) = inr ((and_parts a b e).0)

  loose_second : (a b : Bool) → Loose (a && b) → Loose b
  loose_second a b (inl m) = inl m
  loose_second a b (inr e) = inr ((and_parts a b e).1)

  loose_spelled : (a b c d : Bool) → Loose (not a && not b && c && d) → MaySpell a b
  loose_spelled a b c d (inl m) = inl m
  loose_spelled a b c d (inr e) =
      let q = and_parts _ _ ((and_parts _ _ ((and_parts _ _ e).0)).0) in
      inr (not_true a q.0, not_true b q.1)

  spelled_right_cases : (a b : Bool) (x y : F) → MaySpell a b → Sim x y → Sim x (by_tests a b y)
  unfolding Reads
  spelled_right_cases true b x y (inl m) h = record { reads = λ p w e. (true, inr (m.0), h.reads p w e) }
  spelled_right_cases false true x y (inl m) h = record { reads = λ p w e. (true, inr (m.1), h.reads p w e) }
  spelled_right_cases false false x y m h = h
  spelled_right_cases true b x y (inr m) h = let e = m.0 in cc
  spelled_right_cases false true x y (inr m) h = let e = m.1 in cc

  sim_spelled_left : (o : Presence) (s : Schema) (v : Value) {x y : F} → Sim x y → Sim (spelled o s v x) y
  unfolding spelled
  sim_spelled_left o s v {x} {y} h = spelled_left_cases (is_at_default o s v) (is_group_left_out s v) x y h

  -- a component of the writer, and the same one of the reader
  sim_spelled : (o o' : Presence) (s s' : Schema) (v u : Value) (c d : Bool) {x y : F} →
      Loose (not (is_at_default o' s' u) && not (is_group_left_out s' u) && c && d) → Sim x y → Sim (spelled o s v x) (spelled o' s' u y)
  unfolding spelled
  sim_spelled o o' s s' v u c d {x} {y} n h =
      let m = loose_spelled (is_at_default o' s' u) (is_group_left_out s' u) c d n in
      sim_spelled_left o s v (spelled_right_cases (is_at_default o' s' u) (is_group_left_out s' u) x y m h)

  -- ---- additions: the reader's first, the writer's second
  abbrev Added : Type 0
  Added = List (Option F)

  abbrev AllCover : Added → Added → Type 0
  AllCover [] [] = Unit {0}
  AllCover (None ∷ xs) (None ∷ ys) = AllCover xs ys
  AllCover (Some x ∷ xs) (Some y ∷ ys) = Sim y x × AllCover xs ys
  AllCover xs ys = ⊥

  all_flags : (xs ys : Added) → AllCover xs ys → map (λ a. is_some a) ys ≡ map (λ a. is_some a) xs
  all_flags [] [] h = refl
  all_flags (None ∷ xs) (None ∷ ys) h = let t = all_flags xs ys h in cc
  all_flags (Some x ∷ xs) (Some y ∷ ys) h = let t = all_flags xs ys h.1 in cc
  all_flags xs ys h = absurd h

  all_any : (xs ys : Added) → AllCover xs ys → is_any_present ys ≡ is_any_present xs
  all_any [] [] h = refl
  all_any (None ∷ xs) (None ∷ ys) h = all_any xs ys h
  all_any (Some x ∷ xs) (Some y ∷ ys) h = refl
  all_any xs ys h = absurd h

  all_present : (xs ys : Added) → AllCover xs ys → SimEach (present_ones ys) (present_ones xs)
  all_present [] [] h = tt
  all_present (None ∷ xs) (None ∷ ys) h = all_present xs ys h
  all_present (Some x ∷ xs) (Some y ∷ ys) h = (h.0, all_present xs ys h.1)
  all_present xs ys h = absurd h

  abbrev unknowns : List (Option (List ℕ)) → Added
  unknowns fs = map (option_map R.counted) fs

  -- those of the reader alone
  all_first : (xs zs ys : Added) → AllCover (xs ++ zs) ys → is_any_present ys ≡ false → is_any_present xs ≡ false
  all_first [] zs ys h e = refl
  all_first (None ∷ xs) zs [] h e = absurd h
  all_first (Some x ∷ xs) zs [] h e = absurd h
  all_first (None ∷ xs) zs (None ∷ ys) h e = all_first xs zs ys h e
  all_first (None ∷ xs) zs (Some y ∷ ys) h e = absurd h
  all_first (Some x ∷ xs) zs (None ∷ ys) h e = absurd h
  all_first (Some x ∷ xs) zs (Some y ∷ ys) h e = cc

  sim_with_additions : (ms : List Bool) (r r' : F) (xs ys : Added) → Sim r' r → AllCover xs ys →
      Sim (with_additions R ms r' ys) (with_additions R ms r xs)
  sim_with_additions ms r r' xs ys h k =
      let bits = sim_same (composed.same_bitmap ys xs (all_flags xs ys k)) in
      sim_both (sim_itself _) (sim_both h (sim_both bits (covers_joined free _ _ (all_present xs ys k))))

  sim_without : (ms : List Bool) (r r' : F) (xs ys : Added) → Sim r' r → is_any_present xs ≡ false → is_any_present ys ≡ false →
      Sim (bitmapped R ms r' ys None) (bitmapped R ms r xs None)
  sim_without ms r r' xs ys h e f =
      let closed : F → F = λ r. both (R.preamble (false ∷ ms)) r in
      let left = ap (λ (t : Bool). only_if {F = Freedom} {D = Detail} (not t) (closed r')) f in
      let right = ap (λ (t : Bool). only_if {F = Freedom} {D = Detail} (not t) (closed r)) e in
      sim_between left (sim_both (sim_itself _) h) (sym right)

  -- with a bitmap, in which some bit is 1
  bitmapped_any : (ms : List Bool) (r : F) (xs all : Added) (b : Bitmap) → covered_by R.counted b xs ≡ Some all →
      is_any_present all ≡ true → bitmapped R ms r xs (Some b) ≡ with_additions R ms r all
  bitmapped_any ms r xs all b e f =
      ap (λ (o : Option Added). given o (λ all. by_bits R ms r all (is_any_present all))) e ∙ ap (λ t. by_bits R ms r all t) f

  own_none : (xs : Added) → is_any_present xs ≡ false → own_bitmap xs ≡ None
  own_none xs e = ap (λ (t : Bool). cond t (Some (record { covered = length xs; further = [] })) None) e

  own_some : (xs : Added) → is_any_present xs ≡ true → own_bitmap xs ≡ Some (record { covered = length xs; further = [] })
  own_some xs e = ap (λ (t : Bool). cond t (Some (record { covered = length xs; further = [] })) None) e

  own_bits : (ms : List Bool) (r : F) (xs : Added) → is_any_present xs ≡ true →
      bitmapped R ms r xs (Some (record { covered = length xs; further = [] })) ≡ with_additions R ms r xs
  own_bits ms r xs e = bitmapped_any ms r xs xs (record { covered = length xs; further = [] }) (covered_all R.counted xs [] ∙ ap Some (append-nil xs)) e

  -- the writer's own bitmap, and one that the reader takes for it
  sim_bitmaps : (ms : List Bool) (r r' : F) (xs ys : Added) (o c : Option Bitmap) → own_bitmap ys ≡ o →
      Sim (bitmapped R ms r' ys o) (bitmapped R ms r xs c) → Sim (sequence_form R true ms r' ys) (sequence_form R true ms r xs)
  sim_bitmaps ms r r' xs ys o c e h =
      covers_varied free c (inr wide) (subst (λ o. Sim (bitmapped R ms r' ys o) (bitmapped R ms r xs c)) (sym e) h)

  -- ---- additions that the reader does not know
  sim_bitmapped : (ms : List Bool) (r r' : F) (xs ys : Added) (fs : List (Option (List ℕ))) → Sim r' r → AllCover (xs ++ unknowns fs) ys →
      (t : Bool) → is_any_present ys ≡ t → Sim (sequence_form R true ms r' ys) (sequence_form R true ms r xs)
  sim_bitmapped ms r r' xs ys fs h k false e =
      sim_bitmaps ms r r' xs ys None None (own_none ys e) (sim_without ms r r' xs ys h (all_first xs (unknowns fs) ys k e) e)
  sim_bitmapped ms r r' xs ys fs h k true e =
      let c : Bitmap = record { covered = length xs; further = fs } in
      let all = xs ++ unknowns fs in
      let right = bitmapped_any ms r xs all c (covered_all R.counted xs fs) (sym (all_any all ys k) ∙ e) in
      let s = sim_between (own_bits ms r' ys e) (sim_with_additions ms r r' all ys h k) (sym right) in
      sim_bitmaps ms r r' xs ys _ (Some c) (own_some ys e) s

  sim_sequence : (e : Bool) (ms : List Bool) (r r' : F) (xs ys : Added) (fs : List (Option (List ℕ))) → Sim r' r →
      AllCover (xs ++ unknowns fs) ys → Sim (sequence_form R e ms r' ys) (sequence_form R e ms r xs)
  sim_sequence false ms r r' xs (y ∷ ys) fs h k = sim_refused _
  sim_sequence false ms r r' [] [] fs h k = sim_both (sim_itself _) h
  sim_sequence false ms r r' (None ∷ xs) [] fs h k = absurd k
  sim_sequence false ms r r' (Some x ∷ xs) [] fs h k = absurd k
  sim_sequence true ms r r' xs ys fs h k = sim_bitmapped ms r r' xs ys fs h k (is_any_present ys) refl

  abbrev cons_some : F → Added → Added
  cons_some x xs = Some x ∷ xs

  abbrev cons_none : Added → Added
  cons_none xs = None ∷ xs

  all_unknown : (cs : Components) (qs : Parts) (ys : Added) → addition_forms R cs qs ≡ Some ys →
      (fs : List (Option (List ℕ))) × AllCover (unknowns fs) ys
  all_unknown no_component end ys e = let h : [] ≡ ys = cc in ([], subst (λ l. AllCover [] l) h tt)
  all_unknown no_component (absent ps) ys e = cc
  all_unknown no_component (present v ps) ys e = cc
  all_unknown (component t o s cs) end ys e = cc
  all_unknown (component t o s cs) (present v ps) ys e =
      let b = map_parts (addition_forms R cs ps) (cons_some (spelled o s v (R.open_type (R.form s v)))) ys e in
      let r = all_unknown cs ps b.0 b.1 in
      let u = covered.unknown free (R.form s v) in
      (Some u.0 ∷ r.0, subst (λ l. AllCover (Some (R.counted u.0) ∷ unknowns r.0) l) b.2 (sim_spelled_left o s v u.1, r.1))
  all_unknown (component t o s cs) (absent ps) ys e =
      let a = unless_required (is_required o) (option_map cons_none (addition_forms R cs ps)) ys e in
      let b = map_parts (addition_forms R cs ps) cons_none ys a.1 in
      let r = all_unknown cs ps b.0 b.1 in
      (None ∷ r.0, subst (λ l. AllCover (None ∷ unknowns r.0) l) b.2 r.1)

  -- the additions of the older version, and then those that it does not know
  abbrev Additions : Components → Parts → Added → Type 0
  Additions cs rs ys =
      (xs : Added) × (fs : List (Option (List ℕ))) × (addition_forms R cs rs ≡ Some xs) × AllCover (xs ++ unknowns fs) ys

  sim_with : (e : Bool) (ms : List Bool) (r r' : F) (cs : Components) (rs : Parts) (o : Option Added) → Sim r' r →
      ((ys : Added) → o ≡ Some ys → Additions cs rs ys) →
      Sim (given o (sequence_form R e ms r')) (given (addition_forms R cs rs) (sequence_form R e ms r))
  sim_with e ms r r' cs rs None h k = sim_refused _
  sim_with e ms r r' cs rs (Some ys) h k =
      let a = k ys refl in
      let right = ap (λ (o : Option Added). given o (sequence_form R e ms r)) a.2 in
      sim_between refl (sim_sequence e ms r r' a.0 ys a.1 h a.3) (sym right)

  -- one more addition
  more_present : (t : List Tag) (o : Presence) (s : Schema) (cs : Components) (w : Value) (rs qs : Parts) (y : F) (ys zs : Added) →
      Sim y (spelled o s w (R.open_type (R.form s w))) → present w rs ≡ qs → cons_some y ys ≡ zs → Additions cs rs ys →
      Additions (component t o s cs) qs zs
  more_present t o s cs w rs qs y ys zs h a b r =
      let x = spelled o s w (R.open_type (R.form s w)) in
      let f : addition_forms R (component t o s cs) (present w rs) ≡ Some (Some x ∷ r.0) = ap (option_map (cons_some x)) r.2 in
      let k = subst (λ l. AllCover (Some x ∷ (r.0 ++ unknowns r.1)) l) b (h, r.3) in
      (Some x ∷ r.0, r.1, ap (addition_forms R (component t o s cs)) (sym a) ∙ f, k)

  none_added : (t : List Tag) (o : Presence) (s : Schema) (cs : Components) (rs qs : Parts) (xs : Added) → is_required o ≡ false →
      absent rs ≡ qs → addition_forms R cs rs ≡ Some xs → addition_forms R (component t o s cs) qs ≡ Some (None ∷ xs)
  none_added t o s cs rs qs xs n a e =
      ap (addition_forms R (component t o s cs)) (sym a)
      ∙ ap (λ b. cond b None (option_map cons_none (addition_forms R cs rs))) n ∙ ap (option_map cons_none) e

  more_absent : (t : List Tag) (o : Presence) (s : Schema) (cs : Components) (rs qs : Parts) (ys zs : Added) → is_required o ≡ false →
      absent rs ≡ qs → cons_none ys ≡ zs → Additions cs rs ys → Additions (component t o s cs) qs zs
  more_absent t o s cs rs qs ys zs n a b r =
      let k = subst (λ l. AllCover (None ∷ (r.0 ++ unknowns r.1)) l) b r.3 in
      (None ∷ r.0, r.1, none_added t o s cs rs qs r.0 n a r.2, k)

  -- the parts of a sequence or a set, put together
  sim_fields : (e e' : Bool) (cs cs' adds adds' : Components) (ps rs ss qs : Parts) → e ≡ e' → presence_bits cs' ps ≡ presence_bits cs rs →
      Sim (component_forms R cs' ps) (component_forms R cs rs) → ((ys : Added) → addition_forms R adds' ss ≡ Some ys → Additions adds qs ys) →
      Sim (fields_form R cs' e' adds' ps ss) (fields_form R cs e adds rs qs)
  sim_fields e e' cs cs' adds adds' ps rs ss qs a m h k =
      let o = addition_forms R adds' ss in
      let form : Bool → List Bool → F = λ e ms. given o (sequence_form R e ms (component_forms R cs' ps)) in
      let left = ap (λ e. form e (presence_bits cs' ps)) (sym a) ∙ ap (λ ms. form e ms) m in
      sim_between left (sim_with e (presence_bits cs rs) (component_forms R cs rs) (component_forms R cs' ps) adds qs o h k) refl

  -- ---- further additions of the reader, all absent
  abbrev Behind : Added → Added → Type 0
  Behind ys [] = is_any_present ys ≡ false
  Behind (None ∷ ys) (None ∷ xs) = Behind ys xs
  Behind (Some y ∷ ys) (Some x ∷ xs) = Sim x y × Behind ys xs
  Behind ys xs = ⊥

  behind_cover : (ys xs : Added) → Behind ys xs → AllCover (take (length xs) ys) xs
  behind_cover ys [] h = tt
  behind_cover [] (x ∷ xs) h = absurd h
  behind_cover (None ∷ ys) (None ∷ xs) h = behind_cover ys xs h
  behind_cover (None ∷ ys) (Some x ∷ xs) h = absurd h
  behind_cover (Some y ∷ ys) (None ∷ xs) h = absurd h
  behind_cover (Some y ∷ ys) (Some x ∷ xs) h = (h.0, behind_cover ys xs h.1)

  behind_none : (ys xs : Added) → Behind ys xs → is_any_present (drop (length xs) ys) ≡ false
  behind_none ys [] h = h
  behind_none [] (x ∷ xs) h = absurd h
  behind_none (None ∷ ys) (None ∷ xs) h = behind_none ys xs h
  behind_none (None ∷ ys) (Some x ∷ xs) h = absurd h
  behind_none (Some y ∷ ys) (None ∷ xs) h = absurd h
  behind_none (Some y ∷ ys) (Some x ∷ xs) h = behind_none ys xs h.1

  behind_any : (ys xs : Added) → Behind ys xs → is_any_present xs ≡ false → is_any_present ys ≡ false
  behind_any ys [] h e = h
  behind_any [] (x ∷ xs) h e = absurd h
  behind_any (None ∷ ys) (None ∷ xs) h e = behind_any ys xs h e
  behind_any (None ∷ ys) (Some x ∷ xs) h e = absurd h
  behind_any (Some y ∷ ys) (None ∷ xs) h e = absurd h
  behind_any (Some y ∷ ys) (Some x ∷ xs) h e = cc

  grown_bitmapped : (ms : List Bool) (r r' : F) (xs ys : Added) → Sim r r' → Behind ys xs → (t : Bool) → is_any_present xs ≡ t →
      Sim (sequence_form R true ms r xs) (sequence_form R true ms r' ys)
  grown_bitmapped ms r r' xs ys h k false e =
      sim_bitmaps ms r' r ys xs None None (own_none xs e) (sim_without ms r' r ys xs h (behind_any ys xs k e) e)
  grown_bitmapped ms r r' xs ys h k true e =
      let b : Bitmap = record { covered = length xs; further = [] } in
      let first = take (length xs) ys in
      let c = behind_cover ys xs k in
      let right = bitmapped_any ms r' ys first b (narrow R.counted (length xs) ys (behind_none ys xs k)) (sym (all_any first xs c) ∙ e) in
      let s = sim_between (own_bits ms r xs e) (sim_with_additions ms r' r first xs h c) (sym right) in
      sim_bitmaps ms r' r ys xs _ (Some b) (own_some xs e) s

  -- where the type has no extension marker, the newer one has no further additions
  grown_sequence : (e : Bool) (ms : List Bool) (r r' : F) (xs ys : Added) → Sim r r' → Behind ys xs → (e ≡ false → length ys ≡ length xs) →
      Sim (sequence_form R e ms r xs) (sequence_form R e ms r' ys)
  grown_sequence false ms r r' (x ∷ xs) ys h k n = sim_refused _
  grown_sequence false ms r r' [] [] h k n = sim_both (sim_itself _) h
  grown_sequence false ms r r' [] (y ∷ ys) h k n = let l = n refl in cc
  grown_sequence true ms r r' xs ys h k n = grown_bitmapped ms r r' xs ys h k (is_any_present xs) refl

  -- the additions of the newer version
  abbrev Grown : Bool → Components → Parts → Added → Type 0
  Grown more cs qs xs =
      (ys : Added) × (addition_forms R cs qs ≡ Some ys) × Behind ys xs × (more ≡ false → length ys ≡ length xs)

  absent_additions : (cs : Components) (qs : Parts) → all_absent cs ≡ Some qs →
      (ys : Added) × (addition_forms R cs qs ≡ Some ys) × (is_any_present ys ≡ false)
  absent_additions no_component qs e = ([], ap (λ q. addition_forms R no_component q) (sym (some_parts e)), refl)
  absent_additions (component t o s cs) qs e =
      let a = absent_parts cs qs o t s e in
      let r = absent_additions cs a.1.0 a.1.1 in
      (None ∷ r.0, none_added t o s cs a.1.0 qs r.0 a.0 a.1.2 r.1, r.2)

  grown_with : (e : Bool) (ms : List Bool) (r r' : F) (cs' : Components) (qs : Parts) (o : Option Added) → Sim r r' →
      ((xs : Added) → o ≡ Some xs → Grown e cs' qs xs) →
      Sim (given o (sequence_form R e ms r)) (given (addition_forms R cs' qs) (sequence_form R e ms r'))
  grown_with e ms r r' cs' qs None h k = sim_refused _
  grown_with e ms r r' cs' qs (Some xs) h k =
      let a = k xs refl in
      let right = ap (λ (o : Option Added). given o (sequence_form R e ms r')) a.1 in
      sim_between refl (grown_sequence e ms r r' xs a.0 h a.2 a.3) (sym right)

  grown_fields : (e e' : Bool) (cs cs' adds adds' : Components) (ps rs ss qs : Parts) → e ≡ e' → presence_bits cs ps ≡ presence_bits cs' rs →
      Sim (component_forms R cs ps) (component_forms R cs' rs) → ((xs : Added) → addition_forms R adds ss ≡ Some xs → Grown e adds' qs xs) →
      Sim (fields_form R cs e adds ps ss) (fields_form R cs' e' adds' rs qs)
  grown_fields e e' cs cs' adds adds' ps rs ss qs a m h k =
      let o = addition_forms R adds' qs in
      let form : Bool → List Bool → F = λ e ms. given o (sequence_form R e ms (component_forms R cs' rs)) in
      let right = ap (λ e. form e (presence_bits cs ps)) a ∙ ap (λ ms. form e' ms) m in
      sim_between refl (grown_with e (presence_bits cs ps) (component_forms R cs ps) (component_forms R cs' rs) adds' qs (addition_forms R adds ss) h k) right

  grown_present : (more : Bool) (t : List Tag) (o : Presence) (s : Schema) (cs : Components) (w : Value) (rs qs : Parts) (x : F) (xs zs : Added) →
      Sim x (spelled o s w (R.open_type (R.form s w))) → present w rs ≡ qs → cons_some x xs ≡ zs → Grown more cs rs xs →
      Grown more (component t o s cs) qs zs
  grown_present more t o s cs w rs qs x xs zs h a b r =
      let y = spelled o s w (R.open_type (R.form s w)) in
      let f : addition_forms R (component t o s cs) (present w rs) ≡ Some (Some y ∷ r.0) = ap (option_map (cons_some y)) r.1 in
      let k = subst (λ l. Behind (Some y ∷ r.0) l) b (h, r.2) in
      (Some y ∷ r.0, ap (addition_forms R (component t o s cs)) (sym a) ∙ f, k, λ m. ap suc (r.3 m) ∙ ap length b)

  grown_absent : (more : Bool) (t : List Tag) (o : Presence) (s : Schema) (cs : Components) (rs qs : Parts) (xs zs : Added) →
      is_required o ≡ false → absent rs ≡ qs → cons_none xs ≡ zs → Grown more cs rs xs → Grown more (component t o s cs) qs zs
  grown_absent more t o s cs rs qs xs zs n a b r =
      let k = subst (λ l. Behind (None ∷ r.0) l) b r.2 in
      (None ∷ r.0, none_added t o s cs rs qs r.0 n a r.1, k, λ m. ap suc (r.3 m) ∙ ap length b)

  -- ---- elements
  sim_each : (f f' : Value → F) (g : Value → Option Value) (test : Value → Bool) (vs ws : Values) →
      ((v u : Value) → g v ≡ Some u → Loose (test u) → Sim (f' v) (f u)) → map_each g vs ≡ Some ws → Loose (are_all test ws) →
      SimEach (each f' vs) (each f ws)
  sim_each f f' g test no_more ws h e m = let a : no_more ≡ ws = cc in subst (λ w. SimEach [] (each f w)) a tt
  sim_each f f' g test (member v vs) ws h e m =
      let a = chain_parts (g v) (λ u. option_map (λ us. member u us) (map_each g vs)) ws e in
      let b = map_parts (map_each g vs) (λ us. member a.0 us) ws a.2 in
      let n : Loose (test a.0 && are_all test b.0) = subst (λ w. Loose (are_all test w)) (sym b.2) m in
      let first = h v a.0 a.1 (loose_first _ _ n) in
      subst (λ w. SimEach (each f' (member v vs)) (each f w)) b.2 (first, sim_each f f' g test vs b.0 h b.1 (loose_second _ _ n))

  sim_list : (z z' : Size) (c c' : Counts) (us vs : List F) → z ≡ z' → c ≡ c' → SimEach us vs → Sim (R.list_form z' c' us) (R.list_form z c vs)
  sim_list z z' c c' us vs a b h =
      let left = ap (λ z. R.list_form z c' us) (sym a) ∙ ap (λ c. R.list_form z c us) (sym b) in
      sim_between left (covered.keeps_list free z c us vs h) refl

  sim_bag : (z z' : Size) (c c' : Counts) (us vs : List F) → z ≡ z' → c ≡ c' → SimEach us vs →
      Sim (in_any_order R us (R.list_form z' c')) (in_any_order R vs (R.list_form z c))
  sim_bag z z' c c' us vs a b h =
      let left = ap (λ z. in_any_order R us (R.list_form z c')) (sym a) ∙ ap (λ c. in_any_order R us (R.list_form z c)) (sym b) in
      sim_between left (sim_order us vs (R.list_form z c) h (λ us vs k. covered.keeps_list free z c us vs k)) refl

  -- ---- items
  abbrev Items : List ℤ → Bool → List ℤ → ℤ → F
  Items roots e adds n = R.item_form n (length roots) e (item_place n roots) (item_place n adds)

  -- in both versions: an item of the root, or one that the older version has
  sim_item : (n : ℤ) (k : ℕ) (e : Bool) (o p p' : Option ℕ) → (is_some o || is_some p) ≡ true → ((i : ℕ) → p ≡ Some i → p' ≡ Some i) →
      R.item_form n k e o p' ≡ R.item_form n k e o p
  sim_item n k e (Some i) p p' h m = composed.root_items n k e i p' p
  sim_item n k e None None p' h m = cc
  sim_item n k e None (Some i) p' h m = ap (λ p. R.item_form n k e None p) (m i refl)

  grown_item : (n : ℤ) (k : ℕ) (e : Bool) (o p p' : Option ℕ) → ((i : ℕ) → p ≡ Some i → p' ≡ Some i) →
      Sim (R.item_form n k e o p) (R.item_form n k e o p')
  grown_item n k e (Some i) p p' m = sim_same (composed.root_items n k e i p p')
  grown_item n k false None p p' m = sim_between (composed.no_marker n k p) (sim_refused _) refl
  grown_item n k true None None p' m = sim_between (composed.no_item n k) (sim_refused _) refl
  grown_item n k true None (Some i) p' m = sim_same (ap (λ p. R.item_form n k true None p) (sym (m i refl)))

  item_there : (b : Bool) (v u : Value) → cond b (Some v) None ≡ Some u → b ≡ true
  item_there true v u e = refl
  item_there false v u e = cc

  abbrev Alike : List ℤ → List ℤ → Bool → Bool → List ℤ → List ℤ → Type 0
  Alike roots roots' e e' adds adds' = (roots ≡ roots') × (e ≡ e') × Begins adds adds'

  sim_enumerated : (roots roots' : List ℤ) (e e' : Bool) (adds adds' : List ℤ) (n : ℤ) (u : Value) → Alike roots roots' e e' adds adds' →
      cond (is_some (item_place n roots) || is_some (item_place n adds)) (Some (item n)) None ≡ Some u →
      Sim (R.form (enumerated roots' e' adds') (item n)) (R.form (enumerated roots e adds) u)
  sim_enumerated roots roots' e e' adds adds' n u h q =
      let b = is_some (item_place n roots) || is_some (item_place n adds) in
      let kept = sim_item n (length roots) e (item_place n roots) _ _ (item_there b (item n) u q) (λ i p. place_begins n adds adds' i h.2 p) in
      let left = ap (λ rs. Items rs e' adds' n) (sym h.0) ∙ ap (λ e. Items roots e adds' n) (sym h.1) in
      let right = sym (composed.items roots e adds n) ∙ ap (λ v. R.form (enumerated roots e adds) v) (item_known b (item n) u q) in
      sim_same (composed.items roots' e' adds' n ∙ left ∙ kept ∙ right)

  grown_enumerated : (roots roots' : List ℤ) (e e' : Bool) (adds adds' : List ℤ) (n : ℤ) → Alike roots roots' e e' adds adds' →
      Sim (R.form (enumerated roots e adds) (item n)) (R.form (enumerated roots' e' adds') (item n))
  grown_enumerated roots roots' e e' adds adds' n h =
      let right = ap (λ rs. Items rs e adds' n) h.0 ∙ ap (λ e. Items roots' e adds' n) h.1 in
      let kept = grown_item n (length roots) e (item_place n roots) (item_place n adds) (item_place n adds') (λ i p. place_begins n adds adds' i h.2 p) in
      sim_between (composed.items roots e adds n) kept (right ∙ sym (composed.items roots' e' adds' n))

  -- ---- by recursion over the versions
  sim_kind : (s s' : Schema) (v u : Value) → s ≡ s' → v ≡ u → Sim (R.form s' v) (R.form s u)
  sim_kind s s' v u a b = sim_same (ap (λ s. R.form s v) (sym a) ∙ ap (λ v. R.form s v) b)

  sim_absent : (b b' : Bool) (x y : F) → b' ≡ b → Sim x y → Sim (cond b' refused x) (cond b refused y)
  sim_absent b true x y e h = sim_refused _
  sim_absent true false x y e h = cc
  sim_absent false false x y e h = h

  -- a value of another kind than the type's
  unwritten : (s : Schema) (v : Value) (y : F) → R.form s v ≡ refused → Sim (R.form s v) y
  unwritten s v y e = sim_between e (sim_refused y) refl

  list_case : (z z' : Size) (c c' : Counts) (s s' : Schema) (vs ws : Values) (u : Value) → z ≡ z' → c ≡ c' → members ws ≡ u →
      SimEach (each (λ v. R.form s v) vs) (each (λ v. R.form s' v) ws) →
      Sim (R.form (sequence_of z c s) (members vs)) (R.form (sequence_of z' c' s') u)
  list_case z z' c c' s s' vs ws u a b q k =
      let right = sym (composed.lists z' c' s' ws) ∙ ap (λ v. R.form (sequence_of z' c' s') v) q in
      sim_between (composed.lists z c s vs) (sim_list z' z c' c _ _ (sym a) (sym b) k) right

  bag_case : (z z' : Size) (c c' : Counts) (s s' : Schema) (vs ws : Values) (u : Value) → z ≡ z' → c ≡ c' → bag ws ≡ u →
      SimEach (each (λ v. R.form s v) vs) (each (λ v. R.form s' v) ws) →
      Sim (R.form (set_of z c s) (bag vs)) (R.form (set_of z' c' s') u)
  bag_case z z' c c' s s' vs ws u a b q k =
      let right = sym (composed.bags z' c' s' ws) ∙ ap (λ v. R.form (set_of z' c' s') v) q in
      sim_between (composed.bags z c s vs) (sim_bag z' z c' c _ _ (sym a) (sym b) k) right

  sequence_case : (e e' : Bool) (cs cs' adds adds' : Components) (ps rs ss qs : Parts) (u : Value) → fields rs qs ≡ u →
      Sim (fields_form R cs e adds ps ss) (fields_form R cs' e' adds' rs qs) →
      Sim (R.form (sequence cs e adds) (fields ps ss)) (R.form (sequence cs' e' adds') u)
  sequence_case e e' cs cs' adds adds' ps rs ss qs u q k =
      let right = sym (composed.sequences cs' e' adds' rs qs) ∙ ap (λ v. R.form (sequence cs' e' adds') v) q in
      sim_between (composed.sequences cs e adds ps ss) k right

  set_case : (e e' : Bool) (cs cs' adds adds' : Components) (ps rs ss qs : Parts) (u : Value) → fields rs qs ≡ u →
      Sim (fields_form R cs e adds ps ss) (fields_form R cs' e' adds' rs qs) →
      Sim (R.form (set cs e adds) (fields ps ss)) (R.form (set cs' e' adds') u)
  set_case e e' cs cs' adds adds' ps rs ss qs u q k =
      let right = sym (composed.sets cs' e' adds' rs qs) ∙ ap (λ v. R.form (set cs' e' adds') v) q in
      sim_between (composed.sets cs e adds ps ss) k right

  group_case : (cs cs' : Components) (ps rs qs : Parts) (u : Value) → presence_bits cs ps ≡ presence_bits cs' rs → end ≡ qs →
      fields rs qs ≡ u → Sim (component_forms R cs ps) (component_forms R cs' rs) →
      Sim (R.form (group cs) (fields ps end)) (R.form (group cs') u)
  group_case cs cs' ps rs qs u m d q k =
      let same = ap (λ q. fields rs q) d ∙ q in
      let right = sym (composed.groups cs' rs) ∙ ap (λ v. R.form (group cs') v) same in
      sim_between (composed.groups cs ps) (sim_both (sim_same (ap (λ l. R.preamble l) m)) k) right

  root_case : (others others' adds adds' : Alternatives) (e e' : Bool) (i : ℕ) (v w u : Value) → e ≡ e' →
      alternative_count others ≡ alternative_count others' → chosen false i w ≡ u →
      Sim (alternative_form R false others i v) (alternative_form R false others' i w) →
      Sim (R.form (choice others e adds) (chosen false i v)) (R.form (choice others' e' adds') u)
  root_case others others' adds adds' e e' i v w u a b q k =
      let x = alternative_form R false others' i w in
      let kept = covered.keeps_root e (alternative_count others) i free _ _ k in
      let count = ap (λ n. R.root_form e n i x) b ∙ ap (λ e. R.root_form e (alternative_count others') i x) a in
      let right = sym (composed.roots others' e' adds' i w) ∙ ap (λ v. R.form (choice others' e' adds') v) q in
      sim_between (composed.roots others e adds i v) kept (count ∙ right)

  added_case : (others others' adds adds' : Alternatives) (i : ℕ) (v w u : Value) → chosen true i w ≡ u →
      Sim (alternative_form R true adds i v) (alternative_form R true adds' i w) →
      Sim (R.form (choice others true adds) (chosen true i v)) (R.form (choice others' true adds') u)
  added_case others others' adds adds' i v w u q k =
      let right = sym (composed.added others' adds' i w) ∙ ap (λ v. R.form (choice others' true adds') v) q in
      sim_between (composed.added others adds i v) (covered.keeps_added i free _ _ k) right

  mutual
    unfolding is_normal are_normal is_normal_alternative Extends ExtendsEach ExtendsAlternatives carried carried_parts carried_alternative

    -- what the newer version writes, the older one reads
    pub dropped : (s s' : Schema) (v u : Value) → Extends s s' → carried false s s' v ≡ Some u → Loose (is_normal s u) →
        Sim (R.form s' v) (R.form s u)
    dropped cut cut v u h e l = sim_kind cut cut v u refl (some_parts e)
    dropped boolean boolean v u h e l = sim_kind boolean boolean v u refl (some_parts e)
    dropped null null v u h e l = sim_kind null null v u refl (some_parts e)
    dropped object_identifier object_identifier v u h e l = sim_kind object_identifier object_identifier v u refl (some_parts e)
    dropped (integer b c) (integer b' c') v u h e l =
        sim_kind (integer b c) (integer b' c') v u (let x = h.0 in let y = h.1 in cc) (some_parts e)
    dropped (bit_string z c) (bit_string z' c') v u h e l =
        sim_kind (bit_string z c) (bit_string z' c') v u (let x = h.0 in let y = h.1 in cc) (some_parts e)
    dropped (octet_string z c) (octet_string z' c') v u h e l =
        sim_kind (octet_string z c) (octet_string z' c') v u (let x = h.0 in let y = h.1 in cc) (some_parts e)
    dropped (character_string k z a c) (character_string k' z' a' c') v u h e l =
        sim_kind (character_string k z a c) (character_string k' z' a' c') v u
        (let x = h.0 in let y = h.1 in let w = h.2 in let q = h.3 in cc) (some_parts e)
    dropped (enumerated rs m as_) (enumerated rs' m' as_') (item n) u h e l = sim_enumerated rs rs' m m' as_ as_' n u h e
    dropped (enumerated rs m as_) (enumerated rs' m' as_') v u h e l =
        unwritten (enumerated rs' m' as_') v _ (composed.only (enumerated rs' m' as_') v)
    dropped (sequence_of z c s) (sequence_of z' c' s') (members vs) u h e l =
        let q = map_parts (map_each (λ v. carried false s s' v) vs) members u e in
        let n = subst (λ u. Loose (is_normal (sequence_of z c s) u)) (sym q.2) l in
        let k = sim_each (λ v. R.form s v) (λ v. R.form s' v) (λ v. carried false s s' v) (λ v. is_normal s v) vs q.0
        (λ v u e n. dropped s s' v u h.2 e n) q.1 n in
        list_case z' z c' c s' s vs q.0 u (sym h.0) (sym h.1) q.2 k
    dropped (sequence_of z c s) (sequence_of z' c' s') v u h e l =
        unwritten (sequence_of z' c' s') v _ (composed.only (sequence_of z' c' s') v)
    dropped (set_of z c s) (set_of z' c' s') (bag vs) u h e l =
        let q = map_parts (map_each (λ v. carried false s s' v) vs) bag u e in
        let n = subst (λ u. Loose (is_normal (set_of z c s) u)) (sym q.2) l in
        let k = sim_each (λ v. R.form s v) (λ v. R.form s' v) (λ v. carried false s s' v) (λ v. is_normal s v) vs q.0
        (λ v u e n. dropped s s' v u h.2 e n) q.1 n in
        bag_case z' z c' c s' s vs q.0 u (sym h.0) (sym h.1) q.2 k
    dropped (set_of z c s) (set_of z' c' s') v u h e l =
        unwritten (set_of z' c' s') v _ (composed.only (set_of z' c' s') v)
    dropped (sequence cs m adds) (sequence cs' m' adds') (fields ps qs) u h e l =
        let b = both_parts_parts (carried_parts false cs cs' ps) (carried_parts false adds adds' qs) u e in
        let n : Loose (are_normal cs b.0 && are_normal adds b.1) = subst (λ u. Loose (is_normal (sequence cs m adds) u)) (sym b.4) l in
        let root = dropped_components cs cs' ps b.0 h.0 b.2 (loose_first _ _ n) in
        let k = sim_fields m m' cs cs' adds adds' ps b.0 qs b.1 h.1 (bits_kept false cs cs' ps b.0 h.0 b.2) root
        (λ ys f. dropped_additions m adds adds' qs b.1 ys h.2 b.3 (loose_second _ _ n) f) in
        sequence_case m' m cs' cs adds' adds ps b.0 qs b.1 u b.4 k
    dropped (sequence cs m adds) (sequence cs' m' adds') v u h e l =
        unwritten (sequence cs' m' adds') v _ (composed.only (sequence cs' m' adds') v)
    dropped (set cs m adds) (set cs' m' adds') (fields ps qs) u h e l =
        let b = both_parts_parts (carried_parts false cs cs' ps) (carried_parts false adds adds' qs) u e in
        let n : Loose (are_normal cs b.0 && are_normal adds b.1) = subst (λ u. Loose (is_normal (set cs m adds) u)) (sym b.4) l in
        let root = dropped_components cs cs' ps b.0 h.0 b.2 (loose_first _ _ n) in
        let k = sim_fields m m' cs cs' adds adds' ps b.0 qs b.1 h.1 (bits_kept false cs cs' ps b.0 h.0 b.2) root
        (λ ys f. dropped_additions m adds adds' qs b.1 ys h.2 b.3 (loose_second _ _ n) f) in
        set_case m' m cs' cs adds' adds ps b.0 qs b.1 u b.4 k
    dropped (set cs m adds) (set cs' m' adds') v u h e l =
        unwritten (set cs' m' adds') v _ (composed.only (set cs' m' adds') v)
    dropped (group cs) (group cs') (fields ps end) u h e l =
        let b = both_parts_parts (carried_parts false cs cs' ps) (Some end) u e in
        let n = subst (λ u. Loose (is_normal (group cs) u)) (sym b.4) l in
        group_case cs' cs ps b.0 b.1 u (bits_kept false cs cs' ps b.0 h b.2) (some_parts b.3) b.4
        (dropped_components cs cs' ps b.0 h b.2 n)
    dropped (group cs) (group cs') v u h e l = unwritten (group cs') v _ (composed.only (group cs') v)
    dropped (choice roots m adds) (choice roots' m' adds') (chosen false i v) u h e l =
        let q = map_parts (carried_alternative false roots roots' i v) (λ w. chosen false i w) u e in
        let n = subst (λ u. Loose (is_normal (choice roots m adds) u)) (sym q.2) l in
        root_case roots' roots adds' adds m' m i v q.0 u (sym h.1) (count_kept roots roots' h.0) q.2
        (dropped_alternative false false roots roots' i v q.0 h.0 q.1 n)
    dropped (choice roots m adds) (choice roots' false adds') (chosen true i v) u h e l =
        unwritten (choice roots' false adds') (chosen true i v) _ (composed.only (choice roots' false adds') (chosen true i v))
    dropped (choice roots false adds) (choice roots' true adds') (chosen true i v) u h e l = let q = h.1 in cc
    dropped (choice roots true adds) (choice roots' true adds') (chosen true i v) u h e l =
        let q = map_parts (carried_alternative false adds adds' i v) (λ w. chosen true i w) u e in
        let n = subst (λ u. Loose (is_normal (choice roots true adds) u)) (sym q.2) l in
        added_case roots' roots adds' adds i v q.0 u q.2 (dropped_alternative true true adds adds' i v q.0 h.2 q.1 n)
    dropped (choice roots m adds) (choice roots' m' adds') v u h e l =
        unwritten (choice roots' m' adds') v _ (composed.only (choice roots' m' adds') v)
    dropped s s' v u h e l = absurd h

    dropped_components : (cs cs' : Components) (ps qs : Parts) → ExtendsEach false cs cs' → carried_parts false cs cs' ps ≡ Some qs →
        Loose (are_normal cs qs) → Sim (component_forms R cs' ps) (component_forms R cs qs)
    dropped_components no_component no_component end qs h e l = sim_same (ap (λ q. component_forms R no_component q) (some_parts e))
    dropped_components no_component no_component ps qs h e l = sim_refused _
    dropped_components no_component (component t' o' s' cs') ps qs h e l = absurd h
    dropped_components (component t o s cs) no_component ps qs h e l = absurd h
    dropped_components (component t o s cs) (component t' o' s' cs') end qs h e l = cc
    dropped_components (component t o s cs) (component t' o' s' cs') (present v ps) qs h e l =
        let a = chain_parts (carried false s s' v) (λ w. option_map (λ rs. present w rs) (carried_parts false cs cs' ps)) qs e in
        let b = map_parts (carried_parts false cs cs' ps) (λ rs. present a.0 rs) qs a.2 in
        let n = subst (λ q. Loose (are_normal (component t o s cs) q)) (sym b.2) l in
        let first = dropped s s' v a.0 h.2 a.1 (loose_second _ _ (loose_first _ _ n)) in
        let others = dropped_components cs cs' ps b.0 h.3 b.1 (loose_second _ _ n) in
        sim_between refl (sim_both (sim_spelled o' o s' s v a.0 _ _ n first) others) (ap (λ q. component_forms R (component t o s cs) q) b.2)
    dropped_components (component t o s cs) (component t' o' s' cs') (absent ps) qs h e l =
        let b = map_parts (carried_parts false cs cs' ps) absent qs e in
        let n = subst (λ q. Loose (are_normal (component t o s cs) q)) (sym b.2) l in
        let k = sim_absent (is_required o) (is_required o') _ _ (kept_required s s' o o' h.1) (dropped_components cs cs' ps b.0 h.3 b.1 n) in
        sim_between refl k (ap (λ q. component_forms R (component t o s cs) q) b.2)

    dropped_additions : (more : Bool) (cs cs' : Components) (ps qs : Parts) (ys : Added) → ExtendsEach more cs cs' →
        carried_parts false cs cs' ps ≡ Some qs → Loose (are_normal cs qs) → addition_forms R cs' ps ≡ Some ys → Additions cs qs ys
    dropped_additions more no_component cs' ps qs ys h e l f =
        let r = all_unknown cs' ps ys f in
        ([], r.0, ap (λ q. addition_forms R no_component q) (sym (some_parts e)), r.1)
    dropped_additions more (component t o s cs) no_component ps qs ys h e l f = absurd h
    dropped_additions more (component t o s cs) (component t' o' s' cs') end qs ys h e l f = cc
    dropped_additions more (component t o s cs) (component t' o' s' cs') (present v ps) qs ys h e l f =
        let a = chain_parts (carried false s s' v) (λ w. option_map (λ rs. present w rs) (carried_parts false cs cs' ps)) qs e in
        let b = map_parts (carried_parts false cs cs' ps) (λ rs. present a.0 rs) qs a.2 in
        let c = map_parts (addition_forms R cs' ps) (cons_some (spelled o' s' v (R.open_type (R.form s' v)))) ys f in
        let n = subst (λ q. Loose (are_normal (component t o s cs) q)) (sym b.2) l in
        let first = covered.keeps_open free _ _ (dropped s s' v a.0 h.2 a.1 (loose_second _ _ (loose_first _ _ n))) in
        let others = dropped_additions more cs cs' ps b.0 c.0 h.3 b.1 (loose_second _ _ n) c.1 in
        more_present t o s cs a.0 b.0 qs _ c.0 ys (sim_spelled o' o s' s v a.0 _ _ n first) b.2 c.2 others
    dropped_additions more (component t o s cs) (component t' o' s' cs') (absent ps) qs ys h e l f =
        let b = map_parts (carried_parts false cs cs' ps) absent qs e in
        let a = unless_required (is_required o') (option_map cons_none (addition_forms R cs' ps)) ys f in
        let c = map_parts (addition_forms R cs' ps) cons_none ys a.1 in
        let n = subst (λ q. Loose (are_normal (component t o s cs) q)) (sym b.2) l in
        let others = dropped_additions more cs cs' ps b.0 c.0 h.3 b.1 n c.1 in
        more_absent t o s cs b.0 qs c.0 ys (sym (kept_required s s' o o' h.1) ∙ a.0) b.2 c.2 others

    dropped_alternative : (added more : Bool) (others others' : Alternatives) (i : ℕ) (v u : Value) → ExtendsAlternatives more others others' →
        carried_alternative false others others' i v ≡ Some u → Loose (is_normal_alternative others i u) →
        Sim (alternative_form R added others' i v) (alternative_form R added others i u)
    dropped_alternative added more no_alternative others' i v u h e l = cc
    dropped_alternative added more (alternative t s others) no_alternative i v u h e l = absurd h
    dropped_alternative added more (alternative t s others) (alternative t' s' others') zero v u h e l =
        let left = ap (λ t. R.tagged added t (R.form s' v)) (sym h.0) in
        sim_between left (covered.keeps_tagged added t free _ _ (dropped s s' v u h.1 e l)) refl
    dropped_alternative added more (alternative t s others) (alternative t' s' others') (suc i) v u h e l =
        dropped_alternative added more others others' i v u h.2 e l

  mutual
    unfolding is_normal are_normal is_normal_alternative Extends ExtendsEach ExtendsAlternatives carried carried_parts carried_alternative

    -- what the older version writes, the newer one reads
    pub grown : (s s' : Schema) (v u : Value) → Extends s s' → grow s s' v ≡ Some u → Loose (is_normal s' u) →
        Sim (R.form s v) (R.form s' u)
    grown cut cut v u h e l = sim_kind cut cut v u refl (some_parts e)
    grown boolean boolean v u h e l = sim_kind boolean boolean v u refl (some_parts e)
    grown null null v u h e l = sim_kind null null v u refl (some_parts e)
    grown object_identifier object_identifier v u h e l = sim_kind object_identifier object_identifier v u refl (some_parts e)
    grown (integer b c) (integer b' c') v u h e l =
        sim_kind (integer b' c') (integer b c) v u (let x = h.0 in let y = h.1 in cc) (some_parts e)
    grown (bit_string z c) (bit_string z' c') v u h e l =
        sim_kind (bit_string z' c') (bit_string z c) v u (let x = h.0 in let y = h.1 in cc) (some_parts e)
    grown (octet_string z c) (octet_string z' c') v u h e l =
        sim_kind (octet_string z' c') (octet_string z c) v u (let x = h.0 in let y = h.1 in cc) (some_parts e)
    grown (character_string k z a c) (character_string k' z' a' c') v u h e l =
        sim_kind (character_string k' z' a' c') (character_string k z a c) v u
        (let x = h.0 in let y = h.1 in let w = h.2 in let q = h.3 in cc) (some_parts e)
    grown (enumerated rs m as_) (enumerated rs' m' as_') (item n) u h e l =
        let right = ap (λ v. R.form (enumerated rs' m' as_') v) (some_parts e) in
        sim_between refl (grown_enumerated rs rs' m m' as_ as_' n h) right
    grown (enumerated rs m as_) (enumerated rs' m' as_') v u h e l =
        unwritten (enumerated rs m as_) v _ (composed.only (enumerated rs m as_) v)
    grown (sequence_of z c s) (sequence_of z' c' s') (members vs) u h e l =
        let q = map_parts (map_each (λ v. grow s s' v) vs) members u e in
        let n = subst (λ u. Loose (is_normal (sequence_of z' c' s') u)) (sym q.2) l in
        let k = sim_each (λ v. R.form s' v) (λ v. R.form s v) (λ v. grow s s' v) (λ v. is_normal s' v) vs q.0
        (λ v u e n. grown s s' v u h.2 e n) q.1 n in
        list_case z z' c c' s s' vs q.0 u h.0 h.1 q.2 k
    grown (sequence_of z c s) (sequence_of z' c' s') v u h e l =
        unwritten (sequence_of z c s) v _ (composed.only (sequence_of z c s) v)
    grown (set_of z c s) (set_of z' c' s') (bag vs) u h e l =
        let q = map_parts (map_each (λ v. grow s s' v) vs) bag u e in
        let n = subst (λ u. Loose (is_normal (set_of z' c' s') u)) (sym q.2) l in
        let k = sim_each (λ v. R.form s' v) (λ v. R.form s v) (λ v. grow s s' v) (λ v. is_normal s' v) vs q.0
        (λ v u e n. grown s s' v u h.2 e n) q.1 n in
        bag_case z z' c c' s s' vs q.0 u h.0 h.1 q.2 k
    grown (set_of z c s) (set_of z' c' s') v u h e l = unwritten (set_of z c s) v _ (composed.only (set_of z c s) v)
    grown (sequence cs m adds) (sequence cs' m' adds') (fields ps qs) u h e l =
        let b = both_parts_parts (carried_parts true cs cs' ps) (carried_parts true adds adds' qs) u e in
        let n : Loose (are_normal cs' b.0 && are_normal adds' b.1) = subst (λ u. Loose (is_normal (sequence cs' m' adds') u)) (sym b.4) l in
        let root = grown_components cs cs' ps b.0 h.0 b.2 (loose_first _ _ n) in
        let k = grown_fields m m' cs cs' adds adds' ps b.0 qs b.1 h.1 (bits_kept true cs cs' ps b.0 h.0 b.2) root
        (λ xs f. grown_additions m adds adds' qs b.1 xs h.2 b.3 (loose_second _ _ n) f) in
        sequence_case m m' cs cs' adds adds' ps b.0 qs b.1 u b.4 k
    grown (sequence cs m adds) (sequence cs' m' adds') v u h e l =
        unwritten (sequence cs m adds) v _ (composed.only (sequence cs m adds) v)
    grown (set cs m adds) (set cs' m' adds') (fields ps qs) u h e l =
        let b = both_parts_parts (carried_parts true cs cs' ps) (carried_parts true adds adds' qs) u e in
        let n : Loose (are_normal cs' b.0 && are_normal adds' b.1) = subst (λ u. Loose (is_normal (set cs' m' adds') u)) (sym b.4) l in
        let root = grown_components cs cs' ps b.0 h.0 b.2 (loose_first _ _ n) in
        let k = grown_fields m m' cs cs' adds adds' ps b.0 qs b.1 h.1 (bits_kept true cs cs' ps b.0 h.0 b.2) root
        (λ xs f. grown_additions m adds adds' qs b.1 xs h.2 b.3 (loose_second _ _ n) f) in
        set_case m m' cs cs' adds adds' ps b.0 qs b.1 u b.4 k
    grown (set cs m adds) (set cs' m' adds') v u h e l = unwritten (set cs m adds) v _ (composed.only (set cs m adds) v)
    grown (group cs) (group cs') (fields ps end) u h e l =
        let b = both_parts_parts (carried_parts true cs cs' ps) (Some end) u e in
        let n = subst (λ u. Loose (is_normal (group cs') u)) (sym b.4) l in
        group_case cs cs' ps b.0 b.1 u (bits_kept true cs cs' ps b.0 h b.2) (some_parts b.3) b.4
        (grown_components cs cs' ps b.0 h b.2 n)
    grown (group cs) (group cs') v u h e l = unwritten (group cs) v _ (composed.only (group cs) v)
    grown (choice roots m adds) (choice roots' m' adds') (chosen false i v) u h e l =
        let q = map_parts (carried_alternative true roots roots' i v) (λ w. chosen false i w) u e in
        let n = subst (λ u. Loose (is_normal (choice roots' m' adds') u)) (sym q.2) l in
        root_case roots roots' adds adds' m m' i v q.0 u h.1 (sym (count_kept roots roots' h.0)) q.2
        (grown_alternative false false roots roots' i v q.0 h.0 q.1 n)
    grown (choice roots false adds) (choice roots' m' adds') (chosen true i v) u h e l =
        unwritten (choice roots false adds) (chosen true i v) _ (composed.only (choice roots false adds) (chosen true i v))
    grown (choice roots true adds) (choice roots' false adds') (chosen true i v) u h e l = let q = h.1 in cc
    grown (choice roots true adds) (choice roots' true adds') (chosen true i v) u h e l =
        let q = map_parts (carried_alternative true adds adds' i v) (λ w. chosen true i w) u e in
        let n = subst (λ u. Loose (is_normal (choice roots' true adds') u)) (sym q.2) l in
        added_case roots roots' adds adds' i v q.0 u q.2 (grown_alternative true true adds adds' i v q.0 h.2 q.1 n)
    grown (choice roots m adds) (choice roots' m' adds') v u h e l =
        unwritten (choice roots m adds) v _ (composed.only (choice roots m adds) v)
    grown s s' v u h e l = absurd h

    grown_components : (cs cs' : Components) (ps qs : Parts) → ExtendsEach false cs cs' → carried_parts true cs cs' ps ≡ Some qs →
        Loose (are_normal cs' qs) → Sim (component_forms R cs ps) (component_forms R cs' qs)
    grown_components no_component no_component end qs h e l = sim_same (ap (λ q. component_forms R no_component q) (some_parts e))
    grown_components no_component no_component ps qs h e l = sim_refused _
    grown_components no_component (component t' o' s' cs') ps qs h e l = absurd h
    grown_components (component t o s cs) no_component ps qs h e l = absurd h
    grown_components (component t o s cs) (component t' o' s' cs') end qs h e l = cc
    grown_components (component t o s cs) (component t' o' s' cs') (present v ps) qs h e l =
        let a = chain_parts (grow s s' v) (λ w. option_map (λ rs. present w rs) (carried_parts true cs cs' ps)) qs e in
        let b = map_parts (carried_parts true cs cs' ps) (λ rs. present a.0 rs) qs a.2 in
        let n = subst (λ q. Loose (are_normal (component t' o' s' cs') q)) (sym b.2) l in
        let first = grown s s' v a.0 h.2 a.1 (loose_second _ _ (loose_first _ _ n)) in
        let others = grown_components cs cs' ps b.0 h.3 b.1 (loose_second _ _ n) in
        sim_between refl (sim_both (sim_spelled o o' s s' v a.0 _ _ n first) others) (ap (λ q. component_forms R (component t' o' s' cs') q) b.2)
    grown_components (component t o s cs) (component t' o' s' cs') (absent ps) qs h e l =
        let b = map_parts (carried_parts true cs cs' ps) absent qs e in
        let n = subst (λ q. Loose (are_normal (component t' o' s' cs') q)) (sym b.2) l in
        let k = sim_absent (is_required o') (is_required o) _ _ (sym (kept_required s s' o o' h.1)) (grown_components cs cs' ps b.0 h.3 b.1 n) in
        sim_between refl k (ap (λ q. component_forms R (component t' o' s' cs') q) b.2)

    grown_additions : (more : Bool) (cs cs' : Components) (ps qs : Parts) (xs : Added) → ExtendsEach more cs cs' →
        carried_parts true cs cs' ps ≡ Some qs → Loose (are_normal cs' qs) → addition_forms R cs ps ≡ Some xs → Grown more cs' qs xs
    grown_additions more no_component cs' (absent ps) qs xs h e l f = cc
    grown_additions more no_component cs' (present v ps) qs xs h e l f = cc
    grown_additions more no_component no_component end qs xs h e l f =
        let a : [] ≡ xs = some_parts f in
        let b : end ≡ qs = some_parts e in
        ([], ap (λ q. addition_forms R no_component q) (sym b), subst (λ l. Behind [] l) a refl, λ m. ap length a)
    grown_additions false no_component (component t' o' s' cs') end qs xs h e l f = absurd h
    grown_additions true no_component (component t' o' s' cs') end qs xs h e l f =
        let a : [] ≡ xs = some_parts f in
        let r = absent_additions (component t' o' s' cs') qs e in
        (r.0, r.1, subst (λ l. Behind r.0 l) a r.2, λ m. cc)
    grown_additions more (component t o s cs) no_component ps qs xs h e l f = absurd h
    grown_additions more (component t o s cs) (component t' o' s' cs') end qs xs h e l f = cc
    grown_additions more (component t o s cs) (component t' o' s' cs') (present v ps) qs xs h e l f =
        let a = chain_parts (grow s s' v) (λ w. option_map (λ rs. present w rs) (carried_parts true cs cs' ps)) qs e in
        let b = map_parts (carried_parts true cs cs' ps) (λ rs. present a.0 rs) qs a.2 in
        let c = map_parts (addition_forms R cs ps) (cons_some (spelled o s v (R.open_type (R.form s v)))) xs f in
        let n = subst (λ q. Loose (are_normal (component t' o' s' cs') q)) (sym b.2) l in
        let first = covered.keeps_open free _ _ (grown s s' v a.0 h.2 a.1 (loose_second _ _ (loose_first _ _ n))) in
        let others = grown_additions more cs cs' ps b.0 c.0 h.3 b.1 (loose_second _ _ n) c.1 in
        grown_present more t' o' s' cs' a.0 b.0 qs _ c.0 xs (sim_spelled o o' s s' v a.0 _ _ n first) b.2 c.2 others
    grown_additions more (component t o s cs) (component t' o' s' cs') (absent ps) qs xs h e l f =
        let b = map_parts (carried_parts true cs cs' ps) absent qs e in
        let a = unless_required (is_required o) (option_map cons_none (addition_forms R cs ps)) xs f in
        let c = map_parts (addition_forms R cs ps) cons_none xs a.1 in
        let n = subst (λ q. Loose (are_normal (component t' o' s' cs') q)) (sym b.2) l in
        let others = grown_additions more cs cs' ps b.0 c.0 h.3 b.1 n c.1 in
        grown_absent more t' o' s' cs' b.0 qs c.0 xs (kept_required s s' o o' h.1 ∙ a.0) b.2 c.2 others

    grown_alternative : (added more : Bool) (others others' : Alternatives) (i : ℕ) (v u : Value) → ExtendsAlternatives more others others' →
        carried_alternative true others others' i v ≡ Some u → Loose (is_normal_alternative others' i u) →
        Sim (alternative_form R added others i v) (alternative_form R added others' i u)
    grown_alternative added more no_alternative others' i v u h e l = sim_refused _
    grown_alternative added more (alternative t s others) no_alternative i v u h e l = absurd h
    grown_alternative added more (alternative t s others) (alternative t' s' others') zero v u h e l =
        let right = ap (λ t. R.tagged added t (R.form s' u)) h.0 in
        sim_between refl (covered.keeps_tagged added t free _ _ (grown s s' v u h.1 e l)) right
    grown_alternative added more (alternative t s others) (alternative t' s' others') (suc i) v u h e l =
        grown_alternative added more others others' i v u h.2 e l
