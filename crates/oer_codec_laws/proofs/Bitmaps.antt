-- Sequences with an extension marker, as a reader finds them: what a bitmap says of the type's additions and of
-- unknown ones.
use Rattle.std.proofs.Common.{◌≡◌, ◌⊎◌, inl, inr, ℕ, suc, not, Bool, true, false, cond, IsTrue, List, [], ◌∷◌, ◌++◌, length, drop, Option, Some, None, refl, ap, sym, ◌∙◌, subst}
use Rattle.std.proofs.lemmas.List.{append-nil}
use Rattle.asn1_model.specs.Value.{Parts, end, absent, present}
use Rattle.asn1_model.specs.Schema.{Components, no_component, component}
use Rattle.asn1_model.specs.Normal.{is_required, presence_bits}
use Rattle.asn1_model.specs.Form.{both, varied, given, only_if, joined, Bitmap, is_any_present, present_ones, covered_by, Reads}
use Rattle.std.specs.Prelude.{is_some}
use Rattle.asn1_model.specs.Oer
use Rattle.asn1_model.proofs.Forms.{map_parts}
use Rattle.asn1_laws_fronts.proofs.OerNumbers.{counted_alike}
use Rattle.asn1_laws_fronts.proofs.Additions as adding
use Rattle.asn1_schema_laws.specs.Records.{additions_begin}
use Rattle.asn1_schema_laws.specs.Presents.{root_records, added_records, optional_count, component_count}
use Rattle.asn1_schema_laws.specs.Chains.{Chain}
use Rattle.oer_codec_laws.specs.Takes.{State, Scope, components, added, Front, Found, Begins, unknown_forms, Skips}
use Rattle.asn1_schema_reading_laws.specs.PresenceBits.{preamble_bits, first_bits, is_any_set}
use Rattle.asn1_schema_reading_laws.proofs.Alike.{LikeParts}
use Rattle.asn1_schema_reading_laws.proofs.Bitmaps.{Octets, flags, any_set, none_flags, flags_none, none_of, covers, counted_flags}
use Rattle.asn1_schema_reading_laws.proofs.Bitmaps as bitmaps
use Rattle.oer_codec_laws.proofs.Anywhere.{Moves, EachMoves, AllMove, moves_both, components_move, additions_move, joined_moves, each_unknown_moves, counted_bits_move}
use Rattle.oer_codec_laws.proofs.Fronts.{Step, nothing_front, of_nothing, split, join, varied_in, varied_out, given_in, given_out, if_in, if_out, let_through, from_state, from_scopes}
use Rattle.oer_codec_laws.proofs.Parts.{EachFinds, EachShows}
use Rattle.oer_codec_laws.proofs.Sequences.{Closed, begun_in, begun_out, added_in, added_out}

abbrev Forms : Type 0
Forms = List (Option Oer.OctetForm)

abbrev Told : Forms → Forms → Type 0
Told xs all = bitmaps.Told (λ os. Oer.counted os) xs all

module _ (free : Oer.Freedom → Bool) where
  told_of : (b : Bitmap) (xs all : Forms) → covered_by (λ os. Oer.counted os) b xs ≡ Some all → Told xs all
  told_of b xs all e = bitmaps.told_of free (λ os. Oer.counted os) (λ os ps. counted_alike free os ps) b xs all e

  -- ---- texts in sequence
  append_moves : (xs : Forms) (ys : List Oer.OctetForm) → EachMoves free xs → Moves free (joined ys) → Moves free (joined (present_ones xs ++ ys))
  append_moves [] ys h k = k
  append_moves (None ∷ xs) ys h k = append_moves xs ys h k
  append_moves (Some x ∷ xs) ys h k = moves_both free h.0 (append_moves xs ys h.1 k)

  append_join : (xs : Forms) (ys : List Oer.OctetForm) → EachMoves free xs → Moves free (joined ys) → (os mid rest : List ℕ) →
      Front free (joined (present_ones xs)) os mid → Front free (joined ys) mid rest → Front free (joined (present_ones xs ++ ys)) os rest
  append_join [] ys h k os mid rest f g = subst (λ l. Front free (joined ys) l rest) (of_nothing free os mid f) g
  append_join (None ∷ xs) ys h k os mid rest f g = append_join xs ys h k os mid rest f g
  append_join (Some x ∷ xs) ys h k os mid rest f g =
      let q = split free x (joined (present_ones xs)) (joined_moves free xs h.1) os mid f in
      join free x (joined (present_ones xs ++ ys)) (append_moves xs ys h.1 k) os q.0 rest q.1 (append_join xs ys h.1 k q.0 mid rest q.2 g)

  append_split : (xs : Forms) (ys : List Oer.OctetForm) → EachMoves free xs → Moves free (joined ys) → (os rest : List ℕ) →
      Front free (joined (present_ones xs ++ ys)) os rest → (mid : List ℕ) × Front free (joined (present_ones xs)) os mid × Front free (joined ys) mid rest
  append_split [] ys h k os rest f = (os, nothing_front free os, f)
  append_split (None ∷ xs) ys h k os rest f = append_split xs ys h k os rest f
  append_split (Some x ∷ xs) ys h k os rest f =
      let q = split free x (joined (present_ones xs ++ ys)) (append_moves xs ys h.1 k) os rest f in
      let r = append_split xs ys h.1 k q.0 rest q.2 in
      (r.0, join free x (joined (present_ones xs)) (joined_moves free xs h.1) os q.0 r.0 q.1 r.1, r.2)

  -- ---- a bitmap with a bit set, or none
  shown_in : (t : Bool) (x : Oer.OctetForm) (os rest : List ℕ) → (t ≡ true) ⊎ IsTrue (free Oer.empty_bitmap) → Front free x os rest →
      Front free (cond t x (varied Oer.empty_bitmap false (λ e. only_if e x))) os rest
  shown_in true x os rest d f = f
  shown_in false x os rest (inl e) f = cc
  shown_in false x os rest (inr d) f = varied_in free {c = Oer.empty_bitmap} (λ e. only_if e x) true d os rest f

  shown_out : (t : Bool) (x : Oer.OctetForm) (os rest : List ℕ) → Front free (cond t x (varied Oer.empty_bitmap false (λ e. only_if e x))) os rest →
      ((t ≡ true) ⊎ IsTrue (free Oer.empty_bitmap)) × Front free x os rest
  unfolding Reads
  shown_out true x os rest f = (inl refl, f)
  shown_out false x os rest f =
      let r = f.has_form in
      let q = let_through free Oer.empty_bitmap r.0 x 0 f.text r.1 r.2 in
      (inr q.0, record { text = f.text; has_form = q.1; in_front = f.in_front })

  -- what a reader finds for such a form
  abbrev Without : List Bool → Oer.OctetForm → Forms → List ℕ → List ℕ → Type 0
  Without ms y xs os rest = (mid : List ℕ) × (is_any_present xs ≡ false) × Front free (Oer.preamble (false ∷ ms)) os mid × Front free y mid rest

  abbrev With : List Bool → Oer.OctetForm → Forms → List ℕ → List ℕ → Type 0
  With ms y xs os rest = (us : Octets) × (bs : List Bool) × (o1 : List ℕ) × (o2 : List ℕ) × (o3 : List ℕ) × (o4 : List ℕ) ×
      (flags xs ≡ first_bits (length xs) bs) × (flags (unknown_forms us) ≡ drop (length xs) bs) ×
      ((is_any_set bs ≡ true) ⊎ IsTrue (free Oer.empty_bitmap)) × Front free (Oer.preamble (true ∷ ms)) os o1 × Front free y o1 o2 ×
      Front free (Oer.counted_bits bs) o2 o3 × Front free (joined (present_ones xs)) o3 o4 × Front free (joined (present_ones (unknown_forms us))) o4 rest

  -- ---- the whole
  module _ (ms : List Bool) (y : Oer.OctetForm) (moves : Moves free y) (other : IsTrue (free Oer.other_bitmap)) where
    -- no bitmap
    without_in : (xs : Forms) → is_any_present xs ≡ false → (os mid rest : List ℕ) → Front free (Oer.preamble (false ∷ ms)) os mid →
        Front free y mid rest → Front free (Oer.sequence_form true ms y xs) os rest
    unfolding Oer.sequence_form Oer.bitmapped
    without_in xs e os mid rest f g = varied_in free {c = Oer.other_bitmap} (λ b. Oer.bitmapped ms y xs b) None other os rest
        (if_in free (not (is_any_present xs)) (both (Oer.preamble (false ∷ ms)) y) os rest (ap not e) (join free (Oer.preamble (false ∷ ms)) y moves os mid rest f g))

    -- with one
    with_in : (xs : Forms) → EachMoves free xs → (us : Octets) (bs : List Bool) → flags xs ≡ first_bits (length xs) bs →
        flags (unknown_forms us) ≡ drop (length xs) bs → (is_any_set bs ≡ true) ⊎ IsTrue (free Oer.empty_bitmap) → (os o1 o2 o3 o4 rest : List ℕ) →
        Front free (Oer.preamble (true ∷ ms)) os o1 → Front free y o1 o2 → Front free (Oer.counted_bits bs) o2 o3 →
        Front free (joined (present_ones xs)) o3 o4 → Front free (joined (present_ones (unknown_forms us))) o4 rest → Front free (Oer.sequence_form true ms y xs) os rest
    unfolding Oer.sequence_form Oer.bitmapped Oer.with_additions Oer.additions
    with_in xs h us bs e e' t os o1 o2 o3 o4 rest f g i j k =
        let c = covers (λ os. Oer.counted os) xs us bs e e' in
        let all : Forms = c.1 in
        let ys : List Oer.OctetForm = present_ones (unknown_forms us) in
        let uk : Moves free (joined ys) = joined_moves free (unknown_forms us) (each_unknown_moves free us) in
        let a1 : Front free (joined (present_ones all)) o3 rest = subst (λ l. Front free (joined l) o3 rest) (sym c.4) (append_join xs ys h uk o3 o4 rest j k) in
        let am : Moves free (joined (present_ones all)) = subst (λ l. Moves free (joined l)) (sym c.4) (append_moves xs ys h uk) in
        let bits : Front free (Oer.counted_bits (flags all)) o2 o3 = subst (λ l. Front free (Oer.counted_bits l) o2 o3) (sym c.3) i in
        let a2 = join free (Oer.counted_bits (flags all)) (joined (present_ones all)) am o2 o3 rest bits a1 in
        let m2 = moves_both free (counted_bits_move free (flags all)) am in
        let a3 = join free y (both (Oer.counted_bits (flags all)) (joined (present_ones all))) m2 o1 o2 rest g a2 in
        let a4 = join free (Oer.preamble (true ∷ ms)) (both y (both (Oer.counted_bits (flags all)) (joined (present_ones all)))) (moves_both free moves m2) os o1 rest f a3 in
        let set : (is_any_present all ≡ true) ⊎ IsTrue (free Oer.empty_bitmap) = as_any t (ap is_any_set (sym c.3) ∙ any_set all) in
        varied_in free {c = Oer.other_bitmap} (λ b. Oer.bitmapped ms y xs b) (Some c.0) other os rest
        (given_in free (covered_by (λ os. Oer.counted os) c.0 xs) (λ l.
        cond (is_any_present l) (Oer.with_additions ms y l) (varied Oer.empty_bitmap false (λ e. only_if e (Oer.with_additions ms y l)))) all c.2
        os rest (shown_in (is_any_present all) (Oer.with_additions ms y all) os rest set a4))
      where
        as_any : {all : Bool} {bs : Bool} → (bs ≡ true) ⊎ IsTrue (free Oer.empty_bitmap) → bs ≡ all → (all ≡ true) ⊎ IsTrue (free Oer.empty_bitmap)
        as_any (inl e) h = inl (sym h ∙ e)
        as_any (inr e) h = inr e

    with_out : (xs : Forms) → EachMoves free xs → (all : Forms) → Told xs all → (is_any_present all ≡ true) ⊎ IsTrue (free Oer.empty_bitmap) →
        (os rest : List ℕ) → Front free (Oer.with_additions ms y all) os rest → With ms y xs os rest
    unfolding Oer.with_additions Oer.additions
    with_out xs h all t set os rest f =
        let ys : List Oer.OctetForm = present_ones (unknown_forms t.0) in
        let uk : Moves free (joined ys) = joined_moves free (unknown_forms t.0) (each_unknown_moves free t.0) in
        let am : Moves free (joined (present_ones all)) = subst (λ l. Moves free (joined l)) (sym t.3) (append_moves xs ys h uk) in
        let m2 = moves_both free (counted_bits_move free (flags all)) am in
        let q = split free (Oer.preamble (true ∷ ms)) (both y (both (Oer.counted_bits (flags all)) (joined (present_ones all)))) (moves_both free moves m2) os rest f in
        let r = split free y (both (Oer.counted_bits (flags all)) (joined (present_ones all))) m2 q.0 rest q.2 in
        let s = split free (Oer.counted_bits (flags all)) (joined (present_ones all)) am r.0 rest r.2 in
        let u = append_split xs ys h uk s.0 rest (subst (λ l. Front free (joined l) s.0 rest) t.3 s.2) in
        (t.0, flags all, q.0, r.0, s.0, u.0, t.1, t.2, as_set set, q.1, r.1, s.1, u.1, u.2)
      where
        as_set : (is_any_present all ≡ true) ⊎ IsTrue (free Oer.empty_bitmap) → (is_any_set (flags all) ≡ true) ⊎ IsTrue (free Oer.empty_bitmap)
        as_set (inl e) = inl (any_set all ∙ e)
        as_set (inr e) = inr e

    by_bitmap : (xs : Forms) → EachMoves free xs → (b : Option Bitmap) (os rest : List ℕ) → Front free (Oer.bitmapped ms y xs b) os rest → Without ms y xs os rest ⊎ With ms y xs os rest
    unfolding Oer.bitmapped
    by_bitmap xs h None os rest f =
        let t = if_out free (not (is_any_present xs)) (both (Oer.preamble (false ∷ ms)) y) os rest f in
        let q = split free (Oer.preamble (false ∷ ms)) y moves os rest t.1 in
        inl (q.0, adding.no_any (is_any_present xs) t.0, q.1, q.2)
    by_bitmap xs h (Some b) os rest f =
        let t = given_out free (covered_by (λ os. Oer.counted os) b xs)
        (λ l. cond (is_any_present l) (Oer.with_additions ms y l) (varied Oer.empty_bitmap false (λ e. only_if e (Oer.with_additions ms y l)))) os rest f in
        let q = shown_out (is_any_present t.0) (Oer.with_additions ms y t.0) os rest t.2 in
        inr (with_out xs h t.0 (told_of b xs t.0 t.1) q.0 os rest q.1)

    read_out : (xs : Forms) → EachMoves free xs → (os rest : List ℕ) → Front free (Oer.sequence_form true ms y xs) os rest → Without ms y xs os rest ⊎ With ms y xs os rest
    unfolding Oer.sequence_form
    read_out xs h os rest f = let q = varied_out free {c = Oer.other_bitmap} (λ b. Oer.bitmapped ms y xs b) os rest f in by_bitmap xs h q.0 os rest q.1

  -- ---- from the extension marker on
  unless_kept : (q : Bool) (o : Option Forms) (xs : Forms) → cond q None o ≡ Some xs → o ≡ Some xs
  unless_kept true o xs e = cc
  unless_kept false o xs e = e

  pub additions_long : (cs : Components) (qs : Parts) (xs : Forms) → Oer.addition_forms cs qs ≡ Some xs → length xs ≡ component_count cs
  unfolding Oer.addition_forms
  additions_long no_component end xs e = let z : xs ≡ [] = cc in rw z refl
  additions_long no_component (absent qs) xs e = cc
  additions_long no_component (present v qs) xs e = cc
  additions_long (component t o s cs) end xs e = cc
  additions_long (component t o s cs) (absent qs) xs e =
      let p = map_parts (Oer.addition_forms cs qs) (λ l. None ∷ l) xs (unless_kept (is_required o) _ xs e) in
      ap length (sym p.2) ∙ ap suc (additions_long cs qs p.0 p.1)
  additions_long (component t o s cs) (present v qs) xs e =
      let p = map_parts (Oer.addition_forms cs qs) (λ l. Some (Oer.spelled o s v (Oer.open_type (Oer.form s v))) ∷ l) xs e in
      ap length (sym p.2) ∙ ap suc (additions_long cs qs p.0 p.1)

  all_move : (o : Option Forms) → AllMove free o → (xs : Forms) → o ≡ Some xs → EachMoves free xs
  all_move o h xs e = let t : AllMove free (Some xs) = subst (λ p. AllMove free p) e h in t

  -- the form of a sequence with an extension marker, by its presence bits and its root
  abbrev pub Extensible : Components → Parts → List Bool → Oer.OctetForm → Oer.OctetForm
  Extensible adds qs ms y = given (Oer.addition_forms adds qs) (Oer.sequence_form true ms y)

  module _ (other : IsTrue (free Oer.other_bitmap)) (adds : Components) (ha : EachFinds free adds) (qs : Parts) where
    extensible_in : (ms : List Bool) (y : Oer.OctetForm) → Moves free y →
        (x : Option Bool) (more : List Bool) (os mid o2 : List ℕ) (k : List Scope) (b : State) → is_some x ≡ true →
        Front free (Oer.preamble (preamble_bits x (ms ++ more))) os mid → Front free y mid o2 →
        Chain (Step free) (additions_begin (component_count adds) ∷ added_records adds qs) (o2, components x more ∷ k) b → Front free (Extensible adds qs ms y) os b.0 × (b.1 ≡ k)
    extensible_in ms y moves None more os mid o2 k b e f g c = cc
    extensible_in ms y moves (Some true) (z ∷ more) os mid o2 k b e f g c = absurd c.1
    extensible_in ms y moves (Some false) (z ∷ more) os mid o2 k b e f g c = absurd c.1
    extensible_in ms y moves (Some false) [] os mid o2 k b e f g c =
        let n : ℕ = component_count adds in
        let r = (added_in free adds ha qs [] k b (first_bits n []) o2) (from_state free (added_records adds qs) c.0 b o2 (added (first_bits n []) [] ∷ k) c.1 c.2) in
        let none : is_any_present r.0 ≡ false = flags_none r.0 n r.3 in
        let p = none_flags r.0 none in
        let a1 : r.1 ≡ o2 = of_nothing free o2 r.1 (subst (λ l. Front free (joined l) o2 r.1) p.1 r.4) in
        let skipped : Front free (joined (present_ones (unknown_forms r.5.0))) r.1 b.0 = r.5.2 in
        let u : r.5.0 ≡ [] = none_of (λ os. Oer.counted os) r.5.0 r.5.1 in
        let a2 : b.0 ≡ r.1 = of_nothing free r.1 b.0 (subst (λ l. Front free (joined (present_ones (unknown_forms l))) r.1 b.0) u skipped) in
        let f' : Front free (Oer.preamble (false ∷ ms)) os mid = subst (λ l. Front free (Oer.preamble (false ∷ l)) os mid) (append-nil ms) f in
        let g' : Front free y mid b.0 = subst (λ l. Front free y mid l) (sym (a2 ∙ a1)) g in
        (given_in free (Oer.addition_forms adds qs) (Oer.sequence_form true ms y) r.0 r.2 os b.0 (without_in ms y moves other r.0 none os mid b.0 f' g'), r.6)
    extensible_in ms y moves (Some true) [] os mid o2 k b e f g c =
        let n : ℕ = component_count adds in
        let bs : List Bool = c.1.0 in
        let m : State = c.0 in
        let r = (added_in free adds ha qs (drop n bs) k b (first_bits n bs) m.0) (from_scopes free (added_records adds qs) m b (added (first_bits n bs) (drop n bs) ∷ k) c.1.3 c.2) in
        let l : length r.0 ≡ n = counted_flags r.0 n bs r.3 in
        let e1 : flags r.0 ≡ first_bits (length r.0) bs = r.3 ∙ ap (λ i. first_bits i bs) (sym l) in
        let e2 : flags (unknown_forms r.5.0) ≡ drop (length r.0) bs = r.5.1 ∙ ap (λ i. drop i bs) (sym l) in
        let f' : Front free (Oer.preamble (true ∷ ms)) os mid = subst (λ l. Front free (Oer.preamble (true ∷ l)) os mid) (append-nil ms) f in
        let h : EachMoves free r.0 = all_move (Oer.addition_forms adds qs) (additions_move free adds qs) r.0 r.2 in
        (given_in free (Oer.addition_forms adds qs) (Oer.sequence_form true ms y) r.0 r.2 os b.0 (with_in ms y moves other r.0 h r.5.0 bs e1 e2 c.1.1 os mid o2 m.0 r.1 b.0 f' g c.1.2 r.4 r.5.2), r.6)

    pub extended_in : (cs : Components) → EachFinds free cs → (ps : Parts) (a m b : State) → Begins free true (optional_count cs) a m →
        Chain (Step free) (root_records cs ps (additions_begin (component_count adds) ∷ added_records adds qs)) m b →
        Found free (Extensible adds qs (presence_bits cs ps) (Oer.component_forms cs ps)) a b
    extended_in cs h ps a m b t c =
        let o = begun_in free true cs h ps (additions_begin (component_count adds) ∷ added_records adds qs) a m b t c in
        extensible_in (presence_bits cs ps) (Oer.component_forms cs ps) (components_move free cs ps) o.0 o.1 a.0 o.2 o.3 a.1 b o.4 o.5 o.6 o.7

  module _ (other : IsTrue (free Oer.other_bitmap)) (adds : Components) (ha : EachShows free adds) (qs : Parts) where
    -- what is held at the extension marker, with additions like these
    abbrev AtExtensionBit : List Bool → Oer.OctetForm → List ℕ → List Scope → State → Type 0
    AtExtensionBit ms y os k b = (ss : Parts) × (x : Option Bool) × (mid : List ℕ) × (o2 : List ℕ) × LikeParts adds qs ss × (is_some x ≡ true) ×
        Front free (Oer.preamble (preamble_bits x ms)) os mid × Front free y mid o2 × Chain (Step free) (additions_begin (component_count adds) ∷ added_records adds ss) (o2, components x [] ∷ k) b

    no_unknown : (os : List ℕ) → Skips free [] os os
    no_unknown os = ([], refl, nothing_front free os)

    at_extension_bit : (ms : List Bool) (y : Oer.OctetForm) (xs : Forms) → Oer.addition_forms adds qs ≡ Some xs →
        (os : List ℕ) (k : List Scope) (b : State) → b.1 ≡ k → Without ms y xs os b.0 ⊎ With ms y xs os b.0 → AtExtensionBit ms y os k b
    at_extension_bit ms y xs e os k b scopes (inl w) =
        let n : ℕ = component_count adds in
        let l : length xs ≡ n = additions_long adds qs xs e in
        let p = none_flags xs w.1 in
        let fl : flags xs ≡ first_bits n [] = p.0 ∙ ap (λ i. first_bits i []) l in
        let texts : Front free (joined (present_ones xs)) b.0 b.0 = subst (λ l. Front free (joined l) b.0 b.0) (sym p.1) (nothing_front free b.0) in
        let r = added_out free adds ha qs (first_bits n []) [] b.0 k b (xs, b.0, e, fl, texts, no_unknown b.0, scopes) in
        (r.0, Some false, w.0, b.0, r.1, refl, w.2, w.3, ((b.0, added (first_bits n []) [] ∷ k), refl, r.2))
    at_extension_bit ms y xs e os k b scopes (inr w) =
        let n : ℕ = component_count adds in
        let bs : List Bool = w.1 in
        let l : length xs ≡ n = additions_long adds qs xs e in
        let e1 : flags xs ≡ first_bits n bs = w.6 ∙ ap (λ i. first_bits i bs) l in
        let e2 : flags (unknown_forms w.0) ≡ drop n bs = w.7 ∙ ap (λ i. drop i bs) l in
        let r = added_out free adds ha qs (first_bits n bs) (drop n bs) w.4 k b (xs, w.5, e, e1, w.12, (w.0, e2, w.13), scopes) in
        (r.0, Some true, w.2, w.3, r.1, refl, w.9, w.10, ((w.4, added (first_bits n bs) (drop n bs) ∷ k), (bs, w.8, w.11, refl), r.2))

    extensible_out : (ms : List Bool) (y : Oer.OctetForm) → Moves free y → (os : List ℕ) (k : List Scope) (b : State) →
        Front free (Extensible adds qs ms y) os b.0 → b.1 ≡ k → AtExtensionBit ms y os k b
    extensible_out ms y moves os k b f scopes =
        let t = given_out free (Oer.addition_forms adds qs) (Oer.sequence_form true ms y) os b.0 f in
        at_extension_bit ms y t.0 t.1 os k b scopes (read_out ms y moves other t.0 (all_move (Oer.addition_forms adds qs) (additions_move free adds qs) t.0 t.1) os b.0 t.2)

    -- ---- SEQUENCE and SET with an extension marker
    pub extended_out : (cs : Components) → EachShows free cs → (ps : Parts) (a b : State) →
        Found free (Extensible adds qs (presence_bits cs ps) (Oer.component_forms cs ps)) a b → (ss : Parts) × LikeParts adds qs ss ×
        Closed free true cs ps (additions_begin (component_count adds) ∷ added_records adds ss) a b
    extended_out cs h ps a b f =
        let t = extensible_out (presence_bits cs ps) (Oer.component_forms cs ps) (components_move free cs ps) a.0 a.1 b f.0 f.1 in
        (t.0, t.4, begun_out free true cs h ps (additions_begin (component_count adds) ∷ added_records adds t.0) a b t.1 t.2 t.3 t.5 t.6 t.7 t.8)
