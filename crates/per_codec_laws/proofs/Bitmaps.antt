-- Sequences with an extension bit, as a reader finds them: what a bitmap says of the type's additions and of unknown
-- ones.
use Rattle.std.proofs.Common.{◌≡◌, ◌⊎◌, inl, inr, ℕ, suc, not, Bool, true, false, cond, IsTrue, List, [], ◌∷◌, ◌++◌, length, drop, map, Option, Some, None, refl, ap, sym, ◌∙◌, subst}
use Rattle.std.proofs.lemmas.List.{append-nil}
use Rattle.asn1_model.specs.Value.{Parts, end, absent, present}
use Rattle.asn1_model.specs.Schema.{Components, no_component, component}
use Rattle.asn1_model.specs.Normal.{is_required, presence_bits}
use Rattle.asn1_model.specs.Form.{exactly, both, varied, given, only_if, joined, Bitmap, is_any_present, present_ones, covered_by, Reads}
use Rattle.std.specs.Prelude.{is_some}
use Rattle.asn1_model.specs.Per
use Rattle.asn1_model.proofs.Forms.{map_parts}
use Rattle.asn1_laws_fronts.proofs.PerNumbers.{counted_octets_alike}
use Rattle.asn1_laws_fronts.proofs.Additions as adding
use Rattle.asn1_schema_laws.specs.Records.{additions_begin}
use Rattle.asn1_schema_laws.specs.Presents.{root_records, added_records, optional_count, component_count}
use Rattle.asn1_schema_laws.specs.Chains.{Chain}
use Rattle.asn1_schema_reading_laws.proofs.Bitmaps.{Octets, flags, any_set, none_flags, flags_none, none_of, covers, counted_flags}
use Rattle.asn1_schema_reading_laws.proofs.Bitmaps as bitmaps
use Rattle.asn1_schema_reading_laws.specs.PresenceBits.{preamble_bits, first_bits, is_any_set}
use Rattle.per_codec_laws.specs.Takes.{Position, State, Scope, components, added, Front, Found, Begins, unknown_forms, Skips}
use Rattle.asn1_schema_reading_laws.proofs.Alike.{LikeParts}
use Rattle.per_codec_laws.proofs.Next.{flag_units}
use Rattle.per_codec_laws.proofs.Fronts.{Step, nothing_front, of_nothing, split, join, varied_in, varied_out, given_in, given_out, if_in, if_out, let_through, from_state, from_scopes}
use Rattle.per_codec_laws.proofs.Parts.{EachFinds, EachShows}
use Rattle.per_codec_laws.proofs.Sequences.{Closed, begun_in, begun_out, added_in, added_out}

abbrev Forms : Type 0
Forms = List (Option Per.BitForm)

module _ (free : Per.Freedom → Bool) (al : Bool) where
  abbrev Told : Forms → Forms → Type 0
  Told xs all = bitmaps.Told (λ os. Per.counted_octets al os) xs all

  told_of : (b : Bitmap) (xs all : Forms) → covered_by (λ os. Per.counted_octets al os) b xs ≡ Some all → Told xs all
  told_of b xs all e = bitmaps.told_of free (λ os. Per.counted_octets al os) (λ os ps. counted_octets_alike free al os ps) b xs all e

  -- ---- texts in sequence
  append_join : (xs : Forms) (ys : List Per.BitForm) → (start mid rest : Position) → Front free (joined (present_ones xs)) start mid →
      Front free (joined ys) mid rest → Front free (joined (present_ones xs ++ ys)) start rest
  append_join [] ys start mid rest f g = subst (λ l. Front free (joined ys) l rest) (of_nothing free start mid f) g
  append_join (None ∷ xs) ys start mid rest f g = append_join xs ys start mid rest f g
  append_join (Some x ∷ xs) ys start mid rest f g =
      let q = split free x (joined (present_ones xs)) start mid f in
      join free x (joined (present_ones xs ++ ys)) start q.0 rest q.1 (append_join xs ys q.0 mid rest q.2 g)

  append_split : (xs : Forms) (ys : List Per.BitForm) → (start rest : Position) → Front free (joined (present_ones xs ++ ys)) start rest →
      (mid : Position) × Front free (joined (present_ones xs)) start mid × Front free (joined ys) mid rest
  append_split [] ys start rest f = (start, nothing_front free start, f)
  append_split (None ∷ xs) ys start rest f = append_split xs ys start rest f
  append_split (Some x ∷ xs) ys start rest f =
      let q = split free x (joined (present_ones xs ++ ys)) start rest f in
      let r = append_split xs ys q.0 rest q.2 in
      (r.0, join free x (joined (present_ones xs)) start q.0 r.0 q.1 r.1, r.2)

  -- ---- a bitmap with a bit set, or none
  shown_in : (t : Bool) (x : Per.BitForm) (start rest : Position) → (t ≡ true) ⊎ IsTrue (free Per.empty_bitmap) → Front free x start rest →
      Front free (cond t x (varied Per.empty_bitmap false (λ e. only_if e x))) start rest
  shown_in true x start rest d f = f
  shown_in false x start rest (inl e) f = cc
  shown_in false x start rest (inr d) f = varied_in free {c = Per.empty_bitmap} (λ e. only_if e x) true (inr d) start rest f

  shown_out : (t : Bool) (x : Per.BitForm) (start rest : Position) →
      Front free (cond t x (varied Per.empty_bitmap false (λ e. only_if e x))) start rest → ((t ≡ true) ⊎ IsTrue (free Per.empty_bitmap)) × Front free x start rest
  unfolding Reads
  shown_out true x start rest f = (inl refl, f)
  shown_out false x start rest f =
      let r = f.has_form in
      let q = let_through free Per.empty_bitmap r.0 x start.0 f.text r.1 r.2 in
      (inr q.0, record { text = f.text; has_form = q.1; in_front = f.in_front; moved = f.moved })

  -- ---- bitmaps
  abbrev bitmap : List Bool → Per.BitForm
  bitmap bs = Per.normally_few al (Per.bit_units bs)

  abbrev shown : Forms → Per.BitForm
  shown xs = Per.normally_few al (map Per.flag xs)

  -- what a reader finds for such a form
  abbrev Without : List Bool → Per.BitForm → Forms → Position → Position → Type 0
  Without ms y xs start rest = (mid : Position) × (is_any_present xs ≡ false) × Front free (exactly (false ∷ ms)) start mid × Front free y mid rest

  abbrev With : List Bool → Per.BitForm → Forms → Position → Position → Type 0
  With ms y xs start rest = (us : Octets) × (bs : List Bool) × (o1 : Position) × (o2 : Position) × (o3 : Position) × (o4 : Position) ×
      (flags xs ≡ first_bits (length xs) bs) × (flags (unknown_forms al us) ≡ drop (length xs) bs) ×
      ((is_any_set bs ≡ true) ⊎ IsTrue (free Per.empty_bitmap)) × Front free (exactly (true ∷ ms)) start o1 × Front free y o1 o2 ×
      Front free (bitmap bs) o2 o3 × Front free (joined (present_ones xs)) o3 o4 × Front free (joined (present_ones (unknown_forms al us))) o4 rest

  -- ---- the whole
  module _ (ms : List Bool) (y : Per.BitForm) (other : IsTrue (free Per.other_bitmap)) where
    -- no bitmap
    without_in : (xs : Forms) → is_any_present xs ≡ false → (start mid rest : Position) → Front free (exactly (false ∷ ms)) start mid →
        Front free y mid rest → Front free (Per.sequence_form al true ms y xs) start rest
    unfolding Per.sequence_form Per.bitmapped
    without_in xs e start mid rest f g = varied_in free {c = Per.other_bitmap} (λ b. Per.bitmapped al ms y xs b) None (inr other) start rest
        (if_in free (not (is_any_present xs)) (both (exactly (false ∷ ms)) y) start rest (ap not e) (join free (exactly (false ∷ ms)) y start mid rest f g))

    -- with one
    with_in : (xs : Forms) → (us : Octets) (bs : List Bool) → flags xs ≡ first_bits (length xs) bs →
        flags (unknown_forms al us) ≡ drop (length xs) bs → (is_any_set bs ≡ true) ⊎ IsTrue (free Per.empty_bitmap) →
        (start o1 o2 o3 o4 rest : Position) → Front free (exactly (true ∷ ms)) start o1 → Front free y o1 o2 → Front free (bitmap bs) o2 o3 →
        Front free (joined (present_ones xs)) o3 o4 → Front free (joined (present_ones (unknown_forms al us))) o4 rest → Front free (Per.sequence_form al true ms y xs) start rest
    unfolding Per.sequence_form Per.bitmapped Per.with_additions Per.additions
    with_in xs us bs e e' t start o1 o2 o3 o4 rest f g i j k =
        let c = covers (λ os. Per.counted_octets al os) xs us bs e e' in
        let all : Forms = c.1 in
        let ys : List Per.BitForm = present_ones (unknown_forms al us) in
        let a1 : Front free (joined (present_ones all)) o3 rest = subst (λ l. Front free (joined l) o3 rest) (sym c.4) (append_join xs ys o3 o4 rest j k) in
        let bits : Front free (shown all) o2 o3 = subst (λ us. Front free (Per.normally_few al us) o2 o3) (sym (flag_units all)) (subst (λ l. Front free (bitmap l) o2 o3) (sym c.3) i) in
        let a2 = join free (shown all) (joined (present_ones all)) o2 o3 rest bits a1 in
        let a3 = join free y (both (shown all) (joined (present_ones all))) o1 o2 rest g a2 in
        let a4 = join free (exactly (true ∷ ms)) (both y (both (shown all) (joined (present_ones all)))) start o1 rest f a3 in
        let set : (is_any_present all ≡ true) ⊎ IsTrue (free Per.empty_bitmap) = as_any t (ap is_any_set (sym c.3) ∙ any_set all) in
        varied_in free {c = Per.other_bitmap} (λ b. Per.bitmapped al ms y xs b) (Some c.0) (inr other) start rest
        (given_in free (covered_by (λ os. Per.counted_octets al os) c.0 xs)
        (λ l. cond (is_any_present l) (Per.with_additions al ms y l)
        (varied Per.empty_bitmap false (λ e. only_if e (Per.with_additions al ms y l)))) all c.2 start rest (shown_in (is_any_present all) (Per.with_additions al ms y all) start rest set a4))
      where
        as_any : {all : Bool} {bs : Bool} → (bs ≡ true) ⊎ IsTrue (free Per.empty_bitmap) → bs ≡ all → (all ≡ true) ⊎ IsTrue (free Per.empty_bitmap)
        as_any (inl e) h = inl (sym h ∙ e)
        as_any (inr e) h = inr e

    with_out : (xs : Forms) → (all : Forms) → Told xs all → (is_any_present all ≡ true) ⊎ IsTrue (free Per.empty_bitmap) → (start rest : Position) →
        Front free (Per.with_additions al ms y all) start rest → With ms y xs start rest
    unfolding Per.with_additions Per.additions
    with_out xs all t set start rest f =
        let ys : List Per.BitForm = present_ones (unknown_forms al t.0) in
        let q = split free (exactly (true ∷ ms)) (both y (both (shown all) (joined (present_ones all)))) start rest f in
        let r = split free y (both (shown all) (joined (present_ones all))) q.0 rest q.2 in
        let s = split free (shown all) (joined (present_ones all)) r.0 rest r.2 in
        let u = append_split xs ys s.0 rest (subst (λ l. Front free (joined l) s.0 rest) t.3 s.2) in
        (t.0, flags all, q.0, r.0, s.0, u.0, t.1, t.2, as_set set, q.1, r.1, subst (λ us. Front free (Per.normally_few al us) r.0 s.0) (flag_units all) s.1, u.1, u.2)
      where
        as_set : (is_any_present all ≡ true) ⊎ IsTrue (free Per.empty_bitmap) → (is_any_set (flags all) ≡ true) ⊎ IsTrue (free Per.empty_bitmap)
        as_set (inl e) = inl (any_set all ∙ e)
        as_set (inr e) = inr e

    by_bitmap : (xs : Forms) → (b : Option Bitmap) (start rest : Position) → Front free (Per.bitmapped al ms y xs b) start rest → Without ms y xs start rest ⊎ With ms y xs start rest
    unfolding Per.bitmapped
    by_bitmap xs None start rest f =
        let t = if_out free (not (is_any_present xs)) (both (exactly (false ∷ ms)) y) start rest f in
        let q = split free (exactly (false ∷ ms)) y start rest t.1 in
        inl (q.0, adding.no_any (is_any_present xs) t.0, q.1, q.2)
    by_bitmap xs (Some b) start rest f =
        let t = given_out free (covered_by (λ os. Per.counted_octets al os) b xs)
        (λ l. cond (is_any_present l) (Per.with_additions al ms y l) (varied Per.empty_bitmap false (λ e. only_if e (Per.with_additions al ms y l)))) start rest f in
        let q = shown_out (is_any_present t.0) (Per.with_additions al ms y t.0) start rest t.2 in
        inr (with_out xs t.0 (told_of b xs t.0 t.1) q.0 start rest q.1)

    read_out : (xs : Forms) → (start rest : Position) → Front free (Per.sequence_form al true ms y xs) start rest → Without ms y xs start rest ⊎ With ms y xs start rest
    unfolding Per.sequence_form
    read_out xs start rest f = let q = varied_out free {c = Per.other_bitmap} (λ b. Per.bitmapped al ms y xs b) start rest f in by_bitmap xs q.0 start rest q.2

  -- ---- from the extension bit on
  unless_kept : (q : Bool) (o : Option Forms) (xs : Forms) → cond q None o ≡ Some xs → o ≡ Some xs
  unless_kept true o xs e = cc
  unless_kept false o xs e = e

  pub additions_long : (cs : Components) (qs : Parts) (xs : Forms) → Per.addition_forms al cs qs ≡ Some xs → length xs ≡ component_count cs
  unfolding Per.addition_forms
  additions_long no_component end xs e = let z : xs ≡ [] = cc in rw z refl
  additions_long no_component (absent qs) xs e = cc
  additions_long no_component (present v qs) xs e = cc
  additions_long (component t o s cs) end xs e = cc
  additions_long (component t o s cs) (absent qs) xs e =
      let p = map_parts (Per.addition_forms al cs qs) (λ l. None ∷ l) xs (unless_kept (is_required o) _ xs e) in
      ap length (sym p.2) ∙ ap suc (additions_long cs qs p.0 p.1)
  additions_long (component t o s cs) (present v qs) xs e =
      let p = map_parts (Per.addition_forms al cs qs) (λ l. Some (Per.spelled o s v (Per.open_type al (Per.form al s v))) ∷ l) xs e in
      ap length (sym p.2) ∙ ap suc (additions_long cs qs p.0 p.1)

  -- the form of a sequence with an extension bit, by its presence bits and its root
  abbrev pub Extensible : Components → Parts → List Bool → Per.BitForm → Per.BitForm
  Extensible adds qs ms y = given (Per.addition_forms al adds qs) (Per.sequence_form al true ms y)

  module _ (other : IsTrue (free Per.other_bitmap)) (adds : Components) (ha : EachFinds al free adds) (qs : Parts) where
    extensible_in : (ms : List Bool) (y : Per.BitForm) → (x : Option Bool) (more : List Bool) (start mid o2 : Position) (k : List Scope) (b : State) →
        is_some x ≡ true → Front free (exactly (preamble_bits x (ms ++ more))) start mid → Front free y mid o2 →
        Chain (Step free al) (additions_begin (component_count adds) ∷ added_records adds qs) (o2, components x more ∷ k) b → Front free (Extensible adds qs ms y) start b.0 × (b.1 ≡ k)
    extensible_in ms y None more start mid o2 k b e f g c = cc
    extensible_in ms y (Some true) (z ∷ more) start mid o2 k b e f g c = absurd c.1
    extensible_in ms y (Some false) (z ∷ more) start mid o2 k b e f g c = absurd c.1
    extensible_in ms y (Some false) [] start mid o2 k b e f g c =
        let n : ℕ = component_count adds in
        let r = added_in free al adds ha qs [] k b (first_bits n []) o2 (from_state free al (added_records adds qs) c.0 b o2 (added (first_bits n []) [] ∷ k) c.1 c.2) in
        let none : is_any_present r.0 ≡ false = flags_none r.0 n r.3 in
        let p = none_flags r.0 none in
        let a1 : r.1 ≡ o2 = of_nothing free o2 r.1 (subst (λ l. Front free (joined l) o2 r.1) p.1 r.4) in
        let skipped : Front free (joined (present_ones (unknown_forms al r.5.0))) r.1 b.0 = r.5.2 in
        let u : r.5.0 ≡ [] = none_of (λ os. Per.counted_octets al os) r.5.0 r.5.1 in
        let a2 : b.0 ≡ r.1 = of_nothing free r.1 b.0 (subst (λ l. Front free (joined (present_ones (unknown_forms al l))) r.1 b.0) u skipped) in
        let f' : Front free (exactly (false ∷ ms)) start mid = subst (λ l. Front free (exactly (false ∷ l)) start mid) (append-nil ms) f in
        let g' : Front free y mid b.0 = subst (λ l. Front free y mid l) (sym (a2 ∙ a1)) g in
        (given_in free (Per.addition_forms al adds qs) (Per.sequence_form al true ms y) r.0 r.2 start b.0 (without_in ms y other r.0 none start mid b.0 f' g'), r.6)
    extensible_in ms y (Some true) [] start mid o2 k b e f g c =
        let n : ℕ = component_count adds in
        let bs : List Bool = c.1.0 in
        let m : State = c.0 in
        let r = added_in free al adds ha qs (drop n bs) k b (first_bits n bs) m.0 (from_scopes free al (added_records adds qs) m b (added (first_bits n bs) (drop n bs) ∷ k) c.1.3 c.2) in
        let l : length r.0 ≡ n = counted_flags r.0 n bs r.3 in
        let e1 : flags r.0 ≡ first_bits (length r.0) bs = r.3 ∙ ap (λ i. first_bits i bs) (sym l) in
        let e2 : flags (unknown_forms al r.5.0) ≡ drop (length r.0) bs = r.5.1 ∙ ap (λ i. drop i bs) (sym l) in
        let f' : Front free (exactly (true ∷ ms)) start mid = subst (λ l. Front free (exactly (true ∷ l)) start mid) (append-nil ms) f in (
          given_in free (Per.addition_forms al adds qs) (Per.sequence_form al true ms y) r.0 r.2 start b.0
              (with_in ms y other r.0 r.5.0 bs e1 e2 c.1.1 start mid o2 m.0 r.1 b.0 f' g c.1.2 r.4 r.5.2),
          r.6,
        )

    pub extended_in : (cs : Components) → EachFinds al free cs → (ps : Parts) (a m b : State) → Begins free true (optional_count cs) a m →
        Chain (Step free al) (root_records cs ps (additions_begin (component_count adds) ∷ added_records adds qs)) m b →
        Found free (Extensible adds qs (presence_bits cs ps) (Per.component_forms al cs ps)) a b
    extended_in cs h ps a m b t c =
        let o = begun_in free al true cs h ps (additions_begin (component_count adds) ∷ added_records adds qs) a m b t c in
        extensible_in (presence_bits cs ps) (Per.component_forms al cs ps) o.0 o.1 a.0 o.2 o.3 a.1 b o.4 o.5 o.6 o.7

  module _ (other : IsTrue (free Per.other_bitmap)) (adds : Components) (ha : EachShows al free adds) (qs : Parts) where
    -- what is held at the extension bit, with additions like these
    abbrev AtExtensionBit : List Bool → Per.BitForm → Position → List Scope → State → Type 0
    AtExtensionBit ms y start k b = (ss : Parts) × (x : Option Bool) × (mid : Position) × (o2 : Position) × LikeParts adds qs ss ×
        (is_some x ≡ true) × Front free (exactly (preamble_bits x ms)) start mid × Front free y mid o2 ×
        Chain (Step free al) (additions_begin (component_count adds) ∷ added_records adds ss) (o2, components x [] ∷ k) b

    no_unknown : (start : Position) → Skips al free [] start start
    no_unknown start = ([], refl, nothing_front free start)

    at_extension_bit : (ms : List Bool) (y : Per.BitForm) (xs : Forms) → Per.addition_forms al adds qs ≡ Some xs →
        (start : Position) (k : List Scope) (b : State) → b.1 ≡ k → Without ms y xs start b.0 ⊎ With ms y xs start b.0 → AtExtensionBit ms y start k b
    at_extension_bit ms y xs e start k b scopes (inl w) =
        let n : ℕ = component_count adds in
        let l : length xs ≡ n = additions_long adds qs xs e in
        let p = none_flags xs w.1 in
        let fl : flags xs ≡ first_bits n [] = p.0 ∙ ap (λ i. first_bits i []) l in
        let texts : Front free (joined (present_ones xs)) b.0 b.0 = subst (λ l. Front free (joined l) b.0 b.0) (sym p.1) (nothing_front free b.0) in
        let r = added_out free al adds ha qs (first_bits n []) [] b.0 k b (xs, b.0, e, fl, texts, no_unknown b.0, scopes) in
        (r.0, Some false, w.0, b.0, r.1, refl, w.2, w.3, ((b.0, added (first_bits n []) [] ∷ k), refl, r.2))
    at_extension_bit ms y xs e start k b scopes (inr w) =
        let n : ℕ = component_count adds in
        let bs : List Bool = w.1 in
        let l : length xs ≡ n = additions_long adds qs xs e in
        let e1 : flags xs ≡ first_bits n bs = w.6 ∙ ap (λ i. first_bits i bs) l in
        let e2 : flags (unknown_forms al w.0) ≡ drop n bs = w.7 ∙ ap (λ i. drop i bs) l in
        let r = added_out free al adds ha qs (first_bits n bs) (drop n bs) w.4 k b (xs, w.5, e, e1, w.12, (w.0, e2, w.13), scopes) in
        (r.0, Some true, w.2, w.3, r.1, refl, w.9, w.10, ((w.4, added (first_bits n bs) (drop n bs) ∷ k), (bs, w.8, w.11, refl), r.2))

    extensible_out : (ms : List Bool) (y : Per.BitForm) → (start : Position) (k : List Scope) (b : State) → Front free (Extensible adds qs ms y) start b.0 → b.1 ≡ k → AtExtensionBit ms y start k b
    extensible_out ms y start k b f scopes =
        let t = given_out free (Per.addition_forms al adds qs) (Per.sequence_form al true ms y) start b.0 f in
        at_extension_bit ms y t.0 t.1 start k b scopes (read_out ms y other t.0 start b.0 t.2)

    -- ---- SEQUENCE and SET with an extension bit
    pub extended_out : (cs : Components) → EachShows al free cs → (ps : Parts) (a b : State) →
        Found free (Extensible adds qs (presence_bits cs ps) (Per.component_forms al cs ps)) a b → (ss : Parts) × LikeParts adds qs ss ×
        Closed free al true cs ps (additions_begin (component_count adds) ∷ added_records adds ss) a b
    extended_out cs h ps a b f =
        let t = extensible_out (presence_bits cs ps) (Per.component_forms al cs ps) a.0 a.1 b f.0 f.1 in
        (t.0, t.4, begun_out free al true cs h ps (additions_begin (component_count adds) ∷ added_records adds t.0) a b t.1 t.2 t.3 t.5 t.6 t.7 t.8)
