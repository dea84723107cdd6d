-- Ends of frames, in the bits and the frames of an encoder.
use Rattle.std.proofs.Common.{◌≡◌, ℕ, zero, suc, ◌+◌, ◌-◌, ◌<◌, ◌≤◌, Bool, true, false, cond, List, [], ◌∷◌, ◌++◌}
use Rattle.std.proofs.Common.{length, take, Option, Some, None, option_map, option_and_then, refl, ap, subst, sym, ◌∙◌}
use Rattle.std.proofs.Common.{arith, append_assoc, length-append}
use Rattle.std.proofs.lemmas.List.{append-nil}
use Rattle.asn1_model.specs.Form.{exactly, is_any_present}
use Rattle.asn1_model.specs.Per
use Rattle.asn1_schema_laws.specs.Records.{ends}
use Rattle.per_codec_packing.specs.FieldLists.{FieldList, bit, padding, as_field_list, plain, on, field_list_at}
use Rattle.per_codec_packing.proofs.Formed.{length-field_list}
use Rattle.per_codec_packing.specs.Packed.{Packed, Adds, place, plus, solid, with_bit}
use Rattle.per_codec_packing.proofs.Adding.{added as field_list_added}
use Rattle.per_codec_packing.proofs.Bits.{solid-append, changed_behind}
use Rattle.per_codec_encoder.specs.Steps.{components, added, members, position, State, adds_field_list, extended_field_list, run}
use Rattle.per_codec_additions.specs.Additions.{as_open_types}
use Rattle.per_codec_encoder.specs.declared.frame.Additions.{Additions}
use Rattle.per_codec_encoder.specs.declared.frame.Frame.{Frame}
use Rattle.per_codec_encoder.specs.declared.frame.Frame.TheVariants.{Components, Added, OpenType, Members, Alternative}
use Rattle.per_codec_encoder.specs.declared.frame.Position.{Position}
use Rattle.per_codec_writing.specs.declared.length.Due.{Due}
use Rattle.per_codec_writing.specs.Headings.{determinants_of}
use Rattle.asn1_schema_reading_laws.specs.PresenceBits.{preamble}
use Rattle.per_codec_encoder.specs.Holding.{at, instead, IsOpen, IsAdded, Holds, AreSound, Does}
use Rattle.per_codec_encoder.proofs.Scopes.{at_end, appended, on_top, head_shown, length-added}

pub does_end_components : (fs rest : List Frame) (f : Frame) (e : Bool) (due given : ℕ) (start : Position) → fs ≡ f ∷ rest →
    f ≡ Components e due given start → e ≡ false → due ≡ 0 → (al : Bool) (o : Packed) → Does al ends fs o rest o
does_end_components fs rest f e due given start a b c n al o =
    record { after = λ s h. go s (on_top fs rest f (Components false 0 given start) o s a (b ∙ (ap (λ x. Components x due given start) c ∙ ap (λ k. Components false k given start) n)) h) }
  where
    go : (s : State) → IsOpen (λ q t. Holds rest q t) false 0 given start o s → (t : State) × (run al ends s ≡ Some t) × Holds rest o t
    go s h =
        let w : FieldList = as_field_list h.presence_bits ++ h.inner in
        let z : State = (h.outer.0 ++ w, h.outer.1) in
        let back : o ≡ instead (h.front ++ w) o = ap (λ t. instead t o) (h.field_list ∙ ap (λ l. h.front ++ (as_field_list l ++ h.inner)) (append-nil h.presence_bits)) in
        (z, ap (run al ends) h.is, subst (λ l. Holds rest l z) (sym back) (appended rest (instead h.front o) h.outer w h.under))

pub does_end_members : (fs rest : List Frame) (f : Frame) (d : Due) → fs ≡ f ∷ rest → f ≡ Members d → d.units ≡ 0 → d.behind ≡ None → (al : Bool) (o : Packed) → Does al ends fs o rest o
does_end_members fs rest f d a b n m al o = record { after = λ s h. go s (on_top fs rest f (Members d) o s a b h) }
  where
    go : (s : State) → Holds (Members d ∷ rest) o s → (t : State) × (run al ends s ≡ Some t) × Holds rest o t
    go s h = (
      h.0,
      ap (run al ends) (h.1 ∙ ap (λ j. let l : State = (h.0.0, members j (determinants_of d.behind) ∷ h.0.1) in l) n ∙
          ap (λ j. let l : State = (h.0.0, members 0 (determinants_of j) ∷ h.0.1) in l) m),
      h.2,
    )

pub does_end_alternative : (fs rest : List Frame) (f : Frame) → fs ≡ f ∷ rest → f ≡ Alternative → (al : Bool) (o : Packed) → Does al ends fs o rest o
does_end_alternative fs rest f a b al o = record { after = λ s h. go s (on_top fs rest f Alternative o s a b h) }
  where
    go : (s : State) → Holds (Alternative ∷ rest) o s → (t : State) × (run al ends s ≡ Some t) × Holds rest o t
    go s h = (h.0, ap (run al ends) h.1, h.2)

-- ---- something is due in the innermost frame

pub cannot_end_components : (fs rest : List Frame) (f : Frame) (e : Bool) (due given : ℕ) (start : Position) → fs ≡ f ∷ rest →
    f ≡ Components e due given start → (e ≡ false → 0 < due) → (al : Bool) (o : Packed) (s : State) → Holds fs o s → run al ends s ≡ None
cannot_end_components fs rest f e due given start a b n al o s q = let h = on_top fs rest f (Components e due given start) o s a b q in
    ap (run al ends) h.is ∙ go e due n h.inner h.presence_bits h.outer
  where
    go : (e : Bool) (due : ℕ) → (e ≡ false → 0 < due) → (os : FieldList) (ms : List Bool) (t : State) → run al ends (os, components e due ms t.0 ∷ t.1) ≡ None
    go false zero n os ms t = absurd (omega (arith, n refl))
    go false (suc due) n os ms t = refl
    go true due n os ms t = refl

pub cannot_end_members : (fs rest : List Frame) (f : Frame) (d : Due) → fs ≡ f ∷ rest → f ≡ Members d → (d.units ≡ 0 → d.behind ≡ None → ⊥) →
    (al : Bool) (o : Packed) (s : State) → Holds fs o s → run al ends s ≡ None
cannot_end_members fs rest f d a b n al o s q = let h = on_top fs rest f (Members d) o s a b q in ap (run al ends) h.1 ∙ go d.units d.behind n h.0
  where
    go : (units : ℕ) (behind : Option ℕ) → (units ≡ 0 → behind ≡ None → ⊥) → (t : State) → run al ends (t.0, members units (determinants_of behind) ∷ t.1) ≡ None
    go zero None n t = absurd (n refl refl)
    go zero (Some k) n t = refl
    go (suc units) behind n t = refl

-- ---- open types

pub does_end_open : (al : Bool) (fs rest : List Frame) (f : Frame) (outer o front p : Packed) (contents : List Bool) → fs ≡ f ∷ rest →
    f ≡ OpenType outer → (o.placed ≡ true → plain o.field_list ≡ Some contents) → front ≡ outer →
    Adds (field_list_at (Per.open_type al (exactly contents)) (place front)) front p → Does al ends fs o rest p
does_end_open al fs rest f outer o front p contents a b c d x = record { after = λ s h. go s (on_top fs rest f (OpenType outer) o s a b h) }
  where
    y : Per.BitForm
    y = Per.open_type al (exactly contents)

    t : (w : FieldList) × (field_list_at y (place outer) ≡ Some w) × (plus outer w ≡ p)
    t = field_list_added (field_list_at y (place outer)) outer p (subst (λ l. Adds (field_list_at y (place l)) l p) d x)

    go : (s : State) → Holds (OpenType outer ∷ rest) o s → (t : State) × (run al ends s ≡ Some t) × Holds rest p t
    go s h =
        let z : State = (h.0.0 ++ t.0, h.0.1) in (
          z,
          ap (run al ends) h.1 ∙ ap (option_and_then (λ w. adds_field_list (field_list_at (Per.open_type al (exactly w)) (position h.0)) h.0)) (c h.2)
              ∙ ap (λ q. adds_field_list (field_list_at y q) h.0) (at_end rest outer h.0 h.3) ∙ ap (λ w. adds_field_list w h.0) t.1,
          subst (λ l. Holds rest l z) t.2 (appended rest outer h.0 t.0 h.3),
        )

-- ---- additions

module _ (al : Bool) (fs rest : List Frame) (f : Frame) (ad : Additions) (o cut : Packed) (a : fs ≡ f ∷ rest) (b : f ≡ Added ad) (c : cut ≡ instead (take (at ad.end) o.field_list) o) where
  abbrev Open : State → Type 0
  Open s = IsAdded (λ q t. Holds rest q t) ad.due ad.given ad.start ad.end ad.slots o s

  top : (s : State) → Holds fs o s → Open s
  top s h = on_top fs rest f (Added ad) o s a b h

  cut_is : (s : State) (h : Open s) → cut ≡ instead (h.front ++ (as_field_list (preamble true h.presence_bits) ++ h.root)) o
  cut_is s h = c ∙ ap (λ t. instead t o) (head_shown _ ad.due ad.given ad.start ad.end ad.slots o s h)

  -- the extension bit is before the end of the root
  pub bit_within : AreSound fs o → ad.start.bits < length (solid cut.field_list)
  bit_within q =
      let h = top q.state q.holds in
      let all : length (solid cut.field_list) ≡ length (solid h.front) + suc (length (solid (as_field_list h.presence_bits ++ h.root))) =
      ap (λ (p : Packed). length (solid p.field_list)) (cut_is q.state h) ∙
      ap length (solid-append h.front (bit false ∷ (as_field_list h.presence_bits ++ h.root))) ∙ length-append (solid h.front) (false ∷ solid (as_field_list h.presence_bits ++ h.root)) in
      omega (arith, all, h.bits)

  ended_as : (s : State) (h : Open s) → ad.due ≡ 0 → run al ends s ≡ adds_field_list (extended_field_list al h.presence_bits h.root ad.slots (place (instead h.front o))) h.outer
  ended_as s h n =
      ap (run al ends) (h.is ∙ ap (λ k. let l : State = (h.inner, added k h.presence_bits h.root ad.slots h.outer.0 ∷ h.outer.1) in l) n)
      ∙ ap (λ q. adds_field_list (extended_field_list al h.presence_bits h.root ad.slots q) h.outer) (at_end rest (instead h.front o) h.outer h.under)

  -- a field-list after what precedes the sequence
  behind_front : (s : State) (h : Open s) (p : Packed) (w : FieldList) → p ≡ instead (h.front ++ w) o → (let z : State = (h.outer.0 ++ w, h.outer.1) in Holds rest p z)
  behind_front s h p w e = subst (λ l. Holds rest l (h.outer.0 ++ w, h.outer.1)) (sym e) (appended rest (instead h.front o) h.outer w h.under)

  pub does_end_none : (p : Packed) → ad.due ≡ 0 → is_any_present ad.slots ≡ false → p ≡ cut → Does al ends fs o rest p
  does_end_none p n none e = record { after = λ s h. go s (top s h) }
    where
      go : (s : State) → Open s → (t : State) × (run al ends s ≡ Some t) × Holds rest p t
      go s h =
          let t : FieldList = as_field_list (false ∷ h.presence_bits) ++ h.root in (
            (h.outer.0 ++ t, h.outer.1),
            ended_as s h n ∙ ap (λ x. adds_field_list x h.outer) (not_there h.presence_bits h.root ad.slots (place (instead h.front o)) none),
            behind_front s h p t (e ∙ cut_is s h),
          )
        where
          not_there : (ms : List Bool) (root : FieldList) (slots : List (Option (List Bool))) (q : Option ℕ) → is_any_present slots ≡ false →
              extended_field_list al ms root slots q ≡ Some (as_field_list (false ∷ ms) ++ root)
          not_there ms root slots q e =
              ap (λ t. cond t (option_map (λ w. as_field_list (true ∷ ms) ++ (root ++ w))
              (field_list_at (Per.additions al (as_open_types al slots)) (on (on q (as_field_list (true ∷ ms))) root))) (Some (as_field_list (false ∷ ms) ++ root))) e

  -- the field-list before, with the extension bit set
  abbrev extended : Packed
  extended = record { field_list = with_bit ad.start.bits true cut.field_list; placed = cut.placed }

  extended_is : (s : State) (h : Open s) → extended ≡ instead (h.front ++ (as_field_list (true ∷ h.presence_bits) ++ h.root)) o
  extended_is s h =
      let k : ad.start.bits ≡ length (solid h.front) + 0 = omega (arith, h.bits) in
      ap (λ (p : Packed). let q : Packed = record { field_list = with_bit ad.start.bits true p.field_list; placed = p.placed } in q) (cut_is s h)
      ∙ ap (λ j. instead (with_bit j true (h.front ++ (bit false ∷ (as_field_list h.presence_bits ++ h.root)))) o) k
      ∙ ap (λ t. instead t o) (changed_behind 0 true h.front (bit false ∷ (as_field_list h.presence_bits ++ h.root)))

  same_length : (s : State) (h : Open s) → place cut ≡ on (on (place (instead h.front o)) (as_field_list (true ∷ h.presence_bits))) h.root
  same_length s h = ap (λ p. place p) (cut_is s h) ∙ go o.placed
    where
      n : length (h.front ++ (as_field_list (preamble true h.presence_bits) ++ h.root)) ≡ length h.front + length (as_field_list (true ∷ h.presence_bits)) + length h.root
      n = omega (
        arith,
        length-append h.front (as_field_list (preamble true h.presence_bits) ++ h.root),
        length-append
            (as_field_list (preamble true h.presence_bits)) h.root,
        length-field_list h.presence_bits,
      )

      go : (b : Bool) → cond b (Some (length (h.front ++ (as_field_list (preamble true h.presence_bits) ++ h.root)))) None
          ≡ on (on (cond b (Some (length h.front)) None) (as_field_list (true ∷ h.presence_bits))) h.root
      go false = refl
      go true = ap (λ (k : ℕ). Some k) n

  pub does_end_some : (p : Packed) → ad.due ≡ 0 → is_any_present ad.slots ≡ true → Adds (field_list_at (Per.additions al (as_open_types al ad.slots)) (place cut)) extended p → Does al ends fs o rest p
  does_end_some p n some x = record { after = λ s h. go s (top s h) }
    where
      y : Per.BitForm
      y = Per.additions al (as_open_types al ad.slots)

      t : (w : FieldList) × (field_list_at y (place cut) ≡ Some w) × (plus extended w ≡ p)
      t = field_list_added (field_list_at y (place cut)) extended p x

      there : (ms : List Bool) (root : FieldList) (slots : List (Option (List Bool))) (q : Option ℕ) → is_any_present slots ≡ true →
          extended_field_list al ms root slots q ≡ option_map (λ w. as_field_list (true ∷ ms) ++ (root ++ w))
          (field_list_at (Per.additions al (as_open_types al slots)) (on (on q (as_field_list (true ∷ ms))) root))
      there ms root slots q e =
          ap (λ t. cond t (option_map (λ w. as_field_list (true ∷ ms) ++ (root ++ w))
          (field_list_at (Per.additions al (as_open_types al slots)) (on (on q (as_field_list (true ∷ ms))) root))) (Some (as_field_list (false ∷ ms) ++ root))) e

      go : (s : State) → Open s → (t : State) × (run al ends s ≡ Some t) × Holds rest p t
      go s h =
          let ms = h.presence_bits in
          let whole : FieldList = as_field_list (true ∷ ms) ++ (h.root ++ t.0) in
          let field_list_is : p ≡ instead (h.front ++ whole) o =
          sym t.2 ∙ ap (λ q. plus q t.0) (extended_is s h)
          ∙ ap (λ l. instead l o) (append_assoc h.front (as_field_list (true ∷ ms) ++ h.root) t.0 ∙ ap (λ l. h.front ++ l) (append_assoc (as_field_list (true ∷ ms)) h.root t.0)) in (
            (h.outer.0 ++ whole, h.outer.1),
            ended_as s h n
                ∙ ap (λ z. adds_field_list z h.outer) (there ms h.root ad.slots (place (instead h.front o)) some ∙
                ap (λ k. option_map (λ w. as_field_list (true ∷ ms) ++ (h.root ++ w)) (field_list_at y k)) (sym (same_length s h)) ∙
                ap (option_map (λ w. as_field_list (true ∷ ms) ++ (h.root ++ w))) t.1),
            behind_front s h p whole field_list_is,
          )

  pub does_end_added : (slots : List (Option (List Bool))) (p : Packed) → slots ≡ ad.slots → ad.due ≡ 0 →
      (is_any_present slots ≡ true → Adds (field_list_at (Per.additions al (as_open_types al slots)) (place cut)) extended p) → (is_any_present slots ≡ false → p ≡ cut) → Does al ends fs o rest p
  does_end_added slots p e n x y = go (is_any_present slots) refl
    where
      go : (t : Bool) → is_any_present slots ≡ t → Does al ends fs o rest p
      go true t = does_end_some p n (ap is_any_present (sym e) ∙ t) (subst (λ l. Adds (field_list_at (Per.additions al (as_open_types al l)) (place cut)) extended p) e (x t))
      go false t = does_end_none p n (ap is_any_present (sym e) ∙ t) (y t)

  pub cannot_end_added : 0 < ad.due → (s : State) → Holds fs o s → run al ends s ≡ None
  cannot_end_added n s q =
      let h = top s q in
      let one : ad.due ≡ suc (ad.due - 1) = omega (arith, n) in
      ap (run al ends) (h.is ∙ ap (λ k. let l : State = (h.inner, added k h.presence_bits h.root ad.slots h.outer.0 ∷ h.outer.1) in l) one)

-- the end of the root is a position in the field-list
pub root_ends : (fs rest : List Frame) (f : Frame) (ad : Additions) (o : Packed) → fs ≡ f ∷ rest → f ≡ Added ad → AreSound fs o →
    (ad.end.bits + ad.end.paddings ≤ length o.field_list) × (length (solid (take (ad.end.bits + ad.end.paddings) o.field_list)) ≡ ad.end.bits)
root_ends fs rest f ad o a b q =
    let h = on_top fs rest f (Added ad) o q.state a b q.holds in
    (omega (arith, length-added _ ad.due ad.given ad.start ad.end ad.slots o q.state h), ap (λ t. length (solid t)) (head_shown _ ad.due ad.given ad.start ad.end ad.slots o q.state h) ∙ h.end_bits)

-- the extension bit is set before the additions
pub behind_bit_set : (x : Per.BitForm) (old extended new : Packed) (i : ℕ) →
    extended ≡ record { field_list = with_bit i true old.field_list; placed = old.placed } → Adds (field_list_at x (place extended)) extended new →
    Adds (field_list_at x (place old)) (record { field_list = with_bit i true old.field_list; placed = old.placed }) new
behind_bit_set x old extended new i e a =
    let n : place extended ≡ place old = ap (λ p. place p) e ∙ ap (λ k. cond old.placed (Some k) None) (as_long i old.field_list) in
    subst (λ l. Adds (field_list_at x (place old)) l new) e (subst (λ q. Adds (field_list_at x q) extended new) n a)
  where
    as_long : (i : ℕ) (t : FieldList) → length (with_bit i true t) ≡ length t
    as_long i [] = refl
    as_long i (padding ∷ t) = ap suc (as_long i t)
    as_long zero (bit b ∷ t) = refl
    as_long (suc i) (bit b ∷ t) = ap suc (as_long i t)
