-- Additions that begin, continue and end, in the bits and the frames of an encoder.
use Rattle.std.proofs.Common.{◌≡◌, ℕ, zero, suc, ◌-◌, ◌<◌, Bool, true, false, cond, List, [], ◌∷◌, ◌++◌, length, Option, Some, None, option_map, refl, ap, subst, sym, ◌∙◌, arith}
use Rattle.std.proofs.lemmas.List.{append-nil}
use Rattle.asn1_schema_laws.specs.Records.{additions_begin, addition, addition_ends}
use Rattle.per_codec_packing.specs.FieldLists.{FieldList, as_field_list, plain}
use Rattle.per_codec_packing.specs.Packed.{Packed, solid}
use Rattle.per_codec_encoder.specs.Steps.{components, added, open_type, State, added_one, run}
use Rattle.per_codec_encoder.specs.declared.frame.Additions.{Additions}
use Rattle.per_codec_encoder.specs.declared.frame.Frame.{Frame}
use Rattle.per_codec_encoder.specs.declared.frame.Position.{Position}
use Rattle.per_codec_encoder.specs.declared.frame.Frame.TheVariants.{Components, Added, OpenType, Members, Bag, Alternative}
use Rattle.per_codec_encoder.specs.Frames.{Next, Keeps, CountsAddition, KeepsAddition}
use Rattle.asn1_schema_reading_laws.specs.PresenceBits.{preamble}
use Rattle.per_codec_encoder.specs.Holding.{at, IsOpen, IsAdded, Holds, Does}
use Rattle.per_codec_encoder.proofs.Scopes.{length-open, on_top, put_back}

-- the additions of a sequence, by their parts
abbrev pub kept : ℕ → ℕ → Position → Position → List (Option (List Bool)) → Additions
kept due given start end v = record { due = due; given = given; start = start; end = end; slots = v }

-- ---- they begin

module _ (fs rest : List Frame) (f : Frame) (e : Bool) (due given : ℕ) (start : Position) (o : Packed) (a : fs ≡ f ∷ rest) (b : f ≡ Components e due given start) where
  pub does_begin_additions : (gs : List Frame) (end : Position) (count : ℕ) (v : List (Option (List Bool))) → e ≡ true → due ≡ 0 →
      end.bits ≡ length (solid o.field_list) → at end ≡ length o.field_list → v ≡ [] → gs ≡ Added (kept count given start end v) ∷ rest → (al : Bool) → Does al (additions_begin count) fs o gs o
  does_begin_additions gs end count v c d k l i y al =
      record { after = λ s h. go s (on_top fs rest f (Components true 0 given start) o s a (b ∙ (ap (λ x. Components x due given start) c ∙ ap (λ k. Components true k given start) d)) h) }
    where
      go : (s : State) → IsOpen (λ q t. Holds rest q t) true 0 given start o s → (t : State) × (run al (additions_begin count) s ≡ Some t) × Holds gs o t
      go s h =
          let z : State = ([], added count h.presence_bits h.inner [] h.outer.0 ∷ h.outer.1) in
          let field_list_is : o.field_list ≡ h.front ++ (as_field_list (preamble true h.presence_bits) ++ h.inner) = h.field_list ∙
          ap (λ l. h.front ++ (as_field_list (preamble true l) ++ h.inner)) (append-nil h.presence_bits) in (
            z,
            ap (run al (additions_begin count)) h.is,
            put_back rest gs (Added (kept count given start end v)) o z y (record {
              front = h.front;
              presence_bits = h.presence_bits;
              root = h.inner;
              inner = [];
              outer = h.outer;
              field_list = field_list_is ∙ ap (λ l. h.front ++ (as_field_list (preamble true h.presence_bits) ++ l)) (sym (append-nil h.inner));
              bits = h.bits;
              starts = h.starts;
              told = h.told;
              ends = omega (arith, l, length-open _ true 0 given start o s h);
              end_bits = ap (λ t. length (solid t)) (sym field_list_is) ∙ sym k;
              under = h.under;
              is = ap (λ w. let l : State = ([], added count h.presence_bits h.inner w h.outer.0 ∷ h.outer.1) in l) (sym i);
            }),
          )

  pub no_additions_begin : (al : Bool) (count : ℕ) → (e ≡ true → 0 < due) → (s : State) → Holds fs o s → run al (additions_begin count) s ≡ None
  no_additions_begin al count n s q = let h = on_top fs rest f (Components e due given start) o s a b q in ap (run al (additions_begin count)) h.is ∙ go e due n h.inner h.presence_bits h.outer
    where
      go : (e : Bool) (due : ℕ) → (e ≡ true → 0 < due) → (os : FieldList) (ms : List Bool) (t : State) → run al (additions_begin count) (os, components e due ms t.0 ∷ t.1) ≡ None
      go false due n os ms t = refl
      go true zero n os ms t = absurd (omega (arith, n refl))
      go true (suc due) n os ms t = refl

-- ---- each is present or not

module _ (below : Packed → State → Type 0) (due given : ℕ) (start end : Position) (slots : List (Option (List Bool))) (o : Packed) (s : State) (h : IsAdded below due given start end slots o s) where
  -- the same with this number due, and with these
  abbrev pub turned : ℕ → List (Option (List Bool)) → State
  turned n others = (h.inner, added n h.presence_bits h.root others h.outer.0 ∷ h.outer.1)

  pub still_open : (n : ℕ) (others : List (Option (List Bool))) → IsAdded below n given start end others o (turned n others)
  still_open n others = record {
    front = h.front;
    presence_bits = h.presence_bits;
    root = h.root;
    inner = h.inner;
    outer = h.outer;
    field_list = h.field_list;
    bits = h.bits;
    starts = h.starts;
    told = h.told;
    ends = h.ends;
    end_bits = h.end_bits;
    under = h.under;
    is = refl;
  }

module _ (fs rest : List Frame) (f : Frame) (ad : Additions) (o : Packed) (a : fs ≡ f ∷ rest) (b : f ≡ Added ad) where
  abbrev below : Packed → State → Type 0
  below q t = Holds rest q t

  abbrev Open : State → Type 0
  Open s = IsAdded below ad.due ad.given ad.start ad.end ad.slots o s

  top : (s : State) → Holds fs o s → Open s
  top s h = on_top fs rest f (Added ad) o s a b h

  abbrev then_state : (s : State) → Open s → ℕ → List (Option (List Bool)) → State
  then_state s h n slots = turned below ad.due ad.given ad.start ad.end ad.slots o s h n slots

  then_open : (s : State) (h : Open s) (n : ℕ) (slots others : List (Option (List Bool))) → others ≡ slots → IsAdded below n ad.given ad.start ad.end others o (then_state s h n slots)
  then_open s h n slots others e = subst (λ l. IsAdded below n ad.given ad.start ad.end l o (then_state s h n slots)) (sym e) (still_open below ad.due ad.given ad.start ad.end ad.slots o s h n slots)

  one_due : (s : State) (h : Open s) (al present : Bool) → (ad.due ≡ 0 → ⊥) → run al (addition present) s ≡ run al (addition present) (then_state s h (suc (ad.due - 1)) ad.slots)
  one_due s h al present n =
      let one : ad.due ≡ suc (ad.due - 1) = omega arith in
      ap (run al (addition present)) (h.is ∙ ap (λ k. then_state s h k ad.slots) one)

  pub does_pass : (gs : List Frame) (v : List (Option (List Bool))) (present : Bool) → present ≡ false → (ad.due ≡ 0 → ⊥) →
      v ≡ ad.slots ++ None ∷ [] → gs ≡ Added (kept (ad.due - 1) ad.given ad.start ad.end v) ∷ rest → (al : Bool) → Does al (addition present) fs o gs o
  does_pass gs v true p n i y al = cc
  does_pass gs v false p n i y al = record { after = λ s h. go s (top s h) }
    where
      go : (s : State) → Open s → (t : State) × (run al (addition false) s ≡ Some t) × Holds gs o t
      go s h =
          let slots : List (Option (List Bool)) = ad.slots ++ None ∷ [] in (
            then_state s h (ad.due - 1) slots,
            one_due s h al false n,
            put_back rest gs (Added (kept (ad.due - 1) ad.given ad.start ad.end v)) o
                (then_state s h (ad.due - 1) slots) y (then_open s h (ad.due - 1) slots v i),
          )

  pub does_open : (gs hs : List Frame) (v : List (Option (List Bool))) (outer p : Packed) (present : Bool) → present ≡ true → (ad.due ≡ 0 → ⊥) →
      v ≡ ad.slots → outer ≡ o → p ≡ record { field_list = []; placed = true } → gs ≡ Added (kept (ad.due - 1) ad.given ad.start ad.end v) ∷ rest →
      hs ≡ OpenType outer ∷ gs → (al : Bool) → Does al (addition present) fs o hs p
  does_open gs hs v outer p false c n j i e y x al = cc
  does_open gs hs v outer p true c n j i e y x al = record { after = λ s h. go s (top s h) }
    where
      go : (s : State) → Open s → (t : State) × (run al (addition true) s ≡ Some t) × Holds hs p t
      go s h =
          let t : State = then_state s h (ad.due - 1) ad.slots in
          let z : State = ([], open_type t.0 ∷ t.1) in
          let under : Holds gs o t = put_back rest gs (Added (kept (ad.due - 1) ad.given ad.start ad.end v)) o t y (then_open s h (ad.due - 1) ad.slots v j) in (
            z,
            one_due s h al true n,
            put_back gs hs (OpenType outer) p z x
                (t, ap (λ (l : Packed). let q : State = (l.field_list, open_type t.0 ∷ t.1) in q) (sym e), ap (λ (l : Packed). l.placed) e, subst (λ l. Holds gs l t) (sym i) under),
          )

  pub none_due : (al present : Bool) → ad.due ≡ 0 → (s : State) → Holds fs o s → run al (addition present) s ≡ None
  none_due al present n s q = let h = top s q in ap (run al (addition present)) (h.is ∙ ap (λ k. then_state s h k ad.slots) n)

-- the additions after the next one, by their parts
next_is : {here : Bool} {x y : Additions} → Next here x y → y ≡ kept (x.due - 1) x.given x.start x.end y.slots
next_is {here} {x} {y} n =
    ap (λ k. kept k y.given y.start y.end y.slots) n.counts
    ∙ (ap (λ k. kept (x.due - 1) k y.start y.end y.slots) n.given
    ∙ (ap (λ p. kept (x.due - 1) x.given p y.end y.slots) n.start
    ∙ ap (λ p. kept (x.due - 1) x.given x.start p y.slots) n.end))

pub does_no_addition : (present : Bool) (fs gs : List Frame) (o : Packed) → present ≡ false → CountsAddition present fs gs → (al : Bool) → Does al (addition present) fs o gs o
does_no_addition present fs gs o e c al =
    does_pass fs c.around (Added c.old) c.old o c.before refl gs c.new.slots present e (λ z. absurd (omega (arith, z, c.next.one)))
    (c.next.slots ∙ ap (λ b. cond b c.old.slots (c.old.slots ++ None ∷ [])) e) (c.after ∙ ap (λ x. Added x ∷ c.around) (next_is c.next)) al

pub does_addition : (present : Bool) (fs gs hs : List Frame) (o outer p : Packed) → present ≡ true → CountsAddition present fs gs → outer ≡ o →
    p ≡ record { field_list = []; placed = true } → hs ≡ OpenType outer ∷ gs → (al : Bool) → Does al (addition present) fs o hs p
does_addition present fs gs hs o outer p e c i n x al =
    does_open fs c.around (Added c.old) c.old o c.before refl gs hs c.new.slots outer p present e (λ z. absurd (omega (arith, z, c.next.one)))
    (c.next.slots ∙ ap (λ b. cond b c.old.slots (c.old.slots ++ None ∷ [])) e) i n (c.after ∙ ap (λ x. Added x ∷ c.around) (next_is c.next)) x al

-- ---- one that is present ends

module _ (fs mid rest : List Frame) (f g : Frame) (ad : Additions) (outer o : Packed) (a : fs ≡ f ∷ mid) (b : f ≡ OpenType outer) where
  pub does_end_addition : (gs : List Frame) (v : List (Option (List Bool))) (p : Packed) (contents : List Bool) → mid ≡ g ∷ rest → g ≡ Added ad →
      p ≡ outer → (o.placed ≡ true → plain o.field_list ≡ Some contents) → v ≡ ad.slots ++ Some contents ∷ [] →
      gs ≡ Added (kept ad.due ad.given ad.start ad.end v) ∷ rest → (al : Bool) → Does al addition_ends fs o gs p
  does_end_addition gs v p contents c d e i j y al = record { after = λ s h. let k = on_top fs mid f (OpenType outer) o s a b h in go s k (on_top mid rest g (Added ad) outer k.0 c d k.3) }
    where
      go : (s : State) (k : Holds (OpenType outer ∷ mid) o s) → IsAdded (λ q t. Holds rest q t) ad.due ad.given ad.start ad.end ad.slots outer k.0 →
          (t : State) × (run al addition_ends s ≡ Some t) × Holds gs p t
      go s k h =
          let ends_with : List Bool → State = λ w. then_state mid rest g ad outer c d k.0 h ad.due (ad.slots ++ Some w ∷ []) in
          let slots : List (Option (List Bool)) = ad.slots ++ Some contents ∷ [] in
          let inside : (let l : State = (o.field_list, open_type k.0.0 ∷ k.0.1) in l)
          ≡ (o.field_list, open_type h.inner ∷ added ad.due h.presence_bits h.root ad.slots h.outer.0 ∷ h.outer.1) =
          ap (λ (u : State). let l : State = (o.field_list, open_type u.0 ∷ u.1) in l) h.is in (
            ends_with contents,
            ap (run al addition_ends) (k.1 ∙ inside) ∙ ap (option_map ends_with) (i k.2),
            put_back rest gs (Added (kept ad.due ad.given ad.start ad.end v)) p (ends_with contents) y
                (subst (λ l. IsAdded (λ q t. Holds rest q t) ad.due ad.given ad.start ad.end v l (ends_with contents)) (sym e) (then_open mid rest g ad outer c d k.0 h ad.due slots v j)),
          )

  -- only an addition ends like this
  abbrev pub IsNotAdded : List Frame → Type 0
  IsNotAdded (Added x ∷ gs) = ⊥
  IsNotAdded gs = Unit {0}

  not_added : (gs : List Frame) (q : Packed) (t : State) → Holds gs q t → IsNotAdded gs → added_one o.field_list (open_type t.0 ∷ t.1) ≡ None
  not_added [] q t h n = ap (λ (u : State). added_one o.field_list (open_type u.0 ∷ u.1)) h.1
  not_added (Components e due given start ∷ gs) q t h n = ap (λ (u : State). added_one o.field_list (open_type u.0 ∷ u.1)) h.is
  not_added (Added x ∷ gs) q t h n = absurd n
  not_added (OpenType x ∷ gs) q t h n = ap (λ (u : State). added_one o.field_list (open_type u.0 ∷ u.1)) h.1
  not_added (Members d ∷ gs) q t h n = ap (λ (u : State). added_one o.field_list (open_type u.0 ∷ u.1)) h.1
  not_added (Bag x ∷ gs) q t h n = ap (λ (u : State). added_one o.field_list (open_type u.0 ∷ u.1)) h.1
  not_added (Alternative ∷ gs) q t h n = ap (λ (u : State). added_one o.field_list (open_type u.0 ∷ u.1)) h.1

  pub no_end_addition : IsNotAdded mid → (al : Bool) (s : State) → Holds fs o s → run al addition_ends s ≡ None
  no_end_addition n al s h = let k = on_top fs mid f (OpenType outer) o s a b h in ap (run al addition_ends) k.1 ∙ not_added mid outer k.0 k.3 n

-- the additions with the bits of one more, by their parts
keeps_is : {contents : List Bool} {x y : Additions} → Keeps contents x y → y ≡ kept x.due x.given x.start x.end y.slots
keeps_is {contents} {x} {y} n =
    ap (λ k. kept k y.given y.start y.end y.slots) n.counts
    ∙ (ap (λ k. kept x.due k y.start y.end y.slots) n.given
    ∙ (ap (λ p. kept x.due x.given p y.end y.slots) n.start
    ∙ ap (λ p. kept x.due x.given x.start p y.slots) n.end))

pub does_keep_addition : (fs mid gs : List Frame) (f : Frame) (outer o p : Packed) (contents : List Bool) → fs ≡ f ∷ mid → f ≡ OpenType outer →
    KeepsAddition contents mid gs → p ≡ outer → (o.placed ≡ true → plain o.field_list ≡ Some contents) → (al : Bool) → Does al addition_ends fs o gs p
does_keep_addition fs mid gs f outer o p contents a b k e i al =
    does_end_addition fs mid k.around f (Added k.old) k.old outer o a b gs k.new.slots p contents k.before refl e i k.next.slots (k.after ∙ ap (λ x. Added x ∷ k.around) (keeps_is k.next)) al
