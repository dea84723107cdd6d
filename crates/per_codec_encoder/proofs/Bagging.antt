-- Bags that begin, continue and end, in the field-lists and the frames of an encoder.
use Rattle.std.proofs.Common.{◌≡◌, ℕ, Bool, false, List, [], ◌∷◌, ◌++◌, Some, None, Box, Global, Result, Ok, Err, MatchResult, refl, ap, subst, sym, ◌∙◌}
use Rattle.asn1_model.specs.Per
use Rattle.asn1_model.specs.Schema.{Size, Counts}
use Rattle.asn1_schema_constraints.specs.Bounds.{members_of}
use Rattle.asn1_schema_constraints.specs.Terms.{size_of}
use Rattle.asn1_schema_constraints.specs.declared.bounds.Bounded.{Bounded}
use Rattle.asn1_schema_constraints.specs.declared.sizes.Sizes.{Sizes}
use Rattle.asn1_schema_errors.specs.declared.EncodeError.{EncodeError}
use Rattle.asn1_schema_errors.specs.declared.EncodeError.TheVariants.{ValueConstraintNotSatisfied}
use Rattle.asn1_schema_errors.specs.declared.EncodeError.TheVariants.{SizeConstraintNotSatisfied}
use Rattle.asn1_schema_errors.specs.declared.EncodeError.TheVariants.{AlphabetConstraintNotSatisfied, TooLongValue}
use Rattle.asn1_schema_errors.specs.declared.EncodeError.TheVariants.{LengthExceedsPlatformSize, CallOutOfPlace}
use Rattle.asn1_schema_errors.specs.declared.EncodeError.TheVariants.{OutOfMemory, AlreadyFailed}
use Rattle.asn1_schema_laws.specs.Records.{bag_begins, further, ends}
use Rattle.per_codec_packing.specs.FieldLists.{FieldList, field_list_at}
use Rattle.per_codec_packing.specs.Packed.{Packed, place, plus}
use Rattle.per_codec_packing.proofs.Adding.{added}
use Rattle.per_codec_encoder.specs.Steps.{Scope, bag_members, State, list_heading, with_open, bag_opened, closed_bag, adds_field_list, run}
use Rattle.per_codec_writing.specs.Writing.{Adds, Refuses}
use Rattle.per_codec_encoder.specs.declared.frame.Bag.{Bag as BagFrame}
use Rattle.per_codec_encoder.specs.declared.frame.Frame.{Frame}
use Rattle.per_codec_encoder.specs.declared.frame.Frame.TheVariants.{Bag}
use Rattle.per_codec_encoder.specs.Bags.{bag_of, form_of, further_in, GoesOnInBag, NoFurther}
use Rattle.per_codec_writing.specs.Headings.{NoHeading}
use Rattle.per_codec_encoder.proofs.Judged.{IsThere}
use Rattle.per_codec_encoder.specs.Holding.{Holds, Does, Cannot}
use Rattle.per_codec_encoder.proofs.Scopes.{at_end, appended, on_top, put_back}

-- ---- a bag begins

-- what holds for a bag holds for its box
boxed_holds : (boxed : Box BagFrame Global) (b : BagFrame) → boxed.value ≡ b → (fs : List Frame) (o : Packed) (s outer : State) →
    s ≡ (o.field_list, bag_of b outer.0 ∷ outer.1) → o.placed ≡ false → Holds fs b.outer outer → Holds (Bag boxed ∷ fs) o s
boxed_holds boxed b v fs o s outer x y z = (outer, subst (λ (w : BagFrame). s ≡ (o.field_list, bag_of w outer.0 ∷ outer.1)) (sym v) x, y, subst (λ (w : BagFrame). Holds fs w.outer outer) (sym v) z)

pub does_begin_bag : (al : Bool) (fs gs : List Frame) (o r outer : Packed) (sizes : Sizes) (held : Bounded ℕ) (n : ℕ) (boxed : Box BagFrame Global) →
    IsThere (list_heading al (size_of sizes) (members_of held) n (place o)) → outer ≡ o → r ≡ record { field_list = []; placed = false } →
    boxed.value ≡ record { outer = outer; sizes = sizes; held = held; due = n; members = None } → gs ≡ Bag boxed ∷ fs → Does al (bag_begins (size_of sizes) (members_of held) n) fs o gs r
does_begin_bag al fs gs o r outer sizes held n boxed x a c v y =
    record {
      after = λ s k. (
        go s,
        ap (λ q. bag_opened (size_of sizes) (members_of held) n s (list_heading al (size_of sizes) (members_of held) n q))
            (at_end fs o s k) ∙ ap (bag_opened (size_of sizes) (members_of held) n s) x.1,
        put_back fs gs (Bag boxed) r (go s) y
            (boxed_holds boxed _ v fs r (go s) s (shown_as s) (ap (λ (l : Packed). l.placed) c) (subst (λ l. Holds fs l s) (sym a) k)),
      );
    }
  where
    go : State → State
    go s = ([], bag_members (size_of sizes) (members_of held) n None s.0 ∷ s.1)

    shown_as : (s : State) → go s ≡ (r.field_list, bag_members (size_of sizes) (members_of held) n None s.0 ∷ s.1)
    shown_as s = ap (λ (q : Packed). let l : State = (q.field_list, bag_members (size_of sizes) (members_of held) n None s.0 ∷ s.1) in l) (sym c)

pub cannot_begin_bag : (al : Bool) (fs : List Frame) (o : Packed) (z : Size) (h : Counts) (n : ℕ) (e : EncodeError) →
    NoHeading (list_heading al z h n (place o)) e → Cannot al (bag_begins z h n) fs o e
cannot_begin_bag al fs o z h n e x = go e x
  where
    none : list_heading al z h n (place o) ≡ None → (s : State) → Holds fs o s → run al (bag_begins z h n) s ≡ None
    none e s k = ap (λ q. bag_opened z h n s (list_heading al z h n q)) (at_end fs o s k) ∙ ap (bag_opened z h n s) e

    go : (e : EncodeError) → NoHeading (list_heading al z h n (place o)) e → Cannot al (bag_begins z h n) fs o e
    go OutOfMemory x = tt
    go ValueConstraintNotSatisfied x = none x
    go SizeConstraintNotSatisfied x = none x
    go AlphabetConstraintNotSatisfied x = none x
    go TooLongValue x = none x
    go LengthExceedsPlatformSize x = none x
    go CallOutOfPlace x = absurd x
    go AlreadyFailed x = x

-- ---- a further element

module _ (al : Bool) (fs rest : List Frame) (f : Frame) (boxed : Box BagFrame Global) (o : Packed) (x : fs ≡ f ∷ rest) (y : f ≡ Bag boxed) where
  top : (s : State) → Holds fs o s → Holds (Bag boxed ∷ rest) o s
  top s h = on_top fs rest f (Bag boxed) o s x y h

  does_further_bag : (gs : List Frame) (p : Packed) (next : Box BagFrame Global) (more : Bool) → GoesOnInBag more boxed.value o next.value p → gs ≡ Bag next ∷ rest → Does al (further more) fs o gs p
  does_further_bag gs p next more g c = record { after = λ s h. go s (top s h) }
    where
      go : (s : State) → Holds (Bag boxed ∷ rest) o s → (t : State) × (run al (further more) s ≡ Some t) × Holds gs p t
      go s h =
          let t : State = (p.field_list, bag_of next.value h.0.0 ∷ h.0.1) in
          (t, ap (run al (further more)) h.1 ∙ g.goes h.0.0 h.0.1, put_back rest gs (Bag next) p t c (h.0, refl, g.unplaced h.2, subst (λ l. Holds rest l h.0) (sym g.outer) h.3))

  cannot_further_bag : (e : EncodeError) (more : Bool) → NoFurther more boxed.value o e → Cannot al (further more) fs o e
  cannot_further_bag e more x = go e x
    where
      none : ((front : FieldList) (k : List Scope) → further_in more boxed.value o.field_list front k ≡ None) → (s : State) → Holds fs o s → run al (further more) s ≡ None
      none x s k = let h = top s k in ap (run al (further more)) h.1 ∙ x h.0.0 h.0.1

      go : (e : EncodeError) → NoFurther more boxed.value o e → Cannot al (further more) fs o e
      go OutOfMemory x = tt
      go ValueConstraintNotSatisfied x = none x
      go SizeConstraintNotSatisfied x = absurd x
      go AlphabetConstraintNotSatisfied x = none x
      go TooLongValue x = none x
      go LengthExceedsPlatformSize x = none x
      go CallOutOfPlace x = none x
      go AlreadyFailed x = x

  -- ---- a bag ends

  abbrev all_field_lists : List FieldList
  all_field_lists = with_open boxed.value.members o.field_list

  ended_as : (s : State) (h : Holds (Bag boxed ∷ rest) o s) → boxed.value.due ≡ 0 → run al ends s
      ≡ adds_field_list (field_list_at (form_of al boxed.value all_field_lists) (place boxed.value.outer)) h.0
  ended_as s h n =
      ap (run al ends) h.1
      ∙ ap (λ j. closed_bag al (size_of boxed.value.sizes) (members_of boxed.value.held) j all_field_lists h.0.0 h.0.1) n
      ∙ ap (λ q. adds_field_list (field_list_at (form_of al boxed.value all_field_lists) q) h.0) (at_end rest boxed.value.outer h.0 h.3)

  does_end : (p : Packed) → boxed.value.due ≡ 0 → Adds (field_list_at (form_of al boxed.value all_field_lists) (place boxed.value.outer)) boxed.value.outer p → Does al ends fs o rest p
  does_end p n a = record { after = λ s h. go s (top s h) (added (field_list_at (form_of al boxed.value all_field_lists) (place boxed.value.outer)) boxed.value.outer p a) }
    where
      go : (s : State) → Holds (Bag boxed ∷ rest) o s → (w : FieldList) ×
          (field_list_at (form_of al boxed.value all_field_lists) (place boxed.value.outer) ≡ Some w) × (plus boxed.value.outer w ≡ p) → (t : State) × (run al ends s ≡ Some t) × Holds rest p t
      go s h t =
          let z : State = (h.0.0 ++ t.0, h.0.1) in
          (z, ended_as s h n ∙ ap (λ w. adds_field_list w h.0) t.1, subst (λ l. Holds rest l z) t.2 (appended rest boxed.value.outer h.0 t.0 h.3))

  cannot_end : (e : EncodeError) → boxed.value.due ≡ 0 → Refuses (field_list_at (form_of al boxed.value all_field_lists) (place boxed.value.outer)) e → Cannot al ends fs o e
  cannot_end e n r = go e r
    where
      none : field_list_at (form_of al boxed.value all_field_lists) (place boxed.value.outer) ≡ None → (s : State) → Holds fs o s → run al ends s ≡ None
      none r s k = let h = top s k in ended_as s h n ∙ ap (λ w. adds_field_list w h.0) r

      go : (e : EncodeError) → Refuses (field_list_at (form_of al boxed.value all_field_lists) (place boxed.value.outer)) e → Cannot al ends fs o e
      go OutOfMemory r = tt
      go ValueConstraintNotSatisfied r = none r
      go SizeConstraintNotSatisfied r = none r
      go AlphabetConstraintNotSatisfied r = none r
      go TooLongValue r = none r
      go LengthExceedsPlatformSize r = none r
      go CallOutOfPlace r = absurd r
      go AlreadyFailed r = r

  -- the same by the bag that was in the box
  module _ (bag : BagFrame) (v : bag ≡ boxed.value) (n : bag.due ≡ 0) where
    none_due : boxed.value.due ≡ 0
    none_due = ap (λ (b : BagFrame). b.due) (sym v) ∙ n

    abbrev form_with : BagFrame → Per.BitForm
    form_with b = form_of al b (with_open b.members o.field_list)

    pub does_end_bag : (p : Packed) → Adds (field_list_at (form_with bag) (place bag.outer)) bag.outer p → Does al ends fs o rest p
    does_end_bag p a = does_end p none_due (subst (λ (b : BagFrame). Adds (field_list_at (form_with b) (place b.outer)) b.outer p) v a)

    pub cannot_end_bag : (e : EncodeError) → Refuses (field_list_at (form_with bag) (place bag.outer)) e → Cannot al ends fs o e
    cannot_end_bag e r = cannot_end e none_due (subst (λ (b : BagFrame). Refuses (field_list_at (form_with b) (place b.outer)) e) v r)

-- ---- a further element, whatever encloses the bag

pub member_of_bag_asked : (al : Bool) (f : Frame) (boxed : Box BagFrame Global) (o : Packed) (y : f ≡ Bag boxed) (g : Frame) (p : Packed)
    (next : Box BagFrame Global) (more : Bool) (r : Result (Unit {0}) EncodeError) → g ≡ Bag next →
    MatchResult r (λ _. GoesOnInBag more boxed.value o next.value p) (λ e. NoFurther more boxed.value o e) →
    MatchResult r (λ _. (fs : List Frame) → Does al (further more) (f ∷ fs) o (g ∷ fs) p) (λ e. (fs : List Frame) → Cannot al (further more) (f ∷ fs) o e)
member_of_bag_asked al f boxed o y g p next more (Ok x) c m = λ fs. does_further_bag al (f ∷ fs) fs f boxed o refl y (g ∷ fs) p next more m (ap (λ k. k ∷ fs) c)
member_of_bag_asked al f boxed o y g p next more (Err e) c m = λ fs. cannot_further_bag al (f ∷ fs) fs f boxed o refl y e more m
