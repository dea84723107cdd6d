-- Sequences and lists that begin and continue, in the field-lists and the frames of an encoder.
use Rattle.std.proofs.Common.{◌≡◌, ℕ, suc, ◌+◌, ◌-◌, ◌^◌, ◌<◌, Bool, true, false, cond, not, ltb, List, [], ◌∷◌, ◌++◌}
use Rattle.std.proofs.Common.{length, replicate, Some, None, Result, Ok, Err, MatchResult, refl, ap, subst, sym, ◌∙◌}
use Rattle.std.proofs.Common.{arith, append_assoc, length-append}
use mir.Val.{bool_byte}
use mathlib.Core.Bool.{beq}
use Rattle.std.proofs.lemmas.Bool.{ltb-true, ltb-false}
use Rattle.std.proofs.lemmas.List.{append-nil}
use Rattle.asn1_model.specs.Schema.{Size, Counts}
use Rattle.asn1_model.specs.Numbers.{is_count_within}
use Rattle.asn1_schema_errors.specs.declared.EncodeError.{EncodeError}
use Rattle.asn1_schema_errors.specs.declared.EncodeError.TheVariants.{ValueConstraintNotSatisfied}
use Rattle.asn1_schema_errors.specs.declared.EncodeError.TheVariants.{SizeConstraintNotSatisfied}
use Rattle.asn1_schema_errors.specs.declared.EncodeError.TheVariants.{AlphabetConstraintNotSatisfied, TooLongValue}
use Rattle.asn1_schema_errors.specs.declared.EncodeError.TheVariants.{LengthExceedsPlatformSize, CallOutOfPlace}
use Rattle.asn1_schema_errors.specs.declared.EncodeError.TheVariants.{OutOfMemory, AlreadyFailed}
use Rattle.asn1_schema_laws.specs.Records.{sequence_begins, presence_bit, further, list_begins}
use Rattle.per_codec_packing.specs.FieldLists.{FieldList, bit, as_field_list}
use Rattle.per_codec_packing.proofs.Formed.{as_field_list-append}
use Rattle.per_codec_packing.specs.Packed.{Packed, place, plus, solid, with_bit}
use Rattle.per_codec_packing.proofs.Bits.{solid-append, solid-bits, changed_behind}
use Rattle.per_codec_encoder.specs.Steps.{LengthDeterminants, Scope, components, members, extension_bit_width, State, position, heading, list_heading, headed, goes_on_in, counted_on, run}
use Rattle.per_codec_encoder.specs.declared.frame.Frame.{Frame}
use Rattle.per_codec_encoder.specs.declared.frame.Frame.TheVariants.{Components, Members}
use Rattle.per_codec_encoder.specs.declared.frame.Position.{Position}
use Rattle.per_codec_writing.specs.declared.length.Due.{Due}
use Rattle.per_codec_writing.specs.Headings.{determinants_of, Heads, NoHeading}
use Rattle.per_codec_encoder.specs.Headings.{GoesOn, GoesOnInList, NoMember}
use Rattle.asn1_schema_reading_laws.specs.PresenceBits.{preamble}
use Rattle.per_codec_encoder.specs.Holding.{at, IsOpen, Holds, AreSound, Does, Cannot}
use Rattle.per_codec_encoder.proofs.Scopes.{at_end, appended, on_top, put_back}

-- ---- a sequence begins

zero_bits : (e : Bool) (n : ℕ) → replicate (extension_bit_width e + n) false ≡ preamble e (replicate n false)
zero_bits true n = let q : 1 + n ≡ suc n = omega arith in ap (λ k. replicate k false) q
zero_bits false n = let q : 0 + n ≡ n = omega arith in ap (λ k. replicate k false) q

opened : (fs : List Frame) (o : Packed) (s : State) (e : Bool) (n : ℕ) (start : Position) → Holds fs o s → start.bits ≡ length (solid o.field_list) →
    at start ≡ length o.field_list → start.bits + (extension_bit_width e + n) < 2 ^ 64 →
    Holds (Components e n 0 start ∷ fs) (plus o (as_field_list (replicate (extension_bit_width e + n) false))) ([], components e n [] s.0 ∷ s.1)
opened fs o s e n start h a c b = record {
  front = o.field_list;
  inner = [];
  presence_bits = [];
  outer = s;
  field_list = ap (λ l. o.field_list ++ l) (ap as_field_list (zero_bits e n) ∙ sym (append-nil (as_field_list (preamble e (replicate n false)))));
  bits = sym a;
  starts = sym c;
  told = refl;
  counts = omega (arith, b);
  under = h;
  is = refl;
}

pub does_begin : (fs gs : List Frame) (o p : Packed) (e : Bool) (n : ℕ) (start : Position) (end : ℕ) → start.bits ≡ length (solid o.field_list) →
    at start ≡ length o.field_list → end ≡ start.bits + (cond e 1 0 + n) → end < 2 ^ 64 →
    p ≡ plus o (as_field_list (replicate (end - length (solid o.field_list)) false)) → gs ≡ Components e n 0 start ∷ fs → (al : Bool) → Does al (sequence_begins e n) fs o gs p
does_begin fs gs o p e n start end a d b c x y al =
    record { after = λ s h. (z s, refl, put_back fs gs _ p (z s) y (subst (λ l. Holds (Components e n 0 start ∷ fs) l (z s)) (sym q) (opened fs o s e n start h a d (omega (arith, b, c))))) }
  where
    z : State → State
    z s = ([], components e n [] s.0 ∷ s.1)

    q : p ≡ plus o (as_field_list (replicate (extension_bit_width e + n) false))
    q = let k : end - length (solid o.field_list) ≡ extension_bit_width e + n = omega (arith, a, b) in x ∙ ap (λ m. plus o (as_field_list (replicate m false))) k

-- ---- a presence bit

-- the next bit among those that are due
seam : (e : Bool) (front : FieldList) (ms rest : List Bool) (inner : FieldList) (b : Bool) →
    front ++ (as_field_list (preamble e ((ms ++ b ∷ []) ++ rest)) ++ inner) ≡ (front ++ as_field_list (preamble e ms)) ++ bit b ∷ (as_field_list rest ++ inner)
seam e front ms rest inner b = ap (λ l. front ++ l) (core e) ∙ sym (append_assoc front (as_field_list (preamble e ms)) (bit b ∷ (as_field_list rest ++ inner)))
  where
    base : as_field_list ((ms ++ b ∷ []) ++ rest) ++ inner ≡ as_field_list ms ++ bit b ∷ (as_field_list rest ++ inner)
    base = ap (λ l. as_field_list l ++ inner) (append_assoc ms (b ∷ []) rest) ∙ ap (λ t. t ++ inner) (sym (as_field_list-append ms (b ∷ rest))) ∙
        append_assoc (as_field_list ms) (bit b ∷ as_field_list rest) inner

    core : (e : Bool) → as_field_list (preamble e ((ms ++ b ∷ []) ++ rest)) ++ inner ≡ as_field_list (preamble e ms) ++ bit b ∷ (as_field_list rest ++ inner)
    core true = ap (λ l. bit false ∷ l) base
    core false = base

bits_front : (e : Bool) (front : FieldList) (ms : List Bool) → length (solid (front ++ as_field_list (preamble e ms))) ≡ length (solid front) + (extension_bit_width e + length ms)
bits_front e front ms = ap length (solid-append front (as_field_list (preamble e ms)) ∙ ap (λ l. solid front ++ l) (solid-bits (preamble e ms))) ∙
    length-append (solid front) (preamble e ms) ∙ ap (λ n. length (solid front) + n) (of_preamble e)
  where
    of_preamble : (e : Bool) → length (preamble e ms) ≡ extension_bit_width e + length ms
    of_preamble true = omega arith
    of_preamble false = omega arith

module _ (below : Packed → State → Type 0) (e : Bool) (d given : ℕ) (start : Position) (o : Packed) (s : State) (h : IsOpen below e (suc d) given start o s) where
  abbrev then_state : Bool → State
  then_state b = (h.inner, components e d (h.presence_bits ++ b ∷ []) h.outer.0 ∷ h.outer.1)

  abbrev left : FieldList
  left = h.front ++ as_field_list (preamble e h.presence_bits)

  before : o.field_list ≡ left ++ bit false ∷ (as_field_list (replicate d false) ++ h.inner)
  before =
      let due : h.presence_bits ++ replicate (suc d) false ≡ (h.presence_bits ++ false ∷ []) ++ replicate d false = sym (append_assoc h.presence_bits (false ∷ []) (replicate d false)) in
      h.field_list ∙ ap (λ l. h.front ++ (as_field_list (preamble e l) ++ h.inner)) due ∙ seam e h.front h.presence_bits (replicate d false) h.inner false

  told_with : (b : Bool) (p : Packed) (i : ℕ) → i ≡ start.bits + (extension_bit_width e + given) →
      p ≡ record { field_list = with_bit i b o.field_list; placed = o.placed } → IsOpen below e d (given + 1) start p (then_state b)
  told_with b p i n x =
      let k : i ≡ length (solid left) + 0 = omega (arith, n, bits_front e h.front h.presence_bits, h.bits, h.told) in
      let changed : with_bit i b o.field_list ≡ left ++ bit b ∷ (as_field_list (replicate d false) ++ h.inner) = ap (with_bit i b) before ∙
      ap (λ j. with_bit j b (left ++ bit false ∷ (as_field_list (replicate d false) ++ h.inner))) k ∙ changed_behind 0 b left (bit false ∷ (as_field_list (replicate d false) ++ h.inner)) in
      subst (λ q. IsOpen below e d (given + 1) start q (then_state b)) (sym x) (record {
        front = h.front;
        inner = h.inner;
        presence_bits = h.presence_bits ++ b ∷ [];
        outer = h.outer;
        field_list = changed ∙ sym (seam e h.front h.presence_bits (replicate d false) h.inner b);
        bits = h.bits;
        starts = h.starts;
        told = omega (arith, length-append h.presence_bits (b ∷ []), h.told);
        counts = omega (arith, h.counts);
        under = h.under;
        is = refl;
      })

  within : start.bits + (extension_bit_width e + given) < length (solid o.field_list)
  within =
      let all : length (solid o.field_list) ≡ length (solid left) + suc (length (solid (as_field_list (replicate d false) ++ h.inner))) =
      ap (λ t. length (solid t)) before ∙ ap length (solid-append left (bit false ∷ (as_field_list (replicate d false) ++ h.inner))) ∙
      length-append (solid left) (false ∷ solid (as_field_list (replicate d false) ++ h.inner)) in
      omega (arith, all, bits_front e h.front h.presence_bits, h.bits, h.told)

byte_of : (b : Bool) → bool_byte b ≡ cond b 1 0
byte_of true = refl
byte_of false = refl

module _ (fs rest : List Frame) (f : Frame) (e : Bool) (due given : ℕ) (start : Position) (o : Packed) (a : fs ≡ f ∷ rest) (b : f ≡ Components e due given start) (n : due ≡ 0 → ⊥) where
  one : due ≡ suc (due - 1)
  one = omega arith

  top : (s : State) → Holds fs o s → IsOpen (λ q t. Holds rest q t) e (suc (due - 1)) given start o s
  top s h = on_top fs rest f _ o s a (b ∙ ap (λ k. Components e k given start) one) h

  pub does_presence_bit : (gs : List Frame) (p : Packed) (m i : ℕ) (present : Bool) → gs ≡ Components e (due - 1) (given + 1) start ∷ rest →
      m ≡ bool_byte e → i ≡ start.bits + m + given → p ≡ record { field_list = with_bit i present o.field_list; placed = o.placed } → (al : Bool) → Does al (presence_bit present) fs o gs p
  does_presence_bit gs p m i present c w x y al = record {
    after = λ s h. let k = top s h in (
      then_state _ e (due - 1) given start o s k present,
      ap (run al (presence_bit present)) k.is,
      put_back rest gs _ p _ c
          (told_with _ e (due - 1) given start o s k present p i (omega (arith, x, w, byte_of e)) y),
    );
  }

  pub bit_within : (m : ℕ) → AreSound fs o → m ≡ bool_byte e → (start.bits + m + given < length (solid o.field_list)) × (start.bits + (m + given + 1) < 2 ^ 64)
  bit_within m s w =
      let k = top s.state s.holds in
      (omega (arith, w, byte_of e, within _ e (due - 1) given start o s.state k), omega (arith, w, byte_of e, k.counts))

-- ---- lists

-- a list that the Rust type holds has the heading of its size
pub held_heads : (al : Bool) (o p : Packed) (z : Size) (h : Counts) (n : ℕ) (d : Due) → is_count_within h n ≡ true →
    Heads (heading al z false n (place o)) o d p → Heads (list_heading al z h n (place o)) o d p
held_heads al o p z h n d e x = record { field_list = x.field_list; is = ap (λ b. cond b (heading al z false n (place o)) None) e ∙ x.is; added = x.added }

pub held_none : (al : Bool) (o : Packed) (z : Size) (h : Counts) (n : ℕ) (e : EncodeError) → NoHeading (heading al z false n (place o)) e → NoHeading (list_heading al z h n (place o)) e
held_none al o z h n e x = go e x
  where
    none : heading al z false n (place o) ≡ None → list_heading al z h n (place o) ≡ None
    none x = by_test (is_count_within h n)
      where
        by_test : (b : Bool) → cond b (heading al z false n (place o)) None ≡ None
        by_test true = x
        by_test false = refl

    go : (e : EncodeError) → NoHeading (heading al z false n (place o)) e → NoHeading (list_heading al z h n (place o)) e
    go OutOfMemory x = tt
    go ValueConstraintNotSatisfied x = none x
    go SizeConstraintNotSatisfied x = none x
    go AlphabetConstraintNotSatisfied x = none x
    go TooLongValue x = none x
    go LengthExceedsPlatformSize x = none x
    go CallOutOfPlace x = x
    go AlreadyFailed x = x

pub not_held : (al : Bool) (o : Packed) (z : Size) (h : Counts) (n : ℕ) → is_count_within h n ≡ false → list_heading al z h n (place o) ≡ None
not_held al o z h n e = ap (λ b. cond b (heading al z false n (place o)) None) e

pub does_begin_members : (al : Bool) (fs gs : List Frame) (o p : Packed) (z : Size) (h : Counts) (n : ℕ) (d : Due) →
    Heads (list_heading al z h n (place o)) o d p → gs ≡ Members d ∷ fs → Does al (list_begins z h n) fs o gs p
does_begin_members al fs gs o p z h n d x y =
    record {
      after = λ s k. let u = go s k in (
        u,
        ap (λ q. headed s.0 s.1 (list_heading al z h n q)) (at_end fs o s k) ∙
            ap (headed s.0 s.1) x.is,
        put_back fs gs (Members d) p u y ((s.0 ++ x.field_list, s.1), refl, subst (λ l. Holds fs l (s.0 ++ x.field_list, s.1)) (sym x.added) (appended fs o s x.field_list k)),
      );
    }
  where
    go : (s : State) → Holds fs o s → State
    go s k = (s.0 ++ x.field_list, members d.units (determinants_of d.behind) ∷ s.1)

pub cannot_begin : (al : Bool) (fs : List Frame) (o : Packed) (z : Size) (h : Counts) (n : ℕ) (e : EncodeError) → NoHeading (list_heading al z h n (place o)) e → Cannot al (list_begins z h n) fs o e
cannot_begin al fs o z h n e x = go e x
  where
    none : list_heading al z h n (place o) ≡ None → (s : State) → Holds fs o s → run al (list_begins z h n) s ≡ None
    none e s k = ap (λ q. headed s.0 s.1 (list_heading al z h n q)) (at_end fs o s k) ∙ ap (headed s.0 s.1) e

    go : (e : EncodeError) → NoHeading (list_heading al z h n (place o)) e → Cannot al (list_begins z h n) fs o e
    go OutOfMemory x = tt
    go ValueConstraintNotSatisfied x = none x
    go SizeConstraintNotSatisfied x = none x
    go AlphabetConstraintNotSatisfied x = none x
    go TooLongValue x = none x
    go LengthExceedsPlatformSize x = none x
    go CallOutOfPlace x = absurd x
    go AlreadyFailed x = x

agree_true : (x : Bool) → not (beq true x) ≡ false → x ≡ true
agree_true true h = refl
agree_true false h = cc

agree_false : (x : Bool) → not (beq false x) ≡ false → x ≡ false
agree_false true h = cc
agree_false false h = refl

differ_true : (x : Bool) → not (beq true x) ≡ true → x ≡ false
differ_true true h = cc
differ_true false h = refl

differ_false : (x : Bool) → not (beq false x) ≡ true → x ≡ true
differ_false true h = refl
differ_false false h = cc

-- an element that is due comes before any further length determinant
pub due_comes : (al more : Bool) (d next : Due) (o : Packed) → more ≡ true → 0 < d.units → next.units ≡ d.units - 1 → next.behind ≡ d.behind → GoesOnInList al more d o next o
due_comes al false d next o e some less same = cc e
due_comes al true d next o e some less same = record {
  field_list = [];
  added = ap (λ t. let q : Packed = record { field_list = t; placed = o.placed } in q) (sym (append-nil o.field_list));
  goes = λ os k q. ap (λ n. goes_on_in al n (determinants_of d.behind) os k true) one ∙
      ap (λ b. let s : State = (os, members next.units (determinants_of b) ∷ k) in Some s) (sym same) ∙
      ap (λ l. let s : State = (l, members next.units (determinants_of next.behind) ∷ k) in Some s) (sym (append-nil os));
}
  where
    one : d.units ≡ suc next.units
    one = omega (arith, some, less)

module _ (al : Bool) (d next : Due) (o p : Packed) (g : GoesOn al d o next p) where
  abbrev less : ℕ → Due
  less k = record { units = next.units - k; behind = next.behind }

  pub comes_next : (k : ℕ) (more : Bool) → not (beq more (ltb 0 next.units)) ≡ false → k ≡ bool_byte more → GoesOnInList al more d o (less k) p
  comes_next k true n x = record {
    field_list = g.field_list;
    added = g.added;
    goes = λ os j q. g.goes os j true q ∙
        ap (λ m. counted_on m (determinants_of next.behind) (os ++ g.field_list) j true) one;
  }
    where
      some : 0 < next.units
      some = ltb-true _ _ (agree_true _ n)

      one : next.units ≡ suc (next.units - k)
      one = omega (arith, x, some)
  comes_next k false n x = record {
    field_list = g.field_list;
    added = g.added;
    goes = λ os j q. g.goes os j false q ∙
        ap (λ m. counted_on m (determinants_of next.behind) (os ++ g.field_list) j false) none ∙
        ap (λ b. counted_on 0 (determinants_of b) (os ++ g.field_list) j false) (g.ready none) ∙ ap (λ m. let l : State = (os ++ g.field_list, m ∷ j) in Some l) (sym now);
  }
    where
      none : next.units ≡ 0
      none = let l = ltb-false _ _ (agree_false _ n) in omega arith

      now : members (next.units - k) (determinants_of next.behind) ≡ members 0 None
      now = let z : next.units - k ≡ 0 = omega (arith, none) in ap (λ j. members j (determinants_of next.behind)) z ∙ ap (λ j. members 0 (determinants_of j)) (g.ready none)

  pub none_next : (more : Bool) → not (beq more (ltb 0 next.units)) ≡ true → NoMember al more d o CallOutOfPlace
  none_next more n = λ os k q. g.goes os k more q ∙ go next.units (determinants_of next.behind) more n (os ++ g.field_list) k
    where
      no_more : (hs : LengthDeterminants) (os : FieldList) (k : List Scope) → counted_on 0 hs os k true ≡ None
      no_more None os k = refl
      no_more (Some x) os k = refl

      go : (m : ℕ) (hs : LengthDeterminants) (more : Bool) → not (beq more (ltb 0 m)) ≡ true → (os : FieldList) (k : List Scope) → counted_on m hs os k more ≡ None
      go m hs true n os k =
          let e = ltb-false 0 m (differ_true _ n) in
          let z : m ≡ 0 = omega (arith, e) in
          ap (λ j. counted_on j hs os k true) z ∙ no_more hs os k
      go m hs false n os k =
          let e = ltb-true 0 m (differ_false _ n) in
          let z : m ≡ suc (m - 1) = omega (arith, e) in
          ap (λ j. counted_on j hs os k false) z

module _ (al : Bool) (f : Frame) (d : Due) (o : Packed) (b : f ≡ Members d) (rest : List Frame) where
  there : (s : State) → Holds (f ∷ rest) o s → Holds (Members d ∷ rest) o s
  there s h = on_top (f ∷ rest) rest f _ o s refl b h

  does_further : (g : Frame) (p : Packed) (next : Due) (more : Bool) → g ≡ Members next → GoesOnInList al more d o next p → Does al (further more) (f ∷ rest) o (g ∷ rest) p
  does_further g p next more c x = record { after = λ s h. go s (there s h) }
    where
      go : (s : State) → Holds (Members d ∷ rest) o s → (t : State) × (run al (further more) s ≡ Some t) × Holds (g ∷ rest) p t
      go s h = (
        (h.0.0 ++ x.field_list, members next.units (determinants_of next.behind) ∷ h.0.1),
        ap (run al (further more)) h.1 ∙
            x.goes h.0.0 h.0.1 (at_end rest o h.0 h.2),
        put_back rest (g ∷ rest) (Members next) p _ (ap (λ k. k ∷ rest) c)
            ((h.0.0 ++ x.field_list, h.0.1), refl, subst (λ l. Holds rest l (h.0.0 ++ x.field_list, h.0.1)) (sym x.added) (appended rest o h.0 x.field_list h.2)),
      )

  cannot_further : (e : EncodeError) (more : Bool) → NoMember al more d o e → Cannot al (further more) (f ∷ rest) o e
  cannot_further e more x = go e x
    where
      none : ((os : FieldList) (k : List Scope) → position (os, k) ≡ place o → goes_on_in al d.units (determinants_of d.behind) os k more ≡ None) →
          (s : State) → Holds (f ∷ rest) o s → run al (further more) s ≡ None
      none x s k = let h = there s k in ap (run al (further more)) h.1 ∙ x h.0.0 h.0.1 (at_end rest o h.0 h.2)

      go : (e : EncodeError) → NoMember al more d o e → Cannot al (further more) (f ∷ rest) o e
      go OutOfMemory x = tt
      go ValueConstraintNotSatisfied x = none x
      go SizeConstraintNotSatisfied x = absurd x
      go AlphabetConstraintNotSatisfied x = none x
      go TooLongValue x = none x
      go LengthExceedsPlatformSize x = none x
      go CallOutOfPlace x = none x
      go AlreadyFailed x = x

pub member_asked : (al : Bool) (f : Frame) (d : Due) (o : Packed) (b : f ≡ Members d) (g : Frame) (p : Packed) (next : Due) (more : Bool)
    (r : Result (Unit {0}) EncodeError) → g ≡ Members next → MatchResult r (λ _. GoesOnInList al more d o next p) (NoMember al more d o) →
    MatchResult r (λ _. (fs : List Frame) → Does al (further more) (f ∷ fs) o (g ∷ fs) p) (λ e. (fs : List Frame) → Cannot al (further more) (f ∷ fs) o e)
member_asked al f d o b g p next more (Ok x) c m = λ fs. does_further al f d o b fs g p next more c m
member_asked al f d o b g p next more (Err e) c m = λ fs. cannot_further al f d o b fs e more m
