-- What the field-lists and the frames of an encoder represent.
use Rattle.std.proofs.Common.{◌≡◌, ℕ, ◌+◌, Bool, true, false, cond, List, [], ◌∷◌, ◌++◌, length, take, drop, replicate}
use Rattle.std.proofs.Common.{Option, Some, None, refl, ap, subst, sym, ◌∙◌, arith, append_assoc, length-append}
use Rattle.std.proofs.lemmas.List.{take_at, drop_at, length-replicate}
use Rattle.per_codec_packing.specs.FieldLists.{FieldList, bit, as_field_list, moved}
use Rattle.per_codec_packing.proofs.Formed.{length-field_list, as_field_list-append}
use Rattle.per_codec_packing.specs.Packed.{Packed, place, plus, solid}
use Rattle.per_codec_packing.proofs.Bits.{solid-bits}
use Rattle.per_codec_encoder.specs.Steps.{components, added, open_type, members, alternative, extension_bit_width, offset, position, State}
use Rattle.per_codec_encoder.specs.declared.frame.Frame.{Frame}
use Rattle.per_codec_encoder.specs.declared.frame.Frame.TheVariants.{Components, Added, OpenType, Members, Bag, Alternative}
use Rattle.per_codec_encoder.specs.declared.frame.Position.{Position}
use Rattle.per_codec_writing.specs.Headings.{determinants_of}
use Rattle.per_codec_encoder.specs.Bags.{bag_of}
use Rattle.asn1_schema_reading_laws.specs.PresenceBits.{preamble}
use Rattle.per_codec_encoder.specs.Holding.{at, instead, shown, IsOpen, IsAdded, Holds}

-- ---- preambles

pub preamble_is : (e : Bool) (ms : List Bool) → as_field_list (preamble e ms) ≡ as_field_list (preamble e []) ++ as_field_list ms
preamble_is true ms = refl
preamble_is false ms = refl

pub length-preamble : (e : Bool) (ms : List Bool) → length (as_field_list (preamble e ms)) ≡ extension_bit_width e + length ms
length-preamble true ms = omega (arith, length-field_list ms)
length-preamble false ms = omega (arith, length-field_list ms)

-- ---- what is shown is what they represent

same_open : (e : Bool) (due : ℕ) (i j : FieldList) (m n : List Bool) (t u : State) → i ≡ j → m ≡ n → t ≡ u →
    (let l : State = (i, components e due m t.0 ∷ t.1) in l) ≡ (j, components e due n u.0 ∷ u.1)
same_open e due i j m n t u a b c =
    ap (λ x. let l : State = (x, components e due m t.0 ∷ t.1) in l) a
    ∙ (ap (λ x. let l : State = (j, components e due x t.0 ∷ t.1) in l) b ∙ ap (λ (x : State). let l : State = (j, components e due n x.0 ∷ x.1) in l) c)

module _ (below : Packed → State → Type 0) (e : Bool) (due given : ℕ) (start : Position) (o : Packed) (s : State) (h : IsOpen below e due given start o s) where
  abbrev zeros : List Bool
  zeros = replicate due false

  abbrev whole : FieldList
  whole = as_field_list (preamble e (h.presence_bits ++ zeros))

  length-front : length (h.front ++ whole) ≡ at start + (extension_bit_width e + (given + due))
  length-front = omega (arith, length-append h.front whole, length-preamble e (h.presence_bits ++ zeros), length-append h.presence_bits zeros, length-replicate due false, h.starts, h.told)

  inner_shown : drop (at start + (extension_bit_width e + (given + due))) o.field_list ≡ h.inner
  inner_shown = ap (drop (at start + (extension_bit_width e + (given + due)))) (h.field_list ∙ sym (append_assoc h.front whole h.inner)) ∙
      drop_at (h.front ++ whole) h.inner (at start + (extension_bit_width e + (given + due))) length-front

  front_shown : take (at start) o.field_list ≡ h.front
  front_shown = ap (take (at start)) h.field_list ∙ take_at h.front (whole ++ h.inner) (at start) h.starts

  apart : o.field_list ≡ (h.front ++ as_field_list (preamble e [])) ++ (as_field_list h.presence_bits ++ (as_field_list zeros ++ h.inner))
  apart =
      let p : whole ++ h.inner ≡ as_field_list (preamble e []) ++ (as_field_list h.presence_bits ++ (as_field_list zeros ++ h.inner)) =
      ap (λ l. l ++ h.inner) (preamble_is e (h.presence_bits ++ zeros) ∙ ap (λ l. as_field_list (preamble e []) ++ l) (sym (as_field_list-append h.presence_bits zeros)))
      ∙ append_assoc (as_field_list (preamble e [])) (as_field_list h.presence_bits ++ as_field_list zeros) h.inner
      ∙ ap (λ l. as_field_list (preamble e []) ++ l) (append_assoc (as_field_list h.presence_bits) (as_field_list zeros) h.inner) in
      h.field_list ∙ ap (λ l. h.front ++ l) p ∙ sym (append_assoc h.front (as_field_list (preamble e [])) (as_field_list h.presence_bits ++ (as_field_list zeros ++ h.inner)))

  presence_shown : solid (take given (drop (at start + extension_bit_width e) o.field_list)) ≡ h.presence_bits
  presence_shown =
      let n : length (h.front ++ as_field_list (preamble e [])) ≡ at start + extension_bit_width e =
      omega (arith, length-append h.front (as_field_list (preamble e [])), length-preamble e [], h.starts) in
      let m : length (as_field_list h.presence_bits) ≡ given = length-field_list h.presence_bits ∙ h.told in
      ap solid (ap (take given) (ap (drop (at start + extension_bit_width e)) apart ∙
      drop_at (h.front ++ as_field_list (preamble e [])) (as_field_list h.presence_bits ++ (as_field_list zeros ++ h.inner))
      (at start + extension_bit_width e) n) ∙ take_at (as_field_list h.presence_bits) (as_field_list zeros ++ h.inner) given m) ∙ solid-bits h.presence_bits

  pub length-open : length o.field_list ≡ at start + (extension_bit_width e + (given + due)) + length h.inner
  length-open = omega (arith, ap length (h.field_list ∙ sym (append_assoc h.front whole h.inner)), length-append (h.front ++ whole) h.inner, length-front)

same_added : (due : ℕ) (slots : List (Option (List Bool))) (i j : FieldList) (m n : List Bool) (r q : FieldList) (t u : State) → i ≡ j → m ≡ n →
    r ≡ q → t ≡ u → (let l : State = (i, added due m r slots t.0 ∷ t.1) in l) ≡ (j, added due n q slots u.0 ∷ u.1)
same_added due slots i j m n r q t u a b c d =
    ap (λ x. let l : State = (x, added due m r slots t.0 ∷ t.1) in l) a
    ∙ (ap (λ x. let l : State = (j, added due x r slots t.0 ∷ t.1) in l) b
    ∙ (ap (λ x. let l : State = (j, added due n x slots t.0 ∷ t.1) in l) c
    ∙ ap (λ (x : State). let l : State = (j, added due n q slots x.0 ∷ x.1) in l) d))

module _ (below : Packed → State → Type 0) (due given : ℕ) (start end : Position) (slots : List (Option (List Bool))) (o : Packed) (s : State) (h : IsAdded below due given start end slots o s) where
  abbrev head : FieldList
  head = h.front ++ (as_field_list (preamble true h.presence_bits) ++ h.root)

  pub length-head : length head ≡ at end
  length-head = omega (
    arith,
    length-append h.front (as_field_list (preamble true h.presence_bits) ++ h.root),
    length-append
        (as_field_list (preamble true h.presence_bits)) h.root,
    length-preamble true h.presence_bits,
    h.starts,
    h.told,
    h.ends,
  )

  in_two : o.field_list ≡ head ++ h.inner
  in_two =
      h.field_list
      ∙ ap (λ l. h.front ++ l) (sym (append_assoc (as_field_list (preamble true h.presence_bits)) h.root h.inner))
      ∙ sym (append_assoc h.front (as_field_list (preamble true h.presence_bits) ++ h.root) h.inner)

  pub head_shown : take (at end) o.field_list ≡ head
  head_shown = ap (take (at end)) in_two ∙ take_at head h.inner (at end) length-head

  behind_shown : drop (at end) o.field_list ≡ h.inner
  behind_shown = ap (drop (at end)) in_two ∙ drop_at head h.inner (at end) length-head

  before_shown : take (at start) o.field_list ≡ h.front
  before_shown = ap (take (at start)) h.field_list ∙ take_at h.front (as_field_list (preamble true h.presence_bits) ++ (h.root ++ h.inner)) (at start) h.starts

  given_shown : solid (take given (drop (at start + 1) o.field_list)) ≡ h.presence_bits
  given_shown =
      let n : length (h.front ++ bit false ∷ []) ≡ at start + 1 = omega (arith, length-append h.front (bit false ∷ []), h.starts) in
      let m : length (as_field_list h.presence_bits) ≡ given = length-field_list h.presence_bits ∙ h.told in
      let apart : o.field_list ≡ (h.front ++ bit false ∷ []) ++ (as_field_list h.presence_bits ++ (h.root ++ h.inner)) = h.field_list ∙
      sym (append_assoc h.front (bit false ∷ []) (as_field_list h.presence_bits ++ (h.root ++ h.inner))) in
      ap solid (ap (take given) (ap (drop (at start + 1)) apart ∙ drop_at (h.front ++ bit false ∷ [])
      (as_field_list h.presence_bits ++ (h.root ++ h.inner)) (at start + 1) n) ∙ take_at (as_field_list h.presence_bits) (h.root ++ h.inner) given m) ∙ solid-bits h.presence_bits

  root_shown : drop (at start + (1 + given)) (take (at end) o.field_list) ≡ h.root
  root_shown =
      let n : length (h.front ++ as_field_list (preamble true h.presence_bits)) ≡ at start + (1 + given) =
      omega (arith, length-append h.front (as_field_list (preamble true h.presence_bits)), length-preamble true h.presence_bits, h.starts, h.told) in
      ap (drop (at start + (1 + given))) (head_shown ∙ sym (append_assoc h.front (as_field_list (preamble true h.presence_bits)) h.root)) ∙
      drop_at (h.front ++ as_field_list (preamble true h.presence_bits)) h.root (at start + (1 + given)) n

  pub length-added : length o.field_list ≡ at end + length h.inner
  length-added = omega (arith, ap length in_two, length-append head h.inner, length-head)

pub shown_is : (fs : List Frame) (o : Packed) (s : State) → Holds fs o s → shown fs o ≡ s
shown_is [] o s h = sym h.1
shown_is (Components e due given start ∷ fs) o s h =
    same_open e due _ h.inner _ h.presence_bits _ h.outer (inner_shown _ e due given start o s h) (presence_shown _ e due given start o s h)
    (ap (λ t. shown fs (instead t o)) (front_shown _ e due given start o s h) ∙ shown_is fs (instead h.front o) h.outer h.under)
    ∙ sym h.is
shown_is (Added a ∷ fs) o s h =
    same_added a.due a.slots _ h.inner _ h.presence_bits _ h.root _ h.outer (behind_shown _ a.due a.given a.start a.end a.slots o s h)
    (given_shown _ a.due a.given a.start a.end a.slots o s h) (root_shown _ a.due a.given a.start a.end a.slots o s h)
    (ap (λ t. shown fs (instead t o)) (before_shown _ a.due a.given a.start a.end a.slots o s h) ∙ shown_is fs (instead h.front o) h.outer h.under)
    ∙ sym h.is
shown_is (OpenType front ∷ fs) o s h = ap (λ (t : State). let l : State = (o.field_list, open_type t.0 ∷ t.1) in l) (shown_is fs front h.0 h.3) ∙ sym h.1
shown_is (Bag b ∷ fs) o s h = ap (λ (t : State). let l : State = (o.field_list, bag_of b.value t.0 ∷ t.1) in l) (shown_is fs b.value.outer h.0 h.3) ∙ sym h.1
shown_is (Alternative ∷ fs) o s h = ap (λ (t : State). let l : State = (t.0, alternative ∷ t.1) in l) (shown_is fs o h.0 h.2) ∙ sym h.1
shown_is (Members d ∷ fs) o s h = ap (λ (t : State). let l : State = (t.0, members d.units (determinants_of d.behind) ∷ t.1) in l) (shown_is fs o h.0 h.2) ∙ sym h.1

-- ---- the position is that of the end of the field-list

-- a field-list that begins a message or open type
first_at_end : (o : Packed) → o.placed ≡ true → Some (0 + length o.field_list) ≡ place o
first_at_end o h = let n : 0 + length o.field_list ≡ length o.field_list = omega arith in ap (λ (k : ℕ). Some k) n ∙ ap (λ b. cond b (Some (length o.field_list)) None) (sym h)

-- a field-list after another, whose position is known or not
moved_on : (q : Option ℕ) (b : Bool) (a c m n k : ℕ) → moved q a ≡ cond b (Some c) None → c + m + n ≡ k → moved (moved q (a + m)) n ≡ cond b (Some k) None
moved_on None true a c m n k h e = cc
moved_on None false a c m n k h e = refl
moved_on (Some p) false a c m n k h e = cc
moved_on (Some p) true a c m n k h e =
    let l : p + a ≡ c = cc h in
    let r : p + (a + m) + n ≡ k = omega (arith, l, e) in
    ap (λ (x : ℕ). Some x) r

pub at_end : (fs : List Frame) (o : Packed) (s : State) → Holds fs o s → position s ≡ place o
at_end [] o s h = ap position h.1 ∙ first_at_end o h.0
at_end (Components e due given start ∷ fs) o s h =
    let m : length h.outer.0 + (extension_bit_width e + length h.presence_bits + due) ≡ length h.outer.0 + (extension_bit_width e + length h.presence_bits + due) = refl in
    ap position h.is
    ∙ moved_on (offset h.outer.1) o.placed (length h.outer.0) (length h.front) (extension_bit_width e + length h.presence_bits + due) (length h.inner)
    (length o.field_list) (at_end fs (instead h.front o) h.outer h.under)
    (omega (arith, h.starts, h.told, length-open _ e due given start o s h))
at_end (Added a ∷ fs) o s h =
    ap position h.is
    ∙ moved_on (offset h.outer.1) o.placed (length h.outer.0) (length h.front) (1 + length h.presence_bits + length h.root) (length h.inner)
    (length o.field_list) (at_end fs (instead h.front o) h.outer h.under)
    (omega (arith, h.starts, h.told, h.ends, length-added _ a.due a.given a.start a.end a.slots o s h))
at_end (OpenType front ∷ fs) o s h = ap position h.1 ∙ first_at_end o h.2
at_end (Bag b ∷ fs) o s h = ap position h.1 ∙ ap (λ b. cond b (Some (length o.field_list)) None) (sym h.2)
at_end (Alternative ∷ fs) o s h = ap position h.1 ∙ at_end fs o h.0 h.2
at_end (Members d ∷ fs) o s h = ap position h.1 ∙ at_end fs o h.0 h.2

-- ---- a field-list after the one that is there

pub appended : (fs : List Frame) (o : Packed) (s : State) (w : FieldList) → Holds fs o s → Holds fs (plus o w) (s.0 ++ w, s.1)
appended [] o s w h = (h.0, ap (λ (t : State). let l : State = (t.0 ++ w, t.1) in l) h.1)
appended (Components e due given start ∷ fs) o s w h = record {
  front = h.front;
  inner = h.inner ++ w;
  presence_bits = h.presence_bits;
  outer = h.outer;
  field_list = ap (λ l. l ++ w) h.field_list ∙
      (append_assoc h.front (as_field_list (preamble e (h.presence_bits ++ replicate due false)) ++ h.inner) w ∙
      ap (λ l. h.front ++ l) (append_assoc (as_field_list (preamble e (h.presence_bits ++ replicate due false))) h.inner w));
  bits = h.bits;
  starts = h.starts;
  told = h.told;
  counts = h.counts;
  under = h.under;
  is = ap (λ (t : State). let l : State = (t.0 ++ w, t.1) in l) h.is;
}
appended (Added a ∷ fs) o s w h = record {
  front = h.front;
  presence_bits = h.presence_bits;
  root = h.root;
  inner = h.inner ++ w;
  outer = h.outer;
  field_list = ap (λ l. l ++ w) h.field_list ∙ (append_assoc h.front (as_field_list (preamble true h.presence_bits) ++ (h.root ++ h.inner)) w ∙
      ap (λ l. h.front ++ l) (append_assoc (as_field_list (preamble true h.presence_bits)) (h.root ++ h.inner) w ∙
      ap (λ l. as_field_list (preamble true h.presence_bits) ++ l) (append_assoc h.root h.inner w)));
  bits = h.bits;
  starts = h.starts;
  told = h.told;
  ends = h.ends;
  end_bits = h.end_bits;
  under = h.under;
  is = ap (λ (t : State). let l : State = (t.0 ++ w, t.1) in l) h.is;
}
appended (OpenType front ∷ fs) o s w h = (h.0, ap (λ (t : State). let l : State = (t.0 ++ w, t.1) in l) h.1, h.2, h.3)
appended (Bag b ∷ fs) o s w h = (h.0, ap (λ (t : State). let l : State = (t.0 ++ w, t.1) in l) h.1, h.2, h.3)
appended (Alternative ∷ fs) o s w h = ((h.0.0 ++ w, h.0.1), ap (λ (t : State). let l : State = (t.0 ++ w, t.1) in l) h.1, appended fs o h.0 w h.2)
appended (Members d ∷ fs) o s w h = ((h.0.0 ++ w, h.0.1), ap (λ (t : State). let l : State = (t.0 ++ w, t.1) in l) h.1, appended fs o h.0 w h.2)

-- ---- the innermost frame comes first

pub on_top : (fs rest : List Frame) (f g : Frame) (o : Packed) (s : State) → fs ≡ f ∷ rest → f ≡ g → Holds fs o s → Holds (g ∷ rest) o s
on_top fs rest f g o s a b h = subst (λ x. Holds (x ∷ rest) o s) b (subst (λ l. Holds l o s) a h)

pub put_back : (rest gs : List Frame) (g : Frame) (o : Packed) (s : State) → gs ≡ g ∷ rest → Holds (g ∷ rest) o s → Holds gs o s
put_back rest gs g o s a h = subst (λ l. Holds l o s) (sym a) h

-- ---- if nothing is open, the field-list is that of the message

pub nothing_open : (fs : List Frame) (o : Packed) (s : State) → Holds fs o s → s.1 ≡ [] → (o.placed ≡ true) × (s ≡ (o.field_list, []))
nothing_open [] o s h e = h
nothing_open (Components e due given start ∷ fs) o s h n = let p = ap (λ (t : State). t.1) h.is in cc
nothing_open (Added a ∷ fs) o s h n = let p = ap (λ (t : State). t.1) h.is in cc
nothing_open (OpenType front ∷ fs) o s h n = let p = ap (λ (t : State). t.1) h.1 in cc
nothing_open (Bag b ∷ fs) o s h n = let p = ap (λ (t : State). t.1) h.1 in cc
nothing_open (Alternative ∷ fs) o s h n = let p = ap (λ (t : State). t.1) h.1 in cc
nothing_open (Members d ∷ fs) o s h n = let p = ap (λ (t : State). t.1) h.1 in cc
