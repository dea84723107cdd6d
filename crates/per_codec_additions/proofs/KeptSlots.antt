-- Additions that are stored.
use Rattle.std.proofs.Common.{◌≡◌, ℕ, zero, suc, ◌+◌, ◌-◌, ◌*◌, ◌^◌, ◌<◌, ◌≤◌, max, Bool, true, false, List, [], ◌∷◌}
use Rattle.std.proofs.Common.{◌++◌, length, length-append, map, take, drop, slice_range, get_or, replicate, Option}
use Rattle.std.proofs.Common.{Some, None, refl, ap, subst, sym, ◌∙◌, arith}
use mir.Val.{bool_byte}
use Rattle.std.proofs.Math.Nat.{pow-suc}
use Rattle.std.proofs.Math.Seq.{drop-append_seam}
use Rattle.std.proofs.lemmas.List.{take_all, take_more, take-append-le, drop_all, drop_more, drop-append-le, length-drop, map-append}
use Rattle.asn1_model.specs.Form.{exactly, is_any_present}
use Rattle.std.specs.Prelude.{is_some}
use Rattle.asn1_model.specs.Numbers.{binary, missing, octet_bits, packed}
use Rattle.asn1_model.specs.Per
use Rattle.asn1_values_bits.specs.Octets.{padded}
use Rattle.asn1_values_bits.proofs.Binary.{binary_join}
use Rattle.per_codec_packing.specs.FieldLists.{field_list_at}
use Rattle.per_codec_additions.specs.Additions.{as_open_types}
use Rattle.per_codec_additions.specs.Slots.{complete_octets, first_bits_of_octets, kept_bits, is_there, IsSlotOf, Keeps, all_bits, EachIsSlotOf, AreSlots}
use Rattle.per_codec_writing.specs.Writing.{Packed, Adds, place}
use Rattle.per_codec_additions.specs.declared.slots.Slot.{Slot}
use Rattle.per_codec_additions.specs.declared.slots.Slot.TheVariants.{Absent, InPlace, Shared}
use Rattle.per_codec_additions.proofs.AdditionFieldLists.{Present, present_none, present_on, present_past, adds_additions}
use Rattle.per_codec_writing.proofs.OpenTypes.{adds_open_none, adds_open_some}

-- ---- complete encodings

pub adds_complete : (al : Bool) (w : List Bool) (os : List ℕ) (old new : Packed) → os ≡ complete_octets w →
    Adds (field_list_at (Per.counted_octets al os) (place old)) old new → Adds (field_list_at (Per.open_type al (exactly w)) (place old)) old new
adds_complete al [] os old new e a = adds_open_none al [] os old new refl e a
adds_complete al (b ∷ bs) os old new e a = adds_open_some al (b ∷ bs) os old new (λ (q : (b ∷ bs) ≡ []). cc) e a

-- ---- the octets of bits

module _ (bytes : List ℕ) (n : ℕ) (w : List Bool) (octets : bytes ≡ packed (padded w)) (bits : octet_bits bytes ≡ padded w) (size : n ≡ length w) where
  pub bits_are : first_bits_of_octets n bytes ≡ w
  bits_are =
      ap (take n) bits ∙ ap (λ k. take k (padded w)) size
      ∙ take-append-le (length w) w (replicate (missing (length w)) false) (omega arith) ∙ take_all (length w) w (omega arith)

  some_complete : (v : List Bool) → (v ≡ [] → ⊥) → packed (padded v) ≡ complete_octets v
  some_complete [] h = absurd (h refl)
  some_complete (b ∷ bs) h = refl

  are_complete : (w ≡ [] → ⊥) → bytes ≡ complete_octets (first_bits_of_octets n bytes)
  are_complete h = octets ∙ some_complete w h ∙ ap complete_octets (sym bits_are)

  none : bytes ≡ [] → w ≡ []
  none e = nothing w (sym bits ∙ ap octet_bits e)
    where
      nothing : (v : List Bool) → padded v ≡ [] → v ≡ []
      nothing [] q = refl
      nothing (b ∷ bs) q = cc

  some : 0 < length bytes → w ≡ [] → ⊥
  some h e = let nothing : bytes ≡ [] = octets ∙ ap (λ v. packed (padded v)) e in omega (arith, h, ap length nothing)

  -- after others in the shared buffer
  module _ (was shared : List ℕ) (from to : ℕ) (e : shared ≡ was ++ bytes) (first : from ≡ length was) (past : to ≡ length shared) where
    last : slice_range shared from to ≡ bytes
    last =
        let l = length-append was bytes in
        ap (λ xs. slice_range xs from to) e ∙ ap (λ k. take (to - k) (drop k (was ++ bytes))) first ∙ ap (λ ys. take (to - length was) ys) (drop-append_seam was bytes)
        ∙ take_all (to - length was) bytes (omega (arith, past, ap length e, l))

    pub keeps_shared : 0 < length bytes → Keeps shared (Shared from to n) w
    keeps_shared h = record {
      kept = record {
        ordered = omega (arith, first, past, ap length e, length-append was bytes);
        within = omega (arith, past);
        octets = subst (λ l. l ≡ complete_octets (first_bits_of_octets n l)) (sym last) (are_complete (some h));
      };
      is = ap (λ l. Some (first_bits_of_octets n l)) last ∙ ap Some bits_are;
    }

  -- in place, before zero octets: at least one of these is stored
  module _ (shared zeros front : List ℕ) (count : ℕ) (e : front ≡ bytes) (zero_first : take 1 zeros ≡ 0 ∷ []) where
    abbrev stored : List ℕ
    stored = front ++ drop (length bytes) zeros

    first : take (length bytes) stored ≡ bytes
    first =
        ap (λ l. take (length bytes) (l ++ drop (length bytes) zeros)) e ∙ take-append-le (length bytes) bytes (drop (length bytes) zeros) (omega arith)
        ∙ take_all (length bytes) bytes (omega arith)

    alone : bytes ≡ [] → take 1 stored ≡ 0 ∷ []
    alone q = ap (λ l. take 1 (l ++ drop (length bytes) zeros)) (e ∙ q) ∙ ap (λ l. take 1 (drop (length l) zeros)) q ∙ zero_first

    pub keeps_in_place : count ≡ max (length bytes) 1 → length bytes ≤ 16 → Keeps shared (InPlace stored count n) w
    keeps_in_place m h = go bytes refl
      where
        go : (l : List ℕ) → bytes ≡ l → Keeps shared (InPlace stored count n) w
        go [] q =
            let one : count ≡ 1 = m ∙ ap (λ l. max (length l) 1) q in
            let nothing : w ≡ [] = none q in
            let no_bits : n ≡ 0 = size ∙ ap length nothing in
            let octet : take count stored ≡ 0 ∷ [] = ap (λ k. take k stored) one ∙ alone q in
            let empty : first_bits_of_octets n (take count stored) ≡ [] = ap (λ k. first_bits_of_octets k (take count stored)) no_bits in
            record {
              kept = record { within = omega (arith, one); octets = octet ∙ ap complete_octets (sym empty) };
              is = ap Some (empty ∙ sym nothing);
            }
        go (b ∷ bs) q =
            let there : 0 < length bytes = omega (arith, ap length q) in
            let all : count ≡ length bytes = omega (arith, m, there) in
            let octets_are : take count stored ≡ bytes = ap (λ k. take k stored) all ∙ first in
            record {
              kept = record { within = omega (arith, all, h); octets = subst (λ l. l ≡ complete_octets (first_bits_of_octets n l)) (sym octets_are) (are_complete (some there)) };
              is = ap (λ l. Some (first_bits_of_octets n l)) octets_are ∙ ap Some bits_are;
            }

-- ---- more octets in the shared buffer

module _ (shared more : List ℕ) where
  range_kept : (from to : ℕ) → from ≤ to → to ≤ length shared → slice_range (shared ++ more) from to ≡ slice_range shared from to
  range_kept from to a b =
      let l = length-drop from shared in
      ap (λ ys. take (to - from) ys) (drop-append-le from shared more (omega arith)) ∙ take-append-le (to - from) (drop from shared) more (omega arith)

  bits_kept : (s : Slot) → IsSlotOf shared s → kept_bits (shared ++ more) s ≡ kept_bits shared s
  bits_kept Absent h = refl
  bits_kept (InPlace os count n) h = refl
  bits_kept (Shared from to n) h = ap (λ l. Some (first_bits_of_octets n l)) (range_kept from to h.ordered h.within)

  still : (s : Slot) → IsSlotOf shared s → IsSlotOf (shared ++ more) s
  still Absent h = tt
  still (InPlace os count n) h = h
  still (Shared from to n) h = record {
    ordered = h.ordered;
    within = omega (arith, h.within, length-append shared more);
    octets = subst (λ l. l ≡ complete_octets (first_bits_of_octets n l)) (sym (range_kept from to h.ordered h.within)) h.octets;
  }

  all_bits_kept : (ss : List Slot) → EachIsSlotOf shared ss → all_bits (shared ++ more) ss ≡ all_bits shared ss
  all_bits_kept [] h = refl
  all_bits_kept (s ∷ ss) h = ap (λ o. o ∷ all_bits (shared ++ more) ss) (bits_kept s h.0) ∙ ap (λ os. kept_bits shared s ∷ os) (all_bits_kept ss h.1)

  all_still : (ss : List Slot) → EachIsSlotOf shared ss → EachIsSlotOf (shared ++ more) ss
  all_still [] h = tt
  all_still (s ∷ ss) h = (still s h.0, all_still ss h.1)

-- ---- one more addition

one_behind : (shared : List ℕ) (ss : List Slot) (s : Slot) → EachIsSlotOf shared ss → IsSlotOf shared s → EachIsSlotOf shared (ss ++ s ∷ [])
one_behind shared [] s h k = (k, tt)
one_behind shared (r ∷ ss) s h k = (h.0, one_behind shared ss s h.1 k)

any_behind_none : (os : List (Option (List Bool))) → is_any_present (os ++ None ∷ []) ≡ is_any_present os
any_behind_none [] = refl
any_behind_none (None ∷ os) = any_behind_none os
any_behind_none (Some w ∷ os) = refl

any_behind_some : (os : List (Option (List Bool))) (w : List Bool) → is_any_present (os ++ Some w ∷ []) ≡ true
any_behind_some [] w = refl
any_behind_some (None ∷ os) w = any_behind_some os w
any_behind_some (Some v ∷ os) w = refl

module _ (shared : List ℕ) (slots all : List Slot) (any : Bool) (h : AreSlots shared slots any) where
  pub absent_bits : all ≡ slots ++ Absent ∷ [] → all_bits shared all ≡ all_bits shared slots ++ None ∷ []
  absent_bits e = ap (all_bits shared) e ∙ map-append (kept_bits shared) slots (Absent ∷ [])

  pub absent_kept : all ≡ slots ++ Absent ∷ [] → AreSlots shared all any
  absent_kept e = record {
    each = subst (EachIsSlotOf shared) (sym e) (one_behind shared slots Absent h.each tt);
    is_any = h.is_any ∙ sym (ap is_any_present (absent_bits e) ∙ any_behind_none (all_bits shared slots));
  }

module _ (shared more grown : List ℕ) (slots all : List Slot) (any : Bool) (h : AreSlots shared slots any) (e : grown ≡ shared ++ more) where
  same_slots : all_bits grown slots ≡ all_bits shared slots
  same_slots = ap (λ l. all_bits l slots) e ∙ all_bits_kept shared more slots h.each

  each_still : EachIsSlotOf grown slots
  each_still = subst (λ l. EachIsSlotOf l slots) (sym e) (all_still shared more slots h.each)

  pub same_bits : all ≡ slots → all_bits grown all ≡ all_bits shared slots
  same_bits f = ap (all_bits grown) f ∙ same_slots

  pub still_kept : all ≡ slots → AreSlots grown all any
  still_kept f = record {
    each = subst (EachIsSlotOf grown) (sym f) each_still;
    is_any = h.is_any ∙ ap is_any_present (sym (same_bits f));
  }

  module _ (s : Slot) (w : List Bool) (k : Keeps grown s w) (f : all ≡ slots ++ s ∷ []) where
    pub one_more : all_bits grown all ≡ all_bits shared slots ++ Some w ∷ []
    one_more =
        ap (all_bits grown) f ∙ map-append (kept_bits grown) slots (s ∷ [])
        ∙ ap (λ os. os ++ kept_bits grown s ∷ []) same_slots ∙ ap (λ o. all_bits shared slots ++ o ∷ []) k.is

    pub more_kept : AreSlots grown all true
    more_kept = record {
      each = subst (EachIsSlotOf grown) (sym f) (one_behind grown slots s each_still k.kept);
      is_any = sym (ap is_any_present one_more ∙ any_behind_some (all_bits shared slots) w);
    }

-- ---- one addition after another

pub kept_at : (shared : List ℕ) (ss : List Slot) (i : ℕ) (s d : Slot) → EachIsSlotOf shared ss → i < length ss → s ≡ get_or ss i d → IsSlotOf shared s
kept_at shared [] i s d h l e = absurd (omega (arith, l))
kept_at shared (r ∷ ss) zero s d h l e = subst (IsSlotOf shared) (sym e) h.0
kept_at shared (r ∷ ss) (suc i) s d h l e = kept_at shared ss i s d h.1 (omega (arith, l)) e

present_next : (al : Bool) (o : Option (List Bool)) (slots : List (Option (List Bool))) (old mid new : Packed) →
    ((w : List Bool) → o ≡ Some w → Adds (field_list_at (Per.open_type al (exactly w)) (place old)) old mid) → (o ≡ None → mid ≡ old) → Present al slots mid new → Present al (o ∷ slots) old new
present_next al None slots old mid new a e b = present_past al None slots old new refl (subst (λ l. Present al slots l new) (e refl) b)
present_next al (Some w) slots old mid new a e b = present_on al (Some w) slots w old mid new refl (a w refl) b

pub slot_next : (al : Bool) (shared : List ℕ) (ss : List Slot) (i : ℕ) (s d : Slot) (old mid new : Packed) → i < length ss → s ≡ get_or ss i d →
    ((w : List Bool) → kept_bits shared s ≡ Some w → Adds (field_list_at (Per.open_type al (exactly w)) (place old)) old mid) →
    (kept_bits shared s ≡ None → mid ≡ old) → Present al (all_bits shared (drop (i + 1) ss)) mid new → Present al (all_bits shared (drop i ss)) old new
slot_next al shared ss i s d old mid new h is a e b = subst (λ l. Present al (all_bits shared l) old new)
    (sym (drop_more ss i d h ∙ ap (λ r. r ∷ drop (i + 1) ss) (sym is))) (present_next al (kept_bits shared s) (all_bits shared (drop (i + 1) ss)) old mid new a e b)

pub slots_passed : (al : Bool) (shared : List ℕ) (ss : List Slot) (i : ℕ) (old : Packed) → length ss ≤ i → Present al (all_bits shared (drop i ss)) old old
slots_passed al shared ss i old h = subst (λ l. Present al (all_bits shared l) old old) (sym (drop_all i ss h)) (present_none al old)

pub adds_kept : (al : Bool) (shared : List ℕ) (ss : List Slot) (slots : List (Option (List Bool))) (old mid new : Packed) →
    all_bits shared ss ≡ slots → Adds (field_list_at (Per.normally_few al (Per.bit_units (map is_there ss))) (place old)) old mid →
    Present al (all_bits shared ss) mid new → Adds (field_list_at (Per.additions al (as_open_types al slots)) (place old)) old new
adds_kept al shared ss slots old mid new e a b = subst (λ l. Adds (field_list_at (Per.additions al (as_open_types al l)) (place old)) old new) e
    (adds_additions al (all_bits shared ss) (map is_there ss) old mid new (all_there ss) a b)
  where
    there : (s : Slot) → is_there s ≡ is_some (kept_bits shared s)
    there Absent = refl
    there (InPlace os count n) = refl
    there (Shared from to n) = refl

    all_there : (ts : List Slot) → map is_there ts ≡ map is_some (all_bits shared ts)
    all_there [] = refl
    all_there (t ∷ ts) = ap (λ b. b ∷ map is_there ts) (there t) ∙ ap (λ bs. is_some (kept_bits shared t) ∷ bs) (all_there ts)

-- ---- presence bits as a number

one_bit : (b : Bool) → binary 1 (bool_byte b) ≡ b ∷ []
one_bit true = refl
one_bit false = refl

small : (b : Bool) → bool_byte b < 2 ^ 1
small true = omega arith
small false = omega arith

module _ (slots : List Slot) (i number bit : ℕ) (s d : Slot) (within : i < length slots) (is : s ≡ get_or slots i d) (told : bit ≡ bool_byte (is_there s)) where
  one_digit : bit < 2 ^ 1
  one_digit = subst (λ k. k < 2 ^ 1) (sym told) (small (is_there s))

  pub next_digits : binary i number ≡ map is_there (take i slots) → binary (i + 1) (number * 2 + bit) ≡ map is_there (take (i + 1) slots)
  next_digits h =
      sym (binary_join i 1 number bit one_digit)
      ∙ ap (λ l. l ++ binary 1 bit) h ∙ ap (λ l. map is_there (take i slots) ++ l) (ap (binary 1) told ∙ one_bit (is_there s))
      ∙ sym (map-append is_there (take i slots) (s ∷ []))
      ∙ ap (map is_there) (ap (λ x. take i slots ++ x ∷ []) is ∙ sym (take_more slots i d within))

  pub next_fits : number < 2 ^ i → number * 2 + bit < 2 ^ (i + 1)
  next_fits h =
      let one : i + 1 ≡ suc i = omega arith in
      let twice : 2 ^ (i + 1) ≡ 2 ^ i * 2 = ap (λ k. 2 ^ k) one ∙ pow-suc 2 i in
      omega (arith, h, one_digit, twice)
