-- The field-lists of BOOLEAN and of whole numbers.
use Rattle.std.proofs.Common.{◌≡◌, ℕ, ◌+◌, ◌*◌, ◌^◌, ◌<◌, ◌≤◌, ℤ, pos, negsuc, ◌-ℤ◌, ◌≤ℤ◌, Bool, true, false, leb, ltb}
use Rattle.std.proofs.Common.{◌&&◌, [], ◌∷◌, Option, Some, None, refl, ap, subst, sym, ◌∙◌, arith, unsigned_abs}
use Rattle.std.specs.Prelude.{Result, Ok, Err, MatchResult}
use Rattle.std.proofs.lemmas.Int.{ints}
use Rattle.std.proofs.lemmas.Bool.{le-leb, lt-leb, lt-ltb, and_parts}
use Rattle.asn1_model.specs.Form.{exactly, both, given}
use Rattle.asn1_model.specs.Schema.{boolean}
use Rattle.asn1_model.specs.Value.{truth}
use Rattle.asn1_model.specs.Numbers.{binary, digits, least_octets, signed_octets, complement, above, is_at_most, is_within}
use Rattle.asn1_model.specs.Per
use Rattle.asn1_schema_errors.specs.declared.EncodeError.{EncodeError}
use Rattle.asn1_schema_errors.specs.declared.EncodeError.TheVariants as Fault
use Rattle.asn1_values_bits.proofs.Binary.{binary_join}
use Rattle.per_codec_packing.specs.FieldLists.{FieldList, as_field_list, field_list_at}
use Rattle.per_codec_writing.specs.Writing.{Packed, Adds, Refuses, place, plus}
use Rattle.per_codec_writing.proofs.PaddingFieldLists.{adds_field_list, adds_same, adds_both, none_second, if_true, cond_true, cond_false}
use Rattle.std.specs.Option.{option_map_or}

-- ---- what was done

-- a writer added this field-list, or refused it
abbrev pub Did : {T : Type 0} → Result T EncodeError → Option FieldList → Packed → Packed → Type 0
Did r field_list old new = MatchResult r (λ _. Adds field_list old new) (Refuses field_list)

pub did_same : {T : Type 0} (r : Result T EncodeError) (x y : Option FieldList) (old new : Packed) → x ≡ y → Did r y old new → Did r x old new
did_same r x y old new e d = subst (λ t. Did r t old new) (sym e) d

refused_so : (x y : Option FieldList) (e : EncodeError) → (y ≡ None → x ≡ None) → Refuses y e → Refuses x e
refused_so x y Fault.ValueConstraintNotSatisfied f h = f h
refused_so x y Fault.SizeConstraintNotSatisfied f h = f h
refused_so x y Fault.AlphabetConstraintNotSatisfied f h = f h
refused_so x y Fault.TooLongValue f h = f h
refused_so x y Fault.LengthExceedsPlatformSize f h = f h
refused_so x y Fault.OutOfMemory f h = tt
refused_so x y Fault.CallOutOfPlace f h = h
refused_so x y Fault.AlreadyFailed f h = h

-- .. after another field-list
pub did_behind : {T : Type 0} (r : Result T EncodeError) (x y : Per.BitForm) (old mid new : Packed) → Adds (field_list_at x (place old)) old mid →
    Did r (field_list_at y (place mid)) mid new → Did r (field_list_at (both x y) (place old)) old new
did_behind (Ok t) x y old mid new a d = adds_both x y old mid new a d
did_behind (Err e) x y old mid new a d = refused_so _ (field_list_at y (place mid)) e (λ n. none_second x y old mid a n) d

-- ---- BOOLEAN

pub adds_truth : (al b : Bool) (old new : Packed) → new ≡ plus old (as_field_list (b ∷ [])) → Adds (field_list_at (Per.form al boolean (truth b)) (place old)) old new
unfolding field_list_at Per.form
adds_truth al b old new e = adds_field_list _ (as_field_list (b ∷ [])) old new refl e

-- ---- octets after a length determinant

pub unconstrained_field_list : (al : Bool) (v : ℤ) (p : Option ℕ) → field_list_at (Per.unconstrained al v) p ≡ field_list_at (Per.counted_octets al (complement (signed_octets v) v)) p
unfolding field_list_at Per.unconstrained
unconstrained_field_list al v p = if_true (leb (signed_octets v) (signed_octets v)) (Per.counted_octets al (complement (signed_octets v) v)) p (le-leb _ _ (omega arith))

pub semi_constrained_field_list : (al : Bool) (d : ℕ) (p : Option ℕ) → field_list_at (Per.semi_constrained al d) p ≡ field_list_at (Per.counted_octets al (digits 256 (least_octets d) d)) p
unfolding field_list_at Per.semi_constrained
semi_constrained_field_list al d p = if_true (leb (least_octets d) (least_octets d)) (Per.counted_octets al (digits 256 (least_octets d) d)) p (le-leb _ _ (omega arith))

-- ---- normally small numbers

six_bits : (n : ℕ) → n < 64 → binary 7 n ≡ false ∷ binary 6 n
six_bits n h = let e : 0 * 2 ^ 6 + n ≡ n = omega arith in sym (binary_join 1 6 0 n h ∙ ap (λ k. binary 7 k) e)

pub adds_small : (al : Bool) (n : ℕ) (old new : Packed) → n < 64 → new ≡ plus old (as_field_list (binary 7 n)) → Adds (field_list_at (Per.normally_small al n) (place old)) old new
unfolding Per.normally_small field_list_at
adds_small al n old new h e =
    adds_field_list _ (as_field_list (false ∷ binary 6 n)) old new
    (cond_false (leb 64 n) _ _ (place old) (lt-leb _ _ h) ∙ if_true (ltb n 64) _ (place old) (lt-ltb _ _ h))
    (e ∙ ap (λ l. plus old (as_field_list l)) (six_bits n h))

pub adds_not_small : (al : Bool) (n : ℕ) (old mid new : Packed) → 64 ≤ n → mid ≡ plus old (as_field_list (true ∷ [])) →
    Adds (field_list_at (Per.semi_constrained al n) (place mid)) mid new → Adds (field_list_at (Per.normally_small al n) (place old)) old new
unfolding Per.normally_small field_list_at
adds_not_small al n old mid new h e a =
    adds_same _ _ old new (cond_true (leb 64 n) _ _ (place old) (le-leb _ _ h))
    (adds_both (exactly (true ∷ [])) (Per.semi_constrained al n) old mid new (adds_field_list _ (as_field_list (true ∷ [])) old mid refl e) a)

-- ---- within bounds

above_at : (a b : ℤ) → a ≤ℤ b → above a b ≡ Some (unsigned_abs (b -ℤ a))
above_at a b h = go (b -ℤ a) refl
  where
    go : (z : ℤ) → b -ℤ a ≡ z → elim z [ pos n ↦ Some n | negsuc n ↦ None ] ≡ Some (unsigned_abs z)
    go (pos n) e = refl
    go (negsuc n) e = absurd (omega (arith, ints))

pub is_at_most_le : (a b : ℤ) → is_at_most a b ≡ true → a ≤ℤ b
is_at_most_le a b e = go (b -ℤ a) refl e
  where
    go : (z : ℤ) → b -ℤ a ≡ z → elim z as (λ _. Bool) [ pos n ↦ true | negsuc n ↦ false ] ≡ true → a ≤ℤ b
    go (pos n) d f = omega (arith, ints)
    go (negsuc n) d f = cc

pub between_field_list : (al : Bool) (low high v : ℤ) (span d : ℕ) (p : Option ℕ) → is_within (record { low = Some low; high = Some high }) v ≡ true →
    span ≡ unsigned_abs (high -ℤ low) → d ≡ unsigned_abs (v -ℤ low) → field_list_at (Per.whole_number al (Some low) (Some high) v) p ≡ field_list_at (Per.constrained al span d) p
unfolding Per.whole_number
between_field_list al low high v span d p w s o =
    let parts = and_parts (is_at_most low v) (is_at_most v high) w in
    let l : low ≤ℤ v = is_at_most_le low v parts.0 in
    let h : v ≤ℤ high = is_at_most_le v high parts.1 in
    let a : above low high ≡ Some span = above_at low high (omega (arith, ints)) ∙ ap Some (sym s) in
    let b : above low v ≡ Some d = above_at low v l ∙ ap Some (sym o) in
    ap (λ x. field_list_at (given x (λ i. given (above low v) (λ j. Per.constrained al i j))) p) a ∙ ap (λ x. field_list_at (given x (λ j. Per.constrained al span j)) p) b

pub from_field_list : (al : Bool) (low v : ℤ) (d : ℕ) (p : Option ℕ) → is_within (record { low = Some low; high = None }) v ≡ true →
    d ≡ unsigned_abs (v -ℤ low) → field_list_at (Per.whole_number al (Some low) None v) p ≡ field_list_at (Per.semi_constrained al d) p
unfolding Per.whole_number
from_field_list al low v d p w o =
    let parts = and_parts (is_at_most low v) true w in
    let b : above low v ≡ Some d = above_at low v (is_at_most_le low v parts.0) ∙ ap Some (sym o) in
    ap (λ x. field_list_at (given x (λ j. Per.semi_constrained al j)) p) b

pub up_to_field_list : (al : Bool) (high : Option ℤ) (v : ℤ) (p : Option ℕ) → is_within (record { low = None; high = high }) v ≡ true →
    field_list_at (Per.whole_number al None high v) p ≡ field_list_at (Per.unconstrained al v) p
unfolding Per.whole_number
up_to_field_list al None v p w = refl
up_to_field_list al (Some high) v p w = if_true (is_at_most v high) (Per.unconstrained al v) p w

-- ---- by bounds that are known to be these

pub between_at : (al : Bool) (lo hi : Option ℤ) (low high v : ℤ) (span d : ℕ) (p : Option ℕ) → Some low ≡ lo → Some high ≡ hi →
    is_within (record { low = lo; high = hi }) v ≡ true → span ≡ unsigned_abs (high -ℤ low) → d ≡ unsigned_abs (v -ℤ low) →
    field_list_at (Per.whole_number al lo hi v) p ≡ field_list_at (Per.constrained al span d) p
between_at al lo hi low high v span d p e f w s o =
    let within : is_within (record { low = Some low; high = Some high }) v ≡ true =
    ap (λ x. (option_map_or (λ x. is_at_most x v) x true) && (option_map_or (λ x. is_at_most v x) (Some high) true)) e ∙
    ap (λ x. (option_map_or (λ x. is_at_most x v) lo true) && (option_map_or (λ x. is_at_most v x) x true)) f ∙ w in
    ap (λ x. field_list_at (Per.whole_number al x hi v) p) (sym e) ∙ ap (λ x. field_list_at (Per.whole_number al (Some low) x v) p) (sym f) ∙ between_field_list al low high v span d p within s o

pub from_at : (al : Bool) (lo hi : Option ℤ) (low v : ℤ) (d : ℕ) (p : Option ℕ) → Some low ≡ lo → None ≡ hi →
    is_within (record { low = lo; high = hi }) v ≡ true → d ≡ unsigned_abs (v -ℤ low) → field_list_at (Per.whole_number al lo hi v) p ≡ field_list_at (Per.semi_constrained al d) p
from_at al lo hi low v d p e f w o =
    let within : is_within (record { low = Some low; high = None }) v ≡ true =
    ap (λ x. (option_map_or (λ x. is_at_most x v) x true) && (option_map_or (λ x. is_at_most v x) None true)) e ∙
    ap (λ x. (option_map_or (λ x. is_at_most x v) lo true) && (option_map_or (λ x. is_at_most v x) x true)) f ∙ w in
    ap (λ x. field_list_at (Per.whole_number al x hi v) p) (sym e) ∙ ap (λ x. field_list_at (Per.whole_number al (Some low) x v) p) (sym f) ∙ from_field_list al low v d p within o

pub up_to_at : (al : Bool) (lo hi : Option ℤ) (v : ℤ) (p : Option ℕ) → None ≡ lo → is_within (record { low = lo; high = hi }) v ≡ true →
    field_list_at (Per.whole_number al lo hi v) p ≡ field_list_at (Per.unconstrained al v) p
up_to_at al lo hi v p e w = ap (λ x. field_list_at (Per.whole_number al x hi v) p) (sym e) ∙
    up_to_field_list al hi v p (ap (λ x. (option_map_or (λ x. is_at_most x v) x true) && (option_map_or (λ x. is_at_most v x) hi true)) e ∙ w)
