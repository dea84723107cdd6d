-- The field-lists of whole numbers under a value constraint, which may be outside it.
use Rattle.std.proofs.Common.{◌≡◌, ℕ, ◌-◌, ◌^◌, ◌<◌, ℤ, pos, negsuc, ◌≤ℤ◌, Bool, true, false, not, ◌&&◌, ◌||◌, [], ◌∷◌, Option, Some, None, refl, ap, sym, ◌∙◌, arith}
use Rattle.std.specs.Prelude.{Result}
use Rattle.std.proofs.lemmas.Int.{ints}
use Rattle.std.proofs.lemmas.Bool.{le-leb, and_parts, and_right, or_right}
use Rattle.asn1_model.specs.Form.{exactly, both}
use Rattle.asn1_model.specs.Schema.{Range, integer}
use Rattle.asn1_model.specs.Value.{number}
use Rattle.asn1_model.specs.Numbers.{signed_octets, is_at_most, is_within, fits_128}
use Rattle.asn1_model.specs.Normal.{is_bounded}
use Rattle.asn1_model.specs.Per
use Rattle.asn1_schema_constraints.proofs.Common.{number_order}
use Rattle.asn1_schema_constraints.proofs.Meets.{is_above, is_below, later_admits, earlier_admits}
use Rattle.asn1_schema_constraints.specs.Bounds.{lower, upper, later, earlier}
use Rattle.asn1_schema_constraints.specs.Terms.{bounds_of, held_of}
use Rattle.asn1_schema_constraints.specs.declared.extensions.Extensible.{Extensible}
use Rattle.asn1_schema_constraints.specs.declared.parts.Value.{Value}
use Rattle.asn1_schema_errors.specs.declared.EncodeError.{EncodeError}
use Rattle.asn1_values_natives.specs.Octets.{plain}
use Rattle.asn1_values_natives.specs.Ranges.{whole_range}
use Rattle.asn1_values_natives.proofs.Widths.{signed_octets-le}
use Rattle.per_codec_packing.specs.FieldLists.{as_field_list, field_list_at}
use Rattle.per_codec_writing.specs.Writing.{Packed, Adds, place, plus}
use Rattle.per_codec_writing.proofs.PaddingFieldLists.{adds_field_list, adds_same, adds_both, if_true, if_false}
use Rattle.per_codec_writing.proofs.NumberFieldLists.{Did, did_same, did_behind, is_at_most_le}
use Rattle.std.specs.Option.{option_map_or}

-- ---- in the root, or outside it

module _ (root outside : Per.BitForm) where
  pub inextensible_field_list : (e within : Bool) (p : Option ℕ) → e ≡ false → within ≡ true → field_list_at (Per.with_extension_bit e within root outside) p ≡ field_list_at root p
  unfolding Per.with_extension_bit
  inextensible_field_list false within p d w = if_true within root p w
  inextensible_field_list true within p d w = cc

  pub inextensible_none : (e within : Bool) (p : Option ℕ) → e ≡ false → within ≡ false → field_list_at (Per.with_extension_bit e within root outside) p ≡ None
  unfolding Per.with_extension_bit
  inextensible_none false within p d w = if_false within root p w
  inextensible_none true within p d w = cc

  inside_field_list : (e within : Bool) (p : Option ℕ) → e ≡ true → within ≡ true → field_list_at (Per.with_extension_bit e within root outside) p ≡ field_list_at (both (exactly (false ∷ [])) root) p
  unfolding Per.with_extension_bit field_list_at
  inside_field_list true true p d w = refl
  inside_field_list true false p d w = cc
  inside_field_list false within p d w = cc

  outside_field_list : (e within : Bool) (p : Option ℕ) → e ≡ true → within ≡ false → field_list_at (Per.with_extension_bit e within root outside) p
      ≡ field_list_at (both (exactly (true ∷ [])) outside) p
  unfolding Per.with_extension_bit field_list_at
  outside_field_list true false p d w = refl
  outside_field_list true true p d w = cc
  outside_field_list false within p d w = cc

  adds_extension_bit : (b m : Bool) (old mid : Packed) → mid ≡ plus old (as_field_list (m ∷ [])) → m ≡ b → Adds (field_list_at (exactly (b ∷ [])) (place old)) old mid
  unfolding field_list_at
  adds_extension_bit b m old mid e f = adds_field_list _ (as_field_list (b ∷ [])) old mid refl (e ∙ ap (λ x. plus old (as_field_list (x ∷ []))) f)

  pub did_inside : {T : Type 0} (r : Result T EncodeError) (e within : Bool) (old mid new : Packed) → e ≡ true → within ≡ true →
      mid ≡ plus old (as_field_list (not within ∷ [])) → Did r (field_list_at root (place mid)) mid new → Did r (field_list_at (Per.with_extension_bit e within root outside) (place old)) old new
  did_inside r e within old mid new d w m h = did_same r _ _ old new (inside_field_list e within (place old) d w)
      (did_behind r (exactly (false ∷ [])) root old mid new (adds_extension_bit false (not within) old mid m (ap not w)) h)

  pub adds_outside : (e within : Bool) (old mid new : Packed) → e ≡ true → within ≡ false → mid ≡ plus old (as_field_list (not within ∷ [])) →
      Adds (field_list_at outside (place mid)) mid new → Adds (field_list_at (Per.with_extension_bit e within root outside) (place old)) old new
  adds_outside e within old mid new d w m h = adds_same _ _ old new (outside_field_list e within (place old) d w)
      (adds_both (exactly (true ∷ [])) outside old mid new (adds_extension_bit true (not within) old mid m (ap not w)) h)

-- ---- numbers that the Rust type and 128 bits hold

from_is : (low : Option ℤ) (v : ℤ) → option_map_or (λ x. is_at_most x v) low true ≡ is_above is_at_most low v
from_is None v = refl
from_is (Some a) v = refl

to_is : (high : Option ℤ) (v : ℤ) → option_map_or (λ x. is_at_most v x) high true ≡ is_below is_at_most high v
to_is None v = refl
to_is (Some a) v = refl

regroup : (a b c d : Bool) → ((a && b) && (c && d)) ≡ ((a && c) && (b && d))
regroup true true c d = refl
regroup true false true d = refl
regroup true false false d = refl
regroup false b c d = refl

both_by : {p p' q q' : Bool} → p ≡ p' → q ≡ q' → (p && q) ≡ (p' && q')
both_by {p} {p'} {q} {q'} e f = ap (λ t. t && q) e ∙ ap (λ t. p' && t) f

abbrev wide : Range
wide = whole_range (2 ^ 127 - 1)

held_within : (c : Extensible Value) (h : Range) (v : ℤ) → is_within (held_of (Some c) h) v ≡ (is_within h v && is_within wide v)
held_within c h v =
    both_by (from_is (later is_at_most h.low wide.low) v ∙ (later_admits is_at_most number_order h.low wide.low v ∙ sym (both_by (from_is h.low v) (from_is wide.low v))))
    (to_is (earlier is_at_most h.high wide.high) v ∙ (earlier_admits is_at_most number_order h.high wide.high v ∙ sym (both_by (to_is h.high v) (to_is wide.high v))))
    ∙ regroup (option_map_or (λ x. is_at_most x v) h.low true) (option_map_or (λ x. is_at_most x v) wide.low true)
    (option_map_or (λ x. is_at_most v x) h.high true) (option_map_or (λ x. is_at_most v x) wide.high true)

within_wide : (v : ℤ) → is_within wide v ≡ true → plain v < 2 ^ 127
within_wide (pos m) w = let h : pos m ≤ℤ pos (2 ^ 127 - 1) =
    is_at_most_le (pos m) (pos (2 ^ 127 - 1)) (and_parts (is_at_most (negsuc (2 ^ 127 - 1)) (pos m)) (is_at_most (pos m) (pos (2 ^ 127 - 1))) w).1 in omega (arith, ints)
within_wide (negsuc m) w = let h : negsuc (2 ^ 127 - 1) ≤ℤ negsuc m =
    is_at_most_le (negsuc (2 ^ 127 - 1)) (negsuc m) (and_parts (is_at_most (negsuc (2 ^ 127 - 1)) (negsuc m)) (is_at_most (negsuc m) (pos (2 ^ 127 - 1))) w).0 in omega (arith, ints)

pub unbounded_field_list : (al : Bool) (h : Range) (v : ℤ) (p : Option ℕ) → is_within h v ≡ true →
    field_list_at (Per.form al (integer (bounds_of None) (held_of None h)) (number v)) p ≡ field_list_at (Per.unconstrained al v) p
unfolding Per.form Per.integer_form Per.with_extension_bit Per.whole_number
unbounded_field_list al h v p e = if_true (is_within h v && true) (Per.unconstrained al v) p (both_by e refl)

pub bounded_field_list : (al : Bool) (c : Extensible Value) (h : Range) (v : ℤ) (p : Option ℕ) → is_within h v ≡ true → is_within wide v ≡ true →
    field_list_at (Per.form al (integer (bounds_of (Some c)) (held_of (Some c) h)) (number v)) p
    ≡ field_list_at (Per.with_extension_bit (bounds_of (Some c)).extensible (is_within (bounds_of (Some c)).range v)
    (Per.whole_number al (lower c.constraint.value) (upper c.constraint.value) v) (Per.unconstrained al v)) p
unfolding Per.form Per.integer_form
bounded_field_list al c h v p e w = if_true (is_within (held_of (Some c) h) v && (not (is_bounded (bounds_of (Some c))) || fits_128 v)) _ p
    (both_by (held_within c h v ∙ both_by e w) (or_right (not (is_bounded (bounds_of (Some c)))) (fits_128 v) (le-leb (signed_octets v) 16 (signed_octets-le v 15 (within_wide v w)))))

pub wide_none : (al : Bool) (c : Extensible Value) (h : Range) (v : ℤ) (p : Option ℕ) → is_within wide v ≡ false →
    field_list_at (Per.form al (integer (bounds_of (Some c)) (held_of (Some c) h)) (number v)) p ≡ None
unfolding Per.form Per.integer_form
wide_none al c h v p w = if_false (is_within (held_of (Some c) h) v && (not (is_bounded (bounds_of (Some c))) || fits_128 v)) _ p
    (ap (λ b. b && (not (is_bounded (bounds_of (Some c))) || fits_128 v)) (held_within c h v ∙ and_right (is_within h v) (is_within wide v) w))
