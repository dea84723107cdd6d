-- What a user-defined type holds under a value constraint: what it holds at all, within 128 bits.
use Rattle.asn1_model.specs.Schema.{wide_range}
use Rattle.std.proofs.Common.{◌≡◌, ◌∙◌, refl, sym, ◌-◌, ◌^◌, ◌<◌, ℤ, pos, negsuc, Bool, true, false, ◌&&◌, ◌||◌, Option, Some, None, arith}
use Rattle.std.proofs.lemmas.Int.{ints}
use Rattle.std.proofs.lemmas.Bool.{false≢true, le-leb, leb-true, and_parts}
use Rattle.asn1_model.specs.Schema.{Range}
use Rattle.asn1_model.specs.Numbers.{signed_octets, is_at_most, is_within, fits_128}
use Rattle.asn1_values_natives.proofs.RangeLaws.{at_most}
use Rattle.asn1_values_natives.proofs.TwosComplement.{plain-fits}
use Rattle.asn1_values_natives.proofs.Widths.{signed_octets-le}
use Rattle.asn1_schema_constraints.specs.Bounds.{later, earlier}
use Rattle.asn1_schema_constraints.specs.Terms.{bounds_of, held_of, admits_whole}
use Rattle.asn1_schema_constraints.specs.declared.extensions.Extensible.{Extensible}
use Rattle.asn1_schema_constraints.specs.declared.parts.Value.{Value}
use Rattle.asn1_schema_constraints.proofs.Common.{number_order, told_at_most, from_is, to_is, both_by}
use Rattle.asn1_schema_constraints.proofs.Meets.{later_admits, earlier_admits, regroup}
use Rattle.std.specs.Option.{option_map_or}

-- a range from the greater lower bound to the lesser upper bound has what both have
meet_within : (a b : Range) (v : ℤ) → is_within (record { low = later is_at_most a.low b.low; high = earlier is_at_most a.high b.high }) v ≡ (is_within a v && is_within b v)
meet_within a b v =
    both_by (from_is (later is_at_most a.low b.low) v ∙ (later_admits is_at_most number_order a.low b.low v ∙ sym (both_by (from_is a.low v) (from_is b.low v))))
    (to_is (earlier is_at_most a.high b.high) v ∙ (earlier_admits is_at_most number_order a.high b.high v ∙ sym (both_by (to_is a.high v) (to_is b.high v))))
    ∙ regroup (option_map_or (λ x. is_at_most x v) a.low true) (option_map_or (λ x. is_at_most x v) b.low true)
    (option_map_or (λ x. is_at_most v x) a.high true) (option_map_or (λ x. is_at_most v x) b.high true)

pub held_within : (c : Extensible Value) (h : Range) (v : ℤ) → is_within (held_of (Some c) h) v ≡ (is_within h v && is_within wide_range v)
held_within c h v = meet_within h wide_range v

-- ---- numbers of 128 bits

pub wide_fits : (v : ℤ) → is_within wide_range v ≡ true → fits_128 v ≡ true
wide_fits (pos n) h =
    let p = and_parts (is_at_most (negsuc (2 ^ 127 - 1)) (pos n)) (is_at_most (pos n) (pos (2 ^ 127 - 1))) h in
    let l = told_at_most (pos n) (pos (2 ^ 127 - 1)) p.1 in
    le-leb (signed_octets (pos n)) 16 (signed_octets-le (pos n) 15 (omega (arith, ints, l)))
wide_fits (negsuc n) h =
    let p = and_parts (is_at_most (negsuc (2 ^ 127 - 1)) (negsuc n)) (is_at_most (negsuc n) (pos (2 ^ 127 - 1))) h in
    let l = told_at_most (negsuc (2 ^ 127 - 1)) (negsuc n) p.0 in
    le-leb (signed_octets (negsuc n)) 16 (signed_octets-le (negsuc n) 15 (omega (arith, ints, l)))

pub fits_wide : (v : ℤ) → fits_128 v ≡ true → is_within wide_range v ≡ true
fits_wide (pos m) e = let p = plain-fits (pos m) 15 (leb-true (signed_octets (pos m)) 16 e) in
    both_by (at_most (negsuc (2 ^ 127 - 1)) (pos m) (omega (arith, ints))) (at_most (pos m) (pos (2 ^ 127 - 1)) (omega (arith, ints, p)))
fits_wide (negsuc m) e = let p = plain-fits (negsuc m) 15 (leb-true (signed_octets (negsuc m)) 16 e) in
    both_by (at_most (negsuc (2 ^ 127 - 1)) (negsuc m) (omega (arith, ints, p))) (at_most (negsuc m) (pos (2 ^ 127 - 1)) (omega (arith, ints)))

pub too_wide : (v : ℤ) → 16 < signed_octets v → is_within wide_range v ≡ false
too_wide v h = go (is_within wide_range v) refl where
  go : (t : Bool) → is_within wide_range v ≡ t → t ≡ false
  go false e = refl
  go true e = let l = leb-true (signed_octets v) 16 (wide_fits v e) in absurd (omega arith)

-- ---- what a constraint admits and the type holds

pub admitted_held : (c : Option (Extensible Value)) (h : Range) (v : ℤ) → admits_whole c v ≡ true → is_within h v ≡ true → is_within (held_of c h) v ≡ true
admitted_held None h v e f = f
admitted_held (Some c) h v e f = held_within c h v ∙ both_by f (and_parts (is_within wide_range v) _ e).0

pub admitted_within : (c : Option (Extensible Value)) (v : ℤ) → admits_whole c v ≡ true → ((bounds_of c).extensible || is_within (bounds_of c).range v) ≡ true
admitted_within None v e = refl
admitted_within (Some c) v e = (and_parts (is_within wide_range v) _ e).1

-- and what it does not hold, or the constraint does not admit
pub not_held : (c : Option (Extensible Value)) (h : Range) (v : ℤ) → is_within h v ≡ false → is_within (held_of c h) v ≡ true → ⊥
not_held None h v e f = false≢true (sym e ∙ f)
not_held (Some c) h v e f = false≢true (sym e ∙ (and_parts (is_within h v) (is_within wide_range v) (sym (held_within c h v) ∙ f)).0)

pub not_admitted : (c : Option (Extensible Value)) (h : Range) (v : ℤ) → admits_whole c v ≡ false → is_within (held_of c h) v
    ≡ true → ((bounds_of c).extensible || is_within (bounds_of c).range v) ≡ true → ⊥
not_admitted None h v e f g = cc
not_admitted (Some c) h v e f g = false≢true (sym e ∙ both_by (and_parts (is_within h v) (is_within wide_range v) (sym (held_within c h v) ∙ f)).1 g)
