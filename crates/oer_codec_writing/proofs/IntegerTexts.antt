-- The texts of whole numbers, and what their writers added.
use Rattle.asn1_model.specs.Schema.{wide_range}
use Rattle.std.proofs.Common.{◌≡◌, ℕ, zero, suc, ◌+◌, ◌-◌, ◌*◌, ◌^◌, ◌<◌, ◌≤◌, ℤ, pos, negsuc, ◌-ℤ◌, ◌≤ℤ◌, Bool, true}
use Rattle.std.proofs.Common.{false, cond, not, leb, max, ◌&&◌, ◌||◌, List, ◌++◌, Option, Some, None, of_z, FitsSigned}
use Rattle.std.proofs.Common.{refl, ap, subst, sym, ◌∙◌, arith, inl, inr, pow-suc}
use Rattle.std.specs.Prelude.{IfSome}
use Rattle.std.specs.Int.{w128}
use Rattle.std.proofs.lemmas.Int.{ints}
use Rattle.std.proofs.lemmas.Bool.{le-leb, leb-true, cases_lt}
use Rattle.asn1_model.specs.Form.{written, only_if}
use Rattle.asn1_model.specs.Schema.{Range}
use Rattle.asn1_model.specs.Numbers.{digits, width, octet_width, least_octets, signed_octets, complement, is_at_most, is_within, fits_128}
use Rattle.asn1_model.specs.Oer
use Rattle.asn1_model.specs.Normal.{is_bounded}
use Rattle.asn1_schema_constraints.specs.Bounds.{lower, upper}
use Rattle.asn1_schema_constraints.specs.Widths.{has_sign, fixed_width}
use Rattle.asn1_schema_constraints.specs.Terms.{bounds_of, held_of}
use Rattle.asn1_schema_constraints.proofs.Common.{both_by}
use Rattle.asn1_schema_constraints.proofs.Held.{held_within, fits_wide, too_wide}
use Rattle.asn1_schema_constraints.specs.declared.extensions.Extensible.{Extensible}
use Rattle.asn1_schema_constraints.specs.declared.parts.Value.{Value}
use Rattle.asn1_values_natives.specs.Octets.{plain, is_below_zero, signed_octets_of, unsigned_octets_of}
use Rattle.asn1_values_natives.proofs.TwosComplement.{plain-fits}
use Rattle.asn1_values_natives.proofs.Widths.{width-bits, bits-least}
use Rattle.oer_codec_writing.specs.Writing.{Adds}
use Rattle.oer_codec_writing.proofs.DigitTexts.{complement_digits}
use Rattle.oer_codec_writing.proofs.ScalarTexts.{if_true, if_false}

-- ---- an optional width

pub if_some : (o : Option ℕ) (P : ℕ → Type 0) → ((k : ℕ) → o ≡ Some k → P k) → IfSome o P
if_some None P f = tt
if_some (Some k) P f = f k refl

pub at_some : (o : Option ℕ) (P : ℕ → Type 0) (k : ℕ) → o ≡ Some k → IfSome o P → P k
at_some None P k e h = cc
at_some (Some j) P k e h = let q : j ≡ k = cc in subst P q h

-- ---- numbers of a fixed width

plain_small : (z : ℤ) (n : ℕ) → signed_octets z ≤ n → 1 ≤ n → plain z < 256 ^ n
plain_small z zero h l = absurd (omega arith)
plain_small z (suc n) h l =
    let p : plain z < 128 * 256 ^ n = plain-fits z n (omega arith) in
    let e : 256 ^ (n + 1) ≡ 256 ^ suc n = let q : n + 1 ≡ suc n = omega arith in ap (λ k. 256 ^ k) q in
    let s : 256 ^ suc n ≡ 256 ^ n * 256 = pow-suc 256 n in
    omega (arith, s)

least_signed : (z : ℤ) → 1 ≤ signed_octets z
least_signed (pos m) = omega arith
least_signed (negsuc m) = omega arith

pub plain_within : (k : ℕ) (z : ℤ) → signed_octets z ≤ k → plain z < 256 ^ k
plain_within k z h = plain_small z k h (omega (arith, least_signed z))

-- ---- numbers within bounds fit their fixed form

rounded_most : (n k : ℕ) → Oer.fixed_octets n ≡ Some k → (n ≤ k) × (1 ≤ k)
rounded_most n k e = go (leb n 1) (leb n 2) (leb n 4) (leb n 8) refl refl refl refl e
  where
    go : (a b c d : Bool) → leb n 1 ≡ a → leb n 2 ≡ b → leb n 4 ≡ c → leb n 8 ≡ d → cond a (Some 1) (cond b (Some 2) (cond c (Some 4) (cond d (Some 8) None))) ≡ Some k → (n ≤ k) × (1 ≤ k)
    go true b c d h i j l e = let x : k ≡ 1 = cc in let y = leb-true n 1 h in (omega arith, omega arith)
    go false true c d h i j l e = let x : k ≡ 2 = cc in let y = leb-true n 2 i in (omega arith, omega arith)
    go false false true d h i j l e = let x : k ≡ 4 = cc in let y = leb-true n 4 j in (omega arith, omega arith)
    go false false false true h i j l e = let x : k ≡ 8 = cc in let y = leb-true n 8 l in (omega arith, omega arith)
    go false false false false h i j l e = cc

rounded_few : (n k : ℕ) → Oer.fixed_octets n ≡ Some k → k ≤ 16
rounded_few n k e = go (leb n 1) (leb n 2) (leb n 4) (leb n 8) e
  where
    go : (a b c d : Bool) → cond a (Some 1) (cond b (Some 2) (cond c (Some 4) (cond d (Some 8) None))) ≡ Some k → k ≤ 16
    go true b c d e = let x : k ≡ 1 = cc in omega arith
    go false true c d e = let x : k ≡ 2 = cc in omega arith
    go false false true d e = let x : k ≡ 4 = cc in omega arith
    go false false false true e = let x : k ≡ 8 = cc in omega arith
    go false false false false e = cc

pub width_few : (low high : Option ℤ) (k : ℕ) → fixed_width low high ≡ Some k → k ≤ 16
width_few (Some (pos a)) (Some (pos b)) k e = rounded_few (octet_width b) k e
width_few (Some (pos a)) (Some (negsuc b)) k e = cc
width_few (Some (pos a)) None k e = cc
width_few (Some (negsuc a)) (Some b) k e = rounded_few (max (signed_octets (negsuc a)) (signed_octets b)) k e
width_few (Some (negsuc a)) None k e = cc
width_few None b k e = cc

width_grows : (m n : ℕ) → m ≤ n → width m ≤ width n
width_grows m n h = let b = width-bits n in bits-least m (width n) (width m) (width-bits m) (omega (arith, b.below))

both_true : (p q : Bool) → (p && q) ≡ true → (p ≡ true) × (q ≡ true)
both_true true q e = (refl, e)
both_true false q e = cc

is_at_most_le : (a b : ℤ) → is_at_most a b ≡ true → a ≤ℤ b
is_at_most_le a b e = go (b -ℤ a) refl e
  where
    go : (z : ℤ) → b -ℤ a ≡ z → elim z as (λ _. Bool) [ pos n ↦ true | negsuc n ↦ false ] ≡ true → a ≤ℤ b
    go (pos n) d f = omega (arith, ints)
    go (negsuc n) d f = cc

between : (low high v : ℤ) → is_within (record { low = Some low; high = Some high }) v ≡ true → (low ≤ℤ v) × (v ≤ℤ high)
between low high v e = let p = both_true _ _ e in (is_at_most_le low v p.0, is_at_most_le v high p.1)

signed_fits : (low : ℕ) (high v : ℤ) → (negsuc low ≤ℤ v) × (v ≤ℤ high) → signed_octets v ≤ max (signed_octets (negsuc low)) (signed_octets high)
signed_fits low (pos high) (pos m) h = let l : m ≤ high = omega (arith, ints) in let w = width_grows m high l in omega arith
signed_fits low (negsuc high) (pos m) h = absurd (omega (arith, ints))
signed_fits low high (negsuc m) h = let l : m ≤ low = omega (arith, ints) in let w = width_grows m low l in omega arith

module _ (low high : Option ℤ) (v : ℤ) (within : is_within (record { low = low; high = high }) v ≡ true) where
  pub signed_width : (k : ℕ) → has_sign low ≡ true → fixed_width low high ≡ Some k → signed_octets v ≤ k
  signed_width k s e = go low high within s e
    where
      go : (low high : Option ℤ) → is_within (record { low = low; high = high }) v ≡ true → has_sign low ≡ true → fixed_width low high ≡ Some k → signed_octets v ≤ k
      go (Some (negsuc a)) (Some b) w s e = let f = signed_fits a b v (between (negsuc a) b v w) in let r = rounded_most (max (signed_octets (negsuc a)) (signed_octets b)) k e in omega (arith, f, r.0)
      go (Some (negsuc a)) None w s e = cc
      go (Some (pos a)) h w s e = cc
      go None h w s e = cc

  pub natural_sign : has_sign low ≡ false → is_below_zero v ≡ false
  natural_sign s = go low v within s
    where
      go : (low : Option ℤ) (v : ℤ) → is_within (record { low = low; high = high }) v ≡ true → has_sign low ≡ false → is_below_zero v ≡ false
      go (Some (pos a)) (pos m) w s = refl
      go (Some (pos a)) (negsuc m) w s = let l = is_at_most_le (pos a) (negsuc m) (both_true _ _ w).0 in absurd (omega (arith, ints))
      go (Some (negsuc a)) v w s = cc
      go None v w s = cc

-- ---- their texts

pub signed_counted : (v : ℤ) → written (Oer.signed_form None v) 0 ≡ written (Oer.counted (signed_octets_of v)) 0
unfolding written Oer.signed
signed_counted v = if_true (leb (signed_octets v) (signed_octets v)) (Oer.counted (signed_octets_of v)) (le-leb _ _ (omega arith))

pub natural_counted : (v : ℤ) → is_below_zero v ≡ false → written (Oer.natural_form None v) 0 ≡ written (Oer.counted (unsigned_octets_of v)) 0
unfolding written Oer.unsigned
natural_counted (pos m) e = if_true (leb (least_octets m) (least_octets m)) (Oer.counted (digits 256 (least_octets m) m)) (le-leb _ _ (omega arith))
natural_counted (negsuc m) e = cc

pub adds_fixed_signed : (k : ℕ) (v : ℤ) (old new : List ℕ) → k ≤ 16 → signed_octets v ≤ k → new ≡ old ++ digits 256 k (of_z w128 v) → Adds (written (Oer.signed_form (Some k) v) 0) old new
unfolding written
adds_fixed_signed k v old new l h n = ap (λ w. Some (old ++ w)) (sym (complement_digits k v l (plain_within k v h))) ∙ ap Some (sym n)

pub adds_fewest_signed : (k : ℕ) (v : ℤ) (old new : List ℕ) → k ≡ signed_octets v → k ≤ 16 →
    Adds (written (Oer.counted (digits 256 k (of_z w128 v))) 0) old new → Adds (written (Oer.signed_form None v) 0) old new
adds_fewest_signed k v old new e l a =
    let d : digits 256 k (of_z w128 v) ≡ signed_octets_of v = complement_digits k v l (plain_within k v (omega arith)) ∙ ap (λ j. complement j v) e in
    subst (λ t. Adds t old new) (sym (signed_counted v)) (subst (λ w. Adds (written (Oer.counted w) 0) old new) d a)

pub adds_fixed_natural : (k : ℕ) (v : ℤ) (old new : List ℕ) → is_below_zero v ≡ false → new ≡ old ++ digits 256 k (of_z w128 v) → Adds (written (Oer.natural_form (Some k) v) 0) old new
unfolding written
adds_fixed_natural k (pos m) old new s n = ap Some (sym n)
adds_fixed_natural k (negsuc m) old new s n = cc

pub adds_fewest_natural : (k : ℕ) (v : ℤ) (old new : List ℕ) → is_below_zero v ≡ false → k ≡ least_octets (of_z w128 v) →
    Adds (written (Oer.counted (digits 256 k (of_z w128 v))) 0) old new → Adds (written (Oer.natural_form None v) 0) old new
adds_fewest_natural k (pos m) old new s e a =
    subst (λ t. Adds t old new) (sym (natural_counted (pos m) s)) (subst (λ j. Adds (written (Oer.counted (digits 256 j m)) 0) old new) e a)
adds_fewest_natural k (negsuc m) old new s e a = cc

-- ---- under a value constraint

or_right : (a b : Bool) → b ≡ true → (a || b) ≡ true
or_right true b e = refl
or_right false b e = e

and_first : (a b : Bool) → a ≡ false → (a && b) ≡ false
and_first true b e = cc
and_first false b e = refl

and_second : (a b : Bool) → b ≡ false → (a && b) ≡ false
and_second true b e = e
and_second false b e = refl

few_octets : (v : ℤ) → signed_octets v ≤ 16 → fits_128 v ≡ true
few_octets v h = le-leb _ _ h

pub unbounded_text : (h : Range) (v : ℤ) → is_within h v ≡ true → written (Oer.integer_form (bounds_of None) (held_of None h) v) 0 ≡ written (Oer.signed_form None v) 0
unfolding Oer.integer_form Oer.bounded Oer.signed
unbounded_text h v e = if_true (is_within h v && true) (Oer.signed v) (both_by e refl)

module _ (c : Extensible Value) (h : Range) (v : ℤ) (held : is_within h v ≡ true) (few : signed_octets v ≤ 16) where
  may_stand : (is_within (held_of (Some c) h) v && (not (is_bounded (bounds_of (Some c))) || fits_128 v)) ≡ true
  may_stand = both_by (held_within c h v ∙ both_by held (fits_wide v (few_octets v few))) (or_right (not (is_bounded (bounds_of (Some c)))) (fits_128 v) (few_octets v few))

  pub extensible_text : (bounds_of (Some c)).extensible ≡ true → written (Oer.integer_form (bounds_of (Some c)) (held_of (Some c) h) v) 0 ≡ written (Oer.signed_form None v) 0
  unfolding Oer.integer_form
  extensible_text m = if_true _ _ may_stand ∙
      ap (λ (b : Bool). written (cond b (Oer.signed v) (only_if (is_within (bounds_of (Some c)).range v) (Oer.bounded (bounds_of (Some c)).range.low (bounds_of (Some c)).range.high v))) 0) m

  pub bounded_text : (bounds_of (Some c)).extensible ≡ false → is_within (bounds_of (Some c)).range v ≡ true →
      written (Oer.integer_form (bounds_of (Some c)) (held_of (Some c) h) v) 0 ≡ written (Oer.bounded (lower c.constraint.value) (upper c.constraint.value) v) 0
  unfolding Oer.integer_form
  bounded_text m w = if_true _ _ may_stand ∙
      ap (λ (b : Bool). written (cond b (Oer.signed v) (only_if (is_within (bounds_of (Some c)).range v) (Oer.bounded (bounds_of (Some c)).range.low (bounds_of (Some c)).range.high v))) 0) m
      ∙ if_true (is_within (bounds_of (Some c)).range v) _ w

  pub outside_none : (bounds_of (Some c)).extensible ≡ false → is_within (bounds_of (Some c)).range v ≡ false → written (Oer.integer_form (bounds_of (Some c)) (held_of (Some c) h) v) 0 ≡ None
  unfolding Oer.integer_form
  outside_none m w = if_true _ _ may_stand ∙
      ap (λ (b : Bool). written (cond b (Oer.signed v) (only_if (is_within (bounds_of (Some c)).range v) (Oer.bounded (bounds_of (Some c)).range.low (bounds_of (Some c)).range.high v))) 0) m
      ∙ if_false (is_within (bounds_of (Some c)).range v) _ w

pub wide_none : (c : Extensible Value) (h : Range) (v : ℤ) → 16 < signed_octets v → written (Oer.integer_form (bounds_of (Some c)) (held_of (Some c) h) v) 0 ≡ None
unfolding Oer.integer_form
wide_none c h v l = if_false _ _ (and_first _ _ (held_within c h v ∙ and_second (is_within h v) (is_within wide_range v) (too_wide v l)))

pub few_within : (v : ℤ) → is_within wide_range v ≡ true → signed_octets v ≤ 16
few_within v e = elim (cases_lt 16 (signed_octets v)) [ inl l ↦ let n = too_wide v l in let x : true ≡ false = sym e ∙ n in cc | inr g ↦ g ]

pub many_past : (v : ℤ) → is_within wide_range v ≡ false → 16 < signed_octets v
many_past v e = elim (cases_lt 16 (signed_octets v)) [ inl l ↦ l | inr g ↦ let y = fits_wide v (few_octets v g) in let x : true ≡ false = sym y ∙ e in cc ]

pub held_within_wide : (v : ℤ) → is_within wide_range v ≡ true → FitsSigned w128 v
held_within_wide (pos m) e = let p = between (negsuc (2 ^ 127 - 1)) (pos (2 ^ 127 - 1)) (pos m) e in record { sfits = omega (arith, ints, p.1) }
held_within_wide (negsuc m) e = let p = between (negsuc (2 ^ 127 - 1)) (pos (2 ^ 127 - 1)) (negsuc m) e in record { sfits = omega (arith, ints, p.0) }
