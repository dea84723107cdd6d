-- The field-lists of constrained whole numbers.
use Rattle.std.proofs.Common.{◌≡◌, ℕ, zero, suc, ◌+◌, ◌-◌, ◌*◌, ◌/◌, ◌%◌, ◌^◌, ◌<◌, ◌≤◌, ◌==◌, Bool, true, false, not}
use Rattle.std.proofs.Common.{cond, ltb, leb, ◌&&◌, ◌||◌, ◌++◌, flat_map, Option, None, Some, refl, ap, subst, sym, ◌∙◌}
use Rattle.std.proofs.Common.{arith}
use Rattle.std.proofs.lemmas.Bool.{lt-ltb, le-ltb, le-leb, lt-leb, eq-eqb, ne_eqb, and_from, or_right}
use Rattle.asn1_model.specs.Form.{exactly, varied}
use Rattle.asn1_model.specs.Numbers.{binary, digits, width, octet_width, least_octets}
use Rattle.asn1_model.specs.Per
use Rattle.asn1_values_bits.proofs.Binary.{binary_split, binary_low}
use Rattle.asn1_values_natives.proofs.Widths.{octet_width-octets, octets-least, pow256}
use Rattle.per_codec_packing.specs.FieldLists.{as_field_list, field_list_at}
use Rattle.per_codec_writing.specs.Writing.{Packed, Adds, place, plus, padding_if}
use Rattle.per_codec_writing.proofs.PaddingFieldLists.{adds_field_list, adds_same, if_true, if_false, cond_true, cond_false, adds_both, adds_bits_at_octet}

-- ---- the bits of octets

pub octets_bits : (k n : ℕ) → flat_map (binary 8) (digits 256 k n) ≡ binary (k * 8) n
octets_bits zero n = refl
octets_bits (suc k) n =
    let e : suc k * 8 ≡ 8 + k * 8 = omega arith in
    let p : 256 ^ k ≡ 2 ^ (k * 8) = pow256 k ∙ (let q : 8 * k ≡ k * 8 = omega arith in ap (λ x. 2 ^ x) q) in
    let low : binary 8 (n / 256 ^ k % 256) ≡ binary 8 (n / 2 ^ (k * 8)) = binary_low 8 (n / 256 ^ k) ∙ ap (λ x. binary 8 (n / x)) p in
    ap (λ l. l ++ flat_map (binary 8) (digits 256 k n)) low ∙ ap (λ l. binary 8 (n / 2 ^ (k * 8)) ++ l) (octets_bits k n)
    ∙ sym (ap (λ w. binary w n) e ∙ binary_split 8 (k * 8) n)

-- ---- numbers outside, and numbers of a number of bits

pub outside : (al : Bool) (span d : ℕ) (p : Option ℕ) → span < d → field_list_at (Per.constrained al span d) p ≡ None
unfolding Per.constrained Per.constrained_in
outside al span d p h = if_false (leb d span) _ p (lt-leb _ _ h)

in_bits : (most : ℕ) (al : Bool) (span d : ℕ) (p : Option ℕ) → d ≤ span → (not al || ltb span 255) ≡ true →
    field_list_at (Per.constrained_in (suc most) al span d) p ≡ Some (as_field_list (binary (width span) d))
unfolding Per.constrained_in field_list_at
in_bits most al span d p h t = if_true (leb d span) _ p (le-leb _ _ h) ∙ cond_true (not al || ltb span 255) _ _ p t

pub constrained_bits : (al : Bool) (span d : ℕ) (p : Option ℕ) → d ≤ span → (not al || ltb span 255) ≡ true → field_list_at (Per.constrained al span d) p ≡ Some (as_field_list (binary (width span) d))
unfolding Per.constrained
constrained_bits al span d p h t = in_bits span al span d p h t

-- ---- octet-aligned numbers

large : (most span d : ℕ) (p : Option ℕ) → d ≤ span → 255 ≤ span → field_list_at (Per.constrained_in (suc most) true span d) p
    ≡ field_list_at (cond (span == 255) (Per.at_octet true (exactly (binary 8 d)))
    (cond (ltb span 65536) (Per.at_octet true (exactly (binary 16 d))) (Per.in_octets_of (λ s c. Per.constrained_in most true s c) true span d (least_octets d)))) p
unfolding Per.constrained_in field_list_at
large most span d p h l = if_true (leb d span) _ p (le-leb _ _ h) ∙ cond_false (ltb span 255) _ _ p (le-ltb _ _ l) ∙ fits (span == 255) (ltb span 65536)
  where
    fits : (s t : Bool) → field_list_at
        (cond s (Per.at_octet true (exactly (binary 8 d))) (cond t (Per.at_octet true (exactly (binary 16 d)))
        (varied Per.longer_number (least_octets d) (λ k. Per.in_octets_of (λ s c. Per.constrained_in most true s c) true span d k)))) p
        ≡ field_list_at (cond s (Per.at_octet true (exactly (binary 8 d)))
        (cond t (Per.at_octet true (exactly (binary 16 d))) (Per.in_octets_of (λ s c. Per.constrained_in most true s c) true span d (least_octets d)))) p
    fits true t = refl
    fits false true = refl
    fits false false = refl

-- 256 values
pub adds_octet : (span d : ℕ) (old mid new : Packed) → d ≤ span → span ≡ 255 → mid ≡ plus old (padding_if true (place old)) →
    new ≡ plus mid (as_field_list (binary 8 d)) → Adds (field_list_at (Per.constrained true span d) (place old)) old new
unfolding Per.constrained
adds_octet span d old mid new h s e f =
    adds_same _ _ old new
    (large span span d (place old) h (omega arith) ∙ cond_true (span == 255) _ _ (place old) (eq-eqb _ _ s))
    (adds_bits_at_octet true (binary 8 d) old mid new e f)

-- up to 65536 values
pub adds_two_octets : (span d : ℕ) (old mid new : Packed) → d ≤ span → 255 < span → span < 65536 → mid ≡ plus old (padding_if true (place old)) →
    new ≡ plus mid (as_field_list (binary 16 d)) → Adds (field_list_at (Per.constrained true span d) (place old)) old new
unfolding Per.constrained
adds_two_octets span d old mid new h s t e f =
    adds_same _ _ old new
    (large span span d (place old) h (omega arith) ∙ cond_false (span == 255) _ _ (place old) (ne_eqb _ _ (λ x. omega arith)) ∙ cond_true (ltb span 65536) _ _ (place old) (lt-ltb _ _ t))
    (adds_bits_at_octet true (binary 16 d) old mid new e f)

-- more values, in their fewest octets after their count
octets_grow : (m n : ℕ) → m ≤ n → octet_width m ≤ octet_width n
octets_grow m n h = let b = octet_width-octets n in octets-least m (octet_width n) (octet_width m) (octet_width-octets m) (omega (arith, b.below))

at_least_three : (w span : ℕ) → span < 256 ^ w → 65536 ≤ span → 3 ≤ w
at_least_three zero span b h = absurd (omega (arith, b))
at_least_three (suc zero) span b h = absurd (omega (arith, b))
at_least_three (suc (suc zero)) span b h = absurd (omega (arith, b))
at_least_three (suc (suc (suc w))) span b h = omega arith

-- the count of octets is at most that of the largest number, which has 3 to 16 octets
pub octets_of_span : (span : ℕ) → 65536 ≤ span → span < 2 ^ 128 → (3 ≤ octet_width span) × (octet_width span ≤ 16)
octets_of_span span h k = let b = octet_width-octets span in (at_least_three (octet_width span) span b.below h, octets-least span 16 (octet_width span) b k)

pub adds_fewest : (span d : ℕ) (old number mid new : Packed) → d ≤ span → 65536 ≤ span → span < 2 ^ 128 →
    number ≡ plus old (as_field_list (binary (width (octet_width span - 1)) (least_octets d - 1))) →
    mid ≡ plus number (padding_if true (place number)) → new ≡ plus mid (as_field_list (binary (least_octets d * 8) d)) → Adds (field_list_at (Per.constrained true span d) (place old)) old new
unfolding Per.constrained Per.in_octets_of
adds_fewest span d old number mid new h s t e f g =
    let k : ℕ = least_octets d in
    let most : ℕ = octet_width span in
    let some = octets_of_span span s t in
    let fewer : octet_width d ≤ most = octets_grow d span h in
    let fuel : suc (span - 1) ≡ span = omega arith in
    let count : field_list_at (Per.constrained_in span true (most - 1) (k - 1)) (place old) ≡ Some (as_field_list (binary (width (most - 1)) (k - 1))) =
    subst (λ m. field_list_at (Per.constrained_in m true (most - 1) (k - 1)) (place old) ≡ Some (as_field_list (binary (width (most - 1)) (k - 1))))
    fuel (in_bits (span - 1) true (most - 1) (k - 1) (place old) (omega arith) (lt-ltb _ _ (omega arith))) in
    adds_same _ _ old new
    (large span span d (place old) h (omega arith) ∙ cond_false (span == 255) _ _ (place old) (ne_eqb _ _ (λ x. omega arith)) ∙ cond_false (ltb span 65536) _ _ (place old) (le-ltb _ _ s)
    ∙ if_true (leb k k && leb k most) _ (place old) (and_from (leb k k) (leb k most) (le-leb k k (omega arith)) (le-leb k most (omega arith))))
    (adds_both _ _ old number new (adds_field_list _ (as_field_list (binary (width (most - 1)) (k - 1))) old number count e)
    (adds_bits_at_octet true (flat_map (binary 8) (digits 256 k d)) number mid new f (g ∙ ap (λ l. plus mid (as_field_list l)) (sym (octets_bits k d)))))

-- ---- which of these

pub in_bits_alone : (al : Bool) (span : ℕ) → al ≡ false → (not al || ltb span 255) ≡ true
in_bits_alone al span e = ap (λ a. not a || ltb span 255) e

pub in_bits_below : (al : Bool) (span : ℕ) → span < 255 → (not al || ltb span 255) ≡ true
in_bits_below al span h = or_right (not al) (ltb span 255) (lt-ltb _ _ h)
