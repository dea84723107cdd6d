-- Which values of plain types have an encoding.
use Rattle.std.specs.Prelude.{ℤ, pos, negsuc, ◌-ℤ◌, max}
use Rattle.std.proofs.Common.{◌≡◌, ℕ, zero, suc, ◌+◌, ◌-◌, ◌*◌, ◌/◌, ◌%◌, ◌^◌, ◌<◌, ◌≤◌, ◌==◌, ltb, leb, not, lit<}
use Rattle.std.proofs.Common.{Bool, true, false, cond, ◌&&◌, ◌||◌, List, [], ◌∷◌, length, replicate, Option, Some, None}
use Rattle.std.proofs.Common.{option_map, refl, ap, arith}
use Rattle.std.proofs.lemmas.List.{length-replicate}
use Rattle.std.proofs.lemmas.Bool.{ltb-false, lt-ltb, le-leb, leb-true, eq-eqb, and_parts}
use Rattle.std.proofs.lemmas.Int.{ints}
use Rattle.asn1_model.specs.Value.{Value, truth, number, fields, Parts, end, present}
use Rattle.asn1_model.specs.Schema.{required, Schema, boolean, integer, group, sequence, Components, no_component, component}
use Rattle.asn1_model.specs.Normal.{normal, is_empty_group}
use Rattle.asn1_model.specs.Numbers.{digits, binary, width, octet_width, least_octets, signed_octets, complement, above, is_at_most, is_within, fits_128, packed}
use Rattle.asn1_model.specs.Form.{exactly, varied, only_if}
use Rattle.std.specs.Prelude.{is_some}
use Rattle.asn1_model.specs.Rules.{Rules, uper, aper, uper_strict, aper_strict, oer, coer, encoding, per, octet_encoding}
use Rattle.asn1_model.specs.Strings.{is_octet}
use Rattle.std.specs.List.{list_all}
use Rattle.asn1_model.specs.Per
use Rattle.asn1_model.specs.Oer
use Rattle.asn1_laws_values.specs.Plain.{is_plain, are_plain, fits, each_fits}
use Rattle.asn1_laws_values.proofs.Places.{places_fewest}
use Rattle.asn1_laws_values.proofs.Numbers.{length-digits, length-complement, not_below, octets_hold, signed_hold}
use Rattle.asn1_laws_values.proofs.Written.{Written, written_exactly, written_refused, written_as, written_both, written_placed, written_varied, written_within, written_if, written_when}
use Rattle.std.specs.Option.{option_map_or}

-- ---- numbers
octet_width_least : (n k : ℕ) → n < 256 ^ k → octet_width n ≤ k
octet_width_least n k h = places_fewest n 256 n k (lit< tt) h

digits_are_octets : (k n : ℕ) → list_all is_octet (digits 256 k n) ≡ true
digits_are_octets zero n = refl
digits_are_octets (suc k) n = let d = n / 256 ^ k % 256 in let h : ltb (n / 256 ^ k % 256) 256 ≡ true = lt-ltb _ _ (omega arith) in rw h (digits_are_octets k n)

complement_is_octets : (k : ℕ) (v : ℤ) → list_all is_octet (complement k v) ≡ true
complement_is_octets k (pos m) = digits_are_octets k m
complement_is_octets k (negsuc m) = digits_are_octets k _

natural_there : (z : ℤ) → elim z [ pos n ↦ true | negsuc n ↦ false ] ≡ true → (d : ℕ) × ((elim z [ pos n ↦ Some n | negsuc n ↦ None ]) ≡ Some d) × (z ≡ pos d)
natural_there (pos n) e = (n, refl, refl)
natural_there (negsuc n) e = cc

sum_of_parts : (low high v : ℤ) (d k : ℕ) → v -ℤ low ≡ pos d → high -ℤ v ≡ pos k → high -ℤ low ≡ pos (d + k)
sum_of_parts low high v d k e f = omega (arith, ints)

span_there : (low high v : ℤ) → is_at_most low v ≡ true → is_at_most v high ≡ true → (d : ℕ) × (k : ℕ) × (above low v ≡ Some d) × (above low high ≡ Some (d + k))
span_there low high v h i =
    let a = natural_there (v -ℤ low) h in
    let b = natural_there (high -ℤ v) i in
    let c = sum_of_parts low high v a.0 b.0 a.2 b.2 in
    (a.0, b.0, a.1, ap (λ z. elim z [ pos n ↦ Some n | negsuc n ↦ None ]) c)

-- ---- the packed rules
abbrev Bits : Per.BitForm → Bool → Type 0
Bits x b = Written {F = Per.Freedom} {D = Per.Detail} {A = Bool} x b

padding_written : (n : ℕ) → Bits (Per.padding n) true
unfolding Per.padding
padding_written n = written_varied (written_when (length (replicate n false) == n) _ true (eq-eqb _ _ (length-replicate n false)) (written_exactly _))

at_octet_written : (al : Bool) (x : Per.BitForm) (b : Bool) → Bits x b → Bits (Per.at_octet al x) b
unfolding Per.at_octet
at_octet_written false x b h = h
at_octet_written true x b h = written_both (written_placed (λ p. padding_written (Per.missing p))) h

least_within : (span d : ℕ) → d ≤ span → 255 < span → (leb (least_octets d) (least_octets d) && leb (least_octets d) (octet_width span)) ≡ true
least_within span d h k =
    let a : span < 256 ^ octet_width span = octets_hold (octet_width span) span (omega arith) in
    let b : octet_width d ≤ octet_width span = octet_width_least d (octet_width span) (omega arith) in
    let c : least_octets d ≤ octet_width span = one_at_least (octet_width span) a b in
    let e : leb (least_octets d) (octet_width span) ≡ true = le-leb _ _ c in
    let f : leb (least_octets d) (least_octets d) ≡ true = le-leb _ _ (omega arith) in
    rw (f, e) refl
  where
    one_at_least : (k : ℕ) → span < 256 ^ k → octet_width d ≤ k → max 1 (octet_width d) ≤ k
    one_at_least zero a b = absurd (omega arith)
    one_at_least (suc k) a b = omega arith

abbrev by_span : (ℕ → ℕ → Per.BitForm) → Bool → Bool → Bool → Bool → ℕ → ℕ → Per.BitForm
by_span whole al a b c span n = cond a (exactly (binary (width span) n))
    (cond b (Per.at_octet al (exactly (binary 8 n))) (cond c (Per.at_octet al (exactly (binary 16 n))) (varied Per.longer_number (least_octets n) (λ k. Per.in_octets_of whole al span n k))))

by_span_written : (whole : ℕ → ℕ → Per.BitForm) (al : Bool) (span n : ℕ) (a b c : Bool) →
    (255 < span → (d : ℕ) → d ≤ octet_width span - 1 → Bits (whole (octet_width span - 1) d) true) → ltb span 65536 ≡ c → n ≤ span → Bits (by_span whole al a b c span n) true
unfolding Per.in_octets_of
by_span_written whole al span n true b c w e h = written_exactly _
by_span_written whole al span n false true c w e h = at_octet_written al _ true (written_exactly _)
by_span_written whole al span n false false true w e h = at_octet_written al _ true (written_exactly _)
by_span_written whole al span n false false false w e h =
    let i = not_less span e in
    let t = least_within span n h i in
    let l : least_octets n ≤ octet_width span = leb-true _ _ (and_parts _ _ t).1 in
    written_varied {c = Per.longer_number} (written_when
    (leb (least_octets n) (least_octets n) && leb (least_octets n) (octet_width span)) _ true t
    (written_both (w i (least_octets n - 1) (omega arith)) (at_octet_written al _ true (written_exactly _))))
  where
    not_less : (span : ℕ) → ltb span 65536 ≡ false → 255 < span
    not_less span e = let a = ltb-false span 65536 e in omega arith

fewer_octets : (span : ℕ) → octet_width span ≤ span
fewer_octets span = octet_width_least span span (below_power span)
  where
    below_power : (n : ℕ) → n < 256 ^ n
    below_power zero = omega arith
    below_power (suc n) = let i = below_power n in let e : 256 ^ suc n ≡ 256 * 256 ^ n = omega arith in omega arith

constrained_in_written : (most : ℕ) (al : Bool) (span d : ℕ) → span < most → d ≤ span → Bits (Per.constrained_in most al span d) true
unfolding Per.constrained_in
constrained_in_written zero al span d k h = absurd (omega arith)
constrained_in_written (suc most) al span d k h =
    let f = fewer_octets span in
    written_when (leb d span) _ true (le-leb _ _ h)
    (by_span_written (λ s c. Per.constrained_in most al s c) al span d (not al || ltb span 255) (span == 255) (ltb span 65536)
    (λ i c l. constrained_in_written most al (octet_width span - 1) c (omega arith) l) refl h)

constrained_written : (al : Bool) (span d : ℕ) → d ≤ span → Bits (Per.constrained al span d) true
unfolding Per.constrained
constrained_written al span d h = constrained_in_written (suc span) al span d (omega arith) h

whole_written : (al : Bool) (low high v : ℤ) → is_at_most low v ≡ true → is_at_most v high ≡ true → Bits (Per.whole_number al (Some low) (Some high) v) true
unfolding Per.whole_number
whole_written al low high v h i =
    let q = span_there low high v h i in
    let e = q.2 in
    let f = q.3 in
    rw (f, e) (constrained_written al (q.0 + q.1) q.0 (omega arith))

three : (t f w : Bool) → ((t && f) && (w && true)) ≡ (t && f && w)
three true true true = refl
three true true false = refl
three true false w = refl
three false f w = refl

packed_number : (al : Bool) (low high : Option ℤ) (e t : Bool) (v : ℤ) → (is_some low && is_some high && not e) ≡ true →
    Bits (only_if (t && (not (is_some low || is_some high || e) || fits_128 v))
    (Per.with_extension_bit e ((option_map_or (λ x. is_at_most x v) low true) && (option_map_or (λ x. is_at_most v x) high true))
    (Per.whole_number al low high v) (Per.unconstrained al v))) (t && fits_128 v && ((option_map_or (λ x. is_at_most x v) low true) && (option_map_or (λ x. is_at_most v x) high true)))
unfolding Per.with_extension_bit
packed_number al (Some low) (Some high) false t v h =
    written_as (three t (fits_128 v) (is_at_most low v && is_at_most v high))
    (written_if (t && fits_128 v) _ ((is_at_most low v && is_at_most v high) && true)
    (λ e. written_if (is_at_most low v && is_at_most v high) _ true (λ k. let k' = and_parts _ _ k in whole_written al low high v k'.0 k'.1)))
packed_number al (Some low) (Some high) true t v h = cc
packed_number al (Some low) None e t v h = cc
packed_number al None high e t v h = cc

-- ---- components
plain_no_group : (s : Schema) (v : Value) → is_plain s ≡ true → is_empty_group s v ≡ false
unfolding is_plain
plain_no_group (group cs) v h = cc
plain_no_group s v h = refl

packed_spelled : (s : Schema) (v : Value) (x : Per.BitForm) (b : Bool) → is_plain s ≡ true → Bits x b → Bits (Per.spelled required s v x) b
unfolding Per.spelled
packed_spelled s v x b h k = let e = plain_no_group s (normal s v) h in rw e k

module _ (al : Bool) where
  mutual
    unfolding Per.form Per.component_forms Per.addition_forms Per.sequence_form Per.integer_form is_plain are_plain fits each_fits

    pub packed_written : (s : Schema) (v : Value) → is_plain s ≡ true → Bits (Per.form al s v) (fits s v)
    packed_written boolean (truth b) h = written_exactly _
    packed_written boolean v h = written_refused
    packed_written (integer b held) (number v) h = packed_number al b.range.low b.range.high b.extensible (is_within held v) v h
    packed_written (integer b held) v h = written_refused
    packed_written (sequence cs false no_component) (fields ps end) h = written_both (written_exactly _) (packed_parts cs ps h)
    packed_written (sequence cs false no_component) v h = written_refused
    packed_written s v h = cc

    packed_parts : (cs : Components) (ps : Parts) → are_plain cs ≡ true → Bits (Per.component_forms al cs ps) (each_fits cs ps)
    packed_parts no_component end h = written_exactly _
    packed_parts no_component ps h = written_refused
    packed_parts (component t required s cs) (present v ps) h = let h' = and_parts _ _ h in written_both (packed_spelled s v _ _ h'.0 (packed_written s v h'.0)) (packed_parts cs ps h'.1)
    packed_parts (component t required s cs) ps h = written_refused
    packed_parts cs ps h = cc

-- complete encodings
padded_written : (w : List Bool) → Bits (Per.padded w) true
unfolding Per.padded
padded_written [] = written_exactly _
padded_written (b ∷ w) = written_both (written_exactly _) (padding_written _)

message_written : (al : Bool) (s : Schema) (v : Value) → is_plain s ≡ true → Bits (Per.message al s v) (fits s v)
unfolding Per.message Per.complete
message_written al s v h = written_within (packed_written al s v h) padded_written

-- ---- the octet rules
abbrev Octets : Oer.OctetForm → Bool → Type 0
Octets x b = Written {F = Oer.Freedom} {D = Oer.Detail} {A = ℕ} x b

short_length_written : (n : ℕ) (t : Bool) → n ≤ 16 → ltb n 128 ≡ t →
    Octets (elim (cond t None (Some (octet_width n))) [ None ↦ only_if (ltb n 128) (exactly (n ∷ [])) | Some k ↦ Oer.long_length n k ]) true
short_length_written n true h e = written_when (ltb n 128) _ true e (written_exactly _)
short_length_written n false h e = let a = ltb-false n 128 e in absurd (omega arith)

length_written : (n : ℕ) → n ≤ 16 → Octets (Oer.length_form n) true
unfolding Oer.length_form
length_written n h = written_when (ltb n (2 ^ 64)) _ true (lt-ltb _ _ (small n h)) (written_varied {c = Oer.longer_length} (short_length_written n (ltb n 128) h refl))
  where
    small : (n : ℕ) → n ≤ 16 → n < 2 ^ 64
    small n h = omega arith

counted_written : (os : List ℕ) → length os ≤ 16 → list_all is_octet os ≡ true → Octets (Oer.counted os) true
unfolding Oer.counted
counted_written os h e = written_when (list_all is_octet os) _ true e (written_both (length_written (length os) h) (written_exactly _))

signed_written : (v : ℤ) → fits_128 v ≡ true → Octets (Oer.signed v) true
unfolding Oer.signed
signed_written v h =
    let a = leb-true _ _ h in
    let b = length-complement (signed_octets v) v in
    written_varied {c = Oer.longer_number} (written_when (leb (signed_octets v) (signed_octets v)) _ true (le-leb _ _ (omega arith))
    (counted_written _ (omega arith) (complement_is_octets (signed_octets v) v)))

natural_few : (n : ℕ) → fits_128 (pos n) ≡ true → least_octets n ≤ 16
natural_few n h =
    let a = signed_hold 16 (pos n) (leb-true _ _ h) in
    let b : n < 2 ^ 127 = a.1 in
    let c : n < 256 ^ 16 = omega arith in
    let d = octet_width_least n 16 c in
    omega arith

unsigned_written : (n : ℕ) → fits_128 (pos n) ≡ true → Octets (Oer.unsigned n) true
unfolding Oer.unsigned
unsigned_written n h =
    let a = natural_few n h in
    let b = length-digits 256 (least_octets n) n in
    written_varied {c = Oer.longer_number} (written_when (leb (least_octets n) (least_octets n)) _ true (le-leb _ _ (omega arith))
    (counted_written _ (omega arith) (digits_are_octets (least_octets n) n)))

natural_written : (o : Option ℕ) (n : ℕ) → fits_128 (pos n) ≡ true → Octets (Oer.natural_form o (pos n)) true
natural_written None n h = unsigned_written n h
natural_written (Some k) n h = written_exactly _

signed_form_written : (o : Option ℕ) (v : ℤ) → fits_128 v ≡ true → Octets (Oer.signed_form o v) true
signed_form_written None v h = signed_written v h
signed_form_written (Some k) v h = written_exactly _

bounded_written : (low high v : ℤ) → fits_128 v ≡ true → is_at_most low v ≡ true → is_at_most v high ≡ true → Octets (Oer.bounded (Some low) (Some high) v) true
unfolding Oer.bounded
bounded_written (pos low) (pos high) (pos n) f h i = natural_written (Oer.fixed_octets (octet_width high)) n f
bounded_written (pos low) (negsuc high) (pos n) f h i = absurd (not_below n high i)
bounded_written (pos low) high (negsuc n) f h i = absurd (not_below low n h)
bounded_written (negsuc low) high v f h i = signed_form_written (Oer.fixed_octets (max (signed_octets (negsuc low)) (signed_octets high))) v f

octets_number : (low high : Option ℤ) (e t : Bool) (v : ℤ) → (is_some low && is_some high && not e) ≡ true →
    Octets (only_if (t && (not (is_some low || is_some high || e) || fits_128 v))
    (cond e (Oer.signed v) (only_if ((option_map_or (λ x. is_at_most x v) low true)
    && (option_map_or (λ x. is_at_most v x) high true)) (Oer.bounded low high v))))
    (t && fits_128 v && ((option_map_or (λ x. is_at_most x v) low true) && (option_map_or (λ x. is_at_most v x) high true)))
octets_number (Some low) (Some high) false t v h =
    written_as (three t (fits_128 v) (is_at_most low v && is_at_most v high))
    (written_if (t && fits_128 v) _ ((is_at_most low v && is_at_most v high) && true)
    (λ e. written_if (is_at_most low v && is_at_most v high) _ true (λ k. let k' = and_parts _ _ k in bounded_written low high v ((and_parts t _ e).1) k'.0 k'.1)))
octets_number (Some low) (Some high) true t v h = cc
octets_number (Some low) None e t v h = cc
octets_number None high e t v h = cc

octets_spelled : (s : Schema) (v : Value) (x : Oer.OctetForm) (b : Bool) → is_plain s ≡ true → Octets x b → Octets (Oer.spelled required s v x) b
unfolding Oer.spelled
octets_spelled s v x b h k = let e = plain_no_group s (normal s v) h in rw e k

mutual
  unfolding Oer.form Oer.component_forms Oer.addition_forms Oer.sequence_form Oer.integer_form is_plain are_plain fits each_fits

  pub octets_written : (s : Schema) (v : Value) → is_plain s ≡ true → Octets (Oer.form s v) (fits s v)
  octets_written boolean (truth false) h = written_exactly _
  octets_written boolean (truth true) h = written_varied {c = Oer.any_truth} (written_exactly _)
  octets_written boolean v h = written_refused
  octets_written (integer b held) (number v) h = octets_number b.range.low b.range.high b.extensible (is_within held v) v h
  octets_written (integer b held) v h = written_refused
  octets_written (sequence cs false no_component) (fields ps end) h = written_both (written_exactly _) (octets_parts cs ps h)
  octets_written (sequence cs false no_component) v h = written_refused
  octets_written s v h = cc

  octets_parts : (cs : Components) (ps : Parts) → are_plain cs ≡ true → Octets (Oer.component_forms cs ps) (each_fits cs ps)
  octets_parts no_component end h = written_exactly _
  octets_parts no_component ps h = written_refused
  octets_parts (component t required s cs) (present v ps) h = let h' = and_parts _ _ h in written_both (octets_spelled s v _ _ h'.0 (octets_written s v h'.0)) (octets_parts cs ps h'.1)
  octets_parts (component t required s cs) ps h = written_refused
  octets_parts cs ps h = cc

-- ---- all rules
mapped_there : {X Y : Type 0} (k : X → Y) (o : Option X) (b : Bool) → is_some o ≡ b → is_some (option_map k o) ≡ b
mapped_there k None b e = e
mapped_there k (Some x) b e = e

pub plain_encoded : (r : Rules) (s : Schema) (v : Value) → is_plain s ≡ true → is_some (encoding r s v) ≡ fits s v
unfolding encoding per octet_encoding
plain_encoded uper s v h = mapped_there packed _ _ ((message_written false s v h).there 0)
plain_encoded uper_strict s v h = mapped_there packed _ _ ((message_written false s v h).there 0)
plain_encoded aper s v h = mapped_there packed _ _ ((message_written true s v h).there 0)
plain_encoded aper_strict s v h = mapped_there packed _ _ ((message_written true s v h).there 0)
plain_encoded oer s v h = (octets_written s v h).there 0
plain_encoded coer s v h = (octets_written s v h).there 0
