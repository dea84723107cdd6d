-- The texts of bits.
use Rattle.std.proofs.Common.{◌≡◌, ℕ, ◌+◌, ◌-◌, ◌*◌, ◌/◌, ◌%◌, ◌^◌, ◌<◌, ◌≤◌, ◌==◌, suc, Bool, true, false, List, []}
use Rattle.std.proofs.Common.{◌∷◌, ◌++◌, length, get_or, drop, take, replicate, min, Option, Some, None, option_map}
use Rattle.std.proofs.Common.{option_and_then, refl, ap, sym, ◌∙◌, append_assoc, length-append, drop-cons, inl, inr}
use Rattle.std.proofs.Common.{arith}
use Rattle.std.proofs.lemmas.Bool.{eq-eqb, cases_lt}
use Rattle.std.proofs.lemmas.Nat.{shr_below, shl_whole}
use Rattle.std.proofs.lemmas.List.{append-nil, length-replicate, length-take, length-take-le, take-append-drop, take-append-le, take_at, drop_at, get_or-take, get_or_past}
use Rattle.asn1_model.specs.Numbers.{admits}
use Rattle.asn1_model.specs.Form.{written, only_if, exactly}
use Rattle.asn1_model.specs.Schema.{Size, Counts, bit_string}
use Rattle.asn1_model.specs.Value.{bit_list}
use Rattle.asn1_model.specs.Numbers.{binary, missing, octet_bits, packed}
use Rattle.asn1_model.specs.Oer
use Rattle.asn1_values_bits.specs.Octets.{padded}
use Rattle.asn1_values_bits.proofs.Binary.{length-binary, binary_split, length-octet_bits, octet_bits-append, octet_bits-take}
use Rattle.asn1_values_bits.proofs.Leading.{octet_leads, packed-next}
use Rattle.oer_codec_writing.specs.Writing.{Adds, bits_heading}
use Rattle.oer_codec_writing.proofs.ScalarTexts.{if_true, if_false}

if_it_is : (b : Bool) (os : List ℕ) (p : ℕ) → b ≡ true → written {F = Oer.Freedom} {D = Oer.Detail} {A = ℕ} (only_if b (exactly os)) p ≡ Some os
unfolding written
if_it_is true os p e = refl
if_it_is false os p e = cc

pub bits_text : (bs : List Bool) (p : ℕ) → written (Oer.bits_form bs) p ≡ Some (packed (padded bs))
unfolding written Oer.bits_form
bits_text bs p = if_it_is (length (replicate (missing (length bs)) false) == missing (length bs)) (packed (padded bs)) p (eq-eqb _ _ (length-replicate (missing (length bs)) false))

pub adds_fixed_bits : (bs : List Bool) (old new : List ℕ) → new ≡ old ++ packed (padded bs) → Adds (written (Oer.bit_string_form true bs) 0) old new
unfolding Oer.bit_string_form
adds_fixed_bits bs old new e = ap (option_map (λ w. old ++ w)) (bits_text bs 0) ∙ ap Some (sym e)

counted_bits_text : (bs : List Bool) (w : List ℕ) → written (Oer.length_form ((length bs + 7) / 8 + 1)) 0 ≡ Some w →
    written (Oer.bit_string_form false bs) 0 ≡ Some (w ++ (missing (length bs) ∷ packed (padded bs)))
unfolding written Oer.bit_string_form Oer.counted_bits
counted_bits_text bs w e =
    ap (λ o. option_and_then (λ a.
    option_map (λ b. a ++ b) (option_and_then (λ c. option_map (λ d. c ++ d) (written (Oer.bits_form bs) (0 + length a + length c)))
    (Some (missing (length bs) ∷ [])))) o) e ∙ ap (λ o. option_map (λ b. w ++ b) (option_map (λ d. (missing (length bs) ∷ []) ++ d) o)) (bits_text bs (0 + length w + 1))

pub bit_string_text : (z : Size) (h : Counts) (bs : List Bool) → admits z h (length bs) ≡ true →
    written (Oer.form (bit_string z h) (bit_list bs)) 0 ≡ written (Oer.bit_string_form (Oer.is_fixed z) bs) 0
unfolding Oer.form
bit_string_text z h bs e = if_true (admits z h (length bs)) (Oer.bit_string_form (Oer.is_fixed z) bs) e

pub bit_string_none : (z : Size) (h : Counts) (bs : List Bool) → admits z h (length bs) ≡ false → written (Oer.form (bit_string z h) (bit_list bs)) 0 ≡ None
unfolding Oer.form
bit_string_none z h bs e = if_false (admits z h (length bs)) (Oer.bit_string_form (Oer.is_fixed z) bs) e

heading_text : (n : ℕ) → written (bits_heading n) 0 ≡ option_and_then (λ a. option_map (λ b. a ++ b) (Some (missing n ∷ []))) (written (Oer.length_form ((n + 7) / 8 + 1)) 0)
unfolding written
heading_text n = refl

pub adds_heading : (n : ℕ) (old mid new : List ℕ) (k u : ℕ) → k ≡ (n + 7) / 8 + 1 → u ≡ missing n → Adds (written (Oer.length_form k) 0) old mid →
    new ≡ mid ++ u ∷ [] → Adds (written (bits_heading n) 0) old new
adds_heading n old mid new k u e f a b = go (written (Oer.length_form k) 0) refl a
  where
    go : (o : Option (List ℕ)) → written (Oer.length_form k) 0 ≡ o → Adds o old mid → Adds (written (bits_heading n) 0) old new
    go None d x = cc
    go (Some w) d x =
        let m : old ++ w ≡ mid = cc x in
        let t : written (Oer.length_form ((n + 7) / 8 + 1)) 0 ≡ Some w = ap (λ j. written (Oer.length_form j) 0) (sym e) ∙ d in
        let heading : written (bits_heading n) 0 ≡ Some (w ++ missing n ∷ []) = heading_text n ∙ ap (λ o. option_and_then (λ a. option_map (λ b. a ++ b) (Some (missing n ∷ []))) o) t in
        ap (option_map (λ l. old ++ l)) heading ∙ ap Some (sym (append_assoc old w (missing n ∷ [])) ∙ ap (λ l. l ++ missing n ∷ []) m ∙ ap (λ j. mid ++ j ∷ []) (sym f) ∙ sym b)

pub headed_bits : (bs : List Bool) (h : List ℕ) → written (bits_heading (length bs)) 0 ≡ Some h → written (Oer.bit_string_form false bs) 0 ≡ Some (h ++ packed (padded bs))
headed_bits bs h e = go (written (Oer.length_form ((length bs + 7) / 8 + 1)) 0) refl
  where
    last : List ℕ
    last = missing (length bs) ∷ []

    by_length : (o : Option (List ℕ)) → written (Oer.length_form ((length bs + 7) / 8 + 1)) 0 ≡ o → option_and_then (λ a. option_map (λ b. a ++ b) (Some last)) o ≡ Some h
    by_length o d = sym (heading_text (length bs) ∙ ap (λ x. option_and_then (λ a. option_map (λ b. a ++ b) (Some last)) x) d) ∙ e

    go : (o : Option (List ℕ)) → written (Oer.length_form ((length bs + 7) / 8 + 1)) 0 ≡ o → written (Oer.bit_string_form false bs) 0 ≡ Some (h ++ packed (padded bs))
    go None d = let f : None ≡ Some h = by_length None d in cc
    go (Some w) d =
        let f : Some (w ++ last) ≡ Some h = by_length (Some w) d in
        let g : w ++ last ≡ h = cc f in
        counted_bits_text bs w d ∙ ap Some (sym (append_assoc w last (packed (padded bs))) ∙ ap (λ l. l ++ packed (padded bs)) g)

pub adds_headed_bits : (bs : List Bool) (old mid new : List ℕ) → Adds (written (bits_heading (length bs)) 0) old mid →
    new ≡ mid ++ packed (padded bs) → Adds (written (Oer.bit_string_form false bs) 0) old new
adds_headed_bits bs old mid new a b = go (written (bits_heading (length bs)) 0) refl a
  where
    go : (o : Option (List ℕ)) → written (bits_heading (length bs)) 0 ≡ o → Adds o old mid → Adds (written (Oer.bit_string_form false bs) 0) old new
    go None d x = cc
    go (Some h) d x =
        let m : old ++ h ≡ mid = cc x in
        let p : List ℕ = packed (padded bs) in
        ap (option_map (λ l. old ++ l)) (headed_bits bs h d) ∙ ap Some (sym (append_assoc old h p) ∙ ap (λ l. l ++ p) m ∙ sym b)

pub bits_moved : (old octets new : List ℕ) (bs rest : List Bool) (few v x : ℕ) → octets ++ packed (padded bs) ≡ old → 0 < length bs →
    few ≡ min (length bs) 8 → binary few v ≡ take few bs → v < 2 ^ few → x ≡ v * 2 ^ (8 - few) → new ≡ octets ++ x ∷ [] → rest ≡ drop few bs → new ++ packed (padded rest) ≡ old
bits_moved old octets new bs rest few v x h some e d b y n r =
    let front : packed (padded bs) ≡ x ∷ packed (padded rest) = octet_leads bs few v some e d b ∙ ap (λ k. k ∷ packed (padded (drop few bs))) (sym y) ∙ ap (λ l. x ∷ packed (padded l)) (sym r) in
    ap (λ l. l ++ packed (padded rest)) n ∙ append_assoc octets (x ∷ []) (packed (padded rest)) ∙ ap (λ l. octets ++ l) (sym front) ∙ h

packed_behind : (os : List ℕ) (bs : List Bool) → ((i : ℕ) → get_or os i 0 < 256) → packed (octet_bits os ++ bs) ≡ os ++ packed bs
packed_behind [] bs h = refl
packed_behind (o ∷ os) bs h =
    ap packed (append_assoc (binary 8 o) (octet_bits os) bs) ∙ packed-next o (octet_bits os ++ bs) (h 0) ∙ ap (λ l. o ∷ l) (packed_behind os bs (λ i. h (suc i)))

-- whole octets before padded bits are unchanged
whole_in_front : (os : List ℕ) (bs : List Bool) → ((i : ℕ) → get_or os i 0 < 256) → packed (padded (octet_bits os ++ bs)) ≡ os ++ packed (padded bs)
whole_in_front os bs h =
    let count : missing (length (octet_bits os ++ bs)) ≡ missing (length bs) = omega (arith, length-append (octet_bits os) bs, length-octet_bits os) in
    ap (λ n. packed ((octet_bits os ++ bs) ++ replicate n false)) count
    ∙ ap packed (append_assoc (octet_bits os) bs (replicate (missing (length bs)) false))
    ∙ packed_behind os (padded bs) h

pub whole_added : (old mid new whole : List ℕ) (rest : List Bool) → ((i : ℕ) → get_or whole i 0 < 256) → mid ≡ old ++ whole →
    new ≡ mid ++ packed (padded rest) → new ≡ old ++ packed (padded (octet_bits whole ++ rest))
whole_added old mid new whole rest h e n =
    n ∙ ap (λ l. l ++ packed (padded rest)) e ∙ append_assoc old whole (packed (padded rest)) ∙ ap (λ l. old ++ l) (sym (whole_in_front whole rest h))

pub none_left : (octets old : List ℕ) (rest : List Bool) → length rest ≤ 0 → octets ++ packed (padded rest) ≡ old → octets ≡ old
none_left octets old [] h e = sym (append-nil octets) ∙ e
none_left octets old (b ∷ bs) h e = absurd (omega arith)

-- ---- the first bits of octets

front_split : (a b : List Bool) (few n : ℕ) → few ≤ length b → n ≡ length a + few → take n (a ++ b) ≡ a ++ take few b
front_split a b few n h e =
    ap (take n) (ap (λ l. a ++ l) (sym (take-append-drop few b)) ∙ sym (append_assoc a (take few b) (drop few b)))
    ∙ take_at (a ++ take few b) (drop few b) n (omega (arith, e, length-append a (take few b), length-take-le few b h))

-- a number of whole octets, and some bits of the next one
first_bits : (os : List ℕ) (whole few n : ℕ) → whole < length os → few ≤ 8 → n ≡ whole * 8 + few → take n (octet_bits os) ≡ octet_bits (take whole os) ++ take few (binary 8 (get_or os whole 0))
first_bits os whole few n h k e =
    let o : ℕ = get_or os whole 0 in
    let front : List ℕ = take whole os in
    let rest : List Bool = octet_bits (drop (suc whole) os) in
    let parts : front ++ (o ∷ drop (suc whole) os) ≡ os = ap (λ l. front ++ l) (sym (drop-cons os whole 0 h)) ∙ take-append-drop whole os in
    let here : octet_bits os ≡ octet_bits front ++ (binary 8 o ++ rest) = ap octet_bits (sym parts) ∙ octet_bits-append front (o ∷ drop (suc whole) os) in
    let eight : length (binary 8 o) ≡ 8 = length-binary 8 o in
    ap (take n) here
    ∙ front_split (octet_bits front) (binary 8 o ++ rest) few n (omega (arith, k, eight, length-append (binary 8 o) rest))
    (omega (arith, e, length-octet_bits front, length-take-le whole os (omega (arith, h))))
    ∙ ap (λ l. octet_bits front ++ l) (take-append-le few (binary 8 o) rest (omega (arith, k, eight)))

-- the first bits of an octet, followed by zero bits
high_below : (o few : ℕ) → few < 8 → o < 256 → o / 2 ^ (8 - few) < 2 ^ few
high_below o few h l =
    let all : few + (8 - few) ≡ 8 = omega arith in
    let whole : 2 ^ (few + (8 - few)) ≡ 256 = ap (λ k. 2 ^ k) all in
    shr_below o few (8 - few) (omega (arith, whole, l))

high_alone : (o few : ℕ) → few < 8 → o < 256 → o / 2 ^ (8 - few) * 2 ^ (8 - few) % 2 ^ 8 ≡ o / 2 ^ (8 - few) * 2 ^ (8 - few)
high_alone o few h l = shl_whole (o / 2 ^ (8 - few)) few (8 - few) 8 (high_below o few h l) (omega arith)

bits_of_octet : (o few : ℕ) → 0 < few → few < 8 → o < 256 → packed (padded (take few (binary 8 o))) ≡ o / 2 ^ (8 - few) * 2 ^ (8 - few) ∷ []
bits_of_octet o few p h l =
    let v : ℕ = o / 2 ^ (8 - few) in
    let bs : List Bool = take few (binary 8 o) in
    let all : few + (8 - few) ≡ 8 = omega arith in
    let long : length bs ≡ few = length-take-le few (binary 8 o) (omega (arith, length-binary 8 o, h)) in
    let parts : binary 8 o ≡ binary few v ++ binary (8 - few) o = ap (λ k. binary k o) (sym all) ∙ binary_split few (8 - few) o in
    let digits : bs ≡ binary few v = ap (take few) parts ∙ take_at (binary few v) (binary (8 - few) o) few (length-binary few v) in
    let whole : take few bs ≡ bs = ap (take few) (sym (append-nil bs)) ∙ take_at bs [] few long in
    let none : drop few bs ≡ [] = ap (drop few) (sym (append-nil bs)) ∙ drop_at bs [] few long in
    octet_leads bs few v (omega (arith, long, p)) (omega (arith, long, h)) (sym digits ∙ sym whole) (high_below o few h l)
    ∙ ap (λ r. o / 2 ^ (8 - few) * 2 ^ (8 - few) ∷ packed (padded r)) none

octets_taken : (os : List ℕ) (k : ℕ) → ((i : ℕ) → get_or os i 0 < 256) → (i : ℕ) → get_or (take k os) i 0 < 256
octets_taken os k h i = elim (cases_lt i k) [
  | inl l ↦ let e : get_or (take k os) i 0 ≡ get_or os i 0 = get_or-take k os i 0 l in omega (arith, e, h i)
  | inr l ↦ let e : get_or (take k os) i 0 ≡ 0 = get_or_past (take k os) i 0 (omega (arith, length-take k os, l)) in omega (arith, e)
]

pub whole_first_added : (old new os : List ℕ) (n : ℕ) → ((i : ℕ) → get_or os i 0 < 256) → n ≤ length os * 8 → n % 8 ≡ 0 →
    new ≡ old ++ take (n / 8) os → new ≡ old ++ packed (padded (take n (octet_bits os)))
whole_first_added old new os n h l e a =
    let k : ℕ = n / 8 in
    let t : List ℕ = take k os in
    let times : k * 8 ≡ n = omega arith in
    let bits : octet_bits t ≡ take n (octet_bits os) = octet_bits-take k os (omega arith) ∙ ap (λ j. take j (octet_bits os)) times in
    let none : octet_bits t ++ [] ≡ take n (octet_bits os) = append-nil (octet_bits t) ∙ bits in
    whole_added old new new t [] (octets_taken os k h) a (sym (append-nil new)) ∙ ap (λ b. old ++ packed (padded b)) none

pub first_added : (old mid new os : List ℕ) (n x : ℕ) → ((i : ℕ) → get_or os i 0 < 256) → n ≤ length os * 8 → 0 < n % 8 →
    x ≡ get_or os (n / 8) 0 / 2 ^ (8 - n % 8) * 2 ^ (8 - n % 8) % 2 ^ 8 → mid ≡ old ++ take (n / 8) os → new ≡ mid ++ x ∷ [] → new ≡ old ++ packed (padded (take n (octet_bits os)))
first_added old mid new os n x h l d e a b =
    let k : ℕ = n / 8 in
    let few : ℕ = n % 8 in
    let o : ℕ = get_or os k 0 in
    let last : packed (padded (take few (binary 8 o))) ≡ x ∷ [] = bits_of_octet o few d (omega arith) (h k) ∙ ap (λ y. y ∷ []) (sym (e ∙ high_alone o few (omega arith) (h k))) in
    whole_added old mid new (take k os) (take few (binary 8 o)) (octets_taken os k h) a (b ∙ ap (λ l. mid ++ l) (sym last))
    ∙ ap (λ b. old ++ packed (padded b)) (sym (first_bits os k few n (omega arith) (omega arith) (omega arith)))
