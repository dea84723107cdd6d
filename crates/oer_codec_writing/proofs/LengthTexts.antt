-- Lengths and counts, at run time.
use Rattle.std.proofs.Common.{◌≡◌, ℕ, zero, suc, ◌+◌, ◌-◌, ◌*◌, ◌/◌, ◌%◌, ◌^◌, ◌<◌, ◌≤◌, Bool, true, false, cond, ltb}
use Rattle.std.proofs.Common.{leb, ◌&&◌, List, [], ◌∷◌, ◌++◌, length, get_or, Option, Some, None, option_map}
use Rattle.std.proofs.Common.{option_and_then, refl, ap, sym, ◌∙◌, arith, append_assoc, bit_and, Fits}
use Rattle.std.specs.Int.{w8}
use Rattle.std.proofs.lemmas.Nat.{and_mask}
use Rattle.std.proofs.lemmas.Bool.{lt-ltb, le-ltb, le-leb}
use Rattle.asn1_model.specs.Form.{written, only_if, varied, exactly, both}
use Rattle.asn1_model.specs.Numbers.{digits, octet_width, least_octets}
use Rattle.asn1_model.specs.Strings.{is_octet}
use Rattle.std.specs.List.{list_all}
use Rattle.asn1_model.specs.Oer
use Rattle.asn1_values_natives.proofs.OctetLaws.{length-digits, AreOctets}
use Rattle.asn1_values_natives.proofs.TwosComplement.{octets-all}
use Rattle.asn1_values_natives.proofs.Widths.{pow256, octets-least, octet_width-octets, Octets}
use Rattle.oer_codec_writing.specs.Writing.{Adds}

-- ---- digits

pub digit_pushed : (old now : List ℕ) (left n x : ℕ) → 0 < left → x ≡ bit_and (n / 2 ^ (8 * (left - 1))) 255 → now ≡ old ++ x ∷ [] → now ++ digits 256 (left - 1) n ≡ old ++ digits 256 left n
digit_pushed old now left n x h e d =
    let k : ℕ = left - 1 in
    let l : left ≡ suc k = omega arith in
    let o : x ≡ n / 256 ^ k % 256 = e ∙ and_mask (n / 2 ^ (8 * k)) 8 ∙ ap (λ p. n / p % 256) (sym (pow256 k)) in
    ap (λ w. w ++ digits 256 k n) d ∙ append_assoc old (x ∷ []) (digits 256 k n) ∙ ap (λ y. old ++ (y ∷ digits 256 k n)) o ∙ sym (ap (λ j. old ++ digits 256 j n) l)

pub digits_octets : (k n : ℕ) → list_all is_octet (digits 256 k n) ≡ true
digits_octets zero n = refl
digits_octets (suc k) n = let h : ltb (n / 256 ^ k % 256) 256 ≡ true = lt-ltb _ _ (omega arith) in ap (λ b. b && list_all is_octet (digits 256 k n)) h ∙ digits_octets k n

octets_are : (os : List ℕ) → AreOctets os → list_all is_octet os ≡ true
octets_are [] h = refl
octets_are (o ∷ os) h = ap (λ b. b && list_all is_octet os) (lt-ltb _ _ h.0) ∙ octets_are os h.1

pub all_octets : (os : List ℕ) → ((i : ℕ) → Fits w8 (get_or os i 0)) → list_all is_octet os ≡ true
all_octets os h = octets_are os (octets-all os h)

pub width_64 : (n : ℕ) → n < 2 ^ 64 → octet_width n ≤ 8
width_64 n h = octets-least n 8 (octet_width n) (octet_width-octets n) h

-- ---- lengths

by_tests : (s t u : Bool) (n w : ℕ) → s ≡ true → t ≡ false → u ≡ true →
    written {F = Oer.Freedom} {D = Oer.Detail} {A = ℕ}
    (only_if s (varied Oer.longer_length (cond t None (Some w)) (λ o.
    elim o [ None ↦ only_if t (exactly (n ∷ [])) | Some k ↦ only_if (leb 1 k && leb k 127 && leb w k) (exactly ((128 + k) ∷ digits 256 k n)) ]))) 0
    ≡ written {F = Oer.Freedom} {D = Oer.Detail} {A = ℕ} (only_if (leb 1 w && leb w 127 && leb w w) (exactly ((128 + w) ∷ digits 256 w n))) 0
unfolding written
by_tests true false u n w a b c = refl
by_tests true true u n w a b c = cc
by_tests false t u n w a b c = cc

if_it_is : (t : Bool) (os : List ℕ) → t ≡ true → written {F = Oer.Freedom} {D = Oer.Detail} {A = ℕ} (only_if t (exactly os)) 0 ≡ Some os
unfolding written
if_it_is true os e = refl
if_it_is false os e = cc

in_one_octet : (s t : Bool) (n w : ℕ) → s ≡ true → t ≡ true →
    written {F = Oer.Freedom} {D = Oer.Detail} {A = ℕ}
    (only_if s (varied Oer.longer_length (cond t None (Some w)) (λ o. elim o [ None ↦ only_if t (exactly (n ∷ [])) | Some k ↦ Oer.long_length n k ]))) 0 ≡ Some (n ∷ [])
unfolding written
in_one_octet true true n w a b = refl
in_one_octet true false n w a b = cc
in_one_octet false t n w a b = cc

pub short_length : (n : ℕ) → n < 128 → written (Oer.length_form n) 0 ≡ Some (n ∷ [])
unfolding Oer.length_form
short_length n h = in_one_octet (ltb n (2 ^ 64)) (ltb n 128) n (octet_width n) (lt-ltb _ _ (omega arith)) (lt-ltb _ _ h)

pub short_added : (n : ℕ) (old new : List ℕ) → n < 128 → Adds (written (Oer.length_form n) 0) old new → new ≡ old ++ n ∷ []
short_added n old new h a =
    let e : Some (old ++ n ∷ []) ≡ Some new = sym (ap (option_map (λ w. old ++ w)) (short_length n h)) ∙ a in
    let f : old ++ n ∷ [] ≡ new = cc e in
    sym f

all_of : (a b c : Bool) → a ≡ true → b ≡ true → c ≡ true → (a && b && c) ≡ true
all_of true true true x y z = refl
all_of false b c x y z = x
all_of true false c x y z = y
all_of true true false x y z = z

pub long_length : (n : ℕ) → 128 ≤ n → n < 2 ^ 64 → written (Oer.length_form n) 0 ≡ Some ((128 + octet_width n) ∷ digits 256 (octet_width n) n)
unfolding Oer.length_form
long_length n h k =
    let w : ℕ = octet_width n in
    let most : w ≤ 8 = width_64 n k in
    let b = octet_width-octets n in
    let least : 1 ≤ w = some_width n w b h in
    by_tests (ltb n (2 ^ 64)) (ltb n 128) true n w (lt-ltb _ _ k) (le-ltb _ _ h) refl
    ∙ if_it_is (leb 1 w && leb w 127 && leb w w) ((128 + w) ∷ digits 256 w n) (all_of _ _ _ (le-leb _ _ least) (le-leb _ _ (omega arith)) (le-leb _ _ (omega arith)))
  where
    some_width : (n w : ℕ) → Octets n w → 128 ≤ n → 1 ≤ w
    some_width n zero b h = absurd (omega (arith, b.below))
    some_width n (suc w) b h = omega arith

-- ---- octets after a length determinant

pub counted_text : (os w : List ℕ) → list_all is_octet os ≡ true → written (Oer.length_form (length os)) 0 ≡ Some w → written (Oer.counted os) 0 ≡ Some (w ++ os)
unfolding written Oer.counted
counted_text os w h e =
    ap (λ t. written (only_if t (both (Oer.length_form (length os)) (exactly os))) 0) h
    ∙ ap (λ o. option_and_then (λ a. option_map (λ b. a ++ b) (Some os)) o) e

pub adds_counted : (os old mid new : List ℕ) → list_all is_octet os ≡ true → Adds (written (Oer.length_form (length os)) 0) old mid → new ≡ mid ++ os → Adds (written (Oer.counted os) 0) old new
adds_counted os old mid new h a e = go (written (Oer.length_form (length os)) 0) refl a
  where
    go : (o : Option (List ℕ)) → written (Oer.length_form (length os)) 0 ≡ o → Adds o old mid → Adds (written (Oer.counted os) 0) old new
    go None d x = cc
    go (Some w) d x =
        let m : old ++ w ≡ mid = cc x in
        ap (option_map (λ t. old ++ t)) (counted_text os w h d) ∙ ap Some (sym (append_assoc old w os) ∙ ap (λ l. l ++ os) m ∙ sym e)

fewest : (t : Bool) (os : List ℕ) → t ≡ true → written (only_if t (Oer.counted os)) 0 ≡ written (Oer.counted os) 0
fewest true os e = refl
fewest false os e = cc

-- a count in its fewest octets
pub count_text : (n : ℕ) → n < 2 ^ 64 → written (Oer.unsigned n) 0 ≡ Some (least_octets n ∷ digits 256 (least_octets n) n)
unfolding written Oer.unsigned
count_text n h =
    let w : ℕ = least_octets n in
    let most : octet_width n ≤ 8 = width_64 n h in
    let l : length (digits 256 w n) ≡ w = length-digits w n in
    fewest (leb w w) (digits 256 w n) (le-leb _ _ (omega arith))
    ∙ counted_text (digits 256 w n) (w ∷ []) (digits_octets w n) (ap (λ k. written (Oer.length_form k) 0) l ∙ short_length w (omega arith))

pub adds_text : (o : Option (List ℕ)) (w old new : List ℕ) → o ≡ Some w → new ≡ old ++ w → Adds o old new
adds_text o w old new e h = ap (option_map (λ x. old ++ x)) e ∙ ap Some (sym h)
