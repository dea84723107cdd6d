-- Bits written over others.
use Rattle.std.proofs.Common.{◌≡◌, ℕ, ◌+◌, ◌-◌, ◌*◌, ◌/◌, ◌%◌, ◌^◌, ◌<◌, ◌≤◌, Bool, false, List, ◌∷◌, ◌++◌, length}
use Rattle.std.proofs.Common.{replicate, take, drop, get_or, set, ap, sym, ◌∙◌, append_assoc, length-append, arith}
use Rattle.std.proofs.Common.{bit_or, bit_and}
use Rattle.std.proofs.lemmas.Nat.{shr_below, pow_pos, mod_below, or_shifted, shl_whole, pow-add, mul-add-lt}
use Rattle.std.proofs.lemmas.List.{drop-drop, take_at, drop_at, set_at, length-take-le, length-drop, take-append-drop, take-append-le, drop-append-le, drop_more}
use Rattle.asn1_model.specs.Numbers.{binary, octet_bits, missing}
use Rattle.asn1_values_bits.proofs.Binary.{length-binary, binary_split, binary_join, binary_low, length-octet_bits, octet_bits-append}
use Rattle.asn1_values_bits.proofs.Reading.{joined_digits, joined_small}

-- an octet with some of its bits changed
pub mixed : (x v offset count past : ℕ) → offset + (count + past) ≡ 8 → v < 2 ^ count →
    binary 8 ((x / 2 ^ (count + past) * 2 ^ count + v) * 2 ^ past + x % 2 ^ past) ≡ binary offset (x / 2 ^ (count + past)) ++ (binary count v ++ binary past x)
mixed x v offset count past n h =
    let whole : (offset + count) + past ≡ 8 = omega arith in
    ap (λ k. binary k ((x / 2 ^ (count + past) * 2 ^ count + v) * 2 ^ past + x % 2 ^ past)) (sym whole)
    ∙ sym (binary_join (offset + count) past (x / 2 ^ (count + past) * 2 ^ count + v) (x % 2 ^ past) (mod_below x (2 ^ past) (pow_pos past)))
    ∙ ap (λ l. l ++ binary past (x % 2 ^ past)) (sym (binary_join offset count (x / 2 ^ (count + past)) v h))
    ∙ ap (λ l. (binary offset (x / 2 ^ (count + past)) ++ binary count v) ++ l) (binary_low past x)
    ∙ append_assoc (binary offset (x / 2 ^ (count + past))) (binary count v) (binary past x)

-- the octets with one of them changed so
pub octet_put : (os : List ℕ) (place q offset count past x y v : ℕ) → place ≡ q * 8 + offset → offset + (count + past) ≡ 8 → q < length os →
    x ≡ get_or os q x → binary 8 y ≡ binary offset (x / 2 ^ (count + past)) ++ (binary count v ++ binary past x) →
    octet_bits (set os q y) ≡ take place (octet_bits os) ++ (binary count v ++ drop (place + count) (octet_bits os))
octet_put os place q offset count past x y v p n l r e =
    let P : List Bool = octet_bits (take q os) in
    let a : List Bool = binary offset (x / 2 ^ (count + past)) in
    let b : List Bool = binary count (x / 2 ^ past) in
    let c : List Bool = binary past x in
    let Q : List Bool = octet_bits (drop (q + 1) os) in
    let front : length (take q os) ≡ q = length-take-le q os (omega arith) in
    let parts : os ≡ take q os ++ x ∷ drop (q + 1) os = sym (take-append-drop q os) ∙ ap (λ k. take q os ++ k) (drop_more os q x l ∙ ap (λ k. k ∷ drop (q + 1) os) (sym r)) in
    let octet : binary 8 x ≡ a ++ (b ++ c) = ap (λ k. binary k x) (sym n) ∙ binary_split offset (count + past) x ∙ ap (λ k. a ++ k) (binary_split count past x) in
    let whole : octet_bits os ≡ (P ++ a) ++ (b ++ (c ++ Q)) =
    ap octet_bits parts ∙ octet_bits-append (take q os) (x ∷ drop (q + 1) os) ∙ ap (λ k. P ++ (k ++ Q)) octet
    ∙ ap (λ k. P ++ k) (append_assoc a (b ++ c) Q ∙ ap (λ k. a ++ k) (append_assoc b c Q)) ∙ sym (append_assoc P a (b ++ (c ++ Q))) in
    let at : length (P ++ a) ≡ place = length-append P a ∙ (omega (arith, length-octet_bits (take q os), length-binary offset (x / 2 ^ (count + past)))) in
    let behind : length ((P ++ a) ++ b) ≡ place + count = length-append (P ++ a) b ∙ (omega (arith, length-binary count (x / 2 ^ past))) in
    let first : take place (octet_bits os) ≡ P ++ a = ap (take place) whole ∙ take_at (P ++ a) (b ++ (c ++ Q)) place at in
    let last : drop (place + count) (octet_bits os) ≡ c ++ Q = ap (drop (place + count)) (whole ∙ sym (append_assoc (P ++ a) b (c ++ Q))) ∙ drop_at ((P ++ a) ++ b) (c ++ Q) (place + count) behind in
    ap (λ o. octet_bits (set o q y)) parts ∙ ap octet_bits (set_at (take q os) x (drop (q + 1) os) y q front)
    ∙ octet_bits-append (take q os) (y ∷ drop (q + 1) os) ∙ ap (λ k. P ++ (k ++ Q)) e
    ∙ ap (λ k. P ++ k) (append_assoc a (binary count v ++ c) Q ∙ ap (λ k. a ++ k) (append_assoc (binary count v) c Q)) ∙ sym (append_assoc P a (binary count v ++ (c ++ Q)))
    ∙ ap (λ k. k ++ (binary count v ++ (c ++ Q))) (sym first) ∙ ap (λ k. take place (octet_bits os) ++ (binary count v ++ k)) (sym last)

-- .. of a kept list
pub kept_put : (os os' : List ℕ) (v m : List Bool) (len place count : ℕ) → octet_bits os ≡ v ++ replicate (missing len) false → length v ≡ len →
    place + count ≤ len → octet_bits os' ≡ take place (octet_bits os) ++ (m ++ drop (place + count) (octet_bits os)) →
    octet_bits os' ≡ (take place v ++ (m ++ drop (place + count) v)) ++ replicate (missing len) false
kept_put os os' v m len place count e n h s =
    let Z : List Bool = replicate (missing len) false in
    let first : take place (octet_bits os) ≡ take place v = ap (take place) e ∙ take-append-le place v Z (omega arith) in
    let last : drop (place + count) (octet_bits os) ≡ drop (place + count) v ++ Z = ap (drop (place + count)) e ∙ drop-append-le (place + count) v Z (omega arith) in
    s ∙ ap (λ k. k ++ (m ++ drop (place + count) (octet_bits os))) first ∙ ap (λ k. take place v ++ (m ++ k)) last
    ∙ ap (λ k. take place v ++ k) (sym (append_assoc m (drop (place + count) v) Z)) ∙ sym (append_assoc (take place v) (m ++ drop (place + count) v) Z)

-- the number that the code makes of them
front_small : (x v offset count past : ℕ) → offset + (count + past) ≡ 8 → x < 256 → v < 2 ^ count → x / 2 ^ (count + past) * 2 ^ count + v < 2 ^ (offset + count)
front_small x v offset count past n s h =
    let e : offset + count ≡ count + offset = omega arith in
    let high : x / 2 ^ (count + past) < 2 ^ offset = shr_below x offset (count + past) (rw n s) in
    rw (e, pow-add 2 count offset) (mul-add-lt (x / 2 ^ (count + past)) (2 ^ count) v (2 ^ offset) high h)

pub mixed_is : (x v offset count past : ℕ) → offset + (count + past) ≡ 8 → x < 256 → v < 2 ^ count →
    bit_or (bit_or (x / 2 ^ (count + past) * 2 ^ count % 2 ^ 16) v * 2 ^ past % 2 ^ 16) (bit_and x (1 * 2 ^ past % 2 ^ 16 - 1)) ≡ (x / 2 ^ (count + past) * 2 ^ count + v) * 2 ^ past + x % 2 ^ past
mixed_is x v offset count past n s h =
    let high : x / 2 ^ (count + past) < 2 ^ offset = shr_below x offset (count + past) (rw n s) in
    let inner : bit_or (x / 2 ^ (count + past) * 2 ^ count % 2 ^ 16) v ≡ x / 2 ^ (count + past) * 2 ^ count + v =
    ap (λ k. bit_or k v) (shl_whole (x / 2 ^ (count + past)) offset count 16 high (omega arith)) ∙ or_shifted (x / 2 ^ (count + past)) count v h in
    ap (λ k. bit_or (k * 2 ^ past % 2 ^ 16) (bit_and x (1 * 2 ^ past % 2 ^ 16 - 1))) inner
    ∙ joined_digits (offset + count) past (x / 2 ^ (count + past) * 2 ^ count + v) x 16 (front_small x v offset count past n s h) (omega arith) (omega arith)

pub mixed_small : (x v offset count past : ℕ) → offset + (count + past) ≡ 8 → x < 256 → v < 2 ^ count → (x / 2 ^ (count + past) * 2 ^ count + v) * 2 ^ past + x % 2 ^ past < 2 ^ 8
mixed_small x v offset count past n s h =
    let e : (offset + count) + past ≡ 8 = omega arith in
    rw e at (joined_small (offset + count) past (x / 2 ^ (count + past) * 2 ^ count + v) x (front_small x v offset count past n s h))

-- one turn of writing
pub put_on : (now before new all : List Bool) (place few left value end : ℕ) → few ≤ left → place + left ≡ end → end ≤ length now →
    new ≡ take place now ++ (binary few (value / 2 ^ (left - few)) ++ drop (place + few) now) →
    take place now ++ (binary left value ++ drop end now) ≡ all → take (place + few) new ++ (binary (left - few) value ++ drop end new) ≡ all
put_on now before new all place few left value end h p l e m =
    let b : List Bool = binary few (value / 2 ^ (left - few)) in
    let front : List Bool = take place now ++ b in
    let size : length front ≡ place + few = length-append (take place now) b ∙ (omega (arith, length-take-le place now (omega arith), length-binary few (value / 2 ^ (left - few)))) in
    let whole : new ≡ front ++ drop (place + few) now = e ∙ sym (append_assoc (take place now) b (drop (place + few) now)) in
    let first : take (place + few) new ≡ front = ap (take (place + few)) whole ∙ take_at front (drop (place + few) now) (place + few) size in
    let rest : drop (place + few) new ≡ drop (place + few) now = ap (drop (place + few)) whole ∙ drop_at front (drop (place + few) now) (place + few) size in
    let at : (place + few) + (end - (place + few)) ≡ end = omega arith in
    let last : drop end new ≡ drop end now =
    ap (λ k. drop k new) (sym at) ∙ sym (drop-drop (end - (place + few)) (place + few) new) ∙ ap (drop (end - (place + few))) rest
    ∙ drop-drop (end - (place + few)) (place + few) now ∙ ap (λ k. drop k now) at in
    let digits : b ++ binary (left - few) value ≡ binary left value = sym (binary_split few (left - few) value) ∙ ap (λ k. binary k value) (omega arith) in
    ap (λ k. k ++ (binary (left - few) value ++ drop end new)) first ∙ ap (λ k. front ++ (binary (left - few) value ++ k)) last
    ∙ append_assoc (take place now) b (binary (left - few) value ++ drop end now)
    ∙ ap (λ k. take place now ++ k) (sym (append_assoc b (binary (left - few) value) (drop end now)) ∙ ap (λ k. k ++ drop end now) digits)
    ∙ m

-- the bits up to the end of what was written
pub written_up_to : (old new m : List Bool) (at width : ℕ) → at + width ≤ length old → length m ≡ width → new ≡ take at old ++ (m ++ drop (at + width) old) → take (at + width) new ≡ take at old ++ m
written_up_to old new m at width h n e =
    let front : length (take at old ++ m) ≡ at + width = length-append (take at old) m ∙ (omega (arith, length-take-le at old (omega arith))) in
    ap (take (at + width)) (e ∙ sym (append_assoc (take at old) m (drop (at + width) old))) ∙ take_at (take at old ++ m) (drop (at + width) old) (at + width) front

pub written_length : (old new m : List Bool) (at width : ℕ) → at + width ≤ length old → length m ≡ width → new ≡ take at old ++ (m ++ drop (at + width) old) → length new ≡ length old
written_length old new m at width h n e =
    ap length e ∙ length-append (take at old) (m ++ drop (at + width) old) ∙ (omega (arith, length-append m (drop (at + width) old), length-take-le at old (omega arith), length-drop (at + width) old))
