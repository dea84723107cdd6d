-- Bits kept in octets, and further bits appended to them.
use Rattle.std.proofs.Common.{◌≡◌, ℕ, ◌+◌, ◌-◌, ◌*◌, ◌/◌, ◌%◌, ◌^◌, ◌<◌, ◌≤◌, Bool, false, List, [], ◌∷◌, ◌++◌, length}
use Rattle.std.proofs.Common.{replicate, take, drop, get_or, set, ap, sym, ◌∙◌, append_assoc, length-append, arith}
use Rattle.std.proofs.Common.{bit_or, bit_and}
use Rattle.std.proofs.lemmas.Nat.{shr_split, or_shifted, pow-add, shl-shr, shl_whole, shl_below, shr_below, one_shl, and_mask, mod_below, pow_pos}
use Rattle.std.proofs.Math.Nat.{mul_assoc}
use Rattle.std.proofs.lemmas.List.{take_at, drop_at, append-nil, length-replicate, set_at, take_more, take_all, take-append-drop, take-take, take-append-le, length-take-le, length-take}
use Rattle.asn1_model.specs.Numbers.{binary, octet_bits, missing}
use Rattle.asn1_values_bits.specs.Octets.{padded}
use Rattle.asn1_values_bits.specs.Kept.{IsKept}
use Rattle.asn1_values_bits.proofs.Binary.{length-binary, binary_split, binary_cut, binary_low, binary_below}
use Rattle.asn1_values_bits.proofs.Binary.{binary_shifted, binary_join, low_zeros, same_fronts, same_backs}
use Rattle.asn1_values_bits.proofs.Binary.{length-octet_bits, octet_bits_push, octet_bits-take}

-- what the octets of a kept list are
pub kept_bits : (len : ℕ) (os : List ℕ) (v : List Bool) → IsKept len os → take len (octet_bits os) ≡ v → octet_bits os ≡ v ++ replicate (missing len) false
kept_bits len os v k e = sym (take-append-drop len (octet_bits os)) ∙ ap (λ l. l ++ drop len (octet_bits os)) e ∙ ap (λ l. v ++ l) k.zeros

pub kept_length : (len : ℕ) (os : List ℕ) (v : List Bool) → IsKept len os → take len (octet_bits os) ≡ v → length v ≡ len
kept_length len os v k e = omega (arith, sym (ap length e), length-take len (octet_bits os), length-octet_bits os, k.size)

pub keeps : (len : ℕ) (os : List ℕ) (v : List Bool) → length v ≡ len → octet_bits os ≡ v ++ replicate (missing len) false → IsKept len os
keeps len os v n e = record {
  size = omega (arith, ap length e, length-append v (replicate (missing len) false), length-replicate (missing len) false, length-octet_bits os);
  zeros = ap (drop len) e ∙ drop_at v (replicate (missing len) false) len n;
}

pub kept_view : (len : ℕ) (os : List ℕ) (v : List Bool) → length v ≡ len → octet_bits os ≡ v ++ replicate (missing len) false → take len (octet_bits os) ≡ v
kept_view len os v n e = ap (take len) e ∙ take_at v (replicate (missing len) false) len n

-- bits put into the free end of the last octet
pub or_last : (init : List Bool) (v : List Bool) (used free x y : ℕ) → used + free ≡ 8 → y < 2 ^ free →
    init ++ binary 8 x ≡ v ++ replicate free false → init ++ binary 8 (bit_or x y) ≡ v ++ binary free y
or_last init v used free x y n h e =
    let cut : (z : ℕ) → binary 8 z ≡ binary used (z / 2 ^ free) ++ binary free z = λ z. ap (λ k. binary k z) (sym n) ∙ binary_split used free z in
    let whole : (init ++ binary used (x / 2 ^ free)) ++ binary free x ≡ v ++ replicate free false =
    append_assoc init (binary used (x / 2 ^ free)) (binary free x) ∙ ap (λ l. init ++ l) (sym (cut x)) ∙ e in
    let long : length (binary free x) ≡ length (replicate free false) = length-binary free x ∙ sym (length-replicate free false) in
    let front : init ++ binary used (x / 2 ^ free) ≡ v = same_fronts (init ++ binary used (x / 2 ^ free)) (binary free x) v (replicate free false) long whole in
    let none : x % 2 ^ free ≡ 0 = low_zeros free x (same_backs (init ++ binary used (x / 2 ^ free)) (binary free x) v (replicate free false) long whole) in
    let high : x ≡ x / 2 ^ free * 2 ^ free = omega (arith, shr_split x free) in
    let joined : bit_or x y ≡ x / 2 ^ free * 2 ^ free + y = ap (λ z. bit_or z y) high ∙ or_shifted (x / 2 ^ free) free y h in
    ap (λ z. init ++ binary 8 z) joined
    ∙ ap (λ k. init ++ binary k (x / 2 ^ free * 2 ^ free + y)) (sym n)
    ∙ ap (λ l. init ++ l) (sym (binary_join used free (x / 2 ^ free) y h))
    ∙ sym (append_assoc init (binary used (x / 2 ^ free)) (binary free y))
    ∙ ap (λ l. l ++ binary free y) front

last_of : (os : List ℕ) (k x : ℕ) → length os ≡ k + 1 → x ≡ get_or os k x → os ≡ take k os ++ x ∷ []
last_of os k x n e = sym (take_all (k + 1) os (omega arith)) ∙ take_more os k x (omega arith) ∙ ap (λ y. take k os ++ y ∷ []) (sym e)

pub or_last_set : (os : List ℕ) (v : List Bool) (k free x y : ℕ) → length os ≡ k + 1 → x ≡ get_or os k x → free ≤ 8 → y < 2 ^ free →
    octet_bits os ≡ v ++ replicate free false → octet_bits (set os k (bit_or x y)) ≡ v ++ binary free y
or_last_set os v k free x y n e f h b =
    let parts : os ≡ take k os ++ x ∷ [] = last_of os k x n e in
    let front : length (take k os) ≡ k = omega (arith, length-take k os) in
    let used : (8 - free) + free ≡ 8 = omega arith in
    ap (λ l. octet_bits (set l k (bit_or x y))) parts
    ∙ ap octet_bits (set_at (take k os) x [] (bit_or x y) k front)
    ∙ octet_bits_push (take k os) (bit_or x y)
    ∙ or_last (octet_bits (take k os)) v (8 - free) free x y used h (sym (octet_bits_push (take k os) x) ∙ ap octet_bits (sym parts) ∙ b)

-- the high end of bits that begin in the last octet
pub with_high : (os os' : List ℕ) (v : List Bool) (free high : ℕ) → octet_bits os ≡ v ++ replicate free false → free ≡ 0 → os' ≡ os → octet_bits os' ≡ v ++ binary free high
with_high os os' v free high b z e = ap octet_bits e ∙ b ∙ ap (λ k. v ++ replicate k false) z ∙ sym (ap (λ k. v ++ binary k high) z)

-- .. and their low end in a new octet
pub with_low : (os : List ℕ) (v : List Bool) (free count bits wide r : ℕ) → octet_bits os ≡ v ++ binary free (wide / 256) → wide ≡ bits * 2 ^ r →
    count + r ≡ free + 8 → octet_bits (os ++ (wide % 256) ∷ []) ≡ (v ++ binary count bits) ++ replicate r false
with_low os v free count bits wide r b w n =
    octet_bits_push os (wide % 256) ∙ ap (λ l. l ++ binary 8 (wide % 256)) b ∙ append_assoc v (binary free (wide / 256)) (binary 8 (wide % 256))
    ∙ ap (λ l. v ++ l) (sym (binary_cut free 8 wide) ∙ ap (λ k. binary k wide) (sym n) ∙ ap (binary (count + r)) w ∙ binary_shifted count r bits)
    ∙ sym (append_assoc v (binary count bits) (replicate r false))

-- .. or all of them in the last octet
pub with_all : (os : List ℕ) (v : List Bool) (free count bits wide r : ℕ) → octet_bits os ≡ v ++ binary free (wide / 256) →
    wide ≡ bits * 2 ^ (r + 8) → count + r ≡ free → octet_bits os ≡ (v ++ binary count bits) ++ replicate r false
with_all os v free count bits wide r b w n =
    let high : wide / 256 ≡ bits * 2 ^ r = ap (λ x. x / 2 ^ 8) (w ∙ ap (λ x. bits * x) (pow-add 2 r 8) ∙ sym (mul_assoc bits (2 ^ r) (2 ^ 8))) ∙ shl-shr (bits * 2 ^ r) 8 in
    b ∙ ap (λ l. v ++ l) (ap (binary free) high ∙ ap (λ k. binary k (bits * 2 ^ r)) (sym n) ∙ binary_shifted count r bits)
    ∙ sym (append_assoc v (binary count bits) (replicate r false))

-- a number shifted within sixteen bits
pub wide_is : (bits count free : ℕ) → count ≤ 8 → free < 8 → bits < 2 ^ count → bits * 2 ^ (8 + free - count) % 65536 ≡ bits * 2 ^ (8 + free - count)
wide_is bits count free a b h = shl_whole bits count (8 + free - count) 16 h (omega arith)

pub high_fits : (bits count free : ℕ) → count ≤ 8 → free < 8 → bits < 2 ^ count → bits * 2 ^ (8 + free - count) % 65536 / 256 < 2 ^ free
high_fits bits count free a b h =
    let e : count + (8 + free - count) ≡ free + 8 = omega arith in
    rw (wide_is bits count free a b h) (shr_below (bits * 2 ^ (8 + free - count)) free 8 (rw e at (shl_below bits count (8 + free - count) h)))

-- the first octets alone keep the first bits
pub cut_whole : (total len k : ℕ) (os os' : List ℕ) (v : List Bool) → take total (octet_bits os) ≡ v → len ≤ total → len ≡ k * 8 → k ≤ length os →
    os' ≡ take k os → octet_bits os' ≡ take len v ++ replicate (missing len) false
cut_whole total len k os os' v e h n l t =
    let none : missing len ≡ 0 = omega arith in
    ap octet_bits t ∙ octet_bits-take k os l ∙ ap (λ i. take i (octet_bits os)) (sym n) ∙ sym (take-take len total (octet_bits os) h) ∙ ap (take len) e
    ∙ sym (ap (λ i. take len v ++ replicate i false) none ∙ append-nil (take len v))

-- an octet whose low bits are cleared
cleared : (used free x : ℕ) → used + free ≡ 8 → binary 8 (x / 2 ^ free * 2 ^ free) ≡ binary used (x / 2 ^ free) ++ replicate free false
cleared used free x n = ap (λ k. binary k (x / 2 ^ free * 2 ^ free)) (sym n) ∙ binary_shifted used free (x / 2 ^ free)

-- .. and the last of them cleared after these bits
pub cut_within : (total len k free x y : ℕ) (os os' : List ℕ) (v : List Bool) → take total (octet_bits os) ≡ v → len ≤ total →
    len + free ≡ (k + 1) * 8 → 0 < free → free < 8 → k < length os → os' ≡ take (k + 1) os → x ≡ get_or os' k x → y ≡ x / 2 ^ free * 2 ^ free →
    octet_bits (set os' k y) ≡ take len v ++ replicate free false
cut_within total len k free x y os os' v e h n p q l t r c =
    let long : length os' ≡ k + 1 = ap length t ∙ length-take-le (k + 1) os (omega arith) in
    let front : length (take k os') ≡ k = length-take-le k os' (omega arith) in
    let parts : os' ≡ take k os' ++ x ∷ [] = last_of os' k x long r in
    let used : (8 - free) + free ≡ 8 = omega arith in
    let begin : List Bool = octet_bits (take k os') ++ binary (8 - free) (x / 2 ^ free) in
    let size : length begin ≡ len = length-append (octet_bits (take k os')) (binary (8 - free) (x / 2 ^ free)) ∙
    (omega (arith, length-octet_bits (take k os'), length-binary (8 - free) (x / 2 ^ free))) in
    let all : octet_bits os' ≡ begin ++ binary free x =
    ap octet_bits parts ∙ octet_bits_push (take k os') x ∙ ap (λ l. octet_bits (take k os') ++ l) (ap (λ i. binary i x) (sym used) ∙ binary_split (8 - free) free x)
    ∙ sym (append_assoc (octet_bits (take k os')) (binary (8 - free) (x / 2 ^ free)) (binary free x)) in
    let first : take len v ≡ begin =
    ap (take len) (sym e) ∙ take-take len total (octet_bits os) h
    ∙ sym (ap (take len) (ap octet_bits t ∙ octet_bits-take (k + 1) os (omega arith)) ∙ take-take len ((k + 1) * 8) (octet_bits os) (omega arith))
    ∙ ap (take len) all ∙ take_at begin (binary free x) len size in
    ap (λ l. octet_bits (set l k y)) parts ∙ ap octet_bits (set_at (take k os') x [] y k front) ∙ octet_bits_push (take k os') y
    ∙ ap (λ l. octet_bits (take k os') ++ l) (ap (binary 8) c ∙ cleared (8 - free) free x used)
    ∙ sym (append_assoc (octet_bits (take k os')) (binary (8 - free) (x / 2 ^ free)) (replicate free false))
    ∙ ap (λ l. l ++ replicate free false) (sym first)

-- a number of the first bits, where further ones follow
pub first_of : (before now more all : List Bool) (n left width : ℕ) → n ≡ length before → now ++ more ≡ before ++ all → length more ≡ left → length all ≡ width → left ≤ width → take n now ≡ before
first_of before now more all n left width h e p q l =
    let long : n ≤ length now = omega (arith, ap length e, length-append now more, length-append before all) in
    sym (take-append-le n now more long) ∙ ap (take n) e ∙ take_at before all n (sym h)

-- a number's next digits, masked off
pub next_digits : (limit : ℕ) (bs : List Bool) (rest few v : ℕ) → few < limit → bs ++ binary few (bit_and (v / 2 ^ rest) (1 * 2 ^ few % 2 ^ limit - 1)) ++ binary rest v ≡ bs ++ binary (few + rest) v
next_digits limit bs rest few v h =
    ap (λ x. bs ++ binary few (bit_and (v / 2 ^ rest) (x - 1)) ++ binary rest v) (one_shl few limit h)
    ∙ ap (λ x. bs ++ binary few x ++ binary rest v) (and_mask (v / 2 ^ rest) few)
    ∙ ap (λ l. bs ++ l ++ binary rest v) (binary_low few (v / 2 ^ rest))
    ∙ append_assoc bs (binary few (v / 2 ^ rest)) (binary rest v)
    ∙ ap (λ l. bs ++ l) (sym (binary_split few rest v))

pub next_small : (limit rest few v : ℕ) → few < limit → bit_and (v / 2 ^ rest) (1 * 2 ^ few % 2 ^ limit - 1) < 2 ^ few
next_small limit rest few v h = rw (one_shl few limit h, and_mask (v / 2 ^ rest) few) (mod_below (v / 2 ^ rest) (2 ^ few) (pow_pos few))

-- a number's low digits, masked off
pub masked : (old : List Bool) (w v : ℕ) → w ≤ 8 → old ++ binary w (bit_and v (1 * 2 ^ w % 2 ^ 64 - 1)) ≡ old ++ binary w v
masked old w v h =
    ap (λ x. old ++ binary w (bit_and v (x - 1))) (one_shl w 64 (omega arith))
    ∙ ap (λ x. old ++ binary w x) (and_mask v w)
    ∙ ap (λ l. old ++ l) (binary_low w v)

-- the low digits of the low half of a number
pub low_half : (old : List Bool) (w v : ℕ) → w ≤ 64 → old ++ binary w (v % 2 ^ 64) ≡ old ++ binary w v
low_half old w v h =
    let all : (64 - w) + w ≡ 64 = omega arith in
    ap (λ l. old ++ l) (ap (λ k. binary w (v % 2 ^ k)) (sym all) ∙ binary_below w (64 - w) v)

pub kept_padded : (len : ℕ) (os : List ℕ) (v : List Bool) → IsKept len os → take len (octet_bits os) ≡ v → octet_bits os ≡ padded v
kept_padded len os v k e = kept_bits len os v k e ∙ ap (λ n. v ++ replicate (missing n) false) (sym (kept_length len os v k e))

-- how long a list is that grew by digits
pub grown : (new old : List Bool) (w n : ℕ) → new ≡ old ++ binary w n → length new ≡ length old + w
grown new old w n e = ap length e ∙ length-append old (binary w n) ∙ ap (λ k. length old + k) (length-binary w n)

-- bits moved from the front of some to the end of others
pub moved : (old new rest left all : List Bool) (n : ℕ) → new ≡ old ++ take n rest → left ≡ drop n rest → old ++ rest ≡ all → new ++ left ≡ all
moved old new rest left all n e d j =
    ap (λ l. l ++ left) e ∙ append_assoc old (take n rest) left ∙ ap (λ l. old ++ (take n rest ++ l)) d
    ∙ ap (λ l. old ++ l) (take-append-drop n rest) ∙ j
