-- The bits of views.
use Rattle.std.proofs.Common.{◌≡◌, ◌≤◌, ◌+◌, ◌*◌, ◌/◌, ◌%◌, ◌++◌, ℕ, List, Bool, length, take, drop, replicate, false, suc, min, ◌-◌, ◌^◌, arith, ap, sym, ◌∙◌, append_assoc, inl, inr, [], ◌<◌, set}
use Rattle.std.proofs.lemmas.List.{take-append-le, take-take, take_at, take_more_set, length-take, length-drop, drop-drop, drop_all, take_all, append-nil, take-append-drop, replicate-append-replicate}
use Rattle.std.proofs.lemmas.Bool.{cases_lt}
use Rattle.asn1_model.specs.Numbers.{octet_bits, binary}
use Rattle.asn1_values_bits.specs.declared.bit_str.BitStr.{BitStr}
use Rattle.asn1_values_bits.specs.BitStr.{bits_of}
use Rattle.asn1_values_bits.proofs.Reading.{octet_bits-drop, take_two}
use Rattle.asn1_values_bits.proofs.Binary.{binary_shifted, octet_bits_push, octet_bits-take, length-octet_bits}

pub length-bits_of : (s : BitStr) → length (bits_of s) ≡ s.len
unfolding bits_of
length-bits_of s = omega (arith, length-take s.len (drop s.first (octet_bits s.octets.now)), length-drop s.first (octet_bits s.octets.now), length-octet_bits s.octets.now, s.within)

-- the bits of some of the octets
pub octets_at : (os : List ℕ) (start count : ℕ) → start + count ≤ length os → octet_bits (take count (drop start os)) ≡ take (count * 8) (drop (start * 8) (octet_bits os))
octets_at os start count h = octet_bits-take count (drop start os) (omega (arith, length-drop start os)) ∙ ap (take (count * 8)) (octet_bits-drop start os (omega arith))

-- whole octets and the bits after them
pub whole_and_rest : (os : List ℕ) (first len start count : ℕ) → first + len ≤ length os * 8 → first ≡ start * 8 → count ≡ len / 8 →
    octet_bits (take count (drop start os)) ++ take (len % 8) (drop (first + count * 8) (octet_bits os)) ≡ take len (drop first (octet_bits os))
whole_and_rest os first len start count h s n =
    let B : List Bool = octet_bits os in
    let all : count * 8 + len % 8 ≡ len = omega arith in
    ap (λ l. l ++ take (len % 8) (drop (first + count * 8) B)) (octets_at os start count (omega arith) ∙ ap (λ k. take (count * 8) (drop k B)) (sym s))
    ∙ ap (λ l. take (count * 8) (drop first B) ++ take (len % 8) l) (sym (drop-drop (count * 8) first B))
    ∙ sym (take_two (count * 8) (len % 8) (drop first B))
    ∙ ap (λ k. take k (drop first B)) all

-- the octets that hold bits
pub held : (os : List ℕ) (first len start count : ℕ) → first + len ≤ length os * 8 → first ≡ start * 8 → count ≡ len / 8 + (len % 8 + 7) / 8 →
    take len (octet_bits (take count (drop start os))) ≡ take len (drop first (octet_bits os))
held os first len start count h s n =
    ap (take len) (octets_at os start count (omega arith)) ∙ take-take len (count * 8) (drop (start * 8) (octet_bits os)) (omega arith)
    ∙ ap (λ k. take len (drop k (octet_bits os))) (sym s)

-- the bits of the octets to come: a number of bits, padded with zero bits
abbrev pub to_come : ℕ → List Bool → List Bool
to_come octets rest = rest ++ replicate (octets * 8 - length rest) false

-- the next octet of them
pub next_octet : (octets few v : ℕ) (rest : List Bool) → length rest ≤ suc octets * 8 → few ≡ min (length rest) 8 → binary few v ≡ take few rest →
    binary 8 (v * 2 ^ (8 - few)) ++ to_come octets (drop few rest) ≡ to_come (suc octets) rest
next_octet octets few v rest h n e =
    let eight : few + (8 - few) ≡ 8 = omega arith in
    let zeros : List Bool = replicate (octets * 8 - length (drop few rest)) false in
    let shown : binary 8 (v * 2 ^ (8 - few)) ≡ take few rest ++ replicate (8 - few) false =
    ap (λ k. binary k (v * 2 ^ (8 - few))) (sym eight) ∙ binary_shifted few (8 - few) v ∙ ap (λ l. l ++ replicate (8 - few) false) e in
    elim (cases_lt (length rest) 8) [
      | inl less ↦
          let none : drop few rest ≡ [] = drop_all few rest (omega arith) in
          let some : take few rest ≡ rest = take_all few rest (omega arith) in
          let count : (8 - few) + (octets * 8 - length (drop few rest)) ≡ suc octets * 8 - length rest = omega (arith, length-drop few rest) in
          ap (λ l. l ++ (drop few rest ++ zeros)) (shown ∙ ap (λ l. l ++ replicate (8 - few) false) some)
          ∙ ap (λ l. (rest ++ replicate (8 - few) false) ++ (l ++ zeros)) none
          ∙ append_assoc rest (replicate (8 - few) false) zeros
          ∙ ap (λ l. rest ++ l) (replicate-append-replicate (8 - few) (octets * 8 - length (drop few rest)) false ∙ ap (λ k. replicate k false) count)
      | inr more ↦
          let none : 8 - few ≡ 0 = omega arith in
          let count : octets * 8 - length (drop few rest) ≡ suc octets * 8 - length rest = omega (arith, length-drop few rest) in
          ap (λ l. l ++ (drop few rest ++ zeros)) (shown ∙ ap (λ k. take few rest ++ replicate k false) none ∙ append-nil (take few rest))
          ∙ sym (append_assoc (take few rest) (drop few rest) zeros)
          ∙ ap (λ l. l ++ zeros) (take-append-drop few rest)
          ∙ ap (λ k. rest ++ replicate k false) count
    ]

-- nothing more to come
pub came : (octets : List ℕ) (rest bits : List Bool) (n : ℕ) → length octets ≡ n → length bits ≡ n →
    octet_bits (take n octets) ++ to_come (n - n) rest ≡ to_come n bits → take n (octet_bits octets) ≡ bits
came octets rest bits n l b e =
    let all : take n octets ≡ octets = take_all n octets (omega arith) in
    let long : n ≤ length (octet_bits octets) = omega (arith, length-octet_bits octets) in
    sym (take-append-le n (octet_bits octets) (to_come (n - n) rest) long) ∙ ap (λ o. take n (octet_bits o ++ to_come (n - n) rest)) (sym all) ∙ ap (take n) e
    ∙ take_at bits (replicate (n * 8 - length bits) false) n b

-- one octet more is made
pub octet_made : (octets : List ℕ) (i n few v y : ℕ) (rest all : List Bool) → i < n → length octets ≡ n → length rest ≤ (n - i) * 8 →
    few ≡ min (length rest) 8 → binary few v ≡ take few rest → y ≡ v * 2 ^ (8 - few) → octet_bits (take i octets) ++ to_come (n - i) rest ≡ all →
    octet_bits (take (i + 1) (set octets i y)) ++ to_come (n - (i + 1)) (drop few rest) ≡ all
octet_made octets i n few v y rest all h l r f b e m =
    let left : suc (n - (i + 1)) ≡ n - i = omega arith in
    ap (λ o. octet_bits o ++ to_come (n - (i + 1)) (drop few rest)) (take_more_set octets i y (omega arith))
    ∙ ap (λ o. o ++ to_come (n - (i + 1)) (drop few rest)) (octet_bits_push (take i octets) y)
    ∙ append_assoc (octet_bits (take i octets)) (binary 8 y) (to_come (n - (i + 1)) (drop few rest))
    ∙ ap (λ o. octet_bits (take i octets) ++ o) (ap (λ z. binary 8 z ++ to_come (n - (i + 1)) (drop few rest)) e ∙
    next_octet (n - (i + 1)) few v rest (omega arith) f b ∙ ap (λ k. to_come k rest) left)
    ∙ m
