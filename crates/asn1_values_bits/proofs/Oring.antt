-- Bits ORed into octets.
use Rattle.std.proofs.Common.{◌≡◌, ℕ, zero, suc, ◌+◌, ◌-◌, ◌*◌, ◌/◌, ◌%◌, ◌^◌, ◌<◌, ◌≤◌, ◌==◌, Bool, true, false, ◌||◌}
use Rattle.std.proofs.Common.{max, List, [], ◌∷◌, ◌++◌, length, replicate, take, drop, get_or, set, refl, ap, sym, ◌∙◌}
use Rattle.std.proofs.Common.{append_assoc, length-append, arith, bit_or}
use Rattle.std.proofs.lemmas.Nat.Bits.{bit_at_or}
use Rattle.std.proofs.lemmas.List.{length-replicate, replicate-append-replicate, length-take-le}
use Rattle.std.proofs.lemmas.Nat.{div-mul-add}
use Rattle.asn1_model.specs.Numbers.{binary, octet_bits}
use Rattle.asn1_values_bits.specs.Octets.{ored, placed}
use Rattle.asn1_values_bits.proofs.Binary.{length-binary, length-octet_bits, binary_shifted, binary_split, binary_zero}
use Rattle.asn1_values_bits.proofs.Reading.{take_two}

either_digit : (a b : ℕ) → a < 2 → b < 2 → (max a b == 1) ≡ ((a == 1) || (b == 1))
either_digit zero zero h l = refl
either_digit zero (suc zero) h l = refl
either_digit zero (suc (suc b)) h l = absurd (omega arith)
either_digit (suc zero) zero h l = refl
either_digit (suc zero) (suc zero) h l = refl
either_digit (suc zero) (suc (suc b)) h l = absurd (omega arith)
either_digit (suc (suc a)) b h l = absurd (omega arith)

pub binary_or : (w x y : ℕ) → binary w (bit_or x y) ≡ ored (binary w x) (binary w y)
binary_or zero x y = refl
binary_or (suc w) x y =
    ap (λ d. (d == 1) ∷ binary w (bit_or x y)) (bit_at_or x y w) ∙ ap (λ b. b ∷ binary w (bit_or x y)) (either_digit (x / 2 ^ w % 2) (y / 2 ^ w % 2) (omega arith) (omega arith))
    ∙ ap (λ l. ((x / 2 ^ w % 2 == 1) || (y / 2 ^ w % 2 == 1)) ∷ l) (binary_or w x y)

pub ored-append : (p q s t : List Bool) → length p ≡ length q → ored (p ++ s) (q ++ t) ≡ ored p q ++ ored s t
ored-append [] [] s t h = refl
ored-append [] (y ∷ q) s t h = absurd (omega arith)
ored-append (x ∷ p) [] s t h = absurd (omega arith)
ored-append (x ∷ p) (y ∷ q) s t h = ap (λ l. (x || y) ∷ l) (ored-append p q s t (omega arith))

or_false : (x : Bool) → (x || false) ≡ x
or_false true = refl
or_false false = refl

or_assoc : (x y z : Bool) → ((x || y) || z) ≡ (x || (y || z))
or_assoc true y z = refl
or_assoc false y z = refl

pub ored_zeros : (p : List Bool) (n : ℕ) → length p ≡ n → ored p (replicate n false) ≡ p
ored_zeros [] n h = refl
ored_zeros (x ∷ p) zero h = absurd (omega arith)
ored_zeros (x ∷ p) (suc n) h = ap (λ b. b ∷ ored p (replicate n false)) (or_false x) ∙ ap (λ l. x ∷ l) (ored_zeros p n (omega arith))

pub zeros_ored : (p : List Bool) (n : ℕ) → length p ≡ n → ored (replicate n false) p ≡ p
zeros_ored [] zero h = refl
zeros_ored [] (suc n) h = absurd (omega arith)
zeros_ored (x ∷ p) zero h = absurd (omega arith)
zeros_ored (x ∷ p) (suc n) h = ap (λ l. x ∷ l) (zeros_ored p n (omega arith))

pub ored_assoc : (p q r : List Bool) → length p ≡ length q → length q ≡ length r → ored (ored p q) r ≡ ored p (ored q r)
ored_assoc [] q r h l = refl
ored_assoc (x ∷ p) [] r h l = absurd (omega arith)
ored_assoc (x ∷ p) (y ∷ q) [] h l = absurd (omega arith)
ored_assoc (x ∷ p) (y ∷ q) (z ∷ r) h l = ap (λ b. b ∷ ored (ored p q) r) (or_assoc x y z) ∙ ap (λ k. (x || (y || z)) ∷ k) (ored_assoc p q r (omega arith) (omega arith))

pub length-placed : (place total : ℕ) (bits : List Bool) → place + length bits ≤ total → length (placed place bits total) ≡ total
length-placed place total bits h =
    length-append (replicate place false) (bits ++ replicate (total - (place + length bits)) false)
    ∙ (omega (arith, length-replicate place false, length-append bits (replicate (total - (place + length bits)) false), length-replicate (total - (place + length bits)) false))

-- an octet ORed with another
pub octet_or : (os : List ℕ) (q x y : ℕ) → q < length os → x ≡ get_or os q x → octet_bits (set os q (bit_or x y))
    ≡ ored (octet_bits os) (replicate (q * 8) false ++ (binary 8 y ++ replicate ((length os - (q + 1)) * 8) false))
octet_or [] q x y h r = absurd (omega arith)
octet_or (z ∷ os) zero x y h r =
    let n : (length (z ∷ os) - (0 + 1)) * 8 ≡ length os * 8 = omega arith in
    ap (λ l. l ++ octet_bits os) (binary_or 8 x y)
    ∙ ap (λ l. ored (binary 8 x) (binary 8 y) ++ l) (sym (ored_zeros (octet_bits os) (length os * 8) (length-octet_bits os)))
    ∙ sym (ored-append (binary 8 x) (binary 8 y) (octet_bits os) (replicate (length os * 8) false) (length-binary 8 x ∙ sym (length-binary 8 y)))
    ∙ ap (λ k. ored (binary 8 k ++ octet_bits os) (binary 8 y ++ replicate (length os * 8) false)) r
    ∙ ap (λ k. ored (binary 8 z ++ octet_bits os) (binary 8 y ++ replicate k false)) (sym n)
octet_or (z ∷ os) (suc q) x y h r =
    let Y : List Bool = binary 8 y ++ replicate ((length os - (q + 1)) * 8) false in
    let n : (length (z ∷ os) - (suc q + 1)) * 8 ≡ (length os - (q + 1)) * 8 = omega arith in
    let front : replicate 8 false ++ replicate (q * 8) false ≡ replicate (suc q * 8) false = replicate-append-replicate 8 (q * 8) false ∙ ap (λ k. replicate k false) (omega arith) in
    ap (λ l. binary 8 z ++ l) (octet_or os q x y (omega arith) r)
    ∙ ap (λ l. l ++ ored (octet_bits os) (replicate (q * 8) false ++ Y)) (sym (ored_zeros (binary 8 z) 8 (length-binary 8 z)))
    ∙ sym (ored-append (binary 8 z) (replicate 8 false) (octet_bits os) (replicate (q * 8) false ++ Y) (length-binary 8 z ∙ sym (length-replicate 8 false)))
    ∙ ap (ored (binary 8 z ++ octet_bits os)) (sym (append_assoc (replicate 8 false) (replicate (q * 8) false) Y) ∙ ap (λ l. l ++ Y) front ∙
    ap (λ k. replicate (suc q * 8) false ++ (binary 8 y ++ replicate k false)) (sym n))

-- some bits of an octet among zero bits
pub few_placed : (q offset few v total : ℕ) → offset + few ≤ 8 → v < 2 ^ few → (q + 1) * 8 ≤ total →
    replicate (q * 8) false ++ (binary 8 (v * 2 ^ (8 - offset - few)) ++ replicate (total - (q + 1) * 8) false) ≡ placed (q * 8 + offset) (binary few v) total
few_placed q offset few v total h l t =
    let past : ℕ = 8 - offset - few in
    let F : List Bool = binary few v in
    let rest : ℕ = total - (q + 1) * 8 in
    let eight : (offset + few) + past ≡ 8 = omega arith in
    let same : v ≡ 0 * 2 ^ few + v = omega arith in
    let none : v / 2 ^ few ≡ 0 = ap (λ k. k / 2 ^ few) same ∙ div-mul-add 0 (2 ^ few) v l in
    let end : past + rest ≡ total - (q * 8 + offset + length F) = omega (arith, length-binary few v) in
    let high : binary 8 (v * 2 ^ past) ≡ (replicate offset false ++ F) ++ replicate past false =
    ap (λ k. binary k (v * 2 ^ past)) (sym eight) ∙ binary_shifted (offset + few) past v
    ∙ ap (λ k. k ++ replicate past false) (binary_split offset few v ∙ ap (λ k. binary offset k ++ F) none ∙ ap (λ k. k ++ F) (binary_zero offset)) in
    ap (λ k. replicate (q * 8) false ++ (k ++ replicate rest false)) high
    ∙ ap (λ k. replicate (q * 8) false ++ k) (append_assoc (replicate offset false ++ F) (replicate past false) (replicate rest false) ∙
    append_assoc (replicate offset false) F (replicate past false ++ replicate rest false))
    ∙ sym (append_assoc (replicate (q * 8) false) (replicate offset false) (F ++ (replicate past false ++ replicate rest false)))
    ∙ ap (λ k. k ++ (F ++ (replicate past false ++ replicate rest false))) (replicate-append-replicate (q * 8) offset false)
    ∙ ap (λ k. replicate (q * 8 + offset) false ++ (F ++ k)) (replicate-append-replicate past rest false ∙ ap (λ k. replicate k false) end)

-- bits placed after others
pub placed_more : (p done total : ℕ) (t m : List Bool) → length t ≡ done → p + done + length m ≤ total → ored (placed p t total) (placed (p + done) m total) ≡ placed p (t ++ m) total
placed_more p done total t m h l =
    let n1 : ℕ = total - (p + length t) in
    let n2 : ℕ = total - (p + done + length m) in
    let M : List Bool = m ++ replicate n2 false in
    let size : length M ≡ n1 = length-append m (replicate n2 false) ∙ (omega (arith, length-replicate n2 false)) in
    let end : n2 ≡ total - (p + length (t ++ m)) = omega (arith, length-append t m) in
    let behind : placed (p + done) m total ≡ replicate p false ++ (replicate done false ++ M) =
    ap (λ k. k ++ M) (sym (replicate-append-replicate p done false)) ∙ append_assoc (replicate p false) (replicate done false) M in
    ap (ored (placed p t total)) behind
    ∙ ored-append (replicate p false) (replicate p false) (t ++ replicate n1 false) (replicate done false ++ M) refl
    ∙ ap (λ k. k ++ ored (t ++ replicate n1 false) (replicate done false ++ M)) (ored_zeros (replicate p false) p (length-replicate p false))
    ∙ ap (λ k. replicate p false ++ k) (ored-append t (replicate done false) (replicate n1 false) M (h ∙ sym (length-replicate done false))
    ∙ ap (λ k. k ++ ored (replicate n1 false) M) (ored_zeros t done h) ∙ ap (λ k. t ++ k) (zeros_ored M n1 size) ∙
    sym (append_assoc t m (replicate n2 false)) ∙ ap (λ k. (t ++ m) ++ replicate k false) end)

-- nothing placed
pub placed_none : (B : List Bool) (p total : ℕ) → length B ≡ total → p ≤ total → B ≡ ored B (placed p [] total)
placed_none B p total h l =
    let all : p + (total - (p + 0)) ≡ total = omega arith in
    sym (ap (ored B) (replicate-append-replicate p (total - (p + 0)) false ∙ ap (λ k. replicate k false) all) ∙ ored_zeros B total h)

-- one octet's part of the whole
pub or_on : (B now S : List Bool) (os : List ℕ) (p done few v q offset x y total : ℕ) → length B ≡ total → length os * 8 ≡ total →
    octet_bits os ≡ ored B (placed p (take done S) total) → p + done ≡ q * 8 + offset → offset + few ≤ 8 → q < length os → x ≡ get_or os q x →
    v < 2 ^ few → binary few v ≡ take few (drop done S) → y ≡ v * 2 ^ (8 - offset - few) → done + few ≤ length S → p + (done + few) ≤ total →
    octet_bits (set os q (bit_or x y)) ≡ ored B (placed p (take (done + few) S) total)
or_on B now S os p done few v q offset x y total hB hos m pl h l r fits d e hS hp =
    let room : (length os - (q + 1)) * 8 ≡ total - (q + 1) * 8 = omega arith in
    let t : length (take done S) ≡ done = length-take-le done S (omega arith) in
    let first : octet_bits (set os q (bit_or x y)) ≡ ored (octet_bits os) (placed (p + done) (binary few v) total) =
    octet_or os q x y l r
    ∙ ap (λ k. ored (octet_bits os) (replicate (q * 8) false ++ (binary 8 k ++ replicate ((length os - (q + 1)) * 8) false))) e
    ∙ ap (λ k. ored (octet_bits os) (replicate (q * 8) false ++ (binary 8 (v * 2 ^ (8 - offset - few)) ++ replicate k false))) room
    ∙ ap (ored (octet_bits os)) (few_placed q offset few v total h fits (omega arith))
    ∙ ap (λ k. ored (octet_bits os) (placed k (binary few v) total)) (sym pl) in
    let one : length B ≡ length (placed p (take done S) total) = hB ∙ sym (length-placed p total (take done S) (omega arith)) in
    let two : length (placed p (take done S) total) ≡ length (placed (p + done) (binary few v) total) =
    length-placed p total (take done S) (omega arith) ∙ sym (length-placed (p + done) total (binary few v) (omega (arith, length-binary few v))) in
    first ∙ ap (λ k. ored k (placed (p + done) (binary few v) total)) m
    ∙ ored_assoc B (placed p (take done S) total) (placed (p + done) (binary few v) total) one two
    ∙ ap (ored B) (placed_more p done total (take done S) (binary few v) t (omega (arith, length-binary few v))
    ∙ ap (λ k. placed p (take done S ++ k) total) d ∙ ap (λ k. placed p k total) (sym (take_two done few S)))
