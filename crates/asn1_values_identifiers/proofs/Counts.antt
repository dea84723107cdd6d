-- How many groups of seven bits numbers take, and the groups as octets and as bits.
use Rattle.std.proofs.Common.{◌≡◌, ℕ, zero, suc, ◌+◌, ◌*◌, ◌/◌, ◌%◌, ◌^◌, ◌<◌, ◌≤◌, ltb, ◌&&◌, Bool, true, List, []}
use Rattle.std.proofs.Common.{◌∷◌, ◌++◌, map, flat_map, length, inl, inr, refl, ap, sym, subst, ◌∙◌, arith}
use Rattle.std.proofs.Common.{length-append}
use Rattle.std.proofs.lemmas.Bool.{cases_lt, lt-ltb, and_parts}
use Rattle.std.proofs.lemmas.List.{append-nil}
use Rattle.std.proofs.lemmas.Nat.{pow-add}
use Rattle.std.proofs.Math.Nat.{pow-suc, mul_comm}
use Rattle.std.proofs.Math.Pow.{pow_mono}
use Rattle.asn1_model.specs.Numbers.{digits, places, binary, octet_bits}
use Rattle.asn1_model.specs.Strings.{groups_of_seven, is_octet}
use Rattle.std.specs.List.{list_all}
use Rattle.asn1_values_bits.proofs.Binary.{binary_join, octet_bits_push}
use Rattle.asn1_values_identifiers.specs.Groups.{leading, contents}
use Rattle.asn1_values_identifiers.proofs.Sevens.{leading_one, leading_many, groups_one, groups_more}

-- ---- how many they are

as_long : (n : ℕ) → 0 < n → length (leading n) ≡ length (groups_of_seven n)
as_long n h = elim (cases_lt n 128) [
  | inl k ↦ ap length (leading_one n h k) ∙ sym (ap length (groups_one n k))
  | inr k ↦
      ap length (leading_many n k) ∙ length-append (leading (n / 128)) ((128 + n % 128) ∷ [])
      ∙ sym (length-append (leading (n / 128)) ((n % 128) ∷ [])) ∙ sym (ap length (groups_more n k))
]

leading_longer : (n : ℕ) → 128 ≤ n → length (leading n) ≡ length (leading (n / 128)) + 1
leading_longer n h = ap length (leading_many n h) ∙ length-append (leading (n / 128)) ((128 + n % 128) ∷ [])

groups_longer : (n : ℕ) → 128 ≤ n → length (groups_of_seven n) ≡ length (leading (n / 128)) + 1
groups_longer n h = sym (as_long n (omega arith)) ∙ leading_longer n h

pub one_group : (n : ℕ) → n < 128 → length (groups_of_seven n) ≡ 1
one_group n h = ap length (groups_one n h)

next_groups : (n k : ℕ) → 128 ≤ n → length (groups_of_seven (n / 128)) ≡ k → length (groups_of_seven n) ≡ k + 1
next_groups n k h e = groups_longer n h ∙ ap (λ m. m + 1) (as_long (n / 128) (omega arith) ∙ e)

pub two_groups : (n : ℕ) → 128 ≤ n → n < 16384 → length (groups_of_seven n) ≡ 2
two_groups n h k = next_groups n 1 h (one_group (n / 128) (omega arith))

pub three_groups : (n : ℕ) → 16384 ≤ n → n < 2097152 → length (groups_of_seven n) ≡ 3
three_groups n h k = next_groups n 2 (omega arith) (two_groups (n / 128) (omega arith) (omega arith))

pub four_groups : (n : ℕ) → 2097152 ≤ n → n < 268435456 → length (groups_of_seven n) ≡ 4
four_groups n h k = next_groups n 3 (omega arith) (three_groups (n / 128) (omega arith) (omega arith))

pub five_groups : (n : ℕ) → 268435456 ≤ n → n < 34359738368 → length (groups_of_seven n) ≡ 5
five_groups n h k = next_groups n 4 (omega arith) (four_groups (n / 128) (omega arith) (omega arith))

few_leading : (k n : ℕ) → 0 < n → n < 128 ^ k → length (leading n) ≤ k
few_leading zero n p h = let l : n < 1 = h in absurd (omega arith)
few_leading (suc k) n p h =
    let w : 128 ^ suc k ≡ 128 * 128 ^ k = pow-suc 128 k ∙ mul_comm (128 ^ k) 128 in
    elim (cases_lt n 128) [
      | inl l ↦ let e : length (leading n) ≡ 1 = ap length (leading_one n p l) in omega (arith, e)
      | inr l ↦
          let r : length (leading (n / 128)) ≤ k = few_leading k (n / 128) (omega arith) (omega (arith, h, w)) in
          omega (arith, r, leading_longer n l)
    ]

-- ---- as octets

each_joined : (xs ys : List ℕ) → list_all is_octet xs ≡ true → list_all is_octet ys ≡ true → list_all is_octet (xs ++ ys) ≡ true
each_joined [] ys h k = k
each_joined (x ∷ xs) ys h k = let p = and_parts (is_octet x) (list_all is_octet xs) h in ap (λ b. b && list_all is_octet (xs ++ ys)) p.0 ∙ each_joined xs ys p.1 k

octets_raised : (w n : ℕ) → list_all is_octet (map (λ d. d + 128) (digits 128 w n)) ≡ true
octets_raised zero n = refl
octets_raised (suc w) n =
    let h : ltb (n / 128 ^ w % 128 + 128) 256 ≡ true = lt-ltb _ _ (omega arith) in
    ap (λ b. b && list_all is_octet (map (λ d. d + 128) (digits 128 w n))) h ∙ octets_raised w n

leading_octets : (n : ℕ) → list_all is_octet (leading n) ≡ true
unfolding leading
leading_octets n = octets_raised (places 128 n) n

group_octets : (n : ℕ) → list_all is_octet (groups_of_seven n) ≡ true
group_octets n = elim (cases_lt n 128) [
  | inl h ↦ ap (list_all is_octet) (groups_one n h) ∙ ap (λ b. b && true) (lt-ltb n 256 (omega arith))
  | inr h ↦
      ap (list_all is_octet) (groups_more n h)
      ∙ each_joined (leading (n / 128)) ((n % 128) ∷ []) (leading_octets (n / 128)) (ap (λ b. b && true) (lt-ltb (n % 128) 256 (omega arith)))
]

arc_octets : (xs : List ℕ) → list_all is_octet (flat_map groups_of_seven xs) ≡ true
arc_octets [] = refl
arc_octets (x ∷ xs) = each_joined (groups_of_seven x) (flat_map groups_of_seven xs) (group_octets x) (arc_octets xs)

pub contents_octets : (first : ℕ) (others : List ℕ) → list_all is_octet (contents first others) ≡ true
contents_octets first others = each_joined (groups_of_seven first) (flat_map groups_of_seven others) (group_octets first) (arc_octets others)

-- ---- as bits

pub leading_bits_one : (n : ℕ) → 0 < n → n < 128 → binary (8 * length (leading n)) (128 + n) ≡ octet_bits (leading n)
leading_bits_one n p h = subst (λ (l : List ℕ). binary (8 * length l) (128 + n) ≡ octet_bits l) (sym (leading_one n p h)) (sym (append-nil (binary 8 (128 + n))))

pub leading_bits_more : (n f : ℕ) → 128 ≤ n → binary (8 * length (leading (n / 128))) f ≡ octet_bits (leading (n / 128)) →
    binary (8 * length (leading n)) (f * 256 + 128 + n % 128) ≡ octet_bits (leading n)
leading_bits_more n f h b =
    let w : ℕ = 8 * length (leading (n / 128)) in
    let x : ℕ = 128 + n % 128 in
    let e : 8 * length (leading n) ≡ w + 8 = omega (arith, leading_longer n h) in
    let v : f * 256 + 128 + n % 128 ≡ f * 256 + x = omega arith in
    ap (λ k. binary k (f * 256 + 128 + n % 128)) e ∙ ap (binary (w + 8)) v ∙ sym (binary_join w 8 f x (omega arith))
    ∙ ap (λ l. l ++ binary 8 x) b ∙ sym (octet_bits_push (leading (n / 128)) x) ∙ ap octet_bits (sym (leading_many n h))

pub group_bits_one : (n : ℕ) → n < 128 → binary 8 n ≡ octet_bits (groups_of_seven n)
group_bits_one n h = sym (append-nil (binary 8 n)) ∙ ap octet_bits (sym (groups_one n h))

pub group_bits_more : (n f w : ℕ) → 128 ≤ n → w ≡ 8 * length (groups_of_seven n) → binary (8 * length (leading (n / 128))) f
    ≡ octet_bits (leading (n / 128)) → binary w (f * 256 + n % 128) ≡ octet_bits (groups_of_seven n)
group_bits_more n f w h e b =
    let v : ℕ = 8 * length (leading (n / 128)) in
    let x : ℕ = n % 128 in
    let s : w ≡ v + 8 = omega (arith, e, groups_longer n h) in
    ap (λ k. binary k (f * 256 + x)) s ∙ sym (binary_join v 8 f x (omega arith))
    ∙ ap (λ l. l ++ binary 8 x) b ∙ sym (octet_bits_push (leading (n / 128)) x) ∙ ap octet_bits (sym (groups_more n h))

-- ---- the bound of their number

pub leading_fits_one : (n : ℕ) → 0 < n → n < 128 → 128 + n < 2 ^ (8 * length (leading n))
leading_fits_one n p h = let q : 2 ^ (8 * length (leading n)) ≡ 256 = ap (λ (l : List ℕ). 2 ^ (8 * length l)) (leading_one n p h) in omega (arith, q)

pub leading_fits_more : (n f : ℕ) → 128 ≤ n → f < 2 ^ (8 * length (leading (n / 128))) → f * 256 + 128 + n % 128 < 2 ^ (8 * length (leading n))
leading_fits_more n f h b =
    let w : ℕ = 8 * length (leading (n / 128)) in
    let e : 8 * length (leading n) ≡ w + 8 = omega (arith, leading_longer n h) in
    let q : 2 ^ (8 * length (leading n)) ≡ 2 ^ w * 256 = ap (λ k. 2 ^ k) e ∙ pow-add 2 w 8 in
    omega (arith, q, b)

pub leading_small : (n r : ℕ) → 0 < n → n < 2 ^ 28 → r < 2 ^ (8 * length (leading n)) → r < 2 ^ 32
leading_small n r p h b =
    let l : length (leading n) ≤ 4 = few_leading 4 n p h in
    let m : 2 ^ (8 * length (leading n)) ≤ 2 ^ 32 = pow_mono {i = 8 * length (leading n)} {j = 32} (omega (arith, l)) in
    omega (arith, m, b)
