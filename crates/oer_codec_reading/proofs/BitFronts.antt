-- Octets that begin with bits.
use Rattle.std.proofs.Common.{◌≡◌, ℕ, zero, suc, ◌+◌, ◌*◌, ◌/◌, ◌^◌, ◌≤◌, ◌<◌, ◌==◌, Bool, true, false, cond, ◌⊎◌, inl}
use Rattle.std.proofs.Common.{inr, List, [], ◌∷◌, ◌++◌, length, take, drop, map, replicate, refl, sym, ap, ◌∙◌, arith}
use Rattle.std.proofs.Common.{append_assoc, length-append, length-drop, get_or}
use Rattle.std.proofs.lemmas.List.{append-nil, take-append-drop, length-take-le, take_all}
use Rattle.std.proofs.Math.Nat.{mod-eq_of_lt}
use Rattle.std.proofs.lemmas.Bool.{false≢true, eqb-true, eq-eqb}
use Rattle.asn1_model.specs.Numbers.{binary, missing, octet_bits, packed}
use Rattle.asn1_model.specs.Form.{exactly, only_if}
use Rattle.asn1_model.specs.Oer.{any_unused_bits, bits_form}
use Rattle.asn1_values_bits.proofs.Binary.{binary_join, binary_zero, low_zeros, length-octet_bits, same_fronts, same_backs}
use Rattle.asn1_values_bits.proofs.Packed.{packed-octet_bits}
use Rattle.asn1_values_natives.proofs.OctetLaws.{AreOctets}
use Rattle.oer_codec_reading.specs.Bits.{bits_in}
use Rattle.oer_codec_reading.specs.Fronts.{freedoms, is_basic, Stands, NoneStands}
use Rattle.oer_codec_reading.proofs.Fronts.{fronts_equal, exactly_stands, exactly_front, if_stands, if_front, varied_stands, varied_front}
use Rattle.oer_codec_reading.proofs.Freedoms.{any_unused_bits_is_basic}
use Rattle.oer_codec_reading.specs.declared.rules.EncodingRules.{EncodingRules}
use Rattle.std.specs.Int.Digits.{number_from_digits_after}

-- ---- octets of bits, and back

abbrev digit : Bool → ℕ
digit b = cond b 1 0

one_bit : (k n : ℕ) (b : Bool) → binary (k + 1) (n * 2 + digit b) ≡ binary k n ++ b ∷ []
one_bit k n true = sym (binary_join k 1 n 1 (omega arith))
one_bit k n false = sym (binary_join k 1 n 0 (omega arith))

bits_behind : (l : List Bool) (k n : ℕ) → binary (k + length l) (number_from_digits_after 2 n (map digit l)) ≡ binary k n ++ l
bits_behind [] k n = ap (λ j. binary j n) (omega arith) ∙ sym (append-nil (binary k n))
bits_behind (b ∷ l) k n =
    let e : k + length (b ∷ l) ≡ (k + 1) + length l = omega arith in
    ap (λ j. binary j (number_from_digits_after 2 (n * 2 + digit b) (map digit l))) e
    ∙ bits_behind l (k + 1) (n * 2 + digit b)
    ∙ ap (λ m. m ++ l) (one_bit k n b)
    ∙ append_assoc (binary k n) (b ∷ []) l

-- The bits of whole octets are those that were packed.
pub packed_back : (k : ℕ) (bs : List Bool) → length bs ≡ 8 * k → octet_bits (packed bs) ≡ bs
packed_back zero [] h = refl
packed_back zero (b ∷ bs) h = absurd (omega arith)
packed_back (suc k) (a ∷ b ∷ c ∷ d ∷ e ∷ f ∷ g ∷ i ∷ bs) h =
    let o : List Bool = a ∷ b ∷ c ∷ d ∷ e ∷ f ∷ g ∷ i ∷ [] in
    let x : binary 8 (number_from_digits_after 2 0 (map digit o)) ≡ o = bits_behind o 0 0 in
    ap (λ l. l ++ octet_bits (packed bs)) x ∙ ap (λ l. o ++ l) (packed_back k bs (omega arith))
packed_back (suc k) bs h = absurd (omega arith)

whole_octets : (n m : ℕ) → m ≡ missing n → n + m ≡ 8 * ((n + 7) / 8)
whole_octets n m e = omega arith

small_at : (os : List ℕ) → AreOctets os → (k : ℕ) → k < length os → get_or os k 0 < 256
small_at [] a k h = absurd (omega arith)
small_at (o ∷ os) a zero h = a.0
small_at (o ∷ os) a (suc k) h = small_at os a.1 k (omega arith)

pub packed_octets : (os : List ℕ) → AreOctets os → packed (octet_bits os) ≡ os
packed_octets os a = packed-octet_bits os (small_at os a)

-- ---- bits with others after them, up to whole octets

length_with_unused : (bs unused : List Bool) → length unused ≡ missing (length bs) → length (bs ++ unused) ≡ 8 * ((length bs + 7) / 8)
length_with_unused bs unused e = length-append bs unused ∙ whole_octets (length bs) (length unused) e

packed_length : (bs unused : List Bool) → length unused ≡ missing (length bs) → length (packed (bs ++ unused)) * 8 ≡ length bs + missing (length bs)
packed_length bs unused e =
    let b = packed_back ((length bs + 7) / 8) (bs ++ unused) (length_with_unused bs unused e) in
    sym (length-octet_bits (packed (bs ++ unused))) ∙ ap length b ∙ length-append bs unused ∙ ap (λ m. length bs + m) e

-- Bits that come first are those of the octets that were taken.
pub front_with_unused : (bs unused : List Bool) (os w new rest : List ℕ) → length unused ≡ missing (length bs) → packed (bs ++ unused) ++ rest ≡ w →
    os ++ new ≡ w → length os * 8 ≡ length bs + missing (length bs)
    → (take (length bs) (octet_bits os) ≡ bs) × (drop (length bs) (octet_bits os) ≡ unused) × (rest ≡ new)
front_with_unused bs unused os w new rest e h i l =
    let p = packed_length bs unused e in
    let f = fronts_equal (packed (bs ++ unused)) os rest new (omega (arith, p, l)) (h ∙ sym i) in
    let b : octet_bits os ≡ bs ++ unused = ap octet_bits (sym f.0) ∙ packed_back ((length bs + 7) / 8) (bs ++ unused) (length_with_unused bs unused e) in
    let t : take (length bs) (octet_bits os) ++ drop (length bs) (octet_bits os) ≡ bs ++ unused = take-append-drop (length bs) (octet_bits os) ∙ b in
    let d : length (drop (length bs) (octet_bits os)) ≡ length unused = (let x = length-drop (length bs) (octet_bits os) in let y = length-octet_bits os in omega (arith, x, y, l, e)) in (
      same_fronts (take (length bs) (octet_bits os)) (drop (length bs) (octet_bits os)) bs unused d t,
      same_backs (take (length bs) (octet_bits os))
          (drop (length bs) (octet_bits os)) bs unused d t,
      f.1,
    )

taken_length : (n : ℕ) (os : List ℕ) → length os * 8 ≡ n + missing n → length (take n (octet_bits os)) ≡ n
taken_length n os l = let y = length-octet_bits os in length-take-le n (octet_bits os) (omega (arith, y, l))

dropped_length : (n : ℕ) (os : List ℕ) → length os * 8 ≡ n + missing n → length (drop n (octet_bits os)) ≡ missing n
dropped_length n os l = let x = length-drop n (octet_bits os) in let y = length-octet_bits os in omega (arith, x, y, l)

taken_text : (n : ℕ) (os w new : List ℕ) → AreOctets os → os ++ new ≡ w → packed (take n (octet_bits os) ++ drop n (octet_bits os)) ++ new ≡ w
taken_text n os w new a e = ap (λ b. packed b ++ new) (take-append-drop n (octet_bits os)) ∙ ap (λ o. o ++ new) (packed_octets os a) ∙ e

-- ---- the unused bits

pub zero_unused_bits : (n m x : ℕ) (os : List ℕ) → length os * 8 ≡ n + missing n → m ≡ missing n → binary m x ≡ take m (drop n (octet_bits os)) →
    x < 2 ^ m → ((x == 0) ≡ true → drop n (octet_bits os) ≡ replicate (missing n) false) × (drop n (octet_bits os) ≡ replicate (missing n) false → (x == 0) ≡ true)
zero_unused_bits n m x os l e b h =
    let d = dropped_length n os l in
    let t : binary m x ≡ drop n (octet_bits os) = b ∙ take_all m (drop n (octet_bits os)) (omega (arith, d)) in (
      λ z. sym t ∙ ap (binary m) (eqb-true x 0 z) ∙ binary_zero m ∙ ap (λ k. replicate k false) e,
      λ z. let f : binary m x ≡ replicate m false = t ∙ z ∙ ap (λ k. replicate k false) (sym e) in eq-eqb x 0 (sym (mod-eq_of_lt h) ∙ low_zeros m x f),
    )

-- ---- bits of a string

module _ (r : EncodingRules) where
  pub bits_read : (n : ℕ) (os w new : List ℕ) (bs : List Bool) → length os * 8 ≡ n + missing n → AreOctets os → os ++ new ≡ w →
      (is_basic r ≡ true) ⊎ (drop n (octet_bits os) ≡ replicate (missing n) false) → bs ≡ take n (octet_bits os) → Stands (freedoms r) (bits_in n bs) w new
  unfolding bits_form
  bits_read n os w new bs l a e z b =
      let m : length bs ≡ n = ap length b ∙ taken_length n os l in
      let unused : List Bool = drop n (octet_bits os) in
      let k : length unused ≡ missing (length bs) = dropped_length n os l ∙ ap missing (sym m) in
      if_stands (freedoms r) (length bs == n) (bits_form bs) w new (eq-eqb _ _ m)
      (varied_stands (freedoms r) any_unused_bits (replicate (missing (length bs)) false) unused (λ f. only_if (length f == missing (length bs)) (exactly (packed (bs ++ f)))) w new
      (elim z [ inl t ↦ inr (any_unused_bits_is_basic r ∙ t) | inr t ↦ inl (t ∙ ap (λ j. replicate (missing j) false) (sym m)) ])
      (if_stands (freedoms r) (length unused == missing (length bs)) (exactly (packed (bs ++ unused))) w new (eq-eqb _ _ k)
      (exactly_stands (freedoms r) (packed (bs ++ unused)) w new (ap (λ c. packed (c ++ unused) ++ new) b ∙ taken_text n os w new a e))))

  -- the text of bits, and the unused ones
  record WithUnused (bs : List Bool) (w rest : List ℕ) : Type 0 where
    pub unused : List Bool
    pub count : length unused ≡ missing (length bs)
    pub text : packed (bs ++ unused) ++ rest ≡ w
    pub zeros : (unused ≡ replicate (missing (length bs)) false) ⊎ (is_basic r ≡ true)

  bits_front : (n : ℕ) (bs : List Bool) (w rest : List ℕ) → Stands (freedoms r) (bits_in n bs) w rest → (length bs ≡ n) × WithUnused bs w rest
  unfolding bits_form
  bits_front n bs w rest h =
      let i = if_front (freedoms r) (length bs == n) (bits_form bs) w rest h in
      let v = varied_front (freedoms r) any_unused_bits (replicate (missing (length bs)) false) (λ f. only_if (length f == missing (length bs)) (exactly (packed (bs ++ f)))) w rest i.1 in
      let j = if_front (freedoms r) (length v.0 == missing (length bs)) (exactly (packed (bs ++ v.0))) w rest v.2 in (
        eqb-true _ _ i.0,
        record {
          unused = v.0;
          count = eqb-true _ _ j.0;
          text = exactly_front (freedoms r) (packed (bs ++ v.0)) w rest j.1;
          zeros =
              elim v.1 [ inl e ↦ inl e | inr t ↦ inr (sym (any_unused_bits_is_basic r) ∙ t) ];
        },
      )

  pub short_bits : (n m : ℕ) (w : List ℕ) → m * 8 ≡ n + missing n → length w < m → NoneStands (freedoms r) (bits_in n) w
  short_bits n m w e l bs rest h =
      let f = bits_front n bs w rest h in
      let p = packed_length bs f.1.unused f.1.count in
      let q = length-append (packed (bs ++ f.1.unused)) rest in
      let u = ap length f.1.text in
      let s : length bs + missing (length bs) ≡ n + missing n = ap (λ k. k + missing k) f.0 in
      absurd (omega (arith, p, q, u, s, e, l))

  pub no_bits_with_unused : (n : ℕ) (os w new : List ℕ) → length os * 8 ≡ n + missing n → os ++ new ≡ w → (is_basic r ≡ false) ×
      (drop n (octet_bits os) ≡ replicate (missing n) false → ⊥) → NoneStands (freedoms r) (bits_in n) w
  no_bits_with_unused n os w new l e z bs rest h =
      let f = bits_front n bs w rest h in
      let g = front_with_unused bs f.1.unused os w new rest f.1.count f.1.text e (l ∙ ap (λ k. k + missing k) (sym f.0)) in
      elim f.1.zeros [
        | inl t ↦ z.1 (ap (λ k. drop k (octet_bits os)) (sym f.0) ∙ g.1 ∙ t ∙ ap (λ k. replicate (missing k) false) f.0)
        | inr t ↦ false≢true (sym z.0 ∙ t)
      ]

  -- Bits at the start are no longer than the whole.
  pub bits_long : (bs : List Bool) (w rest : List ℕ) → Stands (freedoms r) (bits_form bs) w rest → (length bs + 7) / 8 ≤ length w
  bits_long bs w rest h =
      let f = bits_front (length bs) bs w rest (if_stands (freedoms r) (length bs == length bs) (bits_form bs) w rest (eq-eqb _ _ refl) h) in
      let p = packed_length bs f.1.unused f.1.count in
      let q = length-append (packed (bs ++ f.1.unused)) rest in
      let u = ap length f.1.text in
      omega (arith, p, q, u)

  -- The octets begin with at most this number of bits.
  pub bits_one : (n : ℕ) (a b : List Bool) (w x y : List ℕ) → Stands (freedoms r) (bits_in n a) w x → Stands (freedoms r) (bits_in n b) w y → (a ≡ b) × (x ≡ y)
  bits_one n a b w x y s t =
      let f = bits_front n a w x s in
      let g = bits_front n b w y t in
      let os : List ℕ = packed (b ++ g.1.unused) in
      let l = packed_length b g.1.unused g.1.count in
      let m : length os * 8 ≡ length a + missing (length a) = l ∙ ap (λ k. k + missing k) (g.0 ∙ sym f.0) in
      let p = front_with_unused a f.1.unused os w y x f.1.count f.1.text g.1.text m in
      let q = front_with_unused b g.1.unused os w y y g.1.count g.1.text g.1.text l in
      (sym p.0 ∙ ap (λ k. take k (octet_bits os)) (f.0 ∙ sym g.0) ∙ q.0, p.2)
