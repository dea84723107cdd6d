-- How octets begin with a preamble.
use Rattle.std.proofs.Common.{◌≡◌, ℕ, suc, ◌+◌, ◌*◌, ◌/◌, ◌<◌, Bool, false, cond, List, [], ◌∷◌, ◌++◌, length, replicate, Option, Some, None, refl, sym, ◌∙◌, ap, subst, arith}
use Rattle.std.proofs.lemmas.List.{length-append, length-replicate}
use Rattle.std.specs.List.{AllByRecursion}
use Rattle.asn1_laws_values.proofs.Octets.{packed_back}
use Rattle.asn1_model.specs.Numbers.{octet_bits, packed, missing}
use Rattle.std.specs.Prelude.{is_some}
use Rattle.asn1_values_bits.proofs.Binary.{length-octet_bits}
use Rattle.asn1_values_bits.proofs.Leading.{packed-next}
use Rattle.oer_codec_laws.specs.Takes.{Scope, components}
use Rattle.asn1_schema_reading_laws.specs.PresenceBits.{preamble_bits}
use Rattle.oer_codec_decoder.specs.Preamble.{HasBits, HasPreamble}

-- prefixes of the same length are equal, and so is what follows them
pub fronts_equal : {X : Type 0} (a b r s : List X) → length a ≡ length b → a ++ r ≡ b ++ s → (a ≡ b) × (r ≡ s)
fronts_equal [] [] r s l e = (refl, e)
fronts_equal [] (y ∷ b) r s l e = absurd (omega arith)
fronts_equal (x ∷ a) [] r s l e = absurd (omega arith)
fronts_equal (x ∷ a) (y ∷ b) r s l e =
    let h : x ≡ y = cc in
    let t : a ++ r ≡ b ++ s = cc in
    let q = fronts_equal a b r s (omega arith) t in
    let u = q.0 in
    (cc, q.1)

-- octets are their bits, packed
whole_octets : (os : List ℕ) → AllByRecursion (λ o. o < 256) os → packed (octet_bits os) ≡ os
whole_octets [] h = refl
whole_octets (o ∷ os) h = packed-next o (octet_bits os) h.0 ∙ ap (λ l. o ∷ l) (whole_octets os h.1)

-- the bits of a preamble's octets
bits_with_unused : (bs : List Bool) (w : List ℕ) → packed (bs ++ replicate (missing (length bs)) false) ≡ w →
    (octet_bits w ≡ bs ++ replicate (missing (length bs)) false) × (length w * 8 ≡ length bs + missing (length bs))
bits_with_unused bs w e =
    let l : length (bs ++ replicate (missing (length bs)) false) ≡ length bs + missing (length bs) =
    length-append bs (replicate (missing (length bs)) false) ∙ ap (λ k. length bs + k) (length-replicate (missing (length bs)) false) in
    let m : length bs + missing (length bs) ≡ 8 * ((length bs + 7) / 8) = omega arith in
    let b : octet_bits w ≡ bs ++ replicate (missing (length bs)) false = ap octet_bits (sym e) ∙ packed_back ((length bs + 7) / 8) (bs ++ replicate (missing (length bs)) false) (l ∙ m) in
    (b, sym (length-octet_bits w) ∙ ap length b ∙ l)

has_bits : (e : Bool) (n : ℕ) (x : Option Bool) (ms : List Bool) → is_some x ≡ e → length ms ≡ n → length (preamble_bits x ms) ≡ cond e 1 0 + n
has_bits e n None ms p l = subst (λ b. length ms ≡ cond b 1 0 + n) p (omega (arith, l))
has_bits e n (Some x) ms p l = subst (λ b. suc (length ms) ≡ cond b 1 0 + n) p (omega (arith, l))

-- the bits of the octets of a preamble are its bits followed by unused bits of zero
pub zero_unused_bits : (e : Bool) (n : ℕ) (s : Scope) (w rest os : List ℕ) (r : List Bool) → AllByRecursion (λ o. o < 256) w →
    HasBits e n s (octet_bits w) r → length w * 8 ≡ (cond e 1 0 + n) + missing (cond e 1 0 + n) → r ≡ replicate (length r) false → w ++ rest ≡ os → HasPreamble e n s os rest
zero_unused_bits e n (components x ms) w rest os r small h l z f =
    let p = has_bits e n x ms h.0 h.1 in
    let a : length (preamble_bits x ms) + length r ≡ length w * 8 = sym (length-append (preamble_bits x ms) r) ∙ ap length h.2 ∙ length-octet_bits w in
    let c : (cond e 1 0 + n) + length r ≡ (cond e 1 0 + n) + missing (cond e 1 0 + n) = subst (λ k. k + length r ≡ (cond e 1 0 + n) + missing (cond e 1 0 + n)) p (a ∙ l) in
    let d : length r ≡ missing (cond e 1 0 + n) = omega (arith, c) in
    let b : length r ≡ missing (length (preamble_bits x ms)) = d ∙ ap missing (sym p) in
    let q : preamble_bits x ms ++ replicate (missing (length (preamble_bits x ms))) false ≡ octet_bits w = ap (λ t. preamble_bits x ms ++ t) (sym (z ∙ ap (λ k. replicate k false) b)) ∙ h.2 in
    (h.0, h.1, (w, ap packed q ∙ whole_octets w small, f))
zero_unused_bits e n s w rest os r small h l z f = absurd h

-- if an unused bit is set there is no preamble
pub other_unused_bits : (e : Bool) (n : ℕ) (s t : Scope) (w new rest os : List ℕ) (r : List Bool) → HasBits e n s (octet_bits w) r →
    length w * 8 ≡ (cond e 1 0 + n) + missing (cond e 1 0 + n) → w ++ new ≡ os → HasPreamble e n t os rest → r ≡ replicate (length r) false
other_unused_bits e n (components x ms) (components y ns) w new rest os r h l f g =
    let p = has_bits e n x ms h.0 h.1 in
    let q = has_bits e n y ns g.0 g.1 in
    let u = bits_with_unused (preamble_bits y ns) g.2.0 g.2.1 in
    let j : length g.2.0 * 8 ≡ length w * 8 = u.1 ∙ ap (λ k. k + missing k) q ∙ sym l in
    let k : w ≡ g.2.0 = (fronts_equal w g.2.0 new rest (omega (arith, j)) (f ∙ sym g.2.2)).0 in
    let m : preamble_bits x ms ++ r ≡ preamble_bits y ns ++ replicate (missing (length (preamble_bits y ns))) false = h.2 ∙ ap octet_bits k ∙ u.0 in
    let o : r ≡ replicate (missing (length (preamble_bits y ns))) false = (fronts_equal (preamble_bits x ms) (preamble_bits y ns) r _ (p ∙ sym q) m).1 in
    o ∙ ap (λ c. replicate c false) (sym (length-replicate (missing (length (preamble_bits y ns))) false) ∙ ap length (sym o))
other_unused_bits e n (components x ms) t w new rest os r h l f g = absurd g
other_unused_bits e n s t w new rest os r h l f g = absurd h

-- nor if there are too few octets
pub not_short : (e : Bool) (n k : ℕ) (t : Scope) (rest os : List ℕ) → k * 8 ≡ (cond e 1 0 + n) + missing (cond e 1 0 + n) → length os < k → HasPreamble e n t os rest → ⊥
not_short e n k (components y ns) rest os l f g =
    let q = has_bits e n y ns g.0 g.1 in
    let u = bits_with_unused (preamble_bits y ns) g.2.0 g.2.1 in
    let j : length g.2.0 * 8 ≡ k * 8 = u.1 ∙ ap (λ c. c + missing c) q ∙ sym l in
    let m : length g.2.0 + length rest ≡ length os = sym (length-append g.2.0 rest) ∙ ap length g.2.2 in
    omega (arith, j, m, f)
not_short e n k t rest os l f g = g

-- less than an octet is left after the bits of a preamble
pub less_than_octet : (e : Bool) (n : ℕ) (s : Scope) (w : List ℕ) (r : List Bool) → HasBits e n s (octet_bits w) r → length w * 8 ≡ (cond e 1 0 + n) + missing (cond e 1 0 + n) → length r < 8
less_than_octet e n (components x ms) w r h l =
    let p = has_bits e n x ms h.0 h.1 in
    let a : length (preamble_bits x ms) + length r ≡ length w * 8 = sym (length-append (preamble_bits x ms) r) ∙ ap length h.2 ∙ length-octet_bits w in
    let c : (cond e 1 0 + n) + length r ≡ (cond e 1 0 + n) + missing (cond e 1 0 + n) = subst (λ k. k + length r ≡ (cond e 1 0 + n) + missing (cond e 1 0 + n)) p (a ∙ l) in
    omega (arith, c)
less_than_octet e n s w r h l = absurd h
