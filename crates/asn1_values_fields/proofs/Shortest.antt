-- Octets read from bits, and the integers of which they are the shortest encoding.
use Rattle.std.proofs.Common.{◌≡◌, ℕ, ℤ, zero, suc, ◌+◌, ◌*◌, ◌<◌, ◌≤◌, pos, negsuc, Bool, true, false, not, IsTrue}
use Rattle.std.proofs.Common.{List, [], ◌∷◌, length, take, replicate, get_or, refl, ap, sym, ◌∙◌, arith, Fits, w8}
use Rattle.std.proofs.lemmas.List.{length-append, length-replicate, length-take-le}
use Rattle.asn1_model.specs.Numbers.{octet_bits, packed, missing, complement, signed_octets}
use Rattle.asn1_values_bits.specs.Octets.{padded}
use Rattle.asn1_values_bits.proofs.Binary.{length-octet_bits}
use Rattle.asn1_values_bits.proofs.Packed.{packed-octet_bits}
use Rattle.asn1_values_natives.specs.Octets.{signed_number, signed_octets_of, is_padded}
use Rattle.asn1_values_natives.proofs.OctetLaws.{AreOctets}
use Rattle.asn1_values_natives.proofs.TwosComplement.{octets-all, octets-complement, length-complement, complement-signed, written-kept, written-fewest}
use Rattle.asn1_values_fields.specs.Read.{AreNotFewest}

none_missing : (n : ℕ) → missing (n * 8) ≡ 0
none_missing n = omega arith

-- as many octets as groups of eight bits
pub octets_taken : (count : ℕ) (bits front : List Bool) (os items : List ℕ) → front ≡ take (count * 8) bits → count * 8 ≤ length bits → octet_bits os ≡ padded front → items ≡ os → length items ≡ count
octets_taken count bits front os items f h e i =
    let l : length front ≡ count * 8 = ap length f ∙ length-take-le (count * 8) bits h in
    let m : missing (length front) ≡ 0 = ap missing l ∙ none_missing count in
    let w : length (octet_bits os) ≡ length front + missing (length front) = ap length e ∙
    length-append front (replicate (missing (length front)) false) ∙ ap (λ k. length front + k) (length-replicate (missing (length front)) false) in
    let o = length-octet_bits os in
    ap length i ∙ (omega arith)

small_at : (os : List ℕ) → AreOctets os → (k : ℕ) → k < length os → get_or os k 0 < 256
small_at [] h k l = absurd (omega arith)
small_at (o ∷ os) h zero l = h.0
small_at (o ∷ os) h (suc k) l = small_at os h.1 k (omega arith)

pub same_octets : (xs ys : List ℕ) → AreOctets xs → AreOctets ys → octet_bits xs ≡ octet_bits ys → xs ≡ ys
same_octets xs ys h k e = sym (packed-octet_bits xs (small_at xs h)) ∙ ap packed e ∙ packed-octet_bits ys (small_at ys k)

-- octets whose first nine bits are all equal are not the shortest encoding of any number
pub not_fewest : (os : List ℕ) → ((i : ℕ) → Fits w8 (get_or os i 0)) → is_padded os ≡ true → AreNotFewest (length os) (octet_bits os)
not_fewest os h p z k b =
    let x : os ≡ complement (length os) z = same_octets os (complement (length os) z) (octets-all os h) (octets-complement (length os) z) b in
    let y : os ≡ signed_octets_of z = x ∙ ap (λ c. complement c z) (sym k) in
    let w : is_padded os ≡ false = ap is_padded y ∙ written-fewest z in
    cc (p, w)

pub bare : (r p : Bool) → r ≡ p → IsTrue (not r) → p ≡ false
bare true p e h = cc h
bare false p e h = sym e

pub leading_padding : (r p : Bool) → r ≡ p → not r ≡ false → p ≡ true
leading_padding true p e h = sym e
leading_padding false p e h = cc h

-- how many octets a number has
pub fewest_count : (os : List ℕ) (n : ℤ) → ((i : ℕ) → Fits w8 (get_or os i 0)) → n ≡ signed_number os → is_padded os ≡ false → 0 < length os → signed_octets n ≡ length os
fewest_count os n h e p l =
    ap signed_octets e ∙ sym (length-complement (signed_octets (signed_number os)) (signed_number os))
    ∙ sym (ap length (written-kept os (octets-all os h) p l))

-- which octets they are
pub fewest_octets : (os : List ℕ) (n : ℤ) → ((i : ℕ) → Fits w8 (get_or os i 0)) → n ≡ signed_number os → os ≡ complement (length os) n
fewest_octets [] n h e = sym (nothing n)
  where
    nothing : (n : ℤ) → complement 0 n ≡ []
    nothing (pos m) = refl
    nothing (negsuc m) = refl
fewest_octets (o ∷ os) n h e = sym (complement-signed o os (octets-all (o ∷ os) h)) ∙ ap (complement (length (o ∷ os))) (sym e)
