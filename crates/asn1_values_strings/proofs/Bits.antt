-- Octets as bits.
use Rattle.std.proofs.Common.{◌≡◌, ℕ, zero, suc, ◌*◌, ◌%◌, Bool, false, List, [], ◌∷◌, length, replicate, refl, ap, arith, length-append}
use Rattle.std.specs.Prelude.{Result, Ok, Err, IfOk, IfErr, MatchResult}
use Rattle.asn1_model.specs.Numbers.{octet_bits, missing, binary}
use Rattle.asn1_values_bits.specs.Octets.{padded}
use Rattle.asn1_values_alphabets.specs.declared.error.PermittedAlphabetError.{PermittedAlphabetError}
use Rattle.asn1_values_alphabets.specs.declared.error.PermittedAlphabetError.TheVariants.{Other, InvalidData, IndexNotFound, CharacterNotFound, InvalidRestrictedString, Memory}
use Rattle.asn1_values_strings.specs.Pairs.{IsRefusalOfPairs, IsRefusalOfPairBits}

length-octet_bits : (os : List ℕ) → length (octet_bits os) ≡ 8 * length os
length-octet_bits [] = refl
length-octet_bits (o ∷ os) = let r = length-octet_bits os in omega (arith, length-append (binary 8 o) (octet_bits os))

length-replicate-false : (n : ℕ) → length (replicate n false) ≡ n
length-replicate-false zero = refl
length-replicate-false (suc n) = let r = length-replicate-false n in omega arith

length-whole : (bs : List Bool) (os : List ℕ) → octet_bits os ≡ padded bs → length bs % 16 ≡ 0 → 8 * length os ≡ length bs
length-whole bs os e h =
    let a = length-octet_bits os in
    let b = ap length e in
    let c = length-append bs (replicate (missing (length bs)) false) in
    let d = length-replicate-false (missing (length bs)) in
    omega arith

of_error : (bs : List Bool) (os : List ℕ) (e : PermittedAlphabetError) → octet_bits os ≡ padded bs → length bs % 16 ≡ 0 → IsRefusalOfPairs os e → IsRefusalOfPairBits bs e
of_error bs os Other p h r = r
of_error bs os InvalidData p h r = let l = length-whole bs os p h in absurd (omega arith)
of_error bs os (IndexNotFound i) p h r = r
of_error bs os (CharacterNotFound i) p h r = r
of_error bs os (InvalidRestrictedString i) p h r = r
of_error bs os (Memory m) p h r = h

-- if bits are whole pairs of octets, an error means that memory ran out
pub pairs_of_bits : {T : Type 0} (r : Result T PermittedAlphabetError) (P : T → Type 0) (bs : List Bool) (os : List ℕ) → octet_bits os ≡ padded bs →
    length bs % 16 ≡ 0 → IfOk r P → IfErr r (IsRefusalOfPairs os) → MatchResult r P (IsRefusalOfPairBits bs)
pairs_of_bits (Ok x) P bs os p h made refused = made
pairs_of_bits (Err e) P bs os p h made refused = of_error bs os e p h refused
