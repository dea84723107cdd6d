-- Prefixes of bits in octets: preambles and bit strings.
use Rattle.std.proofs.Common.{◌≡◌, ℕ, ◌+◌, ◌*◌, ◌/◌, ◌==◌, Bool, false, List, ◌++◌, length, replicate, ap, sym, ◌∙◌, length-append, arith}
use Rattle.std.proofs.lemmas.List.{length-replicate}
use Rattle.std.proofs.lemmas.Bool.{eqb-true}
use Rattle.asn1_model.specs.Numbers.{missing}
use Rattle.asn1_model.specs.Form.{exactly}
use Rattle.asn1_model.specs.Rules.{octet_bits}
use Rattle.asn1_model.specs.Oer
use Rattle.asn1_laws_values.proofs.Octets.{packed_back}
use Rattle.asn1_laws_fronts.proofs.Fronts.{fronts_equal, agree_exactly, agree_map, agree_both, agree_varied, agree_if, agree_first, agree_nothing}
use Rattle.asn1_laws_fronts.proofs.OerNumbers.{OctetsAlike, length_alike}
use Rattle.asn1_laws_fronts.proofs.Complete.{bits_length}

-- bits, followed by unused ones
length_with_unused : (n m : ℕ) → m ≡ missing n → n + m ≡ 8 * ((n + 7) / 8)
length_with_unused n m e = omega arith

packed_length : (k : ℕ) (w : List Bool) → length w ≡ 8 * k → length (Oer.packed w) ≡ k
packed_length k w h =
    let a : length (octet_bits (Oer.packed w)) ≡ length w = ap length (packed_back k w h) in
    let b = bits_length (Oer.packed w) in
    omega arith

packed_equal : (k : ℕ) (v w : List Bool) → length v ≡ 8 * k → length w ≡ 8 * k → Oer.packed v ≡ Oer.packed w → v ≡ w
packed_equal k v w h i e = sym (packed_back k v h) ∙ ap octet_bits e ∙ packed_back k w i

module _ (free : Oer.Freedom → Bool) where
  packed_alike : (bs cs unused more : List Bool) → length bs ≡ length cs → length unused ≡ missing (length bs) → length more
      ≡ missing (length cs) → OctetsAlike free (exactly (Oer.packed (bs ++ unused))) (exactly (Oer.packed (cs ++ more))) (bs ≡ cs)
  packed_alike bs cs unused more h i j =
      let k = (length bs + 7) / 8 in
      let e : length (bs ++ unused) ≡ 8 * k = length-append bs unused ∙ length_with_unused (length bs) (length unused) i in
      let f : length (cs ++ more) ≡ 8 * k = length-append cs more ∙ length_with_unused (length cs) (length more) j ∙ ap (λ n. 8 * ((n + 7) / 8)) (sym h) in
      agree_map free (λ q. fronts_equal bs cs unused more h (packed_equal k (bs ++ unused) (cs ++ more) e f q))
      (agree_exactly free _ _ (packed_length k (bs ++ unused) e ∙ sym (packed_length k (cs ++ more) f)))

  pub preamble_alike : (ms ns : List Bool) → length ms ≡ length ns → OctetsAlike free (Oer.preamble ms) (Oer.preamble ns) (ms ≡ ns)
  preamble_alike ms ns h = packed_alike ms ns (replicate (missing (length ms)) false) (replicate (missing (length ns)) false) h (length-replicate _ _) (length-replicate _ _)

  pub bits_alike : (bs cs : List Bool) → length bs ≡ length cs → OctetsAlike free (Oer.bits_form bs) (Oer.bits_form cs) (bs ≡ cs)
  unfolding Oer.bits_form
  bits_alike bs cs h = agree_varied free (λ unused more. agree_if free (length unused == missing (length bs))
      (length more == missing (length cs)) _ _ (λ i j. packed_alike bs cs unused more h (eqb-true _ _ i) (eqb-true _ _ j)))

  pub counted_bits_alike : (bs cs : List Bool) → OctetsAlike free (Oer.counted_bits bs) (Oer.counted_bits cs) (bs ≡ cs)
  unfolding Oer.counted_bits
  counted_bits_alike bs cs = agree_map free (λ q. q.1.1)
      (agree_both free (length_alike free ((length bs + 7) / 8 + 1) ((length cs + 7) / 8 + 1))
      (λ e. agree_both free (agree_first free (λ u. agree_map free (λ t. u) (agree_nothing free))) (λ f. bits_alike bs cs (same_length (length bs) (length cs) e f))))
    where
      same_length : (n m : ℕ) → (n + 7) / 8 + 1 ≡ (m + 7) / 8 + 1 → missing n ≡ missing m → n ≡ m
      same_length n m e f = omega arith
