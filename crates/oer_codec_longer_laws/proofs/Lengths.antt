-- How many octets a length determinant counts.
use Rattle.std.proofs.Common.{◌≡◌, ℕ, ◌+◌, Bool, List, [], ◌++◌, length, ap, length-append, arith}
use Rattle.asn1_model.specs.Form.{exactly, both, Reads}
use Rattle.asn1_model.specs.Strings.{is_octet}
use Rattle.std.specs.List.{list_all}
use Rattle.asn1_model.specs.Oer
use Rattle.asn1_laws_fronts.proofs.OerNumbers.{length_alike}
use Rattle.oer_codec_laws.specs.Takes.{Front}
use Rattle.oer_codec_laws.proofs.Next.{same_fronts}
use Rattle.oer_codec_laws.proofs.Fronts.{if_out, split}
use Rattle.oer_codec_laws.proofs.Anywhere.{moves_exactly}
use Rattle.oer_codec_longer_laws.specs.Laws.{LengthsAreLacking}
use Rattle.oer_codec_longer_laws.proofs.Behind.{front_more}

module _ (free : Oer.Freedom → Bool) where
  -- a prefix has as many octets as its form
  long : (ts os rest : List ℕ) → Front free (exactly ts) os rest → length ts + length rest ≡ length os
  unfolding Reads
  long ts os rest f =
      let t : length ts ≡ length f.text = ap (λ (l : List ℕ). length l) f.has_form in
      let m : length (f.text ++ rest) ≡ length f.text + length rest = length-append f.text rest in
      let n : length (f.text ++ rest) ≡ length os = ap (λ (l : List ℕ). length l) f.in_front in
      omega arith

  counted_parts : (ts os rest : List ℕ) → Front free (Oer.counted ts) os rest → (mid : List ℕ) × Front free (Oer.length_form (length ts)) os mid × Front free (exactly ts) mid rest
  unfolding Oer.counted
  counted_parts ts os rest f =
      split free (Oer.length_form (length ts)) (exactly ts) (moves_exactly free ts) os rest (if_out free (list_all is_octet ts) (both (Oer.length_form (length ts)) (exactly ts)) os rest f).1

pub lengths : LengthsAreLacking
lengths free n os behind f e ts rest h g =
    let p = counted_parts free ts (os ++ e) rest g in
    let q = same_fronts free (length_alike free n (length ts)) (os ++ e) (behind ++ e) p.0 (front_more free e (Oer.length_form n) [] os behind f) p.1 in
    let l = long free ts p.0 rest p.2 in
    let b : length (behind ++ e) ≡ length behind + length e = length-append behind e in
    let c : length (behind ++ e) ≡ length p.0 = ap (λ (m : List ℕ). length m) q.1 in
    let d : n ≡ length ts = q.0 in
    omega arith
