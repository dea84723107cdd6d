-- Codes in a number, and those after them.
use Rattle.std.proofs.Common.{◌≡◌, ℕ, suc, ◌+◌, ◌-◌, ◌*◌, ◌^◌, ◌<◌, ◌≤◌, Bool, List, ◌++◌, take, drop, ap, subst, sym, ◌∙◌, append_assoc, arith}
use Rattle.std.proofs.lemmas.List.{take-append-drop}
use Rattle.std.proofs.Math.Nat.{mul-le-mul_left}
use Rattle.std.proofs.Math.Pow.{pow_mono}
use Rattle.std.proofs.Math.Seq.{take-append_seam, drop-append_seam}
use Rattle.asn1_model.specs.Numbers.{binary}
use Rattle.asn1_laws_fronts.proofs.PerNumbers.{length-binary}

-- at most eight codes of eight bits are a number of 64 bits
pub few_bits : (d w n : ℕ) → d ≤ 8 → w ≤ 8 → n < 2 ^ (d * w) → n < 2 ^ 64
few_bits d w n h k l =
    let m : d * w ≤ d * 8 = mul-le-mul_left d k in
    let p : 2 ^ (d * w) ≤ 2 ^ 64 = pow_mono {i = d * w} {j = 64} (omega (arith, m, h)) in
    omega (arith, l, p)

-- a number of the first codes, if none was left in the previous one
pub refilled : (w d c n m : ℕ) (rest behind : List Bool) → c ≡ d * w → binary c n ≡ take c rest → behind ≡ drop c rest → binary (d * w) n ++ behind ≡ binary (0 * w) m ++ rest
refilled w d c n m rest behind e digits b =
    ap (λ k. binary k n ++ behind) (sym e) ∙ ap (λ l. l ++ behind) digits ∙ ap (λ l. take c rest ++ l) b ∙ take-append-drop c rest ∙ ap (λ k. binary k m ++ rest) (none w)
  where
    none : (w : ℕ) → 0 ≡ 0 * w
    none w = omega arith

module _ (w d n code : ℕ) (rest : List Bool) (some : 0 < d) (e : binary w code ++ binary ((d - 1) * w) n ≡ binary (w + (d - 1) * w) n) where
  parts : binary (d * w) n ++ rest ≡ binary w code ++ (binary ((d - 1) * w) n ++ rest)
  parts =
      let s : d ≡ suc (d - 1) = omega arith in
      ap (λ k. binary (k * w) n ++ rest) s ∙ ap (λ k. binary k n ++ rest) (more (d - 1) w) ∙ ap (λ l. l ++ rest) (sym e) ∙ append_assoc (binary w code) (binary ((d - 1) * w) n) rest
    where
      more : (m w : ℕ) → suc m * w ≡ w + m * w
      more m w = omega arith

  pub code_digits : binary w code ≡ take w (binary (d * w) n ++ rest)
  code_digits = sym (ap (take w) parts ∙ subst (λ k. take k (binary w code ++ (binary ((d - 1) * w) n ++ rest)) ≡ binary w code)
      (length-binary w code) (take-append_seam (binary w code) (binary ((d - 1) * w) n ++ rest)))

  pub codes_behind : binary ((d - 1) * w) n ++ rest ≡ drop w (binary (d * w) n ++ rest)
  codes_behind = sym (ap (drop w) parts ∙ subst (λ k. drop k (binary w code ++ (binary ((d - 1) * w) n ++ rest)) ≡ binary ((d - 1) * w) n ++ rest)
      (length-binary w code) (drop-append_seam (binary w code) (binary ((d - 1) * w) n ++ rest)))
