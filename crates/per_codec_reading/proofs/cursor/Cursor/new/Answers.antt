use Rattle.std.specs.Prelude.{min}
use Rattle.std.proofs.Common.{◌≡◌, ℕ, List, length, take, ap, sym, ◌∙◌, inl, inr, arith}
use Rattle.std.proofs.lemmas.Bool.{cases_lt}
use Rattle.std.proofs.lemmas.List.{take_all}
use Rattle.asn1_model.specs.Numbers.{octet_bits}
use Rattle.per_codec_reading.proofs.cursor.Cursor.new.Goals as goal

take_at_most : (m n : ℕ) (xs : List ℕ) → m ≡ min (length xs) n → take m xs ≡ take n xs
take_at_most m n xs e = elim (cases_lt n (length xs)) [
  | inl l ↦ let s : m ≡ n = omega arith in ap (λ k. take k xs) s
  | inr g ↦ take_all m xs (omega arith) ∙ sym (take_all n xs g)
]

pub returns : goal.returns
returns c = c.from_bits.ensures ∙ ap (λ bits. (0, bits)) (c.from_slice.ensures.bits ∙ ap octet_bits (take_at_most c.min-count.result 1152921504606846975 c.args.input.now c.min-count.ensures))
