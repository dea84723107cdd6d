use Rattle.std.specs.Prelude.{min}
use Rattle.std.proofs.Common.{◌≡◌, ℕ, List, length, take, ap, sym, ◌∙◌, inl, inr, arith}
use Rattle.std.proofs.lemmas.Bool.{cases_lt}
use Rattle.std.proofs.lemmas.List.{take_all}
use Rattle.oer_codec_reading.proofs.cursor.Cursor.new.Goals as goal

take_at_most : (m n : ℕ) (xs : List ℕ) → m ≡ min (length xs) n → take m xs ≡ take n xs
take_at_most m n xs e = elim (cases_lt n (length xs)) [
  | inl l ↦ let s : m ≡ n = omega arith in ap (λ k. take k xs) s
  | inr g ↦ take_all m xs (omega arith) ∙ sym (take_all n xs g)
]

pub returns : goal.returns
returns c = take_at_most c.min-count.result 1152921504606846975 c.args.input.now c.min-count.ensures
