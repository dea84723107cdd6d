use Rattle.std.proofs.Common.{◌≡◌, ◌+◌, ◌-◌, ◌/◌, ◌%◌, ◌^◌, ◌++◌, ℕ, Bool, List, take, drop, ap, sym, ◌∙◌, arith, refl}
use Rattle.asn1_model.specs.Numbers.{binary}
use Rattle.asn1_values_bits.proofs.Binary.{length-binary, binary_below, binary_low}
use Rattle.asn1_values_bits.proofs.Putting.{put_on, written_length}
use Rattle.asn1_values_bits.proofs.bit_buffer.BitBuffer.put_bits.Goals as goal

pub returns-then-width-le64 : goal.returns-then-width-le64
returns-then-width-le64 c =
    let old : List Bool = c.args.self.now in
    let at : ℕ = c.args.at in
    let w : ℕ = c.args.width in
    let all : 64 - w + w ≡ 64 = omega arith in
    c.put_word.ensures
    ∙ ap (λ k. take at old ++ (k ++ drop (at + w) old)) (ap (λ k. binary w (c.args.value % 2 ^ k)) (sym all) ∙ binary_below w (64 - w) c.args.value)

pub put_word-requires-3-clause-within : goal.put_word-requires-3-clause-within
put_word-requires-3-clause-within c =
    let high : ℕ = c.args.width - 64 in
    omega (
      arith,
      written_length c.args.self.now c.put_word-2.new.self (binary high (c.args.value / 2 ^ 64)) c.args.at high (omega arith)
          (length-binary high (c.args.value / 2 ^ 64)) c.put_word-2.ensures,
    )

pub returns : goal.returns
returns c =
    let old : List Bool = c.args.self.now in
    let mid : List Bool = c.put_word-2.new.self in
    let at : ℕ = c.args.at in
    let w : ℕ = c.args.width in
    let v : ℕ = c.args.value in
    let high : ℕ = w - 64 in
    let low : 64 ≡ w - high = omega arith in
    let end : at + high + 64 ≡ at + w = omega arith in
    let first : mid ≡ take at old ++ (binary high (v / 2 ^ (w - high)) ++ drop (at + high) old) =
    c.put_word-2.ensures ∙ ap (λ k. take at old ++ (binary high (v / 2 ^ k) ++ drop (at + high) old)) low in
    c.put_word-3.ensures
    ∙ ap (λ k. take (at + high) mid ++ (k ++ drop (at + high + 64) mid)) (binary_low 64 v ∙ ap (λ k. binary k v) low)
    ∙ ap (λ k. take (at + high) mid ++ (binary (w - high) v ++ drop k mid)) end
    ∙ put_on old old mid (take at old ++ (binary w v ++ drop (at + w) old)) at high w v (at + w) (omega arith) refl c.requires.within first refl
