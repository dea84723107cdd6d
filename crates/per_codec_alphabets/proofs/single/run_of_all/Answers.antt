use Rattle.std.proofs.Common.{◌≡◌, ◌+◌, ℕ, List, ◌++◌, ◌∷◌, [], suc, get_or, ap, sym, ◌∙◌, arith}
use Rattle.std.specs.List.{range_with_len}
use Rattle.std.proofs.lemmas.List.{take_more}
use Rattle.per_codec_alphabets.proofs.Listed.{counted_end}
use Rattle.per_codec_alphabets.proofs.OneRun.{each_more}
use Rattle.per_codec_alphabets.proofs.single.run_of_all.Goals as goal

pub loop-place-preserved : goal.loop-place-preserved
loop-place-preserved c =
    let i : ℕ = c.loop-place.place in
    let cs : List ℕ = c.args.characters.now in
    let a : ℕ = get_or cs 0 0 in
    let here : get_or cs i 0 ≡ a + i = omega (arith, c.if-from-place.false, c.from.ensures, c.from-in-loop-place.ensures) in
    let one : i + 1 ≡ suc i = omega arith in
    record {
      all = take_more cs i 0 c.loop-place-test.true ∙ ap (λ l. l ++ get_or cs i 0 ∷ []) c.loop-place.invariant.all ∙
          ap (λ d. range_with_len a i ++ d ∷ []) here ∙ sym (counted_end a i) ∙ ap (range_with_len a) (sym one);
      each = each_more cs a i c.loop-place.invariant.each here;
    }
