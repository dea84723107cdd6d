use Rattle.std.proofs.Common.{◌≡◌, true, ap, sym, ◌∙◌, subst}
use Rattle.std.specs.List.{All}
use Rattle.std.proofs.lemmas.List.Sorted.{IsPermutation-refl}
use Rattle.per_codec_alphabets.proofs.Listed.{same_in_order}
use Rattle.per_codec_alphabets.specs.Codes.{runs_of}
use Rattle.per_codec_alphabets.specs.Listed.{begin_from, HasSome}
use Rattle.per_codec_alphabets.proofs.few.FewRuns.in_order.Goals as goal

pub returns-then-are_apart : goal.returns-then-are_apart
returns-then-are_apart c =
    let apart : begin_from 0 (runs_of c.args.self) ≡ true = ap (λ l. begin_from 0 (runs_of l)) (sym c.as_slice.ensures.runs) ∙ sym c.are_apart.ensures ∙ c.if-are_apart.true in
    same_in_order c.args.self c.args.self (IsPermutation-refl c.args.self) (subst (All HasSome) c.as_slice.ensures.runs c.as_slice.ensures.some) apart

pub returns-then-are_apart-2 : goal.returns-then-are_apart-2
returns-then-are_apart-2 c =
    let ordered = c.sorted-ordered.result in
    let apart : begin_from 0 (runs_of ordered) ≡ true = ap (λ l. begin_from 0 (runs_of l)) (sym c.as_slice-2.ensures.runs) ∙ sym c.are_apart-2.ensures ∙ c.if-are_apart-2.true in
    same_in_order c.args.self ordered c.sorted-ordered.ensures (subst (All HasSome) c.as_slice-2.ensures.runs c.as_slice-2.ensures.some) apart
