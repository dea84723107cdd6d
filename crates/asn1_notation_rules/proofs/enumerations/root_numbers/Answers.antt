use Rattle.std.proofs.Common.{rules, ◌≡◌, ◌+◌, pos, ◌+ℤ◌, not, [], ◌∷◌, ◌++◌, None, get_or, take, ap, sym, subst, ◌∙◌, FitsSigned, w64}
use Rattle.std.proofs.lemmas.Int.{to_z-of_z}
use Rattle.std.proofs.lemmas.List.{get_or_default}
use Rattle.asn1_notation_rules.specs.Enumerations.{AreNumbered, IsNextFree, IsRootNumber, given_in, start_of}
use Rattle.asn1_notation_rules.proofs.Numbering.{next_none, next_some, numbered_step}
use Rattle.asn1_notation_rules.proofs.enumerations.root_numbers.Goals.{then-is_none, else-is_none}
use Rattle.asn1_notation_rules.proofs.enumerations.root_numbers.Goals as goal

pub loop-index-preserved : goal.loop-index-preserved
loop-index-preserved c =
    let items = c.args.items.now in
    let k = c.loop-index.index in
    let i = get_or items k None in
    let n = c.in-Ok.number in
    let before = c.loop-index.numbers.items in
    let e = get_or_default items k None i c.loop-index-test.true in
    let fits : FitsSigned w64 c.in-Ok.number = search rules in
    let raw = simp to_z-of_z at c.in_ok-push-in-Ok.ensures.items in
    let pushed : c.push.new.self.items ≡ before ++ n ∷ [] = raw in
    let r =
    subst (λ b. IsRootNumber (given_in items) b i n) c.as_slice-in-loop-index.ensures.value
    (subst (λ g. IsRootNumber g c.as_slice-in-loop-index.result.now i n) (c.as_slice.ensures.value ∙ c.in_ok-given.ensures) c.in-Ok.ensures) in
    let next : IsNextFree (given_in items) (before ++ n ∷ []) (start_of c.if-is_none.next) =
    elim c.if-is_none.branch [
      | then-is_none w ↦
          let after = simp to_z-of_z at w.number_after-next.ensures in
          let start : start_of w.number_after-next.result ≡ n +ℤ pos 1 = after in
          rw (w.next-is, start)
          (next_none (given_in items) before i n (start_of c.loop-index.next) (c.is_none.ensures ∙ ap not w.if-is_none.true) r c.loop-index.invariant.free)
      | else-is_none w ↦
          rw w.next-is
          (next_some items k before i n (start_of c.loop-index.next) c.loop-index-test.true e (c.is_none.ensures ∙ ap not w.if-is_none.false) r c.loop-index.invariant.free)
    ] in
    record {
      numbered =
          subst (λ l. AreNumbered (IsRootNumber (given_in items)) [] (take (k + 1) items) l) (sym pushed)
          (numbered_step (IsRootNumber (given_in items)) items k before i n c.loop-index.invariant.numbered c.loop-index-test.true e r);
      free = subst (λ l. IsNextFree (given_in items) l (start_of c.if-is_none.next)) (sym pushed) next;
    }
