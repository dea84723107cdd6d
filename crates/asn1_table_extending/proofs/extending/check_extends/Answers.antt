use Rattle.std.proofs.Common.{◌≡◌, [], ◌∷◌, arith, refl, subst}
use Rattle.asn1_table_extending.proofs.Matched.{all_extend, all_match, listed_more, matched_next}
use Rattle.asn1_table_extending.proofs.Led.{at_index, first_listed, led_first, led_more, refused_passed}
use Rattle.asn1_table_extending.specs.Matching.{PairMatches}
use Rattle.asn1_table_extending.specs.declared.pairs.Pair.{Pair}
use Rattle.asn1_table_extending.proofs.extending.check_extends.Goals as goal

pub loop-next-init : goal.loop-next-init
loop-next-init c =
    let p : Pair = record { older = c.args.old_place; newer = c.args.new_place } in
    let e : c.in-Ok.pairs.items ≡ p ∷ [] = c.in-Ok.ensures.items in
    record {
      first = first_listed c.in-Ok.pairs.items p e;
      led = led_first c.args.older.now.nodes.items c.args.newer.now.nodes.items c.args.old_place c.args.new_place c.in-Ok.pairs.items p e refl refl;
      matched = λ k q l f. absurd (omega (arith, l));
    }

pub loop-next-preserved : goal.loop-next-preserved
loop-next-preserved c =
    let ns = c.args.older.now.nodes.items in
    let ms = c.args.newer.now.nodes.items in
    let ps = c.loop-next.pairs.items in
    let qs = c.check_pair.new.pairs.items in
    let matches = subst (PairMatches ns ms qs) c.index-pair.ensures c.in_ok-check_pair.ensures.matches in
    record {
      first = listed_more ps qs c.args.old_place c.args.new_place c.in_ok-check_pair.ensures.kept c.loop-next.invariant.first;
      led = led_more ns ms c.args.old_place c.args.new_place ps qs (c.index-pair.result.now) c.loop-next.invariant.led
          (at_index ps c.loop-next.next c.index-pair.result.now (omega (arith, c.loop-next-test.true, c.len.ensures)) c.index-pair.ensures) c.in_ok-check_pair.ensures.added;
      matched = matched_next ns ms ps qs c.loop-next.next c.index-pair.result.now c.in_ok-check_pair.ensures.kept (omega (arith, c.loop-next-test.true, c.len.ensures)) c.loop-next.invariant.matched matches;
    }

pub returns-clause-extends : goal.returns-clause-extends
returns-clause-extends c =
    let o = c.args.older.now in
    let w = c.args.newer.now in
    let ps = c.loop-next.pairs.items in
    λ n. all_extend o.nodes.items w.nodes.items o.lawful o.tidy w.lawful w.tidy ps
    (all_match o.nodes.items w.nodes.items ps c.loop-next.next (omega (arith, c.loop-next-test.false, c.len.ensures)) c.loop-next.invariant.matched) n c.args.old_place c.args.new_place c.loop-next.invariant.first

pub returns-in_err-check_pair-clause-refused : goal.returns-in_err-check_pair-clause-refused
returns-in_err-check_pair-clause-refused c =
    let ps = c.loop-next.pairs.items in
    refused_passed c.args.older.now.nodes.items c.args.newer.now.nodes.items c.args.old_place c.args.new_place _ _ _
    (c.loop-next.invariant.led _ _ (at_index ps c.loop-next.next c.index-pair.result.now (omega (arith, c.loop-next-test.true, c.len.ensures)) c.index-pair.ensures))
    c.from_residual.ensures.1 c.in_err-check_pair.ensures.refused
