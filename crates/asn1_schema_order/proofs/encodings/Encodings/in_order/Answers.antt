use Rattle.std.proofs.Common.{rules, refl, arith}
use Rattle.std.proofs.lemmas.List.Sorted.{answers_always}
use Rattle.asn1_schema_order.specs.declared.encodings.Entry.{Entry}
use Rattle.asn1_schema_order.specs.Entries.{octets_of}
use Rattle.asn1_schema_order.specs.LeadingOctets.{fronted}
use Rattle.asn1_schema_order.proofs.Ascending.{less, ranks, is_ascending_by}
use Rattle.asn1_schema_order.proofs.Leading.{AreOctets}
use Rattle.asn1_schema_order.proofs.Placed.{placed_next, placed_all, fronts_next, HasFront, fronts_agree}
use Rattle.asn1_schema_order.proofs.encodings.Encodings.in_order.Goals as goal

pub loop-index-preserved : goal.loop-index-preserved
loop-index-preserved c =
    let entry : Entry = record { octets = c.get-octets.result; index = c.loop-index.index; front = c.front_of.result } in
    let octets : AreOctets c.get-octets.result.now = search (rules, c.get-octets) in
    record {
      placed =
          placed_next c.args.self.now c.loop-index.all.items c.push.new.self.items c.loop-index.index entry (omega (arith, c.loop-index-test.true, c.len-index-end.ensures))
          c.loop-index.invariant.placed c.get-octets.ensures refl c.in_ok-push.ensures.items;
      fronts = fronts_next c.loop-index.all.items c.push.new.self.items entry c.loop-index.invariant.fronts (c.front_of.ensures, octets) c.in_ok-push.ensures.items;
    }

pub returns : goal.returns
returns c = record {
  all = c.loop-index.all.items;
  placed = placed_all c.args.self.now c.loop-index.all.items c.loop-index.index
      (omega (arith, c.loop-index-test.false, c.loop-index.auto.index-end, c.len-index-end.ensures)) c.loop-index.invariant.placed;
  ascend =
      is_ascending_by HasFront octets_of fronted fronts_agree c.loop-index.all.items c.sort_by.new.self.items c.loop-index.invariant.fronts
      (c.in_ok-sort_by.ensures.sorted (less fronted) (ranks fronted) (answers_always _ _ _ (λ f a r f' k. search rules)))
      (c.in_ok-sort_by.ensures.stable (less fronted) (ranks fronted) (answers_always _ _ _ (λ f a r f' k. search rules)));
}
