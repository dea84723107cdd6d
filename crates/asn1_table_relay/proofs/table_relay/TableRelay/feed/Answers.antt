use Rattle.std.proofs.Common.{IfErr, OnOk, subst}
use Rattle.asn1_relay_core.specs.Relaying.{IsFed, FaultOf}
use Rattle.asn1_table_nodes.specs.Meaning.{type_at}
use Rattle.asn1_table_relay.specs.Streams.{TableRelaying}
use Rattle.asn1_table_relay.proofs.table_relay.TableRelay.feed.Goals as goal

pub returns-clause-ok : goal.returns-clause-ok
returns-clause-ok c =
    let new = c.feed.new in
    subst (λ (r : TableRelaying). OnOk c.feed.result (IsFed (type_at r.nodes 128 r.place) r.relaying new.self.relaying c.args.piece.now c.args.out.now.items new.out.items))
    c.self.view_is c.feed.ensures.ok

pub returns-clause-only : goal.returns-clause-only
returns-clause-only c =
    let new = c.feed.new in
    subst (λ (r : TableRelaying). IfErr c.feed.result (FaultOf (type_at r.nodes 128 r.place) r.relaying new.self.relaying c.args.piece.now c.args.out.now.items new.out.items))
    c.self.view_is c.feed.ensures.only
