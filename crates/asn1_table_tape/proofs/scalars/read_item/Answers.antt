use Rattle.std.proofs.Common.{sym, rules}
use Rattle.std.proofs.lemmas.Int.{to_z-of_z}
use mir.Syntax.{w64}
use mir.Val.{SFits}
use Rattle.asn1_schema_laws.proofs.Joined.{raised}
use Rattle.asn1_table_tape.proofs.ScalarRecords.{item_told, item_refused}
use Rattle.asn1_table_tape.proofs.scalars.read_item.Goals as goal

pub returns-in_err-item-clause-only : goal.returns-in_err-item-clause-only
returns-in_err-item-clause-only g c = raised _ _ _ c.from_residual.ensures.1 (item_refused c.args.types.now.nodes.items
    (g.D.Decoder.levels c.args.decoder.now) c.args.place c.args.table.now c.items_at-items.ensures c.in_err-item.ensures.only)

pub returns-clause-ok : goal.returns-clause-ok
returns-clause-ok g c =
    let fits : SFits w64 c.in_ok-item.item = search rules in
    rw c.in_ok-keep.ensures.same (item_told c.args.types.now.nodes.items (g.D.Decoder.levels c.args.decoder.now) c.args.place c.args.table.now _ _ _ c.items_at-items.ensures
    (sym (to_z-of_z w64 c.in_ok-item.item fits)) c.in_ok-item.ensures.ok c.in_ok-keep.ensures.kept)
