use Rattle.std.proofs.Common.{OnOk, subst}
use Rattle.std.specs.Io.KnownBytes.{Appends}
use Rattle.asn1_relay_core.specs.Ends.{BeginsToAppend}
use Rattle.asn1_relay_core.specs.Routing.{arrived}
use Rattle.asn1_relay_command.proofs.Answered.{answer_written}
use Rattle.asn1_relay_command.specs.Runs.{ComesAs, IsSent, StopsRouteAs}
use Rattle.asn1_table_relay.specs.Schemas.{newer_of, older_of}
use Rattle.asn1_module_command.proofs.routing.send_octets.Goals as goal

pub returns : goal.returns
returns g c =
    let old = older_of c.args.versions.now 128 in
    let new = newer_of c.args.versions.now 128 in
    let from = c.args.from in
    let hops = c.args.hops.now in
    let unread = g.R.Read.remaining c.args.input.now in
    let unread' = g.R.Read.remaining c.read_all.new.input in
    let held = g.W.Write.contents c.args.output.now in
    let held' = g.W.Write.contents c.write_all.new.output in
    let message = c.in_ok-message.message.items in
    let octets = c.in_ok-answer.answer.items in
    let arrives : ComesAs old new from hops message (arrived octets) =
    subst (λ m. ComesAs old new from hops m (arrived octets)) c.as_slice.ensures.value c.in_ok-answer.ensures in
    let right : IsSent old new from hops unread unread' octets = record { message = message; read = c.in_ok-message.ensures.ok; arrives = arrives } in
    let ok = subst (λ l. OnOk c.write_all.result (Appends held held' l)) c.as_slice-2.ensures.value c.write_all.ensures.ok in
    let begun = subst (BeginsToAppend held held') c.as_slice-2.ensures.value c.write_all.ensures.begins in
    answer_written (IsSent old new from hops unread unread') (StopsRouteAs old new from hops unread unread' held held') held held' octets
    c.write_all.result right ok c.write_all.ensures.err begun (λ cut. cut)
