use Rattle.std.proofs.Common.{OnOk, subst}
use Rattle.std.specs.Io.KnownBytes.{Appends}
use Rattle.asn1_relay_core.specs.Recoding.{answered}
use Rattle.asn1_relay_core.specs.Ends.{BeginsToAppend}
use Rattle.asn1_relay_command.specs.Runs.{Becomes, IsAnswered, IsTranslated, StopsOnceBy}
use Rattle.asn1_relay_command.specs.Kinds.{schema_named}
use Rattle.asn1_relay_command.proofs.Answered.{answer_written}
use Rattle.asn1_relay_command.proofs.program.once.Goals as goal

pub returns : goal.returns
returns g c =
    let unread = g.R.Read.remaining c.args.input.now in
    let unread' = g.R.Read.remaining c.read_all.new.input in
    let held = g.W.Write.contents c.args.output.now in
    let held' = g.W.Write.contents c.write_all.new.output in
    let message = c.in_ok-message.message.items in
    let octets = c.in_ok-answer.answer.items in
    let answers : Becomes c.args.translation message (answered octets) = subst (λ m. Becomes c.args.translation m (answered octets)) c.as_slice.ensures.value c.in_ok-answer.ensures in
    let t = c.args.translation in
    let right : IsAnswered (schema_named t.kind) t.from t.to unread unread' (answered octets) = record { message = message; read = c.in_ok-message.ensures.ok; answers = answers } in
    let ok = subst (λ l. OnOk c.write_all.result (Appends held held' l)) c.as_slice-2.ensures.value c.write_all.ensures.ok in
    let begun = subst (BeginsToAppend held held') c.as_slice-2.ensures.value c.write_all.ensures.begins in
    answer_written (IsTranslated (schema_named t.kind) t.from t.to unread unread') (StopsOnceBy c.args.translation unread unread' held held') held held' octets
    c.write_all.result right ok c.write_all.ensures.err begun (λ cut. cut)
