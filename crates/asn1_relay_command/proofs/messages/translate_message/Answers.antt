use Rattle.std.proofs.Common.{OnOk, subst}
use Rattle.std.specs.Io.KnownBytes.{Appends}
use Rattle.asn1_relay_core.specs.Recoding.{answered}
use Rattle.asn1_relay_core.specs.Ends.{BeginsToAppend}
use Rattle.asn1_relay_command.specs.Runs.{BecomesAs, IsAnswered, IsTranslated, StopsOnceAs}
use Rattle.asn1_relay_command.proofs.Answered.{answer_written}
use Rattle.asn1_relay_command.proofs.messages.translate_message.Goals as goal

pub returns : goal.returns
returns g c =
    let s = g.M.MessageSchema.schema c.args.message_type.now 128 in
    let from = c.args.from in
    let to = c.args.to in
    let unread = g.R.Read.remaining c.args.input.now in
    let unread' = g.R.Read.remaining c.read_all.new.input in
    let held = g.W.Write.contents c.args.output.now in
    let held' = g.W.Write.contents c.write_all.new.output in
    let message = c.in_ok-message.field-0.items in
    let octets = c.in_ok-answer.answer.items in
    let answers : BecomesAs s from to message (answered octets) = subst (λ m. BecomesAs s from to m (answered octets)) c.as_slice.ensures.value c.in_ok-answer.ensures in
    let right : IsAnswered s from to unread unread' (answered octets) = record { message = message; read = c.in_ok-message.ensures.ok; answers = answers } in
    let ok = subst (λ l. OnOk c.write_all.result (Appends held held' l)) c.as_slice-2.ensures.value c.write_all.ensures.ok in
    let begun = subst (BeginsToAppend held held') c.as_slice-2.ensures.value c.write_all.ensures.begins in
    answer_written (IsTranslated s from to unread unread') (StopsOnceAs s from to unread unread' held held') held held' octets
    c.write_all.result right ok c.write_all.ensures.err begun (λ cut. cut)
