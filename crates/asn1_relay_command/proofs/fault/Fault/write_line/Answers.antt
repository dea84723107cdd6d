use Rattle.std.proofs.Common.{OnOk, ap, ◌∙◌, subst}
use Rattle.std.specs.Io.KnownBytes.{Appends}
use Rattle.asn1_relay_core.specs.Ends.{BeginsToAppend}
use Rattle.asn1_relay_command.specs.Lines.{joined}
use Rattle.asn1_relay_command.proofs.LineLemmas.{line_at_hop, line_at_message, line_without}
use Rattle.asn1_relay_command.proofs.fault.Fault.write_line.Goals as goal

pub returns-in-Some-Message : goal.returns-in-Some-Message
returns-in-Some-Message g c =
    let line = ap joined c.as_slice.ensures ∙ line_at_message c.args.self c.in-Some-Message.number c.format.result.now c.text.result.now
    c.format.ensures.text c.text.ensures c.in-Some-Message.field-0 c.in-Some-Message.field-0-is c.in-Some-Message.ensures in
    record {
      all = subst (λ l. OnOk c.write_parts.result (Appends (g.E.Write.contents c.args.errors.now) (g.E.Write.contents c.write_parts.new.writer) l)) line c.write_parts.ensures.all;
      begins = subst (BeginsToAppend (g.E.Write.contents c.args.errors.now) (g.E.Write.contents c.write_parts.new.writer)) line c.write_parts.ensures.begins;
    }

pub returns-in-Some-Hop : goal.returns-in-Some-Hop
returns-in-Some-Hop g c =
    let line = ap joined c.as_slice-in-Some-Hop.ensures ∙ line_at_hop c.args.self c.in-Some-Hop.number c.format-in-Some-Hop.result.now
    c.text-in-Some-Hop.result.now c.format-in-Some-Hop.ensures.text c.text-in-Some-Hop.ensures c.in-Some-Hop.field-0 c.in-Some-Hop.field-0-is c.in-Some-Hop.ensures in
    record {
      all = subst (λ l. OnOk c.write_parts-in-Some-Hop.result (Appends (g.E.Write.contents c.args.errors.now)
          (g.E.Write.contents c.write_parts-in-Some-Hop.new.writer) l)) line c.write_parts-in-Some-Hop.ensures.all;
      begins = subst (BeginsToAppend (g.E.Write.contents c.args.errors.now) (g.E.Write.contents c.write_parts-in-Some-Hop.new.writer)) line c.write_parts-in-Some-Hop.ensures.begins;
    }

pub returns-in-None : goal.returns-in-None
returns-in-None g c =
    let line = ap joined c.as_slice-in-None.ensures ∙ line_without c.args.self c.text-in-None.result.now c.in-None.ensures c.text-in-None.ensures in
    record {
      all = subst (λ l. OnOk c.write_parts-in-None.result (Appends (g.E.Write.contents c.args.errors.now)
          (g.E.Write.contents c.write_parts-in-None.new.writer) l)) line c.write_parts-in-None.ensures.all;
      begins = subst (BeginsToAppend (g.E.Write.contents c.args.errors.now) (g.E.Write.contents c.write_parts-in-None.new.writer)) line c.write_parts-in-None.ensures.begins;
    }
