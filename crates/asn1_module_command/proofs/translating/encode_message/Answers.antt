use Rattle.std.proofs.Common.{subst}
use Rattle.std.specs.Io.KnownBytes.{Appends}
use Rattle.asn1_module_command.proofs.translating.encode_message.Goals as goal

pub returns : goal.returns
returns g c =
    let held = g.W.Write.contents c.args.output.now in
    let held' = g.W.Write.contents c.write_all.new.output in
    record {
      octets = c.in_ok-octets.octets.items;
      right = c.in_ok-octets.ensures;
      wrote = subst (λ l. Appends held held' l) c.as_slice-2.ensures.value c.in_ok-write_all.ensures.ok;
    }
