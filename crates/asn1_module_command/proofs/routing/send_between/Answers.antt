use Rattle.std.proofs.Common.{subst}
use Rattle.asn1_relay_command.specs.Runs.{DoesRouteAs, StopsRouteAs}
use Rattle.asn1_table_relay.specs.Schemas.{newer_of, older_of}
use Rattle.asn1_module_command.proofs.Digits.{sent_in_digits, sent_in_octets, stopped_in_octets}
use Rattle.asn1_module_command.proofs.routing.send_between.Goals as goal

pub returns-then-route : goal.returns-then-route
returns-then-route g c =
    sent_in_digits c.args.route.now _ _ _ (g.R.Read.remaining c.args.input.now) (g.R.Read.remaining c.send_digits.new.input) (g.W.Write.contents c.args.output.now)
    (g.W.Write.contents c.send_digits.new.output) (c.requires.newer 128) c.if-route.true c.as_slice-hops.ensures.value c.send_digits.result c.send_digits.ensures

pub returns-in-Ok : goal.returns-in-Ok
returns-in-Ok g c = record {
  newer = c.requires.newer 128;
  done = sent_in_octets c.args.route.now.is_hexadecimal _ _ c.args.route.now.from _ (g.R.Read.remaining c.args.input.now) (g.R.Read.remaining c.send_octets.new.input)
      (g.W.Write.contents c.args.output.now) (g.W.Write.contents c.send_octets.new.output) c.if-route.false
      (subst (λ hops. DoesRouteAs (older_of c.args.versions.now 128) (newer_of c.args.versions.now 128) c.args.route.now.from hops
      (g.R.Read.remaining c.args.input.now) (g.R.Read.remaining c.send_octets.new.input) (g.W.Write.contents c.args.output.now) (g.W.Write.contents c.send_octets.new.output))
      c.as_slice-hops.ensures.value c.in-Ok.ensures);
}

pub returns-in-Err : goal.returns-in-Err
returns-in-Err g c = record {
  newer = c.requires.newer 128;
  stops = stopped_in_octets c.args.route.now.is_hexadecimal _ _ c.args.route.now.from _ (g.R.Read.remaining c.args.input.now) (g.R.Read.remaining c.send_octets.new.input)
      (g.W.Write.contents c.args.output.now) (g.W.Write.contents c.send_octets.new.output) c.in-Err.fault c.if-route.false
      (subst (λ hops. StopsRouteAs (older_of c.args.versions.now 128) (newer_of c.args.versions.now 128) c.args.route.now.from hops
      (g.R.Read.remaining c.args.input.now) (g.R.Read.remaining c.send_octets.new.input) (g.W.Write.contents c.args.output.now) (g.W.Write.contents c.send_octets.new.output)
      c.in-Err.fault) c.as_slice-hops.ensures.value c.in-Err.ensures);
}
