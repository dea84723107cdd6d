use Rattle.std.specs.Io.KnownBytes.{Consumes}
use Rattle.asn1_relay_command.proofs.messages.read_all.Given as goal

-- what was read is what was kept
abbrev pub invariant-loop : goal.invariant-loop
invariant-loop g l = Consumes (g.R.Read.remaining l.fn.input) (g.R.Read.remaining l.input) l.octets.items
