use Rattle.std.specs.Io.KnownBytes.{Keeps}
use Rattle.asn1_relay_core.proofs.standard.read_some.Given as goal

-- nothing was read
abbrev pub invariant-loop : goal.invariant-loop
invariant-loop g l = Keeps (g.R.Read.remaining l.fn.reader) (g.R.Read.remaining l.reader)
