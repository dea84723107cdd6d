use Rattle.std.proofs.Common.{◌≡◌, ◌≤◌, length, take, []}
use Rattle.std.specs.Io.KnownBytes.{Appends}
use Rattle.asn1_relay_core.proofs.standard.write_octets.Given as goal

-- a prefix of the octets was written; if there are none, this is the first turn
abbrev pub invariant-loop : goal.invariant-loop
invariant-loop g l = record {
  some : l.count ≤ length l.octets;
  first : l.octets ≡ [] → l.counter ≡ 0;
  took : Appends (g.W.Write.contents l.fn.writer) (g.W.Write.contents l.writer) (take l.count l.octets);
}
