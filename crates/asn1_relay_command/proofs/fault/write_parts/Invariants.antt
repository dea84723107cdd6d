use Rattle.std.proofs.Common.{take}
use Rattle.std.specs.Io.KnownBytes.{Appends}
use Rattle.asn1_relay_command.specs.Lines.{joined}
use Rattle.asn1_relay_command.proofs.fault.write_parts.Given as goal

-- what was written is the first texts
abbrev pub invariant-loop-part : goal.invariant-loop-part
invariant-loop-part g l = Appends (g.W.Write.contents l.fn.writer) (g.W.Write.contents l.writer) (joined (take l.part-index l.parts))
