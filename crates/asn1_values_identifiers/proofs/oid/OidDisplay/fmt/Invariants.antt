use Rattle.std.proofs.Common.{take}
use Rattle.std.specs.List.{flat_map}
use Rattle.std.specs.Fmt.{HasWritten, IsPlainFormatter}
use Rattle.asn1_values_identifiers.specs.Texts.{dotted_arc}
use Rattle.asn1_values_identifiers.proofs.oid.OidDisplay.fmt.Given as goal

abbrev pub invariant-loop-arc : goal.invariant-loop-arc
invariant-loop-arc g l =
    IsPlainFormatter l.initial.f → HasWritten g.W.Write.write_str_gives l.initial.f (flat_map dotted_arc (take l.arc-index l.further)) l.f
