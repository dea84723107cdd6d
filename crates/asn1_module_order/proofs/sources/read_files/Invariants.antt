use Rattle.std.proofs.Common.{◌≡◌, take}
use Rattle.asn1_module_order.proofs.Files.{lengths, sizes}
use Rattle.asn1_module_order.proofs.sources.read_files.Given as goal

-- the files of the texts so far
abbrev pub invariant-loop-file : goal.invariant-loop-file
invariant-loop-file l = lengths l.files.items ≡ sizes (take l.file l.sources)
