use Rattle.std.proofs.Common.{◌≡◌, ◌++◌, drop}
use Rattle.clap.specs.Walk.{texts}
use Rattle.asn1_module_order.proofs.Texts.{bytes_of}
use Rattle.asn1_module_order.proofs.words.strings_of.Given as goal

-- the copies so far, and the texts that are left
abbrev pub invariant-loop-text : goal.invariant-loop-text
invariant-loop-text l = bytes_of l.strings.items ++ drop l.text-index (texts l.texts) ≡ texts l.texts
