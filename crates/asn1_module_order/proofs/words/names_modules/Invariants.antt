use Rattle.std.proofs.Common.{◌≡◌, drop, map}
use Rattle.std.specs.List.{list_any}
use Rattle.asn1_module_order.specs.Orders.{names_file_in}
use Rattle.asn1_module_order.proofs.words.names_modules.Given as goal

-- the words that are left decide
abbrev pub invariant-loop-word : goal.invariant-loop-word
invariant-loop-word g l = list_any names_file_in (map g.S.AsStr.text l.words) ≡ list_any names_file_in (map g.S.AsStr.text (drop l.word-index l.words))
