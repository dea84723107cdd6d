use Rattle.std.proofs.Common.{◌≡◌, true, take}
use Rattle.std.specs.List.{list_all}
use Rattle.asn1_notation_tokens.specs.Lexical.{is_name_octet}
use Rattle.asn1_notation_tokens.proofs.names.name_length.Given as goal

abbrev pub invariant-loop-index : goal.invariant-loop-index
invariant-loop-index l = list_all is_name_octet (take l.index l.rest) ≡ true
