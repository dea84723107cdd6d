use Rattle.std.proofs.lemmas.Str.{IsUtf8-from_is_utf8, is_utf8-from_IsUtf8}
use Rattle.asn1_laws_numbers.proofs.number_laws.utf8_is_text.Goals as goal

pub returns : goal.returns
returns c os = (IsUtf8-from_is_utf8 os, is_utf8-from_IsUtf8 os)
