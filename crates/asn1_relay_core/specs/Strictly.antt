-- When octets that strict rules read are canonical.
use Rattle.std.specs.Prelude.{◌≡◌, ℕ, IsTrue, List, Some}
use Rattle.std.specs.List.{list_all}
use Rattle.asn1_model.specs.Value.{Value}
use Rattle.asn1_model.specs.Schema.{Schema}
use Rattle.asn1_model.specs.Strings.{is_octet}
use Rattle.asn1_model.specs.Rules.{Rules, uper_strict, aper_strict, coer, canonical}
use Rattle.asn1_laws_across.specs.OwnWidth.{HasOwnWidths}
use Rattle.asn1_schema_decode.specs.Messages.{Tells}

-- If each bitmap of additions in a message has the width of its type, the elements of each SET OF ascend, and the
-- reader uses no other freedom (of strict PER it has no other), the message is the canonical encoding of the value that
-- is read.
abbrev pub IsReadCanonically : Rules → Type 0
IsReadCanonically r =
    (schema : ℕ → Schema) (v : Value) (input rest : List ℕ) (t : Tells r schema v input rest)
    → IsTrue (list_all is_octet t.message.message)
    → HasOwnWidths r (schema 128) t.raw t.message.message t.message.encoding
    → canonical r (schema 128) v ≡ Some t.message.message

abbrev pub StrictIsReadCanonically : Type 0
StrictIsReadCanonically = IsReadCanonically uper_strict × IsReadCanonically aper_strict × IsReadCanonically coer
