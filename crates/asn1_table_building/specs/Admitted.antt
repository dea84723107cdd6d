-- Which records are those of values of a type: they are within the constraints that count in all rules.
use Rattle.std.specs.Prelude.{ℕ, List, Bool, true, false, not, ◌&&◌, ◌||◌, length, is_some}
use Rattle.std.specs.List.{list_all}
use Rattle.asn1_model.specs.Normal.{item_index}
use Rattle.asn1_model.specs.Schema.{Size, StringKind, any_count}
use Rattle.asn1_model.specs.Numbers.{is_within, is_count_within, admits}
use Rattle.asn1_model.specs.Strings.{is_octet, may_hold, is_of_octets, is_identifier}
use Rattle.asn1_schema_laws.specs.Records.{Record, whole, one_of, bits, octets, characters, identifier, list_begins}
use Rattle.asn1_schema_laws.specs.Records.{bag_begins, choice_begins, mismatch}

-- Characters are those of a string of a kind and size (X.680 41 and 51.5). The size of a kind whose characters take one
-- or more octets counts only in some rules.
abbrev pub is_text_of : Size → StringKind → List ℕ → Bool
is_text_of z k cs =
    may_hold k cs && is_count_within any_count (length cs) && (is_of_octets k || admits z any_count (length cs))

-- A record is within the constraints of its type (X.680 19 to 41 and 51). The number of elements of a SEQUENCE OF or
-- SET OF, and the permitted alphabet of a string, count only in some rules.
abbrev pub is_admitted : Record → Bool
is_admitted (whole b h v) = is_within h v && (b.extensible || is_within b.range v)
is_admitted (one_of roots e adds v) = is_some (item_index v roots) || (e && is_some (item_index v adds))
is_admitted (bits z h bs) = admits z h (length bs)
is_admitted (octets z h os) = list_all is_octet os && admits z h (length os)
is_admitted (characters k z a h cs) =
    may_hold k cs && is_count_within h (length cs) && (is_of_octets k || admits z h (length cs))
is_admitted (identifier ns) = is_identifier ns
is_admitted (list_begins z h n) = is_count_within h n
is_admitted (bag_begins z h n) = is_count_within h n
is_admitted (choice_begins roots e adds added i) = not added || e
is_admitted mismatch = false
is_admitted r = true
