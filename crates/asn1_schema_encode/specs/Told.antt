-- What an encoder is given of a CHOICE.
use Rattle.std.specs.Prelude.{Bool, List, map}
use Rattle.asn1_schema_laws.specs.Records.{Record, choice_begins}
use Rattle.asn1_schema_tags.specs.Tags.{tag_of}
use Rattle.asn1_schema_tags.specs.declared.tags.Tag.{Tag}
use Rattle.asn1_schema_tags.specs.declared.chosen.Chosen.{Chosen}

-- The tags of the root alternatives, whether there is an extension marker, the tags of the added alternatives, and the
-- chosen one (X.680 29).
abbrev pub chosen_of : List Tag → Bool → List Tag → Chosen → Record
chosen_of roots extensible additions chosen =
    choice_begins (map tag_of roots) extensible (map tag_of additions) chosen.added chosen.place
