-- Tags as tags of the model.
use Rattle.std.specs.Prelude.{ℕ}
use Rattle.asn1_model.specs.Schema.{Tag as ModelTag}
use Rattle.asn1_schema_tags.specs.declared.tags.Class.{Class}
use Rattle.asn1_schema_tags.specs.declared.tags.Class.TheVariants.{Universal, Application, Context, Private}
use Rattle.asn1_schema_tags.specs.declared.tags.Tag.{Tag}

-- The number of a class: 0 for universal, 1 for application, 2 for context-specific and 3 for private (X.680 8.6).
abbrev pub class_number : Class → ℕ
class_number Universal = 0
class_number Application = 1
class_number Context = 2
class_number Private = 3

-- A tag as a tag of the model (X.680 8).
abbrev pub tag_of : Tag → ModelTag
tag_of t = record { class = class_number t.class; number = t.value }
