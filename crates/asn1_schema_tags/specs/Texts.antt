-- How tags are printed, in the notation of X.680 31.2.
use Rattle.std.specs.Prelude.{ℕ, List, ◌++◌, codes}
use Rattle.std.specs.Fmt.{decimal}
use Rattle.asn1_schema_tags.specs.declared.tags.Class.{Class}
use Rattle.asn1_schema_tags.specs.declared.tags.Class.TheVariants.{Universal, Application, Context, Private}
use Rattle.asn1_schema_tags.specs.declared.tags.Tag.{Tag}

-- The word of a class.
abbrev pub class_text : Class → List ℕ
class_text Universal = codes "UNIVERSAL"
class_text Application = codes "APPLICATION"
class_text Context = codes "CONTEXT"
class_text Private = codes "PRIVATE"

-- A class and a number in brackets; a context-specific tag shows only its number.
abbrev pub bracketed : Class → ℕ → List ℕ
bracketed Context n = codes "[" ++ decimal n ++ codes "]"
bracketed Universal n = codes "[" ++ class_text Universal ++ codes " " ++ decimal n ++ codes "]"
bracketed Application n = codes "[" ++ class_text Application ++ codes " " ++ decimal n ++ codes "]"
bracketed Private n = codes "[" ++ class_text Private ++ codes " " ++ decimal n ++ codes "]"

-- A tag.
abbrev pub tag_text : Tag → List ℕ
tag_text t = bracketed t.class t.value
