-- The components that a table of fields describes.
use Rattle.std.specs.Prelude.{◌≡◌, ℕ, suc, true, false, List, [], ◌∷◌, Option, Some, None}
use Rattle.asn1_model.specs.Schema.{Tag, Presence, required, optional, by_default}
use Rattle.asn1_model.specs.Value.{Value, Parts, fields}
use Rattle.asn1_schema_tags.specs.Trees.{leaves, own_tag}
use Rattle.asn1_schema_constructed.specs.declared.tables.FieldPresence.{FieldPresence}
use Rattle.asn1_schema_constructed.specs.declared.tables.FieldPresence.TheVariants.{Required, Optional, Default}
use Rattle.asn1_schema_constructed.specs.declared.tables.Field.{Field}
use Rattle.asn1_schema_constructed.specs.declared.tables.Fields.{Fields}
use Rattle.asn1_schema_laws.specs.Tables.{Fields as Components, no_field, field, Table}

-- Whether a component is mandatory, OPTIONAL or has a DEFAULT (X.680 25).
abbrev pub presence_of : Presence → FieldPresence
presence_of required = Required
presence_of optional = Optional
presence_of (by_default v) = Default

-- The fields are these components, numbered from the first argument on, in their order, each with its index, its own
-- tag, the tags with which it may begin, and its presence (X.680 25).
abbrev pub AreFieldsFrom : ℕ → List Field → Components → Type 0
AreFieldsFrom i [] no_field = Unit {0}
AreFieldsFrom i (f ∷ fs) (field t o s rest) = (f.index ≡ i) × (f.tag ≡ own_tag f.tag_tree) × (leaves f.tag_tree ≡ t)
    × (f.presence ≡ presence_of o) × AreFieldsFrom (suc i) fs rest
AreFieldsFrom i fs rest = ⊥

-- As `AreFieldsFrom`, for a whole table: indices are counted from 0.
abbrev pub AreFields : List Field → Components → Type 0
AreFields fs cs = AreFieldsFrom 0 fs cs

-- The fields of the additions: none without an extension marker, otherwise those after it (X.680 25).
abbrev pub AreAdditions : Option Fields → Table → Type 0
AreAdditions None t = t.extensible ≡ false
AreAdditions (Some fs) t = (t.extensible ≡ true) × AreFields fs.fields.now t.additions

-- The tag of SEQUENCE (X.680 8.4).
abbrev pub sequence_tags : List Tag
sequence_tags = record { class = 0; number = 16 } ∷ []

-- A value with these components: those of the root, and the additions.
abbrev pub fields_of : {F : Type 0} → (F → Parts) → (F → Parts) → F → Value
fields_of root added form = fields (root form) (added form)
