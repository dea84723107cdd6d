-- Shapes by the ghost data of their components.
use Rattle.std.proofs.Common.{◌≡◌, true, ◌++◌, refl}
use Rattle.asn1_model.specs.Lawful.{are_distinct, are_ascending, tag_same, tag_less}
use Rattle.asn1_schema_laws.specs.Tables.{field_tags}
use Rattle.asn1_schema_laws.specs.Typed.{AreDefaults}
use Rattle.asn1_schema_laws.proofs.Values.{type_sequence, value_sequence}
use Rattle.asn1_schema_types.specs.declared.components.ComponentsOf.{Ghosts}
use Rattle.asn1_schema_laws.specs.Forms.{sequence_form, set_form}
use Rattle.asn1_schema_constructed.specs.Sets.{field_places}
use Rattle.asn1_schema_authored.specs.Shapes.{Shape}
use Rattle.asn1_schema_constructed.proofs.SetValues.{type_set, value_set}

-- SEQUENCE: the ghost data of its components, the facts on their defaults, that no tag occurs twice, and the components
-- of each value of the struct.
abbrev pub sequence_of : {A F : Type 0} (c : Ghosts F) → AreDefaults c.table → are_distinct tag_same (field_tags c.table.root ++ field_tags c.table.additions) ≡ true → (A → F) → Shape A
sequence_of c d e f = record {
  form = sequence_form;
  table = c.table;
  root = λ x. c.root (f x);
  added = λ x. c.added (f x);
  typed = type_sequence c.table refl (c.typed d) e;
  valued = λ x. value_sequence c.table (c.valued d (f x));
}

-- SET: the same, and that the components ascend by their tags.
abbrev pub set_of : {A F : Type 0} (c : Ghosts F) → AreDefaults c.table →
    are_distinct tag_same (field_tags c.table.root ++ field_tags c.table.additions) ≡ true → are_ascending tag_less (field_places c.table.root) ≡ true → (A → F) → Shape A
set_of c d e g f = record {
  form = set_form;
  table = c.table;
  root = λ x. c.root (f x);
  added = λ x. c.added (f x);
  typed = type_set c.table refl (c.typed d) e g;
  valued = λ x. value_set c.table (c.valued d (f x));
}
