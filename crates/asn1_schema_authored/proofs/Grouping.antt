-- Extension addition groups by the shapes of their components.
use Rattle.std.proofs.Common.{◌≡◌, ℕ, true, subst}
use Rattle.asn1_model.specs.Lawful.{is_lawful}
use Rattle.asn1_model.specs.Tidy.{is_tidy}
use Rattle.asn1_model.specs.Value.{Parts, end, fields}
use Rattle.asn1_schema_laws.specs.Additions.{IsGroup}
use Rattle.asn1_schema_laws.specs.Tables.{Table, IsType, IsValue, sequence_type}
use Rattle.asn1_schema_laws.specs.Forms.{Form, sequence_form, constructed_type}
use Rattle.asn1_schema_authored.specs.Shapes.{Shape, form_tags}
use Rattle.asn1_schema_authored.specs.Groups.{GroupShape}

pub as_type : (k : Form) (t : Table) → k ≡ sequence_form → IsType (form_tags k) (constructed_type k t) → IsType (form_tags sequence_form) (sequence_type t)
as_type k t e h = subst (λ (j : Form). IsType (form_tags j) (constructed_type j t)) e h

pub as_value : (k : Form) (t : Table) {ps : Parts} (qs : Parts) → k ≡ sequence_form → qs ≡ end → IsValue (constructed_type k t) (fields ps qs) → IsValue (sequence_type t) (fields ps end)
as_value k t {ps} qs e f h = subst (λ (rs : Parts). IsValue (sequence_type t) (fields ps rs)) f (subst (λ (j : Form). IsValue (constructed_type j t) (fields ps qs)) e h)

-- The group of a SEQUENCE without an extension marker and with at least one component.
abbrev pub group_of : {A : Type 0} (s : Shape A) → s.form ≡ sequence_form → IsGroup s.table → ((x : A) → s.added x ≡ end) → GroupShape A
group_of s e p n = record {
  shape = s;
  plain = p;
  lawful = (as_type s.form s.table e s.typed).lawful;
  tidy = (as_type s.form s.table e s.typed).tidy;
  each = λ x. as_value s.form s.table (s.added x) e (n x) (s.valued x);
  no_others = n;
}
