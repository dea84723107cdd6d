-- Components of a Rust value as parts.
use Rattle.std.specs.Prelude.{ℕ, Bool, true, false, cond, ◌||◌, List, [], ◌∷◌, Option, Some, None}
use Rattle.asn1_model.specs.Value.{Value, Values, no_more, member, Parts}
use Rattle.asn1_model.specs.Schema.{Presence, Schema}
use Rattle.asn1_model.specs.Normal.{normal, is_at_default, is_group_left_out}
use Rattle.asn1_schema_laws.specs.Records.{Record}
use Rattle.asn1_schema_laws.specs.Presents.{Part, left_out, there, root_records, behind_root, added_records}
use Rattle.asn1_schema_laws.specs.Presents.{PartsFit}
use Rattle.asn1_schema_laws.specs.Tables.{Table, components_at}

-- An optional component.
abbrev pub part_of : {A : Type 0} → (A → Value) → Option A → Part
part_of f None = left_out
part_of f (Some x) = there (f x)

-- A component with a default: absent if it is equal to the default (true).
abbrev pub part_unless : Bool → Value → Part
part_unless true v = left_out
part_unless false v = there v

-- A list as elements.
abbrev pub values_of : {A : Type 0} → (A → Value) → List A → Values
values_of f [] = no_more
values_of f (x ∷ xs) = member (f x) (values_of f xs)

-- A component in normal form.
abbrev pub normal_part : Presence → Schema → Part → Part
normal_part o s left_out = left_out
normal_part o s (there v) = cond (is_at_default o s v || is_group_left_out s v) left_out (there (normal s v))

-- The records of the rest of a SEQUENCE: root components, and what follows them.
abbrev pub tail_records : ℕ → Table → Parts → Parts → List Record
tail_records n t ps qs = root_records (components_at n t.root) ps
    (behind_root t.extensible (components_at n t.additions) (added_records (components_at n t.additions) qs))

-- The parts are of these components.
abbrev pub TailFits : ℕ → Table → Parts → Parts → Type 0
TailFits n t ps qs = PartsFit (components_at n t.root) ps × PartsFit (components_at n t.additions) qs
