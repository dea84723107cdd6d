use Rattle.std.proofs.Common.{◌≡◌, length}
use Rattle.asn1_table_types.specs.Forms.{AreForms}
use Rattle.asn1_table_types.proofs.forms.forms_of.Given as goal

-- There is one for each type so far, and it is that type's.
abbrev pub invariant-loop-place : goal.invariant-loop-place
invariant-loop-place l = (length l.forms.items ≡ l.place) × AreForms l.nodes l.forms.items
