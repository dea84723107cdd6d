use Rattle.std.proofs.Common.{◌∙◌, refl, sym}
use Rattle.asn1_schema.proofs.Author.{leaves_leaf, leaves_choice, own_tag_choice, own_tag_leaf}
use Rattle.asn1_schema.proofs.Author.{two_leaves}
use Rattle.asn1_schema_example.proofs.gauge.GaugeConstructed.fields.Goals as goal

-- The tag tree of the choice has the tags of its alternatives.
pub returns : goal.returns
returns c = rw c.from_static.ensures (refl, sym (own_tag_leaf _), leaves_leaf _, refl, (refl, sym (own_tag_choice _), leaves_choice _ ∙ two_leaves _ _, refl, tt))
