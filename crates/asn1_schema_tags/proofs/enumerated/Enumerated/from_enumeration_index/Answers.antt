use Rattle.std.proofs.Common.{◌∙◌}
use Rattle.asn1_schema_tags.proofs.ItemIndexes.{copied_is, in_roots}
use Rattle.asn1_schema_tags.proofs.enumerated.Enumerated.from_enumeration_index.Goals as goal

pub returns : goal.returns
returns g c = in_roots _ _ _ g.Self.Enumerated.extensible _ _ _ c.variants.ensures g.met.Self.Enumerated.distinct (c.copied.ensures ∙ copied_is _ _ _ c.get.ensures.lookup.1 c.get.ensures.lookup.3)
