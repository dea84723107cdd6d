use Rattle.asn1_schema_tags.specs.Tags.{tag_of}
use Rattle.oer_codec_reading.proofs.ChoiceFronts.{found, found_within, not_found}
use Rattle.oer_codec_reading.proofs.alternatives.find_alternative.Goals as goal

pub returns-clause-some : goal.returns-clause-some
returns-clause-some c = found c.args.tables.now (tag_of c.args.tag) c.alternative.result c.alternative.ensures

pub returns-clause-within : goal.returns-clause-within
returns-clause-within c = found_within c.args.tables.now (tag_of c.args.tag) c.alternative.result c.alternative.ensures

pub returns-clause-none : goal.returns-clause-none
returns-clause-none c = not_found c.args.tables.now (tag_of c.args.tag) c.alternative.result c.alternative.ensures
