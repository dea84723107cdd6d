use Rattle.std.proofs.Common.{reverse}
use Rattle.asn1_schema_laws.specs.Records.{further}
use Rattle.per_codec_encoder.proofs.Innermost.{innermost_is, done_within}
use Rattle.per_codec_encoder.proofs.sequences.next_member.Goals as goal
use Rattle.per_codec_rules.specs.Variants.{is_aligned}

pub returns : goal.returns
returns c =
    let i = c.others.inside in
    let a = innermost_is _ i.outer.items i.innermost c.in-Some.innermost c.others.view_is c.in-Some.is in
    let n = c.next_of_frame in
    let f = c.in-Some.innermost in
    done_within (is_aligned c.args.variant) (further c.args.more) (reverse i.outer.items) f n.new.innermost c.args.output.now n.new.output n.result c.args.others.now a n.ensures
