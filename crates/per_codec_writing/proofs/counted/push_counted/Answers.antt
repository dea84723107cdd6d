use Rattle.per_codec_writing.proofs.HeadingForms.{counted_added}
use Rattle.per_codec_rules.specs.Variants.{is_aligned}
use Rattle.per_codec_writing.proofs.counted.push_counted.Goals as goal

pub returns : goal.returns
returns g c = counted_added (is_aligned c.args.variant) (g.U.Units.forms c.args.units.now) c.count.result c.in_ok-due.due c.args.output.now
    c.push_length_determinant.new.output c.push_due.new.output c.count.ensures c.in_ok-due.ensures.heads c.in_ok-push_due.ensures
