use Rattle.std.proofs.Common.{◌≡◌, true, false, refl, sym, ◌∙◌}
use Rattle.per_codec_writing.proofs.OpenTypes.{adds_open_none, adds_open_some}
use Rattle.per_codec_rules.specs.Variants.{is_aligned}
use Rattle.per_codec_writing.proofs.open_type.push_open_type.Goals as goal

pub returns-then-is_empty : goal.returns-then-is_empty
returns-then-is_empty c = adds_open_none (is_aligned c.args.variant) c.args.contents.now _ c.args.output.now c.push_counted_octets.new.output
    (c.is_empty.ensures.0 c.if-is_empty.true) refl c.in_ok-push_counted_octets.ensures

pub returns : goal.returns
returns c = adds_open_some (is_aligned c.args.variant) c.args.contents.now _ c.args.output.now c.push_counted_octets-2.new.output
    (λ e. let t : true ≡ false = sym (c.is_empty.ensures.1 e) ∙ c.if-is_empty.false in cc) c.as_bytes.ensures.octets c.in_ok-push_counted_octets-2.ensures
