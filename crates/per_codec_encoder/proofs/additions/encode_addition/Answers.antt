use Rattle.std.proofs.Common.{Bool, refl}
use Rattle.asn1_schema_laws.specs.Records.{addition}
use Rattle.per_codec_encoder.specs.Holding.{Cannot}
use Rattle.per_codec_encoder.proofs.Added.{does_no_addition, does_addition}
use Rattle.per_codec_writing.proofs.HeadingFieldLists.{raised_on}
use Rattle.per_codec_encoder.proofs.additions.encode_addition.Goals as goal

pub returns-in_err-next_addition : goal.returns-in_err-next_addition
returns-in_err-next_addition c = raised_on _ (λ e. (al : Bool) → Cannot al (addition c.args.present) c.args.frames.now c.args.output.now e) _ _
    c.from_residual.ensures.0 c.from_residual.ensures.1 (λ al. c.in_err-next_addition.ensures.only al c.args.output.now)

pub returns-in_ok-open_type : goal.returns-in_ok-open_type
returns-in_ok-open_type c = does_addition c.args.present c.args.frames.now c.next_addition.new.self c.open_type.new.self c.args.output.now
    c.args.output.now c.open_type.new.output c.if-present.true c.in_ok-next_addition.ensures.ok refl c.in_ok-open_type.ensures.bits c.in_ok-open_type.ensures.items

pub returns-else-present : goal.returns-else-present
returns-else-present c = does_no_addition c.args.present c.args.frames.now c.next_addition.new.self c.args.output.now c.if-present.false c.in_ok-next_addition.ensures.ok
