use Rattle.std.proofs.Common.{◌≡◌, Bool, true, Some, subst, sym}
use Rattle.asn1_schema_laws.specs.Records.{addition_ends}
use Rattle.per_codec_packing.specs.FieldLists.{plain}
use Rattle.per_codec_packing.specs.Packed.{Packed}
use Rattle.per_codec_encoder.specs.declared.frame.Frame.TheVariants.{OpenType}
use Rattle.per_codec_encoder.specs.Holding.{Cannot}
use Rattle.per_codec_encoder.proofs.Added.{does_keep_addition}
use Rattle.per_codec_writing.proofs.HeadingFieldLists.{raised_on}
use Rattle.per_codec_encoder.proofs.Innermost.{around_is}
use Rattle.per_codec_encoder.proofs.additions.end_addition.Goals as goal

pub returns : goal.returns
returns c =
    let f = c.in-Some-OpenType in
    let contents = c.into_bits-contents.result in
    does_keep_addition c.args.frames.now c.close.new.self c.keep_addition.new.self f.field-0 f.outer c.args.output.now c.replace.new.dest contents
    f.ensures.items f.field-0-is c.in_ok-keep_addition.ensures.ok c.replace.ensures.after
    (subst (λ (q : Packed). q.placed ≡ true → plain q.field_list ≡ Some contents) c.replace.ensures.value c.into_bits-contents.ensures.placed)

pub returns-in_err-keep_addition : goal.returns-in_err-keep_addition
returns-in_err-keep_addition c =
    let f = c.in-Some-OpenType in
    let o = c.args.output.now in
    let e = c.in_err-keep_addition.field-0.0 in
    raised_on _ (λ e. (al : Bool) → Cannot al addition_ends c.args.frames.now o e) e c.from_residual.result c.from_residual.ensures.0
    c.from_residual.ensures.1
    (λ al. subst (λ l. Cannot al addition_ends l o e)
    (sym (around_is c.args.frames.now c.close.new.self f.field-0 (OpenType f.outer) f.ensures.items f.field-0-is)) (c.in_err-keep_addition.ensures.only al f.outer o))
