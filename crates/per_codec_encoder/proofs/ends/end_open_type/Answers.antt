use Rattle.std.proofs.Common.{◌≡◌, ◌∷◌, true, Some, refl, subst}
use Rattle.per_codec_packing.specs.FieldLists.{plain}
use Rattle.per_codec_packing.specs.Packed.{Packed}
use Rattle.per_codec_encoder.specs.declared.frame.Frame.TheVariants.{OpenType}
use Rattle.per_codec_encoder.proofs.Ending.{does_end_open}
use Rattle.per_codec_rules.specs.Variants.{is_aligned}
use Rattle.per_codec_encoder.proofs.ends.end_open_type.Goals as goal

pub returns : goal.returns
returns c = λ around.
    let outer = c.args.outer in
    let contents = c.into_bits-contents.result in
    does_end_open (is_aligned c.args.variant) (OpenType outer ∷ around) around (OpenType outer) outer c.args.output.now c.replace.new.dest
    c.push_open_type.new.output contents refl refl (subst (λ (q : Packed). q.placed ≡ true → plain q.field_list ≡ Some contents)
    c.replace.ensures.value c.into_bits-contents.ensures.placed) c.replace.ensures.after c.in_ok-push_open_type.ensures
