use Rattle.std.proofs.Common.{ap, ◌∙◌, arith}
use Rattle.asn1_model.specs.Numbers.{binary}
use Rattle.per_codec_packing.specs.FieldLists.{as_field_list}
use Rattle.per_codec_writing.specs.Writing.{plus}
use Rattle.per_codec_writing.proofs.ConstrainedFieldLists.{adds_octet, adds_two_octets}
use Rattle.per_codec_writing.proofs.constrained.push_octets.Goals as goal
use Rattle.per_codec_writing.proofs.constrained.push_octets.Goals.{then-span-eq255, else-span-eq255}

pub returns : goal.returns
returns c =
    let old = c.args.output.now in
    let mid = c.push_padding.new.self in
    let d = c.args.value in
    elim c.if-span-eq255.branch [
      | then-span-eq255 w ↦ adds_octet c.args.span d old mid c.push_bits.new.self c.requires.within w.if-span-eq255.true
          c.in_ok-push_padding.ensures.ok (c.in_ok-push_bits.ensures.ok ∙ ap (λ n. plus mid (as_field_list (binary n d))) w.width-is)
      | else-span-eq255 w ↦ adds_two_octets c.args.span d old mid c.push_bits.new.self c.requires.within
          (omega (arith, c.requires.large, w.if-span-eq255.false)) (omega (arith, c.if-span-ge-LONG_SPAN.false)) c.in_ok-push_padding.ensures.ok
          (c.in_ok-push_bits.ensures.ok ∙ ap (λ n. plus mid (as_field_list (binary n d))) w.width-is)
    ]
