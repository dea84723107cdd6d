use Rattle.std.proofs.Common.{◌≡◌, ◌-◌, ◌*◌, ap, ◌∙◌, arith}
use Rattle.asn1_model.specs.Numbers.{binary, width, octet_width, least_octets}
use Rattle.per_codec_packing.specs.FieldLists.{as_field_list}
use Rattle.per_codec_writing.specs.Writing.{plus}
use Rattle.per_codec_writing.proofs.ConstrainedFieldLists.{octets_of_span, adds_fewest}
use Rattle.per_codec_writing.proofs.constrained.push_fewest_octets.Goals as goal

pub overflow_sub-further : goal.overflow_sub-further
overflow_sub-further c = let s = octets_of_span c.args.span c.requires.large c.ranges.span.fits in omega (arith, s.0, c.octet_width-further.ensures.width)

pub returns : goal.returns
returns c =
    let old = c.args.output.now in
    let span = c.args.span in
    let d = c.args.value in
    let k : c.max-count.result ≡ least_octets d = omega (arith, c.max-count.ensures, c.octet_width.ensures.width) in
    let w : c.bit_count.result ≡ width (octet_width span - 1) = c.bit_count.ensures.value ∙ ap (λ n. width (n - 1)) c.octet_width-further.ensures.width in
    adds_fewest span d old c.push_bits.new.self c.push_padding.new.self c.push_bits-2.new.self c.requires.within c.requires.large c.ranges.span.fits
    (c.in_ok-push_bits.ensures.ok ∙ ap (λ n. plus old (as_field_list (binary n (c.max-count.result - 1)))) w ∙ ap (λ n. plus old (as_field_list (binary (width (octet_width span - 1)) (n - 1)))) k)
    c.in_ok-push_padding.ensures.ok
    (c.in_ok-push_bits-2.ensures.ok ∙ ap (λ n. plus c.push_padding.new.self (as_field_list (binary (n * 8) d))) k)
