use Rattle.std.proofs.Common.{◌≤◌, ◌-◌, ◌^◌, length, take, ap, ◌∙◌, subst, arith}
use Rattle.asn1_model.specs.Oer
use Rattle.asn1_schema_tags.specs.Tags.{tag_of}
use Rattle.oer_codec_reading.specs.Fronts.{freedoms, Stands}
use Rattle.oer_codec_decoder.proofs.ShortStrings.{looked_at}
use Rattle.oer_codec_decoder.proofs.Choosing.{no_choice_yet}
use Rattle.oer_codec_decoder.proofs.missing.missing_in_choice.Goals as goal

pub returns-in-Some : goal.returns-in-Some
returns-in-Some c =
    let e = c.new-cursor.ensures in
    let l = ap length e in
    let n = c.len.ensures.count in
    let i = c.if-len-octets.false in
    let h : length c.args.octets.now ≤ length (take (2 ^ 60 - 1) c.args.octets.now) = omega (arith, l, n, i) in
    no_choice_yet (freedoms c.args.rules) c.args.tables.now.roots c.args.tables.now.extensible c.args.tables.now.additions (tag_of c.in-Ok.tag)
    c.in-Some.chosen.added c.in-Some.chosen.place c.args.octets.now c.read_alternative_tag.new.cursor _
    (subst (λ os. Stands (freedoms c.args.rules) (Oer.tag_form (tag_of c.in-Ok.tag)) os c.read_alternative_tag.new.cursor)
    (e ∙ looked_at c.args.octets.now h) c.in-Ok.ensures.ok) c.in-Some.ensures.some c.missing_in_alternative.ensures
