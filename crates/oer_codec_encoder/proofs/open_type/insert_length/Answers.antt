use Rattle.std.proofs.Common.{arith, ◌∙◌, ap, ◌-◌}
use Rattle.oer_codec_encoder.proofs.RoomTexts.{short_in_room}
use Rattle.oer_codec_encoder.proofs.open_type.insert_length.Goals as goal

pub returns-in-Some-clause-text : goal.returns-in-Some-clause-text
returns-in-Some-clause-text c =
    let o = c.args.octets.now in
    let start = c.args.start in
    let s = c.in-Some.ensures.some in
    short_in_room o.items c.set_octet.new.octets.items start c.in-Some.octet (omega (arith, c.requires, o.ok.0))
    (s.0 ∙ ap (λ k. k - start - 1) (c.len.ensures ∙ o.ok.0)) (omega (arith, s.0, s.1)) c.set_octet.ensures c.type_inv.octets
