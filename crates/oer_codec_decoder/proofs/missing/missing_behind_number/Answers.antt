use Rattle.std.proofs.Common.{◌≤◌, ◌-◌, ◌^◌, length, take, ap, ◌∙◌, subst, arith}
use Rattle.asn1_model.specs.Oer
use Rattle.oer_codec_reading.specs.Fronts.{freedoms, Stands}
use Rattle.oer_codec_decoder.proofs.ShortStrings.{behind_number, looked_at}
use Rattle.oer_codec_decoder.proofs.missing.missing_behind_number.Goals as goal

pub returns-in-Ok : goal.returns-in-Ok
returns-in-Ok c =
    let e = c.new-cursor.ensures in
    let l = ap length e in
    let n = c.len.ensures.count in
    let i = c.if-len-octets.false in
    let h : length c.args.octets.now ≤ length (take (2 ^ 60 - 1) c.args.octets.now) = omega (arith, l, n, i) in
    let m = c.len-in-Ok.ensures.count in
    let s = c.saturating_sub.ensures in
    let t = c.saturating_sub-in-Ok.ensures in
    behind_number (freedoms c.args.rules) c.in-Ok.length c.args.octets.now c.read_length.new.cursor _
    (subst (λ os. Stands (freedoms c.args.rules) (Oer.length_form c.in-Ok.length) os c.read_length.new.cursor) (e ∙ looked_at c.args.octets.now h) c.in-Ok.ensures.ok) (omega (arith, m, s, t))
