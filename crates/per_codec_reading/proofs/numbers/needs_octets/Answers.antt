use Rattle.std.proofs.Common.{◌+◌, ◌*◌, ◌^◌, ◌<◌, arith, subst}
use Rattle.per_codec_reading.proofs.NumberFronts.{needs_all, needs_one}
use Rattle.per_codec_reading.proofs.numbers.needs_octets.Goals as goal

pub returns-then-further-eq0 : goal.returns-then-further-eq0
returns-then-further-eq0 c =
    let d = c.args.number in
    let e = c.if-further-eq0.true in
    let l : d < 2 ^ (8 * (0 + 1)) = subst (λ k. d < 2 ^ (8 * (k + 1))) e c.requires.fits in
    rw e (needs_one d l)

pub returns-then-further-lt8 : goal.returns-then-further-lt8
returns-then-further-lt8 c =
    let n = c.if-further-eq0.false in
    needs_all c.args.further c.args.number (omega (arith, n)) c.requires.fits

pub returns : goal.returns
returns c =
    let n = c.if-further-eq0.false in
    needs_all c.args.further c.args.number (omega (arith, n)) c.requires.fits
