use Rattle.std.proofs.Common.{arith}
use Rattle.asn1_schema_laws.proofs.Joined.{raised}
use Rattle.asn1_values_bits.specs.BitStr.{bits_of}
use Rattle.oer_codec_reading.specs.Fronts.{freedoms}
use Rattle.oer_codec_decoder.proofs.Adding.{skipped, not_skipped, still_due}
use Rattle.oer_codec_decoder.proofs.endings.finish_additions.Goals as goal

pub returns-then-additions-gt0-clause-only : goal.returns-then-additions-gt0-clause-only
returns-then-additions-gt0-clause-only c = still_due (freedoms c.args.rules) c.args.additions.left (bits_of c.args.additions.bitmap) c.args.cursor.now _ c.if-additions-gt0.true (λ x. cc x)

pub returns-in_err-skip_additions-clause-only : goal.returns-in_err-skip_additions-clause-only
returns-in_err-skip_additions-clause-only c = raised _ _ _ c.from_residual.ensures.1
    (not_skipped (freedoms c.args.rules) c.args.additions.left (bits_of c.args.additions.bitmap) c.args.cursor.now _
    (let f = c.if-additions-gt0.false in omega (arith, f)) c.in_err-skip_additions.ensures.only)

pub returns-clause-ok : goal.returns-clause-ok
returns-clause-ok c k = skipped (freedoms c.args.rules) c.args.additions.left (bits_of c.args.additions.bitmap) c.args.cursor.now
    c.skip_additions.new.cursor k (let f = c.if-additions-gt0.false in omega (arith, f)) c.in_ok-skip_additions.ensures.ok
