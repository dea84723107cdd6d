use Rattle.std.proofs.Common.{◌+◌, ◌/◌, ◌%◌, arith}
use Rattle.oer_codec_encoder.proofs.Scopes.{raised_at}
use Rattle.oer_codec_encoder.proofs.sequences.raise_bit.Goals as goal

pub returns-clause-bit : goal.returns-clause-bit
returns-clause-bit c = raised_at c.args.octets.now.items (c.args.start + c.args.place / 8) c.index.result.now c.with_bit.result (c.args.place % 8)
    (omega (arith, c.args.octets.now.ok.0)) c.index.ensures c.with_bit.ensures
