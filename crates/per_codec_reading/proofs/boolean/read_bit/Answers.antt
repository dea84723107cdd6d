use Rattle.per_codec_reading.specs.Fronts.{freedoms}
use Rattle.per_codec_reading.specs.Lengths.{one_bit}
use Rattle.per_codec_reading.proofs.Fronts.{none_misses, ends_early, ok_also, err_also}
use Rattle.per_codec_reading.proofs.NumberFronts.{bit_read, no_bit}
use Rattle.per_codec_reading.proofs.boolean.read_bit.Goals as goal

pub returns-clause-ok : goal.returns-clause-ok
returns-clause-ok c = ok_also c.take_bit.result (λ v. bit_read (freedoms c.args.rules) v c.args.cursor.now c.take_bit.new.self) c.take_bit.ensures.bit

pub returns-clause-only : goal.returns-clause-only
returns-clause-only c =
    let f = freedoms c.args.rules in
    let a = c.args.cursor.now in
    err_also c.take_bit.result (λ e s. none_misses f one_bit a e (ends_early s.0) (no_bit f a s.1)) c.take_bit.ensures.short
