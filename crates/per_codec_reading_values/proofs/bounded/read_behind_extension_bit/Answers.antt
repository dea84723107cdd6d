use Rattle.per_codec_reading_values.proofs.bounded.read_behind_extension_bit.Goals as goal

pub returns-then-is_outside-clause-only : goal.returns-then-is_outside-clause-only
returns-then-is_outside-clause-only c = rw c.if-is_outside.true c.read_unconstrained.ensures.only

pub returns-clause-only : goal.returns-clause-only
returns-clause-only c = rw c.if-is_outside.false c.read_any_root.ensures.only
