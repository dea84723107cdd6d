-- The two variants of PER.
use Rattle.std.specs.Prelude.{Bool, true, false}
use Rattle.per_codec_rules.specs.declared.variant.Variant.{Variant}
use Rattle.per_codec_rules.specs.declared.variant.Variant.TheVariants.{Unaligned, Aligned}

-- Whether padding bits precede some fields, so that these begin at an octet boundary (X.691 11.1).
abbrev pub is_aligned : Variant → Bool
is_aligned Unaligned = false
is_aligned Aligned = true
