-- The bits of character codes that are still unread: some in a number, the others in a view (X.691 30.5).
use Rattle.std.specs.Prelude.{ℕ, ◌*◌, Bool, List, ◌++◌}
use Rattle.asn1_model.specs.Numbers.{binary}
use Rattle.asn1_values_bits.specs.BitStr.{bits_of}
use Rattle.per_codec_reading.specs.declared.unread.UnreadCodes.{UnreadCodes}

-- Their bits, those in the number first.
abbrev pub code_bits : ℕ → UnreadCodes → List Bool
code_bits width c = binary (c.due * width) c.number ++ bits_of c.rest
