-- What an appender has added.
use Rattle.std.specs.Prelude.{ℕ, ◌-◌, Bool, List, length, take}
use Rattle.std.specs.Borrow.{GName}
use Rattle.asn1_values_bits.specs.declared.bit_appender.BitAppender.{BitAppender}

-- the buffer's bits and those that were added
unfoldable pub appended : BitAppender → List Bool
appended a = take a.next a.buffer.now

-- how many more bits may be added
unfoldable pub room_of : BitAppender → ℕ
room_of a = length a.buffer.now - a.next

-- the buffer that it appends to, as a reference
abbrev pub lender_of : BitAppender → GName
lender_of a = a.buffer.ghost_name
