-- The bits of a window.
use Rattle.std.specs.Prelude.{◌≡◌, ◌<◌, ◌≤◌, Bool, List, length, take}
use Rattle.asn1_model.specs.Numbers.{binary}
use Rattle.asn1_values_bits.specs.declared.bit_window.BitWindow.{BitWindow}

-- the first `width` of the 128 binary digits of its number
unfoldable pub shown : BitWindow → List Bool
shown w = take w.width (binary 128 w.number)

-- a window holds the first bits of a list, at most 128, and is empty only if the list is
pub record IsWindowOf (bits : List Bool) (w : BitWindow) : Type 0 where
  pub narrow : w.width ≤ 128
  pub within : w.width ≤ length bits
  pub some : 0 < length bits → 0 < w.width
  pub front : shown w ≡ take w.width bits
