-- The extension bit of a size, an item or an alternative (X.691 14.3, 16.6, 17.3, 20.4, 23.5 and 30.4), and the upper
-- bound that determines the form of a count (11.9.4.1).
use Rattle.std.specs.Prelude.{ℕ, not, Bool, true, false, [], ◌∷◌, Option, None}
use Rattle.asn1_model.specs.Form.{exactly, only_if}
use Rattle.asn1_model.specs.Per
use Rattle.per_codec_rules.specs.Counts.{below_long_count}

-- An extension bit, if the type or size is extensible: whether the count of a size is, or is said to be, outside the
-- root (X.691 16.6, 17.3, 20.4 and 30.4), or an item or alternative is added (X.691 14.3 and 23.5).
abbrev pub extension_bit : Bool → Bool → Per.BitForm
extension_bit false outside = only_if (not outside) (exactly [])
extension_bit true outside = exactly (outside ∷ [])

-- The upper bound, if it is below 65536 and the count is in the root: it then determines the form of the count (X.691
-- 11.9.4.1).
abbrev pub told_highest : Bool → Option ℕ → Option ℕ
told_highest true high = None
told_highest false high = below_long_count high
