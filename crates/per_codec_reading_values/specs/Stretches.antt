-- What callers see of a `Stretch`: its read position with the bits after it, and where its bits are stored.
use Rattle.per_codec_laws.specs.Takes.{Position}
use Rattle.per_codec_reading.specs.Runs.{Storage}

-- The position, and the storage of the bits.
pub record Stretched : Type 0 where
  pub place : Position
  pub storage : Storage
