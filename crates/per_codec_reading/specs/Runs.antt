-- Units that were read (X.691 11.9): their number and bits, borrowed or joined, and where bits are stored.
use Rattle.std.specs.Prelude.{◌≡◌, ℕ, ◌+◌, ◌*◌, ◌%◌, ◌<◌, ltb, cond, Bool, List, ◌++◌, Option, Some, None}
use Rattle.asn1_model.specs.Per
use Rattle.asn1_values_bits.specs.BitStr.{bits_of, offset_of}
use Rattle.per_codec_laws.specs.Takes.{Position, Front}
use Rattle.per_codec_reading.specs.Fronts.{Leads}
use Rattle.per_codec_reading.specs.Units.{Units}
use Rattle.per_codec_reading.specs.declared.runs.Run.{Run}
use Rattle.per_codec_reading.specs.declared.runs.RunBits.{RunBits}
use Rattle.per_codec_reading.specs.declared.runs.RunBits.TheVariants.{Lent, Joined}

-- The bits, borrowed or joined.
abbrev pub bits_in : RunBits → List Bool
bits_in (Lent bits) = bits_of bits
bits_in (Joined bits) = bits

-- The number of units, and their bits.
abbrev pub units_in : Run → Units
units_in run = (run.count, bits_in run.bits)

-- The bits are those of the input.
abbrev pub IsLent : RunBits → Type 0
IsLent (Lent bits) = Unit {0}
IsLent (Joined bits) = ⊥

-- Where bits are stored: in the input, from this bit of one of its octets on, or in a buffer of the reader.
abbrev pub Storage : Type 0
Storage = Option ℕ

-- Where the bits of units are stored.
abbrev pub storage_of : RunBits → Storage
storage_of (Lent bits) = Some (offset_of bits)
storage_of (Joined bits) = None

-- Bits stored there, up to this position of them, end at an octet of the input.
abbrev pub EndsAtOctet : Storage → ℕ → Type 0
EndsAtOctet None n = ⊥
EndsAtOctet (Some o) n = (o + n) % 8 ≡ 0

-- Where octets after a length determinant are stored: `n` bits that end at this position of bits stored there. In one
-- run they are part of these (X.691 11.9.3.5 to 11.9.3.7); fragments are joined.
abbrev pub storage_inside : Storage → ℕ → ℕ → Storage
storage_inside None n end = None
storage_inside (Some o) n end = cond (ltb n (8 * 16384)) (Some ((o + end) % 8)) None

-- A number of units is in one run: there are fewer than 16384, or an upper bound below 65536 determines the form of
-- their length determinant (X.691 11.9.4.1).
abbrev pub InOneRun : Option ℕ → ℕ → Type 0
InOneRun None n = n < 16384
InOneRun (Some high) n = Unit {0}

-- These bits are the last of those that were taken.
abbrev pub EndsWith : List Bool → Position → Position → Type 0
EndsWith bs old new = (w : List Bool) × Leads (w ++ bs) old new

-- If the bits are borrowed, they are the last of those that were taken.
abbrev pub EndsWithLent : RunBits → Position → Position → Type 0
EndsWithLent (Lent bits) old new = EndsWith (bits_of bits) old new
EndsWithLent (Joined bits) old new = Unit {0}

-- A position in a message with these bits.
abbrev pub StandsIn : List Bool → Position → Type 0
StandsIn all a = (w : List Bool) × Leads w (0, all) a

-- The borrowed bits end at this position of such a message.
abbrev pub StandsBefore : RunBits → List Bool → ℕ → Type 0
StandsBefore (Lent bits) all n = (b : Position) × (b.0 ≡ n) × EndsWith (bits_of bits) (0, all) b
StandsBefore (Joined bits) all n = Unit {0}

-- Some units, and after them those that come next, are all of these.
abbrev pub Continued : (Per.Freedom → Bool) → (Units → Per.BitForm) → Units → Units → Position → Position → Type 0
Continued free form first all old new = (us : Units) × (first.0 + us.0 ≡ all.0) × (first.1 ++ us.1 ≡ all.1)
    × Front free (form us) old new
