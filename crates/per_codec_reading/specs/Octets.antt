-- Octets that were read, and where they are.
use Rattle.std.specs.Prelude.{ℕ, List, ⊤}
use Rattle.per_codec_reading.specs.declared.input_octets.InputOctets.{InputOctets}
use Rattle.per_codec_reading.specs.declared.input_octets.InputOctets.TheVariants.{Lent, Few, Owned}

-- The octets.
abbrev pub octets_of : InputOctets → List ℕ
octets_of (Lent octets) = octets.now
octets_of (Few octets) = octets
octets_of (Owned octets) = octets.items

-- They are one run of the input.
abbrev pub AreLent : InputOctets → Type 0
AreLent (Lent octets) = ⊤
AreLent (Few octets) = ⊥
AreLent (Owned octets) = ⊥

-- They have no memory of their own: they are a run of the input, or so few that the value holds them.
abbrev pub AreUnowned : InputOctets → Type 0
AreUnowned (Lent octets) = ⊤
AreUnowned (Few octets) = ⊤
AreUnowned (Owned octets) = ⊥
