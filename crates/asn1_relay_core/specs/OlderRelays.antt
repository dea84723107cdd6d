-- Relays of the older version of a type that receive messages of the newer one.
use Rattle.std.specs.Prelude.{ℕ, ◌≤◌, List, Option}
use Rattle.asn1_model.specs.Schema.{Schema}
use Rattle.asn1_model.specs.Value.{Value}
use Rattle.asn1_model.specs.Rules.{Rules}
use Rattle.asn1_laws_across.specs.Relayed.{Stop, Relays}
use Rattle.asn1_laws_versions.specs.Relays.{AreJoined, Halt, RelaysOlder, IsEnd}

-- What a relay of the older version does with a sequence of messages of the newer one follows from their values, at any
-- depth of nesting: both types are unfolded to the same number of levels, the 128 that a relay reads or more.
abbrev pub OlderRelayIsTold : (ℕ → Schema) → (ℕ → Schema) → Type 0
OlderRelayIsTold old new =
    (source target : Rules) (limit n number : ℕ) (vs : List Value) (w out rest : List ℕ) (why : Option Stop)
    → 128 ≤ n → AreJoined source (new n) vs w → Relays source target (old 128) limit w number out rest why
    → (halt : Option Halt) × RelaysOlder source target (old n) (new n) limit vs w number out rest halt
    × IsEnd source target (old n) (new n) limit rest halt why
