-- What an encoder holds, and how records change it.
use Rattle.std.specs.Prelude.{◌≡◌, ℕ, Bool, false, List, Some}
use Rattle.asn1_schema_laws.specs.Records.{Record}
use Rattle.oer_codec_encoder.specs.Steps.{State, run}

-- What an encoder holds: what a writer holds, whether an earlier call failed, and the octets to which it appends.
pub record Written : Type 0 where
  pub state : State
  pub failed : Bool
  pub front : List ℕ

-- A record is written: no call has failed, and the writer takes the step.
abbrev pub Puts : Written → Record → Written → Type 0
Puts a r b = (a.failed ≡ false) × (b.failed ≡ false) × (run r a.state ≡ Some b.state) × (b.front ≡ a.front)
