-- A type with its defaults in normal form.
use Rattle.std.specs.Prelude.{◌≡◌, true, false}
use Rattle.asn1_model.specs.Schema.{Presence, by_default, Schema, sequence_of, set_of, sequence, set, group, choice}
use Rattle.asn1_model.specs.Schema.{Components, no_component, component, Alternatives, no_alternative, alternative}
use Rattle.asn1_model.specs.Value.{Value, absent, present, end}
use Rattle.asn1_model.specs.Normal.{normal}
use Rattle.asn1_model.specs.Tidy.{is_tidy}
use Rattle.asn1_model.specs.Types.{roots}
use Rattle.asn1_model.specs.VersionRows.{spelled, sequence_default}

-- A default changed by a function.
abbrev pub changed_default : (Value → Value) → Presence → Presence
changed_default f (by_default d) = by_default (f d)
changed_default f o = o

unfoldable mutual
  -- The same type, with each default in normal form.
  pub tidied : Schema → Schema
  tidied (sequence_of z h s) = sequence_of z h (tidied s)
  tidied (set_of z h s) = set_of z h (tidied s)
  tidied (sequence cs e adds) = sequence (tidied_each cs) e (tidied_each adds)
  tidied (set cs e adds) = set (tidied_each cs) e (tidied_each adds)
  tidied (group cs) = group (tidied_each cs)
  tidied (choice roots e adds) = choice (tidied_alternatives roots) e (tidied_alternatives adds)
  tidied s = s

  -- The same components, with each default in normal form.
  pub tidied_each : Components → Components
  tidied_each no_component = no_component
  tidied_each (component t o s cs) = component t (changed_default (λ d. normal s d) o) (tidied s) (tidied_each cs)

  -- The same alternatives, with each default in normal form.
  pub tidied_alternatives : Alternatives → Alternatives
  tidied_alternatives no_alternative = no_alternative
  tidied_alternatives (alternative t s others) = alternative t (tidied s) (tidied_alternatives others)

-- ---- rows

-- T ::= SEQUENCE {n T DEFAULT {}} and SEQUENCE {t T DEFAULT {n {n {}}}}: in normal form this default is {n {}}, and {n
-- {}} is {}.
abbrev pub TidyRows : Type 0
TidyRows =
    (is_tidy (sequence_default 3 (roots (present spelled end))) ≡ false)
    × (tidied (sequence_default 3 (roots (present spelled end))) ≡ sequence_default 3 (roots (absent end)))
    × (is_tidy (sequence_default 3 (roots (absent end))) ≡ true)
