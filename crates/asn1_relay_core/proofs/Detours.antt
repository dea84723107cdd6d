-- A detour changes no result.
use Rattle.std.proofs.Common.{◌≡◌, ℕ, List, [], sym, ◌∙◌, arith}
use Rattle.asn1_model.specs.Schema.{Schema}
use Rattle.asn1_model.specs.Value.{Value}
use Rattle.asn1_model.specs.Lawful.{IsLawful}
use Rattle.asn1_model.specs.Normal.{normal}
use Rattle.asn1_model.specs.Rules.{canonical}
use Rattle.asn1_laws_values.proofs.Messages.{canonical_is_read}
use Rattle.asn1_laws_across.proofs.Across.{detours}
use Rattle.asn1_laws_values.proofs.Normal.{normal_depth}
use Rattle.asn1_relay_core.specs.declared.codec.Codec.{Codec}
use Rattle.asn1_relay_core.specs.Coding.{rules_of}
use Rattle.asn1_relay_core.specs.Recoding.{IsMessage, Answer, answered, not_an_encoding, surplus, no_target, IsAnswer}
use Rattle.asn1_laws_versions.proofs.Answers.{whole, alike, none_behind}

module _ (from via : Codec) (s : Schema) (w octets : List ℕ) (lawful : IsLawful s) (first : IsAnswer (rules_of from) (rules_of via) s w (answered octets)) where
  -- the octets on the way are a message of the normal form
  between : IsMessage (rules_of via) s (normal s first.0) octets
  between =
      let a = normal_depth s first.0 in
      let b = first.1.1 in
      (canonical_is_read (rules_of via) s first.0 octets first.2, omega arith)

  -- a value on the way is written exactly as the first value is
  kept : (to : Codec) (u : Value) → IsMessage (rules_of via) s u octets → canonical (rules_of to) s u ≡ canonical (rules_of to) s first.0
  kept to u m = detours (rules_of to) (rules_of via) s first.0 u octets lawful first.2 m.0

  pub behind_a_detour : (to : Codec) (x : Answer) → IsAnswer (rules_of via) (rules_of to) s octets x → IsAnswer (rules_of from) (rules_of to) s w x
  behind_a_detour to (answered b) p = (first.0, first.1, sym (kept to p.0 p.1) ∙ p.2)
  behind_a_detour to not_an_encoding p = absurd (p octets [] (normal s first.0) (whole octets) between)
  behind_a_detour to surplus p = absurd (p.4 (none_behind (rules_of via) (rules_of to) s octets lawful (normal s first.0) p.2 p.0 p.1 between p.5 p.3))
  behind_a_detour to no_target p = (first.0, first.1, sym (kept to p.0 p.1) ∙ p.2)

  pub through_a_detour : (to : Codec) (x : Answer) → IsAnswer (rules_of from) (rules_of to) s w x → IsAnswer (rules_of via) (rules_of to) s octets x
  through_a_detour to (answered b) p = (normal s first.0, between, kept to (normal s first.0) between ∙ (alike (rules_of from) (rules_of to) s w lawful first.0 p.0 first.1 p.1 ∙ p.2))
  through_a_detour to not_an_encoding p = absurd (p w [] first.0 (whole w) first.1)
  through_a_detour to surplus p = absurd (p.4 (none_behind (rules_of from) (rules_of to) s w lawful first.0 p.2 p.0 p.1 first.1 p.5 p.3))
  through_a_detour to no_target p = (normal s first.0, between, kept to (normal s first.0) between ∙ (alike (rules_of from) (rules_of to) s w lawful first.0 p.0 first.1 p.1 ∙ p.2))
