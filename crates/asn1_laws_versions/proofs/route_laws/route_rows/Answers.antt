use Rattle.std.proofs.Common.{◌≡◌, ℕ, List, [], ◌∷◌, inl, inr, refl, arith}
use Rattle.asn1_model.proofs.OnValues.{on_values}
use Rattle.asn1_model.specs.Value.{nothing}
use Rattle.asn1_model.specs.Schema.{null}
use Rattle.asn1_model.specs.Rules.{uper, aper_strict, oer, coer}
use Rattle.asn1_model.specs.Types.{new_type, old_type, required_new, default_old, default_new, colour_old, colour_new, listed, nest_added, nested, no, yes_with}
use Rattle.asn1_model.specs.Versions.{carried, carried_parts, carried_alternative}
use Rattle.asn1_laws_versions.specs.Answers.{not_an_encoding, no_target}
use Rattle.asn1_laws_versions.specs.Routes.{at_first}
use Rattle.asn1_laws_versions.specs.RouteRows.{newer_to, listed_new, three, three_octets, seven, seven_octets, in_default, red, blue}
use Rattle.asn1_laws_versions.specs.Relays.{unread, untranslated, emptied, older_to}
use Rattle.asn1_laws_versions.proofs.Deciding.{goes, fails}
use Rattle.asn1_laws_versions.proofs.route_laws.route_rows.Goals as goal

some : (a : ℕ) (w : List ℕ) → a ∷ w ≡ [] → ⊥
some a w e = cc

abbrev yes_octets : List ℕ
yes_octets = 0x00 ∷ 0xFF ∷ []

pub returns : goal.returns
unfolding on_values carried carried_parts carried_alternative
returns c = (
  refl,
  refl,
  refl,
  refl,
  (goes old_type new_type (at_first uper) (newer_to coer ∷ []) seven refl, (_, refl, refl)),
  (goes old_type new_type (at_first uper) (newer_to coer ∷ older_to uper ∷ []) seven refl, (_, refl, refl)),
  (goes old_type new_type (at_first uper) (newer_to coer ∷ older_to uper ∷ newer_to coer ∷ []) seven refl, (_, refl, refl)),
  (goes default_old default_new (at_first uper) (older_to coer ∷ []) in_default refl, (_, refl, refl)),
  fails default_old default_new (at_first coer) (older_to coer ∷ []) in_default 0 not_an_encoding refl,
  fails default_old default_new (at_first aper_strict) (older_to coer ∷ []) in_default 0 not_an_encoding refl,
  fails default_old default_new (at_first uper) (newer_to coer ∷ older_to uper ∷ []) in_default 1 not_an_encoding refl,
  (goes default_old default_new (at_first uper) (older_to coer ∷ older_to coer ∷ newer_to coer ∷ older_to oer ∷ []) in_default refl, (_, refl, refl)),
  (goes old_type required_new (at_first uper) (older_to uper ∷ []) (yes_with no) refl, (_, refl, refl)),
  fails old_type required_new (at_first uper) (older_to uper ∷ newer_to coer ∷ []) (yes_with no) 1 not_an_encoding refl,
  (goes colour_old colour_new (at_first uper) (newer_to coer ∷ []) blue refl, (_, refl, refl)),
  fails colour_old colour_new (at_first uper) (older_to coer ∷ []) blue 0 not_an_encoding refl,
  fails colour_old colour_new (at_first uper) (newer_to coer ∷ older_to uper ∷ older_to uper ∷ []) blue 1 not_an_encoding refl,
  (goes colour_old colour_new (at_first uper) (older_to coer ∷ []) red refl, (_, refl, refl)),
  fails old_type nest_added (at_first coer) (newer_to coer ∷ []) (yes_with (nested 127)) 0 not_an_encoding refl,
  (goes old_type nest_added (at_first coer) (older_to coer ∷ newer_to coer ∷ []) (yes_with (nested 127)) refl, (_, refl, refl)),
  refl,
  fails listed listed_new (at_first coer) (older_to coer ∷ newer_to uper ∷ older_to coer ∷ []) three 1 no_target refl,
  (
    seven_octets,
    seven_octets,
    refl,
    some _ _,
    refl,
    inr (
      1,
      yes_octets,
      yes_octets,
      ((goes old_type new_type (at_first uper) (older_to coer ∷ []) seven refl).0, omega arith, (_, refl, refl), some _ _),
      refl,
      refl,
      (
        seven_octets,
        [],
        refl,
        some _ _,
        refl,
        inr (0, yes_octets, [], ((goes old_type new_type (at_first uper) (older_to coer ∷ []) seven refl).0, omega arith, (_, refl, refl), some _ _), refl, refl, (refl, refl, refl, refl, refl)),
      ),
    ),
  ),
  (seven_octets, [], refl, some _ _, refl, inl (unread, inr (omega arith), refl, refl, refl, refl)),
  (
    0x00 ∷ [],
    0x80 ∷ [],
    refl,
    some _ _,
    refl,
    inr (
      0,
      0x00 ∷ [],
      [],
      ((goes colour_old colour_new (at_first uper) (older_to coer ∷ []) red refl).0, omega arith, (_, refl, refl), some _ _),
      refl,
      refl,
      (0x80 ∷ [], [], refl, some _ _, refl, inl (unread, inl (fails colour_old colour_new (at_first uper) (older_to coer ∷ []) blue 0 not_an_encoding refl), refl, refl, refl, refl)),
    ),
  ),
  (three_octets, [], refl, some _ _, refl, inl (untranslated, (fails listed listed_new (at_first coer) (older_to uper ∷ []) three 0 no_target refl, omega arith), refl, refl, refl, refl)),
  (0x00 ∷ [], [], refl, some _ _, refl, inl (emptied, ((goes null null (at_first uper) (older_to coer ∷ []) nothing refl).0, omega arith, (_, refl, refl)), refl, refl, refl, refl)),
)
