-- A type and the same type with each default in normal form are equivalent.
use Rattle.std.proofs.Common.{◌≡◌, ℕ, zero, suc, true, ◌&&◌, List, refl, sym, ◌∙◌, subst, inl, inr, ◌⊎◌, arith}
use Rattle.std.proofs.lemmas.Bool.{and_from}
use Rattle.asn1_model.specs.Value.{Value, depth}
use Rattle.asn1_model.specs.Schema.{Presence, required, optional, by_default, Schema, sequence_of, set_of, sequence}
use Rattle.asn1_model.specs.Schema.{set, group, choice, Components, no_component, component, Alternatives}
use Rattle.asn1_model.specs.Schema.{no_alternative, alternative}
use Rattle.asn1_model.specs.Normal.{normal}
use Rattle.asn1_model.specs.Tidy.{is_normal, has_normal_default, is_tidy, are_tidy, are_tidy_alternatives}
use Rattle.asn1_model.specs.Rules.{Rules}
use Rattle.asn1_laws_values.proofs.Normals.{normal_again, normal_normal}
use Rattle.asn1_laws_values.specs.Unfolding.{is_constructed}
use Rattle.asn1_laws_values.specs.UnfoldingLaws.{IsOneIn}
use Rattle.asn1_laws_values.specs.Tidied.{changed_default, tidied, tidied_each, tidied_alternatives}
use Rattle.asn1_laws_values.proofs.Unfolding.{AlikeTo, EachAlikeTo, AlternativesAlikeTo, SameDefault, list_alike}
use Rattle.asn1_laws_values.proofs.Unfolding.{bag_alike, component_alike, none_alike, sequence_alike, set_alike}
use Rattle.asn1_laws_values.proofs.Unfolding.{group_alike, alternative_alike, no_alternative_alike, choice_alike}
use Rattle.asn1_laws_values.proofs.Unfolding.{zero_alike, equal_alike, alike_means_the_same}

at_the_cut : (s : Schema) → ((is_constructed s && is_constructed (tidied s)) ≡ true) ⊎ (s ≡ tidied s)
unfolding tidied
at_the_cut (sequence_of z h s) = inl refl
at_the_cut (set_of z h s) = inl refl
at_the_cut (sequence cs e adds) = inl refl
at_the_cut (set cs e adds) = inl refl
at_the_cut (group cs) = inl refl
at_the_cut (choice roots e adds) = inl refl
at_the_cut s = inr refl

-- a default and its normal form, if the normal forms of both types agree
tidied_default : (s : Schema) (o : Presence) → ((n : ℕ) → AlikeTo n s (tidied s)) → SameDefault s (tidied s) o (changed_default (λ d. normal s d) o)
tidied_default s required a = tt
tidied_default s optional a = tt
tidied_default s (by_default d) a = sym (normal_again s d) ∙ (a (depth (normal s d))).normal_is (normal s d) (omega arith)

mutual
  unfolding tidied tidied_each tidied_alternatives

  pub tidied_alike : (n : ℕ) (s : Schema) → AlikeTo n s (tidied s)
  tidied_alike zero s = zero_alike s (tidied s) (at_the_cut s)
  tidied_alike (suc n) (sequence_of z h s) = list_alike n z h s (tidied s) (tidied_alike n s)
  tidied_alike (suc n) (set_of z h s) = bag_alike n z h s (tidied s) (tidied_alike n s)
  tidied_alike (suc n) (sequence cs e adds) = sequence_alike n cs (tidied_each cs) e adds (tidied_each adds) (tidied_alike_each n cs) (tidied_alike_each n adds)
  tidied_alike (suc n) (set cs e adds) = set_alike n cs (tidied_each cs) e adds (tidied_each adds) (tidied_alike_each n cs) (tidied_alike_each n adds)
  tidied_alike (suc n) (group cs) = group_alike n cs (tidied_each cs) (tidied_alike_each n cs)
  tidied_alike (suc n) (choice roots e adds) = choice_alike n roots (tidied_alternatives roots) e adds (tidied_alternatives adds) (tidied_alike_alternatives n roots) (tidied_alike_alternatives n adds)
  tidied_alike (suc n) s = equal_alike (suc n) s s refl

  tidied_alike_each : (n : ℕ) (cs : Components) → EachAlikeTo n cs (tidied_each cs)
  tidied_alike_each n no_component = none_alike n
  tidied_alike_each n (component t o s cs) =
      component_alike n t o (changed_default (λ d. normal s d) o) s (tidied s) cs (tidied_each cs) (tidied_default s o (λ m. tidied_alike m s)) (tidied_alike n s) (tidied_alike_each n cs)

  tidied_alike_alternatives : (n : ℕ) (os : Alternatives) → AlternativesAlikeTo n os (tidied_alternatives os)
  tidied_alike_alternatives n no_alternative = no_alternative_alike n
  tidied_alike_alternatives n (alternative t s os) = alternative_alike n t s (tidied s) os (tidied_alternatives os) (tidied_alike n s) (tidied_alike_alternatives n os)

-- ---- each default is in normal form
default_normal : (s : Schema) (o : Presence) → has_normal_default (tidied s) (changed_default (λ d. normal s d) o) ≡ true
default_normal s required = refl
default_normal s optional = refl
default_normal s (by_default d) =
    let e : normal (tidied s) (normal s d) ≡ normal s d = sym ((tidied_alike (depth (normal s d)) s).normal_is (normal s d) (omega arith)) ∙ normal_again s d in
    subst (λ x. is_normal (tidied s) x ≡ true) e (normal_normal (tidied s) (normal s d))

mutual
  unfolding tidied tidied_each tidied_alternatives is_tidy are_tidy are_tidy_alternatives

  pub tidied_is_tidy : (s : Schema) → is_tidy (tidied s) ≡ true
  tidied_is_tidy (sequence_of z h s) = tidied_is_tidy s
  tidied_is_tidy (set_of z h s) = tidied_is_tidy s
  tidied_is_tidy (sequence cs e adds) = and_from _ _ (tidied_are_tidy cs) (tidied_are_tidy adds)
  tidied_is_tidy (set cs e adds) = and_from _ _ (tidied_are_tidy cs) (tidied_are_tidy adds)
  tidied_is_tidy (group cs) = tidied_are_tidy cs
  tidied_is_tidy (choice roots e adds) = and_from _ _ (tidied_alternatives_are_tidy roots) (tidied_alternatives_are_tidy adds)
  tidied_is_tidy s = refl

  tidied_are_tidy : (cs : Components) → are_tidy (tidied_each cs) ≡ true
  tidied_are_tidy no_component = refl
  tidied_are_tidy (component t o s cs) = and_from _ _ (and_from _ _ (default_normal s o) (tidied_is_tidy s)) (tidied_are_tidy cs)

  tidied_alternatives_are_tidy : (os : Alternatives) → are_tidy_alternatives (tidied_alternatives os) ≡ true
  tidied_alternatives_are_tidy no_alternative = refl
  tidied_alternatives_are_tidy (alternative t s os) = and_from _ _ (tidied_is_tidy s) (tidied_alternatives_are_tidy os)

pub nothing_lost : (r : Rules) (s : Schema) (v : Value) (w : List ℕ) → (is_tidy (tidied s) ≡ true) × IsOneIn r s (tidied s) v w
nothing_lost r s v w = (tidied_is_tidy s, alike_means_the_same r (depth v) s (tidied s) v w (tidied_alike (depth v) s) (omega arith))
