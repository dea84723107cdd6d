-- A well-formed type is a version of itself.
use Rattle.std.proofs.Common.{◌≡◌, ℕ, zero, suc, Bool, true, false, not, List, [], Option, Some, option_map, refl, ap}
use Rattle.std.proofs.lemmas.Bool.{and_parts}
use Rattle.std.proofs.lemmas.List.{append-nil}
use Rattle.std.proofs.lemmas.List.Elements.{All-contains_itself}
use Rattle.asn1_model.specs.Value.{Value, members, bag, fields, chosen, Values, no_more, member, Parts, end, absent, present}
use Rattle.asn1_model.specs.Schema.{Presence, required, optional, by_default, Schema, cut, boolean, null, integer}
use Rattle.asn1_model.specs.Schema.{enumerated, bit_string, octet_string, character_string, object_identifier}
use Rattle.asn1_model.specs.Schema.{sequence_of, set_of, sequence, set, group, choice, Components, no_component}
use Rattle.asn1_model.specs.Schema.{component, Alternatives, no_alternative, alternative}
use Rattle.asn1_model.specs.Normal.{normal}
use Rattle.asn1_model.specs.Value.{are_all}
use Rattle.asn1_model.specs.Lawful.{is_of, are_of, is_of_alternative, member_count}
use Rattle.asn1_model.specs.Normal.{is_required}
use Rattle.asn1_model.specs.Numbers.{is_count_within}
use Rattle.asn1_model.specs.Lawful.{is_lawful, are_lawful, are_lawful_alternatives, has_typed_default}
use Rattle.asn1_model.specs.Versions.{carried, map_each, both_parts, grow, carried_parts, carried_alternative, Begins, KeepsPresence, Extends, ExtendsEach, ExtendsAlternatives}
use Rattle.asn1_laws_values.proofs.Same.{same_self}
use Rattle.asn1_laws_values.proofs.Typed.{normal_is_of}

each_stays : (f : Value → Option Value) (test : Value → Bool) → ((v : Value) → test v ≡ true → f v ≡ Some v) → (vs : Values) → are_all test vs ≡ true → map_each f vs ≡ Some vs
each_stays f test h no_more e = refl
each_stays f test h (member v vs) e =
    let p = and_parts (test v) (are_all test vs) e in
    let a = h v p.0 in
    let b = each_stays f test h vs p.1 in
    rw (a, b) refl

mutual
  unfolding carried carried_parts carried_alternative is_of are_of is_of_alternative

  -- a value of a type is carried over unchanged to the type itself
  pub grows : (s : Schema) (v : Value) → is_of s v ≡ true → grow s s v ≡ Some v
  grows (sequence_of z h s) (members vs) e =
      ap (option_map members) (each_stays (λ v. grow s s v) (λ v. is_of s v) (λ v f. grows s v f) vs ((and_parts (is_count_within h (member_count vs)) (are_all (λ v. is_of s v) vs) e).1))
  grows (sequence_of z h s) v e = refl
  grows (set_of z h s) (bag vs) e = ap (option_map bag)
      (each_stays (λ v. grow s s v) (λ v. is_of s v) (λ v f. grows s v f) vs ((and_parts (is_count_within h (member_count vs)) (are_all (λ v. is_of s v) vs) e).1))
  grows (set_of z h s) v e = refl
  grows (sequence cs e adds) (fields ps qs) f = let p = and_parts (are_of cs ps) (are_of adds qs) f in λ i. both_parts (parts_grow cs ps p.0 i) (parts_grow adds qs p.1 i)
  grows (sequence cs e adds) v f = refl
  grows (set cs e adds) (fields ps qs) f = let p = and_parts (are_of cs ps) (are_of adds qs) f in λ i. both_parts (parts_grow cs ps p.0 i) (parts_grow adds qs p.1 i)
  grows (set cs e adds) v f = refl
  grows (group cs) (fields ps end) f = ap (λ o. both_parts o (Some end)) (parts_grow cs ps f)
  grows (group cs) v f = cc
  grows (choice roots e adds) (chosen false i v) f = ap (option_map (λ w. chosen false i w)) (alternative_grows roots i v f)
  grows (choice roots e adds) (chosen true i v) f = ap (option_map (λ w. chosen true i w)) (alternative_grows adds i v ((and_parts e (is_of_alternative adds i v) f).1))
  grows (choice roots e adds) v f = refl
  grows s v e = refl

  pub parts_grow : (cs : Components) (ps : Parts) → are_of cs ps ≡ true → carried_parts true cs cs ps ≡ Some ps
  parts_grow no_component end e = refl
  parts_grow no_component ps e = cc
  parts_grow (component t o s cs) (present v ps) e =
      let p = and_parts (is_of s v) (are_of cs ps) e in
      let a = grows s v p.0 in
      let b = parts_grow cs ps p.1 in
      rw (a, b) refl
  parts_grow (component t o s cs) (absent ps) e = ap (option_map absent) (parts_grow cs ps ((and_parts (not (is_required o)) (are_of cs ps) e).1))
  parts_grow (component t o s cs) end e = cc

  alternative_grows : (others : Alternatives) (i : ℕ) (v : Value) → is_of_alternative others i v ≡ true → carried_alternative true others others i v ≡ Some v
  alternative_grows no_alternative i v e = cc
  alternative_grows (alternative t s others) zero v e = grows s v e
  alternative_grows (alternative t s others) (suc i) v e = alternative_grows others i v e

begins_itself : {X : Type 0} (xs : List X) → Begins xs xs
begins_itself xs = ([], append-nil xs)

keeps_itself : (s : Schema) (o : Presence) → is_lawful s ≡ true → has_typed_default s o ≡ true → KeepsPresence s s o o
keeps_itself s required l h = tt
keeps_itself s optional l h = tt
keeps_itself s (by_default d) l h = (normal s d, grows s (normal s d) (normal_is_of s d l h), same_self (normal s d))

mutual
  unfolding Extends ExtendsEach ExtendsAlternatives is_lawful are_lawful are_lawful_alternatives

  pub extends_itself : (s : Schema) → is_lawful s ≡ true → Extends s s
  extends_itself cut l = tt
  extends_itself boolean l = tt
  extends_itself null l = tt
  extends_itself (integer b h) l = (refl, refl)
  extends_itself (enumerated roots e adds) l = (refl, refl, begins_itself adds)
  extends_itself (bit_string z h) l = (refl, refl)
  extends_itself (octet_string z h) l = (refl, refl)
  extends_itself (character_string k z a h) l = (refl, refl, refl, refl)
  extends_itself object_identifier l = tt
  extends_itself (sequence_of z h s) l = (refl, refl, extends_itself s ((and_parts _ _ l).1))
  extends_itself (set_of z h s) l = (refl, refl, extends_itself s ((and_parts _ _ l).1))
  extends_itself (sequence cs e adds) l = (each_itself false cs ((and_parts _ _ ((and_parts _ _ l).0)).1), refl, each_itself e adds ((and_parts _ _ l).1))
  extends_itself (set cs e adds) l = (each_itself false cs ((and_parts _ _ ((and_parts _ _ l).0)).1), refl, each_itself e adds ((and_parts _ _ l).1))
  extends_itself (group cs) l = each_itself false cs ((and_parts _ _ l).1)
  extends_itself (choice roots e adds) l = (alternatives_itself false roots ((and_parts _ _ ((and_parts _ _ l).0)).1), refl, alternatives_itself e adds ((and_parts _ _ l).1))

  pub each_itself : (more : Bool) (cs : Components) → are_lawful cs ≡ true → ExtendsEach more cs cs
  each_itself more no_component l = tt
  each_itself more (component t o s cs) l = (
    All-contains_itself t,
    keeps_itself s o ((and_parts _ _ ((and_parts _ _ l).0)).1)
        ((and_parts _ _ ((and_parts _ _ ((and_parts _ _ l).0)).0)).1),
    extends_itself s ((and_parts _ _ ((and_parts _ _ l).0)).1),
    each_itself more cs ((and_parts _ _ l).1),
  )

  pub alternatives_itself : (more : Bool) (others : Alternatives) → are_lawful_alternatives others ≡ true → ExtendsAlternatives more others others
  alternatives_itself more no_alternative l = tt
  alternatives_itself more (alternative t s others) l = (refl, extends_itself s ((and_parts _ _ ((and_parts _ _ l).0)).1), alternatives_itself more others ((and_parts _ _ l).1))
