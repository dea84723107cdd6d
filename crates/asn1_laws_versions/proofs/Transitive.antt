-- A newer version of a newer version is one.
use Rattle.std.proofs.Common.{Bool, true, false, List, ◌++◌, Contains, ap, sym, ◌∙◌, subst, append_assoc}
use Rattle.std.proofs.lemmas.List.Elements.{All-contains, All-weaker}
use Rattle.asn1_model.specs.Schema.{Tag, Presence, required, optional, by_default, Schema, cut, boolean, null, integer}
use Rattle.asn1_model.specs.Schema.{enumerated, bit_string, octet_string, character_string, object_identifier}
use Rattle.asn1_model.specs.Schema.{sequence_of, set_of, sequence, set, group, choice, Components, no_component}
use Rattle.asn1_model.specs.Schema.{component, Alternatives, no_alternative, alternative}
use Rattle.asn1_model.specs.Normal.{normal}
use Rattle.asn1_model.specs.Versions.{Begins, KeepsPresence, Extends, ExtendsEach, ExtendsAlternatives}
use Rattle.asn1_laws_values.proofs.Same.{same_chained}
use Rattle.asn1_laws_versions.proofs.Extending.{grown_twice}
use Rattle.asn1_laws_versions.proofs.Alike.{carried_alike}
use Rattle.std.specs.Prelude.{All}

begins_twice : {X : Type 0} (xs ys zs : List X) → Begins xs ys → Begins ys zs → Begins xs zs
begins_twice xs ys zs h k = (h.0 ++ k.0, sym (append_assoc xs h.0 k.0) ∙ ap (λ l. l ++ k.0) h.1 ∙ k.1)

tags_twice : (ts us ws : List Tag) → All (Contains us) ts → All (Contains ws) us → All (Contains ws) ts
tags_twice ts us ws h k = All-weaker (Contains us) (Contains ws) (λ t i. All-contains (Contains ws) us t k i) ts h

-- ---- defaults
keeps_twice : (s t r : Schema) (o p q : Presence) → Extends s t → Extends t r → KeepsPresence s t o p → KeepsPresence t r p q → KeepsPresence s r o q
keeps_twice s t r required required required h k i j = tt
keeps_twice s t r optional optional optional h k i j = tt
keeps_twice s t r (by_default d) (by_default d') (by_default d'') h k i j =
    let y = carried_alike t r (normal t d') j.0 i.0 k j.1 i.2 in
    (y.0, grown_twice s t r (normal s d) i.0 y.0 h k i.1 y.1, same_chained y.0 j.0 (normal r d'') y.2 j.2)
keeps_twice s t r required required q h k i j = absurd j
keeps_twice s t r optional optional q h k i j = absurd j
keeps_twice s t r (by_default d) (by_default d') q h k i j = absurd j
keeps_twice s t r o p q h k i j = absurd i

mutual
  unfolding Extends ExtendsEach ExtendsAlternatives

  pub extends_twice : (s t r : Schema) → Extends s t → Extends t r → Extends s r
  extends_twice cut cut r h k = k
  extends_twice boolean boolean r h k = k
  extends_twice null null r h k = k
  extends_twice object_identifier object_identifier r h k = k
  extends_twice (integer b c) (integer b' c') (integer b'' c'') h k = (h.0 ∙ k.0, h.1 ∙ k.1)
  extends_twice (integer b c) (integer b' c') r h k = absurd k
  extends_twice (enumerated rs m ds) (enumerated rs' m' ds') (enumerated rs'' m'' ds'') h k = (h.0 ∙ k.0, h.1 ∙ k.1, begins_twice ds ds' ds'' h.2 k.2)
  extends_twice (enumerated rs m ds) (enumerated rs' m' ds') r h k = absurd k
  extends_twice (bit_string z c) (bit_string z' c') (bit_string z'' c'') h k = (h.0 ∙ k.0, h.1 ∙ k.1)
  extends_twice (bit_string z c) (bit_string z' c') r h k = absurd k
  extends_twice (octet_string z c) (octet_string z' c') (octet_string z'' c'') h k = (h.0 ∙ k.0, h.1 ∙ k.1)
  extends_twice (octet_string z c) (octet_string z' c') r h k = absurd k
  extends_twice (character_string n z a c) (character_string n' z' a' c') (character_string n'' z'' a'' c'') h k = (h.0 ∙ k.0, h.1 ∙ k.1, h.2 ∙ k.2, h.3 ∙ k.3)
  extends_twice (character_string n z a c) (character_string n' z' a' c') r h k = absurd k
  extends_twice (sequence_of z c s) (sequence_of z' c' t) (sequence_of z'' c'' r) h k = (h.0 ∙ k.0, h.1 ∙ k.1, extends_twice s t r h.2 k.2)
  extends_twice (sequence_of z c s) (sequence_of z' c' t) r h k = absurd k
  extends_twice (set_of z c s) (set_of z' c' t) (set_of z'' c'' r) h k = (h.0 ∙ k.0, h.1 ∙ k.1, extends_twice s t r h.2 k.2)
  extends_twice (set_of z c s) (set_of z' c' t) r h k = absurd k
  extends_twice (sequence cs a adds) (sequence cs' a' adds') (sequence ds b addeds) h k =
      (each_twice_extends false cs cs' ds h.0 k.0, h.1 ∙ k.1, each_twice_extends a adds adds' addeds h.2 (subst (λ b. ExtendsEach b adds' addeds) (sym h.1) k.2))
  extends_twice (sequence cs a adds) (sequence cs' a' adds') r h k = absurd k
  extends_twice (set cs a adds) (set cs' a' adds') (set ds b addeds) h k =
      (each_twice_extends false cs cs' ds h.0 k.0, h.1 ∙ k.1, each_twice_extends a adds adds' addeds h.2 (subst (λ b. ExtendsEach b adds' addeds) (sym h.1) k.2))
  extends_twice (set cs a adds) (set cs' a' adds') r h k = absurd k
  extends_twice (group cs) (group cs') (group ds) h k = each_twice_extends false cs cs' ds h k
  extends_twice (group cs) (group cs') r h k = absurd k
  extends_twice (choice roots a adds) (choice roots' a' adds') (choice others b addeds) h k =
      (alternatives_twice_extend false roots roots' others h.0 k.0, h.1 ∙ k.1, alternatives_twice_extend a adds adds' addeds h.2 (subst (λ b. ExtendsAlternatives b adds' addeds) (sym h.1) k.2))
  extends_twice (choice roots a adds) (choice roots' a' adds') r h k = absurd k
  extends_twice s t r h k = absurd h

  each_twice_extends : (more : Bool) (cs ds es : Components) → ExtendsEach more cs ds → ExtendsEach more ds es → ExtendsEach more cs es
  each_twice_extends more no_component no_component es h k = k
  each_twice_extends false no_component (component t' o' s' ds) es h k = absurd h
  each_twice_extends true no_component (component t' o' s' ds) no_component h k = absurd k
  each_twice_extends true no_component (component t' o' s' ds) (component y i r es) h k = tt
  each_twice_extends more (component t o s cs) no_component es h k = absurd h
  each_twice_extends more (component t o s cs) (component t' o' s' ds) no_component h k = absurd k
  each_twice_extends more (component t o s cs) (component t' o' s' ds) (component y i r es) h k =
      (tags_twice t t' y h.0 k.0, keeps_twice s s' r o o' i h.2 k.2 h.1 k.1, extends_twice s s' r h.2 k.2, each_twice_extends more cs ds es h.3 k.3)

  alternatives_twice_extend : (more : Bool) (xs ys zs : Alternatives) → ExtendsAlternatives more xs ys → ExtendsAlternatives more ys zs → ExtendsAlternatives more xs zs
  alternatives_twice_extend more no_alternative no_alternative zs h k = k
  alternatives_twice_extend false no_alternative (alternative t' s' ys) zs h k = absurd h
  alternatives_twice_extend true no_alternative (alternative t' s' ys) no_alternative h k = absurd k
  alternatives_twice_extend true no_alternative (alternative t' s' ys) (alternative y r zs) h k = tt
  alternatives_twice_extend more (alternative t s xs) no_alternative zs h k = absurd h
  alternatives_twice_extend more (alternative t s xs) (alternative t' s' ys) no_alternative h k = absurd k
  alternatives_twice_extend more (alternative t s xs) (alternative t' s' ys) (alternative y r zs) h k = (h.0 ∙ k.0, extends_twice s s' r h.1 k.1, alternatives_twice_extend more xs ys zs h.2 k.2)
