-- The records of a value, of any type.
use Rattle.std.proofs.Common.{◌≡◌, ◌↔◌, ℕ, suc, Bool, true, false, IsTrue, List, [], ◌∷◌, length, Option, Some, None, refl, ap, sym, ◌∙◌, subst}
use Rattle.std.proofs.lemmas.List.{append-nil}
use Rattle.std.proofs.lemmas.Bool.{and_parts}
use Rattle.asn1_model.specs.Value.{Value, fields, Parts, end, absent, present, same}
use Rattle.asn1_model.specs.Schema.{Schema, cut, boolean, null, integer, enumerated, bit_string, octet_string}
use Rattle.asn1_model.specs.Schema.{character_string, object_identifier, sequence_of, set_of, sequence, set, group}
use Rattle.asn1_model.specs.Schema.{choice, Components, no_component, component, Alternatives, no_alternative}
use Rattle.asn1_model.specs.Schema.{alternative}
use Rattle.asn1_model.specs.Form.{Reads, given}
use Rattle.std.specs.Prelude.{is_some}
use Rattle.asn1_model.specs.Lawful.{is_lawful, are_lawful, are_lawful_alternatives}
use Rattle.asn1_model.specs.Normal.{presence_bits}
use Rattle.asn1_model.specs.Oer
use Rattle.asn1_model.specs.Rules.{oer, coer, lenient, strict_oer, IsEncoding}
use Rattle.asn1_laws_values.proofs.Listed.{EachAlternative}
use Rattle.asn1_schema_laws.specs.Records.{Record, additions_begin, mismatch}
use Rattle.asn1_schema_laws.specs.Presents.{presents, root_records, added_records, behind_root, optional_count, component_count}
use Rattle.asn1_schema_laws.specs.Chains.{Chain}
use Rattle.oer_codec_laws.specs.Takes.{State, components, Front, Found, Begins, Takes}
use Rattle.oer_codec_laws.specs.Laws.{Bridges, FindsIn}
use Rattle.asn1_schema_reading_laws.specs.Bags.{has_no_bag}
use Rattle.asn1_schema_reading_laws.proofs.Alike.{LikeParts, parts_self, both_same, like_fields}
use Rattle.oer_codec_laws.proofs.Fronts.{Finds, Shows, by_itself, Step, of_refused, given_out, none}
use Rattle.oer_codec_laws.proofs.Parts.{EachFinds, EachShows, booleans, nulls, integers, items, bit_strings, octet_strings, strings, identifiers, list_finds, list_shows, bag_finds, bag_shows}
use Rattle.oer_codec_laws.proofs.Sequences.{begun_in, plain_in, plain_out}
use Rattle.oer_codec_laws.proofs.Bitmaps.{additions_long, extended_in, extended_out}
use Rattle.oer_codec_laws.proofs.Choices.{choice_finds, choice_shows}

module _ (free : Oer.Freedom → Bool) (other : IsTrue (free Oer.other_bitmap)) where
  -- ---- SEQUENCE and SET
  -- records of components after a first one, and the form of a value of them
  abbrev Parted : Components → Bool → Components → Parts → Parts → State → State → Type 0
  Parted cs e adds ps qs m b = Chain (Step free) (root_records cs ps (behind_root e adds (added_records adds qs))) m b

  abbrev Fielded : Components → Bool → Components → Parts → Parts → Oer.OctetForm
  Fielded cs e adds ps qs = given (Oer.addition_forms adds qs) (Oer.sequence_form e (presence_bits cs ps) (Oer.component_forms cs ps))

  -- a value with more parts than its type
  no_more : (cs : Components) → EachFinds free cs → (ps : Parts) (a m b : State) → Begins free false (optional_count cs) a m → Chain (Step free) (root_records cs ps (mismatch ∷ [])) m b → ⊥
  no_more cs h ps a m b t c = let o = begun_in free false cs h ps (mismatch ∷ []) a m b t c in o.7.1

  -- additions without an extension marker
  no_additions : (cs : Components) → EachFinds free cs → (ps : Parts) (n : ℕ) (rs : List Record) (a m b : State) →
      Begins free false (optional_count cs) a m → Chain (Step free) (root_records cs ps (additions_begin n ∷ rs)) m b → ⊥
  no_additions cs h ps n rs a m b t c = let o = begun_in free false cs h ps (additions_begin n ∷ rs) a m b t c in without o.0 o.1 o.3 o.4 o.7
    where
      without : (x : Option Bool) (more : List Bool) (mid : List ℕ) → is_some x ≡ false → Chain (Step free) (additions_begin n ∷ rs) (mid, components x more ∷ a.1) b → ⊥
      without None more mid e c = c.1
      without (Some x) more mid e c = cc

  fields_in : (cs : Components) → EachFinds free cs → (e : Bool) (adds : Components) → EachFinds free adds → (ps qs : Parts) (a m b : State) →
      Begins free e (optional_count cs) a m → Parted cs e adds ps qs m b → Found free (Fielded cs e adds ps qs) a b
  unfolding Oer.sequence_form Oer.addition_forms added_records
  fields_in cs h true adds k ps qs a m b t c = extended_in free other adds k qs cs h ps a m b t c
  fields_in cs h false no_component k ps end a m b t c = plain_in free cs h ps a m b t c
  fields_in cs h false no_component k ps (absent qs) a m b t c = absurd (no_more cs h ps a m b t c)
  fields_in cs h false no_component k ps (present v qs) a m b t c = absurd (no_more cs h ps a m b t c)
  fields_in cs h false (component g o s adds) k ps qs a m b t c = absurd (no_additions cs h ps _ (added_records (component g o s adds) qs) a m b t c)

  abbrev FieldsOut : Components → Bool → Components → Parts → Parts → State → State → Type 0
  FieldsOut cs e adds ps qs a b = (rs : Parts) × (ss : Parts) × (m : State) × LikeParts cs ps rs × LikeParts adds qs ss × Begins free e (optional_count cs) a m × Parted cs e adds rs ss m b

  fields_out : (cs : Components) → EachShows free cs → (e : Bool) (adds : Components) → EachShows free adds → (ps qs : Parts) (a b : State) →
      Found free (Fielded cs e adds ps qs) a b → FieldsOut cs e adds ps qs a b
  unfolding Oer.sequence_form Oer.addition_forms added_records
  fields_out cs h true adds k ps qs a b f = let t = extended_out free other adds k qs cs h ps a b f in (t.2.0, t.0, t.2.1, t.2.2, t.1, t.2.3, t.2.4)
  fields_out cs h false no_component k ps end a b f = let t = plain_out free cs h ps a b f in (t.0, end, t.1, t.2, (parts_self end, λ n. refl), t.3, t.4)
  fields_out cs h false no_component k ps (absent qs) a b f = absurd (of_refused free a.0 b.0 f.0)
  fields_out cs h false no_component k ps (present v qs) a b f = absurd (of_refused free a.0 b.0 f.0)
  fields_out cs h false (component g o s adds) k ps qs a b f =
      let t = given_out free (Oer.addition_forms (component g o s adds) qs) (Oer.sequence_form false (presence_bits cs ps) (Oer.component_forms cs ps)) a.0 b.0 f.0 in
      absurd (refuses t.0 (additions_long free (component g o s adds) qs t.0 t.1) a.0 b.0 t.2)
    where
      refuses : (xs : List (Option Oer.OctetForm)) → length xs ≡ suc (component_count adds) → (os rest : List ℕ) →
          Front free (Oer.sequence_form false (presence_bits cs ps) (Oer.component_forms cs ps) xs) os rest → ⊥
      refuses [] e os rest f = cc
      refuses (x ∷ xs) e os rest f = of_refused free os rest f

  -- ---- every type
  module _ (order : IsTrue (free Oer.other_order)) where
    mutual
      unfolding presents Oer.form

      pub finds : (s : Schema) → Finds free s
      finds cut v a b c = (none free a b).0 c
      finds boolean v a b c = (booleans free v a b).0 c
      finds null v a b c = (nulls free v a b).0 c
      finds (integer z h) v a b c = (integers free z h v a b).0 c
      finds (enumerated roots e adds) v a b c = (items free roots e adds v a b).0 c
      finds (bit_string z h) v a b c = (bit_strings free z h v a b).0 c
      finds (octet_string z h) v a b c = (octet_strings free z h v a b).0 c
      finds (character_string k z l h) v a b c = (strings free k z l h v a b).0 c
      finds object_identifier v a b c = (identifiers free v a b).0 c
      finds (sequence_of z h s) v a b c = list_finds free z h s (finds s) v a b c
      finds (set_of z h s) v a b c = bag_finds free order z h s (finds s) v a b c
      finds (sequence cs e adds) (fields ps qs) a b c = fields_in cs (component_finds cs) e adds (component_finds adds) ps qs a c.0 b c.1 c.2
      finds (sequence cs e adds) v a b c = (none free a b).0 c
      finds (set cs e adds) (fields ps qs) a b c = fields_in cs (component_finds cs) e adds (component_finds adds) ps qs a c.0 b c.1 c.2
      finds (set cs e adds) v a b c = (none free a b).0 c
      finds (group cs) (fields ps end) a b c = plain_in free cs (component_finds cs) ps a c.0 b c.1 c.2
      finds (group cs) v a b c = (none free a b).0 c
      finds (choice roots e adds) v a b c = choice_finds free roots e adds (alternative_finds roots) (alternative_finds adds) v a b c

      component_finds : (cs : Components) → EachFinds free cs
      component_finds no_component = tt
      component_finds (component t o s cs) = (finds s, component_finds cs)

      alternative_finds : (others : Alternatives) → EachAlternative (λ s. Finds free s) others
      alternative_finds no_alternative = tt
      alternative_finds (alternative t s others) = (finds s, alternative_finds others)

  mutual
    unfolding presents Oer.form is_lawful are_lawful are_lawful_alternatives

    pub shows : (s : Schema) → is_lawful s ≡ true → Shows free s
    shows cut l v a b f = absurd (of_refused free a.0 b.0 f.0)
    shows boolean l v a b f = (by_itself free boolean (booleans free)).1 v a b f
    shows null l v a b f = (by_itself free null (nulls free)).1 v a b f
    shows (integer z h) l v a b f = (by_itself free (integer z h) (integers free z h)).1 v a b f
    shows (enumerated roots e adds) l v a b f = (by_itself free (enumerated roots e adds) (items free roots e adds)).1 v a b f
    shows (bit_string z h) l v a b f = (by_itself free (bit_string z h) (bit_strings free z h)).1 v a b f
    shows (octet_string z h) l v a b f = (by_itself free (octet_string z h) (octet_strings free z h)).1 v a b f
    shows (character_string k z g h) l v a b f = (by_itself free (character_string k z g h) (strings free k z g h)).1 v a b f
    shows object_identifier l v a b f = (by_itself free object_identifier (identifiers free)).1 v a b f
    shows (sequence_of z h s) l v a b f = list_shows free z h s (shows s ((and_parts _ _ l).1)) v a b f
    shows (set_of z h s) l v a b f = bag_shows free z h s (shows s ((and_parts _ _ l).1)) v a b f
    shows (sequence cs e adds) l (fields ps qs) a b f =
        let t = fields_out cs (component_shows cs ((and_parts _ _ ((and_parts _ _ l).0)).1)) e adds (component_shows adds ((and_parts _ _ l).1)) ps qs a b f in
        (fields t.0 t.1, like_fields cs adds ps qs t.0 t.1 t.3 t.4, (t.2, t.5, t.6))
    shows (sequence cs e adds) l v a b f = absurd (of_refused free a.0 b.0 f.0)
    shows (set cs e adds) l (fields ps qs) a b f =
        let t = fields_out cs (component_shows cs ((and_parts _ _ ((and_parts _ _ l).0)).1)) e adds (component_shows adds ((and_parts _ _ l).1)) ps qs a b f in
        (fields t.0 t.1, like_fields cs adds ps qs t.0 t.1 t.3 t.4, (t.2, t.5, t.6))
    shows (set cs e adds) l v a b f = absurd (of_refused free a.0 b.0 f.0)
    shows (group cs) l (fields ps end) a b f =
        let t = plain_out free cs (component_shows cs ((and_parts _ _ l).1)) ps a b f in
        (fields t.0 end, (both_same ps end t.0 end t.2.0 (parts_self end), λ n. ap (λ x. fields x end) (t.2.1 n)), (t.1, t.3, t.4))
    shows (group cs) l v a b f = absurd (of_refused free a.0 b.0 f.0)
    shows (choice roots e adds) l v a b f = choice_shows free roots e adds ((and_parts _ _ ((and_parts _ _ ((and_parts _ _ l).0)).0)).1)
        (alternative_shows roots ((and_parts _ _ ((and_parts _ _ l).0)).1)) (alternative_shows adds ((and_parts _ _ l).1)) v a b f

    component_shows : (cs : Components) → are_lawful cs ≡ true → EachShows free cs
    component_shows no_component l = tt
    component_shows (component t o s cs) l = (shows s ((and_parts _ _ ((and_parts _ _ l).0)).1), component_shows cs ((and_parts _ _ l).1))

    alternative_shows : (others : Alternatives) → are_lawful_alternatives others ≡ true → EachAlternative (λ s. Shows free s) others
    alternative_shows no_alternative l = tt
    alternative_shows (alternative t s others) l = (shows s ((and_parts _ _ ((and_parts _ _ l).0)).1), alternative_shows others ((and_parts _ _ l).1))

-- ---- the laws
pub records_read : (free : Oer.Freedom → Bool) (s : Schema) (v : Value) (a b : State) → IsTrue (free Oer.other_bitmap) →
    IsTrue (free Oer.other_order) → Chain (Takes free) (presents s v) a b → Found free (Oer.form s v) a b
records_read free s v a b other order c = finds free other order s v a b c

pub forms_show : (free : Oer.Freedom → Bool) (s : Schema) (v : Value) (a b : State) → IsTrue (free Oer.other_bitmap) → IsTrue (is_lawful s) →
    Found free (Oer.form s v) a b → (w : Value) × (same v w ≡ true) × Chain (Takes free) (presents s w) a b
forms_show free s v a b other l f = let t = shows free other s l v a b f in (t.0, t.1.0, t.2)

pub each_bridges : (free : Oer.Freedom → Bool) (s : Schema) (v : Value) → IsTrue (free Oer.other_bitmap) → IsTrue (free Oer.other_order) → IsTrue (is_lawful s) → has_no_bag s ≡ true → Bridges free s v
each_bridges free s v other order l n a b = (λ c. finds free other order s v a b c, back)
  where
    back : Found free (Oer.form s v) a b → Chain (Takes free) (presents s v) a b
    back f = let t = shows free other s l v a b f in subst (λ w. Chain (Takes free) (presents s w) a b) (t.1.1 n) t.2

whole_octets : (free : Oer.Freedom → Bool) (x : Oer.OctetForm) (w : List ℕ) → Front free x w [] ↔ Reads free x 0 w
whole_octets free x w = (λ f. subst (λ l. Reads free x 0 l) (sym (append-nil f.text) ∙ f.in_front) f.has_form, λ r. record { text = w; has_form = r; in_front = append-nil w })

pub finds_oer : FindsIn oer lenient
unfolding IsEncoding
finds_oer s v w h = (
  λ c. (h, (whole_octets lenient (Oer.form s v) w).0 (records_read lenient s v (w, []) ([], []) refl refl c).0),
  λ l r.
      forms_show lenient s v (w, []) ([], []) refl l ((whole_octets lenient (Oer.form s v) w).1 r.1, refl),
)

pub finds_coer : FindsIn coer strict_oer
unfolding IsEncoding
finds_coer s v w h = (
  λ c. (h, (whole_octets strict_oer (Oer.form s v) w).0 (records_read strict_oer s v (w, []) ([], []) refl refl c).0),
  λ l r.
      forms_show strict_oer s v (w, []) ([], []) refl l ((whole_octets strict_oer (Oer.form s v) w).1 r.1, refl),
)
