-- Among the records that answer the same question at most one is next.
use Rattle.std.proofs.Common.{◌≡◌, ℕ, ℤ, zero, suc, Bool, true, false, ◌&&◌, ◌||◌, List, [], ◌∷◌, ◌++◌, length, drop, Option, Some, None, refl, ap, sym, ◌∙◌, subst}
use Rattle.std.proofs.lemmas.List.{append_cancel_left}
use Rattle.std.proofs.lemmas.Bool.{and_parts, eqb-true}
use Rattle.asn1_model.specs.Numbers.{admits}
use Rattle.asn1_model.specs.Value.{truth, nothing, number, item, bit_list, octet_list, text, arcs}
use Rattle.asn1_model.specs.Schema.{Tag, Counts, Size, StringKind, Alphabet, Bounds, Range, null, integer, enumerated, bit_string, octet_string, character_string, object_identifier}
use Rattle.asn1_model.specs.Lawful.{tag_same}
use Rattle.std.specs.Prelude.{is_some}
use Rattle.asn1_model.specs.Strings.{may_hold, identifier_octets, is_identifier}
use Rattle.asn1_model.specs.Normal.{item_index}
use Rattle.asn1_model.specs.Oer
use Rattle.asn1_schema_laws.specs.Records.{Record, flag, nil, whole, one_of, bits, octets, characters, identifier}
use Rattle.asn1_schema_laws.specs.Records.{list_begins, bag_begins, further, sequence_begins, set_begins, group_begins}
use Rattle.asn1_schema_laws.specs.Records.{presence_bit, is_default, is_empty, additions_begin, addition, addition_ends}
use Rattle.asn1_schema_laws.specs.Records.{choice_begins, ends, mismatch, question, told}
use Rattle.asn1_laws_fronts.proofs.Fronts.{agree_map, agree_if, agree_nothing}
use Rattle.asn1_laws_fronts.proofs.OerNumbers.{OctetsAlike, integer_alike, counted_alike, unsigned_alike}
use Rattle.asn1_laws_fronts.proofs.OerBits.{preamble_alike, counted_bits_alike}
use Rattle.asn1_laws_fronts.proofs.Truths.{truths_alike}
use Rattle.asn1_laws_fronts.proofs.Sevens.{identifiers_equal}
use Rattle.asn1_laws_fronts.proofs.Additions as adding
use Rattle.asn1_laws_fronts.proofs.OctetUnits.{items_alike, bit_strings_alike, octets_alike, one_length, characters_equal, characters_long}
use Rattle.asn1_laws_fronts.proofs.Tags.{tags_alike}
use Rattle.oer_codec_laws.specs.Takes.{Scope, components, added, open_type, members, alternative, State, Front, Found}
use Rattle.oer_codec_laws.specs.Takes.{ListBegins, NextMember, Begins, NextPresenceBit, AdditionsBegin, Opens}
use Rattle.oer_codec_laws.specs.Takes.{NextAddition, AdditionEnds, Skips, IsPlace, Enters, Chooses, Ends, Takes}
use Rattle.asn1_schema_reading_laws.specs.PresenceBits.{preamble_bits, first_bits}

pub state_same : (b c : State) → b.0 ≡ c.0 → b.1 ≡ c.1 → b ≡ c
state_same b c e f =
    let p : (b.0, b.1) ≡ (c.0, b.1) = ap (λ x. (x, b.1)) e in
    let q : (c.0, b.1) ≡ (c.0, c.1) = ap (λ y. (c.0, y)) f in
    p ∙ q

pub same_tag : (t u : Tag) → tag_same t u ≡ true → t ≡ u
same_tag t u e =
    let p = and_parts _ _ e in
    let c : t.class ≡ u.class = eqb-true _ _ p.0 in
    let n : t.number ≡ u.number = eqb-true _ _ p.1 in
    let q : record { class = t.class; number = t.number } ≡ record { class = u.class; number = t.number } = ap (λ x. record { class = x; number = t.number }) c in
    q ∙ ap (λ x. record { class = u.class; number = x }) n

module _ (free : Oer.Freedom → Bool) where
  -- prefixes of forms that agree
  pub same_fronts : {x y : Oer.OctetForm} {P : Type 0} → OctetsAlike free x y P → (os r s : List ℕ) → Front free x os r → Front free y os s → P × (r ≡ s)
  same_fronts h os r s f g =
      let q = h.fronts 0 f.text g.text r s f.has_form g.has_form (f.in_front ∙ sym g.in_front) in
      (q.1, append_cancel_left f.text r s (f.in_front ∙ sym g.in_front ∙ ap (λ l. l ++ s) (sym q.0)))

  same_found : {x y : Oer.OctetForm} {P : Type 0} → OctetsAlike free x y P → (a b c : State) → Found free x a b → Found free y a c → P × (b ≡ c)
  same_found h a b c f g = let q = same_fronts h a.0 b.0 c.0 f.0 g.0 in (q.0, state_same b c q.1 (f.1 ∙ sym g.1))

  -- ---- scalars
  truth_told : (v w : Bool) → truth v ≡ truth w → flag v ≡ flag w
  truth_told true true e = refl
  truth_told true false e = cc
  truth_told false true e = cc
  truth_told false false e = refl

  items : (roots : List ℤ) (e : Bool) (adds : List ℤ) (v w : ℤ) → OctetsAlike free (Oer.form (enumerated roots e adds) (item v)) (Oer.form (enumerated roots e adds) (item w)) (v ≡ w)
  unfolding Oer.form
  items roots e adds v w = agree_if free (is_some (item_index v roots) || (e && is_some (item_index v adds)))
      (is_some (item_index w roots) || (e && is_some (item_index w adds))) _ _ (λ i j. items_alike free v w)

  integers : (z : Bounds) (h : Range) (v w : ℤ) → OctetsAlike free (Oer.form (integer z h) (number v)) (Oer.form (integer z h) (number w)) (v ≡ w)
  unfolding Oer.form
  integers z h v w = integer_alike free z h v w

  bit_strings : (z : Size) (h : Counts) (v w : List Bool) → OctetsAlike free (Oer.form (bit_string z h) (bit_list v)) (Oer.form (bit_string z h) (bit_list w)) (v ≡ w)
  unfolding Oer.form
  bit_strings z h v w = agree_if free (admits z h (length v)) (admits z h (length w)) _ _ (λ i j. bit_strings_alike free (Oer.is_fixed z) v w (λ f. one_length z h (length v) (length w) f i j))

  octet_strings : (z : Size) (h : Counts) (v w : List ℕ) → OctetsAlike free (Oer.form (octet_string z h) (octet_list v)) (Oer.form (octet_string z h) (octet_list w)) (v ≡ w)
  unfolding Oer.form
  octet_strings z h v w = agree_if free (admits z h (length v)) (admits z h (length w)) _ _ (λ i j. octets_alike free (Oer.is_fixed z) v w (λ f. one_length z h (length v) (length w) f i j))

  strings : (k : StringKind) (z : Size) (l : Alphabet) (h : Counts) (v w : List ℕ) →
      OctetsAlike free (Oer.form (character_string k z l h) (text v)) (Oer.form (character_string k z l h) (text w)) (v ≡ w)
  unfolding Oer.form
  strings k z l h v w = agree_if free (admits z h (length v) && may_hold k v) (admits z h (length w) && may_hold k w) _ _ (λ i j.
      let i' = and_parts _ _ i in
      let j' = and_parts _ _ j in
      agree_map free (λ e. characters_equal k v w i'.1 j'.1 e) (octets_alike free (Oer.is_fixed z) (Oer.string_octets k v) (Oer.string_octets k w)
      (λ f. characters_long k v w (one_length z h (length v) (length w) f i'.0 j'.0))))

  identifiers : (v w : List ℕ) → OctetsAlike free (Oer.form object_identifier (arcs v)) (Oer.form object_identifier (arcs w)) (v ≡ w)
  unfolding Oer.form
  identifiers v w = agree_if free (is_identifier v) (is_identifier w) _ _ (λ i j. agree_map free (λ e. identifiers_equal v w i j e) (counted_alike free (identifier_octets v) (identifier_octets w)))

  nulls : OctetsAlike free (Oer.form null nothing) (Oer.form null nothing) (Unit {0})
  unfolding Oer.form
  nulls = agree_nothing free

  -- ---- lists and components
  same_count : (h : Counts) (n m : ℕ) (a b c : State) → ListBegins free h n a b → ListBegins free h m a c → b ≡ c
  same_count h n m a b c f g =
      let q = same_fronts (unsigned_alike free f.0 g.0) a.0 b.0 c.0 f.3 g.3 in
      state_same b c q.1 (f.4 ∙ ap (λ i. members i ∷ a.1) q.0 ∙ sym g.4)

  same_member : (v w : Bool) (os : List ℕ) (k : List Scope) (b c : State) → NextMember v os k b → NextMember w os k c → (v ≡ w) × (b ≡ c)
  same_member v w os (members zero ∷ k) b c f g = (f.0 ∙ sym g.0, f.1 ∙ sym g.1)
  same_member v w os (members (suc n) ∷ k) b c f g = (f.0 ∙ sym g.0, f.1 ∙ sym g.1)
  same_member v w os k b c f g = absurd f

  same_preamble : (x y : Option Bool) (ms ns : List Bool) → is_some x ≡ is_some y → length ms ≡ length ns →
      (length (preamble_bits x ms) ≡ length (preamble_bits y ns)) × (preamble_bits x ms ≡ preamble_bits y ns → (x ≡ y) × (ms ≡ ns))
  same_preamble None None ms ns e l = (l, λ f. (refl, f))
  same_preamble None (Some y) ms ns e l = cc
  same_preamble (Some x) None ms ns e l = cc
  same_preamble (Some x) (Some y) ms ns e l = (ap suc l, λ f. (cc f, cc f))

  same_begin : (e : Bool) (n : ℕ) (a b c : State) → Begins free e n a b → Begins free e n a c → b ≡ c
  same_begin e n a b c f g =
      let s = same_preamble f.0 g.0 f.1 g.1 (f.2 ∙ sym g.2) (f.3 ∙ sym g.3) in
      let q = same_fronts (preamble_alike free (preamble_bits f.0 f.1) (preamble_bits g.0 g.1) s.0) a.0 b.0 c.0 f.4 g.4 in
      let t = s.1 q.0 in
      state_same b c q.1 (f.5 ∙ ap (λ x. components x f.1 ∷ a.1) t.0 ∙ ap (λ ms. components g.0 ms ∷ a.1) t.1 ∙ sym g.5)

  same_presence_bit : (v w : Bool) (os : List ℕ) (k : List Scope) (b c : State) → NextPresenceBit v os k b → NextPresenceBit w os k c → (v ≡ w) × (b ≡ c)
  same_presence_bit v w os (components x (m ∷ ms) ∷ k) b c f g = (f.0 ∙ sym g.0, f.1 ∙ sym g.1)
  same_presence_bit v w os k b c f g = absurd f

  -- ---- additions
  same_additions : (n : ℕ) (os : List ℕ) (k : List Scope) (b c : State) → AdditionsBegin free n os k b → AdditionsBegin free n os k c → b ≡ c
  same_additions n os (components (Some false) [] ∷ k) b c f g = f ∙ sym g
  same_additions n os (components (Some true) [] ∷ k) b c f g =
      let q = same_fronts (counted_bits_alike free f.0 g.0) os b.0 c.0 f.2 g.2 in
      state_same b c q.1 (f.3 ∙ ap (λ bs. added (first_bits n bs) (drop n bs) ∷ k) q.0 ∙ sym g.3)
  same_additions n os k b c f g = absurd f

  same_open : (os : List ℕ) (k : List Scope) (b c : State) → Opens free os k b → Opens free os k c → b ≡ c
  same_open os k b c f g =
      let q = same_fronts (counted_alike free b.0 c.0) os f.0 g.0 f.1 g.1 in
      state_same b c q.0 (f.2 ∙ ap (λ r. open_type r ∷ k) q.1 ∙ sym g.2)

  same_addition : (v w : Bool) (os : List ℕ) (k : List Scope) (b c : State) → NextAddition free v os k b → NextAddition free w os k c → (v ≡ w) × (b ≡ c)
  same_addition v w os (added (false ∷ ms) us ∷ k) b c f g = (f.0 ∙ sym g.0, f.1 ∙ sym g.1)
  same_addition v w os (added (true ∷ ms) us ∷ k) b c f g = (f.0 ∙ sym g.0, same_open os (added ms us ∷ k) b c f.1 g.1)
  same_addition v w os k b c f g = absurd f

  same_addition_end : (os : List ℕ) (k : List Scope) (b c : State) → AdditionEnds free os k b → AdditionEnds free os k c → b ≡ c
  same_addition_end os (open_type r ∷ added ms us ∷ k) b c f g = f.1 ∙ sym g.1
  same_addition_end os k b c f g = absurd f

  same_skips : (us : List Bool) (os r s : List ℕ) → Skips free us os r → Skips free us os s → r ≡ s
  same_skips us os r s f g = (same_fronts (adding.unknowns_alike Oer.Freedom Oer.Detail ℕ free (λ l. Oer.counted l) (λ l m. counted_alike free l m) f.0 g.0 (f.1 ∙ sym g.1)) os r s f.2 g.2).1

  -- ---- choices
  same_place : (roots : List Tag) (e : Bool) (others : List Tag) (t : Tag) (v w : Bool) (i j : ℕ) → IsPlace roots e others t v i → IsPlace roots e others t w j → (v ≡ w) × (i ≡ j)
  same_place roots e others t false false i j f g = (refl, cc)
  same_place roots e others t false true i j f g = let q = g.1 in cc
  same_place roots e others t true false i j f g = let q = f.1 in cc
  same_place roots e others t true true i j f g = let p = f.2 in let q = g.2 in (refl, cc)

  same_entry : (v : Bool) (os : List ℕ) (k : List Scope) (b c : State) → Enters free v os k b → Enters free v os k c → b ≡ c
  same_entry false os k b c f g = f ∙ sym g
  same_entry true os k b c f g = same_open os k b c f g

  same_choice : (roots : List Tag) (e : Bool) (others : List Tag) (v w : Bool) (i j : ℕ) (a b c : State) → Chooses free roots e others v i a b →
      Chooses free roots e others w j a c → (v ≡ w) × (i ≡ j) × (b ≡ c)
  same_choice roots e others v w i j a b c f g =
      let q = same_fronts (tags_alike free f.0 g.0) a.0 f.1 g.1 f.3 g.3 in
      let p = same_place roots e others g.0 v w i j (subst (λ t. IsPlace roots e others t v i) (same_tag f.0 g.0 q.0) f.2) g.2 in
      (p.0, p.1, same_entry w g.1 a.1 b c (subst (λ x. Enters free w x a.1 b) q.1 (subst (λ x. Enters free x f.1 a.1 b) p.0 f.4)) g.4)

  -- ---- the end
  same_end : (os : List ℕ) (k : List Scope) (b c : State) → Ends free os k b → Ends free os k c → b ≡ c
  same_end os (components None [] ∷ k) b c f g = f ∙ sym g
  same_end os (added [] us ∷ k) b c f g = state_same b c (same_skips us os b.0 c.0 f.0 g.0) (f.1 ∙ sym g.1)
  same_end os (open_type r ∷ k) b c f g = f.1 ∙ sym g.1
  same_end os (members zero ∷ k) b c f g = f ∙ sym g
  same_end os (alternative ∷ k) b c f g = f ∙ sym g
  same_end os k b c f g = absurd f

  -- ---- each record
  as_record : (a : State) (r s : Record) (c : State) → r ≡ s → Takes free a r c → Takes free a s c
  as_record a r s c e t = subst (λ x. Takes free a x c) e t

  pub one_taken : (a : State) (r s : Record) (b c : State) → question r ≡ question s → Takes free a r b → Takes free a s c → (told r ≡ told s) × (b ≡ c)
  one_taken a (flag v) (flag w) b c q f g = let t = same_found (truths_alike free v w) a b c f g in (truth_told v w t.0, t.1)
  one_taken a nil nil b c q f g = (refl, (same_found nulls a b c f g).1)
  one_taken a (whole z h v) (whole y i w) b c q f g =
      let e : whole y i w ≡ whole z h w = cc q in
      let t = same_found (integers z h v w) a b c f (as_record a (whole y i w) (whole z h w) c e g) in
      (ap (whole z h) t.0 ∙ sym e, t.1)
  one_taken a (one_of rs x ns v) (one_of ss y ms w) b c q f g =
      let e : one_of ss y ms w ≡ one_of rs x ns w = cc q in
      let t = same_found (items rs x ns v w) a b c f (as_record a (one_of ss y ms w) (one_of rs x ns w) c e g) in
      (ap (one_of rs x ns) t.0 ∙ sym e, t.1)
  one_taken a (bits z h v) (bits y i w) b c q f g =
      let e : bits y i w ≡ bits z h w = cc q in
      let t = same_found (bit_strings z h v w) a b c f (as_record a (bits y i w) (bits z h w) c e g) in
      (ap (bits z h) t.0 ∙ sym e, t.1)
  one_taken a (octets z h v) (octets y i w) b c q f g =
      let e : octets y i w ≡ octets z h w = cc q in
      let t = same_found (octet_strings z h v w) a b c f (as_record a (octets y i w) (octets z h w) c e g) in
      (ap (octets z h) t.0 ∙ sym e, t.1)
  one_taken a (characters k z l h v) (characters j y m i w) b c q f g =
      let e : characters j y m i w ≡ characters k z l h w = cc q in
      let t = same_found (strings k z l h v w) a b c f (as_record a (characters j y m i w) (characters k z l h w) c e g) in
      (ap (characters k z l h) t.0 ∙ sym e, t.1)
  one_taken a (identifier v) (identifier w) b c q f g = let t = same_found (identifiers v w) a b c f g in (ap identifier t.0, t.1)
  one_taken a (list_begins z h n) (list_begins y i m) b c q f g =
      let e : list_begins y i m ≡ list_begins z h m = cc q in
      (sym (ap told e), same_count h n m a b c f (as_record a (list_begins y i m) (list_begins z h m) c e g))
  one_taken a (bag_begins z h n) (bag_begins y i m) b c q f g =
      let e : bag_begins y i m ≡ bag_begins z h m = cc q in
      (sym (ap told e), same_count h n m a b c f (as_record a (bag_begins y i m) (bag_begins z h m) c e g))
  one_taken a (further v) (further w) b c q f g = let t = same_member v w a.0 a.1 b c f g in (ap further t.0, t.1)
  one_taken a (sequence_begins x n) (sequence_begins y m) b c q f g =
      let e : sequence_begins y m ≡ sequence_begins x n = cc q in
      (sym e, same_begin x n a b c f (as_record a (sequence_begins y m) (sequence_begins x n) c e g))
  one_taken a (set_begins x n) (set_begins y m) b c q f g =
      let e : set_begins y m ≡ set_begins x n = cc q in
      (sym e, same_begin x n a b c f (as_record a (set_begins y m) (set_begins x n) c e g))
  one_taken a (group_begins n) (group_begins m) b c q f g =
      let e : group_begins m ≡ group_begins n = cc q in
      (sym e, same_begin false n a b c f (as_record a (group_begins m) (group_begins n) c e g))
  one_taken a (presence_bit v) (presence_bit w) b c q f g = let t = same_presence_bit v w a.0 a.1 b c f g in (ap presence_bit t.0, t.1)
  one_taken a is_default is_default b c q f g = (refl, f.1 ∙ sym g.1)
  one_taken a is_empty is_empty b c q f g = (refl, f.1 ∙ sym g.1)
  one_taken a (additions_begin n) (additions_begin m) b c q f g =
      let e : additions_begin m ≡ additions_begin n = cc q in
      (sym e, same_additions n a.0 a.1 b c f (as_record a (additions_begin m) (additions_begin n) c e g))
  one_taken a (addition v) (addition w) b c q f g = let t = same_addition v w a.0 a.1 b c f g in (ap addition t.0, t.1)
  one_taken a addition_ends addition_ends b c q f g = (refl, same_addition_end a.0 a.1 b c f g)
  one_taken a (choice_begins rs x ns v i) (choice_begins ss y ms w j) b c q f g =
      let e : choice_begins ss y ms w j ≡ choice_begins rs x ns w j = cc q in
      let t = same_choice rs x ns v w i j a b c f (as_record a (choice_begins ss y ms w j) (choice_begins rs x ns w j) c e g) in
      (ap (λ u. choice_begins rs x ns u i) t.0 ∙ ap (choice_begins rs x ns w) t.1 ∙ sym e, t.2)
  one_taken a ends ends b c q f g = (refl, same_end a.0 a.1 b c f g)
  one_taken a mismatch s b c q f g = absurd f
  one_taken a r s b c q f g = cc
