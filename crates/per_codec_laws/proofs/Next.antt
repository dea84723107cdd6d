-- Among the records that answer the same question at most one is next.
use Rattle.std.proofs.Common.{◌≡◌, inl, inr, ◌≤◌, ℕ, ℤ, zero, suc, ◌+◌, ◌-◌, ◌*◌, not, ltb, Bool, true, false, cond}
use Rattle.std.proofs.Common.{List, [], ◌∷◌, ◌++◌, length, map, drop, Option, Some, None, refl, ap, sym, ◌∙◌, subst}
use Rattle.std.proofs.Common.{arith}
use Rattle.std.proofs.lemmas.List.{append_cancel_left}
use Rattle.std.proofs.lemmas.Bool.{and_parts, leb-true}
use Rattle.asn1_model.specs.Value.{truth, nothing, number, item, bit_list, octet_list, text, arcs}
use Rattle.asn1_model.specs.Schema.{Counts, Size, StringKind, Alphabet, Bounds, Range, boolean, null, integer, enumerated, bit_string, octet_string, character_string, object_identifier}
use Rattle.asn1_model.specs.Numbers.{binary, octet_bits}
use Rattle.asn1_model.specs.Form.{exactly, both, only_if}
use Rattle.std.specs.Prelude.{is_some}
use Rattle.asn1_model.specs.Strings.{is_octet, is_identifier, identifier_octets}
use Rattle.std.specs.List.{list_all}
use Rattle.asn1_model.specs.Per
use Rattle.asn1_schema_laws.specs.Records.{Record, flag, nil, whole, one_of, bits, octets, characters, identifier}
use Rattle.asn1_schema_laws.specs.Records.{list_begins, bag_begins, further, sequence_begins, set_begins, group_begins}
use Rattle.asn1_schema_laws.specs.Records.{presence_bit, is_default, is_empty, additions_begin, addition, addition_ends}
use Rattle.asn1_schema_laws.specs.Records.{choice_begins, ends, mismatch, question, told}
use Rattle.asn1_laws_fronts.proofs.Fronts.{agree_exactly, agree_nothing, agree_first, agree_map, agree_if, agree_if_right, agree_varied_right}
use Rattle.asn1_laws_fronts.proofs.PerNumbers.{Alike, pairs_equal, at_octet_alike, binary_alike, bits_apart}
use Rattle.asn1_laws_fronts.proofs.PerNumbers.{short_length_alike, counted_octets_alike, constrained_alike}
use Rattle.asn1_laws_fronts.proofs.PerNumbers.{integer_alike, same_bits, octets_again}
use Rattle.asn1_laws_fronts.proofs.Sevens.{identifiers_equal}
use Rattle.asn1_laws_fronts.proofs.Additions as adding
use Rattle.asn1_laws_fronts.proofs.Units.{sized_alike, small_alike, bitmap_alike, items_alike, behind_extension_bit, added_or_root}
use Rattle.asn1_laws_fronts.proofs.Strings.{string_alike}
use Rattle.asn1_schema_reading_laws.specs.PresenceBits.{preamble_bits, first_bits}
use Rattle.per_codec_laws.specs.Sizes.{extension_bit, told_highest}
use Rattle.per_codec_laws.specs.Takes.{Position, Tally, Scope, components, added, open_type, members, alternative}
use Rattle.per_codec_laws.specs.Takes.{State, Front, Found, with_fragment, NextDeterminant, Headed, Numbered, Counted}
use Rattle.per_codec_laws.specs.Takes.{ListBegins, MemberDue, NextMember, Begins, NextPresenceBit, AdditionsBegin}
use Rattle.per_codec_laws.specs.Takes.{Opens, NextAddition, AdditionEnds, Skips, Chooses, Ends, Takes}

pub place_same : (b c : Position) → b.0 ≡ c.0 → b.1 ≡ c.1 → b ≡ c
place_same b c e f =
    let p : (b.0, b.1) ≡ (c.0, b.1) = ap (λ x. (x, b.1)) e in
    let q : (c.0, b.1) ≡ (c.0, c.1) = ap (λ y. (c.0, y)) f in
    p ∙ q

pub state_same : (b c : State) → b.0 ≡ c.0 → b.1 ≡ c.1 → b ≡ c
state_same b c e f =
    let p : (b.0, b.1) ≡ (c.0, b.1) = ap (λ x. (x, b.1)) e in
    let q : (c.0, b.1) ≡ (c.0, c.1) = ap (λ y. (c.0, y)) f in
    p ∙ q

-- ---- bits of a bitmap as presence of forms
abbrev flagged : Bool → Option Per.BitForm
flagged b = cond b (Some (exactly [])) None

flag_bit : (b : Bool) → is_some (flagged b) ≡ b
flag_bit true = refl
flag_bit false = refl

flags_back : (bs : List Bool) → map (λ a. is_some a) (map (λ b. flagged b) bs) ≡ bs
flags_back [] = refl
flags_back (b ∷ bs) = ap (λ t. t ∷ map (λ a. is_some a) (map (λ b. flagged b) bs)) (flag_bit b) ∙ ap (λ l. b ∷ l) (flags_back bs)

-- presence bits as units
pub flag_units : (xs : List (Option Per.BitForm)) → map Per.flag xs ≡ Per.bit_units (map (λ a. is_some a) xs)
flag_units [] = refl
flag_units (x ∷ xs) = ap (λ l. Per.flag x ∷ l) (flag_units xs)

units_of : (bs : List Bool) → map Per.flag (map (λ b. flagged b) bs) ≡ Per.bit_units bs
units_of bs = flag_units (map (λ b. flagged b) bs) ∙ ap (λ l. Per.bit_units l) (flags_back bs)

module _ (free : Per.Freedom → Bool) where
  -- prefixes of forms that agree
  pub same_fronts : {x y : Per.BitForm} {P : Type 0} → Alike free x y P → (a b c : Position) → Front free x a b → Front free y a c → P × (b ≡ c)
  same_fronts h a b c f g =
      let q = h.fronts a.0 f.text g.text b.1 c.1 f.has_form g.has_form (f.in_front ∙ sym g.in_front) in
      let l : length f.text ≡ length g.text = ap length q.0 in
      let e : b.0 ≡ c.0 = sym f.moved ∙ ap (λ n. a.0 + n) l ∙ g.moved in
      (q.1, place_same b c e (append_cancel_left f.text b.1 c.1 (f.in_front ∙ sym g.in_front ∙ ap (λ l. l ++ c.1) (sym q.0))))

  same_found : {x y : Per.BitForm} {P : Type 0} → Alike free x y P → (a b c : State) → Found free x a b → Found free y a c → P × (b ≡ c)
  same_found h a b c f g = let q = same_fronts h a.0 b.0 c.0 f.0 g.0 in (q.0, state_same b c q.1 (f.1 ∙ sym g.1))

  -- ---- scalars
  booleans : (al v w : Bool) → Alike free (Per.form al boolean (truth v)) (Per.form al boolean (truth w)) (v ≡ w)
  unfolding Per.form
  booleans al v w = agree_first free (λ e. agree_map free (λ u. e) (agree_nothing free))

  nulls : (al : Bool) → Alike free (Per.form al null nothing) (Per.form al null nothing) (Unit {0})
  unfolding Per.form
  nulls al = agree_nothing free

  integers : (al : Bool) (z : Bounds) (h : Range) (v w : ℤ) → Alike free (Per.form al (integer z h) (number v)) (Per.form al (integer z h) (number w)) (v ≡ w)
  unfolding Per.form
  integers al z h v w = integer_alike free al z h v w

  items : (al : Bool) (roots : List ℤ) (e : Bool) (adds : List ℤ) (v w : ℤ) → Alike free (Per.form al (enumerated roots e adds) (item v)) (Per.form al (enumerated roots e adds) (item w)) (v ≡ w)
  unfolding Per.form
  items al roots e adds v w = items_alike free al roots adds e v w

  bit_strings : (al : Bool) (z : Size) (h : Counts) (v w : List Bool) → Alike free (Per.form al (bit_string z h) (bit_list v)) (Per.form al (bit_string z h) (bit_list w)) (v ≡ w)
  unfolding Per.form
  bit_strings al z h v w = agree_map free (λ q. pairs_equal v w q)
      (sized_alike free Bool (λ a b. a ≡ b) (λ b. exactly (b ∷ [])) (λ a b. agree_first free (λ e. agree_map free (λ u. e) (agree_nothing free))) al z
      h (Per.string_has_padding 1 (length v)) (Per.string_has_padding 1 (length w)) v w (λ l. ap (λ n. Per.string_has_padding 1 n z.counts) l))

  octet_strings : (al : Bool) (z : Size) (h : Counts) (v w : List ℕ) → Alike free (Per.form al (octet_string z h) (octet_list v)) (Per.form al (octet_string z h) (octet_list w)) (v ≡ w)
  unfolding Per.form
  octet_strings al z h v w = agree_if free (list_all is_octet v) (list_all is_octet w) _ _ (λ i j.
      agree_map free (λ q. octets_again v w i j q) (sized_alike free ℕ same_bits (λ o. exactly (binary 8 o)) (λ o p. agree_exactly free _ _ refl) al z
      h (Per.string_has_padding 8 (length v)) (Per.string_has_padding 8 (length w)) v w (λ l. ap (λ n. Per.string_has_padding 8 n z.counts) l)))

  strings : (al : Bool) (k : StringKind) (z : Size) (l : Alphabet) (h : Counts) (v w : List ℕ) →
      Alike free (Per.form al (character_string k z l h) (text v)) (Per.form al (character_string k z l h) (text w)) (v ≡ w)
  unfolding Per.form
  strings al k z l h v w = string_alike free al k z l h v w

  identifiers : (al : Bool) (v w : List ℕ) → Alike free (Per.form al object_identifier (arcs v)) (Per.form al object_identifier (arcs w)) (v ≡ w)
  unfolding Per.form
  identifiers al v w = agree_if free (is_identifier v) (is_identifier w) _ _
      (λ i j. agree_map free (λ e. identifiers_equal v w i j e) (counted_octets_alike free al (identifier_octets v) (identifier_octets w)))

  -- ---- length determinants
  apart_from_last : (m n : ℕ) (b : Bool) → Alike free (exactly (true ∷ true ∷ binary 6 m))
      (cond b (only_if (ltb n 16384) (exactly (true ∷ false ∷ binary 14 n))) (only_if (ltb n 128) (exactly (false ∷ binary 7 n)))) ⊥
  apart_from_last m n true = agree_if_right free (ltb n 16384) {x = exactly (true ∷ true ∷ binary 6 m)} {y = exactly (true ∷ false ∷ binary 14 n)} (λ h. agree_first free (λ e. bits_apart free))
  apart_from_last m n false = agree_if_right free (ltb n 128) {x = exactly (true ∷ true ∷ binary 6 m)} {y = exactly (false ∷ binary 7 n)} (λ h. bits_apart free)

  fragment_or_last : (al : Bool) (m n : ℕ) → Alike free (Per.at_octet al (exactly (true ∷ true ∷ binary 6 m))) (Per.short_length al n) ⊥
  unfolding Per.short_length
  fragment_or_last al m n = at_octet_alike free al (agree_varied_right free (λ b. apart_from_last m n b))

  fragments_alike : (al : Bool) (m n : ℕ) → m ≤ 4 → n ≤ 4 → Alike free (Per.at_octet al (exactly (true ∷ true ∷ binary 6 m))) (Per.at_octet al (exactly (true ∷ true ∷ binary 6 n))) (m ≡ n)
  fragments_alike al m n h k = at_octet_alike free al (agree_first free (λ e. agree_first free (λ f. binary_alike free 6 m n (omega arith) (omega arith))))

  same_determinant : (al : Bool) (t : Tally) (a b c : Position) (n m : ℕ) (f g : Option Tally) → NextDeterminant al free t a b n f → NextDeterminant al free t a c m g → (b ≡ c) × (n ≡ m) × (f ≡ g)
  same_determinant al t a b c n m f g (inl x) (inl y) =
      let h = and_parts _ _ x.1 in
      let k = and_parts _ _ y.1 in
      let q = same_fronts (fragments_alike al x.0 y.0 (leb-true _ _ h.1) (leb-true _ _ k.1)) a b c x.3 y.3 in
      (q.1, x.4 ∙ ap (λ i. i * 16384) q.0 ∙ sym y.4, x.5 ∙ ap (λ i. Some (with_fragment i t)) q.0 ∙ sym y.5)
  same_determinant al t a b c n m f g (inl x) (inr y) = absurd ((same_fronts (fragment_or_last al x.0 m) a b c x.3 y.1).0)
  same_determinant al t a b c n m f g (inr x) (inl y) = absurd ((same_fronts (fragment_or_last al y.0 n) a c b y.3 x.1).0)
  same_determinant al t a b c n m f g (inr x) (inr y) =
      let q = same_fronts (short_length_alike free al n m) a b c x.1 y.1 in
      (q.1, q.0, x.2 ∙ sym y.2)

  -- ---- lists
  same_headed : (al : Bool) (z : Size) (h : Counts) (out : Bool) (a : Position) (k : List Scope) (b c : State) → Headed al free z h out a k b → Headed al free z h out a k c → b ≡ c
  same_headed al z h out a k b c f g =
      let q = same_determinant al (record { size = z; held = h; outside = out; counted = 0; last = 4 }) a b.0 c.0 f.0 g.0 f.1 g.1 f.2 g.2 in
      state_same b c q.0 (f.3 ∙ ap (λ n. members n f.1 ∷ k) q.1 ∙ ap (λ t. members g.0 t ∷ k) q.2 ∙ sym g.3)

  same_numbered : (al : Bool) (z : Size) (h : Counts) (high : ℕ) (a : Position) (k : List Scope) (b c : State) → Numbered al free z h high a k b → Numbered al free z h high a k c → b ≡ c
  same_numbered al z h high a k b c f g =
      let q = same_fronts (constrained_alike free al (high - z.counts.low) (f.0 - z.counts.low) (g.0 - z.counts.low)) a b.0 c.0 f.2 g.2 in
      let i : z.counts.low ≤ f.0 = leb-true _ _ ((and_parts _ _ f.1.1).0) in
      let j : z.counts.low ≤ g.0 = leb-true _ _ ((and_parts _ _ g.1.1).0) in
      let d : f.0 - z.counts.low ≡ g.0 - z.counts.low = q.0 in
      let e : f.0 ≡ g.0 = omega arith in
      state_same b c q.1 (f.3 ∙ ap (λ n. members n None ∷ k) e ∙ sym g.3)

  same_counted : (al : Bool) (z : Size) (h : Counts) (out : Bool) (told : Option ℕ) (a : Position) (k : List Scope) (b c : State) →
      Counted al free z h out told a k b → Counted al free z h out told a k c → b ≡ c
  same_counted al z h out None a k b c f g = same_headed al z h out a k b c f g
  same_counted al z h out (Some high) a k b c f g = same_numbered al z h high a k b c f g

  pub same_extension_bit : (e o u : Bool) (a b c : Position) → Front free (extension_bit e o) a b → Front free (extension_bit e u) a c → (o ≡ u) × (b ≡ c)
  same_extension_bit true o u a b c f g = same_fronts (agree_first free (λ e. agree_map free (λ q. e) (agree_nothing free))) a b c f g
  same_extension_bit false o u a b c f g = same_fronts (agree_if free (not o) (not u) (exactly []) (exactly []) (λ i j. agree_map free (λ q. negated o u i j) (agree_nothing free))) a b c f g
    where
      negated : (o u : Bool) → not o ≡ true → not u ≡ true → o ≡ u
      negated false false i j = refl
      negated true u i j = cc
      negated o true i j = cc

  same_list : (al : Bool) (z : Size) (h : Counts) (n m : ℕ) (a b c : State) → ListBegins al free z h n a b → ListBegins al free z h m a c → b ≡ c
  same_list al z h n m a b c f g =
      let q = same_extension_bit z.extensible f.1 g.1 a.0 f.2 g.2 f.3 g.3 in
      let high = z.counts.high in
      same_counted al z h g.1 (told_highest g.1 high) g.2 a.1 b c (subst (λ p. Counted al free z h g.1 (told_highest g.1 high) p a.1 b) q.1
      (subst (λ o. Counted al free z h o (told_highest o high) f.2 a.1 b) q.0 f.4)) g.4

  same_due : (v w : Bool) (n : ℕ) (hs : Option Tally) (a : Position) (k : List Scope) (b c : State) → MemberDue v n hs a k b → MemberDue w n hs a k c → (v ≡ w) × (b ≡ c)
  same_due v w (suc n) hs a k b c f g = (f.0 ∙ sym g.0, f.1 ∙ sym g.1)
  same_due v w zero None a k b c f g = (f.0 ∙ sym g.0, f.1 ∙ sym g.1)
  same_due v w zero (Some t) a k b c f g = absurd f

  same_member : (al v w : Bool) (a : Position) (k : List Scope) (b c : State) → NextMember al free v a k b → NextMember al free w a k c → (v ≡ w) × (b ≡ c)
  same_member al v w a (members zero (Some t) ∷ k) b c f g =
      let q = same_determinant al t a f.2 g.2 f.0 g.0 f.1 g.1 f.3 g.3 in
      let x : MemberDue v g.0 f.1 f.2 k b = subst (λ n. MemberDue v n f.1 f.2 k b) q.1 f.4 in
      let y : MemberDue v g.0 g.1 f.2 k b = subst (λ o. MemberDue v g.0 o f.2 k b) q.2 x in
      same_due v w g.0 g.1 g.2 k b c (subst (λ p. MemberDue v g.0 g.1 p k b) q.0 y) g.4
  same_member al v w a (members zero None ∷ k) b c f g = same_due v w zero None a k b c f g
  same_member al v w a (members (suc n) hs ∷ k) b c f g = same_due v w (suc n) hs a k b c f g
  same_member al v w a k b c f g = absurd f

  -- ---- components
  same_preamble : (x y : Option Bool) (ms ns : List Bool) → is_some x ≡ is_some y → length ms ≡ length ns →
      (length (preamble_bits x ms) ≡ length (preamble_bits y ns)) × (preamble_bits x ms ≡ preamble_bits y ns → (x ≡ y) × (ms ≡ ns))
  same_preamble None None ms ns e l = (l, λ f. (refl, f))
  same_preamble None (Some y) ms ns e l = cc
  same_preamble (Some x) None ms ns e l = cc
  same_preamble (Some x) (Some y) ms ns e l = (ap suc l, λ f. (cc f, cc f))

  same_begin : (e : Bool) (n : ℕ) (a b c : State) → Begins free e n a b → Begins free e n a c → b ≡ c
  same_begin e n a b c f g =
      let s = same_preamble f.0 g.0 f.1 g.1 (f.2 ∙ sym g.2) (f.3 ∙ sym g.3) in
      let q = same_fronts (agree_exactly free (preamble_bits f.0 f.1) (preamble_bits g.0 g.1) s.0) a.0 b.0 c.0 f.4 g.4 in
      let t = s.1 q.0 in
      state_same b c q.1 (f.5 ∙ ap (λ x. components x f.1 ∷ a.1) t.0 ∙ ap (λ ms. components g.0 ms ∷ a.1) t.1 ∙ sym g.5)

  same_presence_bit : (v w : Bool) (a : Position) (k : List Scope) (b c : State) → NextPresenceBit v a k b → NextPresenceBit w a k c → (v ≡ w) × (b ≡ c)
  same_presence_bit v w a (components x (m ∷ ms) ∷ k) b c f g = (f.0 ∙ sym g.0, f.1 ∙ sym g.1)
  same_presence_bit v w a k b c f g = absurd f

  -- ---- additions
  bitmaps_alike : (al : Bool) (bs cs : List Bool) → Alike free (Per.normally_few al (Per.bit_units bs)) (Per.normally_few al (Per.bit_units cs)) (bs ≡ cs)
  bitmaps_alike al bs cs =
      let base = agree_map free (λ e. sym (flags_back bs) ∙ e ∙ flags_back cs) (bitmap_alike free al (map (λ b. flagged b) bs) (map (λ b. flagged b) cs)) in
      let P : List Per.BitForm → List Per.BitForm → Type 0 = λ us vs. Alike free (Per.normally_few al us) (Per.normally_few al vs) (bs ≡ cs) in
      subst (λ us. P us (Per.bit_units cs)) (units_of bs) (subst (λ vs. P (map Per.flag (map (λ b. flagged b) bs)) vs) (units_of cs) base)

  same_additions : (al : Bool) (n : ℕ) (a : Position) (k : List Scope) (b c : State) → AdditionsBegin al free n a k b → AdditionsBegin al free n a k c → b ≡ c
  same_additions al n a (components (Some false) [] ∷ k) b c f g = f ∙ sym g
  same_additions al n a (components (Some true) [] ∷ k) b c f g =
      let q = same_fronts (bitmaps_alike al f.0 g.0) a b.0 c.0 f.2 g.2 in
      state_same b c q.1 (f.3 ∙ ap (λ bs. added (first_bits n bs) (drop n bs) ∷ k) q.0 ∙ sym g.3)
  same_additions al n a k b c f g = absurd f

  same_open : (al : Bool) (a : Position) (k : List Scope) (b c : State) → Opens al free a k b → Opens al free a k c → b ≡ c
  same_open al a k b c f g =
      let q = same_fronts (counted_octets_alike free al f.0 g.0) a f.1 g.1 f.2 g.2 in
      let P : List ℕ → Position → State = λ os p. ((0, octet_bits os), open_type p ∷ k) in
      f.3 ∙ ap (λ os. P os f.1) q.0 ∙ ap (λ p. P g.0 p) q.1 ∙ sym g.3

  same_addition : (al v w : Bool) (a : Position) (k : List Scope) (b c : State) → NextAddition al free v a k b → NextAddition al free w a k c → (v ≡ w) × (b ≡ c)
  same_addition al v w a (added (false ∷ ms) us ∷ k) b c f g = (f.0 ∙ sym g.0, f.1 ∙ sym g.1)
  same_addition al v w a (added (true ∷ ms) us ∷ k) b c f g = (f.0 ∙ sym g.0, same_open al a (added ms us ∷ k) b c f.1 g.1)
  same_addition al v w a k b c f g = absurd f

  same_addition_end : (a : Position) (k : List Scope) (b c : State) → AdditionEnds free a k b → AdditionEnds free a k c → b ≡ c
  same_addition_end a (open_type r ∷ added ms us ∷ k) b c f g = f.6 ∙ sym g.6
  same_addition_end a k b c f g = absurd f

  same_skips : (al : Bool) (us : List Bool) (a b c : Position) → Skips al free us a b → Skips al free us a c → b ≡ c
  same_skips al us a b c f g =
      (same_fronts (adding.unknowns_alike Per.Freedom Per.Detail Bool free (λ l. Per.counted_octets al l) (λ l m. counted_octets_alike free al l m) f.0 g.0 (f.1 ∙ sym g.1)) a b c f.2 g.2).1

  -- ---- choices
  root_indexes : (al e : Bool) (roots i j : ℕ) → Alike free (both (Per.extension_bit_of e false) (Per.constrained al (roots - 1) i))
      (both (Per.extension_bit_of e false) (Per.constrained al (roots - 1) j)) (i ≡ j)
  root_indexes al e roots i j = behind_extension_bit free e false _ _ _ (constrained_alike free al (roots - 1) i j)

  added_indexes : (al : Bool) (i j : ℕ) → Alike free (both (exactly (true ∷ [])) (Per.normally_small al i)) (both (exactly (true ∷ [])) (Per.normally_small al j)) (i ≡ j)
  added_indexes al i j = behind_extension_bit free true true _ _ _ (small_alike free al i j)

  same_choice : (al : Bool) (roots : ℕ) (e : Bool) (others : ℕ) (v w : Bool) (i j : ℕ) (a b c : State) → Chooses al free roots e others v i a b →
      Chooses al free roots e others w j a c → (v ≡ w) × (i ≡ j) × (b ≡ c)
  same_choice al roots e others false false i j a b c f g =
      let q = same_fronts (root_indexes al e roots i j) a.0 b.0 c.0 f.1 g.1 in
      (refl, q.0, state_same b c q.1 (f.2 ∙ sym g.2))
  same_choice al roots true others false true i j a b c f g = absurd ((same_fronts (added_or_root free _ _ ⊥) a.0 g.2 b.0 g.3 f.1).0)
  same_choice al roots true others true false i j a b c f g = absurd ((same_fronts (added_or_root free _ _ ⊥) a.0 f.2 c.0 f.3 g.1).0)
  same_choice al roots false others false true i j a b c f g = let h = g.0 in cc
  same_choice al roots false others true w i j a b c f g = let h = f.0 in cc
  same_choice al roots true others true true i j a b c f g =
      let q = same_fronts (added_indexes al i j) a.0 f.2 g.2 f.3 g.3 in
      (refl, q.0, same_open al g.2 a.1 b c (subst (λ p. Opens al free p a.1 b) q.1 f.4) g.4)

  -- ---- the end
  same_end : (al : Bool) (a : Position) (k : List Scope) (b c : State) → Ends al free a k b → Ends al free a k c → b ≡ c
  same_end al a (components None [] ∷ k) b c f g = f ∙ sym g
  same_end al a (added [] us ∷ k) b c f g = state_same b c (same_skips al us a b.0 c.0 f.0 g.0) (f.1 ∙ sym g.1)
  same_end al a (open_type r ∷ k) b c f g = f.6 ∙ sym g.6
  same_end al a (members zero None ∷ k) b c f g = f ∙ sym g
  same_end al a (alternative ∷ k) b c f g = f ∙ sym g
  same_end al a k b c f g = absurd f

  -- ---- each record
  as_record : (al : Bool) (a : State) (r s : Record) (c : State) → r ≡ s → Takes al free a r c → Takes al free a s c
  as_record al a r s c e t = subst (λ x. Takes al free a x c) e t

  one_record : (al : Bool) (a : State) (r s : Record) (b c : State) → question r ≡ question s → Takes al free a r b → Takes al free a s c → (told r ≡ told s) × (b ≡ c)
  one_record al a (flag v) (flag w) b c q f g = let t = same_found (booleans al v w) a b c f g in (ap flag t.0, t.1)
  one_record al a nil nil b c q f g = (refl, (same_found (nulls al) a b c f g).1)
  one_record al a (whole z h v) (whole y i w) b c q f g =
      let e : whole y i w ≡ whole z h w = cc q in
      let t = same_found (integers al z h v w) a b c f (as_record al a (whole y i w) (whole z h w) c e g) in
      (ap (whole z h) t.0 ∙ sym e, t.1)
  one_record al a (one_of rs x ns v) (one_of ss y ms w) b c q f g =
      let e : one_of ss y ms w ≡ one_of rs x ns w = cc q in
      let t = same_found (items al rs x ns v w) a b c f (as_record al a (one_of ss y ms w) (one_of rs x ns w) c e g) in
      (ap (one_of rs x ns) t.0 ∙ sym e, t.1)
  one_record al a (bits z h v) (bits y i w) b c q f g =
      let e : bits y i w ≡ bits z h w = cc q in
      let t = same_found (bit_strings al z h v w) a b c f (as_record al a (bits y i w) (bits z h w) c e g) in
      (ap (bits z h) t.0 ∙ sym e, t.1)
  one_record al a (octets z h v) (octets y i w) b c q f g =
      let e : octets y i w ≡ octets z h w = cc q in
      let t = same_found (octet_strings al z h v w) a b c f (as_record al a (octets y i w) (octets z h w) c e g) in
      (ap (octets z h) t.0 ∙ sym e, t.1)
  one_record al a (characters k z l h v) (characters j y m i w) b c q f g =
      let e : characters j y m i w ≡ characters k z l h w = cc q in
      let t = same_found (strings al k z l h v w) a b c f (as_record al a (characters j y m i w) (characters k z l h w) c e g) in
      (ap (characters k z l h) t.0 ∙ sym e, t.1)
  one_record al a (identifier v) (identifier w) b c q f g = let t = same_found (identifiers al v w) a b c f g in (ap identifier t.0, t.1)
  one_record al a (list_begins z h n) (list_begins y i m) b c q f g =
      let e : list_begins y i m ≡ list_begins z h m = cc q in
      (sym (ap told e), same_list al z h n m a b c f (as_record al a (list_begins y i m) (list_begins z h m) c e g))
  one_record al a (bag_begins z h n) (bag_begins y i m) b c q f g =
      let e : bag_begins y i m ≡ bag_begins z h m = cc q in
      (sym (ap told e), same_list al z h n m a b c f (as_record al a (bag_begins y i m) (bag_begins z h m) c e g))
  one_record al a (further v) (further w) b c q f g = let t = same_member al v w a.0 a.1 b c f g in (ap further t.0, t.1)
  one_record al a (sequence_begins x n) (sequence_begins y m) b c q f g =
      let e : sequence_begins y m ≡ sequence_begins x n = cc q in
      (sym e, same_begin x n a b c f (as_record al a (sequence_begins y m) (sequence_begins x n) c e g))
  one_record al a (set_begins x n) (set_begins y m) b c q f g =
      let e : set_begins y m ≡ set_begins x n = cc q in
      (sym e, same_begin x n a b c f (as_record al a (set_begins y m) (set_begins x n) c e g))
  one_record al a (group_begins n) (group_begins m) b c q f g =
      let e : group_begins m ≡ group_begins n = cc q in
      (sym e, same_begin false n a b c f (as_record al a (group_begins m) (group_begins n) c e g))
  one_record al a (presence_bit v) (presence_bit w) b c q f g = let t = same_presence_bit v w a.0 a.1 b c f g in (ap presence_bit t.0, t.1)
  one_record al a is_default is_default b c q f g = (refl, f.1 ∙ sym g.1)
  one_record al a is_empty is_empty b c q f g = (refl, f.1 ∙ sym g.1)
  one_record al a (additions_begin n) (additions_begin m) b c q f g =
      let e : additions_begin m ≡ additions_begin n = cc q in
      (sym e, same_additions al n a.0 a.1 b c f (as_record al a (additions_begin m) (additions_begin n) c e g))
  one_record al a (addition v) (addition w) b c q f g = let t = same_addition al v w a.0 a.1 b c f g in (ap addition t.0, t.1)
  one_record al a addition_ends addition_ends b c q f g = (refl, same_addition_end a.0 a.1 b c f g)
  one_record al a (choice_begins rs x ns v i) (choice_begins ss y ms w j) b c q f g =
      let e : choice_begins ss y ms w j ≡ choice_begins rs x ns w j = cc q in
      let t = same_choice al (length rs) x (length ns) v w i j a b c f (as_record al a (choice_begins ss y ms w j) (choice_begins rs x ns w j) c e g) in
      (ap (λ u. choice_begins rs x ns u i) t.0 ∙ ap (choice_begins rs x ns w) t.1 ∙ sym e, t.2)
  one_record al a ends ends b c q f g = (refl, same_end al a.0 a.1 b c f g)
  one_record al a mismatch s b c q f g = absurd f
  one_record al a r s b c q f g = cc

pub one_taken : (al : Bool) (free : Per.Freedom → Bool) (a : State) (r s : Record) (b c : State) → question r ≡ question s → Takes al free a r b → Takes al free a s c → (told r ≡ told s) × (b ≡ c)
one_taken al free a r s b c q f g = one_record free al a r s b c q f g
