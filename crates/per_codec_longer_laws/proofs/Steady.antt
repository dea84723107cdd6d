-- A form that has no bits at one position has none at every position: padding occurs only if bits follow.
use Rattle.std.proofs.Common.{◌≡◌, ℕ, ℤ, zero, suc, ◌+◌, ◌*◌, ◌==◌, ltb, leb, not, ◌&&◌, ◌||◌, Bool, true, false, cond, List, [], ◌∷◌, ◌++◌, length, map, Option, Some, None, refl, sym, subst, arith}
use Rattle.std.proofs.lemmas.Bool.{and_parts, leb-true, eq-eqb}
use Rattle.std.specs.Prelude.{flat_map}
use Rattle.asn1_model.specs.Value.{Value, truth, nothing, number, item, bit_list, octet_list, text, arcs, members, bag, fields, chosen, Values, no_more, member, Parts, end, absent, present, each}
use Rattle.asn1_model.specs.Schema.{Bounds, Range, Counts, Size, Alphabet, StringKind, Presence, Schema, cut, boolean}
use Rattle.asn1_model.specs.Schema.{null, integer, enumerated, bit_string, octet_string, character_string}
use Rattle.asn1_model.specs.Schema.{object_identifier, sequence_of, set_of, sequence, set, group, choice, Components}
use Rattle.asn1_model.specs.Schema.{no_component, component, Alternatives, no_alternative, alternative}
use Rattle.asn1_model.specs.Numbers.{binary, digits, least_octets, octet_width, above, is_count_within}
use Rattle.asn1_model.specs.Normal.{is_at_default, is_group_left_out, is_required, presence_bits}
use Rattle.asn1_model.specs.Strings.{Run, place_of, may_hold, is_of_octets, permitted}
use Rattle.asn1_model.specs.Form.{exactly, refused, both, varied, within, Reads, only_if, given, joined, Bitmap, stands_before, written, covered_by, is_any_present}
use Rattle.asn1_model.specs.Per
use Rattle.asn1_laws_values.proofs.Listed.{listed, each_is_map, order_map}

-- a form that, if it is read as no bits at one position, is so at every position
pub record Steady (free : Per.Freedom → Bool) (x : Per.BitForm) : Type 0 where
  pub steady : (p q : ℕ) → Reads free x p [] → Reads free x q []

-- a form that is never read as no bits
pub record Full (free : Per.Freedom → Bool) (x : Per.BitForm) : Type 0 where
  pub some : (p : ℕ) → Reads free x p [] → ⊥

nil_parts : (a b : List Bool) → a ++ b ≡ [] → (a ≡ []) × (b ≡ [])
nil_parts [] b q = (refl, q)
nil_parts (x ∷ a) b q = cc

one_at_least : (k : ℕ) → leb (least_octets k) 0 ≡ true → ⊥
one_at_least k q = let h = leb-true (least_octets k) 0 q in omega arith

module _ (free : Per.Freedom → Bool) where
  abbrev St : Per.BitForm → Type 0
  St x = Steady free x

  abbrev Fu : Per.BitForm → Type 0
  Fu x = Full free x

  as_steady : {x : Per.BitForm} → Fu x → St x
  as_steady h = record { steady = λ p q r. absurd (h.some p r) }

  -- ---- steady forms
  steady_exactly : (l : List Bool) → St (exactly l)
  unfolding Reads
  steady_exactly l = record { steady = λ p q r. r }

  steady_refused : St refused
  unfolding Reads
  steady_refused = record { steady = λ p q r. r }

  steady_both : {x y : Per.BitForm} → St x → St y → St (both x y)
  unfolding Reads
  steady_both {x = x} {y = y} h k = record {
    steady = λ p q r.
        let n = nil_parts r.0 r.1 r.4 in
        let a : Reads free x p [] = subst (λ w. Reads free x p w) n.0 r.2 in
        let b : Reads free y (p + length r.0) [] = subst (λ w. Reads free y (p + length r.0) w) n.1 r.3 in
        ([], [], h.steady p q a, k.steady (p + length r.0) (q + 0) b, refl);
  }

  steady_varied : {c : Per.Freedom} {d : Per.Detail c} {f : Per.Detail c → Per.BitForm} → ((e : Per.Detail c) → St (f e)) → St (varied c d f)
  unfolding Reads
  steady_varied h = record { steady = λ p q r. (r.0, r.1, (h r.0).steady p q r.2) }

  steady_cond : (b : Bool) {x y : Per.BitForm} → St x → St y → St (cond b x y)
  steady_cond true h k = h
  steady_cond false h k = k

  steady_if : (b : Bool) {x : Per.BitForm} → St x → St (only_if b x)
  steady_if true h = h
  steady_if false h = steady_refused

  steady_given : {X : Type 0} (o : Option X) {f : X → Per.BitForm} → ((x : X) → o ≡ Some x → St (f x)) → St (given o f)
  steady_given None h = steady_refused
  steady_given (Some x) h = h x refl

  -- ---- full forms
  full_exactly : (b : Bool) (l : List Bool) → Fu (exactly (b ∷ l))
  unfolding Reads
  full_exactly b l = record { some = λ p r. cc }

  full_refused : Fu refused
  unfolding Reads
  full_refused = record { some = λ p r. r }

  full_first : {x y : Per.BitForm} → Fu x → Fu (both x y)
  unfolding Reads
  full_first {x = x} h = record { some = λ p r. h.some p (subst (λ w. Reads free x p w) ((nil_parts r.0 r.1 r.4).0) r.2) }

  full_second : {x y : Per.BitForm} → Fu y → Fu (both x y)
  unfolding Reads
  full_second {y = y} h = record { some = λ p r. h.some (p + length r.0) (subst (λ w. Reads free y (p + length r.0) w) ((nil_parts r.0 r.1 r.4).1) r.3) }

  full_varied : {c : Per.Freedom} {d : Per.Detail c} {f : Per.Detail c → Per.BitForm} → ((e : Per.Detail c) → Fu (f e)) → Fu (varied c d f)
  unfolding Reads
  full_varied h = record { some = λ p r. (h r.0).some p r.2 }

  full_within : {x : Per.BitForm} {f : List Bool → Per.BitForm} → ((w : List Bool) → Fu (f w)) → Fu (within x f)
  unfolding Reads
  full_within h = record { some = λ p r. (h r.0).some p r.2 }

  full_cond : (b : Bool) {x y : Per.BitForm} → Fu x → Fu y → Fu (cond b x y)
  full_cond true h k = h
  full_cond false h k = k

  full_when : (b : Bool) {x : Per.BitForm} → (b ≡ true → Fu x) → Fu (only_if b x)
  full_when true h = h refl
  full_when false h = full_refused

  full_if : (b : Bool) {x : Per.BitForm} → Fu x → Fu (only_if b x)
  full_if b h = full_when b (λ e. h)

  full_given : {X : Type 0} (o : Option X) {f : X → Per.BitForm} → ((x : X) → Fu (f x)) → Fu (given o f)
  full_given None h = full_refused
  full_given (Some x) h = h x

  full_at_octet : (al : Bool) {x : Per.BitForm} → Fu x → Fu (Per.at_octet al x)
  unfolding Per.at_octet
  full_at_octet false h = h
  full_at_octet true h = full_second h

  -- ---- numbers and lengths
  full_octets : (k d : ℕ) → (k ≡ 0 → ⊥) → Fu (exactly (flat_map (binary 8) (digits 256 k d)))
  full_octets zero d h = absurd (h refl)
  full_octets (suc k) d h = full_exactly _ _

  full_in_octets : (whole : ℕ → ℕ → Per.BitForm) (al : Bool) (span d k : ℕ) → Fu (Per.in_octets_of whole al span d k)
  unfolding Per.in_octets_of
  full_in_octets whole al span d k = full_when (leb (least_octets d) k && leb k (octet_width span)) (λ e.
      full_second (full_at_octet al (full_octets k d (λ z. one_at_least d (subst (λ n. leb (least_octets d) n ≡ true) z (and_parts _ _ e).0)))))

  steady_constrained_in : (most : ℕ) (al : Bool) (span d : ℕ) → St (Per.constrained_in most al span d)
  unfolding Per.constrained_in
  steady_constrained_in zero al span d = steady_refused
  steady_constrained_in (suc most) al span d = steady_if (leb d span)
      (steady_cond (not al || ltb span 255) (steady_exactly _) (steady_cond (span == 255) (as_steady (full_at_octet al (full_exactly _ _)))
      (steady_cond (ltb span 65536) (as_steady (full_at_octet al (full_exactly _ _))) (as_steady (full_varied {c = Per.longer_number} (λ k. full_in_octets _ al span d k))))))

  steady_constrained : (al : Bool) (span d : ℕ) → St (Per.constrained al span d)
  unfolding Per.constrained
  steady_constrained al span d = steady_constrained_in (suc span) al span d

  full_short : (al : Bool) (n : ℕ) → Fu (Per.short_length al n)
  unfolding Per.short_length
  full_short al n = full_at_octet al (full_varied {c = Per.two_octet_length} (λ long. full_cond long (full_if _ (full_exactly _ _)) (full_if _ (full_exactly _ _))))

  full_fragments : (al : Bool) (ms : List ℕ) (us : List Per.BitForm) → Fu (Per.fragments al ms us)
  unfolding Per.fragments
  full_fragments al [] us = full_first (full_short al (length us))
  full_fragments al (m ∷ ms) us = full_if _ (full_first (full_at_octet al (full_exactly _ _)))

  full_counted : (al : Bool) (us : List Per.BitForm) → Fu (Per.counted al us)
  unfolding Per.counted
  full_counted al us = full_varied {c = Per.other_fragments} (λ ms. full_fragments al ms us)

  full_counted_octets : (al : Bool) (os : List ℕ) → Fu (Per.counted_octets al os)
  unfolding Per.counted_octets
  full_counted_octets al os = full_if _ (full_counted al _)

  full_semi : (al : Bool) (d : ℕ) → Fu (Per.semi_constrained al d)
  unfolding Per.semi_constrained
  full_semi al d = full_varied {c = Per.longer_number} (λ k. full_if _ (full_counted_octets al _))

  full_unconstrained : (al : Bool) (v : ℤ) → Fu (Per.unconstrained al v)
  unfolding Per.unconstrained
  full_unconstrained al v = full_varied {c = Per.longer_number} (λ k. full_if _ (full_counted_octets al _))

  full_small : (al : Bool) (n : ℕ) → Fu (Per.normally_small al n)
  unfolding Per.normally_small
  full_small al n = full_varied {c = Per.long_small_number} (λ long. full_cond long (full_first (full_exactly _ _)) (full_if _ (full_exactly _ _)))

  steady_whole : (al : Bool) (low high : Option ℤ) (v : ℤ) → St (Per.whole_number al low high v)
  unfolding Per.whole_number
  steady_whole al (Some low) (Some high) v = steady_given (above low high) {f = λ span. given (above low v) (λ d. Per.constrained al span d)}
      (λ span e. steady_given (above low v) (λ d f. steady_constrained al span d))
  steady_whole al (Some low) None v = steady_given (above low v) (λ d e. as_steady (full_semi al d))
  steady_whole al None (Some high) v = steady_if _ (as_steady (full_unconstrained al v))
  steady_whole al None None v = as_steady (full_unconstrained al v)

  steady_extended : (x in_root : Bool) {root : Per.BitForm} (outside : Per.BitForm) → St root → St (Per.with_extension_bit x in_root root outside)
  unfolding Per.with_extension_bit
  steady_extended false in_root outside h = steady_if in_root h
  steady_extended true in_root outside h = as_steady (full_varied {c = Per.root_told_outside} (λ out. full_cond out (full_first (full_exactly _ _)) (full_if _ (full_first (full_exactly _ _)))))

  steady_integer : (al : Bool) (b : Bounds) (h : Range) (v : ℤ) → St (Per.integer_form al b h v)
  unfolding Per.integer_form
  steady_integer al b h v = steady_if _ (steady_extended b.extensible _ _ (steady_whole al b.range.low b.range.high v))

  -- ---- units
  steady_units : {X : Type 0} (f : X → Per.BitForm) → ((x : X) → St (f x)) → (xs : List X) → St (joined (map f xs))
  steady_units f h [] = steady_exactly []
  steady_units f h (x ∷ xs) = steady_both (h x) (steady_units f h xs)

  some_padding : (unit n : ℕ) (c : Counts) → Per.string_has_padding unit n c ≡ true → n * unit ≡ 0 → ⊥
  some_padding unit n c h e =
      let t : not (n * unit == 0) ≡ true = (and_parts _ _ h).0 in
      let z : (n * unit == 0) ≡ true = eq-eqb (n * unit) 0 e in
      cc

  full_units : {X : Type 0} (f : X → Per.BitForm) → ((x : X) → Fu (f x)) → (xs : List X) (unit : ℕ) → (length xs * unit ≡ 0 → ⊥) → Fu (joined (map f xs))
  full_units f h [] unit n = absurd (n (omega arith))
  full_units f h (x ∷ xs) unit n = full_first (h x)

  steady_padded : (b : Bool) {x : Per.BitForm} → St x → (b ≡ true → Fu x) → St (Per.at_octet b x)
  unfolding Per.at_octet
  steady_padded false h k = h
  steady_padded true h k = as_steady (full_at_octet true (k refl))

  steady_root : (al : Bool) (c : Counts) (o : Option ℕ) (p : Counts → Bool) (us : List Per.BitForm) → St (joined us) → (p c ≡ true → Fu (joined us)) → St (Per.sized_root al c o p us)
  unfolding Per.sized_root
  steady_root al c None p us h k = as_steady (full_counted al us)
  steady_root al c (Some high) p us h k = steady_cond _ (steady_both (steady_constrained al _ _) (steady_padded (al && p c) h (λ e. k (and_parts _ _ e).1))) (as_steady (full_counted al us))

  steady_sized : (al : Bool) (z : Size) (held : Counts) (p : Counts → Bool) (us : List Per.BitForm) → St (joined us) → ((c : Counts) → p c ≡ true → Fu (joined us)) → St (Per.sized al z held p us)
  unfolding Per.sized
  steady_sized al z held p us h k = steady_if _ (steady_extended z.extensible _ _ (steady_root al z.counts z.counts.high p us h (k z.counts)))

  steady_bits : (al : Bool) (z : Size) (held : Counts) (bs : List Bool) → St (Per.sized al z held (Per.string_has_padding 1 (length bs)) (Per.bit_units bs))
  steady_bits al z held bs = steady_sized al z held _ _ (steady_units (λ b. exactly (b ∷ [])) (λ b. steady_exactly _) bs)
      (λ c e. full_units (λ b. exactly (b ∷ [])) (λ b. full_exactly b []) bs 1 (some_padding 1 (length bs) c e))

  steady_octets : (al : Bool) (z : Size) (held : Counts) (os : List ℕ) → St (Per.sized al z held (Per.string_has_padding 8 (length os)) (Per.octet_units os))
  steady_octets al z held os = steady_sized al z held _ _ (steady_units (λ o. exactly (binary 8 o)) (λ o. steady_exactly _) os)
      (λ c e. full_units (λ o. exactly (binary 8 o)) (λ o. full_exactly _ _) os 8 (some_padding 8 (length os) c e))

  -- ---- characters
  steady_character : (b : ℕ) (rs : List Run) (c : ℕ) → St (Per.character b rs c)
  unfolding Per.character
  steady_character b rs c = steady_given (place_of c rs) (λ i e. steady_exactly _)

  full_character : (b : ℕ) (rs : List Run) (c : ℕ) → (b ≡ 0 → ⊥) → Fu (Per.character b rs c)
  unfolding Per.character
  full_character zero rs c h = absurd (h refl)
  full_character (suc b) rs c h = full_given (place_of c rs) (λ i. full_exactly _ _)

  none_of_none : (n b : ℕ) → b ≡ 0 → n * b ≡ 0
  none_of_none n b e = subst (λ m. n * m ≡ 0) (sym e) (omega arith)

  steady_characters : (al : Bool) (z : Size) (held : Counts) (rs : List Run) (cs : List ℕ) → St (Per.characters al z held rs cs)
  unfolding Per.characters
  steady_characters al z held rs cs =
      let b : ℕ = Per.character_bits al rs in
      steady_sized al z held _ _ (steady_units (Per.character b rs) (λ c. steady_character b rs c) cs) (λ c e.
      let n = some_padding b (length cs) c (and_parts _ _ e).0 in
      full_units (Per.character b rs) (λ x. full_character b rs x (λ q. n (none_of_none (length cs) b q))) cs b n)

  steady_string : (al : Bool) (k : StringKind) (z : Size) (a : Alphabet) (held : Counts) (cs : List ℕ) → St (Per.string_form al k z a held cs)
  unfolding Per.string_form
  steady_string al k z a held cs =
      steady_if (may_hold k cs) (steady_cond (is_of_octets k) (steady_if (is_count_within held (length cs)) (as_steady (full_counted_octets al cs))) (steady_characters al z held (permitted k a) cs))

  -- ---- enumeration items
  steady_extension_bit : (e m : Bool) → St (Per.extension_bit_of e m)
  steady_extension_bit false m = steady_exactly _
  steady_extension_bit true m = steady_exactly _

  steady_item : (al : Bool) (roots : ℕ) (e : Bool) (i j : Option ℕ) → St (Per.item_form al roots e i j)
  unfolding Per.item_form
  steady_item al roots e (Some i) j = steady_both (steady_extension_bit e false) (steady_constrained al _ _)
  steady_item al roots true None (Some j) = as_steady (full_first (full_exactly _ _))
  steady_item al roots true None None = steady_refused
  steady_item al roots false None j = steady_refused

  -- ---- elements
  steady_all : (f : Value → Per.BitForm) → ((v : Value) → St (f v)) → (vs : Values) → St (joined (each f vs))
  steady_all f h no_more = steady_exactly []
  steady_all f h (member v vs) = steady_both (h v) (steady_all f h vs)

  steady_list : (al : Bool) (z : Size) (held : Counts) (f : Value → Per.BitForm) → ((v : Value) → St (f v)) → (vs : Values) → St (Per.sized al z held (λ c. false) (each f vs))
  steady_list al z held f h vs = steady_sized al z held (λ c. false) (each f vs) (steady_all f h vs) (λ c e. cc)

  steady_bag : (al : Bool) (z : Size) (held : Counts) (f : Value → Per.BitForm) → ((v : Value) → St (f v)) → (vs : List Value) → St (Per.in_any_order (map f vs) (Per.sized al z held (λ c. false)))
  unfolding Per.in_any_order
  steady_bag al z held f h vs = steady_varied {c = Per.other_order} (λ o. steady_given _ (λ ys e.
      let q = order_map f (λ x. written (Per.complete x) 0) (stands_before Per.bit_less) o vs ys e in
      subst (λ l. St (Per.sized al z held (λ c. false) l)) q.3 (steady_sized al z held (λ c. false) (map f q.1) (steady_units f h q.1) (λ c i. cc))))

  -- ---- components
  steady_spelled : (o : Presence) (s : Schema) (v : Value) (x : Per.BitForm) → St x → St (Per.spelled o s v x)
  unfolding Per.spelled
  steady_spelled o s v x h = steady_cond (is_at_default o s v) (steady_varied {c = Per.default_spelled_out} (λ b. steady_if b h))
      (steady_cond (is_group_left_out s v) (steady_varied {c = Per.empty_group} (λ b. steady_if b h)) h)

  full_with_additions : (al : Bool) (ms : List Bool) (root : Per.BitForm) (xs : List (Option Per.BitForm)) → Fu (Per.with_additions al ms root xs)
  unfolding Per.with_additions
  full_with_additions al ms root xs = full_first (full_exactly _ _)

  full_bitmapped : (al : Bool) (ms : List Bool) (root : Per.BitForm) (xs : List (Option Per.BitForm)) (b : Option Bitmap) → Fu (Per.bitmapped al ms root xs b)
  unfolding Per.bitmapped
  full_bitmapped al ms root xs None = full_if _ (full_first (full_exactly _ _))
  full_bitmapped al ms root xs (Some b) = full_given (covered_by (λ os. Per.counted_octets al os) b xs)
      (λ all. full_cond (is_any_present all) (full_with_additions al ms root all) (full_varied {c = Per.empty_bitmap} (λ e. full_if e (full_with_additions al ms root all))))

  steady_sequence : (al e : Bool) (ms : List Bool) (root : Per.BitForm) (xs : List (Option Per.BitForm)) → St root → St (Per.sequence_form al e ms root xs)
  unfolding Per.sequence_form
  steady_sequence al false ms root [] h = steady_both (steady_exactly ms) h
  steady_sequence al false ms root (x ∷ xs) h = steady_refused
  steady_sequence al true ms root xs h = as_steady (full_varied {c = Per.other_bitmap} (λ b. full_bitmapped al ms root xs b))

  -- ---- every form
  mutual
    unfolding Per.form Per.component_forms Per.alternative_form

    pub steady_form : (al : Bool) (s : Schema) (v : Value) → St (Per.form al s v)
    steady_form al boolean (truth b) = steady_exactly _
    steady_form al boolean v = steady_refused
    steady_form al null nothing = steady_exactly _
    steady_form al null v = steady_refused
    steady_form al (integer b h) (number v) = steady_integer al b h v
    steady_form al (integer b h) v = steady_refused
    steady_form al (enumerated roots e adds) (item v) = steady_item al _ e _ _
    steady_form al (enumerated roots e adds) v = steady_refused
    steady_form al (bit_string z h) (bit_list bs) = steady_bits al z h bs
    steady_form al (bit_string z h) v = steady_refused
    steady_form al (octet_string z h) (octet_list os) = steady_if _ (steady_octets al z h os)
    steady_form al (octet_string z h) v = steady_refused
    steady_form al (character_string k z a h) (text cs) = steady_string al k z a h cs
    steady_form al (character_string k z a h) v = steady_refused
    steady_form al object_identifier (arcs ns) = steady_if _ (as_steady (full_counted_octets al _))
    steady_form al object_identifier v = steady_refused
    steady_form al (sequence_of z h s) (members vs) = steady_list al z h (λ v. Per.form al s v) (λ v. steady_form al s v) vs
    steady_form al (sequence_of z h s) v = steady_refused
    steady_form al (set_of z h s) (bag vs) = subst (λ l. St (Per.in_any_order l (Per.sized al z h (λ c. false))))
        (sym (each_is_map (λ v. Per.form al s v) vs)) (steady_bag al z h (λ v. Per.form al s v) (λ v. steady_form al s v) (listed vs))
    steady_form al (set_of z h s) v = steady_refused
    steady_form al (sequence cs e adds) (fields ps qs) = steady_given (Per.addition_forms al adds qs)
        (λ xs i. steady_sequence al e (presence_bits cs ps) (Per.component_forms al cs ps) xs (steady_components al cs ps))
    steady_form al (sequence cs e adds) v = steady_refused
    steady_form al (set cs e adds) (fields ps qs) = steady_given (Per.addition_forms al adds qs)
        (λ xs i. steady_sequence al e (presence_bits cs ps) (Per.component_forms al cs ps) xs (steady_components al cs ps))
    steady_form al (set cs e adds) v = steady_refused
    steady_form al (group cs) (fields ps end) = steady_both (steady_exactly _) (steady_components al cs ps)
    steady_form al (group cs) v = steady_refused
    steady_form al (choice roots e adds) (chosen false i v) = steady_both (steady_extension_bit e false) (steady_both (steady_constrained al _ i) (steady_alternative al roots i v))
    steady_form al (choice roots true adds) (chosen true i v) = as_steady (full_first (full_exactly _ _))
    steady_form al (choice roots e adds) v = steady_refused
    steady_form al cut v = steady_refused

    steady_components : (al : Bool) (cs : Components) (ps : Parts) → St (Per.component_forms al cs ps)
    steady_components al no_component end = steady_exactly []
    steady_components al (component t o s cs) (present v ps) = steady_both (steady_spelled o s v _ (steady_form al s v)) (steady_components al cs ps)
    steady_components al (component t o s cs) (absent ps) = steady_cond (is_required o) steady_refused (steady_components al cs ps)
    steady_components al cs ps = steady_refused

    steady_alternative : (al : Bool) (others : Alternatives) (i : ℕ) (v : Value) → St (Per.alternative_form al others i v)
    steady_alternative al (alternative t s others) zero v = steady_form al s v
    steady_alternative al (alternative t s others) (suc i) v = steady_alternative al others i v
    steady_alternative al no_alternative i v = steady_refused
