-- What is read of a value of a well-formed type in OER are octets.
use Rattle.std.specs.Prelude.{ℤ, pos, negsuc}
use Rattle.std.proofs.Common.{◌≡◌, ℕ, zero, suc, ◌+◌, ◌-◌, ◌*◌, ◌/◌, ◌^◌, ◌<◌, ◌≤◌, ◌==◌, max, leb, ltb, lit<, not}
use Rattle.std.proofs.Common.{Bool, true, false, cond, ◌&&◌, ◌||◌, List, [], ◌∷◌, ◌++◌, length, take, drop, map}
use Rattle.std.proofs.Common.{replicate, Option, Some, None, option_map, refl, ap, subst, arith}
use Rattle.std.proofs.lemmas.Bool.{and_parts, and_from, lt-ltb, ltb-true, leb-true, eqb-true}
use Rattle.std.proofs.lemmas.List.{length-append, length-replicate}
use Rattle.std.proofs.lemmas.Nat.{mod_below}
use Rattle.asn1_model.specs.Numbers.{admits}
use Rattle.asn1_model.specs.Value.{Value, truth, nothing, number, item, bit_list, octet_list, text, arcs, members, bag, fields, chosen, Values, no_more, member, Parts, end, absent, present, each}
use Rattle.asn1_model.specs.Schema.{Tag, Range, Bounds, Counts, Presence, Schema, boolean, null, integer, enumerated}
use Rattle.asn1_model.specs.Schema.{bit_string, octet_string, character_string, object_identifier, sequence_of, set_of}
use Rattle.asn1_model.specs.Schema.{sequence, set, group, choice, Components, no_component, component, Alternatives}
use Rattle.asn1_model.specs.Schema.{no_alternative, alternative}
use Rattle.asn1_model.specs.Normal.{is_at_default, is_group_left_out}
use Rattle.asn1_model.specs.Numbers.{missing, digits, octet_width, least_octets, signed_octets, complement, packed, is_within, is_count_within, fits_128, places}
use Rattle.asn1_model.specs.Strings.{is_octet, may_hold, is_identifier, identifier_octets, groups_of_seven, with_top_bits}
use Rattle.std.specs.List.{list_all}
use Rattle.asn1_model.specs.Normal.{is_required, presence_bits, item_place, is_bounded}
use Rattle.asn1_model.specs.Form.{Form, exactly, refused, both, varied, within, Reads, only_if, given, joined, written}
use Rattle.asn1_model.specs.Form.{stands_before, pick, arranged, in_order, ascending, Bitmap, is_any_present}
use Rattle.asn1_model.specs.Form.{present_ones, covered_by}
use Rattle.std.specs.Prelude.{is_some}
use Rattle.asn1_model.specs.Lawful.{is_tag, is_lawful, are_lawful, are_lawful_alternatives}
use Rattle.asn1_model.specs.Oer
use Rattle.asn1_model.proofs.Forms.{map_parts}
use Rattle.asn1_laws_values.proofs.Arranged.{arranged_parts, ascending_code, some_parts}
use Rattle.asn1_laws_values.proofs.Octets.{packed_octets}

abbrev OerForm : Type 0
OerForm = Form Oer.Freedom Oer.Detail ℕ

-- ---- octets
abbrev AreOctets : List ℕ → Type 0
AreOctets os = list_all is_octet os ≡ true

joined_octets : (os ps : List ℕ) → AreOctets os → AreOctets ps → AreOctets (os ++ ps)
joined_octets [] ps h k = k
joined_octets (o ∷ os) ps h k = let p = and_parts _ _ h in and_from _ _ p.0 (joined_octets os ps p.1 k)

one_octet : (o : ℕ) → o < 256 → AreOctets (o ∷ [])
one_octet o h = and_from _ _ (lt-ltb o 256 h) refl

first_octet : (o : ℕ) (os : List ℕ) → o < 256 → AreOctets os → AreOctets (o ∷ os)
first_octet o os h k = and_from _ _ (lt-ltb o 256 h) k

digits_octets : (k n : ℕ) → AreOctets (digits 256 k n)
digits_octets zero n = refl
digits_octets (suc k) n = and_from _ _ (lt-ltb _ _ (mod_below (n / 256 ^ k) 256 (lit< tt))) (digits_octets k n)

complement_octets : (k : ℕ) (v : ℤ) → AreOctets (complement k v)
complement_octets k (pos n) = digits_octets k n
complement_octets k (negsuc n) = digits_octets k (256 ^ k - 1 - n)

sevens_small : (k n : ℕ) → list_all (λ d. ltb d 128) (digits 128 k n) ≡ true
sevens_small zero n = refl
sevens_small (suc k) n = and_from _ _ (lt-ltb _ _ (mod_below (n / 128 ^ k) 128 (lit< tt))) (sevens_small k n)

top_octets : (os : List ℕ) → list_all (λ d. ltb d 128) os ≡ true → AreOctets (with_top_bits os)
top_octets [] h = refl
top_octets (o ∷ []) h = let p = and_parts (ltb o 128) true h in let a : o < 128 = ltb-true o 128 p.0 in and_from _ _ (lt-ltb o 256 (omega arith)) refl
top_octets (o ∷ p ∷ os) h = let q = and_parts (ltb o 128) (list_all (λ d. ltb d 128) (p ∷ os)) h in let a : o < 128 =
    ltb-true o 128 q.0 in and_from _ _ (lt-ltb (o + 128) 256 (omega arith)) (top_octets (p ∷ os) q.1)

groups_octets : (n : ℕ) → AreOctets (groups_of_seven n)
groups_octets n = top_octets (digits 128 (max 1 (places 128 n)) n) (sevens_small (max 1 (places 128 n)) n)

octets_with_unused : (bs unused : List Bool) → length unused ≡ missing (length bs) → AreOctets (packed (bs ++ unused))
octets_with_unused bs unused h =
    let a = length-append bs unused in
    packed_octets ((length bs + 7) / 8) (bs ++ unused) (omega arith)

-- ---- forms of which only octets are read
record Octal (free : Oer.Freedom → Bool) (x : OerForm) : Type 0 where
  octets : (p : ℕ) (w : List ℕ) → Reads free x p w → AreOctets w

module _ (free : Oer.Freedom → Bool) where
  o_exactly : (l : List ℕ) → AreOctets l → Octal free (exactly l)
  unfolding Reads
  o_exactly l h = record { octets = λ p w r. subst (λ x. AreOctets x) r h }

  o_refused : Octal free refused
  unfolding Reads
  o_refused = record { octets = λ p w r. absurd r }

  o_both : {x y : OerForm} → Octal free x → Octal free y → Octal free (both x y)
  unfolding Reads
  o_both h k = record { octets = λ p w r. subst (λ x. AreOctets x) r.4 (joined_octets r.0 r.1 (h.octets p r.0 r.2) (k.octets (p + length r.0) r.1 r.3)) }

  o_varied : {c : Oer.Freedom} {d : Oer.Detail c} {f : Oer.Detail c → OerForm} → ((e : Oer.Detail c) → Octal free (f e)) → Octal free (varied c d f)
  unfolding Reads
  o_varied h = record { octets = λ p w r. (h r.0).octets p w r.2 }

  o_within : {x : OerForm} {f : List ℕ → OerForm} → ((a : List ℕ) → Octal free (f a)) → Octal free (within x f)
  unfolding Reads
  o_within h = record { octets = λ p w r. (h r.0).octets p w r.2 }

  o_if : (b : Bool) {x : OerForm} → (b ≡ true → Octal free x) → Octal free (only_if b x)
  o_if true h = h refl
  o_if false h = o_refused

  o_cond : (b : Bool) {x y : OerForm} → Octal free x → Octal free y → Octal free (cond b x y)
  o_cond true h k = h
  o_cond false h k = k

  o_given : {X : Type 0} (o : Option X) {f : X → OerForm} → ((z : X) → o ≡ Some z → Octal free (f z)) → Octal free (given o f)
  o_given None h = o_refused
  o_given (Some z) h = h z refl

  abbrev OctalEach : List OerForm → Type 0
  OctalEach [] = Unit {0}
  OctalEach (x ∷ xs) = Octal free x × OctalEach xs

  o_joined : (xs : List OerForm) → OctalEach xs → Octal free (joined xs)
  o_joined [] h = o_exactly [] refl
  o_joined (x ∷ xs) h = o_both h.0 (o_joined xs h.1)

  -- ---- numbers and lengths
  o_length_in : (n : ℕ) (o : Option ℕ) → Octal free (elim o as (λ x. OerForm) [ None ↦ only_if (ltb n 128) (exactly (n ∷ [])) | Some k ↦ Oer.long_length n k ])
  o_length_in n None = o_if (ltb n 128) (λ h. let a : n < 128 = ltb-true n 128 h in o_exactly (n ∷ []) (one_octet n (omega arith)))
  o_length_in n (Some k) = o_if (leb 1 k && leb k 127 && leb (octet_width n) k)
      (λ h. let a : k ≤ 127 = leb-true k 127 ((and_parts (leb 1 k) (leb k 127)
      ((and_parts (leb 1 k && leb k 127) (leb (octet_width n) k) h).0)).1) in o_exactly ((128 + k) ∷ digits 256 k n) (first_octet (128 + k) (digits 256 k n) (omega arith) (digits_octets k n)))

  o_length : (n : ℕ) → Octal free (Oer.length_form n)
  unfolding Oer.length_form
  o_length n = o_if (ltb n (2 ^ 64)) (λ h. o_varied (λ o. o_length_in n o))

  o_counted : (os : List ℕ) → Octal free (Oer.counted os)
  unfolding Oer.counted
  o_counted os = o_if (list_all is_octet os) (λ h. o_both (o_length (length os)) (o_exactly os h))

  o_signed : (v : ℤ) → Octal free (Oer.signed v)
  unfolding Oer.signed
  o_signed v = o_varied (λ k. o_if (leb (signed_octets v) k) (λ h. o_counted (complement k v)))

  o_unsigned : (n : ℕ) → Octal free (Oer.unsigned n)
  unfolding Oer.unsigned
  o_unsigned n = o_varied (λ k. o_if (leb (least_octets n) k) (λ h. o_counted (digits 256 k n)))

  o_natural : (o : Option ℕ) (v : ℤ) → Octal free (Oer.natural_form o v)
  o_natural (Some k) (pos n) = o_exactly (digits 256 k n) (digits_octets k n)
  o_natural None (pos n) = o_unsigned n
  o_natural (Some k) (negsuc n) = o_refused
  o_natural None (negsuc n) = o_refused

  o_signed_form : (o : Option ℕ) (v : ℤ) → Octal free (Oer.signed_form o v)
  o_signed_form (Some k) v = o_exactly (complement k v) (complement_octets k v)
  o_signed_form None v = o_signed v

  o_bounded : (low high : Option ℤ) (v : ℤ) → Octal free (Oer.bounded low high v)
  unfolding Oer.bounded
  o_bounded (Some (pos a)) (Some (pos b)) v = o_natural _ v
  o_bounded (Some (pos a)) (Some (negsuc b)) v = o_natural None v
  o_bounded (Some (pos a)) None v = o_natural None v
  o_bounded (Some (negsuc a)) (Some b) v = o_signed_form _ v
  o_bounded (Some (negsuc a)) None v = o_signed v
  o_bounded None high v = o_signed v

  o_integer : (b : Bounds) (held : Range) (v : ℤ) → Octal free (Oer.integer_form b held v)
  unfolding Oer.integer_form
  o_integer b held v = o_if (is_within held v && (not (is_bounded b) || fits_128 v)) (λ h. o_cond b.extensible (o_signed v) (o_if (is_within b.range v) (λ k. o_bounded b.range.low b.range.high v)))

  -- ---- items
  o_short_item : (v : ℤ) → Octal free (Oer.short_item v)
  o_short_item (pos n) = o_if (ltb n 128) (λ h. let a : n < 128 = ltb-true n 128 h in o_exactly (n ∷ []) (one_octet n (omega arith)))
  o_short_item (negsuc n) = o_refused

  o_long_item : (k : ℕ) (v : ℤ) → Octal free (Oer.long_item k v)
  o_long_item k v = o_if (leb (signed_octets v) k && leb k 127)
      (λ h. let a : k ≤ 127 = leb-true k 127 ((and_parts (leb (signed_octets v) k) (leb k 127) h).1) in
      o_exactly ((128 + k) ∷ complement k v) (first_octet (128 + k) (complement k v) (omega arith) (complement_octets k v)))

  o_item_in : (v : ℤ) (o : Option ℕ) → Octal free (elim o as (λ x. OerForm) [ None ↦ Oer.short_item v | Some k ↦ Oer.long_item k v ])
  o_item_in v None = o_short_item v
  o_item_in v (Some k) = o_long_item k v

  o_item : (v : ℤ) → Octal free (Oer.item_form v)
  unfolding Oer.item_form
  o_item v = o_varied (λ o. o_item_in v o)

  -- ---- bits and strings
  o_bits : (bs : List Bool) → Octal free (Oer.bits_form bs)
  unfolding Oer.bits_form
  o_bits bs = o_varied (λ unused. o_if (length unused == missing (length bs)) (λ h. o_exactly (packed (bs ++ unused)) (octets_with_unused bs unused (eqb-true _ _ h))))

  o_counted_bits : (bs : List Bool) → Octal free (Oer.counted_bits bs)
  unfolding Oer.counted_bits
  o_counted_bits bs = o_both (o_length ((length bs + 7) / 8 + 1)) (o_both (o_exactly (missing (length bs) ∷ []) (one_octet (missing (length bs)) (omega arith))) (o_bits bs))

  o_bit_string : (b : Bool) (bs : List Bool) → Octal free (Oer.bit_string_form b bs)
  unfolding Oer.bit_string_form
  o_bit_string true bs = o_bits bs
  o_bit_string false bs = o_varied (λ e. o_cond e (o_if (length bs == 0) (λ h. o_length 0)) (o_counted_bits bs))

  o_octets : (b : Bool) (os : List ℕ) → Octal free (Oer.octets_form b os)
  unfolding Oer.octets_form
  o_octets true os = o_if (list_all is_octet os) (λ h. o_exactly os h)
  o_octets false os = o_counted os

  -- ---- tags and open types
  o_tag : (t : Tag) → is_tag t ≡ true → Octal free (Oer.tag_form t)
  unfolding Oer.tag_form
  o_tag t h =
      let a : t.class ≤ 3 = leb-true t.class 3 h in
      o_varied (λ long. o_cond long
      (o_if (leb 1 t.number) (λ k. o_exactly ((t.class * 64 + 63) ∷ groups_of_seven t.number) (first_octet (t.class * 64 + 63) (groups_of_seven t.number) (omega arith) (groups_octets t.number))))
      (o_if (ltb t.number 63) (λ k. let b : t.number < 63 = ltb-true t.number 63 k in o_exactly ((t.class * 64 + t.number) ∷ []) (one_octet (t.class * 64 + t.number) (omega arith)))))

  o_open : (x : OerForm) → Octal free (Oer.open_type x)
  unfolding Oer.open_type
  o_open x = o_within (λ w. o_varied (λ more. o_counted (w ++ more)))

  o_spelled : (o : Presence) (s : Schema) (v : Value) (x : OerForm) → Octal free x → Octal free (Oer.spelled o s v x)
  unfolding Oer.spelled
  o_spelled o s v x h = o_cond (is_at_default o s v) (o_varied (λ b. o_if b (λ k. h))) (o_cond (is_group_left_out s v) (o_varied (λ b. o_if b (λ k. h))) h)

  -- ---- sequences
  o_preamble : (bs : List Bool) → Octal free (Oer.preamble bs)
  o_preamble bs = o_exactly _ (octets_with_unused bs (replicate (missing (length bs)) false) (length-replicate (missing (length bs)) false))

  abbrev OctalOnes : List (Option OerForm) → Type 0
  OctalOnes [] = Unit {0}
  OctalOnes (None ∷ xs) = OctalOnes xs
  OctalOnes (Some x ∷ xs) = Octal free x × OctalOnes xs

  o_ones : (xs : List (Option OerForm)) → OctalOnes xs → OctalEach (present_ones xs)
  o_ones [] h = tt
  o_ones (None ∷ xs) h = o_ones xs h
  o_ones (Some x ∷ xs) h = (h.0, o_ones xs h.1)

  o_further : (os : List (Option (List ℕ))) → OctalOnes (map (option_map Oer.counted) os)
  o_further [] = tt
  o_further (None ∷ os) = o_further os
  o_further (Some o ∷ os) = (o_counted o, o_further os)

  o_taken : (n : ℕ) (xs ys : List (Option OerForm)) → OctalOnes xs → OctalOnes ys → OctalOnes (take n xs ++ ys)
  o_taken zero xs ys h k = k
  o_taken (suc n) [] ys h k = k
  o_taken (suc n) (None ∷ xs) ys h k = o_taken n xs ys h k
  o_taken (suc n) (Some x ∷ xs) ys h k = (h.0, o_taken n xs ys h.1 k)

  o_covered_by : (t : Bool) (b : Bitmap) (xs all : List (Option OerForm)) → cond t (Some (take b.covered xs ++ map (option_map Oer.counted) b.further)) None ≡ Some all → OctalOnes xs → OctalOnes all
  o_covered_by true b xs all e h = subst (λ l. OctalOnes l) (some_parts e) (o_taken b.covered xs _ h (o_further b.further))
  o_covered_by false b xs all e h = cc

  o_additions : (xs : List (Option OerForm)) → OctalOnes xs → Octal free (Oer.additions xs)
  unfolding Oer.additions
  o_additions xs h = o_both (o_counted_bits _) (o_joined _ (o_ones xs h))

  o_with : (ms : List Bool) (root : OerForm) (xs : List (Option OerForm)) → Octal free root → OctalOnes xs → Octal free (Oer.with_additions ms root xs)
  unfolding Oer.with_additions
  o_with ms root xs h k = o_both (o_preamble (true ∷ ms)) (o_both h (o_additions xs k))

  o_bitmapped : (ms : List Bool) (root : OerForm) (xs : List (Option OerForm)) (o : Option Bitmap) → Octal free root → OctalOnes xs → Octal free (Oer.bitmapped ms root xs o)
  unfolding Oer.bitmapped
  o_bitmapped ms root xs None h k = o_if (not (is_any_present xs)) (λ e. o_both (o_preamble (false ∷ ms)) h)
  o_bitmapped ms root xs (Some b) h k = o_given (covered_by Oer.counted b xs) (λ all e.
      let a = o_covered_by (not (is_any_present (drop b.covered xs)) && (ltb (length xs) (b.covered + 1) || length b.further == 0)) b xs all e k in
      o_cond (is_any_present all) (o_with ms root all h a) (o_varied (λ t. o_if t (λ u. o_with ms root all h a))))

  o_sequence : (e : Bool) (ms : List Bool) (root : OerForm) (xs : List (Option OerForm)) → Octal free root → OctalOnes xs → Octal free (Oer.sequence_form e ms root xs)
  unfolding Oer.sequence_form
  o_sequence false ms root [] h k = o_both (o_preamble ms) h
  o_sequence false ms root (x ∷ xs) h k = o_refused
  o_sequence true ms root xs h k = o_varied (λ b. o_bitmapped ms root xs b h k)

  -- ---- SEQUENCE OF and SET OF
  o_members : (held : Counts) (xs : List OerForm) → OctalEach xs → Octal free (Oer.members_form held xs)
  unfolding Oer.members_form
  o_members held xs h = o_if (is_count_within held (length xs)) (λ k. o_both (o_unsigned (length xs)) (o_joined xs h))

  o_picked : (i : ℕ) (xs : List OerForm) (x : OerForm) (rest : List OerForm) → pick i xs ≡ Some (x, rest) → OctalEach xs → Octal free x × OctalEach rest
  o_picked i [] x rest e h = cc
  o_picked zero (z ∷ xs) x rest e h =
      let u : OerForm × List OerForm = (z, xs) in
      let v : OerForm × List OerForm = (x, rest) in
      let g : u ≡ v = some_parts e in
      (subst (λ z. Octal free z) (ap (λ (p : OerForm × List OerForm). p.0) g) h.0, subst (λ l. OctalEach l) (ap (λ (p : OerForm × List OerForm). p.1) g) h.1)
  o_picked (suc i) (z ∷ xs) x rest e h =
      let q = map_parts (pick i xs) (λ (p : OerForm × List OerForm). (p.0, z ∷ p.1)) (x, rest) e in
      let n = o_picked i xs q.0.0 q.0.1 q.1 h.1 in
      (subst (λ z. Octal free z) (ap (λ (p : OerForm × List OerForm). p.0) q.2) n.0, subst (λ l. OctalEach l) (ap (λ (p : OerForm × List OerForm). p.1) q.2) (h.0, n.1))

  o_arranged : (is : List ℕ) (xs zs : List OerForm) → arranged is xs ≡ Some zs → OctalEach xs → OctalEach zs
  o_arranged [] [] zs e h = subst (λ l. OctalEach l) (some_parts e) h
  o_arranged [] (x ∷ xs) zs e h = cc
  o_arranged (i ∷ is) xs zs e h =
      let q = arranged_parts i is xs zs e in
      let p = o_picked i xs q.0 q.1 q.3 h in
      subst (λ l. OctalEach l) q.5 (p.0, o_arranged is q.1 q.2 q.4 p.1)

  o_ordered : {K : Type 0} (key : OerForm → Option K) (before : K → K → Bool) (o : Option (List ℕ)) (xs zs : List OerForm) →
      in_order (ascending key before xs) o xs ≡ Some zs → OctalEach xs → OctalEach zs
  o_ordered key before None xs zs e h = let c = ascending_code key before xs zs e in o_arranged c.0 xs zs c.1 h
  o_ordered key before (Some is) xs zs e h = o_arranged is xs zs e h

  o_bag : (held : Counts) (xs : List OerForm) → OctalEach xs → Octal free (Oer.in_any_order xs (Oer.members_form held))
  unfolding Oer.in_any_order
  o_bag held xs h = o_varied (λ o. o_given (in_order (ascending (λ x. written x 0) (stands_before ltb) xs) o xs)
      (λ zs e. o_members held zs (o_ordered (λ x. written x 0) (stands_before ltb) o xs zs e h)))

  o_each : (f : Value → OerForm) (vs : Values) → ((v : Value) → Octal free (f v)) → OctalEach (each f vs)
  o_each f no_more h = tt
  o_each f (member v vs) h = (h v, o_each f vs h)

  o_kept : (b : Bool) (o : Option (List (Option OerForm))) (xs : List (Option OerForm)) → cond b None o ≡ Some xs → o ≡ Some xs
  o_kept true o xs e = cc
  o_kept false o xs e = e

  -- ---- all kinds
  mutual
    unfolding Oer.form Oer.component_forms Oer.addition_forms Oer.alternative_form is_lawful are_lawful are_lawful_alternatives

    o_form : (s : Schema) (v : Value) → is_lawful s ≡ true → Octal free (Oer.form s v)
    o_form boolean (truth false) l = o_exactly (0 ∷ []) refl
    o_form boolean (truth true) l = o_varied (λ o. o_if (leb 1 o && is_octet o) (λ h. o_exactly (o ∷ []) (one_octet o (ltb-true o 256 ((and_parts _ _ h).1)))))
    o_form null nothing l = o_exactly [] refl
    o_form (integer b held) (number v) l = o_integer b held v
    o_form (enumerated roots e adds) (item v) l = o_if (is_some (item_place v roots) || (e && is_some (item_place v adds))) (λ h. o_item v)
    o_form (bit_string z held) (bit_list bs) l = o_if (admits z held (length bs)) (λ h. o_bit_string (Oer.is_fixed z) bs)
    o_form (octet_string z held) (octet_list os) l = o_if (admits z held (length os)) (λ h. o_octets (Oer.is_fixed z) os)
    o_form (character_string k z a held) (text cs) l = o_if (admits z held (length cs) && may_hold k cs) (λ h. o_octets (Oer.is_fixed z) (Oer.string_octets k cs))
    o_form object_identifier (arcs ns) l = o_if (is_identifier ns) (λ h. o_counted (identifier_octets ns))
    o_form (sequence_of z held s) (members vs) l = o_members held _ (o_each (λ v. Oer.form s v) vs (λ v. o_form s v ((and_parts _ _ l).1)))
    o_form (set_of z held s) (bag vs) l = o_bag held _ (o_each (λ v. Oer.form s v) vs (λ v. o_form s v ((and_parts _ _ l).1)))
    o_form (sequence cs e adds) (fields ps qs) l =
        o_given (Oer.addition_forms adds qs) (λ xs h. o_sequence e (presence_bits cs ps) _ xs
        (o_components cs ps ((and_parts _ _ ((and_parts _ _ l).0)).1)) (o_added adds qs xs ((and_parts _ _ l).1) h))
    o_form (set cs e adds) (fields ps qs) l =
        o_given (Oer.addition_forms adds qs) (λ xs h. o_sequence e (presence_bits cs ps) _ xs
        (o_components cs ps ((and_parts _ _ ((and_parts _ _ l).0)).1)) (o_added adds qs xs ((and_parts _ _ l).1) h))
    o_form (group cs) (fields ps end) l = o_both (o_preamble (presence_bits cs ps)) (o_components cs ps ((and_parts _ _ l).1))
    o_form (choice roots e adds) (chosen false i v) l = o_alternative false roots i v ((and_parts _ _ ((and_parts _ _ l).0)).1)
    o_form (choice roots true adds) (chosen true i v) l = o_alternative true adds i v ((and_parts _ _ l).1)
    o_form s v l = o_refused

    o_components : (cs : Components) (ps : Parts) → are_lawful cs ≡ true → Octal free (Oer.component_forms cs ps)
    o_components no_component end l = o_exactly [] refl
    o_components (component t o s cs) (present v ps) l = o_both (o_spelled o s v _ (o_form s v ((and_parts _ _ ((and_parts _ _ l).0)).1))) (o_components cs ps ((and_parts _ _ l).1))
    o_components (component t o s cs) (absent ps) l = o_cond (is_required o) o_refused (o_components cs ps ((and_parts _ _ l).1))
    o_components cs ps l = o_refused

    o_added : (cs : Components) (ps : Parts) (xs : List (Option OerForm)) → are_lawful cs ≡ true → Oer.addition_forms cs ps ≡ Some xs → OctalOnes xs
    o_added no_component end xs l e = subst (λ l. OctalOnes l) (some_parts e) tt
    o_added (component t o s cs) (present v ps) xs l e =
        let q = map_parts (Oer.addition_forms cs ps) (λ (ys : List (Option OerForm)). Some (Oer.spelled o s v (Oer.open_type (Oer.form s v))) ∷ ys) xs e in
        subst (λ l. OctalOnes l) q.2 (o_spelled o s v _ (o_open (Oer.form s v)), o_added cs ps q.0 ((and_parts _ _ l).1) q.1)
    o_added (component t o s cs) (absent ps) xs l e =
        let q = map_parts (Oer.addition_forms cs ps) (λ (ys : List (Option OerForm)). None ∷ ys) xs (o_kept (is_required o) _ _ e) in
        subst (λ l. OctalOnes l) q.2 (o_added cs ps q.0 ((and_parts _ _ l).1) q.1)
    o_added cs ps xs l e = cc

    o_alternative : (added : Bool) (others : Alternatives) (i : ℕ) (v : Value) → are_lawful_alternatives others ≡ true → Octal free (Oer.alternative_form added others i v)
    o_alternative false (alternative t s others) zero v l = o_both (o_tag t ((and_parts _ _ ((and_parts _ _ ((and_parts _ _ l).0)).0)).0)) (o_form s v ((and_parts _ _ ((and_parts _ _ l).0)).1))
    o_alternative true (alternative t s others) zero v l = o_both (o_tag t ((and_parts _ _ ((and_parts _ _ ((and_parts _ _ l).0)).0)).0)) (o_open (Oer.form s v))
    o_alternative added (alternative t s others) (suc i) v l = o_alternative added others i v ((and_parts _ _ l).1)
    o_alternative added no_alternative i v l = o_refused

pub oer_octets : (free : Oer.Freedom → Bool) (s : Schema) (v : Value) (p : ℕ) (w : List ℕ) → is_lawful s ≡ true → Reads free (Oer.form s v) p w → list_all is_octet w ≡ true
oer_octets free s v p w l r = (o_form free s v l).octets p w r
