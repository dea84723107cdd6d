-- These forms are read in the same way at every position.
use Rattle.std.proofs.Common.{◌≡◌, ℕ, zero, suc, ◌+◌, ltb, leb, Bool, true, false, cond, List, [], ◌∷◌, ◌++◌, length, map, Option, Some, None, option_map, take, refl, sym, subst}
use Rattle.std.specs.Prelude.{ℤ, pos, negsuc, ◌^◌}
use Rattle.asn1_model.specs.Value.{Value, truth, nothing, number, item, bit_list, octet_list, text, arcs, members, bag, fields, chosen, Values, no_more, member, Parts, end, absent, present, each}
use Rattle.asn1_model.specs.Schema.{Tag, Range, Bounds, Counts, Presence, Schema, cut, boolean, null, integer}
use Rattle.asn1_model.specs.Schema.{enumerated, bit_string, octet_string, character_string, object_identifier}
use Rattle.asn1_model.specs.Schema.{sequence_of, set_of, sequence, set, group, choice, Components, no_component}
use Rattle.asn1_model.specs.Schema.{component, Alternatives, no_alternative, alternative}
use Rattle.asn1_model.specs.Numbers.{digits, least_octets, signed_octets, complement}
use Rattle.asn1_model.specs.Normal.{is_at_default, is_group_left_out}
use Rattle.asn1_model.specs.Form.{exactly, refused, both, varied, within, Reads, only_if, given, joined, Bitmap, is_any_present, present_ones, stands_before, written}
use Rattle.asn1_model.specs.Normal.{is_required, presence_bits}
use Rattle.asn1_model.specs.Strings.{is_octet}
use Rattle.std.specs.List.{list_all}
use Rattle.asn1_model.specs.Oer
use Rattle.asn1_laws_values.proofs.Listed.{listed, each_is_map, order_map}

-- a form that is read in the same way at every position
pub record Anywhere (free : Oer.Freedom → Bool) (x : Oer.OctetForm) : Type 0 where
  pub moved : (p q : ℕ) (w : List ℕ) → Reads free x p w → Reads free x q w

module _ (free : Oer.Freedom → Bool) where
  abbrev pub Moves : Oer.OctetForm → Type 0
  Moves x = Anywhere free x

  pub moves_exactly : (l : List ℕ) → Moves (exactly l)
  unfolding Reads
  moves_exactly l = record { moved = λ p q w r. r }

  pub moves_refused : Moves refused
  unfolding Reads
  moves_refused = record { moved = λ p q w r. r }

  pub moves_both : {x y : Oer.OctetForm} → Moves x → Moves y → Moves (both x y)
  unfolding Reads
  moves_both h k = record { moved = λ p q w r. (r.0, r.1, h.moved p q r.0 r.2, k.moved (p + length r.0) (q + length r.0) r.1 r.3, r.4) }

  pub moves_varied : {c : Oer.Freedom} {d : Oer.Detail c} {f : Oer.Detail c → Oer.OctetForm} → ((e : Oer.Detail c) → Moves (f e)) → Moves (varied c d f)
  unfolding Reads
  moves_varied h = record { moved = λ p q w r. (r.0, r.1, (h r.0).moved p q w r.2) }

  pub moves_within : {x : Oer.OctetForm} {f : List ℕ → Oer.OctetForm} → ((w : List ℕ) → Moves (f w)) → Moves (within x f)
  unfolding Reads
  moves_within h = record { moved = λ p q w r. (r.0, r.1, (h r.0).moved p q w r.2) }

  pub moves_cond : (b : Bool) {x y : Oer.OctetForm} → Moves x → Moves y → Moves (cond b x y)
  moves_cond true h k = h
  moves_cond false h k = k

  pub moves_if : (b : Bool) {x : Oer.OctetForm} → Moves x → Moves (only_if b x)
  moves_if true h = h
  moves_if false h = moves_refused

  pub moves_given : {X : Type 0} (o : Option X) {f : X → Oer.OctetForm} → ((x : X) → Moves (f x)) → Moves (given o f)
  moves_given None h = moves_refused
  moves_given (Some x) h = h x

  -- ---- scalars
  some_length : (n : ℕ) (o : Option ℕ) → Moves (elim o [ None ↦ only_if (ltb n 128) (exactly (n ∷ [])) | Some k ↦ Oer.long_length n k ])
  some_length n None = moves_if (ltb n 128) (moves_exactly _)
  some_length n (Some k) = moves_if _ (moves_exactly _)

  pub length_moves : (n : ℕ) → Moves (Oer.length_form n)
  unfolding Oer.length_form
  length_moves n = moves_if (ltb n (2 ^ 64)) (moves_varied {c = Oer.longer_length} (λ o. some_length n o))

  pub counted_moves : (os : List ℕ) → Moves (Oer.counted os)
  unfolding Oer.counted
  counted_moves os = moves_if (list_all is_octet os) (moves_both (length_moves (length os)) (moves_exactly os))

  signed_moves : (v : ℤ) → Moves (Oer.signed v)
  unfolding Oer.signed
  signed_moves v = moves_varied {c = Oer.longer_number} (λ k. moves_if (leb (signed_octets v) k) (counted_moves (complement k v)))

  pub unsigned_moves : (n : ℕ) → Moves (Oer.unsigned n)
  unfolding Oer.unsigned
  unsigned_moves n = moves_varied {c = Oer.longer_number} (λ k. moves_if (leb (least_octets n) k) (counted_moves (digits 256 k n)))

  natural_moves : (o : Option ℕ) (v : ℤ) → Moves (Oer.natural_form o v)
  natural_moves (Some k) (pos n) = moves_exactly _
  natural_moves None (pos n) = unsigned_moves n
  natural_moves (Some k) (negsuc n) = moves_refused
  natural_moves None (negsuc n) = moves_refused

  signed_form_moves : (o : Option ℕ) (v : ℤ) → Moves (Oer.signed_form o v)
  signed_form_moves (Some k) v = moves_exactly _
  signed_form_moves None v = signed_moves v

  bounded_moves : (low high : Option ℤ) (v : ℤ) → Moves (Oer.bounded low high v)
  unfolding Oer.bounded
  bounded_moves (Some (pos low)) (Some (pos high)) v = natural_moves _ v
  bounded_moves (Some (pos low)) (Some (negsuc high)) v = natural_moves None v
  bounded_moves (Some (pos low)) None v = natural_moves None v
  bounded_moves (Some (negsuc low)) (Some high) v = signed_form_moves _ v
  bounded_moves (Some (negsuc low)) None v = signed_moves v
  bounded_moves None high v = signed_moves v

  integer_moves : (b : Bounds) (h : Range) (v : ℤ) → Moves (Oer.integer_form b h v)
  unfolding Oer.integer_form
  integer_moves b h v = moves_if _ (moves_cond b.extensible (signed_moves v) (moves_if _ (bounded_moves b.range.low b.range.high v)))

  short_item_moves : (v : ℤ) → Moves (Oer.short_item v)
  short_item_moves (pos n) = moves_if _ (moves_exactly _)
  short_item_moves (negsuc n) = moves_refused

  some_item : (v : ℤ) (o : Option ℕ) → Moves (elim o [ None ↦ Oer.short_item v | Some k ↦ Oer.long_item k v ])
  some_item v None = short_item_moves v
  some_item v (Some k) = moves_if _ (moves_exactly _)

  item_moves : (v : ℤ) → Moves (Oer.item_form v)
  unfolding Oer.item_form
  item_moves v = moves_varied {c = Oer.longer_item} (λ o. some_item v o)

  bits_move : (bs : List Bool) → Moves (Oer.bits_form bs)
  unfolding Oer.bits_form
  bits_move bs = moves_varied {c = Oer.any_unused_bits} (λ unused. moves_if _ (moves_exactly _))

  pub counted_bits_move : (bs : List Bool) → Moves (Oer.counted_bits bs)
  unfolding Oer.counted_bits
  counted_bits_move bs = moves_both (length_moves _) (moves_both (moves_exactly _) (bits_move bs))

  bit_string_moves : (t : Bool) (bs : List Bool) → Moves (Oer.bit_string_form t bs)
  unfolding Oer.bit_string_form
  bit_string_moves true bs = bits_move bs
  bit_string_moves false bs = moves_varied {c = Oer.empty_bit_string} (λ e. moves_cond e (moves_if _ (length_moves 0)) (counted_bits_move bs))

  octets_move : (t : Bool) (os : List ℕ) → Moves (Oer.octets_form t os)
  unfolding Oer.octets_form
  octets_move true os = moves_if _ (moves_exactly _)
  octets_move false os = counted_moves os

  pub tag_moves : (t : Tag) → Moves (Oer.tag_form t)
  unfolding Oer.tag_form
  tag_moves t = moves_varied {c = Oer.long_tag} (λ long. moves_cond long (moves_if _ (moves_exactly _)) (moves_if _ (moves_exactly _)))

  -- ---- components and additions
  pub open_moves : (x : Oer.OctetForm) → Moves (Oer.open_type x)
  unfolding Oer.open_type
  open_moves x = moves_within (λ w. moves_varied {c = Oer.octets_behind} (λ more. counted_moves (w ++ more)))

  pub spelled_moves : (o : Presence) (s : Schema) (v : Value) (x : Oer.OctetForm) → Moves x → Moves (Oer.spelled o s v x)
  unfolding Oer.spelled
  spelled_moves o s v x h = moves_cond (is_at_default o s v) (moves_varied {c = Oer.default_spelled_out} (λ b. moves_if b h))
      (moves_cond (is_group_left_out s v) (moves_varied {c = Oer.empty_group} (λ b. moves_if b h)) h)

  abbrev pub EachMoves : List (Option Oer.OctetForm) → Type 0
  EachMoves [] = Unit {0}
  EachMoves (None ∷ xs) = EachMoves xs
  EachMoves (Some x ∷ xs) = Moves x × EachMoves xs

  pub joined_moves : (xs : List (Option Oer.OctetForm)) → EachMoves xs → Moves (joined (present_ones xs))
  joined_moves [] h = moves_exactly []
  joined_moves (None ∷ xs) h = joined_moves xs h
  joined_moves (Some x ∷ xs) h = moves_both h.0 (joined_moves xs h.1)

  pub each_unknown_moves : (xs : List (Option (List ℕ))) → EachMoves (map (option_map (λ os. Oer.counted os)) xs)
  each_unknown_moves [] = tt
  each_unknown_moves (None ∷ xs) = each_unknown_moves xs
  each_unknown_moves (Some os ∷ xs) = (counted_moves os, each_unknown_moves xs)

  -- ---- elements
  mapped_move : (f : Value → Oer.OctetForm) → ((v : Value) → Moves (f v)) → (vs : List Value) → Moves (joined (map f vs))
  mapped_move f h [] = moves_exactly []
  mapped_move f h (v ∷ vs) = moves_both (h v) (mapped_move f h vs)

  pub all_move : (f : Value → Oer.OctetForm) → ((v : Value) → Moves (f v)) → (vs : Values) → Moves (joined (each f vs))
  all_move f h no_more = moves_exactly []
  all_move f h (member v vs) = moves_both (h v) (all_move f h vs)

  list_moves : (held : Counts) (f : Value → Oer.OctetForm) → ((v : Value) → Moves (f v)) → (vs : Values) → Moves (Oer.members_form held (each f vs))
  unfolding Oer.members_form
  list_moves held f h vs = moves_if _ (moves_both (unsigned_moves _) (all_move f h vs))

  members_move : (held : Counts) (f : Value → Oer.OctetForm) → ((v : Value) → Moves (f v)) → (vs : List Value) → Moves (Oer.members_form held (map f vs))
  unfolding Oer.members_form
  members_move held f h vs = moves_if _ (moves_both (unsigned_moves _) (mapped_move f h vs))

  found_moves : {X : Type 0} (o : Option X) {f : X → Oer.OctetForm} → ((x : X) → o ≡ Some x → Moves (f x)) → Moves (given o f)
  found_moves None h = moves_refused
  found_moves (Some x) h = h x refl

  bag_moves : (held : Counts) (f : Value → Oer.OctetForm) → ((v : Value) → Moves (f v)) → (vs : List Value) → Moves (Oer.in_any_order (map f vs) (Oer.members_form held))
  unfolding Oer.in_any_order
  bag_moves held f h vs = moves_varied {c = Oer.other_order} (λ o. found_moves _ (λ ys e.
      let q = order_map f (λ x. written x 0) (stands_before ltb) o vs ys e in
      subst (λ l. Moves (Oer.members_form held l)) q.3 (members_move held f h q.1)))

  -- ---- sequences
  before_moves : (n : ℕ) (xs ys : List (Option Oer.OctetForm)) → EachMoves xs → EachMoves ys → EachMoves (take n xs ++ ys)
  before_moves zero [] ys h k = k
  before_moves zero (x ∷ xs) ys h k = k
  before_moves (suc n) [] ys h k = k
  before_moves (suc n) (None ∷ xs) ys h k = before_moves n xs ys h k
  before_moves (suc n) (Some x ∷ xs) ys h k = (h.0, before_moves n xs ys h.1 k)

  pub with_moves : (ms : List Bool) (root : Oer.OctetForm) (xs : List (Option Oer.OctetForm)) → Moves root → EachMoves xs → Moves (Oer.with_additions ms root xs)
  unfolding Oer.with_additions Oer.additions
  with_moves ms root xs h k = moves_both (moves_exactly _) (moves_both h (moves_both (counted_bits_move _) (joined_moves xs k)))

  told_moves : (ms : List Bool) (root : Oer.OctetForm) (all : List (Option Oer.OctetForm)) → Moves root → EachMoves all →
      Moves (cond (is_any_present all) (Oer.with_additions ms root all) (varied Oer.empty_bitmap false (λ e. only_if e (Oer.with_additions ms root all))))
  told_moves ms root all h k = moves_cond (is_any_present all) (with_moves ms root all h k) (moves_varied {c = Oer.empty_bitmap} (λ e. moves_if e (with_moves ms root all h k)))

  tells_moves : (t : Bool) (ms : List Bool) (root : Oer.OctetForm) (all : List (Option Oer.OctetForm)) → Moves root → EachMoves all →
      Moves (given (cond t (Some all) None) (λ all. cond (is_any_present all) (Oer.with_additions ms root all) (varied Oer.empty_bitmap false (λ e. only_if e (Oer.with_additions ms root all)))))
  tells_moves true ms root all h k = told_moves ms root all h k
  tells_moves false ms root all h k = moves_refused

  bitmapped_moves : (ms : List Bool) (root : Oer.OctetForm) (xs : List (Option Oer.OctetForm)) (b : Option Bitmap) → Moves root → EachMoves xs → Moves (Oer.bitmapped ms root xs b)
  unfolding Oer.bitmapped
  bitmapped_moves ms root xs None h k = moves_if _ (moves_both (moves_exactly _) h)
  bitmapped_moves ms root xs (Some b) h k = tells_moves _ ms root (take b.covered xs ++ map (option_map (λ os. Oer.counted os)) b.further) h
      (before_moves b.covered xs _ k (each_unknown_moves b.further))

  sequence_moves : (e : Bool) (ms : List Bool) (root : Oer.OctetForm) (xs : List (Option Oer.OctetForm)) → Moves root → EachMoves xs → Moves (Oer.sequence_form e ms root xs)
  unfolding Oer.sequence_form
  sequence_moves false ms root [] h k = moves_both (moves_exactly _) h
  sequence_moves false ms root (x ∷ xs) h k = moves_refused
  sequence_moves true ms root xs h k = moves_varied {c = Oer.other_bitmap} (λ b. bitmapped_moves ms root xs b h k)

  -- ---- every form
  abbrev pub AllMove : Option (List (Option Oer.OctetForm)) → Type 0
  AllMove None = Unit {0}
  AllMove (Some xs) = EachMoves xs

  more_move : (x : Option Oer.OctetForm) → EachMoves (x ∷ []) → (o : Option (List (Option Oer.OctetForm))) → AllMove o → AllMove (option_map (λ xs. x ∷ xs) o)
  more_move x h None k = tt
  more_move None h (Some xs) k = k
  more_move (Some x) h (Some xs) k = (h.0, k)

  left_out_move : (q : Bool) (o : Option (List (Option Oer.OctetForm))) → AllMove o → AllMove (cond q None (option_map (λ xs. None ∷ xs) o))
  left_out_move true o h = tt
  left_out_move false o h = more_move None tt o h

  fields_move : (e : Bool) (ms : List Bool) (root : Oer.OctetForm) (o : Option (List (Option Oer.OctetForm))) → Moves root → AllMove o → Moves (given o (Oer.sequence_form e ms root))
  fields_move e ms root None h k = moves_refused
  fields_move e ms root (Some xs) h k = sequence_moves e ms root xs h k

  mutual
    unfolding Oer.form Oer.component_forms Oer.addition_forms Oer.alternative_form

    pub form_moves : (s : Schema) (v : Value) → Moves (Oer.form s v)
    form_moves boolean (truth false) = moves_exactly _
    form_moves boolean (truth true) = moves_varied {c = Oer.any_truth} (λ o. moves_if _ (moves_exactly _))
    form_moves boolean v = moves_refused
    form_moves null nothing = moves_exactly _
    form_moves null v = moves_refused
    form_moves (integer b h) (number v) = integer_moves b h v
    form_moves (integer b h) v = moves_refused
    form_moves (enumerated roots e adds) (item v) = moves_if _ (item_moves v)
    form_moves (enumerated roots e adds) v = moves_refused
    form_moves (bit_string z h) (bit_list bs) = moves_if _ (bit_string_moves _ bs)
    form_moves (bit_string z h) v = moves_refused
    form_moves (octet_string z h) (octet_list os) = moves_if _ (octets_move _ os)
    form_moves (octet_string z h) v = moves_refused
    form_moves (character_string k z a h) (text cs) = moves_if _ (octets_move _ _)
    form_moves (character_string k z a h) v = moves_refused
    form_moves object_identifier (arcs ns) = moves_if _ (counted_moves _)
    form_moves object_identifier v = moves_refused
    form_moves (sequence_of z h s) (members vs) = list_moves h (λ v. Oer.form s v) (λ v. form_moves s v) vs
    form_moves (sequence_of z h s) v = moves_refused
    form_moves (set_of z h s) (bag vs) = subst (λ l. Moves (Oer.in_any_order l (Oer.members_form h))) (sym (each_is_map (λ v. Oer.form s v) vs))
        (bag_moves h (λ v. Oer.form s v) (λ v. form_moves s v) (listed vs))
    form_moves (set_of z h s) v = moves_refused
    form_moves (sequence cs e adds) (fields ps qs) = fields_move e (presence_bits cs ps) (Oer.component_forms cs ps) (Oer.addition_forms adds qs) (components_move cs ps) (additions_move adds qs)
    form_moves (sequence cs e adds) v = moves_refused
    form_moves (set cs e adds) (fields ps qs) = fields_move e (presence_bits cs ps) (Oer.component_forms cs ps) (Oer.addition_forms adds qs) (components_move cs ps) (additions_move adds qs)
    form_moves (set cs e adds) v = moves_refused
    form_moves (group cs) (fields ps end) = moves_both (moves_exactly _) (components_move cs ps)
    form_moves (group cs) v = moves_refused
    form_moves (choice roots e adds) (chosen false i v) = alternative_moves false roots i v
    form_moves (choice roots true adds) (chosen true i v) = alternative_moves true adds i v
    form_moves (choice roots e adds) v = moves_refused
    form_moves cut v = moves_refused

    pub components_move : (cs : Components) (ps : Parts) → Moves (Oer.component_forms cs ps)
    components_move no_component end = moves_exactly []
    components_move (component t o s cs) (present v ps) = moves_both (spelled_moves o s v _ (form_moves s v)) (components_move cs ps)
    components_move (component t o s cs) (absent ps) = moves_cond (is_required o) moves_refused (components_move cs ps)
    components_move cs ps = moves_refused

    pub additions_move : (cs : Components) (qs : Parts) → AllMove (Oer.addition_forms cs qs)
    additions_move no_component end = tt
    additions_move no_component (absent qs) = tt
    additions_move no_component (present v qs) = tt
    additions_move (component t o s cs) (present v qs) = more_move (Some (Oer.spelled o s v (Oer.open_type (Oer.form s v))))
        (spelled_moves o s v _ (open_moves _), tt) (Oer.addition_forms cs qs) (additions_move cs qs)
    additions_move (component t o s cs) (absent qs) = left_out_move (is_required o) (Oer.addition_forms cs qs) (additions_move cs qs)
    additions_move (component t o s cs) end = tt

    pub alternative_moves : (b : Bool) (others : Alternatives) (i : ℕ) (v : Value) → Moves (Oer.alternative_form b others i v)
    alternative_moves false (alternative t s others) zero v = moves_both (tag_moves t) (form_moves s v)
    alternative_moves true (alternative t s others) zero v = moves_both (tag_moves t) (open_moves _)
    alternative_moves false (alternative t s others) (suc i) v = alternative_moves false others i v
    alternative_moves true (alternative t s others) (suc i) v = alternative_moves true others i v
    alternative_moves b no_alternative i v = moves_refused
