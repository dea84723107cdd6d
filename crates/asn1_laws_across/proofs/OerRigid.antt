-- In the octet rules a strict reader accepts only the canonical encoding of a rigid type.
use Rattle.std.specs.Prelude.{ℤ, pos, negsuc}
use Rattle.std.proofs.Common.{◌≡◌, ℕ, zero, suc, ◌+◌, ◌/◌, ◌^◌, leb, ltb, not, Bool, true, false, cond, ◌&&◌, ◌||◌, List, [], ◌∷◌, length, Option, Some, None, refl}
use Rattle.std.proofs.lemmas.Bool.{and_parts}
use Rattle.asn1_model.specs.Numbers.{admits}
use Rattle.asn1_model.specs.Value.{Value, Values, no_more, member, truth, nothing, number, item, bit_list, octet_list, text, arcs, members, fields, chosen, Parts, end, absent, present, each}
use Rattle.asn1_model.specs.Schema.{Tag, Range, Bounds, Counts, Presence, Schema, boolean, null, integer, enumerated}
use Rattle.asn1_model.specs.Schema.{bit_string, octet_string, character_string, object_identifier, sequence_of, set_of}
use Rattle.asn1_model.specs.Schema.{sequence, set, group, choice, Components, no_component, component, Alternatives}
use Rattle.asn1_model.specs.Schema.{no_alternative, alternative}
use Rattle.asn1_model.specs.Numbers.{digits, octet_width, least_octets, signed_octets, complement, is_within, is_count_within, fits_128}
use Rattle.asn1_model.specs.Normal.{is_at_default, is_group_left_out}
use Rattle.asn1_model.specs.Form.{exactly, refused, only_if}
use Rattle.std.specs.Prelude.{is_some}
use Rattle.asn1_model.specs.Strings.{may_hold, is_identifier, is_octet}
use Rattle.std.specs.List.{list_all}
use Rattle.asn1_model.specs.Normal.{is_bounded, item_place, is_required, presence_bits}
use Rattle.asn1_model.specs.Rules.{strict_oer}
use Rattle.asn1_model.specs.Oer
use Rattle.asn1_laws_across.specs.Rigid.{is_rigid, are_rigid, are_rigid_alternatives}
use Rattle.asn1_laws_across.proofs.Rigid.{Rigid, rigid_exactly, rigid_refused, rigid_both, rigid_varied, rigid_within, rigid_cond, rigid_if, rigid_given, AllRigid, none, more, rigid_joined}

abbrev RigidOctets : Oer.OctetForm → Type 0
RigidOctets x = Rigid {F = Oer.Freedom} {D = Oer.Detail} {A = ℕ} strict_oer x

abbrev AllOctets : List Oer.OctetForm → Type 0
AllOctets xs = AllRigid {F = Oer.Freedom} {D = Oer.Detail} {A = ℕ} strict_oer xs

octets : (l : List ℕ) → RigidOctets (exactly l)
octets l = rigid_exactly strict_oer l

no_octets : RigidOctets refused
no_octets = rigid_refused strict_oer

-- ---- lengths and numbers
length_rigid : (n : ℕ) → RigidOctets (Oer.length_form n)
unfolding Oer.length_form
length_rigid n = rigid_if strict_oer (ltb n (2 ^ 64)) (rigid_varied strict_oer refl (by_length (ltb n 128)))
  where
    by_length : (t : Bool) → RigidOctets (elim (cond t None (Some (octet_width n))) [ None ↦ only_if (ltb n 128) (exactly (n ∷ [])) | Some k ↦ Oer.long_length n k ])
    by_length true = rigid_if strict_oer (ltb n 128) (octets _)
    by_length false = rigid_if strict_oer _ (octets _)

counted_rigid : (os : List ℕ) → RigidOctets (Oer.counted os)
unfolding Oer.counted
counted_rigid os = rigid_if strict_oer (list_all is_octet os) (rigid_both strict_oer (length_rigid (length os)) (octets os))

unsigned_rigid : (n : ℕ) → RigidOctets (Oer.unsigned n)
unfolding Oer.unsigned
unsigned_rigid n = rigid_varied strict_oer refl (rigid_if strict_oer _ (counted_rigid (digits 256 (least_octets n) n)))

signed_rigid : (v : ℤ) → RigidOctets (Oer.signed v)
unfolding Oer.signed
signed_rigid v = rigid_varied strict_oer refl (rigid_if strict_oer _ (counted_rigid (complement (signed_octets v) v)))

natural_rigid : (o : Option ℕ) (v : ℤ) → RigidOctets (Oer.natural_form o v)
natural_rigid (Some k) (pos n) = octets _
natural_rigid None (pos n) = unsigned_rigid n
natural_rigid (Some k) (negsuc n) = no_octets
natural_rigid None (negsuc n) = no_octets

signed_form_rigid : (o : Option ℕ) (v : ℤ) → RigidOctets (Oer.signed_form o v)
signed_form_rigid (Some k) v = octets _
signed_form_rigid None v = signed_rigid v

bounded_rigid : (low high : Option ℤ) (v : ℤ) → RigidOctets (Oer.bounded low high v)
unfolding Oer.bounded
bounded_rigid (Some (pos low)) (Some (pos high)) v = natural_rigid _ v
bounded_rigid (Some (pos low)) (Some (negsuc high)) v = natural_rigid None v
bounded_rigid (Some (pos low)) None v = natural_rigid None v
bounded_rigid (Some (negsuc low)) (Some high) v = signed_form_rigid _ v
bounded_rigid (Some (negsuc low)) None v = signed_rigid v
bounded_rigid None high v = signed_rigid v

integer_rigid : (b : Bounds) (held : Range) (v : ℤ) → RigidOctets (Oer.integer_form b held v)
unfolding Oer.integer_form
integer_rigid b held v = rigid_if strict_oer (is_within held v && (not (is_bounded b) || fits_128 v))
    (rigid_cond strict_oer b.extensible (signed_rigid v) (rigid_if strict_oer (is_within b.range v) (bounded_rigid b.range.low b.range.high v)))

-- ---- items, strings and tags
item_rigid : (v : ℤ) → RigidOctets (Oer.item_form v)
unfolding Oer.item_form
item_rigid v = rigid_varied strict_oer refl (by_octets (Oer.item_octets v) v)
  where
    by_octets : (o : Option ℕ) (v : ℤ) → RigidOctets (elim o [ None ↦ Oer.short_item v | Some k ↦ Oer.long_item k v ])
    by_octets None (pos n) = rigid_if strict_oer (ltb n 128) (octets _)
    by_octets None (negsuc n) = no_octets
    by_octets (Some k) v = rigid_if strict_oer _ (octets _)

bits_rigid : (bs : List Bool) → RigidOctets (Oer.bits_form bs)
unfolding Oer.bits_form
bits_rigid bs = rigid_varied strict_oer refl (rigid_if strict_oer _ (octets _))

counted_bits_rigid : (bs : List Bool) → RigidOctets (Oer.counted_bits bs)
unfolding Oer.counted_bits
counted_bits_rigid bs = rigid_both strict_oer (length_rigid ((length bs + 7) / 8 + 1)) (rigid_both strict_oer (octets _) (bits_rigid bs))

bit_string_rigid : (fixed : Bool) (bs : List Bool) → RigidOctets (Oer.bit_string_form fixed bs)
unfolding Oer.bit_string_form
bit_string_rigid true bs = bits_rigid bs
bit_string_rigid false bs = rigid_varied strict_oer refl (counted_bits_rigid bs)

octets_rigid : (fixed : Bool) (os : List ℕ) → RigidOctets (Oer.octets_form fixed os)
unfolding Oer.octets_form
octets_rigid true os = rigid_if strict_oer (list_all is_octet os) (octets os)
octets_rigid false os = counted_rigid os

tag_rigid : (t : Tag) → RigidOctets (Oer.tag_form t)
unfolding Oer.tag_form
tag_rigid t = rigid_varied strict_oer refl (rigid_cond strict_oer (leb 63 t.number) (rigid_if strict_oer (leb 1 t.number) (octets _)) (rigid_if strict_oer (ltb t.number 63) (octets _)))

-- ---- open types, components and elements
open_rigid : (x : Oer.OctetForm) → RigidOctets x → RigidOctets (Oer.open_type x)
unfolding Oer.open_type
open_rigid x h = rigid_within strict_oer h (λ w. rigid_varied strict_oer refl (counted_rigid _))

spelled_rigid : (o : Presence) (s : Schema) (v : Value) (x : Oer.OctetForm) → RigidOctets x → RigidOctets (Oer.spelled o s v x)
unfolding Oer.spelled
spelled_rigid o s v x h = rigid_cond strict_oer (is_at_default o s v) (rigid_varied strict_oer refl no_octets)
    (rigid_cond strict_oer (is_group_left_out s v) (rigid_varied strict_oer refl no_octets) h)

sequence_rigid : (e : Bool) (ms : List Bool) (root : Oer.OctetForm) (xs : List (Option Oer.OctetForm)) → not e ≡ true → RigidOctets root → RigidOctets (Oer.sequence_form e ms root xs)
unfolding Oer.sequence_form
sequence_rigid false ms root [] e h = rigid_both strict_oer (octets _) h
sequence_rigid false ms root (x ∷ xs) e h = no_octets
sequence_rigid true ms root xs e h = cc

members_rigid : (held : Counts) (xs : List Oer.OctetForm) → AllOctets xs → RigidOctets (Oer.members_form held xs)
unfolding Oer.members_form
members_rigid held xs h = rigid_if strict_oer (is_count_within held (length xs)) (rigid_both strict_oer (unsigned_rigid (length xs)) (rigid_joined strict_oer h))

-- ---- values
each_rigid : (f : Value → Oer.OctetForm) → ((v : Value) → RigidOctets (f v)) → (vs : Values) → AllOctets (each f vs)
each_rigid f h no_more = none
each_rigid f h (member v vs) = more (f v) (each f vs) (h v) (each_rigid f h vs)

mutual
  unfolding Oer.form Oer.component_forms Oer.alternative_form is_rigid are_rigid are_rigid_alternatives

  pub form_rigid : (s : Schema) (v : Value) → is_rigid s ≡ true → RigidOctets (Oer.form s v)
  form_rigid boolean (truth false) h = octets _
  form_rigid boolean (truth true) h = rigid_varied strict_oer refl (octets _)
  form_rigid null nothing h = octets _
  form_rigid (integer b held) (number v) h = integer_rigid b held v
  form_rigid (enumerated roots e adds) (item v) h = rigid_if strict_oer (is_some (item_place v roots) || (e && is_some (item_place v adds))) (item_rigid v)
  form_rigid (bit_string z held) (bit_list bs) h = rigid_if strict_oer (admits z held (length bs)) (bit_string_rigid (Oer.is_fixed z) bs)
  form_rigid (octet_string z held) (octet_list os) h = rigid_if strict_oer (admits z held (length os)) (octets_rigid (Oer.is_fixed z) os)
  form_rigid (character_string k z a held) (text cs) h = rigid_if strict_oer (admits z held (length cs) && may_hold k cs) (octets_rigid (Oer.is_fixed z) (Oer.string_octets k cs))
  form_rigid object_identifier (arcs ns) h = rigid_if strict_oer (is_identifier ns) (counted_rigid _)
  form_rigid (sequence_of z held s) (members vs) h = members_rigid held _ (each_rigid (λ v. Oer.form s v) (λ v. form_rigid s v h) vs)
  form_rigid (set_of z held s) v h = cc
  form_rigid (sequence cs e adds) (fields ps qs) h = let p = and_parts _ _ h in
      rigid_given strict_oer (Oer.addition_forms adds qs) (λ xs. sequence_rigid e (presence_bits cs ps) _ xs p.0 (components_rigid cs ps p.1))
  form_rigid (set cs e adds) (fields ps qs) h = let p = and_parts _ _ h in
      rigid_given strict_oer (Oer.addition_forms adds qs) (λ xs. sequence_rigid e (presence_bits cs ps) _ xs p.0 (components_rigid cs ps p.1))
  form_rigid (group cs) (fields ps end) h = rigid_both strict_oer (octets _) (components_rigid cs ps h)
  form_rigid (choice roots e adds) (chosen false i v) h = alternative_rigid false roots i v (and_parts _ _ h).0
  form_rigid (choice roots true adds) (chosen true i v) h = alternative_rigid true adds i v (and_parts _ _ h).1
  form_rigid s v h = no_octets

  components_rigid : (cs : Components) (ps : Parts) → are_rigid cs ≡ true → RigidOctets (Oer.component_forms cs ps)
  components_rigid no_component end h = octets _
  components_rigid (component t o s cs) (present v ps) h = let p = and_parts _ _ h in rigid_both strict_oer (spelled_rigid o s v _ (form_rigid s v p.0)) (components_rigid cs ps p.1)
  components_rigid (component t o s cs) (absent ps) h = rigid_cond strict_oer (is_required o) no_octets (components_rigid cs ps (and_parts _ _ h).1)
  components_rigid cs ps h = no_octets

  alternative_rigid : (added : Bool) (others : Alternatives) (i : ℕ) (v : Value) → are_rigid_alternatives others ≡ true → RigidOctets (Oer.alternative_form added others i v)
  alternative_rigid false (alternative t s others) zero v h = rigid_both strict_oer (tag_rigid t) (form_rigid s v (and_parts _ _ h).0)
  alternative_rigid true (alternative t s others) zero v h = rigid_both strict_oer (tag_rigid t) (open_rigid _ (form_rigid s v (and_parts _ _ h).0))
  alternative_rigid added (alternative t s others) (suc i) v h = alternative_rigid added others i v (and_parts _ _ h).1
  alternative_rigid added no_alternative i v h = no_octets
