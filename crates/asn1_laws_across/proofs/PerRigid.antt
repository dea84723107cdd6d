-- In the packed rules a strict reader accepts only the canonical encoding of a rigid type.
use Rattle.std.specs.Prelude.{ℤ}
use Rattle.std.proofs.Common.{◌≡◌, ℕ, zero, suc, ◌-◌, ◌*◌, ◌==◌, leb, ltb, not, Bool, true, false, ◌&&◌, ◌||◌, List, [], ◌∷◌, length, drop, replicate, Option, Some, None, refl}
use Rattle.std.proofs.lemmas.Bool.{and_parts}
use Rattle.asn1_model.specs.Value.{Value, Values, no_more, member, truth, nothing, number, item, bit_list, octet_list, text, arcs, members, fields, chosen, Parts, end, absent, present, each}
use Rattle.asn1_model.specs.Schema.{Range, Bounds, Counts, Size, Alphabet, StringKind, Presence, Schema, boolean, null}
use Rattle.asn1_model.specs.Schema.{integer, enumerated, bit_string, octet_string, character_string, object_identifier}
use Rattle.asn1_model.specs.Schema.{sequence_of, set_of, sequence, set, group, choice, Components, no_component}
use Rattle.asn1_model.specs.Schema.{component, Alternatives, no_alternative, alternative}
use Rattle.asn1_model.specs.Numbers.{binary, octet_width, least_octets, signed_octets, above, is_at_most, is_within, is_count_within, fits_128}
use Rattle.asn1_model.specs.Normal.{is_at_default, is_group_left_out}
use Rattle.asn1_model.specs.Form.{exactly, refused}
use Rattle.asn1_model.specs.Strings.{Run, permitted, place_of, may_hold, is_of_octets, is_identifier, is_octet}
use Rattle.std.specs.List.{list_all}
use Rattle.asn1_model.specs.Normal.{is_bounded, item_place, is_required, presence_bits, alternative_count}
use Rattle.asn1_model.specs.Rules.{strict_per}
use Rattle.asn1_model.specs.Per
use Rattle.asn1_laws_across.specs.Rigid.{is_rigid, are_rigid, are_rigid_alternatives}
use Rattle.asn1_laws_across.proofs.Rigid.{Rigid, rigid_exactly, rigid_refused, rigid_both, rigid_placed, rigid_varied}
use Rattle.asn1_laws_across.proofs.Rigid.{rigid_within, rigid_cond, rigid_if, rigid_given, AllRigid, none, more}
use Rattle.asn1_laws_across.proofs.Rigid.{rigid_joined, rigid_take, rigid_drop, rigid_map}

abbrev RigidBits : Per.BitForm → Type 0
RigidBits x = Rigid {F = Per.Freedom} {D = Per.Detail} {A = Bool} strict_per x

abbrev AllBits : List Per.BitForm → Type 0
AllBits xs = AllRigid {F = Per.Freedom} {D = Per.Detail} {A = Bool} strict_per xs

bits : (l : List Bool) → RigidBits (exactly l)
bits l = rigid_exactly strict_per l

no_bits : RigidBits refused
no_bits = rigid_refused strict_per

-- ---- padding, numbers and lengths
padding_rigid : (n : ℕ) → RigidBits (Per.padding n)
unfolding Per.padding
padding_rigid n = rigid_varied strict_per refl (rigid_if strict_per (length (replicate n false) == n) (bits _))

at_octet_rigid : (al : Bool) (x : Per.BitForm) → RigidBits x → RigidBits (Per.at_octet al x)
unfolding Per.at_octet
at_octet_rigid false x h = h
at_octet_rigid true x h = rigid_both strict_per (rigid_placed strict_per (λ p. padding_rigid (Per.missing p))) h

in_octets_rigid : (whole : ℕ → ℕ → Per.BitForm) (al : Bool) (span d k : ℕ) → ((s c : ℕ) → RigidBits (whole s c)) → RigidBits (Per.in_octets_of whole al span d k)
unfolding Per.in_octets_of
in_octets_rigid whole al span d k h = rigid_if strict_per (leb (least_octets d) k && leb k (octet_width span)) (rigid_both strict_per (h (octet_width span - 1) (k - 1)) (at_octet_rigid al _ (bits _)))

constrained_in_rigid : (most : ℕ) (al : Bool) (span d : ℕ) → RigidBits (Per.constrained_in most al span d)
unfolding Per.constrained_in
constrained_in_rigid zero al span d = no_bits
constrained_in_rigid (suc most) al span d =
    rigid_if strict_per (leb d span) (rigid_cond strict_per (not al || ltb span 255) (bits _)
    (rigid_cond strict_per (span == 255) (at_octet_rigid al _ (bits _))
    (rigid_cond strict_per (ltb span 65536) (at_octet_rigid al _ (bits _))
    (rigid_varied strict_per refl (in_octets_rigid (λ s c. Per.constrained_in most al s c) al span d (least_octets d) (λ s c. constrained_in_rigid most al s c))))))

constrained_rigid : (al : Bool) (span d : ℕ) → RigidBits (Per.constrained al span d)
unfolding Per.constrained
constrained_rigid al span d = constrained_in_rigid (suc span) al span d

short_length_rigid : (al : Bool) (n : ℕ) → RigidBits (Per.short_length al n)
unfolding Per.short_length
short_length_rigid al n = at_octet_rigid al _ (rigid_varied strict_per refl (rigid_cond strict_per (leb 128 n) (rigid_if strict_per (ltb n 16384) (bits _)) (rigid_if strict_per (ltb n 128) (bits _))))

fragments_rigid : (al : Bool) (ms : List ℕ) (us : List Per.BitForm) → AllBits us → RigidBits (Per.fragments al ms us)
unfolding Per.fragments
fragments_rigid al [] us h = rigid_both strict_per (short_length_rigid al (length us)) (rigid_joined strict_per h)
fragments_rigid al (m ∷ ms) us h = rigid_if strict_per (leb 1 m && leb m 4 && leb (m * 16384) (length us))
    (rigid_both strict_per (at_octet_rigid al _ (bits _))
    (rigid_both strict_per (rigid_joined strict_per (rigid_take strict_per (m * 16384) h)) (fragments_rigid al ms (drop (m * 16384) us) (rigid_drop strict_per (m * 16384) h))))

counted_rigid : (al : Bool) (us : List Per.BitForm) → AllBits us → RigidBits (Per.counted al us)
unfolding Per.counted
counted_rigid al us h = rigid_varied strict_per refl (fragments_rigid al (Per.largest_first (length us)) us h)

bit_units_rigid : (bs : List Bool) → AllBits (Per.bit_units bs)
bit_units_rigid bs = rigid_map strict_per (λ b. exactly (b ∷ [])) (λ b. bits _) bs

octet_units_rigid : (os : List ℕ) → AllBits (Per.octet_units os)
octet_units_rigid os = rigid_map strict_per (λ o. exactly (binary 8 o)) (λ o. bits _) os

counted_octets_rigid : (al : Bool) (os : List ℕ) → RigidBits (Per.counted_octets al os)
unfolding Per.counted_octets
counted_octets_rigid al os = rigid_if strict_per (list_all is_octet os) (counted_rigid al _ (octet_units_rigid os))

semi_rigid : (al : Bool) (d : ℕ) → RigidBits (Per.semi_constrained al d)
unfolding Per.semi_constrained
semi_rigid al d = rigid_varied strict_per refl (rigid_if strict_per (leb (least_octets d) (least_octets d)) (counted_octets_rigid al _))

unconstrained_rigid : (al : Bool) (v : ℤ) → RigidBits (Per.unconstrained al v)
unfolding Per.unconstrained
unconstrained_rigid al v = rigid_varied strict_per refl (rigid_if strict_per (leb (signed_octets v) (signed_octets v)) (counted_octets_rigid al _))

small_rigid : (al : Bool) (n : ℕ) → RigidBits (Per.normally_small al n)
unfolding Per.normally_small
small_rigid al n = rigid_varied strict_per refl (rigid_cond strict_per (leb 64 n) (rigid_both strict_per (bits _) (semi_rigid al n)) (rigid_if strict_per (ltb n 64) (bits _)))

whole_rigid : (al : Bool) (low high : Option ℤ) (v : ℤ) → RigidBits (Per.whole_number al low high v)
unfolding Per.whole_number
whole_rigid al (Some low) (Some high) v = rigid_given strict_per (above low high) (λ span. rigid_given strict_per (above low v) (λ d. constrained_rigid al span d))
whole_rigid al (Some low) None v = rigid_given strict_per (above low v) (λ d. semi_rigid al d)
whole_rigid al None (Some high) v = rigid_if strict_per (is_at_most v high) (unconstrained_rigid al v)
whole_rigid al None None v = unconstrained_rigid al v

with_extension_bit_rigid : (e inside : Bool) (x y : Per.BitForm) → RigidBits x → RigidBits y → RigidBits (Per.with_extension_bit e inside x y)
unfolding Per.with_extension_bit
with_extension_bit_rigid false inside x y h k = rigid_if strict_per inside h
with_extension_bit_rigid true inside x y h k =
    rigid_varied strict_per refl (rigid_cond strict_per (not inside) (rigid_both strict_per (bits _) k) (rigid_if strict_per inside (rigid_both strict_per (bits _) h)))

integer_rigid : (al : Bool) (b : Bounds) (held : Range) (v : ℤ) → RigidBits (Per.integer_form al b held v)
unfolding Per.integer_form
integer_rigid al b held v = rigid_if strict_per (is_within held v && (not (is_bounded b) || fits_128 v))
    (with_extension_bit_rigid b.extensible (is_within b.range v) _ _ (whole_rigid al b.range.low b.range.high v) (unconstrained_rigid al v))

-- ---- units of a size, strings and items
root_rigid : (al : Bool) (c : Counts) (high : Option ℕ) (has_padding : Counts → Bool) (us : List Per.BitForm) → AllBits us → RigidBits (Per.sized_root al c high has_padding us)
unfolding Per.sized_root
root_rigid al c None has_padding us h = counted_rigid al us h
root_rigid al c (Some high) has_padding us h =
    rigid_cond strict_per (ltb high 65536) (rigid_both strict_per (constrained_rigid al (high - c.low) (length us - c.low))
    (at_octet_rigid (al && has_padding c) _ (rigid_joined strict_per h))) (counted_rigid al us h)

sized_rigid : (al : Bool) (z : Size) (held : Counts) (has_padding : Counts → Bool) (us : List Per.BitForm) → AllBits us → RigidBits (Per.sized al z held has_padding us)
unfolding Per.sized
sized_rigid al z held has_padding us h =
    rigid_if strict_per (is_count_within held (length us))
    (with_extension_bit_rigid z.extensible (is_count_within z.counts (length us)) _ _ (root_rigid al z.counts z.counts.high has_padding us h) (counted_rigid al us h))

character_rigid : (b : ℕ) (rs : List Run) (c : ℕ) → RigidBits (Per.character b rs c)
unfolding Per.character
character_rigid b rs c = rigid_given strict_per (place_of c rs) (λ i. bits _)

string_rigid : (al : Bool) (k : StringKind) (z : Size) (a : Alphabet) (held : Counts) (cs : List ℕ) → RigidBits (Per.string_form al k z a held cs)
unfolding Per.string_form Per.characters
string_rigid al k z a held cs = rigid_if strict_per (may_hold k cs)
    (rigid_cond strict_per (is_of_octets k) (rigid_if strict_per (is_count_within held (length cs)) (counted_octets_rigid al cs))
    (sized_rigid al z held _ _ (rigid_map strict_per _ (character_rigid (Per.character_bits al (permitted k a)) (permitted k a)) cs)))

extension_bit_rigid : (e m : Bool) → RigidBits (Per.extension_bit_of e m)
extension_bit_rigid false m = bits _
extension_bit_rigid true m = bits _

item_rigid : (al : Bool) (roots : ℕ) (e : Bool) (i j : Option ℕ) → RigidBits (Per.item_form al roots e i j)
unfolding Per.item_form
item_rigid al roots e (Some i) j = rigid_both strict_per (extension_bit_rigid e false) (constrained_rigid al (roots - 1) i)
item_rigid al roots true None (Some j) = rigid_both strict_per (bits _) (small_rigid al j)
item_rigid al roots true None None = no_bits
item_rigid al roots false None j = no_bits

-- ---- complete encodings, open types and components
padded_rigid : (w : List Bool) → RigidBits (Per.padded w)
unfolding Per.padded
padded_rigid [] = bits _
padded_rigid (b ∷ bs) = rigid_both strict_per (bits _) (padding_rigid (Per.missing (length (b ∷ bs))))

complete_rigid : (x : Per.BitForm) → RigidBits x → RigidBits (Per.complete x)
unfolding Per.complete
complete_rigid x h = rigid_within strict_per h (λ w. padded_rigid w)

open_rigid : (al : Bool) (x : Per.BitForm) → RigidBits x → RigidBits (Per.open_type al x)
unfolding Per.open_type
open_rigid al x h = rigid_within strict_per (complete_rigid x h) (λ w. rigid_varied strict_per refl (counted_rigid al _ (rigid_map strict_per (λ o. exactly o) (λ o. bits o) _)))

spelled_rigid : (o : Presence) (s : Schema) (v : Value) (x : Per.BitForm) → RigidBits x → RigidBits (Per.spelled o s v x)
unfolding Per.spelled
spelled_rigid o s v x h = rigid_cond strict_per (is_at_default o s v) (rigid_varied strict_per refl no_bits) (rigid_cond strict_per (is_group_left_out s v) (rigid_varied strict_per refl no_bits) h)

sequence_rigid : (al e : Bool) (ms : List Bool) (root : Per.BitForm) (xs : List (Option Per.BitForm)) → not e ≡ true → RigidBits root → RigidBits (Per.sequence_form al e ms root xs)
unfolding Per.sequence_form
sequence_rigid al false ms root [] e h = rigid_both strict_per (bits _) h
sequence_rigid al false ms root (x ∷ xs) e h = no_bits
sequence_rigid al true ms root xs e h = cc

-- ---- values
each_rigid : (f : Value → Per.BitForm) → ((v : Value) → RigidBits (f v)) → (vs : Values) → AllBits (each f vs)
each_rigid f h no_more = none
each_rigid f h (member v vs) = more (f v) (each f vs) (h v) (each_rigid f h vs)

mutual
  unfolding Per.form Per.component_forms Per.alternative_form is_rigid are_rigid are_rigid_alternatives

  pub form_rigid : (al : Bool) (s : Schema) (v : Value) → is_rigid s ≡ true → RigidBits (Per.form al s v)
  form_rigid al boolean (truth b) h = bits _
  form_rigid al null nothing h = bits _
  form_rigid al (integer b held) (number v) h = integer_rigid al b held v
  form_rigid al (enumerated roots e adds) (item v) h = item_rigid al (length roots) e (item_place v roots) (item_place v adds)
  form_rigid al (bit_string z held) (bit_list bs) h = sized_rigid al z held _ _ (bit_units_rigid bs)
  form_rigid al (octet_string z held) (octet_list os) h = rigid_if strict_per (list_all is_octet os) (sized_rigid al z held _ _ (octet_units_rigid os))
  form_rigid al (character_string k z a held) (text cs) h = string_rigid al k z a held cs
  form_rigid al object_identifier (arcs ns) h = rigid_if strict_per (is_identifier ns) (counted_octets_rigid al _)
  form_rigid al (sequence_of z held s) (members vs) h = sized_rigid al z held _ _ (each_rigid (λ v. Per.form al s v) (λ v. form_rigid al s v h) vs)
  form_rigid al (set_of z held s) v h = cc
  form_rigid al (sequence cs e adds) (fields ps qs) h = let p = and_parts _ _ h in
      rigid_given strict_per (Per.addition_forms al adds qs) (λ xs. sequence_rigid al e (presence_bits cs ps) _ xs p.0 (components_rigid al cs ps p.1))
  form_rigid al (set cs e adds) (fields ps qs) h = let p = and_parts _ _ h in
      rigid_given strict_per (Per.addition_forms al adds qs) (λ xs. sequence_rigid al e (presence_bits cs ps) _ xs p.0 (components_rigid al cs ps p.1))
  form_rigid al (group cs) (fields ps end) h = rigid_both strict_per (bits _) (components_rigid al cs ps h)
  form_rigid al (choice roots e adds) (chosen false i v) h = let p = and_parts _ _ h in
      rigid_both strict_per (extension_bit_rigid e false) (rigid_both strict_per (constrained_rigid al (alternative_count roots - 1) i) (alternative_rigid al roots i v p.0))
  form_rigid al (choice roots true adds) (chosen true i v) h = let p = and_parts _ _ h in
      rigid_both strict_per (bits _) (rigid_both strict_per (small_rigid al i) (open_rigid al _ (alternative_rigid al adds i v p.1)))
  form_rigid al s v h = no_bits

  components_rigid : (al : Bool) (cs : Components) (ps : Parts) → are_rigid cs ≡ true → RigidBits (Per.component_forms al cs ps)
  components_rigid al no_component end h = bits _
  components_rigid al (component t o s cs) (present v ps) h = let p = and_parts _ _ h in rigid_both strict_per (spelled_rigid o s v _ (form_rigid al s v p.0)) (components_rigid al cs ps p.1)
  components_rigid al (component t o s cs) (absent ps) h = rigid_cond strict_per (is_required o) no_bits (components_rigid al cs ps (and_parts _ _ h).1)
  components_rigid al cs ps h = no_bits

  alternative_rigid : (al : Bool) (others : Alternatives) (i : ℕ) (v : Value) → are_rigid_alternatives others ≡ true → RigidBits (Per.alternative_form al others i v)
  alternative_rigid al (alternative t s others) zero v h = form_rigid al s v (and_parts _ _ h).0
  alternative_rigid al (alternative t s others) (suc i) v h = alternative_rigid al others i v (and_parts _ _ h).1
  alternative_rigid al no_alternative i v h = no_bits

pub message_rigid : (al : Bool) (s : Schema) (v : Value) → is_rigid s ≡ true → RigidBits (Per.message al s v)
unfolding Per.message
message_rigid al s v h = complete_rigid _ (form_rigid al s v h)
