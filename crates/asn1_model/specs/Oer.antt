-- The octet encoding rules (X.696): the form of a value of a type, in octets.
use Rattle.std.specs.Prelude.{ℕ, zero, suc, ◌+◌, ◌*◌, ◌/◌, ◌^◌, ◌==◌, ltb, leb, not, max, ℤ, pos, negsuc, Bool, true}
use Rattle.std.specs.Prelude.{false, cond, ◌&&◌, ◌||◌, List, [], ◌∷◌, ◌++◌, length, map, replicate, flat_map, Option}
use Rattle.std.specs.Prelude.{Some, None, is_some, option_map}
use Rattle.asn1_model.specs.Value.{Value, truth, nothing, number, item, bit_list, octet_list, text, arcs, members, bag}
use Rattle.asn1_model.specs.Value.{fields, chosen, Parts, end, absent, present, each}
use Rattle.asn1_model.specs.Schema.{Tag, Range, Bounds, Counts, Size, StringKind, bmp, Schema, boolean, null, integer}
use Rattle.asn1_model.specs.Schema.{enumerated, bit_string, octet_string, character_string, object_identifier}
use Rattle.asn1_model.specs.Schema.{sequence_of, set_of, sequence, set, group, choice, Components, no_component}
use Rattle.asn1_model.specs.Schema.{component, Alternatives, no_alternative, alternative}
pub use Rattle.asn1_model.specs.Numbers.{packed}
use Rattle.asn1_model.specs.Numbers.{missing, digits, octet_width, least_octets, signed_octets, complement, is_within}
use Rattle.asn1_model.specs.Numbers.{is_count_within, fits_128, is_fixed_at, admits}
use Rattle.asn1_model.specs.Form.{Form, exactly, refused, both, varied, within, written, only_if, given, joined}
use Rattle.asn1_model.specs.Form.{stands_before, ascending, in_order, Bitmap, is_any_present, present_ones, covered_by}
use Rattle.asn1_model.specs.Form.{own_bitmap}
pub use Rattle.asn1_model.specs.Form.{Freedom, Detail, longer_length, longer_number, any_truth, longer_item}
pub use Rattle.asn1_model.specs.Form.{empty_bit_string, any_unused_bits, long_tag, default_spelled_out, empty_group}
pub use Rattle.asn1_model.specs.Form.{other_bitmap, empty_bitmap, octets_behind, other_order}
use Rattle.asn1_model.specs.Strings.{may_hold, identifier_octets, is_identifier, is_octet, groups_of_seven}
use Rattle.std.specs.List.{list_all}
use Rattle.asn1_model.specs.Normal.{is_bounded, item_index, is_required, presence_bits}
unfoldable pub use Rattle.asn1_model.specs.Normal.{spelled}

abbrev pub OctetForm : Type 0
OctetForm = Form Freedom Detail ℕ

-- A long-form length in k octets, 1 to 127, after the octet with their count (X.696 8.6).
abbrev pub long_length : ℕ → ℕ → OctetForm
long_length n k = only_if (leb 1 k && leb k 127 && leb (octet_width n) k) (exactly ((128 + k) ∷ digits 256 k n))

-- A length determinant: one octet below 128, else the fewest octets after their count (X.696 8.6); below 2 ^ 64 by
-- this project's choice.
unfoldable pub length_form : ℕ → OctetForm
length_form n = only_if (ltb n (2 ^ 64)) (varied longer_length (cond (ltb n 128) None (Some (octet_width n)))
    (λ o. elim o [ None ↦ only_if (ltb n 128) (exactly (n ∷ [])) | Some k ↦ long_length n k ]))

-- Octets after their length determinant (X.696 8.6).
unfoldable pub counted : List ℕ → OctetForm
counted os = only_if (list_all is_octet os) (both (length_form (length os)) (exactly os))

-- An integer in the fewest octets of two's complement, after their length determinant (X.696 10).
unfoldable pub signed : ℤ → OctetForm
signed v = varied longer_number (signed_octets v) (λ k. only_if (leb (signed_octets v) k) (counted (complement k v)))

-- A number that is not negative in the fewest octets, after their length determinant (X.696 10, and 17 for counts).
unfoldable pub unsigned : ℕ → OctetForm
unsigned n = varied longer_number (least_octets n) (λ k. only_if (leb (least_octets n) k) (counted (digits 256 k n)))

-- The number of octets of a fixed form: 1, 2, 4 or 8 (X.696 10).
abbrev pub fixed_octets : ℕ → Option ℕ
fixed_octets k =
    cond (leb k 1) (Some 1) (cond (leb k 2) (Some 2) (cond (leb k 4) (Some 4) (cond (leb k 8) (Some 8) None)))

-- A number under a lower bound that is not negative (X.696 10).
abbrev pub natural_form : Option ℕ → ℤ → OctetForm
natural_form (Some k) (pos n) = exactly (digits 256 k n)
natural_form None (pos n) = unsigned n
natural_form o (negsuc n) = refused

-- A number under a negative lower bound and an upper bound (X.696 10).
abbrev pub signed_form : Option ℕ → ℤ → OctetForm
signed_form (Some k) v = exactly (complement k v)
signed_form None v = signed v

-- INTEGER with bounds and no extension marker: fixed unsigned forms, fixed signed forms, or forms of variable length
-- (X.696 10).
unfoldable pub bounded : Option ℤ → Option ℤ → ℤ → OctetForm
bounded (Some (pos low)) (Some (pos high)) v = natural_form (fixed_octets (octet_width high)) v
bounded (Some (pos low)) high v = natural_form None v
bounded (Some (negsuc low)) (Some high) v =
    signed_form (fixed_octets (max (signed_octets (negsuc low)) (signed_octets high))) v
bounded low high v = signed v

-- INTEGER (X.696 10): bounds with an extension marker are ignored. The user-defined type has to hold the number, and
-- under a value constraint so do 128 bits, by this project's choice.
unfoldable pub integer_form : Bounds → Range → ℤ → OctetForm
integer_form b held v = only_if (is_within held v && (not (is_bounded b) || fits_128 v))
    (cond b.extensible (signed v) (only_if (is_within b.range v) (bounded b.range.low b.range.high v)))

-- An enumeration value in k octets of two's complement, after their count (X.696 11).
abbrev pub long_item : ℕ → ℤ → OctetForm
long_item k v = only_if (leb (signed_octets v) k && leb k 127) (exactly ((128 + k) ∷ complement k v))

-- An enumeration value from 0 to 127 in one octet (X.696 11).
abbrev pub short_item : ℤ → OctetForm
short_item (pos n) = only_if (ltb n 128) (exactly (n ∷ []))
short_item (negsuc n) = refused

-- None if one octet holds an enumeration value, else the number of octets it needs (X.696 11).
abbrev pub item_octets : ℤ → Option ℕ
item_octets (pos n) = cond (ltb n 128) None (Some (signed_octets (pos n)))
item_octets (negsuc n) = Some (signed_octets (negsuc n))

-- ENUMERATED, by the enumeration value (X.696 11).
unfoldable pub item_form : ℤ → OctetForm
item_form v = varied longer_item (item_octets v) (λ o. elim o [ None ↦ short_item v | Some k ↦ long_item k v ])

-- Whether the size is fixed without an extension marker, so that no length is encoded (X.696 13, 14 and 27).
abbrev pub is_fixed : Size → Bool
is_fixed z = not z.extensible && is_fixed_at z.counts z.counts.high

-- Bits as octets, where the unused bits of the last one are zero (X.696 13).
unfoldable pub bits_form : List Bool → OctetForm
bits_form bs =
    varied any_unused_bits (replicate (missing (length bs)) false)
    (λ unused. only_if (length unused == missing (length bs)) (exactly (packed (bs ++ unused))))

-- Bits as octets, after a length determinant and the number of unused bits (X.696 13).
unfoldable pub counted_bits : List Bool → OctetForm
counted_bits bs =
    both (length_form ((length bs + 7) / 8 + 1)) (both (exactly (missing (length bs) ∷ [])) (bits_form bs))

-- BIT STRING (X.696 13).
unfoldable pub bit_string_form : Bool → List Bool → OctetForm
bit_string_form true bs = bits_form bs
bit_string_form false bs =
    varied empty_bit_string false (λ e. cond e (only_if (length bs == 0) (length_form 0)) (counted_bits bs))

-- Octets, after their length determinant unless the size is fixed (X.696 14).
unfoldable pub octets_form : Bool → List ℕ → OctetForm
octets_form true os = only_if (list_all is_octet os) (exactly os)
octets_form false os = counted os

-- The octets of a character string: two for each character of a BMPString, the most significant first, else one (X.696
-- 27).
abbrev pub string_octets : StringKind → List ℕ → List ℕ
string_octets bmp cs = flat_map (digits 256 2) cs
string_octets k cs = cs

-- A tag in the long form: six one bits, and the number in groups of seven bits without leading zero groups (X.696
-- 8.7).
abbrev pub long_tag_octets : Tag → OctetForm
long_tag_octets t = only_if (leb 1 t.number) (exactly ((t.class * 64 + 63) ∷ groups_of_seven t.number))

-- A tag: two bits of class, and a number below 63 in six bits, else the long form (X.696 8.7).
unfoldable pub tag_form : Tag → OctetForm
tag_form t =
    varied long_tag (leb 63 t.number)
    (λ long. cond long (long_tag_octets t) (only_if (ltb t.number 63) (exactly ((t.class * 64 + t.number) ∷ []))))

-- An open type: the encoding of a value after its length determinant (X.696 30).
unfoldable pub open_type : OctetForm → OctetForm
open_type x = within x (λ w. varied octets_behind [] (λ more. counted (w ++ more)))

-- Presence bits, and unused bits that have to be zero for every reader (X.696 16.2).
abbrev pub preamble : List Bool → OctetForm
preamble bs = exactly (packed (bs ++ replicate (missing (length bs)) false))

-- The presence bitmap as a BIT STRING of variable size, and each addition that is present (X.696 16.4).
unfoldable pub additions : List (Option OctetForm) → OctetForm
additions xs = both (counted_bits (map (λ a. is_some a) xs)) (joined (present_ones xs))

-- The extension bit of 1, the root, and the additions (X.696 16).
unfoldable pub with_additions : List Bool → OctetForm → List (Option OctetForm) → OctetForm
with_additions ms root xs = both (preamble (true ∷ ms)) (both root (additions xs))

-- Without a bitmap, or with one and the additions that it describes (X.696 16).
unfoldable pub bitmapped : List Bool → OctetForm → List (Option OctetForm) → Option Bitmap → OctetForm
bitmapped ms root xs None = only_if (not (is_any_present xs)) (both (preamble (false ∷ ms)) root)
bitmapped ms root xs (Some b) = given (covered_by counted b xs) (λ all. cond (is_any_present all)
    (with_additions ms root all)
    (varied empty_bitmap false (λ e. only_if e (with_additions ms root all))))

-- SEQUENCE and SET: the preamble, the root components, and the additions (X.696 16 and 18).
unfoldable pub sequence_form : Bool → List Bool → OctetForm → List (Option OctetForm) → OctetForm
sequence_form false ms root [] = both (preamble ms) root
sequence_form false ms root (a ∷ xs) = refused
sequence_form true ms root xs = varied other_bitmap (own_bitmap xs) (λ b. bitmapped ms root xs b)

-- SEQUENCE OF: the count, and the elements (X.696 17).
unfoldable pub members_form : Counts → List OctetForm → OctetForm
members_form held xs = only_if (is_count_within held (length xs)) (both (unsigned (length xs)) (joined xs))

-- SET OF, in ascending order of the elements' encodings (X.696 19 for canonical OER).
unfoldable pub in_any_order : List OctetForm → (List OctetForm → OctetForm) → OctetForm
in_any_order xs f =
    varied other_order None (λ o. given (in_order (ascending (λ x. written x 0) (stands_before ltb) xs) o xs) f)

unfoldable mutual
  -- The form of a value of a type: BOOLEAN (X.696 9), INTEGER (10), ENUMERATED (11), BIT STRING (13), OCTET STRING
  -- (14), NULL (15), SEQUENCE (16), SEQUENCE OF (17), SET (18), SET OF (19), CHOICE (20), OBJECT IDENTIFIER (21),
  -- restricted character strings (27). That a string of fixed size has no length, whatever its kind, is this project's
  -- choice.
  pub form : Schema → Value → OctetForm
  form boolean (truth false) = exactly (0 ∷ [])
  form boolean (truth true) = varied any_truth 255 (λ o. only_if (leb 1 o && is_octet o) (exactly (o ∷ [])))
  form null nothing = exactly []
  form (integer b held) (number v) = integer_form b held v
  form (enumerated roots e adds) (item v) =
      only_if (is_some (item_index v roots) || (e && is_some (item_index v adds))) (item_form v)
  form (bit_string z held) (bit_list bs) = only_if (admits z held (length bs)) (bit_string_form (is_fixed z) bs)
  form (octet_string z held) (octet_list os) = only_if (admits z held (length os)) (octets_form (is_fixed z) os)
  form (character_string k z a held) (text cs) =
      only_if (admits z held (length cs) && may_hold k cs) (octets_form (is_fixed z) (string_octets k cs))
  form object_identifier (arcs ns) = only_if (is_identifier ns) (counted (identifier_octets ns))
  form (sequence_of z held s) (members vs) = members_form held (each (λ v. form s v) vs)
  form (set_of z held s) (bag vs) = in_any_order (each (λ v. form s v) vs) (members_form held)
  form (sequence cs e adds) (fields ps qs) =
      given (addition_forms adds qs) (sequence_form e (presence_bits cs ps) (component_forms cs ps))
  form (set cs e adds) (fields ps qs) =
      given (addition_forms adds qs) (sequence_form e (presence_bits cs ps) (component_forms cs ps))
  form (group cs) (fields ps end) = both (preamble (presence_bits cs ps)) (component_forms cs ps)
  form (choice roots e adds) (chosen false i v) = alternative_form false roots i v
  form (choice roots true adds) (chosen true i v) = alternative_form true adds i v
  form s v = refused

  -- One component after another (X.696 16).
  pub component_forms : Components → Parts → OctetForm
  component_forms no_component end = exactly []
  component_forms (component t o s cs) (present v ps) = both (spelled o s v (form s v)) (component_forms cs ps)
  component_forms (component t o s cs) (absent ps) = cond (is_required o) refused (component_forms cs ps)
  component_forms cs ps = refused

  -- The additions; those that are required have to be present, by this project's choice.
  pub addition_forms : Components → Parts → Option (List (Option OctetForm))
  addition_forms no_component end = Some []
  addition_forms (component t o s cs) (present v ps) =
      option_map (λ xs. Some (spelled o s v (open_type (form s v))) ∷ xs) (addition_forms cs ps)
  addition_forms (component t o s cs) (absent ps) =
      cond (is_required o) None (option_map (λ xs. None ∷ xs) (addition_forms cs ps))
  addition_forms cs ps = None

  -- CHOICE: the tag, and the value, as an open type in an added alternative (X.696 20).
  pub alternative_form : Bool → Alternatives → ℕ → Value → OctetForm
  alternative_form false (alternative t s others) zero v = both (tag_form t) (form s v)
  alternative_form true (alternative t s others) zero v = both (tag_form t) (open_type (form s v))
  alternative_form added (alternative t s others) (suc i) v = alternative_form added others i v
  alternative_form added no_alternative i v = refused
