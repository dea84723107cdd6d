-- The packed encoding rules (X.691), aligned and unaligned: the form of a value of a type, in bits. Where padding goes
-- in the aligned variant is stated by this project: before the fields that say so here, up to the next octet boundary
-- of the message or open type that contains them, and never before a field of no bits.
use Rattle.std.specs.Prelude.{ℕ, zero, suc, ◌-◌, ◌*◌, ◌/◌, ◌%◌, ◌^◌, ◌==◌, ltb, leb, not, ℤ, Bool, true, false, cond}
use Rattle.std.specs.Prelude.{◌&&◌, ◌||◌, List, [], ◌∷◌, ◌++◌, length, take, drop, map, replicate, flat_map, Option}
use Rattle.std.specs.Prelude.{Some, None, is_some, option_map, filter}
use Rattle.std.specs.List.{list_all}
use Rattle.asn1_model.specs.Value.{Value, truth, nothing, number, item, bit_list, octet_list, text, arcs, members, bag}
use Rattle.asn1_model.specs.Value.{fields, chosen, Parts, end, absent, present, each}
use Rattle.asn1_model.specs.Schema.{Range, Bounds, Counts, Size, Alphabet, StringKind, Schema, boolean, null, integer}
use Rattle.asn1_model.specs.Schema.{enumerated, bit_string, octet_string, character_string, object_identifier}
use Rattle.asn1_model.specs.Schema.{sequence_of, set_of, sequence, set, group, choice, Components, no_component}
use Rattle.asn1_model.specs.Schema.{component, Alternatives, no_alternative, alternative}
pub use Rattle.asn1_model.specs.Numbers.{missing, by_eights}
use Rattle.asn1_model.specs.Numbers.{digits, binary, width, octet_width, least_octets, signed_octets, complement, above}
use Rattle.asn1_model.specs.Numbers.{is_at_most, is_within, is_count_within, fits_128, is_fixed_at}
use Rattle.asn1_model.specs.Form.{Form, exactly, refused, both, placed, varied, within, written, only_if, given, joined}
use Rattle.asn1_model.specs.Form.{stands_before, ascending, in_order, Bitmap, is_any_present, present_ones, covered_by}
use Rattle.asn1_model.specs.Form.{own_bitmap}
pub use Rattle.asn1_model.specs.Form.{Freedom, Detail, any_padding, two_octet_length, other_fragments, longer_number}
pub use Rattle.asn1_model.specs.Form.{root_told_outside, long_small_number, default_spelled_out, empty_group}
pub use Rattle.asn1_model.specs.Form.{other_bitmap, empty_bitmap, octets_behind, other_order}
use Rattle.asn1_model.specs.Strings.{Run, permitted, how_many, largest, place_of, may_hold, is_of_octets}
use Rattle.asn1_model.specs.Strings.{identifier_octets, is_identifier, is_octet}
use Rattle.asn1_model.specs.Normal.{is_bounded, item_index, is_required, presence_bits, alternative_count}
unfoldable pub use Rattle.asn1_model.specs.Normal.{spelled}

abbrev pub BitForm : Type 0
BitForm = Form Freedom Detail Bool

-- The given count of zero bits; a reader may accept other bits (X.691 11.1).
unfoldable pub padding : ℕ → BitForm
padding n = varied any_padding (replicate n false) (λ bits. only_if (length bits == n) (exactly bits))

-- In the aligned variant, starts at an octet boundary (X.691 11.1).
unfoldable pub at_octet : Bool → BitForm → BitForm
at_octet false x = x
at_octet true x = both (placed (λ p. padding (missing p))) x

-- A number from 0 to span in k octets, after the length k, which is a constrained whole number from 1 to the octets of
-- span (X.691 11.5.7.4 and 13.2.6).
unfoldable pub in_octets_of : (ℕ → ℕ → BitForm) → Bool → ℕ → ℕ → ℕ → BitForm
in_octets_of whole al span d k = only_if (leb (least_octets d) k && leb k (octet_width span))
    (both (whole (octet_width span - 1) (k - 1)) (at_octet al (exactly (flat_map (binary 8) (digits 256 k d)))))

-- A constrained whole number from 0 to span (X.691 11.5). Unaligned: the bits that span needs. Aligned: these for a
-- range of up to 255 numbers, one octet for 256, two for up to 65536, and else octets after their length, which is
-- again a constrained whole number. The first argument limits how many lengths are nested.
unfoldable pub constrained_in : ℕ → Bool → ℕ → ℕ → BitForm
constrained_in zero al span d = refused
constrained_in (suc most) al span d = only_if (leb d span)
    (cond (not al || ltb span 255) (exactly (binary (width span) d))
    (cond (span == 255) (at_octet al (exactly (binary 8 d)))
    (cond (ltb span 65536) (at_octet al (exactly (binary 16 d)))
    (varied longer_number (least_octets d) (λ k. in_octets_of (λ s c. constrained_in most al s c) al span d k)))))

-- A constrained whole number (X.691 11.5). A number has fewer octets than its value, so span limits the nested
-- lengths.
unfoldable pub constrained : Bool → ℕ → ℕ → BitForm
constrained al span d = constrained_in (suc span) al span d

-- A length determinant below 16384 (X.691 11.9.3.5 to 11.9.3.7).
unfoldable pub short_length : Bool → ℕ → BitForm
short_length al n = at_octet al (varied two_octet_length (leb 128 n) (λ long. cond long
    (only_if (ltb n 16384) (exactly (true ∷ false ∷ binary 14 n)))
    (only_if (ltb n 128) (exactly (false ∷ binary 7 n)))))

-- Units in fragments of given multiples of 16384, each after its length determinant, and the rest after a short one
-- (X.691 11.9.3.8). In the aligned variant each length determinant starts at an octet boundary.
unfoldable pub fragments : Bool → List ℕ → List BitForm → BitForm
fragments al [] us = both (short_length al (length us)) (joined us)
fragments al (m ∷ ms) us =
    only_if (leb 1 m && leb m 4 && leb (m * 16384) (length us)) (both (at_octet al (exactly (true ∷ true ∷ binary 6 m)))
    (both (joined (take (m * 16384) us)) (fragments al ms (drop (m * 16384) us))))

-- The largest fragments first: as many of 65536 units as fit, and one for the remaining multiples of 16384 (X.691
-- 11.9.3.8).
abbrev pub largest_first : ℕ → List ℕ
largest_first n = replicate (n / 65536) 4 ++ filter (λ m. not (m == 0)) (n / 16384 % 4 ∷ [])

-- Units after their length determinant (X.691 11.9).
unfoldable pub counted : Bool → List BitForm → BitForm
counted al us = varied other_fragments (largest_first (length us)) (λ ms. fragments al ms us)

abbrev pub bit_units : List Bool → List BitForm
bit_units bs = map (λ b. exactly (b ∷ [])) bs

abbrev pub octet_units : List ℕ → List BitForm
octet_units os = map (λ o. exactly (binary 8 o)) os

-- Octets after their length determinant (X.691 11.9).
unfoldable pub counted_octets : Bool → List ℕ → BitForm
counted_octets al os = only_if (list_all is_octet os) (counted al (octet_units os))

-- A semi-constrained whole number, given minus its lower bound, in the fewest octets (X.691 11.7 and 13.2.3).
unfoldable pub semi_constrained : Bool → ℕ → BitForm
semi_constrained al d =
    varied longer_number (least_octets d) (λ k. only_if (leb (least_octets d) k) (counted_octets al (digits 256 k d)))

-- An unconstrained whole number, in the fewest octets of two's complement (X.691 11.8 and 13.2.4).
unfoldable pub unconstrained : Bool → ℤ → BitForm
unconstrained al v =
    varied longer_number (signed_octets v) (λ k. only_if (leb (signed_octets v) k) (counted_octets al (complement k v)))

-- A normally small non-negative whole number: up to 63 in six bits (X.691 11.6).
unfoldable pub normally_small : Bool → ℕ → BitForm
normally_small al n = varied long_small_number (leb 64 n) (λ long. cond long
    (both (exactly (true ∷ [])) (semi_constrained al n))
    (only_if (ltb n 64) (exactly (false ∷ binary 6 n))))

-- Whether a normally small length has its short form.
abbrev pub is_from_1_to_64 : ℕ → Bool
is_from_1_to_64 n = leb 1 n && leb n 64

-- Units after a normally small length, up to 64 in six bits (X.691 11.9.3.4). That units from 16384 on are in
-- fragments is this project's choice.
unfoldable pub normally_few : Bool → List BitForm → BitForm
normally_few al us = varied long_small_number (not (is_from_1_to_64 (length us))) (λ long. cond long
    (both (exactly (true ∷ [])) (counted al us))
    (only_if (is_from_1_to_64 (length us)) (both (exactly (false ∷ binary 6 (length us - 1))) (joined us))))

-- An INTEGER by its bounds (X.691 13.2).
unfoldable pub whole_number : Bool → Option ℤ → Option ℤ → ℤ → BitForm
whole_number al (Some low) (Some high) v =
    given (above low high) (λ span. given (above low v) (λ d. constrained al span d))
whole_number al (Some low) None v = given (above low v) (λ d. semi_constrained al d)
whole_number al None (Some high) v = only_if (is_at_most v high) (unconstrained al v)
whole_number al None None v = unconstrained al v

-- What follows an extension bit, if there is one; the bit is 1 outside the root (X.691 13.1, 16.6, 17.3, 20.4 and
-- 30.4).
unfoldable pub with_extension_bit : Bool → Bool → BitForm → BitForm → BitForm
with_extension_bit false in_root root outside = only_if in_root root
with_extension_bit true in_root root outside = varied root_told_outside (not in_root) (λ out. cond out
    (both (exactly (true ∷ [])) outside)
    (only_if in_root (both (exactly (false ∷ [])) root)))

-- INTEGER (X.691 13): the user-defined type has to hold the number, and under a value constraint so do 128 bits, by
-- this project's choice.
unfoldable pub integer_form : Bool → Bounds → Range → ℤ → BitForm
integer_form al b held v = only_if (is_within held v && (not (is_bounded b) || fits_128 v))
    (with_extension_bit b.extensible (is_within b.range v) (whole_number al b.range.low b.range.high v)
    (unconstrained al v))

-- Units after their length, a constrained whole number if the upper bound is below 65536, else after a general length
-- determinant (X.691 11.9.4, 16, 17, 20 and 30).
unfoldable pub sized_root : Bool → Counts → Option ℕ → (Counts → Bool) → List BitForm → BitForm
sized_root al c None has_padding us = counted al us
sized_root al c (Some high) has_padding us = cond (ltb high 65536)
    (both (constrained al (high - c.low) (length us - c.low)) (at_octet (al && has_padding c) (joined us)))
    (counted al us)

-- Units of a size that may have an extension marker (X.691 16.6, 17.3, 20.4 and 30.4).
unfoldable pub sized : Bool → Size → Counts → (Counts → Bool) → List BitForm → BitForm
sized al z held has_padding us = only_if (is_count_within held (length us))
    (with_extension_bit z.extensible (is_count_within z.counts (length us))
    (sized_root al z.counts z.counts.high has_padding us) (counted al us))

-- Contents of no bits have no padding, nor do those of a fixed size of at most 16 bits (X.691 16.9 to 16.11, 17.6 to
-- 17.8).
abbrev pub string_has_padding : ℕ → ℕ → Counts → Bool
string_has_padding unit n c = not (n * unit == 0) && not (is_fixed_at c c.high && leb (c.low * unit) 16)

-- Characters also have none if the greatest size has fewer than 16 bits (X.691 30.5.6 and 30.5.7). Where they have
-- padding is this project's choice.
abbrev pub characters_have_padding : ℕ → ℕ → Counts → Bool
characters_have_padding unit n c = string_has_padding unit n c
    && elim (c.high) [ None ↦ true | Some high ↦ leb 16 (high * unit) ]

-- The next of 0, 1, 2, 4, 8 and 16 (X.691 30.5.2).
abbrev pub raised : ℕ → ℕ
raised b = cond (leb b 2) b (cond (leb b 4) 4 (cond (leb b 8) 8 16))

-- The bits of a character: those that the number of permitted characters needs, raised in the aligned variant (X.691
-- 30.5.2).
abbrev pub character_bits : Bool → List Run → ℕ
character_bits al rs = cond al (raised (width (how_many rs - 1))) (width (how_many rs - 1))

-- A character as its value, if the largest value fits the bits, else as its index (X.691 30.5.4).
unfoldable pub character : ℕ → List Run → ℕ → BitForm
character b rs c = given (place_of c rs) (λ i. exactly (binary b (cond (ltb (largest rs) (2 ^ b)) c i)))

-- Characters after their length determinant (X.691 30.5).
unfoldable pub characters : Bool → Size → Counts → List Run → List ℕ → BitForm
characters al z held rs cs =
    sized al z held (characters_have_padding (character_bits al rs) (length cs))
    (map (character (character_bits al rs) rs) cs)

-- A restricted character string (X.691 30). Sizes and alphabets of UTF8String, GeneralString, GraphicString and
-- TeletexString are ignored, by this project's choice.
unfoldable pub string_form : Bool → StringKind → Size → Alphabet → Counts → List ℕ → BitForm
string_form al k z a held cs = only_if (may_hold k cs) (cond (is_of_octets k)
    (only_if (is_count_within held (length cs)) (counted_octets al cs))
    (characters al z held (permitted k a) cs))

-- The extension bit, if the type has an extension marker.
abbrev pub extension_bit_of : Bool → Bool → BitForm
extension_bit_of false m = exactly []
extension_bit_of true m = exactly (m ∷ [])

-- ENUMERATED (X.691 14): an item as its enumeration index in the root, or after an extension bit of 1 among the
-- additions.
unfoldable pub item_form : Bool → ℕ → Bool → Option ℕ → Option ℕ → BitForm
item_form al roots e (Some i) j = both (extension_bit_of e false) (constrained al (roots - 1) i)
item_form al roots true None (Some j) = both (exactly (true ∷ [])) (normally_small al j)
item_form al roots e None j = refused

-- Padded with zero bits to whole octets; one zero octet if there are no bits (X.691 11.1).
unfoldable pub padded : List Bool → BitForm
padded [] = exactly (replicate 8 false)
padded (b ∷ bs) = both (exactly (b ∷ bs)) (padding (missing (length (b ∷ bs))))

-- A complete encoding (X.691 11.1).
unfoldable pub complete : BitForm → BitForm
complete x = within x padded

-- An open type: a complete encoding after its length determinant (X.691 11.2).
unfoldable pub open_type : Bool → BitForm → BitForm
open_type al x = within (complete x) (λ w.
    varied octets_behind [] (λ more. only_if (list_all is_octet more)
    (counted al (map (λ o. exactly o) (by_eights (w ++ flat_map (binary 8) more))))))

abbrev pub flag : Option BitForm → BitForm
flag a = exactly (is_some a ∷ [])

-- The number of bits of the bitmap, these bits, and each addition that is present as an open type (X.691 19.7 to
-- 19.9).
unfoldable pub additions : Bool → List (Option BitForm) → BitForm
additions al xs = both (normally_few al (map flag xs)) (joined (present_ones xs))

-- The extension bit of 1, the root, and the additions (X.691 19.1).
unfoldable pub with_additions : Bool → List Bool → BitForm → List (Option BitForm) → BitForm
with_additions al ms root xs = both (exactly (true ∷ ms)) (both root (additions al xs))

-- Without a bitmap, or with one and the additions that it describes (X.691 19.7).
unfoldable pub bitmapped : Bool → List Bool → BitForm → List (Option BitForm) → Option Bitmap → BitForm
bitmapped al ms root xs None = only_if (not (is_any_present xs)) (both (exactly (false ∷ ms)) root)
bitmapped al ms root xs (Some b) =
    given (covered_by (λ os. counted_octets al os) b xs) (λ all. cond (is_any_present all)
    (with_additions al ms root all)
    (varied empty_bitmap false (λ e. only_if e (with_additions al ms root all))))

-- SEQUENCE and SET: the extension bit, the presence bits, the root components, and the additions (X.691 19 and 21).
unfoldable pub sequence_form : Bool → Bool → List Bool → BitForm → List (Option BitForm) → BitForm
sequence_form al false ms root [] = both (exactly ms) root
sequence_form al false ms root (a ∷ xs) = refused
sequence_form al true ms root xs = varied other_bitmap (own_bitmap xs) (λ b. bitmapped al ms root xs b)

-- The bit 0 is less than 1.
abbrev pub bit_less : Bool → Bool → Bool
bit_less a b = not a && b

-- SET OF, in ascending order of the elements' complete encodings (X.691 22 for canonical PER; that each variant has
-- its own order is this project's choice). Comparing whole octets by their bits gives the same order.
unfoldable pub in_any_order : List BitForm → (List BitForm → BitForm) → BitForm
in_any_order xs f =
    varied other_order None
    (λ o. given (in_order (ascending (λ x. written (complete x) 0) (stands_before bit_less) xs) o xs) f)

unfoldable mutual
  -- The form of a value of a type: BOOLEAN (X.691 12), INTEGER (13), ENUMERATED (14), BIT STRING (16), OCTET STRING
  -- (17), NULL (18), SEQUENCE (19), SEQUENCE OF (20), SET (21), SET OF (22), CHOICE (23), OBJECT IDENTIFIER (24),
  -- restricted character strings (30). There is no padding before the elements of a SEQUENCE OF or SET OF.
  pub form : Bool → Schema → Value → BitForm
  form al boolean (truth b) = exactly (b ∷ [])
  form al null nothing = exactly []
  form al (integer b held) (number v) = integer_form al b held v
  form al (enumerated roots e adds) (item v) = item_form al (length roots) e (item_index v roots) (item_index v adds)
  form al (bit_string z held) (bit_list bs) = sized al z held (string_has_padding 1 (length bs)) (bit_units bs)
  form al (octet_string z held) (octet_list os) =
      only_if (list_all is_octet os) (sized al z held (string_has_padding 8 (length os)) (octet_units os))
  form al (character_string k z a held) (text cs) = string_form al k z a held cs
  form al object_identifier (arcs ns) = only_if (is_identifier ns) (counted_octets al (identifier_octets ns))
  form al (sequence_of z held s) (members vs) = sized al z held (λ c. false) (each (λ v. form al s v) vs)
  form al (set_of z held s) (bag vs) = in_any_order (each (λ v. form al s v) vs) (sized al z held (λ c. false))
  form al (sequence cs e adds) (fields ps qs) =
      given (addition_forms al adds qs) (sequence_form al e (presence_bits cs ps) (component_forms al cs ps))
  form al (set cs e adds) (fields ps qs) =
      given (addition_forms al adds qs) (sequence_form al e (presence_bits cs ps) (component_forms al cs ps))
  form al (group cs) (fields ps end) = both (exactly (presence_bits cs ps)) (component_forms al cs ps)
  form al (choice roots e adds) (chosen false i v) =
      both (extension_bit_of e false)
      (both (constrained al (alternative_count roots - 1) i) (alternative_form al roots i v))
  form al (choice roots true adds) (chosen true i v) =
      both (exactly (true ∷ [])) (both (normally_small al i) (open_type al (alternative_form al adds i v)))
  form al s v = refused

  -- One component after another (X.691 19.6).
  pub component_forms : Bool → Components → Parts → BitForm
  component_forms al no_component end = exactly []
  component_forms al (component t o s cs) (present v ps) = both (spelled o s v (form al s v)) (component_forms al cs ps)
  component_forms al (component t o s cs) (absent ps) = cond (is_required o) refused (component_forms al cs ps)
  component_forms al cs ps = refused

  -- The additions; those that are required have to be present, by this project's choice.
  pub addition_forms : Bool → Components → Parts → Option (List (Option BitForm))
  addition_forms al no_component end = Some []
  addition_forms al (component t o s cs) (present v ps) =
      option_map (λ xs. Some (spelled o s v (open_type al (form al s v))) ∷ xs) (addition_forms al cs ps)
  addition_forms al (component t o s cs) (absent ps) =
      cond (is_required o) None (option_map (λ xs. None ∷ xs) (addition_forms al cs ps))
  addition_forms al cs ps = None

  -- The value of the alternative with a choice index (X.691 23).
  pub alternative_form : Bool → Alternatives → ℕ → Value → BitForm
  alternative_form al (alternative t s others) zero v = form al s v
  alternative_form al (alternative t s others) (suc i) v = alternative_form al others i v
  alternative_form al no_alternative i v = refused

-- A message is a complete encoding (X.691 11.1).
unfoldable pub message : Bool → Schema → Value → BitForm
message al s v = complete (form al s v)
