-- What precedes the units of a string, a list or a bag: the extension bit, their number and padding, or the length
-- determinants of fragments of them (X.691 11.9, 16, 17, 20, 22 and 30).
use Rattle.std.specs.Prelude.{◌≡◌, ℕ, ◌+◌, ◌-◌, ◌*◌, leb, Bool, true, false, cond, ◌&&◌, List, [], ◌∷◌, take, drop}
use Rattle.std.specs.Prelude.{Option, Some, None, option_map}
use Rattle.asn1_model.specs.Schema.{Counts, Size}
use Rattle.asn1_model.specs.Numbers.{binary, is_count_within, missing}
use Rattle.asn1_model.specs.Form.{exactly, both, only_if, joined, placed}
use Rattle.asn1_model.specs.Per
use Rattle.asn1_schema_errors.specs.declared.EncodeError.{EncodeError}
use Rattle.asn1_schema_errors.specs.declared.EncodeError.TheVariants.{OutOfMemory, CallOutOfPlace, AlreadyFailed}
use Rattle.per_codec_rules.specs.Counts.{below_long_count}
use Rattle.per_codec_packing.specs.FieldLists.{FieldList, bit, moved, field_list_at}
use Rattle.per_codec_packing.specs.Packed.{Packed, plus}
use Rattle.per_codec_writing.specs.declared.length.Due.{Due}

-- The length determinants still to come: the multiples of 16384 units of the fragments, and the number of units after
-- the first of these determinants (X.691 11.9.3.8). There are none if the units are not in fragments, nor after the
-- last determinant if they are.
abbrev pub LengthDeterminants : Type 0
LengthDeterminants = Option (List ℕ × ℕ)

-- What precedes units: its field-list, the number of units due after it, and the length determinants to come.
pub record Heading : Type 0 where
  pub field_list : FieldList
  pub due : ℕ
  pub determinants : LengthDeterminants

-- A number that precedes all its units.
abbrev pub before_all : ℕ → FieldList → Heading
before_all n w = record { field_list = w; due = n; determinants = None }

-- The next length determinant of `n` units in fragments, at a position: that of a fragment, or the closing one (X.691
-- 11.9.3.5 to 11.9.3.8).
abbrev pub next_determinant : Bool → List ℕ → ℕ → Option ℕ → Option Heading
next_determinant al [] n q = option_map (λ w. before_all n w) (field_list_at (Per.short_length al n) q)
next_determinant al (m ∷ ms) n q =
    option_map (λ w. record { field_list = w; due = m * 16384; determinants = Some (ms, n - m * 16384) })
    (field_list_at
    (only_if (leb 1 m && leb m 4 && leb (m * 16384) n) (Per.at_octet al (exactly (true ∷ true ∷ binary 6 m)))) q)

-- The first general length determinant of `n` units, the largest fragments first.
abbrev pub general : Bool → ℕ → Option ℕ → Option Heading
general al n q = next_determinant al (Per.largest_first n) n q

-- A form, and padding after it, if there is any (X.691 11.1).
abbrev pub padding_behind : Bool → Per.BitForm → Per.BitForm
padding_behind false x = x
padding_behind true x = both x (placed (λ p. Per.padding (missing p)))

-- The number of `n` units of `low` to `high`, and the padding after it.
abbrev pub count_form : Bool → ℕ → ℕ → Bool → ℕ → Per.BitForm
count_form al low high has_padding n = padding_behind (has_padding && al) (Per.constrained al (high - low) (n - low))

-- The number of `n` units, by the bounds if the upper one determines its form, and the padding after it, else a
-- general length determinant.
abbrev pub count_up_to : Bool → ℕ → Bool → ℕ → Option ℕ → Option ℕ → Option Heading
count_up_to al low has_padding n q None = general al n q
count_up_to al low has_padding n q (Some high) =
    option_map (λ w. before_all n w) (field_list_at (count_form al low high has_padding n) q)

-- The number of `n` units of the root of a size, by its bounds if the upper one is below 65536, and the padding after
-- it, else in the general form (X.691 11.9.4.1, 16.8 to 16.11, 17.5 to 17.8, 20.5, 30.5.6 and 30.5.7).
abbrev pub sized_count : Bool → Counts → Option ℕ → Bool → ℕ → Option ℕ → Option Heading
sized_count al c high has_padding n q = count_up_to al c.low has_padding n q (below_long_count high)

-- A heading after a bit.
abbrev pub behind_bit : Bool → (Option ℕ → Option Heading) → Option ℕ → Option Heading
behind_bit b f q =
    option_map
    (λ (h : Heading). record { field_list = bit b ∷ h.field_list; due = h.due; determinants = h.determinants })
    (f (moved q 1))

-- Within the root or, after an extension bit, outside (X.691 16.6, 17.3, 20.4 and 30.4).
abbrev pub extensible_count : Bool → Bool → (Option ℕ → Option Heading) → (Option ℕ → Option Heading) → Option ℕ
    → Option Heading
extensible_count false in_root root outside q = cond in_root (root q) None
extensible_count true in_root root outside q = cond in_root (behind_bit false root q) (behind_bit true outside q)

-- What precedes `n` units under a size constraint, at a position, and whether padding follows a number encoded by the
-- bounds of the root.
abbrev pub heading : Bool → Size → Bool → ℕ → Option ℕ → Option Heading
heading al z has_padding n q = extensible_count z.extensible (is_count_within z.counts n)
    (λ q. sized_count al z.counts z.counts.high has_padding n q) (λ q. general al n q) q

-- The form of units, with a number of them due before these length determinants.
abbrev pub form_due : Bool → ℕ → LengthDeterminants → List Per.BitForm → Per.BitForm
form_due al n None us = joined us
form_due al n (Some h) us = both (joined (take n us)) (Per.fragments al h.0 (drop n us))

-- The number of units after the next length determinant, if there is one.
abbrev pub count_behind : Option ℕ → ℕ
count_behind None = 0
count_behind (Some n) = n

-- The length determinants to come for a number of units, the largest fragments first (X.691 11.9.3.8).
abbrev pub determinants_of : Option ℕ → LengthDeterminants
determinants_of None = None
determinants_of (Some n) = Some (Per.largest_first n, n)

-- A heading: its field-list, and what is due after it.
abbrev pub heading_of : FieldList → Due → Heading
heading_of w d = record { field_list = w; due = d.units; determinants = determinants_of d.behind }

-- There is this heading, and its field-list follows what was there.
pub record Heads (o : Option Heading) (old : Packed) (d : Due) (new : Packed) : Type 0 where
  pub field_list : FieldList
  pub is : o ≡ Some (heading_of field_list d)
  pub added : new ≡ plus old field_list

-- Why there is no heading: memory ran out, or there is none.
abbrev pub NoHeading : Option Heading → EncodeError → Type 0
NoHeading o OutOfMemory = Unit {0}
NoHeading o CallOutOfPlace = ⊥
NoHeading o AlreadyFailed = ⊥
NoHeading o e = o ≡ None

-- There are `n` units due in all. None is due before the next length determinant only if there is no such
-- determinant.
pub record IsDue (n : ℕ) (d : Due) : Type 0 where
  pub all : d.units + count_behind d.behind ≡ n
  pub ready : d.units ≡ 0 → d.behind ≡ None
