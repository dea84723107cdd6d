-- Whether a number of elements has a heading, which is known without it.
use Rattle.std.proofs.Common.{◌≡◌, ℕ, ◌+◌, ◌-◌, ◌*◌, ◌/◌, ◌<◌, ◌≤◌, ltb, leb, Bool, true, false, cond, ◌&&◌, ◌||◌, []}
use Rattle.std.proofs.Common.{◌∷◌, replicate, Option, Some, None, option_map, refl, ap, sym, subst, ◌∙◌, inl, inr}
use Rattle.std.proofs.Common.{arith}
use Rattle.std.specs.Prelude.{min, ◌^◌}
use Rattle.std.proofs.lemmas.Bool.{ltb-true, ltb-false, leb-true, and_parts, cases_lt}
use Rattle.std.proofs.lemmas.List.{length-replicate}
use Rattle.asn1_model.specs.Schema.{Counts, Size}
use Rattle.asn1_model.specs.Numbers.{binary, is_count_within}
use Rattle.asn1_model.specs.Numbers.{admits}
use Rattle.asn1_model.specs.Per
use Rattle.asn1_schema_constraints.specs.Bounds.{counts_of, members_of}
use Rattle.asn1_schema_constraints.specs.declared.bounds.Bounded.{Bounded}
use Rattle.per_codec_writing.proofs.HeadingForms.{members_counted}
use Rattle.per_codec_packing.specs.FieldLists.{padding, as_field_list, field_list_at, moved, bit}
use Rattle.per_codec_packing.specs.Packed.{Packed, place, plus}
use Rattle.per_codec_writing.specs.Writing.{padding_if}
use Rattle.per_codec_writing.proofs.LengthFieldLists.{adds_short, adds_long, adds_fragment}
use Rattle.per_codec_writing.proofs.ConstrainedFieldLists.{constrained_bits, adds_octet, adds_two_octets}
use Rattle.per_codec_writing.specs.Headings.{Heading, before_all, count_up_to, general, sized_count, extensible_count, Heads}
use Rattle.per_codec_writing.specs.declared.length.Due.{Due}
use Rattle.per_codec_writing.proofs.HeadingFieldLists.{few_heads, fragment_heads}
use Rattle.per_codec_encoder.specs.Steps.{list_heading}
use Rattle.std.specs.Option.{option_map_or}

abbrev pub IsThere : {X : Type 0} → Option X → Type 0
IsThere {X} o = (x : X) × (o ≡ Some x)

mapped : {X Y : Type 0} (f : X → Y) (o : Option X) → IsThere o → IsThere (option_map f o)
mapped f o t = (f t.0, ap (option_map f) t.1)

unmapped : {X Y : Type 0} (f : X → Y) (o : Option X) (y : Y) → option_map f o ≡ Some y → IsThere o
unmapped f None y e = cc
unmapped f (Some x) y e = (x, refl)

-- a field-list at this position
at_place : (q : Option ℕ) → (o : Packed) × (place o ≡ q)
at_place None = (record { field_list = []; placed = false }, refl)
at_place (Some k) = (record { field_list = replicate k padding; placed = true }, ap (λ n. Some n) (length-replicate k padding))

module _ (al : Bool) where
  module _ (o : Packed) where
    abbrev behind_padding : Packed
    behind_padding = plus o (padding_if al (place o))

    few_there : (n : ℕ) → n < 16384 → IsThere (general al n (place o))
    few_there n l = go (ltb n 128) refl
      where
        go : (t : Bool) → ltb n 128 ≡ t → IsThere (general al n (place o))
        go true t =
            let d : Due = record { units = n; behind = None } in
            let p : Packed = plus behind_padding (as_field_list (binary 8 n)) in
            let h : Heads (general al n (place o)) o d p = few_heads al n d o p l refl (adds_short al n o behind_padding p (ltb-true n 128 t) refl refl) in
            (_, h.is)
        go false t =
            let d : Due = record { units = n; behind = None } in
            let p : Packed = plus behind_padding (as_field_list (binary 16 (32768 + n))) in
            let h : Heads (general al n (place o)) o d p = few_heads al n d o p l refl (adds_long al n o behind_padding p (ltb-false n 128 t) l refl refl) in
            (_, h.is)

    many_there : (n m : ℕ) → 16384 ≤ n → m ≡ min (n / 16384) 4 → IsThere (general al n (place o))
    many_there n m l e =
        let d : Due = record { units = m * 16384; behind = Some (n - m * 16384) } in
        let p : Packed = plus behind_padding (as_field_list (binary 8 (192 + m))) in
        let h : Heads (general al n (place o)) o d p = fragment_heads al n m d o p l e refl (adds_fragment al m o behind_padding p (omega (arith, e)) refl refl) in
        (_, h.is)

  general_there : (n : ℕ) (q : Option ℕ) → IsThere (general al n q)
  general_there n q =
      let p = at_place q in
      subst (λ x. IsThere (general al n x)) p.1 (elim (cases_lt n 16384) [ inl l ↦ few_there p.0 n l | inr l ↦ many_there p.0 n (min (n / 16384) 4) l refl ])

-- a constrained whole number of less than three octets
octets_there : (o : Packed) (span d : ℕ) → d ≤ span → 255 ≤ span → span < 65536 → IsThere (field_list_at (Per.constrained true span d) (place o))
octets_there o span d h l u =
    let mid : Packed = plus o (padding_if true (place o)) in
    elim (cases_lt 255 span) [
      | inl k ↦ unmapped (λ w. plus o w) _ _ (adds_two_octets span d o mid (plus mid (as_field_list (binary 16 d))) h k u refl refl)
      | inr k ↦ unmapped (λ w. plus o w) _ _ (adds_octet span d o mid (plus mid (as_field_list (binary 8 d))) h (omega arith) refl refl)
    ]

number_there : (al : Bool) (o : Packed) (span d : ℕ) → d ≤ span → span < 65536 → IsThere (field_list_at (Per.constrained al span d) (place o))
number_there false o span d h u = (_, constrained_bits false span d (place o) h refl)
number_there true o span d h u = go (ltb span 255) refl
  where
    go : (t : Bool) → ltb span 255 ≡ t → IsThere (field_list_at (Per.constrained true span d) (place o))
    go true t = (_, constrained_bits true span d (place o) h t)
    go false t = octets_there o span d h (ltb-false span 255 t) u

module _ (al : Bool) where
  constrained_there : (span d : ℕ) (q : Option ℕ) → d ≤ span → span < 65536 → IsThere (field_list_at (Per.constrained al span d) q)
  constrained_there span d q h u = let p = at_place q in subst (λ x. IsThere (field_list_at (Per.constrained al span d) x)) p.1 (number_there al p.0 span d h u)

  sized_there : (c : Counts) (high : Option ℕ) (n : ℕ) → (leb c.low n && (option_map_or (λ x. leb n x) high true)) ≡ true → (q : Option ℕ) → IsThere (sized_count al c high false n q)
  sized_there c None n w q = general_there al n q
  sized_there c (Some high) n w q = go (ltb high 65536) refl
    where
      go : (t : Bool) → ltb high 65536 ≡ t → IsThere (count_up_to al c.low false n q (cond t (Some high) None))
      go true t =
          let p = and_parts (leb c.low n) (leb n high) w in
          let low = leb-true c.low n p.0 in
          let up = leb-true n high p.1 in
          let l = ltb-true high 65536 t in
          mapped (λ w. before_all n w) _ (constrained_there (high - c.low) (n - c.low) q (omega (arith, low, up)) (omega (arith, l)))
      go false t = general_there al n q

extensible_there : (e b : Bool) (root outside : Option ℕ → Option Heading) → (b ≡ true → (q : Option ℕ) → IsThere (root q)) →
    ((q : Option ℕ) → IsThere (outside q)) → (e || b) ≡ true → (q : Option ℕ) → IsThere (extensible_count e b root outside q)
extensible_there false true root outside r o h q = r refl q
extensible_there false false root outside r o h q = cc
extensible_there true true root outside r o h q = mapped (λ (h : Heading). let g : Heading =
    record { field_list = bit false ∷ h.field_list; due = h.due; determinants = h.determinants } in g) (root (moved q 1)) (r refl (moved q 1))
extensible_there true false root outside r o h q = mapped (λ (h : Heading). let g : Heading =
    record { field_list = bit true ∷ h.field_list; due = h.due; determinants = h.determinants } in g) (outside (moved q 1)) (o (moved q 1))

-- A number of elements has a heading if the Rust type holds it, and it is in the root of the size or the size is
-- extensible.
pub heading_there : (al : Bool) (z : Size) (h : Counts) (n : ℕ) (q : Option ℕ) → true ≡ (is_count_within h n && (z.extensible || is_count_within z.counts n)) → IsThere (list_heading al z h n q)
heading_there al z h n q w =
    let p = and_parts (is_count_within h n) (z.extensible || is_count_within z.counts n) (sym w) in
    let root : Option ℕ → Option Heading = λ q. sized_count al z.counts z.counts.high false n q in
    let m = extensible_there z.extensible (is_count_within z.counts n) root (λ q. general al n q) (λ b. sized_there al z.counts z.counts.high n b) (general_there al n) p.1 q in
    (m.0, ap (λ t. cond t (extensible_count z.extensible (is_count_within z.counts n) root (λ q. general al n q) q) None) p.0 ∙ m.1)

none_extensible : (a e b : Bool) (root outside : Option ℕ → Option Heading) (q : Option ℕ) → (a && (e || b)) ≡ false → cond a (extensible_count e b root outside q) None ≡ None
none_extensible false e b root outside q w = refl
none_extensible true false false root outside q w = refl
none_extensible true false true root outside q w = cc
none_extensible true true b root outside q w = cc

pub admitted : (z : Size) (b : Bounded ℕ) (n : ℕ) (t : Bool) → n < 2 ^ 64 → t ≡ admits z (counts_of b) n → t ≡ (is_count_within (members_of b) n && (z.extensible || is_count_within z.counts n))
admitted z b n t l e = e ∙ ap (λ x. x && (z.extensible || is_count_within z.counts n)) (sym (members_counted b n l))

-- No other number has one.
pub no_heading : (al : Bool) (z : Size) (h : Counts) (n : ℕ) (q : Option ℕ) → false ≡ (is_count_within h n && (z.extensible || is_count_within z.counts n)) → list_heading al z h n q ≡ None
no_heading al z h n q w = none_extensible (is_count_within h n) z.extensible (is_count_within z.counts n) _ _ q (sym w)
