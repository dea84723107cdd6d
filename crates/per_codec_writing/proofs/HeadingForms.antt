-- Headings of units lead to the forms of the units.
use Rattle.std.proofs.Common.{◌≡◌, ℕ, zero, suc, ◌+◌, ◌-◌, ◌*◌, ◌≤◌, ltb, leb, Bool, true, false, cond, ◌&&◌, List, []}
use Rattle.std.proofs.Common.{◌∷◌, ◌++◌, length, take, drop, slice_range, Option, Some, None, option_map}
use Rattle.std.proofs.Common.{option_and_then, refl, ap, subst, sym, ◌∙◌, arith, ◌<◌, ◌^◌, unwrap_or}
use Rattle.std.proofs.lemmas.Bool.{le-leb, leb-true, and_parts}
use Rattle.std.proofs.lemmas.List.{length-drop, drop-drop, take_all}
use Rattle.asn1_model.specs.Schema.{Counts, Size}
use Rattle.asn1_model.specs.Numbers.{binary, is_count_within, missing}
use Rattle.asn1_model.specs.Form.{exactly, both, only_if, joined, placed}
use Rattle.asn1_model.specs.Per
use Rattle.asn1_schema_constraints.specs.Bounds.{counts_of, lower, members_of, upper}
use Rattle.asn1_schema_constraints.specs.declared.bounds.Bounded.{Bounded}
use Rattle.per_codec_packing.specs.FieldLists.{FieldList, bit, moved, on, field_list_at}
use Rattle.per_codec_packing.specs.Packed.{Packed, Adds, place, plus}
use Rattle.per_codec_packing.proofs.Formed.{behind, both_assoc}
use Rattle.per_codec_packing.proofs.Adding.{added, adds_field_list, adds_both, adds_same, plus_both, behind as place_behind}
use Rattle.per_codec_writing.specs.Headings.{LengthDeterminants, Heading, before_all, next_determinant, general}
use Rattle.per_codec_writing.specs.Headings.{count_form, count_up_to, sized_count, behind_bit, extensible_count}
use Rattle.per_codec_writing.specs.Headings.{heading, form_due, count_behind, determinants_of, Heads, IsDue}
use Rattle.per_codec_writing.specs.Units.{of_size}
use Rattle.per_codec_writing.specs.declared.length.Due.{Due}
use Rattle.per_codec_writing.proofs.PaddingFieldLists.{if_true, if_false}
use Rattle.std.specs.Option.{option_map_or}

-- how many units follow the next length determinant
abbrev pub left : LengthDeterminants → ℕ
left None = 0
left (Some h) = h.1

-- no length determinant precedes the next unit
abbrev pub Ready : LengthDeterminants → ℕ → Type 0
Ready None n = Unit {0}
Ready (Some h) zero = ⊥
Ready (Some h) (suc n) = Unit {0}

-- a heading and what is due after it
abbrev pub by_heading : Bool → List Per.BitForm → Option ℕ → Option Heading → Option FieldList
by_heading al us q o = option_and_then (λ (g : Heading). option_map (λ b. g.field_list ++ b) (field_list_at (form_due al g.due g.determinants us) (on q g.field_list))) o

-- ---- one length determinant

pub next_field_list : (al : Bool) (ms : List ℕ) (us : List Per.BitForm) (p : Option ℕ) → field_list_at (Per.fragments al ms us) p ≡ by_heading al us p (next_determinant al ms (length us) p)
unfolding field_list_at Per.fragments
next_field_list al [] us p = go (field_list_at (Per.short_length al (length us)) p)
  where
    go : (o : Option FieldList) → option_and_then (λ a. option_map (λ b. a ++ b) (field_list_at (joined us) (on p a))) o ≡ by_heading al us p (option_map (λ w. before_all (length us) w) o)
    go None = refl
    go (Some w) = refl
next_field_list al (m ∷ ms) us p = by_test (leb 1 m && leb m 4 && leb (m * 16384) (length us))
  where
    go : (o : Option FieldList) →
        option_and_then (λ a. option_map (λ b. a ++ b)
        (field_list_at (both (joined (take (m * 16384) us)) (Per.fragments al ms (drop (m * 16384) us))) (on p a))) o
        ≡ by_heading al us p (option_map (λ w. record { field_list = w; due = m * 16384; determinants = Some (ms, length us - m * 16384) }) o)
    go None = refl
    go (Some w) = refl

    by_test : (t : Bool) → field_list_at
        (only_if t (both (Per.at_octet al (exactly (true ∷ true ∷ binary 6 m)))
        (both (joined (take (m * 16384) us)) (Per.fragments al ms (drop (m * 16384) us))))) p ≡ by_heading al us p
        (option_map (λ w. record { field_list = w; due = m * 16384; determinants = Some (ms, length us - m * 16384) })
        (field_list_at (only_if t (Per.at_octet al (exactly (true ∷ true ∷ binary 6 m)))) p))
    by_test false = refl
    by_test true = go (field_list_at (Per.at_octet al (exactly (true ∷ true ∷ binary 6 m))) p)

-- all that it counts is there
pub record Sound (n : ℕ) (g : Heading) : Type 0 where
  pub counts : g.due + left g.determinants ≡ n
  pub ready : Ready g.determinants g.due

abbrev pub AllSound : ℕ → Option Heading → Type 0
AllSound n None = Unit {0}
AllSound n (Some g) = Sound n g

before_all_sound : (n : ℕ) (o : Option FieldList) → AllSound n (option_map (λ w. before_all n w) o)
before_all_sound n None = tt
before_all_sound n (Some w) = record { counts = omega arith; ready = tt }

positive_ready : (n : ℕ) (h : List ℕ × ℕ) → 1 ≤ n → Ready (Some h) n
positive_ready zero h l = absurd (omega arith)
positive_ready (suc n) h l = tt

pub next_sound : (al : Bool) (ms : List ℕ) (n : ℕ) (p : Option ℕ) → AllSound n (next_determinant al ms n p)
unfolding field_list_at
next_sound al [] n p = before_all_sound n (field_list_at (Per.short_length al n) p)
next_sound al (m ∷ ms) n p = by_test (leb 1 m && leb m 4 && leb (m * 16384) n) refl
  where
    go : 1 ≤ m → m * 16384 ≤ n → (o : Option FieldList) → AllSound n (option_map (λ w. record { field_list = w; due = m * 16384; determinants = Some (ms, n - m * 16384) }) o)
    go l u None = tt
    go l u (Some w) = record { counts = omega arith; ready = positive_ready (m * 16384) (ms, n - m * 16384) (omega arith) }

    by_test : (t : Bool) → (leb 1 m && leb m 4 && leb (m * 16384) n) ≡ t →
        AllSound n (option_map (λ w. record { field_list = w; due = m * 16384; determinants = Some (ms, n - m * 16384) })
        (field_list_at (only_if t (Per.at_octet al (exactly (true ∷ true ∷ binary 6 m)))) p))
    by_test false e = tt
    by_test true e =
        let q = and_parts (leb 1 m && leb m 4) (leb (m * 16384) n) e in
        let r = and_parts (leb 1 m) (leb m 4) q.0 in
        go (leb-true 1 m r.0) (leb-true (m * 16384) n q.1) (field_list_at (Per.at_octet al (exactly (true ∷ true ∷ binary 6 m))) p)

-- ---- the heading is that of the form

pub record Leads (al : Bool) (f : Option ℕ → Option Heading) (n : ℕ) (us : List Per.BitForm) (x : Per.BitForm) : Type 0 where
  pub field_list : (p : Option ℕ) → field_list_at x p ≡ by_heading al us p (f p)
  pub sound : (p : Option ℕ) → AllSound n (f p)

pub general_leads : (al : Bool) (us : List Per.BitForm) → Leads al (λ p. general al (length us) p) (length us) us (Per.counted al us)
unfolding field_list_at Per.counted
general_leads al us = record { field_list = λ p. next_field_list al (Per.largest_first (length us)) us p; sound = λ p. next_sound al (Per.largest_first (length us)) (length us) p }

-- a number, the padding after it, and the units
number_field_list : (al b : Bool) (low high : ℕ) (us : List Per.BitForm) (n : ℕ) (p : Option ℕ) →
    field_list_at (both (Per.constrained al (high - low) (n - low)) (Per.at_octet (al && b) (joined us))) p ≡ field_list_at (both (count_form al low high b n) (joined us)) p
unfolding Per.at_octet
number_field_list true true low high us n p = sym (both_assoc (Per.constrained true (high - low) (n - low)) (placed (λ p. Per.padding (missing p))) (joined us) p)
number_field_list true false low high us n p = refl
number_field_list false true low high us n p = refl
number_field_list false false low high us n p = refl

pub count_leads : (al : Bool) (c : Counts) (high : Option ℕ) (has_padding : Counts → Bool) (us : List Per.BitForm) →
    Leads al (λ p. sized_count al c high (has_padding c) (length us) p) (length us) us (Per.sized_root al c high has_padding us)
unfolding field_list_at Per.sized_root
count_leads al c None has_padding us = general_leads al us
count_leads al c (Some high) has_padding us = by_test (ltb high 65536)
  where
    go : (p : Option ℕ) (o : Option FieldList) → option_and_then (λ a. option_map (λ b. a ++ b) (field_list_at (joined us) (on p a))) o
        ≡ by_heading al us p (option_map (λ w. before_all (length us) w) o)
    go p None = refl
    go p (Some w) = refl

    by_test : (t : Bool) → Leads al (λ p. count_up_to al c.low (has_padding c) (length us) p (cond t (Some high) None)) (length us) us
        (cond t (both (Per.constrained al (high - c.low) (length us - c.low)) (Per.at_octet (al && has_padding c) (joined us))) (Per.counted al us))
    by_test true = record {
      field_list = λ p. number_field_list al (has_padding c) c.low high us (length us) p ∙ go p (field_list_at (count_form al c.low high (has_padding c) (length us)) p);
      sound = λ p. before_all_sound (length us) (field_list_at (count_form al c.low high (has_padding c) (length us)) p);
    }
    by_test false = general_leads al us

bit_leads : (al b : Bool) (f : Option ℕ → Option Heading) (n : ℕ) (us : List Per.BitForm) (x : Per.BitForm) → Leads al f n us x → Leads al (behind_bit b f) n us (both (exactly (b ∷ [])) x)
unfolding field_list_at
bit_leads al b f n us x h = record { field_list = λ p. ap (option_map (λ c. bit b ∷ c)) (h.field_list (moved p 1)) ∙ go p (f (moved p 1)); sound = λ p. kept (f (moved p 1)) (h.sound (moved p 1)) }
  where
    one_more : (w : FieldList) (o : Option FieldList) → option_map (λ c. bit b ∷ c) (option_map (λ c. w ++ c) o) ≡ option_map (λ c. (bit b ∷ w) ++ c) o
    one_more w None = refl
    one_more w (Some c) = refl

    go : (p : Option ℕ) (o : Option Heading) → option_map (λ c. bit b ∷ c) (by_heading al us (moved p 1) o)
        ≡ by_heading al us p (option_map (λ (h : Heading). record { field_list = bit b ∷ h.field_list; due = h.due; determinants = h.determinants }) o)
    go p None = refl
    go p (Some g) =
        one_more g.field_list (field_list_at (form_due al g.due g.determinants us) (on (moved p 1) g.field_list))
        ∙ ap (λ q. option_map (λ c. (bit b ∷ g.field_list) ++ c) (field_list_at (form_due al g.due g.determinants us) q)) (sym (behind p (bit b ∷ []) g.field_list))

    kept : (o : Option Heading) → AllSound n o → AllSound n (option_map (λ (h : Heading). record { field_list = bit b ∷ h.field_list; due = h.due; determinants = h.determinants }) o)
    kept None c = tt
    kept (Some g) c = record { counts = c.counts; ready = c.ready }

pub if_leads : (al t : Bool) (f : Option ℕ → Option Heading) (n : ℕ) (us : List Per.BitForm) (x : Per.BitForm) → Leads al f n us x → Leads al (λ p. cond t (f p) None) n us (only_if t x)
unfolding field_list_at
if_leads al true f n us x h = h
if_leads al false f n us x h = record { field_list = λ p. refl; sound = λ p. tt }

pub extensible_leads : (al e t : Bool) (f g : Option ℕ → Option Heading) (n : ℕ) (us : List Per.BitForm) (x y : Per.BitForm) → Leads al f n us x →
    Leads al g n us y → Leads al (extensible_count e t f g) n us (Per.with_extension_bit e t x y)
unfolding field_list_at Per.with_extension_bit
extensible_leads al false t f g n us x y h k = if_leads al t f n us x h
extensible_leads al true true f g n us x y h k = let l = bit_leads al false f n us x h in record { field_list = l.field_list; sound = l.sound }
extensible_leads al true false f g n us x y h k = let l = bit_leads al true g n us y k in record { field_list = l.field_list; sound = l.sound }

-- units under a size constraint have the field-list of their heading, and of what is due after it
pub size_leads : (al : Bool) (z : Size) (has_padding : Bool) (us : List Per.BitForm) → Leads al (heading al z has_padding (length us)) (length us) us (of_size al z has_padding us)
size_leads al z has_padding us = extensible_leads al z.extensible (is_count_within z.counts (length us))
    (λ q. sized_count al z.counts z.counts.high has_padding (length us) q) (λ q. general al (length us) q) (length us) us
    (Per.sized_root al z.counts z.counts.high (λ _. has_padding) us) (Per.counted al us) (count_leads al z.counts z.counts.high (λ _. has_padding) us) (general_leads al us)

-- ---- what a writer adds after a heading

pub heads_added : (al : Bool) (us : List Per.BitForm) (x : Per.BitForm) (o : Option Heading) (d : Due) (old mid new : Packed) →
    field_list_at x (place old) ≡ by_heading al us (place old) o → Heads o old d mid →
    Adds (field_list_at (form_due al d.units (determinants_of d.behind) us) (place mid)) mid new → Adds (field_list_at x (place old)) old new
heads_added al us x o d old mid new e h a =
    let y : Per.BitForm = form_due al d.units (determinants_of d.behind) us in
    let t = added (field_list_at y (place mid)) mid new a in
    adds_field_list _ (h.field_list ++ t.0) old new
    (e ∙ ap (by_heading al us (place old)) h.is
    ∙ ap (λ q. option_map (λ b. h.field_list ++ b) (field_list_at y q)) (sym (place_behind old mid h.field_list (sym h.added)))
    ∙ ap (option_map (λ b. h.field_list ++ b)) t.1)
    (sym t.2 ∙ ap (λ l. plus l t.0) h.added ∙ plus_both old h.field_list t.0)

pub counted_added : (al : Bool) (us : List Per.BitForm) (n : ℕ) (d : Due) (old mid new : Packed) → n ≡ length us →
    Heads (general al n (place old)) old d mid → Adds (field_list_at (form_due al d.units (determinants_of d.behind) us) (place mid)) mid new →
    Adds (field_list_at (Per.counted al us) (place old)) old new
counted_added al us n d old mid new e h a = heads_added al us (Per.counted al us) (general al (length us) (place old)) d old mid new
    ((general_leads al us).field_list (place old)) (subst (λ k. Heads (general al k (place old)) old d mid) e h) a

pub size_added : (al : Bool) (z : Size) (has_padding : Bool) (us : List Per.BitForm) (n : ℕ) (d : Due) (old mid new : Packed) → n ≡ length us →
    Heads (heading al z has_padding n (place old)) old d mid → Adds (field_list_at (form_due al d.units (determinants_of d.behind) us) (place mid))
    mid new → Adds (field_list_at (of_size al z has_padding us) (place old)) old new
size_added al z has_padding us n d old mid new e h a = heads_added al us (of_size al z has_padding us)
    (heading al z has_padding (length us) (place old)) d old mid new ((size_leads al z has_padding us).field_list (place old))
    (subst (λ k. Heads (heading al z has_padding k (place old)) old d mid) e h) a

pub size_none : (al : Bool) (z : Size) (has_padding : Bool) (us : List Per.BitForm) (n : ℕ) (q : Option ℕ) → n ≡ length us →
    heading al z has_padding n q ≡ None → field_list_at (of_size al z has_padding us) q ≡ None
size_none al z has_padding us n q e h = (size_leads al z has_padding us).field_list q ∙ ap (by_heading al us q) (subst (λ k. heading al z has_padding k q ≡ None) e h)

-- ---- units that are due, and those after the next length determinant

module _ (al : Bool) (us : List Per.BitForm) (from : ℕ) (d : Due) (w : from ≤ length us) (s : IsDue (length us - from) d) where
  abbrev rest : List Per.BitForm
  rest = drop from us

  these : slice_range us from (from + d.units) ≡ take d.units rest
  these = let n : from + d.units - from ≡ d.units = omega arith in ap (λ i. take i rest) n

  pub fragment_added : (next : Due) (k : ℕ) (old mid out new : Packed) → d.behind ≡ Some k →
      Adds (field_list_at (joined (slice_range us from (from + d.units))) (place old)) old mid → Heads (general al k (place mid)) mid next out →
      Adds (field_list_at (form_due al next.units (determinants_of next.behind) (drop (from + d.units) us)) (place out)) out new →
      Adds (field_list_at (form_due al d.units (determinants_of d.behind) rest) (place old)) old new
  fragment_added next k old mid out new b a h r =
      let still : List Per.BitForm = drop d.units rest in
      let count : k ≡ length still = omega (arith, s.all, ap count_behind b, length-drop d.units rest, length-drop from us) in
      let leads : field_list_at (Per.fragments al (Per.largest_first k) still) (place mid) ≡ by_heading al still (place mid)
      (general al k (place mid)) = next_field_list al (Per.largest_first k) still (place mid) ∙
      ap (λ n. by_heading al still (place mid) (next_determinant al (Per.largest_first k) n (place mid))) (sym count) in
      let behind_it : Adds (field_list_at (form_due al next.units (determinants_of next.behind) still) (place out)) out new =
      subst (λ l. Adds (field_list_at (form_due al next.units (determinants_of next.behind) l) (place out)) out new) (sym (drop-drop d.units from us)) r in
      subst (λ o. Adds (field_list_at (form_due al d.units (determinants_of o) rest) (place old)) old new) (sym b)
      (adds_both (joined (take d.units rest)) (Per.fragments al (Per.largest_first k) still) old mid new
      (subst (λ l. Adds (field_list_at (joined l) (place old)) old mid) these a)
      (heads_added al still (Per.fragments al (Per.largest_first k) still) (general al k (place mid)) next mid out new leads h behind_it))

  pub last_added : (old new : Packed) → d.behind ≡ None → Adds (field_list_at (joined (slice_range us from (from + d.units))) (place old)) old new →
      Adds (field_list_at (form_due al d.units (determinants_of d.behind) rest) (place old)) old new
  last_added old new b a =
      let all : take d.units rest ≡ rest = take_all d.units rest (omega (arith, s.all, ap count_behind b, length-drop from us)) in
      subst (λ o. Adds (field_list_at (form_due al d.units (determinants_of o) rest) (place old)) old new) (sym b)
      (subst (λ l. Adds (field_list_at (joined l) (place old)) old new) (these ∙ all) a)

-- ---- under the counts that a type holds

pub held_added : (al : Bool) (z : Size) (h : Counts) (has_padding : Bool) (us : List Per.BitForm) (old new : Packed) →
    is_count_within h (length us) ≡ true → Adds (field_list_at (of_size al z has_padding us) (place old)) old new → Adds (field_list_at (Per.sized al z h (λ _. has_padding) us) (place old)) old new
unfolding Per.sized
held_added al z h has_padding us old new e a = adds_same _ _ old new (if_true (is_count_within h (length us)) (of_size al z has_padding us) (place old) e) a

pub held_none : (al : Bool) (z : Size) (h : Counts) (has_padding : Bool) (us : List Per.BitForm) (q : Option ℕ) →
    field_list_at (of_size al z has_padding us) q ≡ None → field_list_at (Per.sized al z h (λ _. has_padding) us) q ≡ None
unfolding Per.sized
held_none al z h has_padding us q e = go (is_count_within h (length us)) refl
  where
    go : (b : Bool) → is_count_within h (length us) ≡ b → field_list_at (only_if (is_count_within h (length us)) (of_size al z has_padding us)) q ≡ None
    go true t = if_true (is_count_within h (length us)) (of_size al z has_padding us) q t ∙ e
    go false t = if_false (is_count_within h (length us)) (of_size al z has_padding us) q t

pub not_held : (al : Bool) (z : Size) (h : Counts) (has_padding : Bool) (us : List Per.BitForm) (q : Option ℕ) →
    is_count_within h (length us) ≡ false → field_list_at (Per.sized al z h (λ _. has_padding) us) q ≡ None
unfolding Per.sized
not_held al z h has_padding us q e = if_false (is_count_within h (length us)) (of_size al z has_padding us) q e

-- without a bound, a number of elements that fits in 64 bits is not more than the Rust type holds
pub members_counted : (b : Bounded ℕ) (n : ℕ) → n < 2 ^ 64 → is_count_within (members_of b) n ≡ is_count_within (counts_of b) n
members_counted b n h = ap (λ t. leb (unwrap_or (lower b) 0) n && t) (go (upper b))
  where
    go : (u : Option ℕ) → option_map_or (λ x. leb n x) (Some (unwrap_or u (2 ^ 64 - 1))) true ≡ option_map_or (λ x. leb n x) u true
    go None = le-leb n (2 ^ 64 - 1) (omega (arith, h))
    go (Some m) = refl

pub members_sized : (al : Bool) (z : Size) (b : Bounded ℕ) (has_padding : Bool) (us : List Per.BitForm) (q : Option ℕ) → length us < 2 ^ 64 →
    field_list_at (Per.sized al z (members_of b) (λ _. has_padding) us) q ≡ field_list_at (Per.sized al z (counts_of b) (λ _. has_padding) us) q
unfolding Per.sized
members_sized al z b has_padding us q h = ap (λ t. field_list_at (only_if t (of_size al z has_padding us)) q) (members_counted b (length us) h)
