-- How bits begin with the length determinants of elements.
use Rattle.std.proofs.Common.{◌≡◌, ℕ, zero, ◌-◌, ◌*◌, ◌+◌, ◌≤◌, ◌==◌, ltb, leb, Bool, true, false, not, cond, ◌||◌}
use Rattle.std.proofs.Common.{◌&&◌, inl, inr, List, ◌∷◌, Option, Some, None, Box, Global, refl, sym, ◌∙◌, ap, subst}
use Rattle.std.proofs.Common.{arith}
use Rattle.std.proofs.lemmas.Bool.{and_parts, and_from, leb-true, le-leb, eqb-true, eq-eqb}
use Rattle.asn1_model.specs.Schema.{Counts, Size}
use Rattle.asn1_model.specs.Numbers.{binary, is_count_within}
use Rattle.asn1_model.specs.Form.{exactly, only_if}
use Rattle.asn1_model.specs.Per
use Rattle.asn1_laws_fronts.proofs.Fronts.{agree_first, agree_if_right, agree_varied_right}
use Rattle.asn1_laws_fronts.proofs.PerNumbers.{Alike, at_octet_alike, bits_apart, short_length_alike, constrained_alike}
use Rattle.asn1_schema_errors.specs.declared.DecodeError.{DecodeError}
use Rattle.asn1_schema_errors.specs.declared.DecodeError.TheVariants.{OutOfMemory}
use Rattle.per_codec_laws.specs.Sizes.{extension_bit, told_highest}
use Rattle.per_codec_laws.specs.Takes.{Position, Tally, Scope, members, State, Front, InPlace, Admits, with_fragment, NextDeterminant, Counted, MemberDue, NextMember}
use Rattle.per_codec_laws.proofs.Fronts.{if_in, if_out, split, join, of_refused}
use Rattle.per_codec_laws.proofs.Next.{same_fronts, same_extension_bit}
use Rattle.per_codec_reading.specs.Fronts.{Misses}
use Rattle.per_codec_reading.specs.Lengths.{length_form}
use Rattle.per_codec_reading.specs.declared.length.Length.{Length}
use Rattle.per_codec_reading.specs.declared.length.Length.TheVariants.{Short, Fragment}
use Rattle.per_codec_reading.specs.Headings.{admitted, determinant_form, heading_form, may_be_outside}
use Rattle.per_codec_reading.proofs.Fronts.{or_free, free_or, missed}
use Rattle.per_codec_reading.specs.Units.{length_may_follow}
use Rattle.per_codec_reading.specs.declared.headings.Heading.{Heading}
use Rattle.per_codec_reading.specs.declared.headings.LengthDeterminant.{LengthDeterminant}
use Rattle.per_codec_reading.specs.declared.headings.LengthDeterminant.TheVariants.{Constrained, General}
use Rattle.per_codec_decoder.specs.Members.{HasMembers, NoMembers, NoDeterminant, NoFurther, tally_in}
use Rattle.std.specs.Option.{option_map_or}

-- what is known of a list is what the box holds
pub held_tally : (o : Option (Box Tally Global)) (boxed : Box Tally Global) (t : Tally) → o ≡ Some boxed → t ≡ boxed.value → tally_in o ≡ Some t
held_tally o boxed t e f = ap tally_in e ∙ ap (λ x. Some x) (sym f)

-- the bounds of a number of elements
pub between : (h : Counts) (most n : ℕ) → h.high ≡ Some most → is_count_within h n ≡ true → (h.low ≤ n) × (n ≤ most)
between h most n top e = let p = and_parts _ _ e in (leb-true h.low n p.0, leb-true n most (subst (λ t. (option_map_or (λ x. leb n x) t true) ≡ true) top p.1))

pub untrue : false ≡ true → ⊥
untrue e = cc

-- a count is bounded only in the root, by its highest
told_inside : (o : Bool) (high : Option ℕ) (x : ℕ) → told_highest o high ≡ Some x → (o ≡ false) × (high ≡ Some x)
told_inside true high x e = cc
told_inside false None x e = cc
told_inside false (Some y) x e = (refl, go (ltb y 65536) e)
  where
    go : (t : Bool) → cond t (Some y) None ≡ Some x → Some y ≡ Some x
    go true e = e
    go false e = cc

module _ (free : Per.Freedom → Bool) (al : Bool) where
  -- ---- length determinants
  apart_from_last : (m n : ℕ) (b : Bool) → Alike free (exactly (true ∷ true ∷ binary 6 m))
      (cond b (only_if (ltb n 16384) (exactly (true ∷ false ∷ binary 14 n))) (only_if (ltb n 128) (exactly (false ∷ binary 7 n)))) ⊥
  apart_from_last m n true = agree_if_right free (ltb n 16384) {x = exactly (true ∷ true ∷ binary 6 m)} {y = exactly (true ∷ false ∷ binary 14 n)} (λ h. agree_first free (λ e. bits_apart free))
  apart_from_last m n false = agree_if_right free (ltb n 128) {x = exactly (true ∷ true ∷ binary 6 m)} {y = exactly (false ∷ binary 7 n)} (λ h. bits_apart free)

  fragment_or_last : (m n : ℕ) → Alike free (Per.at_octet al (exactly (true ∷ true ∷ binary 6 m))) (Per.short_length al n) ⊥
  unfolding Per.short_length
  fragment_or_last m n = at_octet_alike free al (agree_varied_right free (λ b. apart_from_last m n b))

  pub no_determinant : (t : Tally) (a : Position) (e : DecodeError) → Misses free (length_form al) a e → NoDeterminant al free t a e
  no_determinant t a e m = record { none = λ i b due hs g. go i b due hs g }
    where
      go : ¬ (e ≡ OutOfMemory) → (b : Position) (due : ℕ) (hs : Option Tally) → NextDeterminant al free t a b due hs → ⊥
      go i b due hs (inl x) = missed free (length_form al) a e m i (Fragment x.0) b (if_in free (leb 1 x.0 && leb x.0 4) (Per.at_octet al (exactly (true ∷ true ∷ binary 6 x.0))) a b x.1 x.3)
      go i b due hs (inr x) = missed free (length_form al) a e m i (Short due) b x.1

  abbrev MayFollow : Tally → Length → Type 0
  MayFollow t l = length_may_follow (free Per.other_fragments) t.last l ≡ true

  pub fragment_determinant : (t u : Tally) (a b : Position) (m : ℕ) → MayFollow t (Fragment m) → Front free (length_form al (Fragment m)) a b →
      u ≡ with_fragment m t → NextDeterminant al free t a b (m * 16384) (Some u)
  fragment_determinant t u a b m h f e =
      let g = if_out free (leb 1 m && leb m 4) (Per.at_octet al (exactly (true ∷ true ∷ binary 6 m))) a b f in
      inl (m, g.0, elim (or_free (free Per.other_fragments) (t.last == 4) h) [ inl x ↦ inl (eqb-true t.last 4 x) | inr x ↦ inr x ], g.1, refl, ap (λ (v : Tally). Some v) e)

  -- a fragment that may not follow the last one
  pub not_behind : (t : Tally) (l : Length) (a b : Position) (e : DecodeError) → length_may_follow (free Per.other_fragments) t.last l ≡ false →
      Front free (length_form al l) a b → NoDeterminant al free t a e
  not_behind t (Short n) a b e w f = absurd (untrue (sym w))
  not_behind t (Fragment m) a b e w f = record { none = λ i c due hs g. go c due hs g }
    where
      go : (c : Position) (due : ℕ) (hs : Option Tally) → NextDeterminant al free t a c due hs → ⊥
      go c due hs (inl x) = untrue (sym w ∙ free_or (free Per.other_fragments) (t.last == 4) (elim x.2 [ inl y ↦ inl (eq-eqb t.last 4 y) | inr y ↦ inr y ]))
      go c due hs (inr x) =
          let g = if_out free (leb 1 m && leb m 4) (Per.at_octet al (exactly (true ∷ true ∷ binary 6 m))) a b f in
          (same_fronts free (fragment_or_last m due) a b c g.1 x.1).0

  in_place : (out t : Bool) → may_be_outside (free Per.root_told_outside) out t ≡ true → (out || t) ≡ true → InPlace free out t
  in_place false t f e = e
  in_place true t f e = elim (or_free (free Per.root_told_outside) (not t) f) [ inl x ↦ inl (not_true t x) | inr x ↦ inr x ]
    where
      not_true : (t : Bool) → not t ≡ true → t ≡ false
      not_true true e = cc
      not_true false e = refl

  out_of_place : (out t : Bool) → InPlace free out t → (out || t) ≡ true
  out_of_place false t e = e
  out_of_place true t e = refl

  outside_if_free : (out t : Bool) → InPlace free out t → may_be_outside (free Per.root_told_outside) out t ≡ true
  outside_if_free false t e = free_or (free Per.root_told_outside) true (inl refl)
  outside_if_free true t e = free_or (free Per.root_told_outside) (not t) (elim e [ inl x ↦ inl (ap not x) | inr x ↦ inr x ])

  abbrev pub MayBe : Tally → ℕ → Type 0
  MayBe t n = admitted t.held t.size.counts t.outside n ≡ true

  -- a reader accepts this number of elements
  abbrev pub Accepted : Tally → ℕ → Bool
  Accepted t n = may_be_outside (free Per.root_told_outside) t.outside (is_count_within t.size.counts n)

  pub last_determinant : (t : Tally) (a b : Position) (n total : ℕ) → total ≡ t.counted + n → MayBe t total → Accepted t total ≡ true →
      Front free (Per.short_length al n) a b → NextDeterminant al free t a b n None
  last_determinant t a b n total e m y g =
      let root = is_count_within t.size.counts (t.counted + n) in
      let p = and_parts (is_count_within t.held (t.counted + n)) (t.outside || root) (subst (λ k. MayBe t k) e m) in
      inr ((p.0, in_place t.outside root (subst (λ k. Accepted t k ≡ true) e y) p.1), g, refl)

  -- what a last length determinant says is known
  last_told : (t : Tally) (a b c : Position) (n due : ℕ) (hs : Option Tally) → Front free (Per.short_length al n) a b →
      NextDeterminant al free t a c due hs → Admits free t.size t.held t.outside (t.counted + n)
  last_told t a b c n due hs f (inl x) = absurd ((same_fronts free (fragment_or_last x.0 n) a c b x.3 f).0)
  last_told t a b c n due hs f (inr x) =
      let q = same_fronts free (short_length_alike free al n due) a b c f x.1 in
      subst (λ k. Admits free t.size t.held t.outside (t.counted + k)) (sym q.0) x.0

  pub other_last : (t : Tally) (a b : Position) (n total : ℕ) (e : DecodeError) → total ≡ t.counted + n →
      admitted t.held t.size.counts t.outside total ≡ false → Front free (Per.short_length al n) a b → NoDeterminant al free t a e
  other_last t a b n total e p w f = record {
    none = λ i c due hs g.
        let x = last_told t a b c n due hs f g in
        let h : MayBe t (t.counted + n) = and_from _ _ x.0 (out_of_place t.outside (is_count_within t.size.counts (t.counted + n)) x.1) in
        untrue (sym w ∙ subst (λ k. MayBe t k) (sym p) h);
  }

  pub not_accepted : (t : Tally) (a b : Position) (n total : ℕ) (e : DecodeError) → total ≡ t.counted + n → Accepted t total ≡ false →
      Front free (Per.short_length al n) a b → NoDeterminant al free t a e
  not_accepted t a b n total e p y f = record {
    none = λ i c due hs g.
        let x = last_told t a b c n due hs f g in
        let o = outside_if_free t.outside (is_count_within t.size.counts (t.counted + n)) x.1 in
        untrue (sym y ∙ subst (λ k. Accepted t k ≡ true) (sym p) o);
  }

  -- if no element is due after a length determinant, none follows these
  pub last_of : (t : Tally) (a b : Position) (due : ℕ) (hs : Option Tally) → NextDeterminant al free t a b due hs → due ≡ 0 → hs ≡ None
  last_of t a b due hs (inl x) e =
      let m = leb-true 1 x.0 ((and_parts (leb 1 x.0) (leb x.0 4) x.1).0) in
      let d = x.4 in
      absurd (omega (arith, m, d, e))
  last_of t a b due hs (inr x) e = x.2

  -- ---- elements that are due
  pub headed : (t : Tally) (v : Bool) (n : ℕ) (hs : Option Tally) (a mid : Position) (k : List Scope) (b : State) (due : ℕ) (ts : Option Tally) →
      n ≡ 0 → hs ≡ Some t → NextDeterminant al free t a mid due ts → MemberDue v due ts mid k b → NextMember al free v a (members n hs ∷ k) b
  headed t v n hs a mid k b due ts z s h m = subst (λ i. NextMember al free v a (members i hs ∷ k) b) (sym z) (subst (λ o. NextMember al free v a (members zero o ∷ k) b) (sym s) (due, ts, mid, h, m))

  pub no_further : (t : Tally) (n : ℕ) (hs : Option Tally) (a : Position) (k : List Scope) (e : DecodeError) → n ≡ 0 → hs ≡ Some t →
      NoDeterminant al free t a e → NoFurther al free a (members n hs ∷ k) e
  no_further t n hs a k e z s h = record {
    none = λ i v b g.
        let f : NextMember al free v a (members zero (Some t) ∷ k) b = subst (λ o. NextMember al free v a (members zero o ∷ k) b) s (subst (λ j. NextMember al free v a (members j hs ∷ k) b) z g) in
        h.none i f.2 f.0 f.1 f.3;
  }

  -- ---- what precedes elements
  abbrev begun : Size → Counts → Bool → Tally
  begun z h out = record { size = z; held = h; outside = out; counted = 0; last = 4 }

  abbrev Told : Size → Bool → Option ℕ
  Told z out = told_highest out z.counts.high

  abbrev First : Size → Heading → Position → Position → Type 0
  First z hd a b = Front free (heading_form al z hd) a b

  parts_of : (z : Size) (hd : Heading) (d : LengthDeterminant) (a b : Position) → hd.determinant ≡ d → First z hd a b → (mid : Position) ×
      Front free (extension_bit z.extensible hd.is_outside) a mid × Front free (determinant_form al z.counts (Told z hd.is_outside) d) mid b
  parts_of z hd d a b e f =
      let s = split free (extension_bit z.extensible hd.is_outside) (determinant_form al z.counts (Told z hd.is_outside) hd.determinant) a b f in
      (s.0, s.1, subst (λ x. Front free (determinant_form al z.counts (Told z hd.is_outside) x) s.0 b) e s.2)

  -- their number
  pub numbered : (z : Size) (h : Counts) (hd : Heading) (n : ℕ) (a b : Position) → hd.determinant ≡ Constrained n →
      admitted h z.counts hd.is_outside n ≡ true → First z hd a b → HasMembers al free z h n None a b
  numbered z h hd n a b e m f =
      let s = parts_of z hd (Constrained n) a b e f in
      (hd.is_outside, s.0, s.1, go (Told z hd.is_outside) refl s.0 s.2)
    where
      go : (told : Option ℕ) → Told z hd.is_outside ≡ told → (mid : Position) → Front free (determinant_form al z.counts told (Constrained n)) mid b →
          (k : List Scope) → Counted al free z h hd.is_outside told mid k (b, members n None ∷ k)
      go None t mid f k = absurd (of_refused free mid b f)
      go (Some x) t mid f k =
          let p = and_parts (is_count_within h n) (hd.is_outside || is_count_within z.counts n) m in
          let i : is_count_within z.counts n ≡ true = subst (λ o. (o || is_count_within z.counts n) ≡ true) ((told_inside hd.is_outside z.counts.high x t).0) p.1 in
          (n, (p.0, i), (if_out free (leb z.counts.low n && leb n x) _ mid b f).1, refl)

  -- or the length of a fragment or of the last elements
  pub headed_by : (z : Size) (h : Counts) (hd : Heading) (l : Length) (due : ℕ) (hs : Option Tally) (a b : Position) → hd.determinant ≡ General l →
      First z hd a b → ((c : Position) → Front free (length_form al l) c b → NextDeterminant al free (begun z h hd.is_outside) c b due hs) → HasMembers al free z h due hs a b
  headed_by z h hd l due hs a b e f g =
      let s = parts_of z hd (General l) a b e f in
      (hd.is_outside, s.0, s.1, go (Told z hd.is_outside) s.0 s.2)
    where
      go : (told : Option ℕ) (mid : Position) → Front free (determinant_form al z.counts told (General l)) mid b → (k : List Scope) →
          Counted al free z h hd.is_outside told mid k (b, members due hs ∷ k)
      go None mid f k = (due, hs, g mid f, refl)
      go (Some x) mid f k = absurd (of_refused free mid b f)

  -- ---- why the bits do not begin with it
  -- a length determinant is the first thing after an extension bit
  counted_headed : (z : Size) (h : Counts) (out : Bool) (told : Option ℕ) (mid : Position) (k : List Scope) (b : State) →
      told_highest out z.counts.high ≡ told → Counted al free z h out told mid k b → (d : LengthDeterminant) × Front free (determinant_form al z.counts told d) mid b.0
  counted_headed z h out None mid k b t g = by_determinant g.0 g.1 g.2
    where
      by_determinant : (due : ℕ) (hs : Option Tally) → NextDeterminant al free (begun z h out) mid b.0 due hs → (d : LengthDeterminant) × Front free (determinant_form al z.counts None d) mid b.0
      by_determinant due hs (inl x) = (General (Fragment x.0), if_in free (leb 1 x.0 && leb x.0 4) (Per.at_octet al (exactly (true ∷ true ∷ binary 6 x.0))) mid b.0 x.1 x.3)
      by_determinant due hs (inr x) = (General (Short due), x.1)
  counted_headed z h out (Some x) mid k b t g =
      let p = between z.counts x g.0 ((told_inside out z.counts.high x t).1) g.1.1 in
      (Constrained g.0, if_in free (leb z.counts.low g.0 && leb g.0 x) _ mid b.0 (and_from _ _ (le-leb _ _ p.0) (le-leb _ _ p.1)) g.2)

  pub no_heading : (z : Size) (h : Counts) (a : Position) (e : DecodeError) → Misses free (heading_form al z) a e → NoMembers al free z h a e
  no_heading z h a e m = record {
    none = λ i n k b g.
        let d = counted_headed z h g.1 (Told z g.1) g.2 k b refl g.4 in
        missed free (heading_form al z) a e m i (record { is_outside = g.1; determinant = d.0 }) b.0
        (join free (extension_bit z.extensible g.1) (determinant_form al z.counts (Told z g.1) d.0) a g.2 b.0 g.3 d.1);
  }

  -- after the same extension bit
  abbrev Begun : Size → Counts → Bool → Position → List Scope → State → Type 0
  Begun z h out mid k b = Counted al free z h out (Told z out) mid k b

  same_bit : (z : Size) (h : Counts) (out o : Bool) (a mid m : Position) (k : List Scope) (b : State) →
      Front free (extension_bit z.extensible out) a mid → Front free (extension_bit z.extensible o) a m → Begun z h o m k b → Begun z h out mid k b
  same_bit z h out o a mid m k b f g c =
      let q = same_extension_bit free z.extensible o out a m mid g f in
      subst (λ p. Begun z h out p k b) q.1 (subst (λ t. Begun z h t m k b) q.0 c)

  pub not_so_many : (z : Size) (h : Counts) (hd : Heading) (n : ℕ) (a b : Position) (e : DecodeError) → hd.determinant ≡ Constrained n →
      false ≡ admitted h z.counts hd.is_outside n → First z hd a b → NoMembers al free z h a e
  not_so_many z h hd n a b e d w f =
      let s = parts_of z hd (Constrained n) a b d f in
      record { none = λ i j k c g. go (Told z hd.is_outside) s.0 s.2 k c (same_bit z h hd.is_outside g.1 a s.0 g.2 k c s.1 g.3 g.4) }
    where
      or_right : (o t : Bool) → t ≡ true → (o || t) ≡ true
      or_right true t e = refl
      or_right false t e = e

      go : (told : Option ℕ) (mid : Position) → Front free (determinant_form al z.counts told (Constrained n)) mid b → (k : List Scope) (c : State) → Counted al free z h hd.is_outside told mid k c → ⊥
      go None mid f k c g = of_refused free mid b f
      go (Some x) mid f k c g =
          let r = if_out free (leb z.counts.low n && leb n x) (Per.constrained al (x - z.counts.low) (n - z.counts.low)) mid b f in
          let p = same_fronts free (constrained_alike free al (x - z.counts.low) (n - z.counts.low) (g.0 - z.counts.low)) mid b c.0 r.1 g.2 in
          let j : n - z.counts.low ≡ g.0 - z.counts.low = p.0 in
          let l = leb-true z.counts.low n ((and_parts (leb z.counts.low n) (leb n x) r.0).0) in
          let u = leb-true z.counts.low g.0 ((and_parts (leb z.counts.low g.0) (option_map_or (λ x. leb g.0 x) z.counts.high true) g.1.1).0) in
          let y : g.0 ≡ n = omega (arith, j, l, u) in
          let v = subst (λ m. Admits free z h false m) y g.1 in
          untrue (w ∙ and_from (is_count_within h n) (hd.is_outside || is_count_within z.counts n) v.0 (or_right hd.is_outside (is_count_within z.counts n) v.1))

  pub no_list_determinant : (z : Size) (h : Counts) (hd : Heading) (l : Length) (a b : Position) (e : DecodeError) → hd.determinant ≡ General l →
      First z hd a b → ((c : Position) → Front free (length_form al l) c b → NoDeterminant al free (begun z h hd.is_outside) c e) → NoMembers al free z h a e
  no_list_determinant z h hd l a b e d f n =
      let s = parts_of z hd (General l) a b d f in
      record { none = λ i j k c g. go i (Told z hd.is_outside) s.0 s.2 k c (same_bit z h hd.is_outside g.1 a s.0 g.2 k c s.1 g.3 g.4) }
    where
      go : ¬ (e ≡ OutOfMemory) → (told : Option ℕ) (mid : Position) → Front free (determinant_form al z.counts told (General l)) mid b →
          (k : List Scope) (c : State) → Counted al free z h hd.is_outside told mid k c → ⊥
      go i None mid f k c g =
          let m : NoDeterminant al free (begun z h hd.is_outside) mid e = n mid f in
          m.none i c.0 g.0 g.1 g.2
      go i (Some x) mid f k c g = of_refused free mid b f
