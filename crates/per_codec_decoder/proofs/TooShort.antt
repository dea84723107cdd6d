-- Why bits do not begin with some units, even with a few bits appended: there are fewer units than their length
-- determinant says.
use Rattle.std.proofs.Common.{◌≡◌, ℕ, ◌-◌, ◌*◌, ◌==◌, ◌≤◌, ◌<◌, leb, ◌&&◌, Bool, true, false, List, [], ◌++◌, length, Option, Some, None, ap, sym, subst, length-append, arith}
use Rattle.std.proofs.lemmas.Bool.{leb-true, eqb-true, and_parts}
use Rattle.asn1_model.specs.Schema.{Counts, Size, octet_string}
use Rattle.asn1_model.specs.Form.{exactly, placed}
use Rattle.asn1_model.specs.Per
use Rattle.asn1_laws_fronts.proofs.PerNumbers.{constrained_alike}
use Rattle.per_codec_laws.specs.Sizes.{extension_bit, told_highest}
use Rattle.per_codec_laws.specs.Takes.{Position, Front}
use Rattle.per_codec_laws.proofs.Fronts.{split, if_out, of_refused}
use Rattle.per_codec_longer_laws.proofs.Behind.{front_more}
use Rattle.per_codec_reading.specs.Fronts.{Leads, NoneStands}
use Rattle.per_codec_reading.specs.Lengths.{length_form}
use Rattle.per_codec_reading.specs.Headings.{contents_have_padding, told_count, determinant_form, heading_form, sized_units, units_by_count, units_by_length}
use Rattle.per_codec_reading.specs.Units.{count_of, counted_units, piece_form}
use Rattle.per_codec_reading.specs.declared.length.Length.{Length}
use Rattle.per_codec_reading.specs.declared.length.Length.TheVariants.{Fragment}
use Rattle.per_codec_reading.specs.declared.sized.Contents.TheVariants.{Strings}
use Rattle.per_codec_reading.specs.declared.headings.Heading.{Heading}
use Rattle.per_codec_reading.specs.declared.headings.LengthDeterminant.{LengthDeterminant}
use Rattle.per_codec_reading.specs.declared.headings.LengthDeterminant.TheVariants.{Constrained, General}
use Rattle.per_codec_reading.proofs.Fronts.{exactly_out}
use Rattle.per_codec_reading.proofs.RunFronts.{one, too_few, no_piece, none_behind, piece_in, run_in, run_out}
use Rattle.per_codec_reading.proofs.SizedFronts.{no_units}
use Rattle.per_codec_reading.proofs.StringFronts.{no_octet_string}
use Rattle.per_codec_decoder.specs.Missing.{count_in, StillTooShort}

module _ (free : Per.Freedom → Bool) where
  same_count : (al : Bool) (low high n k : ℕ) (a b c : Position) → Front free (told_count al low high n) a b → Front free (told_count al low high k) a c → (n ≡ k) × (b ≡ c)
  same_count al low high n k a b c f g =
      let i = if_out free (leb low n && leb n high) _ a b f in
      let j = if_out free (leb low k && leb k high) _ a c g in
      let m = one free a b c (constrained_alike free al (high - low) (n - low) (k - low)) i.1 j.1 in
      let p : low ≤ n = leb-true _ _ ((and_parts _ _ i.0).0) in
      let q : low ≤ k = leb-true _ _ ((and_parts _ _ j.0).0) in
      let e = m.0 in
      (omega arith, m.1)

  -- a prefix has no more bits than there are
  pub no_longer : (x : Per.BitForm) (a b : Position) → Front free x a b → length b.1 ≤ length a.1
  no_longer x a b f =
      let l = length-append f.text b.1 in
      let m = ap length f.in_front in
      omega arith

  exactly_long : (bs : List Bool) (a b : Position) → Front free (exactly bs) a b → length bs ≤ length a.1
  exactly_long bs a b f =
      let h = exactly_out free bs a b f in
      let l = length-append bs b.1 in
      let m = ap length h.0 in
      omega arith

  padded_long : (al : Bool) (bs : List Bool) (a b : Position) → Front free (Per.at_octet al (exactly bs)) a b → length bs ≤ length a.1
  unfolding Per.at_octet
  padded_long false bs a b f = exactly_long bs a b f
  padded_long true bs a b f =
      let s = split free (placed (λ p. Per.padding (Per.missing p))) (exactly bs) a b f in
      let k = exactly_long bs s.0 b s.2 in
      let l = no_longer (placed (λ p. Per.padding (Per.missing p))) a s.0 s.1 in
      omega arith

  module _ (al : Bool) (w : ℕ) where
    -- ---- by what gives their number
    counted_short : (l : Length) (a m : Position) → Front free (length_form al l) a m → length m.1 < count_of l * w → NoneStands free (counted_units al w) a
    counted_short l a m f h us b g = no_piece free al w a (too_few free al w l a m f h) us.0 us.1 b (run_out free al w us.0 us.1 a b g)

    told_short : (pad : ℕ → Counts → Bool) (c : Counts) (high n : ℕ) (a m : Position) → Front free (told_count al c.low high n) a m →
        length m.1 < n * w → NoneStands free (units_by_count al w pad c high) a
    told_short pad c high n a m f h us b g =
        let i = if_out free (length us.1 == us.0 * w) _ a b g in
        let s = split free (told_count al c.low high us.0) (Per.at_octet (al && pad us.0 c) (exactly us.1)) a b i.1 in
        let o = same_count al c.low high n us.0 a m s.0 f s.1 in
        let l = padded_long (al && pad us.0 c) us.1 s.0 b s.2 in
        let e = eqb-true _ _ i.0 in
        let k : n * w ≡ us.0 * w = ap (λ x. x * w) o.0 in
        let q : length m.1 ≡ length s.0.1 = ap (λ (p : Position). length p.1) o.1 in
        absurd (omega arith)

    units_short : (pad : ℕ → Counts → Bool) (c : Counts) (told : Option ℕ) (d : LengthDeterminant) (a m : Position) →
        Front free (determinant_form al c told d) a m → length m.1 < count_in d * w → NoneStands free (units_by_length al w pad c told) a
    units_short pad c None (General l) a m f h = counted_short l a m f h
    units_short pad c (Some high) (Constrained n) a m f h = told_short pad c high n a m f h
    units_short pad c None (Constrained n) a m f h = absurd (of_refused free a m f)
    units_short pad c (Some high) (General l) a m f h = absurd (of_refused free a m f)

    sized_short : (z : Size) (held : Counts) (pad : ℕ → Counts → Bool) (h : Heading) (a m : Position) → Front free (heading_form al z h) a m →
        length m.1 < count_in h.determinant * w → NoneStands free (sized_units al z held w pad) a
    sized_short z held pad h a m f l =
        let s = split free (extension_bit z.extensible h.is_outside) (determinant_form al z.counts (told_highest h.is_outside z.counts.high) h.determinant) a m f in
        no_units free al z held w pad h.is_outside a s.0 s.1 (units_short pad z.counts (told_highest h.is_outside z.counts.high) h.determinant s.0 m s.2 l)

    -- ---- with more bits appended
    short_still : {X : Type 0} (f : X → Per.BitForm) (g : Per.BitForm) (a m : Position) (count n : ℕ) → Front free g a m →
        ((p q : Position) → Front free g p q → length q.1 < count * w → NoneStands free f p) → n ≤ count * w - length m.1 - 1 → StillTooShort free f a n
    short_still f g a m count n h few k e i l =
        let j = length-append m.1 e in
        few (a.0, a.1 ++ e) (m.0, m.1 ++ e) (front_more free e g [] a m h) (omega (arith, i, k, l, j))

    pub counted_still_short : (l : Length) (a m : Position) (n : ℕ) → Front free (length_form al l) a m → n ≤ count_of l * w - length m.1 - 1 → StillTooShort free (counted_units al w) a n
    counted_still_short l a m n f k = short_still (counted_units al w) (length_form al l) a m (count_of l) n f (λ p q h i. counted_short l p q h i) k

    pub told_still_short : (z : Size) (held : Counts) (pad : ℕ → Counts → Bool) (h : Heading) (k : ℕ) (a m : Position) (n : ℕ) →
        Front free (heading_form al z h) a m → h.determinant ≡ Constrained k → n ≤ k * w - length m.1 - 1 → StillTooShort free (sized_units al z held w pad) a n
    told_still_short z held pad h k a m n f d l =
        let c : count_in h.determinant ≡ k = ap count_in d in
        short_still (sized_units al z held w pad) (heading_form al z h) a m (count_in h.determinant) n f (λ p q g i. sized_short z held pad h p q g i)
        (subst (λ j. n ≤ j * w - length m.1 - 1) (sym c) l)

    -- ---- after fragments
    pub fragment_passed : (m : ℕ) (bs : List Bool) (a mid next : Position) (n : ℕ) → Front free (length_form al (Fragment m)) a mid →
        Leads bs mid next → length bs ≡ m * 16384 * w → StillTooShort free (counted_units al w) next n → StillTooShort free (counted_units al w) a n
    fragment_passed m bs a mid next n f l e s more i j us b g =
        let piece = front_more free more (piece_form al w (Fragment m, bs)) [] a next (piece_in free al w (Fragment m) bs a mid next f l e) in
        none_behind free al w m bs (a.0, a.1 ++ more) (next.0, next.1 ++ more) piece (λ k cs c h r.
        s more i j (k, cs) c (run_in free al w k cs (next.0, next.1 ++ more) c r)) us.0 us.1 b (run_out free al w us.0 us.1 (a.0, a.1 ++ more) b g)

    -- units after a length determinant of the general form, after the extension bit
    general_short : (pad : ℕ → Counts → Bool) (c : Counts) (told : Option ℕ) (l : Length) (p m : Position) (n : ℕ) →
        Front free (determinant_form al c told (General l)) p m → ((q : Position) → Front free (length_form al l) q m →
        StillTooShort free (counted_units al w) q n) → StillTooShort free (units_by_length al w pad c told) p n
    general_short pad c None l p m n g s = s p g
    general_short pad c (Some high) l p m n g s = absurd (of_refused free p m g)

    pub general_still_short : (z : Size) (held : Counts) (pad : ℕ → Counts → Bool) (h : Heading) (l : Length) (a m : Position) (n : ℕ) →
        Front free (heading_form al z h) a m → h.determinant ≡ General l →
        ((p : Position) → Front free (length_form al l) p m → StillTooShort free (counted_units al w) p n) → StillTooShort free (sized_units al z held w pad) a n
    general_still_short z held pad h l a m n f d s e i j =
        let told = told_highest h.is_outside z.counts.high in
        let y = split free (extension_bit z.extensible h.is_outside) (determinant_form al z.counts told h.determinant) a m f in
        let g : Front free (determinant_form al z.counts told (General l)) y.0 m = subst (λ (x : LengthDeterminant). Front free (determinant_form al z.counts told x) y.0 m) d y.2 in
        let bit = front_more free e (extension_bit z.extensible h.is_outside) [] a y.0 y.1 in
        no_units free al z held w pad h.is_outside (a.0, a.1 ++ e) (y.0.0, y.0.1 ++ e) bit (general_short pad z.counts told l y.0 m n g s e i j)

pub string_still_short : (free : Per.Freedom → Bool) (al : Bool) (z : Size) (h : Counts) (a : Position) (n : ℕ) →
    StillTooShort free (sized_units al z h 8 (contents_have_padding Strings 8)) a n → StillTooShort free (Per.form al (octet_string z h)) a n
string_still_short free al z h a n s e i l = no_octet_string free al z h (a.0, a.1 ++ e) (s e i l)
