-- What precedes the units under a size constraint, piece by piece, and the units after it.
use Rattle.std.proofs.Common.{◌≡◌, ℕ, ◌*◌, ◌<◌, ◌==◌, ◌&&◌, Bool, true, false, List, [], ◌∷◌, length, Option, Some, None, refl, ap, sym, subst}
use Rattle.asn1_model.specs.Schema.{Counts, Size}
use Rattle.asn1_model.specs.Form.{exactly}
use Rattle.asn1_model.specs.Per
use Rattle.asn1_schema_errors.specs.declared.DecodeError.{DecodeError}
use Rattle.per_codec_laws.specs.Sizes.{extension_bit, told_highest}
use Rattle.per_codec_laws.specs.Takes.{Position, Front}
use Rattle.per_codec_laws.proofs.Fronts.{split, if_out, of_refused}
use Rattle.per_codec_laws.proofs.Next.{same_extension_bit}
use Rattle.per_codec_reading.specs.Fronts.{Leads, NoneStands, Misses, Completes, MissesRest}
use Rattle.per_codec_reading.specs.Lengths.{length_form}
use Rattle.per_codec_reading.specs.Units.{Units, counted_units}
use Rattle.per_codec_reading.specs.Runs.{InOneRun}
use Rattle.per_codec_reading.specs.Headings.{told_count, determinant_form, heading_form, HoldsOneRun, is_outside, units_by_count, units_by_length}
use Rattle.per_codec_reading.specs.declared.length.Length.{Length}
use Rattle.per_codec_reading.specs.declared.headings.LengthDeterminant.{LengthDeterminant}
use Rattle.per_codec_reading.specs.declared.headings.LengthDeterminant.TheVariants.{Constrained, General}
use Rattle.per_codec_reading.proofs.Fronts.{exactly_out, misses_also}
use Rattle.per_codec_reading.proofs.RunFronts.{piece_out, run_out, no_piece}
use Rattle.per_codec_reading.proofs.ToldFronts.{no_octet, few_bits, told_stands}

module _ (free : Per.Freedom → Bool) (al : Bool) where
  -- ---- length determinants
  pub no_told : (c : Counts) (high : ℕ) (a : Position) → NoneStands free (told_count al c.low high) a → NoneStands free (determinant_form al c (Some high)) a
  no_told c high a n (Constrained k) b f = n k b f
  no_told c high a n (General l) b f = of_refused free a b f

  pub no_general : (c : Counts) (a : Position) → NoneStands free (length_form al) a → NoneStands free (determinant_form al c None) a
  no_general c a n (Constrained k) b f = of_refused free a b f
  no_general c a n (General l) b f = n l b f

  -- ---- headings
  pub no_bit : (z : Size) (a : Position) → NoneStands free (extension_bit z.extensible) a → NoneStands free (heading_form al z) a
  no_bit z a n h b f = let s = split free _ _ a b f in n h.is_outside s.0 s.1

  pub no_determinant : (z : Size) (o : Bool) (a mid : Position) → Front free (extension_bit z.extensible o) a mid →
      NoneStands free (determinant_form al z.counts (told_highest o z.counts.high)) mid → NoneStands free (heading_form al z) a
  no_determinant z o a mid k n h b f =
      let s = split free (extension_bit z.extensible h.is_outside) (determinant_form al z.counts (told_highest h.is_outside z.counts.high) h.determinant) a b f in
      let q = same_extension_bit free z.extensible o h.is_outside a mid s.0 k s.1 in
      let T : Bool → Position → Type 0 = λ t p. Front free (determinant_form al z.counts (told_highest t z.counts.high) h.determinant) p b in
      n h.determinant b (subst (λ t. T t mid) (sym q.0) (subst (λ p. T h.is_outside p) (sym q.1) s.2))

  -- ---- units after a length determinant
  pub no_padding : (w : ℕ) (has_padding : ℕ → Counts → Bool) (c : Counts) (n : ℕ) (padded : Bool) (m : Position) (e : DecodeError) →
      padded ≡ has_padding n c → Misses free (Per.at_octet (al && padded)) m e → (told : Option ℕ) →
      MissesRest free (determinant_form al c told (Constrained n)) (units_by_length al w has_padding c told) m e
  no_padding w has_padding c n padded m e i x None a f = absurd (of_refused free a m f)
  no_padding w has_padding c n padded m e i x (Some high) a f =
      misses_also free (Per.at_octet (al && padded)) (units_by_count al w has_padding c high) m a e
      (λ z. no_octet free al w has_padding c high n a m f (subst (λ t. NoneStands free (Per.at_octet (al && t)) m) i z)) x

  pub no_bits : (w : ℕ) (has_padding : ℕ → Counts → Bool) (c : Counts) (n : ℕ) (m o : Position) →
      Front free (Per.at_octet (al && has_padding n c) (exactly [])) m o → length o.1 < n * w → (told : Option ℕ) (a : Position) →
      Front free (determinant_form al c told (Constrained n)) a m → NoneStands free (units_by_length al w has_padding c told) a
  no_bits w has_padding c n m o k l None a f = absurd (of_refused free a m f)
  no_bits w has_padding c n m o k l (Some high) a f = few_bits free al w has_padding c high n a m o f k l

  pub constrained_units : (w : ℕ) (has_padding : ℕ → Counts → Bool) (c : Counts) (n : ℕ) (bs : List Bool) (m o b : Position) →
      Front free (Per.at_octet (al && has_padding n c) (exactly [])) m o → Leads bs o b → length bs ≡ n * w → (told : Option ℕ) →
      Completes free (determinant_form al c told (Constrained n)) (units_by_length al w has_padding c told (n, bs)) m b
  constrained_units w has_padding c n bs m o b k l e None a f = absurd (of_refused free a m f)
  constrained_units w has_padding c n bs m o b k l e (Some high) a f = told_stands free al w has_padding c high n bs a m o b f k l e

  pub general_units : (w : ℕ) (has_padding : ℕ → Counts → Bool) (c : Counts) (l : Length) (us : Units) (m b : Position) →
      Completes free (length_form al l) (counted_units al w us) m b → (told : Option ℕ) → Completes free (determinant_form al c told (General l)) (units_by_length al w has_padding c told us) m b
  general_units w has_padding c l us m b h None a f = h a f
  general_units w has_padding c l us m b h (Some high) a f = absurd (of_refused free a m f)

  pub no_general_units : (w : ℕ) (has_padding : ℕ → Counts → Bool) (c : Counts) (l : Length) (m : Position) (e : DecodeError) →
      MissesRest free (length_form al l) (counted_units al w) m e → (told : Option ℕ) → MissesRest free (determinant_form al c told (General l)) (units_by_length al w has_padding c told) m e
  no_general_units w has_padding c l m e h None a f = h a f
  no_general_units w has_padding c l m e h (Some high) a f = absurd (of_refused free a m f)

  -- units in one run, by what determines the form of their number
  pub in_one_run : (c : Counts) (told : Option ℕ) (d : LengthDeterminant) (n : ℕ) (a b : Position) → Front free (determinant_form al c told d) a b → InOneRun told n → HoldsOneRun d n
  in_one_run c None (General l) n a b f h = h
  in_one_run c None (Constrained k) n a b f h = tt
  in_one_run c (Some high) (Constrained k) n a b f h = tt
  in_one_run c (Some high) (General l) n a b f h = absurd (of_refused free a b f)

  -- ---- and back: what precedes units
  pub units_headed : (w : ℕ) (has_padding : ℕ → Counts → Bool) (c : Counts) (told : Option ℕ) (us : Units) (a b : Position) →
      Front free (units_by_length al w has_padding c told us) a b → NoneStands free (determinant_form al c told) a → ⊥
  units_headed w has_padding c (Some high) us a b f n =
      let i = if_out free (length us.1 == us.0 * w) _ a b f in
      let s = split free (told_count al c.low high us.0) (Per.at_octet (al && has_padding us.0 c) (exactly us.1)) a b i.1 in
      n (Constrained us.0) s.0 s.1
  units_headed w has_padding c None us a b f n = no_piece free al w a (λ x p g. let o = piece_out free al w x.0 x.1 a p g in n (General x.0) o.1 o.2) us.0 us.1 b (run_out free al w us.0 us.1 a b f)

-- the extension bit at the start
pub bit_in_front : (free : Per.Freedom → Bool) (e o : Bool) (a b : Position) → Front free (extension_bit e o) a b → is_outside e a.1 ≡ o
bit_in_front free false true a b f = absurd (of_refused free a b f)
bit_in_front free false false a b f = refl
bit_in_front free true o a b f = sym (ap (is_outside true) (exactly_out free (o ∷ []) a b f).0)
