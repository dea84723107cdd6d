-- Octets that are skipped, one fragment after another and one unknown addition after another.
use Rattle.std.proofs.Common.{◌≡◌, ℕ, ◌+◌, ◌*◌, ◌<◌, Bool, true, false, Some, None, List, [], ◌∷◌, ◌++◌, length, map, refl, ap, sym, subst}
use Rattle.asn1_model.specs.Numbers as Numbers
use Rattle.asn1_model.specs.Form.{joined, present_ones}
use Rattle.std.specs.Prelude.{is_some}
use Rattle.asn1_model.specs.Per
use Rattle.asn1_laws_fronts.proofs.PerNumbers.{counted_octets_alike}
use Rattle.asn1_schema_errors.specs.declared.DecodeError.{DecodeError}
use Rattle.asn1_schema_errors.specs.declared.DecodeError.TheVariants.{OutOfMemory, AlreadyFailed}
use Rattle.per_codec_laws.specs.Takes.{Position, Front, Skips, unknown_forms}
use Rattle.per_codec_laws.proofs.Fronts.{split, join, if_in, if_out, nothing_front}
use Rattle.per_codec_laws.proofs.Next.{same_fronts}
use Rattle.per_codec_reading.specs.Fronts.{NoneStands, Misses}
use Rattle.per_codec_reading.specs.declared.length.Length.{Length}
use Rattle.per_codec_reading.specs.declared.length.Length.TheVariants.{Short, Fragment}
use Rattle.per_codec_reading.specs.Units.{Units, counted_units, piece_form, units_after, may_follow, length_may_follow}
use Rattle.per_codec_reading.proofs.Loops.{Joins, joins_none, joins_more, joins_last, joins_stop, joins_refused, fragment_shortens}
use Rattle.per_codec_reading.proofs.LargestFirst.{follows_four}
use Rattle.per_codec_reading_values.specs.Fields.{HasPiece, HasUnits, NoSkip}
use Rattle.per_codec_reading_values.proofs.FieldFronts.{octets_of, units_by_length}

-- except if memory runs out, the bits do not begin with what is not found
pub missed : {X : Type 0} (free : Per.Freedom → Bool) (f : X → Per.BitForm) (a : Position) (e : DecodeError) → Misses free f a e → ¬ (e ≡ OutOfMemory) → NoneStands free f a
missed free f a OutOfMemory m n = absurd (n refl)
missed free f a AlreadyFailed m n = absurd m
missed free f a e m n = m

-- the same for a position that is known by its equal
pub misses_at : {X : Type 0} (free : Per.Freedom → Bool) (f : X → Per.BitForm) (a b : Position) (e : DecodeError) → a ≡ b → Misses free f a e → Misses free f b e
misses_at free f a b e q m = subst (λ (p : Position). Misses free f p e) q m

module _ (free : Per.Freedom → Bool) (al : Bool) where
  -- ---- fragments
  -- octets of the fragments so far are skipped
  abbrev pub Passed : Position → ℕ → Position → Type 0
  Passed start m here = (us : Units) × Joins free al 8 4 (0, []) start m us here

  abbrev any : Bool
  any = free Per.other_fragments

  -- after a fragment of four times 16384, all units are allowed
  after_four : (start : Position) → NoneStands free (units_after any 4 al 8) start → NoneStands free (counted_units al 8) start
  after_four start n us b f = n us b (if_in free (may_follow any 4 us.0) _ start b (follows_four any 4 us.0 refl) f)

  pub passed_none : (start : Position) → Passed start 4 start
  passed_none start = ((0, []), joins_none free al 8 4 (0, []) start)

  pub passed_more : (m k : ℕ) (l : Length) (start here next : Position) → l ≡ Fragment k → length_may_follow any m l ≡ true → Passed start m here → HasPiece free al l here next → Passed start k next
  passed_more m k l start here next e t j f =
      let g = subst (λ x. HasPiece free al x here next) e f in
      ((j.0.0 + k * 16384, j.0.1 ++ g.0), joins_more free al 8 4 m k g.0 (0, []) j.0 start here next (subst (λ x. length_may_follow any m x ≡ true) e t) j.1 g.1)

  pub passed_last : (m n : ℕ) (start here next : Position) → Passed start m here → HasPiece free al (Short n) here next → HasUnits free al start next
  passed_last m n start here next j f =
      let c = joins_last free al 8 4 m n f.0 (0, []) j.0 start here next j.1 f.1 in
      (c.0, (if_out free (may_follow any 4 c.0.0) (counted_units al 8 c.0) start next c.3).1)

  pub passed_stop : (m : ℕ) (start here : Position) → Passed start m here → NoneStands free (piece_form al 8) here → NoneStands free (counted_units al 8) start
  passed_stop m start here j n = after_four start (joins_stop free al 8 4 m (0, []) j.0 start here j.1 n)

  -- a fragment that may not follow
  pub passed_refused : (m : ℕ) (l : Length) (start here next : Position) → length_may_follow any m l ≡ false → Passed start m here →
      HasPiece free al l here next → NoneStands free (counted_units al 8) start
  passed_refused m l start here next t j f = after_four start (joins_refused free al 8 4 m l f.0 (0, []) j.0 start here next t j.1 f.1)

  pub piece_shortens : (m : ℕ) (a b : Position) → HasPiece free al (Fragment m) a b → length b.1 < length a.1
  piece_shortens m a b f = fragment_shortens free al 8 m f.0 a b f.1

  -- ---- unknown additions
  skip_there : (us : List Bool) (a m b : Position) → HasUnits free al a m → Skips al free us m b → Skips al free (true ∷ us) a b
  skip_there us a m b f s =
      let o = octets_of free al f.0 a m f.1 in
      (Some o.0 ∷ s.0, ap (λ (l : List Bool). true ∷ l) s.1, join free (Per.counted_octets al o.0) (joined (present_ones (unknown_forms al s.0))) a m b o.2 s.2)

  skip_absent : (us : List Bool) (a b : Position) → Skips al free us a b → Skips al free (false ∷ us) a b
  skip_absent us a b s = (None ∷ s.0, ap (λ (l : List Bool). false ∷ l) s.1, s.2)

  skipped_there : (us : List Bool) (a b : Position) → Skips al free (true ∷ us) a b → (os : List ℕ) × (m : Position) × Front free (Per.counted_octets al os) a m × Skips al free us m b
  skipped_there us a b ([], e, f) = let n : [] ≡ true ∷ us = e in cc
  skipped_there us a b (None ∷ xs, e, f) = let n : false ∷ map (λ a. is_some a) (unknown_forms al xs) ≡ true ∷ us = e in cc
  skipped_there us a b (Some os ∷ xs, e, f) =
      let n : true ∷ map (λ a. is_some a) (unknown_forms al xs) ≡ true ∷ us = e in
      let t : map (λ a. is_some a) (unknown_forms al xs) ≡ us = cc in
      let s = split free (Per.counted_octets al os) (joined (present_ones (unknown_forms al xs))) a b f in
      (os, s.0, s.1, (xs, t, s.2))

  skipped_absent : (us : List Bool) (a b : Position) → Skips al free (false ∷ us) a b → Skips al free us a b
  skipped_absent us a b ([], e, f) = let n : [] ≡ false ∷ us = e in cc
  skipped_absent us a b (Some os ∷ xs, e, f) = let n : true ∷ map (λ a. is_some a) (unknown_forms al xs) ≡ false ∷ us = e in cc
  skipped_absent us a b (None ∷ xs, e, f) =
      let n : false ∷ map (λ a. is_some a) (unknown_forms al xs) ≡ false ∷ us = e in
      let t : map (λ a. is_some a) (unknown_forms al xs) ≡ us = cc in
      (xs, t, f)

  one_octets : (us : Units) (os : List ℕ) (a b c : Position) → Front free (counted_units al 8 us) a b → Front free (Per.counted_octets al os) a c → b ≡ c
  one_octets us os a b c f g = let o = octets_of free al us a b f in (same_fronts free (counted_octets_alike free al o.0 os) a b c o.2 g).1

  -- some presence bits were visited, and these are left
  pub record Reaches (all : List Bool) (start : Position) (left : List Bool) (here : Position) : Type 0 where
    pub whole : (b : Position) → Skips al free left here b → Skips al free all start b
    pub back : (b : Position) → Skips al free all start b → Skips al free left here b

  pub reaches_first : (all : List Bool) (start : Position) → Reaches all start all start
  reaches_first all start = record { whole = λ b s. s; back = λ b s. s }

  pub reaches_there : (all : List Bool) (v : Bool) (left : List Bool) (start here next : Position) → v ≡ true → Reaches all start (v ∷ left) here →
      HasUnits free al here next → Reaches all start left next
  reaches_there all false left start here next t r f = cc
  reaches_there all true left start here next t r f = record {
    whole = λ b s. r.whole b (skip_there left here next b f s);
    back = λ b s.
        let q = skipped_there left here b (r.back b s) in
        let e = one_octets f.0 q.0 here next q.1 f.1 q.2 in
        subst (λ p. Skips al free left p b) (sym e) q.3;
  }

  pub reaches_absent : (all : List Bool) (v : Bool) (left : List Bool) (start here : Position) → v ≡ false → Reaches all start (v ∷ left) here → Reaches all start left here
  reaches_absent all true left start here t r = cc
  reaches_absent all false left start here t r = record { whole = λ b s. r.whole b (skip_absent left here b s); back = λ b s. skipped_absent left here b (r.back b s) }

  pub reaches_end : (all left : List Bool) (start here : Position) → left ≡ [] → Reaches all start left here → Skips al free all start here
  reaches_end all left start here e r = r.whole here (subst (λ l. Skips al free l here here) (sym e) ([], refl, nothing_front free here))

  pub reaches_stop : (all : List Bool) (v : Bool) (left : List Bool) (start here : Position) (e : DecodeError) → v ≡ true →
      Reaches all start (v ∷ left) here → Misses free (counted_units al 8) here e → NoSkip free al all start e
  reaches_stop all false left start here e t r m = cc
  reaches_stop all true left start here e t r m = λ n b s.
      let q = skipped_there left here b (r.back b s) in
      missed free (counted_units al 8) here e m n (length q.0, Numbers.octet_bits q.0) q.1 (units_by_length free al q.0 here q.1 q.2)
