-- The units of fragments, as they are joined one fragment after another.
use Rattle.std.proofs.Common.{◌≡◌, ℕ, ◌+◌, ◌*◌, ◌<◌, ◌≤◌, leb, ◌&&◌, Bool, true, false, List, ◌∷◌, ◌++◌, length, refl, ap, sym, ◌∙◌, subst, append_assoc, arith, length-append}
use Rattle.std.proofs.lemmas.Bool.{false≢true}
use Rattle.asn1_model.specs.Numbers.{binary}
use Rattle.asn1_model.specs.Form.{exactly}
use Rattle.asn1_model.specs.Per
use Rattle.per_codec_laws.specs.Takes.{Position, Front}
use Rattle.per_codec_laws.proofs.Fronts.{split, if_in, if_out}
use Rattle.per_codec_reading.specs.Fronts.{NoneStands}
use Rattle.per_codec_reading.specs.declared.length.Length.{Length}
use Rattle.per_codec_reading.specs.declared.length.Length.TheVariants.{Short, Fragment}
use Rattle.per_codec_reading.proofs.Fronts.{exactly_out}
use Rattle.per_codec_reading.specs.Units.{Units, counted_units, piece_form, may_follow, length_may_follow, units_after}
use Rattle.per_codec_reading.specs.Runs.{Continued}
use Rattle.per_codec_reading.proofs.RunFronts.{Run, NoneAfter, piece_out, short_small, run_last, run_more, no_piece, none_behind, none_refused, run_in, run_out}
use Rattle.per_codec_reading.proofs.LargestFirst.{follows_last, fragment_follows}

module _ (free : Per.Freedom → Bool) where
  -- ---- a fragment is not empty
  not_longer : (x : Per.BitForm) (a b : Position) → Front free x a b → length b.1 ≤ length a.1
  not_longer x a b f = let e = ap length f.in_front in let n = length-append f.text b.1 in omega arith

  bits_shorten : (v : Bool) (l : List Bool) (a b : Position) → Front free (exactly (v ∷ l)) a b → length b.1 < length a.1
  bits_shorten v l a b f =
      let e = ap length (exactly_out free (v ∷ l) a b f).0 in
      let n = length-append l b.1 in
      omega arith

  at_octet_shortens : (al : Bool) (v : Bool) (l : List Bool) (a b : Position) → Front free (Per.at_octet al (exactly (v ∷ l))) a b → length b.1 < length a.1
  unfolding Per.at_octet
  at_octet_shortens false v l a b f = bits_shorten v l a b f
  at_octet_shortens true v l a b f =
      let s = split free _ (exactly (v ∷ l)) a b f in
      let m = not_longer _ a s.0 s.1 in
      let n = bits_shorten v l s.0 b s.2 in
      omega arith

  pub fragment_shortens : (al : Bool) (w m : ℕ) (xs : List Bool) (a b : Position) → Front free (piece_form al w (Fragment m, xs)) a b → length b.1 < length a.1
  fragment_shortens al w m xs a b f =
      let p = piece_out free al w (Fragment m) xs a b f in
      let n : length p.1.1 < length a.1 = at_octet_shortens al true (true ∷ binary 6 m) a p.1 (if_out free (leb 1 m && leb m 4) (Per.at_octet al (exactly (true ∷ true ∷ binary 6 m))) a p.1 p.2).1 in
      let l = ap length p.3.0 in
      let k = length-append xs b.1 in
      omega arith

  -- ---- from one fragment to the next
  abbrev any : Bool
  any = free Per.other_fragments

  -- Some units are joined to a first fragment, and what may follow the last of them continues them. If nothing that is
  -- allowed follows the last, nothing that is allowed followed the first.
  pub record Joins (al : Bool) (w l : ℕ) (first : Units) (start : Position) (m : ℕ) (joined : Units) (here : Position) : Type 0 where
    pub whole : (n : ℕ) (bs : List Bool) (b : Position) → may_follow any m n ≡ true → Run free al w n bs here b
        → (k : ℕ) × (cs : List Bool) × (first.0 + k ≡ joined.0 + n) × (first.1 ++ cs ≡ joined.1 ++ bs) × (may_follow any l k ≡ true) × Run free al w k cs start b
    pub none : NoneAfter free al w m here → NoneAfter free al w l start

  pub joins_none : (al : Bool) (w l : ℕ) (first : Units) (start : Position) → Joins al w l first start l first start
  joins_none al w l first start = record { whole = λ n bs b h r. (n, bs, refl, refl, h, r); none = λ h. h }

  pub joins_more : (al : Bool) (w l m k : ℕ) (xs : List Bool) (first joined : Units) (start here next : Position) →
      length_may_follow any m (Fragment k) ≡ true → Joins al w l first start m joined here → Front free (piece_form al w (Fragment k, xs)) here next →
      Joins al w l first start k (joined.0 + k * 16384, joined.1 ++ xs) next
  joins_more al w l m k xs first joined start here next t j f = record {
    whole = λ n bs b h r.
        let q = j.whole (k * 16384 + n) (xs ++ bs) b (fragment_follows any m k (k * 16384 + n) t) (run_more free al w k n xs bs here next b h f r) in
        let c = q.2 in
        (q.0, q.1, omega arith, q.3 ∙ sym (append_assoc joined.1 xs bs), q.4, q.5);
    none = λ h. j.none (λ n bs b g r. none_behind free al w k xs here next f h n bs b r);
  }

  pub joins_last : (al : Bool) (w l m n : ℕ) (xs : List Bool) (first joined : Units) (start here next : Position) →
      Joins al w l first start m joined here → Front free (piece_form al w (Short n, xs)) here next → Continued free (units_after any l al w) first (joined.0 + n, joined.1 ++ xs) start next
  joins_last al w l m n xs first joined start here next j f =
      let q = j.whole n xs next (follows_last any m n (short_small free al w n xs here next f)) (run_last free al w n xs here next f) in
      ((q.0, q.1), q.2, q.3, if_in free (may_follow any l q.0) _ start next q.4 (run_in free al w q.0 q.1 start next q.5))

  none_counted : (al : Bool) (w l : ℕ) (a : Position) → NoneAfter free al w l a → NoneStands free (units_after any l al w) a
  none_counted al w l a n us b f =
      let i = if_out free (may_follow any l us.0) (counted_units al w us) a b f in
      n us.0 us.1 b i.0 (run_out free al w us.0 us.1 a b i.1)

  pub joins_stop : (al : Bool) (w l m : ℕ) (first joined : Units) (start here : Position) → Joins al w l first start m joined here →
      NoneStands free (piece_form al w) here → NoneStands free (units_after any l al w) start
  joins_stop al w l m first joined start here j n = none_counted al w l start (j.none (λ k bs b h r. no_piece free al w here n k bs b r))

  -- a fragment that may not follow
  pub joins_refused : (al : Bool) (w l m : ℕ) (d : Length) (xs : List Bool) (first joined : Units) (start here next : Position) →
      length_may_follow any m d ≡ false → Joins al w l first start m joined here → Front free (piece_form al w (d, xs)) here next → NoneStands free (units_after any l al w) start
  joins_refused al w l m (Short n) xs first joined start here next t j f = absurd (false≢true (sym t))
  joins_refused al w l m (Fragment k) xs first joined start here next t j f = none_counted al w l start (j.none (none_refused free al w m k xs here next f t))

  -- ---- the first piece
  pub short_run : (al : Bool) (w n : ℕ) (xs : List Bool) (a b : Position) → Front free (piece_form al w (Short n, xs)) a b → Front free (counted_units al w (n, xs)) a b
  short_run al w n xs a b f = run_in free al w n xs a b (run_last free al w n xs a b f)

  pub long_run : (al : Bool) (w m : ℕ) (xs : List Bool) (all : Units) (a mid b : Position) → Front free (piece_form al w (Fragment m, xs)) a mid →
      Continued free (units_after any m al w) (m * 16384, xs) all mid b → Front free (counted_units al w all) a b
  long_run al w m xs all a mid b f c =
      let us = c.0 in
      let i = if_out free (may_follow any m us.0) (counted_units al w us) mid b c.3 in
      let r = run_more free al w m us.0 xs us.1 a mid b i.0 f (run_out free al w us.0 us.1 mid b i.1) in
      let g = run_in free al w (m * 16384 + us.0) (xs ++ us.1) a b r in
      let P : ℕ → Type 0 = λ k. Front free (counted_units al w (k, xs ++ us.1)) a b in
      let Q : List Bool → Type 0 = λ l. Front free (counted_units al w (all.0, l)) a b in
      subst Q c.2 (subst P c.1 g)

  pub no_first : (al : Bool) (w : ℕ) (a : Position) → NoneStands free (piece_form al w) a → NoneStands free (counted_units al w) a
  no_first al w a n us b f = no_piece free al w a n us.0 us.1 b (run_out free al w us.0 us.1 a b f)

  pub no_further : (al : Bool) (w m : ℕ) (xs : List Bool) (a mid : Position) → Front free (piece_form al w (Fragment m, xs)) a mid →
      NoneStands free (units_after any m al w) mid → NoneStands free (counted_units al w) a
  no_further al w m xs a mid f n us b g = none_behind free al w m xs a mid f
      (λ k bs c h r. n (k, bs) c (if_in free (may_follow any m k) _ mid c h (run_in free al w k bs mid c r))) us.0 us.1 b (run_out free al w us.0 us.1 a b g)
