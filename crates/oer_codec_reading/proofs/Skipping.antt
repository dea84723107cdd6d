-- Unknown additions that are skipped.
use Rattle.std.proofs.Common.{◌≡◌, ℕ, ◌^◌, ◌-◌, ◌<◌, Bool, true, false, List, [], ◌∷◌, length, take, Some, None, refl, sym, ap, ◌∙◌, subst, arith, take_all}
use Rattle.asn1_laws_fronts.proofs.OerNumbers.{counted_alike}
use Rattle.asn1_model.specs.Form.{joined, present_ones}
use Rattle.asn1_model.specs.Oer
use Rattle.asn1_schema_errors.specs.declared.DecodeError.{DecodeError}
use Rattle.oer_codec_laws.specs.Takes.{Front, Skips, unknown_forms}
use Rattle.oer_codec_laws.proofs.Anywhere.{joined_moves, each_unknown_moves}
use Rattle.oer_codec_laws.proofs.Fronts.{nothing_front, split, join}
use Rattle.oer_codec_laws.proofs.Next.{same_fronts}
use Rattle.oer_codec_reading.specs.Fronts.{Stands, Misses}
use Rattle.oer_codec_reading.proofs.Fronts.{missed, not_before}
use Rattle.oer_codec_reading.specs.Skipping.{SkipsNone}

pub as_front : (free : Oer.Freedom → Bool) (x : Oer.OctetForm) (os rest : List ℕ) → Stands free x os rest → Front free x os rest
as_front free x os rest h = record { text = h.0; has_form = h.2; in_front = h.1 }

pub as_stands : (free : Oer.Freedom → Bool) (x : Oer.OctetForm) (os rest : List ℕ) → Front free x os rest → Stands free x os rest
as_stands free x os rest f = (f.text, f.in_front, f.has_form)

module _ (free : Oer.Freedom → Bool) where
  pub skip_none : (os : List ℕ) → Skips free [] os os
  skip_none os = ([], refl, nothing_front free os)

  -- one that is absent
  pub skip_absent : (us : List Bool) (os rest : List ℕ) → Skips free us os rest → Skips free (false ∷ us) os rest
  skip_absent us os rest h = (None ∷ h.0, ap (λ l. false ∷ l) h.1, h.2)

  pub skipped_absent : (us : List Bool) (os rest : List ℕ) → Skips free (false ∷ us) os rest → Skips free us os rest
  skipped_absent us os rest ([], e, f) = cc e
  skipped_absent us os rest (None ∷ xs, e, f) = (xs, cc e, f)
  skipped_absent us os rest (Some x ∷ xs, e, f) = cc e

  -- one that is present
  pub skip_present : (us : List Bool) (l os mid rest : List ℕ) → Stands free (Oer.counted l) os mid → Skips free us mid rest → Skips free (true ∷ us) os rest
  skip_present us l os mid rest h s = (
    Some l ∷ s.0,
    ap (λ l. true ∷ l) s.1,
    join free (Oer.counted l) (joined (present_ones (unknown_forms s.0)))
        (joined_moves free (unknown_forms s.0) (each_unknown_moves free s.0)) os mid rest (as_front free (Oer.counted l) os mid h) s.2,
  )

  present_first : (us : List Bool) (os rest : List ℕ) → Skips free (true ∷ us) os rest → (l : List ℕ) × (mid : List ℕ) × Front free (Oer.counted l) os mid × Skips free us mid rest
  present_first us os rest ([], e, f) = cc e
  present_first us os rest (None ∷ xs, e, f) = cc e
  present_first us os rest (Some x ∷ xs, e, f) =
      let q = split free (Oer.counted x) (joined (present_ones (unknown_forms xs))) (joined_moves free (unknown_forms xs) (each_unknown_moves free xs)) os rest f in
      (x, q.0, q.1, (xs, cc e, q.2))

  pub skipped_present : (us : List Bool) (l os mid rest : List ℕ) → Stands free (Oer.counted l) os mid → Skips free (true ∷ us) os rest → Skips free us mid rest
  skipped_present us l os mid rest h s =
      let p = present_first us os rest s in
      let q = (same_fronts free (counted_alike free p.0 l) os p.1 mid p.2 (as_front free (Oer.counted l) os mid h)).1 in
      subst (λ m. Skips free us m rest) q p.3

  pub none_present : (us : List Bool) (os : List ℕ) (e : DecodeError) → Misses free Oer.counted os e → SkipsNone free (true ∷ us) os e
  none_present us os e m = record {
    none = λ i rest s. let p = present_first us os rest s in
        missed free Oer.counted os e m i p.0 p.1 (as_stands free (Oer.counted p.0) os p.1 p.2);
    fresh = not_before free Oer.counted os e m;
  }

pub all_taken : (l : List ℕ) → length l < 2 ^ 60 → take (2 ^ 60 - 1) l ≡ l
all_taken l h = take_all (2 ^ 60 - 1) l (omega (arith, h))

-- ---- one turn of the loop

-- how the octets before a turn and those after it are related
abbrev pub Together : (Oer.Freedom → Bool) → List Bool → List Bool → List ℕ → List ℕ → Type 0
Together free us vs os mid = ((rest : List ℕ) → Skips free vs mid rest → Skips free us os rest) × ((rest : List ℕ) → Skips free us os rest → Skips free vs mid rest)

pub together_at_first : (free : Oer.Freedom → Bool) (us : List Bool) (os : List ℕ) → Together free us us os os
together_at_first free us os = (λ rest s. s, λ rest s. s)

pub together_on : (free : Oer.Freedom → Bool) (us vs ws : List Bool) (os mid new : List ℕ) → Together free us vs os mid → Together free vs ws mid new → Together free us ws os new
together_on free us vs ws os mid new t u = (λ rest s. t.0 rest (u.0 rest s), λ rest s. u.1 rest (t.1 rest s))

pub one_present : (free : Oer.Freedom → Bool) (us vs : List Bool) (b : Bool) (l os mid : List ℕ) → us ≡ b ∷ vs → b ≡ true → Stands free (Oer.counted l) os mid → Together free us vs os mid
one_present free us vs b l os mid e t h =
    let f : us ≡ true ∷ vs = e ∙ ap (λ x. x ∷ vs) t in
    subst (λ ws. Together free ws vs os mid) (sym f) (λ rest s. skip_present free vs l os mid rest h s, λ rest s. skipped_present free vs l os mid rest h s)

pub one_absent : (free : Oer.Freedom → Bool) (us vs : List Bool) (b : Bool) (os : List ℕ) → us ≡ b ∷ vs → b ≡ false → Together free us vs os os
one_absent free us vs b os e t =
    let f : us ≡ false ∷ vs = e ∙ ap (λ x. x ∷ vs) t in
    subst (λ ws. Together free ws vs os os) (sym f) (λ rest s. skip_absent free vs os rest s, λ rest s. skipped_absent free vs os rest s)

pub first_missed : (free : Oer.Freedom → Bool) (us vs : List Bool) (b : Bool) (os : List ℕ) (e : DecodeError) → us ≡ b ∷ vs → b ≡ true → Misses free Oer.counted os e → SkipsNone free us os e
first_missed free us vs b os e f t m =
    let g : us ≡ true ∷ vs = f ∙ ap (λ x. x ∷ vs) t in
    subst (λ ws. SkipsNone free ws os e) (sym g) (none_present free vs os e m)

-- if those of later bits are not skipped, neither are all
pub stopped : (free : Oer.Freedom → Bool) (us vs : List Bool) (os mid : List ℕ) (e : DecodeError) → Together free us vs os mid → SkipsNone free vs mid e → SkipsNone free us os e
stopped free us vs os mid e t m = record { none = λ i rest s. m.none i rest (t.1 rest s); fresh = m.fresh }

-- none are left
pub all_skipped : (free : Oer.Freedom → Bool) (us vs : List Bool) (os mid : List ℕ) → Together free us vs os mid → vs ≡ [] → Skips free us os mid
all_skipped free us vs os mid t n = t.0 mid (subst (λ ws. Skips free ws mid mid) (sym n) (skip_none free mid))
