-- Bits of a presence bitmap that are set (X.691 19.7), and bitmaps that a reader does not accept.
use Rattle.std.proofs.Common.{◌≡◌, ◌⊎◌, inl, inr, ℕ, zero, suc, ◌↔◌, ◌||◌, Bool, true, false, not, cond, IsTrue, Option}
use Rattle.std.proofs.Common.{Some, None, List, [], ◌∷◌, ◌++◌, length, replicate, take, drop, map, refl, ap, sym, ◌∙◌}
use Rattle.std.proofs.Common.{subst}
use Rattle.std.proofs.lemmas.Bool.{false≢true}
use Rattle.std.proofs.lemmas.List.{take-append-drop}
use Rattle.std.specs.Prelude.{is_some}
use Rattle.asn1_model.specs.Form.{exactly}
use Rattle.asn1_model.specs.Per
use Rattle.asn1_laws_fronts.proofs.Fronts.{agree_map}
use Rattle.asn1_laws_fronts.proofs.PerNumbers.{Alike}
use Rattle.asn1_laws_fronts.proofs.Units.{bitmap_alike}
use Rattle.asn1_schema_reading_laws.specs.PresenceBits.{is_any_set}
use Rattle.asn1_schema_errors.specs.declared.DecodeError.{DecodeError}
use Rattle.asn1_schema_errors.specs.declared.DecodeError.TheVariants.{OutOfMemory}
use Rattle.per_codec_laws.specs.Takes.{Position, Front}
use Rattle.per_codec_laws.proofs.Next.{flag_units, same_fronts}
use Rattle.per_codec_reading.proofs.Fronts.{or_free, free_or}
use Rattle.per_codec_reading_values.specs.Bitmaps.{HasBitmap, NoBitmap}

-- ---- set bits
any_append : (xs ys : List Bool) → is_any_set (xs ++ ys) ≡ (is_any_set xs || is_any_set ys)
any_append [] ys = refl
any_append (true ∷ xs) ys = refl
any_append (false ∷ xs) ys = any_append xs ys

none_set : (n : ℕ) → is_any_set (replicate n false) ≡ false
none_set zero = refl
none_set (suc n) = none_set n

all_zero : (xs : List Bool) → is_any_set xs ≡ false → xs ≡ replicate (length xs) false
all_zero [] e = refl
all_zero (true ∷ xs) e = cc
all_zero (false ∷ xs) e = ap (λ l. false ∷ l) (all_zero xs e)

or_true : (b c : Bool) → b ≡ true → (b || c) ≡ true
or_true true c e = refl
or_true false c e = cc

some_set : (xs : List Bool) → (xs ≡ replicate (length xs) false → ⊥) → is_any_set xs ≡ true
some_set xs z = go (is_any_set xs) refl
  where
    go : (b : Bool) → is_any_set xs ≡ b → is_any_set xs ≡ true
    go true e = e
    go false e = absurd (z (all_zero xs e))

-- the first bits are zero, or one of them is set
pub zero_front : (n : ℕ) (xs front behind : List Bool) → front ≡ take n xs → behind ≡ drop n xs → front ≡ replicate (length front) false → is_any_set behind ≡ is_any_set xs
zero_front n xs front behind p q z =
    let e : front ++ behind ≡ xs = ap (λ l. l ++ behind) p ∙ ap (λ l. take n xs ++ l) q ∙ take-append-drop n xs in
    let f : is_any_set front ≡ false = ap is_any_set z ∙ none_set (length front) in
    sym (ap (λ b. b || is_any_set behind) f) ∙ sym (any_append front behind) ∙ ap is_any_set e

pub set_front : (n : ℕ) (xs front : List Bool) → front ≡ take n xs → (front ≡ replicate (length front) false → ⊥) → is_any_set xs ≡ true
set_front n xs front p z =
    let e : front ++ drop n xs ≡ xs = ap (λ l. l ++ drop n xs) p ∙ take-append-drop n xs in
    sym (ap is_any_set e) ∙ any_append front (drop n xs) ∙ or_true _ _ (some_set front z)

-- a bit is set unless all are zero
pub set_unless_zero : (z : Bool) (xs : List Bool) → (IsTrue z ↔ (xs ≡ replicate (length xs) false)) → not z ≡ is_any_set xs
set_unless_zero true xs e = sym (ap is_any_set (e.0 refl) ∙ none_set (length xs))
set_unless_zero false xs e = sym (some_set xs (λ l. false≢true (e.1 l)))

-- ---- bitmaps at the start
abbrev flagged : Bool → Option Per.BitForm
flagged b = cond b (Some (exactly [])) None

flag_bit : (b : Bool) → is_some (flagged b) ≡ b
flag_bit true = refl
flag_bit false = refl

flags_back : (bs : List Bool) → map (λ a. is_some a) (map (λ b. flagged b) bs) ≡ bs
flags_back [] = refl
flags_back (b ∷ bs) = ap (λ t. t ∷ map (λ a. is_some a) (map (λ b. flagged b) bs)) (flag_bit b) ∙ ap (λ l. b ∷ l) (flags_back bs)

units_of : (bs : List Bool) → map Per.flag (map (λ b. flagged b) bs) ≡ Per.bit_units bs
units_of bs = flag_units (map (λ b. flagged b) bs) ∙ ap (λ l. Per.bit_units l) (flags_back bs)

module _ (free : Per.Freedom → Bool) (al : Bool) where
  bitmaps_alike : (bs cs : List Bool) → Alike free (Per.normally_few al (Per.bit_units bs)) (Per.normally_few al (Per.bit_units cs)) (bs ≡ cs)
  bitmaps_alike bs cs =
      let base = agree_map free (λ e. sym (flags_back bs) ∙ e ∙ flags_back cs) (bitmap_alike free al (map (λ b. flagged b) bs) (map (λ b. flagged b) cs)) in
      let P : List Per.BitForm → List Per.BitForm → Type 0 = λ us vs. Alike free (Per.normally_few al us) (Per.normally_few al vs) (bs ≡ cs) in
      subst (λ us. P us (Per.bit_units cs)) (units_of bs) (subst (λ vs. P (map Per.flag (map (λ b. flagged b) bs)) vs) (units_of cs) base)

  pub bitmap_accepted : (m : Bool) (bs : List Bool) (a b : Position) → m ≡ true → (free Per.empty_bitmap || is_any_set bs) ≡ true →
      Front free (Per.normally_few al (Per.bit_units bs)) a b → HasBitmap free al m bs a b
  bitmap_accepted true bs a b e t f = (or_free _ _ t, f)
  bitmap_accepted false bs a b e t f = cc

  pub bitmap_refused : (m : Bool) (us : List Bool) (a c : Position) (e : DecodeError) → m ≡ true → (free Per.empty_bitmap || is_any_set us) ≡ false →
      Front free (Per.normally_few al (Per.bit_units us)) a c → NoBitmap free al m a e
  bitmap_refused true us a c e h t f = λ i bs b g.
      let q = same_fronts free (bitmaps_alike bs us) a b c g.1 f in
      let k : (is_any_set us ≡ true) ⊎ IsTrue (free Per.empty_bitmap) = elim g.0 [ inl x ↦ inl (ap is_any_set (sym q.0) ∙ x) | inr x ↦ inr x ] in
      false≢true (sym t ∙ free_or _ _ k)
  bitmap_refused false us a c e h t f = cc

  pub bitmap_missed : (m : Bool) (a : Position) (e : DecodeError) → m ≡ true →
      (¬ (e ≡ OutOfMemory) → (bs : List Bool) (b : Position) → Front free (Per.normally_few al (Per.bit_units bs)) a b → ⊥) → NoBitmap free al m a e
  bitmap_missed true a e h n = λ i bs b g. n i bs b g.1
  bitmap_missed false a e h n = cc
