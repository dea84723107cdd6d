-- Parts of forms at the start of the octets.
use Rattle.std.proofs.Common.{◌≡◌, ℕ, Bool, true, false, IsTrue, ◌⊎◌, List, [], ◌∷◌, ◌++◌, length, refl, ap, sym, subst, ◌∙◌, append_assoc, arith}
use Rattle.std.proofs.lemmas.Bool.{false≢true}
use Rattle.asn1_model.specs.Form.{Reads, exactly, both, varied, only_if}
use Rattle.asn1_model.specs.Oer.{Freedom, Detail, OctetForm}
use Rattle.asn1_schema_errors.specs.declared.DecodeError.{DecodeError}
use Rattle.asn1_schema_errors.specs.declared.DecodeError.TheVariants.{AlreadyFailed, OutOfMemory}
use Rattle.oer_codec_reading.specs.Fronts.{Stands, NoneStands, Misses}

-- Prefixes of equal length are equal, and so is what follows them.
pub fronts_equal : (a b r s : List ℕ) → length a ≡ length b → a ++ r ≡ b ++ s → (a ≡ b) × (r ≡ s)
fronts_equal [] [] r s l e = (refl, e)
fronts_equal [] (y ∷ b) r s l e = absurd (omega arith)
fronts_equal (x ∷ a) [] r s l e = absurd (omega arith)
fronts_equal (x ∷ a) (y ∷ b) r s l e =
    let h : x ≡ y = cc in
    let t : a ++ r ≡ b ++ s = cc in
    let q = fronts_equal a b r s (omega arith) t in
    let u = q.0 in
    (cc, q.1)

-- One form is missed if another is, and the first comes nowhere that the other does not.
pub misses_also : {X Y : Type 0} (free : Freedom → Bool) (f : X → OctetForm) (g : Y → OctetForm) (os ps : List ℕ) (e : DecodeError) →
    (NoneStands free f os → NoneStands free g ps) → Misses free f os e → Misses free g ps e
misses_also free f g os ps OutOfMemory h m = tt
misses_also free f g os ps AlreadyFailed h m = absurd m
misses_also free f g os ps e h m = h m

-- If none comes first, each reason is one, except that an earlier call failed.
pub none_misses : {X : Type 0} (free : Freedom → Bool) (f : X → OctetForm) (os : List ℕ) (e : DecodeError) → ¬ (e ≡ AlreadyFailed) → NoneStands free f os → Misses free f os e
none_misses free f os OutOfMemory n h = tt
none_misses free f os AlreadyFailed n h = absurd (n refl)
none_misses free f os e n h = h

-- Apart from `OutOfMemory`, the octets do not begin with what is missed.
pub missed : {X : Type 0} (free : Freedom → Bool) (f : X → OctetForm) (os : List ℕ) (e : DecodeError) → Misses free f os e → ¬ (e ≡ OutOfMemory) → NoneStands free f os
missed free f os OutOfMemory m n = absurd (n refl)
missed free f os AlreadyFailed m n = absurd m
missed free f os e m n = m

-- A reader does not fail because an earlier call failed.
pub not_before : {X : Type 0} (free : Freedom → Bool) (f : X → OctetForm) (os : List ℕ) (e : DecodeError) → Misses free f os e → ¬ (e ≡ AlreadyFailed)
not_before free f os e m h = subst (Misses free f os) h m

module _ (free : Freedom → Bool) where
  pub exactly_stands : (l os rest : List ℕ) → l ++ rest ≡ os → Stands free (exactly l) os rest
  unfolding Reads
  exactly_stands l os rest e = (l, e, refl)

  pub exactly_front : (l os rest : List ℕ) → Stands free (exactly l) os rest → l ++ rest ≡ os
  unfolding Reads
  exactly_front l os rest h = ap (λ w. w ++ rest) h.2 ∙ h.1

  pub if_stands : (b : Bool) (x : OctetForm) (os rest : List ℕ) → b ≡ true → Stands free x os rest → Stands free (only_if b x) os rest
  if_stands true x os rest e h = h
  if_stands false x os rest e h = absurd (false≢true e)

  pub if_front : (b : Bool) (x : OctetForm) (os rest : List ℕ) → Stands free (only_if b x) os rest → (b ≡ true) × Stands free x os rest
  unfolding Reads
  if_front true x os rest h = (refl, h)
  if_front false x os rest h = absurd h.2

  pub varied_stands : (c : Freedom) (d e : Detail c) (f : Detail c → OctetForm) (os rest : List ℕ) → (e ≡ d) ⊎ IsTrue (free c) → Stands free (f e) os rest → Stands free (varied c d f) os rest
  unfolding Reads
  varied_stands c d e f os rest a h = (h.0, h.1, (e, a, h.2))

  pub varied_front : (c : Freedom) (d : Detail c) (f : Detail c → OctetForm) (os rest : List ℕ) → Stands free (varied c d f) os rest →
      (e : Detail c) × ((e ≡ d) ⊎ IsTrue (free c)) × Stands free (f e) os rest
  unfolding Reads
  varied_front c d f os rest h = (h.2.0, h.2.1, (h.0, h.1, h.2.2))

  -- octets after a form
  pub followed_stands : (x : OctetForm) (l os rest : List ℕ) → Stands free x os (l ++ rest) → Stands free (both x (exactly l)) os rest
  unfolding Reads
  followed_stands x l os rest h = (h.0 ++ l, append_assoc h.0 l rest ∙ h.1, (h.0, l, h.2, refl, refl))

  pub followed_front : (x : OctetForm) (l os rest : List ℕ) → Stands free (both x (exactly l)) os rest → Stands free x os (l ++ rest)
  unfolding Reads
  followed_front x l os rest h =
      let r = h.2 in
      let e : r.0 ++ (l ++ rest) ≡ os = ap (λ m. r.0 ++ (m ++ rest)) r.3 ∙ sym (append_assoc r.0 r.1 rest) ∙ ap (λ w. w ++ rest) r.4 ∙ h.1 in
      (r.0, e, r.2)
