-- Parts of the forms with which bits begin.
use Rattle.std.proofs.Common.{◌≡◌, ◌⊎◌, inl, inr, ℕ, ◌+◌, ◌^◌, ◌<◌, ◌==◌, ◌↔◌, Bool, true, false, not, ◌||◌, IsTrue}
use Rattle.std.proofs.Common.{Result, Ok, Err, IfOk, IfErr, List, [], ◌∷◌, ◌++◌, length, replicate, take, refl, ap, sym}
use Rattle.std.proofs.Common.{◌∙◌, subst, append_assoc, length-append, arith}
use Rattle.std.proofs.lemmas.Bool.{eq-eqb, eqb-true, false≢true}
use Rattle.std.proofs.lemmas.List.{take_all}
use Rattle.asn1_model.specs.Form.{Reads, exactly, only_if}
use Rattle.asn1_model.specs.Numbers.{binary}
use Rattle.asn1_model.specs.Per
use Rattle.asn1_values_bits.proofs.Binary.{binary_zero}
use Rattle.std.proofs.lemmas.Nat.{pow_pos}
use Rattle.asn1_schema_errors.specs.declared.DecodeError.{DecodeError}
use Rattle.asn1_schema_errors.specs.declared.DecodeError.TheVariants.{Incomplete, OutOfMemory, AlreadyFailed}
use Rattle.asn1_laws_fronts.proofs.Fronts.{agree_placed}
use Rattle.asn1_laws_fronts.proofs.PerNumbers.{binary_equal, padding_alike}
use Rattle.per_codec_laws.specs.Takes.{Position, Front}
use Rattle.per_codec_laws.proofs.Fronts.{of_nothing, nothing_front, split, join}
use Rattle.per_codec_laws.proofs.Next.{same_fronts}
use Rattle.per_codec_reading.specs.declared.rules.PackedRules.{PackedRules}
use Rattle.per_codec_reading.specs.declared.rules.PackedRules.TheVariants.{Uper, Aper, UperStrict, AperStrict}
use Rattle.per_codec_reading.specs.Fronts.{freedoms, is_strict, Leads, NoneStands, IsFresh, ArePadding, Misses, to_octet}

-- ---- the freedoms that the rules leave to a reader
pub any_padding_is_lenient : (r : PackedRules) → freedoms r Per.any_padding ≡ not (is_strict r)
any_padding_is_lenient Uper = refl
any_padding_is_lenient Aper = refl
any_padding_is_lenient UperStrict = refl
any_padding_is_lenient AperStrict = refl

pub two_octet_length_is_lenient : (r : PackedRules) → freedoms r Per.two_octet_length ≡ not (is_strict r)
two_octet_length_is_lenient Uper = refl
two_octet_length_is_lenient Aper = refl
two_octet_length_is_lenient UperStrict = refl
two_octet_length_is_lenient AperStrict = refl

pub longer_number_is_lenient : (r : PackedRules) → freedoms r Per.longer_number ≡ not (is_strict r)
longer_number_is_lenient Uper = refl
longer_number_is_lenient Aper = refl
longer_number_is_lenient UperStrict = refl
longer_number_is_lenient AperStrict = refl

pub root_told_outside_is_lenient : (r : PackedRules) → freedoms r Per.root_told_outside ≡ not (is_strict r)
root_told_outside_is_lenient Uper = refl
root_told_outside_is_lenient Aper = refl
root_told_outside_is_lenient UperStrict = refl
root_told_outside_is_lenient AperStrict = refl

pub other_fragments_are_lenient : (r : PackedRules) → freedoms r Per.other_fragments ≡ not (is_strict r)
other_fragments_are_lenient Uper = refl
other_fragments_are_lenient Aper = refl
other_fragments_are_lenient UperStrict = refl
other_fragments_are_lenient AperStrict = refl

pub long_small_number_is_lenient : (r : PackedRules) → freedoms r Per.long_small_number ≡ not (is_strict r)
long_small_number_is_lenient Uper = refl
long_small_number_is_lenient Aper = refl
long_small_number_is_lenient UperStrict = refl
long_small_number_is_lenient AperStrict = refl

-- a condition, or the freedom to ignore it
pub or_free : (t b : Bool) → (t || b) ≡ true → (b ≡ true) ⊎ IsTrue t
or_free true b e = inr refl
or_free false b e = inl e

pub free_or : (t b : Bool) → (b ≡ true) ⊎ IsTrue t → (t || b) ≡ true
free_or true b h = refl
free_or false b (inl e) = e
free_or false b (inr e) = absurd (false≢true e)

-- ---- zero bits
-- bits are zero exactly if their number is
pub zero_bits : (w n : ℕ) (bs : List Bool) → w ≡ length bs → binary w n ≡ take w bs → n < 2 ^ w → IsTrue (n == 0) ↔ (bs ≡ replicate (length bs) false)
zero_bits w n bs l d h =
    let all : take w bs ≡ bs = take_all w bs (omega arith) in
    let zeros : binary w 0 ≡ replicate (length bs) false = binary_zero w ∙ ap (λ k. replicate k false) l in
    let p : 0 < 2 ^ w = pow_pos w in
    (λ t. sym all ∙ sym d ∙ ap (binary w) (eqb-true n 0 t) ∙ zeros, λ e. eq-eqb n 0 (binary_equal w n 0 h p (d ∙ all ∙ e ∙ sym zeros)))

-- One form is missed where another is, if the bits begin with none of the one where they begin with none of the other.
pub misses_also : {X Y : Type 0} (free : Per.Freedom → Bool) (f : X → Per.BitForm) (g : Y → Per.BitForm) (a b : Position) (e : DecodeError) →
    (NoneStands free f a → NoneStands free g b) → Misses free f a e → Misses free g b e
misses_also free f g a b OutOfMemory h m = tt
misses_also free f g a b AlreadyFailed h m = m
misses_also free f g a b e h m = h m

-- If the bits begin with none, each error that a reader chooses is allowed.
pub none_misses : {X : Type 0} (free : Per.Freedom → Bool) (f : X → Per.BitForm) (a : Position) (e : DecodeError) → IsFresh e → NoneStands free f a → Misses free f a e
none_misses free f a OutOfMemory n h = tt
none_misses free f a AlreadyFailed n h = n refl
none_misses free f a e n h = h

-- Unless memory ran out, the input does not begin with what is missed.
pub missed : {X : Type 0} (free : Per.Freedom → Bool) (f : X → Per.BitForm) (a : Position) (e : DecodeError) → Misses free f a e → ¬ (e ≡ OutOfMemory) → NoneStands free f a
missed free f a OutOfMemory m n = absurd (n refl)
missed free f a AlreadyFailed m n = absurd m
missed free f a e m n = m

pub ends_early : {e : DecodeError} → e ≡ Incomplete → IsFresh e
ends_early {e} p q = let r : Incomplete ≡ AlreadyFailed = sym p ∙ q in cc

pub misses_fresh : {X : Type 0} (free : Per.Freedom → Bool) (f : X → Per.BitForm) (a : Position) (e : DecodeError) → Misses free f a e → IsFresh e
misses_fresh free f a e m q = subst (λ x. Misses free f a x) q m

-- ---- results
pub ok_also : {X : Type 0} {P Q : X → Type 0} (r : Result X DecodeError) → ((x : X) → P x → Q x) → IfOk r P → IfOk r Q
ok_also (Ok x) h p = h x p
ok_also (Err e) h p = tt

pub err_also : {X : Type 0} {P Q : DecodeError → Type 0} (r : Result X DecodeError) → ((e : DecodeError) → P e → Q e) → IfErr r P → IfErr r Q
err_also (Ok x) h p = tt
err_also (Err e) h p = h e p

-- Bits begin with at most one list of a given length, and the rest is unique.
pub leads_same : (u w : List Bool) (a b c : Position) → length u ≡ length w → Leads u a b → Leads w a c → u ≡ w
leads_same u w a b c l h k = fronts u w b.1 c.1 l (h.0 ∙ sym k.0)
  where
    fronts : (u w r s : List Bool) → length u ≡ length w → u ++ r ≡ w ++ s → u ≡ w
    fronts [] [] r s l e = refl
    fronts [] (y ∷ w) r s l e = absurd (omega arith)
    fronts (x ∷ u) [] r s l e = absurd (omega arith)
    fronts (x ∷ u) (y ∷ w) r s l e =
        let h : x ≡ y = cc in
        let t : u ++ r ≡ w ++ s = cc in
        let q = fronts u w r s (omega arith) t in
        cc

-- Bits after others.
pub leads_join : (u w : List Bool) (a b c : Position) → Leads u a b → Leads w b c → Leads (u ++ w) a c
leads_join u w a b c h k =
    let l : length (u ++ w) ≡ length u + length w = length-append u w in
    let m = h.1 in
    let n = k.1 in
    (append_assoc u w c.1 ∙ ap (λ r. u ++ r) k.0 ∙ h.0, omega arith)

module _ (free : Per.Freedom → Bool) where
  pub exactly_in : (w : List Bool) (a b : Position) → Leads w a b → Front free (exactly w) a b
  unfolding Reads
  exactly_in w a b h = record { text = w; has_form = refl; in_front = h.0; moved = h.1 }

  pub exactly_out : (w : List Bool) (a b : Position) → Front free (exactly w) a b → Leads w a b
  unfolding Reads
  exactly_out w a b f = (ap (λ t. t ++ b.1) f.has_form ∙ f.in_front, ap (λ t. a.0 + length t) f.has_form ∙ f.moved)

  pub too_short : (w : List Bool) (a b : Position) → length a.1 < length w → Front free (exactly w) a b → ⊥
  too_short w a b l f =
      let e = ap length (exactly_out w a b f).0 in
      let n = length-append w b.1 in
      omega arith

  -- ---- padding
  pub padding_in : (w : List Bool) (a b : Position) → ArePadding (free Per.any_padding) w → length w ≡ Per.missing a.0 → Leads w a b → Front free to_octet a b
  unfolding Reads Per.padding
  padding_in w a b t l h =
      let has : Reads free (only_if (length w == Per.missing a.0) (exactly w)) a.0 w = rw (eq-eqb _ _ l) refl in
      let zeros : (w ≡ replicate (Per.missing a.0) false) ⊎ IsTrue (free Per.any_padding) = elim t [ inl e ↦ inl (e ∙ ap (λ n. replicate n false) l) | inr e ↦ inr e ] in
      record { text = w; has_form = (w, zeros, has); in_front = h.0; moved = h.1 }

  pub paddings_same : (a b c : Position) → Front free to_octet a b → Front free to_octet a c → b ≡ c
  paddings_same a b c f g = (same_fronts free (agree_placed free (λ p. padding_alike free (Per.missing p))) a b c f g).1

  -- a form after padding comes directly after it
  pub after_padding : (al : Bool) (x : Per.BitForm) (a mid b : Position) → Front free (Per.at_octet al (exactly [])) a mid → Front free x mid b → Front free (Per.at_octet al x) a b
  unfolding Per.at_octet
  after_padding false x a mid b f g = subst (λ m. Front free x m b) (of_nothing free a mid f) g
  after_padding true x a mid b f g =
      let p = split free to_octet (exactly []) a mid f in
      join free to_octet x a p.0 b p.1 (subst (λ m. Front free x m b) (of_nothing free p.0 mid p.2) g)

  pub behind_padding : (al : Bool) (x : Per.BitForm) (a mid b : Position) → Front free (Per.at_octet al (exactly [])) a mid → Front free (Per.at_octet al x) a b → Front free x mid b
  unfolding Per.at_octet
  behind_padding false x a mid b f g = subst (λ m. Front free x m b) (sym (of_nothing free a mid f)) g
  behind_padding true x a mid b f g =
      let p = split free to_octet (exactly []) a mid f in
      let q = split free to_octet x a b g in
      let e : mid ≡ q.0 = of_nothing free p.0 mid p.2 ∙ paddings_same a p.0 q.0 p.1 q.1 in
      subst (λ m. Front free x m b) (sym e) q.2

  pub unpadded : (x : Per.BitForm) (a b : Position) → Front free (Per.at_octet false x) a b → Front free x a b
  unfolding Per.at_octet
  unpadded x a b f = f

  pub unpadded_in : (x : Per.BitForm) (a b : Position) → Front free x a b → Front free (Per.at_octet false x) a b
  unfolding Per.at_octet
  unpadded_in x a b f = f

  pub aligned_padding : (a b : Position) → Front free to_octet a b → Front free (Per.at_octet true (exactly [])) a b
  unfolding Per.at_octet
  aligned_padding a b f = join free to_octet (exactly []) a b b f (nothing_front free b)

  pub unaligned_padding : (a : Position) → Front free (Per.at_octet false (exactly [])) a a
  unfolding Per.at_octet
  unaligned_padding a = nothing_front free a

  padding_one : (b : Bool) (u w : List Bool) (n p : ℕ) → (length u == n) ≡ b → Reads {F = Per.Freedom} {D = Per.Detail} {A = Bool} free (only_if b (exactly u)) p w → (u ≡ w) × (length w ≡ n)
  unfolding Reads
  padding_one true u w n p e r = (r, ap length (sym r) ∙ eqb-true (length u) n e)
  padding_one false u w n p e r = absurd r

  padding_parts : (n p : ℕ) (w : List Bool) → Reads free (Per.padding n) p w → (length w ≡ n) × ArePadding (free Per.any_padding) w
  unfolding Reads Per.padding
  padding_parts n p w r =
      let q = padding_one (length r.0 == n) r.0 w n p refl r.2 in
      (q.1, elim r.1 [ inl e ↦ inl (sym q.0 ∙ e ∙ ap (λ k. replicate k false) (sym q.1)) | inr e ↦ inr e ])

  pub short_padding : (a : Position) → length a.1 < Per.missing a.0 → (b : Position) → Front free to_octet a b → ⊥
  unfolding Reads
  short_padding a l b f =
      let n = (padding_parts (Per.missing a.0) a.0 f.text f.has_form).0 in
      let e = ap length f.in_front in
      let k = length-append f.text b.1 in
      omega (arith, l)

  -- bits that the reader does not accept
  pub not_padding : (w : List Bool) (a b : Position) → length w ≡ Per.missing a.0 → Leads w a b → (ArePadding (free Per.any_padding) w → ⊥) → (c : Position) → Front free to_octet a c → ⊥
  unfolding Reads
  not_padding w a b l h n c f =
      let p = padding_parts (Per.missing a.0) a.0 f.text f.has_form in
      n (subst (ArePadding (free Per.any_padding)) (leads_same f.text w a c b (p.0 ∙ sym l) (f.in_front, f.moved) h) p.1)

  pub none_behind : (a : Position) → ((b : Position) → Front free to_octet a b → ⊥) → NoneStands free (Per.at_octet true) a
  unfolding Per.at_octet
  none_behind a n x b f = let q = split free to_octet x a b f in n q.0 q.1
