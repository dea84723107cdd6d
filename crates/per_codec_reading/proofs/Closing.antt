-- What the ends of a message and of an open type are in bits.
use Rattle.std.proofs.Common.{◌≡◌, ◌⊎◌, ℕ, zero, suc, ◌+◌, ◌<◌, ◌==◌, ◌*◌, ◌/◌, ◌%◌, ◌^◌, ◌||◌, Bool, true, false}
use Rattle.std.proofs.Common.{IsTrue, inl, inr, List, [], ◌∷◌, length, replicate, refl, sym, ◌∙◌, ap, subst}
use Rattle.std.proofs.Common.{length-append, arith}
use Rattle.std.proofs.lemmas.Bool.{eq-eqb, eqb-true, false≢true}
use Rattle.asn1_model.specs.Numbers.{binary, missing, octet_bits, packed}
use Rattle.asn1_laws_values.proofs.Octets.{packed_back, packed_octets}
use Rattle.asn1_model.specs.Form.{Reads, exactly, only_if}
use Rattle.asn1_model.specs.Per
use Rattle.per_codec_laws.specs.Takes.{Position, Scope, State, Front, Closes, completion}
use Rattle.per_codec_reading.specs.Fronts.{Leads, to_octet}
use Rattle.per_codec_reading.proofs.Fronts.{leads_same, or_free, free_or, exactly_in, exactly_out, too_short}
use Rattle.asn1_values_bits.proofs.Binary.{low_zeros, binary_zero}
use Rattle.std.proofs.Math.Nat.{mod-eq_of_lt}
use Rattle.per_codec_reading.specs.Closed.{IsClosed}

-- ---- the end of a message
to_completion : (free : Per.Freedom → Bool) (n : ℕ) (a b : Position) → a.0 ≡ suc n → Front free to_octet a b → Front free (completion (suc n)) a b
unfolding Reads
to_completion free n a b e f = record { text = f.text; has_form = subst (λ p. Reads free (Per.padding (missing p)) a.0 f.text) e f.has_form; in_front = f.in_front; moved = f.moved }

of_completion : (free : Per.Freedom → Bool) (n : ℕ) (a b : Position) → a.0 ≡ suc n → Front free (completion (suc n)) a b → Front free to_octet a b
unfolding Reads
of_completion free n a b e f = record { text = f.text; has_form = subst (λ p. Reads free (Per.padding (missing p)) a.0 f.text) (sym e) f.has_form; in_front = f.in_front; moved = f.moved }

test_reads : (free : Per.Freedom → Bool) (n p : ℕ) (u w : List Bool) (c : Bool) → (length u == n) ≡ c → Reads free (only_if {F = Per.Freedom} {D = Per.Detail} c (exactly u)) p w → length w ≡ n
unfolding Reads
test_reads free n p u w true e f = ap length (sym f) ∙ eqb-true (length u) n e
test_reads free n p u w false e f = absurd f

padding_long : (free : Per.Freedom → Bool) (n p : ℕ) (w : List Bool) → Reads free (Per.padding n) p w → length w ≡ n
unfolding Reads Per.padding
padding_long free n p w r = test_reads free n p r.0 w (length r.0 == n) refl r.2

padding_to : (free : Per.Freedom → Bool) (n : ℕ) (a b : Position) → a.0 ≡ n → (n ≡ 0 → ⊥) → Front free to_octet a b → Front free (completion n) a b
padding_to free zero a b e z f = absurd (z refl)
padding_to free (suc n) a b e z f = to_completion free n a b e f

padding_of : (free : Per.Freedom → Bool) (n : ℕ) (a b : Position) → a.0 ≡ n → (n ≡ 0 → ⊥) → Front free (completion n) a b → Front free to_octet a b
padding_of free zero a b e z f = absurd (z refl)
padding_of free (suc n) a b e z f = of_completion free n a b e f

pub padding_passed : (free : Per.Freedom → Bool) (a b : Position) → (a.0 ≡ 0 → ⊥) → Front free to_octet a b → Front free (completion a.0) a b
padding_passed free a b z f = padding_to free a.0 a b refl z f

pub padding_missing : (free : Per.Freedom → Bool) (a : Position) → (a.0 ≡ 0 → ⊥) → ((b : Position) → Front free to_octet a b → ⊥) → (b : Position) → Front free (completion a.0) a b → ⊥
padding_missing free a z none b f = none b (padding_of free a.0 a b refl z f)

pub zero_octet : (free : Per.Freedom → Bool) (d n : ℕ) (a b : Position) → n ≡ 0 → d ≡ 0 → Leads (binary 8 d) a b → Front free (completion n) a b
zero_octet free d n a b z e h = subst (λ k. Front free (completion k) a b) (sym z) (exactly_in free (replicate 8 false) a b (subst (λ w. Leads w a b) (ap (binary 8) e ∙ binary_zero 8) h))

pub no_octet : (free : Per.Freedom → Bool) (n : ℕ) (a b : Position) → n ≡ 0 → length a.1 < 8 → Front free (completion n) a b → ⊥
no_octet free n a b z l f = too_short free (replicate 8 false) a b l (subst (λ k. Front free (completion k) a b) z f)

pub other_octet : (free : Per.Freedom → Bool) (d n : ℕ) (a m b : Position) → n ≡ 0 → (d ≡ 0 → ⊥) → d < 2 ^ 8 → Leads (binary 8 d) a m → Front free (completion n) a b → ⊥
other_octet free d n a m b z e l h f =
    let g = exactly_out free (replicate 8 false) a b (subst (λ k. Front free (completion k) a b) z f) in
    let s = leads_same (binary 8 d) (replicate 8 false) a m b refl h g in
    let q : d % 2 ^ 8 ≡ 0 = low_zeros 8 d s in
    e (sym (mod-eq_of_lt l) ∙ q)

left_behind : (w : List Bool) (a b : Position) → Leads w a b → length w + length b.1 ≡ length a.1
left_behind w a b h = sym (length-append w b.1) ∙ ap length h.0

-- how many bits a completion has
abbrev span : ℕ → ℕ
span zero = 8
span (suc n) = missing (suc n)

completion_long : (free : Per.Freedom → Bool) (n : ℕ) (a b : Position) → Front free (completion n) a b → span n + length b.1 ≡ length a.1
completion_long free zero a b f = left_behind (replicate 8 false) a b (exactly_out free (replicate 8 false) a b f)
completion_long free (suc n) a b f =
    let e = padding_long free (missing (suc n)) a.0 f.text f.has_form in
    let k = sym (length-append f.text b.1) ∙ ap length f.in_front in
    omega (arith, e, k)

-- ---- the end of an open type
no_bits : (bs : List Bool) → length bs ≡ 0 → bs ≡ []
no_bits [] e = refl
no_bits (b ∷ bs) e = absurd (omega (arith, e))

pub closes : (free : Per.Freedom → Bool) (a m : Position) → Front free (completion a.0) a m → length m.1 % 8 ≡ 0 → (free Per.octets_behind || length m.1 == 0) ≡ true → IsClosed free a
closes free a m h e t rest k =
    let n = length m.1 / 8 in
    let l : length m.1 ≡ 8 * n = omega (arith, e) in
    let may : (packed m.1 ≡ []) ⊎ IsTrue (free Per.octets_behind) = elim (or_free _ _ t) [ inl z ↦ inl (ap packed (no_bits m.1 (eqb-true (length m.1) 0 z))) | inr z ↦ inr z ] in
    (m, packed m.1, h, packed_octets n m.1 l, sym (packed_back n m.1 l), may, refl)

pub no_completion : (free : Per.Freedom → Bool) (a : Position) → ((b : Position) → Front free (completion a.0) a b → ⊥) → (rest : Position) (k : List Scope) (b : State) → Closes free a rest k b → ⊥
no_completion free a h rest k b g = h g.0 g.2

length-octets : (os : List ℕ) → length (octet_bits os) ≡ length os * 8
length-octets [] = refl
length-octets (o ∷ os) = let i = length-octets os in length-append (binary 8 o) (octet_bits os) ∙ omega arith

-- as many bits are left as the octets need
octets_left : (free : Per.Freedom → Bool) (a m rest : Position) (k : List Scope) (b : State) → Front free (completion a.0) a m → (g : Closes free a rest k b) → length m.1 ≡ length g.1 * 8
octets_left free a m rest k b h g =
    let i = completion_long free a.0 a m h in
    let j = completion_long free a.0 a g.0 g.2 in
    let l : length g.0.1 ≡ length g.1 * 8 = ap length g.4 ∙ length-octets g.1 in
    omega (arith, i, j, l)

pub no_octets_left : (free : Per.Freedom → Bool) (a m : Position) → Front free (completion a.0) a m → (length m.1 % 8 ≡ 0 → ⊥) →
    (rest : Position) (k : List Scope) (b : State) → Closes free a rest k b → ⊥
no_octets_left free a m h z rest k b g =
    let l = octets_left free a m rest k b h g in
    z (omega (arith, l))

-- octets are left that the reader does not accept
pub surplus_octets : (free : Per.Freedom → Bool) (a m : Position) → Front free (completion a.0) a m →
    (free Per.octets_behind || length m.1 == 0) ≡ false → (rest : Position) (k : List Scope) (b : State) → Closes free a rest k b → ⊥
surplus_octets free a m h t rest k b g =
    let l = octets_left free a m rest k b h g in
    let may : ((length m.1 == 0) ≡ true) ⊎ IsTrue (free Per.octets_behind) = elim g.5 [
      | inl z ↦ (let n : length g.1 ≡ 0 = ap length z in inl (eq-eqb (length m.1) 0 (omega (arith, l, n))))
      | inr z ↦ inr z
    ] in
    false≢true (sym t ∙ free_or _ _ may)
