-- What a preamble is in the next bits.
use Rattle.std.proofs.Common.{◌≡◌, ℕ, suc, ◌+◌, ◌<◌, Bool, true, cond, List, [], ◌∷◌, ◌++◌, length, Option, Some, None, refl, sym, ◌∙◌, ap, subst, arith}
use Rattle.asn1_model.specs.Form.{exactly}
use Rattle.std.specs.Prelude.{is_some}
use Rattle.asn1_model.specs.Per
use Rattle.asn1_schema_reading_laws.specs.PresenceBits.{preamble_bits}
use Rattle.per_codec_laws.specs.Takes.{Position, Scope, components, Front}
use Rattle.per_codec_reading.specs.Fronts.{Leads}
use Rattle.per_codec_reading.proofs.Fronts.{exactly_in, exactly_out, leads_join, too_short}
use Rattle.per_codec_reading.specs.Fronts.{NoneStands}
use Rattle.per_codec_reading_values.specs.Fields.{bits_form}
use Rattle.per_codec_reading_values.proofs.FieldFronts.{bits_read}
use Rattle.per_codec_decoder.specs.Preamble.{HasPreamble}

has_bits : (e : Bool) (n : ℕ) (x : Option Bool) (ms : List Bool) → is_some x ≡ e → length ms ≡ n → length (preamble_bits x ms) ≡ cond e 1 0 + n
has_bits e n None ms p l = subst (λ b. length ms ≡ cond b 1 0 + n) p (omega (arith, l))
has_bits e n (Some x) ms p l = subst (λ b. suc (length ms) ≡ cond b 1 0 + n) p (omega (arith, l))

no_preamble : (free : Per.Freedom → Bool) (e : Bool) (n : ℕ) (s : Scope) (a b : Position) → length a.1 < cond e 1 0 + n → HasPreamble free e n s a b → ⊥
no_preamble free e n (components x ms) a b l h =
    let k = has_bits e n x ms h.0 h.1 in
    too_short free (preamble_bits x ms) a b (omega (arith, k, l)) h.2
no_preamble free e n s a b l h = h

joined_bits : (x : Option Bool) (ms : List Bool) → preamble_bits x [] ++ ms ≡ preamble_bits x ms
joined_bits None ms = refl
joined_bits (Some x) ms = refl

pub preamble : (free : Per.Freedom → Bool) (e : Bool) (n : ℕ) (x : Option Bool) (ms : List Bool) (a m b : Position) → is_some x ≡ e →
    Leads (preamble_bits x []) a m → Leads ms m b → length ms ≡ n → HasPreamble free e n (components x ms) a b
preamble free e n x ms a m b p h k l =
    (p, l, subst (λ w. Front free (exactly w) a b) (joined_bits x ms) (exactly_in free (preamble_bits x [] ++ ms) a b (leads_join (preamble_bits x []) ms a m b h k)))

behind_extension_bit : (x y : Option Bool) (ms : List Bool) (a m b : Position) → is_some x ≡ is_some y → Leads (preamble_bits x []) a m → Leads (preamble_bits y ms) a b → Leads ms m b
behind_extension_bit None (Some v) ms a m b p l h = cc
behind_extension_bit (Some u) None ms a m b p l h = cc
behind_extension_bit None None ms a m b p l h = let i = l.1 in let j = h.1 in (h.0 ∙ sym l.0, omega (arith, i, j))
behind_extension_bit (Some u) (Some v) ms a m b p l h =
    let e : v ∷ (ms ++ b.1) ≡ u ∷ m.1 = h.0 ∙ sym l.0 in
    let t : ms ++ b.1 ≡ m.1 = cc in
    let i = l.1 in
    let j = h.1 in
    (t, omega (arith, i, j))

pub no_presence : (free : Per.Freedom → Bool) (e : Bool) (n : ℕ) (x : Option Bool) (a m : Position) (s : Scope) (b : Position) → is_some x ≡ e →
    Leads (preamble_bits x []) a m → NoneStands free (bits_form n) m → HasPreamble free e n s a b → ⊥
no_presence free e n x a m (components y ms) b p l none h = none ms b (bits_read free n ms m b h.1 (behind_extension_bit x y ms a m b (p ∙ sym h.0) l (exactly_out free (preamble_bits y ms) a b h.2)))
no_presence free e n x a m s b p l none h = h

pub missing_bit : (free : Per.Freedom → Bool) (e : Bool) (n : ℕ) (s : Scope) (a b : Position) → e ≡ true → a.1 ≡ [] → HasPreamble free e n s a b → ⊥
missing_bit free e n s a b t z g =
    let l = ap length z in
    let none : length a.1 ≡ 0 = l in
    no_preamble free e n s a b (subst (λ c. length a.1 < cond c 1 0 + n) (sym t) (omega (arith, none))) g
