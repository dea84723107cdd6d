-- Units in fragments, the largest first (X.691 11.9.3.8), and octets after a length determinant.
use Rattle.std.proofs.Common.{◌≡◌, ℕ, suc, ◌-◌, ◌*◌, ◌/◌, ◌%◌, ◌<◌, ◌≤◌, ◌==◌, min, Bool, true, false, cond, not, ◌&&◌}
use Rattle.std.proofs.Common.{List, [], ◌∷◌, ◌++◌, filter, replicate, inl, inr, refl, ap, sym, ◌∙◌, arith, get_or, Fits}
use Rattle.std.specs.Int.{w8}
use Rattle.std.proofs.lemmas.Bool.{cases_lt, lt-ltb, eqb-true}
use Rattle.asn1_model.specs.Strings.{is_octet}
use Rattle.std.specs.List.{list_all}
use Rattle.asn1_model.specs.Per
use Rattle.asn1_values_natives.proofs.OctetLaws.{AreOctets}
use Rattle.asn1_values_natives.proofs.TwosComplement.{octets-all}
use Rattle.per_codec_packing.specs.FieldLists.{field_list_at}
use Rattle.per_codec_writing.specs.Writing.{Packed, Adds, place}
use Rattle.per_codec_writing.proofs.PaddingFieldLists.{adds_same, if_true}

-- ---- how units are divided

-- a fragment of a multiple of 16384, if there is one
abbrev unless_zero : ℕ → List ℕ
unless_zero r = filter (λ m. not (m == 0)) (r ∷ [])

abbrev fragments_by : ℕ → ℕ → List ℕ
fragments_by q r = replicate q 4 ++ unless_zero r

a_large_one : (q r k : ℕ) → q ≡ suc k → fragments_by q r ≡ 4 ∷ fragments_by k r
a_large_one q r k e = ap (λ i. fragments_by i r) e

one_fragment : (m : ℕ) (b : Bool) → (suc m == 0) ≡ b → unless_zero (suc m) ≡ suc m ∷ []
one_fragment m true e = absurd (let z : suc m ≡ 0 = eqb-true (suc m) 0 e in omega arith)
one_fragment m false e = ap (λ b. cond (not b) (suc m ∷ []) []) e

a_last_one : (q r m : ℕ) → q ≡ 0 → r ≡ suc m → fragments_by q r ≡ suc m ∷ []
a_last_one q r m e f = ap (λ i. fragments_by i r) e ∙ ap (λ i. unless_zero i) f ∙ one_fragment m (suc m == 0) refl

pub none_of_them : (n : ℕ) → n < 16384 → Per.largest_first n ≡ []
none_of_them n h =
    let q : n / 65536 ≡ 0 = omega arith in
    let r : n / 16384 % 4 ≡ 0 = omega arith in
    ap (λ i. fragments_by i (n / 16384 % 4)) q ∙ ap (λ i. unless_zero i) r

pub first_of_them : (n m : ℕ) → 16384 ≤ n → m ≡ min (n / 16384) 4 → Per.largest_first n ≡ m ∷ Per.largest_first (n - m * 16384)
first_of_them n m h e = elim (cases_lt n 65536) [
  | inl b ↦
      let i : m ≡ suc (m - 1) = omega arith in
      let q : n / 65536 ≡ 0 = omega arith in
      let r : n / 16384 % 4 ≡ suc (m - 1) = omega arith in
      a_last_one (n / 65536) (n / 16384 % 4) (m - 1) q r
      ∙ ap (λ k. k ∷ []) (sym i)
      ∙ ap (λ l. m ∷ l) (sym (none_of_them (n - m * 16384) (omega arith)))
  | inr b ↦
      let four : m ≡ 4 = omega arith in
      let q : n / 65536 ≡ suc ((n - m * 16384) / 65536) = omega arith in
      let r : n / 16384 % 4 ≡ (n - m * 16384) / 16384 % 4 = omega arith in
      a_large_one (n / 65536) (n / 16384 % 4) ((n - m * 16384) / 65536) q
      ∙ ap (λ k. 4 ∷ fragments_by ((n - m * 16384) / 65536) k) r
      ∙ ap (λ k. k ∷ Per.largest_first (n - m * 16384)) (sym four)
]

-- ---- octets

octets_are : (os : List ℕ) → AreOctets os → list_all is_octet os ≡ true
octets_are [] h = refl
octets_are (o ∷ os) h = ap (λ b. b && list_all is_octet os) (lt-ltb _ _ h.0) ∙ octets_are os h.1

pub all_octets : (os : List ℕ) → ((i : ℕ) → Fits w8 (get_or os i 0)) → list_all is_octet os ≡ true
all_octets os h = octets_are os (octets-all os h)

pub adds_octets : (al : Bool) (os : List ℕ) (old new : Packed) → list_all is_octet os ≡ true →
    Adds (field_list_at (Per.counted al (Per.octet_units os)) (place old)) old new → Adds (field_list_at (Per.counted_octets al os) (place old)) old new
unfolding Per.counted_octets
adds_octets al os old new h a = adds_same _ _ old new (if_true (list_all is_octet os) (Per.counted al (Per.octet_units os)) (place old) h) a
