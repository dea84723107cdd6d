-- The field-lists of length determinants.
use Rattle.std.proofs.Common.{◌≡◌, ℕ, ◌+◌, ◌*◌, ◌^◌, ◌<◌, ◌≤◌, Bool, true, false, ltb, leb, ◌∷◌, ap, sym, ◌∙◌, arith}
use Rattle.std.proofs.lemmas.Bool.{lt-ltb, le-leb, lt-leb}
use Rattle.asn1_model.specs.Form.{exactly}
use Rattle.asn1_model.specs.Numbers.{binary}
use Rattle.asn1_model.specs.Per
use Rattle.asn1_values_bits.proofs.Binary.{binary_join}
use Rattle.per_codec_packing.specs.FieldLists.{as_field_list, field_list_at}
use Rattle.per_codec_writing.specs.Writing.{Packed, Adds, place, plus, padding_if}
use Rattle.per_codec_writing.proofs.PaddingFieldLists.{adds_field_list, if_true, cond_true, cond_false, adds_at_octet, adds_bits_at_octet}

-- a number after two one bits, after a one bit and a zero bit, and after a zero bit
fragment_bits : (m : ℕ) → m < 64 → binary 8 (192 + m) ≡ true ∷ true ∷ binary 6 m
fragment_bits m h = sym (binary_join 2 6 3 m h)

long_bits : (n : ℕ) → n < 16384 → binary 16 (32768 + n) ≡ true ∷ false ∷ binary 14 n
long_bits n h = sym (binary_join 2 14 2 n h)

short_bits : (n : ℕ) → n < 128 → binary 8 n ≡ false ∷ binary 7 n
short_bits n h = let e : 0 * 2 ^ 7 + n ≡ n = omega arith in sym (binary_join 1 7 0 n h ∙ ap (λ k. binary 8 k) e)

pub adds_fragment : (al : Bool) (m : ℕ) (old mid new : Packed) → m ≤ 4 → mid ≡ plus old (padding_if al (place old)) →
    new ≡ plus mid (as_field_list (binary 8 (192 + m))) → Adds (field_list_at (Per.at_octet al (exactly (true ∷ true ∷ binary 6 m))) (place old)) old new
adds_fragment al m old mid new h e f = adds_bits_at_octet al (true ∷ true ∷ binary 6 m) old mid new e (f ∙ ap (λ l. plus mid (as_field_list l)) (fragment_bits m (omega arith)))

pub adds_short : (al : Bool) (n : ℕ) (old mid new : Packed) → n < 128 → mid ≡ plus old (padding_if al (place old)) →
    new ≡ plus mid (as_field_list (binary 8 n)) → Adds (field_list_at (Per.short_length al n) (place old)) old new
unfolding Per.short_length field_list_at
adds_short al n old mid new h e f =
    adds_at_octet al _ old mid new e
    (adds_field_list _ (as_field_list (false ∷ binary 7 n)) mid new
    (cond_false (leb 128 n) _ _ (place mid) (lt-leb _ _ h) ∙ if_true (ltb n 128) _ (place mid) (lt-ltb _ _ h))
    (f ∙ ap (λ l. plus mid (as_field_list l)) (short_bits n h)))

pub adds_long : (al : Bool) (n : ℕ) (old mid new : Packed) → 128 ≤ n → n < 16384 → mid ≡ plus old (padding_if al (place old)) →
    new ≡ plus mid (as_field_list (binary 16 (32768 + n))) → Adds (field_list_at (Per.short_length al n) (place old)) old new
unfolding Per.short_length field_list_at
adds_long al n old mid new g h e f =
    adds_at_octet al _ old mid new e
    (adds_field_list _ (as_field_list (true ∷ false ∷ binary 14 n)) mid new
    (cond_true (leb 128 n) _ _ (place mid) (le-leb _ _ g) ∙ if_true (ltb n 16384) _ (place mid) (lt-ltb _ _ h))
    (f ∙ ap (λ l. plus mid (as_field_list l)) (long_bits n h)))
