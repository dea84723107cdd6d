-- A length below 128 in the octet reserved before its contents.
use Rattle.std.proofs.Common.{◌≡◌, ℕ, suc, ◌+◌, ◌-◌, ◌<◌, true, List, [], ◌∷◌, ◌++◌, ◌&&◌, length, get_or, set, take, drop, refl, ap, subst, sym, ◌∙◌, arith, append_assoc}
use Rattle.std.proofs.lemmas.Bool.{lt-ltb}
use Rattle.std.proofs.lemmas.List.{take-append-drop, take-set, drop-set, drop-set-lt, length-drop, length-set, get_or-drop}
use Rattle.asn1_model.specs.Form.{written}
use Rattle.asn1_model.specs.Oer
use Rattle.asn1_model.specs.Strings.{is_octet}
use Rattle.std.specs.List.{list_all}
use Rattle.oer_codec_writing.specs.Writing.{Adds}
use Rattle.oer_codec_writing.proofs.LengthTexts.{short_length, adds_text, adds_counted}

each_small : (os : List ℕ) → ((i : ℕ) → i < length os → get_or os i 0 < 256) → list_all is_octet os ≡ true
each_small [] h = refl
each_small (o ∷ os) h = ap (λ b. b && list_all is_octet os) (lt-ltb _ _ (h 0 (omega arith))) ∙ each_small os (λ i l. h (suc i) (omega arith))

set_whole : (o : List ℕ) (start n : ℕ) → start < length o → set o start n ≡ take start o ++ n ∷ drop (start + 1) o
set_whole o start n l = sym (take-append-drop start (set o start n)) ∙ ap (λ t. t ++ drop start (set o start n)) (take-set o start n) ∙ ap (λ t. take start o ++ t) (drop-set o start n l)

behind_set : (o : List ℕ) (start n : ℕ) → ((i d : ℕ) → i < length (set o start n) → get_or (set o start n) i d < 256) → (i : ℕ) →
    i < length (drop (start + 1) o) → get_or (drop (start + 1) o) i 0 < 256
behind_set o start n h i l =
    let same : get_or (drop (start + 1) o) i 0 ≡ get_or (set o start n) (start + 1 + i) 0 =
    ap (λ t. get_or t i 0) (sym (drop-set-lt (start + 1) o start n (omega arith))) ∙ get_or-drop (start + 1) (set o start n) i 0 in
    let s = h (start + 1 + i) 0 (omega (arith, l, length-drop (start + 1) o, length-set o start n)) in
    omega (arith, same, s)

in_room : (o : List ℕ) (start n : ℕ) → start < length o → n ≡ length o - start - 1 → n < 128 →
    ((i d : ℕ) → i < length (set o start n) → get_or (set o start n) i d < 256) → Adds (written (Oer.counted (drop (start + 1) o)) 0) (take start o) (set o start n)
in_room o start n l e s h =
    let os : List ℕ = drop (start + 1) o in
    let count : length os ≡ n = length-drop (start + 1) o ∙ omega (arith, e) in
    adds_counted os (take start o) (take start o ++ n ∷ []) (set o start n) (each_small os (behind_set o start n h))
    (adds_text (written (Oer.length_form (length os)) 0) (n ∷ []) (take start o) (take start o ++ n ∷ []) (ap (λ k. written (Oer.length_form k) 0) count ∙ short_length n s) refl)
    (set_whole o start n l ∙ sym (append_assoc (take start o) (n ∷ []) os))

pub short_in_room : (o p : List ℕ) (start n : ℕ) → start < length o → n ≡ length o - start - 1 → n < 128 → p ≡ set o start n →
    ((i d : ℕ) → i < length p → get_or p i d < 256) → Adds (written (Oer.counted (drop (start + 1) o)) 0) (take start o) p
short_in_room o p start n l e s x h = subst (λ q. Adds (written (Oer.counted (drop (start + 1) o)) 0) (take start o) q) (sym x)
    (in_room o start n l e s (subst (λ q. (i d : ℕ) → i < length q → get_or q i d < 256) x h))
