-- Octets as characters, and characters as octets.
use Rattle.std.proofs.Common.{◌≡◌, ℕ, zero, suc, ◌+◌, ◌*◌, ◌/◌, ◌%◌, ◌≤◌, ◌<◌, leb, Bool, true, false, ◌&&◌, ◌||◌, List, [], ◌∷◌, ◌++◌, length, get_or, take, refl, ap, sym, subst, ◌∙◌, arith}
use Rattle.std.proofs.lemmas.Bool.{false≢true, false_from_ne_true, leb-true, ltb-true, and_parts}
use Rattle.std.proofs.lemmas.List.{take_all, take_more}
use Rattle.asn1_model.specs.Oer.{string_octets}
use Rattle.asn1_model.specs.Schema.{StringKind, bmp}
use Rattle.asn1_model.specs.Strings.{is_octet}
use Rattle.std.specs.List.{list_all}
use Rattle.asn1_values_alphabets.specs.Permitted.{permits, permits_all}
use Rattle.asn1_values_alphabets.proofs.Permitted.{list_all-push}
use Rattle.oer_codec_reading.specs.Characters.{width, octets_of_characters, pairs, characters_in}

-- ---- octets as characters
length-pairs : (os : List ℕ) → length (pairs os) ≡ length os / 2
length-pairs [] = refl
length-pairs (o ∷ []) = refl
length-pairs (o ∷ p ∷ os) = omega (arith, length-pairs os)

pub length-characters : (wide : Bool) (os : List ℕ) → length (characters_in wide os) ≡ length os / width wide
length-characters true os = length-pairs os
length-characters false os = omega arith

at-pairs : (os : List ℕ) (i : ℕ) → i < length os / 2 → get_or os (i * 2) 0 * 256 + get_or os (i * 2 + 1) 0 ≡ get_or (pairs os) i 0
at-pairs [] i l = absurd (omega (arith, l))
at-pairs (o ∷ []) i l = absurd (omega (arith, l))
at-pairs (o ∷ p ∷ os) zero l = refl
at-pairs (o ∷ p ∷ os) (suc i) l =
    let e : suc i * 2 ≡ suc (suc (i * 2)) = omega arith in
    let f : suc i * 2 + 1 ≡ suc (suc (i * 2 + 1)) = omega arith in
    ap (λ n. get_or (o ∷ p ∷ os) n 0 * 256 + get_or (o ∷ p ∷ os) (suc i * 2 + 1) 0) e
    ∙ ap (λ n. get_or os (i * 2) 0 * 256 + get_or (o ∷ p ∷ os) n 0) f
    ∙ at-pairs os i (omega (arith, l))

pub at-wide : (wide : Bool) (os : List ℕ) (i a b : ℕ) → wide ≡ true → i < length os / width wide → a ≡ get_or os (i * 2) 0 →
    b ≡ get_or os (i * 2 + 1) 0 → a * 256 + b ≡ get_or (characters_in wide os) i 0
at-wide true os i a b e l x y = ap (λ n. n * 256 + b) x ∙ ap (λ n. get_or os (i * 2) 0 * 256 + n) y ∙ at-pairs os i l
at-wide false os i a b e l x y = absurd (false≢true e)

-- ---- a loop over the characters in octets
within : (wide : Bool) (os : List ℕ) (k i : ℕ) → k ≡ width wide → i < length os / k → i < length (characters_in wide os)
within wide os k i e l = subst (λ n. i < n) (sym (length-characters wide os)) (subst (λ n. i < length os / n) e l)

pub at_end : (wide : Bool) (os : List ℕ) (k i : ℕ) → k ≡ width wide → length os / k ≤ i → take i (characters_in wide os) ≡ characters_in wide os
at_end wide os k i e l = take_all i (characters_in wide os) (subst (λ n. n ≤ i) (sym (length-characters wide os)) (subst (λ n. length os / n ≤ i) e l))

pub one_more : (wide : Bool) (os old new : List ℕ) (k i c : ℕ) → k ≡ width wide → i < length os / k → old ≡ take i (characters_in wide os) →
    c ≡ get_or (characters_in wide os) i 0 → new ≡ old ++ c ∷ [] → new ≡ take (i + 1) (characters_in wide os)
one_more wide os old new k i c e l h g n =
    let cs = characters_in wide os in
    n ∙ ap (λ xs. xs ++ c ∷ []) h ∙ ap (λ x. take i cs ++ x ∷ []) g ∙ sym (take_more cs i 0 (within wide os k i e l))

pub permits_more : (t : StringKind) (wide : Bool) (os : List ℕ) (k i c : ℕ) → k ≡ width wide → i < length os / k →
    permits_all t (take i (characters_in wide os)) ≡ true → c ≡ get_or (characters_in wide os) i 0 → permits t c ≡ true → permits_all t (take (i + 1) (characters_in wide os)) ≡ true
permits_more t wide os k i c e l h g p =
    let cs = characters_in wide os in
    subst (λ xs. permits_all t xs ≡ true) (sym (take_more cs i 0 (within wide os k i e l))) (list_all-push (permits t) (take i cs) (get_or cs i 0) h (ap (permits t) (sym g) ∙ p))

permits-at : (t : StringKind) (cs : List ℕ) (i : ℕ) → i < length cs → permits_all t cs ≡ true → permits t (get_or cs i 0) ≡ true
permits-at t [] i l h = absurd (omega (arith, l))
permits-at t (c ∷ cs) zero l h = (and_parts _ _ h).0
permits-at t (c ∷ cs) (suc i) l h = permits-at t cs i (omega (arith, l)) (and_parts _ _ h).1

pub refused_at : (t : StringKind) (wide : Bool) (os : List ℕ) (k i c : ℕ) → k ≡ width wide → i < length os / k →
    c ≡ get_or (characters_in wide os) i 0 → permits t c ≡ false → permits_all t (characters_in wide os) ≡ false
refused_at t wide os k i c e l g n = false_from_ne_true _ (λ h. false≢true (sym n ∙ ap (permits t) g ∙ permits-at t (characters_in wide os) i (within wide os k i e l) h))

-- ---- characters as octets
pub length-spelled : (wide : Bool) (cs : List ℕ) → length (octets_of_characters wide cs) ≡ length cs * width wide
length-spelled true [] = refl
length-spelled true (c ∷ cs) = omega (arith, length-spelled true cs)
length-spelled false cs = omega arith

pub text_octets : (t : StringKind) (wide : Bool) → permits t 256 ≡ wide → (cs : List ℕ) → string_octets t cs ≡ octets_of_characters wide cs
text_octets bmp true e cs = refl
text_octets bmp false e cs = cc
text_octets t false e cs = refl
text_octets t true e cs = cc

last_of_run : (x y : Bool) → ((x && y) || false) ≡ true → y ≡ true
last_of_run x true e = refl
last_of_run true false e = cc
last_of_run false false e = cc

is_small : (t : StringKind) (c : ℕ) → permits t 256 ≡ true → permits t c ≡ true → c < 65536
is_small bmp c e h = let l = leb-true c 65535 (last_of_run (leb 0 c) (leb c 65535) h) in omega (arith, l)
is_small t c e h = cc

pairs-spelled : (t : StringKind) (cs : List ℕ) → permits t 256 ≡ true → permits_all t cs ≡ true → pairs (octets_of_characters true cs) ≡ cs
pairs-spelled t [] e h = refl
pairs-spelled t (c ∷ cs) e h =
    let p = and_parts _ _ h in
    let l = is_small t c e p.0 in
    let k : c / 256 % 256 * 256 + c / 1 % 256 ≡ c = omega arith in
    ap (λ n. n ∷ pairs (octets_of_characters true cs)) k ∙ ap (λ xs. c ∷ xs) (pairs-spelled t cs e p.1)

-- Characters of a kind are read back from their octets.
pub characters-spelled : (t : StringKind) (wide : Bool) (cs : List ℕ) → permits t 256 ≡ wide → permits_all t cs ≡ true → characters_in wide (octets_of_characters wide cs) ≡ cs
characters-spelled t true cs e h = pairs-spelled t cs e h
characters-spelled t false cs e h = refl

spelled-pairs : (os : List ℕ) → list_all is_octet os ≡ true → length os % 2 ≡ 0 → octets_of_characters true (pairs os) ≡ os
spelled-pairs [] a e = refl
spelled-pairs (o ∷ []) a e = absurd (omega (arith, e))
spelled-pairs (o ∷ p ∷ os) a e =
    let q = and_parts _ _ a in
    let r = and_parts _ _ q.1 in
    let x = ltb-true o 256 q.0 in
    let y = ltb-true p 256 r.0 in
    let high : (o * 256 + p) / 256 % 256 ≡ o = omega arith in
    let low : (o * 256 + p) / 1 % 256 ≡ p = omega arith in
    ap (λ n. n ∷ ((o * 256 + p) / 1 % 256) ∷ octets_of_characters true (pairs os)) high ∙ ap (λ n. o ∷ n ∷ octets_of_characters true (pairs os)) low ∙
    ap (λ xs. o ∷ p ∷ xs) (spelled-pairs os r.1 (omega (arith, e)))

-- Octets are those of the characters in them.
pub spelled-characters : (wide : Bool) (os : List ℕ) → list_all is_octet os ≡ true → length os % width wide ≡ 0 → octets_of_characters wide (characters_in wide os) ≡ os
spelled-characters true os a e = spelled-pairs os a e
spelled-characters false os a e = refl
