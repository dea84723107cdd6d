-- The texts of character strings.
use Rattle.std.proofs.Common.{◌≡◌, ℕ, zero, suc, ◌+◌, ◌*◌, ◌/◌, ◌%◌, ◌^◌, ◌<◌, ◌≤◌, leb, Bool, true, false, ◌&&◌, ◌||◌}
use Rattle.std.proofs.Common.{List, [], ◌∷◌, ◌++◌, length, get_or, take, None, refl, ap, sym, ◌∙◌, append_assoc, arith}
use Rattle.std.proofs.Common.{bit_and}
use Rattle.std.specs.Prelude.{flat_map}
use Rattle.std.proofs.lemmas.Nat.{and_mask}
use Rattle.std.proofs.lemmas.Bool.{lt-ltb, ltb-true, leb-true}
use Rattle.asn1_model.specs.Numbers.{admits}
use Rattle.asn1_model.specs.Form.{written}
use Rattle.asn1_model.specs.Schema.{Size, Counts, Alphabet, StringKind, numeric, printable, visible, ia5, bmp, general, graphic, teletex, utf8, character_string}
use Rattle.asn1_model.specs.Value.{text}
use Rattle.asn1_model.specs.Numbers.{digits}
use Rattle.asn1_model.specs.Strings.{Run, characters_of, is_among, is_octet, may_hold}
use Rattle.std.specs.List.{list_all}
use Rattle.asn1_model.specs.Oer
use Rattle.oer_codec_writing.proofs.LengthTexts.{digits_octets}
use Rattle.oer_codec_writing.proofs.ScalarTexts.{if_true, if_false}

among_most : (rs : List Run) (c m : ℕ) → list_all (λ (r : Run). leb r.last m) rs ≡ true → is_among rs c ≡ true → c ≤ m
among_most [] c m h e = cc
among_most (r ∷ rs) c m h e = go (λ q i. among_most rs c m q i) (leb r.last m) (list_all (λ (q : Run). leb q.last m) rs) refl refl h (leb r.first c) (leb c r.last) refl e
  where
    go : (list_all (λ (q : Run). leb q.last m) rs ≡ true → is_among rs c ≡ true → c ≤ m) → (a b : Bool) → leb r.last m ≡ a →
        list_all (λ (q : Run). leb q.last m) rs ≡ b → (a && b) ≡ true → (x y : Bool) → leb c r.last ≡ y → ((x && y) || is_among rs c) ≡ true → c ≤ m
    go f true true p q h true true s e = let i = leb-true r.last m p in let j = leb-true c r.last s in omega arith
    go f true true p q h true false s e = f q e
    go f true true p q h false y s e = f q e
    go f true false p q h x y s e = cc
    go f false b p q h x y s e = cc

narrow_octet : (k : StringKind) (c : ℕ) → is_among (characters_of k) 256 ≡ false → is_among (characters_of k) c ≡ true → is_octet c ≡ true
narrow_octet numeric c w e = let m = among_most (characters_of numeric) c 255 refl e in lt-ltb _ _ (omega arith)
narrow_octet printable c w e = let m = among_most (characters_of printable) c 255 refl e in lt-ltb _ _ (omega arith)
narrow_octet visible c w e = let m = among_most (characters_of visible) c 255 refl e in lt-ltb _ _ (omega arith)
narrow_octet ia5 c w e = let m = among_most (characters_of ia5) c 255 refl e in lt-ltb _ _ (omega arith)
narrow_octet bmp c w e = cc
narrow_octet general c w e = let m = among_most (characters_of general) c 255 refl e in lt-ltb _ _ (omega arith)
narrow_octet graphic c w e = let m = among_most (characters_of graphic) c 255 refl e in lt-ltb _ _ (omega arith)
narrow_octet teletex c w e = let m = among_most (characters_of teletex) c 255 refl e in lt-ltb _ _ (omega arith)
narrow_octet utf8 c w e = let m = among_most (characters_of utf8) c 255 refl e in lt-ltb _ _ (omega arith)

both_true : (p q : Bool) → (p && q) ≡ true → (p ≡ true) × (q ≡ true)
both_true true q e = (refl, e)
both_true false q e = cc

pub narrow_octets : (k : StringKind) (cs : List ℕ) → is_among (characters_of k) 256 ≡ false → list_all (is_among (characters_of k)) cs ≡ true → list_all is_octet cs ≡ true
narrow_octets k [] w e = refl
narrow_octets k (c ∷ cs) w e = let p = both_true _ _ e in ap (λ b. b && list_all is_octet cs) (narrow_octet k c w p.0) ∙ narrow_octets k cs w p.1

pub narrow_text : (k : StringKind) (cs : List ℕ) → is_among (characters_of k) 256 ≡ false → Oer.string_octets k cs ≡ cs
narrow_text numeric cs w = refl
narrow_text printable cs w = refl
narrow_text visible cs w = refl
narrow_text ia5 cs w = refl
narrow_text bmp cs w = cc
narrow_text general cs w = refl
narrow_text graphic cs w = refl
narrow_text teletex cs w = refl
narrow_text utf8 cs w = refl

pub wide_text : (k : StringKind) (cs : List ℕ) → is_among (characters_of k) 256 ≡ true → Oer.string_octets k cs ≡ flat_map (digits 256 2) cs
wide_text numeric cs w = cc
wide_text printable cs w = cc
wide_text visible cs w = cc
wide_text ia5 cs w = cc
wide_text bmp cs w = refl
wide_text general cs w = cc
wide_text graphic cs w = cc
wide_text teletex cs w = cc
wide_text utf8 cs w = cc

pub wide_octets : (cs : List ℕ) → list_all is_octet (flat_map (digits 256 2) cs) ≡ true
wide_octets [] = refl
wide_octets (c ∷ cs) = let p = both_true _ _ (digits_octets 2 c) in let q = both_true _ _ p.1 in
    ap (λ b. b && (is_octet (c / 256 ^ 0 % 256) && list_all is_octet (flat_map (digits 256 2) cs))) p.0 ∙ (ap (λ b. b && list_all is_octet (flat_map (digits 256 2) cs)) q.0 ∙ wide_octets cs)

pub length-wide : (cs : List ℕ) → length (flat_map (digits 256 2) cs) ≡ length cs * 2
length-wide [] = refl
length-wide (c ∷ cs) = omega (arith, length-wide cs)

pub octet_at : (cs : List ℕ) (i : ℕ) → list_all is_octet cs ≡ true → i < length cs → get_or cs i 0 < 256
octet_at [] i h l = absurd (omega arith)
octet_at (c ∷ cs) zero h l = ltb-true c 256 (both_true _ _ h).0
octet_at (c ∷ cs) (suc i) h l = octet_at cs i (both_true _ _ h).1 (omega arith)

pub two_more : (old now mid new cs : List ℕ) (i c x y : ℕ) → now ≡ old ++ flat_map (digits 256 2) (take i cs) → c ≡ get_or cs i 0 → i < length cs →
    x ≡ bit_and (c / 2 ^ 8) 255 → y ≡ bit_and c 255 → mid ≡ now ++ x ∷ [] → new ≡ mid ++ y ∷ [] → new ≡ old ++ flat_map (digits 256 2) (take (i + 1) cs)
two_more old now mid new cs i c x y h e l a b m n =
    let high : x ≡ c / 256 % 256 = a ∙ and_mask (c / 2 ^ 8) 8 in
    let low : y ≡ c / 1 % 256 = b ∙ and_mask c 8 ∙ (omega arith) in
    n ∙ ap (λ w. w ++ y ∷ []) (m ∙ ap (λ w. w ++ x ∷ []) h)
    ∙ ap (λ w. w ++ y ∷ []) (append_assoc old (flat_map (digits 256 2) (take i cs)) (x ∷ [])) ∙ append_assoc old (flat_map (digits 256 2) (take i cs) ++ x ∷ []) (y ∷ [])
    ∙ ap (λ w. old ++ w) (append_assoc (flat_map (digits 256 2) (take i cs)) (x ∷ []) (y ∷ []) ∙
    ap (λ z. flat_map (digits 256 2) (take i cs) ++ z ∷ y ∷ []) high ∙ ap (λ z. flat_map (digits 256 2) (take i cs) ++ (c / 256 % 256) ∷ z ∷ []) low ∙ go cs i c e l)
  where
    go : (cs : List ℕ) (i c : ℕ) → c ≡ get_or cs i 0 → i < length cs → flat_map (digits 256 2) (take i cs) ++ (c / 256 % 256) ∷ (c / 1 % 256) ∷ [] ≡ flat_map (digits 256 2) (take (i + 1) cs)
    go [] i c e l = absurd (omega arith)
    go (d ∷ cs) zero c e l = ap (λ z. (z / 256 % 256) ∷ (z / 1 % 256) ∷ []) e
    go (d ∷ cs) (suc i) c e l = let k : suc i + 1 ≡ suc (i + 1) = omega arith in
        ap (λ w. (d / 256 % 256) ∷ (d / 1 % 256) ∷ w) (go cs i c e (omega arith)) ∙ ap (λ j. flat_map (digits 256 2) (take j (d ∷ cs))) (sym k)

both_are : {p q : Bool} → p ≡ true → q ≡ true → (p && q) ≡ true
both_are {p} {q} e f = ap (λ t. t && q) e ∙ f

first_is : (p q : Bool) → p ≡ false → (p && q) ≡ false
first_is true q e = cc
first_is false q e = refl

pub characters_text : (k : StringKind) (z : Size) (a : Alphabet) (h : Counts) (cs os : List ℕ) → admits z h (length cs) ≡ true →
    may_hold k cs ≡ true → Oer.string_octets k cs ≡ os → written (Oer.form (character_string k z a h) (text cs)) 0 ≡ written (Oer.octets_form (Oer.is_fixed z) os) 0
unfolding Oer.form
characters_text k z a h cs os e m s = if_true (admits z h (length cs) && may_hold k cs) (Oer.octets_form (Oer.is_fixed z) (Oer.string_octets k cs))
    (both_are e m) ∙ ap (λ l. written (Oer.octets_form (Oer.is_fixed z) l) 0) s

pub characters_none : (k : StringKind) (z : Size) (a : Alphabet) (h : Counts) (cs : List ℕ) → admits z h (length cs) ≡ false → written (Oer.form (character_string k z a h) (text cs)) 0 ≡ None
unfolding Oer.form
characters_none k z a h cs e = if_false (admits z h (length cs) && may_hold k cs) (Oer.octets_form (Oer.is_fixed z) (Oer.string_octets k cs)) (first_is _ _ e)
