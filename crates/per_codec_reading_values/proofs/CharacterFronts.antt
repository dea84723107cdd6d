-- Bits that begin with characters by their codes (X.691 30.5).
use Rattle.std.proofs.Common.{◌≡◌, ◌⊎◌, inl, inr, ℕ, zero, suc, ◌-◌, ◌*◌, ◌^◌, ◌<◌, ◌≤◌, ◌==◌, ltb, lit<, Bool, true}
use Rattle.std.proofs.Common.{false, cond, List, [], ◌∷◌, ◌++◌, length, map, take, drop, Option, Some, None, option_map}
use Rattle.std.proofs.Common.{refl, ap, sym, ◌∙◌, subst, arith, length-append}
use Rattle.std.specs.Prelude.{flat_map, is_some, unwrap_or}
use Rattle.std.proofs.lemmas.Bool.{ltb-true, eqb-true, eq-eqb, and_parts, and_from}
use Rattle.std.proofs.lemmas.List.{nil_from_length, length-drop, length-take-le}
use Rattle.std.proofs.Math.Nat.{suc-mul}
use Rattle.asn1_model.specs.Schema.{Alphabet, Counts, Size, StringKind, character_string}
use Rattle.asn1_model.specs.Value.{Value, text}
use Rattle.asn1_model.specs.Schema.{any_count}
use Rattle.asn1_model.specs.Numbers.{binary, width, is_count_within}
use Rattle.asn1_model.specs.Form.{exactly, given, only_if}
use Rattle.asn1_model.specs.Strings.{Run, how_many, largest, place_of, permitted, is_of_octets, may_hold}
use Rattle.std.specs.List.{list_all}
use Rattle.asn1_model.specs.Per
use Rattle.asn1_model.proofs.Forms.{map_parts}
use Rattle.asn1_laws_values.proofs.Places.{places_fewest}
use Rattle.asn1_laws_fronts.proofs.Fronts.{Pairwise, agree_exactly, agree_map, agree_given}
use Rattle.asn1_laws_fronts.proofs.PerNumbers.{Alike, binary_alike, length-binary}
use Rattle.asn1_laws_fronts.proofs.Strings.{Orderly, place_top, place_fits}
use Rattle.asn1_laws_fronts.proofs.Units.{sized_alike}
use Rattle.asn1_values_alphabets.specs.Permitted.{permits_all}
use Rattle.per_codec_alphabets.specs.Codes.{Coded, SameCharacters, code_of, has_code, text_of}
use Rattle.per_codec_laws.specs.Takes.{Position, Front}
use Rattle.per_codec_laws.proofs.Fronts.{if_in, if_out, of_refused}
use Rattle.per_codec_laws.proofs.Next.{same_fronts}
use Rattle.asn1_schema_errors.specs.declared.DecodeError.{DecodeError}
use Rattle.asn1_schema_errors.specs.declared.DecodeError.TheVariants.{OutOfMemory}
use Rattle.per_codec_reading.specs.Fronts.{NoneStands, IsFresh, Misses}
use Rattle.per_codec_reading.proofs.Fronts.{none_misses}
use Rattle.per_codec_reading.specs.Units.{Units, pieces, units_of}
use Rattle.per_codec_reading.specs.Headings.{contents_have_padding, sized_units}
use Rattle.per_codec_reading.specs.declared.sized.Contents.TheVariants.{Characters}
use Rattle.per_codec_reading.proofs.UnitFronts.{length-pieces}
use Rattle.per_codec_reading_values.specs.CharacterCodes.{Spells, Stuck, IsFitting}
use Rattle.per_codec_reading_values.proofs.Steps.{front, split_bits}

-- ---- codes fit in their bits
code_fits : (al : Bool) (rs : List Run) (c i : ℕ) → Orderly rs → place_of c rs ≡ Some i → cond (ltb (largest rs) (2 ^ Per.character_bits al rs)) c i < 2 ^ Per.character_bits al rs
code_fits al rs c i o e = go (ltb (largest rs) (2 ^ Per.character_bits al rs)) refl
  where
    go : (t : Bool) → ltb (largest rs) (2 ^ Per.character_bits al rs) ≡ t → cond t c i < 2 ^ Per.character_bits al rs
    go true h = let m = ltb-true _ _ h in let p = place_top c rs i o.0 e in omega arith
    go false h = place_fits al rs c i o.1 e

pub fitting : (al : Bool) (rs : List Run) (a : Coded) → SameCharacters a.runs rs → a.code_bits ≡ Per.character_bits al rs → Orderly rs → IsFitting a
fitting al rs a s b o = record { fits = λ c n e. fit c n e }
  where
    fit : (c n : ℕ) → code_of a c ≡ Some n → n < 2 ^ a.code_bits
    fit c n e =
        let q = map_parts (place_of c a.runs) (λ i. cond (ltb (largest a.runs) (2 ^ a.code_bits)) c i) n e in
        let f = code_fits al rs c q.0 o (sym (s.places c) ∙ q.1) in
        let g : cond (ltb (largest rs) (2 ^ Per.character_bits al rs)) c q.0 ≡ n =
        ap (λ m. cond (ltb m (2 ^ Per.character_bits al rs)) c q.0) (sym s.greatest) ∙ ap (λ m. cond (ltb (largest a.runs) (2 ^ m)) c q.0) (sym b) ∙ q.2 in
        subst (λ m. n < 2 ^ m) (sym b) (subst (λ m. m < 2 ^ Per.character_bits al rs) g f)

raised_small : (b : ℕ) (s t u : Bool) → b ≤ 16 → cond s b (cond t 4 (cond u 8 16)) ≤ 16
raised_small b true t u h = h
raised_small b false true u h = omega arith
raised_small b false false true h = omega arith
raised_small b false false false h = omega arith

pub few_bits : (al : Bool) (rs : List Run) → how_many rs ≤ 65536 → Per.character_bits al rs ≤ 16
few_bits al rs h = go al
  where
    least : width (how_many rs - 1) ≤ 16
    least = places_fewest (how_many rs - 1) 2 (how_many rs - 1) 16 (lit< tt) (omega arith)

    go : (al : Bool) → Per.character_bits al rs ≤ 16
    go true = raised_small (width (how_many rs - 1)) _ _ _ least
    go false = least

-- ---- texts of characters as units of one width
text_long : (a : Coded) (c : ℕ) → length (text_of a c) ≡ a.code_bits
text_long a c = length-binary a.code_bits (unwrap_or (code_of a c) 0)

length-spelled : (a : Coded) (cs : List ℕ) → length (flat_map (text_of a) cs) ≡ length cs * a.code_bits
length-spelled a [] = omega arith
length-spelled a (c ∷ cs) = let i = length-spelled a cs in let t = text_long a c in let m = suc-mul (length cs) a.code_bits in length-append (text_of a c) (flat_map (text_of a) cs) ∙ omega arith

pieces_of : (a : Coded) (cs : List ℕ) → pieces a.code_bits (length cs) (flat_map (text_of a) cs) ≡ map (text_of a) cs
pieces_of a [] = refl
pieces_of a (c ∷ cs) =
    let f = front (text_of a c) (flat_map (text_of a) cs) a.code_bits (text_long a c) in
    ap (λ t. t ∷ pieces a.code_bits (length cs) (drop a.code_bits (text_of a c ++ flat_map (text_of a) cs))) f.0 ∙
    ap (λ r. text_of a c ∷ pieces a.code_bits (length cs) r) f.1 ∙ ap (λ l. text_of a c ∷ l) (pieces_of a cs)

rest_long : (w n : ℕ) (bs : List Bool) → length bs ≡ suc n * w → (w ≤ length bs) × (length (drop w bs) ≡ n * w)
rest_long w n bs l = let m = suc-mul n w in let d = length-drop w bs in (omega arith, omega arith)

spelled_pieces : (a : Coded) (n : ℕ) (bs : List Bool) (cs : List ℕ) → length bs ≡ n * a.code_bits → pieces a.code_bits n bs ≡ map (text_of a) cs → (length cs ≡ n) × (flat_map (text_of a) cs ≡ bs)
spelled_pieces a zero bs [] l e = (refl, sym (nil_from_length bs (omega arith)))
spelled_pieces a zero bs (c ∷ cs) l e = cc
spelled_pieces a (suc n) bs [] l e = cc
spelled_pieces a (suc n) bs (c ∷ cs) l e =
    let h : take a.code_bits bs ≡ text_of a c = cc in
    let t : pieces a.code_bits n (drop a.code_bits bs) ≡ map (text_of a) cs = cc in
    let i = spelled_pieces a n (drop a.code_bits bs) cs (rest_long a.code_bits n bs l).1 t in
    (ap suc i.0, ap (λ x. x ++ flat_map (text_of a) cs) (sym h) ∙ ap (λ r. take a.code_bits bs ++ r) i.1 ∙ split_bits bs a.code_bits)

-- ---- texts of one width
abbrev Wide : ℕ → Type 0
Wide w = (t : List Bool) × (length t ≡ w)

abbrev AreWide : ℕ → List (List Bool) → Type 0
AreWide w [] = Unit {0}
AreWide w (t ∷ ts) = (length t ≡ w) × AreWide w ts

abbrev wides : (w : ℕ) (ts : List (List Bool)) → AreWide w ts → List (Wide w)
wides w [] h = []
wides w (t ∷ ts) h = (t, h.0) ∷ wides w ts h.1

abbrev form_of : (w : ℕ) → Wide w → Per.BitForm
form_of w x = exactly x.0

abbrev SameTexts : (w : ℕ) → Wide w → Wide w → Type 0
SameTexts w x y = x.0 ≡ y.0

wide_forms : (w : ℕ) (ts : List (List Bool)) (h : AreWide w ts) → map (form_of w) (wides w ts h) ≡ map (λ t. exactly t) ts
wide_forms w [] h = refl
wide_forms w (t ∷ ts) h = ap (λ l. exactly t ∷ l) (wide_forms w ts h.1)

length-wides : (w : ℕ) (ts : List (List Bool)) (h : AreWide w ts) → length (wides w ts h) ≡ length ts
length-wides w [] h = refl
length-wides w (t ∷ ts) h = ap suc (length-wides w ts h.1)

wides_equal : (w : ℕ) (ts us : List (List Bool)) (h : AreWide w ts) (k : AreWide w us) → Pairwise (SameTexts w) (wides w ts h) (wides w us k) → ts ≡ us
wides_equal w [] [] h k p = refl
wides_equal w [] (u ∷ us) h k p = absurd p
wides_equal w (t ∷ ts) [] h k p = absurd p
wides_equal w (t ∷ ts) (u ∷ us) h k p = let e = p.0 in let f = wides_equal w ts us h.1 k.1 p.1 in cc

wide_pieces : (w n : ℕ) (bs : List Bool) → length bs ≡ n * w → AreWide w (pieces w n bs)
wide_pieces w zero bs l = tt
wide_pieces w (suc n) bs l = let r = rest_long w n bs l in (length-take-le w bs r.0, wide_pieces w n (drop w bs) r.1)

wide_texts : (a : Coded) (cs : List ℕ) → AreWide a.code_bits (map (text_of a) cs)
wide_texts a [] = tt
wide_texts a (c ∷ cs) = (text_long a c, wide_texts a cs)

-- ---- characters of an alphabet have these texts
abbrev by_place : ℕ → ℕ → ℕ → Option ℕ → Per.BitForm
by_place n b c o = given o (λ i. exactly (binary b (cond (ltb n (2 ^ b)) c i)))

coded_form : (n b c : ℕ) (o : Option ℕ) → is_some (option_map (λ i. cond (ltb n (2 ^ b)) c i) o) ≡ true →
    by_place n b c o ≡ exactly (binary b (unwrap_or (option_map (λ i. cond (ltb n (2 ^ b)) c i) o) 0))
coded_form n b c (Some i) e = refl
coded_form n b c None e = cc

one_form : (a : Coded) (rs : List Run) (c : ℕ) → SameCharacters a.runs rs → has_code a c ≡ true → Per.character a.code_bits rs c ≡ exactly (text_of a c)
unfolding Per.character
one_form a rs c s h = ap (by_place (largest rs) a.code_bits c) (sym (s.places c)) ∙
    ap (λ n. by_place n a.code_bits c (place_of c a.runs)) (sym s.greatest) ∙ coded_form (largest a.runs) a.code_bits c (place_of c a.runs) h

forms : (a : Coded) (rs : List Run) (cs : List ℕ) → SameCharacters a.runs rs → list_all (has_code a) cs ≡ true → map (Per.character a.code_bits rs) cs ≡ map (λ t. exactly t) (map (text_of a) cs)
forms a rs [] s h = refl
forms a rs (c ∷ cs) s h = let p = and_parts _ _ h in ap (λ x. x ∷ map (Per.character a.code_bits rs) cs) (one_form a rs c s p.0) ∙ ap (λ l. exactly (text_of a c) ∷ l) (forms a rs cs s p.1)

-- ---- characters that come first have codes
abbrev HasPlace : List Run → ℕ → ℕ → Type 0
HasPlace rs c d = is_some (place_of c rs) ≡ true

mapped_some : (f : ℕ → ℕ) (o : Option ℕ) → is_some o ≡ true → is_some (option_map f o) ≡ true
mapped_some f (Some i) e = refl
mapped_some f None e = cc

pairs_coded : (a : Coded) (rs : List Run) (cs : List ℕ) → SameCharacters a.runs rs → Pairwise (HasPlace rs) cs cs → list_all (has_code a) cs ≡ true
pairs_coded a rs [] s p = refl
pairs_coded a rs (c ∷ cs) s p = and_from _ _ (mapped_some (λ i. cond (ltb (largest a.runs) (2 ^ a.code_bits)) c i) (place_of c a.runs) (ap is_some (s.places c) ∙ p.0)) (pairs_coded a rs cs s p.1)

module _ (free : Per.Freedom → Bool) (al : Bool) where
  wide_alike : (w : ℕ) (z : Size) (held : Counts) (has_padding has_padding' : Counts → Bool) (ts us : List (List Bool)) → AreWide w ts →
      AreWide w us → (length ts ≡ length us → has_padding z.counts ≡ has_padding' z.counts) →
      Alike free (Per.sized al z held has_padding (map (λ t. exactly t) ts)) (Per.sized al z held has_padding' (map (λ t. exactly t) us)) (ts ≡ us)
  wide_alike w z held has_padding has_padding' ts us h k e =
      let x = sized_alike free (Wide w) (SameTexts w) (form_of w) (λ x y. agree_exactly free x.0 y.0 (x.1 ∙ sym y.1)) al z held has_padding
      has_padding' (wides w ts h) (wides w us k) (λ n. e (sym (length-wides w ts h) ∙ n ∙ length-wides w us k)) in
      let y = agree_map free (wides_equal w ts us h k) x in
      subst (λ f. Alike free (Per.sized al z held has_padding f) (Per.sized al z held has_padding' (map (λ t. exactly t) us)) (ts ≡ us))
      (wide_forms w ts h) (subst (λ f. Alike free (Per.sized al z held has_padding (map (form_of w) (wides w ts h))) (Per.sized al z held has_padding' f) (ts ≡ us)) (wide_forms w us k) y)

  placed_alike : (rs : List Run) → Orderly rs → (c d : ℕ) → Alike free (Per.character (Per.character_bits al rs) rs c) (Per.character (Per.character_bits al rs) rs d) (HasPlace rs c d)
  unfolding Per.character
  placed_alike rs o c d = agree_given free (place_of c rs) (place_of d rs) _ _
      (λ i j e f. agree_map free (λ q. ap is_some e) (binary_alike free (Per.character_bits al rs) _ _ (code_fits al rs c i o e) (code_fits al rs d j o f)))

  all_coded : (z : Size) (held : Counts) (a : Coded) (rs : List Run) (cs : List ℕ) (p q : Position) → SameCharacters a.runs rs → Orderly rs →
      Front free (Per.characters al z held rs cs) p q → list_all (has_code a) cs ≡ true
  unfolding Per.characters
  all_coded z held a rs cs p q s o f =
      let x = sized_alike free ℕ (HasPlace rs) (Per.character (Per.character_bits al rs) rs) (placed_alike rs o) al z held
      (Per.characters_have_padding (Per.character_bits al rs) (length cs)) (Per.characters_have_padding (Per.character_bits al rs) (length cs)) cs cs (λ n. refl) in
      pairs_coded a rs cs s (same_fronts free x p q q f f).0

module _ (free : Per.Freedom → Bool) (al : Bool) (k : StringKind) (z : Size) (l : Alphabet) (a : Coded) (s : SameCharacters a.runs (permitted k l))
    (b : a.code_bits ≡ Per.character_bits al (permitted k l)) (o : is_of_octets k ≡ false) (holds : (cs : List ℕ) → may_hold k cs ≡ permits_all k cs) where
  abbrev in_codes : List ℕ → Per.BitForm
  in_codes cs = Per.sized al z any_count (Per.characters_have_padding a.code_bits (length cs)) (map (λ t. exactly t) (map (text_of a) cs))

  abbrev of_units : Units → Per.BitForm
  of_units us = sized_units al z any_count a.code_bits (contents_have_padding Characters a.code_bits) us

  of_width : (cs : List ℕ) → list_all (has_code a) cs ≡ true → Per.characters al z any_count (permitted k l) cs ≡ in_codes cs
  unfolding Per.characters
  of_width cs h = ap (λ n. Per.sized al z any_count (Per.characters_have_padding n (length cs)) (map (Per.character n (permitted k l)) cs)) (sym b) ∙
      ap (λ us. Per.sized al z any_count (Per.characters_have_padding a.code_bits (length cs)) us) (forms a (permitted k l) cs s h)

  pub codes_stand : (us : Units) (cs : List ℕ) (p q : Position) → Front free (of_units us) p q → length cs ≡ us.0 → Spells k a cs us.1 →
      Front free (Per.form al (character_string k z l any_count) (text cs)) p q
  unfolding Per.form Per.string_form
  codes_stand us cs p q f e t =
      let i = if_out free (length us.1 == us.0 * a.code_bits) _ p q f in
      let g : units_of a.code_bits us.0 us.1 ≡ map (λ t. exactly t) (map (text_of a) cs) = ap (λ w. units_of a.code_bits us.0 w) (sym t.spelled) ∙
      ap (λ n. units_of a.code_bits n (flat_map (text_of a) cs)) (sym e) ∙ ap (map (λ u. exactly u)) (pieces_of a cs) in
      let x = subst (λ ts. Front free (Per.sized al z any_count (Per.characters_have_padding a.code_bits us.0) ts) p q) g i.1 in
      let y : Front free (in_codes cs) p q = subst (λ n. Front free (Per.sized al z any_count (Per.characters_have_padding a.code_bits n) (map (λ t. exactly t) (map (text_of a) cs))) p q) (sym e) x in
      let v = subst (λ f. Front free f p q) (sym (of_width cs t.coded)) y in
      if_in free (may_hold k cs) _ p q (holds cs ∙ t.permitted)
      (subst (λ t. Front free (cond t (only_if (is_count_within any_count (length cs)) (Per.counted_octets al cs)) (Per.characters al z any_count (permitted k l) cs)) p q) (sym o) v)

  record Told (p q : Position) : Type 0 where
    pub told : List ℕ
    pub spells : Spells k a told (flat_map (text_of a) told)
    pub front_of : Front free (in_codes told) p q

  told_of : Orderly (permitted k l) → (v : Value) (p q : Position) → Front free (Per.form al (character_string k z l any_count) v) p q → Told p q
  unfolding Per.form Per.string_form
  told_of w (text cs) p q f =
      let i = if_out free (may_hold k cs) _ p q f in
      let x = subst (λ t. Front free (cond t (only_if (is_count_within any_count (length cs)) (Per.counted_octets al cs)) (Per.characters al z any_count (permitted k l) cs)) p q) o i.1 in
      let c = all_coded free al z any_count a (permitted k l) cs p q s w x in
      record { told = cs; spells = record { permitted = sym (holds cs) ∙ i.0; coded = c; spelled = refl }; front_of = subst (λ f. Front free f p q) (of_width cs c) x }
  told_of w v p q f = absurd (of_refused free p q f)

  pub no_codes : Orderly (permitted k l) → (p : Position) → NoneStands free of_units p → NoneStands free (Per.form al (character_string k z l any_count)) p
  no_codes w p n v q f =
      let x = told_of w v p q f in
      let ws = flat_map (text_of a) x.told in
      n (length x.told, ws) q (if_in free (length ws == length x.told * a.code_bits) _ p q (eq-eqb _ _ (length-spelled a x.told))
      (subst (λ ts. Front free (Per.sized al z any_count (Per.characters_have_padding a.code_bits (length x.told)) (map (λ t. exactly t) ts)) p q) (sym (pieces_of a x.told)) x.front_of))

  length-texts : (cs : List ℕ) → length (map (text_of a) cs) ≡ length cs
  length-texts [] = refl
  length-texts (c ∷ cs) = ap suc (length-texts cs)

  pub no_characters : Orderly (permitted k l) → (us : Units) (p c : Position) → Front free (of_units us) p c → Stuck k a us.0 us.1 → NoneStands free (Per.form al (character_string k z l any_count)) p
  no_characters w us p c g t v q f =
      let x = told_of w v p q f in
      let i = if_out free (length us.1 == us.0 * a.code_bits) _ p c g in
      let n = eqb-true _ _ i.0 in
      let u = wide_alike free al a.code_bits z any_count (Per.characters_have_padding a.code_bits us.0)
      (Per.characters_have_padding a.code_bits (length x.told)) (pieces a.code_bits us.0 us.1) (map (text_of a) x.told)
      (wide_pieces a.code_bits us.0 us.1 n) (wide_texts a x.told) (λ e.
      ap (λ m. Per.characters_have_padding a.code_bits m z.counts) (sym (length-pieces a.code_bits us.0 us.1) ∙ e ∙ length-texts x.told)) in
      let r = spelled_pieces a us.0 us.1 x.told n (same_fronts free u p c q i.1 x.front_of).0 in
      let d = x.spells in
      t x.told r.0 (record { permitted = d.permitted; coded = d.coded; spelled = r.1 })

-- Codes of no characters are refused, or memory ran out.
pub refused_codes : (free : Per.Freedom → Bool) (x : Value → Per.BitForm) (k : StringKind) (a : Coded) (us : Units) (p : Position) (e : DecodeError) →
    IsFitting a → (Stuck k a us.0 us.1 → NoneStands free x p) → (e ≡ OutOfMemory) ⊎ (IsFitting a → Stuck k a us.0 us.1) → IsFresh e → Misses free x p e
refused_codes free x k a us p e f h (inl m) n = subst (Misses free x p) (sym m) tt
refused_codes free x k a us p e f h (inr s) n = none_misses free x p e n (h (s f))
