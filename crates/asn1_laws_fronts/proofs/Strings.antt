-- Prefixes of character strings of the packed rules: a character is determined by its value, or by its index among
-- those permitted.
use Rattle.std.proofs.Common.{◌≡◌, ℕ, ◌+◌, ◌-◌, ◌^◌, ◌<◌, ◌≤◌, leb, ltb, ◌==◌, lit<, Bool, true, false, cond, ◌&&◌}
use Rattle.std.proofs.Common.{List, [], ◌∷◌, length, map, Option, Some, None, option_map, filter, refl, ap, sym, ◌∙◌}
use Rattle.std.proofs.Common.{inl, inr, ◌⊎◌, arith}
use Rattle.std.proofs.lemmas.Bool.{ltb-true, leb-true, le-leb, and_parts, and_from, or_cases}
use Rattle.std.proofs.Math.Nat.{pow-le-pow_right}
use Rattle.asn1_model.specs.Schema.{Alphabet, Counts, Size, StringKind, numeric, printable, visible, ia5, bmp, general, graphic, teletex, utf8}
use Rattle.asn1_model.specs.Lawful.{are_ascending}
use Rattle.asn1_model.specs.Numbers.{binary, width, is_count_within}
use Rattle.asn1_model.specs.Form.{exactly, only_if}
use Rattle.asn1_model.specs.Strings.{Run, run, is_in_run, characters_of, how_many, largest, place_of, is_among, put_in, sorted, permitted, is_of_octets, may_hold}
use Rattle.std.specs.List.{list_all}
use Rattle.asn1_model.specs.Per
use Rattle.asn1_model.proofs.Forms.{map_parts}
use Rattle.asn1_model.proofs.Ascending.{order_ascends}
use Rattle.asn1_laws_values.proofs.Places.{places_hold, places_fewest}
use Rattle.asn1_laws_fronts.proofs.Fronts.{agree_map, agree_if, agree_given}
use Rattle.asn1_laws_fronts.proofs.PerNumbers.{Alike, binary_alike, pairs_equal, counted_octets_alike}
use Rattle.asn1_laws_fronts.proofs.Units.{sized_alike}

-- ---- the index of a character
in_run_parts : (c : ℕ) (r : Run) → is_in_run c r ≡ true → (r.first ≤ c) × (c ≤ r.last)
in_run_parts c r e = let p = and_parts _ _ e in (leb-true _ _ p.0, leb-true _ _ p.1)

-- in the first run, or after all of it
abbrev First : ℕ → Run → ℕ → Type 0
First c r i = (r.first ≤ c) × (c ≤ r.last) × (c - r.first ≡ i)

abbrev Later : ℕ → Run → List Run → ℕ → Type 0
Later c r rs i = (j : ℕ) × (place_of c rs ≡ Some j) × (r.last + 1 - r.first + j ≡ i)

some_same : {X : Type 0} {x y : X} → Some x ≡ Some y → x ≡ y
some_same e = cc

place_cases : (c : ℕ) (r : Run) (rs : List Run) (i : ℕ) → place_of c (r ∷ rs) ≡ Some i → First c r i ⊎ Later c r rs i
place_cases c r rs i e = go (is_in_run c r) refl e
  where
    go : (t : Bool) → is_in_run c r ≡ t → cond t (Some (c - r.first)) (option_map (λ j. r.last + 1 - r.first + j) (place_of c rs)) ≡ Some i → First c r i ⊎ Later c r rs i
    go true p f = let q = in_run_parts c r p in inl (q.0, q.1, some_same f)
    go false p f = let q = map_parts (place_of c rs) (λ j. r.last + 1 - r.first + j) i f in inr (q.0, q.1, q.2)

place_below : (c : ℕ) (rs : List Run) (i : ℕ) → place_of c rs ≡ Some i → i < how_many rs
place_below c [] i e = cc
place_below c (r ∷ rs) i e = go (place_cases c r rs i e) (λ j f. place_below c rs j f)
  where
    go : First c r i ⊎ Later c r rs i → ((j : ℕ) → place_of c rs ≡ Some j → j < how_many rs) → i < r.last + 1 - r.first + how_many rs
    go (inl q) k = let a = q.0 in let b = q.1 in let d = q.2 in omega arith
    go (inr q) k = let a = k q.0 q.1 in let d = q.2 in omega arith

place_equal : (c d : ℕ) (rs : List Run) (i : ℕ) → place_of c rs ≡ Some i → place_of d rs ≡ Some i → c ≡ d
place_equal c d [] i e f = cc
place_equal c d (r ∷ rs) i e f = go (place_cases c r rs i e) (place_cases d r rs i f) (λ j g h. place_equal c d rs j g h)
  where
    go : First c r i ⊎ Later c r rs i → First d r i ⊎ Later d r rs i → ((j : ℕ) → place_of c rs ≡ Some j → place_of d rs ≡ Some j → c ≡ d) → c ≡ d
    go (inl p) (inl q) k = let a = p.0 in let b = p.2 in let x = q.0 in let y = q.2 in omega arith
    go (inl p) (inr q) k = let a = p.0 in let b = p.1 in let x = p.2 in let y = q.2 in absurd (omega arith)
    go (inr p) (inl q) k = let a = q.0 in let b = q.1 in let x = q.2 in let y = p.2 in absurd (omega arith)
    go (inr p) (inr q) k =
        let x = p.2 in
        let y = q.2 in
        let l : q.0 ≡ p.0 = omega arith in
        k p.0 p.1 (q.1 ∙ ap Some l)

-- ---- runs that end further on, one after the other
abbrev pub tops : List Run → Bool
tops [] = true
tops (r ∷ []) = true
tops (r ∷ s ∷ rs) = leb r.last s.last && tops (s ∷ rs)

last_top : (r : Run) (rs : List Run) → tops (r ∷ rs) ≡ true → r.last ≤ largest (r ∷ rs)
last_top r [] h = omega arith
last_top r (s ∷ rs) h =
    let p = and_parts _ _ h in
    let a : r.last ≤ s.last = leb-true _ _ p.0 in
    let b = last_top s rs p.1 in
    omega arith

tops_rest : (r : Run) (rs : List Run) → tops (r ∷ rs) ≡ true → (tops rs ≡ true) × ((n : ℕ) → 0 < length rs → n ≤ largest rs → n ≤ largest (r ∷ rs))
tops_rest r [] h = (refl, λ n i k. absurd (omega arith))
tops_rest r (s ∷ rs) h = ((and_parts _ _ h).1, λ n i k. k)

place_some : (c : ℕ) (rs : List Run) (i : ℕ) → place_of c rs ≡ Some i → 0 < length rs
place_some c [] i e = cc
place_some c (r ∷ rs) i e = omega arith

pub place_top : (c : ℕ) (rs : List Run) (i : ℕ) → tops rs ≡ true → place_of c rs ≡ Some i → c ≤ largest rs
place_top c [] i h e = cc
place_top c (r ∷ rs) i h e = go (place_cases c r rs i e) (λ j f. place_top c rs j ((tops_rest r rs h).0) f)
  where
    go : First c r i ⊎ Later c r rs i → ((j : ℕ) → place_of c rs ≡ Some j → c ≤ largest rs) → c ≤ largest (r ∷ rs)
    go (inl q) k = let a = q.1 in let b = last_top r rs h in omega arith
    go (inr q) k = (tops_rest r rs h).1 c (place_some c rs q.0 q.1) (k q.0 q.1)

among_top : (c : ℕ) (rs : List Run) → tops rs ≡ true → is_among rs c ≡ true → c ≤ largest rs
among_top c [] h e = cc
among_top c (r ∷ rs) h e = go (or_cases _ _ e) (λ f. among_top c rs ((tops_rest r rs h).0) f)
  where
    there : (rs : List Run) → is_among rs c ≡ true → 0 < length rs
    there [] f = cc
    there (s ∷ ss) f = omega arith

    go : (is_in_run c r ≡ true) ⊎ (is_among rs c ≡ true) → (is_among rs c ≡ true → c ≤ largest rs) → c ≤ largest (r ∷ rs)
    go (inl p) k = let a = (in_run_parts c r p).1 in let b = last_top r rs h in omega arith
    go (inr p) k = (tops_rest r rs h).1 c (there rs p) (k p)

-- ---- permitted alphabets
single : ℕ → Run
single c = run c c

abbrev singles : List ℕ → List Run
singles cs = map (λ c. run c c) cs

singles_tops : (cs : List ℕ) → are_ascending ltb cs ≡ true → tops (singles cs) ≡ true
singles_tops [] h = refl
singles_tops (c ∷ []) h = refl
singles_tops (c ∷ d ∷ cs) h = let p = and_parts _ _ h in and_from _ _ (le-leb c d (let a = ltb-true c d p.0 in omega arith)) (singles_tops (d ∷ cs) p.1)

singles_many : (cs : List ℕ) → how_many (singles cs) ≡ length cs
singles_many [] = refl
singles_many (c ∷ cs) = let i = singles_many cs in omega arith

singles_room : (c : ℕ) (cs : List ℕ) → are_ascending ltb (c ∷ cs) ≡ true → c + length cs ≤ largest (singles (c ∷ cs))
singles_room c [] h = omega arith
singles_room c (d ∷ cs) h = let p = and_parts _ _ h in let a = ltb-true c d p.0 in let i = singles_room d cs p.1 in omega arith

singles_largest : (top : ℕ) (rs : List Run) (cs : List ℕ) → tops rs ≡ true → largest rs ≤ top → list_all (is_among rs) cs ≡ true → largest (singles cs) ≤ top
singles_largest top rs [] h i e = omega arith
singles_largest top rs (c ∷ []) h i e = let a = among_top c rs h ((and_parts _ _ e).0) in omega arith
singles_largest top rs (c ∷ d ∷ cs) h i e = singles_largest top rs (d ∷ cs) h i ((and_parts _ _ e).1)

abbrev pub Orderly : List Run → Type 0
Orderly rs = (tops rs ≡ true) × (how_many rs ≤ 65536)

singles_few : (rs : List Run) (cs : List ℕ) → tops rs ≡ true → largest rs ≤ 65535 → are_ascending ltb cs ≡ true → list_all (is_among rs) cs ≡ true → Orderly (singles cs)
singles_few rs [] h i a e = (refl, omega arith)
singles_few rs (c ∷ cs) h i a e =
    let m = singles_many (c ∷ cs) in
    let r = singles_room c cs a in
    let l = singles_largest 65535 rs (c ∷ cs) h i e in
    (singles_tops (c ∷ cs) a, omega arith)

own_orderly : (k : StringKind) → is_of_octets k ≡ false → Orderly (characters_of k)
own_orderly numeric h = (refl, omega arith)
own_orderly printable h = (refl, omega arith)
own_orderly visible h = (refl, omega arith)
own_orderly ia5 h = (refl, omega arith)
own_orderly bmp h = (refl, omega arith)
own_orderly general h = cc
own_orderly graphic h = cc
own_orderly teletex h = cc
own_orderly utf8 h = cc

-- ---- the numbers that pass a test, also in ascending order
left_passes : (test : ℕ → Bool) (cs : List ℕ) → list_all test (filter test cs) ≡ true
left_passes test [] = refl
left_passes test (c ∷ cs) = step (test c) refl (left_passes test cs)
  where
    step : (b : Bool) → test c ≡ b → list_all test (filter test cs) ≡ true → list_all test (cond b (c ∷ filter test cs) (filter test cs)) ≡ true
    step true e k = and_from _ _ e k
    step false e k = k

put_passes : (test : ℕ → Bool) (c : ℕ) (ds : List ℕ) → test c ≡ true → list_all test ds ≡ true → list_all test (put_in c ds) ≡ true
put_passes test c [] h k = and_from _ _ h k
put_passes test c (d ∷ ds) h k = step (ltb c d) (c == d) (put_passes test c ds h ((and_parts _ _ k).1))
  where
    step : (t u : Bool) → list_all test (put_in c ds) ≡ true → list_all test (cond t (c ∷ d ∷ ds) (cond u (d ∷ ds) (d ∷ put_in c ds))) ≡ true
    step true u i = and_from _ _ h k
    step false true i = k
    step false false i = and_from _ _ ((and_parts _ _ k).0) i

sorted_passes : (test : ℕ → Bool) (cs : List ℕ) → list_all test cs ≡ true → list_all test (sorted cs) ≡ true
sorted_passes test [] h = refl
sorted_passes test (c ∷ cs) h = let p = and_parts _ _ h in put_passes test c (sorted cs) p.0 (sorted_passes test cs p.1)

own_left : (k : StringKind) (cs : List ℕ) → tops (characters_of k) ≡ true → largest (characters_of k) ≤ 65535 → Orderly (singles (sorted (filter (is_among (characters_of k)) cs)))
own_left k cs h i =
    let test = is_among (characters_of k) in
    singles_few (characters_of k) (sorted (filter test cs)) h i (order_ascends (filter test cs)) (sorted_passes test (filter test cs) (left_passes test cs))

own_singles : (k : StringKind) (cs : List ℕ) → is_of_octets k ≡ false → Orderly (singles (sorted (filter (is_among (characters_of k)) cs)))
own_singles numeric cs h = own_left numeric cs refl (omega arith)
own_singles printable cs h = own_left printable cs refl (omega arith)
own_singles visible cs h = own_left visible cs refl (omega arith)
own_singles ia5 cs h = own_left ia5 cs refl (omega arith)
own_singles bmp cs h = own_left bmp cs refl (omega arith)
own_singles general cs h = cc
own_singles graphic cs h = cc
own_singles teletex cs h = cc
own_singles utf8 cs h = cc

pub permitted_orderly : (k : StringKind) (extensible : Bool) (cs : Option (List ℕ)) → is_of_octets k ≡ false → Orderly (permitted k (record { characters = cs; extensible = extensible }))
permitted_orderly k false (Some cs) h = own_singles k cs h
permitted_orderly k false None h = own_orderly k h
permitted_orderly k true cs h = own_orderly k h

-- ---- codes
raised_holds : (b : ℕ) (s t u : Bool) → leb b 2 ≡ s → leb b 4 ≡ t → leb b 8 ≡ u → b ≤ 16 → b ≤ cond s b (cond t 4 (cond u 8 16))
raised_holds b true t u e f g h = omega arith
raised_holds b false true u e f g h = leb-true _ _ f
raised_holds b false false true e f g h = leb-true _ _ g
raised_holds b false false false e f g h = h

width_small : (n : ℕ) → n ≤ 65536 → width (n - 1) ≤ 16
width_small n h = places_fewest (n - 1) 2 (n - 1) 16 (lit< tt) (omega arith)

bits_hold : (al : Bool) (rs : List Run) → how_many rs ≤ 65536 → width (how_many rs - 1) ≤ Per.character_bits al rs
bits_hold false rs h = omega arith
bits_hold true rs h = let b = width (how_many rs - 1) in raised_holds (width (how_many rs - 1)) _ _ _ refl refl refl (width_small (how_many rs) h)

pub place_fits : (al : Bool) (rs : List Run) (c i : ℕ) → how_many rs ≤ 65536 → place_of c rs ≡ Some i → i < 2 ^ Per.character_bits al rs
place_fits al rs c i h e =
    let a = place_below c rs i e in
    let w = places_hold (how_many rs - 1) 2 (how_many rs - 1) (lit< tt) (omega arith) in
    let b : 2 ^ width (how_many rs - 1) ≤ 2 ^ Per.character_bits al rs = pow-le-pow_right (lit< tt) (bits_hold al rs h) in
    omega arith

module _ (free : Per.Freedom → Bool) where
  code_cases : (al : Bool) (rs : List Run) (c d i j : ℕ) (t : Bool) → Orderly rs → place_of c rs ≡ Some i → place_of d rs ≡ Some j →
      ltb (largest rs) (2 ^ Per.character_bits al rs) ≡ t → Alike free (exactly (binary (Per.character_bits al rs) (cond t c i))) (exactly (binary (Per.character_bits al rs) (cond t d j))) (c ≡ d)
  code_cases al rs c d i j true o e f g =
      let top = ltb-true _ _ g in
      let a = place_top c rs i o.0 e in
      let b = place_top d rs j o.0 f in
      binary_alike free (Per.character_bits al rs) c d (omega arith) (omega arith)
  code_cases al rs c d i j false o e f g =
      agree_map free (λ q. place_equal c d rs i e (f ∙ ap Some (sym q))) (binary_alike free (Per.character_bits al rs) i j (place_fits al rs c i o.1 e) (place_fits al rs d j o.1 f))

  character_alike : (al : Bool) (rs : List Run) → Orderly rs → (c d : ℕ) → Alike free (Per.character (Per.character_bits al rs) rs c) (Per.character (Per.character_bits al rs) rs d) (c ≡ d)
  unfolding Per.character
  character_alike al rs o c d = agree_given free (place_of c rs) (place_of d rs) _ _ (λ i j e f. code_cases al rs c d i j _ o e f refl)

  characters_alike : (al : Bool) (z : Size) (held : Counts) (rs : List Run) (cs ds : List ℕ) → Orderly rs → Alike free (Per.characters al z held rs cs) (Per.characters al z held rs ds) (cs ≡ ds)
  unfolding Per.characters
  characters_alike al z held rs cs ds o = agree_map free (λ h. pairs_equal cs ds h)
      (sized_alike free ℕ (λ c d. c ≡ d) (Per.character (Per.character_bits al rs) rs) (character_alike al rs o) al z held
      (Per.characters_have_padding (Per.character_bits al rs) (length cs))
      (Per.characters_have_padding (Per.character_bits al rs) (length ds)) cs ds (λ l. ap (λ n. Per.characters_have_padding (Per.character_bits al rs) n z.counts) l))

  kind_cases : (t : Bool) (al : Bool) (k : StringKind) (z : Size) (a : Alphabet) (held : Counts) (cs ds : List ℕ) → is_of_octets k
      ≡ t → Alike free (cond t (only_if (is_count_within held (length cs)) (Per.counted_octets al cs))
      (Per.characters al z held (permitted k a) cs)) (cond t (only_if (is_count_within held (length ds)) (Per.counted_octets al ds)) (Per.characters al z held (permitted k a) ds)) (cs ≡ ds)
  kind_cases true al k z a held cs ds e = agree_if free (is_count_within held (length cs)) (is_count_within held (length ds)) _ _ (λ i j. counted_octets_alike free al cs ds)
  kind_cases false al k z a held cs ds e = characters_alike al z held (permitted k a) cs ds (permitted_orderly k a.extensible a.characters e)

  pub string_alike : (al : Bool) (k : StringKind) (z : Size) (a : Alphabet) (held : Counts) (cs ds : List ℕ) →
      Alike free (Per.string_form al k z a held cs) (Per.string_form al k z a held ds) (cs ≡ ds)
  unfolding Per.string_form
  string_alike al k z a held cs ds = agree_if free (may_hold k cs) (may_hold k ds) _ _ (λ i j. kind_cases (is_of_octets k) al k z a held cs ds refl)
