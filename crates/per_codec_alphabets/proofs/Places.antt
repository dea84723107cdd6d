-- Indices among runs.
use Rattle.std.proofs.Common.{◌≡◌, ℕ, zero, suc, ◌+◌, ◌-◌, ◌^◌, ◌<◌, ◌≤◌, leb, ltb, Bool, true, false, cond, ◌&&◌, List}
use Rattle.std.proofs.Common.{[], ◌∷◌, ◌++◌, length, filter, take, get_or, Option, Some, None, option_map, refl, ap}
use Rattle.std.proofs.Common.{sym, ◌∙◌, append_assoc, arith}
use Rattle.std.proofs.lemmas.Bool.{leb-true, leb-false, lt-ltb, le-ltb}
use Rattle.std.proofs.lemmas.List.{take_more}
use Rattle.asn1_model.specs.Strings.{Run, run, how_many, largest, place_of, is_in_run}
use Rattle.per_codec_alphabets.specs.Codes.{run_of, runs_of, singles, character_at, Coded, code_of, SameCharacters}
use Rattle.per_codec_alphabets.specs.declared.runs.CharacterRun.{CharacterRun}

-- ---- indices
some_same : {X : Type 0} {x y : X} → Some x ≡ Some y → x ≡ y
some_same e = cc

pub more_map : (a b : ℕ) (p : Option ℕ) → option_map (λ j. a + j) (option_map (λ j. b + j) p) ≡ option_map (λ j. a + b + j) p
more_map a b None = refl
more_map a b (Some j) = ap (λ n. Some n) (omega arith)

-- The character at an index is the one that has it.
pub character_at-place : (c i : ℕ) (rs : List Run) → place_of c rs ≡ Some i → character_at rs i ≡ Some c
character_at-place c i [] e = cc
character_at-place c i (r ∷ rs) e = go (leb r.first c) (leb c r.last) refl refl (place_of c rs) (λ j f. character_at-place c j rs f) e
  where
    behind : (o : Option ℕ) → ((j : ℕ) → o ≡ Some j → character_at rs j ≡ Some c) → option_map (λ j. r.last + 1 - r.first + j) o ≡ Some i →
        cond (ltb i (r.last + 1 - r.first)) (Some (r.first + i)) (character_at rs (i - (r.last + 1 - r.first))) ≡ Some c
    behind None k f = cc
    behind (Some j) k f =
        let n : r.last + 1 - r.first + j ≡ i = some_same f in
        let m : i - (r.last + 1 - r.first) ≡ j = omega arith in
        let t : ltb i (r.last + 1 - r.first) ≡ false = le-ltb _ _ (omega arith) in
        rw (t, m) (k j refl)

    go : (x y : Bool) → leb r.first c ≡ x → leb c r.last ≡ y → (o : Option ℕ) → ((j : ℕ) → o ≡ Some j → character_at rs j ≡ Some c) →
        cond (x && y) (Some (c - r.first)) (option_map (λ j. r.last + 1 - r.first + j) o) ≡ Some i →
        cond (ltb i (r.last + 1 - r.first)) (Some (r.first + i)) (character_at rs (i - (r.last + 1 - r.first))) ≡ Some c
    go true true p q o k f =
        let l = leb-true r.first c p in
        let h = leb-true c r.last q in
        let n : c - r.first ≡ i = some_same f in
        let t : ltb i (r.last + 1 - r.first) ≡ true = lt-ltb _ _ (omega arith) in
        rw t (ap Some (omega arith))
    go true false p q o k f = behind o k f
    go false y p q o k f = behind o k f

-- The character of a code is its number, or is at that index.
pub of_number : (a : Coded) (c k : ℕ) → ltb (largest a.runs) (2 ^ a.code_bits) ≡ true → code_of a c ≡ Some k → Some k ≡ Some c
of_number a c k t e = go (place_of c a.runs) (ltb (largest a.runs) (2 ^ a.code_bits)) t e
  where
    go : (o : Option ℕ) (x : Bool) → x ≡ true → option_map (λ i. cond x c i) o ≡ Some k → Some k ≡ Some c
    go None x p f = cc
    go (Some i) true p f = sym f
    go (Some i) false p f = cc

pub of_place : (a : Coded) (c k : ℕ) → ltb (largest a.runs) (2 ^ a.code_bits) ≡ false → code_of a c ≡ Some k → character_at a.runs k ≡ Some c
of_place a c k t e = character_at-place c k a.runs (go (place_of c a.runs) (ltb (largest a.runs) (2 ^ a.code_bits)) t e)
  where
    go : (o : Option ℕ) (x : Bool) → x ≡ false → option_map (λ i. cond x c i) o ≡ Some k → o ≡ Some k
    go None x p f = cc
    go (Some i) true p f = cc
    go (Some i) false p f = f

-- ---- the last of the characters
pub last_of : (r : CharacterRun) (xs : List CharacterRun) → largest (runs_of (xs ++ r ∷ [])) ≡ r.last
last_of r [] = refl
last_of r (x ∷ []) = refl
last_of r (x ∷ y ∷ xs) = last_of r (y ∷ xs)

pub last_at : (xs : List CharacterRun) (i : ℕ) (d : CharacterRun) → suc i ≡ length xs → (get_or xs i d).last ≡ largest (runs_of xs)
last_at [] i d h = cc
last_at (x ∷ []) i d h = let e : i ≡ 0 = omega arith in ap (λ j. (get_or (x ∷ []) j d).last) e
last_at (x ∷ y ∷ xs) zero d h = absurd (omega arith)
last_at (x ∷ y ∷ xs) (suc i) d h = last_at (y ∷ xs) i d (omega arith)

-- ---- runs that are joined
abbrev ends : List Run → Run → List Run
ends rs r = rs ++ r ∷ []

in_longer : (a b c : ℕ) → a ≤ b + 1 → place_of c (run a b ∷ run (b + 1) (b + 1) ∷ []) ≡ place_of c (run a (b + 1) ∷ [])
in_longer a b c l = go (leb a c) (leb c b) (leb (b + 1) c) (leb c (b + 1)) refl refl refl refl
  where
    go : (x y z t : Bool) → leb a c ≡ x → leb c b ≡ y → leb (b + 1) c ≡ z → leb c (b + 1) ≡ t →
        cond (x && y) (Some (c - a)) (option_map (λ i. b + 1 - a + i) (cond (z && t) (Some (c - (b + 1))) None)) ≡ cond (x && t) (Some (c - a)) None
    go true true z true e f g h = refl
    go true true z false e f g h = let p = leb-true c b f in let q = leb-false c (b + 1) h in absurd (omega arith)
    go true false true true e f g h = let p = leb-true (b + 1) c g in ap Some (omega arith)
    go true false false true e f g h = let p = leb-false c b f in let q = leb-false (b + 1) c g in absurd (omega arith)
    go true false true false e f g h = refl
    go true false false false e f g h = refl
    go false y true true e f g h = let p = leb-false a c e in let q = leb-true (b + 1) c g in absurd (omega arith)
    go false y true false e f g h = refl
    go false y false t e f g h = refl

place_joined : (a b c : ℕ) (rs : List Run) → a ≤ b + 1 → place_of c (rs ++ run a (b + 1) ∷ []) ≡ place_of c (rs ++ run a b ∷ run (b + 1) (b + 1) ∷ [])
place_joined a b c [] l = sym (in_longer a b c l)
place_joined a b c (r ∷ rs) l = ap (λ p. cond (is_in_run c r) (Some (c - r.first)) (option_map (λ i. r.last + 1 - r.first + i) p)) (place_joined a b c rs l)

many_joined : (a b : ℕ) (rs : List Run) → a ≤ b + 1 → how_many (rs ++ run a (b + 1) ∷ []) ≡ how_many (rs ++ run a b ∷ run (b + 1) (b + 1) ∷ [])
many_joined a b [] l = omega arith
many_joined a b (r ∷ rs) l = ap (λ n. r.last + 1 - r.first + n) (many_joined a b rs l)

largest_joined : (a b : ℕ) (rs : List Run) → largest (rs ++ run a (b + 1) ∷ []) ≡ largest (rs ++ run a b ∷ run (b + 1) (b + 1) ∷ [])
largest_joined a b [] = refl
largest_joined a b (r ∷ []) = refl
largest_joined a b (r ∷ s ∷ rs) = largest_joined a b (s ∷ rs)

pub runs_behind : (xs : List CharacterRun) (ys : List CharacterRun) → runs_of (xs ++ ys) ≡ runs_of xs ++ runs_of ys
runs_behind [] ys = refl
runs_behind (x ∷ xs) ys = ap (λ rs. run_of x ∷ rs) (runs_behind xs ys)

-- A run and the character after it are one run.
pub joined : (xs : List CharacterRun) (r s : CharacterRun) (c : ℕ) → r.last + 1 ≡ c → r.first ≤ c → s.first ≡ r.first → s.last ≡ c →
    SameCharacters (runs_of (xs ++ s ∷ [])) (runs_of (xs ++ r ∷ []) ++ run c c ∷ [])
joined xs r s c e l f g =
    let x : runs_of (xs ++ s ∷ []) ≡ runs_of xs ++ run r.first (r.last + 1) ∷ [] = runs_behind xs (s ∷ []) ∙
    ap (λ a. runs_of xs ++ run a s.last ∷ []) f ∙ ap (λ b. runs_of xs ++ run r.first b ∷ []) (g ∙ sym e) in
    let y : runs_of (xs ++ r ∷ []) ++ run c c ∷ [] ≡ runs_of xs ++ run r.first r.last ∷ run (r.last + 1) (r.last + 1) ∷ [] =
    ap (λ rs. rs ++ run c c ∷ []) (runs_behind xs (r ∷ [])) ∙ append_assoc (runs_of xs) (run_of r ∷ []) (run c c ∷ []) ∙ ap (λ d. runs_of xs ++ run r.first r.last ∷ run d d ∷ []) (sym e) in
    let m : r.first ≤ r.last + 1 = omega arith in
    rw (x, y) (record {
      many = many_joined r.first r.last (runs_of xs) m;
      greatest = largest_joined r.first r.last (runs_of xs);
      places = λ d. place_joined r.first r.last d (runs_of xs) m;
    })

-- After the others it is a run of one.
pub beside : (xs : List CharacterRun) (s : CharacterRun) (c : ℕ) → s.first ≡ c → s.last ≡ c → SameCharacters (runs_of (xs ++ s ∷ [])) (runs_of xs ++ run c c ∷ [])
beside xs s c f g =
    let x : runs_of (xs ++ s ∷ []) ≡ runs_of xs ++ run c c ∷ [] = runs_behind xs (s ∷ []) ∙ ap (λ a. runs_of xs ++ run a s.last ∷ []) f ∙ ap (λ b. runs_of xs ++ run c b ∷ []) g in
    rw x (record { many = refl; greatest = refl; places = λ d. refl })

-- ---- the same characters with one more
many_more : (rs ss : List Run) (r : Run) → how_many rs ≡ how_many ss → how_many (rs ++ r ∷ []) ≡ how_many (ss ++ r ∷ [])
many_more rs ss r e = many_end rs r ∙ ap (λ n. n + (r.last + 1 - r.first)) e ∙ sym (many_end ss r)
  where
    many_end : (rs : List Run) (r : Run) → how_many (rs ++ r ∷ []) ≡ how_many rs + (r.last + 1 - r.first)
    many_end [] r = omega arith
    many_end (q ∷ rs) r = let i = many_end rs r in omega arith

pub largest_end : (rs : List Run) (r : Run) → largest (rs ++ r ∷ []) ≡ r.last
largest_end [] r = refl
largest_end (q ∷ []) r = refl
largest_end (q ∷ s ∷ rs) r = largest_end (s ∷ rs) r

-- An index among the first runs, or after all of them.
abbrev or_behind : ℕ → Option ℕ → Option ℕ → Option ℕ
or_behind n (Some i) q = Some i
or_behind n None q = option_map (λ j. n + j) q

behind_step : (m n : ℕ) (p q : Option ℕ) → option_map (λ j. m + j) (or_behind n p q) ≡ or_behind (m + n) (option_map (λ j. m + j) p) q
behind_step m n (Some i) q = refl
behind_step m n None q = more_map m n q

pub none_added : (q : Option ℕ) → q ≡ option_map (λ j. 0 + j) q
none_added None = refl
none_added (Some i) = ap Some (omega arith)

in_first : (t : Bool) (a b n : ℕ) (p q : Option ℕ) → cond t (Some a) (option_map (λ j. b + j) (or_behind n p q)) ≡ or_behind (b + n) (cond t (Some a) (option_map (λ j. b + j) p)) q
in_first true a b n p q = refl
in_first false a b n p q = behind_step b n p q

place_end : (c : ℕ) (rs ss : List Run) → place_of c (rs ++ ss) ≡ or_behind (how_many rs) (place_of c rs) (place_of c ss)
place_end c [] ss = none_added (place_of c ss)
place_end c (r ∷ rs) ss = ap (λ p. cond (is_in_run c r) (Some (c - r.first)) (option_map (λ j. r.last + 1 - r.first + j) p)) (place_end c rs ss) ∙
    in_first (is_in_run c r) (c - r.first) (r.last + 1 - r.first) (how_many rs) (place_of c rs) (place_of c ss)

pub same_more : (rs ss ts : List Run) (r : Run) → SameCharacters rs ss → SameCharacters ts (rs ++ r ∷ []) → SameCharacters ts (ss ++ r ∷ [])
same_more rs ss ts r h k = record {
  many = k.many ∙ many_more rs ss r h.many;
  greatest = k.greatest ∙ largest_end rs r ∙ sym (largest_end ss r);
  places = λ c. k.places c ∙ place_end c rs (r ∷ []) ∙ ap (λ n. or_behind n (place_of c rs) (place_of c (r ∷ []))) h.many ∙
      ap (λ p. or_behind (how_many ss) p (place_of c (r ∷ []))) (h.places c) ∙ sym (place_end c ss (r ∷ []));
}

-- ---- characters that a test leaves
pub map_end : (cs : List ℕ) (c : ℕ) → singles (cs ++ c ∷ []) ≡ singles cs ++ run c c ∷ []
map_end [] c = refl
map_end (d ∷ cs) c = ap (λ rs. run d d ∷ rs) (map_end cs c)

filter_end : (test : ℕ → Bool) (cs : List ℕ) (c : ℕ) → filter test (cs ++ c ∷ []) ≡ cond (test c) (filter test cs ++ c ∷ []) (filter test cs)
filter_end test [] c = refl
filter_end test (d ∷ cs) c = ap (λ l. cond (test d) (d ∷ l) l) (filter_end test cs c) ∙ go (test d) (test c)
  where
    go : (x y : Bool) → cond x (d ∷ cond y (filter test cs ++ c ∷ []) (filter test cs)) (cond y (filter test cs ++ c ∷ []) (filter test cs))
        ≡ cond y (cond x (d ∷ filter test cs) (filter test cs) ++ c ∷ []) (cond x (d ∷ filter test cs) (filter test cs))
    go true true = refl
    go true false = refl
    go false true = refl
    go false false = refl

pub filter_more : (test : ℕ → Bool) (cs : List ℕ) (i c : ℕ) → i < length cs → c ≡ get_or cs i 0 → test c ≡ true → filter test (take (i + 1) cs) ≡ filter test (take i cs) ++ c ∷ []
filter_more test cs i c h e t =
    ap (filter test) (take_more cs i 0 h) ∙ filter_end test (take i cs) (get_or cs i 0) ∙
    ap (λ d. cond (test d) (filter test (take i cs) ++ d ∷ []) (filter test (take i cs))) (sym e) ∙ ap (λ b. cond b (filter test (take i cs) ++ c ∷ []) (filter test (take i cs))) t

pub filter_same : (test : ℕ → Bool) (cs : List ℕ) (i c : ℕ) → i < length cs → c ≡ get_or cs i 0 → test c ≡ false → filter test (take (i + 1) cs) ≡ filter test (take i cs)
filter_same test cs i c h e t =
    ap (filter test) (take_more cs i 0 h) ∙ filter_end test (take i cs) (get_or cs i 0) ∙
    ap (λ d. cond (test d) (filter test (take i cs) ++ d ∷ []) (filter test (take i cs))) (sym e) ∙ ap (λ b. cond b (filter test (take i cs) ++ c ∷ []) (filter test (take i cs))) t

left_end : (test : ℕ → Bool) (cs : List ℕ) (i d : ℕ) → i < length cs → singles (filter test (take (i + 1) cs))
    ≡ cond (test (get_or cs i d)) (singles (filter test (take i cs)) ++ run (get_or cs i d) (get_or cs i d) ∷ []) (singles (filter test (take i cs)))
left_end test cs i d h = ap (λ l. singles (filter test l)) (take_more cs i d h) ∙ ap singles (filter_end test (take i cs) (get_or cs i d)) ∙ go (test (get_or cs i d))
  where
    go : (x : Bool) → singles (cond x (filter test (take i cs) ++ get_or cs i d ∷ []) (filter test (take i cs)))
        ≡ cond x (singles (filter test (take i cs)) ++ run (get_or cs i d) (get_or cs i d) ∷ []) (singles (filter test (take i cs)))
    go true = map_end (filter test (take i cs)) (get_or cs i d)
    go false = refl

pub one_kept : (test : ℕ → Bool) (cs : List ℕ) (i c : ℕ) (rs ts : List Run) → i < length cs → c ≡ get_or cs i 0 → test c ≡ true →
    SameCharacters rs (singles (filter test (take i cs))) → SameCharacters ts (rs ++ run c c ∷ []) → SameCharacters ts (singles (filter test (take (i + 1) cs)))
one_kept test cs i c rs ts h e t k l =
    let x : singles (filter test (take (i + 1) cs)) ≡ singles (filter test (take i cs)) ++ run c c ∷ [] = left_end test cs i 0 h ∙
    ap (λ d. cond (test d) (singles (filter test (take i cs)) ++ run d d ∷ []) (singles (filter test (take i cs)))) (sym e) ∙
    ap (λ b. cond b (singles (filter test (take i cs)) ++ run c c ∷ []) (singles (filter test (take i cs)))) t in
    rw x (same_more rs (singles (filter test (take i cs))) ts (run c c) k l)

pub one_left : (test : ℕ → Bool) (cs : List ℕ) (i c : ℕ) (rs : List Run) → i < length cs → c ≡ get_or cs i 0 → test c ≡ false →
    SameCharacters rs (singles (filter test (take i cs))) → SameCharacters rs (singles (filter test (take (i + 1) cs)))
one_left test cs i c rs h e t k =
    let x : singles (filter test (take (i + 1) cs)) ≡ singles (filter test (take i cs)) = left_end test cs i 0 h ∙
    ap (λ d. cond (test d) (singles (filter test (take i cs)) ++ run d d ∷ []) (singles (filter test (take i cs)))) (sym e) ∙
    ap (λ b. cond b (singles (filter test (take i cs)) ++ run c c ∷ []) (singles (filter test (take i cs)))) t in
    rw x k

pub few_left : (test : ℕ → Bool) (cs : List ℕ) (rs : List Run) → SameCharacters rs (singles (filter test cs)) → how_many rs ≤ length cs
few_left test cs rs k = let m = k.many in let n = fewer cs in omega arith
  where
    step : (b : Bool) (c : ℕ) (l : List ℕ) (n : ℕ) → how_many (singles l) ≤ n → how_many (singles (cond b (c ∷ l) l)) ≤ suc n
    step true c l n h = omega arith
    step false c l n h = omega arith

    fewer : (cs : List ℕ) → how_many (singles (filter test cs)) ≤ length cs
    fewer [] = omega arith
    fewer (c ∷ cs) = step (test c) c (filter test cs) (length cs) (fewer cs)

pub all_taken : (cs : List ℕ) (i : ℕ) → length cs ≤ i → take i cs ≡ cs
all_taken [] zero h = refl
all_taken [] (suc i) h = refl
all_taken (c ∷ cs) zero h = absurd (omega arith)
all_taken (c ∷ cs) (suc i) h = ap (λ l. c ∷ l) (all_taken cs i (omega arith))
