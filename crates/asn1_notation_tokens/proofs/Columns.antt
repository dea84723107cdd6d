-- Lines and columns, an octet further.
use Rattle.std.proofs.Common.{◌≡◌, ◌+◌, ◌<◌, ◌∙◌, ℕ, true, false, not, ◌==◌, List, [], ◌∷◌, length, take, reverse, get_or, ap, cond, arith}
use Rattle.std.specs.List.{count_by, take_while}
use Rattle.std.proofs.lemmas.Bool.{eq-eqb, ne_eqb}
use Rattle.std.proofs.lemmas.List.{take_more, reverse-append}
use Rattle.std.proofs.lemmas.List.Sums.{count_by_more_no, count_by_more_yes, take_while-cons, sum_by-cons}
use Rattle.asn1_notation_tokens.specs.Positions.{line_at, column_at, begins_character}

-- the octets before an index, the last one first
reverse-take : (xs : List ℕ) (i : ℕ) → i < length xs → reverse (take (i + 1) xs) ≡ get_or xs i 0 ∷ reverse (take i xs)
reverse-take xs i h = ap reverse (take_more xs i 0 h) ∙ reverse-append (take i xs) (get_or xs i 0 ∷ [])

-- those of the line of an index
abbrev line_before : List ℕ → ℕ → List ℕ
line_before xs i = take_while (λ c. not (c == 10)) (reverse (take i xs))

line_before-more : (xs : List ℕ) (i : ℕ) → i < length xs → line_before xs (i + 1) ≡ cond (not (get_or xs i 0 == 10)) (get_or xs i 0 ∷ line_before xs i) []
line_before-more xs i h = ap (take_while (λ c. not (c == 10))) (reverse-take xs i h) ∙ take_while-cons (λ c. not (c == 10)) (get_or xs i 0) (reverse (take i xs))

line_before-same : (xs : List ℕ) (i : ℕ) → i < length xs → (get_or xs i 0 == 10) ≡ false → line_before xs (i + 1) ≡ get_or xs i 0 ∷ line_before xs i
line_before-same xs i h e = line_before-more xs i h ∙ ap (λ b. cond (not b) (get_or xs i 0 ∷ line_before xs i) []) e

-- after a line feed
pub column-line_feed : (xs : List ℕ) (i : ℕ) → i < length xs → get_or xs i 0 ≡ 10 → column_at xs (i + 1) ≡ 1
column-line_feed xs i h e = ap (λ cs. 1 + count_by begins_character cs) (line_before-more xs i h ∙ ap (λ b. cond (not b) (get_or xs i 0 ∷ line_before xs i) []) (eq-eqb _ 10 e))

-- after another octet
column-other : (xs : List ℕ) (i : ℕ) → i < length xs → (get_or xs i 0 ≡ 10 → ⊥) → column_at xs (i + 1) ≡ cond (begins_character (get_or xs i 0)) 1 0 + column_at xs i
column-other xs i h e =
    let more : column_at xs (i + 1) ≡ 1 + count_by begins_character (get_or xs i 0 ∷ line_before xs i) = ap (λ cs. 1 + count_by begins_character cs) (line_before-same xs i h (ne_eqb _ 10 e)) in
    let one : count_by begins_character (get_or xs i 0 ∷ line_before xs i) ≡ cond (begins_character (get_or xs i 0)) 1 0 + count_by begins_character (line_before xs i) = sum_by-cons (λ c. cond (begins_character c) 1 0) (get_or xs i 0) (line_before xs i) in
    omega (arith, more, one)

-- lines
pub line-line_feed : (xs : List ℕ) (i : ℕ) → i < length xs → get_or xs i 0 ≡ 10 → line_at xs (i + 1) ≡ line_at xs i + 1
line-line_feed xs i h e = let n = count_by_more_yes (λ c. c == 10) xs i 0 h (eq-eqb _ 10 e) in omega (arith, n)

pub line-other : (xs : List ℕ) (i : ℕ) → i < length xs → (get_or xs i 0 ≡ 10 → ⊥) → line_at xs (i + 1) ≡ line_at xs i
line-other xs i h e = ap (λ n. 1 + n) (count_by_more_no (λ c. c == 10) xs i 0 h (ne_eqb _ 10 e))

-- an octet that begins a character, and another one
pub column-character : (xs : List ℕ) (i : ℕ) → i < length xs → (get_or xs i 0 ≡ 10 → ⊥) → begins_character (get_or xs i 0) ≡ true → column_at xs (i + 1) ≡ column_at xs i + 1
column-character xs i h e t =
    let n : column_at xs (i + 1) ≡ 1 + column_at xs i = column-other xs i h e ∙ ap (λ b. cond b 1 0 + column_at xs i) t in
    omega (arith, n)

pub column-inside : (xs : List ℕ) (i : ℕ) → i < length xs → (get_or xs i 0 ≡ 10 → ⊥) → begins_character (get_or xs i 0) ≡ false → column_at xs (i + 1) ≡ column_at xs i
column-inside xs i h e t =
    let n : column_at xs (i + 1) ≡ 0 + column_at xs i = column-other xs i h e ∙ ap (λ b. cond b 1 0 + column_at xs i) t in
    omega (arith, n)
