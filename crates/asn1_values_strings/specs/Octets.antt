-- Runs of characters below a limit.
use Rattle.std.specs.Prelude.{refl, ◌≡◌, ℕ, ◌<◌, ltb, leb, Bool, true, false, ◌&&◌, ◌||◌, List, [], ◌∷◌}
use Rattle.std.proofs.Common.{arith}
use Rattle.std.proofs.lemmas.Bool.{ltb-true, leb-true}
use Rattle.asn1_model.specs.Strings.{Run, is_among}

-- whether each run ends below the limit
abbrev pub end_below : ℕ → List Run → Bool
end_below n [] = true
end_below n (r ∷ rs) = ltb r.last n && end_below n rs

among_below : (n c : ℕ) (rs : List Run) → end_below n rs ≡ true → is_among rs c ≡ true → c < n
among_below n c [] e h = cc
among_below n c (r ∷ rs) e h = by_test (ltb r.last n) (leb r.first c) (leb c r.last) refl refl e h
    (λ f i. among_below n c rs f i)
  where
    by_test : (t u v : Bool) → ltb r.last n ≡ t → leb c r.last ≡ v → t && end_below n rs ≡ true
        → (u && v) || is_among rs c ≡ true → (end_below n rs ≡ true → is_among rs c ≡ true → c < n) → c < n
    by_test false u v p q e h f = cc
    by_test true true true p q e h f = let a = ltb-true r.last n p in let b = leb-true c r.last q in omega arith
    by_test true false v p q e h f = f e h
    by_test true true false p q e h f = f e h

pub octet_among : (rs : List Run) → end_below 256 rs ≡ true → (c : ℕ) → is_among rs c ≡ true → c < 256
octet_among rs e c h = among_below 256 c rs e h

pub ascii_among : (rs : List Run) → end_below 128 rs ≡ true → (c : ℕ) → is_among rs c ≡ true → c < 128
ascii_among rs e c h = among_below 128 c rs e h
