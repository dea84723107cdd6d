-- Characters that are one run.
use Rattle.std.proofs.Common.{◌≡◌, ℕ, zero, suc, ◌+◌, ◌-◌, ◌<◌, ◌≤◌, ltb, Bool, true, false, ◌||◌, List, [], ◌∷◌, length, filter, get_or, refl, ap, sym, ◌∙◌, arith}
use Rattle.std.specs.List.{All, range_with_len}
use Rattle.std.proofs.lemmas.Bool.{and_from, ltb-true, ltb-false, le-leb}
use Rattle.std.proofs.lemmas.List.{append-nil}
use Rattle.std.proofs.lemmas.List.Sorted.{IsPermutation-refl}
use Rattle.asn1_model.specs.Schema.{StringKind}
use Rattle.asn1_model.specs.Strings.{characters_of, is_among, is_in_run}
use Rattle.per_codec_alphabets.specs.Codes.{run_of, runs_of, kept, AreKept}
use Rattle.per_codec_alphabets.specs.Listed.{each_of, all_of, HasSome}
use Rattle.per_codec_alphabets.specs.declared.runs.CharacterRun.{CharacterRun}
use Rattle.per_codec_alphabets.proofs.Listed.{same_in_order}

-- what one of several runs has, all of them have
pub among_at : (rs : List CharacterRun) (i c : ℕ) (d : CharacterRun) → i < length rs → (get_or rs i d).first ≤ c → c ≤ (get_or rs i d).last → is_among (runs_of rs) c ≡ true
among_at [] i c d l p q = absurd (omega arith)
among_at (r ∷ rs) zero c d l p q = rw (le-leb r.first c p, le-leb c r.last q) refl
among_at (r ∷ rs) (suc i) c d l p q = rw (among_at rs i c d (omega arith) p q) (either (is_in_run c (run_of r)))
  where
    either : (b : Bool) → b || true ≡ true
    either true = refl
    either false = refl

-- numbers that all pass a test are kept
all_kept : (test : ℕ → Bool) (a n : ℕ) → ((c : ℕ) → a ≤ c → c < a + n → test c ≡ true) → filter test (range_with_len a n) ≡ range_with_len a n
all_kept test a zero h = refl
all_kept test a (suc n) h = rw (h a (omega arith) (omega arith)) (ap (λ l. a ∷ l) (all_kept test (a + 1) n (λ c p q. h c (omega arith) (omega arith))))

-- those of one run that a kind has
pub single_kept : (k : StringKind) (r : CharacterRun) (cs : List ℕ) → r.first ≤ r.last → cs ≡ each_of (run_of r) →
    ((c : ℕ) → r.first ≤ c → c ≤ r.last → is_among (characters_of k) c ≡ true) → AreKept k cs (run_of r ∷ [])
single_kept k r cs some e h =
    let all : kept k cs ≡ all_of (runs_of (r ∷ [])) = ap (kept k) e ∙
    all_kept (is_among (characters_of k)) r.first (r.last + 1 - r.first) (λ c p q. h c p (omega arith)) ∙ sym (append-nil (each_of (run_of r))) in
    rw all (same_in_order (r ∷ []) (r ∷ []) (IsPermutation-refl (r ∷ [])) has_some (and_from _ _ (le-leb 0 r.first (omega arith)) refl))
  where
    has_some : All HasSome (r ∷ [])
    has_some zero d l = some
    has_some (suc j) d l = absurd (omega arith)

-- one more of consecutive numbers
pub each_more : (cs : List ℕ) (a i : ℕ) → ((j : ℕ) → j < i → get_or cs j 0 ≡ a + j) → get_or cs i 0 ≡ a + i → (j : ℕ) → j < i + 1 → get_or cs j 0 ≡ a + j
each_more cs a i h e j l = go (ltb j i) refl
  where
    go : (b : Bool) → ltb j i ≡ b → get_or cs j 0 ≡ a + j
    go true p = h j (ltb-true j i p)
    go false p = let q = ltb-false j i p in let s : j ≡ i = omega arith in rw s e
