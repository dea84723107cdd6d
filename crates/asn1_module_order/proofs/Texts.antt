-- Loops over the words of a command line and the values of options.
use Rattle.std.proofs.Common.{◌≡◌, ◌∙◌, ◌<◌, ◌≤◌, ◌+◌, ℕ, zero, suc, Bool, false, ◌||◌, List, [], ◌∷◌, ◌++◌, length, map, drop, get_or, slice_index_or}
use Rattle.std.proofs.Common.{refl, sym, ap, ap₂, add-one, append_assoc, arith}
use Rattle.std.proofs.lemmas.List.{append-nil, map-append}
use Rattle.std.specs.Borrow.{Bor}
use Rattle.std.specs.List.{list_any}
use Rattle.std.specs.Global.{Global}
use Rattle.std.specs.Prelude.{String, string_bytes}
use Rattle.clap.specs.Walk.{Text, texts}

-- whether a word that is left passes, by the next one
pub any_left : {X : Type 0} (p : Text → Bool) (text : X → Text) (xs : List X) (i : ℕ) (x : X) → i < length xs → x ≡ get_or xs i x
    → list_any p (map text (drop i xs)) ≡ (p (text x) || list_any p (map text (drop (suc i) xs)))
any_left p text [] i x h e = absurd (omega (arith, h))
any_left p text (y ∷ ys) zero x h e = ap (λ z. p (text z) || list_any p (map text ys)) (sym e)
any_left p text (y ∷ ys) (suc i) x h e = any_left p text ys i x (omega (arith, h)) e

pub any_end : {X : Type 0} (p : Text → Bool) (text : X → Text) (xs : List X) (i : ℕ) → length xs ≤ i → list_any p (map text (drop i xs)) ≡ false
any_end p text [] zero h = refl
any_end p text [] (suc i) h = refl
any_end p text (y ∷ ys) zero h = absurd (omega (arith, h))
any_end p text (y ∷ ys) (suc i) h = any_end p text ys i (omega (arith, h))

texts_left : (names : List (Bor Text)) (i : ℕ) (d : Bor Text) → i < length names → drop i (texts names) ≡ (slice_index_or names i d).now ∷ drop (suc i) (texts names)
texts_left [] i d h = absurd (omega (arith, h))
texts_left (name ∷ names) zero d h = refl
texts_left (name ∷ names) (suc i) d h = texts_left names i d (omega (arith, h))

texts_end : (names : List (Bor Text)) (i : ℕ) → length names ≤ i → drop i (texts names) ≡ []
texts_end [] zero h = refl
texts_end [] (suc i) h = refl
texts_end (name ∷ names) zero h = absurd (omega (arith, h))
texts_end (name ∷ names) (suc i) h = texts_end names i (omega (arith, h))

abbrev pub bytes_of : List (String Global) → List Text
bytes_of = map string_bytes

-- copies so far, and the texts that are left
module _ (names : List (Bor Text)) (i : ℕ) (done : List (String Global)) (whole : bytes_of done ++ drop i (texts names) ≡ texts names) where
  pub one_more_copy : (d : Bor Text) (s : String Global) (longer : List (String Global)) → i < length names → string_bytes s ≡ (slice_index_or names i d).now → longer ≡ done ++ s ∷ []
      → bytes_of longer ++ drop (i + 1) (texts names) ≡ texts names
  one_more_copy d s longer within same more =
      ap₂ (λ x k. bytes_of x ++ drop k (texts names)) more (add-one i)
      ∙ ap (λ x. x ++ drop (suc i) (texts names)) (map-append string_bytes done (s ∷ []))
      ∙ append_assoc (bytes_of done) (string_bytes s ∷ []) (drop (suc i) (texts names))
      ∙ ap (λ x. bytes_of done ++ x) (ap (λ t. t ∷ drop (suc i) (texts names)) same ∙ sym (texts_left names i d within))
      ∙ whole

  pub all_copies : length names ≤ i → bytes_of done ≡ texts names
  all_copies h = sym (append-nil (bytes_of done)) ∙ ap (λ l. bytes_of done ++ l) (sym (texts_end names i h)) ∙ whole
