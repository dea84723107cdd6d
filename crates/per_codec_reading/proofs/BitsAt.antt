-- Bits at a position of a list.
use Rattle.std.proofs.Common.{◌≡◌, ℕ, zero, suc, ◌+◌, Bool, List, [], ◌∷◌, drop, Some, None, slice_get, refl, ap, ◌∙◌}
use Rattle.std.proofs.lemmas.List.{drop_more}
use Rattle.std.proofs.lemmas.Option.{slice_get_within, get_or_from_slice_get}

pub bit_at : (bs : List Bool) (n : ℕ) (b : Bool) → slice_get bs n ≡ Some b → drop n bs ≡ b ∷ drop (n + 1) bs
bit_at bs n b h = drop_more bs n b (slice_get_within bs n b h) ∙ ap (λ x. x ∷ drop (n + 1) bs) (get_or_from_slice_get bs n b b h)

pub no_bit_at : (bs : List Bool) (n : ℕ) → slice_get bs n ≡ None → drop n bs ≡ []
no_bit_at [] zero h = refl
no_bit_at [] (suc n) h = refl
no_bit_at (b ∷ bs) zero h = cc
no_bit_at (b ∷ bs) (suc n) h = no_bit_at bs n h
