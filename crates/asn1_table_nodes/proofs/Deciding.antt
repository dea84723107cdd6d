-- Answers that hold at every number of levels, put together.
use Rattle.std.proofs.Common.{◌≡◌, ◌∙◌, refl, ap, subst, ℕ, zero, suc, Bool, true, false, ◌&&◌}
use Rattle.std.proofs.lemmas.Bool.{and_from}
use Rattle.std.proofs.Math.Bool.{and-false}
use Rattle.asn1_table_nodes.specs.Defaults.{AtSome, Decides}

-- where the first holds, the second decides
pub second_decides : (f g : ℕ → Bool) (b : Bool) → Decides f true → Decides g b → Decides (λ n. f n && g n) b
second_decides f g true h k = λ n. and_from _ _ (h n) (k n)
second_decides f g false h k = record { levels = k.levels; told = ap (λ x. f k.levels && x) k.told ∙ and-false (f k.levels) }

-- where the first fails, both do
pub first_fails : (f g : ℕ → Bool) → AtSome f false → AtSome (λ n. f n && g n) false
first_fails f g h = record { levels = h.levels; told = ap (λ x. x && g h.levels) h.told }

-- one level further down, and above it nothing
pub decides_below : (f g : ℕ → Bool) (b : Bool) → f zero ≡ true → ((n : ℕ) → f (suc n) ≡ g n) → Decides g b → Decides f b
decides_below f g true z s h = go where
  go : (n : ℕ) → f n ≡ true
  go zero = z
  go (suc n) = s n ∙ h n
decides_below f g false z s h = record { levels = suc h.levels; told = s h.levels ∙ h.told }

-- the same under other names
pub decides_by : (f g : ℕ → Bool) (b : Bool) → ((n : ℕ) → f n ≡ g n) → Decides g b → Decides f b
decides_by f g true e h = λ n. e n ∙ h n
decides_by f g false e h = record { levels = h.levels; told = e h.levels ∙ h.told }

pub decides_at : (f : ℕ → Bool) (a b : Bool) → a ≡ b → Decides f a → Decides f b
decides_at f a b e h = let D : Bool → Type 0 = λ c. Decides f c in subst D e h

-- what does not depend on the levels
pub constant : (b : Bool) → Decides (λ n. b) b
constant true = λ n. refl
constant false = record { levels = 0; told = refl }

-- both of two, and the second where the first does not depend on the levels
pub both_decide : (f g : ℕ → Bool) (a b : Bool) → Decides f a → Decides g b → Decides (λ n. f n && g n) (a && b)
both_decide f g true b h k = second_decides f g b h k
both_decide f g false b h k = first_fails f g h

pub kept_decides : (c : Bool) (f : ℕ → Bool) (b : Bool) → Decides f b → Decides (λ n. c && f n) (c && b)
kept_decides true f b h = h
kept_decides false f b h = record { levels = 0; told = refl }
