-- Field-lists in sequence.
use Rattle.std.proofs.Common.{◌≡◌, ℕ, suc, ◌+◌, Bool, List, [], ◌∷◌, ◌++◌, length, Option, Some, None, option_map, option_and_then, refl, ap, sym, ◌∙◌, append_assoc, length-append, arith}
use Rattle.asn1_model.specs.Form.{exactly, refused, both, placed, varied, within, written}
use Rattle.asn1_model.specs.Per
use Rattle.per_codec_packing.specs.FieldLists.{FieldList, bit, as_field_list, plain, moved, on, field_list_at}

pub chain_same : {X Y : Type 0} (o : Option X) (f g : X → Option Y) → ((x : X) → f x ≡ g x) → option_and_then f o ≡ option_and_then g o
chain_same None f g h = refl
chain_same (Some x) f g h = h x

pub none_behind : {X Y : Type 0} (o : Option X) → option_and_then {U = Y} (λ (x : X). None) o ≡ None
none_behind None = refl
none_behind (Some x) = refl

-- a step after a step
pub in_turn : {X Y Z : Type 0} (o : Option X) (f : X → Option Y) (g : Y → Option Z) → option_and_then g (option_and_then f o) ≡ option_and_then (λ x. option_and_then g (f x)) o
in_turn None f g = refl
in_turn (Some x) f g = refl

-- two field-lists in sequence
pub two_field_lists : {S : Type 0} (o : Option FieldList) (q : FieldList → Option FieldList) (os : FieldList) (f : FieldList → Option S) →
    option_and_then (λ a. option_and_then (λ b. f ((os ++ a) ++ b)) (q a)) o ≡ option_and_then (λ w. f (os ++ w)) (option_and_then (λ a. option_map (λ b. a ++ b) (q a)) o)
two_field_lists None q os f = refl
two_field_lists (Some a) q os f = go (q a)
  where
    go : (r : Option FieldList) → option_and_then (λ b. f ((os ++ a) ++ b)) r ≡ option_and_then (λ w. f (os ++ w)) (option_map (λ b. a ++ b) r)
    go None = refl
    go (Some b) = ap f (append_assoc os a b)

-- ---- positions

pub moved_twice : (q : Option ℕ) (a b : ℕ) → moved (moved q a) b ≡ moved q (a + b)
moved_twice None a b = refl
moved_twice (Some p) a b = let e : p + a + b ≡ p + (a + b) = omega arith in ap Some e

-- the position after a field-list
pub behind : (q : Option ℕ) (os a : FieldList) → on q (os ++ a) ≡ on (on q os) a
behind q os a = ap (moved q) (length-append os a) ∙ sym (moved_twice q (length os) (length a))

pub behind_nothing : (q : Option ℕ) → q ≡ on q []
behind_nothing None = refl
behind_nothing (Some p) = let e : p ≡ p + 0 = omega arith in ap Some e

pub length-field_list : (l : List Bool) → length (as_field_list l) ≡ length l
length-field_list [] = refl
length-field_list (b ∷ l) = ap suc (length-field_list l)

-- three field-lists in sequence, in either grouping
pub both_assoc : (x y z : Per.BitForm) (q : Option ℕ) → field_list_at (both (both x y) z) q ≡ field_list_at (both x (both y z)) q
unfolding field_list_at
both_assoc x y z q = outer (field_list_at x q)
  where
    inner : (a : FieldList) (o : Option FieldList) → option_and_then (λ c. option_map (λ b. c ++ b) (field_list_at z (on q c)))
        (option_map (λ b. a ++ b) o) ≡ option_map (λ b. a ++ b) (option_and_then (λ c. option_map (λ b. c ++ b) (field_list_at z (on (on q a) c))) o)
    inner a None = refl
    inner a (Some c) = ap (λ n. option_map (λ b. (a ++ c) ++ b) (field_list_at z n)) (behind q a c) ∙ go (field_list_at z (on (on q a) c))
      where
        go : (o : Option FieldList) → option_map (λ b. (a ++ c) ++ b) o ≡ option_map (λ b. a ++ b) (option_map (λ b. c ++ b) o)
        go None = refl
        go (Some d) = ap Some (append_assoc a c d)

    outer : (o : Option FieldList) → option_and_then (λ c. option_map (λ b. c ++ b) (field_list_at z (on q c)))
        (option_and_then (λ a. option_map (λ b. a ++ b) (field_list_at y (on q a))) o) ≡ option_and_then
        (λ a. option_map (λ b. a ++ b) (option_and_then (λ c. option_map (λ b. c ++ b) (field_list_at z (on (on q a) c))) (field_list_at y (on q a)))) o
    outer None = refl
    outer (Some a) = inner a (field_list_at y (on q a))

-- ---- known positions

pub as_field_list-append : (l m : List Bool) → as_field_list l ++ as_field_list m ≡ as_field_list (l ++ m)
as_field_list-append [] m = refl
as_field_list-append (b ∷ l) m = ap (λ t. bit b ∷ t) (as_field_list-append l m)

pub plain_field_list : (l : List Bool) → plain (as_field_list l) ≡ Some l
plain_field_list [] = refl
plain_field_list (b ∷ l) = ap (option_map (λ m. b ∷ m)) (plain_field_list l)

-- if the position is known, the field-list is that of the definitions
pub known : (x : Per.BitForm) (p : ℕ) → field_list_at x (Some p) ≡ option_map as_field_list (written x p)
unfolding field_list_at written
known (exactly l) p = refl
known refused p = refl
known (both x y) p = ap (option_and_then (λ a. option_map (λ b. a ++ b) (field_list_at y (on (Some p) a)))) (known x p) ∙ go (written x p) (λ n. known y n)
  where
    ends : (a : List Bool) (o : Option (List Bool)) → option_map (λ b. as_field_list a ++ b) (option_map as_field_list o) ≡ option_map as_field_list (option_map (λ b. a ++ b) o)
    ends a None = refl
    ends a (Some b) = ap Some (as_field_list-append a b)

    go : (o : Option (List Bool)) → ((n : ℕ) → field_list_at y (Some n) ≡ option_map as_field_list (written y n)) →
        option_and_then (λ a. option_map (λ b. a ++ b) (field_list_at y (on (Some p) a))) (option_map as_field_list o)
        ≡ option_map as_field_list (option_and_then (λ a. option_map (λ b. a ++ b) (written y (p + length a))) o)
    go None h = refl
    go (Some a) h = ap (λ n. option_map (λ b. as_field_list a ++ b) (field_list_at y (Some (p + n)))) (length-field_list a) ∙
        ap (option_map (λ b. as_field_list a ++ b)) (h (p + length a)) ∙ ends a (written y (p + length a))
known (placed f) p = known (f p) p
known (varied c d f) p = known (f d) p
known (within x f) p = go (written x 0) (λ w. known (f w) p)
  where
    go : (o : Option (List Bool)) → ((w : List Bool) → field_list_at (f w) (Some p) ≡ option_map as_field_list (written (f w) p)) →
        option_and_then (λ w. field_list_at (f w) (Some p)) o ≡ option_map as_field_list (option_and_then (λ w. written (f w) p) o)
    go None h = refl
    go (Some w) h = h w

pub bits_of : (x : Per.BitForm) (p : ℕ) → written x p ≡ option_and_then plain (field_list_at x (Some p))
bits_of x p = go (written x p) ∙ ap (option_and_then plain) (sym (known x p))
  where
    go : (o : Option (List Bool)) → o ≡ option_and_then plain (option_map as_field_list o)
    go None = refl
    go (Some l) = sym (plain_field_list l)
