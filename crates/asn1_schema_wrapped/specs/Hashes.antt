-- The hash of a SET OF value does not depend on the order of its elements: it is that of their number and of the sum of
-- their hashes.
use Rattle.std.proofs.Common.{◌≡◌, ℕ, ◌+◌, suc, Bool, true, false, cond, List, [], ◌∷◌, ◌++◌, length}
use Rattle.std.proofs.Common.{Option, Some, None}
use Rattle.std.proofs.Common.{option_map, refl, sym, ap, ◌∙◌, arith}
use Rattle.std.proofs.Math.Nat.{mod-add-mod}
use Rattle.std.specs.Prelude.{◌%◌, ◌^◌}
use Rattle.std.specs.Cmp.{IsEquivalence, partial_equiv_from_equiv}
use Rattle.std.specs.Hash.{HashWrites, usize, u64}
use Rattle.std.specs.Hash.DefaultHasher.{initial, write, finish, wrapping_add}
use Rattle.std.specs.List.{fold}
use Rattle.asn1_schema_wrapped.specs.Equality.{times, same_items, same_length, all_alike}
use Rattle.asn1_schema_wrapped.specs.Meaning.{without, left_counts, none_left, taken_off}

-- The hash of one element, by a separate hasher (SipHash-1-3 with the keys 0).
abbrev pub own_hash : HashWrites → ℕ
own_hash ws = finish (fold write initial ws)

-- The sum of this number and the hashes of all elements, modulo 2 ^ 64.
abbrev pub hash_sum : {A : Type 0} → (A → HashWrites) → ℕ → List A → ℕ
hash_sum f n [] = n
hash_sum f n (x ∷ xs) = hash_sum f (wrapping_add n (own_hash (f x))) xs

-- What the hash of a SET OF value writes to a hasher.
abbrev pub bag_hash : {A : Type 0} → (A → HashWrites) → List A → HashWrites
bag_hash f xs = usize (length xs) ++ u64 (hash_sum f 0 xs)

exchanged : (n a b : ℕ) → wrapping_add (wrapping_add n a) b ≡ wrapping_add (wrapping_add n b) a
exchanged n a b =
    mod-add-mod (n + a) (2 ^ 64) b
    ∙ ap (λ k. k % 2 ^ 64) (let s : (n + a) + b ≡ (n + b) + a = omega (arith) in s)
    ∙ sym (mod-add-mod (n + b) (2 ^ 64) a)

module _ {A : Type 0} {e : A → A → Bool} (f : A → HashWrites) (h : (x y : A) → e x y ≡ true → f x ≡ f y) where
  -- The hash of any element may be added first.
  moved : (x : A) (n : ℕ) (ys zs : List A) → without e x ys ≡ Some zs
      → hash_sum f n ys ≡ hash_sum f (wrapping_add n (own_hash (f x))) zs
  moved x n [] zs q = absurd (let k : None ≡ Some zs = q in cc)
  moved x n (y ∷ ys) zs q =
      let step : (b : Bool) (o : Option (List A)) → e x y ≡ b → without e x ys ≡ o
      → cond b (Some ys) (option_map (λ us. y ∷ us) o) ≡ Some zs
      → hash_sum f (wrapping_add n (own_hash (f y))) ys ≡ hash_sum f (wrapping_add n (own_hash (f x))) zs =
      λ b o. elim b as (λ b. e x y ≡ b → without e x ys ≡ o → cond b (Some ys) (option_map (λ us. y ∷ us) o) ≡ Some zs
      → hash_sum f (wrapping_add n (own_hash (f y))) ys ≡ hash_sum f (wrapping_add n (own_hash (f x))) zs) [
        | true ↦ λ i j k.
            let l : ys ≡ zs = cc k in
            ap (λ us. hash_sum f (wrapping_add n (own_hash (f y))) us) l
            ∙ ap (λ ws. hash_sum f (wrapping_add n (own_hash ws)) zs) (sym (h x y i))
        | false ↦ elim o as (λ o. e x y ≡ false → without e x ys ≡ o → option_map (λ us. y ∷ us) o ≡ Some zs
            → hash_sum f (wrapping_add n (own_hash (f y))) ys ≡ hash_sum f (wrapping_add n (own_hash (f x))) zs) [
              | None ↦ λ i j k. absurd (let l : None ≡ Some zs = k in cc)
              | Some us ↦ λ i j k.
                  let l : y ∷ us ≡ zs = cc k in
                  moved x (wrapping_add n (own_hash (f y))) ys us j
                  ∙ ap (λ m. hash_sum f m us) (exchanged n (own_hash (f y)) (own_hash (f x)))
                  ∙ ap (λ vs. hash_sum f (wrapping_add n (own_hash (f x))) vs) l
            ]
      ] in
      step (e x y) (without e x ys) refl refl q

  module _ (p : IsEquivalence e) where
    same_sums : (n : ℕ) (xs ys : List A) → length xs ≡ length ys → ((w : A) → times e w xs ≡ times e w ys)
        → hash_sum f n xs ≡ hash_sum f n ys
    same_sums n [] [] l t = refl
    same_sums n [] (y ∷ ys) l t = absurd (omega (arith, l))
    same_sums n (x ∷ xs) ys l t =
        let step : (o : Option (List A)) → without e x ys ≡ o
        → hash_sum f (wrapping_add n (own_hash (f x))) xs ≡ hash_sum f n ys =
        λ o. elim o as (λ o. without e x ys ≡ o
        → hash_sum f (wrapping_add n (own_hash (f x))) xs ≡ hash_sum f n ys) [
          | None ↦ λ k. absurd (let a = none_left (partial_equiv_from_equiv p) x ys k in let b : suc (times e x xs)
              ≡ times e x ys = rw (p.refl x) at (t x) in omega (arith, a, b))
          | Some zs ↦ λ k.
              let r = left_counts (partial_equiv_from_equiv p) x ys zs k in
              same_sums (wrapping_add n (own_hash (f x))) xs zs (let a = r.0 in omega (arith, a, l))
              (λ w. taken_off (e w x) (times e w xs) (times e w zs) (t w ∙ r.1 w))
              ∙ sym (moved x n ys zs k)
        ] in
        step (without e x ys) refl

    -- Equal SET OF values write the same to a hasher.
    pub same_hash : (xs ys : List A) → same_items e xs ys ≡ true → bag_hash f xs ≡ bag_hash f ys
    same_hash xs ys q =
        let l = same_length e xs ys q in
        let s = same_sums 0 xs ys l (all_alike (partial_equiv_from_equiv p) xs ys q) in
        rw (l, s) refl
