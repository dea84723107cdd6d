-- Elements of SEQUENCE OF and SET OF in two versions of a type, and pairs of alternatives.
use Rattle.std.proofs.Common.{◌≡◌, ℕ, zero, suc, Bool, true, false, cond, ◌||◌, List, [], ◌∷◌, map, Option, Some, None, refl, ap, sym, subst, inl, inr, ◌⊎◌}
use Rattle.std.specs.Prelude.{ℤ}
use Rattle.asn1_model.specs.Value.{Value, item, members, bag, fields, chosen, Values, no_more, member, Parts, end}
use Rattle.asn1_model.specs.Schema.{Counts, Size, Schema, enumerated, sequence_of, set_of, sequence, set, group, choice, Components, Alternatives, alternative}
use Rattle.asn1_model.specs.Form.{Form, pick, arranged}
use Rattle.std.specs.Prelude.{is_some}
use Rattle.asn1_model.specs.Normal.{item_place}
use Rattle.asn1_model.specs.Versions.{carried, grow, carried_alternative, map_each}
use Rattle.asn1_model.proofs.Forms.{map_parts}
use Rattle.asn1_laws_values.proofs.Arranged.{arranged_parts, some_parts}
use Rattle.asn1_laws_values.proofs.Covers.{CoversEach}
use Rattle.asn1_laws_values.proofs.Listed.{listed}
use Rattle.asn1_laws_fronts.proofs.Fronts.{Agree, Pairwise, agree_map, agree_turned}
use Rattle.asn1_laws_versions.proofs.Taken.{as_written, covers_written}
use Rattle.asn1_laws_versions.proofs.Parts.{There, there_map, there_chain, there_both, Carried, PartsCarried}

-- ---- what holds for each element
abbrev pub Each : (Value → Type 0) → List Value → Type 0
Each P [] = Unit {0}
Each P (x ∷ xs) = P x × Each P xs

each_picked : (P : Value → Type 0) (i : ℕ) (xs : List Value) (x : Value) (rest : List Value) → pick i xs ≡ Some (x, rest) → P x → Each P rest → Each P xs
each_picked P i [] x rest e h k = tt
each_picked P zero (z ∷ xs) x rest e h k =
    let u : Value × List Value = (z, xs) in
    let v : Value × List Value = (x, rest) in
    let g : u ≡ v = some_parts e in
    (subst (λ z. P z) (sym (ap (λ (p : Value × List Value). p.0) g)) h, subst (λ l. Each P l) (sym (ap (λ (p : Value × List Value). p.1) g)) k)
each_picked P (suc i) (z ∷ xs) x rest e h k =
    let q = map_parts (pick i xs) (λ (p : Value × List Value). (p.0, z ∷ p.1)) (x, rest) e in
    let n : Each P (z ∷ q.0.1) = subst (λ l. Each P l) (sym (ap (λ (p : Value × List Value). p.1) q.2)) k in
    (n.0, each_picked P i xs q.0.0 q.0.1 q.1 (subst (λ z. P z) (sym (ap (λ (p : Value × List Value). p.0) q.2)) h) n.1)

-- for each in any order
pub each_arranged : (P : Value → Type 0) (is : List ℕ) (xs zs : List Value) → arranged is xs ≡ Some zs → Each P zs → Each P xs
each_arranged P [] [] zs e h = tt
each_arranged P [] (x ∷ xs) zs e h = cc
each_arranged P (i ∷ is) xs zs e h =
    let q = arranged_parts i is xs zs e in
    let n : Each P (q.0 ∷ q.2) = subst (λ l. Each P l) (sym q.5) h in
    each_picked P i xs q.0 q.1 q.3 n.0 (each_arranged P is q.1 q.2 q.4 n.1)

pub each_first : (R : Value → Value → Type 0) (P : Value → Type 0) (xs ys : List Value) → ((x y : Value) → R x y → P x) → Pairwise R xs ys → Each P xs
each_first R P [] [] f h = tt
each_first R P [] (y ∷ ys) f h = tt
each_first R P (x ∷ xs) [] f h = absurd h
each_first R P (x ∷ xs) (y ∷ ys) f h = (f x y h.0, each_first R P xs ys f h.1)

pub each_second : (R : Value → Value → Type 0) (P : Value → Type 0) (xs ys : List Value) → ((x y : Value) → R x y → P y) → Pairwise R xs ys → Each P ys
each_second R P [] [] f h = tt
each_second R P [] (y ∷ ys) f h = absurd h
each_second R P (x ∷ xs) [] f h = tt
each_second R P (x ∷ xs) (y ∷ ys) f h = (f x y h.0, each_second R P xs ys f h.1)

each_there : (g : Value → Option Value) (vs : Values) → Each (λ v. There (g v)) (listed vs) → There (map_each g vs)
each_there g no_more h = (no_more, refl)
each_there g (member v vs) h = there_chain (g v) _ h.0 (λ w. there_map (λ ws. member w ws) _ (each_there g vs h.1))

-- each element can be carried over
pub members_carried : (m : Bool) (z z' : Size) (c c' : Counts) (s s' : Schema) (us vs : Values) →
    Each (λ v. There (carried false s s' v)) (listed vs) → (m ≡ true → Each (λ x. There (grow s s' x)) (listed us)) → Carried m (sequence_of z c s) (sequence_of z' c' s') (members us) (members vs)
unfolding carried
members_carried m z z' c c' s s' us vs h k = (there_map members _ (each_there _ vs h), λ q. there_map members _ (each_there _ us (k q)))

pub bags_carried : (m : Bool) (z z' : Size) (c c' : Counts) (s s' : Schema) (us vs : Values) →
    Each (λ v. There (carried false s s' v)) (listed vs) → (m ≡ true → Each (λ x. There (grow s s' x)) (listed us)) → Carried m (set_of z c s) (set_of z' c' s') (bag us) (bag vs)
unfolding carried
bags_carried m z z' c c' s s' us vs h k = (there_map bag _ (each_there _ vs h), λ q. there_map bag _ (each_there _ us (k q)))

-- ---- elements of the older version and of the newer one, in one type
abbrev pub Both : Type 0
Both = Value ⊎ Value

abbrev pub older : List Value → List Both
older [] = []
older (x ∷ xs) = inl x ∷ older xs

abbrev pub newer : List Value → List Both
newer [] = []
newer (x ∷ xs) = inr x ∷ newer xs

abbrev pub Related : (Value → Value → Type 0) → Both → Both → Type 0
Related R (inl x) (inr y) = R x y
Related R a b = Unit {0}

pub related_pairs : (R : Value → Value → Type 0) (xs ys : List Value) → Pairwise (λ a b. Related R a b) (older xs) (newer ys) → Pairwise R xs ys
related_pairs R [] [] h = tt
related_pairs R [] (y ∷ ys) h = absurd h
related_pairs R (x ∷ xs) [] h = absurd h
related_pairs R (x ∷ xs) (y ∷ ys) h = (h.0, related_pairs R xs ys h.1)

module _ (F : Type 0) (D : F → Type 0) (A : Type 0) (free : F → Bool) where
  abbrev pub form_of : (Value → Form F D A) → (Value → Form F D A) → Both → Form F D A
  form_of g h (inl x) = g x
  form_of g h (inr y) = h y

  pub older_forms : (g h : Value → Form F D A) (xs : List Value) → map (form_of g h) (older xs) ≡ map g xs
  older_forms g h [] = refl
  older_forms g h (x ∷ xs) = ap (λ l. g x ∷ l) (older_forms g h xs)

  pub newer_forms : (g h : Value → Form F D A) (xs : List Value) → map (form_of g h) (newer xs) ≡ map h xs
  newer_forms g h [] = refl
  newer_forms g h (x ∷ xs) = ap (λ l. h x ∷ l) (newer_forms g h xs)

  pub related_alike : (g h : Value → Form F D A) (R : Value → Value → Type 0) →
      ((x y : Value) → Agree {F = F} {D = D} {A = A} free (g x) (g y) (Unit {0})) →
      ((x y : Value) → Agree {F = F} {D = D} {A = A} free (h x) (h y) (Unit {0})) →
      ((x y : Value) → Agree {F = F} {D = D} {A = A} free (g x) (h y) (R x y)) → (a b : Both) → Agree {F = F} {D = D} {A = A} free (form_of g h a) (form_of g h b) (Related R a b)
  related_alike g h R i j k (inl x) (inl y) = i x y
  related_alike g h R i j k (inl x) (inr y) = k x y
  related_alike g h R i j k (inr x) (inl y) = agree_map free (λ q. tt) (agree_turned free (k y x))
  related_alike g h R i j k (inr x) (inr y) = j x y

  pub each_written : (g : Value → Form F D A) (xs : List Value) → CoversEach free (map g xs) (map (λ x. as_written free (g x)) xs)
  each_written g [] = tt
  each_written g (x ∷ xs) = (covers_written free (g x), each_written g xs)

-- ---- alternatives in pairs
abbrev pub EachPairOf : (Schema → Schema → Type 0) → Alternatives → Alternatives → Type 0
EachPairOf Q (alternative t s others) (alternative t' s' others') = Q s s' × EachPairOf Q others others'
EachPairOf Q others others' = Unit {0}

abbrev pub AlternativeCarried : Bool → Alternatives → Alternatives → ℕ → Value → Value → Type 0
AlternativeCarried m others others' i x v = There (carried_alternative false others others' i v) × (m ≡ true → There (carried_alternative true others others' i x))

-- ---- what is put together can be carried over
pub fields_carried : (m : Bool) (cs cs' : Components) (e e' : Bool) (adds adds' : Components) (ps qs rs ss : Parts) →
    PartsCarried m cs cs' ps rs × PartsCarried m adds adds' qs ss → Carried m (sequence cs e adds) (sequence cs' e' adds') (fields ps qs) (fields rs ss)
unfolding carried
fields_carried m cs cs' e e' adds adds' ps qs rs ss q = (there_both _ _ q.0.0 q.1.0, λ t. there_both _ _ (q.0.1 t) (q.1.1 t))

pub set_carried : (m : Bool) (cs cs' : Components) (e e' : Bool) (adds adds' : Components) (ps qs rs ss : Parts) →
    PartsCarried m cs cs' ps rs × PartsCarried m adds adds' qs ss → Carried m (set cs e adds) (set cs' e' adds') (fields ps qs) (fields rs ss)
unfolding carried
set_carried m cs cs' e e' adds adds' ps qs rs ss q = (there_both _ _ q.0.0 q.1.0, λ t. there_both _ _ (q.0.1 t) (q.1.1 t))

pub group_carried : (m : Bool) (cs cs' : Components) (ps rs : Parts) → PartsCarried m cs cs' ps rs → Carried m (group cs) (group cs') (fields ps end) (fields rs end)
unfolding carried
group_carried m cs cs' ps rs q = (there_both _ _ q.0 (end, refl), λ t. there_both _ _ (q.1 t) (end, refl))

item_there : (b : Bool) (v : Value) → b ≡ true → There (cond b (Some v) None)
item_there true v e = (v, refl)
item_there false v e = cc

pub item_carried : (m : Bool) (roots adds adds' : List ℤ) (e : Bool) (n k : ℤ) →
    (is_some (item_place k roots) || is_some (item_place k adds)) ≡ true → Carried m (enumerated roots e adds) (enumerated roots e adds') (item n) (item k)
unfolding carried
item_carried m roots adds adds' e n k h = (item_there _ (item k) h, λ q. (item n, refl))

pub chosen_carried : (m : Bool) (roots roots' adds adds' : Alternatives) (e e' : Bool) (i j : ℕ) (x v : Value) → i ≡ j →
    AlternativeCarried m roots roots' i x v → Carried m (choice roots e adds) (choice roots' e' adds') (chosen false i x) (chosen false j v)
unfolding carried
chosen_carried m roots roots' adds adds' e e' i j x v n q =
    (there_map (λ w. chosen false j w) _ (subst (λ k. There (carried_alternative false roots roots' k v)) n q.0), λ t. there_map (λ w. chosen false i w) _ (q.1 t))

pub chosen_added_carried : (m : Bool) (roots roots' adds adds' : Alternatives) (e e' : Bool) (i j : ℕ) (x v : Value) → i ≡ j →
    AlternativeCarried m adds adds' i x v → Carried m (choice roots e adds) (choice roots' e' adds') (chosen true i x) (chosen true j v)
unfolding carried
chosen_added_carried m roots roots' adds adds' e e' i j x v n q =
    (there_map (λ w. chosen true j w) _ (subst (λ k. There (carried_alternative false adds adds' k v)) n q.0), λ t. there_map (λ w. chosen true i w) _ (q.1 t))
