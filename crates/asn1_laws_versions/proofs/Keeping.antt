-- What one version of a type keeps of the other, whatever the rules: presence bits, counts, places of items, bitmaps.
use Rattle.std.specs.Prelude.{ℤ}
use Rattle.std.proofs.Common.{◌≡◌, ℕ, zero, suc, ◌+◌, ltb, not, Bool, true, false, cond, ◌&&◌, ◌||◌, List, [], ◌∷◌}
use Rattle.std.proofs.Common.{◌++◌, length, take, drop, map, Option, Some, None, option_map, refl, ap, sym, ◌∙◌, arith}
use Rattle.std.proofs.lemmas.List.{append-nil}
use Rattle.std.proofs.lemmas.Bool.{lt-ltb}
use Rattle.asn1_model.specs.Value.{Value, same_number, Parts, end, absent, present}
use Rattle.asn1_model.specs.Schema.{Tag, Presence, required, optional, by_default, Schema, Components, no_component, component, Alternatives, no_alternative, alternative}
use Rattle.asn1_model.specs.Normal.{presence_bits, presence_bit_unless, is_required, alternative_count, item_place}
use Rattle.asn1_model.specs.Form.{is_any_present, covered_by}
use Rattle.asn1_model.specs.Versions.{carried, grow, carried_parts, all_absent, Begins, KeepsPresence, ExtendsEach, ExtendsAlternatives}
use Rattle.asn1_model.proofs.Forms.{chain_parts, map_parts}
use Rattle.asn1_laws_values.proofs.Messages.{some_parts}

-- ---- what an extension keeps
pub kept_required : (s s' : Schema) (o o' : Presence) → KeepsPresence s s' o o' → is_required o' ≡ is_required o
kept_required s s' required required h = refl
kept_required s s' optional optional h = refl
kept_required s s' (by_default d) (by_default d') h = refl
kept_required s s' o o' h = absurd h

bits_present : (t : List Tag) (o : Presence) (s : Schema) (cs : Components) (v : Value) (ps : Parts) →
    presence_bits (component t o s cs) (present v ps) ≡ presence_bit_unless (is_required o) true (presence_bits cs ps)
bits_present t required s cs v ps = refl
bits_present t optional s cs v ps = refl
bits_present t (by_default d) s cs v ps = refl

bits_absent : (t : List Tag) (o : Presence) (s : Schema) (cs : Components) (ps : Parts) →
    presence_bits (component t o s cs) (absent ps) ≡ presence_bit_unless (is_required o) false (presence_bits cs ps)
bits_absent t required s cs ps = refl
bits_absent t optional s cs ps = refl
bits_absent t (by_default d) s cs ps = refl

pub bits_kept : (newer : Bool) (cs cs' : Components) (ps qs : Parts) → ExtendsEach false cs cs' →
    carried_parts newer cs cs' ps ≡ Some qs → presence_bits (cond newer cs cs') ps ≡ presence_bits (cond newer cs' cs) qs
unfolding ExtendsEach carried_parts
bits_kept true no_component no_component ps qs h e = refl
bits_kept false no_component no_component ps qs h e = refl
bits_kept newer no_component (component t' o' s' cs') ps qs h e = absurd h
bits_kept newer (component t o s cs) no_component ps qs h e = absurd h
bits_kept newer (component t o s cs) (component t' o' s' cs') end qs h e = cc
bits_kept true (component t o s cs) (component t' o' s' cs') (present v ps) qs h e =
    let a = chain_parts (grow s s' v) (λ w. option_map (λ rs. present w rs) (carried_parts true cs cs' ps)) qs e in
    let b = map_parts (carried_parts true cs cs' ps) (λ rs. present a.0 rs) qs a.2 in
    bits_present t o s cs v ps ∙ ap (λ r. presence_bit_unless r true (presence_bits cs ps)) (sym (kept_required s s' o o' h.1))
    ∙ ap (λ l. presence_bit_unless (is_required o') true l) (bits_kept true cs cs' ps b.0 h.3 b.1)
    ∙ sym (bits_present t' o' s' cs' a.0 b.0) ∙ ap (λ l. presence_bits (component t' o' s' cs') l) b.2
bits_kept false (component t o s cs) (component t' o' s' cs') (present v ps) qs h e =
    let a = chain_parts (carried false s s' v) (λ w. option_map (λ rs. present w rs) (carried_parts false cs cs' ps)) qs e in
    let b = map_parts (carried_parts false cs cs' ps) (λ rs. present a.0 rs) qs a.2 in
    bits_present t' o' s' cs' v ps ∙ ap (λ r. presence_bit_unless r true (presence_bits cs' ps)) (kept_required s s' o o' h.1)
    ∙ ap (λ l. presence_bit_unless (is_required o) true l) (bits_kept false cs cs' ps b.0 h.3 b.1)
    ∙ sym (bits_present t o s cs a.0 b.0) ∙ ap (λ l. presence_bits (component t o s cs) l) b.2
bits_kept true (component t o s cs) (component t' o' s' cs') (absent ps) qs h e =
    let b = map_parts (carried_parts true cs cs' ps) absent qs e in
    bits_absent t o s cs ps ∙ ap (λ r. presence_bit_unless r false (presence_bits cs ps)) (sym (kept_required s s' o o' h.1))
    ∙ ap (λ l. presence_bit_unless (is_required o') false l) (bits_kept true cs cs' ps b.0 h.3 b.1)
    ∙ sym (bits_absent t' o' s' cs' b.0) ∙ ap (λ l. presence_bits (component t' o' s' cs') l) b.2
bits_kept false (component t o s cs) (component t' o' s' cs') (absent ps) qs h e =
    let b = map_parts (carried_parts false cs cs' ps) absent qs e in
    bits_absent t' o' s' cs' ps ∙ ap (λ r. presence_bit_unless r false (presence_bits cs' ps)) (kept_required s s' o o' h.1)
    ∙ ap (λ l. presence_bit_unless (is_required o) false l) (bits_kept false cs cs' ps b.0 h.3 b.1)
    ∙ sym (bits_absent t o s cs b.0) ∙ ap (λ l. presence_bits (component t o s cs) l) b.2

pub count_kept : (others others' : Alternatives) → ExtendsAlternatives false others others' → alternative_count others' ≡ alternative_count others
unfolding ExtendsAlternatives
count_kept no_alternative no_alternative h = refl
count_kept no_alternative (alternative t' s' others') h = absurd h
count_kept (alternative t s others) no_alternative h = absurd h
count_kept (alternative t s others) (alternative t' s' others') h = ap (λ n. n + 1) (count_kept others others' h.2)

place_next : (b : Bool) (o p : Option ℕ) (j : ℕ) → ((i : ℕ) → o ≡ Some i → p ≡ Some i) →
    cond b (Some zero) (option_map suc o) ≡ Some j → cond b (Some zero) (option_map suc p) ≡ Some j
place_next true o p j h e = e
place_next false o p j h e = let q = map_parts o suc j e in ap (option_map suc) (h q.0 q.1) ∙ ap Some q.2

-- an item that the older version has, the newer one has
pub place_kept : (n : ℤ) (ds es : List ℤ) (j : ℕ) → item_place n ds ≡ Some j → item_place n (ds ++ es) ≡ Some j
place_kept n [] es j e = cc
place_kept n (d ∷ ds) es j e =
    place_next (same_number n d) (item_place n ds) (item_place n (ds ++ es)) j (λ i h. place_kept n ds es i h) e

pub place_begins : (n : ℤ) (ds es : List ℤ) (i : ℕ) → Begins ds es → item_place n ds ≡ Some i → item_place n es ≡ Some i
place_begins n ds es i b e = ap (item_place n) (sym b.1) ∙ place_kept n ds b.0 i e

pub item_known : (b : Bool) (v u : Value) → cond b (Some v) None ≡ Some u → v ≡ u
item_known true v u e = some_parts e
item_known false v u e = cc

-- ---- values in parts
-- where one is absent, it is not required
pub unless_required : {X : Type 0} (b : Bool) (o : Option X) (x : X) → cond b None o ≡ Some x → (b ≡ false) × (o ≡ Some x)
unless_required true o x e = cc
unless_required false o x e = (refl, e)

pub absent_parts : (cs : Components) (qs : Parts) (o : Presence) (t : List Tag) (s : Schema) → all_absent (component t o s cs) ≡ Some qs →
    (is_required o ≡ false) × ((ps : Parts) × (all_absent cs ≡ Some ps) × (absent ps ≡ qs))
absent_parts cs qs required t s e = cc
absent_parts cs qs optional t s e = (refl, map_parts (all_absent cs) absent qs e)
absent_parts cs qs (by_default d) t s e = (refl, map_parts (all_absent cs) absent qs e)

-- ---- bitmaps
none_left : {X : Type 0} (xs : List (Option X)) → is_any_present (drop (length xs) xs) ≡ false
none_left [] = refl
none_left (x ∷ xs) = none_left xs

pub take_all : {X : Type 0} (xs : List X) → take (length xs) xs ≡ xs
take_all [] = refl
take_all (x ∷ xs) = ap (λ l. x ∷ l) (take_all xs)

below_next : (n : ℕ) → ltb n (n + 1) ≡ true
below_next n = lt-ltb n (n + 1) (omega arith)

-- one that covers all that the type has
pub covered_all : {X : Type 0} (f : List ℕ → X) (xs : List (Option X)) (fs : List (Option (List ℕ))) →
    covered_by f (record { covered = length xs; further = fs }) xs ≡ Some (xs ++ map (option_map f) fs)
covered_all f xs fs = rw (none_left xs, below_next (length xs), take_all xs) refl

narrow_cases : {X : Type 0} (b c : Bool) (l : X) → b ≡ false → cond (not b && (c || true)) (Some l) None ≡ Some l
narrow_cases true c l e = cc
narrow_cases false true l e = refl
narrow_cases false false l e = refl

-- one that covers the first, where the others are absent
pub narrow : {X : Type 0} (f : List ℕ → X) (n : ℕ) (xs : List (Option X)) → is_any_present (drop n xs) ≡ false →
    covered_by f (record { covered = n; further = [] }) xs ≡ Some (take n xs)
narrow f n xs e =
    narrow_cases (is_any_present (drop n xs)) (ltb (length xs) (n + 1)) (take n xs ++ []) e ∙ ap Some (append-nil (take n xs))

pub not_true : (a : Bool) → not a ≡ true → a ≡ false
not_true true e = sym e
not_true false e = refl
