-- Tests of a table, entry by entry.
use Rattle.std.proofs.Common.{◌≡◌, ◌∙◌, refl, sym, ap, ℕ, zero, suc, ◌+◌, ◌≤◌, ◌<◌, List, [], ◌∷◌, ◌++◌, Bool, true, false, ◌&&◌, length, map, drop, get_or, arith}
use Rattle.std.proofs.lemmas.List.{length-map}
use Rattle.asn1_model.specs.Schema.{Tag as ModelTag}
use Rattle.asn1_model.specs.Lawful.{tag_less}
use Rattle.asn1_schema_tags.specs.Tags.{tag_of}
use Rattle.std.specs.List.{list_all}
use Rattle.asn1_schema_tags.specs.Places.{ascends, looked_up, stands_at, is_place_there, are_listed, is_table_of}
use Rattle.asn1_schema_tags.specs.declared.probes.TagPlace.{TagPlace}
use Rattle.asn1_schema_tags.specs.declared.tags.Tag.{Tag}

-- A table ascends from an index on if that entry is less than the next, and the table ascends from the next one on.
ascends_from : (ps : List TagPlace) (i : ℕ) (d : TagPlace) → suc i < length ps
    → ascends (drop i ps) ≡ (tag_less (tag_of (get_or ps i d).tag) (tag_of (get_or ps (suc i) d).tag) && ascends (drop (suc i) ps))
ascends_from [] i d h = absurd (omega arith)
ascends_from (p ∷ []) zero d h = absurd (omega arith)
ascends_from (p ∷ q ∷ ps) zero d h = refl
ascends_from (p ∷ ps) (suc i) d h = ascends_from ps i d (omega (arith, h))

pub ascends_at : (ps : List TagPlace) (i j : ℕ) (d : TagPlace) → suc i ≡ j → j < length ps
    → ascends (drop i ps) ≡ (tag_less (tag_of (get_or ps i d).tag) (tag_of (get_or ps j d).tag) && ascends (drop j ps))
ascends_at ps i j d e h =
    ascends_from ps i d (omega (arith, e, h))
    ∙ ap (λ k. tag_less (tag_of (get_or ps i d).tag) (tag_of (get_or ps k d).tag) && ascends (drop k ps)) e

-- From the last entry on a table ascends.
pub ascends_last : (ps : List TagPlace) (i : ℕ) → length ps ≤ i + 1 → ascends (drop i ps) ≡ true
ascends_last [] zero h = refl
ascends_last [] (suc i) h = refl
ascends_last (p ∷ []) zero h = refl
ascends_last (p ∷ q ∷ ps) zero h = absurd (omega arith)
ascends_last (p ∷ ps) (suc i) h = ascends_last ps i (omega (arith, h))

-- Tags are listed from one on if it is listed, and the others after it are.
listed_from : (ps : List TagPlace) (n : ℕ) (ts : List Tag) (i : ℕ) (d : Tag) → i < length ts
    → are_listed ps n (map tag_of (drop i ts)) ≡ (is_place_there (looked_up ps (tag_of (get_or ts i d))) n && are_listed ps (n + 1) (map tag_of (drop (suc i) ts)))
listed_from ps n [] i d h = absurd (omega arith)
listed_from ps n (t ∷ ts) zero d h = refl
listed_from ps n (t ∷ ts) (suc i) d h = listed_from ps n ts i d (omega (arith, h))

pub listed_at : (ps : List TagPlace) (n : ℕ) (ts : List Tag) (i : ℕ) (d : Tag) → i < length ts
    → are_listed ps n (map tag_of (drop i ts)) ≡ (is_place_there (looked_up ps (tag_of (get_or ts i d))) n && are_listed ps (n + 1) (map tag_of (drop (i + 1) ts)))
listed_at ps n ts i d h =
    let e : suc i ≡ i + 1 = omega arith in
    listed_from ps n ts i d h
    ∙ ap (λ k. is_place_there (looked_up ps (tag_of (get_or ts i d))) n && are_listed ps (n + 1) (map tag_of (drop k ts))) e

and_assoc : (a b c : Bool) → (a && (b && c)) ≡ ((a && b) && c)
and_assoc true b c = refl
and_assoc false b c = refl

-- Consecutive tags are listed if the first ones are, and then the others.
pub listed_in_turn : (ps : List TagPlace) (n : ℕ) (ts us : List ModelTag) → are_listed ps n (ts ++ us) ≡ (are_listed ps n ts && are_listed ps (n + length ts) us)
listed_in_turn ps n [] us = let e : n ≡ n + 0 = omega arith in ap (λ k. are_listed ps k us) e
listed_in_turn ps n (t ∷ ts) us =
    let e : n + 1 + length ts ≡ n + length (t ∷ ts) = omega arith in
    ap (λ b. is_place_there (looked_up ps t) n && b) (listed_in_turn ps (n + 1) ts us ∙ ap (λ k. are_listed ps (n + 1) ts && are_listed ps k us) e)
    ∙ and_assoc (is_place_there (looked_up ps t) n) (are_listed ps (n + 1) ts) (are_listed ps (n + length (t ∷ ts)) us)

-- A table that ascends, and whose tags are at their indices, is the one of root and added tags if both are listed.
pub table_parts : (ps : List TagPlace) (ts us : List Tag) {a b : Bool} → a ≡ ascends ps → a ≡ true
    → b ≡ list_all (stands_at (map tag_of ts ++ map tag_of us)) ps → b ≡ true
    → is_table_of ps (map tag_of ts ++ map tag_of us) ≡ (are_listed ps 0 (map tag_of ts) && are_listed ps (length ts) (map tag_of us))
table_parts ps ts us e f g h =
    let all : List ModelTag = map tag_of ts ++ map tag_of us in
    let n : 0 + length (map tag_of ts) ≡ length ts = omega (arith, length-map ts tag_of) in
    ap (λ x. x && list_all (stands_at all) ps && are_listed ps 0 all) (sym e ∙ f)
    ∙ (ap (λ x. x && are_listed ps 0 all) (sym g ∙ h)
    ∙ (listed_in_turn ps 0 (map tag_of ts) (map tag_of us)
    ∙ ap (λ k. are_listed ps 0 (map tag_of ts) && are_listed ps k (map tag_of us)) n))
