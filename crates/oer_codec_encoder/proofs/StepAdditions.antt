-- Additions: each is an open type after its length determinant, with a bitmap before all of them.
use Rattle.std.proofs.Common.{◌≡◌, ℕ, suc, ◌+◌, ltb, take, drop, arith, Bool, true, false, cond, List, [], ◌∷◌, ◌++◌}
use Rattle.std.proofs.Common.{length, map, Option, Some, None, option_map, option_and_then, refl, ap, sym, ◌∙◌}
use Rattle.std.proofs.Common.{append_assoc}
use Rattle.std.proofs.lemmas.List.{append-nil}
use Rattle.asn1_model.specs.Value.{Value, fields, Parts, end, absent, present}
use Rattle.asn1_model.specs.Schema.{Tag, Presence, Schema, sequence, set, Components, no_component, component}
use Rattle.asn1_model.specs.Normal.{is_at_default, is_group_left_out}
use Rattle.asn1_model.specs.Normal.{is_required, presence_bits}
use Rattle.std.proofs.lemmas.Bool.{lt-ltb}
use Rattle.asn1_model.specs.Form.{exactly, refused, both, given, joined, is_any_present, present_ones, covered_by, written}
use Rattle.std.specs.Prelude.{is_some}
use Rattle.asn1_model.specs.Oer
use Rattle.asn1_schema_laws.specs.Records.{Record, additions_begin, addition, addition_ends, is_default, is_empty, mismatch}
use Rattle.asn1_schema_laws.specs.Presents.{presents, added_records, component_count, root_records, optional_count, behind_root}
use Rattle.asn1_schema_reading_laws.specs.PresenceBits.{is_any_set}
use Rattle.oer_codec_encoder.specs.Steps.{Scope, components, added, open_type, State, runs, adds_text, with_added}
use Rattle.oer_codec_encoder.proofs.Still.{OctetsStill, still_both, counted_still, counted_bits_still}
use Rattle.oer_codec_encoder.specs.Ties.{BridgesAt, Bridges}
use Rattle.oer_codec_encoder.proofs.Bridge.{EachBridges, chain_same, none_behind, two_steps, one_text, noted_by, spelled_by, root, closed_off, preamble_octets}

-- the texts of additions, each alone
abbrev pub texts_of : List (Option Oer.OctetForm) → Option (List (Option (List ℕ)))
texts_of [] = Some []
texts_of (None ∷ xs) = option_map (λ us. None ∷ us) (texts_of xs)
texts_of (Some x ∷ xs) = option_and_then (λ w. option_map (λ us. Some w ∷ us) (texts_of xs)) (written x 0)

-- what the end of the sequence adds
abbrev pub closing : List Bool → List ℕ → List (Option (List ℕ)) → Option (List ℕ)
closing ms r us = written (Oer.sequence_form true ms (exactly r) (map (λ o. option_map (λ w. exactly w) o) us)) 0

-- an addition that is present
abbrev pub opened : Option (List ℕ) → Option (List ℕ)
opened o = option_and_then (λ w. written (Oer.counted w) 0) o

pub open_text : (x : Oer.OctetForm) → written (Oer.open_type x) 0 ≡ opened (written x 0)
unfolding written Oer.open_type
open_text x = chain_same (written x 0) (λ w. written (Oer.counted (w ++ [])) 0) (λ w. written (Oer.counted w) 0) (λ w. ap (λ l. written (Oer.counted l) 0) (append-nil w))

-- ---- the form of the whole, by the texts of the additions

drop_all : {X : Type 0} (xs : List X) → drop (length xs) xs ≡ []
drop_all [] = refl
drop_all (x ∷ xs) = drop_all xs

take_all : {X : Type 0} (xs : List X) → take (length xs) xs ≡ xs
take_all [] = refl
take_all (x ∷ xs) = ap (λ l. x ∷ l) (take_all xs)

all_covered : {X : Type 0} (unknown : List ℕ → X) (xs : List (Option X)) → covered_by unknown (record { covered = length xs; further = [] }) xs ≡ Some xs
all_covered unknown xs =
    let d = drop_all xs in
    let t = take_all xs in
    let l : ltb (length xs) (length xs + 1) ≡ true = lt-ltb _ _ (omega arith) in
    rw (d, l, t) (ap Some (append-nil xs))

own : (ms : List Bool) (x : Oer.OctetForm) (xs : List (Option Oer.OctetForm)) (p : ℕ) → written (Oer.sequence_form true ms x xs) p
    ≡ cond (is_any_present xs) (written (Oer.with_additions ms x xs) p) (written (both (Oer.preamble (false ∷ ms)) x) p)
unfolding written Oer.sequence_form Oer.bitmapped
own ms x xs p = go (is_any_present xs) refl
  where
    go : (t : Bool) → is_any_present xs ≡ t → written (Oer.bitmapped ms x xs (cond t (Some (record { covered = length xs; further = [] })) None)) p
        ≡ cond t (written (Oer.with_additions ms x xs) p) (written (both (Oer.preamble (false ∷ ms)) x) p)
    go false e = rw e refl
    go true e = let c = all_covered Oer.counted xs in rw (c, e) refl

abbrev as_forms : List (Option (List ℕ)) → List (Option Oer.OctetForm)
as_forms us = map (λ o. option_map (λ w. exactly w) o) us

-- which additions are present
abbrev told : List (Option (List ℕ)) → List Bool
told us = map (λ o. is_some o) us

abbrev pub EachStill : List (Option Oer.OctetForm) → Type 0
EachStill [] = Unit {0}
EachStill (None ∷ xs) = EachStill xs
EachStill (Some x ∷ xs) = OctetsStill x × EachStill xs

abbrev texts_joined : List (Option (List ℕ)) → List ℕ
texts_joined [] = []
texts_joined (None ∷ us) = texts_joined us
texts_joined (Some w ∷ us) = w ++ texts_joined us

joined_exactly : (us : List (Option (List ℕ))) (p : ℕ) → written (joined (present_ones (as_forms us))) p ≡ Some (texts_joined us)
unfolding written
joined_exactly [] p = refl
joined_exactly (None ∷ us) p = joined_exactly us p
joined_exactly (Some w ∷ us) p = ap (λ o. option_map (λ b. w ++ b) o) (joined_exactly us (p + length w))

-- what the texts have in common with the forms
record Alike (xs : List (Option Oer.OctetForm)) (us : List (Option (List ℕ))) : Type 0 where
  any : is_any_present xs ≡ is_any_present (as_forms us)
  bits : map (λ a. is_some a) xs ≡ map (λ a. is_some a) (as_forms us)
  text : (p : ℕ) → written (joined (present_ones xs)) p ≡ Some (texts_joined us)

alike : (xs : List (Option Oer.OctetForm)) (us : List (Option (List ℕ))) → EachStill xs → texts_of xs ≡ Some us → Alike xs us
unfolding written
alike [] us h e = let z : us ≡ [] = cc in rw z (record { any = refl; bits = refl; text = λ p. refl })
alike (None ∷ xs) us h e = go (λ vs f. alike xs vs h f) (texts_of xs) refl e
  where
    go : ((vs : List (Option (List ℕ))) → texts_of xs ≡ Some vs → Alike xs vs) → (t : Option (List (Option (List ℕ)))) → texts_of xs ≡ t →
        option_map (λ us. None ∷ us) t ≡ Some us → Alike (None ∷ xs) us
    go again None f g = cc
    go again (Some vs) f g = let z : us ≡ None ∷ vs = cc in let a = again vs f in rw z (record { any = a.any; bits = ap (λ l. false ∷ l) a.bits; text = a.text })
alike (Some x ∷ xs) us h e = go (λ vs f. alike xs vs h.1 f) (written x 0) refl (texts_of xs) refl e
  where
    go : ((vs : List (Option (List ℕ))) → texts_of xs ≡ Some vs → Alike xs vs) → (o : Option (List ℕ)) → written x 0 ≡ o →
        (t : Option (List (Option (List ℕ)))) → texts_of xs ≡ t → option_and_then (λ w. option_map (λ us. Some w ∷ us) t) o ≡ Some us → Alike (Some x ∷ xs) us
    go again None d t f g = cc
    go again (Some w) d None f g = cc
    go again (Some w) d (Some vs) f g =
        let z : us ≡ Some w ∷ vs = cc in
        let a = again vs f in
        rw z (record {
          any = refl;
          bits = ap (λ l. true ∷ l) a.bits;
          text = λ p. ap (λ o. option_and_then (λ a. option_map (λ b. a ++ b) (written (joined (present_ones xs)) (p + length a))) o) (h.0.at p ∙ d) ∙
              ap (λ o. option_map (λ b. w ++ b) o) (a.text (p + length w));
        })

-- the preamble, the root, the bitmap and the additions
sum : (ms : List Bool) (x : Oer.OctetForm) (bs : List Bool) (j : Oer.OctetForm) (all : List ℕ) → OctetsStill x → ((p : ℕ) → written j p ≡ Some all) →
    (p : ℕ) → written (both (Oer.preamble (true ∷ ms)) (both x (both (Oer.counted_bits bs) j))) p
    ≡ option_and_then (λ r. option_map (λ c. preamble_octets (true ∷ ms) ++ (r ++ (c ++ all))) (written (Oer.counted_bits bs) 0)) (written x 0)
unfolding written
sum ms x bs j all hx hj p =
    ap (λ o. option_map (λ b. preamble_octets (true ∷ ms) ++ b)
    (option_and_then (λ r. option_map (λ b. r ++ b)
    (option_and_then (λ c. option_map (λ b. c ++ b) (written j (p + length (preamble_octets (true ∷ ms)) + length r + length c)))
    (written (Oer.counted_bits bs) (p + length (preamble_octets (true ∷ ms)) + length r)))) o)) (hx.at (p + length (preamble_octets (true ∷ ms)))) ∙ go (written x 0)
  where
    inner : (r : List ℕ) (o : Option (List ℕ)) → option_map (λ b. preamble_octets (true ∷ ms) ++ b)
        (option_map (λ b. r ++ b)
        (option_and_then (λ c. option_map (λ b. c ++ b) (written j (p + length (preamble_octets (true ∷ ms)) + length r + length c))) o))
        ≡ option_map (λ c. preamble_octets (true ∷ ms) ++ (r ++ (c ++ all))) o
    inner r None = refl
    inner r (Some c) = ap (λ o. option_map (λ b. preamble_octets (true ∷ ms) ++ b) (option_map (λ b. r ++ b) (option_map (λ b. c ++ b) o)))
        (hj (p + length (preamble_octets (true ∷ ms)) + length r + length c))

    go : (o : Option (List ℕ)) → option_map (λ b. preamble_octets (true ∷ ms) ++ b)
        (option_and_then (λ r. option_map (λ b. r ++ b)
        (option_and_then (λ c. option_map (λ b. c ++ b) (written j (p + length (preamble_octets (true ∷ ms)) + length r + length c)))
        (written (Oer.counted_bits bs) (p + length (preamble_octets (true ∷ ms)) + length r)))) o)
        ≡ option_and_then (λ r. option_map (λ c. preamble_octets (true ∷ ms) ++ (r ++ (c ++ all))) (written (Oer.counted_bits bs) 0)) o
    go None = refl
    go (Some r) = ap (λ o. option_map (λ b. preamble_octets (true ∷ ms) ++ b)
        (option_map (λ b. r ++ b)
        (option_and_then (λ c. option_map (λ b. c ++ b) (written j (p + length (preamble_octets (true ∷ ms)) + length r + length c))) o)))
        ((counted_bits_still bs).at (p + length (preamble_octets (true ∷ ms)) + length r)) ∙ inner r (written (Oer.counted_bits bs) 0)

still_exact : (l : List ℕ) → OctetsStill (exactly l)
unfolding written
still_exact l = record { at = λ p. refl }

-- ---- the same by which are present, and by all of their octets

told_more : (us : List (Option (List ℕ))) (o : Option (List ℕ)) → told (us ++ o ∷ []) ≡ told us ++ is_some o ∷ []
told_more [] o = refl
told_more (u ∷ us) o = ap (λ l. is_some u ∷ l) (told_more us o)

joined_more : (us : List (Option (List ℕ))) (w : List ℕ) → texts_joined (us ++ Some w ∷ []) ≡ texts_joined us ++ w
joined_more [] w = append-nil w
joined_more (None ∷ us) w = joined_more us w
joined_more (Some v ∷ us) w = ap (λ l. v ++ l) (joined_more us w) ∙ sym (append_assoc v (texts_joined us) w)

joined_same : (us : List (Option (List ℕ))) → texts_joined (us ++ None ∷ []) ≡ texts_joined us
joined_same [] = refl
joined_same (None ∷ us) = joined_same us
joined_same (Some v ∷ us) = ap (λ l. v ++ l) (joined_same us)

told_forms : (us : List (Option (List ℕ))) → map (λ a. is_some a) (as_forms us) ≡ told us
told_forms [] = refl
told_forms (None ∷ us) = ap (λ l. false ∷ l) (told_forms us)
told_forms (Some w ∷ us) = ap (λ l. true ∷ l) (told_forms us)

any_told : (us : List (Option (List ℕ))) → is_any_set (told us) ≡ is_any_present (as_forms us)
any_told [] = refl
any_told (None ∷ us) = any_told us
any_told (Some w ∷ us) = refl

exact_text : (l : List ℕ) (p : ℕ) → written {F = Oer.Freedom} {D = Oer.Detail} (exactly l) p ≡ Some l
unfolding written
exact_text l p = refl

by_forms : (ms : List Bool) (r : List ℕ) (us : List (Option (List ℕ))) → written (Oer.with_additions ms (exactly r) (as_forms us)) 0
    ≡ written (both (Oer.preamble (true ∷ ms)) (both (exactly r) (both (Oer.counted_bits (map (λ a. is_some a) (as_forms us))) (joined (present_ones (as_forms us)))))) 0
unfolding Oer.with_additions Oer.additions
by_forms ms r us = refl

same_text_of : (ms : List Bool) (r : List ℕ) (us : List (Option (List ℕ))) →
    written (both (Oer.preamble (true ∷ ms)) (both (exactly r) (both (Oer.counted_bits (told us)) (exactly (texts_joined us))))) 0 ≡ written (Oer.with_additions ms (exactly r) (as_forms us)) 0
same_text_of ms r us =
    sum ms (exactly r) (told us) (exactly (texts_joined us)) (texts_joined us) (still_exact r) (exact_text (texts_joined us)) 0
    ∙ sym (sum ms (exactly r) (told us) (joined (present_ones (as_forms us))) (texts_joined us) (still_exact r) (joined_exactly us) 0)
    ∙ sym (by_forms ms r us ∙ ap (λ bs. written (both (Oer.preamble (true ∷ ms)) (both (exactly r) (both (Oer.counted_bits bs) (joined (present_ones (as_forms us)))))) 0) (told_forms us))

same_closing : (ms : List Bool) (r : List ℕ) (us : List (Option (List ℕ))) → with_added ms r (told us) (texts_joined us) ≡ closing ms r us
same_closing ms r us =
    ap (λ t. cond t (written (both (Oer.preamble (true ∷ ms)) (both (exactly r) (both (Oer.counted_bits (told us)) (exactly (texts_joined us))))) 0)
    (written (both (Oer.preamble (false ∷ ms)) (exactly r)) 0)) (any_told us)
    ∙ ap (λ o. cond (is_any_present (as_forms us)) o (written (both (Oer.preamble (false ∷ ms)) (exactly r)) 0)) (same_text_of ms r us)
    ∙ sym (own ms (exactly r) (as_forms us) 0)

-- ---- the records of additions

-- the rest of the additions, after those that were given
abbrev Rest : Components → Type 0
Rest cs = (qs : Parts) (ms : List Bool) (r : List ℕ) (slots : List (Option (List ℕ))) (front : List ℕ) (k : List Scope) (rest : List Record) →
    runs (added_records cs qs ++ rest) (texts_joined slots, added (component_count cs) ms r (told slots) front ∷ k)
    ≡ option_and_then (λ xs. option_and_then (λ us. option_and_then (λ w. runs rest (front ++ w, k)) (closing ms r (slots ++ us))) (texts_of xs)) (Oer.addition_forms cs qs)

-- one more slot
abbrev after_slot : List Bool → List ℕ → List (Option (List ℕ)) → List ℕ → List Scope → List Record → Option (List ℕ) → Option (List (Option Oer.OctetForm)) → Option State
after_slot ms r slots front k rest u o = option_and_then (λ xs. option_and_then (λ us. option_and_then (λ w. runs rest (front ++ w, k)) (closing ms r ((slots ++ u ∷ []) ++ us))) (texts_of xs)) o

absent_slot : (ms : List Bool) (r : List ℕ) (slots : List (Option (List ℕ))) (front : List ℕ) (k : List Scope) (rest : List Record)
    (o : Option (List (Option Oer.OctetForm))) → after_slot ms r slots front k rest None o ≡ option_and_then
    (λ xs. option_and_then (λ us. option_and_then (λ w. runs rest (front ++ w, k)) (closing ms r (slots ++ us))) (texts_of xs)) (option_map (λ xs. None ∷ xs) o)
absent_slot ms r slots front k rest None = refl
absent_slot ms r slots front k rest (Some xs) = go (texts_of xs)
  where
    go : (t : Option (List (Option (List ℕ)))) → option_and_then
        (λ us. option_and_then (λ w. runs rest (front ++ w, k)) (closing ms r ((slots ++ None ∷ []) ++ us))) t
        ≡ option_and_then (λ us. option_and_then (λ w. runs rest (front ++ w, k)) (closing ms r (slots ++ us))) (option_map (λ us. None ∷ us) t)
    go None = refl
    go (Some us) = ap (λ l. option_and_then (λ w. runs rest (front ++ w, k)) (closing ms r l)) (append_assoc slots (None ∷ []) us)

present_slot : (ms : List Bool) (r : List ℕ) (slots : List (Option (List ℕ))) (front : List ℕ) (k : List Scope) (rest : List Record)
    (x : Oer.OctetForm) (o : Option (List (Option Oer.OctetForm))) →
    option_and_then (λ w. after_slot ms r slots front k rest (Some w) o) (written x 0) ≡ option_and_then
    (λ xs. option_and_then (λ us. option_and_then (λ w. runs rest (front ++ w, k)) (closing ms r (slots ++ us))) (texts_of xs)) (option_map (λ xs. Some x ∷ xs) o)
present_slot ms r slots front k rest x None = none_behind (written x 0)
present_slot ms r slots front k rest x (Some xs) = outer (written x 0)
  where
    go : (w : List ℕ) (t : Option (List (Option (List ℕ)))) → option_and_then
        (λ us. option_and_then (λ w. runs rest (front ++ w, k)) (closing ms r ((slots ++ Some w ∷ []) ++ us))) t
        ≡ option_and_then (λ us. option_and_then (λ w. runs rest (front ++ w, k)) (closing ms r (slots ++ us))) (option_map (λ us. Some w ∷ us) t)
    go w None = refl
    go w (Some us) = ap (λ l. option_and_then (λ w. runs rest (front ++ w, k)) (closing ms r l)) (append_assoc slots (Some w ∷ []) us)

    outer : (c : Option (List ℕ)) → option_and_then (λ w. after_slot ms r slots front k rest (Some w) (Some xs)) c
        ≡ option_and_then (λ us. option_and_then (λ w. runs rest (front ++ w, k)) (closing ms r (slots ++ us))) (option_and_then (λ w. option_map (λ us. Some w ∷ us) (texts_of xs)) c)
    outer None = refl
    outer (Some w) = go w (texts_of xs)

one_added : (s : Schema) (v : Value) → BridgesAt s v → (d g : Bool) (n : ℕ) (ms : List Bool) (r : List ℕ) (bs : List Bool) (os front : List ℕ)
    (k : List Scope) (rest : List Record) → runs ((presents s v ++ (addition_ends ∷ noted_by d g)) ++ rest)
    ([], open_type os ∷ added n ms r bs front ∷ k) ≡ option_and_then (λ w. runs rest (os ++ w, added n ms r bs front ∷ k)) (written (spelled_by d g (Oer.open_type (Oer.form s v))) 0)
unfolding written
one_added s v h d g n ms r bs os front k rest =
    ap (λ l. runs l ([], open_type os ∷ added n ms r bs front ∷ k)) (append_assoc (presents s v) (addition_ends ∷ noted_by d g) rest)
    ∙ h 0 [] (open_type os ∷ added n ms r bs front ∷ k) (addition_ends ∷ (noted_by d g ++ rest))
    ∙ noted d g
  where
    -- the octets after their length determinant, and what comes then
    kept : (more : List Record) (o : Option (List ℕ)) → option_and_then
        (λ w. runs (addition_ends ∷ more) (w, open_type os ∷ added n ms r bs front ∷ k)) o ≡ option_and_then (λ w. runs more (os ++ w, added n ms r bs front ∷ k)) (opened o)
    kept more None = refl
    kept more (Some w) = one_text (written (Oer.counted w) 0) os (added n ms r bs front ∷ k) more

    noted : (d g : Bool) → option_and_then (λ w. runs (addition_ends ∷ (noted_by d g ++ rest)) (w, open_type os ∷ added n ms r bs front ∷ k))
        (written (Oer.form s v) 0) ≡ option_and_then (λ w. runs rest (os ++ w, added n ms r bs front ∷ k)) (written (spelled_by d g (Oer.open_type (Oer.form s v))) 0)
    noted true g = kept (is_default ∷ rest) (written (Oer.form s v) 0) ∙ none_behind (opened (written (Oer.form s v) 0))
    noted false true = kept (is_empty ∷ rest) (written (Oer.form s v) 0) ∙ none_behind (opened (written (Oer.form s v) 0))
    noted false false = kept rest (written (Oer.form s v) 0) ∙ ap (λ o. option_and_then (λ w. runs rest (os ++ w, added n ms r bs front ∷ k)) o) (sym (open_text (Oer.form s v)))

-- what is held after one more addition
one_more : (n : ℕ) (ms : List Bool) (r : List ℕ) (slots : List (Option (List ℕ))) (w front : List ℕ) (k : List Scope) →
    (let t : State = (texts_joined slots ++ w, added n ms r (told slots ++ true ∷ []) front ∷ k) in t) ≡ (texts_joined (slots ++ Some w ∷ []), added n ms r (told (slots ++ Some w ∷ [])) front ∷ k)
one_more n ms r slots w front k =
    ap (λ l. let t : State = (l, added n ms r (told slots ++ true ∷ []) front ∷ k) in t) (sym (joined_more slots w))
    ∙ ap (λ l. let t : State = (texts_joined (slots ++ Some w ∷ []), added n ms r l front ∷ k) in t) (sym (told_more slots (Some w)))

one_less : (n : ℕ) (ms : List Bool) (r : List ℕ) (slots : List (Option (List ℕ))) (front : List ℕ) (k : List Scope) →
    (let t : State = (texts_joined slots, added n ms r (told slots ++ false ∷ []) front ∷ k) in t) ≡ (texts_joined (slots ++ None ∷ []), added n ms r (told (slots ++ None ∷ [])) front ∷ k)
one_less n ms r slots front k =
    ap (λ l. let t : State = (l, added n ms r (told slots ++ false ∷ []) front ∷ k) in t) (sym (joined_same slots))
    ∙ ap (λ l. let t : State = (texts_joined (slots ++ None ∷ []), added n ms r l front ∷ k) in t) (sym (told_more slots None))

one_left_out : (q : Bool) (cs : Components) → Rest cs → (qs : Parts) (ms : List Bool) (r : List ℕ) (slots : List (Option (List ℕ))) (front : List ℕ)
    (k : List Scope) (rest : List Record) → runs ((cond q (mismatch ∷ []) (addition false ∷ []) ++ added_records cs qs) ++ rest)
    (texts_joined slots, added (suc (component_count cs)) ms r (told slots) front ∷ k) ≡ option_and_then
    (λ xs. option_and_then (λ us. option_and_then (λ w. runs rest (front ++ w, k)) (closing ms r (slots ++ us))) (texts_of xs)) (cond q None (option_map (λ xs. None ∷ xs) (Oer.addition_forms cs qs)))
one_left_out true cs others qs ms r slots front k rest = refl
one_left_out false cs others qs ms r slots front k rest = ap (runs (added_records cs qs ++ rest)) (one_less (component_count cs) ms r slots front k) ∙
    others qs ms r (slots ++ None ∷ []) front k rest ∙ absent_slot ms r slots front k rest (Oer.addition_forms cs qs)

-- the additions, and the end
pub rest_of : (cs : Components) → EachBridges cs → Rest cs
unfolding added_records Oer.addition_forms Oer.spelled
rest_of no_component h end ms r slots front k rest = ap (λ o. option_and_then (λ m. runs rest m) (adds_text o (front, k))) (same_closing ms r slots) ∙
    one_text (closing ms r slots) front k rest ∙ ap (λ l. option_and_then (λ w. runs rest (front ++ w, k)) (closing ms r l)) (sym (append-nil slots))
rest_of no_component h qs ms r slots front k rest = refl
rest_of (component t o s cs) h (present v qs) ms r slots front k rest =
    ap (λ l. runs l ([], open_type (texts_joined slots) ∷ added (component_count cs) ms r (told slots ++ true ∷ []) front ∷ k))
    (append_assoc (presents s v ++ (addition_ends ∷ noted_by (is_at_default o s v) (is_group_left_out s v))) (added_records cs qs) rest)
    ∙ one_added s v (h.0 v) (is_at_default o s v) (is_group_left_out s v) (component_count cs) ms r (told slots ++ true ∷ []) (texts_joined slots) front k (added_records cs qs ++ rest)
    ∙ chain_same (written (Oer.spelled o s v (Oer.open_type (Oer.form s v))) 0) _
    (λ w. after_slot ms r slots front k rest (Some w) (Oer.addition_forms cs qs))
    (λ w. ap (runs (added_records cs qs ++ rest)) (one_more (component_count cs) ms r slots w front k) ∙ rest_of cs h.1 qs ms r (slots ++ Some w ∷ []) front k rest)
    ∙ present_slot ms r slots front k rest (Oer.spelled o s v (Oer.open_type (Oer.form s v))) (Oer.addition_forms cs qs)
rest_of (component t o s cs) h (absent qs) ms r slots front k rest = one_left_out (is_required o) cs (rest_of cs h.1) qs ms r slots front k rest
rest_of (component t o s cs) h end ms r slots front k rest = refl

-- if each addition has a text
module _ (ms : List Bool) (x : Oer.OctetForm) (xs : List (Option Oer.OctetForm)) (us : List (Option (List ℕ))) (hx : OctetsStill x) (h : EachStill xs) (e : texts_of xs ≡ Some us) (p : ℕ) where
  a : Alike xs us
  a = alike xs us h e

  both_ways : (r : List ℕ) → closing ms r us ≡ cond (is_any_present xs) (written (Oer.with_additions ms (exactly r) (as_forms us)) 0) (written (both (Oer.preamble (false ∷ ms)) (exactly r)) 0)
  both_ways r = own ms (exactly r) (as_forms us) 0 ∙
      ap (λ t. cond t (written (Oer.with_additions ms (exactly r) (as_forms us)) 0) (written (both (Oer.preamble (false ∷ ms)) (exactly r)) 0)) (sym a.any)

  without : (o : Option (List ℕ)) → option_map (λ b. preamble_octets (false ∷ ms) ++ b) o ≡ option_and_then (λ r. written (both (Oer.preamble (false ∷ ms)) (exactly r)) 0) o
  unfolding written
  without None = refl
  without (Some r) = refl

  first : written (both (Oer.preamble (false ∷ ms)) x) p ≡ option_map (λ b. preamble_octets (false ∷ ms) ++ b) (written x 0)
  unfolding written
  first = ap (option_map (λ b. preamble_octets (false ∷ ms) ++ b)) (hx.at (p + length (preamble_octets (false ∷ ms))))

  with_some : (r : List ℕ) → written (Oer.with_additions ms (exactly r) (as_forms us)) 0 ≡ option_map
      (λ c. preamble_octets (true ∷ ms) ++ (r ++ (c ++ texts_joined us))) (written (Oer.counted_bits (map (λ a. is_some a) xs)) 0)
  unfolding written Oer.with_additions Oer.additions
  with_some r = sum ms (exactly r) (map (λ a. is_some a) (as_forms us)) (joined (present_ones (as_forms us))) (texts_joined us) (still_exact r)
      (joined_exactly us) 0 ∙ ap (λ b. option_map (λ c. preamble_octets (true ∷ ms) ++ (r ++ (c ++ texts_joined us))) (written (Oer.counted_bits b) 0)) (sym a.bits)

  with_all : written (Oer.with_additions ms x xs) p ≡ option_and_then
      (λ r. option_map (λ c. preamble_octets (true ∷ ms) ++ (r ++ (c ++ texts_joined us))) (written (Oer.counted_bits (map (λ a. is_some a) xs)) 0)) (written x 0)
  unfolding Oer.with_additions Oer.additions
  with_all = sum ms x (map (λ a. is_some a) xs) (joined (present_ones xs)) (texts_joined us) hx a.text p

  go : (t : Bool) → is_any_present xs ≡ t → cond t (written (Oer.with_additions ms x xs) p) (written (both (Oer.preamble (false ∷ ms)) x) p) ≡ option_and_then (λ r. closing ms r us) (written x 0)
  go true d = with_all ∙ chain_same (written x 0) _ (λ r. closing ms r us)
      (λ r. sym (both_ways r ∙ ap (λ t. cond t (written (Oer.with_additions ms (exactly r) (as_forms us)) 0) (written (both (Oer.preamble (false ∷ ms)) (exactly r)) 0)) d ∙ with_some r))
  go false d = first ∙ without (written x 0) ∙ chain_same (written x 0) _ (λ r. closing ms r us)
      (λ r. sym (both_ways r ∙ ap (λ t. cond t (written (Oer.with_additions ms (exactly r) (as_forms us)) 0) (written (both (Oer.preamble (false ∷ ms)) (exactly r)) 0)) d))

  closes : written (Oer.sequence_form true ms x xs) p ≡ option_and_then (λ r. closing ms r us) (written x 0)
  closes = own ms x xs p ∙ go (is_any_present xs) refl

-- ---- if an addition has no text, there is none

abbrev Lost : List (Option Oer.OctetForm) → Type 0
Lost xs = (is_any_present xs ≡ true) × ((p : ℕ) → written (joined (present_ones xs)) p ≡ None)

lost : (xs : List (Option Oer.OctetForm)) → EachStill xs → texts_of xs ≡ None → Lost xs
unfolding written
lost [] h e = cc
lost (None ∷ xs) h e = lost xs h (go (texts_of xs) e)
  where
    go : (t : Option (List (Option (List ℕ)))) → option_map {U = List (Option (List ℕ))} (λ us. None ∷ us) t ≡ None → t ≡ None
    go None f = refl
    go (Some us) f = cc
lost (Some x ∷ xs) h e = (
  refl,
  λ p. ap (λ o. option_and_then (λ a. option_map (λ b. a ++ b) (written (joined (present_ones xs)) (p + length a))) o)
      (h.0.at p) ∙ go (λ f. (lost xs h.1 f).1) p (written x 0) (texts_of xs) refl e,
)
  where
    go : ((texts_of xs ≡ None) → (p : ℕ) → written (joined (present_ones xs)) p ≡ None) →
        (p : ℕ) (o : Option (List ℕ)) (t : Option (List (Option (List ℕ)))) → texts_of xs ≡ t →
        option_and_then (λ w. option_map (λ us. Some w ∷ us) t) o ≡ None → option_and_then (λ a. option_map (λ b. a ++ b) (written (joined (present_ones xs)) (p + length a))) o ≡ None
    go again p None t f g = refl
    go again p (Some w) None f g = ap (option_map (λ b. w ++ b)) (again f (p + length w))
    go again p (Some w) (Some us) f g = cc

none_closes : (ms : List Bool) (x : Oer.OctetForm) (xs : List (Option Oer.OctetForm)) → EachStill xs → texts_of xs ≡ None → (p : ℕ) → written (Oer.sequence_form true ms x xs) p ≡ None
unfolding written Oer.with_additions Oer.additions
none_closes ms x xs h e p =
    own ms x xs p ∙ ap (λ t. cond t (written (Oer.with_additions ms x xs) p) (written (both (Oer.preamble (false ∷ ms)) x) p)) l.0
    ∙ ap (option_map (λ b. preamble_octets (true ∷ ms) ++ b)) (roots (written x (p + length (preamble_octets (true ∷ ms)))))
  where
    l : Lost xs
    l = lost xs h e

    bitmaps : (q : ℕ) (o : Option (List ℕ)) → option_and_then (λ c. option_map (λ b. c ++ b) (written (joined (present_ones xs)) (q + length c))) o ≡ None
    bitmaps q None = refl
    bitmaps q (Some c) = ap (option_map (λ b. c ++ b)) (l.1 (q + length c))

    roots : (o : Option (List ℕ)) →
        option_and_then (λ r. option_map (λ b. r ++ b) (written (both (Oer.counted_bits (map (λ a. is_some a) xs)) (joined (present_ones xs)))
        (p + length (preamble_octets (true ∷ ms)) + length r))) o ≡ None
    roots None = refl
    roots (Some r) = ap (option_map (λ b. r ++ b)) (bitmaps (p + length (preamble_octets (true ∷ ms)) + length r)
        (written (Oer.counted_bits (map (λ a. is_some a) xs)) (p + length (preamble_octets (true ∷ ms)) + length r)))

-- ---- positions: what has the bridge has the same text everywhere

octets_held : Option State → Option (List ℕ)
octets_held o = option_map (λ s. s.0) o

same_text : (o u : Option (List ℕ)) (k : List Scope) → option_and_then {U = State} (λ w. Some ([] ++ w, k)) o ≡ option_and_then {U = State} (λ w. Some ([] ++ w, k)) u → o ≡ u
unfolding octets_held
same_text None None k e = refl
same_text None (Some w) k e = cc
same_text (Some w) None k e = cc
same_text (Some w) (Some v) k e = ap octets_held e

pub bridged_is_still : (s : Schema) (v : Value) → BridgesAt s v → OctetsStill (Oer.form s v)
bridged_is_still s v h = record { at = λ p. same_text _ _ [] (sym (h p [] [] []) ∙ h 0 [] [] []) }

-- ---- the forms do not depend on the position

refused_still : OctetsStill refused
unfolding written
refused_still = record { at = λ p. refl }

spelled_still : (d g : Bool) (x : Oer.OctetForm) → OctetsStill x → OctetsStill (spelled_by d g x)
unfolding written
spelled_still true g x h = record { at = λ p. refl }
spelled_still false true x h = record { at = λ p. refl }
spelled_still false false x h = h

pub open_still : (x : Oer.OctetForm) → OctetsStill (Oer.open_type x)
unfolding written Oer.open_type
open_still x = record { at = λ p. chain_same (written x 0) (λ w. written (Oer.counted (w ++ [])) p) (λ w. written (Oer.counted (w ++ [])) 0) (λ w. (counted_still (w ++ [])).at p) }

abbrev AllStill : Option (List (Option Oer.OctetForm)) → Type 0
AllStill None = Unit {0}
AllStill (Some xs) = EachStill xs

more_still : (x : Option Oer.OctetForm) → EachStill (x ∷ []) → (o : Option (List (Option Oer.OctetForm))) → AllStill o → AllStill (option_map (λ xs. x ∷ xs) o)
more_still x h None k = tt
more_still None h (Some xs) k = k
more_still (Some x) h (Some xs) k = (h.0, k)

left_out_still : (q : Bool) (o : Option (List (Option Oer.OctetForm))) → AllStill o → AllStill (cond q None (option_map (λ xs. None ∷ xs) o))
left_out_still true o h = tt
left_out_still false o h = more_still None tt o h

additions_still : (adds : Components) (qs : Parts) → AllStill (Oer.addition_forms adds qs)
unfolding Oer.addition_forms Oer.spelled
additions_still no_component end = tt
additions_still no_component qs = tt
additions_still (component t o s cs) (present v qs) = more_still (Some (Oer.spelled o s v (Oer.open_type (Oer.form s v))))
    (spelled_still (is_at_default o s v) (is_group_left_out s v) (Oer.open_type (Oer.form s v)) (open_still (Oer.form s v)), tt) (Oer.addition_forms cs qs) (additions_still cs qs)
additions_still (component t o s cs) (absent qs) = left_out_still (is_required o) (Oer.addition_forms cs qs) (additions_still cs qs)
additions_still (component t o s cs) end = tt

left_still : (q : Bool) (x : Oer.OctetForm) → OctetsStill x → OctetsStill (cond q refused x)
left_still true x h = refused_still
left_still false x h = h

components_still : (cs : Components) → EachBridges cs → (ps : Parts) → OctetsStill (Oer.component_forms cs ps)
unfolding Oer.component_forms Oer.spelled
components_still no_component h end = still_exact []
components_still no_component h ps = refused_still
components_still (component t o s cs) h (present v ps) = still_both
    (spelled_still (is_at_default o s v) (is_group_left_out s v) (Oer.form s v) (bridged_is_still s v (h.0 v))) (components_still cs h.1 ps)
components_still (component t o s cs) h (absent ps) = left_still (is_required o) (Oer.component_forms cs ps) (components_still cs h.1 ps)
components_still (component t o s cs) h end = refused_still

-- ---- the root and the additions

by_texts : (ms : List Bool) (x : Oer.OctetForm) → OctetsStill x → (p : ℕ) (w : List ℕ → Option State) (xs : List (Option Oer.OctetForm)) →
    EachStill xs → (t : Option (List (Option (List ℕ)))) → texts_of xs ≡ t →
    option_and_then (λ r. option_and_then (λ us. option_and_then w (closing ms r us)) t) (written x 0) ≡ option_and_then w (written (Oer.sequence_form true ms x xs) p)
by_texts ms x hx p w xs h None e = none_behind (written x 0) ∙ ap (option_and_then w) (sym (none_closes ms x xs h e p))
by_texts ms x hx p w xs h (Some us) e = two_steps w (λ r. closing ms r us) (written x 0) ∙ ap (option_and_then w) (sym (closes ms x xs us hx h e p))

by_additions : (ms : List Bool) (x : Oer.OctetForm) → OctetsStill x → (p : ℕ) (w : List ℕ → Option State) (o : Option (List (Option Oer.OctetForm))) →
    AllStill o → option_and_then (λ r. option_and_then (λ xs. option_and_then (λ us. option_and_then w (closing ms r us)) (texts_of xs)) o)
    (written x 0) ≡ option_and_then w (written (given o (Oer.sequence_form true ms x)) p)
unfolding written
by_additions ms x hx p w None h = none_behind (written x 0)
by_additions ms x hx p w (Some xs) h = by_texts ms x hx p w xs h (texts_of xs) refl

-- ---- SEQUENCE and SET

-- the records of parts, and what they add
abbrev PartsBridge : Components → Bool → Components → Type 0
PartsBridge cs e adds = (ps qs : Parts) (p : ℕ) (os : List ℕ) (k : List Scope) (rest : List Record) →
    runs (root_records cs ps (behind_root e adds (added_records adds qs)) ++ rest) ([], components e (optional_count cs) [] os ∷ k)
    ≡ option_and_then (λ w. runs rest (os ++ w, k)) (written (given (Oer.addition_forms adds qs) (Oer.sequence_form e (presence_bits cs ps) (Oer.component_forms cs ps))) p)

extensible_parts : (cs adds : Components) → EachBridges cs → EachBridges adds → PartsBridge cs true adds
extensible_parts cs adds h ha ps qs p os k rest =
    root true cs h ps 0 [] os [] k (additions_begin (component_count adds) ∷ added_records adds qs) rest
    ∙ chain_same (written (Oer.component_forms cs ps) 0) _ (λ r.
    option_and_then (λ xs. option_and_then (λ us. option_and_then (λ w. runs rest (os ++ w, k)) (closing (presence_bits cs ps) r us))
    (texts_of xs)) (Oer.addition_forms adds qs)) (λ r. rest_of adds ha qs (presence_bits cs ps) r [] os k rest)
    ∙ by_additions (presence_bits cs ps) (Oer.component_forms cs ps) (components_still cs h ps) p (λ w. runs rest (os ++ w, k)) (Oer.addition_forms adds qs) (additions_still adds qs)

-- no text has additions without an extension marker
unmarked_additions : (ms : List Bool) (x : Oer.OctetForm) (t : List Tag) (o : Presence) (s : Schema) (adds : Components) (qs : Parts) (p : ℕ) →
    written (given (Oer.addition_forms (component t o s adds) qs) (Oer.sequence_form false ms x)) p ≡ None
unfolding written Oer.addition_forms Oer.sequence_form
unmarked_additions ms x t o s adds (present v qs) p = go (Oer.addition_forms adds qs)
  where
    go : (xs : Option (List (Option Oer.OctetForm))) → written (given (option_map (λ xs. Some (Oer.spelled o s v (Oer.open_type (Oer.form s v))) ∷ xs) xs) (Oer.sequence_form false ms x)) p ≡ None
    go None = refl
    go (Some xs) = refl
unmarked_additions ms x t o s adds (absent qs) p = go (is_required o) (Oer.addition_forms adds qs)
  where
    go : (q : Bool) (xs : Option (List (Option Oer.OctetForm))) → written (given (cond q None (option_map (λ xs. None ∷ xs) xs)) (Oer.sequence_form false ms x)) p ≡ None
    go true xs = refl
    go false None = refl
    go false (Some xs) = refl
unmarked_additions ms x t o s adds end p = refl

unmarked_parts : (cs adds : Components) → EachBridges cs → PartsBridge cs false adds
unfolding added_records written Oer.addition_forms Oer.sequence_form
unmarked_parts cs no_component h ps end p os k rest = closed_off cs h ps p os k rest
unmarked_parts cs no_component h ps qs p os k rest = root false cs h ps p [] os [] k (mismatch ∷ []) rest ∙ none_behind (written (Oer.component_forms cs ps) p)
unmarked_parts cs (component t o s adds) h ps qs p os k rest =
    root false cs h ps p [] os [] k (additions_begin (suc (component_count adds)) ∷ added_records (component t o s adds) qs) rest
    ∙ none_behind (written (Oer.component_forms cs ps) p)
    ∙ ap (option_and_then (λ w. runs rest (os ++ w, k))) (sym (unmarked_additions (presence_bits cs ps) (Oer.component_forms cs ps) t o s adds qs p))

parts : (cs : Components) (e : Bool) (adds : Components) → EachBridges cs → EachBridges adds → PartsBridge cs e adds
parts cs true adds h ha = extensible_parts cs adds h ha
parts cs false adds h ha = unmarked_parts cs adds h

pub sequences : (cs : Components) (e : Bool) (adds : Components) → EachBridges cs → EachBridges adds → Bridges (sequence cs e adds)
unfolding presents Oer.form written
sequences cs e adds h ha (fields ps qs) p os k rest = parts cs e adds h ha ps qs p os k rest
sequences cs e adds h ha v p os k rest = refl

pub sets : (cs : Components) (e : Bool) (adds : Components) → EachBridges cs → EachBridges adds → Bridges (set cs e adds)
unfolding presents Oer.form written
sets cs e adds h ha (fields ps qs) p os k rest = parts cs e adds h ha ps qs p os k rest
sets cs e adds h ha v p os k rest = refl
