-- SET OF: the elements in the ascending order of their octets.
use Rattle.std.proofs.Common.{◌≡◌, ℕ, suc, ◌+◌, ltb, Bool, true, false, cond, List, [], ◌∷◌, ◌++◌, length, map, Option}
use Rattle.std.proofs.Common.{Some, None, option_map, option_and_then, refl, ap, sym, subst, ◌∙◌, append_assoc}
use Rattle.std.proofs.lemmas.List.{append-nil, length-map}
use Rattle.asn1_model.specs.Value.{bag, Values, no_more, member, each}
use Rattle.asn1_model.specs.Schema.{Counts, Size, Schema, set_of}
use Rattle.asn1_model.specs.Numbers.{is_count_within}
use Rattle.asn1_model.specs.Form.{exactly, both, only_if, given, joined, written, stands_before, put_in_place, with_keys}
use Rattle.asn1_model.specs.Oer
use Rattle.asn1_schema_laws.specs.Records.{Record}
use Rattle.asn1_model.specs.Lawful.{member_count}
use Rattle.asn1_schema_laws.specs.Presents.{presents, member_records}
use Rattle.oer_codec_encoder.specs.Steps.{Scope, bag_members, with_open, State, runs}
use Rattle.oer_codec_encoder.specs.Ties.{Bridges}
use Rattle.oer_codec_encoder.proofs.Still.{OctetsStill, unsigned_still}
use Rattle.oer_codec_encoder.proofs.Bridge.{chain_same, none_behind, one_text}
use Rattle.oer_codec_encoder.proofs.StepAdditions.{bridged_is_still}
use Rattle.oer_codec_encoder.proofs.Lists.{length-each}

-- ---- the texts of forms, in order

-- each alone
abbrev pub texts_each : List Oer.OctetForm → Option (List (List ℕ))
texts_each [] = Some []
texts_each (x ∷ xs) = option_and_then (λ w. option_map (λ ws. w ∷ ws) (texts_each xs)) (written x 0)

abbrev before : List ℕ → List ℕ → Bool
before = stands_before ltb

abbrev Keyed : Type 0
Keyed = List ℕ × Oer.OctetForm

-- forms with their texts, which these are
abbrev AreKeyed : List Keyed → List (List ℕ) → Type 0
AreKeyed [] [] = Unit {0}
AreKeyed (e ∷ es) (w ∷ ws) = (e.0 ≡ w) × ((p : ℕ) → written e.1 p ≡ Some w) × AreKeyed es ws
AreKeyed es ws = ⊥

-- the order of texts
abbrev placed : List ℕ → List (List ℕ) → List (List ℕ)
placed w [] = w ∷ []
placed w (u ∷ us) = cond (before u w) (u ∷ placed w us) (w ∷ u ∷ us)

abbrev sorted : List (List ℕ) → List (List ℕ)
sorted [] = []
sorted (w ∷ ws) = placed w (sorted ws)

-- the texts in sequence
abbrev all_of : List (List ℕ) → List ℕ
all_of [] = []
all_of (w ∷ ws) = w ++ all_of ws

put_keyed : (e : Keyed) (w : List ℕ) → e.0 ≡ w → ((p : ℕ) → written e.1 p ≡ Some w) → (es : List Keyed) (us : List (List ℕ)) → AreKeyed es us → AreKeyed (put_in_place before e es) (placed w us)
put_keyed e w he hw [] [] k = (he, hw, tt)
put_keyed e w he hw [] (u ∷ us) k = absurd k
put_keyed e w he hw (f ∷ fs) [] k = absurd k
put_keyed e w he hw (f ∷ fs) (u ∷ us) k =
    let P : Bool → Type 0 = λ t. AreKeyed (cond t (f ∷ put_in_place before e fs) (e ∷ f ∷ fs)) (cond (before u w) (u ∷ placed w us) (w ∷ u ∷ us)) in
    subst P (ap (λ x. before x w) (sym k.0) ∙ ap (λ x. before f.0 x) (sym he)) (go (put_keyed e w he hw fs us k.2) (before u w))
  where
    go : AreKeyed (put_in_place before e fs) (placed w us) → (t : Bool) → AreKeyed (cond t (f ∷ put_in_place before e fs) (e ∷ f ∷ fs)) (cond t (u ∷ placed w us) (w ∷ u ∷ us))
    go others true = (k.0, k.1, others)
    go others false = (he, hw, k)

put_length : (e : Keyed) (es : List Keyed) → length (put_in_place before e es) ≡ suc (length es)
put_length e [] = refl
put_length e (f ∷ fs) = go (put_length e fs) (before f.0 e.0)
  where
    go : length (put_in_place before e fs) ≡ suc (length fs) → (t : Bool) → length (cond t (f ∷ put_in_place before e fs) (e ∷ f ∷ fs)) ≡ suc (suc (length fs))
    go others true = ap suc others
    go others false = refl

-- the forms in order have the texts in order; if one has no text, there is nothing
abbrev InOrder : ℕ → Option (List Keyed) → Option (List (List ℕ)) → Type 0
InOrder n None None = Unit {0}
InOrder n (Some es) (Some ws) = AreKeyed es (sorted ws) × (length es ≡ n)
InOrder n es ws = ⊥

abbrev EachIsStill : List Oer.OctetForm → Type 0
EachIsStill [] = Unit {0}
EachIsStill (x ∷ xs) = OctetsStill x × EachIsStill xs

in_order_of : (xs : List Oer.OctetForm) → EachIsStill xs → InOrder (length xs) (with_keys (λ x. written x 0) before xs) (texts_each xs)
in_order_of [] h = (tt, refl)
in_order_of (x ∷ xs) h = go (written x 0) refl (with_keys (λ x. written x 0) before xs) (texts_each xs) (in_order_of xs h.1)
  where
    go : (o : Option (List ℕ)) → written x 0 ≡ o → (es : Option (List Keyed)) (ws : Option (List (List ℕ))) → InOrder (length xs) es ws →
        InOrder (suc (length xs)) (option_and_then (λ w. option_map (λ fs. put_in_place before (w, x) fs) es) o) (option_and_then (λ w. option_map (λ us. w ∷ us) ws) o)
    go None e es ws k = tt
    go (Some w) e None None k = tt
    go (Some w) e None (Some ws) k = absurd k
    go (Some w) e (Some es) None k = absurd k
    go (Some w) e (Some es) (Some ws) k = (put_keyed (w, x) w refl (λ p. h.0.at p ∙ e) es (sorted ws) k.0, put_length (w, x) es ∙ ap suc k.1)

joined_keyed : (es : List Keyed) (ws : List (List ℕ)) → AreKeyed es ws → (p : ℕ) → written (joined (map (λ e. e.1) es)) p ≡ Some (all_of ws)
unfolding written
joined_keyed [] [] k p = refl
joined_keyed [] (w ∷ ws) k p = absurd k
joined_keyed (e ∷ es) [] k p = absurd k
joined_keyed (e ∷ es) (w ∷ ws) k p = ap (option_and_then (λ a. option_map (λ b. a ++ b) (written (joined (map (λ e. e.1) es)) (p + length a))))
    (k.1 p) ∙ ap (option_map (λ b. w ++ b)) (joined_keyed es ws k.2 (p + length w))

-- ---- the end of a bag

abbrev forms_of : List (List ℕ) → List Oer.OctetForm
forms_of ws = map (λ w. exactly w) ws

exactly_each : (ws : List (List ℕ)) → texts_each (forms_of ws) ≡ Some ws
unfolding written
exactly_each [] = refl
exactly_each (w ∷ ws) = ap (option_map (λ us. w ∷ us)) (exactly_each ws)

exactly_still : (ws : List (List ℕ)) → EachIsStill (forms_of ws)
unfolding written
exactly_still [] = tt
exactly_still (w ∷ ws) = (record { at = λ p. refl }, exactly_still ws)

closed_bag : (ws : List (List ℕ)) → written (Oer.in_any_order (forms_of ws) (λ xs. joined xs)) 0 ≡ Some (all_of (sorted ws))
unfolding written Oer.in_any_order
closed_bag ws = go (with_keys (λ x. written x 0) before (forms_of ws)) (rw (sym (exactly_each ws)) (in_order_of (forms_of ws) (exactly_still ws)))
  where
    go : (es : Option (List Keyed)) → InOrder (length (forms_of ws)) es (Some ws) → written (given (option_map (map (λ e. e.1)) es) (λ xs. joined xs)) 0 ≡ Some (all_of (sorted ws))
    go None k = absurd k
    go (Some es) k = joined_keyed es (sorted ws) k.0 0

-- ---- the elements

all_in_bag : (s : Schema) → Bridges s → (vs : Values) (begun : Option (List (List ℕ))) (os front : List ℕ) (k : List Scope) (rest : List Record) →
    runs (member_records (λ v. presents s v) vs ++ rest) (os, bag_members (member_count vs) begun front ∷ k)
    ≡ option_and_then (λ ws. runs rest (front ++ all_of (sorted (with_open begun os ++ ws)), k)) (texts_each (each (λ v. Oer.form s v) vs))
all_in_bag s h no_more begun os front k rest =
    one_text (written (Oer.in_any_order (map (λ w. exactly w) (with_open begun os)) (λ xs. joined xs)) 0) front k rest
    ∙ ap (option_and_then (λ w. runs rest (front ++ w, k))) (closed_bag (with_open begun os))
    ∙ ap (λ ws. runs rest (front ++ all_of (sorted ws), k)) (sym (append-nil (with_open begun os)))
all_in_bag s h (member v vs) begun os front k rest =
    ap (λ l. runs l ([], bag_members (member_count vs) (Some (with_open begun os)) front ∷ k)) (append_assoc (presents s v) (member_records (λ v. presents s v) vs) rest)
    ∙ h v 0 [] (bag_members (member_count vs) (Some (with_open begun os)) front ∷ k) (member_records (λ v. presents s v) vs ++ rest)
    ∙ chain_same (written (Oer.form s v) 0) _
    (λ w. option_and_then (λ ws. runs rest (front ++ all_of (sorted ((with_open begun os ++ w ∷ []) ++ ws)), k))
    (texts_each (each (λ v. Oer.form s v) vs))) (λ w. all_in_bag s h vs (Some (with_open begun os)) w front k rest)
    ∙ go (written (Oer.form s v) 0) (texts_each (each (λ v. Oer.form s v) vs))
  where
    go : (o : Option (List ℕ)) (t : Option (List (List ℕ))) → option_and_then
        (λ w. option_and_then (λ ws. runs rest (front ++ all_of (sorted ((with_open begun os ++ w ∷ []) ++ ws)), k)) t) o
        ≡ option_and_then (λ ws. runs rest (front ++ all_of (sorted (with_open begun os ++ ws)), k)) (option_and_then (λ w. option_map (λ ws. w ∷ ws) t) o)
    go None t = refl
    go (Some w) None = refl
    go (Some w) (Some ws) = ap (λ l. runs rest (front ++ all_of (sorted l), k)) (append_assoc (with_open begun os) (w ∷ []) ws)

-- ---- the form of the whole

closed_of : (h : Counts) (n p : ℕ) (es : Option (List Keyed)) (ws : Option (List (List ℕ))) → InOrder n es ws →
    written (given (option_map (map (λ e. e.1)) es) (Oer.members_form h)) p
    ≡ option_and_then (λ us. written (only_if (is_count_within h n) (both (Oer.unsigned n) (exactly (all_of (sorted us))))) p) ws
unfolding written Oer.members_form
closed_of h n p None None k = refl
closed_of h n p None (Some ws) k = absurd k
closed_of h n p (Some es) None k = absurd k
closed_of h n p (Some es) (Some ws) k = rw (length-map es (λ e. e.1), k.1) (go (is_count_within h n))
  where
    go : (c : Bool) → written (only_if c (both (Oer.unsigned n) (joined (map (λ e. e.1) es)))) p ≡ written (only_if c (both (Oer.unsigned n) (exactly (all_of (sorted ws))))) p
    go false = refl
    go true = chain_same (written (Oer.unsigned n) p) _ (λ a. Some (a ++ all_of (sorted ws))) (λ a. ap (option_map (λ b. a ++ b)) (joined_keyed es (sorted ws) k.0 (p + length a)))

-- the count, and the elements after it
counted_bag : (n p : ℕ) (os : List ℕ) (k : List Scope) (rs rest : List Record) (ws : Option (List (List ℕ))) →
    ((front : List ℕ) → runs rs ([], bag_members n None front ∷ k) ≡ option_and_then (λ us. runs rest (front ++ all_of (sorted us), k)) ws) →
    (c : Bool) → option_and_then (λ m. runs rs m) (option_map {U = State} (λ w. ([], bag_members n None (os ++ w) ∷ k))
    (written (only_if c (Oer.unsigned n)) 0)) ≡ option_and_then (λ w. runs rest (os ++ w, k)) (option_and_then (λ us. written (only_if c (both (Oer.unsigned n) (exactly (all_of (sorted us))))) p) ws)
unfolding written
counted_bag n p os k rs rest ws h false = ap (option_and_then (λ w. runs rest (os ++ w, k))) (sym (none_behind ws))
counted_bag n p os k rs rest ws h true =
    go (written (Oer.unsigned n) 0) ws h
    ∙ ap (λ o. option_and_then (λ w. runs rest (os ++ w, k)) (option_and_then (λ us. option_map (λ a. a ++ all_of (sorted us)) o) ws)) (sym ((unsigned_still n).at p))
  where
    go : (o : Option (List ℕ)) (ws : Option (List (List ℕ))) → ((front : List ℕ) → runs rs ([], bag_members n None front ∷ k)
        ≡ option_and_then (λ us. runs rest (front ++ all_of (sorted us), k)) ws) →
        option_and_then (λ m. runs rs m) (option_map {U = State} (λ w. ([], bag_members n None (os ++ w) ∷ k)) o)
        ≡ option_and_then (λ w. runs rest (os ++ w, k)) (option_and_then (λ us. option_map (λ a. a ++ all_of (sorted us)) o) ws)
    go None ws h = ap (option_and_then (λ w. runs rest (os ++ w, k))) (sym (none_behind ws))
    go (Some a) None h = h (os ++ a)
    go (Some a) (Some us) h = h (os ++ a) ∙ ap (λ l. runs rest (l, k)) (append_assoc os a (all_of (sorted us)))

forms_still : (s : Schema) → Bridges s → (vs : Values) → EachIsStill (each (λ v. Oer.form s v) vs)
forms_still s h no_more = tt
forms_still s h (member v vs) = (bridged_is_still s v (h v), forms_still s h vs)

pub bags : (z : Size) (h : Counts) (s : Schema) → Bridges s → Bridges (set_of z h s)
unfolding presents Oer.form Oer.in_any_order written
bags z h s b (bag vs) p os k rest =
    counted_bag (member_count vs) p os k (member_records (λ v. presents s v) vs ++ rest) rest (texts_each (each (λ v. Oer.form s v) vs))
    (λ front. all_in_bag s b vs None [] front k rest) (is_count_within h (member_count vs))
    ∙ ap (option_and_then (λ w. runs rest (os ++ w, k)))
    (sym (closed_of h (member_count vs) p (with_keys (λ x. written x 0) before (each (λ v. Oer.form s v) vs))
    (texts_each (each (λ v. Oer.form s v) vs)) (rw (sym (length-each (λ v. Oer.form s v) vs)) (in_order_of (each (λ v. Oer.form s v) vs) (forms_still s b vs)))))
bags z h s b v p os k rest = refl
