-- Choices: an alternative of the root after its index, an added one as an open type.
use Rattle.std.proofs.Common.{◌≡◌, ℕ, zero, suc, ◌-◌, arith, Bool, true, false, List, [], ◌∷◌, ◌++◌, length, Option, Some, None, option_map, option_and_then, refl, ap, sym, ◌∙◌, append_assoc}
use Rattle.asn1_model.specs.Value.{Value, chosen}
use Rattle.asn1_model.specs.Schema.{choice, Alternatives, no_alternative, alternative as or}
use Rattle.asn1_model.specs.Lawful.{alternative_tags}
use Rattle.asn1_model.specs.Normal.{alternative_count}
use Rattle.asn1_model.specs.Form.{exactly, refused, both, written}
use Rattle.asn1_model.specs.Per
use Rattle.asn1_schema_laws.specs.Records.{Record, ends}
use Rattle.asn1_schema_laws.specs.Presents.{presents, chosen_records}
use Rattle.per_codec_packing.specs.FieldLists.{FieldList, as_field_list, on, field_list_at}
use Rattle.per_codec_encoder.specs.Steps.{Scope, alternative, open_type, State, adds_form, offset, position, runs}
use Rattle.per_codec_encoder.specs.Ties.{Bridges}
use Rattle.per_codec_packing.proofs.Formed.{in_turn, two_field_lists, behind, both_assoc, known, plain_field_list}
use Rattle.per_codec_encoder.proofs.Bridge.{one_field_list}
use Rattle.per_codec_encoder.proofs.StepAdditions.{open_field_list}

tag_count : (others : Alternatives) → length (alternative_tags others) ≡ alternative_count others
tag_count no_alternative = refl
tag_count (or t s others) = let e = tag_count others in omega arith

-- each alternative's type has the bridge
abbrev pub EachAlternative : Alternatives → Type 0
EachAlternative no_alternative = Unit {0}
EachAlternative (or t s others) = Bridges s × EachAlternative others

-- the alternative with an index, in the root
in_root : (al : Bool) (others : Alternatives) → EachAlternative others → (i : ℕ) (v : Value) (os : FieldList) (k : List Scope) (rest : List Record) →
    runs al (chosen_records others i v ++ rest) (os, alternative ∷ k) ≡ option_and_then (λ w. runs al rest (os ++ w, k)) (field_list_at (Per.alternative_form al others i v) (position (os, k)))
unfolding chosen_records Per.alternative_form field_list_at
in_root al no_alternative h i v os k rest = refl
in_root al (or t s others) h zero v os k rest = ap (λ l. runs al l (os, alternative ∷ k)) (append_assoc (presents s v) (ends ∷ []) rest) ∙ h.0 al v os (alternative ∷ k) (ends ∷ rest)
in_root al (or t s others) h (suc i) v os k rest = in_root al others h.1 i v os k rest

-- an added one, and its end
opened_up : (al : Bool) (others : Alternatives) → EachAlternative others →
    (i : ℕ) (v : Value) (front : FieldList) (k : List Scope) (rest : List Record) →
    runs al (chosen_records others i v ++ rest) ([], open_type front ∷ k) ≡ option_and_then (λ w. runs al rest (front ++ w, k))
    (field_list_at (Per.open_type al (Per.alternative_form al others i v)) (position (front, k)))
unfolding chosen_records Per.alternative_form written
opened_up al no_alternative h i v front k rest = ap (option_and_then (λ w. runs al rest (front ++ w, k))) (sym (open_field_list al refused (position (front, k))))
opened_up al (or t s others) h zero v front k rest =
    ap (λ l. runs al l ([], open_type front ∷ k)) (append_assoc (presents s v) (ends ∷ []) rest)
    ∙ h.0 al v [] (open_type front ∷ k) (ends ∷ rest)
    ∙ ap (option_and_then (λ w. runs al (ends ∷ rest) (w, open_type front ∷ k))) (known (Per.form al s v) 0)
    ∙ closing (written (Per.form al s v) 0)
    ∙ sym (in_turn (written (Per.form al s v) 0) (λ w. field_list_at (Per.open_type al (exactly w)) (position (front, k))) (λ u. runs al rest (front ++ u, k)))
    ∙ ap (option_and_then (λ w. runs al rest (front ++ w, k))) (sym (open_field_list al (Per.form al s v) (position (front, k))))
  where
    closing : (o : Option (List Bool)) → option_and_then (λ w. runs al (ends ∷ rest) (w, open_type front ∷ k)) (option_map as_field_list o)
        ≡ option_and_then (λ w. option_and_then (λ u. runs al rest (front ++ u, k)) (field_list_at (Per.open_type al (exactly w)) (position (front, k)))) o
    closing None = refl
    closing (Some w) =
        ap (λ o. option_and_then (λ m. runs al rest m) (option_and_then (λ w. adds_form (Per.open_type al (exactly w)) (front, k)) o)) (plain_field_list w)
        ∙ one_field_list al (field_list_at (Per.open_type al (exactly w)) (position (front, k))) front k rest
opened_up al (or t s others) h (suc i) v front k rest = opened_up al others h.1 i v front k rest

-- after what selects the alternative
told_apart : (al : Bool) (x y z : Per.BitForm) (g : FieldList → State) (os : FieldList) (k : List Scope) (rs rest : List Record) →
    ((w : FieldList) → runs al rs (g w) ≡ option_and_then (λ u. runs al rest ((os ++ w) ++ u, k)) (field_list_at z (position (os ++ w, k)))) →
    option_and_then (λ m. runs al rs m) (option_map g (field_list_at (both x y) (position (os, k))))
    ≡ option_and_then (λ w. runs al rest (os ++ w, k)) (field_list_at (both x (both y z)) (position (os, k)))
unfolding field_list_at
told_apart al x y z g os k rs rest h =
    go (field_list_at (both x y) (position (os, k)))
    ∙ two_field_lists (field_list_at (both x y) (position (os, k))) (λ a. field_list_at z (on (position (os, k)) a)) os (λ w. runs al rest (w, k))
    ∙ ap (option_and_then (λ w. runs al rest (os ++ w, k))) (both_assoc x y z (position (os, k)))
  where
    go : (o : Option FieldList) → option_and_then (λ m. runs al rs m) (option_map g o) ≡ option_and_then
        (λ a. option_and_then (λ u. runs al rest ((os ++ a) ++ u, k)) (field_list_at z (on (position (os, k)) a))) o
    go None = refl
    go (Some w) = h w ∙ ap (λ n. option_and_then (λ u. runs al rest ((os ++ w) ++ u, k)) (field_list_at z n)) (behind (offset k) os w)

pub choices : (roots : Alternatives) (e : Bool) (adds : Alternatives) → EachAlternative roots → EachAlternative adds → Bridges (choice roots e adds)
unfolding presents Per.form field_list_at
choices roots e adds h ha al (chosen false i v) os k rest =
    ap (λ n. option_and_then (λ m. runs al (chosen_records roots i v ++ rest) m)
    (option_map {U = State} (λ w. (os ++ w, alternative ∷ k)) (field_list_at (both (Per.extension_bit_of e false) (Per.constrained al (n - 1) i)) (position (os, k))))) (tag_count roots)
    ∙ told_apart al (Per.extension_bit_of e false) (Per.constrained al (alternative_count roots - 1) i) (Per.alternative_form al roots i v)
    (λ w. (os ++ w, alternative ∷ k)) os k (chosen_records roots i v ++ rest) rest (λ w. in_root al roots h i v (os ++ w) k rest)
choices roots true adds h ha al (chosen true i v) os k rest =
    told_apart al (exactly (true ∷ [])) (Per.normally_small al i) (Per.open_type al (Per.alternative_form al adds i v))
    (λ w. ([], open_type (os ++ w) ∷ k)) os k (chosen_records adds i v ++ rest) rest (λ w. opened_up al adds ha i v (os ++ w) k rest)
choices roots false adds h ha al (chosen true i v) os k rest = refl
choices roots e adds h ha al v os k rest = refl
