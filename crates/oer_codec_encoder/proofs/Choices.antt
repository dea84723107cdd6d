-- CHOICE: a tag, and then the value or an open type.
use Rattle.std.proofs.Common.{◌≡◌, ℕ, zero, suc, ◌+◌, Bool, true, false, List, [], ◌∷◌, ◌++◌, length, Option, Some, None, option_map, option_and_then, refl, ap, sym, ◌∙◌, append_assoc}
use Rattle.asn1_model.specs.Value.{Value, chosen}
use Rattle.asn1_model.specs.Schema.{Tag, Schema, choice, Alternatives, no_alternative, alternative as one_of}
use Rattle.asn1_model.specs.Lawful.{alternative_tags}
use Rattle.asn1_model.specs.Form.{both, written}
use Rattle.asn1_model.specs.Oer
use Rattle.asn1_schema_laws.specs.Records.{Record, ends}
use Rattle.asn1_schema_laws.specs.Presents.{presents, chosen_records}
use Rattle.oer_codec_encoder.specs.Steps.{Scope, alternative, open_type, runs, tag_at, chosen_on}
use Rattle.oer_codec_encoder.specs.Ties.{BridgesAt, Bridges}
use Rattle.oer_codec_encoder.proofs.Still.{tag_still}
use Rattle.oer_codec_encoder.proofs.Bridge.{chain_same, two_steps, one_text, two_texts}
use Rattle.oer_codec_encoder.proofs.StepAdditions.{opened, open_text, open_still}

-- what follows the octets of a tag
behind_tag : (b : Bool) (t : Tag) (x : Oer.OctetForm) (p : ℕ) (os : List ℕ) (k : List Scope) (rs rest : List Record) →
    ((a : List ℕ) → option_and_then (λ m. runs rs m) (chosen_on b a (os, k)) ≡ option_and_then (λ w. runs rest ((os ++ a) ++ w, k))
    (written x (p + length a))) → option_and_then (λ m. runs rs m) (option_and_then (λ w. chosen_on b w (os, k)) (written (Oer.tag_form t) 0))
    ≡ option_and_then (λ w. runs rest (os ++ w, k)) (written (both (Oer.tag_form t) x) p)
unfolding written
behind_tag b t x p os k rs rest h =
    sym (two_steps (λ m. runs rs m) (λ w. chosen_on b w (os, k)) (written (Oer.tag_form t) 0))
    ∙ chain_same (written (Oer.tag_form t) 0) _ (λ a. option_and_then (λ w. runs rest ((os ++ a) ++ w, k)) (written x (p + length a))) h
    ∙ two_texts (written (Oer.tag_form t) 0) (λ a. written x (p + length a)) os (λ w. runs rest (w, k))
    ∙ ap (λ o. option_and_then (λ w. runs rest (os ++ w, k)) (option_and_then (λ a. option_map (λ b. a ++ b) (written x (p + length a))) o)) (sym ((tag_still t).at p))

-- an alternative of the root
of_root : (s : Schema) (v : Value) → BridgesAt s v → (p : ℕ) (os : List ℕ) (k : List Scope) (rest : List Record) →
    runs ((presents s v ++ (ends ∷ [])) ++ rest) (os, alternative ∷ k) ≡ option_and_then (λ w. runs rest (os ++ w, k)) (written (Oer.form s v) p)
of_root s v h p os k rest = ap (λ l. runs l (os, alternative ∷ k)) (append_assoc (presents s v) (ends ∷ []) rest) ∙ h p os (alternative ∷ k) (ends ∷ rest)

-- an added one
of_added : (s : Schema) (v : Value) → BridgesAt s v → (p : ℕ) (os : List ℕ) (k : List Scope) (rest : List Record) →
    runs ((presents s v ++ (ends ∷ [])) ++ rest) ([], open_type os ∷ k) ≡ option_and_then (λ w. runs rest (os ++ w, k)) (written (Oer.open_type (Oer.form s v)) p)
of_added s v h p os k rest =
    ap (λ l. runs l ([], open_type os ∷ k)) (append_assoc (presents s v) (ends ∷ []) rest)
    ∙ h 0 [] (open_type os ∷ k) (ends ∷ rest)
    ∙ go (written (Oer.form s v) 0)
    ∙ ap (option_and_then (λ w. runs rest (os ++ w, k))) (sym ((open_still (Oer.form s v)).at p ∙ open_text (Oer.form s v)))
  where
    go : (o : Option (List ℕ)) → option_and_then (λ w. runs (ends ∷ rest) (w, open_type os ∷ k)) o ≡ option_and_then (λ w. runs rest (os ++ w, k)) (opened o)
    go None = refl
    go (Some w) = one_text (written (Oer.counted w) 0) os k rest

-- each alternative's type has the bridge
abbrev pub EachAlternative : Alternatives → Type 0
EachAlternative no_alternative = Unit {0}
EachAlternative (one_of t s others) = Bridges s × EachAlternative others

-- the chosen one, with its tag
chosen_one : (b : Bool) (others : Alternatives) → EachAlternative others →
    (i : ℕ) (v : Value) (p : ℕ) (os : List ℕ) (k : List Scope) (rest : List Record) →
    option_and_then (λ m. runs (chosen_records others i v ++ rest) m)
    (option_and_then (λ t. option_and_then (λ w. chosen_on b w (os, k)) (written (Oer.tag_form t) 0)) (tag_at i (alternative_tags others)))
    ≡ option_and_then (λ w. runs rest (os ++ w, k)) (written (Oer.alternative_form b others i v) p)
unfolding chosen_records Oer.alternative_form written
chosen_one false no_alternative h zero v p os k rest = refl
chosen_one false no_alternative h (suc i) v p os k rest = refl
chosen_one true no_alternative h zero v p os k rest = refl
chosen_one true no_alternative h (suc i) v p os k rest = refl
chosen_one false (one_of t s others) h zero v p os k rest = behind_tag false t (Oer.form s v) p os k ((presents s v ++ (ends ∷ [])) ++ rest) rest
    (λ a. of_root s v (h.0 v) (p + length a) (os ++ a) k rest)
chosen_one true (one_of t s others) h zero v p os k rest = behind_tag true t (Oer.open_type (Oer.form s v)) p os k
    ((presents s v ++ (ends ∷ [])) ++ rest) rest (λ a. of_added s v (h.0 v) (p + length a) (os ++ a) k rest)
chosen_one false (one_of t s others) h (suc i) v p os k rest = chosen_one false others h.1 i v p os k rest
chosen_one true (one_of t s others) h (suc i) v p os k rest = chosen_one true others h.1 i v p os k rest

pub choices : (roots : Alternatives) (e : Bool) (adds : Alternatives) → EachAlternative roots → EachAlternative adds → Bridges (choice roots e adds)
unfolding presents Oer.form written
choices roots e adds h ha (chosen false i v) p os k rest = chosen_one false roots h i v p os k rest
choices roots true adds h ha (chosen true i v) p os k rest = chosen_one true adds ha i v p os k rest
choices roots false adds h ha (chosen true zero v) p os k rest = refl
choices roots false adds h ha (chosen true (suc i) v) p os k rest = refl
choices roots e adds h ha v p os k rest = refl
