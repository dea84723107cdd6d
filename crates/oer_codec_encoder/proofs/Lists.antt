-- SEQUENCE OF: the count, and the elements.
use Rattle.std.proofs.Common.{◌≡◌, ℕ, suc, ◌+◌, Bool, true, false, List, ◌∷◌, ◌++◌, length, Option, Some, None, option_map, option_and_then, refl, ap, sym, ◌∙◌, append_assoc}
use Rattle.std.proofs.lemmas.List.{append-nil}
use Rattle.asn1_model.specs.Value.{Value, members as in_list, Values, no_more, member, each}
use Rattle.asn1_model.specs.Schema.{Counts, Size, Schema, sequence_of}
use Rattle.asn1_model.specs.Numbers.{is_count_within}
use Rattle.asn1_model.specs.Form.{both, only_if, joined, written}
use Rattle.asn1_model.specs.Oer
use Rattle.asn1_schema_laws.specs.Records.{Record}
use Rattle.asn1_model.specs.Lawful.{member_count}
use Rattle.asn1_schema_laws.specs.Presents.{presents, member_records}
use Rattle.oer_codec_encoder.specs.Steps.{Scope, members, State, runs}
use Rattle.oer_codec_encoder.specs.Ties.{Bridges}
use Rattle.oer_codec_encoder.proofs.Still.{unsigned_still}
use Rattle.oer_codec_encoder.proofs.Bridge.{chain_same, two_texts}

pub length-each : {X : Type 0} (f : Value → X) (vs : Values) → length (each f vs) ≡ member_count vs
length-each f no_more = refl
length-each f (member v vs) = ap suc (length-each f vs)

all_members : (s : Schema) → Bridges s → (vs : Values) (p : ℕ) (os : List ℕ) (k : List Scope) (rest : List Record) →
    runs (member_records (λ v. presents s v) vs ++ rest) (os, members (member_count vs) ∷ k) ≡ option_and_then (λ w. runs rest (os ++ w, k)) (written (joined (each (λ v. Oer.form s v) vs)) p)
unfolding written
all_members s h no_more p os k rest = sym (ap (λ l. runs rest (l, k)) (append-nil os))
all_members s h (member v vs) p os k rest =
    ap (λ l. runs l (os, members (member_count vs) ∷ k)) (append_assoc (presents s v) (member_records (λ v. presents s v) vs) rest)
    ∙ h v p os (members (member_count vs) ∷ k) (member_records (λ v. presents s v) vs ++ rest)
    ∙ chain_same (written (Oer.form s v) p) _ (λ a. option_and_then (λ b. runs rest ((os ++ a) ++ b, k))
    (written (joined (each (λ v. Oer.form s v) vs)) (p + length a))) (λ a. all_members s h vs (p + length a) (os ++ a) k rest)
    ∙ two_texts (written (Oer.form s v) p) (λ a. written (joined (each (λ v. Oer.form s v) vs)) (p + length a)) os (λ w. runs rest (w, k))

counted_members : (s : Schema) → Bridges s → (c : Bool) (vs : Values) (p : ℕ) (os : List ℕ) (k : List Scope) (rest : List Record) →
    option_and_then (λ m. runs (member_records (λ v. presents s v) vs ++ rest) m)
    (option_map {U = State} (λ w. (os ++ w, members (member_count vs) ∷ k)) (written (only_if c (Oer.unsigned (member_count vs))) 0))
    ≡ option_and_then (λ w. runs rest (os ++ w, k)) (written (only_if c (both (Oer.unsigned (member_count vs)) (joined (each (λ v. Oer.form s v) vs)))) p)
unfolding written
counted_members s h false vs p os k rest = refl
counted_members s h true vs p os k rest =
    go (written (Oer.unsigned (member_count vs)) 0)
    ∙ ap (λ o. option_and_then (λ w. runs rest (os ++ w, k))
    (option_and_then (λ a. option_map (λ b. a ++ b) (written (joined (each (λ v. Oer.form s v) vs)) (p + length a))) o)) (sym ((unsigned_still (member_count vs)).at p))
  where
    go : (o : Option (List ℕ)) → option_and_then (λ m. runs (member_records (λ v. presents s v) vs ++ rest) m)
        (option_map {U = State} (λ w. (os ++ w, members (member_count vs) ∷ k)) o) ≡ option_and_then (λ w. runs rest (os ++ w, k))
        (option_and_then (λ a. option_map (λ b. a ++ b) (written (joined (each (λ v. Oer.form s v) vs)) (p + length a))) o)
    go None = refl
    go (Some a) = all_members s h vs (p + length a) (os ++ a) k rest ∙ two_texts (Some a) (λ a. written (joined (each (λ v. Oer.form s v) vs)) (p + length a)) os (λ w. runs rest (w, k))

pub lists : (z : Size) (h : Counts) (s : Schema) → Bridges s → Bridges (sequence_of z h s)
unfolding presents Oer.form Oer.members_form written
lists z h s b (in_list vs) p os k rest =
    counted_members s b (is_count_within h (member_count vs)) vs p os k rest
    ∙ ap (λ n. option_and_then (λ w. runs rest (os ++ w, k))
    (written (only_if (is_count_within h n) (both (Oer.unsigned n) (joined (each (λ v. Oer.form s v) vs)))) p)) (sym (length-each (λ v. Oer.form s v) vs))
lists z h s b v p os k rest = refl
