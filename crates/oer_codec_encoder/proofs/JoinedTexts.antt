-- Loops over elements.
use Rattle.std.proofs.Common.{◌≡◌, ℕ, ◌+◌, ◌<◌, List, [], ◌∷◌, ◌++◌, length, get_or, map, take, ap, sym, ◌∙◌, append_assoc}
use Rattle.std.proofs.lemmas.List.{take_more, append-nil}
use Rattle.asn1_schema_order.specs.declared.encodings.Entry.{Entry}
use Rattle.asn1_schema_order.specs.Entries.{octets_of}
use Rattle.oer_codec_encoder.specs.Joined.{texts_joined}

-- ---- texts in sequence

texts_more : (xs : List Entry) (x : Entry) → texts_joined (map octets_of (xs ++ x ∷ [])) ≡ texts_joined (map octets_of xs) ++ octets_of x
texts_more [] x = append-nil (octets_of x)
texts_more (y ∷ ys) x = ap (λ l. octets_of y ++ l) (texts_more ys x) ∙ sym (append_assoc (octets_of y) (texts_joined (map octets_of ys)) (octets_of x))

pub text_next : (old now new : List ℕ) (xs : List Entry) (i : ℕ) (d : Entry) → i < length xs → now ≡ old ++ texts_joined (map octets_of (take i xs)) →
    new ≡ now ++ octets_of (get_or xs i d) → new ≡ old ++ texts_joined (map octets_of (take (i + 1) xs))
text_next old now new xs i d h a b =
    let x = get_or xs i d in
    b ∙ ap (λ l. l ++ octets_of x) a ∙ append_assoc old (texts_joined (map octets_of (take i xs))) (octets_of x)
    ∙ ap (λ l. old ++ l) (sym (ap (λ l. texts_joined (map octets_of l)) (take_more xs i d h) ∙ texts_more (take i xs) x))
