-- Field-lists with their complete encodings, one after another.
use Rattle.std.proofs.Common.{◌≡◌, ℕ, ◌+◌, ◌<◌, List, [], ◌∷◌, ◌++◌, length, take, get_or, ap, subst, sym, ◌∙◌}
use Rattle.std.proofs.lemmas.List.{take_more}
use Rattle.per_codec_packing.specs.FieldLists.{FieldList}
use Rattle.per_codec_writing.specs.Keys.{IsKeyed, AreKeyed}

one_behind : (ts : List FieldList) (ws : List (List ℕ)) (t : FieldList) (w : List ℕ) → AreKeyed ts ws → IsKeyed t w → AreKeyed (ts ++ t ∷ []) (ws ++ w ∷ [])
one_behind [] [] t w r k = (k, tt)
one_behind [] (v ∷ ws) t w r k = absurd r
one_behind (s ∷ ts) [] t w r k = absurd r
one_behind (s ∷ ts) (v ∷ ws) t w r k = (r.0, one_behind ts ws t w r.1 k)

pub next_keyed : (ts : List FieldList) (ws all : List (List ℕ)) (i : ℕ) (t : FieldList) (w : List ℕ) → i < length ts → AreKeyed (take i ts) ws →
    t ≡ get_or ts i [] → IsKeyed t w → all ≡ ws ++ w ∷ [] → AreKeyed (take (i + 1) ts) all
next_keyed ts ws all i t w h r e k f =
    subst (AreKeyed (take (i + 1) ts)) (sym f)
    (subst (λ us. AreKeyed us (ws ++ w ∷ [])) (ap (λ u. take i ts ++ u ∷ []) e ∙ sym (take_more ts i [] h)) (one_behind (take i ts) ws t w r k))
