-- How octets divide into messages.
use Rattle.std.proofs.Common.{◌≡◌, ℕ, true, List, [], ◌∷◌, ◌++◌, refl, ap, sym, ◌∙◌, subst, append_assoc}
use Rattle.std.proofs.lemmas.List.{append_cancel_left}
use Rattle.asn1_model.specs.Value.{same}
use Rattle.asn1_model.specs.Schema.{Schema}
use Rattle.asn1_model.specs.Lawful.{IsLawful}
use Rattle.asn1_model.specs.Rules.{Rules}
use Rattle.asn1_laws_fronts.proofs.Every.{one_front}
use Rattle.asn1_laws_across.specs.Streams.{Message, IsMessageWithin, Divides, AreSame}

module _ (r : Rules) (s : Schema) (limit : ℕ) where
  pub goes_on : (ms ns : List Message) (rest other w x : List ℕ) → Divides r s limit ms rest w → Divides r s limit ns other (rest ++ x) → Divides r s limit (ms ++ ns) other (w ++ x)
  goes_on [] ns rest other w x h k = subst (λ l. Divides r s limit ns other (l ++ x)) h.0 k
  goes_on (m ∷ ms) ns rest other w x h k = (h.0, h.1 ++ x, sym (append_assoc m.octets h.1 x) ∙ ap (λ l. l ++ x) h.2, goes_on ms ns rest other h.1 x h.3 k)

  module _ (lawful : IsLawful s) where
    -- the first messages of equal octets
    pub first_same : (m n : Message) (x y : List ℕ) → IsMessageWithin r s limit m → IsMessageWithin r s limit n → m.octets ++ x
        ≡ n.octets ++ y → (m.octets ≡ n.octets) × (same m.value n.value ≡ true) × (x ≡ y)
    first_same m n x y h k e =
        let q = one_front r s m.value n.value m.octets n.octets x y lawful h.is_encoding k.is_encoding e in
        (q.0, q.1, append_cancel_left m.octets x y (e ∙ ap (λ l. l ++ y) (sym q.0)))

    pub begins : (ms all : List Message) (rest other w x : List ℕ) → Divides r s limit ms rest w →
        Divides r s limit all other (w ++ x) → (ls : List Message) × (ns : List Message) × (ls ++ ns ≡ all) × AreSame ms ls × Divides r s limit ns other (rest ++ x)
    begins [] all rest other w x h k = ([], all, refl, tt, subst (λ l. Divides r s limit all other (l ++ x)) (sym h.0) k)
    begins (m ∷ ms) [] rest other w x h k = absurd (k.1 m (h.1 ++ x) (sym (append_assoc m.octets h.1 x) ∙ ap (λ l. l ++ x) h.2 ∙ sym k.0) h.0)
    begins (m ∷ ms) (n ∷ all) rest other w x h k =
        let q = first_same m n (h.1 ++ x) k.1 h.0 k.0 (sym (append_assoc m.octets h.1 x) ∙ ap (λ l. l ++ x) h.2 ∙ sym k.2) in
        let i = begins ms all rest other h.1 x h.3 (subst (λ l. Divides r s limit all other l) (sym q.2) k.3) in
        (n ∷ i.0, i.1, ap (λ l. n ∷ l) i.2, (q.0, q.1, i.3), i.4)

    pub once : (ms ns : List Message) (rest other w : List ℕ) → Divides r s limit ms rest w → Divides r s limit ns other w → (rest ≡ other) × AreSame ms ns
    once [] [] rest other w h k = (h.0 ∙ sym k.0, tt)
    once [] (n ∷ ns) rest other w h k = absurd (h.1 n k.1 (k.2 ∙ sym h.0) k.0)
    once (m ∷ ms) [] rest other w h k = absurd (k.1 m h.1 (h.2 ∙ sym k.0) h.0)
    once (m ∷ ms) (n ∷ ns) rest other w h k =
        let q = first_same m n h.1 k.1 h.0 k.0 (h.2 ∙ sym k.2) in
        let i = once ms ns rest other h.1 h.3 (subst (λ l. Divides r s limit ns other l) (sym q.2) k.3) in
        (i.0, (q.0, q.1, i.1))
