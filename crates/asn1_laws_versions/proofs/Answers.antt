-- At most one answer to given octets is right.
use Rattle.std.proofs.Common.{◌≡◌, ℕ, List, [], ◌++◌, Some, None, refl, sym, ◌∙◌, ap}
use Rattle.std.proofs.lemmas.List.{append_cancel_left, append-nil}
use Rattle.asn1_model.specs.Schema.{Schema}
use Rattle.asn1_model.specs.Value.{Value}
use Rattle.asn1_model.specs.Lawful.{IsLawful}
use Rattle.asn1_model.specs.Rules.{Rules, canonical}
use Rattle.asn1_laws_across.proofs.Canonical.{same_written}
use Rattle.asn1_laws_fronts.proofs.Every.{one_front}
use Rattle.asn1_laws_versions.specs.Answers.{IsMessage, Answer, answered, not_an_encoding, surplus, no_target, IsAnswer}

pub whole : (w : List ℕ) → w ++ [] ≡ w
whole w = append-nil w

module _ (source target : Rules) (s : Schema) (w : List ℕ) (lawful : IsLawful s) where
  abbrev Message : Value → List ℕ → Type 0
  Message v x = IsMessage source s v x

  -- two messages that are all of the octets have the same encoding
  pub alike : (v u : Value) → Message v w → Message u w → canonical target s v ≡ canonical target s u
  alike v u p q = same_written target s v u lawful (one_front source s v u w w [] [] lawful p.0 q.0 refl).1

  -- none follow a message that is all of them
  pub none_behind : (v u : Value) (front behind : List ℕ) → Message v w → Message u front → front ++ behind ≡ w → behind ≡ []
  none_behind v u front behind p q e =
      let f = (one_front source s u v front w behind [] lawful q.0 p.0 (e ∙ sym (whole w))).0 in
      append_cancel_left front behind [] (e ∙ sym f ∙ sym (whole front))

  pub one_answer : (x y : Answer) → IsAnswer source target s w x → IsAnswer source target s w y → x ≡ y
  one_answer (answered a) (answered b) p q = let e = sym p.2 ∙ (alike p.0 q.0 p.1 q.1 ∙ q.2) in ap answered (cc e)
  one_answer (answered a) not_an_encoding p q = absurd (q w [] p.0 (whole w) p.1)
  one_answer (answered a) surplus p q = absurd (q.4 (none_behind p.0 q.2 q.0 q.1 p.1 q.5 q.3))
  one_answer (answered a) no_target p q = let e : Some a ≡ None = sym p.2 ∙ (alike p.0 q.0 p.1 q.1 ∙ q.2) in cc
  one_answer not_an_encoding (answered b) p q = absurd (p w [] q.0 (whole w) q.1)
  one_answer not_an_encoding not_an_encoding p q = refl
  one_answer not_an_encoding surplus p q = absurd (p q.0 q.1 q.2 q.3 q.5)
  one_answer not_an_encoding no_target p q = absurd (p w [] q.0 (whole w) q.1)
  one_answer surplus (answered b) p q = absurd (p.4 (none_behind q.0 p.2 p.0 p.1 q.1 p.5 p.3))
  one_answer surplus not_an_encoding p q = absurd (q p.0 p.1 p.2 p.3 p.5)
  one_answer surplus surplus p q = refl
  one_answer surplus no_target p q = absurd (p.4 (none_behind q.0 p.2 p.0 p.1 q.1 p.5 p.3))
  one_answer no_target (answered b) p q = let e : None ≡ Some b = sym p.2 ∙ (alike p.0 q.0 p.1 q.1 ∙ q.2) in cc
  one_answer no_target not_an_encoding p q = absurd (q w [] p.0 (whole w) p.1)
  one_answer no_target surplus p q = absurd (q.4 (none_behind p.0 q.2 q.0 q.1 p.1 q.5 q.3))
  one_answer no_target no_target p q = refl
