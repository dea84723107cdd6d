-- What a route does with the canonical encoding of a value of the newer version.
use Rattle.std.proofs.Common.{◌≡◌, ◌≢◌, ◌⊎◌, inl, inr, ℕ, zero, suc, List, [], ◌∷◌, Some, refl, ap, sym, ◌∙◌, subst}
use Rattle.asn1_model.specs.Value.{Value}
use Rattle.asn1_model.specs.Schema.{Schema}
use Rattle.asn1_model.specs.Lawful.{IsLawful}
use Rattle.asn1_model.specs.Rules.{Rules, canonical}
use Rattle.asn1_model.specs.Versions.{Extends}
use Rattle.asn1_laws_versions.specs.Answers.{Answer, answered}
use Rattle.asn1_laws_versions.specs.Routes.{Version, older, newer, Hop, schema_of, IsRefusal, HopAnswers, Arrives}
use Rattle.asn1_laws_versions.specs.Routes.{RefusesAt, Stage, at_first, behind, Cause, unknown, too_deep, clash}
use Rattle.asn1_laws_versions.specs.Routes.{missing, unwritable, answer_to, Writes, HasCause, GoesThrough, FailsAt}
use Rattle.asn1_laws_versions.specs.Routes.{IsLastWritten, StandsWritten}
use Rattle.asn1_laws_versions.proofs.Answers.{one_answer}
use Rattle.asn1_laws_versions.proofs.Hops.{Step, step, hands_on, answers_by_cause}

module _ (old new : Schema) (lo : IsLawful old) (ln : IsLawful new) where
  -- ---- of any octets

  lawful_of : (n : Version) → IsLawful (schema_of old new n)
  lawful_of older = lo
  lawful_of newer = ln

  hop_once : (from : Rules) (h : Hop) (w : List ℕ) (x y : Answer) → HopAnswers old new from h w x → HopAnswers old new from h w y → x ≡ y
  hop_once from h w x y p q = one_answer from h.to (schema_of old new h.version) w (lawful_of h.version) x y p q

  hop_hands_once : (from : Rules) (h : Hop) (w x y : List ℕ) → HopAnswers old new from h w (answered x) → HopAnswers old new from h w (answered y) → x ≡ y
  hop_hands_once from h w x y p q = let e : answered x ≡ answered y = hop_once from h w (answered x) (answered y) p q in cc

  hands_or_refuses : (from : Rules) (h : Hop) (w x : List ℕ) (a : Answer) → HopAnswers old new from h w (answered x) → HopAnswers old new from h w a → IsRefusal a → ⊥
  hands_or_refuses from h w x a p q r = subst IsRefusal (sym (hop_once from h w (answered x) a p q)) r

  pub arrives_once : (from : Rules) (hops : List Hop) (w out other : List ℕ) → Arrives old new from hops w out → Arrives old new from hops w other → out ≡ other
  arrives_once from [] w out other p q = sym p ∙ q
  arrives_once from (h ∷ hops) w out other p q =
      let e = hop_hands_once from h w p.0 q.0 p.1 q.1 in
      arrives_once h.to hops q.0 out other (subst (λ x. Arrives old new h.to hops x out) e p.2) q.2

  pub refused_once : (from : Rules) (hops : List Hop) (w : List ℕ) (i j : ℕ) (a b : Answer) → RefusesAt old new from hops w i a → RefusesAt old new from hops w j b → (i ≡ j) × (a ≡ b)
  refused_once from [] w i j a b p q = absurd p
  refused_once from (h ∷ hops) w zero zero a b p q = (refl, hop_once from h w a b p.1 q.1)
  refused_once from (h ∷ hops) w zero (suc j) a b p q = absurd (hands_or_refuses from h w q.0 a q.1 p.1 p.0)
  refused_once from (h ∷ hops) w (suc i) zero a b p q = absurd (hands_or_refuses from h w p.0 b p.1 q.1 q.0)
  refused_once from (h ∷ hops) w (suc i) (suc j) a b p q =
      let e = hop_hands_once from h w p.0 q.0 p.1 q.1 in
      let r = refused_once h.to hops q.0 i j a b (subst (λ x. RefusesAt old new h.to hops x i a) e p.2) q.2 in
      (ap suc r.0, r.1)

  pub not_both : (from : Rules) (hops : List Hop) (w out : List ℕ) (i : ℕ) (a : Answer) → Arrives old new from hops w out → RefusesAt old new from hops w i a → ⊥
  not_both from [] w out i a p q = q
  not_both from (h ∷ hops) w out zero a p q = hands_or_refuses from h w p.0 a p.1 q.1 q.0
  not_both from (h ∷ hops) w out (suc i) a p q =
      let e = hop_hands_once from h w p.0 q.0 p.1 q.1 in
      not_both h.to hops q.0 out i a (subst (λ x. Arrives old new h.to hops x out) e p.2) q.2

  -- ---- of the canonical encoding of a value of the newer version
  module _ (ext : Extends old new) (v : Value) where
    by_cause : (c : Cause) (a : Answer) → answer_to c ≡ a → IsRefusal a
    by_cause unknown a e = subst IsRefusal e tt
    by_cause too_deep a e = subst IsRefusal e tt
    by_cause clash a e = subst IsRefusal e tt
    by_cause missing a e = subst IsRefusal e tt
    by_cause unwritable a e = subst IsRefusal e tt

    refusal_of : (p : Stage) (h : Hop) (a : Answer) → HasCause old new p h v a → IsRefusal a
    refusal_of p h a c = by_cause c.0 a c.2

    abbrev Free : Stage → List Hop → List ℕ → Type 0
    Free p hops w = GoesThrough old new p hops v × ((out : List ℕ) × Arrives old new p.from hops w out × (hops ≢ [] → IsLastWritten old new p hops v out))

    abbrev Failed : Stage → List Hop → List ℕ → Type 0
    Failed p hops w = (i : ℕ) × (a : Answer) × FailsAt old new p hops v i a × RefusesAt old new p.from hops w i a

    last_of : (p : Stage) (h : Hop) (hops : List Hop) (x out : List ℕ) → Writes old new p.passed h v (Some x) →
        Arrives old new h.to hops x out → (hops ≢ [] → IsLastWritten old new (behind p h) hops v out) → IsLastWritten old new p (h ∷ hops) v out
    last_of p h [] x out k a l = subst (λ x. Writes old new p.passed h v (Some x)) a k
    last_of p h (g ∷ hops) x out k a l = l (λ e. cc)

    goes_on : (p : Stage) (h : Hop) (hops : List Hop) (w : List ℕ) → (k : Step old new lo ln ext p h v w) →
        ((x : List ℕ) → StandsWritten old new (behind p h).passed (behind p h).from v x → Free (behind p h) hops x ⊎ Failed (behind p h) hops x) → Free p (h ∷ hops) w ⊎ Failed p (h ∷ hops) w
    goes_on p h hops w (inr k) next = inr (zero, k.0, k.1, (refusal_of p h k.0 k.1, k.2))
    goes_on p h hops w (inl k) next = further (next k.1.0 k.1.3)
      where
        further : Free (behind p h) hops k.1.0 ⊎ Failed (behind p h) hops k.1.0 → Free p (h ∷ hops) w ⊎ Failed p (h ∷ hops) w
        further (inl f) = inl ((k.0, f.0), (f.1.0, (k.1.0, k.1.1, f.1.1), λ n. last_of p h hops k.1.0 f.1.0 k.1.2 f.1.1 f.1.2))
        further (inr f) = inr (suc f.0, f.1, (k.0, f.2), (k.1.0, k.1.1, f.3))

    -- it goes through, or fails at a hop
    pub ends : (p : Stage) (hops : List Hop) (w : List ℕ) → StandsWritten old new p.passed p.from v w → Free p hops w ⊎ Failed p hops w
    ends p [] w e = inl (tt, (w, refl, λ n. absurd (n refl)))
    ends p (h ∷ hops) w e = goes_on p h hops w (step old new lo ln ext p h v w e) (λ x k. ends (behind p h) hops x k)

    pub fails_or_goes : (p : Stage) (hops : List Hop) (i : ℕ) (a : Answer) → GoesThrough old new p hops v → FailsAt old new p hops v i a → ⊥
    fails_or_goes p [] i a g f = f
    fails_or_goes p (h ∷ hops) zero a g f = g.0 f.0 f.1
    fails_or_goes p (h ∷ hops) (suc i) a g f = fails_or_goes (behind p h) hops i a g.1 f.1

    pub fails_refuses : (p : Stage) (hops : List Hop) (w : List ℕ) (i : ℕ) (a : Answer) → StandsWritten old new p.passed p.from v w → FailsAt old new p hops v i a → RefusesAt old new p.from hops w i a
    fails_refuses p [] w i a e f = f
    fails_refuses p (h ∷ hops) w zero a e f = (refusal_of p h a f, answers_by_cause old new lo ln ext p h v w a e f)
    fails_refuses p (h ∷ hops) w (suc i) a e f =
        let k = hands_on old new lo ln ext p h v w e f.0 in
        (k.0, k.1, fails_refuses (behind p h) hops k.0 i a k.3 f.1)

    module _ (from : Rules) (hops : List Hop) (w : List ℕ) (e : canonical from new v ≡ Some w) where
      abbrev All : Type 0
      All = Free (at_first from) hops w ⊎ Failed (at_first from) hops w

      all : All
      all = ends (at_first from) hops w e

      pub free_arrives : GoesThrough old new (at_first from) hops v → (out : List ℕ) × Arrives old new from hops w out
      free_arrives g = by_end all
        where
          by_end : All → (out : List ℕ) × Arrives old new from hops w out
          by_end (inl f) = (f.1.0, f.1.1)
          by_end (inr f) = absurd (fails_or_goes (at_first from) hops f.0 f.1 g f.2)

      pub arrives_free : (out : List ℕ) → Arrives old new from hops w out → GoesThrough old new (at_first from) hops v
      arrives_free out a = by_end all
        where
          by_end : All → GoesThrough old new (at_first from) hops v
          by_end (inl f) = f.0
          by_end (inr f) = absurd (not_both from hops w out f.0 f.1 a f.3)

      pub arrives_last : hops ≢ [] → (out : List ℕ) → Arrives old new from hops w out → IsLastWritten old new (at_first from) hops v out
      arrives_last n out a = by_end all
        where
          by_end : All → IsLastWritten old new (at_first from) hops v out
          by_end (inl f) = subst (λ x. IsLastWritten old new (at_first from) hops v x) (arrives_once from hops w f.1.0 out f.1.1 a) (f.1.2 n)
          by_end (inr f) = absurd (not_both from hops w out f.0 f.1 a f.3)

      pub refuses_fails : (i : ℕ) (a : Answer) → RefusesAt old new from hops w i a → FailsAt old new (at_first from) hops v i a
      refuses_fails i a r = by_end all
        where
          by_end : All → FailsAt old new (at_first from) hops v i a
          by_end (inl f) = absurd (not_both from hops w f.1.0 i a f.1.1 r)
          by_end (inr f) =
              let s = refused_once from hops w f.0 i f.1 a f.3 r in
              subst (λ a. FailsAt old new (at_first from) hops v i a) s.1 (subst (λ i. FailsAt old new (at_first from) hops v i f.1) s.0 f.2)

      pub arrives_or_refuses : ((out : List ℕ) × Arrives old new from hops w out) ⊎ ((i : ℕ) × (a : Answer) × RefusesAt old new from hops w i a)
      arrives_or_refuses = by_end all
        where
          by_end : All → ((out : List ℕ) × Arrives old new from hops w out) ⊎ ((i : ℕ) × (a : Answer) × RefusesAt old new from hops w i a)
          by_end (inl f) = inl (f.1.0, f.1.1)
          by_end (inr f) = inr (f.0, f.1, f.3)
