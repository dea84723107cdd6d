-- What becomes of the canonical encoding of a value of the newer version, at any depth of unfolding of its type.
use Rattle.std.proofs.Common.{◌≡◌, ◌≢◌, ◌⊎◌, inl, inr, ℕ, zero, suc, ◌≤◌, List, [], ◌∷◌, Option, Some, None, IfSome, arith, refl, sym, ◌∙◌, ap, subst}
use Rattle.asn1_model.specs.Schema.{Schema}
use Rattle.asn1_model.specs.Value.{Value, depth}
use Rattle.asn1_model.specs.Lawful.{IsLawful}
use Rattle.asn1_model.specs.Tidy.{IsTidy}
use Rattle.asn1_model.specs.Rules.{Rules, canonical}
use Rattle.asn1_model.specs.Versions.{Extends}
use Rattle.asn1_schema_types.specs.Versions.{ExtendsFrom, Unfolds}
use Rattle.asn1_laws_values.specs.Unfolding.{AgreesTo}
use Rattle.asn1_laws_values.proofs.Unfolding.{means_the_same}
use Rattle.asn1_laws_versions.specs.Answers.{IsMessage, Answer, answered, not_an_encoding, surplus, no_target, IsAnswer}
use Rattle.asn1_laws_versions.specs.Routes.{Version, older, newer, Hop, schema_of, Arrives, RefusesAt, Passed, Stage, at_first, behind, Writes, IsLastWritten}
use Rattle.asn1_laws_versions.proofs.Routes.{free_arrives, arrives_free, arrives_last, fails_refuses, refuses_fails}
use Rattle.asn1_relay_core.specs.Routing.{Outcome, arrived, refused, IsOutcome, IsTold}
use Rattle.asn1_relay_core.proofs.Outcomes.{one_outcome}

some_is : {X : Type 0} {x y : X} → Some x ≡ Some y → x ≡ y
some_is e = cc

-- ---- types that agree in what hops read

module _ (s t : Schema) (k : IsTidy s) (l : IsTidy t) (h : AgreesTo 128 s t) where
  message_alike : (r : Rules) (v : Value) (w : List ℕ) → (IsMessage r s v w → IsMessage r t v w) × (IsMessage r t v w → IsMessage r s v w)
  message_alike r v w = ((λ m. ((means_the_same r 128 s t v w k l h m.1).2 m.0, m.1)), (λ m. ((means_the_same r 128 s t v w k l h m.1).3 m.0, m.1)))

  written_alike : (r : Rules) (v : Value) (o : Option (List ℕ)) → depth v ≤ 128 → canonical r s v ≡ o → canonical r t v ≡ o
  written_alike r v o d e = sym (means_the_same r 128 s t v [] k l h d).1 ∙ e

  answers_alike : (source target : Rules) (w : List ℕ) (a : Answer) → IsAnswer source target s w a → IsAnswer source target t w a
  answers_alike source target w (answered x) p = (p.0, (message_alike source p.0 w).0 p.1, written_alike target p.0 (Some x) p.1.1 p.2)
  answers_alike source target w not_an_encoding p = λ front behind v e m. p front behind v e ((message_alike source v front).1 m)
  answers_alike source target w surplus p = (p.0, p.1, p.2, p.3, p.4, (message_alike source p.2 p.0).0 p.5)
  answers_alike source target w no_target p = (p.0, (message_alike source p.0 w).0 p.1, written_alike target p.0 None p.1.1 p.2)

module _ (old new s t : Schema) (k : IsTidy old) (l : IsTidy new) (k' : IsTidy s) (l' : IsTidy t) (h : AgreesTo 128 old s) (h' : AgreesTo 128 new t) where
  hop_alike : (n : Version) (from to : Rules) (w : List ℕ) (a : Answer) → IsAnswer from to (schema_of old new n) w a → IsAnswer from to (schema_of s t n) w a
  hop_alike older from to w a p = answers_alike old s k k' h from to w a p
  hop_alike newer from to w a p = answers_alike new t l l' h' from to w a p

  arrives_alike : (from : Rules) (hops : List Hop) (w out : List ℕ) → Arrives old new from hops w out → Arrives s t from hops w out
  arrives_alike from [] w out p = p
  arrives_alike from (g ∷ hops) w out p = (p.0, hop_alike g.version from g.to w (answered p.0) p.1, arrives_alike g.to hops p.0 out p.2)

  refuses_alike : (from : Rules) (hops : List Hop) (w : List ℕ) (i : ℕ) (a : Answer) → RefusesAt old new from hops w i a → RefusesAt s t from hops w i a
  refuses_alike from [] w i a p = p
  refuses_alike from (g ∷ hops) w zero a p = (p.0, hop_alike g.version from g.to w a p.1)
  refuses_alike from (g ∷ hops) w (suc i) a p = (p.0, hop_alike g.version from g.to w (answered p.0) p.1, refuses_alike g.to hops p.0 i a p.2)

  outcome_alike : (from : Rules) (hops : List Hop) (w : List ℕ) (o : Outcome) → IsOutcome old new from hops w o → IsOutcome s t from hops w o
  outcome_alike from hops w (arrived out) p = arrives_alike from hops w out p
  outcome_alike from hops w (refused i a) p = refuses_alike from hops w i a p

-- ---- what follows from the value

module _ (old new : Schema) (v : Value) where
  -- the last hop writes one encoding at most
  written_once : (p : Passed) (h : Hop) (x y : List ℕ) → Writes old new p h v (Some x) → Writes old new p h v (Some y) → x ≡ y
  written_once p h x y a b = let e : a.0 ≡ b.0 = some_is (sym a.1 ∙ b.1) in some_is (sym a.2 ∙ (ap (λ u. canonical h.to (schema_of old new h.version) u) e ∙ b.2))

  last_once : (p : Stage) (hops : List Hop) (x y : List ℕ) → IsLastWritten old new p hops v x → IsLastWritten old new p hops v y → x ≡ y
  last_once p [] x y a b = absurd a
  last_once p (h ∷ []) x y a b = written_once p.passed h x y a b
  last_once p (h ∷ g ∷ hops) x y a b = last_once (behind p h) (g ∷ hops) x y a b

-- The octets are the canonical encoding of a value of the newer version. Both types are unfolded as deep as the value
-- needs, and agree with those of the hops in what these read.
record IsUnfolded (old new : Schema) (from : Rules) (w : List ℕ) (s t : Schema) (v : Value) : Type 0 where
  is_lawful_older : IsLawful s
  is_lawful_newer : IsLawful t
  is_tidy_older : IsTidy s
  is_tidy_newer : IsTidy t
  extends : Extends s t
  agrees_older : AgreesTo 128 old s
  agrees_newer : AgreesTo 128 new t
  is_encoding : canonical from t v ≡ Some w

module _ (old new : Schema) (k : IsTidy old) (l : IsTidy new) (from : Rules) (hops : List Hop) (w : List ℕ) (some : hops ≢ []) (s t : Schema) (v : Value) (c : IsUnfolded old new from w s t v) where
  -- what becomes of the octets follows from the value
  told_of : (o : Outcome) → IsOutcome s t from hops w o → IsTold s t from hops v o
  told_of (arrived out) p = (
    arrives_free s t c.is_lawful_older c.is_lawful_newer c.extends v from hops w c.is_encoding out p,
    arrives_last s t c.is_lawful_older
        c.is_lawful_newer c.extends v from hops w c.is_encoding some out p,
  )
  told_of (refused i a) p = refuses_fails s t c.is_lawful_older c.is_lawful_newer c.extends v from hops w c.is_encoding i a p

  -- and vice versa
  of_told : (o : Outcome) → IsTold s t from hops v o → IsOutcome s t from hops w o
  of_told (arrived out) p = last (free_arrives s t c.is_lawful_older c.is_lawful_newer c.extends v from hops w c.is_encoding p.0)
    where
      last : (x : List ℕ) × Arrives s t from hops w x → Arrives s t from hops w out
      last x = subst (λ y. Arrives s t from hops w y) (last_once s t v (at_first from) hops x.0 out
          (arrives_last s t c.is_lawful_older c.is_lawful_newer c.extends v from hops w c.is_encoding some x.0 x.1) p.1) x.1
  of_told (refused i a) p = fails_refuses s t c.is_lawful_older c.is_lawful_newer c.extends v (at_first from) hops w i a c.is_encoding p

  alike : (o : Outcome) → IsOutcome old new from hops w o → IsOutcome s t from hops w o
  alike o p = outcome_alike old new s t k l c.is_tidy_older c.is_tidy_newer c.agrees_older c.agrees_newer from hops w o p

  told_unfolded : (x : Option Outcome) → IfSome x (IsOutcome old new from hops w) → IfSome x (IsTold s t from hops v)
  told_unfolded None r = tt
  told_unfolded (Some o) r = told_of o (alike o r)

  only_unfolded : (x : Option Outcome) → IfSome x (IsOutcome old new from hops w) → (o : Outcome) → IsTold s t from hops v o → (x ≡ None) ⊎ (x ≡ Some o)
  only_unfolded None r o p = inl refl
  only_unfolded (Some x) r o p = inr (ap Some (one_outcome s t c.is_lawful_older c.is_lawful_newer from hops w x o (alike x r) (of_told o p)))

module _ (old new : ℕ → Schema) (k : (n : ℕ) → IsLawful (old n)) (l : (n : ℕ) → IsLawful (new n)) (i : (n : ℕ) → IsTidy (old n))
    (j : (n : ℕ) → IsTidy (new n)) (x : ExtendsFrom 128 old new) (y : Unfolds old) (z : Unfolds new) (from : Rules) (hops : List Hop) (w : List ℕ)
    (some : hops ≢ []) (n : ℕ) (v : Value) (c : (128 ≤ n) × (canonical from (new n) v ≡ Some w)) where
  unfolded : IsUnfolded (old 128) (new 128) from w (old n) (new n) v
  unfolded =
      let h : 128 ≤ 128 = omega arith in
      record {
        is_lawful_older = k n;
        is_lawful_newer = l n;
        is_tidy_older = i n;
        is_tidy_newer = j n;
        extends = x.unfolded n c.0;
        agrees_older = y.alike 128 128 n h c.0;
        agrees_newer = z.alike 128 128 n h c.0;
        is_encoding = c.1;
      }

  pub is_told : (o : Option Outcome) → IfSome o (IsOutcome (old 128) (new 128) from hops w) → IfSome o (IsTold (old n) (new n) from hops v)
  is_told o r = told_unfolded (old 128) (new 128) (i 128) (j 128) from hops w some (old n) (new n) v unfolded o r

  pub only_told : (o : Option Outcome) → IfSome o (IsOutcome (old 128) (new 128) from hops w) → (q : Outcome) → IsTold (old n) (new n) from hops v q → (o ≡ None) ⊎ (o ≡ Some q)
  only_told o r q p = only_unfolded (old 128) (new 128) (i 128) (j 128) from hops w some (old n) (new n) v unfolded o r q p
