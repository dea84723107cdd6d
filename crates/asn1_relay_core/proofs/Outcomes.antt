-- What becomes of a message on a route: one outcome at most, and the outcome of the remaining hops is that of the whole
-- route.
use Rattle.std.proofs.Common.{◌≡◌, ◌≢◌, ◌⊎◌, inl, inr, ℕ, suc, ◌+◌, ◌<◌, ◌≤◌, List, [], ◌∷◌, length, drop, get_or}
use Rattle.std.proofs.Common.{Option, Some, None, IfSome, option_map, Result, Ok, Err, IsErrAnd, Vec, refl, sym, ◌∙◌}
use Rattle.std.proofs.Common.{ap, subst, add-one, drop-cons, arith}
use Rattle.std.proofs.lemmas.List.{drop_all}
use Rattle.asn1_model.specs.Schema.{Schema}
use Rattle.asn1_model.specs.Lawful.{IsLawful}
use Rattle.asn1_model.specs.Rules.{Rules}
use Rattle.asn1_laws_versions.specs.Answers.{Answer, answered, not_an_encoding, surplus, no_target}
use Rattle.asn1_laws_versions.specs.Routes as Model
use Rattle.asn1_laws_versions.specs.Routes.{HopAnswers, Arrives, RefusesAt, IsRefusal}
use Rattle.asn1_relay_core.specs.declared.codec.Codec.{Codec}
use Rattle.asn1_relay_core.specs.declared.codec.Codec.TheVariants.{Uper}
use Rattle.asn1_relay_core.specs.Coding.{rules_of}
use Rattle.asn1_laws_versions.proofs.Routes.{arrives_once, refused_once, not_both}
use Rattle.asn1_relay_core.specs.declared.route_fault.RouteFault.{RouteFault}
use Rattle.asn1_relay_core.specs.declared.route_fault.RouteFaultKind.{RouteFaultKind}
use Rattle.asn1_relay_core.specs.declared.route_fault.RouteFaultKind.TheVariants.{Read, Surplus, NoTarget, Memory}
use Rattle.asn1_relay_core.specs.declared.hop.Hop.{Hop}
use Rattle.asn1_relay_core.specs.declared.hop.Version.TheVariants.{Old}
use Rattle.asn1_relay_core.specs.Routing.{hop_of, hops_of, Outcome, arrived, refused, IsOutcome, Reaches, answer_of_kind, outcome_of}

-- Two outcomes that are right are equal.
pub one_outcome : (old new : Schema) → IsLawful old → IsLawful new → (from : Rules) (hops : List Model.Hop) (w : List ℕ) (x y : Outcome) →
    IsOutcome old new from hops w x → IsOutcome old new from hops w y → x ≡ y
one_outcome old new k l from hops w (arrived x) (arrived y) p q = ap arrived (arrives_once old new k l from hops w x y p q)
one_outcome old new k l from hops w (arrived x) (refused j b) p q = absurd (not_both old new k l from hops w x j b p q)
one_outcome old new k l from hops w (refused i a) (arrived y) p q = absurd (not_both old new k l from hops w y i a q p)
one_outcome old new k l from hops w (refused i a) (refused j b) p q = let e = refused_once old new k l from hops w i j a b p q in cc

-- ---- what remains after some hops

-- The outcome after a number of hops, as the outcome of the whole route.
abbrev pub later : ℕ → Outcome → Outcome
later i (arrived out) = arrived out
later i (refused j a) = refused (i + j) a

-- After this number of hops the message is these octets, written by these rules, and these hops remain: their outcome
-- is that of the whole route.
pub record HasPassed (old new : Schema) (from : Rules) (all : List Model.Hop) (input : List ℕ) (rules : Rules) (left : List Model.Hop) (octets : List ℕ) (i : ℕ) : Type 0 where
  pub outcome : (o : Outcome) → IsOutcome old new rules left octets o → IsOutcome old new from all input (later i o)
  pub reaches : (j : ℕ) → Reaches old new rules left octets j → Reaches old new from all input (i + j)

module _ (old new : Schema) (from : Rules) (all : List Model.Hop) (input : List ℕ) where
  -- one more hop
  pub one_more : (rules : Rules) (h : Model.Hop) (left : List Model.Hop) (octets x : List ℕ) (i : ℕ) →
      HasPassed old new from all input rules (h ∷ left) octets i → HopAnswers old new rules h octets (answered x) → HasPassed old new from all input h.to left x (i + 1)
  one_more rules h left octets x i p a = record {
    outcome = λ o. at o;
    reaches = λ j r. subst (λ n. Reaches old new from all input n) (let z : i + suc j ≡ (i + 1) + j = omega arith in z) (p.reaches (suc j) (x, a, r));
  }
    where
      at : (o : Outcome) → IsOutcome old new h.to left x o → IsOutcome old new from all input (later (i + 1) o)
      at (arrived out) q = p.outcome (arrived out) (x, a, q)
      at (refused j b) q = subst (λ n. RefusesAt old new from all input n b) (let z : i + suc j ≡ (i + 1) + j = omega arith in z) (p.outcome (refused (suc j) b) (x, a, q))

  -- before the first
  pub none_passed : HasPassed old new from all input from all input 0
  none_passed = record {
    outcome = λ o. at o;
    reaches = λ j r. subst (λ n. Reaches old new from all input n) (let z : j ≡ 0 + j = omega arith in z) r;
  }
    where
      at : (o : Outcome) → IsOutcome old new from all input o → IsOutcome old new from all input (later 0 o)
      at (arrived out) q = q
      at (refused j b) q = subst (λ n. RefusesAt old new from all input n b) (let z : j ≡ 0 + j = omega arith in z) q

-- ---- hops as the program has them

-- Any hop, if there is none at an index.
abbrev pub any_hop : Hop
any_hop = record { version = Old; to = Uper }

pub some_hop : (hops : List Hop) → hops ≢ [] → 0 < length hops
some_hop [] n = absurd (n refl)
some_hop (h ∷ hops) n = omega arith

pub some_model_hop : (hops : List Hop) → hops ≢ [] → hops_of hops ≢ []
some_model_hop [] n e = n refl
some_model_hop (h ∷ hops) n e = cc

as_err : {X : Type 0} (P : Outcome → Type 0) (r : Result (Vec ℕ X) RouteFault) (f : RouteFault) → IsErrAnd r (λ y. y ≡ f) →
    IfSome (option_map (λ a. refused f.hop a) (answer_of_kind f.kind)) P → IfSome (outcome_of r) P
as_err P (Ok x) f e q = absurd e
as_err P (Err y) f e q = subst (λ y. IfSome (option_map (λ a. refused y.hop a) (answer_of_kind y.kind)) P) (sym e) q

module _ (old new : Schema) (from : Codec) (hops : List Hop) (input : List ℕ) where
  -- After this number of hops.
  abbrev pub PassedBy : Codec → List ℕ → ℕ → Type 0
  PassedBy rules octets i = HasPassed old new (rules_of from) (hops_of hops) input (rules_of rules) (hops_of (drop i hops)) octets i

  -- What becomes of the input.
  abbrev pub ComesOf : Outcome → Type 0
  ComesOf o = IsOutcome old new (rules_of from) (hops_of hops) input o

  -- the next hop
  abbrev at_place : ℕ → Hop
  at_place i = get_or hops i any_hop

  next_is : (rules : Codec) (octets : List ℕ) (i : ℕ) → i < length hops → PassedBy rules octets i →
      HasPassed old new (rules_of from) (hops_of hops) input (rules_of rules) (hop_of (at_place i) ∷ hops_of (drop (i + 1) hops)) octets i
  next_is rules octets i l p =
      let q : drop i hops ≡ at_place i ∷ drop (i + 1) hops = drop-cons hops i any_hop l ∙ ap (λ n. at_place i ∷ drop n hops) (sym (add-one i)) in
      subst (λ left. HasPassed old new (rules_of from) (hops_of hops) input (rules_of rules) (hops_of left) octets i) q p

  pub nothing_passed : PassedBy from input 0
  nothing_passed = none_passed old new (rules_of from) (hops_of hops) input

  pub all_passed : (rules : Codec) (octets : List ℕ) (i : ℕ) → length hops ≤ i → PassedBy rules octets i → Arrives old new (rules_of from) (hops_of hops) input octets
  all_passed rules octets i l p =
      let q : HasPassed old new (rules_of from) (hops_of hops) input (rules_of rules) [] octets i =
      subst (λ left. HasPassed old new (rules_of from) (hops_of hops) input (rules_of rules) (hops_of left) octets i) (drop_all i hops l) p in
      q.outcome (arrived octets) refl

  module _ (rules : Codec) (octets : List ℕ) (i : ℕ) (l : i < length hops) (p : PassedBy rules octets i) (read : List ℕ) (is_read : read ≡ octets) where
    -- What the next hop returns.
    abbrev Answers : Answer → Type 0
    Answers a = HopAnswers old new (rules_of rules) (hop_of (at_place i)) read a

    -- it returns octets
    pub next_passed : (x : List ℕ) → Answers (answered x) → PassedBy (at_place i).to x (i + 1)
    next_passed x a = one_more old new (rules_of from) (hops_of hops) input (rules_of rules) (hop_of (at_place i)) (hops_of (drop (i + 1) hops))
        octets x i (next_is rules octets i l p) (subst (λ w. HopAnswers old new (rules_of rules) (hop_of (at_place i)) w (answered x)) is_read a)

    -- it rejects them
    stops : (a : Answer) → IsRefusal a → Answers a → RefusesAt old new (rules_of from) (hops_of hops) input i a
    stops a r q =
        let q' : HopAnswers old new (rules_of rules) (hop_of (at_place i)) octets a = subst (λ w. HopAnswers old new (rules_of rules) (hop_of (at_place i)) w a) is_read q in
        subst (λ n. RefusesAt old new (rules_of from) (hops_of hops) input n a) (let z : i + 0 ≡ i = omega arith in z) ((next_is rules octets i l p).outcome (refused 0 a) (r, q'))

    told : (k : RouteFaultKind) → IfSome (answer_of_kind k) Answers → IfSome (option_map (λ a. refused i a) (answer_of_kind k)) ComesOf
    told (Read x) q = stops not_an_encoding tt q
    told Surplus q = stops surplus tt q
    told (NoTarget x) q = stops no_target tt q
    told Memory q = tt

    pub refused_there : {X : Type 0} (r : Result (Vec ℕ X) RouteFault) (f : RouteFault) → IsErrAnd r (λ y. y ≡ f) → f.hop ≡ i → IfSome (answer_of_kind f.kind) Answers → IfSome (outcome_of r) ComesOf
    refused_there r f e n q = as_err ComesOf r f e (subst (λ m. IfSome (option_map (λ a. refused m a) (answer_of_kind f.kind)) ComesOf) (sym n) (told f.kind q))

    pub is_reached : (f : RouteFault) → f.hop ≡ i → Reaches old new (rules_of from) (hops_of hops) input f.hop
    is_reached f n = subst (λ m. Reaches old new (rules_of from) (hops_of hops) input m) (let z : i + 0 ≡ f.hop = omega arith in z) ((next_is rules octets i l p).reaches 0 tt)

  -- what is right is the only outcome
  pub only_outcome : IsLawful old → IsLawful new → (x : Option Outcome) → IfSome x ComesOf → (o : Outcome) → ComesOf o → (x ≡ None) ⊎ (x ≡ Some o)
  only_outcome k l None r o q = inl refl
  only_outcome k l (Some x) r o q = inr (ap Some (one_outcome old new k l (rules_of from) (hops_of hops) input x o r q))
