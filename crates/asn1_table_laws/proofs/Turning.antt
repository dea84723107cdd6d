-- A walk goes on by turns: what is still to come, the innermost first.
use Rattle.std.proofs.Common.{List, [], ◌∷◌, Option, Some, None}
use Rattle.asn1_model.specs.Schema.{Schema}
use Rattle.asn1_schema_errors.specs.declared.DecodeError.{DecodeError}
use Rattle.asn1_schema_laws.specs.Records.{Record}
use Rattle.asn1_table_laws.specs.Walks.{Told, NoValue, Pending, Ends, Stuck, Opens, Passes, Awaits, Goes, GoesOn, StuckFrom}

-- what a value leaves to come
abbrev pub with_rest : Option Pending → List Pending → List Pending
with_rest None ps = ps
with_rest (Some p) ps = p ∷ ps

-- a value of the type has begun, or is read, at the start
pub begins : {S : Type 0} (step : S → Record → S → Type 0) (few within : S → S → S → Type 0) (s : Schema) (o : Option Pending) (start b : S) (k K : List Record) →
    Opens step few within s o start b k K → Goes step few within s start k (with_rest o []) b K
unfolding Goes
begins step few within s None start b k K h = h
begins step few within s (Some p) start b k K h = (λ c more r. h.done c more r, λ failed x u. h.stuck failed x u)

-- nothing is still to come
pub finished : {S : Type 0} (step : S → Record → S → Type 0) (few within : S → S → S → Type 0) (s : Schema) (start b : S) (k K : List Record) → Goes step few within s start k [] b K →
    Told step s start b k K
unfolding Goes
finished step few within s start b k K g = g

module _ {S : Type 0} {step : S → Record → S → Type 0} {few within : S → S → S → Type 0} where
  -- ---- one turn
  pub goes_left : {p : Pending} {ps : List Pending} {a b : S} {K K1 : List Record} → Ends step p a b K K1 → GoesOn step few within (p ∷ ps) ps a b K K1
  unfolding Goes
  goes_left {b = b} {K1 = K1} h = record { goes = λ s start k g. g.0 b K1 h }

  pub goes_again : {p q : Pending} {ps : List Pending} {a b : S} {K K1 : List Record} → Passes step few within p q a b K K1 → GoesOn step few within (p ∷ ps) (q ∷ ps) a b K K1
  unfolding Goes
  goes_again h = record { goes = λ s start k g. (λ c more r. g.0 c more (h.done c more r), λ failed x u. g.1 failed x (h.stuck failed x u)) }

  pub goes_value : {p q : Pending} {t : Schema} {ps : List Pending} (o : Option Pending) {a b c : S} {K K1 K2 : List Record} → Awaits step few within p q t a b K K1 →
      Opens step few within t o b c K1 K2 → GoesOn step few within (p ∷ ps) (with_rest o (q ∷ ps)) a c K K2
  unfolding Goes
  goes_value None {c = c} {K2 = K2} h i = goes_again (h.passes c K2 i)
  goes_value {ps = ps} (Some r) h i = record {
    goes = λ s start k g. (
      λ c more e. (goes_again {ps = ps} (h.passes c more (i.done c more e))).goes s start k g,
      λ failed x u. g.1 failed x
          (h.stuck failed x (i.stuck failed x u)),
    );
  }

  pub stuck_turn : {p : Pending} {ps : List Pending} {a failed : S} {x : DecodeError} {K : List Record} → Stuck step few within p K a failed x → StuckFrom step few within (p ∷ ps) a failed K x
  unfolding Goes
  stuck_turn {failed = failed} {x = x} u = record { none = λ s start k g. g.1 failed x u }

  pub stuck_value : {p q : Pending} {t : Schema} {ps : List Pending} {a b failed : S} {x : DecodeError} {K K1 : List Record} → Awaits step few within p q t a b K K1 →
      NoValue step few t b failed x → StuckFrom step few within (p ∷ ps) a failed K x
  unfolding Goes
  stuck_value {failed = failed} {x = x} h u = record { none = λ s start k g. g.1 failed x (h.stuck failed x u) }
