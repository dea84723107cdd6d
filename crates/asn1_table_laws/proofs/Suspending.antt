-- A walk that stops where its input ends, and goes on with more of it: what was read is known by its records alone.
use Rattle.std.proofs.Common.{◌≡◌, refl, sym, subst, ℕ, true, List, [], ◌∷◌, ◌++◌}
use Rattle.asn1_model.specs.Schema.{Schema}
use Rattle.asn1_model.specs.Numbers.{is_count_within}
use Rattle.asn1_schema_laws.specs.Records.{Record, list_begins, bag_begins}
use Rattle.asn1_schema_laws.specs.Chains.{Chain}
use Rattle.asn1_schema_laws.proofs.Chains.{chain_split}
use Rattle.asn1_table_laws.specs.Walks.{Pending, Goes, GoesOn}

-- A record is next; of the beginning of a list, whose count is known at its end alone, with every count that is held.
abbrev pub Counted : {S : Type 0} → (S → Record → S → Type 0) → S → Record → S → Type 0
Counted step a (list_begins z h n) b = (k : ℕ) → is_count_within h k ≡ true → step a (list_begins z h k) b
Counted step a (bag_begins z h n) b = (k : ℕ) → is_count_within h k ≡ true → step a (bag_begins z h k) b
Counted step a r b = step a r b

-- After these records a walk has come so far, from wherever they lead.
pub record Suspended {S : Type 0} (step : S → Record → S → Type 0) (few within : S → S → S → Type 0) (s : Schema) (k : List Record) (rs : List Record) (ps : List Pending)
    (kept : List Record) : Type 0 where
  pub goes : (start now : S) → Chain (Counted step) rs start now → Goes step few within s start k ps now kept

module _ {S : Type 0} {step : S → Record → S → Type 0} {few within : S → S → S → Type 0} {s : Schema} {k : List Record} where
  -- a turn, which is the same from each state in which its records are next
  pub suspended_on : {rs : List Record} (more : List Record) {ps qs : List Pending} {K K1 : List Record} → ((a b : S) → Chain (Counted step) more a b → GoesOn step few within ps qs a b K K1) →
      Suspended step few within s k rs ps K → Suspended step few within s k (rs ++ more) qs K1
  suspended_on {rs} more h w = record {
    goes = λ start now c.
        let t = chain_split (Counted step) rs more start now c in
        (h t.0 now t.2).goes s start k (w.goes start t.0 t.1);
  }

-- what is next is next with more input, and so are the states after it
abbrev pub Lengthens : {S : Type 0} → (S → Record → S → Type 0) → (S → S → Type 0) → Type 0
Lengthens {S} step longer = (r : Record) (a b c : S) → Counted step a r b → longer a c → (d : S) × Counted step c r d × longer b d

lengthened : {S : Type 0} (step : S → Record → S → Type 0) (longer : S → S → Type 0) → Lengthens step longer → (rs : List Record) (a b c : S) → Chain (Counted step) rs a b → longer a c →
    (d : S) × Chain (Counted step) rs c d × longer b d
lengthened step longer law [] a b c p l = (c, refl, subst (λ x. longer x c) (sym p) l)
lengthened step longer law (r ∷ rs) a b c p l =
    let t = law r a p.0 c p.1 l in
    let u = lengthened step longer law rs p.0 b t.0 p.2 t.2 in
    (u.0, (t.0, t.1, u.1), u.2)

-- A walk that has stopped goes on with more input, from where it stopped: what was still to come still is.
pub resumed : {S : Type 0} (step : S → Record → S → Type 0) (few within : S → S → S → Type 0) (longer : S → S → Type 0) (s : Schema) (k rs : List Record) (ps : List Pending)
    (kept : List Record) (start now again : S) → Lengthens step longer → Suspended step few within s k rs ps kept → Chain (Counted step) rs start now → longer start again →
    (there : S) × longer now there × Chain (Counted step) rs again there × Goes step few within s again k ps there kept
resumed step few within longer s k rs ps kept start now again law w c l =
    let t = lengthened step longer law rs start now again c l in
    (t.0, t.2, t.1, w.goes again t.0 t.1)
