-- Why a record is not found: memory ran out, or the octets do not begin with one. What looks for it does not know of
-- earlier errors.
use Rattle.std.specs.Prelude.{◌≡◌, ℕ, Bool, List, [], ◌∷◌, Some}
use Rattle.asn1_model.specs.Oer
use Rattle.asn1_model.specs.Schema.{Tag}
use Rattle.asn1_schema_errors.specs.declared.DecodeError.{DecodeError}
use Rattle.asn1_schema_errors.specs.declared.DecodeError.TheVariants.{AlreadyFailed, OutOfMemory}
use Rattle.oer_codec_laws.specs.Takes.{Scope, State, components, AdditionsBegin, Opens, AdditionEnds}
use Rattle.oer_codec_laws.specs.Takes.{Enters, Chooses, Ends}

-- No presence bitmap of extension additions (X.696 16.4).
pub record NoAdditions (free : Oer.Freedom → Bool) (is_extended : Bool) (n : ℕ) (os : List ℕ) (e : DecodeError) : Type 0
  where
    pub none : ¬ (e ≡ OutOfMemory) → (k : List Scope) (b : State)
        → AdditionsBegin free n os (components (Some is_extended) [] ∷ k) b → ⊥
    pub fresh : ¬ (e ≡ AlreadyFailed)

-- No open type (X.696 30).
pub record NotOpened (free : Oer.Freedom → Bool) (os : List ℕ) (e : DecodeError) : Type 0 where
  pub none : ¬ (e ≡ OutOfMemory) → (k : List Scope) (b : State) → Opens free os k b → ⊥
  pub fresh : ¬ (e ≡ AlreadyFailed)

-- No end of an addition.
pub record NoAdditionEnd (free : Oer.Freedom → Bool) (os : List ℕ) (k : List Scope) (e : DecodeError) : Type 0 where
  pub none : ¬ (e ≡ OutOfMemory) → (b : State) → AdditionEnds free os k b → ⊥
  pub fresh : ¬ (e ≡ AlreadyFailed)

-- No end of the innermost scope.
pub record NoEnd (free : Oer.Freedom → Bool) (os : List ℕ) (k : List Scope) (e : DecodeError) : Type 0 where
  pub none : ¬ (e ≡ OutOfMemory) → (b : State) → Ends free os k b → ⊥
  pub fresh : ¬ (e ≡ AlreadyFailed)

-- No end of a scope, whatever encloses it.
pub record NotFinished (free : Oer.Freedom → Bool) (s : Scope) (os : List ℕ) (e : DecodeError) : Type 0 where
  pub none : ¬ (e ≡ OutOfMemory) → (k : List Scope) (b : State) → Ends free os (s ∷ k) b → ⊥
  pub fresh : ¬ (e ≡ AlreadyFailed)

-- No alternative is entered (X.696 20).
pub record NoEntry (free : Oer.Freedom → Bool) (plus : Bool) (os : List ℕ) (e : DecodeError) : Type 0 where
  pub none : ¬ (e ≡ OutOfMemory) → (k : List Scope) (b : State) → Enters free plus os k b → ⊥
  pub fresh : ¬ (e ≡ AlreadyFailed)

-- No alternative is chosen (X.696 20).
pub record NoChoice (free : Oer.Freedom → Bool) (roots : List Tag) (extensible : Bool) (others : List Tag)
    (os : List ℕ) (e : DecodeError) : Type 0 where
  pub none : ¬ (e ≡ OutOfMemory) → (plus : Bool) (i : ℕ) (k : List Scope) (b : State)
      → Chooses free roots extensible others plus i (os, k) b → ⊥
  pub fresh : ¬ (e ≡ AlreadyFailed)
