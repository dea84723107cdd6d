-- What one form of a rule's pieces writes another reads, also where pieces are put around both.
use Rattle.std.proofs.Common.{ℕ, Bool, List}
use Rattle.asn1_model.specs.Schema.{Tag, Counts, Size}
use Rattle.asn1_model.specs.Form.{Freedom, Detail}
use Rattle.asn1_laws_values.proofs.Covers.{Covers, CoversEach}
use Rattle.asn1_laws_values.proofs.Composition.{FormOf, Pieces}

-- What one form writes the other reads, whatever the reader's freedoms, also where pieces are put around both.
abbrev pub Keeps : {A : Type 0} → (FormOf A → FormOf A) → Type 0
Keeps {A} f = (free : Freedom → Bool) (x y : FormOf A) → Covers free x y → Covers free (f x) (f y)

-- What one form of a rule's pieces writes another reads.
pub record AreCovered {A : Type 0} (R : Pieces A) : Type 0 where
  pub keeps_list : (free : Freedom → Bool) (z : Size) (c : Counts) (xs ys : List (FormOf A)) →
      CoversEach {F = Freedom} {D = Detail} {A = A} free xs ys → Covers free (R.list_form z c xs) (R.list_form z c ys)
  pub keeps_open : Keeps R.open_type
  pub keeps_tagged : (a : Bool) (t : Tag) → Keeps (R.tagged a t)
  pub keeps_root : (e : Bool) (k i : ℕ) → Keeps (R.root_form e k i)
  pub keeps_added : (i : ℕ) → Keeps (R.added_form i)
  -- a reader that does not know an addition reads an open type as octets
  pub unknown : (free : Freedom → Bool) (x : FormOf A) →
      (os : List ℕ) × Covers {F = Freedom} {D = Detail} {A = A} free (R.open_type x) (R.counted os)
