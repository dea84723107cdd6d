-- Tables all of whose types are lawful.
use Rattle.std.specs.Prelude.{◌≡◌, ◌<◌, ℕ, Bool, true, false, List, length}
use Rattle.asn1_model.specs.Lawful.{is_lawful}
use Rattle.asn1_model.specs.Tidy.{is_tidy}
use Rattle.asn1_table_nodes.specs.Meaning.{type_at}
use Rattle.asn1_table_types.specs.Flaws.{lacks}
use Rattle.asn1_table_nodes.specs.Defaults.{AtSome}
use Rattle.asn1_table_types.specs.declared.faults.Flaw.{Flaw}
use Rattle.asn1_table_types.specs.declared.faults.Refusal.{Refusal}
use Rattle.asn1_table_types.specs.declared.faults.Refusal.TheVariants.{Flawed, NoMemory}
use Rattle.asn1_table_types.specs.declared.faults.TableError.{TableError}
use Rattle.asn1_table_types.specs.declared.faults.TableError.TheVariants.{Unlawful, DefaultNotNormal}
use Rattle.asn1_table_types.specs.declared.faults.TableError.TheVariants.{OutOfMemory}
use Rattle.asn1_table_nodes.specs.declared.nodes.TypeNode.{TypeNode}

-- Each type of the table is lawful, in whatever depth it is unfolded.
abbrev pub AreLawful : List TypeNode → Type 0
AreLawful ns = (n i : ℕ) → is_lawful (type_at ns n i) ≡ true

-- The defaults in each type of the table are in normal form, in whatever depth it is unfolded.
abbrev pub AreTidy : List TypeNode → Type 0
AreTidy ns = (n i : ℕ) → is_tidy (type_at ns n i) ≡ true

-- There is a type at this index with a default that is not in normal form: unfolded to some number of levels.
pub record IsUntidy (ns : List TypeNode) (i : ℕ) : Type 0 where
  pub levels : ℕ
  pub there : i < length ns
  pub untidy : is_tidy (type_at ns levels i) ≡ false

-- There is a type at this index that is not lawful: unfolded to some number of levels it lacks this.
pub record IsUnlawful (ns : List TypeNode) (i : ℕ) (f : Flaw) : Type 0 where
  pub levels : ℕ
  pub there : i < length ns
  pub lacking : lacks (type_at ns levels i) f ≡ true
  pub unlawful : is_lawful (type_at ns levels i) ≡ false

-- A refusal is right: the type at its index lacks what it says.
abbrev pub IsRefused : List TypeNode → TableError → Type 0
IsRefused ns (Unlawful i f) = IsUnlawful ns i f
IsRefused ns (DefaultNotNormal i) = IsUntidy ns i
IsRefused ns OutOfMemory = Unit {0}

-- The same of one type, by what it lacks.
abbrev pub IsDue : (Flaw → Bool) → Refusal → Type 0
IsDue lacking (Flawed f) = lacking f ≡ true
IsDue lacking NoMemory = Unit {0}

-- The same of one type, at some number of levels.
abbrev pub IsDueAt : (ℕ → Flaw → Bool) → Refusal → Type 0
IsDueAt lacking (Flawed f) = AtSome (λ n. lacking n f) true
IsDueAt lacking NoMemory = Unit {0}

-- The refusal of the type at an index.
abbrev pub error_of : ℕ → Refusal → TableError
error_of i (Flawed f) = Unlawful i f
error_of i NoMemory = OutOfMemory
