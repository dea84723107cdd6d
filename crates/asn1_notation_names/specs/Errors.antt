-- Errors in the notation.
use Rattle.std.specs.Prelude.{◌≡◌, ◌⊎◌, ℕ, None}
use Rattle.asn1_notation_names.specs.declared.errors.NotationError.{NotationError}
use Rattle.asn1_notation_names.specs.declared.errors.Problem.{Problem}
use Rattle.asn1_notation_names.specs.declared.errors.Problem.TheVariants.{OutOfMemory}

-- An error at a lexical item of a file, which suggests no name.
abbrev pub error_at : ℕ → ℕ → Problem → NotationError
error_at file place problem = record { file = file; place = place; problem = problem; near = None }

-- Memory ran out, which is said at the first lexical item of the first file.
abbrev pub out_of_memory : NotationError
out_of_memory = error_at 0 0 OutOfMemory

-- An error is this one, or memory ran out.
abbrev pub IsErrorOf : NotationError → NotationError → Type 0
IsErrorOf wanted error = (error ≡ wanted) ⊎ (error ≡ out_of_memory)
