-- What errors of modules name.
use Rattle.std.specs.Prelude.{◌≡◌, ◌≤◌, List, length, IsSomeAnd, map, slice_get}
use Rattle.asn1_notation_tree.specs.declared.tree.Syntax.{Syntax}
use Rattle.asn1_module_order.specs.declared.errors.ModuleError.{ModuleError}
use Rattle.asn1_module_order.specs.declared.errors.ModuleError.TheVariants as error
use Rattle.asn1_module_order.specs.declared.sources.Source.{Source}

-- files are the syntax trees of texts of these lengths
abbrev pub AreOf : List Source → List Syntax → Type 0
AreOf sources files = map (λ f. f.items.text_length) files ≡ map (λ s. length s.text.items) sources

-- an octet of a text, or its end, is the place of an error of texts
abbrev pub IsInText : List Source → ModuleError → Type 0
IsInText sources (error.Text file offset problem) =
    IsSomeAnd (slice_get sources file) (λ s. offset ≤ length s.text.items)
IsInText sources error.OutOfMemory = Unit {0}
IsInText sources e = ⊥

-- an octet of a file, or its end, is the place of an error of a type; or no file has the type
abbrev pub IsInFile : List Syntax → ModuleError → Type 0
IsInFile files (error.Text file offset problem) =
    IsSomeAnd (slice_get files file) (λ f. offset ≤ f.items.text_length)
IsInFile files (error.NotExtended problem) = ⊥
IsInFile files e = Unit {0}

-- the error of two types of which one does not extend the other
abbrev pub IsOfVersions : ModuleError → Type 0
IsOfVersions (error.NotExtended problem) = Unit {0}
IsOfVersions error.OutOfMemory = Unit {0}
IsOfVersions e = ⊥
