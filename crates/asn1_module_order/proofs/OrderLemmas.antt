-- What a command line with modules requests, from the result of a parse.
use Rattle.std.proofs.Common.{◌≡◌, ◌∙◌, ◌⊎◌, inl, inr, true, List, [], ◌∷◌, Option, None, refl, sym, ap, ap₂}
use Rattle.clap.specs.Words.{App, HasKind, HasMatchesOf, IsAmong, Kinds, Text, fault_of, is_simple, is_simple_and_free}
use Rattle.clap.specs.Words.{kind_of, subcommand_of, subcommand_rows_of}
use Rattle.clap.specs.declared.error.Error.{Error}
use Rattle.clap.specs.declared.error.kind.ErrorKind.{ErrorKind}
use Rattle.clap.specs.declared.error.kind.ErrorKind.TheVariants.{OutOfMemory}
use Rattle.clap.specs.declared.parser.matches.ArgMatches.{ArgMatches}
use Rattle.clap.proofs.OnLiterals.{clap_on_literals}
use Rattle.asn1_module_order.specs.Orders.{Request, asked_by, program_app, request_in_command, unless_fault}

simple : is_simple program_app ≡ true
unfolding clap_on_literals
simple = refl

simple_and_free : is_simple_and_free program_app ≡ true
unfolding clap_on_literals
simple_and_free = refl

refused_by : (k : ErrorKind) (faults : Kinds) (request : Option Request) → IsAmong k faults → unless_fault faults request ≡ None
refused_by k [] request among = absurd among
refused_by k (fault ∷ faults) request among = refl

-- an error other than out of memory shows that the words request nothing
pub bad_words : (a : App) (words : List Text) (e : Error) → a ≡ program_app → (is_simple_and_free a ≡ true → HasKind (fault_of a words) e) → (asked_by words ≡ None) ⊎ (kind_of e ≡ OutOfMemory)
unfolding asked_by
bad_words a words e same kinds =
    elim (kinds (ap is_simple_and_free same ∙ simple_and_free)) [
      | inl memory ↦ inr memory
      | inr among ↦ inl (ap (λ (b : App). unless_fault (fault_of b words) (request_in_command (subcommand_of program_app words))) (sym same) ∙ refused_by _ (fault_of a words) _ among)
    ]

-- matches determine what the words request
pub words_ask : (a : App) (words : List Text) (m : ArgMatches) (request : Option Request) → a ≡ program_app → HasMatchesOf a words m →
    (is_simple_and_free a ≡ true → fault_of a words ≡ []) → request ≡ request_in_command (subcommand_rows_of m) → asked_by words ≡ request
unfolding asked_by
words_ask a words m request same matches kinds asked =
    let faultless : fault_of program_app words ≡ [] = ap (λ (b : App). fault_of b words) (sym same) ∙ kinds (ap is_simple_and_free same ∙ simple_and_free) in
    let entered : subcommand_rows_of m ≡ subcommand_of program_app words = (matches (ap is_simple same ∙ simple)).1 ∙ ap (λ (b : App). subcommand_of b words) same in
    ap₂ unless_fault faultless (ap request_in_command (sym entered)) ∙ sym asked
