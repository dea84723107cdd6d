-- What a command line with modules requests. Words are split as clap does it, and then mean what their names say.
use Rattle.std.specs.Prelude.{◌≢◌, ◌≤◌, ◌==◌, ◌&&◌, ◌||◌, Bool, true, false, List, [], ◌∷◌, ◌++◌, length, map}
use Rattle.std.specs.Prelude.{Option, Some, None, nat_eq, slice_index}
use Rattle.std.specs.Prelude.{option_and_then, option_map, string_bytes, unwrap_or, if◌then◌else◌, codes}
use Rattle.std.specs.List.{starts_with}
use Rattle.std.specs.Option.{option_map_or}
use Rattle.std.specs.Str.{bytes_eq}
use Rattle.clap.specs.Words.{App, Kinds, Row, Rule, Text, all_of, fault_of, first_of, new_app, new_rule, subcommand_of}
use Rattle.clap.specs.Words.{with_rule, with_subcommand}
use Rattle.clap.specs.declared.builder.action.ArgAction.TheVariants.{Append, SetTrue}
use Rattle.asn1_notation_types.specs.declared.tables.Additions.TheVariants.{AreRequired, MayBeAbsent}
use Rattle.asn1_notation_types.specs.declared.tables.NamedBits.{NamedBits}
use Rattle.asn1_notation_types.specs.declared.tables.NamedBits.TheVariants.{AreAsSent, AreRefused as BitsAreRefused}
use Rattle.asn1_notation_types.specs.declared.tables.OpenTypes.{OpenTypes}
use Rattle.asn1_notation_types.specs.declared.tables.OpenTypes.TheVariants.{AreOctets, AreRefused}
use Rattle.asn1_notation_types.specs.declared.tables.TableOptions.{TableOptions}
use Rattle.asn1_notation_types.specs.declared.tables.Times.{Times}
use Rattle.asn1_notation_types.specs.declared.tables.Times.TheVariants.{AreAsSent as TimesAreAsSent}
use Rattle.asn1_notation_types.specs.declared.tables.Times.TheVariants.{AreRefused as TimesAreRefused}
use Rattle.asn1_relay_command.specs.Orders.{codec_by_name, hops_in_rows, limit_in_rows, limit_rule, name_app}
use Rattle.asn1_relay_command.specs.Orders.{option_rule}
use Rattle.asn1_relay_core.specs.declared.codec.Codec.{Codec}
use Rattle.asn1_relay_core.specs.declared.hop.Hop.{Hop}
use Rattle.asn1_table_json_writing.specs.declared.output.Style.{Style}
use Rattle.asn1_table_json_writing.specs.declared.output.Style.TheVariants.{Compact, Pretty}
use Rattle.asn1_module_order.specs.declared.order.Action.{Action}
use Rattle.asn1_module_order.specs.declared.order.Action.TheVariants as action
use Rattle.asn1_module_order.specs.declared.order.Check.{Check}
use Rattle.asn1_module_order.specs.declared.order.Extent.{Extent}
use Rattle.asn1_module_order.specs.declared.order.Extent.TheVariants as extent
use Rattle.asn1_module_order.specs.declared.order.Form.{Form}
use Rattle.asn1_module_order.specs.declared.order.Form.TheVariants as form
use Rattle.asn1_module_order.specs.declared.order.Order.{Order}
use Rattle.asn1_module_order.specs.declared.order.Translation.{Translation}

-- ---- what can be done

-- a stream has a limit of at least one octet
abbrev pub IsBounded : Extent → Type 0
IsBounded extent.Message = Unit {0}
IsBounded (extent.Stream limit) = 1 ≤ limit

-- a stream has a limit, and a route has a hop
abbrev pub CanBeDone : Action → Type 0
CanBeDone (action.Translate t) = IsBounded t.extent
CanBeDone (action.Route r) = r.hops.items ≢ []
CanBeDone a = Unit {0}

-- ---- the grammar

-- an option with one value, which may be left out
abbrev pub optional_rule : Text → Rule
optional_rule name = record (new_rule name) { long = Some name }

-- a required option that may be repeated
abbrev pub repeated_rule : Text → Rule
repeated_rule name = record (option_rule name) { action = Some Append }

-- an option without a value
abbrev pub flag_rule : Text → Rule
flag_rule name = record (new_rule name) { long = Some name; action = Some SetTrue }

-- --module FILE
abbrev pub module_rules : List Rule
module_rules = repeated_rule (codes "module") ∷ []

-- --old FILE --new FILE
abbrev pub version_rules : List Rule
version_rules = repeated_rule (codes "old") ∷ repeated_rule (codes "new") ∷ []

-- [--open-types WORD] [--named-bits WORD] [--times WORD] [--required-additions]
abbrev pub table_rules : List Rule
table_rules =
    optional_rule (codes "open-types") ∷ optional_rule (codes "named-bits") ∷ optional_rule (codes "times")
    ∷ flag_rule (codes "required-additions") ∷ []

-- the same, and --type NAME --from FORM [--input FILE] [--hex]
abbrev pub type_rules : List Rule
type_rules =
    table_rules ++ option_rule (codes "type") ∷ option_rule (codes "from") ∷ optional_rule (codes "input")
    ∷ flag_rule (codes "hex") ∷ []

-- the same with modules, and --to FORM [--output FILE] [--pretty]
abbrev pub translating_rules : List Rule
translating_rules =
    module_rules ++ type_rules ++ option_rule (codes "to") ∷ optional_rule (codes "output")
    ∷ flag_rule (codes "pretty") ∷ []

-- an option more, for each of these
abbrev pub with_rules : App → List Rule → App
with_rules a [] = a
with_rules a (r ∷ rs) = with_rules (with_rule a r) rs

-- a command with these options
abbrev pub command_app : Text → List Rule → App
command_app name rules = with_rules (new_app name) rules

abbrev pub translating_app : Text → App
translating_app name = command_app name translating_rules

abbrev pub once_app : App
once_app = translating_app (codes "once")

-- stream, with the options of once and --limit NUMBER
abbrev pub stream_app : App
stream_app = with_rule (translating_app (codes "stream")) limit_rule

abbrev pub check_app : App
check_app = command_app (codes "check") (module_rules ++ type_rules)

-- route, with two versions and --hop VERSION:RULES .. [--output FILE]
abbrev pub route_app : App
route_app =
    command_app (codes "route")
    (version_rules ++ type_rules ++ repeated_rule (codes "hop") ∷ optional_rule (codes "output") ∷ [])

-- types, with modules and [--type NAME]
abbrev pub types_app : App
types_app = command_app (codes "types") (module_rules ++ table_rules ++ optional_rule (codes "type") ∷ [])

-- the program's name, and then one of its commands
abbrev pub program_app : App
program_app =
    with_subcommand (with_subcommand (with_subcommand (with_subcommand (with_subcommand name_app once_app.top)
    stream_app.top) check_app.top) route_app.top) types_app.top

-- ---- which command lines

-- a word is this option, perhaps with a value after an equals sign
abbrev pub is_option : Text → Text → Bool
is_option name word =
    starts_with nat_eq word name
    && (length word == length name || slice_index word (length name) == 61)

-- a word is an option with a file of modules
abbrev pub names_file_in : Text → Bool
names_file_in word =
    is_option (codes "--module") word || (is_option (codes "--old") word || is_option (codes "--new") word)

-- a command is one that only lines with modules have
abbrev pub is_of_modules : Text → Bool
is_of_modules name = bytes_eq name (codes "check") || bytes_eq name (codes "types")

-- ---- the requests

-- what is done with a type
pub data Task : Type 0 where
  -- its messages are translated
  translate : Translation → Task
  -- whether a message is canonical is said
  check : Check → Task
  -- a message in some rules is sent over hops, perhaps with octets as hexadecimal digits
  route : Codec → List Hop → Bool → Task
  -- it is printed
  print : Task

-- what to do: with which files, of which the first are the newer modules of a route, which type, and where
pub record Request : Type 0 where
  pub modules : List Text
  pub older : List Text
  pub type_name : Option Text
  pub options : TableOptions
  pub task : Task
  pub input : Option Text
  pub output : Option Text

abbrev pub task_of : Action → Task
task_of (action.Translate t) = translate t
task_of (action.Check c) = check c
task_of (action.Route r) = route r.from r.hops.items r.is_hexadecimal
task_of action.Print = print

abbrev pub request_of : Order → Request
request_of o = record {
  modules = map string_bytes o.modules.items;
  older = map string_bytes o.older.items;
  type_name = option_map string_bytes o.type_name;
  options = o.options;
  task = task_of o.action;
  input = option_map string_bytes o.input;
  output = option_map string_bytes o.output;
}

-- ---- what options say

-- the rules with this name, or JSON
abbrev pub form_by_name : Text → Option Form
form_by_name name =
    if bytes_eq name (codes "json") then Some form.Json else option_map (λ c. form.Rules c) (codec_by_name name)

abbrev pub form_in_rows : Text → List Row → Option Form
form_in_rows name rows = option_and_then form_by_name (first_of name rows)

abbrev pub codec_in_rows : List Row → Option Codec
codec_in_rows rows = option_and_then codec_by_name (first_of (codes "from") rows)

-- an option without a value is there
abbrev pub is_given_in : Text → List Row → Bool
is_given_in name rows = option_map_or (λ t. bytes_eq t (codes "true")) (first_of name rows) false

abbrev pub style_in_rows : List Row → Style
style_in_rows rows = if is_given_in (codes "pretty") rows then Pretty else Compact

abbrev pub translation_in_rows : List Row → Extent → Option Task
translation_in_rows rows x =
    option_and_then (λ from. option_map (λ to. translate (record {
      extent = x;
      from = from;
      to = to;
      is_hexadecimal = is_given_in (codes "hex") rows;
      style = style_in_rows rows;
    })) (form_in_rows (codes "to") rows)) (form_in_rows (codes "from") rows)

abbrev pub stream_in_rows : List Row → Option Task
stream_in_rows rows = option_and_then (λ limit. translation_in_rows rows (extent.Stream limit)) (limit_in_rows rows)

abbrev pub check_in_rows : List Row → Option Task
check_in_rows rows = option_map (λ rules. check (record {
  rules = rules;
  is_hexadecimal = is_given_in (codes "hex") rows;
})) (codec_in_rows rows)

-- a route has a hop
abbrev pub route_with : Codec → Bool → Option (List Hop) → Option Task
route_with from hexadecimal (Some (h ∷ hs)) = Some (route from (h ∷ hs) hexadecimal)
route_with from hexadecimal hops = None

abbrev pub route_in_rows : List Row → Option Task
route_in_rows rows =
    option_and_then (λ from. route_with from (is_given_in (codes "hex") rows) (hops_in_rows rows)) (codec_in_rows rows)

-- what is done with the type, by the name of the command
abbrev pub task_in_rows : Text → List Row → Option Task
task_in_rows name rows =
    if bytes_eq name (codes "once") then translation_in_rows rows extent.Message
    else (if bytes_eq name (codes "stream") then stream_in_rows rows
    else (if bytes_eq name (codes "check") then check_in_rows rows
    else (if bytes_eq name (codes "route") then route_in_rows rows
    else (if bytes_eq name (codes "types") then Some print
    else None))))

-- open types are refused, or octets
abbrev pub open_types_by_word : Option Text → Option OpenTypes
open_types_by_word None = Some AreRefused
open_types_by_word (Some word) = if bytes_eq word (codes "octets") then Some AreOctets else None

-- named bits without a fixed size are refused, or kept as they are sent
abbrev pub named_bits_by_word : Option Text → Option NamedBits
named_bits_by_word None = Some BitsAreRefused
named_bits_by_word (Some word) = if bytes_eq word (codes "as-sent") then Some AreAsSent else None

-- times are refused, or kept as they are sent
abbrev pub times_by_word : Option Text → Option Times
times_by_word None = Some TimesAreRefused
times_by_word (Some word) = if bytes_eq word (codes "as-sent") then Some TimesAreAsSent else None

-- how the modules are understood
abbrev pub options_in_rows : List Row → Option TableOptions
options_in_rows rows = option_and_then (λ open_types. option_and_then (λ named_bits. option_map (λ times. record {
  additions = if is_given_in (codes "required-additions") rows then AreRequired else MayBeAbsent;
  open_types = open_types;
  named_bits = named_bits;
  times = times;
}) (times_by_word (first_of (codes "times") rows))) (named_bits_by_word (first_of (codes "named-bits") rows)))
    (open_types_by_word (first_of (codes "open-types") rows))

-- the values of an option
abbrev pub all_in_rows : Text → List Row → List Text
all_in_rows name rows = unwrap_or (all_of name rows) []

-- the option with the files of the modules, or of those with the newer version
abbrev pub files_option : Text → Text
files_option name = if bytes_eq name (codes "route") then codes "new" else codes "module"

-- all that a command requests, of what is done with the type and how the modules are understood
abbrev pub request_with : Text → List Row → Task → TableOptions → Request
request_with name rows task options = record {
  modules = all_in_rows (files_option name) rows;
  older = all_in_rows (codes "old") rows;
  type_name = first_of (codes "type") rows;
  options = options;
  task = task;
  input = first_of (codes "input") rows;
  output = first_of (codes "output") rows;
}

-- what a command requests, if its options say something
abbrev pub request_in_rows : Text → List Row → Option Request
request_in_rows name rows =
    option_and_then (λ task. option_map (request_with name rows task) (options_in_rows rows)) (task_in_rows name rows)

abbrev pub request_in_command : Option (Text × List Row) → Option Request
request_in_command command = option_and_then (λ c. request_in_rows c.0 c.1) command

-- what words request, if they match the grammar
abbrev pub unless_fault : Kinds → Option Request → Option Request
unless_fault [] request = request
unless_fault (fault ∷ faults) request = None

-- what a command line requests; nothing if it is not valid
unfoldable pub asked_by : List Text → Option Request
asked_by words = unless_fault (fault_of program_app words) (request_in_command (subcommand_of program_app words))
