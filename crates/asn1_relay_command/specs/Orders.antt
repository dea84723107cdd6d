-- What a command line requests. Words are split as clap does it, and then mean what their names say.
use Rattle.std.specs.Prelude.{true, ⊤, ◌≢◌, ◌≤◌, ℕ, pos, List, [], ◌∷◌, Option, Some, None, option_map}
use Rattle.std.specs.Prelude.{option_and_then, if◌then◌else◌, codes}
use Rattle.std.specs.Str.{bytes_eq}
use Rattle.std.specs.Str.Parse.{digits_value, without_leading_plus}
use Rattle.clap.specs.Words.{App, Rule, Row, Text, Kinds, all_of, first_of, fault_of, new_app, new_rule, one_of}
use Rattle.clap.specs.Words.{subcommand_of, with_rule, with_subcommand}
use Rattle.clap.specs.ValueTests.{is_unsigned_in}
use Rattle.clap.specs.declared.builder.action.ArgAction.TheVariants.{Append}
use Rattle.clap.specs.declared.builder.value_parser.ValueParser.TheVariants as vp
use Rattle.asn1_relay_core.specs.declared.codec.Codec.{Codec}
use Rattle.asn1_relay_core.specs.declared.codec.Codec.TheVariants.{Uper, Aper, UperStrict, AperStrict, Oer, Coer}
use Rattle.asn1_relay_command.specs.declared.order.Kind.{Kind}
use Rattle.asn1_relay_command.specs.declared.order.Kind.TheVariants as kind
use Rattle.asn1_relay_command.specs.declared.order.Order.{Order}
use Rattle.asn1_relay_command.specs.declared.order.Order.TheVariants as order
use Rattle.asn1_relay_command.specs.declared.order.Pair.{Pair}
use Rattle.asn1_relay_command.specs.declared.order.Pair.TheVariants as pair
use Rattle.asn1_relay_core.specs.declared.hop.Hop.{Hop}
use Rattle.asn1_relay_core.specs.declared.hop.Version.{Version}
use Rattle.asn1_relay_core.specs.declared.hop.Version.TheVariants.{Old, New}
use Rattle.asn1_relay_command.specs.declared.order.Translation.{Translation}

-- ---- the grammar

-- a required option with one value
abbrev pub option_rule : Text → Rule
option_rule name = record (new_rule name) { long = Some name; required = true }

-- NAME --from RULES --to RULES --type TYPE
abbrev pub translating_app : Text → App
translating_app name =
    with_rule (with_rule (with_rule (new_app name) (option_rule (codes "from"))) (option_rule (codes "to")))
    (option_rule (codes "type"))

-- --limit NUMBER, an integer from 1 to 4294967295
abbrev pub limit_rule : Rule
limit_rule = record (option_rule (codes "limit")) { parser = Some (vp.Signed (pos 1) (pos 4294967295)) }

abbrev pub once_app : App
once_app = translating_app (codes "once")

-- stream, with the options of once and a limit
abbrev pub stream_app : App
stream_app = with_rule (translating_app (codes "stream")) limit_rule

-- --hop VERSION:RULES, once or more
abbrev pub hop_rule : Rule
hop_rule = record (option_rule (codes "hop")) { action = Some Append }

-- route --from RULES --pair PAIR --hop VERSION:RULES ..
abbrev pub route_app : App
route_app =
    with_rule (with_rule (with_rule (new_app (codes "route")) (option_rule (codes "from")))
    (option_rule (codes "pair")))
    hop_rule

-- the program's name
abbrev pub name_app : App
name_app = record { top = record (new_app (codes "asn1_relay")).top { subcommand_required = true }; subs = [] }

-- the program's name, and then one of its commands
abbrev pub program_app : App
program_app = with_subcommand (with_subcommand (with_subcommand name_app once_app.top) stream_app.top) route_app.top

-- ---- the names

abbrev pub codec_by_name : Text → Option Codec
codec_by_name name =
    if bytes_eq name (codes "uper") then Some Uper
    else (if bytes_eq name (codes "aper") then Some Aper
    else (if bytes_eq name (codes "uper-strict") then Some UperStrict
    else (if bytes_eq name (codes "aper-strict") then Some AperStrict
    else (if bytes_eq name (codes "oer") then Some Oer
    else (if bytes_eq name (codes "coer") then Some Coer
    else None)))))

abbrev pub kind_by_name : Text → Option Kind
kind_by_name name =
    if bytes_eq name (codes "bool") then Some kind.Bool
    else (if bytes_eq name (codes "small") then Some kind.Small
    else (if bytes_eq name (codes "pair") then Some kind.Pair
    else (if bytes_eq name (codes "integer") then Some kind.Integer
    else (if bytes_eq name (codes "bits") then Some kind.Bits
    else (if bytes_eq name (codes "octets") then Some kind.Octets
    else (if bytes_eq name (codes "visible") then Some kind.Visible
    else (if bytes_eq name (codes "null") then Some kind.Null
    else (if bytes_eq name (codes "nulls") then Some kind.Nulls
    else (if bytes_eq name (codes "set") then Some kind.Set
    else (if bytes_eq name (codes "bag") then Some kind.Bag
    else (if bytes_eq name (codes "nest") then Some kind.Nest
    else (if bytes_eq name (codes "new") then Some kind.New
    else (if bytes_eq name (codes "old") then Some kind.Old
    else (if bytes_eq name (codes "group") then Some kind.Group
    else None))))))))))))))

abbrev pub pair_by_name : Text → Option Pair
pair_by_name name =
    if bytes_eq name (codes "plain") then Some pair.Plain
    else (if bytes_eq name (codes "default") then Some pair.Default
    else (if bytes_eq name (codes "required") then Some pair.Required
    else (if bytes_eq name (codes "colour") then Some pair.Colour
    else None)))

abbrev pub hop : Version → Codec → Hop
hop version rules = record { version = version; to = rules }

abbrev pub hop_by_name : Text → Option Hop
hop_by_name name =
    if bytes_eq name (codes "old:uper") then Some (hop Old Uper)
    else (if bytes_eq name (codes "old:aper") then Some (hop Old Aper)
    else (if bytes_eq name (codes "old:uper-strict") then Some (hop Old UperStrict)
    else (if bytes_eq name (codes "old:aper-strict") then Some (hop Old AperStrict)
    else (if bytes_eq name (codes "old:oer") then Some (hop Old Oer)
    else (if bytes_eq name (codes "old:coer") then Some (hop Old Coer)
    else (if bytes_eq name (codes "new:uper") then Some (hop New Uper)
    else (if bytes_eq name (codes "new:aper") then Some (hop New Aper)
    else (if bytes_eq name (codes "new:uper-strict") then Some (hop New UperStrict)
    else (if bytes_eq name (codes "new:aper-strict") then Some (hop New AperStrict)
    else (if bytes_eq name (codes "new:oer") then Some (hop New Oer)
    else (if bytes_eq name (codes "new:coer") then Some (hop New Coer)
    else None)))))))))))

-- the hops with these names, in order, if each names one
abbrev pub hops_by_names : List Text → Option (List Hop)
hops_by_names [] = Some []
hops_by_names (name ∷ names) =
    option_and_then (λ h. option_map (λ hs. h ∷ hs) (hops_by_names names)) (hop_by_name name)

-- an integer from 1 to 4294967295, in decimal digits
abbrev pub limit_by_text : Text → Option ℕ
limit_by_text text =
    if is_unsigned_in 1 4294967295 text then Some (digits_value 10 (without_leading_plus text)) else None

-- ---- the order

-- a route: the rules of its input, the versions of the type, and its hops
pub record Route : Type 0 where
  pub from : Codec
  pub pair : Pair
  pub hops : List Hop

-- what to do
pub data Task : Type 0 where
  -- translate one message, the whole input
  once : Translation → Task
  -- translate a stream of messages, each of at most a number of octets
  stream : Translation → ℕ → Task
  -- send one message, the whole input, along a route
  route : Route → Task

abbrev pub task_of : Order → Task
task_of (order.Once t) = once t
task_of (order.Stream t limit) = stream t limit
task_of (order.Route from pair hops) = route (record { from = from; pair = pair; hops = hops.items })

-- the options are all there, and each names something
abbrev pub translation_by_names : Option Text → Option Text → Option Text → Option Translation
translation_by_names from to type =
    option_and_then (λ f. option_and_then (λ t. option_map (λ k. record { from = f; to = t; kind = k })
    (option_and_then kind_by_name type)) (option_and_then codec_by_name to)) (option_and_then codec_by_name from)

-- what the options of a command say
abbrev pub translation_in_rows : List Row → Option Translation
translation_in_rows rows =
    translation_by_names (first_of (codes "from") rows) (first_of (codes "to") rows) (first_of (codes "type") rows)

abbrev pub limit_in_rows : List Row → Option ℕ
limit_in_rows rows = option_and_then limit_by_text (one_of (codes "limit") rows)

abbrev pub hops_in_rows : List Row → Option (List Hop)
hops_in_rows rows = option_and_then hops_by_names (all_of (codes "hop") rows)

abbrev pub once_in_rows : List Row → Option Task
once_in_rows rows = option_map once (translation_in_rows rows)

abbrev pub stream_in_rows : List Row → Option Task
stream_in_rows rows =
    option_and_then (λ t. option_map (stream t) (limit_in_rows rows)) (translation_in_rows rows)

-- a route has a hop
abbrev pub route_by : Codec → Pair → List Hop → Option Task
route_by from pair [] = None
route_by from pair (h ∷ hs) = Some (route (record { from = from; pair = pair; hops = h ∷ hs }))

-- the options are all there, and each names something
abbrev pub route_by_names : Option Text → Option Text → Option (List Hop) → Option Task
route_by_names from pair hops =
    option_and_then (λ f. option_and_then (λ p. option_and_then (route_by f p) hops)
    (option_and_then pair_by_name pair)) (option_and_then codec_by_name from)

abbrev pub route_in_rows : List Row → Option Task
route_in_rows rows =
    route_by_names (first_of (codes "from") rows) (first_of (codes "pair") rows) (hops_in_rows rows)

-- the command is one of the program's, and its options say something
abbrev pub task_in_command : Option (Text × List Row) → Option Task
task_in_command None = None
task_in_command (Some c) =
    if bytes_eq c.0 (codes "once") then once_in_rows c.1
    else (if bytes_eq c.0 (codes "stream") then stream_in_rows c.1
    else (if bytes_eq c.0 (codes "route") then route_in_rows c.1
    else None))

-- the limit for a message is at least one octet, and a route has a hop
abbrev pub CanBeDone : Task → Type 0
CanBeDone (once t) = ⊤
CanBeDone (stream t limit) = 1 ≤ limit
CanBeDone (route r) = r.hops ≢ []

-- what words request, if they match the grammar
abbrev pub unless_fault : Kinds → Option Task → Option Task
unless_fault [] task = task
unless_fault (fault ∷ faults) task = None

-- what a command line requests; nothing if it is not valid
unfoldable pub asked_by : List Text → Option Task
asked_by words = unless_fault (fault_of program_app words) (task_in_command (subcommand_of program_app words))
