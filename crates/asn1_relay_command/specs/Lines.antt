-- What the program writes to standard error for an error that stops it.
use Rattle.std.specs.Prelude.{ℕ, List, [], ◌∷◌, ◌++◌, Option, Some, None, codes, decimal}
use Rattle.std.specs.Borrow.{Bor}
use Rattle.asn1_relay_core.specs.declared.fault.RelayFaultKind.{RelayFaultKind}
use Rattle.asn1_relay_core.specs.declared.fault.RelayFaultKind.TheVariants as kind
use Rattle.asn1_relay_command.specs.declared.fault.Fault.{Fault}
use Rattle.asn1_relay_command.specs.declared.fault.Fault.TheVariants as fault
use Rattle.asn1_relay_command.specs.declared.fault.HopFault.{HopFault}
use Rattle.asn1_relay_command.specs.declared.fault.HopFault.TheVariants as hop
use Rattle.asn1_relay_command.specs.declared.fault.Place.{Place}
use Rattle.asn1_relay_command.specs.declared.fault.Place.TheVariants as place

-- what is wrong at a message of a stream
abbrev pub text_at_message : RelayFaultKind → List ℕ
text_at_message kind.NoneWithinLimit = codes "none within the limit"
text_at_message kind.EmptyMessage = codes "empty message"
text_at_message kind.NoTarget = codes "no target encoding"
text_at_message kind.Memory = codes "out of memory"
text_at_message kind.NoForm = codes "no form"
text_at_message kind.AlreadyFailed = codes "stopped before"

-- what is wrong at a hop of a route
abbrev pub text_at_hop : HopFault → List ℕ
text_at_hop hop.NotAnEncoding = codes "not an encoding"
text_at_hop hop.SurplusOctets = codes "surplus octets"
text_at_hop hop.NoTargetEncoding = codes "no target encoding"
text_at_hop hop.OutOfMemory = codes "out of memory"

-- what is wrong
abbrev pub text_of : Fault → List ℕ
text_of fault.NotAnEncoding = codes "not an encoding"
text_of fault.SurplusOctets = codes "surplus octets"
text_of fault.NoTargetEncoding = codes "no target encoding"
text_of fault.OutOfMemory = codes "out of memory"
text_of fault.ReadFailed = codes "read failed"
text_of fault.WriteFailed = codes "write failed"
text_of (fault.AtMessage at) = text_at_message at.kind
text_of (fault.AtHop i kind) = text_at_hop kind

-- the message of a stream, or the hop of a route, at which an error occurred, if there is one
abbrev pub place_of : Fault → Option Place
place_of (fault.AtMessage at) = Some (place.Message at.number)
place_of (fault.AtHop i kind) = Some (place.Hop i)
place_of f = None

abbrev pub behind_number : List ℕ → ℕ → List ℕ → List ℕ
behind_number part n text = part ++ (decimal n ++ (codes ": " ++ text))

abbrev pub behind_place : Option Place → List ℕ → List ℕ
behind_place None text = text
behind_place (Some (place.Message n)) text = behind_number (codes "message ") n text
behind_place (Some (place.Hop n)) text = behind_number (codes "hop ") n text

-- one line: the program's name, the message or the hop, what is wrong, and a line feed
abbrev pub line_of : Fault → List ℕ
line_of f = codes "asn1_relay: " ++ behind_place (place_of f) (text_of f ++ (10 ∷ []))

-- the line for an argument that is not text
abbrev pub not_text_line : List ℕ
not_text_line = codes "error: an argument is not text" ++ (10 ∷ [])

-- texts in sequence
abbrev pub joined : List (Bor (List ℕ)) → List ℕ
joined [] = []
joined (text ∷ texts) = text.now ++ joined texts
