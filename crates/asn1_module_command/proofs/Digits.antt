-- Messages as octets, and as their digits.
use Rattle.std.proofs.Common.{◌≡◌, ◌∙◌, inl, inr, ℕ, Bool, true, false, sym, ap, IsErrAnd, MatchResult, Result, Ok, Err, List, Some, subst}
use Rattle.std.specs.Io.KnownBytes.{Appends}
use Rattle.asn1_model.specs.Schema.{Schema}
use Rattle.asn1_model.specs.Versions.{Extends}
use Rattle.asn1_relay_command.specs.Runs.{ComesAs, DoesRouteAs, Known, StopsRouteAs}
use Rattle.asn1_relay_command.specs.declared.fault.Fault.{Fault}
use Rattle.asn1_relay_command.specs.declared.fault.Fault.TheVariants as fault
use Rattle.asn1_relay_core.specs.Ends.{BeginsToAppend}
use Rattle.asn1_relay_core.specs.Routing.{arrived}
use Rattle.asn1_relay_core.specs.declared.codec.Codec.{Codec}
use Rattle.asn1_relay_core.specs.declared.hop.Hop.{Hop}
use Rattle.asn1_module_order.specs.declared.order.Route.{Route}
use Rattle.asn1_module_command.specs.Digits.{AreReadAsDigits, StopsFromReading, StopsOnOctets, StopsWriting, TakesDigits, digit_line}
use Rattle.asn1_module_command.specs.Runs.{HasRouted, PassesIn, StopsOnWay, StopsPassing, StopsRouting}
use Rattle.asn1_module_command.specs.declared.errors.CommandError.{CommandError}
use Rattle.asn1_module_command.specs.declared.errors.CommandError.TheVariants as error

both_ways : true ≡ false → ⊥
both_ways e = cc

-- what is done with octets, or stops it, is so with a message that was read as their digits
pub taken : (Does : Known → Known → Known → Known → Type 0) (Stops : Known → Known → Known → Known → CommandError → Type 0) (lent octets : List ℕ) (unread unread' rest held held' : Known)
    → lent ≡ octets → AreReadAsDigits unread unread' octets → {T : Type 0} (r : Result T CommandError)
    → MatchResult r (λ _. Does (Some lent) rest held held') (Stops (Some lent) rest held held')
    → MatchResult r (λ _. TakesDigits Does unread unread' held held') (StopsFromReading true (StopsOnOctets Stops) unread unread' held held')
taken Does Stops lent octets unread unread' rest held held' same read (Ok v) does =
    record { message = octets; read = read; rest = rest; does = subst (λ l. Does (Some l) rest held held') same does }
taken Does Stops lent octets unread unread' rest held held' same read (Err e) stops =
    inr (record { message = octets; read = read; stops = record { rest = rest; stops = subst (λ l. Stops (Some l) rest held held' e) same stops } })

-- the writer failed within the line
pub line_cut_off : {T : Type 0} (r : Result T CommandError) (P : T → Type 0) (f : Fault) (held held' : Known) (lent line octets : List ℕ) → IsErrAnd r (λ e. e ≡ error.Fault f)
    → f ≡ fault.WriteFailed → lent ≡ line → line ≡ digit_line octets → BeginsToAppend held held' lent → MatchResult r P (StopsWriting true held held' octets)
line_cut_off (Ok v) P f held held' lent line octets is failed same digits began = absurd is
line_cut_off (Err e) P f held held' lent line octets is failed same digits began =
    subst (StopsWriting true held held' octets) (sym (is ∙ ap error.Fault failed)) (subst (BeginsToAppend held held') (same ∙ digits) began)

-- ---- routes

-- a message of octets that is sent from hop to hop
pub sent_in_octets : (in_digits : Bool) (old new : Schema) (from : Codec) (hops : List Hop) (unread unread' held held' : Known) → in_digits ≡ false
    → DoesRouteAs old new from hops unread unread' held held' → PassesIn in_digits old new from hops unread unread' held held'
sent_in_octets false old new from hops unread unread' held held' is does =
    record { message = does.right.message; read = does.right.read; octets = does.octets; arrives = does.right.arrives; wrote = does.wrote }
sent_in_octets true old new from hops unread unread' held held' is does = absurd (both_ways is)

stopped : (old new : Schema) (from : Codec) (hops : List Hop) (unread unread' held held' : Known) (f : Fault) → StopsRouteAs old new from hops unread unread' held held' f
    → StopsPassing false old new from hops unread unread' held held' (error.Fault f)
stopped old new from hops unread unread' held held' (fault.AtHop i kind) x = inr (record { message = x.0.message; read = x.0.read; stops = (x.0.refuses, x.1) })
stopped old new from hops unread unread' held held' fault.OutOfMemory x = inl (tt, x)
stopped old new from hops unread unread' held held' fault.ReadFailed x = inl (tt, x)
stopped old new from hops unread unread' held held' fault.WriteFailed x =
    inr (record { message = x.right.message; read = x.right.read; stops = record { octets = x.octets; arrives = x.right.arrives; stops = x.began } })
stopped old new from hops unread unread' held held' f x = absurd x

-- an error stops a message of octets
pub stopped_in_octets : (in_digits : Bool) (old new : Schema) (from : Codec) (hops : List Hop) (unread unread' held held' : Known) (f : Fault) → in_digits ≡ false
    → StopsRouteAs old new from hops unread unread' held held' f → StopsPassing in_digits old new from hops unread unread' held held' (error.Fault f)
stopped_in_octets in_digits old new from hops unread unread' held held' f is x =
    subst (λ b. StopsPassing b old new from hops unread unread' held held' (error.Fault f)) (sym is) (stopped old new from hops unread unread' held held' f x)

-- the writer failed, or there was no memory for the line
cut_off : (old new : Schema) (from : Codec) (hops : List Hop) (message octets : List ℕ) (held held' : Known) (e : CommandError) → ComesAs old new from hops message (arrived octets)
    → StopsWriting true held held' octets e → StopsOnWay true old new from hops message held held' e
cut_off old new from hops message octets held held' (error.Fault (fault.AtHop i kind)) arrives x = absurd x
cut_off old new from hops message octets held held' e arrives x = record { octets = octets; arrives = arrives; stops = x }

-- what arrives is written as digits
pub answered_in_digits : (old new : Schema) (from : Codec) (hops : List Hop) (lent message lent' octets : List ℕ) (unread unread' held held' : Known) → lent ≡ message → lent' ≡ octets
    → AreReadAsDigits unread unread' message → ComesAs old new from hops lent (arrived octets) → {T : Type 0} (r : Result T CommandError)
    → MatchResult r (λ _. Appends held held' (digit_line lent')) (StopsWriting true held held' lent')
    → MatchResult r (λ _. PassesIn true old new from hops unread unread' held held') (StopsPassing true old new from hops unread unread' held held')
answered_in_digits old new from hops lent message lent' octets unread unread' held held' same same' read comes (Ok v) wrote =
    record {
      message = message;
      read = read;
      octets = octets;
      arrives = subst (λ m. ComesAs old new from hops m (arrived octets)) same comes;
      wrote = subst (λ l. Appends held held' (digit_line l)) same' wrote;
    }
answered_in_digits old new from hops lent message lent' octets unread unread' held held' same same' read comes (Err e) x =
    inr (record {
      message = message;
      read = read;
      stops = cut_off old new from hops message octets held held' e (subst (λ m. ComesAs old new from hops m (arrived octets)) same comes)
          (subst (λ l. StopsWriting true held held' l e) same' x);
    })

-- a message of digits that is sent from hop to hop
pub sent_in_digits : (r : Route) (hops : List Hop) (old new : Schema) (unread unread' held held' : Known) → Extends old new → r.is_hexadecimal ≡ true → hops ≡ r.hops.items
    → {T : Type 0} (result : Result T CommandError)
    → MatchResult result (λ _. PassesIn true old new r.from hops unread unread' held held') (StopsPassing true old new r.from hops unread unread' held held')
    → MatchResult result (λ _. HasRouted r old new unread unread' held held') (StopsRouting r old new unread unread' held held')
sent_in_digits r hops old new unread unread' held held' newer is same (Ok v) does =
    record {
      newer = newer;
      done = subst (λ b. PassesIn b old new r.from r.hops.items unread unread' held held') (sym is)
          (subst (λ l. PassesIn true old new r.from l unread unread' held held') same does);
    }
sent_in_digits r hops old new unread unread' held held' newer is same (Err e) stops =
    record {
      newer = newer;
      stops = subst (λ b. StopsPassing b old new r.from r.hops.items unread unread' held held' e) (sym is)
          (subst (λ l. StopsPassing true old new r.from l unread unread' held held' e) same stops);
    }
