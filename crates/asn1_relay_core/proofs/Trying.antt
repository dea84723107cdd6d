-- A message with which octets begin is found within the limit.
use Rattle.std.proofs.Common.{◌≡◌, ◌≢◌, ◌⊎◌, inl, inr, ℕ, ◌+◌, ◌-◌, ◌≤◌, ◌<◌, ltb, min, Bool, true, false, List, []}
use Rattle.std.proofs.Common.{◌∷◌, ◌++◌, length, take, drop, Option, Some, None, refl, ap, sym, ◌∙◌, subst}
use Rattle.std.proofs.Common.{append_assoc, arith}
use Rattle.std.proofs.Math.Nat.{min-le_left, min-le_right, le-min}
use Rattle.std.proofs.lemmas.Bool.{ltb-true, ltb-false}
use Rattle.std.proofs.lemmas.List.{length-append, length-take-le, take-append-drop, take_all}
use Rattle.asn1_model.specs.Schema.{Schema}
use Rattle.asn1_model.specs.Value.{Value}
use Rattle.asn1_model.specs.Rules.{Rules, IsEncoding}
use Rattle.asn1_schema_laws.specs.Tables.{IsValue}
use Rattle.asn1_schema_errors.specs.declared.DecodeError.{DecodeError}
use Rattle.asn1_schema_errors.specs.declared.DecodeError.TheVariants as Decoding
use Rattle.asn1_schema_decode.specs.Messages.{NeedsMore, HasMessage, Tells, NoMessage}
use Rattle.asn1_laws_across.specs.Streams.{Message, IsMessageWithin, HasNoMessage}
use Rattle.asn1_laws_across.specs.Relayed.{Stop, no_target, empty_message, none_within_limit, HasEmptyMessage, BeginsWith, StopsAt}
use Rattle.asn1_laws_across.proofs.Relayed.{begins_with}
use Rattle.asn1_relay_core.specs.Coding.{IsWritten}
use Rattle.asn1_relay_core.specs.MessageTypes.{IsWrittenAs}
use Rattle.asn1_relay_core.proofs.Coded.{of_raw}
use Rattle.asn1_relay_core.specs.declared.fault.RelayFaultKind.{RelayFaultKind}
use Rattle.asn1_relay_core.specs.declared.fault.RelayFaultKind.TheVariants as kind
use Rattle.asn1_relay_core.specs.declared.front.Attempt.TheVariants as front
use Rattle.asn1_relay_core.specs.Relaying.{kind_of_stop}
use Rattle.asn1_relay_core.specs.Attempts.{AddsText, AddsNothing, Awaits, unread_front, Tries}

-- no length, no elements
none_long : (l : List ℕ) → length l ≡ 0 → l ≡ []
none_long [] e = refl
none_long (x ∷ l) e = absurd (omega (arith, e))

module _ (source target : Rules) (schema : ℕ → Schema) (limit : ℕ) (u : List ℕ) where
  abbrev window : List ℕ
  window = take (min limit (length u)) u

  wide : length window ≡ min limit (length u)
  wide = length-take-le (min limit (length u)) u (min-le_right limit (length u))

  behind : List ℕ
  behind = drop (min limit (length u)) u

  all_of_it : window ++ behind ≡ u
  unfolding behind
  all_of_it = take-append-drop (min limit (length u)) u

  -- ---- there is no message

  module _ (none : (v : Value) (rest : List ℕ) → HasMessage source (schema 128) v window rest → ⊥) where
    pub has_none : HasNoMessage source (schema 128) limit u
    has_none = λ m x e i.
        let a = length-append m.octets x in
        let b = ap length e in
        let short = i.is_short in
        let k : length m.octets ≤ length u = omega arith in
        let l : length m.octets ≤ length window = subst (λ n. length m.octets ≤ n) (sym wide) (le-min short k) in
        none m.value (drop (length m.octets) window)
        (record { message = m.octets; in_front = begins_with m.octets x window behind (e ∙ sym all_of_it) l; encoding = i.is_encoding; levels = i.is_shallow })

    pub has_no_empty : ¬ (HasEmptyMessage source (schema 128))
    has_no_empty = λ h. none h.0 window (record { message = []; in_front = refl; encoding = h.1; levels = h.2 })

  -- octets that are all within the limit
  whole : length u ≤ limit → window ≡ u
  whole l = take_all (min limit (length u)) u (le-min l (omega arith))

  awaited : (e : DecodeError) (n number : ℕ) → ¬ (e ≡ Decoding.OutOfMemory) → length u ≤ limit → number ≤ length u + n → NeedsMore source schema window n e → Awaits source (schema 128) limit u number
  awaited e n number q l k h more less =
      let t = h more (omega arith) in
      let m : NoMessage source schema (u ++ more) e = subst (λ w. NoMessage source schema (w ++ more) e) (whole l) t in (
        (λ x. m.none q x.0 (u ++ more) (record { message = []; in_front = refl; encoding = x.1; levels = x.2 })),
        (λ x rest f i. m.none q x.value rest (record { message = x.octets; in_front = f; encoding = i.is_encoding; levels = i.is_shallow })),
      )

  pub tried_none : (e : DecodeError) (n number : ℕ) (past : Bool) (before after : List ℕ) → past ≡ ltb limit (length u) → number ≤ length u + n →
      after ≡ before → NoMessage source schema window e → NeedsMore source schema window n e → Tries source target (schema 128) limit u before after (unread_front e number past)
  tried_none Decoding.OutOfMemory n number past before after p k g h w = (g, inl refl)
  tried_none e n number true before after p k g h w =
      let n = h.none (λ q. cc) in
      let l : limit < length u = ltb-true limit (length u) (sym p) in
      (g, inr (none_within_limit, refl, (has_none n, has_no_empty n, l)))
  tried_none e n number false before after p k g h w =
      let m = h.none (λ q. cc) in
      let l : length u ≤ limit = ltb-false limit (length u) (sym p) in
      (g, (has_none m, inr (has_no_empty m, l)), awaited e n number (λ q. cc) l k w)

  -- ---- there is a message

  module _ (Means : Value → Type 0) (v : Value) (m : Means v) (rest : List ℕ) (t : Tells source schema v window rest) (is : IsValue schema v) where
    abbrev told : Message
    told = record { octets = t.message.message; value = t.raw }

    cut : told.octets ++ (rest ++ behind) ≡ u
    cut = sym (append_assoc told.octets rest behind) ∙ (ap (λ l. l ++ behind) t.message.in_front ∙ all_of_it)

    lengths : length told.octets + length rest ≡ length window
    lengths = sym (length-append told.octets rest) ∙ ap length t.message.in_front

    pub counted : length window - length rest ≡ length told.octets
    counted = let l = lengths in omega arith

    short : length told.octets ≤ limit
    short = let l = lengths in let w = wide in let a = min-le_left limit (length u) in omega arith

    is_message : 1 ≤ length told.octets → IsMessageWithin source (schema 128) limit told
    is_message l = record { is_encoding = t.message.encoding; is_shallow = t.message.levels; is_some = l; is_short = short }

    begins : (w : Option (List ℕ)) → 1 ≤ length told.octets → IsWritten target schema v w → BeginsWith source target (schema 128) limit w u
    begins w l h = (told, rest ++ behind, cut, is_message l, of_raw source target schema v window rest t w is h)

    pub tried_relayed : (n : ℕ) (before after : List ℕ) → n ≡ length window - length rest → 1 ≤ n → AddsText target schema Means before after →
        Tries source target (schema 128) limit u before after (front.Relayed n)
    tried_relayed n before after e l a =
        let c = counted in
        let k : 1 ≤ length told.octets = omega arith in
        record {
          message = told;
          is_message = is_message k;
          rest = rest ++ behind;
          in_front = cut;
          written = a.text;
          translated =
              of_raw source target schema v window rest t (Some a.text) is (a.written v m);
          is_some = a.is_some;
          counted = omega arith;
          grows = a.grows;
        }

    pub tried_empty : (before after : List ℕ) → length window - length rest ≡ 0 → u ≢ [] → after ≡ before → Tries source target (schema 128) limit u before after (front.Stops kind.EmptyMessage)
    tried_empty before after e n g =
        let c = counted in
        let z : told.octets ≡ [] = none_long told.octets (sym c ∙ e) in
        (g, inr (empty_message, refl, inr (n, (t.raw, subst (λ l. IsEncoding source (schema 128) t.raw l) z t.message.encoding, t.message.levels))))

    pub tried_nothing : (k : RelayFaultKind) (before after : List ℕ) → 1 ≤ length window - length rest → AddsNothing target schema Means before after k →
        Tries source target (schema 128) limit u before after (front.Stops k)
    tried_nothing k before after l a = (a.same, by_cause a.why)
      where
        some_told : 1 ≤ length told.octets
        some_told = let c = counted in omega arith

        by_cause : (k ≡ kind.Memory) ⊎ ((k ≡ kind.NoTarget) × IsWrittenAs target schema Means None) ⊎ ((k ≡ kind.EmptyMessage) × IsWrittenAs target schema Means (Some []))
            → (k ≡ kind.Memory) ⊎ ((why : Stop) × (k ≡ kind_of_stop why) × StopsAt source target (schema 128) limit u (Some why))
        by_cause (inl e) = inl e
        by_cause (inr (inl h)) = inr (no_target, h.0, begins None some_told (h.1 v m))
        by_cause (inr (inr h)) = inr (empty_message, h.0, inl (begins (Some []) some_told (h.1 v m)))
