-- The messages that were relayed one after another are those with which all octets begin.
use Rattle.std.proofs.Common.{◌≡◌, ◌⊎◌, inl, inr, ℕ, ◌+◌, ◌≤◌, ◌<◌, min, true, false, List, [], ◌∷◌, ◌++◌, length, drop, Some, None, refl, ap, sym, ◌∙◌, subst, append_assoc, arith}
use Rattle.std.proofs.Math.Seq.{drop-append_seam}
use Rattle.std.proofs.lemmas.List.{length-append, append-nil}
use Rattle.asn1_model.specs.Schema.{Schema}
use Rattle.asn1_model.specs.Rules.{Rules}
use Rattle.asn1_laws_across.specs.Streams.{Message, HasNoMessage}
use Rattle.asn1_laws_across.specs.Relayed.{Stop, RelaysFront, HasEmptyMessage, StopsAt}
use Rattle.asn1_laws_across.proofs.Relayed.{joins}
use Rattle.asn1_relay_core.specs.Coding.{rules_of}
use Rattle.asn1_relay_core.specs.declared.fault.RelayFault.{RelayFault}
use Rattle.asn1_relay_core.specs.declared.fault.RelayFaultKind.{RelayFaultKind}
use Rattle.asn1_relay_core.specs.declared.fault.RelayFaultKind.TheVariants as kind
use Rattle.asn1_relay_core.specs.Relaying.{Relaying, capped, kind_of_stop, onwards, IsFed, FaultOf}
use Rattle.asn1_relay_core.specs.Attempts.{Awaits, RelaysOne}

-- no octets begin with no message
pub none_of_none : (r : Rules) (s : Schema) (limit : ℕ) → HasNoMessage r s limit []
none_of_none r s limit = λ m x e i.
    let a = length-append m.octets x in
    let b = ap length e in
    let c = i.is_some in
    omega arith

pub waits_at_end : (source target : Rules) (s : Schema) (limit : ℕ) (w : List ℕ) → w ≡ [] → StopsAt source target s limit w None
waits_at_end source target s limit w e = subst (λ l. StopsAt source target s limit l None) (sym e) (none_of_none source s limit, inl refl)

-- What has been relayed so far of the octets that were unread and the piece.
pub record SoFar (s : Schema) (old now : Relaying) (piece before after : List ℕ) : Type 0 where
  pub messages : List Message
  pub written : List ℕ
  pub front : RelaysFront (rules_of old.from) (rules_of old.to) s old.limit messages written now.unread (old.unread ++ piece)
  pub grows : after ≡ before ++ written
  pub is : now ≡ onwards old now.unread (capped (old.number + length messages)) false

abbrev most : ℕ
most = 18446744073709551615

module _ (s : Schema) (old : Relaying) (piece before : List ℕ) where
  abbrev Front : List Message → List ℕ → List ℕ → Type 0
  Front ms out rest = RelaysFront (rules_of old.from) (rules_of old.to) s old.limit ms out rest (old.unread ++ piece)

  -- ---- one message after another

  pub begun : (now : Relaying) (after : List ℕ) → now ≡ onwards old (old.unread ++ piece) old.number false → old.number ≤ most → after ≡ before → SoFar s old now piece before after
  begun now after e n g =
      let u : now.unread ≡ old.unread ++ piece = ap (λ r. r.unread) e in
      let c : old.number ≡ capped (old.number + 0) = omega arith in
      record {
        messages = [];
        written = [];
        front = (refl, u);
        grows = g ∙ sym (append-nil before);
        is = e ∙
            (ap (λ l. onwards old l old.number false) (sym u) ∙ ap (λ i. onwards old now.unread i false) c);
      }

  -- nothing more is written
  pub grown_alike : (now : Relaying) (after later : List ℕ) → SoFar s old now piece before after → later ≡ after → SoFar s old now piece before later
  grown_alike now after later h e = record { messages = h.messages; written = h.written; front = h.front; grows = e ∙ h.grows; is = h.is }

  module _ (now : Relaying) (after : List ℕ) (h : SoFar s old now piece before after) where
    -- the rules and the limit do not change
    abbrev Here : (Rules → Rules → ℕ → Type 0) → Relaying → Type 0
    Here P r = P (rules_of r.from) (rules_of r.to) r.limit

    here : (P : Rules → Rules → ℕ → Type 0) → Here P now → Here P old
    here P p = subst (Here P) h.is p

    pub one_more : (next : Relaying) (later : List ℕ) (count : ℕ) →
        RelaysOne (rules_of now.from) (rules_of now.to) s now.limit now.unread after later count →
        next ≡ onwards now (drop count now.unread) (min (now.number + 1) most) now.failed → SoFar s old next piece before later
    one_more next later count given e =
        let one : RelaysOne (rules_of old.from) (rules_of old.to) s old.limit now.unread after later count = here (λ a b l. RelaysOne a b s l now.unread after later count) given in
        let m = one.message in
        let d : drop count now.unread ≡ one.rest = subst (λ n. drop n now.unread ≡ one.rest) one.counted
        (subst (λ l. drop (length m.octets) l ≡ one.rest) one.in_front (drop-append_seam m.octets one.rest)) in
        let u : next.unread ≡ one.rest = ap (λ r. r.unread) e ∙ d in
        let f : Front (h.messages ++ m ∷ []) (h.written ++ one.written) one.rest =
        joins (rules_of old.from) (rules_of old.to) s old.limit h.messages (m ∷ []) h.written one.written now.unread one.rest
        (old.unread ++ piece) h.front (one.is_message, one.rest, one.in_front, one.written, one.translated, one.is_some, [], append-nil one.written, (refl, refl)) in
        let k : now.number ≡ capped (old.number + length h.messages) = ap (λ r. r.number) h.is in
        let l : length (h.messages ++ m ∷ []) ≡ length h.messages + 1 = length-append h.messages (m ∷ []) in
        let n : min (now.number + 1) most ≡ capped (old.number + length (h.messages ++ m ∷ [])) = omega arith in
        let i : onwards now (drop count now.unread) (min (now.number + 1) most) now.failed ≡ onwards old next.unread (min (now.number + 1) most)
        false = ap (λ r. onwards r (drop count now.unread) (min (now.number + 1) most) r.failed) h.is ∙ ap (λ w. onwards old w (min (now.number + 1) most) false) (d ∙ sym u) in
        record {
          messages = h.messages ++ m ∷ [];
          written = h.written ++ one.written;
          front =
              subst (λ r. Front (h.messages ++ m ∷ []) (h.written ++ one.written) r) (sym u) f;
          grows = one.grows ∙
              (ap (λ w. w ++ one.written) h.grows ∙ append_assoc before h.written one.written);
          is = e ∙ (i ∙ ap (λ j. onwards old next.unread j false) n);
        }

    -- ---- the ends of a call

    pub fed : old.failed ≡ false → StopsAt (rules_of now.from) (rules_of now.to) s now.limit now.unread None → IsFed s old now piece before after
    fed had given =
        let w : StopsAt (rules_of old.from) (rules_of old.to) s old.limit now.unread None = here (λ a b l. StopsAt a b s l now.unread None) given in
        record {
          had_not = had;
          count = length h.messages;
          written = h.written;
          relays =
              record { messages = h.messages; counted = refl; front = h.front; stops = w };
          grows = h.grows;
          goes_on = h.is;
          within = few w.1;
        }
      where
        few : (now.unread ≡ []) ⊎ (¬ (HasEmptyMessage (rules_of old.from) s) × (length now.unread ≤ old.limit)) → length now.unread ≤ old.limit
        few (inl e) = let l = ap length e in omega arith
        few (inr n) = n.1

    module _ (new : Relaying) (fault : RelayFault) (k : RelayFaultKind) (stops : new ≡ onwards now now.unread now.number true) (is : fault ≡ record { number = now.number; kind = k }) where
      number : now.number ≡ capped (old.number + length h.messages)
      number = ap (λ r. r.number) h.is

      stopped_as : new ≡ onwards old new.unread fault.number true
      stopped_as =
          let u : new.unread ≡ now.unread = ap (λ r. r.unread) stops in
          let n : fault.number ≡ now.number = ap (λ f. f.number) is in
          stops ∙ (ap (λ r. onwards r now.unread now.number true) h.is ∙ (ap (λ w. onwards old w now.number true) (sym u) ∙ ap (λ i. onwards old new.unread i true) (sym n)))

      fault_as : (j : RelayFaultKind) → k ≡ j → fault ≡ record { number = capped (old.number + length h.messages); kind = j }
      fault_as j e = is ∙ (ap (λ i. record { number = i; kind = k }) number ∙ ap (λ x. record { number = capped (old.number + length h.messages); kind = x }) e)

      pub stopped : old.failed ≡ false → (k ≡ kind.Memory) ⊎ ((why : Stop) × (k ≡ kind_of_stop why) ×
          StopsAt (rules_of now.from) (rules_of now.to) s now.limit now.unread (Some why)) → FaultOf s old new piece before after fault
      stopped had (inl e) = inr
          (inr (had, record { messages = h.messages; written = h.written; rest = now.unread; relays = h.front; grows = h.grows; is = fault_as kind.Memory e; stops = stopped_as }))
      stopped had (inr y) =
          let w : StopsAt (rules_of old.from) (rules_of old.to) s old.limit now.unread (Some y.0) = here (λ a b l. StopsAt a b s l now.unread (Some y.0)) y.2 in
          inr (inl (
            had,
            y.0,
            record {
              count = length h.messages;
              written = h.written;
              rest = now.unread;
              relays =
                  record { messages = h.messages; counted = refl; front = h.front; stops = w };
              grows = h.grows;
              is = fault_as (kind_of_stop y.0) y.1;
              stops = stopped_as;
            },
          ))

-- a relay that waits for more octets than are unread
pub waited : (s : Schema) (old now : Relaying) (piece before : List ℕ) (awaited : ℕ) → old.failed ≡ false → now ≡ onwards old (old.unread ++ piece) old.number false → old.number ≤ most
    → Awaits (rules_of old.from) s old.limit old.unread awaited → length (old.unread ++ piece) < awaited → length (old.unread ++ piece) ≤ old.limit → IsFed s old now piece before before
waited s old now piece before awaited had e n w k l =
    let a = length-append old.unread piece in
    let none = w piece (omega arith) in
    let here : StopsAt (rules_of old.from) (rules_of old.to) s old.limit (old.unread ++ piece) None = (none.1, inr (none.0, l)) in
    let there : StopsAt (rules_of now.from) (rules_of now.to) s now.limit now.unread None = subst (λ (r : Relaying). StopsAt (rules_of r.from) (rules_of r.to) s r.limit r.unread None) (sym e) here in
    fed s old piece before now before (begun s old piece before now before e n refl) had there

-- it waits for as many octets after the piece
pub awaits_on : (source : Rules) (s : Schema) (limit : ℕ) (unread piece : List ℕ) (awaited : ℕ) → Awaits source s limit unread awaited → Awaits source s limit (unread ++ piece) awaited
awaits_on source s limit unread piece awaited w more less =
    let a = length-append unread piece in
    let b = length-append piece more in
    let t = w (piece ++ more) (omega arith) in
    (t.0, subst (λ x. HasNoMessage source s limit x) (sym (append_assoc unread piece more)) t.1)

-- it waits for no octets if the number is 0
pub awaits_none : (source : Rules) (s : Schema) (limit : ℕ) (unread : List ℕ) → Awaits source s limit unread 0
awaits_none source s limit unread more less = absurd (omega arith)

-- a relay without unread octets receives an empty piece
pub nothing_fed : (s : Schema) (old : Relaying) (piece before : List ℕ) → old.failed ≡ false → old.unread ≡ [] → piece ≡ [] → old.number ≤ most → IsFed s old old piece before before
nothing_fed s old piece before had u p n =
    let w : old.unread ≡ old.unread ++ piece = subst (λ l. old.unread ≡ old.unread ++ l) (sym p) (sym (append-nil old.unread)) in
    let e : old ≡ onwards old (old.unread ++ piece) old.number false = ap (λ l. onwards old l old.number old.failed) w ∙ ap (λ b. onwards old (old.unread ++ piece) old.number b) had in
    fed s old piece before old before (begun s old piece before old before e n refl) had (waits_at_end (rules_of old.from) (rules_of old.to) s old.limit old.unread u)
