-- What a relay of the older version does with messages of the newer one.
use Rattle.std.proofs.Common.{◌≡◌, ◌≢◌, ◌⊎◌, inl, inr, ℕ, suc, ◌≤◌, ◌<◌, List, [], ◌∷◌, ◌++◌, length, Option, Some, None, refl, ap, sym, ◌∙◌, subst, arith}
use Rattle.std.proofs.lemmas.Bool.{cases_lt}
use Rattle.std.proofs.lemmas.List.{append_cancel_left, length-append}
use Rattle.asn1_model.specs.Value.{Value}
use Rattle.asn1_model.specs.Schema.{Schema}
use Rattle.asn1_model.specs.Lawful.{IsLawful}
use Rattle.asn1_model.specs.Rules.{Rules, canonical}
use Rattle.asn1_model.specs.Versions.{Extends}
use Rattle.asn1_laws_values.proofs.Messages.{some_parts}
use Rattle.asn1_laws_across.specs.Streams.{Message, HasNoMessage}
use Rattle.asn1_laws_across.specs.Streams as streams
use Rattle.asn1_laws_across.specs.Relayed.{Stop, RelaysFront, BeginsWith, HasEmptyMessage, StopsAt, Relays}
use Rattle.asn1_laws_across.specs.Relayed as stop
use Rattle.asn1_laws_across.proofs.Relayed.{some_before, targets_agree, one_stop, relayed_on}
use Rattle.asn1_laws_versions.proofs.Exactly.{older_reads_exactly}
use Rattle.asn1_laws_versions.specs.Answers.{IsMessage, Answer, not_an_encoding, no_target}
use Rattle.asn1_laws_versions.specs.Routes.{no_hop, at_first, answer_to, Writes, HasNoCause, HasCause}
use Rattle.asn1_laws_versions.specs.Relays.{AreJoined, Halt, unread, untranslated, emptied, older_to, HaltsAt, RelaysOlder, IsEnd}
use Rattle.asn1_laws_versions.proofs.Hops.{Step, step, Unread, either_answer, cause_unread, hands_on, answers_by_cause}

not_empty : {A : Type 0} (x : List A) → x ≢ [] → 1 ≤ length x
not_empty [] n = absurd (n refl)
not_empty (a ∷ x) n = omega arith

module _ (source target : Rules) (old new : Schema) (limit : ℕ) (lo : IsLawful old) (ln : IsLawful new) (ext : Extends old new) where
  abbrev Begins : Option (List ℕ) → List ℕ → Type 0
  Begins t w = BeginsWith source target old limit t w

  abbrev Stops : List ℕ → Option Stop → Type 0
  Stops w why = StopsAt source target old limit w why

  -- ---- the first message
  module _ (v : Value) (x others w : List ℕ) (e : canonical source new v ≡ Some x) (some : x ≢ []) (joined : x ++ others ≡ w) where
    none_front : Unread source old x → HasNoMessage source old limit w
    none_front u = λ m y q i. u m.octets y others m.value (i.is_encoding, i.is_shallow) (q ∙ sym joined)

    too_long : limit < length x → HasNoMessage source old limit w
    too_long l = λ m y q i.
        let f = ((older_reads_exactly source old new v m.value x lo ln ext e).1 m.octets y others i.is_encoding (q ∙ sym joined)).0 in
        let n : length m.octets ≡ length x = ap length f in
        let k = i.is_short in
        omega arith

    -- after a message at the start of the octets come the other octets
    front_is : (m : Message) (y : List ℕ) → streams.IsMessageWithin source old limit m → m.octets ++ y ≡ w → y ≡ others
    front_is m y i q =
        let f = ((older_reads_exactly source old new v m.value x lo ln ext e).1 m.octets y others i.is_encoding (q ∙ sym joined)).0 in
        append_cancel_left x y others (ap (λ l. l ++ y) (sym f) ∙ (q ∙ sym joined))

    no_message : HaltsAt source target old new limit v x unread → HasNoMessage source old limit w
    no_message (inl c) = none_front (cause_unread old new lo ln ext source target v x e c)
    no_message (inr l) = too_long l

    -- the value that is read is the first
    begins : (y : Value) (t : Option (List ℕ)) → length x ≤ limit → IsMessage source old y x → canonical target old y ≡ t → Begins t w
    begins y t l m c = (record { octets = x; value = y }, others, joined, record { is_encoding = m.0; is_shallow = m.1; is_some = not_empty x some; is_short = l }, c)

    begins_some : (t : List ℕ) → HasNoCause old new (at_first source) (older_to target) v → length x ≤ limit → Writes old new no_hop (older_to target) v (Some t) → Begins (Some t) w
    begins_some t n l k =
        let h = hands_on old new lo ln ext (at_first source) (older_to target) v x e n in
        let f : h.2.0 ≡ k.0 = some_parts (sym h.2.1 ∙ k.1) in
        let g : Some h.0 ≡ Some t = sym h.2.2 ∙ (ap (canonical target old) f ∙ k.2) in
        begins h.1.0 (Some t) l h.1.1 (h.1.2 ∙ g)

    begins_none : HasCause old new (at_first source) (older_to target) v no_target → length x ≤ limit → Begins None w
    begins_none c l =
        let h = answers_by_cause old new lo ln ext (at_first source) (older_to target) v x no_target e c in
        begins h.0 None l h.1 h.2

    -- no message is relayed at a stop
    stopped : (why : Halt) → HaltsAt source target old new limit v x why → (m : List Message) (o r : List ℕ) (why' : Option Stop) → RelaysFront source target old limit m o r w → Stops r why'
        → (length m ≡ 0) × (o ≡ []) × (r ≡ w) × IsEnd source target old new limit w (Some why) why'
    stopped untranslated h [] o r why' f s =
        (refl, f.0, f.1, one_stop source target old limit lo w why' (Some stop.no_target) (subst (λ r. Stops r why') f.1 s) (begins_none h.0 h.1))
    stopped untranslated h (m ∷ ms) o r why' f s = absurd (relayed_on source target old limit lo f.3 w (Some stop.no_target) f.5 (m, f.1, f.2, f.0, f.4) (begins_none h.0 h.1))
    stopped emptied h [] o r why' f s =
        (refl, f.0, f.1, one_stop source target old limit lo w why' (Some stop.empty_message) (subst (λ r. Stops r why') f.1 s) (inl (begins_some [] h.0 h.1 h.2)))
    stopped emptied h (m ∷ ms) o r why' f s = absurd (relayed_on source target old limit lo f.3 w (Some stop.empty_message) f.5 (m, f.1, f.2, f.0, f.4) (inl (begins_some [] h.0 h.1 h.2)))
    stopped unread h (m ∷ ms) o r why' f s = absurd (no_message h m f.1 f.2 f.0)
    stopped unread h [] o r why' f s = (refl, f.0, f.1, (n, at_empty, at_less, at_more))
      where
        n : HasNoMessage source old limit w
        n = no_message h

        here : Stops w why'
        here = subst (λ r. Stops r why') f.1 s

        filled : w ≢ []
        filled = subst (λ w. w ≢ []) joined (some_before x others some)

        at_empty : HasEmptyMessage source old → why' ≡ Some stop.empty_message
        at_empty k = one_stop source target old limit lo w why' (Some stop.empty_message) here (inr (filled, k))

        at_less : ¬ (HasEmptyMessage source old) → length w ≤ limit → why' ≡ None
        at_less k l = one_stop source target old limit lo w why' None here (n, inr (k, l))

        at_more : ¬ (HasEmptyMessage source old) → limit < length w → why' ≡ Some stop.none_within_limit
        at_more k l = one_stop source target old limit lo w why' (Some stop.none_within_limit) here (n, k, l)

  -- ---- where nothing is left
  no_front : (m : List ℕ) (y : List ℕ) → m ++ y ≡ [] → 1 ≤ length m → ⊥
  no_front m y e l =
      let n : length (m ++ y) ≡ 0 = ap length e in
      let k = length-append m y in
      omega arith

  nothing_left : (m : List Message) (o r : List ℕ) (why : Option Stop) → RelaysFront source target old limit m o r [] → Stops r why → (length m ≡ 0) × (o ≡ []) × (r ≡ []) × (why ≡ None)
  nothing_left [] o r why f s =
      let n : HasNoMessage source old limit [] = λ m y q i. no_front m.octets y q i.is_some in
      (refl, f.0, f.1, one_stop source target old limit lo [] why None (subst (λ r. Stops r why) f.1 s) (n, inl refl))
  nothing_left (m ∷ ms) o r why f s = absurd (no_front m.octets f.1 f.2 f.0.is_some)

  -- ---- all of them
  pub does : (vs : List Value) (w : List ℕ) (number : ℕ) (out rest : List ℕ) (halt : Option Halt) → RelaysOlder source target old new limit vs w number out rest halt
      → (m : List Message) (o r : List ℕ) (why : Option Stop) → RelaysFront source target old limit m o r w → Stops r why
      → (length m ≡ number) × (o ≡ out) × (r ≡ rest) × IsEnd source target old new limit rest halt why
  does [] w number out rest halt h m o r why f s =
      let k = nothing_left m o r why (subst (λ w. RelaysFront source target old limit m o r w) h.0 f) s in
      let e : r ≡ rest = k.2 ∙ (sym h.0 ∙ sym h.3) in
      (k.0 ∙ sym h.1, k.1 ∙ sym h.2, e, subst (λ halt. IsEnd source target old new limit rest halt why) (sym h.4) k.3)
  does (v ∷ vs) w number out rest halt (x, others, e, some, joined, inl h) m o r why f s =
      let k = stopped v x others w e some joined h.0 h.1 m o r why f s in
      let i : IsEnd source target old new limit rest (Some h.0) why = subst (λ rest. IsEnd source target old new limit rest (Some h.0) why) (sym h.4) k.3 in
      (k.0 ∙ sym h.2, k.1 ∙ sym h.3, k.2 ∙ sym h.4, subst (λ halt. IsEnd source target old new limit rest halt why) (sym h.5) i)
  does (v ∷ vs) w number out rest halt (x, others, e, some, joined, inr h) [] o r why f s =
      absurd (relayed_on source target old limit lo h.1 w why h.3.3 (begins_some v x others w e some joined h.1 h.3.0 h.3.1 h.3.2) (subst (λ r. Stops r why) f.1 s))
  does (v ∷ vs) w number out rest halt (x, others, e, some, joined, inr h) (m ∷ ms) o r why f s =
      let q = front_is v x others w e some joined m f.1 f.0 f.2 in
      let b = begins_some v x others w e some joined h.1 h.3.0 h.3.1 h.3.2 in
      let t : Some f.3 ≡ Some h.1 = targets_agree source target old limit lo (Some f.3) (Some h.1) w (m, f.1, f.2, f.0, f.4) b in
      let i = does vs others h.0 h.2 rest halt h.6 ms f.6 r why (subst (λ y. RelaysFront source target old limit ms f.6 r y) q f.8) s in
      (ap suc i.0 ∙ sym h.4, sym f.7 ∙ (ap (λ l. l ++ f.6) (some_parts t) ∙ (ap (λ l. h.1 ++ l) i.1 ∙ sym h.5)), i.2, i.3)

  -- ---- how far it goes
  abbrev Goes : List Value → List ℕ → Type 0
  Goes vs w = (number : ℕ) × (out : List ℕ) × (rest : List ℕ) × (halt : Option Halt) × RelaysOlder source target old new limit vs w number out rest halt

  module _ (v : Value) (vs : List Value) (x others w : List ℕ) (e : canonical source new v ≡ Some x) (some : x ≢ []) (joined : x ++ others ≡ w) where
    halted : (why : Halt) → HaltsAt source target old new limit v x why → Goes (v ∷ vs) w
    halted why h = (0, [], w, Some why, (x, others, e, some, joined, inl (why, h, refl, refl, refl, refl)))

    refused : (a : Answer) → HasCause old new (at_first source) (older_to target) v a → (a ≡ not_an_encoding) ⊎ (a ≡ no_target) → (limit < length x) ⊎ (length x ≤ limit) → Goes (v ∷ vs) w
    refused a c (inl k) l = halted unread (inl (subst (λ a. HasCause old new (at_first source) (older_to target) v a) k c))
    refused a c (inr k) (inl l) = halted unread (inr l)
    refused a c (inr k) (inr l) = halted untranslated (subst (λ a. HasCause old new (at_first source) (older_to target) v a) k c, l)

    handed_on : Goes vs others → HasNoCause old new (at_first source) (older_to target) v → (t : List ℕ) →
        Writes old new no_hop (older_to target) v (Some t) → (limit < length x) ⊎ (length x ≤ limit) → Goes (v ∷ vs) w
    handed_on g n t k (inl l) = halted unread (inr l)
    handed_on g n [] k (inr l) = halted emptied (n, l, k)
    handed_on g n (a ∷ t) k (inr l) = (suc g.0, (a ∷ t) ++ g.1, g.2, g.3, (x, others, e, some, joined, inr (g.0, a ∷ t, g.1, (n, l, k, λ f. cc), refl, refl, g.4)))

    by_step : Goes vs others → Step old new lo ln ext (at_first source) (older_to target) v x → Goes (v ∷ vs) w
    by_step g (inl s) = handed_on g s.0 s.1.0 s.1.2 (cases_lt limit (length x))
    by_step g (inr s) = refused s.0 s.1 (which s.0 s.1) (cases_lt limit (length x))
      where
        which : (a : Answer) → HasCause old new (at_first source) (older_to target) v a → (a ≡ not_an_encoding) ⊎ (a ≡ no_target)
        which a c = turned (either_answer c.0)
          where
            turned : (answer_to c.0 ≡ not_an_encoding) ⊎ (answer_to c.0 ≡ no_target) → (a ≡ not_an_encoding) ⊎ (a ≡ no_target)
            turned (inl k) = inl (sym c.2 ∙ k)
            turned (inr k) = inr (sym c.2 ∙ k)

  pub goes : (vs : List Value) (w : List ℕ) → AreJoined source new vs w → Goes vs w
  goes [] w j = (0, [], w, None, (j, refl, refl, refl, refl))
  goes (v ∷ vs) w (x, others, e, some, joined, j) = by_step v vs x others w e some joined (goes vs others j) (step old new lo ln ext (at_first source) (older_to target) v x e)
