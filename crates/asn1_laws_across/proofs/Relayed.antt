-- What a relay does with octets that arrive in pieces.
use Rattle.std.proofs.Common.{◌≡◌, ◌≢◌, ◌⊎◌, inl, inr, ℕ, suc, ◌+◌, ◌≤◌, ◌<◌, List, [], ◌∷◌, ◌++◌, length, take, drop, Option, Some, None, refl, ap, sym, ◌∙◌, subst, append_assoc, arith}
use Rattle.std.specs.List.{concat}
use Rattle.std.proofs.lemmas.List.{append-nil, length-append, length-take, take-append-le, take-append-drop}
use Rattle.std.proofs.Math.Seq.{take-append_seam}
use Rattle.asn1_model.specs.Schema.{Schema}
use Rattle.asn1_model.specs.Lawful.{IsLawful}
use Rattle.asn1_model.specs.Rules.{Rules, canonical}
use Rattle.asn1_laws_across.proofs.Canonical.{same_written}
use Rattle.asn1_laws_across.specs.Streams.{Message, HasNoMessage, IsMessageWithin, Divides, AreSame}
use Rattle.asn1_laws_across.specs.Relayed.{Stop, no_target, empty_message, none_within_limit, RelaysFront, BeginsWith, HasEmptyMessage, StopsAt, Relays, RelaysPieces, Translates, EndsBefore}
use Rattle.asn1_laws_fronts.proofs.Every.{one_front}
use Rattle.asn1_laws_across.proofs.Streams.{first_same}

-- ---- lists

-- the first of two equal joined lists begins with the second, if that is no longer
pub begins_with : {A : Type 0} (m y r x : List A) → m ++ y ≡ r ++ x → length m ≤ length r → m ++ drop (length m) r ≡ r
begins_with m y r x e h =
    let f : take (length m) (m ++ y) ≡ m = take-append_seam m y in
    let g : take (length m) (r ++ x) ≡ take (length m) r = take-append-le (length m) r x h in
    let k : take (length m) r ≡ m = sym g ∙ (sym (ap (take (length m)) e) ∙ f) in
    subst (λ l. l ++ drop (length m) r ≡ r) k (take-append-drop (length m) r)

-- joined octets are some where the first are
pub some_before : {A : Type 0} (r x : List A) → r ≢ [] → r ++ x ≢ []
some_before [] x n = absurd (n refl)
some_before (a ∷ r) x n = λ e. cc

-- a prefix of octets that is no longer than a limit is no longer than their first octets up to the limit
length_of_first : (m x w : List ℕ) (limit : ℕ) → m ++ x ≡ w → length m ≤ limit → length m ≤ length (take limit w)
length_of_first m x w limit e h =
    let a = length-take limit w in
    let b : length m + length x ≡ length w = sym (length-append m x) ∙ ap length e in
    omega (arith, a)

module _ (source target : Rules) (s : Schema) (limit : ℕ) where
  abbrev Front : List Message → List ℕ → List ℕ → List ℕ → Type 0
  Front ms out rest w = RelaysFront source target s limit ms out rest w

  -- ---- more octets follow

  pub longer : (ms : List Message) (out rest w x : List ℕ) → Front ms out rest w → Front ms out (rest ++ x) (w ++ x)
  longer [] out rest w x h = (h.0, ap (λ l. l ++ x) h.1)
  longer (m ∷ ms) out rest w x h =
      (h.0, h.1 ++ x, sym (append_assoc m.octets h.1 x) ∙ ap (λ l. l ++ x) h.2, h.3, h.4, h.5, h.6, h.7, longer ms h.6 rest h.1 x h.8)

  pub joins : (ms ns : List Message) (o q rest other w : List ℕ) → Front ms o rest w → Front ns q other rest → Front (ms ++ ns) (o ++ q) other w
  joins [] ns o q rest other w h k = subst (λ l. Front ns (l ++ q) other w) (sym h.0) (subst (λ l. Front ns q other l) h.1 k)
  joins (m ∷ ms) ns o q rest other w h k =
      (h.0, h.1, h.2, h.3, h.4, h.5, h.6 ++ q, sym (append_assoc h.3 h.6 q) ∙ ap (λ l. l ++ q) h.7, joins ms ns h.6 q rest other h.1 h.8 k)

  pub goes_on : (w x : List ℕ) (n k : ℕ) (o q rest other : List ℕ) (why : Option Stop) →
      Relays source target s limit w n o rest None → Relays source target s limit (rest ++ x) k q other why → Relays source target s limit (w ++ x) (n + k) (o ++ q) other why
  goes_on w x n k o q rest other why h g =
      let l = length-append h.messages g.messages in
      let a = h.counted in
      let b = g.counted in
      record {
        messages = h.messages ++ g.messages;
        counted = l ∙ (ap (λ i. i + length g.messages) a ∙ ap (λ i. n + i) b);
        front =
            joins h.messages g.messages o q (rest ++ x) other (w ++ x) (longer h.messages o rest w x h.front) g.front;
        stops = g.stops;
      }

  -- ---- a stop

  begins_longer : (t : Option (List ℕ)) (w x : List ℕ) → BeginsWith source target s limit t w → BeginsWith source target s limit t (w ++ x)
  begins_longer t w x b = (b.0, b.1 ++ x, sym (append_assoc b.0.octets b.1 x) ∙ ap (λ l. l ++ x) b.2, b.3, b.4)

  pub none_longer : (w x : List ℕ) → HasNoMessage source s limit w → limit ≤ length w → HasNoMessage source s limit (w ++ x)
  none_longer w x h l = λ m y e i.
      let b = i.is_short in
      let k : length m.octets ≤ length w = omega arith in
      h m (drop (length m.octets) w) (begins_with m.octets y w x e k) i

  pub stop_lasts : (w x : List ℕ) (why : Stop) → StopsAt source target s limit w (Some why) → StopsAt source target s limit (w ++ x) (Some why)
  stop_lasts w x no_target h = begins_longer None w x h
  stop_lasts w x empty_message (inl h) = inl (begins_longer (Some []) w x h)
  stop_lasts w x empty_message (inr h) = inr (some_before w x h.0, h.1)
  stop_lasts w x none_within_limit h =
      let l = length-append w x in
      let k = h.2 in
      let j : limit ≤ length w = omega arith in
      (none_longer w x h.0 j, h.1, omega arith)

  pub stops_for_good : (w x : List ℕ) (n : ℕ) (o rest : List ℕ) (why : Stop) → Relays source target s limit w n o rest (Some why) → Relays source target s limit (w ++ x) n o (rest ++ x) (Some why)
  stops_for_good w x n o rest why h = record { messages = h.messages; counted = h.counted; front = longer h.messages o rest w x h.front; stops = stop_lasts rest x why h.stops }

  -- ---- pieces

  pub pieces_joined : (unread : List ℕ) (ps : List (List ℕ)) (n : ℕ) (o rest : List ℕ) (why : Option Stop) →
      StopsAt source target s limit unread None → RelaysPieces source target s limit unread ps n o rest why
      → (other : List ℕ) × Relays source target s limit (unread ++ concat ps) n o other why × (why ≡ None → other ≡ rest)
  pieces_joined unread [] n o rest why w h =
      let a : Relays source target s limit (unread ++ []) 0 [] unread None = record { messages = []; counted = refl; front = (refl, sym (append-nil unread)); stops = w } in
      let b : Relays source target s limit (unread ++ []) n [] unread None = subst (λ i. Relays source target s limit (unread ++ []) i [] unread None) (sym h.0) a in
      let c : Relays source target s limit (unread ++ []) n o unread None = subst (λ l. Relays source target s limit (unread ++ []) n l unread None) (sym h.1) b in
      (unread, subst (λ y. Relays source target s limit (unread ++ []) n o unread y) (sym h.3) c, λ e. sym h.2)
  pieces_joined unread (p ∷ ps) n o rest None w (inl h) = absurd (h.1 refl)
  pieces_joined unread (p ∷ ps) n o rest (Some why) w (inl h) =
      let a = stops_for_good (unread ++ p) (concat ps) n o rest why h.0 in
      (rest ++ concat ps, subst (λ l. Relays source target s limit l n o (rest ++ concat ps) (Some why)) (append_assoc unread p (concat ps)) a, λ e. cc)
  pieces_joined unread (p ∷ ps) n o rest why w (inr h) =
      let i = pieces_joined h.2 ps h.4 h.5 rest why h.3.stops h.6 in
      let a = goes_on (unread ++ p) (concat ps) h.0 h.4 h.1 h.5 h.2 i.0 why h.3 i.1 in
      let b : Relays source target s limit (unread ++ (p ++ concat ps)) (h.0 + h.4) (h.1 ++ h.5) i.0 why =
      subst (λ l. Relays source target s limit l (h.0 + h.4) (h.1 ++ h.5) i.0 why) (append_assoc unread p (concat ps)) a in
      let c : Relays source target s limit (unread ++ (p ++ concat ps)) n (h.1 ++ h.5) i.0 why = subst (λ j. Relays source target s limit (unread ++ (p ++ concat ps)) j (h.1 ++ h.5) i.0 why) h.7 b in
      (i.0, subst (λ l. Relays source target s limit (unread ++ (p ++ concat ps)) n l i.0 why) h.8 c, i.2)

  -- ---- at most one result

  none_begins : (t : Option (List ℕ)) (w : List ℕ) → HasNoMessage source s limit w → BeginsWith source target s limit t w → ⊥
  none_begins t w h b = h b.0 b.1 b.2 b.3

  -- the octets begin with the first relayed message
  in_front : (m : Message) (ms : List Message) (o rest w : List ℕ) → (h : Front (m ∷ ms) o rest w) → BeginsWith source target s limit (Some h.3) w
  in_front m ms o rest w h = (m, h.1, h.2, h.0, h.4)

  module _ (lawful : IsLawful s) where
    pub targets_agree : (t u : Option (List ℕ)) (w : List ℕ) → BeginsWith source target s limit t w → BeginsWith source target s limit u w → t ≡ u
    targets_agree t u w b c =
        let q = first_same source s limit lawful b.0 c.0 b.1 c.1 b.3 c.3 (b.2 ∙ sym c.2) in
        sym b.4 ∙ (same_written target s b.0.value c.0.value lawful q.1 ∙ c.4)

    no_empty : (t : Option (List ℕ)) (w : List ℕ) → HasEmptyMessage source s → BeginsWith source target s limit t w → ⊥
    no_empty t w h b =
        let q = (one_front source s h.0 b.0.value [] b.0.octets w b.1 lawful h.1 b.3.is_encoding (sym b.2)).0 in
        let l : 0 ≡ length b.0.octets = ap length q in
        let k = b.3.is_some in
        omega arith

    waits_at_none : (w : List ℕ) → (w ≡ []) ⊎ (¬ (HasEmptyMessage source s) × (length w ≤ limit)) → (w ≢ []) × HasEmptyMessage source s → ⊥
    waits_at_none w (inl e) k = k.0 e
    waits_at_none w (inr n) k = n.0 k.1

    waits_within : (w : List ℕ) → (w ≡ []) ⊎ (¬ (HasEmptyMessage source s) × (length w ≤ limit)) → limit < length w → ⊥
    waits_within w (inl e) k = let l : length w ≡ 0 = ap length e in omega arith
    waits_within w (inr n) k = let l = n.1 in omega arith

    -- an empty message excludes each other stop
    not_waiting : (w : List ℕ) → StopsAt source target s limit w None → StopsAt source target s limit w (Some empty_message) → ⊥
    not_waiting w h (inl k) = none_begins (Some []) w h.0 k
    not_waiting w h (inr k) = waits_at_none w h.1 k

    not_missing : (w : List ℕ) → StopsAt source target s limit w (Some no_target) → StopsAt source target s limit w (Some empty_message) → ⊥
    not_missing w h (inl k) = let e : None ≡ Some [] = targets_agree None (Some []) w h k in cc
    not_missing w h (inr k) = no_empty None w k.1 h

    not_past : (w : List ℕ) → StopsAt source target s limit w (Some none_within_limit) → StopsAt source target s limit w (Some empty_message) → ⊥
    not_past w h (inl k) = none_begins (Some []) w h.0 k
    not_past w h (inr k) = h.1 k.1

    pub one_stop : (w : List ℕ) (why cause : Option Stop) → StopsAt source target s limit w why → StopsAt source target s limit w cause → why ≡ cause
    one_stop w None None h k = refl
    one_stop w None (Some no_target) h k = absurd (none_begins None w h.0 k)
    one_stop w None (Some empty_message) h k = absurd (not_waiting w h k)
    one_stop w None (Some none_within_limit) h k = absurd (waits_within w h.1 k.2)
    one_stop w (Some no_target) None h k = absurd (none_begins None w k.0 h)
    one_stop w (Some no_target) (Some no_target) h k = refl
    one_stop w (Some no_target) (Some empty_message) h k = absurd (not_missing w h k)
    one_stop w (Some no_target) (Some none_within_limit) h k = absurd (none_begins None w k.0 h)
    one_stop w (Some empty_message) None h k = absurd (not_waiting w k h)
    one_stop w (Some empty_message) (Some no_target) h k = absurd (not_missing w k h)
    one_stop w (Some empty_message) (Some empty_message) h k = refl
    one_stop w (Some empty_message) (Some none_within_limit) h k = absurd (not_past w k h)
    one_stop w (Some none_within_limit) None h k = absurd (waits_within w k.1 h.2)
    one_stop w (Some none_within_limit) (Some no_target) h k = absurd (none_begins None w h.0 k)
    one_stop w (Some none_within_limit) (Some empty_message) h k = absurd (not_past w h k)
    one_stop w (Some none_within_limit) (Some none_within_limit) h k = refl

    -- a relay does not stop at octets that begin with a relayed message
    pub relayed_on : (t w : List ℕ) (why : Option Stop) → t ≢ [] → BeginsWith source target s limit (Some t) w → StopsAt source target s limit w why → ⊥
    relayed_on t w None n b h = none_begins (Some t) w h.0 b
    relayed_on t w (Some no_target) n b h = let e : Some t ≡ None = targets_agree (Some t) None w b h in cc
    relayed_on t w (Some empty_message) n b (inl h) = let e : Some t ≡ Some [] = targets_agree (Some t) (Some []) w b h in n (cc)
    relayed_on t w (Some empty_message) n b (inr h) = no_empty (Some t) w h.1 b
    relayed_on t w (Some none_within_limit) n b h = none_begins (Some t) w h.0 b

    once_fronts : (ms ns : List Message) (o q rest other w : List ℕ) (why cause : Option Stop) → Front ms o rest w →
        StopsAt source target s limit rest why → Front ns q other w → StopsAt source target s limit other cause
        → (length ms ≡ length ns) × (o ≡ q) × (rest ≡ other) × (why ≡ cause)
    once_fronts [] [] o q rest other w why cause h y k z =
        let e : rest ≡ other = h.1 ∙ sym k.1 in
        (refl, h.0 ∙ sym k.0, e, one_stop other why cause (subst (λ l. StopsAt source target s limit l why) e y) z)
    once_fronts [] (n ∷ ns) o q rest other w why cause h y k z = absurd (relayed_on k.3 w why k.5 (in_front n ns q other w k) (subst (λ l. StopsAt source target s limit l why) h.1 y))
    once_fronts (m ∷ ms) [] o q rest other w why cause h y k z = absurd (relayed_on h.3 w cause h.5 (in_front m ms o rest w h) (subst (λ l. StopsAt source target s limit l cause) k.1 z))
    once_fronts (m ∷ ms) (n ∷ ns) o q rest other w why cause h y k z =
        let f = first_same source s limit lawful m n h.1 k.1 h.0 k.0 (h.2 ∙ sym k.2) in
        let t : Some h.3 ≡ Some k.3 = targets_agree (Some h.3) (Some k.3) w (in_front m ms o rest w h) (in_front n ns q other w k) in
        let u : h.3 ≡ k.3 = cc t in
        let i = once_fronts ms ns h.6 k.6 rest other h.1 why cause h.8 y (subst (λ l. Front ns k.6 other l) (sym f.2) k.8) z in
        (ap suc i.0, sym h.7 ∙ (ap (λ l. l ++ h.6) u ∙ (ap (λ l. k.3 ++ l) i.1 ∙ k.7)), i.2, i.3)

    pub relayed_once : (w : List ℕ) (n k : ℕ) (o q rest other : List ℕ) (why cause : Option Stop) →
        Relays source target s limit w n o rest why → Relays source target s limit w k q other cause → (n ≡ k) × (o ≡ q) × (rest ≡ other) × (why ≡ cause)
    relayed_once w n k o q rest other why cause h g =
        let f = once_fronts h.messages g.messages o q rest other w why cause h.front h.stops g.front g.stops in
        (sym h.counted ∙ (f.0 ∙ g.counted), f.1, f.2, f.3)

    -- ---- the messages into which octets divide

    -- what stops a relay at a message is that it has no translation
    stopped_for : (m : Message) (ms : List Message) (x w rest unread : List ℕ) (why : Option Stop) → m.octets ++ x ≡ w →
        IsMessageWithin source s limit m → StopsAt source target s limit w why → EndsBefore target s (m ∷ ms) rest unread why
    stopped_for m ms x w rest unread None e i h = absurd (h.0 m x e i)
    stopped_for m ms x w rest unread (Some no_target) e i h = inl (targets_agree (canonical target s m.value) None w (m, x, e, i, refl) h, refl)
    stopped_for m ms x w rest unread (Some empty_message) e i (inl h) = inr (targets_agree (canonical target s m.value) (Some []) w (m, x, e, i, refl) h, refl)
    stopped_for m ms x w rest unread (Some empty_message) e i (inr h) = absurd (no_empty (canonical target s m.value) w h.1 (m, x, e, i, refl))
    stopped_for m ms x w rest unread (Some none_within_limit) e i h = absurd (h.0 m x e i)

    pub first_of : (ls ms : List Message) (o unread rest w : List ℕ) (why : Option Stop) → Front ls o unread w → StopsAt source target s limit unread why → Divides source s limit ms rest w
        → (front : List Message) × (behind : List Message) × (front ++ behind ≡ ms) × AreSame ls front × EndsBefore target s behind rest unread why
    first_of [] [] o unread rest w why h y k = ([], [], refl, tt, h.1 ∙ sym k.0)
    first_of [] (m ∷ ms) o unread rest w why h y k =
        ([], m ∷ ms, refl, tt, stopped_for m ms k.1 w rest unread why k.2 k.0 (subst (λ l. StopsAt source target s limit l why) h.1 y))
    first_of (l ∷ ls) [] o unread rest w why h y k = absurd (k.1 l h.1 (h.2 ∙ sym k.0) h.0)
    first_of (l ∷ ls) (m ∷ ms) o unread rest w why h y k =
        let f = first_same source s limit lawful l m h.1 k.1 h.0 k.0 (h.2 ∙ sym k.2) in
        let i = first_of ls ms h.6 unread rest h.1 why h.8 y (subst (λ x. Divides source s limit ms rest x) (sym f.2) k.3) in
        (m ∷ i.0, i.1, ap (λ x. m ∷ x) i.2, (f.0, f.1, i.3), i.4)

    pub all_of : (ls ms : List Message) (o joined unread rest w : List ℕ) (why : Option Stop) → Front ls o unread w →
        StopsAt source target s limit unread why → Divides source s limit ms rest w → Translates target s ms joined
        → AreSame ls ms × (length ls ≡ length ms) × (o ≡ joined) × (unread ≡ rest)
    all_of [] [] o joined unread rest w why h y k t = (tt, refl, h.0 ∙ sym t, h.1 ∙ sym k.0)
    all_of [] (m ∷ ms) o joined unread rest w why h y k t =
        absurd (relayed_on t.0 w why t.2 (m, k.1, k.2, k.0, t.1) (subst (λ l. StopsAt source target s limit l why) h.1 y))
    all_of (l ∷ ls) [] o joined unread rest w why h y k t = absurd (k.1 l h.1 (h.2 ∙ sym k.0) h.0)
    all_of (l ∷ ls) (m ∷ ms) o joined unread rest w why h y k t =
        let f = first_same source s limit lawful l m h.1 k.1 h.0 k.0 (h.2 ∙ sym k.2) in
        let e : Some h.3 ≡ Some t.0 = targets_agree (Some h.3) (Some t.0) w (in_front l ls o unread w h) (m, k.1, k.2, k.0, t.1) in
        let u : h.3 ≡ t.0 = cc e in
        let i = all_of ls ms h.6 t.3 unread rest h.1 why h.8 y (subst (λ x. Divides source s limit ms rest x) (sym f.2) k.3) t.5 in
        ((f.0, f.1, i.0), ap suc i.1, sym h.7 ∙ (ap (λ x. x ++ h.6) u ∙ (ap (λ x. t.0 ++ x) i.2 ∙ t.4)), i.3)

-- ---- the limit

module _ (r : Rules) (s : Schema) (limit : ℕ) where
  -- octets that begin with no message, and so the first of them do not either
  pub without : (w : List ℕ) → HasNoMessage r s limit w → HasNoMessage r s limit (take limit w)
  without w h = λ m x e i. h m (x ++ drop limit w) (sym (append_assoc m.octets x (drop limit w)) ∙ (ap (λ l. l ++ drop limit w) e ∙ take-append-drop limit w)) i

  -- and conversely, as a message is no longer
  pub within : (w : List ℕ) → HasNoMessage r s limit (take limit w) → HasNoMessage r s limit w
  within w h = λ m x e i.
      let l = i.is_short in
      let k = length-take limit w in
      let n : length m.octets ≤ length (take limit w) = length_of_first m.octets x w limit e l in
      h m (drop (length m.octets) (take limit w)) (begins_with m.octets x (take limit w) (drop limit w) (e ∙ sym (take-append-drop limit w)) n) i

  pub alone : IsLawful s → (w : List ℕ) → HasEmptyMessage r s → HasNoMessage r s limit w
  alone lawful w h = λ m x e i.
      let q = (one_front r s h.0 m.value [] m.octets w x lawful h.1 i.is_encoding (sym e)).0 in
      let l : 0 ≡ length m.octets = ap length q in
      let k = i.is_some in
      omega arith
