-- What a relay of the older version does with messages of the newer one, at any depth of nesting.
use Rattle.std.proofs.Common.{◌≡◌, ◌⊎◌, inl, inr, ℕ, ◌≤◌, List, [], ◌∷◌, length, Option, Some, None, sym, ◌∙◌, subst, arith}
use Rattle.asn1_model.specs.Schema.{Schema}
use Rattle.asn1_model.specs.Value.{Value}
use Rattle.asn1_model.specs.Lawful.{IsLawful}
use Rattle.asn1_model.specs.Tidy.{IsTidy}
use Rattle.asn1_model.specs.Rules.{Rules, canonical}
use Rattle.asn1_laws_values.specs.Unfolding.{AgreesTo}
use Rattle.asn1_laws_values.proofs.Unfolding.{means_the_same}
use Rattle.asn1_laws_across.specs.Streams.{Message, IsMessageWithin, HasNoMessage}
use Rattle.asn1_laws_across.specs.Relayed.{Stop, no_target, empty_message, none_within_limit, RelaysFront, BeginsWith, HasEmptyMessage, StopsAt, Relays}
use Rattle.asn1_laws_versions.specs.Relays.{AreJoined, Halt, RelaysOlder, IsEnd}
use Rattle.asn1_laws_versions.proofs.Relays.{goes, does}
use Rattle.asn1_schema_types.specs.Versions.{ExtendsFrom, Unfolds}

-- ---- types that agree in what a relay reads

module _ (s t : Schema) (k : IsTidy s) (l : IsTidy t) (h : AgreesTo 128 s t) (source target : Rules) (limit : ℕ) where
  to_other : (m : Message) → IsMessageWithin source s limit m → IsMessageWithin source t limit m
  to_other m i = record {
    is_encoding = (means_the_same source 128 s t m.value m.octets k l h i.is_shallow).2 i.is_encoding;
    is_shallow = i.is_shallow;
    is_some = i.is_some;
    is_short = i.is_short;
  }

  from_other : (m : Message) → IsMessageWithin source t limit m → IsMessageWithin source s limit m
  from_other m i = record {
    is_encoding = (means_the_same source 128 s t m.value m.octets k l h i.is_shallow).3 i.is_encoding;
    is_shallow = i.is_shallow;
    is_some = i.is_some;
    is_short = i.is_short;
  }

  written_alike : (m : Message) (o : Option (List ℕ)) → IsMessageWithin source s limit m → canonical target s m.value ≡ o → canonical target t m.value ≡ o
  written_alike m o i e = sym (means_the_same target 128 s t m.value [] k l h i.is_shallow).1 ∙ e

  front_alike : (ms : List Message) (out rest w : List ℕ) → RelaysFront source target s limit ms out rest w → RelaysFront source target t limit ms out rest w
  front_alike [] out rest w f = f
  front_alike (m ∷ ms) out rest w f = (to_other m f.0, f.1, f.2, f.3, written_alike m (Some f.3) f.0 f.4, f.5, f.6, f.7, front_alike ms f.6 rest f.1 f.8)

  begins_alike : (o : Option (List ℕ)) (w : List ℕ) → BeginsWith source target s limit o w → BeginsWith source target t limit o w
  begins_alike o w b = (b.0, b.1, b.2, to_other b.0 b.3, written_alike b.0 o b.3 b.4)

  none_alike : (w : List ℕ) → HasNoMessage source s limit w → HasNoMessage source t limit w
  none_alike w n = λ m x e i. n m x e (from_other m i)

  empty_alike : HasEmptyMessage source s → HasEmptyMessage source t
  empty_alike e = (e.0, (means_the_same source 128 s t e.0 [] k l h e.2).2 e.1, e.2)

  not_empty_alike : ¬ (HasEmptyMessage source s) → ¬ (HasEmptyMessage source t)
  not_empty_alike n = λ e. n (e.0, (means_the_same source 128 s t e.0 [] k l h e.2).3 e.1, e.2)

  stop_alike : (w : List ℕ) (why : Option Stop) → StopsAt source target s limit w why → StopsAt source target t limit w why
  stop_alike w None q = (none_alike w q.0, waits q.1)
    where
      waits : (w ≡ []) ⊎ (¬ (HasEmptyMessage source s) × (length w ≤ limit)) → (w ≡ []) ⊎ (¬ (HasEmptyMessage source t) × (length w ≤ limit))
      waits (inl e) = inl e
      waits (inr e) = inr (not_empty_alike e.0, e.1)
  stop_alike w (Some no_target) q = begins_alike None w q
  stop_alike w (Some empty_message) (inl q) = inl (begins_alike (Some []) w q)
  stop_alike w (Some empty_message) (inr q) = inr (q.0, empty_alike q.1)
  stop_alike w (Some none_within_limit) q = (none_alike w q.0, not_empty_alike q.1, q.2)

  pub relays_alike : (w : List ℕ) (number : ℕ) (out rest : List ℕ) (why : Option Stop) → Relays source target s limit w number out rest why → Relays source target t limit w number out rest why
  relays_alike w number out rest why q = record {
    messages = q.messages;
    counted = q.counted;
    front = front_alike q.messages out rest w q.front;
    stops = stop_alike rest why q.stops;
  }

-- ---- what follows from the values

module _ (old new : ℕ → Schema) (k : (n : ℕ) → IsLawful (old n)) (l : (n : ℕ) → IsLawful (new n)) (i : (n : ℕ) → IsTidy (old n)) (x : ExtendsFrom 128 old new) (y : Unfolds old) where
  pub older_told : (source target : Rules) (limit n number : ℕ) (vs : List Value) (w out rest : List ℕ) (why : Option Stop) → 128 ≤ n →
      AreJoined source (new n) vs w → Relays source target (old 128) limit w number out rest why
      → (halt : Option Halt) × RelaysOlder source target (old n) (new n) limit vs w number out rest halt × IsEnd source target (old n) (new n) limit rest halt why
  older_told source target limit n number vs w out rest why h j q =
      let b : 128 ≤ 128 = omega arith in
      let r = relays_alike (old 128) (old n) (i 128) (i n) (y.alike 128 128 n b h) source target limit w number out rest why q in
      let g = goes source target (old n) (new n) limit (k n) (l n) (x.unfolded n h) vs w j in
      let d = does source target (old n) (new n) limit (k n) (l n) (x.unfolded n h) vs w g.0 g.1 g.2 g.3 g.4 r.messages out rest why r.front r.stops in
      let To : ℕ → List ℕ → List ℕ → Type 0 = λ i o z. RelaysOlder source target (old n) (new n) limit vs w i o z g.3 in
      let a : To number out g.2 = subst (λ i. To i out g.2) (sym d.0 ∙ r.counted) (subst (λ o. To g.0 o g.2) (sym d.1) g.4) in
      (g.3, subst (λ z. To number out z) (sym d.2) a, subst (λ z. IsEnd source target (old n) (new n) limit z g.3 why) (sym d.2) d.3)
