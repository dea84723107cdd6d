-- What an encoder holds after the records of a value.
use Rattle.std.proofs.Common.{◌≡◌, ℕ, ◌<◌, ◌≤◌, ◌^◌, true, false, List, [], ◌∷◌, ◌++◌, length, take, drop, Option, Some}
use Rattle.std.proofs.Common.{None, Result, Ok, Err, OnOk, OnErr, IfErr, MatchResult, refl, sym, ◌∙◌, ap, subst, arith}
use Rattle.std.proofs.lemmas.List.{drop_at, take_at}
use Rattle.asn1_model.specs.Schema.{Schema}
use Rattle.asn1_model.specs.Value.{Value, depth}
use Rattle.asn1_model.specs.Normal.{normal}
use Rattle.asn1_model.specs.Rules.{octet_encoding, encoding, of_moderate_length}
use Rattle.asn1_schema_errors.specs.declared.EncodeError.{EncodeError}
use Rattle.asn1_schema_errors.specs.declared.EncodeError.TheVariants.{TooLongValue}
use Rattle.asn1_schema_errors.proofs.Passing.{PassedOn, never_long, no_memory_before}
use Rattle.asn1_schema_encode.specs.Writes.{Writes, CannotWrite}
use Rattle.asn1_schema_encode.specs.Written.{IsWrittenIn, HasTextIn}
use Rattle.asn1_schema_encode.proofs.Written.{short_enough, too_long}
use Rattle.asn1_schema_laws.specs.Records.{Record}
use Rattle.asn1_schema_laws.specs.Presents.{presents, Fits}
use Rattle.asn1_schema_laws.specs.Chains.{Chain}
use Rattle.asn1_schema_laws.specs.Tables.{IsValue}
use Rattle.oer_codec_encoder.specs.Stepping.{Written, Puts}
use Rattle.oer_codec_encoder.specs.Steps.{State, Step}
use Rattle.oer_codec_encoder.specs.Written.{IsWriter, octet_rules}
use Rattle.oer_codec_encoder.proofs.Chains.{chains_add}
use Rattle.oer_codec_encoder.proofs.Written.{written_by_records, refused_by_records, writes_the_octets, refuses_only_none}
use Rattle.oer_codec.specs.Encoded.{IsEncoded, NotEncoded}

-- the steps are themselves those of a writer
steps : IsWriter Step (λ s. s) (λ s. Unit {0})
steps = record { takes = λ a r b p. (p, tt); takes_all = λ a r m k s. (m, s, refl) }

-- if it had not failed before some records, it has not failed after them
still_ready : (rs : List Record) (a b : Written) → Chain Puts rs a b → a.failed ≡ false → b.failed ≡ false
still_ready [] a b h k = ap (λ (w : Written). w.failed) h ∙ k
still_ready (r ∷ rs) a b h k = still_ready rs h.0 b h.2 h.1.1

-- an encoder that starts with these octets
abbrev pub beginning : List ℕ → Written
beginning os = record { state = (os, []); failed = false; front = os }

pub not_failed : {start : Written} {os : List ℕ} → start ≡ beginning os → start.failed ≡ true → ⊥
not_failed e h = let f : true ≡ false = sym h ∙ ap (λ (w : Written). w.failed) e in cc f

-- ---- before any limit on the length

-- what the encoder accepts, a writer accepts, and conversely
chain_held : (rs : List Record) (a b : Written) → Chain Puts rs a b → Chain Step rs a.state b.state
chain_held [] a b c = ap (λ (w : Written). w.state) c
chain_held (r ∷ rs) a b c = (c.0.state, c.1.2, chain_held rs c.0 b c.2)

chain_taken : (rs : List Record) (a : Written) (m : State) → a.failed ≡ false → Chain Step rs a.state m → (b : Written) × Chain Puts rs a b
chain_taken [] a m k c = (a, refl)
chain_taken (r ∷ rs) a m k c =
    let b : Written = record { state = c.0; failed = false; front = a.front } in
    let u = chain_taken rs b m refl c.2 in
    (u.0, (b, (k, refl, c.1, refl), u.1))

-- the octets after those at the start
abbrev added : List ℕ → State → List ℕ
added os s = drop (length os) s.0

-- the records of a value add the same octets after any others
chain_alone : (s : Schema) (v : Value) (os : List ℕ) (new : State) → Chain Step (presents s v) (os, []) new → (new ≡ (os ++ added os new, [])) × Chain Step (presents s v) ([], []) (added os new, [])
chain_alone s v os new c =
    let t = (chains_add s v os [] new).0 c in
    let same : added os new ≡ t.0 = ap (λ (b : State). added os b) t.2 ∙ drop_at os t.0 (length os) refl in (
      t.2 ∙ ap (λ l. let b : State = (os ++ l, []) in b) (sym same),
      (chains_add s v [] [] (added os new, [])).1 (t.0, t.1, ap (λ l. let b : State = (l, []) in b) same),
    )

chain_behind : (s : Schema) (v : Value) (os : List ℕ) (new : State) → Chain Step (presents s v) ([], []) new → (m : State) × Chain Step (presents s v) (os, []) m
chain_behind s v os new c =
    let t = (chains_add s v [] [] new).0 c in
    ((os ++ t.0, []), (chains_add s v os [] (os ++ t.0, [])).1 (t.0, t.1, refl))

as_text : (schema : ℕ → Schema) (v : Value) (o : Option (List ℕ)) → ((n : ℕ) → Fits (schema n) v → octet_encoding (schema n) (normal (schema n) v) ≡ o) → HasTextIn octet_rules schema v o
unfolding encoding
as_text schema v o h n f = (h n f, h n f)

-- ---- the results of the calls

module _ (schema : ℕ → Schema) (v : Value) (start : Written) (os : List ℕ) (e : start ≡ beginning os) (i : IsValue schema v) where
  -- after the records of a value come its octets
  pub written_behind : (new : Written) → Writes Puts schema v start new → (new.failed ≡ false) × (new.state.1 ≡ []) ×
      (new.state.0 ≡ os ++ added os new.state) × IsWrittenIn octet_rules schema v (of_moderate_length (added os new.state)) × HasTextIn octet_rules schema v (Some (added os new.state))
  written_behind new w =
      let x : Writes Puts schema v (beginning os) new = subst (λ s. Writes Puts schema v s new) e w in
      let held : (n : ℕ) → Fits (schema n) v → Chain Step (presents (schema n) v) (os, []) new.state = λ n f. chain_held (presents (schema n) v) (beginning os) new (x.chain n f) in
      let fits : Fits (schema (depth v)) v = i.fits (depth v) (omega arith) in
      let all = (chain_alone (schema (depth v)) v os new.state (held (depth v) fits)).0 in
      let alone : State = (added os new.state, []) in
      let y : Writes Step schema v ([], []) alone = record { chain = λ n f. (chain_alone (schema n) v os new.state (held n f)).1 } in (
        still_ready _ (beginning os) new (x.chain (depth v) fits) refl,
        ap (λ (s : State). s.1) all,
        ap (λ (s : State). s.0) all,
        (writes_the_octets steps schema v ([], []) alone i refl y).1,
        as_text schema v (Some (added os new.state)) ((written_by_records schema v alone i).0 y).1,
      )

  -- a value whose records are refused has no octets
  pub refused_behind : (x y : EncodeError) → CannotWrite Puts schema v start x → PassedOn x y → NotEncoded schema v y
  refused_behind x y c p =
      let d : CannotWrite Puts schema v (beginning os) x = subst (λ s. CannotWrite Puts schema v s x) e c in
      let z : CannotWrite Step schema v ([], []) x = record {
        none = λ k n new f t. let m = chain_behind (schema n) v os new t in let u =
            chain_taken (presents (schema n) v) (beginning os) m.0 refl m.1 in d.none k n u.0 f u.1;
      } in
      record {
        none = λ n. refuses_only_none steps schema v ([], []) x i tt refl (no_memory_before x y p n) z;
        long = λ h. absurd (never_long x y p h);
        bare = λ n m. as_text schema v None ((refused_by_records schema v x i (no_memory_before x y p n)).0 z);
      }

-- the same if nothing comes before
pub written_all : (schema : ℕ → Schema) (v : Value) (start new : Written) (os : List ℕ) → start ≡ beginning os → os ≡ [] → IsValue schema v →
    Writes Puts schema v start new → (new.failed ≡ false) × (new.state.1 ≡ []) × IsWrittenIn octet_rules schema v (of_moderate_length new.state.0) × HasTextIn octet_rules schema v (Some new.state.0)
written_all schema v start new os e f i w =
    let t = written_behind schema v start os e i new w in
    let all : added os new.state ≡ new.state.0 = sym (t.2 ∙ ap (λ l. l ++ added os new.state) f) in
    (t.0, t.1, subst (λ l. IsWrittenIn octet_rules schema v (of_moderate_length l)) all t.3, subst (λ l. HasTextIn octet_rules schema v (Some l)) all t.4)

pub refused_all : (schema : ℕ → Schema) (v : Value) (start : Written) (os : List ℕ) (x e : EncodeError) → start ≡ beginning os → os ≡ [] →
    IsValue schema v → CannotWrite Puts schema v start x → PassedOn x e → NotEncoded schema v e
refused_all schema v start os x e k f i c p = refused_behind schema v start os k i x e c p

-- ---- after the contents of a buffer

-- the octets after a number of first ones, unless they are too many
abbrev pub CutAt : ℕ → List ℕ → List ℕ → Result (Unit {0}) EncodeError → Type 0
CutAt n all new r = MatchResult r (λ _. (new ≡ all) × (length (drop n all) < 2 ^ 60)) (λ e. (e ≡ TooLongValue) × (2 ^ 60 ≤ length (drop n all)) × (new ≡ take n all))

module _ (schema : ℕ → Schema) (v : Value) (old w all new : List ℕ) (n : ℕ) (e : all ≡ old ++ w) (m : n ≡ length old) where
  behind : drop n all ≡ w
  behind = ap (drop n) e ∙ drop_at old w n (sym m)

  pub buffer_written : (r : Result (Unit {0}) EncodeError) → IsWrittenIn octet_rules schema v (of_moderate_length w) → CutAt n all new r →
      OnOk r ((octets : List ℕ) × IsEncoded schema v octets × (new ≡ old ++ octets))
  buffer_written (Ok u) h k = (w, subst (IsWrittenIn octet_rules schema v) (short_enough w (subst (λ l. length l < 2 ^ 60) behind k.1)) h, k.0 ∙ e)
  buffer_written (Err x) h k = tt

  pub buffer_refused : (r : Result (Unit {0}) EncodeError) → IsWrittenIn octet_rules schema v (of_moderate_length w) →
      HasTextIn octet_rules schema v (Some w) → CutAt n all new r → IfErr r (NotEncoded schema v)
  buffer_refused (Ok u) h t k = tt
  buffer_refused (Err x) h t k =
      let long : 2 ^ 60 ≤ length w = subst (λ l. 2 ^ 60 ≤ length l) behind k.1 in
      record {
        none = λ n. subst (IsWrittenIn octet_rules schema v) (too_long w long) h;
        long = λ _. record { text = w; has = t; beyond = long };
        bare = λ n m. absurd (m k.0);
      }

  pub buffer_same : (r : Result (Unit {0}) EncodeError) → CutAt n all new r → OnErr r (new ≡ old)
  buffer_same (Ok u) k = tt
  buffer_same (Err x) k = k.2 ∙ ap (take n) e ∙ take_at old w n (sym m)

-- after an empty buffer it is alone
pub encoded_alone : (schema : ℕ → Schema) (v : Value) (old new : List ℕ) → old ≡ [] → (octets : List ℕ) × IsEncoded schema v octets × (new ≡ old ++ octets) → IsEncoded schema v new
encoded_alone schema v old new e w = subst (IsEncoded schema v) (sym (w.2 ∙ ap (λ l. l ++ w.0) e)) w.1
