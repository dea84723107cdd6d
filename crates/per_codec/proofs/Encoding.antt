-- What an encoder holds after the records of a value.
use Rattle.std.proofs.Common.{◌≡◌, ℕ, Bool, true, false, cond, List, [], ◌∷◌, Option, Some, None, option_and_then, refl, sym, ◌∙◌, ap, subst, arith}
use Rattle.asn1_model.specs.Schema.{Schema}
use Rattle.asn1_model.specs.Value.{Value, depth}
use Rattle.asn1_model.specs.Normal.{normal}
use Rattle.asn1_model.specs.Rules.{uper, aper, uper_strict, aper_strict, per, encoding, of_moderate_length}
use Rattle.asn1_schema_errors.specs.declared.EncodeError.{EncodeError}
use Rattle.asn1_schema_errors.specs.declared.EncodeError.TheVariants.{OutOfMemory}
use Rattle.asn1_schema_errors.proofs.Passing.{PassedOn, never_long, no_memory_before}
use Rattle.asn1_schema_encode.specs.Writes.{Writes, CannotWrite}
use Rattle.asn1_schema_encode.specs.Written.{IsWrittenIn, HasTextIn, NotWrittenIn}
use Rattle.asn1_schema_laws.specs.Records.{Record}
use Rattle.asn1_schema_laws.specs.Presents.{presents, Fits}
use Rattle.asn1_schema_laws.specs.Chains.{Chain}
use Rattle.asn1_schema_laws.specs.Tables.{IsValue}
use Rattle.per_codec_encoder.specs.Stepping.{Written, Puts}
use Rattle.per_codec_encoder.specs.Steps.{State, run, runs}
use Rattle.per_codec_encoder.specs.Ties.{octets_of}
use Rattle.per_codec_encoder.specs.Written.{IsWriter, packed_rules}
use Rattle.per_codec_encoder.proofs.Chains.{messages}
use Rattle.per_codec_encoder.proofs.Written.{writes_the_octets, refuses_only_none}

-- the encoder is a writer
held : Written → State
held w = w.state

aligned : Written → Bool
aligned w = w.aligned

Ready : Written → Type 0
Ready w = w.failed ≡ false

is_writer : IsWriter Puts aligned held Ready
unfolding held aligned Ready
is_writer = record {
  takes = λ a r b p. (p.3, p.2, p.1);
  takes_all = λ a r m k s. let b : Written = record { state = m; aligned = a.aligned; failed = false } in (b, (k, refl, refl, s), refl);
}

-- if it had not failed before some records, it has not failed after them
still_ready : (rs : List Record) (a b : Written) → Chain Puts rs a b → a.failed ≡ false → b.failed ≡ false
still_ready [] a b h k = ap (λ (w : Written). w.failed) h ∙ k
still_ready (r ∷ rs) a b h k = still_ready rs h.0 b h.2 h.1.1

abbrev nothing_held : Bool → Written
nothing_held al = record { state = ([], []); aligned = al; failed = false }

-- ---- before any limit on the length

-- what the encoder accepts, a writer accepts, and conversely
runs_held : (rs : List Record) (a b : Written) → Chain Puts rs a b → runs a.aligned rs a.state ≡ Some b.state
runs_held [] a b c = ap (λ (w : Written). Some w.state) (sym c)
runs_held (r ∷ rs) a b c = ap (option_and_then (λ m. runs a.aligned rs m)) c.1.3 ∙ subst (λ al. runs al rs c.0.state ≡ Some b.state) c.1.2 (runs_held rs c.0 b c.2)

runs_taken : (rs : List Record) (a : Written) (m : State) → a.failed ≡ false → runs a.aligned rs a.state ≡ Some m → (b : Written) × Chain Puts rs a b
runs_taken [] a m k h = (a, refl)
runs_taken (r ∷ rs) a m k h = go (λ b e f. runs_taken rs b m e f) (run a.aligned r a.state) refl h
  where
    go : ((b : Written) → b.failed ≡ false → runs b.aligned rs b.state ≡ Some m → (c : Written) × Chain Puts rs b c) → (o : Option State) →
        run a.aligned r a.state ≡ o → option_and_then (λ m. runs a.aligned rs m) o ≡ Some m → (c : Written) × Chain Puts (r ∷ rs) a c
    go again None e f = cc
    go again (Some n) e f =
        let b : Written = record { state = n; aligned = a.aligned; failed = false } in
        let u = again b refl f in
        (u.0, (b, (k, refl, refl, e), u.1))

by_variant : (al : Bool) (s : Schema) (v : Value) → (encoding (cond al aper uper) s v ≡ per al s v) × (encoding (cond al aper_strict uper_strict) s v ≡ per al s v)
unfolding encoding
by_variant true s v = (refl, refl)
by_variant false s v = (refl, refl)

-- the message of a value, from the state after its records
as_text : (al : Bool) (schema : ℕ → Schema) (v : Value) (o : Option (List ℕ)) → IsValue schema v →
    ((n : ℕ) → Fits (schema n) v → option_and_then octets_of (runs al (presents (schema n) v) ([], [])) ≡ o) → HasTextIn (packed_rules al) schema v o
as_text al schema v o i h n f =
    let m : per al (schema n) (normal (schema n) v) ≡ o = ap (per al (schema n)) (i.normal n) ∙ sym (messages al (schema n) v) ∙ h n f in
    let b = by_variant al (schema n) (normal (schema n) v) in
    (b.0 ∙ m, b.1 ∙ m)

text_written : (al : Bool) (schema : ℕ → Schema) (v : Value) (new : Written) → IsValue schema v → Writes Puts schema v (nothing_held al) new →
    HasTextIn (packed_rules al) schema v (octets_of new.state)
text_written al schema v new i w = as_text al schema v (octets_of new.state) i (λ n f. ap (option_and_then octets_of) (runs_held (presents (schema n) v) (nothing_held al) new (w.chain n f)))

no_text : (al : Bool) (schema : ℕ → Schema) (v : Value) (e : EncodeError) → IsValue schema v → ¬ (e ≡ OutOfMemory) →
    CannotWrite Puts schema v (nothing_held al) e → HasTextIn (packed_rules al) schema v None
no_text al schema v e i y c = as_text al schema v None i (λ n f. ap (option_and_then octets_of) (go n f (runs al (presents (schema n) v) ([], [])) refl))
  where
    go : (n : ℕ) → Fits (schema n) v → (o : Option State) → runs al (presents (schema n) v) ([], []) ≡ o → o ≡ None
    go n f None h = refl
    go n f (Some m) h = let u = runs_taken (presents (schema n) v) (nothing_held al) m refl h in absurd (c.none y n u.0 f u.1)

-- ---- the results of the calls

-- after the records of a value come its bits
pub written_all : (al : Bool) (schema : ℕ → Schema) (v : Value) (start new : Written) → start ≡ nothing_held al → IsValue schema v →
    Writes Puts schema v start new → (new.failed ≡ false) × (new.state.1 ≡ []) ×
    IsWrittenIn (packed_rules al) schema v (option_and_then of_moderate_length (octets_of new.state)) × HasTextIn (packed_rules al) schema v (octets_of new.state)
unfolding held aligned
written_all al schema v start new e i w =
    let x : Writes Puts schema v (nothing_held al) new = subst (λ s. Writes Puts schema v s new) e w in
    let t = writes_the_octets is_writer schema v (nothing_held al) new i refl x in
    (still_ready _ (nothing_held al) new (x.chain (depth v) (i.fits (depth v) (omega arith))) refl, t.0, t.1, text_written al schema v new i x)

-- a value whose records are refused has no octets
pub refused_all : (al : Bool) (schema : ℕ → Schema) (v : Value) (start : Written) (x e : EncodeError) → start ≡ nothing_held al → IsValue schema v →
    CannotWrite Puts schema v start x → PassedOn x e → NotWrittenIn (packed_rules al) schema v e
unfolding held aligned Ready
refused_all al schema v start x e k i c p =
    let y : CannotWrite Puts schema v (nothing_held al) x = subst (λ s. CannotWrite Puts schema v s x) k c in
    record {
      none = λ n. refuses_only_none is_writer schema v (nothing_held al) x i refl refl (no_memory_before x e p n) y;
      long = λ h. absurd (never_long x e p h);
      bare = λ n m. no_text al schema v x i (no_memory_before x e p n) y;
    }
