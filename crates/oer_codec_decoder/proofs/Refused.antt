-- Why a decoder finds no record, also with a few octets more.
use Rattle.std.proofs.Common.{◌≡◌, ◌+◌, Bool, cond, inl, inr, ◌≤◌, ◌<◌, ℕ, true, false, List, [], ◌∷◌, refl, sym, ◌∙◌, ap, subst, arith}
use Rattle.asn1_schema_decode.specs.Reads.{NoRecord, NoLevel}
use Rattle.asn1_schema_errors.specs.declared.DecodeError.{DecodeError}
use Rattle.asn1_schema_errors.specs.declared.DecodeError.TheVariants.{OutOfMemory}
use Rattle.asn1_schema_laws.specs.Records.{Record, Question, question}
use Rattle.oer_codec_laws.specs.Takes.{Scope, members}
use Rattle.oer_codec_longer_laws.specs.More.{is_within}
use Rattle.oer_codec_longer_laws.specs.Few.{due, around}
use Rattle.oer_codec_held_laws.specs.Held.{Held, Finds, HasFailed, IsReady}
use Rattle.oer_codec_held_laws.specs.Few.{held_with, lacks, Keeps, Empties, Fewer, TooFewHeld}
use Rattle.oer_codec_held_laws.proofs.Carried.{nothing_more}

-- none is found in the octets that are held
pub record NoneIn (q : Question) (old : Held) (x : DecodeError) : Type 0 where
  pub none : ¬ (x ≡ OutOfMemory) → (r : Record) (new : Held) → question r ≡ q → Finds old r new → ⊥

pub record NoneInLevel (q : Question) (levels : ℕ) (old : Held) (x : DecodeError) : Type 0 where
  pub none : ¬ (x ≡ OutOfMemory) → 0 < levels → (r : Record) (new : Held) → question r ≡ q → Finds old r new → ⊥

no_octet : (e : List ℕ) (m : ℕ) (old failed : Held) → lacks failed ≤ m → Fewer m old failed e → e ≡ []
no_octet [] m old failed h i = refl
no_octet (x ∷ e) m old failed h (inl i) = let j = i.1 in absurd (omega arith)
no_octet (x ∷ e) m old failed h (inr i) = i

none_more : (old failed c : Held) → lacks failed ≤ due old.scopes → TooFewHeld old failed c → c ≡ old
none_more old failed c h f = f.1 ∙ ap (λ l. held_with l old) (no_octet f.0 (due old.scopes) old failed h f.2) ∙ sym (nothing_more old)

-- if no more elements are due than before, no octets are missing
pub still_none : {q : Question} {old failed : Held} {x : DecodeError} → lacks failed ≤ due old.scopes → NoneIn q old x → NoRecord Finds TooFewHeld q old failed x
still_none {old = old} {failed = failed} h n = record { none = λ m c f r new k p. n.none m r new k (subst (λ (s : Held). Finds s r new) (none_more old failed c h f) p) }

pub still_none_in : {q : Question} {levels : ℕ} {old failed : Held} {x : DecodeError} → lacks failed ≤ due old.scopes → NoneInLevel q levels old x → NoLevel Finds TooFewHeld q levels old failed x
still_none_in {old = old} {failed = failed} h n = record { none = λ m c f l r new k p. n.none m l r new k (subst (λ (s : Held). Finds s r new) (none_more old failed c h f) p) }

-- the scopes are kept
pub stays : (old now failed : Held) → now ≡ old → Keeps 0 now failed → lacks failed ≤ due old.scopes
stays old now failed e k =
    let h : due failed.scopes ≡ due old.scopes = ap (λ l. due l) k.0 ∙ ap (λ (x : Held). due x.scopes) e in
    let t : failed.short ≡ 0 = k.1 in
    omega arith

-- or all except the innermost one are kept
around_due : (k : List Scope) → due (around k) ≤ due k
around_due [] = omega arith
around_due (members n ∷ k) = at (is_within k)
  where
    at : (b : Bool) → due k ≤ cond b (due k) (n + due k)
    at true = omega arith
    at false = omega arith
around_due (s ∷ k) = omega arith

pub ended : (old now failed : Held) (k : List Scope) → now ≡ old → k ≡ around now.scopes → (failed.scopes ≡ k) × (failed.short ≡ 0) → lacks failed ≤ due old.scopes
ended old now failed k e left kept =
    let h : due failed.scopes ≡ due (around old.scopes) = ap (λ l. due l) (kept.0 ∙ left) ∙ ap (λ (x : Held). due (around x.scopes)) e in
    let t : failed.short ≡ 0 = kept.1 in
    let l = around_due old.scopes in
    omega arith

-- or none is kept
pub emptied : (old failed : Held) → Empties failed → lacks failed ≤ due old.scopes
emptied old failed k =
    let h : due failed.scopes ≡ 0 = ap (λ l. due l) k.0 in
    let t : failed.short ≡ 0 = k.1 in
    omega arith

-- a decoder that had failed finds nothing
pub none_ready : {q : Question} {old failed : Held} {x : DecodeError} → HasFailed old → NoRecord Finds TooFewHeld q old failed x
none_ready {old = old} h = record { none = λ m c f r new k p. let t : Finds (held_with f.0 old) r new = subst (λ (s : Held). Finds s r new) f.1 p in let e : true ≡ false = sym h ∙ t.ready in cc }

pub none_begun : {q : Question} {old failed : Held} {x : DecodeError} → (0 < old.levels → IsReady old → ⊥) → NoLevel Finds TooFewHeld q old.levels old failed x
none_begun {old = old} h = record { none = λ m c f l r new k p. let t : Finds (held_with f.0 old) r new = subst (λ (s : Held). Finds s r new) f.1 p in h l t.ready }
