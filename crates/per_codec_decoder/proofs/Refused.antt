-- Why a decoder finds no record, also with a few bits more.
use Rattle.std.proofs.Common.{◌≡◌, inl, inr, ◌≤◌, ◌<◌, ℕ, ◌+◌, Bool, true, false, List, [], ◌∷◌, length, Result, Ok, Err, IfErr, refl, sym, ◌∙◌, ap, subst, arith}
use Rattle.std.specs.Prelude.{OnErr}
use Rattle.asn1_model.specs.Per
use Rattle.asn1_schema_decode.specs.Reads.{NoRecord, NoLevel}
use Rattle.asn1_schema_lacking_laws.specs.Carried.{AtOnce}
use Rattle.asn1_schema_errors.specs.declared.DecodeError.{DecodeError}
use Rattle.asn1_schema_laws.specs.Records.{Question}
use Rattle.per_codec_laws.specs.Takes.{Position, Scope}
use Rattle.per_codec_longer_laws.specs.Few.{due}
use Rattle.per_codec_held_laws.specs.Held.{Held, Finds}
use Rattle.per_codec_held_laws.specs.Few.{held_with, lacks, told, TooFewHeld, OwesNoMore}
use Rattle.per_codec_held_laws.proofs.Carried.{nothing_more}
use Rattle.per_codec_decoder.specs.Endings.{NotPassed}
use Rattle.per_codec_held_laws.specs.Held.{HasFailed, IsReady}
use Rattle.per_codec_decoder.specs.Scopes.{NextBitmapBit, Leaves, LeavesAddition}
use Rattle.per_codec_decoder.specs.declared.frames.Ending.{Ending}
use Rattle.per_codec_decoder.specs.declared.frames.Ending.TheVariants.{Nothing, Unknown, OpenType as Padded}

no_bit : (e : List Bool) (m n : ℕ) → n ≤ m → length e + m ≤ n → e ≡ []
no_bit [] m n h i = refl
no_bit (x ∷ e) m n h i = absurd (omega arith)

none_more : (old failed c : Held) → OwesNoMore old failed → TooFewHeld old failed c → c ≡ old
none_more old failed c h f =
    let e : f.0 ≡ [] = elim f.2 [ inl i ↦ no_bit f.0 (due old.scopes) (lacks failed) h.owed i.1 | inr i ↦ i ] in
    f.1 ∙ ap (λ l. held_with l old) e ∙ sym (nothing_more old)

-- if no more elements are due than before, no bits are missing
pub still_none : {q : Question} {old failed : Held} {x : DecodeError} → OwesNoMore old failed → NoRecord Finds AtOnce q old failed x → NoRecord Finds TooFewHeld q old failed x
still_none {old = old} {failed = failed} h n = record { none = λ m c f r new k p. n.none m c (none_more old failed c h f) r new k p }

pub still_none_in : {q : Question} {levels : ℕ} {old failed : Held} {x : DecodeError} → OwesNoMore old failed →
    NoLevel Finds AtOnce q levels old failed x → NoLevel Finds TooFewHeld q levels old failed x
still_none_in {old = old} {failed = failed} h n = record { none = λ m c f l r new k p. n.none m c (none_more old failed c h f) l r new k p }

-- the same if it is known only for a decoder that had not failed, as no other finds anything
pub still_none_ready : {q : Question} {levels : ℕ} {old failed : Held} {x : DecodeError} → (IsReady old → OwesNoMore old failed) →
    NoLevel Finds AtOnce q levels old failed x → NoLevel Finds TooFewHeld q levels old failed x
still_none_ready {old = old} {failed = failed} h n = record {
  none = λ m c f l r new k p.
      let t : Finds (held_with f.0 old) r new = subst (λ (s : Held). Finds s r new) f.1 p in
      n.none m c (none_more old failed c (h t.ready) f) l r new k p;
}

-- the scopes are kept and no missing bits are counted, or nothing is missing
pub kept_owes : {old failed : Held} → failed.scopes ≡ old.scopes → told failed.failed ≡ 0 → OwesNoMore old failed
kept_owes {old = old} {failed = failed} s t = let h : due failed.scopes ≡ due old.scopes = ap (λ l. due l) s in record { owed = omega arith }

pub emptied_owes : {old failed : Held} → lacks failed ≡ 0 → OwesNoMore old failed
emptied_owes {old = old} {failed = failed} s = record { owed = omega (arith, s) }

-- the scopes before are as they were
pub owes_as : {failed : Held} (old now : Held) → now ≡ old → OwesNoMore now failed → OwesNoMore old failed
owes_as {failed = failed} old now same h = subst (λ (x : Held). OwesNoMore x failed) same h

pub moved_owes : {failed : Held} (old mid : Held) → mid.scopes ≡ old.scopes → OwesNoMore mid failed → OwesNoMore old failed
moved_owes {failed = failed} old mid s n =
    let i = n.owed in
    let h : due mid.scopes ≡ due old.scopes = ap (λ l. due l) s in
    record { owed = omega arith }

pub owes_behind : {failed : Held} (old mid : Held) → due mid.scopes ≤ due old.scopes → OwesNoMore mid failed → OwesNoMore old failed
owes_behind {failed = failed} old mid h n = let i = n.owed in record { owed = omega arith }

-- a presence bit, and the end of a scope, do not change how many elements are still to come
pub flags_owe : (v : Bool) (old now : Held) (k : List Scope) → now ≡ old → NextBitmapBit v now.scopes k → due k ≤ due old.scopes
flags_owe v old now k same f =
    let h : due now.scopes ≡ due f.2 = ap (λ l. due l) f.3 in
    let i : due k ≡ due f.2 = ap (λ l. due l) f.4 in
    let j : due now.scopes ≡ due old.scopes = ap (λ (x : Held). due x.scopes) same in
    omega arith

leaving_owes : (al : Bool) (free : Per.Freedom → Bool) (w : Ending) (old new : List Scope) (a : Position) (e : DecodeError) → Leaves w old new → NotPassed al free w a e → due new ≤ due old
leaving_owes al free Nothing old new a e l n = absurd n
leaving_owes al free (Unknown r) old new a e l n = let h : due old ≡ due new = ap (λ k. due k) l in omega arith
leaving_owes al free (Padded p) old new a e l n = let h : due old ≡ due new = ap (λ k. due k) l in omega arith

left_owes : (old now failed : Held) (k : List Scope) → now ≡ old → failed.scopes ≡ k → told failed.failed ≡ 0 → due k ≤ due now.scopes → OwesNoMore old failed
left_owes old now failed k same s t h =
    let i : due failed.scopes ≡ due k = ap (λ l. due l) s in
    let j : due now.scopes ≡ due old.scopes = ap (λ (x : Held). due x.scopes) same in
    record { owed = omega arith }

pub ended_owes : (al : Bool) (free : Per.Freedom → Bool) (old now failed : Held) (w : Ending) (k : List Scope) (a : Position) (e : DecodeError) →
    now ≡ old → failed.scopes ≡ k → told failed.failed ≡ 0 → Leaves w now.scopes k → NotPassed al free w a e → OwesNoMore old failed
ended_owes al free old now failed w k a e same s t l n = left_owes old now failed k same s t (leaving_owes al free w now.scopes k a e l n)

pub addition_owes : (old now failed : Held) (p : Position) (k : List Scope) → now ≡ old → failed.scopes ≡ k → told failed.failed ≡ 0 → LeavesAddition p now.scopes k → OwesNoMore old failed
addition_owes old now failed p k same s t l = let h : due now.scopes ≡ due k = ap (λ x. due x) l.0 in left_owes old now failed k same s t (omega arith)

-- a decoder that had failed finds nothing
pub none_ready : {q : Question} {old failed : Held} {x : DecodeError} → HasFailed old → NoRecord Finds TooFewHeld q old failed x
none_ready {old = old} h = record { none = λ m c f r new k p. let t : Finds (held_with f.0 old) r new = subst (λ (s : Held). Finds s r new) f.1 p in let e : true ≡ false = sym h ∙ t.ready in cc }

pub none_begun : {q : Question} {old failed : Held} {x : DecodeError} → (0 < old.levels → IsReady old → ⊥) → NoLevel Finds TooFewHeld q old.levels old failed x
none_begun {old = old} h = record { none = λ m c f l r new k p. let t : Finds (held_with f.0 old) r new = subst (λ (s : Held). Finds s r new) f.1 p in h l t.ready }

-- an error that kept the scopes, and why
pub err_both : {A : Type 0} {P : Type 0} {Q R : DecodeError → Type 0} (r : Result A DecodeError) → OnErr r P → IfErr r Q → (P → (e : DecodeError) → Q e → R e) → IfErr r R
err_both (Ok x) p q f = tt
err_both (Err e) p q f = f p e q
