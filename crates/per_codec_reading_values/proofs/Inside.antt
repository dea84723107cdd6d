-- Where octets that are taken are stored.
use Rattle.std.proofs.Common.{◌≡◌, ℕ, ◌+◌, ◌*◌, ◌%◌, ◌<◌, ◌≤◌, cond, Some, None, length, ap, sym, ◌∙◌, subst}
use Rattle.std.proofs.lemmas.Bool.{lt-ltb, le-ltb, cases_lt}
use Rattle.std.proofs.Common.{inl, inr}
use Rattle.per_codec_reading.specs.Runs.{Storage, bits_in, IsLent, storage_inside}
use Rattle.per_codec_reading.specs.declared.runs.RunBits.{RunBits}
use Rattle.per_codec_reading.specs.declared.runs.RunBits.TheVariants.{Lent, Joined}
use Rattle.per_codec_reading_values.specs.Fields.{LentInOneRun}

in_one_run : (o n e : ℕ) → n < 8 * 16384 → storage_inside (Some o) n e ≡ Some ((o + e) % 8)
in_one_run o n e l = let h = lt-ltb n (8 * 16384) l in ap (λ t. cond t (Some ((o + e) % 8)) None) h

in_fragments : (o n e : ℕ) → 8 * 16384 ≤ n → storage_inside (Some o) n e ≡ None
in_fragments o n e l = let h = le-ltb n (8 * 16384) l in ap (λ t. cond t (Some ((o + e) % 8)) None) h

-- Octets in one run are stored with the bits from which they are borrowed, others in a separate buffer.
pub lent_inside : (o e n : ℕ) (bits : RunBits) (s : Storage) → length (bits_in bits) ≡ n → n % 8 ≡ 0 → LentInOneRun bits →
    (IsLent bits → length (bits_in bits) % 8 ≡ 0 → s ≡ Some ((o + e) % 8)) → ((IsLent bits → ⊥) → s ≡ None) → s ≡ storage_inside (Some o) n e
lent_inside o e n (Lent bits) s q w h k j =
    let l : n < 8 * 16384 = subst (λ m. m < 8 * 16384) q (h.0 tt) in
    k tt (subst (λ m. m % 8 ≡ 0) (sym q) w) ∙ sym (in_one_run o n e l)
lent_inside o e n (Joined bits) s q w h k j =
    elim (cases_lt n (8 * 16384)) [
      | inl l ↦ absurd (h.1 (subst (λ m. m < 8 * 16384) (sym q) l))
      | inr l ↦ j (λ x. x) ∙ sym (in_fragments o n e l)
    ]
