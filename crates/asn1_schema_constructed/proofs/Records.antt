-- The records of a choice.
use Rattle.std.proofs.Common.{◌≡◌, ℕ, zero, suc, Bool, true, false, [], ◌∷◌, ◌++◌, refl, ap}
use Rattle.asn1_model.specs.Value.{Value, chosen}
use Rattle.asn1_model.specs.Schema.{choice}
use Rattle.asn1_schema_laws.specs.Records.{ends}
use Rattle.asn1_schema_laws.specs.Presents.{presents, chosen_records, Fits}
use Rattle.asn1_schema_constructed.specs.Tables.{Variants, no_variant, variant, alternatives_at, Choices, side, type_at}
use Rattle.asn1_schema_constructed.specs.Chosen.{begins}
use Rattle.asn1_schema_constructed.proofs.Types.{tags_at, fits_at}

records_at : (n : ℕ) (vs : Variants) (i : ℕ) (v : Value) → Fits (type_at vs i n) v → chosen_records (alternatives_at n vs) i v ≡ presents (type_at vs i n) v ++ (ends ∷ [])
unfolding alternatives_at chosen_records Fits
records_at n no_variant i v f = absurd f
records_at n (variant t s vs) zero v f = refl
records_at n (variant t s vs) (suc i) v f = records_at n vs i v f

pub chosen_fits : (t : Choices) (b : Bool) (i m : ℕ) (v : Value) →
    Fits (choice (alternatives_at m t.root) t.extensible (alternatives_at m t.additions)) (chosen b i v) → Fits (type_at (side t b) i m) v
unfolding Fits
chosen_fits t false i m v f = fits_at m t.root i v f
chosen_fits t true i m v f = fits_at m t.additions i v f

pub choice_records : (t : Choices) (b : Bool) (i m : ℕ) (v : Value) → Fits (type_at (side t b) i m) v →
    presents (choice (alternatives_at m t.root) t.extensible (alternatives_at m t.additions)) (chosen b i v) ≡ begins t b i ∷ (presents (type_at (side t b) i m) v ++ (ends ∷ []))
unfolding presents
choice_records t false i m v f = rw (tags_at m t.root, tags_at m t.additions) (ap (λ rs. begins t false i ∷ rs) (records_at m t.root i v f))
choice_records t true i m v f = rw (tags_at m t.root, tags_at m t.additions) (ap (λ rs. begins t true i ∷ rs) (records_at m t.additions i v f))
