use Rattle.std.specs.Prelude.{◌≡◌, ℕ, Bool, true, false, cond, List, [], ◌∷◌, ◌++◌}
use Rattle.std.proofs.Common.{sym, subst}
use Rattle.asn1_model.specs.Form.{Reads, both, exactly, refused}
use Rattle.asn1_model.specs.Rules.{lenient}
use Rattle.asn1_model.specs.Per
use Rattle.asn1_model_rows.proofs.outside_is_told.Goals as goal

begins_with : (a b w : List Bool) → true ∷ [] ≡ a → a ++ b ≡ false ∷ w → ⊥
begins_with a b w e h = let q : (true ∷ []) ++ b ≡ false ∷ w = subst (λ l. l ++ b ≡ false ∷ w) (sym e) h in cc

either : (outside : Per.BitForm) (p : ℕ) (w : List Bool) (e : Bool) → Reads lenient (cond e (both (exactly (true ∷ [])) outside) refused) p (false ∷ w) → ⊥
unfolding Reads
either outside p w true r = begins_with r.0 r.1 w r.2 r.4
either outside p w false r = r

pub returns : goal.returns
unfolding Reads Per.with_extension_bit
returns c root outside p w r = either outside p w r.0 r.2
