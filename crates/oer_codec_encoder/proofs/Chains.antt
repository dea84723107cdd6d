-- The bridge as a fact of chains.
use Rattle.std.proofs.Common.{◌≡◌, ℕ, List, [], ◌∷◌, ◌++◌, Option, Some, None, option_and_then, refl, ap, sym, ◌∙◌}
use Rattle.std.proofs.lemmas.List.{append-nil}
use Rattle.asn1_model.specs.Form.{written}
use Rattle.asn1_model.specs.Oer
use Rattle.asn1_schema_laws.specs.Records.{Record}
use Rattle.asn1_schema_laws.specs.Presents.{presents}
use Rattle.asn1_schema_laws.specs.Chains.{Chain}
use Rattle.oer_codec_encoder.specs.Steps.{State, Step, run, runs}
use Rattle.oer_codec_encoder.specs.Ties.{ChainsAddTheOctets}
use Rattle.oer_codec_encoder.proofs.Types.{every_type}

chain_runs : (rs : List Record) (a b : State) → Chain Step rs a b → runs rs a ≡ Some b
chain_runs [] a b h = ap Some (sym h)
chain_runs (r ∷ rs) a b h = ap (option_and_then (λ m. runs rs m)) h.1 ∙ chain_runs rs h.0 b h.2

runs_chain : (rs : List Record) (a b : State) → runs rs a ≡ Some b → Chain Step rs a b
runs_chain [] a b h = cc
runs_chain (r ∷ rs) a b h = go (λ m f. runs_chain rs m b f) (run r a) refl h
  where
    go : ((m : State) → runs rs m ≡ Some b → Chain Step rs m b) → (o : Option State) → run r a ≡ o → option_and_then (λ m. runs rs m) o ≡ Some b → Chain Step (r ∷ rs) a b
    go again None e f = cc
    go again (Some m) e f = (m, e, again m f)

-- the records of a value are a chain exactly from what is held to that with the value's octets appended
pub chains_add : ChainsAddTheOctets
chains_add s v os k new = (
  λ c. go (written (Oer.form s v) 0) refl (sym at ∙ chain_runs (presents s v) (os, k) new c),
  λ t.
      runs_chain (presents s v) (os, k) new (at ∙ ap (option_and_then (λ w. Some (os ++ w, k))) t.1 ∙ ap Some (sym t.2)),
)
  where
    at : runs (presents s v) (os, k) ≡ option_and_then (λ w. Some (os ++ w, k)) (written (Oer.form s v) 0)
    at = ap (λ l. runs l (os, k)) (sym (append-nil (presents s v))) ∙ every_type s v 0 os k []

    go : (o : Option (List ℕ)) → written (Oer.form s v) 0 ≡ o → option_and_then (λ w. Some (os ++ w, k)) o ≡ Some new → (w : List ℕ) × (written (Oer.form s v) 0 ≡ Some w) × (new ≡ (os ++ w, k))
    go None e f = cc
    go (Some w) e f = (w, e, let q : new ≡ (os ++ w, k) = cc in q)
