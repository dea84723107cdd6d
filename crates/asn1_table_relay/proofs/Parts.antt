-- What is written in two sets of rules is written in each.
use Rattle.std.proofs.Common.{ℕ, List, [], ◌∷◌}
use Rattle.asn1_model.specs.Rules.{Rules}
use Rattle.asn1_schema_errors.specs.declared.EncodeError.{EncodeError}
use Rattle.asn1_schema_laws.specs.Records.{Record}
use Rattle.asn1_table_walker.specs.Texts.{EncodedIn, NotEncodedIn}

module _ {r s : Rules} {rs : List Record} where
  pub first_in : {w : List ℕ} → EncodedIn (r ∷ s ∷ []) rs w → EncodedIn (r ∷ []) rs w
  first_in h = record { encoded = λ t v i k n f. (h.encoded t v i k n f).0 }

  pub second_in : {w : List ℕ} → EncodedIn (r ∷ s ∷ []) rs w → EncodedIn (s ∷ []) rs w
  second_in h = record { encoded = λ t v i k n f. (h.encoded t v i k n f).1 }

  pub not_first : {e : EncodeError} → NotEncodedIn (r ∷ s ∷ []) rs e → NotEncodedIn (r ∷ []) rs e
  not_first h = record {
    none = λ t v i k.
        let u = h.none t v i k in
        record {
          none = λ m n f. (u.none m n f).0;
          long = λ q. let z = u.long q in record { text = z.text; has = λ n f. (z.has n f).0; beyond = z.beyond };
          bare = λ m q n f. (u.bare m q n f).0;
        };
  }

  pub not_second : {e : EncodeError} → NotEncodedIn (r ∷ s ∷ []) rs e → NotEncodedIn (s ∷ []) rs e
  not_second h = record {
    none = λ t v i k.
        let u = h.none t v i k in
        record {
          none = λ m n f. (u.none m n f).1;
          long = λ q. let z = u.long q in record { text = z.text; has = λ n f. (z.has n f).1; beyond = z.beyond };
          bare = λ m q n f. (u.bare m q n f).1;
        };
  }
