-- The laws for a decoder that says nothing about more input than it had.
use Rattle.std.proofs.Common.{◌≡◌, true, false, refl, sym, subst}
use Rattle.asn1_schema_laws.specs.Records.{Record, list_begins, bag_begins, further}
use Rattle.asn1_schema_laws.specs.Presents.{presents, member_records}
use Rattle.asn1_schema_laws.specs.Chains.{Chain, OneRecord}
use Rattle.asn1_schema_laws.proofs.Chains.{chain_split}
use Rattle.asn1_schema_lacking_laws.specs.Carried.{AtOnce, CarriesRecords, CarriesValues, CarriesMembers}

module _ {S : Type 0} where
  pub at_once : (a failed : S) → AtOnce a failed a
  at_once a failed = refl

  module _ (step : S → Record → S → Type 0) where
    again : (r : Record) (a b c : S) → step a r b → c ≡ a → (d : S) × step c r d × (d ≡ b)
    again r a b c p e = (b, subst (λ s. step s r b) (sym e) p, refl)

    pub records_at_once : CarriesRecords step AtOnce
    records_at_once r a b failed c k p e = again r a b c p e

    pub values_at_once : CarriesValues step AtOnce
    values_at_once s v a b failed c p e = (b, subst (λ x. Chain step (presents s v) x b) (sym e) p, refl)

    pub members_at_once : OneRecord step → CarriesMembers step AtOnce AtOnce
    members_at_once one = record {
      list = λ z h n a b failed c p e. again (list_begins z h n) a b c p e;
      bag = λ z h n a b failed c p e. again (bag_begins z h n) a b c p e;
      coming = λ a b failed c p e. (b, subst (λ s. step s (further true) b) (sym e) p);
      member = λ s v a m b failed c p q e. (m, b, subst (λ x. step x (further true) m) (sym e) p, q, refl);
      last = λ a b failed c p e. again (further false) a b c p e;
      asked = λ a failed h c e v d p. h c e v d p;
      stuck = λ s l a b failed p h c d e q v vs w f t.
          let m = subst (λ x. step x (further true) d) e q in
          let i : d ≡ b = (one a (further true) (further true) d b refl m p).1 in
          let y = chain_split step (presents s v) (member_records (λ u. presents s u) vs) d w t in
          h d i v y.0 f y.1;
    }
