use Rattle.std.proofs.Common.{[], ◌∷◌, inl, inr, refl}
use Rattle.std.proofs.lemmas.Bool.{leb-true, ltb-true}
use Rattle.asn1_model.specs.Value.{nothing, members, no_more}
use Rattle.asn1_model.specs.Schema.{boolean, null}
use Rattle.asn1_model.specs.Lawful.{is_lawful}
use Rattle.asn1_model.specs.Rules.{uper, oer, coer}
use Rattle.asn1_model.specs.Types.{whole, small, one_or_two, yes, no, num, below}
use Rattle.asn1_model.proofs.OnValues.{on_values}
use Rattle.asn1_laws_across.proofs.Rows.{too_long, cut_off, none_empty, no_single, none_left, no_truth, message_of, read}
use Rattle.asn1_laws_across.proofs.stream_laws.relay_rows.Goals as goal

pub returns : goal.returns
unfolding on_values is_lawful
returns c =
    let some_truth = none_empty coer boolean yes (0xFF ∷ []) refl (read coer boolean yes (0xFF ∷ []) refl refl) (leb-true _ _ refl) in
    let some_number = none_empty oer whole (num 7) (0x01 ∷ 0x07 ∷ []) refl (read oer whole (num 7) (0x01 ∷ 0x07 ∷ []) refl refl) (leb-true _ _ refl) in
    let seven = message_of oer whole 2 (num 7) (0x01 ∷ 0x07 ∷ []) refl refl refl refl refl in
    let zero = message_of uper null 1 nothing (0x00 ∷ []) refl refl refl refl refl in
    let wide = read oer whole (num 66051) (0x03 ∷ 0x01 ∷ 0x02 ∷ 0x03 ∷ []) refl refl in (
      record {
        messages = record { octets = 0xFF ∷ []; value = yes } ∷ record { octets = 0x00 ∷ []; value = no } ∷ [];
        counted = refl;
        front = (
          message_of coer boolean 1 yes _ refl refl refl refl refl,
          0x00 ∷ 0x05 ∷ [],
          refl,
          0x80 ∷ [],
          refl,
          (λ e. cc),
          0x00 ∷ [],
          refl,
          (message_of coer boolean 1 no _ refl refl refl refl refl, 0x05 ∷ [], refl, 0x00 ∷ [], refl, (λ e. cc), [], refl, (refl, refl)),
        );
        stops = (no_single coer boolean 0x05 [] no_truth, inr (some_truth, leb-true _ _ refl));
      },
      record {
        messages = [];
        counted = refl;
        front = (refl, refl);
        stops = (no_single coer boolean 0x05 [] no_truth, inr (some_truth, leb-true _ _ refl));
      },
      record {
        messages = [];
        counted = refl;
        front = (refl, refl);
        stops = (no_single coer boolean 0x05 (0xFF ∷ []) no_truth, some_truth, ltb-true _ _ refl);
      },
      record {
        messages = record { octets = 0xFC ∷ []; value = below 4 } ∷ record { octets = 0x05 ∷ []; value = num 5 } ∷ [];
        counted = refl;
        front = (
          message_of coer small 1 (below 4) _ refl refl refl refl refl,
          0x05 ∷ [],
          refl,
          0x10 ∷ [],
          refl,
          (λ e. cc),
          0xA0 ∷ [],
          refl,
          (message_of coer small 1 (num 5) _ refl refl refl refl refl, [], refl, 0xA0 ∷ [], refl, (λ e. cc), [], refl, (refl, refl)),
        );
        stops = (none_left coer small 1, inl refl);
      },
      record {
        messages = record { octets = 0x00 ∷ []; value = nothing } ∷ record { octets = 0x00 ∷ []; value = nothing } ∷ [];
        counted = refl;
        front = (
          zero,
          0x00 ∷ [],
          refl,
          0x00 ∷ [],
          refl,
          (λ e. cc),
          0x00 ∷ [],
          refl,
          (zero, [], refl, 0x00 ∷ [], refl, (λ e. cc), [], refl, (refl, refl)),
        );
        stops = (none_left uper null 1, inl refl);
      },
      record {
        messages = [];
        counted = refl;
        front = (refl, refl);
        stops = (none_left oer null 1, inl refl);
      },
      record {
        messages = [];
        counted = refl;
        front = (refl, refl);
        stops = inr ((λ e. cc), (nothing, read oer null nothing [] refl refl, leb-true _ _ refl));
      },
      record {
        messages = [];
        counted = refl;
        front = (refl, refl);
        stops = inl (record { octets = 0x00 ∷ []; value = nothing }, [], refl, zero, refl);
      },
      record {
        messages = [];
        counted = refl;
        front = (refl, refl);
        stops = (record { octets = 0x01 ∷ 0x00 ∷ []; value = members no_more }, [], refl, message_of coer one_or_two 4 (members no_more) _ refl refl refl refl refl, refl);
      },
      record {
        messages = record { octets = 0x01 ∷ 0x07 ∷ []; value = num 7 } ∷ [];
        counted = refl;
        front = (seven, 0x02 ∷ [], refl, 0x01 ∷ 0x07 ∷ [], refl, (λ e. cc), [], refl, (refl, refl));
        stops = (cut_off oer whole 2 (num 256) (0x02 ∷ []) (0x01 ∷ 0x00 ∷ []) refl (read oer whole (num 256) _ refl refl) (leb-true _ _ refl), inr (some_number, leb-true _ _ refl));
      },
      record {
        messages = record { octets = 0x01 ∷ 0x07 ∷ []; value = num 7 } ∷ [];
        counted = refl;
        front = (seven, 0x03 ∷ 0x01 ∷ 0x02 ∷ 0x03 ∷ [], refl, 0x01 ∷ 0x07 ∷ [], refl, (λ e. cc), [], refl, (refl, refl));
        stops = (too_long oer whole 2 (num 66051) _ refl wide (ltb-true _ _ refl), some_number, ltb-true _ _ refl);
      },
    )
