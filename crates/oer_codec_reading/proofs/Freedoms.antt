-- What the rules allow a reader to accept.
use Rattle.std.proofs.Common.{◌≡◌, Bool, true, false, ◌&&◌, not, refl}
use Rattle.asn1_model.specs.Oer.{longer_length, longer_number, any_truth, empty_bit_string, any_unused_bits}
use Rattle.oer_codec_reading.specs.declared.rules.EncodingRules.{EncodingRules}
use Rattle.oer_codec_reading.specs.declared.rules.EncodingRules.TheVariants.{Oer, Coer}
use Rattle.oer_codec_reading.specs.Fronts.{freedoms, is_basic}

pub and_true : (a b : Bool) → a ≡ true → b ≡ true → (a && b) ≡ true
and_true true true d e = refl
and_true true false d e = e
and_true false b d e = d

pub not_is : {b : Bool} → true ≡ not b → b ≡ false
not_is {b = true} e = cc
not_is {b = false} e = refl

pub is_not : {b : Bool} → false ≡ not b → b ≡ true
is_not {b = true} e = refl
is_not {b = false} e = cc

pub any_truth_is_basic : (r : EncodingRules) → freedoms r any_truth ≡ is_basic r
any_truth_is_basic Oer = refl
any_truth_is_basic Coer = refl

pub longer_length_is_basic : (r : EncodingRules) → freedoms r longer_length ≡ is_basic r
longer_length_is_basic Oer = refl
longer_length_is_basic Coer = refl

pub longer_number_is_basic : (r : EncodingRules) → freedoms r longer_number ≡ is_basic r
longer_number_is_basic Oer = refl
longer_number_is_basic Coer = refl

pub empty_bit_string_is_basic : (r : EncodingRules) → freedoms r empty_bit_string ≡ is_basic r
empty_bit_string_is_basic Oer = refl
empty_bit_string_is_basic Coer = refl

pub any_unused_bits_is_basic : (r : EncodingRules) → freedoms r any_unused_bits ≡ is_basic r
any_unused_bits_is_basic Oer = refl
any_unused_bits_is_basic Coer = refl
