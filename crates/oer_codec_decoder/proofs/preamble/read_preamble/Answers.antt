use Rattle.std.proofs.Common.{rules, ◌≡◌, ◌*◌, false, ◌∙◌, ap, subst, length, replicate, arith}
use Rattle.asn1_schema_laws.proofs.Joined.{raised}
use Rattle.asn1_values_bits.specs.BitStr.{bits_of}
use Rattle.asn1_values_bits.proofs.Binary.{length-octet_bits}
use Rattle.oer_codec_decoder.specs.Preamble.{HasBits}
use Rattle.oer_codec_decoder.specs.Scopes.{scope_of}
use Rattle.oer_codec_decoder.proofs.Preambles.{zero_unused_bits, other_unused_bits, not_short, less_than_octet}
use Rattle.oer_codec_decoder.proofs.preamble.read_preamble.Goals as goal

pub returns-in_err-octets-clause-only : goal.returns-in_err-octets-clause-only
returns-in_err-octets-clause-only c = raised _ _ _ c.from_residual.ensures.1
    (λ s rest h. not_short c.args.extensible c.args.optional c.preamble_len-count.result s rest c.args.cursor.now c.preamble_len-count.ensures (c.in_err-octets.ensures.short.1) h)

pub returns-then-count-len-clause-only : goal.returns-then-count-len-clause-only
returns-then-count-len-clause-only c = λ s rest h. not_short c.args.extensible c.args.optional c.preamble_len-count.result s rest c.args.cursor.now
    c.preamble_len-count.ensures (let l = c.len.ensures.count in let t = c.if-count-len.true in omega (arith, l, t)) h

pub take_presence-frame-requires : goal.take_presence-frame-requires
take_presence-frame-requires c =
    let a : length (bits_of c.from_slice-bits.result) ≡ length c.in_ok-octets.octets.now * 8 = ap length c.from_slice-bits.ensures.bits ∙ length-octet_bits c.in_ok-octets.octets.now in
    let b : length c.in_ok-octets.octets.now ≡ c.preamble_len-count.result = c.in_ok-octets.ensures.count in
    let l = c.preamble_len-count.ensures in
    omega (arith, a, b, l)

pub are_zero-requires : goal.are_zero-requires
are_zero-requires c =
    let b : length c.in_ok-octets.octets.now ≡ c.preamble_len-count.result = c.in_ok-octets.ensures.count in
    less_than_octet c.args.extensible c.args.optional (scope_of c.take_presence-frame.result) c.in_ok-octets.octets.now
    (bits_of c.take_presence-frame.new.bits)
    (subst (λ bs. HasBits c.args.extensible c.args.optional (scope_of c.take_presence-frame.result) bs (bits_of c.take_presence-frame.new.bits))
    c.from_slice-bits.ensures.bits c.take_presence-frame.ensures) (ap (λ k. k * 8) b ∙ c.preamble_len-count.ensures)

pub returns-then-not-are_zero-clause-only : goal.returns-then-not-are_zero-clause-only
returns-then-not-are_zero-clause-only c = λ s rest h.
    let b : length c.in_ok-octets.octets.now ≡ c.preamble_len-count.result = c.in_ok-octets.ensures.count in
    let z : (bits_of c.take_presence-frame.new.bits) ≡ replicate (length (bits_of c.take_presence-frame.new.bits)) false =
    other_unused_bits c.args.extensible c.args.optional (scope_of c.take_presence-frame.result) s c.in_ok-octets.octets.now c.take.new.self rest
    c.args.cursor.now (bits_of c.take_presence-frame.new.bits)
    (subst (λ bs. HasBits c.args.extensible c.args.optional (scope_of c.take_presence-frame.result) bs (bits_of c.take_presence-frame.new.bits))
    c.from_slice-bits.ensures.bits c.take_presence-frame.ensures) (ap (λ k. k * 8) b ∙ c.preamble_len-count.ensures) c.in_ok-octets.ensures.octets h in
    search rules

pub returns-clause-ok : goal.returns-clause-ok
returns-clause-ok c =
    let b : length c.in_ok-octets.octets.now ≡ c.preamble_len-count.result = c.in_ok-octets.ensures.count in
    let z : (bits_of c.take_presence-frame.new.bits) ≡ replicate (length (bits_of c.take_presence-frame.new.bits)) false = search rules in
    zero_unused_bits c.args.extensible c.args.optional (scope_of c.take_presence-frame.result) c.in_ok-octets.octets.now c.take.new.self
    c.args.cursor.now (bits_of c.take_presence-frame.new.bits) c.in_ok-octets.ensures.small
    (subst (λ bs. HasBits c.args.extensible c.args.optional (scope_of c.take_presence-frame.result) bs (bits_of c.take_presence-frame.new.bits))
    c.from_slice-bits.ensures.bits c.take_presence-frame.ensures) (ap (λ k. k * 8) b ∙ c.preamble_len-count.ensures) z c.in_ok-octets.ensures.octets
