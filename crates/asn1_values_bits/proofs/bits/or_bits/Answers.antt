use Rattle.std.proofs.Common.{◌≡◌, ◌≤◌, ◌<◌, ◌-◌, ◌*◌, ◌+◌, ◌/◌, ◌%◌, ◌^◌, ℕ, List, length, arith, get_or, ap, []}
use Rattle.std.proofs.lemmas.List.{get_or_default}
use Rattle.std.proofs.lemmas.Nat.{shl_whole, shl_below}
use Rattle.std.proofs.Math.Nat.{pow-le-pow_right}
use Rattle.asn1_model.specs.Numbers.{octet_bits}
use Rattle.asn1_values_bits.proofs.Binary.{length-octet_bits}
use Rattle.asn1_values_bits.proofs.Oring.{or_on, placed_none}
use Rattle.asn1_values_bits.proofs.bits.or_bits.Goals as goal

pub loop-done-init : goal.loop-done-init
loop-done-init c = record {
  within = omega arith;
  merged = placed_none (octet_bits c.args.target.now) c.args.position (length c.args.target.now * 8)
      (length-octet_bits c.args.target.now) (omega arith);
}

pub overflow_cast-target : goal.overflow_cast-target
overflow_cast-target c =
    let few : ℕ = c.min-few.result in
    let past : ℕ = 8 - (c.args.position + c.loop-done.done) % 8 - few in
    let most : 2 ^ (few + past) ≤ 2 ^ 8 = pow-le-pow_right {n = 2} (omega arith) {i = few + past} {j = 8} (omega (arith, c.min-few.ensures)) in
    let whole : c.read_bits-bits.result * 2 ^ past % 2 ^ 64 ≡ c.read_bits-bits.result * 2 ^ past =
    shl_whole c.read_bits-bits.result few past 64 c.read_bits-bits.ensures.fits (omega (arith, c.min-few.ensures)) in
    record { fits = rw whole (omega (arith, shl_below c.read_bits-bits.result few past c.read_bits-bits.ensures.fits)) }

pub loop-done-preserved : goal.loop-done-preserved
loop-done-preserved c =
    let os : List ℕ = c.loop-done.target in
    let place : ℕ = c.args.position + c.loop-done.done in
    let few : ℕ = c.min-few.result in
    let past : ℕ = 8 - place % 8 - few in
    let v : ℕ = c.read_bits-bits.result in
    let size : length os ≡ length c.args.target.now = c.loop-done.auto.target in
    let within : place / 8 < length os = omega arith in
    let whole : v * 2 ^ past % 2 ^ 64 ≡ v * 2 ^ past = shl_whole v few past 64 c.read_bits-bits.ensures.fits (omega (arith, c.min-few.ensures)) in
    record {
      within = omega (arith, c.min-few.ensures);
      merged = or_on (octet_bits c.args.target.now) [] (octet_bits c.args.source.now) os c.args.position c.loop-done.done few v (place / 8)
          (place % 8) (get_or os (place / 8) 0) (v * 2 ^ past % 2 ^ 64) (length c.args.target.now * 8)
          (length-octet_bits c.args.target.now) (ap (λ k. k * 8) size) c.loop-done.invariant.merged (omega arith) (omega (arith, c.min-few.ensures))
          within (get_or_default os (place / 8) 0 (get_or os (place / 8) 0) within)
          c.read_bits-bits.ensures.fits c.read_bits-bits.ensures.digits whole (omega (arith, c.min-few.ensures, length-octet_bits c.args.source.now)) (omega (arith, c.min-few.ensures));
    }
