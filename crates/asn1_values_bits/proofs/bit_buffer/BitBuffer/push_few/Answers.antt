use Rattle.std.proofs.Common.{◌≡◌, ◌*◌, ◌-◌, ◌+◌, ◌^◌, ◌%◌, ◌/◌, ◌<◌, ℕ, bit_or, List, [], ◌∷◌, Bool, refl, arith, sym, ap, ◌∙◌, length, ◌++◌, replicate, false, set, get_or, length-append}
use Rattle.std.proofs.lemmas.List.{get_or_append_left, set-append_left}
use Rattle.asn1_model.specs.Numbers.{octet_bits, missing, binary}
use Rattle.asn1_values_bits.proofs.Binary.{length-binary}
use Rattle.asn1_values_bits.proofs.Kept.{keeps, kept_view, kept_bits, kept_length, with_high, with_low, with_all, wide_is, high_fits, or_last_set}
use Rattle.asn1_values_bits.proofs.bit_buffer.BitBuffer.push_few.Goals as goal
use Rattle.asn1_values_bits.proofs.bit_buffer.BitBuffer.push_few.Goals.{then-count-free+in_ok-push, else-count-free, then-free-gt0, else-free-gt0}

before : (c : goal.After-self-2-1) → octet_bits c.self.inside.octets.items ≡ c.args.self.now ++ replicate c.free_bits-free.result false
before c = kept_bits c.self.inside.len c.self.inside.octets.items c.args.self.now c.self.invariant c.self.view_is ∙ ap (λ k. c.args.self.now ++ replicate k false) (sym c.free_bits-free.ensures)

now : (c : goal.After-self-2-1) → octet_bits c.if-free-gt0.self-inside.octets.items ≡ (c.args.self.now ++ binary c.args.count c.args.bits) ++ replicate (missing c.in-Some.len) false
now c =
    let os : List ℕ = c.self.inside.octets.items in
    let v : List Bool = c.args.self.now in
    let free : ℕ = c.free_bits-free.result in
    let r : ℕ = 8 + free - c.args.count in
    let wide : ℕ = c.args.bits * 2 ^ r % 65536 in
    let small : free < 8 = omega (arith, c.free_bits-free.ensures) in
    let shifted : wide ≡ c.args.bits * 2 ^ r = wide_is c.args.bits c.args.count free c.requires.few small c.requires.fits in
    let high : wide / 256 < 2 ^ free = high_fits c.args.bits c.args.count free c.requires.few small c.requires.fits in
    let ok = c.self.inside.octets.ok in
    let size = c.self.invariant.size in
    let k : ℕ = c.len-octets.result - 1 in
    elim c.if-count-free.branch [
      | then-count-free+in_ok-push w ↦
          let end : missing c.in-Some.len ≡ r = omega (arith, c.in-Some.ensures, c.free_bits-free.ensures) in
          let pushed : c.if-count-free.self-inside.octets.items ≡ os ++ (wide % 256) ∷ [] = ap (λ i. i.octets.items) w.self-inside-is ∙ w.in_ok-push.ensures.items in
          elim c.if-free-gt0.branch [
            | then-free-gt0 u ↦
                let x : ℕ = u.index_mut.result.now in
                let within : k < length os = omega (arith, c.free_bits-free.ensures) in
                let last : length os ≡ k + 1 = omega arith in
                let read : x ≡ get_or os k x = u.index_mut.ensures.value ∙ ap (λ l. get_or l k x) pushed ∙ get_or_append_left os ((wide % 256) ∷ []) x k within in
                let done : c.if-free-gt0.self-inside.octets.items ≡ set os k (bit_or x (wide / 256)) ++ (wide % 256) ∷ [] =
                ap (λ i. i.octets.items) u.self-inside-is ∙ ap (λ l. set l k (bit_or x (wide / 256))) pushed ∙ set-append_left os ((wide % 256) ∷ []) k (bit_or x (wide / 256)) within in
                ap octet_bits done
                ∙ with_low (set os k (bit_or x (wide / 256))) v free c.args.count c.args.bits wide r
                (or_last_set os v k free x (wide / 256) last read (omega arith) high (before c)) shifted (omega arith)
                ∙ ap (λ n. (v ++ binary c.args.count c.args.bits) ++ replicate n false) (sym end)
            | else-free-gt0 u ↦
                let none : free ≡ 0 = omega arith in
                ap octet_bits (ap (λ i. i.octets.items) u.self-inside-is ∙ pushed)
                ∙ with_low os v free c.args.count c.args.bits wide r (with_high os os v free (wide / 256) (before c) none refl) shifted (omega arith)
                ∙ ap (λ n. (v ++ binary c.args.count c.args.bits) ++ replicate n false) (sym end)
          ]
      | else-count-free w ↦
          let end : missing c.in-Some.len ≡ free - c.args.count = omega (arith, c.in-Some.ensures, c.free_bits-free.ensures) in
          let same : c.if-count-free.self-inside.octets.items ≡ os = ap (λ i. i.octets.items) w.self-inside-is in
          let by : wide ≡ c.args.bits * 2 ^ (free - c.args.count + 8) = shifted ∙ ap (λ n. c.args.bits * 2 ^ n) (omega arith) in
          elim c.if-free-gt0.branch [
            | then-free-gt0 u ↦
                let x : ℕ = u.index_mut.result.now in
                let last : length os ≡ k + 1 = omega (arith, c.free_bits-free.ensures) in
                let read : x ≡ get_or os k x = u.index_mut.ensures.value ∙ ap (λ l. get_or l k x) same in
                let done : c.if-free-gt0.self-inside.octets.items ≡ set os k (bit_or x (wide / 256)) = ap (λ i. i.octets.items) u.self-inside-is ∙ ap (λ l. set l k (bit_or x (wide / 256))) same in
                ap octet_bits done
                ∙ with_all (set os k (bit_or x (wide / 256))) v free c.args.count c.args.bits wide (free - c.args.count)
                (or_last_set os v k free x (wide / 256) last read (omega arith) high (before c)) by (omega arith)
                ∙ ap (λ n. (v ++ binary c.args.count c.args.bits) ++ replicate n false) (sym end)
            | else-free-gt0 u ↦
                let none : free ≡ 0 = omega arith in
                ap octet_bits (ap (λ i. i.octets.items) u.self-inside-is ∙ same)
                ∙ with_all os v free c.args.count c.args.bits wide (free - c.args.count) (with_high os os v free (wide / 256) (before c) none refl) by (omega arith)
                ∙ ap (λ n. (v ++ binary c.args.count c.args.bits) ++ replicate n false) (sym end)
          ]
    ]

longer : (c : goal.After-self-2-1) → length (c.args.self.now ++ binary c.args.count c.args.bits) ≡ c.in-Some.len
longer c = length-append c.args.self.now (binary c.args.count c.args.bits) ∙
    (omega (arith, c.in-Some.ensures, length-binary c.args.count c.args.bits, kept_length c.self.inside.len c.self.inside.octets.items c.args.self.now c.self.invariant c.self.view_is))

pub invariant_of-self-2 : goal.invariant_of-self-2
invariant_of-self-2 c = keeps c.in-Some.len c.if-free-gt0.self-inside.octets.items (c.args.self.now ++ binary c.args.count c.args.bits) (longer c) (now c)

pub returns-clause-ok : goal.returns-clause-ok
returns-clause-ok c = kept_view c.in-Some.len c.if-free-gt0.self-inside.octets.items (c.args.self.now ++ binary c.args.count c.args.bits) (longer c) (now c)
