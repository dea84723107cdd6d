use Rattle.std.proofs.Common.{◌≡◌, ◌-◌, ◌++◌, ◌∙◌, refl, ap, sym, arith, length, take, replicate, false, length-append}
use Rattle.std.proofs.lemmas.List.{take_all, take_at, length-replicate}
use Rattle.asn1_values_bits.specs.Appending.{appended, room_of}
use Rattle.asn1_values_bits.proofs.bit_buffer.BitBuffer.appender.Goals as goal

pub returns : goal.returns
unfolding appended room_of
returns c =
    let old = c.args.self.now in
    let zeros = replicate (c.in-Some.len - length old) false in
    let all : take c.in-Some.len old ≡ old = take_all c.in-Some.len old (omega (arith, c.in-Some.ensures, c.len-next.ensures)) in
    let new : c.resize.new.self ≡ old ++ zeros = c.in_ok-resize.ensures.ok ∙ ap (λ l. l ++ zeros) all in (
      (refl, λ w. refl, tt),
      record {
        refused = tt;
        same_reference = refl;
        bits = ap (take c.len-next.result) new ∙ take_at old zeros c.len-next.result (sym c.len-next.ensures);
        room = omega (arith, ap length new, length-append old zeros, length-replicate (c.in-Some.len - length old) false, c.in-Some.ensures, c.len-next.ensures);
      },
    )
