use Rattle.std.proofs.Common.{◌≤◌, arith}
use Rattle.asn1_model.specs.Numbers.{binary}
use Rattle.asn1_values_bits.specs.Appending.{appended, room_of}
use Rattle.asn1_values_bits.proofs.Binary.{length-binary}
use Rattle.asn1_values_bits.proofs.Putting.{written_up_to, written_length}
use Rattle.asn1_values_bits.proofs.bit_appender.BitAppender.push.Goals as goal

pub prove-unreachable-requires : goal.prove-unreachable-requires
unfolding room_of
prove-unreachable-requires c = let room : c.args.width ≤ room_of c.args.self.now = c.requires.room in omega arith

pub put_bits-requires-clause-within : goal.put_bits-requires-clause-within
unfolding room_of
put_bits-requires-clause-within c = let room : c.args.width ≤ room_of c.args.self.now = c.requires.room in omega arith

pub overflow_add-self : goal.overflow_add-self
unfolding room_of
overflow_add-self c = let room : c.args.width ≤ room_of c.args.self.now = c.requires.room in record { fits = omega arith }

pub returns-clause-bits : goal.returns-clause-bits
unfolding appended room_of
returns-clause-bits c =
    let room : c.args.width ≤ room_of c.args.self.now = c.requires.room in
    written_up_to c.args.self.now.buffer.now c.put_bits.new.self (binary c.args.width c.args.value) c.args.self.now.next c.args.width (omega arith)
    (length-binary c.args.width c.args.value) c.put_bits.ensures

pub returns-clause-room : goal.returns-clause-room
unfolding room_of
returns-clause-room c =
    let room : c.args.width ≤ room_of c.args.self.now = c.requires.room in
    omega (
      arith,
      written_length c.args.self.now.buffer.now c.put_bits.new.self (binary c.args.width c.args.value) c.args.self.now.next c.args.width
          (omega arith) (length-binary c.args.width c.args.value) c.put_bits.ensures,
    )
