use Rattle.std.proofs.Common.{◌≡◌, ◌≤◌, ◌+◌, ◌-◌, ◌∙◌, ◌++◌, ◌∷◌, [], ap, not, true, length, arith}
use Rattle.std.specs.Prelude.{is_ok}
use Rattle.asn1_notation_tokens.proofs.Pushed.{item_at, items_pushed, inside_at, inside_pushed, length_rest, rest_of}
use Rattle.asn1_notation_tokens.proofs.reading.read_items.Goals as goal

pub loop-offset-preserved-else-is_err : goal.loop-offset-preserved-else-is_err
loop-offset-preserved-else-is_err c =
    let ok : is_ok c.push.result ≡ true = c.is_err.ensures.negation ∙ ap not c.if-is_err.false in
    let pushed : c.push.new.self.items ≡ c.loop-offset.list.items ++ (record { kind = c.in-Some.kind; start = c.loop-offset.offset; end = c.loop-offset.offset + c.in-Ok.scanned.1 }) ∷ [] = rw ok at c.push.ensures.items in
    let rest : length (rest_of c.args.text.now c.loop-offset.offset) ≡ length c.args.text.now - c.loop-offset.offset = length_rest _ _ in
    let within : c.in-Ok.scanned.1 ≤ length (rest_of c.args.text.now c.loop-offset.offset) = c.in-Ok.ensures.within.1 in
    let some : 1 ≤ c.in-Ok.scanned.1 = c.in-Ok.ensures.within.0 in
    let end : c.loop-offset.offset + c.in-Ok.scanned.1 ≤ length c.args.text.now = omega (arith, c.loop-offset-test.true) in
    record {
      before = end;
      items = rw pushed (items_pushed c.args.text.now c.loop-offset.list.items _ c.loop-offset.invariant.items (item_at c.args.text.now c.in-Some.kind c.loop-offset.offset c.in-Ok.scanned.1 (rw c.in-Some.is at c.in-Ok.ensures.form)));
      inside = rw pushed (inside_pushed (length c.args.text.now) c.loop-offset.list.items (record { kind = c.in-Some.kind; start = c.loop-offset.offset; end = c.loop-offset.offset + c.in-Ok.scanned.1 }) c.loop-offset.invariant.inside (inside_at (length c.args.text.now) c.loop-offset.offset c.in-Ok.scanned.1 c.in-Some.kind some end));
    }
