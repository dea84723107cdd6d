use Rattle.asn1_values_integers.proofs.Orders.{fewest-written, order-less, order-greater, order-positive, order-negative}
use Rattle.asn1_values_integers.proofs.compare.compare_octets.Goals as goal

pub returns-in-true-true : goal.returns-in-true-true
returns-in-true-true c =
    let o = order-negative c.args.left.now c.args.right.now (fewest-written c.args.left.now c.requires.left)
    (fewest-written c.args.right.now c.requires.right) c.in-true-true.ensures c.in-true-true.ensures' in
    rw (c.then.ensures, c.cmp.ensures, c.cmp-in-true-true.ensures) o

pub returns-in-true-false : goal.returns-in-true-false
returns-in-true-false c =
    let o = order-less c.args.left.now c.args.right.now (fewest-written c.args.left.now c.requires.left)
    (fewest-written c.args.right.now c.requires.right) c.in-true-false.ensures c.in-true-false.ensures' in
    o

pub returns-in-false-true : goal.returns-in-false-true
returns-in-false-true c =
    let o = order-greater c.args.left.now c.args.right.now (fewest-written c.args.left.now c.requires.left)
    (fewest-written c.args.right.now c.requires.right) c.in-false-true.ensures c.in-false-true.ensures' in
    o

pub returns-in-false-false : goal.returns-in-false-false
returns-in-false-false c =
    let o = order-positive c.args.left.now c.args.right.now (fewest-written c.args.left.now c.requires.left)
    (fewest-written c.args.right.now c.requires.right) c.in-false-false.ensures c.in-false-false.ensures' in
    rw (c.then-in-false-false.ensures, c.cmp-in-false-false.ensures, c.cmp-in-false-false-2.ensures) o
