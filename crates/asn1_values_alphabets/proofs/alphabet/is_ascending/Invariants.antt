use Rattle.std.proofs.Common.{ℕ, ◌+◌, ◌<◌, get_or}
use Rattle.asn1_values_alphabets.proofs.alphabet.is_ascending.Given as goal

abbrev pub invariant-loop-i : goal.invariant-loop-i
invariant-loop-i l = (k : ℕ) → k + 1 < l.i → get_or l.characters k 0 < get_or l.characters (k + 1) 0
