use Rattle.std.proofs.Common.{◌≡◌, ℕ, ◌≤◌, arith}
use Rattle.std.specs.Prelude.{min}
use Rattle.asn1_schema_laws.proofs.Joined.{raised}
use Rattle.asn1_schema_authored.proofs.Writing.{writes_additions, cannot_additions, cannot_additions_here}
use Rattle.asn1_relay_vectors_types.proofs.written.ExtensibleComponentsWriteComponents.write_components.Goals as goal

counted : (k n : ℕ) → k ≡ min n 18446744073709551615 → n ≤ 18446744073709551615 → k ≡ n
counted k n e h = omega arith

pub returns-in_err-begin_additions-clause-only : goal.returns-in_err-begin_additions-clause-only
returns-in_err-begin_additions-clause-only g c = raised _ _ _ c.from_residual.ensures.1
    (cannot_additions_here _ (counted _ _ c.count-count.ensures g.met.M.CountOf.countable) c.in_err-begin_additions.ensures.only)

pub returns-in_err-write_additions-clause-only : goal.returns-in_err-write_additions-clause-only
returns-in_err-write_additions-clause-only g c = let one = g.met.E.Encoder.one_after in
    raised _ _ _ c.from_residual-in_err-write_additions.ensures.1
    (cannot_additions one (counted _ _ c.count-count.ensures g.met.M.CountOf.countable) c.in_ok-begin_additions.ensures.ok c.in_err-write_additions.ensures.only)

pub returns-clause-ok : goal.returns-clause-ok
returns-clause-ok g c = writes_additions (counted _ _ c.count-count.ensures g.met.M.CountOf.countable) c.in_ok-begin_additions.ensures.ok c.in_ok-write_additions.ensures.ok
