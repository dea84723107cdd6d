use Rattle.std.proofs.Common.{◌≡◌, ℕ, ◌≤◌, arith}
use Rattle.std.specs.Prelude.{min}
use Rattle.asn1_schema_laws.proofs.Joined.{raised}
use Rattle.asn1_schema_authored.proofs.Reading.{reads_additions, unread_additions, unread_additions_here}
use Rattle.asn1_schema_authored.proofs.decode.ExtensibleComponentsDecodeComponents.decode_components.Goals as goal

counted : (k n : ℕ) → k ≡ min n 18446744073709551615 → n ≤ 18446744073709551615 → k ≡ n
counted k n e h = omega arith

pub returns-in_err-begin_additions-clause-only : goal.returns-in_err-begin_additions-clause-only
returns-in_err-begin_additions-clause-only g c = raised _ _ _ c.from_residual.ensures.1
    (unread_additions_here (counted _ _ c.count-count.ensures g.met.M.CountOf.countable) c.in_err-begin_additions.ensures.only)

pub returns-in_err-additions-clause-only : goal.returns-in_err-additions-clause-only
returns-in_err-additions-clause-only g c = let one = g.met.D.Decoder.one_record in let carries = g.met.D.Decoder.records_carried in
    raised _ _ _ c.from_residual-in_err-additions.ensures.1
    (unread_additions one carries (counted _ _ c.count-count.ensures g.met.M.CountOf.countable) c.in_ok-begin_additions.ensures.ok
    (rw c.in_ok-begin_additions.ensures.call.level at c.in_err-additions.ensures.only))

pub returns-clause-ok : goal.returns-clause-ok
returns-clause-ok g c = reads_additions (counted _ _ c.count-count.ensures g.met.M.CountOf.countable) c.in_ok-begin_additions.ensures.ok
    (rw c.in_ok-begin_additions.ensures.call.level at c.in_ok-additions.ensures.ok)
