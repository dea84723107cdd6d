use Rattle.std.proofs.Common.{◌≡◌, ◌∙◌, [], take, refl, ap, subst, arith, inr, false, true}
use Rattle.std.specs.Io.KnownBytes.{Consumes}
use Rattle.std.proofs.lemmas.List.{length-take}
use Rattle.asn1_schema_laws.proofs.Joined.{raised}
use Rattle.asn1_relay_core.specs.Running.{BlockFaultOf, RelaysBlock, RunFaultOf, ends}
use Rattle.asn1_relay_core.specs.Coding.{rules_of}
use Rattle.asn1_relay_core.specs.Relaying.{Relaying}
use Rattle.asn1_relay_core.proofs.Blocks.{run_begun, run_further, run_block_failed, run_left_unread, run_not_flushed}
use Rattle.asn1_relay_core.proofs.running.run_of.Goals as goal

pub loop-count-init : goal.loop-count-init
loop-count-init g c =
    let old = ends (g.R.Source.coming c.args.reader.now) (g.W.Sink.taken c.args.writer.now) (g.R.Source.failures c.args.reader.now) (g.W.Sink.failures c.args.writer.now) in
    record {
      so_far = run_begun c.args.from c.args.to (g.M.MessageSchema.schema c.args.message_type 128) c.args.limit old c.new-relay.result.relaying
          (ap (λ r. r.relaying) c.new-relay.ensures);
      same = ap (λ r. r.message_type) c.new-relay.ensures;
      reader_stays = refl;
      writer_stays = refl;
    }

pub loop-count-preserved : goal.loop-count-preserved
loop-count-preserved g c =
    let old = ends (g.R.Source.coming c.args.reader.now) (g.W.Sink.taken c.args.writer.now) (g.R.Source.failures c.args.reader.now) (g.W.Sink.failures c.args.writer.now) in
    let now = ends (g.R.Source.coming c.loop-count.reader) (g.W.Sink.taken c.loop-count.writer) (g.R.Source.failures c.loop-count.reader) (g.W.Sink.failures c.loop-count.writer) in
    let next = ends (g.R.Source.coming c.read.new.self) (g.W.Sink.taken c.relay_block.new.writer) (g.R.Source.failures c.read.new.self) (g.W.Sink.failures c.relay_block.new.writer) in
    let octets = take c.in-Ok.count c.read.new.room in
    let block = subst (λ t. RelaysBlock (g.M.MessageSchema.schema t 128) c.loop-count.relay.relaying c.relay_block.new.relay.relaying octets
    (g.W.Sink.taken c.loop-count.writer) (g.W.Sink.taken c.relay_block.new.writer)) c.loop-count.invariant.same c.in_ok-relay_block-in-Ok.ensures.ok in
    record {
      so_far = run_further c.args.from c.args.to (g.M.MessageSchema.schema c.args.message_type 128) c.args.limit old now c.loop-count.relay.relaying
          c.loop-count.invariant.so_far next c.relay_block.new.relay.relaying octets c.in-Ok.ensures.octets.0 block c.in-Ok.ensures.counts
          c.in_ok-relay_block-in-Ok.ensures.counts;
      same = c.in_ok-relay_block-in-Ok.ensures.same ∙ c.loop-count.invariant.same;
      reader_stays = c.in-Ok.ensures.stays ∙ c.loop-count.invariant.reader_stays;
      writer_stays = c.in_ok-relay_block-in-Ok.ensures.stays ∙ c.loop-count.invariant.writer_stays;
    }

pub returns-in_err-relay_block-in-Ok-clause-only : goal.returns-in_err-relay_block-in-Ok-clause-only
returns-in_err-relay_block-in-Ok-clause-only g c =
    let s = g.M.MessageSchema.schema c.args.message_type 128 in
    let old = ends (g.R.Source.coming c.args.reader.now) (g.W.Sink.taken c.args.writer.now) (g.R.Source.failures c.args.reader.now) (g.W.Sink.failures c.args.writer.now) in
    let now = ends (g.R.Source.coming c.loop-count.reader) (g.W.Sink.taken c.loop-count.writer) (g.R.Source.failures c.loop-count.reader) (g.W.Sink.failures c.loop-count.writer) in
    let next = ends (g.R.Source.coming c.read.new.self) (g.W.Sink.taken c.relay_block.new.writer) (g.R.Source.failures c.read.new.self) (g.W.Sink.failures c.relay_block.new.writer) in
    let octets = take c.in-Ok.count c.read.new.room in
    let l = length-take c.in-Ok.count c.read.new.room in
    let b = c.in-Ok.ensures.bound in
    let block = subst (λ t. BlockFaultOf (g.M.MessageSchema.schema t 128) c.loop-count.relay.relaying octets (g.W.Sink.taken c.loop-count.writer)
    (g.W.Sink.taken c.relay_block.new.writer) (g.W.Sink.failures c.loop-count.writer) (g.W.Sink.failures c.relay_block.new.writer)
    c.in_err-relay_block-in-Ok.field-0.0) c.loop-count.invariant.same c.in_err-relay_block-in-Ok.ensures.only in
    raised (RunFaultOf (rules_of c.args.from) (rules_of c.args.to) s c.args.limit old next)
    c.in_err-relay_block-in-Ok.field-0.0 c.from_residual.result c.from_residual.ensures.1
    (run_block_failed c.args.from c.args.to s c.args.limit old now c.loop-count.relay.relaying c.loop-count.invariant.so_far next
    octets c.in_err-relay_block-in-Ok.field-0.0 (omega arith) c.in-Ok.ensures.octets.0 c.in-Ok.ensures.counts block)

pub returns-clause-only : goal.returns-clause-only
returns-clause-only g c =
    let old = ends (g.R.Source.coming c.args.reader.now) (g.W.Sink.taken c.args.writer.now) (g.R.Source.failures c.args.reader.now) (g.W.Sink.failures c.args.writer.now) in
    let now = ends (g.R.Source.coming c.loop-count.reader) (g.W.Sink.taken c.loop-count.writer) (g.R.Source.failures c.loop-count.reader) (g.W.Sink.failures c.loop-count.writer) in
    let next = ends (g.R.Source.coming c.read.new.self) (g.W.Sink.taken c.flush.new.self) (g.R.Source.failures c.read.new.self) (g.W.Sink.failures c.flush.new.self) in
    let z : c.in-Ok-eq0.field-0 ≡ 0 = omega arith in
    let none : Consumes (g.R.Source.coming c.loop-count.reader) (g.R.Source.coming c.read.new.self) [] =
    subst (λ n. Consumes (g.R.Source.coming c.loop-count.reader) (g.R.Source.coming c.read.new.self) (take n c.read.new.room)) z c.in-Ok-eq0.ensures.octets.0 in
    run_not_flushed c.args.from c.args.to (g.M.MessageSchema.schema c.args.message_type 128) c.args.limit old now c.loop-count.relay.relaying
    c.loop-count.invariant.so_far next none (c.in-Ok-eq0.ensures.octets.1 z (omega arith)) c.in-Ok-eq0.ensures.counts c.flush.ensures.keeps
    c.in-Err-flush.ensures.counts

pub returns-in-Err-finish-clause-only : goal.returns-in-Err-finish-clause-only
returns-in-Err-finish-clause-only g c =
    let old = ends (g.R.Source.coming c.args.reader.now) (g.W.Sink.taken c.args.writer.now) (g.R.Source.failures c.args.reader.now) (g.W.Sink.failures c.args.writer.now) in
    let now = ends (g.R.Source.coming c.loop-count.reader) (g.W.Sink.taken c.loop-count.writer) (g.R.Source.failures c.loop-count.reader) (g.W.Sink.failures c.loop-count.writer) in
    let next = ends (g.R.Source.coming c.read.new.self) (g.W.Sink.taken c.loop-count.writer) (g.R.Source.failures c.read.new.self) (g.W.Sink.failures c.loop-count.writer) in
    let z : c.in-Ok-eq0.field-0 ≡ 0 = omega arith in
    let none : Consumes (g.R.Source.coming c.loop-count.reader) (g.R.Source.coming c.read.new.self) [] =
    subst (λ n. Consumes (g.R.Source.coming c.loop-count.reader) (g.R.Source.coming c.read.new.self) (take n c.read.new.room)) z c.in-Ok-eq0.ensures.octets.0 in
    let had = ap (λ (r : Relaying). r.failed) c.loop-count.invariant.so_far.is in
    inr (run_left_unread c.args.from c.args.to (g.M.MessageSchema.schema c.args.message_type 128) c.args.limit old now c.loop-count.relay.relaying
    c.loop-count.invariant.so_far next none (c.in-Ok-eq0.ensures.octets.1 z (omega arith)) c.in-Ok-eq0.ensures.counts c.in-Err-finish.fault refl refl
    (λ u. let q : false ≡ true = c.in-Err-finish.ensures.end.1 (had, u) in cc) c.in-Err-finish.ensures.only)
