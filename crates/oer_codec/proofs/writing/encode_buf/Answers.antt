use Rattle.std.proofs.Common.{rules}
use Rattle.std.proofs.Common.{ℕ, List, ◌++◌, length, drop, Err, ap, ◌∙◌}
use Rattle.oer_codec.proofs.Encoding.{not_failed, written_behind, refused_behind, buffer_written, buffer_refused, buffer_same}
use Rattle.oer_codec.proofs.writing.encode_buf.Goals as goal

pub returns-in-Ok-clause-ok : goal.returns-in-Ok-clause-ok
returns-in-Ok-clause-ok g c =
    let s = g.T.Described.schema in
    let v = g.T.Described.meaning c.args.value.now in
    let old = c.args.buffer.now.items in
    let os = c.make_room.new.buffer.items in
    let w = written_behind s v c.from_buffer-encoder.result os c.from_buffer-encoder.ensures (g.T.Described.valued c.args.value.now) c.encode.new.encoder c.in-Ok.ensures.ok in
    let d : List ℕ = drop (length os) c.encode.new.encoder.state.0 in
    buffer_written s v old d c.into_output.result.items c.cut_at_limit.new.octets.items c.len-front.result
    (c.into_output.ensures.octets w.0 w.1 ∙ w.2 ∙ ap (λ l. l ++ d) c.make_room.ensures) (c.len-front.ensures ∙ c.args.buffer.now.ok.0) c.cut_at_limit.result w.3 c.cut_at_limit.ensures

pub returns-in-Ok-clause-only : goal.returns-in-Ok-clause-only
returns-in-Ok-clause-only g c =
    let s = g.T.Described.schema in
    let v = g.T.Described.meaning c.args.value.now in
    let old = c.args.buffer.now.items in
    let os = c.make_room.new.buffer.items in
    let w = written_behind s v c.from_buffer-encoder.result os c.from_buffer-encoder.ensures (g.T.Described.valued c.args.value.now) c.encode.new.encoder c.in-Ok.ensures.ok in
    let d : List ℕ = drop (length os) c.encode.new.encoder.state.0 in
    buffer_refused s v old d c.into_output.result.items c.cut_at_limit.new.octets.items c.len-front.result
    (c.into_output.ensures.octets w.0 w.1 ∙ w.2 ∙ ap (λ l. l ++ d) c.make_room.ensures) (c.len-front.ensures ∙ c.args.buffer.now.ok.0) c.cut_at_limit.result w.3 w.4 c.cut_at_limit.ensures

pub returns-in-Ok-clause-same : goal.returns-in-Ok-clause-same
returns-in-Ok-clause-same g c =
    let s = g.T.Described.schema in
    let v = g.T.Described.meaning c.args.value.now in
    let old = c.args.buffer.now.items in
    let os = c.make_room.new.buffer.items in
    let w = written_behind s v c.from_buffer-encoder.result os c.from_buffer-encoder.ensures (g.T.Described.valued c.args.value.now) c.encode.new.encoder c.in-Ok.ensures.ok in
    let d : List ℕ = drop (length os) c.encode.new.encoder.state.0 in
    buffer_same s v old d c.into_output.result.items c.cut_at_limit.new.octets.items c.len-front.result
    (c.into_output.ensures.octets w.0 w.1 ∙ w.2 ∙ ap (λ l. l ++ d) c.make_room.ensures) (c.len-front.ensures ∙ c.args.buffer.now.ok.0) c.cut_at_limit.result c.cut_at_limit.ensures

pub returns-clause-only : goal.returns-clause-only
returns-clause-only g c = refused_behind g.T.Described.schema (g.T.Described.meaning c.args.value.now) c.from_buffer-encoder.result _
    c.from_buffer-encoder.ensures (g.T.Described.valued c.args.value.now) c.in-Err.error c.refusal.result c.in-Err.ensures.only
    (record { length = c.refusal.ensures.length; platform = c.refusal.ensures.platform; place = c.refusal.ensures.place; others = c.refusal.ensures.others })

pub returns-clause-kinds : goal.returns-clause-kinds
returns-clause-kinds g c =
    record { fresh = c.refusal.ensures.fresh (λ k. not_failed c.from_buffer-encoder.ensures (c.in-Err.ensures.call.after (ap Err k))); in_place = search rules; fits = search rules }

pub returns-clause-same : goal.returns-clause-same
returns-clause-same g c = c.into_front.ensures ∙ c.in-Err.ensures.call.front ∙ ap (λ w. w.front) c.from_buffer-encoder.ensures ∙ c.make_room.ensures
