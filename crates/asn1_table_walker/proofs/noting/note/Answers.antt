use Rattle.std.proofs.Common.{◌∙◌, sym}
use Rattle.asn1_schema_laws.proofs.Joined.{raised}
use Rattle.asn1_table_walker.proofs.NotingTurns.{default_notes, default_refused, empty_notes, empty_refused, nothing_notes}
use Rattle.asn1_table_walker.proofs.noting.note.Goals as goal

pub returns-in_err-note_default-clause-only : goal.returns-in_err-note_default-clause-only
returns-in_err-note_default-clause-only g c = raised _ _ _ c.from_residual.ensures.1 (λ n h k. default_refused _ _ _
    (λ v f e. sym (c.is_default.ensures c.args.types.now.nodes.items _ v h k (c.args.types.now.lawful n c.args.component.now.place) f e) ∙ c.if-is_default.true) c.in_err-note_default.ensures.only)

pub returns-then-is_default-clause-ok : goal.returns-then-is_default-clause-ok
returns-then-is_default-clause-ok g c = λ n h k. default_notes _ _ _
    (λ v f e. sym (c.is_default.ensures c.args.types.now.nodes.items _ v h k (c.args.types.now.lawful n c.args.component.now.place) f e) ∙ c.if-is_default.true) c.in_ok-note_default.ensures.ok

pub returns-in_err-note_empty-clause-only : goal.returns-in_err-note_empty-clause-only
returns-in_err-note_empty-clause-only g c = raised _ _ _ c.from_residual-in_err-note_empty.ensures.1 (λ n h k. empty_refused _ _ _
    (λ v f e. sym (c.is_default.ensures c.args.types.now.nodes.items _ v h k (c.args.types.now.lawful n c.args.component.now.place) f e) ∙ c.if-is_default.false)
    (λ v f e. sym (c.is_empty_group.ensures n v f e) ∙ c.if-is_empty_group.true) c.in_err-note_empty.ensures.only)

pub returns-then-is_empty_group-clause-ok : goal.returns-then-is_empty_group-clause-ok
returns-then-is_empty_group-clause-ok g c = λ n h k. empty_notes _ _ _
    (λ v f e. sym (c.is_default.ensures c.args.types.now.nodes.items _ v h k (c.args.types.now.lawful n c.args.component.now.place) f e) ∙ c.if-is_default.false)
    (λ v f e. sym (c.is_empty_group.ensures n v f e) ∙ c.if-is_empty_group.true) c.in_ok-note_empty.ensures.ok

pub returns-clause-ok : goal.returns-clause-ok
returns-clause-ok g c = λ n h k. nothing_notes _ _ _
    (λ v f e. sym (c.is_default.ensures c.args.types.now.nodes.items _ v h k (c.args.types.now.lawful n c.args.component.now.place) f e) ∙ c.if-is_default.false) _
    (λ v f e. sym (c.is_empty_group.ensures n v f e) ∙ c.if-is_empty_group.false)
