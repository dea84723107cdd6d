use Rattle.std.proofs.Common.{◌≡◌, ◌∙◌, ℕ, List, Option, ap, option_map}
use Rattle.std.specs.Prelude.{option_and_then}
use Rattle.clap.specs.Words.{Row, found_of, rows_of}
use Rattle.asn1_relay_command.proofs.OrderLemmas.{limit_rows}
use Rattle.asn1_module_order.specs.Orders.{Task, task_of, translation_in_rows}
use Rattle.asn1_module_order.specs.declared.order.Extent.TheVariants as extent
use Rattle.asn1_module_order.proofs.words.stream_in.Goals as goal

with_limit : List Row → Option ℕ → Option Task
with_limit rows limit = option_and_then (λ n. translation_in_rows rows (extent.Stream n)) limit

pub returns-in_err-limit-clause-task : goal.returns-in_err-limit-clause-task
unfolding with_limit
returns-in_err-limit-clause-task c =
    let f = found_of c.args.options.now in
    ap (option_map task_of) c.from_residual.ensures ∙ ap (with_limit (rows_of f)) (c.in_err-limit.ensures.limit ∙ limit_rows f)

pub returns-clause-task : goal.returns-clause-task
unfolding with_limit
returns-clause-task c =
    let f = found_of c.args.options.now in
    c.translation_in.ensures.task ∙ ap (with_limit (rows_of f)) (c.in_ok-limit.ensures.limit ∙ limit_rows f)
