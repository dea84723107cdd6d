use Rattle.std.proofs.Common.{◌≡◌, ◌∙◌, true, ap, ap₂, codes, refl}
use Rattle.std.proofs.lemmas.Result.{IfOk-weaker}
use Rattle.clap.specs.Words.{App, Shape, app_of, new_app, with_rule, with_subcommand}
use Rattle.clap.specs.Simple.{app_of_fields}
use Rattle.asn1_relay_command.specs.Orders.{name_app}
use Rattle.asn1_relay_command.proofs.OrderLemmas.{local_of}
use Rattle.asn1_module_order.specs.Orders.{check_app, once_app, route_app, stream_app, types_app}
use Rattle.asn1_module_order.proofs.grammar.grammar.Goals as goal

requiring : App → App
requiring a = record { top = record a.top { subcommand_required = true }; subs = a.subs }

top_of : App → Shape
top_of a = a.top

pub returns : goal.returns
unfolding requiring top_of
returns c =
    let once : app_of c.after_help-once.result ≡ once_app = ap app_of_fields c.after_help-once.ensures ∙ c.in_ok-translating.ensures in
    let stream : app_of c.in_ok-stream.stream ≡ stream_app = c.in_ok-stream.ensures.shape c.limit_option.ensures.local ∙ ap₂ with_rule c.in_ok-translating-2.ensures c.limit_option.ensures.rule in
    let check : app_of c.in_ok-checking.field-0 ≡ check_app = c.in_ok-checking.ensures in
    let route : app_of c.in_ok-routing.field-0 ≡ route_app = c.in_ok-routing.ensures in
    let types : app_of c.in_ok-listing.field-0 ≡ types_app = c.in_ok-listing.ensures in
    let begun : app_of c.about.result ≡ new_app (codes "asn1_relay") = ap app_of_fields c.about.ensures ∙ c.new.ensures.app in
    let named : app_of c.subcommand_required.result ≡ name_app = ap app_of_fields c.subcommand_required.ensures ∙ ap requiring begun in
    let first : app_of c.in_ok-subcommand.field-0 ≡ with_subcommand name_app once_app.top =
    c.in_ok-subcommand.ensures.shape (local_of c.after_help-once.result once_app once refl) ∙ ap₂ with_subcommand named (ap top_of once) in
    let second : app_of c.in_ok-subcommand-2.field-0 ≡ with_subcommand (with_subcommand name_app once_app.top) stream_app.top =
    c.in_ok-subcommand-2.ensures.shape (local_of c.in_ok-stream.stream stream_app stream refl) ∙ ap₂ with_subcommand first (ap top_of stream) in
    let third : app_of c.in_ok-subcommand-3.field-0 ≡ with_subcommand (with_subcommand (with_subcommand name_app once_app.top) stream_app.top) check_app.top =
    c.in_ok-subcommand-3.ensures.shape (local_of c.in_ok-checking.field-0 check_app check refl) ∙ ap₂ with_subcommand second (ap top_of check) in
    let fourth : app_of c.in_ok-subcommand-4.field-0 ≡ with_subcommand (with_subcommand (with_subcommand (with_subcommand name_app once_app.top) stream_app.top) check_app.top) route_app.top =
    c.in_ok-subcommand-4.ensures.shape (local_of c.in_ok-routing.field-0 route_app route refl) ∙ ap₂ with_subcommand third (ap top_of route) in
    IfOk-weaker c.subcommand-5.result _ _ (λ g h. h.shape (local_of c.in_ok-listing.field-0 types_app types refl) ∙ ap₂ with_subcommand fourth (ap top_of types)) c.subcommand-5.ensures
