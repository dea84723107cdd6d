use Rattle.std.proofs.Common.{◌≡◌, List, All, Contains, inl, inr, refl, subst, sym}
use Rattle.std.proofs.lemmas.Result.{IfErr-weaker}
use Rattle.asn1_schema_tags.specs.declared.tags.Tag.{Tag}
use Rattle.asn1_table_extending.proofs.Matched.{on_ok}
use Rattle.asn1_table_extending.proofs.Refused.{untrue}
use Rattle.asn1_table_extending.specs.Differing.{ComponentDiffers, PresencesDiffer}
use Rattle.asn1_table_extending.proofs.components.check_component.Goals as goal

all_at : (xs ys us vs : List Tag) → xs ≡ us → ys ≡ vs → All (Contains ys) xs → All (Contains vs) us
all_at xs ys us vs e f h =
    let P : List Tag → Type 0 = λ zs. All (Contains ys) zs in
    let Q : List Tag → Type 0 = λ zs. All (Contains zs) us in
    subst Q f (subst P e h)

pub returns-clause-matches : goal.returns-clause-matches
returns-clause-matches c =
    on_ok c.check_presence.result c.check_presence.ensures.matches (λ p. (all_at _ _ c.args.older.now.tags.items c.args.newer.now.tags.items c.as_slice.ensures.value c.as_slice-2.ensures.value (c.are_among.ensures.0 c.if-not-are_among.false), p))

pub returns-then-not-are_among-clause-refused : goal.returns-then-not-are_among-clause-refused
returns-then-not-are_among-clause-refused c =
    inl (
      refl,
      λ a. untrue _ c.are_among.ensures.1 c.if-not-are_among.true
          (all_at c.args.older.now.tags.items c.args.newer.now.tags.items _ _ (sym c.as_slice.ensures.value) (sym c.as_slice-2.ensures.value) a),
    )

pub returns-clause-refused : goal.returns-clause-refused
returns-clause-refused c =
    IfErr-weaker c.check_presence.result (λ d. PresencesDiffer d c.args.older.now.presence c.args.newer.now.presence) (λ d. ComponentDiffers d c.args.older.now c.args.newer.now)
    (λ d h. inr h) c.check_presence.ensures.refused
