use Rattle.std.proofs.Common.{◌∙◌, inl, inr, refl, sym}
use Rattle.asn1_table_extending.proofs.Matched.{begins_at}
use Rattle.asn1_table_extending.proofs.Refused.{untrue}
use Rattle.asn1_table_extending.proofs.constraints.check_items.Goals as goal

pub returns-clause-matches : goal.returns-clause-matches
returns-clause-matches c = (
  sym c.as_slice.ensures.value ∙ c.are_same_items.ensures.0 c.if-not-are_same_items.false ∙ c.as_slice-2.ensures.value,
  c.is_same_marker.ensures.0 c.if-not-is_same_marker.false,
  begins_at _ _ c.args.older.now.additions.items c.args.newer.now.additions.items c.as_slice-4.ensures.value c.as_slice-3.ensures.value
      (c.begins_with.ensures.0 c.if-not-begins_with.false),
)

pub returns-then-not-are_same_items-clause-refused : goal.returns-then-not-are_same_items-clause-refused
returns-then-not-are_same_items-clause-refused c =
    inl (refl, λ e. untrue _ c.are_same_items.ensures.1 c.if-not-are_same_items.true (c.as_slice.ensures.value ∙ e ∙ sym c.as_slice-2.ensures.value))

pub returns-then-not-begins_with-clause-refused : goal.returns-then-not-begins_with-clause-refused
returns-then-not-begins_with-clause-refused c =
    inr (inr (
      refl,
      λ b. untrue _ c.begins_with.ensures.1 c.if-not-begins_with.true
          (begins_at c.args.older.now.additions.items c.args.newer.now.additions.items _ _ (sym c.as_slice-4.ensures.value) (sym c.as_slice-3.ensures.value) b),
    ))

pub returns-then-not-is_same_marker-clause-refused : goal.returns-then-not-is_same_marker-clause-refused
returns-then-not-is_same_marker-clause-refused c = inr (inl (refl, λ e. untrue _ c.is_same_marker.ensures.1 c.if-not-is_same_marker.true e))
