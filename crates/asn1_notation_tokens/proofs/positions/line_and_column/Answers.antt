use Rattle.std.proofs.Common.{◌∙◌, sym, arith}
use Rattle.asn1_notation_tokens.proofs.Columns.{column-line_feed, column-character, column-inside, line-line_feed, line-other}
use Rattle.asn1_notation_tokens.proofs.positions.line_and_column.Goals as goal
use Rattle.asn1_notation_tokens.proofs.positions.line_and_column.Goals.{then-octet-eq10, else-octet-eq10+then-begins_character, else-octet-eq10+else-begins_character}

pub loop-octet-preserved : goal.loop-octet-preserved
loop-octet-preserved c = λ small.
    let before = c.loop-octet.invariant small in
    elim c.if-octet-eq10.branch [
      | then-octet-eq10 w ↦
          let l = line-line_feed _ _ c.loop-octet-test.true w.if-octet-eq10.true in
          let k = column-line_feed _ _ c.loop-octet-test.true w.if-octet-eq10.true in
          let s = w.saturating_add-line.ensures in
          record { line = omega arith; column = omega arith; lines = omega arith; columns = omega arith }
      | else-octet-eq10+then-begins_character w ↦
          let l = line-other _ _ c.loop-octet-test.true w.if-octet-eq10.false in
          let k = column-character _ _ c.loop-octet-test.true w.if-octet-eq10.false (sym w.begins_character.ensures ∙ w.if-begins_character.true) in
          let s = w.saturating_add-column.ensures in
          record { line = omega arith; column = omega arith; lines = omega arith; columns = omega arith }
      | else-octet-eq10+else-begins_character w ↦
          let l = line-other _ _ c.loop-octet-test.true w.if-octet-eq10.false in
          let k = column-inside _ _ c.loop-octet-test.true w.if-octet-eq10.false (sym w.begins_character.ensures ∙ w.if-begins_character.false) in
          record { line = omega arith; column = omega arith; lines = omega arith; columns = omega arith }
    ]
