-- `grouping::row::row` meets its contract: an accepted row lies in the list. Assumes nothing.
use Rattle.std.proofs.Common.{◌≡◌, sym, ◌∙◌, arith}
use Rattle.grouping.specs.Calls.{row_fault}
use Rattle.grouping.proofs.RowCalls.{told-refused, told-done, row-refused, row-part, row_cut}
use Rattle.grouping.proofs.row.row.Goals as goal
use Rattle.grouping.proofs.row.row.Goals.{Else-is_err}

pub returns-then-is_err : goal.returns-then-is_err
returns-then-is_err c = sym (row-refused _ _ _ _ (told-refused _ c.check_row.ensures (sym c.is_err.ensures.value ∙ c.if-is_err.true)))

-- past the test the inputs are accepted, and the row lies in the list
accepted : (c : Else-is_err) → (row_fault c.args.labels.now c.args.n c.args.levels c.args.k).number ≡ 0
accepted c = told-done _ c.check_row.ensures (sym c.is_err.ensures.value ∙ c.if-is_err.false)

pub overflow_mul-start : goal.overflow_mul-start
overflow_mul-start c = omega (arith, row-part _ _ _ _ (accepted c))

pub overflow_add-result : goal.overflow_add-result
overflow_add-result c = omega (arith, row-part _ _ _ _ (accepted (goal.at.overflow_add-result c).Else-is_err))

pub offset_bounds-labels-start : goal.offset_bounds-labels-start
offset_bounds-labels-start c = omega (arith, row-part _ _ _ _ (accepted (goal.at.offset_bounds-labels-start c).Else-is_err))

pub slice_bounds-result-end-2 : goal.slice_bounds-result-end-2
slice_bounds-result-end-2 c = omega (arith, row-part _ _ _ _ (accepted (goal.at.slice_bounds-result-end-2 c).Else-is_err))

pub returns : goal.returns
returns c = row_cut _ _ _ _ (accepted (goal.at.returns c).Else-is_err)
