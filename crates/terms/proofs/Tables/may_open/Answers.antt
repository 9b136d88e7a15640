-- `Tables::may_open` meets its contract, test by test.
-- Assumes nothing.
use Rattle.std.proofs.Common.{sym, ◌/◌, ◌%◌, []}
use Rattle.terms.specs.Graph.{open_in}
use Rattle.terms.proofs.Ways.{may_write, open_other, open_true, shut_false}
use Rattle.terms.proofs.Tables.may_open.Goals as goal

pub returns-then-opener-eq-DIFFERS : goal.returns-then-opener-eq-DIFFERS
returns-then-opener-eq-DIFFERS c =
    let kind = rw c.opener_of-opener.ensures at c.if-opener-eq-DIFFERS.true in
    rw (c.left_of-left.ensures, c.right_of-right.ensures, c.number_of-number.ensures) (sym (may_write _ _ kind))

pub returns-then-truth-eq1 : goal.returns-then-truth-eq1
unfolding open_in
returns-then-truth-eq1 c =
    let row = c.args.row in
    let nonzero = rw c.opener_of-opener.ensures at c.if-opener-eq-DIFFERS.false in
    let holds = rw c.number_of-number.ensures at c.if-truth-eq1.true in
    rw (c.left_of-left.ensures, c.right_of-right.ensures, c.number_of-number.ensures)
    (sym (open_true [] c.args.self.now.truths 1 (row % 64) (row / 64 % 64) (row / 4096 % 64) (row / 262144 % 256) (row / 67108864) nonzero holds))

pub returns-then-opener-eq-CHOOSES : goal.returns-then-opener-eq-CHOOSES
unfolding open_in
returns-then-opener-eq-CHOOSES c =
    let row = c.args.row in
    let kind = rw c.opener_of-opener.ensures at c.if-opener-eq-CHOOSES.true in
    let untrue = rw c.number_of-number.ensures at c.if-truth-eq1.false in
    rw (c.left_of-left.ensures, c.other_of-right.ensures, c.number_of-number.ensures)
    (sym (open_other [] c.args.self.now.truths 1 (row % 64) (row / 64 % 64) (row / 4096 % 64) (row / 262144 % 256) (row / 67108864) kind untrue))

pub returns : goal.returns
unfolding open_in
returns c =
    let row = c.args.row in
    let nonzero = rw c.opener_of-opener.ensures at c.if-opener-eq-DIFFERS.false in
    let nonone = rw c.opener_of-opener.ensures at c.if-opener-eq-CHOOSES.false in
    let untrue = rw c.number_of-number.ensures at c.if-truth-eq1.false in
    sym (shut_false [] c.args.self.now.truths 1 (row % 64) (row / 64 % 64) (row / 4096 % 64) (row / 262144 % 256) (row / 67108864) nonzero nonone untrue)
