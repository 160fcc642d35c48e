use Rattle.std.proofs.Common.{◌≡◌, ◌<◌, ◌-◌, length, drop, arith}
use Rattle.std.proofs.lemmas.Bool.Decides.{nat_tests}
use Rattle.std.proofs.lemmas.List.{length-drop, take_all}
use Rattle.dex_rows.proofs.PlainLaws.{first_row, no_row, plain_left}
use Rattle.dex_rows.proofs.lines.next_line.Goals as goal

pub returns-then-is_empty-clause-end : goal.returns-then-is_empty-clause-end
returns-then-is_empty-clause-end c is =
    let none : length c.behind_ends-text.result.now ≡ 0 = grind (arith, nat_tests) in
    no_row c.args.rest.now.now (rw c.behind_ends-text.ensures at none)

pub returns-clause-next : goal.returns-clause-next
returns-clause-next c is =
    let text = c.behind_ends-text.result.now in
    let n = c.cut_at-length.result.length in
    let all = take_all (length text - n) (drop n text) (omega (arith, length-drop n text)) in
    let some : 0 < length text = grind (arith, nat_tests) in
    rw (all, c.behind_ends-text.ensures)
    (first_row c.args.rest.now.now n c.requires.quotes (rw c.behind_ends-text.ensures at some) (rw c.behind_ends-text.ensures at c.cut_at-length.ensures.front))

pub returns-clause-left : goal.returns-clause-left
returns-clause-left c =
    let text = c.behind_ends-text.result.now in
    let n = c.cut_at-length.result.length in
    let all = take_all (length text - n) (drop n text) (omega (arith, length-drop n text)) in
    rw (all, c.behind_ends-text.ensures) (plain_left c.args.rest.now.now n c.requires.quotes)
