use Rattle.std.proofs.Common.{◌≡◌, ◌+◌, ◌-◌, length, ap, arith, length-drop}
use Rattle.dex_rows.proofs.LineLemmas.{passed_none}
use Rattle.dex_rows.proofs.lines.next_place.Goals as goal

pub returns-in-Some : goal.returns-in-Some
returns-in-Some c =
    let first = c.in-Some.ensures in
    let behind = c.split_at.ensures.back in
    passed_none c.args.text.now c.split_at.result.1.now c.args.start c.in-Some.place behind
    (omega (arith, first.0.high, ap length behind, length-drop c.args.start c.args.text.now)) first.0.before

pub returns-in-None : goal.returns-in-None
returns-in-None c =
    let text = c.args.text.now in
    let behind = c.split_at.ensures.back in
    let e : c.args.start + (length text - c.args.start) ≡ length text = omega arith in
    let passed = passed_none text c.split_at.result.1.now c.args.start (length text - c.args.start) behind (omega arith)
    (λ k low high. c.in-None.ensures k low (omega (arith, high, ap length behind, length-drop c.args.start text))) in
    rw e at passed
