use Rattle.std.proofs.Common.{rules, Some, None, arith}
use Rattle.dex_gate.proofs.Keeps.{passes_on_at}
use Rattle.dex_gate.proofs.Seating.{left_in_hand}
use Rattle.dex_gate.proofs.steps.pass_on.Goals as goal

pub fetch_add-passed-requires : goal.fetch_add-passed-requires
fetch_add-passed-requires g c =
    let t = c.requires.turn in
    (search rules, search rules, passes_on_at _ _ _ _ _ _ _ _ t.card t.ticket t.start c.args.value (left_in_hand _ _ _ None (Some c.args.value) t.posed_so c.exchange-left.ensures.3) (search rules) t.one_more t.same_origin (omega (arith, c.count-count.ensures.length, c.count-count.ensures.bounded)))

pub returns-clause-passed : goal.returns-clause-passed
returns-clause-passed g c = λ card ticket start is. c.fetch_add-passed.ensures.2 card ticket start c.args.value (left_in_hand _ _ _ None (Some c.args.value) is c.exchange-left.ensures.3)
