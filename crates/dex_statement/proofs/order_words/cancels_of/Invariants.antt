use Rattle.std.proofs.Common.{◌≡◌, ◌≤◌, ◌-◌, [], drop, length, take}
use Rattle.dex_statement.specs.OrderWords as order
use Rattle.dex_statement.specs.Words.{texts}
use Rattle.dex_statement.proofs.order_words.cancels_of.Given as goal

abbrev pub invariant-ids : goal.invariant-ids
invariant-ids l =
    (1 ≤ l.place) × (length l.ids ≡ 8)
    × (order.ids_behind (take (l.place - 1) l.ids) (texts (drop l.place l.words)) ≡ order.ids_behind [] (drop 1 (texts l.fn.words)))
