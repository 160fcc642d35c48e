use Rattle.std.proofs.Common.{◌≡◌, ◌-◌, ◌∙◌, ◌++◌, ℕ, List, Option, Some, ap, append_assoc, arith, sym}
use Rattle.dex_types.specs.declared.orders.Order.{Order}
use Rattle.dex_types.specs.Side.{price_of}
use Rattle.dex_laws.specs.Walks.{orders_from}
use Rattle.dex_slab.specs.Slab.{resting}
use Rattle.dex_desk.specs.Books.{behind_price, capped, level_text, lots_at, side_lines}
use Rattle.dex_desk.proofs.BookLaws.{level-written, walk-at}
use Rattle.dex_desk.proofs.book.write_side.Goals as goal

pub levels-preserved : goal.levels-preserved
levels-preserved c =
    let side = c.args.side.now.side in
    let bytes = c.args.side.now.bytes.now in
    let all = resting side bytes in
    let first : Order = c.in-Some.first in
    let left = c.levels.left in
    let next = c.levels.next in
    let level = c.level_at-behind.result.0 in
    let told = c.level_at-behind.ensures in
    let at = walk-at side bytes next first c.requires c.in-Some.is c.levels.invariant.reached in
    let same : orders_from (Some first) all ≡ orders_from next all = ap (λ (o : Option Order). orders_from o all) (sym c.in-Some.is) in
    let lines = level-written side left (left - 1) first (orders_from next all) _ (orders_from c.level_at-behind.result.1 all) level.side level.price level.lots at.front
    (omega (arith, c.if-left-eq0.false)) told.side told.price
    (told.lots ∙ ap (λ (os : List Order). capped (lots_at (price_of first.id) os)) same)
    (told.behind ∙ ap (behind_price (price_of first.id)) same) in
    record {
      text =
          ap (λ (l : List ℕ). l ++ side_lines side (left - 1) (orders_from c.level_at-behind.result.1 all)) c.in_ok-write_level.ensures
          ∙ append_assoc c.levels.text.items (level_text level.side level.price level.lots) _
          ∙ ap (λ (l : List ℕ). c.levels.text.items ++ l) lines
          ∙ c.levels.invariant.text;
      reached = told.reached;
    }
