use Rattle.std.proofs.Common.{◌≡◌, ◌++◌}
use Rattle.dex_laws.specs.Walks.{IsReached, orders_from}
use Rattle.dex_slab.specs.Slab.{resting}
use Rattle.dex_desk.specs.Books.{side_lines}
use Rattle.dex_desk.proofs.book.write_side.Given as goal

abbrev pub invariant-levels : goal.invariant-levels
invariant-levels l = record {
  text : l.text.items ++ side_lines l.side.side l.left (orders_from l.next (resting l.side.side l.side.bytes.now))
      ≡ l.initial.text.items ++ side_lines l.side.side l.depth (resting l.side.side l.side.bytes.now);
  reached : IsReached l.next (resting l.side.side l.side.bytes.now);
}

abbrev pub decreases-levels : goal.decreases-levels
decreases-levels l = l.left
