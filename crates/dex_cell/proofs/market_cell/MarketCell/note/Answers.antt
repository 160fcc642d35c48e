use Rattle.std.proofs.Common.{◌≡◌, List, map, refl, sym, ap, subst, ◌∙◌, arith}
use Rattle.dex_types.specs.Transfers.{no_transfers}
use Rattle.dex_movements.specs.Amounts.{transfers_of}
use Rattle.dex_history.specs.Journal.{Call}
use Rattle.dex_cell.specs.CellInside.{call_of, cell_inside}
use Rattle.dex_cell.specs.CellState.{IsMarketCell, MarketCellState, noted_on}
use Rattle.dex_cell.proofs.InsideLaws.{calls-grow, entries-grow}
use Rattle.dex_cell.proofs.market_cell.MarketCell.note.Goals as goal

-- the cell before
abbrev before : goal.After-write_down → MarketCellState
before c = cell_inside c.self.inside

calls : (c : goal.After-write_down) → map call_of c.write_down.new.calls.items ≡ (noted_on c.args.row.now c.args.seen.now c.args.reply (before c)).calls
calls c =
    calls-grow c.args.row.now c.args.seen.now c.args.reply c.args.reply _ no_transfers refl (ap transfers_of c.none.ensures)
    c.self.inside.calls.items c.write_down.new.calls.items c.write_down.ensures.calls

kept : (c : goal.After-write_down) → IsMarketCell (record (before c) { calls = map call_of c.write_down.new.calls.items })
kept c =
    subst (λ (cs : List Call). IsMarketCell (record (before c) { calls = cs })) (sym (calls c))
    (subst (λ (cell : MarketCellState). IsMarketCell cell → IsMarketCell (noted_on c.args.row.now c.args.seen.now c.args.reply cell))
    (sym c.self.view_is) c.requires.cell c.self.invariant.cell)

pub invariant_of-self : goal.invariant_of-self
invariant_of-self c = record {
  cell = kept c;
  journal = entries-grow c.args.row.now c.args.seen.now c.args.reply c.args.reply _ no_transfers refl (ap transfers_of c.none.ensures)
      c.self.inside.entries.items c.write_down.new.entries.items (before c).calls c.self.invariant.journal c.write_down.ensures.entries
      ∙ sym (ap (map (λ (call : Call). call.entry)) (calls c));
  reserved = omega (arith, c.write_down.ensures.reserved, c.self.invariant.reserved);
  pending = c.self.invariant.pending;
  index = c.self.invariant.index;
}

pub returns-clause-noted : goal.returns-clause-noted
returns-clause-noted c =
    ap (λ (cs : List Call). record (before c) { calls = cs }) (calls c) ∙ ap (noted_on c.args.row.now c.args.seen.now c.args.reply) c.self.view_is

pub returns-clause-cell : goal.returns-clause-cell
returns-clause-cell c = kept c
