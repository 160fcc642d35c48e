use Rattle.std.proofs.Common.{List, map, sym, ap, ◌∙◌, subst}
use Rattle.std.specs.List.{All}
use Rattle.dex_types.specs.declared.movements.MoveKind.TheVariants.{Credit}
use Rattle.dex_types.specs.Rows.{row_of}
use Rattle.dex_wallet.specs.CellState.{CellState}
use Rattle.dex_act.specs.Wallets.{CanPut, amount_in, got_at, pc_credited}
use Rattle.dex_act.proofs.CellLists.{apart-moved, seen-moved}
use Rattle.dex_act.proofs.WalletMoves.{credited-together, pc-put}
use Rattle.dex_act.proofs.wallets.credits.Goals as goal

pub credit_pc-requires : goal.credit_pc-requires
credit_pc-requires c =
    let row = row_of c.args.asked.now.row.now in
    let seen = c.args.asked.now.seen.now in
    let amount = amount_in c.args.payouts.coin in
    record {
      mint = c.requires.pc_mint;
      pc_is = c.requires.pc_is;
      referrer_is = c.requires.referrer_is;
      apart = apart-moved row Credit seen.coin amount c.args.cells.now _ c.credit.ensures c.requires.apart;
      at = seen-moved row Credit seen.coin amount c.args.cells.now _ c.credit.ensures seen c.args.asked.now.places.now c.requires.at;
      pc_named = c.requires.pc_named;
      referrer_named = c.requires.referrer_named;
      each = subst
          (All (λ (cell : CellState). CanPut c.requires.pc_mint (got_at seen (amount_in c.args.payouts.pc) (amount_in c.args.payouts.referrer) cell) cell)) (sym c.credit.ensures)
          (pc-put row seen amount (amount_in c.args.payouts.pc) (amount_in c.args.payouts.referrer) c.requires.coin_mint c.requires.pc_mint c.args.cells.now c.requires.each);
    }

pub returns : goal.returns
returns c =
    let row = row_of c.args.asked.now.row.now in
    let seen = c.args.asked.now.seen.now in
    let pc = amount_in c.args.payouts.pc in
    let referrer = amount_in c.args.payouts.referrer in
    c.credit_pc.ensures
    ∙ ap (λ (cells : List CellState). map (pc_credited row seen pc referrer) cells) c.credit.ensures
    ∙ credited-together row seen (amount_in c.args.payouts.coin) pc referrer c.requires.coin_mint c.requires.pc_mint c.args.cells.now c.requires.each
