use Rattle.std.proofs.Common.{◌≡◌, true, false, List, map, sym, ap, ◌∙◌, subst}
use Rattle.std.specs.List.{All}
use Rattle.dex_types.specs.declared.movements.MoveKind.TheVariants.{Credit}
use Rattle.dex_types.specs.Rows.{row_of}
use Rattle.dex_types.specs.Wallets.{address_seen, amount_at}
use Rattle.dex_wallet.specs.CellState.{CellState}
use Rattle.dex_act.specs.Wallets.{CanPut, amount_in, is_one, role_moved}
use Rattle.dex_act.proofs.CellLists.{apart-moved, role-moved}
use Rattle.dex_act.proofs.WalletMoves.{can-credit, credited-apart, fits-together, second-put}
use Rattle.dex_act.proofs.wallets.credit_pc.Goals as goal

pub join-both-requires : goal.join-both-requires
join-both-requires c =
    let one : is_one c.args.asked.now.seen.now.pc c.args.asked.now.seen.now.referrer ≡ true = sym c.is_one.ensures ∙ c.if-is_one.true in
    record {
      mint = c.requires.mint;
      first_is = c.requires.pc_is;
      second_is = c.requires.referrer_is;
      fits = fits-together c.args.asked.now.seen.now.pc c.args.asked.now.seen.now.referrer (amount_in c.args.pc) (amount_in c.args.referrer) c.requires.mint c.args.cells.now
          c.args.asked.now.places.now.pc one c.requires.at.pc c.requires.each;
    }

pub credit-requires-else-is_one-2-clause-apart : goal.credit-requires-else-is_one-2-clause-apart
credit-requires-else-is_one-2-clause-apart c =
    apart-moved (row_of c.args.asked.now.row.now) Credit c.args.asked.now.seen.now.pc (amount_in c.args.pc) c.args.cells.now _ c.credit-else-is_one.ensures c.requires.apart

pub credit-requires-else-is_one-2-clause-here : goal.credit-requires-else-is_one-2-clause-here
credit-requires-else-is_one-2-clause-here c =
    role-moved (row_of c.args.asked.now.row.now) Credit c.args.asked.now.seen.now.pc (amount_in c.args.pc) c.args.cells.now _ c.credit-else-is_one.ensures
    (address_seen c.args.asked.now.seen.now.referrer) c.args.asked.now.places.now.referrer c.requires.at.referrer

pub credit-requires-else-is_one-2-clause-can : goal.credit-requires-else-is_one-2-clause-can
credit-requires-else-is_one-2-clause-can c =
    let apart : is_one c.args.asked.now.seen.now.pc c.args.asked.now.seen.now.referrer ≡ false = sym c.is_one.ensures ∙ c.if-is_one.false in
    can-credit c.args.asked.now.seen.now.referrer c.args.referrer c.requires.mint c.credit-else-is_one.new.cells c.requires.referrer_is c.requires.referrer_named
    (subst (All (λ (cell : CellState). CanPut c.requires.mint (amount_at cell.address c.args.asked.now.seen.now.referrer (amount_in c.args.referrer)) cell)) (sym c.credit-else-is_one.ensures)
    (second-put (row_of c.args.asked.now.row.now) c.args.asked.now.seen.now (amount_in c.args.pc) (amount_in c.args.referrer) c.requires.mint c.args.cells.now apart c.requires.each))

pub returns-else-is_one : goal.returns-else-is_one
returns-else-is_one c =
    let apart : is_one c.args.asked.now.seen.now.pc c.args.asked.now.seen.now.referrer ≡ false = sym c.is_one.ensures ∙ c.if-is_one.false in
    c.credit-else-is_one-2.ensures
    ∙ ap (λ (cells : List CellState). map (role_moved (row_of c.args.asked.now.row.now) Credit c.args.asked.now.seen.now.referrer (amount_in c.args.referrer)) cells) c.credit-else-is_one.ensures
    ∙ credited-apart (row_of c.args.asked.now.row.now) c.args.asked.now.seen.now (amount_in c.args.pc) (amount_in c.args.referrer) c.args.cells.now apart
