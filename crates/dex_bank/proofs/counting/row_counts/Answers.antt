use Rattle.std.proofs.Common.{◌≡◌, ◌+◌, ◌<◌, ◌≤◌, List, ℕ, arith, get_or, length, map, take, sym, subst, ◌∙◌}
use Rattle.dex_world.proofs.Common.{PlainAccount, PlainAccounts, PlainMarketAccounts, Row, accounts_of, length-map, market_accounts_of, named_of, names, row_of, with_items_is}
use Rattle.std.proofs.lemmas.List.{length-take-le}
use Rattle.dex_world.specs.declared.places.RowPlaces.{RowPlaces}
use Rattle.dex_script_types.specs.Places.{ArePlaced, IsPlaced}
use Rattle.dex_script_types.proofs.PlacedLaws.{nowhere, placed-long, row-at}
use Rattle.dex_bank.specs.Counts.{HaveSpare}
use Rattle.dex_bank.proofs.OpenRooms.{AreRowsOf, market-tells, markets_at, on, rooms-told, row-more, rows-spare, wallet-tells, wallets_at}
use Rattle.dex_bank.proofs.counting.row_counts.Goals as goal
use Rattle.dex_world.proofs.MappedLists.{item-at, item_at}

-- each row has places
together : (start : PlainAccounts) (rows : List Row) (places : List RowPlaces) → ArePlaced start (map row_of rows) places → length places ≡ length rows
together start rows places are = placed-long start (map row_of rows) places are ∙ length-map rows row_of

pub bounds-places-i : goal.bounds-places-i
bounds-places-i c = omega (arith, together (accounts_of c.args.start.now) c.args.rows.now c.args.places.now c.requires.places)

pub offset_bounds-places-i : goal.offset_bounds-places-i
offset_bounds-places-i c = omega (arith, together (accounts_of c.args.start.now) c.args.rows.now c.args.places.now c.requires.places)

few : (rows : List Row) (i : ℕ) → i ≤ length rows → length (take i (map row_of rows)) ≡ i
few rows i le = length-take-le i (map row_of rows) (omega (arith, le, length-map rows row_of))

pub count-requires : goal.count-requires
count-requires c =
    subst (HaveSpare 1) (sym c.deref_mut.ensures.value)
    (rows-spare 1 c.loop-i.invariant.markets
    (omega (arith, few c.args.rows.now c.loop-i.i (omega arith), together (accounts_of c.args.start.now) c.args.rows.now c.args.places.now c.requires.places)))

pub count_each-requires : goal.count_each-requires
count_each-requires c =
    subst (HaveSpare 4) (sym c.deref_mut-in-loop-i.ensures.value)
    (rows-spare 4 c.loop-i.invariant.wallets
    (omega (arith, few c.args.rows.now c.loop-i.i (omega arith), together (accounts_of c.args.start.now) c.args.rows.now c.args.places.now c.requires.places)))

pub loop-i-preserved : goal.loop-i-preserved
loop-i-preserved c =
    let start = accounts_of c.args.start.now in
    let rows = c.args.rows.now in
    let i = c.loop-i.i in
    let inside : i < length rows = omega arith in
    let row : Row = item_at rows i inside in
    let is = item-at rows i inside in
    let there : RowPlaces = get_or c.args.places.now i nowhere in
    let placed = subst (λ (one : Row). IsPlaced start (row_of one) there) (sym is) (row-at (IsPlaced start) rows c.args.places.now c.requires.places i row nowhere inside) in
    let markets = markets_at start.markets in
    let wallets = wallets_at start.wallets in
    record {
      markets =
          subst (AreRowsOf on markets (take (i + 1) (map row_of rows)))
          (sym (with_items_is c.loop-i.markets c.count.new.counts (omega (arith, c.count.auto.counts, c.deref_mut.ensures.len))))
          (row-more rows i row inside is (market-tells start c.requires.start.1 (row_of row) there placed)
          (subst (AreRowsOf on markets (take i (map row_of rows))) (sym c.deref_mut.ensures.value) c.loop-i.invariant.markets) c.count.ensures);
      wallets =
          subst (AreRowsOf names wallets (take (i + 1) (map row_of rows)))
          (sym (with_items_is c.loop-i.wallets c.count_each.new.counts (omega (arith, c.count_each.auto.counts, c.deref_mut-in-loop-i.ensures.len))))
          (row-more rows i row inside is (wallet-tells start c.requires.start.1 (row_of row) there placed)
          (subst (AreRowsOf names wallets (take i (map row_of rows))) (sym c.deref_mut-in-loop-i.ensures.value) c.loop-i.invariant.wallets) c.count_each.ensures);
    }

pub returns-clause-markets : goal.returns-clause-markets
returns-clause-markets c =
    rooms-told on (λ (accounts : PlainMarketAccounts). accounts.address) (map row_of c.args.rows.now) (map market_accounts_of c.args.start.now.markets.items) c.loop-i.i c.loop-i.markets.items
    (omega (arith, length-map c.args.rows.now row_of, c.loop-i-test.false)) c.loop-i.invariant.markets

pub returns-clause-wallets : goal.returns-clause-wallets
returns-clause-wallets c =
    rooms-told names (λ (account : PlainAccount). account.address) (map row_of c.args.rows.now) (map named_of c.args.start.now.wallets.items) c.loop-i.i c.loop-i.wallets.items
    (omega (arith, length-map c.args.rows.now row_of, c.loop-i-test.false)) c.loop-i.invariant.wallets
