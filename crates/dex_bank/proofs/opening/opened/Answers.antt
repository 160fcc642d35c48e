use Rattle.std.proofs.Common.{◌≡◌, ℕ, List, length, map, ap, ◌∙◌}
use Rattle.dex_world.proofs.Common.{PlainAccount, PlainMarketAccounts, accounts_of, length-map, market_accounts_of, named_of, row_of}
use Rattle.dex_bank.proofs.Common.{AreSound, IsAccepted, IsWallet, rows_naming, rows_on}
use Rattle.dex_bank.proofs.OpenCells.{AreCells-opened}
use Rattle.dex_world.proofs.MappedLists.{All-unmap}
use Rattle.dex_bank.proofs.opening.opened.Goals as goal

pub market_cells-requires-clause-sound : goal.market_cells-requires-clause-sound
market_cells-requires-clause-sound c = All-unmap AreSound market_accounts_of c.args.start.markets.items c.requires.start.1.sound

pub market_cells-requires-clause-accepted : goal.market_cells-requires-clause-accepted
market_cells-requires-clause-accepted c = All-unmap IsAccepted market_accounts_of c.args.start.markets.items c.requires.start.1.accepted.markets

pub wallet_cells-requires-clause-wallets : goal.wallet_cells-requires-clause-wallets
wallet_cells-requires-clause-wallets c = All-unmap (λ w. IsWallet w.bytes) named_of c.args.start.wallets.items c.requires.start.1.accepted.wallets

-- as many as there are of what was counted
long : {A B : Type 0} (f : B → ℕ) (g : A → B) (xs : List A) (rooms told : List ℕ) → rooms ≡ told → told ≡ map f (map g xs) → length rooms ≡ length xs
long f g xs rooms told is counted = ap (λ (l : List ℕ). length l) (is ∙ counted) ∙ length-map (map g xs) f ∙ length-map xs g

pub market_cells-requires-clause-rooms : goal.market_cells-requires-clause-rooms
market_cells-requires-clause-rooms c =
    long (λ (one : PlainMarketAccounts). rows_on one.address (map row_of c.args.rows.now)) market_accounts_of c.args.start.markets.items c.deref.result.now
    c.in_ok-rooms.rooms.markets.items c.deref.ensures.value c.in_ok-rooms.ensures.markets

pub wallet_cells-requires-clause-rooms : goal.wallet_cells-requires-clause-rooms
wallet_cells-requires-clause-rooms c =
    long (λ (one : PlainAccount). rows_naming one.address (map row_of c.args.rows.now)) named_of c.args.start.wallets.items c.deref-2.result.now
    c.in_ok-rooms.rooms.wallets.items c.deref-2.ensures.value c.in_ok-rooms.ensures.wallets

pub invariant_of-result : goal.invariant_of-result
invariant_of-result c =
    let rows = map row_of c.args.rows.now in
    AreCells-opened (accounts_of c.args.start) rows _ c.requires.start.1
    (c.in_ok-markets.ensures rows (c.deref.ensures.value ∙ c.in_ok-rooms.ensures.markets))
    (c.in_ok-wallets.ensures.opened rows (c.deref-2.ensures.value ∙ c.in_ok-rooms.ensures.wallets)) c.in_ok-wallets.ensures.cells
