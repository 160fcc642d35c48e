-- What all lanes leave is what the items leave in the order of their stamps.
use Rattle.std.proofs.Common.{◌≡◌, ℕ, [], map, sym, ap, ◌∙◌, subst}
use Rattle.dex_world.proofs.Common.{Market, PlainAccount, PlainMarketAccounts, WalletState, flat_map, market_after}
use Rattle.dex_replay.proofs.Common.{CellState, IsOneOrder, PlainScript, WalletWords, balance_of, entries_of, market_in, market_state_of, wallet_state_of, wallet_words, wallet_words-with_amount, world_after, world_of}
use Rattle.dex_serializable.proofs.Common.{AreMerged, BankMarketState, BankWalletState, Histories, IsMarketMerged, IsWalletMerged, MarketOrigin, WalletOrigin, is-left, map-map, market-once, wallet-once}
use Rattle.dex_world.proofs.MappedLists.{zip-map}
use Rattle.dex_serializable.specs.Merged.{left}
use Rattle.dex_serializable.proofs.Acting.{turns-act}
use Rattle.dex_serializable.proofs.Fronts.{market_front, market_with, wallet_front, wallet_with, world_front}
use Rattle.dex_serializable.proofs.Items.{call_in}
use Rattle.dex_serializable.proofs.Journals.{are-legal, made, market-journal, wallet-journal}
use Rattle.dex_serializable.proofs.LastCells.{are-cells, are-of-script, last_cells}
use Rattle.dex_serializable.proofs.Orders.{lanes-kept, order_of, ordered_turns, turns-flat}
use Rattle.dex_serializable.proofs.Steps.{AreLegal, AreOnce}
use Rattle.dex_serializable.proofs.Turns.{items_in}

module _ (script : PlainScript) (all : Histories) (merged : AreMerged script all) where
  -- a market at the end
  market-end : (start : PlainMarketAccounts) (market : BankMarketState) → IsMarketMerged script all.lanes start market
      → market_state_of market.cell ≡ market_front (made script all merged) start
  market-end start market is =
      let cell = is.kept.cell in
      ap (λ (m : Market). record { market = m; entries = entries_of market.cell })
      (cell.end_is ∙ ap (λ (accounts : PlainMarketAccounts). market_after (market_in accounts) market.cell.calls) (ap (λ (origin : MarketOrigin). origin.start) is.origin))
      ∙ ap (market_with start) (sym (market-journal script all merged start market is))

  -- a wallet there: but for the amount its token account is the first one
  wallet-end : (start : PlainAccount) (wallet : BankWalletState) → IsWalletMerged script all.lanes start wallet
      → wallet_state_of wallet.cell ≡ wallet_front (made script all merged) start
  wallet-end start wallet is =
      let cell = is.kept.cell in
      let last : CellState = wallet.cell in
      let state : WalletWords → ℕ → WalletState =
      λ words balance. record { seen = record { address = last.address; mint = words.mint; owner = words.owner; balance = balance }; entries = last.entries } in
      ap (λ (words : WalletWords). state words (balance_of last.bytes))
      (ap wallet_words cell.others ∙ wallet_words-with_amount last.start (balance_of last.bytes) (ap balance_of (sym cell.others)))
      ∙ ap (state (wallet_words last.start)) cell.balance
      ∙ ap (λ (account : PlainAccount). wallet_with account last.entries) (ap (λ (origin : WalletOrigin). origin.start) is.origin)
      ∙ ap (wallet_with start) (sym (wallet-journal script all merged start wallet is))

  -- so the cells' world is that after all calls
  last-world : world_of (last_cells script all) ≡ world_front script (made script all merged)
  last-world =
      let markets =
      map-map (λ (market : BankMarketState). market.cell) market_state_of all.markets
      ∙ zip-map (IsMarketMerged script all.lanes) (market_front (made script all merged)) (λ (market : BankMarketState). market_state_of market.cell) market-end
      script.start.markets all.markets merged.markets in
      let wallets =
      map-map (λ (wallet : BankWalletState). wallet.cell) wallet_state_of all.wallets
      ∙ zip-map (IsWalletMerged script all.lanes) (wallet_front (made script all merged)) (λ (wallet : BankWalletState). wallet_state_of wallet.cell) wallet-end
      script.start.wallets all.wallets merged.wallets in
      λ i. record { markets = markets i; wallets = wallets i; srm = script.start.srm; msrm = script.start.msrm; program = script.program }

  -- of accepted accounts each address is that of one market and of one wallet at most
  once : AreOnce script
  once =
      let accepted = merged.facts.start.accepted in
      record {
        markets = λ address. market-once script.start address (accepted.once address);
        wallets = λ address. wallet-once script.start address (accepted.once address);
      }

  order-world : world_after script (order_of script all merged) ≡ world_front script (made script all merged)
  order-world =
      let same : map call_in (flat_map items_in (ordered_turns script all merged)) ≡ made script all merged = ap (map call_in) (turns-flat script all merged) in
      turns-act script [] (ordered_turns script all merged) once
      (subst (AreLegal script) (sym same) (are-legal script all merged))
      ∙ ap (world_front script) same

  pub one-order : IsOneOrder script (left script all)
  one-order =
      let accepted = merged.facts.start.accepted in
      record {
        order = order_of script all merged;
        lanes = lanes-kept script all merged;
        replay = is-left script (last_cells script all) (are-of-script script all merged.markets merged.wallets)
            (are-cells script all merged.markets merged.wallets accepted) (order_of script all merged) accepted (last-world ∙ sym order-world);
      }
