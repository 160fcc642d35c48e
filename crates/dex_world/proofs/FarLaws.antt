-- a row leaves what another sees and finds that shares nothing with it
use Rattle.std.proofs.Common.{◌≡◌, Bool, true, false, cond, List, [], ◌∷◌, map, Option, Some, None, IfSome, refl, sym, ap, ◌∙◌}
use Rattle.std.proofs.lemmas.Bool.{cond-false, cond_both}
use Rattle.dex_types.specs.declared.addresses.Address.{Address}
use Rattle.dex_types.specs.declared.rows.Seen.{Seen}
use Rattle.dex_types.specs.declared.rows.WalletSeen.{WalletSeen}
use Rattle.dex_types.specs.Addresses.{is_same}
use Rattle.dex_types.specs.Market.{Listing, Market}
use Rattle.dex_types.specs.Rows.{PlainRow}
use Rattle.dex_types.specs.Transfers.{Transfers}
use Rattle.dex_types.specs.Wallets.{movement_of}
use Rattle.dex_laws.proofs.TraderLaws.{is_same-sym, is_same-true}
use Rattle.dex_sound.proofs.KeepLaws.{step-keeps}
use Rattle.dex_history.specs.Journal.{request_of, row_step}
use Rattle.dex_world.specs.Fold.{act, acted, market_acted, markets_acted, names, wallet_acted, wallet_moved}
use Rattle.dex_world.specs.Items.{ShareNothing, why_in, why_on}
use Rattle.dex_world.specs.World.{MarketState, WalletState, World, market_at, role_at, seen_by, wallet_at}
use Rattle.dex_world.proofs.NameLaws.{row-among}

-- ---- its market

module _ (row other : PlainRow) (share : ShareNothing row other) where
  market-acted : (seen : Seen) (states : List MarketState) → market_at other.market (markets_acted row seen states) ≡ market_at other.market states
  market-acted seen [] = refl
  market-acted seen (state ∷ states) =
      let address : Address = state.market.listing.address in
      cond_both (is_same row.market address) (market_acted row seen state ∷ states) (state ∷ markets_acted row seen states)
      (λ (all : List MarketState). market_at other.market all ≡ market_at other.market (state ∷ states))
      (λ same.
      let away : is_same other.market address ≡ false =
      ap (is_same other.market) (sym (is_same-true row.market address same)) ∙ is_same-sym other.market row.market ∙ share.markets in
      let stays : (row_step row seen state.market).market.listing.address ≡ address =
      ap (λ (l : Listing). l.address) (step-keeps (request_of row) seen state.market).listing in
      cond-false (is_same other.market (row_step row seen state.market).market.listing.address) (Some (row_step row seen state.market).market)
      (market_at other.market states) (ap (is_same other.market) stays ∙ away)
      ∙ sym (cond-false (is_same other.market address) (Some state.market) (market_at other.market states) away))
      (λ apart. ap (cond (is_same other.market address) (Some state.market)) (market-acted seen states))

  market-with : (found : Option Market) (world : World) → market_at other.market (acted row found world).markets ≡ market_at other.market world.markets
  market-with None world = refl
  market-with (Some m) world = market-acted (seen_by row world) world.markets

  pub market-far : (world : World) → market_at other.market (act row world).markets ≡ market_at other.market world.markets
  market-far world = market-with (market_at row.market world.markets) world

  -- ---- what it sees

  wallet-address : (seen : Seen) (t : Transfers) (state : WalletState) → (wallet_acted row seen t state).seen.address ≡ state.seen.address
  wallet-address seen t state =
      cond_both (names row state.seen.address) (wallet_moved row (movement_of seen t state.seen.address) state) state
      (λ (one : WalletState). one.seen.address ≡ state.seen.address) (λ named. refl) (λ apart. refl)

  wallet-far : (seen : Seen) (t : Transfers) (address : Address) → names row address ≡ false → (states : List WalletState)
      → wallet_at address (map (wallet_acted row seen t) states) ≡ wallet_at address states
  wallet-far seen t address away [] = refl
  wallet-far seen t address away (state ∷ states) =
      ap (λ (a : Address). cond (is_same address a) (Some (wallet_acted row seen t state).seen) (wallet_at address (map (wallet_acted row seen t) states)))
      (wallet-address seen t state)
      ∙ ap (cond (is_same address state.seen.address) (Some (wallet_acted row seen t state).seen)) (wallet-far seen t address away states)
      ∙ either (is_same address state.seen.address) refl
    where
      either : (b : Bool) → is_same address state.seen.address ≡ b
          → cond b (Some (wallet_acted row seen t state).seen) (wallet_at address states) ≡ cond b (Some state.seen) (wallet_at address states)
      either true here =
          ap (λ (one : WalletState). Some one.seen)
          (cond-false (names row state.seen.address) (wallet_moved row (movement_of seen t state.seen.address) state) state
          (ap (names row) (sym (is_same-true address state.seen.address here)) ∙ away))
      either false apart = refl

  role-far : (seen : Seen) (t : Transfers) (states : List WalletState) (role : Option Address) → IfSome role (λ address. names other address ≡ true)
      → role_at role (map (wallet_acted row seen t) states) ≡ role_at role states
  role-far seen t states None named = refl
  role-far seen t states (Some address) named = wallet-far seen t address (share.wallets address named) states

  seen-with : (found : Option Market) (world : World) → seen_by other (acted row found world) ≡ seen_by other world
  seen-with None world = refl
  seen-with (Some m) world =
      let seen : Seen = seen_by row world in
      let t : Transfers = (row_step row seen m).transfers in
      let early : Seen = seen_by other world in
      let later : Seen = seen_by other (acted row (Some m) world) in
      let named = row-among other in
      ap (λ (one : Option WalletSeen). record later { coin = one }) (role-far seen t world.wallets other.coin named.0)
      ∙ ap (λ (one : Option WalletSeen). record later { coin = early.coin; pc = one }) (role-far seen t world.wallets other.pc named.1)
      ∙ ap (λ (one : Option WalletSeen). record later { coin = early.coin; pc = early.pc; discount = one }) (role-far seen t world.wallets other.discount named.2)
      ∙ ap (λ (one : Option WalletSeen). record later { coin = early.coin; pc = early.pc; discount = early.discount; referrer = one })
      (role-far seen t world.wallets other.referrer named.3)

  pub seen-far : (world : World) → seen_by other (act row world) ≡ seen_by other world
  seen-far world = seen-with (market_at row.market world.markets) world

  -- so it is refused there or not as before
  pub why-far : (world : World) → why_in (act row world) other ≡ why_in world other
  why-far world =
      ap (λ (s : Seen). why_on other s (market_at other.market (act row world).markets)) (seen-far world)
      ∙ ap (why_on other (seen_by other world)) (market-far world)
