-- A row behind one that shares nothing with it: it sees the same, and can act as before.
use Rattle.std.proofs.Common.{◌≡◌, ℕ, ◌<◌, Bool, true, cond, List, [], ◌∷◌, length, map, Option, Some, None, sym, ap, ◌∙◌, subst, arith}
use Rattle.dex_world.proofs.Common.{All-cons, All-head, All-nil, All-tail, Market, PlainRow, Seen, Transfers, WalletEntry, WalletState, World, acted, is_same, is_same-refl, movement_of, names, row_step, seen_by, wallet_acted, wallet_moved}
use Rattle.std.specs.List.{All}
use Rattle.dex_accounts.specs.Decoded.{market_in}
use Rattle.dex_wallet.specs.CellState.{CellState, HasSpare}
use Rattle.dex_cell.specs.CellState.{MarketCellState, market_at}
use Rattle.dex_world.specs.Items.{ShareNothing, doing}
use Rattle.dex_world.specs.World as world
use Rattle.dex_world.proofs.FarLaws.{seen-far}
use Rattle.dex_world.proofs.MappedLists.{map-map}
use Rattle.dex_act.specs.declared.places.WalletPlaces.{WalletPlaces}
use Rattle.dex_act.specs.Acted.{HaveActed}
use Rattle.dex_act.specs.Steps.{CanStep, Terms, world_in_hand}
use Rattle.dex_act.specs.Wallets.{made_of, wallet_state_of}
use Rattle.dex_act.proofs.CellLists.{address_in, all-still}
pub use Rattle.dex_act.proofs.CellLists.{same-at}

-- ---- behind a row that shares nothing with it

module _ (first second : PlainRow) (share : ShareNothing first second) (waits : Bool) (seen : Seen) (m : Market) (before after : List CellState) where
  abbrev done : PlainRow
  done = doing waits first

  abbrev moved : Transfers
  moved = (row_step done seen m).transfers

  abbrev HasMoved : Type 0
  HasMoved = HaveActed done seen moved before after

  done-share : ShareNothing done second
  done-share = record { markets = share.markets; wallets = share.wallets }

  -- ---- what it sees

  -- the wallets in hand with the market of the first, as a world
  abbrev world_with : Terms → List WalletState → World
  world_with terms wallets =
      record (world_in_hand terms []) { markets = record { market = m; entries = [] } ∷ []; wallets = wallets }

  pub seen-behind : HasMoved → (terms : Terms) → seen ≡ seen_by first (world_in_hand terms before) → is_same first.market m.listing.address ≡ true
      → seen_by second (world_in_hand terms after) ≡ seen_by second (world_in_hand terms before)
  seen-behind acts terms seen_is on =
      let there : World = world_with terms (map wallet_state_of before) in
      let found : world.market_at first.market there.markets ≡ Some m = ap (λ (b : Bool). cond b (Some m) None) on in
      ap (λ (wallets : List WalletState). seen_by second (world_with terms wallets))
      (acts.states ∙ ap (λ (s : Seen). map (wallet_acted done s (row_step done s m).transfers) (map wallet_state_of before)) seen_is)
      ∙ sym (ap (λ (at : Option Market). seen_by second (acted done at there)) found)
      ∙ seen-far done second done-share there

  -- ---- what it needs

  abbrev Spare : CellState → Type 0
  Spare cell = names second cell.address ≡ true → HasSpare cell

  spare-still : (old new : CellState) → wallet_state_of new ≡ wallet_acted done seen moved (wallet_state_of old) → made_of new ≡ made_of old
      → Spare old → Spare new
  spare-still old new is alike spare named =
      let room : new.room ≡ old.room = ap (λ (cell : CellState). cell.room) alike in
      let before_named : names second old.address ≡ true = ap (names second) (sym (ap (λ (cell : CellState). cell.address) alike)) ∙ named in
      let same : wallet_state_of new ≡ wallet_state_of old =
      is ∙ ap (λ (b : Bool). cond b (wallet_moved done (movement_of seen moved old.address) (wallet_state_of old)) (wallet_state_of old))
      (share.wallets old.address before_named) in
      let entries : new.entries ≡ old.entries = ap (λ (state : WalletState). state.entries) same in
      subst (λ (n : ℕ). length new.entries < n) (sym room) (subst (λ (all : List WalletEntry). length all < old.room) (sym entries) (spare before_named))

  all-spare : (xs ys : List CellState) → map wallet_state_of ys ≡ map (wallet_acted done seen moved) (map wallet_state_of xs)
      → map made_of ys ≡ map made_of xs → All Spare xs → All Spare ys
  all-spare [] [] states alike spare = All-nil Spare
  all-spare (old ∷ xs) (new ∷ ys) states alike spare =
      All-cons Spare new ys
      (spare-still old new (let one = states in cc) (let one = alike in cc) (All-head Spare old xs spare))
      (all-spare xs ys (let rest = states in cc) (let rest = alike in cc) (All-tail Spare old xs spare))
  all-spare _ _ states alike spare = absurd (omega (arith, ap length alike))

  pub can-behind : HasMoved → (places : WalletPlaces) (market : MarketCellState) → CanStep second places market before → CanStep second places market after
  can-behind acts places market can =
      let same : map address_in after ≡ map address_in before = sym (map-map made_of address_in after) ∙ ap (map address_in) acts.made ∙ map-map made_of address_in before in
      record {
        on = can.on;
        market = can.market;
        spare = can.spare;
        wallets = record {
          apart = acts.apart;
          kept = acts.kept;
          spare = all-spare before after acts.states acts.made can.wallets.spare;
          at = all-still before after same can.wallets.at;
        };
      }

-- the market of a row is at its address
pub listed : (row : PlainRow) (market : MarketCellState) → row.market ≡ market.accounts.address → is_same row.market (market_at market).listing.address ≡ true
unfolding market_in
listed row market on = ap (is_same row.market) (sym on) ∙ is_same-refl row.market
