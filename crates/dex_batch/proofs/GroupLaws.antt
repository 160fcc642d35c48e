-- Groups: each row is of one, and acts on that alone.
use Rattle.std.proofs.Common.{◌≡◌, ℕ, zero, suc, ◌<◌, true, false, eqb, List, [], ◌∷◌, get_or, length, map, Option, None, Some, refl, sym, ap, ◌∙◌, arith, All, ⊎_elim}
use Rattle.std.proofs.lemmas.Bool.{or_cases}
use Rattle.dex_replay.proofs.Common.{CellState, CellsState, MarketCellState, world_of}
use Rattle.dex_world.proofs.Common.{Address, All-cons, All-head, All-map, All-nil, All-tail, All-weaker, Market, MarketState, PlainRow, WalletState, World, acted, alone, fold, fold_items, get_or-map, is_same, is_same-refl, is_same-sym, is_same-true, length-map, markets_acted, market_acted, seen_by, AllZip, Seen, WalletSeen, cond-false, cond-true, cond_both, false≢true, list_any, row_wallets}
use Rattle.dex_world.specs.declared.places.RowPlaces.{RowPlaces}
use Rattle.dex_world.specs.Places.{ArePlacesOf}
use Rattle.dex_world.specs.Items.{Item}
use Rattle.dex_world.proofs.MappedLists.{filter-of, item_at, map-map}
use Rattle.std.proofs.lemmas.Slice.Zip.{AllZip-map}
use Rattle.dex_act.specs.Opened.{market_state_of}
use Rattle.dex_act.specs.Wallets.{IsAt, cell_place, wallet_state_of}
use Rattle.dex_act.proofs.InHand.{stands-at}
use Rattle.dex_bank.specs.Places.{ArePlacesIn}
use Rattle.dex_parts.specs.Shards.{IsItemOfOneShard, IsOfOneShard, Sharding, rows_in, world_in}
use Rattle.dex_parts.proofs.KeptLaws.{items-keep, msrm-kept, named, named-kept, program-kept, srm-kept}
use Rattle.dex_parts.proofs.ShardWorlds.{items-act}
use Rattle.dex_replay.proofs.Singles.{singles-act}
use Rattle.dex_batch.specs.Acting.{AreDistinct, AreDistinctCells, market_addresses, wallet_addresses}
use Rattle.dex_batch.specs.Groups.{IsOfGroup, IsWalletOf, number_of, sharding_of}
use Rattle.dex_batch.specs.Parts.{part}
use Rattle.dex_batch.proofs.PartLaws.{part-filter, zip-of}
use Rattle.dex_batch.proofs.RoomLaws.{address-stays, listing-address}

-- ---- a group's rows act on its part of the world

single-items : (sharding : Sharding) (rows : List PlainRow) → All (IsOfOneShard sharding) rows → All (IsItemOfOneShard sharding) (map alone rows)
single-items sharding rows all =
    All-map (IsItemOfOneShard sharding) alone rows
    (All-weaker (IsOfOneShard sharding) (λ (row : PlainRow). IsItemOfOneShard sharding (alone row))
    (λ row one. All-cons (λ (r : PlainRow). IsOfOneShard sharding r × (sharding.market r.market ≡ sharding.market row.market)) row [] (one, refl) (All-nil _)) rows all)

pub group-acts : (sharding : Sharding) (number : ℕ) (rows : List PlainRow) (world : World) → All (IsOfOneShard sharding) rows
    → fold (rows_in sharding number rows) (world_in sharding number world) ≡ world_in sharding number (fold rows world)
group-acts sharding number rows world all =
    sym (singles-act (rows_in sharding number rows) (world_in sharding number world))
    ∙ ap (λ (items : List Item). fold_items items (world_in sharding number world)) (filter-of alone (λ (item : Item). eqb (sharding.market item.first.market) number) rows)
    ∙ items-act sharding number (map alone rows) world (single-items sharding rows all)
    ∙ ap (world_in sharding number) (singles-act rows world)

-- ---- rows move no market and no wallet

markets-keep : (row : PlainRow) (seen : Seen) (states : List MarketState) → market_addresses (markets_acted row seen states) ≡ market_addresses states
markets-keep row seen [] = refl
markets-keep row seen (state ∷ states) =
    cond_both (is_same row.market state.market.listing.address) (market_acted row seen state ∷ states) (state ∷ markets_acted row seen states)
    (λ (list : List MarketState). market_addresses list ≡ market_addresses (state ∷ states))
    (λ same. ap (λ (a : Address). a ∷ market_addresses states) (address-stays row seen state))
    (λ other. ap (λ (list : List Address). state.market.listing.address ∷ list) (markets-keep row seen states))

acted-markets : (row : PlainRow) (found : Option Market) (world : World) → market_addresses (acted row found world).markets ≡ market_addresses world.markets
acted-markets row None world = refl
acted-markets row (Some m) world = markets-keep row (seen_by row world) world.markets

pub fold-markets : (rows : List PlainRow) (world : World) → market_addresses (fold rows world).markets ≡ market_addresses world.markets
fold-markets rows world =
    ap (λ (w : World). market_addresses w.markets) (sym (singles-act rows world)) ∙ items-keep (λ (w : World). market_addresses w.markets) acted-markets (map alone rows) world

pub fold-wallets : (rows : List PlainRow) (world : World) → wallet_addresses (fold rows world).wallets ≡ wallet_addresses world.wallets
fold-wallets rows world =
    let same : map named (fold rows world).wallets ≡ map named world.wallets = ap (λ (w : World). map named w.wallets) (sym (singles-act rows world)) ∙ named-kept (map alone rows) world in
    let key : WalletSeen → Address = λ seen. seen.address in
    sym (map-map named key (fold rows world).wallets) ∙ ap (map key) same ∙ map-map named key world.wallets

pub fold-rest : (rows : List PlainRow) (world : World) → ((fold rows world).srm ≡ world.srm) × ((fold rows world).msrm ≡ world.msrm) × ((fold rows world).program ≡ world.program)
fold-rest rows world =
    let same : fold rows world ≡ fold_items (map alone rows) world = sym (singles-act rows world) in (
      ap (λ (w : World). w.srm) same ∙ srm-kept (map alone rows) world,
      ap (λ (w : World). w.msrm) same ∙ msrm-kept (map alone rows) world,
      ap (λ (w : World). w.program) same ∙ program-kept (map alone rows) world,
    )

-- ---- numbers by address

pub number-there : (addresses : List Address) (numbers : List ℕ) (address : Address) (place d : ℕ) (e : Address) → AreDistinct addresses → place < length addresses
    → length numbers ≡ length addresses → is_same address (get_or addresses place e) ≡ true → number_of addresses numbers address ≡ get_or numbers place d
number-there [] numbers address place d e distinct within long same = absurd (omega (arith, within))
number-there (first ∷ addresses) [] address place d e distinct within long same = absurd (omega (arith, long))
number-there (first ∷ addresses) (n ∷ numbers) address zero d e distinct within long same = cond-true _ _ _ same
number-there (first ∷ addresses) (n ∷ numbers) address (suc place) d e distinct within long same =
    let here : Address = get_or addresses place e in
    let other : is_same address first ≡ false =
    ap (λ (a : Address). is_same a first) (is_same-true address here same) ∙ is_same-sym here first ∙ distinct 0 (suc place) e (omega arith) within in
    cond-false _ _ _ other
    ∙ number-there addresses numbers address place d e (λ i j c less inside. distinct (suc i) (suc j) c (omega (arith, less)) (omega (arith, inside))) (omega (arith, within))
    (omega (arith, long)) same

numbers-there : (addresses : List Address) (numbers : List ℕ) → AreDistinct addresses → length numbers ≡ length addresses → map (number_of addresses numbers) addresses ≡ numbers
numbers-there addresses numbers distinct long =
    sym (AllZip-map (number_of addresses numbers) addresses numbers
    (zip-of (λ (address : Address) (number : ℕ). number ≡ number_of addresses numbers address) addresses numbers long
    (λ place d e within. sym (number-there addresses numbers (get_or addresses place d) place e d distinct within long (is_same-refl (get_or addresses place d))))))

-- ---- a bank in groups

-- numbers stand beside its markets and its wallets, of which no two have one address
pub record InGroups (bank : CellsState) (of_markets of_wallets : List ℕ) : Type 0 where
  pub apart : AreDistinctCells bank
  pub markets_long : length of_markets ≡ length bank.markets
  pub wallets_long : length of_wallets ≡ length bank.wallets

module _ {bank : CellsState} {of_markets of_wallets : List ℕ} (ins : InGroups bank of_markets of_wallets) where
  abbrev world : World
  world = world_of bank

  abbrev pub groups : Sharding
  groups = sharding_of world of_markets of_wallets

  at-market : (place : ℕ) (d : MarketCellState) (e : Address) → place < length bank.markets → get_or (market_addresses world.markets) place e ≡ (get_or bank.markets place d).accounts.address
  at-market place d e within =
      get_or-map (λ (state : MarketState). state.market.listing.address) world.markets place (market_state_of d) e (omega (arith, within, length-map bank.markets market_state_of))
      ∙ ap (λ (state : MarketState). state.market.listing.address) (get_or-map market_state_of bank.markets place d (market_state_of d) within)
      ∙ listing-address (get_or bank.markets place d).accounts

  at-wallet : (place : ℕ) (d : CellState) (e : Address) → place < length bank.wallets → get_or (wallet_addresses world.wallets) place e ≡ (get_or bank.wallets place d).address
  at-wallet place d e within =
      get_or-map (λ (state : WalletState). state.seen.address) world.wallets place (wallet_state_of d) e (omega (arith, within, length-map bank.wallets wallet_state_of))
      ∙ ap (λ (state : WalletState). state.seen.address) (get_or-map wallet_state_of bank.wallets place d (wallet_state_of d) within)

  many-markets : length (market_addresses world.markets) ≡ length bank.markets
  many-markets = length-map world.markets (λ (state : MarketState). state.market.listing.address) ∙ length-map bank.markets market_state_of

  many-wallets : length (wallet_addresses world.wallets) ≡ length bank.wallets
  many-wallets = length-map world.wallets (λ (state : WalletState). state.seen.address) ∙ length-map bank.wallets wallet_state_of

  wallet-number : (number : ℕ) (wallet : Address) (place : ℕ) → cell_place wallet bank.wallets ≡ Some place → IsWalletOf of_wallets number place
      → groups.wallet wallet ≡ number
  wallet-number number wallet place is of =
      let at : IsAt wallet bank.wallets place = stands-at wallet bank.wallets place is in
      let d : CellState = item_at bank.wallets place at.within in
      number-there (wallet_addresses world.wallets) of_wallets wallet place 0 wallet ins.apart.wallets (omega (arith, at.within, many-wallets)) (ins.wallets_long ∙ sym many-wallets)
      (ap (is_same wallet) (at-wallet place d wallet at.within) ∙ at.here d)
      ∙ of 0 (omega (arith, at.within, ins.wallets_long))

  wallets-number : (number : ℕ) (addresses : List Address) (places : List ℕ) → ArePlacesOf (λ (a : Address). cell_place a bank.wallets) addresses places
      → All (IsWalletOf of_wallets number) places → (wallet : Address) → list_any (is_same wallet) addresses ≡ true → groups.wallet wallet ≡ number
  wallets-number number [] places at of wallet among = absurd (false≢true among)
  wallets-number number (first ∷ others) [] at of wallet among = absurd at
  wallets-number number (first ∷ others) (place ∷ places) at of wallet among =
      ⊎_elim
      (λ (same : is_same wallet first ≡ true).
      wallet-number number wallet place (ap (λ (a : Address). cell_place a bank.wallets) (is_same-true wallet first same) ∙ at.0)
      (All-head (IsWalletOf of_wallets number) place places of))
      (λ (behind : list_any (is_same wallet) others ≡ true). wallets-number number others places at.1 (All-tail (IsWalletOf of_wallets number) place places of) wallet behind)
      (or_cases (is_same wallet first) (list_any (is_same wallet) others) among)

  -- a row's market is of its group, and so are its wallets
  abbrev pub IsRowOf : ℕ → PlainRow → Type 0
  IsRowOf number row = (groups.market row.market ≡ number) × IsOfOneShard groups row

  row-of : (row : PlainRow) (places : RowPlaces) (number : ℕ) → ArePlacesIn bank row places → IsOfGroup of_markets of_wallets places number → IsRowOf number row
  row-of row places number at of = (
    market,
    (λ wallet named. wallets-number number (row_wallets row) places.wallets.places at.wallets.places of.named wallet named ∙ sym market),
  )
    where
      market : groups.market row.market ≡ number
      market =
          let d : MarketCellState = item_at bank.markets places.market at.market.within in
          number-there (market_addresses world.markets) of_markets row.market places.market 0 row.market ins.apart.markets (omega (arith, at.market.within, many-markets))
          (ins.markets_long ∙ sym many-markets) (ap (is_same row.market) (at-market places.market d row.market at.market.within) ∙ at.market.here d)
          ∙ of.market 0

  pub rows-of : (rows : List PlainRow) (places : List RowPlaces) (numbers : List ℕ) → AllZip (ArePlacesIn bank) rows places
      → AllZip (IsOfGroup of_markets of_wallets) places numbers → AllZip IsRowOf numbers rows
  rows-of [] [] [] at of = tt
  rows-of (row ∷ rows) (p ∷ places) (n ∷ numbers) at of = (row-of row p n at.0 of.0, rows-of rows places numbers at.1 of.1)
  rows-of [] [] (n ∷ numbers) at of = absurd of
  rows-of (row ∷ rows) (p ∷ places) [] at of = absurd of
  rows-of _ _ numbers at of = absurd at

  -- ---- the parts of its world

  abbrev market_key : MarketState → ℕ
  market_key state = groups.market state.market.listing.address

  abbrev wallet_key : WalletState → ℕ
  wallet_key state = groups.wallet state.seen.address

  module _ (later : World) (same_markets : market_addresses later.markets ≡ market_addresses world.markets)
      (same_wallets : wallet_addresses later.wallets ≡ wallet_addresses world.wallets) where
    pub market-keys : map market_key later.markets ≡ of_markets
    market-keys =
        sym (map-map (λ (state : MarketState). state.market.listing.address) groups.market later.markets)
        ∙ ap (map groups.market) same_markets
        ∙ numbers-there (market_addresses world.markets) of_markets ins.apart.markets (ins.markets_long ∙ sym many-markets)

    pub wallet-keys : map wallet_key later.wallets ≡ of_wallets
    wallet-keys =
        sym (map-map (λ (state : WalletState). state.seen.address) groups.wallet later.wallets)
        ∙ ap (map groups.wallet) same_wallets
        ∙ numbers-there (wallet_addresses world.wallets) of_wallets ins.apart.wallets (ins.wallets_long ∙ sym many-wallets)

    pub markets-part : (number : ℕ) → part of_markets number later.markets ≡ (world_in groups number later).markets
    markets-part number = ap (λ (ns : List ℕ). part ns number later.markets) (sym market-keys) ∙ part-filter market_key number later.markets

    pub wallets-part : (number : ℕ) → part of_wallets number later.wallets ≡ (world_in groups number later).wallets
    wallets-part number = ap (λ (ns : List ℕ). part ns number later.wallets) (sym wallet-keys) ∙ part-filter wallet_key number later.wallets
