-- What a run of all rows of a script leaves is lawful.
use Rattle.std.proofs.Common.{◌≡◌, ℕ, ◌==◌, Bool, true, List, [], ◌∷◌, get_or, map, sym, ap, ◌∙◌, subst}
use Rattle.dex_world.proofs.Common.{Address, All-filter, All-weaker, AllZip, Call, Contains, EachTwo, Entry, MarketState, Movement, PlainAccount, PlainMarketAccounts, PlainRow, Reply, WalletEntry, WalletState, World, asked_of, filter, flat_map, is_same, members, names, rows_of_lane, wallet_entry_of}
use Rattle.dex_replay.proofs.Common.{All, AllThree, IsAllOrNone, IsLawful, IsLawfulMarket, IsLawfulWallet, IsLeftBy, IsRowOf, IsScript, Item, KeepsLanes, Origin, PlainMarketJournal, PlainOutcome, PlainScript, PlainWalletJournal, StandsFor, front, has_market, is_answered, origin_of_entry, origin_of_row, start_world, with_amount, with_amounts, world_after}
use Rattle.dex_replay.specs.Lawful.{AreTold, IsTold}
use Rattle.dex_replay.proofs.AllOrNone.{journal-says, settled-told, told-once}
use Rattle.dex_replay.proofs.Items.{HaveAllRun, IsSettled, items-run, row_told}
use Rattle.dex_replay.proofs.MappedLists.{All-across, All-unmap, Any-across, both-same, filter-across, filter-of, filter-swap, head-same, map-map, tail-same, zip-map}
use Rattle.dex_replay.proofs.Orders.{OnApart, order-apart, order-each, order-items, order-lanes}
use Rattle.dex_replay.proofs.RunSteps.{addresses-kept, history-address, start-run}
use Rattle.dex_replay.proofs.Runs.{AllStandIn, IsHistory, IsMoved, IsRun, StandsIn, RowReply, naming, on, origin_of, said, said_of}

-- ---- rows lane by lane

-- what is recorded of a part of the rows, lane by lane, where the rows are the script's lane by lane
lane-told : (script : PlainScript) (all : List RowReply) (test : PlainRow → Bool) (lane : ℕ)
    → ((number : ℕ) → rows_of_lane number (map row_told all) ≡ rows_of_lane number script.rows)
    → map row_told (filter (λ (told : RowReply). told.row.lane == lane) (filter (λ (told : RowReply). test told.row) all))
    ≡ filter (λ (row : PlainRow). row.lane == lane) (filter test script.rows)
lane-told script all test lane lanes =
    filter-of row_told (λ (row : PlainRow). row.lane == lane) (filter (λ (told : RowReply). test told.row) all)
    ∙ ap (rows_of_lane lane) (filter-of row_told test all)
    ∙ filter-swap (λ (row : PlainRow). row.lane == lane) test (map row_told all)
    ∙ ap (filter test) (lanes lane)
    ∙ filter-swap test (λ (row : PlainRow). row.lane == lane) script.rows

-- ---- a market, and a wallet

module _ (script : PlainScript) (all : List RowReply) (lanes : (number : ℕ) → rows_of_lane number (map row_told all) ≡ rows_of_lane number script.rows) where
  lawful-market : (first last : PlainMarketAccounts) (journal : PlainMarketJournal) (state : MarketState) → IsHistory script all first state → StandsFor last state.market
      → journal.entries ≡ state.entries → IsLawfulMarket script first last journal
  lawful-market first last journal state is stands same = record {
    calls = is.calls;
    entries = same ∙ is.entries;
    legal = is.legal;
    stands = subst (StandsFor last) is.end_is stands;
    rows = λ lane.
        let in_lane : RowReply → Bool = λ (told : RowReply). told.row.lane == lane in
        let some : List RowReply = on first.address all in
        sym (map-map said (λ sign. sign.0) (filter (λ (call : Call). call.asked.lane == lane) is.calls))
        ∙ ap (map (λ sign. sign.0)) (filter-across said said_of (λ sign. sign.0.lane == lane) is.calls some is.said)
        ∙ map-map said_of (λ sign. sign.0) (filter in_lane some)
        ∙ sym (map-map row_told asked_of (filter in_lane some))
        ∙ ap (map asked_of) (lane-told script all (λ (row : PlainRow). is_same row.market first.address) lane lanes);
    sees = is.sees;
  }

  lawful-wallet : (first : PlainAccount) (journal : PlainWalletJournal) (state : WalletState) → IsMoved all first state → journal.entries ≡ state.entries
      → IsLawfulWallet script first (record first { bytes = with_amount first.bytes state.seen.balance }) journal
  lawful-wallet first journal state is same =
      subst (λ (entries : List WalletEntry). IsLawfulWallet script first (record first { bytes = with_amount first.bytes state.seen.balance }) (record journal { entries = entries })) (sym same)
      (record {
        legal = is.legal;
        account = ap (λ (n : ℕ). record first { bytes = with_amount first.bytes n }) is.balance;
        rows = λ lane.
            let in_lane : RowReply → Bool = λ (told : RowReply). told.row.lane == lane in
            let some : List RowReply = naming first.address all in
            filter-across origin_of_entry origin_of (λ (origin : Origin). origin.lane == lane) state.entries some is.origins
            ∙ sym (map-map row_told origin_of_row (filter in_lane some))
            ∙ ap (map origin_of_row) (lane-told script all (λ (row : PlainRow). names row first.address) lane lanes);
      })

  all-markets : (firsts lasts : List PlainMarketAccounts) (journals : List PlainMarketJournal) (states : List MarketState) → AllZip (IsHistory script all) firsts states
      → AllZip (λ (accounts : PlainMarketAccounts) (state : MarketState). StandsFor accounts state.market) lasts states
      → map (λ (journal : PlainMarketJournal). journal.entries) journals ≡ map (λ (state : MarketState). state.entries) states
      → AllThree (IsLawfulMarket script) firsts lasts journals
  all-markets [] [] [] [] are stand same = tt
  all-markets (first ∷ firsts) (last ∷ lasts) (journal ∷ journals) (state ∷ states) are stand same = (
    lawful-market first last journal state are.0 stand.0 (head-same same),
    all-markets firsts lasts journals states are.1 stand.1 (tail-same same),
  )
  all-markets firsts [] journals (state ∷ states) are stand same = absurd stand
  all-markets firsts (last ∷ lasts) journals [] are stand same = absurd stand
  all-markets firsts lasts [] (state ∷ states) are stand same = absurd (cc)
  all-markets firsts lasts (journal ∷ journals) [] are stand same = absurd (cc)
  all-markets _ lasts journals _ are stand same = absurd are

  all-wallets : (firsts : List PlainAccount) (journals : List PlainWalletJournal) (states : List WalletState) → AllZip (IsMoved all) firsts states
      → map (λ (journal : PlainWalletJournal). journal.entries) journals ≡ map (λ (state : WalletState). state.entries) states
      → AllThree (IsLawfulWallet script) firsts (with_amounts firsts states) journals
  all-wallets [] [] [] are same = tt
  all-wallets (first ∷ firsts) (journal ∷ journals) (state ∷ states) are same =
      (lawful-wallet first journal state are.0 (head-same same), all-wallets firsts journals states are.1 (tail-same same))
  all-wallets firsts [] (state ∷ states) are same = absurd (cc)
  all-wallets firsts (journal ∷ journals) [] are same = absurd (cc)
  all-wallets _ journals _ are same = absurd are

-- ---- all of it

module _ (script : PlainScript) (is : IsScript script) (order : List Item) (lanes : KeepsLanes script order) where
  all-run : HaveAllRun script order [] (start_world script)
  all-run = items-run script is.start order [] (start_world script) (order-items script is.rows order lanes) (start-run script)

  -- the rows, and what is recorded of them
  pub told : List RowReply
  told = all-run.told

  pub order-run : IsRun script told (world_after script order)
  unfolding told
  order-run = all-run.run

  rows-told : map row_told told ≡ flat_map members order
  unfolding told
  rows-told = all-run.rows

  each-settled : All (IsSettled told) order
  unfolding told
  each-settled = all-run.settled

  module _ (outcome : PlainOutcome) (left : IsLeftBy script order outcome) where
    abbrev world : World
    world = world_after script order

    -- an entry's movements stand in the wallets' journals, as they stand in the wallets
    abbrev InWallet : Address × List WalletEntry → Address → Entry → Movement → Type 0
    InWallet wallet market entry move = (wallet.0 ≡ move.wallet) × Contains wallet.1 (wallet_entry_of market entry move)

    wallets-alike : map {B = Address × List WalletEntry} (λ (state : WalletState). (state.seen.address, state.entries)) world.wallets
        ≡ map (λ (journal : PlainWalletJournal). (journal.address, journal.entries)) outcome.wallets
    wallets-alike =
        both-same (λ (state : WalletState). state.seen.address) (λ (journal : PlainWalletJournal). journal.address) (λ (state : WalletState). state.entries)
        (λ (journal : PlainWalletJournal). journal.entries) world.wallets outcome.wallets
        (addresses-kept script is.start told world order-run ∙ sym left.start.wallet_journals) (sym left.wallets)

    markets-alike : map {B = Address × List Entry} (λ (state : MarketState). (state.market.listing.address, state.entries)) world.markets
        ≡ map (λ (journal : PlainMarketJournal). (journal.address, journal.entries)) outcome.markets
    markets-alike =
        both-same (λ (state : MarketState). state.market.listing.address) (λ (journal : PlainMarketJournal). journal.address) (λ (state : MarketState). state.entries)
        (λ (journal : PlainMarketJournal). journal.entries) world.markets outcome.markets
        (zip-map (IsHistory script told) (λ (first : PlainMarketAccounts). first.address) (λ (state : MarketState). state.market.listing.address) (history-address script told)
        script.start.markets world.markets order-run.markets ∙ sym left.start.market_journals) (sym left.markets)

    told-of : (market : Address) (entry : Entry) (move : Movement) → StandsIn world.wallets market entry move → IsTold outcome.wallets market entry move
    told-of market entry move stands =
        Any-across (λ wallet. InWallet wallet market entry move) (λ (state : WalletState). (state.seen.address, state.entries))
        (λ (journal : PlainWalletJournal). (journal.address, journal.entries)) world.wallets outcome.wallets wallets-alike stands

    all-told : All (AreTold outcome.wallets) outcome.markets
    all-told =
        All-across (λ market. All (λ (entry : Entry). All (IsTold outcome.wallets market.0 entry) (front entry.moves)) market.1)
        (λ (journal : PlainMarketJournal). (journal.address, journal.entries)) (λ (state : MarketState). (state.market.listing.address, state.entries))
        outcome.markets world.markets (sym markets-alike)
        (All-weaker (AllStandIn world.wallets) (λ (state : MarketState). All (λ (entry : Entry). All (IsTold outcome.wallets state.market.listing.address entry) (front entry.moves)) state.entries)
        (λ state stand k d within. All-weaker (StandsIn world.wallets state.market.listing.address (get_or state.entries k d)) (IsTold outcome.wallets state.market.listing.address (get_or state.entries k d))
        (told-of state.market.listing.address (get_or state.entries k d)) (front (get_or state.entries k d).moves) (stand k d within)) world.markets order-run.stand)

    -- each row's reply is in its market's journal
    answered : (test : Reply → Bool) → All (λ (one : RowReply). is_answered test outcome.markets one.row ≡ test one.reply) told
    answered test k d within =
        let known : All (λ (row : PlainRow). has_market row.market script.start.markets ≡ true) (map row_told told) =
        subst (All (λ (row : PlainRow). has_market row.market script.start.markets ≡ true)) (sym rows-told)
        (order-each script is.rows order lanes (λ (row : PlainRow). has_market row.market script.start.markets ≡ true)
        (All-weaker (IsRowOf script.start) (λ (row : PlainRow). has_market row.market script.start.markets ≡ true) (λ row fits. fits.market) script.rows is.rows.each)) in
        journal-says script told test (get_or told k d) script.start.markets world.markets outcome.markets order-run.markets left.start.market_journals left.markets
        (All-unmap (λ (row : PlainRow). has_market row.market script.start.markets ≡ true) row_told told known k d within)
        ∙ told-once test told (subst (EachTwo OnApart) (sym rows-told) (order-apart script is.rows order lanes)) k d within

    rows-kept : (lane : ℕ) → rows_of_lane lane (map row_told told) ≡ rows_of_lane lane script.rows
    rows-kept lane = ap (rows_of_lane lane) rows-told ∙ order-lanes script is.rows order lanes lane

    pub is-lawful : IsLawful script outcome
    is-lawful = record {
      start = left.start;
      markets = all-markets script told rows-kept script.start.markets outcome.accounts.markets outcome.markets world.markets order-run.markets left.stand left.markets;
      wallets = subst (λ (lasts : List PlainAccount). AllThree (IsLawfulWallet script) script.start.wallets lasts outcome.wallets) (sym left.amounts)
          (all-wallets script told rows-kept script.start.wallets outcome.wallets world.wallets order-run.wallets left.wallets);
      told = all-told;
      items = λ lane. subst (All (IsAllOrNone outcome.markets)) (lanes lane)
          (All-filter (λ (item : Item). item.first.lane == lane) (IsAllOrNone outcome.markets) order
          (All-weaker (IsSettled told) (IsAllOrNone outcome.markets) (settled-told told outcome.markets answered) order each-settled));
    }
