-- One row more leaves a run of rows with that row.
use Rattle.std.proofs.Common.{◌≡◌, ℕ, ◌≤◌, Bool, true, false, ◌||◌, cond, List, [], ◌∷◌, ◌++◌, map, get_or, Option, Some, refl, sym, ap, ◌∙◌, subst, arith}
use Rattle.dex_world.proofs.Common.{Address, All-cons, All-head, All-map, All-nil, All-push, All-tail, All-weaker, AllZip, Asked, Call, CanMove, Contains, Contains-append_left, Entry, IsSound, Listing, Market, MarketState, Movement, PlainAccount, PlainMarketAccounts, PlainRow, Reply, Seen, Sees, Stands, Step, Transfers, WalletEntry, WalletState, World, act, acted, asked_of, balance_after-append, balance_seen, brought_to, cond-false, cond-true, cond_both, done, entry_by, false≢true, is_same, is_same-refl, is_same-true, list_any, list_any_at, map_push, market_acted, market_after, market_after-one, markets_acted, moved_balance, movement_of, names, places-movements, request_of, row_step, row_wallets, seen-wallets, seen_by, seen_wallets, step-keeps, sum_by-cons, taken_from, wallet-movement_by, wallet_acted, wallet_entry_by, wallet_entry_of, wallet_moved}
use Rattle.dex_replay.proofs.Common.{All, AreSound, IsRowOf, IsSight, IsStart, Origin, PlainScript, address_of, balance_of, front, has_market, market_at, market_in, market_state, origin_of_entry, origin_of_row, start_world, times, wallet_state}
use Rattle.std.proofs.lemmas.List.Elements.{Contains-push}
use Rattle.std.proofs.lemmas.List.Folds.{Any-from_list_any}
use Rattle.dex_history.proofs.HistoryLaws.{IsLegal-one, IsWalletLegal-one}
use Rattle.dex_history.proofs.PriceLaws.{calls-sound}
use Rattle.dex_history.proofs.StepMints.{row-of}
use Rattle.dex_history.proofs.StepMoves.{row-moves}
use Rattle.dex_replay.proofs.LastAccounts.{listing-in, market_after-listing}
use Rattle.dex_replay.proofs.MappedLists.{Any-map, filter-push_no, filter-push_yes, zip-map}
use Rattle.dex_replay.proofs.Holdings.{CanMoveIt, markets-hold, wallets-hold}
use Rattle.dex_replay.proofs.Runs.{AllStandIn, IsHistory, IsMoved, IsRun, StandIn, StandsIn, RowReply, naming, on, origin_of, row-sees, row-sight, said, said_of, still-there}
use Rattle.dex_replay.proofs.Sights.{AreOnce, address_in, before-movement, sees-balances}
use Rattle.dex_script_types.proofs.Roles.{roles-all}
use Rattle.dex_replay.proofs.Doing.{Does, doing, made}
use Rattle.dex_script_types.proofs.Apart.{AreDistinct, market-once, wallet-once, wallets-distinct}

-- a market at the end of its calls is sound
pub history-sound : (script : PlainScript) (done : List RowReply) (first : PlainMarketAccounts) (state : MarketState) → AreSound first → IsHistory script done first state
    → IsSound state.market
history-sound script done first state sound is = subst IsSound (sym is.end_is) (calls-sound is.calls (market_in first) sound.sound is.legal)

pub history-address : (script : PlainScript) (done : List RowReply) (first : PlainMarketAccounts) (state : MarketState) → IsHistory script done first state
    → state.market.listing.address ≡ first.address
history-address script done first state is =
    ap (λ (m : Market). m.listing.address) is.end_is
    ∙ ap (λ (listing : Listing). listing.address) (market_after-listing is.calls (market_in first))
    ∙ ap (λ (listing : Listing). listing.address) (listing-in first)

-- a market of the start is found, and is sound
found-in : (script : PlainScript) (done : List RowReply) (address : Address) (firsts : List PlainMarketAccounts) (states : List MarketState)
    → AllZip (IsHistory script done) firsts states → All AreSound firsts → has_market address firsts ≡ true
    → (m : Market) × (market_at address states ≡ Some m) × IsSound m
found-in script done address [] [] are sound known = absurd (false≢true known)
found-in script done address (first ∷ firsts) (state ∷ states) are sound known =
    let here : is_same address state.market.listing.address ≡ is_same address first.address = ap (is_same address) (history-address script done first state are.0) in
    cond_both (is_same address state.market.listing.address) (Some state.market) (market_at address states)
    (λ (one : Option Market). (m : Market) × (one ≡ Some m) × IsSound m)
    (λ same. (state.market, refl, history-sound script done first state (All-head AreSound first firsts sound) are.0))
    (λ apart.
    found-in script done address firsts states are.1 (All-tail AreSound first firsts sound)
    (sym (ap (λ (b : Bool). b || has_market address firsts) (sym here ∙ apart)) ∙ known))
found-in script done address _ _ are sound known = absurd are

-- ---- markets

module _ (script : PlainScript) (done : List RowReply) (row : PlainRow) (bytes : List ℕ) (seen : Seen) (m : Market) (sees : Sees (asked_of row) seen)
    (sight : IsSight script seen) (does : Does row bytes seen m) where
  abbrev new : RowReply
  new = record { row = row; reply = (row_step (doing row bytes) seen m).reply }

  -- a row of another market leaves a history
  idle : (first : PlainMarketAccounts) (state : MarketState) → is_same row.market first.address ≡ false → IsHistory script done first state
      → IsHistory script (done ++ new ∷ []) first state
  idle first state apart is = record {
    calls = is.calls;
    entries = is.entries;
    legal = is.legal;
    end_is = is.end_is;
    said = is.said ∙ sym (ap (map said_of) (filter-push_no (λ (one : RowReply). is_same one.row.market first.address) done new apart));
    sees = is.sees;
  }

  -- and one of this market makes it longer by a call
  acts : (first : PlainMarketAccounts) (state : MarketState) → is_same row.market first.address ≡ true → m ≡ state.market → IsHistory script done first state
      → IsHistory script (done ++ new ∷ []) first (market_acted (doing row bytes) seen state)
  acts first state same here is =
      let call : Call = made row bytes seen state.market in
      let it : Does row bytes seen state.market = subst (Does row bytes seen) here does in
      let own : row.market ≡ state.market.listing.address = is_same-true row.market first.address same ∙ sym (history-address script done first state is) in
      let stands : Stands call state.market = it.stands own sees in
      record {
        calls = is.calls ++ call ∷ [];
        entries = ap (λ (entries : List Entry). entries ++ call.entry ∷ []) is.entries ∙ sym (map_push (λ (one : Call). one.entry) is.calls call);
        legal = (IsLegal-one is.calls call (market_in first)).1 (is.legal, subst (λ (one : Market). Stands call one) is.end_is stands);
        end_is = ap (λ (one : Market). (row_step (doing row bytes) seen one).market) is.end_is
            ∙ sym (ap (λ (s : Step). s.market) (it.step (market_after (market_in first) is.calls)))
            ∙ sym (market_after-one is.calls call (market_in first));
        said = map_push said is.calls call
            ∙ ap (λ (all : List (Asked × Reply)). all ++ said call ∷ []) is.said
            ∙ ap (λ (one : Market). map said_of (on first.address done) ++ (asked_of row, (row_step (doing row bytes) seen one).reply) ∷ []) (sym here)
            ∙ sym (map_push said_of (on first.address done) new)
            ∙ sym (ap (map said_of) (filter-push_yes (λ (one : RowReply). is_same one.row.market first.address) done new same));
        sees = All-push (λ (one : Call). IsSight script one.seen) is.calls call is.sees sight;
      }

  all-idle : (firsts : List PlainMarketAccounts) (states : List MarketState) → AllZip (IsHistory script done) firsts states
      → times row.market (map (λ (accounts : PlainMarketAccounts). accounts.address) firsts) ≤ 0 → AllZip (IsHistory script (done ++ new ∷ [])) firsts states
  all-idle [] [] are none = tt
  all-idle (first ∷ firsts) (state ∷ states) are none =
      let one : Address → ℕ = λ (a : Address). cond (is_same row.market a) 1 0 in
      let sum = sum_by-cons one first.address (map (λ (accounts : PlainMarketAccounts). accounts.address) firsts) in
      (idle first state (no (is_same row.market first.address) (omega (arith, none, sum))) are.0, all-idle firsts states are.1 (omega (arith, none, sum)))
    where
      no : (b : Bool) → cond b 1 0 ≤ 0 → b ≡ false
      no b none = grind arith
  all-idle _ _ are none = absurd are

  pub markets-run : (firsts : List PlainMarketAccounts) (states : List MarketState) → AllZip (IsHistory script done) firsts states
      → times row.market (map (λ (accounts : PlainMarketAccounts). accounts.address) firsts) ≤ 1 → market_at row.market states ≡ Some m
      → AllZip (IsHistory script (done ++ new ∷ [])) firsts (markets_acted (doing row bytes) seen states)
  markets-run [] [] are once at = tt
  markets-run (first ∷ firsts) (state ∷ states) are once at =
      let one : Address → ℕ = λ (a : Address). cond (is_same row.market a) 1 0 in
      let sum = sum_by-cons one first.address (map (λ (accounts : PlainMarketAccounts). accounts.address) firsts) in
      let here : is_same row.market state.market.listing.address ≡ is_same row.market first.address =
      ap (λ (a : Address). is_same row.market a) (history-address script done first state are.0) in
      cond_both (is_same row.market state.market.listing.address) (market_acted (doing row bytes) seen state ∷ states) (state ∷ markets_acted (doing row bytes) seen states)
      (λ (all : List MarketState). AllZip (IsHistory script (done ++ new ∷ [])) (first ∷ firsts) all)
      (λ same.
      let counted : ◌≡◌ {A = ℕ} (cond (is_same row.market first.address) 1 0) 1 = ap (λ (b : Bool). cond b 1 0) (sym here ∙ same) in
      let it : Some state.market ≡ Some m =
      sym (cond-true (is_same row.market state.market.listing.address) (Some state.market) (market_at row.market states) same) ∙ at in
      let own : m ≡ state.market = cc in
      (acts first state (sym here ∙ same) own are.0, all-idle firsts states are.1 (omega (arith, once, sum, counted))))
      (λ apart. (
        idle first state (sym here ∙ apart) are.0,
        markets-run firsts states are.1 (omega (arith, once, sum))
            (sym (cond-false (is_same row.market state.market.listing.address) (Some state.market) (market_at row.market states) apart) ∙ at),
      ))
  markets-run _ _ are once at = absurd are

  -- ---- wallets

  -- the balance that the row saw of a wallet is the wallet's, and its movement is possible there
  abbrev FitsIn : Transfers → WalletState → Type 0
  FitsIn t state = (names row state.seen.address ≡ true → balance_seen seen state.seen.address ≡ state.seen.balance) × CanMoveIt row seen t state

  wallet-run : (t : Transfers) (first : PlainAccount) (state : WalletState) → FitsIn t state → IsMoved done first state
      → IsMoved (done ++ new ∷ []) first (wallet_acted row seen t state)
  wallet-run t first state can is =
      let move : Movement = movement_of seen t state.seen.address in
      let entry : WalletEntry = wallet_entry_by row move in
      let here : names row state.seen.address ≡ names row first.address = ap (λ (a : Address). names row a) is.address in
      cond_both (names row state.seen.address) (wallet_moved row move state) state (IsMoved (done ++ new ∷ []) first)
      (λ named.
      let at : move.before ≡ state.seen.balance = before-movement seen t state.seen.address ∙ can.0 named in
      record {
        address = is.address;
        mint = is.mint;
        owner = is.owner;
        legal = IsWalletLegal-one state.entries entry (balance_of first.bytes) is.legal (at ∙ is.balance)
            (subst (CanMove move.kind move.amount) (sym at) (can.1 named));
        balance = ap (moved_balance move.kind move.amount) is.balance ∙ sym (balance_after-append state.entries (entry ∷ []) (balance_of first.bytes));
        origins = map_push origin_of_entry state.entries entry
            ∙ ap (λ (origins : List Origin). origins ++ origin_of_row row ∷ []) is.origins
            ∙ sym (map_push origin_of (naming first.address done) new)
            ∙ sym (ap (map origin_of) (filter-push_yes (λ (one : RowReply). names one.row first.address) done new (sym here ∙ named)));
      })
      (λ apart. record {
        address = is.address;
        mint = is.mint;
        owner = is.owner;
        legal = is.legal;
        balance = is.balance;
        origins = is.origins ∙ sym (ap (map origin_of) (filter-push_no (λ (one : RowReply). names one.row first.address) done new (sym here ∙ apart)));
      })

  pub wallets-run : (t : Transfers) (firsts : List PlainAccount) (states : List WalletState) → AllZip (IsMoved done) firsts states → All (FitsIn t) states
      → AllZip (IsMoved (done ++ new ∷ [])) firsts (map (wallet_acted row seen t) states)
  wallets-run t [] [] are can = tt
  wallets-run t (first ∷ firsts) (state ∷ states) are can = (
    wallet-run t first state (All-head (FitsIn t) state states can) are.0,
    wallets-run t firsts states are.1 (All-tail (FitsIn t) state states can),
  )
  wallets-run t _ _ are can = absurd are

-- ---- movements

module _ (row : PlainRow) (seen : Seen) (t : Transfers) (wallets : List WalletState) where
  abbrev after : List WalletState
  after = map (wallet_acted row seen t) wallets

  -- what stands in a journal still does
  abbrev Has : Address → WalletEntry → WalletState → Type 0
  Has wallet entry state = (state.seen.address ≡ wallet) × Contains state.entries entry

  stands-still : (market : Address) (entry : Entry) (move : Movement) → StandsIn wallets market entry move → StandsIn after market entry move
  stands-still market entry move stands =
      let told : WalletEntry = wallet_entry_of market entry move in
      Any-map (Has move.wallet told) (Has move.wallet told) (wallet_acted row seen t)
      (λ state has.
      let moved : WalletEntry = wallet_entry_by row (movement_of seen t state.seen.address) in
      cond_both (names row state.seen.address) (wallet_moved row (movement_of seen t state.seen.address) state) state (Has move.wallet told)
      (λ named. (has.0, Contains-append_left state.entries (moved ∷ []) told has.1))
      (λ apart. has))
      wallets stands

  stand-still : (market : Address) (entry : Entry) → StandIn wallets market entry → StandIn after market entry
  stand-still market entry stand = All-weaker (StandsIn wallets market entry) (StandsIn after market entry) (stands-still market entry) (front entry.moves) stand

  -- a movement of the row stands in the journal of its wallet
  stands-new : (reply : Reply) (address : Address) → list_any (λ (state : WalletState). is_same address state.seen.address) wallets ≡ true
      → names row address ≡ true → StandsIn after row.market (entry_by row seen reply t) (movement_of seen t address)
  stands-new reply address known named =
      let told : WalletEntry = wallet_entry_by row (movement_of seen t address) in
      Any-map (λ (state : WalletState). is_same address state.seen.address ≡ true) (Has (movement_of seen t address).wallet told) (wallet_acted row seen t)
      (λ state same.
      let is : address ≡ state.seen.address = is_same-true address state.seen.address same in
      let also : names row state.seen.address ≡ true = ap (λ (a : Address). names row a) (sym is) ∙ named in
      let moved : WalletState = wallet_moved row (movement_of seen t state.seen.address) state in
      subst (Has (movement_of seen t address).wallet told) (sym (cond-true (names row state.seen.address) moved state also)) (
        sym is ∙ sym (wallet-movement_by address (balance_seen seen address) (taken_from seen t address) (brought_to seen t address)),
        subst (λ (a : Address). Contains moved.entries (wallet_entry_by row (movement_of seen t a))) (sym is)
            (Contains-push state.entries (wallet_entry_by row (movement_of seen t state.seen.address))),
      ))
      wallets (Any-from_list_any (λ (state : WalletState). is_same address state.seen.address) wallets known)

  stand-new : (reply : Reply) → Sees (asked_of row) seen
      → All (λ (address : Address). list_any (λ (state : WalletState). is_same address state.seen.address) wallets ≡ true) (row_wallets row)
      → StandIn after row.market (entry_by row seen reply t)
  stand-new reply sees known =
      let each : All (λ (address : Address). StandsIn after row.market (entry_by row seen reply t) (movement_of seen t address)) (row_wallets row) =
      λ k d within. stands-new reply (get_or (row_wallets row) k d) (known k d within)
      (list_any_at (is_same (get_or (row_wallets row) k d)) (row_wallets row) k d within (is_same-refl (get_or (row_wallets row) k d))) in
      subst (λ (moves : List Movement). All (StandsIn after row.market (entry_by row seen reply t)) moves) (sym (places-movements seen t))
      (All-map (StandsIn after row.market (entry_by row seen reply t)) (movement_of seen t) (seen_wallets seen)
      (subst (λ (addresses : List Address). All (λ (address : Address). StandsIn after row.market (entry_by row seen reply t) (movement_of seen t address)) addresses)
      (sym (seen-wallets row seen sees)) each))

module _ (row : PlainRow) (seen : Seen) (m : Market) (wallets : List WalletState) (sees : Sees (asked_of row) seen)
    (known : All (λ (address : Address). list_any (λ (state : WalletState). is_same address state.seen.address) wallets ≡ true) (row_wallets row)) where
  abbrev later : List WalletState
  later = map (wallet_acted row seen (row_step row seen m).transfers) wallets

  still : (state : MarketState) → AllStandIn wallets state → AllStandIn later state
  still state all =
      All-weaker (StandIn wallets state.market.listing.address) (StandIn later state.market.listing.address)
      (stand-still row seen (row_step row seen m).transfers wallets state.market.listing.address) state.entries all

  grown : (state : MarketState) → is_same row.market state.market.listing.address ≡ true → state.market ≡ m → AllStandIn wallets state
      → AllStandIn later (market_acted row seen state)
  grown state same own all =
      let entry_on : Market → Entry = λ (market : Market). let s = row_step row seen market in entry_by row seen s.reply s.transfers in
      let new : StandIn later row.market (entry_on m) = stand-new row seen (row_step row seen m).transfers wallets (row_step row seen m).reply sees known in
      let here : StandIn later state.market.listing.address (entry_on state.market) =
      subst (λ (address : Address). StandIn later address (entry_on state.market)) (is_same-true row.market state.market.listing.address same)
      (subst (λ (market : Market). StandIn later row.market (entry_on market)) (sym own) new) in
      let stays : (row_step row seen state.market).market.listing.address ≡ state.market.listing.address =
      ap (λ (listing : Listing). listing.address) (step-keeps (request_of row) seen state.market).listing in
      subst (λ (address : Address). All (StandIn later address) (state.entries ++ entry_on state.market ∷ [])) (sym stays)
      (All-push (StandIn later state.market.listing.address) state.entries (entry_on state.market) (still state all) here)

  pub stand-run : (states : List MarketState) → market_at row.market states ≡ Some m → All (AllStandIn wallets) states
      → All (AllStandIn later) (markets_acted row seen states)
  stand-run [] at all = absurd cc
  stand-run (state ∷ states) at all =
      let head = All-head (AllStandIn wallets) state states all in
      let tail = All-tail (AllStandIn wallets) state states all in
      cond_both (is_same row.market state.market.listing.address) (market_acted row seen state ∷ states) (state ∷ markets_acted row seen states) (All (AllStandIn later))
      (λ same.
      let first : Some state.market ≡ Some m =
      sym (cond-true (is_same row.market state.market.listing.address) (Some state.market) (market_at row.market states) same) ∙ at in
      let own : state.market ≡ m = cc in
      All-cons (AllStandIn later) (market_acted row seen state) states (grown state same own head) (All-weaker (AllStandIn wallets) (AllStandIn later) still states tail))
      (λ apart.
      let rest : market_at row.market states ≡ Some m =
      sym (cond-false (is_same row.market state.market.listing.address) (Some state.market) (market_at row.market states) apart) ∙ at in
      All-cons (AllStandIn later) state (markets_acted row seen states) (still state head) (stand-run states rest tail))

-- ---- the world

module _ (script : PlainScript) (start : IsStart script.limits script.start) (done : List RowReply) (world : World) (run : IsRun script done world) where
  -- wallets have their addresses, and none stands twice
  pub addresses-kept : map address_in world.wallets ≡ map address_of script.start.wallets
  addresses-kept = zip-map (IsMoved done) address_of address_in (λ first state is. is.address) script.start.wallets world.wallets run.wallets

  states-once : AreOnce world.wallets
  states-once address =
      subst (λ (all : List Address). times address all ≤ 1) (sym addresses-kept)
      (wallet-once script.start address (start.accepted.once address))

  module _ (row : PlainRow) (fits : IsRowOf script.start row) where
    -- the row's market, and what it sees
    pub found-market : (m : Market) × (market_at row.market world.markets ≡ Some m) × IsSound m
    found-market = found-in script done row.market script.start.markets world.markets run.markets start.sound fits.market

    abbrev seen : Seen
    seen = seen_by row world

    pub act-run : (bytes : List ℕ) (m : Market) → market_at row.market world.markets ≡ Some m → IsSound m → Does row bytes seen m
        → IsRun script (done ++ record { row = row; reply = (row_step (doing row bytes) seen m).reply } ∷ []) (act (doing row bytes) world)
    act-run bytes m at sound does =
        let sees : Sees (asked_of row) seen = row-sees script done world run row fits row.bytes in
        let sight : IsSight script seen = row-sight script done world run row in
        let own : Sees (asked_of (doing row bytes)) seen = row-sees script done world run row fits bytes in
        let t : Transfers = (row_step (doing row bytes) seen m).transfers in
        let known : All (λ (address : Address). list_any (λ (state : WalletState). is_same address state.seen.address) world.wallets ≡ true) (row_wallets row) =
        roles-all (λ (address : Address). list_any (λ (state : WalletState). is_same address state.seen.address) world.wallets ≡ true) script.start
        (λ address has. still-there script done address script.start.wallets world.wallets run.wallets ∙ has) row fits in
        let balance = sees-balances row world (subst AreDistinct (sym addresses-kept) (wallets-distinct script.start start.accepted)) in
        let can : All (CanMoveIt row seen t) world.wallets = λ k d within named.
        let address : Address = (get_or world.wallets k d).seen.address in
        let move : Movement = movement_of seen t address in
        subst (CanMove move.kind move.amount) (before-movement seen t address ∙ balance k d within named)
        (row-moves (asked_of (doing row bytes)) seen m address sound own).possible in
        let after : World = record world {
          markets = markets_acted (doing row bytes) seen world.markets;
          wallets = map (wallet_acted row seen t) world.wallets;
        } in
        let next : IsRun script (done ++ record { row = row; reply = (row_step (doing row bytes) seen m).reply } ∷ []) after = record {
          srm = run.srm;
          msrm = run.msrm;
          program = run.program;
          markets = markets-run script done row bytes seen m sees sight does script.start.markets world.markets run.markets
              (market-once script.start row.market (start.accepted.once row.market)) at;
          wallets = wallets-run script done row bytes seen m sees sight does t script.start.wallets world.wallets run.wallets
              (λ k d within. (balance k d within, can k d within));
          stand = stand-run (doing row bytes) seen m world.wallets own known world.markets at run.stand;
          holds = λ mint. omega (
            arith,
            run.holds mint,
            markets-hold mint (doing row bytes) seen m sound world.markets at,
            wallets-hold row world t (λ address. (row-moves (asked_of (doing row bytes)) seen m address sound own).one_way) mint m
                (row-of (asked_of (doing row bytes)) seen m) states-once can,
          );
        } in
        subst (λ (one : Option Market). IsRun script (done ++ record { row = row; reply = (row_step (doing row bytes) seen m).reply } ∷ []) (acted (doing row bytes) one world)) (sym at) next

-- ---- the start

start-markets : (script : PlainScript) (markets : List PlainMarketAccounts) → AllZip (IsHistory script []) markets (map market_state markets)
start-markets script [] = tt
start-markets script (first ∷ markets) = (
  record { calls = []; entries = refl; legal = tt; end_is = refl; said = refl; sees = All-nil (λ (call : Call). IsSight script call.seen) },
  start-markets script markets,
)

start-wallets : (wallets : List PlainAccount) → AllZip (IsMoved []) wallets (map wallet_state wallets)
start-wallets [] = tt
start-wallets (first ∷ wallets) = (record { address = refl; mint = refl; owner = refl; legal = tt; balance = refl; origins = refl }, start-wallets wallets)

pub start-run : (script : PlainScript) → IsRun script [] (start_world script)
start-run script = record {
  srm = refl;
  msrm = refl;
  program = refl;
  markets = start-markets script script.start.markets;
  wallets = start-wallets script.start.wallets;
  stand = All-map (AllStandIn (start_world script).wallets) market_state script.start.markets
      (λ k d within. All-nil (StandIn (start_world script).wallets (market_in (get_or script.start.markets k d)).listing.address));
  holds = λ mint. refl;
}
