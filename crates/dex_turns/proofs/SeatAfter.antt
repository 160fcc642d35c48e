-- A seat before and after a row.
use Rattle.std.proofs.Common.{◌≡◌, ℕ, ◌<◌, ◌≤◌, ◌==◌, Bool, true, false, cond, List, [], ◌∷◌, ◌++◌, length, map, set, get_or, take, Some, refl, sym, ap, ◌∙◌, subst, arith}
use Rattle.dex_world.proofs.Common.{Address, All-append, All-cons, All-filter, All-head, All-nil, All-weaker, AllZip, AllZip-long, Asked, Call, IsLegal, IsWalletLegal, PlainAccount, PlainMarketAccounts, PlainRow, Reply, WalletEntry, asked_of, cond-false, cond-true, eqb-true, filter-append, filter_passes, get_or-map, is_held, is_same, is_same-refl, is_same-sym, length-map, list_any, names, row_wallets, rows_of_lane}
use Rattle.dex_turns.proofs.Common.{AllThree, AreNext, AreReady, BankState, HasCalled, HasSubmitted, HaveGrown, Idle, IsBank, IsMarketGate, IsMarketPass, IsNext, IsPlace, IsRowOf, IsScript, IsSeat, IsSeatOf, IsWalletPass, MarketOrigin, MayDraw, MayEnter, MovesEach, PlainScript, SeatState, Stamped, Where, balance_of, calls_on, entries_in, entries_on, market_addresses, market_in, number_in, rows_of_market, rows_of_wallet}
use Rattle.std.specs.List.{All}
use Rattle.std.proofs.lemmas.List.{append-nil, append_assoc, set-get_or}
use Rattle.dex_stamps.specs.Stamped.{items_of}
use Rattle.dex_turns.specs.Submitted.{MarketGrows, WalletGrows, grown, written_by}
use Rattle.dex_turns.specs.Turns.{AreIdle, IsTold, MayEnterAt}
use Rattle.dex_turns.proofs.Counts.{IsAhead, calls-left, entries-left, none-in}
use Rattle.dex_turns.specs.Seats.{MarketPass, WalletPass}
use Rattle.dex_journals.proofs.LaneGrowth.{IsItemMore, lane-more}
use Rattle.dex_turns.proofs.Growing.{passes-after, set-three, three-gates, three-same, where-grew}
use Rattle.dex_turns.proofs.RowMore.{alone-acts, item-more}
use Rattle.dex_world.proofs.MappedLists.{All-behind, All-second, three-weaker, zip-at, zip-weaker}
use Rattle.dex_script_types.proofs.Apart.{AreDistinct}
use Rattle.dex_script_types.specs.Places.{market_place}
use Rattle.dex_script_types.proofs.PlacedLaws.{market-placed}
use Rattle.dex_turns.specs.Bank.{MarketGate}

-- ---- before

-- passes for wallets of which each has rows left may draw
pub ready-of : (bank : BankState) (before : SeatState) → IsSeatOf bank before → IsSeat before → (lane : ℕ) (others : List Address) → lane ≡ before.lane
    → ((address : Address) → list_any (is_same address) others ≡ true → length (entries_on address before.calls) < length (rows_of_wallet lane address bank.script.rows))
    → AreReady bank lane others before.wallets
ready-of bank before of kept lane others same free = record {
  gates = of.wallets;
  each =
      zip-weaker (IsWalletPass before.lane before.calls) (MayDraw bank.script lane others)
      (λ start p is.
      record {
        number = is.number ∙ sym same;
        idle = λ among. is.idle;
        left = λ among.
            subst (λ (made : List (Stamped WalletEntry)). length made < length (rows_of_wallet lane start.address bank.script.rows)) (sym is.mine) (free start.address among);
        below = λ holds. absurd (holds is.idle);
      })
      bank.script.start.wallets before.wallets
      (subst (λ (s : PlainScript). AllZip (IsWalletPass before.lane before.calls) s.start.wallets before.wallets) of.script kept.wallets);
}

abbrev IsAtMarket : MarketGate → MarketPass → Type 0
IsAtMarket gate pass = pass.gate ≡ Some gate

all-ahead : (P : PlainRow → Type 0) (rows : List PlainRow) (done : ℕ) (row : PlainRow) → (ahead : IsAhead rows done row) → All P rows → P row
all-ahead P rows done row ahead all =
    All-head P row ahead.later
    (All-behind P ahead.between (row ∷ ahead.later) (All-behind P (take done rows) (ahead.between ++ row ∷ ahead.later) (subst (All P) ahead.is all)))

-- the next row is ahead of those that are done, and so are two legs
pub next-ahead : {row : PlainRow} {seat : SeatState} → IsNext row seat → IsAhead (rows_of_lane seat.lane seat.script.rows) (length seat.calls) row
next-ahead next = record { between = []; later = next.later; is = next.is }

pub first-ahead : {first second : PlainRow} {seat : SeatState} → AreNext first second seat → IsAhead (rows_of_lane seat.lane seat.script.rows) (length seat.calls) first
first-ahead {first} {second} next = record { between = []; later = second ∷ next.later; is = next.are }

pub second-ahead : {first second : PlainRow} {seat : SeatState} → AreNext first second seat → IsAhead (rows_of_lane seat.lane seat.script.rows) (length seat.calls) second
second-ahead {first} {second} next = record { between = first ∷ []; later = next.later; is = next.are }

-- what a row that is ahead finds of the passes for markets, where its own stands at this place
pub record FindsPasses (bank : BankState) (row : PlainRow) (seat : SeatState) (place : ℕ) : Type 0 where
  pub enters : MayEnterAt bank row seat.markets place
  pub long : length seat.markets ≡ length bank.script.start.markets
  pub idle : AreIdle seat.markets

module _ {bank : BankState} {row : PlainRow} {before : SeatState} (of : IsSeatOf bank before) (bank_kept : IsBank bank)
    (ahead : IsAhead (rows_of_lane before.lane before.script.rows) (length before.calls) row) where
  abbrev lane_rows : List PlainRow
  lane_rows = rows_of_lane before.lane before.script.rows

  script-kept : IsScript before.script
  script-kept = subst IsScript (sym of.script) bank_kept.script

  pub lane-is : row.lane ≡ before.lane
  lane-is =
      eqb-true row.lane before.lane
      (all-ahead (λ (r : PlainRow). (r.lane == before.lane) ≡ true) lane_rows (length before.calls) row ahead
      (filter_passes (λ (r : PlainRow). r.lane == before.lane) before.script.rows))

  pub row-fits : IsRowOf bank.script.start row
  row-fits =
      subst (λ (s : PlainScript). IsRowOf s.start row) of.script
      (all-ahead (IsRowOf before.script.start) lane_rows (length before.calls) row ahead
      (All-filter (λ (r : PlainRow). r.lane == before.lane) (IsRowOf before.script.start) before.script.rows script-kept.rows.each))

  module _ (kept : IsSeat before) where
    -- its lane has made fewer entries than it has rows, on each wallet that it names
    pub entries-free : (address : Address) → names row address ≡ true
        → length (entries_on address before.calls) < length (rows_of_wallet row.lane address bank.script.rows)
    entries-free address named =
        subst (λ (n : ℕ). length (entries_on address before.calls) < length (rows_of_wallet n address bank.script.rows)) (sym lane-is)
        (subst (λ (s : PlainScript). length (entries_on address before.calls) < length (rows_of_wallet before.lane address s.rows)) of.script
        (entries-left before.script before.lane row before.calls kept.calls ahead address named))

    calls-free : (address : Address) → is_same row.market address ≡ true
        → length (calls_on address before.calls) < length (rows_of_market row.lane address bank.script.rows)
    calls-free address on =
        subst (λ (n : ℕ). length (calls_on address before.calls) < length (rows_of_market n address bank.script.rows)) (sym lane-is)
        (subst (λ (s : PlainScript). length (calls_on address before.calls) < length (rows_of_market before.lane address s.rows)) of.script
        (calls-left before.script before.lane row before.calls kept.calls ahead address on))

    pub ready : AreReady bank row.lane (row_wallets row) before.wallets
    ready = ready-of bank before of kept row.lane (row_wallets row) lane-is entries-free

    module _ (place : ℕ) (at : IsPlace row.market (market_addresses bank.script) place) where
      abbrev market_starts : List PlainMarketAccounts
      market_starts = bank.script.start.markets

      within : place < length market_starts
      within = subst (λ (n : ℕ). place < n) (length-map market_starts (λ (accounts : PlainMarketAccounts). accounts.address)) at.within

      here : (d : PlainMarketAccounts) → (get_or market_starts place d).address ≡ row.market
      here d = sym (get_or-map (λ (accounts : PlainMarketAccounts). accounts.address) market_starts place d row.market within) ∙ at.here row.market

      passes-kept : AllZip (IsMarketPass before.lane before.calls) market_starts before.markets
      passes-kept = subst (λ (s : PlainScript). AllZip (IsMarketPass before.lane before.calls) s.start.markets before.markets) of.script kept.markets

      within-passes : place < length before.markets
      within-passes = omega (arith, within, AllZip-long (IsMarketPass before.lane before.calls) market_starts before.markets passes-kept)

      within-gates : place < length bank.markets
      within-gates = omega (arith, within, AllZip-long (IsMarketGate bank.script) market_starts bank.markets bank_kept.markets)

      gate-at : (d : PlainMarketAccounts) (gate : MarketGate) → IsMarketGate bank.script (get_or market_starts place d) (get_or bank.markets place gate)
      gate-at d gate = zip-at (IsMarketGate bank.script) market_starts bank.markets place d gate bank_kept.markets within

      -- the pass of the row's market may draw
      enters : (gate : MarketGate) (pass : MarketPass) → MayEnter bank.script row (get_or bank.markets place gate) (get_or before.markets place pass)
      enters gate pass =
          let own : MarketGate = get_or bank.markets place gate in
          let start : PlainMarketAccounts = get_or market_starts place gate.origin.start in
          let is_gate : IsMarketGate bank.script start own = gate-at gate.origin.start gate in
          let is_pass : IsMarketPass before.lane before.calls start (get_or before.markets place pass) =
          zip-at (IsMarketPass before.lane before.calls) market_starts before.markets place gate.origin.start pass passes-kept within in
          let origin_address : own.origin.start.address ≡ start.address = ap (λ (o : MarketOrigin). o.start.address) is_gate.origin in
          let on : row.market ≡ own.origin.start.address = sym (here gate.origin.start) ∙ sym origin_address in
          record {
            home = zip-at IsAtMarket bank.markets before.markets place gate pass of.markets within-gates;
            number = is_pass.number ∙ sym lane-is;
            left =
                subst (λ (made : List (Stamped Call)). length made < length (rows_of_market row.lane own.origin.start.address bank.script.rows))
                (sym (is_pass.mine ∙ ap (λ (a : Address). calls_on a before.calls) (sym origin_address)))
                (calls-free own.origin.start.address (ap (is_same row.market) (sym on) ∙ is_same-refl row.market));
            idle = is_pass.idle;
            on = on;
            rows = ap (λ (o : MarketOrigin). o.script) is_gate.origin;
            opening = is_gate.opening;
          }

      pub finds : FindsPasses bank row before place
      finds = record {
        enters = record {
          within = (within, within-gates, within-passes);
          here = here;
          from = λ start gate. ap (λ (o : MarketOrigin). o.start) (gate-at start gate).origin;
          enters = enters;
        };
        long = AllZip-long (IsMarketPass before.lane before.calls) market_starts before.markets passes-kept;
        idle = All-second (IsMarketPass before.lane before.calls) (λ pass. pass.stage ≡ Idle) (λ start pass is. is.idle) market_starts before.markets passes-kept;
      }

-- what it finds of a seat that is seen so
pub finds-at : {bank : BankState} {row : PlainRow} {seat view : SeatState} {place : ℕ} → seat ≡ view → IsAhead (rows_of_lane view.lane view.script.rows) (length view.calls) row
    → IsBank bank → IsSeatOf bank view → IsSeat seat → market_place row.market bank.script.start.markets ≡ Some place → FindsPasses bank row seat place
finds-at {bank} {row} {seat} {view} {place} is ahead bank_kept of kept placed =
    finds (subst (IsSeatOf bank) (sym is) of) bank_kept (subst (λ (s : SeatState). IsAhead (rows_of_lane s.lane s.script.rows) (length s.calls) row) (sym is) ahead) kept place
    (market-placed bank.script row.market place placed)

-- ---- what grows

abbrev pub MarketLegal : PlainMarketAccounts → List (Stamped Call) → Type 0
MarketLegal start seen = IsLegal (market_in start) (items_of seen)

abbrev pub WalletLegal : PlainAccount → List (Stamped WalletEntry) → Type 0
WalletLegal start seen = IsWalletLegal (balance_of start.bytes) (items_of seen)

-- each pass made what these calls are on its market, and in its wallet's journal
abbrev pub MarketGrew : List (Stamped Call) → PlainMarketAccounts → MarketPass → MarketPass → Type 0
MarketGrew calls start p q = q ≡ grown p q.seen (calls_on start.address calls)

abbrev pub WalletGrew : List (Stamped Call) → PlainAccount → WalletPass → WalletPass → Type 0
WalletGrew calls start p q = q ≡ grown p q.seen (entries_on start.address calls)

module _ (row : PlainRow) (call : Stamped Call) (asked : call.item.asked ≡ asked_of row) where
  -- the pass of the row's market has the call, and the others are as they were
  pub markets-grow : (starts : List PlainMarketAccounts) (passes : List MarketPass) (place : ℕ) (left : MarketPass)
      → AreDistinct (map (λ (accounts : PlainMarketAccounts). accounts.address) starts) → place < length starts → length passes ≡ length starts
      → ((d : PlainMarketAccounts) → (get_or starts place d).address ≡ row.market)
      → ((d : PlainMarketAccounts) (e : MarketPass) → HasCalled call (get_or starts place d) (get_or passes place e) left)
      → AllThree (MarketGrows row call) starts passes (set passes place left)
  markets-grow starts passes place left distinct within long here called =
      set-three (λ (accounts : PlainMarketAccounts). accounts.address) (λ (x : PlainMarketAccounts) (p q : MarketPass). q ≡ p) (MarketGrows row call) row.market
      (λ x apart p q same.
      subst (λ (b : Bool). Where b (HasCalled call x p q) (q ≡ p)) (sym (is_same-sym row.market x.address ∙ apart)) same)
      starts passes passes place (get_or passes place left) left distinct within here
      (subst (λ (l : List MarketPass). AllThree (λ (x : PlainMarketAccounts) (p q : MarketPass). q ≡ p) starts l passes) (sym (set-get_or passes place left)) (three-same starts passes long))
      (λ d e.
      subst (λ (b : Bool). Where b (HasCalled call (get_or starts place d) (get_or passes place e) left) (left ≡ get_or passes place e))
      (sym (ap (is_same row.market) (here d) ∙ is_same-refl row.market)) (called d e))

  market-grew : (start : PlainMarketAccounts) (p q : MarketPass) → MarketGrows row call start p q → MarketGrew (call ∷ []) start p q
  market-grew start p q =
      let on_it : calls_on start.address (call ∷ []) ≡ cond (is_same row.market start.address) (call ∷ []) [] =
      ap (λ (a : Asked). cond (is_same a.market start.address) (call ∷ []) []) asked in
      where-grew (MarketLegal start) p q (is_same row.market start.address) (call ∷ []) (calls_on start.address (call ∷ [])) (λ on. on_it ∙ cond-true _ _ _ on)
      (λ off. on_it ∙ cond-false _ _ _ off)

  wallet-grew : MovesEach call.item → (start : PlainAccount) (p q : WalletPass) → WalletGrows row call start p q → WalletGrew (call ∷ []) start p q
  wallet-grew moves start p q =
      where-grew (WalletLegal start) p q (names row start.address) (entries_in start.address call) (entries_on start.address (call ∷ [])) (λ on. append-nil (entries_in start.address call))
      (λ off. append-nil (entries_in start.address call) ∙ none-in row call asked moves start.address off)

-- ---- the seat behind an item

-- what is known of it
pub record IsAfter (bank : BankState) (Submitted : SeatState → SeatState → Type 0) (before after : SeatState) : Type 0 where
  pub kept : IsSeat after
  pub of : IsSeatOf bank after
  pub submitted : Submitted before after

abbrev pub seat_with : SeatState → List (Stamped Call) → ℕ → List MarketPass → List WalletPass → SeatState
seat_with seat calls last markets wallets = record seat { calls = calls; last = last; markets = markets; wallets = wallets }

entries_on-append : (address : Address) (calls more : List (Stamped Call)) → entries_on address (calls ++ more) ≡ entries_on address calls ++ entries_on address more
entries_on-append address [] more = refl
entries_on-append address (call ∷ calls) more =
    ap (λ (l : List (Stamped WalletEntry)). entries_in address call ++ l) (entries_on-append address calls more)
    ∙ sym (append_assoc (entries_in address call) (entries_on address calls) (entries_on address more))

module _ (bank : BankState) (before : SeatState) (of : IsSeatOf bank before) (kept : IsSeat before) (rows : List PlainRow) (first : Stamped Call) (others : List (Stamped Call))
    (item : IsItemMore before.script before.lane before.calls rows first others) (markets : List MarketPass) (wallets : List WalletPass)
    (markets_grew : AllThree (MarketGrew (first ∷ others)) before.script.start.markets before.markets markets)
    (wallets_grew : AllThree (WalletGrew (first ∷ others)) before.script.start.wallets before.wallets wallets) where
  abbrev made : List (Stamped Call)
  made = first ∷ others

  abbrev after : SeatState
  after = seat_with before (before.calls ++ made) first.stamp markets wallets

  seat-of : IsSeatOf bank after
  seat-of = record {
    script = of.script;
    markets =
        three-gates (λ (start : PlainMarketAccounts). calls_on start.address made) before.script.start.markets bank.markets before.markets markets markets_grew of.markets;
    wallets =
        three-gates (λ (start : PlainAccount). entries_on start.address made) before.script.start.wallets bank.wallets before.wallets wallets wallets_grew of.wallets;
  }

  seat-kept : IsSeat after
  seat-kept =
      let Below : Stamped Call → Type 0 = λ c. c.stamp ≤ first.stamp in
      record {
        calls = lane-more before.script before.lane before.calls rows first others kept.calls item;
        below = All-append Below before.calls made
            (All-weaker (λ (c : Stamped Call). c.stamp < first.stamp) Below (λ c less. omega (arith, less)) before.calls item.below)
            (All-cons Below first others (omega arith) (All-weaker (λ (c : Stamped Call). c.stamp ≡ first.stamp) Below (λ c same. omega (arith, same)) others item.one_stamp));
        markets =
            passes-after (λ (start : PlainMarketAccounts). calls_on start.address made) before.lane (λ start. calls_on start.address before.calls) (λ start. calls_on start.address (before.calls ++ made))
            (λ start. filter-append (λ (c : Stamped Call). is_same c.item.asked.market start.address) before.calls made) before.script.start.markets before.markets markets kept.markets markets_grew;
        wallets =
            passes-after (λ (start : PlainAccount). entries_on start.address made) before.lane (λ start. entries_on start.address before.calls) (λ start. entries_on start.address (before.calls ++ made))
            (λ start. entries_on-append start.address before.calls made) before.script.start.wallets before.wallets wallets kept.wallets wallets_grew;
      }

  -- it is known of the seat as it is seen, with calls that are these
  pub is-after : (Submitted : SeatState → SeatState → Type 0) → Submitted before after → (view : SeatState) (calls : List (Stamped Call)) → before ≡ view → calls ≡ before.calls ++ made
      → IsAfter bank Submitted view (seat_with before calls first.stamp markets wallets)
  is-after Submitted submitted view calls same are =
      subst (λ (v : SeatState). IsAfter bank Submitted v (seat_with before calls first.stamp markets wallets)) same
      (subst (λ (l : List (Stamped Call)). IsAfter bank Submitted before (seat_with before l first.stamp markets wallets)) (sym are)
      (record { kept = seat-kept; of = seat-of; submitted = submitted }))

-- ---- the seat behind a row

module _ {bank : BankState} {row : PlainRow} {before : SeatState} {call : Stamped Call} (next : IsNext row before) (of : IsSeatOf bank before) (kept : IsSeat before)
    (told : IsTold bank.script call) (asked : call.item.asked ≡ asked_of row) (own : is_held call.item ≡ false) (above : before.last < call.stamp) (markets : List MarketPass)
    (markets_grown : AllThree (MarketGrows row call) bank.script.start.markets before.markets markets) (wallets : List WalletPass)
    (wallets_grown : HaveGrown bank (row_wallets row) (written_by call) before.wallets wallets) where
  told_here : IsTold before.script call
  told_here = subst (λ (s : PlainScript). IsTold s call) (sym of.script) told

  markets_here : AllThree (MarketGrows row call) before.script.start.markets before.markets markets
  markets_here = subst (λ (s : PlainScript). AllThree (MarketGrows row call) s.start.markets before.markets markets) (sym of.script) markets_grown

  wallets_here : AllThree (WalletGrows row call) before.script.start.wallets before.wallets wallets
  wallets_here = subst (λ (s : PlainScript). AllThree (WalletGrows row call) s.start.wallets before.wallets wallets) (sym of.script) wallets_grown

  pub row-after : {view : SeatState} {calls : List (Stamped Call)} {reply : Reply} → before ≡ view → calls ≡ before.calls ++ call ∷ [] → reply ≡ call.item.entry.reply
      → IsAfter bank (HasSubmitted row reply) view (seat_with before calls call.stamp markets wallets)
  row-after {view} {calls} {reply} same are tells =
      let Numbered : Stamped Call → Type 0 = λ c. number_in c ≡ row.number in
      is-after bank before of kept (row ∷ []) call []
      (item-more before.script before.lane before.last row.number before.calls kept.calls kept.below next.lower (row ∷ []) next.later call [] next.is (ap (λ (a : Asked). a ∷ []) asked)
      (All-cons Numbered call [] (ap (λ (a : Asked). a.number) asked) (All-nil Numbered)) (All-nil (λ (c : Stamped Call). c.stamp ≡ call.stamp))
      (All-cons (IsTold before.script) call [] told_here (All-nil (IsTold before.script))) above (alone-acts call own))
      markets wallets (three-weaker (MarketGrows row call) (MarketGrew (call ∷ [])) (market-grew row call asked) before.script.start.markets before.markets markets markets_here)
      (three-weaker (WalletGrows row call) (WalletGrew (call ∷ [])) (wallet-grew row call asked told.moves) before.script.start.wallets before.wallets wallets wallets_here)
      (HasSubmitted row reply)
      (record {
        call = call;
        asked = asked;
        answered = sym tells;
        own = own;
        sees = told_here.sees;
        moves = told.moves;
        lane = refl;
        script = refl;
        calls = refl;
        markets = markets_here;
        wallets = wallets_here;
      })
      view calls same are
