-- The calls of all lanes, sorted by their stamps, are on each market its journal, and in each wallet's journal its
-- entries.
use Rattle.std.proofs.Common.{◌≡◌, ℕ, ◌<◌, Bool, true, false, cond, eqb, List, [], ◌∷◌, ◌++◌, length, map, get_or, refl, sym, ap, ◌∙◌, subst, All}
use Rattle.dex_world.proofs.Common.{Address, All-cons, All-map, All-nil, All-weaker, Call, IsLegal, IsWalletLegal, Movement, PlainAccount, PlainMarketAccounts, WalletEntry, filter, filter-append, flat_map, flat_map-append, flat_map-map, is_same, length-map, length-range_with_len, range_with_len}
use Rattle.dex_replay.proofs.Common.{PlainScript, balance_of, market_in}
use Rattle.dex_serializable.proofs.Common.{AreMerged, BankMarketState, BankWalletState, Histories, IsMarketMerged, IsWalletMerged, Lane, MarketOrigin, Stamped, WalletOrigin, calls_on, entries_in, entries_on, entry_made, flat_map-agree, items_of-stamped, market_calls, wallet_entries}
use Rattle.std.proofs.lemmas.List.Concat.{flat_map_single}
use Rattle.dex_history.specs.Journal.{front}
use Rattle.dex_stamps.specs.Stamped.{items_of}
use Rattle.dex_serializable.proofs.Fronts.{calls_at, entries_at}
use Rattle.dex_serializable.proofs.Gathered.{gathered}
use Rattle.dex_serializable.proofs.Items.{Item, all_items, call_in, calls-all, stamp_in}
use Rattle.dex_serializable.proofs.Sorted.{Rises, picked-sorted, rises-from_pairs, sorted}
use Rattle.dex_serializable.proofs.Steps.{AreLegal, IsMarketLegalAt}
use Rattle.dex_serializable.proofs.Seeing.{IsWalletLegalAt}
use Rattle.dex_world.proofs.MappedLists.{All-first}

-- ---- lists

-- what passes a test is picked
filter-picked : {A : Type 0} (p : A → Bool) (xs : List A) → filter p xs ≡ flat_map (λ x. cond (p x) (x ∷ []) []) xs
filter-picked p [] = refl
filter-picked p (x ∷ xs) = either (p x) (filter-picked p xs)
  where
    either : (b : Bool) → filter p xs ≡ flat_map (λ y. cond (p y) (y ∷ []) []) xs
        → cond b (x ∷ filter p xs) (filter p xs) ≡ cond b (x ∷ []) [] ++ flat_map (λ y. cond (p y) (y ∷ []) []) xs
    either true rest = ap (λ ys. x ∷ ys) rest
    either false rest = rest

pub filter-sorted : {A : Type 0} (key : A → ℕ) (p : A → Bool) (xs : List A) → filter p (sorted key xs) ≡ sorted key (filter p xs)
filter-sorted key p xs =
    filter-picked p (sorted key xs)
    ∙ picked-sorted key key (λ x. cond (p x) (x ∷ []) []) (λ x. either x (p x)) xs
    ∙ ap (sorted key) (sym (filter-picked p xs))
  where
    either : (x : _) (b : Bool) → All (λ y. key y ≡ key x) (cond b (x ∷ []) [])
    either x true = All-cons (λ y. key y ≡ key x) x [] refl (All-nil (λ y. key y ≡ key x))
    either x false = All-nil (λ y. key y ≡ key x)

pub map-sorted : {A B : Type 0} (key : B → ℕ) (f : A → B) (xs : List A) → map f (sorted (λ x. key (f x)) xs) ≡ sorted key (map f xs)
map-sorted key f xs =
    sym (flat_map_single f (sorted (λ x. key (f x)) xs))
    ∙ picked-sorted (λ x. key (f x)) key (λ x. f x ∷ []) (λ x. All-cons (λ y. key y ≡ key (f x)) (f x) [] refl (All-nil (λ y. key y ≡ key (f x)))) xs
    ∙ ap (sorted key) (flat_map_single f xs)

filter-flat_map : {A B : Type 0} (p : B → Bool) (f : A → List B) (xs : List A) → filter p (flat_map f xs) ≡ flat_map (λ x. filter p (f x)) xs
filter-flat_map p f [] = refl
filter-flat_map p f (x ∷ xs) = filter-append p (f x) (flat_map f xs) ∙ ap (λ ys. filter p (f x) ++ ys) (filter-flat_map p f xs)

flat_map-flat_map : {A B C : Type 0} (g : B → List C) (f : A → List B) (xs : List A) → flat_map g (flat_map f xs) ≡ flat_map (λ x. flat_map g (f x)) xs
flat_map-flat_map g f [] = refl
flat_map-flat_map g f (x ∷ xs) = flat_map-append g (f x) (flat_map f xs) ∙ ap (λ ys. flat_map g (f x) ++ ys) (flat_map-flat_map g f xs)

-- ---- a journal is what its lanes made, sorted

journal-made : {A : Type 0} (key lane_of : A → ℕ) (made : Lane → List A) (lanes : List Lane) (count : ℕ) (list : List A)
    → map (λ (lane : Lane). lane.number) lanes ≡ range_with_len 0 count → Rises key list → All (λ x. lane_of x < length lanes) list
    → All (λ (lane : Lane). filter (λ x. eqb (lane_of x) lane.number) list ≡ made lane) lanes
    → sorted key (flat_map made lanes) ≡ list
journal-made key lane_of made lanes count list numbers rises below each =
    let of_lane = λ (number : ℕ). filter (λ x. eqb (lane_of x) number) list in
    let counted : length lanes ≡ count =
    sym (length-map lanes (λ (lane : Lane). lane.number)) ∙ ap (λ (all : List ℕ). length all) numbers ∙ length-range_with_len 0 count in
    ap (sorted key)
    (flat_map-agree made (λ (lane : Lane). of_lane lane.number) lanes
    (All-weaker (λ (lane : Lane). of_lane lane.number ≡ made lane) (λ (lane : Lane). made lane ≡ of_lane lane.number) (λ lane is. sym is) lanes each)
    ∙ sym (flat_map-map of_lane (λ (lane : Lane). lane.number) lanes)
    ∙ ap (flat_map of_lane) numbers)
    ∙ gathered key lane_of list rises count (subst (λ (n : ℕ). All (λ x. lane_of x < n) list) counted below)

-- ---- all journals

abbrev pub call_stamp : Stamped Call → ℕ
call_stamp call = call.stamp

abbrev pub entry_stamp : Stamped WalletEntry → ℕ
entry_stamp entry = entry.stamp

module _ (script : PlainScript) (all : Histories) (merged : AreMerged script all) where
  -- all items, and all calls, by their stamps
  abbrev pub ordered : List (Item script)
  ordered = sorted stamp_in (all_items script merged.facts.rows.each all.lanes merged.lanes)

  abbrev pub made : List (Stamped Call)
  made = map call_in ordered

  abbrev lane_calls : Lane → List (Stamped Call)
  lane_calls lane = lane.calls

  made-sorted : made ≡ sorted call_stamp (flat_map lane_calls all.lanes)
  made-sorted =
      map-sorted call_stamp call_in (all_items script merged.facts.rows.each all.lanes merged.lanes)
      ∙ ap (sorted call_stamp) (calls-all script merged.facts.rows.each all.lanes merged.lanes)

  -- a market's
  calls-on : (address : Address) → calls_on address made ≡ sorted call_stamp (flat_map (λ (lane : Lane). calls_on address lane.calls) all.lanes)
  calls-on address =
      ap (calls_on address) made-sorted
      ∙ filter-sorted call_stamp (λ (call : Stamped Call). is_same call.item.asked.market address) (flat_map lane_calls all.lanes)
      ∙ ap (sorted call_stamp) (filter-flat_map (λ (call : Stamped Call). is_same call.item.asked.market address) lane_calls all.lanes)

  pub market-journal : (start : PlainMarketAccounts) (market : BankMarketState) → IsMarketMerged script all.lanes start market
      → calls_at start.address made ≡ market.cell.calls
  market-journal start market is =
      ap items_of
      (calls-on start.address
      ∙ journal-made call_stamp (λ (call : Stamped Call). call.item.asked.lane) (λ (lane : Lane). calls_on start.address lane.calls) all.lanes script.lanes
      (market_calls market) merged.numbers (rises-from_pairs call_stamp (market_calls market) is.kept.rising) is.of_lanes is.each)
      ∙ items_of-stamped market.cell.calls market.stamps is.kept.counted

  market-legal : (start : PlainMarketAccounts) (market : BankMarketState) → IsMarketMerged script all.lanes start market → IsMarketLegalAt made start
  market-legal start market is =
      subst (λ (calls : List Call). IsLegal (market_in start) calls) (sym (market-journal start market is))
      (subst (λ (accounts : PlainMarketAccounts). IsLegal (market_in accounts) market.cell.calls) (ap (λ (origin : MarketOrigin). origin.start) is.origin) is.kept.cell.legal)

  -- a wallet's
  entries-picked : (address : Address) (calls : List (Stamped Call)) → entries_on address calls ≡ flat_map (entries_in address) calls
  entries-picked address [] = refl
  entries-picked address (call ∷ calls) = ap (λ (entries : List (Stamped WalletEntry)). entries_in address call ++ entries) (entries-picked address calls)

  entries-on : (address : Address) → entries_on address made ≡ sorted entry_stamp (flat_map (λ (lane : Lane). entries_on address lane.calls) all.lanes)
  entries-on address =
      ap (entries_on address) made-sorted
      ∙ entries-picked address (sorted call_stamp (flat_map lane_calls all.lanes))
      ∙ picked-sorted call_stamp entry_stamp (entries_in address)
      (λ call. All-map (λ (entry : Stamped WalletEntry). entry.stamp ≡ call.stamp) (entry_made call)
      (filter (λ (move : Movement). is_same move.wallet address) (front call.item.entry.moves)) (λ k d within. refl))
      (flat_map lane_calls all.lanes)
      ∙ ap (sorted entry_stamp)
      (flat_map-flat_map (entries_in address) lane_calls all.lanes
      ∙ flat_map-agree (λ (lane : Lane). flat_map (entries_in address) lane.calls) (λ (lane : Lane). entries_on address lane.calls) all.lanes
      (λ k d within. sym (entries-picked address (get_or all.lanes k d).calls)))

  pub wallet-journal : (start : PlainAccount) (wallet : BankWalletState) → IsWalletMerged script all.lanes start wallet
      → entries_at start.address made ≡ wallet.cell.entries
  wallet-journal start wallet is =
      ap items_of
      (entries-on start.address
      ∙ journal-made entry_stamp (λ (entry : Stamped WalletEntry). entry.item.lane) (λ (lane : Lane). entries_on start.address lane.calls) all.lanes script.lanes
      (wallet_entries wallet) merged.numbers (rises-from_pairs entry_stamp (wallet_entries wallet) is.kept.rising) is.of_lanes is.each)
      ∙ items_of-stamped wallet.cell.entries wallet.stamps is.kept.counted

  wallet-legal : (start : PlainAccount) (wallet : BankWalletState) → IsWalletMerged script all.lanes start wallet → IsWalletLegalAt made start
  wallet-legal start wallet is =
      subst (λ (entries : List WalletEntry). IsWalletLegal (balance_of start.bytes) entries) (sym (wallet-journal start wallet is))
      (subst (λ (account : PlainAccount). IsWalletLegal (balance_of account.bytes) wallet.cell.entries) (ap (λ (origin : WalletOrigin). origin.start) is.origin) is.kept.cell.legal)

  pub are-legal : AreLegal script made
  are-legal = record {
    markets = All-first (IsMarketMerged script all.lanes) (IsMarketLegalAt made) market-legal script.start.markets all.markets merged.markets;
    wallets = All-first (IsWalletMerged script all.lanes) (IsWalletLegalAt made) wallet-legal script.start.wallets all.wallets merged.wallets;
  }
