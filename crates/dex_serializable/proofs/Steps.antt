-- The next row leaves the world after its call; so all rows, one after the other, leave that after all calls.
use Rattle.std.proofs.Common.{◌≡◌, ℕ, ◌≤◌, Bool, true, false, ◌||◌, cond, List, [], ◌∷◌, ◌++◌, map, Option, Some, refl, sym, ap, ◌∙◌, subst, arith, ⊎_elim, All, append-nil, append_assoc}
use Rattle.dex_world.proofs.Common.{Address, All-head, All-tail, All-weaker, Asked, Call, Entry, IsLegal, IsWalletLegal, IsWalletLegal-append, Listing, Market, MarketState, PlainAccount, PlainMarketAccounts, PlainRow, Seen, Stands, Step, WalletEntry, World, act, acted, balance_after-append, cases_Bool, cond-false, cond-true, entry_by, false≢true, fold, is_same, map_push, market_acted, market_after, market_after-one, markets_acted, movement_of, names, row_step, seen_by, sum_by-cons, wallet_acted, wallet_entry_by, wallet_moved}
use Rattle.dex_replay.proofs.Common.{PlainScript, address_of, balance_of, has_market, market_in, wallet_words}
use Rattle.dex_serializable.proofs.Common.{Stamped, listing-in, map-agree, map-map, market_after-listing}
use Rattle.dex_history.proofs.HistoryLaws.{IsLegal-append}
use Rattle.dex_world.specs.World.{market_at}
use Rattle.dex_state.specs.Addresses.{times}
use Rattle.dex_stamps.specs.Stamped.{items_of}
use Rattle.dex_serializable.proofs.Acts.{Acts, acted_row, acted_row-market, acted_row-sees, stands-acts}
use Rattle.dex_serializable.proofs.CallEntries.{entries-made}
use Rattle.dex_serializable.proofs.Fronts.{calls_at, calls_at-append, calls_at-elsewhere, calls_at-here, entries_at, entries_at-append, entries_at-one, market_front, market_with, wallet_front, wallet_with, world_front}
use Rattle.dex_serializable.proofs.Items.{Item, call_in}
use Rattle.dex_serializable.proofs.Seeing.{IsWalletLegalAt, next-sees}

abbrev market_address : PlainMarketAccounts → Address
market_address accounts = accounts.address

-- a market keeps its address
pub front-address : (made : List (Stamped Call)) (accounts : PlainMarketAccounts) → (market_front made accounts).market.listing.address ≡ accounts.address
front-address made accounts =
    ap (λ (listing : Listing). listing.address) (market_after-listing (calls_at accounts.address made) (market_in accounts))
    ∙ ap (λ (listing : Listing). listing.address) (listing-in accounts)

-- ---- one row

module _ (row : PlainRow) (call : Stamped Call) (m : Market) (acts : Acts row call.item m) (made : List (Stamped Call)) where
  abbrev seen : Seen
  seen = call.item.seen

  abbrev then : List (Stamped Call)
  then = made ++ call ∷ []

  on-market : (b : Bool) (accounts : PlainMarketAccounts) → is_same row.market accounts.address ≡ b → is_same call.item.asked.market accounts.address ≡ b
  on-market b accounts is = ap (λ (a : Address). is_same a accounts.address) acts.market ∙ is

  -- its market
  market-acts : (accounts : PlainMarketAccounts) → is_same row.market accounts.address ≡ true → (market_front made accounts).market ≡ m
      → market_acted row seen (market_front made accounts) ≡ market_front then accounts
  market-acts accounts here own =
      let calls : List Call = calls_at accounts.address made in
      let before : Market = market_after (market_in accounts) calls in
      let after : Market = (row_step row seen before).market in
      let entry_at : Market → Entry = λ (market : Market). let s = row_step row seen market in entry_by row seen s.reply s.transfers in
      let with : List Entry → MarketState = λ (entries : List Entry). record { market = after; entries = entries } in
      let entries : List Entry = map (λ (one : Call). one.entry) calls in
      ap (λ (market : Market). with (entries ++ entry_at market ∷ [])) own
      ∙ ap (λ (entry : Entry). with (entries ++ entry ∷ [])) (sym acts.entry)
      ∙ ap with (sym (map_push (λ (one : Call). one.entry) calls call.item))
      ∙ ap (λ (market : Market). record { market = market; entries = map (λ (one : Call). one.entry) (calls ++ call.item ∷ []) })
      (ap (λ (s : Step). s.market) (sym (acts.step before)) ∙ sym (market_after-one calls call.item (market_in accounts)))
      ∙ ap (market_with accounts) (sym (calls_at-here accounts.address made call (on-market true accounts here)))

  market-stays : (accounts : PlainMarketAccounts) → is_same row.market accounts.address ≡ false → market_front made accounts ≡ market_front then accounts
  market-stays accounts elsewhere = ap (market_with accounts) (sym (calls_at-elsewhere accounts.address made call (on-market false accounts elsewhere)))

  markets-stay : (all : List PlainMarketAccounts) → times row.market (map market_address all) ≤ 0 → map (market_front made) all ≡ map (market_front then) all
  markets-stay [] none = refl
  markets-stay (accounts ∷ all) none =
      let counted = sum_by-cons (λ (address : Address). cond (is_same row.market address) 1 0) accounts.address (map market_address all) in
      ap (λ (state : MarketState). state ∷ map (market_front made) all) (market-stays accounts (no (is_same row.market accounts.address) (omega (arith, none, counted))))
      ∙ ap (λ (states : List MarketState). market_front then accounts ∷ states) (markets-stay all (omega (arith, none, counted)))
    where
      no : (b : Bool) → cond b 1 0 ≤ 0 → b ≡ false
      no true none = absurd (omega (arith, none))
      no false none = refl

  markets-act : (all : List PlainMarketAccounts) → market_at row.market (map (market_front made) all) ≡ Some m
      → times row.market (map market_address all) ≤ 1 → markets_acted row seen (map (market_front made) all) ≡ map (market_front then) all
  markets-act [] at once = refl
  markets-act (accounts ∷ all) at once =
      let state : MarketState = market_front made accounts in
      let states : List MarketState = map (market_front made) all in
      let test : Bool = is_same row.market state.market.listing.address in
      let address : is_same row.market state.market.listing.address ≡ is_same row.market accounts.address =
      ap (λ (a : Address). is_same row.market a) (front-address made accounts) in
      let counted = sum_by-cons (λ (a : Address). cond (is_same row.market a) 1 0) accounts.address (map market_address all) in
      ⊎_elim
      (λ (here : is_same row.market state.market.listing.address ≡ true).
      let first : Some state.market ≡ Some m = sym (cond-true test (Some state.market) (market_at row.market states) here) ∙ at in
      let own : state.market ≡ m = cc in
      let one : ◌≡◌ {A = ℕ} (cond (is_same row.market accounts.address) 1 0) 1 = ap (λ (b : Bool). cond b 1 0) (sym address ∙ here) in
      cond-true test (market_acted row seen state ∷ states) (state ∷ markets_acted row seen states) here
      ∙ (λ i. market-acts accounts (sym address ∙ here) own i ∷ markets-stay all (omega (arith, once, counted, one)) i))
      (λ (apart : is_same row.market state.market.listing.address ≡ false).
      let rest : market_at row.market states ≡ Some m = sym (cond-false test (Some state.market) (market_at row.market states) apart) ∙ at in
      cond-false test (market_acted row seen state ∷ states) (state ∷ markets_acted row seen states) apart
      ∙ (λ i. market-stays accounts (sym address ∙ apart) i ∷ markets-act all rest (omega (arith, once, counted)) i))
      (cases_Bool (is_same row.market state.market.listing.address))

  -- a wallet
  wallet-acts : (account : PlainAccount)
      → wallet_acted row seen (row_step row seen m).transfers (wallet_front made account) ≡ wallet_front then account
  wallet-acts account =
      either (names row account.address)
      ∙ ap (λ (entries : List WalletEntry). wallet_with account (entries_at account.address made ++ entries)) (sym (entries-made row call m acts account.address))
      ∙ ap (wallet_with account) (sym (entries_at-one account.address made call))
    where
      either : (b : Bool) → cond b (wallet_moved row (movement_of seen (row_step row seen m).transfers account.address) (wallet_front made account)) (wallet_front made account)
          ≡ wallet_with account (entries_at account.address made
          ++ cond b (wallet_entry_by row (movement_of seen (row_step row seen m).transfers account.address) ∷ []) [])
      either true =
          let entry : WalletEntry = wallet_entry_by row (movement_of seen (row_step row seen m).transfers account.address) in
          let entries : List WalletEntry = entries_at account.address made ++ entry ∷ [] in
          ap (λ (n : ℕ). record { seen = record (wallet_front made account).seen { balance = n }; entries = entries })
          (sym (balance_after-append (entries_at account.address made) (entry ∷ []) (wallet_words account.bytes).amount))
      either false = ap (wallet_with account) (sym (append-nil (entries_at account.address made)))

  -- the world
  pub next-acts : (script : PlainScript) → market_at row.market (world_front script made).markets ≡ Some m → seen_by row (world_front script made) ≡ seen
      → times row.market (map market_address script.start.markets) ≤ 1 → act row (world_front script made) ≡ world_front script then
  next-acts script at is once =
      let world : World = world_front script made in
      let wallets =
      map-map (wallet_front made) (wallet_acted row seen (row_step row seen m).transfers) script.start.wallets
      ∙ map-agree (λ (account : PlainAccount). wallet_acted row seen (row_step row seen m).transfers (wallet_front made account)) (wallet_front then) script.start.wallets
      (λ k d within. wallet-acts _) in
      ap (λ (found : Option Market). acted row found world) at
      ∙ ap (λ (sight : Seen). record world {
        markets = markets_acted row sight world.markets;
        wallets = map (wallet_acted row sight (row_step row sight m).transfers) world.wallets;
      }) is
      ∙ (λ i. record world { markets = markets-act script.start.markets at once i; wallets = wallets i })

-- ---- the market of the next row

abbrev pub IsMarketLegalAt : List (Stamped Call) → PlainMarketAccounts → Type 0
IsMarketLegalAt made accounts = IsLegal (market_in accounts) (calls_at accounts.address made)

module _ (made later : List (Stamped Call)) (call : Stamped Call) where
  -- its call stands there
  call-stands : (accounts : PlainMarketAccounts) → is_same call.item.asked.market accounts.address ≡ true
      → IsMarketLegalAt (made ++ call ∷ later) accounts → Stands call.item (market_front made accounts).market
  call-stands accounts here legal =
      let address : Address = accounts.address in
      let first : calls_at address (call ∷ later) ≡ call.item ∷ calls_at address later =
      ap items_of (cond-true (is_same call.item.asked.market address) _ _ here) in
      let split : calls_at address (made ++ call ∷ later) ≡ calls_at address made ++ call.item ∷ calls_at address later =
      calls_at-append address made (call ∷ later) ∙ ap (λ (calls : List Call). calls_at address made ++ calls) first in
      let whole : IsLegal (market_in accounts) (calls_at address made ++ call.item ∷ calls_at address later) =
      subst (λ (calls : List Call). IsLegal (market_in accounts) calls) split legal in
      ((IsLegal-append (calls_at address made) (call.item ∷ calls_at address later) (market_in accounts)).0 whole).1.0

  abbrev Found : List PlainMarketAccounts → Type 0
  Found all = (m : Market) × (market_at call.item.asked.market (map (market_front made) all) ≡ Some m) × Stands call.item m

  pub market-found : (all : List PlainMarketAccounts) → has_market call.item.asked.market all ≡ true → All (IsMarketLegalAt (made ++ call ∷ later)) all → Found all
  market-found [] known legal = absurd (false≢true known)
  market-found (accounts ∷ all) known legal =
      let market : Address = call.item.asked.market in
      let state : MarketState = market_front made accounts in
      let states : List MarketState = map (market_front made) all in
      let address : is_same market state.market.listing.address ≡ is_same market accounts.address =
      ap (λ (a : Address). is_same market a) (front-address made accounts) in
      ⊎_elim
      (λ (here : is_same market accounts.address ≡ true). (
        state.market,
        cond-true (is_same market state.market.listing.address) (Some state.market) (market_at market states) (address ∙ here),
        call-stands accounts here (All-head (IsMarketLegalAt (made ++ call ∷ later)) accounts all legal),
      ))
      (λ (apart : is_same market accounts.address ≡ false).
      let rest : Found all = market-found all (sym (ap (λ (b : Bool). b || has_market market all) apart) ∙ known)
      (All-tail (IsMarketLegalAt (made ++ call ∷ later)) accounts all legal) in (
        rest.0,
        cond-false (is_same market state.market.listing.address) (Some state.market) (market_at market states) (address ∙ apart) ∙ rest.1,
        rest.2,
      ))
      (cases_Bool (is_same market accounts.address))

-- ---- all rows

-- each address is that of one market and of one wallet at most
pub record AreOnce (script : PlainScript) : Type 0 where
  pub markets : (address : Address) → times address (map (λ (accounts : PlainMarketAccounts). accounts.address) script.start.markets) ≤ 1
  pub wallets : (address : Address) → times address (map address_of script.start.wallets) ≤ 1

-- the journals of these calls are legal
pub record AreLegal (script : PlainScript) (made : List (Stamped Call)) : Type 0 where
  pub markets : All (IsMarketLegalAt made) script.start.markets
  pub wallets : All (IsWalletLegalAt made) script.start.wallets

-- so are those of fewer calls
pub legal-front : (script : PlainScript) (made later : List (Stamped Call)) → AreLegal script (made ++ later) → AreLegal script made
legal-front script made later legal = record {
  markets = All-weaker (IsMarketLegalAt (made ++ later)) (IsMarketLegalAt made)
      (λ accounts is.
      ((IsLegal-append (calls_at accounts.address made) (calls_at accounts.address later) (market_in accounts)).0
      (subst (IsLegal (market_in accounts)) (calls_at-append accounts.address made later) is)).0)
      script.start.markets legal.markets;
  wallets = All-weaker (IsWalletLegalAt (made ++ later)) (IsWalletLegalAt made)
      (λ account is.
      ((IsWalletLegal-append (entries_at account.address made) (entries_at account.address later) (balance_of account.bytes)).0
      (subst (IsWalletLegal (balance_of account.bytes)) (entries_at-append account.address made later) is)).0)
      script.start.wallets legal.wallets;
}

-- a row of an item, as it acted
abbrev pub acted_in : {script : PlainScript} → Item script → PlainRow
acted_in item = acted_row item.row item.call.item

-- what the next row finds: its market, on which its call stands, and what the call saw
pub record Finds (script : PlainScript) (made : List (Stamped Call)) (item : Item script) : Type 0 where
  pub m : Market
  pub at : market_at item.row.market (world_front script made).markets ≡ Some m
  pub stands : Stands item.call.item m
  pub sees : seen_by item.row (world_front script made) ≡ item.call.item.seen

pub item-finds : (script : PlainScript) (made later : List (Stamped Call)) (item : Item script) → AreOnce script → AreLegal script (made ++ item.call ∷ later)
    → Finds script made item
item-finds script made later item once legal =
    let market : item.call.item.asked.market ≡ item.row.market = ap (λ (asked : Asked). asked.market) item.is.asks in
    let found = market-found made later item.call script.start.markets
    (subst (λ (a : Address). has_market a script.start.markets ≡ true) (sym market) item.is.fits.market) legal.markets in
    let acts : Acts (acted_in item) item.call.item found.0 = stands-acts item.row item.call.item found.0 item.is.asks found.2 in
    record {
      m = found.0;
      at = subst (λ (a : Address). market_at a (world_front script made).markets ≡ Some found.0) market found.1;
      stands = found.2;
      sees = sym (acted_row-sees item.row item.call.item (world_front script made))
          ∙ next-sees (acted_in item) item.call found.0 acts made later script legal.wallets once.wallets item.is.sight;
    }

item-acts : (script : PlainScript) (made later : List (Stamped Call)) (item : Item script) → AreOnce script → AreLegal script (made ++ item.call ∷ later)
    → act (acted_in item) (world_front script made) ≡ world_front script (made ++ item.call ∷ [])
item-acts script made later item once legal =
    let finds : Finds script made item = item-finds script made later item once legal in
    next-acts (acted_in item) item.call finds.m (stands-acts item.row item.call.item finds.m item.is.asks finds.stands) made script
    (ap (λ (a : Address). market_at a (world_front script made).markets) (acted_row-market item.row item.call.item) ∙ finds.at)
    (acted_row-sees item.row item.call.item (world_front script made) ∙ finds.sees) (once.markets (acted_in item).market)

-- the rows as they acted, one after the other
pub items-acted : (script : PlainScript) (made : List (Stamped Call)) (items : List (Item script)) → AreOnce script
    → AreLegal script (made ++ map call_in items) → fold (map acted_in items) (world_front script made) ≡ world_front script (made ++ map call_in items)
items-acted script made [] once legal = ap (world_front script) (sym (append-nil made))
items-acted script made (item ∷ items) once legal =
    let later : List (Stamped Call) = map call_in items in
    let again : (made ++ item.call ∷ []) ++ later ≡ made ++ item.call ∷ later = append_assoc made (item.call ∷ []) later in
    ap (fold (map acted_in items)) (item-acts script made later item once legal)
    ∙ items-acted script (made ++ item.call ∷ []) items once (subst (AreLegal script) (sym again) legal)
    ∙ ap (world_front script) again
