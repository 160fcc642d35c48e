-- What is left of a world: journals are its, and accounts tell its markets and wallets, without their journals.
use Rattle.std.proofs.Common.{◌≡◌, ℕ, List, [], ◌∷◌, map, refl, sym, ap, ◌∙◌, subst}
use Rattle.dex_world.proofs.Common.{Address, AllZip, MarketState, PlainAccount, PlainAccounts, PlainMarketAccounts, WalletSeen, WalletState, World}
use Rattle.dex_parts.proofs.Common.{AreAccepted, AreOfOneMarket, IsLeftBy, IsLeftIn, Item, Limits, PlainMarketJournal, PlainOutcome, PlainScript, PlainWalletJournal, StandsFor, WalletWords, address_of, balance_of, head-same, map-map, market_state, start_world, tail-same, wallet_state, wallet_words, wallet_words-with_amount, with_amount, with_amounts, world_after, zip-map}
use Rattle.dex_accounts.proofs.Decoded as decoded
use Rattle.dex_replay.proofs.OneReplay.{same-by-two}
use Rattle.dex_parts.specs.Together.{bare_market, bare_wallet}
use Rattle.dex_parts.proofs.KeptLaws.{named, named-kept}

-- accounts stand for the market of a state
abbrev pub StandIn : PlainMarketAccounts → MarketState → Type 0
StandIn accounts state = StandsFor accounts state.market

-- ---- only the start of a script and its limits count

pub left-as : (a b : PlainScript) (world : World) (outcome : PlainOutcome) → a.start ≡ b.start → a.limits ≡ b.limits → IsLeftIn a world outcome
    → IsLeftIn b world outcome
left-as a b world outcome same limits left = record {
  start = record {
    mints = left.start.mints ∙ ap (λ (start : PlainAccounts). start.mints) same;
    srm = left.start.srm ∙ ap (λ (start : PlainAccounts). start.srm) same;
    msrm = left.start.msrm ∙ ap (λ (start : PlainAccounts). start.msrm) same;
    wallets = left.start.wallets ∙ ap (λ (start : PlainAccounts). map address_of start.wallets) same;
    markets = subst (λ (start : PlainAccounts). AllZip AreOfOneMarket start.markets outcome.accounts.markets) same left.start.markets;
    market_journals = left.start.market_journals ∙ ap (λ (start : PlainAccounts). map (λ (accounts : PlainMarketAccounts). accounts.address) start.markets) same;
    wallet_journals = left.start.wallet_journals ∙ ap (λ (start : PlainAccounts). map address_of start.wallets) same;
  };
  accepted = subst (λ (l : Limits). AreAccepted l outcome.accounts) limits left.accepted;
  markets = left.markets;
  wallets = left.wallets;
  stand = left.stand;
  amounts = left.amounts ∙ ap (λ (start : PlainAccounts). with_amounts start.wallets world.wallets) same;
  balances = left.balances;
}

-- ---- a world told by accounts has no journals

bare-markets : (all : List PlainMarketAccounts) (states : List MarketState) → AllZip StandIn all states → map market_state all ≡ map bare_market states
bare-markets [] [] stand = refl
bare-markets (accounts ∷ all) (state ∷ states) stand =
    λ i. record { market = decoded.told accounts state.market stand.0 i; entries = [] } ∷ bare-markets all states stand.1 i
bare-markets _ _ stand = absurd stand

-- what is seen of a wallet of an address that says this
abbrev seen_with : Address → WalletWords → WalletSeen
seen_with address words = record { address = address; mint = words.mint; owner = words.owner; balance = words.amount }

abbrev bare_with : WalletSeen → WalletState
bare_with seen = record { seen = seen; entries = [] }

bare-wallets : (accounts : List PlainAccount) (states : List WalletState) → map named states ≡ map named (map wallet_state accounts)
    → map (λ (account : PlainAccount). balance_of account.bytes) (with_amounts accounts states) ≡ map (λ (state : WalletState). state.seen.balance) states
    → map wallet_state (with_amounts accounts states) ≡ map bare_wallet states
bare-wallets [] [] same balances = refl
bare-wallets (account ∷ accounts) (state ∷ states) same balances =
    let balance : ℕ = state.seen.balance in
    let bytes : List ℕ = with_amount account.bytes balance in
    let words : wallet_words bytes ≡ record (wallet_words account.bytes) { amount = balance } =
    wallet_words-with_amount account.bytes balance (head-same balances) in
    let own : named state ≡ named (wallet_state account) = head-same same in
    let others : List WalletState = map wallet_state (with_amounts accounts states) in
    ap (λ (told : WalletWords). bare_with (seen_with account.address told) ∷ others) words
    ∙ ap (λ (seen : WalletSeen). bare_with (record seen { balance = balance }) ∷ others) (sym own)
    ∙ ap (λ (rest : List WalletState). bare_wallet state ∷ rest) (bare-wallets accounts states (tail-same same) (tail-same balances))
bare-wallets _ _ same balances = absurd (cc)

-- ---- whose journals they are

-- a market's journal, as its state has it
abbrev pub journal_in : MarketState → PlainMarketJournal
journal_in state = record { address = state.market.listing.address; entries = state.entries }

abbrev pub wallet_journal_in : WalletState → PlainWalletJournal
wallet_journal_in state = record { address = state.seen.address; entries = state.entries }

-- addresses of accounts that stand for markets are theirs
pub stand-addresses : (all : List PlainMarketAccounts) (states : List MarketState) → AllZip StandIn all states
    → map (λ (state : MarketState). state.market.listing.address) states ≡ map (λ (accounts : PlainMarketAccounts). accounts.address) all
stand-addresses all states stand =
    zip-map StandIn (λ (accounts : PlainMarketAccounts). accounts.address) (λ (state : MarketState). state.market.listing.address)
    (λ accounts state stands. sym stands.address) all states stand

pub same-addresses : (first last : List PlainMarketAccounts) → AllZip AreOfOneMarket first last
    → map (λ (accounts : PlainMarketAccounts). accounts.address) last ≡ map (λ (accounts : PlainMarketAccounts). accounts.address) first
same-addresses first last are =
    zip-map AreOfOneMarket (λ (accounts : PlainMarketAccounts). accounts.address) (λ (accounts : PlainMarketAccounts). accounts.address)
    (λ one other same. same.address) first last are

module _ (script : PlainScript) (items : List Item) (outcome : PlainOutcome) (left : IsLeftBy script items outcome) where
  abbrev world : World
  world = world_after script items

  pub named-left : map named world.wallets ≡ map named (map wallet_state script.start.wallets)
  named-left = named-kept items (start_world script)

  pub markets-told : map market_state outcome.accounts.markets ≡ map bare_market world.markets
  markets-told = bare-markets outcome.accounts.markets world.markets left.stand

  pub wallets-told : map wallet_state outcome.accounts.wallets ≡ map bare_wallet world.wallets
  wallets-told =
      ap (map wallet_state) left.amounts
      ∙ bare-wallets script.start.wallets world.wallets named-left (ap (map (λ (account : PlainAccount). balance_of account.bytes)) (sym left.amounts) ∙ left.balances)

  pub journals-left : outcome.markets ≡ map journal_in world.markets
  journals-left =
      let address : PlainMarketJournal → Address = λ (journal : PlainMarketJournal). journal.address in
      same-by-two address (λ (journal : PlainMarketJournal). journal.entries) (λ one other at with. λ i. record { address = at i; entries = with i })
      outcome.markets (map journal_in world.markets)
      (left.start.market_journals ∙ sym (same-addresses script.start.markets outcome.accounts.markets left.start.markets)
      ∙ sym (stand-addresses outcome.accounts.markets world.markets left.stand) ∙ sym (map-map journal_in address world.markets))
      (left.markets ∙ sym (map-map journal_in (λ (journal : PlainMarketJournal). journal.entries) world.markets))

  pub wallet-journals-left : outcome.wallets ≡ map wallet_journal_in world.wallets
  wallet-journals-left =
      let address : PlainWalletJournal → Address = λ (journal : PlainWalletJournal). journal.address in
      let seen_address : WalletSeen → Address = λ (seen : WalletSeen). seen.address in
      same-by-two address (λ (journal : PlainWalletJournal). journal.entries) (λ one other at with. λ i. record { address = at i; entries = with i })
      outcome.wallets (map wallet_journal_in world.wallets)
      (left.start.wallet_journals
      ∙ sym (map-map wallet_state (λ (state : WalletState). state.seen.address) script.start.wallets)
      ∙ sym (map-map named seen_address (map wallet_state script.start.wallets))
      ∙ ap (map seen_address) (sym named-left)
      ∙ map-map named seen_address world.wallets
      ∙ sym (map-map wallet_journal_in address world.wallets))
      (left.wallets ∙ sym (map-map wallet_journal_in (λ (journal : PlainWalletJournal). journal.entries) world.wallets))
