-- The world after some calls: each market after those on it, and each wallet after their entries in its journal.
use Rattle.std.proofs.Common.{◌≡◌, Bool, true, false, List, [], ◌∷◌, ◌++◌, map, refl, sym, ap, ◌∙◌}
use Rattle.dex_world.proofs.Common.{Address, Call, MarketState, PlainAccount, PlainMarketAccounts, WalletEntry, WalletState, World, balance_after, filter-append, is_same, map_push, market_after}
use Rattle.dex_replay.proofs.Common.{PlainScript, market_in, wallet_words}
use Rattle.dex_serializable.proofs.Common.{Stamped, calls_on, entries_in, entries_on, filter-push_no, filter-push_yes}
use Rattle.std.proofs.lemmas.List.{append-nil, append_assoc, map-append}
use Rattle.dex_stamps.specs.Stamped.{items_of}

-- ---- definitions

-- the calls on a market, and the entries in a wallet's journal
abbrev pub calls_at : Address → List (Stamped Call) → List Call
calls_at address made = items_of (calls_on address made)

abbrev pub entries_at : Address → List (Stamped Call) → List WalletEntry
entries_at address made = items_of (entries_on address made)

-- a market after calls, and a wallet after entries
abbrev pub market_with : PlainMarketAccounts → List Call → MarketState
market_with accounts calls =
    record { market = market_after (market_in accounts) calls; entries = map (λ (call : Call). call.entry) calls }

abbrev pub wallet_with : PlainAccount → List WalletEntry → WalletState
wallet_with account entries = record {
  seen = record {
    address = account.address;
    mint = (wallet_words account.bytes).mint;
    owner = (wallet_words account.bytes).owner;
    balance = balance_after (wallet_words account.bytes).amount entries;
  };
  entries = entries;
}

abbrev pub market_front : List (Stamped Call) → PlainMarketAccounts → MarketState
market_front made accounts = market_with accounts (calls_at accounts.address made)

abbrev pub wallet_front : List (Stamped Call) → PlainAccount → WalletState
wallet_front made account = wallet_with account (entries_at account.address made)

abbrev pub world_front : PlainScript → List (Stamped Call) → World
world_front script made = record {
  markets = map (market_front made) script.start.markets;
  wallets = map (wallet_front made) script.start.wallets;
  srm = script.start.srm;
  msrm = script.start.msrm;
  program = script.program;
}

-- ---- calls and entries of lists one behind the other

abbrev on_it : Address → Stamped Call → Bool
on_it address call = is_same call.item.asked.market address

pub calls_at-here : (address : Address) (made : List (Stamped Call)) (call : Stamped Call) → is_same call.item.asked.market address ≡ true
    → calls_at address (made ++ call ∷ []) ≡ calls_at address made ++ call.item ∷ []
calls_at-here address made call here =
    ap items_of (filter-push_yes (on_it address) made call here) ∙ map_push (λ (one : Stamped Call). one.item) (calls_on address made) call

pub calls_at-elsewhere : (address : Address) (made : List (Stamped Call)) (call : Stamped Call) → is_same call.item.asked.market address ≡ false
    → calls_at address (made ++ call ∷ []) ≡ calls_at address made
calls_at-elsewhere address made call elsewhere = ap items_of (filter-push_no (on_it address) made call elsewhere)

pub calls_at-append : (address : Address) (made later : List (Stamped Call)) → calls_at address (made ++ later) ≡ calls_at address made ++ calls_at address later
calls_at-append address made later =
    ap items_of (filter-append (on_it address) made later) ∙ map-append (λ (one : Stamped Call). one.item) (calls_on address made) (calls_on address later)

entries_on-append : (address : Address) (made later : List (Stamped Call)) → entries_on address (made ++ later) ≡ entries_on address made ++ entries_on address later
entries_on-append address [] later = refl
entries_on-append address (call ∷ made) later =
    ap (λ (entries : List (Stamped WalletEntry)). entries_in address call ++ entries) (entries_on-append address made later)
    ∙ sym (append_assoc (entries_in address call) (entries_on address made) (entries_on address later))

pub entries_at-append : (address : Address) (made later : List (Stamped Call)) → entries_at address (made ++ later) ≡ entries_at address made ++ entries_at address later
entries_at-append address made later =
    ap items_of (entries_on-append address made later) ∙ map-append (λ (one : Stamped WalletEntry). one.item) (entries_on address made) (entries_on address later)

pub entries_at-first : (address : Address) (call : Stamped Call) (later : List (Stamped Call))
    → entries_at address (call ∷ later) ≡ items_of (entries_in address call) ++ entries_at address later
entries_at-first address call later = map-append (λ (one : Stamped WalletEntry). one.item) (entries_in address call) (entries_on address later)

pub entries_at-one : (address : Address) (made : List (Stamped Call)) (call : Stamped Call)
    → entries_at address (made ++ call ∷ []) ≡ entries_at address made ++ items_of (entries_in address call)
entries_at-one address made call =
    entries_at-append address made (call ∷ [])
    ∙ ap (λ (entries : List WalletEntry). entries_at address made ++ entries) (entries_at-first address call [] ∙ append-nil (items_of (entries_in address call)))
