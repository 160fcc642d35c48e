-- What a trader's account is worth at a place of a market's history, and what the market has taken for itself and for
-- referrers.
use Rattle.std.specs.Prelude.{ℕ, ℤ, pos, ◌+◌, ◌+ℤ◌, ◌-ℤ◌, List, [], ◌∷◌, Option, Some, None, Bool, false, if◌then◌else◌}
use Rattle.dex_types.specs.declared.addresses.Address.{Address}
use Rattle.dex_types.specs.declared.replies.Reply.{Reply}
use Rattle.dex_types.specs.declared.replies.Reply.TheVariants.{Ordered, Settled, Swept}
use Rattle.dex_types.specs.Addresses.{is_same}
use Rattle.dex_types.specs.Market.{Market}
use Rattle.dex_types.specs.Owed.{owed, is_event_of}
use Rattle.dex_types.specs.QueuedEvent.{QueuedEvent}
use Rattle.dex_types.specs.Side.{Token, Coin, Pc, by_token}
use Rattle.dex_types.specs.Solvency.{free_of, own_locked}
use Rattle.dex_types.specs.Steps.{Step}
use Rattle.dex_types.specs.Totals.{total, weighed_where}
use Rattle.dex_types.specs.Trader.{Trader, trader_at}
use Rattle.dex_types.specs.Transfers.{Transfers}

-- native amounts of base and of quote, where less than nothing is an amount too
pub record Worth : Type 0 where
  pub coin : ℤ
  pub pc : ℤ

-- both together
abbrev pub plus : Worth → Worth → Worth
plus worth more = record { coin = worth.coin +ℤ more.coin; pc = worth.pc +ℤ more.pc }

-- what comes in of each token, less what goes out of it
abbrev pub net : (Token → ℕ) → (Token → ℕ) → Worth
net gains pays = record { coin = pos (gains Coin) -ℤ pos (pays Coin); pc = pos (gains Pc) -ℤ pos (pays Pc) }

-- what moved between wallets and the market so far, in native amounts: of each token what an account's new orders took
-- from wallets, and what settling it paid out to it; and the quote that sweeping paid out, and that went to referrers'
-- wallets
pub record Ledger : Type 0 where
  pub deposited : Token → Address → ℕ
  pub settled : Token → Address → ℕ
  pub swept : ℕ
  pub referred : ℕ

-- nothing moved yet
abbrev pub no_moves : Ledger
no_moves = record { deposited = λ token owner. 0; settled = λ token owner. 0; swept = 0; referred = 0 }

-- the account is the one that a row acts on, which it names first
abbrev pub is_first : Address → List Address → Bool
is_first owner [] = false
is_first owner (first ∷ others) = is_same owner first

-- what a row with this answer took from a wallet for its account: the deposit of a new order. What a take pays is for
-- no account
abbrev pub deposit_in : Token → Reply → Transfers → ℕ
deposit_in token (Ordered slot id lots pc fee rested) t = by_token token t.coin_in t.pc_in
deposit_in token reply t = 0

-- what a row with this answer paid out to its account's person
abbrev pub settled_in : Token → Reply → ℕ
settled_in token (Settled coin pc referrer) = by_token token coin pc
settled_in token reply = 0

-- the market's fees that a row with this answer paid out
abbrev pub swept_in : Reply → ℕ
swept_in (Swept pc) = pc
swept_in reply = 0

-- the referrer part that a row with this answer paid to a referrer's wallet
abbrev pub referred_in : Reply → ℕ
referred_in (Settled coin pc referrer) = referrer
referred_in reply = 0

-- an amount of the account that a row names first
abbrev pub for_account : Address → List Address → ℕ → ℕ
for_account owner named amount = if is_first owner named then amount else 0

-- what moved so far, with a step of a row that names these accounts
abbrev pub with_step : List Address → Step → Ledger → Ledger
with_step named s ledger = record {
  deposited = λ token owner. ledger.deposited token owner + for_account owner named (deposit_in token s.reply s.transfers);
  settled = λ token owner. ledger.settled token owner + for_account owner named (settled_in token s.reply);
  swept = ledger.swept + swept_in s.reply;
  referred = ledger.referred + referred_in s.reply;
}

-- what a trader has free of a token, if the market has the trader
abbrev pub free_in : Token → Option Trader → ℕ
free_in token None = 0
free_in token (Some trader) = free_of token trader

-- what pending events owe an account of a token
abbrev pub own_owed : Token → Address → List QueuedEvent → ℕ
own_owed token owner events = total (weighed_where (is_event_of owner) (owed token)) events

-- what the market holds of a token for an account: what is free, what its resting orders lock, and what pending events
-- owe it
abbrev pub held_for : Token → Address → Market → ℕ
held_for token owner m = free_in token (trader_at owner m.traders) + own_locked token owner m + own_owed token owner m.events

-- an account's worth in a token: what the market holds for it, less what it deposited, plus what was settled out to it
abbrev pub worth_in : Token → Address → Market → Ledger → ℤ
worth_in token owner m ledger = (pos (held_for token owner m) -ℤ pos (ledger.deposited token owner)) +ℤ pos (ledger.settled token owner)

-- an account's worth: what its fills alone gave and took. The referrer part is not the account's
abbrev pub worth_of : Address → Market → Ledger → Worth
worth_of owner m ledger = record { coin = worth_in Coin owner m ledger; pc = worth_in Pc owner m ledger }

-- what the market has taken of quote: its fees and the referrer rebates that it holds, and what of both went to wallets
abbrev pub takings_of : Market → Ledger → ℕ
takings_of m ledger = m.pc_fees + m.referrer_rebates + ledger.swept + ledger.referred
