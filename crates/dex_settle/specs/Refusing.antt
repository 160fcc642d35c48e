-- Why a call is refused, by what it reads alone: the terms and flags of the market account, an account, the signer, and
-- what the row sees.
use Rattle.std.specs.Prelude.{ℕ, List, [], ◌∷◌, Option, Some, Result, ◌==◌, is_some}
use Rattle.dex_types.specs.declared.addresses.Address.{Address}
use Rattle.dex_types.specs.declared.refusals.Refusal.{Refusal}
use Rattle.dex_types.specs.declared.refusals.Refusal.TheVariants as refusal
use Rattle.dex_types.specs.declared.rows.Seen.{Seen}
use Rattle.dex_types.specs.Reasons.{answered, first_of, missing, not_person, other_mint, too_full}
use Rattle.dex_types.specs.Settle.{settlement}
use Rattle.dex_types.specs.Trader.{Account, Trader, Open, Closed, Blank}
use Rattle.dex_types.specs.Transfers.{Transfers}
use Rattle.dex_types.specs.Why.{settling_reasons, sweeping_reasons, why_closing, why_disabling, why_opening}
use Rattle.dex_market.specs.MarketAccount.{MarketTerms, MarketWords}
use Rattle.dex_settle.specs.declared.plan.SettlePlan.{SettlePlan}
use Rattle.dex_settle.specs.PayingOut.{plan_of}

-- the reasons against settling that ask for wallets, for the signer and for the wallets' mints
abbrev pub early_settle_reasons : MarketTerms → Address → Seen → Account → List (Option Refusal)
early_settle_reasons terms signer seen account =
    missing seen.coin
    ∷ missing seen.pc
    ∷ not_person account.person signer
    ∷ other_mint terms.coin_mint seen.coin
    ∷ other_mint terms.pc_mint seen.pc
    ∷ other_mint terms.pc_mint seen.referrer
    ∷ []

-- the reasons against transfers that ask for the balances of the wallets
abbrev pub full_reasons : Seen → Transfers → List (Option Refusal)
full_reasons seen transfers = too_full seen transfers seen.coin ∷ too_full seen transfers seen.pc ∷ too_full seen transfers seen.referrer ∷ []

-- why settling an account is refused
abbrev pub settle_reason : MarketTerms → Address → Seen → Account → Option Refusal
settle_reason terms signer seen account = first_of (settling_reasons seen signer terms.coin_mint terms.pc_mint account)

-- what deciding it answers
abbrev pub settle_answer : MarketTerms → Address → Seen → Account → Result SettlePlan Refusal
settle_answer terms signer seen account = answered (settle_reason terms signer seen account) (plan_of (settlement (is_some seen.referrer) account))

-- why sweeping the fees is refused
abbrev pub sweep_reason : MarketWords → Address → Address → Seen → Option Refusal
sweep_reason words authority signer seen = first_of (sweeping_reasons seen signer authority words.terms.pc_mint words.pc_fees_accrued)

-- why disabling is refused
abbrev pub disable_reason : ℕ → Address → Address → Option Refusal
disable_reason flags authority signer = why_disabling (flags == 131) authority signer

-- why opening an account is refused
abbrev pub init_reason : ℕ → Trader → Option Refusal
init_reason flags trader = why_opening (flags == 131) (Some trader)

-- why closing an account is refused
abbrev pub close_reason : Address → Trader → Option Refusal
close_reason signer (Open account) = why_closing signer account
close_reason signer Closed = Some refusal.NoAccount
close_reason signer Blank = Some refusal.NoAccount
