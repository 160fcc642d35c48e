-- a sound market can pay what an account has free, and its words after that
use Rattle.std.proofs.Common.{Bool, true, false, refl, inl, inr, ℕ, ◌+◌, ◌-◌, ◌≤◌, ◌<◌, ◌≡◌, ◌^◌, Some, List, sym, ap, subst, ◌∙◌, arith}
use Rattle.dex_types.specs.declared.addresses.Address.{Address}
use Rattle.dex_types.specs.Market.{Market}
use Rattle.dex_types.specs.Settle.{after_settle, settled_account, settlement}
use Rattle.dex_types.specs.Side.{Coin, Pc}
use Rattle.dex_types.specs.Soundness.{IsSound}
use Rattle.dex_types.specs.Trader.{Account, Open, Closed, Traders, put_trader, trader_at}
use Rattle.dex_accounts.specs.Parts.{AreOf, HasOpen, MarketParts, with_account}
use Rattle.dex_accounts.proofs.PartLaws.{AreOf-account, AreOf-market, StandsForTrader-open, trader_at-open, trader_of-open}
use Rattle.dex_market.specs.MarketAccount.{MarketWords, market_words}
use Rattle.dex_market.specs.StandsFor.{StandsForMarket, words_of}
use Rattle.dex_market.proofs.FundsWrites.{are-written}
use Rattle.dex_orders.specs.OrdersAccount.{FundsFit, IsOpen, account_of, funded}
use Rattle.dex_orders.specs.StandsFor.{StandsForTrader}
use Rattle.dex_orders.proofs.WriteLaws.{IsOpen-funded, account_of-funded, market_of-funded}
use Rattle.dex_sound.proofs.FieldLaws.{fields-fit}
use Rattle.dex_sound.proofs.TraderSums.{all_free-put, all_referrers-put}
use Rattle.dex_settle.specs.declared.plan.SettlePlan.{SettlePlan}
use Rattle.dex_settle.specs.PayingOut.{CanPay, PaysOut, bytes_after, funds_after, market_after, plan_of, settled, settlement_by, words_after}
use Rattle.dex_settle.specs.SettleGiven.{IsOfSound, SettleGiven, settle_given, with_settled}

-- what is paid to the pc wallet and to the referrer fits a field
pub pc-fits : (m : Market) (owner : Address) (account : Account) → IsSound m → trader_at owner m.traders ≡ Some (Open account)
    → account.pc.free + account.referrer < 2 ^ 64
pc-fits m owner account sound found =
    omega (
      arith,
      sound.funds.solvent.vaults Pc,
      sound.funds.solvent.referrers,
      sound.funds.bounded Pc,
      all_free-put Pc owner (Open account) Closed m.traders found,
      all_referrers-put owner (Open account) Closed m.traders found,
    )

-- the words of a sound market can pay all that an account has free
pub can-pay : (m : Market) (owner : Address) (account : Account) (plan : SettlePlan) → IsSound m → trader_at owner m.traders ≡ Some (Open account)
    → PaysOut plan account → CanPay plan (words_of m)
can-pay m owner account plan sound found out =
    let coin_vault = sound.funds.solvent.vaults Coin in
    let pc_vault = sound.funds.solvent.vaults Pc in
    let referrers = all_referrers-put owner (Open account) Closed m.traders found in
    let rebates : plan.referrer + plan.to_fees ≤ m.referrer_rebates = omega (arith, out.referrer, sound.funds.solvent.referrers, referrers) in
    record {
      coin = omega (arith, out.coin, coin_vault, all_free-put Coin owner (Open account) Closed m.traders found);
      pc = omega (arith, out.pc, pc_vault, all_free-put Pc owner (Open account) Closed m.traders found);
      fees = omega (arith, rebates, pc_vault, sound.funds.bounded Pc);
      rebates = rebates;
    }

-- the words after that are those of the market after it
pub words-after : (m : Market) (owner : Address) (account : Account) (plan : SettlePlan) → IsSound m → trader_at owner m.traders ≡ Some (Open account)
    → PaysOut plan account → words_after plan (words_of m) ≡ words_of (after_settle owner account (settlement_by plan) m)
words-after m owner account plan sound found out =
    let can = can-pay m owner account plan sound found out in
    let after : MarketWords = words_of (after_settle owner account (settlement_by plan) m) in
    let coin : m.coin_vault - m.coin_fees - plan.coin ≡ m.coin_vault + 0 - plan.coin - m.coin_fees = omega arith in
    let pc : m.pc_vault - (m.pc_fees + m.referrer_rebates) - plan.pc ≡ m.pc_vault + 0 - plan.pc - plan.referrer - (m.pc_fees + plan.to_fees + (m.referrer_rebates - (plan.referrer + plan.to_fees))) =
    omega (arith, can.rebates) in
    ap (λ (x : ℕ). record after { coin_deposits_total = x; pc_deposits_total = m.pc_vault - (m.pc_fees + m.referrer_rebates) - plan.pc }) coin
    ∙ ap (λ (x : ℕ). record after { pc_deposits_total = x }) pc

-- what is decided pays out all that is free
pub pays-out_all : (has_referrer : Bool) (account : Account) → PaysOut (plan_of (settlement has_referrer account)) account
pays-out_all true account = record { coin = refl; pc = refl; referrer = omega arith }
pays-out_all false account = record { coin = refl; pc = refl; referrer = omega arith }

-- what is given is of a sound market: its account, and the open account of this owner on it
pub record IsGivenOf (given : SettleGiven) (owner : Address) (m : Market) : Type 0 where
  pub sound : IsSound m
  pub market : StandsForMarket given.market m
  pub account : StandsForTrader given.account m.listing.address (Open (account_of given.account))
  pub known : trader_at owner m.traders ≡ Some (Open (account_of given.account))

pub given-of : (owner : Address) (bytes : List ℕ) (parts : MarketParts) (m : Market) → IsSound m → AreOf parts m → HasOpen owner bytes parts
    → IsGivenOf (settle_given bytes parts) owner m
given-of owner bytes parts m sound are has =
    record { sound = sound; market = are.market; account = StandsForTrader-open parts m are owner bytes has; known = trader_at-open parts m are owner bytes has }

pub given-of_sound : (given : SettleGiven) (is : IsOfSound given) → IsGivenOf given is.owner is.sound.market
given-of_sound given is =
    subst (λ (g : SettleGiven). IsGivenOf g is.owner is.sound.market) is.is (given-of is.owner given.account is.whole is.sound.market is.sound.sound is.sound.are is.has)

-- so it can be paid
pub given-can_pay : (given : SettleGiven) (owner : Address) (m : Market) (plan : SettlePlan) → IsGivenOf given owner m → PaysOut plan (account_of given.account)
    → CanPay plan (market_words given.market)
given-can_pay given owner m plan of out = subst (CanPay plan) (sym of.market.words) (can-pay m owner (account_of given.account) plan of.sound of.known out)

-- the market's account after that
market-after : (given : SettleGiven) (owner : Address) (m : Market) (plan : SettlePlan) → IsGivenOf given owner m → PaysOut plan (account_of given.account)
    → StandsForMarket (bytes_after plan given.market) (after_settle owner (account_of given.account) (settlement_by plan) m)
market-after given owner m plan of out =
    let words : MarketWords = market_words given.market in
    let coin : words.coin_deposits_total ≡ m.coin_vault - m.coin_fees = ap (λ (w : MarketWords). w.coin_deposits_total) of.market.words in
    let pc : words.pc_deposits_total ≡ m.pc_vault - (m.pc_fees + m.referrer_rebates) = ap (λ (w : MarketWords). w.pc_deposits_total) of.market.words in
    let rebates : words.referrer_rebates_accrued ≡ m.referrer_rebates = ap (λ (w : MarketWords). w.referrer_rebates_accrued) of.market.words in
    let can : CanPay plan words = given-can_pay given owner m plan of out in
    let written = are-written (market_after plan words) given.market of.market.accepted (record {
      coin_deposits = omega (arith, coin, of.sound.funds.bounded Coin);
      pc_deposits = omega (arith, pc, of.sound.funds.bounded Pc);
      pc_fees = can.fees;
      referrer_rebates = omega (arith, rebates, of.sound.funds.bounded Pc, of.sound.funds.solvent.vaults Pc);
    }) in
    record {
      accepted = written.accepted;
      words = written.words ∙ ap (words_after plan) of.market.words ∙ words-after m owner (account_of given.account) plan of.sound of.known out;
    }

-- the account after that
account-after : (given : SettleGiven) (owner : Address) (m : Market) → IsGivenOf given owner m → IsOpen given.account
    → StandsForTrader (funded given.account (funds_after (account_of given.account))) m.listing.address (Open (settled_account (account_of given.account)))
account-after given owner m of is_open =
    let account : Account = account_of given.account in
    let held = (fields-fit m of.sound).accounts owner account of.known in
    let fit : FundsFit (funds_after account) = record {
      coin = omega arith;
      pc = omega arith;
      coin_total = omega (arith, held.total Coin);
      pc_total = omega (arith, held.total Pc);
      referrer = omega arith;
    } in
    let after : List ℕ = funded given.account (funds_after account) in
    let accepted : IsOpen after = IsOpen-funded given.account (funds_after account) is_open fit in
    record {
      accepted = inr (inl accepted);
      stands = trader_of-open after accepted ∙ ap (λ (a : Account). Open a) (account_of-funded given.account (funds_after account) is_open fit);
      on_market = λ opened. market_of-funded given.account (funds_after account) is_open fit ∙ of.account.on_market is_open;
    }

-- what settling left, put back, is of the market after it
pub after-put : (plan : SettlePlan) (owner : Address) (bytes : List ℕ) (parts : MarketParts) (m : Market) → IsSound m → AreOf parts m → HasOpen owner bytes parts
    → PaysOut plan (account_of bytes)
    → AreOf (with_settled owner (settled plan (settle_given bytes parts)) parts) (after_settle owner (account_of bytes) (settlement_by plan) m)
after-put plan owner bytes parts m sound are has out =
    let given : SettleGiven = settle_given bytes parts in
    let of : IsGivenOf given owner m = given-of owner bytes parts m sound are has in
    let account : Account = account_of bytes in
    let left : SettleGiven = settled plan given in
    let put = AreOf-account parts m are owner bytes left.account (Open (settled_account account)) has.found (account-after given owner m of has.accepted) in
    let traders : Traders = put_trader owner (Open (settled_account account)) m.traders in
    AreOf-market (with_account owner left.account parts) (record m { traders = traders }) put left.market
    (m.coin_vault + 0 - plan.coin) (m.pc_vault + 0 - plan.pc - plan.referrer) m.coin_fees (m.pc_fees + plan.to_fees) (m.referrer_rebates - (plan.referrer + plan.to_fees)) m.is_disabled
    (market-after given owner m plan of out)
