-- what writing a market's funds leaves of its words
use Rattle.std.proofs.Common.{◌≡◌, ℕ, List, refl, ap, ◌∙◌, arith, lit≤}
use Rattle.dex_fields.specs.declared.market.TheConstants.{COIN_DEPOSITS_TOTAL, PC_DEPOSITS_TOTAL, PC_FEES_ACCRUED, REFERRER_REBATES_ACCRUED}
use Rattle.dex_fields.specs.Bytes.{with_number}
use Rattle.dex_fields.proofs.Writing.{number_in-with_number}
use Rattle.dex_market.specs.declared.funds.MarketFunds.{MarketFunds}
use Rattle.dex_market.specs.MarketAccount.{IsMarket, MarketWords, market_words}
use Rattle.dex_market.specs.MarketFunds.{FundsFit, with_funds, words_with_funds}
use Rattle.dex_market.proofs.WordWrites.{IsMarket-beside, coin_deposits_total_written, pc_deposits_total_written, pc_fees_accrued_written, referrer_rebates_accrued_written}

-- funds that are written stand there, and the account stays accepted
pub record AreWritten (funds : MarketFunds) (bytes : List ℕ) : Type 0 where
  pub words : market_words (with_funds funds bytes) ≡ words_with_funds funds (market_words bytes)
  pub accepted : IsMarket (with_funds funds bytes)

pub are-written : (funds : MarketFunds) (bytes : List ℕ) → IsMarket bytes → FundsFit funds → AreWritten funds bytes
are-written funds bytes market fit =
    let a : List ℕ = with_number bytes COIN_DEPOSITS_TOTAL funds.coin_deposits in
    let b : List ℕ = with_number a PC_DEPOSITS_TOTAL funds.pc_deposits in
    let c : List ℕ = with_number b PC_FEES_ACCRUED funds.pc_fees in
    let d : List ℕ = with_number c REFERRER_REBATES_ACCRUED funds.referrer_rebates in
    let at_a : IsMarket a = IsMarket-beside bytes COIN_DEPOSITS_TOTAL funds.coin_deposits refl (lit≤ tt) (lit≤ tt) market in
    let at_b : IsMarket b = IsMarket-beside a PC_DEPOSITS_TOTAL funds.pc_deposits refl (lit≤ tt) (lit≤ tt) at_a in
    let at_c : IsMarket c = IsMarket-beside b PC_FEES_ACCRUED funds.pc_fees refl (lit≤ tt) (lit≤ tt) at_b in
    let word_a : market_words a ≡ record (market_words bytes) { coin_deposits_total = funds.coin_deposits } =
    coin_deposits_total_written bytes funds.coin_deposits (number_in-with_number bytes COIN_DEPOSITS_TOTAL funds.coin_deposits (omega (arith, market.size)) (omega (arith, fit.coin_deposits))) in
    let word_b : market_words b ≡ record (market_words a) { pc_deposits_total = funds.pc_deposits } =
    pc_deposits_total_written a funds.pc_deposits (number_in-with_number a PC_DEPOSITS_TOTAL funds.pc_deposits (omega (arith, at_a.size)) (omega (arith, fit.pc_deposits))) in
    let word_c : market_words c ≡ record (market_words b) { pc_fees_accrued = funds.pc_fees } =
    pc_fees_accrued_written b funds.pc_fees (number_in-with_number b PC_FEES_ACCRUED funds.pc_fees (omega (arith, at_b.size)) (omega (arith, fit.pc_fees))) in
    let word_d : market_words d ≡ record (market_words c) { referrer_rebates_accrued = funds.referrer_rebates } =
    referrer_rebates_accrued_written c funds.referrer_rebates (number_in-with_number c REFERRER_REBATES_ACCRUED funds.referrer_rebates (omega (arith, at_c.size)) (omega (arith, fit.referrer_rebates))) in
    record {
      words = word_d
          ∙ ap (λ (w : MarketWords). record w { referrer_rebates_accrued = funds.referrer_rebates }) word_c
          ∙ ap (λ (w : MarketWords). record w { pc_fees_accrued = funds.pc_fees; referrer_rebates_accrued = funds.referrer_rebates }) word_b
          ∙ ap (λ (w : MarketWords). record w { pc_deposits_total = funds.pc_deposits; pc_fees_accrued = funds.pc_fees; referrer_rebates_accrued = funds.referrer_rebates }) word_a;
      accepted = IsMarket-beside c REFERRER_REBATES_ACCRUED funds.referrer_rebates refl (lit≤ tt) (lit≤ tt) at_c;
    }
