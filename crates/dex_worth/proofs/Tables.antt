-- What a journal tells of worth is what a market pays that pays at once.
use Rattle.std.proofs.Common.{◌≡◌, List, map, sym, ap, ◌∙◌, refl, arith}
use Rattle.dex_types.specs.declared.addresses.Address.{Address}
use Rattle.dex_types.specs.Accounts.{PlainMarketAccounts}
use Rattle.dex_types.specs.Market.{Market}
use Rattle.dex_types.specs.Side.{Token, Coin, Pc}
use Rattle.dex_types.specs.Soundness.{IsSound}
use Rattle.dex_types.specs.Totals.{total}
use Rattle.dex_types.specs.Trader.{Trader}
use Rattle.dex_accounts.specs.Decoded.{market_in}
use Rattle.dex_accounts.specs.StandsFor.{StandsFor}
use Rattle.dex_accounts.proofs.Decoded.{told}
use Rattle.dex_history.specs.Journal.{Call, IsLegal, market_after}
use Rattle.dex_eager.specs.Eager.{Eager}
use Rattle.dex_eager.specs.Histories.{eager_end, moves_of}
use Rattle.dex_eager.specs.Worth.{no_moves, worth_in, worth_of}
use Rattle.dex_eager.proofs.DelayLaws.{history-market}
use Rattle.dex_replay.specs.WorthTold.{told_of, worth_told, worths_told}
use Rattle.dex_replay.specs.Told.{told_in, told_out}
use Rattle.dex_worth.proofs.Told.{all-told}

module _ (m : Market) (calls : List Call) (last : PlainMarketAccounts) (sound : IsSound m) (legal : IsLegal m calls) (stands : StandsFor last (market_after m calls)) where
  end-is : market_in last ≡ market_after m calls
  end-is = told last (market_after m calls) stands

  one : (token : Token) (owner : Address) → worth_in token owner (market_after m calls) (moves_of m calls) ≡ told_of token owner last calls
  one token owner =
      let both = all-told token owner m calls no_moves sound legal in
      let deposited : (moves_of m calls).deposited token owner ≡ total (told_in token owner) calls = omega (arith, both.0) in
      let settled : (moves_of m calls).settled token owner ≡ total (told_out token owner) calls = omega (arith, both.1) in
      rw deposited rw settled rw end-is refl

  each : (owner : Address) → worth_of owner (market_after m calls) (moves_of m calls) ≡ worth_told owner last calls
  each owner = rw (one Coin owner) rw (one Pc owner) refl

  pub worths-told : (eager_end m calls).worths ≡ worths_told last calls
  worths-told =
      ap (λ (e : Eager). e.worths) (history-market calls m no_moves sound legal)
      ∙ (λ i. map (λ (entry : Address × Trader). (entry.0, each entry.0 i)) (market_after m calls).traders)
      ∙ ap (λ (at : Market). map (λ (entry : Address × Trader). (entry.0, worth_told entry.0 last calls)) at.traders) (sym end-is)
