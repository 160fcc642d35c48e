-- what is left of one world is alike
use Rattle.std.proofs.Common.{◌≡◌, ◌∙◌, List, [], ◌∷◌, map, refl, sym}
use Rattle.dex_world.proofs.Common.{AllZip, MarketState, PlainMarketAccounts, World}
use Rattle.dex_replay.proofs.Common.{PlainMarketJournal, PlainOutcome, PlainScript, PlainWalletJournal, StandsFor}
use Rattle.dex_replay.proofs.MappedLists.{head-same, tail-same}
use Rattle.dex_replay.specs.Alike.{AreAlike, StandForOne}
use Rattle.dex_replay.specs.Replays.{IsLeftIn}

-- lists are one where two things that tell an element are the same of both
pub same-by-two : {A B C : Type 0} (f : A → B) (g : A → C) → ((x y : A) → f x ≡ f y → g x ≡ g y → x ≡ y) → (xs ys : List A)
    → map f xs ≡ map f ys → map g xs ≡ map g ys → xs ≡ ys
same-by-two f g tell [] [] first second = refl
same-by-two f g tell (x ∷ xs) (y ∷ ys) first second =
    λ i. tell x y (head-same first) (head-same second) i ∷ same-by-two f g tell xs ys (tail-same first) (tail-same second) i
same-by-two f g tell _ _ first second = absurd (cc)

-- accounts that stand for the markets of one world stand for one market, place by place
pub stand-for-one : (one other : List PlainMarketAccounts) (states : List MarketState)
    → AllZip (λ (accounts : PlainMarketAccounts) (state : MarketState). StandsFor accounts state.market) one states
    → AllZip (λ (accounts : PlainMarketAccounts) (state : MarketState). StandsFor accounts state.market) other states
    → AllZip StandForOne one other
stand-for-one [] [] states first second = tt
stand-for-one [] (y ∷ ys) [] first second = absurd second
stand-for-one (x ∷ xs) [] (state ∷ states) first second = absurd second
stand-for-one (x ∷ xs) (y ∷ ys) (state ∷ states) first second = (
  record { market = state.market; first = first.0; second = second.0 },
  stand-for-one xs ys states first.1 second.1,
)
stand-for-one _ _ _ first second = absurd first

pub left-alike : (script : PlainScript) (world : World) (one other : PlainOutcome) → IsLeftIn script world one → IsLeftIn script world other
    → AreAlike one other
left-alike script world one other first second = record {
  market_journals = same-by-two (λ (j : PlainMarketJournal). j.address) (λ (j : PlainMarketJournal). j.entries)
      (λ a b at with. λ i. record { address = at i; entries = with i })
      one.markets other.markets (first.start.market_journals ∙ sym second.start.market_journals) (first.markets ∙ sym second.markets);
  wallet_journals = same-by-two (λ (j : PlainWalletJournal). j.address) (λ (j : PlainWalletJournal). j.entries)
      (λ a b at with. λ i. record { address = at i; entries = with i })
      one.wallets other.wallets (first.start.wallet_journals ∙ sym second.start.wallet_journals) (first.wallets ∙ sym second.wallets);
  mints = first.start.mints ∙ sym second.start.mints;
  srm = first.start.srm ∙ sym second.start.srm;
  msrm = first.start.msrm ∙ sym second.start.msrm;
  wallets = first.amounts ∙ sym second.amounts;
  markets = stand-for-one one.accounts.markets other.accounts.markets world.markets first.stand second.stand;
}
