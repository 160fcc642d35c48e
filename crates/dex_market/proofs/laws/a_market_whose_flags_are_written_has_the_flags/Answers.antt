use Rattle.std.proofs.Common.{◌≡◌, ℕ, ◌<◌, ◌^◌, List, refl, sym, subst, inl, inr, arith, lit≤}
use Rattle.dex_fields.specs.declared.market.TheConstants.{ACCOUNT_FLAGS}
use Rattle.dex_fields.specs.Bytes.{number_in, with_number}
use Rattle.dex_fields.proofs.Writing.{number_in-with_number}
use Rattle.dex_market.specs.MarketAccount.{AreMarketFlags, IsMarket}
use Rattle.dex_market.proofs.WordWrites.{IsMarket-with_number, account_flags_written}
use Rattle.dex_market.proofs.laws.a_market_whose_flags_are_written_has_the_flags.Goals as goal

fits : (flags : ℕ) → AreMarketFlags flags → flags < 2 ^ 64
fits flags (inl is) = omega (arith, is)
fits flags (inr is) = omega (arith, is)

given : (bytes : List ℕ) (flags : ℕ) → IsMarket bytes → AreMarketFlags flags → number_in (with_number bytes ACCOUNT_FLAGS flags) ACCOUNT_FLAGS ≡ flags
given bytes flags market are = number_in-with_number bytes ACCOUNT_FLAGS flags (omega (arith, market.size)) (omega (arith, fits flags are))

pub returns-clause-words : goal.returns-clause-words
returns-clause-words c = λ bytes flags market are. account_flags_written bytes flags (given bytes flags market are)

pub returns-clause-accepted : goal.returns-clause-accepted
returns-clause-accepted c =
    λ bytes flags market are.
    IsMarket-with_number bytes ACCOUNT_FLAGS flags refl (lit≤ tt) (lit≤ tt) (subst AreMarketFlags (sym (given bytes flags market are)) are) market
