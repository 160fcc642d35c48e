use Rattle.std.proofs.Common.{lit≤, refl, sym, ap, subst, ◌∙◌}
use Rattle.dex_fields.specs.declared.market.TheConstants.{ACCOUNT_FLAGS}
use Rattle.dex_market.specs.MarketAccount.{AreMarketFlags, IsMarket, market_words}
use Rattle.dex_market.proofs.WordWrites.{IsMarket-with_number, account_flags_written, put-given}
use Rattle.dex_market.proofs.market_view.MarketView.set_account_flags.Goals as goal

pub returns-clause-words : goal.returns-clause-words
returns-clause-words c =
    ap market_words c.put_u64.ensures.bytes ∙ account_flags_written c.args.self.now.bytes.now c.args.value (put-given _ _ _ _ c.put_u64.ensures.bytes c.put_u64.ensures.given)

pub returns-clause-accepted : goal.returns-clause-accepted
returns-clause-accepted c =
    subst IsMarket (sym c.put_u64.ensures.bytes) (IsMarket-with_number c.args.self.now.bytes.now ACCOUNT_FLAGS c.args.value refl (lit≤ tt) (lit≤ tt) (subst AreMarketFlags (sym (put-given _ _ _ _ c.put_u64.ensures.bytes c.put_u64.ensures.given)) c.requires.flags) c.requires.accepted)
