use Rattle.std.proofs.Common.{lit≤, refl, sym, ap, subst, ◌∙◌}
use Rattle.dex_fields.specs.declared.market.TheConstants.{PC_DEPOSITS_TOTAL}
use Rattle.dex_market.specs.MarketAccount.{IsMarket, market_words}
use Rattle.dex_market.proofs.WordWrites.{IsMarket-beside, pc_deposits_total_written, put-given}
use Rattle.dex_market.proofs.market_view.MarketView.set_pc_deposits_total.Goals as goal

pub returns-clause-words : goal.returns-clause-words
returns-clause-words c =
    ap market_words c.put_u64.ensures.bytes ∙ pc_deposits_total_written c.args.self.now.bytes.now c.args.value (put-given _ _ _ _ c.put_u64.ensures.bytes c.put_u64.ensures.given)

pub returns-clause-accepted : goal.returns-clause-accepted
returns-clause-accepted c =
    subst IsMarket (sym c.put_u64.ensures.bytes) (IsMarket-beside c.args.self.now.bytes.now PC_DEPOSITS_TOTAL c.args.value refl (lit≤ tt) (lit≤ tt) c.requires)
