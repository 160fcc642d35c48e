use Rattle.std.proofs.Common.{rules, ◌≡◌, ap, length, subst, sym, ◌∙◌, arith}
use Rattle.dex_fields.specs.declared.open_orders.TheConstants.{MARKET, OWNER}
use Rattle.dex_fields.proofs.Reading.{length-bytes_in}
use Rattle.dex_orders.specs.OrdersAccount.{IsOpen, account_of, market_of, opened}
use Rattle.dex_orders.proofs.InitLaw.{IsOpen-opened, account_of-opened, market_of-opened}
use Rattle.dex_orders.proofs.lifecycle.init.Goals as goal

pub returns-clause-market : goal.returns-clause-market
returns-clause-market c =
    let bytes = c.args.bytes.now in
    let made : c.write_text-2.new.bytes ≡ opened bytes c.args.market c.args.owner = search rules in
    let market : length c.args.market.0 ≡ 32 = ap length (sym c.put_addr.ensures.given) ∙ length-bytes_in c.put_addr.new.bytes MARKET (omega arith) in
    let owner : length c.args.owner.0 ≡ 32 = ap length (sym c.put_addr-2.ensures.given) ∙ length-bytes_in c.put_addr-2.new.bytes OWNER (omega arith) in
    ap market_of made ∙ market_of-opened bytes c.args.market c.args.owner c.requires market owner

pub returns-clause-words : goal.returns-clause-words
returns-clause-words c =
    let bytes = c.args.bytes.now in
    let made : c.write_text-2.new.bytes ≡ opened bytes c.args.market c.args.owner = search rules in
    let market : length c.args.market.0 ≡ 32 = ap length (sym c.put_addr.ensures.given) ∙ length-bytes_in c.put_addr.new.bytes MARKET (omega arith) in
    let owner : length c.args.owner.0 ≡ 32 = ap length (sym c.put_addr-2.ensures.given) ∙ length-bytes_in c.put_addr-2.new.bytes OWNER (omega arith) in
    ap account_of made ∙ account_of-opened bytes c.args.market c.args.owner c.requires market owner

pub returns-clause-accepted : goal.returns-clause-accepted
returns-clause-accepted c =
    let bytes = c.args.bytes.now in
    let made : c.write_text-2.new.bytes ≡ opened bytes c.args.market c.args.owner = search rules in
    let market : length c.args.market.0 ≡ 32 = ap length (sym c.put_addr.ensures.given) ∙ length-bytes_in c.put_addr.new.bytes MARKET (omega arith) in
    let owner : length c.args.owner.0 ≡ 32 = ap length (sym c.put_addr-2.ensures.given) ∙ length-bytes_in c.put_addr-2.new.bytes OWNER (omega arith) in
    subst IsOpen (sym made) (IsOpen-opened bytes c.args.market c.args.owner c.requires market owner)
