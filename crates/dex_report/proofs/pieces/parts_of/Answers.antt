use Rattle.std.proofs.Common.{◌≡◌, All, None, codes, refl, subst}
use Rattle.dex_types.specs.Accounts.{accounts_of}
use Rattle.dex_dump.proofs.WholeLaws.{whole-held}
use Rattle.dex_report.specs.Report.{head_line}
use Rattle.dex_report.specs.Parts.{FitPart}
use Rattle.dex_report.proofs.Listed.{markets-fit, parts, report-of-parts, rows-fit, wallets-fit}
use Rattle.dex_report.proofs.pieces.parts_of.Goals as goal

-- all parts were pushed
pushed : (c : goal.After-drop-accounts-3) → c.push-4.new.self.items
    ≡ parts c.args.spent.items c.write_head.new.text c.write_front.new.text c.extend_from_slice.new.self c.args.outcome.markets.items c.args.outcome.wallets c.args.outcome.accounts.markets.items
pushed c =
    rw (
      c.in_ok-push-4.ensures.items,
      c.in_ok-add_rows.ensures,
      c.in_ok-push-3.ensures.items,
      c.in_ok-push-2.ensures.items,
      c.in_ok-add_markets.ensures,
      c.in_ok-push.ensures.items,
      c.in_ok-add_spent.ensures,
      c.new-parts.ensures.items,
    ) refl

pub returns-clause-fits : goal.returns-clause-fits
returns-clause-fits c = λ fit.
    let outcome = c.args.outcome in
    let fit = subst (All FitPart) (pushed c) fit in
    record {
      accounts = whole-held (accounts_of outcome.accounts) c.in_ok-write_front.ensures.held (rows-fit _ _ _ _ _ _ _ fit);
      markets = markets-fit _ _ _ _ _ _ _ fit;
      wallets = wallets-fit _ _ _ _ _ _ _ fit;
    }

pub returns-clause-text : goal.returns-clause-text
returns-clause-text c =
    let outcome = c.args.outcome in
    rw (pushed c)
    (report-of-parts c.args.spent.items c.write_head.new.text c.write_front.new.text c.extend_from_slice.new.self outcome.markets.items outcome.wallets outcome.accounts.markets.items
    (accounts_of outcome.accounts) (head_line (codes "report") None c.args.rows) refl
    (rw (c.in_ok-write_head.ensures, c.new-head.ensures.items) refl)
    (rw (c.in_ok-write_front.ensures.text, c.new-front.ensures.items) refl)
    (rw (c.in_ok-extend_from_slice.ensures.items, c.new-end.ensures.items) refl))
