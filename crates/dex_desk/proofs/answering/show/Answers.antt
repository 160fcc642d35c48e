use Rattle.std.proofs.Common.{◌≡◌, ◌∙◌, ◌++◌, ℕ, List, OnOk, Some, None, ap, option_copied, option_map, subst, sym}
use Rattle.dex_types.specs.Accounts.{market_accounts_of}
use Rattle.dex_desk.specs.Books.{found_market}
use Rattle.dex_desk.specs.Steps.{shown_of}
use Rattle.dex_desk.proofs.answering.show.Goals as goal

pub returns-in-Some : goal.returns-in-Some
returns-in-Some c =
    let block = c.args.block.now in
    let depth = c.args.depth in
    let found : found_market c.args.market block.draft.script.start.markets ≡ Some (market_accounts_of c.in-Some.accounts.now) =
    sym c.market.ensures.found ∙ ap (λ r. option_map market_accounts_of (option_copied r)) c.in-Some.is in
    subst (λ (l : List ℕ). OnOk c.write_book.result (c.write_book.new.text.items ≡ c.args.text.now.items ++ l))
    (sym (ap (shown_of block depth) found)) c.write_book.ensures

pub returns-in-None : goal.returns-in-None
returns-in-None c =
    let block = c.args.block.now in
    let depth = c.args.depth in
    let found : found_market c.args.market block.draft.script.start.markets ≡ None =
    sym c.market.ensures.found ∙ ap (λ r. option_map market_accounts_of (option_copied r)) c.in-None.is in
    subst (λ (l : List ℕ). OnOk c.write_fault.result (c.write_fault.new.text.items ≡ c.args.text.now.items ++ l))
    (sym (ap (shown_of block depth) found)) c.write_fault.ensures
