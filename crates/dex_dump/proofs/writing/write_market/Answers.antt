use Rattle.std.proofs.Common.{[], ◌∷◌, ◌++◌, ◌∙◌, List, ℕ, ap}
use Rattle.dex_types.specs.Accounts.{market_accounts_of}
use Rattle.dex_dump.specs.DumpText.{base64_text}
use Rattle.dex_dump.specs.Terms.{terms_text}
use Rattle.dex_dump.proofs.TextLaws.{in-turn, row-text}
use Rattle.dex_dump.proofs.writing.write_market.Goals as goal

pub returns-clause-text : goal.returns-clause-text
returns-clause-text c =
    let m = c.args.market.now in
    let market = market_accounts_of m in
    let text = c.args.text.now.items in
    rw (
      c.in_ok-end_row.ensures,
      c.in_ok-write_bytes-4.ensures.text,
      c.in_ok-write_bytes-3.ensures.text,
      c.in_ok-write_bytes-2.ensures.text,
      c.in_ok-write_bytes.ensures.text,
      c.in_ok-write_terms.ensures.text,
      c.deref.ensures.value,
      c.deref-2.ensures.value,
      c.deref-3.ensures.value,
      c.deref-4.ensures.value,
    )
    (in-turn text (terms_text market) (44 ∷ base64_text m.requests.items) (44 ∷ base64_text m.events.items) (44 ∷ base64_text m.bids.items)
    (44 ∷ base64_text m.asks.items) (10 ∷ []) ∙ ap (λ (t : List ℕ). text ++ t) (row-text market))
