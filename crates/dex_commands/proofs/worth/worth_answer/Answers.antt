use Rattle.std.proofs.Common.{ℕ, ◌≡◌, false, List, length, map, refl, subst, sym, ap, ◌∙◌}
use Rattle.std.specs.List.{All}
use Rattle.std.proofs.lemmas.List.{length-map}
use Rattle.std.proofs.lemmas.Result.{IfOk-weaker}
use Rattle.dex_types.specs.declared.account_bytes.MarketAccounts.{MarketAccounts}
use Rattle.dex_types.specs.Accounts.{PlainAccounts, PlainMarketAccounts, market_accounts_of}
use Rattle.dex_accounts.specs.Accepted.{IsAccepted}
use Rattle.dex_words.specs.declared.command.Command.TheVariants.{Worth}
use Rattle.dex_state.specs.Outcomes.{PlainOutcome}
use Rattle.dex_script_types.specs.PlainScript.{PlainScript}
use Rattle.dex_replay.specs.WorthText.{worth_text}
use Rattle.dex_replay.specs.WorthTold.{table_told}
use Rattle.dex_parts.proofs.ChainLaws.{same-long}
use Rattle.dex_parts.proofs.LeftLaws.{same-addresses}
use Rattle.dex_worth.specs.declared.ledger.Ledger.{Ledger}
use Rattle.dex_worth.specs.Ledgers.{AreLedgersOf}
use Rattle.dex_worth.proofs.Markets.{accepted-at}
use Rattle.dex_answers.specs.Answers.{AnswersWithin}
use Rattle.dex_answers.specs.Telling.{IsText}
use Rattle.dex_answers.specs.Told.{text_of}
use Rattle.dex_answers.specs.declared.status.Status.TheVariants as status
use Rattle.dex_answers.proofs.AnswerLaws.{no-worth}
use Rattle.dex_answers.proofs.PairLaws.{played}
use Rattle.dex_answers.proofs.TextLaws.{says}
use Rattle.dex_commands.proofs.worth.worth_answer.Goals as goal

pub table_text-requires : goal.table_text-requires
table_text-requires c =
    let markets : List MarketAccounts = c.in-Ok.played.accounts.markets.items in
    let acted = c.in-Ok.ensures.played.plays.acted in
    subst (λ (some : List MarketAccounts). All (λ (market : MarketAccounts). IsAccepted (market_accounts_of market)) some) (sym c.deref-in-Ok.ensures.value)
    (accepted-at markets (subst (λ (accounts : PlainAccounts). All IsAccepted accounts.markets) acted.leaves acted.run.accepted.markets))

pub returns-in-Ok : goal.returns-in-Ok
returns-in-Ok c =
    let heard = c.in-Ok.ensures.played in
    let script : PlainScript = heard.script in
    let outcome : PlainOutcome = heard.plays.outcome in
    let acted = heard.plays.acted in
    let lasts : map market_accounts_of c.deref-in-Ok.result.now ≡ outcome.accounts.markets =
    ap (map market_accounts_of) c.deref-in-Ok.ensures.value ∙ ap (λ (accounts : PlainAccounts). accounts.markets) (sym acted.leaves) in
    let many : length c.deref-in-Ok.result.now ≡ length script.start.markets =
    sym (length-map c.deref-in-Ok.result.now market_accounts_of) ∙ ap (λ (all : List PlainMarketAccounts). length all) lasts ∙ same-long (λ (market : PlainMarketAccounts). market.address)
    (λ (market : PlainMarketAccounts). market.address) outcome.accounts.markets script.start.markets (same-addresses script.start.markets outcome.accounts.markets acted.replay.start.markets) in
    let text : List ℕ = worth_text (length script.start.markets) (table_told script outcome) in
    says c.table_text.result (AnswersWithin c.args.limits.now Worth c.args.bytes.now) status.Ok text
    (IfOk-weaker c.table_text.result _ _
    (λ told tells. subst (λ (n : ℕ). IsText told status.Ok (worth_text n (table_told script outcome))) many
    (tells script outcome acted.run.lawful lasts
    (subst (λ (some : List Ledger). AreLedgersOf script some outcome) (sym c.deref.ensures.value) heard.plays.hears.ledgers_are)))
    c.table_text.ensures) (
      script,
      outcome,
      heard.reads,
      played script outcome acted.is_script acted.replay acted.run (c.without_swaps_rows_act_one_by_one.ensures.replay script outcome),
      refl,
    )

pub returns-in-Err : goal.returns-in-Err
returns-in-Err c =
    let bytes : List ℕ = c.args.bytes.now in
    IfOk-weaker c.no_script.result _ _ (λ told why. no-worth c.args.limits.now bytes told.status (text_of told) why) (c.no_script.ensures c.args.limits.now false bytes c.in-Err.ensures.refused)
