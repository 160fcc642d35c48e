-- What a script leaves that is played part by part, and what is heard of it.
use Rattle.std.proofs.Common.{◌≡◌, ◌∙◌, ◌+◌, ℕ, List, [], ◌∷◌, ap, arith, length, map, refl, subst, sym}
use Rattle.std.specs.List.{AllZip, sum_by}
use Rattle.std.proofs.lemmas.List.Sums.{sum_by-append, sum_by-cons}
use Rattle.dex_dump.specs.DumpText.{dump_text}
use Rattle.dex_types.specs.declared.addresses.Address.{Address}
use Rattle.dex_types.specs.declared.limits.Limits.{Limits}
use Rattle.dex_types.specs.declared.limits.TheConstants.{STANDARD}
use Rattle.dex_types.specs.Accounts.{PlainAccounts, PlainMarketAccounts, accounts_of}
use Rattle.dex_words.specs.declared.command.Command.TheVariants.{Bulk, Dump, Replay}
use Rattle.dex_state.specs.Outcomes.{PlainMarketJournal, PlainOutcome, PlainWalletJournal}
use Rattle.dex_report.specs.Bulk.{accepted_in, counts_of, counts_with, refused_in, summary_text}
use Rattle.dex_report.specs.Growing.{Tells, TellsMarket, TellsWallet, each_goes_on, goes_on, market_goes_on, wallet_goes_on}
use Rattle.dex_report.specs.Made.{made_text}
use Rattle.dex_report.specs.Report.{report_text}
use Rattle.dex_report.specs.Telling.{FitOutcome}
use Rattle.dex_report.specs.declared.growing.JournalTexts.{JournalTexts}
use Rattle.dex_script_types.specs.PlainScript.{PlainScript}
use Rattle.dex_replay.proofs.Singles.{replay-by-rows}
use Rattle.dex_parts.specs.Chains.{market_journal_behind, outcome_behind}
use Rattle.dex_parts.specs.Together.{each_behind}
use Rattle.dex_parts.proofs.ChainLaws.{same-long}
use Rattle.dex_stream.specs.declared.playing.Played.{Played}
use Rattle.dex_stream.specs.Heard.{HasActed, IsHeard, IsNext, no_entries, unplayed}
use Rattle.dex_answers.specs.Answers.{Answers, AnswersWithin, IsPlayed}
use Rattle.dex_answers.specs.Hearing.{HasCounted, HasTold}
use Rattle.dex_answers.specs.declared.bulk.Counting.{Counting}
use Rattle.dex_answers.specs.declared.replay.Reporting.{Reporting}
use Rattle.dex_answers.specs.declared.status.Status.TheVariants as status
use Rattle.dex_answers.proofs.InFront.{run-told}
use Rattle.dex_answers.proofs.PairLaws.{played}

-- ---- lists behind others

-- where as many go on as there are
goes-behind : {A : Type 0} (on : A → A → A) (xs ys : List A) → length ys ≡ length xs → each_goes_on on xs ys ≡ each_behind on xs ys
goes-behind on [] [] long = refl
goes-behind on [] (y ∷ ys) long = absurd (cc)
goes-behind on (x ∷ xs) [] long = absurd (cc)
goes-behind on (x ∷ xs) (y ∷ ys) long = ap (λ zs. on x y ∷ zs) (goes-behind on xs ys (cc long))

-- sums over journals that go on
sum-behind : (f : PlainMarketJournal → ℕ) → ((x y : PlainMarketJournal) → f (market_journal_behind x y) ≡ f x + f y) → (xs ys : List PlainMarketJournal)
    → length ys ≡ length xs → sum_by f (each_behind market_journal_behind xs ys) ≡ sum_by f xs + sum_by f ys
sum-behind f both [] [] long = refl
sum-behind f both [] (y ∷ ys) long = absurd (cc)
sum-behind f both (x ∷ xs) [] long = absurd (cc)
sum-behind f both (x ∷ xs) (y ∷ ys) long =
    omega (
      arith,
      sum_by-cons f (market_journal_behind x y) (each_behind market_journal_behind xs ys),
      both x y,
      sum-behind f both xs ys (cc long),
      sum_by-cons f x xs,
      sum_by-cons f y ys,
    )

-- ---- what each has heard

abbrev wallet_of : PlainWalletJournal → Address
wallet_of journal = journal.address

markets-long : (before part whole : PlainScript) (left outcome : PlainOutcome) → IsNext before left part outcome whole
    → length outcome.markets ≡ length left.markets
markets-long before part whole left outcome next =
    let market_of = λ (journal : PlainMarketJournal). journal.address in
    same-long market_of market_of outcome.markets left.markets next.markets

-- texts of what is left so far, with the next part's journals told
pub told-behind : (texts : JournalTexts) (before part whole : PlainScript) (left outcome : PlainOutcome) → IsNext before left part outcome whole
    → Tells texts (goes_on left outcome.markets outcome.wallets) → Tells texts (outcome_behind left outcome)
told-behind texts before part whole left outcome next tells = record {
  markets =
      subst (AllZip TellsMarket texts.markets.items)
      (goes-behind market_goes_on left.markets outcome.markets (markets-long before part whole left outcome next))
      tells.markets;
  wallets =
      subst (AllZip TellsWallet texts.wallets.items)
      (goes-behind wallet_goes_on left.wallets outcome.wallets (same-long wallet_of wallet_of outcome.wallets left.wallets next.wallets))
      tells.wallets;
}

-- counts of what is left so far, with the next part's entries counted
pub counted-behind : (before part whole : PlainScript) (left outcome : PlainOutcome) → IsNext before left part outcome whole
    → counts_with (counts_of left) outcome.markets ≡ counts_of (outcome_behind left outcome)
counted-behind before part whole left outcome next =
    let long = markets-long before part whole left outcome next in
    let accepted = sum-behind accepted_in (λ x y. sum_by-append _ x.entries y.entries) left.markets outcome.markets long in
    let refused = sum-behind refused_in (λ x y. sum_by-append _ x.entries y.entries) left.markets outcome.markets long in
    λ i. record { accepted = sym accepted i; refused = sym refused i }

-- before the first row none is counted
none : (f : PlainMarketJournal → ℕ) → ((market : PlainMarketAccounts) → f (no_entries market) ≡ 0) → (markets : List PlainMarketAccounts) → 0 ≡ sum_by f (map no_entries markets)
none f without [] = refl
none f without (market ∷ markets) =
    omega (arith, sum_by-cons f (no_entries market) (map no_entries markets), without market, none f without markets)

pub none-counted : (start : PlainAccounts) → record { accepted = 0; refused = 0 } ≡ counts_of (unplayed start)
none-counted start =
    λ i. record { accepted = none accepted_in (λ market. refl) start.markets i; refused = none refused_in (λ market. refl) start.markets i }

-- ---- what is answered

-- what is left when all items have acted
acted-played : (script : PlainScript) (outcome : PlainOutcome) (accounts : PlainAccounts) (items : ℕ) → HasActed script outcome accounts items
    → IsPlayed script outcome
acted-played script outcome accounts items acted = played script outcome acted.is_script acted.replay acted.run (replay-by-rows script outcome)

-- the report
pub reported : (limits : Limits) (bytes : List ℕ) (all : Played Reporting) (text : List ℕ)
    → ((outcome : PlainOutcome) → Tells all.listener.texts outcome → outcome.accounts ≡ accounts_of all.accounts → FitOutcome outcome)
    → ((outcome : PlainOutcome) → Tells all.listener.texts outcome → outcome.accounts ≡ accounts_of all.accounts → text ≡ report_text outcome all.items)
    → IsHeard HasTold limits bytes all → AnswersWithin limits Replay bytes status.Ok text
reported limits bytes all text fits told is =
    let plays = is.plays in
    let acted = plays.acted in (
      is.script,
      plays.outcome,
      is.reads,
      acted-played is.script plays.outcome (accounts_of all.accounts) all.items acted,
      run-told is.script plays.outcome acted.run (fits plays.outcome plays.hears acted.leaves),
      told plays.outcome plays.hears acted.leaves ∙ ap (λ (n : ℕ). report_text plays.outcome n) acted.counts,
    )

-- the dump of the last accounts
pub dumped : {L : Type 0} (heard : L → PlainScript → PlainOutcome → Type 0) (limits : Limits) (bytes : List ℕ) (all : Played L)
    → IsHeard heard limits bytes all → AnswersWithin limits Dump bytes status.Ok (dump_text (accounts_of all.accounts))
dumped heard limits bytes all is =
    let plays = is.plays in (
      is.script,
      plays.outcome,
      is.reads,
      acted-played is.script plays.outcome (accounts_of all.accounts) all.items plays.acted,
      ap dump_text (sym plays.acted.leaves),
    )

-- the summary
pub summed : (number rows : ℕ) (all : Played Counting) → IsHeard HasCounted STANDARD (made_text number rows) all
    → Answers (Bulk number rows) [] status.Ok (summary_text number rows all.listener.counts (accounts_of all.accounts).markets)
summed number rows all is =
    let plays = is.plays in (
      is.script,
      plays.outcome,
      is.reads,
      acted-played is.script plays.outcome (accounts_of all.accounts) all.items plays.acted,
      rw (plays.hears, plays.acted.leaves) refl,
    )
