-- Ledgers that take the journals of a script's parts hold what the journals of the whole tell.
use Rattle.std.proofs.Common.{◌≡◌, ℕ, zero, suc, ◌<◌, Some, List, [], ◌∷◌, ◌++◌, get_or, length, refl, sym, ap, ◌∙◌, subst, arith}
use Rattle.std.proofs.lemmas.List.Elements.{AllZip-get_or}
use Rattle.dex_types.specs.declared.addresses.Address.{Address}
use Rattle.dex_types.specs.Accounts.{PlainAccounts, PlainMarketAccounts}
use Rattle.dex_cell.specs.CellState.{AreOfOneMarket}
use Rattle.dex_state.specs.Outcomes.{PlainMarketJournal, PlainOutcome}
use Rattle.dex_script_types.specs.PlainScript.{PlainScript}
use Rattle.dex_replay.specs.EntryCalls.{TellsHistory, calls_told}
use Rattle.dex_replay.specs.Lawful.{AllThree}
use Rattle.dex_parts.specs.Chains.{market_journal_behind, outcome_behind}
use Rattle.dex_parts.specs.Together.{each_behind}
use Rattle.dex_parts.proofs.ChainLaws.{same-long}
use Rattle.dex_parts.proofs.LeftLaws.{same-addresses}
use Rattle.dex_stream.specs.Heard.{IsNext}
use Rattle.dex_worth.specs.declared.ledger.Ledger.{Ledger}
use Rattle.dex_worth.specs.Ledgers.{AreTaken, IsLedgerOf, Tells, owners_in}
use Rattle.dex_worth.proofs.Lists.{at-same}
use Rattle.dex_worth.proofs.Outcomes.{journals-long, three-at}
use Rattle.dex_commands.specs.Worths.{HasHeard, SeesAlike}
use Rattle.dex_commands.proofs.PartCalls.{calls-behind, sees-left, sees-on}

abbrev market_of : PlainMarketAccounts → Address
market_of market = market.address

abbrev journal_of : PlainMarketJournal → Address
journal_of journal = journal.address

behind-at : {A : Type 0} (behind : A → A → A) (xs ys : List A) (k : ℕ) (x : A) → k < length xs → k < length ys
    → get_or (each_behind behind xs ys) k x ≡ behind (get_or xs k x) (get_or ys k x)
behind-at behind [] ys k x one other = absurd (omega arith)
behind-at behind (a ∷ xs) [] k x one other = absurd (omega arith)
behind-at behind (a ∷ xs) (b ∷ ys) zero x one other = refl
behind-at behind (a ∷ xs) (b ∷ ys) (suc k) x one other = behind-at behind xs ys k x (omega arith) (omega arith)

module _ (before part whole : PlainScript) (left outcome : PlainOutcome) (next : IsNext before left part outcome whole)
    (tells : AllThree (TellsHistory part) part.start.markets outcome.accounts.markets outcome.markets) (ledgers after : List Ledger)
    (heard : HasHeard ledgers before left) (taken : AreTaken part ledgers outcome.markets after) where
  abbrev lasts : List PlainMarketAccounts
  lasts = outcome.accounts.markets

  abbrev journals : List PlainMarketJournal
  journals = each_behind market_journal_behind left.markets outcome.markets

  same-journals : length outcome.markets ≡ length left.markets
  same-journals = same-long journal_of journal_of outcome.markets left.markets next.markets

  -- the accounts are those with which the part starts
  starts : part.start.markets ≡ left.accounts.markets
  starts = ap (λ (start : PlainAccounts). start.markets) next.parts.goes_on

  lasts-long : length left.accounts.markets ≡ length lasts
  lasts-long =
      ap (λ (all : List PlainMarketAccounts). length all) (sym starts)
      ∙ sym (same-long market_of market_of lasts part.start.markets (same-addresses part.start.markets lasts next.replay.start.markets))

  module _ (k : ℕ) (ledger : Ledger) (market : PlainMarketAccounts) (journal : PlainMarketJournal) (lt : k < length ledgers) where
    abbrev first : PlainMarketAccounts
    first = get_or left.accounts.markets k market

    abbrev last : PlainMarketAccounts
    last = get_or lasts k market

    abbrev done : PlainMarketJournal
    done = get_or left.markets k journal

    abbrev later : PlainMarketJournal
    later = get_or outcome.markets k journal

    one : IsLedgerOf before (get_or ledgers k ledger) first done
    one = heard.ledgers_are.are k ledger market journal lt

    here : k < length left.accounts.markets
    here = omega (arith, lt, heard.ledgers_are.long)

    there : k < length outcome.markets
    there = omega (arith, here, lasts-long, journals-long part outcome next.replay.start)

    two : TellsHistory part (get_or part.start.markets k market) last later
    two = three-at (TellsHistory part) part.start.markets lasts outcome.markets tells k market market journal (omega (arith, here, lasts-long))

    same-journal : later.address ≡ done.address
    same-journal = at-same journal_of journal_of outcome.markets left.markets k journal journal next.markets there

    told : calls_told part later.address later.entries ≡ Some two.calls
    told =
        ap (λ (address : Address). calls_told part address later.entries)
        (at-same journal_of market_of outcome.markets part.start.markets k journal market next.replay.start.market_journals there)
        ∙ two.told

    owners : owners_in first ≡ owners_in last
    owners =
        ap (λ (all : List PlainMarketAccounts). owners_in (get_or all k market)) (sym starts)
        ∙ sym (AllZip-get_or AreOfOneMarket part.start.markets lasts k market market next.replay.start.markets
        (omega (arith, here, ap (λ (all : List PlainMarketAccounts). length all) starts))).orders

    both : IsLedgerOf whole (get_or after k ledger) last (get_or journals k journal)
    both =
        subst (IsLedgerOf whole (get_or after k ledger) last)
        (sym (behind-at market_journal_behind left.markets outcome.markets k journal (omega (arith, there, same-journals)) there))
        (record {
          calls = one.calls ++ two.calls;
          told = calls-behind whole before part left next.parts heard.sees done.address done.entries later.entries one.calls two.calls one.told
              (ap (λ (address : Address). calls_told part address later.entries) (sym same-journal) ∙ told);
          tells = subst (λ (some : List Address). Tells (get_or after k ledger) some (one.calls ++ two.calls)) owners
              (taken.taken k ledger journal lt there (owners_in first) one.calls two.calls told one.tells);
        })

  pub heard-next : HasHeard after whole (outcome_behind left outcome)
  heard-next = record {
    ledgers_are = record {
      long = taken.long ∙ heard.ledgers_are.long ∙ lasts-long;
      are = λ k ledger market journal lt. both k ledger market journal (omega (arith, lt, taken.long));
    };
    sees = subst (λ (start : PlainAccounts). SeesAlike start outcome.accounts) next.parts.start
        (sees-on before.start left.accounts outcome.accounts heard.sees
        (subst (λ (start : PlainAccounts). SeesAlike start outcome.accounts) next.parts.goes_on (sees-left part outcome next.replay)));
  }
