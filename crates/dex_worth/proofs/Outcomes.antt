-- Outcomes: each market's journal tells what a market leaves that pays each fill at once.
use Rattle.std.proofs.Common.{ℕ, zero, suc, ◌≡◌, ◌<◌, List, [], ◌∷◌, ◌++◌, length, map, get_or, take, drop, Option, Some, refl, sym, ap, ◌∙◌, subst, arith}
use Rattle.std.specs.List.{All}
use Rattle.std.specs.Option.{unwrap_or}
use Rattle.std.proofs.lemmas.List.{append-nil, append_assoc, length-map}
use Rattle.std.proofs.lemmas.List.Elements.{All-head, All-tail}
use Rattle.std.proofs.lemmas.Simd.{map-map}
use Rattle.dex_types.specs.declared.addresses.Address.{Address}
use Rattle.dex_types.specs.Accounts.{PlainMarketAccounts}
use Rattle.dex_types.specs.Market.{Market}
use Rattle.dex_types.specs.Trader.{Traders}
use Rattle.dex_accounts.specs.Decoded.{AreSound, market_in}
use Rattle.dex_cell.specs.CellState.{AreOfOneMarket}
use Rattle.dex_history.specs.Journal.{Call, market_after}
use Rattle.dex_eager.specs.Eager.{Eager, eager_at}
use Rattle.dex_eager.specs.Histories.{Deal, counted, deals, eager_end, eager_start, moves_of}
use Rattle.dex_eager.specs.Worth.{Worth, no_moves}
use Rattle.dex_eager.proofs.DelayLaws.{deals-after, history-fills, history-market}
use Rattle.dex_replay.specs.Lawful.{AllThree, IsLawful}
use Rattle.dex_state.specs.Outcomes.{PlainMarketJournal, PlainOutcome}
use Rattle.dex_script_types.specs.PlainScript.{PlainScript}
use Rattle.dex_script_types.specs.Facts.{IsScript}
use Rattle.dex_replay.proofs.MappedLists.{three-weaker, zip-map}
use Rattle.dex_replay.specs.EntryCalls.{TellsHistory, calls_told}
use Rattle.dex_replay.specs.Replays.{IsOfStart}
use Rattle.dex_replay.specs.WorthTold.{PlainWorthRow, calls_of, row_told, rows_told, table_told, tables_told, worths_told}
use Rattle.dex_worth.specs.declared.ledger.Ledger.{Ledger}
use Rattle.dex_worth.specs.Ledgers.{AreBlank, AreLedgersOf, AreTaken, owners_in}
use Rattle.dex_worth.specs.Tables.{IsTold, PaysAtOnce, deals_told, worth_in_row}
use Rattle.dex_worth.proofs.Flows.{add-up}
use Rattle.dex_worth.proofs.Tables.{worths-told}

-- ---- three lists

three-both : {A B C : Type 0} (R S : A → B → C → Type 0) (P : A → Type 0) (f : A → Address) (g : C → Address) → ((x : A) (y : B) (z : C) → R x y z → P x → f x ≡ g z → S x y z)
    → (xs : List A) (ys : List B) (zs : List C) → AllThree R xs ys zs → All P xs → map g zs ≡ map f xs → AllThree S xs ys zs
three-both R S P f g gives [] [] [] three all same = tt
three-both R S P f g gives (x ∷ xs) (y ∷ ys) (z ∷ zs) three all same = (
  gives x y z three.0 (All-head P x xs all) (ap (λ (some : List Address). get_or some 0 (f x)) (sym same)),
  three-both R S P f g gives xs ys zs three.1 (All-tail P x xs all) (ap (drop 1) same),
)
three-both R S P f g gives xs ys zs three all same = absurd three

-- what holds of the elements at a place
pub three-at : {A B C : Type 0} (R : A → B → C → Type 0) (xs : List A) (ys : List B) (zs : List C) → AllThree R xs ys zs → (k : ℕ) (x : A) (y : B) (z : C) → k < length ys
    → R (get_or xs k x) (get_or ys k y) (get_or zs k z)
three-at R [] [] zs three k x y z lt = absurd (omega arith)
three-at R (a ∷ xs) (b ∷ ys) (c ∷ zs) three zero x y z lt = three.0
three-at R (a ∷ xs) (b ∷ ys) (c ∷ zs) three (suc k) x y z lt = three-at R xs ys zs three.1 k x y z (omega arith)
three-at R xs ys zs three k x y z lt = absurd three

-- ---- a market

module _ (script : PlainScript) (first last : PlainMarketAccounts) (journal : PlainMarketJournal) (told : IsTold script first last journal) where
  abbrev calls : List Call
  calls = told.tells.calls

  abbrev m : Market
  m = market_in first

  pub calls-told : calls_told script journal.address journal.entries ≡ Some calls
  calls-told = ap (λ (a : Address). calls_told script a journal.entries) (sym told.address) ∙ told.tells.told

  pub calls-are : calls_of script journal ≡ calls
  calls-are = ap (λ (o : Option (List Call)). unwrap_or o []) calls-told

  pub worths-are : map worth_in_row (rows_told script last journal) ≡ (eager_end m calls).worths
  worths-are =
      map-map worth_in_row (row_told script last journal) (market_in last).traders
      ∙ ap (λ (some : List Call). worths_told last some) calls-are
      ∙ sym (worths-told m calls last told.sound told.tells.legal told.tells.stands)

  end-is : eager_end m calls ≡ eager_at (market_after m calls) (moves_of m calls)
  end-is = history-market calls m no_moves told.sound told.tells.legal

  pub pays : PaysAtOnce script first last journal
  pays = record {
    calls = calls;
    told = calls-told;
    stands = told.tells.stands;
    worths = worths-are;
    ledger = worths-are ∙ ap (λ (e : Eager). e.worths) end-is;
    bids = sym (ap (λ (e : Eager). e.bids) end-is);
    asks = sym (ap (λ (e : Eager). e.asks) end-is);
    fills = sym (history-fills calls m no_moves told.sound told.tells.legal);
    takings = sym (ap (λ (e : Eager). e.takings) end-is);
    kept = λ token. add-up token m calls told.sound told.tells.legal;
  }

-- ---- an outcome

pub all-told-here : (script : PlainScript) → IsScript script → (outcome : PlainOutcome) → IsLawful script outcome
    → AllThree (TellsHistory script) script.start.markets outcome.accounts.markets outcome.markets
    → AllThree (IsTold script) script.start.markets outcome.accounts.markets outcome.markets
all-told-here script is outcome lawful tells =
    three-both (TellsHistory script) (IsTold script) AreSound (λ (accounts : PlainMarketAccounts). accounts.address) (λ (journal : PlainMarketJournal). journal.address)
    (λ first last journal tell sound same. record { tells = tell; sound = sound.sound; address = same })
    script.start.markets outcome.accounts.markets outcome.markets tells is.start.sound lawful.start.market_journals

pub all-pay : (script : PlainScript) → IsScript script → (outcome : PlainOutcome) → IsLawful script outcome
    → AllThree (TellsHistory script) script.start.markets outcome.accounts.markets outcome.markets
    → AllThree (PaysAtOnce script) script.start.markets outcome.accounts.markets outcome.markets
all-pay script is outcome lawful tells =
    three-weaker (IsTold script) (PaysAtOnce script) (pays script) script.start.markets outcome.accounts.markets outcome.markets (all-told-here script is outcome lawful tells)

-- each journal is that of a market
pub same-markets : (script : PlainScript) (outcome : PlainOutcome) → IsOfStart script outcome
    → map (λ (market : PlainMarketAccounts). market.address) outcome.accounts.markets ≡ map (λ (journal : PlainMarketJournal). journal.address) outcome.markets
same-markets script outcome start =
    zip-map AreOfOneMarket (λ (market : PlainMarketAccounts). market.address) (λ (market : PlainMarketAccounts). market.address) (λ first last one. one.address)
    script.start.markets outcome.accounts.markets start.markets
    ∙ sym start.market_journals

pub journals-long : (script : PlainScript) (outcome : PlainOutcome) → IsOfStart script outcome → length outcome.accounts.markets ≡ length outcome.markets
journals-long script outcome start =
    sym (length-map outcome.accounts.markets (λ (market : PlainMarketAccounts). market.address))
    ∙ ap (λ (all : List Address). length all) (same-markets script outcome start)
    ∙ length-map outcome.markets (λ (journal : PlainMarketJournal). journal.address)

-- ledgers that took the journals of an outcome hold what these tell
pub all-taken : (script : PlainScript) → IsScript script → (outcome : PlainOutcome) → IsLawful script outcome
    → AllThree (TellsHistory script) script.start.markets outcome.accounts.markets outcome.markets → (before after : List Ledger)
    → AreBlank before outcome.accounts.markets → AreTaken script before outcome.markets after → AreLedgersOf script after outcome
all-taken script is outcome lawful tells before after blank taken = record {
  long = taken.long ∙ blank.long;
  are = λ k ledger last journal lt.
      let lasts : List PlainMarketAccounts = outcome.accounts.markets in
      let within : k < length before = omega (arith, lt, taken.long) in
      let here : k < length lasts = omega (arith, within, blank.long) in
      let first : PlainMarketAccounts = get_or script.start.markets k last in
      let told : IsTold script first (get_or lasts k last) (get_or outcome.markets k journal) =
      three-at (IsTold script) script.start.markets lasts outcome.markets (all-told-here script is outcome lawful tells) k last last journal here in
      let calls : List Call = told.tells.calls in
      let are = calls-told script first (get_or lasts k last) (get_or outcome.markets k journal) told in
      record {
        calls = calls;
        told = are;
        tells = taken.taken k ledger journal within (omega (arith, here, journals-long script outcome lawful.start)) (owners_in (get_or lasts k last)) [] calls are
            (blank.blank k ledger last within);
      };
}

-- ---- two outcomes with equal trades

-- the row of an account with a worth, on a market
abbrev row_on : Address → Address × Worth → PlainWorthRow
row_on market entry = record { market = market; account = entry.0; worth = entry.1 }

rows-on : (script : PlainScript) (last : PlainMarketAccounts) (journal : PlainMarketJournal) (traders : Traders)
    → map (row_told script last journal) traders ≡ map (row_on journal.address) (map worth_in_row (map (row_told script last journal) traders))
rows-on script last journal [] = refl
rows-on script last journal (entry ∷ others) = ap (λ (rows : List PlainWorthRow). row_told script last journal entry ∷ rows) (rows-on script last journal others)

one-market : (script other : PlainScript) (first last late : PlainMarketAccounts) (journal second : PlainMarketJournal) → IsTold script first last journal → IsTold other first late second
    → deals (calls_of script journal) ≡ deals (calls_of other second) → rows_told script last journal ≡ rows_told other late second
one-market script other first last late journal second one two same =
    let equal : deals one.tells.calls ≡ deals two.tells.calls =
    ap deals (sym (calls-are script first last journal one)) ∙ same ∙ ap deals (calls-are other first late second two) in
    let worths : map worth_in_row (rows_told script last journal) ≡ map worth_in_row (rows_told other late second) =
    worths-are script first last journal one
    ∙ ap (λ (e : Eager). e.worths) (deals-after (counted one.tells.calls) (counted two.tells.calls) (eager_start (market_in first)) equal)
    ∙ sym (worths-are other first late second two) in
    rows-on script last journal (market_in last).traders
    ∙ ap (map (row_on journal.address)) worths
    ∙ ap (λ (a : Address). map (row_on a) (map worth_in_row (rows_told other late second))) (sym one.address ∙ two.address)
    ∙ sym (rows-on other late second (market_in late).traders)

one-tables : (script other : PlainScript) (firsts lasts : List PlainMarketAccounts) (journals : List PlainMarketJournal) (lates : List PlainMarketAccounts) (seconds : List PlainMarketJournal)
    → AllThree (IsTold script) firsts lasts journals → AllThree (IsTold other) firsts lates seconds → deals_told script journals ≡ deals_told other seconds
    → tables_told script lasts journals ≡ tables_told other lates seconds
one-tables script other [] [] [] [] [] one two same = refl
one-tables script other [] [] [] lates seconds one two same = absurd two
one-tables script other (x ∷ firsts) (y ∷ lasts) (z ∷ journals) (late ∷ lates) (second ∷ seconds) one two same =
    ap (λ (rows : List PlainWorthRow). rows ++ tables_told script lasts journals)
    (one-market script other x y late z second one.0 two.0 (ap (λ (some : List (List Deal)). get_or some 0 []) same))
    ∙ ap (λ (rows : List PlainWorthRow). rows_told other late second ++ rows) (one-tables script other firsts lasts journals lates seconds one.1 two.1 (ap (drop 1) same))
one-tables script other (x ∷ firsts) (y ∷ lasts) (z ∷ journals) lates seconds one two same = absurd two
one-tables script other firsts lasts journals lates seconds one two same = absurd one

pub one-table : (script other : PlainScript) (outcome second : PlainOutcome) → IsScript script → IsScript other → IsLawful script outcome → IsLawful other second
    → AllThree (TellsHistory script) script.start.markets outcome.accounts.markets outcome.markets
    → AllThree (TellsHistory other) other.start.markets second.accounts.markets second.markets
    → script.start.markets ≡ other.start.markets → deals_told script outcome.markets ≡ deals_told other second.markets
    → table_told script outcome ≡ table_told other second
one-table script other outcome second is is_other lawful lawful_other tells tells_other start same =
    one-tables script other script.start.markets outcome.accounts.markets outcome.markets second.accounts.markets second.markets (all-told-here script is outcome lawful tells)
    (subst (λ (firsts : List PlainMarketAccounts). AllThree (IsTold other) firsts second.accounts.markets second.markets) (sym start)
    (all-told-here other is_other second lawful_other tells_other))
    same

-- ---- tables, one market more

pub tables-more : (script : PlainScript) (lasts : List PlainMarketAccounts) (journals : List PlainMarketJournal) (k : ℕ) (last : PlainMarketAccounts) (journal : PlainMarketJournal)
    → k < length lasts → k < length journals
    → tables_told script (take (suc k) lasts) (take (suc k) journals) ≡ tables_told script (take k lasts) (take k journals) ++ rows_told script (get_or lasts k last) (get_or journals k journal)
tables-more script [] journals k last journal lt within = absurd (omega arith)
tables-more script (x ∷ lasts) [] k last journal lt within = absurd (omega arith)
tables-more script (x ∷ lasts) (y ∷ journals) zero last journal lt within = append-nil (rows_told script x y)
tables-more script (x ∷ lasts) (y ∷ journals) (suc k) last journal lt within =
    ap (λ (rows : List PlainWorthRow). rows_told script x y ++ rows) (tables-more script lasts journals k last journal (omega arith) (omega arith))
    ∙ sym (append_assoc (rows_told script x y) (tables_told script (take k lasts) (take k journals)) (rows_told script (get_or lasts k last) (get_or journals k journal)))
