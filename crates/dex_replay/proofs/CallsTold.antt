-- The calls of lawful journals are those that their entries tell.
use Rattle.std.proofs.Common.{◌≡◌, ◌==◌, ℕ, List, [], ◌∷◌, get_or, map, Option, Some, refl, sym, ap, ◌∙◌}
use Rattle.dex_world.proofs.Common.{Address, Asked, Call, Contains, Entry, IsLegal, Listing, Market, PlainMarketAccounts, PlainRow, acted_of, asked_of, eq-eqb, filter, is_same, step-keeps, step_of}
use Rattle.dex_replay.proofs.Common.{All, AllThree, IsLawful, IsLawfulMarket, IsScript, IsSight, PlainMarketJournal, PlainOutcome, PlainScript, first_of, market_in, rows_of_market}
use Rattle.std.proofs.lemmas.List.Elements.{All-contains_itself, All-filter, All-head, All-tail, All-weaker}
use Rattle.dex_script_types.proofs.Apart.{wallets-distinct}
use Rattle.dex_replay.proofs.LastAccounts.{listing-in}
use Rattle.dex_replay.proofs.Groups.{unfilter}
use Rattle.dex_replay.proofs.MappedLists.{All-across, three-weaker}
use Rattle.dex_replay.specs.EntryCalls.{IsCallOf, TellsHistory, call_by, call_told, calls_told, is_row_on, with_call}
use Rattle.dex_replay.proofs.Finding.{row-found}
use Rattle.dex_replay.proofs.SightTold.{sight-told}

-- ---- one call

pub call-told : (script : PlainScript) → IsScript script → (row : PlainRow) (m : Market) (call : Call) → IsCallOf script row m call
    → call_told script row.market call.entry ≡ Some call
call-told script facts row m call is =
    let number : call.entry.row ≡ row.number =
    ap (λ (entry : Entry). entry.row) is.stands.entry ∙ ap (λ (asked : Asked). asked.number) is.asks in
    let seen = sight-told script row call m (wallets-distinct script.start facts.start.accepted) is.asks is.sight is.stands in
    ap (λ (n : ℕ). first_of (is_row_on row.market n) (call_by script call.entry) script.rows) number
    ∙ row-found (call_by script call.entry) row script.rows facts.rows.legs is.row_is
    ∙ (λ i. Some (record { asked = sym is.asks i; seen = seen i; entry = call.entry }))

-- ---- a legal history

-- one of these rows asks this
record IsAskedIn (rows : List PlainRow) (asked : Asked) : Type 0 where
  row : PlainRow
  there : Contains rows row
  asks : asked ≡ asked_of row

calls-told : (script : PlainScript) → IsScript script → (m : Market) (calls : List Call) → IsLegal m calls
    → All (λ (call : Call). IsAskedIn script.rows call.asked) calls → All (λ (call : Call). IsSight script call.seen) calls
    → calls_told script m.listing.address (map (λ (call : Call). call.entry) calls) ≡ Some calls
calls-told script facts m [] legal asked sees = refl
calls-told script facts m (call ∷ calls) legal asked sees =
    let by : IsAskedIn script.rows call.asked = All-head (λ (one : Call). IsAskedIn script.rows one.asked) call calls asked in
    let address : Address = m.listing.address in
    let on : by.row.market ≡ address = sym (ap (λ (asked : Asked). asked.market) by.asks) ∙ legal.0.market in
    let stays : (step_of call m).market.listing.address ≡ address =
    ap (λ (listing : Listing). listing.address) (step-keeps (acted_of call).request call.seen m).listing in
    let first : call_told script by.row.market call.entry ≡ Some call = call-told script facts by.row m call (record {
      row_is = by.there;
      asks = by.asks;
      sight = All-head (λ (one : Call). IsSight script one.seen) call calls sees;
      stands = legal.0;
    }) in
    let later : List Entry = map (λ (other : Call). other.entry) calls in
    ap (λ (one : Option Call). with_call one (calls_told script address later)) (ap (λ (a : Address). call_told script a call.entry) (sym on) ∙ first)
    ∙ ap (with_call (Some call)) (ap (λ (a : Address). calls_told script a later) (sym stays)
    ∙ calls-told script facts (step_of call m).market calls legal.1 (All-tail (λ (one : Call). IsAskedIn script.rows one.asked) call calls asked)
    (All-tail (λ (one : Call). IsSight script one.seen) call calls sees))

-- ---- a lawful market

module _ (script : PlainScript) (facts : IsScript script) (first last : PlainMarketAccounts)
    (journal : PlainMarketJournal) (lawful : IsLawfulMarket script first last journal) where
  abbrev Asks : PlainRow → Type 0
  Asks row = IsAskedIn script.rows (asked_of row)

  -- each of its calls was asked by a row of the script
  all-asked : All (λ (call : Call). IsAskedIn script.rows call.asked) lawful.calls
  all-asked k d within =
      let lane : ℕ = (get_or lawful.calls k d).asked.lane in
      unfilter (λ (call : Call). IsAskedIn script.rows call.asked) (λ (call : Call). call.asked.lane == lane) lawful.calls
      (All-across (IsAskedIn script.rows) (λ (call : Call). call.asked) asked_of
      (filter (λ (call : Call). call.asked.lane == lane) lawful.calls) (rows_of_market lane first.address script.rows) (lawful.rows lane)
      (All-filter (λ (row : PlainRow). row.lane == lane) Asks (filter (λ (row : PlainRow). is_same row.market first.address) script.rows)
      (All-filter (λ (row : PlainRow). is_same row.market first.address) Asks script.rows
      (All-weaker (Contains script.rows) Asks (λ row there. record { row = row; there = there; asks = refl }) script.rows (All-contains_itself script.rows)))))
      k d within (eq-eqb lane lane refl)

  pub lawful-told : calls_told script first.address journal.entries ≡ Some lawful.calls
  lawful-told =
      ap (calls_told script first.address) lawful.entries
      ∙ ap (λ (listing : Listing). calls_told script listing.address (map (λ (call : Call). call.entry) lawful.calls)) (sym (listing-in first))
      ∙ calls-told script facts (market_in first) lawful.calls lawful.legal all-asked lawful.sees

  pub history-told : TellsHistory script first last journal
  history-told = record { calls = lawful.calls; told = lawful-told; entries = sym lawful.entries; legal = lawful.legal; stands = lawful.stands }

-- ---- an outcome

pub outcome-told : (script : PlainScript) → IsScript script → (outcome : PlainOutcome) → IsLawful script outcome
    → AllThree (TellsHistory script) script.start.markets outcome.accounts.markets outcome.markets
outcome-told script facts outcome lawful =
    three-weaker (IsLawfulMarket script) (TellsHistory script) (history-told script facts)
    script.start.markets outcome.accounts.markets outcome.markets lawful.markets
