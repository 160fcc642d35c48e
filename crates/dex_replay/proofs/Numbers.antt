-- Lawful journals have one entry for each row.
use Rattle.std.proofs.Common.{◌≡◌, ◌==◌, ◌<◌, ◌≤◌, ℕ, Bool, true, List, [], ◌∷◌, get_or, map, refl, sym, ap, ◌∙◌, arith}
use Rattle.dex_world.proofs.Common.{Address, All-filter, AllPairs, AllPairs-filter, Asked, Call, Entry, IsLegal, Market, PlainAccount, PlainMarketAccounts, PlainRow, WalletEntry, asked_of, false≢true, filter, filter_passes, is_same, is_same-true, names, step_of}
use Rattle.dex_replay.proofs.Common.{All, AreLegs, AreRows, IsLawfulMarket, IsLawfulWallet, Origin, PlainMarketJournal, PlainScript, PlainWalletJournal, market_in, origin_of_entry, origin_of_row, rows_of_market, rows_of_wallet}
use Rattle.dex_replay.proofs.MappedLists.{filter-across, filter-of, map-map}

-- the lane and the number of a call, as its entry and as its row have them
abbrev entry_sign : Call → ℕ × ℕ
entry_sign call = (call.entry.lane, call.entry.row)

abbrev asked_sign : Call → ℕ × ℕ
asked_sign call = (call.asked.lane, call.asked.number)

-- are the same in a legal history
signs : (calls : List Call) (m : Market) → IsLegal m calls → map entry_sign calls ≡ map asked_sign calls
signs [] m legal = refl
signs (call ∷ calls) m legal = λ i. ((legal.0.entry i).lane, (legal.0.entry i).row) ∷ signs calls (step_of call m).market legal.1 i

pub market-numbers : (script : PlainScript) (first last : PlainMarketAccounts) (journal : PlainMarketJournal) (lane : ℕ)
    → IsLawfulMarket script first last journal
    → map (λ (entry : Entry). entry.row) (filter (λ (entry : Entry). entry.lane == lane) journal.entries)
    ≡ map (λ (row : PlainRow). row.number) (rows_of_market lane first.address script.rows)
market-numbers script first last journal lane lawful =
    let calls = lawful.calls in
    let number : ℕ × ℕ → ℕ = λ sign. sign.1 in
    let by_entry : List Call = filter (λ (call : Call). call.entry.lane == lane) calls in
    let by_row : List Call = filter (λ (call : Call). call.asked.lane == lane) calls in
    ap (λ (entries : List Entry). map (λ (entry : Entry). entry.row) (filter (λ (entry : Entry). entry.lane == lane) entries)) lawful.entries
    ∙ ap (λ (entries : List Entry). map (λ (entry : Entry). entry.row) entries) (sym (filter-of (λ (call : Call). call.entry) (λ (entry : Entry). entry.lane == lane) calls))
    ∙ map-map (λ (call : Call). call.entry) (λ (entry : Entry). entry.row) by_entry
    ∙ sym (map-map entry_sign number by_entry)
    ∙ ap (λ (some : List (ℕ × ℕ)). map number some) (filter-across entry_sign asked_sign (λ (sign : ℕ × ℕ). sign.0 == lane) calls calls (signs calls (market_in first) lawful.legal))
    ∙ map-map asked_sign number by_row
    ∙ sym (map-map (λ (call : Call). call.asked) (λ (asked : Asked). asked.number) by_row)
    ∙ ap (λ (some : List Asked). map (λ (asked : Asked). asked.number) some) (lawful.rows lane)
    ∙ map-map asked_of (λ (asked : Asked). asked.number) (rows_of_market lane first.address script.rows)

pub wallet-numbers : (script : PlainScript) (first last : PlainAccount) (journal : PlainWalletJournal) (lane : ℕ)
    → IsLawfulWallet script first last journal
    → map (λ (entry : WalletEntry). entry.row) (filter (λ (entry : WalletEntry). entry.lane == lane) journal.entries)
    ≡ map (λ (row : PlainRow). row.number) (rows_of_wallet lane first.address script.rows)
wallet-numbers script first last journal lane lawful =
    sym (map-map origin_of_entry (λ (origin : Origin). origin.row) (filter (λ (entry : WalletEntry). entry.lane == lane) journal.entries))
    ∙ ap (λ (some : List Origin). map (λ (origin : Origin). origin.row) some) (lawful.rows lane)
    ∙ map-map origin_of_row (λ (origin : Origin). origin.row) (rows_of_wallet lane first.address script.rows)

-- the rows of a part rise, where no two of one number are in it
abbrev pub Rises : PlainRow → PlainRow → Type 0
Rises one other = one.number < other.number

module _ (script : PlainScript) (rows : AreRows script) (lane : ℕ) (test : PlainRow → Bool) where
  abbrev part : List PlainRow
  part = filter (λ (row : PlainRow). row.lane == lane) (filter test script.rows)

  abbrev Both : PlainRow → PlainRow → Type 0
  Both one other = (one.number ≤ other.number) × (one.number ≡ other.number → AreLegs one other)

  pub part-rises : ((one other : PlainRow) → test one ≡ true → test other ≡ true → AreLegs one other → ⊥) → AllPairs Rises part
  part-rises apart i j d less within =
      let passes : All (λ (row : PlainRow). test row ≡ true) part =
      All-filter (λ (row : PlainRow). row.lane == lane) (λ (row : PlainRow). test row ≡ true) (filter test script.rows) (filter_passes test script.rows) in
      let both : AllPairs Both part =
      AllPairs-filter Both (λ (row : PlainRow). row.lane == lane) (filter test script.rows)
      (AllPairs-filter Both test script.rows (λ a b e below inside. (rows.rising a b e below inside, rows.legs a b e below inside))) in
      let is : Both (get_or part i d) (get_or part j d) = both i j d less within in
      let differ : (get_or part i d).number ≡ (get_or part j d).number → ⊥ =
      λ same. apart (get_or part i d) (get_or part j d) (passes i d (omega (arith, less, within))) (passes j d within) (is.1 same) in
      omega (arith, is.0, differ)

pub market-rises : (script : PlainScript) (lane : ℕ) (address : Address) → AreRows script → AllPairs Rises (rows_of_market lane address script.rows)
market-rises script lane address rows =
    part-rises script rows lane (λ (row : PlainRow). is_same row.market address)
    (λ one other here there legs.
    false≢true (sym legs.apart.markets ∙ ap (is_same one.market) (is_same-true other.market address there) ∙ here))

pub wallet-rises : (script : PlainScript) (lane : ℕ) (address : Address) → AreRows script → AllPairs Rises (rows_of_wallet lane address script.rows)
wallet-rises script lane address rows =
    part-rises script rows lane (λ (row : PlainRow). names row address)
    (λ one other here there legs. false≢true (sym (legs.apart.wallets address there) ∙ here))
