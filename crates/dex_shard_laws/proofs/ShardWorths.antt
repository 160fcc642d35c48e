-- The worths of a shard's accounts are those of the whole.
use Rattle.std.proofs.Common.{◌≡◌, ◌==◌, IfSome, ℕ, ℤ, pos, ◌+ℤ◌, ◌-ℤ◌, Bool, true, false, cond, List, [], ◌∷◌, ◌++◌, get_or, map, Option, Some, None, refl, sym, ap, ◌∙◌}
use Rattle.dex_world.proofs.Common.{Address, All-head, All-map, All-tail, AllPairs, AllZip, Call, Entry, Market, Movement, PlainAccount, PlainMarketAccounts, PlainRow, Seen, asked_of, filter, filter-append, is_same, is_same-true, names, total}
use Rattle.dex_replay.proofs.Common.{IsReplayOf, PlainMarketJournal, PlainOutcome, PlainScript, market_in}
use Rattle.std.specs.List.{All}
use Rattle.dex_history.specs.Journal.{front}
use Rattle.dex_script_types.specs.Firsts.{first_of}
use Rattle.std.specs.Option.{unwrap_or}
use Rattle.std.proofs.lemmas.Bool.{and_parts, both_ways, cond-false, cond_both}
use Rattle.dex_types.specs.Side.{Token, Coin, Pc}
use Rattle.dex_types.specs.Trader.{Trader}
use Rattle.dex_accounts.proofs.Decoded as decoded
use Rattle.dex_eager.specs.Worth.{Worth, held_for}
use Rattle.dex_world.proofs.MappedLists.{head-same, tail-same}
use Rattle.dex_world.proofs.NameLaws.{row-among}
use Rattle.dex_replay.proofs.Groups.{filter-all, filter-none}
use Rattle.dex_replay.specs.Acting.{NeverFalls}
use Rattle.dex_replay.specs.Alike.{StandForOne}
use Rattle.dex_replay.specs.EntryCalls.{call_by, call_told, calls_told, is_row_on, role_told, seen_told, wallet_told, with_call}
use Rattle.dex_replay.specs.Told.{told_in, told_out}
use Rattle.dex_replay.specs.WorthTold.{PlainWorthRow, calls_of, row_told, rows_told, table_told, tables_told, worth_told}
use Rattle.dex_parts.specs.Shards.{FallsInto, IsLeftInShard, IsOfOneShard, IsShardOf, Sharding, has_market, has_wallet, market_journals_in, markets_in}
use Rattle.dex_parts.proofs.LeftLaws.{same-addresses}
use Rattle.dex_parts.proofs.ShardLaws.{shard-left}

-- the first that passes is among those that are kept, and tells there what it tells here
first-kept : {X Y : Type 0} (test kept : X → Bool) (f g : X → Y) (xs : List X) → ((x : X) → test x ≡ true → kept x ≡ true) → All (λ (x : X). kept x ≡ true → f x ≡ g x) xs
    → first_of test f (filter kept xs) ≡ first_of test g xs
first-kept test kept f g [] own same = refl
first-kept {X} {Y} test kept f g (x ∷ xs) own same =
    let Same : X → Type 0 = λ (y : X). kept y ≡ true → f y ≡ g y in
    let rest : first_of test f (filter kept xs) ≡ first_of test g xs = first-kept test kept f g xs own (All-tail Same x xs same) in
    cond_both (kept x) (x ∷ filter kept xs) (filter kept xs) (λ (some : List X). first_of test f some ≡ first_of test g (x ∷ xs))
    (λ mine.
    ap (λ (y : Y). cond (test x) (Some y) (first_of test f (filter kept xs))) (All-head Same x xs same mine)
    ∙ ap (cond (test x) (Some (g x))) rest)
    (λ away. rest ∙ sym (cond-false (test x) (Some (g x)) (first_of test g xs) (false_from (test x) away (own x))))
  where
    false_from : (b : Bool) → kept x ≡ false → (b ≡ true → kept x ≡ true) → b ≡ false
    false_from true away is = absurd (both_ways (kept x) away (is refl))
    false_from false away is = refl

module _ (sharding : Sharding) (shard : ℕ) (script part : PlainScript) (falls : FallsInto sharding script) (is : IsShardOf sharding shard script part) where
  abbrev own_market : Address → Bool
  own_market address = has_market sharding shard address

  -- ---- calls

  module _ (row : PlainRow) (one : IsOfOneShard sharding row) (own : own_market row.market ≡ true) (moves : List Movement) where
    role-same : (role : Option Address) → IfSome role (λ (address : Address). names row address ≡ true)
        → role_told part.start.wallets moves role ≡ role_told script.start.wallets moves role
    role-same None named = refl
    role-same (Some address) named =
        ap (first_of (λ (wallet : PlainAccount). is_same address wallet.address) (wallet_told moves)) is.wallets
        ∙ first-kept (λ (wallet : PlainAccount). is_same address wallet.address) (λ (wallet : PlainAccount). has_wallet sharding shard wallet.address)
        (wallet_told moves) (wallet_told moves) script.start.wallets
        (λ wallet same. ap (has_wallet sharding shard) (sym (is_same-true address wallet.address same)) ∙ ap (λ (n : ℕ). n == shard) (one address named) ∙ own)
        (λ k d within mine. refl)

  seen-same : (row : PlainRow) (entry : Entry) → IsOfOneShard sharding row → own_market row.market ≡ true → seen_told part row entry ≡ seen_told script row entry
  seen-same row entry one own =
      let same = role-same row one own (front entry.moves) in
      λ i. record {
        coin = same row.coin (row-among row).0 i;
        pc = same row.pc (row-among row).1 i;
        discount = same row.discount (row-among row).2 i;
        referrer = same row.referrer (row-among row).3 i;
        srm = is.srm i;
        msrm = is.msrm i;
        program = is.program i;
      }

  call-same : (market : Address) → own_market market ≡ true → (entry : Entry) → call_told part market entry ≡ call_told script market entry
  call-same market own entry =
      ap (first_of (is_row_on market entry.row) (call_by part entry)) is.rows
      ∙ first-kept (is_row_on market entry.row) (λ (row : PlainRow). own_market row.market) (call_by part entry) (call_by script entry) script.rows
      (λ row on. ap own_market (is_same-true row.market market (and_parts (row.number == entry.row) (is_same row.market market) on).1) ∙ own)
      (λ k d within mine. ap (λ (seen : Seen). record { asked = asked_of (get_or script.rows k d); seen = seen; entry = entry })
      (seen-same (get_or script.rows k d) entry (falls.rows k d within) mine))

  calls-same : (market : Address) → own_market market ≡ true → (entries : List Entry) → calls_told part market entries ≡ calls_told script market entries
  calls-same market own [] = refl
  calls-same market own (entry ∷ entries) = λ i. with_call (call-same market own entry i) (calls-same market own entries i)

  -- ---- rows of the table

  rows-same : (last : PlainMarketAccounts) (journal : PlainMarketJournal) → own_market journal.address ≡ true → rows_told part last journal ≡ rows_told script last journal
  rows-same last journal own =
      ap (λ (calls : Option (List Call)). map (λ (entry : Address × Trader). record {
        market = journal.address;
        account = entry.0;
        worth = worth_told entry.0 last (unwrap_or calls []);
      }) (market_in last).traders) (calls-same journal.address own journal.entries)

  abbrev is_row_in : PlainWorthRow → Bool
  is_row_in row = own_market row.market

  -- all rows of a market are of its shard
  rows-of : (b : Bool) (last : PlainMarketAccounts) (journal : PlainMarketJournal) → own_market journal.address ≡ b → All (λ (row : PlainWorthRow). is_row_in row ≡ b) (rows_told script last journal)
  rows-of b last journal lies =
      All-map (λ (row : PlainWorthRow). is_row_in row ≡ b) (row_told script last journal) (market_in last).traders (λ k d within. lies)

  tables-in : (lasts : List PlainMarketAccounts) (journals : List PlainMarketJournal)
      → map (λ (accounts : PlainMarketAccounts). accounts.address) lasts ≡ map (λ (journal : PlainMarketJournal). journal.address) journals
      → tables_told part (markets_in sharding shard lasts) (market_journals_in sharding shard journals) ≡ filter is_row_in (tables_told script lasts journals)
  tables-in [] [] same = refl
  tables-in (last ∷ lasts) (journal ∷ journals) same =
      let rest = tables-in lasts journals (tail-same same) in
      let others : List PlainMarketAccounts = markets_in sharding shard lasts in
      let other_journals : List PlainMarketJournal = market_journals_in sharding shard journals in
      let own : Bool = own_market journal.address in
      ap (λ (address : Address). tables_told part (cond (own_market address) (last ∷ others) others) (cond own (journal ∷ other_journals) other_journals)) (head-same same)
      ∙ either own refl rest
      ∙ sym (filter-append is_row_in (rows_told script last journal) (tables_told script lasts journals))
    where
      either : (b : Bool) → own_market journal.address ≡ b
          → tables_told part (markets_in sharding shard lasts) (market_journals_in sharding shard journals) ≡ filter is_row_in (tables_told script lasts journals)
          → tables_told part (cond b (last ∷ markets_in sharding shard lasts) (markets_in sharding shard lasts))
          (cond b (journal ∷ market_journals_in sharding shard journals) (market_journals_in sharding shard journals))
          ≡ filter is_row_in (rows_told script last journal) ++ filter is_row_in (tables_told script lasts journals)
      either true lies rest =
          ap (λ (rows : List PlainWorthRow). rows ++ tables_told part (markets_in sharding shard lasts) (market_journals_in sharding shard journals)) (rows-same last journal lies)
          ∙ ap (λ (rows : List PlainWorthRow). rows_told script last journal ++ rows) rest
          ∙ ap (λ (rows : List PlainWorthRow). rows ++ filter is_row_in (tables_told script lasts journals))
          (sym (filter-all is_row_in (rows_told script last journal) (rows-of true last journal lies)))
      either false lies rest =
          rest ∙ ap (λ (rows : List PlainWorthRow). rows ++ filter is_row_in (tables_told script lasts journals))
          (sym (filter-none is_row_in (rows_told script last journal) (rows-of false last journal lies)))
  tables-in _ _ same = absurd (cc)

-- ---- accounts that stand for one market tell one table

-- an account's worth, where this is the last market
abbrev worth_of : Token → Address → Market → List Call → ℤ
worth_of token owner m calls = (pos (held_for token owner m) -ℤ pos (total (told_in token owner) calls)) +ℤ pos (total (told_out token owner) calls)

abbrev worth_in : Market → Address → List Call → Worth
worth_in m owner calls = record { coin = worth_of Coin owner m calls; pc = worth_of Pc owner m calls }

rows-alike : (script : PlainScript) (one other : PlainMarketAccounts) (journal : PlainMarketJournal) → StandForOne one other → rows_told script one journal ≡ rows_told script other journal
rows-alike script one other journal alike =
    let same : market_in one ≡ market_in other = decoded.told one alike.market alike.first ∙ sym (decoded.told other alike.market alike.second) in
    ap (λ (m : Market). map (λ (entry : Address × Trader). record {
      market = journal.address;
      account = entry.0;
      worth = worth_in m entry.0 (calls_of script journal);
    }) m.traders) same

tables-alike : (script : PlainScript) (one other : List PlainMarketAccounts) (journals : List PlainMarketJournal) → AllZip StandForOne one other
    → tables_told script one journals ≡ tables_told script other journals
tables-alike script [] [] journals alike = refl
tables-alike script (x ∷ xs) (y ∷ ys) [] alike = refl
tables-alike script (x ∷ xs) (y ∷ ys) (journal ∷ journals) alike = λ i. rows-alike script x y journal alike.0 i ++ tables-alike script xs ys journals alike.1 i
tables-alike script _ _ _ alike = absurd alike

pub shard-worth : (sharding : Sharding) (script : PlainScript) → AllPairs NeverFalls script.rows → FallsInto sharding script → (shard : ℕ) (part : PlainScript) (all left : PlainOutcome)
    → IsShardOf sharding shard script part → IsReplayOf script all → IsReplayOf part left
    → table_told part left ≡ filter (λ (row : PlainWorthRow). has_market sharding shard row.market) (table_told script all)
shard-worth sharding script rising falls shard part all left is replay replay_own =
    let own : IsLeftInShard sharding shard all left = shard-left sharding script rising falls shard part all left is replay replay_own in
    tables-alike part left.accounts.markets (markets_in sharding shard all.accounts.markets) left.markets own.markets
    ∙ ap (tables_told part (markets_in sharding shard all.accounts.markets)) own.market_journals
    ∙ tables-in sharding shard script part falls is all.accounts.markets all.markets
    (same-addresses script.start.markets all.accounts.markets replay.start.markets ∙ sym replay.start.market_journals)
