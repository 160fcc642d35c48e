-- What a shard leaves by itself is what the whole leaves of it.
use Rattle.std.proofs.Common.{◌≡◌, ◌==◌, ℕ, suc, Bool, true, false, cond, List, [], ◌∷◌, get_or, arith, map, refl, sym, ap, ◌∙◌, subst}
use Rattle.dex_world.proofs.Common.{AllPairs, AllZip, EachTwo, Listing, MarketState, PlainAccount, PlainMarketAccounts, PlainRow, WalletSeen, WalletState, World, filter, fold_items, members}
use Rattle.dex_parts.proofs.Common.{All, IsLeftIn, IsReplayOf, Item, PlainMarketJournal, PlainOutcome, PlainScript, PlainWalletJournal, filter-of, head-same, items_of, market_state, start_world, tail-same, wallet_state, with_amount, with_amounts, world_after}
use Rattle.std.proofs.lemmas.List.Elements.{All-cons, filter_agree}
use Rattle.dex_replay.specs.Acting.{NeverFalls}
use Rattle.dex_replay.proofs.Groups.{each-two, each-two-weaker, grouped-each, grouped-filter, grouped-number, grouped-two}
use Rattle.dex_replay.proofs.LastAccounts.{listing-in}
use Rattle.dex_replay.proofs.OneReplay.{stand-for-one}
use Rattle.dex_parts.specs.Shards.{AreOfOneShard, FallsInto, IsItemOfOneShard, IsLeftInShard, IsOfOneShard, IsShardOf, Sharding, has_market, has_wallet, items_in, market_journals_in, markets_in, rows_in, wallet_journals_in, wallets_in, world_in}
use Rattle.dex_parts.proofs.KeptLaws.{named}
use Rattle.dex_parts.proofs.LeftLaws.{StandIn, journal_in, journals-left, named-left, wallet-journals-left, wallet_journal_in}
use Rattle.dex_parts.proofs.ShardWorlds.{is_market_in, is_wallet_in, items-act}

-- ---- lists side by side, and what tests of both keep

zip-filter : {A B : Type 0} (R : A → B → Type 0) (p : A → Bool) (q : B → Bool) → ((x : A) (y : B) → R x y → p x ≡ q y) → (xs : List A) (ys : List B)
    → AllZip R xs ys → AllZip R (filter p xs) (filter q ys)
zip-filter R p q same [] [] all = tt
zip-filter R p q same (x ∷ xs) (y ∷ ys) all =
    let rest = zip-filter R p q same xs ys all.1 in
    subst (λ (b : Bool). AllZip R (cond (p x) (x ∷ filter p xs) (filter p xs)) (cond b (y ∷ filter q ys) (filter q ys))) (same x y all.0)
    (either (p x) all.0 rest)
  where
    either : (b : Bool) → R x y → AllZip R (filter p xs) (filter q ys)
        → AllZip R (cond b (x ∷ filter p xs) (filter p xs)) (cond b (y ∷ filter q ys) (filter q ys))
    either true here rest = (here, rest)
    either false here rest = rest
zip-filter R p q same _ _ all = absurd all

module _ (sharding : Sharding) (shard : ℕ) where
  -- wallets of the shard with the amounts of the shard's are the shard's with their amounts
  amounts-in : (accounts : List PlainAccount) (states : List WalletState) → map named states ≡ map named (map wallet_state accounts)
      → with_amounts (wallets_in sharding shard accounts) (filter (is_wallet_in sharding shard) states) ≡ wallets_in sharding shard (with_amounts accounts states)
  amounts-in [] [] same = refl
  amounts-in (account ∷ accounts) (state ∷ states) same =
      let own : Bool = has_wallet sharding shard account.address in
      let here : is_wallet_in sharding shard state ≡ own = ap (λ (seen : WalletSeen). has_wallet sharding shard seen.address) (head-same same) in
      ap (λ (b : Bool). with_amounts (cond own (account ∷ wallets_in sharding shard accounts) (wallets_in sharding shard accounts))
      (cond b (state ∷ filter (is_wallet_in sharding shard) states) (filter (is_wallet_in sharding shard) states))) here
      ∙ either own (amounts-in accounts states (tail-same same))
    where
      either : (b : Bool)
          → with_amounts (wallets_in sharding shard accounts) (filter (is_wallet_in sharding shard) states) ≡ wallets_in sharding shard (with_amounts accounts states)
          → with_amounts (cond b (account ∷ wallets_in sharding shard accounts) (wallets_in sharding shard accounts))
          (cond b (state ∷ filter (is_wallet_in sharding shard) states) (filter (is_wallet_in sharding shard) states))
          ≡ cond b (record account { bytes = with_amount account.bytes state.seen.balance } ∷ wallets_in sharding shard (with_amounts accounts states))
          (wallets_in sharding shard (with_amounts accounts states))
      either true rest = ap (λ (others : List PlainAccount). record account { bytes = with_amount account.bytes state.seen.balance } ∷ others) rest
      either false rest = rest
  amounts-in _ _ same = absurd (cc)

  -- ---- the script's items fall into the shards as its rows do

  module _ (script : PlainScript) (rising : AllPairs NeverFalls script.rows) (falls : FallsInto sharding script) where
    abbrev number_of : PlainRow → ℕ
    number_of row = row.number

    legs-two : EachTwo (AreOfOneShard sharding) script.rows
    legs-two = each-two (AreOfOneShard sharding) script.rows falls.legs

    pub own-items : items_in sharding shard (items_of script.rows) ≡ items_of (rows_in sharding shard script.rows)
    own-items =
        let own : PlainRow → Bool = λ (row : PlainRow). has_market sharding shard row.market in
        grouped-filter number_of own script.rows
        (each-two NeverFalls script.rows rising)
        (each-two-weaker (AreOfOneShard sharding) (λ one other. one.number ≡ other.number → own one ≡ own other)
        (λ one other legs same. ap (λ (n : ℕ). n == shard) (legs same)) script.rows legs-two)

    pub items-fall : All (IsItemOfOneShard sharding) (items_of script.rows)
    items-fall =
        let each = grouped-each number_of (IsOfOneShard sharding) script.rows falls.rows in
        let numbers = grouped-number number_of script.rows in
        let legs = grouped-two number_of (AreOfOneShard sharding) script.rows legs-two in
        λ k d within. one-item (get_or (items_of script.rows) k d) (each k d within) (numbers k d within) (legs k d within)
      where
        one-item : (item : Item) → All (IsOfOneShard sharding) (members item) → All (λ (row : PlainRow). row.number ≡ item.first.number) (members item)
            → EachTwo (AreOfOneShard sharding) (members item) → IsItemOfOneShard sharding item
        one-item item each numbers legs =
            let InItem : PlainRow → Type 0 = λ (row : PlainRow). sharding.market row.market ≡ sharding.market item.first.market in
            let all : All InItem (members item) =
            All-cons InItem item.first item.others refl
            (λ k d within. sym (legs.0 k d within (sym (numbers (suc k) d (omega (arith, within)))))) in
            λ k d within. (each k d within, all k d within)

    -- ---- the world of the shard

    module _ (part : PlainScript) (is : IsShardOf sharding shard script part) where
      abbrev whole : World
      whole = world_after script (items_of script.rows)

      abbrev own : World
      own = world_after part (items_of part.rows)

      markets-start : map market_state (markets_in sharding shard script.start.markets) ≡ filter (is_market_in sharding shard) (map market_state script.start.markets)
      markets-start =
          ap (map market_state)
          (filter_agree (λ (market : PlainMarketAccounts). has_market sharding shard market.address) (λ (market : PlainMarketAccounts). is_market_in sharding shard (market_state market))
          (λ market. ap (λ (listing : Listing). has_market sharding shard listing.address) (sym (listing-in market))) script.start.markets)
          ∙ filter-of market_state (is_market_in sharding shard) script.start.markets

      start-in : start_world part ≡ world_in sharding shard (start_world script)
      start-in = λ i. record {
        markets = (ap (map market_state) is.markets ∙ markets-start) i;
        wallets = (ap (map wallet_state) is.wallets ∙ filter-of wallet_state (is_wallet_in sharding shard) script.start.wallets) i;
        srm = is.srm i;
        msrm = is.msrm i;
        program = is.program i;
      }

      pub world-own : own ≡ world_in sharding shard whole
      world-own =
          ap (λ (some : List PlainRow). fold_items (items_of some) (start_world part)) is.rows
          ∙ ap (λ (items : List Item). fold_items items (start_world part)) (sym own-items)
          ∙ ap (fold_items (items_in sharding shard (items_of script.rows))) start-in
          ∙ items-act sharding shard (items_of script.rows) (start_world script) items-fall

      -- ---- what is left

      pub leaves : (left : PlainOutcome) → IsReplayOf part left → IsLeftIn part (world_in sharding shard whole) left
      leaves left replay = subst (λ (world : World). IsLeftIn part world left) world-own replay

      module _ (all left : PlainOutcome) (replay : IsReplayOf script all) (replay_own : IsReplayOf part left) where
        own-markets : own.markets ≡ filter (is_market_in sharding shard) whole.markets
        own-markets = ap (λ (world : World). world.markets) world-own

        own-wallets : own.wallets ≡ filter (is_wallet_in sharding shard) whole.wallets
        own-wallets = ap (λ (world : World). world.wallets) world-own

        left-in : IsLeftInShard sharding shard all left
        left-in = record {
          market_journals = journals-left part (items_of part.rows) left replay_own
              ∙ ap (map journal_in) own-markets
              ∙ filter-of journal_in (λ (journal : PlainMarketJournal). has_market sharding shard journal.address) whole.markets
              ∙ ap (market_journals_in sharding shard) (sym (journals-left script (items_of script.rows) all replay));
          wallet_journals = wallet-journals-left part (items_of part.rows) left replay_own
              ∙ ap (map wallet_journal_in) own-wallets
              ∙ filter-of wallet_journal_in (λ (journal : PlainWalletJournal). has_wallet sharding shard journal.address) whole.wallets
              ∙ ap (wallet_journals_in sharding shard) (sym (wallet-journals-left script (items_of script.rows) all replay));
          wallets = replay_own.amounts
              ∙ ap (λ (accounts : List PlainAccount). with_amounts accounts own.wallets) is.wallets
              ∙ ap (λ (states : List WalletState). with_amounts (wallets_in sharding shard script.start.wallets) states) own-wallets
              ∙ amounts-in script.start.wallets whole.wallets (named-left script (items_of script.rows) all replay)
              ∙ ap (wallets_in sharding shard) (sym replay.amounts);
          markets = stand-for-one left.accounts.markets (markets_in sharding shard all.accounts.markets) (filter (is_market_in sharding shard) whole.markets)
              (subst (λ (states : List MarketState). AllZip StandIn left.accounts.markets states) own-markets replay_own.stand)
              (zip-filter StandIn (λ (market : PlainMarketAccounts). has_market sharding shard market.address) (is_market_in sharding shard)
              (λ accounts state stands. ap (has_market sharding shard) stands.address) all.accounts.markets whole.markets replay.stand);
        }

pub shard-left : (sharding : Sharding) (script : PlainScript) → AllPairs NeverFalls script.rows → FallsInto sharding script → (shard : ℕ) (part : PlainScript)
    (all left : PlainOutcome) → IsShardOf sharding shard script part → IsReplayOf script all → IsReplayOf part left → IsLeftInShard sharding shard all left
shard-left sharding script rising falls shard part all left is replay replay_own = left-in sharding shard script rising falls part is all left replay replay_own
