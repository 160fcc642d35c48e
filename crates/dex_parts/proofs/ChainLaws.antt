-- A script in parts is one replay.
use Rattle.std.proofs.Common.{◌≡◌, ◌==◌, false, List, [], ◌∷◌, ◌++◌, append_assoc, length, map, refl, sym, ap, ap₂, ◌∙◌, subst}
use Rattle.dex_world.proofs.Common.{Address, All-append, All-weaker, AllZip, Entry, MarketState, PlainAccount, PlainAccounts, PlainMarketAccounts, PlainRow, WalletEntry, WalletState, World, fold_items, length-map}
use Rattle.dex_parts.proofs.Common.{All, All-behind, All-front, AreAccepted, AreOfOneMarket, IsLeftIn, IsReplayOf, Item, Limits, PlainMarketJournal, PlainOutcome, PlainScript, PlainWalletJournal, address_of, append-nil, items_of, market_state, start_world, wallet_state, with_amounts, world_after}
use Rattle.dex_token.proofs.AmountWrites.{with_amount-again}
use Rattle.dex_world.proofs.GroupLaws.{grouped-behind}
use Rattle.dex_parts.specs.Chains.{AreCut, AreLinked, AreTwoParts, IsChainOf, IsCut, market_journal_behind, outcome_behind, outcomes_behind, rows_of_parts, wallet_journal_behind}
use Rattle.dex_parts.specs.Together.{bare_world, each_behind, market_behind, wallet_behind, world_behind}
use Rattle.dex_parts.proofs.KeptLaws.{msrm-kept, program-kept, srm-kept}
use Rattle.dex_parts.proofs.LeftLaws.{StandIn, left-as, markets-told, same-addresses, wallets-told}
use Rattle.dex_replay.proofs.ActedTo.{items-append}
use Rattle.dex_parts.proofs.TogetherLaws.{behind-others}

-- ---- lists behind others

-- what is told of two that stand one behind the other, as a pair tells it
behind-told : {A B : Type 0} (tell : A → B) (one : A → A → A) (other : B → B → B) → ((x y : A) → tell (one x y) ≡ other (tell x) (tell y))
    → (xs ys : List A) → map tell (each_behind one xs ys) ≡ each_behind other (map tell xs) (map tell ys)
behind-told tell one other same (x ∷ xs) (y ∷ ys) = λ i. same x y i ∷ behind-told tell one other same xs ys i
behind-told tell one other same _ _ = refl

-- what only the first tells, and what only the second
behind-first : {A B : Type 0} (tell : A → B) (one : A → A → A) → ((x y : A) → tell (one x y) ≡ tell x) → (xs ys : List A) → length xs ≡ length ys
    → map tell (each_behind one xs ys) ≡ map tell xs
behind-first tell one same [] [] long = refl
behind-first tell one same (x ∷ xs) (y ∷ ys) long = λ i. same x y i ∷ behind-first tell one same xs ys (cc long) i
behind-first tell one same _ _ long = absurd (cc)

behind-second : {A B : Type 0} (tell : A → B) (one : A → A → A) → ((x y : A) → tell (one x y) ≡ tell y) → (xs ys : List A) → length xs ≡ length ys
    → map tell (each_behind one xs ys) ≡ map tell ys
behind-second tell one same [] [] long = refl
behind-second tell one same (x ∷ xs) (y ∷ ys) long = λ i. same x y i ∷ behind-second tell one same xs ys (cc long) i
behind-second tell one same _ _ long = absurd (cc)

pub same-long : {A B C : Type 0} (f : A → C) (g : B → C) (xs : List A) (ys : List B) → map f xs ≡ map g ys → length xs ≡ length ys
same-long {C = C} f g xs ys same = sym (length-map xs f) ∙ ap (λ (zs : List C). length zs) same ∙ length-map ys g

stand-behind : (all : List PlainMarketAccounts) (before states : List MarketState) → length before ≡ length states → AllZip StandIn all states
    → AllZip StandIn all (each_behind market_behind before states)
stand-behind all [] [] long stand = stand
stand-behind (accounts ∷ all) (one ∷ before) (state ∷ states) long stand = (stand.0, stand-behind all before states (cc long) stand.1)
stand-behind [] (one ∷ before) (state ∷ states) long stand = absurd stand
stand-behind _ _ _ long stand = absurd (cc)

amounts-again : (accounts : List PlainAccount) (before states : List WalletState) → length before ≡ length states
    → with_amounts (with_amounts accounts before) states ≡ with_amounts accounts (each_behind wallet_behind before states)
amounts-again [] before states long = refl
amounts-again (account ∷ accounts) [] [] long = refl
amounts-again (account ∷ accounts) (one ∷ before) (state ∷ states) long =
    λ i. record account { bytes = with_amount-again account.bytes one.seen.balance state.seen.balance i } ∷ amounts-again accounts before states (cc long) i
amounts-again _ _ _ long = absurd (cc)

of-one-market : (first next last : List PlainMarketAccounts) → AllZip AreOfOneMarket first next → AllZip AreOfOneMarket next last → AllZip AreOfOneMarket first last
of-one-market [] [] [] one other = tt
of-one-market [] [] (z ∷ zs) one other = absurd other
of-one-market (x ∷ xs) (y ∷ ys) [] one other = absurd other
of-one-market (x ∷ xs) (y ∷ ys) (z ∷ zs) one other = (
  record {
    address = other.0.address ∙ one.0.address;
    authority = other.0.authority ∙ one.0.authority;
    orders = other.0.orders ∙ one.0.orders;
  },
  of-one-market xs ys zs one.1 other.1,
)
of-one-market _ _ _ one other = absurd one

-- ---- two parts

module _ (script first second : PlainScript) (one two : PlainOutcome) (are : AreTwoParts script first one second) (left : IsReplayOf first one)
    (then : IsReplayOf second two) where
  abbrev done : List Item
  done = items_of first.rows

  abbrev later : List Item
  later = items_of second.rows

  abbrev early : World
  early = world_after first done

  abbrev late : World
  late = world_after second later

  -- the second part starts where the first ends
  starts : start_world second ≡ bare_world early
  starts = λ i. record {
    markets = (ap (λ (start : PlainAccounts). map market_state start.markets) are.goes_on ∙ markets-told first done one left) i;
    wallets = (ap (λ (start : PlainAccounts). map wallet_state start.wallets) are.goes_on ∙ wallets-told first done one left) i;
    srm = (ap (λ (start : PlainAccounts). start.srm) are.goes_on ∙ left.start.srm ∙ sym (srm-kept done (start_world first))) i;
    msrm = (ap (λ (start : PlainAccounts). start.msrm) are.goes_on ∙ left.start.msrm ∙ sym (msrm-kept done (start_world first))) i;
    program = (are.same_program ∙ sym are.program ∙ sym (program-kept done (start_world first))) i;
  }

  start-same : start_world script ≡ start_world first
  start-same = λ i. start_world (record script { start = sym are.start i; program = sym are.program i })

  -- the world at its end is that behind the one at the end of the first
  ends : world_after script (items_of script.rows) ≡ world_behind early late
  ends =
      ap (λ (world : World). fold_items (items_of script.rows) world) start-same
      ∙ ap (λ (rows : List PlainRow). fold_items (items_of rows) (start_world first)) are.rows
      ∙ ap (λ (items : List Item). fold_items items (start_world first)) (grouped-behind (λ (row : PlainRow). row.number) first.rows second.rows are.cut)
      ∙ items-append done later (start_world first)
      ∙ behind-others later early
      ∙ ap (λ (world : World). world_behind early (fold_items later world)) (sym starts)

  -- as many markets and wallets as before
  market-addresses : map (λ (accounts : PlainMarketAccounts). accounts.address) second.start.markets ≡ map (λ (accounts : PlainMarketAccounts). accounts.address) first.start.markets
  market-addresses =
      ap (λ (start : PlainAccounts). map (λ (accounts : PlainMarketAccounts). accounts.address) start.markets) are.goes_on
      ∙ same-addresses first.start.markets one.accounts.markets left.start.markets

  wallet-addresses : map address_of second.start.wallets ≡ map address_of first.start.wallets
  wallet-addresses = ap (λ (start : PlainAccounts). map address_of start.wallets) are.goes_on ∙ left.start.wallets

  market-journals-long : length one.markets ≡ length two.markets
  market-journals-long =
      let address : PlainMarketJournal → Address = λ (journal : PlainMarketJournal). journal.address in
      same-long address address one.markets two.markets (left.start.market_journals ∙ sym market-addresses ∙ sym then.start.market_journals)

  wallet-journals-long : length one.wallets ≡ length two.wallets
  wallet-journals-long =
      let address : PlainWalletJournal → Address = λ (journal : PlainWalletJournal). journal.address in
      same-long address address one.wallets two.wallets (left.start.wallet_journals ∙ sym wallet-addresses ∙ sym then.start.wallet_journals)

  markets-long : length early.markets ≡ length late.markets
  markets-long =
      let of_journal : PlainMarketJournal → List Entry = λ (journal : PlainMarketJournal). journal.entries in
      let of_state : MarketState → List Entry = λ (state : MarketState). state.entries in
      sym (same-long of_journal of_state one.markets early.markets left.markets) ∙ market-journals-long
      ∙ same-long of_journal of_state two.markets late.markets then.markets

  wallets-long : length early.wallets ≡ length late.wallets
  wallets-long =
      let of_journal : PlainWalletJournal → List WalletEntry = λ (journal : PlainWalletJournal). journal.entries in
      let of_state : WalletState → List WalletEntry = λ (state : WalletState). state.entries in
      sym (same-long of_journal of_state one.wallets early.wallets left.wallets) ∙ wallet-journals-long
      ∙ same-long of_journal of_state two.wallets late.wallets then.wallets

  both-left : IsLeftIn first (world_behind early late) (outcome_behind one two)
  both-left = record {
    start = record {
      mints = then.start.mints ∙ ap (λ (start : PlainAccounts). start.mints) are.goes_on ∙ left.start.mints;
      srm = then.start.srm ∙ ap (λ (start : PlainAccounts). start.srm) are.goes_on ∙ left.start.srm;
      msrm = then.start.msrm ∙ ap (λ (start : PlainAccounts). start.msrm) are.goes_on ∙ left.start.msrm;
      wallets = then.start.wallets ∙ wallet-addresses;
      markets = of-one-market first.start.markets one.accounts.markets two.accounts.markets left.start.markets
          (subst (λ (start : PlainAccounts). AllZip AreOfOneMarket start.markets two.accounts.markets) are.goes_on then.start.markets);
      market_journals = behind-first (λ (journal : PlainMarketJournal). journal.address) market_journal_behind (λ x y. refl) one.markets two.markets market-journals-long
          ∙ left.start.market_journals;
      wallet_journals = behind-first (λ (journal : PlainWalletJournal). journal.address) wallet_journal_behind (λ x y. refl) one.wallets two.wallets wallet-journals-long
          ∙ left.start.wallet_journals;
    };
    accepted = subst (λ (l : Limits). AreAccepted l two.accounts) (are.same_limits ∙ sym are.limits) then.accepted;
    markets =
        let joined : List Entry → List Entry → List Entry = λ (before entries : List Entry). before ++ entries in
        behind-told (λ (journal : PlainMarketJournal). journal.entries) market_journal_behind joined (λ x y. refl) one.markets two.markets
        ∙ ap₂ (each_behind joined) left.markets then.markets
        ∙ sym (behind-told (λ (state : MarketState). state.entries) market_behind joined (λ x y. refl) early.markets late.markets);
    wallets =
        let joined : List WalletEntry → List WalletEntry → List WalletEntry = λ (before entries : List WalletEntry). before ++ entries in
        behind-told (λ (journal : PlainWalletJournal). journal.entries) wallet_journal_behind joined (λ x y. refl) one.wallets two.wallets
        ∙ ap₂ (each_behind joined) left.wallets then.wallets
        ∙ sym (behind-told (λ (state : WalletState). state.entries) wallet_behind joined (λ x y. refl) early.wallets late.wallets);
    stand = stand-behind two.accounts.markets early.markets late.markets markets-long then.stand;
    amounts = then.amounts
        ∙ ap (λ (start : PlainAccounts). with_amounts start.wallets late.wallets) are.goes_on
        ∙ ap (λ (wallets : List PlainAccount). with_amounts wallets late.wallets) left.amounts
        ∙ amounts-again first.start.wallets early.wallets late.wallets wallets-long;
    balances = then.balances
        ∙ sym (behind-second (λ (state : WalletState). state.seen.balance) wallet_behind (λ x y. refl) early.wallets late.wallets wallets-long);
  }

  pub two-are-one : IsReplayOf script (outcome_behind one two)
  two-are-one =
      subst (λ (world : World). IsLeftIn script world (outcome_behind one two)) (sym ends)
      (left-as first script (world_behind early late) (outcome_behind one two) are.start are.limits both-left)

-- ---- any number of parts

-- a replay knows of its script the start, the rows, the program and the limits
replay-as : (a b : PlainScript) (outcome : PlainOutcome) → a.start ≡ b.start → a.rows ≡ b.rows → a.program ≡ b.program → a.limits ≡ b.limits
    → IsReplayOf a outcome → IsReplayOf b outcome
replay-as a b outcome start rows program limits replay =
    let worlds : world_after a (items_of a.rows) ≡ world_after b (items_of b.rows) =
    λ i. fold_items (items_of (rows i)) (start_world (record a { start = start i; program = program i })) in
    left-as a b (world_after b (items_of b.rows)) outcome start limits (subst (λ (world : World). IsLeftIn a world outcome) worlds replay)

abbrev IsApart : PlainRow → PlainRow → Type 0
IsApart one other = (one.number == other.number) ≡ false

cut-front : (done rows later : List PlainRow) → IsCut done (rows ++ later) → IsCut done rows
cut-front done rows later cut =
    All-weaker (λ (one : PlainRow). All (IsApart one) (rows ++ later)) (λ (one : PlainRow). All (IsApart one) rows)
    (λ one apart. All-front (IsApart one) rows later apart) done cut

cut-behind : (done rows later : List PlainRow) → IsCut done (rows ++ later) → IsCut rows later → IsCut (done ++ rows) later
cut-behind done rows later cut behind =
    let Apart : PlainRow → Type 0 = λ (one : PlainRow). All (IsApart one) later in
    All-append Apart done rows
    (All-weaker (λ (one : PlainRow). All (IsApart one) (rows ++ later)) Apart (λ one apart. All-behind (IsApart one) rows later apart) done cut) behind

-- parts behind a first one
chain-behind : (script first : PlainScript) (one : PlainOutcome) (parts : List PlainScript) (others : List PlainOutcome) → script.rows ≡ first.rows ++ rows_of_parts parts
    → IsCut first.rows (rows_of_parts parts) → AreCut parts → first.start ≡ script.start → first.program ≡ script.program → first.limits ≡ script.limits
    → IsReplayOf first one → AreLinked script.limits script.program one.accounts parts others → IsReplayOf script (outcomes_behind one others)
chain-behind script first one [] [] rows cut cuts start program limits replay links =
    replay-as first script one start (sym (append-nil first.rows) ∙ sym rows) program limits replay
chain-behind script first one (part ∷ parts) (two ∷ others) rows cut cuts start program limits replay links =
    let rest : List PlainRow = rows_of_parts parts in
    let both : PlainScript = record { start = script.start; rows = first.rows ++ part.rows; lanes = script.lanes; program = script.program; limits = script.limits } in
    let are : AreTwoParts both first one part = record {
      rows = refl;
      cut = cut-front first.rows part.rows rest cut;
      start = start;
      goes_on = links.0;
      program = program;
      same_program = links.1;
      limits = limits;
      same_limits = links.2;
    } in
    chain-behind script both (outcome_behind one two) parts others (rows ∙ sym (append_assoc first.rows part.rows rest))
    (cut-behind first.rows part.rows rest cut cuts.0) cuts.1 refl refl refl (two-are-one both first part one two are replay links.3) links.4
chain-behind script first one _ _ rows cut cuts start program limits replay links = absurd links

pub chain-is-one : (script part : PlainScript) (parts : List PlainScript) (one : PlainOutcome) (others : List PlainOutcome) → IsChainOf script (part ∷ parts) (one ∷ others)
    → IsReplayOf script (outcomes_behind one others)
chain-is-one script part parts one others chain =
    chain-behind script part one parts others chain.rows chain.cut.0 chain.cut.1 chain.links.0 chain.links.1 chain.links.2 chain.links.3 chain.links.4
