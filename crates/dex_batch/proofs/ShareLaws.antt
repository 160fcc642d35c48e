-- Shares of a bank: ready, and what they leave together.
use Rattle.std.proofs.Common.{◌≡◌, ℕ, ◌<◌, Bool, true, false, ◌||◌, eqb, List, [], ◌∷◌, ◌++◌, get_or, length, map, refl, sym, ap, ◌∙◌, subst, arith, All, eq-eqb, filter}
use Rattle.dex_replay.proofs.Common.{AreCells, CellState, CellsState, IsMarketCell, IsWalletCell, MarketCellState, is_market, opened_of, world_of}
use Rattle.dex_world.proofs.Common.{Address, All-cons, All-head, All-nil, All-tail, AllZip-long, MarketState, PlainRow, WalletState, World, fold, get_or-map, is_same, is_same-refl, is_same-true, length-map, list_any_at, names, row_wallets, AllZip, cond_both, list_any, or_parts}
use Rattle.dex_world.specs.declared.places.RowPlaces.{RowPlaces}
use Rattle.dex_world.proofs.MappedLists.{All-second, list_any-map, map-map, zip-at}
use Rattle.dex_act.specs.Opened.{market_state_of}
use Rattle.dex_act.specs.Wallets.{AreApart, is_among, made_of, wallet_state_of}
use Rattle.std.proofs.lemmas.Map.Views.{any-filter_same}
use Rattle.dex_act.proofs.CellLists.{is_among-any}
use Rattle.dex_bank.proofs.Stands.{its-address}
use Rattle.dex_bank.proofs.StepWorld.{among-opened, opened_market}
use Rattle.dex_parts.specs.Shards.{IsOfOneShard, Sharding, rows_in, world_in}
use Rattle.dex_act.specs.Steps.{Terms}
use Rattle.dex_bank.specs.CellsInside.{terms_of}
use Rattle.dex_batch.specs.Acting.{CanAllAct, HaveActed, IsHere}
use Rattle.dex_batch.specs.Groups.{AreGroups, IsOfGroup}
use Rattle.dex_batch.specs.declared.groups.Groups.{Groups}
use Rattle.dex_batch.specs.Parts.{AreAsLong, AreParts, part}
use Rattle.dex_batch.specs.Rooms.{HasRoom, MarketRoom, WalletRoom}
use Rattle.dex_batch.specs.Shares.{AreShares, HasRun, IsReady, ShareState, own_cells, share}
use Rattle.dex_batch.proofs.GroupLaws as group
use Rattle.dex_batch.proofs.GroupLaws.{fold-markets, fold-wallets, group-acts}
use Rattle.dex_batch.proofs.PartLaws.{part-all, part-filter, part-long, part-map, part-zip, parts-same, parts-zip, zip-of}
use Rattle.dex_batch.proofs.RoomLaws.{listing-address, market_room, wallet_room}

-- ---- lists

-- parts of what is made of one list
both-map : {A B C : Type 0} (R : B → C → Type 0) (f : A → B) (g : A → C) (numbers : List ℕ) (number : ℕ) (xs : List A)
    → AllZip R (map f (part numbers number xs)) (map g (part numbers number xs)) → AllZip R (part numbers number (map f xs)) (part numbers number (map g xs))
both-map R f g numbers number xs all =
    subst (AllZip R (part numbers number (map f xs))) (sym (part-map g numbers number xs))
    (subst (λ ys. AllZip R ys (map g (part numbers number xs))) (sym (part-map f numbers number xs)) all)

-- of wallets that are apart each part is
part-apart : (numbers : List ℕ) (number : ℕ) (cells : List CellState) → AreApart cells → AreApart (part numbers number cells)
part-apart [] number cells apart = tt
part-apart (n ∷ numbers) number [] apart = tt
part-apart (n ∷ numbers) number (cell ∷ cells) apart =
    cond_both (eqb n number) (cell ∷ part numbers number cells) (part numbers number cells) AreApart
    (λ own. (none numbers cells apart.0, part-apart numbers number cells apart.1)) (λ away. part-apart numbers number cells apart.1)
  where
    none : (ns : List ℕ) (others : List CellState) → is_among cell.address others ≡ false → is_among cell.address (part ns number others) ≡ false
    none [] others away = refl
    none (m ∷ ns) [] away = refl
    none (m ∷ ns) (other ∷ others) away =
        let both = or_parts (is_same cell.address other.address) (is_among cell.address others) away in
        cond_both (eqb m number) (other ∷ part ns number others) (part ns number others) (λ list. is_among cell.address list ≡ false)
        (λ own. ap (λ (b : Bool). b || is_among cell.address (part ns number others)) both.0 ∙ none ns others both.1) (λ not. none ns others both.1)

-- wallets are apart where they were when they were opened
opened-apart : (cells : List CellState) → AreApart (map made_of cells) → AreApart cells
opened-apart [] apart = tt
opened-apart (cell ∷ cells) apart = (sym (among-opened cell.address cells) ∙ apart.0, opened-apart cells apart.1)

apart-opened : (cells : List CellState) → AreApart cells → AreApart (map made_of cells)
apart-opened [] apart = tt
apart-opened (cell ∷ cells) apart = (among-opened cell.address cells ∙ apart.0, apart-opened cells apart.1)

-- a bank's cells are dealt into piles by groups, of one of which each row is
pub record AreDealt (bank : CellsState) (terms : Terms) (rows : List PlainRow) (numbers : List ℕ) (by : Groups) (of_markets : List (List MarketCellState))
    (of_wallets : List (List CellState)) : Type 0 where
  pub terms_in : terms ≡ terms_of bank
  pub kept : AreCells bank
  pub groups : AreGroups (length bank.markets) (length bank.wallets) by
  pub can : (places : List RowPlaces) × CanAllAct rows places bank × AllZip (IsOfGroup by.markets.items by.wallets.items) places numbers
  pub many_markets : length of_markets ≡ by.count
  pub many_wallets : length of_wallets ≡ by.count
  pub in_markets : AreParts MarketCellState by.markets.items bank.markets of_markets
  pub in_wallets : AreParts CellState by.wallets.items bank.wallets of_wallets

-- the cells of shares
abbrev pub own_markets : ShareState → List MarketCellState
own_markets one = one.cells.markets

abbrev pub own_wallets_of : ShareState → List CellState
own_wallets_of one = one.cells.wallets

module _ {bank : CellsState} {terms : Terms} {rows : List PlainRow} {numbers : List ℕ} {by : Groups} {of_markets : List (List MarketCellState)} {of_wallets : List (List CellState)}
    (dealt : AreDealt bank terms rows numbers by of_markets of_wallets) where
  abbrev gm : List ℕ
  gm = by.markets.items

  abbrev gw : List ℕ
  gw = by.wallets.items

  abbrev world : World
  world = world_of bank

  abbrev last : World
  last = fold rows world

  abbrev in_groups : group.InGroups bank gm gw
  in_groups = record { apart = dealt.can.1.apart; markets_long = dealt.groups.markets_long; wallets_long = dealt.groups.wallets_long }

  abbrev groups : Sharding
  groups = group.groups in_groups

  abbrev own : ℕ → CellsState
  own number = own_cells terms (part gm number bank.markets) (part gw number bank.wallets)

  rows-of : AllZip (group.IsRowOf in_groups) numbers rows
  rows-of = group.rows-of in_groups rows dealt.can.0 numbers dealt.can.1.placed dealt.can.2

  each-one : (ns : List ℕ) (rs : List PlainRow) → AllZip (group.IsRowOf in_groups) ns rs → All (IsOfOneShard groups) rs × (ns ≡ map (λ (row : PlainRow). groups.market row.market) rs)
  each-one [] [] all = (All-nil _, refl)
  each-one (n ∷ ns) (r ∷ rs) all = let rest = each-one ns rs all.1 in (All-cons (IsOfOneShard groups) r rs all.0.1 rest.0, (λ i. sym all.0.0 i ∷ rest.1 i))
  each-one _ _ all = absurd all

  own-rows : (number : ℕ) → part numbers number rows ≡ rows_in groups number rows
  own-rows number =
      ap (λ ns. part ns number rows) (each-one numbers rows rows-of).1 ∙ part-filter (λ (row : PlainRow). groups.market row.market) number rows

  -- ---- the world of a share

  own-world : (number : ℕ) → world_of (own number) ≡ world_in groups number world
  own-world number = λ i. record {
    markets = (sym (part-map market_state_of gm number bank.markets) ∙ group.markets-part in_groups world refl refl number) i;
    wallets = (sym (part-map wallet_state_of gw number bank.wallets) ∙ group.wallets-part in_groups world refl refl number) i;
    srm = (dealt.terms_in i).srm;
    msrm = (dealt.terms_in i).msrm;
    program = (dealt.terms_in i).program;
  }

  -- ---- it is ready

  pub own-kept : (number : ℕ) → AreCells (own number)
  own-kept number = record {
    markets = part-all IsMarketCell gm number bank.markets dealt.kept.markets;
    wallets = part-all IsWalletCell gw number bank.wallets dealt.kept.wallets;
    apart = part-apart gw number bank.wallets dealt.kept.apart;
  }

  abbrev cell_key : MarketCellState → ℕ
  cell_key cell = groups.market (market_state_of cell).market.listing.address

  abbrev wallet_cell_key : CellState → ℕ
  wallet_cell_key cell = groups.wallet cell.address

  own-markets : (number : ℕ) → part gm number bank.markets ≡ filter (λ (cell : MarketCellState). eqb (cell_key cell) number) bank.markets
  own-markets number =
      ap (λ ns. part ns number bank.markets)
      (sym (sym (map-map market_state_of (λ (state : MarketState). groups.market state.market.listing.address) bank.markets)
      ∙ group.market-keys in_groups world refl refl))
      ∙ part-filter cell_key number bank.markets

  own-wallets : (number : ℕ) → part gw number bank.wallets ≡ filter (λ (cell : CellState). eqb (wallet_cell_key cell) number) bank.wallets
  own-wallets number =
      ap (λ ns. part ns number bank.wallets)
      (sym (sym (map-map wallet_state_of (λ (state : WalletState). groups.wallet state.seen.address) bank.wallets)
      ∙ group.wallet-keys in_groups world refl refl))
      ∙ part-filter wallet_cell_key number bank.wallets

  here-own : (number : ℕ) (row : PlainRow) → group.IsRowOf in_groups number row → IsHere bank row → IsHere (own number) row
  here-own number row is here = record {
    market = subst (λ (cells : List MarketCellState). is_market row.market cells ≡ true) (sym (own-markets number))
        (any-filter_same (λ (cell : MarketCellState). is_same row.market cell.accounts.address) (λ (cell : MarketCellState). eqb (cell_key cell) number) true
        (λ cell same. eq-eqb (cell_key cell) number (ap groups.market (listing-address cell.accounts ∙ sym (is_same-true row.market cell.accounts.address same)) ∙ is.0)) bank.markets ∙ here.market);
    wallets = λ k d within. wallet (get_or (row_wallets row) k d) (named k d within) (here.wallets k d within);
  }
    where
      named : (k : ℕ) (d : Address) → k < length (row_wallets row) → names row (get_or (row_wallets row) k d) ≡ true
      named k d within = list_any_at (is_same (get_or (row_wallets row) k d)) (row_wallets row) k d within (is_same-refl (get_or (row_wallets row) k d))

      wallet : (address : Address) → names row address ≡ true → is_among address bank.wallets ≡ true → is_among address (part gw number bank.wallets) ≡ true
      wallet address named among =
          let p : CellState → Bool = λ (cell : CellState). is_same address cell.address in
          let any : (cells : List CellState) → is_among address cells ≡ list_any p cells =
          λ cells. is_among-any address cells ∙ list_any-map (is_same address) (λ (cell : CellState). cell.address) cells in
          any (part gw number bank.wallets)
          ∙ ap (list_any p) (own-wallets number)
          ∙ any-filter_same p (λ (cell : CellState). eqb (wallet_cell_key cell) number) true
          (λ cell same. eq-eqb (wallet_cell_key cell) number (ap groups.wallet (sym (is_same-true address cell.address same)) ∙ is.1 address named ∙ is.0)) bank.wallets
          ∙ sym (any bank.wallets) ∙ among

  here-all : (number : ℕ) (ns : List ℕ) (rs : List PlainRow) → AllZip (group.IsRowOf in_groups) ns rs → All (IsHere bank) rs → AllZip (λ (n : ℕ) (row : PlainRow). n ≡ number → IsHere (own number) row) ns rs
  here-all number [] [] all here = tt
  here-all number (n ∷ ns) (r ∷ rs) all here = (
    (λ same. here-own number r (all.0.0 ∙ same, all.0.1) (All-head (IsHere bank) r rs here)),
    here-all number ns rs all.1 (All-tail (IsHere bank) r rs here),
  )
  here-all number _ _ all here = absurd all

  own-room : (number : ℕ) (some : List PlainRow) → HasRoom some bank → HasRoom some (own number)
  own-room number some has = record {
    markets = subst (AllZip (MarketRoom some) (world_of (own number)).markets) (part-map market_room gm number bank.markets)
        (subst (λ states. AllZip (MarketRoom some) states (part gm number (map market_room bank.markets))) (part-map market_state_of gm number bank.markets)
        (part-zip (MarketRoom some) gm number world.markets (map market_room bank.markets) has.markets));
    wallets = subst (AllZip (WalletRoom some) (world_of (own number)).wallets) (part-map wallet_room gw number bank.wallets)
        (subst (λ states. AllZip (WalletRoom some) states (part gw number (map wallet_room bank.wallets))) (part-map wallet_state_of gw number bank.wallets)
        (part-zip (WalletRoom some) gw number world.wallets (map wallet_room bank.wallets) has.wallets));
  }

  pub ready : (number : ℕ) → IsReady (share rows numbers number (own number))
  ready number = record { their = its-address (own number) (own-kept number); here = here-all number numbers rows rows-of dealt.can.1.here; room = own-room number rows dealt.can.1.room }

  -- ---- the shares of piles

  pub all-kept : AllZip (λ (m : List MarketCellState) (w : List CellState). AreCells (own_cells terms m w)) of_markets of_wallets
  all-kept =
      zip-of (λ (m : List MarketCellState) (w : List CellState). AreCells (own_cells terms m w)) of_markets of_wallets (omega (arith, dealt.many_markets, dealt.many_wallets))
      (λ k d e within.
      subst AreCells
      (λ i. own_cells terms (sym (dealt.in_markets.each k d within) i) (sym (dealt.in_wallets.each k e (omega (arith, within, dealt.many_markets, dealt.many_wallets))) i)) (own-kept k))

  module _ (shares : List ShareState) (are : AreShares rows numbers terms of_markets of_wallets shares) where
    share-is : (k : ℕ) (d : ShareState) → k < by.count → get_or shares k d ≡ share rows numbers k (own k)
    share-is k d within =
        are.each k d (omega (arith, within, are.long, dealt.many_markets))
        ∙ (λ i. share rows numbers k (own_cells terms (dealt.in_markets.each k [] (omega (arith, within, dealt.many_markets)) i)
        (dealt.in_wallets.each k [] (omega (arith, within, dealt.many_wallets)) i)))

    pub all-ready : All IsReady shares
    all-ready k d within = subst IsReady (sym (share-is k d (omega (arith, within, are.long, dealt.many_markets)))) (ready k)

    -- ---- what they leave together

    module _ (after : List ShareState) (ran : AllZip HasRun shares after) where
      abbrev none : ShareState
      none = share rows numbers 0 bank

      abbrev end : ℕ → CellsState
      end number = (get_or after number none).cells

      many : length after ≡ by.count
      many = AllZip-long HasRun shares after ran ∙ are.long ∙ dealt.many_markets

      end-ran : (number : ℕ) → number < by.count → HaveActed (part numbers number rows) rows (own number) (end number)
      end-ran number within =
          subst (λ (s : ShareState). HasRun s (get_or after number none)) (share-is number none within)
          (zip-at HasRun shares after number none none ran (omega (arith, within, are.long, dealt.many_markets)))

      pub below : (All (λ (n : ℕ). n < length (map own_markets after)) gm) × (All (λ (n : ℕ). n < length (map own_wallets_of after)) gw)
      below = (
        subst (λ (m : ℕ). All (λ (n : ℕ). n < m) gm) (sym (length-map after own_markets ∙ many)) dealt.groups.markets_within,
        subst (λ (m : ℕ). All (λ (n : ℕ). n < m) gw) (sym (length-map after own_wallets_of ∙ many)) dealt.groups.wallets_within,
      )

      end-world : (number : ℕ) → number < by.count → world_of (end number) ≡ world_in groups number last
      end-world number within =
          (end-ran number within).acted
          ∙ (λ i. fold (own-rows number i) (own-world number i))
          ∙ group-acts groups number rows world (each-one numbers rows rows-of).0

      -- each part of the cells is as long as before
      pub as-long : AreAsLong gm (map own_markets after) × AreAsLong gw (map own_wallets_of after)
      as-long = (
        (λ k d within. let inside : k < length after = omega (arith, within, length-map after own_markets) in
            ap length (get_or-map own_markets after k none d inside)
            ∙ sym (length-map (end k).markets opened_market)
            ∙ ap (λ (c : CellsState). length c.markets) (end-ran k (omega (arith, inside, many))).kept
            ∙ length-map (part gm k bank.markets) opened_market
            ∙ part-long gm k bank.markets (sym dealt.groups.markets_long)),
        (λ k d within. let inside : k < length after = omega (arith, within, length-map after own_wallets_of) in
            ap length (get_or-map own_wallets_of after k none d inside)
            ∙ sym (length-map (end k).wallets made_of)
            ∙ ap (λ (c : CellsState). length c.wallets) (end-ran k (omega (arith, inside, many))).kept
            ∙ length-map (part gw k bank.wallets) made_of
            ∙ part-long gw k bank.wallets (sym dealt.groups.wallets_long)),
      )

      module _ (end_kept : All (λ (one : ShareState). AreCells one.cells) after) (markets : List MarketCellState) (wallets : List CellState)
          (in_markets : AreParts MarketCellState gm markets (map own_markets after)) (in_wallets : AreParts CellState gw wallets (map own_wallets_of after)) where
        abbrev pub left : CellsState
        left = record { mints = bank.mints; srm = terms.srm; msrm = terms.msrm; markets = markets; wallets = wallets; program = terms.program }

        m_parts : (number : ℕ) → number < by.count → part gm number markets ≡ (end number).markets
        m_parts number within =
            sym (in_markets.each number [] (omega (arith, within, many, length-map after own_markets))) ∙ get_or-map own_markets after number none [] (omega (arith, within, many))

        w_parts : (number : ℕ) → number < by.count → part gw number wallets ≡ (end number).wallets
        w_parts number within =
            sym (in_wallets.each number [] (omega (arith, within, many, length-map after own_wallets_of))) ∙ get_or-map own_wallets_of after number none [] (omega (arith, within, many))

        kept-at : (number : ℕ) → number < by.count → AreCells (end number)
        kept-at number within = end_kept number none (omega (arith, within, many))

        last-long : (length last.markets ≡ length gm) × (length last.wallets ≡ length gw)
        last-long = (
          sym (length-map last.markets (λ (state : MarketState). state.market.listing.address)) ∙ ap length (fold-markets rows world)
              ∙ length-map world.markets (λ (state : MarketState). state.market.listing.address) ∙ length-map bank.markets market_state_of ∙ sym dealt.groups.markets_long,
          sym (length-map last.wallets (λ (state : WalletState). state.seen.address)) ∙ ap length (fold-wallets rows world)
              ∙ length-map world.wallets (λ (state : WalletState). state.seen.address) ∙ length-map bank.wallets wallet_state_of ∙ sym dealt.groups.wallets_long,
        )

        -- what is made of all is what is made of each part
        whole-markets : {B : Type 0} (f : MarketCellState → B) (all : List B) → length all ≡ length gm
            → ((number : ℕ) → number < by.count → map f (end number).markets ≡ part gm number all) → map f markets ≡ all
        whole-markets f all long each =
            parts-same by.count gm (map f markets) all dealt.groups.markets_within (length-map markets f ∙ in_markets.long) long
            (λ number within. part-map f gm number markets ∙ ap (map f) (m_parts number within) ∙ each number within)

        whole-wallets : {B : Type 0} (f : CellState → B) (all : List B) → length all ≡ length gw
            → ((number : ℕ) → number < by.count → map f (end number).wallets ≡ part gw number all) → map f wallets ≡ all
        whole-wallets f all long each =
            parts-same by.count gw (map f wallets) all dealt.groups.wallets_within (length-map wallets f ∙ in_wallets.long) long
            (λ number within. part-map f gw number wallets ∙ ap (map f) (w_parts number within) ∙ each number within)

        opened-markets : map opened_market markets ≡ map opened_market bank.markets
        opened-markets =
            whole-markets opened_market (map opened_market bank.markets) (length-map bank.markets opened_market ∙ sym dealt.groups.markets_long)
            (λ number within. ap (λ (c : CellsState). c.markets) (end-ran number within).kept ∙ sym (part-map opened_market gm number bank.markets))

        opened-wallets : map made_of wallets ≡ map made_of bank.wallets
        opened-wallets =
            whole-wallets made_of (map made_of bank.wallets) (length-map bank.wallets made_of ∙ sym dealt.groups.wallets_long)
            (λ number within. ap (λ (c : CellsState). c.wallets) (end-ran number within).kept ∙ sym (part-map made_of gw number bank.wallets))

        ended : world_of left ≡ last
        ended =
            let states = whole-markets market_state_of last.markets last-long.0 (λ number within. ap (λ (w : World). w.markets) (end-world number within) ∙ sym (group.markets-part in_groups last (fold-markets rows world) (fold-wallets rows world) number)) in
            let seen = whole-wallets wallet_state_of last.wallets last-long.1 (λ number within. ap (λ (w : World). w.wallets) (end-world number within) ∙ sym (group.wallets-part in_groups last (fold-markets rows world) (fold-wallets rows world) number)) in
            let rest = group.fold-rest rows world in
            λ i. record {
              markets = states i;
              wallets = seen i;
              srm = (ap (λ (t : Terms). t.srm) dealt.terms_in ∙ sym rest.0) i;
              msrm = (ap (λ (t : Terms). t.msrm) dealt.terms_in ∙ sym rest.1) i;
              program = (ap (λ (t : Terms). t.program) dealt.terms_in ∙ sym rest.2) i;
            }

        same-opened : opened_of left ≡ opened_of bank
        same-opened = λ i. record {
          mints = bank.mints;
          srm = (dealt.terms_in i).srm;
          msrm = (dealt.terms_in i).msrm;
          markets = opened-markets i;
          wallets = opened-wallets i;
          program = (dealt.terms_in i).program;
        }

        all-parts : {A : Type 0} (P : A → Type 0) (ns : List ℕ) (xs : List A) → All (λ (n : ℕ). n < by.count) ns → length xs ≡ length ns
            → ((number : ℕ) → number < by.count → All P (part ns number xs)) → All P xs
        all-parts {A} P ns xs below long each =
            All-second (λ (x y : A). P y) P (λ x y is. is) xs xs
            (parts-zip (λ (x y : A). P y) by.count ns xs xs below long long (λ number within. twice (part ns number xs) (each number within)))
          where
            twice : (ys : List A) → All P ys → AllZip (λ (x y : A). P y) ys ys
            twice [] all = tt
            twice (y ∷ ys) all = (All-head P y ys all, twice ys (All-tail P y ys all))

        pub left-kept : AreCells left
        left-kept = record {
          markets = all-parts IsMarketCell gm markets dealt.groups.markets_within in_markets.long
              (λ number within. subst (All IsMarketCell) (sym (m_parts number within)) (kept-at number within).markets);
          wallets = all-parts IsWalletCell gw wallets dealt.groups.wallets_within in_wallets.long
              (λ number within. subst (All IsWalletCell) (sym (w_parts number within)) (kept-at number within).wallets);
          apart = opened-apart wallets (subst AreApart (sym opened-wallets) (apart-opened bank.wallets dealt.kept.apart));
        }

        pub left-acted : HaveActed rows rows bank left
        left-acted = record {
          acted = ended;
          kept = same-opened;
          their = its-address left left-kept;
          room = λ later has. record {
            markets = parts-zip (MarketRoom later) by.count gm (map market_state_of markets) (map market_room markets) dealt.groups.markets_within
                (length-map markets market_state_of ∙ in_markets.long) (length-map markets market_room ∙ in_markets.long)
                (λ number within. both-map (MarketRoom later) market_state_of market_room gm number markets
                (subst (λ (cells : List MarketCellState). AllZip (MarketRoom later) (map market_state_of cells) (map market_room cells)) (sym (m_parts number within))
                ((end-ran number within).room later (own-room number (rows ++ later) has)).markets));
            wallets = parts-zip (WalletRoom later) by.count gw (map wallet_state_of wallets) (map wallet_room wallets) dealt.groups.wallets_within
                (length-map wallets wallet_state_of ∙ in_wallets.long) (length-map wallets wallet_room ∙ in_wallets.long)
                (λ number within. both-map (WalletRoom later) wallet_state_of wallet_room gw number wallets
                (subst (λ (cells : List CellState). AllZip (WalletRoom later) (map wallet_state_of cells) (map wallet_room cells)) (sym (w_parts number within))
                ((end-ran number within).room later (own-room number (rows ++ later) has)).wallets));
          };
        }
