-- Scripts fall into the shards that joined labels tell.
use Rattle.std.proofs.Common.{◌≡◌, ◌<◌, ◌≤◌, ◌+◌, ℕ, zero, suc, true, false, ◌-◌, cond, eqb, ltb, List, [], ◌∷◌, ◌++◌, Option, Some, None, drop, get_or, length, map, take, refl, sym, ap, ap₂, ◌∙◌, subst, subst₂, arith, ⊎_elim}
use Rattle.dex_world.proofs.Common.{Address, All-cons, All-head, All-nil, AllPairs, EachTwo, PlainAccount, PlainAccounts, PlainMarketAccounts, PlainRow, cond-false, cond-true, eq-eqb, false≢true, get_or-map, is_same, is_same-true, length-map, list_any, lt-ltb, names, ne_eqb, row_wallets}
use Rattle.dex_parts.proofs.Common.{All, All-behind, All-front, AreBeside, ArePlaced, ArePlacesOf, AreRows, IsBeside, IsPlaced, PlainScript, RowPlaces, both_ways, cases_eq, get_or-drop, get_or-take, le-ltb, length-drop, length-take-le, market_place, or_cases, wallet_place, zip-map}
use Rattle.dex_script_types.proofs.PlacedLaws.{market-here, market-within, wallet-here, wallet-within}
use Rattle.dex_parts.specs.Joins.{IsWithin, Link, leg_links, links_of, place_links, row_links, wallet_links}
use Rattle.dex_parts.specs.Numbers.{in_market, labels_of, market_shards, numbers_to, row_shards, wallet_shards}
use Rattle.dex_parts.specs.Sharded.{AreShardsOf, number_at, sharding_by}
use Rattle.dex_parts.specs.Shards.{AreOfOneShard, FallsInto, IsOfOneShard, Sharding}
use Rattle.dex_parts.proofs.JoinLaws.{Agrees, HasOne, Keeps, all-keep, all-low, all-one}
use Rattle.dex_parts.proofs.LinkLaws.{LegsAgree, RowAgrees, labels-long, links-agree, links-within, markets-on, numbers-at, numbers-long}
use Rattle.dex_replay.proofs.Groups.{each-two, each-two-weaker}

-- each two, from places
two-each : {A : Type 0} (R : A → A → Type 0) (xs : List A) → EachTwo R xs → AllPairs R xs
two-each R [] each i j d less within = absurd (omega (arith, less, within))
two-each R (x ∷ xs) each zero zero d less within = absurd (omega (arith, less))
two-each R (x ∷ xs) each zero (suc j) d less within = each.0 j d (omega (arith, within))
two-each R (x ∷ xs) each (suc i) zero d less within = absurd (omega (arith, less))
two-each R (x ∷ xs) each (suc i) (suc j) d less within = two-each R xs each.1 i j d (omega (arith, less)) (omega (arith, within))

module _ (start : PlainAccounts) where
  abbrev markets : ℕ
  markets = length start.markets

  abbrev wallets : ℕ
  wallets = length start.wallets

  -- ---- shards

  module _ (labels : List ℕ) (long : length labels ≡ markets + wallets) (few : wallets ≤ 65535) where
    abbrev of_markets : List ℕ
    of_markets = map (in_market markets) (take markets labels)

    abbrev of_wallets : List ℕ
    of_wallets = map (in_market markets) (drop markets labels)

    abbrev sharding : Sharding
    sharding = sharding_by start of_markets of_wallets

    market-shard : (place : ℕ) → place < markets → get_or of_markets place 0 ≡ in_market markets (get_or labels place 0)
    market-shard place within =
        get_or-map (in_market markets) (take markets labels) place 0 0 (omega (arith, within, long, length-take-le markets labels (omega (arith, long))))
        ∙ ap (in_market markets) (get_or-take markets labels place 0 within)

    wallet-shard : (place : ℕ) → place < wallets → get_or of_wallets place 0 ≡ in_market markets (get_or labels (markets + place) 0)
    wallet-shard place within =
        get_or-map (in_market markets) (drop markets labels) place 0 0 (omega (arith, within, long, length-drop markets labels))
        ∙ ap (in_market markets) (get_or-drop markets labels place 0)

    -- ---- a row and its wallets

    wallet-falls : (market place : ℕ) (wallet : Address) → market < markets → wallet_place wallet start.wallets ≡ Some place
        → All (HasOne labels) (place_links markets market place) → sharding.wallet wallet ≡ get_or of_markets market 0
    wallet-falls market place wallet on placed one =
        let below : place < wallets = wallet-within wallet start.wallets place placed in
        let some : place < 65535 = omega (arith, below, few) in
        let link : HasOne labels (market, markets + place) =
        All-head (HasOne labels) (market, markets + place) []
        (subst (All (HasOne labels)) (cond-true (ltb place 65535) ((market, markets + place) ∷ []) [] (lt-ltb place 65535 some)) one) in
        ap (λ (found : Option ℕ). number_at found of_wallets) placed
        ∙ wallet-shard place below
        ∙ ap (in_market markets) (sym link)
        ∙ sym (market-shard market on)

    wallets-fall : (addresses : List Address) (places : List ℕ) (market : ℕ) → market < markets → ArePlacesOf (λ (a : Address). wallet_place a start.wallets) addresses places
        → All (HasOne labels) (wallet_links markets market places) → (wallet : Address) → list_any (is_same wallet) addresses ≡ true
        → sharding.wallet wallet ≡ get_or of_markets market 0
    wallets-fall [] places market on are one wallet among = absurd (false≢true among)
    wallets-fall (first ∷ others) [] market on are one wallet among = absurd are
    wallets-fall (first ∷ others) (place ∷ places) market on are one wallet among =
        ⊎_elim
        (λ (same : is_same wallet first ≡ true).
        wallet-falls market place wallet on (ap (λ (a : Address). wallet_place a start.wallets) (is_same-true wallet first same) ∙ are.0)
        (All-front (HasOne labels) (place_links markets market place) (wallet_links markets market places) one))
        (λ (behind : list_any (is_same wallet) others ≡ true).
        wallets-fall others places market on are.1 (All-behind (HasOne labels) (place_links markets market place) (wallet_links markets market places) one) wallet behind)
        (or_cases (is_same wallet first) (list_any (is_same wallet) others) among)

    row-falls : (row : PlainRow) (at : RowPlaces) → IsPlaced start row at → All (HasOne labels) (row_links markets at) → IsOfOneShard sharding row
    row-falls row at placed one = λ wallet named.
        wallets-fall (row_wallets row) at.wallets.places at.market (market-within row.market start.markets at.market placed.market) placed.wallets.places one wallet named
        ∙ ap (λ (found : Option ℕ). number_at found of_markets) (sym placed.market)

    rows-fall : (rows : List PlainRow) (places : List RowPlaces) → ArePlaced start rows places → All (HasOne labels) (links_of markets places) → All (IsOfOneShard sharding) rows
    rows-fall [] [] placed one = All-nil (IsOfOneShard sharding)
    rows-fall (row ∷ rows) (at ∷ places) placed one =
        let rest : List Link = leg_links at places ++ links_of markets places in
        All-cons (IsOfOneShard sharding) row rows (row-falls row at placed.0 (All-front (HasOne labels) (row_links markets at) rest one))
        (rows-fall rows places placed.1
        (All-behind (HasOne labels) (leg_links at places) (links_of markets places) (All-behind (HasOne labels) (row_links markets at) rest one)))
    rows-fall _ _ placed one = absurd placed

    -- ---- legs

    -- the market of a row is of the shard of its place
    row-shard : (row : PlainRow) (at : RowPlaces) → IsPlaced start row at → sharding.market row.market ≡ in_market markets (get_or labels at.market 0)
    row-shard row at placed =
        ap (λ (found : Option ℕ). number_at found of_markets) placed.market
        ∙ market-shard at.market (market-within row.market start.markets at.market placed.market)

    -- a row, and all behind it of its number
    legs-fall : (row : PlainRow) (at : RowPlaces) (rows : List PlainRow) (places : List RowPlaces) → IsPlaced start row at → IsBeside row at → ArePlaced start rows places
        → AreBeside rows places → All (λ (other : PlainRow). row.number ≤ other.number) rows → EachTwo (λ (one other : PlainRow). one.number ≤ other.number) rows
        → EachTwo (AreOfOneShard sharding) rows → All (HasOne labels) (leg_links at places) → All (AreOfOneShard sharding row) rows
    legs-fall row at [] places placed beside places_are besides above rise each one = All-nil (AreOfOneShard sharding row)
    legs-fall row at (next ∷ rows) [] placed beside places_are besides above rise each one = absurd places_are
    legs-fall row at (next ∷ rows) (at_next ∷ places) placed beside places_are besides above rise each one =
        let first : AreOfOneShard sharding row next = λ same.
        let numbers : at.number ≡ at_next.number = beside.number ∙ same ∙ sym besides.0.number in
        let link : HasOne labels (at.market, at_next.market) =
        All-head (HasOne labels) (at.market, at_next.market) []
        (subst (All (HasOne labels)) (cond-true (eqb at.number at_next.number) ((at.market, at_next.market) ∷ []) [] (eq-eqb at.number at_next.number numbers)) one) in
        row-shard row at placed ∙ ap (in_market markets) link ∙ sym (row-shard next at_next places_are.0) in
        All-cons (AreOfOneShard sharding row) next rows first
        (λ k d within same.
        let low : row.number ≤ next.number = All-head (λ (other : PlainRow). row.number ≤ other.number) next rows above in
        let high : next.number ≤ (get_or rows k d).number = rise.0 k d within in
        first (omega (arith, low, high, same)) ∙ each.0 k d within (omega (arith, low, high, same)))

    all-legs-fall : (rows : List PlainRow) (places : List RowPlaces) → ArePlaced start rows places → AreBeside rows places → EachTwo (λ (one other : PlainRow). one.number ≤ other.number) rows
        → All (HasOne labels) (links_of markets places) → EachTwo (AreOfOneShard sharding) rows
    all-legs-fall [] [] placed beside rise one = tt
    all-legs-fall (row ∷ rows) (at ∷ places) placed beside rise one =
        let behind : All (HasOne labels) (leg_links at places ++ links_of markets places) =
        All-behind (HasOne labels) (row_links markets at) (leg_links at places ++ links_of markets places) one in
        let rest : EachTwo (AreOfOneShard sharding) rows =
        all-legs-fall rows places placed.1 beside.1 rise.1 (All-behind (HasOne labels) (leg_links at places) (links_of markets places) behind) in
        (legs-fall row at rows places placed.0 beside.0 placed.1 beside.1 rise.0 rise.1 rest (All-front (HasOne labels) (leg_links at places) (links_of markets places) behind), rest)
    all-legs-fall _ _ placed beside rise one = absurd placed

-- ---- a script

module _ (script : PlainScript) (places : List RowPlaces) (facts : AreRows script) (few : length script.start.wallets ≤ 65535)
    (placed : ArePlaced script.start script.rows places) (beside : AreBeside script.rows places) where
  abbrev start : PlainAccounts
  start = script.start

  abbrev market_count : ℕ
  market_count = length start.markets

  abbrev count : ℕ
  count = market_count + length start.wallets

  abbrev links : List Link
  links = links_of market_count places

  abbrev labels : List ℕ
  labels = labels_of market_count (length start.wallets) places

  abbrev own_markets : List ℕ
  own_markets = market_shards market_count (length start.wallets) places

  abbrev own_wallets : List ℕ
  own_wallets = wallet_shards market_count (length start.wallets) places

  long : length labels ≡ count
  long = labels-long market_count (length start.wallets) places

  within : All (IsWithin (length (numbers_to count))) links
  within = subst (λ (n : ℕ). All (IsWithin n) links) (sym (numbers-long count)) (links-within start script.rows places placed)

  one : All (HasOne labels) links
  one = all-one (numbers_to count) links within

  -- a place has its own label, where it is told apart by what agrees with all rows
  keeps : (tell : ℕ → ℕ) → All (Agrees tell) links → Keeps tell labels
  keeps tell agree =
      all-keep tell (numbers_to count) links within agree
      (λ place inside. ap tell (numbers-at count place (omega (arith, inside, numbers-long count))))

  label-low : (place : ℕ) → place < count → get_or labels place 0 ≤ place
  label-low place inside =
      all-low (numbers_to count) links (λ at within_at. omega (arith, numbers-at count at (omega (arith, within_at, numbers-long count)))) place (omega (arith, inside, long))

  -- the label of a label
  label-first : (place : ℕ) → place < count → get_or labels (get_or labels place 0) 0 ≡ get_or labels place 0
  label-first place inside = keeps (λ (n : ℕ). get_or labels n 0) one place (omega (arith, inside, long))

  -- the number of a market is its label
  market-label : (place : ℕ) → place < market_count → get_or own_markets place 0 ≡ get_or labels place 0
  market-label place inside =
      market-shard start labels long few place inside
      ∙ cond-true (ltb (get_or labels place 0) market_count) (get_or labels place 0) 0
      (lt-ltb (get_or labels place 0) market_count (omega (arith, inside, label-low place (omega (arith, inside)))))

  shard-low : (place : ℕ) → place < market_count → get_or own_markets place 0 ≤ place
  shard-low place inside = omega (arith, market-label place inside, label-low place (omega (arith, inside)))

  shard-first : (place : ℕ) → place < market_count → get_or own_markets (get_or own_markets place 0) 0 ≡ get_or own_markets place 0
  shard-first place inside =
      let label : ℕ = get_or labels place 0 in
      let low : label ≤ place = label-low place (omega (arith, inside)) in
      ap (λ (n : ℕ). get_or own_markets n 0) (market-label place inside)
      ∙ market-label label (omega (arith, low, inside))
      ∙ label-first place (omega (arith, inside))
      ∙ sym (market-label place inside)

  rising_two : EachTwo (λ (a b : PlainRow). a.number ≤ b.number) script.rows
  rising_two = each-two (λ (a b : PlainRow). a.number ≤ b.number) script.rows facts.rising

  -- ---- wallets that no row names

  module _ (wallet : Address) (unnamed : All (λ (row : PlainRow). names row wallet ≡ false) script.rows) where
    lone-at : (found : Option ℕ) → wallet_place wallet start.wallets ≡ found → number_at found own_wallets ≡ 0
    lone-at None is = refl
    lone-at (Some place) is =
        let inside : place < length start.wallets = wallet-within wallet start.wallets place is in
        let own : ℕ = market_count + place in
        let tell : ℕ → ℕ = λ (n : ℕ). cond (eqb n own) 1 0 in
        let of_market : (n : ℕ) → n < market_count → tell n ≡ 0 = λ n below. cond-false (eqb n own) 1 0 (ne_eqb n own (λ same. omega (arith, below, same))) in
        let rows_agree : All (RowAgrees start tell) script.rows =
        λ k d at market other_place other on named found.
        of_market market (market-within (get_or script.rows k d).market start.markets market on)
        ∙ sym (cond-false (eqb (market_count + other_place) own) 1 0
        (ne_eqb (market_count + other_place) own (λ same.
        let one_place : other_place ≡ place = omega (arith, same) in
        let here : PlainAccount = record { address = wallet; bytes = [] } in
        let one_wallet : other ≡ wallet =
        sym (wallet-here other start.wallets place here (found ∙ ap (λ (n : ℕ). Some n) one_place)) ∙ wallet-here wallet start.wallets place here is in
        both_ways (names (get_or script.rows k d) wallet) (unnamed k d at) (ap (names (get_or script.rows k d)) (sym one_wallet) ∙ named)))) in
        let legs_agree : EachTwo (LegsAgree start tell) script.rows =
        each-two-weaker (λ (a b : PlainRow). a.number ≤ b.number) (LegsAgree start tell)
        (λ a b rises same market other_market on other_on.
        of_market market (market-within a.market start.markets market on) ∙ sym (of_market other_market (market-within b.market start.markets other_market other_on))) script.rows rising_two in
        let kept : tell (get_or labels own 0) ≡ tell own =
        keeps tell (links-agree start tell script.rows places rows_agree legs_agree placed beside) own (omega (arith, inside, long)) in
        let marked : ◌≡◌ {A = ℕ} (tell own) 1 = cond-true (eqb own own) 1 0 (eq-eqb own own refl) in
        let label_own : get_or labels own 0 ≡ own = own-label (get_or labels own 0) own (kept ∙ marked) in
        wallet-shard start labels long few place inside
        ∙ ap (in_market market_count) label_own
        ∙ cond-false (ltb own market_count) own 0 (le-ltb own market_count (omega arith))
      where
        own-label : (n own : ℕ) → ◌≡◌ {A = ℕ} (cond (eqb n own) 1 0) 1 → n ≡ own
        own-label n own told =
            ⊎_elim (λ (same : n ≡ own). same)
            (λ (apart : n ≡ own → ⊥). absurd (omega (arith, told, cond-false {A = ℕ} (eqb n own) 1 0 (ne_eqb n own apart)))) (cases_eq n own)

    shard-lone : (sharding_by start own_markets own_wallets).wallet wallet ≡ 0
    shard-lone = lone-at (wallet_place wallet start.wallets) refl

  -- ---- other shards

  module _ (other : Sharding) (falls : FallsInto other script) (default : PlainMarketAccounts) where
    abbrev blank : PlainAccount
    blank = record { address = default.address; bytes = [] }

    -- the other shard of a place
    abbrev from_market : ℕ → ℕ
    from_market n = other.market (get_or start.markets n default).address

    abbrev from_wallet : ℕ → ℕ
    from_wallet n = other.wallet (get_or start.wallets n blank).address

    abbrev other_shard : ℕ → ℕ
    other_shard n = cond (ltb n market_count) (from_market n) (from_wallet (n - market_count))

    of-market : (address : Address) (place : ℕ) → market_place address start.markets ≡ Some place → other_shard place ≡ other.market address
    of-market address place is =
        cond-true (ltb place market_count) (from_market place) (from_wallet (place - market_count))
        (lt-ltb place market_count (market-within address start.markets place is))
        ∙ ap other.market (market-here address start.markets place default is)

    of-wallet : (address : Address) (place : ℕ) → wallet_place address start.wallets ≡ Some place → other_shard (market_count + place) ≡ other.wallet address
    of-wallet address place is =
        let at : ◌≡◌ {A = ℕ} (market_count + place - market_count) place = omega arith in
        cond-false (ltb (market_count + place) market_count) (from_market (market_count + place)) (from_wallet (market_count + place - market_count))
        (le-ltb (market_count + place) market_count (omega arith))
        ∙ ap from_wallet at
        ∙ ap other.wallet (wallet-here address start.wallets place blank is)

    others-agree : All (Agrees other_shard) links
    others-agree =
        links-agree start other_shard script.rows places
        (λ k d inside market place wallet on named found.
        of-market (get_or script.rows k d).market market on ∙ sym (falls.rows k d inside wallet named) ∙ sym (of-wallet wallet place found))
        (each-two-weaker (AreOfOneShard other) (LegsAgree start other_shard)
        (λ a b legs same market other_market on other_on. of-market a.market market on ∙ legs same ∙ sym (of-market b.market other_market other_on))
        script.rows (each-two (AreOfOneShard other) script.rows falls.legs))
        placed beside

    shard-fine : (first second : ℕ) → first < market_count → second < market_count → get_or own_markets first 0 ≡ get_or own_markets second 0
        → other.market (get_or start.markets first default).address ≡ other.market (get_or start.markets second default).address
    shard-fine first second inside inside_second same =
        let kept : Keeps other_shard labels = keeps other_shard others-agree in
        sym (cond-true (ltb first market_count) (from_market first) (from_wallet (first - market_count)) (lt-ltb first market_count inside))
        ∙ sym (kept first (omega (arith, inside, long)))
        ∙ ap other_shard (sym (market-label first inside) ∙ same ∙ market-label second inside_second)
        ∙ kept second (omega (arith, inside_second, long))
        ∙ cond-true (ltb second market_count) (from_market second) (from_wallet (second - market_count)) (lt-ltb second market_count inside_second)

  -- ---- all together

  pub are-shards : AreShardsOf script own_markets own_wallets (row_shards own_markets places)
  are-shards =
      let markets_long : length own_markets ≡ market_count =
      length-map (take market_count labels) (in_market market_count) ∙ length-take-le market_count labels (omega (arith, long)) in
      record {
        falls = record {
          rows = rows-fall start labels long few script.rows places placed one;
          legs = two-each (AreOfOneShard (sharding_by start own_markets own_wallets)) script.rows
              (all-legs-fall start labels long few script.rows places placed beside rising_two one);
        };
        rows = zip-map (IsPlaced start) (λ (row : PlainRow). number_at (market_place row.market start.markets) own_markets) (λ (at : RowPlaces). get_or own_markets at.market 0)
            (λ row at is. ap (λ (found : Option ℕ). number_at found own_markets) (sym is.market)) script.rows places placed;
        markets = markets_long;
        wallets = length-map (drop market_count labels) (in_market market_count) ∙ omega (arith, length-drop market_count labels, long);
        low = λ place inside. shard-low place (omega (arith, inside, markets_long));
        first = λ place inside. shard-first place (omega (arith, inside, markets_long));
        lone = shard-lone;
        fine = λ other falls first second default inside inside_second same.
            shard-fine other falls default first second (omega (arith, inside, markets_long)) (omega (arith, inside_second, markets_long)) same;
      }

-- ---- the same, of counts and places that are the script's

module _ (start : PlainAccounts) (rows : List PlainRow) (places own : List RowPlaces) (markets wallets : ℕ) (many : length start.markets ≡ markets)
    (more : length start.wallets ≡ wallets) (same : own ≡ places) (placed : ArePlaced start rows places) where
  pub own-within : All (IsWithin (markets + wallets)) (links_of markets own)
  own-within =
      subst (λ (some : List RowPlaces). All (IsWithin (markets + wallets)) (links_of markets some)) (sym same)
      (subst (λ (n : ℕ). All (IsWithin (markets + n)) (links_of markets places)) more
      (subst (λ (n : ℕ). All (IsWithin (n + length start.wallets)) (links_of n places)) many (links-within start rows places placed)))

  pub own-on : All (λ (at : RowPlaces). at.market < markets) own
  own-on =
      subst (λ (some : List RowPlaces). All (λ (at : RowPlaces). at.market < markets) some) (sym same)
      (subst (λ (n : ℕ). All (λ (at : RowPlaces). at.market < n) places) many (markets-on start rows places placed))

pub own-shards : (script : PlainScript) (places own : List RowPlaces) (markets wallets : ℕ) → length script.start.markets ≡ markets → length script.start.wallets ≡ wallets
    → own ≡ places → ArePlaced script.start script.rows places → AreBeside script.rows places → AreRows script → length script.start.wallets ≤ 65535
    → (of_markets of_wallets of_rows : List ℕ) → of_markets ≡ market_shards markets wallets own → of_wallets ≡ wallet_shards markets wallets own → of_rows ≡ row_shards of_markets own
    → AreShardsOf script of_markets of_wallets of_rows
own-shards script places own markets wallets many more same placed beside facts few of_markets of_wallets of_rows is_markets is_wallets is_rows =
    let own_markets : List ℕ = market_shards (length script.start.markets) (length script.start.wallets) places in
    let own_wallets : List ℕ = wallet_shards (length script.start.markets) (length script.start.wallets) places in
    let first : of_markets ≡ own_markets = is_markets ∙ (λ i. market_shards (sym many i) (sym more i) (same i)) in
    let second : of_wallets ≡ own_wallets = is_wallets ∙ (λ i. wallet_shards (sym many i) (sym more i) (same i)) in
    subst₂ (λ (numbers others : List ℕ). AreShardsOf script numbers others of_rows) (sym first) (sym second)
    (subst (AreShardsOf script own_markets own_wallets) (sym (is_rows ∙ ap₂ row_shards first same)) (are-shards script places facts few placed beside))
