-- Rows do in a world that is made of another what they do in that one.
use Rattle.std.proofs.Common.{◌≡◌, ℕ, Bool, true, false, cond, List, [], ◌∷◌, Option, Some, None, IfSome, get_or, is_some, map, refl, sym, ap, ◌∙◌}
use Rattle.dex_world.proofs.Common.{Address, All-head, All-map, All-tail, Market, MarketState, PlainRow, Refusal, Seen, Transfers, WalletState, World, act, act_item, acted, chosen, cond_both, fold, idle_row, markets_acted, members, names, role_at, row_step, seen_by, wallet_acted, wallet_at, why_in, why_on}
use Rattle.dex_parts.proofs.Common.{All, Item, held_in, is_any_refused, list_any-agree, list_any-map, map-agree, map-map, market_at}
use Rattle.dex_world.proofs.NameLaws.{row-among}
use Rattle.dex_parts.specs.Numbered.{row_with}

-- a function before a test is one behind it
pub cond-of : {A B : Type 0} (f : A → B) (b : Bool) (x y : A) → cond b (f x) (f y) ≡ f (cond b x y)
cond-of f true x y = refl
cond-of f false x y = refl

-- a row, with a new number, finds in the lists that are made of a world's what it finds in those, and does there what is
-- made of what it does
pub record ActsAlike (f : ℕ → ℕ) (of_markets : List MarketState → List MarketState) (of_wallets : List WalletState → List WalletState)
    (row : PlainRow) : Type 0 where
  pub market : (states : List MarketState) → market_at row.market (of_markets states) ≡ market_at row.market states
  pub wallet : (address : Address) → names row address ≡ true → (states : List WalletState) → wallet_at address (of_wallets states) ≡ wallet_at address states
  pub markets : (seen : Seen) (states : List MarketState) → markets_acted (row_with f row) seen (of_markets states) ≡ of_markets (markets_acted row seen states)
  pub wallets : (seen : Seen) (t : Transfers) (states : List WalletState)
      → map (wallet_acted (row_with f row) seen t) (of_wallets states) ≡ of_wallets (map (wallet_acted row seen t) states)

-- what is chosen of rows is as they are
pub chosen-all : (P : PlainRow → Type 0) → ((row : PlainRow) → P row → P (idle_row row)) → (world : World) (rows : List PlainRow)
    → All P rows → All P (chosen world rows)
chosen-all P idle world rows all =
    cond_both (is_any_refused world rows) (map (held_in world) rows) rows (All P)
    (λ any. All-map P (held_in world) rows
    (λ k d within.
    let row : PlainRow = get_or rows k d in
    cond_both (is_some (why_in world row)) row (idle_row row) P (λ refused. all k d within) (λ free. idle row (all k d within))))
    (λ none. all)

module _ (f : ℕ → ℕ) (of_markets : List MarketState → List MarketState) (of_wallets : List WalletState → List WalletState) where
  -- the world that is made of another
  abbrev made : World → World
  made world = record world { markets = of_markets world.markets; wallets = of_wallets world.wallets }

  module _ (row : PlainRow) (alike : ActsAlike f of_markets of_wallets row) where
    role-same : (role : Option Address) → IfSome role (λ (address : Address). names row address ≡ true) → (states : List WalletState)
        → role_at role (of_wallets states) ≡ role_at role states
    role-same None named states = refl
    role-same (Some address) named states = alike.wallet address named states

    sees-same : (world : World) → seen_by row (made world) ≡ seen_by row world
    sees-same world = λ i. record (seen_by row world) {
      coin = role-same row.coin (row-among row).0 world.wallets i;
      pc = role-same row.pc (row-among row).1 world.wallets i;
      discount = role-same row.discount (row-among row).2 world.wallets i;
      referrer = role-same row.referrer (row-among row).3 world.wallets i;
    }

    row-acts : (world : World) → act (row_with f row) (made world) ≡ made (act row world)
    row-acts world =
        ap (λ (found : Option Market). acted (row_with f row) found (made world)) (alike.market world.markets) ∙ by-market (market_at row.market world.markets)
      where
        by-market : (found : Option Market) → acted (row_with f row) found (made world) ≡ made (acted row found world)
        by-market None = refl
        by-market (Some m) =
            let late : Seen = seen_by row world in
            ap (λ (seen : Seen). record (made world) {
              markets = markets_acted (row_with f row) seen (of_markets world.markets);
              wallets = map (wallet_acted (row_with f row) seen (row_step row seen m).transfers) (of_wallets world.wallets);
            }) (sees-same world)
            ∙ (λ i. record (made world) {
              markets = alike.markets late world.markets i;
              wallets = alike.wallets late (row_step row late m).transfers world.wallets i;
            })

    why-same : (world : World) → why_in (made world) (row_with f row) ≡ why_in world row
    why-same world = λ i. why_on row (sees-same world i) (alike.market world.markets i)

    held-same : (world : World) → held_in (made world) (row_with f row) ≡ row_with f (held_in world row)
    held-same world =
        ap (λ (why : Option Refusal). cond (is_some why) (row_with f row) (idle_row (row_with f row))) (why-same world)
        ∙ cond-of (row_with f) (is_some (why_in world row)) row (idle_row row)

  -- ---- the rows of an item that all act alike, also where they have nothing to do

  module _ (P : PlainRow → Type 0) (alike : (row : PlainRow) → P row → ActsAlike f of_markets of_wallets row)
      (idle : (row : PlainRow) → P row → P (idle_row row)) where
    rows-act : (rows : List PlainRow) (world : World) → All P rows → fold (map (row_with f) rows) (made world) ≡ made (fold rows world)
    rows-act [] world all = refl
    rows-act (row ∷ rows) world all =
        ap (fold (map (row_with f) rows)) (row-acts row (alike row (All-head P row rows all)) world) ∙ rows-act rows (act row world) (All-tail P row rows all)

    chosen-same : (world : World) (rows : List PlainRow) → All P rows → chosen (made world) (map (row_with f) rows) ≡ map (row_with f) (chosen world rows)
    chosen-same world rows all =
        let any : is_any_refused (made world) (map (row_with f) rows) ≡ is_any_refused world rows =
        list_any-map (λ (row : PlainRow). is_some (why_in (made world) row)) (row_with f) rows
        ∙ list_any-agree (λ (row : PlainRow). is_some (why_in (made world) (row_with f row))) (λ (row : PlainRow). is_some (why_in world row)) rows
        (λ k d within. ap is_some (why-same (get_or rows k d) (alike (get_or rows k d) (all k d within)) world)) in
        let held : map (held_in (made world)) (map (row_with f) rows) ≡ map (row_with f) (map (held_in world) rows) =
        map-map (row_with f) (held_in (made world)) rows
        ∙ map-agree (λ (row : PlainRow). held_in (made world) (row_with f row)) (λ (row : PlainRow). row_with f (held_in world row)) rows
        (λ k d within. held-same (get_or rows k d) (alike (get_or rows k d) (all k d within)) world)
        ∙ sym (map-map (held_in world) (row_with f) rows) in
        ap (λ (b : Bool). cond b (map (held_in (made world)) (map (row_with f) rows)) (map (row_with f) rows)) any
        ∙ ap (λ (some : List PlainRow). cond (is_any_refused world rows) some (map (row_with f) rows)) held
        ∙ cond-of (map (row_with f)) (is_any_refused world rows) (map (held_in world) rows) rows

    pub item-acts : (item : Item) (world : World) → All P (members item)
        → fold (chosen (made world) (map (row_with f) (members item))) (made world) ≡ made (act_item item world)
    item-acts item world all =
        ap (λ (rows : List PlainRow). fold rows (made world)) (chosen-same world (members item) all)
        ∙ rows-act (chosen world (members item)) world (chosen-all P idle world (members item) all)
