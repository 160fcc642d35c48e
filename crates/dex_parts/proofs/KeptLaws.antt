-- What items keep of a world: the wallets but for their balances, the mints of SRM and MSRM, and the program.
use Rattle.std.proofs.Common.{◌≡◌, List, [], ◌∷◌, map, Option, Some, None, refl, ap, ◌∙◌}
use Rattle.dex_world.proofs.Common.{Address, Market, PlainRow, Seen, Transfers, WalletSeen, WalletState, World, act, act_item, acted, chosen, cond_both, fold, fold_items, members, movement_of, names, row_step, seen_by, wallet_acted, wallet_moved}
use Rattle.dex_parts.proofs.Common.{Item, Program, market_at}

-- what each row keeps items keep
module _ {A : Type 0} (tell : World → A) (kept : (row : PlainRow) (found : Option Market) (world : World) → tell (acted row found world) ≡ tell world) where
  rows-keep : (rows : List PlainRow) (world : World) → tell (fold rows world) ≡ tell world
  rows-keep [] world = refl
  rows-keep (row ∷ rows) world = rows-keep rows (act row world) ∙ kept row (market_at row.market world.markets) world

  pub items-keep : (items : List Item) (world : World) → tell (fold_items items world) ≡ tell world
  items-keep [] world = refl
  items-keep (item ∷ items) world = items-keep items (act_item item world) ∙ rows-keep (chosen world (members item)) world

-- ---- the mints of SRM and MSRM, and the program

abbrev rest_in : World → Option Address × Option Address × Program
rest_in world = (world.srm, world.msrm, world.program)

rest-acted : (row : PlainRow) (found : Option Market) (world : World) → rest_in (acted row found world) ≡ rest_in world
rest-acted row None world = refl
rest-acted row (Some m) world = refl

pub srm-kept : (items : List Item) (world : World) → (fold_items items world).srm ≡ world.srm
srm-kept items world = ap (λ (rest : Option Address × Option Address × Program). rest.0) (items-keep rest_in rest-acted items world)

pub msrm-kept : (items : List Item) (world : World) → (fold_items items world).msrm ≡ world.msrm
msrm-kept items world = ap (λ (rest : Option Address × Option Address × Program). rest.1) (items-keep rest_in rest-acted items world)

pub program-kept : (items : List Item) (world : World) → (fold_items items world).program ≡ world.program
program-kept items world = ap (λ (rest : Option Address × Option Address × Program). rest.2) (items-keep rest_in rest-acted items world)

-- ---- wallets

-- a wallet without its balance
abbrev pub named : WalletState → WalletSeen
named state = record state.seen { balance = 0 }

abbrev pub named_in : World → List WalletSeen
named_in world = map named world.wallets

named-one : (row : PlainRow) (seen : Seen) (t : Transfers) (state : WalletState) → named (wallet_acted row seen t state) ≡ named state
named-one row seen t state =
    cond_both (names row state.seen.address) (wallet_moved row (movement_of seen t state.seen.address) state) state
    (λ (one : WalletState). named one ≡ named state) (λ moved. refl) (λ apart. refl)

named-all : (row : PlainRow) (seen : Seen) (t : Transfers) (states : List WalletState) → map named (map (wallet_acted row seen t) states) ≡ map named states
named-all row seen t [] = refl
named-all row seen t (state ∷ states) = λ i. named-one row seen t state i ∷ named-all row seen t states i

named-acted : (row : PlainRow) (found : Option Market) (world : World) → named_in (acted row found world) ≡ named_in world
named-acted row None world = refl
named-acted row (Some m) world = let seen : Seen = seen_by row world in named-all row seen (row_step row seen m).transfers world.wallets

pub named-kept : (items : List Item) (world : World) → map named (fold_items items world).wallets ≡ map named world.wallets
named-kept items world = items-keep named_in named-acted items world
