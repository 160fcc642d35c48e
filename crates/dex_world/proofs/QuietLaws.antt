-- An item of which a row would be refused leaves each market, and what is seen of each wallet, as they were.
use Rattle.std.proofs.Common.{◌≡◌, ℕ, Bool, true, cond, List, [], ◌∷◌, map, Option, Some, None, is_some, refl, sym, ap, ◌∙◌, subst, arith}
use Rattle.std.proofs.lemmas.Bool.{cond-true, cond-false, cond_both, false≢true}
use Rattle.dex_types.specs.declared.addresses.Address.{Address}
use Rattle.dex_types.specs.declared.movements.MoveKind.TheVariants.{Probe}
use Rattle.dex_types.specs.declared.movements.Movement.{Movement}
use Rattle.dex_types.specs.declared.refusals.Refusal.{Refusal}
use Rattle.dex_types.specs.declared.rows.Seen.{Seen}
use Rattle.dex_types.specs.declared.rows.WalletSeen.{WalletSeen}
use Rattle.dex_types.specs.declared.terms.Program.{Program}
use Rattle.dex_types.specs.Addresses.{is_same}
use Rattle.dex_types.specs.Market.{Market}
use Rattle.dex_types.specs.Rows.{PlainRow}
use Rattle.dex_types.specs.Steps.{Step, act_decoded, unless_refused}
use Rattle.dex_types.specs.Transfers.{Transfers, no_transfers}
use Rattle.dex_types.specs.WalletJournal.{moved_balance}
use Rattle.dex_types.specs.Wallets.{balance_seen, brought_to, movement_by, movement_of, taken_from}
use Rattle.dex_types.specs.Why.{why}
use Rattle.dex_history.specs.Journal.{request_of, row_step}
use Rattle.dex_history.proofs.BalanceLaws.{amount-le}
use Rattle.dex_world.specs.Fold.{act, acted, fold, market_acted, markets_acted, names, wallet_acted, wallet_moved}
use Rattle.dex_world.specs.Groups.{members}
use Rattle.dex_world.specs.Items.{Item, act_item, held_in, idle_row, is_any_refused, why_in, why_on}
use Rattle.dex_world.specs.World.{MarketState, WalletState, World, market_at, markets_in, role_at, seen_by, wallet_at, wallets_in}
use Rattle.dex_world.proofs.ItemLaws.{idle-step}

-- ---- two worlds that differ in their journals alone

pub record IsQuiet (before after : World) : Type 0 where
  pub markets : markets_in after ≡ markets_in before
  pub wallets : wallets_in after ≡ wallets_in before
  pub srm : after.srm ≡ before.srm
  pub msrm : after.msrm ≡ before.msrm
  pub program : after.program ≡ before.program

quiet-then : (first next last : World) → IsQuiet first next → IsQuiet next last → IsQuiet first last
quiet-then first next last one other = record {
  markets = other.markets ∙ one.markets;
  wallets = other.wallets ∙ one.wallets;
  srm = other.srm ∙ one.srm;
  msrm = other.msrm ∙ one.msrm;
  program = other.program ∙ one.program;
}

-- what a row finds, and what it sees, goes by markets and wallets without their journals
abbrev find : Address → List Market → Option Market
find address [] = None
find address (m ∷ markets) = cond (is_same address m.listing.address) (Some m) (find address markets)

abbrev find_wallet : Address → List WalletSeen → Option WalletSeen
find_wallet address [] = None
find_wallet address (wallet ∷ wallets) = cond (is_same address wallet.address) (Some wallet) (find_wallet address wallets)

abbrev find_role : Option Address → List WalletSeen → Option WalletSeen
find_role None wallets = None
find_role (Some address) wallets = find_wallet address wallets

abbrev see : PlainRow → List WalletSeen → Option Address → Option Address → Program → Seen
see row wallets srm msrm program = record {
  coin = find_role row.coin wallets;
  pc = find_role row.pc wallets;
  discount = find_role row.discount wallets;
  referrer = find_role row.referrer wallets;
  srm = srm;
  msrm = msrm;
  program = program;
}

found-so : (address : Address) (states : List MarketState) → market_at address states ≡ find address (map (λ (state : MarketState). state.market) states)
found-so address [] = refl
found-so address (state ∷ states) = ap (cond (is_same address state.market.listing.address) (Some state.market)) (found-so address states)

wallet-so : (address : Address) (states : List WalletState) → wallet_at address states ≡ find_wallet address (map (λ (state : WalletState). state.seen) states)
wallet-so address [] = refl
wallet-so address (state ∷ states) = ap (cond (is_same address state.seen.address) (Some state.seen)) (wallet-so address states)

role-so : (role : Option Address) (states : List WalletState) → role_at role states ≡ find_role role (map (λ (state : WalletState). state.seen) states)
role-so None states = refl
role-so (Some address) states = wallet-so address states

sees-so : (row : PlainRow) (world : World) → seen_by row world ≡ see row (wallets_in world) world.srm world.msrm world.program
sees-so row world =
    let at : Option WalletSeen → Option WalletSeen → Option WalletSeen → Option WalletSeen → Seen = λ coin pc discount referrer. record {
      coin = coin;
      pc = pc;
      discount = discount;
      referrer = referrer;
      srm = world.srm;
      msrm = world.msrm;
      program = world.program;
    } in
    let new : Option Address → Option WalletSeen = λ role. find_role role (wallets_in world) in
    ap (λ (one : Option WalletSeen). at one (role_at row.pc world.wallets) (role_at row.discount world.wallets) (role_at row.referrer world.wallets)) (role-so row.coin world.wallets)
    ∙ ap (λ (one : Option WalletSeen). at (new row.coin) one (role_at row.discount world.wallets) (role_at row.referrer world.wallets)) (role-so row.pc world.wallets)
    ∙ ap (λ (one : Option WalletSeen). at (new row.coin) (new row.pc) one (role_at row.referrer world.wallets)) (role-so row.discount world.wallets)
    ∙ ap (at (new row.coin) (new row.pc) (new row.discount)) (role-so row.referrer world.wallets)

module _ (before after : World) (quiet : IsQuiet before after) where
  same-sight : (row : PlainRow) → seen_by row after ≡ seen_by row before
  same-sight row =
      sees-so row after
      ∙ ap (λ (wallets : List WalletSeen). see row wallets after.srm after.msrm after.program) quiet.wallets
      ∙ ap (λ (mint : Option Address). see row (wallets_in before) mint after.msrm after.program) quiet.srm
      ∙ ap (λ (mint : Option Address). see row (wallets_in before) before.srm mint after.program) quiet.msrm
      ∙ ap (see row (wallets_in before) before.srm before.msrm) quiet.program
      ∙ sym (sees-so row before)

  same-why : (row : PlainRow) → why_in after row ≡ why_in before row
  same-why row =
      ap (λ (seen : Seen). why_on row seen (market_at row.market after.markets)) (same-sight row)
      ∙ ap (why_on row (seen_by row before)) (found-so row.market after.markets ∙ ap (find row.market) quiet.markets ∙ sym (found-so row.market before.markets))

-- ---- a row whose step changes nothing

record IsIdle (row : PlainRow) (seen : Seen) (m : Market) : Type 0 where
  market : (row_step row seen m).market ≡ m
  none : (row_step row seen m).transfers ≡ no_transfers

refused-idle : (row : PlainRow) (seen : Seen) (m : Market) → is_some (why (request_of row) seen m) ≡ true → IsIdle row seen m
refused-idle row seen m some =
    let both = on (why (request_of row) seen m) (act_decoded (request_of row).instruction (request_of row) seen m) some in
    record { market = both.0; none = both.1 }
  where
    on : (reason : Option Refusal) (own : Step) → is_some reason ≡ true → ((unless_refused reason m own).market ≡ m) × ((unless_refused reason m own).transfers ≡ no_transfers)
    on None own some = absurd (false≢true some)
    on (Some refusal) own some = (refl, refl)

markets-quiet : (row : PlainRow) (seen : Seen) (m : Market) → (row_step row seen m).market ≡ m → (states : List MarketState) → market_at row.market states ≡ Some m
    → map (λ (state : MarketState). state.market) (markets_acted row seen states) ≡ map (λ (state : MarketState). state.market) states
markets-quiet row seen m stays [] at = refl
markets-quiet row seen m stays (state ∷ states) at =
    let same_at : Bool = is_same row.market state.market.listing.address in
    cond_both same_at (market_acted row seen state ∷ states) (state ∷ markets_acted row seen states)
    (λ (all : List MarketState). map (λ (one : MarketState). one.market) all ≡ map (λ (one : MarketState). one.market) (state ∷ states))
    (λ same.
    let first : Some state.market ≡ Some m = sym (cond-true same_at (Some state.market) (market_at row.market states) same) ∙ at in
    let own : state.market ≡ m = cc in
    ap (λ (one : Market). one ∷ map (λ (other : MarketState). other.market) states) (subst (λ (one : Market). (row_step row seen one).market ≡ one) (sym own) stays))
    (λ apart.
    ap (λ (all : List Market). state.market ∷ all)
    (markets-quiet row seen m stays states (sym (cond-false same_at (Some state.market) (market_at row.market states) apart) ∙ at)))

wallet-quiet : (row : PlainRow) (seen : Seen) (state : WalletState) → (wallet_acted row seen no_transfers state).seen ≡ state.seen
wallet-quiet row seen state =
    let address : Address = state.seen.address in
    let before : ℕ = balance_seen seen address in
    let taken : taken_from seen no_transfers address ≡ 0 = omega (arith, amount-le address seen.coin 0, amount-le address seen.pc 0) in
    let brought : brought_to seen no_transfers address ≡ 0 =
    omega (arith, amount-le address seen.coin 0, amount-le address seen.pc 0, amount-le address seen.referrer 0) in
    let probe : movement_of seen no_transfers address ≡ record { wallet = address; kind = Probe; amount = 0; before = before } =
    ap (λ (n : ℕ). movement_by address before n (brought_to seen no_transfers address)) taken ∙ ap (movement_by address before 0) brought in
    cond_both (names row address) (wallet_moved row (movement_of seen no_transfers address) state) state (λ (one : WalletState). one.seen ≡ state.seen)
    (λ named. ap (λ (move : Movement). record state.seen { balance = moved_balance move.kind move.amount state.seen.balance }) probe)
    (λ apart. refl)

wallets-quiet : (row : PlainRow) (seen : Seen) (states : List WalletState)
    → map (λ (state : WalletState). state.seen) (map (wallet_acted row seen no_transfers) states) ≡ map (λ (state : WalletState). state.seen) states
wallets-quiet row seen [] = refl
wallets-quiet row seen (state ∷ states) =
    ap (λ (one : WalletSeen). one ∷ map (λ (other : WalletState). other.seen) (map (wallet_acted row seen no_transfers) states)) (wallet-quiet row seen state)
    ∙ ap (λ (all : List WalletSeen). state.seen ∷ all) (wallets-quiet row seen states)

act-quiet : (row : PlainRow) (world : World) → ((m : Market) → market_at row.market world.markets ≡ Some m → IsIdle row (seen_by row world) m) → IsQuiet world (act row world)
act-quiet row world idle = on (market_at row.market world.markets) refl
  where
    on : (found : Option Market) → market_at row.market world.markets ≡ found → IsQuiet world (acted row found world)
    on None at = record { markets = refl; wallets = refl; srm = refl; msrm = refl; program = refl }
    on (Some m) at = let seen : Seen = seen_by row world in record {
      markets = markets-quiet row seen m (idle m at).market world.markets at;
      wallets = ap (λ (t : Transfers). map (λ (state : WalletState). state.seen) (map (wallet_acted row seen t) world.wallets)) (idle m at).none ∙ wallets-quiet row seen world.wallets;
      srm = refl;
      msrm = refl;
      program = refl;
    }

-- ---- the rows of an item of which one would be refused

held-idle : (before now : World) → IsQuiet before now → (row : PlainRow) → (m : Market) → market_at (held_in before row).market now.markets ≡ Some m
    → IsIdle (held_in before row) (seen_by (held_in before row) now) m
held-idle before now quiet row =
    cond_both (is_some (why_in before row)) row (idle_row row)
    (λ (one : PlainRow). (m : Market) → market_at one.market now.markets ≡ Some m → IsIdle one (seen_by one now) m)
    (λ refused m at.
    refused-idle row (seen_by row now) m
    (ap (λ (found : Option Refusal). is_some found) (sym (ap (why_on row (seen_by row now)) at) ∙ same-why before now quiet row) ∙ refused))
    (λ spared m at. record {
      market = ap (λ (s : Step). s.market) (idle-step row (seen_by row now) m);
      none = ap (λ (s : Step). s.transfers) (idle-step row (seen_by row now) m);
    })

rows-quiet : (before : World) (rows : List PlainRow) (now : World) → IsQuiet before now → IsQuiet before (fold (map (held_in before) rows) now)
rows-quiet before [] now quiet = quiet
rows-quiet before (row ∷ rows) now quiet =
    rows-quiet before rows (act (held_in before row) now)
    (quiet-then before now (act (held_in before row) now) quiet (act-quiet (held_in before row) now (held-idle before now quiet row)))

pub item-quiet : (item : Item) (world : World) → is_any_refused world (members item) ≡ true → IsQuiet world (act_item item world)
item-quiet item world some =
    subst (λ (rows : List PlainRow). IsQuiet world (fold rows world)) (sym (cond-true (is_any_refused world (members item)) (map (held_in world) (members item)) (members item) some))
    (rows-quiet world (members item) world (record { markets = refl; wallets = refl; srm = refl; msrm = refl; program = refl }))
