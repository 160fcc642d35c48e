-- What all wallets and vaults of a world hold of a mint, and that a row keeps it: what it takes from wallets enters
-- vaults of their mint, and what it brings to them leaves these.
use Rattle.std.proofs.Common.{ℕ, ◌+◌, ◌≡◌, ◌⊎◌, Bool, true, false, ◌||◌, cond, get_or, nat_lt, List, [], ◌∷◌, map, Option, Some, None, refl, sym, ap, ◌∙◌, arith, ⊎_elim}
use Rattle.dex_replay.proofs.Common.{All, market_at, times}
use Rattle.dex_world.proofs.Common.{Address, All-head, All-tail, CanMove, IsSound, Listing, Market, MarketState, Movement, PlainRow, Seen, Step, Transfers, WalletSeen, WalletState, World, asked_of, balance_seen, brought_to, cases_Bool, cond-false, cond-true, cond_both, is_role, is_same, is_same-refl, is_same-sym, is_same-true, ltb-false, market_acted, markets_acted, moved_balance, movement_by, movement_of, names, names-roles, or_parts, request_of, role_at, row_step, seen_by, step-keeps, taken_from, total, wallet_acted, wallet_at}
use Rattle.dex_types.specs.Wallets.{amount_at}
use Rattle.dex_laws.proofs.TotalLaws.{total-agree, total-none, total-plus}
use Rattle.dex_sound.specs.Kept.{KeepsMarket}
use Rattle.dex_history.proofs.BalanceLaws.{ArePaid, amount-le}
use Rattle.dex_history.proofs.MintLaws.{AreOfMints, IsOfMint, cond-plus}
use Rattle.dex_history.proofs.StepConserves.{row-paid}
use Rattle.dex_state.proofs.Times.{one, times-cons}
use Rattle.dex_replay.proofs.Sights.{AreOnce, address_in, found-address}

-- what a market's vaults hold of a mint
abbrev pub in_market : Address → Market → ℕ
in_market mint m = cond (is_same mint m.listing.coin_mint) m.coin_vault 0 + cond (is_same mint m.listing.pc_mint) m.pc_vault 0

-- what a wallet holds of it
abbrev pub in_wallet : Address → WalletState → ℕ
in_wallet mint state = cond (is_same mint state.seen.mint) state.seen.balance 0

-- what all of them hold
abbrev pub held_in : Address → World → ℕ
held_in mint world = total (in_wallet mint) world.wallets + total (λ (state : MarketState). in_market mint state.market) world.markets

-- a row can move a wallet at its balance, if it names it
abbrev pub CanMoveIt : PlainRow → Seen → Transfers → WalletState → Type 0
CanMoveIt row seen t state =
    let move = movement_of seen t state.seen.address in
    names row state.seen.address ≡ true → CanMove move.kind move.amount state.seen.balance

-- where a test passes, and else nothing
when-of : (test : Bool) (now before gave got : ℕ) → now + gave ≡ before + got → cond test now 0 + cond test gave 0 ≡ cond test before 0 + cond test got 0
when-of true now before gave got is = is
when-of false now before gave got is = refl

when-none : (test : Bool) (amount : ℕ) → amount ≡ 0 → cond test amount 0 ≡ 0
when-none true amount none = none
when-none false amount none = refl

-- ---- what moves under a role, at the wallets of a mint

module _ (mint : Address) where
  abbrev at_role : Option WalletSeen → ℕ → WalletState → ℕ
  at_role role amount state = cond (is_same mint state.seen.mint) (amount_at state.seen.address role amount) 0

  -- no wallet of the address
  none-total : (wallet : WalletSeen) (amount : ℕ) (states : List WalletState) → times wallet.address (map address_in states) ≡ 0
      → total (at_role (Some wallet) amount) states ≡ 0
  none-total wallet amount [] none = refl
  none-total wallet amount (state ∷ states) none =
      let count = times-cons wallet.address state.seen.address (map address_in states) in
      ⊎_elim
      (λ (same : is_same wallet.address state.seen.address ≡ true).
      absurd (omega (arith, none, count, cond-true {A = ℕ} (is_same wallet.address state.seen.address) 1 0 same)))
      (λ (apart : is_same wallet.address state.seen.address ≡ false).
      omega (
        arith,
        when-none (is_same mint state.seen.mint) (amount_at state.seen.address (Some wallet) amount)
            (cond-false (is_same state.seen.address wallet.address) amount 0 (is_same-sym state.seen.address wallet.address ∙ apart)),
        none-total wallet amount states (omega (arith, none, count)),
      ))
      (cases_Bool (is_same wallet.address state.seen.address))

  -- the one that is found
  found-total : (wallet : WalletSeen) (amount : ℕ) (states : List WalletState) → AreOnce states → wallet_at wallet.address states ≡ Some wallet
      → total (at_role (Some wallet) amount) states ≡ cond (is_same mint wallet.mint) amount 0
  found-total wallet amount [] once found = absurd (cc)
  found-total wallet amount (state ∷ states) once found =
      let count : (address : Address) → times address (map address_in (state ∷ states)) ≡ one address state.seen.address + times address (map address_in states) =
      λ address. times-cons address state.seen.address (map address_in states) in
      ⊎_elim
      (λ (same : is_same wallet.address state.seen.address ≡ true).
      let here : Some state.seen ≡ Some wallet = sym (cond-true (is_same wallet.address state.seen.address) (Some state.seen) (wallet_at wallet.address states) same) ∙ found in
      let own : state.seen ≡ wallet = cc in
      let first : at_role (Some wallet) amount state ≡ cond (is_same mint wallet.mint) amount 0 =
      ap (λ (seen : WalletSeen). cond (is_same mint seen.mint) (amount_at seen.address (Some wallet) amount) 0) own
      ∙ ap (λ (n : ℕ). cond (is_same mint wallet.mint) n 0) (cond-true (is_same wallet.address wallet.address) amount 0 (is_same-refl wallet.address)) in
      let none : times wallet.address (map address_in states) ≡ 0 =
      omega (arith, once wallet.address, count wallet.address, cond-true {A = ℕ} (is_same wallet.address state.seen.address) 1 0 same) in
      omega (arith, first, none-total wallet amount states none))
      (λ (apart : is_same wallet.address state.seen.address ≡ false).
      omega (
        arith,
        when-none (is_same mint state.seen.mint) (amount_at state.seen.address (Some wallet) amount)
            (cond-false (is_same state.seen.address wallet.address) amount 0 (is_same-sym state.seen.address wallet.address ∙ apart)),
        found-total wallet amount states (λ a. omega (arith, once a, count a))
            (sym (cond-false (is_same wallet.address state.seen.address) (Some state.seen) (wallet_at wallet.address states) apart) ∙ found),
      ))
      (cases_Bool (is_same wallet.address state.seen.address))

  -- what a role finds is what stands at its address
  role-found : (role : Option Address) (states : List WalletState) (wallet : WalletSeen) → role_at role states ≡ Some wallet → wallet_at wallet.address states ≡ Some wallet
  role-found None states wallet is = absurd (cc)
  role-found (Some address) states wallet is = ap (λ (a : Address). wallet_at a states) (sym (found-address address states wallet is)) ∙ is

  role-total : (role : Option Address) (of : Address) (amount : ℕ) (states : List WalletState) → AreOnce states → IsOfMint of (role_at role states) amount
      → total (at_role (role_at role states) amount) states ≡ cond (is_same mint of) amount 0
  role-total role of amount states once is =
      ⊎_elim
      (λ (none : amount ≡ 0).
      total-none (at_role (role_at role states) amount) states
      (λ k d within. when-none (is_same mint (get_or states k d).seen.mint) (amount_at (get_or states k d).seen.address (role_at role states) amount)
      (omega (arith, none, amount-le (get_or states k d).seen.address (role_at role states) amount)))
      ∙ sym (when-none (is_same mint of) amount none))
      (λ (named : (wallet : WalletSeen) × (role_at role states ≡ Some wallet) × (is_same of wallet.mint ≡ true)).
      ap (λ (seen : Option WalletSeen). total (at_role seen amount) states) named.1
      ∙ found-total named.0 amount states once (role-found role states named.0 named.1)
      ∙ ap (λ (a : Address). cond (is_same mint a) amount 0) (sym (is_same-true of named.0.mint named.2)))
      is

-- ---- one wallet

-- a movement of what is taken or brought
moved-by : (address : Address) (before taken brought balance : ℕ) → (taken ≡ 0) ⊎ (brought ≡ 0)
    → let move = movement_by address before taken brought in CanMove move.kind move.amount balance → moved_balance move.kind move.amount balance + taken ≡ balance + brought
moved-by address before taken brought balance one_way =
    cond_both (nat_lt 0 taken) _ _ (λ (move : Movement). CanMove move.kind move.amount balance → moved_balance move.kind move.amount balance + taken ≡ balance + brought)
    (λ some can. ⊎_elim (λ (none : taken ≡ 0). omega (arith, can.0, none)) (λ (none : brought ≡ 0). omega (arith, can.1, none)) one_way)
    (λ nothing.
    cond_both (nat_lt 0 brought) _ _ (λ (move : Movement). CanMove move.kind move.amount balance → moved_balance move.kind move.amount balance + taken ≡ balance + brought)
    (λ some can. omega (arith, ltb-false 0 taken nothing))
    (λ none can. omega (arith, ltb-false 0 taken nothing, ltb-false 0 brought none)))

module _ (row : PlainRow) (world : World) (t : Transfers) (one_way : (address : Address) → (taken_from (seen_by row world) t address ≡ 0) ⊎ (brought_to (seen_by row world) t address ≡ 0)) where
  abbrev seen : Seen
  seen = seen_by row world

  -- a wallet that no role names is not moved
  role-none : (role : Option Address) (address : Address) (amount : ℕ) → is_role role address ≡ false → amount_at address (role_at role world.wallets) amount ≡ 0
  role-none None address amount apart = refl
  role-none (Some own) address amount apart = none (wallet_at own world.wallets) refl
    where
      none : (found : Option WalletSeen) → wallet_at own world.wallets ≡ found → amount_at address found amount ≡ 0
      none None is = refl
      none (Some wallet) is = cond-false (is_same address wallet.address) amount 0 (ap (is_same address) (sym (found-address own world.wallets wallet is)) ∙ apart)

  wallet-moves : (mint : Address) (state : WalletState) → CanMoveIt row seen t state
      → in_wallet mint (wallet_acted row seen t state) + cond (is_same mint state.seen.mint) (taken_from seen t state.seen.address) 0
      ≡ in_wallet mint state + cond (is_same mint state.seen.mint) (brought_to seen t state.seen.address) 0
  wallet-moves mint state can =
      let address : Address = state.seen.address in
      let taken : ℕ = taken_from seen t address in
      let brought : ℕ = brought_to seen t address in
      let move : Movement = movement_of seen t address in
      ⊎_elim
      (λ (named : names row address ≡ true).
      rw named (when-of (is_same mint state.seen.mint) (moved_balance move.kind move.amount state.seen.balance) state.seen.balance taken brought
      (moved-by address (balance_seen seen address) taken brought state.seen.balance (one_way address) (can named))))
      (λ (apart : names row address ≡ false).
      let first = or_parts (is_role row.coin address) (is_role row.pc address || (is_role row.discount address || (is_role row.referrer address || false)))
      (sym (names-roles row address) ∙ apart) in
      let second = or_parts (is_role row.pc address) (is_role row.discount address || (is_role row.referrer address || false)) first.1 in
      let third = or_parts (is_role row.discount address) (is_role row.referrer address || false) second.1 in
      let last = or_parts (is_role row.referrer address) false third.1 in
      rw apart (when-of (is_same mint state.seen.mint) state.seen.balance state.seen.balance taken brought
      (omega (
        arith,
        role-none row.coin address t.coin_in first.0,
        role-none row.pc address t.pc_in second.0,
        role-none row.coin address t.coin_out first.0,
        role-none row.pc address t.pc_out second.0,
        role-none row.referrer address t.referrer_out last.0,
      ))))
      (cases_Bool (names row address))

  -- ---- all wallets

  module _ (mint : Address) (m : Market) (of : AreOfMints seen m t) (once : AreOnce world.wallets) where
    each-moves : (states : List WalletState) → All (CanMoveIt row seen t) states
        → total (in_wallet mint) (map (wallet_acted row seen t) states) + total (λ (state : WalletState). cond (is_same mint state.seen.mint) (taken_from seen t state.seen.address) 0) states
        ≡ total (in_wallet mint) states + total (λ (state : WalletState). cond (is_same mint state.seen.mint) (brought_to seen t state.seen.address) 0) states
    each-moves [] can = refl
    each-moves (state ∷ states) can =
        omega (arith, wallet-moves mint state (All-head (CanMoveIt row seen t) state states can), each-moves states (All-tail (CanMoveIt row seen t) state states can))

    -- two roles
    both-total : (first second : WalletState → ℕ) → total (λ (state : WalletState). cond (is_same mint state.seen.mint) (first state + second state) 0) world.wallets
        ≡ total (λ (state : WalletState). cond (is_same mint state.seen.mint) (first state) 0) world.wallets
        + total (λ (state : WalletState). cond (is_same mint state.seen.mint) (second state) 0) world.wallets
    both-total first second =
        total-agree (λ (state : WalletState). cond (is_same mint state.seen.mint) (first state + second state) 0)
        (λ (state : WalletState). cond (is_same mint state.seen.mint) (first state) 0 + cond (is_same mint state.seen.mint) (second state) 0) world.wallets
        (λ k d within. let state : WalletState = get_or world.wallets k d in cond-plus (is_same mint state.seen.mint) (first state) (second state))
        ∙ total-plus (λ (state : WalletState). cond (is_same mint state.seen.mint) (first state) 0) (λ (state : WalletState). cond (is_same mint state.seen.mint) (second state) 0) world.wallets

    abbrev of_coin : ℕ → ℕ
    of_coin amount = cond (is_same mint m.listing.coin_mint) amount 0

    abbrev of_pc : ℕ → ℕ
    of_pc amount = cond (is_same mint m.listing.pc_mint) amount 0

    pub wallets-hold : All (CanMoveIt row seen t) world.wallets
        → total (in_wallet mint) (map (wallet_acted row seen t) world.wallets) + (of_coin t.coin_in + of_pc t.pc_in)
        ≡ total (in_wallet mint) world.wallets + (of_coin t.coin_out + (of_pc t.pc_out + of_pc t.referrer_out))
    wallets-hold can =
        let at : Option WalletSeen → ℕ → WalletState → ℕ = λ role amount (state : WalletState). amount_at state.seen.address role amount in
        omega (
          arith,
          each-moves world.wallets can,
          both-total (at seen.coin t.coin_in) (at seen.pc t.pc_in),
          both-total (λ (state : WalletState). at seen.coin t.coin_out state + at seen.pc t.pc_out state) (at seen.referrer t.referrer_out),
          both-total (at seen.coin t.coin_out) (at seen.pc t.pc_out),
          role-total mint row.coin m.listing.coin_mint t.coin_in world.wallets once of.coin_in,
          role-total mint row.pc m.listing.pc_mint t.pc_in world.wallets once of.pc_in,
          role-total mint row.coin m.listing.coin_mint t.coin_out world.wallets once of.coin_out,
          role-total mint row.pc m.listing.pc_mint t.pc_out world.wallets once of.pc_out,
          role-total mint row.referrer m.listing.pc_mint t.referrer_out world.wallets once of.referrer_out,
        )

-- ---- the markets

module _ (mint : Address) (row : PlainRow) (seen : Seen) (m : Market) (sound : IsSound m) where
  abbrev moved : Transfers
  moved = (row_step row seen m).transfers

  abbrev of_base : ℕ → ℕ
  of_base amount = cond (is_same mint m.listing.coin_mint) amount 0

  abbrev of_quote : ℕ → ℕ
  of_quote amount = cond (is_same mint m.listing.pc_mint) amount 0

  step-holds : in_market mint (row_step row seen m).market + (of_base moved.coin_out + (of_quote moved.pc_out + of_quote moved.referrer_out))
      ≡ in_market mint m + (of_base moved.coin_in + of_quote moved.pc_in)
  step-holds =
      let s : Step = row_step row seen m in
      let keeps : KeepsMarket m s = step-keeps (request_of row) seen m in
      let paid : ArePaid s.transfers m = row-paid (asked_of row) seen m sound in
      omega (
        arith,
        ap (λ (l : Listing). cond (is_same mint l.coin_mint) s.market.coin_vault 0 + cond (is_same mint l.pc_mint) s.market.pc_vault 0) keeps.listing,
        when-of (is_same mint m.listing.coin_mint) s.market.coin_vault m.coin_vault moved.coin_out moved.coin_in (omega (arith, keeps.coin, paid.coin)),
        when-of (is_same mint m.listing.pc_mint) s.market.pc_vault m.pc_vault (moved.pc_out + moved.referrer_out) moved.pc_in (omega (arith, keeps.pc, paid.pc)),
        cond-plus (is_same mint m.listing.pc_mint) moved.pc_out moved.referrer_out,
      )

  -- the market that the row found is the one that acts
  pub markets-hold : (states : List MarketState) → market_at row.market states ≡ Some m
      → total (λ (state : MarketState). in_market mint state.market) (markets_acted row seen states) + (of_base moved.coin_out + (of_quote moved.pc_out + of_quote moved.referrer_out))
      ≡ total (λ (state : MarketState). in_market mint state.market) states + (of_base moved.coin_in + of_quote moved.pc_in)
  markets-hold [] at = absurd (cc)
  markets-hold (state ∷ states) at =
      let weight : MarketState → ℕ = λ (one : MarketState). in_market mint one.market in
      cond_both (is_same row.market state.market.listing.address) (market_acted row seen state ∷ states) (state ∷ markets_acted row seen states)
      (λ (all : List MarketState). total weight all + (of_base moved.coin_out + (of_quote moved.pc_out + of_quote moved.referrer_out))
      ≡ total weight (state ∷ states) + (of_base moved.coin_in + of_quote moved.pc_in))
      (λ same.
      let first : Some state.market ≡ Some m = sym (cond-true (is_same row.market state.market.listing.address) (Some state.market) (market_at row.market states) same) ∙ at in
      let own : m ≡ state.market = cc in
      let acted : in_market mint (row_step row seen state.market).market ≡ in_market mint (row_step row seen m).market =
      ap (λ (one : Market). in_market mint (row_step row seen one).market) (sym own) in
      let before : in_market mint m ≡ in_market mint state.market = ap (in_market mint) own in
      omega (arith, acted, before, step-holds))
      (λ apart.
      omega (arith, markets-hold states (sym (cond-false (is_same row.market state.market.listing.address) (Some state.market) (market_at row.market states) apart) ∙ at)))
