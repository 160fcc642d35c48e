-- What is taken from a place and brought to it, beside what a row takes from a wallet and brings to it.
use Rattle.std.proofs.Common.{◌≡◌, ℕ, zero, suc, ◌+◌, ◌<◌, ◌≤◌, ◌^◌, ◌⊎◌, inl, inr, Bool, true, false, List, [], ◌∷◌, Option, Some, None, ltb, refl, sym, ap, ◌∙◌, subst, arith, ⊎_elim}
use Rattle.std.specs.Prelude.{if◌then◌else◌}
use Rattle.std.proofs.lemmas.Bool.{cases_Bool, cases_lt, false≢true, le-ltb, lt-ltb}
use Rattle.dex_types.specs.declared.addresses.Address.{Address}
use Rattle.dex_types.specs.declared.movements.MoveKind.TheVariants.{Credit, Debit, Probe}
use Rattle.dex_types.specs.declared.movements.Movement.{Movement}
use Rattle.dex_types.specs.declared.rows.Seen.{Seen}
use Rattle.dex_types.specs.declared.rows.WalletSeen.{WalletSeen}
use Rattle.dex_types.specs.Addresses.{is_same}
use Rattle.dex_types.specs.Transfers.{Transfers}
use Rattle.dex_types.specs.Wallets.{address_seen, amount_at, balance_in, balance_seen, brought_to, movement_by, taken_from}
use Rattle.dex_types.specs.WalletJournal.{CanMove as CanMoveBy}
use Rattle.dex_token.specs.TokenAccount.{IsWallet, wallet_words}
use Rattle.dex_history.specs.Journal.{Agree, Asked}
use Rattle.dex_history.specs.Journal.{Sees as RowSees}
use Rattle.dex_history.specs.Moves.{Moves}
use Rattle.dex_laws.proofs.TraderLaws.{is_same-refl}
use Rattle.dex_purse.specs.declared.lent_wallets.Roles.{Roles}
use Rattle.dex_purse.specs.declared.lent_wallets.Slot.{Slot}
use Rattle.dex_purse.specs.declared.lent_wallets.Slot.TheVariants.{First, Second, Third, Fourth}
use Rattle.dex_purse.specs.Purse.{AreApart, AreWallets, CanMove, CanMoveEach, IsNamed, Names, Purse, Sees, address_as, amount_for, brought_at, is_slot, names, seen_as, seen_in, taken_at, wallet_at}

-- ---- places

is_slot-refl : (slot : Slot) → is_slot slot slot ≡ true
is_slot-refl First = refl
is_slot-refl Second = refl
is_slot-refl Third = refl
is_slot-refl Fourth = refl

is_slot-true : (one other : Slot) → is_slot one other ≡ true → one ≡ other
is_slot-true First First is = refl
is_slot-true First Second is = absurd (false≢true is)
is_slot-true First Third is = absurd (false≢true is)
is_slot-true First Fourth is = absurd (false≢true is)
is_slot-true Second First is = absurd (false≢true is)
is_slot-true Second Second is = refl
is_slot-true Second Third is = absurd (false≢true is)
is_slot-true Second Fourth is = absurd (false≢true is)
is_slot-true Third First is = absurd (false≢true is)
is_slot-true Third Second is = absurd (false≢true is)
is_slot-true Third Third is = refl
is_slot-true Third Fourth is = absurd (false≢true is)
is_slot-true Fourth First is = absurd (false≢true is)
is_slot-true Fourth Second is = absurd (false≢true is)
is_slot-true Fourth Third is = absurd (false≢true is)
is_slot-true Fourth Fourth is = refl

-- what a role names, it names
abbrev own : (roles : Roles) (role : Option Slot) → Type 0
own roles role = (other : Slot) → names other role ≡ true → IsNamed other roles

-- ---- amounts

amount-at : (slot : Slot) (role : Option Slot) (roles : Roles) (purse : Purse) (amount : ℕ) → own roles role → IsNamed slot roles → AreApart roles purse
    → amount_at (wallet_at slot purse).address (seen_as role purse) amount ≡ amount_for slot role amount
amount-at slot None roles purse amount owns mine apart = refl
amount-at slot (Some other) roles purse amount owns mine apart =
    ap (λ (b : Bool). if b then amount else 0) (apart slot other mine (owns other (is_slot-refl other)))

amount-none : (slot : Slot) (role : Option Slot) (amount : ℕ) → names slot role ≡ false → amount_for slot role amount ≡ 0
amount-none slot None amount not = refl
amount-none slot (Some other) amount not = ap (λ (b : Bool). if b then amount else 0) not

module _ (roles : Roles) (purse : Purse) (seen : Seen) (t : Transfers) (sees : Sees roles purse seen) (apart : AreApart roles purse) (slot : Slot) (mine : IsNamed slot roles) where
  abbrev address : Address
  address = (wallet_at slot purse).address

  of_coin : (amount : ℕ) → amount_at address seen.coin amount ≡ amount_for slot roles.coin amount
  of_coin amount = ap (λ (r : Option WalletSeen). amount_at address r amount) sees.coin
      ∙ amount-at slot roles.coin roles purse amount (λ other is. inl is) mine apart

  of_pc : (amount : ℕ) → amount_at address seen.pc amount ≡ amount_for slot roles.pc amount
  of_pc amount = ap (λ (r : Option WalletSeen). amount_at address r amount) sees.pc
      ∙ amount-at slot roles.pc roles purse amount (λ other is. inr (inl is)) mine apart

  of_referrer : (amount : ℕ) → amount_at address seen.referrer amount ≡ amount_for slot roles.referrer amount
  of_referrer amount = ap (λ (r : Option WalletSeen). amount_at address r amount) sees.referrer
      ∙ amount-at slot roles.referrer roles purse amount (λ other is. inr (inr (inr is))) mine apart

  pub taken : taken_from seen t address ≡ taken_at slot roles t
  taken = rw (of_coin t.coin_in, of_pc t.pc_in) refl

  pub brought : brought_to seen t address ≡ brought_at slot roles t
  brought = rw (of_coin t.coin_out, of_pc t.pc_out, of_referrer t.referrer_out) refl

  -- ---- the balance that is seen

  abbrev amount : ℕ
  amount = (wallet_words (wallet_at slot purse).bytes).amount

  here : (role : Option Slot) (others : List (Option WalletSeen)) → own roles role → names slot role ≡ true
      → balance_in address (seen_as role purse ∷ others) ≡ amount
  here None others owns is = absurd (false≢true is)
  here (Some other) others owns is =
      ap (λ (b : Bool). if b then (wallet_words (wallet_at other purse).bytes).amount else balance_in address others)
      (apart slot other mine (owns other (is_slot-refl other)) ∙ is)
      ∙ ap (λ (s : Slot). (wallet_words (wallet_at s purse).bytes).amount) (sym (is_slot-true slot other is))

  passed : (role : Option Slot) (others : List (Option WalletSeen)) → own roles role → balance_in address others ≡ amount
      → names slot role ≡ false → balance_in address (seen_as role purse ∷ others) ≡ amount
  passed None others owns rest not = rest
  passed (Some other) others owns rest not =
      ap (λ (b : Bool). if b then (wallet_words (wallet_at other purse).bytes).amount else balance_in address others)
      (apart slot other mine (owns other (is_slot-refl other)) ∙ not)
      ∙ rest

  there : (role : Option Slot) (others : List (Option WalletSeen)) → own roles role → balance_in address others ≡ amount
      → balance_in address (seen_as role purse ∷ others) ≡ amount
  there role others owns rest =
      ⊎_elim (λ (is : names slot role ≡ true). here role others owns is)
      (λ (not : names slot role ≡ false). passed role others owns rest not)
      (cases_Bool (names slot role))

  coin_owns : own roles roles.coin
  coin_owns other is = inl is

  pc_owns : own roles roles.pc
  pc_owns other is = inr (inl is)

  discount_owns : own roles roles.discount
  discount_owns other is = inr (inr (inl is))

  referrer_owns : own roles roles.referrer
  referrer_owns other is = inr (inr (inr is))

  last : names slot roles.referrer ≡ true → balance_in address (seen_as roles.referrer purse ∷ []) ≡ amount
  last is = here roles.referrer [] referrer_owns is

  third : (names slot roles.discount ≡ true) ⊎ (names slot roles.referrer ≡ true)
      → balance_in address (seen_as roles.discount purse ∷ seen_as roles.referrer purse ∷ []) ≡ amount
  third (inl is) = here roles.discount (seen_as roles.referrer purse ∷ []) discount_owns is
  third (inr is) = there roles.discount (seen_as roles.referrer purse ∷ []) discount_owns (last is)

  second : (names slot roles.pc ≡ true) ⊎ ((names slot roles.discount ≡ true) ⊎ (names slot roles.referrer ≡ true))
      → balance_in address (seen_as roles.pc purse ∷ seen_as roles.discount purse ∷ seen_as roles.referrer purse ∷ []) ≡ amount
  second (inl is) = here roles.pc (seen_as roles.discount purse ∷ seen_as roles.referrer purse ∷ []) pc_owns is
  second (inr is) = there roles.pc (seen_as roles.discount purse ∷ seen_as roles.referrer purse ∷ []) pc_owns (third is)

  first : IsNamed slot roles
      → balance_in address (seen_as roles.coin purse ∷ seen_as roles.pc purse ∷ seen_as roles.discount purse ∷ seen_as roles.referrer purse ∷ []) ≡ amount
  first (inl is) = here roles.coin (seen_as roles.pc purse ∷ seen_as roles.discount purse ∷ seen_as roles.referrer purse ∷ []) coin_owns is
  first (inr is) = there roles.coin (seen_as roles.pc purse ∷ seen_as roles.discount purse ∷ seen_as roles.referrer purse ∷ []) coin_owns (second is)

  pub balance : balance_seen seen (wallet_at slot purse).address ≡ (wallet_words (wallet_at slot purse).bytes).amount
  balance = rw (sees.coin, sees.pc, sees.discount, sees.referrer) (first mine)

-- ---- what can be moved

abbrev by : Bool → Bool → Address → ℕ → ℕ → ℕ → Movement
by pays gets wallet held takes brings =
    if pays then record { wallet = wallet; kind = Debit; amount = takes; before = held }
    else (if gets then record { wallet = wallet; kind = Credit; amount = brings; before = held }
    else record { wallet = wallet; kind = Probe; amount = 0; before = held })

abbrev Can : Movement → Type 0
Can move = CanMoveBy move.kind move.amount move.before

pub can-move : (wallet : Address) (held takes brings : ℕ) → ((takes ≡ 0) ⊎ (brings ≡ 0)) → Can (movement_by wallet held takes brings)
    → ((takes ≡ 0) × (brings ≡ 0)) ⊎ ((takes ≤ held) × ((brings ≡ 0) ⊎ (held + brings < 2 ^ 64)))
can-move wallet held takes brings way can =
    ⊎_elim
    (λ (some : 0 < takes).
    let pays : ltb 0 takes ≡ true = lt-ltb 0 takes some in
    let paid : (1 ≤ takes) × (takes ≤ held) = subst (λ (b : Bool). Can (by b (ltb 0 brings) wallet held takes brings)) pays can in
    let none : brings ≡ 0 = ⊎_elim (λ (no : takes ≡ 0). absurd (omega (arith, some, no))) (λ (no : brings ≡ 0). no) way in
    inr (paid.1, inl none))
    (λ (no_takes : takes ≤ 0).
    let pays_not : ltb 0 takes ≡ false = le-ltb 0 takes no_takes in
    let rest : Can (by false (ltb 0 brings) wallet held takes brings) = subst (λ (b : Bool). Can (by b (ltb 0 brings) wallet held takes brings)) pays_not can in
    ⊎_elim
    (λ (some : 0 < brings).
    let gets : ltb 0 brings ≡ true = lt-ltb 0 brings some in
    let got : (1 ≤ brings) × (held + brings < 2 ^ 64) = subst (λ (b : Bool). Can (by false b wallet held takes brings)) gets rest in
    inr (omega (arith, no_takes), inr got.1))
    (λ (no_brings : brings ≤ 0). inl (omega (arith, no_takes), omega (arith, no_brings)))
    (cases_lt 0 brings))
    (cases_lt 0 takes)

module _ (roles : Roles) (purse : Purse) (seen : Seen) (t : Transfers) (sees : Sees roles purse seen) (apart : AreApart roles purse)
    (wallets : AreWallets roles purse) (moves : (wallet : Address) → Moves seen t wallet) (slot : Slot) where
  abbrev Goal : Type 0
  Goal = CanMove (taken_at slot roles t) (brought_at slot roles t) (wallet_at slot purse).bytes

  named : IsNamed slot roles → Goal
  named mine =
      let at : Address = (wallet_at slot purse).address in
      let held : balance_seen seen at ≡ (wallet_words (wallet_at slot purse).bytes).amount = balance roles purse seen t sees apart slot mine in
      let takes : taken_from seen t at ≡ taken_at slot roles t = taken roles purse seen t sees apart slot mine in
      let brings : brought_to seen t at ≡ brought_at slot roles t = brought roles purse seen t sees apart slot mine in
      let can : ((taken_from seen t at ≡ 0) × (brought_to seen t at ≡ 0))
      ⊎ ((taken_from seen t at ≤ balance_seen seen at) × ((brought_to seen t at ≡ 0) ⊎ (balance_seen seen at + brought_to seen t at < 2 ^ 64)))
      = can-move at (balance_seen seen at) (taken_from seen t at) (brought_to seen t at) (moves at).one_way (moves at).possible in
      tied (taken_from seen t at) (brought_to seen t at) (balance_seen seen at) takes brings held (wallets slot mine) can
    where
      tied : (takes brings held : ℕ) → takes ≡ taken_at slot roles t → brings ≡ brought_at slot roles t
          → held ≡ (wallet_words (wallet_at slot purse).bytes).amount → IsWallet (wallet_at slot purse).bytes
          → ((takes ≡ 0) × (brings ≡ 0)) ⊎ ((takes ≤ held) × ((brings ≡ 0) ⊎ (held + brings < 2 ^ 64))) → Goal
      tied takes brings held is_takes is_brings is_held wallet (inl none) = inl (sym is_takes ∙ none.0, sym is_brings ∙ none.1)
      tied takes brings held is_takes is_brings is_held wallet (inr (covered, inl none)) =
          inr (wallet, subst (λ (n : ℕ). n ≤ (wallet_words (wallet_at slot purse).bytes).amount) is_takes (subst (λ (n : ℕ). takes ≤ n) is_held covered), inl (sym is_brings ∙ none))
      tied takes brings held is_takes is_brings is_held wallet (inr (covered, inr fits)) =
          inr (
            wallet,
            subst (λ (n : ℕ). n ≤ (wallet_words (wallet_at slot purse).bytes).amount) is_takes (subst (λ (n : ℕ). takes ≤ n) is_held covered),
            inr (subst (λ (n : ℕ). (wallet_words (wallet_at slot purse).bytes).amount + n < 2 ^ 64) is_brings (subst (λ (n : ℕ). n + brings < 2 ^ 64) is_held fits)),
          )

  not_named : names slot roles.coin ≡ false → names slot roles.pc ≡ false → names slot roles.referrer ≡ false → Goal
  not_named coin pc referrer =
      let coin_in : amount_for slot roles.coin t.coin_in ≡ 0 = amount-none slot roles.coin t.coin_in coin in
      let pc_in : amount_for slot roles.pc t.pc_in ≡ 0 = amount-none slot roles.pc t.pc_in pc in
      let coin_out : amount_for slot roles.coin t.coin_out ≡ 0 = amount-none slot roles.coin t.coin_out coin in
      let pc_out : amount_for slot roles.pc t.pc_out ≡ 0 = amount-none slot roles.pc t.pc_out pc in
      let referrer_out : amount_for slot roles.referrer t.referrer_out ≡ 0 = amount-none slot roles.referrer t.referrer_out referrer in
      inl (omega (arith, coin_in, pc_in), omega (arith, coin_out, pc_out, referrer_out))

  pub can-each : Goal
  can-each =
      ⊎_elim (λ (is : names slot roles.coin ≡ true). named (inl is))
      (λ (no_coin : names slot roles.coin ≡ false).
      ⊎_elim (λ (is : names slot roles.pc ≡ true). named (inr (inl is)))
      (λ (no_pc : names slot roles.pc ≡ false).
      ⊎_elim (λ (is : names slot roles.referrer ≡ true). named (inr (inr (inr is))))
      (λ (no_referrer : names slot roles.referrer ≡ false). not_named no_coin no_pc no_referrer)
      (cases_Bool (names slot roles.referrer)))
      (cases_Bool (names slot roles.pc)))
      (cases_Bool (names slot roles.coin))

-- ---- what a row sees

address-as : (role : Option Slot) (purse : Purse) → address_seen (seen_as role purse) ≡ address_as role purse
address-as None purse = refl
address-as (Some slot) purse = refl

agree : (one other : Option Slot) (roles : Roles) (purse : Purse) → own roles one → own roles other → AreApart roles purse
    → Agree (seen_as one purse) (seen_as other purse)
agree None other roles purse owns owns_other apart = tt
agree (Some slot) None roles purse owns owns_other apart = tt
agree (Some slot) (Some another) roles purse owns owns_other apart =
    λ (same : (wallet_at slot purse).address ≡ (wallet_at another purse).address).
    let alike : is_same (wallet_at slot purse).address (wallet_at another purse).address ≡ true
    = subst (λ (a : Address). is_same (wallet_at slot purse).address a ≡ true) same (is_same-refl (wallet_at slot purse).address) in
    let one : is_slot slot another ≡ true = sym (apart slot another (owns slot (is_slot-refl slot)) (owns_other another (is_slot-refl another))) ∙ alike in
    ap (λ (s : Slot). seen_in (wallet_at s purse)) (is_slot-true slot another one)

module _ (asked : Asked) (roles : Roles) (purse : Purse) (seen : Seen) (named : Names asked roles purse) (sees : Sees roles purse seen)
    (apart : AreApart roles purse) where
  by_coin : own roles roles.coin
  by_coin other is = inl is

  by_pc : own roles roles.pc
  by_pc other is = inr (inl is)

  by_discount : own roles roles.discount
  by_discount other is = inr (inr (inl is))

  by_referrer : own roles roles.referrer
  by_referrer other is = inr (inr (inr is))

  both : (one other : Option Slot) (first second : Option WalletSeen) → own roles one → own roles other → first ≡ seen_as one purse → second ≡ seen_as other purse
      → Agree first second
  both one other first second owns owns_other is_first is_second =
      subst (λ (f : Option WalletSeen). Agree f second) (sym is_first)
      (subst (λ (s : Option WalletSeen). Agree (seen_as one purse) s) (sym is_second) (agree one other roles purse owns owns_other apart))

  pub seen-by : RowSees asked seen
  seen-by = record {
    coin = ap address_seen sees.coin ∙ address-as roles.coin purse ∙ sym named.coin;
    pc = ap address_seen sees.pc ∙ address-as roles.pc purse ∙ sym named.pc;
    discount = ap address_seen sees.discount ∙ address-as roles.discount purse ∙ sym named.discount;
    referrer = ap address_seen sees.referrer ∙ address-as roles.referrer purse ∙ sym named.referrer;
    coin_pc = both roles.coin roles.pc seen.coin seen.pc by_coin by_pc sees.coin sees.pc;
    coin_discount = both roles.coin roles.discount seen.coin seen.discount by_coin by_discount sees.coin sees.discount;
    coin_referrer = both roles.coin roles.referrer seen.coin seen.referrer by_coin by_referrer sees.coin sees.referrer;
    pc_discount = both roles.pc roles.discount seen.pc seen.discount by_pc by_discount sees.pc sees.discount;
    pc_referrer = both roles.pc roles.referrer seen.pc seen.referrer by_pc by_referrer sees.pc sees.referrer;
    discount_referrer = both roles.discount roles.referrer seen.discount seen.referrer by_discount by_referrer sees.discount sees.referrer;
  }
