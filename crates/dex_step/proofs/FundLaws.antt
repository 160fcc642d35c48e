-- Settling, sweeping, disabling, opening and closing over a sound market's accounts: that each can be done as it was
-- decided, and that what it leaves is the step's.
use Rattle.std.proofs.Common.{◌≡◌, ℕ, ◌+◌, ◌-◌, ◌<◌, ◌≤◌, ◌^◌, false, List, Option, Some, None, length, ltb, map, get_or, refl, sym, ap, ◌∙◌, subst, arith, inl, inr}
use Rattle.std.proofs.lemmas.Bool.{or_parts, ltb-false}
use Rattle.std.proofs.lemmas.List.{length-map}
use Rattle.dex_types.specs.declared.account_bytes.OrdersAccount.{OrdersAccount}
use Rattle.dex_types.specs.declared.addresses.Address.{Address}
use Rattle.dex_types.specs.declared.replies.Reply.TheVariants.{Done, Settled, Swept}
use Rattle.dex_types.specs.declared.terms.Side.TheVariants.{Bid, Ask}
use Rattle.dex_types.specs.Accounts.{PlainAccount, PlainMarketAccounts, orders_account_of}
use Rattle.dex_types.specs.Reasons.{not_empty}
use Rattle.dex_types.specs.Requests.{open_party}
use Rattle.dex_types.specs.Settle.{after_settle}
use Rattle.dex_types.specs.Side.{Pc}
use Rattle.dex_types.specs.Soundness.{IsSound}
use Rattle.dex_types.specs.Steps.{Step, by_party, settled as step_settled}
use Rattle.dex_types.specs.Trader.{Account, Blank, Closed, Open, Trader, trader_at}
use Rattle.dex_types.specs.Upkeep.{all_funds, taken_slots}
use Rattle.dex_accounts.specs.Decoded.{AreSound, market_in}
use Rattle.dex_accounts.specs.Owners.{IsFirst, bytes_at, changed_at}
use Rattle.dex_accounts.specs.Parts.{AreOf, parts_of, with_account}
use Rattle.dex_accounts.proofs.OwnerLaws.{All-bytes_at, Stands, owned_here, stands-of}
use Rattle.dex_accounts.proofs.PartLaws.{StandsForTrader-open, trader_of-open}
use Rattle.dex_market.specs.StandsFor.{words_of}
use Rattle.dex_orders.specs.OrdersAccount.{IsBlank, IsEmptyAccount, IsOpened, IsOrders, account_of, market_of}
use Rattle.dex_orders.specs.StandsFor.{StandsForTrader, trader_of}
use Rattle.dex_ring.specs.PendingFills.{pending_fills_of}
use Rattle.dex_settle.specs.declared.plan.SettlePlan.{SettlePlan}
use Rattle.dex_settle.specs.PayingOut.{CanPay, PaysOut, settled, settlement_by, swept, with_disabled}
use Rattle.dex_settle.specs.SettleGiven.{SettleGiven, given, settle_given, with_settled}
use Rattle.dex_settle.proofs.ModelLaws.{close-put, disable-put, open-put, sweep-put}
use Rattle.dex_settle.proofs.PayLaws.{after-put, can-pay}
use Rattle.dex_settle.proofs.TraderLaws.{trader_of-closed}
use Rattle.dex_sound.proofs.OrderSoundReasons.{refused_where-none}
use Rattle.dex_slab.specs.Slab.{resting, room_in}
use Rattle.dex_slab.specs.StandsFor.{IsSideAccount}
use Rattle.dex_token.specs.TokenAccount.{wallet_words}
use Rattle.dex_step.specs.Acting.{HasStepped, HaveVaults, Holds, KeepNames, Leaves, coin_held, pc_held}
use Rattle.dex_step.specs.FundActs.{IsCloseDecided, IsDisableDecided, IsInitDecided, IsSettleDecided, IsSweepDecided, close_step, disable_step, init_step, settle_step, sweep_step}
use Rattle.dex_step.specs.FundBytes.{CanChange, CanClose, CanSettle, HasChanged, HasClosed, HasOpened, HasSettled}
use Rattle.dex_step.proofs.SteppedLaws.{leaves-stepped}
use Rattle.dex_step.proofs.OwnerParts.{OpenAt, names-changed, open-at, open-named}
use Rattle.dex_step.proofs.SoundParts.{coin-held, names-same, pc-fits, pc-held, same-parts, sound-are, sound-on, sound-parts}

-- ---- an owner's account among the others, which stands at this place

module _ (owner : Address) (accounts : List OrdersAccount) (place : ℕ) (default : OrdersAccount) (first : IsFirst owner (map orders_account_of accounts) place) where
  pub here-is : (account : List ℕ) → bytes_at owner (map orders_account_of accounts) ≡ Some account → account ≡ (get_or accounts place default).bytes.items
  here-is account found =
      let lt : place < length accounts = omega (arith, first.within, length-map accounts orders_account_of) in
      owned_here owner accounts place default account lt first found

  pub here-can : (Can : List ℕ → Type 0) → CanChange owner Can (map orders_account_of accounts) → Can (get_or accounts place default).bytes.items
  here-can Can can = subst Can (here-is can.account can.found) can.can

  pub here-changed : (Can : List ℕ → Type 0) (Has : List ℕ → List ℕ → Type 0) (after : List PlainAccount) (now : List ℕ) → CanChange owner Can (map orders_account_of accounts)
      → after ≡ changed_at owner (λ old. now) (map orders_account_of accounts) → Has (get_or accounts place default).bytes.items now
      → HasChanged owner Has (map orders_account_of accounts) after
  here-changed Can Has after now can changed has = record {
    was = can.account;
    now = now;
    found = can.found;
    changed = changed;
    has = subst (λ (b : List ℕ). Has b now) (sym (here-is can.account can.found)) has;
  }

pub changed-same : (owner : Address) (Has : List ℕ → List ℕ → Type 0) (before before' after after' : List PlainAccount) → HasChanged owner Has before after → before ≡ before' → after ≡ after'
    → HasChanged owner Has before' after'
changed-same owner Has before before' after after' done b a =
    subst (λ (x : List PlainAccount). HasChanged owner Has before' x) a (subst (λ (x : List PlainAccount). HasChanged owner Has x after) b done)

pub settled-same : (owner : Address) (plan : SettlePlan) (market market' now now' : List ℕ) (before before' after after' : List PlainAccount)
    → HasChanged owner (HasSettled plan market now) before after → market ≡ market' → now ≡ now' → before ≡ before' → after ≡ after'
    → HasChanged owner (HasSettled plan market' now') before' after'
settled-same owner plan market market' now now' before before' after after' done m n b a =
    changed-same owner (HasSettled plan market' now') before before' after after'
    (subst (λ (x : List ℕ). HasChanged owner (HasSettled plan market' x) before after) n
    (subst (λ (x : List ℕ). HasChanged owner (HasSettled plan x now) before after) m done)) b a

-- a vault holds so much less under other names too
pub holds-less : (was was' now now' : List ℕ) (amount : ℕ) → Holds was now ((wallet_words was).amount - amount) → was ≡ was' → now ≡ now'
    → Holds was' now' ((wallet_words was').amount - amount)
holds-less was was' now now' amount holds a b =
    subst (λ (x : List ℕ). Holds was' x ((wallet_words was').amount - amount)) b (subst (λ (x : List ℕ). Holds x now ((wallet_words x).amount - amount)) a holds)

-- an account that is not refused for what it holds is empty
empty-of : (account : Account) → not_empty account ≡ None → IsEmptyAccount account
empty-of account none =
    let tests : (ltb 0 (taken_slots account.slots) ≡ false) × (ltb 0 (all_funds account) ≡ false) = or_parts _ _ (refused_where-none _ _ none) in
    let slots : taken_slots account.slots ≤ 0 = ltb-false 0 (taken_slots account.slots) tests.0 in
    let funds : all_funds account ≤ 0 = ltb-false 0 (all_funds account) tests.1 in
    record { coin = omega (arith, funds); pc = omega (arith, funds); referrer = omega (arith, funds); slots = omega (arith, slots) }

-- one of two bytes of an account is the other, where both are found
one-found : (was bytes : List ℕ) → Some was ≡ Some bytes → was ≡ bytes
one-found was bytes e = cc

-- ---- settling

module _ (accounts : PlainMarketAccounts) (plan : SettlePlan) (owner : Address) (sound : AreSound accounts) (decided : IsSettleDecided plan owner (market_in accounts)) where
  own : OpenAt owner decided.account accounts
  own = open-at owner decided.account accounts sound decided.known

  out : PaysOut plan (account_of own.bytes)
  out = subst (PaysOut plan) (sym own.is) decided.out

  can_pay : CanPay plan (words_of (market_in accounts))
  can_pay = can-pay (market_in accounts) owner decided.account plan sound.sound decided.known decided.out

  -- it can be done
  pub settle-can : CanChange owner (CanSettle plan accounts.market) accounts.orders
  settle-can = record {
    account = own.bytes;
    found = own.has.found;
    can = record {
      accepted = sound.stands.terms.accepted;
      opened = own.has.accepted;
      parts = record { owner = owner; whole = parts_of accounts; sound = sound-parts accounts sound; has = own.has; is = refl };
      out = out;
    };
  }

  pub settle-coin : plan.coin ≤ coin_held accounts
  settle-coin = omega (arith, can_pay.coin, coin-held accounts sound)

  pub settle-pc : plan.pc + plan.referrer ≤ pc_held accounts
  settle-pc = omega (arith, can_pay.pc, can_pay.rebates, sound.sound.funds.solvent.vaults Pc, pc-held accounts sound)

  pub settle-fits : plan.pc + plan.referrer < 2 ^ 64
  settle-fits = omega (arith, settle-pc, pc-held accounts sound, pc-fits (market_in accounts) sound.sound)

  -- the step that it makes
  step_is : settle_step plan owner (market_in accounts)
      ≡ step_settled (market_in accounts) (record { address = owner; account = decided.account }) (settlement_by plan)
  step_is =
      ap (λ (t : Option Trader). by_party (λ party. step_settled (market_in accounts) party (settlement_by plan)) (market_in accounts) (open_party owner t)) decided.known

  sound_after : IsSound (after_settle owner decided.account (settlement_by plan) (market_in accounts))
  sound_after = subst (λ (s : Step). IsSound s.market) step_is decided.sound

  module _ (after : PlainMarketAccounts) (done : HasChanged owner (HasSettled plan accounts.market after.market) accounts.orders after.orders)
      (vaults : HaveVaults accounts after (coin_held accounts - plan.coin) (pc_held accounts - (plan.pc + plan.referrer)))
      (requests : after.requests ≡ accounts.requests) (events : after.events ≡ accounts.events) (bids : after.bids ≡ accounts.bids) (asks : after.asks ≡ accounts.asks) where
    left : SettleGiven
    left = given after.market done.now

    left_is : left ≡ settled plan (settle_given own.bytes (parts_of accounts))
    left_is = unfold left in
        done.has.does ∙ ap (λ (b : List ℕ). settled plan (given accounts.market b)) (one-found done.was own.bytes (sym done.found ∙ own.has.found))

    are : AreOf (with_settled owner left (parts_of accounts)) (after_settle owner decided.account (settlement_by plan) (market_in accounts))
    are =
        subst (λ (g : SettleGiven). AreOf (with_settled owner g (parts_of accounts)) (after_settle owner decided.account (settlement_by plan) (market_in accounts))) (sym left_is)
        (subst (λ (a : Account). AreOf (with_settled owner (settled plan (settle_given own.bytes (parts_of accounts))) (parts_of accounts)) (after_settle owner a (settlement_by plan) (market_in accounts)))
        own.is (after-put plan owner own.bytes (parts_of accounts) (market_in accounts) sound.sound (sound-are accounts sound) own.has out))

    parts_is : parts_of after ≡ with_settled owner left (parts_of accounts)
    parts_is = unfold left in same-parts _ _ _ _ _ _ _ _ _ _ _ _ _ _ _ _ refl requests events (ap (resting Bid) bids) (ap room_in bids) (ap (resting Ask) asks) (ap room_in asks) done.changed

    names : KeepNames accounts.address accounts.orders after.orders
    names = unfold left in
        subst (KeepNames accounts.address accounts.orders) (sym done.changed)
        (names-changed accounts.address owner own.bytes done.now accounts.orders own.has.found (λ opened.
        open-named (market_in accounts).listing.address owner own.bytes done.now accounts.orders _ own.has.found are.traders done.has.opened
        ∙ sym sound.stands.address))

    pub settle-stepped : HasStepped accounts after (Settled plan.coin plan.pc plan.referrer) (pending_fills_of (market_in accounts).events) (settle_step plan owner (market_in accounts))
    settle-stepped =
        let m = market_in accounts in
        let reply = Settled plan.coin plan.pc plan.referrer in
        subst (HasStepped accounts after reply (pending_fills_of m.events)) (sym step_is)
        (leaves-stepped accounts after (with_settled owner left (parts_of accounts)) _ _ reply (pending_fills_of m.events) _ sound sound_after
        (record {
          vaults = vaults;
          parts_are = parts_is;
          bids = subst (λ (b : List ℕ). IsSideAccount Bid b) (sym bids) (sound-on accounts sound Bid);
          asks = subst (λ (b : List ℕ). IsSideAccount Ask b) (sym asks) (sound-on accounts sound Ask);
          names = names;
        })
        are refl
        (omega (arith, coin-held accounts sound))
        (omega (arith, pc-held accounts sound))
        refl refl)

-- ---- sweeping and disabling: the market account alone is written

module _ (accounts after : PlainMarketAccounts) (sound : AreSound accounts) (requests : after.requests ≡ accounts.requests) (events : after.events ≡ accounts.events)
    (bids : after.bids ≡ accounts.bids) (asks : after.asks ≡ accounts.asks) where
  bids_kept : IsSideAccount Bid after.bids
  bids_kept = subst (λ (b : List ℕ). IsSideAccount Bid b) (sym bids) (sound-on accounts sound Bid)

  asks_kept : IsSideAccount Ask after.asks
  asks_kept = subst (λ (b : List ℕ). IsSideAccount Ask b) (sym asks) (sound-on accounts sound Ask)

  module _ (market : List ℕ) (written : after.market ≡ market) (orders : after.orders ≡ accounts.orders) where
    market_parts : parts_of after ≡ record (parts_of accounts) { market = market }
    market_parts = same-parts _ _ _ _ _ _ _ _ _ _ _ _ _ _ _ _ written requests events (ap (resting Bid) bids) (ap room_in bids) (ap (resting Ask) asks) (ap room_in asks) orders

    market_left : (coin pc : ℕ) → HaveVaults accounts after coin pc → Leaves accounts after (record (parts_of accounts) { market = market }) coin pc
    market_left coin pc vaults = record {
      vaults = vaults;
      parts_are = market_parts;
      bids = bids_kept;
      asks = asks_kept;
      names = names-same accounts.address accounts.orders after.orders orders;
    }

  pub sweep-stepped : (fees : ℕ) → IsSweepDecided fees (market_in accounts) → after.market ≡ swept accounts.market → after.orders ≡ accounts.orders
      → HaveVaults accounts after (coin_held accounts) (pc_held accounts - fees)
      → HasStepped accounts after (Swept fees) (pending_fills_of (market_in accounts).events) (sweep_step (market_in accounts))
  sweep-stepped fees decided written orders vaults =
      let m = market_in accounts in
      leaves-stepped accounts after _ _ _ (Swept fees) (pending_fills_of m.events) (sweep_step m) sound decided.sound
      (market_left (swept accounts.market) written orders _ _ vaults)
      (sweep-put (parts_of accounts) m (sound-are accounts sound)) refl
      (omega (arith, coin-held accounts sound))
      (omega (arith, pc-held accounts sound, decided.fees_are))
      (ap (λ (x : ℕ). Swept x) decided.fees_are)
      refl

  pub disable-stepped : IsDisableDecided (market_in accounts) → after.market ≡ with_disabled accounts.market → after.orders ≡ accounts.orders
      → HaveVaults accounts after (coin_held accounts) (pc_held accounts)
      → HasStepped accounts after Done (pending_fills_of (market_in accounts).events) (disable_step (market_in accounts))
  disable-stepped decided written orders vaults =
      let m = market_in accounts in
      leaves-stepped accounts after _ _ _ Done (pending_fills_of m.events) (disable_step m) sound decided.sound
      (market_left (with_disabled accounts.market) written orders _ _ vaults)
      (disable-put (parts_of accounts) m (sound-are accounts sound)) refl
      (sym (coin-held accounts sound))
      (sym (pc-held accounts sound))
      refl
      refl

  -- ---- opening and closing: one account alone is written

  module _ (owner : Address) (now : List ℕ) (market : after.market ≡ accounts.market) (changed : after.orders ≡ changed_at owner (λ old. now) accounts.orders)
      (vaults : HaveVaults accounts after (coin_held accounts) (pc_held accounts)) where
    account_parts : parts_of after ≡ with_account owner now (parts_of accounts)
    account_parts = same-parts _ _ _ _ _ _ _ _ _ _ _ _ _ _ _ _ market requests events (ap (resting Bid) bids) (ap room_in bids) (ap (resting Ask) asks) (ap room_in asks) changed

    account_left : (was : List ℕ) → bytes_at owner accounts.orders ≡ Some was → (IsOpened now → market_of now ≡ accounts.address)
        → Leaves accounts after (with_account owner now (parts_of accounts)) (coin_held accounts) (pc_held accounts)
    account_left was found named = record {
      vaults = vaults;
      parts_are = account_parts;
      bids = bids_kept;
      asks = asks_kept;
      names = subst (KeepNames accounts.address accounts.orders) (sym changed) (names-changed accounts.address owner was now accounts.orders found named);
    }

  pub init-stepped : (owner signer : Address) → IsInitDecided owner signer (market_in accounts) → HasChanged owner (HasOpened accounts.address signer) accounts.orders after.orders
      → after.market ≡ accounts.market → HaveVaults accounts after (coin_held accounts) (pc_held accounts)
      → HasStepped accounts after Done (pending_fills_of (market_in accounts).events) (init_step owner signer (market_in accounts))
  init-stepped owner signer decided done market vaults =
      let m = market_in accounts in
      leaves-stepped accounts after _ _ _ Done (pending_fills_of m.events) (init_step owner signer m) sound decided.sound
      (account_left owner done.now market done.changed vaults done.was done.found (λ opened. done.has.market_is))
      (open-put (parts_of accounts) m (sound-are accounts sound) owner signer done.was done.now done.found done.has.opened
      (done.has.market_is ∙ sound.stands.address) done.has.words)
      refl
      (sym (coin-held accounts sound))
      (sym (pc-held accounts sound))
      refl
      refl

  pub close-stepped : (owner : Address) (decided : IsCloseDecided owner (market_in accounts)) → HasChanged owner HasClosed accounts.orders after.orders
      → after.market ≡ accounts.market → HaveVaults accounts after (coin_held accounts) (pc_held accounts)
      → HasStepped accounts after Done (pending_fills_of (market_in accounts).events) (close_step owner (market_in accounts))
  close-stepped owner decided done market vaults =
      let m = market_in accounts in
      let own : OpenAt owner decided.account accounts = open-at owner decided.account accounts sound decided.known in
      let same : done.was ≡ own.bytes = one-found done.was own.bytes (sym done.found ∙ own.has.found) in
      let on : market_of own.bytes ≡ m.listing.address = (StandsForTrader-open (parts_of accounts) m (sound-are accounts sound) owner own.bytes own.has).on_market own.has.accepted in
      leaves-stepped accounts after _ _ _ Done (pending_fills_of m.events) (close_step owner m) sound decided.sound
      (account_left owner done.now market done.changed vaults done.was done.found (λ opened. done.has.market_is ∙ ap market_of same ∙ on ∙ sym sound.stands.address))
      (close-put (parts_of accounts) m (sound-are accounts sound) owner done.was done.now done.found done.has.closed)
      refl
      (sym (coin-held accounts sound))
      (sym (pc-held accounts sound))
      refl
      refl

-- ---- what can be done, as it was decided

pub sweep-held : (fees : ℕ) (accounts : PlainMarketAccounts) → AreSound accounts → IsSweepDecided fees (market_in accounts) → fees ≤ pc_held accounts
sweep-held fees accounts sound decided = omega (arith, decided.fees_are, pc-held accounts sound, sound.sound.funds.solvent.vaults Pc)

-- accepted bytes that stand for a blank trader are blank
blank-of : (bytes : List ℕ) → IsOrders bytes → trader_of bytes ≡ Blank → IsBlank bytes
blank-of bytes (inl blank) stands = blank
blank-of bytes (inr (inl opened)) stands =
    let e : Open (account_of bytes) ≡ Blank = sym (trader_of-open bytes opened) ∙ stands in
    absurd (cc)
blank-of bytes (inr (inr closed)) stands =
    let e : Closed ≡ Blank = sym (trader_of-closed bytes closed) ∙ stands in
    absurd (cc)

pub init-can : (owner signer : Address) (accounts : PlainMarketAccounts) → AreSound accounts → IsInitDecided owner signer (market_in accounts) → CanChange owner IsBlank accounts.orders
init-can owner signer accounts sound decided =
    let at : Stands owner Blank accounts.orders = stands-of owner Blank accounts.orders (ap (trader_at owner) sound.stands.traders.stand ∙ decided.blank) in
    let market : Address = (market_in accounts).listing.address in
    let on : StandsForTrader at.bytes market (trader_of at.bytes) =
    All-bytes_at (λ (b : List ℕ). StandsForTrader b market (trader_of b)) owner accounts.orders at.bytes sound.stands.traders.each at.found in
    record { account = at.bytes; found = at.found; can = blank-of at.bytes on.accepted at.stands }

pub close-can : (owner : Address) (accounts : PlainMarketAccounts) → AreSound accounts → IsCloseDecided owner (market_in accounts) → CanChange owner CanClose accounts.orders
close-can owner accounts sound decided =
    let own : OpenAt owner decided.account accounts = open-at owner decided.account accounts sound decided.known in
    record {
      account = own.bytes;
      found = own.has.found;
      can = record { opened = own.has.accepted; empty = subst IsEmptyAccount (sym own.is) (empty-of decided.account decided.empty) };
    }
