-- What a payment leaves of an account: by its funds and its slot, and in the bytes.
use Rattle.std.proofs.Common.{◌≡◌, ℕ, ◌+◌, ◌-◌, ◌≤◌, ◌<◌, ◌^◌, true, false, cond, eqb, ◌&&◌, List, set, get_or, Option, None, IsSome, refl, sym, ap, ◌∙◌, subst, arith, inl, inr, ⊎_elim}
use Rattle.std.proofs.lemmas.Bool.{cases_Bool, cases_lt, cond_both, cond-true, cond-false}
use Rattle.dex_orders.specs.declared.amounts.Funds.{Funds}
use Rattle.dex_orders.specs.OrdersAccount.{IsOpen, account_of, funded, funds_of, market_of, removed, slots_of, with_funds}
use Rattle.dex_orders.proofs.SlotLaw.{get_or-slots_of_past}
use Rattle.dex_orders.proofs.WriteLaws.{IsOpen-funded, IsOpen-removed, account_of-funded, account_of-removed, market_of-funded, market_of-removed}
use Rattle.dex_sound.specs.Fields.{AccountFits}
use Rattle.dex_types.specs.declared.addresses.Address.{Address}
use Rattle.dex_types.specs.declared.terms.Side.TheVariants.{Bid, Ask}
use Rattle.dex_types.specs.Owed.{leaving_as}
use Rattle.dex_types.specs.Payment.{paid_as}
use Rattle.dex_types.specs.QueuedEvent.{EventKind, MakerFill, TakerFill, PlainOut, ReleasingOut, QueuedEvent}
use Rattle.dex_types.specs.Side.{Coin, Pc}
use Rattle.dex_types.specs.Soundness.{is_final, is_out_kind}
use Rattle.dex_types.specs.Trader.{Account, Holding}
use Rattle.dex_crank.specs.Funds.{FitsFunds, paid_funds}
use Rattle.dex_crank.specs.PaidBytes.{CanTake, paid_in}

-- ---- an account of known parts

module _ (person : Address) (coin_free coin_total pc_free pc_total referrer : ℕ) (slots : List (Option Holding)) (event : QueuedEvent) where
  abbrev account : Account
  account = record {
    person = person;
    coin = record { free = coin_free; total = coin_total };
    pc = record { free = pc_free; total = pc_total };
    referrer = referrer;
    slots = slots;
  }

  -- the account with the funds that the payment leaves, and with its slot freed
  abbrev funded_as : EventKind → Account
  funded_as kind = with_funds (paid_funds kind event (funds_of account)) account

  abbrev freed_as : EventKind → Account
  freed_as kind = record (funded_as kind) { slots = set slots event.slot None }

  pub paid_as-parts : (kind : EventKind) → paid_as kind event account ≡ cond (is_out_kind kind && eqb event.paid 0) (freed_as kind) (funded_as kind)
  paid_as-parts (MakerFill Bid) = refl
  paid_as-parts (MakerFill Ask) =
      let made : ℕ → Account = λ n. record account { coin = record { free = n; total = coin_total - event.paid }; pc = record { free = pc_free + event.released; total = pc_total + event.released } } in
      let none : coin_free + 0 ≡ coin_free = omega arith in
      ap made none
  paid_as-parts (TakerFill side) = refl
  paid_as-parts (PlainOut side) = refl
  paid_as-parts (ReleasingOut Bid) = refl
  paid_as-parts (ReleasingOut Ask) = refl

  pub funds_of-paid : (kind : EventKind) → funds_of (paid_as kind event account) ≡ paid_funds kind event (funds_of account)
  funds_of-paid (MakerFill Bid) = refl
  funds_of-paid (MakerFill Ask) =
      let made : ℕ → Funds = λ n. record (paid_funds (MakerFill Ask) event (funds_of account)) { coin_free = n } in
      let none : coin_free + 0 ≡ coin_free = omega arith in
      ap made none
  funds_of-paid (TakerFill side) = refl
  funds_of-paid (PlainOut side) =
      cond_both (eqb event.paid 0) (freed_as (PlainOut side)) (funded_as (PlainOut side)) (λ (a : Account). funds_of a ≡ funds_of account) (λ whole. refl) (λ part. refl)
  funds_of-paid (ReleasingOut Bid) =
      cond_both (eqb event.paid 0) (freed_as (ReleasingOut Bid)) (funded_as (ReleasingOut Bid))
      (λ (a : Account). funds_of a ≡ paid_funds (ReleasingOut Bid) event (funds_of account)) (λ whole. refl) (λ part. refl)
  funds_of-paid (ReleasingOut Ask) =
      cond_both (eqb event.paid 0) (freed_as (ReleasingOut Ask)) (funded_as (ReleasingOut Ask))
      (λ (a : Account). funds_of a ≡ paid_funds (ReleasingOut Ask) event (funds_of account)) (λ whole. refl) (λ part. refl)

  pub FitsFunds-from : (kind : EventKind) → AccountFits (paid_as kind event account) → leaving_as Coin kind event ≤ coin_total → leaving_as Pc kind event ≤ pc_total
      → FitsFunds kind event (funds_of account)
  FitsFunds-from kind fits coin pc =
      let same : funds_of (paid_as kind event account) ≡ paid_funds kind event (funds_of account) = funds_of-paid kind in
      record {
        coin_leaving = coin;
        pc_leaving = pc;
        fit = record {
          coin = subst (λ (f : Funds). f.coin_free ≤ f.coin_total) same (fits.free Coin);
          pc = subst (λ (f : Funds). f.pc_free ≤ f.pc_total) same (fits.free Pc);
          coin_total = subst (λ (f : Funds). f.coin_total < 2 ^ 64) same (fits.total Coin);
          pc_total = subst (λ (f : Funds). f.pc_total < 2 ^ 64) same (fits.total Pc);
          referrer = subst (λ (f : Funds). f.referrer < 2 ^ 64) same fits.referrer;
        };
      }

-- ---- the account's bytes

-- the funds after the payment
abbrev pub funds_after : QueuedEvent → List ℕ → Funds
funds_after event bytes = paid_funds event.kind event (funds_of (account_of bytes))

-- the account's words after the payment, by the test whether it is the last of its order
words-paid : (event : QueuedEvent) (bytes : List ℕ) → paid_as event.kind event (account_of bytes)
    ≡ cond (is_final event)
    (record (with_funds (funds_after event bytes) (account_of bytes)) { slots = set (account_of bytes).slots event.slot None })
    (with_funds (funds_after event bytes) (account_of bytes))
words-paid event bytes =
    let a = account_of bytes in
    paid_as-parts a.person a.coin.free a.coin.total a.pc.free a.pc.total a.referrer a.slots event event.kind

-- the last payment of an order frees the slot too, and another one pays the funds alone
pub paid_in-final : (event : QueuedEvent) (old : List ℕ) → is_final event ≡ true → removed (funded old (funds_after event old)) event.slot ≡ paid_in event old
unfolding paid_in
paid_in-final event old final = sym (cond-true (is_final event) _ _ final)

pub paid_in-more : (event : QueuedEvent) (old : List ℕ) → is_final event ≡ false → funded old (funds_after event old) ≡ paid_in event old
unfolding paid_in
paid_in-more event old more = sym (cond-false (is_final event) _ _ more)

-- the account that was paid stands for the trader that was paid, on the same market
pub record IsPaid (event : QueuedEvent) (bytes : List ℕ) : Type 0 where
  pub accepted : IsOpen (paid_in event bytes)
  pub words : account_of (paid_in event bytes) ≡ paid_as event.kind event (account_of bytes)
  pub market : market_of (paid_in event bytes) ≡ market_of bytes

module _ (event : QueuedEvent) (old : List ℕ) (can : CanTake event old) where
  abbrev paid : List ℕ
  paid = funded old (funds_after event old)

  pub paid-open : IsOpen paid
  paid-open = IsOpen-funded old (funds_after event old) can.accepted can.fits.fit

  paid-words : account_of paid ≡ with_funds (funds_after event old) (account_of old)
  paid-words = account_of-funded old (funds_after event old) can.accepted can.fits.fit

  paid-market : market_of paid ≡ market_of old
  paid-market = market_of-funded old (funds_after event old) can.accepted can.fits.fit

  slot-lt : event.slot < 128
  slot-lt =
      elim (cases_lt event.slot 128) [
        | inl lt ↦ lt
        | inr past ↦ absurd (let none : get_or (slots_of old) event.slot None ≡ None = get_or-slots_of_past old event.slot past in cc can.held)
      ]

  pub paid-held : IsSome (get_or (account_of paid).slots event.slot None)
  paid-held = subst (λ (a : Account). IsSome (get_or a.slots event.slot None)) (sym paid-words) can.held

  final-paid : is_final event ≡ true → IsPaid event old
  final-paid final =
      let made : removed paid event.slot ≡ paid_in event old = paid_in-final event old final in
      record {
        accepted = subst IsOpen made (IsOpen-removed paid event.slot paid-open slot-lt);
        words =
            ap account_of (sym made) ∙ account_of-removed paid event.slot paid-open slot-lt
            ∙ ap (λ (a : Account). record a { slots = set a.slots event.slot None }) paid-words
            ∙ sym (words-paid event old ∙ cond-true (is_final event) _ _ final);
        market = ap market_of (sym made) ∙ market_of-removed paid event.slot paid-open slot-lt ∙ paid-market;
      }

  more-paid : is_final event ≡ false → IsPaid event old
  more-paid more =
      let made : paid ≡ paid_in event old = paid_in-more event old more in
      record {
        accepted = subst IsOpen made paid-open;
        words = ap account_of (sym made) ∙ paid-words ∙ sym (words-paid event old ∙ cond-false (is_final event) _ _ more);
        market = ap market_of (sym made) ∙ paid-market;
      }

  -- an account that can be paid is
  pub IsPaid-of : IsPaid event old
  IsPaid-of = ⊎_elim final-paid more-paid (cases_Bool (is_final event))
