-- one step along the slots of an account
use Rattle.std.proofs.Common.{ℕ, ◌+◌, ◌<◌, ◌≤◌, ◌≡◌, Bool, List, [], ◌∷◌, ◌++◌, Option, Some, None, length, drop, get_or, refl, sym, ap, ◌∙◌, arith}
use Rattle.std.proofs.lemmas.List.{at_drop_more}
use Rattle.dex_types.specs.declared.orders.Order.{Order}
use Rattle.dex_types.specs.Cancel.{RestingOrder, at_most_one}
use Rattle.dex_types.specs.Trader.{Holding}
use Rattle.dex_cancel.specs.Finding.{older_of}
use Rattle.dex_cancel.proofs.WalkSteps.{older_of-older}
use Rattle.dex_cancel_slots.specs.Slots.{named_by_slot, oldest_of, orders_in}

-- older_of is associative, and none is older than none
older_of-older_of : (a b c : Option RestingOrder) → older_of (older_of a b) c ≡ older_of a (older_of b c)
older_of-older_of None b c = refl
older_of-older_of (Some a) None c = refl
older_of-older_of (Some a) (Some b) c = older_of-older (Some a) b c

pub older_of-none : (a : Option RestingOrder) → older_of a None ≡ a
older_of-none None = refl
older_of-none (Some a) = refl

oldest_of-first : (first : Option RestingOrder) (later : List RestingOrder) → oldest_of (at_most_one first ++ later) ≡ older_of first (oldest_of later)
oldest_of-first None later = refl
oldest_of-first (Some first) later = refl

pub length-at_most_one : (one : Option RestingOrder) → length (at_most_one one) ≤ 1
length-at_most_one None = omega arith
length-at_most_one (Some one) = omega arith

length-both : (first later : List RestingOrder) → length (first ++ later) ≡ length first + length later
length-both [] later = omega arith
length-both (one ∷ first) later = omega (arith, length-both first later)

module _ (test : Holding → Bool) (bids asks : List Order) (slots : List (Option Holding)) (slot : ℕ) (lt : slot < length slots) where
  -- the oldest of one slot and the later ones
  pub oldest-step : (before found after : Option RestingOrder) → at_most_one found ≡ named_by_slot test bids asks (get_or slots slot None)
      → after ≡ older_of before found
      → older_of after (oldest_of (orders_in test bids asks (drop (slot + 1) slots))) ≡ older_of before (oldest_of (orders_in test bids asks (drop slot slots)))
  oldest-step before found after is now =
      let later = orders_in test bids asks (drop (slot + 1) slots) in
      ap (λ o. older_of o (oldest_of later)) now
      ∙ older_of-older_of before found (oldest_of later)
      ∙ ap (older_of before) (sym (oldest_of-first found later) ∙ ap (λ o. oldest_of (o ++ later)) is
      ∙ sym (at_drop_more (λ s. oldest_of (orders_in test bids asks s)) slots slot None lt))

  -- how many one slot and the later ones name
  pub count-step : length (orders_in test bids asks (drop slot slots))
      ≡ length (named_by_slot test bids asks (get_or slots slot None)) + length (orders_in test bids asks (drop (slot + 1) slots))
  count-step =
      at_drop_more (λ s. length (orders_in test bids asks s)) slots slot None lt
      ∙ length-both (named_by_slot test bids asks (get_or slots slot None)) (orders_in test bids asks (drop (slot + 1) slots))
