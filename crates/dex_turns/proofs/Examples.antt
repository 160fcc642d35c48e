-- Worked examples of items, of takes that are held back, of what lanes make, and of the order of turns.
use Rattle.std.proofs.Common.{◌≡◌, ℕ, ◌<◌, true, false, eqb, List, [], ◌∷◌, None, Some, Ok, refl, sym, ap, ◌∙◌, arith}
use Rattle.std.proofs.lemmas.Bool.{cond-false, false≢true}
use Rattle.dex_types.specs.declared.addresses.Address.{Address}
use Rattle.dex_types.specs.declared.instructions.Ix.TheVariants.{MatchOrders, SendTake}
use Rattle.dex_types.specs.declared.movements.Movement.{Movement}
use Rattle.dex_types.specs.declared.refusals.Refusal.{Refusal}
use Rattle.dex_types.specs.declared.replies.Reply.{Reply}
use Rattle.dex_types.specs.declared.replies.Reply.TheVariants.{Done, Refused, Took}
use Rattle.dex_types.specs.declared.terms.Side.TheVariants.{Bid}
use Rattle.dex_types.specs.Addresses.{is_same}
use Rattle.dex_types.specs.Market.{Market}
use Rattle.dex_types.specs.Rows.{PlainRow}
use Rattle.dex_types.specs.Why.{why}
use Rattle.dex_history.specs.Journal.{Call, Stands, acted_of, is_held, is_refused}
use Rattle.dex_world.specs.Fold.{act, fold, names}
use Rattle.dex_world.specs.Groups.{alone}
use Rattle.dex_world.specs.Items.{Item, ShareNothing, act_item, chosen, doing, fold_items, idle_row, items_of, items_of_lane, pair_of, rows_of_lane, why_in}
use Rattle.dex_world.specs.World.{World}
use Rattle.dex_script_types.specs.PlainScript.{PlainScript}
use Rattle.dex_stamps.specs.Stamped.{Stamped}
use Rattle.dex_journals.specs.Lanes.{AreAllOrNone, IsBefore, IsLane, number_in}
use Rattle.dex_journals.specs.StampedCalls.{calls_on, entry_made}
use Rattle.dex_turns.specs.Submitted.{AreLegReplies}
use Rattle.dex_world.proofs.Common.{All-head, WalletEntry}
use Rattle.dex_gate.specs.GateView.{GateView}
use Rattle.dex_gate.specs.declared.stage.Stage.TheVariants.{Idle, Out}
use Rattle.dex_journals.specs.Journals.{MarketOrigin, WalletOrigin}
use Rattle.dex_turns.specs.Seats.{MarketPass, WalletPass}
use Rattle.dex_types.specs.Wallets.{is_lower}
use Rattle.dex_turns.specs.Turns.{AreRising, HoldsTurn, IsAboveMarkets, IsAboveWallets, leg_markets, leg_wallets}

-- ---- items

-- two rows of one number are one item, in their order, and the row after them is another
abbrev numbered : ℕ → PlainRow → PlainRow
numbered number row = record row { number = number }

a-swap-is-one-item : (one two other : PlainRow)
    → items_of (numbered 3 one ∷ numbered 3 two ∷ numbered 4 other ∷ []) ≡ pair_of (numbered 3 one) (numbered 3 two) ∷ alone (numbered 4 other) ∷ []
a-swap-is-one-item one two other = refl

abbrev of_lane : ℕ → PlainRow → PlainRow
of_lane lane row = record row { lane = lane }

rows-of-one-lane : (one other : PlainRow) → rows_of_lane 1 (of_lane 1 one ∷ of_lane 2 other ∷ []) ≡ of_lane 1 one ∷ []
rows-of-one-lane one other = refl

items-of-one-lane : (one other : PlainRow) → items_of_lane 1 (alone (of_lane 2 other) ∷ alone (of_lane 1 one) ∷ []) ≡ alone (of_lane 1 one) ∷ []
items-of-one-lane one other = refl

-- rows of one market, or with one wallet, are no two legs
one-market : (one other : PlainRow) → is_same one.market other.market ≡ true → ShareNothing one other → ⊥
one-market one other same share = false≢true (sym share.markets ∙ same)

one-wallet : (one other : PlainRow) (wallet : Address) → names one wallet ≡ true → names other wallet ≡ true → ShareNothing one other → ⊥
one-wallet one other wallet first second share = false≢true (sym (share.wallets wallet second) ∙ first)

-- two legs act where neither would be refused; where one would, the other has nothing to do
module _ (one two : PlainRow) (world : World) where
  abbrev pub both : List PlainRow
  both = one ∷ two ∷ []

  neither-refused : why_in world one ≡ None → why_in world two ≡ None → chosen world both ≡ one ∷ two ∷ []
  neither-refused first second = rw (first, second) refl

  first-refused : (refusal : Refusal) → why_in world one ≡ Some refusal → why_in world two ≡ None → chosen world both ≡ one ∷ idle_row two ∷ []
  first-refused refusal first second = rw (first, second) refl

  second-refused : (refusal : Refusal) → why_in world one ≡ None → why_in world two ≡ Some refusal → chosen world both ≡ idle_row one ∷ two ∷ []
  second-refused refusal first second = rw (first, second) refl

  both-refused : (refusal other : Refusal) → why_in world one ≡ Some refusal → why_in world two ≡ Some other → chosen world both ≡ one ∷ two ∷ []
  both-refused refusal other first second = rw (first, second) refl

  -- both are looked at before the first acts
  seen-before : (refusal : Refusal) → why_in world one ≡ None → why_in world two ≡ Some refusal
      → act_item (pair_of one two) world ≡ act two (act (idle_row one) world)
  seen-before refusal first second =
      ap (λ (rows : List PlainRow). fold rows world) (second-refused refusal first second)

items-in-their-order : (one two : Item) (world : World) → fold_items (one ∷ two ∷ []) world ≡ act_item two (act_item one world)
items-in-their-order one two world = refl

waits : (row : PlainRow) → doing true row ≡ idle_row row
waits row = refl

waits-not : (row : PlainRow) → (doing false row).bytes ≡ row.bytes
waits-not row = refl

-- ---- takes that were held back

-- the call of a take with this reply
abbrev taking : Call → Reply → Call
taking call reply = record call {
  asked = record call.asked { request = record call.asked.request { instruction = Ok (SendTake Bid 1 2 3 4 5 6) } };
  entry = record call.entry { reply = reply };
}

held-when-done : (call : Call) → is_held (taking call Done) ≡ true
held-when-done call = refl

not-when-filled : (call : Call) → is_held (taking call (Took 1 2 3)) ≡ false
not-when-filled call = refl

not-when-refused : (call : Call) (refusal : Refusal) → is_held (taking call (Refused refusal)) ≡ false
not-when-refused call refusal = refl

-- what is answered so, and is no take, was not held back
abbrev matching : Call → Call
matching call = record call {
  asked = record call.asked { request = record call.asked.request { instruction = Ok (MatchOrders 5) } };
  entry = record call.entry { reply = Done };
}

not-when-no-take : (call : Call) → is_held (matching call) ≡ false
not-when-no-take call = refl

-- what was held back asks its market for nothing, and all else for what it asks
held-does-nothing : (call : Call) → (acted_of (taking call Done)).request.instruction ≡ Ok (MatchOrders 0)
held-does-nothing call = refl

else-acts : (call : Call) → acted_of (taking call (Took 1 2 3)) ≡ (taking call (Took 1 2 3)).asked
else-acts call = refl

-- a take that would be refused is refused, and not held back
refused-not-held : (call : Call) (m : Market) (refusal : Refusal) → why call.asked.request call.seen m ≡ Some refusal → is_held call ≡ true → Stands call m → ⊥
refused-not-held call m refusal reason held stands =
    let none : None ≡ Some refusal = sym (stands.held held) ∙ reason in
    absurd (cc)

-- ---- what lanes make

-- calls of one number have one stamp, and of two numbers the later has the higher
two-stamps : (one other : Stamped Call) → eqb (number_in one) (number_in other) ≡ true → one.stamp < other.stamp → IsBefore one other → ⊥
two-stamps one other same less before = let stamp = before.together same in omega (arith, less, stamp)

one-stamp : (one other : Stamped Call) → eqb (number_in one) (number_in other) ≡ false → one.stamp ≡ other.stamp → IsBefore one other → ⊥
one-stamp one other differ stamp before = let less = before.later differ in omega (arith, less, stamp)

-- of two legs neither may act where the other was refused, and what is refused is not held back
module _ (one other : Stamped Call) (all : AreAllOrNone (record { first = one; others = other ∷ [] })) where
  first-acts-not : is_refused one.item ≡ false → is_refused other.item ≡ true → is_held one.item ≡ true
  first-acts-not spared refused = all 0 one (omega arith) ∙ rw (spared, refused) refl

  second-acts-not : is_refused one.item ≡ true → is_refused other.item ≡ false → is_held other.item ≡ true
  second-acts-not refused spared = all 1 other (omega arith) ∙ rw (spared, refused) refl

  neither-held : is_refused one.item ≡ false → is_refused other.item ≡ false → is_held one.item ≡ false
  neither-held first second = all 0 one (omega arith) ∙ rw (first, second) refl

  refused-is-not-held : is_refused one.item ≡ true → is_refused other.item ≡ true → is_held other.item ≡ false
  refused-is-not-held first second = all 1 other (omega arith) ∙ rw (first, second) refl

-- a lane makes its own rows alone
not-of-another-lane : (script : PlainScript) (row : PlainRow) (call : Stamped Call) → IsLane (record script { rows = of_lane 2 row ∷ [] }) 1 (call ∷ []) → ⊥
not-of-another-lane script row call is = let asked = is.asks in absurd (cc)

-- a call on one market is none on another
not-on-another : (call : Stamped Call) (address : Address) → is_same call.item.asked.market address ≡ false → calls_on address (call ∷ []) ≡ []
not-on-another call address apart = cond-false _ _ _ apart

entry-has-the-stamp : (call : Stamped Call) (move : Movement) → (entry_made call move).stamp ≡ call.stamp
entry-has-the-stamp call move = refl

-- ---- two legs

abbrev address : ℕ → Address
address byte = record { 0 = byte ∷ [] }

abbrev naming : ℕ → ℕ → ℕ → PlainRow → PlainRow
naming market coin pc row = record row { market = address market; coin = Some (address coin); pc = Some (address pc) }

-- their turns are taken by rising address, whichever stands first
markets-rise : (one two : PlainRow) → leg_markets (naming 8 4 1 one) (naming 7 3 2 two) ≡ address 7 ∷ address 8 ∷ []
markets-rise one two = refl

wallets-rise : (one two : PlainRow) → leg_wallets (naming 8 4 1 one) (naming 7 3 2 two) ≡ address 1 ∷ address 2 ∷ address 3 ∷ address 4 ∷ []
wallets-rise one two = refl

-- one leg alone does not fill, and none is held back beside one that filled
one-leg-alone : (lots pc fee : ℕ) (refusal : Refusal) → AreLegReplies (Took lots pc fee) (Refused refusal) → ⊥
one-leg-alone lots pc fee refusal replies = let both = replies.both in absurd (cc)

held-beside-filled : (lots pc fee : ℕ) → AreLegReplies (Took lots pc fee) Done → ⊥
held-beside-filled lots pc fee replies = let refused = replies.other_done refl in absurd (cc)

both-held : AreLegReplies Done Done → ⊥
both-held replies = let refused = replies.done refl in absurd (cc)

-- ---- the order of turns

-- a lane that holds the turn of a market may not take that of a lower one
higher-market-first : (lower higher : GateView (Stamped Call) MarketOrigin) (pass : MarketPass) (calls : List (Stamped Call)) → lower.origin.start.address ≡ address 1
    → higher.origin.start.address ≡ address 2 → pass.gate ≡ Some higher → pass.stage ≡ Out calls → IsAboveMarkets lower (pass ∷ []) → ⊥
higher-market-first lower higher pass calls low high at out above =
    let holds : HoldsTurn pass = λ idle. let both : Out calls ≡ Idle = sym out ∙ idle in absurd (cc) in
    false≢true (ap (λ (a : Address). is_lower a (address 1)) (sym high) ∙ ap (is_lower higher.origin.start.address) (sym low) ∙ above 0 pass (omega arith) holds higher at)

-- and not of a wallet below one whose turn it holds
higher-wallet-first : (lower higher : GateView (Stamped WalletEntry) WalletOrigin) (pass : WalletPass) (entries : List (Stamped WalletEntry)) → lower.origin.start.address ≡ address 1
    → higher.origin.start.address ≡ address 2 → pass.gate ≡ Some higher → pass.stage ≡ Out entries → IsAboveWallets lower (pass ∷ []) → ⊥
higher-wallet-first lower higher pass entries low high at out above =
    let holds : HoldsTurn pass = λ idle. let both : Out entries ≡ Idle = sym out ∙ idle in absurd (cc) in
    false≢true (ap (λ (a : Address). is_lower a (address 1)) (sym high) ∙ ap (is_lower higher.origin.start.address) (sym low) ∙ above 0 pass (omega arith) holds higher at)

-- wallets that a row names rise
wallets-fall : AreRising (address 2 ∷ address 1 ∷ []) → ⊥
wallets-fall rising = false≢true (All-head (λ (other : Address). is_lower (address 2) other ≡ true) (address 1) [] rising.0)
