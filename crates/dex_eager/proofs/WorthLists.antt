-- the worth of each account, as a list over the accounts' addresses
use Rattle.std.proofs.Common.{ℕ, ℤ, pos, ◌+◌, ◌≡◌, ◌+ℤ◌, ◌-ℤ◌, Bool, true, false, cond, List, [], ◌∷◌, map, refl, sym, ap, ◌∙◌, arith}
use Rattle.dex_types.specs.declared.addresses.Address.{Address}
use Rattle.dex_types.specs.Addresses.{is_same}
use Rattle.dex_types.specs.Owed.{leaving, is_event_of}
use Rattle.dex_types.specs.QueuedEvent.{QueuedEvent}
use Rattle.dex_types.specs.Side.{Token, Coin, Pc}
use Rattle.dex_types.specs.Totals.{total, weighed_where}
use Rattle.dex_types.specs.Trader.{Trader, Traders}
use Rattle.dex_sound.specs.Exchange.{gained}
use Rattle.dex_sound.specs.Kept.{addresses}
use Rattle.dex_eager.specs.Eager.{Worths, with_change, with_fills}
use Rattle.dex_eager.specs.Worth.{Worth, plus, net}
use Rattle.dex_eager.proofs.Sums.{nothing-more, more-and-more}

-- what a function says of each of these addresses
abbrev pub worths_by : (Address → Worth) → List Address → Worths
worths_by worth accounts = map (λ (a : Address). (a, worth a)) accounts

-- the worth of each account of a market is that of each of its addresses
pub worths-by : (worth : Address → Worth) (traders : Traders) → map (λ (entry : Address × Trader). (entry.0, worth entry.0)) traders ≡ worths_by worth (addresses traders)
worths-by worth [] = refl
worths-by worth (entry ∷ traders) = ap (λ others. (entry.0, worth entry.0) ∷ others) (worths-by worth traders)

-- two functions that agree give one list
pub worths-agree : (worth other : Address → Worth) (accounts : List Address) → ((a : Address) → worth a ≡ other a) → worths_by worth accounts ≡ worths_by other accounts
worths-agree worth other [] agree = refl
worths-agree worth other (a ∷ accounts) agree =
    ap (λ (w : Worth). (a, w) ∷ worths_by worth accounts) (agree a) ∙ ap (λ others. (a, other a) ∷ others) (worths-agree worth other accounts agree)

-- the worth of an account after a change of one
abbrev pub changed : Address → Worth → Address → Worth → Worth
changed owner change a worth = cond (is_same a owner) (plus worth change) worth

pub with_change-by : (owner : Address) (change : Worth) (worth : Address → Worth) (accounts : List Address)
    → with_change owner change (worths_by worth accounts) ≡ worths_by (λ a. changed owner change a (worth a)) accounts
with_change-by owner change worth [] = refl
with_change-by owner change worth (a ∷ accounts) =
    ap (λ others. (a, changed owner change a (worth a)) ∷ others) (with_change-by owner change worth accounts)

-- what a fill brings its owner, less what it takes
abbrev pub fill_change : QueuedEvent → Worth
fill_change fill = net (λ token. gained token fill) (λ token. leaving token fill)

-- the worth of an account after fills
abbrev pub filled : List QueuedEvent → Address → Worth → Worth
filled [] a worth = worth
filled (fill ∷ fills) a worth = filled fills a (changed fill.owner (fill_change fill) a worth)

pub with_fills-by : (fills : List QueuedEvent) (worth : Address → Worth) (accounts : List Address)
    → with_fills fills (worths_by worth accounts) ≡ worths_by (λ a. filled fills a (worth a)) accounts
with_fills-by [] worth accounts = refl
with_fills-by (fill ∷ fills) worth accounts =
    ap (with_fills fills) (with_change-by fill.owner (fill_change fill) worth accounts)
    ∙ with_fills-by fills (λ a. changed fill.owner (fill_change fill) a (worth a)) accounts

-- what fills bring an account of a token, and what they take
abbrev pub own_gained : Token → Address → List QueuedEvent → ℕ
own_gained token a events = total (weighed_where (is_event_of a) (gained token)) events

abbrev pub own_leaving : Token → Address → List QueuedEvent → ℕ
own_leaving token a events = total (weighed_where (is_event_of a) (leaving token)) events

-- equal amounts of each token make equal changes
pub net-agree : (gains pays more other : Token → ℕ) → ((token : Token) → gains token ≡ more token) → ((token : Token) → pays token ≡ other token)
    → net gains pays ≡ net more other
net-agree gains pays more other in_same out_same =
    let made : ℕ → ℕ → ℕ → ℕ → Worth = λ a b c d. record { coin = pos a -ℤ pos b; pc = pos c -ℤ pos d } in
    ap (λ a. made a (pays Coin) (gains Pc) (pays Pc)) (in_same Coin)
    ∙ ap (λ b. made (more Coin) b (gains Pc) (pays Pc)) (out_same Coin)
    ∙ ap (λ c. made (more Coin) (other Coin) c (pays Pc)) (in_same Pc)
    ∙ ap (made (more Coin) (other Coin) (more Pc)) (out_same Pc)

pub plus-none : (worth : Worth) → plus worth (net (λ token. 0) (λ token. 0)) ≡ worth
plus-none worth =
    let made : ℤ → ℤ → Worth = λ coin pc. record { coin = coin; pc = pc } in
    ap (λ coin. made coin (worth.pc +ℤ (net (λ token. 0) (λ token. 0)).pc)) (nothing-more worth.coin) ∙ ap (made worth.coin) (nothing-more worth.pc)

-- a change and one more
pub plus-again : (worth : Worth) (gains pays more other : Token → ℕ)
    → plus (plus worth (net gains pays)) (net more other) ≡ plus worth (net (λ token. gains token + more token) (λ token. pays token + other token))
plus-again worth gains pays more other =
    let made : ℤ → ℤ → Worth = λ coin pc. record { coin = coin; pc = pc } in
    ap (λ coin. made coin (plus (plus worth (net gains pays)) (net more other)).pc) (more-and-more worth.coin (gains Coin) (pays Coin) (more Coin) (other Coin))
    ∙ ap (made _) (more-and-more worth.pc (gains Pc) (pays Pc) (more Pc) (other Pc))

-- fills change an account's worth by all that they bring it, less all that they take
pub filled-sum : (fills : List QueuedEvent) (a : Address) (worth : Worth)
    → filled fills a worth ≡ plus worth (net (λ token. own_gained token a fills) (λ token. own_leaving token a fills))
filled-sum [] a worth = sym (plus-none worth)
filled-sum (fill ∷ fills) a worth =
    filled-sum fills a (changed fill.owner (fill_change fill) a worth)
    ∙ changed-sum (is_same a fill.owner) worth (λ token. gained token fill) (λ token. leaving token fill) (λ token. own_gained token a fills) (λ token. own_leaving token a fills)
  where
    changed-sum : (own : Bool) (worth : Worth) (gains pays more other : Token → ℕ)
        → plus (cond own (plus worth (net gains pays)) worth) (net more other)
        ≡ plus worth (net (λ token. cond own (gains token) 0 + more token) (λ token. cond own (pays token) 0 + other token))
    changed-sum true worth gains pays more other = plus-again worth gains pays more other
    changed-sum false worth gains pays more other =
        ap (plus worth) (net-agree more other (λ token. 0 + more token) (λ token. 0 + other token) (λ token. omega arith) (λ token. omega arith))
