-- Instructions that are processed one after the other on one market.
use Rattle.std.specs.Prelude.{◌≡◌, List, [], ◌∷◌}
use Rattle.dex_accounts.specs.Decoded.{market_in}
use Rattle.dex_history.specs.Journal.{Asked, Call, Sees, asked_step, places}
use Rattle.dex_plan.specs.declared.ask.Ask.{Ask}
use Rattle.dex_plan.specs.Given.{asked_by}
use Rattle.dex_process.specs.declared.processing.Terms.{Terms}
use Rattle.dex_process.specs.Process.{Acting, HasProcessed, seen_by, step_of}
use Rattle.dex_purse.specs.declared.lent_wallets.Roles.{Roles}
use Rattle.dex_purse.specs.Purse.{AreApart, Names}
use Rattle.dex_types.specs.declared.replies.Reply.{Reply}
use Rattle.dex_types.specs.declared.rows.Seen.{Seen}
use Rattle.dex_types.specs.Market.{Market}
use Rattle.dex_types.specs.Requests.{HasPrice}
use Rattle.dex_types.specs.Wallets.{movements}

-- an instruction that was processed: what was asked for, what it saw, its reply, and the market that its accounts stood
-- for then
pub record Processed : Type 0 where
  pub asked : Asked
  pub seen : Seen
  pub reply : Reply
  pub left : Market

-- it was processed on this market: it is one of it, states a price where it is an order or a take, saw the wallets that
-- it names, was answered by its step, and left the market of that
pub record IsProcessed (one : Processed) (m : Market) : Type 0 where
  pub market : one.asked.market ≡ m.listing.address
  pub price : HasPrice one.asked.request.instruction
  pub sees : Sees one.asked one.seen
  pub reply : one.reply ≡ (asked_step one.asked one.seen m).reply
  pub left : one.left ≡ (asked_step one.asked one.seen m).market

-- an instruction on lent accounts and wallets: what was asked for and by which terms, as the caller says it and as a
-- journal tells it, the reply, and what it acted on and left
pub record Done : Type 0 where
  pub ask : Ask
  pub roles : Roles
  pub terms : Terms
  pub asked : Asked
  pub reply : Reply
  pub before : Acting
  pub after : Acting

-- what it saw
abbrev pub seen_in : Done → Seen
seen_in one = seen_by one.roles one.terms one.before.wallets

-- it was done, on wallets of distinct addresses; and what a journal tells is a row of this market that asks for it and
-- names the wallets of its roles
pub record IsDone (one : Done) : Type 0 where
  pub processed :
      HasProcessed one.roles one.reply one.before one.after (step_of one.ask (seen_in one) one.before.accounts)
  pub apart : AreApart one.roles one.before.wallets
  pub market : one.asked.market ≡ (market_in one.before.accounts).listing.address
  pub request : one.asked.request ≡ asked_by one.ask
  pub names : Names one.asked one.roles one.before.wallets

-- it, as one of a sequence
abbrev pub processed_as : Done → Processed
processed_as one =
    record { asked = one.asked; seen = seen_in one; reply = one.reply; left = market_in one.after.accounts }

-- these were, one after the other: each on what the last one left
abbrev pub AreProcessed : Market → List Processed → Type 0
AreProcessed m [] = Unit {0}
AreProcessed m (one ∷ others) = IsProcessed one m × AreProcessed one.left others

-- the market in the end
abbrev pub left_by : Market → List Processed → Market
left_by m [] = m
left_by m (one ∷ others) = left_by one.left others

-- the call of a history that an instruction is
abbrev pub call_of : Processed → Market → Call
call_of one m =
    let s = asked_step one.asked one.seen m in
    record {
      asked = one.asked;
      seen = one.seen;
      entry = record { lane = one.asked.lane; row = one.asked.number; reply = s.reply; moves = places (movements one.seen s.transfers) };
    }

-- the calls of them all
abbrev pub calls_of : Market → List Processed → List Call
calls_of m [] = []
calls_of m (one ∷ others) = call_of one m ∷ calls_of one.left others
