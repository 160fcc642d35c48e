-- What enters and leaves a market, and that nothing is made or lost in it.
use Rattle.std.specs.Prelude.{ℕ, ℤ, pos, ◌+◌, ◌+ℤ◌, ◌≡◌, List, [], ◌∷◌}
use Rattle.dex_types.specs.declared.replies.Reply.{Reply}
use Rattle.dex_types.specs.declared.replies.Reply.TheVariants.{Took}
use Rattle.dex_types.specs.Market.{Market}
use Rattle.dex_types.specs.Side.{Token, Coin, Pc, by_token}
use Rattle.dex_types.specs.Solvency.{vault}
use Rattle.dex_types.specs.Transfers.{Transfers}
use Rattle.dex_history.specs.Journal.{Call, market_after, step_of}
use Rattle.dex_eager.specs.Eager.{Worths}
use Rattle.dex_eager.specs.Histories.{eager_end, moves_of}
use Rattle.dex_eager.specs.Worth.{Worth, takings_of}

-- a worth in a token
abbrev pub in_token : Token → Worth → ℤ
in_token Coin worth = worth.coin
in_token Pc worth = worth.pc

-- what all accounts are worth in a token
abbrev pub sum_of : Token → Worths → ℤ
sum_of token [] = pos 0
sum_of token (entry ∷ others) = in_token token entry.1 +ℤ sum_of token others

-- what a row with this answer brought of a token, where it is a take
abbrev pub brought_in : Token → Reply → Transfers → ℕ
brought_in token (Took lots pc fee) t = by_token token t.coin_in t.pc_in
brought_in token reply t = 0

-- and what it took away
abbrev pub taken_out : Token → Reply → Transfers → ℕ
taken_out token (Took lots pc fee) t = by_token token t.coin_out t.pc_out
taken_out token reply t = 0

-- what the takes of a history brought of a token
abbrev pub all_brought : Token → Market → List Call → ℕ
all_brought token m [] = 0
all_brought token m (call ∷ calls) =
    brought_in token (step_of call m).reply (step_of call m).transfers + all_brought token (step_of call m).market calls

-- and what they took away
abbrev pub all_taken : Token → Market → List Call → ℕ
all_taken token m [] = 0
all_taken token m (call ∷ calls) =
    taken_out token (step_of call m).reply (step_of call m).transfers + all_taken token (step_of call m).market calls

-- what a market has taken of a token at the end of a history: of quote its takings, of base the fees that it holds
abbrev pub market_part : Token → Market → List Call → ℕ
market_part token m calls = by_token token (market_after m calls).coin_fees (takings_of (market_after m calls) (moves_of m calls))

-- of a token nothing was made or lost: what all accounts are worth where makers are paid at once, what the market has
-- taken, and what takes took away, is what stood in the vault at the start and what takes brought
abbrev pub AddUp : Token → Market → List Call → Type 0
AddUp token m calls =
    (sum_of token (eager_end m calls).worths +ℤ pos (market_part token m calls)) +ℤ pos (all_taken token m calls)
    ≡ pos (vault token m) +ℤ pos (all_brought token m calls)
