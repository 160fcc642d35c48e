use Rattle.std.proofs.Common.{ap, ◌∙◌}
use Rattle.dex_types.specs.Meeting.{Meeting}
use Rattle.dex_types.specs.Take.{take_reply}
use Rattle.dex_market.specs.MarketAccount.{market_words, sizes_of}
use Rattle.dex_take.specs.TakeGiven.{TakeRead, take_given}
use Rattle.dex_take.specs.TakeTerms.{take_of}
use Rattle.dex_take.specs.Taking.{meeting_in}
use Rattle.dex_take.proofs.TakeAmounts.{bare-meeting, given-of, read-of}
use Rattle.dex_take.proofs.TakeLeaves.{after-put}
use Rattle.dex_take.proofs.laws.a_take_leaves_the_market_after_it.Goals as goal

pub returns-clause-after : goal.returns-clause-after
returns-clause-after c plan taker min_lots min_pc parts left m sound are done = after-put plan taker min_lots min_pc parts left m sound are done

pub returns-clause-reply : goal.returns-clause-reply
returns-clause-reply c taker min_lots min_pc parts m are =
    let side = taker.id_side in
    let t = take_of taker min_lots min_pc in
    let before = take_given side parts in
    ap (λ (x : Meeting). take_reply t x) (bare-meeting side (sizes_of (market_words parts.market)) taker min_lots min_pc before.opposing
    ∙ ap (λ (r : TakeRead). meeting_in side t r) (read-of side before m (given-of side parts m are)))
