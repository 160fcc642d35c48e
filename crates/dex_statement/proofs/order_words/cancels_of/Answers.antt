use Rattle.std.proofs.Common.{◌≡◌, length, arith}
use Rattle.dex_statement.proofs.CancelLaws.{asked}
use Rattle.dex_statement.proofs.order_words.cancels_of.Goals as goal

pub returns : goal.returns
returns c =
    let end : c.ids.place ≡ length c.args.words.now = omega arith in
    asked c.args.words.now c.ids.ids c.new.result c.ids.place c.if-words-lt2.false c.if-words-gt9.false end c.new.ensures.count c.new.ensures.ids c.ids.invariant.2
