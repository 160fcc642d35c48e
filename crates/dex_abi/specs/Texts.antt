-- What a report says of the reply that numbers stand for.
use Rattle.std.specs.Prelude.{ℕ, List, [], Option, Some, None}
use Rattle.dex_types.specs.Text as text
use Rattle.dex_abi.specs.declared.numbers.ReplyNumbers.{ReplyNumbers}
use Rattle.dex_abi.specs.Numbers.{reply_in}
use Rattle.dex_types.specs.declared.replies.Reply.{Reply}

-- the words of a reply; none of none
abbrev pub words_of : Option Reply → List ℕ
words_of (Some reply) = text.reply_text reply
words_of None = []

-- what a report says of the reply that numbers stand for; nothing where they stand for none
abbrev pub told_by : ReplyNumbers → List ℕ
told_by numbers = words_of (reply_in numbers)
