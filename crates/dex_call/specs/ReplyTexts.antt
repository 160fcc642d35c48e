-- What is told of a reply.
use Rattle.std.specs.Prelude.{ℕ, ◌≡◌, List}
use Rattle.dex_abi.specs.declared.numbers.ReplyNumbers.{ReplyNumbers}
use Rattle.dex_abi.specs.Texts.{told_by}
use Rattle.dex_answers.specs.declared.status.Status.{Status}
use Rattle.dex_answers.specs.declared.status.Status.TheVariants as status

-- all is well, and the text is what a report says of the reply
abbrev pub SaysReply : ReplyNumbers → Status → List ℕ → Type 0
SaysReply reply stood text = (stood ≡ status.Ok) × (text ≡ told_by reply)
