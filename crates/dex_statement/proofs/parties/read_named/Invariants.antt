use Rattle.std.proofs.Common.{◌≡◌, [], length}
use Rattle.dex_statement.specs.Parties as parties
use Rattle.dex_statement.specs.Words.{words_of}
use Rattle.dex_statement.proofs.parties.read_named.Given as goal

abbrev pub invariant-words : goal.invariant-words
invariant-words l = parties.named_behind l.named.items (words_of l.rest) ≡ parties.named_behind [] (words_of l.fn.field)

abbrev pub decreases-words : goal.decreases-words
decreases-words l = length l.rest
