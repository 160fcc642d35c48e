use Rattle.std.proofs.Common.{◌≡◌, ◌++◌, length}
use Rattle.dex_statement.specs.Words.{texts, words_of}
use Rattle.dex_statement.proofs.words.words_of.Given as goal

abbrev pub invariant-words : goal.invariant-words
invariant-words l = texts l.words.items ++ words_of l.rest ≡ words_of l.fn.field

abbrev pub decreases-words : goal.decreases-words
decreases-words l = length l.rest
