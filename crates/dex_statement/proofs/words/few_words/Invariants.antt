use Rattle.std.proofs.Common.{◌≡◌, ◌<◌, ◌==◌, length, take}
use Rattle.dex_rows.proofs.SplitLemmas.{InPart}
use Rattle.dex_statement.specs.Words.{texts}
use Rattle.dex_statement.proofs.words.few_words.Given as goal

abbrev pub invariant-bytes : goal.invariant-bytes
invariant-bytes l = (l.count < 10) × (length l.words ≡ 10) × InPart (λ byte. byte == 32) l.field l.start l.place (texts (take l.count l.words))
