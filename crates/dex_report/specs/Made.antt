-- Made scripts.
use Rattle.std.specs.Prelude.{ℕ, zero, suc, ◌/◌, ◌%◌, ◌==◌, ◌++◌, if◌then◌else◌, List}
use Rattle.dex_report.specs.Draws.{drawn, generator_of}
use Rattle.dex_report.specs.Lines.{numbered}
use Rattle.dex_report.specs.MadeRows.{consuming_line, drawn_line, market_by}
use Rattle.dex_report.specs.MadeSetup.{setup_text}
use Rattle.rand_pcg.specs.Lcg.{Lcg}

-- row i, by the generator before it: traders take turns, and the markets by eight rows; every tenth row consumes events
-- and draws nothing, on the markets in turn
unfoldable pub row_text : ℕ → Lcg → List ℕ
row_text i generator =
    if i % 10 == 9 then consuming_line (market_by (i / 10)) (i % 8) else drawn_line (market_by (i / 8)) (i % 8) (drawn i generator).asked

-- the generator after row i
unfoldable pub after_row : ℕ → Lcg → Lcg
after_row i generator = if i % 10 == 9 then generator else (drawn i generator).after

-- the generator of a number before row i
unfoldable pub generator_at : ℕ → ℕ → Lcg
generator_at number zero = generator_of number
generator_at number (suc i) = after_row i (generator_at number i)

-- row i of the script of a number
abbrev pub row_of : ℕ → ℕ → List ℕ
row_of number i = row_text i (generator_at number i)

-- the made script of a number with this many drawn rows
abbrev pub made_text : ℕ → ℕ → List ℕ
made_text number rows = setup_text ++ numbered (row_of number) rows
