-- How a command is written, and the numbers that it may have.
use Rattle.std.specs.Prelude.{⊤, ◌<◌, ◌≤◌, ◌^◌, ℕ, List, [], ◌∷◌, codes}
use Rattle.std.specs.Fmt.{decimal}
use Rattle.dex_words.specs.declared.command.Command.{Command}
use Rattle.dex_words.specs.declared.command.Command.TheVariants.{Replay, Run, Dump, Audit, Worth, Make, Bulk, Migrate, Batch}

-- the words that a command is
abbrev pub spelling : Command → List (List ℕ)
spelling Replay = codes "replay" ∷ []
spelling Run = codes "run" ∷ []
spelling Dump = codes "dump" ∷ []
spelling Audit = codes "audit" ∷ []
spelling Worth = codes "worth" ∷ []
spelling (Make number rows) = codes "make" ∷ decimal number ∷ decimal rows ∷ []
spelling (Bulk number rows) = codes "bulk" ∷ decimal number ∷ decimal rows ∷ []
spelling (Migrate nodes events) = codes "migrate" ∷ decimal nodes ∷ decimal events ∷ []
spelling (Batch workers) = codes "batch" ∷ decimal workers ∷ []

-- a number of a script, and how many rows it has
abbrev pub AreMade : ℕ → ℕ → Type 0
AreMade number rows = (number < 2 ^ 64) × (1 ≤ rows) × (rows ≤ 20000)

-- the numbers of a command are within their limits
abbrev pub IsWithin : Command → Type 0
IsWithin (Make number rows) = AreMade number rows
IsWithin (Bulk number rows) = AreMade number rows
IsWithin (Migrate nodes events) = (1 ≤ nodes) × (nodes ≤ 65536) × (1 ≤ events) × (events ≤ 65535)
IsWithin (Batch workers) = (1 ≤ workers) × (workers ≤ 16)
IsWithin _ = ⊤
