use Rattle.std.proofs.Common.{inl, inr, sym}
use Rattle.dex_words.specs.declared.command.PlainCommand.TheVariants as plain
use Rattle.dex_words.proofs.command.Command.threaded.Goals as goal

-- each command that is not on several threads is one on one thread
pub returns-in-Replay : goal.returns-in-Replay
returns-in-Replay c =
    record {
      some = tt;
      none =
          λ none.
          elim c.in-Replay.is [
            | inl is ↦ (plain.Replay, sym is)
            | inr (inl is) ↦ (plain.Dump, sym is)
            | inr (inr (inl is)) ↦ (plain.Audit, sym is)
            | inr (inr (inr (inl is))) ↦ (plain.Worth, sym is)
            | inr (inr (inr (inr (inl (number, rows, is))))) ↦ (plain.Make number rows, sym is)
            | inr (inr (inr (inr (inr (inl (number, rows, is)))))) ↦ (plain.Bulk number rows, sym is)
            | inr (inr (inr (inr (inr (inr (nodes, events, is)))))) ↦ (plain.Migrate nodes events, sym is)
          ];
    }
