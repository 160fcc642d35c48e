use Rattle.std.proofs.Common.{◌≡◌, ℕ, List, [], ◌∷◌, ◌++◌, length, set, get_or, Option, ap, ◌∙◌}
use Rattle.std.proofs.Math.Seq.{get_or-append_seam, set-append_seam}
use Rattle.dex_types.specs.declared.movements.Entry.{Entry}
use Rattle.dex_types.specs.declared.movements.Movement.{Movement}
use Rattle.dex_history.specs.Journal.{places}
use Rattle.dex_cell.proofs.journal.write_down.Goals as goal

-- the last of these entries, where its movements are put into it
written : (old new : List Entry) (place : ℕ) (last read : Entry) (moves : List (Option Movement)) → new ≡ old ++ last ∷ [] → place ≡ length old → read ≡ get_or new place read
    → set new place (record read { moves = moves }) ≡ old ++ record last { moves = moves } ∷ []
written old new place last read moves grown end is =
    let last_is : read ≡ last =
    is ∙ ap (λ (l : List Entry). get_or l place read) grown ∙ ap (λ (n : ℕ). get_or (old ++ last ∷ []) n read) end ∙ get_or-append_seam old last [] read in
    ap (λ (l : List Entry). set l place (record read { moves = moves })) grown
    ∙ ap (λ (n : ℕ). set (old ++ last ∷ []) n (record read { moves = moves })) end
    ∙ set-append_seam old last [] (record read { moves = moves }) ∙ ap (λ (e : Entry). old ++ record e { moves = moves } ∷ []) last_is

pub returns-clause-entries : goal.returns-clause-entries
returns-clause-entries c =
    let entry : List (Option Movement) → Entry = λ moves. record { lane = c.args.row.now.lane; row = c.args.row.now.number; reply = c.args.reply; moves = moves } in
    written c.args.entries.now.items c.push_reserved.new.self.items c.len-place.result (entry (places [])) c.index_mut-entry.result.now c.put_moves.new.moves
    c.push_reserved.ensures.items (c.len-place.ensures ∙ c.args.entries.now.ok.0) c.index_mut-entry.ensures.value
    ∙ ap (λ (moves : List (Option Movement)). c.args.entries.now.items ++ entry moves ∷ []) c.put_moves.ensures
