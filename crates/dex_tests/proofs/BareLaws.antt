-- The only row of a script can act on the cells with which the script starts.
use Rattle.std.proofs.Common.{◌≡◌, List, [], ◌∷◌, length, refl, sym, ap, ◌∙◌, subst, arith}
use Rattle.std.specs.List.{All}
use Rattle.dex_types.specs.Rows.{PlainRow}
use Rattle.dex_bank.specs.Cells.{CanAct, CellsState, world_of}
use Rattle.dex_bank.specs.Opened.{opened}
use Rattle.dex_world.proofs.Common.{All-head, All-map}
use Rattle.dex_world.specs.World.{World}
use Rattle.dex_replay.proofs.Counting.{HasFew, HasFewMoves, IsCounted}
use Rattle.dex_replay.proofs.Room.{can-act}
use Rattle.dex_replay.proofs.Starts.{are-of-script, opened-address, opened-opened, opened-world}
use Rattle.dex_script_types.specs.Facts.{IsRowOf, IsScript}
use Rattle.dex_script_types.specs.PlainScript.{PlainScript}
use Rattle.dex_script_types.specs.Starts.{market_state, start_world, wallet_state}

-- at the start no journal has an entry
starts-counted : (script : PlainScript) → IsCounted [] (start_world script)
starts-counted script = record {
  markets = All-map (HasFew []) market_state script.start.markets (λ k d within. omega arith);
  wallets = All-map (HasFewMoves []) wallet_state script.start.wallets (λ k d within. omega arith);
}

pub can-alone : (script : PlainScript) (row : PlainRow) (rows : List PlainRow) (cells : CellsState) → IsScript script → cells ≡ opened script
    → rows ≡ script.rows → rows ≡ row ∷ [] → CanAct row cells
can-alone script row rows cells is made same one =
    let counted : IsCounted [] (world_of cells) =
    subst (IsCounted []) (sym (ap world_of made ∙ opened-world script)) (starts-counted script) in
    can-act script cells (are-of-script script cells (opened-opened script cells made)) (opened-address script cells made) [] [] [] row (sym one ∙ same) counted
    (All-head (IsRowOf script.start) row [] (subst (All (IsRowOf script.start)) (sym same ∙ one) is.rows.each))

-- a list without elements
pub none-left : {A : Type 0} (xs : List A) → length xs ≡ 0 → xs ≡ []
none-left [] none = refl
none-left (x ∷ xs) none = absurd (omega (arith, none))
