use Rattle.std.proofs.Common.{◌≡◌, true, Option, Some, None, refl, sym, ◌∙◌}
use Rattle.dex_world.proofs.Common.{Address, PlainAccount, PlainRow, false≢true, is_same, row_of}
use Rattle.dex_script_types.specs.Facts.{IsRowOf}
use Rattle.dex_script_types.specs.Found.{are_found, is_found}
use Rattle.dex_script_types.specs.Known.{is_known_role}
use Rattle.dex_script_types.specs.PlainScript.{PlainScript}
use Rattle.dex_script_types.proofs.FoundLaws.{position-any}
use Rattle.dex_turns.specs.Turns.{place_of}
use Rattle.dex_turns.proofs.outline.Outline.wallets_of.Goals as goal

-- the wallets of a row of a script stand there
role-found : (script : PlainScript) (role : Option Address) → is_known_role script.start.wallets role ≡ true → is_found (place_of script) role ≡ true
role-found script None known = refl
role-found script (Some address) known = position-any (λ (wallet : PlainAccount). is_same address wallet.address) script.start.wallets ∙ known

row-found : (script : PlainScript) (row : PlainRow) → IsRowOf script.start row → are_found (place_of script) row.coin row.pc row.discount row.referrer ≡ true
row-found script row fits =
    rw (
      role-found script row.coin fits.coin,
      role-found script row.pc fits.pc,
      role-found script row.discount fits.discount,
      role-found script row.referrer fits.referrer,
    ) refl

pub unreachable-requires : goal.unreachable-requires
unreachable-requires c = false≢true (sym (c.wallets_at.ensures.none c.in-None.is) ∙ row-found c.args.self.now (row_of c.args.row.now) c.requires)
