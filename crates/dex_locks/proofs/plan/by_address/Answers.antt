use Rattle.std.proofs.Common.{◌≡◌, false, cond, [], ◌∷◌, sym, ◌∙◌}
use Rattle.std.proofs.lemmas.Bool.{cond-false, cond-true}
use Rattle.dex_types.specs.declared.addresses.Address.{Address}
use Rattle.dex_types.specs.Addresses.{is_same}
use Rattle.dex_types.specs.Wallets.{is_lower}
use Rattle.dex_locks.proofs.plan.by_address.Goals as goal

-- two that are not one
apart : (one other : Address) → is_same one other ≡ false → cond (is_same one other) (other ∷ []) (cond (is_lower one other) (one ∷ other ∷ []) (other ∷ one ∷ []))
    ≡ cond (is_lower one other) (one ∷ other ∷ []) (other ∷ one ∷ [])
apart one other is = cond-false _ _ _ is

pub returns-then-is_lower : goal.returns-then-is_lower
returns-then-is_lower c =
    sym (apart c.args.one c.args.other c.requires ∙ cond-true _ _ _ (sym c.is_lower.ensures ∙ c.if-is_lower.true))

pub returns-else-is_lower : goal.returns-else-is_lower
returns-else-is_lower c =
    sym (apart c.args.one c.args.other c.requires ∙ cond-false _ _ _ (sym c.is_lower.ensures ∙ c.if-is_lower.false))
