use Rattle.std.proofs.Common.{◌++◌, map, sym, subst, ap, ◌∙◌, arith}
use Rattle.std.proofs.lemmas.List.{length-map}
use Rattle.dex_types.specs.Accounts.{PlainAccount, accounts_of, named_of}
use Rattle.dex_token.specs.MintAccount.{IsMint, mint_words}
use Rattle.dex_state.specs.Conserved.{held_of}
use Rattle.dex_audit.specs.Supplies.{supply_off}
use Rattle.dex_audit.proofs.SupplyLaws.{all-map, here-map}
use Rattle.dex_audit_rules.specs.Funds.{differs}
use Rattle.dex_audit_rules.proofs.ListLaws.{joined-more}
use Rattle.dex_audit.proofs.supplies.tell_supplies.Goals as goal

pub supply-supply-requires : goal.supply-supply-requires
supply-supply-requires c =
    subst IsMint (sym c.deref.ensures.value)
    (all-map named_of (λ (mint : PlainAccount). IsMint mint.bytes) c.args.mints.now c.loop-place.place c.index-mints-place.result c.requires.mints (omega arith)
    c.index-mints-place.is)

pub loop-place-preserved : goal.loop-place-preserved
loop-place-preserved c =
    let accounts = accounts_of c.args.accounts.now in
    let mint : PlainAccount = named_of c.index-mints-place.result in
    let held = held_of mint.address accounts in
    let supply = c.supply-supply.ensures ∙ ap (λ b. (mint_words b).supply) c.deref.ensures.value in
    joined-more (supply_off accounts) (map named_of c.args.mints.now) c.loop-place.place mint
    c.args.found.now.items c.loop-place.found.items c.tell_differs.new.found.items (omega (arith, length-map c.args.mints.now named_of)) c.loop-place.invariant
    (c.in_ok-tell_differs.ensures held c.held_of-held.ensures
    ∙ ap (λ n. c.loop-place.found.items ++ differs 12 mint.address 36 n held) supply
    ∙ ap (λ (m : PlainAccount). c.loop-place.found.items ++ supply_off accounts m)
    (sym (here-map named_of c.args.mints.now c.loop-place.place c.index-mints-place.result (omega arith) c.index-mints-place.is)))
