use Rattle.std.proofs.Common.{◌≡◌, ℕ, ◌≤◌, Some, length, map, drop, sym, subst, arith}
use Rattle.std.proofs.Math.ListN.{drop_of_length-le}
use Rattle.std.proofs.lemmas.List.{length-map}
use Rattle.dex_types.specs.Accounts.{orders_account_of}
use Rattle.dex_index.specs.Reached.{LeadsToAll, leads_by}
use Rattle.dex_index.proofs.MadeLaws.{put-leads}
use Rattle.dex_index.proofs.index.places_of.Goals as goal

pub loop-place-init : goal.loop-place-init
loop-place-init c =
    let plain = map orders_account_of c.args.accounts.now in
    let all : length plain ≤ length c.args.accounts.now = omega (arith, length-map c.args.accounts.now orders_account_of) in
    subst (LeadsToAll _ _) (sym (drop_of_length-le plain all)) tt

pub loop-place-preserved : goal.loop-place-preserved
loop-place-preserved c =
    put-leads _ _ c.args.accounts.now c.loop-place.place c.index-accounts-place.result (omega arith) (omega arith) c.requires c.loop-place.invariant c.in_ok-put.ensures

pub returns : goal.returns
returns c =
    let none : c.loop-place.place ≡ 0 = omega arith in
    subst (λ (n : ℕ). LeadsToAll (leads_by (Some c.loop-place.places)) n (drop n (map orders_account_of c.args.accounts.now))) none c.loop-place.invariant
