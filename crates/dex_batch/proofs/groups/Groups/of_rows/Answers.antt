use Rattle.std.proofs.Common.{[], ◌∷◌, ◌++◌, List, arith, sym, subst, take}
use Rattle.dex_world.proofs.Common.{AllZip, take_more}
use Rattle.dex_world.specs.declared.places.RowPlaces.{RowPlaces}
use Rattle.dex_batch.specs.Groups.{IsOfGroup}
use Rattle.std.proofs.lemmas.Slice.Zip.{all_zipped_more}
use Rattle.dex_batch.proofs.groups.Groups.of_rows.Goals as goal

pub loop-place-preserved : goal.loop-place-preserved
loop-place-preserved c =
    let places : List RowPlaces = c.args.places.now in
    let place = c.loop-place.place in
    let Is = IsOfGroup c.args.self.now.markets.items c.args.self.now.wallets.items in
    subst (λ (some : List RowPlaces). AllZip Is some c.add.new.items.items) (sym (take_more places place _ (omega arith)))
    (subst (AllZip Is (take place places ++ _ ∷ [])) (sym c.in_ok-add-in-Some.ensures)
    (all_zipped_more Is (take place places) c.loop-place.numbers.items _ c.in-Some.number c.loop-place.invariant c.in-Some.ensures))
