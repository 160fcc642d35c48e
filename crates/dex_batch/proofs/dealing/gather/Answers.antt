use Rattle.std.proofs.Common.{◌≡◌, ◌+◌, ◌-◌, ◌<◌, ℕ, [], ◌∷◌, arith, drop, get_or, length, reverse, take, ap, ◌∙◌, sym, subst}
use Rattle.std.proofs.lemmas.List.{get_or_default, length-append, length-set, reverse-append}
use Rattle.dex_batch.specs.Parts.{AreAsLong}
use Rattle.dex_batch.proofs.DealLaws.{AreTaken, left-long, some-left, taken-more}
use Rattle.dex_batch.proofs.dealing.gather.Goals as goal

pub unreachable-requires : goal.unreachable-requires
unreachable-requires g c =
    let numbers = c.args.numbers.now in
    let place = c.loop-place.place - 1 in
    let inside : place < length numbers = omega (arith, c.loop-place-test.true, c.loop-place.auto.place) in
    let one_more : c.loop-place.place ≡ place + 1 = omega (arith, c.loop-place-test.true) in
    some-left numbers place (get_or numbers place 0) c.args.piles.items c.loop-place.piles.items inside (get_or_default numbers place 0 (get_or numbers place 0) inside)
    (omega (arith, c.loop-place.invariant.count, c.requires.within place 0 inside))
    (subst (λ (n : ℕ). AreAsLong (take n numbers) c.loop-place.piles.items) one_more c.loop-place.invariant.left) c.in-None.ensures.none

pub loop-place-preserved : goal.loop-place-preserved
loop-place-preserved g c =
    let numbers = c.args.numbers.now in
    let place = c.loop-place.place - 1 in
    let number = get_or numbers place 0 in
    let inside : place < length numbers = omega (arith, c.loop-place-test.true, c.loop-place.auto.place) in
    let one_more : c.loop-place.place ≡ place + 1 = omega (arith, c.loop-place-test.true) in
    let is = get_or_default numbers place 0 number inside in
    let below : number < length c.loop-place.piles.items = omega (arith, c.loop-place.invariant.count, c.requires.within place 0 inside) in
    let long : AreAsLong (take (place + 1) numbers) c.loop-place.piles.items = subst (λ (n : ℕ). AreAsLong (take n numbers) c.loop-place.piles.items) one_more c.loop-place.invariant.left in
    let some = c.in-Some.ensures.some in
    let items = c.loop-place.items.items in
    record {
      count = ap length some.1 ∙ length-set c.loop-place.piles.items number some.0 ∙ c.loop-place.invariant.count;
      long = omega (arith, ap length c.in_ok-add-in-Some.ensures, length-append items (c.in-Some.item ∷ []), c.loop-place.invariant.long, c.loop-place-test.true);
      left = left-long numbers place number c.args.piles.items c.loop-place.piles.items inside is below long c.in-Some.item some.0 c.take_from.new.piles.items some.1 some.2;
      taken = subst (λ ys. AreTaken (drop place numbers) ys c.args.piles.items c.take_from.new.piles.items)
          (sym (ap reverse c.in_ok-add-in-Some.ensures ∙ reverse-append items (c.in-Some.item ∷ [])))
          (taken-more numbers place number c.args.piles.items c.loop-place.piles.items inside is below long c.in-Some.item some.0 c.take_from.new.piles.items some.1 some.2 (reverse items)
          (subst (λ (n : ℕ). AreTaken (drop n numbers) (reverse items) c.args.piles.items c.loop-place.piles.items) one_more c.loop-place.invariant.taken));
    }
