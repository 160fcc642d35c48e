use Rattle.std.proofs.Common.{◌≡◌, ◌+◌, drop, length, reverse, take}
use Rattle.dex_batch.specs.Parts.{AreAsLong}
use Rattle.dex_batch.proofs.DealLaws.{AreTaken}
use Rattle.dex_batch.proofs.dealing.gather.Given as goal

-- the items of the last places are gathered, from the last on
abbrev pub invariant-loop-place : goal.invariant-loop-place
invariant-loop-place g l = record {
  count : length l.piles.items ≡ length l.fn.piles.items;
  long : length l.items.items + l.place ≡ length l.numbers;
  left : AreAsLong (take l.place l.numbers) l.piles.items;
  taken : AreTaken (drop l.place l.numbers) (reverse l.items.items) l.fn.piles.items l.piles.items;
}
