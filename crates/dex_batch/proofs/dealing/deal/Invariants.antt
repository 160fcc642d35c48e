use Rattle.std.proofs.Common.{◌≡◌, length, take}
use Rattle.dex_batch.proofs.DealLaws.{AreDealt}
use Rattle.dex_batch.proofs.dealing.deal.Given as goal

-- the items so far are dealt
abbrev pub invariant-loop-item : goal.invariant-loop-item
invariant-loop-item g l = record {
  place : l.place ≡ length l.yielded;
  count : length l.piles.items ≡ l.count;
  dealt : AreDealt l.count (take l.place l.numbers) l.yielded l.piles.items;
}
