use Rattle.dex_laws.proofs.TraderLaws.{free_slot-le, free_slot-free, free_slot-first}
use Rattle.dex_laws.proofs.traders.the_free_slot_is_the_first.Goals as goal

pub returns-clause-within : goal.returns-clause-within
returns-clause-within c = free_slot-le

pub returns-clause-free : goal.returns-clause-free
returns-clause-free c = λ slots. free_slot-free slots _

pub returns-clause-first : goal.returns-clause-first
returns-clause-first c = free_slot-first
