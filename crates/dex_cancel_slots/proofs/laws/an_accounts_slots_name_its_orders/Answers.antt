use Rattle.dex_cancel_slots.proofs.PremiseLaws.{parts-name, sound-names, still-name}
use Rattle.dex_cancel_slots.proofs.laws.an_accounts_slots_name_its_orders.Goals as goal

pub returns-clause-sound : goal.returns-clause-sound
returns-clause-sound c = sound-names

pub returns-clause-parts : goal.returns-clause-parts
returns-clause-parts c = parts-name

pub returns-clause-stays : goal.returns-clause-stays
returns-clause-stays c = λ owner slots bids asks names gone. still-name owner slots gone bids asks names
