use Rattle.dex_laws.proofs.IdLaws.{price_of-id_of, sequence_of-id_of, id_of-parts}
use Rattle.dex_laws.proofs.ids.ids_tell_their_parts.Goals as goal

pub returns-clause-price : goal.returns-clause-price
returns-clause-price c = price_of-id_of

pub returns-clause-sequence : goal.returns-clause-sequence
returns-clause-sequence c = sequence_of-id_of

pub returns-clause-parts : goal.returns-clause-parts
returns-clause-parts c = id_of-parts
