use Rattle.dex_parts.specs.Chains.{outcomes_behind}
use Rattle.dex_parts.proofs.ChainLaws.{chain-is-one, two-are-one}
use Rattle.dex_parts.proofs.laws.a_chain_is_one_replay.Goals as goal

pub returns-clause-two : goal.returns-clause-two
returns-clause-two c = two-are-one

pub returns-clause-many : goal.returns-clause-many
returns-clause-many c = chain-is-one

pub returns-clause-alike : goal.returns-clause-alike
returns-clause-alike c = λ script part parts whole one others replay chain.
    c.a_script_has_one_replay.ensures.replay script whole (outcomes_behind one others) replay (chain-is-one script part parts one others chain)
