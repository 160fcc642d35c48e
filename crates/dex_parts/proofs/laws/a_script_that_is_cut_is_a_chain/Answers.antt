use Rattle.dex_parts.proofs.CutLaws.{is-chain, one-cut}
use Rattle.dex_parts.proofs.laws.a_script_that_is_cut_is_a_chain.Goals as goal

pub returns-clause-chain : goal.returns-clause-chain
returns-clause-chain c = is-chain

pub returns-clause-one : goal.returns-clause-one
returns-clause-one c = one-cut
