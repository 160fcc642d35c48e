use Rattle.dex_laws.proofs.LockLaws.{post-locked}
use Rattle.dex_laws.proofs.locks.a_posting_locks_what_it_posts.Goals as goal

pub returns : goal.returns
returns c = λ sizes side room order orders. post-locked side sizes room order orders
