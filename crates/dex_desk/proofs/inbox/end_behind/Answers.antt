use Rattle.dex_desk.proofs.LineLaws.{line-behind}
use Rattle.dex_desk.proofs.inbox.end_behind.Goals as goal

pub returns-in-Some-clause-cut : goal.returns-in-Some-clause-cut
returns-in-Some-clause-cut c =
    let found = line-behind c.args.bytes.now c.split_at.result.1.now c.args.seen c.memchr.result c.split_at.ensures.back c.requires.within c.requires.known c.memchr.ensures in
    rw c.in-Some.is at found

pub returns-in-None-clause-cut : goal.returns-in-None-clause-cut
returns-in-None-clause-cut c =
    let found = line-behind c.args.bytes.now c.split_at.result.1.now c.args.seen c.memchr.result c.split_at.ensures.back c.requires.within c.requires.known c.memchr.ensures in
    rw c.in-None.is at found
