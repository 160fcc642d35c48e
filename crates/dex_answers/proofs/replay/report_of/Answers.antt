use Rattle.dex_answers.proofs.HeardLaws.{reported}
use Rattle.dex_answers.proofs.replay.report_of.Goals as goal

pub returns : goal.returns
returns c = λ limits bytes heard. reported limits bytes c.args.played _ c.in_ok-pieces.ensures.fits c.in_ok-pieces.ensures.text heard
