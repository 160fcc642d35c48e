use Rattle.std.proofs.Common.{◌≡◌, []}
use Rattle.dex_desk.specs.Serving.{AreLater}
use Rattle.dex_desk.specs.Talks.{Talked, first, talk}
use Rattle.dex_desk.specs.Talks.Session.{Sets}
use Rattle.dex_desk.proofs.opening.set_up.Given as goal

abbrev pub invariant-turns : goal.invariant-turns
invariant-turns g l = record {
  talked : Talked (g.D.Desk.turns l.fn.desk) (g.D.Desk.turns l.desk) first (talk (Sets l.kept.items l.inbox) []);
  quiet : l.text.items ≡ [];
  later : AreLater (g.D.Desk.deaf l.fn.desk) (g.D.Desk.mute l.fn.desk) (g.D.Desk.deaf l.desk) (g.D.Desk.mute l.desk);
}
