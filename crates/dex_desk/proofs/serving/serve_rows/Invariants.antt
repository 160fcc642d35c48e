use Rattle.std.proofs.Common.{◌≡◌, []}
use Rattle.dex_desk.specs.Serving.{AreLater}
use Rattle.dex_desk.specs.Talks.{Talked, talk}
use Rattle.dex_desk.specs.Talks.Session.{Serves}
use Rattle.dex_desk.proofs.serving.serve_rows.Given as goal

abbrev pub invariant-turns : goal.invariant-turns
invariant-turns g l = record {
  talked : Talked (g.D.Desk.turns l.fn.desk) (g.D.Desk.turns l.desk) (talk (Serves l.fn.block l.fn.inbox) []) (talk (Serves l.block l.inbox) []);
  quiet : l.buffers.text.items ≡ [];
  later : AreLater (g.D.Desk.deaf l.fn.desk) (g.D.Desk.mute l.fn.desk) (g.D.Desk.deaf l.desk) (g.D.Desk.mute l.desk);
}
