use Rattle.std.proofs.Common.{◌≡◌, ◌≤◌, ◌-◌, drop, length}
use Rattle.dex_desk.specs.Talks.{Session, Talked, talk}
use Rattle.dex_desk.proofs.speaking.say_all.Given as goal

abbrev pub invariant-loop-sent : goal.invariant-loop-sent
invariant-loop-sent g l = record {
  within : l.sent ≤ length l.text;
  said : (session : Session) → Talked (g.D.Desk.turns l.fn.desk) (g.D.Desk.turns l.desk) (talk session l.text) (talk session (drop l.sent l.text));
  later : g.D.Desk.mute l.fn.desk ≤ g.D.Desk.mute l.desk;
  apart : g.D.Desk.deaf l.desk ≡ g.D.Desk.deaf l.fn.desk;
}

abbrev pub decreases-loop-sent : goal.decreases-loop-sent
decreases-loop-sent g l = length l.text - l.sent
