use Rattle.std.proofs.Common.{◌≡◌, ◌∙◌, ap, map, refl, subst, sym}
use Rattle.dex_types.specs.Accounts.{PlainAccounts, accounts_of}
use Rattle.dex_types.specs.Rows.{row_of}
use Rattle.dex_state.specs.Outcomes.{PlainOutcome, outcome_of}
use Rattle.dex_script_types.specs.Facts.{IsScript}
use Rattle.dex_script_types.specs.PlainScript.{PlainScript}
use Rattle.dex_stream.specs.Heard.{unplayed}
use Rattle.dex_stream.proofs.NextLaws.{behind-none, first-next, without}
use Rattle.dex_stream.proofs.playing.play_script.Goals as goal

pub returns : goal.returns
returns g c =
    let heard = g.L.Listener.heard in
    let script = c.args.script in
    let outcome = outcome_of c.in_ok-outcome.outcome in
    let left = c.in_ok-outcome.ensures in
    let is = subst IsScript c.script.view_is c.script.invariant.0 in
    let start : accounts_of c.script.inside.start ≡ script.start = ap (λ (s : PlainScript). s.start) c.script.view_is in
    let begun : heard c.in_ok-listener.listener (without script) (unplayed script.start) =
    subst (λ (s : PlainAccounts). heard c.in_ok-listener.listener (without script) (unplayed s)) start
    (c.in_ok-listener.ensures (without script) (sym start) refl) in
    record {
      outcome = outcome;
      acted = record { is_script = is; replay = left.outcome; run = left.run; leaves = refl; counts = c.items-items.ensures };
      hears =
          subst (λ (o : PlainOutcome). heard c.hear.new.self script o) (behind-none script outcome left.outcome.start)
          (c.in_ok-hear.ensures (without script) script script (unplayed script.start) outcome (first-next script outcome is left.outcome left.run)
          (ap (map row_of) c.deref.ensures.value ∙ left.rows) refl refl begun);
    }
