use Rattle.std.proofs.Common.{◌∙◌, ap, refl, subst}
use Rattle.dex_state.specs.Outcomes.{outcome_of}
use Rattle.dex_script_types.specs.PlainScript.{PlainScript}
use Rattle.dex_replay.specs.Replays.{IsReplayOf}
use Rattle.dex_replay.specs.Runs.{IsRunOf}
use Rattle.dex_stream.proofs.BetweenLaws.{has-acted, part-places, part-script}
use Rattle.dex_stream.proofs.parts.act_part.Goals as goal

pub into_part-requires-clause-script : goal.into_part-requires-clause-script
into_part-requires-clause-script c =
    part-script c.args.limits.now c.requires.0 c.args.before c.args.rows.now c.requires.1 c.requires.2 c.in-Ok.read c.of_plain.result c.of_plain.ensures
    c.in-Ok.ensures.told c.in-Some.items c.in-Some.ensures

pub into_part-requires-clause-places : goal.into_part-requires-clause-places
into_part-requires-clause-places c =
    part-places c.args.limits.now c.requires.0 c.args.before c.args.rows.now c.requires.1 c.requires.2 c.in-Ok.read c.of_plain.result c.of_plain.ensures
    c.in-Ok.ensures.told c.in-Some.items c.in-Some.ensures

pub returns : goal.returns
returns c = λ text left between.
    let outcome = outcome_of c.in_ok-outcome.outcome in
    let told = c.in_ok-outcome.ensures in
    let is = c.in_ok-script.ensures.script in
    has-acted c.args.limits.now text c.args.before c.args.rows.now left between c.in-Ok.read c.of_plain.result c.of_plain.ensures c.in-Ok.ensures.told
    c.in-Some.items c.in-Some.ensures outcome (subst (λ (s : PlainScript). IsReplayOf s outcome) is told.outcome)
    (λ one left_of_it is_one replays. c.what_one_order_leaves_is_a_run.ensures one left_of_it is_one (c.a_replay_is_in_one_order.ensures one left_of_it is_one replays))
    (subst (λ (s : PlainScript). IsRunOf s outcome) is told.run)
    (record {
      rows = c.in_ok-outcome.rows;
      markets = c.in_ok-outcome.outcome.markets;
      wallets = c.in_ok-outcome.outcome.wallets;
      next = record {
        accounts = c.in_ok-outcome.outcome.accounts;
        items = c.in-Some.items;
        reader = c.in_ok-script.reader;
        number = c.read_rows.new.number;
      };
    })
    c.in-Ok.ensures.number c.in_ok-script.ensures.reader refl refl (told.rows ∙ ap (λ (s : PlainScript). s.rows) is) refl refl
