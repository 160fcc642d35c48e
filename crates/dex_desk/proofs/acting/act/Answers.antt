use Rattle.std.proofs.Common.{◌≡◌, ◌∙◌, ◌++◌, ℕ, List, [], ◌∷◌, ap, arith, inl, inr, length, map, refl, rules, subst, sym}
use Rattle.std.proofs.lemmas.List.{append-nil}
use Rattle.dex_replay.specs.Replays.{IsReplayOf}
use Rattle.dex_replay.specs.Runs.{IsRunOf}
use Rattle.dex_types.specs.declared.rows.Row.{Row}
use Rattle.dex_types.specs.Rows.{row_of}
use Rattle.dex_state.specs.declared.outcome.MarketJournal.{MarketJournal}
use Rattle.dex_state.specs.Outcomes.{market_journal_of, outcome_of}
use Rattle.dex_script_types.specs.PlainScript.{PlainScript}
use Rattle.dex_script.specs.Names.{AreNames}
use Rattle.dex_desk.specs.Replies.{answers_to}
use Rattle.dex_desk.proofs.KeptNames.{names-kept}
use Rattle.dex_desk.proofs.acting.act.Goals as goal

empty : {A : Type 0} (xs : List A) → length xs ≡ 0 → xs ≡ []
empty [] is = refl
empty (x ∷ xs) is = absurd (omega (arith, is))

pub returns-then-len-eq0-clause-acted : goal.returns-then-len-eq0-clause-acted
returns-then-len-eq0-clause-acted c = record {
  said = [];
  text = sym (append-nil c.args.text.now.items);
  acted = inl (record { none = empty c.args.block.draft.script.rows (sym c.len.ensures ∙ c.if-len-eq0.true); same = refl; quiet = refl });
}

pub returns-clause-acted : goal.returns-clause-acted
returns-clause-acted c =
    let outcome = outcome_of c.in_ok-outcome.outcome in
    let script = c.in_ok-script.ensures.script in
    let told =
    ap (λ (js : List MarketJournal). answers_to (map market_journal_of js) (map row_of c.deref-2.result.now)) c.deref.ensures.value
    ∙ ap (λ (rows : List Row). answers_to outcome.markets (map row_of rows)) c.deref-2.ensures.value
    ∙ ap (answers_to outcome.markets) (c.in_ok-outcome.ensures.rows ∙ ap (λ (s : PlainScript). s.rows) script) in
    record {
      said = answers_to outcome.markets c.args.block.draft.script.rows;
      text = c.in-Ok.ensures ∙ ap (λ (l : List ℕ). c.args.text.now.items ++ l) told;
      acted = inr (record {
        some = omega (arith, c.len.ensures, c.if-len-eq0.false);
        outcome = outcome;
        replay = subst (λ (s : PlainScript). IsReplayOf s outcome) script c.in_ok-outcome.ensures.outcome;
        run = subst (λ (s : PlainScript). IsRunOf s outcome) script c.in_ok-outcome.ensures.run;
        told = refl;
        left = search rules;
      });
    }

pub of-requires-clause-names : goal.of-requires-clause-names
of-requires-clause-names c =
    let names = c.in_ok-script.behind.names in
    names-kept names c.in_ok-script.script (outcome_of c.in_ok-outcome.outcome)
    (subst (λ (s : PlainScript). AreNames names s.start) (sym c.in_ok-script.ensures.script) c.in_ok-script.ensures.names)
    c.in_ok-outcome.ensures.outcome.start
