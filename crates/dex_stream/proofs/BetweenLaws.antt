-- From one part of a text to the next.
use Rattle.std.proofs.Common.{◌≡◌, ◌∙◌, ◌+◌, ◌≤◌, ◌++◌, ℕ, IfSome, List, [], Option, Some, false, Ok, ap, arith, map, refl, subst, sym}
use Rattle.dex_types.specs.declared.limits.Limits.{Limits}
use Rattle.dex_types.specs.Accounts.{PlainAccounts, accounts_of}
use Rattle.dex_types.specs.Rows.{row_of}
use Rattle.dex_rows.specs.Records.{Fields}
use Rattle.dex_state.specs.Outcomes.{PlainOutcome, market_journal_of, wallet_journal_of}
use Rattle.dex_script_types.specs.PlainScript.{PlainScript}
use Rattle.dex_script_types.specs.Facts.{IsScript, IsStart}
use Rattle.dex_script.specs.Begun.{IsBegun, left_in}
use Rattle.dex_script.specs.Drafts.{PlainDraft}
use Rattle.dex_script.specs.Pieces.{HaveSamePlaces, IsReadyBehind, IsUnderway, cleared, joined, number_after, part_of}
use Rattle.dex_script.specs.Scripts.{ReadsWithin, draft_after}
use Rattle.dex_script.proofs.BegunLaws.{begun-on}
use Rattle.dex_script.proofs.PartLaws.{IsPart, is-part}
use Rattle.dex_script.proofs.PieceLaws.{beside-ready, stays-behind}
use Rattle.dex_replay.specs.Replays.{IsReplayOf}
use Rattle.dex_replay.specs.Runs.{IsRunOf}
use Rattle.dex_parts.specs.Chains.{AreTwoParts, outcome_behind}
use Rattle.dex_parts.proofs.ChainLaws.{two-are-one}
use Rattle.dex_stream.specs.declared.parts.Acted.{Acted}
use Rattle.dex_stream.specs.declared.parts.Behind.{Behind}
use Rattle.dex_stream.specs.declared.parts.Playing.{Playing}
use Rattle.dex_stream.specs.declared.playing.Played.{Played}
use Rattle.dex_stream.specs.Heard.{HasActed, HasPlayed, IsHeard}
use Rattle.dex_stream.specs.Parts.{HasActedNext, IsBehind, IsBetween, IsHeardSoFar}
use Rattle.dex_stream.proofs.NextLaws.{apart, next-is, places-kept}

-- a script so far is one
pub so-far : (limits : Limits) (text : List ℕ) (draft : PlainDraft) (number : ℕ) (left : List Fields) → IsBegun limits false text draft number left
    → IsScript draft.script
so-far limits text draft number left begun =
    record { start = subst (λ (l : Limits). IsStart l draft.script.start) (sym begun.within) begun.start; rows = begun.good.rows }

-- a replay is a run
abbrev pub RunsOfReplays : Type 0
RunsOfReplays = (script : PlainScript) (outcome : PlainOutcome) → IsScript script → IsReplayOf script outcome → IsRunOf script outcome

module _ (limits : Limits) (text : List ℕ) where
  -- where no rows are left it is the whole
  pub all-read : (draft : PlainDraft) (number : ℕ) (left : List Fields) → left ≡ [] → IsBegun limits false text draft number left
      → ReadsWithin limits false text draft.script
  all-read draft number left none begun = (subst (IsBegun limits false text draft number) none begun).tells (Ok draft) refl

  -- the rows of the first part are read
  pub first-read : (draft read : PlainDraft) (number after : ℕ) (rows : Option (List Fields)) (all plain part left fed : List Fields)
      → IsBegun limits false text draft number (left_in rows) → IfSome rows (λ some. IsUnderway draft) → rows ≡ Some all → plain ≡ all
      → plain ≡ part ++ left → fed ≡ part → draft_after draft number fed ≡ Ok read → after ≡ number_after number fed
      → IsBegun limits false text read after left × IsUnderway read
  first-read draft read number after rows all plain part left fed begun stands some is cut same told at =
      let under : IsUnderway draft = subst (λ (r : Option (List Fields)). IfSome r (λ found. IsUnderway draft)) some stands in
      let parts : left_in rows ≡ fed ++ left = ap left_in some ∙ sym is ∙ cut ∙ ap (λ (l : List Fields). l ++ left) (sym same) in (
        begun-on limits false text draft number (left_in rows) begun read after left under.late (record { front = fed; parts = parts; read = told; next = at }),
        (stays-behind draft number read fed under told).under,
      )

  -- ---- one more part

  -- these rows were read beside the script so far
  module _ (playing : Playing) (rows left : List Fields) (between : IsBetween limits text playing (rows ++ left)) (piece : PlainDraft) (all : List Fields)
      (same : all ≡ rows) (read : draft_after playing.reader playing.number all ≡ Ok piece) (count : ℕ)
      (few : (count ≡ playing.items + piece.items) × (count ≤ limits.items)) where
    abbrev before : PlainDraft
    before = between.before

    abbrev accounts : PlainAccounts
    accounts = accounts_of playing.accounts

    part-read : IsPart before playing.number rows piece accounts
    part-read =
        let begun = between.begun in
        let acted = between.acted in
        is-part before playing.reader playing.number rows piece accounts begun.good between.reader
        (subst (HaveSamePlaces before.script.start) acted.leaves (places-kept before.script between.outcome acted.replay.start))
        (ap (draft_after playing.reader playing.number) (sym same) ∙ read)
        (omega (arith, begun.good.items, acted.counts, ap (λ (l : Limits). l.items) begun.within, few))

    pub part-script : IsScript (part_of piece accounts)
    part-script =
        let run = between.acted.run in
        let last : IsStart before.script.limits between.outcome.accounts =
        record { accepted = run.accepted; sound = run.sound; conserved = run.conserved } in
        record {
          start = subst (λ (l : Limits). IsStart l accounts) (sym part-read.ready.alike.limits) (subst (IsStart before.script.limits) between.acted.leaves last);
          rows = part-read.order;
        }

    pub part-places : HaveSamePlaces piece.script.start accounts
    part-places = part-read.places

    abbrev whole : PlainScript
    whole = (joined before piece).script

    parts : AreTwoParts whole before.script between.outcome (part_of piece accounts)
    parts = record {
      rows = refl;
      cut = apart playing.number before.script.rows piece.script.rows between.begun.good.below part-read.from;
      start = refl;
      goes_on = sym between.acted.leaves;
      program = refl;
      same_program = part-read.ready.program;
      limits = refl;
      same_limits = part-read.ready.alike.limits;
    }

    begun-next : (number : ℕ) → number ≡ number_after playing.number all → IsBegun limits false text (joined before piece) number left
    begun-next number at =
        begun-on limits false text before playing.number (rows ++ left) between.begun (joined before piece) number left between.reader.alike.draft_underway.late
        (record { front = rows; parts = refl; read = part-read.read; next = at ∙ ap (number_after playing.number) same })

    -- its items have acted
    module _ (outcome : PlainOutcome) (replay : IsReplayOf (part_of piece accounts) outcome) where
      pub has-acted : RunsOfReplays → IsRunOf (part_of piece accounts) outcome → (acted : Acted) → acted.next.number ≡ number_after playing.number all
          → acted.next.reader ≡ cleared piece → acted.next.items ≡ count → outcome.accounts ≡ accounts_of acted.next.accounts
          → map row_of acted.rows.items ≡ piece.script.rows → map market_journal_of acted.markets.items ≡ outcome.markets
          → map wallet_journal_of acted.wallets.items ≡ outcome.wallets → HasActedNext limits text playing (rows ++ left) between acted left
      has-acted runs run acted at reader items leaves rows_are markets wallets =
          let begun = begun-next acted.next.number at in
          let is = so-far limits text (joined before piece) acted.next.number left begun in
          let last = outcome_behind between.outcome outcome in
          let both = two-are-one whole before.script (part_of piece accounts) between.outcome outcome parts between.acted.replay replay in record {
            part = part_of piece accounts;
            outcome = outcome;
            now = record {
              before = joined before piece;
              outcome = last;
              begun = begun;
              acted = record {
                is_script = is;
                replay = both;
                run = runs whole last is both;
                leaves = leaves;
                counts = items ∙ few.0 ∙ ap (λ (n : ℕ). n + piece.items) (between.acted.counts ∙ sym between.begun.good.items) ∙ begun.good.items;
              };
              reader = subst (IsReadyBehind (joined before piece)) (sym reader) part-read.ready;
            };
            is_next = next-is before.script (part_of piece accounts) whole between.outcome outcome parts part-script between.acted.replay replay run;
            together = refl;
            rows_are = rows_are;
            markets = markets;
            wallets = wallets;
          }

  -- ---- a listener

  module _ {L : Type 0} (heard : L → PlainScript → PlainOutcome → Type 0) where
    pub first-heard : (script : PlainScript) (first : Played L) (behind : Behind) → HasPlayed heard script first → IsBehind limits text script behind
        → IsHeardSoFar heard limits text first.listener
        (record { accounts = first.accounts; items = first.items; reader = behind.reader; number = behind.number }) behind.rows
    first-heard script first behind plays is =
        let draft = is.draft in
        let acted : HasActed draft.script plays.outcome (accounts_of first.accounts) first.items =
        subst (λ (s : PlainScript). HasActed s plays.outcome (accounts_of first.accounts) first.items) (sym is.is_script) plays.acted in record {
          between = record {
            before = draft;
            outcome = plays.outcome;
            begun = is.begun;
            acted = acted;
            reader = subst (IsReadyBehind draft) (sym is.reader) (beside-ready draft draft.clock is.underway refl);
          };
          hears = subst (λ (s : PlainScript). heard first.listener s plays.outcome) (sym is.is_script) plays.hears;
        }

    pub heard-next : (playing : Playing) (rows left : List Fields) (between : IsBetween limits text playing rows) (acted : Acted) (listener : L)
        (next : HasActedNext limits text playing rows between acted left)
        → heard listener next.now.before.script (outcome_behind between.outcome next.outcome) → IsHeardSoFar heard limits text listener acted.next left
    heard-next playing rows left between acted listener next hears =
        record { between = next.now; hears = subst (heard listener next.now.before.script) (sym next.together) hears }

    pub all-heard : (listener : L) (playing : Playing) (left : List Fields) → left ≡ [] → IsHeardSoFar heard limits text listener playing left
        → IsHeard heard limits text (record { listener = listener; accounts = playing.accounts; items = playing.items })
    all-heard listener playing left none so =
        let between = so.between in record {
          script = between.before.script;
          reads = all-read between.before playing.number left none between.begun;
          plays = record { outcome = between.outcome; acted = between.acted; hears = so.hears };
        }
