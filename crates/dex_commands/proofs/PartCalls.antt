-- The calls that a journal of a script in two parts tells: those of the first, and behind them those of the second.
use Rattle.std.proofs.Common.{◌≡◌, ◌==◌, ℕ, Bool, true, false, List, [], ◌∷◌, ◌++◌, append-nil, cond, map, Option, Some, None, is_some, refl, sym, ap, ◌∙◌, subst, ⊎_elim}
use Rattle.std.specs.List.{All}
use Rattle.std.specs.Option.{unwrap_or}
use Rattle.std.proofs.lemmas.Bool.{and_left, and_parts, cases_Bool, cond-false, cond-true, eqb-true, false≢true}
use Rattle.std.proofs.lemmas.List.Elements.{All-head, All-tail}
use Rattle.dex_types.specs.declared.addresses.Address.{Address}
use Rattle.dex_types.specs.declared.movements.Entry.{Entry}
use Rattle.dex_types.specs.declared.movements.Movement.{Movement}
use Rattle.dex_types.specs.declared.rows.WalletSeen.{WalletSeen}
use Rattle.dex_types.specs.Accounts.{PlainAccount, PlainAccounts}
use Rattle.dex_types.specs.Addresses.{is_same}
use Rattle.dex_types.specs.Rows.{PlainRow}
use Rattle.dex_history.specs.Journal.{Call, asked_of, front}
use Rattle.dex_world.specs.Items.{Item, items_of}
use Rattle.dex_world.specs.World.{WalletState}
use Rattle.dex_state.specs.Outcomes.{PlainOutcome}
use Rattle.dex_script_types.specs.Firsts.{first_of}
use Rattle.dex_script_types.specs.PlainScript.{PlainScript}
use Rattle.dex_replay.proofs.MappedLists.{map-map}
use Rattle.dex_replay.specs.EntryCalls.{before_of, call_by, call_told, calls_told, is_row_on, role_told, wallet_told, with_call}
use Rattle.dex_replay.specs.Replays.{IsReplayOf, wallet_state, world_after}
use Rattle.dex_parts.specs.Chains.{AreTwoParts, IsCut}
use Rattle.dex_parts.specs.Together.{bare_wallet}
use Rattle.dex_parts.proofs.KeptLaws.{named}
use Rattle.dex_parts.proofs.LeftLaws.{named-left, wallets-told}
use Rattle.dex_worth.proofs.Calling.{parts}
use Rattle.dex_commands.specs.Worths.{SeesAlike}

-- ---- what an entry tells of wallets

-- it looks at a wallet without its balance
role-named : (address : Address) (moves : List Movement) (wallets : List PlainAccount)
    → first_of (λ (wallet : PlainAccount). is_same address wallet.address) (wallet_told moves) wallets
    ≡ first_of (λ (seen : WalletSeen). is_same address seen.address) (λ (seen : WalletSeen). record seen { balance = before_of seen.address moves })
    (map named (map wallet_state wallets))
role-named address moves [] = refl
role-named address moves (wallet ∷ wallets) = ap (cond (is_same address wallet.address) (Some (wallet_told moves wallet))) (role-named address moves wallets)

-- and items leave wallets with other balances alone
pub sees-left : (script : PlainScript) (outcome : PlainOutcome) → IsReplayOf script outcome → SeesAlike script.start outcome.accounts
sees-left script outcome left = record { roles = roles; srm = left.start.srm; msrm = left.start.msrm }
  where
    same : map named (map wallet_state outcome.accounts.wallets) ≡ map named (map wallet_state script.start.wallets)
    same =
        let items : List Item = items_of script.rows in
        let states : List WalletState = (world_after script items).wallets in
        ap (map named) (wallets-told script items outcome left) ∙ map-map bare_wallet named states ∙ named-left script items outcome left

    roles : (moves : List Movement) (role : Option Address) → role_told outcome.accounts.wallets moves role ≡ role_told script.start.wallets moves role
    roles moves None = refl
    roles moves (Some address) =
        role-named address moves outcome.accounts.wallets
        ∙ ap (first_of (λ (seen : WalletSeen). is_same address seen.address) (λ (seen : WalletSeen). record seen { balance = before_of seen.address moves })) same
        ∙ sym (role-named address moves script.start.wallets)

pub sees-on : (first middle last : PlainAccounts) → SeesAlike first middle → SeesAlike middle last → SeesAlike first last
sees-on first middle last one two = record {
  roles = λ moves role. two.roles moves role ∙ one.roles moves role;
  srm = two.srm ∙ one.srm;
  msrm = two.msrm ∙ one.msrm;
}

-- ---- the first that passes

first-front : {X Y : Type 0} (test : X → Bool) (tell : X → Y) (xs ys : List X) (y : Y) → first_of test tell xs ≡ Some y → first_of test tell (xs ++ ys) ≡ Some y
first-front test tell [] ys y found = absurd (false≢true (ap is_some found))
first-front test tell (x ∷ xs) ys y found =
    ⊎_elim
    (λ (here : test x ≡ true).
    cond-true (test x) (Some (tell x)) (first_of test tell (xs ++ ys)) here ∙ sym (cond-true (test x) (Some (tell x)) (first_of test tell xs) here) ∙ found)
    (λ (away : test x ≡ false).
    cond-false (test x) (Some (tell x)) (first_of test tell (xs ++ ys)) away
    ∙ first-front test tell xs ys y (sym (cond-false (test x) (Some (tell x)) (first_of test tell xs) away) ∙ found))
    (cases_Bool (test x))

-- a row of no number among those behind is not the one of an entry that is told by these
other-number : (market : Address) (number : ℕ) (tell : PlainRow → Call) (row : PlainRow) (later : List PlainRow) (call : Call)
    → All (λ (other : PlainRow). (row.number == other.number) ≡ false) later → first_of (is_row_on market number) tell later ≡ Some call → is_row_on market number row ≡ false
other-number market number tell row [] call apart found = absurd (false≢true (ap is_some found))
other-number market number tell row (other ∷ later) call apart found =
    let Apart : PlainRow → Type 0 = λ (one : PlainRow). (row.number == one.number) ≡ false in
    ⊎_elim
    (λ (here : is_row_on market number other ≡ true).
    let is : other.number ≡ number = eqb-true other.number number (and_parts (other.number == number) (is_same other.market market) here).0 in
    and_left (row.number == number) (is_same row.market market) (subst (λ (n : ℕ). (row.number == n) ≡ false) is (All-head Apart other later apart)))
    (λ (away : is_row_on market number other ≡ false).
    other-number market number tell row later call (All-tail Apart other later apart)
    (sym (cond-false (is_row_on market number other) (Some (tell other)) (first_of (is_row_on market number) tell later) away) ∙ found))
    (cases_Bool (is_row_on market number other))

first-behind : (market : Address) (number : ℕ) (tell : PlainRow → Call) (rows later : List PlainRow) (call : Call) → IsCut rows later
    → first_of (is_row_on market number) tell later ≡ Some call → first_of (is_row_on market number) tell (rows ++ later) ≡ Some call
first-behind market number tell [] later call cut found = found
first-behind market number tell (row ∷ rows) later call cut found =
    let Apart : PlainRow → Type 0 = λ (one : PlainRow). All (λ (other : PlainRow). (one.number == other.number) ≡ false) later in
    cond-false (is_row_on market number row) (Some (tell row)) (first_of (is_row_on market number) tell (rows ++ later))
    (other-number market number tell row later call (All-head Apart row rows cut) found)
    ∙ first-behind market number tell rows later call (All-tail Apart row rows cut) found

-- ---- calls

-- where each call of one script is that of another, so are the calls, before others
calls-agree : (one other : PlainScript) (market : Address) → ((entry : Entry) (call : Call) → call_told one market entry ≡ Some call → call_told other market entry ≡ Some call)
    → (entries later : List Entry) (calls more : List Call) → calls_told one market entries ≡ Some calls → calls_told other market later ≡ Some more
    → calls_told other market (entries ++ later) ≡ Some (calls ++ more)
calls-agree one other market same [] later calls more told after = after ∙ ap (λ (some : Option (List Call)). Some (unwrap_or some [] ++ more)) told
calls-agree one other market same (entry ∷ entries) later calls more told after =
    let p = parts (call_told one market entry) (calls_told one market entries) calls told in
    ap (λ (call : Option Call). with_call call (calls_told other market (entries ++ later))) (same entry p.call p.first)
    ∙ ap (with_call (Some p.call)) (calls-agree one other market same entries later p.others more p.behind after)
    ∙ ap (λ (some : List Call). Some (some ++ more)) (sym p.are)

-- a call tells of its script what its row sees
call-same : (one other : PlainScript) → SeesAlike one.start other.start → one.program ≡ other.program → (entry : Entry) (row : PlainRow)
    → call_by other entry row ≡ call_by one entry row
call-same one other sees program entry row = λ i. record {
  asked = asked_of row;
  seen = record {
    coin = sees.roles (front entry.moves) row.coin i;
    pc = sees.roles (front entry.moves) row.pc i;
    discount = sees.roles (front entry.moves) row.discount i;
    referrer = sees.roles (front entry.moves) row.referrer i;
    srm = sees.srm i;
    msrm = sees.msrm i;
    program = (sym program) i;
  };
  entry = entry;
}

module _ (whole before part : PlainScript) (left : PlainOutcome) (are : AreTwoParts whole before left part) (sees : SeesAlike before.start left.accounts) (market : Address) where
  call-front : (entry : Entry) (call : Call) → call_told before market entry ≡ Some call → call_told whole market entry ≡ Some call
  call-front entry call told =
      let one : SeesAlike whole.start before.start = record {
        roles = λ moves role. ap (λ (start : PlainAccounts). role_told start.wallets moves role) are.start;
        srm = ap (λ (start : PlainAccounts). start.srm) are.start;
        msrm = ap (λ (start : PlainAccounts). start.msrm) are.start;
      } in
      ap (first_of (is_row_on market entry.row) (call_by whole entry)) are.rows
      ∙ first-front (is_row_on market entry.row) (call_by whole entry) before.rows part.rows call
      ((λ i. first_of (is_row_on market entry.row) (λ (row : PlainRow). (sym (call-same whole before one (sym are.program) entry row)) i) before.rows) ∙ told)

  call-behind : (entry : Entry) (call : Call) → call_told part market entry ≡ Some call → call_told whole market entry ≡ Some call
  call-behind entry call told =
      let one : SeesAlike whole.start part.start = record {
        roles = λ moves role. ap (λ (start : PlainAccounts). role_told start.wallets moves role) are.goes_on ∙ sees.roles moves role
            ∙ ap (λ (start : PlainAccounts). role_told start.wallets moves role) are.start;
        srm = ap (λ (start : PlainAccounts). start.srm) are.goes_on ∙ sees.srm ∙ ap (λ (start : PlainAccounts). start.srm) are.start;
        msrm = ap (λ (start : PlainAccounts). start.msrm) are.goes_on ∙ sees.msrm ∙ ap (λ (start : PlainAccounts). start.msrm) are.start;
      } in
      ap (first_of (is_row_on market entry.row) (call_by whole entry)) are.rows
      ∙ first-behind market entry.row (call_by whole entry) before.rows part.rows call are.cut
      ((λ i. first_of (is_row_on market entry.row) (λ (row : PlainRow). (sym (call-same whole part one (sym are.same_program) entry row)) i) part.rows) ∙ told)

  pub calls-behind : (entries later : List Entry) (calls more : List Call) → calls_told before market entries ≡ Some calls → calls_told part market later ≡ Some more
      → calls_told whole market (entries ++ later) ≡ Some (calls ++ more)
  calls-behind entries later calls more told after =
      calls-agree before whole market call-front entries later calls more told
      (ap (calls_told whole market) (sym (append-nil later))
      ∙ calls-agree part whole market call-behind later [] more [] after refl
      ∙ ap (λ (some : List Call). Some some) (append-nil more))
