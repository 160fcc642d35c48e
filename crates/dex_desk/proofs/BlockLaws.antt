-- Blocks with one row more, and the script that a block is.
use Rattle.std.proofs.Common.{◌≡◌, ◌∙◌, ℕ, ℤ, get_or, map, ◌+◌, ◌-◌, ◌^◌, ◌≤◌, ◌<◌, ◌||◌, ◌==◌, Bool, true, false, max, nat_le, List, [], ◌∷◌, ◌++◌, All, Option, Some, None, Result, Ok, Err, ap, append_assoc, arith, length, refl, subst, sym}
use Rattle.std.specs.List.{position}
use Rattle.std.proofs.lemmas.Option.{none-some}
use Rattle.dex_types.specs.declared.limits.Limits.{Limits}
use Rattle.dex_types.specs.declared.limits.TheConstants.{WIDE}
use Rattle.dex_types.specs.declared.account_bytes.MarketAccounts.{MarketAccounts}
use Rattle.dex_types.specs.Rows.{PlainRow}
use Rattle.dex_statement.specs.declared.faults.FaultKind.{FaultKind}
use Rattle.dex_statement.specs.declared.faults.FaultKind.TheVariants.{BadSwap, OverLimit, UnknownLabel}
use Rattle.dex_statement.specs.declared.statement.Statement.{Statement}
use Rattle.dex_statement.specs.declared.statement.Statement.TheVariants as statement
use Rattle.dex_statement.specs.Stated.{PlainInstruction, PlainSwap}
use Rattle.dex_statement.specs.Faults.{◌>>=◌}
use Rattle.dex_statement.specs.Statements.{statement_of}
use Rattle.dex_statement.specs.Words.{Fields}
use Rattle.dex_dump.specs.Answers.{next_number}
use Rattle.dex_script_types.specs.Facts.{IsScript, IsStart}
use Rattle.dex_script.specs.Drafts.{PlainDraft}
use Rattle.dex_script.specs.Pieces.{number_after}
use Rattle.dex_script.specs.Rows.{exceeds_row, instruction_row, is_bad_swap, is_full, with_clock, with_instruction, with_item, with_known, with_legs, with_row, with_statement, with_two}
use Rattle.dex_script.proofs.ItemRows.{first_leg, second_leg}
use Rattle.dex_script.specs.Scripts.{Refusal, draft_after, fault_in, script_from}
use Rattle.dex_script.proofs.FaultLaws.{ok-same}
use Rattle.dex_script.proofs.OrderLaws.{first-good, first-row, from-rows}
use Rattle.std.proofs.lemmas.List.{get_or-map, length-map}
use Rattle.dex_accounts.specs.Accepted.{IsAccepted}
use Rattle.dex_types.specs.declared.addresses.Address.{Address}
use Rattle.dex_types.specs.declared.terms.Program.{Program}
use Rattle.dex_types.specs.Accounts.{PlainAccounts, PlainMarketAccounts, market_accounts_of}
use Rattle.dex_script.proofs.FirstLaws.{first-at, first-none, is-first, none-passes}
use Rattle.dex_desk.specs.Books.{found_market}
use Rattle.dex_script.specs.declared.names.Names.{Names}
use Rattle.dex_script.specs.declared.names.Stand.{Stand}
use Rattle.dex_desk.specs.Blocks.{IsBlock, PlainBlock, no_rows_of, with_both, with_words}
use Rattle.dex_script.specs.Names.{AreNames, FindsAmong, FindsIn, StandAt}
use Rattle.dex_types.specs.Addresses.{is_same}
use Rattle.std.proofs.lemmas.Bool.{eqb-false}
use Rattle.dex_script.proofs.FaultLaws.{or-none}
use Rattle.dex_script.proofs.NameLaws.{by-names, found-in, known, unknown}

-- what a row does that states this
pub row-is : (draft : PlainDraft) (number : ℕ) (row : Fields) (st : Statement) → statement_of row ≡ Ok st → with_row draft number row ≡ with_statement draft number st
unfolding with_row
row-is draft number row st is = ap (λ (r : Result Statement FaultKind). r >>= with_statement draft number) is

-- ---- one row more

number-more : (number : ℕ) (rows : List Fields) (row : Fields) → number_after number (rows ++ row ∷ []) ≡ next_number (number_after number rows)
number-more number [] row = refl
number-more number (first ∷ rows) row = number-more (next_number number) rows row

read-more : (draft : PlainDraft) (number : ℕ) (rows : List Fields) (last after : PlainDraft) (row : Fields) → draft_after draft number rows ≡ Ok last
    → with_row last (number_after number rows) row ≡ Ok after → draft_after draft number (rows ++ row ∷ []) ≡ Ok after
read-more draft number [] last after row is more =
    let same : draft ≡ last = ok-same {E = Refusal} draft last is in
    let here : with_row draft number row ≡ Ok after = ap (λ (d : PlainDraft). with_row d number row) same ∙ more in
    ap (λ (r : Result PlainDraft FaultKind). fault_in number r >>= λ next. draft_after next (next_number number) []) here
read-more draft number (first ∷ rows) last after row is more =
    let a = first-row number draft last first rows is in
    ap (λ (r : Result PlainDraft FaultKind). fault_in number r >>= λ next. draft_after next (next_number number) (rows ++ row ∷ [])) a.1
    ∙ read-more a.0 (next_number number) rows last after row a.2 more

pub block-more : (block : PlainBlock) (after : PlainDraft) (row : Fields) → IsBlock block → with_row block.draft block.number row ≡ Ok after
    → after.script.start ≡ block.draft.script.start → after.script.program ≡ block.draft.script.program
    → IsBlock (record { draft = after; number = next_number block.number })
block-more block after row is more start program =
    let here : with_row block.draft (number_after is.first is.rows) row ≡ Ok after = ap (λ (n : ℕ). with_row block.draft n row) (sym is.next) ∙ more in
    record {
      first = is.first;
      clock = is.clock;
      rows = is.rows ++ row ∷ [];
      small = is.small;
      read = ap (λ d. draft_after d is.first (is.rows ++ row ∷ [])) (ap (λ s. no_rows_of s after.script.program is.clock) start ∙ ap (λ p. no_rows_of block.draft.script.start p is.clock) program)
          ∙ read-more (no_rows_of block.draft.script.start block.draft.script.program is.clock) is.first is.rows block.draft after row is.read here;
      next = ap next_number is.next ∙ sym (number-more is.first is.rows row);
      start = subst (IsStart WIDE) (sym start) is.start;
    }

-- ---- a block is a script so far

pub is-script : (block : PlainBlock) → IsBlock block → IsScript block.draft.script
is-script block is =
    let first = no_rows_of block.draft.script.start block.draft.script.program is.clock in
    let given : Ok block.draft.script ≡ script_from first is.first is.rows =
    sym (ap (λ (r : Result PlainDraft Refusal). r >>= λ last. Ok last.script) is.read) in
    let gives = from-rows is.first first is.rows block.draft.script (first-good is.first first refl refl refl is.small) given in
    record { start = subst (λ (l : Limits). IsStart l block.draft.script.start) (sym gives.limits) is.start; rows = gives.rows }

-- ---- blocks as the code makes them

pub fresh-block : (start : PlainAccounts) (program : Program) (clock : ℤ) (number : ℕ) (rows : List PlainRow) → rows ≡ [] → number ≤ 2 ^ 32 - 1 → IsStart WIDE start
    → IsBlock (record {
      draft = record {
        script = record { start = start; rows = rows; lanes = 1; program = program; limits = WIDE };
        taken = [];
        clock = clock;
        is_first = false;
        is_late = true;
        items = 0;
        batch = false;
      };
      number = number;
    })
fresh-block start program clock number rows none small is =
    rw none (record { first = number; clock = clock; rows = []; small = small; read = refl; next = refl; start = is })

pub clock-block : (block : PlainBlock) (now after : ℤ) (number : ℕ) (row : Fields) → IsBlock block → statement_of row ≡ Ok (statement.Clock now) → after ≡ now
    → number ≡ next_number block.number → IsBlock (record { draft = with_clock block.draft after; number = number })
clock-block block now after number row is states time next =
    let more : with_row block.draft block.number row ≡ Ok (with_clock block.draft now) = row-is block.draft block.number row (statement.Clock now) states in
    rw (time, next) (block-more block (with_clock block.draft now) row is more refl refl)

-- where the parties of a row stand, by the names
pub found-by : (names : Names) (start : PlainAccounts) (words seen : PlainInstruction) (found told : Option Stand) → AreNames names start → seen ≡ words
    → FindsIn names seen.parties found → found ≡ told → FindsAmong start words.parties told
found-by names start words seen found told are same finds tells =
    found-in start start words seen found told refl same tells (by-names names start seen.parties found are finds)

-- ---- an instruction row

pub not-here : (block : PlainBlock) (words : PlainInstruction) → FindsAmong block.draft.script.start words.parties None → with_words block words ≡ Err UnknownLabel
unfolding with_instruction
not-here block words none = rw (unknown block.draft.script.start words.parties none) refl

pub too-much : (block : PlainBlock) (words : PlainInstruction) (at : Stand) → StandAt block.draft.script.start words.parties at
    → is_full block.draft block.number || exceeds_row words ≡ true → with_words block words ≡ Err OverLimit
unfolding with_instruction with_known
too-much block words at here full = rw (known block.draft.script.start words.parties at here, full) refl

-- the block with the row
abbrev pub grown : PlainBlock → PlainInstruction → PlainBlock
grown block words = record {
  draft = with_item block.draft (instruction_row block.number block.draft.clock words ∷ []) words.lane;
  number = next_number block.number;
}

pub with-it : (block : PlainBlock) (words : PlainInstruction) (at : Stand) → StandAt block.draft.script.start words.parties at
    → is_full block.draft block.number ≡ false → exceeds_row words ≡ false → with_words block words ≡ Ok (grown block words)
unfolding with_instruction with_known
with-it block words at here room within = rw (known block.draft.script.start words.parties at here, room, within) refl

pub grown-block : (block : PlainBlock) (words : PlainInstruction) (at : Stand) (row : Fields) → IsBlock block → statement_of row ≡ Ok (statement.Instruction words)
    → StandAt block.draft.script.start words.parties at → is_full block.draft block.number ≡ false → exceeds_row words ≡ false → IsBlock (grown block words)
unfolding with_instruction with_known
grown-block block words at row is states here room within =
    let more : with_row block.draft block.number row ≡ Ok ((grown block words).draft) =
    row-is block.draft block.number row (statement.Instruction words) states
    ∙ rw (known block.draft.script.start words.parties at here, room, within) refl in
    block-more block (grown block words).draft row is more refl refl

-- ---- the same block, as the code writes it

pub number-small : (number : ℕ) (rows : List Fields) → number ≤ 2 ^ 32 - 1 → number_after number rows ≤ 2 ^ 32 - 1
number-small number [] small = small
number-small number (row ∷ rows) small = number-small (next_number number) rows (omega arith)

pub next-is : (block : PlainBlock) → IsBlock block → is_full block.draft block.number ≡ false → next_number block.number ≡ block.number + 1
next-is block is room =
    let other : block.number ≡ 2 ^ 32 - 1 → ⊥ = eqb-false block.number (2 ^ 32 - 1) (or-none (nat_le block.draft.script.limits.items block.draft.items) (block.number == 2 ^ 32 - 1) room).1 in
    let small : block.number ≤ 2 ^ 32 - 1 = rw is.next (number-small is.first is.rows is.small) in
    omega (arith, other, small)

-- with these rows, lanes and number
abbrev pub made : PlainBlock → List PlainRow → ℕ → ℕ → PlainBlock
made block rows lanes number = record {
  draft = record block.draft {
    script = record block.draft.script { rows = rows; lanes = lanes };
    is_first = false;
    is_late = true;
    items = block.draft.items + 1;
  };
  number = number;
}

pub grown-is : (block : PlainBlock) (words : PlainInstruction) (rows : List PlainRow) (lanes number : ℕ)
    → rows ≡ block.draft.script.rows ++ instruction_row block.number block.draft.clock words ∷ [] → lanes ≡ max block.draft.script.lanes (words.lane + 1)
    → number ≡ next_number block.number → grown block words ≡ made block rows lanes number
grown-is block words rows lanes number same wide next = rw (same, wide, next) refl

-- ---- a swap

-- no room for both legs, or one passes a limit
abbrev pub both_full : PlainBlock → PlainInstruction → PlainInstruction → Bool
both_full block first second = is_full block.draft block.number || exceeds_row first || exceeds_row second

-- what a test tells of two legs, it tells of the words' own
pub of-legs : (test : PlainInstruction → PlainInstruction → Bool) (words : PlainSwap) (first second : PlainInstruction) (found told : Bool) → first ≡ first_leg words
    → second ≡ second_leg words → found ≡ test first second → found ≡ told → test (first_leg words) (second_leg words) ≡ told
of-legs test words first second found told one two is tells =
    ap (λ (w : PlainInstruction). test w (second_leg words)) (sym one) ∙ ap (test first) (sym two) ∙ sym is ∙ tells

module _ (block : PlainBlock) (words : PlainSwap) where
  pub first-not-here : FindsAmong block.draft.script.start (first_leg words).parties None → with_both block words ≡ Err UnknownLabel
  unfolding with_two
  first-not-here none = rw (unknown block.draft.script.start (first_leg words).parties none) refl

  pub second-not-here : (at : Stand) → StandAt block.draft.script.start (first_leg words).parties at
      → FindsAmong block.draft.script.start (second_leg words).parties None → with_both block words ≡ Err UnknownLabel
  unfolding with_two
  second-not-here at here none =
      rw (known block.draft.script.start (first_leg words).parties at here, unknown block.draft.script.start (second_leg words).parties none) refl

-- both legs name markets and wallets that are here
pub record AreHere (block : PlainBlock) (words : PlainSwap) (at other : Stand) : Type 0 where
  pub first : StandAt block.draft.script.start (first_leg words).parties at
  pub second : StandAt block.draft.script.start (second_leg words).parties other

-- the rows of both legs
abbrev pub both_rows : PlainBlock → PlainSwap → List PlainRow
both_rows block words =
    instruction_row block.number block.draft.clock (first_leg words) ∷ instruction_row block.number block.draft.clock (second_leg words) ∷ []

-- the block with them
abbrev pub grown_both : PlainBlock → PlainSwap → PlainBlock
grown_both block words = record {
  draft = with_item block.draft (both_rows block words) words.lane;
  number = next_number block.number;
}

module _ (block : PlainBlock) (words : PlainSwap) (at other : Stand) (here : AreHere block words at other) where
  pub both-too-much : both_full block (first_leg words) (second_leg words) ≡ true
      → with_both block words ≡ Err OverLimit
  unfolding with_two with_legs
  both-too-much full =
      rw (
        known block.draft.script.start (first_leg words).parties at here.first,
        known block.draft.script.start (second_leg words).parties other here.second,
        full,
      ) refl

  pub both-bad : both_full block (first_leg words) (second_leg words) ≡ false
      → is_bad_swap (first_leg words) (second_leg words) ≡ true → with_both block words ≡ Err BadSwap
  unfolding with_two with_legs
  both-bad room bad =
      rw (
        known block.draft.script.start (first_leg words).parties at here.first,
        known block.draft.script.start (second_leg words).parties other here.second,
        room,
        bad,
      ) refl

  pub with-both : both_full block (first_leg words) (second_leg words) ≡ false
      → is_bad_swap (first_leg words) (second_leg words) ≡ false → block.draft.batch ≡ false → with_both block words ≡ Ok (grown_both block words)
  unfolding with_two with_legs
  with-both room good apart =
      rw (
        known block.draft.script.start (first_leg words).parties at here.first,
        known block.draft.script.start (second_leg words).parties other here.second,
        room,
        good,
        apart,
      ) refl

  pub grown-both-block : (row : Fields) → IsBlock block → statement_of row ≡ Ok (statement.Swap words)
      → both_full block (first_leg words) (second_leg words) ≡ false
      → is_bad_swap (first_leg words) (second_leg words) ≡ false → block.draft.batch ≡ false → IsBlock (grown_both block words)
  unfolding with_two with_legs
  grown-both-block row is states room good apart =
      let more : with_row block.draft block.number row ≡ Ok ((grown_both block words).draft) =
      row-is block.draft block.number row (statement.Swap words) states
      ∙ rw (
        known block.draft.script.start (first_leg words).parties at here.first,
        known block.draft.script.start (second_leg words).parties other here.second,
        room,
        good,
        apart,
      ) refl in
      block-more block (grown_both block words).draft row is more refl refl

-- the rows behind those that are there, one after the other
pub both-behind : (block : PlainBlock) (words : PlainSwap) (rows mid new : List PlainRow) (first second : PlainInstruction) (time : ℤ)
    → first ≡ first_leg words → second ≡ second_leg words → time ≡ block.draft.clock → rows ≡ block.draft.script.rows
    → mid ≡ rows ++ instruction_row block.number time first ∷ [] → new ≡ mid ++ instruction_row block.number time second ∷ []
    → new ≡ block.draft.script.rows ++ both_rows block words
both-behind block words rows mid new first second time one two at is here more =
    more
    ∙ rw (here, is, one, two, at)
    (append_assoc block.draft.script.rows (instruction_row block.number block.draft.clock (first_leg words) ∷ [])
    (instruction_row block.number block.draft.clock (second_leg words) ∷ []))

pub grown-both-is : (block : PlainBlock) (words : PlainSwap) (rows : List PlainRow) (lanes number : ℕ)
    → rows ≡ block.draft.script.rows ++ both_rows block words → lanes ≡ max block.draft.script.lanes (words.lane + 1)
    → number ≡ next_number block.number → grown_both block words ≡ made block rows lanes number
grown-both-is block words rows lanes number same wide next = rw (same, wide, next) refl

-- ---- the market of an address

pub market-there : (address : Address) (markets : List MarketAccounts) (place : ℕ) (d : MarketAccounts)
    → position (λ (accounts : MarketAccounts). is_same address accounts.address) markets ≡ Some place
    → found_market address (map market_accounts_of markets) ≡ Some (market_accounts_of (get_or markets place d))
market-there address markets place d found =
    let first = is-first (λ (accounts : MarketAccounts). is_same address accounts.address) markets place d found in
    first-at (λ (accounts : PlainMarketAccounts). is_same address accounts.address) (λ (accounts : PlainMarketAccounts). accounts) market_accounts_of markets place d
    first.within first.passes first.others

pub market-not-there : (address : Address) (markets : List MarketAccounts)
    → position (λ (accounts : MarketAccounts). is_same address accounts.address) markets ≡ None
    → found_market address (map market_accounts_of markets) ≡ None
market-not-there address markets none =
    first-none (λ (accounts : PlainMarketAccounts). is_same address accounts.address) (λ (accounts : PlainMarketAccounts). accounts) market_accounts_of markets
    (none-passes (λ (accounts : MarketAccounts). is_same address accounts.address) markets none)

-- and it is accepted where all are
pub accepted-there : (markets : List MarketAccounts) (place : ℕ) (market : MarketAccounts) → All IsAccepted (map market_accounts_of markets) → place < length markets
    → market ≡ get_or markets place market → IsAccepted (market_accounts_of market)
accepted-there markets place market all within is =
    let same : get_or (map market_accounts_of markets) place (market_accounts_of market) ≡ market_accounts_of market =
    get_or-map market_accounts_of markets place market (market_accounts_of market) within ∙ ap market_accounts_of (sym is) in
    subst IsAccepted same (all place (market_accounts_of market) (omega (arith, length-map markets market_accounts_of, within)))

pub place-within : {X : Type 0} (test : X → Bool) (xs : List X) (place : ℕ) → position test xs ≡ Some place → place < length xs
place-within test [] place is = absurd (none-some place is)
place-within test (x ∷ xs) place is = (is-first test (x ∷ xs) place x is).within
