-- What a row asks, and the step that it makes.
use Rattle.std.proofs.Common.{◌≡◌, ◌∙◌, ◌==◌, Bool, true, false, bytes_eq, codes, if◌then◌else◌, List, [], ◌∷◌, ◌++◌, ℕ, ℤ, ◌^◌, length, not, Some, Result, Ok, Err, ap, refl, subst, sym}
use Rattle.std.proofs.lemmas.List.{append-nil}
use Rattle.dex_dump.specs.DumpText.{dump_text}
use Rattle.dex_rows.specs.Addresses.{address_of}
use Rattle.dex_rows.specs.Numbers.{number_of}
use Rattle.dex_types.specs.declared.addresses.Address.{Address}
use Rattle.dex_statement.specs.declared.faults.FaultKind.{FaultKind}
use Rattle.dex_statement.specs.declared.faults.FaultKind.TheVariants.{BadLabel, BadNumber, FieldCount}
use Rattle.dex_statement.specs.declared.statement.Statement.{Statement}
use Rattle.dex_statement.specs.declared.statement.Statement.TheVariants as row
use Rattle.dex_statement.specs.Faults.{found_or}
use Rattle.dex_statement.specs.Stated.{PlainInstruction, PlainSwap}
use Rattle.dex_statement.specs.Statements.{statement_of}
use Rattle.dex_statement.specs.Words.{Fields, field_at}
use Rattle.dex_script.proofs.FaultLaws.{bind-ok, unless-ok}
use Rattle.dex_desk.specs.Asking.{PlainAsked, asked_by, asked_of, asks, book_of, dump_of}
use Rattle.dex_desk.specs.Asking.PlainAsked.{Dumps, Instructs, Sets, Shows, Swaps}
use Rattle.dex_desk.specs.Blocks.{PlainBlock, with_time}
use Rattle.dex_desk.specs.Steps.{Added, PlainStep, SaidIn, TookBy, Went, clock_line, fault_line, shown}
use Rattle.dex_desk.proofs.StepLaws.{went-on, went-row}

-- it shows a market or dumps
abbrev Shown : PlainAsked → Type 0
Shown (Shows market depth) = Unit {0}
Shown Dumps = Unit {0}
Shown _ = ⊥

shown-row : (row : Fields) (asked : PlainAsked) → book_of row ≡ Ok asked → Shown asked
unfolding book_of
shown-row row asked is =
    let a = unless-ok (not (length row == 3)) FieldCount _ asked is in
    let b = bind-ok (found_or (number_of (2 ^ 32) (field_at row 2)) BadNumber) _ asked a.1 in
    let d = bind-ok (found_or (address_of (field_at row 1)) BadLabel) _ asked b.2 in
    let last : ◌≡◌ {A = Result PlainAsked FaultKind} (Ok (Shows d.0 b.0)) (Ok asked) = d.2 in
    let same : Shows d.0 b.0 ≡ asked = cc in
    subst Shown same tt

dumped-row : (row : Fields) (asked : PlainAsked) → dump_of row ≡ Ok asked → Shown asked
unfolding dump_of
dumped-row row asked is =
    let a = unless-ok (not (length row == 1)) FieldCount _ asked is in
    let last : ◌≡◌ {A = Result PlainAsked FaultKind} (Ok Dumps) (Ok asked) = a.1 in
    let same : Dumps ≡ asked = cc in
    subst Shown same tt

-- what else is asked is asked by a statement
stated : (fields : Fields) (asked : PlainAsked) → (Shown asked → ⊥) → asked_of fields ≡ Ok asked
    → (st : Statement) × (statement_of fields ≡ Ok st) × (asks st ≡ Ok asked)
unfolding asked_of
stated fields asked other is = by-test (bytes_eq (field_at fields 0) (codes "book")) (bytes_eq (field_at fields 0) (codes "dump")) is
  where
    by-test : (a b : Bool) → (if a then book_of fields else (if b then dump_of fields else asked_by fields)) ≡ Ok asked
        → (st : Statement) × (statement_of fields ≡ Ok st) × (asks st ≡ Ok asked)
    by-test true b is = absurd (other (shown-row fields asked is))
    by-test false true is = absurd (other (dumped-row fields asked is))
    by-test false false is = bind-ok (statement_of fields) asks asked is

asks-words : (st : Statement) (words : PlainInstruction) → asks st ≡ Ok (Instructs words) → st ≡ row.Instruction words
asks-words (row.Instruction read) words is = let same : read ≡ words = cc in ap (λ (w : PlainInstruction). row.Instruction w) same
asks-words (row.Swap read) words is = absurd (cc)
asks-words (row.Clock now) words is = absurd (cc)
asks-words (row.Program program) words is = absurd (cc)
asks-words (row.Mint address decimals) words is = absurd (cc)
asks-words (row.Srm mint) words is = absurd (cc)
asks-words (row.Msrm mint) words is = absurd (cc)
asks-words (row.Wallet address mint owner amount) words is = absurd (cc)
asks-words (row.Market read) words is = absurd (cc)
asks-words (row.Orders market address) words is = absurd (cc)

asks-swap : (st : Statement) (words : PlainSwap) → asks st ≡ Ok (Swaps words) → st ≡ row.Swap words
asks-swap (row.Instruction read) words is = absurd (cc)
asks-swap (row.Swap read) words is = let same : read ≡ words = cc in ap (λ (w : PlainSwap). row.Swap w) same
asks-swap (row.Clock now) words is = absurd (cc)
asks-swap (row.Program program) words is = absurd (cc)
asks-swap (row.Mint address decimals) words is = absurd (cc)
asks-swap (row.Srm mint) words is = absurd (cc)
asks-swap (row.Msrm mint) words is = absurd (cc)
asks-swap (row.Wallet address mint owner amount) words is = absurd (cc)
asks-swap (row.Market read) words is = absurd (cc)
asks-swap (row.Orders market address) words is = absurd (cc)

asks-clock : (st : Statement) (now : ℤ) → asks st ≡ Ok (Sets now) → st ≡ row.Clock now
asks-clock (row.Instruction read) now is = absurd (cc)
asks-clock (row.Swap read) now is = absurd (cc)
asks-clock (row.Clock time) now is = let same : time ≡ now = cc in ap (λ (t : ℤ). row.Clock t) same
asks-clock (row.Program program) now is = absurd (cc)
asks-clock (row.Mint address decimals) now is = absurd (cc)
asks-clock (row.Srm mint) now is = absurd (cc)
asks-clock (row.Msrm mint) now is = absurd (cc)
asks-clock (row.Wallet address mint owner amount) now is = absurd (cc)
asks-clock (row.Market read) now is = absurd (cc)
asks-clock (row.Orders market address) now is = absurd (cc)

pub asked-words : (fields : Fields) (words : PlainInstruction) → asked_of fields ≡ Ok (Instructs words) → statement_of fields ≡ Ok (row.Instruction words)
asked-words fields words is =
    let a = stated fields (Instructs words) (λ no. no) is in a.1 ∙ ap (λ (st : Statement). Ok st) (asks-words a.0 words a.2)

pub asked-swap : (fields : Fields) (words : PlainSwap) → asked_of fields ≡ Ok (Swaps words) → statement_of fields ≡ Ok (row.Swap words)
asked-swap fields words is =
    let a = stated fields (Swaps words) (λ no. no) is in a.1 ∙ ap (λ (st : Statement). Ok st) (asks-swap a.0 words a.2)

pub asked-clock : (fields : Fields) (now : ℤ) → asked_of fields ≡ Ok (Sets now) → statement_of fields ≡ Ok (row.Clock now)
asked-clock fields now is =
    let a = stated fields (Sets now) (λ no. no) is in a.1 ∙ ap (λ (st : Statement). Ok st) (asks-clock a.0 now a.2)

-- ---- the step of a row

abbrev step_of : Fields → List ℕ → PlainBlock → PlainStep
step_of row said after = record { row = Some row; said = said; after = after }

-- by what it asks
by-asked : (row : Fields) (asked : Result PlainAsked FaultKind) (block after : PlainBlock) (said old new : List ℕ) → asked_of row ≡ asked
    → TookBy asked block (step_of row said after) → new ≡ old ++ said → Went (row ∷ []) block after old new
by-asked row asked block after said old new is took more =
    went-row row block after said old new (subst (λ (a : Result PlainAsked FaultKind). TookBy a block (step_of row said after)) (sym is) took) more

-- an instruction or a swap that was added
pub taken-in : (row : Fields) (asked : PlainAsked) (added : Result PlainBlock FaultKind) (block mid after : PlainBlock) (old new : List ℕ)
    → asked_of row ≡ Ok asked → (Added added block (step_of row [] mid) → TookBy (Ok asked) block (step_of row [] mid)) → added ≡ Ok mid
    → Went [] mid after old new → Went (row ∷ []) block after old new
taken-in row asked added block mid after old new is so taken went =
    let does : Added added block (step_of row [] mid) = subst (λ (r : Result PlainBlock FaultKind). Added r block (step_of row [] mid)) (sym taken) (refl, refl) in
    went-on (row ∷ []) [] block mid after old old new (by-asked row (Ok asked) block mid [] old old is (so does) (sym (append-nil old))) went

-- or has a fault behind the rows before it
pub fault-in : (row : Fields) (asked : PlainAsked) (added : Result PlainBlock FaultKind) (kind : FaultKind) (block after : PlainBlock) (old new : List ℕ)
    → asked_of row ≡ Ok asked → ((said : List ℕ) → Added added block (step_of row said after) → TookBy (Ok asked) block (step_of row said after))
    → added ≡ Err kind → SaidIn block after (fault_line block kind) old new → Went (row ∷ []) block after old new
fault-in row asked added kind block after old new is so refused said =
    let does : Added added block (step_of row said.said after) =
    subst (λ (r : Result PlainBlock FaultKind). Added r block (step_of row said.said after)) (sym refused) said.behind in
    by-asked row (Ok asked) block after said.said old new is (so said.said does) said.is

-- a clock
pub clock-in : (row : Fields) (now : ℤ) (block between after : PlainBlock) (old new : List ℕ) → asked_of row ≡ Ok (Sets now)
    → SaidIn block between (clock_line now) old new → after ≡ with_time between now → Went (row ∷ []) block after old new
clock-in row now block between after old new is said later =
    by-asked row (Ok (Sets now)) block after said.said old new is (between, said.behind, later) said.is

-- the book of a market
pub book-in : (row : Fields) (market : Address) (depth : ℕ) (block after : PlainBlock) (old new : List ℕ) → asked_of row ≡ Ok (Shows market depth)
    → SaidIn block after (shown after market depth) old new → Went (row ∷ []) block after old new
book-in row market depth block after old new is said = by-asked row (Ok (Shows market depth)) block after said.said old new is said.behind said.is

-- all accounts
pub dump-in : (row : Fields) (block after : PlainBlock) (old new : List ℕ) → asked_of row ≡ Ok Dumps
    → SaidIn block after (dump_text after.draft.script.start) old new → Went (row ∷ []) block after old new
dump-in row block after old new is said = by-asked row (Ok Dumps) block after said.said old new is said.behind said.is

-- a fault of the row by itself
pub own-fault : (row : Fields) (kind : FaultKind) (block after : PlainBlock) (old new : List ℕ) → asked_of row ≡ Err kind
    → SaidIn block after (fault_line block kind) old new → Went (row ∷ []) block after old new
own-fault row kind block after old new is said = by-asked row (Err kind) block after said.said old new is said.behind said.is
