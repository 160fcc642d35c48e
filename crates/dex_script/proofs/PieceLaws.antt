-- Rows that are read after the bare markets and wallets of a script, and added to it, are read after the script.
use Rattle.std.proofs.Common.{◌≡◌, ◌∙◌, ◌+◌, ◌-◌, ◌^◌, ◌≤◌, ◌==◌, ℕ, ℤ, false, not, nat_le, List, [], ◌∷◌, ◌++◌, Result, Ok, Err, ap, append_assoc, append-nil, arith, max, refl, subst, sym}
use Rattle.std.specs.List.{AllZip}
use Rattle.std.proofs.lemmas.Bool.{lt-leb}
use Rattle.dex_world.specs.declared.places.RowPlaces.{RowPlaces}
use Rattle.dex_types.specs.Accounts.{PlainAccount, PlainAccounts, PlainMarketAccounts}
use Rattle.dex_types.specs.Addresses.{is_same}
use Rattle.dex_types.specs.Rows.{PlainRow}
use Rattle.dex_dump.specs.Answers.{next_number}
use Rattle.dex_statement.specs.declared.faults.FaultKind.{FaultKind}
use Rattle.dex_statement.specs.declared.statement.Statement.{Statement}
use Rattle.dex_statement.specs.declared.statement.Statement.TheVariants as row
use Rattle.dex_statement.specs.Faults.{◌>>=◌}
use Rattle.dex_statement.specs.Stated.{PlainInstruction, PlainParties, PlainSwap}
use Rattle.dex_statement.specs.Statements.{statement_of}
use Rattle.dex_statement.specs.Words.{Fields}
use Rattle.dex_script_types.specs.Places.{ArePlaced, IsBeside, IsPlaced}
use Rattle.dex_script_types.proofs.FoundLaws.{wallets-same}
use Rattle.dex_script.specs.Drafts.{PlainDraft}
use Rattle.dex_script.specs.Names.{IsReading, market_among, wallet_among}
use Rattle.dex_script.specs.Pieces.{AreAlike, HaveSamePlaces, IsReadyBehind, IsUnderway, bare, bare_market, bare_wallet, beside, joined, number_after}
use Rattle.dex_script.specs.Rows.{exceeds_row, instruction_row, is_bad_swap, is_full, is_unknown, with_clock, with_instruction, with_item, with_known, with_legs, with_row, with_statement, with_swap, with_two}
use Rattle.dex_script.specs.Scripts.{Refusal, draft_after, fault_in}
use Rattle.dex_script.proofs.FaultLaws.{bind-ok, differ, ok-same, or-none}
use Rattle.dex_script.proofs.ItemRows.{first_leg, instruction-row, second_leg, swap-row}
use Rattle.dex_script.proofs.KeptLaws.{kept-setup}
use Rattle.dex_script.proofs.NameLaws.{by-address, here-same, unknown-by}
use Rattle.dex_script.proofs.OrderLaws.{by-row, first-row, through}

-- ---- what is known among the one accounts is known among the others

known-there : (one other : PlainAccounts) → HaveSamePlaces one other → (parties : PlainParties) → is_unknown one parties ≡ false
    → is_unknown other parties ≡ false
known-there one other same parties is =
    let here = here-same (market_among one) (market_among other) (wallet_among one) (wallet_among other) parties same.markets same.wallets in
    unknown-by other parties ∙ ap not (sym here) ∙ sym (unknown-by one parties) ∙ is

-- ---- rows without a fault

instruction-ok : (number : ℕ) (draft : PlainDraft) (words : PlainInstruction) → is_unknown draft.script.start words.parties ≡ false
    → is_full draft number ≡ false → exceeds_row words ≡ false
    → with_instruction draft number words ≡ Ok (with_item draft (instruction_row number draft.clock words ∷ []) words.lane)
unfolding with_instruction with_known
instruction-ok number draft words a b c = rw (a, b, c) refl

swap-ok : (number : ℕ) (draft : PlainDraft) (words : PlainSwap) → is_unknown draft.script.start (first_leg words).parties ≡ false
    → is_unknown draft.script.start (second_leg words).parties ≡ false → is_full draft number ≡ false → exceeds_row (first_leg words) ≡ false
    → exceeds_row (second_leg words) ≡ false → is_bad_swap (first_leg words) (second_leg words) ≡ false → draft.batch ≡ false
    → with_swap draft number words
    ≡ Ok (with_item draft (instruction_row number draft.clock (first_leg words) ∷ instruction_row number draft.clock (second_leg words) ∷ []) words.lane)
unfolding with_two with_legs
swap-ok number draft words a b c d e f g = rw (a, b, c, d, e, f, g) refl

-- a script that is under way, and a piece so far
module _ (draft : PlainDraft) (under : IsUnderway draft) where
  joined-item : (piece : PlainDraft) (rows : List PlainRow) (lane : ℕ)
      → with_item (joined draft piece) rows lane ≡ joined draft (with_item piece rows lane)
  joined-item piece rows lane =
      let all = append_assoc draft.script.rows piece.script.rows rows in
      let most : max (max draft.script.lanes piece.script.lanes) (lane + 1) ≡ max draft.script.lanes (max piece.script.lanes (lane + 1)) = omega arith in
      let sum : draft.items + piece.items + 1 ≡ draft.items + (piece.items + 1) = omega arith in
      λ i. record (joined draft piece) {
        script = record draft.script { rows = all i; lanes = most i };
        items = sum i;
        is_first = sym under.first i;
        is_late = sym under.late i;
      }

  joined-clock : (piece : PlainDraft) (now : ℤ) → with_clock (joined draft piece) now ≡ joined draft (with_clock piece now)
  joined-clock piece now = λ i. record (joined draft (with_clock piece now)) { is_first = sym under.first i }

  -- nothing was read of a piece
  joined-none : (piece : PlainDraft) → piece.script.rows ≡ [] → piece.script.lanes ≡ 0 → piece.items ≡ 0 → piece.clock ≡ draft.clock
      → joined draft piece ≡ draft
  joined-none piece rows lanes items clock =
      let all = ap (λ (more : List PlainRow). draft.script.rows ++ more) rows ∙ append-nil draft.script.rows in
      let most : max draft.script.lanes piece.script.lanes ≡ draft.script.lanes = omega (arith, lanes) in
      let sum : draft.items + piece.items ≡ draft.items = omega (arith, items) in
      λ i. record draft { script = record draft.script { rows = all i; lanes = most i }; clock = clock i; items = sum i }

-- ---- one more row of a piece

alike-next : (draft piece next : PlainDraft) → AreAlike draft piece → IsUnderway next → next.batch ≡ piece.batch → next.script.limits ≡ piece.script.limits
    → HaveSamePlaces next.script.start draft.script.start → AreAlike draft next
alike-next draft piece next alike under batch limits places =
    record { draft_underway = alike.draft_underway; piece_underway = under; batch = batch ∙ alike.batch; limits = limits ∙ alike.limits; places = places }

-- it is read after the script too, and the next is like it
record Steps (draft : PlainDraft) (next : PlainDraft) (left : Result PlainDraft FaultKind) : Type 0 where
  is : left ≡ Ok (joined draft next)
  alike : AreAlike draft next

module _ (draft piece : PlainDraft) (alike : AreAlike draft piece) (number : ℕ) (next : PlainDraft) where
  room-there : is_full piece number ≡ false → draft.items + (piece.items + 1) ≤ draft.script.limits.items → is_full (joined draft piece) number ≡ false
  room-there free room =
      let a = or-none (nat_le piece.script.limits.items piece.items) (number == 2 ^ 32 - 1) free in
      rw (lt-leb draft.script.limits.items (draft.items + piece.items) (omega (arith, room)), a.1) refl

  more-items : (rows : List PlainRow) (lane : ℕ) → with_item piece rows lane ≡ next → draft.items + next.items ≤ draft.script.limits.items
      → draft.items + (piece.items + 1) ≤ draft.script.limits.items
  more-items rows lane is room = subst (λ (d : PlainDraft). draft.items + d.items ≤ draft.script.limits.items) (sym is) room

  by-item : (rows : List PlainRow) (lane : ℕ) (left : Result PlainDraft FaultKind) → with_item piece rows lane ≡ next
      → left ≡ Ok (with_item (joined draft piece) rows lane) → Steps draft next left
  by-item rows lane left is told =
      subst (λ (d : PlainDraft). Steps draft d left) is
      (record {
        is = told ∙ ap (λ (d : PlainDraft). Ok d) (joined-item draft alike.draft_underway piece rows lane);
        alike = alike-next draft piece (with_item piece rows lane) alike (record { late = refl; first = refl }) refl refl alike.places;
      })

  there : (words : PlainInstruction) → is_unknown piece.script.start words.parties ≡ false → is_unknown draft.script.start words.parties ≡ false
  there words = known-there piece.script.start draft.script.start alike.places words.parties

  steps : (statement : Statement) → with_statement piece number statement ≡ Ok next → draft.items + next.items ≤ draft.script.limits.items
      → Steps draft next (with_statement (joined draft piece) number statement)
  steps (row.Clock now) is room =
      subst (λ (d : PlainDraft). Steps draft d (Ok (with_clock (joined draft piece) now))) (ok-same (with_clock piece now) next is)
      (record {
        is = ap (λ (d : PlainDraft). Ok d) (joined-clock draft alike.draft_underway piece now);
        alike = alike-next draft piece (with_clock piece now) alike (record { late = alike.piece_underway.late; first = refl }) refl refl alike.places;
      })
  steps (row.Instruction words) is room =
      let one = instruction-row number piece next words is in
      by-item _ words.lane _ one.is
      (instruction-ok number (joined draft piece) words (there words one.known) (room-there one.room (more-items _ words.lane one.is room)) one.within)
  steps (row.Swap words) is room =
      let two = swap-row number piece next words is in
      by-item _ words.lane _ two.is
      (swap-ok number (joined draft piece) words (there (first_leg words) two.first_known) (there (second_leg words) two.second_known)
      (room-there two.room (more-items _ words.lane two.is room)) two.first_within two.second_within two.good (sym alike.batch ∙ two.apart))
  steps setup is room = absurd ((kept-setup number piece next setup tt is).1 alike.piece_underway)

  row-steps : (fields : Fields) → with_row piece number fields ≡ Ok next → draft.items + next.items ≤ draft.script.limits.items
      → Steps draft next (with_row (joined draft piece) number fields)
  unfolding with_row
  row-steps fields is room =
      let a = bind-ok (statement_of fields) (with_statement piece number) next is in
      subst (λ (r : Result Statement FaultKind). Steps draft next (r >>= with_statement (joined draft piece) number)) (sym a.1) (steps a.0 a.2 room)

-- ---- all rows of a piece

grows : (number : ℕ) (before last : PlainDraft) (rows : List Fields) → draft_after before number rows ≡ Ok last → before.items ≤ last.items
grows number before last rows is =
    through (λ _ (d : PlainDraft). before.items ≤ d.items)
    (λ n d after fields less one.
    by-row n d after (λ kept. omega (arith, less, kept.items))
    (λ words one. let e = ap (λ (x : PlainDraft). x.items) one.is in omega (arith, less, e))
    (λ words two. let e = ap (λ (x : PlainDraft). x.items) two.is in omega (arith, less, e)) fields one)
    number before last rows (omega arith) is

-- the rows of a piece that was read so far are read after the script too, and what is read stays like it
pub rows-joined : (draft : PlainDraft) (number : ℕ) (piece last : PlainDraft) (rows : List Fields) → AreAlike draft piece
    → draft_after piece number rows ≡ Ok last → draft.items + last.items ≤ draft.script.limits.items
    → (draft_after (joined draft piece) number rows ≡ Ok (joined draft last)) × AreAlike draft last
rows-joined draft number piece last [] alike is room =
    let same = ok-same {E = Refusal} piece last is in
    (ap (λ (d : PlainDraft). Ok (joined draft d)) same, subst (AreAlike draft) same alike)
rows-joined draft number piece last (fields ∷ rows) alike is room =
    let a = first-row number piece last fields rows is in
    let less = grows (next_number number) a.0 last rows a.2 in
    let step = row-steps draft piece alike number a.0 fields a.1 (omega (arith, less, room)) in
    let others = rows-joined draft (next_number number) a.0 last rows step.alike a.2 room in
    (ap (λ (r : Result PlainDraft FaultKind). fault_in number r >>= λ d. draft_after d (next_number number) rows) step.is ∙ others.0, others.1)

-- markets and wallets stand at the same places without their accounts
bare-same : (start : PlainAccounts) → HaveSamePlaces (bare start) start
bare-same start = record {
  markets = λ address. by-address bare_market (λ (market : PlainMarketAccounts). is_same address market.address) start.markets;
  wallets = λ address. by-address bare_wallet (λ (wallet : PlainAccount). is_same address wallet.address) start.wallets;
}

-- a reader beside a script is ready for its rows, where their clock is right
pub beside-ready : (draft : PlainDraft) (clock : ℤ) → IsUnderway draft → clock ≡ draft.clock → IsReadyBehind draft (beside draft clock)
beside-ready draft clock under same = record {
  alike = record {
    draft_underway = under;
    piece_underway = record { late = refl; first = refl };
    batch = refl;
    limits = refl;
    places = bare-same draft.script.start;
  };
  rows = refl;
  lanes = refl;
  items = refl;
  clock = same;
  program = refl;
}

-- rows that a ready reader reads are read after the script, where there is room
pub read-behind : (draft none : PlainDraft) (number : ℕ) (rows : List Fields) (piece : PlainDraft) → IsReadyBehind draft none
    → draft_after none number rows ≡ Ok piece → draft.items + piece.items ≤ draft.script.limits.items
    → (draft_after draft number rows ≡ Ok (joined draft piece)) × AreAlike draft piece
read-behind draft none number rows piece ready is room =
    let same = joined-none draft ready.alike.draft_underway none ready.rows ready.lanes ready.items ready.clock in
    let read = rows-joined draft number none piece rows ready.alike is room in
    (ap (λ (d : PlainDraft). draft_after d number rows) (sym same) ∙ read.0, read.1)

-- ---- what stays behind an instruction row

-- neither setup rows nor one that chooses the program may follow, and a reader beside it is one beside the first
pub record Stays (first draft : PlainDraft) : Type 0 where
  pub under : IsUnderway draft
  pub same : (clock : ℤ) → beside draft clock ≡ beside first clock

module _ (first before after : PlainDraft) (stays : Stays first before) (number : ℕ) where
  stays-item : (rows : List PlainRow) (lane : ℕ) → with_item before rows lane ≡ after → Stays first after
  stays-item rows lane is = subst (Stays first) is (record { under = record { late = refl; first = refl }; same = λ clock. stays.same clock })

  stays-row : (fields : Fields) → with_row before number fields ≡ Ok after → Stays first after
  unfolding with_row
  stays-row fields is = let a = bind-ok (statement_of fields) (with_statement before number) after is in by a.0 a.2
    where
      by : (statement : Statement) → with_statement before number statement ≡ Ok after → Stays first after
      by (row.Clock now) told =
          subst (Stays first) (ok-same (with_clock before now) after told)
          (record { under = record { late = stays.under.late; first = refl }; same = λ clock. stays.same clock })
      by (row.Instruction words) told = stays-item _ words.lane (instruction-row number before after words told).is
      by (row.Swap words) told = stays-item _ words.lane (swap-row number before after words told).is
      by setup told = absurd ((kept-setup number before after setup tt told).1 stays.under)

pub stays-behind : (first : PlainDraft) (number : ℕ) (last : PlainDraft) (rows : List Fields) → IsUnderway first → draft_after first number rows ≡ Ok last
    → Stays first last
stays-behind first number last rows under is =
    through (λ _ (d : PlainDraft). Stays first d) (λ n before after fields stays one. stays-row first before after stays n fields one) number first last rows
    (record { under = under; same = λ clock. refl }) is

-- ---- rows behind rows

-- so are they after one row more, or its fault
abbrev AreBoth : ℕ → PlainDraft → List Fields → List Fields → Type 0
AreBoth number draft rows more =
    draft_after draft number (rows ++ more) ≡ (draft_after draft number rows >>= λ next. draft_after next (number_after number rows) more)

both-behind : (number : ℕ) (rows more : List Fields) → ((next : PlainDraft) → AreBoth number next rows more) → (left : Result PlainDraft Refusal)
    → (left >>= λ next. draft_after next number (rows ++ more))
    ≡ ((left >>= λ next. draft_after next number rows) >>= λ next. draft_after next (number_after number rows) more)
both-behind number rows more each (Ok next) = each next
both-behind number rows more each (Err refusal) = refl

pub after-both : (number : ℕ) (draft : PlainDraft) (rows more : List Fields)
    → draft_after draft number (rows ++ more) ≡ (draft_after draft number rows >>= λ next. draft_after next (number_after number rows) more)
after-both number draft [] more = refl
after-both number draft (fields ∷ rows) more =
    both-behind (next_number number) rows more (λ next. after-both (next_number number) next rows more) (fault_in number (with_row draft number fields))

-- what all rows leave, where it is known what the first of them do
pub behind-both : (draft : PlainDraft) (number : ℕ) (rows more : List Fields) (next : PlainDraft) → draft_after draft number rows ≡ Ok next
    → draft_after draft number (rows ++ more) ≡ draft_after next (number_after number rows) more
behind-both draft number rows more next is =
    after-both number draft rows more ∙ ap (λ (r : Result PlainDraft Refusal). r >>= λ d. draft_after d (number_after number rows) more) is

pub number-both : (number : ℕ) (rows more : List Fields) → number_after number (rows ++ more) ≡ number_after (number_after number rows) more
number-both number [] more = refl
number-both number (row ∷ rows) more = number-both (next_number number) rows more

-- ---- what a reader knows of a piece, and of a script with it

module _ (one other : PlainAccounts) (same : HaveSamePlaces one other) where
  pub placed-there : (rows : List PlainRow) (places : List RowPlaces) → ArePlaced one rows places → ArePlaced other rows places
  placed-there [] [] are = tt
  placed-there (row ∷ rows) (place ∷ places) (is, are) = (
    record {
      market = sym (same.markets row.market) ∙ is.market;
      wallets =
          wallets-same (wallet_among one) (wallet_among other) same.wallets row.coin row.pc row.discount row.referrer
          place.wallets is.wallets;
    },
    placed-there rows places are,
  )
  placed-there _ _ are = absurd are

zipped-both : {A B : Type 0} (R : A → B → Type 0) (xs more : List A) (ys others : List B) → AllZip R xs ys → AllZip R more others
    → AllZip R (xs ++ more) (ys ++ others)
zipped-both R [] more [] others are also = also
zipped-both R (x ∷ xs) more (y ∷ ys) others (is, are) also = (is, zipped-both R xs more ys others are also)
zipped-both R _ more _ others are also = absurd are

pub joined-reading : (draft piece : PlainDraft) (places others : List RowPlaces) → AreAlike draft piece → IsReading draft places → IsReading piece others
    → IsReading (joined draft piece) (places ++ others)
joined-reading draft piece places others alike reading also = record {
  placed = zipped-both (IsPlaced draft.script.start) draft.script.rows piece.script.rows places others reading.placed
      (placed-there piece.script.start draft.script.start alike.places piece.script.rows others also.placed);
  beside = zipped-both IsBeside draft.script.rows piece.script.rows places others reading.beside also.beside;
  quiet = λ early. absurd (differ (sym alike.draft_underway.late ∙ early));
  few = reading.few;
}
