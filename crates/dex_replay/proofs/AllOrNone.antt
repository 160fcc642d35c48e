-- In the journals that a run leaves, the rows of an item were all done, or each that was not refused was held back.
use Rattle.std.proofs.Common.{◌≡◌, ℕ, ◌&&◌, ◌||◌, not, Bool, true, false, eqb, List, [], ◌∷◌, get_or, map, refl, sym, ap, ◌∙◌, subst, ⊎_elim}
use Rattle.std.proofs.Math.Bool.{and-false, or-false}
use Rattle.dex_world.proofs.Common.{Address, All-cons, All-map, All-nil, All-weaker, AllZip, Asked, Call, EachTwo, Entry, IsLegal, Market, MarketState, PlainMarketAccounts, PlainRow, Reply, cases_Bool, cond_both, decoded, eq-eqb, eqb-true, false≢true, filter, is_done, is_refusal, is_same, is_same-refl, is_same-sym, is_same-true, is_take, list_any, members, step_of}
use Rattle.dex_replay.proofs.Common.{All, IsAllOrNone, Item, PlainMarketJournal, PlainScript, has_market, is_answered, market_in, was_held}
use Rattle.std.proofs.lemmas.List.Elements.{All-contains}
use Rattle.std.proofs.lemmas.List.Folds.{list_any_none}
use Rattle.dex_replay.specs.Lawful.{entries_at}
use Rattle.dex_replay.proofs.Items.{IsSettled, is_refused_told, row_told}
use Rattle.dex_replay.proofs.MappedLists.{All-unmap, head-same, list_any-agree, list_any-map, tail-same}
use Rattle.dex_replay.proofs.Orders.{OnApart}
use Rattle.dex_replay.proofs.Runs.{IsHistory, RowReply, on, said, said_of}

-- ---- the rows of a market, by what is told of them

-- what is told under a number passes the test
abbrev told_under : ℕ → (Reply → Bool) → Asked × Reply → Bool
told_under number test sign = eqb sign.0.number number && test sign.1

-- a row that is told of is that of another: on its market under its number
abbrev is_it : (Reply → Bool) → RowReply → RowReply → Bool
is_it test one other = is_same other.row.market one.row.market && (eqb other.row.number one.row.number && test other.reply)

not-it : (test : Reply → Bool) (one other : RowReply) → OnApart other.row one.row → is_it test one other ≡ false
not-it test one other apart =
    ⊎_elim
    (λ (same : eqb other.row.number one.row.number ≡ true).
    ap (λ (b : Bool). b && (eqb other.row.number one.row.number && test other.reply)) (apart (eqb-true other.row.number one.row.number same)))
    (λ (differ : eqb other.row.number one.row.number ≡ false).
    ap (λ (b : Bool). is_same other.row.market one.row.market && (b && test other.reply)) differ ∙ and-false (is_same other.row.market one.row.market))
    (cases_Bool (eqb other.row.number one.row.number))

apart-not : (test : Reply → Bool) (one other : RowReply) → OnApart one.row other.row → (is_it test one other ≡ false) × (is_it test other one ≡ false)
apart-not test one other apart = (
  not-it test one other (λ same. is_same-sym other.row.market one.row.market ∙ apart (sym same)),
  not-it test other one apart,
)

-- where no market has two of one number, each is told of once
pub told-once : (test : Reply → Bool) (all : List RowReply) → EachTwo OnApart (map row_told all) → All (λ (told : RowReply). list_any (is_it test told) all ≡ test told.reply) all
told-once test [] apart = All-nil _
told-once test (first ∷ all) apart =
    All-cons (λ (told : RowReply). list_any (is_it test told) (first ∷ all) ≡ test told.reply) first all
    (ap (λ (b : Bool). (b && (eqb first.row.number first.row.number && test first.reply)) || list_any (is_it test first) all) (is_same-refl first.row.market)
    ∙ ap (λ (b : Bool). (b && test first.reply) || list_any (is_it test first) all) (eq-eqb first.row.number first.row.number refl)
    ∙ ap (λ (b : Bool). test first.reply || b) (list_any_none (is_it test first) all (λ k d within. (away k d within).0))
    ∙ or-false (test first.reply))
    (λ k d within.
    ap (λ (b : Bool). b || list_any (is_it test (get_or all k d)) all) (away k d within).1 ∙ told-once test all apart.1 k d within)
  where
    away : All (λ (other : RowReply). (is_it test first other ≡ false) × (is_it test other first ≡ false)) all
    away = All-weaker (λ (other : RowReply). OnApart first.row other.row) (λ (other : RowReply). (is_it test first other ≡ false) × (is_it test other first ≡ false))
        (λ other far. apart-not test first other far) all (All-unmap (OnApart first.row) row_told all apart.0)

-- ---- the journals

any-filter : {A : Type 0} (p q : A → Bool) (xs : List A) → list_any q (filter p xs) ≡ list_any (λ x. p x && q x) xs
any-filter p q [] = refl
any-filter {A} p q (x ∷ xs) =
    cond_both (p x) (x ∷ filter p xs) (filter p xs) (λ (some : List A). list_any q some ≡ ((p x && q x) || list_any (λ y. p y && q y) xs))
    (λ yes. ap (λ (b : Bool). q x || b) (any-filter p q xs) ∙ ap (λ (b : Bool). (b && q x) || list_any (λ y. p y && q y) xs) (sym yes))
    (λ no. any-filter p q xs ∙ ap (λ (b : Bool). (b && q x) || list_any (λ y. p y && q y) xs) (sym no))

-- an entry has the number of its call
entries-told : (number : ℕ) (test : Reply → Bool) (calls : List Call) (m : Market) → IsLegal m calls
    → list_any (λ (entry : Entry). eqb entry.row number && test entry.reply) (map (λ (call : Call). call.entry) calls) ≡ list_any (told_under number test) (map said calls)
entries-told number test [] m legal = refl
entries-told number test (call ∷ calls) m legal =
    ap (λ (entry : Entry). (eqb entry.row number && test call.entry.reply) || list_any (λ (one : Entry). eqb one.row number && test one.reply) (map (λ (one : Call). one.entry) calls)) legal.0.entry
    ∙ ap (λ (b : Bool). told_under number test (said call) || b) (entries-told number test calls (step_of call m).market legal.1)

module _ (script : PlainScript) (all : List RowReply) where
  abbrev Says : (Reply → Bool) → RowReply → List Entry → Type 0
  Says test told entries =
      list_any (λ (entry : Entry). eqb entry.row told.row.number && test entry.reply) entries ≡ list_any (is_it test told) all

  -- the journal of a row's market tells of the row what is told
  history-says : (test : Reply → Bool) (told : RowReply) (first : PlainMarketAccounts) (state : MarketState) → IsHistory script all first state
      → is_same told.row.market first.address ≡ true → Says test told state.entries
  history-says test told first state is same =
      let number : ℕ = told.row.number in
      ap (list_any (λ (entry : Entry). eqb entry.row number && test entry.reply)) is.entries
      ∙ entries-told number test is.calls (market_in first) is.legal
      ∙ ap (list_any (told_under number test)) is.said
      ∙ list_any-map (told_under number test) said_of (on first.address all)
      ∙ any-filter (λ (one : RowReply). is_same one.row.market first.address) (λ (one : RowReply). told_under number test (said_of one)) all
      ∙ ap (λ (address : Address). list_any (λ (one : RowReply). is_same one.row.market address && told_under number test (said_of one)) all)
      (sym (is_same-true told.row.market first.address same))

  pub journal-says : (test : Reply → Bool) (told : RowReply) (firsts : List PlainMarketAccounts) (states : List MarketState) (journals : List PlainMarketJournal)
      → AllZip (IsHistory script all) firsts states
      → map (λ (journal : PlainMarketJournal). journal.address) journals ≡ map (λ (first : PlainMarketAccounts). first.address) firsts
      → map (λ (journal : PlainMarketJournal). journal.entries) journals ≡ map (λ (state : MarketState). state.entries) states
      → has_market told.row.market firsts ≡ true → Says test told (entries_at told.row.market journals)
  journal-says test told [] states journals are addresses entries known = absurd (false≢true known)
  journal-says test told (first ∷ firsts) [] journals are addresses entries known = absurd are
  journal-says test told (first ∷ firsts) (state ∷ states) [] are addresses entries known = absurd (cc)
  journal-says test told (first ∷ firsts) (state ∷ states) (journal ∷ journals) are addresses entries known =
      let own : journal.address ≡ first.address = head-same addresses in
      cond_both (is_same told.row.market journal.address) journal.entries (entries_at told.row.market journals) (Says test told)
      (λ same. subst (Says test told) (sym (head-same entries)) (history-says test told first state are.0 (ap (is_same told.row.market) (sym own) ∙ same)))
      (λ apart.
      journal-says test told firsts states journals are.1 (tail-same addresses) (tail-same entries)
      (sym (ap (λ (b : Bool). b || has_market told.row.market firsts) (ap (is_same told.row.market) (sym own) ∙ apart)) ∙ known))

-- ---- the items

module _ (all : List RowReply) (journals : List PlainMarketJournal) (answered : (test : Reply → Bool) → All (λ (told : RowReply). is_answered test journals told.row ≡ test told.reply) all) where
  -- rows that were settled are told of so
  pub settled-told : (item : Item) → IsSettled all item → IsAllOrNone journals item
  settled-told item is =
      let Right : PlainRow → Type 0 = λ (row : PlainRow).
      was_held journals row ≡ (list_any (is_answered is_refusal journals) (members item) && not (is_answered is_refusal journals row)) in
      let Answers : (Reply → Bool) → RowReply → Type 0 = λ (test : Reply → Bool) (told : RowReply). is_answered test journals told.row ≡ test told.reply in
      let each : (test : Reply → Bool) → All (Answers test) is.told = λ test k d within. All-contains (Answers test) all (get_or is.told k d) (answered test) (is.inside k d within) in
      let any : list_any (is_answered is_refusal journals) (members item) ≡ list_any is_refused_told is.told =
      ap (list_any (is_answered is_refusal journals)) (sym is.rows) ∙ list_any-map (is_answered is_refusal journals) row_told is.told
      ∙ list_any-agree (λ (told : RowReply). is_answered is_refusal journals told.row) is_refused_told is.told (each is_refusal) in
      subst (All Right) is.rows
      (All-map Right row_told is.told
      (λ k d within.
      let told : RowReply = get_or is.told k d in
      ap (λ (b : Bool). is_take (decoded told.row.bytes) && b) (each is_done k d within)
      ∙ is.held k d within
      ∙ ap (λ (b : Bool). b && not (is_refused_told told)) (sym any)
      ∙ ap (λ (b : Bool). list_any (is_answered is_refusal journals) (members item) && not b) (sym (each is_refusal k d within))))
