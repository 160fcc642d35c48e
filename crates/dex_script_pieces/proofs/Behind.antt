-- What is read after pieces, one after the other.
use Rattle.std.proofs.Common.{◌≡◌, ◌∙◌, ◌++◌, ◌+◌, ◌<◌, ◌≤◌, ℕ, suc, List, [], ◌∷◌, Result, Ok, Err, IfOk, IsOkAnd, All, ap, append-nil, append_assoc, drop, drop-cons, get_or, length, refl, subst, sym, take}
use Rattle.std.specs.List.{AllZip}
use Rattle.std.proofs.lemmas.Grind.{flat_map-append}
use Rattle.std.proofs.lemmas.List.{take-append-drop}
use Rattle.std.proofs.lemmas.List.Elements.{All-cons, All-head, All-nil, All-tail}
use Rattle.std.proofs.lemmas.Result.{IfOk-at_ok}
use Rattle.dex_statement.specs.Faults.{◌>>=◌}
use Rattle.dex_statement.specs.Words.{Fields}
use Rattle.dex_script.specs.declared.fault.ScriptError.{ScriptError}
use Rattle.dex_script.specs.declared.fault.ScriptError.TheVariants as script
use Rattle.dex_script.specs.Drafts.{PlainDraft}
use Rattle.dex_script.specs.Pieces.{AreAlike, IsUnderway, beside, joined, number_after}
use Rattle.dex_script.specs.Scripts.{Refusal, draft_after}
use Rattle.dex_script.specs.Telling.{TellsDraft, TellsRefusal}
use Rattle.dex_script.proofs.PieceLaws.{Stays, after-both, behind-both, beside-ready, number-both, read-behind, stays-behind}
use Rattle.dex_script_pieces.specs.Pieces.{HasRead, IsBeside, IsNext, ReadsPiece, rows_of}
use Rattle.dex_script_pieces.specs.declared.piece.Piece.{Piece}

-- ---- rows behind rows

-- the first fault of some rows is that of these and others
refused-more : (error : ScriptError) (meant : Result PlainDraft Refusal) (next : PlainDraft → Result PlainDraft Refusal) → TellsRefusal error meant
    → TellsRefusal error (meant >>= next)
refused-more (script.Row row kind code) meant next (fault, is, same, also) = (fault, ap (λ (r : Result PlainDraft Refusal). r >>= next) is, same, also)
refused-more (script.Dump fault) meant next is = ap (λ (r : Result PlainDraft Refusal). r >>= next) is
refused-more (script.Audit found) meant next is = ap (λ (r : Result PlainDraft Refusal). r >>= next) is
refused-more script.NoMemory meant next is = tt

pub refused-both : (error : ScriptError) (draft : PlainDraft) (number : ℕ) (rows more : List Fields) → TellsRefusal error (draft_after draft number rows)
    → TellsRefusal error (draft_after draft number (rows ++ more))
refused-both error draft number rows more told =
    subst (TellsRefusal error) (sym (after-both number draft rows more))
    (refused-more error (draft_after draft number rows) (λ next. draft_after next (number_after number rows) more) told)

-- ---- a reader beside a script

pub stays-more : (first before after : PlainDraft) (number : ℕ) (rows : List Fields) → Stays first before → draft_after before number rows ≡ Ok after
    → Stays first after
stays-more first before after number rows stays is =
    let next = stays-behind before number after rows stays.under is in
    record { under = next.under; same = λ clock. next.same clock ∙ stays.same clock }

-- ---- pieces that were read

-- what was read beside the first draft was read beside any after it
has-behind : (first draft : PlainDraft) (piece : Piece) → Stays first draft → HasRead first piece → HasRead draft piece
has-behind first draft piece stays =
    subst (λ (d : PlainDraft). IfOk piece.reader (λ (read : PlainDraft). (draft_after d piece.number piece.rows ≡ Ok read) × (piece.after ≡ number_after piece.number piece.rows)))
    (sym (stays.same piece.clock))

told-ok : (reader : Result PlainDraft ScriptError) (meant : Result PlainDraft Refusal) (A : Type 0) → TellsDraft reader meant → IfOk reader (λ (read : PlainDraft). A)
    → IfOk reader (λ (read : PlainDraft). (meant ≡ Ok read) × A)
told-ok (Ok read) meant A told a = (told, a)
told-ok (Err error) meant A told a = tt

has-read : (draft : PlainDraft) (before after : Piece) → IsBeside draft before → ReadsPiece before after → HasRead draft after
has-read draft before after is reads =
    rw (reads.clock, reads.number, reads.rows)
    (told-ok after.reader (draft_after (beside draft before.clock) before.number before.rows) (after.after ≡ number_after before.number before.rows)
    (IfOk-at_ok (λ (from : PlainDraft). TellsDraft after.reader (draft_after from before.number before.rows)) is reads.told) reads.behind)

-- pieces were read
pub pieces-read : (draft : PlainDraft) (before after : List Piece) → All (IsBeside draft) before → AllZip ReadsPiece before after
    → All (HasRead draft) after × (rows_of after ≡ rows_of before)
pieces-read draft [] [] are read = (All-nil (HasRead draft), refl)
pieces-read draft (b ∷ before) (a ∷ after) are (first, read) =
    let rest = pieces-read draft before after (All-tail (IsBeside draft) b before are) read in (
      All-cons (HasRead draft) a after (has-read draft b a (All-head (IsBeside draft) b before are) first) rest.0,
      ap (λ (rows : List Fields). rows ++ rows_of after) first.rows ∙ ap (λ (rows : List Fields). b.rows ++ rows) rest.1,
    )
pieces-read draft _ _ are read = absurd read

-- what a piece has that was read without a fault
pub read-of : (draft : PlainDraft) (piece : Piece) (read : PlainDraft) → HasRead draft piece → piece.reader ≡ Ok read
    → (draft_after (beside draft piece.clock) piece.number piece.rows ≡ Ok read) × (piece.after ≡ number_after piece.number piece.rows)
read-of draft piece read has is =
    subst (λ (r : Result PlainDraft ScriptError). IfOk r (λ (read : PlainDraft). (draft_after (beside draft piece.clock) piece.number piece.rows ≡ Ok read)
    × (piece.after ≡ number_after piece.number piece.rows))) is has

-- it was read behind a draft that it is next to
pub next-read : (draft : PlainDraft) (number : ℕ) (piece : Piece) (read : PlainDraft) → IsUnderway draft → HasRead draft piece → piece.reader ≡ Ok read
    → IsNext draft number piece → (draft_after draft number piece.rows ≡ Ok (joined draft read)) × AreAlike draft read
next-read draft number piece read under has is (at, clock, room) =
    subst (λ (n : ℕ). (draft_after draft n piece.rows ≡ Ok (joined draft read)) × AreAlike draft read) at
    (read-behind draft (beside draft piece.clock) piece.number piece.rows read (beside-ready draft piece.clock under clock) (read-of draft piece read has is).0
    (subst (λ (r : Result PlainDraft ScriptError). IsOkAnd r (λ (x : PlainDraft). draft.items + x.items ≤ draft.script.limits.items)) is room))

-- ---- one piece more

-- the rows of one piece more
pub rows-more : (pieces : List Piece) (piece : Piece) → rows_of (pieces ++ piece ∷ []) ≡ rows_of pieces ++ piece.rows
rows-more pieces piece =
    flat_map-append (λ (p : Piece). p.rows) pieces (piece ∷ []) ∙ ap (λ (rows : List Fields). rows_of pieces ++ rows) (append-nil piece.rows)

-- the pieces so far, the next, and those after it
pub parted : (pieces done : List Piece) (piece : Piece) → done ≡ take (length done) pieces → length done < length pieces → piece ≡ get_or pieces (length done) piece
    → pieces ≡ done ++ (piece ∷ drop (suc (length done)) pieces)
parted pieces done piece so_far more next =
    sym (take-append-drop (length done) pieces)
    ∙ ap (λ (ps : List Piece). ps ++ drop (length done) pieces) (sym so_far)
    ∙ ap (λ (ps : List Piece). done ++ ps) (drop-cons pieces (length done) piece more ∙ ap (λ (p : Piece). p ∷ drop (suc (length done)) pieces) (sym next))

pub rows-parted : (pieces done : List Piece) (piece : Piece) (behind : List Piece) → pieces ≡ done ++ (piece ∷ behind)
    → rows_of pieces ≡ rows_of done ++ (piece.rows ++ rows_of behind)
rows-parted pieces done piece behind is = ap rows_of is ∙ flat_map-append (λ (p : Piece). p.rows) done (piece ∷ behind)

-- ---- what goes for all pieces

module _ (first : PlainDraft) (number : ℕ) (pieces done : List Piece) (piece : Piece) (so_far : done ≡ take (length done) pieces)
    (more : length done < length pieces) (next : piece ≡ get_or pieces (length done) piece) (before : PlainDraft) (at : ℕ)
    (stays : Stays first before) (read : draft_after first number (rows_of done) ≡ Ok before) (is_at : at ≡ number_after number (rows_of done)) where
  -- the next piece was read beside this draft too
  pub piece-here : All (HasRead first) pieces → HasRead before piece
  piece-here all = has-behind first before piece stays (subst (HasRead first) (sym next) (all (length done) piece more))

  -- its rows after those so far
  piece-behind : draft_after first number (rows_of done ++ piece.rows) ≡ draft_after before at piece.rows
  piece-behind =
      behind-both first number (rows_of done) piece.rows before read ∙ ap (λ (n : ℕ). draft_after before n piece.rows) (sym is_at)

  pub piece-read : (after : PlainDraft) → draft_after before at piece.rows ≡ Ok after → draft_after first number (rows_of (done ++ piece ∷ [])) ≡ Ok after
  piece-read after is = ap (draft_after first number) (rows-more done piece) ∙ piece-behind ∙ is

  pub piece-number : (behind : ℕ) → behind ≡ number_after at piece.rows → behind ≡ number_after number (rows_of (done ++ piece ∷ []))
  piece-number behind is =
      is ∙ ap (λ (n : ℕ). number_after n piece.rows) is_at ∙ sym (number-both number (rows_of done) piece.rows)
      ∙ sym (ap (number_after number) (rows-more done piece))

  -- the first fault of its rows is that of all
  pub piece-refused : (error : ScriptError) → TellsRefusal error (draft_after before at piece.rows) → TellsRefusal error (draft_after first number (rows_of pieces))
  piece-refused error told =
      let behind = drop (suc (length done)) pieces in
      let all : rows_of pieces ≡ (rows_of done ++ piece.rows) ++ rows_of behind =
      rows-parted pieces done piece behind (parted pieces done piece so_far more next) ∙ sym (append_assoc (rows_of done) piece.rows (rows_of behind)) in
      subst (λ (rows : List Fields). TellsRefusal error (draft_after first number rows)) (sym all)
      (refused-both error first number (rows_of done ++ piece.rows) (rows_of behind) (subst (TellsRefusal error) (sym piece-behind) told))
