-- The lines of journals' entries are read back.
use Rattle.std.proofs.Common.{◌≡◌, ◌∙◌, ℕ, ◌<◌, ◌^◌, ◌++◌, ◌∷◌, [], List, true, if◌then◌else◌, Option, Some, None, is_none, All, codes, refl, sym, ap, length, append_assoc, append-nil, arith}
use Rattle.std.specs.Fmt.{decimal}
use Rattle.std.specs.Str.{bytes_eq}
use Rattle.std.specs.List.{flat_map, list_all}
use Rattle.std.proofs.lemmas.Grind.{flat_map-append}
use Rattle.std.proofs.lemmas.List.{append_cancel_left}
use Rattle.std.proofs.lemmas.List.Folds.{list_all-append}
use Rattle.dex_types.specs.declared.addresses.Address.{Address}
use Rattle.dex_types.specs.declared.movements.Entry.{Entry}
use Rattle.dex_types.specs.declared.movements.MoveKind.{MoveKind}
use Rattle.dex_types.specs.declared.movements.MoveKind.TheVariants.{Probe, Debit, Credit}
use Rattle.dex_types.specs.declared.movements.Movement.{Movement}
use Rattle.dex_types.specs.declared.movements.WalletEntry.{WalletEntry}
use Rattle.dex_types.specs.MovementText.{kind_text}
use Rattle.dex_types.specs.Text.{address_text, reply_text, spaced}
use Rattle.dex_state.specs.Held.{IsAddress}
use Rattle.dex_dump.proofs.EachRow.{first_of, others_of}
use Rattle.dex_report.specs.Report.{entry_line, move_line, move_text}
use Rattle.dex_report.specs.Telling.{FitMove, FitWalletEntry, IsTold, stand_from_front}
use Rattle.dex_report.proofs.ReadBack.{IsReadBack}
use Rattle.dex_report.proofs.Replies.{reply-are_words, reply-ends, reply-spaced, reply_words, six-words}
use Rattle.dex_report.proofs.Values.{address_in, address_in-text, is_word-address, is_word-decimal, number_in, number_in-decimal}
use Rattle.dex_report.proofs.Words.{is_word, line-ends}

-- ---- values of one text

pub same-number : (m n : ℕ) → m < 2 ^ 128 → n < 2 ^ 128 → decimal m ≡ decimal n → m ≡ n
same-number m n fm fn e = sym (number_in-decimal m fm) ∙ ap number_in e ∙ number_in-decimal n fn

pub same-address : (a b : Address) → IsAddress a → IsAddress b → address_text a ≡ address_text b → a ≡ b
same-address a b fa fb e = sym (address_in-text a fa) ∙ ap address_in e ∙ address_in-text b fb

pub from32 : (n : ℕ) → n < 2 ^ 32 → n < 2 ^ 128
from32 n h = omega arith

pub from64 : (n : ℕ) → n < 2 ^ 64 → n < 2 ^ 128
from64 n h = omega arith

kind_in : List ℕ → MoveKind
kind_in word = if bytes_eq word (codes "probe") then Probe else (if bytes_eq word (codes "debit") then Debit else Credit)

kind_in-text : (kind : MoveKind) → kind_in (kind_text kind) ≡ kind
unfolding kind_in
kind_in-text Probe = refl
kind_in-text Debit = refl
kind_in-text Credit = refl

same-kind : (a b : MoveKind) → kind_text a ≡ kind_text b → a ≡ b
same-kind a b e = sym (kind_in-text a) ∙ ap kind_in e ∙ kind_in-text b

is_word-kind : (kind : MoveKind) → is_word (kind_text kind) ≡ true
is_word-kind Probe = refl
is_word-kind Debit = refl
is_word-kind Credit = refl

-- ---- movements

abbrev move_words : Option Movement → List (List ℕ)
move_words None = []
move_words (Some movement) = address_text movement.wallet ∷ kind_text movement.kind ∷ decimal movement.amount ∷ decimal movement.before ∷ []

move-spaced : (move : Option Movement) → move_text move ≡ flat_map spaced (move_words move)
move-spaced None = refl
move-spaced (Some movement) = simp (append_assoc, append-nil, spaced)

moves-spaced : (moves : List (Option Movement)) → flat_map move_text moves ≡ flat_map spaced (flat_map move_words moves)
moves-spaced [] = refl
moves-spaced (move ∷ moves) = rw (move-spaced move, moves-spaced moves) (sym (flat_map-append spaced (move_words move) (flat_map move_words moves)))

move-are_words : (move : Option Movement) → FitMove move → list_all is_word (move_words move) ≡ true
move-are_words None h = refl
move-are_words (Some movement) h =
    rw (is_word-address movement.wallet h.0, is_word-kind movement.kind, is_word-decimal movement.amount (from64 _ h.1), is_word-decimal movement.before (from64 _ h.2)) refl

moves-are_words : (moves : List (Option Movement)) → All FitMove moves → list_all is_word (flat_map move_words moves) ≡ true
moves-are_words [] h = refl
moves-are_words (move ∷ moves) h =
    rw (list_all-append is_word (move_words move), move-are_words move (first_of FitMove move moves h), moves-are_words moves (others_of FitMove move moves h)) refl

same-movement : (a b : Movement) → a.wallet ≡ b.wallet → a.kind ≡ b.kind → a.amount ≡ b.amount → a.before ≡ b.before → a ≡ b
same-movement a b p q r s = λ i. record { wallet = p i; kind = q i; amount = r i; before = s i }

-- after an empty place no movement has words
none-words : (moves : List (Option Movement)) → list_all is_none moves ≡ true → flat_map move_words moves ≡ []
none-words [] h = refl
none-words (None ∷ moves) h = none-words moves h
none-words (Some movement ∷ moves) h = absurd (cc h)

none-same : (s t : List (Option Movement)) → list_all is_none s ≡ true → list_all is_none t ≡ true → length s ≡ length t → s ≡ t
none-same [] [] hs ht same = refl
none-same [] (b ∷ t) hs ht same = absurd (omega arith)
none-same (a ∷ s) [] hs ht same = absurd (omega arith)
none-same (None ∷ s) (None ∷ t) hs ht same =
    let fewer : length s ≡ length t = omega arith in
    ap (λ (r : List (Option Movement)). None ∷ r) (none-same s t hs ht fewer)
none-same (Some a ∷ s) (b ∷ t) hs ht same = absurd (cc hs)
none-same (None ∷ s) (Some b ∷ t) hs ht same = absurd (cc ht)

no-words : (m : Movement) (s t : List (Option Movement)) → list_all is_none t ≡ true → flat_map move_words (Some m ∷ s) ≡ flat_map move_words t → ⊥
no-words m s t none e = let empty = none-words t none in cc (e ∙ empty)

-- movements that stand from the front, in one number of places, are told by their words
moves-told : (s t : List (Option Movement)) → All FitMove s → All FitMove t → stand_from_front s ≡ true → stand_from_front t ≡ true → length s ≡ length t
    → flat_map move_words s ≡ flat_map move_words t → s ≡ t
moves-told [] [] fs ft hs ht same e = refl
moves-told [] (b ∷ t) fs ft hs ht same e = absurd (omega arith)
moves-told (a ∷ s) [] fs ft hs ht same e = absurd (omega arith)
moves-told (None ∷ s) (None ∷ t) fs ft hs ht same e =
    let fewer : length s ≡ length t = omega arith in
    ap (λ (r : List (Option Movement)). None ∷ r) (none-same s t hs ht fewer)
moves-told (None ∷ s) (Some b ∷ t) fs ft hs ht same e = absurd (no-words b t s hs (sym e))
moves-told (Some a ∷ s) (None ∷ t) fs ft hs ht same e = absurd (no-words a s t ht e)
moves-told (Some a ∷ s) (Some b ∷ t) fs ft hs ht same e =
    let fa = first_of FitMove (Some a) s fs in
    let fb = first_of FitMove (Some b) t ft in
    let wallet : address_text a.wallet ≡ address_text b.wallet = cc e in
    let kind : kind_text a.kind ≡ kind_text b.kind = cc e in
    let amount : decimal a.amount ≡ decimal b.amount = cc e in
    let before : decimal a.before ≡ decimal b.before = cc e in
    let rest : flat_map move_words s ≡ flat_map move_words t = cc e in
    let fewer : length s ≡ length t = omega arith in
    let first : a ≡ b = same-movement a b (same-address a.wallet b.wallet fa.0 fb.0 wallet) (same-kind a.kind b.kind kind)
    (same-number a.amount b.amount (from64 _ fa.1) (from64 _ fb.1) amount) (same-number a.before b.before (from64 _ fa.2) (from64 _ fb.2) before) in
    let others : s ≡ t = moves-told s t (others_of FitMove (Some a) s fs) (others_of FitMove (Some b) t ft) hs ht fewer rest in
    cc (first, others)

-- ---- the entry of a market's journal

abbrev entry_words : Entry → List (List ℕ)
entry_words entry = decimal entry.lane ∷ decimal entry.row ∷ (reply_words entry.reply ++ flat_map move_words entry.moves)

entry-joined : (p l r q m x : List ℕ) → (((((p ++ l) ++ r) ++ q) ++ m) ++ (10 ∷ [])) ++ x ≡ p ++ ((l ++ (r ++ (q ++ m))) ++ (10 ∷ x))
entry-joined p l r q m x = simp append_assoc

joined : (a b s t : List ℕ) → a ≡ b → s ≡ t → a ++ s ≡ b ++ t
joined a b s t p q = cc

entry-spaced : (entry : Entry) (x : List ℕ) → entry_line entry ++ x ≡ codes "entry" ++ (flat_map spaced (entry_words entry) ++ 10 ∷ x)
entry-spaced entry x =
    let reply : spaced (reply_text entry.reply) ≡ flat_map spaced (reply_words entry.reply) = reply-spaced entry.reply in
    let moves : flat_map move_text entry.moves ≡ flat_map spaced (flat_map move_words entry.moves) = moves-spaced entry.moves in
    let both : spaced (reply_text entry.reply) ++ flat_map move_text entry.moves ≡ flat_map spaced (reply_words entry.reply ++ flat_map move_words entry.moves)
    = joined (spaced (reply_text entry.reply)) _ (flat_map move_text entry.moves) _ reply moves
    ∙ sym (flat_map-append spaced (reply_words entry.reply) (flat_map move_words entry.moves)) in
    let lane = spaced (decimal entry.lane) in
    let row = spaced (decimal entry.row) in
    entry-joined (codes "entry") lane row (spaced (reply_text entry.reply)) (flat_map move_text entry.moves) x
    ∙ ap (λ (t : List ℕ). codes "entry" ++ ((lane ++ (row ++ t)) ++ (10 ∷ x))) both

entry-are_words : (entry : Entry) → IsTold entry → list_all is_word (entry_words entry) ≡ true
entry-are_words entry h =
    rw (
      is_word-decimal entry.lane (from32 _ h.fits.lane),
      is_word-decimal entry.row (from32 _ h.fits.row),
      list_all-append is_word (reply_words entry.reply),
      reply-are_words entry.reply h.fits.reply,
      moves-are_words entry.moves h.fits.moves,
    ) refl

same-entry : (a b : Entry) → a.lane ≡ b.lane → a.row ≡ b.row → a.reply ≡ b.reply → a.moves ≡ b.moves → a ≡ b
same-entry a b p q r s = λ i. record { lane = p i; row = q i; reply = r i; moves = s i }

entry-told : (a b : Entry) → IsTold a → IsTold b → entry_words a ≡ entry_words b → a ≡ b
entry-told a b ha hb e =
    let lane : decimal a.lane ≡ decimal b.lane = cc e in
    let row : decimal a.row ≡ decimal b.row = cc e in
    let rest : reply_words a.reply ++ flat_map move_words a.moves ≡ reply_words b.reply ++ flat_map move_words b.moves = cc e in
    let parts = reply-ends a.reply b.reply (flat_map move_words a.moves) (flat_map move_words b.moves) ha.fits.reply hb.fits.reply rest in
    same-entry a b
    (same-number a.lane b.lane (from32 _ ha.fits.lane) (from32 _ hb.fits.lane) lane)
    (same-number a.row b.row (from32 _ ha.fits.row) (from32 _ hb.fits.row) row)
    parts.0
    (moves-told a.moves b.moves ha.fits.moves hb.fits.moves ha.front hb.front (ha.fits.places ∙ sym hb.fits.places) parts.1)

pub entry-back : IsReadBack Entry IsTold entry_line
entry-back a b x y ha hb e =
    let words = append_cancel_left (codes "entry") _ _ (sym (entry-spaced a x) ∙ e ∙ entry-spaced b y) in
    let parts = line-ends (entry_words a) (entry_words b) x y (entry-are_words a ha) (entry-are_words b hb) words in
    (entry-told a b ha hb parts.0, parts.1)

-- ---- the entry of a wallet's journal

abbrev wallet_words : WalletEntry → List (List ℕ)
wallet_words entry =
    address_text entry.market ∷ decimal entry.lane ∷ decimal entry.row ∷ kind_text entry.kind ∷ decimal entry.amount ∷ decimal entry.before ∷ []

line-joined : (p t x : List ℕ) → ((p ++ t) ++ (10 ∷ [])) ++ x ≡ p ++ (t ++ (10 ∷ x))
line-joined p t x = simp append_assoc

move-line : (entry : WalletEntry) (x : List ℕ) → move_line entry ++ x ≡ codes "move" ++ (flat_map spaced (wallet_words entry) ++ 10 ∷ x)
move-line entry x =
    ap (λ (t : List ℕ). (t ++ (10 ∷ [])) ++ x) (six-words (codes "move") (address_text entry.market) (decimal entry.lane) (decimal entry.row)
    (kind_text entry.kind) (decimal entry.amount) (decimal entry.before))
    ∙ line-joined (codes "move") (flat_map spaced (wallet_words entry)) x

wallet-are_words : (entry : WalletEntry) → FitWalletEntry entry → list_all is_word (wallet_words entry) ≡ true
wallet-are_words entry h =
    rw (
      is_word-address entry.market h.market,
      is_word-decimal entry.lane (from32 _ h.lane),
      is_word-decimal entry.row (from32 _ h.row),
      is_word-kind entry.kind,
      is_word-decimal entry.amount (from64 _ h.amount),
      is_word-decimal entry.before (from64 _ h.before),
    ) refl

same-wallet_entry : (a b : WalletEntry) → a.market ≡ b.market → a.lane ≡ b.lane → a.row ≡ b.row → a.kind ≡ b.kind → a.amount ≡ b.amount → a.before ≡ b.before → a ≡ b
same-wallet_entry a b p q r s t u = λ i. record { market = p i; lane = q i; row = r i; kind = s i; amount = t i; before = u i }

wallet-told : (a b : WalletEntry) → FitWalletEntry a → FitWalletEntry b → wallet_words a ≡ wallet_words b → a ≡ b
wallet-told a b ha hb e =
    let market : address_text a.market ≡ address_text b.market = cc e in
    let lane : decimal a.lane ≡ decimal b.lane = cc e in
    let row : decimal a.row ≡ decimal b.row = cc e in
    let kind : kind_text a.kind ≡ kind_text b.kind = cc e in
    let amount : decimal a.amount ≡ decimal b.amount = cc e in
    let before : decimal a.before ≡ decimal b.before = cc e in
    same-wallet_entry a b
    (same-address a.market b.market ha.market hb.market market)
    (same-number a.lane b.lane (from32 _ ha.lane) (from32 _ hb.lane) lane)
    (same-number a.row b.row (from32 _ ha.row) (from32 _ hb.row) row)
    (same-kind a.kind b.kind kind)
    (same-number a.amount b.amount (from64 _ ha.amount) (from64 _ hb.amount) amount)
    (same-number a.before b.before (from64 _ ha.before) (from64 _ hb.before) before)

pub move-back : IsReadBack WalletEntry FitWalletEntry move_line
move-back a b x y ha hb e =
    let words = append_cancel_left (codes "move") _ _ (sym (move-line a x) ∙ e ∙ move-line b y) in
    let parts = line-ends (wallet_words a) (wallet_words b) x y (wallet-are_words a ha) (wallet-are_words b hb) words in
    (wallet-told a b ha hb parts.0, parts.1)
