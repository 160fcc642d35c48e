-- Journals, and the report of an outcome, are read back.
use Rattle.std.proofs.Common.{◌≡◌, ◌∙◌, ℕ, ◌<◌, ◌^◌, ◌++◌, ◌∷◌, [], List, true, false, All, codes, refl, sym, length, append_assoc, append-nil}
use Rattle.std.specs.Fmt.{decimal}
use Rattle.std.specs.List.{flat_map, list_all}
use Rattle.std.proofs.lemmas.List.{append_cancel_left, append_cancel_right}
use Rattle.dex_types.specs.declared.addresses.Address.{Address}
use Rattle.dex_types.specs.declared.movements.Entry.{Entry}
use Rattle.dex_types.specs.declared.movements.WalletEntry.{WalletEntry}
use Rattle.dex_types.specs.Accounts.{PlainAccounts}
use Rattle.dex_types.specs.Text.{address_text, spaced}
use Rattle.dex_state.specs.Held.{IsAddress}
use Rattle.dex_dump.specs.DumpText.{behind_first, dump_text, lines_text}
use Rattle.dex_dump.proofs.OneText.{dump_text-injective}
use Rattle.dex_report.specs.Lines.{line}
use Rattle.dex_state.specs.Outcomes.{PlainMarketJournal, PlainOutcome, PlainWalletJournal}
use Rattle.dex_report.specs.Report.{entry_line, market_lines, move_line, report_text, wallet_lines}
use Rattle.dex_report.specs.Telling.{FitWalletEntry, IsTold, IsToldMarket, IsToldOutcome, IsToldWallet}
use Rattle.dex_report.proofs.Entries.{entry-back, from32, from64, move-back, same-address, same-number}
use Rattle.dex_report.proofs.ReadBack.{IsReadBack, all-that, begins, so-many}
use Rattle.dex_report.proofs.Values.{is_word-address, is_word-decimal}
use Rattle.dex_report.proofs.Words.{is_word, line-ends}

-- ---- a journal: its address, how many lines follow, and these

abbrev header : Address → ℕ → List (List ℕ)
header address count = address_text address ∷ decimal count ∷ []

header-joined : (p a n t x : List ℕ) → ((((p ++ a) ++ n) ++ (10 ∷ [])) ++ t) ++ x ≡ p ++ ((a ++ (n ++ [])) ++ 10 ∷ (t ++ x))
header-joined p a n t x = simp (append_assoc, append-nil)

header-are_words : (address : Address) (count : ℕ) → IsAddress address → count < 2 ^ 64 → list_all is_word (header address count) ≡ true
header-are_words address count at few = rw (is_word-address address at, is_word-decimal count (from64 count few)) refl

-- what a journal's text tells, after its first word
journal-ends : (A : Type 0) (P : A → Type 0) (text : A → List ℕ) → IsReadBack A P text → (a b : Address) (s t : List A) (x y : List ℕ)
    → IsAddress a → IsAddress b → length s < 2 ^ 64 → length t < 2 ^ 64 → All P s → All P t
    → flat_map spaced (header a (length s)) ++ 10 ∷ (flat_map text s ++ x) ≡ flat_map spaced (header b (length t)) ++ 10 ∷ (flat_map text t ++ y)
    → (a ≡ b) × (s ≡ t) × (x ≡ y)
journal-ends A P text each a b s t x y at bt few many ps pt e =
    let parts = line-ends (header a (length s)) (header b (length t)) (flat_map text s ++ x) (flat_map text t ++ y)
    (header-are_words a (length s) at few) (header-are_words b (length t) bt many) e in
    let words = parts.0 in
    let address : address_text a ≡ address_text b = cc words in
    let count : decimal (length s) ≡ decimal (length t) = cc words in
    let lines = so-many A P text each s t x y ps pt (same-number (length s) (length t) (from64 _ few) (from64 _ many) count) parts.1 in
    (same-address a b at bt address, lines.0, lines.1)

market-spaced : (journal : PlainMarketJournal) (x : List ℕ) → market_lines journal ++ x
    ≡ codes "market" ++ (flat_map spaced (header journal.address (length journal.entries)) ++ 10 ∷ (flat_map entry_line journal.entries ++ x))
market-spaced journal x =
    header-joined (codes "market") (spaced (address_text journal.address)) (spaced (decimal (length journal.entries))) (flat_map entry_line journal.entries) x

same-market : (a b : PlainMarketJournal) → a.address ≡ b.address → a.entries ≡ b.entries → a ≡ b
same-market a b p q = λ i. record { address = p i; entries = q i }

market-back : IsReadBack PlainMarketJournal IsToldMarket market_lines
market-back a b x y ha hb e =
    let behind = append_cancel_left (codes "market") _ _ (sym (market-spaced a x) ∙ e ∙ market-spaced b y) in
    let parts = journal-ends Entry IsTold entry_line entry-back a.address b.address a.entries b.entries x y
    ha.address hb.address ha.count hb.count ha.entries hb.entries behind in
    (same-market a b parts.0 parts.1, parts.2)

wallet-spaced : (journal : PlainWalletJournal) (x : List ℕ) → wallet_lines journal ++ x
    ≡ codes "wallet" ++ (flat_map spaced (header journal.address (length journal.entries)) ++ 10 ∷ (flat_map move_line journal.entries ++ x))
wallet-spaced journal x =
    header-joined (codes "wallet") (spaced (address_text journal.address)) (spaced (decimal (length journal.entries))) (flat_map move_line journal.entries) x

same-wallet : (a b : PlainWalletJournal) → a.address ≡ b.address → a.entries ≡ b.entries → a ≡ b
same-wallet a b p q = λ i. record { address = p i; entries = q i }

wallet-back : IsReadBack PlainWalletJournal IsToldWallet wallet_lines
wallet-back a b x y ha hb e =
    let behind = append_cancel_left (codes "wallet") _ _ (sym (wallet-spaced a x) ∙ e ∙ wallet-spaced b y) in
    let parts = journal-ends WalletEntry FitWalletEntry move_line move-back a.address b.address a.entries b.entries x y
    ha.address hb.address ha.count hb.count ha.entries hb.entries behind in
    (same-wallet a b parts.0 parts.1, parts.2)

-- ---- what each part begins with

-- a market's lines begin with `m`, a wallet's with `w`, and a dump with `d`
market-begins : (journal : PlainMarketJournal) (x : List ℕ) → begins 109 (market_lines journal ++ x) ≡ true
market-begins journal x = refl

wallet-begins : (journal : PlainWalletJournal) (x : List ℕ) → begins 119 (wallet_lines journal ++ x) ≡ true
wallet-begins journal x = refl

dump-begins : (accounts : PlainAccounts) (x : List ℕ) → (begins 119 (dump_text accounts ++ x) ≡ false) × (begins 109 (dump_text accounts ++ x) ≡ false)
unfolding lines_text behind_first
dump-begins accounts x = (refl, refl)

wallets-begin : (wallets : List PlainWalletJournal) (x : List ℕ) → begins 109 x ≡ false → begins 109 (flat_map wallet_lines wallets ++ x) ≡ false
wallets-begin [] x other = other
wallets-begin (wallet ∷ wallets) x other = refl

-- ---- the report

report-joined : (p n m w d l : List ℕ) → (((((p ++ n) ++ (10 ∷ [])) ++ m) ++ w) ++ d) ++ l ≡ p ++ ((n ++ []) ++ 10 ∷ (m ++ (w ++ (d ++ l))))
report-joined p n m w d l = simp (append_assoc, append-nil)

-- what stands after the last wallet's journal
abbrev last_part : PlainOutcome → List ℕ
last_part outcome = dump_text outcome.accounts ++ line (codes "end")

-- what stands after the first line
abbrev behind_rows : PlainOutcome → List ℕ
behind_rows outcome = flat_map market_lines outcome.markets ++ (flat_map wallet_lines outcome.wallets ++ last_part outcome)

report-spaced : (outcome : PlainOutcome) (rows : ℕ) → report_text outcome rows ≡ codes "report" ++ (flat_map spaced (decimal rows ∷ []) ++ 10 ∷ behind_rows outcome)
report-spaced outcome rows =
    report-joined (codes "report") (spaced (decimal rows)) (flat_map market_lines outcome.markets) (flat_map wallet_lines outcome.wallets)
    (dump_text outcome.accounts) (line (codes "end"))

same-outcome : (a b : PlainOutcome) → a.accounts ≡ b.accounts → a.markets ≡ b.markets → a.wallets ≡ b.wallets → a ≡ b
same-outcome a b p q r = λ i. record { accounts = p i; markets = q i; wallets = r i }

rows-are_words : (rows : ℕ) → rows < 2 ^ 32 → list_all is_word (decimal rows ∷ []) ≡ true
rows-are_words rows few = rw (is_word-decimal rows (from32 rows few)) refl

outcome-ends : (a b : PlainOutcome) → IsToldOutcome a → IsToldOutcome b → behind_rows a ≡ behind_rows b → a ≡ b
outcome-ends a b ha hb e =
    let ends = line (codes "end") in
    let da = dump-begins a.accounts ends in
    let db = dump-begins b.accounts ends in
    let markets = all-that PlainMarketJournal IsToldMarket market_lines 109 market-back market-begins a.markets b.markets _ _ ha.markets hb.markets
    (wallets-begin a.wallets (last_part a) da.1) (wallets-begin b.wallets (last_part b) db.1) e in
    let wallets = all-that PlainWalletJournal IsToldWallet wallet_lines 119 wallet-back wallet-begins a.wallets b.wallets (last_part a) (last_part b)
    ha.wallets hb.wallets da.0 db.0 markets.1 in
    let dumps : dump_text a.accounts ≡ dump_text b.accounts = append_cancel_right (dump_text a.accounts) (dump_text b.accounts) ends wallets.1 in
    same-outcome a b (dump_text-injective a.accounts b.accounts ha.accounts hb.accounts dumps) markets.0 wallets.0

-- two outcomes of one report are equal, and so are their numbers of rows
pub report_text-injective : (a b : PlainOutcome) (n m : ℕ) → IsToldOutcome a → IsToldOutcome b → n < 2 ^ 32 → m < 2 ^ 32
    → report_text a n ≡ report_text b m → (a ≡ b) × (n ≡ m)
report_text-injective a b n m ha hb fn fm e =
    let behind = append_cancel_left (codes "report") _ _ (sym (report-spaced a n) ∙ e ∙ report-spaced b m) in
    let parts = line-ends (decimal n ∷ []) (decimal m ∷ []) (behind_rows a) (behind_rows b) (rows-are_words n fn) (rows-are_words m fm) behind in
    let words = parts.0 in
    let rows : decimal n ≡ decimal m = cc words in
    (outcome-ends a b ha hb parts.1, same-number n m (from32 n fn) (from32 m fm) rows)
