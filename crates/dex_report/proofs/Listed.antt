-- The parts of a report, in their order.
use Rattle.std.proofs.Common.{◌≡◌, ◌∙◌, ◌++◌, ℕ, List, [], ◌∷◌, Vec, Global, ap, append_assoc, append-nil, codes, map, refl, sym, All}
use Rattle.std.specs.List.{flat_map}
use Rattle.std.proofs.lemmas.Grind.{flat_map-append}
use Rattle.std.proofs.lemmas.List.Folds.{flat_map-map}
use Rattle.std.proofs.lemmas.List.Elements.{All-cons, All-head, All-map, All-nil, All-tail}
use Rattle.dex_types.specs.declared.account_bytes.MarketAccounts.{MarketAccounts}
use Rattle.dex_types.specs.declared.rows.Row.{Row}
use Rattle.dex_types.specs.Accounts.{PlainAccounts, PlainMarketAccounts, market_accounts_of}
use Rattle.dex_state.specs.Held.{IsHeldMarket}
use Rattle.dex_dump.specs.DumpText.{account_rows, dump_text, first_row, lines_text, market_rows}
use Rattle.dex_dump.proofs.TextLaws.{lines_text-append}
use Rattle.dex_dump.proofs.WholeLaws.{front_of, whole-text}
use Rattle.dex_state.specs.declared.outcome.MarketJournal.{MarketJournal}
use Rattle.dex_state.specs.declared.outcome.WalletJournal.{WalletJournal}
use Rattle.dex_state.specs.Outcomes.{market_journal_of, wallet_journal_of}
use Rattle.dex_report.specs.Report.{market_lines, wallet_lines}
use Rattle.dex_report.specs.Telling.{FitMarket, IsToldWallet}
use Rattle.dex_report.specs.Parts.{FitPart, part_lines}
use Rattle.dex_report.specs.declared.part.Part.{Part}
use Rattle.dex_report.specs.declared.part.Part.TheVariants.{Text, Market, Wallets, Rows, Spent}

-- the lines of some parts and of others
both : (xs ys : List Part) (x y : List ℕ) → flat_map part_lines xs ≡ x → flat_map part_lines ys ≡ y → flat_map part_lines (xs ++ ys) ≡ x ++ y
both xs ys x y p q = flat_map-append part_lines xs ys ∙ ap (λ (t : List ℕ). t ++ flat_map part_lines ys) p ∙ ap (λ (t : List ℕ). x ++ t) q

five : (a b c d e : List ℕ) → (((a ++ b) ++ c) ++ d) ++ e ≡ a ++ (b ++ (c ++ (d ++ e)))
five a b c d e = append_assoc _ d e ∙ append_assoc _ c _ ∙ append_assoc a b _

six : (a b c d e f : List ℕ) → ((((a ++ b) ++ c) ++ d) ++ e) ++ f ≡ a ++ (b ++ (c ++ (d ++ (e ++ f))))
six a b c d e f = append_assoc _ e f ∙ five a b c d (e ++ f)

-- what holds of all holds of those in front, of those after, and of what was mapped
front : {A : Type 0} (P : A → Type 0) (xs ys : List A) → All P (xs ++ ys) → All P xs
front P [] ys all = All-nil P
front P (x ∷ xs) ys all = All-cons P x xs (All-head P x (xs ++ ys) all) (front P xs ys (All-tail P x (xs ++ ys) all))

behind : {A : Type 0} (P : A → Type 0) (xs ys : List A) → All P (xs ++ ys) → All P ys
behind P [] ys all = all
behind P (x ∷ xs) ys all = behind P xs ys (All-tail P x (xs ++ ys) all)

mapped : {A B : Type 0} (P : B → Type 0) (f : A → B) (xs : List A) → All P (map f xs) → All (λ (x : A). P (f x)) xs
mapped P f [] all = All-nil _
mapped P f (x ∷ xs) all = All-cons (λ (y : _). P (f y)) x xs (All-head P (f x) (map f xs) all) (mapped P f xs (All-tail P (f x) (map f xs) all))

-- the rows of markets as one text
rows-text : (rows : List MarketAccounts) → flat_map (λ (market : MarketAccounts). lines_text (market_rows (market_accounts_of market))) rows
    ≡ lines_text (flat_map market_rows (map market_accounts_of rows))
unfolding lines_text
rows-text [] = refl
rows-text (market ∷ rows) =
    ap (λ (t : List ℕ). lines_text (market_rows (market_accounts_of market)) ++ t) (rows-text rows)
    ∙ sym (lines_text-append (market_rows (market_accounts_of market)) (flat_map market_rows (map market_accounts_of rows)))

-- a dump in its parts, and what stands after it
dump-behind : (accounts : PlainAccounts) → lines_text (first_row ∷ account_rows (front_of accounts))
    ++ (lines_text (flat_map market_rows accounts.markets) ++ (codes "enddump\n" ++ codes "end\n")) ≡ dump_text accounts ++ codes "end\n"
dump-behind accounts =
    let opening = lines_text (first_row ∷ account_rows (front_of accounts)) in
    let rows = lines_text (flat_map market_rows accounts.markets) in
    sym (append_assoc (opening ++ rows) (codes "enddump\n") (codes "end\n") ∙ append_assoc opening rows (codes "enddump\n" ++ codes "end\n"))
    ∙ ap (λ (t : List ℕ). t ++ codes "end\n") (whole-text accounts [])

-- of rows that are spent nothing is told
nothing-of : (spent : List (Vec Row Global)) → flat_map part_lines (map Spent spent) ≡ []
nothing-of [] = refl
nothing-of (rows ∷ spent) = nothing-of spent

module _ (spent : List (Vec Row Global)) (head opening end : Vec ℕ Global) (markets : List MarketJournal) (wallets : Vec WalletJournal Global) (rows : List MarketAccounts) where
  abbrev up_to_head : List Part
  up_to_head = map Spent spent ++ Text head ∷ []

  abbrev up_to_markets : List Part
  up_to_markets = up_to_head ++ map Market markets

  abbrev up_to_wallets : List Part
  up_to_wallets = up_to_markets ++ Wallets wallets ∷ []

  abbrev up_to_opening : List Part
  up_to_opening = up_to_wallets ++ Text opening ∷ []

  abbrev up_to_rows : List Part
  up_to_rows = up_to_opening ++ map Rows rows

  -- all parts
  abbrev pub parts : List Part
  parts = up_to_rows ++ Text end ∷ []

  -- their lines
  pub lines-of-parts : flat_map part_lines parts
      ≡ head.items ++ (flat_map market_lines (map market_journal_of markets) ++ (flat_map wallet_lines (map wallet_journal_of wallets.items)
      ++ (opening.items ++ (flat_map (λ (market : MarketAccounts). lines_text (market_rows (market_accounts_of market))) rows ++ end.items))))
  lines-of-parts =
      both up_to_rows (Text end ∷ []) _ _
      (both up_to_opening (map Rows rows) _ _
      (both up_to_wallets (Text opening ∷ []) _ _
      (both up_to_markets (Wallets wallets ∷ []) _ _
      (both up_to_head (map Market markets) _ _
      (both (map Spent spent) (Text head ∷ []) [] _ (nothing-of spent) (append-nil head.items))
      (flat_map-map part_lines Market markets ∙ sym (flat_map-map market_lines market_journal_of markets)))
      (append-nil _ ∙ sym (flat_map-map wallet_lines wallet_journal_of wallets.items)))
      (append-nil opening.items))
      (flat_map-map part_lines Rows rows))
      (append-nil end.items)
      ∙ six head.items (flat_map market_lines (map market_journal_of markets)) (flat_map wallet_lines (map wallet_journal_of wallets.items)) opening.items
      (flat_map (λ (market : MarketAccounts). lines_text (market_rows (market_accounts_of market))) rows) end.items

  -- the report, where the head is its first line, and the rest the dump's first rows, and its last and the report's
  pub report-of-parts : (accounts : PlainAccounts) (first : List ℕ) → map market_accounts_of rows ≡ accounts.markets → head.items ≡ first
      → opening.items ≡ lines_text (first_row ∷ account_rows (front_of accounts)) → end.items ≡ codes "enddump\n" ++ codes "end\n"
      → flat_map part_lines parts
      ≡ (((first ++ flat_map market_lines (map market_journal_of markets)) ++ flat_map wallet_lines (map wallet_journal_of wallets.items)) ++ dump_text accounts) ++ codes "end\n"
  report-of-parts accounts first all begins opens ends =
      let journals = flat_map market_lines (map market_journal_of markets) in
      let moves = flat_map wallet_lines (map wallet_journal_of wallets.items) in
      let rest = opening.items ++ (flat_map (λ (market : MarketAccounts). lines_text (market_rows (market_accounts_of market))) rows ++ end.items) in
      lines-of-parts ∙ ap (λ (t : List ℕ). t ++ (journals ++ (moves ++ rest))) begins
      ∙ ap (λ (t : List ℕ). first ++ (journals ++ (moves ++ t)))
      (ap (λ (t : List ℕ). t ++ (flat_map (λ (market : MarketAccounts). lines_text (market_rows (market_accounts_of market))) rows ++ end.items)) opens
      ∙ ap (λ (t : List ℕ). lines_text (first_row ∷ account_rows (front_of accounts)) ++ t)
      (ap (λ (t : List ℕ). t ++ end.items) (rows-text rows ∙ ap (λ (ms : List PlainMarketAccounts). lines_text (flat_map market_rows ms)) all)
      ∙ ap (λ (t : List ℕ). lines_text (flat_map market_rows accounts.markets) ++ t) ends)
      ∙ dump-behind accounts)
      ∙ sym (five first journals moves (dump_text accounts) (codes "end\n"))

  -- where all of them fit, the journals do, and the rows
  pub markets-fit : All FitPart parts → All FitMarket (map market_journal_of markets)
  markets-fit fit =
      let first = front FitPart up_to_markets _ (front FitPart up_to_wallets _ (front FitPart up_to_opening _ (front FitPart up_to_rows _ fit))) in
      All-map FitMarket market_journal_of markets (mapped FitPart Market markets (behind FitPart up_to_head _ first))

  pub wallets-fit : All FitPart parts → All IsToldWallet (map wallet_journal_of wallets.items)
  wallets-fit fit =
      let last = behind FitPart up_to_markets _ (front FitPart up_to_wallets _ (front FitPart up_to_opening _ (front FitPart up_to_rows _ fit))) in
      All-map IsToldWallet wallet_journal_of wallets.items (All-head FitPart (Wallets wallets) [] last)

  pub rows-fit : All FitPart parts → All IsHeldMarket (map market_accounts_of rows)
  rows-fit fit =
      All-map IsHeldMarket market_accounts_of rows (mapped FitPart Rows rows (behind FitPart up_to_opening _ (front FitPart up_to_rows _ fit)))
