-- A dump is its front, the rows of its markets, and its end.
use Rattle.std.proofs.Common.{◌≡◌, ◌++◌, ◌∷◌, ◌∙◌, [], ℕ, All, List, ap, append-nil, append_assoc, codes, subst, sym}
use Rattle.std.specs.List.{flat_map}
use Rattle.dex_types.specs.Accounts.{PlainAccounts}
use Rattle.dex_dump_rows.specs.Lines.{Fields}
use Rattle.dex_types.specs.declared.limits.Limits.{Limits}
use Rattle.dex_state.specs.Accepted.{AreAccepted}
use Rattle.dex_state.specs.Held.{HoldBytes, IsHeldMarket}
use Rattle.dex_dump.specs.Answers.{IsReadAs}
use Rattle.dex_dump.specs.DumpText.{account_rows, behind_first, dump_text, first_row, last_row, lines_text, market_rows}
use Rattle.dex_dump.proofs.BackLaws.{text-read}
use Rattle.dex_dump.proofs.TextLaws.{lines_text-append, lines_text-one}

-- accounts without their markets
abbrev pub front_of : PlainAccounts → PlainAccounts
front_of accounts = record accounts { markets = [] }

rows-of : (accounts : PlainAccounts) → account_rows accounts ≡ account_rows (front_of accounts) ++ flat_map market_rows accounts.markets
unfolding account_rows
rows-of accounts = simp (append-nil, append_assoc)

end-text : lines_text (last_row ∷ []) ≡ codes "enddump\n"
unfolding behind_first
end-text = lines_text-one last_row

three-parts : (text : List ℕ) (a b c : List Fields) → ((text ++ lines_text a) ++ lines_text b) ++ lines_text c ≡ text ++ lines_text ((a ++ b) ++ c)
three-parts text a b c = rw (lines_text-append (a ++ b) c, lines_text-append a b) (simp append_assoc)

-- the text
pub whole-text : (accounts : PlainAccounts) (text : List ℕ)
    → ((text ++ lines_text (first_row ∷ account_rows (front_of accounts))) ++ lines_text (flat_map market_rows accounts.markets)) ++ codes "enddump\n"
    ≡ text ++ dump_text accounts
whole-text accounts text =
    let front = first_row ∷ account_rows (front_of accounts) in
    let markets = flat_map market_rows accounts.markets in
    ap (λ end. ((text ++ lines_text front) ++ lines_text markets) ++ end) (sym end-text) ∙ three-parts text front markets (last_row ∷ [])
    ∙ ap (λ rows. text ++ lines_text (first_row ∷ (rows ++ last_row ∷ []))) (sym (rows-of accounts))

-- what it holds
pub whole-held : (accounts : PlainAccounts) → HoldBytes (front_of accounts) → All IsHeldMarket accounts.markets → HoldBytes accounts
whole-held accounts front markets =
    record { mints = front.mints; srm = front.srm; msrm = front.msrm; wallets = front.wallets; markets = markets }

-- and it is read back
pub whole-read : (limits : Limits) (accounts : PlainAccounts) (start text : List ℕ) → start ≡ [] → text ≡ start ++ dump_text accounts → HoldBytes accounts → AreAccepted limits accounts
    → IsReadAs limits text accounts
whole-read limits accounts start text empty written held are =
    subst (λ (told : List ℕ). IsReadAs limits told accounts) (sym (written ∙ ap (λ (front : List ℕ). front ++ dump_text accounts) empty)) (text-read limits accounts are held)
