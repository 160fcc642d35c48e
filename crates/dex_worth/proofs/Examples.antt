-- A worked table of worth, by computation: the two traders.
use Rattle.std.proofs.Common.{ℕ, ◌≡◌, ◌+◌, ◌/◌, ◌%◌, ◌≤◌, ◌<◌, ◌^◌, pos, negsuc, List, [], ◌∷◌, ◌++◌, refl, ap, ◌∙◌, arith, codes}
use Rattle.std.specs.Fmt.{decimal}
use Rattle.std.proofs.lemmas.Fmt.{decimal_digit, decimal_step}
use Rattle.dex_types.specs.Text.{address_text}
use Rattle.dex_sound.proofs.ExampleMarket.{label, amy, ben}
use Rattle.dex_replay.specs.WorthTold.{PlainWorthRow}
use Rattle.dex_replay.specs.WorthText.{worth_text}

-- a number's text, one digit longer
longer : (n : ℕ) (text : List ℕ) → 10 ≤ n → n < 2 ^ 64 → decimal (n / 10) ≡ text → decimal n ≡ text ++ (48 + n % 10) ∷ []
longer n text least fits front = decimal_step n least fits ∙ ap (λ (some : List ℕ). some ++ (48 + n % 10) ∷ []) front

three_hundred : decimal 300 ≡ codes "300"
three_hundred =
    longer 300 (codes "30") (omega arith) (omega arith) (longer 30 (codes "3") (omega arith) (omega arith) (decimal_digit 3 (omega arith)))

one_hundred_fifty : decimal 150 ≡ codes "150"
one_hundred_fifty =
    longer 150 (codes "15") (omega arith) (omega arith) (longer 15 (codes "1") (omega arith) (omega arith) (decimal_digit 1 (omega arith)))

sold : decimal 1500 ≡ codes "1500"
sold = longer 1500 (codes "150") (omega arith) (omega arith) one_hundred_fifty

paid : decimal 1504 ≡ codes "1504"
paid = longer 1504 (codes "150") (omega arith) (omega arith) one_hundred_fifty

-- amy sold 300 base for 1500 quote, and ben paid 1504 for them, the fee with it
abbrev amys : PlainWorthRow
amys = record { market = label (codes "m"); account = amy; worth = record { coin = negsuc 299; pc = pos 1500 } }

abbrev bens : PlainWorthRow
bens = record { market = label (codes "m"); account = ben; worth = record { coin = pos 300; pc = negsuc 1503 } }

two_traders : worth_text 1 (amys ∷ bens ∷ []) ≡ codes "worth 1\ntrader m amy -300 1500\ntrader m ben 300 -1504\nend\n"
unfolding address_text
two_traders = rw (decimal_digit 1 (omega arith), three_hundred, sold, paid) refl
