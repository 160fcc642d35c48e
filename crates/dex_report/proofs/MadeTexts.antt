-- The words of made rows, written from the last to the first.
use Rattle.std.proofs.Common.{◌≡◌, ℕ, ◌++◌, List, append_assoc, refl}

-- those of a new order
pub order-words : (new side price lots pc cancel kind client ten rest : List ℕ)
    → new ++ side ++ (price ++ (lots ++ (pc ++ (cancel ++ kind ++ (client ++ (ten ++ rest)))))) ≡ new ++ side ++ price ++ lots ++ pc ++ cancel ++ kind ++ client ++ ten ++ rest
order-words new side price lots pc cancel kind client ten rest = simp append_assoc refl

-- those of a drawn row
pub drawn-words : (front account c k q none asked end : List ℕ) → front ++ (account ++ c ++ k ++ q ++ k ++ none ++ (asked ++ end)) ≡ front ++ account ++ c ++ k ++ q ++ k ++ none ++ asked ++ end
drawn-words front account c k q none asked end = simp append_assoc refl

-- those of a row with accounts and one word after them
pub account-words : (front accounts behind end : List ℕ) → front ++ (accounts ++ (behind ++ end)) ≡ front ++ accounts ++ behind ++ end
account-words front accounts behind end = simp append_assoc refl
