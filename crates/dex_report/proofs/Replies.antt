-- What a reply's words tell.
use Rattle.std.proofs.Common.{◌≡◌, ◌∙◌, ℕ, ◌<◌, ◌^◌, ◌++◌, ◌∷◌, [], List, true, if◌then◌else◌, codes, refl, sym, ap, length, append_assoc, append-nil, arith, slice_index_or}
use Rattle.std.specs.Fmt.{decimal, signed_decimal}
use Rattle.std.specs.Str.{bytes_eq}
use Rattle.std.specs.List.{flat_map, list_all}
use Rattle.std.proofs.lemmas.Fmt.{decimal_digit}
use Rattle.dex_types.specs.declared.instructions.BadData.{BadData}
use Rattle.dex_types.specs.declared.instructions.BadData.TheVariants.{Short, Version, UnknownTag, RetiredTag, Length, ZeroField, BadEnum}
use Rattle.dex_types.specs.declared.refusals.Refusal.{Refusal}
use Rattle.dex_types.specs.declared.refusals.Refusal.TheVariants as refusal
use Rattle.dex_types.specs.declared.replies.Reply.{Reply}
use Rattle.dex_types.specs.declared.replies.Reply.TheVariants.{Ordered, Took, Cancelled, Consumed, Settled, Swept, Done, Refused}
use Rattle.dex_types.specs.Text.{address_text, bad_data_number, refusal_text, reply_text, spaced}
use Rattle.dex_report.specs.Telling.{FitRefusal, FitReply}
use Rattle.dex_report.proofs.Words.{is_word}
use Rattle.dex_report.proofs.Values.{address_in, address_in-text, is_word-address, is_word-decimal, is_word-signed, number_in, number_in-decimal, signed_in, signed_in-decimal}

-- the words of a refusal
abbrev pub refusal_words : Refusal → List (List ℕ)
refusal_words (refusal.BadData a) = codes "refused" ∷ codes "1" ∷ codes "BadData" ∷ decimal (bad_data_number a) ∷ []
refusal_words refusal.MarketDisabled = codes "refused" ∷ codes "2" ∷ codes "MarketDisabled" ∷ []
refusal_words refusal.NoAccount = codes "refused" ∷ codes "3" ∷ codes "NoAccount" ∷ []
refusal_words refusal.AccountExists = codes "refused" ∷ codes "4" ∷ codes "AccountExists" ∷ []
refusal_words (refusal.NotOwner a) = codes "refused" ∷ codes "5" ∷ codes "NotOwner" ∷ address_text a ∷ []
refusal_words (refusal.NotAuthority a) = codes "refused" ∷ codes "6" ∷ codes "NotAuthority" ∷ address_text a ∷ []
refusal_words (refusal.WrongMint a) = codes "refused" ∷ codes "7" ∷ codes "WrongMint" ∷ address_text a ∷ []
refusal_words (refusal.WalletNotSigned a) = codes "refused" ∷ codes "8" ∷ codes "WalletNotSigned" ∷ address_text a ∷ []
refusal_words (refusal.NotEmpty a b) = codes "refused" ∷ codes "9" ∷ codes "NotEmpty" ∷ decimal a ∷ decimal b ∷ []
refusal_words refusal.TooManyOpenOrders = codes "refused" ∷ codes "10" ∷ codes "TooManyOpenOrders" ∷ []
refusal_words refusal.AskTooLarge = codes "refused" ∷ codes "11" ∷ codes "AskTooLarge" ∷ []
refusal_words refusal.SequenceExhausted = codes "refused" ∷ codes "12" ∷ codes "SequenceExhausted" ∷ []
refusal_words (refusal.TimePast a b) = codes "refused" ∷ codes "13" ∷ codes "TimePast" ∷ signed_decimal a ∷ signed_decimal b ∷ []
refusal_words refusal.OrderNotFound = codes "refused" ∷ codes "14" ∷ codes "OrderNotFound" ∷ []
refusal_words refusal.SideMismatch = codes "refused" ∷ codes "15" ∷ codes "SideMismatch" ∷ []
refusal_words (refusal.OrderNotYours a) = codes "refused" ∷ codes "16" ∷ codes "OrderNotYours" ∷ address_text a ∷ []
refusal_words refusal.ClientIdZero = codes "refused" ∷ codes "17" ∷ codes "ClientIdZero" ∷ []
refusal_words refusal.ClientIdNotFound = codes "refused" ∷ codes "18" ∷ codes "ClientIdNotFound" ∷ []
refusal_words (refusal.WouldSelfTrade a) = codes "refused" ∷ codes "19" ∷ codes "WouldSelfTrade" ∷ decimal a ∷ []
refusal_words (refusal.BelowMinimum a) = codes "refused" ∷ codes "20" ∷ codes "BelowMinimum" ∷ decimal a ∷ []
refusal_words (refusal.EventQueueFull a b) = codes "refused" ∷ codes "21" ∷ codes "EventQueueFull" ∷ decimal a ∷ decimal b ∷ []
refusal_words (refusal.InsufficientFunds a b) = codes "refused" ∷ codes "22" ∷ codes "InsufficientFunds" ∷ decimal a ∷ decimal b ∷ []
refusal_words (refusal.BalanceTooLarge a b) = codes "refused" ∷ codes "23" ∷ codes "BalanceTooLarge" ∷ decimal a ∷ decimal b ∷ []
refusal_words (refusal.SumTooLarge a b) = codes "refused" ∷ codes "24" ∷ codes "SumTooLarge" ∷ decimal a ∷ decimal b ∷ []

-- the words of a reply
abbrev pub reply_words : Reply → List (List ℕ)
reply_words (Ordered b a c d e f) = codes "ok" ∷ codes "order" ∷ decimal a ∷ decimal b ∷ decimal c ∷ decimal d ∷ decimal e ∷ decimal f ∷ []
reply_words (Took a b c) = codes "ok" ∷ codes "take" ∷ decimal a ∷ decimal b ∷ decimal c ∷ []
reply_words (Cancelled a) = codes "ok" ∷ codes "cancelled" ∷ decimal a ∷ []
reply_words (Consumed a) = codes "ok" ∷ codes "consumed" ∷ decimal a ∷ []
reply_words (Settled a b c) = codes "ok" ∷ codes "settled" ∷ decimal a ∷ decimal b ∷ decimal c ∷ []
reply_words (Swept a) = codes "ok" ∷ codes "swept" ∷ decimal a ∷ []
reply_words Done = codes "ok" ∷ codes "done" ∷ []
reply_words (Refused why) = refusal_words why

-- a refusal's text is its words
refusal-spaced : (why : Refusal) → spaced (refusal_text why) ≡ flat_map spaced (refusal_words why)
refusal-spaced (refusal.BadData a) = simp (append_assoc, append-nil, spaced)
refusal-spaced refusal.MarketDisabled = refl
refusal-spaced refusal.NoAccount = refl
refusal-spaced refusal.AccountExists = refl
refusal-spaced (refusal.NotOwner a) = simp (append_assoc, append-nil, spaced)
refusal-spaced (refusal.NotAuthority a) = simp (append_assoc, append-nil, spaced)
refusal-spaced (refusal.WrongMint a) = simp (append_assoc, append-nil, spaced)
refusal-spaced (refusal.WalletNotSigned a) = simp (append_assoc, append-nil, spaced)
refusal-spaced (refusal.NotEmpty a b) = simp (append_assoc, append-nil, spaced)
refusal-spaced refusal.TooManyOpenOrders = refl
refusal-spaced refusal.AskTooLarge = refl
refusal-spaced refusal.SequenceExhausted = refl
refusal-spaced (refusal.TimePast a b) = simp (append_assoc, append-nil, spaced)
refusal-spaced refusal.OrderNotFound = refl
refusal-spaced refusal.SideMismatch = refl
refusal-spaced (refusal.OrderNotYours a) = simp (append_assoc, append-nil, spaced)
refusal-spaced refusal.ClientIdZero = refl
refusal-spaced refusal.ClientIdNotFound = refl
refusal-spaced (refusal.WouldSelfTrade a) = simp (append_assoc, append-nil, spaced)
refusal-spaced (refusal.BelowMinimum a) = simp (append_assoc, append-nil, spaced)
refusal-spaced (refusal.EventQueueFull a b) = simp (append_assoc, append-nil, spaced)
refusal-spaced (refusal.InsufficientFunds a b) = simp (append_assoc, append-nil, spaced)
refusal-spaced (refusal.BalanceTooLarge a b) = simp (append_assoc, append-nil, spaced)
refusal-spaced (refusal.SumTooLarge a b) = simp (append_assoc, append-nil, spaced)

-- one word more
more : (p w : List ℕ) (ws : List (List ℕ)) → (p ++ spaced w) ++ flat_map spaced ws ≡ p ++ flat_map spaced (w ∷ ws)
more p w ws = append_assoc p (spaced w) (flat_map spaced ws)

-- six words after a text
pub six-words : (p a b c d e f : List ℕ) → p ++ spaced a ++ spaced b ++ spaced c ++ spaced d ++ spaced e ++ spaced f
    ≡ p ++ flat_map spaced (a ∷ b ∷ c ∷ d ∷ e ∷ f ∷ [])
six-words p a b c d e f =
    let p1 = p ++ spaced a in let p2 = p1 ++ spaced b in let p3 = p2 ++ spaced c in let p4 = p3 ++ spaced d in let p5 = p4 ++ spaced e in
    sym (append-nil (p5 ++ spaced f)) ∙ more p5 f [] ∙ more p4 e (f ∷ []) ∙ more p3 d (e ∷ f ∷ []) ∙ more p2 c (d ∷ e ∷ f ∷ [])
    ∙ more p1 b (c ∷ d ∷ e ∷ f ∷ []) ∙ more p a (b ∷ c ∷ d ∷ e ∷ f ∷ [])

-- a reply's text is its words
pub reply-spaced : (reply : Reply) → spaced (reply_text reply) ≡ flat_map spaced (reply_words reply)
reply-spaced (Ordered b a c d e f) = ap (λ (t : List ℕ). 32 ∷ t) (six-words (codes "ok order") (decimal a) (decimal b) (decimal c) (decimal d) (decimal e) (decimal f))
reply-spaced (Took a b c) = simp (append_assoc, append-nil, spaced)
reply-spaced (Cancelled a) = simp (append_assoc, append-nil, spaced)
reply-spaced (Consumed a) = simp (append_assoc, append-nil, spaced)
reply-spaced (Settled a b c) = simp (append_assoc, append-nil, spaced)
reply-spaced (Swept a) = simp (append_assoc, append-nil, spaced)
reply-spaced Done = refl
reply-spaced (Refused why) = refusal-spaced why

bad-digit : (rule : BadData) → bad_data_number rule < 10
bad-digit Short = omega arith
bad-digit Version = omega arith
bad-digit UnknownTag = omega arith
bad-digit RetiredTag = omega arith
bad-digit Length = omega arith
bad-digit ZeroField = omega arith
bad-digit BadEnum = omega arith

digit-small : (n : ℕ) → n < 10 → n < 2 ^ 128
digit-small n h = omega arith

is_word-bad : (rule : BadData) → is_word (decimal (bad_data_number rule)) ≡ true
is_word-bad rule = is_word-decimal (bad_data_number rule) (digit-small _ (bad-digit rule))

refusal-are_words : (why : Refusal) → FitRefusal why → list_all is_word (refusal_words why) ≡ true
refusal-are_words (refusal.BadData a) h = rw (is_word-bad a) refl
refusal-are_words refusal.MarketDisabled h = refl
refusal-are_words refusal.NoAccount h = refl
refusal-are_words refusal.AccountExists h = refl
refusal-are_words (refusal.NotOwner a) h = rw (is_word-address a h) refl
refusal-are_words (refusal.NotAuthority a) h = rw (is_word-address a h) refl
refusal-are_words (refusal.WrongMint a) h = rw (is_word-address a h) refl
refusal-are_words (refusal.WalletNotSigned a) h = rw (is_word-address a h) refl
refusal-are_words (refusal.NotEmpty a b) h = rw (is_word-decimal a h.0, is_word-decimal b h.1) refl
refusal-are_words refusal.TooManyOpenOrders h = refl
refusal-are_words refusal.AskTooLarge h = refl
refusal-are_words refusal.SequenceExhausted h = refl
refusal-are_words (refusal.TimePast a b) h = rw (is_word-signed a h.0, is_word-signed b h.1) refl
refusal-are_words refusal.OrderNotFound h = refl
refusal-are_words refusal.SideMismatch h = refl
refusal-are_words (refusal.OrderNotYours a) h = rw (is_word-address a h) refl
refusal-are_words refusal.ClientIdZero h = refl
refusal-are_words refusal.ClientIdNotFound h = refl
refusal-are_words (refusal.WouldSelfTrade a) h = rw (is_word-decimal a h) refl
refusal-are_words (refusal.BelowMinimum a) h = rw (is_word-decimal a h) refl
refusal-are_words (refusal.EventQueueFull a b) h = rw (is_word-decimal a h.0, is_word-decimal b h.1) refl
refusal-are_words (refusal.InsufficientFunds a b) h = rw (is_word-decimal a h.0, is_word-decimal b h.1) refl
refusal-are_words (refusal.BalanceTooLarge a b) h = rw (is_word-decimal a h.0, is_word-decimal b h.1) refl
refusal-are_words (refusal.SumTooLarge a b) h = rw (is_word-decimal a h.0, is_word-decimal b h.1) refl

-- they are words
pub reply-are_words : (reply : Reply) → FitReply reply → list_all is_word (reply_words reply) ≡ true
reply-are_words (Ordered b a c d e f) h = rw (is_word-decimal a h.1, is_word-decimal b h.0, is_word-decimal c h.2, is_word-decimal d h.3, is_word-decimal e h.4, is_word-decimal f h.5) refl
reply-are_words (Took a b c) h = rw (is_word-decimal a h.0, is_word-decimal b h.1, is_word-decimal c h.2) refl
reply-are_words (Cancelled a) h = rw (is_word-decimal a h) refl
reply-are_words (Consumed a) h = rw (is_word-decimal a h) refl
reply-are_words (Settled a b c) h = rw (is_word-decimal a h.0, is_word-decimal b h.1, is_word-decimal c h.2) refl
reply-are_words (Swept a) h = rw (is_word-decimal a h) refl
reply-are_words Done h = refl
reply-are_words (Refused why) h = refusal-are_words why h

-- the rule of a number
bad_data_in : List ℕ → BadData
bad_data_in word =
    if bytes_eq word (codes "1") then Short else (if bytes_eq word (codes "2") then Version else (if bytes_eq word (codes "3") then UnknownTag
    else (if bytes_eq word (codes "4") then RetiredTag else (if bytes_eq word (codes "5") then Length else (if bytes_eq word (codes "6") then ZeroField else BadEnum)))))

bad_data_in-decimal : (rule : BadData) → bad_data_in (decimal (bad_data_number rule)) ≡ rule
unfolding bad_data_in
bad_data_in-decimal Short = rw (decimal_digit 1 (omega arith)) refl
bad_data_in-decimal Version = rw (decimal_digit 2 (omega arith)) refl
bad_data_in-decimal UnknownTag = rw (decimal_digit 3 (omega arith)) refl
bad_data_in-decimal RetiredTag = rw (decimal_digit 4 (omega arith)) refl
bad_data_in-decimal Length = rw (decimal_digit 5 (omega arith)) refl
bad_data_in-decimal ZeroField = rw (decimal_digit 6 (omega arith)) refl
bad_data_in-decimal BadEnum = rw (decimal_digit 7 (omega arith)) refl

-- the word at a place
abbrev at : List (List ℕ) → ℕ → List ℕ
at words place = slice_index_or words place []

-- the reply that words tell
pub reply_in : List (List ℕ) → Reply
reply_in words =
    if bytes_eq (at words 1) (codes "order") then Ordered (number_in (at words 3)) (number_in (at words 2)) (number_in (at words 4)) (number_in (at words 5)) (number_in (at words 6)) (number_in (at words 7))
    else (if bytes_eq (at words 1) (codes "take") then Took (number_in (at words 2)) (number_in (at words 3)) (number_in (at words 4))
    else (if bytes_eq (at words 1) (codes "cancelled") then Cancelled (number_in (at words 2))
    else (if bytes_eq (at words 1) (codes "consumed") then Consumed (number_in (at words 2))
    else (if bytes_eq (at words 1) (codes "settled") then Settled (number_in (at words 2)) (number_in (at words 3)) (number_in (at words 4))
    else (if bytes_eq (at words 1) (codes "swept") then Swept (number_in (at words 2))
    else (if bytes_eq (at words 1) (codes "1") then Refused (refusal.BadData (bad_data_in (at words 3)))
    else (if bytes_eq (at words 1) (codes "2") then Refused (refusal.MarketDisabled)
    else (if bytes_eq (at words 1) (codes "3") then Refused (refusal.NoAccount)
    else (if bytes_eq (at words 1) (codes "4") then Refused (refusal.AccountExists)
    else (if bytes_eq (at words 1) (codes "5") then Refused (refusal.NotOwner (address_in (at words 3)))
    else (if bytes_eq (at words 1) (codes "6") then Refused (refusal.NotAuthority (address_in (at words 3)))
    else (if bytes_eq (at words 1) (codes "7") then Refused (refusal.WrongMint (address_in (at words 3)))
    else (if bytes_eq (at words 1) (codes "8") then Refused (refusal.WalletNotSigned (address_in (at words 3)))
    else (if bytes_eq (at words 1) (codes "9") then Refused (refusal.NotEmpty (number_in (at words 3)) (number_in (at words 4)))
    else (if bytes_eq (at words 1) (codes "10") then Refused (refusal.TooManyOpenOrders)
    else (if bytes_eq (at words 1) (codes "11") then Refused (refusal.AskTooLarge)
    else (if bytes_eq (at words 1) (codes "12") then Refused (refusal.SequenceExhausted)
    else (if bytes_eq (at words 1) (codes "13") then Refused (refusal.TimePast (signed_in (at words 3)) (signed_in (at words 4)))
    else (if bytes_eq (at words 1) (codes "14") then Refused (refusal.OrderNotFound)
    else (if bytes_eq (at words 1) (codes "15") then Refused (refusal.SideMismatch)
    else (if bytes_eq (at words 1) (codes "16") then Refused (refusal.OrderNotYours (address_in (at words 3)))
    else (if bytes_eq (at words 1) (codes "17") then Refused (refusal.ClientIdZero)
    else (if bytes_eq (at words 1) (codes "18") then Refused (refusal.ClientIdNotFound)
    else (if bytes_eq (at words 1) (codes "19") then Refused (refusal.WouldSelfTrade (number_in (at words 3)))
    else (if bytes_eq (at words 1) (codes "20") then Refused (refusal.BelowMinimum (number_in (at words 3)))
    else (if bytes_eq (at words 1) (codes "21") then Refused (refusal.EventQueueFull (number_in (at words 3)) (number_in (at words 4)))
    else (if bytes_eq (at words 1) (codes "22") then Refused (refusal.InsufficientFunds (number_in (at words 3)) (number_in (at words 4)))
    else (if bytes_eq (at words 1) (codes "23") then Refused (refusal.BalanceTooLarge (number_in (at words 3)) (number_in (at words 4)))
    else (if bytes_eq (at words 1) (codes "24") then Refused (refusal.SumTooLarge (number_in (at words 3)) (number_in (at words 4)))
    else Done)))))))))))))))))))))))))))))

refusal-told : (why : Refusal) → FitRefusal why → reply_in (refusal_words why) ≡ Refused why
unfolding reply_in
refusal-told (refusal.BadData a) h = rw (bad_data_in-decimal a) refl
refusal-told refusal.MarketDisabled h = refl
refusal-told refusal.NoAccount h = refl
refusal-told refusal.AccountExists h = refl
refusal-told (refusal.NotOwner a) h = rw (address_in-text a h) refl
refusal-told (refusal.NotAuthority a) h = rw (address_in-text a h) refl
refusal-told (refusal.WrongMint a) h = rw (address_in-text a h) refl
refusal-told (refusal.WalletNotSigned a) h = rw (address_in-text a h) refl
refusal-told (refusal.NotEmpty a b) h = rw (number_in-decimal a h.0, number_in-decimal b h.1) refl
refusal-told refusal.TooManyOpenOrders h = refl
refusal-told refusal.AskTooLarge h = refl
refusal-told refusal.SequenceExhausted h = refl
refusal-told (refusal.TimePast a b) h = rw (signed_in-decimal a h.0, signed_in-decimal b h.1) refl
refusal-told refusal.OrderNotFound h = refl
refusal-told refusal.SideMismatch h = refl
refusal-told (refusal.OrderNotYours a) h = rw (address_in-text a h) refl
refusal-told refusal.ClientIdZero h = refl
refusal-told refusal.ClientIdNotFound h = refl
refusal-told (refusal.WouldSelfTrade a) h = rw (number_in-decimal a h) refl
refusal-told (refusal.BelowMinimum a) h = rw (number_in-decimal a h) refl
refusal-told (refusal.EventQueueFull a b) h = rw (number_in-decimal a h.0, number_in-decimal b h.1) refl
refusal-told (refusal.InsufficientFunds a b) h = rw (number_in-decimal a h.0, number_in-decimal b h.1) refl
refusal-told (refusal.BalanceTooLarge a b) h = rw (number_in-decimal a h.0, number_in-decimal b h.1) refl
refusal-told (refusal.SumTooLarge a b) h = rw (number_in-decimal a h.0, number_in-decimal b h.1) refl

-- the words tell the reply
pub reply-told : (reply : Reply) → FitReply reply → reply_in (reply_words reply) ≡ reply
unfolding reply_in
reply-told (Ordered b a c d e f) h = rw (number_in-decimal a h.1, number_in-decimal b h.0, number_in-decimal c h.2, number_in-decimal d h.3, number_in-decimal e h.4, number_in-decimal f h.5) refl
reply-told (Took a b c) h = rw (number_in-decimal a h.0, number_in-decimal b h.1, number_in-decimal c h.2) refl
reply-told (Cancelled a) h = rw (number_in-decimal a h) refl
reply-told (Consumed a) h = rw (number_in-decimal a h) refl
reply-told (Settled a b c) h = rw (number_in-decimal a h.0, number_in-decimal b h.1, number_in-decimal c h.2) refl
reply-told (Swept a) h = rw (number_in-decimal a h) refl
reply-told Done h = refl
reply-told (Refused why) h = refusal-told why h

-- how many words a reply with this second word has
pub count_by : List ℕ → ℕ
count_by second =
    if bytes_eq second (codes "order") then 8
    else (if bytes_eq second (codes "take") then 5
    else (if bytes_eq second (codes "cancelled") then 3
    else (if bytes_eq second (codes "consumed") then 3
    else (if bytes_eq second (codes "settled") then 5
    else (if bytes_eq second (codes "swept") then 3
    else (if bytes_eq second (codes "1") then 4
    else (if bytes_eq second (codes "2") then 3
    else (if bytes_eq second (codes "3") then 3
    else (if bytes_eq second (codes "4") then 3
    else (if bytes_eq second (codes "5") then 4
    else (if bytes_eq second (codes "6") then 4
    else (if bytes_eq second (codes "7") then 4
    else (if bytes_eq second (codes "8") then 4
    else (if bytes_eq second (codes "9") then 5
    else (if bytes_eq second (codes "10") then 3
    else (if bytes_eq second (codes "11") then 3
    else (if bytes_eq second (codes "12") then 3
    else (if bytes_eq second (codes "13") then 5
    else (if bytes_eq second (codes "14") then 3
    else (if bytes_eq second (codes "15") then 3
    else (if bytes_eq second (codes "16") then 4
    else (if bytes_eq second (codes "17") then 3
    else (if bytes_eq second (codes "18") then 3
    else (if bytes_eq second (codes "19") then 4
    else (if bytes_eq second (codes "20") then 4
    else (if bytes_eq second (codes "21") then 5
    else (if bytes_eq second (codes "22") then 5
    else (if bytes_eq second (codes "23") then 5
    else (if bytes_eq second (codes "24") then 5
    else 2)))))))))))))))))))))))))))))

refusal-count : (why : Refusal) → length (refusal_words why) ≡ count_by (at (refusal_words why) 1)
unfolding count_by
refusal-count (refusal.BadData a) = refl
refusal-count refusal.MarketDisabled = refl
refusal-count refusal.NoAccount = refl
refusal-count refusal.AccountExists = refl
refusal-count (refusal.NotOwner a) = refl
refusal-count (refusal.NotAuthority a) = refl
refusal-count (refusal.WrongMint a) = refl
refusal-count (refusal.WalletNotSigned a) = refl
refusal-count (refusal.NotEmpty a b) = refl
refusal-count refusal.TooManyOpenOrders = refl
refusal-count refusal.AskTooLarge = refl
refusal-count refusal.SequenceExhausted = refl
refusal-count (refusal.TimePast a b) = refl
refusal-count refusal.OrderNotFound = refl
refusal-count refusal.SideMismatch = refl
refusal-count (refusal.OrderNotYours a) = refl
refusal-count refusal.ClientIdZero = refl
refusal-count refusal.ClientIdNotFound = refl
refusal-count (refusal.WouldSelfTrade a) = refl
refusal-count (refusal.BelowMinimum a) = refl
refusal-count (refusal.EventQueueFull a b) = refl
refusal-count (refusal.InsufficientFunds a b) = refl
refusal-count (refusal.BalanceTooLarge a b) = refl
refusal-count (refusal.SumTooLarge a b) = refl

-- the second word tells how many there are
pub reply-count : (reply : Reply) → length (reply_words reply) ≡ count_by (at (reply_words reply) 1)
unfolding count_by
reply-count (Ordered a b c d e f) = refl
reply-count (Took a b c) = refl
reply-count (Cancelled a) = refl
reply-count (Consumed a) = refl
reply-count (Settled a b c) = refl
reply-count (Swept a) = refl
reply-count Done = refl
reply-count (Refused why) = refusal-count why

refusal-second : (why : Refusal) (rest : List (List ℕ)) → at (refusal_words why ++ rest) 1 ≡ at (refusal_words why) 1
refusal-second (refusal.BadData a) rest = refl
refusal-second refusal.MarketDisabled rest = refl
refusal-second refusal.NoAccount rest = refl
refusal-second refusal.AccountExists rest = refl
refusal-second (refusal.NotOwner a) rest = refl
refusal-second (refusal.NotAuthority a) rest = refl
refusal-second (refusal.WrongMint a) rest = refl
refusal-second (refusal.WalletNotSigned a) rest = refl
refusal-second (refusal.NotEmpty a b) rest = refl
refusal-second refusal.TooManyOpenOrders rest = refl
refusal-second refusal.AskTooLarge rest = refl
refusal-second refusal.SequenceExhausted rest = refl
refusal-second (refusal.TimePast a b) rest = refl
refusal-second refusal.OrderNotFound rest = refl
refusal-second refusal.SideMismatch rest = refl
refusal-second (refusal.OrderNotYours a) rest = refl
refusal-second refusal.ClientIdZero rest = refl
refusal-second refusal.ClientIdNotFound rest = refl
refusal-second (refusal.WouldSelfTrade a) rest = refl
refusal-second (refusal.BelowMinimum a) rest = refl
refusal-second (refusal.EventQueueFull a b) rest = refl
refusal-second (refusal.InsufficientFunds a b) rest = refl
refusal-second (refusal.BalanceTooLarge a b) rest = refl
refusal-second (refusal.SumTooLarge a b) rest = refl

-- what follows the words is not the second of them
pub reply-second : (reply : Reply) (rest : List (List ℕ)) → at (reply_words reply ++ rest) 1 ≡ at (reply_words reply) 1
reply-second (Ordered a b c d e f) rest = refl
reply-second (Took a b c) rest = refl
reply-second (Cancelled a) rest = refl
reply-second (Consumed a) rest = refl
reply-second (Settled a b c) rest = refl
reply-second (Swept a) rest = refl
reply-second Done rest = refl
reply-second (Refused why) rest = refusal-second why rest

-- two lists in front of others, of one length
pub front-ends : (s t x y : List (List ℕ)) → length s ≡ length t → s ++ x ≡ t ++ y → (s ≡ t) × (x ≡ y)
front-ends [] [] x y same e = (refl, e)
front-ends [] (b ∷ t) x y same e = absurd (omega arith)
front-ends (a ∷ s) [] x y same e = absurd (omega arith)
front-ends (a ∷ s) (b ∷ t) x y same e =
    let first : a ≡ b = cc e in
    let others : s ++ x ≡ t ++ y = cc e in
    let fewer : length s ≡ length t = omega arith in
    let r = front-ends s t x y fewer others in
    let front : s ≡ t = r.0 in
    let whole : a ∷ s ≡ b ∷ t = cc (first, front) in
    (whole, r.1)

-- replies and what follows them are told by their words
pub reply-ends : (r s : Reply) (x y : List (List ℕ)) → FitReply r → FitReply s → reply_words r ++ x ≡ reply_words s ++ y → (r ≡ s) × (x ≡ y)
reply-ends r s x y fr fs e =
    let second : at (reply_words r) 1 ≡ at (reply_words s) 1 = sym (reply-second r x) ∙ ap (λ (w : List (List ℕ)). at w 1) e ∙ reply-second s y in
    let count : length (reply_words r) ≡ length (reply_words s) = reply-count r ∙ ap count_by second ∙ sym (reply-count s) in
    let parts = front-ends (reply_words r) (reply_words s) x y count e in
    (sym (reply-told r fr) ∙ ap reply_in parts.0 ∙ reply-told s fs, parts.1)
