-- worked examples of data and what it decodes to, by computation
use Rattle.std.proofs.Common.{◌≡◌, ℕ, List, [], ◌∷◌, ◌++◌, None, Ok, Err, refl, replicate, take}
use Rattle.dex_types.specs.declared.instructions.BadData.TheVariants.{Short, Version, UnknownTag, RetiredTag, Length, ZeroField, BadEnum}
use Rattle.dex_types.specs.declared.instructions.Ix.{Ix}
use Rattle.dex_types.specs.declared.instructions.Ix.TheVariants.{NewOrderV3}
use Rattle.dex_types.specs.declared.terms.OrderType.TheVariants.{Limit}
use Rattle.dex_types.specs.declared.terms.SelfTrade.TheVariants.{Decrement}
use Rattle.dex_types.specs.declared.terms.Side.TheVariants.{Ask}
use Rattle.dex_instruction.specs.Numbers.{number, number_at}
use Rattle.dex_instruction.specs.Reading.{decoded, instruction}
use Rattle.dex_instruction.specs.Rules.{broken}
use Rattle.dex_instruction.specs.Spelling.{spelling}

-- an ask of some lots at 50, with client id 7 and a match limit of 10
abbrev ask : ℕ → Ix
ask lots = NewOrderV3 Ask 50 lots 1 Decrement Limit 7 10 None

-- its bytes: version and tag, side, price, lots, quote, self trade, order type, client id, match limit
abbrev ask_bytes : ℕ → List ℕ
ask_bytes lots =
    0 ∷ 10 ∷ 0 ∷ 0 ∷ 0 ∷ 1 ∷ 0 ∷ 0 ∷ 0 ∷ 50 ∷ 0 ∷ 0 ∷ 0 ∷ 0 ∷ 0 ∷ 0 ∷ 0 ∷ lots ∷ 0 ∷ 0 ∷ 0 ∷ 0 ∷ 0 ∷ 0 ∷ 0 ∷ 1 ∷ 0 ∷ 0 ∷ 0 ∷ 0 ∷ 0 ∷ 0 ∷ 0
    ∷ 0 ∷ 0 ∷ 0 ∷ 0 ∷ 0 ∷ 0 ∷ 0 ∷ 0 ∷ 7 ∷ 0 ∷ 0 ∷ 0 ∷ 0 ∷ 0 ∷ 0 ∷ 0 ∷ 10 ∷ 0 ∷ []

four_bytes : decoded (replicate 4 0) ≡ Err Short
unfolding decoded broken number_at
four_bytes = refl

version_one : decoded (1 ∷ replicate 4 0) ≡ Err Version
unfolding decoded broken number_at
version_one = refl

tag_nineteen : decoded (0 ∷ 19 ∷ replicate 3 0) ≡ Err UnknownTag
unfolding decoded broken number_at
tag_nineteen = refl

tag_seventeen : decoded (0 ∷ 17 ∷ replicate 3 0) ≡ Err RetiredTag
unfolding decoded broken number_at
tag_seventeen = refl

ask_is_decoded : decoded (ask_bytes 4) ≡ Ok (ask 4)
unfolding decoded broken instruction number_at
ask_is_decoded = refl

ask_is_spelled : spelling (ask 4) ≡ ask_bytes 4
unfolding spelling number
ask_is_spelled = refl

no_lots : decoded (ask_bytes 0) ≡ Err ZeroField
unfolding decoded broken number_at
no_lots = refl

body_of_45 : decoded (take 50 (ask_bytes 4)) ≡ Err Length
unfolding decoded broken number_at
body_of_45 = refl

body_of_47 : decoded (ask_bytes 4 ++ 0 ∷ []) ≡ Err Length
unfolding decoded broken number_at
body_of_47 = refl

body_of_55 : decoded (ask_bytes 4 ++ replicate 9 0) ≡ Err Length
unfolding decoded broken number_at
body_of_55 = refl

side_two : decoded (0 ∷ 11 ∷ replicate 3 0 ++ 2 ∷ replicate 19 0) ≡ Err BadEnum
unfolding decoded broken number_at
side_two = refl
