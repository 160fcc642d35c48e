-- Turns that heard bytes block by block.
use Rattle.std.proofs.Common.{◌≡◌, ◌∙◌, ◌+◌, ◌<◌, ◌≤◌, ℕ, List, [], ◌∷◌, ◌++◌, ap, arith, drop, drop-drop, length, refl, subst, sym, Some}
use Rattle.dex_desk.specs.Calls.{AreBlocksOf, DeskState, turns_told}
use Rattle.dex_desk.specs.Turns.{Turn}
use Rattle.dex_desk.specs.Turns.Turn.{Heard, Said}

-- a block more
pub block-more : (most : ℕ) (turns : List Turn) (bytes left block rest : List ℕ) → AreBlocksOf most turns bytes left → left ≡ block ++ rest
    → length block ≤ most → (block ≡ [] → rest ≡ []) → AreBlocksOf most (turns ++ Heard block ∷ []) bytes rest
block-more most [] bytes left block rest are is few end = (rest, are ∙ is, few, end, refl)
block-more most (Heard one ∷ turns) bytes left block rest are is few end =
    (are.0, are.1, are.2, are.3, block-more most turns are.0 left block rest are.4 is few end)
block-more most (Said text ∷ turns) bytes left block rest are is few end = block-more most turns bytes left block rest are is few end

nil-by-length : (bytes : List ℕ) → length bytes ≡ 0 → bytes ≡ []
nil-by-length [] none = refl
nil-by-length (byte ∷ bytes) none = absurd (omega (arith, none))

-- the front of what is left
pub front-more : (most limit at : ℕ) (turns new : List Turn) (input left block : List ℕ) → AreBlocksOf most turns input (drop at input) → left ≡ drop at input
    → left ≡ block ++ drop (length block) left → length block ≤ limit → limit ≤ most → (length block < limit → length block ≡ length left) → 0 < limit
    → new ≡ turns ++ Heard block ∷ [] → AreBlocksOf most new input (drop (at + length block) input)
front-more most limit at turns new input left block are is parts few fits all some more =
    let whole : drop at input ≡ block ++ drop (length block) left = sym is ∙ parts in
    let rest : drop (length block) left ≡ drop (at + length block) input =
    ap (drop (length block)) is ∙ drop-drop (length block) at input in
    let none : block ≡ [] → drop (length block) left ≡ [] = λ nothing.
    let short : length block ≡ 0 = ap length nothing in
    let end : left ≡ [] = nil-by-length left (omega (arith, short, all (omega (arith, short, some)))) in
    ap (drop (length block)) end ∙ ap (λ (n : ℕ). drop n []) short in
    subst (λ (l : List Turn). AreBlocksOf most l input (drop (at + length block) input)) (sym more)
    (subst (λ (l : List ℕ). AreBlocksOf most (turns ++ Heard block ∷ []) input l) rest
    (block-more most turns input (drop at input) block (drop (length block) left) are whole (omega (arith, few, fits)) none))

-- or something was said
pub said-more : (most : ℕ) (turns : List Turn) (bytes left text : List ℕ) → AreBlocksOf most turns bytes left → AreBlocksOf most (turns ++ Said text ∷ []) bytes left
said-more most [] bytes left text are = are
said-more most (Heard one ∷ turns) bytes left text are = (are.0, are.1, are.2, are.3, said-more most turns are.0 left text are.4)
said-more most (Said other ∷ turns) bytes left text are = said-more most turns bytes left text are

-- ---- a session of given bytes

-- no call changes what stands in front of the turns
pub told-behind : (old new : DeskState) (input : List ℕ) (most : ℕ) (turns : List Turn) → old ≡ record { input = input; most = most; turns = []; deaf = 0; mute = 0 }
    → Some (turns_told new) ≡ Some (turns_told old ++ turns) → (new.turns ≡ turns) × (new.most ≡ most) × (new.input ≡ input)
told-behind old new input most turns begun told =
    let all : Some (Heard (new.most ∷ new.input) ∷ new.turns) ≡ Some (Heard (most ∷ input) ∷ turns) =
    told ∙ ap (λ (s : DeskState). Some (turns_told s ++ turns)) begun in
    (cc, cc, cc)
