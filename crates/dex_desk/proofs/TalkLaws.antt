-- Talks, put together.
use Rattle.std.proofs.Common.{◌≡◌, ◌∙◌, ◌+◌, ◌≤◌, ℕ, List, [], ◌∷◌, ◌++◌, Option, Some, None, ap, append_assoc, drop, drop-drop, inr, length, refl, subst, sym, take, arith}
use Rattle.std.proofs.lemmas.List.{append-nil, take-append-drop}
use Rattle.dex_desk.specs.declared.ends.Over.TheVariants as over
use Rattle.dex_desk.specs.Serving.{AreLater, IsClean}
use Rattle.dex_desk.specs.Talks.{Does, DoesAll, IsListening, IsTurn, Session, Talk, Talked, Talks, WentOn, heard, heard_so_far, last_line, most_of, talk}
use Rattle.dex_desk.specs.Talks.Session.{Ended}
use Rattle.dex_desk.specs.Turns.{Turn, and_then}
use Rattle.dex_desk.specs.Turns.Turn.{Heard, Said}

-- ---- what the desk does by itself

does-on : (before : Talk) (through : List Talk) (mid : Talk) (more : List Talk) (after : Talk) → DoesAll before through mid → DoesAll mid more after
    → DoesAll before (through ++ more) after
does-on before [] mid more after is rest = subst (λ (t : Talk). DoesAll t more after) is rest
does-on before (next ∷ others) mid more after are rest = (are.0, does-on next others mid more after are.1 rest)

pub went-still : (at : Talk) → WentOn at at
went-still at = record { through = []; does = refl }

pub went-once : (before after : Talk) → Does before after → WentOn before after
went-once before after does = record { through = after ∷ []; does = (does, refl) }

pub went-then : (before mid after : Talk) → WentOn before mid → WentOn mid after → WentOn before after
went-then before mid after one two = record {
  through = one.through ++ two.through;
  does = does-on before one.through mid two.through after one.does two.does;
}

-- ---- talks

talks-behind : (before mid : Talk) (turns : List Turn) (after : Talk) → WentOn before mid → Talks mid turns after → Talks before turns after
talks-behind before mid [] after went talks = went-then before mid after went talks
talks-behind before mid (turn ∷ turns) after went talks = (talks.0, talks.1, went-then before mid talks.0 went talks.2, talks.3, talks.4)

pub talks-on : (before mid after : Talk) (turns more : List Turn) → Talks before turns mid → Talks mid more after → Talks before (turns ++ more) after
talks-on before mid after [] more went talks = talks-behind before mid more after went talks
talks-on before mid after (turn ∷ turns) more talks rest =
    (talks.0, talks.1, talks.2, talks.3, talks-on talks.1 mid after turns more talks.4 rest)

-- a front of turns that talk talks
pub talks-front : (before after : Talk) (turns more : List Turn) → Talks before (turns ++ more) after
    → (mid : Talk) × Talks before turns mid × Talks mid more after
talks-front before after [] more talks = (before, went-still before, talks)
talks-front before after (turn ∷ turns) more talks =
    let rest = talks-front talks.1 after turns more talks.4 in (rest.0, (talks.0, talks.1, talks.2, talks.3, rest.1), rest.2)

-- ---- what is told

pub talked-on : (a b c : Option (List Turn)) (x y z : Talk) → Talked a b x y → Talked b c y z → Talked a c x z
talked-on None b c x y z one two = tt
talked-on (Some old) b c x y z one two =
    let more = subst (λ (o : Option (List Turn)). Talked o c y z) one.1 two in (
      one.0 ++ more.0,
      more.1 ∙ ap (λ (l : List Turn). Some l) (append_assoc old one.0 more.0),
      talks-on x y z one.0 more.0 one.2 more.2,
    )

pub talked-went : (turns : Option (List Turn)) (x y : Talk) → WentOn x y → Talked turns turns x y
talked-went None x y went = tt
talked-went (Some old) x y went = ([], ap (λ (l : List Turn). Some l) (sym (append-nil old)), went)

pub talked-same : (old new : Option (List Turn)) (x y : Talk) → new ≡ old → WentOn x y → Talked old new x y
talked-same old new x y is went = subst (λ (o : Option (List Turn)). Talked old o x y) (sym is) (talked-went old x y went)

pub talked-turn : (old new : Option (List Turn)) (turn : Turn) (x y : Talk) → new ≡ and_then old turn → IsTurn turn x y → Talked old new x y
talked-turn None new turn x y is told = tt
talked-turn (Some old) new turn x y is told = (turn ∷ [], is, (x, y, went-still x, told, went-still y))

-- what was heard
pub talked-heard : (old new : Option (List Turn)) (bytes : List ℕ) (session : Session) → new ≡ and_then old (Heard bytes) → IsListening session
    → length (heard_so_far session) ≤ most_of session → Talked old new (talk session []) (talk (heard bytes session) [])
talked-heard old new bytes session is listens few =
    talked-turn old new (Heard bytes) (talk session []) (talk (heard bytes session) []) is (refl, listens, refl, few)

-- what was said
pub talked-said : (old new : Option (List Turn)) (bytes rest : List ℕ) (session : Session) → new ≡ and_then old (Said bytes)
    → Talked old new (talk session (bytes ++ rest)) (talk session rest)
talked-said old new bytes rest session is =
    talked-turn old new (Said bytes) (talk session (bytes ++ rest)) (talk session rest) is (refl, refl)

-- one piece more of a text
pub talked-piece : (a b d : Option (List Turn)) (session : Session) (text : List ℕ) (sent count : ℕ) → Talked a b (talk session text) (talk session (drop sent text))
    → d ≡ and_then b (Said (take count (drop sent text))) → Talked a d (talk session text) (talk session (drop (sent + count) text))
talked-piece a b d session text sent count so is =
    let here = talked-said b d (take count (drop sent text)) (drop count (drop sent text)) session is in
    let whole : take count (drop sent text) ++ drop count (drop sent text) ≡ drop sent text = take-append-drop count (drop sent text) in
    let rest : drop count (drop sent text) ≡ drop (sent + count) text = drop-drop count sent text in
    talked-on a b d (talk session text) (talk session (drop sent text)) (talk session (drop (sent + count) text)) so
    (subst (λ (l : List ℕ). Talked b d (talk session l) (talk session (drop (sent + count) text))) whole
    (subst (λ (l : List ℕ). Talked b d (talk session (take count (drop sent text) ++ drop count (drop sent text))) (talk session l)) rest here))

-- ---- the end

-- for want of memory
pub clean-stop : (at : Talk) → IsClean at → WentOn at (talk (Ended over.NoMemory) (last_line over.NoMemory))
clean-stop at clean =
    went-once at (talk (Ended over.NoMemory) (last_line over.NoMemory))
    (inr (record { quiet = clean.quiet; why = over.NoMemory; said = []; stops = (clean.going, refl); is = refl }))

-- ---- counts of faults

pub later-on : (a b c d e f : ℕ) → AreLater a b c d → AreLater c d e f → AreLater a b e f
later-on a b c d e f one two = record { hearing = omega (arith, one.hearing, two.hearing); saying = omega (arith, one.saying, two.saying) }
