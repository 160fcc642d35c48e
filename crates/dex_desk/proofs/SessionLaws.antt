-- What the calls of a session tell, as talk.
use Rattle.std.proofs.Common.{◌≡◌, ◌∙◌, ◌+◌, ◌<◌, ◌≤◌, ℕ, true, false, List, [], ◌∷◌, ◌++◌, IfErr, IfOk, Option, Some, None, Result, Ok, Err, ap, append_assoc, drop, is_some, length, inl, inr, refl, subst, sym, take}
use Rattle.dex_types.specs.declared.limits.TheConstants.{STANDARD, WIDE}
use Rattle.dex_desk.specs.declared.ends.Over.{Over}
use Rattle.dex_desk.specs.declared.ends.Over.TheVariants as over
use Rattle.dex_desk.specs.declared.ends.Stop.{Stop}
use Rattle.dex_desk.specs.declared.ends.Stop.TheVariants as stop
use Rattle.dex_desk.specs.declared.opening.SetUp.{SetUp}
use Rattle.dex_desk.specs.declared.opening.SetUp.TheVariants as set_up
use Rattle.dex_desk.specs.declared.serving.Goes.{Goes}
use Rattle.dex_desk.specs.declared.serving.Goes.TheVariants as goes
use Rattle.dex_desk.specs.declared.speaking.Ear.TheVariants as ear
use Rattle.dex_desk.specs.Blocks.{PlainBlock}
use Rattle.std.proofs.lemmas.Bool.{false≢true}
use Rattle.dex_desk.specs.Serving.{EndedFor, session_of, IsWaiting, HasDone, HeardInVain, IsClean, OpensOrRefuses, Stopped, TellsClosed, TellsCutOff, TellsEar, TellsGoes, TellsOver, TellsSetUp, TellsWaiting}
use Rattle.dex_answers.specs.declared.status.Status.TheVariants as status
use Rattle.dex_desk.specs.Talks.{IsServed, first, HasNoEnd, IsCut, IsGoingOn, IsListening, Leaves, Session, StopsBy, Talk, Talked, WentOn, is_opening, last_line, talk}
use Rattle.dex_desk.specs.Talks.Session.{Closes, Ended, Serves, Sets}
use Rattle.dex_desk.specs.Turns.{Turn}
use Rattle.dex_desk.proofs.LineLaws.{line-with-end}
use Rattle.dex_desk.proofs.TalkLaws.{clean-stop, talked-heard, talked-on, talked-went, went-once, went-then}
use Rattle.dex_desk.specs.Replies.{ActedIn}
use Rattle.dex_desk.specs.Steps.{Went}
use Rattle.dex_rows.specs.Records.{rows_of}

abbrev Told : Type 0
Told = Option (List Turn)

-- a clean place that was come to
abbrev pub IsCleanFrom : Told → Told → Talk → Type 0
IsCleanFrom a b before = (at : Talk) × Talked a b before at × IsClean at

-- ---- what was heard

pub more-of-set-up : (a b : Told) (kept before inbox after : List ℕ) → TellsEar ear.More a b before after → before ≡ inbox → HasNoEnd inbox
    → length (kept ++ inbox) ≤ WIDE.bytes → Talked a b (talk (Sets kept inbox) []) (talk (Sets kept after) [])
more-of-set-up a b kept before inbox after told same whole few =
    let is : inbox ++ told.0 ∷ told.1 ≡ after = ap (λ (l : List ℕ). l ++ told.0 ∷ told.1) (sym same) ∙ sym told.3 in
    subst (λ (l : List ℕ). Talked a b (talk (Sets kept inbox) []) (talk (Sets kept l) [])) is
    (talked-heard a b (told.0 ∷ told.1) (Sets kept inbox) told.2 whole few)

pub more-of-rows : (a b : Told) (block : PlainBlock) (before inbox after : List ℕ) → TellsEar ear.More a b before after → before ≡ inbox
    → IsListening (Serves block inbox) → length inbox ≤ STANDARD.bytes → Talked a b (talk (Serves block inbox) []) (talk (Serves block after) [])
more-of-rows a b block before inbox after told same listens few =
    let is : inbox ++ told.0 ∷ told.1 ≡ after = ap (λ (l : List ℕ). l ++ told.0 ∷ told.1) (sym same) ∙ sym told.3 in
    subst (λ (l : List ℕ). Talked a b (talk (Serves block inbox) []) (talk (Serves block l) [])) is
    (talked-heard a b (told.0 ∷ told.1) (Serves block inbox) told.2 listens few)

pub vain-set-up : (a b : Told) (kept inbox : List ℕ) → HeardInVain a b → HasNoEnd inbox → length (kept ++ inbox) ≤ WIDE.bytes
    → IsCleanFrom a b (talk (Sets kept inbox) [])
vain-set-up a b kept inbox vain whole few = (
  talk (Sets kept (inbox ++ vain.0 ∷ vain.1)) [],
  talked-heard a b (vain.0 ∷ vain.1) (Sets kept inbox) vain.2 whole few,
  record { quiet = refl; going = tt },
)

pub vain-rows : (a b : Told) (block : PlainBlock) (inbox : List ℕ) → HeardInVain a b → IsListening (Serves block inbox)
    → length inbox ≤ STANDARD.bytes → IsCleanFrom a b (talk (Serves block inbox) [])
vain-rows a b block inbox vain listens few = (
  talk (Serves block (inbox ++ vain.0 ∷ vain.1)) [],
  talked-heard a b (vain.0 ∷ vain.1) (Serves block inbox) vain.2 listens few,
  record { quiet = refl; going = tt },
)

pub set-up-ended : (a b : Told) (kept before inbox after : List ℕ) → TellsEar ear.Ended a b before after → HasNoEnd inbox
    → length (kept ++ inbox) ≤ WIDE.bytes → Talked a b (talk (Sets kept inbox) []) (talk (Ended over.Input) [])
set-up-ended a b kept before inbox after told whole few = talked-heard a b [] (Sets kept inbox) told.0 whole few

pub rows-ended : (a b : Told) (block : PlainBlock) (before inbox after : List ℕ) → TellsEar ear.Ended a b before after
    → IsListening (Serves block inbox) → length inbox ≤ STANDARD.bytes → Talked a b (talk (Serves block inbox) []) (talk (Closes block inbox) [])
rows-ended a b block before inbox after told listens few = talked-heard a b [] (Serves block inbox) told.0 listens few

-- ---- a session that is over while it is set up

pub set-up-stops : (why : Over) (kept inbox : List ℕ) → StopsBy why (Sets kept inbox) []
    → WentOn (talk (Sets kept inbox) []) (talk (Ended why) (last_line why))
set-up-stops why kept inbox stops =
    went-once (talk (Sets kept inbox) []) (talk (Ended why) (last_line why))
    (inr (record { quiet = refl; why = why; said = []; stops = stops; is = refl }))

pub over-told : (result : Result (Option SetUp) Stop) (why : Over) (old new : List ℕ) (a b : Told) (before : Talk) (kept inbox : List ℕ)
    → TellsOver result why old new → old ≡ [] → Talked a b before (talk (Ended why) (last_line why))
    → IfOk result (λ found. TellsWaiting found a b before kept inbox new)
over-told (Ok None) why old new a b before kept inbox told quiet talked = absurd told
over-told (Ok (Some (set_up.Open block))) why old new a b before kept inbox told quiet talked = absurd told
over-told (Ok (Some (set_up.Over other))) why old new a b before kept inbox told quiet talked =
    let text : last_line why ≡ new = sym (told.1 ∙ ap (λ (l : List ℕ). l ++ last_line why) quiet) in
    subst (λ (w : Over). Talked a b before (talk (Ended w) new)) (sym told.0)
    (subst (λ (l : List ℕ). Talked a b before (talk (Ended why) l)) text talked)
over-told (Err e) why old new a b before kept inbox told quiet talked = tt

pub over-stops : (result : Result (Option SetUp) Stop) (why : Over) (old new : List ℕ) (a b : Told) (before : Talk) → TellsOver result why old new
    → IsCleanFrom a b before → IfErr result (λ e. Stopped e a b before)
over-stops (Ok found) why old new a b before told clean = tt
over-stops (Err stop.NoMemory) why old new a b before told clean = clean
over-stops (Err stop.WriteFault) why old new a b before told clean = absurd told

-- where a session stands that heard nothing
pub clean-here : (turns : Told) (session : Session) → IsGoingOn session → IsCleanFrom turns turns (talk session [])
clean-here turns session going = (
  talk session [],
  talked-went turns (talk session []) (talk session []) (record { through = []; does = refl }),
  record { quiet = refl; going = going },
)

pub clean-same : (a b : Told) (session : Session) → b ≡ a → IsGoingOn session → IsCleanFrom a b (talk session [])
clean-same a b session same going =
    subst (λ (t : Told). IsCleanFrom a t (talk session [])) (sym same) (clean-here a session going)

-- ---- a line of a set-up

pub done-kept : (kept text owed : List ℕ) (n : ℕ) (more rest : List ℕ) → n < length text → IsCut text (take n text) (drop (n + 1) text)
    → is_opening (take n text) ≡ false → more ≡ kept ++ take (n + 1) text → rest ≡ drop (n + 1) text
    → HasDone None (talk (Sets kept text) owed) more rest owed
done-kept kept text owed n more rest within cut other is left =
    let whole : more ≡ kept ++ take n text ++ 10 ∷ [] =
    is ∙ ap (λ (l : List ℕ). kept ++ l) (line-with-end text n within cut) ∙ sym (append_assoc kept (take n text) (10 ∷ [])) in
    inl (inl (record {
      line = take n text;
      rest = drop (n + 1) text;
      cut = cut;
      other = other;
      is = ap (λ (l : List ℕ). talk (Sets l rest) owed) whole ∙ ap (λ (l : List ℕ). talk (Sets (kept ++ take n text ++ 10 ∷ []) l) owed) left;
    }))

pub done-opening : (found : Option PlainBlock) (kept text owed said : List ℕ) (n : ℕ) (more rest : List ℕ) → IsCut text (take n text) (drop (n + 1) text)
    → is_opening (take n text) ≡ true → OpensOrRefuses found kept owed said → more ≡ [] → rest ≡ drop (n + 1) text
    → HasDone found (talk (Sets kept text) owed) more rest said
done-opening None kept text owed said n more rest cut opening told none left =
    inl (inr (inr (record {
      line = take n text;
      rest = drop (n + 1) text;
      cut = cut;
      opening = opening;
      status = told.0;
      told = told.1;
      none = told.2;
      is = ap (λ (l : List ℕ). talk (Sets l rest) said) none ∙ ap (λ (l : List ℕ). talk (Sets [] l) said) left
          ∙ ap (λ (l : List ℕ). talk (Sets [] (drop (n + 1) text)) l) told.3;
    })))
done-opening (Some block) kept text owed said n more rest cut opening told none left =
    inl (inr (inl (record {
      line = take n text;
      rest = drop (n + 1) text;
      cut = cut;
      opening = opening;
      block = block;
      opened = told.0;
      is = ap (λ (l : List ℕ). talk (Serves block l) said) left ∙ ap (λ (l : List ℕ). talk (Serves block (drop (n + 1) text)) l) told.1;
    })))

-- ---- the end of a session with a desk

pub closed-goes : (result : Result Goes Stop) (block : PlainBlock) (text old new inbox : List ℕ) (a b : Told) (before : Talk)
    → TellsClosed result block text old new → old ≡ [] → Talked a b before (talk (Closes block text) [])
    → IfOk result (λ goes. TellsGoes goes a b before inbox new)
closed-goes (Ok (goes.On other)) block text old new inbox a b before told quiet talked = absurd told
closed-goes (Ok (goes.Over over.Input)) block text old new inbox a b before told quiet talked =
    let here : Talked a b before (talk (Closes block text) old) = subst (λ (l : List ℕ). Talked a b before (talk (Closes block text) l)) (sym quiet) talked in
    talked-on a b b before (talk (Closes block text) old) (talk (Ended over.Input) new) here
    (talked-went b (talk (Closes block text) old) (talk (Ended over.Input) new) (went-once (talk (Closes block text) old) (talk (Ended over.Input) new) (inl told)))
closed-goes (Ok (goes.Over over.ReadFault)) block text old new inbox a b before told quiet talked = absurd told
closed-goes (Ok (goes.Over over.TooLong)) block text old new inbox a b before told quiet talked = absurd told
closed-goes (Ok (goes.Over over.NoMemory)) block text old new inbox a b before told quiet talked = absurd told
closed-goes (Err e) block text old new inbox a b before told quiet talked = tt

pub closed-stops : (result : Result Goes Stop) (block : PlainBlock) (text old new : List ℕ) (a b : Told) (before : Talk)
    → TellsClosed result block text old new → Talked a b before (talk (Closes block text) []) → IfErr result (λ e. Stopped e a b before)
closed-stops (Ok goes) block text old new a b before told talked = tt
closed-stops (Err stop.NoMemory) block text old new a b before told talked =
    (talk (Closes block text) [], talked, record { quiet = refl; going = tt })
closed-stops (Err stop.WriteFault) block text old new a b before told talked = absurd told

pub cut-goes : (result : Result Goes Stop) (why : Over) (block : PlainBlock) (text old new inbox : List ℕ) (a b : Told) (before : Talk)
    → TellsCutOff result why block old new → old ≡ [] → ((said : List ℕ) → Leaves (Serves block text) said → StopsBy why (Serves block text) said)
    → Talked a b before (talk (Serves block text) []) → IfOk result (λ goes. TellsGoes goes a b before inbox new)
cut-goes (Ok (goes.On other)) why block text old new inbox a b before told quiet stops talked = absurd told
cut-goes (Ok (goes.Over other)) why block text old new inbox a b before told quiet stops talked =
    let told_now = subst (λ (l : List ℕ). TellsCutOff (Ok (goes.Over other)) why block l new) quiet told in
    let leaves : Leaves (Serves block text) told_now.2 = (told_now.1, told_now.3) in
    let went : WentOn (talk (Serves block text) []) (talk (Ended other) new) =
    went-once (talk (Serves block text) []) (talk (Ended other) new)
    (inr (record {
      quiet = refl;
      why = why;
      said = told_now.2;
      stops = stops told_now.2 leaves;
      is = ap (λ (w : Over). talk (Ended w) new) told_now.0 ∙ ap (λ (l : List ℕ). talk (Ended why) l) told_now.4;
    })) in
    talked-on a b b before (talk (Serves block text) []) (talk (Ended other) new) talked
    (talked-went b (talk (Serves block text) []) (talk (Ended other) new) went)
cut-goes (Err e) why block text old new inbox a b before told quiet stops talked = tt

pub cut-stops : (result : Result Goes Stop) (why : Over) (block : PlainBlock) (old new : List ℕ) (a b : Told) (before : Talk)
    → TellsCutOff result why block old new → IsCleanFrom a b before → IfErr result (λ e. Stopped e a b before)
cut-stops (Ok goes) why block old new a b before told clean = tt
cut-stops (Err stop.NoMemory) why block old new a b before told clean = clean
cut-stops (Err stop.WriteFault) why block old new a b before told clean = absurd told

-- ---- one after the other

pub stops-on : (why : Stop) (a b c : Told) (x y : Talk) → Talked a b x y → Stopped why b c y → Stopped why a c x
stops-on why a b c x y talked stopped = (stopped.0, talked-on a b c x y stopped.0 talked stopped.1, stopped.2)

pub waiting-on : (found : Option SetUp) (a b c : Told) (x y : Talk) (kept inbox text : List ℕ) → Talked a b x y
    → TellsWaiting found b c y kept inbox text → TellsWaiting found a c x kept inbox text
waiting-on None a b c x y kept inbox text talked told = (talked-on a b c x y (talk (Sets kept inbox) []) talked told.0, told.1)
waiting-on (Some (set_up.Open block)) a b c x y kept inbox text talked told = (talked-on a b c x y (talk (Serves block inbox) []) talked told.0, told.1)
waiting-on (Some (set_up.Over why)) a b c x y kept inbox text talked told = talked-on a b c x y (talk (Ended why) text) talked told

pub goes-on : (goes : Goes) (a b c : Told) (x y : Talk) (inbox text : List ℕ) → Talked a b x y → TellsGoes goes b c y inbox text
    → TellsGoes goes a c x inbox text
goes-on (goes.On block) a b c x y inbox text talked told = (talked-on a b c x y (talk (Serves block inbox) []) talked told.0, told.1)
goes-on (goes.Over why) a b c x y inbox text talked told = talked-on a b c x y (talk (Ended why) text) talked told

-- ---- lines of rows

pub line-on : (begin : Talk) (block after : PlainBlock) (text owed said : List ℕ) (n : ℕ) (rest : List ℕ) → WentOn begin (talk (Serves block text) owed)
    → IsCut text (take n text) (drop (n + 1) text) → Went (rows_of (take n text)) block after owed said → rest ≡ drop (n + 1) text
    → WentOn begin (talk (Serves after rest) said)
line-on begin block after text owed said n rest so cut went left =
    went-then begin (talk (Serves block text) owed) (talk (Serves after rest) said) so
    (went-once (talk (Serves block text) owed) (talk (Serves after rest) said)
    (inl (inl (record {
      line = take n text;
      rest = drop (n + 1) text;
      cut = cut;
      left = after;
      said = said;
      went = went;
      is = ap (λ (l : List ℕ). talk (Serves after l) said) left;
    }))))

pub acted-on : {E : Type 0} (result : Result PlainBlock E) (begin : Talk) (block : PlainBlock) (text owed said : List ℕ) → WentOn begin (talk (Serves block text) owed)
    → IfOk result (λ left. ActedIn block left owed said) → IfOk result (λ left. WentOn begin (talk (Serves left text) said))
acted-on (Ok left) begin block text owed said so acted =
    went-then begin (talk (Serves block text) owed) (talk (Serves left text) said) so
    (went-once (talk (Serves block text) owed) (talk (Serves left text) said)
    (inl (inr (record { left = left; said = said; acted = acted; is = refl }))))
acted-on (Err e) begin block text owed said so acted = tt

-- lines of set-ups

pub set-up-line-on : (found : Option PlainBlock) (begin before : Talk) (kept inbox text : List ℕ) → WentOn begin before → HasDone found before kept inbox text
    → WentOn begin (talk (session_of found kept inbox) text)
set-up-line-on found begin before kept inbox text so done =
    went-then begin before (talk (session_of found kept inbox) text) so (went-once before (talk (session_of found kept inbox) text) done)

pub found-waiting : (found : Option PlainBlock) (inbox : List ℕ) → is_some found ≡ true → IsWaiting found inbox
found-waiting None inbox is = absurd (false≢true is)
found-waiting (Some block) inbox is = tt

pub none-found : (found : Option PlainBlock) (begin : Talk) (kept inbox text : List ℕ) → is_some found ≡ false
    → WentOn begin (talk (session_of found kept inbox) text) → WentOn begin (talk (Sets kept inbox) text)
none-found None begin kept inbox text is went = went
none-found (Some block) begin kept inbox text is went = absurd (false≢true (sym is))

-- ---- the same of what calls answer

pub waiting-then : (result : Result (Option SetUp) Stop) (a b c : Told) (x y : Talk) (kept inbox text : List ℕ) → Talked a b x y
    → IfOk result (λ found. TellsWaiting found b c y kept inbox text) → IfOk result (λ found. TellsWaiting found a c x kept inbox text)
waiting-then (Ok found) a b c x y kept inbox text talked told = waiting-on found a b c x y kept inbox text talked told
waiting-then (Err e) a b c x y kept inbox text talked told = tt

pub goes-then : (result : Result Goes Stop) (a b c : Told) (x y : Talk) (inbox text : List ℕ) → Talked a b x y
    → IfOk result (λ goes. TellsGoes goes b c y inbox text) → IfOk result (λ goes. TellsGoes goes a c x inbox text)
goes-then (Ok goes) a b c x y inbox text talked told = goes-on goes a b c x y inbox text talked told
goes-then (Err e) a b c x y inbox text talked told = tt

pub stops-then : {A : Type 0} (result : Result A Stop) (a b c : Told) (x y : Talk) → Talked a b x y → IfErr result (λ why. Stopped why b c y)
    → IfErr result (λ why. Stopped why a c x)
stops-then (Ok value) a b c x y talked stopped = tt
stops-then (Err why) a b c x y talked stopped = stops-on why a b c x y talked stopped

pub talks-then : (result : Result Over Stop) (a b c : Told) (x y : Talk) → Talked a b x y → IfOk result (λ why. Talked b c y (talk (Ended why) []))
    → IfOk result (λ why. Talked a c x (talk (Ended why) []))
talks-then (Ok why) a b c x y talked told = talked-on a b c x y (talk (Ended why) []) talked told
talks-then (Err e) a b c x y talked told = tt

-- the rest is said
abbrev pub SaysRest : Over → Told → Told → List ℕ → Over → Type 0
SaysRest why b c text over = (over ≡ why) × Talked b c (talk (Ended why) text) (talk (Ended why) [])

pub rest-then : (result : Result Over Stop) (why : Over) (a b c : Told) (x : Talk) (text : List ℕ) → Talked a b x (talk (Ended why) text)
    → IfOk result (SaysRest why b c text) → IfOk result (λ over. Talked a c x (talk (Ended over) []))
rest-then (Ok over) why a b c x text talked said =
    subst (λ (w : Over). Talked a c x (talk (Ended w) [])) (sym said.0) (talked-on a b c x (talk (Ended why) text) (talk (Ended why) []) talked said.1)
rest-then (Err e) why a b c x text talked said = tt

pub rest-for : (result : Result Over Stop) (why : Over) (b c : Told) (text : List ℕ) (deaf mid new : ℕ) → EndedFor why deaf mid → new ≡ mid
    → IfOk result (SaysRest why b c text) → IfOk result (λ over. EndedFor over deaf new)
rest-for (Ok over) why b c text deaf mid new for same said =
    subst (λ (n : ℕ). EndedFor over deaf n) (sym same) (subst (λ (w : Over). EndedFor w deaf mid) (sym said.0) for)
rest-for (Err e) why b c text deaf mid new for same said = tt

-- what was owed is said
pub said-on : (a b : Told) (x : Talk) (session : Session) (text : List ℕ) → WentOn x (talk session text) → Talked a b (talk session text) (talk session [])
    → Talked a b x (talk session [])
said-on a b x session text went said = talked-on a a b x (talk session text) (talk session []) (talked-went a x (talk session text) went) said

pub found-on : (found : SetUp) (a b c : Told) (x y : Talk) (inbox text : List ℕ) → Talked a b x y → TellsSetUp found b c y inbox text
    → TellsSetUp found a c x inbox text
found-on (set_up.Open block) a b c x y inbox text talked told = (talked-on a b c x y (talk (Serves block inbox) []) talked told.0, told.1)
found-on (set_up.Over why) a b c x y inbox text talked told = talked-on a b c x y (talk (Ended why) text) talked told

-- ---- the end

-- for want of memory
pub served-without : (a b c : Told) → Stopped stop.NoMemory a b first → Talked b c (talk (Ended over.NoMemory) (last_line over.NoMemory)) (talk (Ended over.NoMemory) [])
    → IsServed status.NoMemory a c
served-without a b c stopped said =
    let mid = talk (Ended over.NoMemory) (last_line over.NoMemory) in
    let here = talked-on a b b first stopped.0 mid stopped.1 (talked-went b stopped.0 mid (clean-stop stopped.0 stopped.2)) in (
      talk (Ended over.NoMemory) [],
      talked-on a b c first mid (talk (Ended over.NoMemory) []) here said,
      (over.NoMemory, refl, refl),
    )

pub served-cut : (a b c : Told) (rest : List ℕ) → Stopped stop.NoMemory a b first → Talked b c (talk (Ended over.NoMemory) (last_line over.NoMemory)) (talk (Ended over.NoMemory) rest)
    → IsServed status.WriteFault a c
served-cut a b c rest stopped said =
    let mid = talk (Ended over.NoMemory) (last_line over.NoMemory) in
    let here = talked-on a b b first stopped.0 mid stopped.1 (talked-went b stopped.0 mid (clean-stop stopped.0 stopped.2)) in
    (talk (Ended over.NoMemory) rest, talked-on a b c first mid (talk (Ended over.NoMemory) rest) here said, tt)
