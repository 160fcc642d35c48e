-- A seat before and after the two legs of a swap.
use Rattle.std.proofs.Common.{◌≡◌, ℕ, ◌<◌, ◌||◌, Bool, true, false, cond, List, [], ◌∷◌, ◌++◌, length, map, set, get_or, refl, sym, ap, ◌∙◌, subst, ⊎_elim}
use Rattle.dex_world.proofs.Common.{Address, All-cons, All-nil, Asked, Call, PlainAccount, PlainMarketAccounts, PlainRow, Reply, ShareNothing, WalletEntry, asked_of, cases_Bool, false_from_ne_true, false≢true, is_same, is_same-refl, is_same-sym, is_same-true, list_any, names}
use Rattle.dex_turns.proofs.Common.{AllThree, AreNext, AreReady, BankState, HasCalled, HaveGrown, HaveSubmitted, IsBank, IsSeat, IsSeatOf, MovesEach, PlainScript, SeatState, Stamped, Where, calls_on, entries_in, entries_on, number_in, rows_of_wallet}
use Rattle.std.proofs.lemmas.List.{append-nil, set-get_or}
use Rattle.dex_script_types.specs.Facts.{AreLegs}
use Rattle.dex_journals.proofs.LaneGrowth.{IsItemMore}
use Rattle.dex_turns.specs.Submitted.{AreLegReplies, HasMade, LegMarketGrows, LegWalletGrows, MarketGrows, written_by_two}
use Rattle.dex_turns.specs.Turns.{HaveLegsTold, IsTold, leg_wallets}
use Rattle.dex_turns.specs.Seats.{MarketPass, WalletPass}
use Rattle.dex_turns.proofs.Growing.{either-grew, set-three, where-off, where-on}
use Rattle.dex_world.proofs.MappedLists.{three-weaker}
use Rattle.dex_script_types.proofs.Apart.{AreDistinct}
use Rattle.dex_turns.proofs.LegNames.{named-is}
use Rattle.dex_turns.proofs.RowMore.{item-more}
use Rattle.dex_turns.proofs.SeatAfter.{IsAfter, MarketGrew, MarketLegal, WalletGrew, WalletLegal, entries-free, first-ahead, is-after, lane-is, markets-grow, ready-of, seat_with, second-ahead}
use Rattle.dex_turns.proofs.Counts.{none-in}

-- ---- before: its passes for their wallets may draw

module _ {bank : BankState} {first second : PlainRow} {before : SeatState} (next : AreNext first second before) (bank_kept : IsBank bank) (of : IsSeatOf bank before)
    (kept : IsSeat before) where
  -- the lane has made fewer entries than it has rows, on each wallet that one of them names
  legs-free : (address : Address) → list_any (is_same address) (leg_wallets first second) ≡ true
      → length (entries_on address before.calls) < length (rows_of_wallet first.lane address bank.script.rows)
  legs-free address among =
      ⊎_elim
      (λ (named : names first address ≡ true). entries-free of bank_kept (first-ahead next) kept address named)
      (λ (away : names first address ≡ false).
      subst (λ (lane : ℕ). length (entries_on address before.calls) < length (rows_of_wallet lane address bank.script.rows)) (sym next.legs.lane)
      (entries-free of bank_kept (second-ahead next) kept address
      (sym (ap (λ (b : Bool). b || names second address) away) ∙ sym (named-is first second next.legs address) ∙ among)))
      (cases_Bool (names first address))

  pub legs-ready : AreReady bank first.lane (leg_wallets first second) before.wallets
  legs-ready =
      ready-of bank before of kept first.lane (leg_wallets first second) (lane-is of bank_kept (first-ahead next)) legs-free

-- ---- what grows

module _ (first second : PlainRow) (legs : AreLegs first second) (one two : Stamped Call) (asked : (one.item.asked ≡ asked_of first) × (two.item.asked ≡ asked_of second)) where
  abbrev share : ShareNothing first second
  share = legs.apart

  not-both : (address : Address) → is_same first.market address ≡ true → is_same second.market address ≡ false
  not-both address on =
      false_from_ne_true (is_same second.market address) (λ both.
      false≢true (sym share.markets ∙ ap (is_same first.market) (is_same-true second.market address both) ∙ on))

  not-both-named : (address : Address) → names first address ≡ true → names second address ≡ false
  not-both-named address on = false_from_ne_true (names second address) (λ both. false≢true (sym (share.wallets address both) ∙ on))

  -- the passes of both markets have grown
  pub legs-grow : (starts : List PlainMarketAccounts) (passes : List MarketPass) (place next : ℕ) (left left_next : MarketPass)
      → AreDistinct (map (λ (accounts : PlainMarketAccounts). accounts.address) starts) → place < length starts → next < length starts → length passes ≡ length starts
      → ((d : PlainMarketAccounts) → (get_or starts place d).address ≡ first.market) → ((d : PlainMarketAccounts) → (get_or starts next d).address ≡ second.market)
      → ((d : PlainMarketAccounts) (e : MarketPass) → HasCalled one (get_or starts place d) (get_or passes place e) left)
      → ((d : PlainMarketAccounts) (e : MarketPass) → HasCalled two (get_or starts next d) (get_or passes next e) left_next)
      → AllThree (LegMarketGrows first second one two) starts passes (set (set passes place left) next left_next)
  legs-grow starts passes place next left left_next distinct within within_next long here here_next called called_next =
      set-three (λ (accounts : PlainMarketAccounts). accounts.address) (MarketGrows first one) (LegMarketGrows first second one two) second.market
      (λ x apart p q grows.
      let off : is_same second.market x.address ≡ false = is_same-sym second.market x.address ∙ apart in
      record {
        first = λ on. where-on (is_same first.market x.address) (HasCalled one x p q) (q ≡ p) on grows;
        second = λ on. absurd (false≢true (sym off ∙ on));
        neither = λ none also. where-off (is_same first.market x.address) (HasCalled one x p q) (q ≡ p) none grows;
      })
      starts passes (set passes place left) next (get_or passes next left_next) left_next distinct within_next here_next
      (subst (λ (l : List MarketPass). AllThree (MarketGrows first one) starts l (set passes place left))
      (sym (set-get_or passes next left_next)) (markets-grow first one asked.0 starts passes place left distinct within long here called))
      (λ d e.
      let on_second : is_same second.market (get_or starts next d).address ≡ true = ap (is_same second.market) (here_next d) ∙ is_same-refl second.market in
      record {
        first = λ on. absurd (false≢true (sym (not-both (get_or starts next d).address on) ∙ on_second));
        second = λ on. called_next d e;
        neither = λ none also. absurd (false≢true (sym also ∙ on_second));
      })

  abbrev Both : PlainAccount → WalletPass → WalletPass → Type 0
  Both start p q = HasMade (entries_in start.address one ++ entries_in start.address two) (WalletLegal start) p q

  -- and so have those of all wallets that they name
  pub wallets-grow : (bank : BankState) (before after : List WalletPass) → MovesEach one.item → MovesEach two.item
      → HaveGrown bank (leg_wallets first second) (written_by_two one two) before after → AllThree (LegWalletGrows first second one two) bank.script.start.wallets before after
  wallets-grow bank before after one_moves two_moves grown =
      three-weaker
      (λ (start : PlainAccount) (p q : WalletPass). Where (list_any (is_same start.address) (leg_wallets first second)) (Both start p q) (q ≡ p))
      (LegWalletGrows first second one two)
      (λ start p q grows.
      let any : list_any (is_same start.address) (leg_wallets first second) ≡ (names first start.address || names second start.address) = named-is first second legs start.address in
      let is : Where (names first start.address || names second start.address) (Both start p q) (q ≡ p) =
      subst (λ (b : Bool). Where b (Both start p q) (q ≡ p)) any grows in
      record {
        first = λ on.
            subst (λ (made : List (Stamped WalletEntry)). HasMade made (WalletLegal start) p q)
            (ap (λ (l : List (Stamped WalletEntry)). entries_in start.address one ++ l) (none-in second two asked.1 two_moves start.address (not-both-named start.address on))
            ∙ append-nil (entries_in start.address one))
            (where-on (names first start.address || names second start.address) (Both start p q) (q ≡ p) (ap (λ (b : Bool). b || names second start.address) on) is);
        second = λ on.
            let off : names first start.address ≡ false = share.wallets start.address on in
            subst (λ (made : List (Stamped WalletEntry)). HasMade made (WalletLegal start) p q)
            (ap (λ (l : List (Stamped WalletEntry)). l ++ entries_in start.address two) (none-in first one asked.0 one_moves start.address off))
            (where-on (names first start.address || names second start.address) (Both start p q) (q ≡ p)
            (ap (λ (b : Bool). b || names second start.address) off ∙ on) is);
        neither = λ off none.
            where-off (names first start.address || names second start.address) (Both start p q) (q ≡ p) (ap (λ (b : Bool). b || names second start.address) off ∙ none) is;
      })
      bank.script.start.wallets before after grown

  -- ---- what a pass made

  calls-two : (address : Address) (b c : Bool) → is_same first.market address ≡ b → is_same second.market address ≡ c
      → calls_on address (one ∷ two ∷ []) ≡ cond b (one ∷ cond c (two ∷ []) []) (cond c (two ∷ []) [])
  calls-two address b c first_is second_is =
      ap (λ (x : Bool). cond x (one ∷ cond (is_same two.item.asked.market address) (two ∷ []) []) (cond (is_same two.item.asked.market address) (two ∷ []) []))
      (ap (λ (a : Asked). is_same a.market address) asked.0 ∙ first_is)
      ∙ ap (λ (x : Bool). cond b (one ∷ cond x (two ∷ []) []) (cond x (two ∷ []) [])) (ap (λ (a : Asked). is_same a.market address) asked.1 ∙ second_is)

  pub market-grew : (start : PlainMarketAccounts) (p q : MarketPass) → LegMarketGrows first second one two start p q → MarketGrew (one ∷ two ∷ []) start p q
  market-grew start p q =
      either-grew (MarketLegal start) p q (is_same first.market start.address) (is_same second.market start.address) (one ∷ []) (two ∷ []) (calls_on start.address (one ∷ two ∷ []))
      (λ on. calls-two start.address true false on (not-both start.address on)) (λ off on. calls-two start.address false true off on) (λ off none. calls-two start.address false false off none)

  pub wallet-grew : MovesEach one.item → MovesEach two.item → (start : PlainAccount) (p q : WalletPass) → LegWalletGrows first second one two start p q
      → WalletGrew (one ∷ two ∷ []) start p q
  wallet-grew one_moves two_moves start p q =
      let a : Address = start.address in
      let without-one : names first a ≡ false → entries_on a (one ∷ two ∷ []) ≡ entries_in a two = λ off.
      ap (λ (l : List (Stamped WalletEntry)). l ++ (entries_in a two ++ [])) (none-in first one asked.0 one_moves a off) ∙ append-nil (entries_in a two) in
      either-grew (WalletLegal start) p q (names first a) (names second a) (entries_in a one) (entries_in a two) (entries_on a (one ∷ two ∷ []))
      (λ on.
      ap (λ (l : List (Stamped WalletEntry)). entries_in a one ++ (l ++ [])) (none-in second two asked.1 two_moves a (not-both-named a on)) ∙ append-nil (entries_in a one))
      (λ off on. without-one off) (λ off none. without-one off ∙ none-in second two asked.1 two_moves a none)

-- ---- the seat behind them

module _ {bank : BankState} {first second : PlainRow} {before : SeatState} {one two : Stamped Call} (next : AreNext first second before) (of : IsSeatOf bank before) (kept : IsSeat before)
    (told : HaveLegsTold bank.script before.last one two) (asked : (one.item.asked ≡ asked_of first) × (two.item.asked ≡ asked_of second))
    (markets : List MarketPass) (markets_grown : AllThree (LegMarketGrows first second one two) bank.script.start.markets before.markets markets) (wallets : List WalletPass)
    (wallets_grown : HaveGrown bank (leg_wallets first second) (written_by_two one two) before.wallets wallets) where
  told_here : HaveLegsTold before.script before.last one two
  told_here = subst (λ (s : PlainScript). HaveLegsTold s before.last one two) (sym of.script) told

  markets_here : AllThree (LegMarketGrows first second one two) before.script.start.markets before.markets markets
  markets_here = subst (λ (s : PlainScript). AllThree (LegMarketGrows first second one two) s.start.markets before.markets markets) (sym of.script) markets_grown

  wallets_here : AllThree (LegWalletGrows first second one two) before.script.start.wallets before.wallets wallets
  wallets_here =
      subst (λ (s : PlainScript). AllThree (LegWalletGrows first second one two) s.start.wallets before.wallets wallets) (sym of.script)
      (wallets-grow first second next.legs one two asked bank before.wallets wallets told.told.0.moves told.told.1.moves wallets_grown)

  item : IsItemMore before.script before.lane before.calls (first ∷ second ∷ []) one (two ∷ [])
  item =
      let Numbered : Stamped Call → Type 0 = λ c. number_in c ≡ first.number in
      let Told : Stamped Call → Type 0 = IsTold before.script in
      item-more before.script before.lane before.last first.number before.calls kept.calls kept.below next.lower (first ∷ second ∷ []) next.later one (two ∷ []) next.are
      (ap (λ (a : Asked). a ∷ two.item.asked ∷ []) asked.0 ∙ ap (λ (a : Asked). asked_of first ∷ a ∷ []) asked.1)
      (All-cons Numbered one (two ∷ []) (ap (λ (a : Asked). a.number) asked.0)
      (All-cons Numbered two [] (ap (λ (a : Asked). a.number) asked.1 ∙ next.together) (All-nil Numbered)))
      (All-cons (λ (c : Stamped Call). c.stamp ≡ one.stamp) two [] told.together (All-nil (λ (c : Stamped Call). c.stamp ≡ one.stamp)))
      (All-cons Told one (two ∷ []) told_here.told.0 (All-cons Told two [] told_here.told.1 (All-nil Told))) told.later told.all_or_none

  pub legs-after : {view : SeatState} {calls : List (Stamped Call)} {reply next_reply : Reply} → before ≡ view → calls ≡ before.calls ++ one ∷ two ∷ []
      → reply ≡ one.item.entry.reply → next_reply ≡ two.item.entry.reply
      → IsAfter bank (HaveSubmitted first second (reply, next_reply)) view (seat_with before calls one.stamp markets wallets)
  legs-after {view} {calls} {reply} {next_reply} same are tells next_tells =
      is-after bank before of kept (first ∷ second ∷ []) one (two ∷ []) item markets wallets
      (three-weaker (LegMarketGrows first second one two) (MarketGrew (one ∷ two ∷ [])) (market-grew first second next.legs one two asked) before.script.start.markets before.markets markets markets_here)
      (three-weaker (LegWalletGrows first second one two) (WalletGrew (one ∷ two ∷ []))
      (wallet-grew first second next.legs one two asked told.told.0.moves told.told.1.moves) before.script.start.wallets before.wallets wallets wallets_here)
      (HaveSubmitted first second (reply, next_reply))
      (record {
        one = one;
        two = two;
        asked = asked;
        answered = (sym tells, sym next_tells);
        replies_are = subst (AreLegReplies reply) (sym next_tells) (subst (λ (r : Reply). AreLegReplies r two.item.entry.reply) (sym tells) told.replies);
        together = told.together;
        all_or_none = told.all_or_none;
        sees = (told_here.told.0.sees, told_here.told.1.sees);
        moves = (told.told.0.moves, told.told.1.moves);
        lane = refl;
        script = refl;
        calls = refl;
        markets = markets_here;
        wallets = wallets_here;
      })
      view calls same are
