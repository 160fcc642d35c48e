-- Each step keeps the gate's rule.
use Rattle.std.proofs.Common.{◌≡◌, ◌≢◌, ℕ, eqb, ◌+◌, ◌-◌, ◌%◌, ◌<◌, ◌≤◌, List, [], ◌∷◌, ◌++◌, length, get_or, set, All, sum_by, sym, refl, ap, ◌∙◌, subst, ⊎_elim, arith, le_refl, mod-eq_of_lt, length-append, append-nil, drop_of_length-le, Option, Some, None}
use mathlib.Core.Logic.{dite}
use mathlib.Core.Option.{some, some-injective}
use native.Mathlib.Decide.{ℕ_discrete}
use lib.ListN.{get_elem?}
use lib.Seq.{set-get_or}
use Rattle.std.proofs.lemmas.List.Sums.{sum_by-cons, sum_by-append}
use Rattle.std.proofs.lemmas.List.Elements.{All-append, All-head, All-nil, filter-append}
use Rattle.atomic_table.specs.Table.{State, Me, step, keeps, takes, gives, Allows, Splits, Joins, opening}
use Rattle.atomic_table.proofs.Lists.{at_set, set_here, set_else, set_again, at_snoc, at_longer}
use Rattle.dex_gate.specs.declared.board.Card.{Card}
use Rattle.dex_gate.specs.declared.board.View.{View}
use Rattle.dex_gate.specs.declared.stage.Stage.{Stage}
use Rattle.dex_gate.specs.declared.stage.Stage.TheVariants.{Idle, Waiting, Out}
use Rattle.dex_gate.specs.History.{added, Extends, of_lane, AddsOne}
use Rattle.dex_gate.specs.Rule.{same, within, has_ticket, has_that, IsOut, IsServed, claim, claims, room, tickets, times, NoneOut, IsTrueCard, IsTrueView, IsTrueValue, Kept, IsEnd, first_view}
use Rattle.dex_gate.specs.Steps.{lone, handing, handed, new_card, joined, spent, after_turn, Draws, Shows, Looks, PassesOn}
use Rattle.dex_gate.proofs.Sums.{sum_by-set_at, at-le-sum_by, two-le-sum_by, sum_by-le-at}
use Rattle.dex_gate.proofs.Lists.{at_there, at_only, All-one}
use Rattle.dex_gate.proofs.Histories.{extends_self, added-append, extends-append, of_lane-here, of_lane-else, one_entry}

-- a view has no more cards than room
cards-le-room : {E O : Type 0} (cs : List (Card E O)) → length cs ≤ sum_by (λ c. 1 + (c.until - c.next)) cs
cards-le-room [] = omega arith
cards-le-room (c ∷ cs) = omega (arith, sum_by-cons (λ c. 1 + (c.until - c.next)) c cs, cards-le-room cs)

module _ {V E O : Type 0} (entries : V → List E) (lane : E → ℕ) (origin : V → O) (opened : V) (passes : ℕ) where
  abbrev St : Type 0
  St = State (Option V) (View E O)

  abbrev M : Type 0
  M = Me (Option V) (View E O)

  abbrev Rule : St → Type 0
  Rule = Kept entries lane origin opened passes

  abbrev IsTrue : List E → View E O → Type 0
  IsTrue = IsTrueView lane (origin opened) (entries opened)

  abbrev IsGood : List E → Card E O → Type 0
  IsGood = IsTrueCard lane (origin opened) (entries opened)

  -- a step by which one view changes, with its cards' numbers as before, and no entry is added
  moves : (s : St) (r : Rule s) (words' : List ℕ) (homes' : List (mathlib.Core.Option.Option (Option V))) (id : ℕ) (v w : View E O) → get_elem? s.views id ≡ some v
      → words' ≡ (length r.history + sum_by tickets (set s.views id w)) ∷ length r.history ∷ []
      → ((t : ℕ) → sum_by (times t) (set s.views id w) ≡ within (length r.history) (length r.history + sum_by tickets (set s.views id w)) t)
      → w.cards ≡ v.cards → IsTrue r.history w
      → (NoneOut (set s.views id w) → (x : V) × (get_elem? homes' 0 ≡ some (some (Some x))) × IsTrueValue entries origin opened r.history x)
      → Rule record { words = words'; homes = homes'; views = set s.views id w }
  moves s r words' homes' id v w at words each_ticket cards here home = record {
    history = r.history;
    few = r.few;
    bounded = r.bounded;
    begins = r.begins;
    lanes = r.lanes;
    words = words;
    each_ticket = each_ticket;
    each_number = λ k. let e : claims k w ≡ claims k v = ap (sum_by (claim k)) cards in omega (arith, sum_by-set_at (claims k) s.views id v w at, r.each_number k);
    all_room = let e : room w ≡ room v = ap (sum_by (λ (c : Card E O). 1 + (c.until - c.next))) cards in omega (arith, sum_by-set_at room s.views id v w at, r.all_room);
    each_view = λ j u is. ⊎_elim (λ (t : (j ≡ id) × (w ≡ u)). subst (IsTrue r.history) t.1 here) (λ (t : (j ≢ id) × (get_elem? s.views j ≡ some u)). r.each_view j u t.1) (at_set s.views id j w u is);
    home = home;
  }

  -- where no view is out after a view that is not out has changed, none was
  none_before : (views : List (View E O)) (id : ℕ) (v w : View E O) → get_elem? views id ≡ some v → ¬ IsOut v.stage → NoneOut (set views id w) → NoneOut views
  none_before views id v w at not none j u is out = dite (ℕ_discrete j id)
      (λ e. not (subst (λ (z : View E O). IsOut z.stage) (some-injective u v (sym is ∙ (ap (get_elem? views) e ∙ at))) out))
      (λ ne. none j u (set_else views id j w ne ∙ is) out)

  pub draws : (slots id : ℕ) (me : M) → me.0.stage ≡ Idle → 0 < length me.0.cards
      → Allows Rule slots id me 0 (λ n. (n + 1) % 18446744073709551616) (Draws (step slots 0 1 0 mathlib.Core.Option.none) me)
  draws slots id me idle carded s r _ at _ =
      let T : ℕ = get_or s.words 0 0 in
      let v : View E O = me.0 in
      let w : View E O = record v { ticket = T; stage = Waiting } in
      let none_held : tickets v ≡ 0 = ap has_ticket idle in
      let S : ℕ = length r.history in
      let n : ℕ = sum_by tickets s.views in
      let T_is : T ≡ S + n = ap (λ ws. get_or ws 0 0) r.words in
      let roomy = sum_by-le-at tickets room s.views (λ j u here. omega (arith, cards-le-room u.cards, (r.each_view j u here).carded)) in
      let few : n ≤ 16 = omega (arith, roomy, r.all_room, r.few) in
      let small : S < 9223372036854775808 = r.bounded in
      let more : sum_by tickets (set s.views id w) ≡ n + 1 = omega (arith, sum_by-set_at tickets s.views id v w at) in
      let fits : (T + 1) % 18446744073709551616 ≡ T + 1 = mod-eq_of_lt (omega arith) in (
        w,
        keeps,
        tt,
        moves s r (set s.words 0 ((T + 1) % 18446744073709551616)) s.homes id v w at
            ((λ i. set (r.words i) 0 (fits i)) ∙ ap (λ (k : ℕ). k ∷ S ∷ []) (omega arith))
            (λ t. let none_that : times t v ≡ 0 = ap (λ z. has_that z v.ticket t) idle in
            let mine : times t w ≡ same (S + n) t = ap (λ k. same k t) T_is in
            let all = r.each_ticket t in
            let change = sum_by-set_at (times t) s.views id v w at in
            ap (λ (z : ℕ). z) (omega (arith, all, change, none_that, mine, more)))
            refl
            (let true = r.each_view id v at in record { cards = true.cards; served = tt; carded = omega arith })
            (λ none. r.home (none_before s.views id v w at (λ out. subst IsOut idle out) none)),
        refl,
      )

  -- a turn that is out is the one that is served
  out_served : (history : List E) (ticket : ℕ) (st : Stage E) → IsOut st → IsServed history ticket st → (ticket ≡ length history) × (has_that st ticket (length history) ≡ 1)
  out_served history ticket (Out held) out ok = (ok.0, omega (arith, ok.0))
  out_served history ticket _ out ok = absurd out

  -- whose ticket is served, and has no turn out, is the only one
  none_out : (s : St) (r : Rule s) (id : ℕ) (v : View E O) → get_elem? s.views id ≡ some v → ¬ IsOut v.stage → times (length r.history) v ≡ 1 → NoneOut s.views
  none_out s r id v at not mine j u is out = dite (ℕ_discrete j id)
      (λ e. not (subst (λ (z : View E O). IsOut z.stage) (some-injective u v (sym is ∙ (ap (get_elem? s.views) e ∙ at))) out))
      (λ ne. let S : ℕ = length r.history in let his = (out_served r.history u.ticket u.stage out (r.each_view j u is).served).1 in let both = two-le-sum_by (times S) s.views j id u v ne is at in
      absurd (omega (arith, his, mine, both, r.each_ticket S)))

  pub looks : (slots id : ℕ) (c : Card E O) (t : ℕ)
      → Allows Rule slots id (lone c t Waiting, []) 1 (λ n. n) (Looks entries lane origin (step slots 1 0 0 mathlib.Core.Option.none) (lone c t Waiting, []))
  looks slots id c t s r _ at _ =
      let S : ℕ = length r.history in
      let found : get_or s.words 1 0 ≡ S = ap (λ ws. get_or ws 1 0) r.words in
      let v : View E O = lone c t Waiting in
      let same_words : set s.words 1 (get_or s.words 1 0) ≡ s.words = set-get_or s.words 1 0 in
      dite (ℕ_discrete (get_or s.words 1 0) t)
      (λ hit. let is : t ≡ S = sym hit ∙ found in
      let none = none_out s r id v at (λ out. out) (omega (arith, is)) in
      let h = r.home none in
      let x : V = h.0 in
      let w : View E O = lone c t (Out (entries x)) in
      let true = r.each_view id v at in
      let good : IsGood r.history c = All-head (IsGood r.history) c [] true.cards in
      let as_many : sum_by tickets (set s.views id w) ≡ sum_by tickets s.views = omega (arith, sum_by-set_at tickets s.views id v w at) in (
        w,
        takes 0 (Some x),
        h.1,
        moves s r (set s.words 1 (get_or s.words 1 0)) (set s.homes 0 mathlib.Core.Option.none) id v w at
            (same_words ∙ (r.words ∙ ap (λ (k : ℕ). (S + k) ∷ S ∷ []) (sym as_many)))
            (λ k. let change = sum_by-set_at (times k) s.views id v w at in let all = r.each_ticket k in
            omega (arith, change, all, ap (λ (z : ℕ). within S (S + z) k) as_many))
            refl
            (record { cards = true.cards; served = (is, h.2.0); carded = true.carded })
            (λ still. absurd (still id w (at_there s.views id v w at) tt)),
        λ c' t' same. let card : c ≡ c' = ap (λ (m : M). get_or m.0.cards 0 c) same in let ticket : t ≡ t' = ap (λ (m : M). m.0.ticket) same in (
          (λ _. (
            x,
            (λ i. (lone (card i) (ticket i) (Out (entries x)), (0, Some x) ∷ [])),
            subst (λ (d : Card E O). Shows entries lane origin d x) card record {
              same_origin = h.2.1 ∙ sym good.same_origin;
              begins = subst (λ (o : List E). Extends o (entries x)) (sym good.same_opening) (subst (Extends (entries opened)) (sym h.2.0) r.begins);
              seen = subst (Extends c.seen) (sym h.2.0) good.seen;
              mine = ap (of_lane lane c.number) (λ i. added (good.same_opening i) (h.2.0 i)) ∙ good.mine;
            },
          )),
          λ not. absurd (not (hit ∙ ticket)),
        ),
      ))
      (λ miss. (
        v,
        keeps,
        tt,
        subst Rule (λ i. record { words = sym same_words i; homes = s.homes; views = sym (set_again s.views id v at) i }) r,
        λ c' t' same. let ticket : t ≡ t' = ap (λ (m : M). m.0.ticket) same in ((λ hit. absurd (miss (hit ∙ sym ticket))), λ _. refl),
      ))

  -- a card whose number and whose numbers to hand out are not the new entry's stays true
  other_card : (history after : List E) (n : ℕ) (e : E) (c : Card E O) → Extends (entries opened) history → after ≡ history ++ e ∷ [] → lane e ≡ n → claim n c ≡ 0 → IsGood history c → IsGood after c
  other_card history after n e c begins is lane_is none good =
      let goes : added (entries opened) after ≡ added (entries opened) history ++ e ∷ [] = ap (added (entries opened)) is ∙ added-append (entries opened) history (e ∷ []) begins in
      let stays : (k : ℕ) → lane e ≢ k → of_lane lane k (added (entries opened) after) ≡ of_lane lane k (added (entries opened) history) = λ k ne.
      ap (of_lane lane k) goes ∙ (filter-append (λ y. eqb (lane y) k) (added (entries opened) history) (e ∷ []) ∙ (ap (λ l. of_lane lane k (added (entries opened) history) ++ l) (of_lane-else lane k e ne) ∙ append-nil _)) in record {
        same_origin = good.same_origin;
        same_opening = good.same_opening;
        seen = subst (Extends c.seen) (sym is) (extends-append c.seen history (e ∷ []) good.seen);
        mine = stays c.number (λ same_n. absurd (omega (arith, none, same_n, lane_is))) ∙ good.mine;
        none_yet = λ k a b. stays k (λ same_n. absurd (omega (arith, none, a, b, lane_is, same_n))) ∙ good.none_yet k a b;
      }

  -- the card that adds the entry
  own_card : (history after : List E) (n : ℕ) (e : E) (c : Card E O) → Extends (entries opened) history → after ≡ history ++ e ∷ [] → added history after ≡ e ∷ [] → lane e ≡ c.number → claim c.number c ≤ 1
      → IsGood history c → IsGood after (after_turn c history after)
  own_card history after n e c begins is added_is lane_is one good =
      let goes : added (entries opened) after ≡ added (entries opened) history ++ e ∷ [] = ap (added (entries opened)) is ∙ added-append (entries opened) history (e ∷ []) begins in
      let grows : (k : ℕ) → of_lane lane k (added (entries opened) after) ≡ of_lane lane k (added (entries opened) history) ++ of_lane lane k (e ∷ []) = λ k.
      ap (of_lane lane k) goes ∙ filter-append (λ y. eqb (lane y) k) (added (entries opened) history) (e ∷ []) in record {
        same_origin = good.same_origin;
        same_opening = good.same_opening;
        seen = extends_self after;
        mine = grows c.number ∙ (λ i. good.mine i ++ (of_lane-here lane c.number e lane_is ∙ sym added_is) i);
        none_yet = λ k a b. grows k ∙ ((λ i. good.none_yet k a b i ++ of_lane-else lane k e (λ same_n. absurd (omega (arith, one, a, b, lane_is, same_n))) i));
      }

  pub passes_on : (slots id : ℕ) (c : Card E O) (t : ℕ) (held : List E) (x : V) → slots ≡ 1 → AddsOne lane c.number held (entries x) → origin x ≡ c.origin → length (entries x) < 9223372036854775808
      → Allows Rule slots id (lone c t (Out held), (0, Some x) ∷ []) 1 (λ n. (n + 1) % 18446744073709551616)
      (PassesOn entries (step slots 1 1 0 mathlib.Core.Option.none) (lone c t (Out held), (0, Some x) ∷ []))
  passes_on slots id c t held x one_slot adds kept bounded s r deep at _ =
      let H : List E = r.history in
      let S : ℕ = length H in
      let after : List E = entries x in
      let v : View E O = lone c t (Out held) in
      let w : View E O = lone (after_turn c held after) t Idle in
      let true = r.each_view id v at in
      let is : t ≡ S = true.served.0 in
      let held_is : held ≡ H = true.served.1 in
      let good : IsGood H c = All-head (IsGood H) c [] true.cards in
      let one = one_entry lane c.number H after (subst (λ (l : List E). AddsOne lane c.number l after) held_is adds) in
      let e : E = one.entry in
      let longer : length after ≡ S + 1 = omega (arith, ap length one.after_is, length-append H (e ∷ [])) in
      let n : ℕ = sum_by tickets (set s.views id w) in
      let fewer : sum_by tickets s.views ≡ n + 1 = omega (arith, sum_by-set_at tickets s.views id v w at) in
      let found : get_or s.words 1 0 ≡ S = ap (λ ws. get_or ws 1 0) r.words in
      let fits : (S + 1) % 18446744073709551616 ≡ S + 1 = mod-eq_of_lt (omega arith) in
      let mine : 1 ≤ claims c.number v = omega (arith, sum_by-cons (claim c.number) c []) in
      let at_most : sum_by (claims c.number) s.views ≤ 1 = omega (arith, r.each_number c.number) in
      let own_one : claim c.number c ≤ 1 = omega (arith, sum_by-cons (claim c.number) c [], at-le-sum_by (claims c.number) s.views id v at) in
      let below : c.number < passes = omega (arith, mine, at-le-sum_by (claims c.number) s.views id v at, r.each_number c.number) in
      let here : IsTrue after w = record {
        cards = All-one (IsGood after) (after_turn c held after)
            (subst (λ (l : List E). IsGood after (after_turn c l after)) (sym held_is) (own_card H after c.number e c r.begins one.after_is one.added_is one.lane_is_n own_one good));
        served = tt;
        carded = omega arith;
      } in
      let there : (j : ℕ) (u : View E O) → j ≢ id → get_elem? s.views j ≡ some u → IsTrue after u = λ j u ne here_u.
      let its = r.each_view j u here_u in
      let none : claims c.number u ≡ 0 = omega (arith, two-le-sum_by (claims c.number) s.views j id u v ne here_u at) in record {
        cards = λ k d l. let card : Card E O = get_or u.cards k d in
            other_card H after c.number e card r.begins one.after_is one.lane_is_n (omega (arith, Rattle.std.proofs.lemmas.List.Sums.get_or-le-sum_by (claim c.number) u.cards k d l)) (its.cards k d l);
        served = not_out H after u.ticket u.stage
            (λ out. let his = (out_served H u.ticket u.stage out its.served).1 in let both = two-le-sum_by (times S) s.views j id u v ne here_u at in
            absurd (omega (arith, his, both, is, r.each_ticket S)));
        carded = its.carded;
      } in (
        w,
        gives,
        tt,
        record {
          history = after;
          few = r.few;
          bounded = bounded;
          begins = subst (Extends (entries opened)) (sym one.after_is) (extends-append (entries opened) H (e ∷ []) r.begins);
          lanes = subst (All (λ y. lane y < passes)) (sym (ap (added (entries opened)) one.after_is ∙ added-append (entries opened) H (e ∷ []) r.begins))
              (All-append (λ y. lane y < passes) (added (entries opened) H) (e ∷ []) r.lanes (All-one (λ y. lane y < passes) e (subst (λ (k : ℕ). k < passes) (sym one.lane_is_n) below)));
          words = (λ i. set (r.words i) 1 ((found i + 1) % 18446744073709551616)) ∙ (λ i. (S + fewer i) ∷ fits i ∷ []) ∙ (let first : S + (n + 1) ≡ length after + n = omega (arith, longer) in λ i. first i ∷ sym longer i ∷ []);
          each_ticket = λ k. omega (arith, sum_by-set_at (times k) s.views id v w at, r.each_ticket k, fewer, is, longer);
          each_number = λ k. omega (arith, sum_by-set_at (claims k) s.views id v w at, r.each_number k);
          all_room = omega (arith, sum_by-set_at room s.views id v w at, r.all_room);
          each_view = λ j u is_u. ⊎_elim (λ (p : (j ≡ id) × (w ≡ u)). subst (IsTrue after) p.1 here) (λ (p : (j ≢ id) × (get_elem? s.views j ≡ some u)). there j u p.0 p.1) (at_set s.views id j w u is_u);
          home = λ _. (x, set_here s.homes 0 (some (Some x)) (omega arith), (refl, kept ∙ good.same_origin));
        },
        λ c' t' held' x' same.
            let card : c ≡ c' = ap (λ (m : M). get_or m.0.cards 0 c) same in
            let ticket : t ≡ t' = ap (λ (m : M). m.0.ticket) same in
            let mark : held ≡ held' = cc (ap (λ (m : M). m.0.stage) same) in
            let value : x ≡ x' = cc (ap (λ (m : M). (get_or m.1 0 (0, None)).1) same) in (
              (λ i. (lone (after_turn (card i) (mark i) (entries (value i))) (ticket i) Idle, [])),
              subst (λ (z : Card E O × V). Extends z.0.seen (entries z.1)) (λ i. (card i, value i)) (subst (Extends c.seen) (sym one.after_is) (extends-append c.seen H (e ∷ []) good.seen)),
            ),
      )
    where
      not_out : (history after : List E) (ticket : ℕ) (st : Stage E) → ¬ IsOut st → IsServed after ticket st
      not_out history after ticket (Out held) not = absurd (not tt)
      not_out history after ticket _ not = tt

  pub splits : (id ticket : ℕ) (c : Card E O) (stage : Stage E) → c.next < c.until
      → Splits Rule id (lone c ticket stage) (handing (lone c ticket stage)) (handed (lone c ticket stage))
  splits id ticket c stage more s r at =
      let v : View E O = lone c ticket stage in
      let w : View E O = handing v in
      let u : View E O = handed v in
      let both : List (View E O) = set s.views id w ++ u ∷ [] in
      let true = r.each_view id v at in
      let good : IsGood r.history c = All-head (IsGood r.history) c [] true.cards in
      let sums : (f : View E O → ℕ) → f w + f u ≡ f v → sum_by f both ≡ sum_by f s.views = λ f e.
      omega (arith, e, sum_by-set_at f s.views id v w at, sum_by-append f (set s.views id w) (u ∷ []), sum_by-cons f u []) in
      let as_many : sum_by tickets both ≡ sum_by tickets s.views = sums tickets (omega arith) in record {
        history = r.history;
        few = r.few;
        bounded = r.bounded;
        begins = r.begins;
        lanes = r.lanes;
        words = r.words ∙ ap (λ (k : ℕ). (length r.history + k) ∷ length r.history ∷ []) (sym as_many);
        each_ticket = λ t. sums (times t) (omega arith) ∙ (r.each_ticket t ∙ ap (λ (z : ℕ). within (length r.history) (length r.history + z) t) (sym as_many));
        each_number = λ k. sums (claims k) (omega (arith, more)) ∙ r.each_number k;
        all_room = sums room (omega arith) ∙ r.all_room;
        each_view = λ j z is. ⊎_elim
            (λ (e : get_elem? (set s.views id w) j ≡ some z). ⊎_elim (λ (p : (j ≡ id) × (w ≡ z)). subst (IsTrue r.history) p.1 record {
              cards = All-one (IsGood r.history) (record c { next = c.next + 1 }) record {
                same_origin = good.same_origin;
                same_opening = good.same_opening;
                seen = good.seen;
                mine = good.mine;
                none_yet = λ k a b. good.none_yet k (omega arith) b;
              };
              served = true.served;
              carded = true.carded;
            }) (λ (p : (j ≢ id) × (get_elem? s.views j ≡ some z)). r.each_view j z p.1) (at_set s.views id j w z e))
            (λ (e : u ≡ z). subst (IsTrue r.history) e record {
              cards = All-one (IsGood r.history) (new_card c) record {
                same_origin = good.same_origin;
                same_opening = good.same_opening;
                seen = good.seen;
                mine = good.none_yet c.next (le_refl c.next) more;
                none_yet = λ k a b. absurd (omega arith);
              };
              served = tt;
              carded = omega arith;
            })
            (at_snoc (set s.views id w) u z j is);
        home = λ none. r.home (λ j z is out. dite (ℕ_discrete j id)
            (λ e. none id w (at_longer (set s.views id w) (u ∷ []) id w (at_there s.views id v w at)) (subst (λ (y : View E O). IsOut y.stage) (some-injective z v (sym is ∙ (ap (get_elem? s.views) e ∙ at))) out))
            (λ ne. none j z (at_longer (set s.views id w) (u ∷ []) j z (set_else s.views id j w ne ∙ is)) out));
      }

  pub joins : (id : ℕ) (v : View E O) (other : ℕ) (w : View E O) → v.stage ≡ Idle → w.stage ≡ Idle → Joins Rule id v other w (joined v w) spent
  joins id v other w idle_v idle_w s r at apart there =
      let both : View E O = joined v w in
      let first : List (View E O) = set s.views id both in
      let last : List (View E O) = set first other spent in
      let was : get_elem? s.views other ≡ some w = sym (set_else s.views id other both apart) ∙ there in
      let true_v = r.each_view id v at in
      let true_w = r.each_view other w was in
      let sums : (f : View E O → ℕ) → f both + f spent ≡ f v + f w → sum_by f last ≡ sum_by f s.views = λ f e.
      omega (arith, e, sum_by-set_at f s.views id v both at, sum_by-set_at f first other w spent there) in
      let none_v : tickets v ≡ 0 = ap has_ticket idle_v in
      let none_w : tickets w ≡ 0 = ap has_ticket idle_w in
      let as_many : sum_by tickets last ≡ sum_by tickets s.views = sums tickets (omega (arith, none_w)) in record {
        history = r.history;
        few = r.few;
        bounded = r.bounded;
        begins = r.begins;
        lanes = r.lanes;
        words = r.words ∙ ap (λ (k : ℕ). (length r.history + k) ∷ length r.history ∷ []) (sym as_many);
        each_ticket = λ t. let not_w : times t w ≡ 0 = ap (λ z. has_that z w.ticket t) idle_w in sums (times t) (omega (arith, not_w))
            ∙ (r.each_ticket t ∙ ap (λ (z : ℕ). within (length r.history) (length r.history + z) t) (sym as_many));
        each_number = λ k. sums (claims k) (omega (arith, sum_by-append (claim k) w.cards v.cards)) ∙ r.each_number k;
        all_room = sums room (omega (arith, sum_by-append (λ (c : Card E O). 1 + (c.until - c.next)) w.cards v.cards)) ∙ r.all_room;
        each_view = λ j z is. ⊎_elim
            (λ (p : (j ≡ other) × (spent ≡ z)). subst (IsTrue r.history) p.1 record { cards = All-nil (IsGood r.history); served = tt; carded = omega arith })
            (λ (q : (j ≢ other) × (get_elem? first j ≡ some z)). ⊎_elim
            (λ (p : (j ≡ id) × (both ≡ z)). subst (IsTrue r.history) p.1 record {
              cards = All-append (IsGood r.history) w.cards v.cards true_w.cards true_v.cards;
              served = true_v.served;
              carded = omega (arith, none_v);
            })
            (λ (p : (j ≢ id) × (get_elem? s.views j ≡ some z)). r.each_view j z p.1)
            (at_set s.views id j both z q.1))
            (at_set first other j spent z is);
        home = λ none. r.home (λ j z is out. dite (ℕ_discrete j id)
            (λ e. subst IsOut idle_v (subst (λ (y : View E O). IsOut y.stage) (some-injective z v (sym is ∙ (ap (get_elem? s.views) e ∙ at))) out))
            (λ not_id. dite (ℕ_discrete j other)
            (λ e. subst IsOut idle_w (subst (λ (y : View E O). IsOut y.stage) (some-injective z w (sym is ∙ (ap (get_elem? s.views) e ∙ was))) out))
            (λ not_other. none j z (set_else first other j spent not_other ∙ (set_else s.views id j both not_id ∙ is)) out)));
      }

  -- a view with a card claims some number
  some_claim : (cs : List (Card E O)) → 0 < length cs → (k : ℕ) × (1 ≤ sum_by (claim k) cs)
  some_claim [] h = absurd (omega arith)
  some_claim (c ∷ cs) h = (c.number, omega (arith, sum_by-cons (claim c.number) c cs))

  out_ticket : (st : Stage E) → IsOut st → has_ticket st ≡ 1
  out_ticket (Out held) out = refl
  out_ticket _ out = absurd out

  -- once one idle view claims all numbers, no view is out
  all_back : (s : St) (r : Rule s) (id : ℕ) (v : View E O) → get_elem? s.views id ≡ some v → v.stage ≡ Idle → ((k : ℕ) → k < passes → 0 < claims k v) → NoneOut s.views
  all_back s r id v at idle all j u is out = dite (ℕ_discrete j id)
      (λ e. subst IsOut idle (subst (λ (z : View E O). IsOut z.stage) (some-injective u v (sym is ∙ (ap (get_elem? s.views) e ∙ at))) out))
      (λ ne.
      let some_card : 0 < length u.cards = omega (arith, out_ticket u.stage out, (r.each_view j u is).carded) in
      let k = some_claim u.cards some_card in
      let theirs : 1 ≤ claims k.0 u = k.1 in
      let whole = r.each_number k.0 in
      let below : k.0 < passes = omega (arith, theirs, whole, at-le-sum_by (claims k.0) s.views j u is) in
      absurd (omega (arith, theirs, all k.0 below, two-le-sum_by (claims k.0) s.views j id u v ne is at, whole)))

  -- the value at home, once all passes are back
  pub ends : (s : St) (r : Rule s) (id : ℕ) (v : View E O) → get_elem? s.views id ≡ some v → v.stage ≡ Idle → ((k : ℕ) → k < passes → 0 < claims k v)
      → (x : V) × (get_elem? s.homes 0 ≡ some (some (Some x))) × IsEnd entries lane origin opened passes v.cards x
  ends s r id v at idle all =
      let h = r.home (all_back s r id v at idle all) in
      let x : V = h.0 in
      let back : r.history ≡ entries x = sym h.2.0 in (
        x,
        h.1,
        record {
          same_origin = h.2.1;
          begins = subst (Extends (entries opened)) back r.begins;
          lanes = subst (λ (l : List E). All (λ e. lane e < passes) (added (entries opened) l)) back r.lanes;
          true_cards = subst (λ (l : List E). All (IsTrueCard lane (origin opened) (entries opened) l) v.cards) back (r.each_view id v at).cards;
        },
      )

  -- these steps at a seat whose view and hand are known by an equation
  pub looks_at : (slots id : ℕ) (m : M) (c : Card E O) (t : ℕ) → m ≡ (lone c t Waiting, [])
      → Allows Rule slots id m 1 (λ n. n) (Looks entries lane origin (step slots 1 0 0 mathlib.Core.Option.none) m)
  looks_at slots id m c t e = subst (λ (z : M). Allows Rule slots id z 1 (λ n. n) (Looks entries lane origin (step slots 1 0 0 mathlib.Core.Option.none) z)) (sym e) (looks slots id c t)

  pub passes_on_at : (slots id : ℕ) (m : M) (c : Card E O) (t : ℕ) (held : List E) (x : V) → m ≡ (lone c t (Out held), (0, Some x) ∷ []) → slots ≡ 1 → AddsOne lane c.number held (entries x) → origin x ≡ c.origin
      → length (entries x) < 9223372036854775808 → Allows Rule slots id m 1 (λ n. (n + 1) % 18446744073709551616) (PassesOn entries (step slots 1 1 0 mathlib.Core.Option.none) m)
  passes_on_at slots id m c t held x e one_slot adds kept bounded =
      subst (λ (z : M). Allows Rule slots id z 1 (λ n. (n + 1) % 18446744073709551616) (PassesOn entries (step slots 1 1 0 mathlib.Core.Option.none) z)) (sym e)
      (passes_on slots id c t held x one_slot adds kept bounded)

  pub splits_at : (id : ℕ) (v : View E O) (ticket : ℕ) (c : Card E O) (stage : Stage E) → v ≡ lone c ticket stage → c.next < c.until → Splits Rule id v (handing v) (handed v)
  splits_at id v ticket c stage e more = subst (λ (z : View E O). Splits Rule id z (handing z) (handed z)) (sym e) (splits id ticket c stage more)

  -- at the start the history is the opening list
  pub opens : (x : V) (n : ℕ) → x ≡ opened → n ≡ length (entries opened) → 0 < passes → passes ≤ 16 → n < 9223372036854775808 → Rule (opening (n ∷ n ∷ []) (Some x ∷ []) (first_view entries origin opened passes))
  opens x n same_x same_n some_pass few bounded =
      let l : List E = entries opened in
      let none_added : added l l ≡ [] = drop_of_length-le l (le_refl (length l)) in
      let first : View E O = first_view entries origin opened passes in record {
        history = l;
        few = few;
        bounded = omega arith;
        begins = extends_self l;
        lanes = subst (All (λ e. lane e < passes)) (sym none_added) (All-nil (λ e. lane e < passes));
        words = let drawn : n ≡ length l + 0 = omega arith in λ i. drawn i ∷ same_n i ∷ [];
        each_ticket = λ t. omega arith;
        each_number = λ k. omega arith;
        all_room = omega arith;
        each_view = λ j v at. subst (IsTrue l) (at_only first j v at) record {
          cards = All-one (IsGood l) _ record {
            same_origin = refl;
            same_opening = refl;
            seen = extends_self l;
            mine = ap (of_lane lane 0) none_added;
            none_yet = λ k a b. ap (of_lane lane k) none_added;
          };
          served = tt;
          carded = omega arith;
        };
        home = λ _. (x, (λ _. some (some (Some x))), (ap entries same_x, ap origin same_x));
      }
