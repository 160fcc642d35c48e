-- An account breaks no rule exactly where it is a request queue, or a market account.
use Rattle.std.proofs.Common.{◌≡◌, ◌≢◌, ℕ, ◌<◌, ◌≤◌, eqb, ltb, ◌||◌, List, length, Some, None, ◌∙◌, arith, inl, inr}
use Rattle.std.proofs.lemmas.Bool.{eq-eqb, eqb-false, eqb-true, le-ltb, ltb-false, ne_eqb, or_cases, or_left, or_right, cond-true, cond-false}
use Rattle.std.specs.Option.{option_or}
use Rattle.dex_fields.specs.declared.field.Field.{Field}
use Rattle.dex_fields.specs.declared.market.TheConstants.{ACCOUNT_FLAGS, COIN_LOT_SIZE, COIN_MINT, PC_LOT_SIZE, PC_MINT}
use Rattle.dex_fields.specs.declared.request_queue.TheConstants as queue
use Rattle.dex_fields.specs.Bytes.{number_in}
use Rattle.dex_fields.proofs.FrameLaw.{framed_from_mapped, mapped_from_framed}
use Rattle.dex_fields.proofs.Rules.{cond_holds, cond_none, none_or, or_none}
use Rattle.dex_types.specs.AccountFaults.{flags_fault, size_fault, word_fault}
use Rattle.dex_types.specs.Addresses.{is_same}
use Rattle.dex_market.specs.MarketAccount.{AreMarketFlags, AreTerms, IsMarket, address_in, market_terms}
use Rattle.dex_market.specs.RequestQueue.{IsRequestQueue}
use Rattle.dex_market.specs.Faults.{address_fault, addresses_rule, frame_rule, lot_rule, market_fault, market_fields_rule, market_flags_rule, mint_rule, request_flags_rule, requests_fault, told, word_rule}
use Rattle.dex_market.proofs.Addresses.{fresh_from_none, none_from_fresh}

-- ---- rules of both accounts

word_from_rule : (bytes : List ℕ) (field : Field) (wanted : ℕ) → word_rule bytes field wanted ≡ None → number_in bytes field ≡ wanted
word_from_rule bytes field wanted h =
    eqb-true (number_in bytes field) wanted (cond_holds (eqb (number_in bytes field) wanted) (word_fault field.at (number_in bytes field) wanted) None h).0

rule_from_word : (bytes : List ℕ) (field : Field) (wanted : ℕ) → number_in bytes field ≡ wanted → word_rule bytes field wanted ≡ None
rule_from_word bytes field wanted h =
    cond-true (eqb (number_in bytes field) wanted) None (Some (word_fault field.at (number_in bytes field) wanted)) (eq-eqb (number_in bytes field) wanted h)

-- ---- the request queue

pub requests_from_none : (bytes : List ℕ) → requests_fault bytes ≡ None → IsRequestQueue bytes
unfolding requests_fault
requests_from_none bytes h =
    let whole = cond_none (ltb (length bytes) 44) (size_fault (length bytes) 44) (option_or (option_or (option_or (frame_rule bytes) (request_flags_rule bytes)) (word_rule bytes queue.HEAD 0)) (word_rule bytes queue.COUNT 0)) h in
    let long : 44 ≤ length bytes = ltb-false (length bytes) 44 whole.0 in
    let counted = or_none (option_or (option_or (frame_rule bytes) (request_flags_rule bytes)) (word_rule bytes queue.HEAD 0)) (word_rule bytes queue.COUNT 0) whole.1 in
    let headed = or_none (option_or (frame_rule bytes) (request_flags_rule bytes)) (word_rule bytes queue.HEAD 0) counted.0 in
    let flagged = or_none (frame_rule bytes) (request_flags_rule bytes) headed.0 in
    let flags = cond_holds (eqb (number_in bytes queue.ACCOUNT_FLAGS) 9) (flags_fault (number_in bytes queue.ACCOUNT_FLAGS) 9) None flagged.1 in
    record {
      size = long;
      framed = framed_from_mapped told bytes (omega arith) flagged.0;
      flags = eqb-true (number_in bytes queue.ACCOUNT_FLAGS) 9 flags.0;
      head = word_from_rule bytes queue.HEAD 0 headed.1;
      count = word_from_rule bytes queue.COUNT 0 counted.1;
    }

pub none_from_requests : (bytes : List ℕ) → IsRequestQueue bytes → requests_fault bytes ≡ None
unfolding requests_fault
none_from_requests bytes q =
    let flags : request_flags_rule bytes ≡ None = cond-true (eqb (number_in bytes queue.ACCOUNT_FLAGS) 9) None (Some (flags_fault (number_in bytes queue.ACCOUNT_FLAGS) 9)) (eq-eqb (number_in bytes queue.ACCOUNT_FLAGS) 9 q.flags) in
    let rules : option_or (option_or (option_or (frame_rule bytes) (request_flags_rule bytes)) (word_rule bytes queue.HEAD 0)) (word_rule bytes queue.COUNT 0) ≡ None =
    none_or (option_or (option_or (frame_rule bytes) (request_flags_rule bytes)) (word_rule bytes queue.HEAD 0)) (word_rule bytes queue.COUNT 0)
    (none_or (option_or (frame_rule bytes) (request_flags_rule bytes)) (word_rule bytes queue.HEAD 0) (none_or (frame_rule bytes) (request_flags_rule bytes) (mapped_from_framed told bytes q.framed) flags) (rule_from_word bytes queue.HEAD 0 q.head))
    (rule_from_word bytes queue.COUNT 0 q.count) in
    cond-false (ltb (length bytes) 44) (Some (size_fault (length bytes) 44)) (option_or (option_or (option_or (frame_rule bytes) (request_flags_rule bytes)) (word_rule bytes queue.HEAD 0)) (word_rule bytes queue.COUNT 0)) (le-ltb (length bytes) 44 q.size)
    ∙ rules

-- ---- the market account

flags_from_rule : (bytes : List ℕ) → market_flags_rule bytes ≡ None → AreMarketFlags (number_in bytes ACCOUNT_FLAGS)
flags_from_rule bytes h =
    let flags : ℕ = number_in bytes ACCOUNT_FLAGS in
    let either = cond_holds (eqb flags 3 || eqb flags 131) (flags_fault flags 3) None h in
    elim (or_cases (eqb flags 3) (eqb flags 131) either.0) [
      | inl open_market ↦ inl (eqb-true flags 3 open_market)
      | inr disabled ↦ inr (eqb-true flags 131 disabled)
    ]

rule_from_flags : (bytes : List ℕ) → AreMarketFlags (number_in bytes ACCOUNT_FLAGS) → market_flags_rule bytes ≡ None
rule_from_flags bytes (inl h) =
    let flags : ℕ = number_in bytes ACCOUNT_FLAGS in
    cond-true (eqb flags 3 || eqb flags 131) None (Some (flags_fault flags 3)) (or_left (eqb flags 3) (eqb flags 131) (eq-eqb flags 3 h))
rule_from_flags bytes (inr h) =
    let flags : ℕ = number_in bytes ACCOUNT_FLAGS in
    cond-true (eqb flags 3 || eqb flags 131) None (Some (flags_fault flags 3)) (or_right (eqb flags 3) (eqb flags 131) (eq-eqb flags 131 h))

lot_from_rule : (bytes : List ℕ) (field : Field) → lot_rule bytes field ≡ None → 0 < number_in bytes field
lot_from_rule bytes field h =
    let lots : ℕ = number_in bytes field in
    let other : lots ≢ 0 = eqb-false lots 0 (cond_none (eqb lots 0) (word_fault field.at 0 1) None h).0 in
    omega arith

rule_from_lot : (bytes : List ℕ) (field : Field) → 0 < number_in bytes field → lot_rule bytes field ≡ None
rule_from_lot bytes field h =
    let lots : ℕ = number_in bytes field in
    let other : lots ≢ 0 = omega arith in
    cond-false (eqb lots 0) (Some (word_fault field.at 0 1)) None (ne_eqb lots 0 other)

terms_from_rules : (bytes : List ℕ) → market_fields_rule bytes ≡ None → AreTerms (market_terms bytes)
unfolding market_fields_rule
terms_from_rules bytes h =
    let pc = or_none (option_or (option_or (mint_rule bytes) (addresses_rule bytes)) (lot_rule bytes COIN_LOT_SIZE)) (lot_rule bytes PC_LOT_SIZE) h in
    let coin = or_none (option_or (mint_rule bytes) (addresses_rule bytes)) (lot_rule bytes COIN_LOT_SIZE) pc.0 in
    let first = or_none (mint_rule bytes) (addresses_rule bytes) coin.0 in
    record {
      mints = (cond_none (is_same (address_in bytes PC_MINT) (address_in bytes COIN_MINT)) (address_fault bytes PC_MINT) None first.0).0;
      addresses = fresh_from_none bytes first.1;
      coin_lot = lot_from_rule bytes COIN_LOT_SIZE coin.1;
      pc_lot = lot_from_rule bytes PC_LOT_SIZE pc.1;
    }

rules_from_terms : (bytes : List ℕ) → AreTerms (market_terms bytes) → market_fields_rule bytes ≡ None
unfolding market_fields_rule
rules_from_terms bytes t =
    let mints : mint_rule bytes ≡ None = cond-false (is_same (address_in bytes PC_MINT) (address_in bytes COIN_MINT)) (Some (address_fault bytes PC_MINT)) None t.mints in
    none_or (option_or (option_or (mint_rule bytes) (addresses_rule bytes)) (lot_rule bytes COIN_LOT_SIZE)) (lot_rule bytes PC_LOT_SIZE)
    (none_or (option_or (mint_rule bytes) (addresses_rule bytes)) (lot_rule bytes COIN_LOT_SIZE) (none_or (mint_rule bytes) (addresses_rule bytes) mints (none_from_fresh bytes t.addresses)) (rule_from_lot bytes COIN_LOT_SIZE t.coin_lot))
    (rule_from_lot bytes PC_LOT_SIZE t.pc_lot)

pub market_from_none : (bytes : List ℕ) → market_fault bytes ≡ None → IsMarket bytes
unfolding market_fault
market_from_none bytes h =
    let whole = cond_holds (eqb (length bytes) 388) (size_fault (length bytes) 388) (option_or (option_or (frame_rule bytes) (market_flags_rule bytes)) (market_fields_rule bytes)) h in
    let size : length bytes ≡ 388 = eqb-true (length bytes) 388 whole.0 in
    let fields = or_none (option_or (frame_rule bytes) (market_flags_rule bytes)) (market_fields_rule bytes) whole.1 in
    let flags = or_none (frame_rule bytes) (market_flags_rule bytes) fields.0 in
    record {
      size = size;
      framed = framed_from_mapped told bytes (omega arith) flags.0;
      flags = flags_from_rule bytes flags.1;
      terms = terms_from_rules bytes fields.1;
    }

pub none_from_market : (bytes : List ℕ) → IsMarket bytes → market_fault bytes ≡ None
unfolding market_fault
none_from_market bytes m =
    cond-true (eqb (length bytes) 388) (option_or (option_or (frame_rule bytes) (market_flags_rule bytes)) (market_fields_rule bytes)) (Some (size_fault (length bytes) 388)) (eq-eqb (length bytes) 388 m.size)
    ∙ none_or (option_or (frame_rule bytes) (market_flags_rule bytes)) (market_fields_rule bytes)
    (none_or (frame_rule bytes) (market_flags_rule bytes) (mapped_from_framed told bytes m.framed) (rule_from_flags bytes m.flags)) (rules_from_terms bytes m.terms)
