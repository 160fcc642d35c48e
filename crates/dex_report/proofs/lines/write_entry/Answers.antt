use Rattle.std.proofs.Common.{◌≡◌, false, arith, refl}
use Rattle.dex_types.specs.declared.refusals.Refusal.{Refusal}
use Rattle.dex_types.specs.declared.replies.Reply.{Reply}
use Rattle.dex_types.specs.declared.replies.Reply.TheVariants.{Ordered, Took, Cancelled, Consumed, Settled, Swept, Done, Refused}
use Rattle.dex_history.specs.Journal.{is_refusal}
use Rattle.dex_report.proofs.lines.write_entry.Goals as goal

-- a reply that is no refusal
is-done : (reply : Reply) → ((why : Refusal) → reply ≡ Refused why → ⊥) → is_refusal reply ≡ false
is-done (Ordered a b c d e f) h = refl
is-done (Took a b c) h = refl
is-done (Cancelled a) h = refl
is-done (Consumed a) h = refl
is-done (Settled a b c) h = refl
is-done (Swept a) h = refl
is-done Done h = refl
is-done (Refused why) h = absurd (h why refl)

pub put_reply-reply-requires : goal.put_reply-reply-requires
put_reply-reply-requires c = record { room = (omega arith, omega arith); done = is-done c.args.entry.now.reply c.in_default.not-Refused }
