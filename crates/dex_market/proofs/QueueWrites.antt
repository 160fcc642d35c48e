-- A request queue stays one where its next sequence number is written.
use Rattle.std.proofs.Common.{ℕ, List, refl, ◌∙◌, arith, lit≤}
use Rattle.dex_fields.specs.declared.request_queue.TheConstants.{ACCOUNT_FLAGS, COUNT, HEAD, NEXT_SEQ_NUM}
use Rattle.dex_fields.specs.Bytes.{with_number}
use Rattle.dex_fields.proofs.FrameLaw.{IsFramed-with_number}
use Rattle.dex_fields.proofs.Places.{number_in-other}
use Rattle.dex_fields.proofs.Writing.{length-with_number}
use Rattle.dex_market.specs.RequestQueue.{IsRequestQueue}

pub IsRequestQueue-with_next : (bytes : List ℕ) (x : ℕ) → IsRequestQueue bytes → IsRequestQueue (with_number bytes NEXT_SEQ_NUM x)
IsRequestQueue-with_next bytes x queue = record {
  size = omega (arith, queue.size, length-with_number bytes NEXT_SEQ_NUM x);
  framed = IsFramed-with_number bytes NEXT_SEQ_NUM x (lit≤ tt) (omega (arith, queue.size)) queue.framed;
  flags = number_in-other bytes NEXT_SEQ_NUM x ACCOUNT_FLAGS refl ∙ queue.flags;
  head = number_in-other bytes NEXT_SEQ_NUM x HEAD refl ∙ queue.head;
  count = number_in-other bytes NEXT_SEQ_NUM x COUNT refl ∙ queue.count;
}
