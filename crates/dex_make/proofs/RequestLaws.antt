-- What a request queue says as it is made.
use Rattle.std.proofs.Common.{◌≡◌, arith, lit≤, lit<}
use Rattle.dex_fields.specs.declared.request_queue.TheConstants.{HEAD, COUNT, NEXT_SEQ_NUM}
use Rattle.dex_fields.proofs.EmptyLaw.{IsFramed-empty_account, flags-empty_account, length-empty_account, number_in-empty_account}
use Rattle.dex_market.specs.RequestQueue.{IsRequestQueue, next_sequence}
use Rattle.dex_make.specs.MarketBytes.{request_bytes}

pub IsRequestQueue-made : IsRequestQueue request_bytes
IsRequestQueue-made = record {
  size = omega (arith, length-empty_account 5132 9 (lit≤ tt));
  framed = IsFramed-empty_account 5132 9 (lit≤ tt);
  flags = flags-empty_account 5132 9 (lit≤ tt) (lit< tt);
  head = number_in-empty_account 5132 9 (lit≤ tt) HEAD (lit≤ tt) (lit≤ tt);
  count = number_in-empty_account 5132 9 (lit≤ tt) COUNT (lit≤ tt) (lit≤ tt);
}

pub next_sequence-made : next_sequence request_bytes ≡ 0
next_sequence-made = number_in-empty_account 5132 9 (lit≤ tt) NEXT_SEQ_NUM (lit≤ tt) (lit≤ tt)
