-- What a request queue says, and which bytes are one.
use Rattle.std.specs.Prelude.{◌≡◌, ℕ, ◌≤◌, List, length}
use Rattle.dex_fields.specs.declared.request_queue.TheConstants.{ACCOUNT_FLAGS, HEAD, COUNT, NEXT_SEQ_NUM}
use Rattle.dex_fields.specs.Bytes.{number_in}
use Rattle.dex_fields.specs.Frame.{IsFramed}

-- the sequence number of the next order
abbrev pub next_sequence : List ℕ → ℕ
next_sequence bytes = number_in bytes NEXT_SEQ_NUM

-- the bytes are a request queue: nothing is ever in it
pub record IsRequestQueue (bytes : List ℕ) : Type 0 where
  pub size : 44 ≤ length bytes
  pub framed : IsFramed bytes
  pub flags : number_in bytes ACCOUNT_FLAGS ≡ 9
  pub head : number_in bytes HEAD ≡ 0
  pub count : number_in bytes COUNT ≡ 0
