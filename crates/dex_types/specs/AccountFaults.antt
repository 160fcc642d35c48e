-- The faults that all accounts of the program share.
use Rattle.std.specs.Prelude.{ℕ, ◌^◌, ◌-◌, min}
use Rattle.dex_types.specs.declared.faults.AccountFault.{AccountFault}

-- the length
abbrev pub size_fault : ℕ → ℕ → AccountFault
size_fault found wanted = record { kind = 2; place = 0; found = found; wanted = wanted }

-- a byte of the text at the front or at the end; a place above the largest u32 is reported as that
abbrev pub text_fault : ℕ → ℕ → ℕ → AccountFault
text_fault place found wanted = record { kind = 3; place = min place (2 ^ 32 - 1); found = found; wanted = wanted }

-- the flags, which stand at place 5 in every account
abbrev pub flags_fault : ℕ → ℕ → AccountFault
flags_fault found wanted = record { kind = 4; place = 5; found = found; wanted = wanted }

-- a word, or the first byte of an address
abbrev pub word_fault : ℕ → ℕ → ℕ → AccountFault
word_fault place found wanted = record { kind = 5; place = place; found = found; wanted = wanted }
