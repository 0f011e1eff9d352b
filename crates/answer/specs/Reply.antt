-- A reply, in the rules' own terms: "+ and the result's numbers, or - and the refusal" (10.6).
-- "For any answer that is an enum, a definition gives the number and the values for each case." (DECISIONS 3)
use Rattle.std.specs.Prelude.{List, ℕ, take, Result, Ok, Err}
use Rattle.answer.specs.declared.Refusal.{Refusal}
use Rattle.answer.specs.Number.{number_of}

pub data Reply : Type 0 where
  -- the numbers of the result
  accepted : List ℕ → Reply
  -- the number of the refusal
  refused : ℕ → Reply

-- the reply that an answer stands for, with the result buffer as the call left it: a call that is done gives the buffer's first numbers
unfoldable pub reply_of : Result ℕ Refusal → List ℕ → Reply
reply_of (Ok n) out = accepted (take n out)
reply_of (Err r) out = refused (number_of r)
