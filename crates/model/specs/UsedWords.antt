-- HOW MANY WORDS OF THE LOG ARE USED, told by the calls and their replies.
use Rattle.std.specs.Prelude.{List, [], ◌∷◌, ℕ, ◌+◌, length, get_or}
use Rattle.answer.specs.Reply.{Reply, accepted, refused}
use Rattle.model.specs.Results.{blocks_in}
use Rattle.model.specs.Calls.{Account, looking, opening, freeing, closing, removing, reclaiming, placing, marking, renewing, account}
use Rattle.model.specs.History.{Entry}
use Rattle.model.specs.Command.{Command}

-- the words used after an accepted call, where n were used before: a word for each block that a W, E or T names (6.3), one for Y, and C says
-- how many there are
abbrev pub used_as : ℕ → Account → List ℕ → ℕ
used_as n (looking s cs res note) l = n
used_as n (opening cs a) l = n
used_as n (freeing cs a) l = n + length (blocks_in l)
used_as n (closing r) l = n
used_as n (removing r) l = n
used_as n (reclaiming k) l = n + length (blocks_in l)
used_as n (placing r x k) l = n + length (blocks_in l)
used_as n marking l = n + 1
used_as n renewing l = get_or l 0 0

abbrev pub used_then : ℕ → Command → Reply → ℕ
used_then n c (refused k) = n
used_then n c (accepted l) = used_as n (account c) l

-- the words used after some entries, where n were used before them
abbrev pub used_by : ℕ → List Entry → ℕ
used_by n [] = n
used_by n (e ∷ l) = used_by (used_then n e.call e.answer) l
