-- The arena that is found begins no later than the free block; those before it end no later.
use Rattle.std.proofs.Common.{◌+◌, ◌*◌, ◌<◌, ◌≤◌, lt_of_lt_of_le, rules}
use Rattle.std.proofs.lemmas.Iterator.{first_from_Range}
use Rattle.choice.specs.Words.{free_in}
use Rattle.choice.proofs.Passes.{begins_first, free_after}
use Rattle.choice.proofs.arena_after.Goals as goal

pub returns-clause-none : goal.returns-clause-none
returns-clause-none c =
    let s = c.args in
    let free = c.first_given-free.result in
    let found = free_after (free_in s.words.now) s.arenas s.per s.arena c.requires.1 c.requires.3 c.requires.0 c.first_given-free.ensures in
    let first = first_from_Range _ _ _ _ (λ i. free < i * s.per + s.per) (λ i. i * s.per + s.per ≤ free) c.find.ensures.ran
    (λ x q e. search rules) (λ x q e. (search rules, search rules)) in
    let low = begins_first s.arenas s.per s.arena free c.find.result c.requires.0 found.from first in
    λ b l u. found.none b l (lt_of_lt_of_le (rw c.unwrap_or.ensures at u) low)
