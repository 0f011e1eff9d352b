-- What a search answers as the link that the layout would store for it.
use Rattle.std.specs.Prelude.{ℕ, ◌+◌, Option, Some, None}

-- the link that leads to an index, 0 for none
abbrev pub link_of : Option ℕ → ℕ
link_of None = 0
link_of (Some i) = i + 1
