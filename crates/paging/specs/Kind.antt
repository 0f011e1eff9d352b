-- The kinds of a write and their numbers.
use Rattle.std.specs.Prelude.{◌≡◌, ℕ, ◌<◌, Result, MatchResult}
use Rattle.answer.specs.declared.Refusal.{Refusal}
use Rattle.answer.specs.declared.Refusal.TheVariants.{NoSuchKind}
use Rattle.paging.specs.declared.kind.Kind.{Kind}
use Rattle.paging.specs.declared.kind.Kind.TheVariants.{Data, Pivot, Leaf}

-- the number that a call says a kind by
abbrev pub kind_number : Kind → ℕ
kind_number Data = 0
kind_number Pivot = 1
kind_number Leaf = 2

-- the kind of this number, or the refusal of a number that no kind has
abbrev pub Decodes : ℕ → Result Kind Refusal → Type 0
Decodes k r = MatchResult r (λ kind. kind_number kind ≡ k) (λ e. (e ≡ NoSuchKind) × (2 < k))
