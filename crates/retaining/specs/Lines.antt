-- The sealed records of a line, as a buffer has them.
use Rattle.std.specs.Prelude.{◌≡◌, List, [], ◌∷◌, ℕ, zero, suc, ◌≤◌, ◌<◌, get_or}
use Rattle.model.specs.View.{View}
use Rattle.model.specs.Window.{sealed_of}

-- the first n numbers of a buffer, from the last of them on
unfoldable pub backwards : List ℕ → ℕ → List ℕ
backwards line zero = []
backwards line (suc n) = get_or line n 0 ∷ backwards line n

-- the first n numbers of `line` are the slots of the records of a line up to the one in slot r, newest first
pub record Lined (K : View) (r : ℕ) (line : List ℕ) (n : ℕ) : Type 0 where
  pub live : 0 < K.num r
  pub few : n ≤ 64
  pub slots : backwards line n ≡ sealed_of K r
