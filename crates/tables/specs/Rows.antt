-- Where two rows of numbers differ, place by place.
use Rattle.std.specs.Prelude.{Bool, not, List, ℕ, ◌+◌, eqb, get_or}
use Rattle.model.specs.View.{View, page_of}

-- place k of the rows from a and from b on differs; place k of the row from a on is not 0
unfoldable pub apart : List ℕ → ℕ → ℕ → ℕ → Bool
apart t a b k = not (eqb (get_or t (a + k) 0) (get_or t (b + k) 0))

unfoldable pub filled : List ℕ → ℕ → ℕ → Bool
filled t a k = not (eqb (get_or t (a + k) 0) 0)

-- page x of the record in slot s is not as that of the record behind a link
unfoldable pub differs : View → ℕ → ℕ → ℕ → Bool
differs K s l x = not (eqb (K.page s x) (page_of K l x))
