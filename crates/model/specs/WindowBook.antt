-- THE WINDOW IN THE PAGE BOOK, by the paper's loop: `trimmed` of the book takes out the same records (`book_loop`).
use Rattle.std.specs.Prelude.{cond, not, ◌&&◌, List, [], ◌∷◌, ℕ, zero, suc, eqb, ltb, length}
use Rattle.model.specs.Lists.{keep_if, on_first}
use Rattle.model.specs.Book.{Book, rec_out, sealed_with, may_leave}

-- while more than n sealed records are left and one of them may go (not the newest sealed one, and neither a fork nor a name is on it), the
-- oldest that may go is taken out of the book as it then is; k: so many turns at most
unfoldable pub out_loop : ℕ → Book → ℕ → ℕ → List ℕ
out_loop zero B n r = []
out_loop (suc k) B n r =
    cond (ltb n (length (sealed_with r B.lines)))
    (on_first (keep_if (λ m. not (eqb m r) && may_leave B m) (sealed_with r B.lines)) [] (λ m. m ∷ out_loop k (rec_out B m) n r))
    []
