-- What each stage of a deletion makes of the state and the tables.
use Rattle.std.specs.Prelude.{List, [], ◌∷◌, ℕ, zero, suc, ltb, leb}
use Rattle.model.specs.Lists.{keep_if}
use Rattle.model.specs.View.{View}
use Rattle.model.specs.Queue.{enqueued}
use Rattle.model.specs.State.{State, with_view, with_queue}
use Rattle.model.specs.Effects.{joined}
use Rattle.model.specs.Actions.{delete_at}
use Rattle.model.specs.Held.{deleted}
use Rattle.tables.specs.Puts.{with_prev, with_list}
use Rattle.tables.specs.Births.{queued}

-- the blocks of a deadlist that were born above p, and the others, each in order
abbrev pub younger : View → ℕ → List ℕ → List ℕ
younger K p l = keep_if (λ b. ltb p (K.birth b)) l

abbrev pub others : View → ℕ → List ℕ → List ℕ
others K p l = keep_if (λ b. leb (K.birth b) p) l

-- s, which n follows, is taken out of its line: its deadlist joins that of n, what is to be queued leaves it, and n's link is that of s.
-- The births of the blocks that leave it, the deadlist of s and its number stay.
unfoldable pub bypassed : State → ℕ → ℕ → State
bypassed T s n = with_prev (with_list T n (joined T.view s n)) n (T.view.prev s)

-- the same by the link of the record that follows: where none does, nothing is to be done
unfoldable pub unhooked : State → ℕ → ℕ → State
unhooked T s zero = T
unhooked T s (suc n) = bypassed T s n

-- the blocks of a list are queued one after another, in tables of R slots and N blocks
unfoldable pub queued_all : ℕ → ℕ → List ℕ → List ℕ → List ℕ
queued_all R N t [] = t
queued_all R N t (b ∷ l) = queued_all R N (queued R N t b) l

-- the record in slot s leaves the store, and the blocks that only it had are queued; the last argument is the link of the record that follows
unfoldable pub removed : State → ℕ → ℕ → State
removed T s link = with_queue (with_view T (delete_at T.view s link)) (enqueued T.queue T.view.birth (deleted T.view s link))
