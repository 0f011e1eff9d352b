-- What an S answers and leaves that none of 8, 9, 11 and 12 refuses: s is the slot of its record, f the new one's, w the line's window (0: it has none).
use Rattle.std.specs.Prelude.{◌≡◌, List, [], ◌∷◌, ℕ, suc, pred, ◌<◌}
use Rattle.std.proofs.lemmas.List.Edits.{sets}
use Rattle.answer.specs.Reply.{Reply, accepted}
use Rattle.geometry.specs.declared.Geometry.{Geometry}
use Rattle.model.specs.State.{State, with_notes, passed_notes}
use Rattle.model.specs.Actions.{do_s, Asks, vacant}
use Rattle.model.specs.Window.{trimming, sealing, queueing}
use Rattle.model.specs.Calls.{acted}
use Rattle.model.specs.Layout.{view_of, state_of, stored}
use Rattle.model.specs.Memory.{stored_along}

-- s, f and w are these, and the record in slot s is open
pub record Closes (g : Geometry) (t : List ℕ) (s f w : ℕ) : Type 0 where
  pub asks : Asks (view_of g t) (do_s s)
  pub last : (view_of g t).last < 999999
  pub empty : f ≡ pred (vacant (view_of g t))
  pub window : w ≡ (state_of g t).notes.window s

-- the state between the seal and the deletes, and the one that is left
abbrev pub sealed_as : State → ℕ → ℕ → State
sealed_as T s f = with_notes (acted T (do_s s) 0) (passed_notes T.notes s f)

unfoldable pub closed_state : State → ℕ → ℕ → ℕ → State
closed_state T s f w = with_notes (queueing T (sealing T.view T.notes.names w s)) (passed_notes T.notes s f)

-- ── on the tables t ──

-- with the seal stored in them, then each delete
unfoldable pub deleted_tables : Geometry → List ℕ → ℕ → ℕ → ℕ → List ℕ
deleted_tables g t s f w =
    let U = sealed_as (state_of g t) s f in stored_along g U (trimming U.view (state_of g t).notes.names w s) (stored g U t)

-- the number of the result is that of the new record
unfoldable pub closed_reply : Geometry → List ℕ → Reply
closed_reply g t = accepted (suc (view_of g t).last ∷ [])

unfoldable pub closed_tables : Geometry → List ℕ → ℕ → ℕ → ℕ → List ℕ
closed_tables g t s f w = stored g (closed_state (state_of g t) s f w) (deleted_tables g t s f w)

unfoldable pub closed_out : Geometry → List ℕ → List ℕ → List ℕ
closed_out g t out = sets out 0 (suc (view_of g t).last ∷ [])
