-- A free block goes on a page: what that asks, and the states that it leaves.
use Rattle.std.specs.Prelude.{◌≡◌, List, ℕ, ◌+◌, ◌*◌, ◌≤◌, ◌<◌, length, Option, Some, None}
use Rattle.geometry.specs.declared.Geometry.{Geometry}
use Rattle.geometry.specs.Limits.{blocks}
use Rattle.choice.specs.Search.{place_at}
use Rattle.choice.specs.declared.Place.{Place}
use Rattle.model.specs.State.{State, with_view, free_all}
use Rattle.model.specs.SoundStore.{MadeFor}
use Rattle.model.specs.Effects.{place, write}
use Rattle.model.specs.Calls.{given}
use Rattle.model.specs.Layout.{view_of, titles_of, state_of}
use Rattle.tables.specs.Ready.{Roomy, FreeWords}
use Rattle.paging.specs.Target.{frees_of}
use Rattle.paging.specs.declared.place.Spot.{Spot}

-- tables with room, made for g, that say which blocks are free, no deadlist longer than there are pages, no name longer than its row has room for, and
-- not more blocks that wait than there are: what single stores ask
pub record Storable (g : Geometry) (t : List ℕ) : Type 0 where
  pub roomy : Roomy g t
  pub made : MadeFor g t
  pub free : FreeWords g t
  pub short : (s : ℕ) → length ((view_of g t).list s) ≤ g.pages
  pub names : (i : ℕ) → length ((titles_of t).text i) ≤ 32
  pub few : length (state_of g t).waiting ≤ blocks g
  pub queued : length (state_of g t).queue.list ≤ blocks g

-- the block at offset o of arena a is free
pub record FreeAt (g : Geometry) (t : List ℕ) (a o : ℕ) : Type 0 where
  pub arena : a < g.arenas
  pub offset : o < g.per
  pub block : a * g.per + o < blocks g
  pub free : (view_of g t).birth (a * g.per + o) ≡ 0

-- the place that was found, with the birth that its block gets: the number of the record that is written
unfoldable pub spot_of : ℕ → Option Place → Option Spot
spot_of n (Some p) = Some (record { place = p; birth = n })
spot_of n None = None

-- the state T with block b on page x of the record in slot s
unfoldable pub placed : State → ℕ → ℕ → ℕ → State
placed T s x b = with_view T (place T.view s x b)

-- what t says, when the block at offset o of arena a was given to a write on page x of the record in slot s
unfoldable pub filled : Geometry → List ℕ → ℕ → ℕ → ℕ → ℕ → State
filled g t s x a o = given g (free_all (frees_of g t s x) (with_view (state_of g t) (write (state_of g t).view s x (a * g.per + o)))) (place_at a o)
