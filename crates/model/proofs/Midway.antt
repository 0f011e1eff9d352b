-- The tables in which a call stores what it leaves: as long as those that were lent, and the same beyond what the geometry needs.
use mathlib.Core.Path.{◌≡◌, refl, ◌∙◌}
use mathlib.Core.List.{List, [], ◌∷◌}
use Prim.Native.Nat.{ℕ, ◌≤◌}
use lib.ListN.{length, get_or}
use Rattle.geometry.specs.declared.Geometry.{Geometry}
use Rattle.model.specs.Actions.{Action}
use Rattle.model.specs.State.{State}
use Rattle.model.specs.Window.{trimming, queueing}
use Rattle.model.specs.Calls.{Account, looking, opening, freeing, closing, removing, reclaiming, placing, marking, renewing, account, slot, window_of}
use Rattle.model.specs.Calls.{effect}
use Rattle.model.specs.Layout.{need, state_of, stored}
use Rattle.model.specs.Memory.{sealed_state, stored_along, midway, stored_by}
use Rattle.model.specs.Command.{Command}
use Rattle.model.proofs.LayoutFacts.{stored_length, stored_beyond}

pub along_length : (g : Geometry) (T : State) (l : List Action) (t : List ℕ) → length (stored_along g T l t) ≡ length t
unfolding stored_along
along_length g T [] t = refl
along_length g T (a ∷ l) t =
    let U : State = queueing T (a ∷ []) in along_length g U l (stored g U t) ∙ stored_length g U t

pub along_beyond : (g : Geometry) (T : State) (l : List Action) (t : List ℕ) (i : ℕ) → need g ≤ i → get_or (stored_along g T l t) i 0 ≡ get_or t i 0
unfolding stored_along
along_beyond g T [] t i h = refl
along_beyond g T (a ∷ l) t i h =
    let U : State = queueing T (a ∷ []) in along_beyond g U l (stored g U t) i h ∙ stored_beyond g U t i h

pub midway_length : (g : Geometry) (T : State) (A : Account) (t : List ℕ) → length (midway g T A t) ≡ length t
midway_length g T (looking s cs res note) t = refl
midway_length g T (opening cs a) t = refl
midway_length g T (freeing cs a) t = refl
midway_length g T (closing r) t =
    let U = sealed_state T r in
    along_length g U (trimming U.view T.notes.names (window_of T r) (slot T r)) (stored g U t) ∙ stored_length g U t
midway_length g T (removing r) t = refl
midway_length g T (reclaiming k) t = refl
midway_length g T (placing r x k) t = refl
midway_length g T marking t = refl
midway_length g T renewing t = refl

pub midway_beyond : (g : Geometry) (T : State) (A : Account) (t : List ℕ) (i : ℕ) → need g ≤ i → get_or (midway g T A t) i 0 ≡ get_or t i 0
midway_beyond g T (looking s cs res note) t i h = refl
midway_beyond g T (opening cs a) t i h = refl
midway_beyond g T (freeing cs a) t i h = refl
midway_beyond g T (closing r) t i h =
    let U = sealed_state T r in
    along_beyond g U (trimming U.view T.notes.names (window_of T r) (slot T r)) (stored g U t) i h ∙ stored_beyond g U t i h
midway_beyond g T (removing r) t i h = refl
midway_beyond g T (reclaiming k) t i h = refl
midway_beyond g T (placing r x k) t i h = refl
midway_beyond g T marking t i h = refl
midway_beyond g T renewing t i h = refl

-- the same of the tables that the call leaves
pub by_length : (g : Geometry) (t : List ℕ) (c : Command) → length (stored_by g t c) ≡ length t
by_length g t c = stored_length g (effect g (state_of g t) c) (midway g (state_of g t) (account c) t) ∙ midway_length g (state_of g t) (account c) t

pub by_beyond : (g : Geometry) (t : List ℕ) (c : Command) (i : ℕ) → need g ≤ i → get_or (stored_by g t c) i 0 ≡ get_or t i 0
by_beyond g t c i h =
    stored_beyond g (effect g (state_of g t) c) (midway g (state_of g t) (account c) t) i h ∙ midway_beyond g (state_of g t) (account c) t i h
