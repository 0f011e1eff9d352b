-- What holds of any lent memory. The statements are in specs/AnyMemory.antt.
use mathlib.Core.Path.{◌≡◌, ap, ◌∙◌, subst}
use Rattle.answer.specs.Reply.{refused}
use Rattle.geometry.specs.declared.Geometry.{Geometry}
use Rattle.geometry.specs.Limits.{Inside}
use Rattle.model.specs.State.{State}
use Rattle.model.specs.Calls.{logged}
use Rattle.model.specs.Layout.{state_of}
use Rattle.model.specs.History.{Machine}
use Rattle.model.specs.Simulation.{Simulation}
use Rattle.model.specs.Demand.{met_by, machine, with_out, own_store}
use Rattle.model.specs.AnyMemory.{FreshSound, KeepsSound, RoomAfter, Room}
use Rattle.model.specs.Model.{answer, model}
use Rattle.model.proofs.Fine.{Fine}
use Rattle.model.proofs.RoomAfterC.{not_fourteen, after_C}
use Rattle.model.proofs.Keeps.{accepted_is, sound_fine, calls_keep_sound, fresh_is_sound}
use Rattle.model.proofs.Demands.{simulation}
use Rattle.model.proofs.Demands.{own_simulation}

pub fresh_sound : FreshSound
fresh_sound = fresh_is_sound

pub keeps_sound : KeepsSound
keeps_sound = calls_keep_sound

room_model : (g : Geometry) → Inside g → (T : State) → Fine g T → RoomAfter (model g) T
unfolding logged
room_model g inside T F c i l e a r = not_fourteen g inside T F i (subst (λ Z. answer g Z i ≡ refused 14) (after_C g T c l e a) r)

-- a machine that does what another does
room_back : (M O : Machine) (Z : Simulation M O) (U : M.Tables) → Z.Fits U → RoomAfter O (Z.shows U) → RoomAfter M U
room_back M O Z U h R c i l e a r =
    R (Z.looks U c) (Z.looks (M.after U c) i) l (Z.call U c ∙ e) (Z.answer U c h ∙ a)
    (ap (λ W. O.answer W (Z.looks (M.after U c) i)) (Z.after U c h) ∙ Z.answer (M.after U c) i (Z.fits U c h) ∙ r)

pub room : Room
unfolding simulation own_simulation
room g = (
  λ t c i l e a.
      let A = (accepted_is g (met_by t c) c.call l a).0 in
      room_back (machine g) (model g) (simulation g) t tt (room_model g A.inside (state_of g t) (sound_fine g t c.log A.sound)) c i l e a,
  λ M c i l e a.
      let A = (accepted_is g (with_out M c.out) c.call l a).0 in
      room_back (own_store g) (model g) (own_simulation g) M tt
      (room_model g A.inside (state_of g M.tables) (sound_fine g M.tables M.log A.sound)) c i l e a,
)
