-- The laws of names of the ledger alone: it answers as the model does. The statement is `LedgerNaming` in specs/LedgerNaming.antt.
use mathlib.Core.Path.{refl}
use mathlib.Core.List.{[], ◌∷◌}
use Rattle.geometry.specs.declared.Geometry.{Geometry}
use Rattle.geometry.specs.Limits.{Inside}
use Rattle.model.specs.State.{State, fresh}
use Rattle.model.specs.History.{state_from}
use Rattle.model.specs.NamingLaws.{NamingLaws}
use Rattle.model.specs.Model.{model_after, model}
use Rattle.model.proofs.Fine.{Fine}
use Rattle.model.proofs.StepFacts.{fresh_fine}
use Rattle.model.proofs.NamingFacts.{naming_laws}
use Rattle.model.proofs.NamingProof.{Alike, carried_naming}
use Rattle.ledger.specs.Ledger.{Ledger, step}
use Rattle.ledger.specs.Alone.{clerk}
use Rattle.ledger.specs.LedgerNaming.{LedgerNaming}
use Rattle.ledger.proofs.Tells.{Tells, fresh_tells}
use Rattle.ledger.proofs.ToldProof.{plain, plain_told}
use Rattle.ledger.proofs.AloneProof.{plains, beside}

module _ (g : Geometry) (inside : Inside g) where
  -- a ledger that tells a fine state answers as the model does on it
  abbrev alike : (L : Ledger) (T : State) → Fine g T → Tells g L T → Alike (clerk g) (model g) L T
  alike L T F t = record { looks = plain; call = λ c. refl; answer = λ c. plain_told g inside c L T F t }

  pub naming_told : (L : Ledger) (T : State) → Fine g T → Tells g L T → NamingLaws (clerk g) L
  naming_told L T F t =
      carried_naming (clerk g) (model g) L T (alike L T F t)
      (λ c. let (fine, tells, e) = beside g inside (c ∷ []) L T F t in alike (step g L c) (model_after g T (plain c)) fine tells)
      (naming_laws g inside T F)

pub ledger_naming : LedgerNaming
ledger_naming g inside before =
    let (fine, tells, same) = beside g inside before Rattle.ledger.specs.Ledger.fresh (fresh g) (fresh_fine g inside) (fresh_tells g inside) in
    naming_told g inside (state_from (clerk g) Rattle.ledger.specs.Ledger.fresh before) (state_from (model g) (fresh g) (plains before)) fine tells
