-- WHAT THE LEDGER SAYS IS WHAT THE STORE DOES, and which refusals it never gives.
use mathlib.Core.Path.{◌≡◌, sym, ◌∙◌}
use mathlib.Core.Logic.{◌↔◌}
use mathlib.Core.List.{List, []}
use Prim.Native.Nat.{ℕ, ◌+◌, ◌*◌, ◌<◌}
use native.Mathlib.Omega.{arith}
use lib.ListN.{length}
use borrow.Author.Tests.{ltb-true, lt-ltb}
use Rattle.answer.specs.Reply.{accepted, refused}
use Rattle.answer.specs.Refusal.{Ordered}
use Rattle.answer.proofs.Cases.{cases, either}
use Rattle.answer.proofs.Decided.{refused_same, none_in, decide_refused}
use Rattle.geometry.specs.declared.Geometry.{Geometry}
use Rattle.geometry.specs.Limits.{blocks}
use Rattle.model.specs.Memory.{Memory, reply, make_reply, make_after}
use Rattle.model.specs.Demand.{Own, with_out, run}
use Rattle.model.specs.Command.{Command}
use Rattle.ledger.specs.Ledger.{Ledger, refusals_of, says}
use Rattle.ledger.specs.Told.{too_short, says_to, steps_to, LedgerSays}
use Rattle.ledger.proofs.EachTold.{told}
use Rattle.ledger.proofs.StoreToldProof.{store_told}
use Rattle.ledger.proofs.OwnToldProof.{own_store_told}

-- WHAT THE LEDGER SAYS IS WHAT THE STORE DOES
pub ledger_says : LedgerSays
ledger_says = record { lent = store_told; own = own_store_told }

-- all that the ledger refuses for comes behind 4 in the order of the refusals
pub refusals_ordered : (g : Geometry) (L : Ledger) (c : Command) → Ordered 4 (refusals_of g L c)
refusals_ordered g L c = (told c).ordered g L

-- THE LEDGER NEVER SAYS 3 OR 4
pub never_3_4 : (g : Geometry) (L : Ledger) (c : Command) → (says g L c ≡ refused 3 → ⊥) × (says g L c ≡ refused 4 → ⊥)
unfolding says
never_3_4 g L c = (
  λ e. none_in 4 3 (omega arith) (refusals_of g L c) (refusals_ordered g L c) (decide_refused (refusals_of g L c) _ 4 3 (refusals_ordered g L c) e).0,
  λ e. none_in 4 4 (omega arith) (refusals_of g L c) (refusals_ordered g L c) (decide_refused (refusals_of g L c) _ 4 4 (refusals_ordered g L c) e).0,
)

-- so a call is told 3 exactly where its result buffer is too short, and never 4
pub three_to : (g : Geometry) (L : Ledger) (a : Own) → (says_to g L a ≡ refused 3) ↔ (length a.out < 2 * blocks g + 64)
unfolding says_to
three_to g L a = (
  λ e. cases (either (too_short g a)) (λ y. ltb-true _ _ y) (λ n. absurd ((never_3_4 g L a.call).0 (rw n at e))),
  λ h. rw (lt-ltb (length a.out) (2 * blocks g + 64) h),
)

four_to : (g : Geometry) (L : Ledger) (a : Own) → says_to g L a ≡ refused 4 → ⊥
unfolding says_to
four_to g L a e =
    cases (either (too_short g a))
    (λ y. let z : ◌≡◌ {A = ℕ} 3 4 = refused_same (rw y at e) in omega (arith, z))
    (λ n. (never_3_4 g L a.call).1 (rw n at e))

-- NO REPLY OF THE STORE ON ITS OWN LOG IS 4, and 3 is said of a short result buffer alone
pub own_never_4 : (g : Geometry) (M : Memory) → make_reply g M ≡ accepted [] → (before : List Own) (a : Own) →
    reply g (with_out (run g (make_after g M) before) a.out) a.call ≡ refused 4 → ⊥
own_never_4 g M e before a r =
    four_to g (steps_to g Rattle.ledger.specs.Ledger.fresh before) a (sym ((own_store_told g M e before).says a) ∙ r)

pub own_three : (g : Geometry) (M : Memory) → make_reply g M ≡ accepted [] → (before : List Own) (a : Own) →
    (reply g (with_out (run g (make_after g M) before) a.out) a.call ≡ refused 3) ↔ (length a.out < 2 * blocks g + 64)
own_three g M e before a =
    let s = (own_store_told g M e before).says a in
    let w = three_to g (steps_to g Rattle.ledger.specs.Ledger.fresh before) a in
    (λ r. w.0 (sym s ∙ r), λ h. s ∙ w.1 h)
