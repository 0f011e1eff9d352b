-- THE QUEUE FLOWS. The statement is `QueueFlows` in specs/Demand.antt.
use mathlib.Core.Path.{◌≡◌, refl, sym, ap, ◌∙◌, subst}
use mathlib.Core.List.{List, [], ◌∷◌, ◌++◌, append_assoc, append-nil}
use Prim.Native.Nat.{ℕ}
use lib.ListN.{drop, take-append-drop}
use Rattle.answer.specs.Reply.{Reply, accepted, refused}
use Rattle.geometry.specs.declared.Geometry.{Geometry}
use Rattle.model.specs.State.{State}
use Rattle.model.specs.Window.{frees_along, queueing}
use Rattle.model.specs.Calls.{Account, looking, opening, freeing, closing, removing, reclaiming, placing, marking, renewing, account, result_by, left_by}
use Rattle.model.specs.Calls.{deleting, queued_closing, first_queued, reclaimed, acted, given, logged}
use Rattle.model.specs.Layout.{state_of}
use Rattle.model.specs.Memory.{Memory, reply, after}
use Rattle.model.specs.History.{state_from, history_from}
use Rattle.model.specs.Demand.{Request, met_by, machine, turn_blocks_by, turn_blocks_of, turn_blocks, QueueFlows}
use Rattle.model.proofs.ResultFacts.{blocks_in_paired}
use Rattle.model.proofs.Keeps.{accepted_is, accepted_state}
use Rattle.model.proofs.Along.{refused_tables}

-- from the queue Q to the queue R, where the blocks l leave: they are the first, and what joins stands at the end
abbrev Flow : List ℕ → List ℕ → List ℕ → Type 0
Flow l Q R = (joined : List ℕ) × (l ++ R ≡ Q ++ joined)

-- nothing leaves and nothing joins
rests : (Q : List ℕ) → Flow [] Q Q
rests Q = ([], sym (append-nil Q))

-- one call after another
flow_on : (l m Q R X : List ℕ) → Flow l Q R → Flow m R X → Flow (l ++ m) Q X
flow_on l m Q R X (i, e) (j, f) = (
  i ++ j,
  append_assoc l m X ∙ ap (λ (k : List ℕ). l ++ k) f ∙ sym (append_assoc l R j) ∙ ap (λ (k : List ℕ). k ++ j) e ∙ append_assoc Q i j,
)

-- an accepted call, by its kind: D and S put blocks at the end, T takes the first, and the others leave the queue as it is
flow_by : (g : Geometry) (T : State) (A : Account) → Flow (turn_blocks_by A (result_by g T A)) T.queue.list (left_by g T A).queue.list
unfolding acted queueing reclaimed given logged
flow_by g T (looking s cs res note) = rests T.queue.list
flow_by g T (opening cs a) = rests T.queue.list
flow_by g T (freeing cs a) = rests T.queue.list
flow_by g T (closing r) = (queued_closing T r, refl)
flow_by g T (removing r) = (frees_along T.view (deleting T r ∷ []), refl)
flow_by g T (reclaiming k) = (
  [],
  ap (λ (l : List ℕ). l ++ drop k T.queue.list) (blocks_in_paired T.queue.birth (first_queued T k)) ∙
      take-append-drop k T.queue.list ∙ sym (append-nil T.queue.list),
)
flow_by g T (placing r x k) = rests T.queue.list
flow_by g T marking = rests T.queue.list
flow_by g T renewing = rests T.queue.list

-- the queue in the tables
abbrev queue_in : Geometry → List ℕ → List ℕ
queue_in g t = (state_of g t).queue.list

-- any call; a refused one leaves the queue as it is
call_flows : (g : Geometry) (t : List ℕ) (i : Request) →
    Flow (turn_blocks_of i.call (reply g (met_by t i) i.call)) (queue_in g t) (queue_in g (after g (met_by t i) i.call).tables)
call_flows g t i = go (reply g (met_by t i) i.call) refl
  where
    M : Memory
    M = met_by t i

    go : (r : Reply) → reply g (met_by t i) i.call ≡ r →
        Flow (turn_blocks_of i.call r) (queue_in g t) (queue_in g (after g (met_by t i) i.call).tables)
    go (refused n) e = subst (λ u. Flow [] (queue_in g t) (queue_in g u)) (sym (refused_tables g M i.call n e)) (rests (queue_in g t))
    go (accepted l) e =
        subst (λ (U : State). Flow (turn_blocks_by (account i.call) l) (queue_in g t) U.queue.list) (sym (accepted_state g M i.call l e))
        (subst (λ m. Flow (turn_blocks_by (account i.call) m) (queue_in g t) (left_by g (state_of g t) (account i.call)).queue.list)
        (accepted_is g M i.call l e).1 (flow_by g (state_of g t) (account i.call)))

-- THE QUEUE FLOWS
pub queue_flows : QueueFlows
queue_flows g t [] = rests (queue_in g t)
queue_flows g t (i ∷ more) =
    let u : List ℕ = (after g (met_by t i) i.call).tables in
    flow_on (turn_blocks_of i.call (reply g (met_by t i) i.call)) (turn_blocks (history_from (machine g) u more)) (queue_in g t) (queue_in g u)
    (queue_in g (state_from (machine g) u more)) (call_flows g t i) (queue_flows g u more)
