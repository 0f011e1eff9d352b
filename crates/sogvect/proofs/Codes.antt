-- The code 0 means that the call was done, and nothing else does: no refusal has the number 0.
use mathlib.Core.Path.{◌≡◌, refl, sym, ap, ◌∙◌}
use mathlib.Core.Logic.{◌↔◌}
use mathlib.Core.Bool.{Bool, not}
use mathlib.Core.List.{List, [], ◌∷◌}
use mathlib.Core.Option.{Option, none, some}
use Prim.Native.Nat.{ℕ}
use lib.ListN.{length}
use native.Mathlib.Omega.{arith}
use Rattle.answer.specs.Reply.{Reply, accepted, refused}
use Rattle.answer.specs.Refusal.{Condition, decide, place, Ordered}
use Rattle.answer.proofs.Decided.{decide_accepted, decide_refused, none_in}
use Rattle.geometry.specs.declared.Geometry.{Geometry}
use Rattle.geometry.specs.Limits.{fits}
use Rattle.alloc_log.specs.Settled.{settled}
use Rattle.alloc_log.specs.Tool.{held_at_end, every_conditions, every_reply, read_reply, compact_words, compact_reply, compact_conditions}
use Rattle.alloc_log.specs.Tool.{judged, alike?, verdict_by, compare_conditions, compare_verdict}
use Rattle.model.specs.declared.Call.{Call}
use Rattle.model.specs.Command.{Command, command}
use Rattle.model.specs.Calls.{result}
use Rattle.model.specs.Layout.{state_of}
use Rattle.model.specs.Memory.{Memory, short?, all_conditions, reply, make_reply}
use Rattle.model.proofs.Demands.{all_ordered}
use Rattle.serving.specs.Host.{Lent, host_conditions, host_part, host_reply}
use Rattle.sogvect.specs.Coded.{code_of, asked_reply, verdict_code}

module _ (cs : List Condition) (l : List ℕ) (ordered : Ordered 1 cs) where
  done : (R : Reply) → decide cs l ≡ R → code_of R ≡ 0 → decide cs l ≡ accepted l
  unfolding code_of
  done (accepted m) e z = e ∙ ap accepted (sym (decide_accepted cs l m e).1)
  done (refused n) e z = absurd (none_in 1 n (omega (arith, ap place z)) cs ordered (decide_refused cs l 1 n ordered e).0)

  coded_0 : decide cs l ≡ accepted l → code_of (decide cs l) ≡ 0
  unfolding code_of
  coded_0 e = ap code_of e

  pub code_0_iff : (code_of (decide cs l) ≡ 0) ↔ (decide cs l ≡ accepted l)
  code_0_iff = (done (decide cs l) refl, coded_0)

-- every call
pub done_iff : (g : Geometry) (M : Memory) (c : Command) → (code_of (reply g M c) ≡ 0) ↔ (reply g M c ≡ accepted (result g (state_of g M.tables) c))
unfolding reply
done_iff g M c = code_0_iff (all_conditions g M c) (result g (state_of g M.tables) c) (all_ordered g M c)

refused_not_1 : (g : Geometry) (M : Memory) (c : Command) (n : ℕ) → n ≡ 1 → reply g M c ≡ refused n → ⊥
unfolding reply
refused_not_1 g M c n z e =
    let cs = all_conditions g M c in
    let holds = (decide_refused cs (result g (state_of g M.tables) c) 1 n (all_ordered g M c) e).0 in
    none_in 1 n (omega (arith, ap place z)) cs (all_ordered g M c) holds

asks_something : {c : Call} → some c ≡ none → ⊥
asks_something e = let z : ◌≡◌ {A = ℕ} 0 1 = cc in omega arith

-- what is asked: the code 1 means that it is no call, and nothing else does
pub no_call_iff : (g : Geometry) (M : Memory) (k : Option Call) → (code_of (asked_reply g M k) ≡ 1) ↔ (k ≡ none)
unfolding asked_reply code_of
no_call_iff g M (some c) = (λ e. absurd (never (reply g M (command c)) refl e), λ e. absurd (asks_something e))
  where
    never : (R : Reply) → reply g M (command c) ≡ R → code_of R ≡ 1 → ⊥
    never (accepted l) e z = omega (arith, z)
    never (refused n) e z = refused_not_1 g M (command c) n z e
no_call_iff g M none = (λ e. refl, λ e. refl)

-- a making
pub make_iff : (g : Geometry) (M : Memory) → (code_of (make_reply g M) ≡ 0) ↔ (make_reply g M ≡ accepted [])
unfolding make_reply
make_iff g M = code_0_iff ((2, not (fits g)) ∷ (3, short? g M) ∷ []) [] (omega arith, (omega arith, tt))

-- a part of a script
pub script_iff : (text : List ℕ) (at : ℕ) (H : Lent) → (code_of (host_reply text at H) ≡ 0) ↔ (host_reply text at H ≡ accepted ((host_part text at H).at ∷
    length (host_part text at H).replies ∷ []))
unfolding host_reply host_conditions
script_iff text at H =
    code_0_iff (host_conditions H) ((host_part text at H).at ∷ length (host_part text at H).replies ∷ []) (omega arith, (omega arith, (omega arith, tt)))

-- the log tools
module _ (g : Geometry) (log : List ℕ) where
  pub read_iff : (out : List ℕ) → (code_of (read_reply g log out) ≡ 0) ↔ (read_reply g log out ≡ accepted (held_at_end g (settled log)))
  unfolding read_reply every_reply
  read_iff out = code_0_iff (every_conditions g (settled log) out) (held_at_end g (settled log)) (omega arith, (omega arith, (omega arith, tt)))

  pub compact_iff : (out : List ℕ) → (code_of (compact_reply g log out) ≡ 0) ↔ (compact_reply g log out ≡ accepted (length (compact_words g log) ∷ []))
  unfolding compact_reply
  compact_iff out = code_0_iff (compact_conditions g log out) (length (compact_words g log) ∷ []) (omega arith, (omega arith, (omega arith, tt)))

  same_code : (R : Reply) (t : Bool) → verdict_code (verdict_by R t) ≡ code_of R
  unfolding verdict_code code_of
  same_code (accepted l) t = refl
  same_code (refused n) t = refl

  pub compare_iff : (other : List ℕ) → (verdict_code (compare_verdict g log other) ≡ 0) ↔ (compare_verdict g log other ≡ judged (alike? g log other))
  unfolding compare_verdict verdict_code code_of
  compare_iff other = (forth, back)
    where
      R : Reply
      R = decide (compare_conditions g log other) []

      forth : verdict_code (verdict_by R (alike? g log other)) ≡ 0 → verdict_by R (alike? g log other) ≡ judged (alike? g log other)
      forth z =
          ap (λ r. verdict_by r (alike? g log other))
          ((code_0_iff (compare_conditions g log other) [] (omega arith, (omega arith, tt))).0 (sym (same_code R (alike? g log other)) ∙ z))

      back : verdict_by R (alike? g log other) ≡ judged (alike? g log other) → verdict_code (verdict_by R (alike? g log other)) ≡ 0
      back e = ap verdict_code e
