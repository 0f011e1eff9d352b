-- A birth stays as long as its block is held: an action changes it to 0, or gives a free block.
use mathlib.Core.Path.{◌≡◌, refl, ap, ◌∙◌}
use mathlib.Core.Logic.{◌⊎◌, inl, inr}
use Prim.Native.Nat.{ℕ, zero, suc, ◌<◌}
use native.Mathlib.Omega.{arith}
use Rattle.answer.proofs.Cases.{cases, same?}
use Rattle.model.specs.View.{View, pred_num, base_num}
use Rattle.model.specs.Effects.{Fate, freed, marked, kept, fate, grow, close, place, killed, erase_at, erase, write, begin, seal, fork}
use Rattle.model.specs.Actions.{Action, do_b, do_w, do_e, do_s, do_f, do_d, Asks, done, follower, delete_at, delete}
use Rattle.model.specs.Held.{deleted}
use Rattle.model.proofs.TabFacts.{put_at, put_other}
use Rattle.model.proofs.ListFacts.{in?, cleared_in, cleared_out}
use Rattle.model.proofs.HeldFacts.{deleted_births}
use Rattle.model.proofs.Moves.{erase_num}

killed_birth : (K : View) (r x b c : ℕ) (f : Fate) → 0 < (killed K r x b f).birth c → (killed K r x b f).birth c ≡ K.birth c
unfolding killed
killed_birth K r x b c freed h =
    cases (same? c b) (λ i. absurd (let z : ⊥ = omega (arith, put_at K.birth b 0 c i) in z)) (λ n. put_other K.birth b 0 c n)
killed_birth K r x b c marked h = refl
killed_birth K r x b c kept h = refl

erase_birth : (K : View) (r x l c : ℕ) → 0 < (erase_at K r x l).birth c → (erase_at K r x l).birth c ≡ K.birth c
unfolding erase_at
erase_birth K r x zero c h = refl
erase_birth K r x (suc b) c h = killed_birth K r x b c (fate (K.birth b) (pred_num K r) (base_num K r)) h

delete_birth : (K : View) (s l c : ℕ) → 0 < (delete_at K s l).birth c → (delete_at K s l).birth c ≡ K.birth c
delete_birth K s l c h =
    let e = deleted_births K s l c in
    cases (in? c (deleted K s l))
    (λ i. absurd (let z : ⊥ = omega (arith, cleared_in K.birth (deleted K s l) c i) in z))
    (λ n. e ∙ cleared_out K.birth (deleted K s l) c n)

-- the action gives c
abbrev pub Gives : Action → ℕ → Type 0
Gives do_b c = ⊥
Gives (do_w s x b) c = c ≡ b
Gives (do_e s x) c = ⊥
Gives (do_s s) c = ⊥
Gives (do_f s) c = ⊥
Gives (do_d s) c = ⊥

pub done_birth : (K : View) (a : Action) (c : ℕ) → 0 < (done K a).birth c → Gives a c ⊎ ((done K a).birth c ≡ K.birth c)
unfolding begin seal fork grow close delete write erase place
done_birth K do_b c h = inr refl
done_birth K (do_w s x b) c h =
    let f : ℕ → ℕ = (erase_at K s x (K.page s x)).birth in
    let v : ℕ = (erase_at K s x (K.page s x)).num s in
    cases (same? c b) (λ e. inl e) (λ n. let k = put_other f b v c n in inr (k ∙ erase_birth K s x (K.page s x) c (omega (arith, k))))
done_birth K (do_e s x) c h = inr (erase_birth K s x (K.page s x) c h)
done_birth K (do_s s) c h = inr refl
done_birth K (do_f s) c h = inr refl
done_birth K (do_d s) c h = inr (delete_birth K s (follower K s) c h)

-- what a W gives is born in its record
pub write_birth : (K : View) (s x b : ℕ) → (done K (do_w s x b)).birth b ≡ K.num s
unfolding write erase place
write_birth K s x b =
    put_at (erase_at K s x (K.page s x)).birth b ((erase_at K s x (K.page s x)).num s) b refl ∙ erase_num K s x (K.page s x) s

-- it was free
gives_free : (K : View) (a : Action) → Asks K a → (c : ℕ) → Gives a c → K.birth c ≡ 0
gives_free K do_b q c g = absurd g
gives_free K (do_w s x b) q c g = ap K.birth g ∙ q.4
gives_free K (do_e s x) q c g = absurd g
gives_free K (do_s s) q c g = absurd g
gives_free K (do_f s) q c g = absurd g
gives_free K (do_d s) q c g = absurd g

-- what was held and is held has its birth
pub held_birth : (K : View) (a : Action) → Asks K a → (c : ℕ) → 0 < K.birth c → 0 < (done K a).birth c → (done K a).birth c ≡ K.birth c
held_birth K a q c h k = cases (done_birth K a c k) (λ g. absurd (let z : ⊥ = omega (arith, gives_free K a q c g) in z)) (λ e. e)
