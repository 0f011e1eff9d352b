-- One line: the session answers it as the transcript says, and stands then as the transcript does.
use mathlib.Core.Path.{◌≡◌, refl, ap, ◌∙◌}
use mathlib.Core.Bool.{cond}
use mathlib.Core.List.{[]}
use Prim.Native.Nat.{ℕ, ◌<◌}
use native.Mathlib.Omega.{arith}
use borrow.Author.Tests.{eq-eqb, ne_eqb}
use lib.Dec.{eqb}
use Rattle.answer.specs.Reply.{Reply, accepted, refused}
use Rattle.answer.specs.Refusal.{leaves}
use Rattle.answer.proofs.Cases.{cases, either}
use Rattle.geometry.specs.declared.Geometry.{Geometry}
use Rattle.geometry.specs.Limits.{Inside, fits}
use Rattle.geometry.proofs.Made.{fits_inside}
use Rattle.model.specs.Layout.{made}
use Rattle.model.specs.Memory.{Memory, after, make_reply, make_after}
use Rattle.model.specs.Command.{Command}
use Rattle.model.proofs.Keeps.{Long}
use Rattle.model.proofs.Replies.{not_short}
use Rattle.store.proofs.Lengths.{tables_length, log_length, out_length, make_length}
use Rattle.script.specs.Spoken.{Spoken, makes, asks, nothing}
use Rattle.session.specs.declared.Session.{Session}
use Rattle.session.specs.Step.{step_reply, step_memory, step_session, started_by}
use Rattle.ledger.specs.Ledger.{Ledger, fresh, step}
use Rattle.ledger.specs.Transcript.{Runner, without_store, with_store, asked, line_says, line_leaves}
use Rattle.ledger.proofs.OwnToldProof.{Owned, own_says, own_step, fresh_owned}
use Rattle.serving.specs.Transcribed.{Ample}

-- a store of these six numbers, in memory that stands as its ledger says
pub record Holding (g : Geometry) (L : Ledger) (s : Session) (M : Memory) : Type 0 where
  pub made : 0 < s.made
  pub same : s.g ≡ g
  pub inside : Inside g
  pub owned : Owned g M L

-- what the transcript has between two lines is what the session has then
abbrev pub Stands : Runner → Session → Memory → Type 0
Stands without_store s M = s.made ≡ 0
Stands (with_store g L) s M = Holding g L s M

pub ample_long : (g : Geometry) (M : Memory) → Inside g → Ample M → Long g M
ample_long g M i a = record {
  tables = omega (arith, a.tables, i.records_most, i.blocks_most);
  log = omega (arith, a.log, i.words_most);
  out = omega (arith, a.out, i.blocks_most);
}

-- ── a store line ──

made_says : (g : Geometry) (M : Memory) → Ample M → make_reply g M ≡ cond (fits g) (accepted []) (refused 2)
unfolding make_reply
made_says g M a = cases (either (fits g)) (λ y. rw (y, not_short g M (ample_long g M (fits_inside g y) a))) (λ n. rw n)

made_leaves : (g : Geometry) (M : Memory) (k : ℕ) → make_reply g M ≡ refused k → make_after g M ≡ M
unfolding make_after
made_leaves g M k e = ap (λ (r : Reply). record { tables = leaves r M.tables (made g M.tables); log = M.log; out = M.out }) e

made_stands : (R : Runner) (g : Geometry) (s : Session) (M : Memory) → Ample M → Stands R s M →
    Stands (cond (fits g) (with_store g fresh) R) (started_by (make_reply g M) s g) (make_after g M)
made_stands R g s M a h =
    cases (either (fits g))
    (λ y.
    let e : make_reply g M ≡ accepted [] = made_says g M a ∙ ap (λ t. cond t (accepted []) (refused 2)) y in
    let H : Holding g fresh (record { made = 1; g = g }) (make_after g M) =
    record { made = omega arith; same = refl; inside = fits_inside g y; owned = fresh_owned g M e } in
    rw (y, e) H)
    (λ n.
    let e : make_reply g M ≡ refused 2 = made_says g M a ∙ ap (λ t. cond t (accepted []) (refused 2)) n in
    rw (n, made_leaves g M 2 e, e) h)

-- ── any line ──

pub line_says_lem : (R : Runner) (p : Spoken) (s : Session) (M : Memory) → Ample M → Stands R s M → step_reply s M p ≡ line_says R p
unfolding step_reply line_says
line_says_lem R nothing s M a h = refl
line_says_lem R (makes x) s M a h = made_says (asked x) M a
line_says_lem without_store (asks c) s M a h = rw (eq-eqb s.made 0 h)
line_says_lem (with_store g L) (asks c) s M a h =
    rw (ne_eqb s.made 0 (λ e. omega (arith, h.made)), h.same)
    (own_says g h.inside M L h.owned M.out (ample_long g M h.inside a).out c)

pub line_stands : (R : Runner) (p : Spoken) (s : Session) (M : Memory) → Ample M → Stands R s M →
    Stands (line_leaves R p) (step_session s M p) (step_memory s M p)
unfolding line_leaves step_session step_memory
line_stands R nothing s M a h = h
line_stands R (makes x) s M a h = made_stands R (asked x) s M a h
line_stands without_store (asks c) s M a h = h
line_stands (with_store g L) (asks c) s M a h =
    let O : Owned g (after s.g M c) (step g L c) =
    rw h.same (own_step g h.inside M L h.owned M.out (ample_long g M h.inside a).out c) in
    record { made = h.made; same = h.same; inside = h.inside; owned = rw (ne_eqb s.made 0 (λ e. omega (arith, h.made))) O }

after_ample : (g : Geometry) (M : Memory) (c : Command) → Ample M → Ample (after g M c)
after_ample g M c a = record {
  tables = omega (arith, a.tables, tables_length g M c);
  log = omega (arith, a.log, log_length g M c);
  out = omega (arith, a.out, out_length g M c);
}

pub line_ample : (p : Spoken) (s : Session) (M : Memory) → Ample M → Ample (step_memory s M p)
unfolding step_memory make_after
line_ample nothing s M a = a
line_ample (makes x) s M a = record { tables = omega (arith, a.tables, make_length (asked x) M); log = a.log; out = a.out }
line_ample (asks c) s M a = cases (either (eqb s.made 0)) (λ y. rw y a) (λ n. rw n (after_ample s.g M c a))
