-- The promises of a call: what each refusal leaves, and what the engine's promises on a sound store come to.
use mathlib.Core.Path.{◌≡◌, sym, ap, ◌∙◌, subst}
use mathlib.Core.Bool.{Bool, true, false, not}
use mathlib.Core.List.{List}
use Prim.Native.Nat.{ℕ}
use lib.Seq.{sets}
use borrow.Author.Tests.{not-true, not-false}
use Rattle.std.specs.Prelude.{Result, Ok, Err}
use Rattle.answer.specs.declared.Refusal.{Refusal}
use Rattle.answer.specs.declared.Refusal.TheVariants.{TooShort, NotSound}
use Rattle.answer.specs.Reply.{Reply, refused, reply_of}
use Rattle.answer.specs.Refusal.{leaves}
use Rattle.geometry.specs.declared.Geometry.{Geometry}
use Rattle.geometry.specs.Limits.{Inside, making_of}
use Rattle.geometry.proofs.Made.{inside_fits}
use Rattle.alloc_log.specs.Word.{write_at, bytes_of}
use Rattle.alloc_log.proofs.Tools.{MadeOf, outside}
use Rattle.model.specs.Calls.{result, written}
use Rattle.model.specs.Layout.{state_of}
use Rattle.model.specs.Memory.{Memory, short?, sound?, written_at, reply, stored_by, after}
use Rattle.model.specs.SoundStore.{SoundStore}
use Rattle.model.specs.Command.{Command}
use Rattle.model.proofs.SoundTest.{sound_iff}
use Rattle.model.proofs.Keeps.{Long, is_long, sound_fine}
use Rattle.model.proofs.Replies.{reply_sound}
use Rattle.tables.specs.Ready.{Roomy, Ready, OutLong, LogLong}
use Rattle.tables.specs.Outcome.{replied, tables_left, log_left, out_left}
use Rattle.store.specs.Admitted.{Admits}

-- ── a sound store ──

-- what the calls ask of their caller
pub sound_ready : (g : Geometry) (t log : List ℕ) → Roomy g t → SoundStore g t log → Ready g t
sound_ready g t log R s = record {
  roomy = R;
  made = s.made;
  sound = (sound_fine g t log s).sound;
  range = s.range;
  queue = s.queue;
  waiting = s.waiting;
  windows = s.windows;
  names = s.names;
  free = s.free;
}

-- on a sound store and long enough memory the model's definitions are those read off the tables
module _ (g : Geometry) (M : Memory) (c : Command) (i : Inside g) (L : Long g M) (s : SoundStore g M.tables M.log) where
  pub reply_is : reply g M c ≡ replied g M.tables c
  unfolding replied
  reply_is = reply_sound g M c i L s

  pub tables_are : (after g M c).tables ≡ tables_left g M.tables c
  unfolding after tables_left
  tables_are = ap (λ (r : Reply). leaves r M.tables (stored_by g M.tables c)) reply_is

  pub log_is : (after g M c).log ≡ log_left g M.tables M.log c
  unfolding after log_left
  log_is =
      let T = state_of g M.tables in
      ap (λ (r : Reply). leaves r M.log (write_at M.log (written_at T c) (bytes_of (written g T c)))) reply_is

  pub out_is : (after g M c).out ≡ out_left g M.tables M.out c
  unfolding after out_left
  out_is = ap (λ (r : Reply). leaves r M.out (sets M.out 0 (result g (state_of g M.tables) c))) reply_is

-- ── a call ──

-- the four promises of a call: its answer, and the tables, the log and the result buffer that it leaves
abbrev pub Answered : Result ℕ Refusal → List ℕ → List ℕ → List ℕ → Geometry → Memory → Command → Type 0
Answered r t log out g M c =
    (reply_of r out ≡ reply g M c) × ((t ≡ (after g M c).tables) × ((log ≡ (after g M c).log) × (out ≡ (after g M c).out)))

-- a refusal changes nothing
pub refused_call : (g : Geometry) (M : Memory) (c : Command) (r : Refusal) → Admits g M (Err r) → Answered (Err r) M.tables M.log M.out g M c
unfolding reply_of after
refused_call g M c r a =
    let T = state_of g M.tables in
    let e = a c in (
      sym e,
      (
        sym (ap (λ (r : Reply). leaves r M.tables (stored_by g M.tables c)) e),
        (
          sym (ap (λ (r : Reply). leaves r M.log (write_at M.log (written_at T c) (bytes_of (written g T c)))) e),
          sym (ap (λ (r : Reply). leaves r M.out (sets M.out 0 (result g T c))) e),
        ),
      ),
    )

-- ── the three tests ──

pub admits_outside : (six : Geometry) (M : Memory) {r : Refusal} →
    Err r ≡ making_of six.arenas six.per six.pages six.records six.turn six.words → Admits six M (Err r)
unfolding reply
admits_outside six M e c = let o = outside six e in rw (o.0, o.1)

module _ (M : Memory) {six g : Geometry} (m : MadeOf six g) {short : Bool} (lengths : short ≡ short? g M) where
  pub admits_short : short ≡ true → Admits six M (Err TooShort)
  unfolding reply
  admits_short s c = subst (λ k. reply k M c ≡ refused 3) m.is (rw (inside_fits g m.inside, sym lengths ∙ s))

  module _ (fine : short ≡ false) where
    long : Long g M
    long = is_long g M (sym lengths ∙ fine)

    pub sound_requires : Roomy g M.tables × LogLong g M.log
    sound_requires = (record { inside = m.inside; room = long.tables }, long.log)

    module _ {ok : Bool} (tested : ok ≡ sound? g M.tables M.log) where
      pub admits_unsound : not ok ≡ true → Admits six M (Err NotSound)
      unfolding reply
      admits_unsound n c =
          subst (λ k. reply k M c ≡ refused 4) m.is (rw (inside_fits g m.inside, sym lengths ∙ fine, sym tested ∙ not-true ok n))

      pub admits_sound : not ok ≡ false → Admits six M (Ok g)
      admits_sound n = (m.is, m.inside, sym lengths ∙ fine, sym tested ∙ not-false ok n)

-- ── a call that is admitted ──

module _ {six g : Geometry} (M : Memory) (a : Admits six M (Ok g)) where
  enough : Long g M
  enough = is_long g M a.2

  sound : SoundStore g M.tables M.log
  sound = (sound_iff g a.1 M.tables M.log).0 a.3

  pub calls_require : Ready g M.tables × LogLong g M.log × OutLong g M.out
  calls_require = (sound_ready g M.tables M.log (record { inside = a.1; room = enough.tables }) sound, enough.log, enough.out)

  -- what the engine promises is what `call` promises
  pub call_done : (c : Command) (r : Result ℕ Refusal) (t log out : List ℕ) →
      (reply_of r out ≡ replied g M.tables c) × ((t ≡ tables_left g M.tables c) ×
      ((log ≡ log_left g M.tables M.log c) × (out ≡ out_left g M.tables M.out c))) → Answered r t log out six M c
  call_done c r t log out p =
      subst (λ k. Answered r t log out k M c) a.0 (
        p.0 ∙ sym (reply_is g M c a.1 enough sound),
        (
          p.1.0 ∙ sym (tables_are g M c a.1 enough sound),
          (
            p.1.1.0 ∙ sym (log_is g M c a.1 enough sound),
            p.1.1.1 ∙ sym (out_is g M c a.1 enough sound),
          ),
        ),
      )
