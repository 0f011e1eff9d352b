-- What a call may touch of the memory that it is lent.
use mathlib.Core.Path.{◌≡◌, refl, sym, ap, ap₂, ◌∙◌, subst}
use mathlib.Core.Logic.{◌⊎◌}
use mathlib.Core.Bool.{cond, ◌&&◌}
use mathlib.Core.List.{List}
use Prim.Native.Nat.{ℕ, ◌-◌, ◌*◌, ◌/◌, ◌%◌, ◌≤◌, ◌<◌}
use native.Mathlib.Omega.{arith}
use lib.Dec.{leb, ltb}
use lib.ListN.{length, get_or}
use lib.Seq.{sets}
use borrow.Author.Tests.{lt-leb, le-leb, le-ltb}
use Rattle.answer.proofs.Cases.{cases}
use Rattle.answer.specs.Reply.{Reply, accepted, refused}
use Rattle.answer.specs.Refusal.{leaves}
use Rattle.geometry.specs.declared.Geometry.{Geometry}
use Rattle.alloc_log.specs.Word.{write_at, bytes_of}
use Rattle.alloc_log.proofs.Writing.{write_none}
use Rattle.model.specs.State.{State, Notes, with_used, with_notes, synced}
use Rattle.model.specs.Calls.{Account, looking, opening, freeing, closing, removing, reclaiming, placing, marking, renewing, account, renews, words_by, left_by}
use Rattle.model.specs.Calls.{result_by, result, written, effect, logged}
use Rattle.model.specs.Held.{waits, available}
use Rattle.model.specs.Names.{Titles}
use Rattle.model.specs.Layout.{need, state_of, stored, header_number, title_number, note_number, free_word}
use Rattle.model.specs.Memory.{Memory, written_at, reply, midway, stored_by, after}
use Rattle.model.specs.Command.{Command}
use Rattle.model.proofs.Fine.{effect_fine}
use Rattle.model.proofs.Keeps.{accepted_is, sound_fine}
use Rattle.model.proofs.LayoutFacts.{by_address, stored_length, stored_header, stored_column, stored_spare, stored_page, stored_list, stored_birth}
use Rattle.model.proofs.LayoutFacts.{stored_queue, stored_queue_birth, stored_wait, stored_beyond}
use Rattle.model.proofs.Midway.{midway_length, by_length, by_beyond}
use Rattle.model.proofs.Restored.{stored_state}
use Rattle.model.proofs.ResultSize.{accepted_short}
use Rattle.ledger.specs.LogMeans.{Given, Within}
use Rattle.ledger.specs.Touched.{Released, TouchedAs, TouchedBy, Touched, CallTouches}
use Rattle.ledger.proofs.LogMeaning.{given, within, beyond, changed_between}
use Rattle.ledger.proofs.LogTold.{ends_at}
use Rattle.ledger.proofs.Releases.{released}

-- number 9 of tables that say T
used_is : (g : Geometry) (t : List ℕ) (T : State) → need g ≤ length t → get_or (stored g T t) 9 0 ≡ T.used
unfolding header_number
used_is g t T room = stored_header g T t room 9 (omega arith)

-- ── every call ──

-- what is left, by the reply
abbrev memory_after : Geometry → Memory → Command → Reply → Memory
memory_after g M c r =
    let T = state_of g M.tables in
    record {
      tables = leaves r M.tables (stored_by g M.tables c);
      log = leaves r M.log (write_at M.log (written_at T c) (bytes_of (written g T c)));
      out = leaves r M.out (sets M.out 0 (result g T c));
    }

-- ── what is noted, number by number ──

-- outside the column of the windows a number depends on the names alone
note_off : (R : ℕ) (P N : Notes) (t : List ℕ) (i : ℕ) → R ≤ 64 → P.names ≡ N.names → P.titles ≡ N.titles → (i < 576) ⊎ (640 ≤ i) →
    note_number R P t i ≡ note_number R N t i
unfolding note_number
note_off R P N t i few d f o =
    cases o
    (λ h. rw (lt-leb 576 i h) rest)
    (λ h. rw (le-leb 576 i (omega arith), le-ltb (i - 576) R (omega arith)) rest)
  where
    others : Notes → ℕ
    others Q =
        cond (leb 640 i && ltb (i - 640) R) (Q.names (i - 640))
        (cond (leb 768 i) (title_number Q.titles t ((i - 768) / 40) ((i - 768) % 40)) (get_or t i 0))

    rest : others P ≡ others N
    rest =
        ap₂ (λ (names : ℕ → ℕ) (X : Titles). cond (leb 640 i && ltb (i - 640) R) (names (i - 640))
        (cond (leb 768 i) (title_number X t ((i - 768) / 40) ((i - 768) % 40)) (get_or t i 0))) d f

-- below 640 it depends on the windows alone
note_low : (R : ℕ) (P N : Notes) (t : List ℕ) (i : ℕ) → P.window ≡ N.window → i < 640 → note_number R P t i ≡ note_number R N t i
unfolding note_number
note_low R P N t i d h =
    rw (lt-leb 640 i h, lt-leb 768 i (omega arith))
    (ap (λ (w : ℕ → ℕ). cond (leb 576 i && ltb (i - 576) R) (w (i - 576)) (get_or t i 0)) d)

module _ (g : Geometry) (M : Memory) (c : Command) (l : List ℕ) (e : reply g M c ≡ accepted l) where
  abbrev T : State
  T = state_of g M.tables

  abbrev t : List ℕ
  t = M.tables

  room : need g ≤ length t
  room = (accepted_is g M c l e).0.long.tables

  -- what sound tables say, stored in them
  same : stored g T t ≡ t
  same = let s = (accepted_is g M c l e).0.sound in stored_state g t s.made s.free room

  -- other notes change nothing but their own numbers: from lo up to hi, where they have others
  notes_only : (N : Notes) (lo hi : ℕ) → 512 ≤ lo → lo ≤ hi → hi ≤ 2048 →
      ((i : ℕ) → 512 ≤ i → i < 2048 → (i < lo) ⊎ (hi ≤ i) →
      note_number g.records N M.tables i ≡ note_number g.records (state_of g M.tables).notes M.tables i) →
      Within lo hi M.tables (stored g (with_notes (state_of g M.tables) N) M.tables)
  unfolding header_number free_word available waits
  notes_only N lo hi low mid high others =
      let U : State = with_notes T N in
      let said : (i : ℕ) → get_or (stored g T t) i 0 ≡ get_or t i 0 = λ i. ap (λ (l : List ℕ). get_or l i 0) same in
      changed_between lo hi t (stored g U t) mid (omega (arith, room)) (stored_length g U t)
      (by_address g (λ i. (i < lo) ⊎ (hi ≤ i) → get_or (stored g U t) i 0 ≡ get_or t i 0) (record {
        header = λ i h o. stored_header g U t room i h ∙ same_header i ∙ sym (stored_header g T t room i h) ∙ said i;
        column = λ f k hf hk o. stored_column g U t room f k hf hk ∙ sym (stored_column g T t room f k hf hk) ∙ said _;
        spare = λ i a b o. stored_spare g U t room i a b ∙ others i a b o ∙ sym (stored_spare g T t room i a b) ∙ said i;
        page = λ k x hk hx o. stored_page g U t room k x hk hx ∙ sym (stored_page g T t room k x hk hx) ∙ said _;
        list = λ k i hk hi o. stored_list g U t room k i hk hi ∙ sym (stored_list g T t room k i hk hi) ∙ said _;
        birth = λ b hb o. stored_birth g U t room b hb ∙ sym (stored_birth g T t room b hb) ∙ said _;
        queue = λ i a b o. stored_queue g U t room i a b ∙ sym (stored_queue g T t room i a b) ∙ said i;
        queue_birth = λ b hb o. stored_queue_birth g U t room b hb ∙ sym (stored_queue_birth g T t room b hb) ∙ said _;
        wait = λ i a b o. stored_wait g U t room i a b ∙ sym (stored_wait g T t room i a b) ∙ said i;
        beyond = λ i a o. stored_beyond g U t i a;
      }))
    where
      same_header : (i : ℕ) → header_number g (with_notes T N) t i ≡ header_number g T t i
      same_header i = refl

  few : g.records ≤ 64
  few = (accepted_is g M c l e).0.inside.records_most

  -- where the names stay, nothing but the column of the windows
  windows_only : (N : Notes) → N.names ≡ (state_of g M.tables).notes.names → N.titles ≡ (state_of g M.tables).notes.titles →
      Within 576 640 M.tables (stored g (with_notes (state_of g M.tables) N) M.tables)
  windows_only N d f =
      notes_only N 576 640 (omega arith) (omega arith) (omega arith)
      (λ i a b o. note_off g.records N (state_of g M.tables).notes t i few d f o)

  -- where the windows stay, nothing but counts and rows of names
  names_only : (N : Notes) → N.window ≡ (state_of g M.tables).notes.window →
      Within 640 2048 M.tables (stored g (with_notes (state_of g M.tables) N) M.tables)
  names_only N d =
      notes_only N 640 2048 (omega arith) (omega arith) (omega arith)
      (λ i a b o. note_low g.records N (state_of g M.tables).notes t i d (cases o (λ h. h) (λ h. absurd (let z : ⊥ = omega arith in z))))

  now_used : get_or (stored_by g t c) 9 0 ≡ (effect g T c).used
  now_used = used_is g (midway g T (account c) t) (effect g T c) (omega (arith, room, midway_length g T (account c) t))

  -- the log, from where the call writes up to what is used then
  words : Within (written_at T c) (8 * get_or (stored_by g t c) 9 0) M.log (write_at M.log (written_at T c) (bytes_of (written g T c)))
  words =
      let A = (accepted_is g M c l e).0 in
      let G = effect_fine g A.inside T (sound_fine g t M.log A.sound) c A.none in
      let u : get_or (stored_by g t c) 9 0 ≤ g.words = omega (arith, now_used, G.range.used) in
      within (written_at T c) _ M.log (bytes_of (written g T c)) (ends_at g T c ∙ ap (λ (n : ℕ). 8 * n) (sym now_used)) (omega (arith, u, A.long.log))

  -- Y and C, with n words used: what waited may be given
  ends_waits : (n : ℕ) (log out : List ℕ) →
      Released g M (record { tables = stored g (synced (with_used (state_of g M.tables) n)) M.tables; log = log; out = out })
  ends_waits n log out = let A = (accepted_is g M c l e).0 in released g A.inside M A.sound room n log out

-- what is left by a call of a kind
abbrev left_as : Geometry → Memory → Account → Memory
left_as g M A =
    let T = state_of g M.tables in
    record {
      tables = stored g (left_by g T A) (midway g T A M.tables);
      log = write_at M.log (cond (renews A) 0 (8 * T.used)) (bytes_of (words_by g T A));
      out = sets M.out 0 (result_by g T A);
    }

-- the log, from where such a call writes up to what is used then
abbrev WordsIn : Geometry → Memory → Account → Type 0
WordsIn g M A =
    Within (cond (renews A) 0 (8 * (state_of g M.tables).used)) (8 * get_or (left_as g M A).tables 9 0) M.log (left_as g M A).log

by_kind : (g : Geometry) (M : Memory) (c : Command) (A : Account) (l : List ℕ) → account c ≡ A → reply g M c ≡ accepted l → TouchedAs g A M (left_as g M A)
unfolding state_of logged
by_kind g M c (looking s cs res note) l d e = (
  write_none M.log _,
  record {
    none = λ z. ap (λ N. stored g (with_notes (state_of g M.tables) N) M.tables) z ∙ same g M c l e;
    window = windows_only g M c l e (note (state_of g M.tables));
    names = names_only g M c l e (note (state_of g M.tables));
  },
)
by_kind g M c (opening cs a) l d e = write_none M.log _
by_kind g M c (freeing cs a) l d e = subst (WordsIn g M) d (words g M c l e)
by_kind g M c (closing r) l d e = write_none M.log _
by_kind g M c (removing r) l d e = write_none M.log _
by_kind g M c (reclaiming k) l d e = subst (WordsIn g M) d (words g M c l e)
by_kind g M c (placing r x k) l d e = subst (WordsIn g M) d (words g M c l e)
by_kind g M c marking l d e = (
  subst (WordsIn g M) d (words g M c l e),
  (subst (λ A. get_or (left_as g M A).tables 9 0 ≡ (left_by g (state_of g M.tables) A).used) d (now_used g M c l e) ∙ omega arith, ends_waits g M c l e _ _ _),
)
by_kind g M c renewing l d e = (subst (WordsIn g M) d (words g M c l e), ends_waits g M c l e _ _ _)

by_call : (g : Geometry) (M : Memory) (c : Command) (l : List ℕ) → reply g M c ≡ accepted l → TouchedBy g c M (memory_after g M c (accepted l))
by_call g M c l e = by_kind g M c (account c) l refl e

-- WHAT A CALL MAY TOUCH
pub call_touches : CallTouches
unfolding after
call_touches g M c = go (reply g M c) refl
  where
    go : (r : Reply) → reply g M c ≡ r → Touched g M c r (memory_after g M c r)
    go (refused n) e = (refl, (refl, refl))
    go (accepted l) e =
        let (A, r) = accepted_is g M c l e in
        let T : State = state_of g M.tables in
        record {
          out = subst (λ (k : List ℕ). Given l M.out (sets M.out 0 k)) (sym r) (given l M.out (omega (arith, accepted_short g M c l e)));
          tables = beyond (need g) M.tables (stored_by g M.tables c) A.long.tables (by_length g M.tables c) (by_beyond g M.tables c);
          call = by_call g M c l e;
        }
