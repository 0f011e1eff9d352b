-- A USE FOR EACH PART OF `every_sound_told` AND `every_tables_told`, on the second memory of `Unreached`: what is answered there, and what is left.
-- Record 3 is sealed, 5 follows it, 7 is a fork on it and 8 is empty; the table is full; there are two arenas, block 4 is queued and block 0 waits. 3 has the
-- name b, and 8 a.
use mathlib.Core.Path.{◌≡◌, refl, sym, ap, ◌∙◌, subst}
use mathlib.Core.Bool.{true, false, or-true, true≢false}
use mathlib.Core.List.{List, [], ◌∷◌, ◌++◌, flat_map}
use Prim.Native.Nat.{ℕ, suc, ◌+◌, ◌-◌, ◌/◌, ◌%◌, ◌≤◌, ◌<◌}
use native.Mathlib.Omega.{arith}
use lib.Dec.{eqb, ltb}
use lib.ListN.{length, drop, get_or, replicate}
use borrow.Author.Tests.{eq-eqb, lt-ltb, le-ltb, lt-leb}
use Rattle.answer.specs.Reply.{Reply, accepted, refused}
use Rattle.answer.specs.Refusal.{NoneBefore, leaves}
use Rattle.answer.proofs.Cases.{cases, either}
use Rattle.answer.proofs.Decided.{decide_accepted}
use Rattle.geometry.specs.declared.Geometry.{Geometry}
use Rattle.alloc_log.specs.Word.{write_at, bytes_of}
use Rattle.alloc_log.proofs.Writing.{bytes_append}
use Rattle.model.specs.Table.{via, first_link}
use Rattle.model.specs.View.{View}
use Rattle.model.specs.Held.{tally}
use Rattle.model.specs.Lists.{below?, keep_if}
use Rattle.model.specs.Results.{numbers_of}
use Rattle.model.specs.Names.{same_name}
use Rattle.model.specs.Book.{Line, NameOn, Book, in_recs, in_lines}
use Rattle.model.specs.NameBook.{HasName}
use Rattle.model.specs.Layout.{field, numbers, view_of, titles_of, notes_of, queue_of, state_of}
use Rattle.model.specs.Memory.{Memory, used_log, all_conditions, reply, after}
use Rattle.model.specs.SoundStore.{SoundStore}
use Rattle.model.specs.Demand.{Request, met_by, Own, with_out, run}
use Rattle.model.specs.Command.{Command}
use Rattle.model.specs.Command.{Begin, Write, Erase, Delete, Read, Reclaim, Attach}
use Rattle.model.proofs.NameBytes.{same_not}
use Rattle.model.proofs.NameBook.{named_in_lem}
use Rattle.ledger.specs.BookReading.{line_in, is_there, page_block, base_of, base_among, carriers_among, carriers, has_name}
use Rattle.ledger.specs.Ledger.{Ledger, rising, among, change, without, is_held, is_free, with_births, arena, young, joins, after_kill, after_giving}
use Rattle.ledger.specs.Ledger.{is_name, blocks_of, after_turn, arenas_from, from_mark, candidates, picked, account, refusals_of, says, keeps}
use Rattle.ledger.specs.Told.{SameBlocks, out_after, says_to, step_to, steps_to, log_to, log_along}
use Rattle.ledger.specs.SoundTold.{SameRecord, SameRecords, SameStore, SoundTold, TablesTold}
use Rattle.ledger.proofs.NamesRead.{has_alike}
use Rattle.ledger.proofs.LogMeaning.{is_bytes}
use Rattle.ledger.proofs.QueuePairs.{entry_blocks}
use Rattle.ledger.proofs.OwnToldProof.{roomy_says}
use Rattle.ledger.proofs.SoundTold.{every_sound_told, every_tables_told}
use Rattle.ledger.proofs.Uses.{placed}
use Rattle.ledger.proofs.Unreached.{forked, forked_tables, forked_words, forked_inside, forked_sound}

-- the ledger's record of a number is the one in the slot that has it
in_slot : (g : Geometry) (t log : List ℕ) → SoundStore g t log → (B : Book) → SameRecords B (state_of g t).view →
    (s : ℕ) → 0 < (state_of g t).view.num s →
    SameRecord B (state_of g t).view ((state_of g t).view.num s) s
in_slot g t log sound B same s live =
    let K = (state_of g t).view in
    let (u, R) = same.each (K.num s) (same.has s live) in
    subst (SameRecord B K (K.num s)) (sound.means.links.apart u s R.live R.number) R

-- a record that is there: a fork is on its line's base
fork_there : (ls : List Line) (n : ℕ) → in_lines n ls ≡ true → base_among ls (line_in ls n).base ≡ true
unfolding line_in base_among in_lines
fork_there [] n e = absurd (true≢false (sym e))
fork_there (l ∷ ls) n e =
    cases (either (in_recs n l.recs))
    (λ y. rw y (rw (eq-eqb l.base l.base refl)))
    (λ f. rw f (rw (fork_there ls n (rw f at e)) (or-true (eqb l.base (line_in ls n).base))))

-- a name in the book has a record
carried : (ps : List NameOn) (l : List ℕ) (n : ℕ) → HasName ps l n → ltb 0 (length (carriers_among ps l)) ≡ true
unfolding carriers_among
carried [] l n h = absurd h
carried (p ∷ ps) l n h =
    cases (either (same_name p.0 l))
    (λ y. rw y (lt-ltb 0 (suc (length (carriers_among ps l))) (omega arith)))
    (λ f. rw f (carried ps l n (cases h (λ (a : (p.0 ≡ l) × (p.1 ≡ n)). absurd (same_not p.0 l f a.0)) (λ g. g))))

module _ (L : Ledger) (same : SameStore forked L (state_of forked forked_tables)) (its : SameBlocks L (state_of forked forked_tables)) where
  abbrev B : Book
  B = L.book

  abbrev K : View
  K = (state_of forked forked_tables).view

  -- a call that writes no word has room
  no_words : ltb (18 - length L.log) 0 ≡ false
  no_words = le-ltb (18 - length L.log) 0 (omega arith)

  -- the four records, each in its slot
  rec_3 : SameRecord B K 3 0
  unfolding state_of view_of field
  rec_3 = in_slot forked forked_tables forked_words (forked_sound []) B same.records 0 (omega arith)

  rec_5 : SameRecord B K 5 1
  unfolding state_of view_of field
  rec_5 = in_slot forked forked_tables forked_words (forked_sound []) B same.records 1 (omega arith)

  rec_7 : SameRecord B K 7 2
  unfolding state_of view_of field
  rec_7 = in_slot forked forked_tables forked_words (forked_sound []) B same.records 2 (omega arith)

  rec_8 : SameRecord B K 8 3
  unfolding state_of view_of field
  rec_8 = in_slot forked forked_tables forked_words (forked_sound []) B same.records 3 (omega arith)

  there : (is_there B 3 ≡ true) × (is_there B 5 ≡ true) × (is_there B 7 ≡ true) × (is_there B 8 ≡ true)
  unfolding state_of view_of field
  there = let has = same.records.has in (has 0 (omega arith), has 1 (omega arith), has 2 (omega arith), has 3 (omega arith))

  born : (L.birth 1 ≡ 5) × (L.birth 5 ≡ 3) × (L.birth 6 ≡ 2)
  unfolding state_of view_of field
  born = (its.births 1, its.births 5, its.births 6)

  -- `pages`
  says_R : (says forked L (Read 3 1) ≡ accepted (6 ∷ 2 ∷ [])) × (says forked L (Read 5 0) ≡ accepted (5 ∷ 3 ∷ [])) ×
      (says forked L (Read 7 0) ≡ accepted [])
  unfolding says account with_births numbers_of page_block state_of view_of field
  says_R = (
    rw (there.0, rec_3.pages 1, born.2, no_words),
    rw (there.1, rec_5.pages 0, born.1, no_words),
    rw (there.2, rec_7.pages 0, no_words),
  )

  -- `live`: there is no record 0
  says_8 : (x : ℕ) → x < 2 → says forked L (Read 0 x) ≡ refused 8
  unfolding says account
  says_8 x h =
      cases (either (is_there B 0))
      (λ y. let (s, R) = same.records.each 0 y in absurd (omega (arith, R.live, R.number)))
      (λ n. rw (lt-leb 2 x h, n))

  -- `writable`: record 3 is sealed
  says_9 : says forked L (Write 3 0 0) ≡ refused 9
  unfolding says account state_of view_of field
  says_9 = rw (there.0, rec_3.writable)

  -- `base`: record 7 is a fork on 3
  says_10 : says forked L (Delete 3) ≡ refused 10
  unfolding says account base_of state_of view_of field via
  says_10 =
      let on : base_among B.lines 3 ≡ true = subst (λ (n : ℕ). base_among B.lines n ≡ true) rec_7.base (fork_there B.lines 7 there.2) in
      rw (there.0, on)

  -- `many`: four records are in a table of four
  says_11 : says forked L Begin ≡ refused 11
  unfolding says account state_of view_of field tally
  says_11 = rw same.records.many

  -- `names`: 3 has the name b, and 8 the name a
  name_b : HasName B.names (98 ∷ []) 3
  unfolding state_of view_of notes_of titles_of field numbers
  name_b = (its.names (98 ∷ []) 0 (omega arith)).1 (4, omega arith, refl, refl)

  name_a : HasName B.names (97 ∷ []) 8
  unfolding state_of view_of notes_of titles_of field numbers
  name_a = (its.names (97 ∷ []) 3 (omega arith)).1 (1, omega arith, refl, refl)

  -- b is in use, so it is on no other record; 8 is open and has a name, so it is given no second
  says_17 : (says forked L (Attach (98 ∷ []) 5) ≡ refused 17) × (says forked L (Attach (99 ∷ []) 8) ≡ refused 17)
  unfolding says account is_name has_name keep_if state_of view_of field
  says_17 = (
    rw (there.1, carried B.names (98 ∷ []) 3 name_b),
    rw (there.3, rec_8.writable, has_alike B.names 8, (named_in_lem B.names 8).1 (97 ∷ [], name_a), or-true (ltb 0 (length (carriers B (99 ∷ []))))),
  )

  -- `pred`: in record 5, whose pred is 3, block 1 is freed; block 5, born in 3, is not, nor is in record 7 block 6, born in 2
  says_E : (says forked L (Erase 5 1) ≡ accepted (1 ∷ 5 ∷ [])) × (says forked L (Erase 5 0) ≡ accepted []) ×
      (says forked L (Erase 7 1) ≡ accepted [])
  unfolding says account after_kill young with_births numbers_of keep_if page_block state_of view_of field via first_link
  says_E = (
    rw (there.1, rec_5.writable, rec_5.pages 1, rec_5.pred, born.0, same.used, born.0),
    rw (there.1, rec_5.writable, rec_5.pages 0, rec_5.pred, born.1, same.used),
    rw (there.2, rec_7.writable, rec_7.pages 1, rec_7.pred, born.2, same.used),
  )

  -- block 1 waits after block 0, and has no birth any more
  frees_1 : ((keeps forked L (Erase 5 1)).waiting ≡ 0 ∷ 1 ∷ []) × ((keeps forked L (Erase 5 1)).birth 1 ≡ 0)
  unfolding keeps account after_kill young keep_if without among page_block state_of view_of field numbers via first_link
  frees_1 = (rw (its.waiting, rec_5.pages 1, rec_5.pred, born.0), rw (rec_5.pages 1, rec_5.pred, born.0))

  -- `base`: block 5 joins the deadlist of record 5, in whose line no record is older; block 6 joins none, since it is older than the fork's base
  joins_5 : ((keeps forked L (Erase 5 0)).deadlist 5 ≡ 6 ∷ 5 ∷ []) × ((keeps forked L (Erase 7 1)).deadlist 7 ≡ [])
  unfolding keeps account after_kill joins change keep_if page_block state_of view_of field numbers via first_link
  joins_5 = (
    rw (its.deadlists 1 (omega arith), rec_5.pages 0, rec_5.base, rec_5.pred, born.1),
    rw (its.deadlists 2 (omega arith), rec_7.pages 1, rec_7.base, rec_7.pred, born.2),
  )

  -- `queue`: block 4 is queued, with birth 4
  queue_is : L.queue ≡ (4, 4) ∷ []
  unfolding state_of queue_of field numbers
  queue_is = its.queue

  -- blocks 2, 3 and 7 are free: 1, 5 and 6 are on pages, 4 is queued, and 0 waits
  free_are : keep_if (is_free L) (rising 0 8) ≡ 2 ∷ 3 ∷ 7 ∷ []
  unfolding keep_if rising is_free is_held among state_of view_of field numbers
  free_are =
      let b = its.births in
      rw (b 0, b 1, b 2, b 3, b 4, b 5, b 6, b 7, queue_is, its.waiting)

  -- `counter`, `marks`: the counter is 1, so kind 0 is arena 1, and kind 1 arena 0; each mark stands at its arena's last block
  free : (is_free L 7 ≡ true) × (is_free L 3 ≡ true)
  unfolding is_free is_held among state_of view_of field numbers
  free = (rw (its.births 7, queue_is, its.waiting), rw (its.births 3, queue_is, its.waiting))

  picked_7 : picked forked L 0 ≡ 7
  unfolding picked candidates arenas_from keep_if rising flat_map state_of view_of field
  picked_7 =
      let first : (L.writes / 3 + 0) % 2 ≡ 1 = omega (arith, same.choice.counter) in
      rw (first, same.choice.marks 1 (omega arith), free.0)

  picked_3 : picked forked L 1 ≡ 3
  unfolding picked candidates arenas_from keep_if rising flat_map state_of view_of field
  picked_3 =
      let first : (L.writes / 3 + 1) % 2 ≡ 0 = omega (arith, same.choice.counter) in
      rw (first, same.choice.marks 0 (omega arith), free.1)

  says_W : (says forked L (Write 8 0 0) ≡ accepted (7 ∷ 8 ∷ [])) × (says forked L (Write 8 0 1) ≡ accepted (3 ∷ 8 ∷ []))
  unfolding says account after_giving after_kill with_births numbers_of keep_if page_block state_of view_of field
  says_W = (
    rw (there.3, rec_8.writable, free_are, rec_8.pages 0, picked_7, same.used),
    rw (there.3, rec_8.writable, free_are, rec_8.pages 0, picked_3, same.used),
  )

  -- `writes`: that W ends the turn, so after it kind 0 is arena 0, whose mark has not moved
  abbrev then : Ledger
  then = keeps forked L (Write 8 0 0)

  mark_then : from_mark forked then 0 ≡ from_mark forked L 0
  unfolding from_mark arena change keeps account after_giving after_kill
  mark_then = rw picked_7

  free_then : is_free then 3 ≡ true
  unfolding is_free is_held among without change keeps account after_giving after_kill keep_if page_block state_of view_of field numbers
  free_then = rw (picked_7, rec_8.pages 0, its.births 3, queue_is, its.waiting)

  writes_then : then.writes ≡ suc L.writes
  unfolding keeps account after_giving after_kill
  writes_then = refl

  picked_then : picked forked then 0 ≡ 3
  unfolding picked candidates arenas_from keep_if rising flat_map state_of view_of field
  picked_then =
      let first : (then.writes / 3 + 0) % 2 ≡ 0 = omega (arith, writes_then, same.choice.counter, same.choice.writes) in
      rw (first, mark_then, same.choice.marks 0 (omega arith), free_then)

  -- T 64 frees block 4, which waits after block 0; nothing is queued any more
  says_T : says forked L (Reclaim 64) ≡ accepted (4 ∷ 4 ∷ [])
  unfolding says account numbers_of after_turn state_of
  says_T = rw (queue_is, same.used)

  frees_4 : ((keeps forked L (Reclaim 64)).queue ≡ []) × ((keeps forked L (Reclaim 64)).waiting ≡ 0 ∷ 4 ∷ [])
  unfolding keeps account after_turn state_of numbers
  frees_4 = (rw queue_is, rw (queue_is, its.waiting))

  -- `used`: its word is the fifth
  placed_then : (log : List ℕ) → placed forked L (Write 8 0 0) log ≡ write_at log 32 (bytes_of (0x1_c001 ∷ []))
  unfolding account after_giving after_kill keep_if page_block state_of view_of field
  placed_then log = rw (same.used, rec_8.pages 0, picked_7)

  log_then : then.log ≡ L.log ++ (0x1_c001 ∷ [])
  unfolding keeps account after_giving after_kill keep_if page_block state_of view_of field
  log_then = rw (rec_8.pages 0, picked_7)

-- ── a store that keeps its own log ──

-- with a log that is longer than needed; each call comes with its buffer
abbrev forked_log : List ℕ
forked_log = forked_words ++ replicate 128 9

abbrev N : Memory
N = record { tables = forked_tables; log = forked_log; out = [] }

told_there : SoundTold forked N
unfolding below?
told_there = every_sound_told forked N forked_inside (omega arith) (omega arith) (is_bytes forked_log refl) (forked_sound (replicate 128 9))

module _ (out : List ℕ) (long : 80 ≤ length out) where
  abbrev L : Ledger
  L = told_there.ledger

  abbrev asks : Command → Own
  asks c = record { call = c; out = out }

  -- the blocks as they stand
  now : SameBlocks told_there.ledger (state_of forked forked_tables)
  unfolding steps_to
  now = (told_there.told []).blocks

  -- a reply is what the ledger says, and so is what an accepted call leaves
  is_said : (c : Command) (r : Reply) → says forked told_there.ledger c ≡ r → reply forked (with_out N out) c ≡ r
  unfolding steps_to
  is_said c r e = (told_there.told []).says (asks c) ∙ roomy_says forked L (asks c) long ∙ e

  is_kept : (c : Command) (l : List ℕ) → says forked told_there.ledger c ≡ accepted l →
      steps_to forked told_there.ledger (asks c ∷ []) ≡ keeps forked told_there.ledger c
  unfolding steps_to step_to
  is_kept c l e = ap (λ (r : Reply). leaves r L (keeps forked L c)) (roomy_says forked L (asks c) long ∙ e)

  -- `pages`: each record has its own; the number after a block is its birth, and of the buffer no other is changed
  pub R_gives : (reply forked (with_out N out) (Read 3 1) ≡ accepted (6 ∷ 2 ∷ [])) ×
      (reply forked (with_out N out) (Read 5 0) ≡ accepted (5 ∷ 3 ∷ [])) ×
      (reply forked (with_out N out) (Read 7 0) ≡ accepted []) × ((after forked (with_out N out) (Read 3 1)).out ≡ 6 ∷ 2 ∷ drop 2 out)
  unfolding out_after steps_to
  R_gives =
      let (a, b, c) = says_R L told_there.same now in (
        is_said (Read 3 1) (accepted (6 ∷ 2 ∷ [])) a,
        is_said (Read 5 0) (accepted (5 ∷ 3 ∷ [])) b,
        is_said (Read 7 0) (accepted []) c,
        (told_there.told []).out (asks (Read 3 1)) ∙ ap (λ (r : Reply). out_after r out) (roomy_says forked L (asks (Read 3 1)) long ∙ a),
      )

  -- `live`, `writable`, `base`, `many`, `names`: no record 0 is there; 3 is sealed; a fork is on it; the table is full; b is in use; 8 has a name
  pub refuses : (reply forked (with_out N out) (Read 0 0) ≡ refused 8) × (reply forked (with_out N out) (Write 3 0 0) ≡ refused 9) ×
      (reply forked (with_out N out) (Delete 3) ≡ refused 10) × (reply forked (with_out N out) Begin ≡ refused 11) ×
      (reply forked (with_out N out) (Attach (98 ∷ []) 5) ≡ refused 17) × (reply forked (with_out N out) (Attach (99 ∷ []) 8) ≡ refused 17)
  refuses = (
    is_said (Read 0 0) (refused 8) (says_8 L told_there.same now 0 (omega arith)),
    is_said (Write 3 0 0) (refused 9) (says_9 L told_there.same now),
    is_said (Delete 3) (refused 10) (says_10 L told_there.same now),
    is_said Begin (refused 11) (says_11 L told_there.same now),
    is_said (Attach (98 ∷ []) 5) (refused 17) (says_17 L told_there.same now).0,
    is_said (Attach (99 ∷ []) 8) (refused 17) (says_17 L told_there.same now).1,
  )

  -- with a buffer that is a number too short it is 3, whatever is called, and the buffer stays
  pub short_gives_3 : (c : Command) (other : List ℕ) → length other ≡ 79 →
      (reply forked (with_out N other) c ≡ refused 3) × ((after forked (with_out N other) c).out ≡ other)
  unfolding says_to out_after steps_to
  short_gives_3 c other e =
      let a : Own = record { call = c; out = other } in
      let told : says_to forked L a ≡ refused 3 = rw (lt-ltb (length other) 80 (omega (arith, e))) refl in
      ((told_there.told []).says a ∙ told, (told_there.told []).out a ∙ ap (λ (r : Reply). out_after r other) told)

  -- `pred`, `waiting`, `births`: E 5 1 frees block 1, which waits after block 0 and has no birth any more
  pub E_frees : (reply forked (with_out N out) (Erase 5 1) ≡ accepted (1 ∷ 5 ∷ [])) ×
      ((state_of forked (run forked N (asks (Erase 5 1) ∷ [])).tables).waiting ≡ 0 ∷ 1 ∷ []) ×
      ((state_of forked (run forked N (asks (Erase 5 1) ∷ [])).tables).view.birth 1 ≡ 0)
  E_frees =
      let e = (says_E L told_there.same now).0 in
      let (waiting, birth) = frees_1 L told_there.same now in
      let left = (told_there.told (asks (Erase 5 1) ∷ [])).blocks in
      let same = is_kept (Erase 5 1) (1 ∷ 5 ∷ []) e in (
        is_said (Erase 5 1) (accepted (1 ∷ 5 ∷ [])) e,
        sym left.waiting ∙ ap (λ (K : Ledger). K.waiting) same ∙ waiting,
        sym (left.births 1) ∙ ap (λ (K : Ledger). K.birth 1) same ∙ birth,
      )

  -- `queue`: T 64 gives block 4 with its birth; it waits after block 0, and nothing is queued any more
  pub T_frees : (reply forked (with_out N out) (Reclaim 64) ≡ accepted (4 ∷ 4 ∷ [])) ×
      ((state_of forked (run forked N (asks (Reclaim 64) ∷ [])).tables).waiting ≡ 0 ∷ 4 ∷ []) ×
      ((state_of forked (run forked N (asks (Reclaim 64) ∷ [])).tables).queue.list ≡ [])
  T_frees =
      let e = says_T L told_there.same now in
      let (queue, waiting) = frees_4 L told_there.same now in
      let left = (told_there.told (asks (Reclaim 64) ∷ [])).blocks in
      let Q = (state_of forked (run forked N (asks (Reclaim 64) ∷ [])).tables).queue in
      let same = is_kept (Reclaim 64) (4 ∷ 4 ∷ []) e in (
        is_said (Reclaim 64) (accepted (4 ∷ 4 ∷ [])) e,
        sym left.waiting ∙ ap (λ (K : Ledger). K.waiting) same ∙ waiting,
        sym (entry_blocks Q.birth Q.list) ∙
            ap (λ (q : List (ℕ × ℕ)). blocks_of q) (sym left.queue ∙ ap (λ (K : Ledger). K.queue) same ∙ queue),
      )

  -- `base`, `pred`, `deadlists`: after E 5 0 block 5 stands on the deadlist of record 5, after block 6
  pub E_joins : (s : ℕ) → let K = (state_of forked (run forked N (asks (Erase 5 0) ∷ [])).tables).view in K.num s ≡ 5 → K.list s ≡ 6 ∷ 5 ∷ []
  E_joins s e =
      let E = asks (Erase 5 0) ∷ [] in
      sym ((told_there.told E).blocks.deadlists s (omega (arith, e))) ∙ ap (steps_to forked L E).deadlist e ∙
      ap (λ (K : Ledger). K.deadlist 5) (is_kept (Erase 5 0) [] (says_E L told_there.same now).1) ∙ (joins_5 L told_there.same now).0

  -- but after E 7 1 none stands on that of the fork
  pub E_joins_none : (s : ℕ) → let K = (state_of forked (run forked N (asks (Erase 7 1) ∷ [])).tables).view in K.num s ≡ 7 → K.list s ≡ []
  E_joins_none s e =
      let E = asks (Erase 7 1) ∷ [] in
      sym ((told_there.told E).blocks.deadlists s (omega (arith, e))) ∙ ap (steps_to forked L E).deadlist e ∙
      ap (λ (K : Ledger). K.deadlist 7) (is_kept (Erase 7 1) [] (says_E L told_there.same now).2) ∙ (joins_5 L told_there.same now).1

  -- `counter`, `marks`: by its kind
  pub W_gives : (reply forked (with_out N out) (Write 8 0 0) ≡ accepted (7 ∷ 8 ∷ [])) ×
      (reply forked (with_out N out) (Write 8 0 1) ≡ accepted (3 ∷ 8 ∷ []))
  W_gives =
      let (a, b) = says_W L told_there.same now in
      (is_said (Write 8 0 0) (accepted (7 ∷ 8 ∷ [])) a, is_said (Write 8 0 1) (accepted (3 ∷ 8 ∷ [])) b)

  abbrev W : List Own
  W = asks (Write 8 0 0) ∷ []

  -- `writes`: a W that is accepted after it is given block 3, in the next arena
  pub then_W_gives_3 : (b : ℕ) (rest : List ℕ) → reply forked (with_out (run forked N W) out) (Write 8 1 0) ≡ accepted (b ∷ rest) → b ≡ 3
  unfolding says account numbers_of
  then_W_gives_3 b rest e =
      let K = steps_to forked L W in
      let is = (decide_accepted (refusals_of forked K (Write 8 1 0)) (numbers_of (account forked K (Write 8 1 0)).result) (b ∷ rest)
      (sym (roomy_says forked K (asks (Write 8 1 0)) long) ∙ sym ((told_there.told W).says (asks (Write 8 1 0))) ∙ e)).1 in
      ap (λ (l : List ℕ). get_or l 0 0) (sym is) ∙
      ap (λ (M : Ledger). picked forked M 0) (is_kept (Write 8 0 0) (7 ∷ 8 ∷ []) (says_W L told_there.same now).0) ∙
      picked_then L told_there.same now

  -- `log`, `used`: its word stands after the four that are used, and every other byte is as it was
  pub W_logs : ((run forked N W).log ≡ write_at forked_log 32 (bytes_of (0x1_c001 ∷ []))) ×
      (used_log (state_of forked (run forked N W).tables) (run forked N W).log ≡ forked_words ++ bytes_of (0x1_c001 ∷ []))
  unfolding log_along log_to steps_to state_of
  W_logs =
      let e = (says_W L told_there.same now).0 in (
        (told_there.told W).log ∙
            ap (λ (r : Reply). leaves r forked_log (placed forked L (Write 8 0 0) forked_log)) (roomy_says forked L (asks (Write 8 0 0)) long ∙ e) ∙
            placed_then L told_there.same now forked_log,
        (told_there.told W).used ∙ ap (λ (K : Ledger). bytes_of K.log) (is_kept (Write 8 0 0) (7 ∷ 8 ∷ []) e) ∙
            ap bytes_of (log_then L told_there.same now) ∙ bytes_append L.log (0x1_c001 ∷ []) ∙
            ap (λ (l : List ℕ). l ++ bytes_of (0x1_c001 ∷ [])) (sym (told_there.told []).used),
      )

-- ── tables whose calls come with logs of their own ──

-- the log with which they are sound may be too short for a call, and what follows its words need not be bytes
lent_there : TablesTold forked forked_tables
lent_there = every_tables_told forked forked_tables (forked_words ++ (999 ∷ [])) forked_inside (forked_sound (999 ∷ []))

-- whatever log and buffer it comes with, W 8 0 0 is given block 7, unless these are at fault
module _ (i : Request) (c : i.call ≡ Write 8 0 0) (n : NoneBefore 5 (all_conditions forked (met_by forked_tables i) i.call)) where
  abbrev lent_ledger : Ledger
  lent_ledger = lent_there.ledger

  lent_now : SameBlocks lent_there.ledger (state_of forked forked_tables)
  lent_now = lent_there.told.told.blocks []

  pub lent_W_gives : reply forked (met_by forked_tables i) i.call ≡ accepted (7 ∷ 8 ∷ [])
  lent_W_gives = lent_there.told.told.says [] i n ∙ ap (says forked lent_ledger) c ∙ (says_W lent_ledger lent_there.same lent_now).0

  -- its word is the fifth of that log, and of the buffer two numbers are changed
  pub lent_W_leaves : ((after forked (met_by forked_tables i) i.call).log ≡ write_at i.log 32 (bytes_of (0x1_c001 ∷ []))) ×
      ((after forked (met_by forked_tables i) i.call).out ≡ 7 ∷ 8 ∷ drop 2 i.out)
  unfolding out_after
  lent_W_leaves = (
    lent_there.told.log [] i ∙ ap (λ (r : Reply). leaves r i.log (placed forked lent_ledger i.call i.log)) lent_W_gives ∙
        ap (λ (d : Command). placed forked lent_ledger d i.log) c ∙ placed_then lent_ledger lent_there.same lent_now i.log,
    lent_there.told.out [] i ∙ ap (λ (r : Reply). out_after r i.out) lent_W_gives,
  )
