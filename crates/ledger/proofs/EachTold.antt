-- WHAT THE LEDGER OWES OF EACH CALL, in one place: a clause in `told`. All that is said of every call elsewhere goes by it, or by the call's kind.
use mathlib.Core.Path.{◌≡◌, refl, sym, ap, ◌∙◌, subst}
use mathlib.Core.Bool.{cond}
use mathlib.Core.List.{List, [], ◌∷◌, ◌++◌, map, flat_map}
use Prim.Native.Nat.{ℕ}
use native.Mathlib.Omega.{arith}
use lib.ListN.{take}
use Rattle.answer.specs.Reply.{accepted}
use Rattle.answer.specs.Refusal.{Condition, NoneHolds, Ordered}
use Rattle.geometry.specs.declared.Geometry.{Geometry}
use Rattle.geometry.specs.Limits.{Inside}
use Rattle.alloc_log.specs.Word.{released}
use Rattle.model.specs.Lists.{keep_if}
use Rattle.model.specs.Results.{Item, plain, born, born_in, blocks_in, items_of, numbers_of}
use Rattle.model.specs.Book.{Book, accept}
use Rattle.model.specs.State.{State}
use Rattle.model.specs.Calls as model
use Rattle.model.specs.Calls.{looking, as_noted, renews, words_by, left_by, conditions, written, effect, spelling}
use Rattle.model.specs.History.{first_given, events_of}
use Rattle.model.specs.Crash.{is_c}
use Rattle.model.specs.declared.Spelling.{Spelling}
use Rattle.model.specs.Command.{Command}
use Rattle.model.specs.Command.{Begin, Write, Erase, Seal, Fork, Delete, Read, Barrier, Compress, FreeList, Estimate, Retain, Reclaim}
use Rattle.model.specs.Command.{Attach, Detach, Resolve}
use Rattle.model.proofs.ByNumber.{none_at}
use Rattle.model.proofs.Fine.{Fine}
use Rattle.ledger.specs.BookReading.{block_on, carriers}
use Rattle.ledger.specs.Ledger.{Ledger, with_births, is_free, young, picked, runs_in, after_kill, after_giving, after_delete, after_turn, after_clearing}
use Rattle.ledger.specs.Ledger.{account, refusals_of, block_given, keeps}
use Rattle.ledger.proofs.Tells.{Tells, Answered, Keeping, unmoved, still_told, list_answered}
use Rattle.ledger.proofs.CallsTold.{barrier_answered, barrier_kept, compress_answered, compress_kept, compressed_told, read_answered}
use Rattle.ledger.proofs.KillTold.{kill_told, erase_answered}
use Rattle.ledger.proofs.WriteTold.{picked_told, write_answered}
use Rattle.ledger.proofs.OpenTold.{begin_answered, fork_answered}
use Rattle.ledger.proofs.DeleteTold.{delete_answered}
use Rattle.ledger.proofs.EstimateTold.{estimate_answered}
use Rattle.ledger.proofs.GrowKept.{begin_kept, fork_kept}
use Rattle.ledger.proofs.SealTold.{closed_log, seal_answered, seal_kept}
use Rattle.ledger.proofs.RetainTold.{retain_answered, retain_kept}
use Rattle.ledger.proofs.NamingTold.{attach_answered, attach_kept, detach_answered, detach_kept, resolve_answered}
use Rattle.ledger.proofs.KillKept.{erase_kept, write_kept}
use Rattle.ledger.proofs.DeleteKept.{delete_kept}
use Rattle.ledger.proofs.QueuePairs.{items_entries}
use Rattle.ledger.proofs.TurnTold.{turn_frees_lem, turn_answered, turn_kept}

-- its log words are the model's
abbrev pub Words : Command → Type 0
Words c = (g : Geometry) (L : Ledger) (T : State) → Inside g → Fine g T → Tells g L T → NoneHolds (conditions g T c) → (account g L c).words ≡ written g T c

-- its items are its numbers, by the spelling of the call
abbrev pub Spells : Command → Type 0
Spells c = (g : Geometry) (L : Ledger) → items_of (spelling c) (numbers_of (account g L c).result) ≡ (account g L c).result

-- all that it may be turned away for stands in the order of the refusals, after 4
abbrev pub InOrder : Command → Type 0
InOrder c = (g : Geometry) (L : Ledger) → Ordered 4 (refusals_of g L c)

pub record Told (c : Command) : Type 0 where
  -- it is answered as the ledger says, and leaves what the ledger keeps
  pub answered : Answered c
  pub keeping : Keeping c
  pub words : Words c
  -- they go after the log, those of C to its start
  pub log : (g : Geometry) (L : Ledger) → (account g L c).leaving.log ≡ cond (is_c c) [] L.log
  pub items : Spells c
  -- the book is told the block that a W gave, and reads it for no other call
  pub block : (g : Geometry) (L : Ledger) (B : Book) →
      accept g.pages B c (block_given (account g L c).result) ≡
      accept g.pages B c (first_given (events_of c (accepted (numbers_of (account g L c).result))))
  pub ordered : InOrder c

-- ── a call that looks only ──

-- in the ledger: it writes nothing and leaves all
abbrev pub Still : Command → Type 0
Still c = (g : Geometry) (L : Ledger) → ((account g L c).words ≡ []) × ((account g L c).leaving ≡ L)

module _ (c : Command) {s : Spelling} {cs : Geometry → State → List Condition} {res : Geometry → State → List ℕ}
    (e : model.account c ≡ looking s cs res as_noted) (unread : (P : ℕ) (B : Book) (b : ℕ) → accept P B c b ≡ B) (z : Still c) where
  still_kept : Keeping c
  unfolding keeps
  still_kept g L T inside fine t n =
      let left : effect g T c ≡ T = ap (left_by g T) e in
      let same : keeps g L c ≡ unmoved L = λ j. record {
        book = unread g.pages L.book (block_given (account g L c).result) j;
        birth = ((z g L).1 j).birth;
        deadlist = ((z g L).1 j).deadlist;
        writes = ((z g L).1 j).writes;
        given = ((z g L).1 j).given;
        log = ((z g L).1 j).log ++ (z g L).0 j;
        waiting = ((z g L).1 j).waiting;
        queue = ((z g L).1 j).queue;
      } in
      subst (λ (U : State). Tells g (keeps g L c) U) (sym left) (subst (λ (M : Ledger). Tells g M T) (sym same) (still_told g L T t))

  looks_told : Answered c → Spells c → InOrder c → Told c
  looks_told a i o = record {
    answered = a;
    keeping = still_kept;
    words = λ g L T inside fine t n. (z g L).0 ∙ sym (ap (words_by g T) e);
    log = λ g L. ap (λ (M : Ledger). M.log) (z g L).1 ∙ ap (λ A. cond (renews A) [] L.log) (sym e);
    items = i;
    block = λ g L B. unread g.pages B _ ∙ sym (unread g.pages B _);
    ordered = o;
  }

-- ── items ──

items_born : (L : Ledger) (bs : List ℕ) → born_in (numbers_of (with_births L bs)) ≡ with_births L bs
unfolding with_births numbers_of born_in
items_born L [] = refl
items_born L (b ∷ bs) = ap {B = List Item} (λ l. born b (L.birth b) ∷ l) (items_born L bs)

items_runs : (l : List (ℕ × ℕ)) → map plain (numbers_of (flat_map (λ s. plain s.0 ∷ plain s.1 ∷ []) l)) ≡ flat_map (λ s. plain s.0 ∷ plain s.1 ∷ []) l
unfolding flat_map numbers_of
items_runs [] = refl
items_runs (s ∷ l) = ap {B = List Item} (λ m. plain s.0 ∷ plain s.1 ∷ m) (items_runs l)

items_plain : (ns : List ℕ) → map plain (numbers_of (map plain ns)) ≡ map plain ns
unfolding numbers_of
items_plain [] = refl
items_plain (n ∷ ns) = ap {B = List Item} (λ l. plain n ∷ l) (items_plain ns)

-- ── each call ──

pub told : (c : Command) → Told c
unfolding account after_kill after_giving after_delete after_turn after_clearing items_of numbers_of born_in block_given blocks_in
told Begin = record {
  answered = begin_answered;
  keeping = begin_kept;
  words = λ g L T inside fine t n. refl;
  log = λ g L. refl;
  items = λ g L. refl;
  block = λ g L B. refl;
  ordered = λ g L. omega arith;
}
told (Write r x k) = record {
  answered = write_answered r x k;
  keeping = write_kept r x k;
  words = λ g L T inside fine t n. rw (kill_told g L T inside fine t r x (none_at (conditions g T (Write r x k)) n 8), picked_told g L T inside fine t k);
  log = λ g L. refl;
  items = λ g L. ap {B = List Item} (λ l. born (picked g L k) r ∷ l) (items_born L (keep_if (young L r) (block_on L.book r x)));
  block = λ g L B. refl;
  ordered = λ g L. omega arith;
}
told (Erase r x) = record {
  answered = erase_answered r x;
  keeping = erase_kept r x;
  words = λ g L T inside fine t n. ap (map released) (kill_told g L T inside fine t r x (none_at (conditions g T (Erase r x)) n 8));
  log = λ g L. refl;
  items = λ g L. items_born L (keep_if (young L r) (block_on L.book r x));
  block = λ g L B. refl;
  ordered = λ g L. omega arith;
}
told (Seal r) = record {
  answered = seal_answered r;
  keeping = seal_kept r;
  words = λ g L T inside fine t n. refl;
  log = closed_log r;
  items = λ g L. refl;
  block = λ g L B. refl;
  ordered = λ g L. omega arith;
}
told (Fork r) = record {
  answered = fork_answered r;
  keeping = fork_kept r;
  words = λ g L T inside fine t n. refl;
  log = λ g L. refl;
  items = λ g L. refl;
  block = λ g L B. refl;
  ordered = λ g L. omega arith;
}
told (Delete r) = record {
  answered = delete_answered r;
  keeping = delete_kept r;
  words = λ g L T inside fine t n. refl;
  log = λ g L. refl;
  items = λ g L. refl;
  block = λ g L B. refl;
  ordered = λ g L. omega arith;
}
told (Read r x) =
    looks_told (Read r x) refl (λ P B b. refl) (λ g L. (refl, refl)) (read_answered r x) (λ g L. items_born L (block_on L.book r x)) (λ g L. omega arith)
told Barrier = record {
  answered = barrier_answered;
  keeping = barrier_kept;
  words = λ g L T inside fine t n. refl;
  log = λ g L. refl;
  items = λ g L. refl;
  block = λ g L B. refl;
  ordered = λ g L. omega arith;
}
told Compress = record {
  answered = compress_answered;
  keeping = compress_kept;
  words = λ g L T inside fine t n. compressed_told g L T fine t;
  log = λ g L. refl;
  items = λ g L. refl;
  block = λ g L B. refl;
  ordered = λ g L. omega arith;
}
told FreeList = looks_told FreeList refl (λ P B b. refl) (λ g L. (refl, refl)) list_answered (λ g L. items_runs (runs_in g (is_free L))) (λ g L. omega arith)
told (Estimate r) = looks_told (Estimate r) refl (λ P B b. refl) (λ g L. (refl, refl)) (estimate_answered r) (λ g L. refl) (λ g L. omega arith)
told (Retain r k) = record {
  answered = retain_answered r k;
  keeping = retain_kept r k;
  words = λ g L T inside fine t n. refl;
  log = λ g L. refl;
  items = λ g L. refl;
  block = λ g L B. refl;
  ordered = λ g L. omega arith;
}
told (Reclaim k) = record {
  answered = turn_answered k;
  keeping = turn_kept k;
  words = λ g L T inside fine t n. ap (map released) (turn_frees_lem g L T t k);
  log = λ g L. refl;
  items = λ g L. items_entries (take k L.queue);
  block = λ g L B. refl;
  ordered = λ g L. omega arith;
}
told (Attach l r) = record {
  answered = attach_answered l r;
  keeping = attach_kept l r;
  words = λ g L T inside fine t n. refl;
  log = λ g L. refl;
  items = λ g L. refl;
  block = λ g L B. refl;
  ordered = λ g L. omega arith;
}
told (Detach l) = record {
  answered = detach_answered l;
  keeping = detach_kept l;
  words = λ g L T inside fine t n. refl;
  log = λ g L. refl;
  items = λ g L. refl;
  block = λ g L B. refl;
  ordered = λ g L. omega arith;
}
told (Resolve l) =
    looks_told (Resolve l) refl (λ P B b. refl) (λ g L. (refl, refl)) (resolve_answered l) (λ g L. items_plain (carriers L.book l)) (λ g L. omega arith)
