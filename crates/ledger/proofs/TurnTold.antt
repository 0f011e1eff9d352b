-- T: answered as the ledger says, and what it leaves is what the ledger keeps.
use mathlib.Core.Path.{◌≡◌, sym, ap, ap₂, ◌∙◌}
use mathlib.Core.List.{List, ◌++◌, map}
use Prim.Native.Nat.{ℕ, ◌+◌}
use lib.ListN.{length, take, drop, length-append}
use Rattle.geometry.specs.declared.Geometry.{Geometry}
use Rattle.alloc_log.specs.Word.{released}
use Rattle.model.specs.Results.{paired, numbers_of}
use Rattle.model.specs.State.{State}
use Rattle.model.specs.Calls.{first_queued, reclaimed}
use Rattle.model.specs.Command.{Reclaim}
use Rattle.ledger.specs.Ledger.{Ledger, blocks_of, after_turn, account, says, keeps}
use Rattle.ledger.proofs.QueuePairs.{entries, entry_items, entry_blocks, entries_first, entries_left, entry_numbers}
use Rattle.ledger.proofs.Tells.{Tells, Answered, Keeping}

module _ (g : Geometry) (L : Ledger) (T : State) (t : Tells g L T) (k : ℕ) where
  -- the first k of the ledger's queue are the store's
  first_entries : take k L.queue ≡ entries T.queue.birth (first_queued T k)
  first_entries = ap (λ (q : List (ℕ × ℕ)). take k q) t.queue ∙ entries_first T.queue.birth k T.queue.list

  pub turn_frees_lem : blocks_of (take k L.queue) ≡ first_queued T k
  turn_frees_lem = ap (λ (q : List (ℕ × ℕ)). blocks_of q) first_entries ∙ entry_blocks T.queue.birth (first_queued T k)

  -- and so are their births
  pub turn_gives : numbers_of (entry_items (take k L.queue)) ≡ paired T.queue.birth (first_queued T k)
  turn_gives = ap (λ (q : List (ℕ × ℕ)). numbers_of (entry_items q)) first_entries ∙ entry_numbers T.queue.birth (first_queued T k)

pub turn_answered : (k : ℕ) → Answered (Reclaim k)
unfolding says account after_turn
turn_answered k g L T inside fine t = rw (turn_frees_lem g L T t k, turn_gives g L T t k, t.used)

pub turn_kept : (k : ℕ) → Keeping (Reclaim k)
unfolding keeps account after_turn reclaimed
turn_kept k g L T inside fine t n = record {
  book = t.book;
  once = t.once;
  full = t.full;
  birth = t.birth;
  lists = t.lists;
  counter = t.counter;
  turn = t.turn;
  marks = t.marks;
  used = rw (turn_frees_lem g L T t k)
      (ap (λ (m : ℕ). m + length (map released (first_queued T k))) t.used ∙ sym (length-append L.log (map released (first_queued T k))));
  waiting = ap₂ {C = List ℕ} (λ (l m : List ℕ). l ++ m) t.waiting (turn_frees_lem g L T t k);
  queue = ap (λ (q : List (ℕ × ℕ)). drop k q) t.queue ∙ entries_left T.queue k fine.queue.once;
  windows = t.windows;
  names = t.names;
}
