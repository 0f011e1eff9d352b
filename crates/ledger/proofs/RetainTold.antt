-- K: answered as the ledger says, and what it leaves is what the ledger keeps.
use mathlib.Core.Path.{◌≡◌, refl, sym, ap, ap₂, subst}
use mathlib.Core.Bool.{false, not}
use mathlib.Core.List.{List, [], ◌∷◌, ◌++◌, map}
use Prim.Native.Nat.{ℕ, ◌-◌, ◌<◌}
use native.Mathlib.Omega.{arith}
use lib.Dec.{eqb, ltb}
use lib.ListN.{length, length-append}
use borrow.Author.Tests.{le-ltb}
use Rattle.answer.proofs.Cases.{cases, either}
use Rattle.model.specs.Lists.{Once}
use Rattle.model.specs.Results.{numbers_of}
use Rattle.model.specs.Actions.{slot_of}
use Rattle.model.specs.Book.{Rec, Line, in_recs, set_window, retained}
use Rattle.model.specs.Command.{Retain}
use Rattle.model.proofs.EachCall.{fits}
use Rattle.ledger.specs.BookReading.{is_there}
use Rattle.ledger.specs.Ledger.{account, says, keeps}
use Rattle.ledger.proofs.Numbers.{numbers_in, Full}
use Rattle.ledger.proofs.Tells.{Answered, Keeping}
use Rattle.ledger.proofs.CallsTold.{there_told}
use Rattle.ledger.proofs.KillTold.{sealed_told}

pub retain_answered : (r k : ℕ) → Answered (Retain r k)
unfolding says account numbers_of
retain_answered r k g L T inside fine t =
    let none : ltb (g.words - length L.log) 0 ≡ false = le-ltb (g.words - length L.log) 0 (omega arith) in
    let there : not (is_there L.book r) ≡ eqb (slot_of T.view r) 0 = there_told T.view L.book r fine.sound t.book in
    rw (none, there)
    (cases (either (eqb (slot_of T.view r) 0)) (λ y. rw y) (λ n. rw (n, sealed_told g L T inside fine t r n)))

-- a window set changes no record
same_recs : (r k : ℕ) (l : Line) → (set_window r k l).recs ≡ l.recs
unfolding set_window
same_recs r k l = cases (either (in_recs r l.recs)) (λ y. rw y) (λ n. rw n)

set_numbers : (r k : ℕ) (ls : List Line) → numbers_in (map (set_window r k) ls) ≡ numbers_in ls
unfolding numbers_in
set_numbers r k [] = refl
set_numbers r k (l ∷ ls) =
    ap₂ {C = List ℕ} (λ a b. a ++ b) (ap Rattle.ledger.proofs.Numbers.numbers_of (same_recs r k l)) (set_numbers r k ls)

set_full : (r k : ℕ) (ls : List Line) → Full ls → Full (map (set_window r k) ls)
set_full r k [] h = h
set_full r k (l ∷ ls) h = (subst (λ (qs : List Rec). 0 < length qs) (sym (same_recs r k l)) h.0, set_full r k ls h.1)

pub retain_kept : (r k : ℕ) → Keeping (Retain r k)
unfolding keeps account retained
retain_kept r k g L T inside fine t n =
    let f = (fits g inside T fine (Retain r k) n).2 in
    record {
      book = f.agree L.book 0 t.book;
      once = subst Once (sym (set_numbers r k L.book.lines)) t.once;
      full = set_full r k L.book.lines t.full;
      birth = t.birth;
      lists = t.lists;
      counter = t.counter;
      turn = t.turn;
      marks = t.marks;
      used = omega (arith, t.used, length-append L.log []);
      waiting = t.waiting;
      queue = t.queue;
      windows = f.windows L.book 0 t.book t.windows;
      names = f.sides L.book 0 t.book t.names;
    }
