-- N, U and M: answered as the ledger says, and what N and U leave is what the ledger keeps.
use mathlib.Core.Path.{◌≡◌, sym, ap, ap₂, ◌∙◌, subst}
use mathlib.Core.Bool.{Bool, false, not, ◌&&◌, ◌||◌}
use mathlib.Core.List.{List, [], ◌∷◌, map}
use Prim.Native.Nat.{ℕ, ◌-◌}
use native.Mathlib.Omega.{arith}
use lib.Dec.{eqb, ltb, leb}
use lib.ListN.{length, length-append}
use borrow.Author.Tests.{le-ltb, eqb-false}
use Rattle.answer.proofs.Cases.{cases, either}
use Rattle.geometry.specs.declared.Geometry.{Geometry}
use Rattle.geometry.specs.Limits.{Inside}
use Rattle.model.specs.Table.{via}
use Rattle.model.specs.Lists.{Once}
use Rattle.model.specs.Results.{plain, numbers_of}
use Rattle.model.specs.Actions.{slot_of}
use Rattle.model.specs.Names.{row_of}
use Rattle.model.specs.State.{State}
use Rattle.model.specs.Calls.{slot, carrier, not_attached}
use Rattle.model.specs.Book.{Line}
use Rattle.model.specs.Command.{Attach, Detach, Resolve}
use Rattle.model.proofs.TabFacts.{via_suc}
use Rattle.model.proofs.Fine.{Fine}
use Rattle.model.proofs.EachCall.{fits}
use Rattle.model.proofs.NameCalls.{attach_lines}
use Rattle.ledger.specs.BookReading.{is_there, may_be_written, carriers, has_name}
use Rattle.ledger.specs.Ledger.{Ledger, account, says, keeps}
use Rattle.ledger.proofs.Numbers.{numbers_in, Full}
use Rattle.ledger.proofs.Tells.{Tells, Answered, Keeping}
use Rattle.ledger.proofs.NamesRead.{name_alike, named_told, who_carries, used_alike, unknown_alike}
use Rattle.ledger.proofs.RowNames.{full_alike}
use Rattle.ledger.proofs.CallsTold.{there_told, slot_told}

-- ── the conditions ──

module _ (g : Geometry) (L : Ledger) (T : State) (inside : Inside g) (fine : Fine g T) (t : Tells g L T) where
  no_words : ltb (g.words - length L.log) 0 ≡ false
  no_words = le-ltb (g.words - length L.log) 0 (omega arith)

  -- 17 of N, of a record that is there: "a name in use, …, a second on an open record or a thirty-third" (7.1)
  not_attached_told : (l : List ℕ) (r : ℕ) → eqb (slot_of T.view r) 0 ≡ false →
      (ltb 0 (length (carriers L.book l)) || ((may_be_written L.book r && has_name L.book r) || leb 32 (length L.book.names))) ≡ (not_attached T l r).1
  not_attached_told l r n =
      let X = T.notes.titles in
      let ps = L.book.names in
      let (w, s) = slot_told g L T inside fine t r n in
      let writable : may_be_written L.book r ≡ ltb 0 (T.view.is_open (slot T r)) = w.writable ∙ ap (λ (z : ℕ). ltb 0 (T.view.is_open z)) s in
      ap₂ (λ (p q : Bool). p || q) (used_alike T.view X T.notes.names ps t.names l)
      (ap₂ (λ (p q : Bool). p || q) (ap₂ (λ (p q : Bool). p && q) writable (named_told g L T inside fine t r n))
      (full_alike T.view X T.notes.names ps t.names))

  -- 17 of U and M: "an unknown one" (7.1)
  unknown_told : (l : List ℕ) → eqb (length (carriers L.book l)) 0 ≡ eqb (row_of T.notes.titles l) 0
  unknown_told l = unknown_alike T.view T.notes.titles T.notes.names L.book.names t.names l

  -- the number that M gives
  carrier_told : (l : List ℕ) → eqb (row_of T.notes.titles l) 0 ≡ false →
      numbers_of (map plain (carriers L.book l)) ≡ via T.view.num (carrier T l) ∷ []
  unfolding numbers_of
  carrier_told l n =
      cases (who_carries T.view T.notes.titles T.notes.names L.book.names t.names l)
      (λ w.
      ap (λ (ns : List ℕ). numbers_of (map plain ns)) w.booked ∙
      ap {B = List ℕ} (λ (m : ℕ). m ∷ []) (sym (ap (via T.view.num) w.owner ∙ via_suc T.view.num w.slot)))
      (λ w. absurd (eqb-false (row_of T.notes.titles l) 0 n w.row))

-- ── N ──

pub attach_answered : (l : List ℕ) (r : ℕ) → Answered (Attach l r)
unfolding says account numbers_of
attach_answered l r g L T inside fine t =
    let there : not (is_there L.book r) ≡ eqb (slot_of T.view r) 0 = there_told T.view L.book r fine.sound t.book in
    rw (no_words g L T inside fine t, name_alike l, there)
    (cases (either (eqb (slot_of T.view r) 0)) (λ y. rw y) (λ n. rw (n, not_attached_told g L T inside fine t l r n)))

pub attach_kept : (l : List ℕ) (r : ℕ) → Keeping (Attach l r)
unfolding keeps account
attach_kept l r g L T inside fine t n =
    let f = (fits g inside T fine (Attach l r) n).2 in
    let same = attach_lines L.book g.pages 0 l r in
    record {
      book = f.agree L.book 0 t.book;
      once = subst (λ (ls : List Line). Once (numbers_in ls)) (sym same) t.once;
      full = subst Full (sym same) t.full;
      birth = t.birth;
      lists = t.lists;
      counter = t.counter;
      turn = t.turn;
      marks = t.marks;
      used = omega (arith, t.used, length-append L.log []);
      waiting = t.waiting;
      queue = t.queue;
      windows = f.windows L.book 0 t.book t.windows;
      names = f.sides L.book 0 t.book t.names;
    }

-- ── U ──

pub detach_answered : (l : List ℕ) → Answered (Detach l)
unfolding says account numbers_of
detach_answered l g L T inside fine t = rw (no_words g L T inside fine t, name_alike l, unknown_told g L T inside fine t l)

pub detach_kept : (l : List ℕ) → Keeping (Detach l)
unfolding keeps account
detach_kept l g L T inside fine t n =
    let f = (fits g inside T fine (Detach l) n).2 in
    record {
      book = f.agree L.book 0 t.book;
      once = t.once;
      full = t.full;
      birth = t.birth;
      lists = t.lists;
      counter = t.counter;
      turn = t.turn;
      marks = t.marks;
      used = omega (arith, t.used, length-append L.log []);
      waiting = t.waiting;
      queue = t.queue;
      windows = f.windows L.book 0 t.book t.windows;
      names = f.sides L.book 0 t.book t.names;
    }

-- ── M ──

pub resolve_answered : (l : List ℕ) → Answered (Resolve l)
unfolding says account
resolve_answered l g L T inside fine t =
    rw (no_words g L T inside fine t, name_alike l, unknown_told g L T inside fine t l)
    (cases (either (eqb (row_of T.notes.titles l) 0)) (λ y. rw y) (λ n. rw (n, carrier_told g L T inside fine t l n)))
