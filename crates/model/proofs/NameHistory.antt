-- Names over histories: what M answers is what the book has, and S moves the name of its record. The statements are in specs/HistoryFacts.antt.
use mathlib.Core.Path.{◌≡◌, refl, sym, ap, ◌∙◌, subst}
use mathlib.Core.Logic.{◌↔◌, inl, inr}
use mathlib.Core.Bool.{Bool, true, false, cond, true≢false}
use mathlib.Core.List.{List, [], ◌∷◌, ◌++◌}
use Prim.Native.Nat.{ℕ, suc, ◌+◌, ◌<◌}
use native.Mathlib.Omega.{arith}
use lib.ListN.{get_or}
use Rattle.answer.specs.Reply.{Reply, accepted, refused}
use Rattle.answer.specs.Refusal.{NoneBefore, NoneHolds, decide}
use Rattle.answer.proofs.Cases.{cases}
use Rattle.answer.proofs.Decided.{accepted_not}
use Rattle.geometry.specs.declared.Geometry.{Geometry}
use Rattle.geometry.specs.Limits.{Inside}
use Rattle.model.specs.Names.{ValidName}
use Rattle.model.specs.State.{State, fresh}
use Rattle.model.specs.Calls.{slot, unknown_name, conditions, result}
use Rattle.model.specs.Book.{NameOn, Book, empty_book, in_lines, window_with, names_moved, rec_sealed, enter}
use Rattle.model.specs.NameBook.{SealMoved}
use Rattle.model.specs.History.{Entry, entry_of, told, book_from, book}
use Rattle.model.specs.HistoryFacts.{ResolveIs}
use Rattle.model.specs.Model.{Screened, screened_conditions, answer, model, state_after, history}
use Rattle.model.specs.Command.{Command, Seal, Resolve}
use Rattle.model.proofs.ByNumber.{earlier_at}
use Rattle.model.proofs.BookFacts.{in_lines_lem}
use Rattle.model.proofs.Along.{history_append}
use Rattle.model.proofs.NameBytes.{valid_iff}
use Rattle.model.proofs.NameBook.{moved_has}
use Rattle.model.proofs.NameActions.{trimmed_names}
use Rattle.model.proofs.NameFacts.{resolve_replies, unknown_told}
use Rattle.model.proofs.ModelFacts.{accepted_is}
use Rattle.model.proofs.Closing.{closing_first}
use Rattle.model.proofs.Fine.{named_slot}
use Rattle.model.proofs.StepFacts.{reached}

-- ── M ──

-- where 2, 3 and 4 are not true, the call's own conditions decide
past_memory : (g : Geometry) (T : State) (i : Screened) → NoneBefore 5 (screened_conditions g T i) →
    answer g T i ≡ decide (conditions g T i.call) (result g T i.call)
unfolding answer
past_memory g T i n =
    let past = earlier_at (screened_conditions g T i) 5 n in
    rw (past 2 (omega arith), past 3 (omega arith), past 4 (omega arith))

-- of a valid name, M is refused with 17 or accepted
resolve_17 : (g : Geometry) (T : State) (l : List ℕ) → ValidName l →
    (decide (conditions g T (Resolve l)) (result g T (Resolve l)) ≡ refused 17) ↔ ((unknown_name T l).1 ≡ true)
resolve_17 g T l v = rw ((valid_iff l).1 v) (by (unknown_name T l).1)
  where
    by : (t : Bool) → (cond t (refused 17) (accepted (result g T (Resolve l))) ≡ refused 17) ↔ (t ≡ true)
    by true = (λ e. refl, λ e. refl)
    by false = (λ e. absurd (accepted_not e), λ e. absurd (true≢false (sym e)))

pub resolve_is : (g : Geometry) → (inside : Inside g) → (before : List Screened) (i : Screened) (l : List ℕ) → i.call ≡ Resolve l → ValidName l →
    NoneBefore 5 (screened_conditions g (state_after g before) i) → ResolveIs (book g.pages (history g before)).names l (answer g (state_after g before) i)
resolve_is g inside before i l e v n =
    let R = reached g inside before in
    let T = state_after g before in
    let B : Book = book g.pages (history g before) in
    let past : answer g T i ≡ decide (conditions g T (Resolve l)) (result g T (Resolve l)) =
    past_memory g T i n ∙ ap (λ (c : Command). decide (conditions g T c) (result g T c)) e in
    let known = resolve_replies T B R.fine.sound R.inv.agree R.names g l in
    let absent = unknown_told T B R.fine.sound R.inv.agree R.names l in
    let turned = resolve_17 g T l v in
    record {
      gives = λ r. (λ a. (known r).0 (sym past ∙ a), λ h. past ∙ (known r).1 h);
      unknown = (λ a. absent.0 (turned.0 (sym past ∙ a)), λ h. past ∙ turned.1 (absent.1 h));
    }

-- ── S ──

pub moved_names : (ps : List NameOn) (r m : ℕ) → r < m → SealMoved ps (names_moved ps r m) r m
moved_names ps r m h = record {
  moved = λ l a. (moved_has ps r m l m).1 (inl (refl, a));
  none = λ l a. cases ((moved_has ps r m l r).0 a) (λ w. let z : ⊥ = omega (arith, w.0) in z) (λ w. w.0 refl);
  others = λ l n d a. (moved_has ps r m l n).1 (inr (d, a));
  only = λ l n a. cases ((moved_has ps r m l n).0 a) (λ w. inl w) (λ w. inr w.1);
}

-- the book after one more entry
book_from_lem : (P : ℕ) (e : Entry) (h : List Entry) (B : Book) → book_from P B (h ++ (e ∷ [])) ≡ enter P (book_from P B h) (told e)
book_from_lem P e [] B = refl
book_from_lem P e (d ∷ h) B = book_from_lem P e h (enter P B (told d))

-- its names after an accepted S of a record that it has
names_sealed : (P : ℕ) (B : Book) (e : Entry) (r : ℕ) (l : List ℕ) → e.call ≡ Seal r → e.answer ≡ accepted l → in_lines r B.lines ≡ true →
    (enter P B (told e)).names ≡ names_moved B.names r (B.last + 1)
unfolding enter rec_sealed
names_sealed P B e r l c a there =
    ap (λ (d : Command). (enter P B (told (record { call = d; answer = e.answer }))).names) c ∙
    ap (λ (d : Reply). (enter P B (told (record { call = Seal r; answer = d }))).names) a ∙
    rw there (trimmed_names (rec_sealed B r) (window_with r B.lines) r)

pub seal_moves : (g : Geometry) → (inside : Inside g) → (before : List Screened) (i : Screened) (r m : ℕ) (rest : List ℕ) → i.call ≡ Seal r →
    answer g (state_after g before) i ≡ accepted (m ∷ rest) →
    SealMoved (book g.pages (history g before)).names (book g.pages (history g (before ++ (i ∷ [])))).names r m
seal_moves g inside before i r m rest c e =
    let R = reached g inside before in
    let T = state_after g before in
    let B : Book = book g.pages (history g before) in
    let entry : Entry = entry_of (model g) T i in
    let w = accepted_is g T i (m ∷ rest) e in
    let o = closing_first g T r (subst (λ d. NoneHolds (conditions g T d)) c w.0) in
    let h = named_slot g inside T R.fine r o.eight in
    let new : suc T.view.last ≡ m = ap (λ (l : List ℕ). get_or l 0 0) (sym (ap (result g T) c) ∙ w.1) in
    let next : B.last + 1 ≡ m = omega (arith, R.inv.agree.last) in
    let less : r < m = omega (arith, (R.fine.sound.links.records (slot T r) h.0).given, h.1) in
    let there = in_lines_lem r B.lines (let s = R.inv.agree.stored (slot T r) h.0 in rw h.1 at s) in
    let after : (book g.pages (history g (before ++ (i ∷ [])))).names ≡ names_moved B.names r m =
    ap (λ H. (book g.pages H).names) (history_append (model g) before (i ∷ []) (fresh g)) ∙
    ap (λ C. C.names) (book_from_lem g.pages entry (history g before) empty_book) ∙
    names_sealed g.pages B entry r (m ∷ rest) c e there ∙ ap (names_moved B.names r) next in
    subst (λ qs. SealMoved B.names qs r m) (sym after) (moved_names B.names r m less)
