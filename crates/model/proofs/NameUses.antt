-- A USE FOR EACH STATEMENT ABOUT NAMES OVER HISTORIES, AND FOR THEIR REFUSALS: replies that were heard, and what follows from them by the statement's name.
-- Each use needs the statement's full strength. Most of them refuse a reply that a wrong program would give.
use mathlib.Core.Path.{◌≡◌, refl, sym, ap, ◌∙◌, subst}
use mathlib.Core.Logic.{inl, inr}
use mathlib.Core.Bool.{false}
use mathlib.Core.List.{List, [], ◌∷◌, ◌++◌}
use Prim.Native.Nat.{ℕ, zero, suc, ◌≤◌}
use native.Mathlib.Omega.{arith}
use lib.ListN.{length}
use Rattle.answer.specs.Reply.{accepted, refused}
use Rattle.answer.specs.Refusal.{NoneBefore}
use Rattle.answer.proofs.Cases.{cases}
use Rattle.geometry.specs.declared.Geometry.{Geometry}
use Rattle.geometry.specs.Limits.{Inside}
use Rattle.model.specs.Table.{put}
use Rattle.model.specs.Names.{ValidName}
use Rattle.model.specs.Results.{blocks_in}
use Rattle.model.specs.Layout.{state_of}
use Rattle.model.specs.Memory.{Memory, short?, reply, make_reply, make_after}
use Rattle.model.specs.SoundStore.{SoundStore}
use Rattle.model.specs.Book.{NameOn, empty_book, enter, open_line, page_set, in_line, set_page, in_recs, in_lines, rec_sealed, seal_rec, rec_out, drop_rec}
use Rattle.model.specs.Book.{keep_line, drop_in, window_with, taken_out, recs_out, trimmed, names_moved, name_added, name_off}
use Rattle.model.specs.NameBook.{HasName}
use Rattle.model.specs.History.{Machine, Entry, state_from, history_from, book}
use Rattle.model.specs.HistoryFacts.{HistoryFacts}
use Rattle.model.specs.Demand.{Request, machine, Own, own_store}
use Rattle.model.specs.RefusalMeans.{BadName, InUse, HasAName, There, RowsFull}
use Rattle.model.specs.NameMeans.{NamesRefused}
use Rattle.model.specs.Command.{Begin, Seal, Delete, Estimate, Attach, Detach, Resolve}
use Rattle.model.proofs.Demands.{demand, own_facts}
use Rattle.model.proofs.NameMeaning.{name_refusals}
use Rattle.model.proofs.Uses.{two, gave}

-- ── what is heard ──

-- two names
abbrev pub a : List ℕ
a = 97 ∷ []

abbrev pub b : List ℕ
b = 98 ∷ []

pub valid_a : ValidName a
valid_a = record { some = omega arith; short = omega arith; letter = λ c i. cases i (λ e. (omega arith, omega arith)) (λ z. absurd z) }

-- the name is on record 1, which is open
abbrev pub named_1 : List Entry
named_1 = gave Begin (1 ∷ []) ∷ gave (Attach a 1) [] ∷ []

-- record 1 was sealed: the name is on record 2
abbrev pub named_2 : List Entry
named_2 = named_1 ++ (gave (Seal 1) (2 ∷ []) ∷ [])

-- the name was put on record 1 after it was sealed
abbrev pub named_sealed : List Entry
named_sealed = gave Begin (1 ∷ []) ∷ gave (Seal 1) (2 ∷ []) ∷ gave (Attach a 1) [] ∷ []

-- n names more on record 1, each of one byte
abbrev pub more_names : ℕ → List Entry
more_names zero = []
more_names (suc n) = gave (Attach (n ∷ []) 1) [] ∷ more_names n

-- the names in the book of what was heard: to unfold it is to unfold all that it is told by
unfoldable pub names_heard : List Entry → List NameOn
unfolding put empty_book enter open_line page_set in_line set_page in_recs in_lines rec_sealed seal_rec rec_out drop_rec keep_line drop_in blocks_in window_with taken_out
    recs_out trimmed
    names_moved
    name_added
    name_off
names_heard H = (book 2 H).names

heard_1 : (book 2 named_1).names ≡ (a, 1) ∷ []
unfolding names_heard
heard_1 = refl

heard_2 : (book 2 named_2).names ≡ (a, 2) ∷ []
unfolding names_heard
heard_2 = refl

-- ── NAMES OVER HISTORIES, of any store with two blocks and two pages ──

module _ (M : Machine) (T : M.Tables) (D : (l : List M.Asked) → HistoryFacts M 2 2 T l) where
  -- the names of the book are those of what was heard
  heard : (before : List M.Asked) (H : List Entry) (ps : List NameOn) → history_from M T before ≡ H → (book 2 H).names ≡ ps →
      (book 2 (history_from M T before)).names ≡ ps
  heard before H ps e d = ap (λ K. (book 2 K).names) e ∙ d

  -- `resolve_is`: after S of record 1 the name is on record 2. A wrong program says 1, or 17
  pub M_gives_2 : (before : List M.Asked) → history_from M T before ≡ named_2 → (i : M.Asked) → M.call i ≡ Resolve a →
      NoneBefore 5 (M.conditions (state_from M T before) i) → M.answer (state_from M T before) i ≡ accepted (2 ∷ [])
  M_gives_2 before e i c n =
      (((D before).resolve_is i a c valid_a n).gives 2).1
      (subst (λ ps. HasName ps a 2) (sym (heard before named_2 ((a, 2) ∷ []) e heard_2)) (inl (refl, refl)))

  pub M_not_1 : (before : List M.Asked) → history_from M T before ≡ named_2 → (i : M.Asked) → M.call i ≡ Resolve a →
      NoneBefore 5 (M.conditions (state_from M T before) i) → M.answer (state_from M T before) i ≡ accepted (1 ∷ []) → ⊥
  M_not_1 before e i c n r =
      let h = subst (λ ps. HasName ps a 1) (heard before named_2 ((a, 2) ∷ []) e heard_2) ((((D before).resolve_is i a c valid_a n).gives 1).0 r) in
      cases h (λ w. let z : ⊥ = omega (arith, w.1) in z) (λ z. z)

  -- a name that nobody put on a record is unknown
  pub M_17 : (before : List M.Asked) → history_from M T before ≡ [] → (i : M.Asked) → M.call i ≡ Resolve a →
      NoneBefore 5 (M.conditions (state_from M T before) i) → M.answer (state_from M T before) i ≡ refused 17
  unfolding empty_book
  M_17 before e i c n =
      ((D before).resolve_is i a c valid_a n).unknown.1 (λ r h. subst (λ ps. HasName ps a r) (heard before [] [] e refl) h)

  -- `seal_moves`: the S of record 1 gave 2, so the name that was on 1 is on 2, and on 1 no more
  pub moved_by_S : (before : List M.Asked) → history_from M T before ≡ named_1 → (i : M.Asked) → M.call i ≡ Seal 1 →
      M.answer (state_from M T before) i ≡ accepted (2 ∷ []) →
      HasName (book 2 (history_from M T (before ++ (i ∷ [])))).names a 2 × (HasName (book 2 (history_from M T (before ++ (i ∷ [])))).names a 1 → ⊥)
  moved_by_S before e i c r =
      let m = (D before).seal_moves i 1 2 [] c r in
      (m.moved a (subst (λ ps. HasName ps a 1) (sym (heard before named_1 ((a, 1) ∷ []) e heard_1)) (inl (refl, refl))), m.none a)

  -- and no other name moves, nor is one new
  pub others_by_S : (before : List M.Asked) (i : M.Asked) (r m : ℕ) (rest : List ℕ) → M.call i ≡ Seal r →
      M.answer (state_from M T before) i ≡ accepted (m ∷ rest) → (l : List ℕ) (n : ℕ) → (n ≡ r → ⊥) → (n ≡ m → ⊥) →
      (HasName (book 2 (history_from M T before)).names l n → HasName (book 2 (history_from M T (before ++ (i ∷ [])))).names l n) ×
      (HasName (book 2 (history_from M T (before ++ (i ∷ [])))).names l n → HasName (book 2 (history_from M T before)).names l n)
  others_by_S before i r m rest c e l n d f =
      let s = (D before).seal_moves i r m rest c e in
      (s.others l n d, λ h. cases (s.only l n h) (λ w. absurd (f w.0)) (λ g. g))

  -- `open_one_lem`: a second name on an open record is not taken
  pub no_second : (before : List M.Asked) → history_from M T before ≡ named_1 ++ (gave (Attach b 1) [] ∷ []) → ⊥
  unfolding names_heard
  no_second before e =
      let same : a ≡ b = (D before).open_one_lem 1 a b (subst (λ H. Rattle.model.specs.NameBook.OpenIn (book 2 H) 1) (sym e) (inl (inl (refl, omega arith))))
      (subst (λ H. HasName (book 2 H).names a 1) (sym e) (inr (inl (refl, refl))))
      (subst (λ H. HasName (book 2 H).names b 1) (sym e) (inl (refl, refl))) in
      let z : ⊥ = omega (arith, ap (λ (l : List ℕ). lib.ListN.get_or l 0 0) same) in z

  -- `named_stays`: D of a named record is not accepted
  pub no_delete : (before : List M.Asked) → history_from M T before ≡ named_sealed ++ (gave (Delete 1) [] ∷ []) → ⊥
  unfolding names_heard
  no_delete before e =
      let here = (D before).named_stays a 1 (subst (λ H. HasName (book 2 H).names a 1) (sym e) (inl (refl, refl))) in
      let there = subst (λ H. Rattle.model.specs.NameBook.InBook (book 2 H) 1) e here in
      cases there (λ w. cases w (λ d. let z : ⊥ = omega (arith, d) in z) (λ z. z)) (λ z. z)

  -- `names_few`: the store does not take thirty-three names
  pub no_33 : (before : List M.Asked) → history_from M T before ≡ gave Begin (1 ∷ []) ∷ more_names 33 → ⊥
  unfolding names_heard
  no_33 before e =
      let n : length (book 2 (gave Begin (1 ∷ []) ∷ more_names 33)).names ≤ 32 = subst (λ H. length (book 2 H).names ≤ 32) e (D before).names_few in
      let z : ⊥ = omega (arith, n) in z

  -- `names_valid`: a capital letter is not taken
  pub no_capital : (before : List M.Asked) → history_from M T before ≡ gave Begin (1 ∷ []) ∷ gave (Attach (65 ∷ []) 1) [] ∷ [] → ⊥
  unfolding names_heard
  no_capital before e =
      let v = (D before).names_valid (65 ∷ []) 1 (subst (λ H. HasName (book 2 H).names (65 ∷ []) 1) (sym e) (inl (refl, refl))) in
      let z : ⊥ = omega (arith, (v.letter 65 (inl refl)).0) in z

  -- `names_once`: a name in use is not taken, also on its own record
  pub not_twice : (before : List M.Asked) → history_from M T before ≡ named_sealed ++ (gave (Attach a 1) [] ∷ []) → ⊥
  unfolding names_heard
  not_twice before e =
      let o = subst (λ H. Rattle.model.specs.NameBook.OnceNamed (book 2 H).names) e (D before).names_once in
      o.0 1 (inl (refl, refl))

-- of lent memory, and of a store that keeps its own log
module _ (M : Memory) (made : make_reply two M ≡ accepted []) where
  pub lent_no_second : (before : List Request) → history_from (machine two) (make_after two M).tables before ≡ named_1 ++ (gave (Attach b 1) [] ∷ []) → ⊥
  lent_no_second before e = no_second (machine two) (make_after two M).tables (λ l. (demand two M made l).1) before e

  pub own_no_delete : (before : List Own) → history_from (own_store two) (make_after two M) before ≡ named_sealed ++ (gave (Delete 1) [] ∷ []) → ⊥
  own_no_delete before e = no_delete (own_store two) (make_after two M) (λ l. (own_facts two M made l).1) before e

-- ── THE REFUSALS OF NAMES, on any sound memory ──

module _ (g : Geometry) (M : Memory) (inside : Inside g) (long : short? g M ≡ false) (sound : SoundStore g M.tables M.log) where
  refusals : NamesRefused g M (state_of g M.tables)
  refusals = name_refusals g M inside long sound

  -- 16 comes before 8 and 17, of whatever record; a name of one letter never meets it
  pub capital_16 : (r : ℕ) → reply g M (Attach (65 ∷ []) r) ≡ refused 16
  capital_16 r = (refusals.bad_N (65 ∷ []) r).1 (λ v. let z : ⊥ = omega (arith, (v.letter 65 (inl refl)).0) in z)

  -- the bytes beside the letters are no letters, and the first and the last letter are
  pub beside_a_16 : (r : ℕ) → reply g M (Attach (96 ∷ []) r) ≡ refused 16
  beside_a_16 r = (refusals.bad_N (96 ∷ []) r).1 (λ v. let z : ⊥ = omega (arith, (v.letter 96 (inl refl)).0) in z)

  pub beside_z_16 : (r : ℕ) → reply g M (Attach (123 ∷ []) r) ≡ refused 16
  beside_z_16 r = (refusals.bad_N (123 ∷ []) r).1 (λ v. let z : ⊥ = omega (arith, (v.letter 123 (inl refl)).1) in z)

  pub z_never_16 : (r : ℕ) → reply g M (Attach (122 ∷ []) r) ≡ refused 16 → ⊥
  z_never_16 r e =
      (refusals.bad_N (122 ∷ []) r).0 e
      (record { some = omega arith; short = omega arith; letter = λ c i. cases i (λ d. (omega arith, omega arith)) (λ z. absurd z) })

  pub empty_16 : (reply g M (Detach []) ≡ refused 16) × (reply g M (Resolve []) ≡ refused 16)
  empty_16 =
      let none : BadName [] = λ v. let z : ⊥ = omega (arith, v.some) in z in
      ((refusals.bad_U []).1 none, (refusals.bad_M []).1 none)

  pub a_never_16 : (r : ℕ) → reply g M (Attach a r) ≡ refused 16 → ⊥
  a_never_16 r e = (refusals.bad_N a r).0 e valid_a

  -- a name that M gives is in use: U of it is not refused 17, and N of it is, on every record of the store
  pub in_use_17 : (r s : ℕ) → InUse (state_of g M.tables) a → There (state_of g M.tables).view r s → reply g M (Attach a r) ≡ refused 17
  in_use_17 r s u t = (refusals.taken a r).1 (λ n. n valid_a, (λ n. n s t, inl u))

  pub known_not_17 : InUse (state_of g M.tables) a → (reply g M (Detach a) ≡ refused 17 → ⊥) × (reply g M (Resolve a) ≡ refused 17 → ⊥)
  known_not_17 u = (λ e. ((refusals.unknown_U a).0 e).1 u, λ e. ((refusals.unknown_M a).0 e).1 u)

  -- with all rows in use no name is put on a record that is there
  pub full_17 : (r s : ℕ) → RowsFull (state_of g M.tables) → There (state_of g M.tables).view r s → reply g M (Attach a r) ≡ refused 17
  full_17 r s f t = (refusals.taken a r).1 (λ n. n valid_a, (λ n. n s t, inr (inr f)))

  -- D and Q are refused 18 alike; a record that has no name never meets it
  pub alike_18 : (r : ℕ) → reply g M (Delete r) ≡ refused 18 → reply g M (Estimate r) ≡ refused 18
  alike_18 r e = (refusals.named_Q r).1 ((refusals.named_D r).0 e)

  pub nameless_not_18 : (r : ℕ) → (HasAName (state_of g M.tables) r → ⊥) → reply g M (Delete r) ≡ refused 18 → ⊥
  nameless_not_18 r n e = n ((refusals.named_D r).0 e).1.1
