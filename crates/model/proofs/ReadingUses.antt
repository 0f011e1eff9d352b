-- A USE OF EACH READING LAW: on any store that obeys them, what a short script is answered tells what R answers. And the listing's store does answer so.
use mathlib.Core.Path.{◌≡◌, refl, sym, ap, ◌∙◌, subst}
use mathlib.Core.Logic.{inl, inr}
use mathlib.Core.List.{List, [], ◌∷◌, map}
use Prim.Native.Nat.{ℕ, ◌<◌}
use native.Mathlib.Omega.{arith}
use Rattle.answer.specs.Reply.{accepted, refused}
use Rattle.answer.proofs.Cases.{cases}
use Rattle.geometry.specs.declared.Geometry.{Geometry}
use Rattle.geometry.specs.Limits.{Inside}
use Rattle.model.specs.Memory.{Memory, reply, after}
use Rattle.model.specs.History.{Machine, state_from}
use Rattle.model.specs.ReadingLaws.{Shows, Changes, Seals, Touched, Opens, ReadingLaws}
use Rattle.model.specs.Demand.{Request, met_by, machine, Own, with_out, run}
use Rattle.model.specs.State.{fresh}
use Rattle.model.specs.Model.{answer, model}
use Rattle.model.specs.Command.{Command}
use Rattle.model.specs.Command.{Begin, Write, Erase, Seal, Fork, Delete, Read, Retain}
use Rattle.model.proofs.StepFacts.{fresh_fine}
use Rattle.model.proofs.ReadingFacts.{reading_laws, fine_from}
use Rattle.model.proofs.ReadingProof.{reading}
use Rattle.model.proofs.PaperExample.{small, fine, replies_to}

-- a call that does not change page x of record r, and is no S
abbrev Leaves : ℕ → ℕ → Command → Type 0
Leaves r x c = (Changes r x c → ⊥) × (Seals c → ⊥)

abbrev Spares : ℕ → ℕ → List Command → Type 0
Spares r x [] = Unit {0}
Spares r x (c ∷ cs) = Leaves r x c × Spares r x cs

-- such are F, W and E of another page, and D of another record
by_F : (q r x : ℕ) → Leaves r x (Fork q)
by_F q r x = (changed, sealed)
  where
    changed : Changes r x (Fork q) → ⊥
    changed (inl (k, e)) = let z : ◌≡◌ {A = ℕ} 0 1 = cc in omega arith
    changed (inr (inl e)) = let z : ◌≡◌ {A = ℕ} 0 1 = cc in omega arith
    changed (inr (inr e)) = let z : ◌≡◌ {A = ℕ} 0 1 = cc in omega arith

    sealed : Seals (Fork q) → ⊥
    sealed (p, e) = let z : ◌≡◌ {A = ℕ} 0 1 = cc in omega arith

by_W : (q y k r x : ℕ) → (q ≡ r → y ≡ x → ⊥) → Leaves r x (Write q y k)
by_W q y k r x n = (changed, sealed)
  where
    changed : Changes r x (Write q y k) → ⊥
    changed (inl (j, e)) = n (cc) (cc)
    changed (inr (inl e)) = let z : ◌≡◌ {A = ℕ} 0 1 = cc in omega arith
    changed (inr (inr e)) = let z : ◌≡◌ {A = ℕ} 0 1 = cc in omega arith

    sealed : Seals (Write q y k) → ⊥
    sealed (p, e) = let z : ◌≡◌ {A = ℕ} 0 1 = cc in omega arith

by_E : (q y r x : ℕ) → (q ≡ r → y ≡ x → ⊥) → Leaves r x (Erase q y)
by_E q y r x n = (changed, sealed)
  where
    changed : Changes r x (Erase q y) → ⊥
    changed (inl (j, e)) = let z : ◌≡◌ {A = ℕ} 0 1 = cc in omega arith
    changed (inr (inl e)) = n (cc) (cc)
    changed (inr (inr e)) = let z : ◌≡◌ {A = ℕ} 0 1 = cc in omega arith

    sealed : Seals (Erase q y) → ⊥
    sealed (p, e) = let z : ◌≡◌ {A = ℕ} 0 1 = cc in omega arith

by_D : (q r x : ℕ) → (q ≡ r → ⊥) → Leaves r x (Delete q)
by_D q r x n = (changed, sealed)
  where
    changed : Changes r x (Delete q) → ⊥
    changed (inl (j, e)) = let z : ◌≡◌ {A = ℕ} 0 1 = cc in omega arith
    changed (inr (inl e)) = let z : ◌≡◌ {A = ℕ} 0 1 = cc in omega arith
    changed (inr (inr e)) = n (cc)

    sealed : Seals (Delete q) → ⊥
    sealed (p, e) = let z : ◌≡◌ {A = ℕ} 0 1 = cc in omega arith

-- S changes no page: it may take the record only
by_S : (q r x : ℕ) → Changes r x (Seal q) → ⊥
by_S q r x (inl (k, e)) = let z : ◌≡◌ {A = ℕ} 0 1 = cc in omega arith
by_S q r x (inr (inl e)) = let z : ◌≡◌ {A = ℕ} 0 1 = cc in omega arith
by_S q r x (inr (inr e)) = let z : ◌≡◌ {A = ℕ} 0 1 = cc in omega arith

-- the ends of the script below
abbrev after_s : List Command
after_s = Fork 1 ∷ Erase 2 0 ∷ Write 3 1 0 ∷ Delete 2 ∷ []

spared_1 : (x : ℕ) → Spares 1 x (Fork 1 ∷ Erase 2 0 ∷ Write 3 1 0 ∷ Delete 2 ∷ [])
spared_1 x = (
  by_F 1 1 x,
  (
    by_E 2 0 1 x (λ e d. omega arith),
    (by_W 3 1 0 1 x (λ e d. omega arith), (by_D 2 1 x (λ e. omega arith), tt)),
  ),
)

spared_3_0 : Spares 3 0 (Erase 2 0 ∷ Write 3 1 0 ∷ Delete 2 ∷ [])
spared_3_0 = (by_E 2 0 3 0 (λ e d. omega arith), (by_W 3 1 0 3 0 (λ e d. omega arith), (by_D 2 3 0 (λ e. omega arith), tt)))

spared_2_0 : Spares 2 0 (Write 3 1 0 ∷ [])
spared_2_0 = (by_W 3 1 0 2 0 (λ e d. omega arith), tt)

-- a store, with some way to ask each call
module _ (M : Machine) (ask : Command → M.Asked) (asks : (c : Command) → M.call (ask c) ≡ c) (T : M.Tables) where
  -- the tables after some calls
  abbrev pub at : List Command → M.Tables
  at cs = state_from M T (map ask cs)

  -- such calls do not touch the page
  untouched : (r x : ℕ) (cs : List Command) → Spares r x cs → (U : M.Tables) → Touched M U r x (map ask cs) → ⊥
  untouched r x [] n U s = s
  untouched r x (c ∷ cs) n U s =
      cases s
      (λ w. cases w.1 (λ d. n.0.0 (subst (Changes r x) (asks c) d)) (λ d. n.0.1 (subst Seals (asks c) d.0)))
      (λ j. untouched r x cs n.1 (M.after U (ask c)) j)

  -- nor do an S after which the record is read, and such calls
  past_S : (q r x : ℕ) (l : List ℕ) (cs : List Command) → Spares r x cs → (U : M.Tables) →
      M.answer (M.after U (ask (Seal q))) (ask (Read r x)) ≡ accepted l → Touched M U r x (map ask (Seal q ∷ cs)) → ⊥
  past_S q r x l cs n U e s =
      cases s
      (λ w. cases w.1 (λ d. by_S q r x (subst (Changes r x) (asks (Seal q)) d)) (λ d. d.1.unread (ask (Read r x)) l (asks (Read r x)) e))
      (λ j. untouched r x cs n (M.after U (ask (Seal q))) j)

  -- the script is B · W 1 0 0 · S 1 · F 1 · E 2 0 · W 3 1 0 · D 2, on a store with no record yet, and what is heard of it: b and c are the blocks given
  pub record Heard (b c : ℕ) : Type 0 where
    pub begin : M.answer (at []) (ask Begin) ≡ accepted (1 ∷ [])
    pub write : M.answer (at (Begin ∷ [])) (ask (Write 1 0 0)) ≡ accepted (b ∷ 1 ∷ [])
    pub seal : M.answer (at (Begin ∷ Write 1 0 0 ∷ [])) (ask (Seal 1)) ≡ accepted (2 ∷ [])
    pub fork : M.answer (at (Begin ∷ Write 1 0 0 ∷ Seal 1 ∷ [])) (ask (Fork 1)) ≡ accepted (3 ∷ [])
    pub erase : M.answer (at (Begin ∷ Write 1 0 0 ∷ Seal 1 ∷ Fork 1 ∷ [])) (ask (Erase 2 0)) ≡ accepted []
    pub again : M.answer (at (Begin ∷ Write 1 0 0 ∷ Seal 1 ∷ Fork 1 ∷ Erase 2 0 ∷ [])) (ask (Write 3 1 0)) ≡ accepted (c ∷ 3 ∷ [])
    pub delete : M.answer (at (Begin ∷ Write 1 0 0 ∷ Seal 1 ∷ Fork 1 ∷ Erase 2 0 ∷ Write 3 1 0 ∷ [])) (ask (Delete 2)) ≡ accepted []
    -- page 0 of record 1 can be read before S and before F: whatever these two readings give
    pub first : List ℕ
    pub before_seal : M.answer (at (Begin ∷ Write 1 0 0 ∷ [])) (ask (Read 1 0)) ≡ accepted first
    pub second : List ℕ
    pub before_fork : M.answer (at (Begin ∷ Write 1 0 0 ∷ Seal 1 ∷ [])) (ask (Read 1 0)) ≡ accepted second
    -- and page 1, after S: no window took record 1
    pub other : List ℕ
    pub other_page : M.answer (at (Begin ∷ Write 1 0 0 ∷ Seal 1 ∷ [])) (ask (Read 1 1)) ≡ accepted other

  -- it obeys the laws after any calls
  module _ (P : ℕ) (laws : (cs : List Command) → ReadingLaws M P (state_from M T (map ask cs))) (pages : 1 < P) (b c : ℕ) (H : Heard b c) where
    abbrev pub whole : List Command
    whole = Begin ∷ Write 1 0 0 ∷ Seal 1 ∷ Fork 1 ∷ Erase 2 0 ∷ Write 3 1 0 ∷ Delete 2 ∷ []

    -- written: the W's block is read on its page, to the end of the script and after any more calls that do not name the page
    pub on_1 : Shows M (at whole) 1 0 (b ∷ 1 ∷ [])
    on_1 =
        (laws (Begin ∷ [])).written (ask (Write 1 0 0)) 1 0 0 b (1 ∷ []) (asks (Write 1 0 0)) H.write
        (map ask (Seal 1 ∷ Fork 1 ∷ Erase 2 0 ∷ Write 3 1 0 ∷ Delete 2 ∷ []))
        (past_S 1 1 0 H.second after_s (spared_1 0) (at (Begin ∷ Write 1 0 0 ∷ [])) H.before_fork)

    -- begun: the page that nothing was written on
    pub on_1_1 : Shows M (at whole) 1 1 []
    on_1_1 =
        (laws []).begun (ask Begin) 1 1 [] (asks Begin) H.begin pages
        (map ask (Write 1 0 0 ∷ Seal 1 ∷ Fork 1 ∷ Erase 2 0 ∷ Write 3 1 0 ∷ Delete 2 ∷ []))
        (λ s. cases s
        (λ w. untouched 1 1 (Write 1 0 0 ∷ []) (by_W 1 0 0 1 1 (λ e d. omega arith), tt) (at (Begin ∷ [])) (inl w))
        (λ j. past_S 1 1 1 H.other after_s (spared_1 1) (at (Begin ∷ Write 1 0 0 ∷ [])) H.other_page j))

    -- the two readings before S and before F gave the W's block
    first_is : H.first ≡ b ∷ 1 ∷ []
    first_is =
        ((laws (Begin ∷ [])).written (ask (Write 1 0 0)) 1 0 0 b (1 ∷ []) (asks (Write 1 0 0)) H.write [] (λ s. s)
        ).gives (ask (Read 1 0)) H.first (asks (Read 1 0)) H.before_seal

    -- stays: S 1 leaves what record 1 reads
    second_is : H.second ≡ H.first
    second_is =
        ((laws (Begin ∷ Write 1 0 0 ∷ [])).stays (ask (Read 1 0)) 1 0 H.first (asks (Read 1 0)) H.before_seal
        (map ask (Seal 1 ∷ [])) (past_S 1 1 0 H.second [] tt (at (Begin ∷ Write 1 0 0 ∷ [])) H.before_fork)
        ).gives (ask (Read 1 0)) H.second (asks (Read 1 0)) H.before_fork

    -- sealed: record 2 reads as record 1 did, until the E
    pub on_2 : (l : List ℕ) → M.answer (at (Begin ∷ Write 1 0 0 ∷ Seal 1 ∷ Fork 1 ∷ [])) (ask (Read 2 0)) ≡ accepted l → l ≡ b ∷ 1 ∷ []
    on_2 l e =
        ((laws (Begin ∷ Write 1 0 0 ∷ [])).sealed (ask (Seal 1)) (ask (Read 1 0)) 1 2 0 H.first [] (asks (Seal 1)) H.seal
        (asks (Read 1 0)) H.before_seal (map ask (Fork 1 ∷ [])) (untouched 2 0 (Fork 1 ∷ []) (by_F 1 2 0, tt) (at (Begin ∷ Write 1 0 0 ∷ Seal 1 ∷ [])))
        ).gives (ask (Read 2 0)) l (asks (Read 2 0)) e ∙ first_is

    -- erased: then nothing, while it is there
    pub on_2_erased : Shows M (at (Begin ∷ Write 1 0 0 ∷ Seal 1 ∷ Fork 1 ∷ Erase 2 0 ∷ Write 3 1 0 ∷ [])) 2 0 []
    on_2_erased =
        (laws (Begin ∷ Write 1 0 0 ∷ Seal 1 ∷ Fork 1 ∷ [])).erased (ask (Erase 2 0)) 2 0 [] (asks (Erase 2 0)) H.erase
        (map ask (Write 3 1 0 ∷ [])) (untouched 2 0 (Write 3 1 0 ∷ []) spared_2_0 (at (Begin ∷ Write 1 0 0 ∷ Seal 1 ∷ Fork 1 ∷ Erase 2 0 ∷ [])))

    -- forked: the fork reads as its base did; neither E on record 2 nor D of it changes that
    pub on_3 : (l : List ℕ) → M.answer (at whole) (ask (Read 3 0)) ≡ accepted l → l ≡ b ∷ 1 ∷ []
    on_3 l e =
        ((laws (Begin ∷ Write 1 0 0 ∷ Seal 1 ∷ [])).forked (ask (Fork 1)) (ask (Read 1 0)) 1 3 0 H.second [] (asks (Fork 1)) H.fork
        (asks (Read 1 0)) H.before_fork (map ask (Erase 2 0 ∷ Write 3 1 0 ∷ Delete 2 ∷ []))
        (untouched 3 0 (Erase 2 0 ∷ Write 3 1 0 ∷ Delete 2 ∷ []) spared_3_0 (at (Begin ∷ Write 1 0 0 ∷ Seal 1 ∷ Fork 1 ∷ [])))
        ).gives (ask (Read 3 0)) l (asks (Read 3 0)) e ∙ second_is ∙ first_is

    -- and a reading of it is not refused with 8
    pub on_3_there : M.answer (at whole) (ask (Read 3 0)) ≡ refused 8 → ⊥
    on_3_there e =
        omega (
          arith,
          ((laws (Begin ∷ Write 1 0 0 ∷ Seal 1 ∷ [])).forked (ask (Fork 1)) (ask (Read 1 0)) 1 3 0 H.second [] (asks (Fork 1)) H.fork
              (asks (Read 1 0)) H.before_fork (map ask (Erase 2 0 ∷ Write 3 1 0 ∷ Delete 2 ∷ []))
              (untouched 3 0 (Erase 2 0 ∷ Write 3 1 0 ∷ Delete 2 ∷ []) spared_3_0 (at (Begin ∷ Write 1 0 0 ∷ Seal 1 ∷ Fork 1 ∷ [])))
              ).there (ask (Read 3 0)) 8 (asks (Read 3 0)) e,
        )

    -- THE WRONG PROGRAM: a fork that opens empty is refused
    pub not_empty : M.answer (at whole) (ask (Read 3 0)) ≡ accepted [] → ⊥
    not_empty e = let d : ◌≡◌ {A = ℕ} 0 1 = ap size (on_3 [] e) in omega arith
      where
        size : List ℕ → ℕ
        size [] = 0
        size (a ∷ l) = 1

    -- gone: record 2 is read no more
    pub no_2 : (l : List ℕ) → M.answer (at whole) (ask (Read 2 0)) ≡ accepted l → ⊥
    no_2 l e =
        (laws (Begin ∷ Write 1 0 0 ∷ Seal 1 ∷ Fork 1 ∷ Erase 2 0 ∷ Write 3 1 0 ∷ [])).gone (ask (Delete 2)) 2 [] (asks (Delete 2)) H.delete
        [] (ask (Read 2 0)) 0 l (asks (Read 2 0)) e

    -- rises: whatever opens a record right after the D is given a number above those of the B, the S and the F
    pub above_3 : (d : Command) (n : ℕ) (rest : List ℕ) → Opens d → M.answer (at whole) (ask d) ≡ accepted (n ∷ rest) →
        (1 < n) × (2 < n) × (3 < n)
    above_3 d n rest o e =
        let opens = subst Opens (sym (asks d)) o in (
          (laws []).rises (ask Begin) (ask d) 1 n [] rest (map ask (Write 1 0 0 ∷ Seal 1 ∷ Fork 1 ∷ Erase 2 0 ∷ Write 3 1 0 ∷ Delete 2 ∷ []))
              (inl (asks Begin)) opens H.begin e,
          (laws (Begin ∷ Write 1 0 0 ∷ [])).rises (ask (Seal 1)) (ask d) 2 n [] rest (map ask (Fork 1 ∷ Erase 2 0 ∷ Write 3 1 0 ∷ Delete 2 ∷ []))
              (inr (inl (1, asks (Seal 1)))) opens H.seal e,
          (laws (Begin ∷ Write 1 0 0 ∷ Seal 1 ∷ [])).rises (ask (Fork 1)) (ask d) 3 n [] rest (map ask (Erase 2 0 ∷ Write 3 1 0 ∷ Delete 2 ∷ []))
              (inr (inr (1, asks (Fork 1)))) opens H.fork e,
        )

    -- unread: there was no record 1 before the B, none of number 2 before the S, none of number 3 before the F
    pub no_1_yet : (x : ℕ) (l : List ℕ) → M.answer (at []) (ask (Read 1 x)) ≡ accepted l → ⊥
    no_1_yet x l e = (laws []).unread (ask Begin) (ask (Read 1 x)) 1 x [] l (inl (asks Begin)) H.begin (asks (Read 1 x)) e

    pub no_2_yet : (x : ℕ) (l : List ℕ) → M.answer (at (Begin ∷ Write 1 0 0 ∷ [])) (ask (Read 2 x)) ≡ accepted l → ⊥
    no_2_yet x l e =
        (laws (Begin ∷ Write 1 0 0 ∷ [])).unread (ask (Seal 1)) (ask (Read 2 x)) 2 x [] l (inr (inl (1, asks (Seal 1)))) H.seal (asks (Read 2 x)) e

    pub no_3_yet : (x : ℕ) (l : List ℕ) → M.answer (at (Begin ∷ Write 1 0 0 ∷ Seal 1 ∷ [])) (ask (Read 3 x)) ≡ accepted l → ⊥
    no_3_yet x l e =
        (laws (Begin ∷ Write 1 0 0 ∷ Seal 1 ∷ [])).unread (ask (Fork 1)) (ask (Read 3 x)) 3 x [] l
        (inr (inr (1, asks (Fork 1)))) H.fork (asks (Read 3 x)) e

  -- ── with a window: the script is B · W 1 0 0 · K 1 1 · S 1 · S 2 ──

  abbrev pub sealed_once : List Command
  sealed_once = Begin ∷ Write 1 0 0 ∷ Retain 1 1 ∷ Seal 1 ∷ []

  abbrev pub sealed_twice : List Command
  sealed_twice = Begin ∷ Write 1 0 0 ∷ Retain 1 1 ∷ Seal 1 ∷ Seal 2 ∷ []

  -- what is heard: the two records are read before S 2, and record 1 is refused with 8 after it
  pub record HeardWindow (n : ℕ) (rest : List ℕ) : Type 0 where
    pub seal : M.answer (at sealed_once) (ask (Seal 2)) ≡ accepted (n ∷ rest)
    pub one : List ℕ
    pub read_1 : M.answer (at sealed_once) (ask (Read 1 0)) ≡ accepted one
    pub two : List ℕ
    pub read_2 : M.answer (at sealed_once) (ask (Read 2 0)) ≡ accepted two
    pub taken_1 : M.answer (at sealed_twice) (ask (Read 1 0)) ≡ refused 8

  module _ (P : ℕ) (laws : (cs : List Command) → ReadingLaws M P (state_from M T (map ask cs))) (n : ℕ) (rest : List ℕ) (H : HeardWindow n rest) where
    -- taken: record 1 is read no more, whatever is called
    pub never_1 : (cs : List Command) (x : ℕ) (l : List ℕ) → M.answer (state_from M (at sealed_twice) (map ask cs)) (ask (Read 1 x)) ≡ accepted l → ⊥
    never_1 cs x l e =
        (laws sealed_once).taken (ask (Seal 2)) (ask (Read 1 0)) (ask (Read 1 0)) 1 0 0 H.one (asks (Read 1 0)) H.read_1
        (asks (Read 1 0)) H.taken_1 (map ask cs) (ask (Read 1 x)) x l (asks (Read 1 x)) e

    -- kept: record 2 reads as it did, if it is there, and is refused with nothing but 8, if it is not
    pub two_kept : (l : List ℕ) → M.answer (at sealed_twice) (ask (Read 2 0)) ≡ accepted l → l ≡ H.two
    two_kept l e =
        cases ((laws sealed_once).kept (ask (Seal 2)) (ask (Read 2 0)) 2 2 0 H.two (n ∷ rest) (asks (Seal 2)) H.seal (asks (Read 2 0)) H.read_2)
        (λ s. s.gives (ask (Read 2 0)) l (asks (Read 2 0)) e)
        (λ w. absurd (w.unread (ask (Read 2 0)) l (asks (Read 2 0)) e))

    pub two_not_7 : M.answer (at sealed_twice) (ask (Read 2 0)) ≡ refused 7 → ⊥
    two_not_7 e =
        cases ((laws sealed_once).kept (ask (Seal 2)) (ask (Read 2 0)) 2 2 0 H.two (n ∷ rest) (asks (Seal 2)) H.seal (asks (Read 2 0)) H.read_2)
        (λ s. omega (arith, s.there (ask (Read 2 0)) 7 (asks (Read 2 0)) e))
        (λ w. cases (w.eight (ask (Read 2 0)) 7 (asks (Read 2 0)) e) (λ z. omega (arith, z)) (λ z. omega (arith, z)))

-- ── the listing's store is asked this script, and answers so ──

listed : Heard (model small) fine (λ c. refl) (fresh small) 0 1
unfolding replies_to
listed = record {
  begin = refl;
  write = refl;
  seal = refl;
  fork = refl;
  erase = refl;
  again = refl;
  delete = refl;
  first = 0 ∷ 1 ∷ [];
  before_seal = refl;
  second = 0 ∷ 1 ∷ [];
  before_fork = refl;
  other = [];
  other_page = refl;
}

windowed : HeardWindow (model small) fine (λ c. refl) (fresh small) 3 []
unfolding replies_to
windowed = record {
  seal = refl;
  one = 0 ∷ 1 ∷ [];
  read_1 = refl;
  two = 0 ∷ 1 ∷ [];
  read_2 = refl;
  taken_1 = refl;
}

pub inside : Inside small
inside = record {
  arenas_least = omega arith;
  arenas_most = omega arith;
  per_least = omega arith;
  per_most = omega arith;
  blocks_most = omega arith;
  pages_least = omega arith;
  pages_most = omega arith;
  records_least = omega arith;
  records_most = omega arith;
  turn_least = omega arith;
  turn_most = omega arith;
  words_least = omega arith;
  words_most = omega arith;
}

obeys : (cs : List Command) → ReadingLaws (model small) 2 (state_from (model small) (fresh small) (map fine cs))
obeys cs =
    reading_laws small inside (state_from (model small) (fresh small) (map fine cs))
    (fine_from small inside (map fine cs) (fresh small) (fresh_fine small inside))

-- so its fork reads block 0, born in record 1
pub fork_of_the_listing : (l : List ℕ) →
    let cs = Begin ∷ Write 1 0 0 ∷ Seal 1 ∷ Fork 1 ∷ Erase 2 0 ∷ Write 3 1 0 ∷ Delete 2 ∷ [] in
    answer small (state_from (model small) (fresh small) (map fine cs)) (fine (Read 3 0)) ≡ accepted l → l ≡ 0 ∷ 1 ∷ []
fork_of_the_listing = on_3 (model small) fine (λ c. refl) (fresh small) 2 obeys (omega arith) 0 1 listed

-- and record 1, which its window took, is read no more
pub taken_in_the_listing : (cs : List Command) (x : ℕ) (l : List ℕ) →
    let once = Begin ∷ Write 1 0 0 ∷ Retain 1 1 ∷ Seal 1 ∷ Seal 2 ∷ [] in
    answer small (state_from (model small) (state_from (model small) (fresh small) (map fine once)) (map fine cs)) (fine (Read 1 x)) ≡ accepted l → ⊥
taken_in_the_listing = never_1 (model small) fine (λ c. refl) (fresh small) 2 obeys 3 [] windowed

-- ── the calls as they are made ──

-- `reading`: on any tables, each call with log bytes and a buffer of its own, a deleted record answers no more
pub lent_gone : (g : Geometry) (t : List ℕ) (c : Request) (r : ℕ) (l : List ℕ) →
    c.call ≡ Delete r → reply g (met_by t c) c.call ≡ accepted l →
    (more : List Request) (v : Request) (x : ℕ) (m : List ℕ) → v.call ≡ Read r x →
    reply g (met_by (state_from (machine g) (after g (met_by t c) c.call).tables more) v) v.call ≡ accepted m → ⊥
lent_gone g t c r l = ((reading g).0 t).gone c r l

-- and on a store that keeps its own log, whatever its tables are
pub own_gone : (g : Geometry) (M : Memory) (c : Own) (r : ℕ) (l : List ℕ) → c.call ≡ Delete r →
    reply g (with_out M c.out) c.call ≡ accepted l →
    (more : List Own) (v : Own) (x : ℕ) (m : List ℕ) → v.call ≡ Read r x →
    reply g (with_out (run g (after g (with_out M c.out) c.call) more) v.out) v.call ≡ accepted m → ⊥
own_gone g M c r l = ((reading g).1 M).gone c r l
