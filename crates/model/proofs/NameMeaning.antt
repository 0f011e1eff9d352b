-- The refusals of names, each exactly when. The statement is `NameRefusals` in specs/NameMeans.antt.
use mathlib.Core.Path.{◌≡◌, refl}
use mathlib.Core.Logic.{◌⊎◌, ◌↔◌, inl, inr}
use Prim.Native.Nat.{ℕ, ◌<◌}
use native.Mathlib.Omega.{arith}
use Rattle.answer.specs.Reply.{refused}
use Rattle.answer.proofs.Cases.{cases}
use Rattle.model.specs.Layout.{state_of}
use Rattle.model.specs.Memory.{reply}
use Rattle.model.specs.RefusalMeans.{none, also, sentences, First, Absent, HasFork, BadName, InUse, UnknownName, SecondName, RowsFull}
use Rattle.model.specs.RefusalMeans.{HasAName}
use Rattle.model.specs.Command.{Command, Delete, Estimate, Attach, Detach, Resolve}
use Rattle.model.specs.NameMeans.{Not, NameRefusals}
use Rattle.model.proofs.Keeps.{is_long}
use Rattle.model.proofs.RefusedExactly.{refused_exactly}

-- a sentence of another number is not first
passes : {m n : ℕ} {P Q : Type 0} → (m ≡ n → ⊥) → ((m ≡ n) × P) ⊎ (Not P × Q) → Not P × Q
passes d f = cases f (λ w. absurd (d w.0)) (λ w. w)

-- nor is one after it, where no later one has its number
stops : {m n : ℕ} {P Q : Type 0} → (Q → ⊥) → ((m ≡ n) × P) ⊎ (Not P × Q) → P
stops z f = cases f (λ w. w.1) (λ w. absurd (z w.1))

differs : (m n : ℕ) → (m < n) ⊎ (n < m) → m ≡ n → ⊥
differs m n o e = cases o (λ l. let z : ⊥ = omega arith in z) (λ l. let z : ⊥ = omega arith in z)

-- N: 16, 8, 17
module _ (P Q R : Type 0) where
  first_16 : First 16 (also 16 P (also 8 Q (also 17 R none))) ↔ P
  first_16 = (
    stops (λ (w : First 16 (also 8 Q (also 17 R none))).
        differs 17 16 (inr (omega arith)) (only (passes (differs 8 16 (inl (omega arith))) w).1).0),
    λ p. inl (refl, p),
  )
    where
      only : {A : Type 0} → A ⊎ ((R → ⊥) × ⊥) → A
      only f = cases f (λ a. a) (λ w. absurd w.1)

  first_8 : First 8 (also 16 P (also 8 Q (also 17 R none))) ↔ (Not P × Q)
  first_8 = (
    λ f.
        let w = passes (differs 16 8 (inr (omega arith))) f in
        (w.0, stops (λ (r : First 8 (also 17 R none)). differs 17 8 (inr (omega arith)) (only r).0) w.1),
    λ w. inr (w.0, inl (refl, w.1)),
  )
    where
      only : {A : Type 0} → A ⊎ ((R → ⊥) × ⊥) → A
      only f = cases f (λ a. a) (λ w. absurd w.1)

  first_17 : First 17 (also 16 P (also 8 Q (also 17 R none))) ↔ (Not P × (Not Q × R))
  first_17 = (
    λ f.
        let w = passes (differs 16 17 (inl (omega arith))) f in
        let v = passes (differs 8 17 (inl (omega arith))) w.1 in
        (w.0, (v.0, stops (λ z. z) v.1)),
    λ w. inr (w.0, inr (w.1.0, inl (refl, w.1.1))),
  )

-- U and M: 16, 17
module _ (P R : Type 0) where
  only_16 : First 16 (also 16 P (also 17 R none)) ↔ P
  only_16 = (
    stops (λ (w : First 16 (also 17 R none)). cases w (λ a. differs 17 16 (inr (omega arith)) a.0) (λ a. a.1)),
    λ p. inl (refl, p),
  )

  only_17 : First 17 (also 16 P (also 17 R none)) ↔ (Not P × R)
  only_17 = (
    λ f. let w = passes (differs 16 17 (inl (omega arith))) f in (w.0, stops (λ z. z) w.1),
    λ w. inr (w.0, inl (refl, w.1)),
  )

-- D and Q: 8, 10, 18
module _ (P Q R : Type 0) where
  first_18 : First 18 (also 8 P (also 10 Q (also 18 R none))) ↔ (Not P × (Not Q × R))
  first_18 = (
    λ f.
        let w = passes (differs 8 18 (inl (omega arith))) f in
        let v = passes (differs 10 18 (inl (omega arith))) w.1 in
        (w.0, (v.0, stops (λ z. z) v.1)),
    λ w. inr (w.0, inr (w.1.0, inl (refl, w.1.1))),
  )

both : {P Q R : Type 0} → P ↔ Q → Q ↔ R → P ↔ R
both a b = (λ p. b.0 (a.0 p), λ r. a.1 (b.1 r))

-- THE REFUSALS OF NAMES
pub name_refusals : NameRefusals
name_refusals g M inside long sound =
    let T = state_of g M.tables in
    let exactly : (c : Command) (n : ℕ) → (reply g M c ≡ refused n) ↔ First n (sentences g T c) =
    λ c n. refused_exactly g M c n inside (is_long g M long) sound in
    record {
      bad_N = λ l r. both (exactly (Attach l r) 16) (first_16 (BadName l) (Absent T.view r) (InUse T l ⊎ (SecondName T r ⊎ RowsFull T)));
      bad_U = λ l. both (exactly (Detach l) 16) (only_16 (BadName l) (UnknownName T l));
      bad_M = λ l. both (exactly (Resolve l) 16) (only_16 (BadName l) (UnknownName T l));
      absent = λ l r. both (exactly (Attach l r) 8) (first_8 (BadName l) (Absent T.view r) (InUse T l ⊎ (SecondName T r ⊎ RowsFull T)));
      taken = λ l r. both (exactly (Attach l r) 17) (first_17 (BadName l) (Absent T.view r) (InUse T l ⊎ (SecondName T r ⊎ RowsFull T)));
      unknown_U = λ l. both (exactly (Detach l) 17) (only_17 (BadName l) (UnknownName T l));
      unknown_M = λ l. both (exactly (Resolve l) 17) (only_17 (BadName l) (UnknownName T l));
      named_D = λ r. both (exactly (Delete r) 18) (first_18 (Absent T.view r) (HasFork T.view r) (HasAName T r));
      named_Q = λ r. both (exactly (Estimate r) 18) (first_18 (Absent T.view r) (HasFork T.view r) (HasAName T r));
    }
