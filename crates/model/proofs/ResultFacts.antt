-- Blocks with their births, as numbers and as items.
use mathlib.Core.Path.{◌≡◌, refl, sym, ap, ◌∙◌}
use mathlib.Core.List.{List, [], ◌∷◌, ◌++◌, map}
use Prim.Native.Nat.{ℕ, zero, suc, ◌*◌}
use native.Mathlib.Omega.{arith}
use lib.ListN.{length}
use Rattle.answer.proofs.Cases.{cases}
use Rattle.model.specs.Lists.{In, on_page}
use Rattle.model.specs.Results.{paired, blocks_in, born, born_in, numbers_of}

-- the blocks of blocks with their births
pub blocks_in_paired : (f : ℕ → ℕ) (l : List ℕ) → blocks_in (paired f l) ≡ l
unfolding paired blocks_in
blocks_in_paired f [] = refl
blocks_in_paired f (b ∷ l) = ap (λ m. b ∷ m) (blocks_in_paired f l)

-- two numbers for each
pub paired_length : (f : ℕ → ℕ) (l : List ℕ) → length (paired f l) ≡ 2 * length l
unfolding paired
paired_length f [] = refl
paired_length f (b ∷ l) = omega (arith, paired_length f l)

pub paired_append : (f : ℕ → ℕ) (l m : List ℕ) → paired f (l ++ m) ≡ paired f l ++ paired f m
unfolding paired
paired_append f [] m = refl
paired_append f (b ∷ l) m = ap (λ k. b ∷ f b ∷ k) (paired_append f l m)

-- the same births, the same numbers
pub paired_same : (f h : ℕ → ℕ) (l : List ℕ) → ((b : ℕ) → Rattle.model.specs.Lists.In b l → f b ≡ h b) → paired f l ≡ paired h l
unfolding paired
paired_same f h [] e = refl
paired_same f h (b ∷ l) e =
    ap (λ v. b ∷ v ∷ paired f l) (e b (mathlib.Core.Logic.inl refl)) ∙
    ap (λ m. b ∷ h b ∷ m) (paired_same f h l (λ c i. e c (mathlib.Core.Logic.inr i)))

-- as items, each is a block with its birth
pub born_paired : (f : ℕ → ℕ) (l : List ℕ) → born_in (paired f l) ≡ map (λ b. born b (f b)) l
unfolding paired born_in
born_paired f [] = refl
born_paired f (b ∷ l) = ap (λ m. born b (f b) ∷ m) (born_paired f l)

-- and the numbers of such items
pub numbers_born : (f : ℕ → ℕ) (l : List ℕ) → numbers_of (map (λ b. born b (f b)) l) ≡ paired f l
unfolding numbers_of paired
numbers_born f [] = refl
numbers_born f (b ∷ l) = ap (λ m. b ∷ f b ∷ m) (numbers_born f l)

-- the block of a page
pub on_page_lem : (p b : ℕ) → In b (on_page p) → p ≡ suc b
unfolding on_page
on_page_lem zero b i = absurd i
on_page_lem (suc c) b i = cases i (λ e. ap suc (sym e)) (λ j. absurd j)
