-- What a block's bit of the free words says: the block may be given, or it is held.
use mathlib.Core.Path.{◌≡◌, refl, ap, ◌∙◌}
use mathlib.Core.Bool.{Bool, true, false, not, ◌&&◌, ◌||◌}
use mathlib.Core.List.{List}
use Prim.Native.Nat.{ℕ, ◌-◌, ◌*◌, ◌/◌, ◌%◌, ◌<◌, min}
use native.Mathlib.Omega.{arith}
use lib.Dec.{eqb}
use lib.ListN.{length, get_or, take, drop, length-drop}
use lib.Seq.{get_or-take, get_or-drop, length-take-le}
use Rattle.geometry.specs.declared.Geometry.{Geometry}
use Rattle.geometry.specs.Limits.{blocks}
use Rattle.choice.specs.Words.{free_in}
use Rattle.choice.proofs.Births.{says}
use Rattle.model.specs.Lists.{elem}
use Rattle.model.specs.State.{State, synced}
use Rattle.model.specs.Held.{on_pages, queued, held, waits, available}
use Rattle.model.specs.Layout.{free_word, view_of, state_of}
use Rattle.tables.specs.Ready.{Roomy, FreeWords}

-- the free words, as a part of the tables
abbrev pub words : List ℕ → List ℕ
words t = take 64 (drop 64 t)

-- a block that the free words keep from being given
abbrev pub kept : List ℕ → ℕ → Bool
kept l b = not (free_in l b)

-- neither of two is no more than not one or not the other
not_either : (p q : Bool) → not (p && (q && true)) ≡ (not p || not q)
not_either true true = refl
not_either true false = refl
not_either false q = refl

module _ {g : Geometry} {t : List ℕ} (roomy : Roomy g t) (free : FreeWords g t) where
  pub words_long : length (words t) ≡ 64
  words_long = length-take-le 64 (drop 64 t) (omega (arith, length-drop 64 t, roomy.room))

  word_at : (k : ℕ) → k < 64 → get_or (words t) k 0 ≡ free_word (state_of g t) k
  word_at k h = get_or-take 64 (drop 64 t) k 0 h ∙ get_or-drop 64 t k 0 ∙ free k h

  low : (b : ℕ) → b < blocks g → b / 32 < 64
  low b h = omega (arith, roomy.inside.blocks_most)

  -- b is one of the blocks that its word speaks of
  inside : (b n : ℕ) → b < n → b % 32 < min 32 (n - 32 * (b / 32))
  inside b n h = omega arith

  pub free_is : (b : ℕ) → b < blocks g → free_in (words t) b ≡ available (state_of g t) b
  unfolding free_word state_of view_of
  free_is b h = says (available (state_of g t)) (words t) _ b (word_at (b / 32) (low b h)) (inside b _ h)

  -- where no block waits, what may not be given is held
  pub kept_is : (T : State) → state_of g t ≡ synced T → (b : ℕ) → b < blocks g → kept (words t) b ≡ held T b
  unfolding held on_pages queued available waits elem
  kept_is T e b h = ap not (free_is b h ∙ ap (λ U. available U b) e) ∙ not_either (eqb (T.view.birth b) 0) (eqb (T.queue.birth b) 0)
