-- THE NAMES OF A SOUND STORE (8.9): rows and counts agree with each other and with the records.
use Rattle.std.specs.Prelude.{◌≡◌, ℕ, suc, ◌≤◌, ◌<◌, eqb}
use Rattle.model.specs.View.{View}
use Rattle.model.specs.SoundMeans.{Live}
use Rattle.model.specs.Held.{tally}
use Rattle.model.specs.Names.{Titles, ValidName}

-- how many rows the slot s owns
unfoldable pub owned : Titles → ℕ → ℕ
owned X s = tally (λ i. eqb (X.owner i) (suc s)) 32

pub record NamesAgree (K : View) (X : Titles) (names : ℕ → ℕ) : Type 0 where
  -- a row in use names a record in the store, by a valid name
  pub live : (i s : ℕ) → i < 32 → X.owner i ≡ suc s → Live K s
  pub valid : (i s : ℕ) → i < 32 → X.owner i ≡ suc s → ValidName (X.text i)
  -- two rows in use have different names
  pub different : (i j : ℕ) → i < 32 → j < 32 → 0 < X.owner i → 0 < X.owner j → X.text i ≡ X.text j → i ≡ j
  -- "A record now carries its count of names" (1.10): the number of rows that its slot owns
  pub counted : (s : ℕ) → Live K s → names s ≡ owned X s
  -- "An open one has at most one" (1.10)
  pub open_one : (s : ℕ) → Live K s → 0 < K.is_open s → names s ≤ 1
