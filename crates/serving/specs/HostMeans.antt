-- A PART SERVED FOR A HOST, refused 2, 3 or 4, each exactly when, and accepted (rule 10.7): of any numbers and any memory that is lent.
use Rattle.std.specs.Prelude.{◌≡◌, ◌↔◌, ◌⊎◌, List, [], ◌∷◌, ℕ, ◌≤◌, ◌<◌, length, get_or}
use Rattle.answer.specs.Reply.{accepted, refused}
use Rattle.geometry.specs.declared.Geometry.{Geometry}
use Rattle.geometry.specs.Limits.{Inside, geometry_of, most_tables, most_log, most_out}
use Rattle.model.specs.SoundStore.{SoundStore}
use Rattle.serving.specs.Part.{longest}
use Rattle.serving.specs.Host.{Lent, host_part, host_reply, host_left}

-- "seven numbers that say whether a store was made (0 at first) and its six numbers" (10.7)
abbrev pub StoreMade : Lent → Type 0
StoreMade H = 0 < get_or H.run 0 0

abbrev pub six : Lent → Geometry
six H = let n = get_or H.run in geometry_of (n 1 0) (n 2 0) (n 3 0) (n 4 0) (n 5 0) (n 6 0)

-- "enough for every geometry (43,008 numbers, 65,536 bytes, 4,160 numbers), and a buffer of at least 49,180 bytes for replies" (10.7)
pub record AllLent (H : Lent) : Type 0 where
  pub run : 7 ≤ length H.run
  pub tables : most_tables ≤ length H.memory.tables
  pub log : most_log ≤ length H.memory.log
  pub out : most_out ≤ length H.memory.out
  pub replies : longest ≤ length H.replies

abbrev pub SomeShort : Lent → Type 0
SomeShort H =
    (length H.run < 7) ⊎
    ((length H.memory.tables < most_tables) ⊎
    ((length H.memory.log < most_log) ⊎ ((length H.memory.out < most_out) ⊎ (length H.replies < longest))))

abbrev pub SoundLent : Lent → Type 0
SoundLent H = SoundStore (six H) H.memory.tables H.memory.log

pub record HostMeans (text : List ℕ) (at : ℕ) (H : Lent) : Type 0 where
  -- "2 if a store was made and its six numbers are outside their limits" (10.7)
  pub two : (host_reply text at H ≡ refused 2) ↔ (StoreMade H × (Inside (six H) → ⊥))
  -- "3 if anything lent is too short" (10.7)
  pub three : (host_reply text at H ≡ refused 3) ↔ ((StoreMade H → Inside (six H)) × SomeShort H)
  -- "4 if a store was made and its tables are not sound" (10.7)
  pub four : (host_reply text at H ≡ refused 4) ↔ (StoreMade H × (Inside (six H) × (AllLent H × (SoundLent H → ⊥))))
  -- "gives the new position and how many bytes of replies it put" (10.7)
  pub done : (l : List ℕ) →
      (host_reply text at H ≡ accepted l) ↔
      ((StoreMade H → Inside (six H)) ×
      (AllLent H × ((StoreMade H → SoundLent H) × (l ≡ (host_part text at H).at ∷ length (host_part text at H).replies ∷ []))))
  -- "a refusal changes nothing" (10.7)
  pub refusal : (n : ℕ) → host_reply text at H ≡ refused n → host_left text at H ≡ H

abbrev pub HostsMean : Type 0
HostsMean = (text : List ℕ) (at : ℕ) (H : Lent) → HostMeans text at H
