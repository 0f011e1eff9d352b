-- EACH LIMIT (2.1) FROM BOTH SIDES: "arenas 1 to 16; blocks per arena 1 to 1,024, in all N = product, at most 2,048; pages 1 to 256; records in
-- the store at one time 1 to 64; turn 1 to 4,096; log words from 2 × N + 2 to 8,192". In each pair the five other numbers lie inside their limits.
use mathlib.Core.Path.{◌≡◌, refl}
use mathlib.Core.List.{[]}
use Prim.Native.Nat.{ℕ}
use Rattle.answer.specs.Reply.{accepted, refused}
use Rattle.std.specs.Prelude.{Ok, Err}
use Rattle.answer.specs.declared.Refusal.TheVariants.{OutsideLimits}
use Rattle.geometry.specs.Limits.{geometry_of, within, fits, making_of}
use Rattle.geometry.specs.Making.{making}

-- six numbers are a geometry; or they are refused, with 2
abbrev Taken : ℕ → ℕ → ℕ → ℕ → ℕ → ℕ → Type 0
Taken a b p r t w = (making_of a b p r t w ≡ Ok (geometry_of a b p r t w)) × (making a b p r t w ≡ accepted [])

abbrev TurnedAway : ℕ → ℕ → ℕ → ℕ → ℕ → ℕ → Type 0
TurnedAway a b p r t w = (making_of a b p r t w ≡ Err OutsideLimits) × (making a b p r t w ≡ refused 2)

pub record Edges : Type 0 where
  -- arenas
  pub no_arena : TurnedAway 0 4 2 4 8 100
  pub one_arena : Taken 1 4 2 4 8 100
  pub sixteen_arenas : Taken 16 4 2 4 8 200
  pub seventeen_arenas : TurnedAway 17 4 2 4 8 200
  -- blocks per arena
  pub no_block : TurnedAway 1 0 2 4 8 100
  pub one_block : Taken 1 1 2 4 8 100
  pub per_1024 : Taken 1 1024 2 4 8 4000
  pub per_1025 : TurnedAway 1 1025 2 4 8 4000
  -- blocks in all: 2 × 1,024 and 16 × 128 are 2,048, 3 × 683 is 2,049
  pub blocks_2048 : Taken 2 1024 2 4 8 8192
  pub blocks_2048_in_16 : Taken 16 128 2 4 8 8192
  pub blocks_2049 : TurnedAway 3 683 2 4 8 8192
  pub blocks_2064 : TurnedAway 16 129 2 4 8 8192
  -- pages
  pub no_page_lem : TurnedAway 1 4 0 4 8 100
  pub one_page_lem : Taken 1 4 1 4 8 100
  pub pages_256 : Taken 1 4 256 4 8 100
  pub pages_257 : TurnedAway 1 4 257 4 8 100
  -- records
  pub no_record_lem : TurnedAway 1 4 2 0 8 100
  pub one_record : Taken 1 4 2 1 8 100
  pub records_64 : Taken 1 4 2 64 8 100
  pub records_65 : TurnedAway 1 4 2 65 8 100
  -- turn
  pub no_turn : TurnedAway 1 4 2 4 0 100
  pub turn_1 : Taken 1 4 2 4 1 100
  pub turn_4096 : Taken 1 4 2 4 4096 100
  pub turn_4097 : TurnedAway 1 4 2 4 4097 100
  -- log words: for N = 6 from 14 on, for N = 2,048 from 4,098 on
  pub words_13 : TurnedAway 2 3 2 4 8 13
  pub words_14 : Taken 2 3 2 4 8 14
  pub words_8192 : Taken 1 4 2 4 8 8192
  pub words_8193 : TurnedAway 1 4 2 4 8 8193
  pub words_4097 : TurnedAway 2 1024 2 4 8 4097
  pub words_4098 : Taken 2 1024 2 4 8 4098
  -- all six at their least, and at their most
  pub least : Taken 1 1 1 1 1 4
  pub most : Taken 16 128 256 64 4096 8192

pub edges : Edges
unfolding making_of making fits within
edges = record {
  no_arena = (refl, refl);
  one_arena = (refl, refl);
  sixteen_arenas = (refl, refl);
  seventeen_arenas = (refl, refl);
  no_block = (refl, refl);
  one_block = (refl, refl);
  per_1024 = (refl, refl);
  per_1025 = (refl, refl);
  blocks_2048 = (refl, refl);
  blocks_2048_in_16 = (refl, refl);
  blocks_2049 = (refl, refl);
  blocks_2064 = (refl, refl);
  no_page_lem = (refl, refl);
  one_page_lem = (refl, refl);
  pages_256 = (refl, refl);
  pages_257 = (refl, refl);
  no_record_lem = (refl, refl);
  one_record = (refl, refl);
  records_64 = (refl, refl);
  records_65 = (refl, refl);
  no_turn = (refl, refl);
  turn_1 = (refl, refl);
  turn_4096 = (refl, refl);
  turn_4097 = (refl, refl);
  words_13 = (refl, refl);
  words_14 = (refl, refl);
  words_8192 = (refl, refl);
  words_8193 = (refl, refl);
  words_4097 = (refl, refl);
  words_4098 = (refl, refl);
  least = (refl, refl);
  most = (refl, refl);
}
