-- "With counter c and kind k the arena is (c + k) modulo arenas" (5.1), worked: in arenas of four blocks, all free, with each mark at the second, the block
-- chosen tells the arena.
use mathlib.Core.Path.{◌≡◌, refl}
use mathlib.Core.Bool.{true}
use Prim.Native.Nat.{ℕ, ◌+◌}
use Rattle.std.specs.Prelude.{Option}
use Rattle.choice.specs.declared.Place.{Place}
use Rattle.choice.specs.Search.{place_at, or_else, first_free, in_arena, in_arenas, chosen}

abbrev given : ℕ → ℕ → ℕ → Option Place
given arenas c k = chosen (λ b. true) (λ a. 1) arenas 4 (c + k)

pub record Examples : Type 0 where
  -- one arena: it is arena 0, whatever the kind
  pub one_0 : given 1 0 0 ≡ place_at 0 1
  pub one_1 : given 1 0 1 ≡ place_at 0 1
  pub one_2 : given 1 0 2 ≡ place_at 0 1
  -- two arenas
  pub two_0_0 : given 2 0 0 ≡ place_at 0 1
  pub two_0_1 : given 2 0 1 ≡ place_at 1 1
  pub two_0_2 : given 2 0 2 ≡ place_at 0 1
  pub two_1_0 : given 2 1 0 ≡ place_at 1 1
  pub two_1_1 : given 2 1 1 ≡ place_at 0 1
  pub two_1_2 : given 2 1 2 ≡ place_at 1 1
  -- sixteen arenas
  pub sixteen_13_2 : given 16 13 2 ≡ place_at 15 1
  pub sixteen_14_2 : given 16 14 2 ≡ place_at 0 1
  pub sixteen_15_0 : given 16 15 0 ≡ place_at 15 1
  pub sixteen_15_1 : given 16 15 1 ≡ place_at 0 1
  pub sixteen_15_2 : given 16 15 2 ≡ place_at 1 1

pub examples : Examples
unfolding or_else first_free in_arena in_arenas chosen
examples = record {
  one_0 = refl;
  one_1 = refl;
  one_2 = refl;
  two_0_0 = refl;
  two_0_1 = refl;
  two_0_2 = refl;
  two_1_0 = refl;
  two_1_1 = refl;
  two_1_2 = refl;
  sixteen_13_2 = refl;
  sixteen_14_2 = refl;
  sixteen_15_0 = refl;
  sixteen_15_1 = refl;
  sixteen_15_2 = refl;
}
