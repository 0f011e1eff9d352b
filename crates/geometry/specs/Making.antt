-- The reply that an answer of `Geometry::new` stands for: a made geometry gives no number, a refused one the refusal's.
use Rattle.std.specs.Prelude.{ℕ, not, [], ◌∷◌, Result, Ok, Err}
use Rattle.answer.specs.Reply.{Reply, accepted, refused}
use Rattle.answer.specs.Refusal.{decide}
use Rattle.answer.specs.Number.{number_of}
use Rattle.answer.specs.declared.Refusal.{Refusal}
use Rattle.geometry.specs.declared.Geometry.{Geometry}
use Rattle.geometry.specs.Limits.{geometry_of, fits}

unfoldable pub reply_of : Result Geometry Refusal → Reply
reply_of (Ok g) = accepted []
reply_of (Err r) = refused (number_of r)

-- "2: a geometry outside its limits." (7.1)
unfoldable pub making : ℕ → ℕ → ℕ → ℕ → ℕ → ℕ → Reply
making arenas per pages records turn words = decide ((2, not (fits (geometry_of arenas per pages records turn words))) ∷ []) []
