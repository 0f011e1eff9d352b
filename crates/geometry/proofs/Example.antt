-- Of the listing (section 11 of the rules): "log words 9 for N = 4 (2) and 10 (accepted)" (2.1).
use mathlib.Core.Path.{◌≡◌, refl}
use mathlib.Core.List.{[]}
use Rattle.answer.specs.Reply.{accepted, refused}
use Rattle.geometry.specs.Limits.{within, fits}
use Rattle.geometry.specs.Making.{making}

pub nine_refused : making 1 4 2 4 8 9 ≡ refused 2
unfolding making fits within
nine_refused = refl

pub ten_accepted : making 1 4 2 4 8 10 ≡ accepted []
unfolding making fits within
ten_accepted = refl
