-- Hints, 1,024 bytes: for each number modulo 1,024 a link by which its record may be found. A hint is looked at before it is believed.
use Rattle.std.specs.Prelude.{List, ℕ, ◌%◌, set}

-- the record of number n was found by this link, 0 for none
unfoldable pub noted : List ℕ → ℕ → ℕ → List ℕ
noted hints n link = set hints (n % 1024) link
