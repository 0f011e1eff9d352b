-- The test of a record's links that pairs the record with the first n slots. With the slots before its own alone, it says of all records together
-- what the model's test says: `pairs_exact` in proofs/Pairing.antt.
use Rattle.std.specs.Prelude.{ℕ, Bool, ◌&&◌, nat_le, nat_lt}
use Rattle.model.specs.Table.{all}
use Rattle.model.specs.View.{View}
use Rattle.model.specs.Check.{imp, prev?, base?, two?}

unfoldable pub linked_to? : View → ℕ → ℕ → Bool
linked_to? K n s =
    nat_le (K.num s) K.last && all n (λ t. imp (nat_lt 0 (K.num t)) (two? K s t)) && prev? K s (K.prev s) && base? K s (K.base s)
